use Rattle.std.proofs.Common.{◌≡◌, ◌*◌, take}
use Rattle.kl_le.specs.Bytes.{ChangesWithin}
use Rattle.kl_elf.specs.Records.{phdrs_from}
use Rattle.kl_elf.proofs.image.write_headers.Given as goal

abbrev pub invariant-loop-i : goal.invariant-loop-i
invariant-loop-i l = record {
  done : phdrs_from l.image 64 l.i ≡ take l.i l.segments;
  rest : ChangesWithin l.initial.image l.image 64 (56 * l.i);
}
