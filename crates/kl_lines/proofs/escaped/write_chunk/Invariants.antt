use Rattle.std.proofs.Common.{◌≡◌, ◌≤◌, ◌*◌, take}
use Rattle.kl_lines.specs.Escaped.{escaped}
use Rattle.kl_lines.proofs.escaped.write_chunk.Given as goal

-- what stands in the text so far
abbrev pub invariant-loop-byte : goal.invariant-loop-byte
invariant-loop-byte g l = record {
  text : take l.end l.text ≡ escaped (take l.byte-index l.chunk);
  end : l.end ≤ 4 * l.byte-index;
}
