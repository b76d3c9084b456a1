use Rattle.std.proofs.Common.{◌≡◌, ◌++◌, take}
use Rattle.std.specs.Prelude.{flat_map}
use Rattle.kl_model.specs.Written.{shdr_bytes}
use Rattle.kl_draw.proofs.record.push_sections.Given as goal

abbrev pub invariant-loop-section : goal.invariant-loop-section
invariant-loop-section l = l.file.items ≡ l.fn.file.items ++ flat_map shdr_bytes (take l.section-index l.sections)
