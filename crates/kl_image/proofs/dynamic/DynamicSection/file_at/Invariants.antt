use Rattle.std.proofs.Common.{◌≡◌, take}
use Rattle.std.specs.Prelude.{find, None}
use Rattle.kl_model.specs.Loaded.{has_in_file}
use Rattle.kl_image.proofs.dynamic.DynamicSection.file_at.Given as goal

abbrev pub invariant-loop-segment : goal.invariant-loop-segment
invariant-loop-segment l = find (has_in_file l.address l.size) (take l.segment-index l.self.segments.now) ≡ None
