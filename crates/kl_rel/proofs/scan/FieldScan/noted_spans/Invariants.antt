use Rattle.std.proofs.Common.{◌≡◌, take}
use Rattle.kl_rel.specs.FieldScans.{noted_spans}
use Rattle.kl_rel.proofs.scan.FieldScan.noted_spans.Given as goal

abbrev pub invariant-loop-field : goal.invariant-loop-field
invariant-loop-field l = l.spans.items ≡ noted_spans l.self.noted.items (take l.field-index l.self.fields.items)
