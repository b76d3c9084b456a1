use Rattle.std.proofs.Common.{◌≡◌, ◌++◌, drop, map, take}
use Rattle.std.specs.Prelude.{All, None}
use Rattle.kl_model.specs.Fit.{IsFit}
use Rattle.kl_jobs.specs.Reading.{Counts, each_refusal, member_input, over}
use Rattle.kl_jobs.proofs.reading.push_members.Given as goal

abbrev pub invariant-loop-member : goal.invariant-loop-member
invariant-loop-member l = record {
  reads : l.inputs.items ≡ l.initial.inputs.items ++ map (member_input l.line.place l.bytes) (take l.member-index l.members);
  rest : each_refusal l.line.line l.initial.inputs.items (map (member_input l.line.place l.bytes) l.members) ≡ each_refusal l.line.line l.inputs.items (map (member_input l.line.place l.bytes) (drop l.member-index l.members));
  counts : Counts l.inputs.items l.totals.inputs l.totals.bytes l.totals.sections l.totals.symbols l.totals.fields;
  within : over l.inputs.items ≡ None;
  fit : All IsFit l.inputs.items;
}
