use Rattle.std.proofs.Common.{◌≡◌, ◌≤◌, [], drop, take}
use Rattle.std.specs.Prelude.{All, AllPairs, None}
use Rattle.std.specs.Option.{ForSome}
use Rattle.kl_store.specs.Calls.{Stays}
use Rattle.kl_model.specs.Fit.{IsFit}
use Rattle.kl_jobs.specs.Reading.{Counts, inputs_in, lines_refusal, over}
use Rattle.kl_jobs.proofs.KitLines.{ComeBefore, Follows, InputFollows}
use Rattle.kl_jobs.proofs.reading.read_inputs.Given as goal

abbrev pub invariant-loop-line : goal.invariant-loop-line
invariant-loop-line g l = record {
  reads : ForSome (g.S.Store.meaning l.initial.store).names (λ m. l.inputs.items ≡ inputs_in m l.dir (take l.line-index l.lines));
  rest : ForSome (g.S.Store.meaning l.initial.store).names (λ m. lines_refusal m l.dir [] l.lines ≡ lines_refusal m l.dir l.inputs.items (drop l.line-index l.lines));
  counts : Counts l.inputs.items l.totals.inputs l.totals.bytes l.totals.sections l.totals.symbols l.totals.fields;
  within : over l.inputs.items ≡ None;
  fit : All IsFit l.inputs.items;
  follow : AllPairs Follows l.lines → AllPairs InputFollows l.inputs.items;
  before : AllPairs Follows l.lines → ComeBefore l.lines l.line-index l.inputs.items;
  still : Stays (g.S.Store.meaning l.initial.store) (g.S.Store.meaning l.store);
  faults : g.S.Store.faults l.initial.store ≤ g.S.Store.faults l.store;
}
