use Rattle.std.specs.Prelude.{nat_eq, map, filter}
use Rattle.std.specs.Str.{bytes_eq}
use Rattle.kl_model.specs.Names.{holds_common, occurrences}
use Rattle.kl_model.specs.Slots.{name_of, same_target, takes_slot, takes_stub, way_of}
use Rattle.kl_model.proofs.ListWords.{once-apart}
use Rattle.kl_model.proofs.StandOnce.{commons, slots_are, stubs_are}
use Rattle.kl_model.proofs.laws.stand_once.Goals as goal

pub returns-clause-commons_apart : goal.returns-clause-commons_apart
returns-clause-commons_apart c = λ kit inputs. once-apart bytes_eq (map (λ o. o.name) (filter (holds_common kit inputs) (occurrences inputs)))

pub returns-clause-commons : goal.returns-clause-commons
returns-clause-commons c = commons

pub returns-clause-slots_apart : goal.returns-clause-slots_apart
returns-clause-slots_apart c = λ g. once-apart same_target (map (λ f. f.target) (filter (λ f. takes_slot (way_of f)) g.fields))

pub returns-clause-slots : goal.returns-clause-slots
returns-clause-slots c = slots_are

pub returns-clause-stubs_apart : goal.returns-clause-stubs_apart
returns-clause-stubs_apart c = λ g. once-apart nat_eq (map (λ f. name_of f.target) (filter (λ f. takes_stub (way_of f)) g.fields))

pub returns-clause-stubs : goal.returns-clause-stubs
returns-clause-stubs c = stubs_are
