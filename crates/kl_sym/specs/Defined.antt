-- The names of a kit with what their symbols say, and where each is defined. For the contracts inside this crate alone.
use Rattle.std.specs.Prelude.{◌≡◌, List, map}
use Rattle.kl_model.specs.Names.{definition, occurrences, own_definition}
use Rattle.kl_model.specs.declared.object.Input.{Input}
use Rattle.kl_model.specs.declared.kit.Kit.{Kit}
use Rattle.kl_names.specs.Facts.{AreNotes}
use Rattle.kl_names.specs.Numbers.{AreNumbered}
use Rattle.kl_sym.specs.declared.names.DefinedNames.{DefinedNames}

pub record AreDefined (kit : Kit) (inputs : List Input) (names : DefinedNames) : Type 0 where
  pub numbered : AreNumbered (occurrences inputs) names.numbering.index names.numbering.numbers.items
  pub notes : AreNotes kit inputs names.numbering.index names.notes
  pub own : names.own.items ≡ map (own_definition kit inputs) names.numbering.index
  pub definitions : names.definitions.items ≡ map (definition kit inputs) names.numbering.index
