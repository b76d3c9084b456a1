-- What is answered of a file that may have so many relocation entries.
use Rattle.std.specs.Prelude.{ℕ, ◌<◌, ◌^◌, ◌≡◌, length, Option, Some, None}
use Rattle.kl_model.specs.declared.object.Object.{Object}
use Rattle.kl_rel.specs.declared.fault.ReadFault.{ReadFault}
use Rattle.kl_rel.specs.declared.fault.ReadError.{ReadError}
use Rattle.kl_rel.specs.declared.fault.ReadError.TheVariants as read
use Rattle.kl_rel.specs.declared.fault.LimitError.{LimitError}
use Rattle.kl_rel.specs.declared.fault.LimitError.TheVariants.{Flaw, TooManyFields, NoMemory}

-- the counts of an object's sections and symbols, which are lengths of lists in memory
pub record AreCounts (x : Object) (sections symbols : ℕ) : Type 0 where
  pub sections_are : sections ≡ length x.sections
  pub symbols_are : symbols ≡ length x.symbols
  pub sections_short : sections < 2 ^ 63
  pub symbols_short : symbols < 2 ^ 63

-- a refusal is this flaw; or that there is none, but more entries than the limit, with the object's counts of sections and symbols; or
-- want of memory
abbrev pub IsAnswerWithin : Option ReadFault → Object → ℕ → LimitError → Type 0
IsAnswerWithin found x limit (Flaw fault) = found ≡ Some fault
IsAnswerWithin found x limit (TooManyFields sections symbols) = (found ≡ None) × ((limit < length x.fields) × AreCounts x sections symbols)
IsAnswerWithin found x limit NoMemory = Unit {0}

-- a refusal without a limit is one with any
abbrev pub limit_error : ReadError → LimitError
limit_error (read.Flaw fault) = Flaw fault
limit_error read.NoMemory = NoMemory
