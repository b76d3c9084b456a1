-- The first flaw of a file by those of its parts, in order.
use Rattle.std.proofs.Common.{ℕ, ◌≡◌, List, refl, sym}
use Rattle.std.specs.Prelude.{Option, Some, None}
use Rattle.std.specs.Option.{option_or}
use Rattle.kl_rel.specs.Flaws.{first_of, IsAnswer}
use Rattle.kl_rel.specs.Headers.{head_flaw, table_checks, ranges_flaw}
use Rattle.kl_rel.specs.Sections.{sections_flaw}
use Rattle.kl_rel.specs.SymbolTables.{symbol_table_checks, symbols_flaw}
use Rattle.kl_rel.specs.Relocations.{relocations_flaw}
use Rattle.kl_rel.specs.SectionGroups.{groups_flaw}
use Rattle.kl_rel.specs.Objects.{flaw}
use Rattle.kl_rel.specs.declared.fault.ReadFault.{ReadFault}
use Rattle.kl_rel.specs.declared.fault.ReadError.{ReadError}
use Rattle.kl_rel.specs.declared.fault.ReadError.TheVariants.{Flaw, NoMemory}

-- the refusal at the first part that has a flaw
answer_here : (x y : Option ReadFault) (e : ReadError) → IsAnswer x e → IsAnswer (option_or x y) e
answer_here x y (Flaw fault) is = rw is refl
answer_here x y NoMemory is = tt

pub head_answer : (b : List ℕ) (f : ReadFault) → Some f ≡ option_or (head_flaw b) (first_of (table_checks b)) → flaw b ≡ Some f
unfolding flaw
head_answer b f e = go (head_flaw b) (first_of (table_checks b)) _ e
  where
    go : (x y z : Option ReadFault) → Some f ≡ option_or x y → option_or x (option_or y z) ≡ Some f
    go (Some g) y z e = sym e
    go None (Some g) z e = sym e
    go None None z e = cc

-- what is known after the header and the table
pub record HasTable (b : List ℕ) : Type 0 where
  pub head : head_flaw b ≡ None
  pub table : first_of (table_checks b) ≡ None

pub has_table : (b : List ℕ) → None ≡ option_or (head_flaw b) (first_of (table_checks b)) → HasTable b
has_table b e = go (head_flaw b) (first_of (table_checks b)) refl refl e
  where
    go : (x y : Option ReadFault) → head_flaw b ≡ x → first_of (table_checks b) ≡ y → None ≡ option_or x y → HasTable b
    go (Some g) y ex ey e = cc
    go None (Some g) ex ey e = cc
    go None None ex ey e = record { head = ex; table = ey }

pub ranges_answer : (b : List ℕ) (f : ReadFault) → HasTable b → Some f ≡ ranges_flaw b → flaw b ≡ Some f
unfolding flaw
ranges_answer b f t e = rw (t.head, t.table, ← e) refl

pub sections_answer : (b : List ℕ) (e : ReadError) → HasTable b → None ≡ ranges_flaw b → IsAnswer (sections_flaw b) e → IsAnswer (flaw b) e
unfolding flaw
sections_answer b e t ranges is = rw (t.head, t.table, ← ranges) (answer_here (sections_flaw b) _ e is)

pub symbol_table_answer : (b : List ℕ) (f : ReadFault) → HasTable b → None ≡ ranges_flaw b → sections_flaw b ≡ None → Some f ≡ first_of (symbol_table_checks b) → flaw b ≡ Some f
unfolding flaw
symbol_table_answer b f t ranges sections e = rw (t.head, t.table, ← ranges, sections, ← e) refl

pub symbols_answer : (b : List ℕ) (e : ReadError) → HasTable b → None ≡ ranges_flaw b → sections_flaw b ≡ None → None ≡ first_of (symbol_table_checks b)
    → IsAnswer (symbols_flaw b) e → IsAnswer (flaw b) e
unfolding flaw
symbols_answer b e t ranges sections form is = rw (t.head, t.table, ← ranges, sections, ← form) (answer_here (symbols_flaw b) _ e is)

pub relocations_answer : (b : List ℕ) (e : ReadError) → HasTable b → None ≡ ranges_flaw b → sections_flaw b ≡ None → None ≡ first_of (symbol_table_checks b)
    → symbols_flaw b ≡ None → IsAnswer (relocations_flaw b) e → IsAnswer (flaw b) e
unfolding flaw
relocations_answer b e t ranges sections form symbols is = rw (t.head, t.table, ← ranges, sections, ← form, symbols) (answer_here (relocations_flaw b) _ e is)

pub groups_answer : (b : List ℕ) (e : ReadError) → HasTable b → None ≡ ranges_flaw b → sections_flaw b ≡ None → None ≡ first_of (symbol_table_checks b)
    → symbols_flaw b ≡ None → relocations_flaw b ≡ None → IsAnswer (groups_flaw b) e → IsAnswer (flaw b) e
unfolding flaw
groups_answer b e t ranges sections form symbols fields is =
    rw (t.head, t.table, ← ranges, sections, ← form, symbols, fields) (answer_here (groups_flaw b) _ e is)

pub no_flaw : (b : List ℕ) → HasTable b → None ≡ ranges_flaw b → sections_flaw b ≡ None → None ≡ first_of (symbol_table_checks b)
    → symbols_flaw b ≡ None → relocations_flaw b ≡ None → groups_flaw b ≡ None → flaw b ≡ None
unfolding flaw
no_flaw b t ranges sections form symbols fields groups = rw (t.head, t.table, ← ranges, sections, ← form, symbols, fields, groups) refl
