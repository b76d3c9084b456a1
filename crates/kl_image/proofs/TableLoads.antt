-- The tables of a shared object without a flaw.
use Rattle.std.proofs.Common.{ℕ, suc, ◌≡◌, ◌+◌, ◌*◌, ◌%◌, ◌<◌, ◌&&◌, Bool, true, false, not, List, [], ◌∷◌, length, get_or, take, refl, sym, arith, eqb-true, ne_eqb}
use Rattle.std.specs.Prelude.{◌==◌, find, is_some, is_none, Option, Some, None}
use Rattle.std.specs.List.{list_any}
use Rattle.std.proofs.lemmas.Bool.{or_parts, not-false}
use Rattle.kl_elf.specs.declared.records.Dyn.{Dyn}
use Rattle.kl_elf.specs.declared.records.Phdr.{Phdr}
use Rattle.kl_model.specs.Loaded.{dyn_entry, dynamics, file_at}
use Rattle.kl_model.proofs.Each.{none_left}
use Rattle.kl_image.specs.Dynamic.{dynamic_header, entry_flaws, has_tag, is_relocations, is_wrong_entry, is_wrong_table, section_flaws, table_flaws, table_size}
use Rattle.kl_image.specs.Loadable.{HasTables}
use Rattle.kl_image.specs.declared.fault.ImageFault.TheVariants.{Tables}
use Rattle.kl_image.proofs.FlawLists.{none_at, not_told}
use Rattle.kl_image.proofs.EntryFlaws.{told}

-- the first entry with a tag: its place, before which none has it
record IsFirstAt (tag : ℕ) (ds : List Dyn) (d : Dyn) : Type 0 where
  place : ℕ
  inside : place < length ds
  is : get_or ds place d ≡ d
  has : d.tag ≡ tag
  first : list_any (has_tag tag) (take place ds) ≡ false

first_at : (tag : ℕ) (ds : List Dyn) (d : Dyn) → find (has_tag tag) ds ≡ Some d → IsFirstAt tag ds d
first_at tag [] d e = cc
first_at tag (x ∷ ds) d e = go (has_tag tag x) refl (λ more. first_at tag ds d more)
  where
    go : (t : Bool) → has_tag tag x ≡ t → (find (has_tag tag) ds ≡ Some d → IsFirstAt tag ds d) → IsFirstAt tag (x ∷ ds) d
    go true is rest =
        let same : Some x ≡ Some d = rw is at e in
        let equal : x ≡ d = cc in
        record { place = 0; inside = omega arith; is = equal; has = rw equal at (eqb-true x.tag tag is); first = refl }
    go false is rest =
        let more = rest (rw is at e) in
        record { place = suc more.place; inside = omega (arith, more.inside); is = more.is; has = more.has; first = rw is more.first }

same_tag : (t u : ℕ) (ds : List Dyn) → t ≡ u → list_any (has_tag u) ds ≡ false → list_any (has_tag t) ds ≡ false
same_tag t u ds same none = rw same none

-- it isn't wrong
right_entry : (b : List ℕ) (at tag : ℕ) (d : Dyn) → entry_flaws b at ≡ [] → dyn_entry b tag ≡ Some d → is_wrong_entry b d ≡ false
unfolding entry_flaws
right_entry b at tag d none is =
    let one = first_at tag (dynamics b) d is in
    let flaw = none_at (told b at (dynamics b)) (dynamics b) one.place d none one.inside in
    let same = rw one.is at flaw in
    let first = same_tag d.tag tag (take one.place (dynamics b)) one.has one.first in
    let stands = not_told (not (list_any (has_tag d.tag) (take one.place (dynamics b))) && is_wrong_entry b d) (Tables (at + 16 * one.place)) same in
    rw first at stands

has_tables : (b : List ℕ) (at : ℕ) → entry_flaws b at ≡ [] → HasTables b
has_tables b at none = record {
  in_file = λ tag size d is long some. in_file tag size d is long some;
  whole = λ tag size d is long relocations. whole tag size d is long relocations;
}
  where
    parts : (tag size : ℕ) (d : Dyn) → dyn_entry b tag ≡ Some d → table_size b tag ≡ Some size → is_wrong_table b d size ≡ false
    parts tag size d is long =
        let one = first_at tag (dynamics b) d is in
        let wrong = right_entry b at tag d none is in
        let its : table_size b d.tag ≡ Some size = rw one.has long in
        rw its at wrong

    in_file : (tag size : ℕ) (d : Dyn) → dyn_entry b tag ≡ Some d → table_size b tag ≡ Some size → 0 < size → is_some (file_at b d.value size) ≡ true
    in_file tag size d is long some =
        let right = (or_parts (not (size == 0) && is_none (file_at b d.value size)) (is_relocations d.tag && not (size % 24 == 0)) (parts tag size d is long)).0 in
        let full : (size == 0) ≡ false = ne_eqb size 0 (λ z. omega (arith, z)) in
        let found : is_none (file_at b d.value size) ≡ false = rw full at right in
        go (file_at b d.value size) found
      where
        go : (o : Option ℕ) → is_none o ≡ false → is_some o ≡ true
        go (Some x) e = refl
        go None e = sym e

    whole : (tag size : ℕ) (d : Dyn) → dyn_entry b tag ≡ Some d → table_size b tag ≡ Some size → is_relocations tag ≡ true → size % 24 ≡ 0
    whole tag size d is long relocations =
        let one = first_at tag (dynamics b) d is in
        let right = (or_parts (not (size == 0) && is_none (file_at b d.value size)) (is_relocations d.tag && not (size % 24 == 0)) (parts tag size d is long)).1 in
        let its : is_relocations d.tag ≡ true = rw one.has relocations in
        let even : not (size % 24 == 0) ≡ false = rw its at right in
        eqb-true (size % 24) 0 (not-false (size % 24 == 0) even)

-- a shared object
pub tables_load : (b : List ℕ) → table_flaws b ≡ [] → HasTables b
unfolding table_flaws
tables_load b none = go (dynamic_header b) refl
  where
    go : (o : Option Phdr) → dynamic_header b ≡ o → HasTables b
    go None e = let bad : Tables 32 ∷ [] ≡ [] = rw e at none in cc
    go (Some s) e = let all : section_flaws b s ≡ [] = rw e at none in has_tables b s.offset (none_left (entry_flaws b s.offset) _ all)
