-- The rows of the dynamic section, in order.
use Rattle.std.proofs.Common.{ℕ, suc, ◌≡◌, ◌+◌, ◌<◌, ◌∙◌, List, [], ◌∷◌, ◌++◌, length, get_or, map, take, refl, ap, arith, append_assoc, Bool, true, false}
use Rattle.std.specs.Prelude.{◌==◌, if◌then◌else◌, is_some, sum_by}
use Rattle.std.proofs.lemmas.List.{map-append, take_more}
use Rattle.std.proofs.lemmas.List.Sums.{sum_by-cons}
use Rattle.kl_elf.specs.declared.abi.TheConstants.{DT_FINI, DT_FINI_ARRAY, DT_FINI_ARRAYSZ, DT_FLAGS, DT_HASH, DT_INIT, DT_INIT_ARRAY, DT_INIT_ARRAYSZ, DT_JMPREL, DT_NEEDED, DT_NULL, DT_PLTGOT, DT_PLTREL, DT_PLTRELSZ, DT_RELA, DT_RELAENT, DT_RELASZ, DT_SONAME, DT_STRSZ, DT_STRTAB, DT_SYMENT, DT_SYMTAB}
use Rattle.kl_elf.specs.declared.records.Dyn.{Dyn}
use Rattle.kl_model.specs.Lists.{only_if}
use Rattle.kl_model.specs.Sizes.{ended_size, has_bytes, tags}
use Rattle.kl_model.specs.Slots.{jump_entries, rela_entries}
use Rattle.kl_model.specs.declared.area.TheConstants as area
use Rattle.kl_model.specs.Tables.{needed_from, tag_value}
use Rattle.kl_model.specs.declared.graph.Graph.{Graph}
use Rattle.kl_model.specs.declared.kit.Kit.{Kit}
use Rattle.kl_model.specs.declared.place.Placement.{Placement}
use Rattle.kl_dyn.specs.Rows.{function_tags, rows, table_tags}

pub row_is : (d : Dyn) (tag value : ℕ) → d.tag ≡ tag → d.value ≡ value → d ≡ record { tag = tag; value = value }
row_is d tag value t v = λ i. record { tag = t i; value = v i }

-- THE NEEDED LIBRARIES
needed_push : (at : ℕ) (ts : List (List ℕ)) (t : List ℕ) → needed_from at (ts ++ t ∷ []) ≡ needed_from at ts ++ record { tag = DT_NEEDED; value = at + sum_by ended_size ts } ∷ []
needed_push at [] t = let z : at + 0 ≡ at = omega arith in rw z refl
needed_push at (x ∷ xs) t =
    let z : at + sum_by ended_size (x ∷ xs) ≡ suc (at + length x) + sum_by ended_size xs = omega (arith, sum_by-cons ended_size x xs) in
    rw z (ap (λ (l : List Dyn). record { tag = DT_NEEDED; value = at } ∷ l) (needed_push (suc (at + length x)) xs t))

pub needed_more : (at : ℕ) (ts : List (List ℕ)) (i : ℕ) → i < length ts
    → needed_from at (take (i + 1) ts) ≡ needed_from at (take i ts) ++ record { tag = DT_NEEDED; value = at + sum_by ended_size (take i ts) } ∷ []
needed_more at ts i h = ap (needed_from at) (take_more ts i [] h) ∙ needed_push at (take i ts) (get_or ts i [])

-- FOUR PARTS, PUSHED ONE AFTER ANOTHER
pub pushed_four : {X : Type 0} (old a b c d : List X) (first second third fourth : List X)
    → first ≡ old ++ a → second ≡ first ++ b → third ≡ second ++ c → fourth ≡ third ++ d → fourth ≡ old ++ (a ++ (b ++ (c ++ d)))
pushed_four old a b c d first second third fourth one two three four =
    four
    ∙ (ap (λ l. l ++ d) (three ∙ ap (λ l. l ++ c) (two ∙ ap (λ l. l ++ b) one))
    ∙ (append_assoc ((old ++ a) ++ b) c d ∙ (append_assoc (old ++ a) b (c ++ d) ∙ append_assoc old a (b ++ (c ++ d)))))

pub pushed_five : {X : Type 0} (a b c d e : List X) (first second third fourth fifth : List X)
    → first ≡ a → second ≡ first ++ b → third ≡ second ++ c → fourth ≡ third ++ d → fifth ≡ fourth ++ e → fifth ≡ a ++ (b ++ (c ++ (d ++ e)))
pushed_five a b c d e first second third fourth fifth one two three four five =
    pushed_four first b c d e second third fourth fifth two three four five ∙ ap (λ l. l ++ (b ++ (c ++ (d ++ e)))) one

map_four : {X Y : Type 0} (f : X → Y) (a b c d : List X) → map f (a ++ (b ++ (c ++ d))) ≡ map f a ++ (map f b ++ (map f c ++ map f d))
map_four f a b c d =
    map-append f a (b ++ (c ++ d)) ∙ ap (λ l. map f a ++ l) (map-append f b (c ++ d) ∙ ap (λ l. map f b ++ l) (map-append f c d))

regroup : {X : Type 0} (s i f a b t r j e : List X) → s ++ (i ++ (f ++ (a ++ (b ++ (t ++ (r ++ (j ++ e))))))) ≡ s ++ ((i ++ (f ++ (a ++ b))) ++ ((t ++ (r ++ j)) ++ e))
regroup s i f a b t r j e =
    let z = (t ++ (r ++ j)) ++ e in
    rw (append_assoc i (f ++ (a ++ b)) z, append_assoc f (a ++ b) z, append_assoc a b z, append_assoc t (r ++ j) e, append_assoc r j e) refl

module _ (kit : Kit) (g : Graph) (p : Placement) where
  abbrev row_of : ℕ → Dyn
  row_of tag = record { tag = tag; value = tag_value kit g p tag }

  -- rows that are wanted
  pub wanted : (b w : Bool) → b ≡ w → (ds : List Dyn) (ts : List ℕ) → ds ≡ rows kit g p ts → (if b then ds else []) ≡ rows kit g p (if w then ts else [])
  wanted true w e ds ts same = rw (← e) same
  wanted false w e ds ts same = rw (← e) refl

  pub one_row : (r : Dyn) (tag : ℕ) → r.tag ≡ tag → r.value ≡ tag_value kit g p tag → r ∷ [] ≡ rows kit g p (tag ∷ [])
  one_row r tag t v = ap (λ (r : Dyn). r ∷ []) (row_is r tag (tag_value kit g p tag) t v)

  pub two_rows : (r q : Dyn) (one two : ℕ) → r.tag ≡ one → r.value ≡ tag_value kit g p one → q.tag ≡ two → q.value ≡ tag_value kit g p two → r ∷ q ∷ [] ≡ rows kit g p (one ∷ two ∷ [])
  two_rows r q one two t v u w = ap (λ (r : Dyn). r ∷ q ∷ []) (row_is r one (tag_value kit g p one) t v) ∙ ap (λ (l : List Dyn). row_of one ∷ l) (one_row q two u w)

  pub functions : (a b c d : List ℕ) → rows kit g p (a ++ (b ++ (c ++ d))) ≡ rows kit g p a ++ (rows kit g p b ++ (rows kit g p c ++ rows kit g p d))
  functions a b c d = map_four row_of a b c d

  -- the tags in order
  pub rows_of_tags : rows kit g p (tags kit g)
      ≡ rows kit g p (only_if (is_some kit.soname) DT_SONAME) ++ (rows kit g p (function_tags g) ++ (rows kit g p (table_tags g) ++ rows kit g p (DT_FLAGS ∷ DT_NULL ∷ [])))
  rows_of_tags =
      ap (map row_of)
      (regroup (only_if (is_some kit.soname) DT_SONAME) (only_if (has_bytes g area.INIT) DT_INIT) (only_if (has_bytes g area.FINI) DT_FINI)
      (if has_bytes g area.INIT_ARRAY then DT_INIT_ARRAY ∷ DT_INIT_ARRAYSZ ∷ [] else [])
      (if has_bytes g area.FINI_ARRAY then DT_FINI_ARRAY ∷ DT_FINI_ARRAYSZ ∷ [] else [])
      (DT_HASH ∷ DT_STRTAB ∷ DT_SYMTAB ∷ DT_STRSZ ∷ DT_SYMENT ∷ [])
      (if length (rela_entries g) == 0 then [] else DT_RELA ∷ DT_RELASZ ∷ DT_RELAENT ∷ [])
      (if length (jump_entries g) == 0 then [] else DT_JMPREL ∷ DT_PLTRELSZ ∷ DT_PLTREL ∷ DT_PLTGOT ∷ [])
      (DT_FLAGS ∷ DT_NULL ∷ []))
      ∙ map_four row_of (only_if (is_some kit.soname) DT_SONAME) (function_tags g) (table_tags g) (DT_FLAGS ∷ DT_NULL ∷ [])
