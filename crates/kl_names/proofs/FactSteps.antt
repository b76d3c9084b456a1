-- What the symbols of a name say with one more.
use Rattle.std.proofs.Common.{ℕ, ◌≡◌, ◌∙◌, List, [], ◌∷◌, ◌++◌, refl, ap, Bool, true, false, cond, inl, inr, ◌&&◌}
use Rattle.std.specs.Prelude.{Some, None, Option, find, filter, is_none, map, max, not, slice_get, nat_lt, ◌==◌}
use Rattle.std.specs.Str.{bytes_eq}
use Rattle.std.specs.Option.{option_or, option_map}
use Rattle.std.specs.List.{list_all}
use Rattle.std.proofs.lemmas.Bool.{cases_Bool}
use Rattle.std.proofs.lemmas.List.{append-nil}
use Rattle.std.proofs.lemmas.List.Elements.{filter-append}
use Rattle.std.proofs.lemmas.List.Folds.{find-append, list_all-append}
use Rattle.std.proofs.lemmas.List.Sums.{fold-append}
use Rattle.kl_elf.specs.declared.abi.TheConstants.{STB_GLOBAL, STB_WEAK, STV_DEFAULT}
use Rattle.kl_model.specs.Lists.{among}
use Rattle.kl_model.specs.Names.{Occurrence, is_common, is_definition, rank}
use Rattle.kl_model.specs.declared.object.Input.{Input}
use Rattle.kl_model.specs.declared.kit.Kit.{Kit}
use Rattle.kl_names.specs.Facts.{stands_at}
use Rattle.kl_names.specs.Noted.{common_among, facts_among, facts_in, noted, with_common}
use Rattle.kl_names.proofs.NameLists.{other_way, same_self, same_text}

first-push : (os : List Occurrence) (o : Occurrence) → option_map stands_at (slice_get (os ++ o ∷ []) 0) ≡ option_or (option_map stands_at (slice_get os 0)) (Some (stands_at o))
first-push [] o = refl
first-push (x ∷ os) o = refl

map_or : {X Y : Type 0} (f : X → Y) (a b : Option X) → option_map f (option_or a b) ≡ option_or (option_map f a) (option_map f b)
map_or f None b = refl
map_or f (Some x) b = refl

both_ways : (a b : Bool) → (a && b) ≡ (b && a)
both_ways true true = refl
both_ways true false = refl
both_ways false true = refl
both_ways false false = refl

find-push : (p : Occurrence → Bool) (os : List Occurrence) (o : Occurrence) (b : Bool) → p o ≡ b
    → option_map stands_at (find p (os ++ o ∷ [])) ≡ option_or (option_map stands_at (find p os)) (cond b (Some (stands_at o)) None)
find-push p os o b e = ap (option_map stands_at) (find-append p os (o ∷ [])) ∙ (map_or stands_at (find p os) (find p (o ∷ [])) ∙ ap (option_or (option_map stands_at (find p os))) (last b e))
  where
    last : (b : Bool) → p o ≡ b → option_map stands_at (find p (o ∷ [])) ≡ cond b (Some (stands_at o)) None
    last true e = rw e refl
    last false e = rw e refl

common-one : (cs : List Occurrence) (o : Occurrence) → common_among (cs ++ o ∷ []) ≡ Some (with_common (common_among cs) o.symbol)
common-one [] o = refl
common-one (c ∷ cs) o =
    rw (fold-append (λ n o. max n o.symbol.size) 0 (c ∷ cs) (o ∷ []), fold-append (λ n o. max n o.symbol.value) 1 (c ∷ cs) (o ∷ [])) refl

common-push : (os : List Occurrence) (o : Occurrence)
    → common_among (filter is_common (os ++ o ∷ [])) ≡ cond (is_common o) (Some (with_common (common_among (filter is_common os)) o.symbol)) (common_among (filter is_common os))
common-push os o = ap common_among (filter-append is_common os (o ∷ [])) ∙ elim (cases_Bool (is_common o)) [
  | inl a ↦ rw a (common-one (filter is_common os) o)
  | inr a ↦ rw a (ap common_among (append-nil (filter is_common os)))
]

all-push : (p : Occurrence → Bool) (os : List Occurrence) (o : Occurrence) → list_all p (os ++ o ∷ []) ≡ (list_all p os && p o)
all-push p os o = list_all-append p os (o ∷ []) ∙ ap (λ b. list_all p os && b) (only (p o))
  where
    only : (b : Bool) → (b && true) ≡ b
    only true = refl
    only false = refl

module _ (kit : Kit) (inputs : List Input) where
  pub facts-push : (os : List Occurrence) (o : Occurrence) → facts_among kit inputs (os ++ o ∷ []) ≡ noted (facts_among kit inputs os) o.symbol (stands_at o) (is_definition kit inputs o)
  facts-push os o =
      rw (
        first-push os o,
        find-push (λ o. (o.symbol.binding == STB_GLOBAL) && is_definition kit inputs o) os o _ (both_ways (o.symbol.binding == STB_GLOBAL) (is_definition kit inputs o)),
        find-push (λ o. (o.symbol.binding == STB_WEAK) && is_definition kit inputs o) os o _ (both_ways (o.symbol.binding == STB_WEAK) (is_definition kit inputs o)),
        common-push os o,
        fold-append (λ v o. cond (nat_lt (rank v) (rank o.symbol.visibility)) o.symbol.visibility v) STV_DEFAULT os (o ∷ []),
        all-push (λ o. o.symbol.binding == STB_WEAK) os o,
      ) refl

  -- what is said of a name with one symbol more, which may have another name
  pub facts_in-push : (os : List Occurrence) (o : Occurrence) (name : List ℕ)
      → facts_in kit inputs (os ++ o ∷ []) name ≡ cond (bytes_eq o.name name) (noted (facts_in kit inputs os name) o.symbol (stands_at o) (is_definition kit inputs o)) (facts_in kit inputs os name)
  facts_in-push os o name =
      ap (facts_among kit inputs) (filter-append (λ o. bytes_eq o.name name) os (o ∷ []))
      ∙ (elim (cases_Bool (bytes_eq o.name name)) [
        | inl a ↦ rw a (facts-push (filter (λ o. bytes_eq o.name name) os) o)
        | inr a ↦ rw a (ap (facts_among kit inputs) (append-nil (filter (λ o. bytes_eq o.name name) os)))
      ])

-- a name has commons where it is among the names of commons
pub common-stands : (os : List Occurrence) (name : List ℕ)
    → is_none (common_among (filter is_common (filter (λ o. bytes_eq o.name name) os))) ≡ not (among (map (λ o. o.name) (filter is_common os)) name)
common-stands [] name = refl
common-stands (o ∷ os) name = elim (cases_Bool (bytes_eq o.name name)) [
  | inl a ↦ elim (cases_Bool (is_common o)) [
    | inl b ↦ let back = turned a in rw (a, b, back) refl
    | inr b ↦ rw (a, b) (common-stands os name)
  ]
  | inr a ↦ elim (cases_Bool (is_common o)) [
    | inl b ↦ let back = other_way o.name name a in rw (a, b, back) (common-stands os name)
    | inr b ↦ rw (a, b) (common-stands os name)
  ]
]
  where
    turned : bytes_eq o.name name ≡ true → bytes_eq name o.name ≡ true
    turned e = let s = same_text o.name name e in rw s (same_self name)
