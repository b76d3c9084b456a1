-- What is made for the fields up to some place. For the contracts inside this crate alone.
use Rattle.std.specs.Prelude.{ℕ, ◌≡◌, ◌<◌, cond, not, nat_eq, Bool, false, List, ◌++◌, length, map, filter, slice_index_or, Option, Some, None}
use Rattle.std.specs.List.{list_any}
use Rattle.kl_model.specs.Lists.{once, only_if}
use Rattle.kl_model.specs.Slots.{name_of, same_target, takes_slot, takes_stub, way_of}
use Rattle.kl_model.specs.declared.graph.Field.{Field}
use Rattle.kl_model.specs.declared.graph.Target.{Target}
use Rattle.kl_got.specs.Numbered.{with_target}

-- the slots and the stubs of some fields
abbrev pub slots_of : List Field → List Target
slots_of fs = once same_target (map (λ f. f.target) (filter (λ f. takes_slot (way_of f)) fs))

abbrev pub stubs_of : List Field → List ℕ
stubs_of fs = once nat_eq (map (λ f. name_of f.target) (filter (λ f. takes_stub (way_of f)) fs))

-- the dynamic name whose stub a field takes, if it takes one
abbrev pub stub_name : Field → Option ℕ
stub_name f = cond (takes_stub (way_of f)) (Some (name_of f.target)) None

-- slots and stubs with those of one field more
abbrev pub with_slot : List Target → Field → List Target
with_slot slots f = cond (takes_slot (way_of f)) (with_target slots f.target) slots

abbrev pub with_name : List ℕ → ℕ → List ℕ
with_name names n = names ++ only_if (not (list_any (nat_eq n) names)) n

abbrev pub with_stub : List ℕ → Field → List ℕ
with_stub stubs f = cond (takes_stub (way_of f)) (with_name stubs (name_of f.target)) stubs

-- of so many names, those that have a stub are marked
pub record AreMarked (all : ℕ) (stubs : List ℕ) (marks : List Bool) : Type 0 where
  pub count : length marks ≡ all
  pub mark : (n : ℕ) → n < all → slice_index_or marks n false ≡ list_any (nat_eq n) stubs
