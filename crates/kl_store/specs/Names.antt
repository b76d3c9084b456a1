-- The names of a store, and the changes that its calls make.
use Rattle.std.specs.Prelude.{ℕ, Bool, List, [], ◌∷◌, ◌++◌, take, Option, Some, None, unwrap_or, IsSome, ⊤, nat_eq}
use Rattle.std.specs.Ordering.{nat_cmp, eq_by_cmp}
use Rattle.std.specs.Cmp.Lexicographic.{slice_cmp}
use Rattle.std.specs.List.{ends_with}
use Rattle.std.specs.FinMap.{FinMap, get, insert, remove}
use Rattle.kl_base.specs.declared.limits.TheConstants.{SCRATCH_SUFFIX}

-- the bytes that each name holds
abbrev pub Names : Type 0
Names = FinMap (slice_cmp nat_cmp) (List ℕ)

-- whether two names are one
abbrev pub same_name : List ℕ → List ℕ → Bool
same_name = eq_by_cmp (slice_cmp nat_cmp)

-- a name that ends in `.relink` is a scratch name, whose file no promise on files speaks of
abbrev pub is_scratch : List ℕ → Bool
is_scratch name = ends_with nat_eq name SCRATCH_SUFFIX

-- what one call may do to the names
pub data Change : Type 0 where
  Create : (name : List ℕ) → Change
  Append : (name bytes : List ℕ) → Change
  Rename : (name to : List ℕ) → Change
  Remove : (name : List ℕ) → Change

-- the names with this under the name: these bytes, or nothing
abbrev pub set : Names → List ℕ → Option (List ℕ) → Names
set m n None = remove m n
set m n (Some bytes) = insert m n bytes

-- the names after the change
abbrev pub carried_out : Change → Names → Names
carried_out (Create n) m = insert m n []
carried_out (Append n bytes) m = insert m n (unwrap_or (get m n) [] ++ bytes)
carried_out (Rename a b) m = set (remove m a) b (get m a)
carried_out (Remove n) m = remove m n

-- the names after all of the changes, the first of them first
abbrev pub all_carried_out : List Change → Names → Names
all_carried_out [] m = m
all_carried_out (c ∷ cs) m = all_carried_out cs (carried_out c m)

-- a rename or a removal is only made of a file that is there
abbrev pub Applies : Change → Names → Type 0
Applies (Create n) m = ⊤
Applies (Append n bytes) m = ⊤
Applies (Rename a b) m = IsSome (get m a)
Applies (Remove n) m = IsSome (get m n)

-- the part of a change that a failed call may have made: an append's first k bytes, any other change whole
abbrev pub cut : ℕ → Change → Change
cut k (Create n) = Create n
cut k (Append n bytes) = Append n (take k bytes)
cut k (Rename a b) = Rename a b
cut k (Remove n) = Remove n
