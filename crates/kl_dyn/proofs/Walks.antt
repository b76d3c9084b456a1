-- A step of a look-up along a chain.
use Rattle.std.proofs.Common.{ℕ, suc, ◌≡◌, ◌+◌, ◌*◌, List, nat_eq, refl, true, false}
use Rattle.std.specs.Prelude.{Bool, Option, None, Some, cond}
use Rattle.kl_le.specs.Bytes.{num}
use Rattle.kl_model.specs.Found.{walk}
use Rattle.kl_dyn.specs.LookUp.{defined_value}

module _ (b : List ℕ) (hash symbols strings : ℕ) (name : List ℕ) where
  chosen : (d : Bool) (v : ℕ) (rest : Option ℕ) → cond d (Some v) None ≡ None → cond d (Some v) rest ≡ rest
  chosen true v rest e = cc
  chosen false v rest e = refl

  pub walk_on : (n m y : ℕ) → n ≡ suc m → nat_eq y 0 ≡ false → defined_value b symbols strings name y ≡ None
      → walk b hash symbols strings name n y ≡ walk b hash symbols strings name m (num b (hash + (8 + 4 * (num b hash 4 + y))) 4)
  walk_on n m y is some none = rw (is, some) (chosen _ _ _ none)
