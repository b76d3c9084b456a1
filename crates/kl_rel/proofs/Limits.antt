-- A count that is told up to a limit.
use Rattle.std.proofs.Common.{ℕ, ◌≡◌, ◌<◌, ◌≤◌, Bool, true, false, refl}
use Rattle.std.specs.Prelude.{if◌then◌else◌, nat_le, Some, None, is_some}
use Rattle.std.proofs.lemmas.Bool.{leb-true, leb-false}

pub some_within : (n limit : ℕ) → is_some (if nat_le n limit then Some n else None) ≡ true → n ≤ limit
some_within n limit e = go (nat_le n limit) (leb-true n limit) e
  where
    go : (x : Bool) → (x ≡ true → n ≤ limit) → is_some (if x then Some n else None) ≡ true → n ≤ limit
    go true le e = le refl
    go false le e = cc

pub none_within : (n limit : ℕ) → is_some (if nat_le n limit then Some n else None) ≡ false → limit < n
none_within n limit e = go (nat_le n limit) (leb-false n limit) e
  where
    go : (x : Bool) → (x ≡ false → limit < n) → is_some (if x then Some n else None) ≡ false → limit < n
    go true lt e = cc
    go false lt e = lt refl
