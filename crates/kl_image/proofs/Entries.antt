-- The entries of a dynamic section, up to the first DT_NULL.
use Rattle.std.proofs.Common.{ℕ, zero, suc, ◌≡◌, ◌+◌, ◌*◌, ◌<◌, ◌≤◌, Bool, true, false, List, [], ◌∷◌, ◌++◌, length, refl, ap, arith}
use Rattle.std.specs.Prelude.{◌==◌}
use Rattle.kl_elf.specs.Records.{dyn_at}
use Rattle.kl_elf.specs.declared.abi.TheConstants.{DT_NULL}
use Rattle.kl_model.specs.Loaded.{dyns_from}

-- where the first i entries are none of DT_NULL, and the next is none either, they are one more
pub dyns_more : (b : List ℕ) (at i : ℕ) → length (dyns_from b at i) ≡ i → ((dyn_at b (at + 16 * i)).tag == DT_NULL) ≡ false
    → dyns_from b at (i + 1) ≡ dyns_from b at i ++ dyn_at b (at + 16 * i) ∷ []
dyns_more b at zero long some = let e : at + 16 * zero ≡ at = omega arith in rw e (let here = rw e at some in rw here refl)
dyns_more b at (suc i) long some = go ((dyn_at b at).tag == DT_NULL) refl (λ l s. dyns_more b (at + 16) i l s)
  where
    go : (x : Bool) → ((dyn_at b at).tag == DT_NULL) ≡ x
        → (length (dyns_from b (at + 16) i) ≡ i → ((dyn_at b (at + 16 + 16 * i)).tag == DT_NULL) ≡ false
        → dyns_from b (at + 16) (i + 1) ≡ dyns_from b (at + 16) i ++ dyn_at b (at + 16 + 16 * i) ∷ [])
        → dyns_from b at (suc i + 1) ≡ dyns_from b at (suc i) ++ dyn_at b (at + 16 * suc i) ∷ []
    go true is rest = let bad : 0 ≡ suc i = rw is at long in absurd (omega (arith, bad))
    go false is rest =
        let e : at + 16 * suc i ≡ at + 16 + 16 * i = omega arith in
        let more : suc (length (dyns_from b (at + 16) i)) ≡ suc i = rw is at long in
        let next = rest (omega (arith, more)) (rw e at some) in
        let longer : suc i + 1 ≡ suc (i + 1) = omega arith in
        rw (longer, is, e) (ap (λ ds. dyn_at b at ∷ ds) next)

-- and where the next is, there are no more
pub dyns_end : (b : List ℕ) (at i n : ℕ) → length (dyns_from b at i) ≡ i → i < n → ((dyn_at b (at + 16 * i)).tag == DT_NULL) ≡ true
    → dyns_from b at n ≡ dyns_from b at i
dyns_end b at i zero long h end = absurd (omega arith)
dyns_end b at zero (suc n) long h end = let e : at + 16 * zero ≡ at = omega arith in let here = rw e at end in rw here refl
dyns_end b at (suc i) (suc n) long h end = go ((dyn_at b at).tag == DT_NULL) refl (λ l e. dyns_end b (at + 16) i n l (omega arith) e)
  where
    go : (x : Bool) → ((dyn_at b at).tag == DT_NULL) ≡ x
        → (length (dyns_from b (at + 16) i) ≡ i → ((dyn_at b (at + 16 + 16 * i)).tag == DT_NULL) ≡ true
        → dyns_from b (at + 16) n ≡ dyns_from b (at + 16) i)
        → dyns_from b at (suc n) ≡ dyns_from b at (suc i)
    go true is rest = rw is refl
    go false is rest =
        let e : at + 16 * suc i ≡ at + 16 + 16 * i = omega arith in
        let more : suc (length (dyns_from b (at + 16) i)) ≡ suc i = rw is at long in
        rw is (ap (λ ds. dyn_at b at ∷ ds) (rest (omega (arith, more)) (rw e at end)))

-- they are no more than there is room for
pub dyns_few : (b : List ℕ) (at n : ℕ) → length (dyns_from b at n) ≤ n
dyns_few b at zero = omega arith
dyns_few b at (suc n) = go ((dyn_at b at).tag == DT_NULL) refl (dyns_few b (at + 16) n)
  where
    go : (x : Bool) → ((dyn_at b at).tag == DT_NULL) ≡ x → length (dyns_from b (at + 16) n) ≤ n → length (dyns_from b at (suc n)) ≤ suc n
    go true is few = rw is (omega arith)
    go false is few = rw is (omega (arith, few))
