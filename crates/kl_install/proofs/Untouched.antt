-- What an entry's rename leaves alone.
use Rattle.std.proofs.Common.{◌≡◌, ◌<◌, ℕ, zero, suc, List, [], ◌∷◌, length, get_or, sym, subst, arith}
use Rattle.std.specs.Prelude.{Bool, Result}
use Rattle.kl_store.specs.Names.{Rename}
use Rattle.kl_store.specs.Meaning.{Meaning}
use Rattle.kl_store.specs.Calls.{DoesIf}
use Rattle.kl_store.specs.Files.{KeepsNames}
use Rattle.kl_store.proofs.KeptNames.{IsOff, does_if_names}
use Rattle.kl_intent.specs.declared.intent.Entry.{Entry}
use Rattle.kl_install.specs.After.{temp_of}
use Rattle.kl_install.specs.Batch.{IsAway}

-- an entry's rename, off names that are away from all
away_at : (es : List Entry) (i : ℕ) (e : Entry) (n : List ℕ) → IsAway n es → i < length es → e ≡ get_or es i e → IsOff (Rename (temp_of e) e.target) n
away_at [] i e n away less is = absurd (omega (arith, less))
away_at (x ∷ es) zero e n away less is = subst (λ (f : Entry). IsOff (Rename (temp_of f) f.target) n) (sym is) (away.0.1, away.0.0)
away_at (x ∷ es) (suc i) e n away less is = away_at es i e n away.1 (omega arith) is

pub place_names : {E : Type 0} {a b : Meaning} {result : Result Bool E} (es : List Entry) (i : ℕ) (e : Entry) → i < length es → e ≡ get_or es i e → DoesIf (Rename (temp_of e) e.target) a b result → KeepsNames (λ n. IsAway n es) a b
place_names es i e less is does = does_if_names (Rename (temp_of e) e.target) (λ n away. away_at es i e n away less is) does
