-- A file that is digested piece by piece.
use Rattle.std.proofs.Common.{◌≡◌, ◌≤◌, ◌+◌, ◌-◌, ℕ, List, [], ◌++◌, length, take, drop, refl, sym, ap, ◌∙◌, subst, arith, length-take, length-drop}
use Rattle.std.specs.Prelude.{Option, Some, None, option_map, unwrap_or}
use Rattle.std.proofs.Math.Seq.{take-add}
use Rattle.std.proofs.lemmas.List.{take_at}
use Rattle.sha2.specs.Hashers.{Holds256}
use Rattle.sha2.specs.declared.Sha256.{Sha256}
use Rattle.kl_store.specs.Calls.{Reads}

-- the hasher has had the file's first bytes
pub record IsFed (size at : ℕ) (hasher : Sha256) (file : Option (List ℕ)) : Type 0 where
  pub bytes : List ℕ
  pub there : file ≡ Some bytes
  pub size_is : size ≡ length bytes
  pub holds : Holds256 hasher (take at bytes)

pub fed_none : (size : ℕ) (hasher : Sha256) (file : Option (List ℕ)) → Some size ≡ option_map length file → Holds256 hasher [] → IsFed size 0 hasher file
fed_none size hasher None is holds = let no : ◌≡◌ {A = Option ℕ} (Some size) None = is in cc
fed_none size hasher (Some bytes) is holds = record { bytes = bytes; there = refl; size_is = same size (length bytes) is; holds = holds }
  where
    same : (a b : ℕ) → ◌≡◌ {A = Option ℕ} (Some a) (Some b) → a ≡ b
    same a b e = cc

-- with one piece more
pub fed_on : (size at n room : ℕ) (old new : Sha256) (file : Option (List ℕ)) (buf part : List ℕ) → IsFed size at old file → n ≤ size - at → Reads at n (take room buf) part file
    → ((m : List ℕ) → Holds256 old m → Holds256 new (m ++ take n part)) → IsFed size (at + n) new file
fed_on size at n room old new file buf part fed within reads more =
    let whole : unwrap_or file [] ≡ fed.bytes = ap (λ o. unwrap_or o []) fed.there in
    let front : length (take n (drop at fed.bytes)) ≡ n = omega (arith, length-take n (drop at fed.bytes), length-drop at fed.bytes, fed.size_is) in
    let piece : take n part ≡ take n (drop at fed.bytes) = ap (take n) (reads.bytes ∙ ap (λ (f : List ℕ). take n (drop at f) ++ drop n (take room buf)) whole) ∙ take_at (take n (drop at fed.bytes)) (drop n (take room buf)) n front in
    record {
      bytes = fed.bytes;
      there = fed.there;
      size_is = fed.size_is;
      holds = subst (Holds256 new) (ap (λ (l : List ℕ). take at fed.bytes ++ l) piece ∙ sym (take-add at n fed.bytes)) (more (take at fed.bytes) fed.holds);
    }
