-- The kernel and its record.
use Rattle.std.proofs.Common.{ℕ, zero, suc, ◌<◌, ◌⊎◌, inl, inr, List, [], ◌∷◌, ◌++◌, take, refl, sym, ap, ◌∙◌, subst, arith}
use Rattle.std.specs.FinMap.{get}
use Rattle.std.specs.Int.{byte_at, bytes_high_first}
use Rattle.std.specs.List.{AllByRecursion}
use Rattle.hex.proofs.HexLemmas.{decode_of-encode_lower}
use Rattle.hex.specs.Hex.{IsBytes, encode_lower}
use Rattle.sha2.proofs.Facts256.{length-sha256}
use Rattle.sha2.specs.Sha256.{digest_bytes, sha256}
use Rattle.kl_store.specs.Names.{Names}
use Rattle.kl_digest.specs.Records.{IsRecord, record_of}
use Rattle.kl_intent.proofs.Spelled.{digits_count}
use Rattle.kl_install.specs.After.{after}
use Rattle.kl_model.specs.declared.kit.KitKind.{KitKind}
use Rattle.kl_batch.specs.Together.{AllHold}
use Rattle.kl_batch.specs.Batches.{IsMatched, IsNoTarget, IsRight, Plan, files_for}
use Rattle.kl_batch.specs.Laws.{KeepsKernel, KernelMatches, KernelStaysMatched}
use Rattle.kl_batch.specs.declared.names.TheConstants.{KERNEL, KERNEL_RECORD}
use Rattle.kl_batch.proofs.Prefixes.{all_take}

-- a digest is made of bytes
byte_fits : (k n : ℕ) → byte_at k n < 256
byte_fits zero n = omega arith
byte_fits (suc k) n = omega arith

word_bytes : (k n : ℕ) → IsBytes (bytes_high_first k n)
word_bytes zero n i = omega arith
word_bytes (suc k) n zero = byte_fits k n
word_bytes (suc k) n (suc i) = word_bytes k n i

both_bytes : (xs ys : List ℕ) → IsBytes xs → IsBytes ys → IsBytes (xs ++ ys)
both_bytes [] ys first second i = second i
both_bytes (x ∷ xs) ys first second zero = first 0
both_bytes (x ∷ xs) ys first second (suc i) = both_bytes xs ys (λ j. first (suc j)) second i

words_bytes : (h : List ℕ) (n : ℕ) → IsBytes (digest_bytes h n)
unfolding digest_bytes
words_bytes h zero i = omega arith
words_bytes h (suc n) i = both_bytes (digest_bytes h n) _ (words_bytes h n) (word_bytes 4 _) i

bytes-sha256 : (m : List ℕ) → IsBytes (sha256 m)
unfolding sha256
bytes-sha256 m = words_bytes _ 8

-- the record of a digest names it
is_record : (bytes : List ℕ) → IsRecord (sha256 bytes) (record_of (sha256 bytes))
is_record bytes = record {
  digits = encode_lower (sha256 bytes);
  count = digits_count (sha256 bytes) (record { count = length-sha256 bytes; bytes = bytes-sha256 bytes });
  value = decode_of-encode_lower (sha256 bytes) (bytes-sha256 bytes);
  text = inr refl;
}

pub kernel_matches : KernelMatches
kernel_matches x p kernel right =
    let held = subst (λ (k : KitKind). AllHold x (files_for k p right.image right.text)) kernel.kind right.held in
    record {
      image = right.image;
      text = record_of (sha256 right.image);
      kernel = ap (get x) (sym kernel.output) ∙ held.0;
      record_held = held.1.0;
      names = is_record right.image;
    }

-- one of these batches installs a kernel, or each leaves the kernel and its record alone
matched_or_left : (x : Names) (done : List Plan) → AllByRecursion KeepsKernel done → AllByRecursion (IsRight x) done
    → IsMatched x ⊎ (AllByRecursion (IsNoTarget KERNEL) done × AllByRecursion (IsNoTarget KERNEL_RECORD) done)
matched_or_left x [] keep right = inr (tt, tt)
matched_or_left x (p ∷ ps) keep right = elim keep.0 [
  | inl kernel ↦ inl (kernel_matches x p kernel right.0)
  | inr left ↦ elim (matched_or_left x ps keep.1 right.1) [
    | inl matched ↦ inl matched
    | inr rest ↦ inr ((left.0, rest.0), (left.1, rest.1))
  ]
]

pub stays_matched : KernelStaysMatched
stays_matched slot plans m x keep matched may =
    elim (matched_or_left (after slot x) (take may.count plans) (all_take KeepsKernel may.count plans keep) may.reached.right) [
      | inl now ↦ now
      | inr left ↦ record {
        image = matched.image;
        text = matched.text;
        kernel = may.reached.others KERNEL refl left.0 ∙ matched.kernel;
        record_held = may.reached.others KERNEL_RECORD refl left.1 ∙ matched.record_held;
        names = matched.names;
      }
    ]
