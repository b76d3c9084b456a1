-- The kernel and its record, and what refuses the kernel's job before its kit is read.
use Rattle.std.proofs.Common.{◌≡◌, ℕ, List, [], ◌∷◌, ◌++◌, length, take, drop, refl, sym, ap, ◌∙◌, subst, inl, inr, ◌⊎◌, false}
use Rattle.std.specs.Prelude.{Option, Some, None, is_some}
use Rattle.std.specs.Option.{option_map, option_or}
use Rattle.std.specs.FinMap.{get}
use Rattle.std.proofs.lemmas.List.{append-nil}
use Rattle.std.proofs.Math.Seq.{drop-append_seam, take-append_seam}
use Rattle.hex.specs.Hex.{decode_of}
use Rattle.sha2.specs.Sha256.{sha256}
use Rattle.kl_base.specs.declared.class.Slot.TheVariants as slot
use Rattle.kl_batch.specs.Batches.{IsMatched}
use Rattle.kl_batch.specs.declared.names.TheConstants.{KERNEL, KERNEL_RECORD}
use Rattle.kl_digest.specs.Records.{IsRecord, record_prefix}
use Rattle.kl_install.specs.After.{digest_at}
use Rattle.kl_store.specs.Names.{Names}
use Rattle.kl_jobs.specs.Reading.{held}
use Rattle.kl_jobs.specs.Start.{Records, digest_named, kernel_refusal, mismatch, pending_refusal, record_refusal, value_of}
use Rattle.kl_jobs.specs.declared.cause.Cause.{Cause}

-- a record names one digest, which its digits give
digits_in : (text digits rest : List ℕ) → length digits ≡ 64 → text ≡ record_prefix ++ digits ++ rest → take 64 (drop 16 text) ≡ digits
digits_in text digits rest count is =
    ap (λ (t : List ℕ). take 64 (drop 16 t)) is ∙ ap (take 64) (drop-append_seam record_prefix (digits ++ rest)) ∙ ap (λ k. take k (digits ++ rest)) (sym count)
    ∙ take-append_seam digits rest

record_digits : (digest text : List ℕ) (is : IsRecord digest text) → take 64 (drop 16 text) ≡ is.digits
record_digits digest text is = ends is.text
  where
    ends : (text ≡ record_prefix ++ is.digits) ⊎ (text ≡ record_prefix ++ is.digits ++ 10 ∷ []) → take 64 (drop 16 text) ≡ is.digits
    ends (inl plain) = digits_in text is.digits [] is.count (plain ∙ ap (λ (l : List ℕ). record_prefix ++ l) (sym (append-nil is.digits)))
    ends (inr line) = digits_in text is.digits (10 ∷ []) is.count line

named : (digest text : List ℕ) → IsRecord digest text → digest_named text ≡ digest
named digest text is = ap (λ (l : List ℕ). value_of (decode_of l)) (record_digits digest text is) ∙ ap value_of is.value

pub recorded_named : (digest : List ℕ) (file : Option (List ℕ)) (recorded : Records digest file) (m : Names) → get m KERNEL_RECORD ≡ file → digest_named (held m KERNEL_RECORD) ≡ digest
recorded_named digest file recorded m is =
    let text_is : held m KERNEL_RECORD ≡ recorded.text = rw (is ∙ recorded.held_is) refl in
    ap digest_named text_is ∙ named digest recorded.text recorded.names

-- the kernel of which a record names the digest matches it
of_digest : (o : Option (List ℕ)) (digest : List ℕ) → option_map sha256 o ≡ Some digest → (image : List ℕ) × (o ≡ Some image) × (sha256 image ≡ digest)
of_digest None digest e = cc
of_digest (Some image) digest e = (image, refl, cc)

pub matches : (m : Names) (digest : List ℕ) → Records digest (get m KERNEL_RECORD) → digest_at m KERNEL ≡ Some digest → IsMatched m
matches m digest recorded same =
    let kernel = of_digest (get m KERNEL) digest same in
    record {
      image = kernel.0;
      text = recorded.text;
      kernel = kernel.1;
      record_held = recorded.held_is;
      names = subst (λ (d : List ℕ). IsRecord d recorded.text) (sym kernel.2) recorded.names;
    }

-- nothing is pending in a slot that is free
pub free_slot : (o : Option (List ℕ)) → o ≡ None → is_some o ≡ false
free_slot None e = refl
free_slot (Some b) e = cc

-- THE ORDER: pending, record, mismatch
pub second : (a b : Option Cause) (c : Option Cause) → a ≡ None → b ≡ c → option_or a b ≡ c
second None b c none is = is
second (Some x) b c none is = cc

pub first : (a b : Option Cause) (c : Cause) → a ≡ Some c → option_or a b ≡ Some c
first None b c is = cc
first (Some x) b c is = is

module _ (m : Names) (free : pending_refusal slot.Kernel m ≡ None) where
  pub record_stands : (c : Cause) → record_refusal (get m KERNEL_RECORD) ≡ Some c → kernel_refusal m ≡ Some c
  record_stands c is = second (pending_refusal slot.Kernel m) _ (Some c) free (first (record_refusal (get m KERNEL_RECORD)) _ c is)

  module _ (sound : record_refusal (get m KERNEL_RECORD) ≡ None) (digest : List ℕ) (recorded : Records digest (get m KERNEL_RECORD)) where
    pub mismatch_stands : (end : Option Cause) → mismatch digest (digest_at m KERNEL) ≡ end → kernel_refusal m ≡ end
    mismatch_stands end is =
        second (pending_refusal slot.Kernel m) _ end free
        (second (record_refusal (get m KERNEL_RECORD)) _ end sound
        (ap (λ (d : List ℕ). mismatch d (digest_at m KERNEL)) (recorded_named digest (get m KERNEL_RECORD) recorded m refl) ∙ is))
