-- What refuses the kernel's job before its kit is read.
use Rattle.std.specs.Prelude.{ℕ, ◌≡◌, List, [], take, drop, Option, Some, None, Result, Ok, Err, is_some, if◌then◌else◌}
use Rattle.std.specs.Option.{option_map, option_or}
use Rattle.std.specs.FinMap.{get}
use Rattle.std.specs.Str.{bytes_eq}
use Rattle.hex.specs.Hex.{decode_of}
use Rattle.hex.specs.declared.error.FromHexError.{FromHexError}
use Rattle.kl_base.specs.declared.class.Slot.{Slot}
use Rattle.kl_base.specs.declared.class.Slot.TheVariants.{Kernel}
use Rattle.kl_batch.specs.declared.names.TheConstants.{KERNEL, KERNEL_RECORD}
use Rattle.kl_digest.specs.Records.{IsRecord, record_fault}
use Rattle.kl_intent.specs.IntentText.{slot_name}
use Rattle.kl_install.specs.After.{digest_at}
use Rattle.kl_store.specs.Names.{Names}
use Rattle.kl_jobs.specs.Reading.{held}
use Rattle.kl_jobs.specs.declared.cause.Cause.{Cause}
use Rattle.kl_jobs.specs.declared.cause.Cause.TheVariants as cause
use Rattle.kl_jobs.specs.declared.cause.RecordCause.TheVariants.{Absent, Flaw}

-- A BATCH IS PENDING: its intent stands in the slot
abbrev pub pending_refusal : Slot → Names → Option Cause
pending_refusal slot m = if is_some (get m (slot_name slot)) then Some (cause.Pending slot) else None

-- THE RECORD IS ABSENT OR FLAWED: the first flaw of its text
abbrev pub record_refusal : Option (List ℕ) → Option Cause
record_refusal None = Some (cause.Record Absent)
record_refusal (Some text) = option_map (λ f. cause.Record (Flaw f)) (record_fault text)

-- the file is a record that names the digest
pub record Records (digest : List ℕ) (file : Option (List ℕ)) : Type 0 where
  pub text : List ℕ
  pub held_is : file ≡ Some text
  pub names : IsRecord digest text

-- the digest that a record's digits name
abbrev pub value_of : Result (List ℕ) FromHexError → List ℕ
value_of (Ok digest) = digest
value_of (Err e) = []

abbrev pub digest_named : List ℕ → List ℕ
digest_named text = value_of (decode_of (take 64 (drop 16 text)))

-- THE KERNEL DOESN'T MATCH: it is absent, or its digest isn't the one that the record names
abbrev pub mismatch : List ℕ → Option (List ℕ) → Option Cause
mismatch recorded None = Some (cause.Mismatch recorded None)
mismatch recorded (Some found) = if bytes_eq found recorded then None else Some (cause.Mismatch recorded (Some found))

-- THE FIRST REFUSAL of the kernel's job that stands before its kit is read
abbrev pub kernel_refusal : Names → Option Cause
kernel_refusal m =
    option_or (pending_refusal Kernel m)
    (option_or (record_refusal (get m KERNEL_RECORD)) (mismatch (digest_named (held m KERNEL_RECORD)) (digest_at m KERNEL)))
