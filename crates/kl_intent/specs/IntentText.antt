-- The text of an intent, and what is read of one.
use Rattle.std.specs.Prelude.{◌≡◌, ◌+◌, ◌<◌, ◌≤◌, ◌&&◌, ℕ, zero, suc, Bool, true, false, not, cond, if◌then◌else◌, nat_le, nat_lt, nat_eq, List, [], ◌∷◌, ◌++◌, length, take, codes, is_none, Option, Some, None, Result, Ok, Err, ⊤}
use Rattle.std.specs.Str.{bytes_eq}
use Rattle.std.specs.Option.{option_map, option_and_then}
use Rattle.std.specs.List.{flat_map, ends_with, list_all}
use Rattle.std.specs.List.{AllByRecursion}
use Rattle.hex.specs.Hex.{encode_lower, decode_sized, IsBytes}
use Rattle.hex.specs.declared.error.FromHexError.{FromHexError}
use Rattle.kl_base.specs.Names.{name_fault}
use Rattle.kl_base.specs.declared.class.Slot.{Slot}
use Rattle.kl_base.specs.declared.class.Slot.TheVariants.{Kernel, Libs}
use Rattle.kl_text.specs.Lines.{line, first_line, cut, after_prefix}
use Rattle.kl_intent.specs.declared.intent.Entry.{Entry}
use Rattle.kl_intent.specs.declared.intent.Intent.{Intent}
use Rattle.kl_base.specs.declared.limits.TheConstants.{ENTRY_LIMIT, INTENT_LIMIT, SCRATCH_SUFFIX, TARGET_LIMIT}

-- the name of each slot's file
abbrev pub slot_name : Slot → List ℕ
slot_name Kernel = codes "/var/db/relink.kernel.intent"
slot_name Libs = codes "/var/db/relink.libs.intent"

-- a name that may be a target: within the limit, no scratch name, and no slot's name
abbrev pub is_target_name : List ℕ → Bool
is_target_name name = nat_le (length name) TARGET_LIMIT && (not (ends_with nat_eq name SCRATCH_SUFFIX) && (not (bytes_eq name (slot_name Kernel)) && not (bytes_eq name (slot_name Libs))))

abbrev pub is_target : List ℕ → Bool
is_target name = is_none (name_fault name) && is_target_name name

-- the word of a slot, and of a digest that may be none
abbrev pub slot_word : Slot → List ℕ
slot_word Kernel = codes "kernel"
slot_word Libs = codes "libs"

abbrev pub old_word : Option (List ℕ) → List ℕ
old_word None = 45 ∷ []
old_word (Some digest) = encode_lower digest

-- the line of an entry: the target, what it held, and what it is to hold
abbrev pub entry_line : Entry → List ℕ
entry_line e = line (codes "entry " ++ (e.target ++ (32 ∷ (old_word e.old ++ (32 ∷ encode_lower e.new)))))

-- the text of an intent
abbrev pub intent_text : Slot → List Entry → List ℕ
intent_text slot entries = line (codes "relink intent 1") ++ (line (codes "batch " ++ slot_word slot) ++ (flat_map entry_line entries ++ line (codes "end")))

-- the entry has another target
abbrev pub is_other : List ℕ → Entry → Bool
is_other target e = not (bytes_eq e.target target)

-- a target isn't among these entries
abbrev pub is_new : List ℕ → List Entry → Bool
is_new target entries = list_all (is_other target) entries

-- no two entries have one target, those before them included
abbrev pub AreDistinct : List Entry → List Entry → Type 0
AreDistinct before [] = ⊤
AreDistinct before (e ∷ es) = (is_new e.target before ≡ true) × AreDistinct (before ++ e ∷ []) es

-- a digest has 32 bytes
pub record IsDigest (digest : List ℕ) : Type 0 where
  pub count : length digest ≡ 32
  pub bytes : IsBytes digest

-- so has the digest of a file that was there
abbrev pub IsOld : Option (List ℕ) → Type 0
IsOld None = ⊤
IsOld (Some digest) = IsDigest digest

-- an entry of an intent
pub record IsEntry (e : Entry) : Type 0 where
  pub target : is_target e.target ≡ true
  pub old : IsOld e.old
  pub new : IsDigest e.new

-- the entries of an intent: from 1 to 8, with distinct targets
pub record AreEntries (entries : List Entry) : Type 0 where
  pub some : 0 < length entries
  pub few : length entries ≤ ENTRY_LIMIT
  pub each : AllByRecursion IsEntry entries
  pub distinct : AreDistinct [] entries

-- the bytes of 64 lower-case digits
abbrev pub digits_of : List ℕ → Result (List ℕ) FromHexError → Option (List ℕ)
digits_of word (Ok digest) = if bytes_eq (encode_lower digest) word then Some digest else None
digits_of word (Err e) = None

abbrev pub digest_of : List ℕ → Option (List ℕ)
digest_of word = digits_of word (decode_sized word 32)

abbrev pub old_of : List ℕ → Option (Option (List ℕ))
old_of word = if bytes_eq word (45 ∷ []) then Some None else option_map (λ d. Some d) (digest_of word)

-- the word of a target
abbrev pub target_of : List ℕ → Option (List ℕ)
target_of word = if is_target word then Some word else None

-- the entry of a line's words
unfoldable pub entry_of_words : List ℕ → List ℕ → List ℕ → Option Entry
entry_of_words target old new =
    option_and_then (λ t. option_and_then (λ o. option_and_then (λ n. Some (record { target = t; old = o; new = n })) (digest_of new)) (old_of old)) (target_of target)

-- the entry of a line
unfoldable pub entry_of : List ℕ → Option Entry
entry_of text = option_and_then (λ r. option_and_then (λ (t, u). option_and_then (λ (o, n). entry_of_words t o n) (cut 32 u)) (cut 32 r)) (after_prefix (codes "entry ") text)

-- the entry of a line, where its target is another than those before it, and there are fewer than eight
abbrev pub fresh : List Entry → Option Entry → Option Entry
fresh before None = None
fresh before (Some e) = if is_new e.target before then Some e else None

abbrev pub fresh_entry : List Entry → List ℕ → Option Entry
fresh_entry before text = if nat_lt (length before) ENTRY_LIMIT then fresh before (entry_of text) else None

-- what is said of a line that is none: its number, behind the entries before it
abbrev pub wrong_line : {A : Type 0} → List Entry → Result A ℕ
wrong_line before = Err (length before + 3)

-- behind the last line nothing follows
abbrev pub end_of : List Entry → List ℕ → Result (List Entry) ℕ
end_of before [] = Ok before
end_of before (b ∷ rest) = Err (length before + 4)

abbrev pub is_empty : List Entry → Bool
is_empty [] = true
is_empty (e ∷ es) = false

abbrev pub is_last : List Entry → List ℕ → Bool
is_last before text = not (is_empty before) && bytes_eq text (codes "end")

-- a line that is an entry with another target than those before it
abbrev pub next_entry : List Entry → Option Entry → (Entry → Result (List Entry) ℕ) → Result (List Entry) ℕ
next_entry before None more = wrong_line before
next_entry before (Some e) more = if is_new e.target before then more e else wrong_line before

abbrev pub next_line : List Entry → Option (List ℕ × List ℕ) → (Entry → List ℕ → Result (List Entry) ℕ) → Result (List Entry) ℕ
next_line before None more = wrong_line before
next_line before (Some (text, rest)) more = if is_last before text then end_of before rest else next_entry before (entry_of text) (λ e. more e rest)

-- The entries of a text, behind those before it, of which at most so many more may come; or the number of the first line
-- that is outside the grammar.
unfoldable pub entries_from : ℕ → List Entry → List ℕ → Result (List Entry) ℕ
entries_from zero before text = next_line before (first_line text) (λ e rest. wrong_line before)
entries_from (suc left) before text = next_line before (first_line text) (λ e rest. entries_from left (before ++ e ∷ []) rest)

-- with the slot
abbrev pub with_slot : Slot → Result (List Entry) ℕ → Result (Slot × List Entry) ℕ
with_slot slot (Ok entries) = Ok (slot, entries)
with_slot slot (Err n) = Err n

abbrev pub read_libs : Option (List ℕ) → Result (Slot × List Entry) ℕ
read_libs None = Err 2
read_libs (Some rest) = with_slot Libs (entries_from ENTRY_LIMIT [] rest)

abbrev pub read_slot : List ℕ → Option (List ℕ) → Result (Slot × List Entry) ℕ
read_slot text None = read_libs (after_prefix (line (codes "batch libs")) text)
read_slot text (Some rest) = with_slot Kernel (entries_from ENTRY_LIMIT [] rest)

abbrev pub read_head : Option (List ℕ) → Result (Slot × List Entry) ℕ
read_head None = Err 1
read_head (Some rest) = read_slot rest (after_prefix (line (codes "batch kernel")) rest)

-- what an intent's text is read as: the slot and the entries, or the number of its first line outside the grammar, 0 where
-- there are more than 4,096 bytes
unfoldable pub intent_read : List ℕ → Result (Slot × List Entry) ℕ
intent_read bytes = if nat_lt INTENT_LIMIT (length bytes) then Err 0 else read_head (after_prefix (line (codes "relink intent 1")) bytes)

-- the entries of an intent in memory
abbrev pub entries_of : Intent → List Entry
entries_of i = take i.count i.entries
