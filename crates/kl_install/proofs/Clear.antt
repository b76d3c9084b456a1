-- A slot that is free, or whose intent has sound entries alone, is clear after recovery.
use Rattle.std.proofs.Common.{◌≡◌, ◌+◌, ◌⊎◌, ⊎_elim, ℕ, true, List, [], ◌∷◌, refl, ap, ◌∙◌}
use Rattle.std.specs.Prelude.{Option, None, Result}
use Rattle.std.specs.FinMap.{get}
use Rattle.std.proofs.lemmas.Bool.{cond-true}
use Rattle.kl_base.specs.declared.class.Slot.{Slot}
use Rattle.kl_base.specs.declared.class.Slot.TheVariants.{Kernel, Libs}
use Rattle.kl_store.specs.Names.{Names}
use Rattle.kl_intent.specs.declared.intent.Entry.{Entry}
use Rattle.kl_intent.specs.IntentText.{slot_name}
use Rattle.kl_intent.proofs.Grammar.{intent_again}
use Rattle.kl_install.specs.declared.recover.SlotEnd.TheVariants.{BadIntent}
use Rattle.kl_install.specs.declared.recover.Unsound.{Unsound}
use Rattle.kl_install.specs.After.{is_sound, same_slot}
use Rattle.kl_install.specs.Standing.{Stands, IsSound}
use Rattle.kl_install.specs.Batch.{Each}
use Rattle.kl_install.specs.Recovery.{first_unsound, checked_end, entries_end, read_end, text_end, slot_end, is_clear}
use Rattle.kl_install.proofs.Sounds.{is_sound_so}

none_unsound : (m : Names) (es : List Entry) (n : ℕ) → Each (IsSound m) es → first_unsound m es n ≡ None
none_unsound m [] n sound = refl
none_unsound m (e ∷ es) n sound = cond-true (is_sound m e) (first_unsound m es (n + 1)) _ (is_sound_so m e sound.0) ∙ none_unsound m es (n + 1) sound.1

own : (slot : Slot) → same_slot slot slot ≡ true
own Kernel = refl
own Libs = refl

clear_intent : (slot : Slot) (es : List Entry) (x : Names) → Stands slot es x → Each (IsSound x) es → is_clear (slot_end slot x) ≡ true
clear_intent slot es x stands sound =
    ap (λ (file : Option (List ℕ)). is_clear (text_end slot x file)) stands.text
    ∙ ap (λ (r : Result (Slot × List Entry) ℕ). is_clear (read_end slot x r)) (intent_again slot es stands.are)
    ∙ ap is_clear (cond-true (same_slot slot slot) (entries_end x es) (BadIntent 2) (own slot))
    ∙ ap (λ (u : Option Unsound). is_clear (checked_end es u)) (none_unsound x es 0 sound)

pub clear_slot : (slot : Slot) (es : List Entry) (x : Names) → (get x (slot_name slot) ≡ None) ⊎ (Stands slot es x × Each (IsSound x) es) → is_clear (slot_end slot x) ≡ true
clear_slot slot es x = ⊎_elim
    (λ none. ap (λ (file : Option (List ℕ)). is_clear (text_end slot x file)) none)
    (λ has. clear_intent slot es x has.0 has.1)
