-- The first line of a text that no intent's text goes on with.
use Rattle.std.specs.Prelude.{◌≡◌, ◌+◌, ℕ, List, ◌++◌, length}
use Rattle.std.specs.List.{flat_map, AllByRecursion}
use Rattle.kl_base.specs.declared.class.Slot.{Slot}
use Rattle.kl_intent.specs.declared.intent.Entry.{Entry}
use Rattle.kl_text.specs.Lines.{line, IsLine}
use Rattle.kl_intent.specs.IntentText.{intent_text, AreEntries}

-- the text of some intent begins so
pub record Begins (start : List ℕ) : Type 0 where
  pub slot : Slot
  pub entries : List Entry
  pub rest : List ℕ
  pub are : AreEntries entries
  pub text : intent_text slot entries ≡ start ++ rest

-- The line of this number, counted from 1, is the first one outside the grammar: the lines before it begin the text of some
-- intent, and no intent's text begins with them and the line that follows them. So it is too where what follows is no whole
-- line, or nothing.
pub record IsFirstOutside (bytes : List ℕ) (number : ℕ) : Type 0 where
  pub lines : List (List ℕ)
  pub rest : List ℕ
  pub each : AllByRecursion IsLine lines
  pub count : number ≡ length lines + 1
  pub text : bytes ≡ flat_map line lines ++ rest
  pub begins : Begins (flat_map line lines)
  pub stops : (next more : List ℕ) → IsLine next → rest ≡ line next ++ more → ¬ Begins (flat_map line lines ++ line next)
