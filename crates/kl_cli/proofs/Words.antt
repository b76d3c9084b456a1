-- Words that are a command.
use Rattle.std.proofs.Common.{◌≡◌, ℕ, ◌<◌, List, [], ◌∷◌, length, refl, arith}
use Rattle.std.specs.Prelude.{None, Vec}
use Rattle.std.specs.declared.alloc.Global.{Global}
use Rattle.std.proofs.lemmas.Bool.{lt-leb}
use Rattle.kl_cli.specs.Answers.{texts}
use Rattle.kl_cli.specs.Commands.{folder_of, request_of}

-- a folder's name isn't longer
pub long_folder : (dir : List ℕ) → 127 < length dir → None ≡ folder_of dir
long_folder dir h = rw (lt-leb (length dir) 127 h) refl

-- no words are no command, and neither are more than four
pub no_words : (words : List (Vec ℕ Global)) → length words < 1 → None ≡ request_of (texts words)
no_words [] few = refl
no_words (a ∷ words) few = absurd (omega (arith, few))

pub many_words : (words : List (Vec ℕ Global)) → 4 < length words → None ≡ request_of (texts words)
many_words [] many = absurd (omega (arith, many))
many_words (a ∷ []) many = absurd (omega (arith, many))
many_words (a ∷ b ∷ []) many = absurd (omega (arith, many))
many_words (a ∷ b ∷ d ∷ []) many = absurd (omega (arith, many))
many_words (a ∷ b ∷ d ∷ e ∷ []) many = absurd (omega (arith, many))
many_words (a ∷ b ∷ d ∷ e ∷ f ∷ words) many = refl
