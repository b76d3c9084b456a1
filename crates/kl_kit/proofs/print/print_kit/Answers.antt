-- The text is that of the kit, and so reads as it.
use Rattle.std.proofs.Common.{rules, ◌≡◌, List, [], ℕ, sym, subst}
use Rattle.kl_kit.specs.KitPrints.{kit_text}
use Rattle.kl_kit.specs.KitTexts.{kit_faults, kit_of}
use Rattle.kl_kit.specs.ReadableKits.{SameKit}
use Rattle.kl_kit.proofs.PrintedKits.{text_clear, text_reads}
use Rattle.kl_kit.proofs.print.print_kit.Goals as goal

pub returns-clause-text : goal.returns-clause-text
unfolding kit_text
returns-clause-text c = search rules

pub returns-clause-sound : goal.returns-clause-sound
returns-clause-sound c = λ is. subst (λ (t : List ℕ). kit_faults t ≡ []) (sym (returns-clause-text c)) (text_clear c.args.kit.now is)

pub returns-clause-same : goal.returns-clause-same
returns-clause-same c = λ is. subst (λ (t : List ℕ). SameKit (kit_of t) c.args.kit.now) (sym (returns-clause-text c)) (text_reads c.args.kit.now is)
