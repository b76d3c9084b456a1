use Rattle.std.proofs.Common.{◌≡◌, ◌+◌, ◌∷◌, ◌++◌, [], ◌∙◌, length, take, refl, ap, sym, arith, rules, append_assoc}
use Rattle.std.specs.Prelude.{slice_set}
use Rattle.std.proofs.lemmas.Grind.{take-set_at}
use Rattle.std.proofs.lemmas.List.{length-set}
use Rattle.std.proofs.lemmas.Slice.{take-put_mid}
use Rattle.hex.proofs.Pairs.{take-two_writes}
use Rattle.hex.specs.Hex.{encode_lower}
use Rattle.kl_lines.proofs.Printed.{other_byte, plain_byte}
use Rattle.kl_lines.proofs.escaped.put_byte.Goals as goal

pub returns-then-is_plain-clause-text : goal.returns-then-is_plain-clause-text
returns-then-is_plain-clause-text c =
    take-set_at c.args.text.now c.args.at (c.args.at + 1) c.args.byte refl (omega (arith, c.requires, c.well_formed))
    ∙ ap (λ l. take c.args.at c.args.text.now ++ l) (sym (plain_byte c.args.byte (sym c.is_plain.ensures ∙ c.if-is_plain.true)))

pub returns-clause-text : goal.returns-clause-text
returns-clause-text c =
    let text = c.args.text.now in
    let at = c.args.at in
    let digits : c.encode_to_slice.new.output ≡ encode_lower (c.args.byte ∷ []) = search rules in
    take-put_mid (at + 2) _ (slice_set (slice_set text at 92) (at + 1) 120) c.encode_to_slice.new.output (at + 4) (omega (arith, ap length digits)) (omega (arith, c.requires, c.well_formed, length-set text at 92, length-set (slice_set text at 92) (at + 1) 120))
    ∙ ap (λ l. l ++ c.encode_to_slice.new.output) (take-two_writes text at 92 120 (omega (arith, c.requires, c.well_formed)))
    ∙ append_assoc (take at text) (92 ∷ 120 ∷ []) c.encode_to_slice.new.output
    ∙ ap (λ l. take at text ++ 92 ∷ 120 ∷ l) digits
    ∙ ap (λ l. take at text ++ l) (sym (other_byte c.args.byte (sym c.is_plain.ensures ∙ c.if-is_plain.false)))
