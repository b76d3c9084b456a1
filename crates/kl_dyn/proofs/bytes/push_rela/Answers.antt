use Rattle.std.proofs.Common.{◌≡◌, ◌++◌, ◌∙◌, List, ap, append_assoc, rules}
use Rattle.std.specs.Prelude.{OnOk, Result, Ok, Err}
use Rattle.std.specs.Int.{cast_signed, cast_unsigned, w64}
use Rattle.std.proofs.lemmas.Int.{to_z-of_z}
use Rattle.kl_model.specs.Written.{bytes_of}
use Rattle.kl_dyn.proofs.bytes.push_rela.Goals as goal

pushed_third : {X T E : Type 0} (old a b c : List X) (first second : List X) → first ≡ old ++ a → second ≡ first ++ b → {d : List X} → d ≡ c → (r : Result T E) (third : List X) → OnOk r (third ≡ second ++ d) → OnOk r (third ≡ old ++ (a ++ (b ++ c)))
pushed_third old a b c first second one two is (Ok x) third e =
    e ∙ (ap (λ l. second ++ l) is ∙ (ap (λ l. l ++ c) (two ∙ ap (λ l. l ++ b) one) ∙ (append_assoc (old ++ a) b c ∙ append_assoc old a (b ++ c))))
pushed_third old a b c first second one two is (Err x) third e = tt

pub returns : goal.returns
returns c =
    let r = c.args.rela.now in
    let same : cast_signed w64 (cast_unsigned w64 r.addend) ≡ r.addend = to_z-of_z w64 r.addend (search rules) in
    pushed_third c.args.bytes.now.items (bytes_of 8 r.offset) (bytes_of 8 r.info) (bytes_of 8 (cast_unsigned w64 r.addend)) _ _
    c.in_ok-push_xword.ensures c.in_ok-push_xword-2.ensures (ap (bytes_of 8) (c.cast_unsigned.ensures ∙ ap (cast_unsigned w64) same)) c.push_xword-3.result _ c.push_xword-3.ensures
