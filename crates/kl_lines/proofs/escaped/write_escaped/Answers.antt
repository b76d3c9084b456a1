use Rattle.std.proofs.Common.{◌≡◌, ◌++◌, ◌∙◌, List, ℕ, ap, sym, rules, arith, append_assoc}
use Rattle.std.proofs.lemmas.Grind.{flat_map-append}
use Rattle.kl_lines.specs.Escaped.{escaped, escaped_byte}
use Rattle.kl_lines.proofs.Taking.{takes_part, takes_then, writes_fail}
use Rattle.kl_lines.proofs.escaped.write_escaped.Goals as goal

-- the bytes that are printed, by those before, these, and those behind
parts : (name done rest chunk after : List ℕ) → name ≡ done ++ rest → rest ≡ chunk ++ after → escaped name ≡ escaped done ++ (escaped chunk ++ escaped after)
parts name done rest chunk after is split =
    ap escaped is ∙ flat_map-append escaped_byte done rest ∙ ap (λ l. escaped done ++ escaped l) split ∙ ap (λ l. escaped done ++ l) (flat_map-append escaped_byte chunk after)

pub returns-in_err-write_chunk-clause-writes : goal.returns-in_err-write_chunk-clause-writes
returns-in_err-write_chunk-clause-writes g c =
    let part = c.loop-rest.invariant.part in
    let split : c.loop-rest.rest.now ≡ c.split_at.result.0.now ++ c.split_at.result.1.now = search rules in
    writes_fail _ (search rules) (takes_part _ _ _ _ (parts _ part.0 _ _ _ part.1 split) part.2 c.in_err-write_chunk.ensures.writes.failed)

pub loop-rest-preserved : goal.loop-rest-preserved
loop-rest-preserved g c =
    let part = c.loop-rest.invariant.part in
    let chunk = c.split_at.result.0.now in
    let split : c.loop-rest.rest.now ≡ chunk ++ c.split_at.result.1.now = search rules in
    let more : escaped (part.0 ++ chunk) ≡ escaped part.0 ++ escaped chunk = flat_map-append escaped_byte part.0 chunk in
    record {
      part = (part.0 ++ chunk, part.1 ∙ ap (λ l. part.0 ++ l) split ∙ sym (append_assoc part.0 chunk c.split_at.result.1.now), rw more (takes_then _ _ part.2 c.in_ok-write_chunk.ensures.writes.taken));
      faults = omega (arith, c.loop-rest.invariant.faults, c.in_ok-write_chunk.ensures.cause.later);
    }
