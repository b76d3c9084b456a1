use Rattle.std.proofs.Common.{ℕ, ◌≡◌, ◌+◌, ◌<◌, List, ◌++◌, length, take, get_or, ap, sym, add-one, ◌∙◌}
use Rattle.std.specs.Prelude.{flat_map}
use Rattle.std.proofs.Math.Seq.{take-suc}
use Rattle.std.proofs.lemmas.List.{flat_map_more}
use Rattle.kl_elf.specs.declared.records.Shdr.{Shdr}
use Rattle.kl_model.specs.Written.{shdr_bytes}
use Rattle.kl_draw.proofs.record.push_sections.Goals as goal

next : (bs : List ℕ) (ss : List Shdr) (i : ℕ) (d : Shdr) → i < length ss
    → (bs ++ flat_map shdr_bytes (take i ss)) ++ shdr_bytes (get_or ss i d) ≡ bs ++ flat_map shdr_bytes (take (i + 1) ss)
next bs ss i d h =
    flat_map_more shdr_bytes bs (take i ss) (get_or ss i d) ∙ rw add-one (ap (λ xs. bs ++ flat_map shdr_bytes xs) (sym (take-suc ss i d h)))

pub loop-section-preserved : goal.loop-section-preserved
loop-section-preserved c =
    rw (c.in_ok-extend_from_slice.ensures.items, c.loop-section.invariant, c.section_bytes.ensures) (next _ _ _ _ c.loop-section-test.true)
