use Rattle.std.proofs.Common.{ℕ, ◌≡◌, ◌+◌, ◌∙◌, List, [], ◌++◌, refl, ap, replicate, append_assoc}
use Rattle.std.specs.Prelude.{flat_map}
use Rattle.kl_model.specs.Written.{ehdr_bytes, shdr_bytes}
use Rattle.kl_model.specs.declared.place.Gaps.{Gaps}
use Rattle.kl_draw.specs.GapFile.{gap_file, gap_sections, headers_place, padding, relocatable_head, section_names}
use Rattle.kl_draw.proofs.gap.gap_object.Goals as goal
use Rattle.kl_model.specs.declared.area.TheConstants as area

-- parts that are appended one by one
appended : (p q r s t f0 f1 f2 f3 f4 f5 : List ℕ) → f0 ≡ [] → f1 ≡ f0 ++ p → f2 ≡ f1 ++ q → f3 ≡ f2 ++ r → f4 ≡ f3 ++ s → f5 ≡ f4 ++ t
    → f5 ≡ p ++ (q ++ (r ++ (s ++ t)))
appended p q r s t f0 f1 f2 f3 f4 f5 e0 e1 e2 e3 e4 e5 = rw (e5, e4, e3, e2, e1, e0) (simp append_assoc)

-- they are those of the gap object
parts_are : (z : Gaps) (head sections : List ℕ) → head ≡ ehdr_bytes (relocatable_head (headers_place z) 6 5) → sections ≡ flat_map shdr_bytes (gap_sections z)
    → head ++ (replicate z.text area.INT3 ++ (replicate (z.rodata + z.rwdata) 0 ++ ((section_names ++ padding) ++ sections))) ≡ gap_file z
unfolding gap_file
parts_are z head sections e f = rw (e, f) refl

pub returns : goal.returns
returns c =
    let z = c.args.gaps.now in
    let head : c.head_bytes.result ≡ ehdr_bytes (relocatable_head (headers_place z) 6 5) =
    rw (c.head_bytes.ensures, c.relocatable_head-head.ensures, c.sections-sections.ensures) refl in
    let sections : flat_map shdr_bytes c.sections-sections.result ≡ flat_map shdr_bytes (gap_sections z) = ap (flat_map shdr_bytes) c.sections-sections.ensures in
    record {
      file = appended _ _ _ _ _ _ _ _ _ _ _ c.in_ok-file.ensures.items c.in_ok-extend_from_slice.ensures.items c.in_ok-push_bytes.ensures c.in_ok-push_bytes-2.ensures c.in_ok-extend_from_slice-2.ensures.items c.in_ok-push_sections.ensures
          ∙ parts_are z c.head_bytes.result _ head sections;
    }
