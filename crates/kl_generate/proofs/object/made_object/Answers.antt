use Rattle.std.proofs.Common.{ℕ, ◌≡◌, ◌∙◌, List, [], ◌∷◌, ◌++◌, length, refl, ap, append_assoc}
use Rattle.std.specs.Prelude.{flat_map}
use Rattle.kl_model.specs.Written.{ehdr_bytes, shdr_bytes}
use Rattle.kl_draw.specs.GapFile.{null_section, relocatable_head}
use Rattle.kl_generate.specs.Made.{callee, made_name}
use Rattle.kl_generate.specs.MadeFile.{contents, headers_place, made_file, sections_from_one, strings}
use Rattle.kl_generate.proofs.object.made_object.Goals as goal

-- parts that are appended one by one
appended : (p q r s f0 f1 f2 f3 f4 : List ℕ) → f0 ≡ [] → f1 ≡ f0 ++ p → f2 ≡ f1 ++ q → f3 ≡ f2 ++ r → f4 ≡ f3 ++ s → f4 ≡ p ++ (q ++ (r ++ s))
appended p q r s f0 f1 f2 f3 f4 e0 e1 e2 e3 e4 = rw (e4, e3, e2, e1, e0) (simp append_assoc)

-- they are those of the object
parts_are : (n k : ℕ) (head headers names : List ℕ) → head ≡ ehdr_bytes (relocatable_head (headers_place k) 8 7)
    → headers ≡ flat_map shdr_bytes (null_section ∷ sections_from_one (length names) k) → names ≡ strings n k → head ++ (contents k ++ (headers ++ names)) ≡ made_file n k
unfolding made_file
parts_are n k head headers names e f g = rw (e, f, g) refl

pub returns : goal.returns
returns c =
    let n = c.args.count in
    let k = c.args.number in
    let names : c.push_name.new.strings.items ≡ strings n k =
    rw (c.in_ok-push_name.ensures.name, c.in_ok-strings.ensures.names, c.callee.ensures)
    (ap (λ xs. 0 ∷ xs) (append_assoc (made_name k) (0 ∷ []) (made_name (callee n k) ++ 0 ∷ []))) in
    let head : c.head_bytes.result ≡ ehdr_bytes (relocatable_head (headers_place k) 8 7) =
    rw (c.head_bytes.ensures, c.relocatable_head-head.ensures, c.headers_place-headers.ensures.place) (refl {a = ehdr_bytes (relocatable_head (headers_place k) 8 7)}) in
    let headers : flat_map shdr_bytes c.sections-sections.result ≡ flat_map shdr_bytes (null_section ∷ sections_from_one (length c.push_name.new.strings.items) k) =
    ap (flat_map shdr_bytes) c.sections-sections.ensures
    ∙ ap (λ (xs : List ℕ). flat_map shdr_bytes (null_section ∷ sections_from_one (length xs) k)) c.deref.ensures.value in
    record {
      file = appended _ _ _ _ _ _ _ _ _ c.in_ok-file.ensures.items c.in_ok-extend_from_slice.ensures.items c.in_ok-push_contents.ensures c.in_ok-push_sections.ensures
          (rw c.deref-2.ensures.value at c.in_ok-extend_from_slice-2.ensures.items)
          ∙ parts_are n k c.head_bytes.result _ c.push_name.new.strings.items head headers names;
    }
