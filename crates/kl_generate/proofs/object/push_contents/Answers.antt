use Rattle.std.proofs.Common.{ℕ, ◌≡◌, List, ◌++◌, replicate, append_assoc}
use Rattle.kl_model.specs.Written.{rela_bytes}
use Rattle.kl_generate.specs.MadeFile.{callee_name, data_entry, data_size, padding, section_names, symbols_bytes, text, text_entry}
use Rattle.kl_generate.proofs.object.push_contents.Goals as goal

-- parts that are appended one by one
appended : (f p q r s t u f1 f2 f3 f4 f5 f6 : List ℕ) → f1 ≡ f ++ p → f2 ≡ f1 ++ q → f3 ≡ f2 ++ r → f4 ≡ f3 ++ s → f5 ≡ f4 ++ t → f6 ≡ f5 ++ u
    → f6 ≡ f ++ (p ++ (q ++ (r ++ (s ++ (t ++ u)))))
appended f p q r s t u f1 f2 f3 f4 f5 f6 e1 e2 e3 e4 e5 e6 = rw (e6, e5, e4, e3, e2, e1) (simp append_assoc)

pub returns : goal.returns
returns c =
    let k = c.args.number in
    appended c.args.file.now.items (text k) (replicate data_size 0) (rela_bytes text_entry) (rela_bytes data_entry) (symbols_bytes k (callee_name k)) (section_names ++ padding)
    _ _ _ _ _ _ c.in_ok-push_text.ensures c.in_ok-push_bytes.ensures
    (rw c.entry_bytes.ensures at c.in_ok-extend_from_slice.ensures.items) (rw c.entry_bytes-2.ensures at c.in_ok-extend_from_slice-2.ensures.items)
    (rw c.requires.name at c.in_ok-push_symbols.ensures) c.in_ok-extend_from_slice-3.ensures.items
