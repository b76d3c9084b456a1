-- The bytes of fields.
use Rattle.std.proofs.Common.{ℕ, ◌≡◌, ◌<◌, ◌∙◌, Bool, true, false, ◌&&◌, ◌||◌, List, [], ◌∷◌, ◌++◌, get_or, refl, ap, arith}
use Rattle.std.specs.Prelude.{nat_lt}
use Rattle.std.proofs.lemmas.List.Folds.{list_any-append}
use Rattle.std.proofs.lemmas.Bool.Decides.{nat_tests}
use Rattle.kl_model.specs.declared.object.RawField.{RawField}
use Rattle.kl_rel.specs.Relocations.{is_byte_of, is_taken}

-- a byte that the pass comes to isn't among those that it added
pub not_added : (h e : Bool) (o : ℕ) → (h || (e && nat_lt o o)) ≡ h
not_added true e o = refl
not_added false true o = grind (arith, nat_tests)
not_added false false o = refl

-- the bytes of one field more
or_none : (x : Bool) → (x || false) ≡ x
or_none true = refl
or_none false = refl

pub taken_more : (fields : List RawField) (f : RawField) (s x : ℕ) → is_taken (fields ++ f ∷ []) s x ≡ (is_taken fields s x || is_byte_of s x f)
taken_more fields f s x = list_any-append (is_byte_of s x) fields (f ∷ []) ∙ ap (λ y. is_taken fields s x || y) (or_none (is_byte_of s x f))

-- each item is a byte; so is what a list has behind its end
abbrev pub AreBytes : List ℕ → Type 0
AreBytes b = (k : ℕ) → get_or b k 0 < 256
