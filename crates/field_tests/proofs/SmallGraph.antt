-- The graph of the small library is sound.
use Rattle.std.proofs.Common.{ℕ, zero, suc, ◌≡◌, ◌+◌, ◌<◌, ◌∙◌, List, [], ◌∷◌, length, get_or, refl, sym, arith, rules, Bool, true, false, ◌&&◌, inl, lit<, lit≤}
use Rattle.std.proofs.lemmas.Bool.{leb-true, ltb-true}
use Rattle.std.specs.Prelude.{All, AllPairs, None, pos, nat_le, nat_lt}
use Rattle.std.specs.List.{list_all}
use Rattle.std.proofs.lemmas.List.Elements.{All-cons}
use Rattle.std.proofs.lemmas.List.Kept.{AllPairs-cons}
use Rattle.kl_base.specs.declared.class.Class.TheVariants.{Bss, Text}
use Rattle.kl_base.specs.declared.limits.TheConstants.{INPUT_BYTES_LIMIT}
use Rattle.kl_model.specs.Relocations.{width}
use Rattle.kl_model.specs.Sound.{IsSoundField, IsSoundGraph, IsSoundName, IsSoundPiece, IsSoundTarget, StandApart}
use Rattle.kl_model.specs.declared.graph.DynName.{DynName}
use Rattle.kl_model.specs.declared.graph.Field.{Field}
use Rattle.kl_model.specs.declared.graph.Piece.{Piece}
use Rattle.kl_model.specs.declared.kit.Kit.{Kit}
use Rattle.kl_model.specs.declared.kit.KitKind.TheVariants.{Kernel, Library}
use Rattle.field_tests.specs.Small.{small_graph}
use Rattle.field_tests.specs.declared.small.TheConstants.{FIELDS, NAMES, PIECES}

none : {X : Type 0} (P : X → Type 0) → All P []
none P k d l = absurd (omega arith)

-- each field ends before the next begins
is_spaced : List Field → Bool
is_spaced [] = true
is_spaced (f ∷ fs) = list_all (λ h. nat_le (f.offset + width f.kind) h.offset) fs && is_spaced fs

both_left : (a b : Bool) → (a && b) ≡ true → a ≡ true
both_left true b e = refl
both_left false b e = cc

both_right : (a b : Bool) → (a && b) ≡ true → b ≡ true
both_right true b e = e
both_right false b e = cc

behind : (f : Field) (fs : List Field) → list_all (λ h. nat_le (f.offset + width f.kind) h.offset) fs ≡ true → All (StandApart f) fs
behind f [] e = none (StandApart f)
behind f (h ∷ hs) e =
    let here = both_left (nat_le (f.offset + width f.kind) h.offset) _ e in
    All-cons (StandApart f) h hs (λ same. inl (leb-true _ _ here)) (behind f hs (both_right (nat_le (f.offset + width f.kind) h.offset) _ e))

apart : (fs : List Field) → is_spaced fs ≡ true → AllPairs StandApart fs
unfolding is_spaced
apart [] e = λ i j d low high. absurd (omega (arith, low, high))
apart (f ∷ fs) e =
    let next = list_all (λ (h : Field). nat_le (f.offset + width f.kind) h.offset) fs in
    AllPairs-cons StandApart f fs (behind f fs (both_left next _ e)) (apart fs (both_right next _ e))

spaced : is_spaced FIELDS ≡ true
unfolding is_spaced
spaced = refl

text_only : {X : Type 0} → Text ≡ Bss → X
text_only e = cc

no_kernel : {X : Type 0} → Library ≡ Kernel → X
no_kernel e = cc

module _ (kit : Kit) (library : kit.kind ≡ Library) where
  piece_sound : (k : ℕ) (d : Piece) → k < length PIECES → IsSoundPiece kit small_graph (get_or PIECES k d)
  piece_sound zero d l = record {
    origin = lit< tt;
    area = refl;
    size = lit≤ tt;
    align = (4, lit≤ tt, refl);
    short = lit≤ tt;
    blank = λ e. text_only e;
  }
  piece_sound (suc k) d l = absurd (omega arith)

  field_is : (f : Field) → f.piece ≡ 0 → nat_lt 0 (width f.kind) ≡ true → nat_le (f.offset + width f.kind) 64 ≡ true → f.addend ≡ pos 0
      → IsSoundTarget kit small_graph f.target → IsSoundField kit small_graph f
  field_is f at wide inside nothing target = record {
    piece = omega arith;
    wide = ltb-true _ _ wide;
    inside = rw at (leb-true _ _ inside);
    class = rw at text_only;
    addend = rw nothing (search rules);
    target = target;
  }

  field_sound : (k : ℕ) (d : Field) → k < length FIELDS → IsSoundField kit small_graph (get_or FIELDS k d)
  field_sound zero d l = field_is _ refl refl refl refl (lit< tt)
  field_sound (suc zero) d l = field_is _ refl refl refl refl (lit< tt)
  field_sound (suc (suc zero)) d l = field_is _ refl refl refl refl (lit< tt)
  field_sound (suc (suc (suc zero))) d l = field_is _ refl refl refl refl tt
  field_sound (suc (suc (suc (suc zero)))) d l = field_is _ refl refl refl refl (lit< tt, lit≤ tt)
  field_sound (suc (suc (suc (suc (suc zero))))) d l = field_is _ refl refl refl refl (lit< tt, lit≤ tt)
  field_sound (suc (suc (suc (suc (suc (suc zero)))))) d l = field_is _ refl refl refl refl (lit< tt)
  field_sound (suc (suc (suc (suc (suc (suc (suc zero))))))) d l = field_is _ refl refl refl refl tt
  field_sound (suc (suc (suc (suc (suc (suc (suc (suc k)))))))) d l = absurd (omega arith)

  name_is : (d : DynName) → nat_lt d.input 1 ≡ true → nat_le d.name.len INPUT_BYTES_LIMIT ≡ true → nat_lt d.visibility 4 ≡ true → nat_lt d.kind 16 ≡ true
      → d.size ≡ 0 → d.exported ≡ None → IsSoundName kit small_graph d
  name_is d input short visibility kind empty none = record {
    input = ltb-true _ _ input;
    short = leb-true _ _ short;
    visibility = ltb-true _ _ visibility;
    kind = ltb-true _ _ kind;
    size = rw empty (lit< tt);
    exported = rw none tt;
  }

  name_sound : (k : ℕ) (d : DynName) → k < length NAMES → IsSoundName kit small_graph (get_or NAMES k d)
  name_sound zero d l = name_is _ refl refl refl refl refl refl
  name_sound (suc zero) d l = name_is _ refl refl refl refl refl refl
  name_sound (suc (suc k)) d l = absurd (omega arith)

  pub sound : IsSoundGraph kit small_graph
  sound = record {
    pieces = piece_sound;
    fields = field_sound;
    apart = apart FIELDS spaced;
    entry = tt;
    names = name_sound;
    kernel = λ e. no_kernel (sym library ∙ e);
    piece_count = lit≤ tt;
    field_count = lit≤ tt;
    name_count = lit≤ tt;
    input_count = lit≤ tt;
  }
