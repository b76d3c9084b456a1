-- A small library that meets the premises of the laws: a piece of text that leads to an imported name by its slot and by its stub, and
-- has an exported name, and a piece of data that has the address of the text.
use Rattle.std.proofs.Common.{zero, suc, ◌≡◌, ◌^◌, ◌<◌, List, [], ◌∷◌, inl, refl, arith, Bool, true, false, ◌&&◌, nat_lt}
use Rattle.std.specs.Prelude.{ℕ, All, AllPairs, None, Some, pos, codes, ◌≢◌}
use Rattle.std.specs.List.{list_all}
use Rattle.std.proofs.lemmas.List.Sorted.{IsPermutation-refl}
use Rattle.kl_base.specs.declared.class.Class.TheVariants.{Text, Rwdata}
use Rattle.kl_model.proofs.Libraries.{library}
use Rattle.kl_model.specs.Carries.{CarriesGraph, piece_at}
use Rattle.kl_model.specs.Found.{found}
use Rattle.kl_model.specs.Image.{image_bytes}
use Rattle.kl_model.specs.Kept.{no_input}
use Rattle.kl_model.specs.Laid.{Laid}
use Rattle.kl_model.specs.Leads.{address_of}
use Rattle.kl_model.specs.Orders.{IsOrder, drawn_count}
use Rattle.kl_model.specs.Placed.{placed}
use Rattle.kl_model.specs.Sizes.{made_of}
use Rattle.kl_model.specs.Slots.{is_not_fixed, is_read_only}
use Rattle.kl_model.specs.Sound.{IsSoundField, IsSoundGraph, IsSoundName, IsSoundPiece, StandApart}
use Rattle.kl_model.specs.declared.graph.DynName.{DynName}
use Rattle.kl_model.specs.declared.graph.Field.{Field}
use Rattle.kl_model.specs.declared.graph.Graph.{Graph}
use Rattle.kl_model.specs.declared.graph.Piece.{Piece}
use Rattle.kl_model.specs.declared.graph.PieceId.TheVariants as id
use Rattle.kl_model.specs.declared.graph.Target.TheVariants.{Name, Place}
use Rattle.kl_model.specs.declared.object.Input.{Input}
use Rattle.kl_model.specs.declared.object.Part.TheVariants.{Head}
use Rattle.kl_model.specs.declared.place.AreaAt.{AreaAt}
use Rattle.kl_model.specs.declared.place.Placement.{Placement}
use Rattle.kl_write.specs.LaidKits.{IsLaidKit}
use Rattle.kl_write.proofs.LawFields.{library_holds}
use Rattle.kl_write.proofs.WholeOrder.{whole_order}
use Rattle.kl_loading.proofs.ExportsRead.{exports_are}
use Rattle.kl_loading.proofs.LibraryFields.{library_carries}
use Rattle.kl_loading.proofs.MadeSizes.{made_sizes}
use Rattle.kl_loading.specs.ExportsFound.{AreExports}
use Rattle.kl_loading.specs.Reaching.{HasOnlyLoaded}
use Rattle.kl_loading.specs.TablesReadBack.{HasTexts, IsText}

abbrev code : Piece
code = record { id = id.Section 0 1; class = Text; area = 0; size = 16; align = 16; bytes = record { at = 0; len = 16 } }

abbrev word : Piece
word = record { id = id.Section 0 2; class = Rwdata; area = 2; size = 8; align = 8; bytes = record { at = 16; len = 8 } }

abbrev by_slot : Field
by_slot = record { from = record { input = 0; section = 3; index = 0 }; piece = 0; offset = 3; kind = 9; addend = pos 0; target = Name 0 }

abbrev by_stub : Field
by_stub = record { from = record { input = 0; section = 3; index = 1 }; piece = 0; offset = 8; kind = 4; addend = pos 0; target = Name 0 }

abbrev by_entry : Field
by_entry = record { from = record { input = 0; section = 4; index = 0 }; piece = 1; offset = 0; kind = 1; addend = pos 0; target = Place 0 0 }

abbrev name : DynName
name = record { input = 0; name = record { at = 0; len = 1 }; exported = None; weak = false; visibility = 0; kind = 0; size = 0 }

abbrev own : DynName
own = record { input = 0; name = record { at = 1; len = 1 }; exported = Some (Place 0 4); weak = false; visibility = 0; kind = 2; size = 0 }

abbrev g : Graph
g = record { pieces = code ∷ word ∷ []; fields = by_slot ∷ by_stub ∷ by_entry ∷ []; names = name ∷ own ∷ []; entry = None; parts = Head ∷ [] }

abbrev p : Placement
p = placed library g None [] (made_of library g)

one : {X : Type 0} (P : X → Type 0) (x : X) (xs : List X) → P x → All P xs → All P (x ∷ xs)
one P x xs h t zero d l = h
one P x xs h t (suc k) d l = t k d (omega (arith, l))

none : {X : Type 0} (P : X → Type 0) → All P []
none P k d l = absurd (omega (arith, l))

apart : AllPairs StandApart g.fields
apart zero zero d h l = absurd (omega (arith, h))
apart zero (suc zero) d h l = λ e. inl (omega arith)
apart zero (suc (suc zero)) d h l = λ e. cc
apart zero (suc (suc (suc j))) d h l = absurd (omega (arith, l))
apart (suc zero) zero d h l = absurd (omega (arith, h))
apart (suc zero) (suc zero) d h l = absurd (omega (arith, h))
apart (suc zero) (suc (suc zero)) d h l = λ e. cc
apart (suc zero) (suc (suc (suc j))) d h l = absurd (omega (arith, l))
apart (suc (suc i)) j d h l = absurd (omega (arith, h, l))

sound : IsSoundGraph library g
sound = record {
  pieces = one (IsSoundPiece library g) code (word ∷ []) (record { origin = omega arith; area = refl; size = omega arith; align = (4, omega arith, refl); short = omega arith; blank = λ e. cc })
      (one (IsSoundPiece library g) word [] (record { origin = omega arith; area = refl; size = omega arith; align = (3, omega arith, refl); short = omega arith; blank = λ e. cc }) (none (IsSoundPiece library g)));
  fields = one (IsSoundField library g) by_slot (by_stub ∷ by_entry ∷ [])
      (record { piece = omega arith; wide = omega arith; inside = omega arith; class = λ e. cc; addend = grind arith; target = omega arith })
      (one (IsSoundField library g) by_stub (by_entry ∷ []) (record { piece = omega arith; wide = omega arith; inside = omega arith; class = λ e. cc; addend = grind arith; target = omega arith })
      (one (IsSoundField library g) by_entry [] (record { piece = omega arith; wide = omega arith; inside = omega arith; class = λ e. cc; addend = grind arith; target = (omega arith, omega arith) })
      (none (IsSoundField library g))));
  apart = apart;
  entry = tt;
  names = one (IsSoundName library g) name (own ∷ []) (record { input = omega arith; short = omega arith; visibility = omega arith; kind = omega arith; size = omega arith; exported = tt })
      (one (IsSoundName library g) own [] (record { input = omega arith; short = omega arith; visibility = omega arith; kind = omega arith; size = omega arith; exported = (omega arith, omega arith) }) (none (IsSoundName library g)));
  kernel = λ e. cc;
  piece_count = omega arith;
  field_count = omega arith;
  name_count = omega arith;
  input_count = omega arith;
}

laid : Laid p library g None [] (made_of library g)
laid = record {
  base = refl;
  text = record { areas = ((refl, tt), tt, (tt, refl, (tt, refl, ((refl, tt), refl, tt)))); class = refl };
  rodata = record { areas = (tt, tt, (tt, refl, ((refl, tt), refl, tt))); class = refl };
  rwdata = record { areas = ((refl, tt), tt, (tt, refl, (tt, refl, (tt, refl, (tt, refl, ((refl, tt), refl, ((refl, tt), refl, tt))))))); class = refl };
  bss = record { areas = (tt, tt, (tt, tt, tt)); class = refl };
  count = refl;
}

whole : IsOrder (drawn_count g.parts) []
whole = IsPermutation-refl []

abbrev Small : AreaAt → Type 0
Small a = (a.start < 2 ^ 64) × (a.end < 2 ^ 64)

all_small : (xs : List AreaAt) → list_all (λ (a : AreaAt). nat_lt a.start (2 ^ 64) && nat_lt a.end (2 ^ 64)) xs ≡ true → All Small xs
all_small [] e = none Small
all_small (x ∷ xs) e =
    let b = two (nat_lt x.start (2 ^ 64) && nat_lt x.end (2 ^ 64)) (list_all (λ (a : AreaAt). nat_lt a.start (2 ^ 64) && nat_lt a.end (2 ^ 64)) xs) e in
    let c = two (nat_lt x.start (2 ^ 64)) (nat_lt x.end (2 ^ 64)) b.0 in
    one Small x xs (grind (arith, c.0), grind (arith, c.1)) (all_small xs b.1)
  where
    two : (a b : Bool) → (a && b) ≡ true → (a ≡ true) × (b ≡ true)
    two true b e = (refl, e)
    two false b e = cc

abbrev inputs : List Input
inputs = record no_input { bytes = codes "fg" } ∷ []

texts : HasTexts inputs g
texts = one (IsText inputs) name (own ∷ []) (record { len = refl; no_zero = one (λ c. c ≢ 0) 0x66 [] (λ e. cc) (none (λ c. c ≢ 0)) })
    (one (IsText inputs) own [] (record { len = refl; no_zero = one (λ c. c ≢ 0) 0x67 [] (λ e. cc) (none (λ c. c ≢ 0)) }) (none (IsText inputs)))

only : HasOnlyLoaded g
only = record {
  fixed = one (λ f. is_not_fixed f.kind f.target ≡ false) by_slot (by_stub ∷ by_entry ∷ []) refl (one (λ f. is_not_fixed f.kind f.target ≡ false) by_stub (by_entry ∷ []) refl (one (λ f. is_not_fixed f.kind f.target ≡ false) by_entry [] refl (none (λ f. is_not_fixed f.kind f.target ≡ false))));
  writable = one (λ f. is_read_only (piece_at g f.piece).class f.kind f.target ≡ false) by_slot (by_stub ∷ by_entry ∷ []) refl (one (λ f. is_read_only (piece_at g f.piece).class f.kind f.target ≡ false) by_stub (by_entry ∷ []) refl
      (one (λ f. is_read_only (piece_at g f.piece).class f.kind f.target ≡ false) by_entry [] refl (none (λ f. is_read_only (piece_at g f.piece).class f.kind f.target ≡ false))));
}

is_laid : IsLaidKit library g None [] p
is_laid = record { base = omega arith; origin = λ e. refl; sound = sound; whole = whole; laid = laid; names = refl; small = omega arith }

-- the laws on it
pub example : CarriesGraph (image_bytes library inputs g None p) p library inputs g None []
example = library_carries library inputs g None [] p refl is_laid (all_small p.areas refl) texts refl only

abbrev img : List ℕ
img = image_bytes library inputs g None p

exports : AreExports img p inputs g
exports =
    exports_are img p library inputs g None [] refl is_laid (all_small p.areas refl)
    (library_holds library inputs g None [] p is_laid.origin is_laid.laid is_laid.small is_laid.base is_laid.sound (whole_order g [] is_laid.whole) (all_small p.areas refl) refl
    (made_sizes library inputs g p refl texts)) texts

-- the exported name has the address of its target, the imported name and another text aren't found
own_found : found img (codes "g") ≡ Some (address_of p g (Place 0 4))
own_found = exports.each_text (codes "g")

name_lost : found img (codes "f") ≡ None
name_lost = exports.each_text (codes "f")

other_lost : found img (codes "gg") ≡ None
other_lost = exports.each_text (codes "gg")
