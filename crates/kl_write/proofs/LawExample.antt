-- A small kernel that meets the premises of the law: a piece of text with a field that leads to its start by a slot.
use Rattle.std.proofs.Common.{zero, suc, ◌≡◌, ◌<◌, ◌^◌, Bool, false, ◌&&◌, List, [], ◌∷◌, refl, arith, true, pos}
use Rattle.std.specs.Prelude.{Some, None, All, nat_lt}
use Rattle.std.specs.List.{list_all}
use Rattle.kl_model.specs.Carries.{CarriesGraph}
use Rattle.kl_model.specs.Faults.{does_fit}
use Rattle.kl_model.specs.Image.{image_bytes}
use Rattle.kl_model.specs.Laid.{Laid}
use Rattle.kl_model.specs.Placed.{placed}
use Rattle.kl_model.specs.Sizes.{made_of}
use Rattle.kl_model.specs.Sound.{IsSoundField, IsSoundGraph, IsSoundName, IsSoundPiece}
use Rattle.kl_model.specs.declared.place.AreaAt.{AreaAt}
use Rattle.kl_base.specs.declared.class.Class.TheVariants.{Text}
use Rattle.kl_model.proofs.Covered.{IsWhole}
use Rattle.kl_model.proofs.Examples.{kit}
use Rattle.kl_write.proofs.LawFields.{carries_graph}
use Rattle.kl_model.specs.declared.object.Part.TheVariants.{Head}
use Rattle.kl_model.specs.declared.object.Input.{Input}
use Rattle.kl_model.specs.declared.graph.PieceId.TheVariants as id
use Rattle.kl_model.specs.declared.graph.Piece.{Piece}
use Rattle.kl_model.specs.declared.graph.Field.{Field}
use Rattle.kl_model.specs.declared.graph.Graph.{Graph}
use Rattle.kl_model.specs.declared.graph.Target.TheVariants.{Place}
use Rattle.kl_model.specs.declared.place.Placement.{Placement}

abbrev code : Piece
code = record { id = id.Section 0 1; class = Text; area = 0; size = 16; align = 16; bytes = record { at = 0; len = 16 } }

abbrev call : Field
call = record { from = record { input = 0; section = 2; index = 0 }; piece = 0; offset = 3; kind = 9; addend = pos 0; target = Place 0 0 }

abbrev g : Graph
g = record { pieces = code ∷ []; fields = call ∷ []; names = []; entry = Some (Place 0 0); parts = Head ∷ [] }

abbrev p : Placement
p = placed kit g None [] (made_of kit g)

one : {X : Type 0} (P : X → Type 0) (x : X) → P x → All P (x ∷ [])
one P x h zero d l = h
one P x h (suc k) d l = absurd (omega arith)

all_none : {X : Type 0} (P : X → Type 0) → All P []
all_none P k d l = absurd (omega arith)

sound : IsSoundGraph kit g
sound = record {
  pieces = one (IsSoundPiece kit g) code (record { origin = omega arith; area = refl; size = omega arith; align = (4, omega arith, refl); short = omega arith; blank = λ e. cc });
  fields = one (IsSoundField kit g) call (record { piece = omega arith; wide = omega arith; inside = omega arith; class = λ e. cc; addend = grind arith; target = (omega arith, omega arith) });
  apart = λ i j d h l. absurd (omega arith);
  entry = (omega arith, omega arith);
  names = all_none (IsSoundName kit g);
  kernel = λ e. refl;
  piece_count = omega arith;
  field_count = omega arith;
  name_count = omega arith;
  input_count = omega arith;
}

laid : Laid p kit g None [] (made_of kit g)
laid = record {
  base = refl;
  text = record { areas = ((refl, tt), tt, (tt, refl, (tt, refl, (tt, refl, tt)))); class = refl };
  rodata = record { areas = (tt, tt, (tt, refl, (tt, refl, ((refl, tt), refl, tt)))); class = refl };
  rwdata = record { areas = (tt, tt, (tt, refl, (tt, refl, (tt, refl, (tt, refl, (tt, refl, tt)))))); class = refl };
  bss = record { areas = (tt, tt, (tt, tt, tt)); class = refl };
  count = refl;
}

whole : IsWhole g []
whole j l = absurd (omega arith)

all_two : {X : Type 0} (P : X → Type 0) (x : X) (xs : List X) → P x → All P xs → All P (x ∷ xs)
all_two P x xs h t zero d l = h
all_two P x xs h t (suc k) d l = t k d (omega (arith, l))

abbrev Small : AreaAt → Type 0
Small a = (a.start < 2 ^ 64) × (a.end < 2 ^ 64)

all_small : (xs : List AreaAt) → list_all (λ (a : AreaAt). nat_lt a.start (2 ^ 64) && nat_lt a.end (2 ^ 64)) xs ≡ true → All Small xs
all_small [] e = all_none Small
all_small (x ∷ xs) e =
    let b = two (nat_lt x.start (2 ^ 64) && nat_lt x.end (2 ^ 64)) (list_all (λ (a : AreaAt). nat_lt a.start (2 ^ 64) && nat_lt a.end (2 ^ 64)) xs) e in
    let c = two (nat_lt x.start (2 ^ 64)) (nat_lt x.end (2 ^ 64)) b.0 in
    all_two Small x xs (grind (arith, c.0), grind (arith, c.1)) (all_small xs b.1)
  where
    two : (a b : Bool) → (a && b) ≡ true → (a ≡ true) × (b ≡ true)
    two true b e = (refl, e)
    two false b e = cc

-- the law on it
pub example : (inputs : List Input) → CarriesGraph (image_bytes kit inputs g None p) p kit inputs g None []
example inputs =
    carries_graph kit inputs g None [] p (λ e. cc) laid (omega arith) (omega arith) sound whole (all_small p.areas refl) refl
    (one (λ f. does_fit p g f ≡ true) call refl) refl
