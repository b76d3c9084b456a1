-- Where each part of an image stands: the inputs in order, and the areas of a class that a linker makes.
use Rattle.std.specs.Prelude.{ℕ, ◌≡◌, ⊤, Bool, true, false, nat_lt, List, [], ◌∷◌, ◌++◌, map, slice_index}
use Rattle.std.specs.List.{IsDistinct}
use Rattle.kl_base.specs.declared.class.Class.{Class}
use Rattle.kl_base.specs.declared.class.Class.TheVariants.{Text, Rodata, Rwdata, Bss}
use Rattle.kl_model.specs.Line.{inputs_in, made_parts}
use Rattle.kl_model.specs.Lists.{number_in}
use Rattle.kl_model.specs.Placed.{same_body}
use Rattle.kl_model.specs.declared.object.Part.TheVariants.{Head, Drawn, Tail}
use Rattle.kl_model.specs.declared.graph.PieceId.{PieceId}
use Rattle.kl_model.specs.declared.graph.PieceId.TheVariants as id
use Rattle.kl_model.specs.declared.graph.Graph.{Graph}
use Rattle.kl_model.specs.declared.kit.KitKind.{KitKind}
use Rattle.kl_model.specs.declared.kit.KitKind.TheVariants.{Kernel, Library}
use Rattle.kl_model.specs.declared.place.Made.{Made}
use Rattle.kl_model.specs.declared.place.LinePart.{LinePart}
use Rattle.kl_model.specs.declared.area.TheConstants as area

-- the inputs in the order in which they stand: head inputs, drawn inputs in a given order, tail inputs
abbrev pub later_inputs : Graph → List ℕ → List ℕ
later_inputs g order = map (slice_index (inputs_in g Drawn)) order ++ inputs_in g Tail

abbrev pub input_sequence : Graph → List ℕ → List ℕ
input_sequence g order = inputs_in g Head ++ later_inputs g order

-- a section of one of so many inputs, or a common
abbrev pub is_known_id : ℕ → PieceId → Bool
is_known_id n (id.Section i s) = nat_lt i n
is_known_id n (id.Common k) = true
is_known_id n (id.Gap c) = false

-- the areas of a class that a linker makes
abbrev pub made_got : KitKind → Made → Class → List LinePart
made_got Kernel made Rodata = made_parts area.GOT made.got 8
made_got Library made Rwdata = made_parts area.GOT made.got 8
made_got _ made _ = []

abbrev pub class_made : KitKind → Made → Class → List LinePart
class_made kind made Text = made_parts area.STUBS made.stubs 16
class_made kind made Rodata = made_parts area.TABLES made.tables 8 ++ made_got kind made Rodata
class_made kind made Rwdata = made_got kind made Rwdata ++ made_parts area.DYNAMIC made.dynamic 8
class_made kind made Bss = []

-- no number stands twice
abbrev pub AreDistinct : List ℕ → Type 0
AreDistinct [] = ⊤
AreDistinct (k ∷ ks) = (number_in ks k ≡ false) × AreDistinct ks

-- no body stands twice
abbrev pub AreOnce : List LinePart → Type 0
AreOnce parts = IsDistinct (λ x y. same_body x.body y.body) parts
