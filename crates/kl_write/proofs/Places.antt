-- Addresses that are kept modulo 2^64, and their places in the file.
use Rattle.std.proofs.Common.{ℕ, ◌≡◌, ◌-◌, ◌^◌, ◌<◌, ◌≤◌, refl, arith, true, false, nat_lt, inl, inr}
use Rattle.std.proofs.lemmas.Bool.{le-ltb, lt-ltb, cases_lt}
use Rattle.kl_model.specs.Laid.{unwrapped}
use Rattle.kl_model.specs.Reaches.{less}
use Rattle.std.specs.Prelude.{pos}
use Rattle.kl_base.specs.declared.class.Class.TheVariants.{Text}
use Rattle.kl_model.specs.declared.graph.Field.{Field}
use Rattle.kl_model.specs.declared.graph.Piece.{Piece}
use Rattle.kl_model.specs.declared.graph.PieceId.TheVariants as id
use Rattle.kl_model.specs.declared.graph.Target.TheVariants.{Place}
use Rattle.kl_model.specs.declared.place.AreaAt.{AreaAt}
use Rattle.kl_model.specs.declared.place.Placed.{Placed}
use Rattle.kl_model.specs.declared.kit.KitKind.{KitKind}
use Rattle.kl_model.specs.declared.kit.KitKind.TheVariants.{Kernel, Library}
use Rattle.kl_model.specs.declared.place.Placement.{Placement}
use Rattle.kl_write.specs.Writes.{origin}

-- how far an address lies behind the base
pub less_base : (p : Placement) (a : ℕ) → a < 2 ^ 64 → p.base < 2 ^ 64 → less a p.base ≡ unwrapped p a - p.base
less_base p a h b =
    elim (cases_lt a p.base) [
      | inl q ↦ let t : nat_lt a p.base ≡ true = lt-ltb a p.base q in rw t (omega arith)
      | inr q ↦ let t : nat_lt a p.base ≡ false = le-ltb a p.base q in rw t (omega arith)
    ]

pub le_unwrapped : (p : Placement) (a : ℕ) → p.base < 2 ^ 64 → p.base ≤ unwrapped p a
le_unwrapped p a b =
    elim (cases_lt a p.base) [
      | inl l ↦ let t : nat_lt a p.base ≡ true = lt-ltb a p.base l in rw t (omega (arith, b))
      | inr l ↦ let t : nat_lt a p.base ≡ false = le-ltb a p.base l in rw t l
    ]

-- an address that isn't past the end of memory is kept as it is
pub plain_place : (p : Placement) (a : ℕ) → unwrapped p a < 2 ^ 64 → unwrapped p a ≡ a
plain_place p a h =
    elim (cases_lt a p.base) [
      | inl l ↦ (let t : nat_lt a p.base ≡ true = lt-ltb a p.base l in absurd (omega (arith, (rw t at h))))
      | inr l ↦ let t : nat_lt a p.base ≡ false = le-ltb a p.base l in rw t refl
    ]

-- the base stands at most a page from the start of the file
pub origin-le : (k : KitKind) → origin k ≤ 4096
origin-le Kernel = omega arith
origin-le Library = omega arith

-- what the prover takes for an item past the end of a list
abbrev pub zero_area : AreaAt
zero_area = record { start = 0; end = 0 }

abbrev pub zero_piece : Piece
zero_piece = record { id = id.Section 0 0; class = Text; area = 0; size = 0; align = 0; bytes = record { at = 0; len = 0 } }

abbrev pub zero_placed : Placed
zero_placed = record { id = id.Section 0 0; address = 0; size = 0 }

abbrev pub zero_field : Field
zero_field = record { from = record { input = 0; section = 0; index = 0 }; piece = 0; offset = 0; kind = 0; addend = pos 0; target = Place 0 0 }
