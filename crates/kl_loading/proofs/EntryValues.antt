-- The numbers that a loader writes for entries.
use Rattle.std.proofs.Common.{ℕ, suc, ◌≡◌, ◌+◌, ◌*◌, ◌/◌, ◌%◌, ◌^◌, ◌<◌, List, length, get_or, refl, ap, arith, Bool, true, false, ◌||◌}
use Rattle.std.specs.Prelude.{FitsSigned, ℤ, pos, Some, ◌==◌, if◌then◌else◌}
use Rattle.std.specs.Int.{cast_signed, cast_unsigned, w64}
use Rattle.std.proofs.lemmas.Int.{of_z-to_z}
use Rattle.kl_elf.specs.declared.abi.TheConstants.{R_X86_64_64, R_X86_64_GLOB_DAT, R_X86_64_JUMP_SLOT, R_X86_64_RELATIVE}
use Rattle.kl_model.specs.Leads.{address_of}
use Rattle.kl_model.specs.Lists.{number_in}
use Rattle.kl_model.specs.Loaded.{name_in, rela_value}
use Rattle.kl_model.specs.Reaches.{plus}
use Rattle.kl_model.specs.Slots.{InPiece, Spot, field_entry, is_moving, slot_kind, stubs}
use Rattle.kl_model.specs.Tables.{dyn_text, no_dyn, rela_of, spot_at}
use Rattle.kl_model.specs.declared.graph.Field.{Field}
use Rattle.kl_model.specs.declared.graph.Graph.{Graph}
use Rattle.kl_model.specs.declared.graph.Target.{Target}
use Rattle.kl_model.specs.declared.graph.Target.TheVariants.{Place, Abs, Edge, Name, Zero, Gone}
use Rattle.kl_model.specs.declared.object.Input.{Input}
use Rattle.kl_model.specs.declared.place.Placement.{Placement}

kind_of : (symbol kind : ℕ) → kind < 2 ^ 32 → (symbol * 2 ^ 32 + kind) % 2 ^ 32 ≡ kind
kind_of symbol kind h = omega (arith, h)

symbol_of : (symbol kind : ℕ) → kind < 2 ^ 32 → (symbol * 2 ^ 32 + kind) / 2 ^ 32 ≡ symbol
symbol_of symbol kind h = omega (arith, h)

cast_small : (a : ℤ) → FitsSigned w64 a → cast_unsigned w64 a < 2 ^ 64
cast_small a f = grind (arith, f)

module _ (img : List ℕ) (base : ℕ) (r : List ℕ → ℕ) where
  relative_value : (at a : ℕ) → a < 2 ^ 64 → rela_value img base r (record { offset = at; info = 0 * 2 ^ 32 + R_X86_64_RELATIVE; addend = cast_signed w64 a }) ≡ Some (plus base a)
  relative_value at a h = ap (λ n. Some (plus base n)) (of_z-to_z w64 a h)

  name_value : (at n kind a : ℕ) (t : List ℕ) → name_in img n ≡ Some t → kind < 2 ^ 32 → (kind == R_X86_64_RELATIVE) ≡ false → (kind == R_X86_64_64) ≡ false → ((kind == R_X86_64_GLOB_DAT) || (kind == R_X86_64_JUMP_SLOT)) ≡ true
      → rela_value img base r (record { offset = at; info = n * 2 ^ 32 + kind; addend = cast_signed w64 a }) ≡ Some (r t)
  name_value at n kind a t named small not_relative not_64 one =
      rw (kind_of n kind small, symbol_of n kind small, named, not_relative, not_64, one) refl

  name_64 : (at n a : ℕ) (t : List ℕ) → name_in img n ≡ Some t → a < 2 ^ 64
      → rela_value img base r (record { offset = at; info = n * 2 ^ 32 + R_X86_64_64; addend = cast_signed w64 a }) ≡ Some (plus (r t) a)
  name_64 at n a t named h =
      let kind = kind_of n R_X86_64_64 (omega arith) in
      let symbol = symbol_of n R_X86_64_64 (omega arith) in
      rw (kind, symbol, named) (ap (λ m. Some (plus (r t) m)) (of_z-to_z w64 a h))

  module _ (p : Placement) (g : Graph) (inputs : List Input) (named : (n : ℕ) → n < length g.names → name_in img (suc n) ≡ Some (dyn_text inputs (get_or g.names n no_dyn))) where
    -- a field's entry
    pub moving_field : (f : Field) (t : Target) → is_moving t ≡ true → FitsSigned w64 f.addend
        → rela_value img base r (rela_of p g (field_entry f t)) ≡ Some (plus base (plus (address_of p g t) (cast_unsigned w64 f.addend)))
    moving_field f (Place n k) e s = relative_value (spot_at p g (InPiece f.piece f.offset)) (plus (address_of p g (Place n k)) (cast_unsigned w64 f.addend)) (omega arith)
    moving_field f (Edge n d) e s = relative_value (spot_at p g (InPiece f.piece f.offset)) (plus (address_of p g (Edge n d)) (cast_unsigned w64 f.addend)) (omega arith)
    moving_field f (Abs n) e s = cc
    moving_field f (Name n) e s = cc
    moving_field f Zero e s = cc
    moving_field f Gone e s = cc

    pub name_field : (f : Field) (n : ℕ) → n < length g.names → FitsSigned w64 f.addend
        → rela_value img base r (rela_of p g (field_entry f (Name n))) ≡ Some (plus (r (dyn_text inputs (get_or g.names n no_dyn))) (cast_unsigned w64 f.addend))
    name_field f n h s =
        name_64 (spot_at p g (InPiece f.piece f.offset)) (suc n) (cast_unsigned w64 f.addend) (dyn_text inputs (get_or g.names n no_dyn)) (named n h) (cast_small f.addend s)

    -- a slot's
    pub moving_slot : (spot : Spot) (t : Target) → is_moving t ≡ true
        → rela_value img base r (rela_of p g (record { spot = spot; kind = R_X86_64_RELATIVE; symbol = 0; target = t; addend = pos 0 })) ≡ Some (plus base (plus (address_of p g t) 0))
    moving_slot spot t e = rw e (relative_value (spot_at p g spot) (plus (address_of p g t) 0) (omega arith))

    pub name_slot : (spot : Spot) (n : ℕ) → n < length g.names
        → rela_value img base r (rela_of p g (record { spot = spot; kind = slot_kind g n; symbol = suc n; target = Name n; addend = pos 0 })) ≡ Some (r (dyn_text inputs (get_or g.names n no_dyn)))
    name_slot spot n h = go (number_in (stubs g) n)
      where
        go : (b : Bool) → rela_value img base r (record { offset = spot_at p g spot; info = suc n * 2 ^ 32 + (if b then R_X86_64_JUMP_SLOT else R_X86_64_GLOB_DAT); addend = cast_signed w64 0 })
            ≡ Some (r (dyn_text inputs (get_or g.names n no_dyn)))
        go true = name_value (spot_at p g spot) (suc n) R_X86_64_JUMP_SLOT 0 (dyn_text inputs (get_or g.names n no_dyn)) (named n h) (omega arith) refl refl refl
        go false = name_value (spot_at p g spot) (suc n) R_X86_64_GLOB_DAT 0 (dyn_text inputs (get_or g.names n no_dyn)) (named n h) (omega arith) refl refl refl
