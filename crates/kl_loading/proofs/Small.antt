-- The numbers of the entries of a library fit their fields.
use Rattle.std.proofs.Common.{ℕ, zero, suc, ◌≡◌, ◌+◌, ◌^◌, ◌<◌, ◌≤◌, List, [], length, get_or, map, ap, subst, arith, Bool, true, false, not}
use Rattle.std.specs.Prelude.{All, FitsSigned, ℤ, pos, Some, option_to_list, cond, nat_lt}
use Rattle.std.specs.Int.{cast_signed, cast_unsigned, w64}
use Rattle.std.proofs.lemmas.Int.{of_z-to_z}
use Rattle.std.proofs.lemmas.List.Elements.{All-append, All-filter, All-map}
use Rattle.kl_base.specs.declared.limits.TheConstants.{SYMBOL_COUNT_LIMIT}
use Rattle.kl_model.specs.Leads.{address_of}
use Rattle.kl_model.specs.Lists.{each, number_in, only_if}
use Rattle.kl_model.specs.Reaches.{plus}
use Rattle.kl_model.specs.Slots.{Entry, InPiece, InSlot, Spot, entries, field_entry, is_loaded, is_moving, jump_entries, is_jump, rela_entries, slot_entry, slot_kind, slots, stubs}
use Rattle.kl_model.specs.Sound.{IsSoundField, IsSoundGraph, IsSoundTarget}
use Rattle.kl_model.specs.Tables.{added, rela_of, relas_of, spot_at}
use Rattle.kl_model.specs.declared.place.Placement.{Placement}
use Rattle.kl_model.specs.declared.graph.Field.{Field}
use Rattle.kl_model.specs.declared.graph.Graph.{Graph}
use Rattle.kl_model.specs.declared.graph.Target.{Target}
use Rattle.kl_model.specs.declared.graph.Target.TheVariants.{Place, Abs, Edge, Name, Zero, Gone}
use Rattle.kl_model.specs.declared.kit.Kit.{Kit}
use Rattle.kl_model.proofs.Each.{all-only_if, each-all}
use Rattle.kl_model.proofs.ListWords.{in_order-all}
use Rattle.kl_write.proofs.ImageFile.{all_in}
use Rattle.kl_write.proofs.SlotWords.{in_slots}
use Rattle.kl_write.proofs.SoundLaid.{in_get}
use Rattle.kl_loading.proofs.Rows.{IsSmallRela}

-- an entry whose numbers fit
pub record IsSmallEntry (e : Entry) : Type 0 where
  pub kind : e.kind < 2 ^ 32
  pub symbol : e.symbol ≤ SYMBOL_COUNT_LIMIT
  pub addend : cast_unsigned w64 e.addend < 2 ^ 64

spot_small : (p : Placement) (g : Graph) (s : Spot) → spot_at p g s < 2 ^ 64
spot_small p g (InPiece n k) = omega arith
spot_small p g (InSlot k) = omega arith

added_small : (p : Placement) (g : Graph) (e : Entry) → cast_unsigned w64 e.addend < 2 ^ 64 → added p g e < 2 ^ 64
added_small p g e h = go (is_moving e.target)
  where
    go : (b : Bool) → cond b (plus (address_of p g e.target) (cast_unsigned w64 e.addend)) (cast_unsigned w64 e.addend) < 2 ^ 64
    go true = omega arith
    go false = h

rela_small : (p : Placement) (g : Graph) (e : Entry) → IsSmallEntry e → IsSmallRela (rela_of p g e)
rela_small p g e h =
    let small = added_small p g e h.addend in
    let back : cast_unsigned w64 (cast_signed w64 (added p g e)) ≡ added p g e = of_z-to_z w64 (added p g e) small in
    record {
      offset = spot_small p g e.spot;
      info = (let k = h.kind in let y = h.symbol in omega (arith, k, y));
      addend = ap (cast_signed w64) back;
      small = omega (arith, back, small);
    }

pub relas_small : (p : Placement) (g : Graph) (es : List Entry) → All IsSmallEntry es → All IsSmallRela (relas_of p g es)
relas_small p g es h =
    in_order-all (λ r x. nat_lt r.offset x.offset) IsSmallRela (map (rela_of p g) es) (All-map IsSmallRela (rela_of p g) es (λ k d l. rela_small p g (get_or es k d) (h k d l)))

cast_small : (a : ℤ) → FitsSigned w64 a → cast_unsigned w64 a < 2 ^ 64
cast_small a f = grind (arith, f)

module _ (kit : Kit) (g : Graph) (sound : IsSoundGraph kit g) where
  field_small : (f : Field) (t : Target) → FitsSigned w64 f.addend → IsSoundTarget kit g t → IsSmallEntry (field_entry f t)
  field_small f (Place n k) a s = record { kind = omega arith; symbol = omega arith; addend = cast_small f.addend a }
  field_small f (Abs n) a s = record { kind = omega arith; symbol = omega arith; addend = cast_small f.addend a }
  field_small f (Edge n e) a s = record { kind = omega arith; symbol = omega arith; addend = cast_small f.addend a }
  field_small f (Name n) a s = record { kind = omega arith; symbol = (let c = sound.name_count in omega (arith, c, s)); addend = cast_small f.addend a }
  field_small f Zero a s = record { kind = omega arith; symbol = omega arith; addend = cast_small f.addend a }
  field_small f Gone a s = record { kind = omega arith; symbol = omega arith; addend = cast_small f.addend a }

  kind_small : (n : ℕ) → slot_kind g n < 2 ^ 32
  kind_small n = go (number_in (stubs g) n)
    where
      go : (b : Bool) → cond b 7 6 < 2 ^ 32
      go true = omega arith
      go false = omega arith

  moving_small : (k : ℕ) (t : Target) → All IsSmallEntry (option_to_list (Some (record { spot = InSlot k; kind = 8; symbol = 0; target = t; addend = pos 0 })))
  moving_small k t zero d l = record { kind = omega arith; symbol = omega arith; addend = omega arith }
  moving_small k t (suc j) d l = absurd (omega (arith, l))

  none_small : All IsSmallEntry []
  none_small k d l = absurd (omega (arith, l))

  named_small : (k n : ℕ) → n < length g.names → All IsSmallEntry (option_to_list (slot_entry g k (Name n)))
  named_small k n s zero d l = record { kind = kind_small n; symbol = (let c = sound.name_count in omega (arith, c, s)); addend = omega arith }
  named_small k n s (suc j) d l = absurd (omega (arith, l))

  slot_small : (k : ℕ) (t : Target) → IsSoundTarget kit g t → All IsSmallEntry (option_to_list (slot_entry g k t))
  slot_small k (Place n j) s = moving_small k (Place n j)
  slot_small k (Abs n) s = none_small
  slot_small k (Edge n e) s = moving_small k (Edge n e)
  slot_small k (Name n) s = named_small k n s
  slot_small k Zero s = none_small
  slot_small k Gone s = none_small

  -- the target of a slot is that of a field
  pub slot_sound : (k : ℕ) (d : Target) → k < length (slots g) → IsSoundTarget kit g (get_or (slots g) k d)
  slot_sound k d l =
      let r = in_slots g (get_or (slots g) k d) (in_get (slots g) k d l) in
      subst (IsSoundTarget kit g) r.2 (all_in (IsSoundField kit g) g.fields r.0 sound.fields r.1).target

  pub entries_small : All IsSmallEntry (entries g)
  entries_small =
      All-append IsSmallEntry (each g.fields (λ k f. only_if (is_loaded f.kind f.target) (field_entry f f.target))) (each (slots g) (λ k t. option_to_list (slot_entry g k t)))
      (each-all IsSmallEntry 0 (λ k f. only_if (is_loaded f.kind f.target) (field_entry f f.target)) g.fields
      (λ k d l. let f = get_or g.fields k d in all-only_if IsSmallEntry (is_loaded f.kind f.target) (field_entry f f.target)
      (λ e. field_small f f.target (sound.fields k d l).addend (sound.fields k d l).target)))
      (each-all IsSmallEntry 0 (λ k t. option_to_list (slot_entry g k t)) (slots g) (λ k d l. slot_small (0 + k) (get_or (slots g) k d) (slot_sound k d l)))

  pub first_small : (p : Placement) → All IsSmallRela (relas_of p g (rela_entries g))
  first_small p = relas_small p g (rela_entries g) (All-filter (λ e. not (is_jump e)) IsSmallEntry (entries g) entries_small)

  pub second_small : (p : Placement) → All IsSmallRela (relas_of p g (jump_entries g))
  second_small p = relas_small p g (jump_entries g) (All-filter is_jump IsSmallEntry (entries g) entries_small)
