-- Where the targets of a loaded library stand, and what its slots hold.
use Rattle.std.proofs.Common.{ℕ, zero, suc, ◌≡◌, ◌+◌, ◌-◌, ◌*◌, ◌%◌, ◌^◌, ◌<◌, ◌≤◌, ◌∙◌, ◌⊎◌, List, [], ◌∷◌, ◌++◌, length, get_or, refl, ap, sym, subst, arith, Bool, true, false, not, ◌&&◌, inl, inr, nat_lt, nat_eq}
use Rattle.std.specs.Prelude.{All, FitsSigned, Option, Some, None, option_to_list, unwrap_or, pos, if◌then◌else◌, cond}
use Rattle.std.specs.Int.{cast_unsigned, w64}
use Rattle.std.proofs.lemmas.Bool.{cases_lt, le-ltb}
use Rattle.std.proofs.lemmas.List.{get_or_past}
use Rattle.std.proofs.lemmas.List.Elements.{All-append}
use Rattle.kl_base.specs.declared.class.Class.TheVariants.{Text, Rodata, Rwdata, Bss}
use Rattle.kl_model.proofs.Each.{all-only_if, each-all}
use Rattle.kl_model.proofs.InOrder.{le-reach, le-up, page-pos}
use Rattle.kl_model.specs.Carries.{HasByte, IsLoadBase, address_at, library_segments, piece_at, segments_for}
use Rattle.kl_model.specs.Kits.{is_kernel}
use Rattle.kl_model.specs.Laid.{area_at, class_end, no_area, place_of, reach, span, unwrapped}
use Rattle.kl_model.specs.Leads.{address_of, slot_place}
use Rattle.kl_model.specs.Line.{class_line}
use Rattle.kl_model.specs.Lists.{each, only_if, up}
use Rattle.kl_model.specs.Loaded.{loaded, name_in, relas}
use Rattle.kl_model.specs.Memory.{byte_in, mem, num_in, segments}
use Rattle.kl_model.specs.Sizes.{made_of, page_of, text_from}
use Rattle.kl_model.specs.Slots.{Entry, InSlot, entries, field_entry, is_loaded, is_moving, is_read_only, jump_entries, rela_entries, slot_entry, slot_kind, slots}
use Rattle.kl_elf.specs.declared.abi.TheConstants.{R_X86_64_RELATIVE}
use Rattle.std.proofs.Math.Nat.{mod-eq_of_lt}
use Rattle.kl_model.specs.Sound.{IsSoundTarget}
use Rattle.kl_model.specs.Tables.{dyn_text, got_bytes, no_dyn, relas_of, slot_value, spot_at}
use Rattle.kl_model.specs.Written.{byte_of}
use Rattle.kl_model.specs.declared.graph.Graph.{Graph}
use Rattle.kl_model.specs.declared.graph.Target.{Target}
use Rattle.kl_model.specs.declared.graph.Target.TheVariants.{Place, Abs, Edge, Name, Zero, Gone}
use Rattle.kl_model.specs.declared.kit.Kit.{Kit}
use Rattle.kl_model.specs.declared.kit.KitKind.TheVariants.{Library}
use Rattle.kl_model.specs.declared.object.Input.{Input}
use Rattle.kl_model.specs.declared.place.Body.TheVariants as body
use Rattle.kl_model.specs.declared.place.Gaps.{Gaps}
use Rattle.kl_model.specs.declared.place.Placement.{Placement}
use Rattle.kl_write.proofs.SlotWords.{byte_of_words, num_in_bytes}
use Rattle.kl_write.proofs.SoundLaid.{aligned, four_classes}
use Rattle.kl_write.proofs.WholeOrder.{whole_order}
use Rattle.kl_write.specs.LaidKits.{HasAreaAddresses, IsLaidKit, LibraryHolds}
use Rattle.kl_loading.specs.CarriedOut.{AreApart}
use Rattle.kl_loading.proofs.EntryPlaces.{base_zero, field_slot, got_within, plain_spot, slot_all, slot_spot, spot_field}
use Rattle.kl_loading.proofs.EntryValues.{moving_slot, name_slot}
use Rattle.kl_loading.proofs.LoadedNumbers.{IsThere, elsewhere, slot_sound, slot_there}

-- a target that moves with the base: its place at base 0, and at another
pub record MovesTo (p : Placement) (g : Graph) (base : ℕ) (r : ℕ → ℕ) (t : Target) : Type 0 where
  pub place : ℕ
  pub here : address_of p g t ≡ place % 2 ^ 64
  pub there : address_at base r p g t ≡ (base + place) % 2 ^ 64

module _ (kit : Kit) (inputs : List Input) (g : Graph) (gaps : Option Gaps) (order : List ℕ) (p : Placement) (library : kit.kind ≡ Library) (l : IsLaidKit kit g gaps order p) (numbers : HasAreaAddresses p)
    (writable : All (λ f. is_read_only (piece_at g f.piece).class f.kind f.target ≡ false) g.fields) (img : List ℕ) (holds : LibraryHolds img p kit inputs g gaps order)
    (tables : relas img ≡ relas_of p g (rela_entries g) ++ relas_of p g (jump_entries g)) (named : (n : ℕ) → n < length g.names → name_in img (suc n) ≡ Some (dyn_text inputs (get_or g.names n no_dyn)))
    (base : ℕ) (r : List ℕ → ℕ) (loads : IsLoadBase (page_of kit g) (span kit g gaps order (made_of kit g)) base) (words : (name : List ℕ) → r name < 2 ^ 64) where
  -- what the resolver gives for a dynamic name
  abbrev pub number_of : ℕ → ℕ
  number_of n = r (dyn_text inputs (get_or g.names n no_dyn))

  pub headers : segments img ≡ library_segments (page_of kit g) p
  headers = holds.file.segments ∙ ap (λ k. segments_for k (page_of kit g) p) library

  pub zero_base : p.base ≡ 0
  zero_base = base_zero kit g gaps order p library l writable

  -- data ends in the span, which fits at the base
  pub data_fits : base + (area_at p 2).end ≤ 2 ^ 64
  data_fits =
      let whole = whole_order g order l.whole in
      let four = four_classes kit g gaps order (made_of kit g) p l.laid l.small l.base l.sound whole in
      let n = page_of kit g in
      let text = reach (text_from kit g) (class_line kit g gaps order (made_of kit g) Text) in
      let rodata = reach (up text n) (class_line kit g gaps order (made_of kit g) Rodata) in
      let rwdata = reach (up rodata n) (class_line kit g gaps order (made_of kit g) Rwdata) in
      let first : class_end p Rodata ≡ rodata = four.rodata_end ∙ ap (λ t. reach (up t n) (class_line kit g gaps order (made_of kit g) Rodata)) four.text_end in
      let second : (area_at p 2).end ≡ rwdata = four.rwdata_end ∙ ap (λ t. reach (up t n) (class_line kit g gaps order (made_of kit g) Rwdata)) first in
      let third = le-up rwdata n (page-pos kit g) in
      let fourth = le-reach (up rwdata n) (class_line kit g gaps order (made_of kit g) Bss) (aligned kit g gaps order (made_of kit g) p l.laid l.small l.base l.sound whole Bss) in
      let b = l.origin library in
      let fits = loads.fits in
      omega (arith, second, third, fourth, b, fits)

  area_small : (n : ℕ) → ((get_or p.areas n no_area).start < 2 ^ 64) × ((get_or p.areas n no_area).end < 2 ^ 64)
  area_small n =
      elim (cases_lt n (length p.areas)) [
        | inl h ↦ numbers n no_area h
        | inr h ↦ (let e = get_or_past p.areas n no_area h in rw e (omega arith, omega arith))
      ]

  plain : (a : ℕ) → unwrapped p a ≡ a
  plain a = let none : nat_lt a p.base ≡ false = le-ltb a p.base (omega (arith, zero_base)) in rw none refl

  pub moves : (t : Target) → is_moving t ≡ true → MovesTo p g base number_of t
  moves (Place n k) e = record { place = place_of p g (body.Piece n) + k; here = refl; there = ap (λ m. m % 2 ^ 64) (omega arith) }
  moves (Edge n false) e =
      let w = area_small n in
      record { place = (get_or p.areas n no_area).start; here = omega (arith, w.0); there = ap (λ m. (base + m) % 2 ^ 64) (plain (get_or p.areas n no_area).start) }
  moves (Edge n true) e =
      let w = area_small n in
      record { place = (get_or p.areas n no_area).end; here = omega (arith, w.1); there = ap (λ m. (base + m) % 2 ^ 64) (plain (get_or p.areas n no_area).end) }
  moves (Abs n) e = cc
  moves (Name n) e = cc
  moves Zero e = cc
  moves Gone e = cc

  -- a slot that no loader writes
  slot_file : (k : ℕ) → k < length (slots g) → num_in (mem img) (slot_place p k) 8 ≡ slot_value kit p g (get_or (slots g) k Zero) % 2 ^ 64
  slot_file k h =
      num_in_bytes (mem img) (slot_place p k) 8 (slot_value kit p g (get_or (slots g) k Zero)) (λ j q.
      let place : slot_place p k + j ≡ (area_at p 13).start + (8 * k + j) = omega arith in
      let long : 8 * k + j < length (got_bytes kit g p) = omega (arith, words_long (slot_value kit p g) (slots g), h, q) in
      let held = holds.made.got (8 * k + j) long in
      rw place (held_byte ((area_at p 13).start + (8 * k + j)) (get_or (got_bytes kit g p) (8 * k + j) 0) held ∙ byte_of_words (slot_value kit p g) (slots g) k j Zero h q))
    where
      held_byte : (a b : ℕ) → HasByte img a b Rwdata → byte_in (mem img) a ≡ b
      held_byte a b e = rw e refl

      words_long : (f : Target → ℕ) (ts : List Target) → length (Rattle.std.specs.Prelude.flat_map (λ t. Rattle.kl_model.specs.Written.bytes_of 8 (f t)) ts) ≡ 8 * length ts
      words_long f [] = refl
      words_long f (t ∷ ts) =
          omega (arith, Rattle.std.proofs.Common.length-append (Rattle.kl_model.specs.Written.bytes_of 8 (f t)) (Rattle.std.specs.Prelude.flat_map (λ t. Rattle.kl_model.specs.Written.bytes_of 8 (f t)) ts), words_long f ts)

  abbrev Away : ℕ → Entry → Type 0
  Away k e = AreApart (slot_place p k) 8 (spot_at p g e.spot) 8

  turn : (a n b m : ℕ) → AreApart a n b m → AreApart b m a n
  turn a n b m (inl h) = inr h
  turn a n b m (inr h) = inl h

  -- where a slot has no entry, no entry writes its bytes
  slot_away : (k : ℕ) → k < length (slots g) → slot_entry g k (get_or (slots g) k Zero) ≡ None → All (Away k) (entries g)
  slot_away k h none =
      All-append (Away k) (each g.fields (λ m f. only_if (is_loaded f.kind f.target) (field_entry f f.target))) (each (slots g) (λ m t. option_to_list (slot_entry g m t)))
      (each-all (Away k) 0 (λ m f. only_if (is_loaded f.kind f.target) (field_entry f f.target)) g.fields (λ m d q.
      let f = get_or g.fields m d in
      all-only_if (Away k) (is_loaded f.kind f.target) (field_entry f f.target) (λ e.
      let at = spot_field kit g gaps order p library l writable m d q e in
      rw at (turn _ 8 (slot_place p k) 8 (field_slot kit g gaps order p library l writable m d k q h e)))))
      (each-all (Away k) 0 (λ m t. option_to_list (slot_entry g m t)) (slots g) (λ m d q.
      let z : 0 + m ≡ m = omega arith in
      rw z (slots_away m d q)))
    where
      other : (m : ℕ) (d : Target) → m < length (slots g) → (m < k) ⊎ (k < m) → All (Away k) (option_to_list (slot_entry g m (get_or (slots g) m d)))
      other m d q less = slot_all (Away k) g m (get_or (slots g) m d) (λ e s.
          let at = slot_spot kit g gaps order p library l writable e m q s in
          rw at (elim less [ inl a ↦ inr (omega (arith, a)) | inr a ↦ inl (omega (arith, a)) ]))

      default : (xs : List Target) (m : ℕ) (d : Target) → m < length xs → get_or xs m d ≡ get_or xs m Zero
      default [] m d q = absurd (omega (arith, q))
      default (x ∷ xs) zero d q = refl
      default (x ∷ xs) (suc m) d q = default xs m d (omega (arith, q))

      own : (m : ℕ) (d : Target) → m < length (slots g) → m ≡ k → All (Away k) (option_to_list (slot_entry g m (get_or (slots g) m d)))
      own m d q same = rw (default (slots g) m d q, same, none) (λ i e b. absurd (omega (arith, b)))

      slots_away : (m : ℕ) (d : Target) → m < length (slots g) → All (Away k) (option_to_list (slot_entry g m (get_or (slots g) m d)))
      slots_away m d q =
          elim (cases_lt m k) [
            | inl a ↦ other m d q (inl a)
            | inr a ↦ elim (cases_lt k m) [ inl b ↦ other m d q (inr b) | inr b ↦ own m d q (omega (arith, a, b)) ]
          ]

  slot_at : (k : ℕ) → k < length (slots g) → spot_at p g (InSlot k) ≡ slot_place p k
  slot_at k h = plain_spot kit g gaps order p library l writable (slot_place p k) (got_within kit g gaps order p library l writable k h).1

  -- the entries of a slot
  parts : (k : ℕ) → k < length (slots g) → (t : Target) → get_or (slots g) k Zero ≡ t → All (IsThere kit inputs g gaps order p library l writable img headers tables named base r) (option_to_list (slot_entry g k t))
  parts k h t is = rw is at (slot_there kit inputs g gaps order p library l writable img headers tables named base r k h)

  moving_entry : ℕ → Target → Entry
  moving_entry k t = record { spot = InSlot k; kind = R_X86_64_RELATIVE; symbol = 0; target = t; addend = pos 0 }

  by_moving : (k : ℕ) → k < length (slots g) → (t : Target) → (m : is_moving t ≡ true) → IsThere kit inputs g gaps order p library l writable img headers tables named base r (moving_entry k t)
      → num_in (loaded img base r) (base + slot_place p k) 8 ≡ address_at base number_of p g t
  unfolding moving_entry
  by_moving k h t m there =
      let value = ap (λ o. unwrap_or o 0) (moving_slot img base r p g inputs named (InSlot k) t m) in
      let w = moves t m in
      let here = w.here in
      let at_base = w.there in
      rw (slot_at k h) at there ∙ (ap (λ v. v % 2 ^ 64) value ∙ omega (arith, here, at_base))

  by_number : (k : ℕ) → k < length (slots g) → (t : Target) → get_or (slots g) k Zero ≡ t → slot_entry g k t ≡ None → (v : ℕ) → slot_value kit p g t ≡ v → v < 2 ^ 64
      → num_in (loaded img base r) (base + slot_place p k) 8 ≡ v
  by_number k h t is none v e small =
      elsewhere kit inputs g gaps order p library l writable img headers tables named base r (slot_place p k) 8 (slot_away k h (rw is none))
      ∙ (slot_file k h ∙ (ap (λ t. slot_value kit p g t % 2 ^ 64) is ∙ (ap (λ n. n % 2 ^ 64) e ∙ mod-eq_of_lt small)))

  still : (b : Bool) (n m : ℕ) → (if not b && false then n else m) ≡ m
  still true n m = refl
  still false n m = refl

  -- each slot holds its target
  slot_by : (k : ℕ) → k < length (slots g) → (t : Target) → get_or (slots g) k Zero ≡ t → IsSoundTarget kit g t → num_in (loaded img base r) (base + slot_place p k) 8 ≡ address_at base number_of p g t
  unfolding moving_entry
  slot_by k h (Name n) is s =
      let e : Entry = record { spot = InSlot k; kind = slot_kind g n; symbol = suc n; target = Name n; addend = pos 0 } in
      let there = parts k h (Name n) is 0 e (omega arith) in
      let value = ap (λ o. unwrap_or o 0) (name_slot img base r p g inputs named (InSlot k) n s) in
      rw (slot_at k h) at there ∙ (ap (λ v. v % 2 ^ 64) value ∙ mod-eq_of_lt (words (dyn_text inputs (get_or g.names n no_dyn))))
  slot_by k h (Place n j) is s = by_moving k h (Place n j) refl (parts k h (Place n j) is 0 (moving_entry k (Place n j)) (omega arith))
  slot_by k h (Edge n d) is s = by_moving k h (Edge n d) refl (parts k h (Edge n d) is 0 (moving_entry k (Edge n d)) (omega arith))
  slot_by k h (Abs n) is s = by_number k h (Abs n) is refl n (still (is_kernel kit.kind) 0 n) s
  slot_by k h Zero is s = by_number k h Zero is refl 0 (still (is_kernel kit.kind) 0 0) (omega arith)
  slot_by k h Gone is s = by_number k h Gone is refl 0 (still (is_kernel kit.kind) 0 0) (omega arith)

  pub slot_holds : (k : ℕ) → k < length (slots g) → num_in (loaded img base r) (base + slot_place p k) 8 ≡ address_at base number_of p g (get_or (slots g) k Zero)
  slot_holds k h = slot_by k h (get_or (slots g) k Zero) refl (slot_sound kit inputs g gaps order p library l writable img headers tables named base r k h)
