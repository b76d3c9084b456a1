-- The numbers in a library's loaded memory: those of entries, and all others.
use Rattle.std.proofs.Common.{ℕ, zero, suc, ◌≡◌, ◌+◌, ◌%◌, ◌^◌, ◌<◌, List, [], ◌∷◌, ◌++◌, length, get_or, refl, ap, sym, subst, arith, Bool, true, false, inl, inr, nat_lt}
use Rattle.std.specs.Prelude.{◌&&◌, ◌==◌, All, AllPairs, FitsSigned, Option, Some, is_some, option_to_list, unwrap_or}
use Rattle.std.specs.Int.{w64}
use Rattle.std.proofs.lemmas.List.Elements.{All-append}
use Rattle.kl_elf.specs.declared.abi.TheConstants.{R_X86_64_64}
use Rattle.kl_elf.specs.declared.records.Rela.{Rela}
use Rattle.kl_model.proofs.Each.{all-only_if, each-all}
use Rattle.kl_model.specs.Carries.{library_segments, piece_at}
use Rattle.kl_model.specs.Lists.{each, each_from, only_if}
use Rattle.kl_model.specs.Loaded.{is_covered, loaded, name_in, rela_value, relas}
use Rattle.kl_model.specs.Memory.{mem, num_in, segments}
use Rattle.kl_model.specs.Sizes.{page_of}
use Rattle.kl_model.specs.Slots.{Entry, InSlot, entries, field_entry, is_jump, is_loaded, is_read_only, jump_entries, rela_entries, slot_entry, slots}
use Rattle.kl_model.specs.Sound.{IsSoundField, IsSoundTarget}
use Rattle.kl_model.specs.Tables.{dyn_text, no_dyn, rela_of, relas_of, spot_at}
use Rattle.kl_model.specs.declared.graph.Field.{Field}
use Rattle.kl_model.specs.declared.graph.Graph.{Graph}
use Rattle.kl_model.specs.declared.graph.Target.{Target}
use Rattle.kl_model.specs.declared.graph.Target.TheVariants.{Place, Abs, Edge, Name, Zero, Gone}
use Rattle.kl_model.specs.declared.kit.Kit.{Kit}
use Rattle.kl_model.specs.declared.kit.KitKind.TheVariants.{Library}
use Rattle.kl_model.specs.declared.object.Input.{Input}
use Rattle.kl_model.specs.declared.place.Gaps.{Gaps}
use Rattle.kl_model.specs.declared.place.Placement.{Placement}
use Rattle.kl_write.proofs.ImageFile.{all_in}
use Rattle.kl_write.proofs.SlotWords.{in_slots}
use Rattle.kl_write.proofs.SoundLaid.{in_get}
use Rattle.kl_write.specs.LaidKits.{IsLaidKit}
use Rattle.kl_loading.specs.CarriedOut.{AreApart, AreEntries, EntriesApart, HasValues}
use Rattle.kl_loading.proofs.EntryBytes.{carried_out}
use Rattle.kl_loading.proofs.EntryPlaces.{all_apart, all_in_data, covered_data}
use Rattle.kl_loading.proofs.EntryValues.{moving_field, moving_slot, name_field, name_slot}
use Rattle.kl_loading.proofs.TwoTables.{all_back, all_left, all_right, all_tables, pairs_tables}

single : {X : Type 0} (P : X → Type 0) (x : X) → P x → All P (x ∷ [])
single P x h zero d l = h
single P x h (suc k) d l = absurd (omega (arith, l))

-- what holds of all that is given holds of what one item gives
each_part : {X Y : Type 0} (P : Y → Type 0) (n : ℕ) (f : ℕ → X → List Y) (xs : List X) → All P (each_from n f xs) → (k : ℕ) (d : X) → k < length xs → All P (f (n + k) (get_or xs k d))
each_part P n f [] h k d l = absurd (omega (arith, l))
each_part P n f (x ∷ xs) h zero d l = let z : n + 0 ≡ n = omega arith in rw z (all_left P (f n x) (each_from (suc n) f xs) h)
each_part P n f (x ∷ xs) h (suc k) d l =
    let next : suc n + k ≡ n + suc k = omega arith in
    rw next at (each_part P (suc n) f xs (all_right P (f n x) (each_from (suc n) f xs) h) k d (omega (arith, l)))

turned : (x y : Rela) → EntriesApart x y → EntriesApart y x
turned x y (inl h) = inr h
turned x y (inr h) = inl h

module _ (kit : Kit) (inputs : List Input) (g : Graph) (gaps : Option Gaps) (order : List ℕ) (p : Placement) (library : kit.kind ≡ Library) (l : IsLaidKit kit g gaps order p)
    (writable : All (λ f. is_read_only (piece_at g f.piece).class f.kind f.target ≡ false) g.fields) (img : List ℕ) (headers : segments img ≡ library_segments (page_of kit g) p)
    (tables : relas img ≡ relas_of p g (rela_entries g) ++ relas_of p g (jump_entries g)) (named : (n : ℕ) → n < length g.names → name_in img (suc n) ≡ Some (dyn_text inputs (get_or g.names n no_dyn)))
    (base : ℕ) (r : List ℕ → ℕ) where
  abbrev before : Rela → Rela → Bool
  before x y = nat_lt x.offset y.offset

  abbrev of_field : ℕ → Field → List Entry
  of_field k f = only_if (is_loaded f.kind f.target) (field_entry f f.target)

  abbrev of_slot : ℕ → Target → List Entry
  of_slot k t = option_to_list (slot_entry g k t)

  -- each entry has a value
  abbrev HasValue : Entry → Type 0
  HasValue e = is_some (rela_value img base r (rela_of p g e)) ≡ true

  pub slot_sound : (k : ℕ) → k < length (slots g) → IsSoundTarget kit g (get_or (slots g) k Zero)
  slot_sound k h =
      let s = in_slots g (get_or (slots g) k Zero) (in_get (slots g) k Zero h) in
      subst (IsSoundTarget kit g) s.2 (all_in (IsSoundField kit g) g.fields s.0 l.sound.fields s.1).target

  field_known : (f : Field) (t : Target) → IsSoundTarget kit g t → FitsSigned w64 f.addend → is_loaded f.kind t ≡ true → HasValue (field_entry f t)
  field_known f (Place n k) s a e = ap is_some (moving_field img base r p g inputs named f (Place n k) refl a)
  field_known f (Edge n d) s a e = ap is_some (moving_field img base r p g inputs named f (Edge n d) refl a)
  field_known f (Name n) s a e = ap is_some (name_field img base r p g inputs named f n s a)
  field_known f (Abs n) s a e = never (f.kind == R_X86_64_64) e
    where
      never : (b : Bool) → (b && false) ≡ true → HasValue (field_entry f (Abs n))
      never true e = cc
      never false e = cc
  field_known f Zero s a e = never (f.kind == R_X86_64_64) e
    where
      never : (b : Bool) → (b && false) ≡ true → HasValue (field_entry f Zero)
      never true e = cc
      never false e = cc
  field_known f Gone s a e = never (f.kind == R_X86_64_64) e
    where
      never : (b : Bool) → (b && false) ≡ true → HasValue (field_entry f Gone)
      never true e = cc
      never false e = cc

  slot_known : (k : ℕ) (t : Target) → IsSoundTarget kit g t → All HasValue (of_slot k t)
  slot_known k (Name n) s = single HasValue _ (ap is_some (name_slot img base r p g inputs named (InSlot k) n s))
  slot_known k (Place n j) s = single HasValue _ (ap is_some (moving_slot img base r p g inputs named (InSlot k) (Place n j) refl))
  slot_known k (Edge n d) s = single HasValue _ (ap is_some (moving_slot img base r p g inputs named (InSlot k) (Edge n d) refl))
  slot_known k (Abs n) s = λ i d q. absurd (omega (arith, q))
  slot_known k Zero s = λ i d q. absurd (omega (arith, q))
  slot_known k Gone s = λ i d q. absurd (omega (arith, q))

  default : (xs : List Target) (k : ℕ) (d : Target) → k < length xs → get_or xs k d ≡ get_or xs k Zero
  default [] k d h = absurd (omega (arith, h))
  default (x ∷ xs) zero d h = refl
  default (x ∷ xs) (suc k) d h = default xs k d (omega (arith, h))

  all_known : All HasValue (entries g)
  all_known =
      All-append HasValue (each g.fields of_field) (each (slots g) of_slot)
      (each-all HasValue 0 of_field g.fields (λ k d h.
      let f = get_or g.fields k d in
      let s = l.sound.fields k d h in
      all-only_if HasValue (is_loaded f.kind f.target) (field_entry f f.target) (field_known f f.target s.target s.addend)))
      (each-all HasValue 0 of_slot (slots g) (λ k d h. let z : 0 + k ≡ k = omega arith in rw (z, default (slots g) k d h) (slot_known k (get_or (slots g) k Zero) (slot_sound k h))))

  are_entries : AreEntries img base r (relas img)
  are_entries = record {
    covered = subst (All (λ e. is_covered img e.offset ≡ true)) (sym tables)
        (all_tables (rela_of p g) is_jump before (entries g) (λ e. is_covered img e.offset ≡ true)
        (λ k d h. let w = all_in_data kit g gaps order p library l writable k d h in covered_data kit g gaps order p library l writable img (spot_at p g (get_or (entries g) k d).spot) headers w.0 w.1));
    known = subst (All (λ e. is_some (rela_value img base r e) ≡ true)) (sym tables) (all_tables (rela_of p g) is_jump before (entries g) (λ e. is_some (rela_value img base r e) ≡ true) all_known);
    apart = subst (AllPairs EntriesApart) (sym tables) (pairs_tables (rela_of p g) is_jump before (entries g) EntriesApart turned (all_apart kit g gaps order p library l writable));
  }

  values : HasValues img base r (relas img)
  values = carried_out img base r are_entries

  -- the number of each entry
  abbrev pub IsThere : Entry → Type 0
  IsThere e = num_in (loaded img base r) (base + spot_at p g e.spot) 8 ≡ unwrap_or (rela_value img base r (rela_of p g e)) 0 % 2 ^ 64

  all_there : All IsThere (entries g)
  all_there =
      all_back (rela_of p g) is_jump before (entries g) (λ e. num_in (loaded img base r) (base + e.offset) 8 ≡ unwrap_or (rela_value img base r e) 0 % 2 ^ 64)
      (subst (All (λ e. num_in (loaded img base r) (base + e.offset) 8 ≡ unwrap_or (rela_value img base r e) 0 % 2 ^ 64)) tables values.entries)

  pub field_there : (i : ℕ) (d : Field) → i < length g.fields → is_loaded (get_or g.fields i d).kind (get_or g.fields i d).target ≡ true → IsThere (field_entry (get_or g.fields i d) (get_or g.fields i d).target)
  field_there i d h e =
      let f = get_or g.fields i d in
      let part : All IsThere (of_field (0 + i) f) = each_part IsThere 0 of_field g.fields (all_left IsThere (each g.fields of_field) (each (slots g) of_slot) all_there) i d h in
      (rw e at part) 0 (field_entry f f.target) (omega arith)

  pub slot_there : (k : ℕ) → k < length (slots g) → All IsThere (of_slot k (get_or (slots g) k Zero))
  slot_there k h =
      let z : 0 + k ≡ k = omega arith in
      rw z at (each_part IsThere 0 of_slot (slots g) (all_right IsThere (each g.fields of_field) (each (slots g) of_slot) all_there) k Zero h)

  -- and what no entry writes
  pub elsewhere : (a w : ℕ) → All (λ (e : Entry). AreApart a w (spot_at p g e.spot) 8) (entries g) → num_in (loaded img base r) (base + a) w ≡ num_in (mem img) a w
  elsewhere a w away =
      values.others a w (subst (All (λ (e : Rela). AreApart a w e.offset 8)) (sym tables) (all_tables (rela_of p g) is_jump before (entries g) (λ (e : Rela). AreApart a w e.offset 8) away))
