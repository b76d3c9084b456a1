-- The fields of any kit and fit inputs lie in their pieces, apart, and lead to numbers that are in their lists; with the pieces
-- the whole graph is sound.
use Rattle.std.proofs.Common.{ℕ, zero, suc, ◌≡◌, ◌+◌, ◌<◌, ◌≤◌, ◌∙◌, List, [], ◌∷◌, ◌++◌, length, get_or, map, refl, ap, subst, arith, Bool, true, false, not, ◌||◌, cond, inl, inr, ◌⊎◌, length-append, eqb-true}
use Rattle.std.specs.Prelude.{Some, None, Option, ◌==◌, All, AllPairs, IfSome, Result, Ok, Err, find, filter, codes, is_some, nat_lt, unwrap_or}
use Rattle.std.specs.Option.{option_and_then}
use Rattle.std.specs.Result.{result_unwrap_or}
use Rattle.std.specs.List.{list_all, list_any}
use Rattle.std.specs.Str.{bytes_eq}
use Rattle.std.proofs.lemmas.Bool.{cases_Bool, cases_lt, eqb-false, ltb-true, ne_eqb}
use Rattle.std.proofs.lemmas.Cmp.{nat_list_eq_equiv}
use Rattle.std.proofs.lemmas.List.{get_or_default, length-map}
use Rattle.std.proofs.lemmas.Map.Views.{any-filter_same}
use Rattle.kl_base.proofs.Bools.{and_left, and_right, equal_bytes, not_true, or_right}
use Rattle.kl_base.specs.declared.limits.TheConstants.{FIELD_COUNT_LIMIT, SECTION_COUNT_LIMIT, SYMBOL_COUNT_LIMIT}
use Rattle.kl_elf.specs.declared.abi.TheConstants.{R_X86_64_NONE, SHN_ABS, SHN_COMMON, SHT_NOBITS, STB_LOCAL, STB_WEAK}
use Rattle.kl_le.specs.Bytes.{Within}
use Rattle.kl_model.specs.Lists.{among, only_if}
use Rattle.kl_model.specs.Texts.{text_at}
use Rattle.kl_model.specs.Kept.{input_at, is_kept, name_at, no_input, no_symbol}
use Rattle.kl_model.specs.Names.{Occurrence, common_names, definition, holds_common, occurrences, piece_number, sorted_names}
use Rattle.kl_model.specs.Dynamic.{dyn_name, dynamic_names, is_exported, is_imported, is_importable, is_kept_field, is_of_name, is_replaceable, is_used, name_number}
use Rattle.kl_model.specs.Graphs.{Missing, Undefined, common_pieces, fields, global_target, graph, input_fields, input_pieces, kept_field, local_target, piece_of, section_pieces, section_piece, symbol_at, target, target_or}
use Rattle.kl_model.specs.Faults.{all_field_faults, input_faults}
use Rattle.kl_model.specs.Carries.{no_piece, piece_at}
use Rattle.kl_model.specs.Fit.{AreFit, IsFitField, IsFitSymbol, section_in}
use Rattle.kl_model.specs.Relocations.{is_kind, relocation_type, width}
use Rattle.kl_model.specs.Sound.{IsSoundField, IsSoundGraph, IsSoundTarget, StandApart}
use Rattle.kl_model.specs.declared.relocation.RelocationType.{RelocationType}
use Rattle.kl_model.specs.declared.relocation.TheConstants.{RELOCATION_TYPES}
use Rattle.kl_model.specs.declared.object.RawField.{RawField}
use Rattle.kl_model.specs.declared.object.Symbol.{Symbol}
use Rattle.kl_model.specs.declared.object.Input.{Input}
use Rattle.kl_model.specs.declared.kit.Kit.{Kit}
use Rattle.kl_model.specs.declared.graph.Field.{Field}
use Rattle.kl_model.specs.declared.graph.Target.{Target}
use Rattle.kl_model.specs.declared.graph.Target.TheVariants.{Name, Zero}
use Rattle.kl_model.specs.declared.link.LinkFault.TheVariants as fault
use Rattle.kl_model.proofs.Each.{all-only_if, each-all, each-empty, each-pairs, length-each-le, pairs-only_if}
use Rattle.kl_model.proofs.Kernels.{no_dynamic_names}
use Rattle.kl_model.proofs.StandOnce.{names_are}
use Rattle.kl_sym.proofs.FieldTargets.{field_faults_of, no_entry_at}
use Rattle.kl_sym.proofs.KeptPieces.{kept_known, number-lt, piece_there, same_piece}
use Rattle.kl_sym.proofs.PieceNumbers.{only_if-le, sum_by-ones}
use Rattle.kl_sym.proofs.SoundNames.{filter-short, name_count, names_sound, occurrence_count, once-short, ones}
use Rattle.kl_sym.proofs.SoundPieces.{any_in, bss_blank, parts_count, pieces_sound}
use Rattle.kl_sym.proofs.SoundTargets.{EdgesKnown, definition_sound, length-ones, number_known, place_sound, position-any}

-- A TYPE THAT IS LINKED HAS A WIDTH, but for R_X86_64_NONE
passes_found : {X : Type 0} (p q : X → Bool) (xs : List X) (x : X) → list_all p xs ≡ true → find q xs ≡ Some x → (p x ≡ true) × (q x ≡ true)
passes_found p q [] x all e = cc
passes_found p q (y ∷ ys) x all e =
    elim (cases_Bool (q y)) [
      | inl a ↦ let found : Some y ≡ Some x = rw a at e in let same : y ≡ x = cc in rw (← same) (and_left (p y) (list_all p ys) all, a)
      | inr a ↦ passes_found p q ys x (and_right (p y) (list_all p ys) all) (rw a at e)
    ]

pub linked_width : (kind : ℕ) → is_kind kind ≡ true → (kind == R_X86_64_NONE) ≡ false → 0 < width kind
linked_width kind linked some = go (relocation_type kind) refl linked
  where
    has_width : RelocationType → Bool
    has_width row = (row.number == R_X86_64_NONE) || nat_lt 0 row.width

    go : (o : Option RelocationType) → relocation_type kind ≡ o → is_some o ≡ true → 0 < width kind
    go None e l = cc
    go (Some row) e l =
        let both = passes_found has_width (λ row. row.number == kind) RELOCATION_TYPES row refl e in
        let number : row.number ≡ kind = eqb-true row.number kind both.1 in
        let none : (row.number == R_X86_64_NONE) ≡ false = rw number some in
        let wide : 0 < row.width = ltb-true 0 row.width (or_right (row.number == R_X86_64_NONE) _ both.0 none) in
        rw e wide

get_left : {X : Type 0} (xs ys : List X) (n : ℕ) (d : X) → n < length xs → get_or (xs ++ ys) n d ≡ get_or xs n d
get_left [] ys n d h = absurd (omega arith)
get_left (x ∷ xs) ys zero d h = refl
get_left (x ∷ xs) ys (suc n) d h = get_left xs ys n d (omega arith)

pub ranges_apart : (a w b v : ℕ) → 0 < w → 0 < v → ((q : ℕ) → Within a w q → Within b v q → ⊥) → (a + w ≤ b) ⊎ (b + v ≤ a)
ranges_apart a w b v h l out =
    elim (cases_lt a b) [
      | inl q ↦ elim (cases_lt b (a + w)) [ inl r ↦ absurd (out b (omega arith, r) (omega arith, omega arith)) | inr r ↦ inl r ]
      | inr q ↦ elim (cases_lt a (b + v)) [ inl r ↦ absurd (out a (omega arith, omega arith) (q, r)) | inr r ↦ inr r ]
    ]

-- only a section without bytes in the file is of the class bss
abbrev pub made_of_entry : Kit → List Input → ℕ → RawField → Field
made_of_entry kit inputs i f = record {
  from = record { input = i; section = f.rela; index = f.index };
  piece = piece_number kit inputs i f.section;
  offset = f.offset;
  kind = f.kind;
  addend = f.addend;
  target = result_unwrap_or (target kit inputs i f.section f.symbol) Zero;
}

module _ (kit : Kit) (inputs : List Input) (fit : AreFit inputs) where
  -- DYNAMIC NAMES
  names_length : length (graph kit inputs).names ≡ length (dynamic_names kit inputs)
  unfolding graph
  names_length = length-map (dynamic_names kit inputs) (dyn_name kit inputs)

  name_there : (i y : ℕ) → i < length inputs → y < length (input_at inputs i).object.symbols → ((symbol_at inputs i y).binding == STB_LOCAL) ≡ false
      → among (sorted_names inputs) (text_at (input_at inputs i).bytes (symbol_at inputs i y).name) ≡ true
  name_there i y h l local =
      let name = text_at (input_at inputs i).bytes (symbol_at inputs i y).name in
      let here : list_any (λ o. bytes_eq name o.name) (only_if (not ((symbol_at inputs i y).binding == STB_LOCAL)) (record { input = i; number = y; name = name; symbol = symbol_at inputs i y })) ≡ true =
      rw local (rw (nat_list_eq_equiv.refl name) refl) in
      names_are inputs name
      ∙ any_in (λ o. bytes_eq name o.name) _ inputs i no_input h (any_in (λ o. bytes_eq name o.name) _ (input_at inputs i).object.symbols y no_symbol l here)

  name_sound : (name : List ℕ) → among (sorted_names inputs) name ≡ true → (is_exported kit inputs name || is_imported kit inputs name) ≡ true
      → name_number kit inputs name < length (graph kit inputs).names
  name_sound name there shown =
      let any = any-filter_same (bytes_eq name) (λ n. is_exported kit inputs n || is_imported kit inputs n) true (λ n e. passed n (equal_bytes name n e)) (sorted_names inputs) ∙ there in
      let at = position-any (bytes_eq name) 0 (dynamic_names kit inputs) any in
      let number : name_number kit inputs name ≡ 0 + at.0 = ap (λ o. unwrap_or o 0) at.2 in
      let low = at.1 in
      let many = names_length in
      omega arith
    where
      passed : (n : List ℕ) → name ≡ n → (is_exported kit inputs n || is_imported kit inputs n) ≡ true
      passed n same = subst (λ n. (is_exported kit inputs n || is_imported kit inputs n) ≡ true) same shown

  -- A FIELD OF A KEPT SECTION
  module _ (i k : ℕ) (h : i < length inputs) (l : k < length (input_at inputs i).object.fields) where
    abbrev f : RawField
    f = get_or (input_at inputs i).object.fields k no_entry_at

    raw : IsFitField (input_at inputs i).object f
    raw = (fit.each_input i no_input h).fields k no_entry_at l

    module _ (kept : is_kept_field kit inputs i f ≡ true) where
      in_kept : is_kept kit inputs i f.section ≡ true
      in_kept = and_left (is_kept kit inputs i f.section) _ kept

      some_type : (f.kind == R_X86_64_NONE) ≡ false
      some_type = not_true (f.kind == R_X86_64_NONE) (and_right (is_kept kit inputs i f.section) _ kept)

      abbrev symbol : Symbol
      symbol = symbol_at inputs i f.symbol

      fit_symbol : IsFitSymbol (input_at inputs i).bytes (length (input_at inputs i).object.sections) symbol
      fit_symbol = (fit.each_input i no_input h).symbols.each_symbol f.symbol no_symbol raw.symbol

      -- the entry's name is used
      used : (f.symbol == 0) ≡ false → (symbol.binding == STB_LOCAL) ≡ false → is_used kit inputs (text_at (input_at inputs i).bytes symbol.name) ≡ true
      used some global =
          let name = text_at (input_at inputs i).bytes symbol.name in
          let named : is_of_name (input_at inputs i) name f ≡ true = rw (some, global) (nat_list_eq_equiv.refl name) in
          any_in (λ b. b) _ inputs i no_input h (any_in (λ b. b) _ (input_at inputs i).object.fields k no_entry_at l (rw (named, kept) refl))

      global_sound : EdgesKnown kit → (f.symbol == 0) ≡ false → (symbol.binding == STB_LOCAL) ≡ false
          → IsSoundTarget kit (graph kit inputs) (result_unwrap_or (global_target kit inputs (text_at (input_at inputs i).bytes symbol.name) symbol.binding) Zero)
      global_sound known some global =
          let name = text_at (input_at inputs i).bytes symbol.name in
          let there = name_there i f.symbol h raw.symbol global in
          elim (cases_Bool (is_replaceable kit inputs name)) [
            | inl a ↦
                let exported : is_exported kit inputs name ≡ true = and_right _ (is_exported kit inputs name) (and_right _ _ a) in
                rw a (name_sound name there (rw exported refl))
            | inr a ↦ elim (cases_Bool (is_importable kit inputs name)) [
              | inl b ↦ rw (a, b) (found (definition kit inputs name) (Ok (Name (name_number kit inputs name))) (definition_sound kit inputs fit known name)
                  (name_sound name there (or_is (is_exported kit inputs name) (is_imported kit inputs name) (rw (b, used some global) refl))))
              | inr b ↦ rw (a, b) (found (definition kit inputs name) _ (definition_sound kit inputs fit known name) (weak_or_not (symbol.binding == STB_WEAK)))
            ]
          ]
        where
          or_is : (a b : Bool) → b ≡ true → (a || b) ≡ true
          or_is true b e = refl
          or_is false b e = e

          found : (o : Option Target) (r : Result Target Missing) → IfSome o (IsSoundTarget kit (graph kit inputs)) → IsSoundTarget kit (graph kit inputs) (result_unwrap_or r Zero)
              → IsSoundTarget kit (graph kit inputs) (result_unwrap_or (target_or o r) Zero)
          found None r s z = z
          found (Some t) r s z = s

          weak_or_not : (b : Bool) → IsSoundTarget kit (graph kit inputs) (result_unwrap_or (cond b (Ok Zero) (Err Undefined)) Zero)
          weak_or_not true = tt
          weak_or_not false = tt

      local_sound : (f.symbol == 0) ≡ false → (symbol.binding == STB_LOCAL) ≡ true → IsSoundTarget kit (graph kit inputs) (result_unwrap_or (local_target kit inputs i f.section symbol) Zero)
      local_sound some local =
          elim (cases_Bool (symbol.section == SHN_ABS)) [
            | inl a ↦ rw a fit_symbol.words.0
            | inr a ↦ elim (cases_Bool (is_kept kit inputs i symbol.section)) [
              | inl b ↦ rw (a, b) (place_sound kit inputs fit (input_at inputs i).bytes (length (input_at inputs i).object.sections) i symbol fit_symbol a not_common b)
              | inr b ↦ elim (cases_Bool (bytes_eq (name_at inputs i f.section) (codes ".eh_frame"))) [ inl c ↦ rw (a, b, c) tt | inr c ↦ rw (a, b, c) tt ]
            ]
          ]
        where
          not_common : (symbol.section == SHN_COMMON) ≡ false
          not_common =
              let number = eqb-false f.symbol 0 some in
              let apart = (fit.each_input i no_input h).symbols.others f.symbol no_symbol (omega (arith, number)) raw.symbol (eqb-true symbol.binding STB_LOCAL local) in
              elim (cases_Bool (symbol.section == SHN_COMMON)) [ inl c ↦ absurd (apart.1 (eqb-true symbol.section SHN_COMMON c)) | inr c ↦ c ]

      target_sound : EdgesKnown kit → IsSoundTarget kit (graph kit inputs) (result_unwrap_or (target kit inputs i f.section f.symbol) Zero)
      target_sound known =
          elim (cases_Bool (f.symbol == 0)) [
            | inl a ↦ rw a (omega arith)
            | inr a ↦ elim (cases_Bool (symbol.binding == STB_LOCAL)) [
              | inl b ↦ rw (a, b) (local_sound a b)
              | inr b ↦ rw (a, b) (global_sound known a b)
            ]
          ]

      piece_is : piece_at (graph kit inputs) (piece_number kit inputs i f.section) ≡ piece_of kit i (input_at inputs i) f.section (section_in (input_at inputs i).object f.section)
      unfolding graph
      piece_is =
          let known = kept_known kit inputs i f.section in_kept in
          let number_low = number-lt kit inputs i known.1.0 known.0 known.1.2 (rw known.1.1 at in_kept) in
          rw known.1.1 (get_left (section_pieces kit inputs) (common_pieces kit inputs) _ no_piece number_low ∙ piece_there kit inputs i known.1.0 known.0 known.1.2 (rw known.1.1 at in_kept) no_piece)

      pub linked : all_field_faults kit inputs ≡ [] → is_kind f.kind ≡ true
      linked sound =
          let zero_i : 0 + i ≡ i = omega arith in
          let all = rw zero_i at (each-empty 0 (input_faults kit inputs) inputs sound i no_input h) in
          let none = each-empty 0 (λ k f. field_faults_of kit inputs i f) (input_at inputs i).object.fields all k no_entry_at l in
          elim (cases_Bool (is_kind f.kind)) [
            | inl a ↦ a
            | inr a ↦ let some : fault.Kind (record { input = i; section = f.rela; index = f.index }) f.kind ∷ _ ≡ [] = rw (kept, a) at none in cc
          ]

      wide : all_field_faults kit inputs ≡ [] → 0 < width f.kind
      wide sound = linked_width f.kind (linked sound) some_type

      pub entry_sound : EdgesKnown kit → all_field_faults kit inputs ≡ [] → IsSoundField kit (graph kit inputs) (made_of_entry kit inputs i f)
      entry_sound known sound =
          let some_bytes : ((section_in (input_at inputs i).object f.section).kind == SHT_NOBITS) ≡ false = ne_eqb (section_in (input_at inputs i).object f.section).kind SHT_NOBITS raw.bytes in
          record {
            piece = number_known kit inputs fit i f.section in_kept;
            wide = wide sound;
            inside = rw (piece_is, some_bytes) raw.inside;
            class = rw piece_is (λ e. (let b = bss_blank (section_in (input_at inputs i).object f.section) e in cc));
            addend = raw.addend;
            target = target_sound known;
          }

  -- ALL FIELDS
  module _ (sound : all_field_faults kit inputs ≡ []) where
    -- what holds of the field of each kept entry holds of all fields
    pub all_fields : (P : Field → Type 0)
        → ((i k : ℕ) (h : i < length inputs) (l : k < length (input_at inputs i).object.fields) (kept : is_kept_field kit inputs i (get_or (input_at inputs i).object.fields k no_entry_at) ≡ true)
        → P (made_of_entry kit inputs i (get_or (input_at inputs i).object.fields k no_entry_at)))
        → All P (fields kit inputs)
    all_fields P holds =
        each-all P 0 (input_fields kit inputs) inputs (λ i d h.
        let x : get_or inputs i d ≡ input_at inputs i = get_or_default inputs i d no_input h in
        let z : 0 + i ≡ i = omega arith in
        rw (x, z) (each-all P 0 (λ k f. kept_field kit inputs i f) (input_at inputs i).object.fields (λ k e l.
        let f : get_or (input_at inputs i).object.fields k e ≡ get_or (input_at inputs i).object.fields k no_entry_at = get_or_default (input_at inputs i).object.fields k e no_entry_at l in
        rw f (all-only_if P _ _ (λ kept. holds i k h l kept)))))

    apart_in : (i k j : ℕ) (h : i < length inputs) → k < j → (l : j < length (input_at inputs i).object.fields) → (m : k < length (input_at inputs i).object.fields)
        → is_kept_field kit inputs i (get_or (input_at inputs i).object.fields k no_entry_at) ≡ true
        → is_kept_field kit inputs i (get_or (input_at inputs i).object.fields j no_entry_at) ≡ true
        → StandApart (made_of_entry kit inputs i (get_or (input_at inputs i).object.fields k no_entry_at)) (made_of_entry kit inputs i (get_or (input_at inputs i).object.fields j no_entry_at))
    apart_in i k j h less l m a b e =
        let f = get_or (input_at inputs i).object.fields k no_entry_at in
        let g = get_or (input_at inputs i).object.fields j no_entry_at in
        let same = same_piece kit inputs i f.section i g.section (and_left _ (not (f.kind == R_X86_64_NONE)) a) (and_left _ (not (g.kind == R_X86_64_NONE)) b) e in
        let no_byte = (fit.each_input i no_input h).apart k j no_entry_at less l in
        ranges_apart f.offset (width f.kind) g.offset (width g.kind) (wide i k h m a sound) (wide i j h l b sound) (λ q x y. no_byte same.1 q x y)

    apart_inputs : (i j : ℕ) (f g : RawField) → i < j → is_kept_field kit inputs i f ≡ true → is_kept_field kit inputs j g ≡ true → StandApart (made_of_entry kit inputs i f) (made_of_entry kit inputs j g)
    apart_inputs i j f g less a b e =
        let same = (same_piece kit inputs i f.section j g.section (and_left _ (not (f.kind == R_X86_64_NONE)) a) (and_left _ (not (g.kind == R_X86_64_NONE)) b) e).0 in
        absurd (omega arith)

    pub fields_apart : AllPairs StandApart (fields kit inputs)
    fields_apart =
        each-pairs StandApart 0 (input_fields kit inputs) inputs
        (λ i d h.
        let x : get_or inputs i d ≡ input_at inputs i = get_or_default inputs i d no_input h in
        let z : 0 + i ≡ i = omega arith in
        rw (x, z) (inside i h))
        (λ i j d less h.
        let first : i < length inputs = omega arith in
        let x : get_or inputs i d ≡ input_at inputs i = get_or_default inputs i d no_input first in
        let y : get_or inputs j d ≡ input_at inputs j = get_or_default inputs j d no_input h in
        let z : 0 + i ≡ i = omega arith in
        let w : 0 + j ≡ j = omega arith in
        rw (x, y, z, w) (between i j less))
      where
        inside : (i : ℕ) → i < length inputs → AllPairs StandApart (input_fields kit inputs i (input_at inputs i))
        inside i h =
            let fs = (input_at inputs i).object.fields in
            each-pairs StandApart 0 (λ k f. kept_field kit inputs i f) fs
            (λ k d l. pairs-only_if StandApart (is_kept_field kit inputs i (get_or fs k d)) (made_of_entry kit inputs i (get_or fs k d)))
            (λ k j d less l.
            let m : k < length fs = omega arith in
            let f : get_or fs k d ≡ get_or fs k no_entry_at = get_or_default fs k d no_entry_at m in
            let g : get_or fs j d ≡ get_or fs j no_entry_at = get_or_default fs j d no_entry_at l in
            rw (f, g) (all-only_if (λ y. All (StandApart y) (kept_field kit inputs i (get_or fs j no_entry_at))) (is_kept_field kit inputs i (get_or fs k no_entry_at)) (made_of_entry kit inputs i (get_or fs k no_entry_at))
            (λ a. all-only_if (StandApart (made_of_entry kit inputs i (get_or fs k no_entry_at))) (is_kept_field kit inputs i (get_or fs j no_entry_at)) (made_of_entry kit inputs i (get_or fs j no_entry_at)) (λ b. apart_in i k j h less l m a b))))

        between : (i j : ℕ) → i < j → All (λ y. All (StandApart y) (input_fields kit inputs j (input_at inputs j))) (input_fields kit inputs i (input_at inputs i))
        between i j less =
            each-all (λ y. All (StandApart y) (input_fields kit inputs j (input_at inputs j))) 0 (λ k f. kept_field kit inputs i f) (input_at inputs i).object.fields (λ k d l.
            let f = get_or (input_at inputs i).object.fields k d in
            all-only_if (λ y. All (StandApart y) (input_fields kit inputs j (input_at inputs j))) (is_kept_field kit inputs i f) (made_of_entry kit inputs i f) (λ a.
            each-all (StandApart (made_of_entry kit inputs i f)) 0 (λ k f. kept_field kit inputs j f) (input_at inputs j).object.fields (λ m e n.
            let g = get_or (input_at inputs j).object.fields m e in
            all-only_if (StandApart (made_of_entry kit inputs i f)) (is_kept_field kit inputs j g) (made_of_entry kit inputs j g) (λ b. apart_inputs i j f g less a b))))

  -- HOW MANY THERE ARE
  pub field_count : length (fields kit inputs) ≤ FIELD_COUNT_LIMIT
  field_count =
      let many = length-each-le 0 (input_fields kit inputs) (λ x. length x.object.fields) inputs
      (λ i x. omega (arith, length-each-le 0 (λ k f. kept_field kit inputs i f) (λ f. 1) x.object.fields (λ k f. only_if-le (is_kept_field kit inputs i f) (made_of_entry kit inputs i f)), ones x.object.fields)) in
      let limit = fit.fields in
      omega arith

  pub section_count : length (section_pieces kit inputs) ≤ SECTION_COUNT_LIMIT
  section_count =
      let many = length-each-le 0 (input_pieces kit inputs) (λ x. length x.object.sections) inputs
      (λ i x. omega (arith, length-each-le 1 (section_piece kit inputs i x) (λ y. 1) x.object.sections (λ s y. only_if-le (is_kept kit inputs i s) (piece_of kit i x s y)), sum_by-ones x.object.sections)) in
      let limit = fit.sections in
      omega arith

  common_count : length (common_pieces kit inputs) ≤ SYMBOL_COUNT_LIMIT
  common_count =
      let pieces : length (common_pieces kit inputs) ≡ length (common_names kit inputs) = length-ones 0 _ (common_names kit inputs) in
      let names = once-short (map (λ (o : Occurrence). o.name) (filter (holds_common kit inputs) (occurrences inputs))) in
      let mapped = length-map (filter (holds_common kit inputs) (occurrences inputs)) (λ (o : Occurrence). o.name) in
      let kept = filter-short (holds_common kit inputs) (occurrences inputs) in
      let limit = occurrence_count kit inputs fit in
      omega arith

  -- A SOUND GRAPH
  pub graph_sound : EdgesKnown kit → all_field_faults kit inputs ≡ [] → IsSoundGraph kit (graph kit inputs)
  unfolding graph
  graph_sound known sound = record {
    pieces = pieces_sound kit inputs fit;
    fields = all_fields sound (IsSoundField kit (graph kit inputs)) (λ i k h l kept. entry_sound i k h l kept known sound);
    apart = fields_apart sound;
    entry = entry_sound_of kit.entry;
    names = names_sound kit inputs fit;
    kernel = λ kernel. rw (no_dynamic_names kit kernel inputs) refl;
    piece_count = (let all = length-append (section_pieces kit inputs) (common_pieces kit inputs) in let a = section_count in let b = common_count in omega arith);
    field_count = field_count;
    name_count = name_count kit inputs fit;
    input_count = (let n = parts_count kit inputs fit in let few = fit.count in omega arith);
  }
    where
      entry_sound_of : (e : Option (List ℕ)) → IfSome (option_and_then (definition kit inputs) e) (IsSoundTarget kit (graph kit inputs))
      entry_sound_of None = tt
      entry_sound_of (Some name) = definition_sound kit inputs fit known name
