-- What each made input gives to a graph: two pieces, two symbols that aren't LOCAL, and two fields that lead to texts.
use Rattle.std.proofs.Common.{ℕ, suc, ◌≡◌, ◌+◌, ◌<◌, ◌⊎◌, ◌∙◌, List, [], ◌∷◌, length, get_or, refl, ap, arith, true, false, ◌&&◌, inl, inr}
use Rattle.std.specs.Prelude.{Some, Ok, ◌==◌, All, filter}
use Rattle.std.specs.List.{list_any}
use Rattle.std.specs.Str.{bytes_eq}
use Rattle.std.proofs.lemmas.Bool.{cases_lt}
use Rattle.std.proofs.lemmas.Cmp.{nat_list_eq_equiv}
use Rattle.std.proofs.lemmas.List.{get_or_default, get_or_past}
use Rattle.std.proofs.lemmas.List.Elements.{All-cons, All-filter}
use Rattle.kl_base.proofs.Bools.{alone, and_right}
use Rattle.kl_elf.specs.declared.abi.TheConstants.{SHF_ALLOC, SHN_UNDEF, STB_GLOBAL}
use Rattle.kl_model.specs.Faults.{is_global_definition}
use Rattle.kl_model.specs.Graphs.{input_pieces, piece_of, section_piece, symbol_at, target}
use Rattle.kl_model.specs.Kept.{input_at, is_kept, no_input, no_section, section_at}
use Rattle.kl_model.specs.Lists.{each_from}
use Rattle.kl_model.specs.Names.{Occurrence, definition, first_definition, is_definition, occurrences, occurrences_of, piece_number}
use Rattle.kl_model.specs.Texts.{has, text_at}
use Rattle.kl_model.specs.declared.graph.Piece.{Piece}
use Rattle.kl_model.specs.declared.graph.Target.TheVariants.{Place}
use Rattle.kl_model.specs.declared.kit.Kit.{Kit}
use Rattle.kl_model.specs.declared.object.Input.{Input}
use Rattle.kl_model.specs.declared.object.Section.{Section}
use Rattle.kl_model.proofs.Each.{each-all, each-none}
use Rattle.kl_model.proofs.Kernels.{kernel_target}
use Rattle.kl_model.proofs.StandOnce.{any-filter}
use Rattle.kl_names.specs.Walked.{occurrence, occurring_in}
use Rattle.kl_sym.proofs.SoundPieces.{any_in}
use Rattle.kl_sym.proofs.SoundTargets.{find_is}
use Rattle.kl_generate.specs.Made.{AreMade, IsMadeInput, made_kit, made_name}
use Rattle.kl_generate.proofs.ListsMade.{found, two-give}

-- a symbol that isn't LOCAL stands at the start of section 1, or is undefined
abbrev pub IsMadeAt : Occurrence → Type 0
IsMadeAt o = ((o.symbol.section ≡ 1) × (o.symbol.value ≡ 0)) ⊎ (o.symbol.section ≡ SHN_UNDEF)

module _ (n : ℕ) (inputs : List Input) (made : AreMade n inputs) where
  abbrev pub kit : Kit
  kit = made_kit n

  module _ (i : ℕ) (h : i < n) where
    abbrev pub x : Input
    x = input_at inputs i

    abbrev pub m : IsMadeInput n i (input_at inputs i)
    m = made.each_input i h

    -- KEPT SECTIONS
    pub text_kept : is_kept kit inputs i 1 ≡ true
    text_kept = rw (m.sections, m.is_text.flagged, m.groups) refl

    pub data_kept : is_kept kit inputs i 2 ≡ true
    data_kept = rw (m.sections, m.is_data.flagged, m.groups) refl

    unmarked : (s : ℕ) → has (section_at inputs i s).flags SHF_ALLOC ≡ false → is_kept kit inputs i s ≡ false
    unmarked s e = rw e refl

    other_unkept : (k : ℕ) → is_kept kit inputs i (suc (suc (suc k))) ≡ false
    other_unkept k = unmarked (suc (suc (suc k))) (rw m.sections (elim (cases_lt k (length m.others)) [
      | inl l ↦ m.unallocated k no_section l
      | inr l ↦ rw (get_or_past m.others k no_section l) refl
    ]))

    -- THE PIECES
    abbrev pub text_piece : Piece
    text_piece = piece_of kit i x 1 m.text

    abbrev pub data_piece : Piece
    data_piece = piece_of kit i x 2 m.words

    pub pieces_are : input_pieces kit inputs i x ≡ text_piece ∷ data_piece ∷ []
    pieces_are =
        let f = section_piece kit inputs i x in
        let first : f 1 m.text ≡ text_piece ∷ [] = rw text_kept refl in
        let second : f 2 m.words ≡ data_piece ∷ [] = rw data_kept refl in
        let rest : each_from 3 f m.others ≡ [] = each-none 3 f m.others (λ k d l. none k d) in
        ap (each_from 1 f) m.sections ∙ two-give 1 f m.text m.words m.others text_piece data_piece first second rest
      where
        none : (k : ℕ) (d : Section) → section_piece kit inputs i x (3 + k) (get_or m.others k d) ≡ []
        none k d = let e : 3 + k ≡ suc (suc (suc k)) = omega arith in rw e (rw (other_unkept k) refl)

    -- THE SYMBOLS
    abbrev pub own_at : Occurrence
    own_at = occurrence i x 1 m.own

    abbrev pub called_at : Occurrence
    called_at = occurrence i x 2 m.called

    pub occur_two : occurring_in i x ≡ own_at ∷ called_at ∷ []
    occur_two = rw (m.symbols, m.is_null.0, m.is_own.binding, m.is_called.binding) refl

    own-defines : is_definition kit inputs own_at ≡ true
    own-defines = rw m.is_own.stands (rw text_kept refl)

    called-never : is_definition kit inputs called_at ≡ false
    called-never = rw m.is_called.stands refl

    pub defined_one : filter (is_global_definition kit inputs) (occurring_in i x) ≡ own_at ∷ []
    defined_one =
        let first : is_global_definition kit inputs own_at ≡ true = rw (m.is_own.binding, own-defines) refl in
        let second : is_global_definition kit inputs called_at ≡ false = rw (m.is_called.binding, called-never) refl in
        ap (filter (is_global_definition kit inputs)) occur_two ∙ rw (first, second) refl

  -- what each of the two symbols of each input is, all are
  pub all_made : (P : Occurrence → Type 0) → ((i : ℕ) (h : i < n) → P (own_at i h) × P (called_at i h)) → All P (occurrences inputs)
  all_made P holds =
      each-all P 0 occurring_in inputs (λ i d h.
      let l : i < n = (let count = made.count in omega arith) in
      let same : get_or inputs i d ≡ input_at inputs i = get_or_default inputs i d no_input h in
      let z : 0 + i ≡ i = omega arith in
      rw (same, z, occur_two i l) (All-cons P (own_at i l) (called_at i l ∷ []) (holds i l).0 (alone P (called_at i l) (holds i l).1)))

  pub made_at : All IsMadeAt (occurrences inputs)
  made_at = all_made IsMadeAt (λ i h. (inl ((m i h).is_own.stands, (m i h).is_own.value), inr (m i h).is_called.stands))

  stands : (o : Occurrence) → IsMadeAt o → is_definition kit inputs o ≡ true → (o.symbol.section ≡ 1) × (o.symbol.value ≡ 0)
  stands o (inl at) e = at
  stands o (inr none) e = let no : false ≡ true = rw none at e in cc

  -- EACH NAME IS DEFINED
  has-own : (k : ℕ) (h : k < n) → list_any (λ o. bytes_eq o.name (made_name k) && ((o.symbol.binding == STB_GLOBAL) && is_definition kit inputs o)) (occurrences inputs) ≡ true
  has-own k h =
      let p = λ (o : Occurrence). bytes_eq o.name (made_name k) && ((o.symbol.binding == STB_GLOBAL) && is_definition kit inputs o) in
      let l : k < length inputs = (let count = made.count in omega arith) in
      let same : bytes_eq (own_at k h).name (made_name k) ≡ true = rw (m k h).is_own.named (nat_list_eq_equiv.refl (made_name k)) in
      let here : p (own_at k h) ≡ true = rw (same, (m k h).is_own.binding, own-defines k h) refl in
      any_in p occurring_in inputs k no_input l (rw (occur_two k h, here) refl)

  pub defined : (k : ℕ) → k < n → (p : ℕ) × (definition kit inputs (made_name k) ≡ Some (Place p 0))
  defined k h =
      let p = λ (o : Occurrence). (o.symbol.binding == STB_GLOBAL) && is_definition kit inputs o in
      let os = occurrences_of inputs (made_name k) in
      let is = found p os (any-filter p (λ o. bytes_eq o.name (made_name k)) (occurrences inputs) ∙ has-own k h) in
      let known = find_is IsMadeAt p os is.0 (All-filter (λ o. bytes_eq o.name (made_name k)) IsMadeAt (occurrences inputs) made_at) is.1 in
      let at = stands is.0 known.0 (and_right (is.0.symbol.binding == STB_GLOBAL) _ known.1) in
      let first : first_definition kit inputs STB_GLOBAL (made_name k) ≡ Some is.0 = is.1 in
      (piece_number kit inputs is.0.input 1, rw (first, at.0, at.1) refl)

  -- WHERE SYMBOLS LEAD
  pub leads : (i s y k : ℕ) → (y == 0) ≡ false → k < n → (symbol_at inputs i y).binding ≡ STB_GLOBAL
      → text_at (input_at inputs i).bytes (symbol_at inputs i y).name ≡ made_name k → (p : ℕ) × (target kit inputs i s y ≡ Ok (Place p 0))
  leads i s y k some h global named =
      let place = defined k h in
      (place.0, rw (some, global, named) (kernel_target kit refl inputs (made_name k) STB_GLOBAL ∙ rw place.1 refl))
