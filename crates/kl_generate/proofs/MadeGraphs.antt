-- The graph of a made kit: its pieces and its fields, by number; it is roomy.
use Rattle.std.proofs.Common.{ℕ, ◌≡◌, ◌+◌, ◌*◌, ◌<◌, ◌≤◌, ◌∙◌, List, [], ◌∷◌, ◌++◌, length, get_or, map, refl, ap, arith, false, inl, inr}
use Rattle.std.specs.Prelude.{All, Ok, filter, sum_by, nat_eq}
use Rattle.std.specs.Str.{bytes_eq}
use Rattle.std.proofs.lemmas.List.{append-nil, get_or_default, length-map}
use Rattle.std.proofs.lemmas.List.Elements.{All-cons}
use Rattle.std.proofs.lemmas.List.Sums.{sum_by-cons}
use Rattle.kl_base.proofs.Bools.{alone}
use Rattle.kl_model.specs.Graphs.{common_pieces, fields, graph, input_fields, input_pieces, kept_field, section_pieces, target}
use Rattle.kl_model.specs.Kept.{input_at, no_input}
use Rattle.kl_model.specs.Lists.{each, once}
use Rattle.kl_model.specs.Names.{Occurrence, common_names, holds_common, occurrences}
use Rattle.kl_model.specs.Roomy.{IsRoomy, IsRoomyField}
use Rattle.kl_model.specs.Slots.{name_of, takes_slot, takes_stub, same_target, way_of}
use Rattle.kl_model.specs.declared.graph.Field.{Field}
use Rattle.kl_model.specs.declared.graph.Piece.{Piece}
use Rattle.kl_model.specs.declared.graph.Target.TheVariants.{Place}
use Rattle.kl_model.specs.declared.kit.Kit.{Kit}
use Rattle.kl_model.specs.declared.object.Input.{Input}
use Rattle.kl_model.specs.declared.object.RawField.{RawField}
use Rattle.kl_model.proofs.Each.{each-all, each-none}
use Rattle.kl_sym.proofs.SoundFields.{made_of_entry}
use Rattle.kl_generate.specs.Made.{AreMade, callee, made_call, made_kit, made_word}
use Rattle.kl_generate.specs.MadeLinks.{MadeGraph}
use Rattle.kl_generate.proofs.ListsMade.{filter-le, filter-none, length-each-is, once-le, sum-each-le, two-give}
use Rattle.kl_generate.proofs.MadeInputs.{IsMadeAt, data_kept, data_piece, leads, m, made_at, pieces_are, text_kept, text_piece}

-- a piece with the room for its alignment
abbrev pub room : Piece → ℕ
room p = p.size + p.align

module _ (n : ℕ) (inputs : List Input) (made : AreMade n inputs) where
  abbrev pub kit : Kit
  kit = made_kit n

  below : (i : ℕ) → i < length inputs → i < n
  below i h = let count = made.count in omega arith

  -- THE PIECES
  no_common : common_names kit inputs ≡ []
  no_common = ap (λ os. once bytes_eq (map (λ (o : Occurrence). o.name) os)) (filter-none (holds_common kit inputs) (occurrences inputs) (λ k d h. never (get_or (occurrences inputs) k d) (made_at n inputs made k d h)))
    where
      never : (o : Occurrence) → IsMadeAt o → holds_common kit inputs o ≡ false
      never o (inl at) = rw at.0 refl
      never o (inr none) = rw none refl

  no_common_pieces : common_pieces kit inputs ≡ []
  no_common_pieces = each-none 0 _ (common_names kit inputs) (λ k d h. let none = ap length no_common in absurd (omega arith))

  pieces_are_sections : (graph kit inputs).pieces ≡ section_pieces kit inputs
  unfolding graph
  pieces_are_sections = ap (λ ps. section_pieces kit inputs ++ ps) no_common_pieces ∙ append-nil (section_pieces kit inputs)

  pieces_in : (i : ℕ) (d : Input) (h : i < length inputs) → input_pieces kit inputs (0 + i) (get_or inputs i d) ≡ text_piece n inputs made i (below i h) ∷ data_piece n inputs made i (below i h) ∷ []
  pieces_in i d h =
      let same : get_or inputs i d ≡ input_at inputs i = get_or_default inputs i d no_input h in
      let z : 0 + i ≡ i = omega arith in
      rw (same, z) (pieces_are n inputs made i (below i h))

  pub piece_count : length (graph kit inputs).pieces ≡ 2 * n
  piece_count =
      let all = length-each-is 2 0 (input_pieces kit inputs) inputs (λ i d h. ap length (pieces_in i d h)) in
      let whole = ap length pieces_are_sections in
      let count = made.count in
      omega arith

  -- each input gives two pieces, of at most 64 and 8 bytes
  room_in : (i : ℕ) (h : i < n) → sum_by room (text_piece n inputs made i h ∷ data_piece n inputs made i h ∷ []) ≤ 96
  room_in i h =
      let x = m n inputs made i h in
      let text : room (text_piece n inputs made i h) ≤ 80 = rw (x.is_text.sized, x.is_text.aligned) (omega arith) in
      let words : room (data_piece n inputs made i h) ≡ 16 = rw (x.is_data.sized, x.is_data.aligned) refl in
      omega (arith, sum_by-cons room (text_piece n inputs made i h) (data_piece n inputs made i h ∷ []), sum_by-cons room (data_piece n inputs made i h) [])

  pub room_taken_by : sum_by room (graph kit inputs).pieces ≤ 96 * n
  room_taken_by =
      let all = sum-each-le room 96 0 (input_pieces kit inputs) inputs (λ i d h. rw (pieces_in i d h) (room_in i (below i h))) in
      let whole = ap (sum_by room) pieces_are_sections in
      let count = made.count in
      omega arith

  -- THE FIELDS
  module _ (i : ℕ) (h : i < n) where
    abbrev field_of : RawField → Field
    field_of f = made_of_entry kit inputs i f

    fields_are : input_fields kit inputs i (input_at inputs i) ≡ field_of made_call ∷ field_of made_word ∷ []
    fields_are =
        let f = λ (k : ℕ) (f : RawField). kept_field kit inputs i f in
        let first : f 0 made_call ≡ field_of made_call ∷ [] = rw (text_kept n inputs made i h) refl in
        let second : f 1 made_word ≡ field_of made_word ∷ [] = rw (data_kept n inputs made i h) refl in
        ap (λ fs. each fs f) (m n inputs made i h).fields ∙ two-give 0 f made_call made_word [] (field_of made_call) (field_of made_word) first second refl

    pub call_leads : (p : ℕ) × (target kit inputs i 1 2 ≡ Ok (Place p 0))
    call_leads =
        let x = m n inputs made i h in
        leads n inputs made i 1 2 (callee n i) refl (omega arith) (rw (x.symbols, x.is_called.binding) refl) (rw (x.symbols, x.is_called.named) refl)

    pub word_leads : (p : ℕ) × (target kit inputs i 2 1 ≡ Ok (Place p 0))
    word_leads =
        let x = m n inputs made i h in
        leads n inputs made i 2 1 i refl h (rw (x.symbols, x.is_own.binding) refl) (rw (x.symbols, x.is_own.named) refl)

    near_in : All (λ f. IsRoomyField kit f f.target) (field_of made_call ∷ field_of made_word ∷ [])
    near_in =
        let P = λ (f : Field). IsRoomyField kit f f.target in
        let call : P (field_of made_call) = rw call_leads.1 (inr (inr (inl (inr refl, (omega arith, omega arith))))) in
        let word : P (field_of made_word) = rw word_leads.1 (inl (inl refl)) in
        All-cons P (field_of made_call) (field_of made_word ∷ []) call (alone P (field_of made_word) word)

  fields_in : (i : ℕ) (d : Input) (h : i < length inputs) → input_fields kit inputs (0 + i) (get_or inputs i d) ≡ field_of i (below i h) made_call ∷ field_of i (below i h) made_word ∷ []
  fields_in i d h =
      let same : get_or inputs i d ≡ input_at inputs i = get_or_default inputs i d no_input h in
      let z : 0 + i ≡ i = omega arith in
      rw (same, z) (fields_are i (below i h))

  graph_fields : (graph kit inputs).fields ≡ fields kit inputs
  unfolding graph
  graph_fields = refl

  pub field_count : length (graph kit inputs).fields ≡ 2 * n
  field_count =
      let all = length-each-is 2 0 (input_fields kit inputs) inputs (λ i d h. ap length (fields_in i d h)) in
      let whole = ap length graph_fields in
      let count = made.count in
      omega arith

  all_near : All (λ f. IsRoomyField kit f f.target) (graph kit inputs).fields
  all_near =
      let P = λ (f : Field). IsRoomyField kit f f.target in
      rw graph_fields (each-all P 0 (input_fields kit inputs) inputs (λ i d h. rw (fields_in i d h) (near_in i (below i h))))

  -- ROOM
  pub roomy : n ≤ 4096 → IsRoomy kit (graph kit inputs)
  roomy few = record {
    small = (
        let g = graph kit inputs in
        let pieces = room_taken_by in
        let many = field_count in
        let stubs_in = filter-le (λ f. takes_stub (way_of f)) g.fields in
        let stub_names = length-map (filter (λ f. takes_stub (way_of f)) g.fields) (λ (f : Field). name_of f.target) in
        let few_stubs = once-le nat_eq (map (λ (f : Field). name_of f.target) (filter (λ f. takes_stub (way_of f)) g.fields)) in
        let slots_in = filter-le (λ f. takes_slot (way_of f)) g.fields in
        let slot_targets = length-map (filter (λ f. takes_slot (way_of f)) g.fields) (λ (f : Field). f.target) in
        let few_slots = once-le same_target (map (λ (f : Field). f.target) (filter (λ f. takes_slot (way_of f)) g.fields)) in
        omega arith);
    near = all_near;
  }

-- THE LAW
pub made_graph : MadeGraph
made_graph n inputs some made = (piece_count n inputs made, field_count n inputs made)
