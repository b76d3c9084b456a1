-- Lists by area are the spreads of every class.
use Rattle.std.proofs.Common.{ℕ, zero, suc, ◌≡◌, ◌+◌, ◌<◌, ◌≤◌, ◌∙◌, List, [], ◌∷◌, ◌++◌, length, get_or, map, refl, ap, sym, subst, arith, Bool, true, false, not, ◌&&◌, ◌||◌, inl, inr, eq-eqb}
use Rattle.std.specs.Prelude.{flat_map, ◌==◌, All, Option, Some}
use Rattle.std.proofs.lemmas.Bool.{cases_Bool, eqb-true, le-ltb, lt-ltb, ne_eqb}
use Rattle.std.proofs.lemmas.List.{append-nil, map-append}
use Rattle.std.proofs.lemmas.List.Folds.{flat_map-map}
use Rattle.kl_base.specs.declared.class.Class.{Class}
use Rattle.kl_base.specs.declared.class.Class.TheVariants.{Text, Rodata, Rwdata, Bss}
use Rattle.kl_model.specs.Areas.{class_number, named_areas, same_class}
use Rattle.kl_model.specs.Lists.{each_from, number_in, only_if}
use Rattle.kl_model.specs.Line.{Spread, class_line, classes, gap_parts, got_spread, inputs_in, is_common_id, last_spreads, made_parts, of_input, ordinary, piece_part, piece_parts, run_spreads, sequence}
use Rattle.kl_model.specs.Sound.{IsSoundPiece, class_areas, run_areas}
use Rattle.kl_model.specs.declared.object.Part.TheVariants.{Head}
use Rattle.kl_model.specs.declared.graph.Piece.{Piece}
use Rattle.kl_model.specs.declared.graph.Graph.{Graph}
use Rattle.kl_model.specs.declared.kit.KitKind.{KitKind}
use Rattle.kl_model.specs.declared.kit.KitKind.TheVariants.{Kernel, Library}
use Rattle.kl_model.specs.declared.kit.Kit.{Kit}
use Rattle.kl_model.specs.declared.kit.Run.{Run}
use Rattle.kl_model.specs.declared.place.Gaps.{Gaps}
use Rattle.kl_model.specs.declared.place.Made.{Made}
use Rattle.kl_model.specs.declared.place.LinePart.{LinePart}
use Rattle.kl_layout.specs.Once.{later_inputs}
use Rattle.kl_layout.specs.Spreads.{AreSpreads, commons_number, gap_of, got_numbers, is_by_input, is_in_order, last_numbers, made_in, parts_in_order, parts_of_inputs, spread_at, spread_number, spread_numbers}
use Rattle.kl_layout.specs.Stops.{listed_line}
use Rattle.kl_layout.proofs.Areas.{area_below, area_of_class, low_own, own_low, run_of_class}
use Rattle.kl_layout.proofs.ByInput.{of_area, of_no_area, sequence_split}
use Rattle.kl_layout.proofs.Once.{class_is, common_area}
use Rattle.kl_layout.proofs.Shuffled.{all_of, joined-same, passing-members}

by_input_low : (n : ℕ) → n < 4 → is_by_input n ≡ true
by_input_low n h = let e = lt-ltb n 4 h in rw e refl

by_input_run : (k : ℕ) → is_by_input (15 + k) ≡ true
by_input_run k = let e = le-ltb (15 + k) 15 (omega arith) in let f = le-ltb (15 + k) 4 (omega arith) in rw (e, f) refl

-- gaps and made areas stand in no other spread
gaps_none : (gaps : Option Gaps) (n : ℕ) → 4 ≤ n → gap_of gaps n ≡ []
gaps_none gaps n h =
    let a : (0 == n) ≡ false = ne_eqb 0 n (λ e. absurd (omega (arith, e, h))) in
    let b : (1 == n) ≡ false = ne_eqb 1 n (λ e. absurd (omega (arith, e, h))) in
    let c : (2 == n) ≡ false = ne_eqb 2 n (λ e. absurd (omega (arith, e, h))) in
    let d : (3 == n) ≡ false = ne_eqb 3 n (λ e. absurd (omega (arith, e, h))) in
    rw (a, b, c, d) refl

gaps_own : (gaps : Option Gaps) (c : Class) → gap_of gaps (class_number c) ≡ gap_parts gaps c
gaps_own gaps Text = append-nil (gap_parts gaps Text)
gaps_own gaps Rodata = append-nil (gap_parts gaps Rodata)
gaps_own gaps Rwdata = append-nil (gap_parts gaps Rwdata)
gaps_own gaps Bss = append-nil (gap_parts gaps Bss)

made_far : (made : Made) (k : ℕ) → made_in made (15 + k) ≡ []
made_far made k =
    let a : (6 == (15 + k)) ≡ false = ne_eqb 6 (15 + k) (λ e. absurd (omega (arith, e))) in
    let b : (8 == (15 + k)) ≡ false = ne_eqb 8 (15 + k) (λ e. absurd (omega (arith, e))) in
    let c : (13 == (15 + k)) ≡ false = ne_eqb 13 (15 + k) (λ e. absurd (omega (arith, e))) in
    let d : (14 == (15 + k)) ≡ false = ne_eqb 14 (15 + k) (λ e. absurd (omega (arith, e))) in
    rw (a, b, c, d) refl

made_own : (made : Made) (c : Class) → made_in made (class_number c) ≡ []
made_own made Text = refl
made_own made Rodata = refl
made_own made Rwdata = refl
made_own made Bss = refl

-- no piece has the number of an area that a linker makes
not_made : (c : Class) (kit : Kit) (n : ℕ) → n < 15 → 4 ≤ n → number_in (named_areas c) n ≡ false → number_in (class_areas kit c) n ≡ false
not_made c kit n l h none =
    let own : (class_number c == n) ≡ false = ne_eqb (class_number c) n (λ e. absurd (omega (arith, e, h, own_low c))) in
    rw own (go 0 kit.runs)
  where
    go : (k : ℕ) (rs : List Run) → number_in (each_from k (λ k r. only_if (same_class r.class c) (15 + k)) rs ++ named_areas c) n ≡ false
    go k [] = none
    go k (r ∷ rs) =
        let far : ((15 + k) == n) ≡ false = ne_eqb (15 + k) n (λ e. absurd (omega (arith, e, l))) in
        elim (cases_Bool (same_class r.class c)) [ inl a ↦ rw (a, far) (go (suc k) rs) | inr a ↦ rw a (go (suc k) rs) ]

module _ (kit : Kit) (g : Graph) (sound : All (IsSoundPiece kit g) g.pieces) where
  abbrev commons : ℕ
  commons = commons_number kit

  area_known : (x : Piece) → IsSoundPiece kit g x → x.area < commons
  area_known x s = area_below x.class kit x.area s.area

  -- what stands in the graph's order where pieces stand by the sequence, in an area that has a name, in one that is made, and among the commons
  none_by_input : (n : ℕ) → is_by_input n ≡ true → n < commons → parts_in_order g commons n ≡ []
  none_by_input n t l = passing-members piece_part (λ x. is_in_order x && (spread_number commons x == n)) (λ x. false) 0 g.pieces (λ k d h. go (get_or g.pieces k d)) ∙ empty 0 g.pieces
    where
      empty : (k : ℕ) (xs : List Piece) → each_from k (λ m (x : Piece). only_if false (piece_part m x)) xs ≡ []
      empty k [] = refl
      empty k (x ∷ xs) = empty (suc k) xs

      go : (x : Piece) → (is_in_order x && (spread_number commons x == n)) ≡ false
      go x = elim (cases_Bool (is_common_id x.id)) [
        | inl a ↦ (let b : (commons == n) ≡ false = ne_eqb commons n (λ e. absurd (omega (arith, e, l))) in rw (a, b) refl)
        | inr a ↦ elim (cases_Bool (x.area == n)) [
          | inr b ↦ rw (a, b) (last (not (is_by_input x.area)))
          | inl b ↦ (let e = eqb-true x.area n b in rw (a, e, t) refl)
        ]
      ]
        where
          last : (p : Bool) → ((false || p) && false) ≡ false
          last true = refl
          last false = refl

  ordered_area : (n : ℕ) → n < 15 → 4 ≤ n → parts_in_order g commons n ≡ piece_parts g (λ x. x.area == n)
  ordered_area n l h = passing-members piece_part (λ x. is_in_order x && (spread_number commons x == n)) (λ x. x.area == n) 0 g.pieces (λ k d m. go (get_or g.pieces k d) (sound k d m))
    where
      go : (x : Piece) → IsSoundPiece kit g x → (is_in_order x && (spread_number commons x == n)) ≡ (x.area == n)
      go x s = elim (cases_Bool (is_common_id x.id)) [
        | inl a ↦
            let b : (commons == n) ≡ false = ne_eqb commons n (λ e. absurd (omega (arith, e, l))) in
            let e = common_area (length g.parts) x x.id s.origin a in
            let c : (x.area == n) ≡ false = ne_eqb x.area n (λ f. absurd (omega (arith, f, e, h))) in
            rw (a, b, c) refl
        | inr a ↦ elim (cases_Bool (x.area == n)) [
          | inr b ↦ rw (a, b) (last (not (is_by_input x.area)))
          | inl b ↦
              let e = eqb-true x.area n b in
              let f = le-ltb n 4 h in
              let i = lt-ltb n 15 l in
              rw (a, e, f, i, eq-eqb n n refl) refl
        ]
      ]
        where
          last : (p : Bool) → ((false || p) && false) ≡ false
          last true = refl
          last false = refl

  no_area : (n : ℕ) → ((x : Piece) → IsSoundPiece kit g x → (x.area == n) ≡ false) → piece_parts g (λ x. x.area == n) ≡ []
  no_area n none = go 0 g.pieces sound
    where
      go : (k : ℕ) (xs : List Piece) → All (IsSoundPiece kit g) xs → each_from k (λ m x. only_if (x.area == n) (piece_part m x)) xs ≡ []
      go k [] h = refl
      go k (x ∷ xs) h = rw (none x (h 0 x (omega arith))) (go (suc k) xs (λ j d l. h (suc j) d (omega (arith, l))))

  made_none : (n : ℕ) → n < 15 → 4 ≤ n → ((c : Class) → number_in (named_areas c) n ≡ false) → piece_parts g (λ x. x.area == n) ≡ []
  made_none n l h none = no_area n (λ x s. ne_eqb x.area n (λ e. absurd (differ x s e)))
    where
      differ : (x : Piece) → IsSoundPiece kit g x → x.area ≡ n → ⊥
      differ x s e =
          let there : number_in (class_areas kit x.class) n ≡ true = subst (λ (m : ℕ). number_in (class_areas kit x.class) m ≡ true) e s.area in
          let not_there = not_made x.class kit n l h (none x.class) in
          let bad : true ≡ false = sym there ∙ not_there in
          cc

  ordered_commons : parts_in_order g commons commons ≡ piece_parts g (λ x. is_common_id x.id)
  ordered_commons = passing-members piece_part (λ x. is_in_order x && (spread_number commons x == commons)) (λ x. is_common_id x.id) 0 g.pieces (λ k d m. go (get_or g.pieces k d) (sound k d m))
    where
      go : (x : Piece) → IsSoundPiece kit g x → (is_in_order x && (spread_number commons x == commons)) ≡ is_common_id x.id
      go x s = elim (cases_Bool (is_common_id x.id)) [
        | inl a ↦ rw (a, eq-eqb commons commons refl) refl
        | inr a ↦
            let b : (x.area == commons) ≡ false = ne_eqb x.area commons (λ e. absurd (omega (arith, e, area_known x s))) in
            rw (a, b) (last (not (is_by_input x.area)))
      ]
        where
          last : (p : Bool) → ((false || p) && false) ≡ false
          last true = refl
          last false = refl

  module _ (gaps : Option Gaps) (order : List ℕ) (made : Made) (lists : List (List LinePart)) (count : length lists ≡ 15 + (length kit.runs + 1))
      (given : (n : ℕ) → n < length lists → get_or lists n []
      ≡ parts_of_inputs g n (inputs_in g Head) ++ (gap_of gaps n ++ (parts_of_inputs g n (later_inputs g order) ++ (parts_in_order g commons n ++ made_in made n)))) where
    nothing_behind : (a b c : List LinePart) → a ++ (b ++ (c ++ ([] ++ []))) ≡ a ++ (b ++ c)
    nothing_behind a b c = ap (λ (l : List LinePart). a ++ (b ++ l)) (append-nil c)

    -- the ordinary pieces of a class with its gap
    own_is : (c : Class) → get_or lists (class_number c) [] ≡ (ordinary g gaps order c).parts
    own_is c =
        let n = class_number c in
        let low = own_low c in
        let own = of_area kit g sound c n (by_input_low n low) (λ x s e.
        let there : number_in (class_areas kit x.class) n ≡ true = subst (λ (m : ℕ). number_in (class_areas kit x.class) m ≡ true) e s.area in
        eq-eqb _ _ (sym (area_of_class x.class kit n (omega (arith, low)) there) ∙ low_own c)) in
        given n (omega (arith, low, count))
        ∙ (rw (own (inputs_in g Head), own (later_inputs g order), gaps_own gaps c, none_by_input n (by_input_low n low) (omega (arith, low)), made_own made c)
        (nothing_behind (flat_map (of_input g c n) (inputs_in g Head)) (gap_parts gaps c) (flat_map (of_input g c n) (later_inputs g order))) ∙ sym (sequence_split g order (gap_parts gaps c) (of_input g c n)))

    -- a run
    run_is : (k : ℕ) (d : Run) → k < length kit.runs
        → get_or lists (15 + k) [] ≡ sequence g order [] (of_input g (get_or kit.runs k d).class (15 + k))
    run_is k d l =
        let n = 15 + k in
        let c = (get_or kit.runs k d).class in
        let own = of_area kit g sound c n (by_input_run k) (λ x s e.
        let there : number_in (class_areas kit x.class) n ≡ true = subst (λ (m : ℕ). number_in (class_areas kit x.class) m ≡ true) e s.area in
        eq-eqb _ _ (sym (eqb-true _ _ (run_of_class x.class kit k d l there)))) in
        given n (omega (arith, l, count))
        ∙ (rw (own (inputs_in g Head), own (later_inputs g order), gaps_none gaps n (omega arith), none_by_input n (by_input_run k) (omega (arith, l)), made_far made k)
        (nothing_behind (flat_map (of_input g c n) (inputs_in g Head)) [] (flat_map (of_input g c n) (later_inputs g order))) ∙ sym (sequence_split g order [] (of_input g c n)))

    -- no piece of an area that has a name, or that a linker makes, stands by the sequence
    by_no_input : (n : ℕ) → n < 15 → 4 ≤ n → (is : List ℕ) → parts_of_inputs g n is ≡ []
    by_no_input n l h = of_no_area kit g sound n (λ x s t. ne_eqb x.area n (λ e. absurd (differ x.area t e)))
      where
        differ : (m : ℕ) → is_by_input m ≡ true → m ≡ n → ⊥
        differ m t e =
            let f = le-ltb n 4 h in
            let i = lt-ltb n 15 l in
            let bad : false ≡ true = rw (e, f, i) at t in
            cc

    between_is : (n : ℕ) → n < 15 → 4 ≤ n → get_or lists n [] ≡ piece_parts g (λ x. x.area == n) ++ made_in made n
    between_is n l h =
        given n (omega (arith, l, count))
        ∙ rw (by_no_input n l h (inputs_in g Head), by_no_input n l h (later_inputs g order), gaps_none gaps n h, ordered_area n l h) refl

    named_is : (n : ℕ) → n < 15 → 4 ≤ n → made_in made n ≡ [] → get_or lists n [] ≡ piece_parts g (λ x. x.area == n)
    named_is n l h none = between_is n l h ∙ rw none (append-nil (piece_parts g (λ x. x.area == n)))

    made_is : (n : ℕ) → n < 15 → 4 ≤ n → ((c : Class) → number_in (named_areas c) n ≡ false) → get_or lists n [] ≡ made_in made n
    made_is n l h none = between_is n l h ∙ rw (made_none n l h none) refl

    commons_is : get_or lists commons [] ≡ piece_parts g (λ x. is_common_id x.id)
    commons_is =
        let none = of_no_area kit g sound commons (λ x s t. ne_eqb x.area commons (λ e. absurd (omega (arith, e, area_known x s)))) in
        given commons (omega (arith, count))
        ∙ rw (none (inputs_in g Head), none (later_inputs g order), gaps_none gaps commons (omega arith), ordered_commons, made_far made (length kit.runs))
        (append-nil (piece_parts g (λ x. is_common_id x.id)))

    -- the spreads of runs
    runs_from : (c : Class) (k : ℕ) (rs : List Run) → k + length rs ≡ length kit.runs
        → ((j : ℕ) (d : Run) → j < length rs → get_or lists (15 + (k + j)) [] ≡ sequence g order [] (of_input g (get_or rs j d).class (15 + (k + j))))
        → map (spread_at commons lists) (each_from k (λ k (r : Run). only_if (same_class r.class c) (15 + k)) rs)
        ≡ each_from k (λ k (r : Run). only_if (same_class r.class c) (record { area = Some (15 + k); parts = sequence g order [] (of_input g c (15 + k)) })) rs
    runs_from c k [] e at = refl
    runs_from c k (r ∷ rs) e at =
        let here : k + zero ≡ k = omega arith in
        let first : get_or lists (15 + k) [] ≡ sequence g order [] (of_input g r.class (15 + k)) = rw here at (at zero r (omega arith)) in
        let rest = runs_from c (suc k) rs (omega (arith, e)) (λ j d l. let next : k + suc j ≡ suc k + j = omega arith in rw next at (at (suc j) d (omega (arith, l)))) in
        let high = le-ltb (15 + k) 4 (omega arith) in
        let other : ((15 + k) == commons) ≡ false = ne_eqb (15 + k) commons (λ f. absurd (omega (arith, f, e))) in
        elim (cases_Bool (same_class r.class c)) [
          | inl a ↦
              let same : r.class ≡ c = class_is r.class c (eqb-true _ _ a) in
              let known : get_or lists (15 + k) [] ≡ sequence g order [] (of_input g c (15 + k)) = first ∙ ap (λ b. sequence g order [] (of_input g b (15 + k))) same in
              rw (a, known, high, other) (ap (λ (l : List Spread). record { area = Some (15 + k); parts = sequence g order [] (of_input g c (15 + k)) } ∷ l) rest)
          | inr a ↦ rw a rest
        ]

    runs_are : (c : Class) → map (spread_at commons lists) (run_areas kit c) ≡ run_spreads kit g order c
    runs_are c = runs_from c 0 kit.runs (omega arith) (λ j d l. let here : 0 + j ≡ j = omega arith in rw here (run_is j d l))

    own_spread : (c : Class) → spread_at commons lists (class_number c) ≡ ordinary g gaps order c
    own_spread c =
        let low = lt-ltb (class_number c) 4 (own_low c) in
        rw (low, own_is c) refl

    area_at_is : (n : ℕ) (parts : List LinePart) → n < 15 → 4 ≤ n → get_or lists n [] ≡ parts → spread_at commons lists n ≡ record { area = Some n; parts = parts }
    area_at_is n parts l h e =
        let high = le-ltb n 4 h in
        let other : (n == commons) ≡ false = ne_eqb n commons (λ f. absurd (omega (arith, f, l))) in
        rw (high, other, e) refl

    none_named : (n : ℕ) → number_in (named_areas Text) n ≡ false → number_in (named_areas Rodata) n ≡ false → number_in (named_areas Rwdata) n ≡ false → (c : Class) → number_in (named_areas c) n ≡ false
    none_named n t r w Text = t
    none_named n t r w Rodata = r
    none_named n t r w Rwdata = w
    none_named n t r w Bss = refl

    named_at : (n : ℕ) → n < 15 → 4 ≤ n → made_in made n ≡ [] → spread_at commons lists n ≡ record { area = Some n; parts = piece_parts g (λ x. x.area == n) }
    named_at n l h none = area_at_is n (piece_parts g (λ x. x.area == n)) l h (named_is n l h none)

    stubs_at : spread_at commons lists 6 ≡ record { area = Some 6; parts = made_parts 6 made.stubs 16 }
    stubs_at = area_at_is 6 (made_parts 6 made.stubs 16) (omega arith) (omega arith) (made_is 6 (omega arith) (omega arith) (none_named 6 refl refl refl) ∙ append-nil (made_parts 6 made.stubs 16))

    tables_at : spread_at commons lists 8 ≡ record { area = Some 8; parts = made_parts 8 made.tables 8 }
    tables_at = area_at_is 8 (made_parts 8 made.tables 8) (omega arith) (omega arith) (made_is 8 (omega arith) (omega arith) (none_named 8 refl refl refl) ∙ append-nil (made_parts 8 made.tables 8))

    got_at : spread_at commons lists 13 ≡ record { area = Some 13; parts = made_parts 13 made.got 8 }
    got_at = area_at_is 13 (made_parts 13 made.got 8) (omega arith) (omega arith) (made_is 13 (omega arith) (omega arith) (none_named 13 refl refl refl) ∙ append-nil (made_parts 13 made.got 8))

    dynamic_at : spread_at commons lists 14 ≡ record { area = Some 14; parts = made_parts 14 made.dynamic 8 }
    dynamic_at = area_at_is 14 (made_parts 14 made.dynamic 8) (omega arith) (omega arith) (made_is 14 (omega arith) (omega arith) (none_named 14 refl refl refl))

    got_are : (kind : KitKind) (c : Class) → map (spread_at commons lists) (got_numbers kind c) ≡ got_spread kind made c
    got_are Kernel Text = refl
    got_are Kernel Rodata = rw got_at refl
    got_are Kernel Rwdata = refl
    got_are Kernel Bss = refl
    got_are Library Text = refl
    got_are Library Rodata = refl
    got_are Library Rwdata = rw got_at refl
    got_are Library Bss = refl

    last_are : (c : Class) → map (spread_at commons lists) (last_numbers kit c) ≡ last_spreads kit.kind g made c
    last_are Text = rw (named_at 4 (omega arith) (omega arith) refl, named_at 5 (omega arith) (omega arith) refl, stubs_at) refl
    last_are Rodata = rw (named_at 7 (omega arith) (omega arith) refl, tables_at, got_are kit.kind Rodata) refl
    last_are Rwdata =
        rw (named_at 9 (omega arith) (omega arith) refl, named_at 10 (omega arith) (omega arith) refl, named_at 11 (omega arith) (omega arith) refl, named_at 12 (omega arith) (omega arith) refl)
        (ap (λ (l : List Spread). record { area = Some 9; parts = piece_parts g (λ x. x.area == 9) } ∷ record { area = Some 10; parts = piece_parts g (λ x. x.area == 10) }
        ∷ record { area = Some 11; parts = piece_parts g (λ x. x.area == 11) } ∷ record { area = Some 12; parts = piece_parts g (λ x. x.area == 12) } ∷ l)
        (map-append (spread_at commons lists) (got_numbers kit.kind Rwdata) (14 ∷ []) ∙ rw (got_are kit.kind Rwdata, dynamic_at) refl))
    last_are Bss =
        let same : (commons == commons) ≡ true = eq-eqb commons commons refl in
        let high = le-ltb commons 4 (omega arith) in
        rw (high, same, commons_is) refl

    pub are_spreads : AreSpreads kit g gaps order made lists
    are_spreads = record {
      count = count;
      spreads = λ c. ap (λ (s : Spread). s ∷ map (spread_at commons lists) (run_areas kit c ++ last_numbers kit c)) (own_spread c)
          ∙ ap (λ (l : List Spread). ordinary g gaps order c ∷ l) (map-append (spread_at commons lists) (run_areas kit c) (last_numbers kit c) ∙ rw (runs_are c, last_are c) refl);
    }

-- the line of a class is what the lists of its spreads have
pub line_listed : (kit : Kit) (g : Graph) (gaps : Option Gaps) (order : List ℕ) (made : Made) (lists : List (List LinePart)) → AreSpreads kit g gaps order made lists → (c : Class)
    → listed_line kit lists c ≡ class_line kit g gaps order made c
line_listed kit g gaps order made lists s c =
    sym (flat_map-map (λ (x : Spread). x.parts) (spread_at (commons_number kit) lists) (spread_numbers kit c)) ∙ ap (λ (l : List Spread). flat_map (λ s. s.parts) l) (s.spreads c)

pub lines_listed : (kit : Kit) (g : Graph) (gaps : Option Gaps) (order : List ℕ) (made : Made) (lists : List (List LinePart)) → AreSpreads kit g gaps order made lists
    → flat_map (listed_line kit lists) classes ≡ flat_map (class_line kit g gaps order made) classes
lines_listed kit g gaps order made lists s =
    joined-same (listed_line kit lists) (class_line kit g gaps order made) classes (all_of (λ c. listed_line kit lists c ≡ class_line kit g gaps order made c) (line_listed kit g gaps order made lists s) classes)
