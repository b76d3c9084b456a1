-- What is laid as the lists of spreads say is a placement of the graph.
use Rattle.std.proofs.Common.{ℕ, zero, suc, ◌≡◌, ◌≢◌, ◌+◌, ◌-◌, ◌%◌, ◌^◌, ◌<◌, ◌≤◌, ◌∙◌, ◌&&◌, not, nat_lt, eq-eqb, inl, inr, length-append, List, [], ◌∷◌, ◌++◌, length, get_or, map, take, refl, ap, subst, arith, Bool, true, false, Option}
use Rattle.std.specs.Prelude.{IfSome, IsSome, Some, None, cond, slice_get, slice_index, ◌==◌}
use Rattle.std.specs.List.{AllByRecursion}
use Rattle.std.proofs.lemmas.Bool.{cases_lt}
use Rattle.std.proofs.lemmas.List.{get_or_append_left, get_or_default, get_or-append-add}
use Rattle.kl_base.specs.declared.class.Class.{Class}
use Rattle.kl_base.specs.declared.class.Class.TheVariants.{Text, Rodata, Rwdata, Bss}
use Rattle.kl_base.specs.declared.limits.TheConstants.{BASE_LIMIT, SPAN_LIMIT}
use Rattle.kl_model.specs.Areas.{class_number}
use Rattle.kl_model.specs.Carries.{NamesPieces, gap_names, no_piece}
use Rattle.kl_model.specs.Laid.{Laid, place_of, reach, span, unwrapped, no_placed}
use Rattle.kl_model.specs.Line.{Spread, class_line, gap_size, piece_part, spreads}
use Rattle.kl_model.specs.Lists.{each, up}
use Rattle.kl_model.specs.Orders.{IsOrder, drawn_count}
use Rattle.kl_model.specs.Placed.{class_from, extent, placed, stop_of}
use Rattle.kl_model.specs.Sizes.{page_of, text_from}
use Rattle.kl_model.specs.Sound.{IsSoundGraph}
use Rattle.kl_model.specs.declared.graph.Graph.{Graph}
use Rattle.kl_model.specs.declared.graph.Piece.{Piece}
use Rattle.kl_model.specs.declared.kit.Kit.{Kit}
use Rattle.kl_model.specs.declared.place.AreaAt.{AreaAt}
use Rattle.kl_model.specs.declared.place.Body.{Body}
use Rattle.kl_model.specs.declared.place.Body.TheVariants as body
use Rattle.kl_model.specs.declared.place.Gaps.{Gaps}
use Rattle.kl_model.specs.declared.place.LinePart.{LinePart}
use Rattle.kl_model.specs.declared.place.Made.{Made}
use Rattle.kl_model.specs.declared.place.Placed.{Placed}
use Rattle.kl_model.specs.declared.place.Placement.{Placement}
use Rattle.kl_layout.specs.OnePlacement.{HasAddresses}
use Rattle.kl_layout.specs.Spreads.{AreSpreads, commons_number, is_area, spread_at, spread_numbers}
use Rattle.kl_layout.specs.Stops.{AreExtents, AreListed, body_number, class_spreads, laid_gaps, laid_piece, laid_pieces, listed_from, listed_line}
use Rattle.kl_layout.proofs.LaidOut.{IsStored, laid}
use Rattle.kl_layout.proofs.LineParts.{IsThere, by_recursion, line_aligned, line_parts, stop_holds, there_known}
use Rattle.kl_layout.proofs.OneEach.{class_once, gap_stands, piece_stands}
use Rattle.kl_layout.proofs.OnlyPlaced.{each_at, each_count, names_append, names_of, placed_name, only, stop_there}
use Rattle.kl_layout.proofs.SpreadLaws.{line_listed}
use Rattle.kl_layout.proofs.SpreadNumbers.{numbers_below}

-- where the lines are laid from
module _ (kit : Kit) (g : Graph) (gaps : Option Gaps) (order : List ℕ) (made : Made) (lists : List (List LinePart)) (s : AreSpreads kit g gaps order made lists) where
  line_is : (c : Class) → listed_line kit lists c ≡ class_line kit g gaps order made c
  line_is = line_listed kit g gaps order made lists s

  next_is : (c : Class) (a b : ℕ) → a ≡ b → up (reach a (listed_line kit lists c)) (page_of kit g) ≡ up (reach b (class_line kit g gaps order made c)) (page_of kit g)
  next_is c a b e = ap (λ n. up (reach n (listed_line kit lists c)) (page_of kit g)) e ∙ ap (λ l. up (reach b l) (page_of kit g)) (line_is c)

  rodata_is : listed_from kit g lists Rodata ≡ class_from kit g gaps order made Rodata
  rodata_is = next_is Text (text_from kit g) (text_from kit g) refl

  rwdata_is : listed_from kit g lists Rwdata ≡ class_from kit g gaps order made Rwdata
  rwdata_is = next_is Rodata (listed_from kit g lists Rodata) (class_from kit g gaps order made Rodata) rodata_is

  pub from_is : (c : Class) → listed_from kit g lists c ≡ class_from kit g gaps order made c
  from_is Text = refl
  from_is Rodata = rodata_is
  from_is Rwdata = rwdata_is
  from_is Bss = next_is Rwdata (listed_from kit g lists Rwdata) (class_from kit g gaps order made Rwdata) rwdata_is

  -- they end where the span does
  pub end_is : reach (listed_from kit g lists Bss) (listed_line kit lists Bss) ≡ reach (class_from kit g gaps order made Bss) (class_line kit g gaps order made Bss)
  end_is = ap (λ n. reach n (listed_line kit lists Bss)) (from_is Bss) ∙ ap (reach (class_from kit g gaps order made Bss)) (line_is Bss)

-- an area isn't the last of all spreads
no_and : (a b : Bool) → b ≡ true → (a && not b) ≡ true → ⊥
no_and true true e f = cc
no_and true false e f = cc
no_and false b e f = cc

area_lower : (commons m : ℕ) → is_area commons m ≡ true → m < commons + 1 → m < commons
area_lower commons m t below =
    let apart = λ (f : m ≡ commons). no_and (not (nat_lt m 4)) (m == commons) (eq-eqb m commons f) t in
    let other : m ≢ commons = apart in
    omega (arith, below, other)

-- the first of a list
pub get_take : {X : Type 0} (n : ℕ) (xs : List X) (k : ℕ) → k < n → slice_get (take n xs) k ≡ slice_get xs k
get_take zero xs k h = absurd (omega arith)
get_take (suc n) [] k h = refl
get_take (suc n) (x ∷ xs) zero h = refl
get_take (suc n) (x ∷ xs) (suc k) h = get_take n xs k (omega (arith, h))

-- the extents of areas that stand in another list too
extents_kept : (commons from : ℕ) (lists : List (List LinePart)) (old new : List AreaAt) (numbers : List ℕ) → ((n : ℕ) → n < commons → slice_get new n ≡ slice_get old n)
    → AllByRecursion (λ n. n < commons + 1) numbers → AreExtents old from (map (spread_at commons lists) numbers) → AreExtents new from (map (spread_at commons lists) numbers)
extents_kept commons from lists old new [] kept below e = tt
extents_kept commons from lists old new (m ∷ numbers) kept below e =
    (here (is_area commons m) refl e.0, extents_kept commons (reach from (get_or lists m [])) lists old new numbers kept below.1 e.1)
  where
    here : (t : Bool) → is_area commons m ≡ t → IfSome (cond t (Some m) None) (λ n. slice_get old n ≡ Some (extent from (get_or lists m [])))
        → IfSome (cond t (Some m) None) (λ n. slice_get new n ≡ Some (extent from (get_or lists m [])))
    here false t h = tt
    here true t h = kept m (area_lower commons m t below.0) ∙ h

module _ (kit : Kit) (g : Graph) (gaps : Option Gaps) (order : List ℕ) (made : Made) (limit : kit.base ≤ BASE_LIMIT) (sound : IsSoundGraph kit g) (o : IsOrder (drawn_count g.parts) order)
    (small : span kit g gaps order made ≤ SPAN_LIMIT) (lists : List (List LinePart)) (s : AreSpreads kit g gaps order made lists) (addresses : List ℕ) (areas : List AreaAt)
    (listed : AreListed kit g lists addresses areas) (long : length addresses ≡ 19 + length g.pieces) (p : Placement) (base : p.base ≡ kit.base)
    (count : length p.areas ≡ 15 + length kit.runs) (kept : (n : ℕ) → n < 15 + length kit.runs → slice_get p.areas n ≡ slice_get areas n) (pieces : p.pieces ≡ laid_pieces g gaps addresses) where
  abbrev from : Class → ℕ
  from c = class_from kit g gaps order made c

  abbrev line : Class → List LinePart
  line c = class_line kit g gaps order made c

  theres : (c : Class) → AllByRecursion (λ x. IsThere g gaps x.body) (line c)
  theres c = by_recursion (λ x. IsThere g gaps x.body) (line c) (λ k d l. (line_parts kit g gaps order made sound o c k d l).there)

  there : (c : Class) (b : Body) (n : ℕ) → stop_of b (from c) (line c) ≡ Some n → IsThere g gaps b
  there c b n e = stop_holds (IsThere g gaps) b (from c) (line c) n (theres c) e

  stop_is : (c : Class) (b : Body) (n : ℕ) → stop_of b (from c) (line c) ≡ Some n → get_or addresses (body_number b) 0 ≡ n % 2 ^ 64
  stop_is c b n e =
      listed.stops c b n (rw long (there_known g gaps b (there c b n e)))
      (ap (λ f. stop_of b f (listed_line kit lists c)) (from_is kit g gaps order made lists s c) ∙ (ap (stop_of b (from c)) (line_listed kit g gaps order made lists s c) ∙ e))

  abbrev all_pieces : List Placed
  all_pieces = each g.pieces (laid_piece addresses)

  one_piece : ℕ → Piece → Placed
  one_piece m x = record { id = x.id; address = slice_index addresses (body_number (body.Piece m)); size = x.size }

  many : length all_pieces ≡ length g.pieces
  unfolding one_piece
  many = each_count one_piece 0 g.pieces

  piece_address : (m : ℕ) → m < length g.pieces → (get_or p.pieces m no_placed).address ≡ get_or addresses (body_number (body.Piece m)) 0
  unfolding one_piece
  piece_address m l =
      let here : 0 + m ≡ m = omega arith in
      let left = get_or_append_left all_pieces (laid_gaps addresses gaps) no_placed m (omega (arith, l, many)) in
      let item = each_at one_piece 0 g.pieces m no_placed no_piece l in
      ap (λ (q : List Placed). (get_or q m no_placed).address) pieces ∙ (ap (λ (q : Placed). q.address) (left ∙ item) ∙ (rw here refl))

  gap_address : (z : Gaps) (c : Class) → gaps ≡ Some z → (get_or p.pieces (length g.pieces + class_number c) no_placed).address ≡ get_or addresses (body_number (body.Gap c)) 0
  gap_address z c e =
      let right = get_or-append-add all_pieces (laid_gaps addresses gaps) (class_number c) no_placed in
      let there : get_or (all_pieces ++ laid_gaps addresses gaps) (length g.pieces + class_number c) no_placed ≡ get_or (laid_gaps addresses gaps) (class_number c) no_placed = rw many at right in
      ap (λ (q : List Placed). (get_or q (length g.pieces + class_number c) no_placed).address) pieces
      ∙ (ap (λ (q : Placed). q.address) (there ∙ ap (λ y. get_or (laid_gaps addresses y) (class_number c) no_placed) e) ∙ own c)
    where
      own : (c : Class) → (get_or (laid_gaps addresses (Some z)) (class_number c) no_placed).address ≡ get_or addresses (body_number (body.Gap c)) 0
      own Text = refl
      own Rodata = refl
      own Rwdata = refl
      own Bss = refl

  stored : (c : Class) (b : Body) (n : ℕ) → IsStored b → stop_of b (from c) (line c) ≡ Some n → place_of p g b ≡ unwrapped p (n % 2 ^ 64)
  stored c (body.Piece m) n i e = ap (unwrapped p) (piece_address m (there c (body.Piece m) n e) ∙ stop_is c (body.Piece m) n e)
  stored c (body.Gap k) n i e = go gaps refl
    where
      go : (z : Option Gaps) → gaps ≡ z → place_of p g (body.Gap k) ≡ unwrapped p (n % 2 ^ 64)
      go None is = let some : IsSome gaps = there c (body.Gap k) n e in let bad : false ≡ true = rw is at some in cc
      go (Some z) is = ap (unwrapped p) (gap_address z k is ∙ stop_is c (body.Gap k) n e)
  stored c (body.Area m) n i e = absurd i

  extents : (c : Class) → AreExtents p.areas (from c) (spreads kit g gaps order made c)
  extents c =
      let below = by_recursion (λ n. n < commons_number kit + 1) (spread_numbers kit c) (λ k d l. let h = numbers_below kit c k d l in omega (arith, h)) in
      let moved : AreExtents p.areas (listed_from kit g lists c) (class_spreads kit lists c) =
      extents_kept (commons_number kit) (listed_from kit g lists c) lists areas p.areas (spread_numbers kit c) kept below (listed.extents c) in
      subst (λ (ss : List Spread). AreExtents p.areas (from c) ss) (s.spreads c) (subst (λ n. AreExtents p.areas n (class_spreads kit lists c)) (from_is kit g gaps order made lists s c) moved)

  classes_are : (c : Class) → slice_get p.areas (class_number c) ≡ Some (extent (from c) (line c))
  classes_are c =
      kept (class_number c) (low c)
      ∙ (listed.classes c
      ∙ (ap (λ n. Some (extent n (listed_line kit lists c))) (from_is kit g gaps order made lists s c) ∙ ap (λ l. Some (extent (from c) l)) (line_listed kit g gaps order made lists s c)))
    where
      low : (c : Class) → class_number c < 15 + length kit.runs
      low Text = omega arith
      low Rodata = omega arith
      low Rwdata = omega arith
      low Bss = omega arith

  -- it is laid out, names the pieces and the gaps, and is the computed one
  pub laid_is : Laid p kit g gaps order made
  laid_is = laid kit g gaps order made limit small (line_aligned kit g gaps order made sound o) (class_once kit g sound.pieces order o gaps made) p base count stored extents classes_are

  gaps_named : (z : Option Gaps) → map placed_name (laid_gaps addresses z) ≡ gap_names z
  gaps_named None = refl
  gaps_named (Some z) = refl

  pub names : NamesPieces p g gaps
  names =
      ap (map placed_name) pieces
      ∙ (names_append all_pieces (laid_gaps addresses gaps)
      ∙ rw (names_of (λ m x. slice_index addresses (body_number (body.Piece m))) 0 g.pieces, gaps_named gaps) refl)

  piece_word : (k : ℕ) → k < length g.pieces → (get_or p.pieces k no_placed).address < 2 ^ 64
  piece_word k l =
      let x = get_or g.pieces k no_piece in
      let stop = stop_there (piece_part k x) (line x.class) (from x.class) (piece_stands kit g sound.pieces order o gaps made k no_piece l) in
      let is = piece_address k l ∙ stop_is x.class (body.Piece k) stop.0 stop.1 in
      omega (arith, is)

  gap_word : (z : Gaps) (c : Class) → gaps ≡ Some z → (get_or p.pieces (length g.pieces + class_number c) no_placed).address < 2 ^ 64
  gap_word z c e =
      let part : LinePart = record { body = body.Gap c; size = gap_size z c; align = 16 } in
      let stop = stop_there part (line c) (from c) (gap_stands kit g sound.pieces order o gaps made z c e) in
      let is = gap_address z c e ∙ stop_is c (body.Gap c) stop.0 stop.1 in
      omega (arith, is)

  all_count : length p.pieces ≡ length g.pieces + length (laid_gaps addresses gaps)
  all_count = ap length pieces ∙ (length-append all_pieces (laid_gaps addresses gaps) ∙ ap (λ n. n + length (laid_gaps addresses gaps)) many)

  word_behind : (j : ℕ) → j < length (laid_gaps addresses gaps) → (get_or p.pieces (length g.pieces + j) no_placed).address < 2 ^ 64
  word_behind j l = go gaps refl j l
    where
      go : (z : Option Gaps) → gaps ≡ z → (j : ℕ) → j < length (laid_gaps addresses z) → (get_or p.pieces (length g.pieces + j) no_placed).address < 2 ^ 64
      go None e j l = absurd (omega arith)
      go (Some z) e zero l = gap_word z Text e
      go (Some z) e (suc zero) l = gap_word z Rodata e
      go (Some z) e (suc (suc zero)) l = gap_word z Rwdata e
      go (Some z) e (suc (suc (suc zero))) l = gap_word z Bss e
      go (Some z) e (suc (suc (suc (suc j)))) l = absurd (omega (arith, l))

  words : HasAddresses p
  words k d l =
      let same = get_or_default p.pieces k d no_placed l in
      let word : (get_or p.pieces k no_placed).address < 2 ^ 64 = elim (cases_lt k (length g.pieces)) [
        | inl h ↦ piece_word k h
        | inr h ↦
            let split : length g.pieces + (k - length g.pieces) ≡ k = omega (arith, h) in
            rw split at (word_behind (k - length g.pieces) (omega (arith, l, h, all_count)))
      ] in
      rw same word

  pub placed_is : p ≡ placed kit g gaps order made
  placed_is = only kit g gaps order made p limit sound o small words names laid_is
