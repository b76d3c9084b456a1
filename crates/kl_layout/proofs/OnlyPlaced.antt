-- A laid placement of a sound graph is the computed one.
use Rattle.std.proofs.Common.{ℕ, zero, suc, ◌≡◌, ◌+◌, ◌-◌, ◌%◌, ◌^◌, ◌<◌, ◌≤◌, ◌∙◌, List, [], ◌∷◌, ◌++◌, length, get_or, map, refl, ap, sym, arith, nat_lt, Bool, true, false, ◌||◌, inl, inr, length-append, eq-eqb}
use Rattle.std.specs.Prelude.{Contains, Option, Some, None, slice_get, unwrap_or, ◌==◌}
use Rattle.std.specs.List.{list_any}
use Rattle.std.specs.Option.{option_map_or}
use Rattle.std.proofs.lemmas.Bool.{cases_lt, eqb-true, le-ltb, lt-ltb}
use Rattle.std.proofs.lemmas.List.{get_or_append_left, get_or-append-add, length-map}
use Rattle.std.proofs.lemmas.List.Folds.{list_any-append}
use Rattle.kl_base.specs.declared.class.Class.{Class}
use Rattle.kl_base.specs.declared.class.Class.TheVariants.{Text, Rodata, Rwdata, Bss}
use Rattle.kl_base.specs.declared.limits.TheConstants.{BASE_LIMIT, SPAN_LIMIT}
use Rattle.kl_model.specs.Areas.{class_number, same_class}
use Rattle.kl_model.specs.Carries.{NamesPieces, gap_names, no_piece}
use Rattle.kl_model.specs.Laid.{AreasStand, ClassLaid, IsArea, Laid, Stand, end_of, place_of, reach, span, start_of, unwrapped, no_placed}
use Rattle.kl_model.specs.Line.{Spread, class_line, gap_size, last_spreads, of_input, ordinary, piece_part, run_spreads, sequence, spreads}
use Rattle.kl_model.specs.Lists.{each, each_from, only_if, up}
use Rattle.kl_model.specs.Orders.{IsOrder, drawn_count}
use Rattle.kl_model.specs.Placed.{area_extent, class_extent, class_from, extent, extent_of, placed, placed_gaps, same_body, spread_extent, stop_in, stop_of}
use Rattle.kl_model.specs.Sound.{IsSoundGraph}
use Rattle.kl_model.specs.declared.graph.Graph.{Graph}
use Rattle.kl_model.specs.declared.graph.Piece.{Piece}
use Rattle.kl_model.specs.declared.graph.PieceId.{PieceId}
use Rattle.kl_model.specs.declared.kit.Kit.{Kit}
use Rattle.kl_model.specs.declared.kit.KitKind.{KitKind}
use Rattle.kl_model.specs.declared.kit.KitKind.TheVariants.{Kernel, Library}
use Rattle.kl_model.specs.declared.kit.Run.{Run}
use Rattle.kl_model.specs.declared.place.AreaAt.{AreaAt}
use Rattle.kl_model.specs.declared.place.Body.{Body}
use Rattle.kl_model.specs.declared.place.Body.TheVariants as body
use Rattle.kl_model.specs.declared.place.Gaps.{Gaps}
use Rattle.kl_model.specs.declared.place.LinePart.{LinePart}
use Rattle.kl_model.specs.declared.place.Made.{Made}
use Rattle.kl_model.specs.declared.place.Placed.{Placed}
use Rattle.kl_model.specs.declared.place.Placement.{Placement}
use Rattle.kl_model.proofs.InOrder.{areas-stand, end-reach}
use Rattle.kl_layout.specs.OnePlacement.{HasAddresses, OnePlacement}
use Rattle.kl_layout.proofs.ClassEnds.{each_laid}
use Rattle.kl_layout.proofs.LineParts.{line_aligned}
use Rattle.kl_layout.proofs.OneEach.{gap_stands, piece_stands}
use Rattle.kl_layout.proofs.Standing.{same_body_itself, stop_here, stop_further, stands_at_stop, start_is}

-- an address that is kept modulo 2^64 is that of the number that it stands for
wrapped_back : (p : Placement) (a s : ℕ) → a < 2 ^ 64 → p.base < 2 ^ 64 → unwrapped p a ≡ s → a ≡ s % 2 ^ 64
wrapped_back p a s h b e =
    elim (cases_lt a p.base) [
      | inl l ↦ let t : nat_lt a p.base ≡ true = lt-ltb a p.base l in let w : a + 2 ^ 64 ≡ s = rw t at e in omega arith
      | inr l ↦ let t : nat_lt a p.base ≡ false = le-ltb a p.base l in let w : a ≡ s = rw t at e in omega arith
    ]

-- lists of one length with the same items
gets_same : {X : Type 0} (xs ys : List X) → length xs ≡ length ys → ((k : ℕ) → k < length ys → slice_get xs k ≡ slice_get ys k) → xs ≡ ys
gets_same [] [] e h = refl
gets_same [] (y ∷ ys) e h = absurd (omega arith)
gets_same (x ∷ xs) [] e h = absurd (omega arith)
gets_same (x ∷ xs) (y ∷ ys) e h =
    let first : Some x ≡ Some y = h zero (omega arith) in
    let same : x ≡ y = cc in
    let rest = gets_same xs ys (omega arith) (λ k l. h (suc k) (omega arith)) in
    ap (λ z. z ∷ xs) same ∙ ap (λ l. y ∷ l) rest

-- placed pieces of the same names at the same addresses
abbrev pub placed_name : Placed → PieceId × ℕ
placed_name x = (x.id, x.size)

abbrev pub piece_name : Piece → PieceId × ℕ
piece_name x = (x.id, x.size)

names_same : (ps qs : List Placed) → map placed_name ps ≡ map placed_name qs
    → ((k : ℕ) → k < length qs → (get_or ps k no_placed).address ≡ (get_or qs k no_placed).address) → ps ≡ qs
names_same [] [] e h = refl
names_same [] (q ∷ qs) e h = cc
names_same (p ∷ ps) [] e h = cc
names_same (p ∷ ps) (q ∷ qs) e h =
    let first : placed_name p ≡ placed_name q = cc in
    let others : map placed_name ps ≡ map placed_name qs = cc in
    let rest = names_same ps qs others (λ k l. h (suc k) (omega (arith, l))) in
    let here : p.address ≡ q.address = h zero (omega arith) in
    ap (λ i. record { id = i; address = p.address; size = p.size } ∷ ps) (ap (λ t. t.0) first)
    ∙ (ap (λ a. record { id = q.id; address = a; size = p.size } ∷ ps) here
    ∙ (ap (λ s. record { id = q.id; address = q.address; size = s } ∷ ps) (ap (λ t. t.1) first) ∙ ap (λ l. q ∷ l) rest))

-- the names and sizes of pieces with any addresses, and of gaps
pub names_of : (address : ℕ → Piece → ℕ) (n : ℕ) (xs : List Piece)
    → map placed_name (each_from n (λ m (x : Piece). record { id = x.id; address = address m x; size = x.size } ∷ []) xs) ≡ map piece_name xs
names_of address n [] = refl
names_of address n (x ∷ xs) = ap (λ l. piece_name x ∷ l) (names_of address (suc n) xs)

pub names_append : (xs ys : List Placed) → map placed_name (xs ++ ys) ≡ map placed_name xs ++ map placed_name ys
names_append [] ys = refl
names_append (x ∷ xs) ys = ap (λ l. placed_name x ∷ l) (names_append xs ys)

-- the item at a place of what is made one by one, and how many there are
pub each_at : {X Y : Type 0} (f : ℕ → X → Y) (n : ℕ) (xs : List X) (k : ℕ) (d : Y) (e : X) → k < length xs
    → get_or (each_from n (λ m x. f m x ∷ []) xs) k d ≡ f (n + k) (get_or xs k e)
each_at f n [] k d e h = absurd (omega arith)
each_at f n (x ∷ xs) zero d e h = let here : n + zero ≡ n = omega arith in rw here refl
each_at f n (x ∷ xs) (suc k) d e h = let next : n + suc k ≡ suc n + k = omega arith in rw next (each_at f (suc n) xs k d e (omega arith))

pub each_count : {X Y : Type 0} (f : ℕ → X → Y) (n : ℕ) (xs : List X) → length (each_from n (λ m x. f m x ∷ []) xs) ≡ length xs
each_count f n [] = refl
each_count f n (x ∷ xs) = ap suc (each_count f (suc n) xs)

pub get_each : {X Y : Type 0} (f : ℕ → Y) (n : ℕ) (xs : List X) (k : ℕ) → k < length xs → slice_get (each_from n (λ m x. f m ∷ []) xs) k ≡ Some (f (n + k))
get_each f n [] k h = absurd (omega arith)
get_each f n (x ∷ xs) zero h = let here : n + zero ≡ n = omega arith in rw here refl
get_each f n (x ∷ xs) (suc k) h = let next : n + suc k ≡ suc n + k = omega arith in rw next (get_each f (suc n) xs k (omega (arith, h)))

-- a part that is there has a stop
pub stop_there : (x : LinePart) (xs : List LinePart) (from : ℕ) → Contains xs x → (n : ℕ) × (stop_of x.body from xs ≡ Some n)
stop_there x xs from c = go xs from c.0 c.1 c.2
  where
    go : (xs : List LinePart) (from k : ℕ) → k < length xs → get_or xs k x ≡ x → (n : ℕ) × (stop_of x.body from xs ≡ Some n)
    go [] from k h e = absurd (omega arith)
    go (y ∷ ys) from zero h e =
        (up from y.align, stop_here x.body from y ys (ap (λ (z : LinePart). same_body x.body z.body) e ∙ same_body_itself x.body))
    go (y ∷ ys) from (suc k) h e = here (go ys (up from y.align + y.size) k (omega (arith, h)) e) (same_body x.body y.body) refl
      where
        here : (n : ℕ) × (stop_of x.body (up from y.align + y.size) ys ≡ Some n) → (t : Bool) → same_body x.body y.body ≡ t → (n : ℕ) × (stop_of x.body from (y ∷ ys) ≡ Some n)
        here r true t = (up from y.align, stop_here x.body from y ys t)
        here r false t = (r.0, stop_further x.body from y ys t ∙ r.1)

-- the area of a number among spreads that stand has its extent
pub has_area : ℕ → Spread → Bool
has_area n s = option_map_or (λ m. m == n) s.area false

extent_found : (p : Placement) (at : Body → ℕ) (n from : ℕ) (ss : List Spread) (e : AreaAt) → AreasStand p at from ss → extent_of n from ss ≡ Some e → slice_get p.areas n ≡ Some e
extent_found p at n from [] e a h = cc
extent_found p at n from (s ∷ ss) e a h =
    go (λ f. extent_found p at n (end_of at from s.parts) ss e a.2 f) s.area refl (option_map_or (λ m. m == n) s.area false) refl
  where
    stop : end_of at from s.parts ≡ reach from s.parts
    stop = end-reach at from s.parts a.0

    go : (extent_of n (end_of at from s.parts) ss ≡ Some e → slice_get p.areas n ≡ Some e) → (o : Option ℕ) → s.area ≡ o → (t : Bool)
        → option_map_or (λ m. m == n) s.area false ≡ t → slice_get p.areas n ≡ Some e
    go more o is false t =
        let rest : extent_of n (reach from s.parts) ss ≡ Some e = rw t at h in
        more (ap (λ k. extent_of n k ss) stop ∙ rest)
    go more None is true t = let bad : false ≡ true = rw is at t in cc
    go more (Some m) is true t =
        let same : m ≡ n = eqb-true m n (rw is at t) in
        let own : IsArea p m (start_of at from s.parts) (end_of at from s.parts) = rw is at a.1 in
        let here : Some (extent from s.parts) ≡ Some e = rw t at h in
        ap (slice_get p.areas) (sym same) ∙ (own ∙ (rw (stop, start_is at from s.parts a.0) here))

pub any_extent : (n from : ℕ) (ss : List Spread) → list_any (has_area n) ss ≡ true → (e : AreaAt) × (extent_of n from ss ≡ Some e)
unfolding has_area
any_extent n from [] h = cc
any_extent n from (s ∷ ss) h = go (λ f. any_extent n (reach from s.parts) ss f) (option_map_or (λ m. m == n) s.area false) refl
  where
    go : (list_any (has_area n) ss ≡ true → (e : AreaAt) × (extent_of n (reach from s.parts) ss ≡ Some e)) → (t : Bool) → option_map_or (λ m. m == n) s.area false ≡ t → (e : AreaAt) × (extent_of n from (s ∷ ss) ≡ Some e)
    go more true t = (extent from s.parts, rw t refl)
    go more false t = let r = more (rw t at h) in (r.0, rw t r.1)

or_right : (a b : Bool) → b ≡ true → (a || b) ≡ true
or_right true b e = refl
or_right false b e = e

or_left : (a b : Bool) → a ≡ true → (a || b) ≡ true
or_left true b e = refl
or_left false b e = cc

module _ (kit : Kit) (g : Graph) (gaps : Option Gaps) (order : List ℕ) (made : Made) where
  -- each area is among the spreads of a class
  in_last : (n : ℕ) (c : Class) → list_any (has_area n) (last_spreads kit.kind g made c) ≡ true → list_any (has_area n) (spreads kit g gaps order made c) ≡ true
  in_last n c h =
      or_right (has_area n (ordinary g gaps order c)) _ (list_any-append (has_area n) (run_spreads kit g order c) (last_spreads kit.kind g made c) ∙ or_right _ _ h)

  in_runs : (n : ℕ) (c : Class) → list_any (has_area n) (run_spreads kit g order c) ≡ true → list_any (has_area n) (spreads kit g gaps order made c) ≡ true
  in_runs n c h =
      or_right (has_area n (ordinary g gaps order c)) _ (list_any-append (has_area n) (run_spreads kit g order c) (last_spreads kit.kind g made c) ∙ or_left _ _ h)

  run_there : (c : Class) (k : ℕ) (rs : List Run) (j : ℕ) (d : Run) → j < length rs → same_class (get_or rs j d).class c ≡ true
      → list_any (has_area (15 + (k + j))) (each_from k (λ k (r : Run). only_if (same_class r.class c) (record { area = Some (15 + k); parts = sequence g order [] (of_input g c (15 + k)) })) rs) ≡ true
  unfolding has_area
  run_there c k [] j d l t = absurd (omega arith)
  run_there c k (r ∷ rs) zero d l t =
      let here : k + zero ≡ k = omega arith in rw (here, t, eq-eqb (15 + k) (15 + k) refl) refl
  run_there c k (r ∷ rs) (suc j) d l t =
      let next : k + suc j ≡ suc k + j = omega arith in
      rw next (list_any-append (has_area (15 + (suc k + j))) (only_if (same_class r.class c) _) _ ∙ or_right _ _ (run_there c (suc k) rs j d (omega (arith, l)) t))

  abbrev pub Somewhere : ℕ → Type 0
  Somewhere n = (c : Class) × (list_any (has_area n) (spreads kit g gaps order made c) ≡ true)

  pub run_somewhere : (j : ℕ) → j < length kit.runs → Somewhere (15 + j)
  run_somewhere j l =
      let d = no_run in
      let c = (get_or kit.runs j d).class in
      let here : 0 + j ≡ j = omega arith in
      (c, in_runs (15 + j) c (rw here at (run_there c 0 kit.runs j d l (eq-eqb (class_number c) (class_number c) refl))))
    where
      no_run : Run
      no_run = record { section = []; class = Text; start = []; end = []; line = 0 }

  got_somewhere : Somewhere 13
  unfolding has_area
  got_somewhere = go kit.kind refl
    where
      go : (k : KitKind) → kit.kind ≡ k → Somewhere 13
      go Kernel e = (Rodata, in_last 13 Rodata (rw e refl))
      go Library e = (Rwdata, in_last 13 Rwdata (rw e refl))

  dynamic_somewhere : Somewhere 14
  unfolding has_area
  dynamic_somewhere = (Rwdata, in_last 14 Rwdata (go kit.kind))
    where
      go : (k : KitKind) → list_any (has_area 14) (last_spreads k g made Rwdata) ≡ true
      go Kernel = refl
      go Library = refl

  pub low_somewhere : (n : ℕ) → 4 ≤ n → n < 15 → Somewhere n
  unfolding has_area
  low_somewhere zero h l = absurd (omega arith)
  low_somewhere (suc zero) h l = absurd (omega arith)
  low_somewhere (suc (suc zero)) h l = absurd (omega arith)
  low_somewhere (suc (suc (suc zero))) h l = absurd (omega arith)
  low_somewhere (suc (suc (suc (suc zero)))) h l = (Text, in_last 4 Text refl)
  low_somewhere (suc (suc (suc (suc (suc zero))))) h l = (Text, in_last 5 Text refl)
  low_somewhere (suc (suc (suc (suc (suc (suc zero)))))) h l = (Text, in_last 6 Text refl)
  low_somewhere (suc (suc (suc (suc (suc (suc (suc zero))))))) h l = (Rodata, in_last 7 Rodata refl)
  low_somewhere (suc (suc (suc (suc (suc (suc (suc (suc zero)))))))) h l = (Rodata, in_last 8 Rodata refl)
  low_somewhere (suc (suc (suc (suc (suc (suc (suc (suc (suc zero))))))))) h l = (Rwdata, in_last 9 Rwdata refl)
  low_somewhere (suc (suc (suc (suc (suc (suc (suc (suc (suc (suc zero)))))))))) h l = (Rwdata, in_last 10 Rwdata refl)
  low_somewhere (suc (suc (suc (suc (suc (suc (suc (suc (suc (suc (suc zero))))))))))) h l = (Rwdata, in_last 11 Rwdata refl)
  low_somewhere (suc (suc (suc (suc (suc (suc (suc (suc (suc (suc (suc (suc zero)))))))))))) h l = (Rwdata, in_last 12 Rwdata refl)
  low_somewhere (suc (suc (suc (suc (suc (suc (suc (suc (suc (suc (suc (suc (suc zero))))))))))))) h l = got_somewhere
  low_somewhere (suc (suc (suc (suc (suc (suc (suc (suc (suc (suc (suc (suc (suc (suc zero)))))))))))))) h l = dynamic_somewhere
  low_somewhere (suc (suc (suc (suc (suc (suc (suc (suc (suc (suc (suc (suc (suc (suc (suc n))))))))))))))) h l = absurd (omega arith)

  module _ (p : Placement) (limit : kit.base ≤ BASE_LIMIT) (sound : IsSoundGraph kit g) (o : IsOrder (drawn_count g.parts) order) (small : span kit g gaps order made ≤ SPAN_LIMIT)
      (words : HasAddresses p) (named : NamesPieces p g gaps) (is_laid : Laid p kit g gaps order made) where
    abbrev at : Body → ℕ
    at = place_of p g

    abbrev from : Class → ℕ
    from c = class_from kit g gaps order made c

    abbrev line : Class → List LinePart
    line c = class_line kit g gaps order made c

    class_laid : (c : Class) → ClassLaid p kit g gaps order made c (from c)
    class_laid = each_laid kit g gaps order made limit small (line_aligned kit g gaps order made sound o) p is_laid.base is_laid

    stands : (c : Class) → Stand at (from c) (line c)
    stands c = areas-stand p at (from c) (spreads kit g gaps order made c) (class_laid c).areas

    -- the areas
    class_is : (c : Class) → slice_get p.areas (class_number c) ≡ Some (class_extent kit g gaps order made c)
    class_is c =
        let stop = end-reach at (from c) (line c) (stands c) in
        let start = start_is at (from c) (line c) (stands c) in
        rw (stop, start) at (class_laid c).class

    abbrev own_extent : ℕ → Class → Option AreaAt
    own_extent n c = spread_extent kit g gaps order made n c

    found : (n : ℕ) (c : Class) (e : AreaAt) → own_extent n c ≡ Some e → slice_get p.areas n ≡ Some e
    found n c e h = extent_found p at n (from c) (spreads kit g gaps order made c) e (class_laid c).areas h

    nowhere : (n : ℕ) (c : Class) → list_any (has_area n) (spreads kit g gaps order made c) ≡ true → own_extent n c ≡ None → ⊥
    nowhere n c h e = let r = any_extent n (from c) (spreads kit g gaps order made c) h in let bad : Some r.0 ≡ None = sym r.1 ∙ e in cc

    not_all : (n : ℕ) (c : Class) → list_any (has_area n) (spreads kit g gaps order made c) ≡ true → own_extent n Text ≡ None → own_extent n Rodata ≡ None
        → own_extent n Rwdata ≡ None → own_extent n Bss ≡ None → ⊥
    not_all n Text h t r w z = nowhere n Text h t
    not_all n Rodata h t r w z = nowhere n Rodata h r
    not_all n Rwdata h t r w z = nowhere n Rwdata h w
    not_all n Bss h t r w z = nowhere n Bss h z

    area_is : (n : ℕ) → Somewhere n → slice_get p.areas n ≡ Some (area_extent kit g gaps order made n)
    area_is n s = go (own_extent n Text) (own_extent n Rodata) (own_extent n Rwdata) (own_extent n Bss) refl refl refl refl
      where
        go : (t r w z : Option AreaAt) → own_extent n Text ≡ t → own_extent n Rodata ≡ r → own_extent n Rwdata ≡ w → own_extent n Bss ≡ z
            → slice_get p.areas n ≡ Some (area_extent kit g gaps order made n)
        go (Some e) r w z et er ew ez = found n Text e et ∙ (rw et refl)
        go None (Some e) w z et er ew ez = found n Rodata e er ∙ (rw (et, er) refl)
        go None None (Some e) z et er ew ez = found n Rwdata e ew ∙ (rw (et, er, ew) refl)
        go None None None (Some e) et er ew ez = found n Bss e ez ∙ (rw (et, er, ew, ez) refl)
        go None None None None et er ew ez = absurd (not_all n s.0 s.1 et er ew ez)

    abbrev placed_areas : List AreaAt
    placed_areas = (placed kit g gaps order made).areas

    runs_areas : List AreaAt
    runs_areas = each_from 15 (λ n (r : Run). area_extent kit g gaps order made n ∷ []) kit.runs

    each_area : (k : ℕ) → k < length placed_areas → slice_get p.areas k ≡ slice_get placed_areas k
    each_area zero h = class_is Text
    each_area (suc zero) h = class_is Rodata
    each_area (suc (suc zero)) h = class_is Rwdata
    each_area (suc (suc (suc zero))) h = class_is Bss
    each_area (suc (suc (suc (suc zero)))) h = area_is 4 (low_somewhere 4 (omega arith) (omega arith))
    each_area (suc (suc (suc (suc (suc zero))))) h = area_is 5 (low_somewhere 5 (omega arith) (omega arith))
    each_area (suc (suc (suc (suc (suc (suc zero)))))) h = area_is 6 (low_somewhere 6 (omega arith) (omega arith))
    each_area (suc (suc (suc (suc (suc (suc (suc zero))))))) h = area_is 7 (low_somewhere 7 (omega arith) (omega arith))
    each_area (suc (suc (suc (suc (suc (suc (suc (suc zero)))))))) h = area_is 8 (low_somewhere 8 (omega arith) (omega arith))
    each_area (suc (suc (suc (suc (suc (suc (suc (suc (suc zero))))))))) h = area_is 9 (low_somewhere 9 (omega arith) (omega arith))
    each_area (suc (suc (suc (suc (suc (suc (suc (suc (suc (suc zero)))))))))) h = area_is 10 (low_somewhere 10 (omega arith) (omega arith))
    each_area (suc (suc (suc (suc (suc (suc (suc (suc (suc (suc (suc zero))))))))))) h = area_is 11 (low_somewhere 11 (omega arith) (omega arith))
    each_area (suc (suc (suc (suc (suc (suc (suc (suc (suc (suc (suc (suc zero)))))))))))) h = area_is 12 (low_somewhere 12 (omega arith) (omega arith))
    each_area (suc (suc (suc (suc (suc (suc (suc (suc (suc (suc (suc (suc (suc zero))))))))))))) h = area_is 13 (low_somewhere 13 (omega arith) (omega arith))
    each_area (suc (suc (suc (suc (suc (suc (suc (suc (suc (suc (suc (suc (suc (suc zero)))))))))))))) h = area_is 14 (low_somewhere 14 (omega arith) (omega arith))
    each_area (suc (suc (suc (suc (suc (suc (suc (suc (suc (suc (suc (suc (suc (suc (suc k))))))))))))))) h =
        let many = each_count (λ n (r : Run). area_extent kit g gaps order made n) 15 kit.runs in
        let below : k < length kit.runs = omega (arith, h, many) in
        let same : suc (suc (suc (suc (suc (suc (suc (suc (suc (suc (suc (suc (suc (suc (suc k)))))))))))))) ≡ 15 + k = omega arith in
        ap (slice_get p.areas) same ∙ (area_is (15 + k) (run_somewhere k below) ∙ sym (get_each (area_extent kit g gaps order made) 15 kit.runs k below))

    areas_are : p.areas ≡ placed_areas
    areas_are =
        let many = each_count (λ n (r : Run). area_extent kit g gaps order made n) 15 kit.runs in
        gets_same p.areas placed_areas (is_laid.count ∙ omega (arith, many)) each_area

    -- the pieces
    abbrev piece_at : ℕ → Piece → Placed
    piece_at n x = record { id = x.id; address = stop_in kit g gaps order made x.class (body.Piece n); size = x.size }

    abbrev pieces : List Placed
    pieces = each g.pieces (λ n x. piece_at n x ∷ [])

    gaps_named : (z : Option Gaps) → map placed_name (placed_gaps kit g gaps order made z) ≡ gap_names z
    gaps_named None = refl
    gaps_named (Some z) = refl

    names_are : map placed_name p.pieces ≡ map placed_name (placed kit g gaps order made).pieces
    names_are =
        named
        ∙ sym (names_append pieces (placed_gaps kit g gaps order made gaps)
        ∙ rw (names_of (λ n x. stop_in kit g gaps order made x.class (body.Piece n)) 0 g.pieces, gaps_named gaps) refl)

    many_pieces : length pieces ≡ length g.pieces
    many_pieces = each_count piece_at 0 g.pieces

    count : length p.pieces ≡ length (placed kit g gaps order made).pieces
    count = sym (length-map p.pieces placed_name) ∙ (ap length names_are ∙ length-map (placed kit g gaps order made).pieces placed_name)

    -- a part of a class's line is where its stop is
    at_stop : (c : Class) (x : LinePart) (k : ℕ) → Contains (line c) x → k < length p.pieces → at x.body ≡ unwrapped p (get_or p.pieces k no_placed).address
        → (get_or p.pieces k no_placed).address ≡ stop_in kit g gaps order made c x.body
    at_stop c x k there l is =
        let s = stop_there x (line c) (from c) there in
        let stand = stands_at_stop at x.body (from c) (line c) s.0 (stands c) s.1 in
        let base = is_laid.base in
        wrapped_back p (get_or p.pieces k no_placed).address s.0 (words k no_placed l) (omega (arith, base, limit)) (sym is ∙ stand)
        ∙ ap (λ q. unwrap_or q 0 % 2 ^ 64) (sym s.1)

    piece_addressed : (k : ℕ) → k < length g.pieces → (get_or p.pieces k no_placed).address ≡ (get_or (placed kit g gaps order made).pieces k no_placed).address
    piece_addressed k l =
        let x = get_or g.pieces k no_piece in
        let here : 0 + k ≡ k = omega arith in
        let left = get_or_append_left pieces (placed_gaps kit g gaps order made gaps) no_placed k (omega (arith, l, many_pieces)) in
        let item = each_at piece_at 0 g.pieces k no_placed no_piece l in
        let long = length-append pieces (placed_gaps kit g gaps order made gaps) in
        at_stop x.class (piece_part k x) k (piece_stands kit g sound.pieces order o gaps made k no_piece l) (omega (arith, l, many_pieces, count, long)) refl
        ∙ sym (ap (λ (q : Placed). q.address) (left ∙ item) ∙ rw here refl)

    gap_addressed : (j : ℕ) → j < length (placed_gaps kit g gaps order made gaps)
        → (get_or p.pieces (length g.pieces + j) no_placed).address ≡ (get_or (placed_gaps kit g gaps order made gaps) j no_placed).address
    gap_addressed j l = go gaps refl j l
      where
        long : length (placed kit g gaps order made).pieces ≡ length pieces + length (placed_gaps kit g gaps order made gaps)
        long = length-append pieces (placed_gaps kit g gaps order made gaps)

        one : (z : Gaps) → gaps ≡ Some z → (c : Class) → class_number c < 4
            → (get_or p.pieces (length g.pieces + class_number c) no_placed).address ≡ stop_in kit g gaps order made c (body.Gap c)
        one z e c low =
            let four : length (placed_gaps kit g gaps order made gaps) ≡ 4 = ap (λ y. length (placed_gaps kit g gaps order made y)) e in
            at_stop c (record { body = body.Gap c; size = gap_size z c; align = 16 }) (length g.pieces + class_number c)
            (gap_stands kit g sound.pieces order o gaps made z c e) (omega (arith, low, four, many_pieces, count, long)) refl

        go : (z : Option Gaps) → gaps ≡ z → (j : ℕ) → j < length (placed_gaps kit g gaps order made z)
            → (get_or p.pieces (length g.pieces + j) no_placed).address ≡ (get_or (placed_gaps kit g gaps order made z) j no_placed).address
        go None e j l = absurd (omega arith)
        go (Some z) e zero l = one z e Text (omega arith)
        go (Some z) e (suc zero) l = one z e Rodata (omega arith)
        go (Some z) e (suc (suc zero)) l = one z e Rwdata (omega arith)
        go (Some z) e (suc (suc (suc zero))) l = one z e Bss (omega arith)
        go (Some z) e (suc (suc (suc (suc j)))) l = absurd (omega (arith, l))

    addressed : (k : ℕ) → k < length (placed kit g gaps order made).pieces → (get_or p.pieces k no_placed).address ≡ (get_or (placed kit g gaps order made).pieces k no_placed).address
    addressed k l = elim (cases_lt k (length g.pieces)) [
      | inl h ↦ piece_addressed k h
      | inr h ↦
          let split : length g.pieces + (k - length g.pieces) ≡ k = omega (arith, h) in
          let after : length pieces + (k - length g.pieces) ≡ k = omega (arith, h, many_pieces) in
          let long = length-append pieces (placed_gaps kit g gaps order made gaps) in
          let right = get_or-append-add pieces (placed_gaps kit g gaps order made gaps) (k - length g.pieces) no_placed in
          let item : get_or (placed kit g gaps order made).pieces k no_placed ≡ get_or (placed_gaps kit g gaps order made gaps) (k - length g.pieces) no_placed = rw after at right in
          let given = gap_addressed (k - length g.pieces) (omega (arith, l, h, long, many_pieces)) in
          let given_at : (get_or p.pieces k no_placed).address ≡ (get_or (placed_gaps kit g gaps order made gaps) (k - length g.pieces) no_placed).address = rw split at given in
          given_at ∙ sym (ap (λ (q : Placed). q.address) item)
    ]

    pieces_are : p.pieces ≡ (placed kit g gaps order made).pieces
    pieces_are = names_same p.pieces (placed kit g gaps order made).pieces names_are addressed

    pub only : p ≡ placed kit g gaps order made
    only =
        ap (λ b. record { base = b; areas = p.areas; pieces = p.pieces }) is_laid.base
        ∙ (ap (λ a. record { base = kit.base; areas = a; pieces = p.pieces }) areas_are
        ∙ ap (λ q. record { base = kit.base; areas = placed_areas; pieces = q }) pieces_are)

-- a graph has one placement
pub one_placement : OnePlacement
one_placement kit g gaps order made p limit sound o small words named laid = only kit g gaps order made p limit sound o small words named laid
