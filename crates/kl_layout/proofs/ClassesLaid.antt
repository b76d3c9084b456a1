-- What is written of each class stays when those behind it are laid.
use Rattle.std.proofs.Common.{ℕ, ◌≡◌, ◌+◌, ◌%◌, ◌^◌, ◌<◌, ◌≢◌, ◌∙◌, List, [], ◌∷◌, ◌++◌, length, get_or, map, refl, ap, sym, arith, Bool, true, false, inl, inr, Option, eq-eqb}
use Rattle.std.specs.Prelude.{Some, None, ◌==◌, flat_map, slice_get, slice_index_or, IfSome, cond}
use Rattle.std.proofs.lemmas.Bool.{cases_Bool, eqb-true, ne_eqb}
use Rattle.kl_base.specs.declared.class.Class.{Class}
use Rattle.kl_base.specs.declared.class.Class.TheVariants.{Text, Rodata, Rwdata, Bss}
use Rattle.kl_model.specs.Areas.{class_number}
use Rattle.kl_model.specs.Laid.{reach}
use Rattle.kl_model.specs.Line.{classes}
use Rattle.kl_model.specs.Lists.{number_in, up}
use Rattle.kl_model.specs.Placed.{extent, same_body, stop_of}
use Rattle.kl_model.specs.declared.graph.Graph.{Graph}
use Rattle.kl_model.specs.declared.kit.Kit.{Kit}
use Rattle.kl_model.specs.declared.place.AreaAt.{AreaAt}
use Rattle.kl_model.specs.declared.place.Body.{Body}
use Rattle.kl_model.specs.declared.place.LinePart.{LinePart}
use Rattle.kl_layout.specs.Once.{AreDistinct, AreOnce}
use Rattle.kl_layout.specs.Spreads.{commons_number, is_area, spread_at, spread_numbers}
use Rattle.kl_layout.specs.Stops.{AreExtents, HasStops, IsBody, area_or, body_number, class_spreads, listed, listed_from, listed_line, room}
use Rattle.kl_layout.proofs.LayMore.{area_absent, once_left, once_right, room_append, stop_append_none, stop_append_some, stop_not_behind}
use Rattle.kl_layout.proofs.SpreadNumbers.{home_is, member_below, not_of_class, numbers_apart}
use Rattle.kl_layout.proofs.Standing.{stop_here, stop_further}

-- a body that has no stop has none wherever parts are laid from, nor has it one among some of them
none_from : (b : Body) (from e : ℕ) (xs : List LinePart) → stop_of b from xs ≡ None → stop_of b e xs ≡ None
none_from b from e [] h = refl
none_from b from e (x ∷ xs) h = go (λ f. none_from b (up from x.align + x.size) (up e x.align + x.size) xs f) (same_body b x.body) refl
  where
    go : (stop_of b (up from x.align + x.size) xs ≡ None → stop_of b (up e x.align + x.size) xs ≡ None) → (t : Bool) → same_body b x.body ≡ t → stop_of b e (x ∷ xs) ≡ None
    go more true t = let bad : Some (up from x.align) ≡ None = sym (stop_here b from x xs t) ∙ h in cc
    go more false t = stop_further b e x xs t ∙ more (sym (stop_further b from x xs t) ∙ h)

none_left : (b : Body) (from : ℕ) (xs ys : List LinePart) → stop_of b from (xs ++ ys) ≡ None → stop_of b from xs ≡ None
none_left b from xs ys h = go (stop_of b from xs) refl
  where
    go : (o : Option ℕ) → stop_of b from xs ≡ o → stop_of b from xs ≡ None
    go None e = e
    go (Some n) e = let bad : Some n ≡ None = sym (stop_append_some b from xs ys n e) ∙ h in cc

none_right : (b : Body) (from : ℕ) (xs ys : List LinePart) → stop_of b from (xs ++ ys) ≡ None → stop_of b (reach from xs) ys ≡ None
none_right b from xs ys h = sym (stop_append_none b from xs ys (none_left b from xs ys h)) ∙ h

-- the lines of the classes: none has a body twice, and what they take is what all take
pub line_once : (f : Class → List LinePart) → AreOnce (flat_map f classes) → (c : Class) → AreOnce (f c)
line_once f once Text = once_left (f Text) (f Rodata ++ (f Rwdata ++ (f Bss ++ []))) once
line_once f once Rodata = once_left (f Rodata) (f Rwdata ++ (f Bss ++ [])) (once_right (f Text) (f Rodata ++ (f Rwdata ++ (f Bss ++ []))) once)
line_once f once Rwdata =
    once_left (f Rwdata) (f Bss ++ []) (once_right (f Rodata) (f Rwdata ++ (f Bss ++ [])) (once_right (f Text) (f Rodata ++ (f Rwdata ++ (f Bss ++ []))) once))
line_once f once Bss =
    once_left (f Bss) [] (once_right (f Rwdata) (f Bss ++ []) (once_right (f Rodata) (f Rwdata ++ (f Bss ++ [])) (once_right (f Text) (f Rodata ++ (f Rwdata ++ (f Bss ++ []))) once)))

pub lines_room : (f : Class → List LinePart) → room (flat_map f classes) ≡ room (f Text) + (room (f Rodata) + (room (f Rwdata) + room (f Bss)))
lines_room f =
    omega (arith, room_append (f Text) (f Rodata ++ (f Rwdata ++ (f Bss ++ []))), room_append (f Rodata) (f Rwdata ++ (f Bss ++ [])), room_append (f Rwdata) (f Bss ++ []), room_append (f Bss) [])

-- the areas of spreads are those that are written of them, where none has the number of another
extents_from : (commons from : ℕ) (lists : List (List LinePart)) (areas : List AreaAt) (old : ℕ → Option AreaAt) (numbers : List ℕ) → AreDistinct numbers
    → ((n : ℕ) → number_in numbers n ≡ true → is_area commons n ≡ true → slice_get areas n ≡ area_or n from (listed lists numbers) (old n))
    → AreExtents areas from (map (spread_at commons lists) numbers)
extents_from commons from lists areas old [] apart at = tt
extents_from commons from lists areas old (m ∷ numbers) apart at =
    (here (is_area commons m) refl, extents_from commons (reach from (slice_index_or lists m [])) lists areas old numbers apart.1 later)
  where
    here : (t : Bool) → is_area commons m ≡ t → IfSome (cond t (Some m) None) (λ n. slice_get areas n ≡ Some (extent from (slice_index_or lists m [])))
    here false t = tt
    here true t =
        let same : (m == m) ≡ true = eq-eqb m m refl in
        let found = at m (rw same refl) t in
        rw same at found

    later : (n : ℕ) → number_in numbers n ≡ true → is_area commons n ≡ true → slice_get areas n ≡ area_or n (reach from (slice_index_or lists m [])) (listed lists numbers) (old n)
    later n e t =
        let other : (m == n) ≡ false = elim (cases_Bool (m == n)) [
          | inl a ↦
              let same : m ≡ n = eqb-true m n a in
              let absent : number_in numbers n ≡ false = ap (number_in numbers) (sym same) ∙ apart.0 in
              let bad : true ≡ false = sym e ∙ absent in
              cc
          | inr a ↦ a
        ] in
        let found = at n (rw other e) t in
        rw other at found

-- what is written of a class that is laid from an address on: the areas but its own, and its own
abbrev pub OthersFrom : Kit → List (List LinePart) → Class → List AreaAt → List AreaAt → ℕ → Type 0
OthersFrom kit lists k old new from =
    (n : ℕ) → n < length old → (class_number k == n) ≡ false → slice_get new n ≡ area_or n from (listed lists (spread_numbers kit k)) (slice_get old n)

abbrev pub OwnFrom : Kit → List (List LinePart) → Class → List AreaAt → ℕ → Type 0
OwnFrom kit lists k new from = slice_get new (class_number k) ≡ Some (extent from (listed_line kit lists k))

module _ (kit : Kit) (g : Graph) (lists : List (List LinePart)) (once : AreOnce (flat_map (listed_line kit lists) classes)) where
  abbrev L : Class → List LinePart
  L c = listed_line kit lists c

  abbrev F : Class → ℕ
  F c = listed_from kit g lists c

  -- addresses
  module _ (a b c d e : List ℕ) (text : HasStops (F Text) (L Text) a b) (rodata : HasStops (F Rodata) (L Rodata) b c) (rwdata : HasStops (F Rwdata) (L Rwdata) c d)
      (bss : HasStops (F Bss) (L Bss) d e) (n : ℕ) (la : length a ≡ n) (lb : length b ≡ n) (lc : length c ≡ n) (ld : length d ≡ n) (le : length e ≡ n) where
    kept : (from : ℕ) (xs : List LinePart) (old new : List ℕ) (x : Body) → HasStops from xs old new → IsBody (length old) x → stop_of x from xs ≡ None
        → get_or new (body_number x) 0 ≡ get_or old (body_number x) 0
    kept from xs old new x h i none = h x i ∙ rw none refl

    found : (from : ℕ) (xs : List LinePart) (old new : List ℕ) (x : Body) (s : ℕ) → HasStops from xs old new → IsBody (length old) x → stop_of x from xs ≡ Some s
        → get_or new (body_number x) 0 ≡ s % 2 ^ 64
    found from xs old new x s h i is = h x i ∙ rw is refl

    in_all : (x : Body) → IsBody (length e) x → (m : ℕ) → m ≡ n → IsBody m x
    in_all x i m h = let same : m ≡ length e = h ∙ sym le in rw same i

    after_rodata : (x : Body) → IsBody (length e) x → (f : ℕ) → stop_of x f (L Rwdata ++ (L Bss ++ [])) ≡ None → get_or e (body_number x) 0 ≡ get_or c (body_number x) 0
    after_rodata x i f h =
        let w = none_left x f (L Rwdata) (L Bss ++ []) h in
        let z = none_left x (reach f (L Rwdata)) (L Bss) [] (none_right x f (L Rwdata) (L Bss ++ []) h) in
        kept (F Bss) (L Bss) d e x bss (in_all x i (length d) ld) (none_from x (reach f (L Rwdata)) (F Bss) (L Bss) z)
        ∙ kept (F Rwdata) (L Rwdata) c d x rwdata (in_all x i (length c) lc) (none_from x f (F Rwdata) (L Rwdata) w)

    pub stops : (k : Class) (x : Body) (s : ℕ) → IsBody (length e) x → stop_of x (F k) (L k) ≡ Some s → get_or e (body_number x) 0 ≡ s % 2 ^ 64
    stops Text x s i is =
        let behind = stop_not_behind x (F Text) 0 (L Text) (L Rodata ++ (L Rwdata ++ (L Bss ++ []))) s once is in
        let r = none_left x 0 (L Rodata) (L Rwdata ++ (L Bss ++ [])) behind in
        after_rodata x i (reach 0 (L Rodata)) (none_right x 0 (L Rodata) (L Rwdata ++ (L Bss ++ [])) behind)
        ∙ (kept (F Rodata) (L Rodata) b c x rodata (in_all x i (length b) lb) (none_from x 0 (F Rodata) (L Rodata) r)
        ∙ found (F Text) (L Text) a b x s text (in_all x i (length a) la) is)
    stops Rodata x s i is =
        let behind = stop_not_behind x (F Rodata) 0 (L Rodata) (L Rwdata ++ (L Bss ++ [])) s (once_right (L Text) (L Rodata ++ (L Rwdata ++ (L Bss ++ []))) once) is in
        after_rodata x i 0 behind ∙ found (F Rodata) (L Rodata) b c x s rodata (in_all x i (length b) lb) is
    stops Rwdata x s i is =
        let behind = stop_not_behind x (F Rwdata) 0 (L Rwdata) (L Bss ++ []) s
        (once_right (L Rodata) (L Rwdata ++ (L Bss ++ [])) (once_right (L Text) (L Rodata ++ (L Rwdata ++ (L Bss ++ []))) once)) is in
        let z = none_left x 0 (L Bss) [] behind in
        kept (F Bss) (L Bss) d e x bss (in_all x i (length d) ld) (none_from x 0 (F Bss) (L Bss) z)
        ∙ found (F Rwdata) (L Rwdata) c d x s rwdata (in_all x i (length c) lc) is
    stops Bss x s i is = found (F Bss) (L Bss) d e x s bss (in_all x i (length d) ld) is

  -- areas
  abbrev pub Others : Class → List AreaAt → List AreaAt → Type 0
  Others k old new = OthersFrom kit lists k old new (F k)

  abbrev pub Own : Class → List AreaAt → Type 0
  Own k new = OwnFrom kit lists k new (F k)

  kept_area : (k : Class) (old new : List AreaAt) (n : ℕ) → Others k old new → n < length old → (class_number k == n) ≡ false → number_in (spread_numbers kit k) n ≡ false
      → slice_get new n ≡ slice_get old n
  kept_area k old new n others l other absent =
      others n l other ∙ (let none = area_absent lists n (F k) (spread_numbers kit k) absent in rw none refl)

  module _ (a b c d e : List AreaAt) (text : Others Text a b) (rodata : Others Rodata b c) (rwdata : Others Rwdata c d) (bss : Others Bss d e)
      (own_text : Own Text b) (own_rodata : Own Rodata c) (own_rwdata : Own Rwdata d) (own_bss : Own Bss e)
      (n : ℕ) (ln : n ≡ 15 + (length kit.runs + 1)) (la : length a ≡ n) (lb : length b ≡ n) (lc : length c ≡ n) (ld : length d ≡ n) where
    -- a spread of a class isn't written by another
    abbrev IsFar : Class → Class → Type 0
    IsFar k j = class_number j ≢ class_number k

    not_own : (k : Class) (m : ℕ) → is_area (commons_number kit) m ≡ true → (class_number k == m) ≡ false
    not_own k m t = ne_eqb (class_number k) m (λ f. low k m f t)
      where
        low : (k : Class) (m : ℕ) → class_number k ≡ m → is_area (commons_number kit) m ≡ true → ⊥
        low Text m f t = let bad : false ≡ true = rw (sym f) at t in cc
        low Rodata m f t = let bad : false ≡ true = rw (sym f) at t in cc
        low Rwdata m f t = let bad : false ≡ true = rw (sym f) at t in cc
        low Bss m f t = let bad : false ≡ true = rw (sym f) at t in cc

    same : (j : Class) (old new : List AreaAt) → Others j old new → length old ≡ n → (k : Class) → IsFar k j → (m : ℕ) → number_in (spread_numbers kit k) m ≡ true
        → (class_number j == m) ≡ false → slice_get new m ≡ slice_get old m
    same j old new others l k far m is other =
        kept_area j old new m others (omega (arith, l, ln, member_below kit k m is)) other (not_of_class kit j k m is far (home_is kit k m is))

    own_member : (k : Class) → number_in (spread_numbers kit k) (class_number k) ≡ true
    own_member Text = refl
    own_member Rodata = refl
    own_member Rwdata = refl
    own_member Bss = refl

    last_two : (k : Class) → IsFar k Rwdata → IsFar k Bss → (m : ℕ) → number_in (spread_numbers kit k) m ≡ true → (class_number Rwdata == m) ≡ false → (class_number Bss == m) ≡ false
        → slice_get e m ≡ slice_get c m
    last_two k fw fz m is ow oz = same Bss d e bss ld k fz m is oz ∙ same Rwdata c d rwdata lc k fw m is ow

    pub classes_are : (k : Class) → slice_get e (class_number k) ≡ Some (extent (F k) (L k))
    classes_are Text =
        last_two Text (λ f. omega (arith, f)) (λ f. omega (arith, f)) 0 (own_member Text) refl refl
        ∙ (same Rodata b c rodata lb Text (λ f. omega (arith, f)) 0 (own_member Text) refl ∙ own_text)
    classes_are Rodata = last_two Rodata (λ f. omega (arith, f)) (λ f. omega (arith, f)) 1 (own_member Rodata) refl refl ∙ own_rodata
    classes_are Rwdata = same Bss d e bss ld Rwdata (λ f. omega (arith, f)) 2 (own_member Rwdata) refl ∙ own_rwdata
    classes_are Bss = own_bss

    written : (k : Class) (old new : List AreaAt) → Others k old new → length old ≡ n → ((m : ℕ) → number_in (spread_numbers kit k) m ≡ true → is_area (commons_number kit) m ≡ true → slice_get e m ≡ slice_get new m)
        → AreExtents e (F k) (class_spreads kit lists k)
    written k old new others l stays =
        extents_from (commons_number kit) (F k) lists e (slice_get old) (spread_numbers kit k) (numbers_apart kit k)
        (λ m is t. stays m is t ∙ others m (omega (arith, l, ln, member_below kit k m is)) (not_own k m t))

    pub extents_are : (k : Class) → AreExtents e (F k) (class_spreads kit lists k)
    extents_are Text = written Text a b text la
        (λ m is t. last_two Text (λ f. omega (arith, f)) (λ f. omega (arith, f)) m is (not_own Rwdata m t) (not_own Bss m t)
        ∙ same Rodata b c rodata lb Text (λ f. omega (arith, f)) m is (not_own Rodata m t))
    extents_are Rodata = written Rodata b c rodata lb (λ m is t. last_two Rodata (λ f. omega (arith, f)) (λ f. omega (arith, f)) m is (not_own Rwdata m t) (not_own Bss m t))
    extents_are Rwdata = written Rwdata c d rwdata lc (λ m is t. same Bss d e bss ld Rwdata (λ f. omega (arith, f)) m is (not_own Bss m t))
    extents_are Bss = written Bss d e bss ld (λ m is t. refl)
