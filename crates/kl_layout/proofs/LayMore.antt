-- One part or one spread more that is laid, and what is written of it.
use Rattle.std.proofs.Common.{ℕ, zero, suc, ◌≡◌, ◌+◌, ◌%◌, ◌^◌, ◌<◌, ◌≢◌, ◌∙◌, List, [], ◌∷◌, ◌++◌, length, get_or, set, take, drop, refl, ap, sym, arith, Bool, true, false, inl, inr, Option}
use Rattle.std.specs.Prelude.{Some, None, ◌==◌, slice_get, slice_index_or}
use Rattle.std.specs.Option.{option_map_or}
use Rattle.std.specs.List.{AllByRecursion, IsDistinct}
use Rattle.std.proofs.lemmas.List.{append-nil, drop_all, get_or-set_same, get_or-set_other, take_all}
use Rattle.std.proofs.lemmas.List.Sums.{sum_by-append}
use Rattle.std.proofs.lemmas.Map.Keys.{IsDistinct-head, IsDistinct-tail}
use Rattle.std.proofs.lemmas.Bool.{cases_Bool, eqb-false, eqb-true, ne_eqb}
use Rattle.kl_model.specs.Areas.{class_number}
use Rattle.kl_model.specs.Laid.{reach}
use Rattle.kl_model.specs.Lists.{number_in, up}
use Rattle.kl_model.specs.Placed.{extent, extent_of, same_body, stop_of}
use Rattle.kl_model.specs.declared.place.AreaAt.{AreaAt}
use Rattle.kl_model.specs.declared.place.Body.{Body}
use Rattle.kl_model.specs.declared.place.Body.TheVariants as body
use Rattle.kl_model.specs.declared.place.LinePart.{LinePart}
use Rattle.kl_layout.specs.Once.{AreDistinct, AreOnce}
use Rattle.kl_layout.specs.Stops.{IsBody, address_or, area_or, body_number, listed, room}
use Rattle.kl_layout.proofs.Areas.{own_low}
use Rattle.kl_layout.proofs.Standing.{no_stop, stop_here, stop_further, body_from_same}

-- what stands past the end of a list
abbrev pub no_part : LinePart
no_part = record { body = body.Piece 0; size = 0; align = 0 }

-- numbers of bodies are among so many, and two bodies have two
pub number_below : (n : ℕ) (b : Body) → IsBody n b → body_number b < n
number_below n (body.Gap c) h = omega (arith, h, own_low c)
number_below n (body.Area m) h = omega (arith, h.0, h.1)
number_below n (body.Piece m) h = h

numbers_differ : (n : ℕ) (b c : Body) → IsBody n b → IsBody n c → same_body b c ≡ false → body_number b ≢ body_number c
numbers_differ n (body.Gap c) (body.Gap d) h i e = eqb-false (class_number c) (class_number d) e
numbers_differ n (body.Gap c) (body.Area m) h i e = λ f. omega (arith, f, own_low c)
numbers_differ n (body.Gap c) (body.Piece m) h i e = λ f. omega (arith, f, own_low c)
numbers_differ n (body.Area k) (body.Gap d) h i e = λ f. omega (arith, f, own_low d)
numbers_differ n (body.Area k) (body.Area m) h i e = λ f. eqb-false k m e (omega (arith, f))
numbers_differ n (body.Area k) (body.Piece m) h i e = λ f. omega (arith, f, h.0)
numbers_differ n (body.Piece k) (body.Gap d) h i e = λ f. omega (arith, f, own_low d)
numbers_differ n (body.Piece k) (body.Area m) h i e = λ f. omega (arith, f, i.0)
numbers_differ n (body.Piece k) (body.Piece m) h i e = λ f. eqb-false k m e (omega (arith, f))

-- one part more
pub part_more : (e n : ℕ) (b : Body) (x : LinePart) (rest : List LinePart) (old : List ℕ) → n ≡ length old → IsBody n x.body → IsBody n b → AreOnce (x ∷ rest)
    → address_or b (up e x.align + x.size) rest (get_or (set old (body_number x.body) (up e x.align % 2 ^ 64)) (body_number b) 0)
    ≡ address_or b e (x ∷ rest) (get_or old (body_number b) 0)
part_more e n b x rest old long known is once = go (same_body b x.body) refl
  where
    go : (t : Bool) → same_body b x.body ≡ t
        → address_or b (up e x.align + x.size) rest (get_or (set old (body_number x.body) (up e x.align % 2 ^ 64)) (body_number b) 0)
        ≡ address_or b e (x ∷ rest) (get_or old (body_number b) 0)
    go true t =
        let same : b ≡ x.body = body_from_same b x.body t in
        let alone : stop_of b (up e x.align + x.size) rest ≡ None =
        ap (λ c. stop_of c (up e x.align + x.size) rest) same
        ∙ no_stop x.body (up e x.align + x.size) rest (IsDistinct-head (λ y z. same_body y.body z.body) x rest once) in
        let written : get_or (set old (body_number x.body) (up e x.align % 2 ^ 64)) (body_number b) 0 ≡ up e x.align % 2 ^ 64 =
        ap (λ c. get_or (set old (body_number x.body) (up e x.align % 2 ^ 64)) (body_number c) 0) same
        ∙ get_or-set_same old (body_number x.body) (up e x.align % 2 ^ 64) 0 (omega (arith, long, number_below n x.body known)) in
        ap (λ o. option_map_or (λ m. m % 2 ^ 64) o (get_or (set old (body_number x.body) (up e x.align % 2 ^ 64)) (body_number b) 0)) alone
        ∙ (written ∙ ap (λ o. option_map_or (λ m. m % 2 ^ 64) o (get_or old (body_number b) 0)) (sym (stop_here b e x rest t)))
    go false t =
        let other : body_number b ≢ body_number x.body = numbers_differ n b x.body is known t in
        rw (get_or-set_other old (body_number x.body) (body_number b) (up e x.align % 2 ^ 64) 0 other, stop_further b e x rest t) refl

-- more parts
pub reach_append : (from : ℕ) (xs ys : List LinePart) → reach from (xs ++ ys) ≡ reach (reach from xs) ys
reach_append from [] ys = refl
reach_append from (x ∷ xs) ys = reach_append (up from x.align + x.size) xs ys

pub once_left : (xs ys : List LinePart) → AreOnce (xs ++ ys) → AreOnce xs
unfolding IsDistinct
once_left [] ys d = tt
once_left (x ∷ xs) ys d = (firsts xs d.0, once_left xs ys d.1)
  where
    firsts : (zs : List LinePart) → AllByRecursion (λ y. same_body x.body y.body ≡ false) (zs ++ ys) → AllByRecursion (λ y. same_body x.body y.body ≡ false) zs
    firsts [] a = tt
    firsts (z ∷ zs) a = (a.0, firsts zs a.1)

pub once_right : (xs ys : List LinePart) → AreOnce (xs ++ ys) → AreOnce ys
once_right [] ys d = d
once_right (x ∷ xs) ys d = once_right xs ys (IsDistinct-tail (λ y z. same_body y.body z.body) x (xs ++ ys) d)

all_right : (P : LinePart → Type 0) (xs ys : List LinePart) → AllByRecursion P (xs ++ ys) → AllByRecursion P ys
all_right P [] ys a = a
all_right P (x ∷ xs) ys a = all_right P xs ys a.1

-- of parts of which no body stands twice those behind have none of the first
pub stop_not_behind : (b : Body) (from e : ℕ) (xs ys : List LinePart) (n : ℕ) → AreOnce (xs ++ ys) → stop_of b from xs ≡ Some n → stop_of b e ys ≡ None
stop_not_behind b from e [] ys n once s = cc
stop_not_behind b from e (x ∷ xs) ys n once s =
    go (λ f. stop_not_behind b (up from x.align + x.size) e xs ys n (IsDistinct-tail (λ y z. same_body y.body z.body) x (xs ++ ys) once) f) (same_body b x.body) refl
  where
    go : (stop_of b (up from x.align + x.size) xs ≡ Some n → stop_of b e ys ≡ None) → (t : Bool) → same_body b x.body ≡ t → stop_of b e ys ≡ None
    go more true t =
        ap (λ c. stop_of c e ys) (body_from_same b x.body t)
        ∙ no_stop x.body e ys (all_right (λ y. same_body x.body y.body ≡ false) xs ys (IsDistinct-head (λ y z. same_body y.body z.body) x (xs ++ ys) once))
    go more false t = more (sym (stop_further b from x xs t) ∙ s)

pub stop_append_none : (b : Body) (from : ℕ) (xs ys : List LinePart) → stop_of b from xs ≡ None → stop_of b from (xs ++ ys) ≡ stop_of b (reach from xs) ys
stop_append_none b from [] ys e = refl
stop_append_none b from (x ∷ xs) ys e = go (λ f. stop_append_none b (up from x.align + x.size) xs ys f) (same_body b x.body) refl
  where
    go : (stop_of b (up from x.align + x.size) xs ≡ None → stop_of b (up from x.align + x.size) (xs ++ ys) ≡ stop_of b (reach (up from x.align + x.size) xs) ys)
        → (t : Bool) → same_body b x.body ≡ t → stop_of b from (x ∷ (xs ++ ys)) ≡ stop_of b (reach (up from x.align + x.size) xs) ys
    go more true t = let bad : Some (up from x.align) ≡ None = sym (stop_here b from x xs t) ∙ e in cc
    go more false t = stop_further b from x (xs ++ ys) t ∙ more (sym (stop_further b from x xs t) ∙ e)

pub stop_append_some : (b : Body) (from : ℕ) (xs ys : List LinePart) (n : ℕ) → stop_of b from xs ≡ Some n → stop_of b from (xs ++ ys) ≡ Some n
stop_append_some b from [] ys n e = cc
stop_append_some b from (x ∷ xs) ys n e = go (λ f. stop_append_some b (up from x.align + x.size) xs ys n f) (same_body b x.body) refl
  where
    go : (stop_of b (up from x.align + x.size) xs ≡ Some n → stop_of b (up from x.align + x.size) (xs ++ ys) ≡ Some n) → (t : Bool) → same_body b x.body ≡ t
        → stop_of b from (x ∷ (xs ++ ys)) ≡ Some n
    go more true t = stop_here b from x (xs ++ ys) t ∙ (sym (stop_here b from x xs t) ∙ e)
    go more false t = stop_further b from x (xs ++ ys) t ∙ more (sym (stop_further b from x xs t) ∙ e)

pub parts_more : (b : Body) (from : ℕ) (xs ys : List LinePart) (old : ℕ) → AreOnce (xs ++ ys)
    → address_or b (reach from xs) ys (address_or b from xs old) ≡ address_or b from (xs ++ ys) old
parts_more b from xs ys old once = go (stop_of b from xs) refl
  where
    go : (o : Option ℕ) → stop_of b from xs ≡ o → address_or b (reach from xs) ys (address_or b from xs old) ≡ address_or b from (xs ++ ys) old
    go None e = rw (e, stop_append_none b from xs ys e) refl
    go (Some n) e = rw (e, stop_not_behind b from (reach from xs) xs ys n once e, stop_append_some b from xs ys n e) refl

-- one spread more
pub get_set_same : (xs : List AreaAt) (m : ℕ) (a : AreaAt) → m < length xs → slice_get (set xs m a) m ≡ Some a
get_set_same [] m a h = absurd (omega arith)
get_set_same (x ∷ xs) zero a h = refl
get_set_same (x ∷ xs) (suc m) a h = get_set_same xs m a (omega (arith, h))

pub get_set_other : (xs : List AreaAt) (m n : ℕ) (a : AreaAt) → (m == n) ≡ false → slice_get (set xs m a) n ≡ slice_get xs n
get_set_other [] m n a h = refl
get_set_other (x ∷ xs) zero zero a h = cc
get_set_other (x ∷ xs) zero (suc n) a h = refl
get_set_other (x ∷ xs) (suc m) zero a h = refl
get_set_other (x ∷ xs) (suc m) (suc n) a h = get_set_other xs m n a (ne_eqb m n (λ e. eqb-false (suc m) (suc n) h (ap suc e)))

pub area_absent : (lists : List (List LinePart)) (n from : ℕ) (numbers : List ℕ) → number_in numbers n ≡ false → extent_of n from (listed lists numbers) ≡ None
area_absent lists n from [] h = refl
area_absent lists n from (m ∷ numbers) h = elim (cases_Bool (m == n)) [
  | inl a ↦ (let bad : true ≡ false = rw a at h in cc)
  | inr a ↦ (let rest : number_in numbers n ≡ false = rw a at h in rw a (area_absent lists n (reach from (slice_index_or lists m [])) numbers rest))
]

pub area_more : (lists : List (List LinePart)) (n from m : ℕ) (numbers : List ℕ) (old : List AreaAt) → m < length old → AreDistinct (m ∷ numbers)
    → area_or n (reach from (slice_index_or lists m [])) (listed lists numbers) (slice_get (set old m (extent from (slice_index_or lists m []))) n)
    ≡ area_or n from (listed lists (m ∷ numbers)) (slice_get old n)
area_more lists n from m numbers old h apart = elim (cases_Bool (m == n)) [
  | inl a ↦
      let e : n ≡ m = sym (eqb-true m n a) in
      let none = area_absent lists m (reach from (slice_index_or lists m [])) numbers apart.0 in
      rw (a, e, none) (get_set_same old m (extent from (slice_index_or lists m [])) h)
  | inr a ↦ rw (a, get_set_other old m n (extent from (slice_index_or lists m [])) a) refl
]

pub room_append : (xs ys : List LinePart) → room (xs ++ ys) ≡ room xs + room ys
room_append xs ys = sum_by-append (λ x. x.size + x.align) xs ys

-- what a slice of a whole list was changed to is the list behind it
pub written_back : {X : Type 0} (xs ys : List X) (n : ℕ) → length xs ≡ n → length ys ≡ n → take n (xs ++ drop (length xs) ys) ≡ xs
written_back xs ys n e f =
    let none : drop (length xs) ys ≡ [] = drop_all (length xs) ys (omega (arith, e, f)) in
    rw (none, append-nil xs) (take_all n xs (omega (arith, e)))
