-- Where bodies stand among parts that are laid from an address on. All of it holds of any parts.
use Rattle.std.proofs.Common.{ℕ, ◌≡◌, ◌+◌, ◌≤◌, ◌∙◌, List, [], ◌∷◌, refl, ap, sym, arith, Bool, true, false, eq-eqb}
use Rattle.std.specs.Prelude.{Some, None}
use Rattle.std.proofs.lemmas.Bool.{eqb-true, false≢true}
use Rattle.std.proofs.lemmas.Map.Keys.{IsDistinct-head, IsDistinct-tail}
use Rattle.std.specs.List.{AllByRecursion}
use Rattle.kl_base.specs.declared.class.Class.{Class}
use Rattle.kl_base.specs.declared.class.Class.TheVariants.{Text, Rodata, Rwdata, Bss}
use Rattle.kl_model.specs.Areas.{same_class, class_number}
use Rattle.kl_model.specs.Laid.{Stand, start_of, reach}
use Rattle.kl_model.specs.Lists.{up}
use Rattle.kl_model.specs.Placed.{same_body, stop_of, first_stop}
use Rattle.kl_model.specs.declared.place.Body.{Body}
use Rattle.kl_model.specs.declared.place.Body.TheVariants as body
use Rattle.kl_model.specs.declared.place.LinePart.{LinePart}
use Rattle.kl_model.proofs.InOrder.{Aligned, le-up, le-reach}
use Rattle.kl_layout.specs.Once.{AreOnce}

same_class_itself : (c : Class) → same_class c c ≡ true
same_class_itself Text = refl
same_class_itself Rodata = refl
same_class_itself Rwdata = refl
same_class_itself Bss = refl

class_from_number : (c d : Class) → class_number c ≡ class_number d → c ≡ d
class_from_number Text Text e = refl
class_from_number Text Rodata e = absurd (omega arith)
class_from_number Text Rwdata e = absurd (omega arith)
class_from_number Text Bss e = absurd (omega arith)
class_from_number Rodata Text e = absurd (omega arith)
class_from_number Rodata Rodata e = refl
class_from_number Rodata Rwdata e = absurd (omega arith)
class_from_number Rodata Bss e = absurd (omega arith)
class_from_number Rwdata Text e = absurd (omega arith)
class_from_number Rwdata Rodata e = absurd (omega arith)
class_from_number Rwdata Rwdata e = refl
class_from_number Rwdata Bss e = absurd (omega arith)
class_from_number Bss Text e = absurd (omega arith)
class_from_number Bss Rodata e = absurd (omega arith)
class_from_number Bss Rwdata e = absurd (omega arith)
class_from_number Bss Bss e = refl

pub same_body_itself : (b : Body) → same_body b b ≡ true
same_body_itself (body.Piece n) = eq-eqb n n refl
same_body_itself (body.Gap c) = same_class_itself c
same_body_itself (body.Area n) = eq-eqb n n refl

pub body_from_same : (b c : Body) → same_body b c ≡ true → b ≡ c
body_from_same (body.Piece n) (body.Piece m) e = ap body.Piece (eqb-true n m e)
body_from_same (body.Piece n) (body.Gap d) e = absurd (false≢true e)
body_from_same (body.Piece n) (body.Area m) e = absurd (false≢true e)
body_from_same (body.Gap c) (body.Piece m) e = absurd (false≢true e)
body_from_same (body.Gap c) (body.Gap d) e = ap body.Gap (class_from_number c d (eqb-true (class_number c) (class_number d) e))
body_from_same (body.Gap c) (body.Area m) e = absurd (false≢true e)
body_from_same (body.Area n) (body.Piece m) e = absurd (false≢true e)
body_from_same (body.Area n) (body.Gap d) e = absurd (false≢true e)
body_from_same (body.Area n) (body.Area m) e = ap body.Area (eqb-true n m e)

-- the first part's stop, and those behind it
pub stop_here : (b : Body) (from : ℕ) (x : LinePart) (xs : List LinePart) → same_body b x.body ≡ true → stop_of b from (x ∷ xs) ≡ Some (up from x.align)
stop_here b from x xs e = rw e refl

pub stop_further : (b : Body) (from : ℕ) (x : LinePart) (xs : List LinePart) → same_body b x.body ≡ false
    → stop_of b from (x ∷ xs) ≡ stop_of b (up from x.align + x.size) xs
stop_further b from x xs e = rw e refl

-- a body of none of the parts has no stop
pub no_stop : (b : Body) (from : ℕ) (xs : List LinePart) → AllByRecursion (λ y. same_body b y.body ≡ false) xs → stop_of b from xs ≡ None
no_stop b from [] a = refl
no_stop b from (x ∷ xs) a = stop_further b from x xs a.0 ∙ no_stop b (up from x.align + x.size) xs a.1

-- a stop lies between where the parts are laid from and where they end
pub stop_within : (b : Body) (from : ℕ) (xs : List LinePart) (n : ℕ) → Aligned xs → stop_of b from xs ≡ Some n → (from ≤ n) × (n ≤ reach from xs)
stop_within b from [] n a e = cc
stop_within b from (x ∷ xs) n a e = go (λ f. stop_within b (up from x.align + x.size) xs n a.1 f) (same_body b x.body) refl
  where
    go : (stop_of b (up from x.align + x.size) xs ≡ Some n → (up from x.align + x.size ≤ n) × (n ≤ reach from (x ∷ xs)))
        → (t : Bool) → same_body b x.body ≡ t → (from ≤ n) × (n ≤ reach from (x ∷ xs))
    go more true t =
        let s : Some (up from x.align) ≡ Some n = sym (stop_here b from x xs t) ∙ e in
        let m : up from x.align ≡ n = cc in
        (omega (arith, le-up from x.align a.0), omega (arith, le-reach (up from x.align + x.size) xs a.1))
    go more false t =
        let rest = more (sym (stop_further b from x xs t) ∙ e) in
        (omega (arith, le-up from x.align a.0, rest.0), rest.1)

-- a body that stands among parts stands at its stop
pub stands_at_stop : (at : Body → ℕ) (b : Body) (from : ℕ) (xs : List LinePart) (n : ℕ) → Stand at from xs → stop_of b from xs ≡ Some n → at b ≡ n
stands_at_stop at b from [] n s e = cc
stands_at_stop at b from (x ∷ xs) n s e = go (λ f. stands_at_stop at b (at x.body + x.size) xs n s.1 f) (same_body b x.body) refl
  where
    go : (stop_of b (at x.body + x.size) xs ≡ Some n → at b ≡ n) → (t : Bool) → same_body b x.body ≡ t → at b ≡ n
    go more true t =
        let here : Some (up from x.align) ≡ Some n = sym (stop_here b from x xs t) ∙ e in
        let m : up from x.align ≡ n = cc in
        ap at (body_from_same b x.body t) ∙ (s.0 ∙ m)
    go more false t =
        let next : up from x.align + x.size ≡ at x.body + x.size = ap (λ k. k + x.size) (sym s.0) in
        more (ap (λ k. stop_of b k xs) (sym next) ∙ (sym (stop_further b from x xs t) ∙ e))

-- and parts of which no body stands twice stand where each is at its stop
pub stand_at_stops : (at : Body → ℕ) (from : ℕ) (xs : List LinePart) → AreOnce xs
    → ((b : Body) (n : ℕ) → stop_of b from xs ≡ Some n → at b ≡ n) → Stand at from xs
stand_at_stops at from [] once h = tt
stand_at_stops at from (x ∷ xs) once h =
    let here = h x.body (up from x.align) (stop_here x.body from x xs (same_body_itself x.body)) in
    let alone = IsDistinct-head (λ y z. same_body y.body z.body) x xs once in
    let next : at x.body + x.size ≡ up from x.align + x.size = ap (λ k. k + x.size) here in
    let more : (b : Body) (n : ℕ) → stop_of b (at x.body + x.size) xs ≡ Some n → at b ≡ n =
    λ b n e. rest b n (ap (λ k. stop_of b k xs) (sym next) ∙ e) alone (same_body b x.body) refl in
    (here, stand_at_stops at (at x.body + x.size) xs (IsDistinct-tail (λ y z. same_body y.body z.body) x xs once) more)
  where
    rest : (b : Body) (n : ℕ) → stop_of b (up from x.align + x.size) xs ≡ Some n → AllByRecursion (λ y. same_body x.body y.body ≡ false) xs
        → (t : Bool) → same_body b x.body ≡ t → at b ≡ n
    rest b n e alone true t =
        let same = body_from_same b x.body t in
        let none = no_stop x.body (up from x.align + x.size) xs alone in
        let both : stop_of x.body (up from x.align + x.size) xs ≡ Some n = ap (λ c. stop_of c (up from x.align + x.size) xs) (sym same) ∙ e in
        cc
    rest b n e alone false t = h b n (stop_further b from x xs t ∙ e)

-- where parts that stand start and end
pub start_is : (at : Body → ℕ) (from : ℕ) (xs : List LinePart) → Stand at from xs → start_of at from xs ≡ first_stop from xs
start_is at from [] s = refl
start_is at from (x ∷ xs) s = s.0
