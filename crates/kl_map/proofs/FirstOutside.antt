-- The line that is told is the first outside the form.
use Rattle.std.proofs.Common.{◌≡◌, ◌≢◌, ◌⊎◌, inl, inr, ◌+◌, ◌<◌, ◌^◌, ℕ, true, List, [], ◌∷◌, ◌++◌, length, refl, sym, ap, ◌∙◌, subst, arith, append_assoc, length-append, codes, Option}
use Rattle.std.specs.Prelude.{None, Some}
use Rattle.std.specs.List.{AllByRecursion, flat_map}
use Rattle.std.specs.Option.{option_and_then, option_map}
use Rattle.std.proofs.lemmas.List.{append-nil, append_cancel_left}
use Rattle.std.proofs.lemmas.Option.{option_and_then_some}
use Rattle.kl_text.specs.Lines.{IsLine, after_prefix, cut, line}
use Rattle.kl_text.proofs.Cuts.{after_prefix-append, append-after_prefix, append-cut, line_cut, same_line}
use Rattle.kl_model.specs.declared.place.Placement.{Placement}
use Rattle.kl_map.specs.MapForm.{IsMapForm}
use Rattle.kl_map.specs.MapText.{map_text}
use Rattle.kl_map.specs.Outside.{Begins, IsFirstOutside}
use Rattle.kl_map.specs.Reading.{head_of, is_ended, with_line}
use Rattle.kl_map.specs.declared.map.Map.{Map}
use Rattle.kl_map.proofs.Fronts.{IsFront, IsMore, Next, front_count, front_flat, front_form, front_lines, front_lines_are, goes_on, next_line, so_far, text_ends}
use Rattle.kl_map.proofs.Spelled.{mapped, same_some, some_none}

-- what is wrong with a text at that line
pub record IsWrong (text : List ℕ) (number : ℕ) : Type 0 where
  pub outside : IsFirstOutside text number
  pub refused : (map : Map) → IsMapForm map → text ≢ map_text map

-- a map's text goes on with such a line
pub record Goes (P : List ℕ → Type 0) (rest : List ℕ) : Type 0 where
  pub next : List ℕ
  pub more : List ℕ
  pub text : rest ≡ line next ++ more
  pub is : IsLine next
  pub holds : P next

-- behind these lines each map's text goes on with such a line, and this text doesn't
pub at_line : (P : List ℕ → Type 0) (lines : List (List ℕ)) (text rest : List ℕ) (number : ℕ) → AllByRecursion IsLine lines → number ≡ length lines + 1
    → text ≡ flat_map line lines ++ rest → Begins (flat_map line lines)
    → ((w : Map) (r : List ℕ) → IsMapForm w → map_text w ≡ flat_map line lines ++ r → Goes P r)
    → ((next more : List ℕ) → IsLine next → rest ≡ line next ++ more → P next → ⊥) → IsWrong text number
at_line P lines text rest number each count is begins goes stuck = record {
  outside = record {
    lines = lines;
    rest = rest;
    each = each;
    count = count;
    text = is;
    begins = begins;
    stops = λ next more one here b.
        let g = goes b.map (line next ++ b.rest) b.form (b.text ∙ append_assoc (flat_map line lines) (line next) b.rest) in
        let same = same_line next g.next b.rest g.more one g.is g.text in
        stuck next more one here (subst P (sym same) g.holds);
  };
  refused = λ w form e.
      let g = goes w rest form (sym e ∙ is) in
      stuck g.next g.more g.is g.text g.holds;
}

-- behind the head
abbrev MayCome : Placement → List ℕ → Type 0
MayCome p next = (with_line p next ≡ None → ⊥) ⊎ ((next ≡ codes "end") × (is_ended p ≡ true))

may_come : (m : Map) (rest : List ℕ) → Next m rest → Goes (MayCome m.placement) rest
may_come m rest (inl row) = record { next = row.next; more = row.more; text = row.text; is = row.is; holds = inl row.added }
may_come m rest (inr last) =
    record { next = codes "end"; more = []; text = last.text ∙ sym (append-nil (line (codes "end"))); is = refl; holds = inr (refl, last.ended) }

abbrev pub Stops : Placement → List ℕ → Type 0
Stops p next = (with_line p next ≡ None) × (next ≡ codes "end" → is_ended p ≡ true → ⊥)

stops_or : (p : Placement) (next : List ℕ) → Stops p next → MayCome p next → ⊥
stops_or p next stops (inl added) = added stops.0
stops_or p next stops (inr ends) = stops.1 ends.0 ends.1

-- a line that may not come
pub wrong_line : (m : Map) (text rest : List ℕ) (number : ℕ) → IsFront m → length m.placement.areas < 2 ^ 64
    → number ≡ 5 + length m.placement.areas + length m.placement.pieces → text ≡ so_far m ++ rest
    → ((next more : List ℕ) → IsLine next → rest ≡ line next ++ more → Stops m.placement next) → IsWrong text number
wrong_line m text rest number front few count is stops =
    at_line (MayCome m.placement) (front_lines m) text rest number (front_lines_are m front.fits few) (omega (arith, count, front_count m))
    (is ∙ ap (λ (l : List ℕ). l ++ rest) (sym (front_flat m))) (subst Begins (sym (front_flat m)) (goes_on m front))
    (λ w r form e. may_come m r (next_line m w r front form few (e ∙ ap (λ (l : List ℕ). l ++ r) (front_flat m))))
    (λ next more one here. stops_or m.placement next (stops next more one here))

no_line : (next more rest : List ℕ) → IsLine next → rest ≡ line next ++ more → cut 10 rest ≡ None → ⊥
no_line next more rest is e none = some_none (next, more) (sym (line_cut next more is) ∙ ap (cut 10) (sym e) ∙ none)

-- no line more
pub wrong_end : (m : Map) (text rest : List ℕ) (number : ℕ) → IsFront m → length m.placement.areas < 2 ^ 64
    → number ≡ 5 + length m.placement.areas + length m.placement.pieces → text ≡ so_far m ++ rest → cut 10 rest ≡ None → IsWrong text number
wrong_end m text rest number front few count is none =
    wrong_line m text rest number front few count is (λ next more one here. absurd (no_line next more rest one here none))

-- the first line of the rest may not come
pub wrong_next : (m : Map) (text rest next more : List ℕ) (number : ℕ) → IsFront m → length m.placement.areas < 2 ^ 64
    → number ≡ 5 + length m.placement.areas + length m.placement.pieces → text ≡ so_far m ++ rest → cut 10 rest ≡ Some (next, more)
    → Stops m.placement next → IsWrong text number
wrong_next m text rest next more number front few count is cuts stops =
    wrong_line m text rest number front few count is (λ l r one here.
    let same : (next, more) ≡ (l, r) = same_some (next, more) (l, r) (sym cuts ∙ ap (cut 10) here ∙ line_cut l r one) in
    subst (Stops m.placement) (ap (λ (p : List ℕ × List ℕ). p.0) same) stops)

-- a text that goes on behind the last line
none_after : (a b : List ℕ) → line a ++ b ≡ [] → ⊥
none_after [] b e = cc
none_after (x ∷ a) b e = cc

pub last_and : (m w : Map) (rest : List ℕ) → IsFront m → IsMapForm w → length m.placement.areas < 2 ^ 64 → map_text w ≡ so_far m ++ (line (codes "end") ++ rest) → rest ≡ []
last_and m w rest front form few e = cases (next_line m w (line (codes "end") ++ rest) front form few e)
  where
    cases : Next m (line (codes "end") ++ rest) → rest ≡ []
    cases (inl row) = absurd (row.other (sym (same_line (codes "end") row.next rest row.more refl row.is row.text)))
    cases (inr last) = append_cancel_left (line (codes "end")) rest [] (last.text ∙ sym (append-nil (line (codes "end"))))

all_push : (P : List ℕ → Type 0) (xs : List (List ℕ)) (x : List ℕ) → AllByRecursion P xs → P x → AllByRecursion P (xs ++ x ∷ [])
all_push P [] x are is = (is, tt)
all_push P (y ∷ ys) x are is = (are.0, all_push P ys x are.1 is)

flat_push : (xs : List (List ℕ)) (x : List ℕ) → flat_map line (xs ++ x ∷ []) ≡ flat_map line xs ++ line x
flat_push [] x = append-nil (line x)
flat_push (y ∷ ys) x = ap (λ (l : List ℕ). line y ++ l) (flat_push ys x) ∙ sym (append_assoc (line y) (flat_map line ys) (line x))

pub wrong_behind : (m : Map) (text more : List ℕ) (number : ℕ) → IsFront m → length m.placement.areas < 2 ^ 64
    → number ≡ 6 + length m.placement.areas + length m.placement.pieces → is_ended m.placement ≡ true → text ≡ so_far m ++ (line (codes "end") ++ more)
    → (more ≡ [] → ⊥) → IsWrong text number
wrong_behind m text more number front few count ends is some =
    let lines = front_lines m ++ codes "end" ∷ [] in
    let whole : flat_map line lines ≡ map_text m = flat_push (front_lines m) (codes "end") ∙ ap (λ (l : List ℕ). l ++ line (codes "end")) (front_flat m) ∙ sym (text_ends m) in
    let behind = λ (w : Map) (r : List ℕ) (form : IsMapForm w) (e : map_text w ≡ map_text m ++ r).
    last_and m w r front form few (e ∙ ap (λ (l : List ℕ). l ++ r) (text_ends m) ∙ append_assoc (so_far m) (line (codes "end")) r) in
    record {
      outside = record {
        lines = lines;
        rest = more;
        each = all_push IsLine (front_lines m) (codes "end") (front_lines_are m front.fits few) refl;
        count = omega (arith, count, front_count m, length-append (front_lines m) (codes "end" ∷ []));
        text = is ∙ sym (append_assoc (so_far m) (line (codes "end")) more) ∙ ap (λ (l : List ℕ). l ++ more) (sym (text_ends m) ∙ sym whole);
        begins = record { map = m; rest = []; form = front_form m front ends; text = sym whole ∙ sym (append-nil (flat_map line lines)) };
        stops = λ next rest one here b.
            none_after next b.rest (behind b.map (line next ++ b.rest) b.form
            (b.text ∙ append_assoc (flat_map line lines) (line next) b.rest ∙ ap (λ (l : List ℕ). l ++ (line next ++ b.rest)) whole));
      };
      refused = λ w form e. some (last_and m w more front form few (sym e ∙ is));
    }

-- the lines of the head
pub head_again : {X : Type 0} (key : List ℕ) (read : List ℕ → Option X) (word more : List ℕ) (x : X) → IsLine (key ++ word) → read word ≡ Some x
    → head_of key read (line (key ++ word) ++ more) ≡ Some (x, more)
head_again {X} key read word more x is e =
    ap (λ o. option_and_then {U = X × List ℕ} (λ (l, rest). option_and_then (λ w. option_map (λ y. (y, rest)) (read w)) (after_prefix key l)) o) (line_cut (key ++ word) more is)
    ∙ ap (λ o. option_and_then {U = X × List ℕ} (λ w. option_map (λ y. (y, more)) (read w)) o) (after_prefix-append key word)
    ∙ ap (λ o. option_map {U = X × List ℕ} (λ y. (y, more)) o) e

pub record IsHeadLine {X : Type 0} (key : List ℕ) (read : List ℕ → Option X) (text : List ℕ) (x : X) (rest : List ℕ) : Type 0 where
  pub word : List ℕ
  pub text_is : text ≡ line (key ++ word) ++ rest
  pub said : read word ≡ Some x

pub head_from : {X : Type 0} (key : List ℕ) (read : List ℕ → Option X) (text : List ℕ) (x : X) (rest : List ℕ) → head_of key read text ≡ Some (x, rest) → IsHeadLine key read text x rest
head_from {X} key read text x rest e =
    option_and_then_some (λ (l, r). option_and_then (λ w. option_map (λ y. (y, r)) (read w)) (after_prefix key l)) (cut 10 text) (x, rest) e (λ p cuts more.
    option_and_then_some (λ w. option_map (λ y. (y, p.1)) (read w)) (after_prefix key p.0) (x, rest) more (λ word begins most.
    mapped (λ y. (y, p.1)) (read word) (x, rest) most (λ y said all.
    let one : y ≡ x = ap (λ (q : X × List ℕ). q.0) all in
    let two : p.1 ≡ rest = ap (λ (q : X × List ℕ). q.1) all in
    record {
      word = word;
      text_is = append-cut 10 text p.0 p.1 cuts ∙ ap (λ (l : List ℕ). l ++ 10 ∷ p.1) (append-after_prefix key p.0 word begins)
          ∙ sym (append_assoc (key ++ word) (10 ∷ []) p.1) ∙ ap (λ (l : List ℕ). line (key ++ word) ++ l) two;
      said = said ∙ ap (λ (z : X). Some z) one;
    })))

-- a text whose lines are all read, up to the last
pub all_read : (m : Map) (text rest next more : List ℕ) → text ≡ so_far m ++ rest → cut 10 rest ≡ Some (next, more) → next ≡ codes "end" → more ≡ []
    → text ≡ map_text m
all_read m text rest next more is cuts ends none =
    is ∙ ap (λ (l : List ℕ). so_far m ++ l) (append-cut 10 rest next more cuts ∙ ap (λ (l : List ℕ). l ++ 10 ∷ more) ends ∙ ap (λ (l : List ℕ). codes "end" ++ 10 ∷ l) none)
    ∙ sym (text_ends m)

pub wrong_more : (m : Map) (text rest next more : List ℕ) (number : ℕ) → IsFront m → length m.placement.areas < 2 ^ 64
    → number ≡ 5 + length m.placement.areas + length m.placement.pieces → text ≡ so_far m ++ rest → cut 10 rest ≡ Some (next, more) → next ≡ codes "end"
    → is_ended m.placement ≡ true → (more ≡ [] → ⊥) → IsWrong text (number + 1)
wrong_more m text rest next more number front few count is cuts ends ended some =
    wrong_behind m text more (number + 1) front few (omega (arith, count)) ended
    (is ∙ ap (λ (l : List ℕ). so_far m ++ l) (append-cut 10 rest next more cuts ∙ ap (λ (l : List ℕ). l ++ 10 ∷ more) ends)) some

-- one line more is read
pub so_far_more : (m : Map) (p : Placement) (text rest next more : List ℕ) → IsMore m p next → text ≡ so_far m ++ rest → cut 10 rest ≡ Some (next, more)
    → text ≡ so_far (record m { placement = p }) ++ more
so_far_more m p text rest next more one is cuts =
    is ∙ ap (λ (l : List ℕ). so_far m ++ l) (append-cut 10 rest next more cuts ∙ sym (append_assoc next (10 ∷ []) more))
    ∙ sym (append_assoc (so_far m) (line next) more) ∙ ap (λ (l : List ℕ). l ++ more) (sym one.text)
