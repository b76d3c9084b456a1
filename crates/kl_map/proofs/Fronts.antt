-- The lines that a reader has read, and how a map's text goes on behind them.
use Rattle.std.proofs.Common.{◌≡◌, ◌⊎◌, inl, inr, ◌+◌, ◌-◌, ◌<◌, ◌≤◌, ◌^◌, ℕ, zero, suc, Bool, true, false, not, cond, ◌&&◌, List, [], ◌∷◌, ◌++◌, length, get_or, refl, sym, ap, ◌∙◌, subst, arith, append_assoc, length-append, codes, Option}
use Rattle.std.specs.Prelude.{All, None, Some, nat_lt, ◌==◌}
use Rattle.std.specs.List.{AllByRecursion, flat_map}
use Rattle.std.specs.Option.{option_map}
use Rattle.std.proofs.lemmas.Bool.{eqb-true, le-ltb, ltb-false}
use Rattle.std.proofs.lemmas.List.{append-nil}
use Rattle.std.proofs.lemmas.List.Elements.{All-append, All-tail}
use Rattle.hex.specs.Hex.{encode_lower}
use Rattle.kl_base.proofs.Bools.{alone, and_left, and_right, chosen, not_true}
use Rattle.kl_base.specs.declared.class.Class.TheVariants.{Text, Rodata, Rwdata, Bss}
use Rattle.kl_text.specs.Lines.{IsLine, line}
use Rattle.kl_model.proofs.Each.{each_push}
use Rattle.kl_model.specs.Lists.{each, each_from}
use Rattle.kl_model.specs.declared.graph.PieceId.{PieceId}
use Rattle.kl_model.specs.declared.graph.PieceId.TheVariants.{Section, Common, Gap}
use Rattle.kl_model.specs.declared.place.AreaAt.{AreaAt}
use Rattle.kl_model.specs.declared.place.Placed.{Placed}
use Rattle.kl_model.specs.declared.place.Placement.{Placement}
use Rattle.kl_map.specs.MapForm.{IsMapForm, placed_ids}
use Rattle.kl_map.specs.MapText.{area_line, base_line, head_lines, hexadecimal, map_text, output_line, placed_line, seed_line}
use Rattle.kl_map.specs.Outside.{Begins}
use Rattle.kl_map.specs.Reading.{area_of, if_follows, is_ended, last_id, may_end, may_follow, next_area, next_placed, or_placed, placed_of, with_area, with_line, with_placed}
use Rattle.kl_map.specs.Spelling.{AreaFits, IdFits, IsMap, PlacedFits}
use Rattle.kl_map.specs.declared.map.Map.{Map}
use Rattle.kl_map.proofs.Lines.{first_placed, last_line, letter_above, pieces_letter, same_area, same_head, same_placed, tail_lines}
use Rattle.kl_map.proofs.Orders.{Chain, Whole, chain_more, chain_whole, finish, finished, order_whole, whole_order, whole_rest}
use Rattle.kl_map.proofs.Rows.{IsAreaOf, IsPlacedOf, area_again, area_from, area_is_line, area_line-text, area_text, placed_again, placed_from, placed_is_line, placed_line-text, placed_text}
use Rattle.kl_map.proofs.Spelled.{address_lacks, digits_lack, mapped, same_some, some_none}
use Rattle.kl_map.proofs.Texts.{name_lacks}

-- the text of a map without its last line
abbrev pub so_far : Map → List ℕ
so_far m = head_lines m ++ each m.placement.areas area_line ++ flat_map placed_line m.placement.pieces

pub text_ends : (m : Map) → map_text m ≡ so_far m ++ line (codes "end")
unfolding map_text
text_ends m = refl

-- what lines that are read in order are
pub record IsFront (m : Map) : Type 0 where
  pub fits : IsMap m
  pub chain : Chain None (placed_ids m.placement.pieces)
  pub counted : (m.placement.pieces ≡ []) ⊎ (15 ≤ length m.placement.areas)

-- its lines
abbrev pub head_texts : Map → List (List ℕ)
head_texts m =
    codes "relink map 1" ∷ (codes "output " ++ m.output) ∷ (codes "seed " ++ encode_lower m.seed) ∷ (codes "base " ++ hexadecimal m.placement.base) ∷ []

abbrev area_texts : ℕ → List AreaAt → List (List ℕ)
area_texts k [] = []
area_texts k (x ∷ xs) = area_text k x ∷ area_texts (suc k) xs

abbrev placed_texts : List Placed → List (List ℕ)
placed_texts [] = []
placed_texts (x ∷ xs) = placed_text x ∷ placed_texts xs

abbrev pub front_lines : Map → List (List ℕ)
front_lines m = head_texts m ++ (area_texts 0 m.placement.areas ++ placed_texts m.placement.pieces)

flat_map-append : {X : Type 0} (f : X → List ℕ) (xs ys : List X) → flat_map f (xs ++ ys) ≡ flat_map f xs ++ flat_map f ys
flat_map-append f [] ys = refl
flat_map-append f (x ∷ xs) ys = ap (λ (l : List ℕ). f x ++ l) (flat_map-append f xs ys) ∙ sym (append_assoc (f x) (flat_map f xs) (flat_map f ys))

each-append : (k : ℕ) (xs ys : List AreaAt) → each_from k area_line (xs ++ ys) ≡ each_from k area_line xs ++ each_from (k + length xs) area_line ys
each-append k [] ys = ap (λ (n : ℕ). each_from n area_line ys) (omega arith)
each-append k (x ∷ xs) ys =
    let count : suc k + length xs ≡ k + suc (length xs) = omega arith in
    ap (λ (l : List ℕ). area_line k x ++ l) (each-append (suc k) xs ys ∙ ap (λ (n : ℕ). each_from (suc k) area_line xs ++ each_from n area_line ys) count)
    ∙ sym (append_assoc (area_line k x) (each_from (suc k) area_line xs) (each_from (k + suc (length xs)) area_line ys))

area_texts-flat : (k : ℕ) (xs : List AreaAt) → flat_map line (area_texts k xs) ≡ each_from k area_line xs
area_texts-flat k [] = refl
area_texts-flat k (x ∷ xs) =
    ap (λ (l : List ℕ). l ++ flat_map line (area_texts (suc k) xs)) (sym (area_line-text k x)) ∙ ap (λ (l : List ℕ). area_line k x ++ l) (area_texts-flat (suc k) xs)

placed_texts-flat : (xs : List Placed) → flat_map line (placed_texts xs) ≡ flat_map placed_line xs
placed_texts-flat [] = refl
placed_texts-flat (x ∷ xs) =
    ap (λ (l : List ℕ). l ++ flat_map line (placed_texts xs)) (sym (placed_line-text x)) ∙ ap (λ (l : List ℕ). placed_line x ++ l) (placed_texts-flat xs)

four_lines : (a b c d rest : List ℕ) → a ++ (b ++ (c ++ (d ++ rest))) ≡ (a ++ b ++ c ++ d) ++ rest
four_lines a b c d rest = simp append_assoc

pub head_texts-flat : (m : Map) → flat_map line (head_texts m) ≡ head_lines m
head_texts-flat m =
    four_lines (line (codes "relink map 1")) (output_line m.output) (seed_line m.seed) (base_line m.placement.base) [] ∙ append-nil (head_lines m)

pub front_flat : (m : Map) → flat_map line (front_lines m) ≡ so_far m
front_flat m =
    let rest = area_texts 0 m.placement.areas ++ placed_texts m.placement.pieces in
    flat_map-append line (head_texts m) rest
    ∙ ap (λ (l : List ℕ). l ++ flat_map line rest) (head_texts-flat m)
    ∙ ap (λ (l : List ℕ). head_lines m ++ l) (flat_map-append line (area_texts 0 m.placement.areas) (placed_texts m.placement.pieces)
    ∙ ap (λ (l : List ℕ). l ++ flat_map line (placed_texts m.placement.pieces)) (area_texts-flat 0 m.placement.areas)
    ∙ ap (λ (l : List ℕ). each m.placement.areas area_line ++ l) (placed_texts-flat m.placement.pieces))
    ∙ sym (append_assoc (head_lines m) (each m.placement.areas area_line) (flat_map placed_line m.placement.pieces))

area_texts-length : (k : ℕ) (xs : List AreaAt) → length (area_texts k xs) ≡ length xs
area_texts-length k [] = refl
area_texts-length k (x ∷ xs) = ap (λ (n : ℕ). suc n) (area_texts-length (suc k) xs)

placed_texts-length : (xs : List Placed) → length (placed_texts xs) ≡ length xs
placed_texts-length [] = refl
placed_texts-length (x ∷ xs) = ap (λ (n : ℕ). suc n) (placed_texts-length xs)

pub front_count : (m : Map) → length (front_lines m) ≡ 4 + length m.placement.areas + length m.placement.pieces
front_count m =
    omega (
      arith,
      length-append (area_texts 0 m.placement.areas) (placed_texts m.placement.pieces),
      area_texts-length 0 m.placement.areas,
      placed_texts-length m.placement.pieces,
    )

area_texts_are : (k : ℕ) (xs : List AreaAt) → k + length xs < 2 ^ 64 → AllByRecursion IsLine (area_texts k xs)
area_texts_are k [] few = tt
area_texts_are k (x ∷ xs) few = (area_is_line k x (omega arith), area_texts_are (suc k) xs (omega arith))

placed_texts_are : (xs : List Placed) → All PlacedFits xs → AllByRecursion IsLine (placed_texts xs)
placed_texts_are [] fits = tt
placed_texts_are (x ∷ xs) fits = (placed_is_line x (fits 0 x (omega arith)), placed_texts_are xs (All-tail PlacedFits x xs fits))

all_both : (P : List ℕ → Type 0) (xs ys : List (List ℕ)) → AllByRecursion P xs → AllByRecursion P ys → AllByRecursion P (xs ++ ys)
all_both P [] ys first second = second
all_both P (x ∷ xs) ys first second = (first.0, all_both P xs ys first.1 second)

pub head_texts_are : (m : Map) → IsMap m → AllByRecursion IsLine (head_texts m)
head_texts_are m fits = (refl, (name_lacks m.output fits.output, (digits_lack 10 m.seed (omega arith) fits.seed, (address_lacks 10 m.placement.base (omega arith), tt))))

pub front_lines_are : (m : Map) → IsMap m → length m.placement.areas < 2 ^ 64 → AllByRecursion IsLine (front_lines m)
front_lines_are m fits few =
    all_both IsLine (head_texts m) (area_texts 0 m.placement.areas ++ placed_texts m.placement.pieces) (head_texts_are m fits)
    (all_both IsLine (area_texts 0 m.placement.areas) (placed_texts m.placement.pieces) (area_texts_are 0 m.placement.areas (omega arith))
    (placed_texts_are m.placement.pieces fits.pieces))

-- lines with which a text goes on
abbrev blank_areas : ℕ → List AreaAt
blank_areas zero = []
blank_areas (suc n) = record { start = 0; end = 0 } ∷ blank_areas n

blank_areas_fit : (n : ℕ) → All AreaFits (blank_areas n)
blank_areas_fit zero k d h = absurd (omega arith)
blank_areas_fit (suc n) zero d h = (omega arith, omega arith)
blank_areas_fit (suc n) (suc k) d h = blank_areas_fit n k d (omega arith)

blank_areas_count : (n : ℕ) → length (blank_areas n) ≡ n
blank_areas_count zero = refl
blank_areas_count (suc n) = ap (λ (k : ℕ). suc k) (blank_areas_count n)

abbrev blanks : List PieceId → List Placed
blanks [] = []
blanks (id ∷ ids) = record { id = id; address = 0; size = 0 } ∷ blanks ids

blanks_fit : (ids : List PieceId) → AllByRecursion IdFits ids → All PlacedFits (blanks ids)
blanks_fit [] fits k d h = absurd (omega arith)
blanks_fit (id ∷ ids) fits zero d h = (fits.0, omega arith, omega arith)
blanks_fit (id ∷ ids) fits (suc k) d h = blanks_fit ids fits.1 k d (omega arith)

blanks_ids : (ids : List PieceId) → placed_ids (blanks ids) ≡ ids
blanks_ids [] = refl
blanks_ids (id ∷ ids) = ap (λ (l : List PieceId). id ∷ l) (blanks_ids ids)

finish_fits : (before : Option PieceId) → AllByRecursion IdFits (finish before)
finish_fits None = tt
finish_fits (Some (Section input section)) = tt
finish_fits (Some (Common number)) = tt
finish_fits (Some (Gap Text)) = (tt, (tt, (tt, tt)))
finish_fits (Some (Gap Rodata)) = (tt, (tt, tt))
finish_fits (Some (Gap Rwdata)) = (tt, tt)
finish_fits (Some (Gap Bss)) = tt

ids-append : (xs ys : List Placed) → placed_ids (xs ++ ys) ≡ placed_ids xs ++ placed_ids ys
ids-append [] ys = refl
ids-append (x ∷ xs) ys = ap (λ (l : List PieceId). x.id ∷ l) (ids-append xs ys)

more_areas : (h e b f : List ℕ) → h ++ (e ++ b) ++ [] ++ f ≡ (h ++ e ++ []) ++ (b ++ f)
more_areas h e b f = simp (append_assoc, append-nil)

more_pieces : (h e p b f : List ℕ) → h ++ e ++ (p ++ b) ++ f ≡ (h ++ e ++ p) ++ (b ++ f)
more_pieces h e p b f = simp append_assoc

-- the areas may still come
areas_go_on : (m : Map) → IsFront m → m.placement.pieces ≡ [] → Begins (so_far m)
unfolding map_text
areas_go_on m front none =
    let areas = m.placement.areas in
    let fill = blank_areas (15 - length areas) in
    let rest = each_from (0 + length areas) area_line fill in
    let ends = line (codes "end") in
    let fits = front.fits in
    record {
      map = record m { placement = record m.placement { areas = areas ++ fill } };
      rest = rest ++ ends;
      form = record {
        fits = record {
          output = fits.output;
          seed_length = fits.seed_length;
          seed = fits.seed;
          base = fits.base;
          areas = All-append AreaFits areas fill fits.areas (blank_areas_fit (15 - length areas));
          pieces = fits.pieces;
        };
        areas = omega (arith, length-append areas fill, blank_areas_count (15 - length areas));
        order = whole_order (placed_ids m.placement.pieces) (subst (λ (l : List Placed). Whole None (placed_ids l)) (sym none) refl);
      };
      text = ap (λ (l : List ℕ). head_lines m ++ l ++ flat_map placed_line m.placement.pieces ++ ends) (each-append 0 areas fill)
          ∙ ap (λ (l : List Placed). head_lines m ++ (each areas area_line ++ rest) ++ flat_map placed_line l ++ ends) none
          ∙ more_areas (head_lines m) (each areas area_line) rest ends
          ∙ ap (λ (l : List Placed). (head_lines m ++ each areas area_line ++ flat_map placed_line l) ++ (rest ++ ends)) (sym none);
    }

-- all areas are there
pieces_go_on : (m : Map) → IsFront m → 15 ≤ length m.placement.areas → Begins (so_far m)
unfolding map_text
pieces_go_on m front enough =
    let pieces = m.placement.pieces in
    let before = last_id pieces in
    let fill = blanks (finish before) in
    let fits = front.fits in
    let ids : placed_ids (pieces ++ fill) ≡ placed_ids pieces ++ finish before =
    ids-append pieces fill ∙ ap (λ (l : List PieceId). placed_ids pieces ++ l) (blanks_ids (finish before)) in
    record {
      map = record m { placement = record m.placement { pieces = pieces ++ fill } };
      rest = flat_map placed_line fill ++ line (codes "end");
      form = record {
        fits = record {
          output = fits.output;
          seed_length = fits.seed_length;
          seed = fits.seed;
          base = fits.base;
          areas = fits.areas;
          pieces = All-append PlacedFits pieces fill fits.pieces (blanks_fit (finish before) (finish_fits before));
        };
        areas = enough;
        order = whole_order (placed_ids (pieces ++ fill))
            (subst (Whole None) (sym ids) (chain_whole None (placed_ids pieces) (finish before) front.chain (finished before)));
      };
      text = ap (λ (l : List ℕ). head_lines m ++ each m.placement.areas area_line ++ l ++ line (codes "end")) (flat_map-append placed_line pieces fill)
          ∙ more_pieces (head_lines m) (each m.placement.areas area_line) (flat_map placed_line pieces) (flat_map placed_line fill) (line (codes "end"));
    }

-- A MAP'S TEXT GOES ON BEHIND SUCH LINES
pub goes_on : (m : Map) → IsFront m → Begins (so_far m)
goes_on m front = cases front.counted
  where
    cases : (m.placement.pieces ≡ []) ⊎ (15 ≤ length m.placement.areas) → Begins (so_far m)
    cases (inl none) = areas_go_on m front none
    cases (inr enough) = pieces_go_on m front enough

-- the next line tells something that may come
pub record Row (m : Map) (rest : List ℕ) : Type 0 where
  pub next : List ℕ
  pub more : List ℕ
  pub text : rest ≡ line next ++ more
  pub is : IsLine next
  pub added : with_line m.placement next ≡ None → ⊥
  pub other : next ≡ codes "end" → ⊥

-- or it is the last
pub record Last (m : Map) (rest : List ℕ) : Type 0 where
  pub text : rest ≡ line (codes "end")
  pub ended : is_ended m.placement ≡ true

abbrev pub Next : Map → List ℕ → Type 0
Next m rest = Row m rest ⊎ Last m rest

area_row : (m : Map) (z : AreaAt) (more : List ℕ) → m.placement.pieces ≡ [] → length m.placement.areas < 2 ^ 64 → AreaFits z
    → Row m (area_line (length m.placement.areas) z ++ more)
area_row m z more none few fits =
    let k = length m.placement.areas in
    let next = area_text k z in
    let read : next_area m.placement next ≡ Some z =
    ap (λ (l : List Placed). cond (length l == 0) (area_of k next) None) none ∙ area_again k z few fits in
    record {
      next = next;
      more = more;
      text = ap (λ (l : List ℕ). l ++ more) (area_line-text k z);
      is = area_is_line k z few;
      added = λ e. some_none (with_area m.placement z) (sym (ap (or_placed m.placement next) read) ∙ e);
      other = λ e. let letter : 97 ≡ 101 = ap (λ (l : List ℕ). get_or l 0 0) e in omega (arith, letter);
    }

kept : (p : Placement) (next : List ℕ) (x : Placed) (o : Option AreaAt) → next_placed p next ≡ Some x → or_placed p next o ≡ None → ⊥
kept p next x None read e = some_none (with_placed p x) (sym (ap (λ q. option_map {U = Placement} (with_placed p) q) read) ∙ e)
kept p next x (Some z) read e = some_none (with_area p z) e

placed_letter : (x : Placed) → placed_text x ≡ codes "end" → ⊥
placed_letter x e =
    let same = sym (first_placed x []) ∙ ap (λ (l : List ℕ). get_or (l ++ []) 0 0) (placed_line-text x ∙ ap line e) in
    (letter_above x.id).1 same

placed_row : (m : Map) (x : Placed) (more : List ℕ) → 15 ≤ length m.placement.areas → may_follow (last_id m.placement.pieces) x.id ≡ true → PlacedFits x
    → Row m (placed_line x ++ more)
placed_row m x more enough follows fits =
    let next = placed_text x in
    let before = last_id m.placement.pieces in
    let read : next_placed m.placement next ≡ Some x =
    ap (λ b. cond b None (if_follows before (placed_of next))) (le-ltb (length m.placement.areas) 15 enough)
    ∙ ap (if_follows before) (placed_again x fits) ∙ ap (λ b. cond b (Some x) None) follows in
    record {
      next = next;
      more = more;
      text = ap (λ (l : List ℕ). l ++ more) (placed_line-text x);
      is = placed_is_line x fits;
      added = kept m.placement next x (next_area m.placement next) read;
      other = placed_letter x;
    }

-- what follows areas and pieces that two texts begin with
record AreasBehind (k : ℕ) (xs ys : List AreaAt) (a b : List ℕ) : Type 0 where
  pub more : List AreaAt
  pub are : ys ≡ xs ++ more
  pub fits : All AreaFits more
  pub text : a ≡ each_from (k + length xs) area_line more ++ b

area_letter : (k : ℕ) (x : AreaAt) (a : List ℕ) → get_or (area_line k x ++ a) 0 0 ≡ 97
unfolding area_line
area_letter k x a = refl

areas_behind : (k : ℕ) (xs ys : List AreaAt) (a b : List ℕ) → All AreaFits xs → All AreaFits ys → 97 < get_or b 0 0
    → each_from k area_line xs ++ a ≡ each_from k area_line ys ++ b → AreasBehind k xs ys a b
areas_behind k [] ys a b fits suits high e =
    record { more = ys; are = refl; fits = suits; text = e ∙ ap (λ (n : ℕ). each_from n area_line ys ++ b) (omega arith) }
areas_behind k (x ∷ xs) [] a b fits suits high e =
    let letter = sym (area_letter k x (each_from (suc k) area_line xs ++ a))
    ∙ ap (λ (l : List ℕ). get_or l 0 0) (sym (append_assoc (area_line k x) (each_from (suc k) area_line xs) a) ∙ e) in
    absurd (omega (arith, letter))
areas_behind k (x ∷ xs) (y ∷ ys) a b fits suits high e =
    let read = sym (append_assoc (area_line k x) (each_from (suc k) area_line xs) a) ∙ e ∙ append_assoc (area_line k y) (each_from (suc k) area_line ys) b in
    let first = same_area k x y _ _ (fits 0 x (omega arith)) (suits 0 y (omega arith)) read in
    let rest = areas_behind (suc k) xs ys a b (All-tail AreaFits x xs fits) (All-tail AreaFits y ys suits) high first.1 in
    let count : suc k + length xs ≡ k + suc (length xs) = omega arith in
    record {
      more = rest.more;
      are = ap (λ (z : AreaAt). z ∷ ys) (sym first.0) ∙ ap (λ (l : List AreaAt). x ∷ l) rest.are;
      fits = rest.fits;
      text = rest.text ∙ ap (λ (n : ℕ). each_from n area_line rest.more ++ b) count;
    }

record PiecesBehind (xs ys : List Placed) (a : List ℕ) : Type 0 where
  pub more : List Placed
  pub are : ys ≡ xs ++ more
  pub fits : All PlacedFits more
  pub text : a ≡ flat_map placed_line more ++ last_line

pieces_behind : (xs ys : List Placed) (a : List ℕ) → All PlacedFits xs → All PlacedFits ys
    → flat_map placed_line xs ++ a ≡ flat_map placed_line ys ++ last_line → PiecesBehind xs ys a
pieces_behind [] ys a fits suits e = record { more = ys; are = refl; fits = suits; text = e }
pieces_behind (x ∷ xs) [] a fits suits e =
    let letter = sym (first_placed x (flat_map placed_line xs ++ a))
    ∙ ap (λ (l : List ℕ). get_or l 0 0) (sym (append_assoc (placed_line x) (flat_map placed_line xs) a) ∙ e) in
    absurd ((letter_above x.id).1 letter)
pieces_behind (x ∷ xs) (y ∷ ys) a fits suits e =
    let read = sym (append_assoc (placed_line x) (flat_map placed_line xs) a) ∙ e ∙ append_assoc (placed_line y) (flat_map placed_line ys) last_line in
    let first = same_placed x y _ _ (fits 0 x (omega arith)) (suits 0 y (omega arith)) read in
    let rest = pieces_behind xs ys a (All-tail PlacedFits x xs fits) (All-tail PlacedFits y ys suits) first.1 in
    record {
      more = rest.more;
      are = ap (λ (z : Placed). z ∷ ys) (sym first.0) ∙ ap (λ (l : List Placed). x ∷ l) rest.are;
      fits = rest.fits;
      text = rest.text;
    }

-- behind all areas
ended : (m : Map) → 15 ≤ length m.placement.areas → may_end (last_id m.placement.pieces) ≡ true → is_ended m.placement ≡ true
ended m enough e = ap (λ b. not b && may_end (last_id m.placement.pieces)) (le-ltb (length m.placement.areas) 15 enough) ∙ e

next_piece : (m w : Map) (rest : List ℕ) → IsMap m → IsMapForm w → w.placement.areas ≡ m.placement.areas
    → flat_map placed_line m.placement.pieces ++ rest ≡ flat_map placed_line w.placement.pieces ++ last_line → Next m rest
next_piece m w rest fits form same e =
    let behind = pieces_behind m.placement.pieces w.placement.pieces rest fits.pieces form.fits.pieces e in
    let enough : 15 ≤ length m.placement.areas = subst (λ (l : List AreaAt). 15 ≤ length l) same form.areas in
    let whole = subst (λ (l : List Placed). Whole None (placed_ids l)) behind.are (order_whole (placed_ids w.placement.pieces) form.order) in
    let after = whole_rest None (placed_ids m.placement.pieces) (placed_ids behind.more) (subst (Whole None) (ids-append m.placement.pieces behind.more) whole) in
    cases behind.more behind.text behind.fits after enough
  where
    cases : (more : List Placed) → rest ≡ flat_map placed_line more ++ last_line → All PlacedFits more
        → Whole (last_id m.placement.pieces) (placed_ids more) → 15 ≤ length m.placement.areas → Next m rest
    cases [] text suits after enough = inr (record { text = text; ended = ended m enough after })
    cases (x ∷ more) text suits after enough =
        let rows = text ∙ append_assoc (placed_line x) (flat_map placed_line more) last_line in
        inl (subst (Row m) (sym rows) (placed_row m x (flat_map placed_line more ++ last_line) enough after.0 (suits 0 x (omega arith))))

-- before the first piece
next_area_or : (m w : Map) (rest : List ℕ) → IsMap m → IsMapForm w → length m.placement.areas < 2 ^ 64 → m.placement.pieces ≡ []
    → each m.placement.areas area_line ++ rest ≡ tail_lines w.placement → Next m rest
next_area_or m w rest fits form few none e =
    let ends = flat_map placed_line w.placement.pieces ++ last_line in
    let behind = areas_behind 0 m.placement.areas w.placement.areas rest ends fits.areas form.fits.areas (pieces_letter w.placement.pieces) e in
    cases behind.more behind.are behind.text behind.fits
  where
    cases : (more : List AreaAt) → w.placement.areas ≡ m.placement.areas ++ more
        → rest ≡ each_from (0 + length m.placement.areas) area_line more ++ (flat_map placed_line w.placement.pieces ++ last_line) → All AreaFits more → Next m rest
    cases [] are text suits =
        next_piece m w rest fits form (are ∙ append-nil m.placement.areas) (ap (λ (l : List Placed). flat_map placed_line l ++ rest) none ∙ text)
    cases (z ∷ more) are text suits =
        let k = length m.placement.areas in
        let ends = flat_map placed_line w.placement.pieces ++ last_line in
        let count : 0 + k ≡ k = omega arith in
        let rows = text ∙ ap (λ (n : ℕ). each_from n area_line (z ∷ more) ++ ends) count ∙ append_assoc (area_line k z) (each_from (suc k) area_line more) ends in
        inl (subst (Row m) (sym rows) (area_row m z (each_from (suc k) area_line more ++ ends) none few (suits 0 z (omega arith))))

-- behind a piece
next_after : (m w : Map) (rest : List ℕ) (x : Placed) (xs : List Placed) → IsFront m → IsMapForm w → m.placement.pieces ≡ x ∷ xs
    → each m.placement.areas area_line ++ (flat_map placed_line m.placement.pieces ++ rest) ≡ tail_lines w.placement → Next m rest
next_after m w rest x xs front form some e =
    let ends = flat_map placed_line w.placement.pieces ++ last_line in
    let lines = flat_map placed_line m.placement.pieces ++ rest in
    let behind = areas_behind 0 m.placement.areas w.placement.areas lines ends front.fits.areas form.fits.areas (pieces_letter w.placement.pieces) e in
    cases behind.more behind.are behind.text
  where
    cases : (more : List AreaAt) → w.placement.areas ≡ m.placement.areas ++ more → flat_map placed_line m.placement.pieces ++ rest
        ≡ each_from (0 + length m.placement.areas) area_line more ++ (flat_map placed_line w.placement.pieces ++ last_line) → Next m rest
    cases [] are text = next_piece m w rest front.fits form (are ∙ append-nil m.placement.areas) text
    cases (z ∷ more) are text =
        let k = 0 + length m.placement.areas in
        let ends = flat_map placed_line w.placement.pieces ++ last_line in
        let begins = sym (append_assoc (placed_line x) (flat_map placed_line xs) rest) ∙ ap (λ (l : List Placed). flat_map placed_line l ++ rest) (sym some) ∙ text
        ∙ append_assoc (area_line k z) (each_from (suc k) area_line more) ends in
        let letter = sym (first_placed x (flat_map placed_line xs ++ rest)) ∙ ap (λ (l : List ℕ). get_or l 0 0) begins
        ∙ area_letter k z (each_from (suc k) area_line more ++ ends) in
        absurd (omega (arith, letter, (letter_above x.id).0))

head_then : (h e p r : List ℕ) → (h ++ e ++ p) ++ r ≡ h ++ (e ++ (p ++ r))
head_then h e p r = simp append_assoc

text_head : (w : Map) → map_text w ≡ head_lines w ++ tail_lines w.placement
unfolding map_text
text_head w = head_then (head_lines w) (each w.placement.areas area_line) (flat_map placed_line w.placement.pieces) last_line

-- WHAT MAY FOLLOW SUCH LINES in a map's text
pub next_line : (m w : Map) (rest : List ℕ) → IsFront m → IsMapForm w → length m.placement.areas < 2 ^ 64 → map_text w ≡ so_far m ++ rest → Next m rest
next_line m w rest front form few text = cases m.placement.pieces refl
  where
    tails : each m.placement.areas area_line ++ (flat_map placed_line m.placement.pieces ++ rest) ≡ tail_lines w.placement
    tails =
        let lines = each m.placement.areas area_line ++ (flat_map placed_line m.placement.pieces ++ rest) in
        sym (same_head w m (tail_lines w.placement) lines form.fits front.fits
        (sym (text_head w) ∙ text ∙ head_then (head_lines m) (each m.placement.areas area_line) (flat_map placed_line m.placement.pieces) rest))

    cases : (pieces : List Placed) → m.placement.pieces ≡ pieces → Next m rest
    cases [] none =
        next_area_or m w rest front.fits form few none
        (ap (λ (l : List Placed). each m.placement.areas area_line ++ (flat_map placed_line l ++ rest)) (sym none) ∙ tails)
    cases (x ∷ xs) some = next_after m w rest x xs front form some tails

-- LINES THAT ARE READ IN ORDER, AND ONE MORE
pub record IsMore (m : Map) (p : Placement) (next : List ℕ) : Type 0 where
  pub front : IsFront (record m { placement = p })
  pub text : so_far (record m { placement = p }) ≡ so_far m ++ line next
  pub count : length p.areas + length p.pieces ≡ length m.placement.areas + length m.placement.pieces + 1

all_push : {X : Type 0} (P : X → Type 0) (xs : List X) (x : X) → All P xs → P x → All P (xs ++ x ∷ [])
all_push P xs x are is = All-append P xs (x ∷ []) are (alone P x is)

no_pieces : (n : ℕ) (xs : List Placed) → (length xs == n) ≡ true → n ≡ 0 → xs ≡ []
no_pieces n [] e zero_is = refl
no_pieces n (x ∷ xs) e zero_is = let same = eqb-true (length (x ∷ xs)) n e in absurd (omega (arith, same))

area_texts_more : (h e l : List ℕ) → h ++ (e ++ l) ++ [] ≡ (h ++ e ++ []) ++ l
area_texts_more h e l = simp (append_assoc, append-nil)

more_area : (m : Map) (z : AreaAt) (next : List ℕ) → IsFront m → m.placement.pieces ≡ [] → IsAreaOf (length m.placement.areas) next z → IsMore m (with_area m.placement z) next
more_area m z next front none is =
    let fits = front.fits in
    let areas = m.placement.areas in
    let row : area_line (0 + length areas) z ≡ line next =
    ap (λ (n : ℕ). area_line n z) (omega arith) ∙ area_line-text (length areas) z ∙ ap line (sym is.text_is) in
    record {
      front = record {
        fits = record {
          output = fits.output;
          seed_length = fits.seed_length;
          seed = fits.seed;
          base = fits.base;
          areas = all_push AreaFits areas z fits.areas is.fits;
          pieces = fits.pieces;
        };
        chain = front.chain;
        counted = inl none;
      };
      text = ap (λ (l : List ℕ). head_lines m ++ l ++ flat_map placed_line m.placement.pieces) (each_push 0 area_line areas z ∙ ap (λ (l : List ℕ). each areas area_line ++ l) row)
          ∙ ap (λ (l : List Placed). head_lines m ++ (each areas area_line ++ line next) ++ flat_map placed_line l) none
          ∙ area_texts_more (head_lines m) (each areas area_line) (line next)
          ∙ ap (λ (l : List Placed). (head_lines m ++ each areas area_line ++ flat_map placed_line l) ++ line next) (sym none);
      count = omega (arith, length-append areas (z ∷ []));
    }

more_placed : (m : Map) (x : Placed) (next : List ℕ) → IsFront m → 15 ≤ length m.placement.areas → may_follow (last_id m.placement.pieces) x.id ≡ true
    → IsPlacedOf next x → IsMore m (with_placed m.placement x) next
more_placed m x next front enough follows is =
    let fits = front.fits in
    let pieces = m.placement.pieces in
    let row : flat_map placed_line (x ∷ []) ≡ line next = append-nil (placed_line x) ∙ placed_line-text x ∙ ap line (sym is.text_is) in
    record {
      front = record {
        fits = record {
          output = fits.output;
          seed_length = fits.seed_length;
          seed = fits.seed;
          base = fits.base;
          areas = fits.areas;
          pieces = all_push PlacedFits pieces x fits.pieces is.fits;
        };
        chain = subst (Chain None) (sym (ids-append pieces (x ∷ []))) (chain_more None (placed_ids pieces) x.id front.chain follows);
        counted = inr enough;
      };
      text = ap (λ (l : List ℕ). head_lines m ++ each m.placement.areas area_line ++ l) (flat_map-append placed_line pieces (x ∷ []) ∙ ap (λ (l : List ℕ). flat_map placed_line pieces ++ l) row)
          ∙ sym (append_assoc (head_lines m ++ each m.placement.areas area_line) (flat_map placed_line pieces) (line next));
      count = omega (arith, length-append pieces (x ∷ []));
    }

-- what a choice came from
taken : {X P : Type 0} (b : Bool) (o : Option X) (y : X) → cond b o None ≡ Some y → (b ≡ true → o ≡ Some y → P) → P
taken true o y e go = go refl e
taken false o y e go = some_none y (sym e)

left_out : {X P : Type 0} (b : Bool) (o : Option X) (y : X) → cond b None o ≡ Some y → (b ≡ false → o ≡ Some y → P) → P
left_out false o y e go = go refl e
left_out true o y e go = some_none y (sym e)

pub one_more : (m : Map) (p : Placement) (next : List ℕ) → IsFront m → with_line m.placement next ≡ Some p → IsMore m p next
one_more m p next front e = cases (next_area m.placement next) refl e
  where
    follows : (x : Placed) (o : Option Placed) → placed_of next ≡ o → if_follows (last_id m.placement.pieces) o ≡ Some x
        → (may_follow (last_id m.placement.pieces) x.id ≡ true) × IsPlacedOf next x
    follows x None told e = some_none x (sym e)
    follows x (Some y) told e =
        let both = chosen (may_follow (last_id m.placement.pieces) y.id) y x e in (
          ap (λ (z : Placed). may_follow (last_id m.placement.pieces) z.id) (sym both.1) ∙ both.0,
          placed_from next x (told ∙ ap (λ (z : Placed). Some z) both.1),
        )

    cases : (o : Option AreaAt) → next_area m.placement next ≡ o → or_placed m.placement next o ≡ Some p → IsMore m p next
    cases (Some z) told e =
        taken (length m.placement.pieces == 0) (area_of (length m.placement.areas) next) z told (λ none read.
        subst (λ (q : Placement). IsMore m q next) (same_some (with_area m.placement z) p e)
        (more_area m z next front (no_pieces 0 m.placement.pieces none refl) (area_from (length m.placement.areas) next z read)))
    cases None told e =
        mapped (with_placed m.placement) (next_placed m.placement next) p e (λ x read same.
        left_out (nat_lt (length m.placement.areas) 15) (if_follows (last_id m.placement.pieces) (placed_of next)) x read (λ enough more.
        let both = follows x (placed_of next) refl more in
        subst (λ (q : Placement). IsMore m q next) same (more_placed m x next front (ltb-false (length m.placement.areas) 15 enough) both.0 both.1)))

-- A MAP WHOSE LINES ARE ALL READ
pub front_form : (m : Map) → IsFront m → is_ended m.placement ≡ true → IsMapForm m
front_form m front e =
    let enough = and_left (not (nat_lt (length m.placement.areas) 15)) (may_end (last_id m.placement.pieces)) e in
    let ends = and_right (not (nat_lt (length m.placement.areas) 15)) (may_end (last_id m.placement.pieces)) e in
    record {
      fits = front.fits;
      areas = ltb-false (length m.placement.areas) 15 (not_true (nat_lt (length m.placement.areas) 15) enough);
      order = whole_order (placed_ids m.placement.pieces)
          (subst (Whole None) (append-nil (placed_ids m.placement.pieces)) (chain_whole None (placed_ids m.placement.pieces) [] front.chain ends));
    }
