-- Lines of a map that are known from the text.
use Rattle.std.proofs.Common.{◌≡◌, ℕ, suc, ◌<◌, ◌≢◌, ◌==◌, cond, List, [], ◌∷◌, ◌++◌, length, get_or, refl, sym, ◌∙◌, ap, arith, codes, decimal, append_assoc}
use Rattle.std.specs.Prelude.{All}
use Rattle.std.specs.List.{flat_map}
use Rattle.std.proofs.lemmas.List.{append_cancel_left}
use Rattle.std.proofs.lemmas.List.Elements.{All-tail}
use Rattle.kl_base.specs.declared.class.Class.{Class}
use Rattle.kl_base.specs.declared.class.Class.TheVariants.{Text, Rodata, Rwdata, Bss}
use Rattle.kl_model.specs.declared.graph.PieceId.{PieceId}
use Rattle.kl_model.specs.declared.graph.PieceId.TheVariants.{Section, Common, Gap}
use Rattle.kl_model.specs.declared.place.AreaAt.{AreaAt}
use Rattle.kl_model.specs.declared.place.Placed.{Placed}
use Rattle.kl_model.specs.declared.place.Placement.{Placement}
use Rattle.kl_model.specs.Lists.{each, each_from}
use Rattle.kl_text.specs.Lines.{words_line}
use Rattle.kl_text.proofs.Cuts.{same_cut}
use Rattle.kl_map.specs.declared.map.Map.{Map}
use Rattle.kl_map.specs.MapText.{area_line, head_lines, area_name, class_name, hexadecimal, id_words, output_line, seed_line, base_line, map_text, placed_line}
use Rattle.kl_map.specs.Spelling.{AreaFits, IdFits, IsMap, OneSpelling, PlacedFits}
use Rattle.kl_map.proofs.Texts.{name_lacks, same_address, same_digits, same_number}

abbrev area_of : ℕ → ℕ → AreaAt
area_of start end = record { start = start; end = end }

abbrev placed_of : PieceId → ℕ → ℕ → Placed
placed_of id address size = record { id = id; address = address; size = size }

-- records of equal fields
area_eq : (x y : AreaAt) → x.start ≡ y.start → x.end ≡ y.end → x ≡ y
area_eq x y s e = ap (λ (n : ℕ). area_of n x.end) s ∙ ap (area_of y.start) e

placed_eq : (x y : Placed) → x.id ≡ y.id → x.address ≡ y.address → x.size ≡ y.size → x ≡ y
placed_eq x y i a s =
    ap (λ (id : PieceId). placed_of id x.address x.size) i ∙ ap (λ (n : ℕ). placed_of y.id n x.size) a
    ∙ ap (placed_of y.id y.address) s

-- an area's line with what follows it
area_line-append : (k : ℕ) (x : AreaAt) (a : List ℕ) → area_line k x ++ a
    ≡ codes "area " ++ (area_name k ++ 32 ∷ (hexadecimal x.start ++ 32 ∷ (hexadecimal x.end ++ 10 ∷ a)))
unfolding area_line
area_line-append k x a = simp append_assoc

-- an area
pub same_area : (k : ℕ) (x y : AreaAt) (a b : List ℕ) → AreaFits x → AreaFits y
    → area_line k x ++ a ≡ area_line k y ++ b → (x ≡ y) × (a ≡ b)
same_area k x y a b fits suits e =
    let read = sym (area_line-append k x a) ∙ e ∙ area_line-append k y b in
    let named = append_cancel_left (codes "area ") _ _ read in
    let spaced = append_cancel_left (area_name k) _ _ named in
    let starts = same_address x.start y.start _ _ fits.0 suits.0 (append_cancel_left (codes " ") _ _ spaced) in
    let ends = same_address x.end y.end _ _ fits.1 suits.1 (append_cancel_left (codes " ") _ _ starts.1) in
    (area_eq x y starts.0 ends.0, append_cancel_left (codes "\n") a b ends.1)

-- the class of a name's first letter
abbrev letter_class : ℕ → Class
letter_class n = cond (n == 116) Text (cond (n == 114) Rodata (cond (n == 100) Rwdata Bss))

first_letter : (c : Class) (a : List ℕ) → letter_class (get_or (class_name c ++ a) 0 0) ≡ c
first_letter Text a = refl
first_letter Rodata a = refl
first_letter Rwdata a = refl
first_letter Bss a = refl

-- a class
same_class : (c d : Class) (a b : List ℕ) → class_name c ++ a ≡ class_name d ++ b → (c ≡ d) × (a ≡ b)
same_class c d a b e =
    let same : c ≡ d = sym (first_letter c a) ∙ ap (λ (t : List ℕ). letter_class (get_or t 0 0)) e ∙ first_letter d b in
    (same, append_cancel_left (class_name c) a b (e ∙ ap (λ (k : Class). class_name k ++ b) (sym same)))

-- the line of an id with what follows it
abbrev pub id_then : PieceId → List ℕ → List ℕ
id_then (Section input section) a = codes "piece " ++ (decimal input ++ 32 ∷ (decimal section ++ 32 ∷ a))
id_then (Common number) a = codes "common " ++ (decimal number ++ 32 ∷ a)
id_then (Gap class) a = codes "gap " ++ (class_name class ++ 32 ∷ a)

-- the rest of a line with what follows it
abbrev sizes_then : ℕ → ℕ → List ℕ → List ℕ
sizes_then address size a = hexadecimal address ++ 32 ∷ (hexadecimal size ++ 10 ∷ a)

id_line-append : (id : PieceId) (address size : ℕ) (a : List ℕ)
    → words_line (id_words id ++ hexadecimal address ∷ hexadecimal size ∷ []) ++ a ≡ id_then id (sizes_then address size a)
id_line-append (Section input section) address size a = simp append_assoc
id_line-append (Common number) address size a = simp append_assoc
id_line-append (Gap class) address size a = simp append_assoc

-- the first letter of an id's line
abbrev pub id_letter : PieceId → ℕ
id_letter (Section input section) = 112
id_letter (Common number) = 99
id_letter (Gap class) = 103

first_id : (id : PieceId) (a : List ℕ) → get_or (id_then id a) 0 0 ≡ id_letter id
first_id (Section input section) a = refl
first_id (Common number) a = refl
first_id (Gap class) a = refl

same_letter : (x y : PieceId) (a b : List ℕ) → id_then x a ≡ id_then y b → id_letter x ≡ id_letter y
same_letter x y a b e = sym (first_id x a) ∙ ap (λ (t : List ℕ). get_or t 0 0) e ∙ first_id y b

-- an id
same_id : (x y : PieceId) (a b : List ℕ) → IdFits x → IdFits y → id_then x a ≡ id_then y b → (x ≡ y) × (a ≡ b)
same_id (Section i s) (Section j t) a b fits suits e =
    let inputs = same_number i j _ _ fits.0 suits.0 (append_cancel_left (codes "piece ") _ _ e) in
    let sections = same_number s t a b fits.1 suits.1 inputs.1 in
    let same : Section i s ≡ Section j t = let h = inputs.0 in let k = sections.0 in cc in
    (same, sections.1)
same_id (Common m) (Common n) a b fits suits e =
    let numbers = same_number m n a b fits suits (append_cancel_left (codes "common ") _ _ e) in
    (ap Common numbers.0, numbers.1)
same_id (Gap c) (Gap d) a b fits suits e =
    let classes = same_class c d _ _ (append_cancel_left (codes "gap ") _ _ e) in
    (ap Gap classes.0, append_cancel_left (codes " ") a b classes.1)
same_id (Section i s) (Common n) a b fits suits e = let h = same_letter (Section i s) (Common n) a b e in absurd (omega (arith, h))
same_id (Section i s) (Gap d) a b fits suits e = let h = same_letter (Section i s) (Gap d) a b e in absurd (omega (arith, h))
same_id (Common m) (Section j t) a b fits suits e = let h = same_letter (Common m) (Section j t) a b e in absurd (omega (arith, h))
same_id (Common m) (Gap d) a b fits suits e = let h = same_letter (Common m) (Gap d) a b e in absurd (omega (arith, h))
same_id (Gap c) (Section j t) a b fits suits e = let h = same_letter (Gap c) (Section j t) a b e in absurd (omega (arith, h))
same_id (Gap c) (Common n) a b fits suits e = let h = same_letter (Gap c) (Common n) a b e in absurd (omega (arith, h))

-- a piece, a common or a gap
pub same_placed : (x y : Placed) (a b : List ℕ) → PlacedFits x → PlacedFits y
    → placed_line x ++ a ≡ placed_line y ++ b → (x ≡ y) × (a ≡ b)
unfolding placed_line
same_placed x y a b fits suits e =
    let read = sym (id_line-append x.id x.address x.size a) ∙ e ∙ id_line-append y.id y.address y.size b in
    let ids = same_id x.id y.id _ _ fits.0 suits.0 read in
    let addresses = same_address x.address y.address _ _ fits.1 suits.1 ids.1 in
    let sizes = same_address x.size y.size _ _ fits.2 suits.2 (append_cancel_left (codes " ") _ _ addresses.1) in
    (placed_eq x y ids.0 addresses.0 sizes.0, append_cancel_left (codes "\n") a b sizes.1)

abbrev pub last_line : List ℕ
last_line = codes "end\n"

-- the first letter of a line of the pieces isn't that of an area or of the end
pub first_placed : (x : Placed) (a : List ℕ) → get_or (placed_line x ++ a) 0 0 ≡ id_letter x.id
unfolding placed_line
first_placed x a = ap (λ (t : List ℕ). get_or t 0 0) (id_line-append x.id x.address x.size a) ∙ first_id x.id _

pub letter_above : (id : PieceId) → (97 < id_letter id) × (id_letter id ≢ 101)
letter_above (Section input section) = (omega arith, λ e. omega (arith, e))
letter_above (Common number) = (omega arith, λ e. omega (arith, e))
letter_above (Gap class) = (omega arith, λ e. omega (arith, e))

-- a list of lines isn't the last line alone
pieces_ended : (x : Placed) (xs : List Placed) → flat_map placed_line (x ∷ xs) ++ last_line ≢ last_line
pieces_ended x xs e =
    let read = sym (append_assoc (placed_line x) (flat_map placed_line xs) last_line) ∙ e in
    let letter = sym (first_placed x _) ∙ ap (λ (t : List ℕ). get_or t 0 0) read in
    (letter_above x.id).1 letter

-- all lines from the pieces on
same_pieces : (xs ys : List Placed) → All PlacedFits xs → All PlacedFits ys
    → flat_map placed_line xs ++ last_line ≡ flat_map placed_line ys ++ last_line → xs ≡ ys
same_pieces [] [] fits suits e = refl
same_pieces [] (y ∷ ys) fits suits e = absurd (pieces_ended y ys (sym e))
same_pieces (x ∷ xs) [] fits suits e = absurd (pieces_ended x xs e)
same_pieces (x ∷ xs) (y ∷ ys) fits suits e =
    let read = sym (append_assoc (placed_line x) (flat_map placed_line xs) last_line) ∙ e
    ∙ append_assoc (placed_line y) (flat_map placed_line ys) last_line in
    let first = same_placed x y _ _ (fits 0 x (omega arith)) (suits 0 y (omega arith)) read in
    let rest = same_pieces xs ys (All-tail PlacedFits x xs fits) (All-tail PlacedFits y ys suits) first.1 in
    let h = first.0 in cc

-- the lines from the pieces on begin with no area
pub pieces_letter : (xs : List Placed) → 97 < get_or (flat_map placed_line xs ++ last_line) 0 0
pieces_letter [] = omega arith
pieces_letter (x ∷ xs) =
    let letter = ap (λ (t : List ℕ). get_or t 0 0) (append_assoc (placed_line x) (flat_map placed_line xs) last_line) ∙ first_placed x _ in
    omega (arith, letter, (letter_above x.id).0)

-- areas, if no area follows
same_areas : (k : ℕ) (xs ys : List AreaAt) (a b : List ℕ) → All AreaFits xs → All AreaFits ys
    → 97 < get_or a 0 0 → 97 < get_or b 0 0 → each_from k area_line xs ++ a ≡ each_from k area_line ys ++ b → (xs ≡ ys) × (a ≡ b)
unfolding area_line
same_areas k [] [] a b fits suits h j e = (refl, e)
same_areas k [] (y ∷ ys) a b fits suits h j e =
    let letter : get_or a 0 0 ≡ 97 = ap (λ (t : List ℕ). get_or t 0 0) e in
    absurd (omega arith)
same_areas k (x ∷ xs) [] a b fits suits h j e =
    let letter : 97 ≡ get_or b 0 0 = ap (λ (t : List ℕ). get_or t 0 0) e in
    absurd (omega arith)
same_areas k (x ∷ xs) (y ∷ ys) a b fits suits h j e =
    let read = sym (append_assoc (area_line k x) (each_from (suc k) area_line xs) a) ∙ e
    ∙ append_assoc (area_line k y) (each_from (suc k) area_line ys) b in
    let first = same_area k x y _ _ (fits 0 x (omega arith)) (suits 0 y (omega arith)) read in
    let rest = same_areas (suc k) xs ys a b (All-tail AreaFits x xs fits) (All-tail AreaFits y ys suits) h j first.1 in
    let same : x ∷ xs ≡ y ∷ ys = let u = first.0 in let v = rest.0 in cc in
    (same, rest.1)

-- a line of two words with what follows it
words_line-append : (w x a : List ℕ) → words_line (w ∷ x ∷ []) ++ a ≡ w ++ 32 ∷ (x ++ 10 ∷ a)
words_line-append w x a = simp append_assoc

-- the second word with what follows it
same_word : (w x y a b : List ℕ) → words_line (w ∷ x ∷ []) ++ a ≡ words_line (w ∷ y ∷ []) ++ b → x ++ 10 ∷ a ≡ y ++ 10 ∷ b
same_word w x y a b e =
    append_cancel_left (codes " ") _ _ (append_cancel_left w _ _ (sym (words_line-append w x a) ∙ e ∙ words_line-append w y b))

seven_parts : (a b c d e f g : List ℕ) → a ++ b ++ c ++ d ++ e ++ f ++ g ≡ a ++ (b ++ (c ++ (d ++ (e ++ (f ++ g)))))
seven_parts a b c d e f g = simp append_assoc

-- the lines from the areas on
abbrev pub tail_lines : Placement → List ℕ
tail_lines p = each p.areas area_line ++ (flat_map placed_line p.pieces ++ last_line)

-- the first line, and then each part with what follows it
pub map_text-parts : (m : Map) → map_text m ≡ words_line (codes "relink" ∷ codes "map" ∷ codes "1" ∷ [])
    ++ (output_line m.output ++ (seed_line m.seed ++ (base_line m.placement.base ++ tail_lines m.placement)))
unfolding map_text
map_text-parts m = seven_parts (words_line (codes "relink" ∷ codes "map" ∷ codes "1" ∷ [])) (output_line m.output) (seed_line m.seed)
    (base_line m.placement.base) (each m.placement.areas area_line) (flat_map placed_line m.placement.pieces) last_line

abbrev placement_of : ℕ → List AreaAt → List Placed → Placement
placement_of base areas pieces = record { base = base; areas = areas; pieces = pieces }

abbrev map_of : List ℕ → List ℕ → Placement → Map
map_of output seed placement = record { output = output; seed = seed; placement = placement }

placement_eq : (x y : Placement) → x.base ≡ y.base → x.areas ≡ y.areas → x.pieces ≡ y.pieces → x ≡ y
placement_eq x y b a p =
    ap (λ (n : ℕ). placement_of n x.areas x.pieces) b ∙ ap (λ (l : List AreaAt). placement_of y.base l x.pieces) a
    ∙ ap (placement_of y.base y.areas) p

map_eq : (x y : Map) → x.output ≡ y.output → x.seed ≡ y.seed → x.placement ≡ y.placement → x ≡ y
map_eq x y o s p =
    ap (λ (l : List ℕ). map_of l x.seed x.placement) o ∙ ap (λ (l : List ℕ). map_of y.output l x.placement) s
    ∙ ap (map_of y.output y.seed) p

four_parts : (a b c d e : List ℕ) → a ++ b ++ c ++ d ++ e ≡ a ++ (b ++ (c ++ (d ++ e)))
four_parts a b c d e = simp append_assoc

-- what follows the lines before the areas
pub same_head : (x y : Map) (a b : List ℕ) → IsMap x → IsMap y → head_lines x ++ a ≡ head_lines y ++ b → a ≡ b
same_head x y a b fits suits e =
    let first = words_line (codes "relink" ∷ codes "map" ∷ codes "1" ∷ []) in
    let whole = sym (four_parts first (output_line x.output) (seed_line x.seed) (base_line x.placement.base) a) ∙ e
    ∙ four_parts first (output_line y.output) (seed_line y.seed) (base_line y.placement.base) b in
    let read = append_cancel_left (codes "relink map 1\n") _ _ whole in
    let outputs = same_cut 10 x.output y.output _ _ (name_lacks x.output fits.output) (name_lacks y.output suits.output)
    (same_word (codes "output") x.output y.output _ _ read) in
    let long : length x.seed ≡ length y.seed = fits.seed_length ∙ sym suits.seed_length in
    let seeds = same_digits x.seed y.seed _ _ fits.seed suits.seed long (same_word (codes "seed") _ _ _ _ outputs.1) in
    let bases = same_address x.placement.base y.placement.base _ _ fits.base suits.base
    (same_word (codes "base") _ _ _ _ (append_cancel_left (codes "\n") _ _ seeds.1)) in
    append_cancel_left (codes "\n") a b bases.1

-- no two maps have one text
pub one_spelling : OneSpelling
one_spelling x y fits suits e =
    let read = append_cancel_left (codes "relink map 1\n") _ _ (sym (map_text-parts x) ∙ e ∙ map_text-parts y) in
    let outputs = same_cut 10 x.output y.output _ _ (name_lacks x.output fits.output) (name_lacks y.output suits.output)
    (same_word (codes "output") x.output y.output _ _ read) in
    let long : length x.seed ≡ length y.seed = fits.seed_length ∙ sym suits.seed_length in
    let seeds = same_digits x.seed y.seed _ _ fits.seed suits.seed long (same_word (codes "seed") _ _ _ _ outputs.1) in
    let bases = same_address x.placement.base y.placement.base _ _ fits.base suits.base
    (same_word (codes "base") _ _ _ _ (append_cancel_left (codes "\n") _ _ seeds.1)) in
    let areas = same_areas 0 x.placement.areas y.placement.areas _ _ fits.areas suits.areas
    (pieces_letter x.placement.pieces) (pieces_letter y.placement.pieces) (append_cancel_left (codes "\n") _ _ bases.1) in
    let pieces = same_pieces x.placement.pieces y.placement.pieces fits.pieces suits.pieces areas.1 in
    map_eq x y outputs.0 seeds.0 (placement_eq x.placement y.placement bases.0 areas.0 pieces)
