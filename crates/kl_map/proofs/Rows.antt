-- Lines are read as they were printed, and what is read was printed so.
use Rattle.std.proofs.Common.{◌≡◌, zero, suc, ◌-◌, ◌<◌, ◌^◌, ℕ, Bool, true, false, cond, List, [], ◌∷◌, ◌++◌, refl, sym, ap, ◌∙◌, subst, arith, append_assoc, codes, decimal, Option}
use Rattle.std.specs.Prelude.{Some, None, slice_get, unwrap_or}
use Rattle.std.specs.List.{join_with_byte, list_all}
use Rattle.std.specs.Option.{option_and_then, option_map, option_map_or}
use Rattle.std.specs.Str.{bytes_eq}
use Rattle.std.proofs.lemmas.Option.{option_and_then_some}
use Rattle.kl_base.specs.declared.class.Class.{Class}
use Rattle.kl_base.proofs.Bools.{and_left, and_right, equal_bytes, same_bytes}
use Rattle.kl_text.specs.Lines.{IsLine, after_prefix, cut, lacks, line}
use Rattle.kl_text.specs.Numbers.{number_of}
use Rattle.kl_text.proofs.Cuts.{after_prefix-append, append-after_prefix, append-cut, cut-append, path-lacks}
use Rattle.kl_text.proofs.Numerals.{number_again, number_from}
use Rattle.kl_base.specs.Names.{is_path_byte}
use Rattle.kl_model.specs.Areas.{Area, areas}
use Rattle.kl_model.specs.declared.graph.PieceId.{PieceId}
use Rattle.kl_model.specs.declared.graph.PieceId.TheVariants.{Section, Common, Gap}
use Rattle.kl_model.specs.declared.place.AreaAt.{AreaAt}
use Rattle.kl_model.specs.declared.place.Placed.{Placed}
use Rattle.kl_map.specs.MapText.{area_line, area_name, class_name, hexadecimal, id_words, placed_line}
use Rattle.kl_map.specs.Reading.{area_of, class_of, common_of, gap_of, id_of, placed_of, section_of, sizes_of}
use Rattle.kl_map.specs.Spelling.{AreaFits, IdFits, PlacedFits}
use Rattle.kl_map.proofs.Lines.{id_then}
use Rattle.kl_map.proofs.Spelled.{address_lacks, class_again, class_from, class_lacks, mapped, sizes_again, sizes_from, sizes_text, some_none}
use Rattle.kl_map.proofs.Texts.{decimal_lacks}

-- an area's line without its newline
abbrev pub area_text : ℕ → AreaAt → List ℕ
area_text k x = codes "area " ++ (area_name k ++ 32 ∷ sizes_text x.start x.end)

pub area_line-text : (k : ℕ) (x : AreaAt) → area_line k x ≡ line (area_text k x)
unfolding area_line
area_line-text k x = simp append_assoc

-- two parts lack what each of them lacks
pub both_lack : (value : ℕ) (a b : List ℕ) → lacks value a ≡ true → lacks value b ≡ true → lacks value (a ++ b) ≡ true
both_lack value [] b p q = q
both_lack value (x ∷ a) b p q = rw (and_left _ (lacks value a) p, both_lack value a b (and_right _ (lacks value a) p) q) refl

sizes_lack : (a b : ℕ) → lacks 10 (sizes_text a b) ≡ true
sizes_lack a b = both_lack 10 (hexadecimal a) (32 ∷ hexadecimal b) (address_lacks 10 a (omega arith)) (address_lacks 10 b (omega arith))

-- an area's name is one word
row_lacks : (value : ℕ) (rows : List Area) (k : ℕ) (other : List ℕ) → value < 33 → list_all (λ row. list_all is_path_byte row.name) rows ≡ true
    → lacks value other ≡ true → lacks value (unwrap_or (option_map (λ row. row.name) (slice_get rows k)) other) ≡ true
row_lacks value [] k other low named e = e
row_lacks value (row ∷ rows) zero other low named e = path-lacks value row.name low (and_left _ (list_all (λ r. list_all is_path_byte r.name) rows) named)
row_lacks value (row ∷ rows) (suc k) other low named e =
    row_lacks value rows k other low (and_right (list_all is_path_byte row.name) (list_all (λ r. list_all is_path_byte r.name) rows) named) e

name_lacks : (value k : ℕ) → value < 33 → k < 2 ^ 64 → lacks value (area_name k) ≡ true
unfolding area_name
name_lacks value k low fits =
    row_lacks value areas k (codes "run" ++ decimal (k - 15)) low refl
    (both_lack value (codes "run") (decimal (k - 15)) (path-lacks value (codes "run") low refl) (decimal_lacks value (k - 15) (omega arith) (omega arith)))

pub area_is_line : (k : ℕ) (x : AreaAt) → k < 2 ^ 64 → IsLine (area_text k x)
area_is_line k x fits =
    both_lack 10 (area_name k) (32 ∷ sizes_text x.start x.end) (name_lacks 10 k (omega arith) fits) (sizes_lack x.start x.end)

abbrev area_sized : List ℕ → Option AreaAt
area_sized sizes = option_map (λ (start, end). record { start = start; end = end }) (sizes_of sizes)

abbrev area_named : ℕ → List ℕ × List ℕ → Option AreaAt
area_named k p = cond (bytes_eq p.0 (area_name k)) (area_sized p.1) None

pub area_again : (k : ℕ) (x : AreaAt) → k < 2 ^ 64 → AreaFits x → area_of k (area_text k x) ≡ Some x
unfolding area_of
area_again k x fits suits =
    ap (λ o. option_and_then (λ rest. option_and_then (area_named k) (cut 32 rest)) o) (after_prefix-append (codes "area ") (area_name k ++ 32 ∷ sizes_text x.start x.end))
    ∙ ap (λ o. option_and_then (area_named k) o) (cut-append 32 (area_name k) (sizes_text x.start x.end) (name_lacks 32 k (omega arith) fits))
    ∙ ap (λ b. cond b (area_sized (sizes_text x.start x.end)) None) (same_bytes (area_name k))
    ∙ ap (λ o. option_map {U = AreaAt} (λ (start, end). record { start = start; end = end }) o) (sizes_again x.start x.end suits.0 suits.1)

pub record IsAreaOf (k : ℕ) (text : List ℕ) (x : AreaAt) : Type 0 where
  pub text_is : text ≡ area_text k x
  pub fits : AreaFits x

unless : {X P : Type 0} (b : Bool) (o : Option X) (y : X) → cond b o None ≡ Some y → (b ≡ true → o ≡ Some y → P) → P
unless true o y e go = go refl e
unless false o y e go = some_none y (sym e)

pub area_from : (k : ℕ) (text : List ℕ) (x : AreaAt) → area_of k text ≡ Some x → IsAreaOf k text x
unfolding area_of
area_from k text x e =
    option_and_then_some (λ rest. option_and_then (area_named k) (cut 32 rest)) (after_prefix (codes "area ") text) x e (λ rest first more.
    option_and_then_some (area_named k) (cut 32 rest) x more (λ p cuts most.
    unless (bytes_eq p.0 (area_name k)) (area_sized p.1) x most (λ named sized.
    mapped (λ (start, end). record { start = start; end = end }) (sizes_of p.1) x sized (λ q sizes all.
    let from = sizes_from p.1 q.0 q.1 sizes in
    let start : q.0 ≡ x.start = ap (λ (y : AreaAt). y.start) all in
    let end : q.1 ≡ x.end = ap (λ (y : AreaAt). y.end) all in
    record {
      text_is = append-after_prefix (codes "area ") text rest first ∙ ap (λ (l : List ℕ). codes "area " ++ l) (append-cut 32 rest p.0 p.1 cuts)
          ∙ ap (λ (l : List ℕ). codes "area " ++ (l ++ 32 ∷ p.1)) (equal_bytes p.0 (area_name k) named)
          ∙ ap (λ (l : List ℕ). codes "area " ++ (area_name k ++ 32 ∷ l)) from.text_is
          ∙ ap (λ (n : ℕ). area_text k (record { start = n; end = q.1 })) start ∙ ap (λ (n : ℕ). area_text k (record { start = x.start; end = n })) end;
      fits = (subst (λ (n : ℕ). n < 2 ^ 64) start from.first, subst (λ (n : ℕ). n < 2 ^ 64) end from.second);
    }))))

-- the line of a piece, a common or a gap, without its newline
abbrev pub placed_text : Placed → List ℕ
placed_text x = id_then x.id (sizes_text x.address x.size)

id_line-text : (id : PieceId) (address size : ℕ) → line (join_with_byte 32 (id_words id ++ hexadecimal address ∷ hexadecimal size ∷ [])) ≡ line (id_then id (sizes_text address size))
id_line-text (Section input section) address size = simp append_assoc
id_line-text (Common number) address size = simp append_assoc
id_line-text (Gap class) address size = simp append_assoc

pub placed_line-text : (x : Placed) → placed_line x ≡ line (placed_text x)
unfolding placed_line
placed_line-text x = id_line-text x.id x.address x.size

wide : (n : ℕ) → n < 2 ^ 32 → n < 2 ^ 64
wide n fits = omega arith

number_lacks : (value n : ℕ) → value < 48 → n < 2 ^ 32 → lacks value (decimal n) ≡ true
number_lacks value n low fits = decimal_lacks value n low (wide n fits)

id_lacks : (id : PieceId) (a : List ℕ) → IdFits id → lacks 10 a ≡ true → lacks 10 (id_then id a) ≡ true
id_lacks (Section input section) a fits e =
    both_lack 10 (decimal input) (32 ∷ (decimal section ++ 32 ∷ a)) (number_lacks 10 input (omega arith) fits.0)
    (both_lack 10 (decimal section) (32 ∷ a) (number_lacks 10 section (omega arith) fits.1) e)
id_lacks (Common number) a fits e = both_lack 10 (decimal number) (32 ∷ a) (number_lacks 10 number (omega arith) fits) e
id_lacks (Gap class) a fits e = both_lack 10 (class_name class) (32 ∷ a) (class_lacks 10 class (omega arith)) e

pub placed_is_line : (x : Placed) → PlacedFits x → IsLine (placed_text x)
placed_is_line x fits = id_lacks x.id (sizes_text x.address x.size) fits.0 (sizes_lack x.address x.size)

-- which piece, common or gap
abbrev numbered : List ℕ → List ℕ → ℕ → Option (PieceId × List ℕ)
numbered section sizes i = option_map (λ s. (Section i s, sizes)) (number_of section)

abbrev section_told : List ℕ → List ℕ × List ℕ → Option (PieceId × List ℕ)
section_told input p = option_and_then (numbered p.0 p.1) (number_of input)

section_again : (input section : ℕ) (a : List ℕ) → input < 2 ^ 32 → section < 2 ^ 32
    → section_of (decimal input ++ 32 ∷ (decimal section ++ 32 ∷ a)) ≡ Some (Section input section, a)
unfolding section_of
section_again input section a first second =
    ap (λ o. option_and_then (λ (l, rest). option_and_then (section_told l) (cut 32 rest)) o) (cut-append 32 (decimal input) (decimal section ++ 32 ∷ a) (number_lacks 32 input (omega arith) first))
    ∙ ap (λ o. option_and_then (section_told (decimal input)) o) (cut-append 32 (decimal section) a (number_lacks 32 section (omega arith) second))
    ∙ ap (λ o. option_and_then (numbered (decimal section) a) o) (number_again input first)
    ∙ ap (λ o. option_map {U = PieceId × List ℕ} (λ s. (Section input s, a)) o) (number_again section second)

common_again : (number : ℕ) (a : List ℕ) → number < 2 ^ 32 → common_of (decimal number ++ 32 ∷ a) ≡ Some (Common number, a)
unfolding common_of
common_again number a fits =
    ap (λ o. option_and_then (λ (l, sizes). option_map (λ n. (Common n, sizes)) (number_of l)) o) (cut-append 32 (decimal number) a (number_lacks 32 number (omega arith) fits))
    ∙ ap (λ o. option_map {U = PieceId × List ℕ} (λ n. (Common n, a)) o) (number_again number fits)

gap_again : (class : Class) (a : List ℕ) → gap_of (class_name class ++ 32 ∷ a) ≡ Some (Gap class, a)
unfolding gap_of
gap_again class a =
    ap (λ o. option_and_then (λ (l, sizes). option_map (λ c. (Gap c, sizes)) (class_of l)) o) (cut-append 32 (class_name class) a (class_lacks 32 class (omega arith)))
    ∙ ap (λ o. option_map {U = PieceId × List ℕ} (λ c. (Gap c, a)) o) (class_again class)

abbrev gap_line : List ℕ → Option (PieceId × List ℕ)
gap_line text = option_and_then gap_of (after_prefix (codes "gap ") text)

abbrev common_line : List ℕ → Option (PieceId × List ℕ)
common_line text = option_map_or common_of (after_prefix (codes "common ") text) (gap_line text)

id_again : (id : PieceId) (a : List ℕ) → IdFits id → id_of (id_then id a) ≡ Some (id, a)
unfolding id_of
id_again (Section input section) a fits =
    let rest = decimal input ++ 32 ∷ (decimal section ++ 32 ∷ a) in
    ap (λ o. option_map_or section_of o (common_line (codes "piece " ++ rest))) (after_prefix-append (codes "piece ") rest) ∙ section_again input section a fits.0 fits.1
id_again (Common number) a fits =
    let rest = decimal number ++ 32 ∷ a in
    ap (λ o. option_map_or common_of o (gap_line (codes "common " ++ rest))) (after_prefix-append (codes "common ") rest) ∙ common_again number a fits
id_again (Gap class) a fits =
    let rest = class_name class ++ 32 ∷ a in
    ap (λ o. option_and_then gap_of o) (after_prefix-append (codes "gap ") rest) ∙ gap_again class a

abbrev placed_sized : PieceId × List ℕ → Option Placed
placed_sized p = option_map (λ (address, size). record { id = p.0; address = address; size = size }) (sizes_of p.1)

pub placed_again : (x : Placed) → PlacedFits x → placed_of (placed_text x) ≡ Some x
unfolding placed_of
placed_again x fits =
    ap (λ o. option_and_then placed_sized o) (id_again x.id (sizes_text x.address x.size) fits.0)
    ∙ ap (λ o. option_map {U = Placed} (λ (address, size). record { id = x.id; address = address; size = size }) o) (sizes_again x.address x.size fits.1 fits.2)

-- what is read of the words behind the first
record IsIdOf (text : List ℕ) (id : PieceId) (a : List ℕ) : Type 0 where
  pub text_is : text ≡ id_then id a
  pub fits : IdFits id

abbrev both_of : PieceId → List ℕ → PieceId × List ℕ
both_of id a = (id, a)

told_id : {a b : List ℕ} {x y : PieceId} → ◌≡◌ {A = PieceId × List ℕ} (x, a) (y, b) → (x ≡ y) × (a ≡ b)
told_id e = (ap (λ (q : PieceId × List ℕ). q.0) e, ap (λ (q : PieceId × List ℕ). q.1) e)

moved : (text : List ℕ) (x y : PieceId) (a b : List ℕ) → ◌≡◌ {A = PieceId × List ℕ} (x, a) (y, b) → text ≡ id_then x a → IdFits x → IsIdOf text y b
moved text x y a b e is fits =
    let same = told_id e in
    record { text_is = is ∙ ap (λ (id : PieceId). id_then id a) same.0 ∙ ap (id_then y) same.1; fits = subst IdFits same.0 fits }

section_from : (text whole : List ℕ) (id : PieceId) (a : List ℕ) → whole ≡ codes "piece " ++ text → section_of text ≡ Some (id, a) → IsIdOf whole id a
unfolding section_of
section_from text whole id a begins e =
    option_and_then_some (λ (l, rest). option_and_then (section_told l) (cut 32 rest)) (cut 32 text) (id, a) e (λ p first more.
    option_and_then_some (section_told p.0) (cut 32 p.1) (id, a) more (λ q second most.
    option_and_then_some (numbered q.0 q.1) (number_of p.0) (id, a) most (λ i input rest.
    mapped (λ s. (Section i s, q.1)) (number_of q.0) (id, a) rest (λ s section all.
    let one = number_from p.0 i input in
    let two = number_from q.0 s section in
    moved whole (Section i s) id q.1 a all
    (begins ∙ ap (λ (l : List ℕ). codes "piece " ++ l) (append-cut 32 text p.0 p.1 first ∙ ap (λ (l : List ℕ). p.0 ++ 32 ∷ l) (append-cut 32 p.1 q.0 q.1 second)
    ∙ ap (λ (l : List ℕ). l ++ 32 ∷ (q.0 ++ 32 ∷ q.1)) one.0 ∙ ap (λ (l : List ℕ). decimal i ++ 32 ∷ (l ++ 32 ∷ q.1)) two.0)) (one.1, two.1)))))

common_from : (text whole : List ℕ) (id : PieceId) (a : List ℕ) → whole ≡ codes "common " ++ text → common_of text ≡ Some (id, a) → IsIdOf whole id a
unfolding common_of
common_from text whole id a begins e =
    option_and_then_some (λ (l, sizes). option_map (λ n. (Common n, sizes)) (number_of l)) (cut 32 text) (id, a) e (λ p first more.
    mapped (λ n. (Common n, p.1)) (number_of p.0) (id, a) more (λ n number all.
    let one = number_from p.0 n number in
    moved whole (Common n) id p.1 a all
    (begins ∙ ap (λ (l : List ℕ). codes "common " ++ l) (append-cut 32 text p.0 p.1 first ∙ ap (λ (l : List ℕ). l ++ 32 ∷ p.1) one.0)) one.1))

gap_from : (text whole : List ℕ) (id : PieceId) (a : List ℕ) → whole ≡ codes "gap " ++ text → gap_of text ≡ Some (id, a) → IsIdOf whole id a
unfolding gap_of
gap_from text whole id a begins e =
    option_and_then_some (λ (l, sizes). option_map (λ c. (Gap c, sizes)) (class_of l)) (cut 32 text) (id, a) e (λ p first more.
    mapped (λ c. (Gap c, p.1)) (class_of p.0) (id, a) more (λ c class all.
    moved whole (Gap c) id p.1 a all
    (begins ∙ ap (λ (l : List ℕ). codes "gap " ++ l) (append-cut 32 text p.0 p.1 first ∙ ap (λ (l : List ℕ). l ++ 32 ∷ p.1) (class_from p.0 c class))) tt))

either : {X Y P : Type 0} (f : X → Option Y) (o : Option X) (other : Option Y) (y : Y) → option_map_or f o other ≡ Some y
    → ((x : X) → o ≡ Some x → f x ≡ Some y → P) → (other ≡ Some y → P) → P
either f None other y e here there = there e
either f (Some x) other y e here there = here x refl e

id_from : (text : List ℕ) (id : PieceId) (a : List ℕ) → id_of text ≡ Some (id, a) → IsIdOf text id a
unfolding id_of
id_from text id a e =
    either section_of (after_prefix (codes "piece ") text) (common_line text) (id, a) e
    (λ rest first is. section_from rest text id a (append-after_prefix (codes "piece ") text rest first) is) (λ e.
    either common_of (after_prefix (codes "common ") text) (gap_line text) (id, a) e
    (λ rest first is. common_from rest text id a (append-after_prefix (codes "common ") text rest first) is) (λ e.
    option_and_then_some gap_of (after_prefix (codes "gap ") text) (id, a) e
    (λ rest first is. gap_from rest text id a (append-after_prefix (codes "gap ") text rest first) is)))

pub record IsPlacedOf (text : List ℕ) (x : Placed) : Type 0 where
  pub text_is : text ≡ placed_text x
  pub fits : PlacedFits x

pub placed_from : (text : List ℕ) (x : Placed) → placed_of text ≡ Some x → IsPlacedOf text x
unfolding placed_of
placed_from text x e =
    option_and_then_some placed_sized (id_of text) x e (λ p told more.
    mapped (λ (address, size). record { id = p.0; address = address; size = size }) (sizes_of p.1) x more (λ q sizes all.
    let from = id_from text p.0 p.1 told in
    let behind = sizes_from p.1 q.0 q.1 sizes in
    let made : Placed = record { id = p.0; address = q.0; size = q.1 } in
    let text_is : text ≡ placed_text made = from.text_is ∙ ap (id_then p.0) behind.text_is in
    let fits : PlacedFits made = (from.fits, behind.first, behind.second) in
    record { text_is = text_is ∙ ap placed_text all; fits = subst (λ (y : Placed). PlacedFits y) all fits }))
