-- The bytes of an image that is made place by place.
use Rattle.std.proofs.Common.{ℕ, zero, suc, ◌≡◌, ◌+◌, ◌*◌, ◌/◌, ◌%◌, ◌^◌, ◌<◌, ◌≤◌, ◌∙◌, List, [], ◌∷◌, ◌++◌, length, map, get_or, refl, ap, sym, arith, length-append, Bool, true, false, ◌&&◌, inl, inr, ◌⊎◌, ◌-◌}
use Rattle.std.specs.Prelude.{Some, None, Option, find, slice_index, AllPairs, ◌==◌, flat_map}
use Rattle.std.specs.Option.{option_map_or}
use Rattle.std.specs.List.{range_with_len}
use Rattle.std.proofs.Math.Nat.{pow-succ', div-div-eq-div-mul, mul_comm, mod-eq_of_lt}
use Rattle.std.proofs.Math.Arith.{mod-mul}
use Rattle.std.proofs.lemmas.Bool.{cases_Bool, lt-ltb, le-leb, eq-eqb, eqb-true}
use Rattle.std.proofs.lemmas.List.{get_or_append_left, get_or-append-add}
use Rattle.std.proofs.lemmas.List.FromFn.{get_or-map-range_with_len}
use Rattle.kl_le.specs.Bytes.{num, Within}
use Rattle.kl_model.specs.Written.{byte_of, bytes_of}
use Rattle.kl_model.specs.Image.{is_within, image_byte, image_bytes, image_size, part_on, field_on, part_byte, byte_at}
use Rattle.kl_model.specs.Lists.{each, each_from}
use Rattle.kl_model.specs.Sizes.{made_of}
use Rattle.kl_model.specs.Line.{every_part, piece_part, gap_parts, made_parts, classes}
use Rattle.kl_base.specs.declared.class.Class.{Class}
use Rattle.kl_model.specs.Laid.{place_of}
use Rattle.kl_model.specs.Carries.{Apart, piece_at, no_piece}
use Rattle.kl_model.specs.Relocations.{width}
use Rattle.kl_model.specs.Sound.{StandApart}
use Rattle.kl_model.specs.declared.graph.Field.{Field}
use Rattle.kl_model.specs.declared.place.Body.{Body}
use Rattle.kl_model.specs.declared.place.Body.TheVariants as body
use Rattle.kl_model.specs.declared.place.LinePart.{LinePart}
use Rattle.kl_model.specs.declared.place.Gaps.{Gaps}
use Rattle.kl_model.specs.declared.place.Placement.{Placement}
use Rattle.kl_model.specs.declared.graph.Graph.{Graph}
use Rattle.kl_model.specs.declared.object.Input.{Input}
use Rattle.kl_model.specs.declared.kit.Kit.{Kit}

-- the first item that passes a test is the only one
pub find_only : {X : Type 0} (p : X → Bool) (xs : List X) (k : ℕ) (d : X) → k < length xs → p (get_or xs k d) ≡ true → ((j : ℕ) → j < k → p (get_or xs j d) ≡ false)
    → find p xs ≡ Some (get_or xs k d)
find_only p [] k d h here before = absurd (omega arith)
find_only p (x ∷ xs) zero d h here before = rw here refl
find_only p (x ∷ xs) (suc k) d h here before =
    rw (before 0 (omega arith)) (find_only p xs k d (omega arith) here (λ j l. before (suc j) (omega arith)))

pub within_is : (at n x : ℕ) → Within at n x → is_within at n x ≡ true
within_is at n x w = rw (le-leb at x w.0, lt-ltb x (at + n) w.1) refl

within_of : (at n x : ℕ) → is_within at n x ≡ true → Within at n x
within_of at n x e = grind arith

-- a part that has an address is the part there, where parts are apart
module _ (kit : Kit) (inputs : List Input) (g : Graph) (gaps : Option Gaps) (p : Placement) (apart : Apart p g (every_part g gaps (made_of kit g))) where
  abbrev parts : List LinePart
  parts = every_part g gaps (made_of kit g)

  pub part_is : (k : ℕ) (d : LinePart) (a : ℕ) → k < length parts → Within (place_of p g (get_or parts k d).body) (get_or parts k d).size a
      → part_on kit inputs g gaps p a ≡ Some (get_or parts k d)
  part_is k d a h w =
      find_only (λ x. is_within (place_of p g x.body) x.size a) parts k d h (within_is _ _ a w)
      (λ j l. elim (cases_Bool (is_within (place_of p g (get_or parts j d).body) (get_or parts j d).size a)) [
        | inl e ↦
            let v = within_of _ _ a e in
            elim (apart.apart j k d l h) [
              | inl q ↦ absurd (omega (arith, v.1, w.0, q))
              | inr q ↦ absurd (omega (arith, v.0, w.1, q))
            ]
        | inr e ↦ e
      ])

-- the byte at a place of the image
pub image_at : (kit : Kit) (inputs : List Input) (g : Graph) (gaps : Option Gaps) (p : Placement) (q : ℕ) → q < image_size kit inputs g gaps p
    → slice_index (image_bytes kit inputs g gaps p) q ≡ image_byte kit inputs g gaps p q
image_at kit inputs g gaps p q h = get_or-map-range_with_len (image_byte kit inputs g gaps p) 0 (image_size kit inputs g gaps p) q q 0 h (omega arith)

wide : (w : ℕ) → 0 < 256 ^ w
wide zero = omega arith
wide (suc w) = rw (pow-succ' 256 w) (omega (arith, wide w))

-- a number whose bytes stand in a row
pub num_of_bytes : (b : List ℕ) (at w v : ℕ) → ((j : ℕ) → j < w → slice_index b (at + j) ≡ byte_of v j) → num b at w ≡ v % 256 ^ w
unfolding num
num_of_bytes b at zero v same = omega arith
num_of_bytes b at (suc w) v same =
    let first : slice_index b at ≡ v % 256 =
    (let e : at + 0 ≡ at = omega arith in let one : v / 256 ^ 0 ≡ v = omega arith in rw (e, one) at (same 0 (omega arith))) in
    let rest : num b (suc at) w ≡ v / 256 % 256 ^ w = num_of_bytes b (suc at) w (v / 256) (λ j l.
    let e : suc at + j ≡ at + suc j = omega arith in
    let quotient : v / 256 ^ suc j ≡ v / 256 / 256 ^ j = ap (λ n. v / n) (pow-succ' 256 j) ∙ sym (div-div-eq-div-mul v 256 (256 ^ j)) in
    rw e (rw quotient at (same (suc j) (omega arith)))) in
    let whole : v % (256 ^ w * 256) ≡ (v / 256 % 256 ^ w) * 256 + v % 256 = mod-mul v (wide w) (omega arith) in
    let power : 256 ^ suc w ≡ 256 ^ w * 256 = pow-succ' 256 w ∙ mul_comm 256 (256 ^ w) in
    rw (power, whole, first, rest) (omega arith)

-- the bytes of a number
pub length-bytes_of : (w v : ℕ) → length (bytes_of w v) ≡ w
length-bytes_of zero v = refl
length-bytes_of (suc w) v = ap suc (length-bytes_of w (v / 256))

quotients : (v j : ℕ) → v / 256 ^ suc j ≡ v / 256 / 256 ^ j
quotients v j = ap (λ n. v / n) (pow-succ' 256 j) ∙ sym (div-div-eq-div-mul v 256 (256 ^ j))

pub byte-bytes_of : (w v j : ℕ) → j < w → get_or (bytes_of w v) j 0 ≡ byte_of v j
byte-bytes_of zero v j h = absurd (omega arith)
byte-bytes_of (suc w) v zero h = let one : v / 256 ^ 0 ≡ v = omega arith in rw one refl
byte-bytes_of (suc w) v (suc j) h = byte-bytes_of w (v / 256) j (omega arith) ∙ ap (λ n. n % 256) (sym (quotients v j))

-- a number that is written between bytes reads as itself
pub num-bytes_of : (before rest : List ℕ) (w v : ℕ) → v < 256 ^ w → num (before ++ (bytes_of w v ++ rest)) (length before) w ≡ v
num-bytes_of before rest w v small =
    num_of_bytes (before ++ (bytes_of w v ++ rest)) (length before) w v (λ j l.
    get_or-append-add before (bytes_of w v ++ rest) j 0
    ∙ (get_or_append_left (bytes_of w v) rest 0 j (omega (arith, length-bytes_of w v, l)) ∙ byte-bytes_of w v j l))
    ∙ mod-eq_of_lt small

both : (a b : Bool) → (a && b) ≡ true → (a ≡ true) × (b ≡ true)
both true b e = (refl, e)
both false b e = cc

-- a field that has a byte of its piece is the field there, where fields of one piece are apart
pub field_is : (g : Graph) (apart : AllPairs StandApart g.fields) (k : ℕ) (d : Field) (j : ℕ) → k < length g.fields
    → Within (get_or g.fields k d).offset (width (get_or g.fields k d).kind) j → field_on g (get_or g.fields k d).piece j ≡ Some (get_or g.fields k d)
field_is g apart k d j h w =
    let f = get_or g.fields k d in
    let test : Field → Bool = λ x. (x.piece == f.piece) && is_within x.offset (width x.kind) j in
    find_only test g.fields k d h (rw (eq-eqb f.piece f.piece refl, within_is f.offset (width f.kind) j w) refl)
    (λ i l. elim (cases_Bool (test (get_or g.fields i d))) [
      | inl e ↦
          let parts = both _ _ e in
          let v = within_of _ _ j parts.1 in
          elim (apart i k d l h (eqb-true _ _ parts.0)) [
            | inl q ↦ absurd (omega (arith, v.1, w.0, q))
            | inr q ↦ absurd (omega (arith, v.0, w.1, q))
          ]
      | inr e ↦ e
    ])

-- one item each
each_one : {X Y : Type 0} (f : ℕ → X → Y) (n : ℕ) (xs : List X) (k : ℕ) (d : X) (e : Y) → k < length xs → get_or (each_from n (λ k x. f k x ∷ []) xs) k e ≡ f (n + k) (get_or xs k d)
each_one f n [] k d e h = absurd (omega arith)
each_one f n (x ∷ xs) zero d e h = let z : n + zero ≡ n = omega arith in rw z refl
each_one f n (x ∷ xs) (suc k) d e h = let z : n + suc k ≡ suc n + k = omega arith in rw z (each_one f (suc n) xs k d e (omega arith))

length-one : {X Y : Type 0} (f : ℕ → X → Y) (n : ℕ) (xs : List X) → length (each_from n (λ k x. f k x ∷ []) xs) ≡ length xs
length-one f n [] = refl
length-one f n (x ∷ xs) = ap suc (length-one f (suc n) xs)

abbrev no_part : LinePart
no_part = record { body = body.Area 0; size = 0; align = 1 }

module _ (kit : Kit) (inputs : List Input) (g : Graph) (gaps : Option Gaps) (p : Placement) (apart : Apart p g (every_part g gaps (made_of kit g))) where
  abbrev all_parts : List LinePart
  all_parts = every_part g gaps (made_of kit g)

  -- piece n is part n
  pub piece_there : (n : ℕ) → n < length g.pieces → get_or all_parts n no_part ≡ piece_part n (piece_at g n)
  piece_there n h =
      let z : 0 + n ≡ n = omega arith in
      get_or_append_left (each g.pieces (λ k x. piece_part k x ∷ [])) _ no_part n (omega (arith, length-one piece_part 0 g.pieces, h))
      ∙ rw z at (each_one piece_part 0 g.pieces n no_piece no_part h)

  -- the byte of a class at an address of a piece
  pub byte_of_piece : (n k : ℕ) (c : Class) → n < length g.pieces → k < (piece_at g n).size
      → byte_at kit inputs g gaps p c (place_of p g (body.Piece n) + k) ≡ part_byte kit inputs g gaps p (body.Piece n) k
  byte_of_piece n k c h l =
      let there = piece_there n h in
      let long : n < length all_parts = length_parts n h in
      let within : Within (place_of p g (get_or all_parts n no_part).body) (get_or all_parts n no_part).size (place_of p g (body.Piece n) + k) = rw there (omega arith, omega (arith, l)) in
      let found : part_on kit inputs g gaps p (place_of p g (body.Piece n) + k) ≡ Some (piece_part n (piece_at g n)) =
      rw there at (part_is kit inputs g gaps p apart n no_part (place_of p g (body.Piece n) + k) long within) in
      let back : place_of p g (body.Piece n) + k - place_of p g (body.Piece n) ≡ k = omega arith in
      rw (found, back) refl
    where
      length_parts : (n : ℕ) → n < length g.pieces → n < length all_parts
      length_parts n h = omega (
        arith,
        h,
        length-one piece_part 0 g.pieces,
        length-append (each g.pieces (λ k x. piece_part k x ∷ [])) (flat_map (gap_parts gaps) classes
            ++ (made_parts 6 (made_of kit g).stubs 16 ++ (made_parts 8 (made_of kit g).tables 8 ++ (made_parts 13 (made_of kit g).got 8 ++ made_parts 14 (made_of kit g).dynamic 8)))),
      )
