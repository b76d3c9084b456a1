-- The first four lines.
use Rattle.std.proofs.Common.{◌≡◌, ◌<◌, ◌^◌, ℕ, zero, suc, List, [], ◌∷◌, ◌++◌, length, refl, sym, ap, ◌∙◌, subst, arith, append_assoc, codes, inl, Option}
use Rattle.std.specs.Prelude.{All, None, Some}
use Rattle.std.proofs.lemmas.List.{append-nil, append_cancel_left}
use Rattle.hex.specs.Hex.{IsBytes, encode_lower}
use Rattle.kl_base.specs.Names.{name_fault}
use Rattle.kl_text.specs.Lines.{IsLine, after_prefix, line}
use Rattle.kl_text.proofs.Cuts.{after_prefix-append, append-after_prefix, same_cut}
use Rattle.kl_map.specs.MapText.{head_lines, hexadecimal, map_text}
use Rattle.kl_map.specs.Outside.{Begins}
use Rattle.kl_map.specs.Reading.{address_of, bytes_of, head_of, name_of}
use Rattle.kl_map.specs.Spelling.{AreaFits, PlacedFits}
use Rattle.kl_map.specs.declared.map.Map.{Map}
use Rattle.kl_map.proofs.FirstOutside.{IsWrong, at_line, head_again, head_from}
use Rattle.kl_map.proofs.Fronts.{IsFront, goes_on}
use Rattle.kl_map.proofs.Lines.{map_text-parts, tail_lines}
use Rattle.kl_map.proofs.Spelled.{address_again, address_from, address_lacks, bytes_again, bytes_from, digits_lack, name_again, name_from, some_none}
use Rattle.kl_map.proofs.Texts.{name_lacks}

abbrev first : List ℕ
first = codes "relink map 1"

abbrev output_text : List ℕ → List ℕ
output_text name = codes "output " ++ name

abbrev seed_text : List ℕ → List ℕ
seed_text seed = codes "seed " ++ encode_lower seed

abbrev base_text : ℕ → List ℕ
base_text base = codes "base " ++ hexadecimal base

-- a map with these lines and no others
abbrev head_map : List ℕ → List ℕ → ℕ → Map
head_map output seed base = record { output = output; seed = seed; placement = record { base = base; areas = []; pieces = [] } }

none_fit : {X : Type 0} (P : X → Type 0) → All P []
none_fit P k d h = absurd (omega arith)

pub record AreHead (output seed : List ℕ) (base : ℕ) : Type 0 where
  pub output_is : name_fault output ≡ None
  pub count : length seed ≡ 32
  pub seed_is : IsBytes seed
  pub base_is : base < 2 ^ 64

head_front : (output seed : List ℕ) (base : ℕ) → AreHead output seed base → IsFront (head_map output seed base)
head_front output seed base are = record {
  fits = record {
    output = are.output_is;
    seed_length = are.count;
    seed = are.seed_is;
    base = are.base_is;
    areas = none_fit AreaFits;
    pieces = none_fit PlacedFits;
  };
  chain = tt;
  counted = inl refl;
}

-- a seed, for a text to go on with
abbrev zeros : ℕ → List ℕ
zeros zero = []
zeros (suc n) = 0 ∷ zeros n

zeros_are : (n : ℕ) → IsBytes (zeros n)
zeros_are zero i = omega arith
zeros_are (suc n) zero = omega arith
zeros_are (suc n) (suc i) = zeros_are n i

less : (a b : List ℕ) → Begins (a ++ b) → Begins a
less a b begins = record { map = begins.map; rest = b ++ begins.rest; form = begins.form; text = begins.text ∙ append_assoc a b begins.rest }

no_rest : (a : List ℕ) → a ++ [] ++ [] ≡ a
no_rest a = append-nil (a ++ []) ∙ append-nil a

head_begins : (output seed : List ℕ) (base : ℕ) → AreHead output seed base → Begins (head_lines (head_map output seed base))
head_begins output seed base are = subst Begins (no_rest (head_lines (head_map output seed base))) (goes_on (head_map output seed base) (head_front output seed base are))

blank_head : AreHead (codes "/a") (zeros 32) 0
blank_head = record { output_is = refl; count = refl; seed_is = zeros_are 32; base_is = omega arith }

-- what each map's text begins with

whole_text : (w : Map) → map_text w ≡ line first ++ (line (output_text w.output) ++ (line (seed_text w.seed) ++ (line (base_text w.placement.base) ++ tail_lines w.placement)))
whole_text w = map_text-parts w

-- what follows one line in two texts
behind : (l m a b : List ℕ) → IsLine l → IsLine m → line l ++ a ≡ line m ++ b → a ≡ b
behind l m a b one two e = (same_cut 10 l m a b one two (sym (append_assoc l (10 ∷ []) a) ∙ e ∙ append_assoc m (10 ∷ []) b)).1

one_line : (a r : List ℕ) → (a ++ []) ++ r ≡ a ++ r
one_line a r = ap (λ (l : List ℕ). l ++ r) (append-nil a)

two_lines : (a b r : List ℕ) → (a ++ (b ++ [])) ++ r ≡ a ++ (b ++ r)
two_lines a b r = simp (append_assoc, append-nil)

three_lines : (a b c r : List ℕ) → (a ++ (b ++ (c ++ []))) ++ r ≡ a ++ (b ++ (c ++ r))
three_lines a b c r = simp (append_assoc, append-nil)

name_is_line : (name : List ℕ) → name_fault name ≡ None → IsLine (output_text name)
name_is_line name e = name_lacks name e

seed_is_line : (seed : List ℕ) → IsBytes seed → IsLine (seed_text seed)
seed_is_line seed are = digits_lack 10 seed (omega arith) are

-- the line says something of its kind
record Says {X : Type 0} (key : List ℕ) (read : List ℕ → Option X) (next : List ℕ) : Type 0 where
  pub word : List ℕ
  pub value : X
  pub is : next ≡ key ++ word
  pub said : read word ≡ Some value

unsaid : {X : Type 0} (key : List ℕ) (read : List ℕ → Option X) (rest : List ℕ) → head_of key read rest ≡ None
    → (next more : List ℕ) → IsLine next → rest ≡ line next ++ more → Says key read next → ⊥
unsaid key read rest none next more one here says =
    some_none (says.value, more)
    (sym (head_again key read says.word more says.value (subst IsLine says.is one) says.said)
    ∙ ap (λ (l : List ℕ). head_of key read (line l ++ more)) (sym says.is) ∙ ap (head_of key read) (sym here) ∙ none)

-- THE FIRST LINE
pub wrong_first : (text : List ℕ) → after_prefix (codes "relink map 1\n") text ≡ None → IsWrong text 1
wrong_first text none =
    at_line (λ next. next ≡ first) [] text text 1 tt refl refl (less [] (head_lines (head_map (codes "/a") (zeros 32) 0)) (head_begins (codes "/a") (zeros 32) 0 blank_head))
    (λ w r form e. record {
      next = first;
      more = line (output_text w.output) ++ (line (seed_text w.seed) ++ (line (base_text w.placement.base) ++ tail_lines w.placement));
      text = sym e ∙ whole_text w;
      is = refl;
      holds = refl;
    })
    (λ next more one here same.
    some_none more (sym (after_prefix-append (line first) more) ∙ ap (λ (l : List ℕ). after_prefix (line first) (line l ++ more)) (sym same)
    ∙ ap (after_prefix (line first)) (sym here) ∙ none))

-- THE LINE OF THE OUTPUT
pub wrong_output : (text rest : List ℕ) → after_prefix (codes "relink map 1\n") text ≡ Some rest → head_of (codes "output ") name_of rest ≡ None → IsWrong text 2
wrong_output text rest begins none =
    at_line (Says (codes "output ") name_of) (first ∷ []) text rest 2 (refl, tt) refl
    (append-after_prefix (line first) text rest begins ∙ sym (one_line (line first) rest))
    (less (line first ++ []) _ (head_begins (codes "/a") (zeros 32) 0 blank_head))
    (λ w r form e. record {
      next = output_text w.output;
      more = line (seed_text w.seed) ++ (line (base_text w.placement.base) ++ tail_lines w.placement);
      text = sym (append_cancel_left (line first) _ r (sym (whole_text w) ∙ e ∙ one_line (line first) r));
      is = name_is_line w.output form.fits.output;
      holds = record { word = w.output; value = w.output; is = refl; said = name_again w.output form.fits.output };
    })
    (unsaid (codes "output ") name_of rest none)

-- the lines so far
pub record IsAfterOutput (text : List ℕ) (output : List ℕ) (rest : List ℕ) : Type 0 where
  pub text_is : text ≡ line first ++ (line (output_text output) ++ rest)
  pub output_is : name_fault output ≡ None

pub after_output : (text rest output more : List ℕ) → after_prefix (codes "relink map 1\n") text ≡ Some rest → head_of (codes "output ") name_of rest ≡ Some (output, more)
    → IsAfterOutput text output more
after_output text rest output more begins e =
    let from = head_from (codes "output ") name_of rest output more e in
    let name = name_from from.word output from.said in
    record {
      text_is = append-after_prefix (line first) text rest begins ∙ ap (λ (l : List ℕ). line first ++ l) from.text_is
          ∙ ap (λ (l : List ℕ). line first ++ (line (output_text l) ++ more)) name.0;
      output_is = name.1;
    }

-- THE LINE OF THE SEED
pub wrong_seed : (text output rest : List ℕ) → IsAfterOutput text output rest → head_of (codes "seed ") (bytes_of 32) rest ≡ None → IsWrong text 3
wrong_seed text output rest so none =
    at_line (Says (codes "seed ") (bytes_of 32)) (first ∷ output_text output ∷ []) text rest 3 (refl, (name_is_line output so.output_is, tt)) refl
    (so.text_is ∙ sym (two_lines (line first) (line (output_text output)) rest))
    (less (line first ++ (line (output_text output) ++ [])) (line (seed_text (zeros 32)) ++ line (base_text 0))
    (subst Begins (four (line first) (line (output_text output)) (line (seed_text (zeros 32))) (line (base_text 0)))
    (head_begins output (zeros 32) 0 (record { output_is = so.output_is; count = refl; seed_is = zeros_are 32; base_is = omega arith }))))
    (λ w r form e.
    let whole = append_cancel_left (line first) _ _ (sym (whole_text w) ∙ e ∙ two_lines (line first) (line (output_text output)) r) in
    record {
      next = seed_text w.seed;
      more = line (base_text w.placement.base) ++ tail_lines w.placement;
      text = sym (behind (output_text w.output) (output_text output) _ r (name_is_line w.output form.fits.output) (name_is_line output so.output_is) whole);
      is = seed_is_line w.seed form.fits.seed;
      holds = record { word = encode_lower w.seed; value = w.seed; is = refl; said = bytes_again 32 w.seed form.fits.seed_length form.fits.seed };
    })
    (unsaid (codes "seed ") (bytes_of 32) rest none)
  where
    four : (a b c d : List ℕ) → a ++ b ++ c ++ d ≡ (a ++ (b ++ [])) ++ (c ++ d)
    four a b c d = simp (append_assoc, append-nil)

pub record IsAfterSeed (text output seed rest : List ℕ) : Type 0 where
  pub text_is : text ≡ line first ++ (line (output_text output) ++ (line (seed_text seed) ++ rest))
  pub output_is : name_fault output ≡ None
  pub count : length seed ≡ 32
  pub seed_is : IsBytes seed

pub after_seed : (text output rest seed more : List ℕ) → IsAfterOutput text output rest → head_of (codes "seed ") (bytes_of 32) rest ≡ Some (seed, more)
    → IsAfterSeed text output seed more
after_seed text output rest seed more so e =
    let from = head_from (codes "seed ") (bytes_of 32) rest seed more e in
    let bytes = bytes_from 32 from.word seed from.said in
    record {
      text_is = so.text_is ∙ ap (λ (l : List ℕ). line first ++ (line (output_text output) ++ l)) (from.text_is ∙ ap (λ (l : List ℕ). line (codes "seed " ++ l) ++ more) bytes.word_is);
      output_is = so.output_is;
      count = bytes.count_is;
      seed_is = bytes.fit;
    }

-- THE LINE OF THE BASE
pub wrong_base : (text output seed rest : List ℕ) → IsAfterSeed text output seed rest → head_of (codes "base ") address_of rest ≡ None → IsWrong text 4
wrong_base text output seed rest so none =
    at_line (Says (codes "base ") address_of) (first ∷ output_text output ∷ seed_text seed ∷ []) text rest 4
    (refl, (name_is_line output so.output_is, (seed_is_line seed so.seed_is, tt))) refl
    (so.text_is ∙ sym (three_lines (line first) (line (output_text output)) (line (seed_text seed)) rest))
    (less (line first ++ (line (output_text output) ++ (line (seed_text seed) ++ []))) (line (base_text 0))
    (subst Begins (four (line first) (line (output_text output)) (line (seed_text seed)) (line (base_text 0)))
    (head_begins output seed 0 (record { output_is = so.output_is; count = so.count; seed_is = so.seed_is; base_is = omega arith }))))
    (λ w r form e.
    let whole = append_cancel_left (line first) _ _ (sym (whole_text w) ∙ e ∙ three_lines (line first) (line (output_text output)) (line (seed_text seed)) r) in
    let seeds = behind (output_text w.output) (output_text output) _ (line (seed_text seed) ++ r) (name_is_line w.output form.fits.output) (name_is_line output so.output_is) whole in
    record {
      next = base_text w.placement.base;
      more = tail_lines w.placement;
      text = sym (behind (seed_text w.seed) (seed_text seed) _ r (seed_is_line w.seed form.fits.seed) (seed_is_line seed so.seed_is) seeds);
      is = address_lacks 10 w.placement.base (omega arith);
      holds = record { word = hexadecimal w.placement.base; value = w.placement.base; is = refl; said = address_again w.placement.base form.fits.base };
    })
    (unsaid (codes "base ") address_of rest none)
  where
    four : (a b c d : List ℕ) → a ++ b ++ c ++ d ≡ (a ++ (b ++ (c ++ []))) ++ d
    four a b c d = simp (append_assoc, append-nil)

-- all four
pub after_base : (text output seed rest : List ℕ) (base : ℕ) (more : List ℕ) → IsAfterSeed text output seed rest → head_of (codes "base ") address_of rest ≡ Some (base, more)
    → (text ≡ head_lines (head_map output seed base) ++ more) × AreHead output seed base
after_base text output seed rest base more so e =
    let from = head_from (codes "base ") address_of rest base more e in
    let number = address_from from.word base from.said in (
      so.text_is
          ∙ ap (λ (l : List ℕ). line first ++ (line (output_text output) ++ (line (seed_text seed) ++ l))) (from.text_is ∙ ap (λ (l : List ℕ). line (codes "base " ++ l) ++ more) number.0)
          ∙ four (line first) (line (output_text output)) (line (seed_text seed)) (line (base_text base)) more,
      record { output_is = so.output_is; count = so.count; seed_is = so.seed_is; base_is = number.1 },
    )
  where
    four : (a b c d e : List ℕ) → a ++ (b ++ (c ++ (d ++ e))) ≡ (a ++ b ++ c ++ d) ++ e
    four a b c d e = simp append_assoc
