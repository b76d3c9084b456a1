-- No fault stands in a made kit.
use Rattle.std.proofs.Common.{ℕ, suc, ◌≡◌, ◌+◌, ◌-◌, ◌<◌, ◌≤◌, ◌∙◌, List, [], ◌∷◌, length, get_or, map, refl, ap, arith, false, cond}
use Rattle.std.specs.Prelude.{◌==◌, All, AllPairs, decimal, filter}
use Rattle.std.specs.Str.{bytes_eq}
use Rattle.std.proofs.lemmas.Fmt.{decimal_injective}
use Rattle.std.proofs.lemmas.List.{get_or-map, get_or_default, length-map}
use Rattle.std.proofs.lemmas.List.FromFn.{length-map-range_with_len}
use Rattle.kl_base.proofs.Bools.{alone, other_bytes}
use Rattle.kl_model.specs.Dynamic.{is_kept_field}
use Rattle.kl_model.specs.Faults.{all_field_faults, clashes, doubled, field_faults, input_faults, is_global_definition, no_entry, resolve_faults}
use Rattle.kl_model.specs.Fit.{IsKit}
use Rattle.kl_model.specs.Kept.{input_at, no_input, part_number}
use Rattle.kl_model.specs.Lists.{each, only_if}
use Rattle.kl_model.specs.Names.{Occurrence, occurrences}
use Rattle.kl_model.specs.Orders.{drawn_count}
use Rattle.kl_model.specs.declared.kit.Kit.{Kit}
use Rattle.kl_model.specs.declared.object.Input.{Input}
use Rattle.kl_model.specs.declared.object.Part.{Part}
use Rattle.kl_model.specs.declared.object.Part.TheVariants.{Head, Drawn}
use Rattle.kl_model.specs.declared.object.RawField.{RawField}
use Rattle.kl_model.proofs.Each.{each-none, each-pairs, filter-each}
use Rattle.kl_model.proofs.Kernels.{kernel_faults}
use Rattle.kl_model.proofs.StandOnce.{none_doubled}
use Rattle.kl_names.specs.Walked.{occurring_in}
use Rattle.kl_generate.specs.Made.{AreMade, made_call, made_kit, made_line, made_name, made_word}
use Rattle.kl_generate.proofs.ListsMade.{length-each-is}
use Rattle.kl_generate.proofs.MadeInputs.{data_kept, defined, defined_one, m, own_at, text_kept}
use Rattle.kl_generate.proofs.MadeGraphs.{call_leads, word_leads}

-- two names are one only where their numbers are
names_differ : (i j : ℕ) → i < j → j < 4096 → bytes_eq (made_name i) (made_name j) ≡ false
names_differ i j less few = other_bytes (made_name i) (made_name j) (λ same.
    let numbers : decimal i ≡ decimal j = tail same in
    let one = decimal_injective i j (omega arith) (omega arith) numbers in
    absurd (omega arith))
  where
    tail : {a b : List ℕ} → 102 ∷ a ≡ 102 ∷ b → a ≡ b
    tail e = cc

-- an object's two entries give nothing
two-none : {X Y : Type 0} (f : ℕ → X → List Y) (a b : X) → f 0 a ≡ [] → f 1 b ≡ [] → each (a ∷ b ∷ []) f ≡ []
two-none f a b p q = rw (p, q) refl

abbrev Apart : Occurrence → Occurrence → Type 0
Apart x y = bytes_eq x.name y.name ≡ false

-- object 0 is the head, and the others are drawn
pub drawn : (n : ℕ) (inputs : List Input) → 1 ≤ n → AreMade n inputs → drawn_count (map (λ x. x.place) inputs) ≡ n - 1
drawn n [] some made = absurd (let count = made.count in omega arith)
drawn n (y ∷ ys) some made =
    let head : y.place ≡ Head = (made.each_input 0 some).place in
    let rest = length-each-is 1 1 one (map (λ (x : Input). x.place) ys) (λ k d h. one_each k d h) in
    let long = length-map ys (λ (x : Input). x.place) in
    let count = made.count in
    rw head (omega arith)
  where
    one : ℕ → Part → List ℕ
    one i x = only_if (part_number x == part_number Drawn) i

    one_each : (k : ℕ) (d : Part) → k < length (map (λ (x : Input). x.place) ys) → length (one (1 + k) (get_or (map (λ (x : Input). x.place) ys) k d)) ≡ 1
    one_each k d h =
        let long = length-map ys (λ (x : Input). x.place) in
        let count = made.count in
        let low : k < length ys = omega arith in
        let at : get_or (map (λ (x : Input). x.place) ys) k d ≡ (get_or ys k no_input).place = get_or-map (λ (x : Input). x.place) ys k no_input d low in
        let place : (get_or ys k no_input).place ≡ Drawn = (made.each_input (suc k) (omega arith)).place in
        rw (at, place) refl

pub is_kit : (n : ℕ) → n ≤ 4096 → IsKit (made_kit n)
is_kit n few = record {
  inputs = (let many = length-map-range_with_len made_line 0 n in omega arith);
  runs = omega arith;
  edges = omega arith;
  drops = omega arith;
  needed = omega arith;
  exports = omega arith;
  runs_ascend = λ i j d low high. absurd (omega (arith, low, high));
  edges_ascend = λ i j d low high. absurd (omega (arith, low, high));
  areas = λ i d low. absurd (omega (arith, low));
  kernel = λ is. record { kernel = refl; entry = refl; base_page = (0xffffffff81000, refl); base_limit = omega arith };
  library = λ is. cc;
}

module _ (n : ℕ) (inputs : List Input) (made : AreMade n inputs) (some : 1 ≤ n) (few : n ≤ 4096) where
  abbrev kit : Kit
  kit = made_kit n

  below : (i : ℕ) → i < length inputs → i < n
  below i h = let count = made.count in omega arith

  -- EACH NAME IS DEFINED ONCE
  defined_in : (i : ℕ) (d : Input) (h : i < length inputs) → filter (is_global_definition kit inputs) (occurring_in (0 + i) (get_or inputs i d)) ≡ own_at n inputs made i (below i h) ∷ []
  defined_in i d h =
      let same : get_or inputs i d ≡ input_at inputs i = get_or_default inputs i d no_input h in
      let z : 0 + i ≡ i = omega arith in
      rw (same, z) (defined_one n inputs made i (below i h))

  own-apart : (i j : ℕ) (h : i < n) (l : j < n) → i < j → Apart (own_at n inputs made i h) (own_at n inputs made j l)
  own-apart i j h l less = rw ((m n inputs made i h).is_own.named, (m n inputs made j l).is_own.named) (names_differ i j less (omega arith))

  apart : AllPairs Apart (filter (is_global_definition kit inputs) (occurrences inputs))
  apart =
      let p = is_global_definition kit inputs in
      rw (filter-each p 0 occurring_in inputs)
      (each-pairs Apart 0 (λ i x. filter p (occurring_in i x)) inputs
      (λ i d h. rw (defined_in i d h) (λ a b e low high. absurd (omega (arith, low, high))))
      (λ i j d less l.
      let h : i < length inputs = omega arith in
      let x = own_at n inputs made i (below i h) in
      let y = own_at n inputs made j (below j l) in
      rw (defined_in i d h, defined_in j d l)
      (alone (λ x. All (Apart x) (y ∷ [])) x (alone (Apart x) y (own-apart i j (below i h) (below j l) less)))))

  none_doubled_here : doubled kit inputs ≡ []
  none_doubled_here = (none_doubled kit inputs).1 apart

  no_clash : clashes kit inputs ≡ []
  no_clash = refl

  entry_there : no_entry kit inputs ≡ []
  entry_there = let place = defined n inputs made 0 some in rw place.1 refl

  -- EACH FIELD LEADS TO A TEXT
  call_sound : (i : ℕ) (h : i < n) → field_faults kit inputs i made_call ≡ []
  call_sound i h = let place = call_leads n inputs made i h in kernel_faults kit refl inputs i made_call ∙ rw place.1 refl

  word_sound : (i : ℕ) (h : i < n) → field_faults kit inputs i made_word ≡ []
  word_sound i h = let place = word_leads n inputs made i h in kernel_faults kit refl inputs i made_word ∙ rw place.1 refl

  input_sound : (i : ℕ) (h : i < n) → input_faults kit inputs i (input_at inputs i) ≡ []
  input_sound i h =
      let f = λ (k : ℕ) (f : RawField). cond (is_kept_field kit inputs i f) (field_faults kit inputs i f) [] in
      let call : f 0 made_call ≡ [] = rw (text_kept n inputs made i h) (call_sound i h) in
      let word : f 1 made_word ≡ [] = rw (data_kept n inputs made i h) (word_sound i h) in
      ap (λ fs. each fs f) (m n inputs made i h).fields ∙ two-none f made_call made_word call word

  fields_sound : all_field_faults kit inputs ≡ []
  fields_sound =
      each-none 0 (input_faults kit inputs) inputs (λ i d h.
      let same : get_or inputs i d ≡ input_at inputs i = get_or_default inputs i d no_input h in
      let z : 0 + i ≡ i = omega arith in
      rw (same, z) (input_sound i (below i h)))

  pub none_stands : resolve_faults kit inputs ≡ []
  unfolding resolve_faults
  none_stands = rw (none_doubled_here, no_clash, entry_there, fields_sound) refl
