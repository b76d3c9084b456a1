-- The pieces of any kit and fit inputs are sound.
use Rattle.std.proofs.Common.{ℕ, suc, ◌≡◌, ◌+◌, ◌^◌, ◌<◌, ◌≤◌, ◌∙◌, List, [], ◌∷◌, ◌++◌, length, get_or, take, drop, refl, arith, Bool, true, false, ◌||◌, cond, inl, inr, max}
use Rattle.std.specs.Prelude.{◌==◌, All, filter, fold}
use Rattle.std.specs.List.{list_any}
use Rattle.std.specs.Str.{bytes_eq}
use Rattle.std.proofs.Math.Nat.{max-eq_left, max-eq_right}
use Rattle.std.proofs.lemmas.Bool.{cases_Bool, cases_lt, eqb-true}
use Rattle.std.proofs.lemmas.List.{length-map}
use Rattle.std.proofs.lemmas.List.Elements.{All-append, All-cons, All-filter, All-head, All-tail}
use Rattle.std.proofs.lemmas.List.Folds.{list_any-append}
use Rattle.kl_base.proofs.Bools.{and_left}
use Rattle.kl_base.specs.declared.class.Class.TheVariants.{Text, Rodata, Rwdata, Bss}
use Rattle.kl_base.specs.declared.limits.TheConstants.{ALIGN_POWER_LIMIT, SIZE_LIMIT}
use Rattle.kl_elf.specs.declared.abi.TheConstants.{SHF_ALLOC, SHF_EXECINSTR, SHF_WRITE, SHN_COMMON, SHT_NOBITS}
use Rattle.kl_model.specs.Lists.{each, each_from}
use Rattle.kl_model.specs.Texts.{has, text_at}
use Rattle.kl_model.specs.Kept.{class_of, input_at, is_kept, no_input, no_section}
use Rattle.kl_model.specs.Names.{Occurrence, common_align, common_names, common_size, commons_of, is_common, occurrences, occurrences_of}
use Rattle.kl_model.specs.Graphs.{common_pieces, graph, section_pieces}
use Rattle.kl_model.specs.Fit.{AreFit, IsAlignment, IsFitAllocated}
use Rattle.kl_model.specs.Sound.{IsSoundPiece}
use Rattle.kl_model.specs.declared.object.Section.{Section}
use Rattle.kl_model.specs.declared.object.Input.{Input}
use Rattle.kl_model.specs.declared.kit.Kit.{Kit}
use Rattle.kl_model.proofs.Each.{each-all, each-split}
use Rattle.kl_sym.proofs.PieceAreas.{area_known}
use Rattle.kl_sym.proofs.KeptPieces.{align_is, all_pieces, own}
use Rattle.kl_sym.proofs.SoundTargets.{IsOccurrence, all_occur}

-- a section of the class bss has no bytes in the file
pub bss_blank : (s : Section) → class_of s ≡ Bss → (s.kind == SHT_NOBITS) ≡ true
bss_blank s e = go (has s.flags SHF_EXECINSTR) (has s.flags SHF_WRITE) (s.kind == SHT_NOBITS) e
  where
    go : (a b d : Bool) → cond a Text (cond b (cond d Bss Rwdata) Rodata) ≡ Bss → d ≡ true
    go true b d e = cc
    go false true true e = refl
    go false true false e = cc
    go false false d e = cc

-- the size of a common and its alignment
max_small : (n limit : ℕ) (os : List Occurrence) → n ≤ limit → All (λ o. o.symbol.size ≤ limit) os → fold (λ n o. max n o.symbol.size) n os ≤ limit
max_small n limit [] low all = low
max_small n limit (o ∷ os) low all =
    max_small (max n o.symbol.size) limit os
    (elim (cases_lt n o.symbol.size) [
      | inl a ↦ let is : max n o.symbol.size ≡ o.symbol.size = max-eq_right (omega arith) in rw is (All-head (λ o. o.symbol.size ≤ limit) o os all)
      | inr a ↦ let is : max n o.symbol.size ≡ n = max-eq_left a in rw is low
    ])
    (All-tail (λ o. o.symbol.size ≤ limit) o os all)

abbrev IsPower : ℕ → Type 0
IsPower n = (k : ℕ) × (k ≤ ALIGN_POWER_LIMIT) × (n ≡ 2 ^ k)

max_power : (n : ℕ) (os : List Occurrence) → IsPower n → All (λ o. IsAlignment o.symbol.value) os → IsPower (fold (λ n o. max n o.symbol.value) n os)
max_power n [] p all = p
max_power n (o ∷ os) p all =
    max_power (max n o.symbol.value) os
    (elim (cases_lt n o.symbol.value) [
      | inl a ↦
          let is : max n o.symbol.value ≡ o.symbol.value = max-eq_right (omega arith) in
          rw is (elim (All-head (λ o. IsAlignment o.symbol.value) o os all) [ inl z ↦ absurd (omega arith) | inr q ↦ q ])
      | inr a ↦ let is : max n o.symbol.value ≡ n = max-eq_left a in rw is p
    ])
    (All-tail (λ o. IsAlignment o.symbol.value) o os all)

filter_all : {X : Type 0} (P : X → Type 0) (p : X → Bool) (xs : List X) → ((x : X) → p x ≡ true → P x → P x) → All P xs → All P (filter p xs)
filter_all P p xs h all = All-filter p P xs all

-- what passes a test and is an occurrence
passing : (inputs : List Input) (Q : Occurrence → Type 0) (p : Occurrence → Bool) (os : List Occurrence) → ((o : Occurrence) → IsOccurrence inputs o → p o ≡ true → Q o)
    → All (IsOccurrence inputs) os → All Q (filter p os)
passing inputs Q p [] h all = λ k d l. absurd (omega arith)
passing inputs Q p (o ∷ os) h all =
    let rest = passing inputs Q p os h (All-tail (IsOccurrence inputs) o os all) in
    elim (cases_Bool (p o)) [
      | inl a ↦ rw a (All-cons Q o (filter p os) (h o (All-head (IsOccurrence inputs) o os all) a) rest)
      | inr a ↦ rw a rest
    ]

-- one item that passes is enough
pub any_each : {X Y : Type 0} (p : Y → Bool) (n : ℕ) (f : ℕ → X → List Y) (xs : List X) (k : ℕ) (d : X) → k < length xs → list_any p (f (n + k) (get_or xs k d)) ≡ true → list_any p (each_from n f xs) ≡ true
any_each p n f xs k d h e =
    let before = each_from n f (take k xs) in
    let rest = each_from (suc (n + k)) f (drop (suc k) xs) in
    rw (each-split n f xs k d h) (list_any-append p before (f (n + k) (get_or xs k d) ++ rest) ∙ or_is (list_any p before) _ (list_any-append p (f (n + k) (get_or xs k d)) rest ∙ rw e refl))
  where
    or_is : (a b : Bool) → b ≡ true → (a || b) ≡ true
    or_is true b e = refl
    or_is false b e = e

pub any_in : {X Y : Type 0} (p : Y → Bool) (f : ℕ → X → List Y) (xs : List X) (k : ℕ) (d : X) → k < length xs → list_any p (f k (get_or xs k d)) ≡ true → list_any p (each xs f) ≡ true
any_in p f xs k d h e = let z : 0 + k ≡ k = omega arith in any_each p 0 f xs k d h (rw z e)

module _ (kit : Kit) (inputs : List Input) (fit : AreFit inputs) where
  pub parts_count : length (graph kit inputs).parts ≡ length inputs
  unfolding graph
  parts_count = length-map inputs (λ (x : Input). x.place)

  -- the piece of a kept section
  module _ (i k : ℕ) (h : i < length inputs) (l : k < length (input_at inputs i).object.sections) (kept : is_kept kit inputs i (suc k) ≡ true) where
    abbrev y : Section
    y = get_or (input_at inputs i).object.sections k no_section

    fit_section : IsFitAllocated (input_at inputs i).bytes y
    fit_section = ((fit.each_input i no_input h).sections k no_section l).allocated (and_left (has y.flags SHF_ALLOC) _ kept)

    section_sound : IsSoundPiece kit (graph kit inputs) (own kit inputs i k h l kept)
    section_sound = record {
      origin = (let n = parts_count in omega arith);
      area = area_known kit (class_of y) (text_at (input_at inputs i).bytes y.name) y.kind;
      size = fit_section.size;
      align = align_is y.align fit_section.align;
      short = short (y.kind == SHT_NOBITS);
      blank = λ e. (let b = bss_blank y e in rw b refl);
    }
      where
        short : (b : Bool) → cond b 0 y.size ≤ y.size
        short true = omega arith
        short false = omega arith

  -- the symbols of a name, and the size of the commons among them
  pub occur : (name : List ℕ) → All (IsOccurrence inputs) (occurrences_of inputs name)
  occur name = All-filter (λ o. bytes_eq o.name name) (IsOccurrence inputs) (occurrences inputs) (all_occur kit inputs fit)

  pub common_small : (name : List ℕ) → common_size inputs name ≤ SIZE_LIMIT
  common_small name = max_small 0 SIZE_LIMIT (commons_of inputs name) (omega arith)
      (passing inputs (λ o. o.symbol.size ≤ SIZE_LIMIT) is_common (occurrences_of inputs name) (λ o is e. is.fits.size (eqb-true o.symbol.section SHN_COMMON e)) (occur name))

  commons_sound : All (IsSoundPiece kit (graph kit inputs)) (common_pieces kit inputs)
  commons_sound =
      each-all (IsSoundPiece kit (graph kit inputs)) 0 _ (common_names kit inputs) (λ k d h. All-cons (IsSoundPiece kit (graph kit inputs)) _ []
      (record {
        origin = (refl, refl);
        area = refl;
        size = common_small (get_or (common_names kit inputs) k d);
        align = power (get_or (common_names kit inputs) k d);
        short = omega arith;
        blank = λ e. refl;
      }) (λ j e m. absurd (omega arith)))
    where
      power : (name : List ℕ) → (k : ℕ) × (k ≤ ALIGN_POWER_LIMIT) × (common_align inputs name ≡ 2 ^ k)
      power name = max_power 1 (commons_of inputs name) (0, omega arith, refl)
          (passing inputs (λ o. IsAlignment o.symbol.value) is_common (occurrences_of inputs name) (λ o is e. is.fits.align (eqb-true o.symbol.section SHN_COMMON e)) (occur name))

  pub pieces_sound : All (IsSoundPiece kit (graph kit inputs)) (graph kit inputs).pieces
  unfolding graph
  pieces_sound = All-append (IsSoundPiece kit (graph kit inputs)) (section_pieces kit inputs) (common_pieces kit inputs)
      (all_pieces kit inputs (IsSoundPiece kit (graph kit inputs)) section_sound) commons_sound
