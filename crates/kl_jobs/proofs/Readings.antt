-- Files that are read one after another.
use Rattle.std.proofs.Common.{◌≡◌, ℕ, suc, ◌+◌, ◌<◌, ◌≤◌, true, false, List, [], ◌∷◌, ◌++◌, length, take, drop, get_or, refl, sym, ap, ◌∙◌, arith, length-append, drop-cons, add-one}
use Rattle.std.specs.Prelude.{Option, Some, None, Bool, cond, flat_map, nat_lt, unwrap_or}
use Rattle.std.specs.Option.{option_map}
use Rattle.std.specs.FinMap.{get}
use Rattle.std.proofs.Math.Seq.{take-suc}
use Rattle.std.proofs.lemmas.List.{flat_map_more}
use Rattle.std.proofs.lemmas.List.Sums.{sum_by-append}
use Rattle.std.proofs.lemmas.Bool.{le-ltb, lt-ltb, ltb-false}
use Rattle.kl_base.specs.declared.limits.TheConstants.{FIELD_COUNT_LIMIT, INPUT_BYTES_LIMIT, INPUT_COUNT_LIMIT, INPUT_LIMIT, SECTION_COUNT_LIMIT, SYMBOL_COUNT_LIMIT}
use Rattle.kl_store.specs.Names.{Names}
use Rattle.kl_model.specs.declared.kit.KitInput.{KitInput}
use Rattle.kl_model.specs.declared.object.Part.{Part}
use Rattle.kl_model.specs.declared.object.Object.{Object}
use Rattle.kl_model.specs.declared.object.Input.{Input}
use Rattle.kl_rel.specs.Objects.{flaw, object}
use Rattle.kl_rel.specs.declared.fault.ReadFault.{ReadFault}
use Rattle.kl_jobs.specs.declared.cause.Cause.{Cause}
use Rattle.kl_jobs.specs.declared.cause.Cause.TheVariants as cause
use Rattle.kl_jobs.specs.declared.cause.ObjectCause.TheVariants.{Elf}
use Rattle.kl_jobs.specs.declared.cause.TotalOf.TheVariants.{Inputs, Bytes, Sections, Symbols, Fields}
use Rattle.kl_jobs.specs.declared.cause.TotalOf.{TotalOf}
use Rattle.kl_jobs.specs.Reading.{Counts, below, bytes_refusal, file_fault, held, input_of, input_refusal, inputs_in, inputs_of, lines_refusal, over, over_totals, total_cause}

drop_here : (all : List KitInput) (i : ℕ) (k : KitInput) → i < length all → k ≡ get_or all i k → drop i all ≡ k ∷ drop (suc i) all
drop_here all i k less here = drop-cons all i k less ∙ ap (λ (j : KitInput). j ∷ drop (suc i) all) (sym here)

-- the elements of one more
flat_map_next : {X A : Type 0} (f : X → List A) (xs : List X) (i : ℕ) (d : X) → i < length xs → flat_map f (take (i + 1) xs) ≡ flat_map f (take i xs) ++ f (get_or xs i d)
flat_map_next f xs i d less = ap (λ n. flat_map f (take n xs)) (add-one i) ∙ ap (flat_map f) (take-suc xs i d less) ∙ sym (flat_map_more f [] (take i xs) (get_or xs i d))

-- a file that is read, and whose inputs are taken, refuses nothing
passed : (m : Names) (dir : List ℕ) (before : List Input) (k : KitInput) (ks : List KitInput) (bytes : List ℕ) → get m (below dir k.file) ≡ Some bytes → length bytes ≤ INPUT_LIMIT
    → bytes_refusal k.line before k.place bytes ≡ None → lines_refusal m dir before (k ∷ ks) ≡ lines_refusal m dir (before ++ inputs_of k.place bytes) ks
passed m dir before k ks bytes e h none = rw (e, le-ltb INPUT_LIMIT (length bytes) h, none) refl

-- the first refusal of the first of some lines is theirs
refused_file : (m : Names) (dir : List ℕ) (before : List Input) (k : KitInput) (ks : List KitInput) (c : Cause) → file_fault m (below dir k.file) INPUT_LIMIT ≡ Some c
    → lines_refusal m dir before (k ∷ ks) ≡ Some c
refused_file m dir before k ks c e = rw e refl

refused_bytes : (m : Names) (dir : List ℕ) (before : List Input) (k : KitInput) (ks : List KitInput) (bytes : List ℕ) (c : Cause) → get m (below dir k.file) ≡ Some bytes
    → length bytes ≤ INPUT_LIMIT → bytes_refusal k.line before k.place bytes ≡ Some c → lines_refusal m dir before (k ∷ ks) ≡ Some c
refused_bytes m dir before k ks bytes c e h some = rw (e, le-ltb INPUT_LIMIT (length bytes) h, some) refl

-- how much inputs have with one more
pub counts_none : Counts [] 0 0 0 0 0
counts_none = record { inputs_are = refl; bytes_are = refl; sections_are = refl; symbols_are = refl; fields_are = refl }

counts_more : (xs : List Input) (x : Input) (i b s y f : ℕ) → Counts xs i b s y f
    → Counts (xs ++ x ∷ []) (i + 1) (b + length x.bytes) (s + length x.object.sections) (y + length x.object.symbols) (f + length x.object.fields)
counts_more xs x i b s y f c = record {
  inputs_are = omega (arith, c.inputs_are, length-append xs (x ∷ []));
  bytes_are = omega (arith, c.bytes_are, sum_by-append (λ x. length x.bytes) xs (x ∷ []));
  sections_are = omega (arith, c.sections_are, sum_by-append (λ x. length x.object.sections) xs (x ∷ []));
  symbols_are = omega (arith, c.symbols_are, sum_by-append (λ x. length x.object.symbols) xs (x ∷ []));
  fields_are = omega (arith, c.fields_are, sum_by-append (λ x. length x.object.fields) xs (x ∷ []));
}

pub counts_over : (xs : List Input) (i b s y f : ℕ) → Counts xs i b s y f → over_totals i b s y f ≡ over xs
unfolding over
counts_over xs i b s y f c = rw (c.inputs_are, c.bytes_are, c.sections_are, c.symbols_are, c.fields_are) refl

step : (t : Bool) (what : TotalOf) (rest : Option TotalOf) → cond t (Some what) rest ≡ None → (t ≡ false) × (rest ≡ None)
step true what rest e = let no : ◌≡◌ {A = Option TotalOf} (Some what) None = e in cc
step false what rest e = (refl, e)

-- no total passes its limit
pub within : (i b s y f : ℕ) → over_totals i b s y f ≡ None
    → (i ≤ INPUT_COUNT_LIMIT) × ((b ≤ INPUT_BYTES_LIMIT) × ((s ≤ SECTION_COUNT_LIMIT) × ((y ≤ SYMBOL_COUNT_LIMIT) × (f ≤ FIELD_COUNT_LIMIT))))
within i b s y f e =
    let one = step (nat_lt INPUT_COUNT_LIMIT i) Inputs _ e in
    let two = step (nat_lt INPUT_BYTES_LIMIT b) Bytes _ one.1 in
    let three = step (nat_lt SECTION_COUNT_LIMIT s) Sections _ two.1 in
    let four = step (nat_lt SYMBOL_COUNT_LIMIT y) Symbols _ three.1 in
    let five = step (nat_lt FIELD_COUNT_LIMIT f) Fields _ four.1 in (
      ltb-false INPUT_COUNT_LIMIT i one.0,
      (ltb-false INPUT_BYTES_LIMIT b two.0, (ltb-false SECTION_COUNT_LIMIT s three.0, (ltb-false SYMBOL_COUNT_LIMIT y four.0, ltb-false FIELD_COUNT_LIMIT f five.0))),
    )

-- so none of inputs that are within the limits does
pub bounds : (xs : List Input) (i b s y f : ℕ) → Counts xs i b s y f → over xs ≡ None
    → (i ≤ INPUT_COUNT_LIMIT) × ((b ≤ INPUT_BYTES_LIMIT) × ((s ≤ SECTION_COUNT_LIMIT) × ((y ≤ SYMBOL_COUNT_LIMIT) × (f ≤ FIELD_COUNT_LIMIT))))
bounds xs i b s y f counts none = within i b s y f (counts_over xs i b s y f counts ∙ none)

-- the first refusal of an input: its flaw, or what it takes the kit past
pub flaw_refused : (line : ℕ) (before : List Input) (place : Part) (b : List ℕ) (f : ReadFault) (n : ℕ) → n ≡ length before → flaw b ≡ Some f
    → input_refusal line before (input_of place b) ≡ Some (cause.Object n line (Elf f))
unfolding input_refusal
flaw_refused line before place b f n is e = rw (e, is) refl

pub limit_refused : (line : ℕ) (before : List Input) (place : Part) (b : List ℕ) (o : Option TotalOf) → flaw b ≡ None → o ≡ over (before ++ input_of place b ∷ [])
    → input_refusal line before (input_of place b) ≡ option_map (total_cause line) o
unfolding input_refusal
limit_refused line before place b o sound is = rw (sound, ← is) refl

-- fields that pass their limit, however far
past : (f : ℕ) → FIELD_COUNT_LIMIT < f → nat_lt FIELD_COUNT_LIMIT f ≡ true
past f h = lt-ltb FIELD_COUNT_LIMIT f h

same_total : (i b s y f g : ℕ) → FIELD_COUNT_LIMIT < f → FIELD_COUNT_LIMIT < g → over_totals i b s y f ≡ over_totals i b s y g
same_total i b s y f g h k = rw (past f h, past g k) refl

some_total : (i b s y f : ℕ) → FIELD_COUNT_LIMIT < f → over_totals i b s y f ≡ Some (unwrap_or (over_totals i b s y f) Fields)
some_total i b s y f h = rw (past f h) (go (nat_lt INPUT_COUNT_LIMIT i) (nat_lt INPUT_BYTES_LIMIT b) (nat_lt SECTION_COUNT_LIMIT s) (nat_lt SYMBOL_COUNT_LIMIT y))
  where
    go : (p q r t : Bool) →
        cond p (Some Inputs) (cond q (Some Bytes) (cond r (Some Sections) (cond t (Some Symbols) (Some Fields))))
        ≡ Some (unwrap_or (cond p (Some Inputs) (cond q (Some Bytes) (cond r (Some Sections) (cond t (Some Symbols) (Some Fields))))) Fields)
    go true q r t = refl
    go false true r t = refl
    go false false true t = refl
    go false false false true = refl
    go false false false false = refl

-- the refusal of an input with more fields than a kit may have
pub many_refused : (line : ℕ) (before : List Input) (place : Part) (b : List ℕ) (i by s y f sections symbols : ℕ) → Counts before i by s y f
    → flaw b ≡ None → FIELD_COUNT_LIMIT < length (object b).fields → sections ≡ length (object b).sections
    → symbols ≡ length (object b).symbols
    → input_refusal line before (input_of place b)
    ≡ Some (total_cause line (unwrap_or (over_totals (i + 1) (by + length b) (s + sections) (y + symbols) (FIELD_COUNT_LIMIT + 1)) Fields))
many_refused line before place b i by s y f sections symbols counts sound many e1 e2 =
    let x = input_of place b in
    let f2 = f + length (object b).fields in
    let all = counts_over (before ++ x ∷ []) (i + 1) (by + length b) (s + length (object b).sections) (y + length (object b).symbols) f2
    (counts_more before x i by s y f counts) in
    let short : over_totals (i + 1) (by + length b) (s + sections) (y + symbols) (FIELD_COUNT_LIMIT + 1)
    ≡ over_totals (i + 1) (by + length b) (s + sections) (y + symbols) f2 =
    same_total (i + 1) (by + length b) (s + sections) (y + symbols) (FIELD_COUNT_LIMIT + 1) f2 (omega arith) (omega (arith, many)) in
    let named : over_totals (i + 1) (by + length b) (s + sections) (y + symbols) f2 ≡ over (before ++ x ∷ []) = rw (e1, e2) all in
    limit_refused line before place b (over (before ++ x ∷ [])) sound refl
    ∙ ap (option_map (total_cause line)) (sym (short ∙ named) ∙ some_total (i + 1) (by + length b) (s + sections) (y + symbols) (FIELD_COUNT_LIMIT + 1) (omega arith))

-- the totals with one input more
pub over_more : (xs : List Input) (place : Part) (b : List ℕ) (x : Object) (i by s y f i2 b2 s2 y2 f2 : ℕ) → Counts xs i by s y f → x ≡ object b
    → i2 ≡ i + 1 → b2 ≡ by + length b → s2 ≡ s + length x.sections → y2 ≡ y + length x.symbols → f2 ≡ f + length x.fields
    → Counts (xs ++ input_of place b ∷ []) i2 b2 s2 y2 f2
over_more xs place b x i by s y f i2 b2 s2 y2 f2 counts is e1 e2 e3 e4 e5 = rw (e1, e2, e3, e4, e5, is) (counts_more xs (input_of place b) i by s y f counts)

module _ (m : Names) (dir : List ℕ) (all : List KitInput) (before : List Input) (i : ℕ) (k : KitInput) (less : i < length all) (here : k ≡ get_or all i k)
    (rest : lines_refusal m dir [] all ≡ lines_refusal m dir before (drop i all)) where
  -- what refuses the next file refuses the whole
  pub file_refuses : (c : Cause) → file_fault m (below dir k.file) INPUT_LIMIT ≡ Some c → lines_refusal m dir [] all ≡ Some c
  file_refuses c fault = rest ∙ ap (lines_refusal m dir before) (drop_here all i k less here) ∙ refused_file m dir before k (drop (suc i) all) c fault

  module _ (bytes : List ℕ) (file : get m (below dir k.file) ≡ Some bytes) (size : length bytes ≤ INPUT_LIMIT) where
    pub bytes_refuse : (c : Cause) → bytes_refusal k.line before k.place bytes ≡ Some c → lines_refusal m dir [] all ≡ Some c
    bytes_refuse c some = rest ∙ ap (lines_refusal m dir before) (drop_here all i k less here) ∙ refused_bytes m dir before k (drop (suc i) all) bytes c file size some

    -- a file that is taken
    pub passed_on : (after : List Input) → bytes_refusal k.line before k.place bytes ≡ None → after ≡ before ++ inputs_of k.place bytes
        → lines_refusal m dir [] all ≡ lines_refusal m dir after (drop (i + 1) all)
    passed_on after none taken =
        rest ∙ ap (lines_refusal m dir before) (drop_here all i k less here) ∙ passed m dir before k (drop (suc i) all) bytes file size none
        ∙ ap (λ (l : List Input). lines_refusal m dir l (drop (suc i) all)) (sym taken) ∙ ap (λ n. lines_refusal m dir after (drop n all)) (sym (add-one i))

    pub read_on : (after : List Input) → after ≡ before ++ inputs_of k.place bytes → before ≡ inputs_in m dir (take i all) → after ≡ inputs_in m dir (take (i + 1) all)
    read_on after taken read =
        let each : KitInput → List Input = λ (k : KitInput). inputs_of k.place (held m (below dir k.file)) in
        let held_is : held m (below dir k.file) ≡ bytes = rw file refl in
        taken ∙ ap (λ (l : List Input). l ++ inputs_of k.place bytes) read ∙ ap (λ (b : List ℕ). inputs_in m dir (take i all) ++ inputs_of k.place b) (sym held_is)
        ∙ ap (λ (j : KitInput). inputs_in m dir (take i all) ++ each j) here ∙ sym (flat_map_next each all i k less)

pub over_none : over [] ≡ None
unfolding over
over_none = refl
