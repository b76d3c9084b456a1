-- What a record that is not refused is made of.
use Rattle.std.proofs.Common.{◌≡◌, ◌≤◌, ◌<◌, ◌+◌, ◌-◌, ◌⊎◌, inl, inr, ◌||◌, ◌&&◌, ◌==◌, ℕ, suc, Bool, true, false, cond, List, [], ◌∷◌, ◌++◌, length, take, drop, get_or, refl, sym, ap, ◌∙◌, arith, drop-cons, add-one, take-append-drop, length-take, length-drop, eqb}
use Rattle.std.specs.Prelude.{Option, Some, None, Ok}
use Rattle.std.specs.List.{list_all}
use Rattle.std.specs.Option.{option_or}
use Rattle.std.proofs.lemmas.List.Sums.{AllPass-from_list_all}
use Rattle.std.proofs.lemmas.List.{drop-drop, take_all, append-nil}
use Rattle.std.proofs.lemmas.Bool.{eqb-true}
use Rattle.std.proofs.lemmas.Bool.Decides.{eqb_tells}
use Rattle.hex.specs.Hex.{is_hex_digit, decode_of, decode_sized}
use Rattle.hex.proofs.HexLemmas.{decode_of-digits, decode_sized-twice}
use Rattle.kl_digest.specs.declared.record.RecordFault.{RecordFault}
use Rattle.kl_digest.specs.declared.record.RecordFault.TheVariants.{Length, Text, Digit, End}
use Rattle.kl_digest.specs.Records.{record_prefix, text_place, digit_place, is_end, at_text, at_digit, content_fault, record_fault, IsRecord}

some_none : {A : Type 0} {P : Type 0} (x : A) → ◌≡◌ {A = Option A} (Some x) None → P
some_none x e = cc

-- no digit is wrong
none_wrong : (b : Bool) (n : ℕ) (rest : Option ℕ) → cond b rest (Some n) ≡ None → (b ≡ true) × (rest ≡ None)
none_wrong true n rest e = (refl, e)
none_wrong false n rest e = some_none n e

pub all_digits : (ds : List ℕ) (n : ℕ) → digit_place ds n ≡ None → list_all is_hex_digit ds ≡ true
all_digits [] n e = refl
all_digits (d ∷ ds) n e = let split = none_wrong (is_hex_digit d) n (digit_place ds (n + 1)) e in ap (λ v. v && list_all is_hex_digit ds) split.0 ∙ all_digits ds (n + 1) split.1

-- 64 digits have a value
pub digits_value : (ds : List ℕ) → length ds ≡ 64 → digit_place ds 16 ≡ None → (bytes : List ℕ) × (decode_of ds ≡ Ok bytes) × (decode_sized ds 32 ≡ Ok bytes)
digits_value ds count each =
    let value = decode_of-digits ds (omega arith) (AllPass-from_list_all is_hex_digit ds (all_digits ds 16 each)) in
    (value.0, value.1, decode_sized-twice ds 32 (omega arith) ∙ value.1)

-- the step of a walk over the digits
pub digit_step : (ds : List ℕ) (i n b : ℕ) → i < length ds → b ≡ get_or ds i b → digit_place (drop i ds) n ≡ cond (is_hex_digit b) (digit_place (drop (i + 1) ds) (n + 1)) (Some n)
digit_step ds i n b less is = ap (λ (l : List ℕ). digit_place l n) (drop-cons ds i b less ∙ ap (λ (d : ℕ). d ∷ drop (suc i) ds) (sym is)) ∙ ap (λ (k : ℕ). cond (is_hex_digit b) (digit_place (drop k ds) (n + 1)) (Some n)) (sym (add-one i))

-- the step of a walk over the text
pub text_step : (ps bs : List ℕ) (i n : ℕ) → i < length ps → i < length bs → text_place (drop i ps) (drop i bs) n ≡ cond (get_or ps i 0 == get_or bs i 0) (text_place (drop (i + 1) ps) (drop (i + 1) bs) (n + 1)) (Some n)
text_step ps bs i n less lesser =
    ap (λ (l : List ℕ). text_place l (drop i bs) n) (drop-cons ps i 0 less) ∙ ap (λ (l : List ℕ). text_place (get_or ps i 0 ∷ drop (suc i) ps) l n) (drop-cons bs i 0 lesser)
    ∙ ap (λ (k : ℕ). cond (get_or ps i 0 == get_or bs i 0) (text_place (drop k ps) (drop k bs) (n + 1)) (Some n)) (sym (add-one i))

-- bytes whose text isn't wrong begin with it
pub text_whole : (ps bs : List ℕ) (n : ℕ) → text_place ps bs n ≡ None → bs ≡ ps ++ drop (length ps) bs
text_whole [] bs n e = refl
text_whole (p ∷ ps) [] n e = some_none n e
text_whole (p ∷ ps) (b ∷ bs) n e =
    let split = none_wrong (p == b) n (text_place ps bs (n + 1)) e in
    ap (λ (q : ℕ). q ∷ bs) (sym (eqb-true p b split.0)) ∙ ap (λ (l : List ℕ). p ∷ l) (text_whole ps bs (n + 1) split.1)

-- what stands where no fault does
pub record IsClean (bytes : List ℕ) : Type 0 where
  pub size : (length bytes ≡ 80) ⊎ (length bytes ≡ 81)
  pub text : text_place record_prefix bytes 0 ≡ None
  pub digits : digit_place (take 64 (drop 16 bytes)) 16 ≡ None
  pub end : is_end (drop 80 bytes) ≡ true

no_text : (o : Option ℕ) (rest : Option RecordFault) → option_or (at_text o) rest ≡ None → (o ≡ None) × (rest ≡ None)
no_text None rest e = (refl, e)
no_text (Some n) rest e = some_none (Text n) e

no_digit : (o : Option ℕ) (rest : Option RecordFault) → option_or (at_digit o) rest ≡ None → (o ≡ None) × (rest ≡ None)
no_digit None rest e = (refl, e)
no_digit (Some n) rest e = some_none (Digit n) e

no_end : (b : Bool) → ◌≡◌ {A = Option RecordFault} (cond b None (Some End)) None → b ≡ true
no_end true e = refl
no_end false e = some_none End e

sized : (n : ℕ) (rest : Option RecordFault) → cond (n == 80 || n == 81) rest (Some (Length n)) ≡ None → ((n ≡ 80) ⊎ (n ≡ 81)) × (rest ≡ None)
sized n rest e = cases (n == 80) (n == 81) refl refl e
  where
    cases : (a b : Bool) → (n == 80) ≡ a → (n == 81) ≡ b → cond (a || b) rest (Some (Length n)) ≡ None → ((n ≡ 80) ⊎ (n ≡ 81)) × (rest ≡ None)
    cases true b is be h = (inl (eqb-true n 80 is), h)
    cases false true is be h = (inr (eqb-true n 81 be), h)
    cases false false is be h = some_none (Length n) h

pub clean : (bytes : List ℕ) → record_fault bytes ≡ None → IsClean bytes
clean bytes e =
    let one = sized (length bytes) _ e in
    let two = no_text (text_place record_prefix bytes 0) _ one.1 in
    let three = no_digit (digit_place (take 64 (drop 16 bytes)) 16) _ two.1 in
    record { size = one.0; text = two.0; digits = three.0; end = no_end (is_end (drop 80 bytes)) three.1 }

tail_of : (rest : List ℕ) → (length rest ≡ 0) ⊎ (length rest ≡ 1) → is_end rest ≡ true → (rest ≡ []) ⊎ (rest ≡ 10 ∷ [])
tail_of [] size end = inl refl
tail_of (b ∷ []) size end = inr (ap (λ (c : ℕ). c ∷ []) (eqb-true b 10 end))
tail_of (b ∷ c ∷ rest) (inl size) end = absurd (omega (arith, size))
tail_of (b ∷ c ∷ rest) (inr size) end = absurd (omega (arith, size))

pub rest_size : (bytes : List ℕ) → (length bytes ≡ 80) ⊎ (length bytes ≡ 81) → (length (drop 80 bytes) ≡ 0) ⊎ (length (drop 80 bytes) ≡ 1)
rest_size bytes (inl size) = inl (omega (arith, size, length-drop 80 bytes))
rest_size bytes (inr size) = inr (omega (arith, size, length-drop 80 bytes))

pub long_enough : (bytes : List ℕ) → (length bytes ≡ 80) ⊎ (length bytes ≡ 81) → 80 ≤ length bytes
long_enough bytes (inl size) = omega (arith, size)
long_enough bytes (inr size) = omega (arith, size)

pub digits_size : (bytes : List ℕ) → IsClean bytes → length (take 64 (drop 16 bytes)) ≡ 64
digits_size bytes is = let long = long_enough bytes is.size in omega (arith, long, length-take 64 (drop 16 bytes), length-drop 16 bytes)

pub parts : (bytes : List ℕ) → text_place record_prefix bytes 0 ≡ None → bytes ≡ record_prefix ++ take 64 (drop 16 bytes) ++ drop 80 bytes
parts bytes text = text_whole record_prefix bytes 0 text ∙ ap (λ (l : List ℕ). record_prefix ++ l) (sym (take-append-drop 64 (drop 16 bytes)) ∙ ap (λ (l : List ℕ). take 64 (drop 16 bytes) ++ l) (drop-drop 64 16 bytes))

pub is_record : (bytes digest : List ℕ) → record_fault bytes ≡ None → decode_of (take 64 (drop 16 bytes)) ≡ Ok digest → IsRecord digest bytes
is_record bytes digest none value =
    let is = clean bytes none in
    record {
      digits = take 64 (drop 16 bytes);
      count = digits_size bytes is;
      value = value;
      text = ends (tail_of (drop 80 bytes) (rest_size bytes is.size) is.end) (parts bytes is.text);
    }
  where
    ends : (drop 80 bytes ≡ []) ⊎ (drop 80 bytes ≡ 10 ∷ []) → bytes ≡ record_prefix ++ take 64 (drop 16 bytes) ++ drop 80 bytes
        → (bytes ≡ record_prefix ++ take 64 (drop 16 bytes)) ⊎ (bytes ≡ record_prefix ++ take 64 (drop 16 bytes) ++ 10 ∷ [])
    ends (inl gone) all = inl (all ∙ ap (λ (l : List ℕ). record_prefix ++ take 64 (drop 16 bytes) ++ l) gone ∙ ap (λ (l : List ℕ). record_prefix ++ l) (append-nil _))
    ends (inr newline) all = inr (all ∙ ap (λ (l : List ℕ). record_prefix ++ take 64 (drop 16 bytes) ++ l) newline)

-- so many bytes are enough
pub enough : (n : ℕ) → (n == 80 || n == 81) ≡ true → 80 ≤ n
enough n e = cases (n == 80) (n == 81) refl refl e
  where
    cases : (a b : Bool) → (n == 80) ≡ a → (n == 81) ≡ b → (a || b) ≡ true → 80 ≤ n
    cases true b is be h = omega (arith, eqb-true n 80 is)
    cases false true is be h = omega (arith, eqb-true n 81 be)
    cases false false is be h = cc

-- two numbers that differ
pub apart : (a b : ℕ) → (a ≡ b → ⊥) → (a == b) ≡ false
apart a b differ = cases (eqb_tells a b)
  where
    cases : ((eqb a b ≡ true) × (a ≡ b)) ⊎ ((eqb a b ≡ false) × (a ≡ b → ⊥)) → (a == b) ≡ false
    cases (inl same) = absurd (differ same.1)
    cases (inr other) = other.0

pub alike : (a b : ℕ) → a ≡ b → (a == b) ≡ true
alike a b same = cases (eqb_tells a b)
  where
    cases : ((eqb a b ≡ true) × (a ≡ b)) ⊎ ((eqb a b ≡ false) × (a ≡ b → ⊥)) → (a == b) ≡ true
    cases (inl one) = one.0
    cases (inr other) = absurd (other.1 same)

-- the content of bytes whose text and digits aren't wrong
pub content_is : (bytes rest : List ℕ) (b : Bool) → None ≡ text_place record_prefix bytes 0 → None ≡ digit_place (take 64 (drop 16 bytes)) 16 → is_end rest ≡ b → rest ≡ drop 80 bytes → content_fault bytes ≡ cond b None (Some End)
content_is bytes rest b text digit end same =
    ap (λ o. option_or (at_text o) (option_or (at_digit (digit_place (take 64 (drop 16 bytes)) 16)) (cond (is_end (drop 80 bytes)) None (Some End)))) (sym text)
    ∙ ap (λ o. option_or (at_digit o) (cond (is_end (drop 80 bytes)) None (Some End))) (sym digit)
    ∙ ap (λ v. cond v None (Some End)) (ap is_end (sym same) ∙ end)

pub tail_is : (bytes : List ℕ) → take (length bytes - 80) (drop 80 bytes) ≡ drop 80 bytes
tail_is bytes = take_all (length bytes - 80) (drop 80 bytes) (omega (arith, length-drop 80 bytes))
