-- What stands before the fault that the reader tells is right.
use Rattle.std.proofs.Common.{◌≡◌, ◌≢◌, ◌≤◌, ◌+◌, ◌⊎◌, inl, inr, ⊎_elim, ◌&&◌, ◌||◌, ◌==◌, ℕ, Bool, true, false, cond, List, [], ◌∷◌, ◌++◌, length, take, drop, refl, sym, ap, ◌∙◌, subst, arith, append_assoc, length-append, length-take, length-drop}
use Rattle.std.specs.Prelude.{Option, Some, None}
use Rattle.std.specs.List.{list_all}
use Rattle.std.specs.Option.{option_or}
use Rattle.std.proofs.lemmas.Bool.{eqb-true}
use Rattle.hex.specs.Hex.{is_hex_digit}
use Rattle.kl_base.proofs.Bools.{true_false}
use Rattle.kl_digest.specs.declared.record.RecordFault.{RecordFault}
use Rattle.kl_digest.specs.declared.record.RecordFault.TheVariants.{Length, Text, Digit, End}
use Rattle.kl_digest.specs.Records.{record_prefix, text_place, digit_place, is_end, at_text, at_digit, content_fault, record_fault}
use Rattle.kl_digest.specs.RecordFaults.{IsTextFault, IsDigitFault, IsEndFault, HasSize, IsFirstFault}
use Rattle.kl_digest.proofs.Digits.{all_digits, alike, parts, rest_size, long_enough}

same_place : {A : Type 0} (x y : A) → ◌≡◌ {A = Option A} (Some x) (Some y) → x ≡ y
same_place x y e = cc

none_some : {A P : Type 0} (x : A) → ◌≡◌ {A = Option A} None (Some x) → P
none_some x e = cc

-- two lists up to where they differ first
record DifferAt (ps bs : List ℕ) (n place : ℕ) : Type 0 where
  pub before : List ℕ
  pub byte : ℕ
  pub behind : List ℕ
  pub wanted : ℕ
  pub more : List ℕ
  pub text : bs ≡ before ++ byte ∷ behind
  pub prefix : ps ≡ before ++ wanted ∷ more
  pub differs : byte ≢ wanted
  pub count : place ≡ n + length before

differ_at : (ps bs : List ℕ) (n place : ℕ) → length ps ≤ length bs → text_place ps bs n ≡ Some place → DifferAt ps bs n place
differ_at [] bs n place long e = none_some place e
differ_at (p ∷ ps) [] n place long e = absurd (omega (arith, long))
differ_at (p ∷ ps) (b ∷ bs) n place long e = go (p == b) refl (differ_at ps bs (n + 1) place (omega (arith, long)))
  where
    go : (t : Bool) → (p == b) ≡ t → (text_place ps bs (n + 1) ≡ Some place → DifferAt ps bs (n + 1) place) → DifferAt (p ∷ ps) (b ∷ bs) n place
    go true is more =
        let rest = more (sym (ap (λ v. cond v (text_place ps bs (n + 1)) (Some n)) is) ∙ e) in
        record {
          before = p ∷ rest.before;
          byte = rest.byte;
          behind = rest.behind;
          wanted = rest.wanted;
          more = rest.more;
          text = ap (λ (c : ℕ). c ∷ bs) (sym (eqb-true p b is)) ∙ ap (λ (l : List ℕ). p ∷ l) rest.text;
          prefix = ap (λ (l : List ℕ). p ∷ l) rest.prefix;
          differs = rest.differs;
          count = omega (arith, rest.count);
        }
    go false is more = record {
      before = [];
      byte = b;
      behind = bs;
      wanted = p;
      more = ps;
      text = refl;
      prefix = refl;
      differs = λ same. true_false (sym (alike p b (sym same)) ∙ is);
      count = omega (arith, same_place n place (sym (ap (λ v. cond v (text_place ps bs (n + 1)) (Some n)) is) ∙ e));
    }

-- digits up to the first byte that is none
record WrongAt (ds : List ℕ) (n place : ℕ) : Type 0 where
  pub digits : List ℕ
  pub byte : ℕ
  pub behind : List ℕ
  pub text : ds ≡ digits ++ byte ∷ behind
  pub each : list_all is_hex_digit digits ≡ true
  pub wrong : is_hex_digit byte ≡ false
  pub count : place ≡ n + length digits

wrong_at : (ds : List ℕ) (n place : ℕ) → digit_place ds n ≡ Some place → WrongAt ds n place
wrong_at [] n place e = none_some place e
wrong_at (d ∷ ds) n place e = go (is_hex_digit d) refl (wrong_at ds (n + 1) place)
  where
    go : (t : Bool) → is_hex_digit d ≡ t → (digit_place ds (n + 1) ≡ Some place → WrongAt ds (n + 1) place) → WrongAt (d ∷ ds) n place
    go true is more =
        let rest = more (sym (ap (λ v. cond v (digit_place ds (n + 1)) (Some n)) is) ∙ e) in
        record {
          digits = d ∷ rest.digits;
          byte = rest.byte;
          behind = rest.behind;
          text = ap (λ (l : List ℕ). d ∷ l) rest.text;
          each = ap (λ v. v && list_all is_hex_digit rest.digits) is ∙ rest.each;
          wrong = rest.wrong;
          count = omega (arith, rest.count);
        }
    go false is more = record {
      digits = [];
      byte = d;
      behind = ds;
      text = refl;
      each = refl;
      wrong = is;
      count = omega (arith, same_place n place (sym (ap (λ v. cond v (digit_place ds (n + 1)) (Some n)) is) ∙ e));
    }

text_fault : (bytes : List ℕ) (place : ℕ) → HasSize bytes → text_place record_prefix bytes 0 ≡ Some place → IsTextFault bytes place
text_fault bytes place size e =
    let at = differ_at record_prefix bytes 0 place (omega (arith, long_enough bytes size)) e in
    record { before = at.before; byte = at.byte; behind = at.behind; wanted = at.wanted; more = at.more; text = at.text; prefix = at.prefix; differs = at.differs; count = omega (arith, at.count) }

digit_fault : (bytes : List ℕ) (place : ℕ) → text_place record_prefix bytes 0 ≡ None → digit_place (take 64 (drop 16 bytes)) 16 ≡ Some place → IsDigitFault bytes place
digit_fault bytes place text e =
    let ds = take 64 (drop 16 bytes) in
    let at = wrong_at ds 16 place e in
    record {
      digits = at.digits;
      byte = at.byte;
      behind = at.behind ++ drop 80 bytes;
      text = parts bytes text ∙ ap (λ (l : List ℕ). record_prefix ++ l) (ap (λ (l : List ℕ). l ++ drop 80 bytes) at.text ∙ append_assoc at.digits (at.byte ∷ at.behind) (drop 80 bytes));
      each = at.each;
      wrong = at.wrong;
      few = omega (arith, ap length at.text, length-append at.digits (at.byte ∷ at.behind), length-take 64 (drop 16 bytes));
      count = at.count;
    }

end_fault : (bytes : List ℕ) → HasSize bytes → text_place record_prefix bytes 0 ≡ None → digit_place (take 64 (drop 16 bytes)) 16 ≡ None → is_end (drop 80 bytes) ≡ false → IsEndFault bytes
end_fault bytes size text digits wrong = ends (drop 80 bytes) refl (rest_size bytes size) wrong
  where
    count : length (take 64 (drop 16 bytes)) ≡ 64
    count = let long = long_enough bytes size in omega (arith, long, length-take 64 (drop 16 bytes), length-drop 16 bytes)

    ends : (rest : List ℕ) → drop 80 bytes ≡ rest → (length (drop 80 bytes) ≡ 0) ⊎ (length (drop 80 bytes) ≡ 1) → is_end (drop 80 bytes) ≡ false → IsEndFault bytes
    ends [] is few e = true_false (sym (ap is_end is) ∙ e)
    ends (b ∷ []) is few e = record {
      digits = take 64 (drop 16 bytes);
      byte = b;
      text = parts bytes text ∙ ap (λ (l : List ℕ). record_prefix ++ take 64 (drop 16 bytes) ++ l) is;
      each = all_digits (take 64 (drop 16 bytes)) 16 digits;
      count = count;
      wrong = λ same. true_false (sym (alike b 10 same) ∙ sym (ap is_end is) ∙ e);
    }
    ends (b ∷ c ∷ rest) is few e = absurd (⊎_elim (λ none. omega (arith, none, ap length is)) (λ one. omega (arith, one, ap length is)) few)

-- the fault of bytes that have the size of a record
content : (bytes : List ℕ) (f : RecordFault) → HasSize bytes → content_fault bytes ≡ Some f → IsFirstFault bytes f
content bytes f size e = text_or (text_place record_prefix bytes 0) refl e
  where
    end_or : (b : Bool) → is_end (drop 80 bytes) ≡ b → text_place record_prefix bytes 0 ≡ None → digit_place (take 64 (drop 16 bytes)) 16 ≡ None → cond b None (Some End) ≡ Some f → IsFirstFault bytes f
    end_or true is text digits h = none_some f h
    end_or false is text digits h = subst (IsFirstFault bytes) (same_place End f h) (end_fault bytes size text digits is)

    digit_or : (o : Option ℕ) → digit_place (take 64 (drop 16 bytes)) 16 ≡ o → text_place record_prefix bytes 0 ≡ None → option_or (at_digit o) (cond (is_end (drop 80 bytes)) None (Some End)) ≡ Some f → IsFirstFault bytes f
    digit_or None is text h = end_or (is_end (drop 80 bytes)) refl text is h
    digit_or (Some place) is text h = subst (IsFirstFault bytes) (same_place (Digit place) f h) (size, digit_fault bytes place text is)

    text_or : (o : Option ℕ) → text_place record_prefix bytes 0 ≡ o → option_or (at_text o) (option_or (at_digit (digit_place (take 64 (drop 16 bytes)) 16)) (cond (is_end (drop 80 bytes)) None (Some End))) ≡ Some f → IsFirstFault bytes f
    text_or None is h = digit_or (digit_place (take 64 (drop 16 bytes)) 16) refl is h
    text_or (Some place) is h = subst (IsFirstFault bytes) (same_place (Text place) f h) (size, text_fault bytes place size is)

pub first_fault : (bytes : List ℕ) (f : RecordFault) → record_fault bytes ≡ Some f → IsFirstFault bytes f
first_fault bytes f e = sized (length bytes == 80) (length bytes == 81) refl refl e
  where
    sized : (a b : Bool) → (length bytes == 80) ≡ a → (length bytes == 81) ≡ b → cond (a || b) (content_fault bytes) (Some (Length (length bytes))) ≡ Some f → IsFirstFault bytes f
    sized true b is be h = content bytes f (inl (eqb-true (length bytes) 80 is)) h
    sized false true is be h = content bytes f (inr (eqb-true (length bytes) 81 be)) h
    sized false false is be h =
        subst (IsFirstFault bytes) (same_place (Length (length bytes)) f h)
        (refl, (λ same. true_false (sym (alike (length bytes) 80 same) ∙ is)), (λ same. true_false (sym (alike (length bytes) 81 same) ∙ be)))
