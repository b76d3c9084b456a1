-- A walk over the relocation entries in which no two fields share a byte.
use Rattle.std.proofs.Common.{ℕ, ◌≡◌, ◌≢◌, ◌+◌, ◌<◌, ◌≤◌, ◌^◌, ◌∙◌, List, [], ◌∷◌, ◌++◌, length, take, true, false, get_or, refl, ap, sym, arith}
use Rattle.std.specs.Prelude.{AllPairs, map, Option, Some, None, nat_le, nat_lt, slice_index, slice_index_or}
use Rattle.std.specs.Option.{option_or}
use Rattle.std.specs.List.{range_with_len}
use Rattle.std.proofs.lemmas.Bool.{ltb-false}
use Rattle.std.proofs.lemmas.List.{take-append-le, length-take, get_or-take}
use Rattle.std.proofs.lemmas.List.Elements.{All-push}
use Rattle.std.proofs.lemmas.List.Quantifiers.{all_pairs_push}
use Rattle.kl_model.specs.Fit.{ShareNoByte}
use Rattle.kl_model.specs.Relocations.{width}
use Rattle.kl_model.specs.declared.object.RawField.{RawField}
use Rattle.kl_rel.specs.Flaws.{first_of, flaw_if}
use Rattle.kl_rel.specs.Headers.{section}
use Rattle.kl_rel.specs.SymbolTables.{symbol_count}
use Rattle.kl_rel.specs.Relocations.{entry_checks, entry_flaw_of, entry_place, field_of, fields_before, shares_byte}
use Rattle.kl_rel.specs.FieldScans.{IsScan, plain_flaw_of, ApartUnless, TellsFlaw, plain_checks}
use Rattle.kl_rel.specs.declared.fault.ReadFault.{ReadFault}
use Rattle.kl_rel.specs.declared.fault.ReadError.{ReadError}
use Rattle.kl_rel.specs.declared.fault.ReadError.TheVariants.{Flaw, NoMemory}
use Rattle.kl_rel.specs.declared.fault.ReadKind.TheVariants.{RelaLink, RelaPlace, FieldOverlap}
use Rattle.kl_rel.specs.declared.scan.FieldScan.{FieldScan}
use Rattle.kl_rel.proofs.Places.{none_in, none_at, not_stands}
use Rattle.kl_rel.proofs.Overlaps.{last_free}

-- a flaw of an entry by itself is its first
pub plain_some : (b : List ℕ) (n k : ℕ) (fault : ReadFault) → Some fault ≡ plain_flaw_of b n k → entry_flaw_of b n k ≡ Some fault
unfolding plain_checks entry_checks
plain_some b n k fault e = go (flaw_if (nat_le (symbol_count b) (field_of b n k).symbol) RelaLink (entry_place b n k + 8))
    (flaw_if (nat_lt (section b (section b n).info).size ((field_of b n k).offset + width (field_of b n k).kind)) RelaPlace
    (entry_place b n k))
    (flaw_if (shares_byte (fields_before b n k) (field_of b n k)) FieldOverlap (entry_place b n k)) (sym e)
  where
    go : (x y z : Option ReadFault) → option_or x (option_or y None) ≡ Some fault
        → option_or x (option_or y (option_or z None)) ≡ Some fault
    go (Some x) y z e = e
    go None (Some y) z e = e
    go None None z e = cc

-- that of an entry without one is that it shares a byte
plain_then : (b : List ℕ) (n k : ℕ) → None ≡ plain_flaw_of b n k
    → entry_flaw_of b n k ≡ flaw_if (shares_byte (fields_before b n k) (field_of b n k)) FieldOverlap (entry_place b n k)
unfolding plain_checks entry_checks
plain_then b n k e = go (flaw_if (nat_le (symbol_count b) (field_of b n k).symbol) RelaLink (entry_place b n k + 8))
    (flaw_if (nat_lt (section b (section b n).info).size ((field_of b n k).offset + width (field_of b n k).kind)) RelaPlace
    (entry_place b n k))
    (flaw_if (shares_byte (fields_before b n k) (field_of b n k)) FieldOverlap (entry_place b n k)) (sym e)
  where
    go : (x y z : Option ReadFault) → option_or x (option_or y None) ≡ None → option_or x (option_or y (option_or z None)) ≡ z
    go (Some x) y z e = cc
    go None (Some y) z e = cc
    go None None None e = refl
    go None None (Some z) e = refl

pub plain_free : (b : List ℕ) (n k : ℕ) → None ≡ plain_flaw_of b n k → shares_byte (fields_before b n k) (field_of b n k) ≡ false
    → entry_flaw_of b n k ≡ None
plain_free b n k e free = plain_then b n k e ∙ rw free refl

pub plain_shared : (b : List ℕ) (n k : ℕ) → None ≡ plain_flaw_of b n k → shares_byte (fields_before b n k) (field_of b n k) ≡ true
    → entry_flaw_of b n k ≡ Some (record { kind = FieldOverlap; at = entry_place b n k })
plain_shared b n k e shares = plain_then b n k e ∙ rw shares refl

-- it has none, where no two fields up to it share a byte
pub plain_none : (b : List ℕ) (n k : ℕ) → None ≡ plain_flaw_of b n k
    → AllPairs ShareNoByte (fields_before b n k ++ field_of b n k ∷ []) → entry_flaw_of b n k ≡ None
plain_none b n k e pairs = plain_free b n k e (last_free (fields_before b n k) (field_of b n k) pairs)

-- what is known of a scan is known of its fields, ends and notes
pub scan_same : (s t : FieldScan) → t.fields.items ≡ s.fields.items → t.ends ≡ s.ends → t.noted ≡ s.noted → IsScan s → IsScan t
scan_same s t fields ends noted is = record {
  ends = rw (fields, ends) is.ends;
  far = rw fields is.far;
  sections = rw (fields, noted) is.sections;
  apart = rw (fields, noted) is.apart;
  counts = rw (ends, noted) is.counts;
}

-- one field more, whose section is noted where it begins before the end of its section's fields
pub scan_more : (s t : FieldScan) (f : RawField) → IsScan s → t.fields.items ≡ s.fields.items ++ f ∷ []
    → length t.ends.items ≡ length s.ends.items → length t.noted.items ≡ length s.noted.items
    → ((n : ℕ) → slice_index s.ends.items n ≤ slice_index t.ends.items n)
    → ((n : ℕ) → slice_index_or t.noted.items n true ≡ false → slice_index_or s.noted.items n true ≡ false)
    → f.section < length s.ends.items → f.offset + width f.kind < 2 ^ 63
    → (0 < width f.kind → f.offset + width f.kind ≤ slice_index t.ends.items f.section)
    → (0 < width f.kind → slice_index_or t.noted.items f.section true ≡ false → slice_index s.ends.items f.section ≤ f.offset) → IsScan t
scan_more s t f is fields ends_count noted_count ends noted section far end clear = record {
  ends = rw fields (All-push (λ g. 0 < width g.kind → g.offset + width g.kind ≤ slice_index t.ends.items g.section) s.fields.items f
      (λ k d h wide. let le = is.ends k d h wide in omega (arith, le, ends (get_or s.fields.items k d).section)) end);
  far = rw fields (All-push (λ g. g.offset + width g.kind < 2 ^ 63) s.fields.items f is.far far);
  sections = rw (fields, noted_count)
      (All-push (λ g. g.section < length s.noted.items) s.fields.items f is.sections (omega (arith, section, is.counts)));
  apart =
      rw fields (all_pairs_push (ApartUnless t.noted.items) s.fields.items f
      (λ i j d less short e. is.apart i j d less short (noted (get_or s.fields.items i d).section e))
      (λ k d h. one (get_or s.fields.items k d) (is.ends k d h)));
  counts = rw (ends_count, noted_count) is.counts;
}
  where
    one : (g : RawField) → (0 < width g.kind → g.offset + width g.kind ≤ slice_index s.ends.items g.section) → ApartUnless t.noted.items g f
    one g le e = λ same q first second.
        let wide : 0 < width f.kind = omega (arith, second.0, second.1) in
        let broad : 0 < width g.kind = omega (arith, first.0, first.1) in
        let past = clear wide (rw same at e) in
        let before = rw same at (le broad) in
        absurd (omega (arith, past, before, first.1, second.0))

-- an entry without a flaw by itself lies in its section
pub plain_fits : (symbols size place : ℕ) (f : RawField) → None ≡ first_of (plain_checks symbols size place f)
    → f.offset + width f.kind ≤ size
unfolding plain_checks
plain_fits symbols size place f e =
    ltb-false size (f.offset + width f.kind)
    (not_stands (nat_lt size (f.offset + width f.kind)) RelaPlace place (none_in (plain_checks symbols size place f) 1 (sym e)))

-- what a walk began with is kept
pub kept_more : {X : Type 0} (ys xs : List X) (x : X) → take (length ys) xs ≡ ys → take (length ys) (xs ++ x ∷ []) ≡ ys
kept_more ys xs x e =
    let long = ap length e in
    let short : length ys ≤ length xs = omega (arith, long, length-take (length ys) xs) in
    take-append-le (length ys) xs (x ∷ []) short ∙ e

kept_at : {X : Type 0} (ys xs : List X) (k : ℕ) (d : X) → take (length ys) xs ≡ ys → k < length ys → get_or ys k d ≡ get_or xs k d
kept_at ys xs k d e h = ap (λ zs. get_or zs k d) (sym e) ∙ get_or-take (length ys) xs k d h

pub pairs_kept : {X : Type 0} (R : X → X → Type 0) (ys xs : List X) → take (length ys) xs ≡ ys → AllPairs R xs → AllPairs R ys
pairs_kept R ys xs e pairs = λ i j d less short.
    let long = ap length e in
    let wide : length ys ≤ length xs = omega (arith, long, length-take (length ys) xs) in
    let first : i < length ys = omega (arith, less, short) in
    rw (kept_at ys xs i d e first, kept_at ys xs j d e short) (pairs i j d less (omega (arith, short, wide)))

-- a flaw at a number is one of the pass
pub told_here : (f : ℕ → Option ReadFault) (a n k : ℕ) (fault : ReadFault) → a ≤ k → k < a + n → f k ≡ Some fault
    → first_of (map f (range_with_len a n)) ≢ None
told_here f a n k fault low high is = λ e. (let none = none_at f a n k e low high in cc)

pub told_more : (f : ℕ → Option ReadFault) (a n k : ℕ) (e : ReadError) → a ≤ k → k < a + n → TellsFlaw (f k) e
    → TellsFlaw (first_of (map f (range_with_len a n))) e
told_more f a n k (Flaw fault) low high tells = λ e. tells (none_at f a n k e low high)
told_more f a n k NoMemory low high tells = tt
