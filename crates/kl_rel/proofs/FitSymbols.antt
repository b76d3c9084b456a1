-- The symbols of a file without a flaw are fit to be linked.
use Rattle.std.proofs.Common.{ℕ, zero, suc, ◌≡◌, ◌≢◌, ◌+◌, ◌-◌, ◌<◌, ◌≤◌, ◌⊎◌, inl, inr, Bool, true, false, cond, not, ◌&&◌, ◌||◌, List, [], ◌∷◌, length, get_or, take, map, refl, arith, eqb-true, eq-eqb, ne_eqb}
use Rattle.std.specs.Prelude.{Option, Some, None, ◌==◌, nat_lt, unwrap_or, is_none, All}
use Rattle.std.specs.List.{range_with_len}
use Rattle.std.proofs.lemmas.Bool.{eqb-false, ltb-false, ltb-true, leb-false, lt-leb}
use Rattle.std.proofs.lemmas.List.Elements.{All-cons}
use Rattle.kl_base.specs.declared.class.Range.{Range}
use Rattle.kl_elf.specs.Records.{sym_at}
use Rattle.kl_elf.specs.declared.records.Sym.{Sym}
use Rattle.kl_model.specs.Kept.{no_symbol}
use Rattle.kl_model.specs.Fit.{IsName, IsAlignment, IsFitSymbol, AreFitSymbols}
use Rattle.kl_model.specs.declared.object.Symbol.{Symbol}
use Rattle.kl_rel.specs.Flaws.{first_of}
use Rattle.kl_rel.specs.Headers.{head, string_in, ranges_flaw}
use Rattle.kl_rel.specs.Sections.{no_name, is_alignment, is_too_large, sections_in}
use Rattle.kl_rel.specs.SymbolTables.{symbol_table, symbol_count, symbol_place, strings, symbol_in, symbol_of, symbol_table_checks, symbol_form_checks, symbol_place_checks, symbols_flaw, symbols_in, has_section, is_reserved, is_in_section, is_common, is_undefined, is_local, is_unnamed, is_empty, binding}
use Rattle.kl_rel.specs.declared.fault.Feature.TheVariants.{Binding}
use Rattle.kl_rel.specs.declared.fault.ReadKind.TheVariants.{Unsupported, NameRange, Align, SymbolSection}
use Rattle.kl_le.proofs.Num.{bounds}
use Rattle.kl_elf.specs.declared.records.TheConstants.Sym as sym
use Rattle.kl_rel.proofs.Bytes.{AreBytes}
use Rattle.kl_rel.proofs.Places.{none_in, not_stands, not_false}
use Rattle.kl_rel.proofs.Tables.{strings_lie}
use Rattle.kl_rel.proofs.Symbols.{symbol-at, symbols-length, sections-length, form_passes, place_passes}
use Rattle.kl_rel.proofs.Powers.{power_alignment}
use Rattle.kl_rel.proofs.FitSections.{all_made, empty_name, string_name}
use Rattle.kl_elf.specs.declared.abi.TheConstants.{SHN_COMMON}
use Rattle.kl_base.specs.declared.limits.TheConstants.{SIZE_LIMIT}

-- what the checks of a symbol's place say of it
pub record IsPlaced (count : ℕ) (y : Sym) : Type 0 where
  pub known : has_section count y ≡ true
  pub here : (is_local y && (is_undefined y || is_common y)) ≡ false
  pub align : (is_common y && not (is_alignment y.value)) ≡ false
  pub value : (is_in_section y.shndx && is_too_large y.value) ≡ false
  pub size : (is_common y && is_too_large y.size) ≡ false

pub placed_of : (count place : ℕ) (y : Sym) → first_of (symbol_place_checks count place y) ≡ None → IsPlaced count y
unfolding symbol_place_checks
placed_of count place y e = record {
  known = not_false (has_section count y) (not_stands (not (has_section count y)) SymbolSection (place + 6) (none_in (symbol_place_checks count place y) 1 e));
  here = not_stands (is_local y && (is_undefined y || is_common y)) SymbolSection (place + 6) (none_in (symbol_place_checks count place y) 2 e);
  align = not_stands (is_common y && not (is_alignment y.value)) Align (place + 8) (none_in (symbol_place_checks count place y) 3 e);
  value = not_stands (is_in_section y.shndx && is_too_large y.value) SymbolSection (place + 8) (none_in (symbol_place_checks count place y) 4 e);
  size = not_stands (is_common y && is_too_large y.size) SymbolSection (place + 16) (none_in (symbol_place_checks count place y) 5 e);
}

-- and those of its form
pub record IsFormed (name : Option Range) (y : Sym) : Type 0 where
  pub named : is_none name ≡ false
  pub bound : binding y ≤ 2

pub formed_of : (name : Option Range) (first : Bool) (place : ℕ) (y : Sym) → first_of (symbol_form_checks name first place y) ≡ None → IsFormed name y
unfolding symbol_form_checks
formed_of name first place y e = record {
  named = left (is_none name) (not (is_local y) && is_empty name) (not_stands (is_unnamed name y) NameRange place (none_in (symbol_form_checks name first place y) 0 e));
  bound = ltb-false 2 (binding y) (not_stands (nat_lt 2 (binding y)) (Unsupported Binding) (place + 4) (none_in (symbol_form_checks name first place y) 2 e));
}
  where
    left : (x z : Bool) → (x || z) ≡ false → x ≡ false
    left true z e = cc
    left false z e = refl

second : (x y : Bool) → x ≡ true → (x && y) ≡ false → y ≡ false
second true y ex e = e
second false y ex e = cc

-- its section is absolute, common, undefined or one of the file
places : (count shnum : ℕ) (y : Sym) → count ≡ shnum - 1 → 0 < shnum → has_section shnum y ≡ true → (y.shndx ≡ 0xfff1) ⊎ ((y.shndx ≡ SHN_COMMON) ⊎ ((y.shndx ≤ count) × (y.shndx < 0xff00)))
places count shnum y ec some has = go (is_reserved y.shndx) refl (y.shndx == 0xfff1) refl (is_common y) refl (nat_lt y.shndx shnum) refl has
  where
    go : (r : Bool) → is_reserved y.shndx ≡ r → (a : Bool) → (y.shndx == 0xfff1) ≡ a → (c : Bool) → is_common y ≡ c → (w : Bool) → nat_lt y.shndx shnum ≡ w → cond r (a || c) w ≡ true
        → (y.shndx ≡ 0xfff1) ⊎ ((y.shndx ≡ SHN_COMMON) ⊎ ((y.shndx ≤ count) × (y.shndx < 0xff00)))
    go true er true ea c ecm w ew e = inl (eqb-true y.shndx 0xfff1 ea)
    go true er false ea true ecm w ew e = inr (inl (eqb-true y.shndx SHN_COMMON ecm))
    go true er false ea false ecm w ew e = cc
    go false er a ea c ecm true ew e =
        let low = leb-false 0xff00 y.shndx er in
        let below = ltb-true y.shndx shnum ew in
        inr (inr (omega (arith, below), low))
    go false er a ea c ecm false ew e = cc

-- a symbol of a file without a flaw
pub symbol_is_fit : (b : List ℕ) (count k : ℕ) → AreBytes b → count ≡ (head b).shnum - 1 → 0 < (head b).shnum → ranges_flaw b ≡ None → first_of (symbol_table_checks b) ≡ None → symbols_flaw b ≡ None
    → 1 ≤ k → k < symbol_count b → IsFitSymbol b count (symbol_of b k)
unfolding symbol_in
symbol_is_fit b count k small ec some ranges form e low high = record {
  name = named (string_in b (strings b) y.name) refl formed.named;
  binding = formed.bound;
  kind = omega arith;
  visibility = omega arith;
  section = places count (head b).shnum y ec some placed.known;
  value = λ above below. ltb-false SIZE_LIMIT y.value (second (is_in_section y.shndx) (is_too_large y.value) (in_section above below) placed.value);
  align = λ common. aligned common;
  size = λ common. ltb-false SIZE_LIMIT y.size (second (is_common y) (is_too_large y.size) (eq-eqb y.shndx SHN_COMMON common) placed.size);
  words = (bounds b (symbol_place b k + sym.ST_VALUE) 8 small, bounds b (symbol_place b k + sym.ST_SIZE) 8 small);
}
  where
    y : Sym
    y = sym_at b (symbol_place b k)

    placed : IsPlaced (head b).shnum (sym_at b (symbol_place b k))
    placed = placed_of (head b).shnum (symbol_place b k) (sym_at b (symbol_place b k)) (place_passes b k e low high)

    formed : IsFormed (string_in b (strings b) (sym_at b (symbol_place b k)).name) (sym_at b (symbol_place b k))
    formed = formed_of (string_in b (strings b) (sym_at b (symbol_place b k)).name) (nat_lt k (symbol_table b).info) (symbol_place b k) (sym_at b (symbol_place b k)) (form_passes b k e low high)

    named : (o : Option Range) → string_in b (strings b) (sym_at b (symbol_place b k)).name ≡ o → is_none o ≡ false → IsName b (unwrap_or o no_name)
    named None at none = cc
    named (Some r) at none =
        let several : (symbol_count b == 0) ≡ false = ne_eqb (symbol_count b) 0 (omega arith) in
        string_name b (strings b) (sym_at b (symbol_place b k)).name r at (strings_lie b ranges form several)

    in_section : 0 < (sym_at b (symbol_place b k)).shndx → (sym_at b (symbol_place b k)).shndx < 0xff00 → is_in_section (sym_at b (symbol_place b k)).shndx ≡ true
    in_section above below = rw (ne_eqb (sym_at b (symbol_place b k)).shndx 0 (omega arith), lt-leb 0xff00 (sym_at b (symbol_place b k)).shndx below) refl

    aligned : (sym_at b (symbol_place b k)).shndx ≡ SHN_COMMON → IsAlignment (sym_at b (symbol_place b k)).value
    aligned common = power_alignment (sym_at b (symbol_place b k)).value (not_false (is_alignment (sym_at b (symbol_place b k)).value) (second (is_common (sym_at b (symbol_place b k))) (not (is_alignment (sym_at b (symbol_place b k)).value)) (eq-eqb (sym_at b (symbol_place b k)).shndx SHN_COMMON common) placed.align))

-- symbol 0
null_is_fit : (b : List ℕ) (count : ℕ) → IsFitSymbol b count no_symbol
null_is_fit b count = record {
  name = empty_name b;
  binding = omega arith;
  kind = omega arith;
  visibility = omega arith;
  section = inr (inr (omega arith, omega arith));
  value = λ above below. omega arith;
  align = λ common. inl refl;
  size = λ common. omega arith;
  words = (omega arith, omega arith);
}

pub all_fit : (b : List ℕ) (count : ℕ) → AreBytes b → count ≡ (head b).shnum - 1 → 0 < (head b).shnum → ranges_flaw b ≡ None → first_of (symbol_table_checks b) ≡ None → symbols_flaw b ≡ None
    → All (IsFitSymbol b count) (symbols_in b)
unfolding symbols_in
all_fit b count small ec some ranges form e = go (symbol_count b == 0)
  where
    go : (x : Bool) → All (IsFitSymbol b count) (cond x [] (no_symbol ∷ map (symbol_of b) (range_with_len 1 (symbol_count b - 1))))
    go true = λ k d h. absurd (omega arith)
    go false = All-cons (IsFitSymbol b count) no_symbol (map (symbol_of b) (range_with_len 1 (symbol_count b - 1))) (null_is_fit b count)
        (all_made (IsFitSymbol b count) (symbol_of b) 1 (symbol_count b - 1) (λ i h. symbol_is_fit b count (1 + i) small ec some ranges form e (omega arith) (omega arith)))

-- a LOCAL symbol but number 0 is neither undefined nor common
others : (b : List ℕ) (k : ℕ) (d : Symbol) → symbols_flaw b ≡ None → 1 ≤ k → k < length (symbols_in b) → (get_or (symbols_in b) k d).binding ≡ 0
    → ((get_or (symbols_in b) k d).section ≢ 0) × ((get_or (symbols_in b) k d).section ≢ SHN_COMMON)
unfolding symbol_in
others b k d e low high =
    let short : k < symbol_count b = rw symbols-length at high in
    let placed = placed_of (head b).shnum (symbol_place b k) (sym_at b (symbol_place b k)) (place_passes b k e low short) in
    rw (symbol-at b k d low short) (λ bound.
    let none = second (is_local (sym_at b (symbol_place b k))) (is_undefined (sym_at b (symbol_place b k)) || is_common (sym_at b (symbol_place b k))) (eq-eqb (binding (sym_at b (symbol_place b k))) 0 bound) placed.here in (
      eqb-false (sym_at b (symbol_place b k)).shndx 0 (left (is_undefined (sym_at b (symbol_place b k))) (is_common (sym_at b (symbol_place b k))) none),
      eqb-false (sym_at b (symbol_place b k)).shndx SHN_COMMON (right (is_undefined (sym_at b (symbol_place b k))) (is_common (sym_at b (symbol_place b k))) none),
    ))
  where
    left : (x z : Bool) → (x || z) ≡ false → x ≡ false
    left true z e = cc
    left false z e = refl

    right : (x z : Bool) → (x || z) ≡ false → z ≡ false
    right true z e = cc
    right false z e = e

-- the first symbol, where there is one
first_is_null : (b : List ℕ) → All (λ y. (y.binding ≡ 0) × (y.section ≡ 0)) (take 1 (symbols_in b))
unfolding symbols_in
first_is_null b = go (symbol_count b == 0)
  where
    go : (x : Bool) → All (λ y. (y.binding ≡ 0) × (y.section ≡ 0)) (take 1 (cond x [] (no_symbol ∷ map (symbol_of b) (range_with_len 1 (symbol_count b - 1)))))
    go true k d h = absurd (omega arith)
    go false zero d h = (refl, refl)
    go false (suc k) d h = absurd (omega arith)

pub symbols_are_fit : (b : List ℕ) → AreBytes b → 0 < (head b).shnum → ranges_flaw b ≡ None → first_of (symbol_table_checks b) ≡ None → symbols_flaw b ≡ None
    → AreFitSymbols b (length (sections_in b)) (symbols_in b)
symbols_are_fit b small some ranges form e = record {
  each_symbol = all_fit b (length (sections_in b)) small (sections-length b) some ranges form e;
  first = first_is_null b;
  others = λ k d low high. others b k d e low high;
}
