-- What stands at a place of the lists of an object, and what is known of a symbol.
use Rattle.std.proofs.Common.{ℕ, zero, suc, ◌≡◌, ◌+◌, ◌-◌, ◌<◌, ◌≤◌, Bool, true, false, cond, not, ◌&&◌, ◌||◌, List, [], ◌∷◌, length, get_or, refl, ap, sym, arith, eqb-true, ne_eqb}
use Rattle.std.specs.Prelude.{map, None, ◌==◌, nat_lt, IsTrue}
use Rattle.std.specs.List.{range_with_len}
use Rattle.std.proofs.lemmas.Bool.{ltb-true, eqb-false}
use Rattle.kl_elf.specs.Records.{sym_at}
use Rattle.kl_elf.specs.declared.records.Sym.{Sym}
use Rattle.kl_model.specs.Kept.{no_symbol}
use Rattle.kl_model.specs.declared.object.Symbol.{Symbol}
use Rattle.kl_rel.specs.Flaws.{first_of}
use Rattle.kl_rel.specs.Headers.{head, string_in}
use Rattle.kl_rel.specs.Sections.{section_of, sections_in}
use Rattle.kl_rel.specs.SymbolTables.{symbol_table, symbol_count, symbol_place, strings, symbol_in, symbol_of, symbol_checks, symbol_form_checks, symbol_place_checks, symbol_flaw_of, symbols_flaw, symbols_in, has_section, is_reserved, is_in_section, is_common}
use Rattle.kl_rel.specs.declared.fault.ReadKind.TheVariants.{SymbolSection}
use Rattle.kl_rel.proofs.Places.{none_in, none_at, not_stands, not_false}

-- an item of a list that is made number by number, and its length
pub made-at : {X : Type 0} (f : ℕ → X) (a n i : ℕ) (d : X) → i < n → get_or (map f (range_with_len a n)) i d ≡ f (a + i)
made-at f a zero i d h = absurd (omega arith)
made-at f a (suc n) zero d h = let e : a + zero ≡ a = omega arith in rw e refl
made-at f a (suc n) (suc i) d h = let e : a + suc i ≡ (a + 1) + i = omega arith in rw e (made-at f (a + 1) n i d (omega arith))

pub made-length : {X : Type 0} (f : ℕ → X) (a n : ℕ) → length (map f (range_with_len a n)) ≡ n
made-length f a zero = refl
made-length f a (suc n) = ap suc (made-length f (a + 1) n)

pub sections-length : (b : List ℕ) → length (sections_in b) ≡ (head b).shnum - 1
unfolding sections_in
sections-length b = made-length (section_of b) 1 ((head b).shnum - 1)

pub symbols-length : (b : List ℕ) → length (symbols_in b) ≡ symbol_count b
unfolding symbols_in
symbols-length b = go (symbol_count b == 0) refl
  where
    go : (x : Bool) → (symbol_count b == 0) ≡ x → length (cond x [] (no_symbol ∷ map (symbol_of b) (range_with_len 1 (symbol_count b - 1)))) ≡ symbol_count b
    go true e = sym (eqb-true (symbol_count b) 0 e)
    go false e =
        let apart = eqb-false (symbol_count b) 0 e in
        let long = made-length (symbol_of b) 1 (symbol_count b - 1) in
        rw long (omega (arith, apart))

pub symbol-at : (b : List ℕ) (k : ℕ) (d : Symbol) → 1 ≤ k → k < symbol_count b → get_or (symbols_in b) k d ≡ symbol_of b k
unfolding symbols_in
symbol-at b k d low high =
    let some : (symbol_count b == 0) ≡ false = ne_eqb (symbol_count b) 0 (omega arith) in
    let e : k ≡ suc (k - 1) = omega arith in
    let at = made-at (symbol_of b) 1 (symbol_count b - 1) (k - 1) d (omega arith) in
    let f : 1 + (k - 1) ≡ k = omega arith in
    rw some (tail k (k - 1) e (rw f at at))
  where
    tail : (j i : ℕ) → j ≡ suc i → get_or (map (symbol_of b) (range_with_len 1 (symbol_count b - 1))) i d ≡ symbol_of b k
        → get_or (no_symbol ∷ map (symbol_of b) (range_with_len 1 (symbol_count b - 1))) j d ≡ symbol_of b k
    tail j i e at = rw e at

-- the checks of a symbol find nothing
pub symbol_passes : (b : List ℕ) (k : ℕ) → symbols_flaw b ≡ None → 1 ≤ k → k < symbol_count b
    → first_of (symbol_checks b (head b).shnum (strings b) (nat_lt k (symbol_table b).info) (symbol_place b k)) ≡ None
unfolding symbols_flaw
symbol_passes b k e low high = none_at (symbol_flaw_of b) 1 (symbol_count b - 1) k e low (omega arith)

pub form_passes : (b : List ℕ) (k : ℕ) → symbols_flaw b ≡ None → 1 ≤ k → k < symbol_count b
    → first_of (symbol_form_checks (string_in b (strings b) (sym_at b (symbol_place b k)).name) (nat_lt k (symbol_table b).info) (symbol_place b k) (sym_at b (symbol_place b k))) ≡ None
unfolding symbol_checks
form_passes b k e low high = none_in (symbol_checks b (head b).shnum (strings b) (nat_lt k (symbol_table b).info) (symbol_place b k)) 0 (symbol_passes b k e low high)

pub place_passes : (b : List ℕ) (k : ℕ) → symbols_flaw b ≡ None → 1 ≤ k → k < symbol_count b
    → first_of (symbol_place_checks (head b).shnum (symbol_place b k) (sym_at b (symbol_place b k))) ≡ None
unfolding symbol_checks
place_passes b k e low high = none_in (symbol_checks b (head b).shnum (strings b) (nat_lt k (symbol_table b).info) (symbol_place b k)) 1 (symbol_passes b k e low high)

-- its section is one of the file, or it has none
pub section_known : (b : List ℕ) (k : ℕ) → symbols_flaw b ≡ None → 1 ≤ k → k < symbol_count b → has_section (head b).shnum (sym_at b (symbol_place b k)) ≡ true
unfolding symbol_place_checks
section_known b k e low high =
    let none = none_in (symbol_place_checks (head b).shnum (symbol_place b k) (sym_at b (symbol_place b k))) 1 (place_passes b k e low high) in
    not_false (has_section (head b).shnum (sym_at b (symbol_place b k))) (not_stands (not (has_section (head b).shnum (sym_at b (symbol_place b k)))) SymbolSection (symbol_place b k + 6) none)

section_below : (count : ℕ) (y : Sym) → has_section count y ≡ true → is_in_section y.shndx ≡ true → y.shndx < count
section_below count y has is = go (y.shndx == 0) (is_reserved y.shndx) (nat_lt y.shndx count) refl has is
  where
    go : (x z w : Bool) → nat_lt y.shndx count ≡ w → cond z ((y.shndx == 0xfff1) || is_common y) w ≡ true → (not x && not z) ≡ true → y.shndx < count
    go true z w ew has is = cc
    go false true w ew has is = cc
    go false false true ew has is = ltb-true y.shndx count ew
    go false false false ew has is = cc

pub symbol_below : (b : List ℕ) (k : ℕ) → symbols_flaw b ≡ None → 1 ≤ k → k < symbol_count b → is_in_section (symbol_of b k).section ≡ true → (symbol_of b k).section < (head b).shnum
unfolding symbol_in
symbol_below b k e low high is = section_below (head b).shnum (sym_at b (symbol_place b k)) (section_known b k e low high) is

-- the section of a symbol that stands in one is in the list
pub symbol_fits : (b : List ℕ) (k : ℕ) → symbols_flaw b ≡ None → 1 ≤ k → k < symbol_count b
    → IsTrue (is_in_section (get_or (symbols_in b) k no_symbol).section) → (get_or (symbols_in b) k no_symbol).section ≤ length (sections_in b)
symbol_fits b k e low high =
    let at = symbol-at b k no_symbol low high in
    let below = symbol_below b k e low high in
    rw (at, sections-length b) (λ is. let under = below is in omega (arith, under))
