-- The place of a name in a string table.
use Rattle.std.proofs.Common.{ℕ, ◌≡◌, ◌+◌, ◌<◌, ◌≤◌, Bool, true, false, cond, List, length, refl, sym, arith, length-drop}
use Rattle.std.specs.Prelude.{Some, None, ◌==◌, nat_lt, slice_range}
use Rattle.std.specs.Option.{option_map}
use Rattle.std.specs.List.{position_or_len}
use Rattle.std.proofs.lemmas.Bool.{ltb-true}
use Rattle.std.proofs.lemmas.List.{length-take}
use Rattle.kl_base.specs.declared.class.Range.{Range}
use Rattle.kl_elf.specs.declared.records.Shdr.{Shdr}
use Rattle.kl_rel.specs.Headers.{string_in}
use Rattle.kl_rel.specs.Sections.{no_name, section_name}

abbrev is_zero : ℕ → Bool
is_zero c = c == 0

-- the part of a string table from a place on
abbrev pub rest_of : List ℕ → Shdr → ℕ → List ℕ
rest_of b t p = slice_range b (t.offset + p) (t.offset + t.size)

pub record IsString (b : List ℕ) (t : Shdr) (p : ℕ) (r : Range) : Type 0 where
  pub place : r.at ≡ t.offset + p
  pub first : r.len ≡ position_or_len (λ c. c == 0) (rest_of b t p)
  pub short : r.len < length (rest_of b t p)

pub string_of : (b : List ℕ) (t : Shdr) (p : ℕ) (r : Range) → string_in b t p ≡ Some r → IsString b t p r
unfolding string_in
string_of b t p r e = go (nat_lt (position_or_len (λ c. c == 0) (rest_of b t p)) (length (rest_of b t p))) refl e
  where
    go : (x : Bool) → nat_lt (position_or_len (λ c. c == 0) (rest_of b t p)) (length (rest_of b t p)) ≡ x
        → option_map (λ len. record { at = t.offset + p; len = len }) (cond x (Some (position_or_len (λ c. c == 0) (rest_of b t p))) None) ≡ Some r → IsString b t p r
    go true lt e =
        let at : t.offset + p ≡ r.at = cc in
        let len : position_or_len (λ c. c == 0) (rest_of b t p) ≡ r.len = cc in
        record { place = sym at; first = sym len; short = rw (← len) (ltb-true _ _ lt) }
    go false lt e = cc

-- it lies in the string table, and its zero byte too
pub string_inside : (b : List ℕ) (t : Shdr) (p : ℕ) (r : Range) → string_in b t p ≡ Some r → t.offset + t.size ≤ length b → r.at + r.len < t.offset + t.size
string_inside b t p r e lies =
    let is = string_of b t p r e in
    let long = simp (length-take, length-drop) at is.short in
    omega (arith, is.place, long)

-- a section's name lies in the file
pub name_inside : (b : List ℕ) (t s : Shdr) (r : Range) → section_name b t s ≡ Some r → t.offset + t.size ≤ length b → r.at + r.len ≤ length b
name_inside b t s r e lies = go (s.kind == 0) e
  where
    go : (x : Bool) → cond x (Some no_name) (string_in b t s.name) ≡ Some r → r.at + r.len ≤ length b
    go true e = let at : 0 ≡ r.at = cc in let len : 0 ≡ r.len = cc in omega (arith, at, len)
    go false e = let inside = string_inside b t s.name r e lies in omega (arith, inside, lies)
