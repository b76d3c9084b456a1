-- What a walk over the relocation entries keeps beside their fields. For the contracts inside this crate alone.
use Rattle.std.specs.Prelude.{ℕ, ◌+◌, ◌≤◌, ◌<◌, ◌^◌, ◌≡◌, ◌≢◌, Bool, true, false, ◌&&◌, ◌==◌, nat_le, nat_lt, List, [], ◌∷◌, length, map, filter, slice_index, slice_index_or, Option, None, All, AllPairs, max, min}
use Rattle.std.specs.Ordering.{nat_cmp, ordering_then}
use Rattle.std.specs.declared.cmp.Ordering.{Ordering}
use Rattle.kl_model.specs.Fit.{ShareNoByte}
use Rattle.kl_model.specs.Relocations.{width}
use Rattle.kl_model.specs.declared.object.RawField.{RawField}
use Rattle.kl_rel.specs.Flaws.{flaw_if, first_of}
use Rattle.kl_rel.specs.Headers.{section}
use Rattle.kl_rel.specs.SymbolTables.{symbol_count}
use Rattle.kl_rel.specs.Relocations.{entry_place, field_of}
use Rattle.kl_rel.specs.declared.fault.ReadFault.{ReadFault}
use Rattle.kl_rel.specs.declared.fault.ReadError.{ReadError}
use Rattle.kl_rel.specs.declared.fault.ReadError.TheVariants.{Flaw, NoMemory}
use Rattle.kl_rel.specs.declared.fault.ReadKind.TheVariants.{RelaLink, RelaPlace}
use Rattle.kl_rel.specs.declared.scan.FieldScan.{FieldScan}
use Rattle.kl_elf.specs.declared.records.TheConstants.Rela as rela

-- an entry by itself: its symbol, and its field in a section of this size
unfoldable pub plain_checks : ℕ → ℕ → ℕ → RawField → List (Option ReadFault)
plain_checks symbols size place f =
    flaw_if (nat_le symbols f.symbol) RelaLink (place + rela.R_INFO) ∷ flaw_if (nat_lt size (f.offset + width f.kind)) RelaPlace place ∷ []

-- entry k of section n
abbrev pub plain_flaw_of : List ℕ → ℕ → ℕ → Option ReadFault
plain_flaw_of b n k = first_of (plain_checks (symbol_count b) (section b (section b n).info).size (entry_place b n k) (field_of b n k))

-- a refusal, but for want of memory, tells that there is a flaw
abbrev pub TellsFlaw : Option ReadFault → ReadError → Type 0
TellsFlaw found (Flaw fault) = found ≢ None
TellsFlaw found NoMemory = Unit {0}

-- two fields share no byte, or the section of the first is noted
abbrev pub ApartUnless : List Bool → RawField → RawField → Type 0
ApartUnless noted f h = slice_index_or noted f.section true ≡ false → ShareNoByte f h

-- each field that has bytes ends where its section's fields do, at most; no end is far; and no two fields share a byte, but in
-- a section that is noted
pub record IsScan (scan : FieldScan) : Type 0 where
  pub ends : All (λ f. 0 < width f.kind → f.offset + width f.kind ≤ slice_index scan.ends.items f.section) scan.fields.items
  pub far : All (λ f. f.offset + width f.kind < 2 ^ 63) scan.fields.items
  pub sections : All (λ f. f.section < length scan.noted.items) scan.fields.items
  pub apart : AllPairs (ApartUnless scan.noted.items) scan.fields.items
  pub counts : length scan.noted.items ≡ length scan.ends.items

-- a section number, and the offsets in that section of a field's first byte and of its end
abbrev pub Span : Type 0
Span = ℕ × ℕ × ℕ

abbrev pub span_of : RawField → Span
span_of f = (f.section, f.offset, f.offset + width f.kind)

-- the order of the code's tuples
abbrev pub span_cmp : Span → Span → Ordering
span_cmp x y = ordering_then (ordering_then (nat_cmp x.0 y.0) (nat_cmp x.1 y.1)) (nat_cmp x.2 y.2)

-- two spans of one section have a byte in common
abbrev pub meet : Span → Span → Bool
meet x y = (x.0 == y.0) && nat_lt (max x.1 y.1) (min x.2 y.2)

abbrev pub Apart : Span → Span → Type 0
Apart x y = meet x y ≡ false

-- the spans of the fields that have bytes, in the sections that are noted
abbrev pub is_noted : List Bool → RawField → Bool
is_noted noted f = slice_index_or noted f.section true && nat_lt 0 (width f.kind)

abbrev pub noted_spans : List Bool → List RawField → List Span
noted_spans noted fields = map span_of (filter (is_noted noted) fields)
