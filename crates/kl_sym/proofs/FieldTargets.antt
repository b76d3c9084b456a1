-- What a field gives by the table of its input and the leads of its symbols is what it gives by the kit.
use Rattle.std.proofs.Common.{ℕ, ◌≡◌, ◌<◌, List, [], length, get_or, refl, Bool, true, false, cond, inl, inr}
use Rattle.std.specs.Prelude.{◌==◌, pos, Option, Some, None, Ok, Err}
use Rattle.std.proofs.lemmas.Bool.{cases_Bool}
use Rattle.std.proofs.lemmas.List.{get_or-map}
use Rattle.kl_elf.specs.declared.abi.TheConstants.{R_X86_64_NONE, SHN_ABS, STB_LOCAL, STB_WEAK}
use Rattle.kl_model.specs.Texts.{text_at}
use Rattle.kl_model.specs.Kept.{is_kept, input_at, no_symbol}
use Rattle.kl_model.specs.Names.{definition}
use Rattle.kl_model.specs.Graphs.{Undefined, target, target_or, kept_field}
use Rattle.kl_model.specs.Faults.{field_faults}
use Rattle.kl_model.specs.Dynamic.{is_importable, is_kept_field, is_replaceable, name_number}
use Rattle.kl_model.specs.declared.object.Input.{Input}
use Rattle.kl_model.specs.declared.object.RawField.{RawField}
use Rattle.kl_model.specs.declared.kit.Kit.{Kit}
use Rattle.kl_model.specs.declared.graph.Target.{Target}
use Rattle.kl_model.specs.declared.graph.Target.TheVariants.{Name, Zero}
use Rattle.kl_model.specs.declared.link.LinkFault.{LinkFault}
use Rattle.kl_names.specs.Tables.{piece_table}
use Rattle.kl_names.proofs.TableAt.{table_at}
use Rattle.kl_sym.specs.Leads.{lead_of, lead_of_name, leads, target_for}
use Rattle.kl_sym.specs.Targets.{faults_by, field_by, symbol_in, target_by, target_of_lead}
use Rattle.kl_sym.specs.declared.leads.Lead.TheVariants as lead

-- the faults of a field that is kept
abbrev pub field_faults_of : Kit → List Input → ℕ → RawField → List LinkFault
field_faults_of kit inputs i f = cond (is_kept_field kit inputs i f) (field_faults kit inputs i f) []

-- a name leads by its target, and by its binding where it has none
by_name : (replaceable importable weak : Bool) (d : Option Target) (t : Target) (section : List ℕ) (binding : ℕ) → (binding == STB_WEAK) ≡ weak
    → target_of_lead (lead_of_name (target_for replaceable d importable t) binding) section
    ≡ cond replaceable (Ok t) (target_or d (cond importable (Ok t) (cond weak (Ok Zero) (Err Undefined))))
by_name true importable weak d t section binding e = refl
by_name false importable weak (Some x) t section binding e = refl
by_name false true weak None t section binding e = refl
by_name false false true None t section binding e = rw e refl
by_name false false false None t section binding e = rw e refl

module _ (kit : Kit) (inputs : List Input) (i : ℕ) (f : RawField) (known : f.symbol < length (input_at inputs i).object.symbols) where
  abbrev x : Input
  x = input_at inputs i

  lead-is : get_or (leads kit inputs i) f.symbol lead.Undefined ≡ lead_of kit inputs i (symbol_in x f.symbol)
  lead-is = get_or-map (lead_of kit inputs i) x.object.symbols f.symbol no_symbol lead.Undefined known

  pub target-is : target_by (leads kit inputs i) x f ≡ target kit inputs i f.section f.symbol
  target-is =
      let y = symbol_in x f.symbol in
      let table = table_at kit inputs i y.section in
      let name = text_at x.bytes y.name in
      elim (cases_Bool (f.symbol == 0)) [
        | inl a ↦ rw a refl
        | inr a ↦ elim (cases_Bool (y.binding == STB_LOCAL)) [
          | inl b ↦ elim (cases_Bool (y.section == SHN_ABS)) [
            | inl e ↦ rw (a, lead-is, b, e) refl
            | inr e ↦ elim (cases_Bool (is_kept kit inputs i y.section)) [
              | inl k ↦ rw (a, lead-is, b, e, table, k) refl
              | inr k ↦ rw (a, lead-is, b, e, table, k) refl
            ]
          ]
          | inr b ↦
              rw (a, lead-is, b)
              (by_name (is_replaceable kit inputs name) (is_importable kit inputs name) (y.binding == STB_WEAK) (definition kit inputs name) (Name (name_number kit inputs name)) _ y.binding refl)
        ]
      ]

  pub field-is : field_by (piece_table kit inputs i) (leads kit inputs i) x i f ≡ kept_field kit inputs i f
  field-is =
      let table = table_at kit inputs i f.section in
      elim (cases_Bool (is_kept kit inputs i f.section)) [
        | inl k ↦ rw (table, k, target-is) refl
        | inr k ↦ rw (table, k) refl
      ]

  pub faults-are : faults_by kit.kind (piece_table kit inputs i) (leads kit inputs i) x i f ≡ field_faults_of kit inputs i f
  faults-are =
      let table = table_at kit inputs i f.section in
      elim (cases_Bool (is_kept kit inputs i f.section)) [
        | inl k ↦ elim (cases_Bool (f.kind == R_X86_64_NONE)) [
          | inl z ↦ rw (table, k, z) refl
          | inr z ↦ rw (table, k, z, target-is) refl
        ]
        | inr k ↦ rw (table, k) refl
      ]

-- what stands past the end of a list of entries
abbrev pub no_entry_at : RawField
no_entry_at = record { rela = 0; index = 0; section = 0; offset = 0; kind = 0; symbol = 0; addend = pos 0 }
