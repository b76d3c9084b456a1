-- The faults of names and fields before a layout: none is of a span or of a range.
use Rattle.std.proofs.Common.{ℕ, suc, List, [], ◌∷◌, ◌++◌, Bool, true, false, not}
use Rattle.std.specs.Prelude.{Option, Some, None, Result, Ok, Err, cond, filter, find, option_to_list}
use Rattle.std.specs.Str.{bytes_eq}
use Rattle.std.specs.Option.{option_map}
use Rattle.std.specs.List.{AllByRecursion}
use Rattle.kl_base.specs.declared.class.Class.{Class}
use Rattle.kl_layout.proofs.Enumerated.{all_append, all_joined}
use Rattle.kl_model.specs.Dynamic.{is_kept_field}
use Rattle.kl_model.specs.Faults.{all_field_faults, clashes, doubled, doubled_after, field_faults, from_of, input_faults, is_global_definition, loader_faults, missing_faults, no_entry, resolve_faults}
use Rattle.kl_model.specs.Graphs.{Missing, Removed, Undefined, symbol_at, target}
use Rattle.kl_model.specs.Kept.{class_of, input_at, section_at}
use Rattle.kl_model.specs.Lists.{each_from, only_if}
use Rattle.kl_model.specs.Names.{Occurrence, edge_names, occurrences}
use Rattle.kl_model.specs.Relocations.{is_kind}
use Rattle.kl_model.specs.Slots.{is_not_fixed, is_read_only}
use Rattle.kl_model.specs.Texts.{text_at}
use Rattle.kl_model.specs.declared.graph.FieldAt.{FieldAt}
use Rattle.kl_model.specs.declared.graph.Target.{Target}
use Rattle.kl_model.specs.declared.kit.Kit.{Kit}
use Rattle.kl_model.specs.declared.kit.KitKind.{KitKind}
use Rattle.kl_model.specs.declared.kit.KitKind.TheVariants.{Kernel, Library}
use Rattle.kl_model.specs.declared.link.LinkFault.{LinkFault}
use Rattle.kl_model.specs.declared.link.LinkFault.TheVariants as fault
use Rattle.kl_model.specs.declared.object.Input.{Input}
use Rattle.kl_model.specs.declared.object.RawField.{RawField}
use Rattle.kl_steps.specs.RoomyLinks.{IsNoSpanOrRange}

abbrev AreOfNames : List LinkFault → Type 0
AreOfNames fs = AllByRecursion IsNoSpanOrRange fs

one : (b : Bool) (e : LinkFault) → IsNoSpanOrRange e → AreOfNames (only_if b e)
one true e h = (h, tt)
one false e h = tt

both : (xs ys : List LinkFault) → AreOfNames xs → AreOfNames ys → AreOfNames (xs ++ ys)
both xs ys a b = all_append IsNoSpanOrRange xs ys a b

of_each : {X : Type 0} (n : ℕ) (f : ℕ → X → List LinkFault) → ((k : ℕ) (x : X) → AreOfNames (f k x)) → (xs : List X)
    → AreOfNames (each_from n f xs)
of_each n f h [] = tt
of_each n f h (x ∷ xs) = both (f n x) (each_from (suc n) f xs) (h n x) (of_each (suc n) f h xs)

-- names
found : (o : Occurrence) (d : Option Occurrence)
    → AreOfNames (option_to_list (option_map (λ d. fault.Doubled o.name (d.input, d.number) (o.input, o.number)) d))
found o None = tt
found o (Some d) = (tt, tt)

of_doubled : (seen os : List Occurrence) → AreOfNames (doubled_after seen os)
of_doubled seen [] = tt
of_doubled seen (o ∷ os) =
    both _ (doubled_after (o ∷ seen) os) (found o (find (λ d. bytes_eq d.name o.name) seen)) (of_doubled (o ∷ seen) os)

of_clashes : (kit : Kit) (inputs : List Input) → AreOfNames (clashes kit inputs)
of_clashes kit inputs = all_joined IsNoSpanOrRange _ (λ e. one _ (fault.EdgeClash e.0) tt) (edge_names kit)

of_entry : (kit : Kit) (inputs : List Input) → AreOfNames (no_entry kit inputs)
of_entry kit inputs = all_joined IsNoSpanOrRange _ (λ name. one _ (fault.NoEntry name) tt) (option_to_list kit.entry)

-- fields
of_missing : (name : List ℕ) (from : FieldAt) (r : Result Target Missing) → AreOfNames (missing_faults name from r)
of_missing name from (Ok t) = tt
of_missing name from (Err Removed) = (tt, tt)
of_missing name from (Err Undefined) = (tt, tt)

of_loader : (k : KitKind) (from : FieldAt) (c : Class) (kind : ℕ) (r : Result Target Missing) → AreOfNames (loader_faults k from c kind r)
of_loader Kernel from c kind r = tt
of_loader Library from c kind (Ok t) =
    let fixed = is_not_fixed kind t in
    let read_only = is_read_only c kind t in
    both (only_if fixed (fault.NotFixed from)) (only_if read_only (fault.ReadOnlyField from)) (one fixed (fault.NotFixed from) tt)
    (one read_only (fault.ReadOnlyField from) tt)
of_loader Library from c kind (Err m) = tt

of_field : (kit : Kit) (inputs : List Input) (i : ℕ) (f : RawField) → AreOfNames (field_faults kit inputs i f)
of_field kit inputs i f =
    let from = from_of i f in
    let leads = target kit inputs i f.section f.symbol in
    let name = text_at (input_at inputs i).bytes (symbol_at inputs i f.symbol).name in
    let class = class_of (section_at inputs i f.section) in
    let missing = missing_faults name from leads in
    let loader = loader_faults kit.kind from class f.kind leads in
    both (only_if (not (is_kind f.kind)) (fault.Kind from f.kind)) (missing ++ loader) (one (not (is_kind f.kind)) (fault.Kind from f.kind) tt)
    (both missing loader (of_missing name from leads) (of_loader kit.kind from class f.kind leads))

of_input : (kit : Kit) (inputs : List Input) (i : ℕ) (x : Input) → AreOfNames (input_faults kit inputs i x)
of_input kit inputs i x = of_each 0 _ (λ k f. go f (is_kept_field kit inputs i f)) x.object.fields
  where
    go : (f : RawField) (b : Bool) → AreOfNames (cond b (field_faults kit inputs i f) [])
    go f true = of_field kit inputs i f
    go f false = tt

-- all of them
pub of_names : (kit : Kit) (inputs : List Input) → AllByRecursion IsNoSpanOrRange (resolve_faults kit inputs)
unfolding resolve_faults
of_names kit inputs =
    let names = doubled kit inputs in
    let edges = clashes kit inputs in
    let entry = no_entry kit inputs in
    let fields = all_field_faults kit inputs in
    both names (edges ++ (entry ++ fields)) (of_doubled [] (filter (is_global_definition kit inputs) (occurrences inputs)))
    (both edges (entry ++ fields) (of_clashes kit inputs)
    (both entry fields (of_entry kit inputs) (of_each 0 (input_faults kit inputs) (of_input kit inputs) inputs)))
