-- What the words that go by a kit's kind are for a kernel.
use Rattle.std.proofs.Common.{ℕ, ◌≡◌, ◌∙◌, List, [], ◌∷◌, ◌++◌, length, refl, ap, sym, subst, Bool, true, false, not, ◌&&◌, ◌||◌, Option}
use Rattle.std.specs.Prelude.{cond, filter, ◌==◌, ◌+◌, is_none, is_some, None, Result, Ok, Err}
use Rattle.std.proofs.lemmas.List.{append-nil}
use Rattle.kl_base.specs.declared.limits.TheConstants.{PAGE}
use Rattle.kl_base.specs.declared.class.Class.{Class}
use Rattle.kl_base.specs.declared.class.Class.TheVariants.{Text, Rodata, Rwdata, Bss}
use Rattle.kl_elf.specs.declared.abi.TheConstants.{STB_WEAK, STV_DEFAULT}
use Rattle.kl_model.specs.declared.area.TheConstants as area
use Rattle.kl_model.specs.Areas.{class_number}
use Rattle.kl_model.specs.Lists.{only_if, up}
use Rattle.kl_model.specs.Texts.{text_at}
use Rattle.kl_model.specs.Kept.{class_of, input_at, section_at}
use Rattle.kl_model.specs.Kits.{may_export, may_import, may_replace}
use Rattle.kl_model.specs.Names.{definer, definition, sorted_names, visibility}
use Rattle.kl_model.specs.Dynamic.{dyn_name, dynamic_names, is_exported, is_importable, is_imported, is_replaceable, is_used, is_visible}
use Rattle.kl_model.specs.Relocations.{is_kind}
use Rattle.kl_model.specs.Graphs.{Missing, Undefined, global_target, symbol_at, target, target_or}
use Rattle.kl_model.specs.Sizes.{made_for, made_of, page_for, page_of, text_from, text_from_for}
use Rattle.kl_model.specs.Laid.{ClassLaid, Laid, class_end}
use Rattle.kl_model.specs.Faults.{field_faults, from_of, loader_faults, missing_faults}
use Rattle.kl_model.specs.declared.object.Input.{Input}
use Rattle.kl_model.specs.declared.object.RawField.{RawField}
use Rattle.kl_model.specs.declared.kit.Kit.{Kit}
use Rattle.kl_model.specs.declared.kit.KitKind.{KitKind}
use Rattle.kl_model.specs.declared.kit.KitKind.TheVariants.{Kernel, Library}
use Rattle.kl_model.specs.declared.graph.Graph.{Graph}
use Rattle.kl_model.specs.declared.graph.Target.{Target}
use Rattle.kl_model.specs.declared.graph.Target.TheVariants.{Zero}
use Rattle.kl_model.specs.declared.link.LinkFault.{LinkFault}
use Rattle.kl_model.specs.declared.link.LinkFault.TheVariants as fault
use Rattle.kl_model.specs.declared.place.Gaps.{Gaps}
use Rattle.kl_model.specs.declared.place.Made.{Made}
use Rattle.kl_model.specs.declared.place.Placement.{Placement}

filter_none : {X : Type 0} (p : X → Bool) → ((x : X) → p x ≡ false) → (xs : List X) → filter p xs ≡ []
filter_none p h [] = refl
filter_none p h (x ∷ xs) = rw (h x) (filter_none p h xs)

module _ (kit : Kit) (kernel : kit.kind ≡ Kernel) where
  -- a kernel has no dynamic name
  pub no_export : (inputs : List Input) (name : List ℕ) → is_exported kit inputs name ≡ false
  no_export inputs name = ap (λ k. may_export k kit.exports name && (is_some (definer kit inputs name) && is_visible (visibility inputs name))) kernel

  pub no_replaceable : (inputs : List Input) (name : List ℕ) → is_replaceable kit inputs name ≡ false
  no_replaceable inputs name = ap (λ k. may_replace k kit.symbolic && ((visibility inputs name == STV_DEFAULT) && is_exported kit inputs name)) kernel

  pub no_importable : (inputs : List Input) (name : List ℕ) → is_importable kit inputs name ≡ false
  no_importable inputs name = ap (λ k. may_import k kit.refuse && ((visibility inputs name == STV_DEFAULT) && is_none (definition kit inputs name))) kernel

  pub no_dynamic_names : (inputs : List Input) → dynamic_names kit inputs ≡ []
  no_dynamic_names inputs =
      filter_none (λ n. is_exported kit inputs n || is_imported kit inputs n)
      (λ n. ap (λ b. b || is_imported kit inputs n) (no_export inputs n) ∙ ap (λ b. b && is_used kit inputs n) (no_importable inputs n)) (sorted_names inputs)

  -- a name leads to its definition, or to 0 where it is WEAK
  pub kernel_target : (inputs : List Input) (name : List ℕ) (binding : ℕ)
      → global_target kit inputs name binding ≡ target_or (definition kit inputs name) (cond (binding == STB_WEAK) (Ok Zero) (Err Undefined))
  kernel_target inputs name binding = rw (no_replaceable inputs name, no_importable inputs name) refl

  -- nothing is asked of the loader
  pub kernel_faults : (inputs : List Input) (i : ℕ) (f : RawField) → field_faults kit inputs i f
      ≡ only_if (not (is_kind f.kind)) (fault.Kind (from_of i f) f.kind)
      ++ missing_faults (text_at (input_at inputs i).bytes (symbol_at inputs i f.symbol).name) (from_of i f) (target kit inputs i f.section f.symbol)
  kernel_faults inputs i f =
      let first = only_if (not (is_kind f.kind)) (fault.Kind (from_of i f) f.kind) in
      let missing = missing_faults (text_at (input_at inputs i).bytes (symbol_at inputs i f.symbol).name) (from_of i f) (target kit inputs i f.section f.symbol) in
      ap (λ k. first ++ (missing ++ loader_faults k (from_of i f) (class_of (section_at inputs i f.section)) f.kind (target kit inputs i f.section f.symbol))) kernel
      ∙ ap (λ l. first ++ l) (append-nil missing)

  -- the page, where text is laid from, and what is made
  pub kernel_page : (g : Graph) → page_of kit g ≡ PAGE
  kernel_page g = ap (λ k. page_for k g) kernel

  pub kernel_from : (g : Graph) → text_from kit g ≡ kit.base
  kernel_from g = ap (λ k. text_from_for k kit.base g) kernel

  pub kernel_made : (g : Graph) → made_of kit g ≡ made_for Kernel kit g
  kernel_made g = ap (λ k. made_for k kit g) kernel

-- a placement of a kernel is laid out: text from the base on, every other class from the next page on
pub record KernelLaid (p : Placement) (kit : Kit) (g : Graph) (gaps : Option Gaps) (order : List ℕ) (made : Made) : Type 0 where
  pub base : p.base ≡ kit.base
  pub text : ClassLaid p kit g gaps order made Text kit.base
  pub rodata : ClassLaid p kit g gaps order made Rodata (up (class_end p Text) PAGE)
  pub rwdata : ClassLaid p kit g gaps order made Rwdata (up (class_end p Rodata) PAGE)
  pub bss : ClassLaid p kit g gaps order made Bss (up (class_end p Rwdata) PAGE)
  pub count : length p.areas ≡ area.FIRST_RUN + length kit.runs

module _ (p : Placement) (kit : Kit) (g : Graph) (gaps : Option Gaps) (order : List ℕ) (made : Made) (kernel : kit.kind ≡ Kernel) where
  pub of_laid : Laid p kit g gaps order made → KernelLaid p kit g gaps order made
  of_laid l = record {
    base = l.base;
    text = subst (λ n. ClassLaid p kit g gaps order made Text n) (kernel_from kit kernel g) l.text;
    rodata = subst (λ n. ClassLaid p kit g gaps order made Rodata (up (class_end p Text) n)) (kernel_page kit kernel g) l.rodata;
    rwdata = subst (λ n. ClassLaid p kit g gaps order made Rwdata (up (class_end p Rodata) n)) (kernel_page kit kernel g) l.rwdata;
    bss = subst (λ n. ClassLaid p kit g gaps order made Bss (up (class_end p Rwdata) n)) (kernel_page kit kernel g) l.bss;
    count = l.count;
  }

  pub to_laid : KernelLaid p kit g gaps order made → Laid p kit g gaps order made
  to_laid l = record {
    base = l.base;
    text = subst (λ n. ClassLaid p kit g gaps order made Text n) (sym (kernel_from kit kernel g)) l.text;
    rodata = subst (λ n. ClassLaid p kit g gaps order made Rodata (up (class_end p Text) n)) (sym (kernel_page kit kernel g)) l.rodata;
    rwdata = subst (λ n. ClassLaid p kit g gaps order made Rwdata (up (class_end p Rodata) n)) (sym (kernel_page kit kernel g)) l.rwdata;
    bss = subst (λ n. ClassLaid p kit g gaps order made Bss (up (class_end p Rwdata) n)) (sym (kernel_page kit kernel g)) l.bss;
    count = l.count;
  }
