-- A graph without its fields, names and entry: what is laid out of a graph is laid out of it, and it is sound whatever the faults of fields.
use Rattle.std.proofs.Common.{ℕ, ◌≡◌, ◌-◌, ◌≤◌, ◌∙◌, List, [], length, map, refl, ap, subst, arith, length-append}
use Rattle.std.specs.Prelude.{All, Option, None, filter}
use Rattle.std.proofs.lemmas.List.{length-map}
use Rattle.kl_base.specs.declared.class.Class.{Class}
use Rattle.kl_base.specs.declared.class.Class.TheVariants.{Text, Rodata, Rwdata, Bss}
use Rattle.kl_base.specs.declared.limits.TheConstants.{SPAN_LIMIT, SYMBOL_COUNT_LIMIT}
use Rattle.kl_model.specs.Fit.{AreFit}
use Rattle.kl_model.specs.Graphs.{common_pieces, graph, section_pieces}
use Rattle.kl_model.specs.Laid.{ClassLaid, Laid, class_end, reach, span}
use Rattle.kl_model.specs.Line.{class_line}
use Rattle.kl_model.specs.Lists.{up}
use Rattle.kl_model.specs.Names.{Occurrence, common_names, holds_common, occurrences}
use Rattle.kl_model.specs.Sizes.{page_for, page_of, text_from, text_from_for}
use Rattle.kl_model.specs.Sound.{IsSoundGraph, IsSoundPiece}
use Rattle.kl_model.specs.declared.graph.Graph.{Graph}
use Rattle.kl_model.specs.declared.kit.Kit.{Kit}
use Rattle.kl_model.specs.declared.kit.KitKind.{KitKind}
use Rattle.kl_model.specs.declared.kit.KitKind.TheVariants.{Kernel, Library}
use Rattle.kl_model.specs.declared.object.Input.{Input}
use Rattle.kl_model.specs.declared.place.Gaps.{Gaps}
use Rattle.kl_model.specs.declared.place.Made.{Made}
use Rattle.kl_model.specs.declared.place.Placement.{Placement}
use Rattle.kl_sym.proofs.SoundFields.{section_count}
use Rattle.kl_sym.proofs.SoundNames.{filter-short, occurrence_count, once-short}
use Rattle.kl_sym.proofs.SoundPieces.{parts_count, pieces_sound}
use Rattle.kl_sym.proofs.SoundTargets.{length-ones}

abbrev pub bare : Graph → Graph
bare g = record g { fields = []; names = []; entry = None }

-- it is sound
common_count : (kit : Kit) (inputs : List Input) → AreFit inputs → length (common_pieces kit inputs) ≤ SYMBOL_COUNT_LIMIT
common_count kit inputs fit =
    let pieces : length (common_pieces kit inputs) ≡ length (common_names kit inputs) = length-ones 0 _ (common_names kit inputs) in
    let names = once-short (map (λ (o : Occurrence). o.name) (filter (holds_common kit inputs) (occurrences inputs))) in
    let mapped = length-map (filter (holds_common kit inputs) (occurrences inputs)) (λ (o : Occurrence). o.name) in
    let kept = filter-short (holds_common kit inputs) (occurrences inputs) in
    let limit = occurrence_count kit inputs fit in
    omega arith

bare_pieces : (kit : Kit) (inputs : List Input) → AreFit inputs → All (IsSoundPiece kit (bare (graph kit inputs))) (graph kit inputs).pieces
bare_pieces kit inputs fit k d h =
    let s = pieces_sound kit inputs fit k d h in
    record { origin = s.origin; area = s.area; size = s.size; align = s.align; short = s.short; blank = s.blank }

pub bare_sound : (kit : Kit) (inputs : List Input) → AreFit inputs → IsSoundGraph kit (bare (graph kit inputs))
unfolding graph
bare_sound kit inputs fit = record {
  pieces = bare_pieces kit inputs fit;
  fields = λ k d h. absurd (omega arith);
  apart = λ i j d h l. absurd (omega arith);
  entry = tt;
  names = λ k d h. absurd (omega arith);
  kernel = λ e. refl;
  piece_count = (let all = length-append (section_pieces kit inputs) (common_pieces kit inputs) in let a = section_count kit inputs fit in let b = common_count kit inputs fit in omega arith);
  field_count = omega arith;
  name_count = omega arith;
  input_count = (let n = parts_count kit inputs fit in let few = fit.count in omega arith);
}

module _ (p : Placement) (kit : Kit) (g : Graph) (gaps : Option Gaps) (order : List ℕ) (made : Made) where
  same_page : page_of kit g ≡ page_of kit (bare g)
  same_page = go kit.kind
    where
      go : (k : KitKind) → page_for k g ≡ page_for k (bare g)
      go Kernel = refl
      go Library = refl

  same_from : text_from kit g ≡ text_from kit (bare g)
  same_from = go kit.kind
    where
      go : (k : KitKind) → text_from_for k kit.base g ≡ text_from_for k kit.base (bare g)
      go Kernel = refl
      go Library = refl

  class_laid : (c : Class) (from : ℕ) → ClassLaid p kit g gaps order made c from → ClassLaid p kit (bare g) gaps order made c from
  class_laid Text from h = record { areas = h.areas; class = h.class }
  class_laid Rodata from h = record { areas = h.areas; class = h.class }
  class_laid Rwdata from h = record { areas = h.areas; class = h.class }
  class_laid Bss from h = record { areas = h.areas; class = h.class }

  class_moved : (c : Class) (from to : ℕ) → from ≡ to → ClassLaid p kit g gaps order made c from → ClassLaid p kit (bare g) gaps order made c to
  class_moved c from to e h = subst (ClassLaid p kit (bare g) gaps order made c) e (class_laid c from h)

  pub bare_laid : Laid p kit g gaps order made → Laid p kit (bare g) gaps order made
  bare_laid l = record {
    base = l.base;
    text = class_moved Text _ _ same_from l.text;
    rodata = class_moved Rodata _ _ (ap (up (class_end p Text)) same_page) l.rodata;
    rwdata = class_moved Rwdata _ _ (ap (up (class_end p Rodata)) same_page) l.rwdata;
    bss = class_moved Bss _ _ (ap (up (class_end p Rwdata)) same_page) l.bss;
    count = l.count;
  }

  span_by : ℕ → ℕ → ℕ
  span_by from page =
      let text = reach from (class_line kit g gaps order made Text) in
      let rodata = reach (up text page) (class_line kit g gaps order made Rodata) in
      let rwdata = reach (up rodata page) (class_line kit g gaps order made Rwdata) in
      reach (up rwdata page) (class_line kit g gaps order made Bss) - kit.base

  same_span : span kit g gaps order made ≡ span kit (bare g) gaps order made
  unfolding span_by
  same_span = ap (λ n. span_by n (page_of kit g)) same_from ∙ ap (span_by (text_from kit (bare g))) same_page

  pub bare_small : span kit g gaps order made ≤ SPAN_LIMIT → span kit (bare g) gaps order made ≤ SPAN_LIMIT
  bare_small h = subst (λ n. n ≤ SPAN_LIMIT) same_span h
