-- Where the classes of a placement are laid from, and that what is laid lies within the span.
use Rattle.std.proofs.Common.{ℕ, ◌≡◌, ◌+◌, ◌<◌, ◌≤◌, List, ap, sym, subst, arith, Option, length}
use Rattle.kl_base.specs.declared.class.Class.{Class}
use Rattle.kl_base.specs.declared.class.Class.TheVariants.{Text, Rodata, Rwdata, Bss}
use Rattle.kl_base.specs.declared.limits.TheConstants.{BASE_LIMIT, SPAN_LIMIT}
use Rattle.kl_model.specs.Laid.{ClassLaid, Laid, class_end, reach, span}
use Rattle.kl_model.specs.Line.{class_line}
use Rattle.kl_model.specs.Lists.{up}
use Rattle.kl_model.specs.Placed.{class_from}
use Rattle.kl_model.specs.Sizes.{page_of}
use Rattle.kl_model.specs.declared.graph.Graph.{Graph}
use Rattle.kl_model.specs.declared.kit.Kit.{Kit}
use Rattle.kl_model.specs.declared.place.Gaps.{Gaps}
use Rattle.kl_model.specs.declared.place.Made.{Made}
use Rattle.kl_model.specs.declared.place.Placement.{Placement}
use Rattle.kl_model.proofs.InOrder.{Aligned, base-le, class_is, le-reach, le-up, page-pos}

module _ (kit : Kit) (g : Graph) (gaps : Option Gaps) (order : List ℕ) (made : Made) (limit : kit.base ≤ BASE_LIMIT) (small : span kit g gaps order made ≤ SPAN_LIMIT)
    (aligned : (c : Class) → Aligned (class_line kit g gaps order made c)) where
  abbrev from : Class → ℕ
  from c = class_from kit g gaps order made c

  abbrev end : Class → ℕ
  end c = reach (from c) (class_line kit g gaps order made c)

  long : (c : Class) → from c ≤ end c
  long c = le-reach (from c) (class_line kit g gaps order made c) (aligned c)

  page : 0 < page_of kit g
  page = page-pos kit g

  -- each class lies between the base and the end of the span
  pub past : (c : Class) → kit.base ≤ from c
  past Text = base-le kit g
  past Rodata = omega (arith, base-le kit g, long Text, le-up (end Text) (page_of kit g) page)
  past Rwdata = omega (arith, base-le kit g, long Text, long Rodata, le-up (end Text) (page_of kit g) page, le-up (end Rodata) (page_of kit g) page)
  past Bss = omega (arith, base-le kit g, long Text, long Rodata, long Rwdata, le-up (end Text) (page_of kit g) page, le-up (end Rodata) (page_of kit g) page, le-up (end Rwdata) (page_of kit g) page)

  last : end Bss ≤ kit.base + SPAN_LIMIT
  last = omega (arith, small)

  pub within : (c : Class) → end c ≤ kit.base + SPAN_LIMIT
  within Text = omega (arith, last, long Rodata, long Rwdata, long Bss, le-up (end Text) (page_of kit g) page, le-up (end Rodata) (page_of kit g) page, le-up (end Rwdata) (page_of kit g) page)
  within Rodata = omega (arith, last, long Rwdata, long Bss, le-up (end Rodata) (page_of kit g) page, le-up (end Rwdata) (page_of kit g) page)
  within Rwdata = omega (arith, last, long Bss, le-up (end Rwdata) (page_of kit g) page)
  within Bss = last

  module _ (p : Placement) (base : p.base ≡ kit.base) where
    abbrev pub IsLaidThere : Class → Type 0
    IsLaidThere c = ClassLaid p kit g gaps order made c (from c)

    -- a class that is laid where it should ends there
    ends : (c : Class) → IsLaidThere c → class_end p c ≡ end c
    ends c l =
        (class_is p kit g gaps order made c (from c) l (aligned c) (omega (arith, base, limit)) (omega (arith, base, past c)) (omega (arith, base, limit, within c))).ends

    next : (c : Class) → IsLaidThere c → up (class_end p c) (page_of kit g) ≡ up (end c) (page_of kit g)
    next c l = ap (λ n. up n (page_of kit g)) (ends c l)

    pub all_laid : ((c : Class) → IsLaidThere c) → length p.areas ≡ 15 + length kit.runs → Laid p kit g gaps order made
    all_laid l count = record {
      base = base;
      text = l Text;
      rodata = subst (λ n. ClassLaid p kit g gaps order made Rodata n) (sym (next Text (l Text))) (l Rodata);
      rwdata = subst (λ n. ClassLaid p kit g gaps order made Rwdata n) (sym (next Rodata (l Rodata))) (l Rwdata);
      bss = subst (λ n. ClassLaid p kit g gaps order made Bss n) (sym (next Rwdata (l Rwdata))) (l Bss);
      count = count;
    }

    module _ (l : Laid p kit g gaps order made) where
      rodata_laid : IsLaidThere Rodata
      rodata_laid = subst (λ n. ClassLaid p kit g gaps order made Rodata n) (next Text l.text) l.rodata

      rwdata_laid : IsLaidThere Rwdata
      rwdata_laid = subst (λ n. ClassLaid p kit g gaps order made Rwdata n) (next Rodata rodata_laid) l.rwdata

      bss_laid : IsLaidThere Bss
      bss_laid = subst (λ n. ClassLaid p kit g gaps order made Bss n) (next Rwdata rwdata_laid) l.bss

      pub each_laid : (c : Class) → IsLaidThere c
      each_laid Text = l.text
      each_laid Rodata = rodata_laid
      each_laid Rwdata = rwdata_laid
      each_laid Bss = bss_laid
