-- A reader that finds no flaw refuses for want of memory alone.
use Rattle.std.proofs.Common.{ℕ, ◌≡◌, List, [], refl, subst}
use Rattle.std.specs.Prelude.{IfErr, Option, Result, Ok, Err}
use Rattle.kl_image.specs.Flaws.{IsFirst, image_flaws}
use Rattle.kl_image.specs.declared.fault.ImageFault.{ImageFault}
use Rattle.kl_image.specs.declared.fault.ImageFault.TheVariants as fault
use Rattle.kl_model.specs.declared.kit.Kit.{Kit}
use Rattle.kl_model.specs.declared.object.Input.{Input}
use Rattle.kl_model.specs.declared.place.Gaps.{Gaps}
use Rattle.kl_model.specs.declared.place.Placement.{Placement}
use Rattle.kl_shared.proofs.GraphTexts.{has_texts}
use Rattle.kl_viewed.specs.NoFlaw.{IsLinked}
use Rattle.kl_viewed.proofs.Given.{right}

no_first : (e : ImageFault) → IsFirst [] e → e ≡ fault.NoMemory
no_first fault.NoMemory h = refl
no_first (fault.Head at) h = cc
no_first (fault.Segment index) h = cc
no_first (fault.Tables at) h = cc

only_memory : {X : Type 0} (fs : List ImageFault) (r : Result X ImageFault) → fs ≡ [] → IfErr r (IsFirst fs) → IfErr r (λ e. e ≡ fault.NoMemory)
only_memory fs (Ok x) none h = tt
only_memory fs (Err e) none h = no_first e (subst (λ xs. IsFirst xs e) none h)

-- it is so with every image that a linker gives
pub refused_for_memory : {X : Type 0} (kit : Kit) (inputs : List Input) (gaps : Option Gaps) (order img : List ℕ) (p : Placement) (r : Result X ImageFault) → IsLinked kit inputs gaps order img p
    → IfErr r (IsFirst (image_flaws img)) → IfErr r (λ e. e ≡ fault.NoMemory)
refused_for_memory kit inputs gaps order img p r l h = only_memory (image_flaws img) r (right kit inputs gaps order img p l (has_texts kit inputs l.fit)) h
