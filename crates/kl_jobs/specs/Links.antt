-- What a link leaves.
use Rattle.std.specs.Prelude.{ℕ, ◌≡◌, List, [], Option, None}
use Rattle.std.specs.Option.{ForSome}
use Rattle.kl_store.specs.Names.{Names}
use Rattle.kl_store.specs.Disk.{names_now}
use Rattle.kl_store.specs.Meaning.{Meaning}
use Rattle.kl_store.specs.Images.{IsSettledAt}
use Rattle.kl_store.specs.Outside.{Blocks}
use Rattle.kl_model.specs.declared.kit.Kit.{Kit}
use Rattle.kl_model.specs.declared.kit.KitKind.{KitKind}
use Rattle.kl_model.specs.declared.object.Input.{Input}
use Rattle.kl_jobs.specs.Reading.{inputs_in, kit_in, kit_order, lines_refusal, text_refusal}
use Rattle.kl_jobs.specs.Seeds.{IsSeed}
use Rattle.kl_jobs.specs.Writing.{IsPutPair}
use Rattle.kl_link.specs.Links.{AreLinked, report_of}
use Rattle.kl_link.specs.declared.report.Report.{Report}

-- the kit and the inputs of a folder, as its files say, of the kind that is wanted: nothing stands against them
pub record IsKitOf (wanted : Option KitKind) (m : Names) (dir : List ℕ) (kit : Kit) (inputs : List Input) : Type 0 where
  pub text : text_refusal wanted m dir ≡ None
  pub kit_is : kit ≡ kit_in m dir
  pub lines : lines_refusal m dir [] (kit_order kit.inputs) ≡ None
  pub inputs_are : inputs ≡ inputs_in m dir (kit_order kit.inputs)

-- After a link the image name holds an image of the folder's kit and the map name its map, and this is what is told of the image.
-- All other names hold what they held.
pub record IsLinked (dir seed : List ℕ) (report : Report) (m n : Names) : Type 0 where
  pub kit : Kit
  pub inputs : List Input
  pub image : List ℕ
  pub map : List ℕ
  pub reads : IsKitOf None m dir kit inputs
  pub linked : AreLinked seed kit inputs image map
  pub told : report ≡ report_of kit inputs image
  pub written : IsPutPair dir image map m n

-- a link under the seed that was used, stable on the disk where the store tells it
pub record LinksUnder (dir : List ℕ) (given : Option (List ℕ)) (b0 b1 : Blocks) (before now : Meaning) (report : Report) : Type 0 where
  pub seed : List ℕ
  pub drawn : IsSeed given b0 b1 seed
  pub linked : ForSome before.disk (λ d. IsSettledAt now.disk (IsLinked dir seed report (names_now d)))
