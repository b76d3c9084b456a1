-- What is made of a number of objects and linked.
use Rattle.std.specs.Prelude.{ℕ, ◌≡◌, List}
use Rattle.kl_link.specs.Links.{AreLinked, report_of}
use Rattle.kl_link.specs.declared.report.Report.{Report}
use Rattle.kl_generate.specs.Made.{made_kit}
use Rattle.kl_generate.specs.MadeRead.{made_inputs}

-- WHAT IS TOLD of the kit of n objects that was linked under a seed: the numbers of its graph, and the length and the digest of the image
-- that carries it in the drawn order and with the drawn gaps
pub record IsGenerated (seed : List ℕ) (n : ℕ) (r : Report) : Type 0 where
  pub image : List ℕ
  pub map : List ℕ
  pub linked : AreLinked seed (made_kit n) (made_inputs n) image map
  pub told : r ≡ report_of (made_kit n) (made_inputs n) image
