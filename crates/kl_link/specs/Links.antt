-- What a link of a kit under a seed is.
use Rattle.std.specs.Prelude.{ℕ, ◌≡◌, List, length, Option}
use Rattle.sha2.specs.Sha256.{sha256}
use Rattle.kl_model.specs.Carries.{Carries}
use Rattle.kl_model.specs.Faults.{link_fault}
use Rattle.kl_model.specs.Fit.{AreFit, IsKit}
use Rattle.kl_model.specs.Graphs.{graph}
use Rattle.kl_model.specs.declared.kit.Kit.{Kit}
use Rattle.kl_model.specs.declared.link.LinkFault.{LinkFault}
use Rattle.kl_model.specs.declared.object.Input.{Input}
use Rattle.kl_model.specs.declared.place.Placement.{Placement}
use Rattle.kl_map.specs.MapText.{map_text}
use Rattle.kl_link.specs.Plans.{gaps_of, order_of}
use Rattle.kl_link.specs.declared.report.Report.{Report}

-- a kit and inputs that can be linked
pub record IsLinkable (kit : Kit) (inputs : List Input) : Type 0 where
  pub form : IsKit kit
  pub fit : AreFit inputs

-- THE FAULT of a kit under a seed: the first that stands
abbrev pub fault_of : List ℕ → Kit → List Input → Option LinkFault
fault_of seed kit inputs = link_fault kit inputs (gaps_of seed kit) (order_of seed kit inputs)

-- AN IMAGE AND A MAP TEXT OF A KIT under a seed: of one placement, which carries the kit in the drawn order and with the drawn gaps
pub record AreLinked (seed : List ℕ) (kit : Kit) (inputs : List Input) (image map : List ℕ) : Type 0 where
  pub placement : Placement
  pub carries : Carries image placement kit inputs (gaps_of seed kit) (order_of seed kit inputs)
  pub map_is : map ≡ map_text (record { output = kit.output; seed = seed; placement = placement })

-- WHAT IS TOLD of an image of a kit: the numbers of its graph, its length and its digest
abbrev pub report_of : Kit → List Input → List ℕ → Report
report_of kit inputs image = record {
  pieces = length (graph kit inputs).pieces;
  fields = length (graph kit inputs).fields;
  bytes = length image;
  digest = sha256 image;
}
