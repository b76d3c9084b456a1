-- How many slots and stubs a graph has.
use Rattle.std.proofs.Common.{◌^◌, ◌<◌, length, arith}
use Rattle.kl_got.proofs.Walked.{slots-few, stubs-few}
use Rattle.kl_model.specs.Slots.{slots, stubs}
use Rattle.kl_model.specs.Sound.{IsSoundGraph}
use Rattle.kl_model.specs.declared.graph.Graph.{Graph}
use Rattle.kl_model.specs.declared.kit.Kit.{Kit}

pub few_slots : (kit : Kit) (g : Graph) → IsSoundGraph kit g → length (slots g) < 2 ^ 32
few_slots kit g sound = let few = slots-few g.fields in let limit = sound.field_count in omega arith

pub few_stubs : (kit : Kit) (g : Graph) → IsSoundGraph kit g → length (stubs g) < 2 ^ 32
few_stubs kit g sound = let few = stubs-few g.fields in let limit = sound.field_count in omega arith
