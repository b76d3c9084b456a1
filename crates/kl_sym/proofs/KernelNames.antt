-- The names of a kernel's kit lead to their definitions.
use Rattle.std.proofs.Common.{ℕ, ◌≡◌, List, [], ◌∷◌, map, refl, false}
use Rattle.std.specs.Prelude.{Option, Some, None}
use Rattle.kl_model.specs.Names.{definition}
use Rattle.kl_model.specs.Dynamic.{name_number}
use Rattle.kl_model.specs.declared.object.Input.{Input}
use Rattle.kl_model.specs.declared.kit.Kit.{Kit}
use Rattle.kl_model.specs.declared.kit.KitKind.TheVariants.{Kernel}
use Rattle.kl_model.specs.declared.graph.Target.{Target}
use Rattle.kl_model.specs.declared.graph.Target.TheVariants.{Name}
use Rattle.kl_model.proofs.Kernels.{no_importable, no_replaceable}
use Rattle.kl_sym.specs.Leads.{named_target, target_for}

by_definition : (d : Option Target) (t : Target) → target_for false d false t ≡ d
by_definition None t = refl
by_definition (Some d) t = refl

module _ (kit : Kit) (kernel : kit.kind ≡ Kernel) (inputs : List Input) where
  pub kernel_target_of : (name : List ℕ) → named_target kit inputs name ≡ definition kit inputs name
  kernel_target_of name =
      rw (no_replaceable kit kernel inputs name, no_importable kit kernel inputs name) (by_definition (definition kit inputs name) (Name (name_number kit inputs name)))

  pub kernel_targets : (names : List (List ℕ)) → map (named_target kit inputs) names ≡ map (definition kit inputs) names
  kernel_targets [] = refl
  kernel_targets (n ∷ ns) = rw (kernel_target_of n, kernel_targets ns) refl
