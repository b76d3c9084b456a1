-- The bytes of the areas that the linker makes in a kernel.
use Rattle.std.proofs.Common.{ℕ, ◌≡◌, ◌*◌, ◌∙◌, List, [], ◌∷◌, length, length-append, refl, ap, sym, arith}
use Rattle.std.specs.Prelude.{if◌then◌else◌, flat_map}
use Rattle.kl_model.specs.Kits.{is_kernel}
use Rattle.kl_model.specs.Sizes.{made_for}
use Rattle.kl_model.specs.Slots.{slots}
use Rattle.kl_model.specs.Tables.{dynamic_of, made_bytes, slot_value, stubs_bytes, tables_bytes}
use Rattle.kl_model.specs.Written.{bytes_of, dyn_bytes}
use Rattle.kl_model.specs.declared.area.TheConstants as area
use Rattle.kl_model.specs.declared.graph.Graph.{Graph}
use Rattle.kl_model.specs.declared.graph.Target.{Target}
use Rattle.kl_model.specs.declared.kit.Kit.{Kit}
use Rattle.kl_model.specs.declared.kit.KitKind.TheVariants.{Kernel}
use Rattle.kl_model.specs.declared.object.Input.{Input}
use Rattle.kl_model.specs.declared.place.Placement.{Placement}
use Rattle.kl_write.specs.LaidKits.{HasMadeBytes}

eight_each : (value : Target → ℕ) (ts : List Target) → length (flat_map (λ t. bytes_of 8 (value t)) ts) ≡ 8 * length ts
eight_each value [] = refl
eight_each value (t ∷ ts) = omega (arith, length-append (bytes_of 8 (value t)) (flat_map (λ t. bytes_of 8 (value t)) ts), eight_each value ts)

module _ (kit : Kit) (inputs : List Input) (g : Graph) (p : Placement) (kernel : kit.kind ≡ Kernel) where
  pub no_stubs : made_bytes kit inputs g p area.STUBS ≡ []
  no_stubs = ap (λ k. if is_kernel k then [] else stubs_bytes g p) kernel

  pub no_tables : made_bytes kit inputs g p area.TABLES ≡ []
  no_tables = ap (λ k. if is_kernel k then [] else tables_bytes kit inputs g p) kernel

  pub no_dynamic : made_bytes kit inputs g p area.DYNAMIC ≡ []
  no_dynamic = ap (λ k. if is_kernel k then [] else flat_map dyn_bytes (dynamic_of kit g p)) kernel

  pub kernel_sizes : HasMadeBytes kit inputs g p
  kernel_sizes = record {
    stubs = ap length no_stubs ∙ ap (λ k. (made_for k kit g).stubs) (sym kernel);
    tables = ap length no_tables ∙ ap (λ k. (made_for k kit g).tables) (sym kernel);
    got = eight_each (slot_value kit p g) (slots g) ∙ ap (λ k. (made_for k kit g).got) (sym kernel);
    dynamic = ap length no_dynamic ∙ ap (λ k. (made_for k kit g).dynamic) (sym kernel);
  }
