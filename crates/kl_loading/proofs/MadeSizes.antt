-- The areas that a linker makes in a library have as many bytes as they are laid out with.
use Rattle.std.proofs.Common.{◌≡◌, ◌*◌, ◌∙◌, List, [], length, ap, sym}
use Rattle.std.specs.Prelude.{if◌then◌else◌, flat_map}
use Rattle.kl_model.proofs.ImageBytes.{length-bytes_of}
use Rattle.kl_model.specs.Kits.{is_kernel}
use Rattle.kl_model.specs.Sizes.{made_for}
use Rattle.kl_model.specs.Slots.{slots, stubs}
use Rattle.kl_model.specs.Tables.{dynamic_of, slot_value, stub_code, stubs_bytes, tables_bytes}
use Rattle.kl_model.specs.Leads.{target_slot, target_stub}
use Rattle.kl_model.specs.Written.{bytes_of, dyn_bytes}
use Rattle.kl_model.specs.declared.graph.Graph.{Graph}
use Rattle.kl_model.specs.declared.graph.Target.TheVariants.{Name}
use Rattle.kl_model.specs.declared.kit.Kit.{Kit}
use Rattle.kl_model.specs.declared.kit.KitKind.TheVariants.{Library}
use Rattle.kl_model.specs.declared.object.Input.{Input}
use Rattle.kl_model.specs.declared.place.Placement.{Placement}
use Rattle.kl_write.specs.LaidKits.{HasMadeBytes}
use Rattle.kl_loading.proofs.Library.{length-dynamic}
use Rattle.kl_loading.proofs.Rows.{length-dyn, length-rows}
use Rattle.kl_loading.proofs.StubBytes.{length-stub, length-stubs}
use Rattle.kl_loading.proofs.TableParts.{length-tables}
use Rattle.kl_loading.specs.TablesReadBack.{HasTexts}

pub made_sizes : (kit : Kit) (inputs : List Input) (g : Graph) (p : Placement) → kit.kind ≡ Library → HasTexts inputs g → HasMadeBytes kit inputs g p
made_sizes kit inputs g p library texts = record {
  stubs = ap (λ k. length (if is_kernel k then [] else stubs_bytes g p)) library
      ∙ (length-stubs (λ n. stub_code (target_stub p g (Name n)) (target_slot p g (Name n))) (stubs g) (λ n. length-stub (target_stub p g (Name n)) (target_slot p g (Name n)))
      ∙ ap (λ k. (made_for k kit g).stubs) (sym library));
  tables = ap (λ k. length (if is_kernel k then [] else tables_bytes kit inputs g p)) library ∙ (length-tables kit inputs g p texts ∙ ap (λ k. (made_for k kit g).tables) (sym library));
  got = length-rows (λ t. bytes_of 8 (slot_value kit p g t)) 8 (slots g) (λ t. length-bytes_of 8 (slot_value kit p g t)) ∙ ap (λ k. (made_for k kit g).got) (sym library);
  dynamic = ap (λ k. length (if is_kernel k then [] else flat_map dyn_bytes (dynamic_of kit g p))) library
      ∙ (length-rows dyn_bytes 16 (dynamic_of kit g p) length-dyn ∙ (ap (λ n. 16 * n) (length-dynamic kit g p) ∙ ap (λ k. (made_for k kit g).dynamic) (sym library)));
}
