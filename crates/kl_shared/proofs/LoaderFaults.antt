-- Where no fault of a field stands, a library has no field that is refused.
use Rattle.std.proofs.Common.{ℕ, ◌≡◌, ◌+◌, ◌<◌, ◌∙◌, List, [], ◌++◌, get_or, length, refl, ap, subst, arith, Bool, true, false}
use Rattle.std.specs.Prelude.{All, Result, Ok, Err, cond}
use Rattle.std.specs.Result.{result_unwrap_or}
use Rattle.std.proofs.lemmas.List.{get_or_append_left}
use Rattle.kl_base.proofs.Bools.{and_left}
use Rattle.kl_base.specs.declared.class.Class.{Class}
use Rattle.kl_model.proofs.Each.{each-empty, none_left, none_right}
use Rattle.kl_model.specs.Carries.{no_piece, piece_at}
use Rattle.kl_model.specs.Dynamic.{is_kept_field}
use Rattle.kl_model.specs.Faults.{all_field_faults, field_faults, from_of, input_faults, loader_faults, missing_faults}
use Rattle.kl_model.specs.Fit.{AreFit}
use Rattle.kl_model.specs.Graphs.{Missing, Removed, Undefined, common_pieces, fields, graph, section_pieces, symbol_at, target}
use Rattle.kl_model.specs.Kept.{class_of, input_at, is_kept, no_input, section_at}
use Rattle.kl_model.specs.Lists.{only_if}
use Rattle.kl_model.specs.Names.{piece_number}
use Rattle.kl_model.specs.Relocations.{is_kind}
use Rattle.kl_model.specs.Slots.{is_not_fixed, is_read_only}
use Rattle.kl_model.specs.Texts.{text_at}
use Rattle.kl_model.specs.declared.graph.FieldAt.{FieldAt}
use Rattle.kl_model.specs.declared.graph.Target.{Target}
use Rattle.kl_model.specs.declared.graph.Target.TheVariants.{Zero}
use Rattle.kl_model.specs.declared.kit.Kit.{Kit}
use Rattle.kl_model.specs.declared.kit.KitKind.TheVariants.{Library}
use Rattle.kl_model.specs.declared.object.Input.{Input}
use Rattle.kl_sym.proofs.FieldTargets.{field_faults_of, no_entry_at}
use Rattle.kl_sym.proofs.KeptPieces.{kept_known, number-lt, piece_there}
use Rattle.kl_sym.proofs.SoundFields.{all_fields, made_of_entry}
use Rattle.kl_loading.specs.Reaching.{HasOnlyLoaded}

-- nothing is given where a test holds
only-empty : {X : Type 0} (b : Bool) (x : X) → only_if b x ≡ [] → b ≡ false
only-empty true x e = cc
only-empty false x e = refl

-- of a field without a fault neither of the loader's stands, whatever its target
no_faults : (name : List ℕ) (from : FieldAt) (c : Class) (kind : ℕ) (r : Result Target Missing) → missing_faults name from r ++ loader_faults Library from c kind r ≡ []
    → (is_not_fixed kind (result_unwrap_or r Zero) ≡ false) × (is_read_only c kind (result_unwrap_or r Zero) ≡ false)
no_faults name from c kind (Ok t) e = (
  only-empty (is_not_fixed kind t) _ (none_left (only_if (is_not_fixed kind t) _) (only_if (is_read_only c kind t) _) e),
  only-empty (is_read_only c kind t) _ (none_right (only_if (is_not_fixed kind t) _) (only_if (is_read_only c kind t) _) e),
)
no_faults name from c kind (Err Removed) e = cc
no_faults name from c kind (Err Undefined) e = cc

module _ (kit : Kit) (inputs : List Input) (fit : AreFit inputs) (library : kit.kind ≡ Library) (sound : all_field_faults kit inputs ≡ []) where
  -- the class of a kept section's piece
  piece_class : (i s : ℕ) → is_kept kit inputs i s ≡ true → (piece_at (graph kit inputs) (piece_number kit inputs i s)).class ≡ class_of (section_at inputs i s)
  unfolding graph
  piece_class i s kept =
      let known = kept_known kit inputs i s kept in
      let own = rw known.1.1 at kept in
      let low = number-lt kit inputs i known.1.0 known.0 known.1.2 own in
      rw known.1.1 (ap (λ x. x.class) (get_or_append_left (section_pieces kit inputs) (common_pieces kit inputs) no_piece _ low ∙ piece_there kit inputs i known.1.0 known.0 known.1.2 own no_piece))

  entry_holds : (i k : ℕ) (h : i < length inputs) (l : k < length (input_at inputs i).object.fields) (kept : is_kept_field kit inputs i (get_or (input_at inputs i).object.fields k no_entry_at) ≡ true)
      → (is_not_fixed (get_or (input_at inputs i).object.fields k no_entry_at).kind (made_of_entry kit inputs i (get_or (input_at inputs i).object.fields k no_entry_at)).target ≡ false)
      × (is_read_only (class_of (section_at inputs i (get_or (input_at inputs i).object.fields k no_entry_at).section)) (get_or (input_at inputs i).object.fields k no_entry_at).kind
      (made_of_entry kit inputs i (get_or (input_at inputs i).object.fields k no_entry_at)).target ≡ false)
  entry_holds i k h l kept =
      let f = get_or (input_at inputs i).object.fields k no_entry_at in
      let zero_i : 0 + i ≡ i = omega arith in
      let all = rw zero_i at (each-empty 0 (input_faults kit inputs) inputs sound i no_input h) in
      let none = each-empty 0 (λ k f. field_faults_of kit inputs i f) (input_at inputs i).object.fields all k no_entry_at l in
      let own : field_faults kit inputs i f ≡ [] = rw kept at none in
      let leads = target kit inputs i f.section f.symbol in
      let name = text_at (input_at inputs i).bytes (symbol_at inputs i f.symbol).name in
      let rest = none_right (only_if (Rattle.std.specs.Prelude.not (is_kind f.kind)) _) (missing_faults name (from_of i f) leads ++ loader_faults kit.kind (from_of i f) (class_of (section_at inputs i f.section)) f.kind leads) own in
      no_faults name (from_of i f) (class_of (section_at inputs i f.section)) f.kind leads
      (subst (λ k. missing_faults name (from_of i f) leads ++ loader_faults k (from_of i f) (class_of (section_at inputs i f.section)) f.kind leads ≡ []) library rest)

  all_fixed : All (λ f. is_not_fixed f.kind f.target ≡ false) (fields kit inputs)
  all_fixed = all_fields kit inputs fit sound (λ f. is_not_fixed f.kind f.target ≡ false) (λ i k h l kept. (entry_holds i k h l kept).0)

  all_writable : All (λ f. is_read_only (piece_at (graph kit inputs) f.piece).class f.kind f.target ≡ false) (fields kit inputs)
  all_writable =
      all_fields kit inputs fit sound (λ f. is_read_only (piece_at (graph kit inputs) f.piece).class f.kind f.target ≡ false) (λ i k h l kept.
      let f = get_or (input_at inputs i).object.fields k no_entry_at in
      rw (piece_class i f.section (and_left (is_kept kit inputs i f.section) _ kept)) (entry_holds i k h l kept).1)

  pub only_loaded : HasOnlyLoaded (graph kit inputs)
  unfolding graph
  only_loaded = record { fixed = all_fixed; writable = all_writable }
