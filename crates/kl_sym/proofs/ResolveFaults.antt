-- The first fault of a kit's names and fields, pass by pass.
use Rattle.std.proofs.Common.{◌≡◌, ◌∙◌, List, [], ◌∷◌, ◌++◌, refl, ap, sym, append_assoc}
use Rattle.std.specs.Prelude.{Some, None, slice_get}
use Rattle.kl_model.specs.Faults.{all_field_faults, clashes, doubled, no_entry, resolve_fault, resolve_faults}
use Rattle.kl_model.specs.declared.object.Input.{Input}
use Rattle.kl_model.specs.declared.kit.Kit.{Kit}
use Rattle.kl_model.specs.declared.link.LinkFault.{LinkFault}
use Rattle.kl_model.proofs.Each.{head_left, none_right}
use Rattle.kl_sym.specs.NameFaults.{name_faults}

module _ (kit : Kit) (inputs : List Input) where
  -- THE NAMES' FAULTS
  pub first-doubled : (e : LinkFault) → slice_get (doubled kit inputs) 0 ≡ Some e → slice_get (name_faults kit inputs) 0 ≡ Some e
  unfolding name_faults
  first-doubled e h = head_left (doubled kit inputs) _ e h

  pub first-clash : (e : LinkFault) → doubled kit inputs ≡ [] → slice_get (clashes kit inputs) 0 ≡ Some e → slice_get (name_faults kit inputs) 0 ≡ Some e
  unfolding name_faults
  first-clash e d h = rw d (head_left (clashes kit inputs) _ e h)

  pub first-entry : (e : LinkFault) → doubled kit inputs ≡ [] → clashes kit inputs ≡ [] → slice_get (no_entry kit inputs) 0 ≡ Some e → slice_get (name_faults kit inputs) 0 ≡ Some e
  unfolding name_faults
  first-entry e d c h = rw (d, c) h

  pub no-name : doubled kit inputs ≡ [] → clashes kit inputs ≡ [] → no_entry kit inputs ≡ [] → name_faults kit inputs ≡ []
  unfolding name_faults
  no-name d c n = rw (d, c, n) refl

  -- THOSE OF NAMES AND FIELDS
  pub faults_are : resolve_faults kit inputs ≡ name_faults kit inputs ++ all_field_faults kit inputs
  unfolding resolve_faults name_faults
  faults_are =
      sym (append_assoc (doubled kit inputs) _ (all_field_faults kit inputs)
      ∙ ap (λ l. doubled kit inputs ++ l) (append_assoc (clashes kit inputs) (no_entry kit inputs) (all_field_faults kit inputs)))

  pub first-name : (e : LinkFault) → slice_get (name_faults kit inputs) 0 ≡ Some e → resolve_fault kit inputs ≡ Some e
  first-name e h = rw faults_are (head_left (name_faults kit inputs) (all_field_faults kit inputs) e h)

  pub first-field : (e : LinkFault) → name_faults kit inputs ≡ [] → slice_get (all_field_faults kit inputs) 0 ≡ Some e → resolve_fault kit inputs ≡ Some e
  first-field e n h = rw (faults_are, n) h

  pub no-fault : name_faults kit inputs ≡ [] → all_field_faults kit inputs ≡ [] → resolve_fault kit inputs ≡ None
  no-fault n f = rw (faults_are, n, f) refl

none_head : (xs : List LinkFault) → slice_get xs 0 ≡ None → xs ≡ []
none_head [] e = refl
none_head (x ∷ xs) e = cc

-- where no fault stands no field has one
pub sound-fields : (kit : Kit) (inputs : List Input) → resolve_fault kit inputs ≡ None → all_field_faults kit inputs ≡ []
sound-fields kit inputs e =
    let none = none_head (resolve_faults kit inputs) e in
    none_right (name_faults kit inputs) (all_field_faults kit inputs) (sym (faults_are kit inputs) ∙ none)
