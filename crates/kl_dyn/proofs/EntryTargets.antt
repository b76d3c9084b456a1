-- The fields, slots and stubs of a library that is laid out lead to places and names that are known.
use Rattle.std.proofs.Common.{◌≡◌, ◌<◌, List, [], ◌∷◌, filter, get_or, length, map, subst, arith, true, false, inl, inr, nat_eq, ℕ}
use Rattle.std.specs.Prelude.{All, None}
use Rattle.std.proofs.lemmas.Bool.{cases_Bool}
use Rattle.std.proofs.lemmas.List.Elements.{All-cons, All-head, All-tail}
use Rattle.kl_model.proofs.ListWords.{once-all}
use Rattle.kl_model.specs.Relocations.{is_slot_kind}
use Rattle.kl_model.specs.Slots.{name_of, slots, stubs, takes_stub, way, way_of}
use Rattle.kl_model.specs.Sound.{IsSoundField, IsSoundTarget}
use Rattle.kl_model.specs.declared.graph.Field.{Field}
use Rattle.kl_model.specs.declared.graph.Graph.{Graph}
use Rattle.kl_model.specs.declared.graph.Target.{Target}
use Rattle.kl_model.specs.declared.graph.Target.TheVariants.{Place, Abs, Edge, Name, Zero, Gone}
use Rattle.kl_model.specs.declared.kit.Kit.{Kit}
use Rattle.kl_model.specs.declared.place.Placement.{Placement}
use Rattle.kl_write.proofs.ImageFile.{all_in}
use Rattle.kl_write.proofs.SlotWords.{in_slots}
use Rattle.kl_write.proofs.SoundLaid.{in_get}
use Rattle.kl_write.proofs.Spans.{fields_placed, slots_placed}
use Rattle.kl_write.specs.LaidKits.{HasAreaAddresses, IsLaidKit}
use Rattle.kl_write.specs.Targets.{IsPlacedTarget}
use Rattle.kl_dyn.specs.Entries.{IsKnownField, IsKnownTarget}

module _ (kit : Kit) (g : Graph) (p : Placement) where
  known_target : (t : Target) → IsSoundTarget kit g t → IsPlacedTarget g p t → IsKnownTarget g p t
  known_target (Place n k) s h = h
  known_target (Abs n) s h = tt
  known_target (Edge n e) s h = h
  known_target (Name n) s h = s
  known_target Zero s h = tt
  known_target Gone s h = tt

  -- what takes a stub is a name
  name_known : (kind : ℕ) (t : Target) → takes_stub (way kind t) ≡ true → IsSoundTarget kit g t → name_of t < length g.names
  name_known kind (Place n k) e s = elim (cases_Bool (is_slot_kind kind)) [ inl a ↦ (let no : false ≡ true = rw a at e in cc) | inr a ↦ (let no : false ≡ true = rw a at e in cc) ]
  name_known kind (Abs n) e s = elim (cases_Bool (is_slot_kind kind)) [ inl a ↦ (let no : false ≡ true = rw a at e in cc) | inr a ↦ (let no : false ≡ true = rw a at e in cc) ]
  name_known kind (Edge n d) e s = elim (cases_Bool (is_slot_kind kind)) [ inl a ↦ (let no : false ≡ true = rw a at e in cc) | inr a ↦ (let no : false ≡ true = rw a at e in cc) ]
  name_known kind (Name n) e s = s
  name_known kind Zero e s = elim (cases_Bool (is_slot_kind kind)) [ inl a ↦ (let no : false ≡ true = rw a at e in cc) | inr a ↦ (let no : false ≡ true = rw a at e in cc) ]
  name_known kind Gone e s = cc

  stub_names : (fs : List Field) → All (IsSoundField kit g) fs → All (λ n. n < length g.names) (map (λ (f : Field). name_of f.target) (filter (λ (f : Field). takes_stub (way_of f)) fs))
  stub_names [] sound = λ k d h. absurd (omega (arith, h))
  stub_names (f ∷ fs) sound =
      let rest = stub_names fs (All-tail (IsSoundField kit g) f fs sound) in
      elim (cases_Bool (takes_stub (way_of f))) [
        | inl e ↦ rw e (All-cons (λ n. n < length g.names) (name_of f.target) _ (name_known f.kind f.target e (All-head (IsSoundField kit g) f fs sound).target) rest)
        | inr e ↦ rw e rest
      ]

  pub stubs_known : All (IsSoundField kit g) g.fields → All (λ n. n < length g.names) (stubs g)
  stubs_known sound = once-all nat_eq (λ n. n < length g.names) _ (stub_names g.fields sound)

  module _ (order : List ℕ) (l : IsLaidKit kit g None order p) (numbers : HasAreaAddresses p) where
    pub fields_known : All (IsKnownField g p) g.fields
    fields_known k d h =
        let f = fields_placed kit [] g None order p l numbers k d h in
        record { piece = f.piece; target = known_target (get_or g.fields k d).target (l.sound.fields k d h).target f.target }

    pub slots_known : All (IsKnownTarget g p) (slots g)
    slots_known k d h =
        let t = get_or (slots g) k d in
        let r = in_slots g t (in_get (slots g) k d h) in
        let sound = subst (IsSoundTarget kit g) r.2 (all_in (IsSoundField kit g) g.fields r.0 l.sound.fields r.1).target in
        known_target t sound (slots_placed kit [] g None order p l numbers k d h)
