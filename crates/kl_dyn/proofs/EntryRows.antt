-- The rows of the tables, field by field and slot by slot.
use Rattle.std.proofs.Common.{ℕ, suc, ◌≡◌, ◌+◌, ◌<◌, ◌∙◌, List, [], ◌∷◌, ◌++◌, length, get_or, map, take, refl, ap, Bool, not, inl, inr}
use Rattle.std.specs.Prelude.{filter, option_to_list, pos}
use Rattle.std.proofs.lemmas.Bool.{cases_Bool}
use Rattle.std.proofs.lemmas.List.{map-append}
use Rattle.std.proofs.lemmas.List.Elements.{filter-append}
use Rattle.kl_model.specs.Lists.{each, each_from, only_if}
use Rattle.kl_model.specs.Slots.{field_entry, is_jump, is_loaded, jump_entries, rela_entries, slot_entry, slots}
use Rattle.kl_model.specs.Tables.{rela_of}
use Rattle.kl_model.specs.declared.graph.Field.{Field}
use Rattle.kl_model.specs.declared.graph.Graph.{Graph}
use Rattle.kl_model.specs.declared.graph.Target.TheVariants.{Place}
use Rattle.kl_model.specs.declared.place.Placement.{Placement}
use Rattle.kl_model.proofs.Each.{each_more, filter-each}
use Rattle.kl_dyn.specs.Entries.{field_entries, field_relas, slot_entries, slot_jumps, slot_relas}
use Rattle.kl_dyn.proofs.Counts.{no_field_jumps}

pub map-each : {X Y Z : Type 0} (h : Y → Z) (n : ℕ) (f : ℕ → X → List Y) (xs : List X) → map h (each_from n f xs) ≡ each_from n (λ k x. map h (f k x)) xs
map-each h n f [] = refl
map-each h n f (x ∷ xs) = map-append h (f n x) (each_from (suc n) f xs) ∙ ap (λ l. map h (f n x) ++ l) (map-each h (suc n) f xs)

abbrev pub zero_field : Field
zero_field = record { from = record { input = 0; section = 0; index = 0 }; piece = 0; offset = 0; kind = 0; addend = pos 0; target = Place 0 0 }

-- none pass a test: all pass its opposite
none_pass : {X : Type 0} (p : X → Bool) (xs : List X) → filter p xs ≡ [] → filter (λ x. not (p x)) xs ≡ xs
none_pass p [] e = refl
none_pass p (x ∷ xs) e = elim (cases_Bool (p x)) [
  | inl a ↦ let no : x ∷ filter p xs ≡ [] = rw a at e in cc
  | inr a ↦ rw a (ap (λ l. x ∷ l) (none_pass p xs (rw a at e)))
]

module _ (p : Placement) (g : Graph) where
  -- one field more
  pub field_more : (fs : List Field) (i : ℕ) (d : Field) → i < length fs → (b : Bool) → is_loaded (get_or fs i d).kind (get_or fs i d).target ≡ b
      → field_relas p g (take (i + 1) fs) ≡ field_relas p g (take i fs) ++ map (rela_of p g) (only_if b (field_entry (get_or fs i d) (get_or fs i d).target))
  field_more fs i d h b e =
      ap (map (rela_of p g)) (each_more (λ k f. only_if (is_loaded f.kind f.target) (field_entry f f.target)) fs i d h)
      ∙ (map-append (rela_of p g) (field_entries (take i fs)) (only_if (is_loaded (get_or fs i d).kind (get_or fs i d).target) (field_entry (get_or fs i d) (get_or fs i d).target))
      ∙ ap (λ b. field_relas p g (take i fs) ++ map (rela_of p g) (only_if b (field_entry (get_or fs i d) (get_or fs i d).target))) e)

  -- the tables before they are sorted
  pub first_table : map (rela_of p g) (rela_entries g) ≡ field_relas p g g.fields ++ each (slots g) (slot_relas p g)
  first_table =
      ap (map (rela_of p g)) (filter-append (λ e. not (is_jump e)) (field_entries g.fields) (slot_entries g (slots g)))
      ∙ (map-append (rela_of p g) (filter (λ e. not (is_jump e)) (field_entries g.fields)) (filter (λ e. not (is_jump e)) (slot_entries g (slots g)))
      ∙ (ap (λ l. map (rela_of p g) l ++ map (rela_of p g) (filter (λ e. not (is_jump e)) (slot_entries g (slots g)))) (none_pass is_jump (field_entries g.fields) (no_field_jumps g.fields))
      ∙ ap (λ l. field_relas p g g.fields ++ l)
      (ap (map (rela_of p g)) (filter-each (λ e. not (is_jump e)) 0 (λ k t. option_to_list (slot_entry g k t)) (slots g))
      ∙ map-each (rela_of p g) 0 (λ k t. filter (λ e. not (is_jump e)) (option_to_list (slot_entry g k t))) (slots g))))

  pub second_table : map (rela_of p g) (jump_entries g) ≡ each (slots g) (slot_jumps p g)
  second_table =
      ap (map (rela_of p g)) (filter-append is_jump (field_entries g.fields) (slot_entries g (slots g)))
      ∙ (ap (λ l. map (rela_of p g) (l ++ filter is_jump (slot_entries g (slots g)))) (no_field_jumps g.fields)
      ∙ (ap (map (rela_of p g)) (filter-each is_jump 0 (λ k t. option_to_list (slot_entry g k t)) (slots g))
      ∙ map-each (rela_of p g) 0 (λ k t. filter is_jump (option_to_list (slot_entry g k t))) (slots g)))
