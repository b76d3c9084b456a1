-- A window that shows all writes of an image shows the image.
use Rattle.std.proofs.Common.{ℕ, suc, ◌≡◌, ◌+◌, ◌<◌, ◌∙◌, List, [], ◌∷◌, ◌++◌, length, map, get_or, refl, ap, subst, arith, true}
use Rattle.std.specs.Prelude.{Option, if◌then◌else◌}
use Rattle.std.proofs.lemmas.List.{get_or-map}
use Rattle.kl_model.specs.Image.{image_byte, is_within}
use Rattle.kl_model.specs.Leads.{filed_value}
use Rattle.kl_model.specs.Lists.{each, each_from}
use Rattle.kl_model.specs.Tables.{made_bytes}
use Rattle.kl_model.specs.declared.graph.Graph.{Graph}
use Rattle.kl_model.specs.declared.kit.Kit.{Kit}
use Rattle.kl_model.specs.declared.object.Input.{Input}
use Rattle.kl_model.specs.declared.place.Gaps.{Gaps}
use Rattle.kl_model.specs.declared.place.Placement.{Placement}
use Rattle.kl_model.proofs.ImageBytes.{within_is}
use Rattle.kl_write.proofs.ImageWrites.{written_image}
use Rattle.kl_write.proofs.Shown.{shows-append}
use Rattle.kl_write.proofs.WholeOrder.{whole_order}
use Rattle.kl_write.specs.LaidKits.{HasAreaAddresses, HasMadeBytes, IsLaidKit, image_headers}
use Rattle.kl_write.specs.Windows.{Shows, Write, same_from, text_from, written}
use Rattle.kl_write.specs.Writes.{field_write, field_writes, gap_writes, head_write, made_write, made_writes, no_field, nth_value_write, padding_writes, piece_writes, writes}

-- what each item gives by its number
each-at : {X Y : Type 0} (f h : ℕ → X → List Y) (n : ℕ) (xs : List X) (d : X) → ((k : ℕ) → k < length xs → f (n + k) (get_or xs k d) ≡ h (n + k) (get_or xs k d)) → each_from n f xs ≡ each_from n h xs
each-at f h n [] d same = refl
each-at f h n (x ∷ xs) d same =
    let z : n + 0 ≡ n = omega arith in
    let first : f n x ≡ h n x = rw z at (same 0 (omega arith)) in
    rw (first, each-at f h (suc n) xs d (λ k l. let e : suc n + k ≡ n + suc k = omega arith in rw e (same (suc k) (omega (arith, l))))) refl

-- the areas that the linker makes
module _ (kit : Kit) (inputs : List Input) (g : Graph) (p : Placement) where
  pub made_are : (stubs tables got dynamic : List ℕ) → stubs ≡ made_bytes kit inputs g p 6 → tables ≡ made_bytes kit inputs g p 8 → got ≡ made_bytes kit inputs g p 13 → dynamic ≡ made_bytes kit inputs g p 14
      → made_write kit.kind p 6 stubs ∷ made_write kit.kind p 8 tables ∷ made_write kit.kind p 13 got ∷ made_write kit.kind p 14 dynamic ∷ [] ≡ made_writes kit inputs g p
  made_are stubs tables got dynamic e f h i = rw (e, f, h, i) refl

module _ (kit : Kit) (inputs : List Input) (g : Graph) (gaps : Option Gaps) (order : List ℕ) (p : Placement) (l : IsLaidKit kit g gaps order p) (numbers : HasAreaAddresses p)
    (sizes : HasMadeBytes kit inputs g p) where
  fields_are : each g.fields (nth_value_write kit.kind g p (map (filed_value kit p g) g.fields)) ≡ field_writes kit g p
  fields_are =
      each-at (nth_value_write kit.kind g p (map (filed_value kit p g) g.fields)) (field_write kit g p) 0 g.fields no_field
      (λ k h. let z : 0 + k ≡ k = omega arith in let v = get_or-map (filed_value kit p g) g.fields k no_field 0 h in rw (z, v) refl)

  shown : (old new : List ℕ) (at : ℕ) → Shows old new at (same_from at (length old) 0 ∷ writes kit inputs g gaps p) → (k : ℕ) → k < length new → get_or new k 0 ≡ image_byte kit inputs g gaps p (at + k)
  shown old new at s k h =
      let long = s.long in
      let less : k < length old = omega (arith, long, h) in
      let zeroed : is_within at (length old) (at + k) ≡ true = within_is at (length old) (at + k) (omega arith, omega (arith, less)) in
      s.bytes k less
      ∙ (ap (λ b. written (if b then 0 else get_or old k 0) (writes kit inputs g gaps p) (at + k)) zeroed
      ∙ written_image kit inputs g gaps order p l.origin l.laid l.small l.base l.sound (whole_order g order l.whole) numbers sizes (at + k))

  -- the passes, one after another
  pub filled : (old a b c d e new : List ℕ) (at : ℕ) (head values : List ℕ) (made : List Write) → Shows old a at (same_from at (length old) 0 ∷ padding_writes kit.kind p)
      → Shows a b at (piece_writes kit.kind inputs g p) → Shows b c at (gap_writes kit.kind g gaps p) → Shows c d at made → Shows d e at (each g.fields (nth_value_write kit.kind g p values))
      → Shows e new at (text_from 0 head ∷ []) → head ≡ image_headers kit p g → made ≡ made_writes kit inputs g p → values ≡ map (filed_value kit p g) g.fields
      → (k : ℕ) → k < length new → get_or new k 0 ≡ image_byte kit inputs g gaps p (at + k)
  filled old a b c d e new at head values made s t u v w x head_same made_same values_are =
      let x1 : Shows e new at (head_write kit inputs g gaps p ∷ []) = subst (λ h. Shows e new at (text_from 0 h ∷ [])) head_same x in
      let w1 : Shows d e at (field_writes kit g p) = subst (λ ws. Shows d e at ws) (ap (λ vs. each g.fields (nth_value_write kit.kind g p vs)) values_are ∙ fields_are) w in
      let v1 : Shows c d at (made_writes kit inputs g p) = subst (λ ws. Shows c d at ws) made_same v in
      let last = shows-append d e new at (field_writes kit g p) (head_write kit inputs g gaps p ∷ []) w1 x1 in
      let four = shows-append c d new at (made_writes kit inputs g p) (field_writes kit g p ++ head_write kit inputs g gaps p ∷ []) v1 last in
      let three = shows-append b c new at (gap_writes kit.kind g gaps p) (made_writes kit inputs g p ++ (field_writes kit g p ++ head_write kit inputs g gaps p ∷ [])) u four in
      let two =
      shows-append a b new at (piece_writes kit.kind inputs g p) (gap_writes kit.kind g gaps p ++ (made_writes kit inputs g p ++ (field_writes kit g p ++ head_write kit inputs g gaps p ∷ []))) t three in
      let one = shows-append old a new at (same_from at (length old) 0 ∷ padding_writes kit.kind p)
      (piece_writes kit.kind inputs g p ++ (gap_writes kit.kind g gaps p ++ (made_writes kit inputs g p ++ (field_writes kit g p ++ head_write kit inputs g gaps p ∷ [])))) s two in
      shown old new at one
