-- One piece more, of those that stand in the graph's order.
use Rattle.std.proofs.Common.{ℕ, suc, ◌≡◌, ◌+◌, ◌∙◌, append_assoc, List, [], ◌∷◌, ◌++◌, ap, sym, arith, refl, Bool, true, false, ◌&&◌, Option}
use Rattle.std.specs.Prelude.{cond, Some, None, ◌==◌}
use Rattle.kl_base.specs.declared.class.Class.TheVariants.{Text}
use Rattle.kl_model.specs.Line.{piece_part}
use Rattle.kl_model.specs.Lists.{each_from, only_if}
use Rattle.kl_model.specs.declared.graph.PieceId.TheVariants as id
use Rattle.kl_model.specs.declared.graph.Piece.{Piece}
use Rattle.kl_model.specs.declared.place.LinePart.{LinePart}
use Rattle.kl_layout.specs.Spreads.{is_in_order, spread_number}

-- the default piece of the code
abbrev pub first_piece : Piece
first_piece = record { id = id.Section 0 0; class = Text; area = 0; size = 0; align = 0; bytes = record { at = 0; len = 0 } }

module _ (commons n : ℕ) (x : Piece) (part : LinePart) where
  abbrev pub where_it_stands : Option ℕ
  where_it_stands = cond (is_in_order x) (Some (spread_number commons x)) None

  pub order_some : (spread : ℕ) → where_it_stands ≡ Some spread → only_if (is_in_order x && (spread_number commons x == n)) part ≡ only_if (spread == n) part
  order_some spread e = go (is_in_order x) refl
    where
      go : (t : Bool) → is_in_order x ≡ t → only_if (is_in_order x && (spread_number commons x == n)) part ≡ only_if (spread == n) part
      go true t =
          let found : Some (spread_number commons x) ≡ Some spread = rw t at e in
          let same : spread_number commons x ≡ spread = cc in
          rw t (ap (λ m. only_if (m == n) part) same)
      go false t = let bad : None ≡ Some spread = rw t at e in cc

  pub order_none : where_it_stands ≡ None → only_if (is_in_order x && (spread_number commons x == n)) part ≡ []
  order_none e = go (is_in_order x) refl
    where
      go : (t : Bool) → is_in_order x ≡ t → only_if (is_in_order x && (spread_number commons x == n)) part ≡ []
      go true t = let bad : Some (spread_number commons x) ≡ None = rw t at e in cc
      go false t = rw t refl

-- the parts so far and those of the pieces that are left
module _ (commons n k : ℕ) (x : Piece) (xs rest : List Piece) (split : xs ≡ x ∷ rest) (old target : List LinePart) where
  abbrev pub ordered_from : ℕ → List Piece → List LinePart
  ordered_from m ys = each_from m (λ m y. only_if (is_in_order y && (spread_number commons y == n)) (piece_part m y)) ys

  pub order_more : (spread : ℕ) (new : List LinePart) → where_it_stands commons n x (piece_part k x) ≡ Some spread → new ≡ old ++ only_if (spread == n) (piece_part k x)
      → old ++ ordered_from k xs ≡ target → new ++ ordered_from (k + 1) rest ≡ target
  order_more spread new there pushed whole =
      let next : k + 1 ≡ suc k = omega arith in
      let stands = order_some commons n x (piece_part k x) spread there in
      let part = only_if (spread == n) (piece_part k x) in
      ap (λ m. new ++ ordered_from m rest) next
      ∙ (ap (λ l. l ++ ordered_from (suc k) rest) pushed
      ∙ (append_assoc old part (ordered_from (suc k) rest)
      ∙ (ap (λ l. old ++ (l ++ ordered_from (suc k) rest)) (sym stands) ∙ (ap (λ l. old ++ ordered_from k l) (sym split) ∙ whole))))

  pub order_skip : where_it_stands commons n x (piece_part k x) ≡ None → old ++ ordered_from k xs ≡ target → old ++ ordered_from (k + 1) rest ≡ target
  order_skip none whole =
      let next : k + 1 ≡ suc k = omega arith in
      let nothing = order_none commons n x (piece_part k x) none in
      ap (λ m. old ++ ordered_from m rest) next
      ∙ (ap (λ l. old ++ (l ++ ordered_from (suc k) rest)) (sym nothing) ∙ (ap (λ l. old ++ ordered_from k l) (sym split) ∙ whole))
