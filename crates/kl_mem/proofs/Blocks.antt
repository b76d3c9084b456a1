-- The blocks that are left.
use Rattle.std.proofs.Common.{◌≡◌, ◌+◌, ◌<◌, ℕ, List, ◌∷◌, drop, length, get_or, drop-cons, add-one, sym, ap, ◌∙◌}

-- the block at a place, and those behind it
pub next_block : (blocks : List (List ℕ)) (i : ℕ) (block : List ℕ) → i < length blocks → block ≡ get_or blocks i block → drop i blocks ≡ block ∷ drop (i + 1) blocks
next_block blocks i block within is = rw (add-one) (drop-cons blocks i block within) ∙ ap (λ (b : List ℕ). b ∷ drop (i + 1) blocks) (sym is)
