-- Alignments are powers of two: a page, and those of pieces.
use Rattle.std.proofs.Common.{ℕ, zero, suc, ◌≡◌, ◌+◌, ◌*◌, ◌/◌, ◌%◌, ◌^◌, ◌<◌, ◌≤◌, ◌∙◌, List, [], ◌∷◌, refl, ap, subst, sym, arith, true, inl, inr, max}
use Rattle.std.specs.Prelude.{All, fold}
use Rattle.std.specs.Int.{is_power_of_two}
use Rattle.std.specs.Int.Count.{ones, ones_step}
use Rattle.std.proofs.Math.Nat.{max-eq_left, max-eq_right, pow-succ'}
use Rattle.std.proofs.lemmas.Bool.{cases_lt, eq-eqb}
use Rattle.std.proofs.lemmas.List.Elements.{All-head, All-tail}
use Rattle.kl_model.specs.Sizes.{page_for, page_of}
use Rattle.kl_model.specs.Sound.{IsSoundGraph}
use Rattle.kl_model.specs.declared.graph.Graph.{Graph}
use Rattle.kl_model.specs.declared.graph.Piece.{Piece}
use Rattle.kl_model.specs.declared.kit.Kit.{Kit}
use Rattle.kl_model.specs.declared.kit.KitKind.TheVariants.{Library}

-- one bit of a power of two is set
ones_zero : ones 0 ≡ 0
unfolding ones
ones_zero = refl

ones_power : (k : ℕ) → ones (2 ^ k) ≡ 1
ones_power zero = let step = ones_step 1 in omega (arith, step, ones_zero)
ones_power (suc k) =
    let twice : 2 ^ suc k ≡ 2 * 2 ^ k = pow-succ' 2 k in
    let half : 2 * 2 ^ k / 2 ≡ 2 ^ k = omega arith in
    let even : 2 * 2 ^ k % 2 ≡ 0 = omega arith in
    let rest : ones (2 * 2 ^ k / 2) ≡ 1 = ap ones half ∙ ones_power k in
    let step = ones_step (2 * 2 ^ k) in
    ap ones twice ∙ omega (arith, step, even, rest)

pub one_bit : (k : ℕ) → is_power_of_two (2 ^ k) ≡ true
one_bit k = eq-eqb (ones (2 ^ k)) 1 (ones_power k)

abbrev IsPower : ℕ → Type 0
IsPower n = (k : ℕ) × (n ≡ 2 ^ k)

more_power : (n m : ℕ) → IsPower n → IsPower m → IsPower (max n m)
more_power n m h k = elim (cases_lt n m) [
  | inl l ↦ subst IsPower (sym (max-eq_right (omega (arith, l)))) k
  | inr l ↦ subst IsPower (sym (max-eq_left (omega (arith, l)))) h
]

all_power : (n : ℕ) (xs : List Piece) → IsPower n → All (λ x. IsPower x.align) xs → IsPower (fold (λ n x. max n x.align) n xs)
all_power n [] h all = h
all_power n (x ∷ xs) h all =
    all_power (max n x.align) xs (more_power n x.align h (All-head (λ (x : Piece). IsPower x.align) x xs all)) (All-tail (λ (x : Piece). IsPower x.align) x xs all)

pub page_power : (kit : Kit) (g : Graph) → kit.kind ≡ Library → IsSoundGraph kit g → is_power_of_two (page_of kit g) ≡ true
page_power kit g library sound =
    let page : IsPower (page_for Library g) = all_power 4096 g.pieces (12, refl) (λ k d l. let a = (sound.pieces k d l).align in (a.0, a.2)) in
    ap (λ k. is_power_of_two (page_for k g)) library ∙ (ap is_power_of_two page.1 ∙ one_bit page.0)
