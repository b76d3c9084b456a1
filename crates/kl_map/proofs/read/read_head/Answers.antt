use Rattle.std.proofs.Common.{◌≡◌, ◌∙◌, ℕ, Bool, true, false, List, cond, drop, sym, ap, Option}
use Rattle.std.specs.Prelude.{None, Some}
use Rattle.kl_map.proofs.Heads.{after_base, after_output, after_seed, wrong_base, wrong_first, wrong_output, wrong_seed}
use Rattle.kl_map.proofs.read.read_head.Goals as goal

-- the text begins with another line, or with the first
no_first : (text : List ℕ) (b : Bool) → b ≡ false → cond {A = Option (List ℕ)} b (Some (drop 13 text)) None ≡ None
no_first text b e = ap (λ t. cond {A = Option (List ℕ)} t (Some (drop 13 text)) None) e

with_first : (text rest : List ℕ) (b : Bool) → b ≡ true → rest ≡ drop 13 text → cond {A = Option (List ℕ)} b (Some (drop 13 text)) None ≡ Some rest
with_first text rest b e is = ap (λ t. cond {A = Option (List ℕ)} t (Some (drop 13 text)) None) e ∙ ap (λ (l : List ℕ). Some l) (sym is)

pub returns-in_default-clause-refused : goal.returns-in_default-clause-refused
returns-in_default-clause-refused c = (wrong_first c.args.text.now (no_first c.args.text.now _ c.in_default.ensures.cases)).refused

pub returns-in_default-clause-line : goal.returns-in_default-clause-line
returns-in_default-clause-line c = (wrong_first c.args.text.now (no_first c.args.text.now _ c.in_default.ensures.cases)).outside

pub returns-in_default-output_line-clause-refused : goal.returns-in_default-output_line-clause-refused
returns-in_default-output_line-clause-refused c =
    let first = with_first c.args.text.now c.in-Some.rest.now _ c.in-Some.ensures.cases.0 c.in-Some.ensures.cases.1 in
    (wrong_output c.args.text.now c.in-Some.rest.now first (sym c.in_default-output_line.ensures)).refused

pub returns-in_default-output_line-clause-line : goal.returns-in_default-output_line-clause-line
returns-in_default-output_line-clause-line c =
    let first = with_first c.args.text.now c.in-Some.rest.now _ c.in-Some.ensures.cases.0 c.in-Some.ensures.cases.1 in
    (wrong_output c.args.text.now c.in-Some.rest.now first (sym c.in_default-output_line.ensures)).outside

pub returns-in_default-seed_line-clause-refused : goal.returns-in_default-seed_line-clause-refused
returns-in_default-seed_line-clause-refused c =
    let text = c.args.text.now in
    let first = with_first text c.in-Some.rest.now _ c.in-Some.ensures.cases.0 c.in-Some.ensures.cases.1 in
    let output = after_output text c.in-Some.rest.now _ c.in-Some-output_line.named.1.now first (sym c.in-Some-output_line.ensures) in
    (wrong_seed text _ c.in-Some-output_line.named.1.now output (sym c.in_default-seed_line.ensures)).refused

pub returns-in_default-seed_line-clause-line : goal.returns-in_default-seed_line-clause-line
returns-in_default-seed_line-clause-line c =
    let text = c.args.text.now in
    let first = with_first text c.in-Some.rest.now _ c.in-Some.ensures.cases.0 c.in-Some.ensures.cases.1 in
    let output = after_output text c.in-Some.rest.now _ c.in-Some-output_line.named.1.now first (sym c.in-Some-output_line.ensures) in
    (wrong_seed text _ c.in-Some-output_line.named.1.now output (sym c.in_default-seed_line.ensures)).outside

pub returns-in_default-base_line-clause-refused : goal.returns-in_default-base_line-clause-refused
returns-in_default-base_line-clause-refused c =
    let text = c.args.text.now in
    let first = with_first text c.in-Some.rest.now _ c.in-Some.ensures.cases.0 c.in-Some.ensures.cases.1 in
    let output = after_output text c.in-Some.rest.now _ c.in-Some-output_line.named.1.now first (sym c.in-Some-output_line.ensures) in
    let seed = after_seed text _ c.in-Some-output_line.named.1.now _ c.in-Some-seed_line.seeded.1.now output (sym c.in-Some-seed_line.ensures) in
    (wrong_base text _ _ c.in-Some-seed_line.seeded.1.now seed (sym c.in_default-base_line.ensures)).refused

pub returns-in_default-base_line-clause-line : goal.returns-in_default-base_line-clause-line
returns-in_default-base_line-clause-line c =
    let text = c.args.text.now in
    let first = with_first text c.in-Some.rest.now _ c.in-Some.ensures.cases.0 c.in-Some.ensures.cases.1 in
    let output = after_output text c.in-Some.rest.now _ c.in-Some-output_line.named.1.now first (sym c.in-Some-output_line.ensures) in
    let seed = after_seed text _ c.in-Some-output_line.named.1.now _ c.in-Some-seed_line.seeded.1.now output (sym c.in-Some-seed_line.ensures) in
    (wrong_base text _ _ c.in-Some-seed_line.seeded.1.now seed (sym c.in_default-base_line.ensures)).outside

pub returns-clause-text : goal.returns-clause-text
returns-clause-text c =
    let text = c.args.text.now in
    let first = with_first text c.in-Some.rest.now _ c.in-Some.ensures.cases.0 c.in-Some.ensures.cases.1 in
    let output = after_output text c.in-Some.rest.now _ c.in-Some-output_line.named.1.now first (sym c.in-Some-output_line.ensures) in
    let seed = after_seed text _ c.in-Some-output_line.named.1.now _ c.in-Some-seed_line.seeded.1.now output (sym c.in-Some-seed_line.ensures) in
    (after_base text _ _ c.in-Some-seed_line.seeded.1.now c.in-Some-base_line.base c.in-Some-base_line.rest.now seed (sym c.in-Some-base_line.ensures)).0
