use Rattle.std.proofs.Common.{◌≡◌, ◌≢◌, ◌∙◌, ◌++◌, ◌∷◌, [], length, refl, sym, arith, length-append}
use Rattle.std.specs.Prelude.{Some}
use Rattle.kl_names.specs.Numbers.{place_in, with_name}
use Rattle.kl_names.proofs.NameLists.{with_new}
use Rattle.kl_sym.proofs.RunSteps.{found_push, is_new, was_there}
use Rattle.kl_sym.specs.declared.lines.TheConstants.{NO_RUNS}
use Rattle.kl_sym.proofs.lines.section_number.Goals as goal

pub returns-in_ok-push-clause-len : goal.returns-in_ok-push-clause-len
returns-in_ok-push-clause-len c =
    let names = c.args.sections.now in let s = c.args.section.now in
    let n = c.in_ok-number.field-0 in
    let last : n ≡ length names = (let a = c.if-number-len.true in let b = c.len.ensures in let d = c.requires.len in omega arith) in
    let at : place_in (with_name names s) s ≡ Some n = rw c.in_ok-number.ensures.names at c.in_ok-number.ensures.number in
    let more : c.number.new.self ≡ names ++ s ∷ [] = c.in_ok-number.ensures.names ∙ sym (with_new names s (is_new names s n at last)) in
    let one = length-append c.args.runs.now.items (NO_RUNS ∷ []) in
    let other = length-append names (s ∷ []) in
    let len = c.requires.len in
    rw (c.in_ok-push.ensures.items, more) (omega arith)

pub returns-in_ok-push-clause-same : goal.returns-in_ok-push-clause-same
returns-in_ok-push-clause-same c = λ k q.
    let names = c.args.sections.now in let s = c.args.section.now in
    let n = c.in_ok-number.field-0 in
    let last : n ≡ length names = (let a = c.if-number-len.true in let b = c.len.ensures in let d = c.requires.len in omega arith) in
    let at : place_in (with_name names s) s ≡ Some n = rw c.in_ok-number.ensures.names at c.in_ok-number.ensures.number in
    let new = is_new names s n at last in
    let more : c.number.new.self ≡ names ++ s ∷ [] = c.in_ok-number.ensures.names ∙ sym (with_new names s new) in
    rw (c.in_ok-push.ensures.items, more) (found_push names c.args.runs.now.items s k q c.requires.len new)

pub returns-else-number-len-clause-len : goal.returns-else-number-len-clause-len
returns-else-number-len-clause-len c =
    let names = c.args.sections.now in let s = c.args.section.now in
    let n = c.in_ok-number.field-0 in
    let apart : n ≢ length names = λ e. c.if-number-len.false (let b = c.len.ensures in let d = c.requires.len in omega (arith, e)) in
    let at : place_in (with_name names s) s ≡ Some n = rw c.in_ok-number.ensures.names at c.in_ok-number.ensures.number in
    rw (c.in_ok-number.ensures.names, was_there names s n at apart) c.requires.len

pub returns-else-number-len-clause-same : goal.returns-else-number-len-clause-same
returns-else-number-len-clause-same c = λ k q.
    let names = c.args.sections.now in let s = c.args.section.now in
    let n = c.in_ok-number.field-0 in
    let apart : n ≢ length names = λ e. c.if-number-len.false (let b = c.len.ensures in let d = c.requires.len in omega (arith, e)) in
    let at : place_in (with_name names s) s ≡ Some n = rw c.in_ok-number.ensures.names at c.in_ok-number.ensures.number in
    rw (c.in_ok-number.ensures.names, was_there names s n at apart) refl
