use Rattle.std.proofs.Common.{◌≡◌, length, refl, arith}
use Rattle.std.specs.Prelude.{Some, slice_get}
use Rattle.std.proofs.lemmas.Option.{slice_get_read}
use Rattle.kl_names.specs.Numbers.{place_in}
use Rattle.kl_sym.proofs.RunSteps.{found_set, place_low}
use Rattle.kl_sym.proofs.lines.note_run.Goals as goal

pub index-requires : goal.index-requires
index-requires c =
    let at = c.in_ok-number.ensures.number in
    let low = place_low c.section_number.new.sections c.items.result.now c.in_ok-number.number at in
    let len = c.in_ok-number.ensures.len in
    omega arith

pub index_mut-requires : goal.index_mut-requires
index_mut-requires c =
    let at = c.in_ok-number.ensures.number in
    let low = place_low c.section_number.new.sections c.items.result.now c.in_ok-number.number at in
    let len = c.in_ok-number.ensures.len in
    omega arith

pub returns-clause-noted : goal.returns-clause-noted
returns-clause-noted c = λ k q.
    let names = c.section_number.new.sections in let runs = c.section_number.new.runs.items in
    let n = c.in_ok-number.number in
    let s = c.args.run.now.section in
    let at : place_in names s ≡ Some n = rw (← c.items.ensures.items) c.in_ok-number.ensures.number in
    let low = place_low names s n at in
    let len = c.in_ok-number.ensures.len in
    let here : slice_get runs n ≡ Some c.index.result.now = slice_get_read runs (length runs) n c.index.result.now refl (omega arith) c.index.ensures in
    rw (← c.in_ok-number.ensures.same k q) (found_set names runs s n c.args.area c.index.result.now c.with.result c.args.run.now.class k q len at here c.with.ensures)
