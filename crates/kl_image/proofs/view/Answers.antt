use Rattle.std.proofs.Common.{◌≡◌, ◌∙◌, [], length, sym, ap, arith, eq-eqb, ne_eqb}
use Rattle.std.proofs.lemmas.Result.{err_from_is_err_and}
use Rattle.kl_elf.specs.declared.records.Ehdr.{Ehdr}
use Rattle.kl_elf.specs.declared.abi.TheConstants.{ET_DYN}
use Rattle.kl_elf.proofs.Kept.{length-phdrs_from}
use Rattle.kl_image.specs.Headers.{head_flaws}
use Rattle.kl_image.specs.Flaws.{image_flaws}
use Rattle.kl_image.proofs.Whole.{none_is, head_first, segment_first, table_first, shared_right, fixed_right}
use Rattle.kl_image.specs.Loadable.{HasTables}
use Rattle.kl_image.proofs.TableLoads.{tables_load}
use Rattle.kl_image.proofs.Loads.{are_segments, apart}
use Rattle.kl_image.proofs.view.Goals as goal
use Rattle.kl_image.proofs.view.Goals.{then-head-eq-ET_DYN+in_ok-check_tables, else-head-eq-ET_DYN}

pub returns-in_err-head-clause-flaw : goal.returns-in_err-head-clause-flaw
returns-in_err-head-clause-flaw c =
    let p = err_from_is_err_and c.from_residual.result c.from_residual.ensures.1 in
    rw (p.1, p.2) (head_first c.args.bytes.now c.in_err-head.field-0.0 (sym c.in_err-head.ensures.flaw))

pub check_segments-requires-clause-few : goal.check_segments-requires-clause-few
check_segments-requires-clause-few c =
    let all = c.items.ensures ∙ c.in_ok-segments.ensures in
    let long = ap length all ∙ length-phdrs_from c.args.bytes.now c.in_ok-head.head.phoff c.in_ok-head.head.phnum in
    omega (arith, long)

pub returns-in_err-check_segments-clause-flaw : goal.returns-in_err-check_segments-clause-flaw
returns-in_err-check_segments-clause-flaw c =
    let b = c.args.bytes.now in
    let none = none_is (head_flaws b) (sym c.in_ok-head.ensures.flaw) in
    let p = err_from_is_err_and c.from_residual-in_err-check_segments.result c.from_residual-in_err-check_segments.ensures.1 in
    rw (p.1, p.2) (segment_first b c.in_err-check_segments.field-0.0 none c.in_err-check_segments.ensures.flaw)

pub returns-in_err-check_tables-clause-flaw : goal.returns-in_err-check_tables-clause-flaw
returns-in_err-check_tables-clause-flaw c =
    let b = c.args.bytes.now in
    let none = none_is (head_flaws b) (sym c.in_ok-head.ensures.flaw) in
    let shared = rw c.in_ok-head.ensures.head at (eq-eqb c.in_ok-head.head.kind ET_DYN c.if-head-eq-ET_DYN.true) in
    let p = err_from_is_err_and c.from_residual-in_err-check_tables.result c.from_residual-in_err-check_tables.ensures.1 in
    rw (p.1, p.2) (table_first b c.in_err-check_tables.field-0.0 none c.in_ok-check_segments.ensures.sound shared c.in_err-check_tables.ensures.flaw)

pub returns-clause-sound : goal.returns-clause-sound
returns-clause-sound c =
    let b = c.args.bytes.now in
    let none = none_is (head_flaws b) (sym c.in_ok-head.ensures.flaw) in
    let right = c.in_ok-check_segments.ensures.sound in
    elim c.if-head-eq-ET_DYN.branch as (λ x. image_flaws b ≡ []) [
      | then-head-eq-ET_DYN+in_ok-check_tables w ↦ shared_right b none right (rw c.in_ok-head.ensures.head at (eq-eqb c.in_ok-head.head.kind ET_DYN w.if-head-eq-ET_DYN.true))
          w.in_ok-check_tables.ensures.sound
      | else-head-eq-ET_DYN w ↦ fixed_right b none right (rw c.in_ok-head.ensures.head at (ne_eqb c.in_ok-head.head.kind ET_DYN w.if-head-eq-ET_DYN.false))
    ]

pub returns-clause-loadable : goal.returns-clause-loadable
returns-clause-loadable c =
    let b = c.args.bytes.now in
    let head = c.in_ok-head.ensures in
    let right = c.in_ok-check_segments.ensures.sound in
    record {
      machine = rw head.head at head.machine;
      kind = rw head.head at head.kind;
      table = rw head.head at head.lie;
      are_segments = are_segments b right;
      apart = apart b right;
      tables = λ shared. elim c.if-head-eq-ET_DYN.branch as (λ x. HasTables b) [
        | then-head-eq-ET_DYN+in_ok-check_tables w ↦ tables_load b w.in_ok-check_tables.ensures.sound
        | else-head-eq-ET_DYN w ↦ absurd (w.if-head-eq-ET_DYN.false (ap (λ (h : Ehdr). h.kind) head.head ∙ shared))
      ];
    }
