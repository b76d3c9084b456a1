use Rattle.std.proofs.Common.{◌∙◌, ap, refl, arith}
use Rattle.kl_rel.proofs.Scans.{scan_same, scan_more}
use Rattle.kl_rel.proofs.scan.FieldScan.push.Goals as goal

pub returns-in_err-push-clause-scan : goal.returns-in_err-push-clause-scan
returns-in_err-push-clause-scan c = scan_same c.args.self.now _ c.in_err-push.ensures.items refl refl c.requires.scan

pub returns-then-width-ne0-clause-scan : goal.returns-then-width-ne0-clause-scan
returns-then-width-ne0-clause-scan c =
    let now = c.note.ensures in
    let end = rw c.width-width.ensures at now.end in
    scan_more c.args.self.now c.note.new.self c.args.field.now c.requires.scan (ap (λ v. v.items) now.fields ∙ c.in_ok-push.ensures.items) now.ends_count now.noted_count
    now.ends now.noted c.requires.section c.requires.end (λ _. end) (λ _. now.clear)

pub returns-else-width-ne0-clause-scan : goal.returns-else-width-ne0-clause-scan
returns-else-width-ne0-clause-scan c =
    let none = c.if-width-ne0.false in
    let is = c.width-width.ensures in
    scan_more c.args.self.now _ c.args.field.now c.requires.scan c.in_ok-push.ensures.items refl refl
    (λ n. omega arith) (λ n e. e) c.requires.section c.requires.end (λ wide. absurd (omega (arith, none, is, wide))) (λ wide. absurd (omega (arith, none, is, wide)))
