-- What is known of an allocated section of a file whose sections have no flaw.
use Rattle.std.proofs.Common.{ℕ, ◌≡◌, ◌+◌, ◌-◌, ◌<◌, ◌≤◌, true, List, refl, arith}
use Rattle.std.specs.Prelude.{None, unwrap_or}
use Rattle.std.proofs.lemmas.Bool.{ltb-false}
use Rattle.kl_rel.specs.Flaws.{first_of}
use Rattle.kl_rel.specs.Headers.{head, header_place, section}
use Rattle.kl_rel.specs.Sections.{is_allocated, is_too_large, no_name, section_name, names, flags_checks, form_checks, section_checks, section_flaw_of, sections_flaw}
use Rattle.kl_rel.specs.declared.fault.ReadKind.TheVariants.{SectionRange}
use Rattle.kl_rel.proofs.Places.{none_in, not_stands, none_at, section_where}
use Rattle.kl_base.specs.declared.limits.TheConstants.{SIZE_LIMIT}

-- the checks of a section of the table find nothing
pub section_passes : (b : List ℕ) (n : ℕ) → sections_flaw b ≡ None → 1 ≤ n → n < (head b).shnum → first_of (section_checks b (names b) (header_place b n) (section b n)) ≡ None
unfolding sections_flaw
section_passes b n e low high = none_at (section_flaw_of b) 1 ((head b).shnum - 1) n e low (omega arith)

-- nor do those of an allocated one's form
pub form_passes : (b : List ℕ) (n : ℕ) → sections_flaw b ≡ None → is_allocated (section b n) ≡ true
    → first_of (form_checks b (header_place b n) (unwrap_or (section_name b (names b) (section b n)) no_name) (section b n)) ≡ None
unfolding section_checks
form_passes b n e is =
    let here = section_where b n is_allocated refl is in
    let none = none_in (section_checks b (names b) (header_place b n) (section b n)) 2 (section_passes b n e here.low here.high) in
    rw is at none

pub size_limited : (b : List ℕ) (n : ℕ) → sections_flaw b ≡ None → is_allocated (section b n) ≡ true → (section b n).size ≤ SIZE_LIMIT
unfolding form_checks
size_limited b n e is =
    let none = not_stands (is_too_large (section b n).size) SectionRange (header_place b n + 32)
    (none_in (form_checks b (header_place b n) (unwrap_or (section_name b (names b) (section b n)) no_name) (section b n)) 3 (form_passes b n e is)) in
    ltb-false (SIZE_LIMIT) (section b n).size none

pub flags_passes : (b : List ℕ) (n : ℕ) → sections_flaw b ≡ None → is_allocated (section b n) ≡ true → first_of (flags_checks (header_place b n) (section b n)) ≡ None
unfolding section_checks
flags_passes b n e is =
    let here = section_where b n is_allocated refl is in
    let none = none_in (section_checks b (names b) (header_place b n) (section b n)) 1 (section_passes b n e here.low here.high) in
    rw is at none
