-- The file headers of images have no flaw.
use Rattle.std.proofs.Common.{ℕ, ◌≡◌, ◌+◌, ◌*◌, ◌<◌, ◌≤◌, ◌∙◌, List, [], length, refl, arith, false}
use Rattle.std.specs.Prelude.{nat_lt}
use Rattle.std.proofs.lemmas.Bool.{le-ltb}
use Rattle.kl_elf.specs.Records.{ehdr_at}
use Rattle.kl_elf.specs.declared.records.Ehdr.{Ehdr}
use Rattle.kl_elf.specs.declared.records.Phdr.{Phdr}
use Rattle.kl_model.specs.Carries.{kernel_head, library_head, segments_of}
use Rattle.kl_model.specs.declared.graph.Graph.{Graph}
use Rattle.kl_model.specs.declared.place.Placement.{Placement}
use Rattle.kl_image.specs.Headers.{field_flaws, head_flaws}

pub head_right : (b : List ℕ) (h : Ehdr) → ehdr_at b 0 ≡ h → 64 ≤ length b → field_flaws b h ≡ [] → head_flaws b ≡ []
head_right b h is long none = let whole : nat_lt (length b) 64 ≡ false = le-ltb (length b) 64 long in rw (whole, is) none

pub kernel_fields : (b : List ℕ) (p : Placement) (g : Graph) → (kernel_head p g).phoff + 56 * length (segments_of p) ≤ length b → field_flaws b (kernel_head p g) ≡ []
unfolding field_flaws
kernel_fields b p g inside =
    let none : nat_lt (length b) ((kernel_head p g).phoff + 56 * length (segments_of p)) ≡ false = le-ltb (length b) ((kernel_head p g).phoff + 56 * length (segments_of p)) inside in
    rw none refl

pub library_fields : (b : List ℕ) (phdrs : List Phdr) (p : Placement) (g : Graph) → 64 + 56 * length phdrs ≤ length b → field_flaws b (library_head phdrs p g) ≡ []
unfolding field_flaws
library_fields b phdrs p g inside =
    let none : nat_lt (length b) (64 + 56 * length phdrs) ≡ false = le-ltb (length b) (64 + 56 * length phdrs) inside in
    rw none refl
