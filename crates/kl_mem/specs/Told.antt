-- What a store that notes its steps tells.
use Rattle.std.specs.Prelude.{◌≡◌, ◌≤◌, ℕ, List, length, take, Option, Some}
use Rattle.std.proofs.Common.{refl, sym, subst, arith}
use Rattle.std.proofs.lemmas.List.{take_all}
use Rattle.kl_store.specs.Names.{Names}
use Rattle.kl_store.specs.Disk.{Disk, IsImage, names_now}
use Rattle.kl_store.specs.Meaning.{Meaning}
use Rattle.kl_mem.specs.declared.step.Step.{Step}
use Rattle.kl_mem.specs.Record.{disk_of, WasImage}

pub same_disk : (d e : Disk) → ◌≡◌ {A = Option Disk} (Some d) (Some e) → d ≡ e
same_disk d e is = cc

pub was_now : (steps : List Step) (d : Disk) (t : ℕ) (x : Names) → ◌≡◌ {A = Option Disk} (Some (disk_of steps)) (Some d) → t ≤ length steps → IsImage d x → WasImage steps t x
was_now steps d t x told le image = record {
  at = length steps;
  since = le;
  within = omega arith;
  image = subst (λ (l : List Step). IsImage (disk_of l) x) (sym (take_all (length steps) steps (omega arith))) (subst (λ (e : Disk). IsImage e x) (sym (same_disk _ _ told)) image);
}

pub was_before : (steps : List Step) (t u : ℕ) (x : Names) → u ≤ t → WasImage steps t x → WasImage steps u x
was_before steps t u x le was = record { at = was.at; since = omega (arith, was.since); within = was.within; image = was.image }

pub was_only : (steps : List Step) (d : Disk) (x : Names) → ◌≡◌ {A = Option Disk} (Some (disk_of steps)) (Some d) → WasImage steps (length steps) x → IsImage d x
was_only steps d x told was =
    let all : take was.at steps ≡ steps = take_all was.at steps was.since in
    subst (λ (e : Disk). IsImage e x) (same_disk _ _ told) (subst (λ (l : List Step). IsImage (disk_of l) x) all was.image)

-- the disk, the number of steps as the clock, and each image after each of them
abbrev pub told_by : List Step → Meaning
told_by steps = record {
  names = Some (names_now (disk_of steps));
  disk = Some (disk_of steps);
  clock = length steps;
  image_since = WasImage steps;
  names_are = refl;
  counts_now = was_now steps;
  counts_before = was_before steps;
  only_now = was_only steps;
}
