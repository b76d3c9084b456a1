-- Both slots are recovered, one after the other.
use Rattle.std.proofs.Common.{◌≡◌, [], ◌∷◌, ap, ◌∙◌, subst, sym}
use Rattle.std.specs.Prelude.{Some}
use Rattle.std.specs.Option.{ForSome}
use Rattle.kl_base.specs.declared.class.Slot.{Slot}
use Rattle.kl_base.specs.declared.class.Slot.TheVariants.{Kernel, Libs}
use Rattle.kl_store.specs.Disk.{names_now}
use Rattle.kl_store.specs.Files.{KeepsNames}
use Rattle.kl_store.specs.Images.{IsSettledAt}
use Rattle.kl_store.specs.Meaning.{Meaning}
use Rattle.kl_store.specs.Names.{Names}
use Rattle.kl_store.proofs.KeptNames.{keeps_fewer, keeps_trans}
use Rattle.kl_store.proofs.Moments.{told_disk, told_names}
use Rattle.kl_install.specs.After.{after}
use Rattle.kl_install.specs.Others.{IsNoneOf}
use Rattle.kl_install.specs.Recovery.{slot_end}
use Rattle.kl_install.specs.declared.recover.SlotEnd.{SlotEnd}
use Rattle.kl_jobs.specs.Recovery.{IsNoneOfBoth, both_after, both_ends}

module _ (a b : Meaning) (k l : Slot) (is_kernel : k ≡ Kernel) (is_libs : l ≡ Libs) (first : ForSome a.disk (λ d. IsSettledAt b.disk (λ x. x ≡ after k (names_now d)))) where
  -- the names on which the second slot is recovered
  record IsBetween (m n : Names) : Type 0 where
    pub told : b.names ≡ Some n
    pub is : n ≡ after Kernel m

  between : (m : Names) → a.names ≡ Some m → (n : Names) × IsBetween m n
  between m told =
      let d = told_disk a m told in
      let mid = first d.0 d.1 in (
        mid.0,
        record {
          told = told_names b _ mid.1;
          is = mid.2 ∙ ap (λ (s : Slot). after s (names_now d.0)) is_kernel ∙ ap (after Kernel) d.2;
        },
      )

  pub both_end : (one two : SlotEnd) → ForSome a.names (λ m. one ≡ slot_end k m) → ForSome b.names (λ m. two ≡ slot_end l m) → ForSome a.names (λ m. (one ∷ two ∷ []) ≡ both_ends m)
  both_end one two ends_one ends_two m told =
      let mid = between m told in
      let one_is : one ≡ slot_end Kernel m = ends_one m told ∙ ap (λ (s : Slot). slot_end s m) is_kernel in
      let two_is : two ≡ slot_end Libs (after Kernel m) = ends_two mid.0 mid.1.told ∙ ap (λ (s : Slot). slot_end s mid.0) is_libs ∙ ap (slot_end Libs) mid.1.is in
      ap (λ (e : SlotEnd). e ∷ two ∷ []) one_is ∙ ap (λ (e : SlotEnd). slot_end Kernel m ∷ e ∷ []) two_is

  pub both_done : (c : Meaning) → ForSome b.disk (λ d. IsSettledAt c.disk (λ x. x ≡ after l (names_now d))) → ForSome a.disk (λ d. IsSettledAt c.disk (λ x. x ≡ both_after (names_now d)))
  both_done c second d told =
      let mid = first d told in
      let end = second _ mid.1 in
      (end.0, end.1, end.2 ∙ ap (λ (s : Slot). after s mid.0) is_libs ∙ ap (after Libs) (mid.2 ∙ ap (λ (s : Slot). after s (names_now d)) is_kernel))

  pub both_others : (c : Meaning) → ForSome a.names (λ m. KeepsNames (IsNoneOf k m) a b) → ForSome b.names (λ m. KeepsNames (IsNoneOf l m) b c) → ForSome a.names (λ m. KeepsNames (IsNoneOfBoth m) a c)
  both_others c one two m told =
      let mid = between m told in
      keeps_trans (keeps_fewer (λ n p. subst (λ (s : Slot). IsNoneOf s m n) (sym is_kernel) p.0) (one m told))
      (keeps_fewer (λ n p. subst (λ (s : Slot). IsNoneOf s mid.0 n) (sym is_libs) (subst (λ (x : Names). IsNoneOf Libs x n) (sym mid.1.is) p.1)) (two mid.0 mid.1.told))
