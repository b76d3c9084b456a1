-- A kernel that is linked takes its place.
use Rattle.std.proofs.Common.{◌≡◌, ℕ, List, [], ◌∷◌, ap, ◌∙◌, subst, inl}
use Rattle.std.specs.Prelude.{Option, Some}
use Rattle.std.specs.Option.{ForSome}
use Rattle.kl_base.specs.declared.class.Slot.TheVariants as slot
use Rattle.kl_store.specs.Calls.{Stays}
use Rattle.kl_store.specs.Disk.{names_now}
use Rattle.kl_store.specs.Files.{KeepsNames}
use Rattle.kl_store.specs.Images.{IsSettledAt, Leaves, NamesHave}
use Rattle.kl_store.specs.Meaning.{Meaning}
use Rattle.kl_store.specs.Names.{Names}
use Rattle.kl_store.specs.Outside.{Blocks}
use Rattle.kl_store.proofs.KeptNames.{keeps_fewer, keeps_trans, stays_kept}
use Rattle.kl_store.proofs.Moments.{stays_then, told_names, weaker}
use Rattle.kl_digest.specs.Records.{record_of}
use Rattle.kl_link.specs.Links.{report_of}
use Rattle.kl_link.specs.declared.report.Report.{Report}
use Rattle.kl_batch.specs.Batches.{AreInstalled, IsKernelBatch, MayLeave, Plan, Reached, kernel_files}
use Rattle.kl_batch.specs.Together.{AreInPlace, IsElsewhere}
use Rattle.kl_batch.proofs.Matched.{stays_matched}
use Rattle.kl_jobs.specs.Kernels.{IsKernelLink, IsNoKernelFile, KernelMayLeave, RelinksUnder, kernel_batches}

-- names that are none of the kernel's
pub elsewhere : (image record_text map : List ℕ) (n : List ℕ) → IsNoKernelFile n → IsElsewhere slot.Kernel (kernel_files image record_text map) n
elsewhere image record_text map n p = (p.0.0, p.0.1, (p.1, (p.2, (p.3, tt))))

module _ {given : Option (List ℕ)} {b0 b1 : Blocks} {a b : Meaning} (image map : List ℕ) (report : Report) (link : IsKernelLink given b0 b1 a image map report) (still : Stays a b) where
  abbrev p : Plan
  p = link.plan

  -- the batch is the plan's
  pub is_batch : (record_text : List ℕ) → record_text ≡ record_of report.digest → IsKernelBatch p image record_text map
  is_batch record_text is = record { plan = link.kernel; linked = link.linked; record_is = is ∙ ap (λ (r : Report). record_of r.digest) link.told }

  plans_are : (m : Names) → a.names ≡ Some m → p ∷ [] ≡ kernel_batches m p.seed
  plans_are m told = ap (λ (q : Plan). q ∷ []) (link.of_names m told)

  may_leave : (m x : Names) → a.names ≡ Some m → MayLeave slot.Kernel (p ∷ []) m x → KernelMayLeave given b0 b1 m x
  may_leave m x told may = record {
    seed = p.seed;
    drawn = link.drawn;
    stopped = subst (λ (ps : List Plan). MayLeave slot.Kernel ps m x) (plans_are m told) may;
    matched = λ matched. stays_matched slot.Kernel (p ∷ []) m x (inl link.kernel, tt) matched may;
  }

  pub may_crash : {y : Meaning} → Leaves b y (MayLeave slot.Kernel (p ∷ [])) → Leaves a y (KernelMayLeave given b0 b1)
  may_crash leaves = weaker (stays_then still leaves) (λ d told x may. may_leave (names_now d) x (told_names a d told) may)

  pub may_stop : (y : Meaning) → NamesHave b y (MayLeave slot.Kernel (p ∷ [])) → NamesHave a y (KernelMayLeave given b0 b1)
  may_stop y names d told e now = may_leave (names_now d) (names_now e) (told_names a d told) (names d (still.disk ∙ told) e now)

  pub keeps_others : {y : Meaning} (record_text : List ℕ) → KeepsNames (IsElsewhere slot.Kernel (kernel_files image record_text map)) b y → KeepsNames IsNoKernelFile a y
  keeps_others record_text others = keeps_trans (stays_kept still) (keeps_fewer (λ n free. elsewhere image record_text map n free) others)

  -- with Ok the job is done
  pub relinked : {y : Meaning} (record_text : List ℕ) → ForSome b.disk (λ d. IsSettledAt y.disk (AreInPlace (kernel_files image record_text map) (names_now d)))
      → ForSome b.disk (λ d. ForSome y.disk (AreInstalled slot.Kernel (p ∷ []) (names_now d))) → RelinksUnder given b0 b1 a y report
  relinked {y} record_text placed installed = record {
    seed = p.seed;
    drawn = link.drawn;
    relinked = λ d told.
        let end = placed d (still.disk ∙ told) in
        let all = installed d (still.disk ∙ told) (record { stable = end.0; changes = [] }) end.1 in
        let m = names_now d in
        let names = told_names a d told in (
          end.0,
          end.1,
          record {
            image = image;
            reached = subst (λ (ps : List Plan). Reached m ps end.0) (plans_are m names) all.reached;
            kernel = end.2.held.0;
            told = link.told ∙ ap (λ (q : Plan). report_of q.kit q.inputs image) (link.of_names m names);
          },
        );
  }
