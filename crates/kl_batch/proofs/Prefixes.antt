-- The names after some first batches.
use Rattle.std.proofs.Common.{◌≡◌, ◌≢◌, inl, inr, ◌⊎◌, ⊎_elim, ℕ, zero, suc, true, false, List, [], ◌∷◌, ◌++◌, length, take, map, refl, sym, ap, ◌∙◌, subst, arith, length-append}
use Rattle.std.specs.Prelude.{None, Result, OnOk}
use Rattle.std.specs.Option.{ForSome}
use Rattle.std.specs.List.{AllByRecursion}
use Rattle.std.specs.FinMap.{get}
use Rattle.std.proofs.lemmas.Bool.{cases_Bool}
use Rattle.std.proofs.lemmas.Result.{on_ok_weaker}
use Rattle.std.proofs.lemmas.List.{take-append-le, take_all}
use Rattle.kl_base.specs.declared.class.Slot.{Slot}
use Rattle.kl_base.specs.declared.class.Slot.TheVariants as slot
use Rattle.kl_store.specs.Names.{Names, is_scratch, same_name}
use Rattle.kl_store.specs.Disk.{Disk, names_now}
use Rattle.kl_store.specs.Meaning.{Meaning}
use Rattle.kl_store.specs.Images.{Leaves, NamesHave}
use Rattle.kl_store.specs.Files.{SameNames}
use Rattle.kl_base.proofs.Bools.{true_false}
use Rattle.kl_store.proofs.NameMaps.{same_eq, same_refl}
use Rattle.kl_store.proofs.Moments.{leaves_none, leaves_on, weaker, told_after, same_told}
use Rattle.kl_model.specs.declared.kit.KitKind.{KitKind}
use Rattle.kl_model.specs.declared.kit.KitKind.TheVariants.{Kernel, Library}
use Rattle.kl_link.specs.Links.{AreLinked}
use Rattle.kl_intent.specs.IntentText.{slot_name, is_target}
use Rattle.kl_install.specs.After.{after}
use Rattle.kl_install.proofs.Named.{target_plain, target_no_slot, slot_plain}
use Rattle.kl_batch.specs.Together.{File, file, IsNone, AllHold, AreInPlace, AreAllOrNone, Installs}
use Rattle.kl_batch.specs.Batches.{Plan, files_for, files_of, targets_for, targets_of, HasTargets, IsNoTarget, IsNext, IsRight, Reached, MayLeave, AreInstalled, IsKernelBatch, IsKernelPlan, kernel_files, output_of}
use Rattle.kl_batch.specs.Laws.{BatchesGoOn, StopsGoOn}
use Rattle.kl_batch.specs.declared.names.TheConstants.{KERNEL_MAP, KERNEL_RECORD}
use Rattle.kl_batch.proofs.Placing.{all_map}

all_append : {X : Type 0} (P : X → Type 0) (xs : List X) (x : X) → AllByRecursion P xs → P x → AllByRecursion P (xs ++ x ∷ [])
all_append P [] x h p = (p, tt)
all_append P (y ∷ xs) x h p = (h.0, all_append P xs x h.1 p)

all_front : {X : Type 0} (P : X → Type 0) (xs : List X) (x : X) → AllByRecursion P (xs ++ x ∷ []) → AllByRecursion P xs
all_front P [] x h = tt
all_front P (y ∷ xs) x h = (h.0, all_front P xs x h.1)

all_last : {X : Type 0} (P : X → Type 0) (xs : List X) (x : X) → AllByRecursion P (xs ++ x ∷ []) → P x
all_last P [] x h = h.0
all_last P (y ∷ xs) x h = all_last P xs x h.1

pub all_take : {X : Type 0} (P : X → Type 0) (k : ℕ) (xs : List X) → AllByRecursion P xs → AllByRecursion P (take k xs)
all_take P zero xs h = tt
all_take P (suc k) [] h = tt
all_take P (suc k) (x ∷ xs) h = (h.0, all_take P k xs h.1)

all_both : {X : Type 0} (P Q : X → Type 0) (xs : List X) → AllByRecursion P xs → AllByRecursion Q xs → AllByRecursion (λ x. P x × Q x) xs
all_both P Q [] h k = tt
all_both P Q (x ∷ xs) h k = ((h.0, k.0), all_both P Q xs h.1 k.1)

-- the names of a batch's files are its targets
names_for : (k : KitKind) (p : Plan) (image : List ℕ) (text : List ℕ) → map (λ f. f.name) (files_for k p image text) ≡ targets_for k p
names_for Kernel p image text = refl
names_for Library p image text = refl

names_are : (p : Plan) (image : List ℕ) (text : List ℕ) → map (λ f. f.name) (files_of p image text) ≡ targets_of p
names_are p image text = names_for p.kit.kind p image text

-- what holds of the names of files
of_names : (P : List ℕ → Type 0) (files : List File) → AllByRecursion P (map (λ f. f.name) files) → AllByRecursion (λ f. P f.name) files
of_names P [] h = tt
of_names P (f ∷ files) h = (h.0, of_names P files h.1)

of_targets : (P : List ℕ → Type 0) (p : Plan) (image : List ℕ) (text : List ℕ) → AllByRecursion P (targets_of p) → AllByRecursion (λ f. P f.name) (files_of p image text)
of_targets P p image text h = of_names P (files_of p image text) (subst (AllByRecursion P) (sym (names_are p image text)) h)

held_same : (files : List File) (y x : Names) → AllByRecursion (λ f. get x f.name ≡ get y f.name) files → AllHold y files → AllHold x files
held_same [] y x same held = tt
held_same (f ∷ files) y x same held = (same.0 ∙ held.0, held_same files y x same.1 held.1)

-- a batch stays right where its targets hold what they held
right_same : (y x : Names) (p : Plan) → AllByRecursion (λ t. get x t ≡ get y t) (targets_of p) → IsRight y p → IsRight x p
right_same y x p same right = record {
  image = right.image;
  text = right.text;
  linked = right.linked;
  held = held_same (files_of p right.image right.text) y x (of_targets (λ t. get x t ≡ get y t) p right.image right.text same) right.held;
}

-- the same files
pub reached_same : (m : Names) (done : List Plan) (y x : Names) → AllByRecursion HasTargets done → Reached m done y → SameNames y x → Reached m done x
reached_same m done y x targets reached same = record {
  right = all_map (λ p. IsRight y p × AllByRecursion (λ t. is_target t ≡ true) (targets_of p)) (IsRight x) done
      (λ p h. right_same y x p (all_map (λ t. is_target t ≡ true) (λ t. get x t ≡ get y t) (targets_of p) (λ t is. same t (target_plain t is)) h.1) h.0)
      (all_both (IsRight y) (λ p. AllByRecursion (λ t. is_target t ≡ true) (targets_of p)) done reached.right targets);
  others = λ n plain none. same n plain ∙ reached.others n plain none;
}

-- nothing is installed
pub reached_none : (m x : Names) → SameNames m x → Reached m [] x
reached_none m x same = record { right = tt; others = λ n plain none. same n plain }

-- one list of names apart from another
heads_apart : (a : List ℕ) (xs ys : List (List ℕ)) → AllByRecursion (λ b. AllByRecursion (λ x. b ≢ x) (a ∷ xs)) ys → AllByRecursion (λ b. a ≢ b) ys
heads_apart a xs [] h = tt
heads_apart a xs (b ∷ ys) h = ((λ same. h.0.0 (sym same)), heads_apart a xs ys h.1)

tails_apart : (a : List ℕ) (xs ys : List (List ℕ)) → AllByRecursion (λ b. AllByRecursion (λ x. b ≢ x) (a ∷ xs)) ys → AllByRecursion (λ b. AllByRecursion (λ x. b ≢ x) xs) ys
tails_apart a xs [] h = tt
tails_apart a xs (b ∷ ys) h = (h.0.1, tails_apart a xs ys h.1)

turn : (xs ys : List (List ℕ)) → AllByRecursion (λ b. AllByRecursion (λ a. b ≢ a) xs) ys → AllByRecursion (λ a. AllByRecursion (λ b. a ≢ b) ys) xs
turn [] ys h = tt
turn (a ∷ xs) ys h = (heads_apart a xs ys h, turn xs ys (tails_apart a xs ys h))

-- what is said of each name of a list
abbrev Among : List ℕ → List (List ℕ) → Type 0
Among n [] = ⊥
Among n (t ∷ ts) = (t ≡ n) ⊎ Among n ts

among_all : (P : List ℕ → Type 0) (n : List ℕ) (ts : List (List ℕ)) → Among n ts → AllByRecursion P ts → P n
among_all P n [] is h = absurd is
among_all P n (t ∷ ts) is h = ⊎_elim (λ here. subst P here h.0) (λ more. among_all P n ts more h.1) is

among_or_not : (n : List ℕ) (ts : List (List ℕ)) → Among n ts ⊎ AllByRecursion (λ t. n ≢ t) ts
among_or_not n [] = inr tt
among_or_not n (t ∷ ts) = ⊎_elim
    (λ is. inl (inl (sym (same_eq n t is))))
    (λ other. ⊎_elim (λ more. inl (inr more)) (λ none. inr ((λ same. true_false (sym (ap (λ (q : List ℕ). same_name q t) same ∙ same_refl t) ∙ other)), none)) (among_or_not n ts))
    (cases_Bool (same_name n t))

-- a target of the next batch is none of those before it
no_earlier : (ps : List Plan) (p : Plan) (n : List ℕ) → IsNext ps p → Among n (targets_of p) → AllByRecursion (IsNoTarget n) ps
no_earlier ps p n next is = all_map (λ q. AllByRecursion (λ t. IsNoTarget t p) (targets_of q)) (IsNoTarget n) ps
    (λ q apart. among_all (λ t. AllByRecursion (λ u. t ≢ u) (targets_of q)) n (targets_of p) is (turn (targets_of p) (targets_of q) apart)) next.apart

-- one batch more
pub reached_more : (m : Names) (ps : List Plan) (p : Plan) (image : List ℕ) (text : List ℕ) (y x : Names) → AllByRecursion HasTargets ps → IsNext ps p → AreLinked p.seed p.kit p.inputs image text
    → Reached m ps y → AreInPlace (files_of p image text) y x → Reached m (ps ++ p ∷ []) x
reached_more m ps p image text y x targets next link reached placed = record {
  right = all_append (IsRight x) ps p
      (all_map (λ q. IsRight y q × (AllByRecursion (λ t. IsNoTarget t p) (targets_of q) × AllByRecursion (λ t. is_target t ≡ true) (targets_of q))) (IsRight x) ps
      (λ q h. right_same y x q (all_map (λ t. IsNoTarget t p × (is_target t ≡ true)) (λ t. get x t ≡ get y t) (targets_of q)
      (λ t k. placed.others t (target_plain t k.1) (of_targets (λ u. t ≢ u) p image text k.0))
      (all_both (λ t. IsNoTarget t p) (λ t. is_target t ≡ true) (targets_of q) h.1.0 h.1.1)) h.0)
      (all_both (IsRight y) (λ q. AllByRecursion (λ t. IsNoTarget t p) (targets_of q) × AllByRecursion (λ t. is_target t ≡ true) (targets_of q)) ps reached.right
      (all_both (λ q. AllByRecursion (λ t. IsNoTarget t p) (targets_of q)) (λ q. AllByRecursion (λ t. is_target t ≡ true) (targets_of q)) ps next.apart targets)))
      (record { image = image; text = text; linked = link; held = placed.held });
  others = λ n plain none.
      placed.others n plain (of_targets (λ u. n ≢ u) p image text (all_last (IsNoTarget n) ps p none))
      ∙ reached.others n plain (all_front (IsNoTarget n) ps p none);
}

-- some first ones of more
front_of : (ps qs : List Plan) → take (length ps) (ps ++ qs) ≡ ps
front_of ps qs = take-append-le (length ps) ps qs (omega arith) ∙ take_all (length ps) ps (omega arith)

-- what a stop leaves while one batch more is staged or committed
pub may_leave_more : (slot : Slot) (m : Names) (ps : List Plan) (p : Plan) (image : List ℕ) (text : List ℕ) (y x : Names) → AllByRecursion HasTargets ps → IsNext ps p → AreLinked p.seed p.kit p.inputs image text
    → Reached m ps y → AreAllOrNone slot (files_of p image text) y x → MayLeave slot (ps ++ p ∷ []) m x
may_leave_more slot m ps p image text y x targets next link reached all = ⊎_elim
    (λ old. record {
      count = length ps;
      within = omega (arith, length-append ps (p ∷ []));
      reached = subst (λ (l : List Plan). Reached m l (after slot x)) (sym (front_of ps (p ∷ []))) (reached_same m ps y (after slot x) targets reached old);
      clear = all.clear;
      each = each (λ n plain none. old n plain);
    })
    (λ new. record {
      count = length (ps ++ p ∷ []);
      within = omega arith;
      reached = subst (λ (l : List Plan). Reached m l (after slot x)) (sym (take_all (length (ps ++ p ∷ [])) (ps ++ p ∷ []) (omega arith))) (reached_more m ps p image text y (after slot x) targets next link reached new);
      clear = all.clear;
      each = each (λ n plain none. new.others n plain none);
    }) all.recovered
  where
    on_names : (P : List ℕ → Type 0) (files : List File) → AllByRecursion (λ f. P f.name) files → AllByRecursion P (map (λ f. f.name) files)
    on_names P [] h = tt
    on_names P (f ∷ files) h = (h.0, on_names P files h.1)

    to_targets : (P : List ℕ → Type 0) → AllByRecursion (λ f. P f.name) (files_of p image text) → AllByRecursion P (targets_of p)
    to_targets P h = subst (AllByRecursion P) (names_are p image text) (on_names P (files_of p image text) h)

    each : ((n : List ℕ) → is_scratch n ≡ false → IsNone n (files_of p image text) → get (after slot x) n ≡ get y n)
        → (n : List ℕ) → is_scratch n ≡ false → n ≢ slot_name slot → (get x n ≡ get m n) ⊎ (get x n ≡ get (after slot x) n)
    each same n plain no_slot = ⊎_elim
        (λ is. ⊎_elim
        (λ old. inl (old ∙ reached.others n plain (no_earlier ps p n next is)))
        (λ new. inr new)
        (among_all (λ t. (get x t ≡ get y t) ⊎ (get x t ≡ get (after slot x) t)) n (targets_of p) is (to_targets (λ t. (get x t ≡ get y t) ⊎ (get x t ≡ get (after slot x) t)) all.each)))
        (λ none. let away = of_targets (λ u. n ≢ u) p image text none in inr (all.elsewhere n plain no_slot away ∙ sym (same n plain away)))
        (among_or_not n (targets_of p))

-- more batches follow
pub may_leave_wider : StopsGoOn
may_leave_wider slot ps qs m x may = record {
  count = may.count;
  within = omega (arith, may.within, length-append ps qs);
  reached = subst (λ (l : List Plan). Reached m l (after slot x)) (sym (take-append-le may.count ps qs may.within)) may.reached;
  clear = may.clear;
  each = may.each;
}

-- one batch more is installed, or stopped
pub go_on : BatchesGoOn
go_on slot ps p image text m d targets next link installed = record {
  done = λ x placed. record {
    reached = reached_more m ps p image text (names_now d) x targets next link installed.reached placed;
    free = placed.others (slot_name slot) (slot_plain slot) (of_targets (λ u. slot_name slot ≢ u) p image text (all_map (λ t. is_target t ≡ true) (λ t. slot_name slot ≢ t) (targets_of p) (λ t is. target_no_slot t slot is) next.targets)) ∙ installed.free;
    settled = λ some. refl;
  };
  stop = λ x all. may_leave_more slot m ps p image text (names_now d) x targets next link installed.reached all;
}

-- the images of one batch more, from the start of those before it on
pub images_more : {T E : Type 0} {a x y : Meaning} {result : Result T E} (slot : Slot) (ps : List Plan) (p : Plan) (image text : List ℕ)
    → AllByRecursion HasTargets ps → IsNext ps p → AreLinked p.seed p.kit p.inputs image text
    → Leaves a x (MayLeave slot ps) → ForSome a.disk (λ d. ForSome x.disk (AreInstalled slot ps (names_now d))) → Installs slot (files_of p image text) x y result → Leaves a y (MayLeave slot (ps ++ p ∷ []))
images_more slot ps p image text targets next link before installed installs = leaves_on (weaker before (λ d told n may. may_leave_wider slot ps (p ∷ []) (names_now d) n may)) installs.images (λ d told.
    let mid = told_after d before told in
    (mid.0, mid.1, (go_on slot ps p image text (names_now d) mid.0 targets next link (installed d told mid.0 mid.1)).stop))

-- and the disk, with Ok
pub installed_more : {T E : Type 0} {a x y : Meaning} {result : Result T E} (slot : Slot) (ps : List Plan) (p : Plan) (image text : List ℕ)
    → AllByRecursion HasTargets ps → IsNext ps p → AreLinked p.seed p.kit p.inputs image text
    → Leaves a x (MayLeave slot ps) → ForSome a.disk (λ d. ForSome x.disk (AreInstalled slot ps (names_now d))) → Installs slot (files_of p image text) x y result
    → OnOk result (ForSome a.disk (λ d. ForSome y.disk (AreInstalled slot (ps ++ p ∷ []) (names_now d))))
installed_more {result = result} slot ps p image text targets next link before installed installs = on_ok_weaker result (λ ends d told e now.
    let mid = told_after d before told in
    let end = ends mid.0 mid.1 in
    subst (AreInstalled slot (ps ++ p ∷ []) (names_now d)) (same_told (record { stable = end.0; changes = [] }) e end.1 now)
    ((go_on slot ps p image text (names_now d) mid.0 targets next link (installed d told mid.0 mid.1)).done end.0 end.2)) installs.done

-- a kernel's batch is the first of its job
kernel_next : (p : Plan) → IsKernelPlan p → IsNext [] p
kernel_next p kernel = record {
  targets = subst (λ (k : KitKind). AllByRecursion (λ t. is_target t ≡ true) (targets_for k p)) (sym kernel.kind) (ap is_target kernel.output, (refl, (refl, tt)));
  apart = tt;
}

are_of : (p : Plan) (image record_text map : List ℕ) → IsKernelBatch p image record_text map → kernel_files image record_text map ≡ files_of p image map
are_of p image record_text map batch =
    ap (λ (o : List ℕ). file o image ∷ file KERNEL_RECORD record_text ∷ file KERNEL_MAP map ∷ []) (sym batch.plan.output)
    ∙ ap (λ (r : List ℕ). file (output_of p) image ∷ file KERNEL_RECORD r ∷ file KERNEL_MAP map ∷ []) batch.record_is
    ∙ ap (λ (k : KitKind). files_for k p image map) (sym batch.plan.kind)

-- nothing is installed yet
pub installed_none : (slot : Slot) (a : Meaning) → ForSome a.disk (λ d. get (names_now d) (slot_name slot) ≡ None) → ForSome a.disk (λ d. ForSome a.disk (AreInstalled slot [] (names_now d)))
installed_none slot a free d told e now = record {
  reached = reached_none (names_now d) (names_now e) (λ q plain. ap (λ (k : Disk). get (names_now k) q) (same_told e d now told));
  free = free e now;
  settled = λ some. absurd (omega (arith, some));
}

-- what a stop leaves while a kernel is installed, what is installed with Ok, and what the names are whatever the answer
module _ {T E : Type 0} {a y : Meaning} {result : Result T E} (p : Plan) (image record_text map : List ℕ) (batch : IsKernelBatch p image record_text map)
    (free : ForSome a.disk (λ d. get (names_now d) (slot_name slot.Kernel) ≡ None))
    (installs : Installs slot.Kernel (kernel_files image record_text map) a y result) where
  of_files : Installs slot.Kernel (files_of p image map) a y result
  of_files = subst (λ (l : List File). Installs slot.Kernel l a y result) (are_of p image record_text map batch) installs

  pub kernel_crash : Leaves a y (MayLeave slot.Kernel (p ∷ []))
  kernel_crash = images_more slot.Kernel [] p image map tt (kernel_next p batch.plan) batch.linked leaves_none (installed_none slot.Kernel a free) of_files

  pub kernel_done : OnOk result (ForSome a.disk (λ d. ForSome y.disk (AreInstalled slot.Kernel (p ∷ []) (names_now d))))
  kernel_done = installed_more slot.Kernel [] p image map tt (kernel_next p batch.plan) batch.linked leaves_none (installed_none slot.Kernel a free) of_files

  pub kernel_stop : NamesHave a y (MayLeave slot.Kernel (p ∷ []))
  kernel_stop d told e now =
      (go_on slot.Kernel [] p image map (names_now d) d tt (kernel_next p batch.plan) batch.linked (installed_none slot.Kernel a free d told d told)).stop (names_now e) (of_files.names d told e now)
