-- How a run of store calls goes on.
use Rattle.std.proofs.Common.{◌≡◌, inl, inr, ⊎_elim, Bool, true, false, arith, refl, ap, sym, ◌∙◌, subst, is_some, ℕ, List, length}
use Rattle.std.specs.Prelude.{Option, Some, None, option_map}
use Rattle.std.proofs.lemmas.List.{take_all}
use Rattle.kl_store.specs.Names.{Names, Change, Create, Append, Rename, Remove, Applies, carried_out, cut}
use Rattle.kl_store.specs.Disk.{Disk, IsImage, joined, names_now, settled, AreMoves, IsMove}
use Rattle.kl_store.specs.Meaning.{Meaning}
use Rattle.kl_store.specs.Images.{LeavesOfDisk, MayLeave, Nothing}
use Rattle.kl_store.specs.Calls.{Stays, Makes, MakesIf, IsSettled}
use Rattle.kl_base.proofs.Bools.{true_false}
use Rattle.kl_store.proofs.Disks.{joined_move, now_is_image}

pub same_disk : (d e : Disk) → ◌≡◌ {A = Option Disk} (Some d) (Some e) → d ≡ e
same_disk d e is = cc

pub same_told : {o : Option Disk} (d e : Disk) → o ≡ Some d → o ≡ Some e → d ≡ e
same_told d e p q = same_disk d e (sym p ∙ q)

-- a disk that is told at the one end is told at the other
told_too : (old new : Option Disk) (x : Disk) → is_some new ≡ is_some old → new ≡ Some x → (d : Disk) × (old ≡ Some d)
told_too None new x same told = true_false (sym (ap is_some told) ∙ same)
told_too (Some d) new x same told = (d, refl)

pub told_before : {a b : Meaning} {P : Disk → Names → Type 0} (e : Disk) → LeavesOfDisk a b P → b.disk ≡ Some e → (d : Disk) × (a.disk ≡ Some d)
told_before e p told = told_too _ _ e p.tells told

pub told_after : {a b : Meaning} {P : Disk → Names → Type 0} (d : Disk) → LeavesOfDisk a b P → a.disk ≡ Some d → (e : Disk) × (b.disk ≡ Some e)
told_after d p told = told_too _ _ d (sym p.tells) told

-- no call
pub leaves_none : {a : Meaning} {P : Disk → Names → Type 0} → LeavesOfDisk a a P
leaves_none = record { tells = refl; time = λ d told. record { later = omega arith; nothing_else = λ t x le image. inl image; keeps = λ t x le image. image } }

pub stays_none : {a : Meaning} → Stays a a
stays_none = record { names = refl; disk = refl; images = leaves_none }

-- what is new has less said of it
pub weaker : {a b : Meaning} {P Q : Disk → Names → Type 0} → LeavesOfDisk a b Q → ((d : Disk) → a.disk ≡ Some d → (x : Names) → Q d x → P d x) → LeavesOfDisk a b P
weaker q into = record {
  tells = q.tells;
  time = λ d told. record { later = (q.time d told).later; nothing_else = λ t x le image. ⊎_elim (λ past. inl past) (λ new. inr (into d told x new)) ((q.time d told).nothing_else t x le image); keeps = (q.time d told).keeps };
}

-- one call after another
pub leaves_on : {a b c : Meaning} {P Q : Disk → Names → Type 0} → LeavesOfDisk a b P → LeavesOfDisk b c Q
    → ((d : Disk) → a.disk ≡ Some d → (e : Disk) × (b.disk ≡ Some e) × ((x : Names) → Q e x → P d x)) → LeavesOfDisk a c P
leaves_on p q into = record {
  tells = q.tells ∙ p.tells;
  time = λ d told.
      let first = p.time d told in
      let mid = into d told in
      let second = q.time mid.0 mid.1 in
      record {
        later = omega (arith, first.later, second.later);
        nothing_else = λ t x le image. ⊎_elim (λ past. first.nothing_else t x le past) (λ new. inr (mid.2 x new)) (second.nothing_else t x (omega (arith, le, first.later)) image);
        keeps = λ t x le image. second.keeps t x (omega (arith, le, first.later)) (first.keeps t x le image);
      };
}

-- and one that leaves nothing new
pub leaves_still : {a b c : Meaning} {P : Disk → Names → Type 0} → LeavesOfDisk a b P → LeavesOfDisk b c Nothing → LeavesOfDisk a c P
leaves_still p q = leaves_on p q (λ d told. let after = told_after d p told in (after.0, after.1, λ x none. absurd none))

-- one call after another that changes nothing
pub stays_on : {a b c : Meaning} → Stays a b → Stays b c → Stays a c
stays_on p q = record { names = q.names ∙ p.names; disk = q.disk ∙ p.disk; images = leaves_still p.images q.images }

-- a call that leaves nothing new, and then others
pub stays_then : {a b c : Meaning} {P : Disk → Names → Type 0} → Stays a b → LeavesOfDisk b c P → LeavesOfDisk a c P
stays_then s q = leaves_on (weaker s.images (λ d told x none. absurd none)) q (λ d told. (d, s.disk ∙ told, λ x new. new))

-- A rename or a removal where all changes so far are such: only what it leaves when it is done is new.
pub leaves_move : {a b c : Meaning} {P : Disk → Names → Type 0} (change : Change) → IsMove change → LeavesOfDisk a b P → LeavesOfDisk b c (MayLeave change)
    → ((d : Disk) → a.disk ≡ Some d → (e : Disk) × (b.disk ≡ Some e) × AreMoves e.changes × (Applies change (names_now e) → P d (carried_out change (names_now e)))) → LeavesOfDisk a c P
leaves_move {b = b} {P = P} change is_move p q into = record {
  tells = q.tells ∙ p.tells;
  time = λ d told.
      let first = p.time d told in
      let mid = into d told in
      let second = q.time mid.0 mid.1 in
      record {
        later = omega (arith, first.later, second.later);
        nothing_else = λ t x le image. ⊎_elim
            (λ past. first.nothing_else t x le past)
            (λ may. ⊎_elim
            (λ early. first.nothing_else t x le (b.counts_now mid.0 t x mid.1 (omega (arith, le, first.later)) early))
            (λ done. inr (subst (P d) (sym done) (mid.3 may.applies)))
            (joined_move mid.0 change x mid.2 is_move may.image))
            (second.nothing_else t x (omega (arith, le, first.later)) image);
        keeps = λ t x le image. second.keeps t x (omega (arith, le, first.later)) (first.keeps t x le image);
      };
}

-- the disk after a change
pub told_joined : {a b : Meaning} {c : Change} (d : Disk) → Makes c a b → a.disk ≡ Some d → b.disk ≡ Some (joined c d)
told_joined {c = c} d made told = made.disk ∙ ap (option_map (joined c)) told

-- the disk after a settle
pub told_settled : {a b : Meaning} (d : Disk) → IsSettled a b → a.disk ≡ Some d → b.disk ≡ Some (settled d)
told_settled d done told = done.disk ∙ ap (option_map settled) told

-- a store that tells its disk tells its names
pub told_names : (a : Meaning) (d : Disk) → a.disk ≡ Some d → a.names ≡ Some (names_now d)
told_names a d told = a.names_are ∙ ap (option_map names_now) told

-- and the other way round
disk_of_names : (o : Option Disk) (m : Names) → option_map names_now o ≡ Some m → (d : Disk) × (o ≡ Some d) × (names_now d ≡ m)
disk_of_names None m is = let no : ◌≡◌ {A = Option Names} None (Some m) = is in cc
disk_of_names (Some d) m is = let same : ◌≡◌ {A = Option Names} (Some (names_now d)) (Some m) = is in (d, refl, same_map _ _ same)
  where
    same_map : (x y : Names) → ◌≡◌ {A = Option Names} (Some x) (Some y) → x ≡ y
    same_map x y e = cc

pub told_disk : (a : Meaning) (m : Names) → a.names ≡ Some m → (d : Disk) × (a.disk ≡ Some d) × (names_now d ≡ m)
told_disk a m told = disk_of_names a.disk m (sym a.names_are ∙ told)

-- the names after a change, where they are told
pub told_made : {a b : Meaning} {change : Change} (m : Names) → Makes change a b → a.names ≡ Some m → b.names ≡ Some (carried_out change m)
told_made {change = change} m made is = made.names ∙ ap (option_map (carried_out change)) is

-- the names after calls that change nothing
pub told_stays : {a b : Meaning} (m : Names) → Stays a b → a.names ≡ Some m → b.names ≡ Some m
told_stays m stays is = stays.names ∙ is

-- a change that applies is made
pub is_made : {a b : Meaning} {c : Change} (d : Disk) (was : Bool) → a.disk ≡ Some d → Applies c (names_now d) → MakesIf c a b was → Makes c a b
is_made {a = a} d true told applies made = made
is_made {a = a} d false told applies missed = absurd (missed.absent (names_now d) (told_names a d told) applies)

-- what holds of each image holds of the names
pub names_follow : {a b : Meaning} {P : Disk → Names → Type 0} (d e : Disk) → LeavesOfDisk a b P → a.disk ≡ Some d → b.disk ≡ Some e → ((x : Names) → IsImage d x → P d x) → P d (names_now e)
names_follow {a = a} {b = b} d e p told now old =
    let time = p.time d told in
    ⊎_elim (λ past. old (names_now e) (a.only_now d (names_now e) told past)) (λ new. new)
    (time.nothing_else a.clock (names_now e) (omega arith) (b.counts_now e a.clock (names_now e) now time.later (now_is_image e)))

-- the whole of a change is a part of it
cut_whole : (c : Change) → (k : ℕ) × (cut k c ≡ c)
cut_whole (Create n) = (0, refl)
cut_whole (Append n bytes) = (length bytes, ap (λ (l : List ℕ). Append n l) (take_all (length bytes) bytes (omega arith)))
cut_whole (Rename a b) = (0, refl)
cut_whole (Remove n) = (0, refl)

-- a change that is made is a part of it
pub makes_part : {a b : Meaning} (c : Change) → Makes c a b → (k : ℕ) × Makes (cut k c) a b
makes_part {a = a} {b = b} c made = let whole = cut_whole c in (whole.0, subst (λ d. Makes d a b) (sym whole.1) made)
