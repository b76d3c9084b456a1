-- What the calls of a store in memory do to what it tells.
use Rattle.std.proofs.Common.{◌≡◌, ◌≢◌, ◌≤◌, ◌⊎◌, inl, inr, ⊎_elim, ℕ, Bool, true, false, List, [], ◌∷◌, ◌++◌, length, refl, sym, ap, ◌∙◌, subst, arith, length-append}
use Rattle.std.specs.Prelude.{Option, Some, None, IsSome, is_some, MatchBool, Result, Ok, Err, IfOk, is_err}
use Rattle.std.proofs.lemmas.List.{take-append-le, take_all}
use Rattle.std.specs.FinMap.{get}
use Rattle.kl_store.specs.Names.{Names, Change, Applies, cut}
use Rattle.kl_store.specs.Names as names
use Rattle.kl_store.specs.Disk.{Disk, IsImage, joined, names_now}
use Rattle.kl_store.specs.Images.{Elapses, LeavesOfDisk, MayLeave, Nothing}
use Rattle.kl_store.specs.Calls.{Keeps, Makes, Misses, MakesIf, Does, DoesIf, Settles}
use Rattle.kl_store.proofs.Moments.{leaves_none, makes_part}
use Rattle.kl_store.proofs.Disks.{le_or_more, only_settled, now_is_image, names_now-joined}
use Rattle.kl_mem.specs.declared.step.Step.{Step}
use Rattle.kl_mem.specs.declared.step.Step.TheVariants.{Create, Append, Rename, Remove, Settle}
use Rattle.kl_mem.specs.Record.{stepped, disk_of, WasImage}
use Rattle.kl_mem.specs.Told.{told_by, same_disk}
use Rattle.kl_mem.specs.declared.mem.MemStore.{MemStore}
use Rattle.kl_mem.specs.Mem.{Mem, mem, next_fault, Turns, Rests, Counts, MadeIfThere, Ends}
use Rattle.kl_mem.proofs.Written.{disk_more}

-- the step is the change
pub record IsStepOf (s : Step) (c : Change) : Type 0 where
  pub joins : (d : Disk) → stepped s d ≡ joined c d

pub is_create : (n : List ℕ) → IsStepOf (Create n) (names.Create n)
is_create n = record { joins = λ d. refl }

pub is_append : (n bytes : List ℕ) → IsStepOf (Append n bytes) (names.Append n bytes)
is_append n bytes = record { joins = λ d. refl }

pub is_rename : (a b : List ℕ) → IsStepOf (Rename a b) (names.Rename a b)
is_rename a b = record { joins = λ d. refl }

pub is_remove : (n : List ℕ) → IsStepOf (Remove n) (names.Remove n)
is_remove n = record { joins = λ d. refl }

same_map : (m n : Names) → ◌≡◌ {A = Option Names} (Some m) (Some n) → m ≡ n
same_map m n is = cc

makes_on : (steps next : List Step) (s : Step) (c : Change) → IsStepOf s c → Applies c (names_now (disk_of steps)) → next ≡ steps ++ s ∷ [] → Makes c (told_by steps) (told_by next)
makes_on steps next s c of applies is = record {
  names = ap (λ (l : List Step). Some (names_now (disk_of l))) is ∙ ap (λ (d : Disk). Some (names_now d)) (disk_more steps s ∙ of.joins (disk_of steps)) ∙ ap (λ (m : Names). Some m) (names_now-joined (disk_of steps) c);
  disk = ap (λ (l : List Step). Some (disk_of l)) is ∙ ap (λ (d : Disk). Some d) (disk_more steps s ∙ of.joins (disk_of steps));
  applies = λ m told. subst (Applies c) (same_map _ _ told) applies;
}

-- the images after one step more
was_more : (steps : List Step) (s : Step) (t : ℕ) (x : Names) → t ≤ length steps → WasImage (steps ++ s ∷ []) t x → WasImage steps t x ⊎ IsImage (stepped s (disk_of steps)) x
was_more steps s t x le was = ⊎_elim
    (λ early. inl (record { at = was.at; since = was.since; within = early; image = subst (λ (l : List Step). IsImage (disk_of l) x) (take-append-le was.at steps (s ∷ []) early) was.image }))
    (λ late. inr (subst (λ (d : Disk). IsImage d x) (ap disk_of (take_all was.at (steps ++ s ∷ []) (omega (arith, length-append steps (s ∷ [])))) ∙ disk_more steps s) was.image))
    (le_or_more was.at (length steps))

was_kept : (steps : List Step) (s : Step) (t : ℕ) (x : Names) → WasImage steps t x → WasImage (steps ++ s ∷ []) t x
was_kept steps s t x was = record {
  at = was.at;
  since = was.since;
  within = omega (arith, was.within, length-append steps (s ∷ []));
  image = subst (λ (l : List Step). IsImage (disk_of l) x) (sym (take-append-le was.at steps (s ∷ []) was.within)) was.image;
}

-- nothing is noted
pub keeps_all : {steps next : List Step} → next ≡ steps → Keeps (told_by steps) (told_by next)
keeps_all is = record { names = ap (λ (l : List Step). Some (names_now (disk_of l))) is; disk = ap (λ (l : List Step). Some (disk_of l)) is }

pub leaves_all : (steps next : List Step) (P : Disk → Names → Type 0) → next ≡ steps → LeavesOfDisk (told_by steps) (told_by next) P
leaves_all steps next P is = subst (λ (l : List Step). LeavesOfDisk (told_by steps) (told_by l) P) (sym is) leaves_none

-- the images with a step that leaves what has P
leaves_step : (steps next : List Step) (s : Step) (P : Disk → Names → Type 0) → next ≡ steps ++ s ∷ [] → ((t : ℕ) (x : Names) → t ≤ length steps → IsImage (stepped s (disk_of steps)) x → WasImage steps t x ⊎ P (disk_of steps) x)
    → LeavesOfDisk (told_by steps) (told_by next) P
leaves_step steps next s P is into = subst (λ (l : List Step). LeavesOfDisk (told_by steps) (told_by l) P) (sym is) (record {
  tells = refl;
  time = λ d told. subst (λ (e : Disk). Elapses (told_by steps) (told_by (steps ++ s ∷ [])) (P e)) (same_disk _ _ told) (record {
    later = omega (arith, length-append steps (s ∷ []));
    nothing_else = λ t x le was. ⊎_elim (λ past. inl past) (λ now. into t x le now) (was_more steps s t x le was);
    keeps = λ t x le was. was_kept steps s t x was;
  });
})

leaves_change : (steps next : List Step) (s : Step) (c : Change) → IsStepOf s c → Applies c (names_now (disk_of steps)) → next ≡ steps ++ s ∷ [] → LeavesOfDisk (told_by steps) (told_by next) (MayLeave c)
leaves_change steps next s c of applies is = leaves_step steps next s (MayLeave c) is (λ t x le now. inr (record { applies = applies; image = subst (λ (d : Disk). IsImage d x) (of.joins (disk_of steps)) now }))

-- a call that has made its change, whatever it answers
pub does_made : {T E : Type 0} (steps next : List Step) (s : Step) (c : Change) (result : Result T E) → IsStepOf s c → Applies c (names_now (disk_of steps)) → next ≡ steps ++ s ∷ [] → Does c (told_by steps) (told_by next) result
does_made steps next s c (Ok x) of applies is = record { made = makes_on steps next s c of applies is; failed = tt; images = leaves_change steps next s c of applies is }
does_made steps next s c (Err e) of applies is = record { made = tt; failed = inr (makes_part c (makes_on steps next s c of applies is)); images = leaves_change steps next s c of applies is }

-- a call of a change, that answers whether there was such a file, if it doesn't fail
abbrev pub NotedIf : Change → Step → List Step → List Step → Bool → Type 0
NotedIf c s steps next was = MatchBool was (Applies c (names_now (disk_of steps)) × (next ≡ steps ++ s ∷ [])) ((Applies c (names_now (disk_of steps)) → ⊥) × (next ≡ steps))

misses_on : (steps next : List Step) (c : Change) → (Applies c (names_now (disk_of steps)) → ⊥) → next ≡ steps → Misses c (told_by steps) (told_by next)
misses_on steps next c absent is = record {
  names = ap (λ (l : List Step). Some (names_now (disk_of l))) is;
  disk = ap (λ (l : List Step). Some (disk_of l)) is;
  absent = λ m told applies. absent (subst (Applies c) (sym (same_map _ _ told)) applies);
}

pub does_made_if : {E : Type 0} (steps next : List Step) (s : Step) (c : Change) (was : Bool) (result : Result Bool E) → IsStepOf s c → NotedIf c s steps next was → IfOk result (λ given. given ≡ was) → DoesIf c (told_by steps) (told_by next) result
does_made_if steps next s c true (Ok given) of noted is = record { made = subst (MakesIf c (told_by steps) (told_by next)) (sym is) (makes_on steps next s c of noted.0 noted.1); failed = tt; images = leaves_change steps next s c of noted.0 noted.1 }
does_made_if steps next s c true (Err e) of noted is = record { made = tt; failed = inr (makes_part c (makes_on steps next s c of noted.0 noted.1)); images = leaves_change steps next s c of noted.0 noted.1 }
does_made_if steps next s c false (Ok given) of noted is = record { made = subst (MakesIf c (told_by steps) (told_by next)) (sym is) (misses_on steps next c noted.0 noted.1); failed = tt; images = leaves_all steps next (MayLeave c) noted.1 }
does_made_if steps next s c false (Err e) of noted is = record { made = tt; failed = inl (keeps_all noted.1); images = leaves_all steps next (MayLeave c) noted.1 }

none_there : (o : Option (List ℕ)) → o ≡ None → IsSome o → ⊥
none_there None is some = let no : false ≡ true = some in cc
none_there (Some v) is some = cc

-- what a record says of a rename or a removal
pub noted_rename : (a b : List ℕ) (steps next : List Step) (was : Bool) → MatchBool was (IsSome (get (names_now (disk_of steps)) a)) (get (names_now (disk_of steps)) a ≡ None)
    → MatchBool was (next ≡ steps ++ Rename a b ∷ []) (next ≡ steps) → NotedIf (names.Rename a b) (Rename a b) steps next was
noted_rename a b steps next true there is = (there, is)
noted_rename a b steps next false there is = (none_there _ there, is)

pub noted_remove : (n : List ℕ) (steps next : List Step) (was : Bool) → MatchBool was (IsSome (get (names_now (disk_of steps)) n)) (get (names_now (disk_of steps)) n ≡ None)
    → MatchBool was (next ≡ steps ++ Remove n ∷ []) (next ≡ steps) → NotedIf (names.Remove n) (Remove n) steps next was
noted_remove n steps next true there is = (there, is)
noted_remove n steps next false there is = (none_there _ there, is)

-- a settle that is noted
pub settles_on : {T E : Type 0} (steps next : List Step) (x : T) → next ≡ steps ++ Settle ∷ [] → Settles {E = E} (told_by steps) (told_by next) (Ok x)
settles_on steps next x is = record {
  done = record {
    names = ap (λ (l : List Step). Some (names_now (disk_of l))) is ∙ ap (λ (d : Disk). Some (names_now d)) (disk_more steps Settle);
    disk = ap (λ (l : List Step). Some (disk_of l)) is ∙ ap (λ (d : Disk). Some d) (disk_more steps Settle);
  };
  failed = tt;
  images = leaves_step steps next Settle Nothing is (λ t x le now.
      let m = names_now (disk_of steps) in
      inl ((told_by steps).counts_now (disk_of steps) t x refl le (subst (λ (y : Names). IsImage (disk_of steps) y) (sym (only_settled m x now)) (now_is_image (disk_of steps)))));
}

-- the disk and the record with a step more
pub turns_on : (old new : MemStore) (s : Step) (into : Disk → Disk) → ((d : Disk) → stepped s d ≡ into d) → new.disk.steps.items ≡ old.disk.steps.items ++ s ∷ [] → Turns into (mem old) (mem new)
turns_on old new s into is more = record {
  disk = ap disk_of more ∙ disk_more old.disk.steps.items s ∙ is (disk_of old.disk.steps.items);
  clock = ap length more ∙ length-append old.disk.steps.items (s ∷ []);
}

pub rests_on : (old new : MemStore) → new.disk.steps.items ≡ old.disk.steps.items → Rests (mem old) (mem new)
rests_on old new is = record { disk = ap disk_of is; clock = ap length is }

pub made_there : (old new : MemStore) (s : Step) (c : Change) (was : Bool) → IsStepOf s c → NotedIf c s old.disk.steps.items new.disk.steps.items was → MadeIfThere c (mem old) (mem new)
made_there old new s c true of noted = inl (noted.0, turns_on old new s (joined c) of.joins noted.1)
made_there old new s c false of noted = inr (noted.0, rests_on old new noted.1)

-- a call that wasn't planned to leave its change out
pub ends_made : {T E : Type 0} (c : Change) (before now : Mem) (result : Result T E) → Counts before now result → is_err result ≡ is_some (next_fault before) → now.starved ≡ before.starved
    → next_fault before ≢ Some false → MadeIfThere c before now → Ends c before now result
ends_made c before now result counts fails starved wanted made = record { counts = counts; ends = inl (record { fails = fails; starved = starved; kept = λ is. absurd (wanted is); made = λ _. made }) }
