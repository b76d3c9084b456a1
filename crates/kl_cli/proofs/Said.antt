-- How a command ends, and what is written of it.
use Rattle.std.proofs.Common.{◌≡◌, ◌≢◌, ℕ, List, length, refl, arith, Option, Bool, true, false, inl, inr, ◌⊎◌, subst, sym, if◌then◌else◌}
use Rattle.std.specs.Prelude.{Some, None, Result, Ok, Err, IfOk, IfErr, is_ok, unwrap_or}
use Rattle.std.specs.Option.{ForSome}
use Rattle.std.proofs.lemmas.List.{take_all}
use Rattle.kl_base.specs.declared.class.Slot.TheVariants as slot
use Rattle.kl_store.specs.Names.{Names}
use Rattle.kl_store.specs.Meaning.{Meaning}
use Rattle.kl_store.specs.Outside.{Blocks, Taken, Writes}
use Rattle.kl_store.specs.Calls.{HasCause, Stays}
use Rattle.kl_install.specs.After.{after}
use Rattle.kl_install.specs.Recovery.{slot_end}
use Rattle.kl_install.specs.declared.recover.SlotEnd.{SlotEnd}
use Rattle.kl_install.specs.declared.recover.SlotEnd.TheVariants.{Nothing, Completed, Foreign, BadIntent}
use Rattle.kl_generate.specs.Generated.{IsGenerated}
use Rattle.kl_link.specs.declared.report.Report.{Report}
use Rattle.kl_store.proofs.Moments.{stays_none}
use Rattle.kl_jobs.specs.Recovery.{ends_refusal, recovery_refusal}
use Rattle.kl_jobs.specs.Refusals.{EndsUnder}
use Rattle.kl_jobs.specs.Seeds.{IsSeed}
use Rattle.kl_jobs.specs.declared.cause.Cause.{Cause}
use Rattle.kl_jobs.specs.declared.cause.Cause.TheVariants.{Done, NoMemory, Sink, Store}
use Rattle.kl_jobs.specs.declared.fault.JobFault.{JobFault}
use Rattle.kl_cli.specs.Answers.{Answers, IsAnswer, IsAtEnd, IsCauseOf, IsDoneInMemory, IsNoEnd, MayChange, Says, StandsSo, batches_of, cause_of, early, late, lines_of}
use Rattle.kl_cli.specs.Commands.{AsksForMemory, HasSeed, IsInMemory, IsRequest, request_of}
use Rattle.kl_cli.specs.Done.{ComesToEnd, Does, Finishes, IsDone, IsEnd, refusal_of}
use Rattle.kl_cli.specs.declared.command.Command.{Command}
use Rattle.kl_cli.specs.declared.command.Command.TheVariants.{Link, ReorderKernel, Recover, Generate}
use Rattle.kl_cli.specs.declared.command.Request.{Request}
use Rattle.kl_cli.specs.declared.outcome.Outcome.{Outcome}
use Rattle.kl_cli.specs.declared.outcome.Outcome.TheVariants.{Linked, Relinked, Recovered, Generated}

-- what is answered of an outcome
abbrev answer_to : Option Cause → Bool → Cause
answer_to e told = unwrap_or e (if told then Done else Sink)

is_end : (e : Option Cause) (told : Bool) → IsEnd e (answer_to e told)
is_end None true = inl refl
is_end None false = inr refl
is_end (Some c) told = refl

cause_is : (ended : Result Outcome JobFault) (told : Bool) → IsCauseOf ended (cause_of ended told)
cause_is (Ok o) told = is_end (refusal_of o) told
cause_is (Err f) told = refl

-- a slot that isn't recovered
abbrev IsOfSlot : Option Cause → Type 0
IsOfSlot None = Unit {0}
IsOfSlot (Some c) = IsAtEnd c × (c ≢ Done)

of_ends : (kernel libs : SlotEnd) → IsOfSlot (ends_refusal kernel libs)
of_ends (Foreign entry target temp) libs = (tt, λ is. cc)
of_ends (BadIntent line) libs = (tt, λ is. cc)
of_ends Nothing libs = of_libs libs
  where
    of_libs : (libs : SlotEnd) → IsOfSlot (ends_refusal Nothing libs)
    of_libs Nothing = tt
    of_libs (Completed files) = tt
    of_libs (Foreign entry target temp) = (tt, λ is. cc)
    of_libs (BadIntent line) = (tt, λ is. cc)
of_ends (Completed files) libs = of_libs libs
  where
    of_libs : (libs : SlotEnd) → IsOfSlot (ends_refusal (Completed files) libs)
    of_libs Nothing = tt
    of_libs (Completed more) = tt
    of_libs (Foreign entry target temp) = (tt, λ is. cc)
    of_libs (BadIntent line) = (tt, λ is. cc)

of_outcome : (o : Outcome) → IsOfSlot (refusal_of o)
of_outcome (Linked dir report) = tt
of_outcome (Relinked report) = tt
of_outcome (Recovered kernel libs) = of_ends kernel libs
of_outcome (Generated count report) = tt

at_end : (e : Option Cause) (told : Bool) → IsOfSlot e → IsAtEnd (answer_to e told)
at_end None true h = tt
at_end None false h = tt
at_end (Some c) told h = h.0

-- what came to its end is what did something
pub done_ends : {request : Option Request} {b0 b1 : Blocks} {before now : Meaning} (ended : Result Outcome JobFault) (told : Bool) → IfOk ended (Finishes request b0 b1 before now)
    → IfErr ended (λ f. IsNoEnd f.cause) → IsAtEnd (cause_of ended told) → ComesToEnd request b0 b1 before now (cause_of ended told) (batches_of ended)
done_ends (Ok o) told does refused at = record { outcome = o; finishes = does; counted = refl; answer = is_end (refusal_of o) told }
done_ends (Err f) told does refused at = absurd (refused at)

-- what didn't has changed nothing, or the store failed
pub untouched : {before now : Meaning} (ended : Result Outcome JobFault) (told : Bool) → IfErr ended (λ f. (f.cause ≡ Store) ⊎ ((f.batches ≡ 0) × Stays before now))
    → MayChange (cause_of ended told) ⊎ ((batches_of ended ≡ 0) × Stays before now)
untouched (Ok o) told h = inl (inl (at_end (refusal_of o) told (of_outcome o)))
untouched (Err f) told h = elim h [ inl store ↦ inl (inr store) | inr still ↦ inr still ]

-- a command that works in memory alone
in_memory : (given : Option (List ℕ)) (b0 b1 : Blocks) (before now : Meaning) (c : Command) (o : Outcome) → IsInMemory c → Does c given b0 b1 before now o → refusal_of o ≡ None
in_memory given b0 b1 before now (Link dir) o is does = absurd is
in_memory given b0 b1 before now ReorderKernel o is does = absurd is
in_memory given b0 b1 before now Recover o is does = absurd is
in_memory given b0 b1 before now (Generate n) (Linked dir report) is does = absurd does
in_memory given b0 b1 before now (Generate n) (Relinked report) is does = absurd does
in_memory given b0 b1 before now (Generate n) (Recovered kernel libs) is does = absurd does
in_memory given b0 b1 before now (Generate n) (Generated count report) is does = refl

pub done_in_memory : (b0 b1 : Blocks) (before now : Meaning) (request : Option Request) (ended : Result Outcome JobFault) (told : Bool) → AsksForMemory request
    → IfOk ended (Finishes request b0 b1 before now) → IfErr ended (λ f. f.cause ≡ NoMemory) → IsDoneInMemory (cause_of ended told)
done_in_memory b0 b1 before now None ended told asks does refused = absurd asks
done_in_memory b0 b1 before now (Some r) (Ok o) told asks does refused = inl (subst (λ (e : Option Cause). IsDone (answer_to e told)) (sym (in_memory r.seed b0 b1 before now r.command o asks does)) (is_end None told))
done_in_memory b0 b1 before now (Some r) (Err f) told asks does refused = inr refused

-- such a command has its own seed, and nothing stands against it
ends_with : (n : ℕ) (given : Option (List ℕ)) (b : Blocks) (m : Names) → HasSeed (Generate n) given
    → EndsUnder given b b (early m (Generate n)) (late m (Generate n)) None
ends_with n None b m has = cc
ends_with n (Some seed) b m has = record { seed = seed; drawn = (refl, record { left = refl }); none_early = refl; end_is = refl }

pub ends_in_memory : (c : Command) (n : ℕ) (given : Option (List ℕ)) (b : Blocks) (names : Option Names) → c ≡ Generate n → IsRequest c given
    → ForSome names (λ m. EndsUnder given b b (early m c) (late m c) None)
ends_in_memory c n given b names is asked = λ m told.
    subst (λ c. EndsUnder given b b (early m c) (late m c) None) (sym is) (ends_with n given b m (subst (λ c. HasSeed c given) is asked.1))

pub generates : (c : Command) (n : ℕ) (given : Option (List ℕ)) (seed : List ℕ) (b : Blocks) (now : Meaning) (report : Report) → c ≡ Generate n → given ≡ Some seed → IsGenerated seed n report
    → Does c given b b now now (Generated n report)
generates c n given seed b now report is seed_is generated =
    subst (λ c. Does c given b b now now (Generated n report)) (sym is)
    (refl, record { seed = seed; drawn = subst (λ (g : Option (List ℕ)). IsSeed g b b seed) (sym seed_is) (refl, record { left = refl }); generated = generated; stays = stays_none })

-- a recovery has its own seed too, and what stands against it is what the slots say
recovery_stands : (given : Option (List ℕ)) (b : Blocks) (m : Names) (e : Option Cause) → HasSeed Recover given → recovery_refusal m ≡ e
    → StandsSo (Some (record { command = Recover; seed = given })) b b m e
recovery_stands None b m e has is = cc
recovery_stands (Some seed) b m None has is = record { seed = seed; drawn = (refl, record { left = refl }); none_early = is; end_is = refl }
recovery_stands (Some seed) b m (Some c) has is = record { stands = is; undrawn = record { left = refl } }

pub ends_recovering : (c : Command) (given : Option (List ℕ)) (b : Blocks) (names : Option Names) (kernel libs : SlotEnd) → c ≡ Recover → IsRequest c given
    → ForSome names (λ m. kernel ≡ slot_end slot.Kernel m) → ForSome names (λ m. libs ≡ slot_end slot.Libs (after slot.Kernel m))
    → ForSome names (λ m. StandsSo (Some (record { command = c; seed = given })) b b m (ends_refusal kernel libs))
ends_recovering c given b names kernel libs is asked one two = λ m told.
    subst (λ c. StandsSo (Some (record { command = c; seed = given })) b b m (ends_refusal kernel libs)) (sym is)
    (recovery_stands given b m (ends_refusal kernel libs) (subst (λ c. HasSeed c given) is asked.1) (rw (one m told, two m told) refl))

-- what is answered of it
pub answers : (words : List (List ℕ)) (b0 b1 : Blocks) (before : Meaning) (ended : Result Outcome JobFault) (told : Bool)
    → IfOk ended (λ o. ForSome before.names (λ m. StandsSo (request_of words) b0 b1 m (refusal_of o))) → IfErr ended (λ f. Answers words b0 b1 before f.cause)
    → Answers words b0 b1 before (cause_of ended told)
answers words b0 b1 before (Err f) told stands refused = refused
answers words b0 b1 before (Ok o) told stands refused = λ m names. of (request_of words) m (refusal_of o) (stands m names)
  where
    of : (r : Option Request) (m : Names) (e : Option Cause) → StandsSo r b0 b1 m e → IsAnswer r b0 b1 m (answer_to e told)
    of None m None h = absurd h
    of None m (Some c) h = absurd h
    of (Some r) m None h = inr (inr (inr (record { end = None; under = h; answer = is_end None told })))
    of (Some r) m (Some c) h = inr (inl h)

-- the lines of it are written, or some first bytes of them
not_done : (ended : Result Outcome JobFault) → IfErr ended (λ f. IsNoEnd f.cause) → cause_of ended false ≢ Done
not_done (Ok o) refused = go (refusal_of o) (of_outcome o)
  where
    go : (e : Option Cause) → IsOfSlot e → answer_to e false ≢ Done
    go None h is = cc
    go (Some c) h is = h.1 is
not_done (Err f) refused = λ is. refused (subst IsAtEnd (sym is) tt)

pub says : {T E : Type 0} (request : Option Request) (b0 b1 : Blocks) (before now : Meaning) (ended : Result Outcome JobFault) {a b : Taken} (f0 f1 : ℕ) (r : Result T E)
    → IfOk ended (Finishes request b0 b1 before now) → IfErr ended (λ f. IsNoEnd f.cause) → Writes (lines_of ended) a b r → HasCause f0 f1 r
    → Says request b0 b1 before now (cause_of ended (is_ok r)) a b f0 f1
says request b0 b1 before now ended f0 f1 (Ok x) does refused w h = record {
  ended = ended;
  cause = cause_is ended true;
  numbers = does;
  part = length (lines_of ended);
  taken = rw (take_all (length (lines_of ended)) (lines_of ended) (omega arith)) w.taken;
  whole = inl (omega arith);
}
says request b0 b1 before now ended f0 f1 (Err e) does refused w h = record {
  ended = ended;
  cause = cause_is ended false;
  numbers = does;
  part = w.failed.0;
  taken = w.failed.1;
  whole = inr (not_done ended refused, h.failed);
}
