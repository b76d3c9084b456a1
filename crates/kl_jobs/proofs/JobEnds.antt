-- How a link ends.
use Rattle.std.proofs.Common.{◌≡◌, ℕ, List, [], refl, subst, inl, inr}
use Rattle.std.specs.Prelude.{Option, Some, None}
use Rattle.std.specs.Option.{ForSome}
use Rattle.kl_store.specs.Names.{Names}
use Rattle.kl_store.specs.Meaning.{Meaning}
use Rattle.kl_store.specs.Outside.{Blocks, GivesNone}
use Rattle.kl_model.specs.declared.kit.Kit.{Kit}
use Rattle.kl_model.specs.declared.kit.KitKind.{KitKind}
use Rattle.kl_model.specs.declared.object.Input.{Input}
use Rattle.kl_jobs.specs.Reading.{inputs_in, kit_in, kit_order, lines_refusal, text_refusal}
use Rattle.kl_jobs.specs.Refusals.{EndsUnder, IsJobRefusal, IsRefusal, Refuses, RefusesJob, inputs_refusal, kit_refusal, late_refusal}
use Rattle.kl_jobs.specs.Seeds.{IsSeed}
use Rattle.kl_jobs.specs.declared.cause.Cause.{Cause}
use Rattle.kl_jobs.specs.declared.cause.Cause.TheVariants.{Done, Usage, NoMemory, Store, Entropy, Sink}
use Rattle.kl_jobs.specs.declared.cause.Cause.TheVariants as cause

-- why a file isn't read is no cause of the words or the sink
pub job_refusal : (c : Cause) → IsRefusal c → IsJobRefusal c
job_refusal Done h = absurd h
job_refusal Usage h = absurd h
job_refusal NoMemory h = tt
job_refusal Store h = tt
job_refusal Entropy h = absurd h
job_refusal Sink h = absurd h
job_refusal (cause.Kit k) h = tt
job_refusal (cause.Object input line f) h = tt
job_refusal (cause.Link f) h = tt
job_refusal (cause.Pending slot) h = tt
job_refusal (cause.Record r) h = tt
job_refusal (cause.Mismatch recorded found) h = tt
job_refusal (cause.Foreign slot entry target temp) h = absurd h
job_refusal (cause.Intent slot line) h = absurd h

-- it is no fault of the source of random bytes
pub not_entropy : (c : Cause) {P : Type 0} → IsRefusal c → c ≡ Entropy → P
not_entropy c h e = absurd (rw e at h)

module _ (given : Option (List ℕ)) (b0 b1 : Blocks) where
  -- what stands before a seed is asked for
  pub early_refuses : (before : Meaning) (early : Names → Option Cause) (late : Names → List ℕ → Option Cause) (c : Cause)
      → Refuses before early c → GivesNone b0 b1 → RefusesJob given b0 b1 before early late c
  early_refuses before early late c h none = λ m told. elim (h m told) [ inl a ↦ inl a | inr e ↦ inr (inl (record { stands = e; undrawn = none })) ]

  -- that there is no seed, where nothing stands before
  pub unseeded : (before : Meaning) (early : Names → Option Cause) (late : Names → List ℕ → Option Cause) (c : Cause)
      → ForSome before.names (λ m. early m ≡ None) → c ≡ Entropy → RefusesJob given b0 b1 before early late c
  unseeded before early late c none is = λ m told. inr (inr (inl (record { cause_is = is; none_early = none m told })))

  module _ (wanted : Option KitKind) (m : Names) (dir seed : List ℕ) (kit : Kit) (drawn : IsSeed given b0 b1 seed) (kit_is : kit ≡ kit_in m dir) (text : text_refusal wanted m dir ≡ None) where
    -- what stands against the inputs
    pub ends_reading : (c : Cause) → lines_refusal m dir [] (kit_order kit.inputs) ≡ Some c → EndsUnder given b0 b1 (text_refusal wanted m dir) (late_refusal m dir) (Some c)
    ends_reading c e = record { seed = seed; drawn = drawn; none_early = text; end_is = subst (λ k. inputs_refusal m dir k seed ≡ Some c) kit_is (rw e refl) }

    -- what stands against the link, or nothing
    pub ends_linking : (inputs : List Input) (end : Option Cause) → inputs ≡ inputs_in m dir (kit_order kit.inputs) → lines_refusal m dir [] (kit_order kit.inputs) ≡ None
        → kit_refusal seed kit inputs ≡ end → EndsUnder given b0 b1 (text_refusal wanted m dir) (late_refusal m dir) end
    ends_linking inputs end inputs_are none e = record { seed = seed; drawn = drawn; none_early = text; end_is = subst (λ k. inputs_refusal m dir k seed ≡ end) kit_is (rw none (subst (λ xs. kit_refusal seed kit xs ≡ end) inputs_are e)) }
