use Rattle.std.proofs.Common.{◌∙◌, arith}
use Rattle.kl_store.proofs.Moments.{stays_on}
use Rattle.kl_intent.proofs.Grammar.{entry_at}
use Rattle.kl_install.proofs.Named.{target_short}
use Rattle.kl_install.proofs.Redone.{unsound_step, sound_found}
use Rattle.kl_install.proofs.sound.first_unsound.Goals as goal

pub temp_name-requires : goal.temp_name-requires
temp_name-requires g c = target_short c.index-entries-number.result.target (entry_at c.args.entries.now c.loop-number.number c.index-entries-number.result c.requires.each c.loop-number-test.true c.index-entries-number.is).target

pub loop-number-preserved : goal.loop-number-preserved
loop-number-preserved g c = record {
  rest = λ m told.
      let e = c.index-entries-number.result in
      let one = c.in_ok-target.ensures.digest m (c.loop-number.invariant.still.names ∙ told) in
      let two = c.in_ok-temp.ensures.digest m (c.digest_file.ensures.still.names ∙ c.loop-number.invariant.still.names ∙ told) in
      c.loop-number.invariant.rest m told ∙ unsound_step m c.args.entries.now c.loop-number.number e c.loop-number-test.true c.index-entries-number.is
      (sound_found m e c.temp_name.result c.in_ok-target.target c.in_ok-temp.temp c.is_sound.result c.temp_name.ensures one two c.is_sound.ensures c.if-not-is_sound.false);
  still = stays_on (stays_on c.loop-number.invariant.still c.digest_file.ensures.still) c.digest_file-in-loop-number.ensures.still;
  faults = omega (arith, c.loop-number.invariant.faults, c.digest_file.ensures.cause.later, c.digest_file-in-loop-number.ensures.cause.later);
}
