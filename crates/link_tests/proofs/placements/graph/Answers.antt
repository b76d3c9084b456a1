use Rattle.std.proofs.Common.{◌≡◌, [], ◌∷◌, ◌++◌, length, length-append, ap, arith}
use Rattle.std.proofs.lemmas.List.Elements.{All-append, All-cons, All-nil}
use Rattle.link_tests.specs.SoundAmong.{IsSoundAmong}
use Rattle.link_tests.proofs.placements.graph.Goals as goal

pub loop-input-preserved : goal.loop-input-preserved
loop-input-preserved c =
    let P = IsSoundAmong (length c.args.sizes.now) in
    let before = c.loop-input.pieces in
    let x = c.text.result in
    let items : c.push.new.self ≡ before ++ x ∷ [] = c.in_ok-push.ensures.ok in
    let long = ap length items in
    let one = All-cons P x [] (c.text.ensures (length c.args.sizes.now) c.loop-input-test.true) (All-nil P) in
    record {
      sound = rw items (All-append P before (x ∷ []) c.loop-input.invariant.sound one);
      count = omega (arith, long, length-append before (x ∷ []), c.loop-input.invariant.count);
    }

pub returns-clause-sound : goal.returns-clause-sound
returns-clause-sound c =
    let no_fields = ap length c.new.ensures in
    let no_names = ap length c.new-2.ensures in
    let parts = ap length c.from_vec.ensures in
    let few = c.requires.few in
    let count = c.requires.count in
    λ kit. record {
      pieces = λ k d l. (c.loop-input.invariant.sound k d l).sound kit _ (omega (arith, parts, count));
      fields = λ k d l. absurd (omega (arith, no_fields, l));
      apart = λ i j d h l. absurd (omega (arith, no_fields, l));
      entry = tt;
      names = λ k d l. absurd (omega (arith, no_names, l));
      kernel = λ e. c.new-2.ensures;
      piece_count = omega (arith, c.loop-input.invariant.count, c.loop-input.auto.input-end, few);
      field_count = omega (arith, no_fields);
      name_count = omega (arith, no_names);
      input_count = omega (arith, parts, count, few);
    }
