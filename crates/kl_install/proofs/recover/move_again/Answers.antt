use Rattle.std.proofs.Common.{arith, refl}
use Rattle.std.proofs.lemmas.Result.{on_ok_weaker}
use Rattle.kl_store.specs.Names.{Rename}
use Rattle.kl_store.specs.Disk.{names_now}
use Rattle.kl_store.proofs.Moments.{leaves_none, leaves_move, told_settled}
use Rattle.kl_intent.proofs.Grammar.{entry_at}
use Rattle.kl_install.specs.After.{temp_of}
use Rattle.kl_install.proofs.Redone.{again_first, again_next, again_end, part_moved}
use Rattle.kl_store.proofs.KeptNames.{kept_names, keeps_trans, settles_names}
use Rattle.kl_install.proofs.Untouched.{place_names}
use Rattle.kl_install.proofs.recover.move_again.Goals as goal

pub take_place-requires : goal.take_place-requires
take_place-requires g c = entry_at c.args.entries.now c.loop-entry.entry-index c.entry-item.result c.requires.each c.loop-entry-test.true c.entry-item.is

pub loop-entry-init : goal.loop-entry-init
loop-entry-init g c = record {
  state = λ d told. again_first _ d c.args.entries.now told (c.requires.moves d told);
  images = leaves_none;
  others = kept_names _ _ refl;
  faults = omega arith;
}

pub returns-in_err-take_place-clause-images : goal.returns-in_err-take_place-clause-images
returns-in_err-take_place-clause-images g c =
    let e = c.entry-item.result in
    leaves_move (Rename (temp_of e) e.target) tt c.loop-entry.invariant.images c.take_place.ensures.does.images (λ d told.
    let at = c.loop-entry.invariant.state d told in
    (at.now, at.told, at.moves, λ is. part_moved (names_now d) (names_now at.now) c.args.entries.now c.loop-entry.entry-index e c.loop-entry-test.true c.entry-item.is at.names is))

pub loop-entry-preserved : goal.loop-entry-preserved
loop-entry-preserved g c =
    let e = c.entry-item.result in
    record {
      state = λ d told. again_next _ _ (names_now d) c.args.entries.now c.loop-entry.entry-index e c.in_ok-take_place.field-0 c.loop-entry-test.true c.entry-item.is (c.loop-entry.invariant.state d told) c.in_ok-take_place.ensures.does.made;
      images = leaves_move (Rename (temp_of e) e.target) tt c.loop-entry.invariant.images c.take_place.ensures.does.images (λ d told.
          let at = c.loop-entry.invariant.state d told in
          (at.now, at.told, at.moves, λ is. part_moved (names_now d) (names_now at.now) c.args.entries.now c.loop-entry.entry-index e c.loop-entry-test.true c.entry-item.is at.names is));
      others = keeps_trans c.loop-entry.invariant.others (place_names c.args.entries.now c.loop-entry.entry-index e c.loop-entry-test.true c.entry-item.is c.take_place.ensures.does);
      faults = omega (arith, c.loop-entry.invariant.faults, c.take_place.ensures.cause.later);
    }

pub returns-clause-done : goal.returns-clause-done
returns-clause-done g c = on_ok_weaker c.settle.result (λ s d told.
    let at = c.loop-entry.invariant.state d told in
    (names_now at.now, told_settled at.now s at.told, again_end (names_now d) (names_now at.now) c.args.entries.now c.loop-entry.entry-index (omega arith) at.names)) c.settle.ensures.settles.done

pub returns-in_err-take_place-clause-others : goal.returns-in_err-take_place-clause-others
returns-in_err-take_place-clause-others g c = keeps_trans c.loop-entry.invariant.others (place_names c.args.entries.now c.loop-entry.entry-index c.entry-item.result c.loop-entry-test.true c.entry-item.is c.take_place.ensures.does)

pub returns-clause-others : goal.returns-clause-others
returns-clause-others g c = keeps_trans c.loop-entry.invariant.others (kept_names _ _ (settles_names c.settle.ensures.settles))
