use Rattle.std.proofs.Common.{◌∙◌, refl, inl, inr}
use Rattle.std.specs.Prelude.{None}
use Rattle.std.proofs.lemmas.Result.{err_from_is_err_and}
use Rattle.kl_store.specs.Disk.{names_now}
use Rattle.kl_store.proofs.KeptNames.{keeps_trans, stays_kept}
use Rattle.kl_store.proofs.Moments.{stays_then, told_names}
use Rattle.kl_jobs.proofs.JobEnds.{ends_linking}
use Rattle.kl_jobs.proofs.link.link_only.Goals as goal

pub returns-in_err-write_pair-clause-refused : goal.returns-in_err-write_pair-clause-refused
returns-in_err-write_pair-clause-refused g c =
    let r = err_from_is_err_and c.from_residual-in_err-write_pair.result c.from_residual-in_err-write_pair.ensures.1 in
    rw (r.1, r.2) (λ m told. inl (inr refl))

pub returns-in_err-write_pair-clause-images : goal.returns-in_err-write_pair-clause-images
returns-in_err-write_pair-clause-images g c = stays_then c.read_source.ensures.still c.write_pair.ensures.images

pub returns-in_err-write_pair-clause-files : goal.returns-in_err-write_pair-clause-files
returns-in_err-write_pair-clause-files g c = keeps_trans (stays_kept c.read_source.ensures.still) c.write_pair.ensures.files

pub returns-clause-done : goal.returns-clause-done
returns-clause-done g c =
    let source = c.in_ok-source.source in
    record {
      seed = source.seed;
      drawn = c.in_ok-source.ensures.seed;
      linked = λ d told.
          let pair = rw (c.deref.ensures.value, c.deref-2.ensures.value) at c.in_ok-write_pair.ensures.done in
          let end = pair d (c.read_source.ensures.still.disk ∙ told) in (
            end.0,
            end.1,
            record {
              kit = source.kit;
              inputs = source.inputs.items;
              image = c.in_ok-linked.linked.image.items;
              map = c.in_ok-linked.linked.map.items;
              reads = c.in_ok-source.ensures.reads (names_now d) (told_names (g.S.Store.meaning c.args.store.now) d told);
              linked = c.in_ok-linked.ensures.linked;
              told = c.in_ok-linked.ensures.told;
              written = end.2;
            },
          );
    }

pub returns-clause-stands : goal.returns-clause-stands
returns-clause-stands g c = λ m told.
    let source = c.in_ok-source.source in
    let reads = c.in_ok-source.ensures.reads m told in
    ends_linking c.args.seed _ _ None m c.args.dir.now source.seed source.kit c.in_ok-source.ensures.seed reads.kit_is reads.text source.inputs.items None reads.inputs_are reads.lines
    c.in_ok-linked.ensures.sound

pub returns-clause-images : goal.returns-clause-images
returns-clause-images g c = stays_then c.read_source.ensures.still c.write_pair.ensures.images

pub returns-clause-files : goal.returns-clause-files
returns-clause-files g c = keeps_trans (stays_kept c.read_source.ensures.still) c.write_pair.ensures.files
