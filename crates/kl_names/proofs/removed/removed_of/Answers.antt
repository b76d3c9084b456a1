use Rattle.std.proofs.Common.{suc, ◌≡◌, ◌∙◌, ◌+◌, ◌++◌, ◌∷◌, [], length, get_or, refl, ap, sym, rules, arith, false}
use Rattle.std.specs.Prelude.{replicate}
use Rattle.std.proofs.lemmas.List.{append-nil, get_or_default, with_items_is}
use Rattle.kl_model.specs.Lists.{among, only_if}
use Rattle.kl_model.specs.Texts.{text_at}
use Rattle.kl_model.specs.Kept.{earlier, input_at, no_input}
use Rattle.kl_model.specs.declared.object.Group.{Group}
use Rattle.kl_model.specs.declared.object.Input.{Input}
use Rattle.kl_names.specs.Removed.{marked}
use Rattle.kl_names.proofs.RemovedSteps.{earlier-all, earlier-more, length-marked, length-told_by, not_false, not_true, sees-more, told_by, told_by-all, told_by-more, told_by-none, told_by-other}
use Rattle.kl_names.proofs.removed.removed_of.Goals as goal
use Rattle.kl_names.proofs.removed.removed_of.Goals.{then-group+in_ok-insert+then-not-branch, else-group, else-group-via-then-group+in_ok-insert+else-not-branch, else-group-via-else-group}

pub loop-group-init : goal.loop-group-init
loop-group-init c = record {
  marks =
      let inputs = c.args.inputs.now in let i = c.args.i in
      let x = c.index-inputs-i.is ∙ get_or_default inputs i _ no_input c.requires.input in
      let sections : c.items.result.now ≡ (input_at inputs i).object.sections = c.items.ensures ∙ ap (λ (x : Input). x.object.sections) x in
      let items : c.in_ok-removed.removed.items ≡ replicate (length c.items.result.now + 1) false = search rules in
      let many : length c.items.result.now + 1 ≡ suc (length (input_at inputs i).object.sections) = (let same = ap length sections in omega arith) in
      items ∙ (ap (λ n. replicate n false) many ∙ told_by-none inputs i);
  sees = c.requires.before;
}

pub mark-requires : goal.mark-requires
mark-requires c =
    let inputs = c.args.inputs.now in let i = c.args.i in let k = c.loop-group.group-index in
    let x = c.index-inputs-i.is ∙ get_or_default inputs i _ no_input c.requires.input in
    let groups : c.items-group-items.result.now ≡ (input_at inputs i).object.groups = c.items-group-items.ensures ∙ ap (λ (x : Input). x.object.groups) x in
    let l = rw groups at c.loop-group-test.true in
    let group : c.group-item.result ≡ get_or (input_at inputs i).object.groups k c.group-item.result =
    rw groups at (c.group-item.is ∙ get_or_default c.items-group-items.result.now k _ c.group-item.result c.loop-group-test.true) in
    let members = ((c.requires.inputs.each_input i no_input c.requires.input).groups k c.group-item.result l).members in
    λ j d h.
    let all : c.items-then-not-branch.result.now ≡ (get_or (input_at inputs i).object.groups k c.group-item.result).members = c.items-then-not-branch.ensures ∙ ap (λ (g : Group). g.members) group in
    let member = members j d (rw all at h) in
    let top = member.1 in
    let this = ap (λ l. get_or l j d) all in
    let many = ap length (c.deref_mut.ensures.value ∙ c.loop-group.invariant.marks) ∙ length-told_by inputs i k in
    omega (arith, top, this, many)

pub loop-group-preserved : goal.loop-group-preserved
loop-group-preserved c =
    let inputs = c.args.inputs.now in let i = c.args.i in let k = c.loop-group.group-index in
    let x = c.index-inputs-i.is ∙ get_or_default inputs i _ no_input c.requires.input in
    let groups : c.items-group-items.result.now ≡ (input_at inputs i).object.groups = c.items-group-items.ensures ∙ ap (λ (x : Input). x.object.groups) x in
    let l = rw groups at c.loop-group-test.true in
    let d = c.group-item.result in
    let group : c.group-item.result ≡ get_or (input_at inputs i).object.groups k d =
    rw groups at (c.group-item.is ∙ get_or_default c.items-group-items.result.now k _ c.group-item.result c.loop-group-test.true) in
    let comdat_is = ap (λ (g : Group). g.comdat) group in
    let text_is = ap (λ (g : Group). text_at (input_at inputs i).bytes g.signature) group in
    let members_is = ap (λ (g : Group). g.members) group in
    let text = text_at (input_at inputs i).bytes (get_or (input_at inputs i).object.groups k d).signature in
    let more = earlier-more inputs i k d l in
    elim c.if-group.branch [
      | then-group+in_ok-insert+then-not-branch w ↦
          let comdat = sym comdat_is ∙ w.if-group.true in
          let name : w.signature_of.result.now ≡ text = w.signature_of.ensures ∙ (ap (λ (x : Input). text_at x.bytes c.group-item.result.signature) x ∙ text_is) in
          let known = ap (among (earlier inputs i k)) (sym name) ∙ (sym (c.loop-group.invariant.sees w.signature_of.result.now) ∙ not_false _ (sym w.in_ok-insert.ensures.added ∙ w.if-not-branch.true)) in
          let seen = sees-more c.loop-group.seen w.insert.new.self w.signature_of.result (earlier inputs i k) w.in_ok-insert.ensures.updates c.loop-group.invariant.sees in
          let texts : earlier inputs i (k + 1) ≡ earlier inputs i k ++ w.signature_of.result.now ∷ [] =
          more ∙ (ap (λ b. earlier inputs i k ++ only_if b text) comdat ∙ ap (λ t. earlier inputs i k ++ t ∷ []) (sym name)) in
          record {
            marks =
                let long = ap length w.mark.ensures ∙ (length-marked w.deref_mut.result.now w.items-then-not-branch.result.now ∙ w.deref_mut.ensures.len) in
                rw w.removed-is (with_items_is c.loop-group.removed w.mark.new.removed long
                ∙ (w.mark.ensures ∙ (ap (λ b. marked b w.items-then-not-branch.result.now) (w.deref_mut.ensures.value ∙ c.loop-group.invariant.marks)
                ∙ (ap (marked (told_by inputs i k)) (w.items-then-not-branch.ensures ∙ members_is) ∙ sym (told_by-more inputs i k d l comdat known)))));
            sees = rw (w.seen-is, texts) seen;
          }
      | else-group w ↦ elim w.else-group.branch [
        | else-group-via-then-group+in_ok-insert+else-not-branch v ↦
            let comdat = sym comdat_is ∙ v.if-group.true in
            let name : v.signature_of.result.now ≡ text = v.signature_of.ensures ∙ (ap (λ (x : Input). text_at x.bytes c.group-item.result.signature) x ∙ text_is) in
            let known = ap (among (earlier inputs i k)) (sym name) ∙ (sym (c.loop-group.invariant.sees v.signature_of.result.now) ∙ not_true _ (sym v.in_ok-insert.ensures.added ∙ v.if-not-branch.false)) in
            let seen = sees-more c.loop-group.seen v.insert.new.self v.signature_of.result (earlier inputs i k) v.in_ok-insert.ensures.updates c.loop-group.invariant.sees in
            let texts : earlier inputs i (k + 1) ≡ earlier inputs i k ++ v.signature_of.result.now ∷ [] =
            more ∙ (ap (λ b. earlier inputs i k ++ only_if b text) comdat ∙ ap (λ t. earlier inputs i k ++ t ∷ []) (sym name)) in
            record {
              marks = rw w.removed-is (c.loop-group.invariant.marks ∙ sym (told_by-other inputs i k d l (rw (comdat, known) refl)));
              sees = rw (w.seen-is, v.seen-is, texts) seen;
            }
        | else-group-via-else-group v ↦
            let comdat = sym comdat_is ∙ v.if-group.false in
            let texts : earlier inputs i (k + 1) ≡ earlier inputs i k = more ∙ (ap (λ b. earlier inputs i k ++ only_if b text) comdat ∙ append-nil _) in
            record {
              marks = rw w.removed-is (c.loop-group.invariant.marks ∙ sym (told_by-other inputs i k d l (rw comdat refl)));
              sees = rw (w.seen-is, v.seen-is, texts) c.loop-group.invariant.sees;
            }
      ]
    ]

pub returns-clause-removed : goal.returns-clause-removed
returns-clause-removed c =
    let inputs = c.args.inputs.now in let i = c.args.i in
    let x = c.index-inputs-i.is ∙ get_or_default inputs i _ no_input c.requires.input in
    let groups : c.items-group-items.result.now ≡ (input_at inputs i).object.groups = c.items-group-items.ensures ∙ ap (λ (x : Input). x.object.groups) x in
    c.from_vec.ensures ∙ (c.loop-group.invariant.marks ∙ told_by-all inputs i c.loop-group.group-index (rw groups at c.loop-group-test.false))

pub returns-clause-seen : goal.returns-clause-seen
returns-clause-seen c =
    let inputs = c.args.inputs.now in let i = c.args.i in
    let x = c.index-inputs-i.is ∙ get_or_default inputs i _ no_input c.requires.input in
    let groups : c.items-group-items.result.now ≡ (input_at inputs i).object.groups = c.items-group-items.ensures ∙ ap (λ (x : Input). x.object.groups) x in
    rw (sym (earlier-all inputs i c.loop-group.group-index c.requires.input (rw groups at c.loop-group-test.false))) c.loop-group.invariant.sees
