use Rattle.std.proofs.Common.{◌≤◌, ◌∙◌, ap, sym, refl, length, ◌+◌, ◌++◌, take, length-append}
use Rattle.std.proofs.lemmas.List.{take_at, append_assoc}
use Rattle.kl_base.proofs.Joined.{name_fault-append}
use Rattle.kl_base.proofs.Kept.{padded-name}
use Rattle.kl_base.proofs.name.Name.join.Goals as goal
use Rattle.kl_base.specs.declared.limits.TheConstants.{NAME_LIMIT}

pub invariant_of-result : goal.invariant_of-result
invariant_of-result c =
    let folder = c.bytes-folder.ensures in
    let file = c.bytes-file.ensures in
    let a = c.bytes-folder.result.now in
    let b = c.bytes-file.result.now in
    let h : length a + length b ≤ NAME_LIMIT = rw (folder.bytes, file.bytes) c.requires in
    padded-name c.joined.result (a ++ b) (length a + length b)
    (c.joined.ensures ∙ sym (append_assoc a b _)) (length-append a b) h
    (name_fault-append a b (rw folder.bytes folder.name) (rw file.bytes file.name) h)

pub returns : goal.returns
returns c =
    let a = c.bytes-folder.result.now in
    let b = c.bytes-file.result.now in
    ap (take (length a + length b)) (c.joined.ensures ∙ sym (append_assoc a b _))
    ∙ (take_at (a ++ b) _ (length a + length b) (length-append a b) ∙ rw (c.bytes-folder.ensures.bytes, c.bytes-file.ensures.bytes) refl)
