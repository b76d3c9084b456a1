use Rattle.std.proofs.Common.{◌≡◌, rules}
use Rattle.std.proofs.lemmas.Fn.{always_returns_same}
use Rattle.kl_elf.specs.declared.records.Rela.{Rela}
use Rattle.kl_dyn.proofs.StableSort.{sort_by_number}
use Rattle.kl_dyn.proofs.entries.sort_by_offset.Goals as goal

pub returns : goal.returns
returns c =
    let key = λ (r : Rela). r.offset in
    let same = always_returns_same _ (λ a r. r ≡ key a.0.now) _ (λ a r q k. search rules) in
    sort_by_number key c.args.relas.now.items c.sort_by_key.new.self.items (c.in_ok-sort_by_key.ensures.sorted key same) (c.in_ok-sort_by_key.ensures.stable key same)
