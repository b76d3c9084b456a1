use Rattle.std.proofs.Common.{◌≡◌, ◌++◌, take, ◌∙◌, rules}
use Rattle.kl_install.proofs.Suffixes.{suffix_valid, ok_name}
use Rattle.kl_install.proofs.suffix.with_suffix.Goals as goal

pub unwrap-requires : goal.unwrap-requires
unwrap-requires c =
    let named = c.args.name.now ++ c.args.suffix.now in
    let text : take c.put-end.result c.put-end.new.out ≡ named = search rules in
    ok_name named c.from_bytes.result (rw text at c.from_bytes.ensures.fault) (suffix_valid c.args.name.now c.args.suffix.now c.requires.suffix c.requires.short c.bytes.ensures.name)

pub returns : goal.returns
returns c =
    let text : take c.put-end.result c.put-end.new.out ≡ c.args.name.now ++ c.args.suffix.now = search rules in
    let made = rw c.unwrap.ensures at c.from_bytes.ensures.ok in
    made.0 ∙ text
