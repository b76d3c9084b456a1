use Rattle.std.proofs.Common.{◌≡◌, ◌∙◌, ℕ, [], ap, arith, length, subst, sym, take}
use Rattle.std.specs.List.{AllByRecursion}
use Rattle.kl_intent.specs.IntentText.{AreDistinct, IsEntry, entries_of}
use Rattle.kl_install.proofs.installer.Installer.commit.Goals as goal

pub invariant_of-self-2 : goal.invariant_of-self-2
invariant_of-self-2 g c =
    let count = c.new-self.ensures.count in
    let none : entries_of c.new-self.result ≡ [] = ap (λ (n : ℕ). take n c.new-self.result.entries) count in
    record {
      few = omega (arith, count);
      size = ap length none ∙ sym count;
      each = subst (AllByRecursion IsEntry) (sym none) tt;
      distinct = subst (AreDistinct []) (sym none) tt;
      room = c.args.self.now.room;
    }
