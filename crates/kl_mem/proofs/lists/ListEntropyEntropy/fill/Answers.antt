use Rattle.std.proofs.Common.{ℕ, List, ap, arith}
use Rattle.std.specs.Prelude.{Some}
use Rattle.kl_mem.proofs.lists.ListEntropyEntropy.fill.Goals as goal
use Rattle.kl_mem.proofs.Blocks.{next_block}

pub returns-clause-fills : goal.returns-clause-fills
returns-clause-fills c = record {
  given = record { left = ap (λ (l : List (List ℕ)). Some l) (next_block c.args.self.now.blocks.items c.args.self.now.next c.index.result.now (omega arith) c.index.ensures) };
  failed = tt;
}

pub returns-clause-fails : goal.returns-clause-fails
returns-clause-fails c =
    let more = next_block c.args.self.now.blocks.items c.args.self.now.next c.index.result.now (omega arith) c.index.ensures in
    (λ no. cc, λ none. cc)
