-- What a commit does.
use Rattle.std.specs.Prelude.{Result}
use Rattle.kl_store.specs.Meaning.{Meaning}
use Rattle.kl_store.specs.Images.{Leaves, Ends, NamesHave}
use Rattle.kl_install.specs.Batch.{Batch, IsOldOrNew, IsDone}

-- With Ok the batch is done, and nothing else is on the disk. During the call and after it each image, and the names,
-- have all of its files old or all new.
pub record Commits {T E : Type 0} (b : Batch) (before now : Meaning) (result : Result T E) : Type 0 where
  pub done : Ends before now result (IsDone b)
  pub images : Leaves before now (IsOldOrNew b)
  pub names : NamesHave before now (IsOldOrNew b)
