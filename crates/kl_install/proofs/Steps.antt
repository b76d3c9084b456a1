-- The steps of a commit.
use Rattle.std.proofs.Common.{◌≡◌, ◌≢◌, ℕ, List, [], ◌++◌, sym, ap, ◌∙◌}
use Rattle.std.specs.FinMap.{get}
use Rattle.kl_store.specs.Names.{Names, Create, Append, Rename, carried_out}
use Rattle.kl_store.specs.Disk.{Disk, names_now, joined}
use Rattle.kl_store.proofs.WrittenFiles.{written, written_names, written_other}
use Rattle.kl_install.specs.Moving.{HasIntent}
use Rattle.kl_install.proofs.Recovered.{renamed_other, renamed_to, renamed_from}

-- the intent is in its slot
pub has_intent : (d : Disk) (slot temp text : List ℕ) → slot ≢ temp → HasIntent slot temp text (names_now d) (carried_out (Rename temp slot) (names_now (joined (Append temp text) (joined (Create temp) d))))
has_intent d slot temp text apart =
    let m = names_now (joined (Append temp text) (joined (Create temp) d)) in
    record {
      stands = renamed_to m temp slot ∙ written d temp text;
      no_temp = renamed_from m temp slot (λ e. apart (sym e));
      others = λ n p q. renamed_other m temp slot n q p ∙ ap (λ (k : Names). get k n) (written_names d temp text) ∙ written_other (names_now d) temp text n q;
    }
