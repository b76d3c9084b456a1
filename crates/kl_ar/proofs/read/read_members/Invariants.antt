use Rattle.std.proofs.Common.{◌≡◌, ◌-◌, ◌++◌, length}
use Rattle.std.specs.Prelude.{All, flat_map}
use Rattle.kl_ar.specs.Archives.{faults, faults_at, members_at, members_of}
use Rattle.kl_ar.specs.Grammar.{IsWithin}
use Rattle.kl_ar.specs.Readers.{HasTable, table_place}
use Rattle.kl_ar.proofs.Walks.{rest_of}
use Rattle.kl_ar.proofs.read.read_members.Given as goal

abbrev pub invariant-loop-at : goal.invariant-loop-at
invariant-loop-at l = record {
  table : HasTable l.bytes l.table;
  members : l.members.items ++ flat_map (members_at l.bytes) (rest_of l.bytes (table_place l.table) l.at) ≡ members_of l.bytes;
  faults : flat_map (faults_at l.bytes) (rest_of l.bytes (table_place l.table) l.at) ≡ faults l.bytes;
  within : All (IsWithin l.bytes) l.members.items;
}

abbrev pub decreases-loop-at : goal.decreases-loop-at
decreases-loop-at l = length l.bytes - l.at
