-- A new file, and what a crash leaves while it isn't stable.
use Rattle.std.proofs.Common.{◌≡◌, ◌≢◌, ℕ, List, [], ◌++◌, true, false, refl, ap, ◌∙◌}
use Rattle.std.specs.Prelude.{Some, unwrap_or}
use Rattle.std.specs.FinMap.{get}
use Rattle.std.proofs.lemmas.Bool.{cond-true, cond-false}
use Rattle.kl_store.specs.Names.{Names, same_name, is_scratch, Create, Append, carried_out}
use Rattle.kl_store.specs.Disk.{Disk, IsImage, IsNear, names_now, joined, with_file}
use Rattle.kl_store.specs.Files.{HasFiles, IsWritten}
use Rattle.kl_store.proofs.NameMaps.{same_refl, same_apart, get-created, get-appended}
use Rattle.kl_store.proofs.Disks.{names_now-joined}
use Rattle.kl_store.proofs.KeptNames.{plain_not_scratch}

pub written_names : (d : Disk) (n bytes : List ℕ) → names_now (with_file n bytes d) ≡ carried_out (Append n bytes) (carried_out (Create n) (names_now d))
written_names d n bytes = names_now-joined (joined (Create n) d) (Append n bytes) ∙ ap (carried_out (Append n bytes)) (names_now-joined d (Create n))

written_here : (m : Names) (n bytes : List ℕ) → get (carried_out (Append n bytes) (carried_out (Create n) m)) n ≡ Some bytes
written_here m n bytes = get-appended (carried_out (Create n) m) n bytes n ∙ cond-true (same_name n n) _ _ (same_refl n)
    ∙ ap (λ o. Some (unwrap_or o [] ++ bytes)) (get-created m n n ∙ cond-true (same_name n n) _ _ (same_refl n))

pub written_other : (m : Names) (n bytes q : List ℕ) → q ≢ n → get (carried_out (Append n bytes) (carried_out (Create n) m)) q ≡ get m q
written_other m n bytes q other = get-appended (carried_out (Create n) m) n bytes q ∙ cond-false (same_name q n) _ _ (same_apart q n other)
    ∙ get-created m n q ∙ cond-false (same_name q n) _ _ (same_apart q n other)

pub written : (d : Disk) (n bytes : List ℕ) → get (names_now (with_file n bytes d)) n ≡ Some bytes
written d n bytes = ap (λ (m : Names). get m n) (written_names d n bytes) ∙ written_here (names_now d) n bytes

-- the names with the new file
pub is_written : (d : Disk) (n bytes : List ℕ) → IsWritten n bytes (names_now d) (names_now (with_file n bytes d))
is_written d n bytes = record {
  here = written d n bytes;
  others = λ q other. ap (λ (m : Names). get m q) (written_names d n bytes) ∙ written_other (names_now d) n bytes q other;
}

-- an image but for a scratch name has the files of an image
pub near_files : (n : List ℕ) (d : Disk) (x : Names) → is_scratch n ≡ true → IsNear n d x → HasFiles d x
near_files n d x scratch near = record {
  image = near.near;
  was = near.image;
  same = λ q plain. near.others q (plain_not_scratch q n scratch plain);
}

-- and so has one but for two
pub near_twice : (n k : List ℕ) (d e : Disk) (x : Names) → is_scratch n ≡ true → is_scratch k ≡ true → ((y : Names) → IsImage e y → IsNear n d y) → IsNear k e x → HasFiles d x
near_twice n k d e x scratch scratch_too first near =
    let before = near_files n d near.near scratch (first near.near near.image) in
    record {
      image = before.image;
      was = before.was;
      same = λ q plain. near.others q (plain_not_scratch q k scratch_too plain) ∙ before.same q plain;
    }
