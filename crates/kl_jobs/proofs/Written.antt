-- What writing an image and its map leaves.
use Rattle.std.proofs.Common.{◌≡◌, ◌≢◌, ℕ, ◌-◌, true, List, ◌++◌, length, refl, sym, ap, ◌∙◌, arith, append_assoc, length-append}
use Rattle.std.specs.Prelude.{codes}
use Rattle.std.proofs.lemmas.List.{drop_at}
use Rattle.kl_store.specs.Names.{is_scratch}
use Rattle.kl_store.specs.Disk.{Disk, names_now, with_file}
use Rattle.kl_store.specs.Meaning.{Meaning}
use Rattle.kl_store.specs.Files.{HasFiles, KeepsNames, SameFiles}
use Rattle.kl_store.specs.Images.{LeavesOfDisk}
use Rattle.kl_store.specs.Disk.{IsNear}
use Rattle.std.specs.Option.{ForSome}
use Rattle.std.specs.Prelude.{Some}
use Rattle.kl_store.proofs.Disks.{near_written}
use Rattle.kl_store.proofs.KeptNames.{keeps_trans, scratch_files}
use Rattle.kl_store.proofs.Moments.{leaves_on, weaker}
use Rattle.kl_store.proofs.WrittenFiles.{is_written, near_files, near_twice}
use Rattle.kl_jobs.specs.Writing.{IsPutPair, image_name, map_name}

-- names that end so are scratch names
scratch : (dir front : List ℕ) → is_scratch (dir ++ (front ++ codes ".relink")) ≡ true
scratch dir front =
    let whole : dir ++ (front ++ codes ".relink") ≡ (dir ++ front) ++ codes ".relink" = sym (append_assoc dir front (codes ".relink")) in
    let n : length ((dir ++ front) ++ codes ".relink") - 7 ≡ length (dir ++ front) = omega (arith, length-append (dir ++ front) (codes ".relink")) in
    rw whole (rw (n, drop_at (dir ++ front) (codes ".relink") (length (dir ++ front)) refl) refl)

pub image_scratch : (dir : List ℕ) → is_scratch (image_name dir) ≡ true
image_scratch dir = scratch dir (codes "/linked")

pub map_scratch : (dir : List ℕ) → is_scratch (map_name dir) ≡ true
map_scratch dir = scratch dir (codes "/linked.map")

image_not_map : (dir : List ℕ) → image_name dir ≢ map_name dir
image_not_map dir e = omega (arith, ap length e, length-append dir (codes "/linked.relink"), length-append dir (codes "/linked.map.relink"))

-- the names with the image and then the map
pub pair_put : (dir image map : List ℕ) (d : Disk) → IsPutPair dir image map (names_now d) (names_now (with_file (map_name dir) map (with_file (image_name dir) image d)))
pair_put dir image map d =
    let first = is_written d (image_name dir) image in
    let second = is_written (with_file (image_name dir) image d) (map_name dir) map in
    record {
      image_held = second.others (image_name dir) (image_not_map dir) ∙ first.here;
      map_held = second.here;
      others = λ q not_image not_map. second.others q not_map ∙ first.others q not_image;
    }

-- a crash after the image, and after the map too
pub image_quiet : {a b : Meaning} (dir : List ℕ) → LeavesOfDisk a b (IsNear (image_name dir)) → LeavesOfDisk a b HasFiles
image_quiet dir p = weaker p (λ d told x near. near_files (image_name dir) d x (image_scratch dir) near)

pub pair_quiet : {a b c : Meaning} (dir image : List ℕ) → LeavesOfDisk a b (IsNear (image_name dir)) → ForSome a.disk (λ d. b.disk ≡ Some (with_file (image_name dir) image d))
    → LeavesOfDisk b c (IsNear (map_name dir)) → LeavesOfDisk a c HasFiles
pair_quiet dir image first made second = leaves_on (image_quiet dir first) second (λ d told. (
  with_file (image_name dir) image d,
  made d told,
  λ x near. near_twice (image_name dir) (map_name dir) d (with_file (image_name dir) image d) x (image_scratch dir) (map_scratch dir) (λ y image_of. near_written d (image_name dir) image y image_of) near,
))

-- and the files, whatever the calls answer
pub image_files : {a b : Meaning} (dir : List ℕ) → KeepsNames (λ n. n ≢ image_name dir) a b → SameFiles a b
image_files dir p = scratch_files (image_name dir) (image_scratch dir) p

pub pair_files : {a b c : Meaning} (dir : List ℕ) → KeepsNames (λ n. n ≢ image_name dir) a b → KeepsNames (λ n. n ≢ map_name dir) b c → SameFiles a c
pair_files dir p q = keeps_trans (image_files dir p) (scratch_files (map_name dir) (map_scratch dir) q)
