-- The first flaw of an image from the flaws of its parts.
use Rattle.std.proofs.Common.{ℕ, ◌≡◌, ◌/◌, true, false, List, [], ◌∷◌, ◌++◌, length, refl}
use Rattle.std.specs.Prelude.{◌==◌, nat_lt, slice_get, Some, None}
use Rattle.kl_elf.specs.Records.{ehdr_at}
use Rattle.kl_elf.specs.declared.records.Phdr.{Phdr}
use Rattle.kl_elf.specs.declared.abi.TheConstants.{ET_DYN}
use Rattle.kl_model.specs.Loaded.{dynamics}
use Rattle.kl_model.proofs.Each.{head_left, none_left, none_right}
use Rattle.kl_image.specs.Headers.{head_flaws, segment_flaws}
use Rattle.kl_image.specs.Dynamic.{dynamic_header, entry_flaws, table_flaws}
use Rattle.kl_image.specs.Flaws.{IsFirst, image_flaws}
use Rattle.kl_image.specs.declared.fault.ImageFault.{ImageFault}
use Rattle.kl_image.specs.declared.fault.ImageFault.TheVariants as fault

pub first_is : (xs : List ImageFault) (e : ImageFault) → slice_get xs 0 ≡ Some e → IsFirst xs e
first_is xs (fault.Head at) h = h
first_is xs (fault.Segment index) h = h
first_is xs (fault.Tables at) h = h
first_is xs fault.NoMemory h = tt

pub none_is : (xs : List ImageFault) → slice_get xs 0 ≡ None → xs ≡ []
none_is [] h = refl
none_is (x ∷ xs) h = cc

pub first_left : (xs ys : List ImageFault) (e : ImageFault) → IsFirst xs e → IsFirst (xs ++ ys) e
first_left xs ys (fault.Head at) h = head_left xs ys (fault.Head at) h
first_left xs ys (fault.Segment index) h = head_left xs ys (fault.Segment index) h
first_left xs ys (fault.Tables at) h = head_left xs ys (fault.Tables at) h
first_left xs ys fault.NoMemory h = tt

-- the tables of a shared object
pub header_missing : (b : List ℕ) → dynamic_header b ≡ None → slice_get (table_flaws b) 0 ≡ Some (fault.Tables 32)
unfolding table_flaws
header_missing b none = rw none refl

pub entry_first : (b : List ℕ) (s : Phdr) (e : ImageFault) → dynamic_header b ≡ Some s → IsFirst (entry_flaws b s.offset) e → IsFirst (table_flaws b) e
unfolding table_flaws
entry_first b s e is h = rw is (first_left (entry_flaws b s.offset) _ e h)

pub end_missing : (b : List ℕ) (s : Phdr) → dynamic_header b ≡ Some s → entry_flaws b s.offset ≡ [] → nat_lt (length (dynamics b)) (s.filesz / 16) ≡ false
    → slice_get (table_flaws b) 0 ≡ Some (fault.Tables 32)
unfolding table_flaws
end_missing b s is none past = rw (is, none, past) refl

pub tables_right : (b : List ℕ) (s : Phdr) → dynamic_header b ≡ Some s → entry_flaws b s.offset ≡ [] → nat_lt (length (dynamics b)) (s.filesz / 16) ≡ true → table_flaws b ≡ []
unfolding table_flaws
tables_right b s is none past = rw (is, none, past) refl

-- the whole
pub head_first : (b : List ℕ) (e : ImageFault) → slice_get (head_flaws b) 0 ≡ Some e → IsFirst (image_flaws b) e
unfolding image_flaws
head_first b e h = first_left (head_flaws b ++ segment_flaws b) _ e (first_left (head_flaws b) (segment_flaws b) e (first_is (head_flaws b) e h))

pub segment_first : (b : List ℕ) (e : ImageFault) → head_flaws b ≡ [] → IsFirst (segment_flaws b) e → IsFirst (image_flaws b) e
unfolding image_flaws
segment_first b e none h = rw none (first_left (segment_flaws b) _ e h)

pub table_first : (b : List ℕ) (e : ImageFault) → head_flaws b ≡ [] → segment_flaws b ≡ [] → ((ehdr_at b 0).kind == ET_DYN) ≡ true → IsFirst (table_flaws b) e → IsFirst (image_flaws b) e
unfolding image_flaws
table_first b e none right shared h = rw (none, right, shared) h

pub shared_right : (b : List ℕ) → head_flaws b ≡ [] → segment_flaws b ≡ [] → ((ehdr_at b 0).kind == ET_DYN) ≡ true → table_flaws b ≡ [] → image_flaws b ≡ []
unfolding image_flaws
shared_right b none right shared tables = rw (none, right, shared) tables

pub fixed_right : (b : List ℕ) → head_flaws b ≡ [] → segment_flaws b ≡ [] → ((ehdr_at b 0).kind == ET_DYN) ≡ false → image_flaws b ≡ []
unfolding image_flaws
fixed_right b none right fixed = rw (none, right, fixed) refl

-- the program headers of an image without a flaw
pub headers_right : (b : List ℕ) → image_flaws b ≡ [] → segment_flaws b ≡ []
unfolding image_flaws
headers_right b none = none_right (head_flaws b) (segment_flaws b) (none_left (head_flaws b ++ segment_flaws b) _ none)
