-- ARCHIVES AS THEY ARE WRITTEN: the magic, and behind it members one behind the other.
use Rattle.std.specs.Prelude.{ℕ, ◌≡◌, ◌≤◌, ◌+◌, ◌%◌, true, List, [], ◌∷◌, ◌++◌, flat_map, length, Some, ⊤}
use Rattle.kl_ar.specs.Archives.{data_at, has_end, header_at, headers, size_of}
use Rattle.kl_ar.specs.declared.fault.ArError.{ArError}
use Rattle.kl_ar.specs.declared.fault.ArError.TheVariants as error
use Rattle.kl_ar.specs.declared.fault.ArFault.{ArFault}
use Rattle.kl_ar.specs.declared.fault.ArFault.TheVariants as fault
use Rattle.kl_ar.specs.declared.format.TheConstants.{HEADER_ALIGN, HEADER_LEN, MAGIC, MAGIC_LEN}
use Rattle.kl_ar.specs.declared.member.Member.{Member}

-- what stands in the file for a member, a symbol index or a table of long names: a header, its content, and what fills this up to
-- an even length
pub record Stored : Type 0 where
  pub header : List ℕ
  pub content : List ℕ
  pub pad : List ℕ

abbrev pub stored_bytes : Stored → List ℕ
stored_bytes s = s.header ++ s.content ++ s.pad

-- a header has 60 bytes, the last of which end it, and its size field says how many bytes the content has
pub record IsStored (s : Stored) : Type 0 where
  pub full : length s.header ≡ HEADER_LEN
  pub ended : has_end s.header ≡ true
  pub size : size_of s.header ≡ Some (length s.content)

-- a byte of any value fills up content of an odd length; at the end of the file it may be missing
abbrev pub pad_len : Stored → ℕ
pad_len s = length s.content % HEADER_ALIGN

abbrev pub AreStored : List Stored → Type 0
AreStored [] = ⊤
AreStored (s ∷ []) = IsStored s × (length s.pad ≤ pad_len s)
AreStored (s ∷ t ∷ rest) = IsStored s × (length s.pad ≡ pad_len s) × AreStored (t ∷ rest)

pub record IsArchive (b : List ℕ) (stored : List Stored) : Type 0 where
  pub bytes : b ≡ MAGIC ++ flat_map stored_bytes stored
  pub each : AreStored stored

-- the place behind one of them that stands at a place
abbrev pub place_behind : ℕ → Stored → ℕ
place_behind at s = at + HEADER_LEN + length s.content + pad_len s

-- the places of the headers
abbrev pub places_from : ℕ → List Stored → List ℕ
places_from at [] = []
places_from at (s ∷ rest) = at ∷ places_from (place_behind at s) rest

-- at each of these places its header is read, and its content as the data behind that
abbrev pub HaveParts : List ℕ → ℕ → List Stored → Type 0
HaveParts b at [] = ⊤
HaveParts b at (s ∷ rest) = (header_at b at ≡ s.header) × (data_at b at ≡ s.content) × HaveParts b (place_behind at s) rest

-- they are those that are read of the file
pub record AreRead (b : List ℕ) (stored : List Stored) : Type 0 where
  pub headers : headers b ≡ places_from MAGIC_LEN stored
  pub parts : HaveParts b MAGIC_LEN stored

-- the file is an archive of what is read of it
pub record IsWhole (b : List ℕ) : Type 0 where
  pub stored : List Stored
  pub archive : IsArchive b stored
  pub read : AreRead b stored

-- what may be told of such a file: a long name, or want of memory
abbrev pub IsOfNames : ArFault → Type 0
IsOfNames (fault.LongName at) = ⊤
IsOfNames f = ⊥

abbrev pub IsNameError : ArError → Type 0
IsNameError (error.Flaw f) = IsOfNames f
IsNameError error.NoMemory = ⊤

-- the name and the bytes of a member stand in the file
pub record IsWithin (b : List ℕ) (member : Member) : Type 0 where
  pub name : member.name.at + member.name.len ≤ length b
  pub bytes : member.start + member.len ≤ length b
