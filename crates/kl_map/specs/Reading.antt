-- What is read of a line. For the contracts inside this crate alone.
use Rattle.std.specs.Prelude.{ℕ, ◌≡◌, ◌+◌, ◌^◌, ◌<◌, ◌==◌, ◌&&◌, nat_lt, Bool, true, false, not, if◌then◌else◌, List, [], ◌∷◌, ◌++◌, length, codes, Option, Some, None, Result, Ok, Err}
use Rattle.std.specs.Int.{from_be_bytes, w64}
use Rattle.std.specs.Option.{option_and_then, option_map, option_map_or}
use Rattle.std.specs.Str.{bytes_eq}
use Rattle.hex.specs.Hex.{IsBytes, decode_sized, encode_lower}
use Rattle.hex.specs.declared.error.FromHexError.{FromHexError}
use Rattle.kl_base.specs.Names.{name_fault}
use Rattle.kl_base.specs.declared.class.Class.{Class}
use Rattle.kl_base.specs.declared.class.Class.TheVariants.{Text, Rodata, Rwdata, Bss}
use Rattle.kl_base.specs.declared.name.NameFault.{NameFault}
use Rattle.kl_text.specs.Lines.{after_prefix, cut}
use Rattle.kl_text.specs.Numbers.{number_of}
use Rattle.kl_model.specs.Areas.{class_number}
use Rattle.kl_model.specs.declared.area.TheConstants as area
use Rattle.kl_model.specs.declared.graph.PieceId.{PieceId}
use Rattle.kl_model.specs.declared.graph.PieceId.TheVariants.{Section, Common, Gap}
use Rattle.kl_model.specs.declared.place.AreaAt.{AreaAt}
use Rattle.kl_model.specs.declared.place.Placed.{Placed}
use Rattle.kl_model.specs.declared.place.Placement.{Placement}
use Rattle.kl_map.specs.MapForm.{is_before, placed_ids}
use Rattle.kl_map.specs.MapText.{area_name}
use Rattle.kl_map.specs.declared.map.Map.{Map}

-- the bytes that lower-case digits spell
abbrev pub spelled : List ℕ → Result (List ℕ) FromHexError → Option (List ℕ)
spelled word (Ok bytes) = if bytes_eq (encode_lower bytes) word then Some bytes else None
spelled word (Err e) = None

abbrev pub bytes_of : ℕ → List ℕ → Option (List ℕ)
bytes_of count word = spelled word (decode_sized word count)

-- the address or size of a word
unfoldable pub address_of : List ℕ → Option ℕ
address_of word = option_and_then (λ digits. option_map (λ bytes. from_be_bytes w64 bytes) (bytes_of 8 digits)) (after_prefix (codes "0x") word)

-- two addresses or sizes
unfoldable pub sizes_of : List ℕ → Option (ℕ × ℕ)
sizes_of text = option_and_then (λ (first, second). option_and_then (λ a. option_map (λ b. (a, b)) (address_of second)) (address_of first)) (cut 32 text)

-- the area of a line, by its number
unfoldable pub area_of : ℕ → List ℕ → Option AreaAt
area_of number text =
    option_and_then (λ rest. option_and_then (λ (name, sizes). if bytes_eq name (area_name number) then option_map (λ (start, end). record { start = start; end = end }) (sizes_of sizes) else None) (cut 32 rest)) (after_prefix (codes "area ") text)

-- what the line of a piece, a common or a gap tells behind its first word, and what follows that
unfoldable pub section_of : List ℕ → Option (PieceId × List ℕ)
section_of text =
    option_and_then (λ (input, rest). option_and_then (λ (section, sizes). option_and_then (λ i. option_map (λ s. (Section i s, sizes)) (number_of section)) (number_of input)) (cut 32 rest)) (cut 32 text)

unfoldable pub common_of : List ℕ → Option (PieceId × List ℕ)
common_of text = option_and_then (λ (number, sizes). option_map (λ n. (Common n, sizes)) (number_of number)) (cut 32 text)

abbrev pub class_of : List ℕ → Option Class
class_of word =
    if bytes_eq word (codes "text") then Some Text
    else if bytes_eq word (codes "rodata") then Some Rodata
    else if bytes_eq word (codes "data") then Some Rwdata
    else if bytes_eq word (codes "bss") then Some Bss
    else None

unfoldable pub gap_of : List ℕ → Option (PieceId × List ℕ)
gap_of text = option_and_then (λ (class, sizes). option_map (λ c. (Gap c, sizes)) (class_of class)) (cut 32 text)

unfoldable pub id_of : List ℕ → Option (PieceId × List ℕ)
id_of text =
    option_map_or section_of (after_prefix (codes "piece ") text)
    (option_map_or common_of (after_prefix (codes "common ") text) (option_and_then gap_of (after_prefix (codes "gap ") text)))

-- the piece, common or gap of a line
unfoldable pub placed_of : List ℕ → Option Placed
placed_of text =
    option_and_then (λ (id, sizes). option_map (λ (address, size). record { id = id; address = address; size = size }) (sizes_of sizes)) (id_of text)

-- what may stand first behind the areas
abbrev pub may_begin : PieceId → Bool
may_begin (Section input section) = true
may_begin (Common number) = number == 0
may_begin (Gap class) = class_number class == area.TEXT

-- what may stand behind a section, a common or a gap
abbrev pub after_section : ℕ → ℕ → PieceId → Bool
after_section input section (Section i s) = is_before (input, section) (i, s)
after_section input section (Common number) = number == 0
after_section input section (Gap class) = class_number class == area.TEXT

abbrev pub after_common : ℕ → PieceId → Bool
after_common number (Section i s) = false
after_common number (Common n) = n == (number + 1)
after_common number (Gap class) = class_number class == area.TEXT

abbrev pub after_gap : Class → PieceId → Bool
after_gap class (Section i s) = false
after_gap class (Common n) = false
after_gap class (Gap c) = class_number c == (class_number class + 1)

abbrev pub may_follow : Option PieceId → PieceId → Bool
may_follow None id = may_begin id
may_follow (Some (Section input section)) id = after_section input section id
may_follow (Some (Common number)) id = after_common number id
may_follow (Some (Gap class)) id = after_gap class id

-- what may stand last
abbrev pub may_end : Option PieceId → Bool
may_end None = true
may_end (Some (Section input section)) = true
may_end (Some (Common number)) = true
may_end (Some (Gap class)) = class_number class == area.BSS

-- the last of some, or what stands before them
abbrev pub last_of : Option PieceId → List PieceId → Option PieceId
last_of before [] = before
last_of before (id ∷ ids) = last_of (Some id) ids

abbrev pub last_id : List Placed → Option PieceId
last_id pieces = last_of None (placed_ids pieces)

-- the map ends here
abbrev pub is_ended : Placement → Bool
is_ended p = not (nat_lt (length p.areas) area.FIRST_RUN) && may_end (last_id p.pieces)

-- what one more line adds
abbrev pub next_area : Placement → List ℕ → Option AreaAt
next_area p text = if length p.pieces == 0 then area_of (length p.areas) text else None

abbrev pub if_follows : Option PieceId → Option Placed → Option Placed
if_follows last None = None
if_follows last (Some x) = if may_follow last x.id then Some x else None

abbrev pub next_placed : Placement → List ℕ → Option Placed
next_placed p text = if nat_lt (length p.areas) area.FIRST_RUN then None else if_follows (last_id p.pieces) (placed_of text)

abbrev pub with_area : Placement → AreaAt → Placement
with_area p x = record p { areas = p.areas ++ x ∷ [] }

abbrev pub with_placed : Placement → Placed → Placement
with_placed p x = record p { pieces = p.pieces ++ x ∷ [] }

abbrev pub or_placed : Placement → List ℕ → Option AreaAt → Option Placement
or_placed p text (Some x) = Some (with_area p x)
or_placed p text None = option_map (with_placed p) (next_placed p text)

-- the placement with what one more line adds
abbrev pub with_line : Placement → List ℕ → Option Placement
with_line p text = or_placed p text (next_area p text)

-- the first line of a text with what its second word says, behind that first word, and what follows the line
abbrev pub head_of : {X : Type 0} → List ℕ → (List ℕ → Option X) → List ℕ → Option (X × List ℕ)
head_of key read text = option_and_then (λ (l, rest). option_and_then (λ word. option_map (λ x. (x, rest)) (read word)) (after_prefix key l)) (cut 10 text)

abbrev pub name_if : List ℕ → Option NameFault → Option (List ℕ)
name_if word None = Some word
name_if word (Some fault) = None

abbrev pub name_of : List ℕ → Option (List ℕ)
name_of word = name_if word (name_fault word)

-- a map with no lines behind its head
pub record IsHead (map : Map) : Type 0 where
  pub output : name_fault map.output ≡ None
  pub seed_length : length map.seed ≡ 32
  pub seed : IsBytes map.seed
  pub base : map.placement.base < 2 ^ 64
  pub areas : map.placement.areas ≡ []
  pub pieces : map.placement.pieces ≡ []
