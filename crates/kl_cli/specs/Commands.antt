-- The words of the command line.
use Rattle.std.specs.Prelude.{ℕ, ◌≡◌, ◌≤◌, Bool, true, false, if◌then◌else◌, ◌&&◌, nat_le, List, [], ◌∷◌, length, replicate, codes, is_none, Option, Some, None, Result, Ok, Err}
use Rattle.std.specs.Str.{bytes_eq}
use Rattle.std.specs.Option.{option_and_then, option_map}
use Rattle.hex.specs.Hex.{decode_sized}
use Rattle.hex.specs.declared.error.FromHexError.{FromHexError}
use Rattle.kl_base.specs.Names.{name_fault}
use Rattle.kl_base.specs.declared.limits.TheConstants.{FILE_LIMIT}
use Rattle.kl_text.specs.Numbers.{number_of}
use Rattle.kl_generate.specs.declared.limits.TheConstants.{MADE_LIMIT}
use Rattle.kl_cli.specs.declared.command.Command.{Command}
use Rattle.kl_cli.specs.declared.command.Command.TheVariants.{Link, ReorderKernel, Recover, Generate}
use Rattle.kl_cli.specs.declared.command.Request.{Request}

-- the folder of a kit is a name within the limit
abbrev pub is_folder : List ℕ → Bool
is_folder w = nat_le (length w) FILE_LIMIT && is_none (name_fault w)

abbrev pub folder_of : List ℕ → Option (List ℕ)
folder_of w = if is_folder w then Some w else None

-- a number of objects: decimal, from 1 to the limit
abbrev pub count_of : List ℕ → Option ℕ
count_of w = option_and_then (λ n. if nat_le 1 n && nat_le n MADE_LIMIT then Some n else None) (number_of w)

-- THE COMMAND of a word alone: `reorder_kernel` or `recover`
abbrev pub command_of : List ℕ → Option Command
command_of word =
    if bytes_eq word (codes "reorder_kernel") then Some ReorderKernel
    else if bytes_eq word (codes "recover") then Some Recover
    else None

-- and of a word and the one behind it: `link DIR` or `generate N`
abbrev pub command_with : List ℕ → List ℕ → Option Command
command_with word operand =
    if bytes_eq word (codes "link") then option_map Link (folder_of operand)
    else if bytes_eq word (codes "generate") then option_map Generate (count_of operand)
    else None

-- the seed of a command that draws none, where none is given with it: zeros
abbrev pub own_seed : Command → Option (List ℕ)
own_seed (Link dir) = None
own_seed ReorderKernel = None
own_seed Recover = Some (replicate 32 0)
own_seed (Generate n) = Some (replicate 32 0)

-- whether a seed may be given with the command
abbrev pub takes_seed : Command → Bool
takes_seed (Link dir) = true
takes_seed ReorderKernel = true
takes_seed Recover = false
takes_seed (Generate n) = true

-- a seed: 64 hexadecimal digits of either case
abbrev pub digits_value : Result (List ℕ) FromHexError → Option (List ℕ)
digits_value (Ok seed) = Some seed
digits_value (Err e) = None

abbrev pub seed_of : List ℕ → Option (List ℕ)
seed_of digits = digits_value (decode_sized digits 32)

abbrev pub unseeded : Option Command → Option Request
unseeded command = option_map (λ c. record { command = c; seed = own_seed c }) command

abbrev pub seeded : Option Command → List ℕ → Option Request
seeded command digits =
    option_and_then (λ c. if takes_seed c then option_map (λ s. record { command = c; seed = Some s }) (seed_of digits) else None) command

-- with two more words behind it: `--seed HEX`
abbrev pub flagged : Option Command → List ℕ → List ℕ → Option Request
flagged command flag digits = if bytes_eq flag (codes "--seed") then seeded command digits else None

-- WHAT THE WORDS ASK FOR, if they are a command, with `--seed HEX` behind it or without
abbrev pub request_of : List (List ℕ) → Option Request
request_of (word ∷ []) = unseeded (command_of word)
request_of (word ∷ operand ∷ []) = unseeded (command_with word operand)
request_of (word ∷ flag ∷ digits ∷ []) = flagged (command_of word) flag digits
request_of (word ∷ operand ∷ flag ∷ digits ∷ []) = flagged (command_with word operand) flag digits
request_of _ = None

-- what a command's words had
abbrev pub IsCommand : Command → Type 0
IsCommand (Link dir) = length dir ≤ FILE_LIMIT
IsCommand ReorderKernel = Unit {0}
IsCommand Recover = Unit {0}
IsCommand (Generate n) = (1 ≤ n) × (n ≤ MADE_LIMIT)

-- a command that draws no seed has one
abbrev pub HasSeed : Command → Option (List ℕ) → Type 0
HasSeed (Link dir) seed = Unit {0}
HasSeed ReorderKernel seed = Unit {0}
HasSeed Recover seed = (given : List ℕ) × (seed ≡ Some given)
HasSeed (Generate n) seed = (given : List ℕ) × (seed ≡ Some given)

abbrev pub IsRequest : Command → Option (List ℕ) → Type 0
IsRequest c seed = IsCommand c × HasSeed c seed

-- a command that works in memory alone
abbrev pub IsInMemory : Command → Type 0
IsInMemory (Generate n) = Unit {0}
IsInMemory _ = ⊥

abbrev pub AsksForMemory : Option Request → Type 0
AsksForMemory None = ⊥
AsksForMemory (Some r) = IsInMemory r.command
