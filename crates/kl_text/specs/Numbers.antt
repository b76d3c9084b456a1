-- Numbers as they are printed.
use Rattle.std.specs.Prelude.{ℕ, ◌^◌, ◌&&◌, nat_lt, if◌then◌else◌, List, decimal, Option, Some, None}
use Rattle.std.specs.Str.{bytes_eq}
use Rattle.std.specs.Str.Parse.{digits_value}

-- the number of a word: what its digits say, where that is spelled so
unfoldable pub number_of : List ℕ → Option ℕ
number_of word = let n = digits_value 10 word in if nat_lt n (2 ^ 32) && bytes_eq (decimal n) word then Some n else None
