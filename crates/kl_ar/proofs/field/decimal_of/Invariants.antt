use Rattle.std.proofs.Common.{◌≡◌, ◌<◌, ◌^◌, drop, length}
use Rattle.std.specs.Prelude.{fold}
use Rattle.std.specs.Char.{is_ascii_digit}
use Rattle.std.specs.List.{list_all}
use Rattle.kl_ar.specs.Fields.{number_of, with_digit}
use Rattle.kl_ar.proofs.field.decimal_of.Given as goal

abbrev pub invariant-loop-byte : goal.invariant-loop-byte
invariant-loop-byte l = record {
  some : 0 < length l.text;
  value : fold with_digit l.number (drop l.byte-index l.text) ≡ number_of l.text;
  digits : list_all is_ascii_digit (drop l.byte-index l.text) ≡ list_all is_ascii_digit l.text;
  bound : l.number < 10 ^ l.byte-index;
}
