use Rattle.std.proofs.Common.{◌≡◌, ◌<◌, ◌^◌, drop}
use Rattle.std.specs.Char.{is_digit}
use Rattle.std.specs.List.{list_all}
use Rattle.std.specs.Str.Parse.{digits_value, digits_value_after}
use Rattle.compared_verdicts.proofs.numbers.number_of.Given as goal

-- What is left of the digits goes on from the number that those so far spell.
abbrev pub invariant-loop-byte : goal.invariant-loop-byte
invariant-loop-byte l = record {
  small : l.number < 10 ^ l.byte-index;
  value : digits_value_after 10 l.number (drop l.byte-index l.word) ≡ digits_value 10 l.word;
  digits : list_all (λ b. is_digit b 10) (drop l.byte-index l.word) ≡ list_all (λ b. is_digit b 10) l.word;
}
