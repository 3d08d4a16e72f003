use Rattle.std.proofs.Common.{◌≡◌, take}
use Rattle.std.specs.Char.{IsAsciiDigit}
use Rattle.std.specs.List.{All}
use Rattle.line_words.specs.Number.{capped, value_of}
use Rattle.line_words.proofs.numbers.digits_value.Given as goal

-- the bytes read are digits, and this is their value
abbrev pub invariant-loop-digit : goal.invariant-loop-digit
invariant-loop-digit l = record {
  digits : All IsAsciiDigit (take l.digit-index l.digits);
  value : l.value ≡ capped (value_of (take l.digit-index l.digits));
}
