use Rattle.std.proofs.Common.{◌+◌, ◌-◌, ◌*◌, ◌^◌, ◌<◌, min, length, take, get_or, sym, ap, ◌∙◌, arith}
use Rattle.std.proofs.lemmas.List.Elements.{All-more, All-nil}
use Rattle.std.specs.Char.{IsAsciiDigit}
use Rattle.line_words.specs.Number.{capped, value_of}
use Rattle.line_words.proofs.Decimal.{min-step, value_of-more, value_of-nil}
use Rattle.line_words.proofs.numbers.digits_value.Goals as goal

pub loop-digit-init : goal.loop-digit-init
loop-digit-init c = record { digits = All-nil IsAsciiDigit; value = sym (ap capped value_of-nil) }

pub loop-digit-preserved : goal.loop-digit-preserved
loop-digit-preserved c =
    let digits = c.args.digits.now in
    let i = c.loop-digit.digit-index in
    let most = 2 ^ 128 - 1 in
    let below : i < length digits = omega arith in
    let digit : IsAsciiDigit (get_or digits i 0) = c.if-not-is_ascii_digit.ensures.cases in
    record {
      digits = All-more IsAsciiDigit digits i 0 below c.loop-digit.invariant.digits digit;
      value = c.saturating_add-value.ensures
          ∙ ap (λ tens. min (tens + (get_or digits i 0 - 48)) most) c.saturating_mul.ensures
          ∙ ap (λ n. min (min (n * 10) most + (get_or digits i 0 - 48)) most) c.loop-digit.invariant.value
          ∙ min-step (value_of (take i digits)) (get_or digits i 0 - 48) most
          ∙ ap capped (sym (value_of-more digits i below));
    }
