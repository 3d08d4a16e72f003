use Rattle.std.proofs.Common.{◌≡◌, List, ℕ, sym, ◌∙◌, subst}
use Rattle.std.specs.Prelude.{IsUtf8}
use Rattle.std.specs.Str.Parse.{ParsesUnsigned}
use Rattle.number_text.proofs.Digits.{given-is, number_of-no_text, number_of-parsed, refused-is}
use Rattle.number_text.proofs.numbers.number.Goals as goal

-- the field is no text
pub returns-in_err-ok : goal.returns-in_err-ok
returns-in_err-ok c =
    let none = sym c.ok.ensures.value ∙ c.in_err-ok.was in
    let no_text : IsUtf8 c.args.field.now → ⊥
    = refused-is _ _ (IsUtf8 c.args.field.now → ⊥) (λ e says. says.0) c.from_utf8.result c.from_utf8.ensures.cases none in
    c.from_residual.ensures ∙ sym (number_of-no_text c.args.field.now no_text)

pub returns : goal.returns
returns c =
    let found = sym c.ok.ensures.value ∙ c.in_ok-ok.was in
    let text : c.in_ok-ok.field-0.now ≡ c.args.field.now
    = (given-is _ _ c.from_utf8.result c.in_ok-ok.field-0 c.from_utf8.ensures.cases found).0 in
    let parsed = subst (λ (bytes : List ℕ). ParsesUnsigned 64 10 bytes c.parse.result) text c.parse.ensures.value.0 in
    c.ok-2.ensures.value ∙ number_of-parsed c.args.field.now c.parse.result parsed
