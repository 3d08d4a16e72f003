-- The number that a field is, is what std parses of it.
use Rattle.std.proofs.Common.{◌≡◌, ℕ, zero, suc, ◌^◌, ◌<◌, ◌==◌, ◌&&◌, Bool, true, false, cond, inl, inr, List, [], ◌∷◌, Some, None, Result, Ok, Err, length, drop, nat_lt, refl, sym, ap, subst, ◌∙◌, arith}
use Rattle.std.proofs.lemmas.Bool.{and_from, and_parts, cases_Bool, cond-true, cond-false, eqb-true, lt-ltb, ltb-true}
use Rattle.std.proofs.lemmas.Fmt.{IsAscii-from_digits}
use Rattle.std.proofs.lemmas.Option.{none-some, same_Some}
use Rattle.std.proofs.lemmas.Str.{IsUtf8-from_ascii}
use Rattle.std.proofs.lemmas.Str.Parse.{IsNumeralModel, numerals_by_value, tells_all_ascii_digits}
use Rattle.std.specs.Prelude.{IsAscii, IsUtf8, MatchResult}
use Rattle.std.specs.Result.{result_ok}
use Rattle.std.specs.Str.{all_ascii_digits}
use Rattle.std.specs.Str.Parse.{IsNumeral, ParsesUnsigned, digits_value, without_leading_plus}
use Rattle.number_text.specs.Numbers.{number_of, spell_number}

-- ---- the answers of a result

module _ {T E : Type 0} (P : T → Type 0) (Q : E → Type 0) where
  pub given-is : (r : Result T E) (x : T) → MatchResult r P Q → result_ok r ≡ Some x → P x
  given-is (Ok y) x tells is = subst P (same_Some y x is) tells
  given-is (Err e) x tells is = absurd (none-some x is)

  pub refused-is : (R : Type 0) → ((e : E) → Q e → R) → (r : Result T E) → MatchResult r P Q → result_ok r ≡ None → R
  refused-is R each (Ok y) tells is = absurd (none-some y (sym is))
  refused-is R each (Err e) tells is = each e tells

-- ---- the test is that of std

model : IsNumeralModel (λ ds. all_ascii_digits ds ≡ true) (digits_value 10)
model = numerals_by_value (λ ds. all_ascii_digits ds ≡ true) tells_all_ascii_digits

-- one or more digits of a value below 2^64
abbrev pub IsSpelled : List ℕ → Type 0
IsSpelled ds = IsNumeral 10 ds × (digits_value 10 ds < 2 ^ 64)

spelled-passes : (ds : List ℕ) → IsSpelled ds → spell_number ds ≡ true
spelled-passes ds is =
    and_from (nat_lt 0 (length ds) && all_ascii_digits ds) (nat_lt (digits_value 10 ds) (2 ^ 64))
    (and_from (nat_lt 0 (length ds)) (all_ascii_digits ds) (lt-ltb 0 (length ds) is.0.0) (model.from ds is.0.1))
    (lt-ltb (digits_value 10 ds) (2 ^ 64) is.1)

passes-spelled : (ds : List ℕ) → spell_number ds ≡ true → IsSpelled ds
passes-spelled ds is =
    let parts = and_parts (nat_lt 0 (length ds) && all_ascii_digits ds) (nat_lt (digits_value 10 ds) (2 ^ 64)) is in
    let digits = and_parts (nat_lt 0 (length ds)) (all_ascii_digits ds) parts.0 in
    ((ltb-true 0 (length ds) digits.0, model.to ds digits.1), ltb-true (digits_value 10 ds) (2 ^ 64) parts.1)

-- ---- what is parsed

pub number_of-parsed : {E : Type 0} (field : List ℕ) (r : Result ℕ E) → ParsesUnsigned 64 10 field r → result_ok r ≡ number_of field
unfolding number_of
number_of-parsed field (Ok n) parsed =
    let ds = without_leading_plus field in
    ap (λ m. Some m) parsed.1 ∙ sym (cond-true (spell_number ds) (Some (digits_value 10 ds)) None (spelled-passes ds parsed.0))
number_of-parsed field (Err e) parsed =
    let ds = without_leading_plus field in
    elim (cases_Bool (spell_number ds)) [
      | inl is ↦ absurd (parsed (passes-spelled ds is))
      | inr is ↦ sym (cond-false (spell_number ds) (Some (digits_value 10 ds)) None is)
    ]

-- ---- what is no text is no number

ascii-cons : (c : ℕ) (cs : List ℕ) → c < 128 → IsAscii cs → IsAscii (c ∷ cs)
ascii-cons c cs first rest zero = first
ascii-cons c cs first rest (suc i) = rest i

ascii-whole : (field : List ℕ) → IsAscii (without_leading_plus field) → IsAscii field
ascii-whole [] ascii = ascii
ascii-whole (c ∷ cs) ascii = by_test (c == 43) refl ascii
  where
    by_test : (b : Bool) → (c == 43) ≡ b → IsAscii (drop (cond b 1 0) (c ∷ cs)) → IsAscii (c ∷ cs)
    by_test true is rest = ascii-cons c cs (omega (arith, eqb-true c 43 is)) rest
    by_test false is whole = whole

pub number_of-no_text : (field : List ℕ) → (IsUtf8 field → ⊥) → number_of field ≡ None
unfolding number_of
number_of-no_text field no_text =
    let ds = without_leading_plus field in
    elim (cases_Bool (spell_number ds)) [
      | inl is ↦
          let digits = passes-spelled ds is in
          absurd (no_text (IsUtf8-from_ascii field (ascii-whole field (IsAscii-from_digits ds digits.0.1))))
      | inr is ↦ cond-false (spell_number ds) (Some (digits_value 10 ds)) None is
    ]
