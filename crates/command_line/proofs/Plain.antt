-- A value that means something could be an operand.
use Rattle.std.proofs.Common.{◌≡◌, ◌∙◌, ◌⊎◌, ℕ, Bool, cond, true, inl, inr, refl, sym, ap, subst, arith, List, [], ◌∷◌, ◌++◌, get_or, Option}
use Rattle.std.specs.Prelude.{⊤}
use Rattle.std.specs.Str.{bytes_eq}
use Rattle.std.proofs.lemmas.Slice.Eq.{bytes_eq-Decides}
use Rattle.line_words.specs.Number.{IsNumber}
use Rattle.run_requests.specs.declared.asked.Protect.{Protect}
use Rattle.command_line.specs.Parts.{Part, Text, IsLine, IsOneOf, IsOperand, apart, joined, operand, value_in, values_of}
use Rattle.command_line.specs.Found.{ArePlain}
use Rattle.command_line.specs.Values.{IsNumberOr, IsProtect, IsQueue, IsSlots}

abbrev pub AreOperands : List Text → Type 0
AreOperands [] = ⊤
AreOperands (word ∷ words) = IsOperand word × AreOperands words

pub number_plain : (word : Text) (n : ℕ) → IsNumber word n → IsOperand word
number_plain word n is = inr (λ dash. go is.sign dash)
  where
    go : (word ≡ is.digits) ⊎ (word ≡ 43 ∷ is.digits) → get_or word 0 0 ≡ 45 → ⊥
    go (inl same) dash =
        let digit = is.decimal.1 0 0 is.decimal.0 in
        let first : get_or is.digits 0 0 ≡ 45 = ap (λ (w : Text). get_or w 0 0) (sym same) ∙ dash in
        absurd (omega (arith, digit.0, first))
    go (inr same) dash =
        let first : 43 ≡ 45 = ap (λ (w : Text). get_or w 0 0) (sym same) ∙ dash in
        absurd (omega (arith, first))

pub numbers_plain : (default least most : ℕ) (values : List Text) (n : ℕ) → IsNumberOr default least most values n → AreOperands values
numbers_plain default least most [] n is = tt
numbers_plain default least most (word ∷ []) n is = (number_plain word n is.0, tt)
numbers_plain default least most (word ∷ more ∷ words) n is = absurd is

pub slots_plain : (values : List Text) (slots : Option ℕ) → IsSlots values slots → AreOperands values
slots_plain [] slots is = tt
slots_plain (word ∷ []) slots is = (number_plain word is.0 is.2.0, tt)
slots_plain (word ∷ more ∷ words) slots is = absurd is

first_letter : (word : Text) (n : ℕ) → get_or word 0 0 ≡ n → (n ≡ 45 → ⊥) → IsOperand word
first_letter word n is other = inr (λ dash. other (sym is ∙ dash))

pub queue_plain : (values : List Text) (double : Bool) → IsQueue values double → AreOperands values
queue_plain [] double is = tt
queue_plain (word ∷ []) double (inl is) =
    (first_letter word 108 (ap (λ (w : Text). get_or w 0 0) is.0) (λ e. absurd (omega (arith, e))), tt)
queue_plain (word ∷ []) double (inr is) =
    (first_letter word 100 (ap (λ (w : Text). get_or w 0 0) is.0) (λ e. absurd (omega (arith, e))), tt)
queue_plain (word ∷ more ∷ words) double is = absurd is

pub protect_plain : (values : List Text) (protect : Protect) → IsProtect values protect → AreOperands values
protect_plain [] protect is = tt
protect_plain (word ∷ []) protect (inl is) =
    (first_letter word 97 (ap (λ (w : Text). get_or w 0 0) is.0) (λ e. absurd (omega (arith, e))), tt)
protect_plain (word ∷ []) protect (inr is) =
    (first_letter word 101 (ap (λ (w : Text). get_or w 0 0) is.0) (λ e. absurd (omega (arith, e))), tt)
protect_plain (word ∷ more ∷ words) protect is = absurd is

all_after : (xs ys : List Text) → AreOperands (xs ++ ys) → AreOperands ys
all_after [] ys h = h
all_after (x ∷ xs) ys h = all_after xs ys h.1

-- the first value of an option
first_plain : (name value : Text) (rest : List Text) → AreOperands (cond (bytes_eq name name) (value ∷ []) [] ++ rest) → IsOperand value
first_plain name value rest h =
    let same : bytes_eq name name ≡ true = (bytes_eq-Decides name name).1 refl in
    (subst (λ (b : Bool). AreOperands (cond b (value ∷ []) [] ++ rest)) same h).0

pub parts_plain : (options words : List Text) (parts : List Part) (later : Option (List Text)) → IsLine options words parts later
    → ((option : Text) → IsOneOf option options → AreOperands (values_of option parts)) → ArePlain parts
parts_plain options words [] later line all = tt
parts_plain options words (apart name value ∷ parts) later line all = (
  first_plain name value (values_of name parts) (all name line.1),
  parts_plain options line.0 parts later line.3 (λ option one. all_after (value_in option (apart name value)) (values_of option parts) (all option one)),
)
parts_plain options words (joined name value ∷ parts) later line all = (
  first_plain name value (values_of name parts) (all name line.1),
  parts_plain options line.0 parts later line.3 (λ option one. all_after (value_in option (joined name value)) (values_of option parts) (all option one)),
)
parts_plain options words (operand word ∷ parts) later line all = (tt, parts_plain options line.0 parts later line.3 all)
