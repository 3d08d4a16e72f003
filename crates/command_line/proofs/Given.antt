-- The values under a name, as the getter of the matches gives them, and lists of one value.
use Rattle.std.proofs.Common.{◌≡◌, ◌∙◌, ◌<◌, ◌≤◌, ℕ, zero, suc, refl, ap, arith, List, [], ◌∷◌, length, get_or, map, option_map, take, Option, Some, None, Bor}
use Rattle.std.specs.Prelude.{unwrap_or}
use Rattle.clap.specs.Matches.{found_of, matched_of, raw_values}
use Rattle.clap.specs.Walk.{Rule}
use Rattle.clap.specs.declared.parser.matches.ArgMatches.{ArgMatches}
use Rattle.clap.proofs.WalkLemmas.{raw_values-rows}
use Rattle.command_line.specs.Parts.{Text}
use Rattle.command_line.specs.Found.{found_under, option_rule}

abbrev pub texts : List (Bor Text) → List Text
texts = map (λ t. t.now)

given : (raw : Option (Bor (List (Bor Text)))) (d : Bor (List (Bor Text))) → d.now ≡ []
    → texts (unwrap_or raw d).now ≡ unwrap_or (option_map (λ (s : Bor (List (Bor Text))). texts s.now) raw) []
given None d empty = ap texts empty
given (Some s) d empty = refl

pub given_is : (m : ArgMatches) (name : Text) (raw : Option (Bor (List (Bor Text)))) (d : Bor (List (Bor Text)))
    → option_map (λ (s : Bor (List (Bor Text))). texts s.now) raw ≡ option_map raw_values (matched_of (found_of m) name)
    → d.now ≡ [] → texts (unwrap_or raw d).now ≡ found_under name m
given_is m name raw d is empty =
    given raw d empty ∙ ap (λ (o : Option (List Text)). unwrap_or o []) (is ∙ raw_values-rows (found_of m) name)

-- a list of one text
pub one_text : (xs : List (Bor Text)) (d : Bor Text) → 1 ≤ length xs → length xs < 2 → texts xs ≡ (get_or xs 0 d).now ∷ []
one_text [] d least most = absurd (omega arith)
one_text (x ∷ []) d least most = refl
one_text (x ∷ y ∷ xs) d least most = absurd (omega arith)

pub all_taken : (xs : List (Bor Text)) (i : ℕ) → length xs ≤ i → take i xs ≡ xs
all_taken [] zero past = refl
all_taken [] (suc i) past = refl
all_taken (x ∷ xs) zero past = absurd (omega arith)
all_taken (x ∷ xs) (suc i) past = ap (λ (ys : List (Bor Text)). x ∷ ys) (all_taken xs i (omega arith))

pub rules_are : (xs : List (Bor Text)) → map (λ (o : Bor Text). option_rule o.now) xs ≡ map option_rule (map (λ (o : Bor Text). o.now) xs)
rules_are [] = refl
rules_are (x ∷ xs) = ap (λ (rs : List Rule). option_rule x.now ∷ rs) (rules_are xs)

pub texts_length : (xs : List (Bor Text)) → length (texts xs) ≡ length xs
texts_length [] = refl
texts_length (x ∷ xs) = ap suc (texts_length xs)
