use Rattle.std.proofs.Common.{◌≡◌, ◌∙◌, ◌<◌, ℕ, List, ap, arith, drop, length, map, refl, rules, string_bytes, subst, sym, Bor}
use Rattle.std.proofs.lemmas.Bool.{eqb-true}
use Rattle.std.specs.Option.{IfSome, is_some}
use Rattle.command_line.specs.Found.{Shows, found_under, operands_name}
use Rattle.command_line.specs.Requests.{words_options}
use Rattle.command_line.proofs.Commands.{above_zero}
use Rattle.command_line.proofs.Given.{given_is, texts, texts_length}
use Rattle.command_line.proofs.Meanings.{NoLine, words_found, words_none, words_refused, words_unset}
use Rattle.command_line.proofs.asking.words_args.Goals as goal

pub returns-in_default-clause-none : goal.returns-in_default-clause-none
returns-in_default-clause-none c _ =
    let words = drop 1 (map string_bytes c.args.words.now) in
    let options : map (λ (o : Bor (List ℕ)). o.now) c.as_slice.result.now ≡ words_options = search rules in
    words_refused words (subst (λ (os : List (List ℕ)). NoLine os words) options
    (λ parts later. c.in_ok-matches.ensures.none (ap is_some c.in_default.is) parts later))

pub returns-in_default-settings_of-clause-none : goal.returns-in_default-settings_of-clause-none
returns-in_default-settings_of-clause-none c _ =
    let words = drop 1 (map string_bytes c.args.words.now) in
    let options : map (λ (o : Bor (List ℕ)). o.now) c.as_slice.result.now ≡ words_options = search rules in
    let shows : Shows (map (λ (o : Bor (List ℕ)). o.now) c.as_slice.result.now) words c.in-Some.matches =
    subst (λ o. IfSome o (Shows (map (λ (o : Bor (List ℕ)). o.now) c.as_slice.result.now) words)) c.in-Some.is c.in_ok-matches.ensures.found in
    words_unset words c.in-Some.matches (subst (λ (os : List (List ℕ)). Shows os words c.in-Some.matches) options shows) (c.in_default-settings_of.ensures.none refl)

pub returns-then-is_empty-clause-none : goal.returns-then-is_empty-clause-none
returns-then-is_empty-clause-none c _ =
    let words = drop 1 (map string_bytes c.args.words.now) in
    let options : map (λ (o : Bor (List ℕ)). o.now) c.as_slice.result.now ≡ words_options = search rules in
    let shows : Shows (map (λ (o : Bor (List ℕ)). o.now) c.as_slice.result.now) words c.in-Some.matches =
    subst (λ o. IfSome o (Shows (map (λ (o : Bor (List ℕ)). o.now) c.as_slice.result.now) words)) c.in-Some.is c.in_ok-matches.ensures.found in
    let shown = subst (λ (os : List (List ℕ)). Shows os words c.in-Some.matches) options shows in
    let same : texts c.unwrap_or-operands.result.now ≡ found_under operands_name c.in-Some.matches =
    ap (λ (r : Bor (List (Bor (List ℕ)))). texts r.now) c.unwrap_or-operands.ensures
    ∙ given_is c.in-Some.matches operands_name c.get_raw.result _ c.get_raw.ensures refl in
    let none : length c.unwrap_or-operands.result.now ≡ 0 = eqb-true _ 0 (sym c.is_empty.ensures ∙ c.if-is_empty.true) in
    words_none words c.in-Some.matches shown (sym (ap length same) ∙ texts_length c.unwrap_or-operands.result.now ∙ none)

pub returns-clause-found : goal.returns-clause-found
returns-clause-found c =
    let words = drop 1 (map string_bytes c.args.words.now) in
    let options : map (λ (o : Bor (List ℕ)). o.now) c.as_slice.result.now ≡ words_options = search rules in
    let shows : Shows (map (λ (o : Bor (List ℕ)). o.now) c.as_slice.result.now) words c.in-Some.matches =
    subst (λ o. IfSome o (Shows (map (λ (o : Bor (List ℕ)). o.now) c.as_slice.result.now) words)) c.in-Some.is c.in_ok-matches.ensures.found in
    let shown = subst (λ (os : List (List ℕ)). Shows os words c.in-Some.matches) options shows in
    let same : texts c.unwrap_or-operands.result.now ≡ found_under operands_name c.in-Some.matches =
    ap (λ (r : Bor (List (Bor (List ℕ)))). texts r.now) c.unwrap_or-operands.ensures
    ∙ given_is c.in-Some.matches operands_name c.get_raw.result _ c.get_raw.ensures refl in
    let settings = c.in-Some-settings_of.settings in
    let some : 0 < length c.unwrap_or-operands.result.now = above_zero _ (sym c.is_empty.ensures ∙ c.if-is_empty.false) in
    let all = texts_length c.unwrap_or-operands.result.now in
    let same_length : length (found_under operands_name c.in-Some.matches) ≡ length c.unwrap_or-operands.result.now = sym (ap length same) ∙ all in
    words_found words c.in-Some.matches settings
    (record { names = c.in_ok-copied.field-0; lanes = settings.lanes; rounds = settings.rounds; slots = settings.slots; double = settings.double; protect = settings.protect })
    shown c.in-Some-settings_of.ensures.found (c.in_ok-copied.ensures ∙ same) (omega (arith, some, same_length)) refl refl refl refl refl
