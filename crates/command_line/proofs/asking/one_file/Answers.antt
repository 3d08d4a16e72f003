use Rattle.std.proofs.Common.{◌≡◌, ◌∙◌, ℕ, List, [], ◌∷◌, ap, arith, drop, length, map, refl, rules, string_bytes, subst, sym, Bor}
use Rattle.std.specs.Option.{IfSome, is_some}
use Rattle.command_line.specs.Found.{Shows, found_under, operands_name}
use Rattle.command_line.proofs.Given.{given_is, one_text, texts, texts_length}
use Rattle.command_line.proofs.Meanings.{NoLine, file_found, file_none, file_refused}
use Rattle.command_line.proofs.asking.one_file.Goals as goal

pub returns-in_default-clause-none : goal.returns-in_default-clause-none
returns-in_default-clause-none c _ =
    let words = drop 1 (map string_bytes c.args.words.now) in
    let options : map (λ (o : Bor (List ℕ)). o.now) c.as_slice.result.now ≡ [] = search rules in
    file_refused words (subst (λ (os : List (List ℕ)). NoLine os words) options
    (λ parts later. c.in_ok-matches.ensures.none (ap is_some c.in_default.is) parts later))

pub returns-then-operands-ne1-clause-none : goal.returns-then-operands-ne1-clause-none
returns-then-operands-ne1-clause-none c _ =
    let words = drop 1 (map string_bytes c.args.words.now) in
    let options : map (λ (o : Bor (List ℕ)). o.now) c.as_slice.result.now ≡ [] = search rules in
    let shows : Shows (map (λ (o : Bor (List ℕ)). o.now) c.as_slice.result.now) words c.in-Some.matches =
    subst (λ o. IfSome o (Shows (map (λ (o : Bor (List ℕ)). o.now) c.as_slice.result.now) words)) c.in-Some.is c.in_ok-matches.ensures.found in
    let shown = subst (λ (os : List (List ℕ)). Shows os words c.in-Some.matches) options shows in
    let same : texts c.unwrap_or-operands.result.now ≡ found_under operands_name c.in-Some.matches =
    ap (λ (r : Bor (List (Bor (List ℕ)))). texts r.now) c.unwrap_or-operands.ensures
    ∙ given_is c.in-Some.matches operands_name c.get_raw.result _ c.get_raw.ensures refl in
    file_none words c.in-Some.matches shown (λ file is.
    c.if-operands-ne1.true (sym (texts_length c.unwrap_or-operands.result.now) ∙ ap length same ∙ ap length is))

pub returns-clause-found : goal.returns-clause-found
returns-clause-found c =
    let words = drop 1 (map string_bytes c.args.words.now) in
    let options : map (λ (o : Bor (List ℕ)). o.now) c.as_slice.result.now ≡ [] = search rules in
    let shows : Shows (map (λ (o : Bor (List ℕ)). o.now) c.as_slice.result.now) words c.in-Some.matches =
    subst (λ o. IfSome o (Shows (map (λ (o : Bor (List ℕ)). o.now) c.as_slice.result.now) words)) c.in-Some.is c.in_ok-matches.ensures.found in
    let shown = subst (λ (os : List (List ℕ)). Shows os words c.in-Some.matches) options shows in
    let same : texts c.unwrap_or-operands.result.now ≡ found_under operands_name c.in-Some.matches =
    ap (λ (r : Bor (List (Bor (List ℕ)))). texts r.now) c.unwrap_or-operands.ensures
    ∙ given_is c.in-Some.matches operands_name c.get_raw.result _ c.get_raw.ensures refl in
    let one : length c.unwrap_or-operands.result.now ≡ 1 = c.if-operands-ne1.false in
    file_found words c.in-Some.matches (string_bytes c.in_ok-from_str.field-0) shown
    (sym same ∙ one_text c.unwrap_or-operands.result.now (record { ref_ptr = (0, 0); now = [] }) (omega (arith, one)) (omega (arith, one))
    ∙ ap (λ (t : List ℕ). t ∷ []) (sym c.in_ok-from_str.ensures.ok))
