use Rattle.std.proofs.Common.{◌≡◌, ℕ, List, ap, drop, map, rules, string_bytes, subst, Bor}
use Rattle.std.specs.Option.{IfSome, is_some}
use Rattle.command_line.specs.Found.{Shows}
use Rattle.command_line.specs.Requests.{bulk_options}
use Rattle.command_line.proofs.Meanings.{NoLine, bulk_none, bulk_refused}
use Rattle.command_line.proofs.asking.bulk.Goals as goal

pub returns-in_default-clause-none : goal.returns-in_default-clause-none
returns-in_default-clause-none c _ =
    let words = drop 1 (map string_bytes c.args.words.now) in
    let options : map (λ (o : Bor (List ℕ)). o.now) c.as_slice.result.now ≡ bulk_options = search rules in
    bulk_refused words (subst (λ (os : List (List ℕ)). NoLine os words) options
    (λ parts later. c.in_ok-matches.ensures.none (ap is_some c.in_default.is) parts later))

pub returns-clause-none : goal.returns-clause-none
returns-clause-none c none =
    let words = drop 1 (map string_bytes c.args.words.now) in
    let options : map (λ (o : Bor (List ℕ)). o.now) c.as_slice.result.now ≡ bulk_options = search rules in
    let shows : Shows (map (λ (o : Bor (List ℕ)). o.now) c.as_slice.result.now) words c.in-Some.matches =
    subst (λ o. IfSome o (Shows (map (λ (o : Bor (List ℕ)). o.now) c.as_slice.result.now) words)) c.in-Some.is c.in_ok-matches.ensures.found in
    bulk_none words c.in-Some.matches (subst (λ (os : List (List ℕ)). Shows os words c.in-Some.matches) options shows) (c.bulk_of.ensures.none none)
