use Rattle.std.proofs.Common.{◌≡◌, ◌+◌, ◌<◌, [], ◌∷◌, length, take, drop, sym, ap, ◌∙◌, arith}
use Rattle.std.proofs.lemmas.Bool.Decides.{nat_tests}
use Rattle.std.proofs.lemmas.List.{nil_from_length}
use Rattle.std.specs.List.{enumerate_from}
use Rattle.line_words.specs.Lines.{lines_of}
use Rattle.line_words.proofs.Cutting.{first_line_len, first_line_len-le, lines_of-first, lines_of-nil}
use Rattle.line_words.proofs.lines.LinesIterator.next.Goals as goal

pub returns-then-is_empty-clause-steps : goal.returns-then-is_empty-clause-steps
returns-then-is_empty-clause-steps c =
    let none : length c.self.inside.rest.now ≡ 0 = grind (arith, nat_tests) in
    let empty : c.self.inside.rest.now ≡ [] = nil_from_length c.self.inside.rest.now none in
    let all : c.args.self.now ≡ []
    = sym c.self.view_is ∙ ap (λ text. enumerate_from (c.self.inside.given + 1) (lines_of text)) empty
    ∙ ap (λ lines. enumerate_from (c.self.inside.given + 1) lines) lines_of-nil in
    (all, all)

pub split_at-requires : goal.split_at-requires
split_at-requires c = omega (arith, c.first_length.ensures, first_line_len-le c.self.inside.rest.now)

next_is : (c : goal.After-self-2-1) → c.args.self.now
    ≡ (c.self.inside.given + 1, c.split_at.result.0.now)
    ∷ enumerate_from (c.self.inside.given + 1 + 1) (lines_of c.after_first-self-inside.result.now)
next_is c =
    let text = c.self.inside.rest.now in
    let some : 0 < length text = grind (arith, nat_tests) in
    let is = lines_of-first text some in
    let front = c.split_at.ensures.front in
    let back = c.split_at.ensures.back in
    let after = c.after_first-self-inside.ensures in
    let len = c.first_length.ensures in
    let first : take (first_line_len text) text ≡ c.split_at.result.0.now = sym (front ∙ ap (λ k. take k text) len) in
    let rest : drop 1 (drop (first_line_len text) text) ≡ c.after_first-self-inside.result.now
    = sym (after ∙ ap (λ xs. drop 1 xs) (back ∙ ap (λ k. drop k text) len)) in
    sym c.self.view_is ∙ ap (λ lines. enumerate_from (c.self.inside.given + 1) lines) is
    ∙ ap (λ line. (c.self.inside.given + 1, line) ∷ enumerate_from (c.self.inside.given + 1 + 1) (lines_of (drop 1 (drop (first_line_len text) text)))) first
    ∙ ap (λ xs. (c.self.inside.given + 1, c.split_at.result.0.now) ∷ enumerate_from (c.self.inside.given + 1 + 1) (lines_of xs)) rest

pub returns-clause-steps : goal.returns-clause-steps
returns-clause-steps c = next_is c

pub returns-clause-goes : goal.returns-clause-goes
returns-clause-goes c = let shorter = ap length (next_is c) in omega arith
