use Rattle.std.proofs.Common.{◌≡◌, ◌+◌, ◌<◌, ◌∷◌, ℕ, Vec, Global, Some, None, refl, sym, ap, ◌∙◌, subst, arith}
use Rattle.std.proofs.lemmas.Result.{err_from_is_err_and}
use Rattle.std.proofs.lemmas.List.Elements.{All-cons}
use Rattle.std.proofs.lemmas.Map.Views.{All-map-IsPermutation, All-values-set_value}
use Rattle.std.specs.List.{All}
use Rattle.std.specs.List.Sorted.{IsPermutation}
use Rattle.std.specs.Map.{lookup, set_value, values_of, KeepsOthers}
use Rattle.std.specs.Option.{unwrap_or, IsSome, MatchOption}
use Rattle.cdrc_text.proofs.Counts.{count-le-total, count_of-is, is_word, one_more-new, one_more-old, same_bytes, total-new, total-old}
use Rattle.cdrc_text.specs.Tally.{total_of, CountsOneMore, entries_of}
use Rattle.cdrc_text.proofs.tally.Tally.add.Goals as goal

abbrev IsPositive : ℕ → Type 0
IsPositive n = 0 < n

pub overflow_add-count : goal.overflow_add-count
overflow_add-count c =
    let least = count-le-total c.args.piece.now c.in-Some.count.now c.self.inside.counts.entries (sym c.in-Some.ensures.value) in
    let view : entries_of c.self.inside.counts.entries ≡ c.args.self.now = c.self.view_is in
    omega (arith, least, ap total_of view, c.requires)

pub returns-in-Some-clause-ok : goal.returns-in-Some-clause-ok
returns-in-Some-clause-ok c =
    let piece = c.args.piece.now in
    let old = c.self.inside.counts.entries in
    let n = c.in-Some.count.now in
    let new = c.get_mut.follows.lender (n + 1) in
    let found : lookup (is_word piece) old ≡ Some n = sym c.in-Some.ensures.value in
    let h = c.get_mut.follows.holds (n + 1) in
    let updates = h.3 (subst IsSome (sym found) refl) in
    let view : entries_of old ≡ c.args.self.now = c.self.view_is in
    subst (λ before. CountsOneMore before (entries_of new.entries) piece) view
    (one_more-old piece n old new.entries found h.0 updates.1 updates.3)

pub returns-in_err-word-clause-new_word : goal.returns-in_err-word-clause-new_word
returns-in_err-word-clause-new_word c =
    let old = c.self.inside.counts.entries in
    let view : entries_of old ≡ c.args.self.now = c.self.view_is in
    let absent : lookup (is_word c.args.piece.now) old ≡ None = sym c.in_default.ensures.value in
    let p = err_from_is_err_and c.from_residual.result c.from_residual.ensures.1 in
    rw p.1 (rw (← view) (count_of-is c.args.piece.now old ∙ ap (λ o. unwrap_or o 0) absent))

pub returns-in_err-insert-clause-new_word : goal.returns-in_err-insert-clause-new_word
returns-in_err-insert-clause-new_word c =
    let old = c.self.inside.counts.entries in
    let view : entries_of old ≡ c.args.self.now = c.self.view_is in
    let absent : lookup (is_word c.args.piece.now) old ≡ None = sym c.in_default.ensures.value in
    let p = err_from_is_err_and c.from_residual-in_err-insert.result c.from_residual-in_err-insert.ensures.1 in
    rw p.1 (rw (← view) (count_of-is c.args.piece.now old ∙ ap (λ o. unwrap_or o 0) absent))

-- `get_mut` found no such word and left the map as it was, so the word that is put is new
pub returns-clause-ok : goal.returns-clause-ok
returns-clause-ok c =
    let piece = c.args.piece.now in
    let word = c.in_ok-word.word in
    let new = c.insert.new.self.entries in
    let found = c.get_mut.follows.lender-at-none.entries in
    let same : found ≡ c.self.inside.counts.entries = λ i. (c.get_mut.follows.holds-at-none i).entries in
    let absent : lookup (is_word piece) found ≡ None = ap (lookup (is_word piece)) same ∙ sym c.in_default.ensures.value in
    let spelled : word.items ≡ piece = c.in_ok-word.ensures.items in
    let none : c.in_ok-insert.field-0 ≡ None = c.in_ok-insert.ensures.old ∙ ap (λ w. lookup (is_word w) found) spelled ∙ absent in
    let entries = subst (λ old. MatchOption old (IsPermutation ((word, 1) ∷ found) new) (λ _. new ≡ set_value (is_word word.items) found 1)) none c.in_ok-insert.ensures.entries in
    let at = subst (λ w. lookup (is_word w) new ≡ Some 1) spelled c.in_ok-insert.ensures.updates.1 in
    let others = subst (λ w. KeepsOthers same_bytes (is_word w) found new) spelled c.in_ok-insert.ensures.updates.3 in
    let view : entries_of c.self.inside.counts.entries ≡ c.args.self.now = c.self.view_is in
    subst (λ before. CountsOneMore before (entries_of new) piece) (ap entries_of same ∙ view)
    (one_more-new piece word found new absent entries at others)

pub invariant_of-self : goal.invariant_of-self
invariant_of-self c =
    let piece = c.args.piece.now in
    let old = c.self.inside.counts.entries in
    let n = c.in-Some.count.now in
    let new = c.get_mut.follows.lender (n + 1) in
    let h = c.get_mut.follows.holds (n + 1) in
    let found : lookup (is_word piece) old ≡ Some n = sym c.in-Some.ensures.value in
    let positive : All IsPositive (values_of new.entries) =
    subst (λ es. All IsPositive (values_of es)) (sym h.0)
    (All-values-set_value (is_word piece) IsPositive old (n + 1) c.self.invariant.0 (omega arith)) in
    let more = total-old piece n old new.entries found h.0 in
    let before = c.self.invariant.1 in
    (positive, omega (arith, more, before))

pub invariant_of-self-2 : goal.invariant_of-self-2
invariant_of-self-2 c =
    let word = c.in_ok-word.word in
    let new = c.insert.new.self.entries in
    let found = c.get_mut.follows.lender-at-none.entries in
    let same : found ≡ c.self.inside.counts.entries = λ i. (c.get_mut.follows.holds-at-none i).entries in
    let absent : lookup (is_word c.args.piece.now) found ≡ None = ap (lookup (is_word c.args.piece.now)) same ∙ sym c.in_default.ensures.value in
    let none : c.in_ok-insert.field-0 ≡ None = c.in_ok-insert.ensures.old ∙ ap (λ w. lookup (is_word w) found) c.in_ok-word.ensures.items ∙ absent in
    let entries = subst (λ old. MatchOption old (IsPermutation ((word, 1) ∷ found) new) (λ _. new ≡ set_value (is_word word.items) found 1)) none c.in_ok-insert.ensures.entries in
    let before = subst (λ es. All IsPositive (values_of es)) (sym same) c.self.invariant.0 in
    let positive : All IsPositive (values_of new) =
    All-map-IsPermutation (λ (e : Vec ℕ Global × ℕ). e.1) IsPositive ((word, 1) ∷ found) new entries
    (All-cons IsPositive 1 (values_of found) (omega arith) before) in
    let more = total-new word found new entries in
    let same_total = ap (λ es. total_of (entries_of es)) same in
    let total = c.self.invariant.1 in
    (positive, omega (arith, more, same_total, total))
