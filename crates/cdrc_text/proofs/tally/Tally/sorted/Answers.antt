use Rattle.std.proofs.Common.{◌≡◌, ◌++◌, sym, ap, ◌∙◌, subst, append-nil}
use Rattle.std.proofs.lemmas.List.Sorted.{IsPermutation-trans}
use Rattle.cdrc_text.specs.Tally.{ListsWords, entries_of, shown_entries}
use Rattle.cdrc_text.proofs.Sorting.{lists-sorted, rows-more}
use Rattle.cdrc_text.proofs.tally.Tally.sorted.Goals as goal

pub loop-word-preserved : goal.loop-word-preserved
loop-word-preserved c =
    rows-more c.loop-word.rows.items c.push.new.self.items c.loop-word.word-iterator c.next.new.self
    c.in-Some.word.now c.as_slice.result c.in-Some.count.now c.args.self.now c.loop-word.invariant
    c.in-Some.ensures.steps c.in_ok-push.ensures.items c.as_slice.ensures.value

pub returns : goal.returns
returns c =
    let rows = c.loop-word.rows.items in
    let entries = c.self.inside.counts.entries in
    let view : entries_of entries ≡ c.args.self.now = c.self.view_is in
    let all = sym (append-nil (shown_entries rows)) ∙ sym (ap (λ left. shown_entries rows ++ entries_of left) c.in-None.ensures.steps.0) ∙ c.loop-word.invariant in
    subst (λ counted. ListsWords counted (shown_entries c.sort.new.self.items)) view
    (lists-sorted entries rows c.sort.new.self.items (all ∙ sym view) c.iter-word-items.ensures.unique c.self.invariant.0
    (IsPermutation-trans rows c.sort_by_cached_key.new.self.items c.sort.new.self.items
    c.in_ok-sort_by_cached_key.ensures.permutation c.in_ok-sort.ensures.permutation)
    c.in_ok-sort.ensures.sorted)
