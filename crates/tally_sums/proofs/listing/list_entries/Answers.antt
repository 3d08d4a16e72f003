use Rattle.std.proofs.Common.{◌∷◌, ◌++◌, [], append_assoc, ap, refl, subst, sym, ◌∙◌}
use Rattle.cdrc_text.specs.Tally.{shown_entries}
use Rattle.tally_sums.specs.Sums.{AreListed}
use Rattle.tally_sums.proofs.SumsMade.{all_listed, lists_none, next_listed}
use Rattle.tally_sums.proofs.listing.list_entries.Goals as goal

pub loop-list-init : goal.loop-list-init
loop-list-init g c = record {
  all = refl;
  lists = subst (AreListed c.args.tallies.now)
      (sym c.into_iter-list-iterator.ensures.into_iter_gives.0) c.in_ok-list-items.ensures;
  so_far = lists_none c.new-entries.result.items c.new-entries.ensures.items;
}

pub loop-list-preserved : goal.loop-list-preserved
loop-list-preserved g c = record {
  all = append_assoc c.loop-list.yielded (c.in-Some.list ∷ []) c.next.new.self.rest.items
      ∙ sym (ap (λ ls. c.loop-list.yielded ++ ls) c.in-Some.ensures.steps.0)
      ∙ c.loop-list.invariant.all;
  lists = c.loop-list.invariant.lists;
  so_far = next_listed c.args.tallies.now c.into_iter-list-iterator.result.rest.items
      c.loop-list.yielded c.loop-list.list-iterator.rest.items c.next.new.self.rest.items
      c.in-Some.list c.in_ok-rows.rows c.loop-list.entries.items c.append.new.self.items
      c.loop-list.invariant.lists c.loop-list.invariant.all c.in-Some.ensures.steps.0
      c.in_ok-rows.was c.loop-list.invariant.so_far c.in_ok-append.ensures.items;
}

pub returns : goal.returns
returns g c =
    all_listed c.args.tallies.now c.into_iter-list-iterator.result.rest.items c.loop-list.yielded
    c.loop-list.list-iterator.rest.items (shown_entries c.loop-list.entries.items)
    c.loop-list.invariant.lists c.loop-list.invariant.all
    (sym c.loop-list.list-iterator.rest.ok.0 ∙ c.in-None.ensures.steps.0)
    c.loop-list.invariant.so_far
