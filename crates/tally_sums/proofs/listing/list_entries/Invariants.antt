use Rattle.std.proofs.Common.{◌≡◌, ◌++◌, length, take}
use Rattle.cdrc_text.specs.Tally.{shown_entries}
use Rattle.tally_sums.specs.Sums.{AreListed, ListsEach}
use Rattle.tally_sums.proofs.listing.list_entries.Given as goal

-- the entries so far are those of the first tallies
abbrev pub invariant-loop-list : goal.invariant-loop-list
invariant-loop-list g l = record {
  all : l.yielded ++ l.list-iterator.rest.items ≡ l.initial.list-iterator.rest.items;
  lists : AreListed l.tallies l.initial.list-iterator.rest.items;
  so_far : ListsEach (take (length l.yielded) l.tallies) (shown_entries l.entries.items);
}
