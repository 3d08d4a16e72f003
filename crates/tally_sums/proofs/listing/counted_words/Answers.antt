use Rattle.std.proofs.Common.{arith}
use Rattle.tally_sums.proofs.SumsMade.{call_sums, sums_moved}
use Rattle.tally_sums.proofs.listing.counted_words.Goals as goal

pub add_up-requires : goal.add_up-requires
add_up-requires g c = record {
  few = λ w.
      let most = c.requires.few w in
      let same = sums_moved c.args.tallies.now c.in_ok-entries.entries.items c.sort.new.self.items
      c.in_ok-entries.ensures c.in_ok-sort.ensures.permutation w in omega (arith, most, same);
}

pub returns : goal.returns
returns g c =
    call_sums c.args.tallies.now c.in_ok-entries.entries.items c.sort.new.self.items
    c.add_up.result c.in_ok-entries.ensures c.in_ok-sort.ensures.permutation
    c.in_ok-sort.ensures.sorted c.add_up.ensures
