use Rattle.std.proofs.Common.{◌∷◌, ◌++◌, [], List, ℕ, length, length-append, append-nil, ap, sym, ◌∙◌, subst, arith}
use Rattle.std.specs.Borrow.{Bor}
use Rattle.std.specs.List.{All}
use Rattle.cell_intern.specs.cell_calls.Keeping.{Keeps, Learns}
use Rattle.cell_intern.proofs.Below.cell_calls_Keeping.{keeps_self}
use Rattle.cell_intern.specs.cell_calls.cell_law.declared.view.View.{View}
use Rattle.cell_intern.specs.cell_calls.cell_law.plain_state.declared.slot.SlotId.{SlotId}
use Rattle.cell_intern.proofs.Below.cell_finding_Looks.{learns_then}
use Rattle.cell_intern.proofs.Around.{around_keeps, same_client}
use Rattle.domain_audit.proofs.Below.slot_store_Quieting.{no_items}
use Rattle.cell_intern.specs.epoch_refs.epoch_core.declared.view.EpochView.{EpochView}
use Rattle.tally_sums.specs.Sums.{SumsUp}
use Rattle.tally_sums.specs.cdrc_text.Tally.{shown_entries}
use Rattle.cell_records.specs.Records.{IsRecordOf, IsTold, sums_in}
use Rattle.cell_records.specs.declared.records.WordRecord.{WordRecord}
use Rattle.cell_records.proofs.Listing.{next_counted, records_more, words_more}
use Rattle.cell_records.proofs.Staying.{keeps_both, learns_self, root_on}
use Rattle.cell_records.proofs.Telling.{tells_on}
use Rattle.cell_records.proofs.records.find_records.Goals as goal

pub loop-word-init : goal.loop-word-init
loop-word-init g c = record {
  words = subst (λ (x : List WordRecord × List (Bor (List ℕ) × ℕ)).
      SumsUp c.args.tallies.now (sums_in x.0 ++ shown_entries x.1))
      (λ i. (sym c.in_ok-records.ensures.items i, sym c.into_iter-word-iterator.ensures.into_iter_gives.0 i))
      c.in_ok-words.ensures;
  room = let none = ap length c.in_ok-records.ensures.items in
      let many = ap length c.into_iter-word-iterator.ensures.into_iter_gives.0 in
      let count = c.len.ensures in
      let room = c.in_ok-records.ensures.capacity in omega (arith, none, many, count, room);
  records = λ k x low.
      let none = ap length c.in_ok-records.ensures.items in absurd (omega (arith, low, none));
  region = record {
    rest = c.enter.ensures.rest;
    inside = let n = ap (λ (v : EpochView). v.number) c.enter.ensures.entered.core in omega (arith, n);
    over = c.requires.ready.over;
    is_open = ap (λ (v : View). v.cleared)
        (same_client _ c.args.domain.now c.args.root.now c.enter.new.seat c.enter.ensures.entered
        c.requires.ready.free.outside) ∙ c.requires.open;
  };
  keeps = keeps_self c.enter.new.seat;
  learns = learns_self c.enter.new.seat.view.client;
}

pub find_record-slot-requires-clause-region : goal.find_record-slot-requires-clause-region
find_record-slot-requires-clause-region g c = c.loop-word.invariant.region

pub find_record-slot-requires-clause-word : goal.find_record-slot-requires-clause-word
find_record-slot-requires-clause-word g c =
    let so = c.requires.words c.in-Some.word.now
    (next_counted c.args.tallies.now c.loop-word.records.items c.in-Some.word c.in-Some.occurrences
    c.loop-word.word-iterator.rest.items c.next.new.self.rest.items c.in-Some.ensures.steps.0
    c.loop-word.invariant.words) in (so.0, so.1)

pub find_record-slot-requires-clause-told : goal.find_record-slot-requires-clause-told
find_record-slot-requires-clause-told g c =
    let told = c.requires.told c.in-Some.word.now
    (next_counted c.args.tallies.now c.loop-word.records.items c.in-Some.word c.in-Some.occurrences
    c.loop-word.word-iterator.rest.items c.next.new.self.rest.items c.in-Some.ensures.steps.0
    c.loop-word.invariant.words) in
    let was = subst (λ (v : View). IsTold v c.in-Some.word.now)
    (sym (same_client _ c.args.domain.now c.args.root.now c.enter.new.seat c.enter.ensures.entered
    c.requires.ready.free.outside)) told in (
      was.0,
      tells_on c.enter.new.seat.view.client c.loop-word.root.view.client
          c.loop-word.invariant.learns c.in-Some.word.now was.0 was.1,
    )

pub loop-word-preserved : goal.loop-word-preserved
loop-word-preserved g c = record {
  words = words_more c.args.tallies.now c.loop-word.records.items c.in-Some.word c.in-Some.occurrences
      c.loop-word.word-iterator.rest.items c.next.new.self.rest.items c.in-Some.ensures.steps.0
      c.loop-word.invariant.words c.push_reserved.new.self.items c.find_record-slot.result
      c.push_reserved.ensures.items;
  room = let room = c.loop-word.invariant.room in
      let left = ap length c.in-Some.ensures.steps.0 in
      let more = ap length c.push_reserved.ensures.items in
      let long = length-append c.loop-word.records.items
      (record { word = c.in-Some.word; occurrences = c.in-Some.occurrences; slot = c.find_record-slot.result } ∷ []) in
      let same = c.push_reserved.ensures.capacity in omega (arith, room, left, more, long, same);
  records = records_more c.loop-word.root.view.client c.find_record-slot.new.root.view.client
      c.find_record-slot.ensures.learns c.loop-word.records.items c.push_reserved.new.self.items
      (record { word = c.in-Some.word; occurrences = c.in-Some.occurrences; slot = c.find_record-slot.result })
      c.push_reserved.ensures.items c.loop-word.invariant.records c.find_record-slot.ensures.tells;
  region = c.find_record-slot.ensures.region;
  keeps = keeps_both c.enter.new.seat c.loop-word.root c.find_record-slot.new.root
      c.loop-word.invariant.keeps c.find_record-slot.ensures.keeps;
  learns = learns_then c.enter.new.seat.view.client c.loop-word.root.view.client
      c.find_record-slot.new.root.view.client c.loop-word.invariant.learns
      c.find_record-slot.ensures.learns;
}

pub returns-clause-words : goal.returns-clause-words
returns-clause-words g c =
    subst (SumsUp c.args.tallies.now)
    (ap (λ (es : List (Bor (List ℕ) × ℕ)). sums_in c.loop-word.records.items ++ shown_entries es)
    (no_items c.loop-word.word-iterator.rest.items
    (sym c.loop-word.word-iterator.rest.ok.0 ∙ c.in-None.ensures.steps.0))
    ∙ append-nil (sums_in c.loop-word.records.items))
    c.loop-word.invariant.words

pub returns-clause-records : goal.returns-clause-records
returns-clause-records g c =
    subst (λ (v : View). All (IsRecordOf v) c.loop-word.records.items)
    (sym c.exit.ensures.exited.told.client) c.loop-word.invariant.records

pub returns-clause-keeps : goal.returns-clause-keeps
returns-clause-keeps g c =
    subst (λ (xs : List SlotId). Keeps 0 0 xs c.args.root.now c.exit.new.seat)
    (ap (λ (v : EpochView). v.owned) c.enter.ensures.entered.core)
    (around_keeps _ c.args.domain.now c.args.root.now c.enter.new.seat c.enter.ensures.entered
    c.requires.ready.free.outside c.loop-word.root c.exit.new.seat c.exit.ensures.exited 0 0 _
    c.loop-word.invariant.keeps)

pub returns-clause-learns : goal.returns-clause-learns
returns-clause-learns g c =
    subst (λ (v : View). Learns v c.exit.new.seat.view.client)
    (same_client _ c.args.domain.now c.args.root.now c.enter.new.seat c.enter.ensures.entered
    c.requires.ready.free.outside)
    (subst (λ (v : View). Learns c.enter.new.seat.view.client v)
    (sym c.exit.ensures.exited.told.client) c.loop-word.invariant.learns)

pub returns-clause-ready : goal.returns-clause-ready
returns-clause-ready g c =
    root_on c.args.domain.now 0 0 _ c.args.root.now c.exit.new.seat
    (around_keeps _ c.args.domain.now c.args.root.now c.enter.new.seat c.enter.ensures.entered
    c.requires.ready.free.outside c.loop-word.root c.exit.new.seat c.exit.ensures.exited 0 0 _
    c.loop-word.invariant.keeps)
    c.exit.ensures.rest c.requires.ready
