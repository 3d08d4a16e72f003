use Rattle.std.proofs.Common.{◌≡◌, Bool, true, ◌∷◌, ◌++◌, [], List, ℕ, length, length-append, append-nil, ap, sym, ◌∙◌, subst, arith}
use Rattle.std.specs.Borrow.{Bor}
use Rattle.tally_sums.specs.cdrc_text.Tally.{shown_entries}
use Rattle.domain_audit.proofs.Below.slot_store_Quieting.{no_items}
use Rattle.lane_domain.specs.lane_files.Keeping.{slots_of}
use Rattle.lane_reports.specs.Holders.{has}
use Rattle.lane_reports.specs.Rows.{sums_in}
use Rattle.tally_sums.specs.Sums.{SumsUp}
use Rattle.lane_reports.proofs.Finding.{leaves_on, learns_on}
use Rattle.lane_reports.proofs.Rowing.{next_counted, records_more, words_more}
use Rattle.lane_reports.proofs.records.find_records.Goals as goal

pub find_record-requires-clause-word : goal.find_record-requires-clause-word
find_record-requires-clause-word g c =
    let so = c.requires.words c.in-Some.word.now
    (next_counted c.args.tallies.now c.loop-word.records.items c.in-Some.word c.in-Some.occurrences
    c.loop-word.word-iterator.rest.items c.next.new.self.rest.items c.in-Some.ensures.steps.0
    c.loop-word.invariant.words) in (so.0, so.1)

pub returns-in_err-slot-clause-leaves : goal.returns-in_err-slot-clause-leaves
returns-in_err-slot-clause-leaves g c =
    leaves_on c.args.root.now c.loop-word.root c.find_record.new.root
    c.loop-word.invariant.leaves c.find_record.ensures.leaves

pub returns-in_err-slot-clause-learns : goal.returns-in_err-slot-clause-learns
returns-in_err-slot-clause-learns g c =
    learns_on c.args.root.now.view.client c.loop-word.root.view.client
    c.find_record.new.root.view.client c.loop-word.invariant.learns c.find_record.ensures.learns

pub loop-word-preserved : goal.loop-word-preserved
loop-word-preserved g c = record {
  words = words_more c.args.tallies.now c.loop-word.records.items c.in-Some.word c.in-Some.occurrences
      c.loop-word.word-iterator.rest.items c.next.new.self.rest.items c.in-Some.ensures.steps.0
      c.loop-word.invariant.words c.push_reserved.new.self.items c.in_ok-slot.slot
      c.push_reserved.ensures.items;
  room = let room = c.loop-word.invariant.room in
      let left = ap length c.in-Some.ensures.steps.0 in
      let more = ap length c.push_reserved.ensures.items in
      let long = length-append c.loop-word.records.items
      (record { word = c.in-Some.word; occurrences = c.in-Some.occurrences; slot = c.in_ok-slot.slot } ∷ []) in
      let same = c.push_reserved.ensures.capacity in omega (arith, room, left, more, long, same);
  records = records_more (slots_of c.args.kept.now) c.loop-word.root c.find_record.new.root
      c.find_record.ensures.leaves c.find_record.ensures.learns
      (λ s some. let most = c.requires.kept s in let same = c.loop-word.invariant.leaves.owns s in
      omega (arith, some, most, same))
      c.loop-word.records.items c.push_reserved.new.self.items
      (record { word = c.in-Some.word; occurrences = c.in-Some.occurrences; slot = c.in_ok-slot.slot }) c.push_reserved.ensures.items
      c.loop-word.invariant.records
      (record {
        held = (c.in_ok-held.ensures c.in_ok-slot.slot).0
            (subst (λ (marks : List Bool). has marks c.in_ok-slot.slot ≡ true) c.as_slice.ensures.value
            c.in_ok-slot.ensures.held);
        tells = c.in_ok-slot.ensures.tells;
      });
  ready = c.find_record.ensures.ready;
  leaves = leaves_on c.args.root.now c.loop-word.root c.find_record.new.root
      c.loop-word.invariant.leaves c.find_record.ensures.leaves;
  learns = learns_on c.args.root.now.view.client c.loop-word.root.view.client
      c.find_record.new.root.view.client c.loop-word.invariant.learns c.find_record.ensures.learns;
}

pub returns-clause-words : goal.returns-clause-words
returns-clause-words g c =
    subst (SumsUp c.args.tallies.now)
    (ap (λ (es : List (Bor (List ℕ) × ℕ)). sums_in c.loop-word.records.items ++ shown_entries es)
    (no_items c.loop-word.word-iterator.rest.items
    (sym c.loop-word.word-iterator.rest.ok.0 ∙ c.in-None.ensures.steps.0))
    ∙ append-nil (sums_in c.loop-word.records.items))
    c.loop-word.invariant.words
