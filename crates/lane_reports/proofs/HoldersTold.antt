-- That the holders which a report tells were counted.
use Rattle.std.proofs.Common.{◌≡◌, ℕ, List, [], ◌∷◌, ◌++◌, ap, sym, subst, ◌∙◌, append_assoc}
use Rattle.std.specs.List.{All}
use Rattle.std.proofs.lemmas.List.Elements.{All-head, All-tail}
use Rattle.law_lesson.specs.plain_state.declared.slot.SlotId.{SlotId}
use Rattle.law_lesson.specs.plain_state.State.{Plain}
use Rattle.tally_sums.specs.cdrc_text.declared.row.Row.{Row}
use Rattle.tally_sums.specs.cdrc_text.declared.row.Totals.{Totals}
use Rattle.tally_sums.specs.cdrc_text.Report.{report_of}
use Rattle.domain_audit.specs.core_events.declared.view.Move.{Move}
use Rattle.domain_audit.specs.acquire_retire.Seats.{SeatState}
use Rattle.words_rest.specs.directory_law.declared.view.View.{View as DirectoryView}
use Rattle.words_rest.specs.words_law.Views.{View}
use Rattle.words_rest.specs.Kept.{TellsWord}
use Rattle.words_rest.specs.Written.{HaveWords}
use Rattle.lane_domain.specs.lane_files.lane_work.declared.work.Work.{Work}
use Rattle.lane_domain.specs.Sizes.{texts_in}
use Rattle.lane_reports.specs.declared.records.WordRecord.{WordRecord}
use Rattle.lane_reports.specs.HolderCounts.{CountsHolders, TellsRows, counts_of}
use Rattle.lane_reports.specs.Kept.{lives_in}
use Rattle.lane_reports.specs.Rows.{AreRowsOf, IsRecordOf, slots_in}
use Rattle.lane_reports.specs.Trails.{GoesOnAlone}

-- the view tells of each record's slot the word of its row
tells_rows : (p : Plain) (kept : List SlotId) (seat : SeatState View) (records : List WordRecord)
    (rows : List Row) → AreRowsOf p records rows → All (IsRecordOf kept seat) records
    → TellsRows seat.view.client.1 (slots_in records) rows
tells_rows p kept seat [] [] are each = tt
tells_rows p kept seat [] (row ∷ rows) are each = absurd are
tells_rows p kept seat (r ∷ rs) [] are each = absurd are
tells_rows p kept seat (r ∷ rs) (row ∷ rows) are each =
    let first = All-head (IsRecordOf kept seat) r rs each in (
      (
        lives_in seat r.slot,
        subst (λ (w : List ℕ). TellsWord seat.view.client.1 w r.slot (lives_in seat r.slot))
            (ap (λ x. x.now) (sym are.0.word)) first.tells,
      ),
      tells_rows p kept seat rs rows are.1 (All-tail (IsRecordOf kept seat) r rs each),
    )

-- The seat found the records, then it counted the holders of each, and after that its trail went on while no seat left.
-- The text has the rows so made.
module _ (work : Work) (p : Plain) (kept : List SlotId) where
  pub holders_counted : (found before counted last : SeatState View) (records : List WordRecord)
      (told rows : List Row) (totals : Totals) (text : List ℕ) → text ≡ report_of told totals
      → told ≡ rows → HaveWords (texts_in work) rows → AreRowsOf p records rows
      → All (IsRecordOf kept found) records → last.view.client ≡ found.view.client
      → counted.view.core.trail
      ≡ before.view.core.trail ++ counts_of (slots_in records) rows
      → GoesOnAlone counted.view.core last.view.core → CountsHolders work last text
  holders_counted found before counted last records told rows totals text is same have are each client counts since =
      record {
        rows = rows;
        totals = totals;
        is = is ∙ ap (λ (rs : List Row). report_of rs totals) same;
        have = have;
        slots = slots_in records;
        tells = subst (λ (v : DirectoryView). TellsRows v (slots_in records) rows)
            (sym (ap (λ (v : View). v.1) client)) (tells_rows p kept found records rows are each);
        before = before.view.core.trail;
        after = since.0;
        trail = since.1
            ∙ ap (λ (t : List Move). t ++ since.0) counts
            ∙ append_assoc before.view.core.trail (counts_of (slots_in records) rows) since.0;
        last = since.2;
      }
