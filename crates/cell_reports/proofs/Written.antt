-- The report of what seat 0 keeps, by the audits and the rows that it made.
use Rattle.std.proofs.Common.{◌≡◌, inl, inr, ℕ, ◌<◌, All, List, [], get_or, sym, ap, subst, ◌∙◌, arith}
use Rattle.std.specs.Prelude.{length}
use Rattle.std.proofs.lemmas.Bool.{cases_lt}
use Rattle.std.proofs.lemmas.List.{get_or_past, length-map}
use Rattle.cell_records.specs.cell_calls.Cells.{area_of}
use Rattle.cell_domain.specs.cell_lanes.cell_calls.cell_protocol.declared.law.CellLaw.{CellLaw}
use Rattle.cell_gathering.specs.cdrc_text.Fold.{File, holders_in}
use Rattle.cell_gathering.specs.cdrc_text.Report.{report_of}
use Rattle.cell_gathering.specs.cdrc_text.Text.{IsReport}
use Rattle.cell_records.specs.cell_law.declared.view.View.{View}
use Rattle.cell_records.specs.cell_law.plain_state.References.{strong_refs}
use Rattle.cell_records.specs.cell_law.plain_state.State.{Plain, new_slot}
use Rattle.cell_records.specs.cell_law.plain_state.declared.slot.PlainSlot.{PlainSlot}
use Rattle.cell_records.specs.cell_law.plain_state.declared.slot.SlotId.{SlotId}
use Rattle.cell_records.specs.Audits.{IsAudited}
use Rattle.cell_records.specs.Records.{IsRecordOf, slots_in, sums_in}
use Rattle.cell_records.specs.Rows.{AreRowsOf, IsIn}
use Rattle.cell_records.specs.declared.records.WordRecord.{WordRecord}
use Rattle.cell_records.specs.cell_rest.Kept.{TellsWord}
use Rattle.cell_records.specs.cell_rest.Written.{AreRowsAt, line_of, totals_found}
use Rattle.cell_records.proofs.Below.cell_rest_Left.{is_report}
use Rattle.cell_records.specs.cell_rest.plain_audit.heap_audit.declared.finding.Audit.{Audit}
use Rattle.cell_records.specs.cell_rest.plain_audit.plain_state.Images.{slot_image}
use Rattle.cell_records.specs.cell_rest.plain_audit.plain_state.declared.image.Heap.{Heap}
use Rattle.cell_records.specs.directory_law.Bytes.{AreBytes}
use Rattle.cell_records.proofs.Below.epoch_alone_Settled.{counted as image_counts}
use Rattle.cell_records.specs.epoch_refs.epoch_domain.Domains.{DomainState}
use Rattle.cell_records.specs.epoch_refs.epoch_domain.Seats.{SeatState}
use Rattle.cell_records.specs.lane_work.FilePieces.{pieces_in}
use Rattle.cell_records.specs.lane_work.Keeping.{slots_of}
use Rattle.cell_records.specs.lane_work.Sizes.{all_pieces, texts_in}
use Rattle.cell_records.specs.lane_work.Work.{IsWork}
use Rattle.cell_records.specs.lane_work.counted_handles.Handles.{Handle}
use Rattle.cell_records.specs.lane_work.declared.work.Work.{Work}
use Rattle.cell_records.specs.cell_rest.record_counts.Records.{FindsRecords}
use Rattle.cell_records.specs.tally_sums.Sums.{SumsUp, Tallies}
use Rattle.cell_records.specs.tally_sums.cdrc_text.declared.row.Row.{Row}
use Rattle.cell_records.specs.tally_sums.cdrc_text.declared.row.Totals.{Totals}
use Rattle.cell_reports.specs.Counted.{HasCounted}
use Rattle.cell_reports.proofs.AtRest.{at_rest, root_is, waits_none}
use Rattle.cell_reports.proofs.Kept.{Reaches, client_as, has_refs, is_kept, keeps_records, same_files}
use Rattle.cell_reports.proofs.Rows.{have_words, records_held, rows_at}

module _ (a b c e f : SeatState View) (so : Reaches a b c e f) (d : DomainState CellLaw)
    (work : Work) (is : IsWork work)
    (small : All (λ (words : File). All AreBytes words) (texts_in work)) (kept : List Handle)
    (tallies : Tallies) (counted : HasCounted work kept tallies a) (ranks : List ℕ) (image : Heap)
    (found : Audit) (audited : IsAudited d ranks f image found) (records : List WordRecord)
    (words : SumsUp tallies (sums_in records)) (each : All (IsRecordOf b.view.client) records)
  where
    abbrev p : Plain
    p = audited.law.state

    each_held : All (λ (r : WordRecord). 0 < holders_in r.word.now (texts_in work)) records
    each_held = records_held work is tallies counted.counts records words

    -- what the view told of the records it tells still
    each_still : All (IsRecordOf f.view.client) records
    each_still k other less =
        subst (λ (v : View). IsRecordOf v (get_or records k other)) (sym (client_as a b c e f so))
        (each k other less)

    refs : (w : List ℕ) → 0 < holders_in w (texts_in work) → (s : SlotId)
        → TellsWord f.view.client w s → (slot_image image.slots.items s).strong ≡ strong_refs p s
    refs w held s told =
        image_counts p image s audited.law.lone.knows.lawful audited.image_is
        (has_refs a b c e f so d work is small kept tallies counted ranks image found audited w held s
        told)

    -- the image has the slots of the records
    pub are_in : All (IsIn image) records
    are_in k other less =
        let r = get_or records k other in
        let some = has_refs a b c e f so d work is small kept tallies counted ranks image found audited
        r.word.now (each_held k other less) r.slot (each_still k other less) in
        let live = (audited.law.lone.knows.lawful.strong r.slot some).0 in
        elim (cases_lt r.slot.0 (length p.slots)) [
          | inl there ↦ let same = audited.image_is.size in omega (arith, there, same)
          | inr past ↦
              let free = ap (λ (x : PlainSlot). x.stage) (get_or_past p.slots r.slot.0 new_slot past) in
              absurd (cc (free, live))
        ]

    module _ (rows : List Row) (are : AreRowsOf image records rows) (freed : Audit)
        (nothing : FindsRecords [] freed) where
      at : AreRowsAt (texts_in work) work.rounds p (slots_of kept) f.view.client rows
          (slots_in records)
      at = rows_at work tallies counted.counts p image (slots_of kept) f.view.client
          (is_kept a b c e f so d work is small kept tallies counted ranks image found audited) refs
          records rows each_still each_held are words.sums

      pub written : IsReport (texts_in work) work.rounds
          (report_of rows (totals_found (texts_in work) found freed))
      written =
          is_report (area_of d.protocol) p audited.law.holds.views _ (slots_of kept)
          (keeps_records a b c e f so d work is small kept tallies counted ranks image found audited)
          (at_rest d ranks f image found audited) (waits_none d ranks f image found audited)
          (texts_in work)
          (same_files a b c e f so d work is small kept tallies counted ranks image found audited)
          small work.rounds rows (slots_in records)
          (subst (λ (v : View). AreRowsAt (texts_in work) work.rounds p (slots_of kept) v rows
          (slots_in records)) (sym (root_is d ranks f image found audited)) at)
          (have_words work is tallies counted.counts records words image rows are) ranks found freed
          audited.audit nothing

-- the text, by what the calls that wrote it answered
pub text_is : (work : Work) (text : List ℕ) (told rows : List Row) (totals : Totals)
    (held freed : Audit) → text ≡ report_of told totals → told ≡ rows
    → totals.files ≡ length work.files.items
    → totals.pieces ≡ all_pieces work → totals.held ≡ line_of held → totals.freed ≡ line_of freed
    → text ≡ report_of rows (totals_found (texts_in work) held freed)
text_is work text told rows totals held freed is same files pieces first second =
    is ∙ (λ i. report_of (same i) (record {
      files = (files ∙ sym (length-map work.files.items pieces_in)) i;
      pieces = pieces i;
      held = first i;
      freed = second i;
    }))
