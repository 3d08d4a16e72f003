-- What is left: the kept records, what an audit finds of them, and the report.
use Rattle.std.specs.Prelude.{sum_by}
use Rattle.std.specs.List.{All}
use Rattle.std.proofs.Common.{◌≡◌, ℕ, ◌<◌, List, [], length, ◌∙◌}
use Rattle.plain_audit.specs.plain_state.declared.slot.SlotId.{SlotId}
use Rattle.plain_audit.specs.plain_state.Lawful.{Lawful}
use Rattle.plain_audit.specs.plain_state.Lists.{times}
use Rattle.plain_audit.specs.plain_state.References.{strong_refs}
use Rattle.plain_audit.specs.plain_state.State.{Plain}
use Rattle.plain_audit.specs.heap_audit.declared.finding.Audit.{Audit}
use Rattle.plain_audit.specs.Audits.{IsAudit, live_bytes, live_slots}
use Rattle.cell_law.specs.directory_law.Bytes.{AreBytes, piece_weight}
use Rattle.cell_law.specs.directory_law.Cells.{Area}
use Rattle.cell_law.specs.directory_law.Law.{DirectoryLaw}
use Rattle.record_counts.specs.cdrc_text.declared.row.Row.{Row}
use Rattle.record_counts.specs.cdrc_text.Fold.{File, holders_in}
use Rattle.record_counts.specs.cdrc_text.Report.{report_of}
use Rattle.record_counts.specs.cdrc_text.Text.{IsReport, slots_of_word}
use Rattle.record_counts.specs.Records.{AreOwned, FindsRecords, HoldsRecords, IsAllReached}
use Rattle.record_counts.proofs.Living as living
use Rattle.record_counts.proofs.Reported as reported
use Rattle.record_counts.proofs.Summed as summed
use Rattle.record_counts.proofs.Sums.{no_bytes, no_slots}
use Rattle.cell_law.specs.Cells.{no_cells}
use Rattle.cell_law.specs.Law.{CellLaw}
use Rattle.cell_law.specs.Promises.{IsSettled, owned_times}
use Rattle.cell_law.specs.declared.view.View.{View}
use Rattle.cell_law.specs.Views.{makers, view_at}
use Rattle.cell_law.proofs.Rest.{nothing_lives}
use Rattle.cell_rest.specs.Kept.{KeepsRecordsOf}
use Rattle.cell_rest.specs.Rest.{HasNoneDeferred}
use Rattle.cell_rest.specs.Words.{text_at, words_at}
use Rattle.cell_rest.specs.Written.{AreRowsAt, HaveWords, totals_found}
use Rattle.cell_rest.proofs.KeptWords.{Told, kept_counted, kept_one, kept_word_is, owns_texts, refs_settled, word}
use Rattle.cell_rest.proofs.Settled.{none_deferred, none_unreached, settled_holds}

-- an audit of a state in which nothing is owned
pub finds_nothing : (z : Area) (p : Plain) (views : List View) → Lawful p → CellLaw z p views
    → IsSettled p → HasNoneDeferred p → ((s : SlotId) → owned_times p s ≡ 0)
    → (weight : List ℕ → ℕ) (ranks : List ℕ) (found : Audit) → IsAudit weight ranks p found
    → FindsRecords [] found
finds_nothing z p views lawful law settled waits nothing weight ranks found is =
    let none = nothing_lives z p views lawful law settled nothing in record {
      live = is.live ∙ no_slots p none;
      deferred = is.deferred ∙ none_deferred p waits;
      cyclic = none_unreached p none found.cyclic is.cyclic;
      bytes = is.bytes ∙ no_bytes p weight none;
    }

module _ (z : Area) (p : Plain) (views : List View) (files : List File) (kept : List SlotId)
    (k : KeepsRecordsOf z p views files kept) (settled : IsSettled p) where
  abbrev root : View
  root = view_at views 0

  lawful : Lawful p
  lawful = k.meets.lawful

  -- the law of the slots
  records : DirectoryLaw no_cells p (makers views)
  records = k.meets.law.records

  holds : HoldsRecords p
  holds = settled_holds z p views lawful k.meets.law settled k.others

  pub all_reached : IsAllReached p
  all_reached = living.all_reached no_cells p (makers views) lawful records holds

  pub slots_left : (heads : List SlotId) → AreOwned p heads
      → live_slots p ≡ sum_by slots_of_word (words_at root heads)
  slots_left = summed.slots_told no_cells p (makers views) lawful records holds (text_at root)
      (owns_texts z p views files kept k)

  pub bytes_left : (heads : List SlotId) → AreOwned p heads
      → live_bytes piece_weight p ≡ sum_by (λ (w : List ℕ). length w) (words_at root heads)
  bytes_left = summed.bytes_told no_cells p (makers views) lawful records holds (text_at root)
      (owns_texts z p views files kept k)

  pub finds_records : HasNoneDeferred p → (heads : List SlotId) → AreOwned p heads
      → (ranks : List ℕ) (found : Audit) → IsAudit piece_weight ranks p found
      → FindsRecords (words_at root heads) found
  finds_records waits heads are ranks found is = record {
    live = is.live ∙ slots_left heads are;
    deferred = is.deferred ∙ none_deferred p waits;
    cyclic = living.none_cyclic no_cells p (makers views) lawful records holds found.cyclic
        is.cyclic;
    bytes = is.bytes ∙ bytes_left heads are;
  }

  -- rows of the files, in whatever order
  module _ (waits : HasNoneDeferred p) (all : List File)
      (same : (w : List ℕ) → holders_in w files ≡ holders_in w all)
      (small : All (λ (words : File). All AreBytes words) all) (rounds : ℕ) (rows : List Row)
      (slots : List SlotId) (at : AreRowsAt all rounds p kept root rows slots)
      (have : HaveWords all rows) where
    abbrev slot_word : SlotId → List ℕ
    slot_word = word z p views files kept k

    refs : (s : SlotId) → 0 < times s kept → strong_refs p s ≡ holders_in (slot_word s) all
    refs s some =
        refs_settled z p views files kept k settled s some
        ∙ (kept_counted z p views files kept k s some ∙ same (slot_word s))

    owned : AreOwned p slots
    owned = reported.rows_owned (Told z p views files kept k) p kept slot_word
        (kept_word_is z p views files kept k) (kept_one z p views files kept k) all refs small
        rounds k.owned rows slots at have

    pub is_report : (ranks : List ℕ) (held freed : Audit) → IsAudit piece_weight ranks p held
        → FindsRecords [] freed
        → IsReport all rounds (report_of rows (totals_found all held freed))
    is_report ranks held freed audit nothing =
        reported.is_report (Told z p views files kept k) p kept slot_word
        (kept_word_is z p views files kept k) (kept_one z p views files kept k) all refs small
        rounds rows slots held freed at have (finds_records waits slots owned ranks held audit)
        nothing
