-- What is left is the report of the files.
use Rattle.std.proofs.Common.{◌≡◌, ℕ, ◌<◌, List, [], ◌∙◌}
use Rattle.std.specs.Prelude.{slice_index_or}
use Rattle.std.specs.List.{All}
use Rattle.plain_audit.specs.plain_state.declared.slot.SlotId.{SlotId}
use Rattle.plain_audit.specs.plain_state.Lists.{times}
use Rattle.plain_audit.specs.plain_state.Lawful.{Lawful}
use Rattle.plain_audit.specs.plain_state.References.{strong_refs}
use Rattle.plain_audit.specs.plain_state.State.{Plain}
use Rattle.words_law.specs.protocol_pairs.Shares.{weight_in_part}
use Rattle.words_law.specs.queue_law.Chain.{Ends}
use Rattle.words_law.specs.directory_law.Bytes.{AreBytes, piece_weight}
use Rattle.words_law.specs.directory_law.Cells.{Area}
use Rattle.words_law.specs.directory_law.Law.{DirectoryLaw}
use Rattle.words_law.specs.cdrc_text.declared.row.Row.{Row}
use Rattle.words_law.specs.cdrc_text.Fold.{File, holders_in}
use Rattle.words_law.specs.cdrc_text.Report.{report_of}
use Rattle.words_law.specs.cdrc_text.Text.{IsReport}
use Rattle.plain_audit.specs.heap_audit.declared.finding.Audit.{Audit}
use Rattle.plain_audit.specs.Audits.{IsAudit}
use Rattle.words_law.specs.Views.{View, directories, gone}
use Rattle.record_counts.proofs.Reported.{is_report as rows_are_report, rows_owned}
use Rattle.words_rest.specs.Kept.{KeepsRecordsOf}
use Rattle.words_rest.specs.Nodes.{HasNoNode}
use Rattle.words_rest.specs.Records.{AreOwned, FindsRecords, word_at, words_at}
use Rattle.words_rest.specs.Rest.{IsLeft}
use Rattle.words_rest.specs.Written.{AreRowsAt, HaveWords, totals_found}
use Rattle.words_rest.proofs.Living.{none_cyclic, none_deferred}
use Rattle.words_rest.proofs.Summed.{bytes_told, slots_told}
use Rattle.words_rest.proofs.KeptWords.{Told, kept_one, kept_word_is, refs_counted}

module _ (u : Ends) (z : Area) (p : Plain) (views : List View) (lives : SlotId → ℕ)
    (files : List File) (kept : List SlotId) (keeps : KeepsRecordsOf u z p views lives files kept)
    (left : IsLeft p views) (none : HasNoNode p) (all : List File)
    (same : (w : List ℕ) → holders_in w files ≡ holders_in w all)
    (small : All (λ (words : File). All AreBytes words) all) (rounds : ℕ) (rows : List Row)
    (slots : List SlotId)
    (at : AreRowsAt all rounds p lives kept (slice_index_or views 0 gone).1 rows slots)
    (have : HaveWords all rows) where
  refs : (s : SlotId) → 0 < times s kept → strong_refs p s ≡ holders_in (word_at p views s) all
  refs s some =
      refs_counted u z p views lives files kept keeps left none s some ∙ same (word_at p views s)

  owned : AreOwned p slots
  owned =
      rows_owned (Told u z p views lives files kept keeps) p kept (word_at p views)
      (kept_word_is u z p views lives files kept keeps)
      (kept_one u z p views lives files kept keeps) all refs small rounds keeps.owned rows slots at
      have

  module _ (weight : List ℕ → ℕ) (ranks : List ℕ) (held freed : Audit)
      (audit : IsAudit (weight_in_part weight piece_weight) ranks p held)
      (nothing : FindsRecords [] freed) where
    lawful : Lawful p
    lawful = keeps.meets.lawful

    law : DirectoryLaw z p (directories views)
    law = keeps.meets.law.both.1

    found : FindsRecords (words_at p views slots) held
    found = record {
      live = audit.live ∙ slots_told z p views lawful law left keeps.fit none slots owned;
      deferred = audit.deferred ∙ none_deferred p left.rests;
      cyclic = none_cyclic z p views lawful law keeps.fit left none held.cyclic audit.cyclic;
      bytes = audit.bytes ∙ bytes_told z p views lawful law left keeps.fit none slots owned weight;
    }

    pub is_report : IsReport all rounds (report_of rows (totals_found all held freed))
    is_report =
        rows_are_report (Told u z p views lives files kept keeps) p kept (word_at p views)
        (kept_word_is u z p views lives files kept keeps)
        (kept_one u z p views lives files kept keeps) all refs small rounds rows slots held freed at
        have found nothing
