-- The report of what seat 0 keeps, by the audits and the rows that it made.
use Rattle.std.proofs.Common.{◌≡◌, ◌≢◌, ℕ, ◌<◌, List, [], ◌∷◌, refl, sym, ap, subst, ◌∙◌, arith}
use Rattle.std.specs.Prelude.{length, ◌↔◌, map, slice_index_or}
use Rattle.std.specs.List.{All, Contains}
use Rattle.std.specs.Map.{keys_of}
use Rattle.std.proofs.lemmas.List.Elements.{All-head, All-tail}
use Rattle.law_lesson.specs.plain_state.declared.slot.SlotId.{SlotId}
use Rattle.law_lesson.specs.plain_state.declared.slot.Stage.TheVariants.{Live}
use Rattle.law_lesson.specs.plain_state.Lists.{times}
use Rattle.law_lesson.specs.plain_state.State.{Plain, PlainSeat, no_payload, seat_at, stage_at}
use Rattle.law_lesson.specs.plain_protocol.Owns.{Object}
use Rattle.words_rest.specs.protocol_pairs.Shares.{FitsItsPart, weight_in_part}
use Rattle.domain_audit.proofs.Below.core_law_Kit.{times_none}
use Rattle.domain_audit.specs.acquire_retire.Domains.{DomainState}
use Rattle.domain_audit.specs.acquire_retire.Seats.{SeatState}
use Rattle.words_rest.specs.directory_law.declared.view.View.{View as DirectoryView}
use Rattle.words_rest.specs.queue_law.Chain.{Ends}
use Rattle.words_rest.specs.directory_law.Cells.{Area}
use Rattle.words_rest.specs.directory_law.Bytes.{AreBytes, IsPiece, piece_weight}
use Rattle.tally_sums.specs.cdrc_text.declared.row.Row.{Row}
use Rattle.tally_sums.specs.cdrc_text.declared.row.Totals.{Totals}
use Rattle.tally_sums.specs.cdrc_text.Fold.{File, IsInByteOrder, holders_in, occurrences_in}
use Rattle.tally_sums.specs.cdrc_text.Report.{report_of}
use Rattle.tally_sums.specs.cdrc_text.Text.{IsReport, word_of}
use Rattle.tally_sums.proofs.Below.cdrc_text_Listed.{held-occurs, occurs-held}
use Rattle.words_rest.specs.heap_audit.declared.finding.Audit.{Audit}
use Rattle.words_rest.specs.words_law.Known.{KnowsMore}
use Rattle.words_rest.specs.words_law.Views.{View, gone}
use Rattle.lane_domain.specs.words_protocol.declared.law.WordsLaw.{WordsLaw}
use Rattle.lane_domain.specs.words_protocol.Sides.{area_of, ends_of}
use Rattle.words_rest.specs.Kept.{KeepsRecordsOf, TellsFiles, TellsWord}
use Rattle.words_rest.specs.Nodes.{HasNoNode}
use Rattle.words_rest.specs.Records.{FindsRecords}
use Rattle.words_rest.specs.Rest.{IsLeft}
use Rattle.words_rest.specs.Written.{AreRowsAt, HaveWords, line_of, totals_found}
use Rattle.words_rest.proofs.KeptWords.{kept_heads}
use Rattle.words_rest.proofs.Living.{none_cyclic, none_deferred, none_lives}
use Rattle.words_rest.proofs.NoNode.{no_node_audited}
use Rattle.words_rest.proofs.Reported.{is_report}
use Rattle.words_rest.proofs.Below.record_counts_Sums.{no_bytes, no_slots}
use Rattle.lane_domain.specs.lane_files.lane_work.declared.work.Work.{Work}
use Rattle.lane_domain.specs.lane_files.Work.{IsWork, kept_files}
use Rattle.lane_domain.specs.lane_files.FilePieces.{pieces_in}
use Rattle.lane_domain.specs.Sizes.{all_pieces, texts_in}
use Rattle.std.proofs.lemmas.List.{length-map}
use Rattle.lane_reports.specs.declared.records.WordRecord.{WordRecord}
use Rattle.lane_reports.specs.Audits.{IsAudited, KnowsOwned}
use Rattle.lane_reports.specs.Kept.{lives_in}
use Rattle.lane_reports.specs.Reporting.{CountWork, KeepsWork, KnowsNoneLive}
use Rattle.lane_reports.specs.Rows.{AreRowsOf, IsRecordOf, slots_in, sums_in, words_in}
use Rattle.tally_sums.specs.Sums.{AreCounted, IsSum, SumsUp, Tallies}
use Rattle.lane_reports.proofs.Alike.{files_alike}
use Rattle.lane_reports.proofs.KeptWork.{each_kept, same_holders}
use Rattle.lane_reports.proofs.Tells.{files_more}

abbrev pub Fits : List ℕ → Type 0
Fits = FitsItsPart (λ words. words ≡ no_payload) IsPiece

-- what is left where seat 0 owns nothing
module _ (d : DomainState WordsLaw) (weight : List ℕ → ℕ) (ranks : List ℕ) (seat : SeatState View)
    (found : Audit) (audited : IsAudited Fits weight ranks d seat found)
    (nothing : seat.view.core.owned ≡ []) where
  none_owned : (s : SlotId) → times s (seat_at audited.state 0).owned ≡ 0
  none_owned s =
      ap (λ (v : PlainSeat). times s v.owned) audited.own ∙ ap (times s) nothing ∙ times_none s

  abbrev freed_views : List View
  freed_views = audited.law.views

  freed_left : IsLeft audited.state freed_views
  freed_left = record {
    rests = audited.rests;
    cells = audited.cells;
    owns = record {
      heads = λ s some. let none = none_owned s in absurd (omega (arith, some, none));
      others = audited.others;
    };
  }

  no_node_freed : HasNoNode audited.state
  no_node_freed =
      no_node_audited (ends_of d.protocol.pair.left) (area_of d.protocol.pair.right) audited.state
      freed_views audited.law.meets audited.knows.fit freed_left weight ranks found audited.audit
      audited.reached

  none_live : (s : SlotId) → stage_at audited.state s ≢ Live
  none_live =
      let meets = audited.law.meets in
      none_lives (area_of d.protocol.pair.right) audited.state freed_views meets.lawful
      meets.law.both.1 audited.knows.fit freed_left no_node_freed none_owned

  pub knows_none : KnowsNoneLive seat
  knows_none =
      record { state = audited.state; knows = audited.knows.whole; none = none_live }

  -- and nothing is owned weakly
  pub none_weak : seat.view.core.weaks ≡ []
  none_weak =
      ap (λ (v : PlainSeat). v.weaks) (sym audited.own) ∙ (audited.rests.seats 0).weaks

  pub nothing_found : FindsRecords [] found
  nothing_found =
      let meets = audited.law.meets in
      let is = audited.audit in record {
        live = is.live ∙ no_slots audited.state none_live;
        deferred = is.deferred ∙ none_deferred audited.state freed_left.rests;
        cyclic = none_cyclic (area_of d.protocol.pair.right) audited.state freed_views meets.lawful
            meets.law.both.1 audited.knows.fit freed_left no_node_freed found.cyclic is.cyclic;
        bytes = is.bytes ∙ no_bytes audited.state weight none_live;
      }

-- the records and the rows are of the same words
words_same : (p : Plain) (records : List WordRecord) (rows : List Row)
    → AreRowsOf p records rows → map word_of rows ≡ words_in records
words_same p [] [] are = refl
words_same p [] (row ∷ rows) are = absurd are
words_same p (r ∷ records) [] are = absurd are
words_same p (r ∷ records) (row ∷ rows) are =
    (λ i. (are.0.word i).now ∷ words_same p records rows are.1 i)

-- the keys of the sums are the words
keys_in : (records : List WordRecord) → keys_of (sums_in records) ≡ words_in records
keys_in [] = refl
keys_in (r ∷ rs) = ap (λ (ws : List (List ℕ)). r.word.now ∷ ws) (keys_in rs)

-- the words of the rows are those of the files
module _ (work : Work) (is : IsWork work) (tallies : Tallies) (counts : CountWork work tallies)
    (records : List WordRecord) (words : SumsUp tallies (sums_in records)) (p : Plain)
    (rows : List Row) (are : AreRowsOf p records rows) where
  are_counted : AreCounted tallies (words_in records)
  are_counted = subst (AreCounted tallies) (keys_in records) words.words

  pub have_words : HaveWords (texts_in work) rows
  have_words = let b = both held in record { in_order = b.0; held = b.1 }
    where
      both : ((w : List ℕ) → Contains (words_in records) w ↔ (0 < holders_in w (texts_in work)))
          → IsInByteOrder (map word_of rows)
          × ((w : List ℕ) → Contains (map word_of rows) w ↔ (0 < holders_in w (texts_in work)))
      both held = subst (λ ws. IsInByteOrder ws
          × ((w : List ℕ) → Contains ws w ↔ (0 < holders_in w (texts_in work))))
          (sym (words_same p records rows are)) (are_counted.in_order, held)

      held : (w : List ℕ) → Contains (words_in records) w ↔ (0 < holders_in w (texts_in work))
      held w =
          let some = is.once in
          let all = counts w in (
            (λ has. let above = (are_counted.counted w).0 has in
                occurs-held w work.rounds (texts_in work) (omega (arith, above, all))),
            (λ holds. let above = held-occurs w work.rounds (texts_in work) (omega (arith, some)) holds in
                (are_counted.counted w).1 (omega (arith, above, all))),
          )

module _ (d : DomainState WordsLaw) (weight : List ℕ → ℕ) (ranks : List ℕ) (work : Work)
    (is : IsWork work) (small : All (λ (words : File). All AreBytes words) (texts_in work))
    (kept : List SlotId) (tallies : Tallies) (records : List WordRecord) (r0 r1 r2 : SeatState View)
    (found : Audit) (keeps : KeepsWork work kept r0) (counts : CountWork work tallies)
    (words : SumsUp tallies (sums_in records))
    (record_of : All (IsRecordOf kept r1) records)
    (more : KnowsMore r0.view.client.1 r1.view.client.1)
    (same_lives : (s : SlotId) → 0 < times s kept → lives_in r1 s ≡ lives_in r0 s)
    (owned : (s : SlotId) → times s r1.view.core.owned ≡ times s kept)
    (still : (s : SlotId) → times s r2.view.core.owned ≡ times s r1.view.core.owned)
    (objects : KnowsOwned r1 r2) (client : r2.view.client ≡ r1.view.client)
    (audited : IsAudited Fits (weight_in_part weight piece_weight) ranks d r2 found)
    (freed : Audit) (nothing : FindsRecords [] freed) (rows : List Row)
    (are : AreRowsOf audited.state records rows) where
  abbrev p : Plain
  p = audited.state

  abbrev views : List View
  views = audited.law.views

  abbrev files : List File
  files = kept_files work keeps.tickets

  abbrev v : DirectoryView
  v = (slice_index_or views 0 gone).1

  own : v ≡ r1.view.client.1
  own = ap (λ (x : View). x.1) (audited.law.own ∙ client)

  kept_owned : (s : SlotId) → 0 < times s kept → 0 < times s r1.view.core.owned
  kept_owned s some = let same = owned s in omega (arith, some, same)

  lives_later : (s : SlotId) → 0 < times s kept → lives_in r2 s ≡ lives_in r1 s
  lives_later s some = ap (λ (o : Object). o.life) (objects s (kept_owned s some))

  tells : TellsFiles (lives_in r2) files kept v
  tells =
      subst (TellsFiles (lives_in r2) files kept) (sym own)
      (files_alike (lives_in r0) (lives_in r2) r1.view.client.1 files kept
      (λ s some. sym (lives_later s some ∙ same_lives s some))
      (files_more r0.view.client.1 r1.view.client.1 more (lives_in r0) files kept keeps.tells))

  abbrev u : Ends
  u = ends_of d.protocol.pair.left

  abbrev z : Area
  z = area_of d.protocol.pair.right

  keeps_records : KeepsRecordsOf u z p views (lives_in r2) files kept
  keeps_records = record {
    meets = audited.law.meets;
    fit = audited.knows.fit;
    owned = λ s. ap (λ (x : PlainSeat). times s x.owned) audited.own ∙ still s ∙ owned s;
    life = λ s some.
        ap (λ (o : Object). o.life)
        (audited.objects s
        (let a = kept_owned s some in let b = still s in omega (arith, a, b)));
    tells = tells;
    bytes = each_kept work keeps.tickets (λ (f : File). All AreBytes f)
        (λ k x h. absurd (omega (arith, h))) small;
  }

  left : IsLeft p views
  left = record {
    rests = audited.rests;
    cells = audited.cells;
    owns = kept_heads u z p views (lives_in r2) files kept keeps_records audited.others;
  }

  no_node : HasNoNode p
  no_node =
      no_node_audited u z p views audited.law.meets audited.knows.fit left
      (weight_in_part weight piece_weight) ranks found audited.audit audited.reached

  rows_at : (rs : List WordRecord) (xs : List Row) → All (IsRecordOf kept r1) rs
      → AreRowsOf p rs xs → All (IsSum tallies) (sums_in rs)
      → AreRowsAt (texts_in work) work.rounds p (lives_in r2) kept v xs
      (slots_in rs)
  rows_at [] [] each these summed = tt
  rows_at [] (x ∷ xs) each these summed = absurd these
  rows_at (r ∷ rs) [] each these summed = absurd these
  rows_at (r ∷ rs) (x ∷ xs) each these summed =
      let first = All-head (IsRecordOf kept r1) r rs each in
      let row = these.0 in (
        record {
          is_kept = first.held;
          tells = subst (λ (l : List ℕ). TellsWord v l r.slot (lives_in r2 r.slot))
              (ap (λ x. x.now) (sym row.word))
              (subst (λ (y : DirectoryView × ℕ). TellsWord y.0 r.word.now r.slot y.1)
              (λ i. (sym own i, sym (lives_later r.slot first.held) i)) first.tells);
          occurrences = row.occurrences ∙ All-head (IsSum tallies) (r.word.now, r.occurrences) (sums_in rs) summed
              ∙ counts r.word.now
              ∙ ap (λ x. occurrences_in x.now work.rounds
              (texts_in work)) (sym row.word);
          holders = row.holders;
        },
        rows_at rs xs (All-tail (IsRecordOf kept r1) r rs each) these.1
            (All-tail (IsSum tallies) (r.word.now, r.occurrences) (sums_in rs) summed),
      )

  have : HaveWords (texts_in work) rows
  have = have_words work is tallies counts records words p rows are

  pub written : IsReport (texts_in work) work.rounds
      (report_of rows (totals_found (texts_in work) found freed))
  written =
      is_report u z p views (lives_in r2) files kept keeps_records left no_node (texts_in work)
      (same_holders work keeps.tickets is.once keeps.once) small work.rounds rows
      (slots_in records) (rows_at records rows record_of are words.sums) have weight
      ranks found freed audited.audit nothing

-- the text, by what the calls that wrote it answered
pub text_is : (work : Work) (text : List ℕ) (told rows : List Row) (totals : Totals)
    (held freed : Audit) → text ≡ report_of told totals → told ≡ rows
    → totals.files ≡ length work.files.items
    → totals.pieces ≡ all_pieces work → totals.held ≡ line_of held → totals.freed ≡ line_of freed
    → text ≡ report_of rows (totals_found (texts_in work) held freed)
text_is work text told rows totals held freed is same files pieces first second =
    is ∙ (λ i. report_of (same i) (record {
      files = (files ∙ sym (length-map work.files.items pieces_in)) i;
      pieces = pieces i;
      held = first i;
      freed = second i;
    }))
