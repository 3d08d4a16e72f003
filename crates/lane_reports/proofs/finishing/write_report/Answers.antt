use Rattle.std.proofs.Common.{rules, ◌≡◌, List, refl, sym, ap, subst, ◌∙◌, arith}
use Rattle.std.specs.Prelude.{length, slice_index_or}
use Rattle.std.specs.Vec.{vec_len}
use Rattle.std.specs.List.{All}
use Rattle.std.proofs.lemmas.Result.{err_from_is_err_and}
use Rattle.law_lesson.specs.plain_state.Lists.{times}
use Rattle.law_lesson.specs.plain_protocol.Owns.{Object}
use Rattle.domain_audit.specs.core_events.declared.view.CoreView.{CoreView}
use Rattle.domain_audit.specs.counted_handles.Handles.{Handle}
use Rattle.lane_domain.specs.directory_calls.Directories.{HasQuota}
use Rattle.lane_domain.specs.text_reading.Reading.{HasTwoFree}
use Rattle.tally_sums.specs.cdrc_text.Text.{IsReport}
use Rattle.words_rest.specs.words_law.Known.{ForgetsNothing}
use Rattle.words_rest.specs.words_law.Views.{View}
use Rattle.lane_domain.specs.lane_files.Keeping.{slots_of}
use Rattle.lane_domain.specs.Sizes.{texts_in}
use Rattle.lane_reports.specs.Rows.{IsRecordOf}
use Rattle.lane_reports.proofs.Counting.{learns_more}
use Rattle.lane_reports.proofs.HoldersTold.{holders_counted}
use Rattle.lane_reports.proofs.Quiet.{nothing_owned}
use Rattle.lane_reports.proofs.Refused.{no_report}
use Rattle.lane_reports.proofs.Trails.{alone_then}
use Rattle.lane_reports.proofs.Writing.{have_words, knows_none, none_weak, nothing_found, text_is, written}
use Rattle.lane_reports.proofs.finishing.write_report.Goals as goal

pub count_rows-requires-clause-ready : goal.count_rows-requires-clause-ready
count_rows-requires-clause-ready g c =
    let ready = c.find_records.ensures.ready in let audit = c.audit_at_rest.ensures in record {
      rest = audit.rest;
      room = audit.room;
      over = ready.over;
      quota = subst (λ (v : View). HasQuota v.1) (sym audit.client) ready.quota;
      free = subst HasTwoFree (sym audit.same) ready.free;
      alone = audit.alone;
    }

pub count_rows-requires-clause-owned : goal.count_rows-requires-clause-owned
count_rows-requires-clause-owned g c k d h =
    let s = (slice_index_or c.in_ok-records.records.items k d).slot in
    let some = (c.in_ok-records.ensures.records k d h).held in
    let kept = ap (λ (hs : List Handle). times s (slots_of hs)) c.deref.ensures.value in
    let owns = c.requires.counted.owned s in
    let left = c.find_records.ensures.leaves.owns s in
    let same = ap (λ (v : CoreView). times s v.owned) c.audit_at_rest.ensures.same in
    omega (arith, some, kept, owns, left, same)

pub give_all-requires-clause-owned : goal.give_all-requires-clause-owned
give_all-requires-clause-owned g c s =
    let owns = c.requires.counted.owned s in
    let left = c.find_records.ensures.leaves.owns s in
    let same = ap (λ (v : CoreView). times s v.owned) c.audit_at_rest.ensures.same in
    let counted = c.count_rows.ensures.leaves.owns s in omega (arith, owns, left, same, counted)

pub audit_at_rest-requires-2-clause-weakly : goal.audit_at_rest-requires-2-clause-weakly
audit_at_rest-requires-2-clause-weakly g c s =
    c.give_all.ensures.gives.weakly s ∙ c.count_rows.ensures.leaves.weakly s
    ∙ ap (λ (v : CoreView). times s v.weaks) c.audit_at_rest.ensures.same
    ∙ c.find_records.ensures.leaves.weakly s ∙ c.requires.counted.weakly s

pub returns-clause-nothing : goal.returns-clause-nothing
returns-clause-nothing g c = record {
  owned = nothing_owned (slots_of c.args.kept.items) c.count_rows.new.root c.count_rows.new.root
      c.give_all.new.root c.audit_at_rest-2.new.root
      (λ s. c.count_rows.ensures.leaves.owns s
      ∙ ap (λ (v : CoreView). times s v.owned) c.audit_at_rest.ensures.same
      ∙ c.find_records.ensures.leaves.owns s ∙ c.requires.counted.owned s)
      refl c.give_all.ensures.gives c.audit_at_rest-2.ensures.same;
  weaks = none_weak c.args.domain.now _ _ c.audit_at_rest-2.new.root c.in_ok-freed.freed
      c.in_ok-freed.ensures.found
      (nothing_owned (slots_of c.args.kept.items) c.count_rows.new.root c.count_rows.new.root
      c.give_all.new.root c.audit_at_rest-2.new.root
      (λ s. c.count_rows.ensures.leaves.owns s
      ∙ ap (λ (v : CoreView). times s v.owned) c.audit_at_rest.ensures.same
      ∙ c.find_records.ensures.leaves.owns s ∙ c.requires.counted.owned s)
      refl c.give_all.ensures.gives c.audit_at_rest-2.ensures.same);
  deferred = c.audit_at_rest-2.ensures.settled;
}

pub returns-clause-live : goal.returns-clause-live
returns-clause-live g c =
    knows_none c.args.domain.now _ _ c.audit_at_rest-2.new.root c.in_ok-freed.freed
    c.in_ok-freed.ensures.found
    (nothing_owned (slots_of c.args.kept.items) c.count_rows.new.root c.count_rows.new.root
    c.give_all.new.root c.audit_at_rest-2.new.root
    (λ s. c.count_rows.ensures.leaves.owns s
    ∙ ap (λ (v : CoreView). times s v.owned) c.audit_at_rest.ensures.same
    ∙ c.find_records.ensures.leaves.owns s ∙ c.requires.counted.owned s)
    refl c.give_all.ensures.gives c.audit_at_rest-2.ensures.same)

pub returns-clause-holders : goal.returns-clause-holders
returns-clause-holders g c =
    let held = c.in_ok-held.ensures.found in
    let are = c.in_ok-rows.ensures.rows held.state held.knows.whole in
    holders_counted c.args.work.now held.state (slots_of c.deref.result.now)
    c.find_records.new.root c.audit_at_rest.new.root c.count_rows.new.root
    c.audit_at_rest-2.new.root c.in_ok-records.records.items c.deref-2.result.now
    c.in_ok-rows.rows.items _ c.in_ok-report.field-0.items c.in_ok-report.ensures
    c.deref-2.ensures.value
    (have_words c.args.work.now c.requires.work c.args.tallies.now c.requires.counted.counts
    c.in_ok-records.records.items c.in_ok-records.ensures.words held.state c.in_ok-rows.rows.items
    are)
    are c.in_ok-records.ensures.records
    (c.audit_at_rest-2.ensures.client ∙ c.give_all.ensures.client ∙ c.count_rows.ensures.client
    ∙ c.audit_at_rest.ensures.client)
    c.in_ok-rows.ensures.trail
    (alone_then c.count_rows.new.root.view.core c.give_all.new.root.view.core
    c.audit_at_rest-2.new.root.view.core c.give_all.ensures.trail c.audit_at_rest-2.ensures.trail)

pub returns-clause-report : goal.returns-clause-report
returns-clause-report g c =
    let size : vec_len c.args.work.now.files ≡ length c.args.work.now.files.items = search rules in
    let held = c.in_ok-held.ensures.found in
    let freed = c.in_ok-freed.ensures.found in
    let owned = nothing_owned (slots_of c.args.kept.items) c.count_rows.new.root
    c.count_rows.new.root c.give_all.new.root c.audit_at_rest-2.new.root
    (λ s. c.count_rows.ensures.leaves.owns s
    ∙ ap (λ (v : CoreView). times s v.owned) c.audit_at_rest.ensures.same
    ∙ c.find_records.ensures.leaves.owns s ∙ c.requires.counted.owned s)
    refl c.give_all.ensures.gives c.audit_at_rest-2.ensures.same in
    subst (IsReport (texts_in c.args.work.now) c.args.work.now.rounds)
    (sym (text_is c.args.work.now c.in_ok-report.field-0.items c.deref-2.result.now
    c.in_ok-rows.rows.items _ c.in_ok-held.held c.in_ok-freed.freed c.in_ok-report.ensures
    c.deref-2.ensures.value (c.len.ensures ∙ size) c.count_pieces.ensures c.audit_line.ensures
    c.audit_line-2.ensures))
    (written c.args.domain.now (λ words. 0) _ c.args.work.now c.requires.work c.requires.counted.small
    (slots_of c.args.kept.items) c.args.tallies.now c.in_ok-records.records.items
    c.args.root.now c.find_records.new.root c.audit_at_rest.new.root c.in_ok-held.held
    c.requires.counted.keeps c.requires.counted.counts c.in_ok-records.ensures.words
    (subst (λ (hs : List Handle). All (IsRecordOf (slots_of hs) c.find_records.new.root)
    c.in_ok-records.records.items) c.deref.ensures.value c.in_ok-records.ensures.records)
    (learns_more c.args.root.now.view.client.1 c.find_records.new.root.view.client.1
    c.find_records.ensures.learns.part).knows
    (λ s some. let owns = c.requires.counted.owned s in let left = c.find_records.ensures.leaves.owns s in
    ap (λ (o : Object). o.life)
    (c.find_records.ensures.leaves.knows s (omega (arith, some, owns))
    (omega (arith, some, owns, left))))
    (λ s. c.find_records.ensures.leaves.owns s ∙ c.requires.counted.owned s)
    (λ s. ap (λ (v : CoreView). times s v.owned) c.audit_at_rest.ensures.same)
    c.audit_at_rest.ensures.objects c.audit_at_rest.ensures.client held c.in_ok-freed.freed
    (nothing_found c.args.domain.now _ _ c.audit_at_rest-2.new.root c.in_ok-freed.freed freed
    owned) c.in_ok-rows.rows.items
    (c.in_ok-rows.ensures.rows held.state held.knows.whole))

pub returns-clause-left : goal.returns-clause-left
returns-clause-left g c =
    ap (λ (v : CoreView). v.left_seats) c.audit_at_rest-2.ensures.same
    ∙ ap (λ (v : CoreView). v.left_seats) c.give_all.ensures.gives.same
    ∙ ap (λ (v : CoreView). v.left_seats) c.count_rows.ensures.leaves.same
    ∙ ap (λ (v : CoreView). v.left_seats) c.audit_at_rest.ensures.same
    ∙ ap (λ (v : CoreView). v.left_seats) c.find_records.ensures.leaves.same

pub returns-clause-queue : goal.returns-clause-queue
returns-clause-queue g c =
    ap (λ (v : View). v.0)
    (c.audit_at_rest-2.ensures.client ∙ c.give_all.ensures.client ∙ c.count_rows.ensures.client
    ∙ c.audit_at_rest.ensures.client)
    ∙ ap (λ (v : View). v.0) c.find_records.ensures.learns.rest

pub returns-clause-knows : goal.returns-clause-knows
returns-clause-knows g c =
    subst (λ (v : View). ForgetsNothing c.args.root.now.view.client.1 v.1)
    (sym (c.audit_at_rest-2.ensures.client ∙ c.give_all.ensures.client
    ∙ c.count_rows.ensures.client ∙ c.audit_at_rest.ensures.client))
    (learns_more c.args.root.now.view.client.1 c.find_records.new.root.view.client.1
    c.find_records.ensures.learns.part)

pub returns-in_err-records-clause-why : goal.returns-in_err-records-clause-why
returns-in_err-records-clause-why g c =
    let found = c.find_records.ensures in
    let p = err_from_is_err_and c.from_residual.result c.from_residual.ensures.1 in
    rw (p.1, p.2)
    (no_report c.args.domain.now c.in_err-records.field-0.0 c.args.root.now c.find_records.new.root
    c.in_err-records.ensures.why found.ready.rest.of_domain
    (ap (λ (v : CoreView). v.quota) found.leaves.same))
