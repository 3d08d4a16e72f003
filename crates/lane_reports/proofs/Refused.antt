-- Why nothing was counted, where a lane was refused.
use Rattle.std.proofs.Common.{◌+◌, ◌≡◌, ◌<◌, ◌^◌, inl, inr, ℕ, suc, List, [], ◌∷◌, Option, Some, None, refl, sym, ap, subst, ◌∙◌, arith}
use Rattle.std.specs.Prelude.{length, slice_index_or, Result}
use Rattle.std.proofs.Math.Seq.{get_or-append_seam}
use Rattle.std.proofs.lemmas.List.{get_or-replicate, length-append}
use Rattle.domain_audit.specs.core_events.Views.{Terms}
use Rattle.domain_audit.specs.core_events.declared.shape.Quota.{Quota}
use Rattle.domain_audit.specs.domain_rule.Views.{quota_at}
use Rattle.domain_audit.specs.acquire_retire.Calls.{IsOf}
use Rattle.domain_audit.specs.acquire_retire.Domains.{DomainState}
use Rattle.domain_audit.specs.acquire_retire.Seats.{SeatState}
use Rattle.domain_audit.specs.control_word.Resting.{IsSpent}
use Rattle.domain_audit.specs.slot_store.declared.making.MakeError.{MakeError}
use Rattle.domain_audit.specs.slot_store.declared.making.MakeError.TheVariants as unmade
use Rattle.words_rest.specs.queue_law.declared.view.Form.{Form}
use Rattle.words_rest.specs.queue_law.declared.view.View.{View as QueueView}
use Rattle.words_rest.specs.words_law.Views.{View}
use Rattle.law_lesson.specs.plain_state.Lists.{times}
use Rattle.domain_audit.specs.core_events.declared.view.CoreView.{CoreView}
use Rattle.domain_audit.proofs.Below.core_law_Kit.{times_none}
use Rattle.lane_domain.specs.lane_files.Owning.{OwnsNoNode}
use Rattle.lane_domain.specs.lane_files.Scans.{HasScanned}
use Rattle.lane_domain.specs.words_protocol.declared.law.WordsLaw.{WordsLaw}
use Rattle.lane_domain.specs.lane_files.declared.refusal.LaneError.TheVariants as untaken
use Rattle.lane_domain.specs.lane_files.declared.refusal.PieceError.{PieceError}
use Rattle.lane_domain.specs.lane_files.declared.refusal.PieceError.TheVariants as uncounted
use Rattle.lane_domain.specs.lane_files.declared.shared.Shared.{Shared}
use Rattle.lane_domain.specs.lane_files.Pieces.{IsWhyNotCounted}
use Rattle.lane_domain.specs.lane_files.Whys.{IsWhyNotCopied}
use Rattle.lane_domain.specs.lane_files.lane_work.declared.lane.Lane.{Lane}
use Rattle.lane_domain.specs.lane_files.declared.refusal.FileError.TheVariants as unread
use Rattle.lane_domain.specs.lane_files.declared.refusal.LaneStop.{LaneStop}
use Rattle.lane_domain.specs.lane_files.declared.refusal.LaneStop.TheVariants as stopped
use Rattle.lane_domain.specs.lane_files.lane_work.declared.work.Work.{Work}
use Rattle.lane_domain.specs.lane_files.Lanes.{IsWhyStopped, StopsLane}
use Rattle.lane_domain.specs.lane_files.PieceMakes.{cause_in}
use Rattle.lane_domain.specs.lane_files.Makes.{HasItsMakes, cause_of}
use Rattle.lane_domain.proofs.Below.lane_files_Missing.{lane_missed}
use Rattle.lane_domain.proofs.Below.lane_files_Owning.{owns_no_node}
use Rattle.lane_domain.proofs.Below.lane_files_Pushed.{full_scanned}
use Rattle.domain_audit.proofs.Below.core_law_Each.{get_each, length_each}
use Rattle.lane_domain.specs.Opened.{FindsNoSlot, IsDomainFor, fresh_lanes, fresh_seat, lane_quota, root_quota, terms_for}
use Rattle.lane_domain.proofs.Enough.{attached_makes, makes_left, slots_lacked}
use Rattle.lane_domain.specs.declared.ending.LaneEnd.{LaneEnd}
use Rattle.lane_domain.specs.Beginning.{Attaches, HasDoneNothing}
use Rattle.lane_domain.specs.Ending.{EndAll, EndsLane, RunsOrStops}
use Rattle.lane_reports.specs.declared.counted.CountError.{CountError}
use Rattle.lane_reports.specs.Refusals.{HasSpentAll, IsAnswerFor, IsFirstRefusal, IsWhyNothing}
use Rattle.lane_reports.specs.Rows.{IsWhyNoReport, IsWhyNoRows}
use Rattle.lane_reports.specs.declared.refusal.RowsError.{RowsError}
use Rattle.lane_reports.specs.declared.refusal.RowsError.TheVariants as rows

-- a lane's quota is that of its terms
lane_quota_at : (work : Work) (lanes slots : ℕ) (form : Form) (d : DomainState WordsLaw)
    → IsDomainFor work lanes slots form d → (n : ℕ) → n < lanes
    → quota_at d.terms.quotas (1 + n) ≡ lane_quota
lane_quota_at work lanes slots form d is n less =
    let at : 1 + n ≡ suc n = omega arith in
    ap (λ (ts : Terms). quota_at ts.quotas (1 + n)) is.terms
    ∙ ap (quota_at (terms_for work lanes).quotas) at
    ∙ get_or-replicate lanes n lane_quota (record { makes = 0; adds = 0 }) less

-- why there is no report, of a seat that is the domain's and has its quota still
pub no_report : (d : DomainState WordsLaw) (error : RowsError) (old new : SeatState View)
    → IsWhyNoRows error new → IsOf d new → new.view.core.quota ≡ old.view.core.quota
    → IsWhyNoReport d error old new
no_report d rows.Spent old new spent of quota = (spent, of, quota)
no_report d rows.OutOfMemory old new spent of quota = tt

-- the same of a seat whose quota was so before
pub no_report_since : (d : DomainState WordsLaw) (error : RowsError) (old mid new : SeatState View)
    → mid.view.core.quota ≡ old.view.core.quota → IsWhyNoReport d error mid new
    → IsWhyNoReport d error old new
no_report_since d rows.Spent old mid new was why = (why.0, why.1, why.2 ∙ was)
no_report_since d rows.OutOfMemory old mid new was why = tt

-- seat 0 had used all its adds when it made the report
pub root_spent : (work : Work) (lanes slots : ℕ) (form : Form) (d : DomainState WordsLaw)
    → IsDomainFor work lanes slots form d → (old new : SeatState View)
    → old.view.core.quota ≡ root_quota → IsWhyNoReport d rows.Spent old new
    → HasSpentAll work lanes slots form new
root_spent work lanes slots form d is old new quota why = record {
  domain = d;
  is = is;
  of_domain = why.1;
  quota = ap (λ (q : Quota). q.adds) (why.2 ∙ quota);
  spent = why.0;
}

IsAdds : Option MakeError → Type 0
IsAdds None = ⊥
IsAdds (Some unmade.AddsSpent) = Unit {0}
IsAdds (Some unmade.MakesSpent) = ⊥
IsAdds (Some unmade.Full) = ⊥

-- seat 0 has pushed nothing that found no slot for the queue's first node
pub unlaid_scanned : (fits : List ℕ → Type 0) (d : DomainState WordsLaw) (root : SeatState View)
    → FindsNoSlot fits d root → HasScanned root
unlaid_scanned fits d root finds =
    let none = ap (λ (q : QueueView). length q.pushed) finds.goes.client in omega arith

-- and it owns nothing
pub unlaid_owns : (fits : List ℕ → Type 0) (d : DomainState WordsLaw) (root : SeatState View)
    → FindsNoSlot fits d root → OwnsNoNode root
unlaid_owns fits d root finds = record {
  strongly = λ s some.
      absurd (let is = ap (λ (v : CoreView). times s v.owned) finds.goes.becomes.core in
      let z = times_none s in omega (arith, some, is, z));
  weakly = λ s. ap (λ (v : CoreView). times s v.weaks) finds.goes.becomes.core ∙ times_none s;
}

module _ (fits : List ℕ → Type 0) (d : DomainState WordsLaw) where
  copy_spent : (s : _) (why : MakeError) (old new : SeatState View) → IsAdds (Some why)
      → IsWhyNotCopied fits d s why old new → IsSpent new.view.core
  unfolding IsAdds
  copy_spent s unmade.AddsSpent old new adds (inl spent) = spent.2
  copy_spent s unmade.AddsSpent old new adds (inr stays) = stays.spent stays.not_offered
  copy_spent s unmade.MakesSpent old new adds either = absurd adds
  copy_spent s unmade.Full old new adds either = absurd adds

  piece_spent : (word : List ℕ) (error : PieceError) (old new : SeatState View)
      (before after : List (List ℕ × ℕ)) → IsAdds (cause_in error)
      → IsWhyNotCounted fits d word error old new before after → IsSpent new.view.core
  unfolding IsAdds
  piece_spent word (uncounted.Interning unmade.AddsSpent) old new before after adds why = why.0
  piece_spent word (uncounted.Interning unmade.MakesSpent) old new before after adds why = absurd adds
  piece_spent word (uncounted.Interning unmade.Full) old new before after adds why = absurd adds
  piece_spent word (uncounted.Offering error) old new before after adds why =
      copy_spent why.slot error why.interned new adds why.why.0
  piece_spent word (uncounted.Taking (untaken.Refused error)) old new before after adds why =
      why.why.2.1
  piece_spent word (uncounted.Taking untaken.OutOfMemory) old new before after adds why = absurd adds

  module _ (work : Work) where
    stop_spent : (stop : LaneStop) (old new : SeatState View) (before after : Lane)
        → IsAdds (cause_of stop) → IsWhyStopped fits d work stop old new before after
        → IsSpent new.view.core
    unfolding IsAdds
    stop_spent stopped.Spent old new before after adds why = why.0
    stop_spent (stopped.File (unread.Piece error)) old new before after adds (ticket, less, stops) =
        piece_spent _ error stops.last new _ _ adds stops.why
    stop_spent (stopped.File unread.OutOfMemory) old new before after adds why = absurd adds

    module _ (lanes slots : ℕ) (form : Form) (is : IsDomainFor work lanes slots form d) where
      stop_why : (stop : LaneStop) (begun seat : SeatState View) (before after : Lane)
          (error : CountError) → StopsLane fits d work stop begun seat before after
          → HasItsMakes d begun → HasDoneNothing begun → IsOf d seat
          → seat.view.core.quota.adds ≡ 2 ^ 40 → (o : Option MakeError)
          → cause_of stop ≡ o → IsAnswerFor o seat error
          → IsWhyNothing fits work lanes slots form error
      unfolding IsAdds
      stop_why stop begun seat before after error stops has new of quota None cause answer =
          subst (IsWhyNothing fits work lanes slots form) (sym answer) tt
      stop_why stop begun seat before after error stops has new of quota (Some unmade.AddsSpent)
          cause answer =
          subst (IsWhyNothing fits work lanes slots form) (sym answer) (record {
            domain = d;
            is = is;
            of_domain = of;
            quota = quota;
            spent =
                stop_spent stop stops.last seat stops.lane after (subst IsAdds (sym cause) tt)
                stops.why;
          })
      stop_why stop begun seat before after error stops has new of quota (Some unmade.MakesSpent)
          cause answer =
          absurd (makes_left fits work lanes slots form d stop begun seat before after is has stops
          cause)
      stop_why stop begun seat before after error stops has new of quota (Some unmade.Full) cause
          answer =
          subst (IsWhyNothing fits work lanes slots form) (sym answer) (
            d,
            is,
            slots_lacked fits work lanes slots form d stop begun seat before after is stops cause,
            inr (record {
              begun = begun;
              before = before;
              after = after;
              stop = stop;
              stops = stops;
              cause = cause;
            }),
            full_scanned fits d work stop begun seat before after new.pushed stops cause,
            owns_no_node fits d work stop begun seat before after new.owned new.weaks stops cause,
            of,
            lane_missed fits d work stop begun seat before after stops cause,
          )

      pub lane_why : (on : Shared) (seats : List (SeatState View)) (ends : List LaneEnd)
          (error : CountError) → seats ≡ fresh_lanes d lanes → EndAll fits d on work seats ends
          → IsFirstRefusal ends error → IsWhyNothing fits work lanes slots form error
      lane_why on seats ends error fresh all (inl none) =
          subst (IsWhyNothing fits work lanes slots form) (sym none) tt
      lane_why on [] ends error fresh all (inr (front, done, ended, back, are, ran, refusal)) =
          let many = all.many in let size = ap length are in
          let l = length-append front (ended ∷ back) in absurd (omega (arith, many, size, l))
      lane_why on (s ∷ seats) ends error fresh all
          (inr (front, done, ended, back, are, ran, refusal)) =
          let many = all.many in let size = ap length are in
          let l = length-append front (ended ∷ back) in
          let ends_one = subst (EndsLane fits d on work (length front)
          (slice_index_or (s ∷ seats) (length front) s))
          (ap (λ (es : List LaneEnd). slice_index_or es (length front) ended) are
          ∙ get_or-append_seam front ended back ended)
          (all.each (length front) s ended (omega (arith, many, size, l))) in
          let n = length front in
          let count = length_each 1 lanes (fresh_seat d) in
          let every = ap length fresh in
          let at = ap (λ (l : List (SeatState View)). slice_index_or l n s) fresh
          ∙ get_each 1 lanes n (fresh_seat d) s (omega (arith, many, size, l, count, every)) in
          let has = subst (λ (x : SeatState View). Attaches fits d x ends_one.begun
          → HasItsMakes d ends_one.begun) (sym at)
          (λ attaches. attached_makes d (1 + n) ends_one.begun attaches.leaves attaches.makes)
          ends_one.attaches in
          stop_why refusal.0 ends_one.begun ended.seat ends_one.lane ended.lane error
          (subst (λ (r : Result (Unit {0}) LaneStop).
          RunsOrStops fits d work r ends_one.begun ended.seat ends_one.lane ended.lane)
          refusal.1 ends_one.runs) has ends_one.attaches.nothing ends_one.ready.rest.of_domain
          (ap (λ (v : CoreView). v.quota.adds) ends_one.same
          ∙ ap (λ (x : SeatState View). x.view.core.quota.adds) at
          ∙ ap (λ (q : Quota). q.adds)
          (lane_quota_at work lanes slots form d is n (omega (arith, many, size, l, count, every))))
          (cause_of refusal.0) refl refusal.2
