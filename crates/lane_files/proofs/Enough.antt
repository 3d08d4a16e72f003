-- Which makes are refused to a lane.
use Rattle.std.proofs.Common.{◌≡◌, ℕ, ◌+◌, ◌<◌, List, [], ◌∷◌, ◌++◌, sym, ap, subst, ◌∙◌, arith}
use Rattle.std.specs.Prelude.{Some, slice_index_or}
use Rattle.std.proofs.lemmas.List.Sums.{sum_by-cons}
use Rattle.control_word.specs.core_events.declared.view.CoreView.{CoreView}
use Rattle.control_word.specs.core_events.Views.{allowed_makes, granted}
use Rattle.hand_queues.specs.claim_law.Claims.{makes_given}
use Rattle.control_word.specs.acquire_retire.Domains.{DomainState}
use Rattle.control_word.specs.acquire_retire.Seats.{SeatState}
use Rattle.hand_queues.specs.slot_store.declared.making.MakeError.TheVariants as unmade
use Rattle.words_protocol.specs.cdrc_text.Text.{slots_of_word}
use Rattle.words_protocol.specs.words_law.Views.{View}
use Rattle.words_protocol.specs.declared.law.WordsLaw.{WordsLaw}
use Rattle.lane_files.specs.PieceMakes.{LacksMake}
use Rattle.lane_files.specs.lane_work.declared.lane.Lane.{Lane}
use Rattle.lane_files.specs.declared.refusal.FileError.{FileError}
use Rattle.lane_files.specs.declared.refusal.LaneStop.{LaneStop}
use Rattle.lane_files.specs.declared.refusal.LaneStop.TheVariants as stopped
use Rattle.lane_files.specs.lane_work.declared.work.Work.{Work}
use Rattle.lane_files.specs.Lanes.{StopsLane, beside_tickets}
use Rattle.lane_files.specs.Makes.{GrantsMakes, HasItsMakes, cause_at, cause_of}
use Rattle.lane_files.specs.Work.{words_of}
use Rattle.lane_files.proofs.Making.{granted_both, makes_next, tickets_grant}

abbrev no_tickets : CoreView → CoreView
no_tickets v = record v { tickets = [] }

-- the makes that a seat may use, by its quota, its grants and its tickets
allowed_by : (v w : CoreView) (tickets : List ℕ) → beside_tickets w ≡ beside_tickets v
    → w.tickets ≡ v.tickets ++ tickets
    → allowed_makes w ≡ allowed_makes v + granted v.grants tickets
allowed_by v w tickets same drawn =
    let quota = ap (λ (u : CoreView). u.quota.makes) same in
    let grants = ap (λ (u : CoreView). granted u.grants w.tickets) same in
    let all = ap (granted v.grants) drawn in
    let both = granted_both v.grants v.tickets tickets in
    omega arith

module _ (fits : List ℕ → Type 0) (d : DomainState WordsLaw) (work : Work) where
  -- a lane that stopped at a file as a make was refused has one left
  one_left : (error : FileError) (old new : SeatState View) (before after : Lane)
      → GrantsMakes d.terms.grants work → HasItsMakes d old
      → StopsLane fits d work (stopped.File error) old new before after
      → cause_at error ≡ Some unmade.MakesSpent → ⊥
  one_left error old new before after enough has stops cause =
      let ticket = stops.why.0 in
      let file = stops.why.2 in
      let n = slots_of_word (slice_index_or (words_of work ticket) file.done []) in
      let lacks = subst (λ x. LacksMake d n x file.last.view.core new.view.core) cause file.lacks in
      let first = stops.counts.makes in
      let second = file.counts.makes in
      let next = makes_next (words_of work ticket) file.done file.fewer in
      let granting = subst (λ gs. GrantsMakes gs work) (sym has.grants) enough in
      let before' = tickets_grant old.view.core.grants work granting stops.tickets stops.inside in
      let last = granting ticket stops.why.1 in
      let same = ap no_tickets file.owns.same ∙ (ap no_tickets file.counts.owns.same
      ∙ stops.counts.owns.same) in
      let allowed = allowed_by old.view.core new.view.core (stops.tickets ++ ticket ∷ []) same
      stops.drawn in
      let both = granted_both old.view.core.grants stops.tickets (ticket ∷ []) in
      let one = sum_by-cons (λ (x : ℕ). slice_index_or old.view.core.grants x 0) ticket [] in
      let spent = lacks.1 in let used = lacks.0 in let had = has.makes in
      omega arith

  pub never_spent : (stop : LaneStop) (old new : SeatState View) (before after : Lane)
      → GrantsMakes d.terms.grants work → HasItsMakes d old
      → StopsLane fits d work stop old new before after
      → cause_of stop ≡ Some unmade.MakesSpent → ⊥
  never_spent stopped.Spent old new before after enough has stops cause = cc
  never_spent (stopped.File error) old new before after enough has stops cause =
      one_left error old new before after enough has stops cause

  pub more_makes : (stop : LaneStop) (old new : SeatState View) (before after : Lane)
      → StopsLane fits d work stop old new before after
      → cause_of stop ≡ Some unmade.Full → d.shape.slots < makes_given d.terms
  more_makes stopped.Spent old new before after stops cause =
      absurd (the_other cause)
    where
      the_other : Some unmade.AddsSpent ≡ Some unmade.Full → ⊥
      the_other e = cc
  more_makes (stopped.File error) old new before after stops cause =
      let file = stops.why.2 in
      let n = slots_of_word (slice_index_or (words_of work stops.why.0) file.done []) in
      (subst (λ x. LacksMake d n x file.last.view.core new.view.core) cause file.lacks).1
