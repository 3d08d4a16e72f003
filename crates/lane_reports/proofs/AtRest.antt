-- The whole state rests where one seat alone is in it, and that has nothing that waits.
use Rattle.std.proofs.Common.{◌≡◌, ◌≢◌, ⊎_elim, ℕ, zero, suc, ◌<◌, ◌≤◌, true, List, [], ◌∷◌, ◌++◌, length, map, drop, refl, ap, sym, ◌∙◌, subst, arith}
use Rattle.std.specs.Prelude.{slice_index_or}
use Rattle.std.specs.List.{list_all}
use Rattle.std.proofs.lemmas.Bool.{cases_eq, cases_lt}
use Rattle.std.proofs.lemmas.List.{get_or_past, length-map}
use Rattle.law_lesson.specs.plain_state.declared.slot.PlainSlot.{PlainSlot}
use Rattle.law_lesson.specs.plain_state.declared.slot.SlotId.{SlotId}
use Rattle.law_lesson.specs.plain_state.declared.slot.Stage.TheVariants.{Live}
use Rattle.law_lesson.specs.plain_state.Lists.{times}
use Rattle.law_lesson.specs.plain_state.References.{strong_refs}
use Rattle.law_lesson.specs.plain_state.State.{Plain, PlainSeat, new_seat, seat_at, stage_at}
use Rattle.law_lesson.specs.plain_protocol.Owns.{is_alone}
use Rattle.domain_audit.specs.core_events.declared.shape.Shape.{Shape}
use Rattle.domain_audit.specs.core_events.declared.view.CoreView.{CoreView}
use Rattle.domain_audit.specs.core_events.Good.{SeatLaw}
use Rattle.domain_audit.specs.core_events.Runs.{Core, view_at}
use Rattle.domain_audit.specs.core_events.Shows.{show_seat, shows}
use Rattle.domain_audit.specs.core_events.Views.{no_view, snapshots}
use Rattle.domain_audit.specs.core_events.Shows.{filled}
use Rattle.domain_audit.specs.core_events.declared.view.Phase.TheVariants as phase
use Rattle.domain_audit.proofs.Below.core_law_Kit.{one_same, times_cons}
use Rattle.domain_audit.proofs.Below.core_law_Parts.{sound_good}
use Rattle.domain_audit.proofs.Below.core_law_Bridge.{shown_past, shown_seat, shown_stage, shown_strong}
use Rattle.domain_audit.specs.acquire_retire.Domains.{DomainState}
use Rattle.domain_audit.specs.acquire_retire.Seats.{SeatState}
use Rattle.domain_audit.specs.acquire_retire.Wholes.{known_core}
use Rattle.domain_audit.specs.control_word.Resting.{IsAtRest}
use Rattle.domain_audit.specs.Audits.{KnowsLone}
use Rattle.domain_audit.proofs.Below.slot_store_Cycles.{live_counted}
use Rattle.words_rest.specs.words_law.Views.{View}
use Rattle.lane_domain.specs.words_protocol.declared.law.WordsLaw.{WordsLaw}
use Rattle.words_rest.specs.Rest.{IsQuiet, Rests}
use Rattle.lane_reports.proofs.Still.{no_snapshot}

-- a list in which no slot stands has nothing
pub no_times : (ss : List SlotId) → ((s : SlotId) → times s ss ≡ 0) → ss ≡ []
no_times [] none = refl
no_times (s ∷ ss) none =
    let here = none s in
    let all = times_cons s s ss in
    let one = one_same s s refl in absurd (omega (arith, here, all, one))

each_left : (vs : List CoreView) → ((n : ℕ) → n < length vs → (slice_index_or vs n no_view).left ≡ true)
    → list_all (λ (u : PlainSeat). u.left) (map show_seat vs) ≡ true
each_left [] each = refl
each_left (v ∷ vs) each =
    rw (each zero (omega arith)) (each_left vs (λ n h. each (suc n) (omega (arith, h))))

others_left : (vs : List CoreView)
    → ((n : ℕ) → 0 < n → n < length vs → (slice_index_or vs n no_view).left ≡ true)
    → list_all (λ (u : PlainSeat). u.left) (drop 1 (map show_seat vs)) ≡ true
others_left [] each = refl
others_left (v ∷ vs) each =
    each_left vs (λ n h. each (suc n) (omega arith) (omega (arith, h)))

module _ (fits : List ℕ → Type 0) (d : DomainState WordsLaw) (seat : SeatState View)
    (lone : KnowsLone fits d seat) (rest : IsAtRest d seat) where
  abbrev z : Shape
  z = d.shape

  abbrev c : Core
  c = known_core seat.view

  abbrev p : Plain
  p = shows z c

  at_rest : (view_at c 0).phase ≡ phase.Idle
  at_rest = ap (λ (v : CoreView). v.phase) (sym lone.half) ∙ rest.idle.0

  pub alone_in : is_alone p 0 ≡ true
  alone_in = others_left c.views lone.others

  pub own_in : seat_at p 0 ≡ show_seat seat.view.core
  own_in =
      let views = lone.sound.views in
      let some = lone.sound.shape.0 in
      shown_seat z c 0 (omega (arith, views, some)) ∙ ap show_seat (sym lone.half)

  live_held : (s : SlotId) → stage_at p s ≡ Live → 0 < strong_refs p s
  live_held s live = ⊎_elim
      (λ (there : s.0 < z.slots).
      let some = live_counted z c lone.sound lone.others at_rest s there
      (sym (shown_stage z c s there) ∙ live) in
      let count = ((sound_good z c lone.sound).counts s there).strong_count in
      let shown = shown_strong z c s in omega (arith, some, count, shown))
      (λ (past : z.slots ≤ s.0).
      absurd (cc (ap (λ (t : PlainSlot). t.stage) (shown_past z c s past), live)))
      (cases_lt s.0 z.slots)

  -- a seat that has left has nothing
  gone_quiet : (n : ℕ) (v : CoreView) → SeatLaw z n v → v.left ≡ true → IsQuiet (show_seat v)
  gone_quiet n v law left =
      let g = law.gone left in record {
        deferred = (λ i. g.4 i ++ g.3 i);
        snapshots = no_snapshot v g.6;
        dying = g.5;
        filling = ap filled g.0;
        weaks = g.2;
      }

  -- and so owns nothing
  pub others_own : (n : ℕ) → 0 < n → (seat_at p n).owned ≡ []
  others_own n other = ⊎_elim
      (λ (there : n < length c.views).
      let views = lone.sound.views in
      ap (λ (x : PlainSeat). x.owned) (shown_seat z c n there)
      ∙ ((lone.sound.seats n (omega (arith, there, views))).gone (lone.others n other there)).1)
      (λ (past : length c.views ≤ n).
      let many = length-map c.views show_seat in
      ap (λ (x : PlainSeat). x.owned)
      (get_or_past (map show_seat c.views) n new_seat (omega (arith, past, many))))
      (cases_lt n (length c.views))

  module _ (none : snapshots seat.view.core ≡ []) (retired : seat.view.core.retired ≡ [])
      (dying : seat.view.core.dying ≡ [])
      (weaks : (s : SlotId) → times s seat.view.core.weaks ≡ 0) where
    root_quiet : IsQuiet (show_seat seat.view.core)
    root_quiet = record {
      deferred = (λ i. rest.owes_nothing i ++ retired i);
      snapshots = none;
      dying = dying;
      filling = ap filled rest.idle.0;
      weaks = no_times seat.view.core.weaks weaks;
    }

    each_quiet : (n : ℕ) → IsQuiet (seat_at p n)
    each_quiet n = ⊎_elim
        (λ (first : n ≡ 0).
        subst IsQuiet (sym (ap (seat_at p) first ∙ own_in)) root_quiet)
        (λ (other : n ≢ 0). ⊎_elim
        (λ (there : n < length c.views).
        let views = lone.sound.views in
        subst IsQuiet (sym (shown_seat z c n there))
        (gone_quiet n (view_at c n) (lone.sound.seats n (omega (arith, there, views)))
        (lone.others n (omega (arith, other)) there)))
        (λ (past : length c.views ≤ n).
        let many = length-map c.views show_seat in
        subst IsQuiet
        (sym (get_or_past (map show_seat c.views) n new_seat (omega (arith, past, many))))
        (record { deferred = refl; snapshots = refl; dying = refl; filling = refl; weaks = refl }))
        (cases_lt n (length c.views)))
        (cases_eq n 0)

    pub rests : Rests p
    rests = record { seats = each_quiet; live = live_held }
