-- What a look tells a seat that is alone, with the lesson of the law.
use Rattle.std.proofs.Common.{◌≡◌, ⊎_elim, ℕ, zero, suc, ◌+◌, ◌<◌, ◌≤◌, true, List, [], ◌∷◌, ◌++◌, length, map, drop, refl, ap, sym, ◌∙◌, subst, arith}
use Rattle.std.specs.Prelude.{IsSome, Some, slice_index, slice_index_or}
use Rattle.std.specs.List.{list_all}
use Rattle.std.proofs.lemmas.Bool.{cases_lt}
use Rattle.std.proofs.lemmas.List.{get_or_past, length-map}
use Rattle.domain_audit.specs.plain_state.Fits.{AllFit}
use Rattle.domain_audit.specs.plain_state.declared.act.EventPlace.TheVariants.{Cell}
use Rattle.domain_audit.specs.plain_state.declared.slot.PlainSlot.{PlainSlot}
use Rattle.domain_audit.specs.plain_state.declared.slot.SlotId.{SlotId}
use Rattle.domain_audit.specs.plain_state.declared.slot.Stage.TheVariants.{Live}
use Rattle.domain_audit.specs.plain_state.References.{strong_refs}
use Rattle.domain_audit.specs.plain_state.State.{Plain, PlainSeat, new_seat, seat_at, stage_at}
use Rattle.law_lesson.specs.plain_protocol.Owns.{is_alone}
use Rattle.law_lesson.specs.Lessons.{HoldsOf}
use Rattle.domain_audit.specs.core_events.declared.act.Act.{Act}
use Rattle.domain_audit.specs.core_events.declared.act.Act.TheVariants as act
use Rattle.domain_audit.specs.core_events.declared.outcome.Outcome.{Outcome}
use Rattle.domain_audit.specs.core_events.declared.shape.Shape.{Shape}
use Rattle.domain_audit.specs.core_events.declared.view.CoreView.{CoreView}
use Rattle.domain_audit.specs.core_events.declared.view.Phase.TheVariants as phase
use Rattle.domain_audit.specs.core_events.Good.{SeatLaw}
use Rattle.domain_audit.specs.core_events.Runs.{Core, after, view_at}
use Rattle.domain_audit.specs.core_events.Shows.{show_seat, shows}
use Rattle.domain_audit.specs.core_events.Steps.{HasRoom}
use Rattle.domain_audit.specs.core_events.Views.{no_view}
use Rattle.domain_audit.specs.core_events.Words.{cell_at, slot_in}
use Rattle.domain_audit.specs.core_law.Sound.{Sound}
use Rattle.domain_audit.specs.domain_rule.Rule.{OthersLeft}
use Rattle.domain_audit.specs.domain_rule.Views.{IsAlone, own_of}
use Rattle.domain_audit.specs.acquire_retire.Calls.{Steps, same_view}
use Rattle.domain_audit.specs.acquire_retire.Collecting.{move}
use Rattle.domain_audit.specs.acquire_retire.Domains.{DomainState}
use Rattle.domain_audit.specs.acquire_retire.Seats.{SeatState}
use Rattle.domain_audit.specs.acquire_retire.Wholes.{known_core}
use Rattle.domain_audit.specs.control_word.Moves.{Becomes}
use Rattle.domain_audit.specs.control_word.Resting.{IsAtRest}
use Rattle.domain_audit.specs.Audits.{KnowsLone}
use Rattle.domain_audit.proofs.Learning.{knows_shown}
use Rattle.domain_audit.proofs.Below.core_law_Bridge.{shown_past, shown_seat, shown_stage, shown_strong}
use Rattle.domain_audit.proofs.Below.core_law_Each.{length_each}
use Rattle.domain_audit.proofs.Below.core_law_Events.{event_shows}
use Rattle.domain_audit.proofs.Below.core_law_Parts.{sound_good}
use Rattle.domain_audit.proofs.Below.control_word_Becoming.{one_step, rest_after}
use Rattle.domain_audit.proofs.Below.control_word_Finding.{sound_before}
use Rattle.domain_audit.proofs.Below.slot_store_Cycles.{live_counted}
use Rattle.domain_audit.proofs.Below.slot_store_Objects.{known_after, known_before, known_still, some_value, sound_later}
use Rattle.slot_store.proofs.Below.core_law_Lawful.{shows_lawful}
use Rattle.seat_life.specs.Free.{IsFree}
use Rattle.seat_life.specs.Learning.{HasNothing, KnowsLaw, but_for_trail}

-- what the deed tells of a step
abbrev pub Lesson : {V : Type 0} → (Plain → List V → Type 0) → V → Plain → Plain → ℕ → V → V → Type 0
Lesson law gone p q n v w = (w ≡ v) × HoldsOf law gone p n v

-- SEATS THAT LEFT
each_left : (vs : List CoreView) → ((n : ℕ) → n < length vs → (slice_index_or vs n no_view).left ≡ true)
    → list_all (λ (u : PlainSeat). u.left) (map show_seat vs) ≡ true
each_left [] each = refl
each_left (v ∷ vs) each =
    rw (each zero (omega arith)) (each_left vs (λ n h. each (suc n) (omega (arith, h))))

others_left : (vs : List CoreView)
    → ((n : ℕ) → 0 < n → n < length vs → (slice_index_or vs n no_view).left ≡ true)
    → list_all (λ (u : PlainSeat). u.left) (drop 1 (map show_seat vs)) ≡ true
others_left [] each = refl
others_left (v ∷ vs) each =
    each_left vs (λ n h. each (suc n) (omega arith) (omega (arith, h)))

gone_nothing : (z : Shape) (n : ℕ) (v : CoreView) → SeatLaw z n v → v.left ≡ true → HasNothing (show_seat v)
gone_nothing z n v law left =
    let g = law.gone left in
    record { owned = g.1; deferred = (λ i. g.4 i ++ g.3 i); dying = g.5 }

others_nothing : (z : Shape) (c : Core) → Sound z c → OthersLeft c → (n : ℕ) → 0 < n
    → HasNothing (seat_at (shows z c) n)
others_nothing z c sound others n other = ⊎_elim
    (λ (there : n < length c.views).
    let views = sound.views in
    subst HasNothing (sym (shown_seat z c n there))
    (gone_nothing z n (view_at c n) (sound.seats n (omega (arith, there, views))) (others n other there)))
    (λ (past : length c.views ≤ n).
    let many = length-map c.views show_seat in
    subst HasNothing (sym (get_or_past (map show_seat c.views) n new_seat (omega (arith, past, many))))
    (record { owned = refl; deferred = refl; dying = refl }))
    (cases_lt n (length c.views))

-- THE STATE of a seat that is alone and at rest
module _ {P V : Type 0} (fits : List ℕ → Type 0) (d : DomainState P) (seat : SeatState V)
    (lone : KnowsLone fits d seat) (rest : IsAtRest d seat) where
  abbrev c : Core
  c = known_core seat.view

  at_rest : (view_at c 0).phase ≡ phase.Idle
  at_rest = ap (λ (v : CoreView). v.phase) (sym lone.half) ∙ rest.idle.0

  alone_in : is_alone (shows d.shape c) 0 ≡ true
  alone_in = others_left c.views lone.others

  own_in : seat_at (shows d.shape c) 0 ≡ show_seat seat.view.core
  own_in =
      let views = lone.sound.views in
      let some = lone.sound.shape.0 in
      shown_seat d.shape c 0 (omega (arith, views, some)) ∙ ap show_seat (sym lone.half)

  live_held : (s : SlotId) → stage_at (shows d.shape c) s ≡ Live → 0 < strong_refs (shows d.shape c) s
  live_held s live = ⊎_elim
      (λ (there : s.0 < d.shape.slots).
      let some = live_counted d.shape c lone.sound lone.others at_rest s there
      (sym (shown_stage d.shape c s there) ∙ live) in
      let count = ((sound_good d.shape c lone.sound).counts s there).strong_count in
      let shown = shown_strong d.shape c s in omega (arith, some, count, shown))
      (λ (past : d.shape.slots ≤ s.0).
      absurd (cc (ap (λ (t : PlainSlot). t.stage) (shown_past d.shape c s past), live)))
      (cases_lt s.0 d.shape.slots)

-- THE LOOK
module _ {P V : Type 0} (fits : List ℕ → Type 0) (law : Plain → List V → Type 0) (gone : V)
    (d : DomainState P) (cell : ℕ) (old new : SeatState V) (o : Outcome)
    (step : Steps fits d same_view (Lesson law gone) (act.Look (Cell cell)) old new o)
    (free : IsFree d old) (alone : IsAlone old.view) (known : IsSome old.view.whole) where
  abbrev looks : Act
  looks = act.Look (Cell cell)

  by : Becomes fits d same_view (Lesson law gone) (move looks o ∷ []) old.view.core old new
  by = one_step d looks old new o step.word old.view.core step (sym step.answers) refl refl

  learn_rest : IsAtRest d new
  learn_rest = rest_after d (move looks o ∷ []) old.view.core old new by refl free.rest

  pub same_core : but_for_trail new.view.core ≡ but_for_trail old.view.core
  same_core = ap but_for_trail by.core

  pub learn_free : IsFree d new
  learn_free = record {
    rest = learn_rest;
    notes = ap (λ (v : CoreView). v.notes) by.core ∙ free.notes;
    room = subst HasRoom (sym by.core) free.room;
  }

  pub learn_alone : IsAlone new.view
  learn_alone =
      subst (λ (v : CoreView). (v.seat ≡ 0) × (length v.left_seats + 1 ≡ v.shape.seats))
      (sym by.core) alone

  abbrev before : Core
  before = step.told.happened.before

  now : known_core new.view ≡ after d.shape before old.view.core.seat looks
  now = known_after step.told known

  still : shows d.shape (known_core new.view) ≡ shows d.shape before
  still =
      let h = step.told.happened in
      ap (shows d.shape) now
      ∙ (event_shows d.shape before old.view.core.seat looks (sound_before step.told)
      h.enabled).1.2

  knows_new : IsSome new.view.whole
  knows_new = known_still step.told known

  shown_new : (own_of new.view).whole ≡ Some (shows d.shape (known_core new.view))
  shown_new = knows_shown d.shape new.view learn_rest.of_domain.1 knows_new

  pub same_whole : (own_of new.view).whole ≡ (own_of old.view).whole
  same_whole =
      shown_new
      ∙ ap Some (still ∙ sym (ap (shows d.shape) (known_before step.told known)))
      ∙ sym (knows_shown d.shape old.view free.rest.of_domain.1 known)

  lone_new : KnowsLone fits d new
  lone_new = record {
    known = knows_new;
    sound = subst (Sound d.shape) (sym now) (sound_later step.told);
    half = step.told.says.core ∙ (λ i. view_at (sym now i) (alone.0 i));
    others = let all = some_value new.view.whole knows_new in
        subst OthersLeft (sym now) (step.told.says.whole all.0 all.1).2;
    fit = subst (λ (c : Core). AllFit fits (shows d.shape c)) (sym now)
        step.told.happened.fact.1;
  }

  pub knows_law : KnowsLaw fits law gone new.view
  knows_law = record {
    state = shows d.shape (known_core new.view);
    knows = record {
      whole = shown_new;
      lawful = shows_lawful d.shape (known_core new.view) lone_new.sound;
      fit = lone_new.fit;
    };
    holds = subst (λ (x : Plain × ℕ × V). HoldsOf law gone x.0 x.1 x.2)
        (λ i. (sym still i, alone.0 i, sym step.told.client i)) step.told.happened.fact.2.1;
    cells = length_each 0 d.shape.cells
        (λ i. slot_in (slice_index (known_core new.view).words (cell_at d.shape i)))
        ∙ sym (ap (λ (z : Shape). z.cells) learn_rest.of_domain.1);
    alone = alone_in fits d new lone_new learn_rest;
    own = own_in fits d new lone_new learn_rest;
    others = others_nothing d.shape (known_core new.view) lone_new.sound lone_new.others;
    live = live_held fits d new lone_new learn_rest;
  }
