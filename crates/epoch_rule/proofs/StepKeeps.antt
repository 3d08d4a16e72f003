-- A step of a seat, with a deed that is ready for it, keeps the rule.
use Rattle.std.proofs.Common.{◌≡◌, ◌≢◌, ⊎_elim, ℕ, ◌<◌, Bool, true, false, List, [], ◌∷◌, length, set, refl, ap, sym, ◌∙◌, subst, arith}
use Rattle.std.specs.Prelude.{slice_index, if◌then◌else◌}
use Rattle.std.proofs.lemmas.List.{length-map, length-set}
use mathlib.Core.Option.{some}
use lib.ListN.{get_elem?}
use Rattle.atomic_table.specs.Table.{Allows, Me, State, keeps, stepped}
use Rattle.atomic_table.proofs.Lists.{at_set}
use Rattle.plain_protocol.specs.plain_state.declared.act.PlainAct.{PlainAct}
use Rattle.plain_protocol.specs.plain_state.declared.act.PlainAct.TheVariants as plain
use Rattle.plain_protocol.specs.plain_state.declared.slot.SlotId.{SlotId}
use Rattle.plain_protocol.specs.plain_state.Fits.{AllFit}
use Rattle.plain_protocol.specs.plain_state.State.{Plain, slot_at}
use Rattle.plain_protocol.specs.Laws.{Keeps, KeptByCalm, Meets}
use Rattle.plain_protocol.specs.Owns.{HasSlot, Object, OwnPart, own_part}
use Rattle.epoch_core.specs.declared.act.EpochAct.{EpochAct}
use Rattle.epoch_core.specs.declared.act.EpochAct.TheVariants as act
use Rattle.epoch_core.specs.declared.act.EpochEvent.{EpochEvent}
use Rattle.epoch_core.specs.declared.shape.EpochShape.{EpochShape}
use Rattle.core_law.specs.core_events.declared.shape.Quota.{Quota}
use Rattle.epoch_core.specs.declared.view.EpochView.{EpochView}
use Rattle.epoch_core.specs.declared.view.EpochPhase.TheVariants as phase
use Rattle.epoch_core.specs.Runs.{Core, Enabled, after, found, view_at}
use Rattle.epoch_core.specs.Shows.{show_seat, shows}
use Rattle.epoch_core.specs.ShownSteps.{PlainStep}
use Rattle.epoch_core.specs.Steps.{May, next, place}
use Rattle.epoch_core.specs.Views.{slot_of}
use Rattle.epoch_core.specs.Sound.{SeatLaw, Sound}
use Rattle.epoch_core.proofs.Keeps.{step_keeps}
use Rattle.epoch_core.proofs.ShownEvents.{event_shows}
use Rattle.epoch_core.proofs.Lawful.{shows_lawful, shows_sound}
use Rattle.epoch_rule.specs.declared.view.EpochSeatView.{EpochSeatView}
use Rattle.epoch_rule.specs.Rule.{IsTrueOf, Kept, Tells, clients}
use Rattle.domain_rule.specs.Told.{changed_object}
use Rattle.epoch_rule.specs.Told.{FitsStart, IsOwn, Told, deed_step, is_change, object_step}
use Rattle.epoch_rule.specs.Views.{KnowsAll, own_of}
use Rattle.epoch_rule.proofs.Counting.{others_left}
use Rattle.epoch_rule.proofs.Deeds.{path_fits, path_keeps}
use Rattle.epoch_rule.proofs.Others.{fills_has, has_there, shown_there}
use Rattle.epoch_rule.proofs.Owns.{own_told, shown_payload, told_object}
use Rattle.domain_rule.proofs.Padding.{at_less}
use Rattle.epoch_rule.proofs.Padding.{client_at, clients_length, clients_set}
use Rattle.epoch_rule.proofs.Paths.{Path, made_by_start, shown_path}
use Rattle.epoch_rule.proofs.Step.{core_after, knows_after, other_tells, own_tells, rest_may, stepped_view}
use Rattle.epoch_rule.proofs.Telling.{goes_on, in_seats, kept_sound, number_of, set_left, set_pasts, true_of}
use Rattle.epoch_rule.proofs.Views.{changed_left, enabled_seat, other_after, views_stay}

module _ {V : Type 0} (law : Plain → List V → Type 0) (first : ℕ → V) (gone : V)
    (fits : List ℕ → Type 0) (ready : OwnPart → V → PlainAct → Type 0)
    (next_view : OwnPart → OwnPart → V → PlainAct → ℕ → V)
    (allows : Plain → Plain → ℕ → V → V → Type 0)
    (keep : Keeps law gone ready next_view allows) (calm : KeptByCalm law) where
  module _ (z : EpochShape) (qs : List Quota) (s : State (Unit {0}) (EpochSeatView V))
      (k : Kept law first gone fits z qs s) (n : ℕ) (v : EpochSeatView V)
      (at : get_elem? s.views n ≡ some v) (here : v.gone ≡ false) (knows : KnowsAll v)
      (a : EpochAct) (own : IsOwn a v) (may : May z a v.core) (starts : FitsStart fits a v)
      (is_ready : (w : ℕ) → ready (own_of v) v.client (deed_step a w v.core).0) where
    -- the core before the step and after it
    abbrev c : Core
    c = k.core

    abbrev d : Core
    d = after z k.core n a

    -- the word that the seat finds, and the plain step that its deed is told of
    abbrev w : ℕ
    w = slice_index s.words (place z a v.core)

    abbrev deed : PlainStep
    deed = deed_step a (slice_index s.words (place z a v.core)) v.core

    -- the invariant holds, and the view of the seat is so: the event is enabled, and shows its steps
    so : Sound z c
    so = kept_sound z qs s k

    told : IsTrueOf z c n v
    told = true_of z qs s k n v at here

    hn : n < length c.views
    hn = let e = so.views in let l = in_seats z qs s k n v at in omega arith

    on : Enabled z c n a
    on = (hn, subst (May z a) told.core may, rest_may z c n v a told own)

    -- no leave is a step of one seat
    single : (j : ℕ) → a ≡ act.Leave j → ⊥
    single j e = subst (λ (b : EpochAct). IsOwn b v) e own

    found_is : w ≡ found z c n a
    found_is = λ i. slice_index (k.words i) (place z a (told.core i))

    path : Path n (shows z c) (shows z d) deed (is_change a) (object_step a v.core)
    path = subst (λ (x : ℕ × EpochView). Path n (shows z c) (shows z d) (deed_step a x.0 x.1)
        (is_change a) (object_step a x.1)) (sym same)
        (shown_path n (shows z c) (shows z d) (enabled_seat z c n a so on) a (found z c n a)
        (view_at c n) single (event_shows z c n a so on))
      where
        same : ◌≡◌ {A = ℕ × EpochView} (w, v.core) (found z c n a, view_at c n)
        same = λ i. (found_is i, told.core i)

    -- an object that the step makes fits
    made_fits : (x : SlotId) → deed.0 ≡ plain.Make x → fits (slot_at (shows z c) x).payload
    made_fits x e =
        let start = made_by_start a w v.core x e in
        let blank = subst (λ (b : EpochAct). May z b v.core) start.0 may in
        let same : blank.0 ≡ x = cc (ap slot_of blank.1, start.1) in
        let fills : v.core.phase ≡ phase.Blank x = blank.1 ∙ ap phase.Blank same in
        subst fits (ap (λ (o : Object). o.payload) (told.objects x (fills_has x v.core fills)))
        (starts start.0 x fills)

    -- the seats of the plain state
    seats_shown : (e : Core) → Sound z e → length (shows z e).seats ≡ z.seats
    seats_shown e sound = length-map e.views show_seat ∙ sound.views

    -- the rule has what the deed asks
    meets : Meets law (shows z c) (clients first z.seats s.views)
    meets = record {
      lawful = shows_lawful z c so;
      count = clients_length first z.seats s.views k.few.1 ∙ sym (seats_shown c so);
      law = k.client;
    }

    -- the invariant holds after the step too
    still : Sound z d
    still = step_keeps z c n a so on

    -- the history after the step
    abbrev latest : List EpochEvent
    latest = record { seat = n; act = a } ∷ k.events

    -- the seat's view after the step, whatever its client keeps then
    abbrev next_seat : EpochSeatView V
    next_seat = stepped_view z (after z k.core n a) a (slice_index s.words (place z a v.core))
        latest v.client v

    -- the seat's own part after the step that its deed is told of
    abbrev own_then : OwnPart
    own_then = if is_change a then own_of next_seat else own_of v

    own_now : own_part (shows z c) n ≡ own_of v
    own_now = own_told z c so n v hn told knows
        (others_left z qs k.events c k.shape k.quotas k.history)

    own_after : own_part (shows z d) n ≡ own_of next_seat
    own_after =
        let l = views_stay z c n a hn single in
        let h = hn in
        own_told z d still n (stepped_view z d a w latest v.client v) (omega arith)
        (own_tells z c so n a on single v told w latest v.client found_is)
        (knows_after z c so n a on single v told w latest v.client found_is knows)
        (others_left z qs latest d k.shape k.quotas (c, k.history, (on, refl)))

    own_mid : own_part (if is_change a then shows z d else shows z c) n ≡ own_then
    own_mid = go (is_change a)
      where
        go : (b : Bool) → own_part (if b then shows z d else shows z c) n
            ≡ (if b then own_of next_seat else own_of v)
        go true = own_after
        go false = own_now

    -- the client's view, and what the deed owes of it
    abbrev client' : V
    client' = next_view (own_of v) own_then v.client deed.0 deed.1

    owed : Meets law (shows z d) (set (clients first z.seats s.views) n client')
        × allows (shows z c) (if is_change a then shows z d else shows z c) n v.client client'
    owed =
        let l = clients_length first z.seats s.views k.few.1 in
        let e = so.views in
        let h = hn in
        path_keeps law gone ready next_view allows keep calm n (shows z c) (shows z d) deed
        (is_change a) (object_step a v.core) path (shows_sound z c so)
        (seats_shown d still ∙ sym (seats_shown c so)) (clients first z.seats s.views) (own_of v)
        own_then v.client meets (omega arith) own_now own_mid
        (client_at first z.seats s.views n v gone at) (is_ready w)

    -- the seat's new view, among those of all seats
    abbrev v' : EpochSeatView V
    v' = stepped_view z d a w latest client' v

    tells : (m : ℕ) (u : EpochSeatView V) → get_elem? (set s.views n v') m ≡ some u → Tells z d m u
    tells m u e = ⊎_elim
        (λ (t : (m ≡ n) × (v' ≡ u)).
        subst (λ (x : ℕ × EpochSeatView V). Tells z d x.0 x.1) (λ i. (sym t.0 i, t.1 i))
        (own_tells z c so n a on single v told w latest client' found_is))
        (λ (t : (m ≢ n) × (get_elem? s.views m ≡ some u)).
        let sv = so.views in
        let l = in_seats z qs s k m u t.1 in
        other_tells z c so n a on single m u (omega arith) t.0 (k.tells m u t.1))
        (at_set s.views n m v' u e)

    -- the table after the step: the rule holds of it, and the seat is told of its step
    abbrev after_step : List (ℕ × Unit {0}) → State (Unit {0}) (EpochSeatView V)
    after_step carried = stepped s (place z a v.core) (next a v.core w) n carried v' keeps

    root : (u : EpochSeatView V) → get_elem? (set s.views n v') 0 ≡ some u
        → (u.gone ≡ false) × (u.opened ≡ length (set s.views n v'))
    root u e = ⊎_elim
        (λ (t : (0 ≡ n) × (v' ≡ u)).
        let first_at = subst (λ (m : ℕ). get_elem? s.views m ≡ some v) (sym t.0) at in (
          ap (λ (x : EpochSeatView V). x.gone) (sym t.1),
          ap (λ (x : EpochSeatView V). x.opened) (sym t.1)
              ∙ ((k.root v first_at).1 ∙ sym (length-set s.views n v')),
        ))
        (λ (t : (0 ≢ n) × (get_elem? s.views 0 ≡ some u)).
        let r = k.root u t.1 in (r.0, r.1 ∙ sym (length-set s.views n v')))
        (at_set s.views n 0 v' u e)

    still_fit : AllFit fits (shows z d)
    still_fit = path_fits fits n (shows z c) (shows z d) deed (is_change a) (object_step a v.core) path
        made_fits k.fit

    still_kept : (carried : List (ℕ × Unit {0})) → Kept law first gone fits z qs (after_step carried)
    still_kept carried = record {
      shape = k.shape;
      quotas = k.quotas;
      events = latest;
      core = d;
      history = (c, k.history, (on, refl));
      words = λ i. set (k.words i) (place z a (told.core i))
          (next a (told.core i) (found_is i));
      few = rw (length-set s.views n v') k.few;
      tells = tells;
      pasts = set_pasts s.views n v' k.events latest ([], refl)
          (λ past. goes_on (record { seat = n; act = a }) past k.events) k.pasts;
      left = set_left s.views n v' gone
          ((λ _. (changed_left z a w v.core).left ∙ (k.left n v at).0 here), (λ e. absurd (cc (e))))
          k.left;
      root = root;
      unopened = λ m le lt.
          let l = length-set s.views n v' in
          let there = at_less s.views n v at in
          other_after z c n a hn single m (omega arith) ∙ k.unopened m (omega arith) lt;
      fit = still_fit;
      client = subst (law (shows z d)) (sym (clients_set first z.seats s.views n v'
          (at_less s.views n v at))) owed.0.law;
    }

    told_step : Told fits z qs next_view allows a v w v'
    told_step = record {
      core = refl;
      client = refl;
      objects = λ x had. told_object (shows z d) v' x refl
          ∙ (path.objects x (shown_there z c so x (there x had))
          ∙ ap (changed_object (object_step a v.core) x) (sym (told.objects x had)));
      payloads = λ x. ap (λ (o : Object). length o.payload) (told_object (shows z d) v' x refl)
          ∙ shown_payload z d x;
      cleared = refl;
      whole = refl;
      opened = refl;
      left_adds = refl;
      left_makes = refl;
      here = refl;
      law = subst (λ (m : ℕ). SeatLaw z m v'.core) (sym seat_is)
          (subst (SeatLaw z n) (sym (core_after z c so n a on single v told w found_is))
          ((step_keeps z c n a so on).seats n (in_seats z qs s k n v at)));
      happened = record {
        shape = k.shape;
        quotas = k.quotas;
        events = k.events;
        before = c;
        history = k.history;
        view = subst (λ (m : ℕ). v.core ≡ view_at c m) (sym seat_is) told.core;
        enabled = subst (λ (m : ℕ). Enabled z c m a) (sym seat_is) on;
        found = subst (λ (m : ℕ). w ≡ found z c m a) (sym seat_is) found_is;
        fact = subst (λ (m : ℕ). AllFit fits (shows z c) × AllFit fits (shows z (after z c m a))
            × allows (shows z c) (if is_change a then shows z (after z c m a) else shows z c) m
            v.client client') (sym seat_is)
            (k.fit, still_fit, owed.1);
      };
      since = k.pasts n v at;
      past = ap (λ (m : ℕ). record { seat = m; act = a } ∷ k.events) (sym seat_is);
      said = subst (λ (m : ℕ). IsTrueOf z c m v) (sym seat_is) told;
      says = subst (λ (m : ℕ). IsTrueOf z (after z c m a) m v') (sym seat_is)
          (own_tells z c so n a on single v told w latest client' found_is);
    }
      where
        seat_is : v.core.seat ≡ n
        seat_is = number_of z qs s k n v at here

        there : (x : SlotId) → HasSlot (show_seat v.core) x → x.0 < z.slots
        there x had = has_there z c so n x hn
            (subst (λ (u : EpochView). HasSlot (show_seat u) x) told.core had)

  -- whatever the table is, the step keeps the rule
  pub step_allowed : (z : EpochShape) (qs : List Quota) (a : EpochAct) (slots n : ℕ)
      (me : Me (Unit {0}) (EpochSeatView V))
      → me.0.gone ≡ false → KnowsAll me.0 → IsOwn a me.0 → May z a me.0.core → FitsStart fits a me.0
      → ((m : ℕ) → ready (own_of me.0) me.0.client (deed_step a m me.0.core).0)
      → Allows (Kept law first gone fits z qs) slots n me (place z a me.0.core) (next a me.0.core)
      (λ m after_it. Told fits z qs next_view allows a me.0 m after_it.0 × (after_it.1 ≡ me.1))
  step_allowed z qs a slots n me here knows own may starts is_ready s k len at small = (
    v' z qs s k n me.0 at here knows a own may starts is_ready,
    keeps,
    tt,
    still_kept z qs s k n me.0 at here knows a own may starts is_ready me.1,
    (told_step z qs s k n me.0 at here knows a own may starts is_ready, refl),
  )
