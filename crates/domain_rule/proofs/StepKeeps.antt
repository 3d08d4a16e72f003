-- A step of a seat, with a deed that is ready for it, keeps the rule.
use Rattle.std.proofs.Common.{◌≡◌, ◌≢◌, ⊎_elim, ℕ, ◌<◌, false, List, [], ◌∷◌, length, get_or, set, refl, ap, sym, ◌∙◌, subst, arith}
use Rattle.std.specs.Prelude.{slice_index, Option, Some, None, IsSome}
use Rattle.std.specs.Option.{option_map}
use Rattle.std.proofs.lemmas.List.{length-map, length-set}
use mathlib.Core.Option.{some}
use lib.ListN.{get_elem?}
use Rattle.atomic_table.specs.Table.{Allows, Me, State, keeps, stepped}
use Rattle.atomic_table.proofs.Lists.{at_set}
use Rattle.plain_protocol.specs.plain_state.declared.act.PlainAct.{PlainAct}
use Rattle.plain_protocol.specs.plain_state.declared.act.PlainAct.TheVariants as plain
use Rattle.plain_protocol.specs.plain_state.declared.slot.SlotId.{SlotId}
use Rattle.plain_protocol.specs.plain_state.Fits.{AllFit}
use Rattle.plain_protocol.specs.plain_state.State.{Plain, slot_at}
use Rattle.plain_protocol.specs.plain_state.Steps.{Does}
use Rattle.plain_protocol.specs.Laws.{Keeps, Meets}
use Rattle.plain_protocol.specs.Owns.{HasSlot, Object, OwnPart, own_part}
use Rattle.plain_protocol.proofs.StepFits.{step_fits}
use Rattle.core_law.specs.core_events.declared.act.Act.{Act}
use Rattle.core_law.specs.core_events.declared.act.Act.TheVariants as act
use Rattle.core_law.specs.core_events.declared.act.Event.{Event}
use Rattle.core_law.specs.core_events.declared.shape.Shape.{Shape}
use Rattle.core_law.specs.core_events.Views.{Terms}
use Rattle.core_law.specs.core_events.declared.view.CoreView.{CoreView}
use Rattle.core_law.specs.core_events.declared.view.Phase.TheVariants as phase
use Rattle.core_law.specs.core_events.Good.{SeatLaw}
use Rattle.core_law.specs.core_events.Runs.{Core, Enabled, after, found, view_at}
use Rattle.core_law.specs.core_events.Shows.{show_seat, shows}
use Rattle.core_law.specs.core_events.ShownSteps.{shown_act, shown_number}
use Rattle.core_law.specs.core_events.Steps.{May, next, place}
use Rattle.core_law.specs.core_events.Views.{slot_of}
use Rattle.core_law.specs.Sound.{Sound}
use Rattle.core_law.proofs.Always.{step_keeps}
use Rattle.core_law.proofs.Trails.{changed_trail}
use Rattle.core_law.proofs.Events.{event_shows}
use Rattle.core_law.proofs.Lawful.{shows_lawful}
use Rattle.domain_rule.specs.declared.view.SeatView.{SeatView}
use Rattle.domain_rule.specs.declared.view.Whole.{Whole}
use Rattle.domain_rule.specs.Rule.{IsTrueOf, Kept, Tells, clients}
use Rattle.domain_rule.specs.Told.{FitsStart, IsOwn, Told, changed_object}
use Rattle.domain_rule.specs.Views.{KnowsAll, core_in, own_of, whole_of}
use Rattle.domain_rule.proofs.Acts.{made_by_start}
use Rattle.domain_rule.proofs.Counting.{others_left}
use Rattle.domain_rule.proofs.Objects.{object_changes}
use Rattle.domain_rule.proofs.Others.{fills_has, has_there, shown_there}
use Rattle.domain_rule.proofs.Owns.{own_told, shown_payload, told_object}
use Rattle.domain_rule.proofs.Padding.{at_less, client_at, clients_length, clients_set}
use Rattle.domain_rule.proofs.Step.{core_after, other_after, other_tells, own_tells, rest_may, stepped_view, views_stay}
use Rattle.domain_rule.proofs.Telling.{goes_on, in_seats, kept_sound, number_of, set_left, set_pasts, true_of}

module _ {V : Type 0} (law : Plain → List V → Type 0) (first : ℕ → V) (gone : V)
    (fits : List ℕ → Type 0) (ready : OwnPart → V → PlainAct → Type 0)
    (next_view : OwnPart → OwnPart → V → PlainAct → ℕ → V) (allows : Plain → Plain → ℕ → V → V → Type 0)
    (keep : Keeps law gone ready next_view allows) where
  -- what the deed owes, where the seat's own part before and after the step and its view are known
  deed_keeps : (p q : Plain) (views : List V) (n : ℕ) (step : PlainAct) (m : ℕ) (o o' : OwnPart)
      (v : V) → Meets law p views → n < length views → own_part p n ≡ o → own_part q n ≡ o'
      → get_or views n gone ≡ v → ready o v step → Does p n step m q
      → law q (set views n (next_view o o' v step m)) × allows p q n v (next_view o o' v step m)
  deed_keeps p q views n step m o o' v meets hn own_is then_is view_is is_ready does =
      subst (λ (x : OwnPart × OwnPart × V). law q (set views n (next_view x.0 x.1 x.2 step m))
      × allows p q n x.2 (next_view x.0 x.1 x.2 step m)) all_are
      (keep p q views n step m meets hn
      (subst (λ (x : OwnPart × OwnPart × V). ready x.0 x.2 step) (sym all_are) is_ready) does)
    where
      all_are : ◌≡◌ {A = OwnPart × OwnPart × V} (own_part p n, own_part q n, get_or views n gone)
          (o, o', v)
      all_are = λ i. (own_is i, then_is i, view_is i)

  module _ (z : Shape) (ts : Terms) (s : State (Unit {0}) (SeatView V))
      (k : Kept law first gone fits z ts s) (n : ℕ) (v : SeatView V)
      (at : get_elem? s.views n ≡ some v) (here : v.gone ≡ false) (knows : KnowsAll v) (a : Act)
      (own : IsOwn a v) (may : May z a v.core) (starts : FitsStart fits a v)
      (is_ready : (w : ℕ) → ready (own_of v) v.client (shown_act z a w v.core)) where
    -- the core before the step and after it
    abbrev c : Core
    c = k.core

    abbrev d : Core
    d = after z k.core n a

    -- the word that the seat finds, and the plain step that it shows
    abbrev w : ℕ
    w = slice_index s.words (place z a v.core)

    abbrev step : PlainAct
    step = shown_act z a (slice_index s.words (place z a v.core)) v.core

    abbrev number : ℕ
    number = shown_number a (slice_index s.words (place z a v.core))

    -- the invariant holds, and the view of the seat is so: the event is enabled, and shows the step
    so : Sound z c
    so = kept_sound z ts s k

    told : IsTrueOf z c n v
    told = true_of z ts s k n v at here

    hn : n < length c.views
    hn = let e = so.views in let l = in_seats z ts s k n v at in omega arith

    on : Enabled z c n a
    on = (hn, subst (May z a) told.core may, rest_may z c n v a told own)

    -- no leave is a step of one seat
    single : (j : ℕ) → a ≡ act.Leave j → ⊥
    single j e = subst (λ (b : Act). IsOwn b v) e own

    found_is : w ≡ found z c n a
    found_is = λ i. slice_index (k.words i) (place z a (told.core i))

    shown : Does (shows z c) n step number (shows z d)
    shown = subst (λ (x : ℕ × CoreView). Does (shows z c) n (shown_act z a x.0 x.1)
        (shown_number a x.0) (shows z d)) (sym same) (event_shows z c n a so on)
      where
        same : ◌≡◌ {A = ℕ × CoreView} (w, v.core) (found z c n a, view_at c n)
        same = λ i. (found_is i, told.core i)

    -- an object that the step makes fits
    made_fits : (x : SlotId) → step ≡ plain.Make x → fits (slot_at (shows z c) x).payload
    made_fits x e =
        let start = made_by_start z w v.core x a e in
        let blank = subst (λ (b : Act). May z b v.core) start.0 may in
        let same : blank.0 ≡ x = cc (ap slot_of blank.1, start.1) in
        let fills : v.core.phase ≡ phase.Blank x = blank.1 ∙ ap phase.Blank same in
        subst fits (ap (λ (o : Object). o.payload) (told.objects x (fills_has x v.core fills)))
        (starts start.0 x fills)

    -- the rule has what the deed asks
    meets : Meets law (shows z c) (clients first z.seats s.views)
    meets = record {
      lawful = shows_lawful z c so;
      count = clients_length first z.seats s.views k.few.1
          ∙ sym (length-map c.views show_seat ∙ so.views);
      law = k.client;
    }

    -- the invariant holds after the step too
    still : Sound z d
    still = step_keeps z c n a so on

    -- the history after the step
    abbrev latest : List Event
    latest = record { seat = n; act = a } ∷ k.events

    -- the seat's own part after the step, whatever its client keeps then
    abbrev own_then : OwnPart
    own_then = own_of (stepped_view z (after z k.core n a) a
        (slice_index s.words (place z a v.core)) latest v.client v)

    -- a seat that is alone then was alone, and knows the whole core still
    knows_then : KnowsAll (stepped_view z d a w latest v.client v)
    knows_then alone =
        let is = core_after z c so n a on single v told w found_is in
        let e = so.views in
        let h = hn in
        let law_then = still.seats n (omega arith) in
        let law_now = so.seats n (omega arith) in
        let number_then = ap (λ (u : CoreView). u.seat) is ∙ law_then.number in
        let number_now = ap (λ (u : CoreView). u.seat) told.core ∙ law_now.number in
        let shape_then = ap (λ (u : CoreView). u.shape.seats) is
        ∙ ap (λ (y : Shape). y.seats) law_then.same_shape in
        let shape_now = ap (λ (u : CoreView). u.shape.seats) told.core
        ∙ ap (λ (y : Shape). y.seats) law_now.same_shape in
        let left = ap length (changed_trail z a w v.core).left_seats in
        let first = alone.0 in
        let all = alone.1 in
        still_known v.whole (knows (omega arith, omega arith))
      where
        still_known : (o : Option Whole) → IsSome o
            → IsSome (option_map (λ all. whole_of (after z (core_in all) v.core.seat a)) o)
        still_known None is = absurd (cc (is))
        still_known (Some all) is = refl

    own_told_then : own_part (shows z d) n ≡ own_then
    own_told_then =
        let l = views_stay z c so n a on single in
        let h = hn in
        own_told z d still n (stepped_view z d a w latest v.client v) (omega arith)
        (own_tells z c so n a on single v told w latest v.client found_is) knows_then
        (others_left z ts latest d k.shape k.terms
        (c, k.history, (on, refl)))

    -- the deed's next view, and what the deed owes of it
    abbrev client' : V
    client' = next_view (own_of v) own_then v.client step number

    owed : law (shows z d) (set (clients first z.seats s.views) n client')
        × allows (shows z c) (shows z d) n v.client client'
    owed =
        let l = clients_length first z.seats s.views k.few.1 in
        let e = so.views in
        let h = hn in
        deed_keeps (shows z c) (shows z d) (clients first z.seats s.views) n step number (own_of v)
        own_then v.client meets (omega arith)
        (own_told z c so n v hn told knows
        (others_left z ts k.events c k.shape k.terms k.history))
        own_told_then
        (client_at first z.seats s.views n v gone at) (is_ready w) shown

    -- the seat's new view, among those of all seats
    abbrev v' : SeatView V
    v' = stepped_view z d a w latest client' v

    tells : (m : ℕ) (u : SeatView V) → get_elem? (set s.views n v') m ≡ some u → Tells z d m u
    tells m u e = ⊎_elim
        (λ (t : (m ≡ n) × (v' ≡ u)).
        subst (λ (x : ℕ × SeatView V). Tells z d x.0 x.1) (λ i. (sym t.0 i, t.1 i))
        (own_tells z c so n a on single v told w latest client' found_is))
        (λ (t : (m ≢ n) × (get_elem? s.views m ≡ some u)).
        let sv = so.views in
        let l = in_seats z ts s k m u t.1 in
        other_tells z c so n a on single m u (omega arith) t.0 (k.tells m u t.1))
        (at_set s.views n m v' u e)

    -- the table after the step: the rule holds of it, and the seat is told of its step
    abbrev after_step : List (ℕ × Unit {0}) → State (Unit {0}) (SeatView V)
    after_step carried = stepped s (place z a v.core) (next a v.core w) n carried v' keeps

    root : (u : SeatView V) → get_elem? (set s.views n v') 0 ≡ some u
        → (u.gone ≡ false) × (u.opened ≡ length (set s.views n v'))
    root u e = ⊎_elim
        (λ (t : (0 ≡ n) × (v' ≡ u)).
        let first_at = subst (λ (m : ℕ). get_elem? s.views m ≡ some v) (sym t.0) at in (
          ap (λ (x : SeatView V). x.gone) (sym t.1),
          ap (λ (x : SeatView V). x.opened) (sym t.1)
              ∙ ((k.root v first_at).1 ∙ sym (length-set s.views n v')),
        ))
        (λ (t : (0 ≢ n) × (get_elem? s.views 0 ≡ some u)).
        let r = k.root u t.1 in (r.0, r.1 ∙ sym (length-set s.views n v')))
        (at_set s.views n 0 v' u e)

    still_fit : AllFit fits (shows z d)
    still_fit = step_fits fits (shows z c) (shows z d) n step number shown made_fits k.fit

    still_kept : (carried : List (ℕ × Unit {0})) → Kept law first gone fits z ts (after_step carried)
    still_kept carried = record {
      shape = k.shape;
      terms = k.terms;
      events = latest;
      core = d;
      history = (c, k.history, (on, refl));
      words = λ i. set (k.words i) (place z a (told.core i))
          (next a (told.core i) (found_is i));
      few = rw (length-set s.views n v') k.few;
      tells = tells;
      pasts = set_pasts s.views n v' k.events latest ([], refl)
          (λ past. goes_on (record { seat = n; act = a }) past k.events) k.pasts;
      left = set_left s.views n v' gone (((λ _. (changed_trail z a w v.core).left ∙ (k.left n v at).0 here), (λ e. absurd (cc (e))))) k.left;
      root = root;
      unopened = λ m le lt.
          let l = length-set s.views n v' in
          let there = at_less s.views n v at in
          other_after z c so n a on single m (omega arith) ∙ k.unopened m (omega arith) lt;
      fit = still_fit;
      client = subst (law (shows z d)) (sym (clients_set first z.seats s.views n v'
          (at_less s.views n v at))) owed.0;
    }

    told_step : Told fits z ts next_view allows a v w v'
    told_step = record {
      core = refl;
      client = refl;
      objects = λ x had. told_object (shows z d) v' x refl
          ∙ (object_changes (shows z c) (shows z d) n x step number
          (shown_there z c so x (there x had)) shown
          ∙ ap (changed_object step x) (sym (told.objects x had)));
      payloads = λ x. ap (λ (o : Object). length o.payload) (told_object (shows z d) v' x refl)
          ∙ shown_payload z d x;
      cleared = refl;
      whole = refl;
      opened = refl;
      left_adds = refl;
      left_makes = refl;
      here = refl;
      law = subst (λ (m : ℕ). SeatLaw z m v'.core) (sym seat_is)
          (subst (SeatLaw z n) (sym (core_after z c so n a on single v told w found_is))
          ((step_keeps z c n a so on).seats n (in_seats z ts s k n v at)));
      happened = record {
        shape = k.shape;
        terms = k.terms;
        events = k.events;
        before = c;
        history = k.history;
        view = subst (λ (m : ℕ). v.core ≡ view_at c m) (sym seat_is) told.core;
        enabled = subst (λ (m : ℕ). Enabled z c m a) (sym seat_is) on;
        found = subst (λ (m : ℕ). w ≡ found z c m a) (sym seat_is) found_is;
        fact = subst (λ (m : ℕ). AllFit fits (shows z c) × AllFit fits (shows z (after z c m a))
            × allows (shows z c) (shows z (after z c m a)) m v.client client') (sym seat_is)
            (k.fit, still_fit, owed.1);
      };
      since = k.pasts n v at;
      past = ap (λ (m : ℕ). record { seat = m; act = a } ∷ k.events) (sym seat_is);
      said = subst (λ (m : ℕ). IsTrueOf z c m v) (sym seat_is) told;
      says = subst (λ (m : ℕ). IsTrueOf z (after z c m a) m v') (sym seat_is)
          (own_tells z c so n a on single v told w latest client' found_is);
    }
      where
        seat_is : v.core.seat ≡ n
        seat_is = number_of z ts s k n v at here

        there : (x : SlotId) → HasSlot (show_seat v.core) x → x.0 < z.slots
        there x had = has_there z c so n x hn
            (subst (λ (u : CoreView). HasSlot (show_seat u) x) told.core had)

  -- whatever the table is, the step keeps the rule
  pub step_allowed : (z : Shape) (ts : Terms) (a : Act) (slots n : ℕ)
      (me : Me (Unit {0}) (SeatView V))
      → me.0.gone ≡ false → KnowsAll me.0 → IsOwn a me.0 → May z a me.0.core → FitsStart fits a me.0
      → ((m : ℕ) → ready (own_of me.0) me.0.client (shown_act z a m me.0.core))
      → Allows (Kept law first gone fits z ts) slots n me (place z a me.0.core) (next a me.0.core)
      (λ m then. Told fits z ts next_view allows a me.0 m then.0 × (then.1 ≡ me.1))
  step_allowed z ts a slots n me here knows own may starts is_ready s k len at small = (
    v' z ts s k n me.0 at here knows a own may starts is_ready,
    keeps,
    tt,
    still_kept z ts s k n me.0 at here knows a own may starts is_ready me.1,
    (told_step z ts s k n me.0 at here knows a own may starts is_ready, refl),
  )
