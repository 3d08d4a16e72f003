-- Seat 0 keeps the rule where it takes over what another seat has, and that seat leaves.
use Rattle.std.proofs.Common.{◌≡◌, ◌≢◌, ⊎_elim, ℕ, ◌<◌, ◌≤◌, Bool, true, false, List, ◌∷◌, length, set, refl, ap, sym, ◌∙◌, subst, arith}
use Rattle.std.specs.Prelude.{slice_index, if◌then◌else◌}
use Rattle.std.proofs.lemmas.List.{length-set, length-map, set-get_or}
use Rattle.std.proofs.lemmas.Bool.{cases_lt}
use mathlib.Core.Option.{some}
use lib.ListN.{get_elem?}
use Rattle.atomic_table.specs.Table.{State, Joins}
use Rattle.atomic_table.proofs.Lists.{set_else}
use Rattle.plain_protocol.specs.plain_state.declared.act.PlainAct.TheVariants as plain
use Rattle.plain_protocol.specs.plain_state.declared.act.EventPlace.{EventPlace}
use Rattle.plain_protocol.specs.plain_state.declared.slot.SlotId.{SlotId}
use Rattle.plain_protocol.specs.plain_state.State.{Plain, slot_at}
use Rattle.plain_protocol.specs.plain_state.Steps.{Does}
use Rattle.plain_protocol.specs.Laws.{Meets, KeptByLeave}
use Rattle.plain_protocol.specs.Owns.{Object, object_of, has_slot, HasSlot}
use Rattle.plain_protocol.proofs.StepFits.{step_fits}
use Rattle.core_law.specs.core_events.declared.shape.Quota.{Quota}
use Rattle.core_law.proofs.Kit.{times_append}
use Rattle.epoch_core.specs.declared.act.EpochAct.TheVariants as act
use Rattle.epoch_core.specs.declared.act.EpochEvent.{EpochEvent}
use Rattle.epoch_core.specs.declared.outcome.EpochOutcome.TheVariants as outcome
use Rattle.epoch_core.specs.declared.shape.EpochShape.{EpochShape}
use Rattle.epoch_core.specs.declared.view.EpochView.{EpochView}
use Rattle.epoch_core.specs.Steps.{CanLeave, noted}
use Rattle.epoch_core.specs.Runs.{Core, view_at, taken_over, left_behind, Enabled, after}
use Rattle.epoch_core.specs.Shows.{show_seat, shows}
use Rattle.epoch_core.specs.Sound.{Sound}
use Rattle.epoch_core.proofs.Bridge.{shown_past}
use Rattle.epoch_core.proofs.Lawful.{shows_lawful}
use Rattle.epoch_core.proofs.ShownLeaves.{leave_shows}
use Rattle.domain_rule.specs.declared.view.Known.{Known}
use Rattle.domain_rule.specs.Opening.{same_object}
use Rattle.domain_rule.specs.Views.{Stands}
use Rattle.domain_rule.proofs.Leaves.{known_once}
use Rattle.domain_rule.proofs.Padding.{at_less}
use Rattle.domain_rule.proofs.Telling.{set_all}
use Rattle.epoch_rule.specs.declared.view.EpochSeatView.{EpochSeatView}
use Rattle.epoch_rule.specs.Opening.{joined_view, gone_view}
use Rattle.epoch_rule.specs.Rule.{IsCleared, IsTrueOf, Tells, Kept, clients}
use Rattle.epoch_rule.specs.Views.{object_in}
use Rattle.epoch_rule.proofs.Merged.{cleared_moves, merged_at, merged_past, other_has, stands_in}
use Rattle.epoch_rule.proofs.Padding.{clients_length, client_at, clients_set}
use Rattle.epoch_rule.proofs.Telling.{from_nothing, goes_on, kept_sound, in_seats, true_of, number_of, is_root, set_left, set_pasts, tells_here, tells_again}
use Rattle.epoch_rule.proofs.Views.{gone_after, rest_after, root_after}

module _ {V : Type 0} (law : Plain → List V → Type 0) (first : ℕ → V) (fits : List ℕ → Type 0)
    (z : EpochShape) (qs : List Quota) (joined : V → V → V) (gone : V)
    (leave : KeptByLeave law joined gone) (id other : ℕ) (v w : EpochSeatView V)
    (here : v.gone ≡ false) (there : w.gone ≡ false) (root : v.core.seat ≡ 0)
    (can0 : CanLeave v.core) (canj : CanLeave w.core) where
  abbrev both : EpochSeatView V
  both = joined_view joined v w

  module _ (s : State (Unit {0}) (EpochSeatView V)) (k : Kept law first gone fits z qs s)
      (at : get_elem? s.views id ≡ some v) (apart : ¬ (other ≡ id))
      (at' : get_elem? (set s.views id both) other ≡ some w) where
    abbrev c : Core
    c = k.core

    abbrev d : Core
    d = after z k.core 0 (act.Leave other)

    abbrev views : List (EpochSeatView V)
    views = set (set s.views id both) other (gone_view gone)

    so : Sound z k.core
    so = kept_sound z qs s k

    first_seat : id ≡ 0
    first_seat = is_root z qs s k id v at here root

    not_root : other ≢ 0
    not_root e = apart (e ∙ sym first_seat)

    at0 : get_elem? s.views 0 ≡ some v
    at0 = subst (λ (n : ℕ). get_elem? s.views n ≡ some v) first_seat at

    atj : get_elem? s.views other ≡ some w
    atj = sym (set_else s.views id other both apart) ∙ at'

    hj : other < z.seats
    hj = in_seats z qs s k other w atj

    true0 : IsTrueOf z k.core 0 v
    true0 = true_of z qs s k 0 v at0 here

    truej : IsTrueOf z k.core other w
    truej = true_of z qs s k other w atj there

    root_can : CanLeave (view_at k.core 0)
    root_can = subst CanLeave true0.core can0

    other_can : CanLeave (view_at k.core other)
    other_can = subst CanLeave truej.core canj

    on : Enabled z k.core 0 (act.Leave other)
    on =
        let h = so.shape.0 in
        let sv = so.views in (
          omega arith,
          ((so.seats 0 (omega arith)).number, not_root, hj, root_can),
          other_can,
        )

    does : Does (shows z k.core) 0 (plain.Leave other) 0 (shows z d)
    does = leave_shows z k.core 0 other so on

    -- a leave changes no slot
    slot_same : (x : SlotId) → slot_at (shows z k.core) x ≡ slot_at (shows z d) x
    slot_same x = ap (λ (p : Plain). slot_at p x) (sym does.1.8)

    -- who is who in the new views
    root_core : both.core ≡ view_at d 0
    root_core =
        let n = number_of z qs s k other w atj there in
        sym (root_after z k.core so other not_root hj
        ∙ λ i. noted (act.Leave (sym n i)) outcome.Plain
        (taken_over (sym true0.core i) (sym truej.core i)))

    other_core : view_at d other ≡ left_behind (view_at k.core other)
    other_core = gone_after z k.core so other not_root hj

    rest_core : (n : ℕ) → n ≢ 0 → n ≢ other → view_at d n ≡ view_at k.core n
    rest_core = rest_after z k.core so other not_root hj

    -- what seat 0 has of each slot's object is so
    root_objects : (x : SlotId) → HasSlot (show_seat both.core) x
        → object_in both x ≡ object_of (slot_at (shows z d) x)
    root_objects x has = ⊎_elim
        (λ (lt : x.0 < z.slots). ap object (merged_at v w z shape x lt)
        ∙ (go (has_slot (show_seat v.core) x) refl
        ∙ ap object_of (slot_same x)))
        (λ (le : z.slots ≤ x.0). ap object (merged_past v w z shape x le)
        ∙ ap object_of (sym (shown_past z d x le)))
        (cases_lt x.0 z.slots)
      where
        object : Known → Object
        object o = record { life = o.life; payload = o.payload }

        shape : v.core.shape ≡ z
        shape =
            let h = so.shape.0 in
            ap (λ (u : EpochView). u.shape) true0.core ∙ (so.seats 0 (omega arith)).same_shape

        held : Object
        held = object_of (slot_at (shows z k.core) x)

        two : (b : Bool) → has_slot (show_seat w.core) x ≡ b → HasSlot (show_seat v.core) x
            → (if b then same_object (object_in v x) (object_in w x) else object_in v x) ≡ held
        two true is mine =
            (λ i. same_object (true0.objects x mine i) (truej.objects x is i)) ∙ known_once held held refl
        two false is mine = true0.objects x mine

        go : (b : Bool) → has_slot (show_seat v.core) x ≡ b
            → (if b then (if has_slot (show_seat w.core) x
            then same_object (object_in v x) (object_in w x) else object_in v x)
            else object_in w x) ≡ held
        go true is = two (has_slot (show_seat w.core) x) refl is
        go false is = truej.objects x (other_has v.core w.core x has is)

    words_same : (i : ℕ) → slice_index d.words i ≡ slice_index c.words i
    words_same i = ap (λ (ws : List ℕ). slice_index ws i) (set-get_or c.words 0 0)

    -- the fields that either has left null
    root_cleared : (p : EventPlace) → Stands p both.cleared → IsCleared z d both.core p
    root_cleared p stands = ⊎_elim
        (λ mine. cleared_moves z c d v.core both.core
        (λ x. let t = times_append x v.core.dying w.core.dying in omega arith) words_same p
        (true0.cleared p mine))
        (λ others. cleared_moves z c d w.core both.core
        (λ x. let t = times_append x v.core.dying w.core.dying in omega arith) words_same p
        (truej.cleared p others))
        (stands_in v.cleared w.cleared p stands)

    root_true : IsTrueOf z d 0 both
    root_true = record {
      core = root_core;
      objects = root_objects;
      cleared = root_cleared;
      whole = λ all e.
          let left = (true0.whole all e).2 in
          let pos : 0 < other = omega (arith, not_root) in
          let sv = so.views in
          let h = hj in absurd (cc (left other pos (omega arith), other_can.0.1));
    }

    -- another seat's view tells what it told
    rest_tells : (n : ℕ) (u : EpochSeatView V) → n ≢ id → n ≢ other → get_elem? s.views n ≡ some u
        → Tells z d n u
    rest_tells n u apart0 apartj e =
        let not0 : n ≢ 0 = λ f. apart0 (f ∙ sym first_seat) in
        let stays = rest_core n not0 apartj in
        tells_again z k.core d n u (λ left. ap (λ (y : EpochView). y.left) stays ∙ left)
        (λ u_here t. record {
          core = t.core ∙ sym stays;
          objects = λ x has. t.objects x has ∙ ap object_of (slot_same x);
          cleared = λ p stands. cleared_moves z c d u.core u.core (λ x. omega arith) words_same p
              (t.cleared p stands);
          whole = λ all f. absurd (not0 (t.whole all f).1);
        })
        (k.tells n u e)

    views_tell : (n : ℕ) (u : EpochSeatView V) → get_elem? views n ≡ some u → Tells z d n u
    views_tell = set_all (Tells z d) (set s.views id both) other (gone_view gone)
        (ap (λ (y : EpochView). y.left) other_core)
        (λ n u apartj e. set_all (λ m y. m ≢ other → Tells z d m y) s.views id both
        (λ _. subst (λ (m : ℕ). Tells z d m both) (sym first_seat)
        (tells_here z d 0 both here root_true))
        (λ m y apart0 f not_other. rest_tells m y apart0 not_other f) n u e apartj)

    all_length : length views ≡ length s.views
    all_length = length-set (set s.views id both) other (gone_view gone)
        ∙ length-set s.views id both

    root_stays : (u : EpochSeatView V) → get_elem? views 0 ≡ some u
        → (u.gone ≡ false) × (u.opened ≡ length views)
    root_stays u e = set_all (λ n y. n ≡ 0 → (y.gone ≡ false) × (y.opened ≡ length views))
        (set s.views id both) other (gone_view gone) (λ zero. absurd (not_root zero))
        (λ n y ne. set_all (λ m t. m ≡ 0 → (t.gone ≡ false) × (t.opened ≡ length views))
        s.views id both (λ zero. (here, (k.root v at0).1 ∙ sym all_length))
        (λ m t apart0 f zero. absurd (apart0 (zero ∙ sym first_seat))) n y)
        0 u e refl

    -- the clients' views, as the protocol's law of a leave has them
    clients_then : clients first z.seats views
        ≡ set (set (clients first z.seats s.views) 0 (joined v.client w.client)) other gone
    clients_then =
        let l = length-set s.views id both in
        let h = at_less s.views other w atj in
        clients_set first z.seats (set s.views id both) other (gone_view gone) (omega arith)
        ∙ ap (λ (vs : List V). set vs other gone)
        (clients_set first z.seats s.views id both (at_less s.views id v at)
        ∙ ap (λ (n : ℕ). set (clients first z.seats s.views) n (joined v.client w.client))
        first_seat)

    meets : Meets law (shows z k.core) (clients first z.seats s.views)
    meets = record {
      lawful = shows_lawful z k.core so;
      count = clients_length first z.seats s.views k.few.1
          ∙ sym (length-map k.core.views show_seat ∙ so.views);
      law = k.client;
    }

    client_law : law (shows z d) (clients first z.seats views)
    client_law =
        let p = client_at first z.seats s.views 0 v gone at0 in
        let q = client_at first z.seats s.views other w gone atj in
        subst (law (shows z d))
        ((λ i. set (set (clients first z.seats s.views) 0 (joined (p i) (q i))) other gone)
        ∙ sym clients_then)
        (leave (shows z k.core) (shows z d) other 0 (clients first z.seats s.views) meets does)

    abbrev left_now : EpochEvent
    left_now = record { seat = 0; act = act.Leave other }

    abbrev latest : List EpochEvent
    latest = left_now ∷ k.events

    -- the rule after the leave: its event joins the history
    kept_then : Kept law first gone fits z qs (record { words = s.words; homes = s.homes; views = views })
    kept_then =
        let l = all_length in
        let f = k.few in
        let h = at_less s.views other w atj in record {
          shape = k.shape;
          quotas = k.quotas;
          events = latest;
          core = d;
          history = (k.core, k.history, (on, refl));
          words = k.words ∙ sym (set-get_or k.core.words 0 0);
          few = (omega arith, omega arith);
          tells = views_tell;
          pasts = set_pasts (set s.views id both) other (gone_view gone) latest latest
              (from_nothing latest) (λ past goes. goes) (set_pasts s.views id both k.events latest
              (goes_on left_now v.past k.events (k.pasts id v at))
              (λ past. goes_on left_now past k.events) k.pasts);
          left = set_left (set s.views id both) other (gone_view gone) gone
              ((λ e. absurd (cc (e))), (λ _. refl))
              (set_left s.views id both gone ((λ _. (k.left id v at).0 here), (λ e. absurd (cc (here, e))))
              k.left);
          root = root_stays;
          unopened = λ n le hn. rest_core n (omega arith) (omega arith)
              ∙ k.unopened n (omega arith) hn;
          fit = step_fits fits (shows z k.core) (shows z d) 0 (plain.Leave other) 0 does
              (λ x e. absurd (cc (e))) k.fit;
          client = client_law;
        }

  pub leaves : Joins (Kept law first gone fits z qs) id v other w (joined_view joined v w)
      (gone_view gone)
  leaves = kept_then
