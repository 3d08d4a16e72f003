-- Seat 0 keeps the rule where it takes over what another seat has, and that seat leaves.
use Rattle.std.proofs.Common.{◌≡◌, ◌≢◌, ◌⊎◌, inl, inr, ⊎_elim, ℕ, ◌+◌, ◌<◌, ◌≤◌, Bool, true, false, List, [], ◌∷◌, ◌++◌, length, get_or, set, refl, ap, sym, ◌∙◌, subst, arith}
use Rattle.std.specs.Prelude.{None, slice_index, if◌then◌else◌}
use Rattle.std.proofs.lemmas.List.{length-set, length-map, set-get_or, get_or_past}
use Rattle.std.proofs.lemmas.Bool.{cases_eq, cases_lt, eq-eqb, ne_eqb}
use Rattle.std.proofs.lemmas.Bool.Decides.{nat_tests}
use mathlib.Core.Option.{some}
use lib.ListN.{get_elem?}
use Rattle.atomic_table.specs.Table.{State, Joins}
use Rattle.atomic_table.proofs.Lists.{set_else}
use Rattle.plain_protocol.specs.plain_state.declared.act.PlainAct.TheVariants as plain
use Rattle.plain_protocol.specs.plain_state.declared.act.EventPlace.{EventPlace}
use Rattle.plain_protocol.specs.plain_state.declared.act.EventPlace.TheVariants.{Cell, Field, WeakCell, WeakField}
use Rattle.plain_protocol.specs.plain_state.declared.slot.SlotId.{SlotId}
use Rattle.plain_protocol.specs.plain_state.declared.slot.Kind.{Kind}
use Rattle.plain_protocol.specs.plain_state.declared.slot.Kind.TheVariants.{Strong, Weak, Disposal}
use Rattle.plain_protocol.specs.plain_state.Lists.{entry_times, times}
use Rattle.plain_protocol.specs.plain_state.References.{held_in}
use Rattle.plain_protocol.specs.plain_state.State.{Plain, slot_at}
use Rattle.plain_protocol.specs.plain_state.Steps.{Does}
use Rattle.plain_protocol.specs.Laws.{Meets, KeptByLeave}
use Rattle.plain_protocol.specs.Owns.{Object, object_of, has_slot, HasSlot}
use Rattle.plain_protocol.proofs.StepFits.{step_fits}
use Rattle.core_law.specs.core_events.declared.act.Act.TheVariants as act
use Rattle.core_law.specs.core_events.declared.act.Event.{Event}
use Rattle.core_law.specs.core_events.declared.outcome.Outcome.TheVariants as outcome
use Rattle.core_law.specs.core_events.declared.shape.Shape.{Shape}
use Rattle.core_law.specs.core_events.Views.{Terms}
use Rattle.core_law.specs.core_events.declared.view.CoreView.{CoreView}
use Rattle.core_law.specs.core_events.Words.{field_at, weak_field_at}
use Rattle.core_law.specs.core_events.Steps.{CanLeave, noted}
use Rattle.core_law.specs.core_events.Runs.{Core, view_at, taken_over, left_behind, Enabled, after}
use Rattle.core_law.specs.core_events.Shows.{filled, show_seat, shows}
use Rattle.core_law.specs.core_events.Views.{snapshots}
use Rattle.core_law.specs.Sound.{Sound}
use Rattle.core_law.proofs.Held.{valid_find}
use Rattle.core_law.proofs.Joined.{parts, is_j, is_0, is_m}
use Rattle.core_law.proofs.Bridge.{shown_past}
use Rattle.core_law.proofs.Events.{event_shows}
use Rattle.core_law.proofs.Lawful.{shows_lawful}
use Rattle.core_law.proofs.Each.{length_each, get_each}
use Rattle.domain_rule.specs.declared.view.Known.{Known}
use Rattle.domain_rule.specs.declared.view.SeatView.{SeatView}
use Rattle.domain_rule.specs.Opening.{joined_view, gone_view, merged_object, merged_objects, same_object, same_words}
use Rattle.domain_rule.specs.Rule.{IsCleared, IsTrueOf, Tells, Kept, clients}
use Rattle.domain_rule.specs.Views.{Stands, object_in, known_of, no_object}
use Rattle.domain_rule.proofs.Padding.{at_less, clients_length, client_at, clients_set}
use Rattle.domain_rule.proofs.Telling.{from_nothing, goes_on, kept_sound, in_seats, true_of, number_of, is_root, set_left, set_pasts, tells_here, tells_again, set_all}

-- a slot that seat 0 has after it took over what the other had was had by one of them
other_has : (root v : CoreView) (s : SlotId) → HasSlot (show_seat (taken_over root v)) s
    → has_slot (show_seat root) s ≡ false → HasSlot (show_seat v) s
other_has root v s has not_root = let p = parts root v s in grind (arith, nat_tests)

held_none : (s : SlotId) → held_in s None ≡ 0
unfolding held_in
held_none s = refl

-- and what either had it has then
pub other_had : (root v : CoreView) → CanLeave v → (s : SlotId) → HasSlot (show_seat v) s
    → HasSlot (show_seat (taken_over root v)) s
other_had root v can s has =
    let p = parts root v s in
    let fills = ap (λ x. held_in s (filled x)) can.0.0 ∙ held_none s in
    let strong = none Strong in
    let weak = none Weak in
    let disposal = none Disposal in
    let held : 0 < times s v.owned + times s v.weaks + times s v.dying =
    grind (arith, nat_tests) in grind (arith, nat_tests)
  where
    none : (k : Kind) → entry_times k s (snapshots v) ≡ 0
    none k = ⊎_elim
        (λ (some : 0 < entry_times k s (snapshots v)).
        let at = valid_find k s v.notes some in absurd (cc (at.2, can.2 at.0)))
        (λ (few : entry_times k s (snapshots v) ≤ 0). omega arith)
        (cases_lt 0 (entry_times k s (snapshots v)))

pub root_has : (root v : CoreView) (s : SlotId) → HasSlot (show_seat root) s
    → HasSlot (show_seat (taken_over root v)) s
root_has root v s has = let p = parts root v s in grind (arith, nat_tests)

-- a payload is itself, and two that are found to be one are
words_alone : (xs : List ℕ) → same_words xs xs ≡ true
unfolding same_words
words_alone [] = refl
words_alone (x ∷ xs) = rw (eq-eqb x x refl) (words_alone xs)

words_one : (xs ys : List ℕ) → same_words xs ys ≡ true → xs ≡ ys
unfolding same_words
words_one [] [] e = refl
words_one [] (y ∷ ys) e = absurd (cc (e))
words_one (x ∷ xs) [] e = absurd (cc (e))
words_one (x ∷ xs) (y ∷ ys) e = ⊎_elim
    (λ (same : x ≡ y).
    let rest = words_one xs ys (subst (λ (b : Bool). (if b then same_words xs ys else false) ≡ true)
    (eq-eqb x y same) e) in λ i. same i ∷ rest i)
    (λ (apart : x ≢ y). absurd (differ (subst
    (λ (b : Bool). (if b then same_words xs ys else false) ≡ true) (ne_eqb x y apart) e)))
    (cases_eq x y)
  where
    differ : false ≡ true → ⊥
    differ f = absurd (cc (f))

-- what is known of one object twice is what is known of it
same_alone : (it : Object) → same_object it it ≡ it
same_alone it = rw (eq-eqb it.life it.life refl) (rw (words_alone it.payload) refl)

-- two seats that know an object alike know it as one
pub known_once : (mine other : Object) → mine ≡ other → same_object mine other ≡ mine
known_once mine other same =
    ap (λ (o : Object). same_object mine o) (sym same) ∙ same_alone mine

-- and they do where sixteen words are left of it
words_left : (mine other : Object) → length (same_object mine other).payload ≡ 16
    → mine.life ≡ other.life → mine ≡ other
words_left mine other words life = go (same_words mine.payload other.payload) refl
  where
    differs : {n : ℕ} → n ≡ 0 → n ≡ 16 → ⊥
    differs e f = omega arith

    go : (b : Bool) → same_words mine.payload other.payload ≡ b → mine ≡ other
    go true is =
        let payload = words_one mine.payload other.payload is in
        λ i. record { life = life i; payload = payload i }
    go false is =
        let none : (same_object mine other).payload ≡ [] =
        rw (eq-eqb mine.life other.life life) (rw is refl) in
        absurd (differs (ap length none) words)

-- what stands in two lists together stands in one of them
stands_in : (ps qs : List EventPlace) (p : EventPlace) → Stands p (ps ++ qs)
    → Stands p ps ⊎ Stands p qs
stands_in [] qs p there = inr there
stands_in (x ∷ ps) qs p (inl first) = inl (inl first)
stands_in (x ∷ ps) qs p (inr rest) = ⊎_elim (λ l. inl (inr l)) inr (stands_in ps qs p rest)

-- a field that a view has left null is null for a view with a longer dying list, over the same words
cleared_moves : (z : Shape) (c d : Core) (v u : CoreView)
    → ((s : SlotId) → times s v.dying ≤ times s u.dying)
    → ((i : ℕ) → slice_index d.words i ≡ slice_index c.words i) → (p : EventPlace)
    → IsCleared z c v p → IsCleared z d u p
cleared_moves z c d v u grows same (Cell i) cl = absurd cl
cleared_moves z c d v u grows same (Field s i) cl =
    let g = grows s in let h = cl.1 in (cl.0, omega arith, same (field_at z s i) ∙ cl.2)
cleared_moves z c d v u grows same (WeakCell i) cl = absurd cl
cleared_moves z c d v u grows same (WeakField s) cl =
    let g = grows s in let h = cl.0 in (omega arith, same (weak_field_at z s) ∙ cl.1)

module _ {V : Type 0} (root v : SeatView V) (z : Shape) (same : root.core.shape ≡ z) (s : SlotId)
  where
    abbrev known : ℕ → Known
    known x = known_of (merged_object root v (record { 0 = x }))

    -- what seat 0 has of each slot's object then
    pub merged_at : s.0 < z.slots → get_or (merged_objects root v) s.0 no_object ≡ known s.0
    merged_at hs =
        let n = ap (λ (y : Shape). y.slots) same in
        let e : 0 + s.0 ≡ s.0 = omega arith in
        get_each 0 root.core.shape.slots s.0 known no_object (omega arith) ∙ ap known e

    -- seat 0 has 16 payload words of what both had only where both knew it in one life
    pub alike : s.0 < z.slots → HasSlot (show_seat root.core) s → HasSlot (show_seat v.core) s
        → length (get_or (merged_objects root v) s.0 no_object).payload ≡ 16
        → (object_in root s).life ≡ (object_in v s).life
    alike hs mine others words = ⊎_elim (λ e. e)
        (λ apart. let none = ap (λ (o : Known). length o.payload) (merged_at hs ∙ both_known) in
        let no = ne_eqb (object_in root s).life (object_in v s).life apart in
        absurd (differs (none ∙ rw no refl) words))
        (cases_eq (object_in root s).life (object_in v s).life)
      where
        differs : {n : ℕ} → n ≡ 0 → n ≡ 16 → ⊥
        differs e f = omega arith

        both_known : known s.0 ≡ known_of (same_object (object_in root s) (object_in v s))
        both_known = rw mine (rw others refl)

    -- and the whole object alike
    pub alike_whole : s.0 < z.slots → HasSlot (show_seat root.core) s
        → HasSlot (show_seat v.core) s
        → length (get_or (merged_objects root v) s.0 no_object).payload ≡ 16
        → object_in root s ≡ object_in v s
    alike_whole hs mine others words =
        let both : known s.0 ≡ known_of (same_object (object_in root s) (object_in v s)) =
        rw mine (rw others refl) in
        words_left (object_in root s) (object_in v s)
        (sym (ap (λ (o : Known). length o.payload) (merged_at hs ∙ both)) ∙ words)
        (alike hs mine others words)

    merged_past : z.slots ≤ s.0 → get_or (merged_objects root v) s.0 no_object ≡ no_object
    merged_past le =
        let n = ap (λ (y : Shape). y.slots) same in
        let l = length_each 0 root.core.shape.slots known in
        get_or_past (merged_objects root v) s.0 no_object (omega arith)

module _ {V : Type 0} (law : Plain → List V → Type 0) (first : ℕ → V) (fits : List ℕ → Type 0)
    (z : Shape) (ts : Terms) (joined : V → V → V) (gone : V)
    (leave : KeptByLeave law joined gone) (id other : ℕ) (v w : SeatView V)
    (here : v.gone ≡ false) (there : w.gone ≡ false) (root : v.core.seat ≡ 0)
    (can0 : CanLeave v.core) (canj : CanLeave w.core) where
  abbrev both : SeatView V
  both = joined_view joined v w

  module _ (s : State (Unit {0}) (SeatView V)) (k : Kept law first gone fits z ts s)
      (at : get_elem? s.views id ≡ some v) (apart : ¬ (other ≡ id))
      (at' : get_elem? (set s.views id both) other ≡ some w) where
    abbrev c : Core
    c = k.core

    abbrev d : Core
    d = after z k.core 0 (act.Leave other)

    abbrev views : List (SeatView V)
    views = set (set s.views id both) other (gone_view gone)

    so : Sound z k.core
    so = kept_sound z ts s k

    first_seat : id ≡ 0
    first_seat = is_root z ts s k id v at here root

    not_root : other ≢ 0
    not_root e = apart (e ∙ sym first_seat)

    at0 : get_elem? s.views 0 ≡ some v
    at0 = subst (λ (n : ℕ). get_elem? s.views n ≡ some v) first_seat at

    atj : get_elem? s.views other ≡ some w
    atj = sym (set_else s.views id other both apart) ∙ at'

    hj : other < z.seats
    hj = in_seats z ts s k other w atj

    true0 : IsTrueOf z k.core 0 v
    true0 = true_of z ts s k 0 v at0 here

    truej : IsTrueOf z k.core other w
    truej = true_of z ts s k other w atj there

    root_can : CanLeave (view_at k.core 0)
    root_can = subst CanLeave true0.core can0

    other_can : CanLeave (view_at k.core other)
    other_can = subst CanLeave truej.core canj

    on : Enabled z k.core 0 (act.Leave other)
    on =
        let h = so.shape.0 in
        let sv = so.views in (
          omega arith,
          ((so.seats 0 (omega arith)).number, not_root, hj, root_can),
          other_can,
        )

    does : Does (shows z k.core) 0 (plain.Leave other) 0 (shows z d)
    does = event_shows z k.core 0 (act.Leave other) so on

    -- a leave changes no slot
    slot_same : (x : SlotId) → slot_at (shows z k.core) x ≡ slot_at (shows z d) x
    slot_same x = ap (λ (p : Plain). slot_at p x) (sym does.1.8)

    root_core : both.core ≡ view_at d 0
    root_core =
        let n = number_of z ts s k other w atj there in
        sym (is_0 z k.core so other not_root hj
        ∙ λ i. noted (act.Leave (sym n i)) outcome.Plain
        (taken_over (sym true0.core i) (sym truej.core i)))

    other_core : view_at d other ≡ left_behind (view_at k.core other)
    other_core = is_j z k.core so other not_root hj

    rest_core : (n : ℕ) → n ≢ 0 → n ≢ other → view_at d n ≡ view_at k.core n
    rest_core = is_m z k.core so other not_root hj

    -- what seat 0 has of each slot's object is so
    root_objects : (x : SlotId) → HasSlot (show_seat both.core) x
        → object_in both x ≡ object_of (slot_at (shows z d) x)
    root_objects x has = ⊎_elim
        (λ (lt : x.0 < z.slots). ap object (merged_at v w z shape x lt)
        ∙ (go (has_slot (show_seat v.core) x) refl
        ∙ ap object_of (slot_same x)))
        (λ (le : z.slots ≤ x.0). ap object (merged_past v w z shape x le)
        ∙ ap object_of (sym (shown_past z d x le)))
        (cases_lt x.0 z.slots)
      where
        object : Known → Object
        object o = record { life = o.life; payload = o.payload }

        shape : v.core.shape ≡ z
        shape =
            let h = so.shape.0 in
            ap (λ (u : CoreView). u.shape) true0.core ∙ (so.seats 0 (omega arith)).same_shape

        held : Object
        held = object_of (slot_at (shows z k.core) x)

        two : (b : Bool) → has_slot (show_seat w.core) x ≡ b → HasSlot (show_seat v.core) x
            → (if b then same_object (object_in v x) (object_in w x) else object_in v x) ≡ held
        two true is mine =
            (λ i. same_object (true0.objects x mine i) (truej.objects x is i)) ∙ same_alone held
        two false is mine = true0.objects x mine

        go : (b : Bool) → has_slot (show_seat v.core) x ≡ b
            → (if b then (if has_slot (show_seat w.core) x
            then same_object (object_in v x) (object_in w x) else object_in v x)
            else object_in w x) ≡ held
        go true is = two (has_slot (show_seat w.core) x) refl is
        go false is = truej.objects x (other_has v.core w.core x has is)

    words_same : (i : ℕ) → slice_index d.words i ≡ slice_index c.words i
    words_same i = ap (λ (ws : List ℕ). slice_index ws i) (set-get_or c.words 0 0)

    -- the fields that either has left null
    root_cleared : (p : EventPlace) → Stands p both.cleared → IsCleared z d both.core p
    root_cleared p stands = ⊎_elim
        (λ mine. cleared_moves z c d v.core both.core
        (λ x. let t = (parts v.core w.core x).dying in omega arith) words_same p
        (true0.cleared p mine))
        (λ others. cleared_moves z c d w.core both.core
        (λ x. let t = (parts v.core w.core x).dying in omega arith) words_same p
        (truej.cleared p others))
        (stands_in v.cleared w.cleared p stands)

    root_true : IsTrueOf z d 0 both
    root_true = record {
      core = root_core;
      objects = root_objects;
      cleared = root_cleared;
      whole = λ all e.
          let left = (true0.whole all e).2 in
          let pos : 0 < other = omega (arith, not_root) in
          let sv = so.views in
          let h = hj in absurd (cc (left other pos (omega arith), other_can.0.1));
    }

    -- another seat's view tells what it told
    rest_tells : (n : ℕ) (u : SeatView V) → n ≢ id → n ≢ other → get_elem? s.views n ≡ some u
        → Tells z d n u
    rest_tells n u apart0 apartj e =
        let not0 : n ≢ 0 = λ f. apart0 (f ∙ sym first_seat) in
        let stays = rest_core n not0 apartj in
        tells_again z k.core d n u (λ left. ap (λ (y : CoreView). y.left) stays ∙ left)
        (λ u_here t. record {
          core = t.core ∙ sym stays;
          objects = λ x has. t.objects x has ∙ ap object_of (slot_same x);
          cleared = λ p stands. cleared_moves z c d u.core u.core (λ x. omega arith) words_same p
              (t.cleared p stands);
          whole = λ all f. absurd (not0 (t.whole all f).1);
        })
        (k.tells n u e)

    views_tell : (n : ℕ) (u : SeatView V) → get_elem? views n ≡ some u → Tells z d n u
    views_tell = set_all (Tells z d) (set s.views id both) other (gone_view gone)
        (ap (λ (y : CoreView). y.left) other_core)
        (λ n u apartj e. set_all (λ m y. m ≢ other → Tells z d m y) s.views id both
        (λ _. subst (λ (m : ℕ). Tells z d m both) (sym first_seat)
        (tells_here z d 0 both here root_true))
        (λ m y apart0 f not_other. rest_tells m y apart0 not_other f) n u e apartj)

    all_length : length views ≡ length s.views
    all_length = length-set (set s.views id both) other (gone_view gone)
        ∙ length-set s.views id both

    root_stays : (u : SeatView V) → get_elem? views 0 ≡ some u
        → (u.gone ≡ false) × (u.opened ≡ length views)
    root_stays u e = set_all (λ n y. n ≡ 0 → (y.gone ≡ false) × (y.opened ≡ length views))
        (set s.views id both) other (gone_view gone) (λ zero. absurd (not_root zero))
        (λ n y ne. set_all (λ m t. m ≡ 0 → (t.gone ≡ false) × (t.opened ≡ length views))
        s.views id both (λ zero. (here, (k.root v at0).1 ∙ sym all_length))
        (λ m t apart0 f zero. absurd (apart0 (zero ∙ sym first_seat))) n y)
        0 u e refl

    -- the clients' views, as the protocol's law of a leave has them
    clients_then : clients first z.seats views
        ≡ set (set (clients first z.seats s.views) 0 (joined v.client w.client)) other gone
    clients_then =
        let l = length-set s.views id both in
        let h = at_less s.views other w atj in
        clients_set first z.seats (set s.views id both) other (gone_view gone) (omega arith)
        ∙ ap (λ (vs : List V). set vs other gone)
        (clients_set first z.seats s.views id both (at_less s.views id v at)
        ∙ ap (λ (n : ℕ). set (clients first z.seats s.views) n (joined v.client w.client))
        first_seat)

    meets : Meets law (shows z k.core) (clients first z.seats s.views)
    meets = record {
      lawful = shows_lawful z k.core so;
      count = clients_length first z.seats s.views k.few.1
          ∙ sym (length-map k.core.views show_seat ∙ so.views);
      law = k.client;
    }

    client_law : law (shows z d) (clients first z.seats views)
    client_law =
        let p = client_at first z.seats s.views 0 v gone at0 in
        let q = client_at first z.seats s.views other w gone atj in
        subst (law (shows z d))
        ((λ i. set (set (clients first z.seats s.views) 0 (joined (p i) (q i))) other gone)
        ∙ sym clients_then)
        (leave (shows z k.core) (shows z d) other 0 (clients first z.seats s.views) meets does)

    abbrev left_now : Event
    left_now = record { seat = 0; act = act.Leave other }

    abbrev latest : List Event
    latest = left_now ∷ k.events

    -- the rule after the leave: its event joins the history
    kept_then : Kept law first gone fits z ts (record { words = s.words; homes = s.homes; views = views })
    kept_then =
        let l = all_length in
        let f = k.few in
        let h = at_less s.views other w atj in record {
          shape = k.shape;
          terms = k.terms;
          events = latest;
          core = d;
          history = (k.core, k.history, (on, refl));
          words = k.words ∙ sym (set-get_or k.core.words 0 0);
          few = (omega arith, omega arith);
          tells = views_tell;
          pasts = set_pasts (set s.views id both) other (gone_view gone) latest latest
              (from_nothing latest) (λ past goes. goes) (set_pasts s.views id both k.events latest
              (goes_on left_now v.past k.events (k.pasts id v at))
              (λ past. goes_on left_now past k.events) k.pasts);
          left = set_left (set s.views id both) other (gone_view gone) gone
              ((λ e. absurd (cc (e))), (λ _. refl))
              (set_left s.views id both gone ((λ _. (k.left id v at).0 here), (λ e. absurd (cc (here, e))))
              k.left);
          root = root_stays;
          unopened = λ n le hn. rest_core n (omega arith) (omega arith)
              ∙ k.unopened n (omega arith) hn;
          fit = step_fits fits (shows z k.core) (shows z d) 0 (plain.Leave other) 0 does
              (λ x e. absurd (cc (e))) k.fit;
          client = client_law;
        }

  pub leaves : Joins (Kept law first gone fits z ts) id v other w (joined_view joined v w)
      (gone_view gone)
  leaves = kept_then
