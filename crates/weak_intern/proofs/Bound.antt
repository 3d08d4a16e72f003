-- What a compare and exchange with the deed BindHead asks, and what it leaves.
use Rattle.std.proofs.Common.{◌≡◌, ⊎_elim, inr, ℕ, ◌+◌, ◌<◌, Bool, true, false, List, [], ◌∷◌, ◌++◌, refl, ap, sym, ◌∙◌, subst, arith, append_assoc, Some, None}
use Rattle.std.specs.Prelude.{◌==◌, ◌≢◌, Option, if◌then◌else◌}
use Rattle.atomic_weak.specs.plain_state.declared.act.EventPlace.TheVariants.{WeakCell}
use Rattle.atomic_weak.specs.plain_state.declared.act.PlainAct.{PlainAct}
use Rattle.atomic_weak.specs.plain_state.declared.act.PlainAct.TheVariants as plain
use Rattle.atomic_weak.specs.plain_state.declared.slot.Kind.TheVariants.{Weak}
use Rattle.atomic_weak.specs.plain_state.declared.slot.SlotId.{SlotId}
use Rattle.atomic_weak.specs.plain_state.Lists.{times}
use Rattle.atomic_weak.specs.plain_state.State.{Plain}
use Rattle.atomic_weak.specs.plain_protocol.Acts.{Owned}
use Rattle.atomic_weak.specs.plain_protocol.Owns.{HasSlot, Object, OwnPart}
use Rattle.record_making.specs.protocol_pairs.Parts.{Accepts, Frees}
use Rattle.atomic_weak.specs.core_events.declared.act.Act.TheVariants as act
use Rattle.atomic_weak.specs.core_events.declared.outcome.Outcome.TheVariants as outcome
use Rattle.atomic_weak.specs.core_events.declared.view.CoreView.{CoreView}
use Rattle.atomic_weak.specs.core_events.declared.view.Move.{Move}
use Rattle.atomic_weak.specs.core_events.Runs.{after}
use Rattle.atomic_weak.specs.core_events.Shows.{show_seat, shows}
use Rattle.atomic_weak.specs.core_events.Steps.{without_given}
use Rattle.atomic_weak.specs.core_events.Views.{Holds, without}
use Rattle.atomic_weak.specs.core_events.Words.{slot_in}
use Rattle.atomic_weak.proofs.Below.core_law_Kit.{one_same, times_push, times_without}
use Rattle.atomic_weak.specs.domain_rule.Views.{object_in, own_of}
use Rattle.atomic_weak.specs.acquire_retire.Collecting.{move}
use Rattle.atomic_weak.specs.acquire_retire.Calls.{IsReady, IsSameView, same_view}
use Rattle.atomic_weak.specs.acquire_retire.Domains.{DomainState}
use Rattle.atomic_weak.specs.acquire_retire.Seats.{SeatState}
use Rattle.atomic_weak.specs.control_word.Calls.{DropsWeak, GainsWeak, weakly_dropped_by, with_weak, without_weak}
use Rattle.atomic_weak.specs.control_word.Moves.{KnowsStill}
use Rattle.atomic_weak.proofs.Below.protected_loads_Telling.{holds_has}
use Rattle.atomic_weak.specs.retiring_stores.Exchanging.{LosesTo, Replaces}
use Rattle.atomic_weak.specs.retiring_stores.Scanning.{ScansWhereDue}
use Rattle.record_making.specs.directory_law.declared.view.Rope.{Rope}
use Rattle.record_making.specs.directory_law.declared.view.View.{View}
use Rattle.record_making.specs.directory_law.Cells.{Area, on}
use Rattle.record_making.specs.directory_law.Law.{IsBound}
use Rattle.record_making.specs.directory_law.Making.{BindReady, BindTells, bind_next, bound, first_noted}
use Rattle.record_making.specs.directory_law.Steps.{life_in}
use Rattle.record_making.specs.directory_law.Views.{rope}
use Rattle.record_making.specs.directory_law.Walks.{Walked}
use Rattle.record_making.specs.directory_protocol.Keeping.{KeepsAll, MindsNone}
use Rattle.record_making.specs.directory_calls.Directories.{CanCount}
use Rattle.record_making.specs.Making.{HasNotedLast, candidate_in}
use Rattle.weak_intern.specs.Interning.{ComesBy}
use Rattle.weak_intern.specs.Races.{MissesCell}
use Rattle.record_making.specs.directory_law.Payloads.{IsText, Text}
use Rattle.record_making.specs.directory_calls.Steps.{AfterStep, GoesOn, Leaves, aside}
use Rattle.record_making.proofs.Below.directory_calls_Going.{goes_none, goes_then, holds_by, leaves_as, leaves_core, leaves_then, seat_same, some_earlier, some_later, some_step, step_goes, walks_go}
use Rattle.record_making.proofs.Made.{own_life}
use Rattle.record_making.proofs.Below.directory_calls_Parts.{Place, lift_ready, lifts, tells}

-- whether a compare and exchange that expects null found it
is_done : (w : ℕ) (b : Bool) → (w == 0) ≡ b
    → outcome.Done ≡ (if b then outcome.Done else outcome.LostTo (slot_in w)) → (w == 0) ≡ true
is_done w true test is = test
is_done w false test is = absurd (cc (is))

is_lost : (w : ℕ) (found : Option SlotId) (b : Bool) → (w == 0) ≡ b
    → outcome.LostTo found ≡ (if b then outcome.Done else outcome.LostTo (slot_in w))
    → (w == 0) ≡ false
is_lost w found true test is = absurd (cc (is))
is_lost w found false test is = test

-- the next view keeps what was kept
bind_keeps_if : (b : Bool) (e : Rope) (v : View) → KeepsAll v (if b then bound e v else v)
bind_keeps_if true e v = λ x in'. inr in'
bind_keeps_if false e v = λ x in'. in'

-- a weak reference that was gained is given up
weaks_left : {V : Type 0} (s : SlotId) (old mid : SeatState V)
    → Leaves old.view.core.owned (old.view.core.weaks ++ s ∷ []) old mid
    → (x : SlotId) → times x (without s mid.view.core.weaks) ≡ times x old.view.core.weaks
weaks_left s old mid gained x =
    let m = gained.weakly x in let p = times_push x s old.view.core.weaks in
    let n = gained.weakly s in let q = times_push s s old.view.core.weaks in
    let o = one_same s s refl in
    let e = times_without x s mid.view.core.weaks (omega arith) in
    omega arith

module _ {P V : Type 0} (fits : List ℕ → Type 0) (d : DomainState P) (l : Place V) (z : Area)
    (text : Text) (s w : SlotId) (same : w ≡ s) (old mid : SeatState V)
    (gains : GainsWeak fits d s old mid) (client : mid.view.client ≡ old.view.client)
    (knows : KnowsStill old.view.core old mid) (owns : 0 < times s old.view.core.owned)
    (noted : HasNotedLast (candidate_in s text old) (l.seen old.view.client)) where
  owned_mid : times s mid.view.core.owned ≡ times s old.view.core.owned
  owned_mid = ap (λ (v : CoreView). times s v.owned) gains.core

  has_mid : HasSlot (show_seat mid.view.core) s
  has_mid = let o = owned_mid in holds_has mid.view.core s (omega (arith, owns))

  noted_mid : (l.seen mid.view.client).noted ≡ candidate_in s text old ∷ noted.0
  noted_mid = ap (λ c. (l.seen c).noted) client ∙ noted.1

  known_life : life_in (own_of mid.view) s ≡ (object_in old.view s).life
  known_life = own_life s mid has_mid
      ∙ ap (λ (o : Object). o.life) (knows s (holds_has old.view.core s (omega (arith, owns))))

  gained : Leaves old.view.core.owned (old.view.core.weaks ++ s ∷ []) old mid
  gained = leaves_core old mid (with_weak s old.view.core) _ gains.core refl knows

  -- THE DEED is ready
  pub ready : (owned : Owned) (free : OwnPart → PlainAct → Type 0) (suits : V → View → Type 0)
      → Frees owned free → MindsNone suits l.seen → (at cell : ℕ) → at ≡ z.first + cell
      → 0 < z.cells → owned.weak_cell at → IsText text
      → CanCount true (l.seen old.view.client) → ComesBy z (l.seen old.view.client) text cell
      → IsReady (λ own v a. BindReady z own (l.seen v) a × free own a
      × Accepts suits bind_next l.seen own v a) d.shape
      (act.Cas (WeakCell at) None (Some w)) mid.view
  ready owned free suits frees minds at cell is some mine is_text quota comes n =
      lift_ready l owned free suits frees minds (BindReady z) bind_next (own_of mid.view)
      mid.view.client (plain.TryReplace (WeakCell at) None (Some w))
      (record {
        slot = s;
        text = text;
        passed = comes.0;
        act_is = λ j. plain.TryReplace (WeakCell (here j)) None (Some (same j));
        some_cells = some;
        owned = let o = owned_mid in omega (arith, owns);
        is_text = is_text;
        walked = subst (λ c. Walked' c) (sym client) comes.1;
        spare = let q = subst (λ c. CanCount true (l.seen c)) (sym client) quota in omega arith;
        others = noted.0;
        noted = noted_mid ∙ ap (λ k. rope s k text ∷ noted.0) (sym known_life);
      })
      mine
      (λ own n'. bind_keeps_if (n' == 0) (first_noted (l.seen mid.view.client).noted)
      (l.seen mid.view.client))
    where
      here : at ≡ z.first + on z text comes.0
      here = is ∙ ap (λ k. z.first + k) (sym comes.2)

      Walked' : V → Type 0
      Walked' c = Walked z (l.seen c) text comes.0

  abbrev next : OwnPart → OwnPart → V → PlainAct → ℕ → V
  next = lifts l bind_next

  abbrev allows : Plain → Plain → ℕ → V → V → Type 0
  allows = tells l (BindTells z)

  abbrev now_bound : View
  now_bound = bound (candidate_in s text old) (l.seen old.view.client)

  -- IT FOUND NULL
  module _ (at : ℕ) (new : SeatState V)
      (replaces : Replaces fits d next allows (WeakCell at) (Some w) None mid new)
      (still : KnowsStill (without_given Weak (Some w) mid.view.core) mid new) where
    abbrev late : SeatState V
    late = replaces.mid

    scans_go : ScansWhereDue fits d late new → GoesOn late.view.core new.view.core
    scans_go due = ⊎_elim
        (λ scans. walks_go fits d same_view IsSameView _ late new scans.1.collects.goes.walks)
        (λ none. goes_none late.view.core new.view.core
        (ap (λ (x : SeatState V). x.view.core.trail) none.1))
        due

    client_late : late.view.client ≡ l.with_seen old.view.client now_bound
    client_late =
        let step = replaces.puts.step in
        step.told.client
        ∙ ap (λ b. l.with_seen mid.view.client
        (if b then bound (first_noted (l.seen mid.view.client).noted) (l.seen mid.view.client)
        else l.seen mid.view.client))
        (is_done step.word (step.word == 0) refl step.answers)
        ∙ ap (λ c. l.with_seen c (bound (first_noted (l.seen c).noted) (l.seen c))) client
        ∙ ap (λ es. l.with_seen old.view.client (bound (first_noted es) (l.seen old.view.client)))
        noted.1

    pub bound_client : new.view.client ≡ l.with_seen old.view.client now_bound
    bound_client = replaces.client ∙ client_late

    pub bound_after : AfterStep d (λ q. IsBound z q text s) old new
    bound_after =
        let step = replaces.puts.step in
        let p = shows d.shape step.told.happened.before in
        let q = shows d.shape (after d.shape step.told.happened.before mid.view.core.seat
        (act.Cas (WeakCell at) None (Some w))) in
        let told : BindTells z p q mid.view.core.seat (l.seen mid.view.client)
        (l.seen late.view.client) =
        step.told.happened.fact.2 in
        let used : (l.seen late.view.client).used ≡ (l.seen mid.view.client).used + 1 =
        ap (λ c. (l.seen c).used) client_late
        ∙ ap (λ (v : View). v.used) (l.reads old.view.client now_bound)
        ∙ ap (λ c. (l.seen c).used + 1) (sym client) in
        let fact : IsBound z q text s = ⊎_elim
        (λ unchanged. let e = ap (λ (v : View). v.used) unchanged in absurd (omega (arith, used)))
        (λ is. subst (λ (e : Rope). IsBound z q e.text e.slot) (ap first_noted noted_mid) is)
        told.1 in
        some_earlier d (λ x y. IsBound z y text s) old mid new
        (seat_same old mid gained.same) gained.goes
        (some_later d (λ x y. IsBound z y text s) mid late new
        (some_step d (λ x y. IsBound z y text s) step fact) (scans_go replaces.scans))

    pub bound_makes : new.view.core.makes ≡ old.view.core.makes
    bound_makes =
        ap (λ (u : CoreView). u.makes) replaces.same ∙ ap (λ (u : CoreView). u.makes) gains.core

    v : CoreView
    v = without_given Weak (Some w) mid.view.core

    pub bound_leaves : Leaves old.view.core.owned old.view.core.weaks old new
    bound_leaves =
        leaves_as old.view.core.owned old.view.core.weaks old new
        (leaves_then old mid new gained (record {
          owns = λ x. ap (λ (u : CoreView). times x u.owned) replaces.same;
          weakly = λ x. ap (λ (u : CoreView). times x u.weaks) replaces.same;
          same = beside;
          goes = goes_then mid.view.core late.view.core new.view.core
              (step_goes d (act.Cas (WeakCell at) None (Some w)) mid late outcome.Done
              replaces.puts.step)
              (scans_go replaces.scans);
          knows = λ x was is.
              let o = ap (λ (u : CoreView). times x u.owned) replaces.same in
              let k = ap (λ (u : CoreView). times x u.weaks) replaces.same in
              still x (holds_has (without_weak w mid.view.core) x
              (holds_by x new.view.core (without_weak w mid.view.core) beside (omega arith) is));
        })
        (λ x was is. let o = gained.owns x in let k = gained.weakly x in
        let p = times_push x s old.view.core.weaks in
        holds_by x old.view.core mid.view.core (sym gained.same) (omega arith) was))
        gained.owns
        (λ x. ap (λ y. times x (without y mid.view.core.weaks)) same
        ∙ weaks_left s old mid gained x)
      where
        beside : aside new.view.core ≡ aside mid.view.core
        beside = ap aside replaces.same

  -- IT FOUND ANOTHER
  module _ (at found : ℕ) (lost : SeatState V)
      (loses : LosesTo fits d next allows (WeakCell at) (Some w) None found mid lost) where
    pub lost_client : lost.view.client ≡ old.view.client
    lost_client =
        let step = loses.loses.becomes.walks.1 in
        ap (λ (x : SeatState V). x.view.client) loses.loses.becomes.walks.2
        ∙ step.told.client
        ∙ ap (λ b. l.with_seen mid.view.client
        (if b then bound (first_noted (l.seen mid.view.client).noted) (l.seen mid.view.client)
        else l.seen mid.view.client))
        (is_lost step.word loses.found (step.word == 0) refl step.answers)
        ∙ l.puts_back mid.view.client ∙ client

    module _ (kept : KnowsStill (without_given Weak (Some w) mid.view.core) mid lost)
        (new : SeatState V) (y : SlotId) (back : y ≡ w) (dropped : DropsWeak fits d y lost new)
        (stayed : KnowsStill (without_weak y lost.view.core) lost new) where
      drops : DropsWeak fits d w lost new
      drops = subst (λ x. DropsWeak fits d x lost new) back dropped

      still : KnowsStill (without_weak w lost.view.core) lost new
      still = subst (λ x. KnowsStill (without_weak x lost.view.core) lost new) back stayed

      -- the exchange found another slot, after a weak reference was counted
      pub lost_misses : MissesCell at s old.view.core new.view.core
      lost_misses = of_found loses.found loses.loses.other
          (ap (λ (u : CoreView). u.trail) loses.loses.becomes.core)
        where
          of_found : (f : Option SlotId) → f ≢ None
              → lost.view.core.trail
              ≡ mid.view.core.trail
              ++ move (act.Cas (WeakCell at) None (Some w)) (outcome.LostTo f) ∷ []
              → MissesCell at s old.view.core new.view.core
          of_found None other grown = absurd (other refl)
          of_found (Some now) other grown = (
            now,
            weakly_dropped_by w drops.0,
            ap (λ (u : CoreView). u.trail) drops.1.core
                ∙ ap (λ (ms : List Move). ms ++ weakly_dropped_by w drops.0)
                (grown
                ∙ ap (λ (ms : List Move). ms
                ++ move (act.Cas (WeakCell at) None (Some w)) (outcome.LostTo (Some now)) ∷ [])
                (ap (λ (u : CoreView). u.trail) gains.core)
                ∙ append_assoc old.view.core.trail (move (act.Wadd s) outcome.Plain ∷ [])
                (move (act.Cas (WeakCell at) None (Some w)) (outcome.LostTo (Some now)) ∷ []))
                ∙ append_assoc old.view.core.trail
                (move (act.Wadd s) outcome.Plain
                ∷ move (act.Cas (WeakCell at) None (Some w)) (outcome.LostTo (Some now)) ∷ [])
                (weakly_dropped_by w drops.0)
                ∙ ap (λ (x : SlotId). old.view.core.trail
                ++ ((move (act.Wadd s) outcome.Plain
                ∷ move (act.Cas (WeakCell at) None (Some x)) (outcome.LostTo (Some now)) ∷ [])
                ++ weakly_dropped_by w drops.0)) same,
          )

      pub lost_makes : new.view.core.makes ≡ old.view.core.makes
      lost_makes =
          ap (λ (u : CoreView). u.makes) drops.1.core
          ∙ ap (λ (u : CoreView). u.makes) loses.loses.becomes.core
          ∙ ap (λ (u : CoreView). u.makes) gains.core

      pub lost_leaves : Leaves old.view.core.owned old.view.core.weaks old new
      lost_leaves =
          leaves_as old.view.core.owned old.view.core.weaks old new
          (leaves_then old mid new gained (record {
            owns = λ x. ap (λ (u : CoreView). times x u.owned) drops.1.core
                ∙ ap (λ (u : CoreView). times x u.owned) loses.loses.becomes.core;
            weakly = λ x. ap (λ (u : CoreView). times x u.weaks) drops.1.core
                ∙ ap (λ (u : CoreView). times x (without w u.weaks)) loses.loses.becomes.core;
            same = ap aside drops.1.core ∙ ap aside loses.loses.becomes.core;
            goes = goes_then mid.view.core lost.view.core new.view.core
                (_, ap (λ (u : CoreView). u.trail) loses.loses.becomes.core)
                (_, ap (λ (u : CoreView). u.trail) drops.1.core);
            knows = λ x was is.
                let here = subst (λ (u : CoreView). Holds u x) drops.1.core is in
                still x (holds_has (without_weak w lost.view.core) x here)
                ∙ kept x (holds_has (without_weak w mid.view.core) x
                (subst (λ (u : CoreView). Holds (without_weak w u) x) loses.loses.becomes.core
                here));
          })
          (λ x was is. let o = gained.owns x in let k = gained.weakly x in
          let p = times_push x s old.view.core.weaks in
          holds_by x old.view.core mid.view.core (sym gained.same) (omega arith) was))
          gained.owns
          (λ x. ap (λ y. times x (without y mid.view.core.weaks)) same
          ∙ weaks_left s old mid gained x)
