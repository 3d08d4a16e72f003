-- How many objects there are, and that an act which fills and makes nothing leaves no more of them.
use Rattle.std.proofs.Common.{◌≡◌, ⊎_elim, ℕ, zero, suc, ◌+◌, ◌<◌, ◌≤◌, List, ◌∷◌, refl, ap, sym, ◌∙◌, subst, arith}
use Rattle.std.specs.Prelude.{Option, None, Some, IsSome}
use Rattle.std.specs.Option.{option_map}
use Rattle.std.proofs.lemmas.Bool.{cases_eq}
use Rattle.protocol_pairs.specs.plain_state.declared.act.PlainAct.{PlainAct}
use Rattle.protocol_pairs.specs.plain_state.declared.slot.PlainSlot.{PlainSlot}
use Rattle.protocol_pairs.specs.plain_state.declared.slot.SlotId.{SlotId}
use Rattle.protocol_pairs.specs.plain_state.declared.slot.Stage.{Stage}
use Rattle.protocol_pairs.specs.plain_state.declared.slot.Stage.TheVariants.{Free, Blank, Live, Ended, Husk}
use Rattle.protocol_pairs.specs.plain_state.State.{Plain}
use Rattle.protocol_pairs.specs.plain_protocol.Owns.{Object, OwnPart}
use Rattle.claim_law.specs.core_events.declared.act.Act.{Act}
use Rattle.claim_law.specs.core_events.declared.act.Act.TheVariants as act
use Rattle.claim_law.specs.core_events.declared.act.Event.{Event}
use Rattle.claim_law.specs.core_events.declared.shape.Shape.{Shape}
use Rattle.claim_law.specs.core_events.declared.view.CoreView.{CoreView}
use Rattle.claim_law.specs.core_events.declared.view.Phase.TheVariants as phase
use Rattle.claim_law.specs.core_events.Counts.{stage, sum_below}
use Rattle.claim_law.specs.core_events.Runs.{Core, after, found, view_at}
use Rattle.claim_law.specs.core_events.Shows.{show_slot, shows}
use Rattle.claim_law.specs.core_events.ShownSteps.{shown_act, shown_number}
use Rattle.claim_law.specs.core_events.Steps.{May}
use Rattle.claim_law.specs.core_events.Views.{Terms}
use Rattle.claim_law.proofs.Below.core_law_Each.{length_each}
use Rattle.claim_law.specs.core_law.Sound.{Sound}
use Rattle.claim_law.proofs.Below.core_law_Always.{history_sound}
use Rattle.claim_law.specs.core_promises.Destroyed.{destroys, standing}
use Rattle.claim_law.proofs.Below.core_promises_Destroys.{destroyed_once}
use Rattle.claim_law.proofs.Below.core_law_Bridge.{shown_slot}
use Rattle.claim_law.proofs.Below.core_law_Events.{event_shows}
use Rattle.retiring_stores.specs.domain_rule.declared.view.SeatView.{SeatView}
use Rattle.retiring_stores.specs.domain_rule.declared.view.Whole.{Whole}
use Rattle.retiring_stores.specs.domain_rule.Told.{Told}
use Rattle.retiring_stores.specs.domain_rule.Views.{core_in, whole_of}
use Rattle.retiring_stores.proofs.Below.domain_rule_Acts.{act_leaves}
use Rattle.retiring_stores.proofs.Below.domain_rule_Objects.{object_at, object_changes}
use Rattle.retiring_stores.specs.acquire_retire.Wholes.{core_known, known_core}
use Rattle.retiring_stores.proofs.Below.control_word_Finding.{sound_before}

pub standing_most : (g : Stage) → standing g ≤ 1
standing_most Free = omega arith
standing_most Blank = omega arith
standing_most Live = omega arith
standing_most Ended = omega arith
standing_most Husk = omega arith

pub below_most : (n : ℕ) (f g : ℕ → ℕ) → ((i : ℕ) → i < n → g i ≤ f i)
    → sum_below n g ≤ sum_below n f
unfolding sum_below
below_most zero f g most = omega arith
below_most (suc n) f g most =
    let rest = below_most n f g (λ i h. most i (omega arith)) in
    let last = most n (omega arith) in omega arith

pub below_less : (n k : ℕ) (f g : ℕ → ℕ) → k < n → ((i : ℕ) → i < n → g i ≤ f i)
    → g k + 1 ≤ f k → sum_below n g + 1 ≤ sum_below n f
unfolding sum_below
below_less zero k f g below most less = absurd (omega arith)
below_less (suc n) k f g below most less = ⊎_elim
    (λ is.
    let rest = below_most n f g (λ i h. most i (omega arith)) in
    let had : f k ≡ f n = ap f is in
    let has : g k ≡ g n = ap g is in omega arith)
    (λ other.
    let rest = below_less n k f g (omega arith) (λ i h. most i (omega arith)) less in
    let last = most n (omega arith) in omega arith)
    (cases_eq k n)

pub below_ones : (n : ℕ) (f : ℕ → ℕ) → ((i : ℕ) → i < n → f i ≤ 1) → sum_below n f ≤ n
unfolding sum_below
below_ones zero f most = omega arith
below_ones (suc n) f most =
    let rest = below_ones n f (λ i h. most i (omega arith)) in
    let last = most n (omega arith) in omega arith

-- the acts of a settle
abbrev pub IsSettling : Act → Type 0
IsSettling act.Scan = Unit {0}
IsSettling act.Pay = Unit {0}
IsSettling act.Finish = Unit {0}
IsSettling act.Take = Unit {0}
IsSettling act.Free = Unit {0}
IsSettling (act.Swap p new) = Unit {0}
IsSettling (act.See s i) = Unit {0}
IsSettling (act.Destroy s) = Unit {0}
IsSettling a = ⊥

-- a seat that makes one of them fills no slot
fills_none : (z : Shape) (a : Act) (v : CoreView) (s : SlotId) → IsSettling a → May z a v
    → v.phase ≡ phase.Blank s → ⊥
fills_none z act.Scan v s is may fills = ⊎_elim
    (λ idle. cc (idle.0.0, fills))
    (λ (scans : v.phase ≡ phase.Scan). cc (scans, fills))
    may
fills_none z act.Pay v s is may fills = cc (may.0.0, fills)
fills_none z act.Finish v s is may fills = cc (may.1, fills)
fills_none z act.Take v s is may fills = cc (may.1, fills)
fills_none z act.Free v s is may fills = cc (may.1, fills)
fills_none z (act.Swap p new) v s is may fills = cc (may.0.0, fills)
fills_none z (act.See x i) v s is may fills = cc (may.0.0, fills)
fills_none z (act.Destroy x) v s is may fills = cc (may.0.0, fills)
fills_none z (act.Add x) v s is may fills = is
fills_none z (act.Drop x) v s is may fills = is
fills_none z (act.Count x) v s is may fills = is
fills_none z act.Mark v s is may fills = is
fills_none z (act.Announce j k x) v s is may fills = is
fills_none z (act.Release j) v s is may fills = is
fills_none z (act.Look p) v s is may fills = is
fills_none z (act.Check j p) v s is may fills = is
fills_none z (act.Alive j) v s is may fills = is
fills_none z (act.Cas p old new) v s is may fills = is
fills_none z (act.Claim x) v s is may fills = is
fills_none z act.Arm v s is may fills = is
fills_none z (act.Fill i x) v s is may fills = is
fills_none z act.Start v s is may fills = is
fills_none z act.Ticket v s is may fills = is
fills_none z (act.Wadd x) v s is may fills = is
fills_none z (act.Wdrop x) v s is may fills = is
fills_none z (act.Wcount x) v s is may fills = is
fills_none z (act.Leave j) v s is may fills = is

pub some_value : {A : Type 0} (o : Option A) → IsSome o → (x : A) × (o ≡ Some x)
some_value None is = absurd (cc (is))
some_value (Some x) is = (x, refl)

module _ {V : Type 0} {fits : List ℕ → Type 0} {z : Shape} {ts : Terms}
    {next : OwnPart → OwnPart → V → PlainAct → ℕ → V}
    {allows : Plain → Plain → ℕ → V → V → Type 0} {a : Act} {v v' : SeatView V} {w : ℕ}
    (told : Told fits z ts next allows a v w v') where
  abbrev before : Core
  before = told.happened.before

  abbrev later : Core
  later = after z told.happened.before v.core.seat a

  module _ (known : IsSome v.whole) where
    -- what the seat knows is the state of the step, before it and after it
    pub known_before : known_core v ≡ before
    known_before =
        let all = some_value v.whole known in
        ap core_known all.1 ∙ (told.said.whole all.0 all.1).0

    knows_after : (v'.whole ≡ Some (whole_of later))
    knows_after =
        let all = some_value v.whole known in
        told.whole
        ∙ ap (λ (o : Option Whole). option_map (λ (x : Whole).
        whole_of (after z (core_in x) v.core.seat a)) o) all.1
        ∙ ap (λ (c : Core). Some (whole_of (after z c v.core.seat a))) (told.said.whole all.0 all.1).0

    pub known_still : IsSome v'.whole
    known_still = subst (λ (o : Option Whole). IsSome o) (sym knows_after) refl

    pub known_after : known_core v' ≡ later
    known_after = ap core_known knows_after

  -- events reach the state after it too
  pub sound_later : Sound z later
  sound_later =
      let h = told.happened in
      let e : Event = record { seat = v.core.seat; act = a } in
      history_sound z ts (e ∷ h.events) later h.shape h.terms
      (before, h.history, (h.enabled, refl))

  module _ (s : SlotId) (there : s.0 < z.slots) (settling : IsSettling a) where
    -- no object changes
    pub object_stays : object_at (shows z later) s ≡ object_at (shows z before) s
    object_stays =
        let h = told.happened in
        let so = sound_before told in
        let n = v.core.seat in
        let mine = view_at before n in
        let length_is = length_each 0 z.slots (λ x. show_slot z before (record { 0 = x })) in
        let step = shown_act z a (found z before n a) mine in
        object_changes (shows z before) (shows z later) n s step
        (shown_number a (found z before n a)) (omega arith) (event_shows z before n a so h.enabled)
        ∙ act_leaves z (found z before n a) mine s a h.enabled.1
        (fills_none z a mine s settling h.enabled.1) (object_at (shows z before) s)

    -- and an object stands on, but for one that is destroyed
    pub stands_still : standing (stage z later s) + destroys s a ≡ standing (stage z before s)
    stands_still =
        let h = told.happened in
        let n = v.core.seat in
        let e : Event = record { seat = n; act = a } in
        let once = destroyed_once z s there ts h.events before h.shape h.terms h.history in
        let again = destroyed_once z s there ts (e ∷ h.events) later h.shape h.terms
        (before, h.history, (h.enabled, refl)) in
        let life = ap (λ (o : Object). o.life) object_stays in
        let was = ap (λ (x : PlainSlot). x.life) (shown_slot z before s there) in
        let is = ap (λ (x : PlainSlot). x.life) (shown_slot z later s there) in omega arith
