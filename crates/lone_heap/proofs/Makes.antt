-- A make of a seat that is alone: the slots that it found taken, the claim, the words, and the start.
use Rattle.std.proofs.Common.{◌≡◌, ◌≢◌, ⊎_elim, ℕ, zero, suc, ◌+◌, ◌<◌, Bool, true, false, List, [], ◌∷◌, ◌++◌, length, refl, ap, sym, ◌∙◌, subst, arith, append_assoc}
use Rattle.std.specs.Prelude.{◌==◌, nat_lt, Result, Ok, Err, IfOk, slice_index, if◌then◌else◌}
use Rattle.std.proofs.lemmas.List.Elements.{All-from_get_or}
use Rattle.protected_loads.specs.plain_state.declared.act.PlainAct.{PlainAct}
use Rattle.protected_loads.specs.plain_state.declared.act.PlainAct.TheVariants as plain
use Rattle.protected_loads.specs.plain_state.declared.slot.PlainSlot.{PlainSlot}
use Rattle.protected_loads.specs.plain_state.declared.slot.SlotId.{SlotId}
use Rattle.protected_loads.specs.plain_state.declared.slot.Stage.TheVariants.{Free, Blank, Live, Ended, Husk}
use Rattle.protected_loads.specs.plain_state.Runs.{Runs}
use Rattle.protected_loads.specs.plain_state.State.{Plain, new_slot, stage_at}
use Rattle.protected_loads.specs.plain_state.Steps.{Does}
use Rattle.plain_settling.specs.plain_store.Heaps.{NoneFree, fills}
use Rattle.plain_settling.specs.plain_store.Heaps as store
use Rattle.protected_loads.specs.plain_protocol.Owns.{OwnPart}
use Rattle.protected_loads.specs.core_events.declared.act.Act.TheVariants as act
use Rattle.protected_loads.specs.core_events.declared.outcome.Outcome.{Outcome}
use Rattle.protected_loads.specs.core_events.declared.outcome.Outcome.TheVariants as outcome
use Rattle.protected_loads.specs.core_events.declared.view.CoreView.{CoreView}
use Rattle.protected_loads.specs.core_events.declared.view.Move.{Move}
use Rattle.protected_loads.specs.core_events.declared.view.Phase.{Phase}
use Rattle.protected_loads.specs.core_events.declared.view.Phase.TheVariants as phase
use Rattle.protected_loads.specs.core_events.Counts.{Signs, is_live_word, signs, stage_of}
use Rattle.protected_loads.specs.core_events.Runs.{Core}
use Rattle.protected_loads.specs.core_events.Shows.{show_slot, shows}
use Rattle.protected_loads.specs.core_events.ShownSteps.{on_slot}
use Rattle.protected_loads.specs.core_events.Steps.{HasRoom}
use Rattle.protected_loads.specs.core_events.Views.{about, slot_of}
use Rattle.protected_loads.specs.core_events.Words.{bit_in, bits_at, each_from, slot_at}
use Rattle.protected_loads.proofs.Below.core_law_Each.{length_each}
use Rattle.protected_loads.proofs.Below.core_law_Bridge.{shown_stage}
use Rattle.protected_loads.specs.acquire_retire.Calls.{IsSameView, Steps, same_view}
use Rattle.protected_loads.specs.acquire_retire.Collecting.{Walks, move}
use Rattle.protected_loads.specs.acquire_retire.Domains.{DomainState}
use Rattle.protected_loads.specs.acquire_retire.Seats.{SeatState}
use Rattle.protected_loads.specs.acquire_retire.Wholes.{known_core}
use Rattle.protected_loads.specs.counted_handles.Handles.{Handle}
use Rattle.protected_loads.specs.control_word.Resting.{IsAtRest}
use Rattle.slot_store.specs.declared.making.MakeError.{MakeError}
use Rattle.slot_store.specs.declared.making.MakeError.TheVariants as refused
use Rattle.slot_store.specs.Calls.{Makes, begun_by, filled_by}
use Rattle.slot_store.specs.Searching.{IsShownTaken, Misses, Try, bits_of, taken_by}
use Rattle.slot_store.proofs.Objects.{known_before}
use Rattle.slot_store.proofs.Tries.{append_nil}
use Rattle.lone_heap.specs.Lone.{IsReady, known_plain}
use Rattle.lone_heap.proofs.Holding.{kept_of, knows_on, knows_ready, ready_still, walk_mine}
use Rattle.lone_heap.proofs.Stepping.{step_does}
use Rattle.lone_heap.proofs.Tidying.{Knows}

-- a slot whose bit is clear isn't free
staged : (b c e f : Bool) → b ≡ false
    → (if b then Free else if c then Blank else if e then Ended else if f then Live else Husk)
    ≢ Free
staged true c e f is same = absurd (cc (is))
staged false true e f is same = absurd (cc (same))
staged false false true f is same = absurd (cc (same))
staged false false false true is same = absurd (cc (same))
staged false false false false is same = absurd (cc (same))

stage_taken : (g : Signs) → g.bit ≡ 0 → stage_of g ≢ Free
unfolding stage_of
stage_taken g none =
    staged (g.bit == 1) (nat_lt 0 g.claimers) (nat_lt 0 g.dying) (is_live_word g.strong)
    (ap (λ (n : ℕ). n == 1) none)

-- what a claim answered tells whether the bit was set
taken_so : (b : Bool) (w x : ℕ) → outcome.Taken w ≡ (if b then outcome.Claimed else outcome.Taken x)
    → (b ≡ false) × (w ≡ x)
taken_so true w x is = absurd (cc (is))
taken_so false w x is = (refl, cc (is))

claimed_so : (b : Bool) (x : ℕ) → outcome.Claimed ≡ (if b then outcome.Claimed else outcome.Taken x)
    → b ≡ true
claimed_so true x is = refl
claimed_so false x is = absurd (cc (is))

still_claim : (p q : Plain) (m : ℕ) (b : Bool) (s : SlotId) → b ≡ false
    → Does p 0 (if b then plain.Claim s else plain.Still) m q → q ≡ p
still_claim p q m true s is does = absurd (cc (is))
still_claim p q m false s is does = does.1.1

one_claim : (p q : Plain) (m : ℕ) (b : Bool) (s : SlotId) → b ≡ true
    → Does p 0 (if b then plain.Claim s else plain.Still) m q → Does p 0 (plain.Claim s) m q
one_claim p q m true s is does = does
one_claim p q m false s is does = absurd (cc (is))

module _ {P V : Type 0} (fits : List ℕ → Type 0) (d : DomainState P) where
  -- after its tries the seat knows the same plain state, in which each slot that was shown taken isn't free
  pub record Tried (ts : List Try) (ms : List Move) (old new : SeatState V) : Type 0 where
    pub mid : SeatState V
    pub knows : Knows mid
    pub same : known_plain d mid ≡ known_plain d old
    pub phase : mid.view.core.phase ≡ old.view.core.phase
    pub taken :
        (s : SlotId) → s.0 < d.shape.slots → IsShownTaken s ts
        → stage_at (known_plain d old) s ≢ Free
    pub walks : Walks fits d ms mid new

  -- a claim that found its slot taken showed the others of its word that it found clear taken too
  shown_clear : (t : Try) (s : SlotId) (old new : SeatState V) (o : Outcome) → Knows old
      → (step : Steps fits d same_view IsSameView (act.Claim t.slot) old new o)
      → t.word ≡ step.word → s.0 < d.shape.slots → bits_of t.slot ≡ bits_of s
      → bit_in s t.word ≡ 0 → stage_at (known_plain d old) s ≢ Free
  shown_clear t s old new o knows step is there bits clear free =
      let c = step.told.happened.before in
      let at : bits_at d.shape t.slot ≡ bits_at d.shape s =
      ap (λ (k : ℕ). slot_at d.shape d.shape.slots + k) bits in
      let word : step.word ≡ slice_index c.words (bits_at d.shape s) =
      step.told.happened.found ∙ ap (slice_index c.words) at in
      let bit : (signs d.shape c s).bit ≡ 0 = ap (bit_in s) (sym word ∙ sym is) ∙ clear in
      stage_taken (signs d.shape c s) bit
      (sym (shown_stage d.shape c s there)
      ∙ ap (λ (x : Core). stage_at (shows d.shape x) s) (sym (known_before step.told knows.known))
      ∙ free)

  tries_still : (ts : List Try) (ms : List Move) (old new : SeatState V) → Knows old
      → Walks fits d (taken_by ts ++ ms) old new → Tried ts ms old new
  tries_still [] ms old new knows walks = record {
    mid = old;
    knows = knows;
    same = refl;
    phase = refl;
    taken = λ s there shown. absurd shown;
    walks = walks;
  }
  tries_still (t ∷ ts) ms old new knows walks =
      let one : Move = move (act.Claim t.slot) (outcome.Taken t.word) in
      let first = tries_still ts (one ∷ ms) old new knows
      (subst (λ (xs : List Move). Walks fits d xs old new)
      (append_assoc (taken_by ts) (one ∷ []) ms) walks) in
      let a = first.mid in
      let b = first.walks.0 in
      let step = first.walks.1 in
      let is = taken_so (bit_in t.slot step.word == 1) t.word step.word step.answers in
      let does = step_does d (act.Claim t.slot) a b _ step first.knows.root first.knows.known in
      record {
        mid = b;
        knows = knows_on d (act.Claim t.slot) a b _ first.knows step;
        same =
            still_claim (known_plain d a) (known_plain d b) _ (bit_in t.slot step.word == 1) t.slot is.0
            does
            ∙ first.same;
        phase =
            ap (λ (v : CoreView). v.phase) step.told.core
            ∙ (rw is.0 refl)
            ∙ first.phase;
        taken = λ s there shown. ⊎_elim
            (λ (now : (bits_of t.slot ≡ bits_of s) × (bit_in s t.word ≡ 0)).
            subst (λ (p : Plain). stage_at p s ≢ Free) first.same
            (shown_clear t s a b _ first.knows step is.1 there now.0 now.1))
            (λ (was : IsShownTaken s ts). first.taken s there was)
            shown;
        walks = first.walks.2;
      }

  -- each word of a payload is one plain step
  fill_runs : (s : SlotId) (payload words : List ℕ) (i n : ℕ) (more : List PlainAct) (q : Plain)
      (old new : SeatState V) → length words ≡ n
      → ((k : ℕ) → slice_index payload (i + k) ≡ slice_index words k) → Knows old
      → old.view.core.phase ≡ phase.Blank s
      → Walks fits d
      (each_from i n (λ j. move (act.Fill j (slice_index payload j)) outcome.Plain)) old new
      → (Knows new → new.view.core.phase ≡ phase.Blank s → Runs (known_plain d new) 0 more q)
      → Runs (known_plain d old) 0 (fills s i words ++ more) q
  fill_runs s payload [] i zero more q old new many same knows blank walks after =
      subst (λ (x : SeatState V). Runs (known_plain d x) 0 more q) walks
      (after (subst Knows (sym walks) knows) (ap (λ (x : SeatState V). x.view.core.phase) walks ∙ blank))
  fill_runs s payload [] i (suc n) more q old new many same knows blank walks after =
      absurd (omega arith)
  fill_runs s payload (w ∷ ws) i zero more q old new many same knows blank walks after =
      absurd (omega arith)
  fill_runs s payload (w ∷ ws) i (suc n) more q old new many same knows blank walks after =
      let mid = walks.0 in
      let step = walks.1 in
      let at : i + 0 ≡ i = omega arith in
      let word : slice_index payload i ≡ w = ap (slice_index payload) (sym at) ∙ same 0 in
      let a = act.Fill i (slice_index payload i) in
      let does = step_does d a old mid _ step knows.root knows.known in
      let is : Does (known_plain d old) 0 (plain.Fill s i w) 0 (known_plain d mid) =
      subst (λ (x : Phase × ℕ).
      Does (known_plain d old) 0 (on_slot (λ y. plain.Fill y i x.1) (slot_of x.0)) 0 (known_plain d mid))
      (λ j. (blank j, word j)) does in (
        known_plain d mid,
        0,
        is,
        fill_runs s payload ws (i + 1) n more q mid new (omega arith)
            (λ k. let e : i + 1 + k ≡ i + suc k = omega arith in
            ap (slice_index payload) e ∙ same (suc k))
            (knows_on d a old mid _ knows step)
            (ap (λ (v : CoreView). v.phase) step.told.core ∙ blank) walks.2 after,
      )

  module _ {next : OwnPart → OwnPart → V → PlainAct → ℕ → V}
      {allows : Plain → Plain → ℕ → V → V → Type 0} (payload : List ℕ) (s : SlotId)
      (old new : SeatState V) (ready : IsReady d old) (rest : IsAtRest d new)
      (room : HasRoom old.view.core → HasRoom new.view.core)
      (makes : Makes fits d next allows payload s old new) where
    pub make_shown : length payload ≡ 16
        → store.Makes (known_plain d old) s payload (known_plain d new)
    make_shown many =
        let b = makes.begins in
        let tried = tries_still b.tries
        (move (act.Claim s) outcome.Claimed ∷ move act.Arm outcome.Plain ∷ filled_by payload)
        old makes.mid (knows_ready d old ready) b.goes.becomes.walks in
        let m0 = tried.mid in
        let m1 = tried.walks.0 in
        let claim = tried.walks.1 in
        let m2 = tried.walks.2.0 in
        let arm = tried.walks.2.1 in
        let set = claimed_so (bit_in s claim.word == 1) claim.word claim.answers in
        let k1 = knows_on d (act.Claim s) m0 m1 _ tried.knows claim in
        let k2 = knows_on d act.Arm m1 m2 _ k1 arm in
        let bare : m1.view.core.phase ≡ phase.Bare s =
        ap (λ (v : CoreView). v.phase) claim.told.core ∙ (rw set refl) in
        let blank : m2.view.core.phase ≡ phase.Blank s =
        ap (λ (v : CoreView). v.phase) arm.told.core ∙ ap (λ (x : Phase). about phase.Blank (slot_of x)) bare in
        let first = one_claim (known_plain d m0) (known_plain d m1) 0 (bit_in s claim.word == 1) s set
        (step_does d (act.Claim s) m0 m1 _ claim tried.knows.root tried.knows.known) in
        let armed : known_plain d m2 ≡ known_plain d m1 =
        (step_does d act.Arm m1 m2 _ arm k1.root k1.known).1.1 in
        let start = makes.starts.walks.1 in
        let m4 = makes.starts.walks.0 in
        let last : known_plain d new ≡ known_plain d m4 = ap (known_plain d) makes.starts.walks.2 in
        let fill = fill_runs s payload payload 0 16 (plain.Make s ∷ []) (known_plain d new) m2 makes.mid
        many (λ k. let e : 0 + k ≡ k = omega arith in ap (slice_index payload) e) k2 blank
        tried.walks.2.2
        (λ knows is. (
          known_plain d m4,
          0,
          subst (λ (x : Phase).
              Does (known_plain d makes.mid) 0 (on_slot plain.Make (slot_of x)) 0 (known_plain d m4)) is
              (step_does d act.Start makes.mid m4 _ start knows.root knows.known),
          last,
        )) in (
          known_plain d m1,
          0,
          subst (λ (p : Plain). Does p 0 (plain.Claim s) 0 (known_plain d m1)) tried.same first,
          subst (λ (p : Plain).
              Runs p 0 (fills s 0 payload ++ plain.Make s ∷ []) (known_plain d new)) armed fill,
        )

    pub make_ready : IsReady d new
    make_ready =
        let b = makes.begins in
        let begun = walk_mine fits d same_view IsSameView (begun_by b.tries s payload) old makes.mid
        (knows_ready d old ready) ready.mine b.goes.becomes.walks in
        let on = walk_mine fits d next allows (move act.Start outcome.Plain ∷ []) makes.mid new begun.0
        begun.1 makes.starts.walks in
        ready_still d old new ready on.0 on.1 (ap kept_of makes.core) rest (room ready.room)

  module _ (old new : SeatState V) (ready : IsReady d old) (misses : Misses fits d old new) where
    missed : Tried misses.tries [] old new
    missed =
        tries_still misses.tries [] old new (knows_ready d old ready)
        (subst (λ (ms : List Move). Walks fits d ms old new)
        (sym (append_nil (taken_by misses.tries))) misses.goes.becomes.walks)

    -- a make that found no slot leaves the plain state, in which none is free
    pub full_same : known_plain d new ≡ known_plain d old
    full_same = ap (known_plain d) missed.walks ∙ missed.same

    pub full_none : NoneFree (known_plain d old)
    full_none =
        let size = length_each 0 d.shape.slots
        (λ x. show_slot d.shape (known_core old.view) (record { 0 = x })) in
        All-from_get_or (λ (x : PlainSlot). x.stage ≢ Free) (known_plain d old).slots new_slot
        (λ k inside.
        missed.taken (record { 0 = k }) (omega arith)
        (misses.all_taken (record { 0 = k }) (omega arith)))

    pub full_ready : IsAtRest d new → (HasRoom old.view.core → HasRoom new.view.core)
        → IsReady d new
    full_ready rest room =
        let on = walk_mine fits d same_view IsSameView (taken_by misses.tries) old new
        (knows_ready d old ready) ready.mine misses.goes.becomes.walks in
        ready_still d old new ready on.0 on.1 (ap kept_of misses.goes.becomes.core) rest
        (room ready.room)

  -- whatever a make answered
  pub made_ready : (next : OwnPart → OwnPart → V → PlainAct → ℕ → V)
      (allows : Plain → Plain → ℕ → V → V → Type 0) (payload : List ℕ)
      (r : Result Handle MakeError) (old new : SeatState V) → IsReady d old → IsAtRest d new
      → (HasRoom old.view.core → HasRoom new.view.core)
      → (r ≡ Err refused.MakesSpent → new ≡ old) → (r ≡ Err refused.AddsSpent → new ≡ old)
      → (r ≡ Err refused.Full → Misses fits d old new)
      → IfOk r (λ strong. Makes fits d next allows payload strong.slot old new) → IsReady d new
  made_ready next allows payload (Ok h) old new ready rest room no_make no_add full made =
      make_ready payload h.slot old new ready rest room made
  made_ready next allows payload (Err refused.MakesSpent) old new ready rest room no_make no_add full made =
      subst (IsReady d) (sym (no_make refl)) ready
  made_ready next allows payload (Err refused.AddsSpent) old new ready rest room no_make no_add full made =
      subst (IsReady d) (sym (no_add refl)) ready
  made_ready next allows payload (Err refused.Full) old new ready rest room no_make no_add full made =
      full_ready old new ready (full refl) rest room
