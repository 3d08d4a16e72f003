-- The steps that give up a reference, and those that follow where it was the last.
use Rattle.std.proofs.Common.{ap, subst, sym, ◌≡◌, ◌≢◌, ◌⊎◌, inl, inr, ⊎_elim, ℕ, ◌+◌, ◌<◌, Bool, true, false, List, [], ◌∷◌, ◌++◌, refl, ◌∙◌, arith}
use Rattle.std.specs.Prelude.{◌==◌, if◌then◌else◌}
use Rattle.std.proofs.lemmas.Bool.Decides.{nat_tests}
use Rattle.counted_handles.specs.plain_state.declared.slot.SlotId.{SlotId}
use Rattle.counted_handles.specs.plain_state.Lists.{times}
use Rattle.acquire_retire.specs.plain_protocol.Owns.{HasSlot}
use Rattle.acquire_retire.specs.core_events.declared.act.Act.TheVariants as act
use Rattle.acquire_retire.specs.core_events.declared.outcome.Outcome.{Outcome}
use Rattle.acquire_retire.specs.core_events.declared.outcome.Outcome.TheVariants as outcome
use Rattle.acquire_retire.specs.core_events.declared.view.CoreView.{CoreView}
use Rattle.acquire_retire.specs.core_events.declared.view.Move.{Move}
use Rattle.acquire_retire.specs.core_events.declared.view.Phase.TheVariants as phase
use Rattle.acquire_retire.specs.core_events.Shows.{show_seat}
use Rattle.acquire_retire.specs.core_events.Steps.{HasRoom, answer, changed}
use Rattle.acquire_retire.specs.core_events.Views.{slot_of, without}
use Rattle.counted_handles.specs.counter_word.Words.{HELP, has_help}
use Rattle.acquire_retire.proofs.Below.core_law_Kit.{times_cons, times_none, times_without}
use Rattle.acquire_retire.specs.declared.payment.Payment.{Payment}
use Rattle.acquire_retire.specs.declared.payment.Payment.TheVariants as payment
use Rattle.acquire_retire.specs.Calls.{IsSameView, Steps, same_view}
use Rattle.acquire_retire.specs.Collecting.{ends, move}
use Rattle.acquire_retire.specs.Domains.{DomainState}
use Rattle.acquire_retire.specs.Seats.{SeatState}
use Rattle.control_word.specs.Calls.{DropsStrong, dropped_by, with_ended, without_strong}
use Rattle.control_word.specs.Moves.{KnowsStill}
use Rattle.control_word.specs.Resting.{IsAtRest}
use Rattle.control_word.proofs.Becoming.{Comes, bare, calling, comes_more}
use Rattle.control_word.proofs.Following.{end_keeps, follows, gives_up, idle_again, or_left, over}

-- what else an answer can be
or_ended : (b h : Bool)
    → (if b then outcome.Ended else if h then outcome.Help else outcome.Lost) ≢ outcome.Help
    → ((if b then outcome.Ended else if h then outcome.Help else outcome.Lost) ≡ outcome.Ended)
    ⊎ ((if b then outcome.Ended else if h then outcome.Help else outcome.Lost) ≡ outcome.Lost)
or_ended true h not = inl refl
or_ended false true not = absurd (not refl)
or_ended false false not = inr refl

or_taken : (b : Bool)
    → ((if b then outcome.Ended else outcome.NoHelp) ≡ outcome.Ended)
    ⊎ ((if b then outcome.Ended else outcome.NoHelp) ≡ outcome.NoHelp)
or_taken true = inl refl
or_taken false = inr refl

-- what the seat has without one of its references it has with it
less_has : (v : CoreView) (s x : SlotId) → 0 < times s v.owned
    → HasSlot (show_seat (without_strong s v)) x → HasSlot (show_seat v) x
less_has v s x owned has =
    let more = times_without x s v.owned owned in grind (arith, nat_tests)

-- all that a drop leaves
abbrev pub Dropped : {P V : Type 0} → (List ℕ → Type 0) → DomainState P → SlotId → SeatState V
    → SeatState V → Type 0
Dropped fits d s old new =
    DropsStrong fits d s old new × (new.view.client ≡ old.view.client)
    × KnowsStill (without_strong s old.view.core) old new × IsAtRest d new

module _ {P V : Type 0} {fits : List ℕ → Type 0} (d : DomainState P) (old : SeatState V)
    (s t : SlotId) (same : t ≡ s) (owned : 0 < times s old.view.core.owned)
    (rest : IsAtRest d old) where
  -- the drop, by its answer
  drops : (new : SeatState V) (o x : Outcome) (w : ℕ) (v : CoreView)
      → Steps fits d same_view IsSameView (act.Drop t) old new o → o ≡ x
      → answer d.shape (act.Drop s) w old.view.core ≡ x
      → bare (changed d.shape (act.Drop s) w old.view.core) ≡ bare v
      → Comes fits d (move (act.Drop s) x ∷ []) v (without_strong s old.view.core) old new
  drops new o x w v step is answers sets =
      gives_up d act.Drop s t same old new o x w v (without_strong s old.view.core) step is answers
      sets refl (λ y has. less_has old.view.core s y owned has) (λ n y it. refl)

  -- one that took the count to 0
  zeroed : (new : SeatState V) (o : Outcome)
      → Steps fits d same_view IsSameView (act.Drop t) old new o → o ≡ outcome.Zeroed
      → Comes fits d (move (act.Drop s) outcome.Zeroed ∷ [])
      (record (without_strong s old.view.core) { phase = phase.Finish s })
      (without_strong s old.view.core) old new
  zeroed new o step is =
      drops new o outcome.Zeroed 1
      (record (without_strong s old.view.core) { phase = phase.Finish s }) step is refl refl

  -- the finish after it
  finishes : (mid new : SeatState V) (o p x : Outcome) (w : ℕ) (v : CoreView)
      → Steps fits d same_view IsSameView (act.Drop t) old mid o → o ≡ outcome.Zeroed
      → Steps fits d same_view IsSameView act.Finish mid new p → p ≡ x
      → ((u : CoreView) → answer d.shape act.Finish w u ≡ x)
      → ((t : List Move) → bare (changed d.shape act.Finish w
      (record (without_strong s old.view.core) { phase = phase.Finish s; trail = t })) ≡ bare v)
      → Comes fits d (move (act.Drop s) outcome.Zeroed ∷ move act.Finish x ∷ []) v
      (without_strong s old.view.core) old new
  finishes mid new o p x w v drop zero finish is answers sets =
      let kept = without_strong s old.view.core in
      let t = old.view.core.trail ++ move (act.Drop s) outcome.Zeroed ∷ [] in
      let first = zeroed mid o drop zero in
      comes_more d (move (act.Drop s) outcome.Zeroed ∷ []) (move act.Finish x ∷ [])
      (record kept { phase = phase.Finish s }) v kept old mid new first
      (follows d kept rest.idle.0 act.Finish (phase.Finish s) t mid new p x w v first.by.core refl
      finish is (answers (record kept { phase = phase.Finish s; trail = t })) (sets t) refl
      (λ n y it. end_keeps (n == 0) (slot_of mid.view.core.phase) y it))

  -- and the taking of the help flag after that
  takes : (mid next new : SeatState V) (o p q x : Outcome) (w : ℕ) (v : CoreView)
      → Steps fits d same_view IsSameView (act.Drop t) old mid o → o ≡ outcome.Zeroed
      → Steps fits d same_view IsSameView act.Finish mid next p → p ≡ outcome.Help
      → Steps fits d same_view IsSameView act.Take next new q → q ≡ x
      → ((u : CoreView) → answer d.shape act.Take w u ≡ x)
      → ((t : List Move) → bare (changed d.shape act.Take w
      (record (without_strong s old.view.core) { phase = phase.Help s; trail = t })) ≡ bare v)
      → Comes fits d
      (move (act.Drop s) outcome.Zeroed ∷ move act.Finish outcome.Help ∷ move act.Take x ∷ []) v
      (without_strong s old.view.core) old new
  takes mid next new o p q x w v drop zero finish help take is answers sets =
      let kept = without_strong s old.view.core in
      let ms = move (act.Drop s) outcome.Zeroed ∷ move act.Finish outcome.Help ∷ [] in
      let t = old.view.core.trail ++ ms in
      let first = finishes mid next o p outcome.Help HELP (record kept { phase = phase.Help s }) drop
      zero finish help (λ u. refl) (λ t. refl) in
      comes_more d ms (move act.Take x ∷ []) (record kept { phase = phase.Help s }) v kept old next
      new first
      (follows d kept rest.idle.0 act.Take (phase.Help s) t next new q x w v first.by.core refl take
      is (answers (record kept { phase = phase.Help s; trail = t })) (sets t) refl
      (λ n y it. end_keeps (has_help n) (slot_of next.view.core.phase) y it))

  -- a drop that went so, and is over
  dropped : (how : Payment) (new : SeatState V)
      → calling (with_ended (ends how) s (without_strong s old.view.core)) ≡ calling old.view.core
      → Comes fits d (dropped_by s how) (with_ended (ends how) s (without_strong s old.view.core))
      (without_strong s old.view.core) old new
      → Dropped fits d s old new
  dropped how new same comes =
      let r = over d (dropped_by s how) (with_ended (ends how) s (without_strong s old.view.core))
      (without_strong s old.view.core) old new rest same comes in
      ((how, r.0), r.1, r.2, r.3)

  pub drop_left : (new : SeatState V) (o : Outcome)
      → Steps fits d same_view IsSameView (act.Drop t) old new o → o ≢ outcome.Zeroed
      → Dropped fits d s old new
  drop_left new o step not =
      let is =
      step.answers ∙ or_left (step.word == 1) outcome.Zeroed (λ e. not (step.answers ∙ e)) in
      dropped payment.Left new refl
      (drops new o outcome.Left 2 (without_strong s old.view.core) step is refl
      (idle_again (without_strong s old.view.core) s rest.idle.0 false []))

  pub drop_finished : (mid new : SeatState V) (o p : Outcome)
      → Steps fits d same_view IsSameView (act.Drop t) old mid o → o ≡ outcome.Zeroed
      → Steps fits d same_view IsSameView act.Finish mid new p → p ≢ outcome.Help
      → Dropped fits d s old new
  drop_finished mid new o p drop zero finish not =
      let kept = without_strong s old.view.core in
      ⊎_elim
      (λ ended. dropped payment.Ended new refl
      (finishes mid new o p outcome.Ended 0 (with_ended true s kept) drop zero finish
      (finish.answers ∙ ended) (λ u. refl) (idle_again kept s rest.idle.0 true)))
      (λ lost. dropped payment.Lost new refl
      (finishes mid new o p outcome.Lost 1 kept drop zero finish (finish.answers ∙ lost)
      (λ u. refl) (idle_again kept s rest.idle.0 false)))
      (or_ended (finish.word == 0) (has_help finish.word) (λ e. not (finish.answers ∙ e)))

  pub drop_taken : (mid next new : SeatState V) (o p q : Outcome)
      → Steps fits d same_view IsSameView (act.Drop t) old mid o → o ≡ outcome.Zeroed
      → Steps fits d same_view IsSameView act.Finish mid next p → p ≡ outcome.Help
      → Steps fits d same_view IsSameView act.Take next new q → Dropped fits d s old new
  drop_taken mid next new o p q drop zero finish help take =
      let kept = without_strong s old.view.core in
      ⊎_elim
      (λ ended. dropped payment.Helped new refl
      (takes mid next new o p q outcome.Ended HELP (with_ended true s kept) drop zero finish help
      take (take.answers ∙ ended) (λ u. refl) (idle_again kept s rest.idle.0 true)))
      (λ none. dropped payment.NoHelp new refl
      (takes mid next new o p q outcome.NoHelp 0 kept drop zero finish help take
      (take.answers ∙ none) (λ u. refl) (idle_again kept s rest.idle.0 false)))
      (or_taken (has_help take.word))

-- a seat that has room for one more retired entry has it still
room_left : (b : Bool) (s : SlotId) (v : CoreView) (t : List Move) → HasRoom v
    → HasRoom (record (with_ended b s (without_strong s v)) { trail = t })
room_left true s v t room = room
room_left false s v t room = room

pub drops_room : {P V : Type 0} {fits : List ℕ → Type 0} (d : DomainState P) (s : SlotId)
    (old new : SeatState V) → DropsStrong fits d s old new → HasRoom old.view.core
    → HasRoom new.view.core
drops_room d s old new drops room =
    subst HasRoom (sym drops.1.core) (room_left (ends drops.0) s old.view.core
    (old.view.core.trail ++ dropped_by s drops.0) room)

-- and all notes stay
notes_left : (ended : Bool) (s : SlotId) (v : CoreView)
    → (with_ended ended s (without_strong s v)).notes ≡ v.notes
notes_left true s v = refl
notes_left false s v = refl

pub drops_notes : {P V : Type 0} {fits : List ℕ → Type 0} (d : DomainState P) (s : SlotId)
    (old new : SeatState V) → DropsStrong fits d s old new
    → new.view.core.notes ≡ old.view.core.notes
drops_notes d s old new drops =
    ap (λ (v : CoreView). v.notes) drops.1.core ∙ notes_left (ends drops.0) s old.view.core

-- and the seat owns one reference to the slot fewer, and of all others as many
owned_left : (ended : Bool) (s : SlotId) (v : CoreView)
    → (with_ended ended s (without_strong s v)).owned ≡ without s v.owned
owned_left true s v = refl
owned_left false s v = refl

pub drops_owned : {P V : Type 0} {fits : List ℕ → Type 0} (d : DomainState P) (s : SlotId)
    (old new : SeatState V) → DropsStrong fits d s old new → 0 < times s old.view.core.owned
    → (x : SlotId)
    → times x new.view.core.owned + times x (s ∷ []) ≡ times x old.view.core.owned
drops_owned d s old new drops owned x =
    let left = ap (λ (v : CoreView). times x v.owned) drops.1.core
    ∙ ap (times x) (owned_left (ends drops.0) s old.view.core) in
    let fewer = times_without x s old.view.core.owned owned in
    let one = times_cons x s [] in
    let none = times_none x in omega arith
