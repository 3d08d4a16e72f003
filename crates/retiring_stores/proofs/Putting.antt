-- One step that puts something into a place.
use Rattle.std.proofs.Common.{◌≡◌, ◌≢◌, ℕ, Bool, true, false, List, [], ◌∷◌, ◌++◌, refl, ap, sym, ◌∙◌, subst, arith}
use Rattle.std.specs.Prelude.{Option, ◌==◌, slice_index, slice_set, if◌then◌else◌}
use Rattle.std.proofs.lemmas.Bool.Decides.{nat_tests}
use Rattle.std.proofs.lemmas.List.{get_or-set_same}
use Rattle.control_word.specs.plain_state.declared.act.EventPlace.{EventPlace}
use Rattle.control_word.specs.plain_state.declared.act.PlainAct.{PlainAct}
use Rattle.control_word.specs.plain_state.declared.slot.SlotId.{SlotId}
use Rattle.control_word.specs.plain_state.Places.{content, place_kind}
use Rattle.control_word.specs.plain_state.State.{Plain}
use Rattle.control_word.specs.plain_state.Steps.{word_of}
use Rattle.control_word.specs.plain_protocol.Owns.{OwnPart}
use Rattle.control_word.specs.core_events.declared.act.Act.{Act}
use Rattle.control_word.specs.core_events.declared.act.Act.TheVariants as act
use Rattle.control_word.specs.core_events.declared.outcome.Outcome.{Outcome}
use Rattle.control_word.specs.core_events.declared.outcome.Outcome.TheVariants as outcome
use Rattle.control_word.specs.core_events.declared.view.CoreView.{CoreView}
use Rattle.control_word.specs.core_events.declared.view.Move.{Move}
use Rattle.control_word.specs.core_events.Good.{SeatLaw}
use Rattle.control_word.specs.core_events.Runs.{after, found, view_at}
use Rattle.control_word.specs.core_events.Shows.{shows}
use Rattle.control_word.specs.core_events.Steps.{answer, changed, exchanged, next as next_word, place}
use Rattle.control_word.specs.core_events.Words.{place_at, slot_in}
use Rattle.control_word.proofs.Below.core_law_InRange.{open_in_range, put_in_range}
use Rattle.control_word.proofs.Below.core_law_Writes.{IsPlace, place_bound}
use Rattle.control_word.proofs.Below.core_law_Trails.{changed_trail}
use Rattle.control_word.proofs.Below.core_law_ShownPlaces.{shown_content, slot_word}
use Rattle.control_word.specs.acquire_retire.Calls.{Steps}
use Rattle.control_word.specs.acquire_retire.Collecting.{move}
use Rattle.control_word.specs.acquire_retire.Domains.{DomainState}
use Rattle.control_word.specs.acquire_retire.Seats.{SeatState}
use Rattle.retiring_stores.specs.Exchanging.{Puts, with_exchanged}
use Rattle.retiring_stores.proofs.Rooming.{sound_before}

-- what an exchange that expects something answers by the word that it finds
or_done : (b : Bool) (x : Option SlotId)
    → (if b then outcome.Done else outcome.LostTo x) ≢ outcome.LostTo x
    → (if b then outcome.Done else outcome.LostTo x) ≡ outcome.Done
or_done true x not = refl
or_done false x not = absurd (not refl)

is_done : (w : ℕ) (expected : Option SlotId)
    → (if w == word_of expected then outcome.Done else outcome.LostTo (slot_in w)) ≡ outcome.Done
    → (w == word_of expected) ≡ true
is_done w expected = go (w == word_of expected)
  where
    go : (b : Bool) → (if b then outcome.Done else outcome.LostTo (slot_in w)) ≡ outcome.Done
        → b ≡ true
    go true done = refl
    go false done = absurd (cc (done))

module _ {P V : Type 0} {fits : List ℕ → Type 0} (d : DomainState P)
    {next : OwnPart → OwnPart → V → PlainAct → ℕ → V}
    {allows : Plain → Plain → ℕ → V → V → Type 0} (p : EventPlace) (old new : SeatState V) where
  -- the word of the place before a step on it, and after one that puts something there
  pub shows_slot : (a : Act) (o : Outcome) (step : Steps fits d next allows a old new o)
      → ((v : CoreView) → place d.shape a v ≡ place_at d.shape p) → IsPlace d.shape p
      → content (shows d.shape step.told.happened.before) p ≡ slot_in step.word
  shows_slot a o step at there =
      shown_content d.shape step.told.happened.before p there
      ∙ ap slot_in
      (ap (λ (i : ℕ). slice_index step.told.happened.before.words i) (sym (at _))
      ∙ sym step.told.happened.found)

  puts_slot : (a : Act) (o : Outcome) (step : Steps fits d next allows a old new o)
      (given : Option SlotId)
      → ((v : CoreView) → place d.shape a v ≡ place_at d.shape p) → IsPlace d.shape p
      → ((v : CoreView) → next_word a v step.word ≡ word_of given)
      → content (shows d.shape (after d.shape step.told.happened.before old.view.core.seat a)) p
      ≡ given
  puts_slot a o step given at there writes =
      let c = step.told.happened.before in
      let v = view_at c old.view.core.seat in
      let word : next_word a v (found d.shape c old.view.core.seat a) ≡ word_of given =
      ap (next_word a v) (sym step.told.happened.found) ∙ writes v in
      let below = place_bound d.shape p there in
      let words = (sound_before step.told).words in
      shown_content d.shape (after d.shape c old.view.core.seat a) p there
      ∙ (λ i. slot_in (slice_index (slice_set c.words (at v i) (word i)) (place_at d.shape p)))
      ∙ ap slot_in
      (get_or-set_same c.words (place_at d.shape p) (word_of given) 0 (omega arith))
      ∙ slot_word given

  -- a step that puts `given` into the place, which held `held`
  puts : (a : Act) (o : Outcome) (given held : Option SlotId) → Steps fits d next allows a old new o
      → ((v : CoreView) → place d.shape a v ≡ place_at d.shape p) → IsPlace d.shape p
      → ((v : CoreView) (w : ℕ) → slot_in w ≡ held → answer d.shape a w old.view.core ≡ o
      → (next_word a v w ≡ word_of given)
      × (changed d.shape a w old.view.core ≡ exchanged (place_kind p) given w old.view.core))
      → ((w : ℕ) → answer d.shape a w old.view.core ≡ o → slot_in w ≡ held)
      → Puts fits d next allows p (move a o) given held old new
  puts a o given held step at there writes finds =
      let w = step.word in
      let is = finds w (sym step.answers) in
      let trail : (changed d.shape a w old.view.core).trail
      ++ move a (answer d.shape a w old.view.core) ∷ []
      ≡ old.view.core.trail ++ move a o ∷ [] =
      λ i. (changed_trail d.shape a w old.view.core).trail i ++ move a (sym step.answers i) ∷ [] in
      record {
        step = step;
        shows_held = shows_slot a o step at there ∙ is;
        shows_given = puts_slot a o step given at there (λ v. (writes v w is (sym step.answers)).0);
        core =
            step.told.core
            ∙ ap (λ (t : List Move). record (changed d.shape a w old.view.core) { trail = t }) trail
            ∙ ap (λ (u : CoreView). record u { trail = old.view.core.trail ++ move a o ∷ [] })
            (writes old.view.core w is (sym step.answers)).1
            ∙ ap (λ (h : Option SlotId).
            record (with_exchanged (place_kind p) given h old.view.core)
            { trail = old.view.core.trail ++ move a o ∷ [] }) is;
        cleared = step.told.cleared;
      }

  -- the place is there
  law_before : (a : Act) (o : Outcome) (step : Steps fits d next allows a old new o)
      → SeatLaw d.shape old.view.core.seat
      (view_at step.told.happened.before old.view.core.seat)
  law_before a o step =
      let so = sound_before step.told in
      let views = so.views in
      let there = step.told.happened.enabled.0 in so.seats old.view.core.seat (omega arith)

  swap_there : (o : Outcome) (given : Option SlotId)
      → Steps fits d next allows (act.Swap p given) old new o → IsPlace d.shape p
  swap_there o given step =
      put_in_range d.shape old.view.core.seat _ (law_before (act.Swap p given) o step) p given
      step.told.happened.enabled.1

  pub cas_there : (o : Outcome) (expected given : Option SlotId)
      → Steps fits d next allows (act.Cas p expected given) old new o → IsPlace d.shape p
  cas_there o expected given step =
      open_in_range d.shape old.view.core.seat _ (law_before (act.Cas p expected given) o step) p
      step.told.happened.enabled.1.2

  pub swap_puts : (o : Outcome) (given held : Option SlotId)
      → Steps fits d next allows (act.Swap p given) old new o
      → ((x : Option SlotId) → o ≡ outcome.Found x → held ≡ x)
      → Puts fits d next allows p (move (act.Swap p given) (outcome.Found held)) given held old new
  swap_puts o given held step named =
      let is = named (slot_in step.word) step.answers in
      puts (act.Swap p given) (outcome.Found held) given held
      (subst (λ (x : Outcome). Steps fits d next allows (act.Swap p given) old new x)
      (step.answers ∙ ap outcome.Found (sym is)) step)
      (λ v. refl) (swap_there o given step) (λ v w found answers. (refl, refl))
      (λ w answers. cc (answers))

  pub cas_puts : (o : Outcome) (expected given : Option SlotId)
      → Steps fits d next allows (act.Cas p expected given) old new o
      → ((x : Option SlotId) → o ≢ outcome.LostTo x)
      → Puts fits d next allows p (move (act.Cas p expected given) outcome.Done) given expected old
      new
  cas_puts o expected given step not =
      let done = step.answers
      ∙ or_done (step.word == word_of expected) (slot_in step.word)
      (λ e. not (slot_in step.word) (step.answers ∙ e)) in
      puts (act.Cas p expected given) outcome.Done given expected
      (subst (λ (x : Outcome). Steps fits d next allows (act.Cas p expected given) old new x) done
      step)
      (λ v. refl) (cas_there o expected given step)
      (λ v w found answers.
      let test = is_done w expected answers in
      (rw test refl, rw test refl))
      (λ w answers.
      let test = is_done w expected answers in
      let same : w ≡ word_of expected = grind (arith, nat_tests) in
      ap slot_in same ∙ slot_word expected)
