-- A seat that plays may begin each call, and each call leaves it so.
use Rattle.std.proofs.Common.{◌≡◌, ℕ, ◌+◌, false, true, List, [], ◌∷◌, refl, ap, sym, ◌∙◌, subst, arith}
use Rattle.std.specs.Prelude.{slice_index_or}
use Rattle.version_making.specs.map_law.declared.view.View.{View}
use Rattle.version_making.specs.map_law.Views.{first_view}
use Rattle.version_making.specs.slot_store.core_events.declared.view.Note.TheVariants as stands
use Rattle.version_making.specs.slot_store.core_events.declared.view.CoreView.{CoreView}
use Rattle.version_making.specs.slot_store.core_events.Steps.{HasRoom}
use Rattle.version_making.specs.slot_store.core_events.Views.{no_notes, note_of}
use Rattle.version_making.specs.slot_store.acquire_retire.Domains.{DomainState}
use Rattle.version_making.specs.slot_store.acquire_retire.Seats.{SeatState}
use Rattle.version_making.specs.slot_store.control_word.Resting.{IsAtRest}
use Rattle.version_reading.specs.Reading.{Reads}
use Rattle.version_map.specs.Maps.{CanRead, HasTwoFree}
use Rattle.version_map.specs.Playing.{Plays}
use Rattle.version_making.specs.Keeping.{IsReadyFor, aside}
use Rattle.version_making.specs.map_law.plain_state.declared.slot.SlotId.{SlotId}
use Rattle.version_making.specs.map_law.plain_state.Lists.{times}
use Rattle.version_making.specs.map_protocol.declared.law.MapLaw.{MapLaw}
use Rattle.version_making.proofs.Below.core_law_Kit.{one_same, times_cons, times_none}
use Rattle.version_map.specs.Retrying.{LeavesSome}
use Rattle.version_map.specs.Updating.{Leaves}
use Rattle.version_map.proofs.Retries.{MayTry, one_leaves}

two_free : (v : CoreView) → v.notes ≡ no_notes → HasTwoFree v
two_free v none = (1, 2, omega arith, omega arith, omega arith, idle 1 refl, idle 2 refl)
  where
    idle : (j : ℕ) → slice_index_or no_notes j stands.Idle ≡ stands.Idle
        → note_of v j ≡ stands.Idle
    idle j is = ap (λ ns. slice_index_or ns j stands.Idle) none ∙ is

-- a list in which no slot stands has nothing
no_times : (ss : List SlotId) → ((s : SlotId) → times s ss ≡ 0) → ss ≡ []
no_times [] none = refl
no_times (s ∷ ss) none =
    let here = none s in let all = times_cons s s ss in let one = one_same s s refl in
    absurd (omega (arith, here, all, one))

can_of : (s : SeatState View) → s.view.client.here ≡ true → s.view.core.notes ≡ no_notes
    → CanRead s
can_of s here none = record { here = here; free = two_free s.view.core none }

module _ {P : Type 0} (d : DomainState P) (a : SeatState View) where
  pub can_read : Plays d a → CanRead a
  can_read plays = plays.can

  pub begins : (n : ℕ) → IsAtRest d a → HasRoom a.view.core → a.view.core.notes ≡ no_notes
      → a.view.core.owned ≡ [] → a.view.core.weaks ≡ [] → a.view.client ≡ first_view n
      → Plays d a
  begins n rest room notes owned weaks client = record {
    ready = record { rest = rest; room = room; here = ap (λ (v : View). v.here) client };
    notes = notes;
    owned = owned;
    weaks = weaks;
    can = can_of a (ap (λ (v : View). v.here) client) notes;
    uncleared = ap (λ (v : View). v.cleared) client;
  }

  pub has_read : (b : SeatState View) → Plays d a → Reads a.view.core a b → IsAtRest d b → Plays d b
  has_read b plays reads rest = record {
    ready = record {
      rest = rest;
      room = subst HasRoom (sym reads.core) plays.ready.room;
      here = ap (λ (v : View). v.here) reads.learns.same ∙ plays.ready.here;
    };
    notes = ap (λ (v : CoreView). v.notes) reads.core ∙ plays.notes;
    owned = ap (λ (v : CoreView). v.owned) reads.core ∙ plays.owned;
    weaks = ap (λ (v : CoreView). v.weaks) reads.core ∙ plays.weaks;
    can = can_of b (ap (λ (v : View). v.here) reads.learns.same ∙ plays.ready.here)
        (ap (λ (v : CoreView). v.notes) reads.core ∙ plays.notes);
    uncleared = ap (λ (v : View). v.cleared) reads.learns.same ∙ plays.uncleared;
  }

  -- what a call leaves that gives no reference and gains none
  pub still_plays : (b : SeatState View) → Plays d a
      → ((x : SlotId) → times x b.view.core.owned + 0 ≡ times x a.view.core.owned + 0)
      → aside b.view.core ≡ aside a.view.core → b.view.client.cleared ≡ false → IsReadyFor d b
      → Plays d b
  still_plays b plays owns same uncleared ready = record {
    ready = ready;
    notes = ap (λ (v : CoreView). v.notes) same ∙ plays.notes;
    owned = no_times b.view.core.owned
        (λ x. let kept = owns x in
        let none = ap (times x) plays.owned ∙ times_none x in omega arith);
    weaks = ap (λ (v : CoreView). v.weaks) same ∙ plays.weaks;
    can = can_of b ready.here (ap (λ (v : CoreView). v.notes) same ∙ plays.notes);
    uncleared = uncleared;
  }

  pub has_updated : (b : SeatState View) → Plays d a → LeavesSome a b
      → b.view.client.cleared ≡ false → IsReadyFor d b → Plays d b
  has_updated b plays leaves =
      still_plays b plays leaves.keeps.owns leaves.keeps.same

-- one update
pub plays_after_one : (d : DomainState MapLaw) (c : ℕ) (a b : SeatState View) → Leaves d c a b
    → b.view.client.cleared ≡ false → IsReadyFor d b → Plays d a → Plays d b
plays_after_one d c a b leaves uncleared ready plays =
    has_updated d a b plays (one_leaves d c a b leaves) uncleared ready

-- and some that were lost
pub plays_after_tries : (d : DomainState MapLaw) (c : ℕ) (a b : SeatState View) → MayTry d c a b
    → Plays d a → Plays d b
plays_after_tries d c a b may plays =
    still_plays d a b plays may.tried.keeps.owns may.tried.keeps.same may.uncleared may.ready
