-- A seat that plays and has reaped plays still.
use Rattle.std.proofs.Common.{◌≡◌, ⊎_elim, ℕ, List, Option, Some, None, ap, ◌∙◌}
use Rattle.std.specs.Prelude.{slice_index_or}
use Rattle.seat_life.specs.domain_audit.core_events.declared.view.CoreView.{CoreView}
use Rattle.seat_life.specs.domain_audit.core_events.declared.view.Note.TheVariants as stands
use Rattle.seat_life.specs.domain_audit.core_events.Steps.{HasRoom}
use Rattle.seat_life.specs.domain_audit.acquire_retire.Collecting.{rest_of}
use Rattle.seat_life.specs.domain_audit.acquire_retire.Domains.{DomainState}
use Rattle.seat_life.specs.domain_audit.acquire_retire.Seats.{SeatState}
use Rattle.seat_life.specs.domain_audit.control_word.Resting.{IsAtRest}
use Rattle.seat_life.specs.domain_audit.slot_store.Reaping.{Answers}
use Rattle.map_rest.specs.map_law.declared.view.View.{View}
use Rattle.version_map.specs.Playing.{Plays}

-- whatever a reap answers, the seat has what it had beside its batch and its dying and ripe slots
reap_rest : {P V : Type 0} (fits : List ℕ → Type 0) (d : DomainState P) (weight : List ℕ → ℕ)
    (answer : Option ℕ) (old new : SeatState V) → Answers fits d weight answer old new
    → rest_of new.view.core ≡ rest_of old.view.core
reap_rest {V = V} fits d weight None old new none = ⊎_elim
    (λ idle. ap (λ (x : SeatState V). rest_of x.view.core) idle.1)
    (λ waits. waits.1.collected.collects.goes.rest)
    none
reap_rest fits d weight (Some answer) old new reaps = reaps.same

module _ {P : Type 0} (fits : List ℕ → Type 0) (d : DomainState P) (weight : List ℕ → ℕ)
    (answer : Option ℕ) (a b : SeatState View) (plays : Plays d a)
    (reaps : Answers fits d weight answer a b) (client : b.view.client ≡ a.view.client)
    (room : HasRoom b.view.core) (rest : IsAtRest d b) where
  same : rest_of b.view.core ≡ rest_of a.view.core
  same = reap_rest fits d weight answer a b reaps

  here : b.view.client.here ≡ a.view.client.here
  here = ap (λ (v : View). v.here) client

  pub plays_tidied : Plays d b
  plays_tidied =
      let free = plays.can.free in
      let idle : (j : ℕ) → slice_index_or b.view.core.notes j stands.Idle
      ≡ slice_index_or a.view.core.notes j stands.Idle =
      λ j. ap (λ (v : CoreView). slice_index_or v.notes j stands.Idle) same in
      record {
        ready = record { rest = rest; room = room; here = here ∙ plays.ready.here };
        notes = ap (λ (v : CoreView). v.notes) same ∙ plays.notes;
        owned = ap (λ (v : CoreView). v.owned) same ∙ plays.owned;
        weaks = ap (λ (v : CoreView). v.weaks) same ∙ plays.weaks;
        can = record {
          here = here ∙ plays.can.here;
          free = (free.0, free.1, free.2, free.3, free.4, idle free.0 ∙ free.5, idle free.1 ∙ free.6);
        };
        uncleared = ap (λ (v : View). v.cleared) client ∙ plays.uncleared;
      }
