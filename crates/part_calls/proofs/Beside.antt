-- What a call leaves of a client's view beside a part.
use Rattle.std.proofs.Common.{◌≡◌, ℕ, List, refl, ap, sym, ◌∙◌}
use Rattle.std.specs.Prelude.{Err, IfErr, IfOk, Ok, OnErr, Option, Result, Some, None}
use Rattle.control_word.specs.plain_state.declared.act.EventPlace.{EventPlace}
use Rattle.control_word.specs.plain_state.declared.act.PlainAct.{PlainAct}
use Rattle.control_word.specs.plain_state.declared.slot.SlotId.{SlotId}
use Rattle.control_word.specs.plain_state.State.{Plain}
use Rattle.control_word.specs.plain_protocol.Owns.{OwnPart}
use Rattle.control_word.specs.core_events.declared.act.Act.{Act}
use Rattle.control_word.specs.core_events.declared.outcome.Outcome.{Outcome}
use Rattle.control_word.specs.core_events.declared.view.Move.{Move}
use Rattle.control_word.specs.core_events.Words.{slot_in}
use Rattle.control_word.specs.counted_handles.Handles.{Handle}
use Rattle.control_word.specs.counted_handles.declared.refusal.LoadError.{LoadError}
use Rattle.control_word.specs.counted_handles.declared.refusal.LoadError.TheVariants as unloaded
use Rattle.control_word.specs.acquire_retire.Calls.{Steps}
use Rattle.atomic_shared.specs.Places.{named}
use Rattle.atomic_shared.specs.declared.storing.Lost.{Lost}
use Rattle.control_word.specs.acquire_retire.Domains.{DomainState}
use Rattle.control_word.specs.acquire_retire.Seats.{SeatState}
use Rattle.control_word.specs.Resting.{IsAtRest}
use Rattle.atomic_shared.specs.protected_loads.Loads.{Misses}
use Rattle.atomic_shared.specs.protected_loads.References.{Loads}
use Rattle.atomic_shared.proofs.Below.protected_loads_Learning.{client_found, client_moved, client_null}
use Rattle.slot_store.specs.protocol_pairs.Parts.{PutsBack, PutsOver}
use Rattle.atomic_shared.specs.retiring_stores.Exchanging.{Exchanges, LosesTo, Replaces}
use Rattle.slot_store.specs.Calls.{Makes}
use Rattle.part_calls.specs.Parts.{HasBeside, StaysBeside}
use Rattle.part_calls.proofs.Seen.{lifted_next}

module _ {V W : Type 0} (seen : V → W) (with_seen : V → W → V) (gone : W)
    (over : PutsOver with_seen) where
  -- the client's view stays, or gets another view of the part
  pub beside_same : (old new : SeatState V) → new.view.client ≡ old.view.client
      → HasBeside with_seen gone old new
  beside_same old new is = ap (λ (v : V). with_seen v gone) is

  beside_put : (old new : SeatState V) (v : V) (w : W) → v ≡ old.view.client
      → new.view.client ≡ with_seen v w → HasBeside with_seen gone old new
  beside_put old new v w same is =
      ap (λ (u : V). with_seen u gone) is ∙ over v w gone ∙ ap (λ (u : V). with_seen u gone) same

  -- the deeds of a part
  module _ {P : Type 0} (fits : List ℕ → Type 0) (d : DomainState P)
      (next : OwnPart → OwnPart → W → PlainAct → ℕ → W)
      (allows : Plain → Plain → ℕ → V → V → Type 0) (old new : SeatState V) where
    pub step_beside : (a : Act) (o : Outcome)
        → Steps fits d (lifted_next seen with_seen next) allows a old new o
        → HasBeside with_seen gone old new
    step_beside a o step = beside_put old new old.view.client _ refl step.told.client

    pub loads_beside : (place : EventPlace) (found : Option SlotId) → IsAtRest d old
        → Loads fits d place (lifted_next seen with_seen next) allows found old new
        → HasBeside with_seen gone old new
    loads_beside place None rest l =
        beside_put old new old.view.client _ refl (client_null d place old new l)
    loads_beside place (Some s) rest l =
        beside_put old new l.protects.mid.view.client _ l.protects.announces.client
        (client_found d place old new s rest l)

    pub misses_beside : (place : EventPlace) (was now : Option SlotId)
        → Misses fits d 0 place (lifted_next seen with_seen next) allows was now old new
        → HasBeside with_seen gone old new
    misses_beside place was now m =
        beside_put old new m.mid.view.client _ m.announces.client
        (client_moved d place old new was now m)

    pub exchanges_beside : (p : EventPlace) (m : Move) (given held : Option SlotId)
        → Exchanges fits d (lifted_next seen with_seen next) allows p m given held old new
        → HasBeside with_seen gone old new
    exchanges_beside p m given held e =
        beside_put old new old.view.client _ refl (e.client ∙ e.puts.step.told.client)

    pub loses_beside : (p : EventPlace) (given expected : Option SlotId) (now : ℕ)
        → LosesTo fits d (lifted_next seen with_seen next) allows p given expected now old new
        → HasBeside with_seen gone old new
    loses_beside p given expected now l =
        let by = l.loses.becomes in
        beside_put old new old.view.client _ refl
        (ap (λ (z : SeatState V). z.view.client) by.walks.2 ∙ by.walks.1.told.client)

    pub makes_beside : (payload : List ℕ) (s : SlotId)
        → Makes fits d (lifted_next seen with_seen next) allows payload s old new
        → HasBeside with_seen gone old new
    makes_beside payload s m =
        beside_put old new m.mid.view.client _ m.begins.goes.client
        (ap (λ (z : SeatState V). z.view.client) m.starts.walks.2
        ∙ m.starts.walks.1.told.client)

    -- whatever a load answers
    pub load_beside : (place : EventPlace) (r : Result (Option Handle) LoadError) → IsAtRest d old
        → (r ≡ Err unloaded.Spent → new ≡ old)
        → IfOk r (λ found. Loads fits d place (lifted_next seen with_seen next) allows (named found)
        old new)
        → ((was now : ℕ) → r ≡ Err (unloaded.Moved was now)
        → Misses fits d 0 place (lifted_next seen with_seen next) allows (slot_in was) (slot_in now)
        old new)
        → HasBeside with_seen gone old new
    load_beside place (Ok found) rest same l moved = loads_beside place (named found) rest l
    load_beside place (Err unloaded.Spent) rest same l moved =
        beside_same old new (ap (λ (z : SeatState V). z.view.client) (same refl))
    load_beside place (Err (unloaded.Moved was now)) rest same l moved =
        misses_beside place (slot_in was) (slot_in now) (moved was now refl)

    -- whatever an exchange answers
    pub replace_beside : (p : EventPlace) (given expected : Option SlotId)
        (r : Result (Unit {0}) Lost)
        → IfOk r (λ done. Replaces fits d (lifted_next seen with_seen next) allows p given expected
        old new)
        → IfErr r (λ lost. LosesTo fits d (lifted_next seen with_seen next) allows p given expected
        lost.now old new)
        → HasBeside with_seen gone old new
    replace_beside p given expected (Ok done) replaced lost =
        exchanges_beside p _ given expected replaced
    replace_beside p given expected (Err e) replaced lost =
        loses_beside p given expected e.now lost

    -- and whatever a make answers
    pub make_beside : {E : Type 0} (payload : List ℕ) (r : Result Handle E)
        → IfOk r (λ strong. Makes fits d (lifted_next seen with_seen next) allows payload
        strong.slot old new)
        → OnErr r (new.view.client ≡ old.view.client) → HasBeside with_seen gone old new
    make_beside payload (Ok strong) made client = makes_beside payload strong.slot made
    make_beside payload (Err e) made client = beside_same old new client

-- with nothing of the part in them two views are the same: then they differ in the part alone
pub stays_beside : {V W : Type 0} (seen : V → W) (with_seen : V → W → V) (gone : W)
    → PutsBack seen with_seen → PutsOver with_seen → (old new : SeatState V)
    → HasBeside with_seen gone old new → StaysBeside seen with_seen old new
stays_beside seen with_seen gone back over old new same =
    let mine = seen new.view.client in
    sym (back new.view.client) ∙ sym (over new.view.client gone mine)
    ∙ ap (λ v. with_seen v mine) same ∙ over old.view.client gone mine
