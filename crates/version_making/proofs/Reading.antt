-- A look at a field of a node that the seat owns.
use Rattle.std.proofs.Common.{◌≡◌, ℕ, ◌<◌, true, [], ◌∷◌, refl, ap, sym, ◌∙◌, subst, arith}
use Rattle.std.specs.Prelude.{◌⊎◌, Option}
use Rattle.map_law.specs.plain_state.declared.act.EventPlace.TheVariants.{Field}
use Rattle.map_law.specs.plain_state.declared.act.PlainAct.{PlainAct}
use Rattle.map_law.specs.plain_state.declared.slot.SlotId.{SlotId}
use Rattle.map_law.specs.plain_state.Lists.{times}
use Rattle.map_law.specs.plain_protocol.Owns.{Object}
use Rattle.map_law.specs.declared.view.View.{View}
use Rattle.map_law.specs.Nodes.{IsNode}
use Rattle.map_law.specs.Lessons.{ReadReady, Reads, led_by, read_next, read_of}
use Rattle.map_law.specs.Making.{Known, frozen}
use Rattle.slot_store.specs.core_events.declared.act.Act.TheVariants as act
use Rattle.slot_store.specs.core_events.declared.outcome.Outcome.{Outcome}
use Rattle.slot_store.specs.acquire_retire.Calls.{Steps}
use Rattle.slot_store.specs.acquire_retire.Collecting.{move}
use Rattle.slot_store.specs.acquire_retire.Domains.{DomainState}
use Rattle.slot_store.specs.acquire_retire.Seats.{SeatState}
use Rattle.slot_store.specs.control_word.Moves.{Becomes, KnowsStill}
use Rattle.slot_store.proofs.Below.control_word_Becoming.{knows_after, one_step, rest_after}
use Rattle.slot_store.specs.domain_rule.Views.{object_in, own_of}
use Rattle.version_making.specs.Deeds.{OpenTells}
use Rattle.version_making.specs.Keeping.{Grows, Keeps, IsReadyFor, none}
use Rattle.version_making.proofs.Growing.{frozen_grows, led_grows}
use Rattle.version_making.proofs.Keeping.{grows_then, keeps_core}
use Rattle.version_making.proofs.Own.{owned_object}

-- THE DEED is ready
pub read_ready : (s : SlotId) (i : ℕ) (seat : SeatState View) (step : PlainAct) → Reads (Field s i) step
    → (i ≡ 0) ⊎ (i ≡ 1) → 0 < times s seat.view.core.owned → seat.view.client.here ≡ true
    → IsNode (object_in seat.view s).payload
    → Known seat.view.client s (object_in seat.view s).life
    → ReadReady s i (own_of seat.view) seat.view.client step
read_ready s i seat step is side owned here node known = record {
  is = is;
  here = here;
  side = side;
  held = omega (arith, owned);
  object = object_in seat.view s;
  has = owned_object s seat owned;
  node = node;
  known = known;
}

module _ {P : Type 0} (d : DomainState P) (c : ℕ) (s : SlotId) (i : ℕ) (old mid : SeatState View)
    (o : Outcome)
    (look : Steps IsNode d (read_next s i) (OpenTells c) (act.Look (Field s i)) old mid o)
    (owned : 0 < times s old.view.core.owned) where
  abbrev pub life : ℕ
  life = (object_in old.view s).life

  pub client_looked : mid.view.client
      ≡ led_by s life i (own_of mid.view) look.word (frozen s life old.view.client)
  client_looked =
      look.told.client
      ∙ ap (λ (x : Option Object). read_of s i x (own_of mid.view) old.view.client look.word)
      (owned_object s old owned)

  pub by : Becomes IsNode d (read_next s i) (OpenTells c) (move (act.Look (Field s i)) o ∷ [])
      old.view.core old mid
  by = one_step d (act.Look (Field s i)) old mid o look.word old.view.core look (sym look.answers)
      refl refl

  pub knows_looked : KnowsStill old.view.core old mid
  knows_looked =
      knows_after d (act.Look (Field s i)) old mid o old.view.core look (λ x has. has)
      (λ w x it. refl)

  pub grows_frozen : Grows (frozen s life old.view.client) mid.view.client
  grows_frozen =
      subst (λ (v : View). Grows (frozen s life old.view.client) v) (sym client_looked)
      (led_grows s life i (own_of mid.view) look.word (frozen s life old.view.client))

  pub keeps_looked : Keeps 0 0 none none old mid
  keeps_looked =
      keeps_core 0 0 none none old mid old.view.core old.view.core _ by.core refl (λ x. refl)
      (omega arith, omega arith) (omega arith, omega arith) knows_looked (λ x less. less)
      (grows_then old.view.client (frozen s life old.view.client) mid.view.client
      (frozen_grows s life old.view.client) grows_frozen)

  pub ready_looked : IsReadyFor d old → IsReadyFor d mid
  ready_looked ready = record {
    rest = rest_after d (move (act.Look (Field s i)) o ∷ []) old.view.core old mid by refl
        ready.rest;
    room = subst (λ v. Rattle.slot_store.specs.core_events.Steps.HasRoom v) (sym by.core) ready.room;
    here = keeps_looked.grows.here ∙ ready.here;
  }
