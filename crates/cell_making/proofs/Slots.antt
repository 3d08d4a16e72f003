-- A slot that is made, and noted.
use Rattle.std.proofs.Common.{◌≡◌, ⊎_elim, ℕ, ◌<◌, List, [], ◌∷◌, ap, sym, ◌∙◌, subst, arith, Some, None}
use Rattle.std.specs.Prelude.{if◌then◌else◌}
use Rattle.cell_calls.specs.cell_law.plain_state.declared.slot.SlotId.{SlotId}
use Rattle.cell_calls.specs.cell_law.plain_state.Lists.{times}
use Rattle.cell_calls.specs.cell_law.directory_law.Bytes.{IsHeadOf, IsPartOf, IsPiece}
use Rattle.cell_calls.specs.cell_law.directory_law.declared.view.Rope.{Rope}
use Rattle.cell_calls.specs.cell_law.directory_law.Making.{alone}
use Rattle.cell_calls.specs.cell_law.directory_law.Payloads.{IsOwn}
use Rattle.cell_calls.specs.cell_law.directory_law.Steps.{life_in, life_of, payload_in, payload_of}
use Rattle.cell_calls.specs.cell_law.directory_law.Views.{rope}
use Rattle.cell_calls.specs.cell_law.Making.{MakeReady, make_next}
use Rattle.cell_calls.specs.cell_law.declared.view.View.{View}
use Rattle.cell_calls.specs.cell_protocol.declared.law.CellLaw.{CellLaw}
use Rattle.epoch_refs.specs.plain_protocol.Owns.{HasSlot, Object}
use Rattle.epoch_refs.specs.plain_protocol.plain_state.State.{Plain}
use Rattle.epoch_refs.specs.plain_protocol.plain_state.declared.act.PlainAct.{PlainAct}
use Rattle.epoch_refs.specs.plain_protocol.plain_state.declared.act.PlainAct.TheVariants as plain
use Rattle.epoch_refs.specs.epoch_core.declared.view.EpochPhase.{EpochPhase}
use Rattle.epoch_refs.specs.epoch_core.declared.view.EpochPhase.TheVariants as phase
use Rattle.epoch_refs.specs.epoch_core.declared.view.EpochView.{EpochView}
use Rattle.epoch_refs.specs.epoch_core.Shows.{show_seat}
use Rattle.epoch_refs.specs.epoch_core.Views.{slot_of}
use Rattle.epoch_refs.specs.epoch_rule.Told.{make_of}
use Rattle.epoch_refs.specs.epoch_rule.Views.{object_in, own_of}
use Rattle.epoch_refs.specs.epoch_domain.Domains.{DomainState}
use Rattle.epoch_refs.specs.epoch_domain.Seats.{SeatState}
use Rattle.epoch_domain.proofs.Below.epoch_rule_Others.{fills_has, held_has}
use Rattle.epoch_refs.specs.Making.{Begins, Makes}
use Rattle.cell_making.specs.Making.{candidate_in, HasMadeOne}

-- WHAT A SEAT HAS it knows by its own part
module _ {V : Type 0} (s : SlotId) (seat : SeatState V)
    (has : HasSlot (show_seat seat.view.core) s) where
  pub own_life : life_in (own_of seat.view) s ≡ (object_in seat.view s).life
  own_life = ap (λ b. life_of (if b then Some (object_in seat.view s) else None)) has

  pub own_payload : payload_in (own_of seat.view) s ≡ (object_in seat.view s).payload
  own_payload = ap (λ b. payload_of (if b then Some (object_in seat.view s) else None)) has

pub owned_has : {V : Type 0} (s : SlotId) (seat : SeatState V) → 0 < times s seat.view.core.owned
    → HasSlot (show_seat seat.view.core) s
owned_has s seat owned = held_has s seat.view.core (omega (arith, owned))

-- a head or a part is one that a record may have
pub piece_own : (payload : List ℕ) → IsPiece payload → IsOwn payload
piece_own payload is =
    ⊎_elim
    (λ (head : IsHeadOf is.0 payload). head.0.0)
    (λ (part : IsPartOf is.0 payload).
    let s = part.2.size in let some = part.0 in omega (arith, s, some))
    is.2

-- THE DEED of a make is ready
module _ (fits : List ℕ → Type 0) (d : DomainState CellLaw) (payload : List ℕ)
    (s : SlotId) (old mid : SeatState View) (begins : Begins fits d payload s old mid) where
  blank : mid.view.core.phase ≡ phase.Blank s
  blank = ap (λ (v : EpochView). v.phase) begins.goes.core

  act_is : make_of (slot_of mid.view.core.phase) ≡ plain.Make s
  act_is = ap (λ (x : EpochPhase). make_of (slot_of x)) blank

  pub make_ready : IsOwn payload
      → MakeReady (own_of mid.view) mid.view.client (make_of (slot_of mid.view.core.phase))
  make_ready own = record {
    slot = s;
    act_is = act_is;
    is_own = subst IsOwn
        (sym (own_payload s mid (fills_has s mid.view.core blank) ∙ begins.filled)) own;
  }

-- IT IS NOTED
module _ (fits : List ℕ → Type 0) (d : DomainState CellLaw)
    (allows : Plain → Plain → ℕ → View → View → Type 0) (payload : List ℕ) (s : SlotId)
    (old new : SeatState View) (makes : Makes fits d make_next allows payload s old new)
    (owned : 0 < times s new.view.core.owned) where
  made_payload : (object_in new.view s).payload ≡ payload
  made_payload = ap (λ (o : Object). o.payload) makes.object

  noted_alone : alone (own_of new.view) s ≡ candidate_in s (payload ∷ []) new
  noted_alone =
      let has = owned_has s new owned in
      let life = own_life s new has in
      let same = own_payload s new has ∙ made_payload in
      λ i. rope s (life i) (same i ∷ [])

  made_noted : new.view.client
      ≡ record old.view.client {
        noted = candidate_in s (payload ∷ []) new ∷ old.view.client.noted;
      }
  made_noted =
      makes.starts.told.client
      ∙ ap (λ (a : PlainAct). make_next (own_of makes.mid.view) (own_of new.view)
      makes.mid.view.client a 0) (act_is fits d payload s old makes.mid makes.begins)
      ∙ ap (λ (v : View). record v { noted = alone (own_of new.view) s ∷ v.noted })
      makes.begins.goes.client
      ∙ ap (λ (e : Rope). record old.view.client { noted = e ∷ old.view.client.noted }) noted_alone

  pub made_one : HasMadeOne payload s old new
  made_one = record {
    owned = owned;
    payload_is = made_payload;
    noted = made_noted;
    makes = ap (λ (v : EpochView). v.makes) makes.core;
    adds = ap (λ (v : EpochView). v.adds) makes.core;
  }
