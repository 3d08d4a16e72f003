-- What the seat notes of a delivery that it gave its observer.
use Rattle.std.proofs.Common.{◌≡◌, ◌≢◌, inl, inr, ⊎_elim, ℕ, ◌<◌, Bool, true, false, List, refl, ap, sym, ◌∙◌, subst, arith}
use Rattle.std.specs.Prelude.{if◌then◌else◌, slice_index, cond, Some, None}
use Rattle.control_word.specs.plain_state.declared.act.PlainAct.{PlainAct}
use Rattle.control_word.specs.plain_state.declared.act.PlainAct.TheVariants as plain
use Rattle.control_word.specs.plain_state.declared.act.EventPlace.TheVariants.{Field}
use Rattle.control_word.specs.plain_state.declared.slot.SlotId.{SlotId}
use Rattle.control_word.specs.plain_state.Lists.{times}
use Rattle.control_word.specs.plain_protocol.Owns.{HasSlot, OwnPart}
use Rattle.control_word.specs.core_events.Shows.{show_seat}
use Rattle.control_word.specs.core_events.Views.{without}
use Rattle.control_word.proofs.Below.core_law_Kit.{one_other, times_without, slot_cases}
use Rattle.control_word.specs.domain_rule.Views.{object_in, own_of}
use Rattle.control_word.specs.acquire_retire.Domains.{DomainState}
use Rattle.control_word.specs.acquire_retire.Seats.{SeatState}
use Rattle.part_calls.specs.protocol_pairs.Spared.{HasOneOf}
use Rattle.weak_part_calls.proofs.Below.protected_loads_Telling.{holds_has}
use Rattle.linked_queue.specs.UnlessRipe.{is_clear, next_unless, ready_unless}
use Rattle.watch_protocol.specs.declared.law.WatchLaw.{WatchLaw}
use Rattle.watch_protocol.specs.watch_law.declared.view.View.{View}
use Rattle.watch_protocol.specs.watch_law.News.{NewsView}
use Rattle.watch_protocol.specs.watch_law.Payloads.{IsOwn, told}
use Rattle.watch_protocol.specs.watch_law.Pushes.{KeepsAll}
use Rattle.watch_protocol.specs.watch_law.Steps.{address_by}
use Rattle.watch_protocol.specs.watch_law.declared.view.Address.{Address}
use Rattle.watch_protocol.specs.watch_law.Writes.{AddressReady, address_next}
use Rattle.weak_watch.specs.Subjects.{seen, words}
use Rattle.weak_watch.proofs.Made.{own_life, own_payload}
use Rattle.weak_watch.specs.Sending.{Addresses, HasDelivery, HasObserver, address_in, addressed_too}

has_owned : {V : Type 0} (s : SlotId) (seat : SeatState V) → 0 < times s seat.view.core.owned
    → HasSlot (show_seat seat.view.core) s
has_owned s seat owned = holds_has seat.view.core s (omega (arith, owned))

module _ {V : Type 0} (c event : ℕ) (s o : SlotId) (seat : SeatState V) (v : View)
    (delivery : HasDelivery event s seat v) (observer : HasObserver c o seat) where
  -- they are two slots
  apart : s ≡ o → ⊥
  apart same =
      let what : slice_index (words 2 event) 0 ≡ 1 =
      ap (λ ws. slice_index ws 0) (sym delivery.payload)
      ∙ ap (λ (x : SlotId). slice_index (object_in seat.view x).payload 0) same
      ∙ observer.observer.0 in absurd cc

  -- so the delivery is owned still
  pub left_owned : 0 < times s (without o seat.view.core.owned)
  left_owned =
      let fewer = times_without s o seat.view.core.owned observer.owned in
      let own = delivery.owned in
      ⊎_elim (λ (e : s ≡ o). absurd (apart e))
      (λ (ne : s.0 ≢ o.0). let none = one_other s o (λ e. ne (sym e)) in
      omega (arith, fewer, none, own))
      (slot_cases s o)

  -- THE DEED is ready, unless the field were one of a slot that is to be destroyed
  pub address_ready : (ripe : Bool)
      → ready_unless (AddressReady s o) (own_of seat.view) v
      (if ripe then plain.Clear (Field s 0) else plain.Replace (Field s 0) (Some o))
  address_ready true = inl (Field s 0, refl)
  address_ready false = inr (record {
    act_is = refl;
    made = ap (λ m. m.slot) delivery.made;
    some = subst (λ m. 0 < m.life) (sym delivery.made) delivery.begun;
    life = own_life s seat (has_owned s seat delivery.owned) ∙ sym (ap (λ m. m.life) delivery.made);
    observer = subst (λ ws. slice_index ws 0 ≡ 1)
        (sym (own_payload o seat (has_owned o seat observer.owned))) observer.observer.0;
  })

  -- into an object that is the observers'
  pub address_within : HasOneOf IsOwn ((own_of seat.view).objects s)
  address_within =
      subst (λ b. HasOneOf IsOwn (if b then Some (object_in seat.view s) else None))
      (sym (has_owned s seat delivery.owned))
      (inr (ap (λ ws. slice_index ws 0) delivery.payload))

  -- WHAT IS NOTED is the address
  pub addressed_as : address_by (own_of seat.view) s ((own_of seat.view).objects o) o
      ≡ address_in c event s o seat
  addressed_as =
      let object : (own_of seat.view).objects o ≡ Some (object_in seat.view o) =
      ap (λ b. if b then Some (object_in seat.view o) else None) (has_owned o seat observer.owned) in
      let life = own_life s seat (has_owned s seat delivery.owned) in
      let payload = own_payload s seat (has_owned s seat delivery.owned) ∙ delivery.payload in
      ap (λ x. address_by (own_of seat.view) s x o) object
      ∙ (λ i. record {
        slot = s;
        life = life i;
        event = told (payload i);
        observer = o;
        observer_life = (object_in seat.view o).life;
        id = observer.observer.1 i;
      })

-- no next view loses an address
pub keeps_unless : (s o : SlotId) (v : NewsView) (own after : OwnPart) (step : PlainAct) (found : ℕ)
    → ((w : View) → w ≡ address_next s o own after v.1 step found → KeepsAll v w)
    → KeepsAll v (next_unless (address_next s o) own after v.1 step found)
keeps_unless s o v own after step found keeps = by (is_clear step)
  where
    by : (b : Bool) → KeepsAll v (cond b v.1 (address_next s o own after v.1 step found))
    by true = λ a has. has
    by false = keeps _ refl

module _ (fits : List ℕ → Type 0) (d : DomainState WatchLaw) (c event : ℕ) (s o : SlotId)
    (old new : SeatState View) (stores : Addresses fits d s o old new)
    (delivery : HasDelivery event s old old.view.client) (observer : HasObserver c o old) where
  pub address_noted : new.view.client ≡ addressed_too (address_in c event s o old) old.view.client
  address_noted =
      let step = stores.swaps.puts.step in
      stores.swaps.client ∙ step.told.client
      ∙ ap (λ (a : PlainAct). next_unless (address_next s o) (own_of old.view)
      (own_of stores.swaps.mid.view) old.view.client a step.word) (stores.is_replace step.word)
      ∙ ap (λ (a : Address). addressed_too a old.view.client)
      (addressed_as c event s o old old.view.client delivery observer)

-- what the whole seat has its part has
pub part_delivery : (event : ℕ) (s : SlotId) (seat : SeatState NewsView)
    → HasDelivery event s seat seat.view.client.1
    → HasDelivery event s (seen seat) (seen seat).view.client
part_delivery event s seat has = record {
  owned = has.owned;
  payload = has.payload;
  begun = has.begun;
  made = has.made;
}

pub part_observer : (c : ℕ) (o : SlotId) (seat : SeatState NewsView) → HasObserver c o seat
    → HasObserver c o (seen seat)
part_observer c o seat has = record { owned = has.owned; observer = has.observer }
