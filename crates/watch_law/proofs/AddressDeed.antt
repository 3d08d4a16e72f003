-- Field 0 of a delivery gets an observer, as a deed.
use Rattle.std.proofs.Common.{◌≡◌, [], ◌∷◌, ◌++◌, set, refl, sym, ◌∙◌, subst, arith}
use Rattle.plain_protocol.specs.plain_state.declared.act.PlainAct.{PlainAct}
use Rattle.plain_protocol.specs.plain_state.declared.slot.SlotId.{SlotId}
use Rattle.plain_protocol.specs.plain_state.State.{Plain, slot_at}
use Rattle.plain_protocol.specs.plain_state.Steps.{Does}
use Rattle.plain_protocol.proofs.Below.plain_state_Kit.{times_lost}
use Rattle.plain_protocol.specs.Laws.{Keeps}
use Rattle.plain_protocol.specs.Owns.{own_part}
use Rattle.protocol_pairs.proofs.Owning.{owned_live}
use Rattle.watch_law.specs.Payloads.{IsObserver, told}
use Rattle.watch_law.specs.Views.{view_at, no_made, no_view}
use Rattle.watch_law.specs.Law.{Area, IsTo, WatchLaw}
use Rattle.watch_law.specs.Steps.{address_by}
use Rattle.watch_law.specs.Writes.{AddressReady, address_next, AddressTells}
use Rattle.watch_law.proofs.Addresses.{law_addresses, to_new}
use Rattle.watch_law.proofs.Own.{known_life, known_payload, holds_has, holds_live, owns_has}

-- the view has the address, and the delivery is to that observer
pub address_keeps : (z : Area) (d o : SlotId)
    → Keeps (WatchLaw z) no_view (AddressReady d o) (address_next d o)
    (AddressTells d o)
address_keeps z d o p q views n step found meets low ready does =
    let g = subst (λ (a : PlainAct). Does p n a found q) ready.act_is does in
    let count = meets.count in
    let owns = times_lost o _ _ g.1.2.1.1 in
    let observer_lives = owned_live p n o meets.lawful (omega arith) owns in
    let live = holds_live p n d meets.lawful (omega arith) g.1.0.1 in
    let has = holds_has p n d g.1.0.1 in
    let has_observer = owns_has p n o owns in
    let in_life = known_life p n d has in
    let new = address_by (own_part p n) d ((own_part p n).objects o) o in
    let is : IsObserver (slot_at p o).payload =
    subst IsObserver (known_payload p n o has_observer) ready.observer in
    let new_is : new ≡ record {
      slot = d;
      life = (slot_at p d).life;
      event = told (slot_at p d).payload;
      observer = o;
      observer_life = (slot_at p o).life;
      id = told (slot_at p o).payload;
    } = (λ i. record {
      slot = d;
      life = in_life i;
      event = told (known_payload p n d has i);
      observer = o;
      observer_life = known_life p n o has_observer i;
      id = told (known_payload p n o has_observer i);
    }) in
    let life : (slot_at p d).life ≡ (view_at views n).made.life = sym in_life ∙ ready.life in
    let kept = law_addresses z p _ views n d o new low live ready.some ready.made life is new_is meets.law in
    let at = sym g.1.2.2 in (
      subst (λ (r : Plain). WatchLaw z r (set views n (record (view_at views n) {
        made = no_made;
        addressed = (view_at views n).addressed ++ new ∷ [];
      }))) at kept,
      record {
        address = new;
        noted = refl;
        is = subst (λ (r : Plain). IsTo r new) at
            (to_new z p _ views n d o new low live ready.some ready.made life is new_is meets.law);
        slot = refl;
        observer = refl;
        life = in_life;
      },
    )
