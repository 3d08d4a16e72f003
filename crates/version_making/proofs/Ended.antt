-- A look at a node that was made last, by which it is nobody's to change.
use Rattle.std.proofs.Common.{◌≡◌, ℕ, ◌<◌, true, List, refl, ap, sym, ◌∙◌, subst, inl, inr}
use Rattle.std.specs.Prelude.{Some}
use Rattle.map_law.specs.plain_state.declared.act.EventPlace.TheVariants.{Field}
use Rattle.map_law.specs.plain_state.declared.act.PlainAct.TheVariants as plain
use Rattle.map_law.specs.plain_state.declared.slot.SlotId.{SlotId}
use Rattle.map_law.specs.plain_state.Lists.{times}
use Rattle.map_law.specs.plain_protocol.Owns.{Object}
use Rattle.map_law.specs.declared.view.Kid.{Kid}
use Rattle.map_law.specs.declared.view.Raw.{Raw}
use Rattle.map_law.specs.declared.view.View.{View}
use Rattle.map_law.specs.Views.{In, kid}
use Rattle.map_law.specs.Nodes.{IsNode, words}
use Rattle.map_law.specs.Lessons.{ReadReady, read_next}
use Rattle.map_law.specs.Making.{frozen}
use Rattle.map_law.specs.Patterns.{Pattern, Spells, branch, kid_of}
use Rattle.map_law.proofs.Growing.{spells_frozen}
use Rattle.map_law.proofs.Kit.{in_times}
use Rattle.slot_store.specs.core_events.declared.act.Act.TheVariants as act
use Rattle.slot_store.specs.core_events.declared.outcome.Outcome.{Outcome}
use Rattle.slot_store.specs.acquire_retire.Calls.{Steps}
use Rattle.slot_store.specs.acquire_retire.Domains.{DomainState}
use Rattle.slot_store.specs.acquire_retire.Seats.{SeatState}
use Rattle.slot_store.specs.domain_rule.Views.{object_in, own_of}
use Rattle.version_making.specs.Building.{IsMaking, Makes}
use Rattle.version_making.specs.Deeds.{OpenTells}
use Rattle.version_making.specs.Standing.{IsSolid, node_in}
use Rattle.version_making.proofs.Own.{owned_has}
use Rattle.version_making.proofs.Reading.{grows_frozen, knows_looked, read_ready}
use Rattle.version_making.proofs.Standing.{spells_on}

pub makes_owned : (t : SlotId) (seat : SeatState View) → Makes t seat → 0 < times t seat.view.core.owned
makes_owned t seat makes =
    subst (λ (x : SlotId). 0 < times x seat.view.core.owned) makes.1 makes.2.owned

pub end_ready : (t : SlotId) (seat : SeatState View) → Makes t seat → seat.view.client.here ≡ true
    → IsNode (object_in seat.view t).payload
    → ReadReady t 0 (own_of seat.view) seat.view.client (plain.Look (Field t 0))
end_ready t seat makes here node =
    let m = makes.2 in
    read_ready t 0 seat (plain.Look (Field t 0)) (inl refl) (inl refl) (makes_owned t seat makes) here
    node
    (inr (in_times t (object_in seat.view t).life makes.0 seat.view.client.raw makes.1
    (m.life ∙ ap (λ (x : SlotId). (object_in seat.view x).life) makes.1)
    (subst (λ (es : List Raw). In makes.0 es) (sym m.raw) (inl refl))))

module _ {P : Type 0} (d : DomainState P) (c : ℕ) (t : SlotId) (old new : SeatState View)
    (o : Outcome)
    (look : Steps IsNode d (read_next t 0) (OpenTells c) (act.Look (Field t 0)) old new o)
    (makes : Makes t old) where
  owned : 0 < times t old.view.core.owned
  owned = makes_owned t old makes

  same : object_in new.view t ≡ object_in old.view t
  same = knows_looked d c t 0 old new o look owned t (owned_has t old owned)

  pub end_solid : IsNode (object_in old.view t).payload → IsSolid t new
  end_solid node = record {
    node = subst (λ (x : Object). IsNode x.payload) (sym same) node;
    known = subst (λ (x : Object). In (Rattle.map_law.specs.Views.note t x.life) new.view.client.solid)
        (sym same)
        ((grows_frozen d c t 0 old new o look owned).solid
        (Rattle.map_law.specs.Views.note t (object_in old.view t).life) (inl refl));
  }

  pub end_spells : (e : Raw) → e.slot ≡ t → IsMaking e old → (l r : Pattern)
      → Spells old.view.client e.first l → Spells old.view.client e.second r
      → (key value height : ℕ) → e.payload ≡ words key value height
      → Spells new.view.client (Some (node_in t new)) (branch key value height l r)
  end_spells e at m l r sl sr key value height payload =
      let life = m.life ∙ ap (λ (x : SlotId). (object_in old.view x).life) at in
      let is : kid t (object_in old.view t).life (words key value height) ≡ node_in t new =
      (λ i. kid t (object_in old.view t).life
      ((sym payload ∙ (m.payload ∙ ap (λ (x : SlotId). (object_in old.view x).payload) at)) i))
      ∙ ap (λ (x : Object). kid_of t x) (sym same) in
      subst (λ (x : Kid). Spells new.view.client (Some x) (branch key value height l r)) is
      (spells_on (frozen t (object_in old.view t).life old.view.client) new.view.client
      (grows_frozen d c t 0 old new o look owned) (Some (kid t (object_in old.view t).life
      (words key value height))) (branch key value height l r)
      (spells_frozen t (object_in old.view t).life old.view.client e key value height l r
      (subst (λ (es : List Raw). In e es) (sym m.raw) (inl refl)) at life sl sr))
