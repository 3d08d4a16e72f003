-- The deed of a publish is ready, and what it leaves of the notes.
use Rattle.std.proofs.Common.{◌≡◌, inl, ℕ, ◌≤◌, false, refl, ap, subst, arith}
use Rattle.std.specs.Prelude.{Option, Some, None}
use Rattle.map_law.specs.plain_state.declared.act.EventPlace.TheVariants.{Cell}
use Rattle.map_law.specs.plain_state.declared.act.PlainAct.TheVariants as plain
use Rattle.map_law.specs.plain_state.declared.slot.SlotId.{SlotId}
use Rattle.map_law.specs.plain_state.Lists.{times}
use Rattle.map_law.specs.plain_protocol.Owns.{Object, OwnPart}
use Rattle.map_law.specs.declared.view.Kid.{Kid}
use Rattle.map_law.specs.declared.view.View.{View}
use Rattle.map_law.specs.Views.{In, note}
use Rattle.map_law.specs.Making.{Known}
use Rattle.map_law.specs.Nodes.{IsNode}
use Rattle.map_law.specs.Patterns.{IsKid}
use Rattle.map_law.specs.Publishing.{PublishReady, frozen_in, frozen_object}
use Rattle.map_law.proofs.Kit.{none_some, some_same}
use Rattle.slot_store.specs.domain_rule.Views.{object_in, own_of}
use Rattle.slot_store.specs.acquire_retire.Domains.{DomainState}
use Rattle.slot_store.specs.acquire_retire.Seats.{SeatState}
use Rattle.slot_store.specs.counted_handles.Handles.{Handle}
use Rattle.atomic_shared.specs.Places.{named}
use Rattle.version_making.specs.Keeping.{Grows, IsReadyFor, OwnsBoth, of_handle}
use Rattle.version_making.specs.Standing.{IsTree, kid_by, node_in}
use Rattle.version_making.proofs.Growing.{frozen_grows}
use Rattle.version_making.proofs.Keeping.{grows_same}
use Rattle.version_making.proofs.Own.{handle_owned, owned_object}
use Rattle.version_making.proofs.Standing.{spells_on}
use Rattle.version_updates.specs.declared.update.Update.{Update}
use Rattle.version_updates.specs.Publishing.{MakesVersion}

-- THE NOTES grow where a new root is frozen
object_grows : (s : SlotId) (o : Option Object) (v : View) → Grows v (frozen_object s o v)
object_grows s None v = grows_same v v refl
object_grows s (Some o) v = frozen_grows s o.life v

pub frozen_in_grows : (own : OwnPart) (s : Option SlotId) (v : View) → Grows v (frozen_in own s v)
frozen_in_grows own None v = grows_same v v refl
frozen_in_grows own (Some s) v = object_grows s (own.objects s) v

-- THE SEAT HAS what it owns by a handle
abbrev pub Owns : Option Handle → SeatState View → Type 0
Owns h seat = (x : SlotId) → of_handle h x ≤ times x seat.view.core.owned

pub kid_is : (h : Option Handle) (seat : SeatState View) → Owns h seat
    → IsKid (own_of seat.view) (named h) (kid_by h seat)
kid_is None seat owns = refl
kid_is (Some h) seat owns =
    (object_in seat.view h.slot, owned_object h.slot seat (handle_owned h.slot seat owns), refl)

tree_node : (h : Option Handle) (seat : SeatState View) → IsTree h seat → (x : Kid)
    → kid_by h seat ≡ Some x → IsNode x.payload
tree_node None seat tree x is = absurd (none_some x is)
tree_node (Some h) seat tree x is =
    subst (λ (k : Kid). IsNode k.payload) (some_same (node_in h.slot seat) x is) tree.node

tree_known : (h : Option Handle) (seat : SeatState View) → IsTree h seat → (x : Kid)
    → kid_by h seat ≡ Some x → Known seat.view.client x.slot x.life
tree_known None seat tree x is = absurd (none_some x is)
tree_known (Some h) seat tree x is =
    inl (subst (λ (k : Kid). In (note k.slot k.life) seat.view.client.solid)
    (some_same (node_in h.slot seat) x is) tree.known)

pub owns_first : (old new : Option Handle) (seat : SeatState View) → OwnsBoth old new seat
    → Owns old seat
owns_first old new seat owns x = let o = owns x in omega (arith, o)

pub owns_second : (old new : Option Handle) (seat : SeatState View) → OwnsBoth old new seat
    → Owns new seat
owns_second old new seat owns x = let o = owns x in omega (arith, o)

-- THE DEED is ready
pub publish_ready : {P : Type 0} (d : DomainState P) (b c : ℕ) (old new : Option Handle) (u : Update)
    (seat : SeatState View) → b ≡ c → IsReadyFor d seat → seat.view.client.cleared ≡ false
    → Owns old seat → Owns new seat → MakesVersion old new u seat
    → PublishReady c (named old) (named new) u.key u.change u.answer (own_of seat.view)
    seat.view.client (plain.TryReplace (Cell b) (named old) (named new))
publish_ready d b c old new u seat same ready uncleared owns owned version = record {
  is = ap (λ (x : ℕ). plain.TryReplace (Cell x) (named old) (named new)) same;
  here = ready.here;
  opened = uncleared;
  old_kid = kid_by old seat;
  old_is = kid_is old seat owns;
  old_pattern = version.old_pattern;
  old_spells = version.spells;
  new_kid = kid_by new seat;
  new_is = kid_is new seat owned;
  new_node = tree_node new seat version.stands.tree;
  new_known = tree_known new seat version.stands.tree;
  new_pattern = version.new_pattern;
  new_spells = spells_on seat.view.client
      (frozen_in (own_of seat.view) (named new) seat.view.client)
      (frozen_in_grows (own_of seat.view) (named new) seat.view.client) (kid_by new seat)
      version.new_pattern version.stands.spells;
  is_change = version.is_change;
}
