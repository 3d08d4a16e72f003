-- A field of a new node is set.
use Rattle.std.proofs.Common.{◌≡◌, ◌≢◌, ⊎_elim, inl, inr, ℕ, zero, suc, ◌<◌, Bool, true, false, List, refl, ap, sym, ◌∙◌, subst, arith}
use Rattle.std.specs.Prelude.{◌⊎◌, ◌==◌, Option, Some, if◌then◌else◌}
use Rattle.map_law.specs.plain_state.declared.act.EventPlace.TheVariants.{Field}
use Rattle.map_law.specs.plain_state.declared.act.PlainAct.{PlainAct}
use Rattle.map_law.specs.plain_state.declared.act.PlainAct.TheVariants as plain
use Rattle.map_law.specs.plain_state.declared.slot.Kind.TheVariants.{Strong}
use Rattle.map_law.specs.plain_state.declared.slot.SlotId.{SlotId}
use Rattle.map_law.specs.plain_state.Lists.{times}
use Rattle.map_law.specs.plain_protocol.Owns.{Object}
use Rattle.map_law.specs.declared.view.Raw.{Raw}
use Rattle.map_law.specs.declared.view.View.{View}
use Rattle.map_law.specs.Views.{In, without}
use Rattle.map_law.specs.Making.{frozen, on_first, set_kid, with_kid}
use Rattle.map_law.proofs.Growing.{frozen_more}
use Rattle.map_law.proofs.SetDeed.{without_first}
use Rattle.slot_store.specs.core_events.declared.view.CoreView.{CoreView}
use Rattle.slot_store.specs.core_events.Counts.{one}
use Rattle.slot_store.specs.core_events.Steps.{without_given}
use Rattle.slot_store.proofs.Below.core_law_Kit.{one_other, times_without}
use Rattle.slot_store.specs.domain_rule.Views.{object_in, own_of}
use Rattle.slot_store.specs.acquire_retire.Domains.{DomainState}
use Rattle.slot_store.specs.acquire_retire.Seats.{SeatState}
use Rattle.slot_store.specs.control_word.Moves.{KnowsStill}
use Rattle.slot_store.specs.retiring_stores.Exchanging.{Stores}
use Rattle.slot_store.specs.retiring_stores.Scanning.{ScansWhereDue}
use Rattle.map_law.proofs.Kit.{number_other}
use Rattle.map_law.specs.Nodes.{IsNode}
use Rattle.version_making.specs.Building.{IsMaking, Makes}
use Rattle.version_making.specs.Deeds.{KidReady, KidTells, kid_next}
use Rattle.version_making.specs.Keeping.{GoesOn, Grows, Keeps, aside, none}
use Rattle.version_making.specs.Standing.{IsSolid, node_in}
use Rattle.version_making.proofs.Keeping.{goes_none, goes_then, keeps_by}
use Rattle.version_making.proofs.Own.{owned_object}

-- a field is one of two
pub two_sides : (i : ℕ) → i < 2 → (i ≡ 0) ⊎ (i ≡ 1)
two_sides zero low = inl refl
two_sides (suc zero) low = inr refl
two_sides (suc (suc n)) low = absurd (omega (arith, low))

-- THE DEED is ready
pub kid_ready : (t s : SlotId) (i : ℕ) (seat : SeatState View) (b : Bool) → i < 2
    → Makes t seat → 0 < times s seat.view.core.owned → IsSolid s seat
    → seat.view.client.here ≡ true
    → KidReady t i s (own_of seat.view) seat.view.client
    (if b then plain.Clear (Field t i) else plain.Replace (Field t i) (Some s))
kid_ready t s i seat true low makes owned solid here = inl (Field t i, refl)
kid_ready t s i seat false low makes owned solid here =
    let m = makes.2 in
    let at : 0 < times t seat.view.core.owned =
    subst (λ (x : SlotId). 0 < times x seat.view.core.owned) makes.1 m.owned in inr (record {
      is = refl;
      here = here;
      side = two_sides i low;
      owned = at;
      kid_owned = owned;
      first = object_in seat.view t;
      second = object_in seat.view s;
      has_first = owned_object t seat at;
      has_second = owned_object s seat owned;
      node = solid.node;
      raw = (
        makes.0,
        m.others,
        m.raw,
        makes.1,
        m.life ∙ ap (λ (x : SlotId). (object_in seat.view x).life) makes.1,
      );
      known = inl solid.known;
    })

-- the rest of the list after the first, and the slot and the life of a note whose field was set
like_kid : (i : ℕ) (k : Option Rattle.map_law.specs.declared.view.Kid.Kid) (e : Raw)
    → ((with_kid i k e).slot ≡ e.slot) × ((with_kid i k e).life ≡ e.life)
    × ((with_kid i k e).payload ≡ e.payload)
like_kid i k e = go (i == 0)
  where
    go : (z : Bool)
        → ((if z then record e { first = k } else record e { second = k }).slot ≡ e.slot)
        × ((if z then record e { first = k } else record e { second = k }).life ≡ e.life)
        × ((if z then record e { first = k } else record e { second = k }).payload ≡ e.payload)
    go true = (refl, refl, refl)
    go false = (refl, refl, refl)

module _ {P : Type 0} (d : DomainState P) (t s : SlotId) (i : ℕ) (old new : SeatState View)
    (stores : Stores IsNode d (kid_next i s) KidTells (Field t i) (Some s) old new)
    (still : KnowsStill (without_given Strong (Some s) old.view.core) old new)
    (owned : 0 < times s old.view.core.owned) where
  abbrev mid : SeatState View
  mid = stores.swaps.mid

  abbrev pub set_view : View
  set_view =
      record (frozen s (object_in old.view s).life old.view.client) {
        raw = on_first (with_kid i (Some (node_in s old)))
            (without s (object_in old.view s).life old.view.client.raw);
      }

  pub client_is : new.view.client ≡ set_view
  client_is =
      let step = stores.swaps.puts.step in
      stores.swaps.client ∙ step.told.client
      ∙ ap (λ (a : PlainAct).
      kid_next i s (own_of old.view) (own_of mid.view) old.view.client a step.word)
      (stores.is_replace step.word)
      ∙ ap (λ (o : Option Object). set_kid i s o old.view.client) (owned_object s old owned)

  grows : Grows old.view.client new.view.client
  grows = record {
    number = ap (λ (v : View). v.number) client_is;
    here = ap (λ (v : View). v.here) client_is;
    entries = ap (λ (v : View). v.entries) client_is;
    cleared = ap (λ (v : View). v.cleared) client_is;
    solid = λ e in'. subst (λ (v : View). In e v.solid) (sym client_is) (inr in');
    led = λ e in'. subst (λ (v : View). In e v.led) (sym client_is)
        (frozen_more s (object_in old.view s).life old.view.client e in');
  }

  scans_go : ScansWhereDue IsNode d mid new → GoesOn mid.view.core new.view.core
  scans_go due = ⊎_elim
      (λ scans. (_, scans.1.collects.goes.trail))
      (λ same. goes_none mid.view.core new.view.core
      (ap (λ (x : SeatState View). x.view.core.trail) same.1))
      due

  pub keeps_set : Keeps 0 0 (λ x. one x s) none old new
  keeps_set =
      keeps_by 0 0 (λ x. one x s) none old new (without_given Strong (Some s) old.view.core)
      (without_given Strong (Some s) old.view.core)
      (goes_then old.view.core mid.view.core new.view.core
      (_, ap (λ (u : CoreView). u.trail) stores.swaps.puts.core) (scans_go stores.swaps.scans))
      (ap aside stores.swaps.same)
      (λ x. ap (λ (u : CoreView). times x u.owned) stores.swaps.same) (
        ap (λ (u : CoreView). u.makes) stores.swaps.same,
        ap (λ (u : CoreView). u.adds) stores.swaps.same,
      )
      (λ x. let w = times_without x s old.view.core.owned owned in omega (arith, w))
      (omega arith, omega arith) (omega arith, omega arith) still
      (λ x less. let w = times_without x s old.view.core.owned owned in omega (arith, w, less))
      grows

  -- THE NODE has the kid
  pub making : t ≢ s → (e : Raw) → e.slot ≡ t → IsMaking e old
      → IsMaking (with_kid i (Some (node_in s old)) e) new
  making apart e at m =
      let like = like_kid i (Some (node_in s old)) e in
      let f : Raw = with_kid i (Some (node_in s old)) e in
      let none' = one_other e.slot s (λ z. number_other e.slot s (λ w. apart (sym at ∙ w)) (sym z)) in
      let o = keeps_set.owns e.slot in
      let known = keeps_set.knows e.slot (omega (arith, none', m.owned)) in
      let is : f.slot ≡ e.slot = like.0 in record {
        owned = subst (λ (x : SlotId). 0 < times x new.view.core.owned) (sym is)
            (omega (arith, none', o, m.owned));
        life = like.1 ∙ (m.life ∙ (ap (λ (x : Object). x.life) (sym known)
            ∙ ap (λ (x : SlotId). (object_in new.view x).life) (sym is)));
        payload = like.2 ∙ (m.payload ∙ (ap (λ (x : Object). x.payload) (sym known)
            ∙ ap (λ (x : SlotId). (object_in new.view x).payload) (sym is)));
        others = without s (object_in old.view s).life m.others;
        raw = ap (λ (v : View). v.raw) client_is
            ∙ ap (λ (es : List Raw). on_first (with_kid i (Some (node_in s old)))
            (without s (object_in old.view s).life es)) m.raw
            ∙ ap (on_first (with_kid i (Some (node_in s old))))
            (without_first s (object_in old.view s).life e m.others
            (λ w. apart (sym at ∙ w)));
      }
