-- An observer or a delivery is made.
use Rattle.std.proofs.Common.{◌≡◌, ◌≢◌, ◌⊎◌, inl, inr, ⊎_elim, ℕ, ◌+◌, ◌<◌, ◌≤◌, false, List, length, set, refl, ap, sym, ◌∙◌, subst, arith, None}
use Rattle.std.proofs.lemmas.List.{get_or-set_same, get_or-set_other}
use Rattle.plain_protocol.specs.plain_state.declared.act.PlainAct.{PlainAct}
use Rattle.plain_protocol.specs.plain_state.declared.slot.PlainSlot.{PlainSlot}
use Rattle.plain_protocol.specs.plain_state.declared.slot.SlotId.{SlotId}
use Rattle.plain_protocol.specs.plain_state.declared.slot.Stage.TheVariants.{Free, Blank, Live, Ended}
use Rattle.plain_protocol.specs.plain_state.State.{Plain, PlainSeat, new_slot, slot_at, stage_at}
use Rattle.plain_protocol.specs.plain_state.Lawful.{Lawful}
use Rattle.plain_protocol.specs.plain_state.Steps.{Does}
use Rattle.plain_protocol.proofs.Below.plain_state_Kit.{cases_slot}
use Rattle.plain_protocol.specs.Calm.{IsMade}
use Rattle.plain_protocol.specs.Laws.{Keeps}
use Rattle.plain_protocol.specs.Owns.{own_part}
use Rattle.watch_law.specs.Payloads.{IsDelivery, IsOwn}
use Rattle.watch_law.specs.Views.{View, view_at, no_view}
use Rattle.watch_law.specs.Law.{Area, WatchLaw}
use Rattle.watch_law.specs.Steps.{life_in}
use Rattle.watch_law.specs.Making.{ObserverReady, observer_next, ObserverTells, DeliveryReady, delivery_next, DeliveryTells}
use Rattle.watch_law.proofs.Own.{filling_has, known_life, known_payload, in_range}
use Rattle.watch_law.proofs.Quiet.{Born, SameFields, Quiet, law_quiet}
use Rattle.watch_law.proofs.Changed.{law_turn, same_view, knows_still}

abbrev pub made : PlainSlot → PlainSlot
made x = record x { stage = Live; marked = false; life = x.life + 1 }

module _ (z : Area) (p : Plain) (seats_after : List PlainSeat) (s : SlotId) (blank : stage_at p s ≡ Blank)
    (lawful : Lawful p) where
  abbrev after : Plain
  after = record p { seats = seats_after; slots = set p.slots s.0 (made (slot_at p s)) }

  inside : s.0 < length p.slots
  inside = in_range p s (λ free. let e : Blank ≡ Free = sym blank ∙ free in cc)

  pub here : slot_at after s ≡ made (slot_at p s)
  here = get_or-set_same p.slots s.0 (made (slot_at p s)) new_slot inside

  -- what holds of each other slot, and of the new one, holds of each
  at_slot : (P : SlotId → PlainSlot → Type 0) → P s (made (slot_at p s))
      → ((r : SlotId) → r.0 ≢ s.0 → P r (slot_at p r)) → (r : SlotId) → P r (slot_at after r)
  at_slot P new old r =
      ⊎_elim
      (λ (e : r ≡ s). subst (λ (k : SlotId). P k (slot_at after k)) (sym e)
      (subst (P s) (sym here) new))
      (λ (ne : r.0 ≢ s.0). subst (P r)
      (sym (get_or-set_other p.slots s.0 r.0 (made (slot_at p s)) new_slot ne)) (old r ne))
      (cases_slot r s)

  nulls : ((slot_at p s).first ≡ None) × ((slot_at p s).second ≡ None) × ((slot_at p s).weak_field ≡ None)
  nulls = lawful.nulls s (
    (λ e. let f : Blank ≡ Live = sym blank ∙ e in cc),
    (λ e. let f : Blank ≡ Ended = sym blank ∙ e in cc),
  )

  not_live : stage_at p s ≡ Live → ⊥
  not_live live = let f : Blank ≡ Live = sym blank ∙ live in cc

  not_made : IsMade (stage_at p s) → ⊥
  not_made made = made.1 blank

  pub make_quiet : Quiet z p after
  make_quiet = record {
    life = at_slot (λ r x. (slot_at p r).life ≤ x.life) (omega arith) (λ r ne. omega arith);
    kept = at_slot (λ r x. stage_at p r ≡ Live
        → (x.life ≡ (slot_at p r).life) × (x.payload ≡ (slot_at p r).payload))
        (λ live. absurd (not_live live)) (λ r ne live. (refl, refl));
    back = at_slot (λ r x. x.stage ≡ Live → x.life ≡ (slot_at p r).life → stage_at p r ≡ Live)
        (λ live same. absurd (omega arith)) (λ r ne live same. live);
    fields = at_slot (λ r x. stage_at p r ≡ Live → IsOwn (slot_at p r).payload
        → SameFields (slot_at p r) x)
        (λ live own. absurd (not_live live))
        (λ r ne live own. record { first = refl; second = refl; weak_field = refl });
    born = at_slot (λ r x. x.stage ≡ Live → IsOwn x.payload
        → (stage_at p r ≡ Live) ⊎ Born (slot_at p r) x)
        (λ live own. inr (record {
          later = omega arith;
          first = nulls.0;
          second = nulls.1;
          weak_field = nulls.2;
        }))
        (λ r ne live own. inl live);
    held = λ c r h is. at_slot (λ r x. IsMade (stage_at p r)
        → IsMade x.stage × (x.payload ≡ (slot_at p r).payload) × (x.life ≡ (slot_at p r).life))
        (λ is_made. absurd (not_made is_made)) (λ r ne is_made. (is_made, refl, refl)) r;
    cells = λ c h. refl;
  }

pub observer_keeps : (z : Area)
    → Keeps (WatchLaw z) no_view ObserverReady observer_next ObserverTells
observer_keeps z p q views n step found meets low ready does =
    let d = subst (λ (a : PlainAct). Does p n a found q) ready.act_is does in (
      same_view z q views n
          (subst (λ (r : Plain). WatchLaw z r views) (sym d.1.3)
          (law_quiet z p _ (make_quiet z p _ ready.slot d.1.0 meets.lawful) meets.lawful views meets.law)),
      refl,
    )

module _ (z : Area) (p : Plain) (seats_after : List PlainSeat) (s : SlotId) (blank : stage_at p s ≡ Blank)
    (lawful : Lawful p) (views : List View) (n l : ℕ) (low : n < length views)
    (life : l ≡ (slot_at p s).life) (is : IsDelivery (slot_at p s).payload)
    (law : WatchLaw z p views) where
  abbrev delivers : View
  delivers = record (view_at views n) { made = record { slot = s; life = l + 1 } }

  law_delivers : WatchLaw z (after z p seats_after s blank lawful) (set views n delivers)
  law_delivers =
      let q = after z p seats_after s blank lawful in
      let now = here z p seats_after s blank lawful in
      let kept = law_quiet z p q (make_quiet z p seats_after s blank lawful) lawful views law in
      law_turn z q views n delivers kept (record {
        low = low;
        number = kept.number n;
        knows = knows_still z q views n delivers kept refl refl;
        fresh = λ some. record {
          begun = let e = ap (λ (x : PlainSlot). x.life) now in omega arith;
          null = λ live same. (
            subst (λ (x : PlainSlot). IsDelivery x.payload) (sym now) is,
            ap (λ (x : PlainSlot). x.first) now ∙ (nulls z p seats_after s blank lawful).0,
          );
          loose = λ a noted slot same.
              let b = (law.addressed a noted).begun in
              let e = ap (λ (r : SlotId). (slot_at p r).life) slot in absurd (omega arith);
        };
        apart = λ m ne some slot same.
            let f = law.fresh m (omega arith) in
            let b = f.begun in
            let e = ap (λ (r : SlotId). (slot_at p r).life) slot in absurd (omega arith);
        addressed = refl;
        read = λ a has. law.read a (n, has);
      })

pub delivery_keeps : (z : Area)
    → Keeps (WatchLaw z) no_view DeliveryReady delivery_next
    DeliveryTells
delivery_keeps z p q views n step found meets low ready does =
    let s = ready.slot in
    let d = subst (λ (a : PlainAct). Does p n a found q) ready.act_is does in
    let has = filling_has p n ready.slot d.1.1 in
    let kept = law_delivers z p _ ready.slot d.1.0 meets.lawful views n
    (life_in (own_part p n) ready.slot) low
    (known_life p n ready.slot has) (subst IsDelivery (known_payload p n ready.slot has) ready.is)
    meets.law in (
      subst (λ (a : PlainAct). WatchLaw z q (set views n
          (delivery_next (own_part p n) (own_part q n) (view_at views n) a found))) (sym ready.act_is)
          (subst (λ (r : Plain). WatchLaw z r (set views n (record (view_at views n) {
            made = record { slot = ready.slot; life = life_in (own_part p n) ready.slot + 1 };
          })))
          (sym d.1.3) kept),
      refl,
    )
