-- A make: what it leaves of an orderly desk, and that it doesn't matter which free slot it takes.
use Rattle.std.proofs.Common.{◌≡◌, ◌≢◌, ⊎_elim, ℕ, ◌+◌, ◌<◌, List, [], ◌∷◌, ◌++◌, length, get_or-set_same, length-set, refl, ap, sym, ◌∙◌, subst, subst₂, arith, Some, None}
use Rattle.std.specs.Prelude.{IsSome}
use Rattle.std.proofs.lemmas.List.Elements.{All-get_or}
use Rattle.script_desk.specs.plain_state.declared.act.PlainAct.TheVariants as act
use Rattle.script_desk.specs.plain_state.declared.slot.PlainSlot.{PlainSlot}
use Rattle.script_desk.specs.plain_state.declared.slot.SlotId.{SlotId}
use Rattle.script_desk.specs.plain_state.declared.slot.Stage.TheVariants.{Free}
use Rattle.script_desk.specs.plain_state.Lists.{entry_times}
use Rattle.script_desk.specs.plain_state.declared.slot.Kind.TheVariants.{Disposal}
use Rattle.script_desk.specs.plain_state.State.{Plain, PlainSeat, new_seat, new_slot, seat_at, slot_at, stage_at, with_seat}
use Rattle.script_desk.proofs.Below.plain_state_Changes.{slot_other}
use Rattle.script_desk.proofs.Below.plain_state_Kit.{cases_slot, slot_is}
use Rattle.script_desk.specs.plain_store.Heaps.{Makes, NoneFree, fills, made_slot}
use Rattle.script_desk.proofs.Below.plain_store_Making.{IsMake, made, make_is}
use Rattle.script_desk.specs.declared.handle.Handle.TheVariants.{Strong}
use Rattle.script_desk.specs.declared.said.Said.{Said}
use Rattle.script_desk.specs.Desks.{Binds, Desk, MadeBy, Maker, bound, maker_of}
use Rattle.script_desk.specs.Effects.{MakesOne}
use Rattle.script_desk.specs.Kinds.{script_payload}
use Rattle.script_desk.proofs.Gaining.{makes_more}
use Rattle.script_law.specs.Desks.{DesksAlike}
use Rattle.script_law.specs.Orderly.{IsOrderly}
use Rattle.script_law.specs.Renamings.{IsRenaming}
use Rattle.script_law.specs.States.{SeatsAlike, SlotsAlike, StatesAlike}
use Rattle.script_law.proofs.Acting.{none_of}
use Rattle.script_law.proofs.Desks.{binds_alike}
use Rattle.script_law.proofs.Moving.{runs_sound}
use Rattle.script_law.proofs.Orderly.{holds_more, listed_more}
use Rattle.script_law.proofs.States.{seat_alike, slot_alike}
use Rattle.script_law.proofs.Steps.{own_more}

-- the payload of every slot has sixteen words
long_enough : (d : Desk) → IsOrderly d → (t : SlotId) → t.0 < length d.plain.slots → length (slot_at d.plain t).payload ≡ 16
long_enough d k t there = All-get_or (λ (x : PlainSlot). length x.payload ≡ 16) d.plain.slots t.0 new_slot there k.sound.payloads

-- one make, in this slot
module _ (d e : Desk) (k : IsOrderly d) (name : List ℕ) (weight : ℕ) (s : SlotId) (makes : Makes d.plain s (script_payload weight) e.plain) where
  pub is_make : IsMake d.plain s (script_payload weight) e.plain
  is_make = make_is d.plain e.plain s (script_payload weight) refl (long_enough d k) makes

  abbrev seat_then : PlainSeat
  seat_then = record (seat_at d.plain 0) {
    owned = (seat_at d.plain 0).owned ++ s ∷ [];
    filling = None;
    adds = (seat_at d.plain 0).adds + 1;
  }

  abbrev object : PlainSlot
  object = made_slot (slot_at d.plain s) (script_payload weight)

  there : 0 < length d.plain.seats
  there = let a = k.one in omega arith

  slot_else : (t : SlotId) → t.0 ≢ s.0 → slot_at e.plain t ≡ slot_at d.plain t
  slot_else t ne =
      ap (λ (r : Plain). slot_at r t) is_make.state ∙ slot_other (with_seat d.plain 0 seat_then) s object t ne

  seat_is : seat_at e.plain 0 ≡ seat_then
  seat_is = ap (λ (r : Plain). seat_at r 0) is_make.state ∙ get_or-set_same d.plain.seats 0 seat_then new_seat there

  taken_else : (t : SlotId) → t.0 ≢ s.0 → stage_at e.plain t ≢ Free → stage_at d.plain t ≢ Free
  taken_else t ne taken free = taken (ap (λ (x : PlainSlot). x.stage) (slot_else t ne) ∙ free)

  module _ (by : MadeBy d name s e) where
    here_made : (t : SlotId) → t ≡ s → (maker_of e t).number ≡ d.makes
    here_made t is = ap (λ (u : SlotId). (maker_of e u).number) is ∙ ap (λ (m : Maker). m.number) by.1

    else_made : (t : SlotId) → t.0 ≢ s.0 → maker_of e t ≡ maker_of d t
    else_made t ne = by.2 t (λ x. ne (ap (λ (u : SlotId). u.0) x))

    made_then : (t : SlotId) → stage_at e.plain t ≢ Free → (maker_of e t).number < e.makes
    made_then t taken =
        let more = by.0 in
        ⊎_elim
        (λ (is : t ≡ s). let a = here_made t is in omega arith)
        (λ (ne : t.0 ≢ s.0).
        let a = k.made t (taken_else t ne taken) in
        let b = ap (λ (m : Maker). m.number) (else_made t ne) in omega arith)
        (cases_slot t s)

    own_then : (t u : SlotId) → stage_at e.plain t ≢ Free → stage_at e.plain u ≢ Free
        → (maker_of e t).number ≡ (maker_of e u).number → t ≡ u
    own_then t u here other same =
        ⊎_elim
        (λ (is : t ≡ s). ⊎_elim
        (λ (is' : u ≡ s). is ∙ sym is')
        (λ (ne' : u.0 ≢ s.0).
        let a = here_made t is in
        let b = k.made u (taken_else u ne' other) in
        let c = ap (λ (m : Maker). m.number) (else_made u ne') in absurd (omega arith))
        (cases_slot u s))
        (λ (ne : t.0 ≢ s.0). ⊎_elim
        (λ (is' : u ≡ s).
        let a = here_made u is' in
        let b = k.made t (taken_else t ne here) in
        let c = ap (λ (m : Maker). m.number) (else_made t ne) in absurd (omega arith))
        (λ (ne' : u.0 ≢ s.0).
        k.own t u (taken_else t ne here) (taken_else u ne' other)
        (sym (ap (λ (m : Maker). m.number) (else_made t ne)) ∙ same ∙ ap (λ (m : Maker). m.number) (else_made u ne')))
        (cases_slot u s))
        (cases_slot t s)

    made_orderly : (IsSome (bound d.names name) → ⊥) → Binds d.names name (Some (Strong s)) e.names → IsOrderly e
    made_orderly free binds =
        let l = listed_more d k name (Strong s) e.names (none_of (bound d.names name) free) binds in record {
          sound = runs_sound (act.Claim s ∷ fills s 0 (script_payload weight) ++ act.Make s ∷ []) d.plain e.plain k.sound makes;
          one = ap (λ (r : Plain). length r.seats) is_make.state ∙ length-set d.plain.seats 0 seat_then ∙ k.one;
          quiet = λ t. ap (λ (v : PlainSeat). entry_times Disposal t v.deferred) seat_is ∙ k.quiet t;
          listed = (name, Strong s) ∷ k.listed;
          once = l.0;
          same = l.1;
          holds = holds_more d.plain e.plain k.listed name (Strong s) k.holds (makes_more d.plain e.plain s (script_payload weight) makes);
          made = made_then;
          own = own_then;
        }

pub makes_orderly : (d e : Desk) → IsOrderly d → (name : List ℕ) (weight : ℕ) (answer : Said) → (IsSome (bound d.names name) → ⊥)
    → MakesOne d name weight answer e → IsOrderly e
makes_orderly d e k name weight answer free cases =
    ⊎_elim
    (λ x. subst IsOrderly (sym x.2) k)
    (λ x.
    let s = x.1.0 in made_orderly d e k name weight s x.1.1 x.1.3 free x.1.2)
    cases

-- where no slot is free, none is
pub none_there : (p : Plain) → NoneFree p → (t : SlotId) → t.0 < length p.slots → stage_at p t ≡ Free → ⊥
none_there p none t there = All-get_or (λ (x : PlainSlot). x.stage ≢ Free) p.slots t.0 new_slot there none

-- two makes at desks that are alike, where the slot of the one is the new name of that of the other
module _ (to from : SlotId → SlotId) (d d' e e' : Desk) (r : IsRenaming (length d.plain.slots) to from) (alike : DesksAlike to d d')
    (k : IsOrderly d) (k' : IsOrderly d') (name : List ℕ) (weight : ℕ) (s s' : SlotId) (is : to s ≡ s')
    (makes : Makes d.plain s (script_payload weight) e.plain) (makes' : Makes d'.plain s' (script_payload weight) e'.plain)
    (binds : Binds d.names name (Some (Strong s)) e.names) (binds' : Binds d'.names name (Some (Strong s')) e'.names)
    (by : MadeBy d name s e) (by' : MadeBy d' name s' e') where
  m : IsMake d.plain s (script_payload weight) e.plain
  m = is_make d e k name weight s makes

  m' : IsMake d'.plain s' (script_payload weight) e'.plain
  m' = is_make d' e' k' name weight s' makes'

  objects_alike : SlotsAlike to (made_slot (slot_at d.plain s) (script_payload weight)) (made_slot (slot_at d'.plain (to s)) (script_payload weight))
  objects_alike = record {
    stage = refl;
    marked = refl;
    payload = λ taken. refl;
    first = (alike.plain.slots s).first;
    second = (alike.plain.slots s).second;
    weak_field = (alike.plain.slots s).weak_field;
  }

  seats_alike : (v w : PlainSeat) → SeatsAlike to v w
      → SeatsAlike to (record v { owned = v.owned ++ s ∷ []; filling = None; adds = v.adds + 1 })
      (record w { owned = w.owned ++ to s ∷ []; filling = None; adds = w.adds + 1 })
  seats_alike v w same =
      let o = own_more to from (length d.plain.slots) r v w s (v.adds + 1) (w.adds + 1) same in
      record { owned = o.owned; weaks = o.weaks; snapshots = o.snapshots; deferred = o.deferred }

  made_alike : StatesAlike to (made d.plain s (script_payload weight)) (made d'.plain (to s) (script_payload weight))
  made_alike =
      let v = seat_at d.plain 0 in
      let w = seat_at d'.plain 0 in
      let v' : PlainSeat = record v { owned = v.owned ++ s ∷ []; filling = None; adds = v.adds + 1 } in
      let w' : PlainSeat = record w { owned = w.owned ++ to s ∷ []; filling = None; adds = w.adds + 1 } in
      let written = seat_alike to from (length d.plain.slots) r d.plain d'.plain refl alike.plain v' w'
      (there d e k name weight s makes) (there d' e' k' name weight s' makes') (seats_alike v w alike.plain.seat) in
      slot_alike to from (length d.plain.slots) r (with_seat d.plain 0 v') (with_seat d'.plain 0 w') refl written s _ _ m.there objects_alike

  states_alike : StatesAlike to e.plain e'.plain
  states_alike =
      subst₂ (StatesAlike to) (sym m.state) (ap (λ (t : SlotId). made d'.plain t (script_payload weight)) is ∙ sym m'.state) made_alike

  makers_alike : (t : SlotId) → stage_at e.plain t ≢ Free → maker_of e' (to t) ≡ maker_of e t
  makers_alike t taken =
      ⊎_elim
      (λ (x : t ≡ s).
      ap (λ (u : SlotId). maker_of e' (to u)) x ∙ ap (maker_of e') is ∙ by'.1
      ∙ (λ i. record { number = alike.makes i; name = name }) ∙ sym by.1 ∙ ap (maker_of e) (sym x))
      (λ (ne : t.0 ≢ s.0).
      else_made d' e' k' name weight s' makes' by' (to t)
      (λ x. ne (ap (λ (u : SlotId). u.0) (sym (r.back t) ∙ ap from (slot_is (to t) s' x ∙ sym is) ∙ r.back s)))
      ∙ alike.makers t (taken_else d e k name weight s makes t ne taken)
      ∙ sym (else_made d e k name weight s makes by t ne))
      (cases_slot t s)

  pub makes_alike : DesksAlike to e e'
  makes_alike = record {
    plain = states_alike;
    names = binds_alike to d d' alike e e' name (Some (Strong s)) (Some (Strong s')) binds binds' (ap (λ (t : SlotId). Some (Strong t)) (sym is));
    makers = makers_alike;
    makes = by'.0 ∙ ap (λ (n : ℕ). n + 1) alike.makes ∙ sym by.0;
  }
