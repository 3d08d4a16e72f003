-- The deed that sets a field of a raw node keeps the law.
use Rattle.std.proofs.Common.{◌≡◌, ◌≢◌, inl, inr, ⊎_elim, ℕ, ◌<◌, Bool, true, false, List, ◌∷◌, length, set, refl, ap, sym, ◌∙◌, subst, arith}
use Rattle.std.specs.Prelude.{Option, Some, if◌then◌else◌}
use Rattle.std.proofs.lemmas.List.{length-set}
use Rattle.plain_protocol.specs.plain_state.declared.act.EventPlace.TheVariants.{Field}
use Rattle.plain_protocol.specs.plain_state.declared.act.PlainAct.{PlainAct}
use Rattle.plain_protocol.specs.plain_state.declared.act.PlainAct.TheVariants as act
use Rattle.plain_protocol.specs.plain_state.declared.slot.SlotId.{SlotId}
use Rattle.plain_protocol.specs.plain_state.declared.slot.Stage.TheVariants.{Live}
use Rattle.plain_protocol.specs.plain_state.Places.{with_field}
use Rattle.plain_protocol.specs.plain_state.State.{Plain, seat_at, slot_at}
use Rattle.plain_protocol.specs.plain_state.Lawful.{Lawful}
use Rattle.plain_protocol.specs.plain_state.Steps.{Does}
use Rattle.plain_protocol.specs.Owns.{Object, own_part}
use Rattle.plain_protocol.specs.Laws.{Keeps}
use Rattle.map_law.specs.Views.{Kid, Raw, View, gone, view_at, In, note, is_raw, raw_one, raw_times, without, fresh}
use Rattle.map_law.specs.Nodes.{IsNode}
use Rattle.map_law.specs.Learnt.{Solid}
use Rattle.map_law.specs.Law.{MapLaw}
use Rattle.map_law.specs.Making.{Known, with_kid, on_first, frozen, set_kid, set_next, SetReady}
use Rattle.map_law.specs.Patterns.{kid_of}
use Rattle.map_law.proofs.Kit.{each_in, view_here, raw_cons, raw_same, raw_at, fresh_at}
use Rattle.map_law.proofs.Left.{does_left}
use Rattle.map_law.proofs.Others.{held_live}
use Rattle.map_law.proofs.Making.{object_is}
use Rattle.map_law.proofs.Views.{frozen_law, known_none}
use Rattle.map_law.specs.Making.{SetTells}
use Rattle.map_law.specs.Nodes.{KeepsMap}
use Rattle.plain_protocol.specs.plain_state.Lists.{times}
use Rattle.map_law.proofs.Setting.{set_twice, write_law, write_map}

pub owned_live : (p : Plain) (n : ℕ) (s : SlotId) → Lawful p → n < length p.seats → 0 < times s (seat_at p n).owned
    → (slot_at p s).stage ≡ Live
owned_live p n s lawful low owned = held_live p n s lawful low (omega arith)

pub without_first : (r : SlotId) (l : ℕ) (e : Raw) (es : List Raw) → e.slot ≢ r
    → without r l (e ∷ es) ≡ e ∷ without r l es
without_first r l e es ne = go (is_raw r l e) refl
  where
    go : (b : Bool) → is_raw r l e ≡ b → (if b then without r l es else e ∷ without r l es) ≡ e ∷ without r l es
    go true is = absurd (ne (raw_at r l e is).0)
    go false is = refl

pub set_keeps : (c : ℕ) (s : SlotId) (i : ℕ) (r : SlotId) → Keeps (MapLaw c) gone (SetReady s i r) (set_next i r)
    (SetTells c)
set_keeps c s i r p q views n step found meets low ready does =
    let d = subst (λ (a : PlainAct). Does p n a found q) ready.is does in
    let v = view_at views n in
    let fs = object_is p n s ready.first ready.has_first in
    let fo = object_is p n r ready.second ready.has_second in
    let l = ready.second.life in
    let life_r : l ≡ (slot_at p r).life = ap (λ (x : Object). x.life) fo in
    let pay_r : ready.second.payload ≡ (slot_at p r).payload = ap (λ (x : Object). x.payload) fo in
    let live_s = owned_live p n s meets.lawful d.0.0 ready.owned in
    let live_r = owned_live p n r meets.lawful d.0.0 ready.kid_owned in
    let views0 : List View = set views n (frozen r l v) in
    let known : Known v r l = ⊎_elim
    (λ (i : In (note r l) v.solid). inl i)
    (λ (h : 0 < raw_times r l ready.raw.1). inr (let a = raw_cons r l ready.raw.0 ready.raw.1 in
    let b = ap (raw_times r l) ready.raw.2 in omega arith))
    ready.known in
    let other : s ≢ r = λ same.
    let z : l ≡ (slot_at p s).life = life_r ∙ ap (λ (x : SlotId). (slot_at p x).life) (sym same) in
    let mine : raw_one s l ready.raw.0 ≡ 1 = raw_same s l ready.raw.0 ready.raw.3 (ready.raw.4
    ∙ (ap (λ (x : Object). x.life) fs ∙ sym z)) in
    let a = raw_cons s l ready.raw.0 ready.raw.1 in
    let b = ap (raw_times s l) ready.raw.2 in
    let t = fresh_at views n s l low in
    let o = meets.law.once s l in
    ⊎_elim
    (λ (i : In (note r l) v.solid).
    let g : fresh views s l ≡ 0 = subst (λ (x : SlotId). fresh views x l ≡ 0) (sym same)
    (each_in (Solid p views) (note r l) v.solid i (meets.law.learnt n).solid).1 in omega arith)
    (λ (h : 0 < raw_times r l ready.raw.1).
    let g : 0 < raw_times s l ready.raw.1 = subst (λ (x : SlotId). 0 < raw_times x l ready.raw.1) (sym same) h in
    omega arith)
    ready.known in
    let law0 = frozen_law c p views n r l meets.lawful meets.law low ready.here known in
    let at0 : view_at views0 n ≡ frozen r l v = view_here views n (frozen r l v) low in
    let e : Raw = ready.raw.0 in
    let es : List Raw = ready.raw.1 in
    let raws : (view_at views0 n).raw ≡ e ∷ without r l es =
    ap (λ (x : View). x.raw) at0
    ∙ (ap (without r l) ready.raw.2 ∙ without_first r l e es (λ z. other (sym ready.raw.3 ∙ z))) in
    let none : fresh views0 r (slot_at p r).life ≡ 0 = subst (λ (x : ℕ). fresh views0 r x ≡ 0) life_r
    (known_none c p views n meets.law low r l known) in
    let k : Kid = kid_of r ready.second in
    let a = write_law c p q i s r views0 n e (without r l es) k
    (ap (λ (z : Plain). z.slots) d.1.2.2 ∙ written i) (ap (λ (z : Plain). z.cells) d.1.2.2) ready.side
    (does_left p q n (act.Replace (Field s i) (Some r)) found (λ j z. absurd cc) d) meets.lawful law0
    (let z = length-set views n (frozen r l v) in omega arith) (ap (λ (x : View). x.here) at0 ∙ ready.here)
    raws ready.raw.3 (ready.raw.4 ∙ ap (λ (x : Object). x.life) fs) live_s other
    (live_r, subst IsNode pay_r ready.node) none (refl, sym life_r, sym pay_r) in
    let told : KeepsMap c p q = write_map c p q i s r views0 n e (without r l es) k
    (ap (λ (z : Plain). z.slots) d.1.2.2 ∙ written i) (ap (λ (z : Plain). z.cells) d.1.2.2) ready.side
    (does_left p q n (act.Replace (Field s i) (Some r)) found (λ j z. absurd cc) d) meets.lawful law0
    (let z = length-set views n (frozen r l v) in omega arith) (ap (λ (x : View). x.here) at0 ∙ ready.here)
    raws ready.raw.3 (ready.raw.4 ∙ ap (λ (x : Object). x.life) fs) live_s other
    (live_r, subst IsNode pay_r ready.node) none (refl, sym life_r, sym pay_r) in
    let b : set views0 n (record (view_at views0 n) { raw = with_kid i (Some k) e ∷ without r l es })
    ≡ set views n (record (frozen r l v) { raw = with_kid i (Some k) e ∷ without r l es }) =
    set_twice views n (frozen r l v) _
    ∙ ap (λ (x : View). set views n (record x { raw = with_kid i (Some k) e ∷ without r l es })) at0 in
    let f : set_next i r (own_part p n) (own_part q n) v step found
    ≡ record (frozen r l v) { raw = with_kid i (Some k) e ∷ without r l es } =
    ap (λ (x : Option Object). set_kid i r x v) ready.has_second
    ∙ ap (λ (x : List Raw). record (frozen r l v) { raw = on_first (with_kid i (Some k)) x })
    (sym (ap (λ (x : View). x.raw) at0) ∙ raws) in
    (subst (λ (x : View). MapLaw c q (set views n x)) (sym f) (subst (MapLaw c q) b a), told)
  where
    written : (j : ℕ) → set p.slots s.0 (with_field j (Some r) (slot_at p s))
        ≡ set p.slots s.0 (with_field j (Some r) (slot_at p s))
    written j = refl
