-- The deeds that make a node follow one another.
use Rattle.std.proofs.Common.{◌≡◌, ◌≢◌, inl, inr, ⊎_elim, ℕ, ◌+◌, ◌<◌, Bool, true, false, List, ◌∷◌, refl, ap, sym, ◌∙◌, subst, arith}
use Rattle.std.specs.Prelude.{Option, Some, None, if◌then◌else◌, ◌==◌}
use Rattle.plain_protocol.specs.plain_state.declared.act.EventPlace.TheVariants.{Field}
use Rattle.plain_protocol.specs.plain_state.declared.act.PlainAct.{PlainAct}
use Rattle.plain_protocol.specs.plain_state.declared.act.PlainAct.TheVariants as act
use Rattle.plain_protocol.specs.plain_state.declared.slot.SlotId.{SlotId}
use Rattle.plain_protocol.specs.Owns.{Object, OwnPart}
use Rattle.map_law.specs.Views.{Kid, Raw, View, In, note, raw_times, without}
use Rattle.map_law.specs.Patterns.{HasObject, kid_of}
use Rattle.map_law.specs.Making.{HasKid, Known, SetReady, made, make_next, on_first, set_kid, set_next, with_kid}
use Rattle.map_law.proofs.Kit.{raw_cons, raw_other, raw_same}
use Rattle.map_law.proofs.SetDeed.{without_first}

raw_of : SlotId → Object → Raw
raw_of s o = record { slot = s; life = o.life + 1; payload = o.payload; first = None; second = None }

-- a made node is known
pub made_known : (s : SlotId) (before after : OwnPart) (v : View) (a : Object) (step : PlainAct) (found : ℕ)
    → HasObject before s a
    → Known (make_next s before after v step found) s (a.life + 1)
unfolding raw_of
made_known s before after v a step found has = subst (λ (x : Option Object). Known (made s x v) s (a.life + 1))
    (sym has)
    (inr (let c = raw_cons s (a.life + 1) (raw_of s a) v.raw in
    let d = raw_same s (a.life + 1) (raw_of s a) refl refl in omega arith))

-- a kid that was set is known
pub set_known : (i : ℕ) (r : SlotId) (own after : OwnPart) (v : View) (k : Object) (step : PlainAct) (found : ℕ)
    → HasObject own r k
    → Known (set_next i r own after v step found) r k.life
set_known i r own after v k step found has = subst (λ (x : Option Object). Known (set_kid i r x v) r k.life)
    (sym has) (inl (inl refl))

pub sets_made : (s r : SlotId) (i : ℕ) (own before after : OwnPart) (v : View) (a o : Object) (step : PlainAct)
    (found : ℕ) → v.here ≡ true
    → HasObject before s a → HasObject own s o → o.life ≡ a.life + 1 → HasKid s i r own v
    → SetReady s i r own (make_next s before after v step found) (act.Replace (Field s i) (Some r))
unfolding raw_of
sets_made s r i own before after v a o step found here was has life kid =
    subst (λ (x : Option Object). SetReady s i r own (made s x v) (act.Replace (Field s i) (Some r))) (sym was)
    (record {
      is = refl;
      here = here;
      side = kid.side;
      owned = kid.owned;
      kid_owned = kid.kid_owned;
      first = o;
      second = kid.kid;
      has_first = has;
      has_second = kid.has;
      node = kid.node;
      raw = (raw_of s a, v.raw, refl, refl, sym life);
      known = kid.known;
    })

-- the note of the node whose field was set
like_kid : (i : ℕ) (k : Option Kid) (e : Raw) → ((with_kid i k e).slot ≡ e.slot) × ((with_kid i k e).life ≡ e.life)
like_kid i k e = go (i == 0)
  where
    go : (z : Bool) → ((if z then record e { first = k } else record e { second = k }).slot ≡ e.slot)
        × ((if z then record e { first = k } else record e { second = k }).life ≡ e.life)
    go true = (refl, refl)
    go false = (refl, refl)

pub sets_again : (s r t : SlotId) (i j : ℕ) (own after later : OwnPart) (v : View) (o : Object) (step : PlainAct)
    (found : ℕ)
    → (ready : SetReady s i r own v step) → s ≢ r → s ≢ t → HasObject later s o → o.life ≡ ready.first.life
    → HasKid s j t later (set_next i r own after v step found)
    → SetReady s j t later (set_next i r own after v step found) (act.Replace (Field s j) (Some t))
sets_again s r t i j own after later v o step found ready apart other has life kid =
    let k = ready.second in
    let e = ready.raw.0 in
    let es = ready.raw.1 in
    let l = kid.kid.life in
    let f : Raw = with_kid i (Some (kid_of r k)) e in
    let like = like_kid i (Some (kid_of r k)) e in
    let rest : List Raw = without r k.life es in
    let w : View = set_next i r own after v step found in
    let is : w ≡ set_kid i r (Some k) v = ap (λ (x : Option Object). set_kid i r x v) ready.has_second in
    let raws : w.raw ≡ f ∷ rest =
    ap (λ (x : View). x.raw) is
    ∙ ap (on_first (with_kid i (Some (kid_of r k)))) (ap (without r k.life) ready.raw.2
    ∙ without_first r k.life e es (λ z. apart (sym ready.raw.3 ∙ z))) in
    let slot : f.slot ≡ s = like.0 ∙ ready.raw.3 in
    record {
      is = refl;
      here = ap (λ (x : View). x.here) is ∙ ready.here;
      side = kid.side;
      owned = kid.owned;
      kid_owned = kid.kid_owned;
      first = o;
      second = kid.kid;
      has_first = has;
      has_second = kid.has;
      node = kid.node;
      raw = (f, rest, raws, slot, like.1 ∙ (ready.raw.4 ∙ sym life));
      known = ⊎_elim
          (λ (h : In (note t l) w.solid). inl h)
          (λ (h : 0 < raw_times t l w.raw). inr (
          let a = ap (raw_times t l) raws in
          let b = raw_cons t l f rest in
          let d = raw_other t l f (λ z. other (sym slot ∙ z)) in omega arith))
          kid.known;
    }
