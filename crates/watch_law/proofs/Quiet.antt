-- What a step owes the law that changes no view and writes nothing of its own; and what foreign steps leave.
use Rattle.std.proofs.Common.{◌≡◌, ◌⊎◌, inl, inr, ⊎_elim, ℕ, ◌+◌, ◌<◌, ◌≤◌, List, sym, ap, subst, ◌∙◌, arith, Option, Some, None}
use Rattle.plain_protocol.specs.plain_state.declared.act.PlainAct.{PlainAct}
use Rattle.plain_protocol.specs.plain_state.declared.slot.PlainSlot.{PlainSlot}
use Rattle.plain_protocol.specs.plain_state.declared.slot.SlotId.{SlotId}
use Rattle.plain_protocol.specs.plain_state.declared.slot.Stage.TheVariants.{Live}
use Rattle.plain_protocol.specs.plain_state.Lawful.{Lawful}
use Rattle.plain_protocol.specs.plain_state.State.{Plain, slot_at, stage_at}
use Rattle.plain_protocol.specs.plain_state.Steps.{Does}
use Rattle.plain_protocol.specs.Acts.{IsForeign}
use Rattle.plain_protocol.specs.Calm.{IsMade}
use Rattle.plain_protocol.specs.Laws.{KeptByCalm, KeptByForeign}
use Rattle.protocol_pairs.proofs.Held.{first_live}
use Rattle.protocol_pairs.proofs.Leaves.{calm_is_foreign, foreign_leaves}
use Rattle.protocol_pairs.proofs.WeaklyHeld.{goes_on, weak_cell_times}
use Rattle.watch_law.specs.Payloads.{IsObserver, IsDelivery, IsOwn, IsObserverOf, told}
use Rattle.watch_law.specs.Views.{Made, Subscribed, Address, View, view_at, last}
use Rattle.watch_law.specs.Law.{Area, cell, KnowsCell, IsTo, Holds, Fresh, IsNotedAs, WatchLaw}
use Rattle.watch_law.specs.Owned.{owns}
use Rattle.watch_law.proofs.Lives.{lives_on}

pub none_some : (s : SlotId) (o : Option SlotId) → o ≡ None → o ≡ Some s → ⊥
none_some s o none is = let e : None ≡ Some s = sym none ∙ is in cc

-- a slot of the law's own begins a new life with null fields
pub record Born (x y : PlainSlot) : Type 0 where
  pub later : x.life < y.life
  pub first : y.first ≡ None
  pub second : y.second ≡ None
  pub weak_field : y.weak_field ≡ None

pub record SameFields (x y : PlainSlot) : Type 0 where
  pub first : y.first ≡ x.first
  pub second : y.second ≡ x.second
  pub weak_field : y.weak_field ≡ x.weak_field

pub record Quiet (z : Area) (p q : Plain) : Type 0 where
  pub life : (s : SlotId) → (slot_at p s).life ≤ (slot_at q s).life
  pub kept : (s : SlotId) → stage_at p s ≡ Live
      → ((slot_at q s).life ≡ (slot_at p s).life) × ((slot_at q s).payload ≡ (slot_at p s).payload)
  pub back : (s : SlotId) → stage_at q s ≡ Live → (slot_at q s).life ≡ (slot_at p s).life
      → stage_at p s ≡ Live
  pub fields : (s : SlotId) → stage_at p s ≡ Live → IsOwn (slot_at p s).payload
      → SameFields (slot_at p s) (slot_at q s)
  pub born : (s : SlotId) → stage_at q s ≡ Live → IsOwn (slot_at q s).payload
      → (stage_at p s ≡ Live) ⊎ Born (slot_at p s) (slot_at q s)
  pub held : (c : ℕ) (s : SlotId) → c < z.cells → cell z p c ≡ Some s → IsMade (stage_at p s)
      → IsMade (stage_at q s) × ((slot_at q s).payload ≡ (slot_at p s).payload)
      × ((slot_at q s).life ≡ (slot_at p s).life)
  pub cells : (c : ℕ) → c < z.cells → cell z q c ≡ cell z p c

module _ (z : Area) (p q : Plain) (quiet : Quiet z p q) (lawful : Lawful p) where
  to_stays : (a : Address) → stage_at p a.slot ≡ Live → IsTo p a → IsTo q a
  to_stays a live to =
      let k = quiet.kept a.slot live in
      let o = quiet.kept a.observer (first_live p a.slot a.observer lawful to.first) in
      record {
        delivery = subst IsDelivery (sym k.1) to.delivery;
        event = ap told k.1 ∙ to.event;
        first = (quiet.fields a.slot live (inr to.delivery)).first ∙ to.first;
        life = o.0 ∙ to.life;
        observer = subst (IsObserverOf a.id) (sym o.1) to.observer;
      }

  pub holds_stays : (a : Address) → Holds p a → Holds q a
  holds_stays a h = record {
    begun = let l = quiet.life a.slot in let b = h.begun in omega arith;
    holds = λ live life.
        let l = quiet.life a.slot in let b = h.begun in
        let was : (slot_at p a.slot).life ≡ a.life = omega arith in
        let lived = quiet.back a.slot live (life ∙ sym was) in
        to_stays a lived (h.holds lived was);
  }

  pub fresh_stays : (views : List View) (e : Made) → Fresh p views e → Fresh q views e
  fresh_stays views e f = record {
    begun = let l = quiet.life e.slot in let b = f.begun in omega arith;
    null = λ live life.
        let l = quiet.life e.slot in let b = f.begun in
        let was : (slot_at p e.slot).life ≡ e.life = omega arith in
        let lived = quiet.back e.slot live (life ∙ sym was) in
        let o = f.null lived was in (
          subst IsDelivery (sym (quiet.kept e.slot lived).1) o.0,
          (quiet.fields e.slot lived (inr o.0)).first ∙ o.1,
        );
    loose = f.loose;
  }

  module _ (views : List View) (law : WatchLaw z p views) where
    knows_stays : (c : ℕ) (e : Option Subscribed) → c < z.cells → KnowsCell z p c e
        → KnowsCell z q c e
    knows_stays c None h k = quiet.cells c h ∙ k
    knows_stays c (Some e) h k = (
      quiet.cells c h ∙ k.0,
      (quiet.held c e.slot h k.0 (law.cells c e.slot h k.0).0).2 ∙ k.1,
    )

    noted_stays : (d o : SlotId) → stage_at p d ≡ Live → IsNotedAs views d (slot_at p d).life o
        → IsNotedAs views d (slot_at q d).life o
    noted_stays d o live i =
        subst (λ l. IsNotedAs views d l o) (sym (quiet.kept d live).0) i

    pub law_quiet : WatchLaw z q views
    law_quiet = record {
      cells = λ c s h is.
          let was = sym (quiet.cells c h) ∙ is in
          let o = law.cells c s h was in
          let k = quiet.held c s h was o.0 in
          (k.0, subst (IsObserverOf c) (sym k.1) o.1);
      own_cells = λ n c here h own.
          knows_stays c (last c (view_at views n).subscribed) h (law.own_cells n c here h own);
      number = law.number;
      fresh = λ n some. fresh_stays views (view_at views n).made (law.fresh n some);
      apart = law.apart;
      addressed = λ a is. holds_stays a (law.addressed a is);
      once = law.once;
      fields = λ d o live is first. ⊎_elim
          (λ lived.
          noted_stays d o lived
          (law.fields d o lived (subst IsDelivery (quiet.kept d lived).1 is)
          (sym (quiet.fields d lived (inr (subst IsDelivery (quiet.kept d lived).1 is))).first
          ∙ first)))
          (λ born. absurd (none_some o (slot_at q d).first born.first first))
          (quiet.born d live (inr is));
      bare = λ s live own. ⊎_elim
          (λ lived.
          let k = quiet.kept s lived in
          let was = subst IsOwn k.1 own in
          let f = quiet.fields s lived was in
          let b = law.bare s lived was in
          record {
            second = f.second ∙ b.second;
            weak_field = f.weak_field ∙ b.weak_field;
            first = λ is. f.first ∙ b.first (subst IsObserver k.1 is);
          })
          (λ born. record {
            second = born.second;
            weak_field = born.weak_field;
            first = λ is. born.first;
          })
          (quiet.born s live own);
      read = law.read;
    }

-- FOREIGN STEPS
pub foreign_quiet : (z : Area) (p q : Plain) (n : ℕ) (step : PlainAct) (found : ℕ) → Lawful p
    → IsForeign (owns z) p step → Does p n step found q → Quiet z p q
foreign_quiet z p q n step found lawful foreign does =
    let u = foreign_leaves (owns z) p q n step found lawful foreign does in
    record {
      life = λ s. (u.slots s).life;
      kept = λ s live. (u.slots s).kept live;
      back = λ s live same. ⊎_elim (λ lived. lived)
          (λ new. let later = new.0 in absurd (omega arith)) ((u.slots s).live live);
      fields = λ s live own. let f = (u.slots s).fields live own in
          record { first = f.0; second = f.1; weak_field = f.2 };
      born = λ s live own. ⊎_elim (λ lived. inl lived) (λ new. absurd (new.1 own))
          ((u.slots s).live live);
      held = λ c s h is made.
          let g = goes_on p q n step found lawful does s (weak_cell_times p (z.first + c) s is) made in
          (g.0, g.1, lives_on p q n step found lawful does s made);
      cells = λ c h. u.weak_cells (z.first + c) ((omega arith), (omega arith));
    }

pub watch_foreign : (z : Area) → KeptByForeign (WatchLaw z) (owns z)
watch_foreign z p q n step found views meets foreign does =
    law_quiet z p q (foreign_quiet z p q n step found meets.lawful foreign does) meets.lawful views
    meets.law

pub watch_calm : (z : Area) → KeptByCalm (WatchLaw z)
watch_calm z p q n step found views meets calm does =
    watch_foreign z p q n step found views meets (calm_is_foreign (owns z) p step calm) does
