-- A command but `make` and `audit`, at desks that are alike, answers the same and leaves desks that are alike.
use Rattle.std.proofs.Common.{◌≡◌, ⊎_elim, ℕ, ◌+◌, List, length, refl, ap, sym, ◌∙◌, subst, subst₂, arith, Bool, true, false}
use Rattle.script_desk.specs.plain_state.declared.act.EventPlace.{EventPlace}
use Rattle.script_desk.specs.plain_state.declared.act.PlainAct.TheVariants as act
use Rattle.script_desk.specs.plain_state.declared.slot.Kind.TheVariants as kind
use Rattle.script_desk.specs.plain_state.declared.slot.SlotId.{SlotId}
use Rattle.script_desk.specs.plain_state.State.{Plain, seat_at, slot_at, with_seat}
use Rattle.script_desk.specs.plain_state.Steps.{Does}
use Rattle.script_desk.specs.plain_store.Calls.{Gains, WeaklyGains, ending, gained, weakly_gained}
use Rattle.script_desk.specs.script_lines.declared.command.TextPlace.{TextPlace}
use Rattle.script_desk.specs.script_lines.declared.command.TextPlace.TheVariants as text
use Rattle.script_desk.specs.declared.handle.Handle.TheVariants.{Strong, Weak, Snapshot}
use Rattle.script_desk.specs.declared.said.Said.{Said}
use Rattle.script_desk.specs.Desks.{Desk}
use Rattle.script_desk.specs.Effects.{Gets, Gives, Keeps, LoadsOne, LoadsStrong, LoadsWeak, UpgradesOne}
use Rattle.script_law.specs.Desks.{DesksAlike}
use Rattle.script_law.specs.Orderly.{IsOrderly}
use Rattle.script_law.specs.Renamings.{IsRenaming}
use Rattle.script_law.specs.States.{StatesAlike}
use Rattle.script_law.proofs.Heaps.{look_same}
use Rattle.script_law.proofs.Desks.{gets_alike, gives_alike, keeps_alike}
use Rattle.script_law.proofs.Orderly.{Moves}
use Rattle.script_law.proofs.Places.{holds_alike, one_holds, other_holds}
use Rattle.script_law.proofs.States.{renamed_place}
use Rattle.script_law.proofs.Steps.{drops_alike, ends_alike, gained_alike, weak_drops_alike, weakly_gained_alike, written_alike}

gains_is : (p q : Plain) (s : SlotId) → Gains p s s q → q ≡ gained p s
gains_is p q s (same, (here, (held, cases))) = ⊎_elim (λ x. x.2) (λ x. absurd (omega (arith, x.0))) cases

gains_unmarked : (p q : Plain) (s : SlotId) → Gains p s s q → (slot_at p s).marked ≡ false
gains_unmarked p q s (same, (here, (held, cases))) = ⊎_elim (λ x. x.1) (λ x. absurd (omega (arith, x.0))) cases

refused_marked : (p q : Plain) (s : SlotId) → Does p 0 (act.Add s) 1 q → (slot_at p s).marked ≡ true
refused_marked p q s (here, (held, cases)) = ⊎_elim (λ x. absurd (omega (arith, x.0))) (λ x. x.1) cases

refused_is : (p q : Plain) (s : SlotId) → Does p 0 (act.Add s) 1 q → q ≡ with_seat p 0 (record (seat_at p 0) { adds = (seat_at p 0).adds + 1 })
refused_is p q s (here, (held, cases)) = ⊎_elim (λ x. absurd (omega (arith, x.0))) (λ x. x.2) cases

pub strong_is : (s t : SlotId) → Strong s ≡ Strong t → s ≡ t
strong_is s t e = cc

pub weak_is : (s t : SlotId) → Weak s ≡ Weak t → s ≡ t
weak_is s t e = cc

pub snapshot_is : (s t : SlotId) (b c : Bool) → Snapshot (s, b) ≡ Snapshot (t, c) → (s ≡ t) × (b ≡ c)
snapshot_is s t b c e =
    let same : Snapshot (s, b) ≡ Snapshot (t, c) = e in
    let pair : (s, b) ≡ (t, c) = cc in (ap (λ (x : SlotId × Bool). x.0) pair, ap (λ (x : SlotId × Bool). x.1) pair)

module _ (to from : SlotId → SlotId) (d d' e e' : Desk) (r : IsRenaming (length d.plain.slots) to from) (alike : DesksAlike to d d')
    (k : IsOrderly d) (k' : IsOrderly d') (m : Moves d.plain e.plain) where
  -- ---- handles that are gained and given up
  pub gains_two : (new : List ℕ) (s s' : SlotId) → s' ≡ to s → Gains d.plain s s e.plain → Gets d new (Strong s) e
      → Gains d'.plain s' s' e'.plain → Gets d' new (Strong s') e' → DesksAlike to e e'
  gains_two new s s' is g gets g' gets' =
      let h = subst (λ (x : SlotId). Gains d'.plain x x e'.plain) is g' in
      gets_alike to d d' alike e e' m
      (gained_alike to from (length d.plain.slots) r d.plain d'.plain refl k.one k'.one alike.plain e.plain e'.plain s
      (gains_is d.plain e.plain s g) (gains_is d'.plain e'.plain (to s) h))
      new (Strong s) gets (subst (λ (x : SlotId). Gets d' new (Strong x) e') is gets')

  pub weakly_gains_two : (new : List ℕ) (s s' : SlotId) → s' ≡ to s → WeaklyGains d.plain s s e.plain → Gets d new (Weak s) e
      → WeaklyGains d'.plain s' s' e'.plain → Gets d' new (Weak s') e' → DesksAlike to e e'
  weakly_gains_two new s s' is g gets g' gets' =
      let h = subst (λ (x : SlotId). WeaklyGains d'.plain x x e'.plain) is g' in
      gets_alike to d d' alike e e' m
      (weakly_gained_alike to from (length d.plain.slots) r d.plain d'.plain refl k.one k'.one alike.plain e.plain e'.plain s g.1.1.2 h.1.1.2)
      new (Weak s) gets (subst (λ (x : SlotId). Gets d' new (Weak x) e') is gets')

  pub drops_two : (name : List ℕ) (s s' : SlotId) → s' ≡ to s → Does d.plain 0 (act.Drop s) 0 e.plain → Gives d name e
      → Does d'.plain 0 (act.Drop s') 0 e'.plain → Gives d' name e' → DesksAlike to e e'
  drops_two name s s' is g gives g' gives' =
      let h = subst (λ (x : SlotId). Does d'.plain 0 (act.Drop x) 0 e'.plain) is g' in
      gives_alike to d d' alike e e' m
      (drops_alike to from (length d.plain.slots) r d.plain d'.plain refl k.one k'.one alike.plain e.plain e'.plain s 0 0 g h) name gives gives'

  pub weak_drops_two : (name : List ℕ) (s s' : SlotId) → s' ≡ to s → Does d.plain 0 (act.WeakDrop s) 0 e.plain → Gives d name e
      → Does d'.plain 0 (act.WeakDrop s') 0 e'.plain → Gives d' name e' → DesksAlike to e e'
  weak_drops_two name s s' is g gives g' gives' =
      let h = subst (λ (x : SlotId). Does d'.plain 0 (act.WeakDrop x) 0 e'.plain) is g' in
      gives_alike to d d' alike e e' m
      (weak_drops_alike to from (length d.plain.slots) r d.plain d'.plain refl k.one k'.one alike.plain e.plain e'.plain s 0 0 g h) name gives gives'

  pub ends_two : (name : List ℕ) (s s' : SlotId) (counted counted' : Bool) → s' ≡ to s → counted' ≡ counted
      → Does d.plain 0 (ending s counted) 0 e.plain → Gives d name e
      → Does d'.plain 0 (ending s' counted') 0 e'.plain → Gives d' name e' → DesksAlike to e e'
  ends_two name s s' true true is same g gives g' gives' = drops_two name s s' is g gives g' gives'
  ends_two name s s' false false is same g gives g' gives' =
      let h = subst (λ (x : SlotId). Does d'.plain 0 (act.EndSnapshot kind.Strong x) 0 e'.plain) is g' in
      gives_alike to d d' alike e e' m
      (ends_alike to from (length d.plain.slots) r d.plain d'.plain refl k.one k'.one alike.plain e.plain e'.plain kind.Strong s 0 0 g h)
      name gives gives'
  ends_two name s s' true false is same g gives g' gives' = absurd cc
  ends_two name s s' false true is same g gives g' gives' = absurd cc

  -- an upgrade
  refused_two : (s s' : SlotId) → s' ≡ to s → Does d.plain 0 (act.Add s) 1 e.plain → Keeps d e
      → Does d'.plain 0 (act.Add s') 1 e'.plain → Keeps d' e' → DesksAlike to e e'
  refused_two s s' is g keeps g' keeps' =
      keeps_alike to d d' alike e e' m
      (written_alike to from (length d.plain.slots) r d.plain d'.plain refl k.one k'.one alike.plain e.plain e'.plain _ _
      (refused_is d.plain e.plain s g) (refused_is d'.plain e'.plain s' g') (record {
        owned = alike.plain.seat.owned;
        weaks = alike.plain.seat.weaks;
        snapshots = alike.plain.seat.snapshots;
        deferred = alike.plain.seat.deferred;
      }))
      keeps keeps'

  same_mark : (s s' : SlotId) → s' ≡ to s → (slot_at d'.plain s').marked ≡ (slot_at d.plain s).marked
  same_mark s s' is = ap (λ (x : SlotId). (slot_at d'.plain x).marked) is ∙ (alike.plain.slots s).marked

  pub upgrades_two : (s s' : SlotId) (new : List ℕ) (a b : Said) → s' ≡ to s → UpgradesOne d s new a e → UpgradesOne d' s' new b e'
      → (a ≡ b) × DesksAlike to e e'
  upgrades_two s s' new a b is one two =
      ⊎_elim
      (λ x. ⊎_elim
      (λ y. (x.0 ∙ sym y.0, gains_two new s s' is x.1 x.2 y.1 y.2))
      (λ y.
      let f = gains_unmarked d.plain e.plain s x.1 in
      let t = refused_marked d'.plain e'.plain s' y.1 in
      let same = same_mark s s' is in absurd cc)
      two)
      (λ x. ⊎_elim
      (λ y.
      let f = refused_marked d.plain e.plain s x.1 in
      let t = gains_unmarked d'.plain e'.plain s' y.1 in
      let same = same_mark s s' is in absurd cc)
      (λ y. (x.0 ∙ sym y.0, refused_two s s' is x.1 x.2 y.1 y.2))
      two)
      one

  -- ---- places
  pub same_plain : e.plain ≡ d.plain → e'.plain ≡ d'.plain → StatesAlike to e.plain e'.plain
  same_plain is is' = subst₂ (StatesAlike to) (sym is) (sym is') alike.plain

  module _ (at at' : EventPlace) (same : at' ≡ renamed_place to at) where
    loads_two : (new : List ℕ) (a b : Said) → LoadsStrong d at new a e → LoadsStrong d' at' new b e' → (a ≡ b) × DesksAlike to e e'
    loads_two new a b one two =
        ⊎_elim
        (λ x. ⊎_elim
        (λ y.
        let s = x.1.0 in
        let is = holds_alike to from d d' r alike at at' same s y.1.0 x.1.1.0 y.1.1.0 in
        let state : e'.plain ≡ gained d'.plain (to s) = y.1.1.1 ∙ ap (gained d'.plain) is in (
          x.0 ∙ sym y.0,
          gets_alike to d d' alike e e' m
              (gained_alike to from (length d.plain.slots) r d.plain d'.plain refl k.one k'.one alike.plain e.plain e'.plain s x.1.1.1 state)
              new (Strong s) x.1.2 (subst (λ (z : SlotId). Gets d' new (Strong z) e') is y.1.2),
        ))
        (λ y. absurd (one_holds to from d d' r alike at at' same x.1.0 x.1.1.0 y.1.0))
        two)
        (λ x. ⊎_elim
        (λ y. absurd (other_holds to from d d' r alike at at' same y.1.0 x.1.0 y.1.1.0))
        (λ y. (
          x.0 ∙ sym y.0,
          keeps_alike to d d' alike e e' m
              (same_plain (look_same d.plain k.sound k.one e.plain at x.1.1) (look_same d'.plain k'.sound k'.one e'.plain at' y.1.1)) x.2 y.2,
        ))
        two)
        one

    weakly_loads_two : (new : List ℕ) (a b : Said) → LoadsWeak d at new a e → LoadsWeak d' at' new b e' → (a ≡ b) × DesksAlike to e e'
    weakly_loads_two new a b one two =
        ⊎_elim
        (λ x. ⊎_elim
        (λ y.
        let s = x.1.0 in
        let is = holds_alike to from d d' r alike at at' same s y.1.0 x.1.1.0 y.1.1.0 in
        let state : e'.plain ≡ weakly_gained d'.plain (to s) = y.1.1.1 ∙ ap (weakly_gained d'.plain) is in (
          x.0 ∙ sym y.0,
          gets_alike to d d' alike e e' m
              (weakly_gained_alike to from (length d.plain.slots) r d.plain d'.plain refl k.one k'.one alike.plain e.plain e'.plain s x.1.1.1 state)
              new (Weak s) x.1.2 (subst (λ (z : SlotId). Gets d' new (Weak z) e') is y.1.2),
        ))
        (λ y. absurd (one_holds to from d d' r alike at at' same x.1.0 x.1.1.0 y.1.0))
        two)
        (λ x. ⊎_elim
        (λ y. absurd (other_holds to from d d' r alike at at' same y.1.0 x.1.0 y.1.1.0))
        (λ y. (
          x.0 ∙ sym y.0,
          keeps_alike to d d' alike e e' m
              (same_plain (look_same d.plain k.sound k.one e.plain at x.1.1) (look_same d'.plain k'.sound k'.one e'.plain at' y.1.1)) x.2 y.2,
        ))
        two)
        one

    pub load_two : (place : TextPlace) (new : List ℕ) (a b : Said) → LoadsOne d place at new a e → LoadsOne d' place at' new b e'
        → (a ≡ b) × DesksAlike to e e'
    load_two (text.Cell i) new a b one two = loads_two new a b one two
    load_two (text.Field name i) new a b one two = loads_two new a b one two
    load_two (text.WeakCell i) new a b one two = weakly_loads_two new a b one two
    load_two (text.WeakField name) new a b one two = weakly_loads_two new a b one two
