-- A place that is replaced, and a snapshot of one, at desks that are alike.
use Rattle.std.proofs.Common.{◌≡◌, ⊎_elim, ℕ, List, length, refl, ap, sym, ◌∙◌, subst₂, arith, Bool, true, false, Option, Some, None}
use Rattle.script_desk.specs.plain_state.declared.act.EventPlace.{EventPlace}
use Rattle.script_desk.specs.plain_state.declared.slot.Kind.{Kind}
use Rattle.script_desk.specs.plain_state.declared.slot.SlotId.{SlotId}
use Rattle.script_desk.specs.plain_state.Lists.{Loses}
use Rattle.script_desk.specs.plain_state.Places.{IsOpen, content, place_kind}
use Rattle.script_desk.specs.plain_state.State.{seat_at}
use Rattle.script_desk.specs.plain_state.Steps.{Replaces}
use Rattle.script_desk.proofs.Below.plain_state_SeatRows.{open_there}
use Rattle.script_desk.specs.plain_store.Calls.{Puts, gained}
use Rattle.script_desk.specs.plain_settling.Snapshots.{Takes}
use Rattle.script_desk.specs.declared.handle.Handle.TheVariants.{Snapshot}
use Rattle.script_desk.specs.declared.said.Said.{Said}
use Rattle.script_desk.specs.Desks.{Desk}
use Rattle.script_desk.specs.Effects.{Gets, Gives, GivesNew, Keeps, ReplacesOne, SnapsOne, snapped}
use Rattle.script_desk.proofs.Placing.{tries_done}
use Rattle.script_law.specs.Desks.{DesksAlike}
use Rattle.script_law.specs.Orderly.{IsOrderly}
use Rattle.script_law.specs.Renamings.{IsRenaming, renamed}
use Rattle.script_law.specs.States.{StatesAlike}
use Rattle.script_law.proofs.Heaps.{look_same, lost_same, seated}
use Rattle.script_law.proofs.Acts.{same_plain}
use Rattle.script_law.proofs.Counts.{entries_length}
use Rattle.script_law.proofs.Desks.{gets_alike, gives_alike, keeps_alike}
use Rattle.script_law.proofs.Orderly.{Moves}
use Rattle.script_law.proofs.Places.{expected_back, expected_too, holds_alike, one_holds, other_holds}
use Rattle.script_law.proofs.States.{renamed_place}
use Rattle.script_law.proofs.Steps.{gained_alike, replaces_alike, same_kind, snaps_alike}

false_true : false ≡ true → ⊥
false_true e = cc

module _ (to from : SlotId → SlotId) (d d' e e' : Desk) (r : IsRenaming (length d.plain.slots) to from) (alike : DesksAlike to d d')
    (k : IsOrderly d) (k' : IsOrderly d') (m : Moves d.plain e.plain) (at at' : EventPlace) (same : at' ≡ renamed_place to at) where
  replaced : (new new' : Option SlotId) → new' ≡ renamed to new → IsOpen d.plain 0 at → Replaces d.plain 0 at new e.plain
      → Replaces d'.plain 0 at' new' e'.plain → StatesAlike to e.plain e'.plain
  replaced new new' is opened one two =
      replaces_alike to from (length d.plain.slots) r d.plain d'.plain refl k.one k'.one alike.plain e.plain e'.plain at new
      (open_there d.plain 0 at k.sound (seated d.plain k.sound k.one) opened) one
      (subst₂ (λ (place : EventPlace) (o : Option SlotId). Replaces d'.plain 0 place o e'.plain) same is two)

  puts : (new new' : Option SlotId) → new' ≡ renamed to new → Puts d.plain at new e.plain → Puts d'.plain at' new' e'.plain
      → StatesAlike to e.plain e'.plain
  puts new new' is one two = replaced new new' is one.1.0 one.1.2 two.1.2

  pub puts_two : (name : List ℕ) (new new' : Option SlotId) → new' ≡ renamed to new → Puts d.plain at new e.plain → Gives d name e
      → Puts d'.plain at' new' e'.plain → Gives d' name e' → DesksAlike to e e'
  puts_two name new new' is one gives two gives' = gives_alike to d d' alike e e' m (puts new new' is one two) name gives gives'

  pub clears_two : Puts d.plain at None e.plain → Keeps d e → Puts d'.plain at' None e'.plain → Keeps d' e' → DesksAlike to e e'
  clears_two one keeps two keeps' = keeps_alike to d d' alike e e' m (puts None None refl one two) keeps keeps'

  gives_new : (new : Option (List ℕ)) → StatesAlike to e.plain e'.plain → GivesNew d new e → GivesNew d' new e' → DesksAlike to e e'
  gives_new None plain one two = keeps_alike to d d' alike e e' m plain one two
  gives_new (Some name) plain one two = gives_alike to d d' alike e e' m plain name one two

  module _ (old old' slot slot' : Option SlotId) (is-old : old' ≡ renamed to old) (is-new : slot' ≡ renamed to slot) where
    pub replaces_two : (new : Option (List ℕ)) (a b : Said) → ReplacesOne d at old slot new a e → ReplacesOne d' at' old' slot' new b e'
        → (a ≡ b) × DesksAlike to e e'
    replaces_two new a b one two =
        ⊎_elim
        (λ x. ⊎_elim
        (λ y. (
          x.0 ∙ sym y.0,
          gives_new new (replaced slot slot' is-new x.1.1.1.0 (tries_done d.plain e.plain at old slot x.1).1
              (tries_done d'.plain e'.plain at' old' slot' y.1).1) x.2 y.2,
        ))
        (λ y. absurd (false_true (y.1.0.1 (expected_too to from d d' r alike at at' same old old' is-old (x.1.0.0 refl)))))
        two)
        (λ x. ⊎_elim
        (λ y. absurd (false_true (x.1.0.1 (expected_back to from d d' r alike at at' same old old' is-old (y.1.0.0 refl)))))
        (λ y. (
          x.0 ∙ sym y.0,
          keeps_alike to d d' alike e e' m
              (same_plain to from d d' e e' r alike k k' m
              (lost_same d.plain k.sound k.one e.plain at old slot x.1) (lost_same d'.plain k'.sound k'.one e'.plain at' old' slot' y.1)) x.2 y.2,
        ))
        two)
        one

  -- a snapshot
  as_many : length (seat_at d'.plain 0).snapshots ≡ length (seat_at d.plain 0).snapshots
  as_many =
      entries_length to from r.back r.forth (seat_at d.plain 0).snapshots (seat_at d'.plain 0).snapshots alike.plain.seat.snapshots

  takes_two : (s s' : SlotId) (counted counted' : Bool) → Takes d.plain at (Some (s, counted)) e.plain
      → Takes d'.plain at' (Some (s', counted')) e'.plain → (s' ≡ to s) × (counted' ≡ counted) × StatesAlike to e.plain e'.plain
  takes_two s s' true true (full, l) (full', l') =
      let is = holds_alike to from d d' r alike at at' same s s' l.0 l'.0 in (
        is,
        refl,
        gained_alike to from (length d.plain.slots) r d.plain d'.plain refl k.one k'.one alike.plain e.plain e'.plain s l.1
            (l'.1 ∙ ap (gained d'.plain) is),
      )
  takes_two s s' false false (room, t) (room', t') =
      let is = holds_alike to from d d' r alike at at' same s s' t.holds t'.holds in
      let j : place_kind at' ≡ place_kind at
      = ap place_kind same ∙ same_kind to from (length d.plain.slots) r d.plain d'.plain refl k.one k'.one alike.plain at in
      let es = t.under.0 in
      let fs = t'.under.0 in
      let gains = subst₂ (λ (i : Kind) (x : SlotId). Loses fs (i, x) (seat_at d'.plain 0).snapshots) j is t'.under.1 in (
        is,
        refl,
        snaps_alike to from (length d.plain.slots) r d.plain d'.plain refl k.one k'.one alike.plain e.plain e'.plain (place_kind at) s es fs
            t.under.1 gains t.under.2 t'.under.2,
      )
  takes_two s s' true false (full, l) (room', t') = let n = as_many in absurd (omega arith)
  takes_two s s' false true (room, t) (full', l') = let n = as_many in absurd (omega arith)

  holds_taken : (s : SlotId) (counted : Bool) → Takes d.plain at (Some (s, counted)) e.plain → content d.plain at ≡ Some s
  holds_taken s true (full, l) = l.0
  holds_taken s false (room, t) = t.holds

  holds_taken' : (s : SlotId) (counted : Bool) → Takes d'.plain at' (Some (s, counted)) e'.plain → content d'.plain at' ≡ Some s
  holds_taken' s true (full, l) = l.0
  holds_taken' s false (room, t) = t.holds

  pub snaps_two : (new : List ℕ) (a b : Said) → SnapsOne d at new a e → SnapsOne d' at' new b e' → (a ≡ b) × DesksAlike to e e'
  snaps_two new a b one two =
      ⊎_elim
      (λ x. ⊎_elim
      (λ y.
      let t = takes_two x.0 y.0 x.1 y.1 x.3 y.3 in (
        x.2 ∙ sym (ap snapped t.1) ∙ sym y.2,
        gets_alike to d d' alike e e' m t.2 new (Snapshot (x.0, x.1)) x.4
            (subst₂ (λ (s : SlotId) (c : Bool). Gets d' new (Snapshot (s, c)) e') t.0 t.1 y.4),
      ))
      (λ y. absurd (one_holds to from d d' r alike at at' same x.0 (holds_taken x.0 x.1 x.3) y.1.0))
      two)
      (λ x. ⊎_elim
      (λ y. absurd (other_holds to from d d' r alike at at' same y.0 x.1.0 (holds_taken' y.0 y.1 y.3)))
      (λ y. (
        x.0 ∙ sym y.0,
        keeps_alike to d d' alike e e' m
            (same_plain to from d d' e e' r alike k k' m
            (look_same d.plain k.sound k.one e.plain at x.1.1) (look_same d'.plain k'.sound k'.one e'.plain at' y.1.1)) x.2 y.2,
      ))
      two)
      one
