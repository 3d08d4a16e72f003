-- What became of the lists of a seat, by what a call says of it.
use Rattle.std.proofs.Common.{◌≡◌, ℕ, Bool, true, false, List, [], ◌∷◌, ◌++◌, refl, ap, sym, ◌∙◌, subst}
use Rattle.std.specs.Prelude.{◌==◌, if◌then◌else◌, Option, Some, None}
use Rattle.core_law.specs.core_events.Views.{without}
use Rattle.epoch_refs.specs.plain_protocol.plain_state.declared.act.EventPlace.{EventPlace}
use Rattle.epoch_refs.specs.plain_protocol.plain_state.declared.act.PlainAct.{PlainAct}
use Rattle.epoch_refs.specs.plain_protocol.plain_state.declared.slot.SlotId.{SlotId}
use Rattle.epoch_refs.specs.plain_protocol.plain_state.State.{Plain}
use Rattle.epoch_refs.specs.plain_protocol.plain_state.Steps.{word_of}
use Rattle.epoch_refs.specs.plain_protocol.Owns.{OwnPart}
use Rattle.epoch_refs.specs.epoch_core.core_events.Words.{slot_in}
use Rattle.epoch_refs.specs.epoch_core.declared.act.EpochAct.{EpochAct}
use Rattle.epoch_refs.specs.epoch_core.declared.act.EpochAct.TheVariants as act
use Rattle.epoch_refs.specs.epoch_core.declared.outcome.EpochOutcome.{EpochOutcome}
use Rattle.epoch_refs.specs.epoch_core.declared.outcome.EpochOutcome.TheVariants as outcome
use Rattle.epoch_refs.specs.epoch_core.declared.view.EpochView.{EpochView}
use Rattle.epoch_refs.specs.epoch_core.Steps.{answer, ended_by, gave, noted, saw, took}
use Rattle.epoch_refs.specs.epoch_domain.Calls.{Steps}
use Rattle.epoch_refs.specs.epoch_domain.Domains.{DomainState}
use Rattle.epoch_refs.specs.epoch_domain.Seats.{SeatState}
use Rattle.epoch_refs.specs.Exchanges.{Dates, IsStored, TakesOut}
use Rattle.epoch_players.proofs.Changing.{HasLists}

-- the lists are those of another view
record IsLike (u v : EpochView) : Type 0 where
  pub owned : u.owned ≡ v.owned
  pub seen : u.seen ≡ v.seen
  pub number : u.number ≡ v.number

lists : {u v : EpochView} → IsLike u v → HasLists u v.owned v.seen v.number
lists like = (like.owned, like.seen, like.number)

core_like : {u v : EpochView} → u ≡ v → IsLike u v
core_like is = record {
  owned = ap (λ (x : EpochView). x.owned) is;
  seen = ap (λ (x : EpochView). x.seen) is;
  number = ap (λ (x : EpochView). x.number) is;
}

pub by_core : {u v : EpochView} → u ≡ v → HasLists u v.owned v.seen v.number
by_core is = lists (core_like is)

then_like : {u v w : EpochView} → IsLike u v → IsLike v w → IsLike u w
then_like a b =
    record { owned = a.owned ∙ b.owned; seen = a.seen ∙ b.seen; number = a.number ∙ b.number }

same_like : (u v : EpochView) → u.owned ≡ v.owned → u.seen ≡ v.seen → u.number ≡ v.number
    → IsLike u v
same_like u v owned seen number = record { owned = owned; seen = seen; number = number }

module _ (a : EpochAct) (o : EpochOutcome) (v : EpochView) where
  -- an object may have ended
  ended_like : (w : ℕ) (s : SlotId) → IsLike (noted a o (ended_by w s v)) v
  ended_like w s = go (w == 1)
    where
      go : (b : Bool)
          → IsLike (noted a o (if b then record v { dying = v.dying ++ s ∷ [] } else v)) v
      go true = same_like _ v refl refl refl
      go false = same_like _ v refl refl refl

  took_like : (c : Option SlotId) → IsLike (noted a o (took c v)) v
  took_like None = same_like _ v refl refl refl
  took_like (Some s) = same_like _ v refl refl refl

  saw_like : (s : SlotId) (c : Option SlotId) → c ≡ Some s
      → IsLike (noted a o (saw c v)) (record v { seen = v.seen ++ s ∷ [] })
  saw_like s c is =
      subst
      (λ (x : Option SlotId). IsLike (noted a o (saw x v)) (record v { seen = v.seen ++ s ∷ [] }))
      (sym is) (same_like _ (record v { seen = v.seen ++ s ∷ [] }) refl refl refl)

  saw_none : (c : Option SlotId) → c ≡ None → IsLike (noted a o (saw c v)) v
  saw_none c is =
      subst (λ (x : Option SlotId). IsLike (noted a o (saw x v)) v) (sym is)
      (same_like _ v refl refl refl)

found_is : (a b : Option SlotId) → ◌≡◌ {A = EpochOutcome} (outcome.Found a) (outcome.Found b) → a ≡ b
found_is a b is = cc (is)

module _ {P V : Type 0} {fits : List ℕ → Type 0} {d : DomainState P} {old new : SeatState V} where
  module _ {next : OwnPart → OwnPart → V → PlainAct → ℕ → V}
      {allows : Plain → Plain → ℕ → V → V → Type 0} where
    pub by_drop : {s : SlotId} {o : EpochOutcome} → Steps fits d next allows (act.Drop s) old new o
        → HasLists new.view.core (without s old.view.core.owned) old.view.core.seen
        old.view.core.number
    by_drop {s = s} step =
        let v = old.view.core in
        lists (then_like (core_like step.told.core)
        (ended_like (act.Drop s) (answer (act.Drop s) step.word v)
        (record v { owned = without s v.owned }) step.word s))

    pub by_look : {p : EventPlace} {s : SlotId} {found : Option SlotId}
        → Steps fits d next allows (act.Look p) old new (outcome.Found found) → found ≡ Some s
        → HasLists new.view.core old.view.core.owned (old.view.core.seen ++ s ∷ [])
        old.view.core.number
    by_look {p = p} {s = s} {found = found} step is =
        let v = old.view.core in
        lists (then_like (core_like step.told.core)
        (saw_like (act.Look p) (answer (act.Look p) step.word v) v s (slot_in step.word)
        (sym (found_is found (slot_in step.word) step.answers) ∙ is)))

    pub by_null : {p : EventPlace} {found : Option SlotId}
        → Steps fits d next allows (act.Look p) old new (outcome.Found found) → found ≡ None
        → HasLists new.view.core old.view.core.owned old.view.core.seen old.view.core.number
    by_null {p = p} {found = found} step is =
        let v = old.view.core in
        lists (then_like (core_like step.told.core)
        (saw_none (act.Look p) (answer (act.Look p) step.word v) v (slot_in step.word)
        (sym (found_is found (slot_in step.word) step.answers) ∙ is)))

-- what leaves a place is dated
dates_like : {P V : Type 0} (fits : List ℕ → Type 0) (d : DomainState P) (old new : SeatState V)
    (c : Option SlotId) → Dates fits d c old new → IsLike new.view.core old.view.core
dates_like fits d old new None same = core_like (ap (λ s. s.view.core) same)
dates_like fits d old new (Some x) dates =
    then_like (core_like (ap (λ s. s.view.core) dates.1.2))
    (then_like (core_like dates.1.1.told.core) (same_like _ old.view.core refl refl refl))

-- an exchange that was done, and one that lost
swapped : (a : EpochAct) (o : EpochOutcome) (b : Bool) (x : Option SlotId) (v u : EpochView)
    → outcome.Done ≡ (if b then outcome.Done else outcome.LostTo x)
    → IsLike (noted a o (if b then u else v)) u
swapped a o true x v u is = same_like _ u refl refl refl
swapped a o false x v u is = absurd (cc (is))

lost : (a : EpochAct) (o : EpochOutcome) (b : Bool) (h x : Option SlotId) (v u : EpochView)
    → outcome.LostTo h ≡ (if b then outcome.Done else outcome.LostTo x)
    → IsLike (noted a o (if b then u else v)) v
lost a o true h x v u is = absurd (cc (is))
lost a o false h x v u is = same_like _ v refl refl refl

just_took : (c : Option SlotId) (v : EpochView) → IsLike (took c v) v
just_took None v = same_like _ v refl refl refl
just_took (Some s) v = same_like _ v refl refl refl

module _ {P V : Type 0} {fits : List ℕ → Type 0} {d : DomainState P} {old new : SeatState V}
    {next : OwnPart → OwnPart → V → PlainAct → ℕ → V}
    {allows : Plain → Plain → ℕ → V → V → Type 0} {p : EventPlace} (c : Option SlotId) where
  pub by_store : IsStored fits d next allows (act.Swap p c) old new
      → HasLists new.view.core (gave c old.view.core).owned (gave c old.view.core).seen
      (gave c old.view.core).number
  by_store stored =
      let t = stored.1 in
      let v = t.ready.view.core in
      let w = t.exchange.word in
      lists (then_like (dates_like fits d t.between new stored.0 t.dates)
      (then_like (then_like (core_like t.exchange.told.core)
      (took_like (act.Swap p c) (answer (act.Swap p c) w v) (gave c v) (slot_in w)))
      (core_like (ap (λ x. gave c x.core) t.reserved.1))))

  module _ {e : Option SlotId} where
    pub by_exchange : TakesOut fits d next allows (act.Cas p e c) outcome.Done e old new
        → HasLists new.view.core (gave c old.view.core).owned (gave c old.view.core).seen
        (gave c old.view.core).number
    by_exchange t =
        let v = t.ready.view.core in
        let w = t.exchange.word in
        lists (then_like (dates_like fits d t.between new e t.dates)
        (then_like (then_like (core_like t.exchange.told.core)
        (then_like
        (swapped (act.Cas p e c) (answer (act.Cas p e c) w v) (w == word_of e) (slot_in w) v
        (took (slot_in w) (gave c v)) t.exchange.answers)
        (just_took (slot_in w) (gave c v))))
        (core_like (ap (λ x. gave c x.core) t.reserved.1))))

    pub by_loss : {h : Option SlotId}
        → TakesOut fits d next allows (act.Cas p e c) (outcome.LostTo h) None old new
        → HasLists new.view.core old.view.core.owned old.view.core.seen old.view.core.number
    by_loss {h = h} t =
        let v = t.ready.view.core in
        let w = t.exchange.word in
        lists (then_like (dates_like fits d t.between new None t.dates)
        (then_like (then_like (core_like t.exchange.told.core)
        (lost (act.Cas p e c) (answer (act.Cas p e c) w v) (w == word_of e) h (slot_in w) v
        (took (slot_in w) (gave c v)) t.exchange.answers))
        (core_like (ap (λ x. x.core) t.reserved.1))))
