-- What is met in a cell, as from an earlier state; and a head that was raised to be read whole.
use Rattle.std.proofs.Common.{◌≡◌, ℕ, ◌<◌, List, [], ◌∷◌, ◌++◌, sym, ap, refl, subst, ◌∙◌, arith, Some, None}
use Rattle.std.specs.Prelude.{Bool, Option}
use Rattle.atomic_weak.specs.plain_state.declared.slot.SlotId.{SlotId}
use Rattle.atomic_weak.specs.plain_state.Lists.{times}
use Rattle.atomic_weak.specs.plain_protocol.Owns.{Object}
use Rattle.atomic_weak.specs.core_events.Views.{without}
use Rattle.atomic_weak.proofs.Below.core_law_Kit.{one_same, times_push, times_without}
use Rattle.atomic_weak.specs.domain_rule.Views.{object_in}
use Rattle.atomic_weak.specs.acquire_retire.Domains.{DomainState}
use Rattle.atomic_weak.specs.acquire_retire.Seats.{SeatState}
use Rattle.record_making.specs.directory_law.Cells.{Area}
use Rattle.record_making.specs.directory_law.Law.{IsBound, NoneBound}
use Rattle.record_making.specs.directory_law.Payloads.{Text}
use Rattle.record_making.specs.directory_law.Views.{In}
use Rattle.record_making.specs.directory_calls.Directories.{CanCount}
use Rattle.record_making.specs.directory_calls.Steps.{GoesOn, Leaves, aside, with_found}
use Rattle.record_making.proofs.Below.directory_calls_Going.{from_earlier, holds_by, leaves_as, leaves_then}
use Rattle.record_making.proofs.Below.directory_calls_Learnt.{walked_still}
use Rattle.record_making.proofs.Below.directory_calls_Parts.{LearnsBy, Place}
use Rattle.text_reading.specs.Reading.{HasTwoFree}
use Rattle.weak_intern.specs.declared.looking.Sight.{Sight}
use Rattle.weak_intern.specs.declared.looking.Sight.TheVariants as sight
use Rattle.weak_intern.specs.Seeing.{HasSeenAt, HasSeenIn, seen_in}
use Rattle.weak_intern.specs.Walking.{Meets, MeetsIn}

-- the announcement words that stand for nothing
pub free_still : {V : Type 0} (a b : SeatState V) → aside b.view.core ≡ aside a.view.core
    → HasTwoFree a.view.core → HasTwoFree b.view.core
free_still a b same free = subst (λ v. HasTwoFree v) (sym same) free

-- what was gained after a call that left what was owned
pub more_leaves : {V : Type 0} (a b c : SeatState V) (o : Option SlotId)
    → Leaves a.view.core.owned a.view.core.weaks a b
    → Leaves (with_found o b.view.core.owned) b.view.core.weaks b c
    → Leaves (with_found o a.view.core.owned) a.view.core.weaks a c
more_leaves a b c o first second =
    leaves_as (with_found o a.view.core.owned) a.view.core.weaks a c
    (leaves_then a b c first second
    (λ x was is. let p = first.owns x in let m = first.weakly x in
    holds_by x a.view.core b.view.core (sym first.same) (omega arith) was))
    (λ x. found_as o x)
    first.weakly
  where
    found_as : (f : Option SlotId) (x : SlotId)
        → times x (with_found f b.view.core.owned) ≡ times x (with_found f a.view.core.owned)
    found_as None x = first.owns x
    found_as (Some y) x =
        let p = first.owns x in let q = times_push x y a.view.core.owned in
        let r = times_push x y b.view.core.owned in
        omega arith

module _ {P V : Type 0} (d : DomainState P) (l : Place V) (z : Area) (a b c : SeatState V)
    (seat : b.view.core.seat ≡ a.view.core.seat) (goes : GoesOn a.view.core b.view.core)
    (learns : LearnsBy l 0 a.view.client b.view.client) where
  pub meets_from : (n : ℕ) (text : Text) (found : Sight)
      → Meets l.seen d z n text found b c → Meets l.seen d z n text found a c
  meets_from n text sight.Null meets = λ t m walked at.
      from_earlier d (λ p. NoneBound z p t) a b c seat goes
      (meets t m (walked_still 0 z (l.seen a.view.client) (l.seen b.view.client) t m
      learns.part walked) at)
  meets_from n text sight.Other meets = meets
  meets_from n text (sight.Record strong) meets =
      (from_earlier d (λ p. IsBound z p text strong.slot) a b c seat goes meets.0, meets.1)

-- A HEAD w RAISED to s, or compared, of which the seat then knows what it knew
module _ {V : Type 0} (l : Place V) (w s : SlotId) (same : s ≡ w)
    (a b : SeatState V) (known : object_in b.view w ≡ object_in a.view w)
    (learns : LearnsBy l 0 a.view.client b.view.client) where
  known_as : object_in b.view s ≡ object_in a.view w
  known_as = subst (λ (x : SlotId). object_in b.view x ≡ object_in a.view w) (sym same) known

  saw_at : (k : ℕ) → HasSeenAt l.seen k w a → HasSeenAt l.seen k s b
  saw_at k saw =
      subst (λ (o : Object). In (record {
        cell = k;
        slot = s;
        life = o.life;
        head = o.payload;
      }) (l.seen b.view.client).seen) (sym known_as)
      (subst (λ (x : SlotId). In (record {
        cell = k;
        slot = x;
        life = (object_in a.view w).life;
        head = (object_in a.view w).payload;
      }) (l.seen b.view.client).seen) (sym same)
      (learns.part.seen (seen_in k w a) saw))

  pub saw_still : HasSeenIn l.seen w a → HasSeenIn l.seen s b
  saw_still saw = (saw.0, saw_at saw.0 saw.1)

  pub head_still : (head : List ℕ) → (object_in a.view w).payload ≡ head
      → (object_in b.view s).payload ≡ head
  head_still head is = ap (λ (o : Object). o.payload) known_as ∙ is

  pub can_still : (intern : Bool) → CanCount intern (l.seen a.view.client)
      → CanCount intern (l.seen b.view.client)
  can_still intern can =
      let u = learns.part.used in let q = learns.part.quota in omega (arith, u, q, can)

  pub met_still : {P : Type 0} (d : DomainState P) (z : Area) (c : SeatState V) (text : Text)
      (found : Sight) → b.view.core.seat ≡ a.view.core.seat → GoesOn a.view.core b.view.core
      → MeetsIn l.seen d z s text found b c → MeetsIn l.seen d z w text found a c
  met_still d z c text found seat goes meets = λ k saw.
      meets_from d l z a b c seat goes learns k text found (meets k (saw_at k saw))

-- and the seat owns it more, until it is given up or answered
module _ {V : Type 0} (s : SlotId) (a b : SeatState V)
    (first : Leaves (a.view.core.owned ++ s ∷ []) a.view.core.weaks a b) where
  pub raised_owned : 0 < times s b.view.core.owned
  raised_owned =
      let o = first.owns s in let p = times_push s s a.view.core.owned in
      let i = one_same s s refl in
      omega arith

  pub whole_leaves : (c : SeatState V) (o : Option SlotId)
      → Leaves (with_found o (without s b.view.core.owned)) b.view.core.weaks b c
      → Leaves (with_found o a.view.core.owned) a.view.core.weaks a c
  whole_leaves c o second =
      leaves_as (with_found o a.view.core.owned) a.view.core.weaks a c
      (leaves_then a b c first second
      (λ x was is. let p = first.owns x in let m = first.weakly x in
      let q = times_push x s a.view.core.owned in
      holds_by x a.view.core b.view.core (sym first.same) (omega arith) was))
      (λ x. owns_as o x)
      first.weakly
    where
      less : (x : SlotId) → times x (without s b.view.core.owned) ≡ times x a.view.core.owned
      less x =
          let p = first.owns x in let q = times_push x s a.view.core.owned in
          let e = times_without x s b.view.core.owned raised_owned in
          omega arith

      owns_as : (f : Option SlotId) (x : SlotId)
          → times x (with_found f (without s b.view.core.owned))
          ≡ times x (with_found f a.view.core.owned)
      owns_as None x = less x
      owns_as (Some y) x =
          let n = less x in let q = times_push x y a.view.core.owned in
          let r = times_push x y (without s b.view.core.owned) in
          omega arith
