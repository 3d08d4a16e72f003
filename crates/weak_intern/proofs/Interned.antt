-- What an intern answers, of the bytes of its text.
use Rattle.std.proofs.Common.{◌≡◌, inl, inr, ⊎_elim, ℕ, List, ◌<◌, refl, true, subst, sym, arith, Some, None}
use Rattle.std.specs.Prelude.{Err, IfOk, Ok, Option, Result}
use Rattle.atomic_weak.specs.plain_state.declared.slot.SlotId.{SlotId}
use Rattle.atomic_weak.specs.plain_state.Lists.{times}
use Rattle.atomic_weak.proofs.Below.core_law_Kit.{one_same, times_push}
use Rattle.atomic_weak.specs.acquire_retire.Domains.{DomainState}
use Rattle.atomic_weak.specs.acquire_retire.Seats.{SeatState}
use Rattle.atomic_weak.specs.counted_handles.Handles.{Handle}
use Rattle.record_making.specs.directory_law.declared.view.View.{View}
use Rattle.record_making.specs.directory_law.Bytes.{IsTextOf}
use Rattle.record_making.specs.directory_law.Cells.{Area}
use Rattle.record_making.specs.directory_law.Law.{IsBound, NoneBound}
use Rattle.weak_intern.specs.declared.walking.Walk.{Walk}
use Rattle.weak_intern.specs.declared.walking.Walk.TheVariants as walk
use Rattle.record_making.specs.directory_calls.Directories.{CanCount, HasNoRecord}
use Rattle.weak_intern.specs.Interning.{Interns, Places}
use Rattle.record_making.specs.directory_law.Payloads.{Text}
use Rattle.record_making.specs.directory_calls.Steps.{AtStep, GoesOn, Leaves, handle_by, with_found}
use Rattle.weak_intern.specs.Walking.{ComesTo, used_by, walked_by}
use Rattle.weak_intern.specs.Knowing.{Knows, KnowsRecord}
use Rattle.weak_intern.proofs.Answered.{is_record, is_record_after, no_record}
use Rattle.record_making.proofs.Below.directory_calls_Going.{from_earlier, holds_by, leaves_as, leaves_then, seat_same, some_earlier, to_later}
use Rattle.record_making.proofs.Below.directory_calls_Parts.{LearnsBy, Place}
use Rattle.weak_intern.proofs.Placed.{GrowsBy, grow_then, part_grows}

-- the live record that the walk came to
module _ {P V E : Type 0} (d : DomainState P) (seen : V → View) (z : Area) (bytes : List ℕ)
    (text : Text) (of : IsTextOf bytes text) (a b : SeatState V) (r : Result Walk E)
    (strong : Handle) (is : r ≡ Ok (walk.Record strong)) where
  came : IfOk r (λ f. ComesTo seen d z text f a b)
      → ComesTo seen d z text (walk.Record strong) a b
  came comes = subst (λ x. IfOk x (λ f. ComesTo seen d z text f a b)) is comes

  pub walked_interns : IfOk r (λ f. ComesTo seen d z text f a b) → Interns d z bytes strong.slot a b
  walked_interns comes = inl (is_record d z bytes text of a b strong.slot (came comes).0)

  pub walked_knows : IfOk r (λ f. ComesTo seen d z text f a b)
      → KnowsRecord seen bytes strong.slot b
  walked_knows comes = (text, of, (came comes).1)

  pub walked_owned : Leaves (with_found (walked_by r) a.view.core.owned) a.view.core.weaks a b
      → 0 < times strong.slot b.view.core.owned
  walked_owned left =
      let first = subst (λ x. Leaves (with_found (walked_by x) a.view.core.owned)
      a.view.core.weaks a b) is left in
      let o = first.owns strong.slot in
      let p = times_push strong.slot strong.slot a.view.core.owned in
      let i = one_same strong.slot strong.slot refl in omega (arith, o, p, i)

pub all_knows : {V E : Type 0} (seen : V → View) (bytes : List ℕ) (text : Text)
    (is : IsTextOf bytes text) (c : SeatState V) (r : Result Handle E)
    → IfOk r (λ t. Knows seen t.slot text c) → IfOk r (λ t. KnowsRecord seen bytes t.slot c)
all_knows seen bytes text is c (Ok t) knows = (text, is, knows)
all_knows seen bytes text is c (Err e) knows = tt

-- what is answered is owned
pub answered_owned : {V E : Type 0} (r : Result Handle E) (a b : SeatState V)
    → Leaves (with_found (handle_by r) a.view.core.owned) a.view.core.weaks a b
    → IfOk r (λ t. 0 < times t.slot b.view.core.owned)
answered_owned (Ok t) a b left =
    let o = left.owns t.slot in let p = times_push t.slot t.slot a.view.core.owned in
    let i = one_same t.slot t.slot refl in omega (arith, o, p, i)
answered_owned (Err e) a b left = tt

-- what a walk tells that came to none
module _ {P V E : Type 0} (d : DomainState P) (l : Place V) (z : Area) (text : Text)
    (a b : SeatState V) (r : Result Walk E) (n : ℕ) (is : r ≡ Ok (walk.Absent n)) where
  pub absent_learns : LearnsBy l (used_by true r) a.view.client b.view.client
      → LearnsBy l 0 a.view.client b.view.client
  absent_learns more =
      subst (λ x. LearnsBy l (used_by true x) a.view.client b.view.client) is more

  pub absent_leaves : Leaves (with_found (walked_by r) a.view.core.owned) a.view.core.weaks a b
      → Leaves a.view.core.owned a.view.core.weaks a b
  absent_leaves left =
      subst (λ x. Leaves (with_found (walked_by x) a.view.core.owned) a.view.core.weaks a b) is left

  pub absent_none : IfOk r (λ f. ComesTo l.seen d z text f a b)
      → AtStep d (λ p. NoneBound z p text) a b
  absent_none comes = (subst (λ x. IfOk x (λ f. ComesTo l.seen d z text f a b)) is comes).0

-- a record that was made after a walk which came to none
module _ {P V : Type 0} (d : DomainState P) (l : Place V) (z : Area) (bytes : List ℕ) (text : Text)
    (is : IsTextOf bytes text) (a b : SeatState V)
    (first : Leaves a.view.core.owned a.view.core.weaks a b)
    (learns : LearnsBy l 0 a.view.client b.view.client) where
  pub quota_then : CanCount true (l.seen a.view.client) → CanCount true (l.seen b.view.client)
  quota_then can = let p = learns.part.used in let q = learns.part.quota in omega (arith, can)

  module _ (c : SeatState V) where
    pub added_interns : (t : SlotId) → Places d z text t b c → Interns d z bytes t a c
    added_interns t places = ⊎_elim
        (λ before. inl (is_record d z bytes text is a c t
        (from_earlier d (λ p. IsBound z p text t) a b c (seat_same a b first.same)
        first.goes before)))
        (λ later. inr (is_record_after d z bytes text is a c t
        (some_earlier d (λ p q. IsBound z q text t) a b c (seat_same a b first.same)
        first.goes later)))
        places

    pub all_interns : {E : Type 0} (r : Result Handle E)
        → IfOk r (λ t. Places d z text t.slot b c) → IfOk r (λ t. Interns d z bytes t.slot a c)
    all_interns (Ok t) places = added_interns t.slot places
    all_interns (Err e) places = tt

    pub added_none : AtStep d (λ p. NoneBound z p text) a b
        → GoesOn b.view.core c.view.core → AtStep d (λ p. HasNoRecord z p bytes) a c
    added_none at goes =
        no_record d z bytes text is a c
        (to_later d (λ p. NoneBound z p text) a b c at goes)

    pub added_leaves : (o : Option SlotId)
        → Leaves (with_found o b.view.core.owned) b.view.core.weaks b c
        → Leaves (with_found o a.view.core.owned) a.view.core.weaks a c
    added_leaves o second =
        leaves_as (with_found o a.view.core.owned) a.view.core.weaks a c
        (leaves_then a b c first second
        (λ x was has. let p = first.owns x in let q = first.weakly x in
        holds_by x a.view.core b.view.core (sym first.same) (omega arith) was))
        (λ x. found_as o x)
        first.weakly
      where
        found_as : (f : Option SlotId) (x : SlotId)
            → times x (with_found f b.view.core.owned) ≡ times x (with_found f a.view.core.owned)
        found_as None x = first.owns x
        found_as (Some y) x =
            let p = first.owns x in let q = times_push x y a.view.core.owned in
            let r = times_push x y b.view.core.owned in
            omega arith

    pub added_grows : (k : ℕ) → GrowsBy l k b.view.client c.view.client
        → GrowsBy l k a.view.client c.view.client
    added_grows k more =
        subst (λ n. GrowsBy l n a.view.client c.view.client) (omega arith)
        (grow_then l 0 k a.view.client b.view.client c.view.client
        (part_grows l 0 a.view.client b.view.client learns) more)
