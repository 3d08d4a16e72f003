-- A record is made and put into a cell, or given up where another one was found.
use Rattle.std.proofs.Common.{◌≡◌, inl, inr, ⊎_elim, ℕ, ◌+◌, ◌<◌, ◌≤◌, List, [], ◌∷◌, ◌++◌, true, refl, sym, ap, subst, ◌∙◌, arith, Some, None}
use Rattle.std.specs.Prelude.{◌⊎◌, Err, IfOk, IsErr, IsErrAnd, Ok, OnErr, Option, Result}
use Rattle.std.proofs.lemmas.Result.{err_from_is_err_and}
use Rattle.atomic_weak.specs.plain_protocol.Owns.{Object}
use Rattle.atomic_weak.specs.domain_rule.Views.{object_in}
use Rattle.record_making.specs.directory_law.declared.view.Ran.{Ran}
use Rattle.record_making.specs.directory_law.Views.{In, rope}
use Rattle.record_making.specs.directory_law.Payloads.{IsText}
use Rattle.atomic_weak.specs.Places.{named}
use Rattle.atomic_weak.specs.counted_handles.Handles.{Handle}
use Rattle.atomic_weak.specs.plain_state.declared.slot.SlotId.{SlotId}
use Rattle.atomic_weak.specs.plain_state.Lists.{times}
use Rattle.atomic_weak.specs.core_events.Counts.{one}
use Rattle.atomic_weak.specs.core_events.Views.{without}
use Rattle.atomic_weak.proofs.Below.core_law_Kit.{one_same, times_push, times_without}
use Rattle.atomic_weak.specs.acquire_retire.Domains.{DomainState}
use Rattle.atomic_weak.specs.acquire_retire.Seats.{SeatState}
use Rattle.record_making.specs.directory_law.declared.view.View.{View}
use Rattle.record_making.specs.directory_law.Cells.{Area}
use Rattle.record_making.specs.directory_law.Law.{IsBound}
use Rattle.record_making.specs.directory_calls.Directories.{CanCount}
use Rattle.weak_intern.specs.Interning.{Grows, HasPassed, Places, interned_by, named_or, placed_by}
use Rattle.record_making.specs.Making.{HasNotedLast, Notes, NotesOnly, candidate_in, with_notes}
use Rattle.record_making.specs.directory_law.Payloads.{Text}
use Rattle.weak_intern.specs.Knowing.{Knows}
use Rattle.record_making.specs.directory_calls.Steps.{Leaves, with_found}
use Rattle.weak_intern.specs.Walking.{found_by}
use Rattle.record_making.proofs.Below.directory_calls_Going.{holds_by, leaves_as, leaves_then, seat_same, some_earlier, some_later}
use Rattle.record_making.proofs.Below.directory_calls_Parts.{Place}
use Rattle.weak_intern.proofs.Placed.{GrowsBy, grow_then, lift_grows}
use Rattle.record_making.specs.directory_law.declared.view.Rope.{Rope}

-- a view with other notes has used nothing
notes_grows : (es : List Rope) (v : View) → Grows 0 v (with_notes es v)
notes_grows es v = record {
  seen = λ x in'. in';
  ended = λ x in'. in';
  ran = λ x in'. in';
  led = λ x in'. in';
  quota = refl;
  used = omega arith;
  kept = λ x in'. in';
}

module _ {P V : Type 0} (d : DomainState P) (l : Place V) (z : Area) (text : Text) (s : SlotId)
    (a b : SeatState V) (made : Leaves (a.view.core.owned ++ s ∷ []) a.view.core.weaks a b)
    (client : Notes l.seen l.with_seen (candidate_in s text b) a.view.client b.view.client) where
  -- ONCE IT IS MADE
  abbrev now_noted : View
  now_noted = with_notes (candidate_in s text b ∷ client.0) (l.seen a.view.client)

  seen_made : l.seen b.view.client ≡ now_noted
  seen_made = ap l.seen client.1 ∙ l.reads a.view.client now_noted

  pub quota_made : CanCount true (l.seen a.view.client) → CanCount true (l.seen b.view.client)
  quota_made is = subst (λ v. CanCount true v) (sym seen_made) is

  pub passed_made : (n : ℕ) → HasPassed z (l.seen a.view.client) text n
      → HasPassed z (l.seen b.view.client) text n
  passed_made n is = subst (λ v. HasPassed z v text n) (sym seen_made) is

  pub noted_made : HasNotedLast (candidate_in s text b) (l.seen b.view.client)
  noted_made = (client.0, ap (λ (v : View). v.noted) seen_made)

  grows_made : GrowsBy l 0 a.view.client b.view.client
  grows_made =
      lift_grows l 0 a.view.client b.view.client now_noted client.1
      (notes_grows (candidate_in s text b ∷ client.0) (l.seen a.view.client))

  -- how often it is owned
  more : (f : Option SlotId) (x : SlotId)
      → times x (with_found f (a.view.core.owned ++ s ∷ []))
      ≡ times x (with_found f a.view.core.owned) + one x s
  more None x = times_push x s a.view.core.owned
  more (Some y) x =
      let p = times_push x y (a.view.core.owned ++ s ∷ []) in
      let q = times_push x s a.view.core.owned in
      let r = times_push x y a.view.core.owned in
      omega arith

  least : (f : Option SlotId) (x : SlotId)
      → times x a.view.core.owned ≤ times x (with_found f a.view.core.owned)
  least None x = omega arith
  least (Some y) x = let p = times_push x y a.view.core.owned in omega arith

  -- ONCE IT STANDS in a cell, or another one was found
  module _ (c : SeatState V) where
    pub then_leaves : (o : Option SlotId)
        → Leaves (with_found o b.view.core.owned) b.view.core.weaks b c
        → Leaves (with_found o (a.view.core.owned ++ s ∷ [])) a.view.core.weaks a c
    then_leaves o second =
        leaves_as (with_found o (a.view.core.owned ++ s ∷ [])) a.view.core.weaks a c
        (leaves_then a b c made second
        (λ x was is. let p = made.owns x in let q = made.weakly x in
        let r = times_push x s a.view.core.owned in
        holds_by x a.view.core b.view.core (sym made.same) (omega arith) was))
        (λ x. found_as o x)
        made.weakly
      where
        found_as : (f : Option SlotId) (x : SlotId) → times x (with_found f b.view.core.owned)
            ≡ times x (with_found f (a.view.core.owned ++ s ∷ []))
        found_as None x = made.owns x
        found_as (Some y) x =
            let p = made.owns x in let q = times_push x y (a.view.core.owned ++ s ∷ []) in
            let r = times_push x y b.view.core.owned in
            omega arith

    pub then_grows : (k : ℕ) → GrowsBy l k b.view.client c.view.client
        → GrowsBy l k a.view.client c.view.client
    then_grows k more =
        subst (λ n. GrowsBy l n a.view.client c.view.client) (omega arith)
        (grow_then l 0 k a.view.client b.view.client c.view.client grows_made more)

    pub then_places : (t : SlotId) → Places d z text t b c → Places d z text t a c
    then_places t places = ⊎_elim
        (λ before. inl (some_earlier d (λ p q. IsBound z p text t) a b c
        (seat_same a b made.same) made.goes before))
        (λ later. inr (some_earlier d (λ p q. IsBound z q text t) a b c
        (seat_same a b made.same) made.goes later))
        places

    pub owned_then : (o : Option SlotId)
        → Leaves (with_found o (a.view.core.owned ++ s ∷ [])) a.view.core.weaks a c
        → 0 < times s c.view.core.owned
    owned_then o left =
        let p = left.owns s in let r = more o s in let i = one_same s s refl in omega arith

    -- as it was answered
    pub ok_leaves : {E : Type 0} (r : Result (Option Handle) E) (f : Option Handle) → r ≡ Ok f
        → Leaves (with_found (found_by r) b.view.core.owned) b.view.core.weaks b c
        → Leaves (with_found (named f) (a.view.core.owned ++ s ∷ [])) a.view.core.weaks a c
    ok_leaves r f is second =
        then_leaves (named f)
        (subst (λ x. Leaves (with_found (found_by x) b.view.core.owned) b.view.core.weaks b c) is
        second)

    pub ok_places : {E : Type 0} (r : Result (Option Handle) E) (f : Option Handle) → r ≡ Ok f
        → IfOk r (λ found. Places d z text (named_or s found) b c)
        → Places d z text (named_or s f) a c
    ok_places r f is places =
        then_places (named_or s f)
        (subst (λ x. IfOk x (λ found. Places d z text (named_or s found) b c)) is places)

    pub ok_grows : {E : Type 0} (r : Result (Option Handle) E) (f : Option Handle) → r ≡ Ok f
        → GrowsBy l (placed_by r) b.view.client c.view.client
        → GrowsBy l 1 a.view.client c.view.client
    ok_grows r f is grown =
        then_grows 1
        (subst (λ x. GrowsBy l (placed_by x) b.view.client c.view.client) is grown)

    pub err_leaves : {E : Type 0} (r : Result (Option Handle) E) (e : E) → r ≡ Err e
        → Leaves (with_found (found_by r) b.view.core.owned) b.view.core.weaks b c
        → Leaves (a.view.core.owned ++ s ∷ []) a.view.core.weaks a c
    err_leaves r e is second =
        then_leaves None
        (subst (λ x. Leaves (with_found (found_by x) b.view.core.owned) b.view.core.weaks b c) is
        second)

    pub err_grows : {E : Type 0} (r : Result (Option Handle) E) (e : E) → r ≡ Err e
        → GrowsBy l (placed_by r) b.view.client c.view.client
        → GrowsBy l 0 a.view.client c.view.client
    err_grows r e is grown =
        then_grows 0
        (subst (λ x. GrowsBy l (placed_by x) b.view.client c.view.client) is grown)

    -- WHERE IT IS GIVEN UP
    module _ (e : SeatState V) (o : Option SlotId)
        (first : Leaves (with_found o (a.view.core.owned ++ s ∷ [])) a.view.core.weaks a c)
        (last : Leaves (without s c.view.core.owned) c.view.core.weaks c e) where
      pub dropped_leaves : Leaves (with_found o a.view.core.owned) a.view.core.weaks a e
      dropped_leaves =
          leaves_as (with_found o a.view.core.owned) a.view.core.weaks a e
          (leaves_then a c e first last
          (λ x was is. let p = first.owns x in let q = first.weakly x in
          let r = more o x in let k = least o x in
          holds_by x a.view.core c.view.core (sym first.same) (omega arith) was))
          (λ x. let p = first.owns x in let r = more o x in
          let t = first.owns s in let u = more o s in let i = one_same s s refl in
          let w = times_without x s c.view.core.owned (omega arith) in
          omega arith)
          first.weakly

      pub dropped_places : (t : SlotId) → Places d z text t a c → Places d z text t a e
      dropped_places t places = ⊎_elim
          (λ before. inl (some_later d (λ p q. IsBound z p text t) a c e before last.goes))
          (λ later. inr (some_later d (λ p q. IsBound z q text t) a c e later last.goes))
          places

      pub dropped_known : (t : SlotId) → 0 < times t (with_found o a.view.core.owned)
          → object_in e.view t ≡ object_in c.view t
      dropped_known t some =
          let p = first.owns t in let r = more o t in let q = dropped_leaves.owns t in
          last.knows t (omega (arith, p, r, some)) (omega (arith, q, some))

-- WHAT THE SEAT KNOWS
module _ {V : Type 0} (seen : V → View) (t : SlotId) (text : Text) where
  abbrev KnowsAs : Object → V → Type 0
  KnowsAs o v =
      In (rope t o.life text) (seen v).kept
      ⊎ (((n : ℕ) × In (record { cell = n; slot = t; life = o.life; head = o.payload }) (seen
      v).seen)
      × (e : Ran) × In e (seen v).ran × (e.slot ≡ t) × (e.life ≡ o.life) × (e.before ≡ text)
      × IsText text)

  pub knows_still : (c e : SeatState V) → e.view.client ≡ c.view.client
      → object_in e.view t ≡ object_in c.view t → Knows seen t text c → Knows seen t text e
  knows_still c e client object knows =
      subst (λ (o : Object). KnowsAs o e.view.client) (sym object)
      (subst (λ (v : V). KnowsAs (object_in c.view t) v) (sym client) knows)

pub placed_knows : {V E : Type 0} (seen : V → View) (s : SlotId) (text : Text) (c : SeatState V)
    (r : Result (Option Handle) E) (f : Option Handle) → r ≡ Ok f
    → IfOk r (λ found. Knows seen (named_or s found) text c) → Knows seen (named_or s f) text c
placed_knows seen s text c r f is knows =
    subst (λ x. IfOk x (λ found. Knows seen (named_or s found) text c)) is knows

pub found_some : (t : SlotId) (xs : List SlotId) → 0 < times t (with_found (Some t) xs)
found_some t xs =
    let p = times_push t t xs in let i = one_same t t refl in omega (arith, p, i)

-- a make that was refused
pub refused_grows : {V E : Type 0} (l : Place V) (r : Result Handle E) (a b : SeatState V)
    → IsErr r → OnErr r (NotesOnly l.seen l.with_seen a.view.client b.view.client)
    → GrowsBy l (interned_by r) a.view.client b.view.client
refused_grows l (Ok h) a b is only = absurd (cc (is))
refused_grows l (Err e) a b is only =
    lift_grows l 0 a.view.client b.view.client (with_notes only.0 (l.seen a.view.client)) only.1
    (notes_grows only.0 (l.seen a.view.client))

pub is_err : {T E : Type 0} (Q : E → Type 0) (r : Result T E) → IsErrAnd r Q → IsErr r
is_err Q r is = let p = err_from_is_err_and r is in subst (λ x. IsErr x) (sym p.1) refl
