-- A slot that is made before another one.
use Rattle.std.proofs.Common.{◌≡◌, ℕ, ◌<◌, List, [], ◌∷◌, ◌++◌, refl, ap, sym, ◌∙◌, subst, arith}
use Rattle.std.specs.Prelude.{None, Option, Some}
use Rattle.atomic_shared.specs.plain_state.declared.slot.SlotId.{SlotId}
use Rattle.atomic_shared.specs.plain_state.Lists.{times}
use Rattle.atomic_shared.specs.plain_protocol.Owns.{Object}
use Rattle.slot_store.specs.core_events.Views.{without}
use Rattle.slot_store.proofs.Below.core_law_Kit.{one_same, times_push, times_without}
use Rattle.slot_store.specs.domain_rule.Views.{object_in}
use Rattle.slot_store.specs.acquire_retire.Seats.{SeatState}
use Rattle.directory_calls.specs.directory_law.declared.view.Rope.{Rope}
use Rattle.directory_calls.specs.directory_law.declared.view.View.{View}
use Rattle.directory_calls.specs.directory_law.Payloads.{IsPart, Text}
use Rattle.directory_calls.specs.Steps.{Leaves, with_found}
use Rattle.directory_calls.proofs.Going.{holds_by, leaves_as, leaves_then}
use Rattle.directory_calls.proofs.Parts.{Place}
use Rattle.record_making.specs.Making.{HasText, HasTwo, Links, Notes, PutsBefore, candidate_in, with_notes}
use Rattle.record_making.proofs.Linked.{left_then}
use Rattle.record_making.proofs.Noted.{notes_then}

-- ONE SLOT MORE: t is made while s is owned, and then s is given into it
module _ {V : Type 0} (l : Place V) (t s : SlotId) (payload : List ℕ) (a b : SeatState V)
    (first : Leaves (a.view.core.owned ++ t ∷ []) a.view.core.weaks a b)
    (owned : 0 < times s a.view.core.owned)
    (made : (object_in b.view t).payload ≡ payload)
    (noted : b.view.client ≡ l.with_seen a.view.client (with_notes
    (candidate_in t (payload ∷ []) b ∷ (l.seen a.view.client).noted) (l.seen a.view.client)))
  where
    pub rest_owned : 0 < times s b.view.core.owned
    rest_owned =
        let o = first.owns s in let p = times_push s t a.view.core.owned in omega (
          arith,
          o,
          p,
          owned,
        )

    pub front_owned : 0 < times t b.view.core.owned
    front_owned =
        let o = first.owns t in let p = times_push t t a.view.core.owned in
        let i = one_same t t refl in omega (arith, o, p, i)

    pub front_left : 0 < times t (without s b.view.core.owned)
    front_left =
        let o = first.owns t in let p = times_push t t a.view.core.owned in
        let i = one_same t t refl in
        left_then t s a.view.core.owned b.view.core.owned (omega (arith, o, p, i)) owned rest_owned

    known : object_in b.view s ≡ object_in a.view s
    known = let o = rest_owned in first.knows s (omega (arith, owned)) (omega (arith, o))

    pub rest_part : IsPart (object_in a.view s).payload → IsPart (object_in b.view s).payload
    rest_part is = subst (λ (o : Object). IsPart o.payload) (sym known) is

    two : (text : Text) (others : List Rope)
        → (l.seen a.view.client).noted ≡ candidate_in s text a ∷ others
        → (l.seen b.view.client).noted
        ≡ candidate_in t ((object_in b.view t).payload ∷ []) b ∷ candidate_in s text b ∷ others
    two text others is =
        ap (λ (c : V). (l.seen c).noted) noted
        ∙ ap (λ (v : View). v.noted) (l.reads a.view.client (with_notes
        (candidate_in t (payload ∷ []) b ∷ (l.seen a.view.client).noted) (l.seen a.view.client)))
        ∙ ap (λ (es : List Rope). candidate_in t (payload ∷ []) b ∷ es) is
        ∙ ap (λ (words : List ℕ). candidate_in t (words ∷ []) b ∷ candidate_in s text a ∷ others)
        (sym made)
        ∙ ap (λ (o : Object). candidate_in t ((object_in b.view t).payload ∷ []) b
        ∷ record { slot = s; life = o.life; text = text } ∷ others) (sym known)

    pub has_two : HasText l.seen s a → HasTwo l.seen t s b
    has_two is = (is.0, is.1.0, two is.0 is.1.0 is.1.1)

    module _ (c : SeatState V)
        (second : Leaves (without s b.view.core.owned) b.view.core.weaks b c) where
      pub put_before : Links l.seen l.with_seen t s b c
          → PutsBefore l.seen l.with_seen payload s t a c
      put_before links text is =
          notes_then l (candidate_in t (payload ∷ text) c) a.view.client b.view.client c.view.client
          (_, noted)
          (subst (λ (words : List ℕ). Notes l.seen l.with_seen (candidate_in t (words ∷ text) c)
          b.view.client c.view.client) made
          (links text is.0 (two text is.0 is.1)))

      pub owned_before : 0 < times t c.view.core.owned
      owned_before = let o = second.owns t in let p = front_left in omega (arith, o, p)

      pub made_before : (object_in c.view t).payload ≡ payload
      made_before =
          let p = front_owned in let o = owned_before in
          ap (λ (x : Object). x.payload) (second.knows t (omega (arith, p)) (omega (arith, o))) ∙
          made

      pub leaves_before : Leaves (without s a.view.core.owned ++ t ∷ []) a.view.core.weaks a c
      leaves_before =
          leaves_as (without s a.view.core.owned ++ t ∷ []) a.view.core.weaks a c
          (leaves_then a b c first second
          (λ x was is. let o = first.owns x in let m = first.weakly x in
          let p = times_push x t a.view.core.owned in
          holds_by x a.view.core b.view.core (sym first.same) (omega arith) was))
          (λ x. let o = first.owns x in let p = times_push x t a.view.core.owned in
          let q = times_push x t (without s a.view.core.owned) in
          let u = times_without x s a.view.core.owned owned in
          let w = times_without x s b.view.core.owned rest_owned in
          omega (arith, o, p, q, u, w))
          first.weakly

-- a refused make, after which s is given up
pub refused_before : {V : Type 0} (s : SlotId) (a b c : SeatState V)
    → Leaves a.view.core.owned a.view.core.weaks a b → 0 < times s a.view.core.owned
    → Leaves (without s b.view.core.owned) b.view.core.weaks b c
    → Leaves (without s a.view.core.owned) a.view.core.weaks a c
refused_before s a b c first owned second =
    leaves_as (without s a.view.core.owned) a.view.core.weaks a c
    (leaves_then a b c first second
    (λ x was is. let o = first.owns x in let m = first.weakly x in
    holds_by x a.view.core b.view.core (sym first.same) (omega arith) was))
    (λ x. let o = first.owns x in let k = first.owns s in
    let u = times_without x s a.view.core.owned owned in
    let w = times_without x s b.view.core.owned (omega (arith, k, owned)) in
    omega (arith, o, u, w))
    first.weakly

-- t was made, and s given up or given into it
pub taken_over : {V : Type 0} (s : SlotId) (o : Option SlotId) (a b c : SeatState V)
    → Leaves (a.view.core.owned ++ s ∷ []) a.view.core.weaks a b
    → Leaves (with_found o (without s b.view.core.owned)) b.view.core.weaks b c
    → Leaves (with_found o a.view.core.owned) a.view.core.weaks a c
taken_over s o a b c first second =
    leaves_as (with_found o a.view.core.owned) a.view.core.weaks a c
    (leaves_then a b c first second
    (λ x was is. let k = first.owns x in let m = first.weakly x in
    let p = times_push x s a.view.core.owned in
    holds_by x a.view.core b.view.core (sym first.same) (omega arith) was))
    (λ x. as_often o x)
    first.weakly
  where
    owned : 0 < times s b.view.core.owned
    owned =
        let k = first.owns s in let p = times_push s s a.view.core.owned in
        let i = one_same s s refl in omega (arith, k, p, i)

    as_often : (f : Option SlotId) (x : SlotId)
        → times x (with_found f (without s b.view.core.owned))
        ≡ times x (with_found f a.view.core.owned)
    as_often None x =
        let k = first.owns x in let p = times_push x s a.view.core.owned in
        let w = times_without x s b.view.core.owned owned in
        omega (arith, k, p, w)
    as_often (Some t) x =
        let k = first.owns x in let p = times_push x s a.view.core.owned in
        let q = times_push x t (without s b.view.core.owned) in
        let r = times_push x t a.view.core.owned in
        let w = times_without x s b.view.core.owned owned in
        omega (arith, k, p, q, r, w)
