-- Which references a seat has where calls follow one another.
use Rattle.std.proofs.Common.{◌≡◌, ⊎_elim, ℕ, ◌+◌, ◌<◌, ◌≤◌, List, [], ◌∷◌, ◌++◌, refl, ap, arith}
use Rattle.std.specs.Prelude.{Err, IsErrAnd, Ok, Result}
use Rattle.std.proofs.lemmas.Bool.{cases_lt}
use Rattle.control_word.specs.counted_handles.Handles.{Handle}
use Rattle.cell_calls.specs.cell_law.plain_state.declared.slot.SlotId.{SlotId}
use Rattle.cell_calls.specs.cell_law.plain_state.Lists.{times}
use Rattle.cell_calls.specs.Keeping.{Keeps}
use Rattle.cell_calls.proofs.Keeping.{keeps_then, keeps_wider}
use Rattle.epoch_refs.specs.epoch_core.core_events.Views.{without}
use Rattle.epoch_refs.specs.epoch_core.Views.{Holds}
use Rattle.epoch_refs.specs.epoch_domain.Seats.{SeatState}
use Rattle.epoch_domain.proofs.Below.core_law_Kit.{one_other, one_same, times_push, times_without}
use Rattle.cell_making.specs.Making.{owned_with}

-- a slot that was made besides is owned still, once another one is given
pub left_then : (t s : SlotId) (xs ys : List SlotId) → times t ys ≡ times t xs + 1
    → 0 < times s xs → 0 < times s ys → 0 < times t (without s ys)
left_then t s xs ys more owns owns' =
    let w = times_without t s ys owns' in
    ⊎_elim
    (λ (lt : t.0 < s.0). let none = one_other t s (λ e. omega (arith, e, lt)) in
    omega (arith, w, none, more))
    (λ ge. ⊎_elim
    (λ (gt : s.0 < t.0). let none = one_other t s (λ e. omega (arith, e, gt)) in
    omega (arith, w, none, more))
    (λ le. let e : s.0 ≡ t.0 = omega (arith, ge, le) in
    let one = one_same t s e in
    let same : times s xs ≡ times t xs = ap (λ n. times (record { 0 = n }) xs) e in
    omega (arith, w, one, more, same, owns))
    (cases_lt s.0 t.0))
    (cases_lt t.0 s.0)

-- with the slot of an answer in both
pub same_with : {E : Type 0} (r : Result Handle E) (xs ys : List SlotId)
    → ((x : SlotId) → times x xs ≡ times x ys) → (x : SlotId)
    → times x (owned_with r xs) ≡ times x (owned_with r ys)
same_with (Ok h) xs ys same x =
    let a = times_push x h.slot xs in
    let b = times_push x h.slot ys in
    let s = same x in
    omega (arith, a, b, s)
same_with (Err e) xs ys same x = same x

-- where the exit of a `?` returns no slot
pub none_with : {V E : Type 0} (r : Result Handle E) (F : E → Type 0) (m n : ℕ)
    (xs : List SlotId) (a b : SeatState V) → IsErrAnd r F → Keeps m n xs a b
    → Keeps m n (owned_with r xs) a b
none_with (Ok h) F m n xs a b handed keeps = absurd handed
none_with (Err e) F m n xs a b handed keeps = keeps

module _ {V : Type 0} where
  -- what a seat held it holds still, where it owns no fewer references
  pub holds_on : (m a : ℕ) (xs : List SlotId) (old new : SeatState V) → Keeps m a xs old new
      → (x : SlotId) → times x old.view.core.owned ≤ times x xs → Holds old.view.core x
      → Holds new.view.core x
  holds_on m a xs old new keeps x more has =
      let o = keeps.owns x in let s = keeps.sees x in omega (arith, o, s, more, has)

  -- s was made, and then given up or given away, and a slot was made in its place or not
  module _ {E : Type 0} (m n : ℕ) (s : SlotId) (r : Result Handle E) (a b c : SeatState V)
      (first : Keeps m m (a.view.core.owned ++ s ∷ []) a b)
      (second : Keeps n n (owned_with r (without s b.view.core.owned)) b c) where
    made_then_owned : 0 < times s b.view.core.owned
    made_then_owned =
        let k = first.owns s in let p = times_push s s a.view.core.owned in
        let i = one_same s s refl in omega (arith, k, p, i)

    as_often : (x : SlotId) → times x (without s b.view.core.owned) ≡ times x a.view.core.owned
    as_often x =
        let k = first.owns x in let p = times_push x s a.view.core.owned in
        let w = times_without x s b.view.core.owned made_then_owned in
        omega (arith, k, p, w)

    pub taken_over : Keeps (m + n) (m + n) (owned_with r a.view.core.owned) a c
    taken_over =
        keeps_wider (m + n) (m + n) (m + n) (m + n)
        (owned_with r (without s b.view.core.owned)) (owned_with r a.view.core.owned) a c
        (keeps_then m n m n (a.view.core.owned ++ s ∷ [])
        (owned_with r (without s b.view.core.owned)) a b c first second
        (λ x has still. holds_on m m (a.view.core.owned ++ s ∷ []) a b first x
        (let p = times_push x s a.view.core.owned in omega (arith, p)) has))
        (omega arith) (omega arith)
        (same_with r (without s b.view.core.owned) a.view.core.owned as_often)

  -- t was made while s was owned
  module _ (t s : SlotId) (a b : SeatState V)
      (first : Keeps 1 1 (a.view.core.owned ++ t ∷ []) a b) (owned : 0 < times s a.view.core.owned)
    where
      pub rest_owned : 0 < times s b.view.core.owned
      rest_owned =
          let o = first.owns s in let p = times_push s t a.view.core.owned in
          omega (arith, o, p, owned)

      pub front_left : 0 < times t (without s b.view.core.owned)
      front_left =
          let o = first.owns t in let p = times_push t t a.view.core.owned in
          let i = one_same t t refl in
          left_then t s a.view.core.owned b.view.core.owned (omega (arith, o, p, i)) owned
          rest_owned

      as_before : (x : SlotId)
          → times x (without t (without s b.view.core.owned))
          ≡ times x (without s a.view.core.owned)
      as_before x =
          let o = first.owns x in
          let p = times_push x t a.view.core.owned in
          let u = times_without x t (without s b.view.core.owned) front_left in
          let v = times_without x s b.view.core.owned rest_owned in
          let w = times_without x s a.view.core.owned owned in
          omega (arith, o, p, u, v, w)

      -- then both were given up, or t took s over
      pub keeps_before : {E : Type 0} (r : Result Handle E) (c : SeatState V)
          → Keeps 0 0 (owned_with r (without t (without s b.view.core.owned))) b c
          → Keeps 1 1 (owned_with r (without s a.view.core.owned)) a c
      keeps_before r c second =
          keeps_wider (1 + 0) 1 (1 + 0) 1
          (owned_with r (without t (without s b.view.core.owned)))
          (owned_with r (without s a.view.core.owned)) a c
          (keeps_then 1 0 1 0 (a.view.core.owned ++ t ∷ [])
          (owned_with r (without t (without s b.view.core.owned))) a b c first second
          (λ x has still. holds_on 1 1 (a.view.core.owned ++ t ∷ []) a b first x
          (let p = times_push x t a.view.core.owned in omega (arith, p)) has))
          (omega arith) (omega arith)
          (same_with r (without t (without s b.view.core.owned)) (without s a.view.core.owned)
          as_before)

  -- then s was given up
  pub keeps_dropped : (m n : ℕ) (xs : List SlotId) (s : SlotId) (a b c : SeatState V)
      → Keeps m n xs a b → 0 < times s xs → Keeps 0 0 (without s b.view.core.owned) b c
      → ((x : SlotId) → Holds c.view.core x → Holds b.view.core x)
      → Keeps m n (without s xs) a c
  keeps_dropped m n xs s a b c first owned second back =
      keeps_wider (m + 0) m (n + 0) n (without s b.view.core.owned) (without s xs) a c
      (keeps_then m 0 n 0 xs (without s b.view.core.owned) a b c first second
      (λ x has still. back x still))
      (omega arith) (omega arith)
      (λ x. let o = first.owns x in let p = first.owns s in
      let u = times_without x s xs owned in
      let w = times_without x s b.view.core.owned (omega (arith, p, owned)) in
      omega (arith, o, u, w))
