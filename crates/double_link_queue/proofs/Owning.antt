-- What a seat owns after several calls, strongly and weakly, and what it knows of the objects that it holds still.
use Rattle.std.proofs.Common.{◌≡◌, ◌≢◌, ⊎_elim, ◌<◌, ◌≤◌, List, [], ◌∷◌, ◌++◌, refl, ap, sym, ◌∙◌, subst, arith}
use Rattle.std.specs.Prelude.{Option, Some, None}
use Rattle.weak_part_calls.specs.plain_state.declared.slot.SlotId.{SlotId}
use Rattle.weak_part_calls.specs.plain_state.Lists.{times}
use Rattle.weak_part_calls.specs.core_events.declared.view.CoreView.{CoreView}
use Rattle.weak_part_calls.specs.core_events.Views.{Holds, held_times, without}
use Rattle.weak_part_calls.proofs.Below.core_law_Kit.{one_other, one_same, slot_cases, times_none, times_push, times_without}
use Rattle.weak_part_calls.specs.acquire_retire.Seats.{SeatState}
use Rattle.linked_queue.specs.Leaving.{Leaves, with_found}
use Rattle.linked_queue.proofs.Owning.{found_more}
use Rattle.linked_queue.proofs.Trails.{trail_then}
use Rattle.double_link_queue.specs.Leaving.{LeavesBoth, apart}

-- what a seat holds beside what it owns is told by what stays
pub holds_both : (x : SlotId) (v w : CoreView) → apart v ≡ apart w → times x v.owned ≤ times x
    w.owned
    → times x v.weaks ≤ times x w.weaks → Holds v x → Holds w x
holds_both x v w same strong weak held =
    let e = ap (λ (u : CoreView). held_times x (record u { owned = []; weaks = [] })) same in
    let none = times_none x in omega arith

found_same : (found : Option SlotId) (x : SlotId) (xs ys : List SlotId) → times x xs ≡ times x ys
    → times x (with_found found xs) ≡ times x (with_found found ys)
found_same None x xs ys same = same
found_same (Some s) x xs ys same =
    let a = times_push x s xs in let b = times_push x s ys in omega arith

module _ {V : Type 0} where
  -- what is left where no weak reference was counted
  pub both_of : (owned : List SlotId) (old new : SeatState V) → Leaves owned old new
      → LeavesBoth owned old.view.core.weaks old new
  both_of owned old new l = record {
    owns = l.owns;
    weakly = λ x. ap (λ (u : CoreView). times x u.weaks) l.same;
    same = ap (λ (u : CoreView). record u { weaks = [] }) l.same;
    adds = l.adds;
    trail = l.trail;
    knows = l.knows;
  }

  module _ (xs ys : List SlotId) (a b : SeatState V) (l : LeavesBoth xs ys a b) (x : SlotId) where
    held_on : times x a.view.core.owned ≤ times x xs → times x a.view.core.weaks ≤ times x ys
        → Holds a.view.core x → Holds b.view.core x
    held_on strong weak =
        let e = l.owns x in
        let f = l.weakly x in
        holds_both x a.view.core b.view.core (sym l.same) (omega arith) (omega arith)

    held_before : times x xs ≤ times x a.view.core.owned → times x ys ≤ times x a.view.core.weaks
        → Holds b.view.core x → Holds a.view.core x
    held_before strong weak =
        let e = l.owns x in
        let f = l.weakly x in
        holds_both x b.view.core a.view.core l.same (omega arith) (omega arith)

  -- one call and then another, where what is held throughout is held between them
  then_both : (xs ys zs ws owned weaks : List SlotId) (a b c : SeatState V)
      → LeavesBoth xs ys a b → LeavesBoth zs ws b c
      → ((x : SlotId) → times x zs ≡ times x owned) → ((x : SlotId) → times x ws ≡ times x weaks)
      → ((x : SlotId) → Holds a.view.core x → Holds c.view.core x → Holds b.view.core x)
      → LeavesBoth owned weaks a c
  then_both xs ys zs ws owned weaks a b c first second strong weak mid = record {
    owns = λ x. second.owns x ∙ strong x;
    weakly = λ x. second.weakly x ∙ weak x;
    same = second.same ∙ first.same;
    adds = (let late = second.adds in let early = first.adds in omega arith);
    trail = trail_then a b c first.trail second.trail;
    knows = λ x was is. second.knows x (mid x was is) is ∙ first.knows x was (mid x was is);
  }

  -- NOTHING, and then what was found
  pub nothing_then : (found : Option SlotId) (a b c : SeatState V)
      → LeavesBoth a.view.core.owned a.view.core.weaks a b
      → LeavesBoth (with_found found b.view.core.owned) b.view.core.weaks b c
      → LeavesBoth (with_found found a.view.core.owned) a.view.core.weaks a c
  nothing_then found a b c first second =
      then_both _ _ _ _ _ _ a b c first second
      (λ x. found_same found x b.view.core.owned a.view.core.owned (first.owns x)) first.weakly
      (λ x was is. held_on _ _ a b first x (omega arith) (omega arith) was)

  -- nothing, and then one strong reference fewer
  pub nothing_gives : (n : SlotId) (a b c : SeatState V) → 0 < times n a.view.core.owned
      → LeavesBoth a.view.core.owned a.view.core.weaks a b
      → LeavesBoth (without n b.view.core.owned) b.view.core.weaks b c
      → LeavesBoth (without n a.view.core.owned) a.view.core.weaks a c
  nothing_gives n a b c some' first second =
      then_both _ _ _ _ _ _ a b c first second
      (λ x.
      let e = first.owns x in
      let f = first.owns n in
      let left = times_without x n a.view.core.owned some' in
      let still = times_without x n b.view.core.owned (omega arith) in omega arith)
      first.weakly
      (λ x was is. held_on _ _ a b first x (omega arith) (omega arith) was)

  -- A STRONG REFERENCE to n was gained, something may have been found beside, and that reference is given up again.
  module _ (n : SlotId) (found : Option SlotId) (a b c e : SeatState V)
      (gains : LeavesBoth (a.view.core.owned ++ n ∷ []) a.view.core.weaks a b)
      (goes : LeavesBoth (with_found found b.view.core.owned) b.view.core.weaks b c) where
    pub some_at : 0 < times n c.view.core.owned
    some_at =
        let p = gains.owns n in
        let q = goes.owns n in
        let push = times_push n n a.view.core.owned in
        let one = one_same n n refl in
        let more = found_more found n b.view.core.owned (omega arith) in omega arith

    pub goes_on : LeavesBoth (with_found found (a.view.core.owned ++ n ∷ [])) a.view.core.weaks a c
    goes_on = then_both _ _ _ _ _ _ a b c gains goes
        (λ x. found_same found x b.view.core.owned (a.view.core.owned ++ n ∷ []) (gains.owns x))
        gains.weakly
        (λ x was is.
        let push = times_push x n a.view.core.owned in
        held_on _ _ a b gains x (omega arith) (omega arith) was)

    given : (o : Option SlotId) (x : SlotId)
        → times x c.view.core.owned ≡ times x (with_found o (a.view.core.owned ++ n ∷ []))
        → times x (without n c.view.core.owned) ≡ times x (with_found o a.view.core.owned)
    given None x is =
        let push = times_push x n a.view.core.owned in
        let fewer = times_without x n c.view.core.owned some_at in omega arith
    given (Some s) x is =
        let push = times_push x n a.view.core.owned in
        let f = times_push x s (a.view.core.owned ++ n ∷ []) in
        let h = times_push x s a.view.core.owned in
        let fewer = times_without x n c.view.core.owned some_at in omega arith

    pub through_both : LeavesBoth (without n c.view.core.owned) c.view.core.weaks c e
        → LeavesBoth (with_found found a.view.core.owned) a.view.core.weaks a e
    through_both gives = then_both _ _ _ _ _ _ a c e goes_on gives
        (λ x. given found x (goes_on.owns x)) goes_on.weakly
        (λ x was is.
        let fewer = times_without x n c.view.core.owned some_at in
        held_before _ _ c e gives x (omega arith) (omega arith) is)

  -- A WEAK REFERENCE to n was gained, something may have been found beside, and that reference is given up again.
  module _ (n : SlotId) (found : Option SlotId) (a b c : SeatState V) where
    pub weak_through : LeavesBoth a.view.core.owned (a.view.core.weaks ++ n ∷ []) a b
        → LeavesBoth (with_found found b.view.core.owned) (without n b.view.core.weaks) b c
        → LeavesBoth (with_found found a.view.core.owned) a.view.core.weaks a c
    weak_through gains gives = then_both _ _ _ _ _ _ a b c gains gives
        (λ x. found_same found x b.view.core.owned a.view.core.owned (gains.owns x))
        (λ x.
        let p = gains.weakly x in
        let q = gains.weakly n in
        let push = times_push x n a.view.core.weaks in
        let here = times_push n n a.view.core.weaks in
        let one = one_same n n refl in
        let fewer = times_without x n b.view.core.weaks (omega arith) in omega arith)
        (λ x was is.
        let push = times_push x n a.view.core.weaks in
        held_on _ _ a b gains x (omega arith) (omega arith) was)

    -- something may be found, and then a weak reference to n is given up
    pub found_gives : 0 < times n a.view.core.weaks
        → LeavesBoth (with_found found a.view.core.owned) a.view.core.weaks a b
        → LeavesBoth b.view.core.owned (without n b.view.core.weaks) b c
        → LeavesBoth (with_found found a.view.core.owned) (without n a.view.core.weaks) a c
    found_gives some' goes gives = then_both _ _ _ _ _ _ a b c goes gives goes.owns
        (λ x.
        let p = goes.weakly x in
        let q = goes.weakly n in
        let left = times_without x n a.view.core.weaks some' in
        let still = times_without x n b.view.core.weaks (omega arith) in omega arith)
        (λ x was is.
        let q = goes.weakly n in
        let still = times_without x n b.view.core.weaks (omega arith) in
        held_before _ _ b c gives x (omega arith) (omega arith) is)

  -- A REFERENCE TO l is gained, one to n given up, and then the one to l.
  module _ (n l : SlotId) (a b c e : SeatState V) (some_n : 0 < times n a.view.core.owned)
      (gains : LeavesBoth (a.view.core.owned ++ l ∷ []) a.view.core.weaks a b)
      (goes : LeavesBoth (without n b.view.core.owned) b.view.core.weaks b c) where
    n_there : 0 < times n b.view.core.owned
    n_there =
        let p = gains.owns n in let push = times_push n l a.view.core.owned in omega arith

    pub l_there : 0 < times l c.view.core.owned
    l_there =
        let p = gains.owns l in
        let q = goes.owns l in
        let push = times_push l l a.view.core.owned in
        let one = one_same l l refl in
        let fewer = times_without l n b.view.core.owned n_there in
        ⊎_elim
        (λ (same : n ≡ l).
        let some_l : 0 < times l a.view.core.owned =
        subst (λ (s : SlotId). 0 < times s a.view.core.owned) same some_n in
        let hit = one_same l n (ap (λ (s : SlotId). s.0) same) in omega arith)
        (λ (ne : n.0 ≢ l.0). let none = one_other l n ne in omega arith)
        (slot_cases n l)

    pub gives_both : 0 < times l c.view.core.owned
        → LeavesBoth (without l c.view.core.owned) c.view.core.weaks c e
        → LeavesBoth (without n a.view.core.owned) a.view.core.weaks a e
    gives_both some_l gives =
        let mid = then_both _ _ _ _ (without n b.view.core.owned) _ a b c gains goes (λ x. refl)
        gains.weakly
        (λ x was is.
        let push = times_push x l a.view.core.owned in
        held_on _ _ a b gains x (omega arith) (omega arith) was) in
        then_both _ _ _ _ _ _ a c e mid gives
        (λ x.
        let p = gains.owns x in
        let q = goes.owns x in
        let push = times_push x l a.view.core.owned in
        let first = times_without x n a.view.core.owned some_n in
        let second = times_without x n b.view.core.owned n_there in
        let third = times_without x l c.view.core.owned some_l in omega arith)
        mid.weakly
        (λ x was is.
        let third = times_without x l c.view.core.owned some_l in
        held_before _ _ c e gives x (omega arith) (omega arith) is)
