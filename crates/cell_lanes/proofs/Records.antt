-- References to the records of words, to each slot once.
use Rattle.std.proofs.Common.{◌≡◌, ◌⊎◌, inl, inr, ⊎_elim, ℕ, zero, suc, ◌+◌, ◌<◌, Bool, true, false, List, [], ◌∷◌, ◌++◌, refl, sym, ap, subst, ◌∙◌, arith}
use Rattle.std.specs.Prelude.{◌==◌, cond, nat_lt}
use Rattle.std.proofs.lemmas.Bool.{cases_eq, lt-ltb, ltb-false, ltb-true}
use Rattle.std.proofs.lemmas.Bool.Decides.{nat_tests}
use Rattle.cell_intern.specs.cell_calls.cell_law.declared.view.View.{View}
use Rattle.cell_intern.specs.cell_calls.cell_law.plain_state.declared.slot.SlotId.{SlotId}
use Rattle.cell_intern.specs.cell_calls.cell_law.plain_state.Lists.{times}
use Rattle.cell_intern.proofs.Below.core_law_Kit.{one_other, one_same, times_append, times_cons, times_none, times_push}
use Rattle.cell_intern.specs.epoch_refs.epoch_core.core_events.Counts.{one}
use Rattle.lane_work.specs.Keeping.{slots_of}
use Rattle.lane_work.specs.counted_handles.Handles.{Handle}
use Rattle.cell_lanes.specs.Counting.{GrowsBy}
use Rattle.cell_rest.specs.Kept.{TellsWord}
use Rattle.cell_rest.specs.record_counts.Told.{TellsEach, TellsRecords}
use Rattle.cell_rest.proofs.Below.record_counts_Joined.{each_more}
use Rattle.cell_lanes.proofs.Viewed.{tells_on}

each_push : (Told : List ℕ → SlotId → Type 0) (ws : List (List ℕ)) (ss : List SlotId) (w : List ℕ)
    (s : SlotId) → TellsEach Told ws ss → Told w s → TellsEach Told (ws ++ w ∷ []) (ss ++ s ∷ [])
each_push Told [] [] w s told one' = (one', tt)
each_push Told [] (t ∷ ss) w s told one' = absurd told
each_push Told (u ∷ ws) [] w s told one' = absurd told
each_push Told (u ∷ ws) (t ∷ ss) w s told one' = (told.0, each_push Told ws ss w s told.1 one')

pub tells_none : (v : View) → TellsRecords (TellsWord v) [] []
tells_none v = record {
  slots = [];
  tells = tt;
  once = λ s some. let z = times_none s in absurd (omega (arith, some));
  only = λ s none. times_none s;
}

zero_or : (n : ℕ) → (n ≡ 0) ⊎ (0 < n)
zero_or zero = inl refl
zero_or (suc n) = inr (omega arith)

is_or : (s t : SlotId) → (s ≡ t) ⊎ (one s t ≡ 0)
is_or s t = ⊎_elim
    (λ (is : s.0 ≡ t.0). inl (λ i. record { 0 = is i }))
    (λ not. inr (one_other s t (λ is. not (sym is))))
    (cases_eq s.0 t.0)

-- how often a slot stands among what is kept more
times_if : (b : Bool) (h : Handle) (s : SlotId)
    → times s (slots_of (cond b [] (h ∷ []))) ≡ cond b 0 (one s h.slot)
times_if true h s = times_none s
times_if false h s = let p = times_cons s h.slot [] in let q = times_none s in omega arith

module _ (ws : List (List ℕ)) (w : List ℕ) (kept : List SlotId) (h : Handle) (more : List Handle)
    (u v : View) (so_far : TellsRecords (TellsWord u) ws kept) (grows : GrowsBy (w ∷ []) u v)
    (tells : TellsWord v w h.slot) where
  abbrev slots : List SlotId
  slots = so_far.slots ++ h.slot ∷ []

  all_told : TellsEach (TellsWord v) (ws ++ w ∷ []) slots
  all_told = each_push (TellsWord v) ws so_far.slots w h.slot
      (each_more (TellsWord u) (TellsWord v) (λ x s told. tells_on (w ∷ []) u v x s grows told) ws
      so_far.slots so_far.tells) tells

  module _ (has : Bool) (is_more : more ≡ cond has [] (h ∷ [])) where
    sum_of : (s : SlotId)
        → times s (kept ++ slots_of more) ≡ times s kept + cond has 0 (one s h.slot)
    sum_of s =
        let p = times_append s kept (slots_of more) in
        let q = ap (λ (hs : List Handle). times s (slots_of hs)) is_more ∙ times_if has h s in
        omega arith

    by_mark : has ≡ nat_lt 0 (times h.slot kept) → (s : SlotId)
        → ((0 < times s slots → times s (kept ++ slots_of more) ≡ 1)
        × (times s slots ≡ 0 → times s (kept ++ slots_of more) ≡ 0))
    by_mark mark s = ⊎_elim
        (λ is. subst (λ (t : SlotId). ((0 < times t slots → times t (kept ++ slots_of more) ≡ 1)
        × (times t slots ≡ 0 → times t (kept ++ slots_of more) ≡ 0))) (sym is) (at_h has refl))
        (λ other. let p = times_push s h.slot so_far.slots in let q = sum_of s in
        let r = rest has other in (
          λ some. let o = so_far.once s (omega (arith, some)) in omega arith,
          λ none. let o = so_far.only s (omega (arith, none)) in omega arith,
        ))
        (is_or s h.slot)
      where
        rest : (x : Bool) → one s h.slot ≡ 0 → cond x 0 (one s h.slot) ≡ 0
        rest true z = refl
        rest false z = z

        at_h : (x : Bool) → has ≡ x
            → ((0 < times h.slot slots → times h.slot (kept ++ slots_of more) ≡ 1)
            × (times h.slot slots ≡ 0 → times h.slot (kept ++ slots_of more) ≡ 0))
        at_h true is =
            let some = ltb-true 0 (times h.slot kept) (sym mark ∙ is) in
            let q = sum_of h.slot ∙ ap (λ (x : Bool). times h.slot kept + cond x 0 (one h.slot h.slot)) is in
            ⊎_elim
            (λ none. let o = so_far.only h.slot none in absurd (omega (arith, some)))
            (λ there. let o = so_far.once h.slot there in let p = times_push h.slot h.slot so_far.slots in
            (λ s. omega arith, λ z. absurd (omega (arith, z))))
            (zero_or (times h.slot so_far.slots))
        at_h false is =
            let none = ltb-false 0 (times h.slot kept) (sym mark ∙ is) in
            let q = sum_of h.slot ∙ ap (λ (x : Bool). times h.slot kept + cond x 0 (one h.slot h.slot)) is in
            let o = one_same h.slot h.slot refl in let p = times_push h.slot h.slot so_far.slots in
            (λ s. omega (arith, none), λ z. absurd (omega (arith, z)))

    pub tells_more : has ≡ nat_lt 0 (times h.slot kept)
        → TellsRecords (TellsWord v) (ws ++ w ∷ []) (kept ++ slots_of more)
    tells_more mark = record {
      slots = slots;
      tells = all_told;
      once = λ s some. (by_mark mark s).0 some;
      only = λ s none. (by_mark mark s).1 none;
    }

    -- the marks go on to tell what is kept
    pub marks_more : has ≡ nat_lt 0 (times h.slot kept) → (before after : Bool) (s : SlotId)
        → before ≡ nat_lt 0 (times s kept) → after ≡ cond (h.slot.0 == s.0) true before
        → after ≡ nat_lt 0 (times s (kept ++ slots_of more))
    marks_more mark before after s was is = ⊎_elim
        (λ (e : s ≡ h.slot).
        is ∙ ap (λ (b : Bool). cond b true before) (eq_same h.slot.0 s.0 (sym (ap (λ (t : SlotId). t.0) e)))
        ∙ sym (lt-ltb 0 (times s (kept ++ slots_of more))
        (subst (λ (t : SlotId). 0 < times t (kept ++ slots_of more)) (sym e) there)))
        (λ (z : one s h.slot ≡ 0).
        is ∙ other_mark s z before ∙ was
        ∙ ap (nat_lt 0) (let q = sum_of s in let r = rest has s z in omega arith))
        (is_or s h.slot)
      where
        there : 0 < times h.slot (kept ++ slots_of more)
        there = let o = (by_mark mark h.slot).0
            (let p = times_push h.slot h.slot so_far.slots in let q = one_same h.slot h.slot refl in omega arith) in
            omega arith

        rest : (x : Bool) (t : SlotId) → one t h.slot ≡ 0 → cond x 0 (one t h.slot) ≡ 0
        rest true t z = refl
        rest false t z = z

        eq_same : (a b : ℕ) → a ≡ b → (a == b) ≡ true
        eq_same a b e = grind (arith, nat_tests)

        eq_other : (a b : ℕ) → (a ≡ b → ⊥) → (a == b) ≡ false
        eq_other a b not = grind (arith, nat_tests)

        other_mark : (t : SlotId) → one t h.slot ≡ 0 → (b : Bool)
            → cond (h.slot.0 == t.0) true b ≡ b
        other_mark t z b = ap (λ (x : Bool). cond x true b) (eq_other h.slot.0 t.0
            (λ e. let o = one_same t h.slot e in absurd (omega (arith, z))))
