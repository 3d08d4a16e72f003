-- The parts of a settle as plain steps of one seat: an object ends, a slot is given, an entry goes, an object is destroyed.
use Rattle.std.proofs.Common.{◌≡◌, ◌≢◌, ◌⊎◌, inl, inr, ⊎_elim, ℕ, ◌+◌, ◌<◌, ◌≤◌, false, List, [], ◌∷◌, ◌++◌, length, get_or, set, refl, ap, sym, ◌∙◌, subst, arith, lit<, Option, None}
use Rattle.std.specs.Prelude.{slice_set}
use Rattle.std.proofs.lemmas.List.{get_or-set_same, set-set}
use Rattle.plain_state.specs.declared.act.EventPlace.TheVariants.{Field, WeakField}
use Rattle.plain_state.specs.declared.act.PlainAct.TheVariants as act
use Rattle.plain_state.specs.declared.slot.Kind.{Kind}
use Rattle.plain_state.specs.declared.slot.Kind.TheVariants.{Strong, Weak, Disposal}
use Rattle.plain_state.specs.declared.slot.SlotId.{SlotId}
use Rattle.plain_state.specs.declared.slot.PlainSlot.{PlainSlot}
use Rattle.plain_state.specs.declared.slot.Stage.TheVariants.{Live, Husk}
use Rattle.plain_state.specs.Lists.{Entry, times, entry_times, Loses}
use Rattle.plain_state.specs.State.{Plain, PlainSeat, new_slot, stage_at}
use Rattle.plain_state.specs.References.{over_seats, places, deferrals, snapshot_times, strong_refs, weak_refs}
use Rattle.plain_state.specs.Lawful.{IsCovered}
use Rattle.plain_state.specs.Steps.{word_of, joined, Does}
use Rattle.plain_store.specs.Draining.{SettlesFreely, Destroys, husk_of, ended_of, freed_of}
use Rattle.plain_state.proofs.Kit.{cases_slot, entry_in, entry_self, entry_other, entry_append, entry_loses}

-- a state of one seat
abbrev pub one : PlainSeat → List (Option SlotId) → List (Option SlotId) → List PlainSlot → Plain
one v cs ws xs = record { seats = v ∷ []; cells = cs; weak_cells = ws; slots = xs; tickets = 0 }

module _ (v : PlainSeat) (cs ws : List (Option SlotId)) (here : v.left ≡ false) where
  -- an object ends
  abbrev pub ends : List PlainSlot → SlotId → Plain
  ends xs s = one (record v { dying = v.dying ++ s ∷ [] }) cs ws (slice_set xs s.0 (ended_of (get_or xs s.0 new_slot)))

  pub ends_settles : (xs : List PlainSlot) (s : SlotId) → stage_at (one v cs ws xs) s ≡ Live → strong_refs (one v cs ws xs) s ≡ 0
      → SettlesFreely (one v cs ws xs) (ends xs s)
  ends_settles xs s live none weight =
      (act.End s ∷ [], (ends xs s, 0, 0, tt, ((lit< tt, here), (live, inr none, refl, refl)), (refl, refl), refl))

  -- a husk is given again
  abbrev pub gives : List PlainSlot → SlotId → Plain
  gives xs s = one v cs ws (slice_set xs s.0 (freed_of (get_or xs s.0 new_slot)))

  pub gives_settles : (xs : List PlainSlot) (s : SlotId) → stage_at (one v cs ws xs) s ≡ Husk → weak_refs (one v cs ws xs) s ≡ 0
      → SettlesFreely (one v cs ws xs) (gives xs s)
  gives_settles xs s husk none weight =
      (act.Give s ∷ [], (gives xs s, 0, 0, tt, ((lit< tt, here), (husk, none, refl, refl)), (refl, refl), refl))

-- of one seat a sum over seats is its own number
one_sum : (f : PlainSeat → ℕ) (v : PlainSeat) → over_seats f (v ∷ []) ≡ f v
unfolding over_seats
one_sum f v = omega arith

-- an entry that is a surplus may go: what is under a snapshot stays covered
covered_number : (places snaps defs defs' k : ℕ) → (0 < snaps → 0 < places + defs) → defs' + k ≡ defs
    → (k ≡ 0) ⊎ (snaps ≤ defs') → 0 < snaps → 0 < places + defs'
covered_number places snaps defs defs' k covered e cases h =
    ⊎_elim (λ (z : k ≡ 0). let c = covered h in omega arith) (λ (le : snaps ≤ defs'). omega arith) cases

surplus_self : (k : Kind) (s t : SlotId) (snapshots deferred fs : List Entry) → Loses deferred (k, s) fs
    → entry_times k s snapshots < entry_times k s deferred
    → (entry_in k t (k, s) ≡ 0) ⊎ (entry_times k t snapshots ≤ entry_times k t fs)
surplus_self k s t snapshots deferred fs l h =
    ⊎_elim
    (λ (e : t ≡ s). inr (subst (λ (u : SlotId). entry_times k u snapshots ≤ entry_times k u fs) (sym e)
    (let a = entry_loses k s (k, s) deferred fs l in let o = entry_self k s in omega arith)))
    (λ (ne : t.0 ≢ s.0). inl (entry_other k t (k, s) (λ q. ne (sym q))))
    (cases_slot t s)

surplus_or_other : (k j : Kind) (s t : SlotId) (snapshots deferred fs : List Entry) → Loses deferred (k, s) fs
    → entry_times k s snapshots < entry_times k s deferred
    → (entry_in j t (k, s) ≡ 0) ⊎ (entry_times j t snapshots ≤ entry_times j t fs)
surplus_or_other Strong Strong s t snapshots deferred fs l h = surplus_self Strong s t snapshots deferred fs l h
surplus_or_other Strong Weak s t snapshots deferred fs l h = inl refl
surplus_or_other Strong Disposal s t snapshots deferred fs l h = inl refl
surplus_or_other Weak Strong s t snapshots deferred fs l h = inl refl
surplus_or_other Weak Weak s t snapshots deferred fs l h = surplus_self Weak s t snapshots deferred fs l h
surplus_or_other Weak Disposal s t snapshots deferred fs l h = inl refl
surplus_or_other Disposal Strong s t snapshots deferred fs l h = inl refl
surplus_or_other Disposal Weak s t snapshots deferred fs l h = inl refl
surplus_or_other Disposal Disposal s t snapshots deferred fs l h = surplus_self Disposal s t snapshots deferred fs l h

module _ (v : PlainSeat) (cs ws : List (Option SlotId)) (xs : List PlainSlot) (here : v.left ≡ false) where
  abbrev pub takes : List Entry → Plain
  takes fs = one (record v { deferred = fs }) cs ws xs

  covered_after : (k : Kind) (s : SlotId) (fs : List Entry) → IsCovered (one v cs ws xs) → Loses v.deferred (k, s) fs
      → entry_times k s v.snapshots < entry_times k s v.deferred → IsCovered (takes fs)
  unfolding over_seats
  covered_after k s fs covered l more Strong t h =
      covered_number (places Strong (takes fs) t) (snapshot_times Strong (takes fs) t) (deferrals Strong (one v cs ws xs) t) (deferrals Strong (takes fs) t) (entry_in Strong t (k, s))
      (covered Strong t)
      (let a = one_sum (λ (w : PlainSeat). entry_times Strong t w.deferred) v in
      let b = one_sum (λ (w : PlainSeat). entry_times Strong t w.deferred) (record v { deferred = fs }) in
      let c = entry_loses Strong t (k, s) v.deferred fs l in omega arith)
      (⊎_elim (λ z. inl z) (λ le. inr (
      let a = one_sum (λ (w : PlainSeat). entry_times Strong t w.snapshots) (record v { deferred = fs }) in
      let b = one_sum (λ (w : PlainSeat). entry_times Strong t w.deferred) (record v { deferred = fs }) in omega arith))
      (surplus_or_other k Strong s t v.snapshots v.deferred fs l more)) h
  covered_after k s fs covered l more Weak t h =
      covered_number (places Weak (takes fs) t) (snapshot_times Weak (takes fs) t) (deferrals Weak (one v cs ws xs) t) (deferrals Weak (takes fs) t) (entry_in Weak t (k, s))
      (covered Weak t)
      (let a = one_sum (λ (w : PlainSeat). entry_times Weak t w.deferred) v in
      let b = one_sum (λ (w : PlainSeat). entry_times Weak t w.deferred) (record v { deferred = fs }) in
      let c = entry_loses Weak t (k, s) v.deferred fs l in omega arith)
      (⊎_elim (λ z. inl z) (λ le. inr (
      let a = one_sum (λ (w : PlainSeat). entry_times Weak t w.snapshots) (record v { deferred = fs }) in
      let b = one_sum (λ (w : PlainSeat). entry_times Weak t w.deferred) (record v { deferred = fs }) in omega arith))
      (surplus_or_other k Weak s t v.snapshots v.deferred fs l more)) h
  covered_after k s fs covered l more Disposal t h =
      let a = one_sum (λ (w : PlainSeat). entry_times Disposal t w.snapshots) v in
      let b = one_sum (λ (w : PlainSeat). entry_times Disposal t w.snapshots) (record v { deferred = fs }) in
      covered Disposal t (omega arith)

  -- the entry goes, and the others keep their order
  pub takes_settles : (k : Kind) (s : SlotId) (front back fs : List Entry) → IsCovered (one v cs ws xs)
      → v.deferred ≡ front ++ (k, s) ∷ back → fs ≡ front ++ back → entry_times k s v.snapshots ≤ entry_times k s front
      → SettlesFreely (one v cs ws xs) (takes fs)
  takes_settles k s front back fs covered was is enough weight =
      let l : Loses v.deferred (k, s) fs = (front, back, was, is) in
      let more : entry_times k s v.snapshots < entry_times k s v.deferred =
      let a = entry_loses k s (k, s) v.deferred fs l in
      let b = entry_self k s in
      let c : entry_times k s fs ≡ entry_times k s front + entry_times k s back = ap (entry_times k s) is ∙ entry_append k s front back in
      omega arith in (
        act.Eject k s ∷ [],
        (
          takes fs,
          0,
          0,
          (front, back, was, is, enough),
          ((lit< tt, here), (fs, l, refl, refl, covered_after k s fs covered l more)),
          (refl, refl),
          refl,
        ),
      )

-- an object is destroyed: its three places are cleared in turn
module _ (cs ws : List (Option SlotId)) (s : SlotId) where
  abbrev Dies : PlainSeat → Type 0
  Dies v = (v.left ≡ false) × (0 < times s v.dying) × (entry_times Disposal s v.snapshots ≡ 0)

  -- nobody is under a weak snapshot of it
  undisposed : (v : PlainSeat) (ys : List PlainSlot) → entry_times Disposal s v.snapshots ≡ 0 → snapshot_times Disposal (one v cs ws ys) s ≡ 0
  undisposed v ys none = one_sum (λ (w : PlainSeat). entry_times Disposal s w.snapshots) v ∙ none

  clear_first : (v : PlainSeat) (ys zs : List PlainSlot) (x : PlainSlot) → Dies v → get_or ys s.0 new_slot ≡ x
      → set ys s.0 (record x { first = None }) ≡ zs
      → Does (one v cs ws ys) 0 (act.Clear (Field s 0)) (word_of x.first)
      (one (record v { deferred = joined Strong x.first v.deferred }) cs ws zs)
  clear_first v ys zs x dies e f = (
    (lit< tt, dies.0),
    (
      (lit< tt, (dies.1, undisposed v ys dies.2)),
      ap (λ (y : PlainSlot). word_of y.first) (sym e),
      sym (ap (λ (y : PlainSlot). one (record v { deferred = joined Strong y.first v.deferred }) cs ws (set ys s.0 (record y { first = None }))) e
          ∙ ap (λ (l : List PlainSlot). one (record v { deferred = joined Strong x.first v.deferred }) cs ws l) f),
    ),
  )

  clear_second : (v : PlainSeat) (ys zs : List PlainSlot) (x : PlainSlot) → Dies v → get_or ys s.0 new_slot ≡ x
      → set ys s.0 (record x { second = None }) ≡ zs
      → Does (one v cs ws ys) 0 (act.Clear (Field s 1)) (word_of x.second)
      (one (record v { deferred = joined Strong x.second v.deferred }) cs ws zs)
  clear_second v ys zs x dies e f = (
    (lit< tt, dies.0),
    (
      (lit< tt, (dies.1, undisposed v ys dies.2)),
      ap (λ (y : PlainSlot). word_of y.second) (sym e),
      sym (ap (λ (y : PlainSlot). one (record v { deferred = joined Strong y.second v.deferred }) cs ws (set ys s.0 (record y { second = None }))) e
          ∙ ap (λ (l : List PlainSlot). one (record v { deferred = joined Strong x.second v.deferred }) cs ws l) f),
    ),
  )

  clear_weak : (v : PlainSeat) (ys zs : List PlainSlot) (x : PlainSlot) → Dies v → get_or ys s.0 new_slot ≡ x
      → set ys s.0 (record x { weak_field = None }) ≡ zs
      → Does (one v cs ws ys) 0 (act.Clear (WeakField s)) (word_of x.weak_field)
      (one (record v { deferred = joined Weak x.weak_field v.deferred }) cs ws zs)
  clear_weak v ys zs x dies e f = (
    (lit< tt, dies.0),
    (
      (dies.1, undisposed v ys dies.2),
      ap (λ (y : PlainSlot). word_of y.weak_field) (sym e),
      sym (ap (λ (y : PlainSlot). one (record v { deferred = joined Weak y.weak_field v.deferred }) cs ws (set ys s.0 (record y { weak_field = None }))) e
          ∙ ap (λ (l : List PlainSlot). one (record v { deferred = joined Weak x.weak_field v.deferred }) cs ws l) f),
    ),
  )

  abbrev nulled : PlainSlot → PlainSlot
  nulled x = record x { first = None; second = None; weak_field = None }

  destroy_last : (v : PlainSeat) (ys zs : List PlainSlot) (x : PlainSlot) (rest : List SlotId) → Dies v → Loses v.dying s rest
      → get_or ys s.0 new_slot ≡ nulled x → set ys s.0 (husk_of x) ≡ zs
      → Does (one v cs ws ys) 0 (act.Destroy s) 0 (one (record v { dying = rest }) cs ws zs)
  destroy_last v ys zs x rest dies l e f = (
    (lit< tt, dies.0),
    (
      (ap (λ (y : PlainSlot). y.first) e, ap (λ (y : PlainSlot). y.second) e, ap (λ (y : PlainSlot). y.weak_field) e),
      undisposed v ys dies.2,
      refl,
      (
        rest,
        l,
        sym (ap (λ (y : PlainSlot). one (record v { dying = rest }) cs ws (set ys s.0 (record y { stage = Husk }))) e
            ∙ ap (λ (zl : List PlainSlot). one (record v { dying = rest }) cs ws zl) f),
      ),
    ),
  )

  abbrev pub defers : PlainSlot → List Entry → List Entry
  defers x es = joined Weak x.weak_field (joined Strong x.second (joined Strong x.first es))

  abbrev pub destroyed : PlainSeat → List SlotId → List PlainSlot → Plain
  destroyed v rest xs =
      let x = get_or xs s.0 new_slot in
      one (record v { dying = rest; deferred = defers x v.deferred }) cs ws (set xs s.0 (husk_of x))

  pub destroyed_settles : (v : PlainSeat) (rest : List SlotId) (xs : List PlainSlot) → Dies v → Loses v.dying s rest → s.0 < length xs
      → Destroys (one v cs ws xs) (get_or xs s.0 new_slot).payload (destroyed v rest xs)
  destroyed_settles v rest xs dies l at weight =
      let x = get_or xs s.0 new_slot in
      let x1 : PlainSlot = record x { first = None } in
      let x2 : PlainSlot = record x { first = None; second = None } in
      let x3 = nulled x in
      let v1 : PlainSeat = record v { deferred = joined Strong x.first v.deferred } in
      let v2 : PlainSeat = record v { deferred = joined Strong x.second (joined Strong x.first v.deferred) } in
      let v3 : PlainSeat = record v { deferred = defers x v.deferred } in
      let e1 = get_or-set_same xs s.0 x1 new_slot at in
      let e2 = get_or-set_same xs s.0 x2 new_slot at in
      let e3 = get_or-set_same xs s.0 x3 new_slot at in (
        act.Clear (Field s 0) ∷ act.Clear (Field s 1) ∷ act.Clear (WeakField s) ∷ act.Destroy s ∷ [],
        (
          one v1 cs ws (set xs s.0 x1),
          word_of x.first,
          weight x.payload,
          tt,
          clear_first v xs (set xs s.0 x1) x dies refl refl,
          (
            one v2 cs ws (set xs s.0 x2),
            word_of x.second,
            weight x.payload,
            tt,
            clear_second v1 (set xs s.0 x1) (set xs s.0 x2) x1 dies e1 (set-set xs s.0 x1 x2),
            (
              one v3 cs ws (set xs s.0 x3),
              word_of x.weak_field,
              weight x.payload,
              tt,
              clear_weak v2 (set xs s.0 x2) (set xs s.0 x3) x2 dies e2 (set-set xs s.0 x2 x3),
              (
                destroyed v rest xs,
                0,
                0,
                tt,
                destroy_last v3 (set xs s.0 x3) (set xs s.0 (husk_of x)) x rest dies l e3 (set-set xs s.0 x3 (husk_of x)),
                (refl, refl),
                (let e : weight (get_or (set xs s.0 x3) s.0 new_slot).payload ≡ weight x.payload = ap (λ (y : PlainSlot). weight y.payload) e3 in omega arith),
              ),
              omega arith,
            ),
            omega arith,
          ),
          omega arith,
        ),
      )
