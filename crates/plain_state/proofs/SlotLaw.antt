-- Sound, slot by slot: the law of one slot speaks of ten numbers and of what the slot is.
use Rattle.std.proofs.Common.{◌≡◌, ◌≢◌, ◌⊎◌, inl, inr, ⊎_elim, ℕ, ◌+◌, ◌<◌, ◌≤◌, true, false, length, refl, ap, sym, ◌∙◌, arith}
use Rattle.std.specs.Prelude.{◌↔◌}
use Rattle.std.specs.List.{All}
use Rattle.plain_state.specs.declared.slot.Kind.TheVariants.{Strong, Weak, Disposal}
use Rattle.plain_state.specs.declared.slot.SlotId.{SlotId}
use Rattle.plain_state.specs.declared.slot.PlainSlot.{PlainSlot}
use Rattle.plain_state.specs.declared.slot.Stage.{Stage}
use Rattle.plain_state.specs.declared.slot.Stage.TheVariants.{Free, Blank, Live, Ended, Husk}
use Rattle.plain_state.specs.State.{Plain, slot_at}
use Rattle.plain_state.specs.References.{own_reference, places, deferrals, snapshot_times, dying_times}
use Rattle.plain_state.specs.Lawful.{IsVacant, HasNullFields, IsCovered}
use Rattle.plain_state.specs.Sound.{all_adds, Sound}
use Rattle.plain_state.proofs.Kit.{none_by}
use Rattle.plain_state.proofs.Changes.{owned_times, weak_times}

-- the sums of a state, at one slot
pub record Numbers : Type 0 where
  pub owned : ℕ
  pub weaks : ℕ
  pub strong_places : ℕ
  pub weak_places : ℕ
  pub strong_deferred : ℕ
  pub weak_deferred : ℕ
  pub strong_snapshots : ℕ
  pub weak_snapshots : ℕ
  pub disposal_snapshots : ℕ
  pub dying : ℕ
  pub adds : ℕ

abbrev pub numbers : Plain → SlotId → Numbers
numbers p s = record {
  owned = owned_times p s;
  weaks = weak_times p s;
  strong_places = places Strong p s;
  weak_places = places Weak p s;
  strong_deferred = deferrals Strong p s;
  weak_deferred = deferrals Weak p s;
  strong_snapshots = snapshot_times Strong p s;
  weak_snapshots = snapshot_times Weak p s;
  disposal_snapshots = snapshot_times Disposal p s;
  dying = dying_times p s;
  adds = all_adds p;
}

-- its strong references, and its weak ones but for its own
abbrev pub strong_sum : Numbers → ℕ
strong_sum m = m.owned + m.strong_places + m.strong_deferred

abbrev pub weak_sum : Numbers → ℕ
weak_sum m = m.weaks + m.weak_places + m.weak_deferred

pub record SlotLaw (m : Numbers) (x : PlainSlot) : Type 0 where
  pub strong_covered : 0 < m.strong_snapshots → 0 < m.strong_places + m.strong_deferred
  pub weak_covered : 0 < m.weak_snapshots → 0 < m.weak_places + m.weak_deferred
  pub disposal_covered : 0 < m.disposal_snapshots → (x.stage ≡ Live) ⊎ (x.stage ≡ Ended)
  pub strong : 0 < strong_sum m → (x.stage ≡ Live) × (x.marked ≡ false)
  pub weak : 0 < weak_sum m + own_reference x.stage → x.stage ≢ Free
  pub once : m.dying ≤ 1
  pub dying : (x.stage ≡ Ended) ↔ (0 < m.dying)
  pub nulls : IsVacant x → HasNullFields x
  pub marks : x.stage ≢ Live → x.marked ≡ true
  pub strong_few : strong_sum m ≤ m.adds
  pub weak_few : weak_sum m + own_reference x.stage ≤ m.adds + 1

abbrev pub EachSlot : Plain → Type 0
EachSlot p = (s : SlotId) → SlotLaw (numbers p s) (slot_at p s)

pub slot_law : (p : Plain) → Sound p → EachSlot p
slot_law p so s = record {
  strong_covered = so.lawful.covered Strong s;
  weak_covered = so.lawful.covered Weak s;
  disposal_covered = so.lawful.covered Disposal s;
  strong = so.lawful.strong s;
  weak = so.lawful.weak s;
  once = so.lawful.once s;
  dying = so.lawful.dying s;
  nulls = so.lawful.nulls s;
  marks = so.lawful.marks s;
  strong_few = so.strong_few s;
  weak_few = so.weak_few s;
}

covered_by : (p : Plain) → EachSlot p → IsCovered p
covered_by p each Strong s h = (each s).strong_covered h
covered_by p each Weak s h = (each s).weak_covered h
covered_by p each Disposal s h = (each s).disposal_covered h

pub sound_by : (p : Plain) → EachSlot p → All (λ x. length x.payload ≡ 16) p.slots → Sound p
sound_by p each payloads = record {
  lawful = record {
    covered = covered_by p each;
    strong = λ s. (each s).strong;
    weak = λ s. (each s).weak;
    once = λ s. (each s).once;
    dying = λ s. (each s).dying;
    marks = λ s. (each s).marks;
    nulls = λ s. (each s).nulls;
  };
  strong_few = λ s. (each s).strong_few;
  weak_few = λ s. (each s).weak_few;
  payloads = payloads;
}

-- No reference more, and no add less; what is under a snapshot stays covered
pub record NoMore (m n : Numbers) : Type 0 where
  pub strong : strong_sum n ≤ strong_sum m
  pub weak : weak_sum n ≤ weak_sum m
  pub adds : m.adds ≤ n.adds
  pub dying : n.dying ≡ m.dying
  pub disposal : n.disposal_snapshots ≤ m.disposal_snapshots
  pub strong_covered :
      (0 < m.strong_snapshots → 0 < m.strong_places + m.strong_deferred)
      → 0 < n.strong_snapshots → 0 < n.strong_places + n.strong_deferred
  pub weak_covered :
      (0 < m.weak_snapshots → 0 < m.weak_places + m.weak_deferred)
      → 0 < n.weak_snapshots → 0 < n.weak_places + n.weak_deferred

-- then the law stays, at a slot whose stage and mark stay
pub no_more : (m n : Numbers) (x y : PlainSlot) → SlotLaw m x → NoMore m n → y.stage ≡ x.stage
    → y.marked ≡ x.marked
    → (IsVacant y → HasNullFields y) → SlotLaw n y
no_more m n x y law less stage mark nulls =
    let own : own_reference y.stage ≡ own_reference x.stage = ap own_reference stage in
    record {
      strong_covered = less.strong_covered law.strong_covered;
      weak_covered = less.weak_covered law.weak_covered;
      disposal_covered = λ h.
          let d = less.disposal in
          ⊎_elim (λ e. inl (stage ∙ e)) (λ e. inr (stage ∙ e)) (law.disposal_covered (omega arith));
      strong = λ h. let l = law.strong (omega arith) in (stage ∙ l.0, mark ∙ l.1);
      weak = λ h e. law.weak (omega arith) (sym stage ∙ e);
      once = omega arith;
      dying = (
        λ e. let d = law.dying.0 (sym stage ∙ e) in omega arith,
        λ h. stage ∙ law.dying.1 (omega arith),
      );
      nulls = nulls;
      marks = λ other. mark ∙ law.marks (λ e. other (stage ∙ e));
      strong_few = omega arith;
      weak_few = omega arith;
    }

-- and at a slot that stays as it is
pub no_more_here : (m n : Numbers) (x : PlainSlot) → SlotLaw m x → NoMore m n → SlotLaw n x
no_more_here m n x law less = no_more m n x x law less refl refl law.nulls

-- an object that isn't marked is live
pub live_unmarked : (m : Numbers) (x : PlainSlot) → SlotLaw m x → x.marked ≡ false → x.stage ≡ Live
live_unmarked m x law mark = by_stage x.stage refl
  where
    other : x.stage ≢ Live → x.stage ≡ Live
    other ne = let t = law.marks ne in absurd (cc (t, mark))

    by_stage : (g : Stage) → x.stage ≡ g → x.stage ≡ Live
    by_stage Free e = other (λ f. absurd (cc (e, f)))
    by_stage Blank e = other (λ f. absurd (cc (e, f)))
    by_stage Live e = e
    by_stage Ended e = other (λ f. absurd (cc (e, f)))
    by_stage Husk e = other (λ f. absurd (cc (e, f)))

-- a slot that isn't live has no strong reference, and one that is free no weak one
pub none_strong : (m : Numbers) (x : PlainSlot) → SlotLaw m x → x.stage ≢ Live → strong_sum m ≡ 0
none_strong m x law ne = none_by (strong_sum m) (λ h. ne (law.strong h).0)

pub none_marked : (m : Numbers) (x : PlainSlot) → SlotLaw m x → x.marked ≡ true → strong_sum m ≡ 0
none_marked m x law mark = none_by (strong_sum m) (λ h. let l = (law.strong h).1 in cc (l, mark))

pub none_weak : (m : Numbers) (x : PlainSlot) → SlotLaw m x → x.stage ≡ Free → weak_sum m ≡ 0
none_weak m x law free = none_by (weak_sum m) (λ h. law.weak (omega arith) free)

-- a slot with no reference of a kind is under no snapshot of it
pub none_under : (m : Numbers) (x : PlainSlot) → SlotLaw m x → strong_sum m ≡ 0
    → m.strong_snapshots ≡ 0
none_under m x law none =
    none_by m.strong_snapshots (λ h. let c = law.strong_covered h in omega arith)

pub none_under_weak : (m : Numbers) (x : PlainSlot) → SlotLaw m x → weak_sum m ≡ 0
    → m.weak_snapshots ≡ 0
none_under_weak m x law none =
    none_by m.weak_snapshots (λ h. let c = law.weak_covered h in omega arith)

pub none_disposal : (m : Numbers) (x : PlainSlot) → SlotLaw m x → x.stage ≢ Live → x.stage ≢ Ended
    → m.disposal_snapshots ≡ 0
none_disposal m x law not_live not_ended =
    none_by m.disposal_snapshots (λ h. ⊎_elim not_live not_ended (law.disposal_covered h))

pub none_dying : (m : Numbers) (x : PlainSlot) → SlotLaw m x → x.stage ≢ Ended → m.dying ≡ 0
none_dying m x law ne = none_by m.dying (λ h. ne (law.dying.1 h))

-- one more strong reference to a live slot, by one more add
pub one_strong : (m n : Numbers) (x : PlainSlot) → SlotLaw m x → x.stage ≡ Live → x.marked ≡ false
    → n.owned ≤ m.owned + 1 → n.adds ≡ m.adds + 1 → NoMore m (record n { owned = m.owned })
    → SlotLaw n x
one_strong m n x law live mark more adds less =
    let rest = no_more_here m (record n { owned = m.owned }) x law less in
    record {
      strong_covered = rest.strong_covered;
      weak_covered = rest.weak_covered;
      disposal_covered = rest.disposal_covered;
      strong = λ h. (live, mark);
      weak = rest.weak;
      once = rest.once;
      dying = rest.dying;
      nulls = rest.nulls;
      marks = rest.marks;
      strong_few = let few = law.strong_few in let l = less.strong in omega arith;
      weak_few = rest.weak_few;
    }

-- one more weak reference to a slot that isn't free, by one more add
pub one_weak : (m n : Numbers) (x : PlainSlot) → SlotLaw m x → x.stage ≢ Free
    → n.weaks ≤ m.weaks + 1 → n.adds ≡ m.adds + 1 → NoMore m (record n { weaks = m.weaks })
    → SlotLaw n x
one_weak m n x law taken more adds less =
    let rest = no_more_here m (record n { weaks = m.weaks }) x law less in
    record {
      strong_covered = rest.strong_covered;
      weak_covered = rest.weak_covered;
      disposal_covered = rest.disposal_covered;
      strong = rest.strong;
      weak = λ h. taken;
      once = rest.once;
      dying = rest.dying;
      nulls = rest.nulls;
      marks = rest.marks;
      strong_few = rest.strong_few;
      weak_few = let few = law.weak_few in let l = less.weak in omega arith;
    }

-- one more weak snapshot of an object that isn't destroyed
pub one_disposal : (m n : Numbers) (x : PlainSlot) → SlotLaw m x
    → (x.stage ≡ Live) ⊎ (x.stage ≡ Ended)
    → NoMore m (record n { disposal_snapshots = m.disposal_snapshots }) → SlotLaw n x
one_disposal m n x law stands less =
    let rest = no_more_here m (record n { disposal_snapshots = m.disposal_snapshots }) x law less in
    record {
      strong_covered = rest.strong_covered;
      weak_covered = rest.weak_covered;
      disposal_covered = λ h. stands;
      strong = rest.strong;
      weak = rest.weak;
      once = rest.once;
      dying = rest.dying;
      nulls = rest.nulls;
      marks = rest.marks;
      strong_few = rest.strong_few;
      weak_few = rest.weak_few;
    }
