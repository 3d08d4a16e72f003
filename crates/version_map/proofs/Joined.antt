-- The parts of an update, one after another: what the seat owns in between, and what the whole has done.
use Rattle.std.proofs.Common.{◌≡◌, inl, inr, ℕ, ◌+◌, ◌*◌, ◌≤◌, ◌<◌, ◌^◌, refl, ap, sym, ◌∙◌, subst, arith}
use Rattle.std.specs.Prelude.{Err, IfErr, IfOk, Ok, Option, Result}
use Rattle.version_making.specs.map_law.plain_state.declared.act.EventPlace.TheVariants.{Cell}
use Rattle.version_making.specs.map_law.plain_state.declared.slot.SlotId.{SlotId}
use Rattle.version_making.specs.map_law.plain_state.Lists.{times}
use Rattle.version_changes.specs.map_trees.declared.change.Change.{Change}
use Rattle.version_making.specs.map_law.declared.view.Kid.{Kid}
use Rattle.version_making.specs.map_law.declared.view.View.{View}
use Rattle.version_making.specs.map_law.plain_state.Steps.{word_of}
use Rattle.version_making.specs.map_law.Nodes.{IsNode}
use Rattle.version_making.specs.map_law.Lessons.{answer_next, see_next}
use Rattle.version_making.specs.map_law.Patterns.{Pattern, Spells}
use Rattle.version_making.specs.map_protocol.declared.law.MapLaw.{MapLaw}
use Rattle.version_making.specs.slot_store.core_events.declared.act.Act.TheVariants as act
use Rattle.version_making.specs.slot_store.core_events.declared.outcome.Outcome.TheVariants as outcome
use Rattle.version_making.specs.slot_store.core_events.declared.view.CoreView.{CoreView}
use Rattle.version_making.specs.slot_store.acquire_retire.Domains.{DomainState}
use Rattle.version_making.specs.slot_store.acquire_retire.Seats.{SeatState}
use Rattle.version_making.specs.slot_store.counted_handles.Handles.{Handle}
use Rattle.version_making.specs.slot_store.control_word.Resting.{IsSpent}
use Rattle.version_making.specs.slot_store.declared.making.MakeError.{MakeError}
use Rattle.version_making.specs.slot_store.declared.making.MakeError.TheVariants as refused
use Rattle.version_making.specs.atomic_shared.protected_loads.References.{Loads}
use Rattle.version_making.specs.atomic_shared.Places.{named}
use Rattle.version_making.specs.Building.{IsWhy, height_by}
use Rattle.version_making.specs.Keeping.{Keeps, none, of_both, of_handle}
use Rattle.version_making.specs.Standing.{IsTree, kid_by}
use Rattle.version_making.proofs.Dropped.{why_on}
use Rattle.version_making.proofs.Keeping.{goes_none, keeps_most, keeps_none, keeps_then}
use Rattle.version_making.proofs.Standing.{height_still, kid_still, spells_on, tree_still}
use Rattle.version_changes.specs.Changing.{IsChanged, IsRefusal}
use Rattle.version_changes.specs.Keeping.{of_changed}
use Rattle.version_changes.specs.declared.outcome.Changed.{Changed}
use Rattle.version_changes.specs.declared.outcome.ChangeError.{ChangeError}
use Rattle.version_changes.specs.declared.outcome.ChangeError.TheVariants as error
use Rattle.version_updates.specs.Longest.{StillTells}
use Rattle.version_updates.specs.Looking.{IsMoved, IsStill}
use Rattle.version_updates.specs.Publishing.{but_for}
use Rattle.version_updates.specs.declared.update.Lost.{Lost}
use Rattle.version_updates.proofs.Beside.{keeps_all_but}
use Rattle.version_updates.specs.Roots.{LowTells}
use Rattle.version_map.specs.Updating.{HasAltered, IsDone, IsRefused, IsStopped, IsUndone, Leaves, Saw}
use Rattle.version_map.specs.declared.outcome.UpdateError.{UpdateError}
use Rattle.version_map.specs.declared.outcome.UpdateError.TheVariants as stop
use Rattle.version_map.proofs.Altered.{but_for_same, done_before}
use Rattle.version_map.proofs.Updates.{step_within}

-- BOTH ROOTS are given up, with a look in between
module _ (root tree : Option Handle) (s0 s1 s2 s3 : SeatState View)
    (owned : (x : SlotId) → of_both root tree x ≤ times x s0.view.core.owned)
    (k1 : Keeps 0 0 (of_handle tree) none s0 s1) where
  pub owned_tree : (x : SlotId) → of_handle tree x ≤ times x s0.view.core.owned
  owned_tree x = let o = owned x in omega (arith, o)

  pub owned_root : (x : SlotId) → of_handle root x ≤ times x s1.view.core.owned
  owned_root x = let o = owned x in let p = k1.owns x in omega (arith, o, p)

  module _ (k2 : Keeps 0 0 none none s1 s2) where
    pub root_owned : (x : SlotId) → of_handle root x ≤ times x s2.view.core.owned
    root_owned x = let o = owned_root x in let p = k2.owns x in omega (arith, o, p)

    module _ (k3 : Keeps 0 0 (of_handle root) none s2 s3) where
      pub left_keeps : Keeps 0 0 (of_both root tree) none s0 s3
      left_keeps =
          keeps_then 0 0 0 0 (of_handle tree) none (of_handle root) none (of_both root tree) none
          s0 s2 s3
          (keeps_then 0 0 0 0 (of_handle tree) none none none (of_handle tree) none s0 s1 s2 k1 k2
          (λ x. (omega arith, omega arith, omega arith)))
          k3 (λ x. (omega arith, omega arith, omega arith))

      module _ (d : DomainState MapLaw) (c : ℕ) where
        spells_still : (pat : Pattern) → Spells s0.view.client (kid_by root s0) pat
            → Spells s1.view.client (kid_by root s1) pat
        spells_still pat spells =
            subst (λ (k : Option Kid). Spells s1.view.client k pat)
            (sym (kid_still 0 0 (of_handle tree) none s0 s1 k1 root
            (λ x. let o = owned x in omega (arith, o))))
            (spells_on s0.view.client s1.view.client k1.grows (kid_by root s0) pat spells)

        pub left_still : IsStill d c root s1 s2 → IsStill d c root s0 s3
        left_still still =
            step_within d answer_next (StillTells d.protocol.cell) (act.Look (Cell c))
            (outcome.Found (named root)) _ s1 s2 still _ s0 s3 k1.goes k3.goes
            (λ p q holds. (holds.0, λ pat spells. holds.1 pat (spells_still pat spells)))

        pub left_moved : (lost : Lost) → IsMoved d c root lost s1 s2 → IsMoved d c root lost s0 s3
        left_moved lost m = record {
          found = m.found;
          seen = m.seen;
          now = m.now;
          differ = m.differ;
          look = step_within d answer_next (StillTells d.protocol.cell) (act.Look (Cell c))
              (outcome.Found m.found) _ s1 s2 m.look _ s0 s3 k1.goes k3.goes (λ p q holds. holds);
        }

        pub left_stills : (r : Result (Unit {0}) Lost) → IfOk r (λ done. IsStill d c root s1 s2)
            → IfOk r (λ done. IsStill d c root s0 s3)
        left_stills (Ok done) still = left_still still
        left_stills (Err lost) still = tt

        pub left_moves : (r : Result (Unit {0}) Lost)
            → IfErr r (λ lost. IsMoved d c root lost s1 s2)
            → IfErr r (λ lost. IsMoved d c root lost s0 s3)
        left_moves (Ok done) moved = tt
        left_moves (Err lost) moved = left_moved lost moved

-- A COPY of a root is changed
module _ (root copy : Option Handle) (levels : ℕ) (s0 s1 s2 : SeatState View)
    (owned : (x : SlotId) → of_handle root x ≤ times x s0.view.core.owned)
    (high : levels ≡ height_by root s0) (same : copy ≡ root) (k1 : Keeps 0 0 none none s0 s1)
    (k2 : Keeps 0 1 none (of_handle copy) s1 s2) where
  copied : Keeps 0 1 none (of_handle copy) s0 s2
  copied =
      keeps_then 0 0 0 1 none none none (of_handle copy) none (of_handle copy) s0 s1 s2 k1 k2
      (λ x. (omega arith, omega arith, omega arith))

  pub copy_owned : (x : SlotId) → of_handle copy x ≤ times x s2.view.core.owned
  copy_owned x = let o = copied.owns x in omega (arith, o)

  pub copy_tree : IsTree root s0 → IsTree copy s2
  copy_tree tree =
      subst (λ (h : Option Handle). IsTree h s2) (sym same)
      (tree_still 0 1 none (of_handle copy) s0 s2 copied root (λ x. let o = owned x in omega (arith, o)) tree)

  kid_same : kid_by copy s2 ≡ kid_by root s0
  kid_same =
      ap (λ (h : Option Handle). kid_by h s2) same
      ∙ kid_still 0 1 none (of_handle copy) s0 s2 copied root (λ x. let o = owned x in omega (arith, o))

  module _ (s3 : SeatState View) (gained : SlotId → ℕ)
      (k3 : Keeps (levels * 3 + 1) (levels * 15 + 1) (of_handle copy) gained s2 s3) where
    pub copy_keeps : Keeps (height_by root s0 * 3 + 1) (height_by root s0 * 15 + 2) none gained s0 s3
    copy_keeps =
        subst (λ (n : ℕ). Keeps (n * 3 + 1) (n * 15 + 2) none gained s0 s3) high
        (keeps_most (0 + (levels * 3 + 1)) (1 + (levels * 15 + 1)) (levels * 3 + 1) (levels * 15 + 2)
        none gained s0 s3 (omega arith) (omega arith)
        (keeps_then 0 1 (levels * 3 + 1) (levels * 15 + 1) none (of_handle copy) (of_handle copy)
        gained none gained s0 s2 s3 copied k3 (λ x. (omega arith, omega arith, omega arith))))

    pub copy_changed : (tree : Option Handle) (key : ℕ) (change : Change) (answer : Option ℕ)
        → IsChanged copy tree key change answer s2 s3 → IsChanged root tree key change answer s0 s3
    copy_changed tree key change answer changed = record {
      before = changed.before;
      after = changed.after;
      spells = subst (λ (k : Option Kid). Spells s3.view.client k changed.before) kid_same
          changed.spells;
      stands = changed.stands;
      alters = changed.alters;
    }

    pub copy_why : (d : DomainState MapLaw) (why : ChangeError) → IsRefusal d why copy levels s2 s3
        → IsRefusal d why root (height_by root s0) s0 s3
    copy_why d (error.Refused why) is =
        why_on d why none none s0 s2 s3 s3 copied.goes (keeps_none s3) is
    copy_why d error.TooLong is = record {
      pattern = is.pattern;
      spells = subst (λ (k : Option Kid). Spells s3.view.client k is.pattern) kid_same is.spells;
      longer = let l = is.longer in omega (arith, l, high);
    }

  module _ (s3 : SeatState View) (r : Result Changed ChangeError)
      (k3 : Keeps (levels * 3 + 1) (levels * 15 + 1) (of_handle copy) (of_changed r) s2 s3) where
    pub copies_changed : (key : ℕ) (change : Change)
        → IfOk r (λ changed. IsChanged copy changed.tree key change changed.answer s2 s3)
        → IfOk r (λ changed. IsChanged root changed.tree key change changed.answer s0 s3)
    copies_changed key change is = go r is
      where
        go : (o : Result Changed ChangeError)
            → IfOk o (λ changed. IsChanged copy changed.tree key change changed.answer s2 s3)
            → IfOk o (λ changed. IsChanged root changed.tree key change changed.answer s0 s3)
        go (Ok changed) is =
            copy_changed s3 (of_changed r) k3 changed.tree key change changed.answer is
        go (Err why) is = tt

    pub copies_why : (d : DomainState MapLaw) → IfErr r (λ why. IsRefusal d why copy levels s2 s3)
        → IfErr r (λ why. IsRefusal d why root (height_by root s0) s0 s3)
    copies_why d is = go r is
      where
        go : (o : Result Changed ChangeError) → IfErr o (λ why. IsRefusal d why copy levels s2 s3)
            → IfErr o (λ why. IsRefusal d why root (height_by root s0) s0 s3)
        go (Ok changed) is = tt
        go (Err why) is = copy_why s3 (of_changed r) k3 d why is

-- A VERSION was changed
module _ (root tree : Option Handle) (h : ℕ) (s0 s1 : SeatState View)
    (owned : (x : SlotId) → of_handle root x ≤ times x s0.view.core.owned)
    (k1 : Keeps (h * 3 + 1) (h * 15 + 2) none (of_handle tree) s0 s1) where
  pub same_kid : kid_by root s1 ≡ kid_by root s0
  same_kid = kid_still (h * 3 + 1) (h * 15 + 2) none (of_handle tree) s0 s1 k1 root (λ x. let o = owned x in omega (arith, o))

  pub owns_roots : (x : SlotId) → of_both root tree x ≤ times x s1.view.core.owned
  owns_roots x = let o = owned x in let p = k1.owns x in omega (arith, o, p)

  pub has_altered : (key : ℕ) (change : Change) (answer : Option ℕ) → height_by root s0 < 2 ^ 62
      → IsChanged root tree key change answer s0 s1
      → HasAltered root tree (record { key = key; change = change; answer = answer }) s1
  has_altered key change answer low changed = record {
    old_pattern = changed.before;
    new_pattern = changed.after;
    spells = subst (λ (k : Option Kid). Spells s1.view.client k changed.before) (sym same_kid)
        changed.spells;
    stands = changed.stands;
    altered = λ t f s l. let x = changed.alters t f s l in (x.fits, x.altered, x.answered);
    low = subst (λ (n : ℕ). n < 2 ^ 62)
        (sym (height_still (h * 3 + 1) (h * 15 + 2) none (of_handle tree) s0 s1 k1 root
        (λ x. let o = owned x in omega (arith, o)))) low;
  }

  pub version_keeps : (s2 : SeatState View)
      → Keeps 0 0 (of_both root tree) none s1 (but_for s1.view.client s2)
      → Keeps (h * 3 + 1) (h * 15 + 2) (of_handle root) none s0 (but_for s0.view.client s2)
  version_keeps s2 k2 =
      subst (λ (s : SeatState View). Keeps (h * 3 + 1) (h * 15 + 2) (of_handle root) none s0 s)
      (but_for_same s0.view.client s1.view.client s2 k1.grows.entries k1.grows.cleared)
      (keeps_most (h * 3 + 1 + 0) (h * 15 + 2 + 0) (h * 3 + 1) (h * 15 + 2) (of_handle root) none s0
      (but_for s1.view.client s2) (omega arith) (omega arith)
      (keeps_then (h * 3 + 1) (h * 15 + 2) 0 0 none (of_handle tree) (of_both root tree) none
      (of_handle root) none s0 s1 (but_for s1.view.client s2) k1 k2
      (λ x. (omega arith, omega arith, omega arith))))

  -- or was given up
  pub given_keeps : (s2 : SeatState View) → Keeps 0 0 (of_both root tree) none s1 s2
      → Keeps (h * 3 + 1) (h * 15 + 2) (of_handle root) none s0 (but_for s0.view.client s2)
  given_keeps s2 k2 =
      version_keeps s2 (keeps_all_but 0 0 (of_both root tree) none s1 s2 k2)

-- A change was REFUSED, and the root given up
pub refused_keeps : (root : Option Handle) (m n : ℕ) (s0 s1 s2 : SeatState View)
    → Keeps m n none none s0 s1 → Keeps 0 0 (of_handle root) none s1 s2
    → Keeps m n (of_handle root) none s0 (but_for s0.view.client s2)
refused_keeps root m n s0 s1 s2 k1 k2 =
    keeps_all_but m n (of_handle root) none s0 s2
    (keeps_most (m + 0) (n + 0) m n (of_handle root) none s0 s2 (omega arith) (omega arith)
    (keeps_then m n 0 0 none none (of_handle root) none (of_handle root) none s0 s1 s2 k1 k2
    (λ x. (omega arith, omega arith, omega arith))))

pub refused_why : (d : DomainState MapLaw) (why : MakeError) (root : Option Handle) (m n : ℕ)
    (s0 s1 s2 : SeatState View) → Keeps m n none none s0 s1 → Keeps 0 0 (of_handle root) none s1 s2
    → IsWhy d why s0 s1 → IsRefused d why s0 s2
refused_why d why root m n s0 s1 s2 k1 k2 is = record {
  cause = why_on d why (of_handle root) none s0 s0 s1 s2
      (goes_none s0.view.core s0.view.core refl) k2 is;
  entries = k2.grows.entries ∙ k1.grows.entries;
}

-- A LOAD, and the update of the version that was loaded
module _ (root : Option Handle) (s0 s1 s2 : SeatState View)
    (k0 : Keeps 0 1 none (of_handle root) s0 s1) where
  pub load_owned : (x : SlotId) → of_handle root x ≤ times x s1.view.core.owned
  load_owned x = let o = k0.owns x in omega (arith, o)

  pub load_leaves : (d : DomainState MapLaw) (c : ℕ)
      → Loads IsNode d (Cell c) see_next (LowTells d.protocol.cell) (named root) s0 s1
      → Keeps (height_by root s1 * 3 + 1) (height_by root s1 * 15 + 2) (of_handle root) none s1
      (but_for s1.view.client s2) → Leaves d c s0 s2
  load_leaves d c loads k = record {
    height = height_by root s1;
    loaded = inr (record { handle = root; mid = s1; loads = loads; high = refl; goes = k.goes });
    keeps = let h = height_by root s1 in
        subst (λ (s : SeatState View). Keeps (h * 3 + 1) (h * 15 + 3) none none s0 s)
        (but_for_same s0.view.client s1.view.client s2 k0.grows.entries k0.grows.cleared)
        (keeps_most (0 + (h * 3 + 1)) (1 + (h * 15 + 2)) (h * 3 + 1) (h * 15 + 3) none none s0
        (but_for s1.view.client s2) (omega arith) (omega arith)
        (keeps_then 0 1 (h * 3 + 1) (h * 15 + 2) none (of_handle root) (of_handle root) none none
        none s0 s1 (but_for s1.view.client s2) k0 k (λ x. (omega arith, omega arith, omega arith))));
  }

  module _ (d : DomainState MapLaw) (c : ℕ) where
    pub load_dones : (key : ℕ) (change : Change) (r : Result (Option ℕ) UpdateError)
        → IfOk r (λ answer. IsDone d c key change answer s1 s2)
        → IfOk r (λ answer. IsDone d c key change answer s0 s2)
    load_dones key change (Ok answer) done =
        done_before s0 s1 s2 k0.goes k0.grows d c key change answer done
    load_dones key change (Err e) done = tt

    load_undone : Saw c (word_of (named root)) s0.view.core.trail s1.view.core.trail
        → (e : UpdateError) → IsStopped d c (named root) e s1 s2 → IsUndone d c e s0 s2
    load_undone saw (stop.Again seen now) another = record {
      differ = another.differ;
      middle = s1.view.core.trail;
      saw = subst (λ (w : ℕ). Saw c w s0.view.core.trail s1.view.core.trail) (sym another.is) saw;
      sees = another.sees;
      entries = another.entries ∙ k0.grows.entries;
    }
    load_undone saw (stop.Refused why) refused = record {
      cause = why_on d why none none s0 s1 s2 s2 k0.goes (keeps_none s2) refused.cause;
      entries = refused.entries ∙ k0.grows.entries;
    }

    pub load_undones : Saw c (word_of (named root)) s0.view.core.trail s1.view.core.trail
        → (r : Result (Option ℕ) UpdateError)
        → IfErr r (λ e. IsStopped d c (named root) e s1 s2) → IfErr r (λ e. IsUndone d c e s0 s2)
    load_undones saw (Ok answer) stopped = tt
    load_undones saw (Err e) stopped = load_undone saw e stopped

-- A LOAD that was refused
module _ (d : DomainState MapLaw) (c : ℕ) (s0 s1 : SeatState View)
    (k0 : Keeps 0 1 none none s0 s1) where
  pub none_leaves : Leaves d c s0 s1
  none_leaves = record {
    height = 0;
    loaded = inl refl;
    keeps = keeps_all_but 1 3 none none s0 s1
        (keeps_most 0 1 1 3 none none s0 s1 (omega arith) (omega arith) k0);
  }

  pub load_spent : (left : ℕ) → left + s1.view.core.adds ≡ s1.view.core.quota.adds
      → IsSpent s0.view.core → IsRefused d refused.AddsSpent s0 s1
  load_spent left most is = record {
    cause = let m = k0.adds_used in
        let same : s1.view.core.quota.adds ≡ s0.view.core.quota.adds =
        ap (λ (v : CoreView). v.quota.adds) k0.same in
        omega (arith, m.0, same, is, most);
    entries = k0.grows.entries;
  }
