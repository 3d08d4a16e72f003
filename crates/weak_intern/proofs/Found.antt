-- A walk for a text, cell by cell, and where it ends.
use Rattle.std.proofs.Common.{◌≡◌, inr, ⊎_elim, ℕ, ◌++◌, ◌+◌, ◌%◌, ◌<◌, List, [], ◌∷◌, refl, sym, ap, subst, ◌∙◌, arith, Some, None}
use Rattle.std.specs.Prelude.{Bool, Err, Option, Result, ◌≤◌}
use Rattle.std.proofs.lemmas.Bool.{cases_lt}
use Rattle.atomic_weak.specs.plain_state.declared.act.EventPlace.TheVariants.{WeakCell}
use Rattle.atomic_weak.specs.plain_state.declared.slot.SlotId.{SlotId}
use Rattle.atomic_weak.specs.plain_state.Lists.{times}
use Rattle.atomic_weak.specs.core_events.declared.act.Act.TheVariants as act
use Rattle.atomic_weak.specs.core_events.declared.outcome.Outcome.{Outcome}
use Rattle.atomic_weak.specs.core_events.declared.view.CoreView.{CoreView}
use Rattle.atomic_weak.specs.core_events.Steps.{HasRoom}
use Rattle.atomic_weak.proofs.Below.core_law_Kit.{times_push}
use Rattle.atomic_weak.specs.acquire_retire.Calls.{Steps}
use Rattle.atomic_weak.specs.acquire_retire.Domains.{DomainState}
use Rattle.atomic_weak.specs.acquire_retire.Seats.{SeatState}
use Rattle.atomic_weak.specs.control_word.Resting.{IsAtRest}
use Rattle.atomic_weak.proofs.Below.control_word_Becoming.{knows_after, one_step, rest_after}
use Rattle.atomic_weak.specs.counted_handles.Handles.{Handle}
use Rattle.record_making.specs.directory_law.declared.view.View.{View}
use Rattle.record_making.specs.directory_law.Cells.{Area, on}
use Rattle.record_making.specs.directory_law.Law.{IsBound, NoneBound}
use Rattle.record_making.specs.directory_law.Lessons.{LookTells, look_next}
use Rattle.record_making.specs.directory_law.Lessons.{spent}
use Rattle.record_making.specs.directory_law.Payloads.{Text}
use Rattle.record_making.specs.directory_law.Places.{text_hash}
use Rattle.record_making.specs.directory_law.Walks.{FindsRoom, Passes, Walked}
use Rattle.weak_intern.specs.declared.looking.Sight.{Sight}
use Rattle.weak_intern.specs.declared.looking.Sight.TheVariants as sight
use Rattle.record_making.specs.directory_calls.Learning.{LearnsIn}
use Rattle.record_making.specs.directory_calls.Steps.{AtStep, Leaves, with_found}
use Rattle.weak_intern.specs.declared.walking.Walk.{Walk}
use Rattle.weak_intern.specs.declared.walking.Walk.TheVariants as walk
use Rattle.weak_intern.specs.Costs.{PassesBy, TakesBy}
use Rattle.weak_intern.specs.Walking.{ComesTo, EndsAround, FoundBy, Meets, met, taken, used_by, walked_by}
use Rattle.record_making.proofs.Below.directory_calls_Going.{at_step, from_earlier, holds_by, leaves_as, leaves_core, leaves_none, leaves_then, seat_same}
use Rattle.record_making.proofs.Below.directory_calls_Learnt.{passes_still, walked_still}
use Rattle.record_making.proofs.Below.directory_calls_Parts.{LearnsBy, Place, lifts, part_none, tells, zero_then}
use Rattle.weak_intern.proofs.Costs.{passes_either, passes_none}

-- A LAST LOOK
module _ {P V : Type 0} (fits : List ℕ → Type 0) (d : DomainState P) (l : Place V) (z : Area)
    (i : ℕ) (old new : SeatState V) (o : Outcome)
    (step : Steps fits d (lifts l look_next) (tells l (LookTells z)) (act.Look (WeakCell i))
    old new o)
  where
    pub around_ends : EndsAround l.seen d z old new
    around_ends text walked =
        at_step d (λ p. NoneBound z p text) step
        (step.told.happened.fact.2.1 text z.cells walked (inr (omega arith)))

    pub around_client : new.view.client ≡ old.view.client
    around_client = step.told.client ∙ l.puts_back old.view.client

    pub around_leaves : Leaves old.view.core.owned old.view.core.weaks old new
    around_leaves =
        leaves_core old new old.view.core _
        (one_step d (act.Look (WeakCell i)) old new o
        step.word old.view.core step (sym step.answers) refl refl).core
        refl
        (knows_after d (act.Look (WeakCell i)) old new o old.view.core step (λ s has. has)
        (λ w s x. refl))

    pub around_makes : new.view.core.makes ≡ old.view.core.makes
    around_makes =
        ap (λ (v : CoreView). v.makes) (one_step d (act.Look (WeakCell i)) old new o
        step.word old.view.core step (sym step.answers) refl refl).core

    pub around_adds : new.view.core.adds ≡ old.view.core.adds
    around_adds =
        ap (λ (v : CoreView). v.adds) (one_step d (act.Look (WeakCell i)) old new o
        step.word old.view.core step (sym step.answers) refl refl).core

    pub around_room : FindsRoom z (l.seen old.view.client)
    around_room = step.told.happened.fact.2.2

    pub around_rest : IsAtRest d old → IsAtRest d new
    around_rest rest =
        rest_after d _ old.view.core old new
        (one_step d (act.Look (WeakCell i)) old new o
        step.word old.view.core step (sym step.answers) refl refl)
        refl rest

-- THE WALK has passed n cells
pub record Walks {P V : Type 0} (d : DomainState P) (seen : V → View) (with_seen : V → View → V)
    (z : Area) (text : Text) (payload : List ℕ) (short : Type 0) (n : ℕ) (old now : SeatState V)
    : Type 0 where
  pub walked : Walked z (seen now.view.client) text n
  pub leaves : Leaves old.view.core.owned old.view.core.weaks old now
  pub learns : LearnsIn seen with_seen 0 old.view.client now.view.client
  pub room : HasRoom now.view.core
  pub rest : IsAtRest d now
  pub makes : now.view.core.makes ≡ old.view.core.makes
  pub adds : now.view.core.adds ≤ old.view.core.adds + n
  pub costs : short → PassesBy payload old.view.core now.view.core

module _ {P V : Type 0} (d : DomainState P) (l : Place V) (z : Area) (text : Text)
    (payload : List ℕ) (short : Type 0) (a : SeatState V) where
  pub walks_none : IsAtRest d a → HasRoom a.view.core
      → Walks d l.seen l.with_seen z text payload short 0 a a
  walks_none rest room = record {
    walked = λ j low. absurd (omega (arith, low));
    leaves = leaves_none a;
    learns = part_none l a.view.client;
    room = room;
    rest = rest;
    makes = refl;
    adds = omega arith;
    costs = λ is. passes_none payload a.view.core;
  }

  module _ (n : ℕ) (b c : SeatState V) (walks : Walks d l.seen l.with_seen z text payload short n a b) where
    pub walk_leaves : (o : Option SlotId)
        → Leaves (with_found o b.view.core.owned) b.view.core.weaks b c
        → Leaves (with_found o a.view.core.owned) a.view.core.weaks a c
    walk_leaves o second =
        let first = walks.leaves in
        leaves_as (with_found o a.view.core.owned) a.view.core.weaks a c
        (leaves_then a b c first second
        (λ x was is. let l = first.owns x in let m = first.weakly x in
        holds_by x a.view.core b.view.core (sym first.same) (omega arith) was))
        (λ x. go o x)
        first.weakly
      where
        go : (f : Option SlotId) (x : SlotId)
            → times x (with_found f b.view.core.owned) ≡ times x (with_found f a.view.core.owned)
        go None x = walks.leaves.owns x
        go (Some y) x =
            let l = walks.leaves.owns x in let p = times_push x y a.view.core.owned in
            let q = times_push x y b.view.core.owned in
            omega arith

    pub walk_learns : (k : ℕ) → LearnsBy l k b.view.client c.view.client
        → LearnsBy l k a.view.client c.view.client
    walk_learns k more =
        zero_then l k a.view.client b.view.client c.view.client walks.learns more

    pub one_passed : (cell : ℕ) → on z text n ≡ cell
        → Passes (l.seen c.view.client) text cell
        → Leaves b.view.core.owned b.view.core.weaks b c
        → LearnsBy l 0 b.view.client c.view.client
        → HasRoom c.view.core → IsAtRest d c
        → c.view.core.makes ≡ b.view.core.makes
        → c.view.core.adds ≤ b.view.core.adds + 1
        → (short → PassesBy payload a.view.core c.view.core)
        → Walks d l.seen l.with_seen z text payload short (n + 1) a c
    one_passed cell at passes second more room rest makes adds costs = record {
      walked = λ j low. ⊎_elim
          (λ less. passes_still 0 (l.seen b.view.client) (l.seen c.view.client) text
          (on z text j) more.part (walks.walked j less))
          (λ past. let e : n ≡ j = omega (arith, low, past) in
          subst (λ k. Passes (l.seen c.view.client) text (on z text k)) e
          (subst (λ k. Passes (l.seen c.view.client) text k) (sym at) passes))
          (cases_lt j n);
      leaves = walk_leaves None second;
      learns = walk_learns 0 more;
      room = room;
      rest = rest;
      makes = makes ∙ walks.makes;
      adds = let was = walks.adds in omega (arith, was, adds);
      costs = costs;
    }

    -- WHERE IT ENDS
    pub walk_none : AtStep d (λ p. NoneBound z p text) b c
        → AtStep d (λ p. NoneBound z p text) a c
    walk_none at =
        from_earlier d (λ p. NoneBound z p text) a b c (seat_same a b walks.leaves.same)
        walks.leaves.goes at

    pub null_found : (intern : Bool) (cell : ℕ) (found : Sight) → found ≡ sight.Null
        → on z text n ≡ cell → Meets l.seen d z cell text found b c
        → LearnsBy l (taken intern found) b.view.client c.view.client → n < z.cells
        → ComesTo l.seen d z text (walk.Absent n) a c × LearnsBy l 0 a.view.client c.view.client
    null_found intern cell found null at meets more low =
        let learns = subst (λ f. LearnsBy l (taken intern f) b.view.client c.view.client) null more
        in (
          (
            walk_none (subst (λ f. Meets l.seen d z cell text f b c) null meets text n
                walks.walked at),
            low,
            walked_still 0 z (l.seen b.view.client) (l.seen c.view.client) text n learns.part
                walks.walked,
          ),
          walk_learns 0 learns,
        )

    pub record_found : (intern : Bool) (cell : ℕ) (found : Sight) (strong : Handle)
        → found ≡ sight.Record strong → Meets l.seen d z cell text found b c
        → LearnsBy l (taken intern found) b.view.client c.view.client
        → ComesTo l.seen d z text (walk.Record strong) a c
        × LearnsBy l (spent intern) a.view.client c.view.client
    record_found intern cell found strong same meets more =
        let is = subst (λ f. Meets l.seen d z cell text f b c) same meets in (
          (
            from_earlier d (λ p. IsBound z p text strong.slot) a b c
                (seat_same a b walks.leaves.same) walks.leaves.goes is.0,
            is.1,
          ),
          walk_learns (spent intern)
              (subst (λ f. LearnsBy l (taken intern f) b.view.client c.view.client) same more),
        )

    pub refused_learns : {E : Type 0} (intern : Bool) (r : Result Walk E) (e : E) → r ≡ Err e
        → LearnsBy l 0 b.view.client c.view.client
        → LearnsBy l (used_by intern r) a.view.client c.view.client
    refused_learns intern r e refused more =
        subst (λ x. LearnsBy l (used_by intern x) a.view.client c.view.client) (sym refused)
        (walk_learns 0 more)

    pub refused_leaves : {E : Type 0} (r : Result Walk E) (e : E) → r ≡ Err e
        → Leaves b.view.core.owned b.view.core.weaks b c
        → Leaves (with_found (walked_by r) a.view.core.owned) a.view.core.weaks a c
    refused_leaves r e refused second =
        subst (λ x. Leaves (with_found (walked_by x) a.view.core.owned) a.view.core.weaks a c)
        (sym refused) (walk_leaves None second)

    pub null_leaves : (found : Sight) → found ≡ sight.Null
        → Leaves (with_found (met found) b.view.core.owned) b.view.core.weaks b c
        → Leaves a.view.core.owned a.view.core.weaks a c
    null_leaves found same second =
        walk_leaves None
        (subst (λ f. Leaves (with_found (met f) b.view.core.owned) b.view.core.weaks b c) same
        second)

    pub record_leaves : (found : Sight) (strong : Handle) → found ≡ sight.Record strong
        → Leaves (with_found (met found) b.view.core.owned) b.view.core.weaks b c
        → Leaves (a.view.core.owned ++ strong.slot ∷ []) a.view.core.weaks a c
    record_leaves found strong same second =
        walk_leaves (Some strong.slot)
        (subst (λ f. Leaves (with_found (met f) b.view.core.owned) b.view.core.weaks b c) same
        second)

    pub other_passed : (intern : Bool) (cell : ℕ) (found : Sight)
        → found ≡ sight.Other
        → on z text n ≡ cell → Meets l.seen d z cell text found b c
        → Leaves (with_found (met found) b.view.core.owned) b.view.core.weaks b c
        → LearnsBy l (taken intern found) b.view.client c.view.client
        → HasRoom c.view.core → IsAtRest d c
        → c.view.core.makes ≡ b.view.core.makes
        → c.view.core.adds ≤ b.view.core.adds + 1 → (i : ℕ)
        → (short → FoundBy i payload found b.view.core c.view.core)
        → Walks d l.seen l.with_seen z text payload short (n + 1) a c
    other_passed intern cell found other at meets second more room rest makes adds i looks =
        one_passed cell at (subst (λ f. Meets l.seen d z cell text f b c) other meets)
        (subst (λ f. Leaves (with_found (met f) b.view.core.owned) b.view.core.weaks b c) other
        second)
        (subst (λ f. LearnsBy l (taken intern f) b.view.client c.view.client) other more)
        room rest makes adds
        (λ is. let by = subst (λ f. FoundBy i payload f b.view.core c.view.core) other
        (looks is) in
        passes_either payload a.view.core b.view.core c.view.core i by.0 (walks.costs is) by.1)

    -- what the record cost
    pub record_costs : (i : ℕ) (found : Sight) (strong : Handle)
        → found ≡ sight.Record strong
        → (short → FoundBy i payload found b.view.core c.view.core)
        → short → TakesBy payload strong.slot a.view.core c.view.core
    record_costs i found strong same looks is = (
      b.view.core,
      walks.costs is,
      i,
      subst (λ f. FoundBy i payload f b.view.core c.view.core) same (looks is),
    )

    -- the walk has passed all cells
    pub around_found : z.cells ≤ n → 0 < z.cells → EndsAround l.seen d z b c
        → ComesTo l.seen d z text (walk.Absent 0) a c
    around_found all some ends = (
      walk_none (ends text (λ j low. walks.walked j (omega (arith, low, all)))),
      some,
      λ j low. absurd (omega (arith, low)),
    )

-- the cell at which a walk for this text looks next
pub at_cell : (z : Area) (text : Text) (hash k cells cell : ℕ)
    → text_hash text ≡ hash → cells ≡ z.cells → cell ≡ (hash + k) % cells
    → on z text k ≡ cell
at_cell z text hash k cells cell hashes same there =
    ap (λ h. (h + k) % z.cells) hashes ∙ (ap (λ n. (hash + k) % n) (sym same) ∙ sym there)
