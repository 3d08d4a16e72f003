-- A record is put into the first null cell of its walk, or another one is found before that.
use Rattle.std.proofs.Common.{◌≡◌, inl, inr, ⊎_elim, ℕ, ◌+◌, ◌<◌, ◌≤◌, [], ◌∷◌, ◌++◌, true, refl, sym, ap, subst, ◌∙◌, arith, Some, None}
use Rattle.std.specs.Prelude.{Bool, false, Err, Option, Result}
use Rattle.std.proofs.lemmas.Bool.{cases_lt}
use Rattle.atomic_weak.specs.plain_state.declared.slot.SlotId.{SlotId}
use Rattle.atomic_weak.specs.plain_state.Lists.{times}
use Rattle.atomic_weak.specs.plain_protocol.Owns.{Object}
use Rattle.atomic_weak.specs.core_events.declared.view.CoreView.{CoreView}
use Rattle.atomic_weak.specs.core_events.Steps.{HasRoom}
use Rattle.atomic_weak.proofs.Below.core_law_Kit.{times_push}
use Rattle.atomic_weak.specs.domain_rule.Views.{object_in}
use Rattle.atomic_weak.specs.acquire_retire.Domains.{DomainState}
use Rattle.atomic_weak.specs.acquire_retire.Seats.{SeatState}
use Rattle.atomic_weak.specs.control_word.Resting.{IsAtRest, IsSpent}
use Rattle.atomic_weak.specs.counted_handles.Handles.{Handle}
use Rattle.record_making.specs.directory_law.declared.view.Rope.{Rope}
use Rattle.record_making.specs.directory_law.declared.view.View.{View}
use Rattle.record_making.specs.directory_law.Cells.{Area, on}
use Rattle.record_making.specs.directory_law.Law.{IsBound}
use Rattle.record_making.specs.directory_law.Making.{bound}
use Rattle.record_making.specs.directory_law.Views.{In, rope}
use Rattle.record_making.specs.directory_law.Walks.{Passes, Walked}
use Rattle.weak_intern.specs.declared.looking.Sight.{Sight}
use Rattle.weak_intern.specs.declared.looking.Sight.TheVariants as sight
use Rattle.record_making.specs.directory_calls.Directories.{CanCount}
use Rattle.weak_intern.specs.Interning.{Binds, ComesBy, Grows, GrowsIn, HasPassed, Places, placed_by}
use Rattle.record_making.specs.Making.{HasNotedLast, candidate_in}
use Rattle.record_making.specs.directory_law.Payloads.{Text}
use Rattle.weak_intern.specs.Knowing.{Knows}
use Rattle.record_making.specs.directory_calls.Learning.{Learns, LearnsIn}
use Rattle.record_making.specs.directory_calls.Steps.{GoesOn, Leaves, aside, with_found}
use Rattle.weak_intern.specs.Races.{IsWhyShort, LosesRace}
use Rattle.weak_intern.specs.Sighting.{Sights}
use Rattle.weak_intern.specs.Walking.{Meets, found_by, met, taken}
use Rattle.record_making.proofs.Below.directory_calls_Going.{from_earlier, holds_by, leaves_as, leaves_none, leaves_then, seat_same, some_earlier}
use Rattle.record_making.proofs.Below.directory_calls_Learnt.{learns_keeps, walked_still}
use Rattle.record_making.proofs.Below.directory_calls_Parts.{LearnsBy, Place, part_none, zero_then}
use Rattle.weak_intern.proofs.Races.{UsesFew, spent_short, uses_on}

-- MORE LEARNT, and more kept
pub learns_grows : (n : ℕ) (v w : View) → Learns n v w → Grows n v w
learns_grows n v w more = record {
  seen = more.seen;
  ended = more.ended;
  ran = more.ran;
  led = more.led;
  quota = more.quota;
  used = more.used;
  kept = learns_keeps n v w more;
}

pub grows_then : (m n : ℕ) (u v w : View) → Grows m u v → Grows n v w → Grows (m + n) u w
grows_then m n u v w a b = record {
  seen = λ e in'. b.seen e (a.seen e in');
  ended = λ e in'. b.ended e (a.ended e in');
  ran = λ e in'. b.ran e (a.ran e in');
  led = λ e in'. b.led e (a.led e in');
  quota = b.quota ∙ a.quota;
  used = let x = a.used in let y = b.used in omega arith;
  kept = λ e in'. b.kept e (a.kept e in');
}

pub bound_grows : (e : Rope) (v : View) → Grows 1 v (bound e v)
bound_grows e v = record {
  seen = λ x in'. in';
  ended = λ x in'. in';
  ran = λ x in'. in';
  led = λ x in'. in';
  quota = refl;
  used = refl;
  kept = λ x in'. inr in';
}

module _ {V : Type 0} (l : Place V) where
  abbrev pub GrowsBy : ℕ → V → V → Type 0
  GrowsBy n v w = GrowsIn l.seen l.with_seen n v w

  pub part_grows : (n : ℕ) (v w : V) → LearnsBy l n v w → GrowsBy n v w
  part_grows n v w more =
      record { part = learns_grows n (l.seen v) (l.seen w) more.part; rest = more.rest }

  pub grow_then : (m n : ℕ) (u v w : V) → GrowsBy m u v → GrowsBy n v w → GrowsBy (m + n) u w
  grow_then m n u v w a b = record {
    part = grows_then m n (l.seen u) (l.seen v) (l.seen w) a.part b.part;
    rest = b.rest ∙ ap (λ x. l.with_seen x (l.seen w)) a.rest
        ∙ l.puts_over u (l.seen v) (l.seen w);
  }

  pub grows_as : (n : ℕ) (u v w : V) → w ≡ v → GrowsBy n u v → GrowsBy n u w
  grows_as n u v w is more = subst (λ x. GrowsBy n u x) (sym is) more

  pub lift_grows : (n : ℕ) (v w : V) (x : View) → w ≡ l.with_seen v x → Grows n (l.seen v) x
      → GrowsBy n v w
  lift_grows n v w x is more =
      subst (λ u. GrowsBy n v u) (sym is)
      (record {
        part = subst (λ y. Grows n (l.seen v) y) (sym (l.reads v x)) more;
        rest = ap (l.with_seen v) (sym (l.reads v x));
      })

pub not_bound : {P V : Type 0} (seen : V → View) (with_seen : V → View → V) (d : DomainState P)
    (z : Area) (text : Text) (s : SlotId) (b c : SeatState V) (done : Bool) → done ≡ false
    → Binds seen with_seen d z text s done b c → c.view.client ≡ b.view.client
not_bound seen with_seen d z text s b c done is binds =
    subst (λ x. Binds seen with_seen d z text s x b c) is binds

-- THE WAY of a record s that stands nowhere, from the cell on that comes after n others
pub record Enters {P V : Type 0} (d : DomainState P) (seen : V → View) (with_seen : V → View → V)
    (z : Area) (text : Text) (s : SlotId) (n : ℕ) (old now : SeatState V) : Type 0 where
  pub low : n ≤ z.cells
  pub walked : Walked z (seen now.view.client) text n
  pub uses : UsesFew n old.view.core now.view.core
  pub leaves : Leaves old.view.core.owned old.view.core.weaks old now
  pub learns : LearnsIn seen with_seen 0 old.view.client now.view.client
  pub quota : CanCount true (seen now.view.client)
  pub owns : 0 < times s now.view.core.owned
  pub noted : HasNotedLast (candidate_in s text now) (seen now.view.client)
  pub makes : now.view.core.makes ≡ old.view.core.makes
  pub room : HasRoom now.view.core
  pub rest : IsAtRest d now

module _ {P V : Type 0} (d : DomainState P) (l : Place V) (z : Area) (text : Text) (s : SlotId)
    (a : SeatState V) where
  pub enters_none : (n : ℕ) → HasPassed z (l.seen a.view.client) text n
      → CanCount true (l.seen a.view.client) → 0 < times s a.view.core.owned
      → HasNotedLast (candidate_in s text a) (l.seen a.view.client) → HasRoom a.view.core
      → IsAtRest d a → Enters d l.seen l.with_seen z text s n a a
  enters_none n passed quota owns noted room rest = record {
    low = let low = passed.0 in omega (arith, low);
    walked = passed.1;
    uses = inl (omega arith);
    leaves = leaves_none a;
    learns = part_none l a.view.client;
    quota = quota;
    owns = owns;
    noted = noted;
    makes = refl;
    room = room;
    rest = rest;
  }

  module _ (n : ℕ) (b : SeatState V) (enters : Enters d l.seen l.with_seen z text s n a b) where
    pub comes_by : (cell : ℕ) → on z text n ≡ cell
        → ComesBy z (l.seen b.view.client) text cell
    comes_by cell at = (n, enters.walked, at)

    -- one call more, which leaves what it found beside
    module _ (c : SeatState V) where
      pub enter_leaves : (o : Option SlotId)
          → Leaves (with_found o b.view.core.owned) b.view.core.weaks b c
          → Leaves (with_found o a.view.core.owned) a.view.core.weaks a c
      enter_leaves o second =
          let first = enters.leaves in
          leaves_as (with_found o a.view.core.owned) a.view.core.weaks a c
          (leaves_then a b c first second
          (λ x was is. let p = first.owns x in let q = first.weakly x in
          holds_by x a.view.core b.view.core (sym first.same) (omega arith) was))
          (λ x. with_found_as o x)
          first.weakly
        where
          with_found_as : (f : Option SlotId) (x : SlotId)
              → times x (with_found f b.view.core.owned) ≡ times x (with_found f a.view.core.owned)
          with_found_as None x = enters.leaves.owns x
          with_found_as (Some y) x =
              let p = enters.leaves.owns x in let q = times_push x y a.view.core.owned in
              let r = times_push x y b.view.core.owned in
              omega arith

      pub enter_learns : (k : ℕ) → LearnsBy l k b.view.client c.view.client
          → LearnsBy l k a.view.client c.view.client
      enter_learns k more =
          zero_then l k a.view.client b.view.client c.view.client enters.learns more

      -- a look or a bind that only learns leaves the record where it was
      pub enters_on : (m : ℕ) → m ≤ z.cells → Walked z (l.seen c.view.client) text m
          → UsesFew m a.view.core c.view.core → Leaves b.view.core.owned b.view.core.weaks b c
          → LearnsBy l 0 b.view.client c.view.client → c.view.core.makes ≡ b.view.core.makes
          → HasRoom c.view.core → IsAtRest d c → Enters d l.seen l.with_seen z text s m a c
      enters_on m low walked uses second more makes room rest = record {
        low = low;
        walked = walked;
        uses = uses;
        leaves = enter_leaves None second;
        learns = enter_learns 0 more;
        quota = let p = more.part.used in let q = more.part.quota in let r = enters.quota in
            omega arith;
        owns = let o = second.owns s in let e = enters.owns in omega arith;
        noted = (
          enters.noted.0,
          more.part.notes.0 ∙ enters.noted.1
              ∙ ap (λ (o : Object). rope s o.life text ∷ enters.noted.0)
              (sym (known second)),
        );
        makes = makes ∙ enters.makes;
        room = room;
        rest = rest;
      }
        where
          known : Leaves b.view.core.owned b.view.core.weaks b c
              → object_in c.view s ≡ object_in b.view s
          known left =
              let o = left.owns s in let e = enters.owns in
              left.knows s (omega arith) (omega arith)

      -- the cells passed are passed still
      pub still_walked : LearnsBy l 0 b.view.client c.view.client
          → Walked z (l.seen c.view.client) text n
      still_walked more =
          walked_still 0 z (l.seen b.view.client) (l.seen c.view.client) text n more.part
          enters.walked

      pub one_more_walked : (cell : ℕ) → on z text n ≡ cell → Passes (l.seen c.view.client) text cell
          → LearnsBy l 0 b.view.client c.view.client
          → Walked z (l.seen c.view.client) text (n + 1)
      one_more_walked cell at passes more = λ j below. ⊎_elim
          (λ less. still_walked more j less)
          (λ past. let here : n ≡ j = omega (arith, below, past) in
          subst (λ k. Passes (l.seen c.view.client) text (on z text k)) here
          (subst (λ k. Passes (l.seen c.view.client) text k) (sym at) passes))
          (cases_lt j n)

      -- a look that found null
      pub null_on : (i : ℕ) (found : Sight) → found ≡ sight.Null
          → (j : ℕ) × Sights i j None b.view.core c.view.core
          → Leaves (with_found (met found) b.view.core.owned) b.view.core.weaks b c
          → LearnsBy l (taken true found) b.view.client c.view.client
          → c.view.core.makes ≡ b.view.core.makes → HasRoom c.view.core → IsAtRest d c
          → Enters d l.seen l.with_seen z text s n a c
      null_on i found same sights second more makes room rest =
          let learns = subst (λ f. LearnsBy l (taken true f) b.view.client c.view.client) same more
          in
          let adds = ap (λ (v : CoreView). v.adds) sights.1.core in
          enters_on n enters.low (still_walked learns)
          (subst (λ k. UsesFew k a.view.core c.view.core) (omega arith)
          (uses_on n 0 a.view.core b.view.core c.view.core enters.uses (omega (arith, adds))
          second.goes))
          (subst (λ f. Leaves (with_found (met f) b.view.core.owned) b.view.core.weaks b c) same
          second)
          learns makes room rest

      -- a bind after it that was lost
      pub enters_lost : LosesRace a.view.core c.view.core → c.view.client ≡ b.view.client
          → Leaves b.view.core.owned b.view.core.weaks b c → c.view.core.makes ≡ b.view.core.makes
          → HasRoom c.view.core → IsAtRest d c → Enters d l.seen l.with_seen z text s n a c
      enters_lost lost client second makes room rest =
          let more = subst (λ v. LearnsBy l 0 b.view.client v) (sym client)
          (part_none l b.view.client) in
          enters_on n enters.low (still_walked more) (inr lost) second more makes room rest

      pub other_on : (cell : ℕ) (found : Sight) → found ≡ sight.Other
          → on z text n ≡ cell → n < z.cells
          → Meets l.seen d z cell text found b c
          → Leaves (with_found (met found) b.view.core.owned) b.view.core.weaks b c
          → LearnsBy l (taken true found) b.view.client c.view.client
          → c.view.core.makes ≡ b.view.core.makes → c.view.core.adds ≤ b.view.core.adds + 1
          → HasRoom c.view.core → IsAtRest d c
          → Enters d l.seen l.with_seen z text s (n + 1) a c
      other_on cell found same at low meets second more makes adds room rest =
          let learns = subst (λ f. LearnsBy l (taken true f) b.view.client c.view.client) same more
          in
          enters_on (n + 1) (omega (arith, low))
          (one_more_walked cell at
          (subst (λ f. Meets l.seen d z cell text f b c) same meets) learns)
          (uses_on n 1 a.view.core b.view.core c.view.core enters.uses adds second.goes)
          (subst (λ f. Leaves (with_found (met f) b.view.core.owned) b.view.core.weaks b c) same
          second)
          learns makes room rest

      -- a call that found no add left, after it had used at most one
      pub enters_short : n < z.cells → IsSpent c.view.core
          → c.view.core.adds ≤ b.view.core.adds + 1 → GoesOn b.view.core c.view.core
          → aside c.view.core ≡ aside b.view.core → IsWhyShort z.cells a.view.core c.view.core
      enters_short low spent adds on same =
          spent_short (n + 1) z.cells a.view.core c.view.core
          (uses_on n 1 a.view.core b.view.core c.view.core enters.uses adds on) spent
          (ap (λ (v : CoreView). v.quota) (same ∙ enters.leaves.same)) (omega (arith, low))

      pub record_leaves : (found : Sight) (strong : Handle) → found ≡ sight.Record strong
          → Leaves (with_found (met found) b.view.core.owned) b.view.core.weaks b c
          → Leaves (a.view.core.owned ++ strong.slot ∷ []) a.view.core.weaks a c
      record_leaves found strong same second =
          enter_leaves (Some strong.slot)
          (subst (λ f. Leaves (with_found (met f) b.view.core.owned) b.view.core.weaks b c) same
          second)

      -- a refusal
      pub refused_leaves : {E : Type 0} (r : Result (Option Handle) E) (e : E) → r ≡ Err e
          → Leaves b.view.core.owned b.view.core.weaks b c
          → Leaves (with_found (found_by r) a.view.core.owned) a.view.core.weaks a c
      refused_leaves r e is second =
          subst (λ x. Leaves (with_found (found_by x) a.view.core.owned) a.view.core.weaks a c)
          (sym is) (enter_leaves None second)

      pub refused_grows : {E : Type 0} (r : Result (Option Handle) E) (e : E) → r ≡ Err e
          → LearnsBy l 0 b.view.client c.view.client
          → GrowsBy l (placed_by r) a.view.client c.view.client
      refused_grows r e is more =
          subst (λ x. GrowsBy l (placed_by x) a.view.client c.view.client) (sym is)
          (part_grows l 0 a.view.client c.view.client (enter_learns 0 more))

      pub same_learns : c ≡ b → LearnsBy l 0 b.view.client c.view.client
      same_learns is =
          subst (λ (x : SeatState V). LearnsBy l 0 b.view.client x.view.client) (sym is)
          (part_none l b.view.client)

      -- WHERE IT ENDS: the record was bound
      pub bound_places : (done : Bool) → done ≡ true
          → Binds l.seen l.with_seen d z text s done b c
          → Leaves b.view.core.owned b.view.core.weaks b c
          → Places d z text s a c × GrowsBy l 1 a.view.client c.view.client
      bound_places done is binds second =
          let won = subst (λ x. Binds l.seen l.with_seen d z text s x b c) is binds in (
            inr (some_earlier d (λ p q. IsBound z q text s) a b c
                (seat_same a b enters.leaves.same) enters.leaves.goes won.0),
            grow_then l 0 1 a.view.client b.view.client c.view.client
                (part_grows l 0 a.view.client b.view.client enters.learns)
                (lift_grows l 1 b.view.client c.view.client
                (bound (candidate_in s text b) (l.seen b.view.client)) won.1
                (bound_grows (candidate_in s text b) (l.seen b.view.client))),
          )

      -- or another one was found
      pub found_places : (cell : ℕ) (found : Sight) (strong : Handle) → found ≡ sight.Record strong
          → Meets l.seen d z cell text found b c
          → LearnsBy l (taken true found) b.view.client c.view.client
          → Places d z text strong.slot a c × GrowsBy l 1 a.view.client c.view.client
      found_places cell found strong same meets more = (
        inl (from_earlier d (λ p. IsBound z p text strong.slot) a b c
            (seat_same a b enters.leaves.same) enters.leaves.goes
            (subst (λ f. Meets l.seen d z cell text f b c) same meets).0),
        part_grows l 1 a.view.client c.view.client
            (enter_learns 1
            (subst (λ f. LearnsBy l (taken true f) b.view.client c.view.client) same more)),
      )

      -- and the seat knows its text
      pub bound_knows : (done : Bool) → done ≡ true
          → Binds l.seen l.with_seen d z text s done b c
          → Leaves b.view.core.owned b.view.core.weaks b c → Knows l.seen s text c
      bound_knows done is binds second =
          let won = subst (λ x. Binds l.seen l.with_seen d z text s x b c) is binds in
          let o = second.owns s in let e = enters.owns in
          let known : object_in c.view s ≡ object_in b.view s =
          second.knows s (omega (arith, e)) (omega (arith, o, e)) in
          inl (subst (λ (v : View). In (rope s (object_in c.view s).life text) v.kept)
          (sym (ap l.seen won.1
          ∙ l.reads b.view.client (bound (candidate_in s text b) (l.seen b.view.client))))
          (inl (ap (λ (o : Object). rope s o.life text) known)))

      pub found_knows : (cell : ℕ) (found : Sight) (strong : Handle) → found ≡ sight.Record strong
          → Meets l.seen d z cell text found b c → Knows l.seen strong.slot text c
      found_knows cell found strong same meets =
          (subst (λ f. Meets l.seen d z cell text f b c) same meets).1
