-- What a seat meets in a record that it owns, once it has read the whole text.
use Rattle.std.proofs.Common.{◌≡◌, ◌≢◌, inl, inr, ℕ, ◌+◌, ◌<◌, ◌≤◌, List, [], ◌∷◌, ◌++◌, refl, sym, ap, subst, ◌∙◌, arith}
use Rattle.std.specs.Prelude.{Bool}
use Rattle.atomic_weak.specs.plain_state.declared.slot.SlotId.{SlotId}
use Rattle.atomic_weak.specs.plain_state.Lists.{times}
use Rattle.atomic_weak.specs.plain_protocol.Owns.{Object}
use Rattle.atomic_weak.specs.core_events.Views.{without}
use Rattle.atomic_weak.proofs.Below.core_law_Kit.{times_push, times_without}
use Rattle.atomic_weak.specs.domain_rule.Views.{object_in}
use Rattle.atomic_weak.specs.acquire_retire.Domains.{DomainState}
use Rattle.atomic_weak.specs.acquire_retire.Seats.{SeatState}
use Rattle.atomic_weak.specs.counted_handles.Handles.{Handle}
use Rattle.record_making.specs.directory_law.declared.view.Ran.{Ran}
use Rattle.record_making.specs.directory_law.Cells.{Area}
use Rattle.record_making.specs.directory_law.Law.{IsBound}
use Rattle.record_making.specs.directory_law.Lessons.{spent}
use Rattle.record_making.specs.directory_law.Payloads.{IsText, Text}
use Rattle.record_making.specs.directory_law.Views.{In}
use Rattle.record_making.specs.directory_law.Walks.{NotPrefix}
use Rattle.record_making.specs.directory_calls.Directories.{CanCount}
use Rattle.record_making.specs.directory_calls.Steps.{AtStep, Leaves}
use Rattle.record_making.proofs.Below.directory_calls_Going.{from_earlier, holds_by, leaves_as, leaves_then, seat_same}
use Rattle.record_making.proofs.Below.directory_calls_Parts.{LearnsBy, Place, zero_then}
use Rattle.text_reading.specs.Reading.{HasRead}
use Rattle.weak_intern.specs.declared.looking.Sight.TheVariants as sight
use Rattle.weak_intern.specs.Knowing.{Knows}
use Rattle.weak_intern.specs.Seeing.{HasSeenAt, HasSeenIn, seen_in}
use Rattle.weak_intern.specs.Walking.{MeetsIn}
use Rattle.weak_intern.proofs.Same.{not_prefix}

module _ {P V : Type 0} (d : DomainState P) (l : Place V) (z : Area) (s : SlotId)
    (a b : SeatState V)
    (owns : 0 < times s a.view.core.owned)
    (first : Leaves a.view.core.owned a.view.core.weaks a b)
    (learns : LearnsBy l 0 a.view.client b.view.client) where
  -- WHAT IT HAS of the record, once it was read
  pub owns_read : 0 < times s b.view.core.owned
  owns_read = let o = first.owns s in omega (arith, o, owns)

  known : object_in b.view s ≡ object_in a.view s
  known = let m = owns_read in first.knows s (omega (arith, owns)) (omega (arith, m))

  saw_at : (k : ℕ) → HasSeenAt l.seen k s a → HasSeenAt l.seen k s b
  saw_at k saw =
      subst (λ (o : Object). In (record {
        cell = k;
        slot = s;
        life = o.life;
        head = o.payload;
      }) (l.seen b.view.client).seen) (sym known)
      (learns.part.seen (seen_in k s a) saw)

  pub saw_read : HasSeenIn l.seen s a → HasSeenIn l.seen s b
  saw_read saw = (saw.0, saw_at saw.0 saw.1)

  pub quota_read : (intern : Bool) → CanCount intern (l.seen a.view.client)
      → CanCount intern (l.seen b.view.client)
  quota_read intern can =
      let u = learns.part.used in let q = learns.part.quota in omega (arith, u, q, can)

  held_read : (x : SlotId) → times x a.view.core.owned + times x a.view.core.weaks
      ≤ times x b.view.core.owned + times x b.view.core.weaks
  held_read x = let o = first.owns x in let m = first.weakly x in omega arith

  module _ (read text : Text) (has : HasRead l.seen s read b) where
    in_ran : In has.ran (l.seen b.view.client).ran
    in_ran = subst (λ (rs : List Ran). In has.ran rs) (sym has.last) (inl refl)

    -- IT IS THE TEXT
    module _ (c : SeatState V) (intern : Bool)
        (second : Leaves b.view.core.owned b.view.core.weaks b c)
        (more : LearnsBy l (spent intern) b.view.client c.view.client) where
      pub answered_leaves :
          Leaves (without s a.view.core.owned ++ s ∷ []) a.view.core.weaks a c
      answered_leaves =
          leaves_as (without s a.view.core.owned ++ s ∷ []) a.view.core.weaks a c
          (leaves_then a b c first second
          (λ x was is. holds_by x a.view.core b.view.core (sym first.same) (held_read x) was))
          (λ x. let o = first.owns x in let e = times_without x s a.view.core.owned owns in
          let p = times_push x s (without s a.view.core.owned) in
          omega arith)
          first.weakly

      pub answered_learns : LearnsBy l (spent intern) a.view.client c.view.client
      answered_learns =
          zero_then l (spent intern) a.view.client b.view.client c.view.client learns more

      known_then : object_in c.view s ≡ object_in b.view s
      known_then =
          let o = second.owns s in let m = owns_read in
          second.knows s (omega (arith, m)) (omega (arith, m, o))

      pub answered_met : (strong : Handle) → strong.slot ≡ s → read ≡ text
          → AtStep d (λ p. IsBound z p read s) b c
          → MeetsIn l.seen d z s text (sight.Record strong) a c
      answered_met strong is same live = λ k saw. (
        subst (λ (x : SlotId). AtStep d (λ p. IsBound z p text x) a c) (sym is)
            (from_earlier d (λ p. IsBound z p text s) a b c (seat_same a b first.same) first.goes
            (subst (λ (t : Text). AtStep d (λ p. IsBound z p t s) b c) same live)),
        subst (λ (x : SlotId). Knows l.seen x text c) (sym is)
            (inr (
              (k, saw_then k saw),
              has.ran,
              more.part.ran has.ran in_ran,
              has.slot,
              has.life ∙ ap (λ (o : Object). o.life) (sym known_then),
              has.whole ∙ same,
              subst IsText same has.is,
            )),
      )
        where
          saw_then : (k : ℕ) → HasSeenAt l.seen k s a → HasSeenAt l.seen k s c
          saw_then k saw =
              subst (λ (o : Object). In (record {
                cell = k;
                slot = s;
                life = o.life;
                head = o.payload;
              }) (l.seen c.view.client).seen) (sym known_then)
              (more.part.seen (seen_in k s b) (saw_at k saw))

    -- IT IS ANOTHER ONE, and the reference was given up
    module _ (c : SeatState V) (drops : Leaves (without s b.view.core.owned) b.view.core.weaks b c)
        (client : c.view.client ≡ b.view.client) where
      pub dropped_leaves : Leaves (without s a.view.core.owned) a.view.core.weaks a c
      dropped_leaves =
          leaves_as (without s a.view.core.owned) a.view.core.weaks a c
          (leaves_then a b c first drops
          (λ x was is. holds_by x a.view.core b.view.core (sym first.same) (held_read x) was))
          (λ x. let o = first.owns x in let r = first.owns s in
          let e = times_without x s a.view.core.owned owns in
          let f = times_without x s b.view.core.owned owns_read in
          omega arith)
          first.weakly

      pub dropped_learns : LearnsBy l 0 a.view.client c.view.client
      dropped_learns = subst (λ v. LearnsBy l 0 a.view.client v) (sym client) learns

      pub dropped_met : IsText text → read ≢ text → MeetsIn l.seen d z s text sight.Other a c
      dropped_met is other = λ k saw. (
        seen_in k s a,
        subst (λ (v : V). In (seen_in k s a) (l.seen v).seen) (sym client)
            (learns.part.seen (seen_in k s a) saw),
        refl,
        inl (inr (
          has.ran,
          subst (λ (v : V). In has.ran (l.seen v).ran) (sym client) in_ran,
          has.slot,
          has.life ∙ ap (λ (o : Object). o.life) known,
          subst (λ (t : Text). NotPrefix t text) (sym has.whole)
              (not_prefix read text has.is is other),
        )),
      )
