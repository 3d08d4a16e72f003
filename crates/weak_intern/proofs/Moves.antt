-- What the moves of a look at a cell leave of a seat, one after another.
use Rattle.std.proofs.Common.{◌≡◌, ◌+◌, ◌≤◌, ℕ, Bool, true, false, List, [], ◌∷◌, ◌++◌, refl, sym, ap, subst, ◌∙◌, append_assoc, arith, Some, None, inr}
use Rattle.std.specs.Prelude.{◌≢◌, Err, IfOk, Ok, Option, Result}
use Rattle.atomic_weak.specs.plain_state.declared.slot.SlotId.{SlotId}
use Rattle.atomic_weak.specs.core_events.declared.view.CoreView.{CoreView}
use Rattle.atomic_weak.specs.core_events.declared.view.Move.{Move}
use Rattle.atomic_weak.specs.acquire_retire.Domains.{DomainState}
use Rattle.atomic_weak.specs.acquire_retire.Seats.{SeatState}
use Rattle.atomic_weak.specs.control_word.declared.upgrading.UpgradeError.{UpgradeError}
use Rattle.atomic_weak.specs.control_word.declared.upgrading.UpgradeError.TheVariants as no_raise
use Rattle.atomic_weak.specs.control_word.Moves.{KnowsStill}
use Rattle.atomic_weak.specs.counted_handles.Handles.{Handle}
use Rattle.atomic_weak.specs.control_word.Resting.{IsSpent}
use Rattle.atomic_weak.specs.domain_rule.Views.{object_in}
use Rattle.record_making.specs.directory_law.Cells.{Area}
use Rattle.record_making.specs.directory_law.Payloads.{Text}
use Rattle.record_making.specs.directory_calls.Steps.{GoesOn, Leaves, aside, handle_by, with_found}
use Rattle.record_making.proofs.Below.directory_calls_Going.{leaves_core}
use Rattle.record_making.proofs.Below.directory_calls_Parts.{LearnsBy, Place, part_none}
use Rattle.text_reading.specs.Reading.{HasTwoFree}
use Rattle.weak_intern.specs.declared.looking.Sight.{Sight}
use Rattle.weak_intern.specs.declared.looking.Sight.TheVariants as sight
use Rattle.weak_intern.specs.declared.seeing.Sighted.{Sighted}
use Rattle.weak_intern.specs.Seeing.{HasSeenIn}
use Rattle.weak_intern.specs.Sighting.{Compares, Ends, IsSighted, Raises, added, compared_by, let_go_of, raised_moves, seat_without, with_added}
use Rattle.weak_intern.specs.Walking.{EndsBy, MeetsIn, RaisesBy}
use Rattle.weak_intern.proofs.LetGo.{had_before, sighted_has}
use Rattle.weak_intern.proofs.Sights.{head_still, met_still, more_leaves, saw_still}

-- what a seat owns more after such an add
abbrev pub gained : Option Bool → SlotId → Option SlotId
gained None s = None
gained (Some true) s = Some s
gained (Some false) s = None

-- A HEAD LET GO, after an add to it if there was one
module _ {V : Type 0} (it : Sighted) (a c : SeatState V) where
  pub raised_leaves : (how : Option Bool) → Raises it how a.view.core c.view.core
      → KnowsStill (let_go_of it a.view.core) a c
      → Leaves (with_found (gained how it.slot) a.view.core.owned) a.view.core.weaks
      (seat_without it a) c
  raised_leaves how core knows = go how core
    where
      left : (v : CoreView) (ms : List Move)
          → c.view.core ≡ record v { trail = a.view.core.trail ++ ms }
          → aside v ≡ aside (let_go_of it a.view.core)
          → Leaves v.owned v.weaks (seat_without it a) c
      left v ms core same = leaves_core (seat_without it a) c v ms core same knows

      go : (how : Option Bool) → Raises it how a.view.core c.view.core
          → Leaves (with_found (gained how it.slot) a.view.core.owned) a.view.core.weaks
          (seat_without it a) c
      go None core = left (let_go_of it a.view.core) (raised_moves it None) core refl
      go (Some true) core =
          left (with_added (Some true) it.slot (let_go_of it a.view.core))
          (raised_moves it (Some true)) core refl
      go (Some false) core =
          left (with_added (Some false) it.slot (let_go_of it a.view.core))
          (raised_moves it (Some false)) core refl

  pub handle_leaves : (r : Result Handle UpgradeError) → IfOk r (λ strong. strong.slot ≡ it.slot)
      → Raises it (added r) a.view.core c.view.core → KnowsStill (let_go_of it a.view.core) a c
      → Leaves (with_found (handle_by r) a.view.core.owned) a.view.core.weaks
      (seat_without it a) c
  handle_leaves (Ok h) same core knows =
      subst (λ x. Leaves (a.view.core.owned ++ x ∷ []) a.view.core.weaks (seat_without it a) c)
      (sym same) (raised_leaves (Some true) core knows)
  handle_leaves (Err no_raise.Ended) same core knows = raised_leaves (Some false) core knows
  handle_leaves (Err no_raise.Spent) same core knows = raised_leaves None core knows

  pub raised_makes : (how : Option Bool) → Raises it how a.view.core c.view.core
      → c.view.core.makes ≡ a.view.core.makes
  raised_makes None core = ap (λ (v : CoreView). v.makes) core
  raised_makes (Some true) core = ap (λ (v : CoreView). v.makes) core
  raised_makes (Some false) core = ap (λ (v : CoreView). v.makes) core

  pub raised_adds : (how : Option Bool) → Raises it how a.view.core c.view.core
      → c.view.core.adds ≤ a.view.core.adds + 1
  raised_adds None core = let e = ap (λ (v : CoreView). v.adds) core in omega (arith, e)
  raised_adds (Some true) core = let e = ap (λ (v : CoreView). v.adds) core in omega (arith, e)
  raised_adds (Some false) core = let e = ap (λ (v : CoreView). v.adds) core in omega (arith, e)

  pub raised_seat : (how : Option Bool) → Raises it how a.view.core c.view.core
      → c.view.core.seat ≡ a.view.core.seat
  raised_seat None core = ap (λ (v : CoreView). v.seat) core
  raised_seat (Some true) core = ap (λ (v : CoreView). v.seat) core
  raised_seat (Some false) core = ap (λ (v : CoreView). v.seat) core

  pub raised_goes : (how : Option Bool) → Raises it how a.view.core c.view.core
      → GoesOn a.view.core c.view.core
  raised_goes how core = (raised_moves it how, ap (λ (v : CoreView). v.trail) core)

  pub spent_still : Raises it None a.view.core c.view.core → IsSpent a.view.core
      → IsSpent c.view.core
  spent_still core spent = subst IsSpent (sym core) spent

-- A HEAD COMPARED
module _ {V : Type 0} (l : Place V) (it : Sighted) (a b : SeatState V) {payload : List ℕ}
    {same : Bool} (sighted : IsSighted it a.view.core)
    (compares : Compares it.slot payload same a.view.core b.view.core)
    (knows : KnowsStill a.view.core a b) (client : b.view.client ≡ a.view.client) where
  pub sighted_then : IsSighted it b.view.core
  sighted_then = subst (λ (v : CoreView). IsSighted it v) (sym compares.core) sighted

  pub free_then : HasTwoFree (let_go_of it a.view.core) → HasTwoFree (let_go_of it b.view.core)
  free_then free =
      subst (λ (v : CoreView). HasTwoFree (let_go_of it v)) (sym compares.core) free

  known_then : object_in b.view it.slot ≡ object_in a.view it.slot
  known_then = knows it.slot (sighted_has it a.view.core sighted)

  learns_then : LearnsBy l 0 a.view.client b.view.client
  learns_then = subst (λ v. LearnsBy l 0 a.view.client v) (sym client)
      (part_none l a.view.client)

  pub saw_then : HasSeenIn l.seen it.slot a → HasSeenIn l.seen it.slot b
  saw_then = saw_still l it.slot it.slot refl a b known_then learns_then

  pub head_then : (head : List ℕ) → (object_in a.view it.slot).payload ≡ head
      → (object_in b.view it.slot).payload ≡ head
  head_then = head_still l it.slot it.slot refl a b known_then learns_then

  pub met_then : {P E : Type 0} (d : DomainState P) (z : Area) (c : SeatState V) (text : Text)
      (r : Result Sight E)
      → IfOk r (λ found. MeetsIn l.seen d z it.slot text found b c)
      → IfOk r (λ found. MeetsIn l.seen d z it.slot text found a c)
  met_then d z c text (Ok found) meets =
      met_still l it.slot it.slot refl a b known_then learns_then d z c text found
      (ap (λ (v : CoreView). v.seat) compares.core)
      (_, ap (λ (v : CoreView). v.trail) compares.core) meets
  met_then d z c text (Err error) meets = tt

  compared_leaves : Leaves a.view.core.owned a.view.core.weaks (seat_without it a)
      (seat_without it b)
  compared_leaves =
      leaves_core (seat_without it a) (seat_without it b) (let_go_of it a.view.core) _
      (ap (let_go_of it) compares.core) refl
      (λ x has. knows x (had_before it a.view.core sighted x has))

  pub leaves_then : (c : SeatState V) (o : Option SlotId)
      → Leaves (with_found o b.view.core.owned) b.view.core.weaks (seat_without it b) c
      → Leaves (with_found o a.view.core.owned) a.view.core.weaks (seat_without it a) c
  leaves_then c o second =
      more_leaves (seat_without it a) (seat_without it b) c o compared_leaves second

  -- and then let go
  pub ends_then : (c : SeatState V) (how : Option Bool) → (how ≢ None → same ≡ true)
      → Raises it how b.view.core c.view.core → Ends it payload how a.view.core c.view.core
  ends_then c how whole core = record {
    words = compares.words;
    few = compares.few;
    all = λ some. compares.all (whole some);
    core =
        core
        ∙ (ap (λ (v : CoreView). record (with_added how it.slot (let_go_of it v)) {
          trail = v.trail ++ raised_moves it how;
        }) compares.core
        ∙ (shorter how (a.view.core.trail ++ compared_by it.slot compares.words)
        ((a.view.core.trail ++ compared_by it.slot compares.words) ++ raised_moves it how)
        ∙ ap (λ (t : List Move). record (with_added how it.slot (let_go_of it a.view.core)) {
          trail = t;
        })
        (append_assoc a.view.core.trail (compared_by it.slot compares.words)
        (raised_moves it how))));
  }
    where
      shorter : (how : Option Bool) (t u : List Move)
          → record (with_added how it.slot (let_go_of it (record a.view.core { trail = t }))) {
            trail = u;
          }
          ≡ record (with_added how it.slot (let_go_of it a.view.core)) { trail = u }
      shorter None t u = refl
      shorter (Some true) t u = refl
      shorter (Some false) t u = refl

  pub ends_by : {E : Type 0} (c : SeatState V) (r : Result Sight E) → same ≡ true
      → RaisesBy it r b.view.core c.view.core → EndsBy it payload r a.view.core c.view.core
  ends_by c (Ok sight.Null) whole raises = raises
  ends_by c (Ok sight.Other) whole raises = inr (ends_then c (Some false) (λ some. whole) raises)
  ends_by c (Ok (sight.Record strong)) whole raises =
      (raises.0, ends_then c (Some true) (λ some. whole) raises.1)
  ends_by c (Err error) whole raises = ends_then c None (λ some. whole) raises
