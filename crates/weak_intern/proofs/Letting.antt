-- What a raise leaves of a seat: an add that answered something, after which the head was let go.
use Rattle.std.proofs.Common.{◌≡◌, ℕ, Bool, true, false, [], ◌∷◌, ◌++◌, List, refl, sym, ap, subst, ◌∙◌, append_assoc, arith, Some, None}
use Rattle.std.specs.Prelude.{Err, IfOk, Ok, Option, Result}
use Rattle.std.proofs.lemmas.Bool.Decides.{nat_tests}
use Rattle.std.proofs.lemmas.List.{append-nil}
use Rattle.atomic_weak.specs.plain_state.declared.slot.SlotId.{SlotId}
use Rattle.atomic_weak.specs.plain_state.declared.act.PlainAct.{PlainAct}
use Rattle.atomic_weak.specs.plain_state.State.{Plain}
use Rattle.atomic_weak.specs.plain_protocol.Owns.{HasSlot, Object, OwnPart}
use Rattle.atomic_weak.specs.core_events.declared.act.Act.TheVariants as act
use Rattle.atomic_weak.specs.core_events.declared.outcome.Outcome.TheVariants as outcome
use Rattle.atomic_weak.specs.core_events.declared.view.CoreView.{CoreView}
use Rattle.atomic_weak.specs.core_events.declared.view.Move.{Move}
use Rattle.atomic_weak.specs.core_events.Shows.{show_seat}
use Rattle.atomic_weak.specs.core_events.Views.{Holds}
use Rattle.atomic_weak.proofs.Below.core_law_Kit.{times_push}
use Rattle.atomic_weak.specs.domain_rule.Views.{object_in}
use Rattle.atomic_weak.specs.acquire_retire.Collecting.{move}
use Rattle.atomic_weak.specs.acquire_retire.Domains.{DomainState}
use Rattle.atomic_weak.specs.acquire_retire.Seats.{SeatState}
use Rattle.atomic_weak.specs.control_word.declared.upgrading.UpgradeError.{UpgradeError}
use Rattle.atomic_weak.specs.control_word.declared.upgrading.UpgradeError.TheVariants as no_raise
use Rattle.atomic_weak.specs.control_word.Calls.{FindsEnded, GainsStrong}
use Rattle.atomic_weak.specs.control_word.Moves.{KnowsStill}
use Rattle.atomic_weak.proofs.Below.control_word_Owning.{some_more}
use Rattle.atomic_weak.specs.counted_handles.Handles.{Handle}
use Rattle.atomic_weak.proofs.Below.protected_loads_Telling.{holds_has}
use Rattle.record_making.specs.directory_law.Cells.{Area}
use Rattle.record_making.specs.directory_law.Law.{IsBound}
use Rattle.record_making.specs.directory_law.Lessons.{UpgradeTells, upgrade_next}
use Rattle.record_making.specs.directory_law.Payloads.{IsText, Text}
use Rattle.record_making.specs.directory_law.Views.{In, note}
use Rattle.record_making.specs.directory_calls.Steps.{AtStep}
use Rattle.record_making.proofs.Below.directory_calls_Going.{also, to_later}
use Rattle.record_making.proofs.Below.directory_calls_Parts.{LearnsBy, Place, lifts, part_none, tells}
use Rattle.text_reading.specs.Reading.{HasBegun}
use Rattle.weak_intern.specs.declared.seeing.Sighted.{Sighted}
use Rattle.weak_intern.specs.Seeing.{BeginsText}
use Rattle.weak_intern.specs.Sighting.{IsSighted, Raises, added, added_by, let_go_of, with_added}
use Rattle.weak_intern.specs.Walking.{raised_by}
use Rattle.weak_intern.proofs.LetGo.{had_before, sighted_has, sighted_held}
use Rattle.weak_intern.proofs.Raised.{ended, ended_learns, live, live_begun, live_learns}

-- a reference more, and a longer trail, take no slot from a seat
still_has : (how : Option Bool) (s x : SlotId) (v : CoreView) (ms : List Move)
    → HasSlot (show_seat v) x → HasSlot (show_seat (record (with_added how s v) { trail = ms })) x
still_has None s x v ms has = has
still_has (Some false) s x v ms has = has
still_has (Some true) s x v ms has =
    let p = times_push x s v.owned in grind (arith, nat_tests)

-- what holds where a reference was answered
on_ok : (A B : Handle → Type 0) (r : Result Handle UpgradeError) → ((h : Handle) → A h → B h)
    → IfOk r A → IfOk r B
on_ok A B (Ok h) follows is = follows h is
on_ok A B (Err e) follows is = tt

module _ {P V : Type 0} (fits : List ℕ → Type 0) (d : DomainState P) (l : Place V) (z : Area)
    (intern : Bool) (it : Sighted) (old : SeatState V) (sighted : IsSighted it old.view.core) where
  held : Holds old.view.core it.slot
  held = sighted_held it old.view.core sighted

  has : HasSlot (show_seat old.view.core) it.slot
  has = sighted_has it old.view.core sighted

  abbrev next : OwnPart → OwnPart → V → PlainAct → ℕ → V
  next = lifts l (upgrade_next intern)

  abbrev allows : Plain → Plain → ℕ → V → V → Type 0
  allows = tells l (UpgradeTells z)

  -- what the add answered, where that is a reference; and the seat afterwards
  abbrev Gained : SeatState V → Handle → Type 0
  Gained mid strong = (strong.slot ≡ it.slot) × GainsStrong fits d next allows it.slot old mid

  module _ (new mid : SeatState V) (r : Result Handle UpgradeError) (upgraded : IfOk r (Gained mid))
      (knows : KnowsStill old.view.core old mid)
      (core : new.view.core ≡ record (let_go_of it mid.view.core) {
        trail = mid.view.core.trail ++ move (act.Release it.word) outcome.Plain ∷ [];
      })
      (still : KnowsStill (let_go_of it mid.view.core) mid new)
      (client : new.view.client ≡ mid.view.client) where
    pub raised_same : IfOk r (λ strong. strong.slot ≡ it.slot)
    raised_same = on_ok (Gained mid) (λ strong. strong.slot ≡ it.slot) r (λ h u. u.0) upgraded

    -- where it counted, the seat knows the object still
    same_now : GainsStrong fits d next allows it.slot old mid
        → object_in new.view it.slot ≡ object_in mid.view it.slot
    same_now gains =
        let mine = some_more it.slot it.slot refl old.view.core.owned mid.view.core.owned
        (ap (λ (v : CoreView). v.owned) gains.core) in
        still it.slot (holds_has (let_go_of it mid.view.core) it.slot (omega (arith, mine)))

    pub raised_known : IfOk r (λ strong. object_in new.view it.slot ≡ object_in old.view it.slot)
    raised_known =
        on_ok (Gained mid) (λ strong. object_in new.view it.slot ≡ object_in old.view it.slot) r
        (λ h u. same_now u.1 ∙ knows it.slot has) upgraded

    pub raised_live : IfOk r (λ strong. AtStep d (BeginsText z it.slot new) old new)
    raised_live =
        on_ok (Gained mid) (λ strong. AtStep d (BeginsText z it.slot new) old new) r
        (λ h u. to_later d (BeginsText z it.slot new) old mid new
        (also d (BeginsText z it.slot mid) (BeginsText z it.slot new) old mid
        (λ p is. subst (λ (x : Object). (tail : Text) × IsText (x.payload ∷ tail)
        × IsBound z p (x.payload ∷ tail) it.slot) (sym (same_now u.1)) is)
        (live fits d l z intern it.slot old held mid u.1 knows))
        (_, ap (λ (v : CoreView). v.trail) core)) upgraded

    pub raised_begun : IfOk r (λ strong. HasBegun l.seen it.slot new)
    raised_begun =
        on_ok (Gained mid) (λ strong. HasBegun l.seen it.slot new) r
        (λ h u. let begun = live_begun fits d l z intern it.slot old held mid u.1 knows in (
          begun.0,
          ap (λ (c : V). (l.seen c).ran) client ∙ begun.1
              ∙ ap (λ (o : Object). record {
                slot = it.slot;
                life = o.life;
                before = o.payload ∷ [];
                now = it.slot;
                now_life = o.life;
              } ∷ begun.0) (sym (same_now u.1)),
        )) upgraded

    pub raised_ended : (r ≡ Err no_raise.Ended → FindsEnded fits d next allows it.slot old mid)
        → r ≡ Err no_raise.Ended
        → In (note it.slot (object_in old.view it.slot).life) (l.seen new.view.client).ended
    raised_ended finds is =
        subst (λ (c : V). In (note it.slot (object_in old.view it.slot).life) (l.seen c).ended)
        (sym client) (ended fits d l z intern it.slot old held mid (finds is))

    module _ (spent' : r ≡ Err no_raise.Spent → mid ≡ old)
        (finds : r ≡ Err no_raise.Ended → FindsEnded fits d next allows it.slot old mid) where
      pub raised_learns : LearnsBy l (raised_by intern r) old.view.client new.view.client
      raised_learns =
          subst (λ v. LearnsBy l (raised_by intern r) old.view.client v) (sym client)
          (go r refl upgraded)
        where
          go : (o : Result Handle UpgradeError) → r ≡ o → IfOk o (Gained mid)
              → LearnsBy l (raised_by intern o) old.view.client mid.view.client
          go (Ok h) is u = live_learns fits d l z intern it.slot old held mid u.1
          go (Err no_raise.Spent) is u =
              subst (λ (x : SeatState V). LearnsBy l 0 old.view.client x.view.client)
              (sym (spent' is)) (part_none l old.view.client)
          go (Err no_raise.Ended) is u =
              ended_learns fits d l z intern it.slot old held mid (finds is)

      -- what the add left of the seat
      after_add : mid.view.core ≡ record (with_added (added r) it.slot old.view.core) {
        trail = old.view.core.trail ++ added_by (added r) it.slot;
      }
      after_add = go r refl upgraded
        where
          go : (o : Result Handle UpgradeError) → r ≡ o → IfOk o (Gained mid)
              → mid.view.core ≡ record (with_added (added o) it.slot old.view.core) {
                trail = old.view.core.trail ++ added_by (added o) it.slot;
              }
          go (Ok h) is u = u.1.core
          go (Err no_raise.Spent) is u =
              ap (λ (x : SeatState V). x.view.core) (spent' is)
              ∙ ap (λ (t : List Move). record old.view.core { trail = t })
              (sym (append-nil old.view.core.trail))
          go (Err no_raise.Ended) is u = (finds is).becomes.core

      abbrev released : List Move
      released = move (act.Release it.word) outcome.Plain ∷ []

      -- to let the head go before the add would leave the same
      go_first : (how : Option Bool) (t u : List Move)
          → record (let_go_of it (record (with_added how it.slot old.view.core) { trail = t })) {
            trail = u;
          }
          ≡ record (with_added how it.slot (let_go_of it old.view.core)) { trail = u }
      go_first None t u = refl
      go_first (Some true) t u = refl
      go_first (Some false) t u = refl

      pub raised_core : Raises it (added r) old.view.core new.view.core
      raised_core =
          core
          ∙ (ap (λ (v : CoreView). record (let_go_of it v) { trail = v.trail ++ released }) after_add
          ∙ (go_first (added r) (old.view.core.trail ++ added_by (added r) it.slot)
          ((old.view.core.trail ++ added_by (added r) it.slot) ++ released)
          ∙ ap (λ (t : List Move). record (with_added (added r) it.slot (let_go_of it old.view.core)) {
            trail = t;
          })
          (append_assoc old.view.core.trail (added_by (added r) it.slot) released)))

      pub raised_objects : KnowsStill (let_go_of it old.view.core) old new
      raised_objects x had =
          still x
          (subst (λ (v : CoreView). HasSlot (show_seat v) x)
          (sym (ap (λ (v : CoreView). let_go_of it v) after_add))
          (beside (added r) (old.view.core.trail ++ added_by (added r) it.slot)
          (still_has (added r) it.slot x (let_go_of it old.view.core) [] had)))
          ∙ knows x (had_before it old.view.core sighted x had)
        where
          beside : (how : Option Bool) (t : List Move)
              → HasSlot (show_seat (record (with_added how it.slot (let_go_of it old.view.core)) {
                trail = [];
              })) x
              → HasSlot (show_seat (let_go_of it (record (with_added how it.slot old.view.core) {
                trail = t;
              }))) x
          beside None t has' = has'
          beside (Some true) t has' = has'
          beside (Some false) t has' = has'
