-- What a collect leaves of the slots that its seat has.
use Rattle.std.proofs.Common.{◌≡◌, ℕ, ◌+◌, ◌<◌, ◌≤◌, Bool, true, false, List, [], ◌∷◌, ◌++◌, refl, ap, sym, ◌∙◌, subst, arith}
use Rattle.std.specs.Prelude.{Option, ◌==◌, filter, flat_map, slice_index_or}
use Rattle.std.proofs.lemmas.Bool.Decides.{nat_tests}
use Rattle.control_word.specs.plain_state.declared.act.EventPlace.{EventPlace}
use Rattle.control_word.specs.plain_state.declared.slot.Kind.TheVariants.{Strong, Weak, Disposal}
use Rattle.control_word.specs.plain_state.declared.slot.SlotId.{SlotId}
use Rattle.control_word.specs.plain_state.Ejection.{ripens}
use Rattle.control_word.specs.plain_state.Lists.{Entry, times}
use Rattle.control_word.specs.plain_state.Places.{held_times}
use Rattle.control_word.specs.plain_state.References.{held_in}
use Rattle.control_word.specs.plain_protocol.Owns.{HasSlot, Object}
use Rattle.control_word.specs.core_events.declared.act.Act.{Act}
use Rattle.control_word.specs.core_events.declared.act.Act.TheVariants as act
use Rattle.control_word.specs.core_events.declared.outcome.Outcome.{Outcome}
use Rattle.control_word.specs.core_events.declared.shape.Shape.{Shape}
use Rattle.control_word.specs.core_events.declared.view.CoreView.{CoreView}
use Rattle.control_word.specs.core_events.declared.view.Move.{Move}
use Rattle.control_word.specs.core_events.declared.view.Note.{Note}
use Rattle.control_word.specs.core_events.declared.view.Note.TheVariants as note
use Rattle.control_word.specs.core_events.declared.view.Phase.{Phase}
use Rattle.control_word.specs.core_events.declared.view.Phase.TheVariants as phase
use Rattle.control_word.specs.core_events.Runs.{IsShape}
use Rattle.control_word.specs.core_events.Shows.{filled, show_seat}
use Rattle.control_word.specs.core_events.ShownSteps.{ejects, shown_act}
use Rattle.control_word.specs.core_events.Steps.{all_seen, changed, ended, is_last, paid, scanned}
use Rattle.control_word.specs.core_events.Views.{alone, slot_of}
use Rattle.control_word.proofs.Below.core_law_Kit.{times_append}
use Rattle.control_word.specs.counter_word.Words.{has_help}
use Rattle.control_word.specs.domain_rule.Told.{changed_object, cleared_after}
use Rattle.control_word.specs.domain_rule.Views.{object_in}
use Rattle.control_word.specs.acquire_retire.declared.payment.Payment.{Payment}
use Rattle.control_word.specs.acquire_retire.declared.payment.Payment.TheVariants as payment
use Rattle.control_word.specs.acquire_retire.declared.payment.Work.{Work}
use Rattle.control_word.specs.acquire_retire.Calls.{IsSameView, Steps, same_view}
use Rattle.control_word.specs.acquire_retire.Collecting.{Collects, Walks, paid_by, read_by, scanned_by}
use Rattle.control_word.specs.acquire_retire.Domains.{DomainState}
use Rattle.control_word.specs.acquire_retire.Seats.{SeatState}
use Rattle.control_word.proofs.Below.acquire_retire_Collects.{IsGathering, goes_by, is_of_after}
use Rattle.control_word.specs.Resting.{IsAtRest, IsSettled}
use Rattle.control_word.proofs.Following.{end_keeps, give_keeps}
use Rattle.retiring_stores.specs.Scanning.{Collected, IsBelow}

-- an act that takes nothing from the dying and ripe slots, nor from what is known of them
record Spares (z : Shape) (a : Act) (w : ℕ) (v : CoreView) : Type 0 where
  dying : (s : SlotId) → times s v.dying ≤ times s (changed z a w v).dying
  ripe : (s : SlotId) → times s v.ripe ≤ times s (changed z a w v).ripe
  cleared : (ps : List EventPlace) → cleared_after a v ps ≡ ps
  object : (s : SlotId) (o : Object) → changed_object (shown_act z a w v) s o ≡ o

same_list : (s : SlotId) (xs ys : List SlotId) → ys ≡ xs → times s xs ≤ times s ys
same_list s xs ys is = let e = ap (times s) is in omega arith

longer : (s : SlotId) (xs ys : List SlotId) → times s xs ≤ times s (xs ++ ys)
longer s xs ys = let e = times_append s xs ys in omega arith

scan_spares : (z : Shape) (b : Bool) (w : ℕ) (v : CoreView) → is_last z v ≡ b
    → Spares z act.Scan w v
scan_spares z true w v is = record {
  dying = λ s. same_list s v.dying (scanned z w v).dying (rw is refl);
  ripe = λ s.
      let more = longer s v.ripe (filter (ripens v.ripe (all_seen w v)) v.dying) in
      rw is more;
  cleared = λ ps. refl;
  object = λ s o. rw is refl;
}
scan_spares z false w v is = record {
  dying = λ s. same_list s v.dying (scanned z w v).dying (rw is refl);
  ripe = λ s. same_list s v.ripe (scanned z w v).ripe (rw is refl);
  cleared = λ ps. refl;
  object = λ s o. rw is refl;
}

paid_lists : (w : ℕ) (es : List Entry) (v : CoreView)
    → ((paid w es v).dying ≡ v.dying) × ((paid w es v).ripe ≡ v.ripe)
paid_lists w [] v = (refl, refl)
paid_lists w ((Strong, s) ∷ es) v = (refl, refl)
paid_lists w ((Weak, s) ∷ es) v = (refl, refl)
paid_lists w ((Disposal, s) ∷ es) v = (refl, refl)

eject_keeps : (es : List Entry) (s : SlotId) (o : Object) → changed_object (ejects es) s o ≡ o
eject_keeps [] s o = refl
eject_keeps (e ∷ es) s o = refl

ended_more : (b : Bool) (x : Option SlotId) (p : Phase) (v : CoreView) (s : SlotId)
    → times s v.dying ≤ times s (ended b x p v).dying
ended_more true x p v s = longer s v.dying (alone x)
ended_more false x p v s = omega arith

ended_ripe : (b : Bool) (x : Option SlotId) (p : Phase) (v : CoreView)
    → (ended b x p v).ripe ≡ v.ripe
ended_ripe true x p v = refl
ended_ripe false x p v = refl

spares : (z : Shape) (a : Act) (w : ℕ) (v : CoreView) → IsGathering a → Spares z a w v
spares z act.Scan w v is = scan_spares z (is_last z v) w v refl
spares z act.Pay w v is = record {
  dying = λ s. same_list s v.dying (paid w v.owed v).dying (paid_lists w v.owed v).0;
  ripe = λ s. same_list s v.ripe (paid w v.owed v).ripe (paid_lists w v.owed v).1;
  cleared = λ ps. refl;
  object = λ s o. eject_keeps v.owed s o;
}
spares z act.Finish w v is = record {
  dying = λ s. ended_more (w == 0) (slot_of v.phase) _ v s;
  ripe = λ s. same_list s v.ripe _ (ended_ripe (w == 0) (slot_of v.phase) _ v);
  cleared = λ ps. refl;
  object = λ s o. end_keeps (w == 0) (slot_of v.phase) s o;
}
spares z act.Take w v is = record {
  dying = λ s. ended_more (has_help w) (slot_of v.phase) _ v s;
  ripe = λ s. same_list s v.ripe _ (ended_ripe (has_help w) (slot_of v.phase) _ v);
  cleared = λ ps. refl;
  object = λ s o. end_keeps (has_help w) (slot_of v.phase) s o;
}
spares z act.Free w v is = record {
  dying = λ s. omega arith;
  ripe = λ s. omega arith;
  cleared = λ ps. refl;
  object = λ s o. give_keeps (slot_of v.phase) s o;
}
spares z (act.Add s) w v is = absurd is
spares z (act.Drop s) w v is = absurd is
spares z (act.Count s) w v is = absurd is
spares z act.Mark w v is = absurd is
spares z (act.Announce j k s) w v is = absurd is
spares z (act.Release j) w v is = absurd is
spares z (act.Look p) w v is = absurd is
spares z (act.Check j p) w v is = absurd is
spares z (act.Alive j) w v is = absurd is
spares z (act.Swap p new) w v is = absurd is
spares z (act.Cas p old new) w v is = absurd is
spares z (act.Claim s) w v is = absurd is
spares z act.Arm w v is = absurd is
spares z (act.Fill i x) w v is = absurd is
spares z act.Start w v is = absurd is
spares z (act.See s i) w v is = absurd is
spares z act.Ticket w v is = absurd is
spares z (act.Wadd s) w v is = absurd is
spares z (act.Wdrop s) w v is = absurd is
spares z (act.Destroy s) w v is = absurd is
spares z (act.Wcount s) w v is = absurd is
spares z (act.Leave j) w v is = absurd is

-- the moves are all of a collect
abbrev pub AreGathering : List Move → Type 0
AreGathering [] = Unit {0}
AreGathering (m ∷ ms) = IsGathering m.act × AreGathering ms

both_gather : (xs ys : List Move) → AreGathering xs → AreGathering ys → AreGathering (xs ++ ys)
both_gather [] ys first more = more
both_gather (x ∷ xs) ys first more = (first.0, both_gather xs ys first.1 more)

reads_gather : (seen : List ℕ) → AreGathering (read_by seen)
reads_gather [] = tt
reads_gather (w ∷ ws) = (tt, reads_gather ws)

payment_gathers : (p : Payment) → AreGathering (paid_by p)
payment_gathers payment.Left = (tt, tt)
payment_gathers payment.Ended = (tt, (tt, tt))
payment_gathers payment.Lost = (tt, (tt, tt))
payment_gathers payment.Helped = (tt, (tt, (tt, tt)))
payment_gathers payment.NoHelp = (tt, (tt, (tt, tt)))
payment_gathers payment.Freed = (tt, (tt, tt))

pub pays_gather : (ps : List Payment) → AreGathering (flat_map paid_by ps)
pays_gather [] = tt
pays_gather (p ∷ ps) =
    both_gather (paid_by p) (flat_map paid_by ps) (payment_gathers p) (pays_gather ps)

-- the seat holds s, or has it in its dying list
abbrev pub IsListed : CoreView → SlotId → Type 0
IsListed v s = 0 < held_times s (show_seat v) + times s v.dying

listed_has : (v : CoreView) (s : SlotId) → IsListed v s → HasSlot (show_seat v) s
listed_has v s some = grind (arith, nat_tests)

has_listed : (v : CoreView) (s : SlotId) → v.phase ≡ phase.Idle → HasSlot (show_seat v) s
    → IsListed v s
unfolding held_in
has_listed v s idle has =
    let none : held_in s (filled v.phase) ≡ 0 = rw idle refl in grind (arith, nat_tests)

-- of the slots that a seat has in its lists all stay, with what it knew of them
pub record Stays {V : Type 0} (old new : SeatState V) : Type 0 where
  pub held : (s : SlotId)
      → held_times s (show_seat new.view.core) ≡ held_times s (show_seat old.view.core)
  pub dying : (s : SlotId) → times s old.view.core.dying ≤ times s new.view.core.dying
  pub ripe : (s : SlotId) → times s old.view.core.ripe ≤ times s new.view.core.ripe
  pub known : (s : SlotId) → IsListed old.view.core s → object_in new.view s ≡ object_in old.view s
  pub cleared : new.view.cleared ≡ old.view.cleared

module _ {P V : Type 0} (fits : List ℕ → Type 0) (d : DomainState P) where
  pub step_stays : (a : Act) (old new : SeatState V) (o : Outcome) → IsGathering a
      → Steps fits d same_view IsSameView a old new o → Stays old new
  step_stays a old new o is step =
      let kept = spares d.shape a step.word old.view.core is in
      record {
        held = λ s. ap (λ (v : CoreView). held_times s (show_seat v))
            (goes_by d a o old new is o refl step).rest;
        dying = λ s.
            let same = ap (λ (v : CoreView). times s v.dying) step.told.core in
            let more = kept.dying s in omega arith;
        ripe = λ s.
            let same = ap (λ (v : CoreView). times s v.ripe) step.told.core in
            let more = kept.ripe s in omega arith;
        known = λ s some.
            step.told.objects s (listed_has old.view.core s some)
            ∙ kept.object s (object_in old.view s);
        cleared = step.told.cleared ∙ kept.cleared old.view.cleared;
      }

  pub walk_stays : (ms : List Move) (old new : SeatState V) → AreGathering ms → Walks fits d ms old new
      → Stays old new
  walk_stays [] old new are walks =
      subst (λ (x : SeatState V). Stays old x) (sym walks)
      (record {
        held = λ s. refl;
        dying = λ s. omega arith;
        ripe = λ s. omega arith;
        known = λ s some. refl;
        cleared = refl;
      })
  walk_stays (m ∷ ms) old new are walks =
      let first = step_stays m.act old walks.0 m.outcome are.0 walks.1 in
      let more = walk_stays ms walks.0 new are.1 walks.2 in
      record {
        held = λ s. more.held s ∙ first.held s;
        dying = λ s. let a = first.dying s in let b = more.dying s in omega arith;
        ripe = λ s. let a = first.ripe s in let b = more.ripe s in omega arith;
        known = λ s some.
            more.known s (let a = first.dying s in let b = first.held s in omega arith)
            ∙ first.known s some;
        cleared = more.cleared ∙ first.cleared;
      }

  -- a scan tells that the shape is one
  scan_shape : (seen : List ℕ) (m : Move) (ms ns : List Move) (old new : SeatState V)
      → Walks fits d ((read_by seen ++ m ∷ ms) ++ ns) old new → IsShape d.shape
  scan_shape [] m ms ns old new walks = walks.1.told.happened.shape
  scan_shape (w ∷ ws) m ms ns old new walks = walks.1.told.happened.shape

module _ {P V : Type 0} {fits : List ℕ → Type 0} (d : DomainState P) (old new : SeatState V)
    (rest : IsAtRest d old) (work : Work) (collects : Collects fits d old new work) where
  stays : Stays old new
  stays =
      let moves =
      scanned_by collects.seen collects.last _ _ ++ flat_map paid_by collects.payments in
      walk_stays fits d moves old new
      (both_gather (scanned_by collects.seen collects.last _ _) (flat_map paid_by collects.payments)
      (both_gather (read_by collects.seen) _ (reads_gather collects.seen) (tt, tt))
      (pays_gather collects.payments)) collects.goes.walks

  is_below : IsBelow d new
  is_below =
      let shape = scan_shape fits d collects.seen _ [] _ old new collects.goes.walks in
      let few = collects.few in
      let batch = shape.6 in omega arith

  pub collected : Collected fits d old new
  collected =
      let moves =
      scanned_by collects.seen collects.last _ _ ++ flat_map paid_by collects.payments in
      let notes = ap (λ (v : CoreView). v.notes) collects.goes.rest in
      record {
        work = work;
        collects = collects;
        dying = λ s some. let more = stays.dying s in omega arith;
        ripe = λ s some. let more = stays.ripe s in omega arith;
        knows = λ s has. stays.known s (has_listed old.view.core s rest.idle.0 has);
        cleared = stays.cleared;
        below = is_below;
        rest = record {
          of_domain = is_of_after d moves old new rest.of_domain collects.goes;
          idle = collects.idle;
          owes_nothing = collects.owes_nothing;
          first = ap (λ (ns : List Note). slice_index_or ns 0 note.Idle) notes ∙ rest.first;
          others = λ j. subst (λ (n : Note). IsSettled n)
              (sym (ap (λ (ns : List Note). slice_index_or ns j note.Idle) notes)) (rest.others j);
        };
      }
