-- Trails that go on while no seat leaves: by a step, by several, through a settle and through an audit.
use Rattle.std.proofs.Common.{◌≡◌, ⊎_elim, ℕ, zero, suc, ◌+◌, Bool, true, false, List, [], ◌∷◌, ◌++◌, length, refl, ap, sym, ◌∙◌, append_assoc, arith}
use Rattle.std.specs.Prelude.{cond, None, Option, Some, slice_index}
use Rattle.std.specs.Bool.{MatchBool}
use Rattle.std.specs.List.{flat_map}
use Rattle.std.proofs.lemmas.List.{append-nil}
use Rattle.std.proofs.lemmas.List.Sums.{sum_by-append, sum_by-cons}
use Rattle.law_lesson.specs.plain_state.declared.act.EventPlace.{EventPlace}
use Rattle.law_lesson.specs.plain_state.declared.act.EventPlace.TheVariants.{Cell, Field, WeakField}
use Rattle.law_lesson.specs.plain_state.declared.slot.Kind.TheVariants.{Strong}
use Rattle.law_lesson.specs.plain_state.declared.slot.SlotId.{SlotId}
use Rattle.domain_audit.specs.core_events.declared.act.Act.{Act}
use Rattle.domain_audit.specs.core_events.declared.act.Act.TheVariants as act
use Rattle.domain_audit.specs.core_events.declared.outcome.Outcome.{Outcome}
use Rattle.domain_audit.specs.core_events.declared.outcome.Outcome.TheVariants as outcome
use Rattle.domain_audit.specs.core_events.declared.view.CoreView.{CoreView}
use Rattle.domain_audit.specs.core_events.declared.view.Move.{Move}
use Rattle.domain_audit.specs.core_events.Words.{each_from}
use Rattle.domain_audit.proofs.Below.core_law_Trails.{changed_trail}
use Rattle.domain_audit.specs.acquire_retire.declared.payment.Payment.{Payment}
use Rattle.domain_audit.specs.acquire_retire.declared.payment.Payment.TheVariants as payment
use Rattle.domain_audit.specs.acquire_retire.Calls.{IsSameView, Steps, same_view}
use Rattle.domain_audit.specs.acquire_retire.Collecting.{move, paid_by, read_by, scanned_by}
use Rattle.domain_audit.specs.acquire_retire.Domains.{DomainState}
use Rattle.domain_audit.specs.acquire_retire.Seats.{SeatState}
use Rattle.domain_audit.specs.control_word.Calls.{DropsStrong, dropped_by}
use Rattle.domain_audit.specs.Audits.{Stays, there_and_back}
use Rattle.domain_audit.specs.slot_store.Reaping.{Answers, Clears, Destroys, FindsRipe, seen_by}
use Rattle.domain_audit.specs.slot_store.Settling.{Settles, Turns}
use Rattle.domain_audit.specs.slot_store.retiring_stores.Scanning.{Collected, IsBelow, IsDue}
use Rattle.words_rest.specs.words_law.Views.{View}
use Rattle.lane_domain.specs.words_protocol.declared.law.WordsLaw.{WordsLaw}
use Rattle.lane_reports.specs.Learning.{LearnsLaw}
use Rattle.lane_reports.specs.Trails.{GoesOnAlone, is_leave, leaves_in}

-- MOVES of which none is a leave
pub none_in : leaves_in [] ≡ 0
unfolding leaves_in
none_in = refl

leaves_both : (ms ns : List Move) → leaves_in (ms ++ ns) ≡ leaves_in ms + leaves_in ns
unfolding leaves_in
leaves_both ms ns = sum_by-append (λ (m : Move). cond (is_leave m.act) 1 0) ms ns

none_more : (m : Move) (ms : List Move) → is_leave m.act ≡ false → leaves_in ms ≡ 0
    → leaves_in (m ∷ ms) ≡ 0
unfolding leaves_in
none_more m ms other none =
    let all = sum_by-cons (λ (x : Move). cond (is_leave x.act) 1 0) m ms in
    let zero = ap (λ (b : Bool). cond {A = ℕ} b 1 0) other in omega (arith, all, zero, none)

none_one : (m : Move) → is_leave m.act ≡ false → leaves_in (m ∷ []) ≡ 0
none_one m other = none_more m [] other none_in

none_both : (ms ns : List Move) → leaves_in ms ≡ 0 → leaves_in ns ≡ 0 → leaves_in (ms ++ ns) ≡ 0
none_both ms ns first second =
    let both = leaves_both ms ns in omega (arith, both, first, second)

none_read : (seen : List ℕ) → leaves_in (read_by seen) ≡ 0
none_read [] = none_in
none_read (w ∷ seen) =
    none_more (move act.Scan (outcome.Word w)) (read_by seen) refl (none_read seen)

none_paid : (p : Payment) → leaves_in (paid_by p) ≡ 0
none_paid payment.Left = none_one (move act.Pay outcome.Left) refl
none_paid payment.Ended =
    none_more (move act.Pay outcome.Zeroed) (move act.Finish outcome.Ended ∷ []) refl
    (none_one (move act.Finish outcome.Ended) refl)
none_paid payment.Lost =
    none_more (move act.Pay outcome.Zeroed) (move act.Finish outcome.Lost ∷ []) refl
    (none_one (move act.Finish outcome.Lost) refl)
none_paid payment.Helped =
    none_more (move act.Pay outcome.Zeroed)
    (move act.Finish outcome.Help ∷ move act.Take outcome.Ended ∷ []) refl
    (none_more (move act.Finish outcome.Help) (move act.Take outcome.Ended ∷ []) refl
    (none_one (move act.Take outcome.Ended) refl))
none_paid payment.NoHelp =
    none_more (move act.Pay outcome.Zeroed)
    (move act.Finish outcome.Help ∷ move act.Take outcome.NoHelp ∷ []) refl
    (none_more (move act.Finish outcome.Help) (move act.Take outcome.NoHelp ∷ []) refl
    (none_one (move act.Take outcome.NoHelp) refl))
none_paid payment.Freed =
    none_more (move act.Pay outcome.Last) (move act.Free outcome.Plain ∷ []) refl
    (none_one (move act.Free outcome.Plain) refl)

none_payments : (ps : List Payment) → leaves_in (flat_map paid_by ps) ≡ 0
none_payments [] = none_in
none_payments (p ∷ ps) =
    none_both (paid_by p) (flat_map paid_by ps) (none_paid p) (none_payments ps)

none_seen : (s : SlotId) (payload : List ℕ) (i n : ℕ)
    → leaves_in (each_from i n (λ k. move (act.See s k) (outcome.Word (slice_index payload k)))) ≡ 0
none_seen s payload i zero = none_in
none_seen s payload i (suc n) =
    none_more (move (act.See s i) (outcome.Word (slice_index payload i)))
    (each_from (i + 1) n (λ k. move (act.See s k) (outcome.Word (slice_index payload k)))) refl
    (none_seen s payload (i + 1) n)

-- a drop makes the moves of a payment, but for the first one's act
none_dropped : (s : SlotId) (how : Payment) → leaves_in (dropped_by s how) ≡ 0
none_dropped s payment.Left = none_one (move (act.Drop s) outcome.Left) refl
none_dropped s payment.Ended =
    none_more (move (act.Drop s) outcome.Zeroed) (move act.Finish outcome.Ended ∷ []) refl
    (none_one (move act.Finish outcome.Ended) refl)
none_dropped s payment.Lost =
    none_more (move (act.Drop s) outcome.Zeroed) (move act.Finish outcome.Lost ∷ []) refl
    (none_one (move act.Finish outcome.Lost) refl)
none_dropped s payment.Helped =
    none_more (move (act.Drop s) outcome.Zeroed)
    (move act.Finish outcome.Help ∷ move act.Take outcome.Ended ∷ []) refl
    (none_more (move act.Finish outcome.Help) (move act.Take outcome.Ended ∷ []) refl
    (none_one (move act.Take outcome.Ended) refl))
none_dropped s payment.NoHelp =
    none_more (move (act.Drop s) outcome.Zeroed)
    (move act.Finish outcome.Help ∷ move act.Take outcome.NoHelp ∷ []) refl
    (none_more (move act.Finish outcome.Help) (move act.Take outcome.NoHelp ∷ []) refl
    (none_one (move act.Take outcome.NoHelp) refl))
none_dropped s payment.Freed =
    none_more (move (act.Drop s) outcome.Last) (move act.Free outcome.Plain ∷ []) refl
    (none_one (move act.Free outcome.Plain) refl)

-- TRAILS
pub alone_same : (v w : CoreView) → w.trail ≡ v.trail → GoesOnAlone v w
alone_same v w is = ([], is ∙ sym (append-nil v.trail), none_in)

pub alone_then : (u v w : CoreView) → GoesOnAlone u v → GoesOnAlone v w → GoesOnAlone u w
alone_then u v w first more = (
  first.0 ++ more.0,
  more.1
      ∙ ap (λ (t : List Move). t ++ more.0) first.1
      ∙ append_assoc u.trail first.0 more.0,
  none_both first.0 more.0 first.2 more.2,
)

module _ (fits : List ℕ → Type 0) (d : DomainState WordsLaw) where
  step_alone : (a : Act) (old new : SeatState View) (o : Outcome)
      → Steps fits d same_view IsSameView a old new o → is_leave a ≡ false
      → GoesOnAlone old.view.core new.view.core
  step_alone a old new o step other = (
    move a o ∷ [],
    ap (λ (v : CoreView). v.trail) step.told.core
        ∙ (λ i. (changed_trail d.shape a step.word old.view.core).trail i
        ++ move a (sym step.answers i) ∷ []),
    none_one (move a o) other,
  )

  -- a seat that is as it was
  still_alone : (old new : SeatState View) → new ≡ old → GoesOnAlone old.view.core new.view.core
  still_alone old new same =
      alone_same old.view.core new.view.core
      (ap (λ (x : SeatState View). x.view.core.trail) same)

  collect_alone : (old new : SeatState View) → Collected fits d old new
      → GoesOnAlone old.view.core new.view.core
  collect_alone old new c =
      let it = c.collects in
      let stay = length new.view.core.retired in
      let go = length it.payments in (
        scanned_by it.seen it.last stay go ++ flat_map paid_by it.payments,
        it.goes.trail,
        none_both (scanned_by it.seen it.last stay go) (flat_map paid_by it.payments)
            (none_both (read_by it.seen) (move act.Scan (outcome.Split it.last stay go) ∷ [])
            (none_read it.seen) (none_one (move act.Scan (outcome.Split it.last stay go)) refl))
            (none_payments it.payments),
      )

  clear_alone : (p : EventPlace) (old new : SeatState View) → Clears fits d p old new
      → GoesOnAlone old.view.core new.view.core
  clear_alone p old new clears =
      let it = clears.swaps in
      alone_then old.view.core it.mid.view.core new.view.core (
        move (act.Swap p None) (outcome.Found clears.held) ∷ [],
        ap (λ (v : CoreView). v.trail) it.puts.core,
        none_one (move (act.Swap p None) (outcome.Found clears.held)) refl,
      )
      (⊎_elim
      (λ (due : IsDue d it.mid × Collected fits d it.mid new). collect_alone it.mid new due.1)
      (λ (below : IsBelow d it.mid × (new ≡ it.mid)). still_alone it.mid new below.1)
      it.scans)

  find_alone : (o : Option SlotId) (old new : SeatState View) → FindsRipe fits d o old new
      → GoesOnAlone old.view.core new.view.core
  find_alone None old new finds = collect_alone old new finds.1.collected
  find_alone (Some s) old new finds = ⊎_elim
      (λ same. still_alone old new same.1)
      (λ collected. collect_alone old new collected.1)
      finds.0

  destroy_alone : (s : SlotId) (old new : SeatState View) → Destroys fits d s old new
      → GoesOnAlone old.view.core new.view.core
  destroy_alone s old new it =
      alone_then old.view.core it.mid.view.core new.view.core
      (step_alone (act.Destroy s) old it.mid _ it.destroys refl) (freed it.last it.frees)
    where
      freed : (last : Bool)
          → MatchBool last (Steps fits d same_view IsSameView act.Free it.mid new outcome.Plain)
          (new ≡ it.mid)
          → GoesOnAlone it.mid.view.core new.view.core
      freed true frees = step_alone act.Free it.mid new outcome.Plain frees refl
      freed false same = still_alone it.mid new same

  reap_alone : (weight : List ℕ → ℕ) (answer : Option ℕ) (old new : SeatState View)
      → Answers fits d weight answer old new → GoesOnAlone old.view.core new.view.core
  reap_alone weight None old new got = ⊎_elim
      (λ none. still_alone old new none.1)
      (λ finds. find_alone None old new finds)
      got
  reap_alone weight (Some n) old new got =
      alone_then old.view.core got.ripe.view.core new.view.core
      (find_alone (Some got.slot) old got.ripe got.finds)
      (alone_then got.ripe.view.core got.first.view.core new.view.core
      (clear_alone (Field got.slot 0) got.ripe got.first got.clears_first)
      (alone_then got.first.view.core got.second.view.core new.view.core
      (clear_alone (Field got.slot 1) got.first got.second got.clears_second)
      (alone_then got.second.view.core got.null.view.core new.view.core
      (clear_alone (WeakField got.slot) got.second got.null got.clears_weak)
      (alone_then got.null.view.core got.read.view.core new.view.core (
        seen_by got.slot got.payload,
        ap (λ (v : CoreView). v.trail) got.sees.goes.becomes.core,
        none_seen got.slot got.payload 0 16,
      )
      (destroy_alone got.slot got.read new got.destroys)))))

  turns_alone : (weight : List ℕ → ℕ) (answers : List (Option ℕ)) (old new : SeatState View)
      → Turns fits d weight answers old new → GoesOnAlone old.view.core new.view.core
  turns_alone weight [] old new same = still_alone old new same
  turns_alone weight (Some n ∷ answers) old new turns =
      alone_then old.view.core turns.0.view.core new.view.core
      (turns_alone weight answers old turns.0 turns.1)
      (reap_alone weight (Some n) turns.0 new turns.2)
  turns_alone weight (None ∷ answers) old new turns =
      alone_then old.view.core turns.0.view.core new.view.core
      (turns_alone weight answers old turns.0 turns.1)
      (alone_then turns.0.view.core turns.2.0.view.core new.view.core
      (reap_alone weight None turns.0 turns.2.0 turns.2.1)
      (collect_alone turns.2.0 new turns.2.2.collected))

  settle_alone : (weight : List ℕ → ℕ) (total : ℕ) (old new : SeatState View)
      → Settles fits d weight total old new → GoesOnAlone old.view.core new.view.core
  settle_alone weight total old new settles =
      alone_then old.view.core settles.before.view.core new.view.core
      (turns_alone weight settles.answers old settles.before settles.turns)
      (alone_then settles.before.view.core settles.reaped.view.core new.view.core
      (reap_alone weight None settles.before settles.reaped settles.reaps_none)
      (collect_alone settles.reaped new settles.quiets.collected))

  pub drop_alone : (s : SlotId) (old new : SeatState View) → DropsStrong fits d s old new
      → GoesOnAlone old.view.core new.view.core
  drop_alone s old new drops = (
    dropped_by s drops.0,
    ap (λ (v : CoreView). v.trail) drops.1.core,
    none_dropped s drops.0,
  )

  -- an audit announces a slot, and takes that back
  pub stays_alone : (old new : SeatState View) → Stays fits d old new
      → GoesOnAlone old.view.core new.view.core
  stays_alone old new stays = (
    there_and_back stays.0,
    ap (λ (v : CoreView). v.trail) stays.1.core,
    none_more (move (act.Announce 0 Strong stays.0) outcome.Plain)
        (move (act.Release 0) outcome.Plain ∷ []) refl
        (none_one (move (act.Release 0) outcome.Plain) refl),
  )

  look_alone : (old new : SeatState View) → LearnsLaw fits d old new
      → GoesOnAlone old.view.core new.view.core
  look_alone old new learns = (
    move (act.Look (Cell learns.cell)) learns.saw ∷ [],
    ap (λ (v : CoreView). v.trail) learns.core,
    none_one (move (act.Look (Cell learns.cell)) learns.saw) refl,
  )

  -- an audit, and a look at each strong cell
  pub audit_alone : (old a b c : SeatState View) → Stays fits d old a → LearnsLaw fits d a b
      → LearnsLaw fits d b c → GoesOnAlone old.view.core c.view.core
  audit_alone old a b c stays first second =
      alone_then old.view.core a.view.core c.view.core (stays_alone old a stays)
      (alone_then a.view.core b.view.core c.view.core (look_alone a b first)
      (look_alone b c second))

  -- one turn more: a settle, and then what goes on
  pub turn_alone : (weight : List ℕ → ℕ) (total : ℕ) (old now mid new : SeatState View)
      → GoesOnAlone old.view.core now.view.core → Settles fits d weight total now mid
      → GoesOnAlone mid.view.core new.view.core → GoesOnAlone old.view.core new.view.core
  turn_alone weight total old now mid new before settles after =
      alone_then old.view.core now.view.core new.view.core before
      (alone_then now.view.core mid.view.core new.view.core
      (settle_alone weight total now mid settles) after)
