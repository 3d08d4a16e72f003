-- How many steps a collect takes and a reap, and how many collects.
use Rattle.std.proofs.Common.{◌≡◌, ⊎_elim, ℕ, ◌+◌, ◌*◌, ◌<◌, ◌≤◌, Bool, true, false, List, [], ◌∷◌, ◌++◌, length, refl, ap, arith, length-append}
use Rattle.std.specs.Bool.{MatchBool}
use Rattle.std.specs.Prelude.{Option, None, Some, flat_map}
use Rattle.std.proofs.lemmas.List.{length-map}
use Rattle.std.proofs.Math.Nat.{add-mul, mul-le-mul_right}
use Rattle.protocol_pairs.specs.plain_state.declared.act.EventPlace.{EventPlace}
use Rattle.protocol_pairs.specs.plain_state.declared.act.EventPlace.TheVariants.{Field, WeakField}
use Rattle.protocol_pairs.specs.plain_state.declared.slot.SlotId.{SlotId}
use Rattle.protocol_pairs.specs.plain_state.Lists.{times}
use Rattle.protocol_pairs.specs.plain_state.Places.{place_kind}
use Rattle.protocol_pairs.specs.plain_state.State.{Plain}
use Rattle.protocol_pairs.specs.plain_state.declared.act.PlainAct.{PlainAct}
use Rattle.protocol_pairs.specs.plain_protocol.Owns.{OwnPart}
use Rattle.claim_law.specs.core_events.declared.act.Act.{Act}
use Rattle.claim_law.specs.core_events.declared.act.Act.TheVariants as act
use Rattle.claim_law.specs.core_events.declared.outcome.Outcome.{Outcome}
use Rattle.claim_law.specs.core_events.declared.outcome.Outcome.TheVariants as outcome
use Rattle.claim_law.specs.core_events.declared.view.CoreView.{CoreView}
use Rattle.claim_law.specs.core_events.declared.view.Move.{Move}
use Rattle.claim_law.specs.core_events.Steps.{answer, changed}
use Rattle.claim_law.specs.core_events.Words.{announcements}
use Rattle.claim_law.proofs.Below.core_law_Trails.{changed_trail}
use Rattle.retiring_stores.specs.acquire_retire.declared.payment.Payment.{Payment}
use Rattle.retiring_stores.specs.acquire_retire.declared.payment.Payment.TheVariants as payment
use Rattle.retiring_stores.specs.acquire_retire.Calls.{IsSameView, Steps, same_view}
use Rattle.retiring_stores.specs.acquire_retire.Collecting.{Walks, move, paid_by, read_by, scanned_by}
use Rattle.retiring_stores.specs.acquire_retire.Domains.{DomainState}
use Rattle.retiring_stores.specs.acquire_retire.Seats.{SeatState}
use Rattle.retiring_stores.specs.Scanning.{Collected, IsBelow, IsDue}
use Rattle.slot_store.specs.Reaping.{Answers, Clears, Destroys, FindsRipe, Reaps, SeesAll, Waits, seen_by}
use Rattle.slot_store.specs.Spending.{entries_of, reap_most, steps_made}
use Rattle.slot_store.proofs.Turning.{joined_most, unripe, unripe_most}

-- the steps of a seat, and those that payments for its entries take at most
abbrev pub steps_due : {V : Type 0} → SeatState V → ℕ
steps_due seat = steps_made seat + 3 * entries_of seat

module _ {P V : Type 0} {fits : List ℕ → Type 0} (d : DomainState P)
    {next : OwnPart → OwnPart → V → PlainAct → ℕ → V}
    {allows : Plain → Plain → ℕ → V → V → Type 0} where
  one_step_more : (a : Act) (old new : SeatState V) (o : Outcome)
      → Steps fits d next allows a old new o → steps_made new ≡ steps_made old + 1
  one_step_more a old new o step =
      let e = ap (λ (v : CoreView). length v.trail) step.told.core in
      let same = ap length (changed_trail d.shape a step.word old.view.core).trail in
      let m : Move = move a (answer d.shape a step.word old.view.core) in
      let more = length-append (changed d.shape a step.word old.view.core).trail (m ∷ []) in
      omega arith

module _ {P V : Type 0} (fits : List ℕ → Type 0) (d : DomainState P) where
  walk_steps : (ms : List Move) (old new : SeatState V) → Walks fits d ms old new
      → steps_made new ≡ steps_made old + length ms
  walk_steps [] old new walks =
      let e = ap (λ (x : SeatState V). steps_made x) walks in omega arith
  walk_steps (m ∷ ms) old new walks =
      let one = one_step_more d m.act old walks.0 m.outcome walks.1 in
      let rest = walk_steps ms walks.0 new walks.2 in omega arith

-- a payment takes at most three steps
payment_steps : (p : Payment) → length (paid_by p) ≤ 3
payment_steps payment.Left = omega arith
payment_steps payment.Ended = omega arith
payment_steps payment.Lost = omega arith
payment_steps payment.Helped = omega arith
payment_steps payment.NoHelp = omega arith
payment_steps payment.Freed = omega arith

payments_steps : (ps : List Payment) → length (flat_map paid_by ps) ≤ 3 * length ps
payments_steps [] = omega arith
payments_steps (p ∷ ps) =
    let one = payment_steps p in
    let rest = payments_steps ps in
    let both = length-append (paid_by p) (flat_map paid_by ps) in omega arith

scan_steps : (seen : List ℕ) (last stay go : ℕ)
    → length (scanned_by seen last stay go) ≡ length seen + 1
scan_steps seen last stay go =
    let all = length-append (read_by seen) (move act.Scan (outcome.Split last stay go) ∷ []) in
    let each = length-map seen (λ w. move act.Scan (outcome.Word w)) in omega arith

module _ {P V : Type 0} (d : DomainState P) where
  -- A part of a reap takes so many steps of its own, beside its collects. Each of these ejects an
  -- entry, and comes with an entry that is retired.
  pub record Takes (collects own came : ℕ) (old new : SeatState V) : Type 0 where
    pub steps : steps_due new ≤ steps_due old + own + collects * announcements d.shape
    pub entries : entries_of new + collects ≤ entries_of old + came
    pub few : collects ≤ came

  takes_on : (j k m n x y : ℕ) (a b c : SeatState V) → Takes j m x a b → Takes k n y b c
      → Takes (j + k) (m + n) (x + y) a c
  takes_on j k m n x y a b c first more = record {
    steps =
        let one = first.steps in
        let two = more.steps in
        let both = add-mul j k (announcements d.shape) in omega arith;
    entries = let one = first.entries in let two = more.entries in omega arith;
    few = let one = first.few in let two = more.few in omega arith;
  }

  -- A reap that destroys a slot: its collects eject an entry each, but for one that it makes where
  -- nothing is ripe.
  pub record ReapTakes (collects : ℕ) (old new : SeatState V) : Type 0 where
    pub steps : steps_due new ≤ steps_due old + 30 + collects * announcements d.shape
    pub entries :
        collects + entries_of new + unripe new.view.core.ripe
        ≤ entries_of old + 4 + unripe old.view.core.ripe
    pub few : collects ≤ 4

module _ {P V : Type 0} {fits : List ℕ → Type 0} (d : DomainState P) where
  -- a collect reads each announcement word, and pays for what it ejects
  pub collect_steps : (old new : SeatState V) → Collected fits d old new
      → steps_due new ≤ steps_due old + announcements d.shape
  collect_steps old new c =
      let k = c.collects in
      let walked = walk_steps fits d
      (scanned_by k.seen k.last (length new.view.core.retired) (length k.payments)
      ++ flat_map paid_by k.payments) old new k.goes.walks in
      let both = length-append
      (scanned_by k.seen k.last (length new.view.core.retired) (length k.payments))
      (flat_map paid_by k.payments) in
      let scan = scan_steps k.seen k.last (length new.view.core.retired) (length k.payments) in
      let pays = payments_steps k.payments in
      let all = k.all in
      let fewer = k.retired in omega arith

  -- an exchange retires an entry, and collects only where more are retired than a scan may keep
  clears_takes : (p : EventPlace) (old new : SeatState V) → Clears fits d p old new
      → (k : ℕ) × Takes d k 4 1 old new
  clears_takes p old new c =
      let one = one_step_more d (act.Swap p None) old c.swaps.mid _ c.swaps.puts.step in
      let more = joined_most (place_kind p) c.held old.view.core.retired in
      let e = ap (λ (v : CoreView). length v.retired) c.swaps.puts.core in
      ⊎_elim
      (λ (due : IsDue d c.swaps.mid × Collected fits d c.swaps.mid new).
      let some = c.swaps.puts.step.told.happened.shape.6 in
      let full = due.0 in
      let fewer = due.1.collects.few in
      let collect = collect_steps c.swaps.mid new due.1 in (
        1,
        record { steps = omega arith; entries = omega arith; few = omega arith },
      ))
      (λ (none : IsBelow d c.swaps.mid × (new ≡ c.swaps.mid)).
      let same = ap (λ (x : SeatState V). steps_made x) none.1 in
      let kept = ap (λ (x : SeatState V). entries_of x) none.1 in (
        0,
        record { steps = omega arith; entries = omega arith; few = omega arith },
      ))
      c.swaps.scans

  sees_takes : (s : SlotId) (payload : List ℕ) (old new : SeatState V)
      → SeesAll fits d s payload old new → Takes d 0 16 0 old new
  sees_takes s payload old new sees =
      let walked = walk_steps fits d (seen_by s payload) old new sees.goes.becomes.walks in
      let all : length (seen_by s payload) ≡ 16 = refl in
      let e = ap (λ (v : CoreView). length v.retired) sees.goes.becomes.core in
      record { steps = omega arith; entries = omega arith; few = omega arith }

module _ {P V : Type 0} (fits : List ℕ → Type 0) (d : DomainState P) where
  frees_takes : (last : Bool) (mid new : SeatState V)
      → MatchBool last (Steps fits d same_view IsSameView act.Free mid new outcome.Plain)
      (new ≡ mid) → Takes d 0 1 0 mid new
  frees_takes false mid new same =
      let made = ap (λ (x : SeatState V). steps_made x) same in
      let kept = ap (λ (x : SeatState V). entries_of x) same in
      record { steps = omega arith; entries = omega arith; few = omega arith }
  frees_takes true mid new step =
      let one = one_step_more d act.Free mid new outcome.Plain step in
      let kept = ap (λ (v : CoreView). length v.retired) step.told.core in
      record { steps = omega arith; entries = omega arith; few = omega arith }

module _ {P V : Type 0} {fits : List ℕ → Type 0} (d : DomainState P) where
  -- a slot is given up by a destroy, and it may be given back
  destroys_takes : (s : SlotId) (old new : SeatState V) → Destroys fits d s old new
      → Takes d 0 2 0 old new
  destroys_takes s old new r =
      let one = one_step_more d (act.Destroy s) old r.mid _ r.destroys in
      let kept = ap (λ (v : CoreView). length v.retired) r.destroys.told.core in
      let first : Takes d 0 1 0 old r.mid =
      record { steps = omega arith; entries = omega arith; few = omega arith } in
      takes_on d 0 0 1 1 0 0 old r.mid new first (frees_takes fits d r.last r.mid new r.frees)

  finds_takes : (s : SlotId) (old new : SeatState V) → FindsRipe fits d (Some s) old new
      → (k : ℕ) × (k ≤ unripe old.view.core.ripe)
      × (steps_due new ≤ steps_due old + k * announcements d.shape)
      × (entries_of new ≤ entries_of old)
  finds_takes s old new finds = ⊎_elim
      (λ (was : (0 < times s old.view.core.ripe) × (new ≡ old)).
      let made = ap (λ (x : SeatState V). steps_made x) was.1 in
      let kept = ap (λ (x : SeatState V). entries_of x) was.1 in
      (0, omega arith, omega arith, omega arith))
      (λ (now : (old.view.core.ripe ≡ []) × Collected fits d old new).
      let none : unripe old.view.core.ripe ≡ 1 = ap unripe now.0 in
      let collect = collect_steps d old new now.1 in
      let fewer = now.1.collects.retired in
      (1, omega arith, omega arith, omega arith))
      finds.0

  pub reap_takes : (weight : List ℕ → ℕ) (weighs : ℕ) (old new : SeatState V)
      → Reaps fits d weight weighs old new → (k : ℕ) × ReapTakes d k old new
  reap_takes weight weighs old new r =
      let s = r.slot in
      let finds = finds_takes s old r.ripe r.finds in
      let one = clears_takes d (Field s 0) r.ripe r.first r.clears_first in
      let two = clears_takes d (Field s 1) r.first r.second r.clears_second in
      let three = clears_takes d (WeakField s) r.second r.null r.clears_weak in
      let null = takes_on d (one.0 + two.0) three.0 8 4 2 1 r.ripe r.second r.null
      (takes_on d one.0 two.0 4 4 1 1 r.ripe r.first r.second one.1 two.1) three.1 in
      let read = takes_on d (one.0 + two.0 + three.0) 0 12 16 3 0 r.ripe r.null r.read null
      (sees_takes d s r.payload r.null r.read r.sees) in
      let all = takes_on d (one.0 + two.0 + three.0 + 0) 0 28 2 3 0 r.ripe r.read new read
      (destroys_takes s r.read new r.destroys) in
      let k = one.0 + two.0 + three.0 + 0 + 0 in
      let both = add-mul finds.0 k (announcements d.shape) in
      let some = unripe_most old.view.core.ripe in
      let more = unripe_most new.view.core.ripe in
      let steps = all.steps in
      let entries = all.entries in
      let few = all.few in
      let first = finds.1 in (
        finds.0 + k,
        record { steps = omega arith; entries = omega arith; few = omega arith },
      )

  -- a reap that destroyed none has collected at most once
  pub none_takes : (weight : List ℕ → ℕ) (old mid : SeatState V)
      → Answers fits d weight None old mid
      → (steps_due mid ≤ steps_due old + announcements d.shape) × (entries_of mid ≤ entries_of old)
  none_takes weight old mid none = ⊎_elim
      (λ (idle : (old.view.core.dying ≡ []) × (mid ≡ old)).
      let made = ap (λ (x : SeatState V). steps_made x) idle.1 in
      let kept = ap (λ (x : SeatState V). entries_of x) idle.1 in
      (omega arith, omega arith))
      (λ (waits : (old.view.core.ripe ≡ []) × Waits fits d old mid).
      let collect = collect_steps d old mid waits.1.collected in
      let fewer = waits.1.collected.collects.retired in
      (omega arith, omega arith))
      none

module _ {P V : Type 0} (fits : List ℕ → Type 0) (d : DomainState P) where
  -- the steps of a reap, whatever it answers
  pub reap_steps : (weight : List ℕ → ℕ) (answered : Option ℕ) (old new : SeatState V)
      → Answers fits d weight answered old new
      → steps_made new ≤ steps_made old + reap_most d old
  reap_steps weight None old new none =
      let one = none_takes d weight old new none in
      let steps = one.0 in omega arith
  reap_steps weight (Some weighs) old new r =
      let takes = reap_takes d weight weighs old new r in
      let steps = takes.1.steps in
      let few = mul-le-mul_right (announcements d.shape) takes.1.few in omega arith
