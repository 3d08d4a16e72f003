-- How many collects the turns of a settle take, and how many steps.
use Rattle.std.proofs.Common.{◌≡◌, ◌≢◌, ⊎_elim, ℕ, ◌+◌, ◌*◌, ◌<◌, ◌≤◌, List, [], ◌∷◌, length, refl, ap, sym, ◌∙◌, arith}
use Rattle.std.specs.Prelude.{None, IsSome}
use Rattle.std.proofs.Math.Nat.{add-mul, mul-le-mul_right}
use Rattle.std.proofs.lemmas.Bool.{cases_lt}
use Rattle.std.proofs.lemmas.List.{get_or_past}
use Rattle.protocol_pairs.specs.plain_state.declared.slot.SlotId.{SlotId}
use Rattle.protocol_pairs.specs.plain_state.Lists.{times}
use Rattle.claim_law.specs.core_events.declared.view.CoreView.{CoreView}
use Rattle.claim_law.specs.core_events.Counts.{stage}
use Rattle.claim_law.specs.core_events.Runs.{Core, view_at}
use Rattle.claim_law.specs.core_events.Views.{no_view}
use Rattle.claim_law.specs.core_events.Words.{announcements}
use Rattle.claim_law.proofs.Below.core_law_Kit.{below_at, one_same, times_cons, times_none, total_at}
use Rattle.claim_law.proofs.Below.core_law_Steady.{named_in_range}
use Rattle.claim_law.specs.core_promises.Destroyed.{standing}
use Rattle.claim_law.proofs.Below.core_law_Bridge.{shown_dying, shown_stage}
use Rattle.claim_law.proofs.Below.core_law_Lawful.{shows_lawful}
use Rattle.retiring_stores.specs.acquire_retire.Domains.{DomainState}
use Rattle.retiring_stores.specs.acquire_retire.Seats.{SeatState}
use Rattle.retiring_stores.specs.acquire_retire.Wholes.{known_core}
use Rattle.retiring_stores.specs.control_word.Resting.{IsAtRest}
use Rattle.retiring_stores.specs.Scanning.{Collected}
use Rattle.slot_store.specs.Reaping.{Answers, Reaps, Waits}
use Rattle.slot_store.specs.Settling.{GoesOn, Quiets, objects_known}
use Rattle.slot_store.specs.Spending.{collects_most, entries_of, settle_most, steps_made}
use Rattle.slot_store.proofs.Lasting.{Lasts, collect_lasts, known_then, objects_last, objects_may}
use Rattle.slot_store.proofs.Numbering.{collect_steps, reap_takes, steps_due}
use Rattle.slot_store.proofs.Rescanning.{quiet_again}
use Rattle.slot_store.proofs.Turning.{Fewer, none_parts, none_ripe, unripe, unripe_most, unripe_some}

-- how many collects may come yet: one for each entry, four for each object, and one where nothing
-- is ripe
abbrev pub collects_left : {P V : Type 0} → DomainState P → SeatState V → ℕ
collects_left d seat = entries_of seat + 4 * objects_known d seat + unripe seat.view.core.ripe

module _ {P V : Type 0} (d : DomainState P) where
  -- by so many collects a seat came from the one to the other
  pub record Spends (collects : ℕ) (old new : SeatState V) : Type 0 where
    pub steps :
        steps_due new + 30 * objects_known d new
        ≤ steps_due old + 30 * objects_known d old + collects * announcements d.shape
    pub charged : collects + collects_left d new ≤ collects_left d old

  pub spends_none : (a : SeatState V) → Spends 0 a a
  spends_none a = record { steps = omega arith; charged = omega arith }

  pub spends_on : (j k : ℕ) (a b c : SeatState V) → Spends j a b → Spends k b c → Spends (j + k) a c
  spends_on j k a b c first more = record {
    steps =
        let one = first.steps in
        let two = more.steps in
        let both = add-mul j k (announcements d.shape) in omega arith;
    charged = let one = first.charged in let two = more.charged in omega arith;
  }

module _ {P V : Type 0} (d : DomainState P) where
  -- a slot that is dying has an object
  some_object : (a b : SeatState V) → Lasts d a b → (s : SlotId) → 0 < times s b.view.core.dying
      → 0 < objects_known d b
  some_object a b lasts s dies =
      let z = d.shape in
      let c : Core = known_core b.view in
      let n = b.view.core.seat in
      let so = lasts.sound in
      let mine : b.view.core ≡ view_at c n = lasts.says.core in
      let is = ap (λ (v : CoreView). times s v.dying) mine in
      ⊎_elim
      (λ (there : n < length c.views).
      let views = so.views in
      let names = total_at (λ (v : CoreView). times s v.dying) c.views n there in
      let hs = named_in_range z n (view_at c n) s (so.seats n (omega arith)) (omega arith) in
      let shown = shown_dying z c s in
      let ended = sym (shown_stage z c s hs) ∙ ((shows_lawful z c so).dying s).1 (omega arith) in
      let one = ap standing ended in
      let below = below_at z.slots s.0 (λ x. standing (stage z c (record { 0 = x }))) hs in
      omega arith)
      (λ (past : length c.views ≤ n).
      let none = ap (λ (v : CoreView). times s v.dying) (get_or_past c.views n no_view past) in
      let nothing = times_none s in absurd (omega arith))
      (cases_lt n (length c.views))

module _ {P V : Type 0} {fits : List ℕ → Type 0} (d : DomainState P) where
  pub reaped_spends : (weight : List ℕ → ℕ) (answer : ℕ) (old new : SeatState V)
      → Reaps fits d weight answer old new → Fewer d old new → (k : ℕ) × Spends d k old new
  reaped_spends weight answer old new r fewer =
      let takes = reap_takes d weight answer old new r in
      let own = takes.1.steps in
      let entries = takes.1.entries in
      let objects = fewer.objects in (
        takes.0,
        record { steps = omega arith; charged = omega arith },
      )

  -- where a reap destroyed nothing and a collect goes on, each collect has ejected an entry or made
  -- a slot ripe
  pub collected_spends : (weight : List ℕ → ℕ) (old mid new : SeatState V) → IsAtRest d old
      → IsSome old.view.whole → Answers fits d weight None old mid → GoesOn fits d mid new
      → (k : ℕ) × Spends d k old new
  collected_spends weight old mid new rest known none goes =
      let reaped = none_parts d weight old mid known none in
      let k = known_then d old mid known reaped.lasts in
      let lasts = collect_lasts d mid new k goes.collected in
      let was : unripe old.view.core.ripe ≡ 1 =
      ap unripe (none_ripe d weight old mid new none lasts) in
      let objects = objects_may d old mid reaped.lasts in
      let more = objects_last d mid new lasts in
      let last = collect_steps d mid new goes.collected in
      let fewer = goes.collected.collects.retired in
      let some : 1 + entries_of new + unripe new.view.core.ripe ≤ entries_of mid + 1 =
      ⊎_elim
      (λ (ejected : length new.view.core.retired < length mid.view.core.retired).
      let ripe = unripe_most new.view.core.ripe in omega arith)
      (λ (ripe : new.view.core.ripe ≢ []).
      let none = unripe_some new.view.core.ripe ripe in omega arith)
      goes.more in
      ⊎_elim
      (λ (idle : (old.view.core.dying ≡ []) × (mid ≡ old)).
      let made = ap (λ (x : SeatState V). steps_made x) idle.1 in
      let kept = ap (λ (x : SeatState V). entries_of x) idle.1 in (
        1,
        record { steps = omega arith; charged = omega arith },
      ))
      (λ (waits : (old.view.core.ripe ≡ []) × Waits fits d old mid).
      let first = collect_steps d old mid waits.1.collected in
      ⊎_elim
      (λ (ejected : entries_of mid < entries_of old). (
        2,
        record { steps = omega arith; charged = omega arith },
      ))
      (λ (same : entries_of old ≤ entries_of mid).
      absurd (quiet_again d old mid new rest known waits.1.collected same waits.0 waits.1.none
      goes))
      (cases_lt (entries_of mid) (entries_of old)))
      none

  -- the last turn: a collect where nothing is dying, and else two, but then there is an object
  pub settle_steps : (weight : List ℕ → ℕ) (k : ℕ) (old now mid new : SeatState V)
      → IsSome now.view.whole → Spends d k old now → Answers fits d weight None now mid
      → (now.view.core.dying ≡ [] → mid ≡ now) → Quiets fits d mid new
      → steps_made new ≤ steps_made old + settle_most d old
  settle_steps weight k old now mid new known spends none idle quiet = ⊎_elim
      (λ (same : (now.view.core.dying ≡ []) × (mid ≡ now)). alone same.1)
      (λ (waits : (now.view.core.ripe ≡ []) × Waits fits d now mid).
      go now.view.core.dying refl waits.1.collected)
      none
    where
      left : unripe now.view.core.ripe ≡ 1
      left =
          let k = known_then d now mid known (none_parts d weight now mid known none).lasts in
          ap unripe
          (none_ripe d weight now mid new none (collect_lasts d mid new k quiet.collected))

      alone : mid ≡ now
          → steps_made new ≤ steps_made old + settle_most d old
      alone same =
          let so = spends.steps in
          let few = spends.charged in
          let one = left in
          let ripe = unripe_most old.view.core.ripe in
          let made = ap (λ (x : SeatState V). steps_made x) same in
          let kept = ap (λ (x : SeatState V). entries_of x) same in
          let last = collect_steps d mid new quiet.collected in
          let both = add-mul k 1 (announcements d.shape) in
          let all : k + 1 ≤ collects_most d old = omega arith in
          let most = mul-le-mul_right (announcements d.shape) all in omega arith

      go : (ds : List SlotId) → now.view.core.dying ≡ ds → Collected fits d now mid
          → steps_made new ≤ steps_made old + settle_most d old
      go [] none first = alone (idle none)
      go (s ∷ ss) some first =
          let lasts = collect_lasts d now mid known first in
          let dies = times_cons s s ss in
          let one = one_same s s refl in
          let is = ap (times s) some in
          let object = some_object d now mid lasts s (first.dying s (omega arith)) in
          let more = objects_last d now mid lasts in
          let so = spends.steps in
          let few = spends.charged in
          let ripe = unripe_most old.view.core.ripe in
          let reap = collect_steps d now mid first in
          let last = collect_steps d mid new quiet.collected in
          let both = add-mul k 2 (announcements d.shape) in
          let all : k + 2 ≤ collects_most d old = omega arith in
          let most = mul-le-mul_right (announcements d.shape) all in omega arith
