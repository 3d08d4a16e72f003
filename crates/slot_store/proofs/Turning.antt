-- What is left to do after each turn of a settle: an entry or an object fewer, or a slot that is ripe at last.
use Rattle.std.proofs.Common.{◌≡◌, ◌≢◌, inl, inr, ⊎_elim, ℕ, ◌+◌, ◌*◌, ◌<◌, ◌≤◌, Bool, true, false, List, [], ◌∷◌, length, refl, ap, sym, subst, arith}
use Rattle.std.specs.Bool.{MatchBool}
use Rattle.std.specs.Prelude.{Option, None, Some, IsSome}
use Rattle.std.proofs.lemmas.List.{length-append}
use Rattle.protocol_pairs.specs.plain_state.declared.act.EventPlace.{EventPlace}
use Rattle.protocol_pairs.specs.plain_state.declared.act.EventPlace.TheVariants.{Field, WeakField}
use Rattle.protocol_pairs.specs.plain_state.declared.slot.Kind.{Kind}
use Rattle.protocol_pairs.specs.plain_state.declared.slot.SlotId.{SlotId}
use Rattle.protocol_pairs.specs.plain_state.Lists.{Entry, times}
use Rattle.protocol_pairs.specs.plain_state.Places.{place_kind}
use Rattle.protocol_pairs.specs.plain_state.Steps.{joined}
use Rattle.claim_law.specs.core_events.declared.act.Act.TheVariants as act
use Rattle.claim_law.specs.core_events.declared.outcome.Outcome.{Outcome}
use Rattle.claim_law.specs.core_events.declared.outcome.Outcome.TheVariants as outcome
use Rattle.claim_law.specs.core_events.declared.view.CoreView.{CoreView}
use Rattle.claim_law.specs.core_events.Steps.{May}
use Rattle.claim_law.proofs.Below.core_law_Kit.{one_same, times_cons, times_none}
use Rattle.retiring_stores.specs.acquire_retire.Calls.{IsSameView, Steps, same_view}
use Rattle.retiring_stores.specs.acquire_retire.Domains.{DomainState}
use Rattle.retiring_stores.specs.acquire_retire.Seats.{SeatState}
use Rattle.retiring_stores.specs.Scanning.{Collected, IsBelow, IsDue}
use Rattle.slot_store.specs.Reaping.{Answers, Clears, FindsRipe, Reaps, Waits}
use Rattle.slot_store.specs.Settling.{GoesOn, objects_known}
use Rattle.slot_store.proofs.Lasting.{Lasts, MayLast, collect_lasts, destroy_stands, known_then, lasts_then, may_last_on, objects_last, objects_may, sees_last, stands, step_lasts, then_lasts}
use Rattle.slot_store.proofs.Objects.{below_less}
use Rattle.slot_store.proofs.Passing.{listed_has}
use Rattle.slot_store.proofs.Telling.{slot_there}

-- 1 where nothing is ripe: a turn may then end with nothing but a ripe slot more
abbrev pub unripe : List SlotId → ℕ
unripe [] = 1
unripe (s ∷ ss) = 0

pub unripe_most : (ss : List SlotId) → unripe ss ≤ 1
unripe_most [] = omega arith
unripe_most (s ∷ ss) = omega arith

pub unripe_some : (ss : List SlotId) → ss ≢ [] → unripe ss ≡ 0
unripe_some [] some = absurd (some refl)
unripe_some (s ∷ ss) some = refl

-- what each turn makes less: each object may yet leave three entries
abbrev pub work_left : {P V : Type 0} → DomainState P → SeatState V → ℕ
work_left d seat =
    2 * (length seat.view.core.retired + 4 * objects_known d seat) + unripe seat.view.core.ripe

-- a list in which nothing stands
pub nothing_in : (ss : List SlotId) → ((s : SlotId) → times s ss ≤ 0) → ss ≡ []
nothing_in [] none = refl
nothing_in (x ∷ xs) none =
    let first = none x in
    let more = times_cons x x xs in
    let one = one_same x x refl in absurd (omega arith)

pub joined_most : (k : Kind) (held : Option SlotId) (es : List Entry)
    → length (joined k held es) ≤ length es + 1
joined_most k None es = omega arith
joined_most k (Some s) es = let more = length-append es ((k, s) ∷ []) in omega arith

module _ {P V : Type 0} (d : DomainState P) where
  -- a part of a turn, which retires at most n entries more
  pub record Parts (n : ℕ) (old new : SeatState V) : Type 0 where
    pub lasts : MayLast d old new
    pub retired : length new.view.core.retired ≤ length old.view.core.retired + n

  parts_on : (n m : ℕ) (a b c : SeatState V) → Parts n a b → Parts m b c → Parts (n + m) a c
  parts_on n m a b c first more = record {
    lasts = may_last_on d a b c first.lasts more.lasts;
    retired = let one = first.retired in let two = more.retired in omega arith;
  }

  parts_none : (n : ℕ) (a b : SeatState V) → b ≡ a → Parts n a b
  parts_none n a b same = record {
    lasts = inl same;
    retired = let e = ap (λ (x : SeatState V). length x.view.core.retired) same in omega arith;
  }

  -- a turn that destroys an object
  pub record Fewer (old new : SeatState V) : Type 0 where
    pub lasts : Lasts d old new
    pub retired : length new.view.core.retired ≤ length old.view.core.retired + 3
    pub objects : objects_known d new + 1 ≤ objects_known d old

  stood_may : (s : SlotId) (a b : SeatState V) → s.0 < d.shape.slots → MayLast d a b
      → stands d s b ≤ stands d s a
  stood_may s a b there may = ⊎_elim
      (λ (same : b ≡ a). let e = ap (stands d s) same in omega arith)
      (λ (lasts : Lasts d a b). lasts.stood s there)
      may

  -- there is less to do then
  pub less_reaped : (old new : SeatState V) → Fewer old new → work_left d new + 1 ≤ work_left d old
  less_reaped old new fewer =
      let entries = fewer.retired in
      let objects = fewer.objects in
      let ripe = unripe_most new.view.core.ripe in omega arith

module _ {P V : Type 0} (fits : List ℕ → Type 0) (d : DomainState P) where
  -- a slot that was destroyed may be given back
  frees_parts : (last : Bool) (mid new : SeatState V) → IsSome mid.view.whole
      → MatchBool last (Steps fits d same_view IsSameView act.Free mid new outcome.Plain) (new ≡ mid)
      → Parts d 0 mid new
  frees_parts false mid new known same = parts_none d 0 mid new same
  frees_parts true mid new known step = record {
    lasts = inr (step_lasts d act.Free mid new outcome.Plain tt known step);
    retired = let e = ap (λ (v : CoreView). length v.retired) step.told.core in omega arith;
  }

module _ {P V : Type 0} {fits : List ℕ → Type 0} (d : DomainState P) where
  collect_parts : (old new : SeatState V) → IsSome old.view.whole → Collected fits d old new
      → Parts d 0 old new
  collect_parts old new known c = record {
    lasts = inr (collect_lasts d old new known c);
    retired = let fewer = c.collects.retired in omega arith;
  }

  finds_parts : (s : SlotId) (old new : SeatState V) → IsSome old.view.whole
      → FindsRipe fits d (Some s) old new → Parts d 0 old new
  finds_parts s old new known finds = ⊎_elim
      (λ (was : (0 < times s old.view.core.ripe) × (new ≡ old)). parts_none d 0 old new was.1)
      (λ (now : (old.view.core.ripe ≡ []) × Collected fits d old new).
      collect_parts old new known now.1)
      finds.0

  clears_parts : (p : EventPlace) (old new : SeatState V) → IsSome old.view.whole
      → Clears fits d p old new → Parts d 1 old new
  clears_parts p old new known c =
      let swaps = c.swaps in
      let step = step_lasts d (act.Swap p None) old swaps.mid _ tt known swaps.puts.step in
      let puts : Parts d 1 old swaps.mid = record {
        lasts = inr step;
        retired =
            let more = joined_most (place_kind p) c.held old.view.core.retired in
            let e = ap (λ (v : CoreView). length v.retired) swaps.puts.core in omega arith;
      } in
      parts_on d 1 0 old swaps.mid new puts (⊎_elim
      (λ (due : IsDue d swaps.mid × Collected fits d swaps.mid new).
      collect_parts swaps.mid new step.known due.1)
      (λ (none : IsBelow d swaps.mid × (new ≡ swaps.mid)). parts_none d 0 swaps.mid new none.1)
      swaps.scans)

  -- what is destroyed is a slot of the domain
  destroy_there : (s : SlotId) (old new : SeatState V) (o : Outcome) → IsSome old.view.whole
      → Steps fits d same_view IsSameView (act.Destroy s) old new o → s.0 < d.shape.slots
  destroy_there s old new o known step =
      let law = (step_lasts d (act.Destroy s) old new o tt known step).law in
      let may : May d.shape (act.Destroy s) old.view.core =
      subst (λ (v : CoreView). May d.shape (act.Destroy s) v) (sym step.told.happened.view)
      step.told.happened.enabled.1 in
      let ripe = may.1 in
      let dying = law.ripe s in
      slot_there step.told s (listed_has old.view.core s (omega arith))

  pub reaps_fewer : (weight : List ℕ → ℕ) (answer : ℕ) (old new : SeatState V)
      → IsSome old.view.whole → Reaps fits d weight answer old new → Fewer d old new
  reaps_fewer weight answer old new known r =
      let s = r.slot in
      let finds = finds_parts s old r.ripe known r.finds in
      let k0 = known_then d old r.ripe known finds.lasts in
      let one = clears_parts (Field s 0) r.ripe r.first k0 r.clears_first in
      let k1 = known_then d r.ripe r.first k0 one.lasts in
      let two = clears_parts (Field s 1) r.first r.second k1 r.clears_second in
      let k2 = known_then d r.first r.second k1 two.lasts in
      let three = clears_parts (WeakField s) r.second r.null k2 r.clears_weak in
      let k3 = known_then d r.second r.null k2 three.lasts in
      let sees : Parts d 0 r.null r.read = record {
        lasts = sees_last fits d s r.payload r.null r.read k3 r.sees.goes.becomes.walks;
        retired =
            let e = ap (λ (v : CoreView). length v.retired) r.sees.goes.becomes.core in omega arith;
      } in
      let k4 = known_then d r.null r.read k3 sees.lasts in
      let all = parts_on d 3 0 old r.null r.read
      (parts_on d 2 1 old r.second r.null (parts_on d 1 1 old r.first r.second
      (parts_on d 0 1 old r.ripe r.first finds one) two) three) sees in
      let step = r.destroys.destroys in
      let there = destroy_there s r.read r.destroys.mid _ k4 step in
      let gone = step_lasts d (act.Destroy s) r.read r.destroys.mid _ tt k4 step in
      let fell = destroy_stands d s r.read r.destroys.mid _ k4 there step in
      let frees = frees_parts fits d r.destroys.last r.destroys.mid new gone.known r.destroys.frees in
      let lasts = lasts_then d old r.destroys.mid new
      (then_lasts d old r.read r.destroys.mid all.lasts gone) frees.lasts in
      record {
        lasts = lasts;
        retired =
            let before = all.retired in
            let e = ap (λ (v : CoreView). length v.retired) step.told.core in
            let after = frees.retired in omega arith;
        objects =
            let was = stood_may d s old r.read there all.lasts in
            let is = stood_may d s r.destroys.mid new there frees.lasts in
            below_less d.shape.slots s.0 (λ x. stands d (record { 0 = x }) old)
            (λ x. stands d (record { 0 = x }) new) there
            (λ x inside. lasts.stood (record { 0 = x }) inside) (omega arith);
      }

  -- a reap that destroyed none
  pub none_parts : (weight : List ℕ → ℕ) (old mid : SeatState V) → IsSome old.view.whole
      → Answers fits d weight None old mid → Parts d 0 old mid
  none_parts weight old mid known none = ⊎_elim
      (λ (idle : (old.view.core.dying ≡ []) × (mid ≡ old)). parts_none d 0 old mid idle.1)
      (λ (waits : (old.view.core.ripe ≡ []) × Waits fits d old mid).
      collect_parts old mid known waits.1.collected)
      none

  -- found nothing ripe
  pub none_ripe : (weight : List ℕ → ℕ) (old mid new : SeatState V) → Answers fits d weight None old mid
      → Lasts d mid new → old.view.core.ripe ≡ []
  none_ripe weight old mid new none lasts = ⊎_elim
      (λ (idle : (old.view.core.dying ≡ []) × (mid ≡ old)).
      nothing_in old.view.core.ripe
      (λ s.
      let law = (subst (λ (x : SeatState V). Lasts d x new) idle.1 lasts).law in
      let fewer = law.ripe s in
      let e = ap (times s) idle.0 in
      let zero = times_none s in omega arith))
      (λ (waits : (old.view.core.ripe ≡ []) × Waits fits d old mid). waits.0)
      none

  -- and there is less to do where a collect went on from there
  pub less_collected : (weight : List ℕ → ℕ) (old mid new : SeatState V) → IsSome old.view.whole
      → Answers fits d weight None old mid → GoesOn fits d mid new
      → work_left d new + 1 ≤ work_left d old
  less_collected weight old mid new known none goes =
      let reaped = none_parts weight old mid known none in
      let k = known_then d old mid known reaped.lasts in
      let lasts = collect_lasts d mid new k goes.collected in
      let was : unripe old.view.core.ripe ≡ 1 =
      ap unripe (none_ripe weight old mid new none lasts) in
      let entries = reaped.retired in
      let fewer = goes.collected.collects.retired in
      let objects = objects_may d old mid reaped.lasts in
      let more = objects_last d mid new lasts in
      ⊎_elim
      (λ (ejected : length new.view.core.retired < length mid.view.core.retired).
      let ripe = unripe_most new.view.core.ripe in omega arith)
      (λ (ripe : new.view.core.ripe ≢ []).
      let some = unripe_some new.view.core.ripe ripe in omega arith)
      goes.more
