-- Whole scans are never fewer than before, and a collect makes one more.
use Rattle.std.proofs.Common.{◌≡◌, ◌≤◌, ⊎_elim, ℕ, ◌+◌, Bool, true, false, List, [], ◌∷◌, ◌++◌, length, sym, ap, ◌∙◌, arith}
use Rattle.std.specs.Prelude.{cond, None, Option, Some}
use Rattle.std.specs.Bool.{MatchBool}
use Rattle.std.specs.List.{flat_map}
use Rattle.std.proofs.lemmas.List.{append-nil}
use Rattle.std.proofs.lemmas.List.Sums.{sum_by-append, sum_by-cons}
use Rattle.control_word.specs.plain_state.declared.act.PlainAct.{PlainAct}
use Rattle.control_word.specs.plain_state.State.{Plain}
use Rattle.control_word.specs.plain_protocol.Owns.{OwnPart}
use Rattle.control_word.specs.core_events.declared.act.Act.{Act}
use Rattle.control_word.specs.core_events.declared.act.Act.TheVariants as act
use Rattle.control_word.specs.core_events.declared.outcome.Outcome.{Outcome}
use Rattle.control_word.specs.core_events.declared.outcome.Outcome.TheVariants as outcome
use Rattle.control_word.specs.core_events.declared.view.CoreView.{CoreView}
use Rattle.control_word.specs.core_events.declared.view.Move.{Move}
use Rattle.control_word.proofs.Below.core_law_Trails.{changed_trail}
use Rattle.control_word.specs.acquire_retire.Calls.{IsSameView, Steps, same_view}
use Rattle.control_word.specs.acquire_retire.Collecting.{Walks, move, paid_by, read_by, scanned_by}
use Rattle.control_word.specs.acquire_retire.Domains.{DomainState}
use Rattle.control_word.specs.acquire_retire.Seats.{SeatState}
use Rattle.hand_queues.specs.retiring_stores.Scanning.{Collected, ScansWhereDue}
use Rattle.hand_queues.specs.slot_store.Reaping.{Answers, Clears, Destroys, FindsRipe, seen_by}
use Rattle.control_word.specs.plain_state.declared.act.EventPlace.{EventPlace}
use Rattle.control_word.specs.plain_state.declared.slot.SlotId.{SlotId}
use Rattle.words_protocol.specs.words_law.Views.{View}
use Rattle.words_protocol.specs.declared.law.WordsLaw.{WordsLaw}
use Rattle.lane_files.specs.Scans.{ends_scan, scans_in, scans_of}

pub scans_both : (ms ns : List Move) → scans_in (ms ++ ns) ≡ scans_in ms + scans_in ns
unfolding scans_in
scans_both ms ns = sum_by-append (λ (m : Move). cond (ends_scan m.outcome) 1 0) ms ns

-- a trail that went on
pub goes_scans : (a b : SeatState View) (ms : List Move)
    → b.view.core.trail ≡ a.view.core.trail ++ ms → scans_of a + scans_in ms ≡ scans_of b
goes_scans a b ms goes =
    let s = ap scans_in goes in let t = scans_both a.view.core.trail ms in omega arith

pub more_scans : (a b : SeatState View)
    → (ms : List Move) × (b.view.core.trail ≡ a.view.core.trail ++ ms) → scans_of a ≤ scans_of b
more_scans a b (ms, goes) = let s = goes_scans a b ms goes in omega arith

same_scans : (a b : SeatState View) → b ≡ a → scans_of a ≤ scans_of b
same_scans a b same = let s = ap (λ (x : SeatState View). scans_of x) same in omega arith

split_scans : (last stay go : ℕ)
    → scans_in (move act.Scan (outcome.Split last stay go) ∷ []) ≡ 1
unfolding scans_in
split_scans last stay go =
    let m : Move = move act.Scan (outcome.Split last stay go) in
    let s = sum_by-cons (λ (m : Move). cond (ends_scan m.outcome) 1 0) m [] in omega arith

module _ (fits : List ℕ → Type 0) (d : DomainState WordsLaw) where
  step_goes : {next : OwnPart → OwnPart → View → PlainAct → ℕ → View}
      {allows : Plain → Plain → ℕ → View → View → Type 0} (a : Act) (old new : SeatState View)
      (o : Outcome) → Steps fits d next allows a old new o
      → new.view.core.trail ≡ old.view.core.trail ++ move a o ∷ []
  step_goes a old new o step =
      ap (λ (v : CoreView). v.trail) step.told.core
      ∙ (λ i. (changed_trail d.shape a step.word old.view.core).trail i
      ++ move a (sym step.answers i) ∷ [])

  step_scans : (a : Act) (old new : SeatState View) (o : Outcome)
      → Steps fits d same_view IsSameView a old new o → scans_of old ≤ scans_of new
  step_scans a old new o step = more_scans old new (move a o ∷ [], step_goes a old new o step)

  walk_scans : (ms : List Move) (old new : SeatState View) → Walks fits d ms old new
      → scans_of old + scans_in ms ≡ scans_of new
  walk_scans [] old new walks =
      let s = goes_scans old old [] (sym (append-nil old.view.core.trail)) in
      let e = ap (λ (x : SeatState View). scans_of x) walks in omega arith
  walk_scans (m ∷ ms) old new walks =
      let first = goes_scans old walks.0 (m ∷ [])
      (step_goes m.act old walks.0 m.outcome walks.1) in
      let rest = walk_scans ms walks.0 new walks.2 in
      let both = scans_both (m ∷ []) ms in omega arith

  pub collect_scans : (old new : SeatState View) → Collected fits d old new
      → scans_of old + 1 ≤ scans_of new
  collect_scans old new c =
      let it = c.collects in
      let stay = length new.view.core.retired in
      let go = length it.payments in
      let split = move act.Scan (outcome.Split it.last stay go) ∷ [] in
      let all = walk_scans (scanned_by it.seen it.last stay go ++ flat_map paid_by it.payments) old
      new it.goes.walks in
      let scanned = scans_both (scanned_by it.seen it.last stay go) (flat_map paid_by it.payments) in
      let words = scans_both (read_by it.seen) split in
      let one = split_scans it.last stay go in omega arith

  due_scans : (old new : SeatState View) → ScansWhereDue fits d old new
      → scans_of old ≤ scans_of new
  due_scans old new = ⊎_elim
      (λ due. let c = collect_scans old new due.1 in omega arith)
      (λ below. same_scans old new below.1)

  clear_scans : (p : EventPlace) (old new : SeatState View) → Clears fits d p old new
      → scans_of old ≤ scans_of new
  clear_scans p old new clears =
      let it = clears.swaps in
      let put = more_scans old it.mid (
        move (act.Swap p None) (outcome.Found clears.held) ∷ [],
        ap (λ (v : CoreView). v.trail) it.puts.core,
      ) in
      let due = due_scans it.mid new it.scans in omega arith

  find_scans : (o : Option SlotId) (old new : SeatState View) → FindsRipe fits d o old new
      → scans_of old ≤ scans_of new
  find_scans None old new finds =
      let c = collect_scans old new finds.1.collected in omega arith
  find_scans (Some s) old new finds = ⊎_elim
      (λ same. same_scans old new same.1)
      (λ collected. let c = collect_scans old new collected.1 in omega arith)
      finds.0

  destroy_scans : (s : SlotId) (old new : SeatState View) → Destroys fits d s old new
      → scans_of old ≤ scans_of new
  destroy_scans s old new it =
      let first = step_scans (act.Destroy s) old it.mid _ it.destroys in
      let second = freed it.last it.frees in omega arith
    where
      freed : (last : Bool)
          → MatchBool last (Steps fits d same_view IsSameView act.Free it.mid new outcome.Plain)
          (new ≡ it.mid)
          → scans_of it.mid ≤ scans_of new
      freed true frees = step_scans act.Free it.mid new outcome.Plain frees
      freed false same = same_scans it.mid new same

  pub reap_scans : (weight : List ℕ → ℕ) (answer : Option ℕ) (old new : SeatState View)
      → Answers fits d weight answer old new → scans_of old ≤ scans_of new
  reap_scans weight None old new got = ⊎_elim
      (λ none. same_scans old new none.1)
      (λ finds. find_scans None old new finds)
      got
  reap_scans weight (Some n) old new got =
      let found = find_scans (Some got.slot) old got.ripe got.finds in
      let first = clear_scans _ got.ripe got.first got.clears_first in
      let second = clear_scans _ got.first got.second got.clears_second in
      let third = clear_scans _ got.second got.null got.clears_weak in
      let sees = more_scans got.null got.read
      (seen_by got.slot got.payload, ap (λ (v : CoreView). v.trail) got.sees.goes.becomes.core) in
      let last = destroy_scans got.slot got.read new got.destroys in omega arith
