-- What a collect and a reap leave of a seat.
use Rattle.std.proofs.Common.{◌≡◌, ◌≤◌, ⊎_elim, ℕ, List, [], ap, arith}
use Rattle.std.specs.Prelude.{None, Option, Some}
use Rattle.control_word.specs.plain_state.Lists.{times}
use Rattle.control_word.specs.core_events.declared.view.CoreView.{CoreView}
use Rattle.control_word.specs.acquire_retire.Collecting.{rest_of}
use Rattle.control_word.specs.acquire_retire.Domains.{DomainState}
use Rattle.control_word.specs.acquire_retire.Seats.{SeatState}
use Rattle.hand_queues.proofs.Below.protected_loads_Telling.{holds_has}
use Rattle.hand_queues.specs.retiring_stores.Scanning.{Collected}
use Rattle.hand_queues.specs.slot_store.Reaping.{Answers, KnowsBoth}
use Rattle.words_protocol.specs.words_law.Views.{View}
use Rattle.words_protocol.specs.declared.law.WordsLaw.{WordsLaw}
use Rattle.hand_queues.proofs.Below.slot_store_Passing.{passes_collect}
use Rattle.lane_files.specs.declared.shared.Shared.{Shared}
use Rattle.lane_files.specs.Ready.{IsReady, Owns}
use Rattle.lane_files.specs.Scans.{scans_of}
use Rattle.lane_files.proofs.Copied.{copy_ready}
use Rattle.lane_files.proofs.Scanned.{collect_scans, reap_scans}

pub owns_rest : (a b : SeatState View) → rest_of b.view.core ≡ rest_of a.view.core → KnowsBoth a b
    → scans_of a ≤ scans_of b → Owns a.view.core.owned a b
owns_rest a b same knows scans = record {
  strongly = λ x. ap (λ (v : CoreView). times x v.owned) same;
  weakly = λ x. ap (λ (v : CoreView). times x v.weaks) same;
  same = ap (λ (v : CoreView). record v { owned = []; weaks = []; made = []; adds = 0; makes = 0 }) same;
  knows = λ x was is. knows x (holds_has a.view.core x was) (holds_has b.view.core x is);
  scans = scans;
}

module _ (fits : List ℕ → Type 0) (d : DomainState WordsLaw) (a b : SeatState View) where
  pub owns_collect : Collected fits d a b → Owns a.view.core.owned a b
  owns_collect c = owns_rest a b c.collects.goes.rest (λ s was is. c.knows s was)
      (let s = collect_scans fits d a b c in omega arith)

  reap_rest : (weight : List ℕ → ℕ) (answer : Option ℕ) → Answers fits d weight answer a b
      → rest_of b.view.core ≡ rest_of a.view.core
  reap_rest weight None got = ⊎_elim
      (λ none. ap (λ (s : SeatState View). rest_of s.view.core) none.1)
      (λ waits. waits.1.collected.collects.goes.rest)
      got
  reap_rest weight (Some n) got = got.same

  pub owns_reap : (weight : List ℕ → ℕ) (answer : Option ℕ) → Answers fits d weight answer a b
      → KnowsBoth a b → Owns a.view.core.owned a b
  owns_reap weight answer got knows =
      owns_rest a b (reap_rest weight answer got) knows (reap_scans fits d weight answer a b got)

  pub makes_collect : Collected fits d a b → b.view.core.makes ≡ a.view.core.makes
  makes_collect c = ap (λ (v : CoreView). v.makes) c.collects.goes.rest

  pub makes_reap : (weight : List ℕ → ℕ) (answer : Option ℕ) → Answers fits d weight answer a b
      → b.view.core.makes ≡ a.view.core.makes
  makes_reap weight answer got = ap (λ (v : CoreView). v.makes) (reap_rest weight answer got)

module _ {fits : List ℕ → Type 0} {d : DomainState WordsLaw} {on : Shared} (a b : SeatState View)
    (ready : IsReady d on a) (c : Collected fits d a b) where
  pub collect_same : b.view.client ≡ a.view.client
  collect_same = c.collects.goes.client

  pub ready_collect : IsReady d on b
  ready_collect = copy_ready a b ready (owns_collect fits d a b c) collect_same
      (passes_collect d a b ready.rest ready.room c).room c.rest
