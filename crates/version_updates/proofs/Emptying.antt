-- The root cell gets null.
use Rattle.std.proofs.Common.{◌≡◌, ℕ, true, length, refl, ap, ◌∙◌, arith}
use Rattle.std.specs.Prelude.{Option, Some, None, IsSome}
use Rattle.std.specs.Option.{option_map}
use Rattle.std.proofs.lemmas.Bool.{false≢true}
use Rattle.map_law.specs.plain_state.declared.act.EventPlace.TheVariants.{Cell}
use Rattle.map_law.specs.plain_state.declared.act.PlainAct.TheVariants as plain
use Rattle.map_law.specs.plain_state.Lists.{times}
use Rattle.map_law.specs.plain_state.State.{Plain}
use Rattle.map_law.specs.declared.view.View.{View}
use Rattle.map_law.specs.Nodes.{IsNode}
use Rattle.map_law.specs.Publishing.{ClearReady, ClearTells, clear_next}
use Rattle.map_protocol.specs.declared.law.MapLaw.{MapLaw}
use Rattle.slot_store.specs.core_events.declared.view.CoreView.{CoreView}
use Rattle.slot_store.specs.core_events.Shows.{shows}
use Rattle.slot_store.specs.domain_rule.declared.view.Whole.{Whole}
use Rattle.slot_store.specs.domain_rule.Views.{IsAlone, KnowsAll, core_in, own_of}
use Rattle.slot_store.specs.acquire_retire.Domains.{DomainState}
use Rattle.slot_store.specs.acquire_retire.Seats.{SeatState}
use Rattle.slot_store.specs.control_word.Moves.{KnowsStill}
use Rattle.slot_store.specs.retiring_stores.Exchanging.{Stores}
use Rattle.version_making.specs.Keeping.{IsReadyFor, Keeps, aside, none}
use Rattle.version_making.proofs.Keeping.{goes_none, goes_then, grows_same, keeps_by}
use Rattle.version_updates.specs.Clearing.{IsCleared}
use Rattle.version_updates.specs.Publishing.{but_for}
use Rattle.version_updates.proofs.Beside.{grows_but_for, noted}
use Rattle.version_updates.proofs.Replacing.{scans_go}

-- what is known of the whole state
known_whole : (z : _) (w : Option Whole) → IsSome w
    → (p : Plain) × (option_map (λ all. shows z (core_in all)) w ≡ Some p)
known_whole z None some = absurd (false≢true some)
known_whole z (Some all) some = (shows z (core_in all), refl)

-- THE DEED is ready
pub clear_ready : {P : Type 0} (d : DomainState P) (b c : ℕ) (seat : SeatState View) → b ≡ c
    → IsReadyFor d seat → IsAlone seat.view → KnowsAll seat.view
    → ClearReady c (own_of seat.view) seat.view.client (plain.Replace (Cell b) None)
clear_ready d b c seat same ready alone knows =
    let all = known_whole seat.view.core.shape seat.view.whole (knows alone) in record {
      is = ap (λ (x : ℕ). plain.Replace (Cell x) None) same;
      here = ready.here;
      whole = all.0;
      alone = all.1;
    }

module _ (d : DomainState MapLaw) (c : ℕ) (a b : SeatState View)
    (does : Stores IsNode d clear_next (ClearTells d.protocol.cell) (Cell c) None a b) where
  abbrev mid : SeatState View
  mid = does.swaps.mid

  -- THE VIEW tells it
  pub client_cleared : b.view.client ≡ record a.view.client { cleared = true }
  client_cleared = does.swaps.client ∙ does.swaps.puts.step.told.client

  -- THE CELL holds null
  pub cleared : IsCleared d c a b
  cleared = record {
    held = does.held;
    swap = record {
      before = a;
      after = mid;
      step = does.swaps.puts.step;
      since = goes_none a.view.core a.view.core refl;
      till = scans_go d mid b does.swaps.scans;
      holds = (does.swaps.puts.shows_held, does.swaps.puts.shows_given);
    };
  }

  -- THE SEAT has what it had, and is alone
  pub keeps_cleared : KnowsStill a.view.core a b
      → Keeps 0 0 none none a (but_for a.view.client b)
  keeps_cleared knows =
      keeps_by 0 0 none none a (but_for a.view.client b) a.view.core a.view.core
      (goes_then a.view.core mid.view.core b.view.core
      (_, ap (λ (v : CoreView). v.trail) does.swaps.puts.core)
      (scans_go d mid b does.swaps.scans))
      (ap aside does.swaps.same)
      (λ x. ap (λ (v : CoreView). times x v.owned) does.swaps.same) (
        ap (λ (v : CoreView). v.makes) does.swaps.same,
        ap (λ (v : CoreView). v.adds) does.swaps.same,
      )
      (λ x. refl) (omega arith, omega arith) (omega arith, omega arith) knows (λ x less. less)
      (grows_but_for a.view.client a.view.client b.view.client
      (grows_same a.view.client a.view.client refl) (ap noted client_cleared))

  pub alone_still : IsAlone a.view → IsAlone b.view
  alone_still alone =
      let seat = ap (λ (v : CoreView). v.seat) does.swaps.same in
      let left = ap (λ (v : CoreView). length v.left_seats) does.swaps.same in
      let seats = ap (λ (v : CoreView). v.shape.seats) does.swaps.same in (
        seat ∙ alone.0,
        let both = alone.1 in omega (arith, left, seats, both),
      )
