-- What calls do they do as a part sees them.
use Rattle.std.proofs.Common.{◌≡◌, inl, inr, ⊎_elim, ℕ, List, ap}
use Rattle.std.specs.Prelude.{Err, IfErr, Ok, Option, Result, Some, None}
use Rattle.control_word.specs.plain_state.declared.act.EventPlace.{EventPlace}
use Rattle.control_word.specs.plain_state.declared.act.PlainAct.{PlainAct}
use Rattle.control_word.specs.plain_state.declared.slot.SlotId.{SlotId}
use Rattle.control_word.specs.plain_state.State.{Plain}
use Rattle.control_word.specs.plain_protocol.Owns.{OwnPart}
use Rattle.control_word.specs.core_events.declared.view.CoreView.{CoreView}
use Rattle.control_word.specs.core_events.declared.view.Move.{Move}
use Rattle.control_word.specs.acquire_retire.Calls.{IsSameView, same_view}
use Rattle.control_word.specs.acquire_retire.declared.payment.Work.{Work}
use Rattle.control_word.specs.acquire_retire.Collecting.{Collects, Goes as GoesOn}
use Rattle.control_word.specs.acquire_retire.Domains.{DomainState}
use Rattle.control_word.specs.acquire_retire.Seats.{SeatState}
use Rattle.control_word.specs.Calls.{DropsStrong, GainsStrong}
use Rattle.atomic_shared.specs.protected_loads.Loads.{Announces, FindsNull, Misses, Protects}
use Rattle.atomic_shared.specs.protected_loads.References.{Loads, Refers}
use Rattle.control_word.specs.Moves.{Becomes}
use Rattle.atomic_shared.specs.retiring_stores.Exchanging.{Exchanges, LosesTo, Replaces, Stores}
use Rattle.atomic_shared.specs.retiring_stores.Scanning.{Collected, ScansWhereDue}
use Rattle.slot_store.specs.Calls.{Begins, Makes}
use Rattle.slot_store.specs.Searching.{Goes, Misses as MissesAll}
use Rattle.part_calls.specs.Parts.{as_part, seen_by}
use Rattle.part_calls.proofs.Seen.{IsSeen, becomes_seen, rest_seen, same_seen, steps_seen, walks_seen}

-- STEPS WITHOUT A DEED
module _ {P Q V W : Type 0} (fits : List ℕ → Type 0) (part : P → Q) (seen : V → W)
    (d : DomainState P) where
  abbrev pub stays_seen : (ms : List Move) (v : CoreView) (old new : SeatState V)
      → Becomes fits d same_view IsSameView ms v old new
      → Becomes fits (as_part part d) same_view IsSameView ms v (seen_by seen old)
      (seen_by seen new)
  stays_seen ms v old new by = becomes_seen fits part seen d (same_seen seen) ms v old new by

  pub gains_seen : (s : SlotId) (old new : SeatState V)
      → GainsStrong fits d same_view IsSameView s old new
      → GainsStrong fits (as_part part d) same_view IsSameView s (seen_by seen old)
      (seen_by seen new)
  gains_seen s old new by = stays_seen _ _ old new by

  pub drops_seen : (s : SlotId) (old new : SeatState V) → DropsStrong fits d s old new
      → DropsStrong fits (as_part part d) s (seen_by seen old) (seen_by seen new)
  drops_seen s old new by = (by.0, stays_seen _ _ old new by.1)

  goes_on_seen : (ms : List Move) (old new : SeatState V) → GoesOn fits d ms old new
      → GoesOn fits (as_part part d) ms (seen_by seen old) (seen_by seen new)
  goes_on_seen ms old new g = record {
    walks = walks_seen fits part seen d (same_seen seen) ms old new g.walks;
    rest = g.rest;
    client = ap seen g.client;
    beside = record {
      cleared = g.beside.cleared;
      opened = g.beside.opened;
      left_adds = g.beside.left_adds;
      left_makes = g.beside.left_makes;
    };
    trail = g.trail;
  }

  collects_seen : (old new : SeatState V) (work : Work) → Collects fits d old new work
      → Collects fits (as_part part d) (seen_by seen old) (seen_by seen new) work
  collects_seen old new work c = record {
    seen = c.seen;
    last = c.last;
    payments = c.payments;
    all = c.all;
    goes = goes_on_seen _ old new c.goes;
    did = c.did;
    idle = c.idle;
    owes_nothing = c.owes_nothing;
    retired = c.retired;
    few = c.few;
    moves = c.moves;
  }

  collected_seen : (old new : SeatState V) → Collected fits d old new
      → Collected fits (as_part part d) (seen_by seen old) (seen_by seen new)
  collected_seen old new c = record {
    work = c.work;
    collects = collects_seen old new c.work c.collects;
    dying = c.dying;
    ripe = c.ripe;
    knows = c.knows;
    cleared = c.cleared;
    below = c.below;
    rest = rest_seen part seen d new c.rest;
  }

  scans_seen : (old new : SeatState V) → ScansWhereDue fits d old new
      → ScansWhereDue fits (as_part part d) (seen_by seen old) (seen_by seen new)
  scans_seen old new scans = ⊎_elim
      (λ due. inl (due.0, collected_seen old new due.1))
      (λ not. inr (not.0, ap (seen_by seen) not.1))
      scans

  abbrev pub goes_seen : (ms : List Move) (v : CoreView) (old new : SeatState V)
      → Goes fits d ms v old new
      → Goes fits (as_part part d) ms v (seen_by seen old) (seen_by seen new)
  goes_seen ms v old new g = record {
    becomes = stays_seen ms v old new g.becomes;
    client = ap seen g.client;
    knows = g.knows;
  }

  pub misses_all_seen : (old new : SeatState V) → MissesAll fits d old new
      → MissesAll fits (as_part part d) (seen_by seen old) (seen_by seen new)
  misses_all_seen old new m = record {
    tries = m.tries;
    in_turn = m.in_turn;
    few = m.few;
    all_taken = m.all_taken;
    goes = goes_seen _ _ old new m.goes;
  }

  abbrev pub begins_seen : (payload : List ℕ) (s : SlotId) (old new : SeatState V)
      → Begins fits d payload s old new
      → Begins fits (as_part part d) payload s (seen_by seen old) (seen_by seen new)
  begins_seen payload s old new b = record {
    tries = b.tries;
    in_turn = b.in_turn;
    few = b.few;
    next = b.next;
    goes = goes_seen _ _ old new b.goes;
    filled = b.filled;
  }

  abbrev pub announces_seen : (j : ℕ) (place : EventPlace) (s : SlotId) (old new : SeatState V)
      → Announces fits d j place s old new
      → Announces fits (as_part part d) j place s (seen_by seen old) (seen_by seen new)
  announces_seen j place s old new a = record {
    becomes = stays_seen _ _ old new a.becomes;
    client = ap seen a.client;
    knows = a.knows;
    seen = a.seen;
  }

  -- STEPS WITH A DEED
  module _ {next : OwnPart → OwnPart → V → PlainAct → ℕ → V}
      {allows : Plain → Plain → ℕ → V → V → Type 0}
      {next_in : OwnPart → OwnPart → W → PlainAct → ℕ → W}
      {allows_in : Plain → Plain → ℕ → W → W → Type 0}
      (is : IsSeen seen next allows next_in allows_in) where
    null_seen : (place : EventPlace) (old new : SeatState V)
        → FindsNull fits d place next allows old new
        → FindsNull fits (as_part part d) place next_in allows_in (seen_by seen old)
        (seen_by seen new)
    null_seen place old new n = record {
      becomes = becomes_seen fits part seen d is _ _ old new n.becomes;
      null = n.null;
    }

    abbrev protects_seen : (j : ℕ) (place : EventPlace) (s : SlotId) (old new : SeatState V)
        → Protects fits d j place next allows s old new
        → Protects fits (as_part part d) j place next_in allows_in s (seen_by seen old)
        (seen_by seen new)
    protects_seen j place s old new p = record {
      mid = seen_by seen p.mid;
      announces = announces_seen j place s old p.mid p.announces;
      checks = becomes_seen fits part seen d is _ _ p.mid new p.checks;
      core = p.core;
      cleared = p.cleared;
      there = p.there;
      object = p.object;
    }

    pub misses_seen : (j : ℕ) (place : EventPlace) (was now : Option SlotId)
        (old new : SeatState V) → Misses fits d j place next allows was now old new
        → Misses fits (as_part part d) j place next_in allows_in was now (seen_by seen old)
        (seen_by seen new)
    misses_seen j place was now old new m = record {
      slot = m.slot;
      found = m.found;
      differ = m.differ;
      mid = seen_by seen m.mid;
      announces = announces_seen j place m.slot old m.mid m.announces;
      late = seen_by seen m.late;
      checks = becomes_seen fits part seen d is _ _ m.mid m.late m.checks;
      releases = stays_seen _ _ m.late new m.releases;
      client = ap seen m.client;
      core = m.core;
      cleared = m.cleared;
      there = m.there;
    }

    refers_seen : (place : EventPlace) (s : SlotId) (old new : SeatState V)
        → Refers fits d place next allows s old new
        → Refers fits (as_part part d) place next_in allows_in s (seen_by seen old)
        (seen_by seen new)
    refers_seen place s old new r = record {
      mid = seen_by seen r.mid;
      protects = protects_seen 0 place s old r.mid r.protects;
      keeps = stays_seen _ _ r.mid new r.keeps;
      client = ap seen r.client;
      core = r.core;
      cleared = r.cleared;
      object = r.object;
    }

    pub loads_seen : (place : EventPlace) (found : Option SlotId) (old new : SeatState V)
        → Loads fits d place next allows found old new
        → Loads fits (as_part part d) place next_in allows_in found (seen_by seen old)
        (seen_by seen new)
    loads_seen place None old new l = null_seen place old new l
    loads_seen place (Some s) old new l = refers_seen place s old new l

    exchanges_seen : (p : EventPlace) (m : Move) (given held : Option SlotId)
        (old new : SeatState V) → Exchanges fits d next allows p m given held old new
        → Exchanges fits (as_part part d) next_in allows_in p m given held (seen_by seen old)
        (seen_by seen new)
    exchanges_seen p m given held old new e = record {
      mid = seen_by seen e.mid;
      puts = record {
        step = steps_seen fits part seen d is m.act old e.mid m.outcome e.puts.step;
        shows_held = e.puts.shows_held;
        shows_given = e.puts.shows_given;
        core = e.puts.core;
        cleared = e.puts.cleared;
      };
      scans = scans_seen e.mid new e.scans;
      same = e.same;
      client = ap seen e.client;
      cleared = e.cleared;
    }

    pub replaces_seen : (p : EventPlace) (given expected : Option SlotId) (old new : SeatState V)
        → Replaces fits d next allows p given expected old new
        → Replaces fits (as_part part d) next_in allows_in p given expected (seen_by seen old)
        (seen_by seen new)
    replaces_seen p given expected old new r = exchanges_seen p _ given expected old new r

    pub stores_seen : (p : EventPlace) (given : Option SlotId) (old new : SeatState V)
        → Stores fits d next allows p given old new
        → Stores fits (as_part part d) next_in allows_in p given (seen_by seen old)
        (seen_by seen new)
    stores_seen p given old new s = record {
      held = s.held;
      swaps = exchanges_seen p _ given s.held old new s.swaps;
      is_replace = s.is_replace;
      cleared = s.cleared;
    }

    pub loses_seen : (p : EventPlace) (given expected : Option SlotId) (now : ℕ)
        (old new : SeatState V) → LosesTo fits d next allows p given expected now old new
        → LosesTo fits (as_part part d) next_in allows_in p given expected now
        (seen_by seen old) (seen_by seen new)
    loses_seen p given expected now old new l = record {
      found = l.found;
      loses = record {
        becomes = becomes_seen fits part seen d is _ _ old new l.loses.becomes;
        shows_found = l.loses.shows_found;
        other = l.loses.other;
      };
      word = l.word;
    }

    pub makes_seen : (payload : List ℕ) (s : SlotId) (old new : SeatState V)
        → Makes fits d next allows payload s old new
        → Makes fits (as_part part d) next_in allows_in payload s (seen_by seen old)
        (seen_by seen new)
    makes_seen payload s old new m = record {
      mid = seen_by seen m.mid;
      begins = begins_seen payload s old m.mid m.begins;
      starts = becomes_seen fits part seen d is _ _ m.mid new m.starts;
      core = m.core;
      cleared = m.cleared;
      object = m.object;
    }

-- what follows for each error follows for that of a result
pub then_err : {T E : Type 0} (P Q : E → Type 0) (r : Result T E) → ((e : E) → P e → Q e)
    → IfErr r P → IfErr r Q
then_err P Q (Ok x) follows p = tt
then_err P Q (Err e) follows p = follows e p
