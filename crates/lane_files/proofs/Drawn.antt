-- What a seat owns after draws of tickets, and what a draw leaves of it.
use Rattle.std.proofs.Common.{◌≡◌, ℕ, ◌+◌, ◌≤◌, List, [], refl, sym, ap, subst, ◌∙◌, arith}
use Rattle.control_word.specs.plain_state.declared.slot.SlotId.{SlotId}
use Rattle.control_word.specs.plain_state.Lists.{times}
use Rattle.control_word.specs.core_events.declared.view.CoreView.{CoreView}
use Rattle.control_word.specs.core_events.Views.{Holds, held_times}
use Rattle.control_word.proofs.Below.core_law_Kit.{times_none}
use Rattle.control_word.specs.acquire_retire.Domains.{DomainState}
use Rattle.control_word.specs.acquire_retire.Seats.{SeatState}
use Rattle.weak_intern.specs.directory_calls.Directories.{area_of}
use Rattle.words_protocol.specs.directory_law.Lessons.{drawn}
use Rattle.hand_queues.specs.Pushes.{deeds_of}
use Rattle.words_protocol.specs.queue_law.declared.view.View.{View as QueueView}
use Rattle.weak_intern.specs.Drawing.{Draws}
use Rattle.words_protocol.specs.words_law.Views.{View}
use Rattle.words_protocol.specs.declared.law.WordsLaw.{WordsLaw}
use Rattle.lane_files.specs.Passed.{Takes, did}
use Rattle.lane_files.specs.Ready.{Owns}
use Rattle.lane_files.proofs.PiecesCounted.{none_more, tallies_none}
use Rattle.lane_files.proofs.Scanned.{more_scans}
use Rattle.lane_files.specs.Lanes.{OwnsAfter, beside_tickets}

pub after_none : (a : SeatState View) → OwnsAfter a.view.core.owned a a
after_none a = record {
  strongly = λ x. refl;
  weakly = λ x. refl;
  same = refl;
  knows = λ x was is. refl;
  scans = omega arith;
}

pub after_owns : {os : List SlotId} (a b : SeatState View) → Owns os a b → OwnsAfter os a b
after_owns a b owns = record {
  strongly = owns.strongly;
  weakly = owns.weakly;
  same = ap (λ (v : CoreView). record v { tickets = [] }) owns.same;
  knows = owns.knows;
  scans = owns.scans;
}

pub after_as : {os : List SlotId} (xs : List SlotId) (a b : SeatState View) → OwnsAfter os a b
    → ((x : SlotId) → times x os ≡ times x xs) → OwnsAfter xs a b
after_as xs a b owns same = record {
  strongly = λ x. owns.strongly x ∙ same x;
  weakly = owns.weakly;
  same = owns.same;
  knows = owns.knows;
  scans = owns.scans;
}

holds_after : (x : SlotId) (v w : CoreView) → beside_tickets v ≡ beside_tickets w
    → times x v.owned + times x v.weaks ≤ times x w.owned + times x w.weaks
    → Holds v x → Holds w x
holds_after x v w same is held =
    let e = ap (λ (u : CoreView). held_times x u) same in
    let none = times_none x in omega arith

-- one call after another, after which the seat owns all that it owned before both
pub after_then : {os xs : List SlotId} (a b c : SeatState View) → OwnsAfter os a b
    → OwnsAfter xs b c → ((x : SlotId) → times x a.view.core.owned ≤ times x b.view.core.owned)
    → OwnsAfter xs a c
after_then a b c first second more = record {
  strongly = second.strongly;
  weakly = λ x. second.weakly x ∙ first.weakly x;
  same = second.same ∙ first.same;
  knows = λ x was is.
      let at = holds_after x a.view.core b.view.core (sym first.same)
      (let m = more x in let w = first.weakly x in omega arith) was in
      second.knows x at is ∙ first.knows x was at;
  scans = let p = first.scans in let q = second.scans in omega arith;
}

did_none : (v : QueueView) → did [] [] v ≡ v
did_none v = λ i. record v {
  pushed = none_more v.number v.pushed i;
  popped = none_more v.number v.popped i;
}

-- A DRAW
module _ (d : DomainState WordsLaw) (ticket : ℕ) (a b : SeatState View)
    (draws : Draws (λ (v : View). v.1) (λ (v : View) w. (v.0, w)) (area_of d.protocol.pair.right)
    ticket a b) where
  pub after_draw : OwnsAfter a.view.core.owned a b
  after_draw = record {
    strongly = λ x. ap (λ (v : CoreView). times x v.owned) draws.core;
    weakly = λ x. ap (λ (v : CoreView). times x v.weaks) draws.core;
    same = ap beside_tickets draws.core;
    knows = λ x was is. draws.knows x was;
    scans = more_scans a b (draws.moves, ap (λ (v : CoreView). v.trail) draws.core);
  }

  takes_quota : (t : List (List ℕ × ℕ)) → Takes [] 0 a.view.client
      (a.view.client.0, drawn (area_of d.protocol.pair.right) a.view.client.1 ticket) t t
  takes_quota t = record {
    words = [];
    number = refl;
    counts = record {
      pushes = [];
      pops = [];
      deeds = sym (did_none (deeds_of a.view.client.0));
      pushed_words = ([], tt, refl);
      popped_words = ([], tt, refl);
      more = record {
        knows = record { kept = λ e in'. in'; ran = λ e in'. in' };
        saw = λ e in'. in';
      };
    };
    tallies = tallies_none t;
  }

  pub takes_draw : (t : List (List ℕ × ℕ)) → Takes [] 0 a.view.client b.view.client t t
  takes_draw t = subst (λ (v : View). Takes [] 0 a.view.client v t t) (sym draws.client)
      (takes_quota t)
