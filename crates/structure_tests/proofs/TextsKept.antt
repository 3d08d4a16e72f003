-- What a seat that was ready has of the directory after a call that leaves its notes or its view.
use Rattle.std.proofs.Common.{◌≡◌, ap, arith}
use Rattle.part_calls.specs.core_events.Steps.{HasRoom}
use Rattle.part_calls.specs.acquire_retire.Domains.{DomainState}
use Rattle.part_calls.specs.acquire_retire.Seats.{SeatState}
use Rattle.part_calls.specs.control_word.Resting.{IsAtRest}
use Rattle.part_calls.proofs.Below.control_word_NotedBack.{none_still}
use Rattle.weak_intern.specs.directory_law.declared.view.View.{View}
use Rattle.weak_intern.specs.directory_protocol.declared.law.DirectoryLaw.{DirectoryLaw}
use Rattle.structure_tests.specs.Texts.{IsReady, Spends}

module _ (d : DomainState DirectoryLaw) (old new : SeatState View) where
  pub ready_still : IsReady d old → new.view.core.notes ≡ old.view.core.notes
      → HasRoom new.view.core → IsAtRest d new → IsReady d new
  ready_still ready notes room rest = record {
    rest = rest;
    none = none_still old.view.core new.view.core notes ready.none;
    room = room;
  }

  pub spends_none : new.view.client ≡ old.view.client → Spends 0 old new
  spends_none same = record {
    used = let e = ap (λ (v : View). v.used) same in omega arith;
    quota = ap (λ (v : View). v.quota) same;
  }
