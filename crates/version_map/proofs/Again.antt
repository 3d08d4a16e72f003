-- Tries that leave the seat as it was, but for its trail and what it has learnt.
use Rattle.std.proofs.Common.{ℕ, [], sym, ◌∙◌, subst}
use Rattle.std.proofs.lemmas.List.{append-nil}
use Rattle.version_making.specs.protected_loads.plain_state.State.{Plain}
use Rattle.version_making.specs.protected_loads.plain_protocol.Owns.{HasSlot}
use Rattle.version_making.specs.protected_loads.core_events.declared.view.CoreView.{CoreView}
use Rattle.version_making.specs.protected_loads.core_events.Shows.{show_seat}
use Rattle.version_making.specs.protected_loads.acquire_retire.Domains.{DomainState}
use Rattle.version_making.specs.protected_loads.acquire_retire.Seats.{SeatState}
use Rattle.version_making.specs.protected_loads.control_word.Moves.{KnowsStill}
use Rattle.version_making.specs.protected_loads.control_word.Resting.{IsAtRest}
use Rattle.version_reading.specs.map_law.declared.view.View.{View}
use Rattle.version_reading.specs.map_protocol.declared.law.MapLaw.{MapLaw}
use Rattle.version_reading.specs.Reading.{AtALook, Reads}
use Rattle.version_reading.proofs.Events.{goes_on, reads_same}
use Rattle.version_map.proofs.Trails.{look_within}

pub record HasTried (d : DomainState MapLaw) (old now : SeatState View) : Type 0 where
  pub reads : Reads old.view.core old now
  pub knows : KnowsStill old.view.core old now
  pub rest : IsAtRest d now

module _ (d : DomainState MapLaw) (old : SeatState View) where
  module _ (now : SeatState View) (tried : HasTried d old now) where
    module _ (new : SeatState View) (reads : Reads now.view.core now new)
        (knows : KnowsStill now.view.core now new) where
      pub again_reads : Reads old.view.core old new
      again_reads = reads_same old.view.core old now new tried.reads reads

      pub again_knows : KnowsStill old.view.core old new
      again_knows x has =
          knows x (subst (λ (u : CoreView). HasSlot (show_seat u) x) (sym tried.reads.core) has)
          ∙ tried.knows x has

      pub tried_again : IsAtRest d new → HasTried d old new
      tried_again rest = record { reads = again_reads; knows = again_knows; rest = rest }

      pub again_look : (c : ℕ) (fact : Plain → Type 0) → AtALook d c fact now new
          → AtALook d c fact old new
      again_look c fact look =
          look_within d c fact old now new new (goes_on old.view.core old now tried.reads) look
          ([], sym (append-nil new.view.core.trail))
