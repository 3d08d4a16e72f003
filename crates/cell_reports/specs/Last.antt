-- What seat 0 is once it has written the report.
use Rattle.std.specs.Prelude.{ℕ, ◌≡◌, ◌≢◌, ◌<◌, ◌↔◌, List, [], Some}
use Rattle.cell_domain.specs.Opened.{IsDomainFor}
use Rattle.cell_domain.specs.cell_lanes.cell_calls.cell_law.declared.view.View.{View}
use Rattle.cell_domain.specs.cell_lanes.cell_calls.cell_law.directory_law.Views.{In}
use Rattle.cell_domain.specs.cell_lanes.cell_calls.cell_law.plain_state.declared.slot.SlotId.{SlotId}
use Rattle.cell_domain.specs.cell_lanes.cell_calls.cell_law.plain_state.declared.slot.Stage.TheVariants.{Live}
use Rattle.cell_domain.specs.cell_lanes.cell_calls.cell_law.plain_state.State.{Plain, stage_at}
use Rattle.cell_domain.specs.cell_lanes.cell_calls.cell_law.Views.{AreDistinct, words_of}
use Rattle.cell_domain.specs.cell_lanes.cell_calls.cell_protocol.declared.law.CellLaw.{CellLaw}
use Rattle.cell_domain.specs.epoch_refs.epoch_domain.Domains.{DomainState}
use Rattle.cell_domain.specs.epoch_refs.epoch_domain.Seats.{SeatState}
use Rattle.cell_domain.specs.epoch_refs.epoch_rule.Views.{own_of}
use Rattle.cell_domain.specs.lane_work.Sizes.{texts_in}
use Rattle.cell_domain.specs.lane_work.declared.work.Work.{Work}
use Rattle.cell_gathering.specs.cdrc_text.Fold.{File, holders_in}
use Rattle.cell_records.specs.Root.{IsRoot}
use Rattle.cell_records.specs.epoch_alone.Settled.{IsSettled}

-- By its view seat 0 put no head into a cell, and the seats that have left put one there for each word of the files,
-- each once.
pub record ListsWords (files : List File) (v : View) : Type 0 where
  pub none : v.bound ≡ []
  pub once : AreDistinct (words_of v.joined)
  pub all : (w : List ℕ) → In w (words_of v.joined) ↔ (0 < holders_in w files)

-- The seat knows the whole state: nothing waits in it and nothing is owned, and no slot is Live.
pub record KnowsNoneLive (root : SeatState View) : Type 0 where
  pub state : Plain
  pub knows : (own_of root.view).whole ≡ Some state
  pub settled : IsSettled state []
  pub none : (s : SlotId) → stage_at state s ≢ Live

-- It is seat 0, alone in the domain for this work. It owns nothing, and no slot is Live. Its view lists a head for each
-- distinct word, none of which it put into a cell itself.
pub record IsLastRoot (work : Work) (lanes slots : ℕ) (root : SeatState View) : Type 0 where
  pub domain : DomainState CellLaw
  pub is : IsDomainFor work lanes slots domain
  pub ready : IsRoot domain root
  pub nothing : root.view.core.owned ≡ []
  pub live : KnowsNoneLive root
  pub lists : ListsWords (texts_in work) root.view.client
