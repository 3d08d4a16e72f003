-- A domain that was opened for some work, and its seats.
use Rattle.std.specs.Prelude.{ℕ, ◌≡◌, ◌<◌, ◌≤◌, ◌+◌, ◌*◌, ◌^◌, List, [], ◌∷◌, replicate}
use Rattle.lane_files.specs.plain_state.Limits.{most_slots}
use Rattle.lane_files.specs.plain_state.declared.slot.SlotId.{SlotId}
use Rattle.lane_files.specs.plain_state.Lists.{times}
use Rattle.lane_files.specs.core_events.declared.shape.Quota.{Quota}
use Rattle.lane_files.specs.core_events.declared.shape.Shape.{Shape}
use Rattle.lane_files.specs.core_events.Views.{Terms, no_notes}
use Rattle.lane_files.specs.core_events.Words.{each_from}
use Rattle.lane_files.specs.acquire_retire.Calls.{IsOf}
use Rattle.lane_files.specs.acquire_retire.Domains.{DomainState}
use Rattle.lane_files.specs.acquire_retire.Openings.{begun_seat}
use Rattle.lane_files.specs.acquire_retire.Seats.{SeatState}
use Rattle.lane_files.specs.queue_law.declared.view.Form.{Form}
use Rattle.lane_files.specs.queue_law.Views.{view_of}
use Rattle.lane_files.specs.queue_protocol.declared.law.QueueLaw.{QueueLaw}
use Rattle.lane_files.specs.directory_law.declared.view.GivenTo.TheVariants.{Tickets}
use Rattle.lane_files.specs.directory_law.Views as directory
use Rattle.lane_files.specs.directory_protocol.declared.law.DirectoryLaw.{DirectoryLaw}
use Rattle.lane_files.specs.linked_queue.Nodes.{laid_in}
use Rattle.lane_files.specs.linked_queue.Queues.{deeds_in}
use Rattle.lane_files.specs.words_law.Owned.{first_view}
use Rattle.lane_files.specs.words_law.Views.{View}
use Rattle.lane_files.specs.words_protocol.Sides.{area_of, ends_of}
use Rattle.lane_files.specs.words_protocol.declared.law.WordsLaw.{WordsLaw}
use Rattle.lane_files.specs.lane_work.declared.work.Work.{Work}
use Rattle.lane_files.specs.slot_store.Searching.{Misses}
use Rattle.lane_files.specs.Missing.{HasMissed}
use Rattle.lane_files.specs.Whys.{of_queue, queue_of}
use Rattle.lane_domain.specs.declared.opened.OpenLanesError.{OpenLanesError}
use Rattle.lane_domain.specs.declared.opened.OpenLanesError.TheVariants as refused
use Rattle.lane_domain.specs.Sizes.{IsWithinLimits, all_parts, all_pieces, by_ticket, interns_of, makes_of, most_lanes}

-- seat 0 makes the queue's first node, and may make one object more; lanes make what their tickets grant
abbrev pub root_quota : Quota
root_quota = record { makes = 2; adds = 2 ^ 40 }

abbrev pub lane_quota : Quota
lane_quota = record { makes = 0; adds = 2 ^ 40 }

-- Two weak cells for each intern, so that at most every other one is ever set, and one more. Their number is odd: the
-- place of a text is its hash modulo that number, and modulo a power of 2 the hash is but a sum of the bytes.
abbrev pub cells_for : Work → ℕ
cells_for work = 2 * (work.rounds * all_pieces work) + 1

abbrev pub shape_for : Work → ℕ → ℕ → Shape
shape_for work lanes slots = record {
  seats = lanes + 1;
  slots = slots;
  cells = 2;
  weak_cells = cells_for work;
  batch = 4 * (lanes + 1);
}

abbrev pub terms_for : Work → ℕ → Terms
terms_for work lanes = record {
  quotas = root_quota ∷ replicate lanes lane_quota;
  grants = by_ticket (makes_of work) work;
}

-- a queue of this form over the strong cells 0 and 1
pub record IsQueueHere (asked : Form) (queue : QueueLaw) : Type 0 where
  pub form : queue.form ≡ asked
  pub head : queue.head ≡ 0
  pub tail : queue.tail ≡ 1

-- a directory over so many weak cells, whose interns come with tickets
pub record IsDirectoryFor (work : Work) (n : ℕ) (directory : DirectoryLaw) : Type 0 where
  pub first : directory.first ≡ 0
  pub cells : directory.cells ≡ n
  pub interns : directory.interns.items ≡ by_ticket (interns_of work) work
  pub to : directory.to ≡ Tickets

-- the domain for this work, so many lanes and so many slots, with a queue of this form
pub record IsDomainFor (work : Work) (lanes slots : ℕ) (form : Form) (d : DomainState WordsLaw)
    : Type 0 where
  pub shape : d.shape ≡ shape_for work lanes slots
  pub terms : d.terms ≡ terms_for work lanes
  pub queue : IsQueueHere form d.protocol.pair.left
  pub directory : IsDirectoryFor work (cells_for work) d.protocol.pair.right

-- a domain for some work
pub record IsDomainForSome (d : DomainState WordsLaw) : Type 0 where
  pub work : Work
  pub lanes : ℕ
  pub slots : ℕ
  pub form : Form
  pub few : (lanes ≤ most_lanes) × (1 ≤ slots) × (slots ≤ most_slots)
  pub within : IsWithinLimits work
  pub is : IsDomainFor work lanes slots form d

-- seat n of the domain, as it was opened
abbrev pub fresh_seat : DomainState WordsLaw → ℕ → SeatState View
fresh_seat d n =
    begun_seat (first_view (ends_of d.protocol.pair.left) (area_of d.protocol.pair.right)) d n

-- the seats of the lanes as they were opened, in order
abbrev pub fresh_lanes : DomainState WordsLaw → ℕ → List (SeatState View)
fresh_lanes d lanes = each_from 1 lanes (fresh_seat d)

-- Seat 0 has laid the queue, and done nothing else: it owns nothing, no other seat has left, and it has read and kept
-- no text.
pub record HasOnlyLaid (form : Form) (root : SeatState View) : Type 0 where
  pub number : root.view.core.seat ≡ 0
  pub quota : root.view.core.quota ≡ root_quota
  pub owned : (x : SlotId) → times x root.view.core.owned ≡ 0
  pub weaks : root.view.core.weaks ≡ []
  pub notes : root.view.core.notes ≡ no_notes
  pub tickets : root.view.core.tickets ≡ []
  pub left_seats : root.view.core.left_seats ≡ []
  pub queue : deeds_in root.view.client.0 ≡ laid_in (deeds_in (view_of form 0))
  pub directory : root.view.client.1 ≡ directory.gone

module _ (fits : List ℕ → Type 0) where
  -- seat 0 made no first node, since it found each slot taken
  abbrev pub FindsNoSlot : DomainState WordsLaw → SeatState View → Type 0
  FindsNoSlot d root = Misses fits (queue_of d) (of_queue (fresh_seat d 0)) (of_queue root)

  -- Why nothing was opened: there was no memory; or seat 0 of the domain found each slot taken, as its trail shows,
  -- which can't be where there is a slot for each make.
  abbrev pub IsWhyNotOpened : Work → ℕ → ℕ → Form → OpenLanesError → Type 0
  IsWhyNotOpened work lanes slots form refused.OutOfMemory = Unit {0}
  IsWhyNotOpened work lanes slots form (refused.Full unlaid) =
      IsDomainFor work lanes slots form unlaid.domain × FindsNoSlot unlaid.domain unlaid.root
      × (slots < work.rounds * (all_pieces work + all_parts work) + 2)
      × IsOf unlaid.domain unlaid.root × HasMissed unlaid.domain.shape unlaid.root
