-- A subject of a domain, and what its calls ask of a seat.
use Rattle.std.specs.Prelude.{ℕ, ◌≡◌, ◌+◌, ◌<◌, ◌≤◌, true, List, [], ◌∷◌}
use Rattle.part_calls.specs.acquire_retire.Domains.{DomainState}
use Rattle.part_calls.specs.acquire_retire.Seats.{SeatState}
use Rattle.part_calls.specs.control_word.Resting.{IsAtRest}
use Rattle.part_calls.specs.core_events.Steps.{HasRoom}
use Rattle.part_calls.specs.Parts.{as_part, seen_by}
use Rattle.part_calls.specs.protocol_pairs.Shares.{FitsItsPart}
use Rattle.watch_protocol.specs.queue_protocol.Nodes.{IsNodePayload}
use Rattle.watch_protocol.specs.watch_law.Payloads.{IsWatchPayload}
use Rattle.watch_protocol.specs.declared.law.WatchLaw.{WatchLaw}
use Rattle.watch_protocol.specs.declared.news.NewsLaw.{NewsLaw}
use Rattle.watch_protocol.specs.Sides.{area_of}
use Rattle.watch_protocol.specs.watch_law.Law.{Area, owner}
use Rattle.watch_protocol.specs.watch_law.News.{NewsView}
use Rattle.watch_protocol.specs.watch_law.declared.view.View.{View}
pub use Rattle.weak_watch.specs.declared.subject.Subject.{Subject}

-- an observer or a delivery: what it is, what it tells, and zeros
abbrev pub words : ℕ → ℕ → List ℕ
words what told =
    what ∷ told ∷ 0 ∷ 0 ∷ 0 ∷ 0 ∷ 0 ∷ 0 ∷ 0 ∷ 0 ∷ 0 ∷ 0 ∷ 0 ∷ 0 ∷ 0 ∷ 0 ∷ []

-- the payloads of a domain with a queue and observers
abbrev pub news_fits : List ℕ → Type 0
news_fits = FitsItsPart IsNodePayload IsWatchPayload

-- THE PART of the observers: of a view, of the law, of a domain and of a seat
abbrev pub watch_view : NewsView → View
watch_view v = v.1

abbrev pub watch_part : NewsLaw → WatchLaw
watch_part it = it.pair.right

abbrev pub watch_in : DomainState NewsLaw → DomainState WatchLaw
watch_in d = as_part watch_part d

abbrev pub seen : SeatState NewsView → SeatState View
seen seat = seen_by watch_view seat

abbrev pub ids_of : DomainState NewsLaw → Area
ids_of d = area_of d.protocol.pair.right

-- these are the cells of the domain's observers, and the domain has them
pub record IsOver (d : DomainState NewsLaw) (subject : Subject) : Type 0 where
  pub first : subject.first ≡ d.protocol.pair.right.first
  pub cells : subject.cells ≡ d.protocol.pair.right.cells
  pub there : subject.first + subject.cells ≤ d.shape.weak_cells

-- the seat is at rest in a domain with this subject
pub record IsReady (d : DomainState NewsLaw) (subject : Subject) (seat : SeatState NewsView)
    : Type 0 where
  pub rest : IsAtRest d seat
  pub room : HasRoom seat.view.core
  pub over : IsOver d subject

-- there is such an id, and it is this seat's
pub record HasId (d : DomainState NewsLaw) (c : ℕ) (seat : SeatState NewsView) : Type 0 where
  pub inside : c < d.protocol.pair.right.cells
  pub here : seat.view.client.1.here ≡ true
  pub owner : owner (ids_of d) c ≡ seat.view.client.1.number
