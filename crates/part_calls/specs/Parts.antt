-- A domain and its seats, as a part of the protocol sees them.
use Rattle.std.specs.Prelude.{ℕ, ◌≡◌, List}
use Rattle.control_word.specs.plain_state.declared.act.PlainAct.{PlainAct}
use Rattle.control_word.specs.plain_protocol.Owns.{OwnPart}
use Rattle.control_word.specs.domain_rule.declared.view.SeatView.{SeatView}
use Rattle.control_word.specs.acquire_retire.Domains.{DomainState}
use Rattle.control_word.specs.acquire_retire.Seats.{SeatState}

-- the domain, with the part in the protocol's place
abbrev pub as_part : {P Q : Type 0} → (P → Q) → DomainState P → DomainState Q
as_part part d =
    record { table = d.table; protocol = part d.protocol; shape = d.shape; terms = d.terms }

-- a seat's view, with what the client's view has of the part in its place
abbrev pub view_seen : {V W : Type 0} → (V → W) → SeatView V → SeatView W
view_seen seen v = record {
  core = v.core;
  objects = v.objects;
  cleared = v.cleared;
  whole = v.whole;
  opened = v.opened;
  left_adds = v.left_adds;
  left_makes = v.left_makes;
  past = v.past;
  gone = v.gone;
  client = seen v.client;
}

-- a seat, in the same way
abbrev pub seen_by : {V W : Type 0} → (V → W) → SeatState V → SeatState W
seen_by seen s = record { table = s.table; view = view_seen seen s.view }

-- but for the part, the client's view is as it was: with the part's last view in the part's place the two are one
abbrev pub HasBeside : {V W : Type 0} → (V → W → V) → W → SeatState V → SeatState V → Type 0
HasBeside with_seen gone old new = with_seen new.view.client gone ≡ with_seen old.view.client gone

-- of a client's view nothing changed but what it has of the part
abbrev pub StaysBeside : {V W : Type 0} → (V → W) → (V → W → V) → SeatState V → SeatState V → Type 0
StaysBeside seen with_seen old new =
    new.view.client ≡ with_seen old.view.client (seen new.view.client)

-- the rest accepts each next view that the deed may give
abbrev pub AcceptsAll : {V W : Type 0} → (V → W → Type 0)
    → (OwnPart → OwnPart → W → PlainAct → ℕ → W) → (V → W) → V → Type 0
AcceptsAll suits next seen v =
    (own after : OwnPart) (step : PlainAct) (found : ℕ)
    → suits v (next own after (seen v) step found)
