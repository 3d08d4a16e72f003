-- How the calls on a head follow one another, and what a make changes.
use Rattle.std.proofs.Common.{◌≡◌, ℕ, ◌<◌, List, ◌∷◌, ap, sym, ◌∙◌, subst, arith}
use Rattle.cell_calls.specs.cell_law.plain_state.declared.slot.SlotId.{SlotId}
use Rattle.cell_calls.specs.cell_law.plain_state.Lists.{times}
use Rattle.cell_calls.specs.cell_law.directory_law.declared.view.Rope.{Rope}
use Rattle.cell_calls.specs.cell_law.directory_law.Making.{first_noted}
use Rattle.cell_calls.specs.cell_law.directory_law.Payloads.{Text}
use Rattle.cell_calls.specs.cell_law.Making.{binds, other_notes}
use Rattle.cell_calls.specs.cell_law.Views.{IsWord, sight}
use Rattle.cell_calls.specs.cell_law.declared.view.View.{View}
use Rattle.cell_calls.specs.cell_law.directory_law.Views.{In}
use Rattle.cell_calls.specs.cell_law.Walks.{SawAll}
use Rattle.cell_calls.specs.Keeping.{Keeps, Learns, NotesOnly}
use Rattle.epoch_refs.specs.plain_protocol.Owns.{Object}
use Rattle.epoch_refs.specs.epoch_domain.Seats.{SeatState}
use Rattle.cell_making.specs.Bindings.{HasHead}
use Rattle.cell_making.specs.Making.{HasMade, candidate_in}
use Rattle.cell_making.proofs.Before.{made_only}

pub head_made : (text : Text) (n : ℕ) (s : SlotId) (old new : SeatState View)
    → HasMade text n s old new → IsWord text → HasHead text s new
head_made text n s old new made is = record {
  owned = made.owned;
  is_word = is;
  others = made.noted.others;
  noted = ap (λ (v : View). v.noted) made.noted.noted;
}

pub head_stays : (text : Text) (makes adds : ℕ) (owned : List SlotId) (s : SlotId)
    (old new : SeatState View) → HasHead text s old → Keeps makes adds owned old new
    → Learns old.view.client new.view.client → 0 < times s new.view.core.owned
    → HasHead text s new
head_stays text makes adds owned s old new head keeps learns still =
    let was = head.owned in
    let known = keeps.knows s (omega (arith, was)) (omega (arith, still)) in
    record {
      owned = still;
      is_word = head.is_word;
      others = head.others;
      noted = ap (λ (v : View). v.noted) learns.rest
          ∙ head.noted
          ∙ ap (λ (o : Object). record { slot = s; life = o.life; text = text } ∷ head.others)
          (sym known);
    }

pub head_bound : (text : Text) (s : SlotId) (cell : ℕ) (seat : SeatState View)
    → (head : HasHead text s seat)
    → binds cell seat.view.client
    ≡ record seat.view.client {
      noted = head.others;
      bound = candidate_in s text seat ∷ seat.view.client.bound;
      seen = sight cell s ∷ seat.view.client.seen;
    }
head_bound text s cell seat head =
    ap (λ (es : List Rope). record seat.view.client {
      noted = other_notes es;
      bound = first_noted es ∷ seat.view.client.bound;
      seen = sight cell (first_noted es).slot ∷ seat.view.client.seen;
    }) head.noted

pub made_notes : (text : Text) (n : ℕ) (s : SlotId) (old new : SeatState View)
    → HasMade text n s old new → NotesOnly old.view.client new.view.client
made_notes text n s old new made = made_only text n s old new made

pub notes_saw : (v w : View) → NotesOnly v w → SawAll v w × (w.cleared ≡ v.cleared)
notes_saw v w is = (
  λ e i. subst (λ (x : View). In e x.seen) (sym is) i,
  ap (λ (x : View). x.cleared) is,
)
