-- Where a lane stopped, after words that it counted, or before others.
use Rattle.std.proofs.Common.{◌≡◌, ℕ, suc, ◌+◌, ◌<◌, List, [], ◌∷◌, ◌++◌, sym, ap, ◌∙◌, append_assoc, arith}
use Rattle.std.specs.Prelude.{drop, length, slice_index_or, take}
use Rattle.std.proofs.lemmas.List.{take-append-drop}
use Rattle.std.proofs.Math.Seq.{drop-cons}
use Rattle.cell_intern.specs.cell_calls.cell_law.declared.view.View.{View}
use Rattle.cell_intern.specs.cell_calls.cell_protocol.declared.law.CellLaw.{CellLaw}
use Rattle.cell_intern.specs.epoch_refs.epoch_domain.Domains.{DomainState}
use Rattle.cell_intern.specs.epoch_refs.epoch_domain.Seats.{SeatState}
use Rattle.lane_work.specs.declared.lane.Lane.{Lane}
use Rattle.cell_lanes.specs.Counting.{Counts}
use Rattle.cell_lanes.specs.Stopping.{Stops, StopsAt}
use Rattle.cell_lanes.specs.declared.refusal.LaneStop.{LaneStop}
use Rattle.cell_lanes.proofs.Counted.{counts_then}

module _ (d : DomainState CellLaw) (stop : LaneStop) where
  -- at a word, after some others
  pub stops_next : (front : List (List ℕ)) (word : List ℕ) (others words : List (List ℕ))
      (a b c : SeatState View) (la lb lc : Lane) → words ≡ front ++ word ∷ others
      → Counts d front a b la lb → StopsAt d word stop b c lb lc → Stops d words stop a c la lc
  stops_next front word others words a b c la lb lc are counts stops = record {
    front = front;
    word = word;
    others = others;
    are = are;
    last = b;
    lane = lb;
    counts = counts;
    stops = stops;
  }

  -- in some words after others, with others behind them
  pub stops_among : (us ws vs words : List (List ℕ)) (a b c : SeatState View) (la lb lc : Lane)
      → words ≡ (us ++ ws) ++ vs → Counts d us a b la lb → Stops d ws stop b c lb lc
      → Stops d words stop a c la lc
  stops_among us ws vs words a b c la lb lc are counts stops = record {
    front = us ++ stops.front;
    word = stops.word;
    others = stops.others ++ vs;
    are = are ∙ ap (λ xs. (us ++ xs) ++ vs) stops.are
        ∙ ap (λ xs. xs ++ vs) (sym (append_assoc us stops.front (stops.word ∷ stops.others)))
        ∙ append_assoc (us ++ stops.front) (stops.word ∷ stops.others) vs;
    last = stops.last;
    lane = stops.lane;
    counts = counts_then d us stops.front a b stops.last la lb stops.lane counts stops.counts;
    stops = stops.stops;
  }

-- the words of a file, by the number of the next one
pub split_at : (words : List (List ℕ)) (n : ℕ) → n < length words
    → words ≡ take n words ++ slice_index_or words n [] ∷ drop (n + 1) words
split_at words n less =
    sym (take-append-drop n words)
    ∙ ap (λ ws. take n words ++ ws) (drop-cons words n [] less)
    ∙ ap (λ m. take n words ++ slice_index_or words n [] ∷ drop m words) (one n)
  where
    one : (m : ℕ) → suc m ≡ m + 1
    one m = omega arith
