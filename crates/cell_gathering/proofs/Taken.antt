-- What seat 0 has once the seats of some lanes have left.
use Rattle.std.proofs.Common.{◌≡◌, ℕ, ◌+◌, ◌<◌, List, [], ◌∷◌, ◌++◌, refl, sym, ap, subst, ◌∙◌, arith}
use Rattle.std.specs.Prelude.{length, map, slice_index_or}
use Rattle.std.specs.List.{flat_map, range_with_len}
use Rattle.std.proofs.lemmas.List.{append-nil}
use Rattle.std.proofs.lemmas.List.Concat.{flat_map-append}
use Rattle.std.proofs.lemmas.List.Sums.{sum_by-append, sum_by-cons}
use Rattle.cell_lanes.specs.Lanes.{lane_tickets}
use Rattle.cell_lanes.specs.Ready.{IsReady}
use Rattle.cell_lanes.specs.cell_calls.cell_protocol.declared.law.CellLaw.{CellLaw}
use Rattle.cell_rest.specs.Kept.{TellsFiles}
use Rattle.cell_rest.specs.cdrc_text.Fold.{times as word_times}
use Rattle.cell_rest.specs.cdrc_text.Tally.{count_of, total_of}
use Rattle.cell_rest.specs.cell_law.declared.view.View.{View}
use Rattle.cell_rest.specs.cell_law.directory_law.declared.view.Rope.{Rope}
use Rattle.cell_rest.specs.cell_law.directory_law.Views.{In}
use Rattle.cell_rest.specs.cell_law.plain_state.declared.slot.SlotId.{SlotId}
use Rattle.cell_rest.specs.cell_law.plain_state.Lists.{times}
use Rattle.cell_lanes.specs.epoch_refs.epoch_core.declared.view.LeftEpochSeat.{LeftEpochSeat}
use Rattle.cell_lanes.specs.epoch_refs.epoch_domain.Domains.{DomainState}
use Rattle.cell_lanes.specs.epoch_refs.epoch_domain.Seats.{SeatState}
use Rattle.cell_lanes.specs.lane_work.Keeping.{slots_of}
use Rattle.cell_lanes.specs.lane_work.Sizes.{texts_in}
use Rattle.cell_lanes.specs.lane_work.Tallying.{Tallies}
use Rattle.cell_lanes.specs.lane_work.Work.{kept_files, words_of_all}
use Rattle.cell_lanes.specs.lane_work.counted_handles.Handles.{Handle}
use Rattle.cell_lanes.specs.lane_work.declared.work.Work.{Work}
use Rattle.tally_sums.specs.Sums.{counted_in}
use Rattle.cell_gathering.specs.declared.done.Done.{Done}
use Rattle.cell_gathering.specs.Gathering.{IsBare, IsTextIn, Tally, heads_of, kept_by}
use Rattle.cell_gathering.specs.Shares.{tickets_upto}
use Rattle.cell_gathering.proofs.Files.{words_none}
use Rattle.cell_gathering.proofs.Shares.{upto_none}

-- The seats of the first n of so many lanes have left, and seat 0 has what they had. Each of the tallies counts the
-- words of its lane's tickets.
pub record HasTaken (d : DomainState CellLaw) (work : Work) (lanes n : ℕ) (done : List Done)
    (root : SeatState View) (tallies : List Tally) (handles : List Handle) : Type 0 where
  pub ready : IsReady d root
  pub first : root.view.core.seat ≡ 0
  pub numbers : map (λ (l : LeftEpochSeat). l.seat) root.view.core.left_seats
      ≡ range_with_len 1 n
  pub kept : handles ≡ flat_map kept_by done
  pub owns : (s : SlotId) → times s root.view.core.owned ≡ times s (slots_of handles)
  pub tells :
      TellsFiles (kept_files work (tickets_upto work lanes n)) (slots_of handles)
      root.view.client
  pub bound : root.view.client.bound ≡ []
  pub joined : root.view.client.joined ≡ flat_map heads_of done
  pub texts : (e : Rope) → In e root.view.client.joined → IsTextIn (texts_in work) e.text
  pub many : length tallies ≡ n
  pub each : (i : ℕ) → i < n
      → Tallies (words_of_all work (lane_tickets work lanes i)) [] (slice_index_or tallies i [])
  pub sums : (w : List ℕ)
      → counted_in tallies w ≡ word_times w (words_of_all work (tickets_upto work lanes n))

-- OF LISTS
pub flat_push : {A B : Type 0} (f : A → List B) (xs : List A) (x : A)
    → flat_map f (xs ++ x ∷ []) ≡ flat_map f xs ++ f x
flat_push f xs x =
    flat_map-append f xs (x ∷ []) ∙ ap (λ l. flat_map f xs ++ l) (append-nil (f x))

pub count_none : (w : List ℕ) → count_of [] w ≡ 0
unfolding count_of
count_none w = refl

pub total_none : total_of [] ≡ 0
unfolding total_of
total_none = refl

counted_none : (w : List ℕ) → counted_in [] w ≡ 0
counted_none w = refl

pub counted_more : (tallies : List Tally) (t : Tally) (w : List ℕ)
    → counted_in (tallies ++ t ∷ []) w ≡ counted_in tallies w + count_of t w
counted_more tallies t w =
    let both = sum_by-append (λ (u : Tally). count_of u w) tallies (t ∷ []) in
    let one = sum_by-cons (λ (u : Tally). count_of u w) t [] in
    let none = counted_none w in omega (arith, both, one, none)

-- NONE HAS LEFT
pub taken_none : (d : DomainState CellLaw) (work : Work) (lanes : ℕ) (root : SeatState View)
    → IsBare d root → HasTaken d work lanes 0 [] root [] []
taken_none d work lanes root bare = record {
  ready = bare.ready;
  first = bare.first;
  numbers = ap (map (λ (l : LeftEpochSeat). l.seat)) bare.left;
  kept = refl;
  owns = λ s. ap (times s) bare.none.owned;
  tells = subst (λ ts. TellsFiles (kept_files work ts) [] root.view.client)
      (sym (upto_none work lanes)) refl;
  bound = bare.none.bound;
  joined = bare.none.joined;
  texts = λ e i. absurd (subst (In e) bare.none.joined i);
  many = refl;
  each = λ i h. absurd (omega (arith, h));
  sums = λ w. sym (ap (word_times w) (ap (words_of_all work) (upto_none work lanes) ∙ words_none work));
}
