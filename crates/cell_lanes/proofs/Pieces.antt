-- One piece that was interned, and then counted or not.
use Rattle.std.proofs.Common.{◌≡◌, ◌⊎◌, ⊎_elim, inl, inr, ℕ, ◌+◌, ◌≤◌, List, [], ◌∷◌, ◌++◌, refl, sym, ap, subst, ◌∙◌, arith}
use Rattle.std.specs.Prelude.{Err, length, Ok, Result}
use Rattle.std.proofs.lemmas.List.Sums.{sum_by-cons}
use Rattle.cell_intern.specs.cell_calls.Cells.{BindsAlone}
use Rattle.cell_intern.specs.cell_calls.Keeping.{Keeps}
use Rattle.cell_intern.proofs.Below.cell_calls_Keeping.{keeps_wider}
use Rattle.cell_intern.specs.cell_calls.cell_law.Views.{TellsNone}
use Rattle.cell_intern.specs.cell_calls.cell_law.declared.view.View.{View}
use Rattle.cell_intern.specs.cell_calls.cell_law.directory_law.declared.view.Rope.{Rope}
use Rattle.cell_intern.specs.cell_calls.cell_law.plain_state.declared.slot.SlotId.{SlotId}
use Rattle.cell_intern.specs.cell_calls.cell_protocol.declared.law.CellLaw.{CellLaw}
use Rattle.cell_intern.specs.Interning.{BindsMore, Grows, Has, IsForNone, MakesForBinds}
use Rattle.cell_intern.specs.Refusals.{IsWhy}
use Rattle.cell_intern.specs.declared.refusal.InternError.{InternError}
use Rattle.cell_intern.specs.declared.refusal.InternError.TheVariants as refused
use Rattle.cell_intern.specs.epoch_refs.epoch_domain.Domains.{DomainState}
use Rattle.cell_intern.specs.epoch_refs.epoch_domain.Seats.{SeatState}
use Rattle.cell_intern.specs.record_texts.Texts.{text_of}
use Rattle.lane_work.specs.Keeping.{IsSameKeeper, slots_of}
use Rattle.lane_work.specs.Sizes.{slots_of_words}
use Rattle.lane_work.specs.cdrc_text.Tally.{CountsOneMore}
use Rattle.lane_work.specs.cdrc_text.Text.{slots_of_word}
use Rattle.lane_work.specs.counted_handles.Handles.{Handle}
use Rattle.lane_work.specs.declared.keeper.Keeper.{Keeper}
use Rattle.lane_work.specs.declared.lane.Lane.{Lane}
use Rattle.cell_lanes.specs.Counting.{CountsPiece, GrowsBy, adds_for}
use Rattle.cell_lanes.specs.Keeping.{GivesUp, KeepsOne}
use Rattle.cell_lanes.specs.Stopping.{IsUntold, IsWhyStopped, StopsAt, TalliesOrNot, of_intern}
use Rattle.cell_rest.specs.Kept.{TellsWord}
use Rattle.cell_lanes.specs.declared.refusal.LaneStop.TheVariants as stopped
use Rattle.cell_lanes.proofs.Owning.{given_back, kept_then}
use Rattle.cell_lanes.proofs.Tallied.{tallies_one}
use Rattle.cell_lanes.proofs.Viewed.{grows_more, grows_quiet, has_tells}

slots_one : (w : List ℕ) → slots_of_words (w ∷ []) ≡ slots_of_word w
slots_one w = let s = sum_by-cons slots_of_word w [] in omega arith

-- three adds for each slot are enough
some_slots : (w : List ℕ) → 1 ≤ length w → 1 ≤ slots_of_word w
some_slots w some = omega arith

keeps_word : (w : List ℕ) (xs : List SlotId) (a b : SeatState View) → 1 ≤ length w
    → Keeps (slots_of_word w) (slots_of_word w + 2) xs a b
    → Keeps (slots_of_words (w ∷ [])) (adds_for (w ∷ [])) xs a b
keeps_word w xs a b some keeps =
    let s = slots_one w in let m = some_slots w some in
    keeps_wider (slots_of_word w) (slots_of_words (w ∷ [])) (slots_of_word w + 2)
    (adds_for (w ∷ [])) xs xs a b keeps (omega arith) (omega arith) (λ x. refl)

pub same_keeper : (k : Keeper) → IsSameKeeper k k
same_keeper k = record { kept = refl; same = λ s. refl }

-- a refusal of an intern
abbrev pub unmade_result : InternError → Result Handle InternError
unmade_result error = Err error

one_longer : (es : List Rope) (e : Rope) → e ∷ es ≡ es → ⊥
one_longer es e same = let l = ap length same in omega (arith, l)

module _ (d : DomainState CellLaw) (w : List ℕ) (a m : SeatState View)
    (some : 1 ≤ length w) (few : length w ≤ 4096)
    (grows : Grows (text_of w) a.view.client m.view.client) where
  -- IT WAS INTERNED
  module _ (h : Handle) (has : Has (text_of w) h.slot m)
      (makes : MakesForBinds d (text_of w) (slots_of_word w) (Ok h) a m)
      (keeps : Keeps (slots_of_word w) (slots_of_word w + 2)
      (a.view.core.owned ++ h.slot ∷ []) a m) where
    -- what makes were used for, where no other seat binds
    word_made : (g : GrowsBy (w ∷ []) a.view.client m.view.client)
        × (BindsAlone d a
        → m.view.core.makes ≤ a.view.core.makes + slots_of_words g.made)
    unfolding grows_quiet grows_more
    word_made = ⊎_elim
        (λ (same : m.view.client.bound ≡ a.view.client.bound). (
          grows_quiet w a.view.client m.view.client grows same,
          λ alone. ⊎_elim
              (λ (none : m.view.core.makes ≡ a.view.core.makes). omega (arith, none))
              (λ (more : BindsMore (text_of w) a.view.client m.view.client).
              absurd (one_longer a.view.client.bound more.0 (sym more.2 ∙ same)))
              (makes alone),
        ))
        (λ (more : BindsMore (text_of w) a.view.client m.view.client). (
          grows_more w a.view.client m.view.client grows more,
          λ alone. let k = keeps.makes_used in let s = slots_one w in omega (arith, k.1, s),
        ))
        grows.bound

    module _ (c : SeatState View) (la lc : Lane) (same : c.view.client ≡ m.view.client)
        (number : lc.number ≡ la.number) (turn : lc.turn ≡ la.turn + 1) where
      grown : m.view.core.makes ≡ c.view.core.makes
          → (g : GrowsBy (w ∷ []) a.view.client c.view.client)
          × (BindsAlone d a → c.view.core.makes ≤ a.view.core.makes + slots_of_words g.made)
      grown used = subst (λ (v : View). (g : GrowsBy (w ∷ []) a.view.client v)
          × (BindsAlone d a → c.view.core.makes ≤ a.view.core.makes + slots_of_words g.made))
          (sym same)
          (word_made.0, λ is. let p = word_made.1 is in omega (arith, p, used))

      -- and counted, and its record kept or given up
      pub piece_counts : CountsOneMore la.tally lc.tally w
          → KeepsOne h la.keeper lc.keeper m c → CountsPiece d w a c la lc
      piece_counts tally keep =
          let used = keep.keeps.makes_used in
          let g = grown (omega (arith, used.0, used.1)) in
          record {
            counts = record {
              tallies = tallies_one w la.tally lc.tally tally;
              more = keep.more;
              kept = keep.kept;
              keeps = keeps_word w (a.view.core.owned ++ slots_of keep.more) a c some
                  (kept_then (slots_of_word w) (slots_of_word w + 2) a m c (h.slot ∷ []) keeps
                  h.slot (slots_of keep.more) refl keep.keeps);
              grows = g.0;
              alone = g.1;
              number = number;
              turn = turn;
            };
            handle = h;
            tells = subst (λ (v : View). TellsWord v w h.slot) (sym same)
                (has_tells w h.slot m some few has);
            is = keep.is;
            marks = keep.marks;
          }

      -- or there was no memory for one of the two
      pub piece_stops : TalliesOrNot w stopped.OutOfMemory la lc → IsSameKeeper la.keeper lc.keeper
          → GivesUp (h.slot ∷ []) m c → StopsAt d w stopped.OutOfMemory a c la lc
      piece_stops tally keeper gives =
          let used = gives.keeps.makes_used in
          let g = grown (omega (arith, used.0, used.1)) in
          record {
            why = tt;
            tallies = tally;
            keeper = keeper;
            keeps = keeps_word w a.view.core.owned a c some
                (given_back (slots_of_word w) (slots_of_word w + 2) a m c (h.slot ∷ []) keeps gives);
            grows = g.0;
            alone = λ is. inl (g.1 is);
            number = number;
            turn = turn;
          }

  -- IT WASN'T INTERNED
  module _ (error : InternError)
      (refusal : MakesForBinds d (text_of w) (slots_of_word w) (unmade_result error) a m) where
    none_told : TellsNone m.view.client (text_of w) → IsUntold w a m
    none_told none = record { untold = none; bound = refusal.0 }

    -- with this cause
    why_stopped : IsWhy d error a m → IsWhyStopped d w (of_intern error) a m
    why_stopped why = go error refusal.1 why
      where
        go : (x : InternError) → IsForNone d (text_of w) (slots_of_word w) x a m → IsWhy d x a m
            → IsWhyStopped d w (of_intern x) a m
        go refused.MakesSpent unmade why = (why, (none_told unmade.0, unmade.1))
        go refused.AddsSpent unmade why = why
        go refused.Full unmade why = (why, (none_told unmade.0, unmade.1))
        go refused.OutOfMemory unmade why = tt

    -- no make was used for nothing, where no other seat binds, unless none is told
    unused : BindsAlone d a
        → (m.view.core.makes ≤ a.view.core.makes + slots_of_words []) ⊎ IsUntold w a m
    unused alone = go error refusal.1
      where
        go : (x : InternError) → IsForNone d (text_of w) (slots_of_word w) x a m
            → (m.view.core.makes ≤ a.view.core.makes + slots_of_words []) ⊎ IsUntold w a m
        go refused.MakesSpent unmade = inr (none_told unmade.0)
        go refused.AddsSpent unmade = ⊎_elim
            (λ (none : TellsNone m.view.client (text_of w)). inr (none_told none))
            (λ (same : m.view.core.makes ≡ a.view.core.makes). inl (omega (arith, same)))
            (unmade alone)
        go refused.Full unmade = inr (none_told unmade.0)
        go refused.OutOfMemory unmade = inr (none_told unmade)

    pub piece_refused : (la lc : Lane) → IsWhy d error a m
        → Keeps (slots_of_word w) (slots_of_word w + 2) a.view.core.owned a m
        → lc.tally ≡ la.tally → IsSameKeeper la.keeper lc.keeper → lc.number ≡ la.number
        → lc.turn ≡ la.turn + 1 → StopsAt d w (of_intern error) a m la lc
    unfolding grows_quiet
    piece_refused la lc why keeps tally keeper number turn = record {
      why = why_stopped why;
      tallies = inl tally;
      keeper = keeper;
      keeps = keeps_word w a.view.core.owned a m some keeps;
      grows = grows_quiet w a.view.client m.view.client grows refusal.0;
      alone = unused;
      number = number;
      turn = turn;
    }
