-- Words that are counted one after the other.
use Rattle.std.proofs.Common.{◌≡◌, ℕ, ◌+◌, ◌≤◌, false, List, [], ◌∷◌, ◌++◌, refl, sym, ap, subst, ◌∙◌, append_assoc, arith}
use Rattle.std.specs.Prelude.{length, nat_lt}
use Rattle.std.proofs.lemmas.List.{append-nil, length-append, map-append}
use Rattle.std.proofs.lemmas.List.Sums.{sum_by-append}
use Rattle.cell_intern.specs.cell_calls.Cells.{BindsAlone}
use Rattle.cell_intern.specs.cell_calls.Keeping.{Keeps}
use Rattle.cell_intern.proofs.Below.cell_calls_Keeping.{keeps_self, keeps_wider}
use Rattle.cell_intern.specs.cell_calls.cell_law.declared.view.View.{View}
use Rattle.cell_intern.specs.cell_calls.cell_law.plain_state.declared.slot.SlotId.{SlotId}
use Rattle.cell_intern.specs.cell_calls.cell_law.plain_state.Lists.{times}
use Rattle.cell_intern.specs.cell_calls.cell_protocol.declared.law.CellLaw.{CellLaw}
use Rattle.cell_intern.proofs.Below.core_law_Kit.{times_none}
use Rattle.cell_intern.specs.epoch_refs.epoch_domain.Domains.{DomainState}
use Rattle.cell_intern.specs.epoch_refs.epoch_domain.Seats.{SeatState}
use Rattle.lane_work.specs.Keeping.{has, slots_of}
use Rattle.lane_work.specs.Sizes.{slots_of_words}
use Rattle.lane_work.specs.Tallying.{Tallies}
use Rattle.lane_work.specs.cdrc_text.Text.{slots_of_word}
use Rattle.lane_work.specs.counted_handles.Handles.{Handle}
use Rattle.lane_work.specs.declared.lane.Lane.{Lane}
use Rattle.cell_lanes.specs.Counting.{Counts, CountsFile, CountsPiece, GrowsBy, adds_for}
use Rattle.cell_lanes.specs.Keeping.{GivesUp}
use Rattle.cell_lanes.specs.Ready.{CanCount}
use Rattle.cell_rest.specs.Kept.{TellsWord}
use Rattle.cell_rest.specs.record_counts.Told.{TellsRecords}
use Rattle.cell_lanes.proofs.Owning.{given_back, keeps_both}
use Rattle.cell_lanes.proofs.Records.{marks_more, tells_more, tells_none}
use Rattle.cell_lanes.proofs.Tallied.{tallies_none, tallies_then}
use Rattle.cell_lanes.proofs.Viewed.{alone_on, grown_few, grows_none, grows_then}

pub slots_both : (us ws : List (List ℕ))
    → slots_of_words (us ++ ws) ≡ slots_of_words us + slots_of_words ws
slots_both us ws = sum_by-append slots_of_word us ws

pub keeps_words : (us ws : List (List ℕ)) (xs : List SlotId) (a b : SeatState View)
    → Keeps (slots_of_words us + slots_of_words ws) (adds_for us + adds_for ws) xs a b
    → Keeps (slots_of_words (us ++ ws)) (adds_for (us ++ ws)) xs a b
keeps_words us ws xs a b keeps =
    let s = slots_both us ws in
    keeps_wider (slots_of_words us + slots_of_words ws) (slots_of_words (us ++ ws))
    (adds_for us + adds_for ws) (adds_for (us ++ ws)) xs xs a b keeps
    (omega arith) (omega arith) (λ x. refl)

module _ (d : DomainState CellLaw) where
  -- nothing is counted yet
  unfoldable pub counts_none : (a : SeatState View) (before after : Lane) → after.tally ≡ before.tally
      → after.keeper.kept.items ≡ before.keeper.kept.items → after.number ≡ before.number
      → after.turn ≡ before.turn → Counts d [] a a before after
  unfolding grows_none
  counts_none a before after tally kept number turn = record {
    tallies = subst (λ t. Tallies [] before.tally t) (sym tally) (tallies_none before.tally);
    more = [];
    kept = kept ∙ sym (append-nil before.keeper.kept.items);
    keeps = keeps_wider 0 (slots_of_words []) 0 (adds_for []) a.view.core.owned
        (a.view.core.owned ++ []) a a (keeps_self a) (omega arith) (omega arith)
        (λ x. ap (times x) (sym (append-nil a.view.core.owned)));
    grows = grows_none a.view.client;
    alone = λ is. omega arith;
    number = number;
    turn = omega (arith, turn);
  }

  module _ (us ws : List (List ℕ)) (a b c : SeatState View) (la lb lc : Lane)
      (first : Counts d us a b la lb) (second : Counts d ws b c lb lc) where
    abbrev all_more : List Handle
    all_more = first.more ++ second.more

    pub all_slots : slots_of all_more ≡ slots_of first.more ++ slots_of second.more
    all_slots = map-append (λ (h : Handle). h.slot) first.more second.more

    unfoldable pub counts_then : Counts d (us ++ ws) a c la lc
    unfolding grows_then
    counts_then = record {
      tallies = tallies_then us ws la.tally lb.tally lc.tally first.tallies second.tallies;
      more = all_more;
      kept = second.kept ∙ ap (λ hs. hs ++ second.more) first.kept
          ∙ append_assoc la.keeper.kept.items first.more second.more;
      keeps = subst (λ ss. Keeps (slots_of_words (us ++ ws)) (adds_for (us ++ ws))
          (a.view.core.owned ++ ss) a c) (sym all_slots)
          (keeps_words us ws (a.view.core.owned ++ (slots_of first.more ++ slots_of second.more)) a c
          (keeps_both a b c (slots_of_words us) (slots_of_words ws) (adds_for us) (adds_for ws)
          (slots_of first.more) (slots_of second.more) first.keeps second.keeps));
      grows = grows_then us ws a.view.client b.view.client c.view.client first.grows second.grows;
      alone = λ is.
          let p = first.alone is in let q = second.alone (alone_on d us a b first.grows is) in
          let s = slots_both second.grows.made first.grows.made in omega arith;
      number = second.number ∙ first.number;
      turn = let p = first.turn in let q = second.turn in let l = length-append us ws in omega arith;
    }

  -- there is room for what is left
  pub can_then : (us : List (List ℕ)) (n m : ℕ) (a b : SeatState View) (la lb : Lane)
      → Counts d us a b la lb → CanCount n a la → length us + m ≤ n → CanCount m b lb
  can_then us n m a b la lb counts can fits = record {
    tally = let t = counts.tallies.sum in let c = can.tally in omega (arith, fits);
    turns = let t = counts.turn in let c = can.turns in omega (arith, fits);
    binds = let t = grown_few us a.view.client b.view.client counts.grows in
        let g = counts.grows.grant in let c = can.binds in omega (arith, fits);
  }

  -- after which a lane gave up what it kept more
  module _ (words : List (List ℕ)) (a b c : SeatState View) (la lb lc : Lane)
      (counts : Counts d words a b la lb) (gives : GivesUp (slots_of counts.more) b c)
      (same : c.view.client ≡ b.view.client) where
    pub grown : (g : GrowsBy words a.view.client c.view.client)
        × (BindsAlone d a
        → c.view.core.makes ≤ a.view.core.makes + slots_of_words g.made)
    grown = subst (λ (v : View). (g : GrowsBy words a.view.client v)
        × (BindsAlone d a → c.view.core.makes ≤ a.view.core.makes + slots_of_words g.made))
        (sym same) (
          counts.grows,
          λ is. let p = counts.alone is in let q = gives.keeps.makes_used in
              omega (arith, p, q.0, q.1),
        )

    unfoldable pub counts_given : lc.tally ≡ lb.tally → lc.keeper.kept.items ≡ la.keeper.kept.items
        → lc.number ≡ lb.number → lc.turn ≡ lb.turn → Counts d words a c la lc
    counts_given tally kept number turn = record {
      tallies = subst (λ t. Tallies words la.tally t) (sym tally) counts.tallies;
      more = [];
      kept = kept ∙ sym (append-nil la.keeper.kept.items);
      keeps = keeps_wider (slots_of_words words) (slots_of_words words) (adds_for words)
          (adds_for words) a.view.core.owned (a.view.core.owned ++ []) a c
          (given_back (slots_of_words words) (adds_for words) a b c (slots_of counts.more)
          counts.keeps gives)
          (omega arith) (omega arith) (λ x. ap (times x) (sym (append-nil a.view.core.owned)));
      grows = grown.0;
      alone = grown.1;
      number = number ∙ counts.number;
      turn = turn ∙ counts.turn;
    }

-- A FILE. So many words are counted, and the marks are those of what is kept
abbrev pub IsCounted : DomainState CellLaw → List (List ℕ) → SeatState View → SeatState View → Lane
    → Lane → Type 0
IsCounted d words old new before after =
    (done : CountsFile d words old new before after)
    × ((s : SlotId) → has after.keeper s ≡ nat_lt 0 (times s (slots_of done.counts.more)))

module _ (d : DomainState CellLaw) where
  pub counted_none : (a : SeatState View) (before after : Lane) → after.tally ≡ before.tally
      → after.keeper.kept.items ≡ before.keeper.kept.items → after.number ≡ before.number
      → after.turn ≡ before.turn → ((s : SlotId) → has after.keeper s ≡ false)
      → IsCounted d [] a a before after
  unfolding counts_none
  counted_none a before after tally kept number turn none = (
    record {
      counts = counts_none d a before after tally kept number turn;
      tells = tells_none a.view.client;
    },
    λ s. none s ∙ sym (ap (nat_lt 0) (times_none s)),
  )

  module _ (ws : List (List ℕ)) (w : List ℕ) (a b c : SeatState View) (la lb lc : Lane)
      (so_far : IsCounted d ws a b la lb) (next : CountsPiece d w b c lb lc) where
    abbrev first : Counts d ws a b la lb
    first = so_far.0.counts

    both : Counts d (ws ++ w ∷ []) a c la lc
    both = counts_then d ws (w ∷ []) a b c la lb lc first next.counts

    told : TellsRecords (TellsWord c.view.client) (ws ++ w ∷ [])
        (slots_of first.more ++ slots_of next.counts.more)
    told = tells_more ws w (slots_of first.more) next.handle next.counts.more b.view.client
        c.view.client so_far.0.tells next.counts.grows next.tells (has lb.keeper next.handle.slot)
        next.is (so_far.1 next.handle.slot)

    marked : (s : SlotId) → has lc.keeper s
        ≡ nat_lt 0 (times s (slots_of first.more ++ slots_of next.counts.more))
    marked s = marks_more ws w (slots_of first.more) next.handle next.counts.more b.view.client
        c.view.client so_far.0.tells next.counts.grows next.tells (has lb.keeper next.handle.slot)
        next.is (so_far.1 next.handle.slot) (has lb.keeper s) (has lc.keeper s) s (so_far.1 s)
        (next.marks s)

    abbrev slots_now : slots_of (first.more ++ next.counts.more)
        ≡ slots_of first.more ++ slots_of next.counts.more
    slots_now = all_slots d ws (w ∷ []) a b c la lb lc first next.counts

    pub counted_on : IsCounted d (ws ++ w ∷ []) a c la lc
    unfolding both counts_then
    counted_on = (
      record {
        counts = both;
        tells = subst (λ ss. TellsRecords (TellsWord c.view.client) (ws ++ w ∷ []) ss) (sym slots_now) told;
      },
      λ s. subst (λ ss. has lc.keeper s ≡ nat_lt 0 (times s ss)) (sym slots_now) (marked s),
    )
