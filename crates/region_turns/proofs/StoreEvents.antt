-- The events of a store, and of the flush after it, join those that were made before.
use Rattle.std.proofs.Common.{◌≡◌, ◌∙◌, ℕ, ◌+◌, List, [], ◌∷◌, ◌++◌, Option, Some, None, append_assoc, length, length-append, refl, ap, sym, subst, arith}
use Rattle.std.specs.Prelude.{◌%◌, ◌==◌, Bool, true, false, if◌then◌else◌, Result, Ok, Err, IfOk, map}
use Rattle.std.specs.Result.{is_ok}
use Rattle.std.proofs.lemmas.Bool.{ne_eqb}
use Rattle.std.proofs.lemmas.List.{append-nil}
use Rattle.epoch_refs.specs.plain_protocol.plain_state.declared.act.EventPlace.TheVariants.{Cell}
use Rattle.epoch_refs.specs.plain_protocol.plain_state.declared.act.PlainAct.{PlainAct}
use Rattle.epoch_refs.specs.plain_protocol.plain_state.declared.slot.SlotId.{SlotId}
use Rattle.epoch_refs.specs.plain_protocol.plain_state.State.{Plain}
use Rattle.epoch_refs.specs.plain_protocol.Owns.{OwnPart}
use Rattle.epoch_refs.specs.epoch_core.declared.act.EpochAct.TheVariants as act
use Rattle.epoch_refs.specs.epoch_core.declared.act.Dated.{Dated}
use Rattle.epoch_refs.specs.epoch_core.declared.outcome.EpochOutcome.{EpochOutcome}
use Rattle.epoch_refs.specs.epoch_core.declared.outcome.EpochOutcome.TheVariants as outcome
use Rattle.epoch_refs.specs.epoch_core.declared.view.EpochMove.{EpochMove}
use Rattle.epoch_refs.specs.epoch_core.declared.view.EpochView.{EpochView}
use Rattle.epoch_refs.specs.epoch_domain.Domains.{DomainState}
use Rattle.epoch_refs.specs.epoch_domain.Seats.{SeatState}
use Rattle.epoch_refs.specs.declared.flushing.EpochWork.{EpochWork}
use Rattle.epoch_refs.specs.Exchanges.{Dates, IsStored}
use Rattle.epoch_refs.specs.Flushing.{Clears, Destroys, DestroysEach, Flushes, may_advance, scans, seen_by, tries}
use Rattle.epoch_refs.specs.Making.{Makes, begun_by}
use Rattle.epoch_refs.specs.Walks.{move}
use Rattle.region_turns.specs.Stores.{HasFlushed, HasStored, HasStoredEach, Turn, cell_of, dated, drawn, drawn_last, flushed_after, stored_at, turned, turned_from}
use Rattle.region_turns.proofs.Trails.{step_trail, then_events, walks_trail}

-- one turn more
turned_more : (x k : ℕ) (turns : List Turn) (t : Turn)
    → turned_from x k (turns ++ t ∷ [])
    ≡ turned_from x k turns ++ turned (drawn (drawn_last x turns)) (k + length turns) t
turned_more x k [] t =
    let same : k ≡ k + 0 = omega arith in
    append-nil (turned (drawn x) k t) ∙ ap (λ (n : ℕ). turned (drawn x) n t) same
turned_more x k (y ∷ turns) t =
    let same : (k + 1) + length turns ≡ k + length (y ∷ turns) = omega arith in
    let last = drawn (drawn_last (drawn x) turns) in
    ap (λ (ys : List EpochMove). turned (drawn x) k y ++ ys)
    (turned_more (drawn x) (k + 1) turns t
    ∙ ap (λ (n : ℕ). turned_from (drawn x) (k + 1) turns ++ turned last n t) same)
    ∙ sym (append_assoc (turned (drawn x) k y) (turned_from (drawn x) (k + 1) turns)
    (turned last (k + length (y ∷ turns)) t))

drawn_more : (x : ℕ) (turns : List Turn) (t : Turn)
    → drawn_last x (turns ++ t ∷ []) ≡ drawn (drawn_last x turns)
drawn_more x [] t = refl
drawn_more x (y ∷ turns) t = drawn_more (drawn x) turns t

-- some events were made
abbrev Went : EpochView → EpochView → Type 0
Went v u = (moves : List EpochMove) × (u.trail ≡ v.trail ++ moves)

went_on : (v u w : EpochView) → Went v u → Went u w → Went v w
went_on v u w first second =
    (first.0 ++ second.0, then_events v.trail u.trail w.trail first.0 second.0 first.1 second.1)

module _ {P V : Type 0} (fits : List ℕ → Type 0) (d : DomainState P) where
  abbrev date_of : (c : Option SlotId) (old new : SeatState V) → Dates fits d c old new → ℕ
  date_of None old new dates = 0
  date_of (Some s) old new dates = dates.0

  dates_trail : (c : Option SlotId) (old new : SeatState V) (dates : Dates fits d c old new)
      → new.view.core.trail ≡ old.view.core.trail ++ dated c (date_of c old new dates)
  dates_trail None old new same =
      ap (λ (s : SeatState V). s.view.core.trail) same ∙ sym (append-nil old.view.core.trail)
  dates_trail (Some s) old new dates =
      walks_trail fits d (move act.Date (outcome.Epoch dates.0) ∷ []) old new dates.1

  went_clearing : (s : SlotId) (i : ℕ) (old new : SeatState V) → Clears fits d s i old new
      → Went old.view.core new.view.core
  went_clearing s i old new clears =
      went_on old.view.core clears.between.view.core new.view.core
      (move (act.Clear s i) (outcome.Found clears.held) ∷ [], step_trail fits d clears.clears) (
        dated clears.held (date_of clears.held clears.between new clears.dates),
        dates_trail clears.held clears.between new clears.dates,
      )

  went_destroying : (weight : List ℕ → ℕ) (n : ℕ) (s : SlotId) (old new : SeatState V)
      → Destroys fits d weight n s old new → Went old.view.core new.view.core
  went_destroying weight n s old new x =
      went_on old.view.core x.first.view.core new.view.core
      (went_clearing s 0 old x.first x.clears_first)
      (went_on x.first.view.core x.second.view.core new.view.core
      (went_clearing s 1 x.first x.second x.clears_second)
      (went_on x.second.view.core x.read.view.core new.view.core
      (seen_by s x.payload, walks_trail fits d (seen_by s x.payload) x.second x.read x.sees)
      (move (act.Free s) outcome.Plain ∷ [], step_trail fits d x.frees)))

  went_through : (weight : List ℕ → ℕ) (ended : List (SlotId × ℕ)) (old new : SeatState V)
      → DestroysEach fits d weight ended old new → Went old.view.core new.view.core
  went_through weight [] old new same =
      ([], ap (λ (s : SeatState V). s.view.core.trail) same ∙ sym (append-nil old.view.core.trail))
  went_through weight (x ∷ ended) old new each =
      went_on old.view.core each.0.view.core new.view.core
      (went_destroying weight x.1 x.0 old each.0 each.1)
      (went_through weight ended each.0 new each.2)

  pub has_stored : {next also : OwnPart → OwnPart → V → PlainAct → ℕ → V}
      {allows may : Plain → Plain → ℕ → V → V → Type 0} {payload : List ℕ} {s : SlotId} {cell : ℕ}
      (old mid new : SeatState V) → Makes fits d next allows payload s old mid
      → IsStored fits d also may (act.Swap (Cell cell) (Some s)) mid new
      → HasStored cell old.view.core new.view.core
  has_stored {payload = payload} {s = s} {cell = cell} old mid new makes stored =
      let t = stored.1 in
      let held = stored.0 in
      let swap = move (act.Swap (Cell cell) (Some s)) (outcome.Found held) in
      let date = date_of held t.between new t.dates in
      let made = begun_by makes.begins.claims.tries s payload ++ move act.Start outcome.Plain ∷ [] in
      let swapped =
      step_trail fits d t.exchange
      ∙ ap (λ (v : EpochView). v.trail ++ swap ∷ []) (ap (λ v. v.core) t.reserved.1) in
      let taken =
      then_events mid.view.core.trail t.between.view.core.trail new.view.core.trail (swap ∷ [])
      (dated held date) swapped (dates_trail held t.between new t.dates) in
      record {
        store = record {
          tries = makes.begins.claims.tries;
          slot = s;
          payload = payload;
          held = held;
          date = date;
        };
        events =
            then_events old.view.core.trail mid.view.core.trail new.view.core.trail made
            (swap ∷ dated held date) (ap (λ (v : EpochView). v.trail) makes.core) taken;
      }

  -- a flush begins with a read of the epoch
  flush_moves : {weighs : List ℕ → ℕ} {work : EpochWork} (old new : SeatState V)
      → Flushes fits d weighs work old new
      → (e : ℕ) × (rest : List EpochMove)
      × (new.view.core.trail
      ≡ old.view.core.trail ++ move act.Flush (outcome.Epoch e) ∷ rest)
  flush_moves {weighs = weighs} old new x =
      let e = x.sweeps.epoch in
      let words = x.sweeps.words in
      let rest = scans words ++ tries (may_advance e words) x.sweeps.answer in
      let moves = move act.Flush (outcome.Epoch e) ∷ rest in
      let pays = map (λ (p : Dated × EpochOutcome). move (act.Pay p.0) p.1) x.entries in
      let paid : Went x.swept.view.core x.given.view.core =
      (pays, walks_trail fits d pays x.swept x.given x.pays.walks) in
      let after =
      went_on x.swept.view.core x.given.view.core new.view.core paid
      (went_through weighs x.ended x.given new x.destroys) in
      let begun =
      walks_trail fits d moves x.ready x.swept x.sweeps.walks
      ∙ ap (λ (v : EpochView). v.trail ++ moves) (ap (λ v. v.core) x.reserved.1) in (
        e,
        rest ++ after.0,
        then_events old.view.core.trail x.swept.view.core.trail new.view.core.trail moves after.0 begun
            after.1,
      )

  pub has_flushed : {weighs : List ℕ → ℕ} {work : EpochWork} (number : ℕ) (old new : SeatState V)
      → number % 64 ≡ 0 → Flushes fits d weighs work old new
      → HasFlushed number old.view.core new.view.core
  has_flushed number old new at x =
      let moves = flush_moves old new x in
      record {
        epoch = moves.0;
        rest = moves.1;
        events =
            moves.2
            ∙ ap (λ (ys : List EpochMove). old.view.core.trail ++ ys) (sym (flushed number at moves.0 moves.1));
      }
    where
      flushed : (number : ℕ) → number % 64 ≡ 0 → (e : ℕ) (rest : List EpochMove)
          → flushed_after number e rest ≡ move act.Flush (outcome.Epoch e) ∷ rest
      flushed number at e rest = rw at refl

-- where none is due
pub has_not_flushed : (number : ℕ) (v : EpochView) → (number % 64 ≡ 0 → ⊥) → HasFlushed number v v
has_not_flushed number v other = record {
  epoch = 0;
  rest = [];
  events =
      sym (ap (λ (ys : List EpochMove). v.trail ++ ys) (none (number % 64 == 0) (ne_eqb (number % 64) 0 other))
      ∙ append-nil v.trail);
}
  where
    none : (b : Bool) → b ≡ false
        → (if b then move act.Flush (outcome.Epoch 0) ∷ [] else []) ≡ []
    none true is = absurd (cc (is))
    none false is = refl

-- what holds of a value that is there
pub of_ok : {A E : Type 0} (P : A → Type 0) (r : Result A E) → is_ok r ≡ true → IfOk r P
    → (a : A) × P a
of_ok P (Ok a) is holds = (a, holds)
of_ok P (Err e) is holds = absurd (cc (is))

module _ {u v w : EpochView} {x n last cell : ℕ} (t : EpochView) where
  has_stored_more : HasStoredEach x n last u v → HasStored cell v t → HasFlushed (n + 1) t w
      → cell ≡ cell_of (drawn last) → HasStoredEach x (n + 1) (drawn last) u w
  has_stored_more each stored flushed is =
      let turns = each.turns in
      let turn : Turn = record {
        store = stored.store;
        epoch = flushed.epoch;
        rest = flushed.rest;
      } in
      let l = length-append turns (turn ∷ []) in
      let count = each.count in
      let draws = each.draws in
      let number : n + 1 ≡ 1 + length turns = omega (arith, count) in
      let more =
      then_events v.trail t.trail w.trail (stored_at cell stored.store)
      (flushed_after (n + 1) flushed.epoch flushed.rest) stored.events flushed.events in
      record {
        turns = turns ++ turn ∷ [];
        count = omega (arith, l, count);
        draws = ap drawn draws ∙ sym (drawn_more x turns turn);
        events =
            then_events u.trail v.trail w.trail (turned_from x 1 turns)
            (stored_at cell stored.store
            ++ flushed_after (n + 1) flushed.epoch flushed.rest) each.events more
            ∙ ap (λ (ys : List EpochMove). u.trail ++ ys)
            (ap
            (λ (c : ℕ). turned_from x 1 turns
            ++ (stored_at c stored.store ++ flushed_after (n + 1) flushed.epoch flushed.rest))
            is
            ∙ (ap (λ (k : ℕ). turned_from x 1 turns ++ turned (drawn last) k turn) number
            ∙ (ap (λ (y : ℕ). turned_from x 1 turns ++ turned (drawn y) (1 + length turns) turn) draws
            ∙ sym (turned_more x 1 turns turn))));
      }

  -- the same, by whatever names
  pub has_stored_next : {y k : ℕ} → HasStoredEach x n last u v → HasStored cell v t
      → HasFlushed k t w → y ≡ drawn last → cell ≡ cell_of y → k ≡ n + 1
      → HasStoredEach x (n + 1) y u w
  has_stored_next {y = y} each stored flushed drawn-is cell-is number-is =
      subst (λ (z : ℕ). HasStoredEach x (n + 1) z u w) (sym drawn-is)
      (has_stored_more each stored (subst (λ (k : ℕ). HasFlushed k t w) number-is flushed)
      (cell-is ∙ ap cell_of drawn-is))

-- before the first turn
pub has_stored_none : (x : ℕ) (u : EpochView) → HasStoredEach x 0 x u u
has_stored_none x u = record {
  turns = [];
  count = refl;
  draws = refl;
  events = sym (append-nil u.trail);
}
