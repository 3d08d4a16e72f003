-- What gives up entries and destroys objects leaves the epoch as it is, and dates no entry before it.
use Rattle.std.proofs.Common.{◌≡◌, ℕ, zero, suc, ◌+◌, ◌≤◌, List, [], ◌∷◌, map, set, refl, ap, sym, ◌∙◌, subst, arith}
use Rattle.std.specs.Prelude.{All, Option, Some, None, slice_index}
use Rattle.std.proofs.lemmas.List.{get_or-set_other, set-get_or}
use Rattle.std.proofs.lemmas.List.Elements.{All-append, All-cons, All-nil}
use Rattle.epoch_core.specs.core_events.Words.{each_from}
use Rattle.epoch_core.specs.plain_state.declared.slot.SlotId.{SlotId}
use Rattle.epoch_core.specs.declared.act.Dated.{Dated}
use Rattle.epoch_core.specs.declared.act.EpochAct.{EpochAct}
use Rattle.epoch_core.specs.declared.act.EpochAct.TheVariants as act
use Rattle.epoch_core.specs.declared.outcome.EpochOutcome.{EpochOutcome}
use Rattle.epoch_core.specs.declared.outcome.EpochOutcome.TheVariants as outcome
use Rattle.epoch_core.specs.declared.shape.EpochShape.{EpochShape}
use Rattle.epoch_core.specs.declared.view.EpochView.{EpochView}
use Rattle.epoch_core.specs.Runs.{Core, after, epoch}
use Rattle.epoch_core.specs.Steps.{dated_with, took}
use Rattle.epoch_core.specs.Views.{slot_of}
use Rattle.epoch_core.specs.Words.{epoch_at}
use Rattle.epoch_refs.specs.epoch_rule.Views.{core_in, whole_of}
use Rattle.epoch_refs.specs.epoch_domain.Calls.{IsSameView, Steps, same_view}
use Rattle.epoch_refs.specs.epoch_domain.Domains.{DomainState}
use Rattle.epoch_refs.specs.epoch_domain.Seats.{SeatState}
use Rattle.epoch_refs.specs.Exchanges.{Dates}
use Rattle.epoch_refs.specs.Flushing.{Clears, Destroys, DestroysEach}
use Rattle.epoch_refs.specs.Walks.{Walks, move}
use Rattle.epoch_settling.specs.Alone.{AreLater, KnowsEpoch}
use Rattle.epoch_settling.proofs.Whole.{steps_alone}

-- an act of a seat that is alone leaves the epoch, whatever the state
abbrev LeavesEpoch : EpochShape → EpochAct → Type 0
LeavesEpoch z a = (c : Core) → epoch (after z c 0 a) ≡ epoch c

other_word : (ws : List ℕ) (p w : ℕ) → 8 ≤ p → slice_index (set ws p w) epoch_at ≡ slice_index ws epoch_at
other_word ws p w high = get_or-set_other ws p epoch_at w 0 (omega (arith, high))

pay_leaves : (z : EpochShape) (x : Dated) → LeavesEpoch z (act.Pay x)
pay_leaves z x c = other_word c.words _ _ (omega arith)

clear_leaves : (z : EpochShape) (s : SlotId) (i : ℕ) → LeavesEpoch z (act.Clear s i)
clear_leaves z s i c = other_word c.words _ _ (omega arith)

see_leaves : (z : EpochShape) (s : SlotId) (i : ℕ) → LeavesEpoch z (act.See s i)
see_leaves z s i c = other_word c.words _ _ (omega arith)

free_leaves : (z : EpochShape) (s : SlotId) → LeavesEpoch z (act.Free s)
free_leaves z s c = other_word c.words _ _ (omega arith)

date_leaves : (z : EpochShape) → LeavesEpoch z act.Date
date_leaves z c = ap (λ (ws : List ℕ). slice_index ws epoch_at) (set-get_or c.words epoch_at 0)

took_pending : (o : Option SlotId) (v : EpochView) → (took o v).pending ≡ v.pending
took_pending None v = refl
took_pending (Some s) v = refl

took_known : (o : Option SlotId) (v : EpochView) → (took o v).known ≡ v.known
took_known None v = refl
took_known (Some s) v = refl

-- an entry of this date
later_dated : (e w : ℕ) → e ≤ w → (o : Option SlotId)
    → All (λ (x : Dated). e ≤ x.date) (dated_with w o)
later_dated e w low None = All-nil (λ (x : Dated). e ≤ x.date)
later_dated e w low (Some s) =
    All-cons (λ (x : Dated). e ≤ x.date) (record { slot = s; date = w }) [] low
    (All-nil (λ (x : Dated). e ≤ x.date))

module _ {P V : Type 0} (fits : List ℕ → Type 0) (d : DomainState P) where
  -- the seat knows this epoch
  pub knows_still : (a : EpochAct) (o : EpochOutcome) (e : ℕ) (old new : SeatState V)
      → Steps fits d same_view IsSameView a old new o → LeavesEpoch d.shape a
      → KnowsEpoch e old.view → KnowsEpoch e new.view
  knows_still a o e old new step leaves k =
      let s = steps_alone fits d a o k.all old new step k.knows in record {
        all = whole_of (after d.shape (core_in k.all) 0 a);
        knows = s.then;
        now = leaves (core_in k.all) ∙ k.now;
      }

  pub pays_know : (paid : List (Dated × EpochOutcome)) (e : ℕ) (old new : SeatState V)
      → Walks fits d (map (λ (p : Dated × EpochOutcome). move (act.Pay p.0) p.1) paid) old new
      → KnowsEpoch e old.view → KnowsEpoch e new.view
  pays_know [] e old new walk k = subst (λ (s : SeatState V). KnowsEpoch e s.view) (sym walk) k
  pays_know (p ∷ paid) e old new walk k =
      pays_know paid e walk.0 new walk.2
      (knows_still (act.Pay p.0) p.1 e old walk.0 walk.1 (pay_leaves d.shape p.0) k)

  -- it knows this epoch, and has no entry that is dated before f, which is no later
  record Rests (f e : ℕ) (s : SeatState V) : Type 0 where
    knows : KnowsEpoch e s.view
    known : s.view.core.known ≡ e
    later : AreLater f s.view

  sees_rest : (f e k n : ℕ) (x : SlotId) (payload : List ℕ) (old new : SeatState V)
      → Walks fits d (each_from k n (λ i. move (act.See x i) (outcome.Word (slice_index payload i)))) old new
      → Rests f e old → Rests f e new
  sees_rest f e k zero x payload old new walk r = subst (Rests f e) (sym walk) r
  sees_rest f e k (suc n) x payload old new walk r =
      sees_rest f e (k + 1) n x payload walk.0 new walk.2 (record {
        knows = knows_still (act.See x k) _ e old walk.0 walk.1 (see_leaves d.shape x k) r.knows;
        known = ap (λ (v : EpochView). v.known) walk.1.told.core ∙ r.known;
        later = subst (λ (v : EpochView). All (λ (y : Dated). f ≤ y.date) v.pending)
            (sym walk.1.told.core) r.later;
      })

  dates_rest : (f e : ℕ) → f ≤ e → (took' : Option SlotId) (old new : SeatState V)
      → Dates fits d took' old new → Rests f e old → Rests f e new
  dates_rest f e low None old new same r = subst (Rests f e) (sym same) r
  dates_rest f e low (Some s) old new walk r =
      let step = walk.1.1 in
      let s' = steps_alone fits d act.Date _ r.knows.all old walk.1.0 step r.knows.knows in
      let now : step.word ≡ e = s'.found_is ∙ r.knows.now in
      subst (Rests f e) (sym walk.1.2) (record {
        knows = knows_still act.Date _ e old walk.1.0 step (date_leaves d.shape) r.knows;
        known = ap (λ (v : EpochView). v.known) step.told.core ∙ r.known;
        later = subst (λ (v : EpochView). All (λ (y : Dated). f ≤ y.date) v.pending)
            (sym step.told.core)
            (All-append (λ (y : Dated). f ≤ y.date) old.view.core.pending
            (dated_with step.word (slot_of old.view.core.phase)) r.later
            (later_dated f step.word (omega (arith, low, now)) (slot_of old.view.core.phase)));
      })

  clears_rest : (f e : ℕ) → f ≤ e → (x : SlotId) (i : ℕ) (old new : SeatState V)
      → Clears fits d x i old new → Rests f e old → Rests f e new
  clears_rest f e low x i old new c r =
      dates_rest f e low c.held c.between new c.dates (record {
        knows = knows_still (act.Clear x i) _ e old c.between c.clears (clear_leaves d.shape x i) r.knows;
        known = ap (λ (v : EpochView). v.known) c.clears.told.core
            ∙ (took_known _ old.view.core ∙ r.known);
        later = subst (λ (v : EpochView). All (λ (y : Dated). f ≤ y.date) v.pending)
            (sym c.clears.told.core)
            (subst (λ (ps : List Dated). All (λ (y : Dated). f ≤ y.date) ps)
            (sym (took_pending _ old.view.core)) r.later);
      })

  destroys_rest : (weight : List ℕ → ℕ) (answer f e : ℕ) → f ≤ e → (x : SlotId) (old new : SeatState V)
      → Destroys fits d weight answer x old new → Rests f e old → Rests f e new
  destroys_rest weight answer f e low x old new g r =
      let first = clears_rest f e low x 0 old g.first g.clears_first r in
      let second = clears_rest f e low x 1 g.first g.second g.clears_second first in
      let seen = sees_rest f e 0 16 x g.payload g.second g.read g.sees second in
      record {
        knows = knows_still (act.Free x) _ e g.read new g.frees (free_leaves d.shape x) seen.knows;
        known = ap (λ (v : EpochView). v.known) g.frees.told.core ∙ seen.known;
        later = subst (λ (v : EpochView). All (λ (y : Dated). f ≤ y.date) v.pending)
            (sym g.frees.told.core) seen.later;
      }

  all_rest : (weight : List ℕ → ℕ) (f e : ℕ) → f ≤ e → (ended : List (SlotId × ℕ))
      (old new : SeatState V) → DestroysEach fits d weight ended old new → Rests f e old → Rests f e new
  all_rest weight f e low [] old new same r = subst (Rests f e) (sym same) r
  all_rest weight f e low (x ∷ ended) old new each r =
      all_rest weight f e low ended each.0 new each.2
      (destroys_rest weight x.1 f e low x.0 old each.0 each.1 r)

  -- what is destroyed leaves no entry dated before f
  pub destroys_later : (weight : List ℕ → ℕ) (f e : ℕ) → f ≤ e → (ended : List (SlotId × ℕ))
      (old new : SeatState V) → DestroysEach fits d weight ended old new → KnowsEpoch e old.view
      → old.view.core.known ≡ e → AreLater f old.view
      → KnowsEpoch e new.view × (new.view.core.known ≡ e) × AreLater f new.view
  destroys_later weight f e low ended old new each knows known later =
      let r = all_rest weight f e low ended old new each
      (record { knows = knows; known = known; later = later }) in
      (r.knows, r.known, r.later)
