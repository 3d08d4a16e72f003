-- A flush has read all region words, and has tried to advance the epoch where it may.
use Rattle.std.proofs.Common.{◌≡◌, ℕ, ◌+◌, ◌^◌, ◌<◌, Bool, true, false, List, ◌∷◌, ◌++◌, append-nil, length, refl, ap, sym, ◌∙◌, subst, arith}
use Rattle.std.specs.Prelude.{◌==◌, ◌&&◌, not, nat_lt, if◌then◌else◌}
use Rattle.std.specs.List.{list_all}
use Rattle.std.proofs.lemmas.Bool.{eq-eqb}
use Rattle.std.proofs.lemmas.Bool.Decides.{nat_tests}
use Rattle.epoch_domain.specs.plain_protocol.plain_state.declared.slot.SlotId.{SlotId}
use Rattle.epoch_domain.specs.epoch_core.declared.act.Dated.{Dated}
use Rattle.epoch_domain.specs.epoch_core.declared.act.EpochAct.TheVariants as act
use Rattle.epoch_domain.specs.epoch_core.declared.outcome.EpochOutcome.{EpochOutcome}
use Rattle.epoch_domain.specs.epoch_core.declared.outcome.EpochOutcome.TheVariants as outcome
use Rattle.epoch_domain.specs.epoch_core.declared.shape.EpochShape.{EpochShape}
use Rattle.epoch_domain.specs.epoch_core.declared.view.EpochMove.{EpochMove}
use Rattle.epoch_domain.specs.epoch_core.declared.view.EpochPhase.{EpochPhase}
use Rattle.epoch_domain.specs.epoch_core.declared.view.EpochPhase.TheVariants as phase
use Rattle.epoch_domain.specs.epoch_core.declared.view.EpochView.{EpochView}
use Rattle.epoch_domain.specs.epoch_core.Steps.{is_fit, swept}
use Rattle.epoch_domain.specs.epoch_core.Views.{IsIdle, epoch_of}
use Rattle.epoch_domain.specs.epoch_core.Words.{last_epoch}
use Rattle.epoch_domain.specs.Calls.{IsSameView, Steps, same_view}
use Rattle.epoch_domain.specs.Domains.{DomainState}
use Rattle.epoch_domain.specs.Seats.{SeatState}
use Rattle.epoch_refs.specs.Flushing.{IsFlushing, Scans, Sweeps, may_advance, scans, tries}
use Rattle.epoch_refs.specs.Walks.{Walks, move}
use Rattle.epoch_refs.proofs.RegionWords.{at_scan}
use Rattle.epoch_refs.proofs.Walking.{one_step, walks_then}

pub is_flushing : (v u : EpochView) (ps : List Dated) (ds : List SlotId) (k : ℕ)
    (t : List EpochMove) (p : EpochPhase)
    → u ≡ record v { pending = ps; dying = ds; known = k; trail = t; phase = p } → p ≡ v.phase
    → IsFlushing v u
is_flushing v u ps ds k t p is same =
    is
    ∙ (λ i. record v {
      pending = (sym is i).pending;
      dying = (sym is i).dying;
      known = (sym is i).known;
      trail = (sym is i).trail;
      phase = same i;
    })

-- how the scan ends after the last word
ends : (z : EpochShape) (e k : ℕ) (f : Bool) (v : EpochView) → k ≡ z.seats
    → swept z e k f v
    ≡ (if f && nat_lt e last_epoch then record v { phase = at_scan e k f }
    else record v { known = e; phase = phase.Idle })
ends z e k f v all = go (f && nat_lt e last_epoch)
  where
    test : (k == z.seats) ≡ true
    test = eq-eqb k z.seats all

    go : (b : Bool)
        → ◌≡◌ {A = EpochView}
        (if k == z.seats && not b then record v { known = e; phase = phase.Idle }
        else record v { phase = at_scan e k f })
        (if b then record v { phase = at_scan e k f }
        else record v { known = e; phase = phase.Idle })
    go true = rw test refl
    go false = rw test refl

read_epoch : (e w k : ℕ) (f : Bool) → at_scan w 0 true ≡ at_scan e 0 true → w ≡ e
read_epoch e w k f is = ap epoch_of is

module _ {P V : Type 0} (fits : List ℕ → Type 0) (d : DomainState P) (old flushed full : SeatState V)
    (o : EpochOutcome) (first : Steps fits d same_view IsSameView act.Flush old flushed o)
    (idle : IsIdle old.view.core) (words : List ℕ) (e : ℕ)
    (began : flushed.view.core.phase ≡ at_scan e 0 true) (all : length words ≡ d.shape.seats)
    (scan : Scans fits d words e flushed full) where
  abbrev f : Bool
  f = list_all (is_fit e) words

  abbrev b : Bool
  b = may_advance e words

  same_epoch : first.word ≡ e
  same_epoch = read_epoch e first.word 0 true
      (sym (ap (λ (v : EpochView). v.phase) first.told.core) ∙ began)

  begun : Steps fits d same_view IsSameView act.Flush old flushed (outcome.Epoch e)
  begun = subst (Steps fits d same_view IsSameView act.Flush old flushed)
      (first.answers ∙ ap outcome.Epoch same_epoch) first

  full_is : full.view.core
      ≡ record (if b then record flushed.view.core { phase = at_scan e (length words) f }
      else record flushed.view.core { known = e; phase = phase.Idle }) {
        trail = full.view.core.trail;
      }
  full_is =
      scan.core
      ∙ ap (λ (v : EpochView). record v { trail = full.view.core.trail })
      (ends d.shape e (length words) f flushed.view.core all)

  so_far : Walks fits d (move act.Flush (outcome.Epoch e) ∷ scans words) old full
  so_far = (flushed, begun, scan.walks)

  -- where the epoch may advance the seat is still in its scan
  in_scan : b ≡ true → full.view.core.phase ≡ at_scan e (length words) f
  in_scan may =
      ap (λ (v : EpochView). v.phase) full_is
      ∙ ap (λ (t : Bool). (if t then record flushed.view.core { phase = at_scan e (length words) f }
      else record flushed.view.core { known = e; phase = phase.Idle }).phase) may

  at_rest : b ≡ false → full.view.core.phase ≡ phase.Idle
  at_rest not_so =
      ap (λ (v : EpochView). v.phase) full_is
      ∙ ap (λ (t : Bool). (if t then record flushed.view.core { phase = at_scan e (length words) f }
      else record flushed.view.core { known = e; phase = phase.Idle }).phase) not_so

  by_may : {T : Type 0} → (b ≡ true → T) → (b ≡ false → T) → T
  by_may {T = T} allowed stays = go b refl
    where
      go : (t : Bool) → b ≡ t → T
      go true is = allowed is
      go false is = stays is

  module _ (stopped : full.view.core.phase ≡ phase.Idle) where
    none : b ≡ false
    none = by_may
        (λ may. let wrong : at_scan e (length words) f ≡ phase.Idle = sym (in_scan may) ∙ stopped in
        absurd (cc (wrong)))
        (λ is. is)

    frame : full.view.core
        ≡ record old.view.core {
          pending = old.view.core.pending;
          dying = old.view.core.dying;
          known = e;
          trail = full.view.core.trail;
          phase = phase.Idle;
        }
    frame =
        full_is
        ∙ (ap (λ (t : Bool). record (if t
        then record flushed.view.core { phase = at_scan e (length words) f }
        else record flushed.view.core { known = e; phase = phase.Idle }) {
          trail = full.view.core.trail;
        }) none
        ∙ ap (λ (v : EpochView). record v {
          known = e;
          phase = phase.Idle;
          trail = full.view.core.trail;
        }) first.told.core)

    pub swept_still : Sweeps fits d old full
    swept_still = record {
      epoch = e;
      words = words;
      answer = outcome.Plain;
      all = all;
      walks = subst (λ (ms : List EpochMove). Walks fits d ms old full)
          (ap (λ (ms : List EpochMove). move act.Flush (outcome.Epoch e) ∷ ms)
          (sym (append-nil (scans words))
          ∙ ap (λ (t : Bool). scans words ++ tries t outcome.Plain) (sym none))) so_far;
      core = is_flushing old.view.core full.view.core old.view.core.pending old.view.core.dying e
          full.view.core.trail phase.Idle frame (sym idle.0);
      pending = ap (λ (v : EpochView). v.pending) frame;
      dying = ap (λ (v : EpochView). v.dying) frame;
    }

  module _ (goes : full.view.core.phase ≡ phase.Idle → ⊥) where
    may : b ≡ true
    may = by_may (λ is. is) (λ not_so. absurd (goes (at_rest not_so)))

    pub may_try : full.view.core.phase ≡ at_scan e (length words) f
    may_try = in_scan may

    early : e < last_epoch
    early = let is = may in grind (arith, nat_tests)

    pub small : epoch_of full.view.core.phase + 1 < 2 ^ 64
    small =
        let here = ap epoch_of may_try in let low = early in omega (arith, here, low)

    module _ (new : SeatState V) (p : EpochOutcome)
        (last : Steps fits d same_view IsSameView act.Advance full new p) where
      frame_on : new.view.core
          ≡ record old.view.core {
            pending = old.view.core.pending;
            dying = old.view.core.dying;
            known = new.view.core.known;
            trail = new.view.core.trail;
            phase = phase.Idle;
          }
      frame_on =
          advanced
          ∙ (ap (λ (v : EpochView). record v {
            known = new.view.core.known;
            phase = phase.Idle;
            trail = new.view.core.trail;
          }) (full_is
          ∙ ap (λ (t : Bool). record (if t
          then record flushed.view.core { phase = at_scan e (length words) f }
          else record flushed.view.core { known = e; phase = phase.Idle }) {
            trail = full.view.core.trail;
          }) may)
          ∙ ap (λ (v : EpochView). record v {
            known = new.view.core.known;
            phase = phase.Idle;
            trail = new.view.core.trail;
          }) first.told.core)
        where
          advanced : new.view.core
              ≡ record full.view.core {
                known = new.view.core.known;
                phase = phase.Idle;
                trail = new.view.core.trail;
              }
          advanced =
              last.told.core
              ∙ (λ i. record full.view.core {
                known = (sym last.told.core i).known;
                phase = phase.Idle;
                trail = (sym last.told.core i).trail;
              })

      pub swept_on : Sweeps fits d old new
      swept_on = record {
        epoch = e;
        words = words;
        answer = p;
        all = all;
        walks = subst (λ (ms : List EpochMove). Walks fits d ms old new)
            (ap (λ (t : Bool). move act.Flush (outcome.Epoch e) ∷ (scans words ++ tries t p)) (sym may))
            (walks_then fits d (move act.Flush (outcome.Epoch e) ∷ scans words) (tries true p) old full new
            so_far (one_step fits d act.Advance p full new last));
        core = is_flushing old.view.core new.view.core old.view.core.pending old.view.core.dying
            new.view.core.known new.view.core.trail phase.Idle frame_on (sym idle.0);
        pending = ap (λ (v : EpochView). v.pending) frame_on;
        dying = ap (λ (v : EpochView). v.dying) frame_on;
      }
