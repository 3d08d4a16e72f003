-- A flush leaves the client's view, and what the seat knows of the objects that it owns.
use Rattle.std.proofs.Common.{◌≡◌, ℕ, zero, suc, ◌+◌, ◌-◌, ◌^◌, ◌<◌, Bool, true, false, List, [], ◌∷◌, ◌++◌, length, map, refl, ap, sym, ◌∙◌, subst, arith}
use Rattle.std.specs.Prelude.{Option, Some, None, min, slice_index, if◌then◌else◌, ◌==◌, ◌&&◌, not, nat_lt}
use Rattle.epoch_core.specs.core_events.Words.{each_from}
use Rattle.epoch_core.specs.plain_state.declared.slot.SlotId.{SlotId}
use Rattle.epoch_core.specs.plain_state.Lists.{times}
use Rattle.epoch_core.specs.declared.act.Dated.{Dated}
use Rattle.epoch_core.specs.declared.act.EpochAct.{EpochAct}
use Rattle.epoch_core.specs.declared.act.EpochAct.TheVariants as act
use Rattle.epoch_core.specs.declared.outcome.EpochOutcome.{EpochOutcome}
use Rattle.epoch_core.specs.declared.outcome.EpochOutcome.TheVariants as outcome
use Rattle.epoch_core.specs.declared.shape.EpochShape.{EpochShape}
use Rattle.epoch_core.specs.declared.view.EpochPhase.{EpochPhase}
use Rattle.epoch_core.specs.declared.view.EpochPhase.TheVariants as phase
use Rattle.epoch_core.specs.declared.view.EpochView.{EpochView}
use Rattle.epoch_core.specs.Steps.{changed, ended_by, is_fit, scanned, took}
use Rattle.epoch_core.specs.Words.{last_epoch}
use Rattle.epoch_rule.proofs.Others.{held_has}
use Rattle.epoch_refs.specs.epoch_rule.Views.{object_in}
use Rattle.epoch_refs.specs.epoch_rule.declared.view.EpochSeatView.{EpochSeatView}
use Rattle.epoch_refs.specs.epoch_domain.Calls.{IsSameView, Steps, same_view}
use Rattle.epoch_refs.specs.epoch_domain.Domains.{DomainState}
use Rattle.epoch_refs.specs.epoch_domain.Seats.{SeatState}
use Rattle.epoch_refs.specs.declared.flushing.EpochWork.{EpochWork}
use Rattle.epoch_refs.specs.Exchanges.{Dates, IsUnchanged}
use Rattle.epoch_refs.specs.Flushing.{Clears, DestroysEach, Flushes, IsFlushing, scans, tries}
use Rattle.epoch_refs.specs.Walks.{IsAtRest, Walks, move}
use Rattle.epoch_refs.proofs.Payments.{flushing_then}
use Rattle.epoch_settling.specs.Settling.{FlushesEach, Settles, StaysBut, weights_of}
use Rattle.epoch_settling.proofs.Whole.{walks_split}

-- an act that gives and takes no reference of the seat's, whatever its view
abbrev LeavesOwned : EpochShape → EpochAct → Type 0
LeavesOwned z a = (w : ℕ) (v : EpochView) → (changed z a w v).owned ≡ v.owned

took_owned : (o : Option SlotId) (v : EpochView) → (took o v).owned ≡ v.owned
took_owned None v = refl
took_owned (Some s) v = refl

ended_owned : (w : ℕ) (s : SlotId) (v : EpochView) → (ended_by w s v).owned ≡ v.owned
ended_owned w s v = go (w == 1)
  where
    go : (b : Bool) → (if b then record v { dying = v.dying ++ s ∷ [] } else v).owned ≡ v.owned
    go true = refl
    go false = refl

scan_owned : (z : EpochShape) (w : ℕ) (p : EpochPhase) (v : EpochView)
    → (scanned z w p v).owned ≡ v.owned
scan_owned z w phase.Idle v = refl
scan_owned z w (phase.Entering e) v = refl
scan_owned z w (phase.Undated s) v = refl
scan_owned z w (phase.Blank s) v = refl
scan_owned z w (phase.Scan x) v =
    go (x.passed + 1 == z.seats && not (x.fit && is_fit x.epoch w && nat_lt x.epoch last_epoch))
  where
    go : (b : Bool)
        → (if b then record v { known = x.epoch; phase = phase.Idle }
        else record v { phase = phase.Scan (record { epoch = x.epoch; passed = x.passed + 1; fit = x.fit && is_fit x.epoch w }) }).owned
        ≡ v.owned
    go true = refl
    go false = refl

pay_owned : (z : EpochShape) (x : Dated) → LeavesOwned z (act.Pay x)
pay_owned z x w v = ended_owned w x.slot _

clear_owned : (z : EpochShape) (s : SlotId) (i : ℕ) → LeavesOwned z (act.Clear s i)
clear_owned z s i w v = took_owned _ v

owned_held : (x : SlotId) (v : EpochView) → 0 < times x v.owned
    → 0 < times x v.owned + times x v.seen
owned_held x v has = omega (arith, has)

module _ {P V : Type 0} (fits : List ℕ → Type 0) (d : DomainState P) where
  -- what stays
  record Stays (old new : SeatState V) : Type 0 where
    owned : new.view.core.owned ≡ old.view.core.owned
    client : new.view.client ≡ old.view.client
    knows :
        (x : SlotId) → 0 < times x old.view.core.owned
        → object_in new.view x ≡ object_in old.view x

  stays_self : (s : SeatState V) → Stays s s
  stays_self s = record { owned = refl; client = refl; knows = λ x has. refl }

  stays_then : (a b c : SeatState V) → Stays a b → Stays b c → Stays a c
  stays_then a b c first second = record {
    owned = second.owned ∙ first.owned;
    client = second.client ∙ first.client;
    knows = λ x has.
        second.knows x (subst (λ (xs : List SlotId). 0 < times x xs) (sym first.owned) has)
        ∙ first.knows x has;
  }

  stays_same : (a b c : SeatState V) → Stays a b → c ≡ b → Stays a c
  stays_same a b c first same = subst (Stays a) (sym same) first

  module _ (a : EpochAct) (o : EpochOutcome) (old new : SeatState V)
      (step : Steps fits d same_view IsSameView a old new o) (kept : LeavesOwned d.shape a) where
    owned_stays : new.view.core.owned ≡ old.view.core.owned
    owned_stays = ap (λ (v : EpochView). v.owned) step.told.core ∙ kept step.word old.view.core

  flush_stays : (o : EpochOutcome) (old new : SeatState V)
      → Steps fits d same_view IsSameView act.Flush old new o → Stays old new
  flush_stays o old new step = record {
    owned = owned_stays act.Flush o old new step (λ w v. refl);
    client = step.told.client;
    knows = λ x has. step.told.objects x (held_has x old.view.core (owned_held x old.view.core has));
  }

  scan_stays : (o : EpochOutcome) (old new : SeatState V)
      → Steps fits d same_view IsSameView act.Scan old new o → Stays old new
  scan_stays o old new step = record {
    owned = owned_stays act.Scan o old new step (λ w v. scan_owned d.shape w v.phase v);
    client = step.told.client;
    knows = λ x has. step.told.objects x (held_has x old.view.core (owned_held x old.view.core has));
  }

  advance_stays : (o : EpochOutcome) (old new : SeatState V)
      → Steps fits d same_view IsSameView act.Advance old new o → Stays old new
  advance_stays o old new step = record {
    owned = owned_stays act.Advance o old new step (λ w v. refl);
    client = step.told.client;
    knows = λ x has. step.told.objects x (held_has x old.view.core (owned_held x old.view.core has));
  }

  pay_stays : (p : Dated) (o : EpochOutcome) (old new : SeatState V)
      → Steps fits d same_view IsSameView (act.Pay p) old new o → Stays old new
  pay_stays p o old new step = record {
    owned = owned_stays (act.Pay p) o old new step (pay_owned d.shape p);
    client = step.told.client;
    knows = λ x has. step.told.objects x (held_has x old.view.core (owned_held x old.view.core has));
  }

  clear_stays : (s : SlotId) (i : ℕ) (o : EpochOutcome) (old new : SeatState V)
      → Steps fits d same_view IsSameView (act.Clear s i) old new o → Stays old new
  clear_stays s i o old new step = record {
    owned = owned_stays (act.Clear s i) o old new step (clear_owned d.shape s i);
    client = step.told.client;
    knows = λ x has. step.told.objects x (held_has x old.view.core (owned_held x old.view.core has));
  }

  date_stays : (o : EpochOutcome) (old new : SeatState V)
      → Steps fits d same_view IsSameView act.Date old new o → Stays old new
  date_stays o old new step = record {
    owned = owned_stays act.Date o old new step (λ w v. refl);
    client = step.told.client;
    knows = λ x has. step.told.objects x (held_has x old.view.core (owned_held x old.view.core has));
  }

  see_stays : (s : SlotId) (i : ℕ) (o : EpochOutcome) (old new : SeatState V)
      → Steps fits d same_view IsSameView (act.See s i) old new o → Stays old new
  see_stays s i o old new step = record {
    owned = owned_stays (act.See s i) o old new step (λ w v. refl);
    client = step.told.client;
    knows = λ x has. step.told.objects x (held_has x old.view.core (owned_held x old.view.core has));
  }

  free_stays : (s : SlotId) (o : EpochOutcome) (old new : SeatState V)
      → Steps fits d same_view IsSameView (act.Free s) old new o → Stays old new
  free_stays s o old new step = record {
    owned = owned_stays (act.Free s) o old new step (λ w v. refl);
    client = step.told.client;
    knows = λ x has. step.told.objects x (held_has x old.view.core (owned_held x old.view.core has));
  }

  scans_stay : (words : List ℕ) (old new : SeatState V) → Walks fits d (scans words) old new
      → Stays old new
  scans_stay [] old new walk = stays_same old old new (stays_self old) walk
  scans_stay (w ∷ words) old new walk =
      stays_then old walk.0 new (scan_stays _ old walk.0 walk.1) (scans_stay words walk.0 new walk.2)

  tries_stay : (b : Bool) (o : EpochOutcome) (old new : SeatState V) → Walks fits d (tries b o) old new
      → Stays old new
  tries_stay true o old new walk =
      stays_same old walk.0 new (advance_stays o old walk.0 walk.1) walk.2
  tries_stay false o old new walk = stays_same old old new (stays_self old) walk

  pays_stay : (paid : List (Dated × EpochOutcome)) (old new : SeatState V)
      → Walks fits d (map (λ (p : Dated × EpochOutcome). move (act.Pay p.0) p.1) paid) old new
      → Stays old new
  pays_stay [] old new walk = stays_same old old new (stays_self old) walk
  pays_stay (p ∷ paid) old new walk =
      stays_then old walk.0 new (pay_stays p.0 p.1 old walk.0 walk.1) (pays_stay paid walk.0 new walk.2)

  sees_stay : (k n : ℕ) (x : SlotId) (payload : List ℕ) (old new : SeatState V)
      → Walks fits d (each_from k n (λ i. move (act.See x i) (outcome.Word (slice_index payload i)))) old new
      → Stays old new
  sees_stay k zero x payload old new walk = stays_same old old new (stays_self old) walk
  sees_stay k (suc n) x payload old new walk =
      stays_then old walk.0 new (see_stays x k _ old walk.0 walk.1)
      (sees_stay (k + 1) n x payload walk.0 new walk.2)

  dates_stay : (held : Option SlotId) (old new : SeatState V) → Dates fits d held old new
      → Stays old new
  dates_stay None old new same = stays_same old old new (stays_self old) same
  dates_stay (Some s) old new walk =
      stays_same old walk.1.0 new (date_stays _ old walk.1.0 walk.1.1) walk.1.2

  clears_stay : (x : SlotId) (i : ℕ) (old new : SeatState V) → Clears fits d x i old new
      → Stays old new
  clears_stay x i old new c =
      stays_then old c.between new (clear_stays x i _ old c.between c.clears)
      (dates_stay c.held c.between new c.dates)

  destroys_stay : (weight : List ℕ → ℕ) (ended : List (SlotId × ℕ)) (old new : SeatState V)
      → DestroysEach fits d weight ended old new → Stays old new
  destroys_stay weight [] old new same = stays_same old old new (stays_self old) same
  destroys_stay weight (x ∷ ended) old new each =
      let g = each.1 in
      stays_then old g.first new (clears_stay x.0 0 old g.first g.clears_first)
      (stays_then g.first g.second new (clears_stay x.0 1 g.first g.second g.clears_second)
      (stays_then g.second g.read new (sees_stay 0 16 x.0 g.payload g.second g.read g.sees)
      (stays_then g.read each.0 new (free_stays x.0 _ g.read each.0 g.frees)
      (destroys_stay weight ended each.0 new each.2))))

  pub flushes_stay : (weight : List ℕ → ℕ) (work : EpochWork) (old new : SeatState V)
      → Flushes fits d weight work old new → StaysBut old new
  flushes_stay weight work old new f =
      let walk = f.sweeps.walks in
      let parts = walks_split fits d (scans f.sweeps.words) _ walk.0 f.swept walk.2 in
      let first = stays_then f.ready walk.0 f.swept (flush_stays _ f.ready walk.0 walk.1)
      (stays_then walk.0 parts.0 f.swept (scans_stay f.sweeps.words walk.0 parts.0 parts.1)
      (tries_stay _ f.sweeps.answer parts.0 f.swept parts.2)) in
      let all = stays_then f.ready f.swept new first
      (stays_then f.swept f.given new (pays_stay f.entries f.swept f.given f.pays.walks)
      (destroys_stay weight f.ended f.given new f.destroys)) in
      record {
        core = f.core;
        client = all.client ∙ ap (λ v. v.client) f.reserved.1;
        knows = λ x has.
            all.knows x (subst (λ v. 0 < times x v.core.owned) (sym f.reserved.1) has)
            ∙ ap (λ v. object_in v x) f.reserved.1;
      }

pub stays_but_then : {V : Type 0} (a b c : SeatState V) → StaysBut a b → StaysBut b c → StaysBut a c
stays_but_then a b c first second = record {
  core = flushing_then a.view.core b.view.core c.view.core first.core second.core;
  client = second.client ∙ first.client;
  knows = λ x has.
      second.knows x (subst (λ (v : EpochView). 0 < times x v.owned) (sym first.core) has)
      ∙ first.knows x has;
}

-- what flushes did so far, which weighed this together
pub record SettlesSoFar {P V : Type 0} (fits : List ℕ → Type 0) (d : DomainState P)
    (weighs : List ℕ → ℕ) (weight : ℕ) (old new : SeatState V) : Type 0 where
  pub rest : IsAtRest d new
  pub works : List EpochWork
  pub flushes : FlushesEach fits d weighs works old new
  pub weighed : weight ≡ min (weights_of works) (2 ^ 64 - 1)
  pub stays : StaysBut old new

weights_more : (xs : List EpochWork) (x : EpochWork)
    → weights_of (xs ++ x ∷ []) ≡ weights_of xs + x.weight
weights_more [] x = omega arith
weights_more (y ∷ xs) x = let r = weights_more xs x in omega (arith, r)

none_left : {A : Type 0} (xs : List A) → length xs ≡ 0 → xs ≡ []
none_left [] is = refl
none_left (x ∷ xs) is = absurd (omega (arith, is))

module _ {P V : Type 0} (fits : List ℕ → Type 0) (d : DomainState P) (weighs : List ℕ → ℕ) where
  pub none_flushed : (old : SeatState V) → IsAtRest d old → SettlesSoFar fits d weighs 0 old old
  none_flushed old rest = record {
    rest = rest;
    works = [];
    flushes = refl;
    weighed = refl;
    stays = record { core = refl; client = refl; knows = λ x has. refl };
  }

  each_then : (xs ys : List EpochWork) (a b c : SeatState V) → FlushesEach fits d weighs xs a b
      → FlushesEach fits d weighs ys b c → FlushesEach fits d weighs (xs ++ ys) a c
  each_then [] ys a b c first second =
      subst (λ (s : SeatState V). FlushesEach fits d weighs ys s c) first second
  each_then (x ∷ xs) ys a b c first second =
      (first.0, first.1, each_then xs ys first.0 b c first.2 second)

  pub one_flushed : (weight next : ℕ) (work : EpochWork) (old mid new : SeatState V)
      → SettlesSoFar fits d weighs weight old mid → Flushes fits d weighs work mid new
      → IsAtRest d new → next ≡ min (weight + work.weight) (2 ^ 64 - 1)
      → SettlesSoFar fits d weighs next old new
  one_flushed weight next work old mid new so f rest is = record {
    rest = rest;
    works = so.works ++ work ∷ [];
    flushes = each_then so.works (work ∷ []) old mid new so.flushes (new, f, refl);
    weighed = go (weights_of so.works) (weights_of (so.works ++ work ∷ [])) so.weighed
        (weights_more so.works work);
    stays = stays_but_then old mid new so.stays (flushes_stay fits d weighs work mid new f);
  }
    where
      go : (n m : ℕ) → weight ≡ min n (2 ^ 64 - 1) → m ≡ n + work.weight
          → next ≡ min m (2 ^ 64 - 1)
      go n m a b = let c = is in grind arith

  pub settled : (weight : ℕ) (old new : SeatState V) → SettlesSoFar fits d weighs weight old new
      → min (length new.view.core.pending + length new.view.core.dying) (2 ^ 64 - 1) ≡ 0
      → Settles fits d weighs weight old new
  settled weight old new so none =
      let nothing : length new.view.core.pending + length new.view.core.dying ≡ 0 = grind arith in
      record {
        works = so.works;
        flushes = so.flushes;
        weighed = so.weighed;
        pending = none_left new.view.core.pending (omega (arith, nothing));
        dying = none_left new.view.core.dying (omega (arith, nothing));
      }

  -- a flush that was refused has left all as it was
  pub refused_stays : (weight : ℕ) (old mid new : SeatState V) → SettlesSoFar fits d weighs weight old mid
      → IsUnchanged mid new → StaysBut old new
  refused_stays weight old mid new so same =
      stays_but_then old mid new so.stays (record {
        core = subst (λ (v : EpochSeatView V). IsFlushing mid.view.core v.core) (sym same.1) refl;
        client = ap (λ (v : EpochSeatView V). v.client) same.1;
        knows = λ x has. ap (λ (v : EpochSeatView V). object_in v x) same.1;
      })
