-- There is room for the slot of an object that a step ends, and the epoch that dates an entry is no earlier than the
-- dates of the others.
use Rattle.std.proofs.Common.{◌≡◌, ℕ, zero, suc, ◌<◌, ◌≤◌, true, List, [], ◌∷◌, ◌++◌, length, length-append, refl, ap, sym, ◌∙◌, subst, arith}
use Rattle.std.specs.Prelude.{All, ◌==◌, if◌then◌else◌}
use Rattle.std.proofs.lemmas.Bool.{eq-eqb}
use Rattle.atomic_table.specs.declared.shared.Seat.{Seat as TableSeat}
use Rattle.epoch_core.proofs.Keeps.{history_sound, step_keeps}
use Rattle.epoch_core.proofs.Kit.{dated_cons}
use Rattle.epoch_rule.specs.plain_protocol.plain_state.declared.act.PlainAct.{PlainAct}
use Rattle.epoch_rule.specs.plain_protocol.plain_state.declared.slot.SlotId.{SlotId}
use Rattle.epoch_rule.specs.plain_protocol.plain_state.State.{Plain}
use Rattle.epoch_rule.specs.plain_protocol.Owns.{OwnPart}
use Rattle.epoch_rule.specs.epoch_core.core_events.declared.shape.Quota.{Quota}
use Rattle.epoch_rule.specs.epoch_core.declared.act.Dated.{Dated}
use Rattle.epoch_rule.specs.epoch_core.declared.act.EpochAct.{EpochAct}
use Rattle.epoch_rule.specs.epoch_core.declared.act.EpochAct.TheVariants as act
use Rattle.epoch_rule.specs.epoch_core.declared.shape.EpochShape.{EpochShape}
use Rattle.epoch_rule.specs.epoch_core.declared.view.EpochView.{EpochView}
use Rattle.epoch_rule.specs.epoch_core.Runs.{AreQuotas, IsShape, after, found}
use Rattle.epoch_rule.specs.epoch_core.Steps.{dated_times, is_dated, moved}
use Rattle.epoch_rule.specs.declared.view.EpochSeatView.{EpochSeatView}
use Rattle.epoch_rule.specs.Told.{Told}
use Rattle.epoch_domain.specs.Calls.{Stepped}
use Rattle.epoch_domain.specs.Domains.{DomainState, IsDomain, StoredDomain}
use Rattle.epoch_domain.proofs.Few.{few_dying_in}

module _ {V : Type 0} {fits : List ℕ → Type 0} (z : EpochShape) (qs : List Quota)
    (next_view : OwnPart → OwnPart → V → PlainAct → ℕ → V)
    (allows : Plain → Plain → ℕ → V → V → Type 0) (a : EpochAct) (v : EpochSeatView V) (w : ℕ)
    (v' : EpochSeatView V) (shape : IsShape z) (quotas : AreQuotas z qs)
    (told : Told fits z qs next_view allows a v w v') where
  -- the dying list of a seat after its step is no longer than there are slots
  pub few_after : length v'.core.dying ≤ z.slots
  few_after =
      let h = told.happened in
      let so = history_sound z qs h.events h.before shape quotas h.history in
      let n = v.core.seat in
      let then_so = step_keeps z h.before n a so h.enabled in
      let low = h.enabled.0 in
      let views = so.views in
      let views_then = then_so.views in
      let few = few_dying_in z (after z h.before n a) n then_so (omega (arith, low, views, views_then)) in
      let same = ap (λ (u : EpochView). length u.dying) told.says.core in omega (arith, few, same)

  -- no pending entry is dated later than the epoch that a date reads
  pub dates_before : a ≡ act.Date → (x : Dated) → 0 < dated_times x v.core.pending → x.date ≤ w
  dates_before is x some =
      let h = told.happened in
      let so = history_sound z qs h.events h.before shape quotas h.history in
      let n = v.core.seat in
      let low = h.enabled.0 in
      let views = so.views in
      let date = (so.regions n (omega (arith, low, views))).dates x
      (subst (λ (u : EpochView). 0 < dated_times x u.pending) h.view some) in
      let here = h.found ∙ ap (found z h.before n) is in omega (arith, date, here)

-- before a step that made it longer there was room for one more
pub room_to_end : {P V : Type 0} {fits : List ℕ → Type 0} (d e : DomainState P) → e ≡ d → (kept : StoredDomain)
    → IsDomain e.table e.shape e.quotas kept
    → (next_view : OwnPart → OwnPart → V → PlainAct → ℕ → V) (allows : Plain → Plain → ℕ → V → V → Type 0)
    (a : EpochAct) (old new : TableSeat (Unit {0}) (EpochSeatView V)) (w : ℕ)
    → Stepped fits d next_view allows a old w new → old.me.0.core.shape ≡ d.shape → (room : ℕ)
    → old.me.0.core.shape.slots ≤ room → (ended : List SlotId) → ended ≡ old.me.0.core.dying → (x : SlotId)
    → (moved d.shape a w old.me.0.core).dying ≡ old.me.0.core.dying ++ x ∷ [] → length ended < room
room_to_end d e same kept in_domain next_view allows a old new w step shape room rooms ended is x longer =
    let ranges = subst (λ (f : DomainState _). IsShape f.shape × AreQuotas f.shape f.quotas) same
    (in_domain.shape, in_domain.quotas) in
    let few = few_after d.shape d.quotas next_view allows a old.me.0 w new.me.0 ranges.0 ranges.1 step.told in
    let now = ap (λ (u : EpochView). length u.dying) step.told.core ∙ ap length longer in
    let more = length-append old.me.0.core.dying (x ∷ []) in
    let had = ap length is in
    let slots = ap (λ (z : EpochShape). z.slots) shape in
    omega (arith, few, now, more, had, slots, rooms)

-- what holds of each entry that stands in a list holds of all its entries
pub all_stand : (T : Dated → Type 0) (ds : List Dated)
    → ((x : Dated) → 0 < dated_times x ds → T x) → All T ds
all_stand T [] each k d h = absurd (omega (arith, h))
all_stand T (y ∷ ds) each zero d h =
    let a : (y.slot.0 == y.slot.0) ≡ true = eq-eqb y.slot.0 y.slot.0 refl in
    let b : (y.date == y.date) ≡ true = eq-eqb y.date y.date refl in
    let one : ◌≡◌ {A = ℕ} (if is_dated y y then 1 else 0) 1 = rw (a, b) refl in
    let c = dated_cons y y ds in each y (omega (arith, one, c))
all_stand T (y ∷ ds) each (suc k) d h =
    all_stand T ds (λ x some. each x (let c = dated_cons x y ds in omega (arith, some, c))) k d
    (omega (arith, h))

pub dates_ordered : {P V : Type 0} {fits : List ℕ → Type 0} (d e : DomainState P) → e ≡ d → (kept : StoredDomain)
    → IsDomain e.table e.shape e.quotas kept
    → (next_view : OwnPart → OwnPart → V → PlainAct → ℕ → V) (allows : Plain → Plain → ℕ → V → V → Type 0)
    (old new : TableSeat (Unit {0}) (EpochSeatView V)) (w : ℕ)
    → Stepped fits d next_view allows act.Date old w new → (pending : List Dated)
    → pending ≡ old.me.0.core.pending → All (λ (x : Dated). x.date ≤ w) pending
dates_ordered d e same kept in_domain next_view allows old new w step pending is =
    let ranges = subst (λ (f : DomainState _). IsShape f.shape × AreQuotas f.shape f.quotas) same
    (in_domain.shape, in_domain.quotas) in
    subst (All (λ (x : Dated). x.date ≤ w)) (sym is)
    (all_stand (λ (x : Dated). x.date ≤ w) old.me.0.core.pending
    (dates_before d.shape d.quotas next_view allows act.Date old.me.0 w new.me.0 ranges.0 ranges.1
    step.told refl))
