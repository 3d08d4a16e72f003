-- What refers to a slot where the state is settled, and what lives there.
use Rattle.std.proofs.Common.{◌≡◌, ◌≢◌, ◌⊎◌, inl, inr, ⊎_elim, ℕ, zero, suc, ◌<◌, List, [], length, ap, subst, ◌∙◌, arith, Some}
use Rattle.plain_audit.specs.plain_state.declared.slot.Kind.TheVariants.{Strong}
use Rattle.plain_audit.specs.plain_state.declared.slot.SlotId.{SlotId}
use Rattle.plain_audit.specs.plain_state.declared.slot.Stage.TheVariants.{Live}
use Rattle.plain_audit.specs.plain_state.Fits.{AllFit}
use Rattle.plain_audit.specs.plain_state.Lawful.{Lawful}
use Rattle.plain_audit.specs.plain_state.Lists.{Entry, entry_times, times}
use Rattle.plain_audit.specs.plain_state.References.{dying_times}
use Rattle.plain_audit.specs.plain_state.State.{Plain, seat_at, slot_at, stage_at}
use Rattle.plain_audit.proofs.Below.plain_state_Kit.{entry_none, times_none}
use Rattle.plain_audit.specs.heap_audit.Heaps.{slot}
use Rattle.plain_audit.specs.heap_audit.Reached.{HowMany}
use Rattle.plain_audit.proofs.Below.heap_audit_Leasts.{many_none}
use Rattle.plain_audit.specs.Audits.{deferred_entries}
use Rattle.plain_audit.specs.Reached.{IsUnreached}
use Rattle.cell_law.specs.directory_law.Bytes.{IsPiece}
use Rattle.cell_law.specs.directory_law.Cells.{Area}
use Rattle.cell_law.specs.directory_law.Promises.{Reaches}
use Rattle.record_counts.specs.Records.{HoldsRecords}
use Rattle.record_counts.proofs.Below.directory_law_Chains.{second_live}
use Rattle.record_counts.proofs.Sums.{null_cells, seats_none, seats_root}
use Rattle.cell_law.specs.Law.{CellLaw}
use Rattle.cell_law.specs.Promises.{IsSettled, owned_times}
use Rattle.cell_law.specs.declared.view.View.{View}
use Rattle.cell_law.proofs.Rest.{lives_owned}
use Rattle.cell_rest.specs.Rest.{HasNoneDeferred, Rests}

-- of all seats seat 0 alone owns anything
pub owned_root : (p : Plain) → ((n : ℕ) → 0 < n → (seat_at p n).owned ≡ []) → (s : SlotId)
    → owned_times p s ≡ times s (seat_at p 0).owned
owned_root p others s = seats_root (λ v. times s v.owned) p.seats (times_none s)
    (λ n some. ap (times s) (others n some) ∙ times_none s)

pub owned_none : (p : Plain) → ((n : ℕ) → (seat_at p n).owned ≡ []) → (s : SlotId)
    → owned_times p s ≡ 0
owned_none p none s = seats_none (λ v. times s v.owned) p.seats
    (λ n. ap (times s) (none n) ∙ times_none s)

pub rests_settled : (p : Plain) → Lawful p → AllFit IsPiece p → Rests p → IsSettled p
rests_settled p lawful fit rests = record {
  fit = fit;
  cells = λ s. null_cells s p.cells rests.cells;
  deferred = λ s. seats_none (λ v. entry_times Strong s v.deferred) p.seats
      (λ n. ap (entry_times Strong s) (rests.deferred n) ∙ entry_none Strong s);
  ended = λ s ended.
      let dies = (lawful.dying s).0 ended in
      let none : dying_times p s ≡ 0 = seats_none (λ v. times s v.dying) p.seats
      (λ n. ap (times s) (rests.dying n) ∙ times_none s) in omega arith;
  held = rests.live;
}

pub none_deferred : (p : Plain) → HasNoneDeferred p → deferred_entries p ≡ 0
none_deferred p none = seats_none (λ v. length v.deferred) p.seats
    (λ n. ap (λ (es : List Entry). length es) (none n))

-- the slot before the last one of a chain, where the first one lives
before : (p : Plain) → Lawful p → (n : ℕ) (t s : SlotId) → stage_at p t ≡ Live → Reaches p t s n
    → (x : SlotId) × (stage_at p x ≡ Live) × ((slot_at p x).second ≡ Some s)
before p lawful zero t s live reaches = (t, live, reaches)
before p lawful (suc n) t s live reaches =
    before p lawful n reaches.0 s (second_live p t reaches.0 lawful reaches.1) reaches.2

pub settled_holds : (z : Area) (p : Plain) (views : List View) → Lawful p → CellLaw z p views
    → IsSettled p → ((n : ℕ) → 0 < n → (seat_at p n).owned ≡ []) → HoldsRecords p
settled_holds z p views lawful law settled others = record {
  pieces = λ s live. settled.fit s (inl live);
  led = led;
}
  where
    led : (s : SlotId) → stage_at p s ≡ Live
        → (0 < times s (seat_at p 0).owned)
        ⊎ ((t : SlotId) × (stage_at p t ≡ Live) × ((slot_at p t).second ≡ Some s))
    led s live =
        let o = lives_owned z p views lawful law settled s live in
        let root = owned_root p others o.head in
        let some = o.owned in
        let own : 0 < times o.head (seat_at p 0).owned = omega arith in ⊎_elim
        (λ (is : o.head ≡ s).
        inl (subst (λ (x : SlotId). 0 < times x (seat_at p 0).owned) is own))
        (λ more. inr (before p lawful more.0 o.head s o.live more.1))
        o.behind

-- where nothing lives, nothing is unreached
pub none_unreached : (p : Plain) → ((s : SlotId) → stage_at p s ≢ Live) → (many : ℕ)
    → HowMany (λ n. IsUnreached p (slot n)) (length p.slots) many → many ≡ 0
none_unreached p none many h = many_none (λ n. IsUnreached p (slot n)) (length p.slots) many
    (λ k un. none (slot k) un.0) h
