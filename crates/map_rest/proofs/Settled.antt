-- A map at rest is settled.
use Rattle.std.proofs.Common.{◌≡◌, inl, ℕ, List, length, ap, ◌∙◌, arith}
use Rattle.plain_audit.specs.plain_state.declared.slot.Kind.TheVariants.{Strong}
use Rattle.plain_audit.specs.plain_state.Fits.{AllFit}
use Rattle.plain_audit.specs.plain_state.Lawful.{Lawful}
use Rattle.plain_audit.specs.plain_state.Lists.{Entry, entry_times, times}
use Rattle.plain_audit.specs.plain_state.References.{dying_times}
use Rattle.plain_audit.specs.plain_state.State.{Plain, seat_at}
use Rattle.plain_audit.specs.Audits.{deferred_entries}
use Rattle.plain_audit.proofs.Below.plain_state_Kit.{entry_none, times_none}
use Rattle.record_counts.proofs.Sums.{seats_none}
use Rattle.map_law.specs.Nodes.{IsNode}
use Rattle.map_law.specs.Promises.{Settled}
use Rattle.map_rest.specs.Rest.{Rests}

pub settled : (c : ℕ) (p : Plain) → Lawful p → AllFit IsNode p → Rests c p → Settled c p
settled c p lawful fit rests = record {
  owned = λ s. seats_none (λ v. times s v.owned) p.seats
      (λ n. ap (times s) (rests.owned n) ∙ times_none s);
  deferred = λ s. seats_none (λ v. entry_times Strong s v.deferred) p.seats
      (λ n. ap (entry_times Strong s) (rests.deferred n) ∙ entry_none Strong s);
  cells = rests.cells;
  ended = λ s ended.
      let dies = (lawful.dying s).0 ended in
      let none : dying_times p s ≡ 0 = seats_none (λ v. times s v.dying) p.seats
      (λ n. ap (times s) (rests.dying n) ∙ times_none s) in omega arith;
  live = rests.live;
  nodes = λ s live. fit s (inl live);
}

pub none_deferred : (c : ℕ) (p : Plain) → Rests c p → deferred_entries p ≡ 0
none_deferred c p rests = seats_none (λ v. length v.deferred) p.seats
    (λ n. ap (λ (es : List Entry). length es) (rests.deferred n))
