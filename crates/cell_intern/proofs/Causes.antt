-- Causes of refusals, in longer calls.
use Rattle.std.proofs.Common.{◌≡◌, ℕ, List, ap, sym, ◌∙◌, arith}
use Rattle.std.specs.Prelude.{Err, IfErr, Ok, Result}
use Rattle.epoch_refs.specs.epoch_core.core_events.declared.shape.Quota.{Quota}
use Rattle.cell_making.specs.Making.{IsCause}
use Rattle.cell_making.specs.declared.refusals.RecordError.{RecordError}
use Rattle.cell_making.specs.declared.refusals.RecordError.TheVariants as unmade
use Rattle.cell_calls.specs.Keeping.{GoesOn, GoesUnclaimed, Keeps}
use Rattle.cell_calls.proofs.Keeping.{goes_then, unclaimed_then}
use Rattle.cell_calls.specs.cell_law.declared.view.View.{View}
use Rattle.cell_calls.specs.cell_law.plain_state.declared.slot.SlotId.{SlotId}
use Rattle.cell_calls.specs.cell_protocol.declared.law.CellLaw.{CellLaw}
use Rattle.epoch_refs.specs.epoch_core.declared.view.EpochView.{EpochView}
use Rattle.epoch_refs.specs.epoch_domain.Domains.{DomainState}
use Rattle.epoch_refs.specs.epoch_domain.Seats.{SeatState}
use Rattle.epoch_refs.specs.Calls.{IsSpent}
use Rattle.epoch_refs.specs.Making.{HasNoMake}
use Rattle.cell_intern.specs.Refusals.{IsWhy, of_record}
use Rattle.cell_intern.specs.declared.refusal.InternError.{InternError}
use Rattle.cell_intern.specs.declared.refusal.InternError.TheVariants as refused

-- what was spent is spent still, where nothing more was used
pub spent_on : (m : ℕ) (xs : List SlotId) (old new : SeatState View) → Keeps m 0 xs old new
    → IsSpent old.view.core → IsSpent new.view.core
spent_on m xs old new keeps spent =
    let used = keeps.adds_used in
    let quota = ap (λ (v : EpochView). v.quota.adds) keeps.same in
    omega (arith, used.0, used.1, quota, spent)

no_make_on : (n : ℕ) (xs : List SlotId) (old new : SeatState View) → Keeps 0 n xs old new
    → HasNoMake old.view.core → HasNoMake new.view.core
no_make_on n xs old new keeps none =
    let used = keeps.makes_used in
    let quota = ap (λ (v : EpochView). v.quota.makes) keeps.same in
    omega (arith, used.0, used.1, quota, none)

module _ (d : DomainState CellLaw) where
  -- after calls that used nothing
  pub why_on : (error : InternError) (xs : List SlotId) (a b c : SeatState View)
      → IsWhy d error a b → Keeps 0 0 xs b c → GoesUnclaimed b.view.core c.view.core
      → IsWhy d error a c
  why_on refused.MakesSpent xs a b c why keeps goes = no_make_on 0 xs b c keeps why
  why_on refused.AddsSpent xs a b c why keeps goes = spent_on 0 xs b c keeps why
  why_on refused.Full xs a b c why keeps goes = record {
    mid = why.mid;
    late = why.late;
    misses = why.misses;
    since = why.since;
    till = unclaimed_then why.late.view.core b.view.core c.view.core why.till goes;
    fit =
        let fit = why.fit in
        let used = keeps.makes_used.0 in
        let n = ap (λ (v : EpochView). v.quota.makes) keeps.same in
        omega (arith, fit, used, n);
  }
  why_on refused.OutOfMemory xs a b c why keeps goes = tt

  -- and before it
  pub why_after : (error : InternError) (m n : ℕ) (xs : List SlotId) (a b c : SeatState View)
      → Keeps m n xs a b → IsWhy d error b c → IsWhy d error a c
  why_after refused.MakesSpent m n xs a b c keeps why = why
  why_after refused.AddsSpent m n xs a b c keeps why = why
  why_after refused.Full m n xs a b c keeps why = record {
    mid = why.mid;
    late = why.late;
    misses = why.misses;
    since = goes_then a.view.core b.view.core why.mid.view.core keeps.goes why.since;
    till = why.till;
    fit = why.fit;
  }
  why_after refused.OutOfMemory m n xs a b c keeps why = tt

  -- a record that wasn't made
  pub why_unmade : (error : RecordError) (a b : SeatState View) → IsCause d error a b
      → IsWhy d (of_record error) a b
  why_unmade unmade.MakesSpent a b cause = cause
  why_unmade unmade.AddsSpent a b cause = cause
  why_unmade unmade.Full a b cause = cause
  why_unmade unmade.OutOfMemory a b cause = tt

  -- where the seat has used as much in the end
  pub why_by : (error : InternError) (a b c : SeatState View) → IsWhy d error a b
      → c.view.core.makes ≡ b.view.core.makes → c.view.core.adds ≡ b.view.core.adds
      → c.view.core.quota ≡ b.view.core.quota → GoesUnclaimed b.view.core c.view.core
      → IsWhy d error a c
  why_by refused.MakesSpent a b c why makes adds quota goes =
      makes ∙ (why ∙ ap (λ (q : Quota). q.makes) (sym quota))
  why_by refused.AddsSpent a b c why makes adds quota goes =
      adds ∙ (why ∙ ap (λ (q : Quota). q.adds) (sym quota))
  why_by refused.Full a b c why makes adds quota goes = record {
    mid = why.mid;
    late = why.late;
    misses = why.misses;
    since = why.since;
    till = unclaimed_then why.late.view.core b.view.core c.view.core why.till goes;
    fit =
        let fit = why.fit in
        let n = ap (λ (q : Quota). q.makes) quota in
        omega (arith, fit, makes, n);
  }
  why_by refused.OutOfMemory a b c why makes adds quota goes = tt

  -- and where it began earlier
  pub why_from : (error : InternError) (a b c : SeatState View) → GoesOn a.view.core b.view.core
      → IsWhy d error b c → IsWhy d error a c
  why_from refused.MakesSpent a b c goes why = why
  why_from refused.AddsSpent a b c goes why = why
  why_from refused.Full a b c goes why = record {
    mid = why.mid;
    late = why.late;
    misses = why.misses;
    since = goes_then a.view.core b.view.core why.mid.view.core goes why.since;
    till = why.till;
    fit = why.fit;
  }
  why_from refused.OutOfMemory a b c goes why = tt

  pub why_from_if : {T : Type 0} (r : Result T InternError) (a b c : SeatState View)
      → GoesOn a.view.core b.view.core → IfErr r (λ e. IsWhy d e b c)
      → IfErr r (λ e. IsWhy d e a c)
  why_from_if (Ok x) a b c goes why = tt
  why_from_if (Err e) a b c goes why = why_from e a b c goes why

  pub why_by_if : {T : Type 0} (r : Result T InternError) (a b c : SeatState View)
      → IfErr r (λ e. IsWhy d e a b)
      → c.view.core.makes ≡ b.view.core.makes → c.view.core.adds ≡ b.view.core.adds
      → c.view.core.quota ≡ b.view.core.quota → GoesUnclaimed b.view.core c.view.core
      → IfErr r (λ e. IsWhy d e a c)
  why_by_if (Ok x) a b c why makes adds quota goes = tt
  why_by_if (Err e) a b c why makes adds quota goes = why_by e a b c why makes adds quota goes
