-- How many makes a call has used that was refused.
use Rattle.std.proofs.Common.{◌≡◌, ℕ, ◌+◌, ◌≤◌, List, subst, sym, arith}
use Rattle.std.specs.Prelude.{Err, IfErr, IsErrAnd, Ok, Result}
use Rattle.cell_calls.specs.cell_law.declared.view.View.{View}
use Rattle.cell_calls.specs.cell_law.plain_state.declared.slot.SlotId.{SlotId}
use Rattle.cell_calls.specs.Keeping.{Keeps}
use Rattle.epoch_refs.specs.epoch_domain.Seats.{SeatState}
use Rattle.cell_making.specs.Making.{UsesFewer}
use Rattle.cell_making.specs.declared.refusals.RecordError.{RecordError}
use Rattle.cell_making.specs.declared.refusals.RecordError.TheVariants as refused

-- after a call that used at most m makes, and before one that uses none
pub fewer_after : (e : RecordError) (m n k : ℕ) (a b c : SeatState View)
    → b.view.core.makes ≤ a.view.core.makes + m → m + n ≤ k → UsesFewer e n b c → UsesFewer e k a c
fewer_after refused.MakesSpent m n k a b c used most few = omega (arith, used, most, few)
fewer_after refused.AddsSpent m n k a b c used most few = omega (arith, used, most, few)
fewer_after refused.Full m n k a b c used most few = omega (arith, used, most, few)
fewer_after refused.OutOfMemory m n k a b c used most few = tt

pub fewer_on : (e : RecordError) (n : ℕ) (xs : List SlotId) (a b c : SeatState View)
    → Keeps 0 0 xs b c → UsesFewer e n a b → UsesFewer e n a c
fewer_on refused.MakesSpent n xs a b c keeps few =
    let used = keeps.makes_used.1 in omega (arith, used, few)
fewer_on refused.AddsSpent n xs a b c keeps few =
    let used = keeps.makes_used.1 in omega (arith, used, few)
fewer_on refused.Full n xs a b c keeps few =
    let used = keeps.makes_used.1 in omega (arith, used, few)
fewer_on refused.OutOfMemory n xs a b c keeps few = tt

-- whatever a call answers
pub fewer_if : {T : Type 0} (r : Result T RecordError) (m n k : ℕ) (a b c : SeatState View)
    → b.view.core.makes ≤ a.view.core.makes + m → m + n ≤ k
    → IfErr r (λ e. UsesFewer e n b c) → IfErr r (λ e. UsesFewer e k a c)
fewer_if (Ok x) m n k a b c used most few = tt
fewer_if (Err e) m n k a b c used most few = fewer_after e m n k a b c used most few

-- and what the exit of a `?` returns
pub fewer_again : {T : Type 0} (r : Result T RecordError) (e : RecordError) (n : ℕ)
    (a b : SeatState View) → IsErrAnd r (λ x. x ≡ e) → UsesFewer e n a b
    → IfErr r (λ x. UsesFewer x n a b)
fewer_again (Ok x) e n a b handed few = tt
fewer_again (Err x) e n a b handed few =
    subst (λ (y : RecordError). UsesFewer y n a b) (sym handed) few
