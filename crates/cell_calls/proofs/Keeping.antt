-- What a call keeps, and calls one after another.
use Rattle.std.proofs.Common.{◌≡◌, ℕ, ◌+◌, ◌≤◌, List, [], ◌∷◌, ◌++◌, append_assoc, refl, ap, sym, ◌∙◌, subst, arith}
use Rattle.cell_protocol.specs.cell_law.plain_state.declared.slot.SlotId.{SlotId}
use Rattle.cell_protocol.specs.cell_law.plain_state.Lists.{times}
use Rattle.epoch_refs.specs.epoch_core.declared.view.EpochMove.{EpochMove}
use Rattle.epoch_refs.specs.epoch_core.declared.view.EpochView.{EpochView}
use Rattle.epoch_refs.specs.epoch_core.Views.{Holds}
use Rattle.epoch_refs.specs.epoch_domain.Seats.{SeatState}
use Rattle.cell_calls.specs.Keeping.{ClaimNone, GoesOn, GoesUnclaimed, Keeps, aside}

pub append_nil : {A : Type 0} (xs : List A) → xs ++ [] ≡ xs
append_nil [] = refl
append_nil (x ∷ xs) = ap (λ ys. x ∷ ys) (append_nil xs)

pub goes_nowhere : (v : EpochView) → GoesOn v v
goes_nowhere v = ([], sym (append_nil v.trail))

pub goes_then : (u v w : EpochView) → GoesOn u v → GoesOn v w → GoesOn u w
goes_then u v w first second = (
  first.0 ++ second.0,
  second.1 ∙ ap (λ (t : List EpochMove). t ++ second.0) first.1
      ∙ append_assoc u.trail first.0 second.0,
)

-- MOVES THAT CLAIM NOTHING
pub claim_none_then : (ms ns : List EpochMove) → ClaimNone ms → ClaimNone ns → ClaimNone (ms ++ ns)
claim_none_then [] ns first second = second
claim_none_then (m ∷ ms) ns first second = (first.0, claim_none_then ms ns first.1 second)

pub unclaimed_nowhere : (v : EpochView) → GoesUnclaimed v v
unclaimed_nowhere v = ([], tt, sym (append_nil v.trail))

pub unclaimed_goes : (v w : EpochView) → GoesUnclaimed v w → GoesOn v w
unclaimed_goes v w goes = (goes.0, goes.2)

pub unclaimed_then : (u v w : EpochView) → GoesUnclaimed u v → GoesUnclaimed v w
    → GoesUnclaimed u w
unclaimed_then u v w first second = (
  first.0 ++ second.0,
  claim_none_then first.0 second.0 first.1 second.1,
  second.2 ∙ ap (λ (t : List EpochMove). t ++ second.0) first.2
      ∙ append_assoc u.trail first.0 second.0,
)

module _ {V : Type 0} where
  pub keeps_self : (s : SeatState V) → Keeps 0 0 s.view.core.owned s s
  keeps_self s = record {
    owns = λ x. refl;
    makes_used = (omega arith, omega arith);
    adds_used = (omega arith, omega arith);
    sees = λ x. omega arith;
    same = refl;
    goes = goes_nowhere s.view.core;
    knows = λ x before after. refl;
  }

  -- Calls one after another keep what each keeps, where what the seat held before and holds in the end it held in
  -- between.
  pub keeps_then : (m n a b : ℕ) (first second : List SlotId) (old mid new : SeatState V)
      → Keeps m a first old mid → Keeps n b second mid new
      → ((x : SlotId) → Holds old.view.core x → Holds new.view.core x → Holds mid.view.core x)
      → Keeps (m + n) (a + b) second old new
  keeps_then m n a b first second old mid new before after held = record {
    owns = after.owns;
    makes_used =
        let made = before.makes_used in
        let more = after.makes_used in
        (omega (arith, made.0, more.0), omega (arith, made.1, more.1));
    adds_used =
        let added = before.adds_used in
        let more = after.adds_used in
        (omega (arith, added.0, more.0), omega (arith, added.1, more.1));
    sees = λ x.
        let seen = before.sees x in
        let more = after.sees x in
        omega (arith, seen, more);
    same = after.same ∙ before.same;
    goes = goes_then old.view.core mid.view.core new.view.core before.goes after.goes;
    knows = λ x has still.
        after.knows x (held x has still) still ∙ before.knows x has (held x has still);
  }

  -- the same with wider bounds, and with the references in another order
  pub keeps_wider : (m n a b : ℕ) (first second : List SlotId) (old new : SeatState V)
      → Keeps m a first old new → m ≤ n → a ≤ b
      → ((x : SlotId) → times x first ≡ times x second) → Keeps n b second old new
  keeps_wider m n a b first second old new keeps more_makes more_adds same = record {
    owns = λ x. keeps.owns x ∙ same x;
    makes_used =
        let made = keeps.makes_used in (made.0, omega (arith, made.1, more_makes));
    adds_used =
        let added = keeps.adds_used in (added.0, omega (arith, added.1, more_adds));
    sees = keeps.sees;
    same = keeps.same;
    goes = keeps.goes;
    knows = keeps.knows;
  }
