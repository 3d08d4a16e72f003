-- A desk after a handle was given, and got a name or was given up again.
use Rattle.std.proofs.Common.{◌≡◌, ◌∙◌, ℕ, List, refl, ap, sym, subst, Option, Some, None, IfSome}
use Rattle.std.specs.Map.{values_of}
use Rattle.plain_audit.specs.plain_state.State.{Plain}
use Rattle.plain_audit.specs.plain_state.Steps.{Does}
use Rattle.script_desk.specs.declared.handle.Handle.{Handle}
use Rattle.plain_audit.specs.plain_state.declared.slot.SlotId.{SlotId}
use Rattle.script_desk.specs.Handles.{slot_of}
use Rattle.script_desk.specs.Desks.{Desk, Names, Maker, bound}
use Rattle.script_desk.specs.Holding.{HasHandle, HoldsFor, HasMore, CountsMore, Kept, giving}
use Rattle.script_desk.proofs.Sums.{has_bound, kept_same, kept_more, undone}
use Rattle.script_desk.proofs.Gaining.{gives_fewer}

abbrev pub desk_of : Plain → Names → List Maker → ℕ → Desk
desk_of p names made makes = record { plain = p; names = names; makers = made; makes = makes }

module _ (p : Plain) (names : Names) (made : List Maker) (strong weak : ℕ) (k : Kept p names made strong weak) (q : Plain) (h : Handle) (more : HasMore p h q) where
  -- with a name
  pub kept_bound : (r : Plain) (new : Names) → r ≡ q → CountsMore (values_of names) h (values_of new) → Kept r new made strong weak
  kept_bound r new e counts = subst (λ (s : Plain). Kept s new made strong weak) (sym e) (kept_more p names made strong weak k q h new more counts)

  -- without one
  pub kept_undone : (r : Plain) (new : Names) → new ≡ names → Does q 0 (giving h) 0 r → Kept r new made strong weak
  kept_undone r new e d =
      subst (λ (ns : Names). Kept r ns made strong weak) (sym e) (kept_same p names made strong weak k r (undone p q r h more (gives_fewer q r h d)))

-- the desk's heap has what its names are bound to
pub has_known : (p : Plain) (names : Names) (made : List Maker) (makes strong weak : ℕ) → Kept p names made strong weak
    → (d : Desk) → desk_of p names made makes ≡ d → (name : List ℕ) (h : Handle) → bound d.names name ≡ Some h → HasHandle p h
has_known p names made makes strong weak k d is name h e =
    has_bound p names name h k.holds (ap (λ (x : Desk). bound x.names name) is ∙ e)

pub has_known_if : (p : Plain) (names : Names) (name : List ℕ) → HoldsFor p (values_of names) → IfSome (bound names name) (HasHandle p)
has_known_if p names name k = of (bound names name) refl
  where
    of : (found : Option Handle) → bound names name ≡ found → IfSome found (HasHandle p)
    of None e = tt
    of (Some h) e = has_bound p names name h k e

-- the same in words of the desk
pub has_there : (p : Plain) (names : Names) (made : List Maker) (makes strong weak : ℕ) → Kept p names made strong weak
    → (d : Desk) → desk_of p names made makes ≡ d → (name : List ℕ) (h : Handle) → bound d.names name ≡ Some h → HasHandle d.plain h
has_there p names made makes strong weak k d is name h e =
    subst (λ (x : Desk). HasHandle x.plain h) is (has_known p names made makes strong weak k d is name h e)

-- a handle that the name is bound to in the table of the desk
pub has_named : (p : Plain) (names : Names) (made : List Maker) (makes strong weak : ℕ)
    → Kept p names made strong weak → (d : Desk) → desk_of p names made makes ≡ d
    → (name : List ℕ) (h : Handle) → bound names name ≡ Some h → HasHandle d.plain h
has_named p names made makes strong weak k d is name h e =
    has_there p names made makes strong weak k d is name h
    (ap (λ (x : Desk). bound x.names name) (sym is) ∙ e)

-- the slot that was found by a name of the table, in words of the desk
pub slot_there : (p : Plain) (names : Names) (made : List Maker) (makes strong weak : ℕ)
    → Kept p names made strong weak → (d : Desk) → desk_of p names made makes ≡ d
    → (name : List ℕ) (s : SlotId)
    → (h : Handle) × (bound names name ≡ Some h) × (s ≡ slot_of h)
    → (h : Handle) × (bound d.names name ≡ Some h) × (s ≡ slot_of h) × HasHandle d.plain h
slot_there p names made makes strong weak k d is name s (h, e, same) = (
  h,
  ap (λ (x : Desk). bound x.names name) (sym is) ∙ e,
  same,
  has_named p names made makes strong weak k d is name h e,
)
