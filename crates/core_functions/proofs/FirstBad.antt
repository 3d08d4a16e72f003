-- At most one field is the first that is out of its range, and none is where all are in theirs.
use Rattle.std.proofs.Common.{◌≡◌, ◌∙◌, Result, Err, refl, ap, subst, lit<}
use Rattle.std.specs.Prelude.{◌↔◌}
use Rattle.core_events.specs.declared.shape.Shape.{Shape}
use Rattle.core_events.specs.declared.shape.ShapeField.{ShapeField}
use Rattle.core_events.specs.declared.shape.ShapeField.TheVariants.{Seats, Slots, Cells, WeakCells, Batch, Quotas}
use Rattle.core_events.specs.Views.{Terms}
use Rattle.core_events.specs.Runs.{AreTerms, IsShape}
use Rattle.core_functions.specs.Fields.{IsFirstBad, IsInRange}

in_range : (z : Shape) (ts : Terms) (f : ShapeField) → IsShape z → AreTerms z ts
    → IsInRange z ts f
in_range z ts Seats h q = (h.0, h.1)
in_range z ts Slots h q = (h.2, h.3)
in_range z ts Cells h q = h.4
in_range z ts WeakCells h q = h.5
in_range z ts Batch h q = (h.6, h.7)
in_range z ts Quotas h q = q

pub none_bad : (z : Shape) (ts : Terms) (f : ShapeField) → IsShape z → AreTerms z ts
    → IsFirstBad z ts f → ⊥
none_bad z ts f h q bad = bad.1 (in_range z ts f h q)

-- of two fields the earlier one would be out of its range and in it
pub one_bad : (z : Shape) (ts : Terms) (f g : ShapeField) → IsFirstBad z ts f → IsFirstBad z ts g
    → f ≡ g
one_bad z ts Seats Seats a b = refl
one_bad z ts Seats Slots a b = absurd (a.1 (b.0 0 Seats (lit< tt)))
one_bad z ts Seats Cells a b = absurd (a.1 (b.0 0 Seats (lit< tt)))
one_bad z ts Seats WeakCells a b = absurd (a.1 (b.0 0 Seats (lit< tt)))
one_bad z ts Seats Batch a b = absurd (a.1 (b.0 0 Seats (lit< tt)))
one_bad z ts Seats Quotas a b = absurd (a.1 (b.0 0 Seats (lit< tt)))
one_bad z ts Slots Seats a b = absurd (b.1 (a.0 0 Seats (lit< tt)))
one_bad z ts Slots Slots a b = refl
one_bad z ts Slots Cells a b = absurd (a.1 (b.0 1 Slots (lit< tt)))
one_bad z ts Slots WeakCells a b = absurd (a.1 (b.0 1 Slots (lit< tt)))
one_bad z ts Slots Batch a b = absurd (a.1 (b.0 1 Slots (lit< tt)))
one_bad z ts Slots Quotas a b = absurd (a.1 (b.0 1 Slots (lit< tt)))
one_bad z ts Cells Seats a b = absurd (b.1 (a.0 0 Seats (lit< tt)))
one_bad z ts Cells Slots a b = absurd (b.1 (a.0 1 Slots (lit< tt)))
one_bad z ts Cells Cells a b = refl
one_bad z ts Cells WeakCells a b = absurd (a.1 (b.0 2 Cells (lit< tt)))
one_bad z ts Cells Batch a b = absurd (a.1 (b.0 2 Cells (lit< tt)))
one_bad z ts Cells Quotas a b = absurd (a.1 (b.0 2 Cells (lit< tt)))
one_bad z ts WeakCells Seats a b = absurd (b.1 (a.0 0 Seats (lit< tt)))
one_bad z ts WeakCells Slots a b = absurd (b.1 (a.0 1 Slots (lit< tt)))
one_bad z ts WeakCells Cells a b = absurd (b.1 (a.0 2 Cells (lit< tt)))
one_bad z ts WeakCells WeakCells a b = refl
one_bad z ts WeakCells Batch a b = absurd (a.1 (b.0 3 WeakCells (lit< tt)))
one_bad z ts WeakCells Quotas a b = absurd (a.1 (b.0 3 WeakCells (lit< tt)))
one_bad z ts Batch Seats a b = absurd (b.1 (a.0 0 Seats (lit< tt)))
one_bad z ts Batch Slots a b = absurd (b.1 (a.0 1 Slots (lit< tt)))
one_bad z ts Batch Cells a b = absurd (b.1 (a.0 2 Cells (lit< tt)))
one_bad z ts Batch WeakCells a b = absurd (b.1 (a.0 3 WeakCells (lit< tt)))
one_bad z ts Batch Batch a b = refl
one_bad z ts Batch Quotas a b = absurd (a.1 (b.0 4 Batch (lit< tt)))
one_bad z ts Quotas Seats a b = absurd (b.1 (a.0 0 Seats (lit< tt)))
one_bad z ts Quotas Slots a b = absurd (b.1 (a.0 1 Slots (lit< tt)))
one_bad z ts Quotas Cells a b = absurd (b.1 (a.0 2 Cells (lit< tt)))
one_bad z ts Quotas WeakCells a b = absurd (b.1 (a.0 3 WeakCells (lit< tt)))
one_bad z ts Quotas Batch a b = absurd (b.1 (a.0 4 Batch (lit< tt)))
one_bad z ts Quotas Quotas a b = refl

-- the field that an error names is the first bad one, and the only one
pub told_bad : (z : Shape) (ts : Terms) (g : ShapeField) → IsFirstBad z ts g
    → {T E : Type 0} (names : ShapeField → E) → ((f h : ShapeField) → names f ≡ names h → f ≡ h)
    → (r : Result T E) → r ≡ Err (names g) → (f : ShapeField)
    → (r ≡ Err (names f)) ↔ IsFirstBad z ts f
told_bad z ts g bad names apart r is f = (
  λ e. let same : names g ≡ names f = cc (e, is) in subst (IsFirstBad z ts) (apart g f same) bad,
  λ other. is ∙ ap (λ h. Err (names h)) (one_bad z ts g f bad other),
)
