-- What a refusal to open tells of the shape.
use Rattle.std.proofs.Common.{◌≡◌, List, Result, Err, Ok, refl, ap, subst, lit<, ◌∙◌}
use Rattle.std.specs.Prelude.{◌↔◌}
use Rattle.epoch_domain.specs.epoch_core.core_events.declared.shape.Quota.{Quota}
use Rattle.epoch_domain.specs.epoch_core.core_events.declared.shape.ShapeField.{ShapeField}
use Rattle.epoch_domain.specs.epoch_core.core_events.declared.shape.ShapeField.TheVariants.{Seats, Slots, Cells, WeakCells, Batch, Quotas}
use Rattle.control_word.specs.acquire_retire.declared.errors.OpenError.{OpenError}
use Rattle.control_word.specs.acquire_retire.declared.errors.OpenError.TheVariants.{BadShape, OutOfMemory}
use Rattle.epoch_domain.specs.epoch_core.declared.shape.EpochShape.{EpochShape}
use Rattle.epoch_domain.specs.epoch_core.Runs.{AreQuotas, IsShape}
use Rattle.epoch_domain.specs.epoch_parts.Fields.{IsFirstBad}

module _ (z : EpochShape) (quotas : List Quota) where
  -- of two fields the earlier one would be out of its range and in it
  one_bad : (f g : ShapeField) → IsFirstBad z quotas f → IsFirstBad z quotas g → f ≡ g
  one_bad Seats Seats a b = refl
  one_bad Seats Slots a b = absurd (a.1 (b.0 0 Seats (lit< tt)))
  one_bad Seats Cells a b = absurd (a.1 (b.0 0 Seats (lit< tt)))
  one_bad Seats WeakCells a b = absurd (b.1 tt)
  one_bad Seats Batch a b = absurd (b.1 tt)
  one_bad Seats Quotas a b = absurd (a.1 (b.0 0 Seats (lit< tt)))
  one_bad Slots Seats a b = absurd (b.1 (a.0 0 Seats (lit< tt)))
  one_bad Slots Slots a b = refl
  one_bad Slots Cells a b = absurd (a.1 (b.0 1 Slots (lit< tt)))
  one_bad Slots WeakCells a b = absurd (b.1 tt)
  one_bad Slots Batch a b = absurd (b.1 tt)
  one_bad Slots Quotas a b = absurd (a.1 (b.0 1 Slots (lit< tt)))
  one_bad Cells Seats a b = absurd (b.1 (a.0 0 Seats (lit< tt)))
  one_bad Cells Slots a b = absurd (b.1 (a.0 1 Slots (lit< tt)))
  one_bad Cells Cells a b = refl
  one_bad Cells WeakCells a b = absurd (b.1 tt)
  one_bad Cells Batch a b = absurd (b.1 tt)
  one_bad Cells Quotas a b = absurd (a.1 (b.0 2 Cells (lit< tt)))
  one_bad WeakCells g a b = absurd (a.1 tt)
  one_bad Batch g a b = absurd (a.1 tt)
  one_bad Quotas Seats a b = absurd (b.1 (a.0 0 Seats (lit< tt)))
  one_bad Quotas Slots a b = absurd (b.1 (a.0 1 Slots (lit< tt)))
  one_bad Quotas Cells a b = absurd (b.1 (a.0 2 Cells (lit< tt)))
  one_bad Quotas WeakCells a b = absurd (b.1 tt)
  one_bad Quotas Batch a b = absurd (b.1 tt)
  one_bad Quotas Quotas a b = refl

  -- the field that an error names is the first bad one, and the only one
  pub refused : {T : Type 0} (r : Result T OpenError) (g : ShapeField) → IsFirstBad z quotas g
      → r ≡ Err (BadShape g) → (f : ShapeField)
      → (r ≡ Err (BadShape f)) ↔ IsFirstBad z quotas f
  refused r g bad is f = (
    λ e. let same : g ≡ f = cc (e, is) in subst (IsFirstBad z quotas) same bad,
    λ other. is ∙ ap (λ h. Err (BadShape h)) (one_bad g f bad other),
  )

  module _ (shape : IsShape z) (fit : AreQuotas z quotas) where
    none_first : (f : ShapeField) → IsFirstBad z quotas f → ⊥
    none_first Seats bad = bad.1 (shape.0, shape.1)
    none_first Slots bad = bad.1 (shape.2, shape.3)
    none_first Cells bad = bad.1 shape.4
    none_first WeakCells bad = bad.1 tt
    none_first Batch bad = bad.1 tt
    none_first Quotas bad = bad.1 fit

    pub opened : {T : Type 0} (r : Result T OpenError) (x : T) → r ≡ Ok x → (f : ShapeField)
        → (r ≡ Err (BadShape f)) ↔ IsFirstBad z quotas f
    opened r x is f = (λ e. cc (e, is), λ bad. absurd (none_first f bad))

    pub no_room : {T : Type 0} (r : Result T OpenError) → r ≡ Err OutOfMemory → (f : ShapeField)
        → (r ≡ Err (BadShape f)) ↔ IsFirstBad z quotas f
    no_room r is f = (λ e. cc (e, is), λ bad. absurd (none_first f bad))
