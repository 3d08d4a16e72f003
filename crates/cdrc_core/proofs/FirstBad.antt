-- The first field that is out of its range, as an error passes it on.
use Rattle.std.proofs.Common.{◌≡◌, ◌∙◌, Result, Err, ap}
use Rattle.std.specs.Prelude.{◌↔◌}
use Rattle.core_law.specs.core_events.declared.shape.Shape.{Shape}
use Rattle.core_law.specs.core_events.Views.{Terms}
use Rattle.core_law.specs.core_events.declared.shape.ShapeField.{ShapeField}
use Rattle.core_views.specs.core_functions.Fields.{IsFirstBad}
use Rattle.cdrc_core.specs.declared.errors.StartError.{StartError}
use Rattle.cdrc_core.specs.declared.errors.StartError.TheVariants.{BadShape}
use Rattle.cdrc_core.specs.declared.errors.ReplayError.{ReplayError}
use Rattle.cdrc_core.specs.declared.errors.ReplayError.TheVariants.{Start}

-- the field that an error names stays the first bad one in the error that passes it on
pub passed_bad : (z : Shape) (ts : Terms) (e : StartError) {T U : Type 0}
    (r : Result T ReplayError) (s : Result U StartError) → r ≡ Err (Start e) → s ≡ Err e
    → ((f : ShapeField) → (s ≡ Err (BadShape f)) ↔ IsFirstBad z ts f) → (f : ShapeField)
    → (r ≡ Err (Start (BadShape f))) ↔ IsFirstBad z ts f
passed_bad z qs e r s here there told f = (
  λ h. let same : e ≡ BadShape f = cc (h, here) in (told f).0 (there ∙ ap Err same),
  λ bad. let h = (told f).1 bad in let same : e ≡ BadShape f = cc (h, there) in
      here ∙ ap (λ x. Err (Start x)) same,
)
