-- The lines of an event and of a shape, from what their words spell.
use Rattle.std.proofs.Common.{◌≡◌, ℕ, List, ◌∷◌, length, codes, Result, Err}
use Rattle.std.specs.Borrow.{Bor}
use Rattle.std.specs.Result.{IsErrAnd}
use Rattle.core_events.specs.declared.act.Act.{Act}
use Rattle.core_events.specs.declared.act.Event.{Event}
use Rattle.core_events.specs.declared.shape.Shape.{Shape}
use Rattle.line_words.specs.Words.{texts_of}
use Rattle.step_lines.specs.declared.refused.EventRefused.{EventRefused}
use Rattle.step_lines.specs.Beyond.{IsBeyond, IsBeyondAct, IsBeyondShape, IsTooLarge}
use Rattle.step_lines.specs.Reading.{Reads}
use Rattle.step_lines.specs.Spelling.{Number, SpellsAct, SpellsEvent, SpellsShape}
use Rattle.step_lines.proofs.Readings.{Both, OneOf, reads_refused}
use Rattle.step_lines.proofs.Words.{word_at, six_words, NumberAt}

-- a seat and an act that are refused
pub event_refused : (words rest : List (Bor (List ℕ))) (seat : Bor (List ℕ)) → words ≡ seat ∷ rest
    → (r : Result Event EventRefused) (e : EventRefused) → IsErrAnd r (λ y. y ≡ e)
    → Reads (Both (λ n. Number n seat.now) (SpellsAct (texts_of rest))) (OneOf IsTooLarge IsBeyondAct) (Err e)
    → Reads (SpellsEvent (texts_of words)) IsBeyond r
event_refused words rest seat is r e handed reads =
    rw is
    (reads_refused (Both (λ n. Number n seat.now) (SpellsAct (texts_of rest))) (OneOf IsTooLarge IsBeyondAct)
    (SpellsEvent (seat.now ∷ texts_of rest)) IsBeyond made
    (λ x spells. spells) (λ e spells. ((e.seat, e.act), spells)) (λ x far. far) r e handed reads)
  where
    made : ℕ × Act → Event
    made x = record { seat = x.0; act = x.1 }

-- five numbers
abbrev pub Five : Type 0
Five = ℕ × (ℕ × (ℕ × (ℕ × ℕ)))

abbrev pub SpellsFive : List (Bor (List ℕ)) → Five → Type 0
SpellsFive words =
    Both (NumberAt words 1) (Both (NumberAt words 2) (Both (NumberAt words 3) (Both (NumberAt words 4) (NumberAt words 5))))

abbrev pub IsBeyondFive : Five → Type 0
IsBeyondFive = OneOf IsTooLarge (OneOf IsTooLarge (OneOf IsTooLarge (OneOf IsTooLarge IsTooLarge)))

abbrev shape_of : Five → Shape
shape_of x = record { seats = x.0; slots = x.1.0; cells = x.1.1.0; weak_cells = x.1.1.1.0; batch = x.1.1.1.1 }

module _ (words : List (Bor (List ℕ))) (six : length words ≡ 6) (named : word_at words 0 ≡ codes "shape") where
  pub shape_spelled : (x : Five) → SpellsFive words x → SpellsShape (texts_of words) (shape_of x)
  shape_spelled x spells =
      rw (six_words words six)
      (named, (spells.0, (spells.1.0, (spells.1.1.0, (spells.1.1.1.0, (spells.1.1.1.1, tt))))))

  pub shape_refused : (r : Result Shape EventRefused) (e : EventRefused) → IsErrAnd r (λ y. y ≡ e)
      → Reads (SpellsFive words) IsBeyondFive (Err e) → Reads (SpellsShape (texts_of words)) IsBeyondShape r
  shape_refused =
      reads_refused (SpellsFive words) IsBeyondFive (SpellsShape (texts_of words)) IsBeyondShape shape_of
      shape_spelled only (λ x far. far)
    where
      only : (z : Shape) → SpellsShape (texts_of words) z → (x : Five) × SpellsFive words x
      only z spells =
          let each = rw (six_words words six) at spells in (
            (z.seats, (z.slots, (z.cells, (z.weak_cells, z.batch)))),
            (each.1.0, (each.1.1.0, (each.1.1.1.0, (each.1.1.1.1.0, each.1.1.1.1.1.0)))),
          )
