-- What steps that change the announcements alone leave of a seat.
use Rattle.std.proofs.Common.{◌≡◌, ℕ, ◌+◌, List, [], ◌++◌, length-append, refl, ap, sym, ◌∙◌, append_assoc}
use Rattle.std.specs.Prelude.{Option, Some, None}
use Rattle.std.proofs.lemmas.List.{append-nil}
use Rattle.slot_store.specs.core_events.declared.view.CoreView.{CoreView}
use Rattle.slot_store.specs.core_events.declared.view.Move.{Move}
use Rattle.text_reading.specs.Going.{ComesTo, freed}

pub comes_none : (v : CoreView) → ComesTo 0 v v v
comes_none v = ([], ap (λ (t : List Move). record v { trail = t }) (sym (append-nil v.trail)), refl)

-- one way after another
pub comes_then : (m n : ℕ) (u x y v w : CoreView) → ComesTo m x u v → ComesTo n y v w
    → ComesTo (m + n) y u w
comes_then m n u x y v w first second = (
  first.0 ++ second.0,
  second.1
      ∙ ap (λ (t : List Move). record y { trail = t })
      (ap (λ (z : CoreView). z.trail ++ second.0) first.1
      ∙ append_assoc u.trail first.0 second.0),
  length-append first.0 second.0 ∙ (λ i. first.2 i + second.2 i),
)

-- the trail doesn't tell what a word stands for
pub freed_trail : (w : Option ℕ) (v : CoreView) (t u : List Move)
    → record (freed w (record v { trail = t })) { trail = u } ≡ record (freed w v) { trail = u }
freed_trail None v t u = refl
freed_trail (Some j) v t u = refl
