-- A deed of a look that does something only where the place is found null.
use Rattle.std.specs.Prelude.{ℕ, ◌≡◌, ◌≢◌, ◌==◌, if◌then◌else◌, None}
use Rattle.control_word.specs.plain_state.declared.act.EventPlace.{EventPlace}
use Rattle.control_word.specs.plain_state.declared.act.PlainAct.{PlainAct}
use Rattle.control_word.specs.plain_state.declared.act.PlainAct.TheVariants as plain
use Rattle.control_word.specs.plain_state.Places.{content}
use Rattle.control_word.specs.plain_state.State.{Plain}
use Rattle.control_word.specs.plain_protocol.Owns.{OwnPart}

module _ {V : Type 0} (place : EventPlace) where
  -- it is ready for a look at the place, where the deed is
  abbrev pub ready_to_look : (OwnPart → V → PlainAct → Type 0) → OwnPart → V → PlainAct → Type 0
  ready_to_look ready own v act = (act ≡ plain.Look place) × ready own v act

  -- the deed's next view where the place was null, else the view as it is
  abbrev pub next_where_null : (OwnPart → OwnPart → V → PlainAct → ℕ → V)
      → OwnPart → OwnPart → V → PlainAct → ℕ → V
  next_where_null next own after v act found =
      if found == 0 then next own after v act found else v

  -- the deed allows the step where the place was null, and else the view stays as it is
  pub record AllowsWhereNull (allows : Plain → Plain → ℕ → V → V → Type 0) (p q : Plain) (n : ℕ)
      (v w : V) : Type 0 where
    pub null : content p place ≡ None → allows p q n v w
    pub other : content p place ≢ None → w ≡ v
