-- A deed of a store into a field, or a calm step in its place.
use Rattle.std.proofs.Common.{◌≡◌, ⊎_elim, ℕ, Bool, true, false, List, refl, sym, subst}
use Rattle.std.specs.Prelude.{◌⊎◌, cond, slice_index_or, slice_set}
use Rattle.std.proofs.lemmas.List.{set-get_or}
use Rattle.atomic_shared.specs.plain_state.declared.act.EventPlace.{EventPlace}
use Rattle.atomic_shared.specs.plain_state.declared.act.PlainAct.{PlainAct}
use Rattle.atomic_shared.specs.plain_state.declared.act.PlainAct.TheVariants as plain
use Rattle.atomic_shared.specs.plain_state.State.{Plain}
use Rattle.atomic_shared.specs.plain_protocol.Acts.{IsCalm}
use Rattle.atomic_shared.specs.plain_protocol.Laws.{KeptByCalm, Keeps}
use Rattle.atomic_shared.specs.plain_protocol.Owns.{OwnPart, own_part}

-- the step clears a field of a slot that is to be destroyed
abbrev pub is_clear : PlainAct → Bool
is_clear (plain.Clear p) = true
is_clear _ = false

abbrev pub IsClear : PlainAct → Type 0
IsClear act = (p : EventPlace) × (act ≡ plain.Clear p)

abbrev pub TellsNothing : {V : Type 0} → Plain → Plain → ℕ → V → V → Type 0
TellsNothing p q n v w = Unit {0}

module _ {V : Type 0} where
  -- the step is such a clear, or the deed is ready for it
  abbrev pub ready_unless : (OwnPart → V → PlainAct → Type 0) → OwnPart → V → PlainAct → Type 0
  ready_unless ready own v act = IsClear act ⊎ ready own v act

  -- the deed's next view, and that of such a clear
  abbrev pub next_unless : (OwnPart → OwnPart → V → PlainAct → ℕ → V)
      → OwnPart → OwnPart → V → PlainAct → ℕ → V
  next_unless next own after v act found = cond (is_clear act) v (next own after v act found)

clear_calm : (act : PlainAct) → is_clear act ≡ true → IsCalm act
clear_calm (plain.Clear p) is = tt
clear_calm _ is = absurd (cc (is))

pub unless_keeps : {V : Type 0} (law : Plain → List V → Type 0) (gone : V)
    (ready : OwnPart → V → PlainAct → Type 0) (next : OwnPart → OwnPart → V → PlainAct → ℕ → V)
    (allows : Plain → Plain → ℕ → V → V → Type 0) → KeptByCalm law
    → Keeps law gone ready next allows
    → Keeps law gone (ready_unless ready) (next_unless next) TellsNothing
unless_keeps law gone ready next allows calm keeps p q views n act found meets at able does =
    (of (is_clear act) refl, tt)
  where
    of : (b : Bool) → is_clear act ≡ b
        → law q (slice_set views n
        (cond b (slice_index_or views n gone)
        (next (own_part p n) (own_part q n) (slice_index_or views n gone) act found)))
    of true is = subst (law q) (sym (set-get_or views n gone))
        (calm p q n act found views meets (clear_calm act is) does)
    of false is = ⊎_elim
        (λ clear. absurd (cc (is, clear.1)))
        (λ may. (keeps p q views n act found meets at may does).0)
        able
