-- How a heap of one seat settles, whatever the order in which its entries wait.
use Rattle.std.specs.Prelude.{ℕ, ◌≡◌, ◌<◌, List, [], ◌∷◌}
use Rattle.plain_store.specs.plain_state.declared.act.PlainAct.{PlainAct}
use Rattle.plain_store.specs.plain_state.declared.act.PlainAct.TheVariants as act
use Rattle.plain_store.specs.plain_state.declared.slot.Kind.{Kind}
use Rattle.plain_store.specs.plain_state.declared.slot.SlotId.{SlotId}
use Rattle.plain_store.specs.plain_state.Lists.{entry_times}
use Rattle.plain_store.specs.plain_state.State.{Plain, PlainSeat, seat_at}
use Rattle.plain_store.specs.plain_state.Steps.{Does}

-- more such entries wait than are announced
abbrev pub IsSurplus : PlainSeat → Kind → SlotId → Type 0
IsSurplus v k s = entry_times k s v.snapshots < entry_times k s v.deferred

-- An entry goes of which there are too many, an object without references ends, a dying slot is
-- cleared and destroyed, and a slot without weak references is given again. The entries that wait may
-- change places.
abbrev pub Tidies : Plain → PlainAct → Type 0
Tidies p (act.Eject k s) = IsSurplus (seat_at p 0) k s
Tidies p act.Split = Unit {0}
Tidies p (act.End s) = Unit {0}
Tidies p (act.Clear place) = Unit {0}
Tidies p (act.Destroy s) = Unit {0}
Tidies p (act.Give s) = Unit {0}
Tidies p _ = ⊥

-- these steps lead from p to q
abbrev pub TidiesBy : List PlainAct → Plain → Plain → Type 0
TidiesBy [] p q = q ≡ p
TidiesBy (next ∷ more) p q =
    (m : Plain) × (found : ℕ) × Tidies p next × Does p 0 next found m × TidiesBy more m q

abbrev pub TidiesTo : Plain → Plain → Type 0
TidiesTo p q = (acts : List PlainAct) × TidiesBy acts p q
