-- Several plain steps by one seat, in turn.
use Rattle.std.specs.Prelude.{ℕ, ◌≡◌, List, [], ◌∷◌}
use Rattle.plain_state.specs.declared.act.PlainAct.{PlainAct}
use Rattle.plain_state.specs.State.{Plain}
use Rattle.plain_state.specs.Steps.{Does}

-- from p the seat n makes these steps, and they lead to q
abbrev pub Runs : Plain → ℕ → List PlainAct → Plain → Type 0
Runs p n [] q = q ≡ p
Runs p n (next ∷ more) q = (m : Plain) × (found : ℕ) × Does p n next found m × Runs m n more q
