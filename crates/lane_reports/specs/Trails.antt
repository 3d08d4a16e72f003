-- How the trail of seat 0 goes on once the other seats have left.
use Rattle.std.specs.Prelude.{ℕ, ◌≡◌, ◌++◌, Bool, true, false, cond, List}
use Rattle.std.specs.List.{sum_by}
use Rattle.domain_audit.specs.core_events.declared.act.Act.{Act}
use Rattle.domain_audit.specs.core_events.declared.act.Act.TheVariants as act
use Rattle.domain_audit.specs.core_events.declared.view.CoreView.{CoreView}
use Rattle.domain_audit.specs.core_events.declared.view.Move.{Move}

-- by this act a seat leaves
abbrev pub is_leave : Act → Bool
is_leave (act.Leave n) = true
is_leave a = false

-- how many seats left by these moves
unfoldable pub leaves_in : List Move → ℕ
leaves_in ms = sum_by (λ (m : Move). cond (is_leave m.act) 1 0) ms

-- the trail goes on by some moves, and no seat leaves by them
abbrev pub GoesOnAlone : CoreView → CoreView → Type 0
GoesOnAlone v w = (ms : List Move) × (w.trail ≡ v.trail ++ ms) × (leaves_in ms ≡ 0)
