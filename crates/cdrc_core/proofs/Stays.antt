-- Acts that ask nothing but what the acting seat's view tells.
use Rattle.std.proofs.Common.{◌≡◌, ℕ, refl}
use Rattle.core_law.specs.plain_state.declared.slot.SlotId.{SlotId}
use Rattle.core_law.specs.core_events.declared.act.Act.{Act}
use Rattle.core_law.specs.core_events.declared.act.Act.TheVariants as act
use Rattle.core_law.specs.core_events.declared.shape.Shape.{Shape}
use Rattle.core_law.specs.core_events.Runs.{Core, RestMay}

-- an act that is no leave and destroys nothing has no condition beside what its seat's view tells
pub rest_other : (z : Shape) (c : Core) (a : Act) → ((s : SlotId) → a ≡ act.Destroy s → ⊥)
    → ((j : ℕ) → a ≡ act.Leave j → ⊥) → RestMay z c a
rest_other z c (act.Add s) kept stays = tt
rest_other z c (act.Drop s) kept stays = tt
rest_other z c act.Pay kept stays = tt
rest_other z c act.Finish kept stays = tt
rest_other z c act.Take kept stays = tt
rest_other z c (act.Count s) kept stays = tt
rest_other z c act.Mark kept stays = tt
rest_other z c (act.Announce i k s) kept stays = tt
rest_other z c (act.Release i) kept stays = tt
rest_other z c (act.Look p) kept stays = tt
rest_other z c (act.Check i p) kept stays = tt
rest_other z c (act.Alive i) kept stays = tt
rest_other z c act.Scan kept stays = tt
rest_other z c (act.Swap p x) kept stays = tt
rest_other z c (act.Cas p x y) kept stays = tt
rest_other z c (act.Claim s) kept stays = tt
rest_other z c act.Arm kept stays = tt
rest_other z c (act.Fill i x) kept stays = tt
rest_other z c act.Start kept stays = tt
rest_other z c (act.See s i) kept stays = tt
rest_other z c act.Free kept stays = tt
rest_other z c act.Ticket kept stays = tt
rest_other z c (act.Wadd s) kept stays = tt
rest_other z c (act.Wdrop s) kept stays = tt
rest_other z c (act.Destroy s) kept stays = absurd (kept s refl)
rest_other z c (act.Wcount s) kept stays = tt
rest_other z c (act.Leave j) kept stays = absurd (stays j refl)
