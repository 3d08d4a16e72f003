-- What an audit of a script answers.
use Rattle.std.specs.Prelude.{ℕ, ◌≡◌, ◌<◌, List, length, slice_index, map, string_bytes}
use Rattle.plain_audit.specs.heap_audit.declared.finding.Audit.{Audit}
use Rattle.plain_audit.specs.Audits.{IsAudit}
use Rattle.plain_audit.specs.plain_state.declared.slot.SlotId.{SlotId}
use Rattle.script_desk.specs.declared.said.Said.{Said}
use Rattle.script_desk.specs.declared.said.Said.TheVariants.{Audited}
use Rattle.script_desk.specs.declared.said.Shown.{Shown}
use Rattle.script_desk.specs.Desks.{Desk, maker_of}
use Rattle.script_desk.specs.Kinds.{script_weight}

-- the rank of a slot is the number of the make that made it
abbrev pub AreRanks : Desk → List ℕ → Type 0
AreRanks d ranks =
    (length ranks ≡ length d.plain.slots)
    × ((s : SlotId) → s.0 < length d.plain.slots → slice_index ranks s.0 ≡ (maker_of d s).number)

-- the numbers that were found, and the walk by the names of the makes that made its slots
pub record Shows (d : Desk) (found : Audit) (shown : Shown) : Type 0 where
  pub live : shown.live ≡ found.live
  pub deferred : shown.deferred ≡ found.deferred
  pub cyclic : shown.cyclic ≡ found.cyclic
  pub bytes : shown.bytes ≡ found.bytes
  pub walk : map string_bytes shown.walk.items ≡ map (λ s. (maker_of d s).name) found.walk.items

-- the answer shows what an audit finds
abbrev pub AnswersAudit : Desk → Said → Type 0
AnswersAudit d answer =
    (found : Audit) × (ranks : List ℕ) × (shown : Shown) × AreRanks d ranks
    × IsAudit script_weight ranks d.plain found × Shows d found shown × (answer ≡ Audited shown)
