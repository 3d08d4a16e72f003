-- Answers that are written alike.
use Rattle.std.specs.Prelude.{◌≡◌, ◌⊎◌, map, string_bytes}
use Rattle.script_desk.specs.declared.said.Said.{Said}
use Rattle.script_desk.specs.declared.said.Said.TheVariants.{Audited}
use Rattle.script_desk.specs.declared.said.Shown.{Shown}

-- audits with the same numbers, and with walks of the same names
pub record ShownAlike (one other : Shown) : Type 0 where
  pub live : one.live ≡ other.live
  pub deferred : one.deferred ≡ other.deferred
  pub cyclic : one.cyclic ≡ other.cyclic
  pub bytes : one.bytes ≡ other.bytes
  pub walk : map string_bytes one.walk.items ≡ map string_bytes other.walk.items

-- the same answers, or such audits
abbrev pub SaidAlike : Said → Said → Type 0
SaidAlike a b =
    (a ≡ b) ⊎ ((one : Shown) × (other : Shown) × (a ≡ Audited one) × (b ≡ Audited other) × ShownAlike one other)
