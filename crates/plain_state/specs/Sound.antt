-- What every step of the plain state keeps: Lawful, and how many references there can be.
use Rattle.std.specs.Prelude.{ℕ, ◌≡◌, ◌≤◌, ◌+◌, length, All}
use Rattle.plain_state.specs.declared.slot.SlotId.{SlotId}
use Rattle.plain_state.specs.State.{Plain}
use Rattle.plain_state.specs.References.{over_seats, strong_refs, weak_refs}
use Rattle.plain_state.specs.Lawful.{Lawful}

-- the adds that all seats used
abbrev pub all_adds : Plain → ℕ
all_adds p = over_seats (λ v. v.adds) p.seats

pub record Sound (p : Plain) : Type 0 where
  pub lawful : Lawful p
  -- each reference came from an add, but for the slot's own
  pub strong_few : (s : SlotId) → strong_refs p s ≤ all_adds p
  pub weak_few : (s : SlotId) → weak_refs p s ≤ all_adds p + 1
  -- a payload has sixteen words
  pub payloads : All (λ x. length x.payload ≡ 16) p.slots
