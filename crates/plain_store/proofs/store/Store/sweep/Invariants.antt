use Rattle.std.proofs.Common.{◌≡◌, ◌<◌, ℕ, length}
use Rattle.plain_state.specs.declared.slot.SlotId.{SlotId}
use Rattle.plain_store.specs.declared.store.Store.{Store}
use Rattle.plain_store.specs.Stores.{plain_of, Kept}
use Rattle.plain_store.specs.Draining.{SettlesFreely, IsCalm, HasRoom}
use Rattle.plain_store.proofs.store.Store.sweep.Given as goal

-- the slots below i are calm
pub record Swept (start now : Store) (i : ℕ) : Type 0 where
  pub settles : SettlesFreely (plain_of start) (plain_of now)
  pub kept : Kept now
  pub room : HasRoom now
  pub calm : (s : SlotId) → s.0 < i → IsCalm (plain_of now) s
  pub slots : length now.slots.items ≡ length start.slots.items

abbrev pub invariant-loop-i : goal.invariant-loop-i
invariant-loop-i l = Swept l.initial.self l.self l.i
