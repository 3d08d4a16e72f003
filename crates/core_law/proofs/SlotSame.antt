-- A slot whose numbers stay keeps its law, as more adds are used.
use Rattle.std.proofs.Common.{◌≡◌, ℕ, ◌≤◌, arith}
use Rattle.core_law.specs.Slots.{Numbers, SlotLaw, free, bare, blank, counted, asked, over, husk}

pub record SameNumbers (m n : Numbers) : Type 0 where
  pub strong : n.strong ≡ m.strong
  pub weak : n.weak ≡ m.weak
  pub bit : n.bit ≡ m.bit
  pub strong_refs : n.strong_refs ≡ m.strong_refs
  pub weak_refs : n.weak_refs ≡ m.weak_refs
  pub finishing : n.finishing ≡ m.finishing
  pub helping : n.helping ≡ m.helping
  pub baring : n.baring ≡ m.baring
  pub filling : n.filling ≡ m.filling
  pub giving : n.giving ≡ m.giving
  pub dying : n.dying ≡ m.dying
  pub fields : n.fields ≡ m.fields

pub slot_same : (a b : ℕ) (m n : Numbers) → SlotLaw a m → a ≤ b → SameNumbers m n → SlotLaw b n
slot_same a b m n law le same = grind (arith, free, bare, blank, counted, asked, over, husk)
