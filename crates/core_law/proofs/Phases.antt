-- What the counts of phases are in each phase, and where a seat goes from one phase to another.
use Rattle.std.proofs.Common.{◌≡◌, ◌≢◌, ℕ, sym, arith}
use Rattle.core_events.specs.plain_state.declared.slot.SlotId.{SlotId}
use Rattle.core_events.specs.declared.view.Phase.{Phase}
use Rattle.core_events.specs.declared.view.Phase.TheVariants as phase
use Rattle.core_events.specs.Counts.{one, finishing, helping, baring, filling, giving, in_phase}
use Rattle.core_law.proofs.Kit.{one_other}
use Rattle.core_law.proofs.Put.{SamePhase}

-- what a phase counts
pub record Counted (p : Phase) (x : SlotId) (fin hlp bar fill giv named : ℕ) : Type 0 where
  pub finish : finishing x p ≡ fin
  pub help : helping x p ≡ hlp
  pub bares : baring x p ≡ bar
  pub fills : filling x p ≡ fill
  pub gives : giving x p ≡ giv
  pub names : in_phase x p ≡ named

pub in_idle : (p : Phase) (x : SlotId) → p ≡ phase.Idle → Counted p x 0 0 0 0 0 0
in_idle p x e = rw e (omega arith)

pub in_scan : (p : Phase) (x : SlotId) → p ≡ phase.Scan → Counted p x 0 0 0 0 0 0
in_scan p x e = rw e (omega arith)

pub in_finish : (p : Phase) (x s : SlotId) → p ≡ phase.Finish s
    → Counted p x (one x s) 0 0 0 0 (one x s)
in_finish p x s e = rw e (omega arith)

pub in_help : (p : Phase) (x s : SlotId) → p ≡ phase.Help s
    → Counted p x 0 (one x s) 0 0 0 (one x s)
in_help p x s e = rw e (omega arith)

pub in_zero : (p : Phase) (x s : SlotId) → p ≡ phase.Zero s
    → Counted p x 0 0 0 0 0 (one x s)
in_zero p x s e = rw e (omega arith)

pub in_bare : (p : Phase) (x s : SlotId) → p ≡ phase.Bare s
    → Counted p x 0 0 (one x s) 0 0 (one x s)
in_bare p x s e = rw e (omega arith)

pub in_blank : (p : Phase) (x s : SlotId) → p ≡ phase.Blank s
    → Counted p x 0 0 0 (one x s) 0 (one x s)
in_blank p x s e = rw e (omega arith)

pub in_give : (p : Phase) (x s : SlotId) → p ≡ phase.Give s
    → Counted p x 0 0 0 0 (one x s) (one x s)
in_give p x s e = rw e (omega arith)

-- the phase of a seat that is in the middle of nothing, or of something with slot s
pub data IsAt (s : SlotId) (p : Phase) : Type 0 where
  at_idle : p ≡ phase.Idle → IsAt s p
  at_finish : p ≡ phase.Finish s → IsAt s p
  at_help : p ≡ phase.Help s → IsAt s p
  at_zero : p ≡ phase.Zero s → IsAt s p
  at_bare : p ≡ phase.Bare s → IsAt s p
  at_blank : p ≡ phase.Blank s → IsAt s p
  at_give : p ≡ phase.Give s → IsAt s p

pub not_scan : (s : SlotId) (p : Phase) → IsAt s p → p ≡ phase.Scan → ⊥
not_scan s p at e = grind arith

-- it counts no other slot
none_other : (s : SlotId) (p : Phase) (x : SlotId) → IsAt s p → x.0 ≢ s.0 → Counted p x 0 0 0 0 0 0
none_other s p x at ne = let o = one_other x s (λ f. ne (sym f)) in grind arith

-- two such phases stand alike to every other slot
pub same_phase : (s : SlotId) (p q : Phase) → IsAt s p → IsAt s q → (x : SlotId) → x.0 ≢ s.0
    → SamePhase x p q
same_phase s p q at at' x ne =
    let a = none_other s p x at ne in
    let b = none_other s q x at' ne in omega arith
