-- What a seat has learnt it knows later too.
use Rattle.std.proofs.Common.{inl, inr, ⊎_elim, ℕ, ◌+◌, zero, suc, refl, ◌∙◌, sym, subst, arith}
use Rattle.std.specs.Prelude.{List, Option, Some, None}
use Rattle.protected_loads.specs.plain_state.declared.act.PlainAct.{PlainAct}
use Rattle.protected_loads.specs.plain_state.declared.slot.SlotId.{SlotId}
use Rattle.protected_loads.specs.plain_protocol.Owns.{Object, OwnPart}
use Rattle.directory_protocol.specs.directory_law.declared.view.Seen.{Seen}
use Rattle.directory_protocol.specs.directory_law.declared.view.View.{View}
use Rattle.directory_protocol.specs.directory_law.Payloads.{Text}
use Rattle.directory_protocol.specs.directory_law.declared.view.Rope.{Rope}
use Rattle.directory_protocol.specs.directory_law.Views.{In, note}
use Rattle.directory_protocol.specs.directory_law.Cells.{Area}
use Rattle.directory_protocol.specs.directory_law.Lessons.{see_next, sees}
use Rattle.directory_protocol.specs.directory_law.Steps.{id}
use Rattle.directory_protocol.specs.directory_law.Walks.{IsOther, Passes, Walked}
use Rattle.directory_protocol.specs.Keeping.{KeepsAll}
use Rattle.directory_calls.specs.Learning.{Learns}

pub learns_none : (v : View) → Learns 0 v v
learns_none v = record {
  seen = λ e in'. in';
  ended = λ e in'. in';
  ran = λ e in'. in';
  led = λ e in'. in';
  quota = refl;
  used = omega arith;
  notes = (refl, refl);
}

pub learns_then : (m n : ℕ) (u v w : View) → Learns m u v → Learns n v w → Learns (m + n) u w
learns_then m n u v w a b = record {
  seen = λ e in'. b.seen e (a.seen e in');
  ended = λ e in'. b.ended e (a.ended e in');
  ran = λ e in'. b.ran e (a.ran e in');
  led = λ e in'. b.led e (a.led e in');
  quota = b.quota ∙ a.quota;
  used = let x = a.used in let y = b.used in omega arith;
  notes = (b.notes.0 ∙ a.notes.0, b.notes.1 ∙ a.notes.1);
}

-- the next view of the deed SeeHead
pub sees_learns : (c : ℕ) (s : SlotId) (o : Option Object) (v : View) → Learns 0 v (sees c s o v)
sees_learns c s None v = learns_none v
sees_learns c s (Some o) v = record {
  seen = λ e in'. inr in';
  ended = λ e in'. in';
  ran = λ e in'. in';
  led = λ e in'. in';
  quota = refl;
  used = omega arith;
  notes = (refl, refl);
}

pub see_learns : (z : Area) (own after : OwnPart) (v : View) (a : PlainAct) (w : ℕ)
    → Learns 0 v (see_next z own after v a w)
see_learns z own after v a zero = learns_none v
see_learns z own after v a (suc s) = sees_learns _ (id s) (after.objects (id s)) v

-- what it learns it keeps all along
pub learns_keeps : (n : ℕ) (v w : View) → Learns n v w → KeepsAll v w
learns_keeps n v w more = λ e in'. subst (λ (es : List Rope). In e es) (sym more.notes.1) in'

-- WALKS
other_still : (n : ℕ) (v w : View) (e : Seen) (text : Text) → Learns n v w → IsOther v e text
    → IsOther w e text
other_still n v w e text learns is = ⊎_elim
    (λ head. inl head)
    (λ read. inr (read.0, learns.ran read.0 read.1, read.2, read.3, read.4))
    is

pub passes_still : (n : ℕ) (v w : View) (text : Text) (c : ℕ) → Learns n v w → Passes v text c
    → Passes w text c
passes_still n v w text c learns is = (
  is.0,
  learns.seen is.0 is.1,
  is.2,
  ⊎_elim (λ other. inl (other_still n v w is.0 text learns other))
      (λ ended. inr (learns.ended (note is.0.slot is.0.life) ended)) is.3,
)

pub walked_still : (n : ℕ) (z : Area) (v w : View) (text : Text) (m : ℕ) → Learns n v w
    → Walked z v text m → Walked z w text m
walked_still n z v w text m learns walked =
    λ j low. passes_still n v w text _ learns (walked j low)
