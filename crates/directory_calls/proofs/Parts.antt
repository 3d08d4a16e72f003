-- A directory as a part of a protocol: what its deeds ask of the whole, and what they do to a view.
use Rattle.std.proofs.Common.{◌≡◌, ◌+◌, ℕ, ap, sym, subst, ◌∙◌, arith}
use Rattle.protected_loads.specs.plain_state.declared.act.PlainAct.{PlainAct}
use Rattle.protected_loads.specs.plain_state.State.{Plain}
use Rattle.protected_loads.specs.plain_protocol.Acts.{Owned}
use Rattle.protected_loads.specs.plain_protocol.Owns.{OwnPart}
use Rattle.directory_protocol.specs.protocol_pairs.Parts.{Accepts, Frees, PutsBack, PutsOver, Reads}
use Rattle.directory_protocol.specs.protocol_pairs.Spared.{IsWithin}
use Rattle.directory_protocol.specs.directory_law.declared.view.View.{View}
use Rattle.directory_protocol.specs.Keeping.{KeepsAll, MindsNone}
use Rattle.directory_calls.specs.Learning.{Learns, LearnsIn}
use Rattle.directory_calls.proofs.Learnt.{learns_none, learns_then}

-- how a view has that of a directory
pub record Place (V : Type 0) : Type 0 where
  pub seen : V → View
  pub with_seen : V → View → V
  pub reads : Reads seen with_seen
  pub puts_back : PutsBack seen with_seen
  pub puts_over : PutsOver with_seen

abbrev pub place_of : {V : Type 0} (seen : V → View) (with_seen : V → View → V)
    → Reads seen with_seen → PutsBack seen with_seen → PutsOver with_seen → Place V
place_of seen with_seen reads back over = record {
  seen = seen;
  with_seen = with_seen;
  reads = reads;
  puts_back = back;
  puts_over = over;
}

module _ {V : Type 0} (l : Place V) where
  -- a deed's next view, and what it tells, over the whole views
  abbrev pub lifts : (OwnPart → OwnPart → View → PlainAct → ℕ → View)
      → OwnPart → OwnPart → V → PlainAct → ℕ → V
  lifts next own after v a w = l.with_seen v (next own after (l.seen v) a w)

  abbrev pub tells : (Plain → Plain → ℕ → View → View → Type 0)
      → Plain → Plain → ℕ → V → V → Type 0
  tells allows p q n v w = allows p q n (l.seen v) (l.seen w)

  -- WHAT IS LEARNT
  abbrev pub LearnsBy : ℕ → V → V → Type 0
  LearnsBy n v w = LearnsIn l.seen l.with_seen n v w

  pub lift_learns : (n : ℕ) (v : V) (x : View) → Learns n (l.seen v) x
      → LearnsBy n v (l.with_seen v x)
  lift_learns n v x more = record {
    part = subst (λ y. Learns n (l.seen v) y) (sym (l.reads v x)) more;
    rest = ap (l.with_seen v) (sym (l.reads v x));
  }

  pub part_none : (v : V) → LearnsBy 0 v v
  part_none v = record { part = learns_none (l.seen v); rest = sym (l.puts_back v) }

  pub part_then : (m n : ℕ) (u v w : V) → LearnsBy m u v → LearnsBy n v w
      → LearnsBy (m + n) u w
  part_then m n u v w a b = record {
    part = learns_then m n (l.seen u) (l.seen v) (l.seen w) a.part b.part;
    rest = b.rest ∙ ap (λ x. l.with_seen x (l.seen w)) a.rest
        ∙ l.puts_over u (l.seen v) (l.seen w);
  }

  pub zero_then : (n : ℕ) (u v w : V) → LearnsBy 0 u v → LearnsBy n v w → LearnsBy n u w
  zero_then n u v w a b = subst (λ k. LearnsBy k u w) (omega arith) (part_then 0 n u v w a b)

  pub part_as : (m n : ℕ) (v w : V) → m ≡ n → LearnsBy m v w → LearnsBy n v w
  part_as m n v w same is = subst (λ k. LearnsBy k v w) same is

  -- A DEED of the directory is ready for the whole, where its step writes nothing but what the directory owns, and
  -- each next view keeps all that the seat's one keeps
  module _ (owned : Owned) (free : OwnPart → PlainAct → Type 0) (suits : V → View → Type 0)
      (frees : Frees owned free) (minds : MindsNone suits l.seen) where
    pub lift_ready : (ready : OwnPart → View → PlainAct → Type 0)
        (next : OwnPart → OwnPart → View → PlainAct → ℕ → View) (own : OwnPart) (v : V)
        (a : PlainAct) → ready own (l.seen v) a → IsWithin owned own a
        → ((after : OwnPart) (w : ℕ) → KeepsAll (l.seen v) (next own after (l.seen v) a w))
        → ready own (l.seen v) a × free own a × Accepts suits next l.seen own v a
    lift_ready ready next own v a is within keeps = (
      is,
      frees own a within,
      λ after w. minds v (next own after (l.seen v) a w) (keeps after w),
    )
