-- Tries of an update in turn.
use Rattle.std.proofs.Common.{◌≡◌, ◌⊎◌, false, inl, inr, ℕ, ◌+◌, ◌*◌, refl, ap, sym, ◌∙◌, subst, arith}
use Rattle.version_making.specs.map_law.declared.view.View.{View}
use Rattle.version_making.specs.map_protocol.declared.law.MapLaw.{MapLaw}
use Rattle.version_making.specs.slot_store.core_events.declared.view.CoreView.{CoreView}
use Rattle.version_making.specs.slot_store.acquire_retire.Domains.{DomainState}
use Rattle.version_making.specs.slot_store.acquire_retire.Seats.{SeatState}
use Rattle.version_making.specs.Keeping.{Grows, IsReadyFor, Keeps, none}
use Rattle.version_making.proofs.Keeping.{goes_none, goes_then, keeps_none, keeps_then}
use Rattle.version_updates.specs.Publishing.{but_for}
use Rattle.version_updates.proofs.Beside.{keeps_all_but, keeps_but_for}
use Rattle.version_map.specs.Retrying.{AtLast, HasLostOne, HasTried, IsLostTry, LeavesSome}
use Rattle.version_map.specs.Updating.{Leaves}

-- A seat that has tried, and may try again.
pub record MayTry (d : DomainState MapLaw) (c : ℕ) (old now : SeatState View) : Type 0 where
  pub tried : HasTried d c old now
  pub uncleared : now.view.client.cleared ≡ false
  pub ready : IsReadyFor d now

-- the view of a seat apart from its entries is that of the seat where these are as they were
grows_whole : (v : View) (w : SeatState View) → w.view.client.entries ≡ v.entries
    → w.view.client.cleared ≡ v.cleared → Grows v (but_for v w).view.client → Grows v w.view.client
grows_whole v w entries cleared grows = record {
  number = grows.number;
  here = grows.here;
  entries = entries;
  cleared = cleared;
  solid = grows.solid;
  led = grows.led;
}

keeps_whole : (m n : ℕ) (a b : SeatState View) → b.view.client.entries ≡ a.view.client.entries
    → b.view.client.cleared ≡ a.view.client.cleared
    → Keeps m n none none a (but_for a.view.client b) → Keeps m n none none a b
keeps_whole m n a b entries cleared k = record {
  owns = k.owns;
  makes_used = k.makes_used;
  adds_used = k.adds_used;
  same = k.same;
  goes = k.goes;
  knows = k.knows;
  grows = grows_whole a.view.client b entries cleared k.grows;
}

pub none_tried : (d : DomainState MapLaw) (c : ℕ) (a : SeatState View)
    → IsReadyFor d a × (a.view.client.cleared ≡ false) → MayTry d c a a
none_tried d c a can = record {
  tried = record { makes = 0; adds = 0; keeps = keeps_none a; first = inl refl };
  uncleared = can.1;
  ready = can.0;
}

-- A LOST TRY more
module _ (d : DomainState MapLaw) (c : ℕ) (a b : SeatState View) (may : MayTry d c a b)
    (s : SeatState View) (lost : IsLostTry d c b s) (uncleared : s.view.client.cleared ≡ false) where
  try_keeps : Keeps (lost.leaves.height * 3 + 1) (lost.leaves.height * 15 + 3) none none b s
  try_keeps =
      keeps_whole (lost.leaves.height * 3 + 1) (lost.leaves.height * 15 + 3) b s
      lost.again.entries (uncleared ∙ sym may.uncleared) lost.leaves.keeps

  first_lost : (b ≡ a) ⊎ HasLostOne d c a b → HasLostOne d c a s
  first_lost (inl same) = record {
    next = s;
    lost = subst (λ (x : SeatState View). IsLostTry d c x s) same lost;
    goes = goes_none s.view.core s.view.core refl;
  }
  first_lost (inr one) = record {
    next = one.next;
    lost = one.lost;
    goes = goes_then one.next.view.core b.view.core s.view.core one.goes try_keeps.goes;
  }

  pub tried_more : IsReadyFor d s → MayTry d c a s
  tried_more ready = record {
    tried = record {
      makes = may.tried.makes + (lost.leaves.height * 3 + 1);
      adds = may.tried.adds + (lost.leaves.height * 15 + 3);
      keeps = keeps_then may.tried.makes may.tried.adds (lost.leaves.height * 3 + 1)
          (lost.leaves.height * 15 + 3) none none none none none none a b s may.tried.keeps
          try_keeps (λ x. (omega arith, omega arith, omega arith));
      first = inr (first_lost may.tried.first);
    };
    uncleared = uncleared;
    ready = ready;
  }

-- THE LAST TRY
module _ (d : DomainState MapLaw) (c : ℕ) (a b : SeatState View) (may : MayTry d c a b)
    (s : SeatState View) (leaves : Leaves d c b s) where
  pub tried_last : (did : SeatState View → SeatState View → Type 0) → did b s → AtLast d c did a s
  tried_last did does = record { mid = b; tried = may.tried; did_last = does; leaves = leaves }

  pub notes_same : s.view.core.notes ≡ a.view.core.notes
  notes_same =
      ap (λ (v : CoreView). v.notes) leaves.keeps.same
      ∙ ap (λ (v : CoreView). v.notes) may.tried.keeps.same

-- WHAT UPDATES LEAVE
some_by : (m n : ℕ) (a b : SeatState View) → Keeps m n none none a (but_for a.view.client b)
    → LeavesSome a b
some_by m n a b keeps = record { makes = m; adds = n; keeps = keeps }

pub some_then : (a b s : SeatState View) → LeavesSome a b → LeavesSome b s → LeavesSome a s
some_then a b s first second =
    some_by (first.makes + second.makes) (first.adds + second.adds) a s
    (keeps_then first.makes first.adds second.makes second.adds none none none none none none a
    (but_for a.view.client b) (but_for a.view.client s) first.keeps
    (keeps_but_for second.makes second.adds none none a.view.client b (but_for b.view.client s)
    second.keeps)
    (λ x. (omega arith, omega arith, omega arith)))

pub one_leaves : (d : DomainState MapLaw) (c : ℕ) (a b : SeatState View) → Leaves d c a b
    → LeavesSome a b
one_leaves d c a b leaves =
    some_by (leaves.height * 3 + 1) (leaves.height * 15 + 3) a b leaves.keeps

pub last_leaves : (d : DomainState MapLaw) (c : ℕ) (a mid b : SeatState View)
    → HasTried d c a mid → Leaves d c mid b → LeavesSome a b
last_leaves d c a mid b tried leaves =
    some_then a mid b
    (some_by tried.makes tried.adds a mid
    (keeps_all_but tried.makes tried.adds none none a mid tried.keeps))
    (one_leaves d c mid b leaves)
