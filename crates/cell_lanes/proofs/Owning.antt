-- What a seat owns where calls follow one another.
use Rattle.std.proofs.Common.{◌≡◌, ℕ, ◌+◌, ◌<◌, ◌≤◌, Bool, true, false, List, [], ◌∷◌, ◌++◌, refl, sym, ap, subst, ◌∙◌, arith}
use Rattle.std.specs.Prelude.{cond, drop, length, Option, Some, None}
use Rattle.std.proofs.lemmas.List.{drop-append-le, map-append}
use Rattle.cell_intern.specs.cell_calls.Keeping.{Keeps}
use Rattle.cell_intern.proofs.Below.cell_calls_Keeping.{keeps_self, keeps_then, keeps_wider}
use Rattle.cell_intern.specs.cell_calls.cell_law.declared.view.View.{View}
use Rattle.cell_intern.specs.cell_calls.cell_law.plain_state.declared.slot.SlotId.{SlotId}
use Rattle.cell_intern.specs.cell_calls.cell_law.plain_state.Lists.{times}
use Rattle.cell_intern.specs.cell_calls.cell_protocol.declared.law.CellLaw.{CellLaw}
use Rattle.cell_intern.proofs.Below.cell_making_Kept.{drop_back, drop_keeps}
use Rattle.cell_intern.proofs.Below.cell_making_Owned.{holds_on}
use Rattle.cell_intern.proofs.Below.core_law_Kit.{one_same, times_append, times_cons, times_none, times_push, times_without}
use Rattle.cell_intern.specs.epoch_refs.Walks.{IsAtRest}
use Rattle.cell_intern.specs.epoch_refs.epoch_core.core_events.Views.{without}
use Rattle.cell_intern.specs.epoch_refs.epoch_core.declared.act.EpochAct.TheVariants as act
use Rattle.cell_intern.specs.epoch_refs.epoch_core.declared.outcome.EpochOutcome.{EpochOutcome}
use Rattle.cell_intern.specs.epoch_refs.epoch_core.declared.view.EpochView.{EpochView}
use Rattle.cell_intern.specs.epoch_refs.epoch_domain.Calls.{IsSameView, Steps, same_view}
use Rattle.cell_intern.specs.epoch_refs.epoch_domain.Domains.{DomainState}
use Rattle.cell_intern.specs.epoch_refs.epoch_domain.Seats.{SeatState}
use Rattle.lane_work.specs.Keeping.{Admits, has, slots_of}
use Rattle.lane_work.specs.counted_handles.Handles.{Handle}
use Rattle.lane_work.specs.declared.keeper.Keeper.{Keeper}
use Rattle.cell_lanes.specs.Keeping.{GivesUp, KeepsOne}
use Rattle.cell_lanes.specs.Ready.{IsReady}

-- a seat is ready still after calls that kept its view of the client
pub ready_on : (d : DomainState CellLaw) (m n : ℕ) (xs : List SlotId) (a b : SeatState View)
    → IsReady d a → Keeps m n xs a b → IsAtRest d b → b.view.client ≡ a.view.client → IsReady d b
ready_on d m n xs a b ready keeps rest same = record {
  free = record {
    rest = rest;
    outside = ap (λ (v : EpochView). v.number) keeps.same ∙ ready.free.outside;
  };
  over = ready.over;
  is_open = ap (λ (v : View). v.cleared) same ∙ ready.is_open;
}

module _ (a b c : SeatState View) where
  -- calls after one that gave nothing up
  pub keeps_grown : (m n p q : ℕ) (xs ys : List SlotId) → Keeps m p (a.view.core.owned ++ xs) a b
      → Keeps n q ys b c → Keeps (m + n) (p + q) ys a c
  keeps_grown m n p q xs ys first second =
      keeps_then m n p q (a.view.core.owned ++ xs) ys a b c first second
      (λ x has' still. holds_on m p (a.view.core.owned ++ xs) a b first x
      (let s = times_append x a.view.core.owned xs in omega arith) has')

  -- and where those gained more
  pub keeps_both : (m n p q : ℕ) (xs ys : List SlotId) → Keeps m p (a.view.core.owned ++ xs) a b
      → Keeps n q (b.view.core.owned ++ ys) b c
      → Keeps (m + n) (p + q) (a.view.core.owned ++ (xs ++ ys)) a c
  keeps_both m n p q xs ys first second =
      keeps_wider (m + n) (m + n) (p + q) (p + q) (b.view.core.owned ++ ys)
      (a.view.core.owned ++ (xs ++ ys)) a c
      (keeps_grown m n p q xs (b.view.core.owned ++ ys) first second)
      (omega arith) (omega arith)
      (λ x.
      let o = first.owns x in
      let u = times_append x b.view.core.owned ys in
      let v = times_append x a.view.core.owned xs in
      let w = times_append x a.view.core.owned (xs ++ ys) in
      let y = times_append x xs ys in omega arith)

-- REFERENCES that are given up
pub gives_none : (a : SeatState View) → GivesUp [] a a
gives_none a = record {
  owns = λ x. let z = times_none x in omega arith;
  keeps = keeps_self a;
  back = λ x is. is;
}

pub gives_one : (fits : List ℕ → Type 0) (d : DomainState CellLaw) (s : SlotId) (o : EpochOutcome)
    (a b : SeatState View) → 0 < times s a.view.core.owned
    → Steps fits d same_view IsSameView (act.Drop s) a b o → GivesUp (s ∷ []) a b
gives_one fits d s o a b owned step =
    let keeps = drop_keeps fits d a b s o step in record {
      owns = λ x.
          let k = keeps.owns x in let w = times_without x s a.view.core.owned owned in
          let p = times_cons x s [] in let z = times_none x in omega arith;
      keeps = keeps_wider 0 0 0 0 (without s a.view.core.owned) b.view.core.owned a b keeps
          (omega arith) (omega arith) (λ x. sym (keeps.owns x));
      back = drop_back fits d a b s o owned step;
    }

pub gives_then : (xs ys : List SlotId) (a b c : SeatState View) → GivesUp xs a b → GivesUp ys b c
    → GivesUp (ys ++ xs) a c
gives_then xs ys a b c first second = record {
  owns = λ x.
      let p = first.owns x in let q = second.owns x in let r = times_append x ys xs in omega arith;
  keeps = keeps_then 0 0 0 0 b.view.core.owned c.view.core.owned a b c first.keeps second.keeps
      (λ x has' still. second.back x still);
  back = λ x is. first.back x (second.back x is);
}

-- a reference that was gained, and given up again, or not
module _ (m n : ℕ) (a b c : SeatState View) (xs : List SlotId)
    (first : Keeps m n (a.view.core.owned ++ xs) a b) where
  pub given_back : GivesUp xs b c → Keeps m n a.view.core.owned a c
  given_back gives =
      keeps_wider (m + 0) m (n + 0) n c.view.core.owned a.view.core.owned a c
      (keeps_grown a b c m 0 n 0 xs c.view.core.owned first gives.keeps)
      (omega arith) (omega arith)
      (λ x.
      let p = gives.owns x in let q = first.owns x in
      let r = times_append x a.view.core.owned xs in omega arith)

  pub kept_then : (s : SlotId) (ys : List SlotId) → xs ≡ s ∷ []
      → Keeps 0 0 (without s b.view.core.owned ++ ys) b c
      → Keeps m n (a.view.core.owned ++ ys) a c
  kept_then s ys is second =
      keeps_wider (m + 0) m (n + 0) n (without s b.view.core.owned ++ ys) (a.view.core.owned ++ ys) a c
      (keeps_grown a b c m 0 n 0 xs (without s b.view.core.owned ++ ys) first second)
      (omega arith) (omega arith)
      (λ x.
      let q = first.owns x in
      let r = times_append x a.view.core.owned xs in
      let e = ap (times x) is in let f = times_cons x s [] in let z = times_none x in
      let w = times_without x s b.view.core.owned owned in
      let u = times_append x (without s b.view.core.owned) ys in
      let v = times_append x a.view.core.owned ys in omega arith)
    where
      owned : 0 < times s b.view.core.owned
      owned =
          let q = first.owns s in let r = times_append s a.view.core.owned xs in
          let e = ap (times s) is in let f = times_cons s s [] in let o = one_same s s refl in
          let z = times_none s in omega arith

-- of the references behind the first ones, the last of the front is owned
pub owned_next : (first : ℕ) (all front : List Handle) (h : Handle) (gone : List Handle)
    (a b : SeatState View) → all ≡ front ++ h ∷ gone → first ≤ length front
    → GivesUp (slots_of gone) a b
    → times h.slot (slots_of (drop first all)) ≤ times h.slot a.view.core.owned
    → 0 < times h.slot b.view.core.owned
owned_next first all front h gone a b is few gives more =
    let r = ap (λ (hs : List Handle). times h.slot (slots_of hs))
    (ap (drop first) is ∙ drop-append-le first front (h ∷ gone) few)
    ∙ ap (times h.slot) (map-append (λ (k : Handle). k.slot) (drop first front) (h ∷ gone))
    ∙ times_append h.slot (slots_of (drop first front)) (slots_of (h ∷ gone)) in
    let c = times_cons h.slot h.slot (slots_of gone) in
    let o = one_same h.slot h.slot refl in let g = gives.owns h.slot in omega (arith, more)

-- A REFERENCE that is kept, or not
came_back : (x : Bool) (h k : Handle) → Some k ≡ cond x (Some h) None → (x ≡ true) × (k ≡ h)
came_back true h k e = (refl, cc)
came_back false h k e = cc

stays_kept : (x : Bool) (h : Handle) → None ≡ cond x (Some h) None → x ≡ false
stays_kept false h e = refl
stays_kept true h e = cc

module _ (h : Handle) (before after : Keeper) (a b : SeatState View) where
  kept_more : (x : Bool) → has before h.slot ≡ x → (back : Option Handle)
      → Admits h back before after
      → Keeps 0 0 (without h.slot a.view.core.owned ++ slots_of (cond x [] (h ∷ []))) a b
      → KeepsOne h before after a b
  kept_more x is back admits keeps = record {
    more = cond x [] (h ∷ []);
    is = ap (λ (y : Bool). cond y [] (h ∷ [])) (sym is);
    kept = admits.kept ∙ ap (λ (y : Bool). before.kept.items ++ cond y [] (h ∷ [])) is;
    marks = admits.marks;
    keeps = keeps;
  }

  -- one to its slot was kept
  pub back_is : (k : Handle) → Admits h (Some k) before after → k ≡ h
  back_is k admits = (came_back (has before h.slot) h k admits.gives).1

  pub keeps_none : (k : Handle) → Admits h (Some k) before after
      → 0 < times h.slot a.view.core.owned → GivesUp (k.slot ∷ []) a b
      → KeepsOne h before after a b
  keeps_none k admits own gives =
      kept_more true (came_back (has before h.slot) h k admits.gives).0 (Some k) admits
      (keeps_wider 0 0 0 0 b.view.core.owned (without h.slot a.view.core.owned ++ []) a b gives.keeps
      (omega arith) (omega arith)
      (λ x.
      let e = ap (λ (g : Handle). times x (g.slot ∷ [])) (back_is k admits) in
      let p = gives.owns x in let q = times_cons x h.slot [] in let z = times_none x in
      let w = times_without x h.slot a.view.core.owned own in
      let u = times_append x (without h.slot a.view.core.owned) [] in omega arith))

  -- none was kept
  pub keeps_one : Admits h None before after → 0 < times h.slot a.view.core.owned → b ≡ a
      → KeepsOne h before after a b
  keeps_one admits own same =
      kept_more false (stays_kept (has before h.slot) h admits.gives) None admits
      (subst (λ (c : SeatState View). Keeps 0 0 (without h.slot a.view.core.owned ++ h.slot ∷ []) a c)
      (sym same)
      (keeps_wider 0 0 0 0 a.view.core.owned (without h.slot a.view.core.owned ++ h.slot ∷ []) a a
      (keeps_self a) (omega arith) (omega arith)
      (λ x.
      let p = times_push x h.slot (without h.slot a.view.core.owned) in
      let q = times_without x h.slot a.view.core.owned own in omega arith)))
