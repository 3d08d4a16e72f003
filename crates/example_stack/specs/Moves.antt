-- What one step does to a stack's nodes: how the law goes with a view that grows, and with a cell or a slot that is
-- written.
use Rattle.std.proofs.Common.{◌≡◌, ◌≢◌, ◌⊎◌, inl, inr, ⊎_elim, ℕ, ◌+◌, ◌<◌, Bool, true, false, List, length, get_or, sym, ap, subst, ◌∙◌, arith, Option, Some, None}
use Rattle.std.specs.Prelude.{Contains, slice_set, if◌then◌else◌}
use Rattle.std.proofs.lemmas.Bool.{cases_lt}
use Rattle.std.proofs.lemmas.List.{get_or-set_same, get_or-set_other, set_past}
use Rattle.cdrc.specs.plain_state.declared.slot.PlainSlot.{PlainSlot}
use Rattle.cdrc.specs.plain_state.declared.slot.SlotId.{SlotId}
use Rattle.cdrc.specs.plain_state.declared.slot.Stage.TheVariants.{Live}
use Rattle.cdrc.specs.plain_state.State.{Plain, new_slot, slot_at}
use Rattle.cdrc.specs.plain_state.Steps.{word_of}
use Rattle.cdrc.proofs.Below.plain_state_Kit.{cases_slot, slot_is}
use Rattle.cdrc.specs.plain_protocol.Owns.{Object}
use Rattle.cdrc.proofs.Below.protocol_pairs_Notes.{noted_cases, noted_still}
use Rattle.example_stack.specs.Views.{View, WasPushed, no_view, view_at}
use Rattle.example_stack.specs.Stack.{IsNode, Stack, below, top}
use Rattle.example_stack.specs.Deeds.{SawObject}

-- WHAT A SEAT KNOWS OF A SLOT
pub saw_value : (v : View) (b : Bool) (o : Object) → SawObject v (if b then Some o else None)
    → Contains v.seen o.payload
saw_value v true o saw = saw
saw_value v false o saw = absurd saw

-- WORDS OF PLACES
pub held_is : (o : Option SlotId) (s : SlotId) → word_of o ≡ s.0 + 1 → o ≡ Some s
held_is None s e = absurd (omega arith)
held_is (Some x) s e = ap (λ z. Some z) (slot_is x s (omega arith))

-- VIEWS
module _ (cell : ℕ) (kind : List ℕ → Type 0) (p : Plain) (views : List View) (n : ℕ) (w : View)
    (low : n < length views) (law : Stack cell kind p views) where
  -- a seat's view grows, by nodes that it pushed and by values that were pushed
  pub view_grows :
      ((value : List ℕ) → Contains (view_at views n).pushed value → Contains w.pushed value)
      → ((value : List ℕ) → Contains w.pushed value → kind value)
      → ((value : List ℕ) → Contains w.seen value → WasPushed views value)
      → ((value : List ℕ) → Contains w.popped value → WasPushed views value)
      → Stack cell kind p (slice_set views n w)
  view_grows more nodes seen popped =
      let still = noted_still no_view (λ (z : View). z.pushed) views n w low more in
      record {
        top = λ s is. still _ (law.top s is);
        below = λ x s node is. still _ (law.below x s node is);
        nodes = λ value now. ⊎_elim (λ has. nodes value has) (λ was. law.nodes value was)
            (noted_cases no_view (λ (z : View). z.pushed) views n w low value now);
        seen = λ value now. still value
            (⊎_elim (λ has. seen value has) (λ was. law.seen value was)
            (noted_cases no_view (λ (z : View). z.seen) views n w low value now));
        popped = λ value now. still value
            (⊎_elim (λ has. popped value has) (λ was. law.popped value was)
            (noted_cases no_view (λ (z : View). z.popped) views n w low value now));
      }

-- STATES
module _ (cell : ℕ) (kind : List ℕ → Type 0) (p q : Plain) (views : List View)
    (law : Stack cell kind p views) where
  -- the payloads are as they were, and what now lies on top, or below a node, was pushed
  pub moves :
      ((s : SlotId) → (slot_at q s).payload ≡ (slot_at p s).payload)
      → ((s : SlotId) → top cell q ≡ Some s → WasPushed views (slot_at p s).payload)
      → ((x s : SlotId) → IsNode kind q x → below q x ≡ Some s
      → WasPushed views (slot_at p s).payload)
      → Stack cell kind q views
  moves same tops belows = record {
    top = λ s is. subst (WasPushed views) (sym (same s)) (tops s is);
    below = λ x s node is. subst (WasPushed views) (sym (same s)) (belows x s node is);
    nodes = law.nodes;
    seen = law.seen;
    popped = law.popped;
  }

  -- the slots are as they were
  pub cell_moves : q.slots ≡ p.slots
      → ((s : SlotId) → top cell q ≡ Some s → WasPushed views (slot_at p s).payload)
      → Stack cell kind q views
  cell_moves slots tops =
      let at : (x : SlotId) → slot_at q x ≡ slot_at p x = λ x. ap (λ l. get_or l x.0 new_slot) slots in
      moves (λ s. ap (λ (z : PlainSlot). z.payload) (at s)) tops
      (λ x s node is. law.below x s
      (subst (λ (z : PlainSlot). (z.stage ≡ Live) × kind z.payload) (at x) node)
      (sym (ap (λ (z : PlainSlot). z.first) (at x)) ∙ is))

  -- one slot is written, whose payload is as it was
  module _ (x : SlotId) (y : PlainSlot) (slots : q.slots ≡ slice_set p.slots x.0 y)
      (same : y.payload ≡ (slot_at p x).payload) where
    written : (s : SlotId) → (slot_at q s ≡ slot_at p s) ⊎ ((s ≡ x) × (slot_at q s ≡ y))
    written s =
        let at : slot_at q s ≡ get_or (slice_set p.slots x.0 y) s.0 new_slot =
        ap (λ l. get_or l s.0 new_slot) slots in
        ⊎_elim
        (λ (inside : x.0 < length p.slots). ⊎_elim
        (λ (is : s ≡ x). inr (
          is,
          at ∙ (ap (λ (z : SlotId). get_or (slice_set p.slots x.0 y) z.0 new_slot) is
              ∙ get_or-set_same p.slots x.0 y new_slot inside),
        ))
        (λ (ne : s.0 ≢ x.0). inl (at ∙ get_or-set_other p.slots x.0 s.0 y new_slot ne))
        (cases_slot s x))
        (λ past. inl (at ∙ ap (λ l. get_or l s.0 new_slot) (set_past p.slots x.0 y past)))
        (cases_lt x.0 (length p.slots))

    pub slot_moves : q.cells ≡ p.cells
        → ((s : SlotId) → y.first ≡ Some s → WasPushed views (slot_at p s).payload)
        → Stack cell kind q views
    slot_moves cells belows = moves
        (λ s. ⊎_elim (λ at. ap (λ (z : PlainSlot). z.payload) at)
        (λ is. ap (λ (z : PlainSlot). z.payload) is.1
        ∙ (same ∙ ap (λ (z : SlotId). (slot_at p z).payload) (sym is.0)))
        (written s))
        (λ s is. law.top s (sym (ap (λ l. get_or l cell None) cells) ∙ is))
        (λ z s node is. ⊎_elim
        (λ at. law.below z s
        (subst (λ (a : PlainSlot). (a.stage ≡ Live) × kind a.payload) at node)
        (sym (ap (λ (a : PlainSlot). a.first) at) ∙ is))
        (λ at. belows s (sym (ap (λ (a : PlainSlot). a.first) at.1) ∙ is))
        (written z))
