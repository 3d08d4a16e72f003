-- The law holds at the start, and steps of others keep it.
use Rattle.std.proofs.Common.{◌≡◌, ⊎_elim, ℕ, List, get_or, replicate, refl, sym, ap, subst, ◌∙◌, arith, Option, Some, None}
use Rattle.std.proofs.lemmas.Bool.{cases_lt}
use Rattle.std.proofs.lemmas.List.{get_or_past, get_or-replicate, length-replicate}
use Rattle.cdrc.specs.plain_state.declared.slot.PlainSlot.{PlainSlot}
use Rattle.cdrc.specs.plain_state.declared.slot.SlotId.{SlotId}
use Rattle.cdrc.specs.plain_state.declared.slot.Stage.TheVariants.{Free, Live}
use Rattle.cdrc.specs.plain_state.State.{Plain, new_slot, slot_at, stage_at}
use Rattle.cdrc.specs.plain_state.Lawful.{Lawful}
use Rattle.cdrc.specs.plain_protocol.Laws.{Starts, KeptByCalm, KeptByForeign}
use Rattle.cdrc.proofs.Below.protocol_pairs_Held.{cell_live, first_live}
use Rattle.cdrc.proofs.Below.protocol_pairs_Leaves.{calm_is_foreign, foreign_leaves}
use Rattle.cdrc.proofs.Below.protocol_pairs_Notes.{none_noted}
use Rattle.cdrc.specs.protocol_pairs.Untouched.{IsUntouched}
use Rattle.example_stack.specs.Views.{View, WasPushed, no_view}
use Rattle.example_stack.specs.Stack.{IsNode, Stack, below, owns, top}

-- STATES
module _ (cell : ℕ) (kind : List ℕ → Type 0) (p q : Plain) (views : List View) (lawful : Lawful p)
    (law : Stack cell kind p views) (same : IsUntouched (owns cell kind) p q) where
  pub top_before : (s : SlotId) → top cell q ≡ Some s → top cell p ≡ Some s
  top_before s is = sym (same.cells cell refl) ∙ is

  -- what lives keeps its payload
  pub payload_before : (s : SlotId) → stage_at p s ≡ Live
      → (slot_at q s).payload ≡ (slot_at p s).payload
  payload_before s live = ((same.slots s).kept live).1

  -- a node was a node before
  pub node_before : (x : SlotId) → IsNode kind q x → IsNode kind p x
  node_before x node = ⊎_elim
      (λ (live : stage_at p x ≡ Live). (live, subst kind (payload_before x live) node.1))
      (λ new. absurd (new.1 node.1))
      ((same.slots x).live node.0)

  -- and has below it what it had
  pub below_before : (x s : SlotId) → IsNode kind p x → below q x ≡ Some s → below p x ≡ Some s
  below_before x s node is = sym (((same.slots x).fields node.0 node.1).0) ∙ is

  pub untouched_keeps : Stack cell kind q views
  untouched_keeps = record {
    top = λ s is.
        let was = top_before s is in
        subst (WasPushed views) (sym (payload_before s (cell_live p cell s lawful was)))
        (law.top s was);
    below = λ x s node is.
        let before = node_before x node in
        let was = below_before x s before is in
        subst (WasPushed views) (sym (payload_before s (first_live p x s lawful was)))
        (law.below x s before was);
    nodes = law.nodes;
    seen = law.seen;
    popped = law.popped;
  }

-- no slot lives at the start
none_live : (slots : ℕ) (s : SlotId) → (get_or (replicate slots new_slot) s.0 new_slot).stage ≡ Free
none_live slots s = ⊎_elim
    (λ low. ap (λ (x : PlainSlot). x.stage) (get_or-replicate slots s.0 new_slot new_slot low))
    (λ past. let l = length-replicate slots new_slot in
    ap (λ (x : PlainSlot). x.stage)
    (get_or_past (replicate slots new_slot) s.0 new_slot (omega arith)))
    (cases_lt s.0 slots)

none_on_top : (cells cell : ℕ) (null : Option SlotId)
    → get_or (replicate cells null) cell null ≡ null
none_on_top cells cell null = ⊎_elim
    (λ low. get_or-replicate cells cell null null low)
    (λ past. let l = length-replicate cells null in
    get_or_past (replicate cells null) cell null (omega arith))
    (cases_lt cell cells)

pub stack_start : (cell : ℕ) (kind : List ℕ → Type 0) → Starts (Stack cell kind) (λ n. no_view)
stack_start cell kind seats slots cells weak_cells = record {
  top = λ s is. let null : Option SlotId = None in
      let e : null ≡ Some s = sym (none_on_top cells cell null) ∙ is in absurd cc;
  below = λ x s node is. let e : Free ≡ Live = sym (none_live slots x) ∙ node.0 in absurd cc;
  nodes = λ value was. absurd (none_noted no_view (λ (z : View). z.pushed) refl seats value was);
  seen = λ value was. absurd (none_noted no_view (λ (z : View). z.seen) refl seats value was);
  popped = λ value was. absurd (none_noted no_view (λ (z : View). z.popped) refl seats value was);
}

pub stack_foreign : (cell : ℕ) (kind : List ℕ → Type 0)
    → KeptByForeign (Stack cell kind) (owns cell kind)
stack_foreign cell kind p q n step found views meets is does =
    untouched_keeps cell kind p q views meets.lawful meets.law
    (foreign_leaves (owns cell kind) p q n step found meets.lawful is does)

pub stack_calm : (cell : ℕ) (kind : List ℕ → Type 0) → KeptByCalm (Stack cell kind)
stack_calm cell kind p q n step found views meets is does =
    stack_foreign cell kind p q n step found views meets
    (calm_is_foreign (owns cell kind) p step is) does
