-- The law of a stack. Its nodes are the objects of its kind; a node's value is its payload, and field 0 of a node
-- holds the one below it. The cell holds the top.
use Rattle.std.specs.Prelude.{ℕ, zero, suc, ◌≡◌, List, slice_index_or, Option, Some, None}
use Rattle.cdrc.specs.plain_state.declared.slot.SlotId.{SlotId}
use Rattle.cdrc.specs.plain_state.declared.slot.Stage.TheVariants.{Live}
use Rattle.cdrc.specs.plain_state.State.{Plain, slot_at, stage_at}
use Rattle.cdrc.specs.plain_protocol.Acts.{Owned}
use Rattle.example_stack.specs.Views.{View, WasPopped, WasPushed, WasSeen}

-- the object in x lives, and is a node
abbrev pub IsNode : (List ℕ → Type 0) → Plain → SlotId → Type 0
IsNode kind p x = (stage_at p x ≡ Live) × kind (slot_at p x).payload

-- the top of the stack; the node below x
abbrev pub top : ℕ → Plain → Option SlotId
top cell p = slice_index_or p.cells cell None

abbrev pub below : Plain → SlotId → Option SlotId
below p x = (slot_at p x).first

pub record Stack (cell : ℕ) (kind : List ℕ → Type 0) (p : Plain) (views : List View)
    : Type 0 where
  -- the top was pushed
  pub top :
      (s : SlotId) → top cell p ≡ Some s → WasPushed views (slot_at p s).payload
  -- what is below a node was pushed
  pub below :
      (x s : SlotId) → IsNode kind p x → below p x ≡ Some s
      → WasPushed views (slot_at p s).payload
  -- only nodes were pushed
  pub nodes : (value : List ℕ) → WasPushed views value → kind value
  -- what a seat saw in the stack was pushed
  pub seen : (value : List ℕ) → WasSeen views value → WasPushed views value
  -- what a seat popped was pushed
  pub popped : (value : List ℕ) → WasPopped views value → WasPushed views value

-- the cell and the nodes
abbrev pub owns : ℕ → (List ℕ → Type 0) → Owned
owns cell kind = record {
  cell = λ i. i ≡ cell;
  weak_cell = λ i. ⊥;
  payload = kind;
  tickets = ⊥;
}

-- the node that lies so deep in the stack, if it has so many; the top lies at 0
abbrev pub below_of : Plain → Option SlotId → Option SlotId
below_of p None = None
below_of p (Some x) = below p x

unfoldable pub node_at : ℕ → Plain → ℕ → Option SlotId
node_at cell p zero = top cell p
node_at cell p (suc depth) = below_of p (node_at cell p depth)
