-- What lies in a stack, however deep, lives and was pushed.
use Rattle.std.proofs.Common.{◌≡◌, ℕ, zero, suc, List, refl, Option, Some, None}
use Rattle.cdrc.specs.plain_state.declared.slot.SlotId.{SlotId}
use Rattle.cdrc.specs.plain_state.Lawful.{Lawful}
use Rattle.cdrc.specs.plain_state.State.{Plain, slot_at}
use Rattle.cdrc.proofs.Below.protocol_pairs_Held.{cell_live, first_live}
use Rattle.example_stack.specs.Views.{View, WasPushed}
use Rattle.example_stack.specs.Stack.{IsNode, Stack, below_of, node_at}

module _ (cell : ℕ) (kind : List ℕ → Type 0) (p : Plain) (views : List View) (lawful : Lawful p)
    (law : Stack cell kind p views) where
  abbrev IsPushed : SlotId → Type 0
  IsPushed s = IsNode kind p s × WasPushed views (slot_at p s).payload

  below_one : (o : Option SlotId) (s : SlotId) → below_of p o ≡ Some s
      → ((x : SlotId) → o ≡ Some x → IsPushed x) → IsPushed s
  below_one None s is above = absurd cc
  below_one (Some x) s is above =
      let was = law.below x s (above x refl).0 is in
      ((first_live p x s lawful is, law.nodes _ was), was)

  pub deep : (depth : ℕ) (s : SlotId) → node_at cell p depth ≡ Some s → IsPushed s
  unfolding node_at
  deep zero s is =
      let was = law.top s is in ((cell_live p cell s lawful is, law.nodes _ was), was)
  deep (suc depth) s is = below_one (node_at cell p depth) s is (deep depth)
