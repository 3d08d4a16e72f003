-- What an audit of a map at rest finds.
use Rattle.std.proofs.Common.{◌≡◌, ◌⊎◌, inl, inr, ⊎_elim, ℕ, ◌<◌, ◌≤◌, List, length, refl, ap, sym, ◌∙◌, subst, arith, get_or, Option, Some, None}
use Rattle.std.specs.Prelude.{sum_by}
use Rattle.std.proofs.lemmas.Bool.{cases_lt}
use Rattle.std.proofs.lemmas.List.{get_or_past}
use Rattle.plain_audit.specs.plain_state.declared.slot.PlainSlot.{PlainSlot}
use Rattle.plain_audit.specs.plain_state.declared.slot.SlotId.{SlotId}
use Rattle.plain_audit.specs.plain_state.declared.slot.Stage.TheVariants.{Live}
use Rattle.plain_audit.specs.plain_state.Fits.{AllFit}
use Rattle.plain_audit.specs.plain_state.Lawful.{Lawful}
use Rattle.plain_audit.specs.plain_state.Lists.{cell_times, times}
use Rattle.plain_audit.specs.plain_state.References.{held_in}
use Rattle.plain_audit.specs.plain_state.State.{Plain, new_slot, slot_at, stage_at}
use Rattle.plain_audit.specs.heap_audit.declared.finding.Audit.{Audit}
use Rattle.plain_audit.specs.heap_audit.Heaps.{slot}
use Rattle.plain_audit.specs.heap_audit.Paths.{LeadsTo}
use Rattle.plain_audit.specs.heap_audit.Reached.{HowMany}
use Rattle.plain_audit.specs.Audits.{IsAudit, if_live, live_slots}
use Rattle.plain_audit.specs.Reached.{HasField, IsReached, IsRoot, IsUnreached}
use Rattle.plain_audit.proofs.Below.heap_audit_Going.{leads_on}
use Rattle.plain_audit.proofs.Below.heap_audit_Leasts.{many_none}
use Rattle.plain_audit.proofs.Below.plain_state_Kit.{cells_at, held_self}
use Rattle.record_counts.proofs.Added.{slots_listed}
use Rattle.record_counts.proofs.Listed.{members_same}
use Rattle.record_counts.proofs.Sums.{if_not_live, stage_live}
use Rattle.map_law.specs.map_trees.Trees.{Ascends, Tree, leaf, node, pairs}
use Rattle.map_law.specs.declared.view.View.{View}
use Rattle.map_law.specs.Nodes.{Inside, IsNode, TreeAt, key_at, root}
use Rattle.map_law.specs.Law.{MapLaw}
use Rattle.map_law.specs.Promises.{Remains}
use Rattle.map_law.proofs.OneTree.{one_tree}
use Rattle.map_law.proofs.Remains.{remains}
use Rattle.map_rest.specs.Rest.{FindsTree, Rests}
use Rattle.map_rest.proofs.Settled.{none_deferred, settled}
use Rattle.map_rest.proofs.Listed.{as_keys, as_many, belongs, keys_once, nodes, ones, stands}

module _ (c : ℕ) (p : Plain) (t : Tree) (at : TreeAt p (root p c) t) (up : Ascends (pairs t))
    (rest : Remains c p t) where
  -- HOW MANY LIVE
  abbrev weighs : SlotId → ℕ
  weighs s = if_live 1 (get_or p.slots s.0 new_slot).stage

  each : (s : SlotId) → (weighs s ≡ 0) ⊎ (times s (nodes p (root p c) t) ≡ 1)
  each s = ⊎_elim
      (λ (live : stage_at p s ≡ Live).
      let some = stands p (root p c) t s at (rest.inside s live) in
      let few = as_keys p (root p c) t s at in
      let once = keys_once (key_at p s) (pairs t) up in inr (omega arith))
      (λ not. inl (if_not_live 1 (stage_at p s) not))
      (stage_live (stage_at p s))

  pub as_many_live : live_slots p ≡ length (pairs t)
  as_many_live =
      slots_listed (λ (x : PlainSlot). if_live 1 x.stage) p.slots (nodes p (root p c) t) refl each
      ∙ (members_same weighs (λ (s : SlotId). 1) (nodes p (root p c) t)
      (λ s some. ap (if_live 1) (rest.lives s (belongs p (root p c) t s at some)))
      ∙ (ones (nodes p (root p c) t) ∙ as_many p (root p c) t at))

  -- EACH IS REACHED, from the root on
  leads : (s x : SlotId) → stage_at p x ≡ Live → (w : Option SlotId) → w ≡ Some s
      → ((slot_at p x).first ≡ w) ⊎ ((slot_at p x).second ≡ w) → HasField p x s
  leads s x live w is side = ⊎_elim
      (λ (e : (slot_at p x).first ≡ w).
      let one = ap (held_in s) (e ∙ is) ∙ held_self s in (live, omega arith))
      (λ (e : (slot_at p x).second ≡ w).
      let one = ap (held_in s) (e ∙ is) ∙ held_self s in (live, omega arith)) side

  reach : (r : SlotId) (w : Option SlotId) (u : Tree)
      → ((x : SlotId) → w ≡ Some x → LeadsTo (HasField p) r x)
      → ((x : SlotId) → Inside p w u x → stage_at p x ≡ Live)
      → (s : SlotId) → Inside p w u s → LeadsTo (HasField p) r s
  reach r w leaf to lives s inside = absurd inside
  reach r w (node k v h a b) to lives s (inl here) = to s here
  reach r w (node k v h a b) to lives s (inr below) =
      let x = below.0 in
      let live = lives x (inl below.1) in
      let from = to x below.1 in
      ⊎_elim
      (λ i. reach r (slot_at p x).first a
      (λ y is. leads_on (HasField p) r x y from (leads y x live (slot_at p x).first is (inl refl)))
      (λ y j. lives y (inr (x, below.1, inl j))) s i)
      (λ i. reach r (slot_at p x).second b
      (λ y is. leads_on (HasField p) r x y from (leads y x live (slot_at p x).second is (inr refl)))
      (λ y j. lives y (inr (x, below.1, inr j))) s i)
      below.2

  root_holds : (r : SlotId) → root p c ≡ Some r → IsRoot p r
  root_holds r is = ⊎_elim
      (λ (there : c < length p.cells).
      let least = cells_at r p.cells c there in
      let one = ap (held_in r) is ∙ held_self r in omega arith)
      (λ (past : length p.cells ≤ c).
      absurd (cc (sym is ∙ get_or_past p.cells c None past)))
      (cases_lt c (length p.cells))

  reached : (s : SlotId) → stage_at p s ≡ Live → IsReached p s
  reached s live = from (root p c) t refl (rest.inside s live)
    where
      from : (w : Option SlotId) (u : Tree) → root p c ≡ w → Inside p (root p c) t s → IsReached p s
      from None u is inside = absurd (nowhere t (subst (λ (w : Option SlotId). Inside p w t s) is inside))
        where
          nowhere : (u : Tree) → Inside p None u s → ⊥
          nowhere leaf i = i
          nowhere (node k v h a b) (inl i) = cc (i)
          nowhere (node k v h a b) (inr i) = cc (i.1)
      from (Some r) u is inside = (
        r,
        root_holds r is,
        reach r (root p c) t
            (λ x here. inl (cc (sym is ∙ here)))
            (λ x i. rest.lives x i) s inside,
      )

  pub none_unreached : (many : ℕ) → HowMany (λ n. IsUnreached p (slot n)) (length p.slots) many
      → many ≡ 0
  none_unreached many h = many_none (λ n. IsUnreached p (slot n)) (length p.slots) many
      (λ k un. un.1 (reached (slot k) un.0)) h

pub what_remains : (c : ℕ) (p : Plain) (views : List View) → Lawful p → MapLaw c p views
    → AllFit IsNode p → Rests c p → (t : Tree) → TreeAt p (root p c) t → Remains c p t
what_remains c p views lawful law fit rests =
    remains c p views lawful law (settled c p lawful fit rests)

pub finds_tree : (c : ℕ) (p : Plain) (views : List View) → Lawful p → MapLaw c p views
    → AllFit IsNode p → Rests c p → (t : Tree) → TreeAt p (root p c) t
    → (weight : List ℕ → ℕ) (ranks : List ℕ) (found : Audit) → IsAudit weight ranks p found
    → FindsTree t found
finds_tree c p views lawful law fit rests t at weight ranks found audit =
    let left = what_remains c p views lawful law fit rests t at in
    let up = subst (λ (u : Tree). Ascends (pairs u)) (one_tree p (root p c) law.tree t law.is at)
    law.shaped.0 in record {
      live = audit.live ∙ as_many_live c p t at up left;
      deferred = audit.deferred ∙ none_deferred c p rests;
      cyclic = none_unreached c p t at up left found.cyclic audit.cyclic;
    }
