-- No node is left: it would be referred to from field 0 of a node, and that one too, without end.
use Rattle.std.proofs.Common.{◌≡◌, ◌⊎◌, inr, ⊎_elim, ℕ, zero, suc, ◌<◌, ◌≤◌, List, [], ◌∷◌, length, refl, ap, sym, subst, ◌∙◌, arith, Some, None}
use Rattle.std.proofs.lemmas.Bool.{cases_eq}
use Rattle.plain_audit.specs.plain_state.declared.act.EventPlace.TheVariants.{Cell}
use Rattle.plain_audit.specs.plain_state.declared.act.PlainAct.{PlainAct}
use Rattle.plain_audit.specs.plain_state.declared.slot.Kind.TheVariants.{Strong}
use Rattle.plain_audit.specs.plain_state.declared.slot.SlotId.{SlotId}
use Rattle.plain_audit.specs.plain_state.Lawful.{Lawful}
use Rattle.plain_audit.specs.plain_state.Lists.{times}
use Rattle.plain_audit.specs.plain_state.Places.{content}
use Rattle.plain_audit.specs.plain_state.References.{held_in, strong_fields}
use Rattle.plain_audit.specs.plain_state.State.{Plain, no_payload, seat_at, slot_at}
use Rattle.plain_audit.specs.plain_state.Steps.{Does, word_of}
use Rattle.plain_audit.proofs.Below.plain_state_Kit.{none_or_some}
use Rattle.plain_audit.specs.plain_protocol.Acts.{IsCalm}
use Rattle.plain_audit.specs.plain_protocol.Laws.{Meets}
use Rattle.plain_audit.proofs.Below.plain_protocol_Calm.{calm_leaves}
use Rattle.words_law.specs.queue_law.declared.view.View.{View as QueueView}
use Rattle.words_law.specs.queue_law.Views as queue
use Rattle.words_law.specs.queue_law.Chain.{Ends}
use Rattle.words_law.specs.queue_law.Law.{QueueLaw}
use Rattle.words_law.specs.queue_law.Promises.{Far}
use Rattle.words_law.specs.queue_law.Words.{code}
use Rattle.words_law.proofs.Below.queue_law_Cycles.{law_no_cycle}
use Rattle.words_law.proofs.Below.queue_law_Kit.{word_none}
use Rattle.words_law.specs.directory_law.Cells.{Area}
use Rattle.words_law.specs.directory_law.Chains.{OwnSlot}
use Rattle.words_law.specs.directory_law.Payloads.{IsOwn}
use Rattle.words_law.proofs.Below.directory_law_Bytes.{zeros_not_own}
use Rattle.words_law.proofs.Below.directory_law_Chains.{pointed_own}
use Rattle.words_law.proofs.Below.directory_law_Kit.{none_some}
use Rattle.plain_audit.specs.heap_audit.declared.finding.Audit.{Audit}
use Rattle.plain_audit.specs.heap_audit.Heaps.{slot}
use Rattle.plain_audit.specs.heap_audit.Paths.{Path}
use Rattle.plain_audit.specs.heap_audit.Reached.{HowMany}
use Rattle.plain_audit.specs.Audits.{IsAudit}
use Rattle.plain_audit.specs.Reached.{HasField, IsReached, IsUnreached}
use Rattle.words_law.specs.Law.{WordsLaw}
use Rattle.words_law.specs.Texts.{AllPieces}
use Rattle.words_law.specs.Views.{View, directories, queues}
use Rattle.words_rest.specs.Nodes.{HasNoNode, HasNoNodeAsItem, IsAllReached, IsLiveNode}
use Rattle.words_rest.specs.Rest.{IsLeft}
use Rattle.record_counts.proofs.Finite.{going_back}
use Rattle.record_counts.proofs.Living.{live_low}
use Rattle.record_counts.proofs.Sums.{held_some}
use Rattle.words_rest.proofs.Heads.{live_kind, owned_head}
use Rattle.words_rest.proofs.Referring.{no_cell, no_deferral, owned_all, referrer, refs_are}

-- where just none of the first numbers has a property
many_zero : (P : ℕ → Type 0) (n many : ℕ) → many ≡ 0 → HowMany P n many → (k : ℕ) → k < n
    → P k → ⊥
many_zero P zero many none is k lt has = omega (arith, lt)
many_zero P (suc n) many none is k lt has = ⊎_elim
    (λ one. let wrong = one.3 in omega arith)
    (λ other. ⊎_elim
    (λ (last : k ≡ n). other.0 (subst P last has))
    (λ ne. many_zero P n many none other.1 k (omega arith) has)
    (cases_eq k n))
    is

-- no node is a slot of the directory
pub node_not_own : (p : Plain) (s : SlotId) → OwnSlot p s → (slot_at p s).payload ≡ no_payload → ⊥
node_not_own p s own node = zeros_not_own (subst IsOwn node own.own)

abbrev First : Plain → SlotId → SlotId → Type 0
First p x y = (slot_at p x).first ≡ Some y

path_far : (p : Plain) (x : SlotId) (ys : List SlotId) (y : SlotId) → Path (First p) x ys y
    → (d : ℕ) × Far p (suc d) x.0 y.0
path_far p x [] y h = (0, (y.0, ap word_of h, refl))
path_far p x (w ∷ ys) y h =
    let r = path_far p w ys y h.1 in (suc r.0, (w.0, ap word_of h.0, r.1))

module _ (u : Ends) (z : Area) (p : Plain) (views : List View)
    (meets : Meets (WordsLaw u z) p views) (fit : AllPieces p) (left : IsLeft p views) where
  acyclic : (s : SlotId) (ys : List SlotId) → IsLiveNode p s → Path (First p) s ys s → ⊥
  acyclic s ys node path =
      let far = path_far p s ys s path in
      law_no_cycle u p (queues views) meets.law.both.0.0 s.0 far.0 (ap code node.0) node.1 far.1

  -- what seat 0 owns is a slot of the directory
  owned_own : (s : SlotId) → 0 < times s (seat_at p 0).owned → OwnSlot p s
  owned_own s own =
      let head = owned_head z p views meets.lawful meets.law.both.1 left s own in
      let live = (meets.lawful.strong s (omega (arith, own, refs_are p views left s))).0 in
      ⊎_elim
      (λ (node : IsLiveNode p s).
      absurd (zeros_not_own (subst IsOwn node.1 (head.0))))
      (λ (is : OwnSlot p s). is)
      (live_kind p fit s live)

  -- what a slot of the directory leads to is one
  own_leads : (t s : SlotId) → OwnSlot p t → 0 < strong_fields s (slot_at p t) → OwnSlot p s
  own_leads t s own some = ⊎_elim
      (λ (none : held_in s (slot_at p t).first ≡ 0).
      let at = held_some s (slot_at p t).second (omega arith) in
      pointed_own z p (directories views) s meets.lawful meets.law.both.1 (t, own, at))
      (λ (has : 0 < held_in s (slot_at p t).first).
      let null = (meets.law.both.1.shape t own).0 in
      absurd (none_some s (sym null ∙ held_some s (slot_at p t).first has)))
      (none_or_some (held_in s (slot_at p t).first))

  step : HasNoNodeAsItem p → (s : SlotId) → IsLiveNode p s
      → ⊥ ⊎ ((t : SlotId) × IsLiveNode p t × First p t s × (⊥ → ⊥))
  step items s node = ⊎_elim
      (λ (none : times s (seat_at p 0).owned ≡ 0).
      let live = left.rests.live s node.0 in
      let are = refs_are p views left s in
      let r = referrer p views left s meets.lawful (omega arith) in
      ⊎_elim
      (λ (before : IsLiveNode p r.0). ⊎_elim
      (λ (first : First p r.0 s). inr (r.0, before, first, λ wrong. wrong))
      (λ second. absurd (items r.0 s before second node))
      r.2)
      (λ (own : OwnSlot p r.0). ⊎_elim
      (λ (first : First p r.0 s).
      absurd (none_some s (sym (meets.law.both.1.shape r.0 own).0 ∙ first)))
      (λ second. absurd (node_not_own p s
      (pointed_own z p (directories views) s meets.lawful meets.law.both.1 (r.0, own, second))
      node.1))
      r.2)
      (live_kind p fit r.0 r.1))
      (λ (own : 0 < times s (seat_at p 0).owned).
      absurd (node_not_own p s (owned_own s own) node.1))
      (none_or_some (times s (seat_at p 0).owned))

  pub no_node : HasNoNodeAsItem p → HasNoNode p
  no_node items s node =
      going_back (length p.slots) (IsLiveNode p) (First p) (λ t. ⊥)
      (λ t is. live_low p t is.0) acyclic (step items) s node

  -- along strong fields, slots of the directory alone are reached
  own_along : (x : SlotId) (ys : List SlotId) (y : SlotId) → OwnSlot p x → Path (HasField p) x ys y
      → OwnSlot p y
  own_along x [] y own path = own_leads x y own path.1
  own_along x (w ∷ ys) y own path = own_along w ys y (own_leads x w own path.0.1) path.1

  reached_own : (s : SlotId) → IsReached p s → OwnSlot p s
  reached_own s (root, is, leads) =
      let all = owned_all p views left root in
      let cell = no_cell p views left root in
      let waits = no_deferral p views left Strong root in
      let own = owned_own root (omega arith) in
      ⊎_elim
      (λ (here : root ≡ s). subst (OwnSlot p) here own)
      (λ path. own_along root path.0 s own path.1)
      leads

  pub no_node_reached : IsAllReached p → HasNoNode p
  no_node_reached all s node =
      all s (node.0, λ reached. node_not_own p s (reached_own s reached) node.1)

  pub no_node_audited : (weight : List ℕ → ℕ) (ranks : List ℕ) (found : Audit)
      → IsAudit weight ranks p found → found.cyclic ≡ 0 → HasNoNode p
  no_node_audited weight ranks found is none = no_node_reached (λ s un.
      many_zero (λ n. IsUnreached p (slot n)) (length p.slots) found.cyclic none is.cyclic s.0
      (live_low p s un.0) un)

-- and none comes by a calm step
pub no_node_comes : (p q : Plain) (n : ℕ) (step : PlainAct) (found : ℕ) → Lawful p → IsCalm step
    → Does p n step found q → HasNoNode p → HasNoNode q
no_node_comes p q n step found lawful calm does none s node =
    let kept = (calm_leaves p q n step found lawful calm does).slots s in
    let live = kept.live node.0 in
    none s (live, sym (kept.payload live) ∙ node.1)

-- the head cell of a queue that was shut is null
pub shut_null : (u : Ends) (p : Plain) (views : List QueueView) → QueueLaw u p views
    → 3 ≤ (queue.view_at views 0).stand.laid → content p (Cell u.head) ≡ None
shut_null u p views law laid = word_none (content p (Cell u.head)) (law.3.phase.shut laid).0
