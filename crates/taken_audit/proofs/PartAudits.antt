-- The audit of a part of a settled heap, its walk taken back to the slots in these places, is the audit of the state.
use Rattle.std.proofs.Common.{◌≡◌, ◌≢◌, ℕ, zero, suc, ◌^◌, ◌<◌, ◌≤◌, nat_lt, Bool, true, false, List, [], ◌∷◌, length, map, sum_by, refl, ap, sym, ◌∙◌, subst, arith, inl, inr}
use Rattle.std.specs.Prelude.{if◌then◌else◌, slice_index, Result, Ok, Err, IfOk}
use Rattle.std.proofs.lemmas.Bool.{cases_lt, cond-true, cond-false, lt-ltb, le-ltb}
use Rattle.std.proofs.lemmas.List.{length-map}
use Rattle.plain_audit.specs.plain_state.declared.image.Heap.{Heap}
use Rattle.plain_audit.specs.plain_state.declared.image.SlotImage.{SlotImage}
use Rattle.plain_audit.specs.plain_state.declared.slot.PlainSlot.{PlainSlot}
use Rattle.plain_audit.specs.plain_state.declared.slot.SlotId.{SlotId}
use Rattle.plain_audit.specs.plain_state.declared.slot.Stage.TheVariants.{Free, Live}
use Rattle.plain_audit.specs.plain_state.Images.{free_image, image_at}
use Rattle.plain_audit.specs.plain_state.References.{strong_fields, strong_refs}
use Rattle.plain_audit.specs.plain_state.State.{Plain, slot_at, stage_at}
use Rattle.plain_audit.specs.plain_state.declared.act.EventPlace.TheVariants.{Field}
use Rattle.heap_audit.proofs.Below.plain_state_Changes.{place_part}
use Rattle.heap_audit.proofs.Below.plain_state_SeatRows.{is_there}
use Rattle.plain_audit.specs.plain_store.Heaps.{IsHeap}
use Rattle.plain_audit.specs.plain_store.Settling.{IsSettled}
use Rattle.heap_audit.proofs.Holding.{held_named}
use Rattle.plain_audit.specs.heap_audit.declared.finding.Audit.{Audit}
use Rattle.plain_audit.specs.heap_audit.Heaps.{fields_holding, has_no_zero, held, image_of, slot, weight_of}
use Rattle.plain_audit.specs.heap_audit.Heaps as words
use Rattle.plain_audit.specs.heap_audit.Paths.{LeadsTo, Path}
use Rattle.plain_audit.specs.heap_audit.Reached as words_reached
use Rattle.plain_audit.specs.heap_audit.Reached.{HowMany}
use Rattle.plain_audit.specs.heap_audit.Walks.{GoesRound, IsFound, IsFoundAmong, IsWalk, rank_of}
use Rattle.plain_audit.specs.Audits.{IsAudit, deferred_entries, if_live, live_bytes, live_slots}
use Rattle.plain_audit.specs.Reached.{HasField, IsReached, IsRoot, IsUnreached}
use Rattle.plain_audit.proofs.Auditing.{other_stage}
use Rattle.plain_audit.proofs.Numbers.{seat_alone}
use Rattle.taken_audit.specs.Parts.{AreRanks, IsPart, Stands, named_slots}
use Rattle.taken_audit.specs.Placed.{at, placed_image}
use Rattle.acquire_retire.specs.Taken.{is_taken, taken_slots}
use Rattle.taken_audit.proofs.Counted.{entries_are, fields_at, image_is, in_cells_is, in_deferred_is, inside, live_from, live_to, rises, size, strong_count_is, sum_maps}
use Rattle.taken_audit.proofs.Given.{every, stands_here}
use Rattle.taken_audit.proofs.Listed.{many_taken, sum_taken}
use Rattle.taken_audit.proofs.Mapped.{found_mapped, leads_mapped, round_mapped}
use Rattle.taken_audit.proofs.Named.{Every}
use Rattle.taken_audit.proofs.PartLaws.{part_in_range}
use Rattle.taken_audit.proofs.Places.{place_once}

module _ (p : Plain) (fits : List ℕ → Type 0) (heap : IsHeap fits p) (settled : IsSettled p)
    (part : Heap) (is : IsPart p (taken_slots p) part) where
  abbrev many : ℕ
  many = length (taken_slots p)

  abbrev up : SlotId → SlotId
  up s = at (taken_slots p) s.0

  abbrev In : SlotId → Type 0
  In s = s.0 < many

  live_in : (s : SlotId) → words.IsLive part s → In s
  live_in s live = let count = size p fits heap part is in let l = live.0 in omega (arith, l, count)

  -- what lives stands in the list
  live_stands : (s : SlotId) → stage_at p s ≡ Live → Stands (taken_slots p) s
  live_stands s live = stands_here p s (λ free. cc)

  -- fields
  field_end : (a b : SlotId) → words_reached.HasField part a b → In b
  unfolding fields_holding
  field_end a b f =
      let count = size p fits heap part is in
      let range = part_in_range p fits heap part is in
      let within = range.fields a.0 free_image f.0.0 in
      let first = within.first in
      let second = within.second in
      elim (cases_lt 0 (held b (slice_index (image_of part a).fields 0))) [
        | inl some ↦
            let e = held_named b (slice_index (image_of part a).fields 0) some in
            omega (arith, e, first, count)
        | inr none ↦
            let e = held_named b (slice_index (image_of part a).fields 1) (second_holds f.1 none) in
            omega (arith, e, second, count)
      ]
    where
      second_holds : 0 < fields_holding b (image_of part a)
          → held b (slice_index (image_of part a).fields 0) ≤ 0
          → 0 < held b (slice_index (image_of part a).fields 1)
      second_holds some none = omega (arith, some, none)

  field_up : (a b : SlotId) → words_reached.HasField part a b → HasField p (up a) (up b)
  field_up a b f =
      let ha = live_in a f.0 in
      let hb = field_end a b f in
      let same = fields_at p fits heap part is b.0 hb a.0 ha in
      let some = f.1 in
      (live_to p fits heap part is a.0 ha f.0, omega (arith, some, same))

  field_back : (a b : SlotId) → In a → In b → HasField p (up a) (up b)
      → words_reached.HasField part a b
  field_back a b ha hb f =
      let same = fields_at p fits heap part is b.0 hb a.0 ha in
      let some = f.1 in
      (live_from p fits heap part is a.0 ha settled f.0, omega (arith, some, same))

  -- what a field of the state holds stands in the list
  held_stands : (a b : SlotId) → HasField p a b → Stands (taken_slots p) b
  held_stands a b f =
      let there = is_there p a (λ free. let live = f.0 in cc) in
      let some = f.1 in
      let first = place_part p (Field a 0) b there in
      let second = place_part p (Field a 1) b there in
      live_stands b (heap.sound.lawful.strong b (omega (arith, some, first, second))).0

  -- roots
  root_up : (a : SlotId) → In a → words_reached.IsRoot part a → IsRoot p (up a)
  root_up a ha root =
      let count = strong_count_is p fits heap part is a.0 ha in
      let all = entries_are p fits heap part is a.0 ha in
      let cells = in_cells_is p fits heap part is a.0 ha in
      let deferred = in_deferred_is p fits heap part is a.0 ha in
      elim root [
        | inl o ↦ omega (arith, o, count, all)
        | inr r ↦ elim r [ inl c ↦ omega (arith, c, cells) | inr d ↦ omega (arith, d, deferred) ]
      ]

  root_back : (a : SlotId) → In a → IsRoot p (up a) → words_reached.IsRoot part a
  root_back a ha root =
      let count = strong_count_is p fits heap part is a.0 ha in
      let all = entries_are p fits heap part is a.0 ha in
      let cells = in_cells_is p fits heap part is a.0 ha in
      let deferred = in_deferred_is p fits heap part is a.0 ha in
      elim (cases_lt 0 (words.in_cells part a)) [
        | inl c ↦ inr (inl c)
        | inr none ↦ elim (cases_lt 0 (words.in_deferred part a)) [
          | inl d ↦ inr (inr d)
          | inr nothing ↦ inl (omega (arith, root, none, nothing, count, all, cells, deferred))
        ]
      ]

  root_stands : (s : SlotId) → IsRoot p s → Stands (taken_slots p) s
  root_stands s root =
      live_stands s (heap.sound.lawful.strong s (omega (arith, root))).0

  -- what leads to a place begins in one
  leads_in : (a b : SlotId) → In b → LeadsTo (words_reached.HasField part) a b → In a
  leads_in a b hb leads = elim leads [
    | inl same ↦ subst In (sym same) hb
    | inr p ↦ first_in a p.0 b p.1
  ]
    where
      first_in : (x : SlotId) (ys : List SlotId) (z : SlotId)
          → Path (words_reached.HasField part) x ys z → In x
      first_in x [] z path = live_in x path.0
      first_in x (y ∷ ys) z path = live_in x path.0.0

  -- a path of the state from a place is one of places
  path_back : (a : SlotId) → In a → (s : SlotId) → up a ≡ s → (ys : List SlotId) (t : SlotId)
      → Path (HasField p) s ys t
      → (b : SlotId) × In b × (up b ≡ t)
      × ((zs : List SlotId) × Path (words_reached.HasField part) a zs b)
  path_back a ha s same [] t f =
      let b = held_stands s t f in
      let from : HasField p (up a) (up (slot b.0)) =
      subst (λ (x : SlotId). HasField p x (up (slot b.0))) (sym same)
      (subst (HasField p s) (sym b.2) f) in
      (slot b.0, b.1, b.2, ([], field_back a (slot b.0) ha b.1 from))
  path_back a ha s same (y ∷ ys) t path =
      let b = held_stands s y path.0 in
      let from : HasField p (up a) (up (slot b.0)) =
      subst (λ (x : SlotId). HasField p x (up (slot b.0))) (sym same)
      (subst (HasField p s) (sym b.2) path.0) in
      let rest = path_back (slot b.0) b.1 y b.2 ys t path.1 in
      (rest.0, rest.1, rest.2, (slot b.0 ∷ rest.3.0, (field_back a (slot b.0) ha b.1 from, rest.3.1)))

  once : (a b : SlotId) → In a → In b → up a ≡ up b → a ≡ b
  once a b ha hb same = λ i. record {
    0 = place_once 0 (length p.slots) (taken_slots p) a.0 b.0 (rises p fits heap part is) ha hb
        (ap (λ (x : SlotId). x.0) same) i;
  }

  -- reached
  reached_up : (a : SlotId) → In a → words_reached.IsReached part a → IsReached p (up a)
  reached_up a ha r = (
    up r.0,
    root_up r.0 (leads_in r.0 a ha r.2) r.1,
    leads_mapped (words_reached.HasField part) (HasField p) up field_up r.0 a r.2,
  )

  reached_back : (a : SlotId) → In a → IsReached p (up a) → words_reached.IsReached part a
  reached_back a ha r =
      let root = root_stands r.0 r.1 in
      let begin : SlotId = slot root.0 in
      let is_root = root_back begin root.1 (subst (IsRoot p) (sym root.2) r.1) in
      elim r.2 [
        | inl same ↦
            let e = once begin a root.1 ha (root.2 ∙ same) in
            (begin, is_root, inl e)
        | inr path ↦
            let back = path_back begin root.1 r.0 root.2 path.0 (up a) path.1 in
            let e = once back.0 a back.1 ha back.2 in (
              begin,
              is_root,
              inr (
                back.3.0,
                subst (λ (x : SlotId). Path (words_reached.HasField part) begin back.3.0 x) e back.3.1,
              ),
            )
      ]

  unreached_up : (a : SlotId) → In a → words_reached.IsUnreached part a → IsUnreached p (up a)
  unreached_up a ha u = (live_to p fits heap part is a.0 ha u.0, λ r. u.1 (reached_back a ha r))

  unreached_back : (a : SlotId) → In a → IsUnreached p (up a) → words_reached.IsUnreached part a
  unreached_back a ha u =
      (live_from p fits heap part is a.0 ha settled u.0, λ r. u.1 (reached_up a ha r))

  unreached_onto : (t : SlotId) → IsUnreached p t
      → (a : SlotId) × words_reached.IsUnreached part a × (up a ≡ t)
  unreached_onto t u =
      let stands = live_stands t u.0 in (
        slot stands.0,
        unreached_back (slot stands.0) stands.1 (subst (IsUnreached p) (sym stands.2) u),
        stands.2,
      )

  -- sums
  count_at : (n : ℕ) (k : ℕ) → k < many
      → (if has_no_zero (image_of part (slot k)) then n else 0)
      ≡ if_live n (stage_at p (at (taken_slots p) k))
  count_at n k lt =
      let word = (image_of part (slot k)).strong in
      let count = size p fits heap part is in
      elim (cases_lt word (2 ^ 63)) [
        | inl below ↦
            let live = live_to p fits heap part is k lt (omega (arith, lt, count), below) in
            cond-true (nat_lt word (2 ^ 63)) n 0 (lt-ltb word (2 ^ 63) below)
            ∙ sym (ap (if_live n) live)
        | inr above ↦
            cond-false (nat_lt word (2 ^ 63)) n 0 (le-ltb word (2 ^ 63) above)
            ∙ sym (other_stage n (stage_at p (at (taken_slots p) k))
            (λ live. let from = live_from p fits heap part is k lt settled live in
            let f = from.1 in omega (arith, above, f)))
      ]

  live_is : words.live_slots part ≡ live_slots p
  live_is =
      ap (sum_by (λ (x : SlotImage). if has_no_zero x then 1 else 0)) is.slots
      ∙ (sum_maps (λ (x : SlotImage). if has_no_zero x then 1 else 0)
      (λ s. if_live 1 (stage_at p s)) (image_at p) (placed_image (taken_slots p)) (taken_slots p)
      (every (λ s. (if has_no_zero (placed_image (taken_slots p) (image_at p s)) then 1 else 0)
      ≡ if_live 1 (stage_at p s)) (slot 0) (taken_slots p)
      (λ k lt.
      sym (ap (λ (x : SlotImage). if has_no_zero x then 1 else 0)
      (image_is p fits heap part is k lt))
      ∙ count_at 1 k lt))
      ∙ sum_taken p (λ x. if_live 1 x.stage) (λ s free. ap (if_live 1) free))

  bytes_is : (weight : List ℕ → ℕ) → words.live_bytes weight part ≡ live_bytes weight p
  unfolding weight_of
  bytes_is weight =
      ap (sum_by (weight_of weight)) is.slots
      ∙ (sum_maps (weight_of weight) (λ s. if_live (weight (slot_at p s).payload) (stage_at p s))
      (image_at p) (placed_image (taken_slots p)) (taken_slots p)
      (every (λ s. weight_of weight (placed_image (taken_slots p) (image_at p s))
      ≡ if_live (weight (slot_at p s).payload) (stage_at p s)) (slot 0) (taken_slots p)
      (λ k lt.
      let same = image_is p fits heap part is k lt in
      sym (ap (weight_of weight) same)
      ∙ (count_at (weight (image_of part (slot k)).payload) k lt
      ∙ ap (λ (x : SlotImage). if_live (weight x.payload) (stage_at p (at (taken_slots p) k))) same)))
      ∙ sum_taken p (λ x. if_live (weight x.payload) x.stage)
      (λ s free. ap (if_live (weight (slot_at p s).payload)) free))

  deferred_is : length part.deferred.items ≡ deferred_entries p
  deferred_is =
      ap length is.deferred
      ∙ (length-map _ _ ∙ sym (seat_alone (λ v. length v.deferred) p heap.seats))

  pub audit_is : (weight : List ℕ → ℕ) (places ranks : List ℕ) → AreRanks (taken_slots p) places ranks
      → (found told : Audit) → told.live ≡ found.live → told.deferred ≡ found.deferred
      → told.cyclic ≡ found.cyclic → told.bytes ≡ found.bytes
      → told.walk.items ≡ named_slots (taken_slots p) found.walk.items
      → found.live ≡ words.live_slots part → found.deferred ≡ length part.deferred.items
      → found.bytes ≡ words.live_bytes weight part
      → HowMany (λ n. words_reached.IsUnreached part (slot n)) (length part.slots.items) found.cyclic
      → (found.cyclic ≡ 0 → found.walk.items ≡ [])
      → (0 < found.cyclic → IsFound part places found.walk.items)
      → (0 < found.cyclic → IsWalk part found.walk.items)
      → IsAudit weight ranks p told
  audit_is weight places ranks are found told same_live same_deferred same_cyclic same_bytes same_walk
      live deferred bytes counted none walk round = record {
        live = same_live ∙ (live ∙ live_is);
        deferred = same_deferred ∙ (deferred ∙ deferred_is);
        bytes = same_bytes ∙ (bytes ∙ bytes_is weight);
        cyclic = subst (HowMany (λ n. IsUnreached p (slot n)) (length p.slots)) (sym same_cyclic)
            (many_taken p (λ n. words_reached.IsUnreached part (slot n)) (λ n. IsUnreached p (slot n))
            (λ k free u. let live = u.0 in cc) (length p.slots) found.cyclic
            (λ k lt u. unreached_up (slot k) lt u) (λ k lt u. unreached_back (slot k) lt u)
            (subst (λ (n : ℕ). HowMany (λ m. words_reached.IsUnreached part (slot m)) n found.cyclic)
            (size p fits heap part is) counted));
        none = λ zero. same_walk ∙ ap (named_slots (taken_slots p)) (none (sym same_cyclic ∙ zero));
        walk = λ some.
            let had : 0 < found.cyclic = omega (arith, some, same_cyclic) in
            subst (λ (w : List SlotId). IsFoundAmong (IsUnreached p) (HasField p) ranks w)
            (sym same_walk)
            (found_mapped In up (words_reached.IsUnreached part) (IsUnreached p)
            (words_reached.HasField part) (HasField p) places ranks
            (λ a u. live_in a u.0) (λ a b f. live_in a f.0) field_end
            (λ a u. unreached_up a (live_in a u.0) u) unreached_onto field_up field_back
            (λ a ha. are a.0 ha) once found.walk.items (walk had) (round had));
        round = λ some.
            let had : 0 < found.cyclic = omega (arith, some, same_cyclic) in
            subst (GoesRound (HasField p)) (sym same_walk)
            (round_mapped (words_reached.HasField part) (HasField p) up field_up found.walk.items
            (round had));
      }
