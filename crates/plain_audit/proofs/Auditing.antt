-- The audit of the image of a settled heap is the audit of its plain state.
use Rattle.std.proofs.Common.{◌≡◌, ◌≢◌, ℕ, ◌^◌, ◌<◌, nat_lt, List, [], length, refl, ap, sym, ◌∙◌, subst, arith, inl, inr}
use Rattle.std.specs.Prelude.{if◌then◌else◌, Result, Ok, Err, IfOk}
use Rattle.std.proofs.lemmas.Bool.{cases_lt, cond-true, cond-false, lt-ltb, le-ltb}
use Rattle.heap_audit.specs.plain_state.declared.image.Heap.{Heap}
use Rattle.heap_audit.specs.plain_state.declared.image.SlotImage.{SlotImage}
use Rattle.heap_audit.specs.plain_state.declared.slot.SlotId.{SlotId}
use Rattle.heap_audit.specs.plain_state.declared.slot.Stage.{Stage}
use Rattle.heap_audit.specs.plain_state.declared.slot.Stage.TheVariants.{Free, Blank, Live, Ended, Husk}
use Rattle.heap_audit.specs.plain_state.Images.{IsImage}
use Rattle.heap_audit.specs.plain_state.State.{Plain, slot_at, stage_at}
use Rattle.heap_audit.proofs.Below.plain_state_SeatRows.{is_there}
use Rattle.cdrc_plain.specs.plain_store.Heaps.{IsHeap}
use Rattle.cdrc_plain.specs.plain_store.Settling.{IsSettled}
use Rattle.heap_audit.specs.declared.finding.Audit.{Audit}
use Rattle.heap_audit.specs.Heaps.{slot, image_of, IsLive, has_no_zero, strong_count, weight_of}
use Rattle.heap_audit.specs.Heaps as words
use Rattle.heap_audit.specs.Reached as words_reached
use Rattle.heap_audit.specs.Reached.{HowMany}
use Rattle.heap_audit.specs.Walks.{IsFound, IsWalk}
use Rattle.heap_audit.proofs.Alike.{leads_alike, round_alike, found_alike, many_alike}
use Rattle.plain_audit.specs.Reached.{HasField, IsRoot, IsReached, IsUnreached}
use Rattle.plain_audit.specs.Audits.{if_live, live_slots, live_bytes, deferred_entries, IsAudit}
use Rattle.plain_audit.proofs.Numbers.{seat_alone, same_sums}
use Rattle.plain_audit.proofs.ImageNumbers.{fields_at, in_cells_is, in_deferred_is, entries_are, strong_count_is, live_to, live_from}

-- n where the stage is Live
live_stage : (n : ℕ) (stage : Stage) → stage ≡ Live → if_live n stage ≡ n
live_stage n stage e = ap (if_live n) e

pub other_stage : (n : ℕ) (stage : Stage) → stage ≢ Live → if_live n stage ≡ 0
other_stage n Free ne = refl
other_stage n Blank ne = refl
other_stage n Live ne = absurd (ne refl)
other_stage n Ended ne = refl
other_stage n Husk ne = refl

module _ (p : Plain) (image : Heap) (is : IsImage p image) (fits : List ℕ → Type 0) (heap : IsHeap fits p) (settled : IsSettled p) where
  -- a number that counts where a slot is Live
  count_at : (n : ℕ) (k : ℕ) → k < length p.slots → (if has_no_zero (image_of image (slot k)) then n else 0) ≡ if_live n (stage_at p (slot k))
  count_at n k lt =
      let word = (image_of image (slot k)).strong in
      elim (cases_lt word (2 ^ 63)) [
        | inl below ↦ cond-true (nat_lt word (2 ^ 63)) n 0 (lt-ltb word (2 ^ 63) below)
            ∙ sym (live_stage n (stage_at p (slot k)) (live_to p image is fits heap (slot k) (omega (arith, lt, is.size), below)))
        | inr above ↦ cond-false (nat_lt word (2 ^ 63)) n 0 (le-ltb word (2 ^ 63) above)
            ∙ sym (other_stage n (stage_at p (slot k)) (λ live. omega (arith, above, (live_from p image is fits heap settled (slot k) live).1)))
      ]

  live_is : words.live_slots image ≡ live_slots p
  live_is = same_sums (λ x. if has_no_zero x then 1 else 0) (λ x. if_live 1 x.stage) image.slots.items p.slots is.size (count_at 1)

  bytes_is : (weight : List ℕ → ℕ) → words.live_bytes weight image ≡ live_bytes weight p
  unfolding weight_of
  bytes_is weight =
      same_sums (weight_of weight) (λ x. if_live (weight x.payload) x.stage) image.slots.items p.slots is.size
      (λ k lt.
      let same : weight (image_of image (slot k)).payload ≡ weight (slot_at p (slot k)).payload = ap (λ (x : SlotImage). weight x.payload) (is.slots (slot k) lt) in
      count_at (weight (image_of image (slot k)).payload) k lt ∙ ap (λ (n : ℕ). if_live n (stage_at p (slot k))) same)

  deferred_is : length image.deferred.items ≡ deferred_entries p
  deferred_is = ap length is.deferred ∙ sym (seat_alone (λ v. length v.deferred) p heap.seats)

  -- fields, roots and what they lead to are alike
  field_to : (a b : SlotId) → words_reached.HasField image a b → HasField p a b
  field_to a b f = (live_to p image is fits heap a f.0, omega (arith, f.1, fields_at p image is b a (omega (arith, f.0.0, is.size))))

  field_from : (a b : SlotId) → HasField p a b → words_reached.HasField image a b
  field_from a b f =
      let live = f.0 in
      (live_from p image is fits heap settled a f.0, omega (arith, f.1, fields_at p image is b a (is_there p a (λ free. cc))))

  root_to : (s : SlotId) → words_reached.IsRoot image s → IsRoot p s
  root_to s root =
      let count = strong_count_is p image is fits heap s in
      let all = entries_are p image is fits heap s in
      let cells = in_cells_is p image is s in
      let deferred = in_deferred_is p image is fits heap s in
      elim root [ inl o ↦ omega (arith, o, count, all) | inr r ↦ elim r [ inl c ↦ omega (arith, c, cells) | inr d ↦ omega (arith, d, deferred) ] ]

  root_from : (s : SlotId) → IsRoot p s → words_reached.IsRoot image s
  root_from s root =
      let count = strong_count_is p image is fits heap s in
      let all = entries_are p image is fits heap s in
      let cells = in_cells_is p image is s in
      let deferred = in_deferred_is p image is fits heap s in
      elim (cases_lt 0 (words.in_cells image s)) [
        | inl c ↦ inr (inl c)
        | inr none ↦ elim (cases_lt 0 (words.in_deferred image s)) [
          | inl d ↦ inr (inr d)
          | inr nothing ↦ inl (omega (arith, root, none, nothing, count, all, cells, deferred))
        ]
      ]

  reached_to : (s : SlotId) → words_reached.IsReached image s → IsReached p s
  reached_to s r = (r.0, root_to r.0 r.1, leads_alike (words_reached.HasField image) (HasField p) field_to r.0 s r.2)

  reached_from : (s : SlotId) → IsReached p s → words_reached.IsReached image s
  reached_from s r = (r.0, root_from r.0 r.1, leads_alike (HasField p) (words_reached.HasField image) field_from r.0 s r.2)

  unreached_to : (s : SlotId) → words_reached.IsUnreached image s → IsUnreached p s
  unreached_to s u = (live_to p image is fits heap s u.0, λ r. u.1 (reached_from s r))

  unreached_from : (s : SlotId) → IsUnreached p s → words_reached.IsUnreached image s
  unreached_from s u = (live_from p image is fits heap settled s u.0, λ r. u.1 (reached_to s r))

  audit_is : (weight : List ℕ → ℕ) (ranks : List ℕ) (found : Audit)
      → found.live ≡ words.live_slots image → found.deferred ≡ length image.deferred.items → found.bytes ≡ words.live_bytes weight image
      → HowMany (λ n. words_reached.IsUnreached image (slot n)) (length image.slots.items) found.cyclic
      → (found.cyclic ≡ 0 → found.walk.items ≡ [])
      → (0 < found.cyclic → IsFound image ranks found.walk.items)
      → (0 < found.cyclic → IsWalk image found.walk.items)
      → IsAudit weight ranks p found
  audit_is weight ranks found live deferred bytes many none walk round = record {
    live = live ∙ live_is;
    deferred = deferred ∙ deferred_is;
    bytes = bytes ∙ bytes_is weight;
    cyclic = many_alike (λ n. words_reached.IsUnreached image (slot n)) (λ n. IsUnreached p (slot n)) (λ k. unreached_to (slot k)) (λ k. unreached_from (slot k))
        (length p.slots) found.cyclic
        (subst (λ (n : ℕ). HowMany (λ m. words_reached.IsUnreached image (slot m)) n found.cyclic) is.size many);
    none = none;
    walk = λ some. found_alike (words_reached.IsUnreached image) (IsUnreached p) (words_reached.HasField image) (HasField p) ranks
        unreached_to unreached_from field_to field_from found.walk.items (walk some);
    round = λ some. round_alike (words_reached.HasField image) (HasField p) field_to found.walk.items (round some);
  }

  -- an audit that was made, or was refused for an allocation failure
  pub audit_made : {E : Type 0} (weight : List ℕ → ℕ) (ranks : List ℕ) (r : Result Audit E)
      → IfOk r (λ found. found.live ≡ words.live_slots image) → IfOk r (λ found. found.deferred ≡ length image.deferred.items)
      → IfOk r (λ found. found.bytes ≡ words.live_bytes weight image)
      → IfOk r (λ found. HowMany (λ n. words_reached.IsUnreached image (slot n)) (length image.slots.items) found.cyclic)
      → IfOk r (λ found. found.cyclic ≡ 0 → found.walk.items ≡ [])
      → IfOk r (λ found. 0 < found.cyclic → IsFound image ranks found.walk.items)
      → IfOk r (λ found. 0 < found.cyclic → IsWalk image found.walk.items)
      → IfOk r (IsAudit weight ranks p)
  audit_made weight ranks (Ok found) live deferred bytes many none walk round = audit_is weight ranks found live deferred bytes many none walk round
  audit_made weight ranks (Err e) live deferred bytes many none walk round = tt
