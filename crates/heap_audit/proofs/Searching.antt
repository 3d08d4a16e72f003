-- A search along holders, from the unreached slot of least rank.
use Rattle.std.proofs.Common.{◌≡◌, ℕ, ◌<◌, List, [], ◌∷◌, ◌++◌, length, Bool, true, false, Option, None, IsSome, All, arith, sym, ◌∙◌, ap, subst, inl, inr}
use Rattle.std.specs.List.{AllPairs}
use Rattle.std.proofs.lemmas.Bool.{cases_lt, false≢true}
use Rattle.std.proofs.lemmas.List.{get_or_past}
use Rattle.std.proofs.lemmas.List.Elements.{All-nil, All-cons}
use Rattle.deleter.specs.plain_state.declared.slot.SlotId.{SlotId}
use Rattle.deleter.specs.plain_state.declared.image.Heap.{Heap}
use Rattle.heap_audit.specs.Heaps.{IsLawful}
use Rattle.heap_audit.specs.Paths.{Path}
use Rattle.heap_audit.specs.Reached.{HasField, IsUnreached}
use Rattle.heap_audit.specs.Walks.{IsLeast, GoesTo, IsFound}
use Rattle.heap_audit.specs.Marking.{is_marked, Adds, IsMarking}
use Rattle.heap_audit.specs.Tables.{AreHolders, LeadsBy, Searched, TurnsRound, IsLeastIfAny, holder_at}
use Rattle.heap_audit.proofs.Going.{path_push, path_map}
use Rattle.heap_audit.proofs.Lawfulness.{unreached_held}
use Rattle.heap_audit.proofs.Leasts.{best_some}

-- the search came to these slots, and is at present here
abbrev pub OnTrail : List (Option SlotId) → SlotId → List SlotId → SlotId → Type 0
OnTrail holders start slots present = (rest : List SlotId) × (slots ≡ start ∷ rest) × Path (LeadsBy holders) start rest present

-- a slot that isn't marked is added at the end
pub added_last : (marks : List Bool) (slots : List SlotId) (s : SlotId) (marks' : List Bool) (slots' : List SlotId)
    → is_marked marks s ≡ false → Adds marks slots s marks' slots' → slots' ≡ slots ++ s ∷ []
added_last marks slots s marks' slots' free adds = elim adds [ inl old ↦ absurd (false≢true (sym free ∙ old.0)) | inr new ↦ new.2 ]

module _ (holders : List (Option SlotId)) (start : SlotId) where
  pub trail_first : (slots : List SlotId) (present : SlotId) → slots ≡ [] ++ start ∷ [] → LeadsBy holders start present → OnTrail holders start slots present
  trail_first slots present e l = ([], e, l)

  pub trail_more : (slots slots' : List SlotId) (present next : SlotId) → slots' ≡ slots ++ present ∷ [] → LeadsBy holders present next
      → OnTrail holders start slots present → OnTrail holders start slots' next
  trail_more slots slots' present next e l on =
      (on.0 ++ present ∷ [], e ∙ ap (λ (ss : List SlotId). ss ++ present ∷ []) on.1, path_push (LeadsBy holders) start on.0 present next on.2 l)

  pub searched : (marks : List Bool) (slots : List SlotId) (again : SlotId) → IsMarking marks slots → is_marked marks again ≡ true
      → OnTrail holders start slots again → Searched holders start slots again
  searched marks slots again is came on = record { rest = on.0; begins = on.1; goes = on.2; once = is.once; came = is.listed again came }

module _ (heap : Heap) (ranks : List ℕ) (holders : List (Option SlotId)) (are : AreHolders heap ranks holders) where
  -- only a slot of the heap has a holder
  led_within : (s t : SlotId) → LeadsBy holders s t → s.0 < length heap.slots.items
  led_within s t l = elim (cases_lt s.0 (length heap.slots.items)) [
    | inl h ↦ h
    | inr g ↦ absurd (let past = get_or_past holders s.0 None (omega (arith, are.size, g)) in cc)
  ]

  goes_by : (s t : SlotId) → LeadsBy holders s t → GoesTo (IsUnreached heap) (HasField heap) ranks s t
  goes_by s t l = subst (IsLeastIfAny ranks (λ u. IsUnreached heap u × HasField heap u s)) l (are.least s (led_within s t l))

  pub leads_within : (s t : SlotId) → LeadsBy holders s t → t.0 < length holders
  leads_within s t l = let goes = goes_by s t l in omega (arith, are.size, goes.0.0.0.0)

  pub is_held : IsLawful heap → (s : SlotId) → IsUnreached heap s → IsSome (holder_at holders s)
  is_held law s un =
      let by = unreached_held heap s law un in
      best_some ranks (λ u. IsUnreached heap u × HasField heap u s) (holder_at holders s) by.0 (are.least s un.0.0) (by.1, by.2)

  pub leads_on_held : IsLawful heap → (s t : SlotId) → LeadsBy holders s t → IsSome (holder_at holders t)
  leads_on_held law s t l = is_held law t (goes_by s t l).0.0

  -- all slots of the search are slots of the heap
  pub all_within : (x : SlotId) (ys : List SlotId) (z : SlotId) → x.0 < length heap.slots.items → Path (LeadsBy holders) x ys z → All (λ s. s.0 < length heap.slots.items) (x ∷ ys)
  all_within x [] z h p = let P : SlotId → Type 0 = λ s. s.0 < length heap.slots.items in All-cons P x [] h (All-nil P)
  all_within x (y ∷ ys) z h p =
      let P : SlotId → Type 0 = λ s. s.0 < length heap.slots.items in
      let next = leads_within x y p.0 in
      All-cons P x (y ∷ ys) h (all_within y ys z (omega (arith, next, are.size)) p.1)

  pub found : (start again : SlotId) (slots walk : List SlotId) → IsLeast ranks (IsUnreached heap) start → Searched holders start slots again → TurnsRound ranks slots again walk → IsFound heap ranks walk
  found start again slots walk least search turn = record {
    start = start;
    least = least;
    rest = search.rest;
    again = again;
    goes = path_map (λ (s : SlotId). Unit {0}) (LeadsBy holders) (GoesTo (IsUnreached heap) (HasField heap) ranks) (λ a b h l. (goes_by a b l, tt)) start search.rest again tt search.goes;
    once = subst (AllPairs (λ (a b : SlotId). a ≡ b → ⊥)) search.begins search.once;
    earlier = turn.0;
    between = turn.1;
    came = sym search.begins ∙ turn.2;
    turned = turn.3;
    begins = turn.4;
  }
