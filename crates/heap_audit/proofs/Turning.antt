-- Walks that are begun at another place.
use Rattle.std.proofs.Common.{◌≡◌, ℕ, ◌+◌, ◌-◌, ◌<◌, ◌≤◌, List, [], ◌∷◌, ◌++◌, length, get_or, take, drop, reverse, All, arith, sym, ◌∙◌, ap, subst, append-nil}
use Rattle.std.proofs.lemmas.List.{take_more, drop_more, take-append-drop, reverse-append, length-reverse, get_or-reverse}
use Rattle.std.proofs.lemmas.List.Elements.{All-append, All-take, All-drop}
use Rattle.deleter.specs.plain_state.declared.slot.SlotId.{SlotId}
use Rattle.deleter.specs.plain_state.declared.image.Heap.{Heap}
use Rattle.heap_audit.specs.Heaps.{slot}
use Rattle.heap_audit.specs.Reached.{HasField, IsUnreached}
use Rattle.heap_audit.specs.Walks.{rank_of, GoesTo, IsWalk, IsFound, BeginsLeast}
use Rattle.heap_audit.specs.Tables.{TurnsRound}
use Rattle.heap_audit.proofs.Going.{path_split, path_join, path_end, path_reverse, path_map}

-- a walk that is begun elsewhere is one
walk_turned : (heap : Heap) (front back : List SlotId) → IsWalk heap (front ++ back) → IsWalk heap (back ++ front)
walk_turned heap [] back w = subst (IsWalk heap) (sym (append-nil back)) w
walk_turned heap (x ∷ xs) [] w = subst (IsWalk heap) (append-nil (x ∷ xs)) w
walk_turned heap (x ∷ xs) (y ∷ ys) w =
    let parts = path_split (HasField heap) x xs y ys x w in
    path_join (HasField heap) y ys x xs y parts.1 parts.0

-- what the search finds is a walk
pub found_is_walk : (heap : Heap) (ranks : List ℕ) (walk : List SlotId) → IsFound heap ranks walk → IsWalk heap walk
found_is_walk heap ranks walk is =
    let round = path_end (GoesTo (IsUnreached heap) (HasField heap) ranks) is.start is.rest is.earlier is.again is.between is.again is.came is.goes in
    let back = path_map (λ (s : SlotId). Unit {0}) (GoesTo (IsUnreached heap) (HasField heap) ranks) (λ a b. HasField heap b a) (λ a b h g. (g.0.1, tt)) is.again is.between is.again tt round in
    let forth : IsWalk heap (is.again ∷ reverse is.between) = path_reverse (HasField heap) is.again is.between is.again back in
    let whole : IsWalk heap (reverse (is.again ∷ is.between)) =
    subst (IsWalk heap) (sym (reverse-append (is.again ∷ []) is.between)) (walk_turned heap (is.again ∷ []) (reverse is.between) forth) in
    subst (IsWalk heap) (sym is.turned.3) (walk_turned heap is.turned.0 is.turned.1 (subst (IsWalk heap) is.turned.2 whole))

pub All-reverse : (P : SlotId → Type 0) (xs : List SlotId) → All P xs → All P (reverse xs)
All-reverse P xs h k d l =
    let within : k < length xs = omega (arith, l, length-reverse xs) in
    subst P (sym (get_or-reverse xs k d within)) (h (length xs - 1 - k) d (omega arith))

-- the list is cut where `again` stands, and what lies from there on is begun at its slot of least rank and reversed
pub turns_round : (ranks : List ℕ) (slots cycle low high walk : List SlotId) (again : SlotId) (from best : ℕ)
    → from < length slots → get_or slots from again ≡ again → cycle ≡ drop from slots → best < length cycle
    → All (λ s. rank_of ranks (get_or cycle best (slot 0)) ≤ rank_of ranks s) cycle
    → low ≡ take (best + 1) cycle → high ≡ drop (best + 1) cycle → walk ≡ reverse (high ++ low)
    → TurnsRound ranks slots again walk
turns_round ranks slots cycle low high walk again from best h e c l least a b w =
    let x = get_or cycle best (slot 0) in
    let cut : drop from slots ≡ again ∷ drop (from + 1) slots = drop_more slots from again h ∙ ap (λ (s : SlotId). s ∷ drop (from + 1) slots) e in
    let joined : low ++ high ≡ cycle =
    ap (λ (ys : List SlotId). ys ++ high) a ∙ (ap (λ (ys : List SlotId). take (best + 1) cycle ++ ys) b ∙ take-append-drop (best + 1) cycle) in
    let parts : walk ≡ reverse low ++ reverse high = w ∙ reverse-append high low in
    let whole : reverse (again ∷ drop (from + 1) slots) ≡ reverse high ++ reverse low =
    ap reverse (sym cut ∙ (sym c ∙ sym joined)) ∙ reverse-append low high in
    let begun : reverse low ≡ x ∷ reverse (take best cycle) = ap reverse (a ∙ take_more cycle best (slot 0) l) ∙ reverse-append (take best cycle) (x ∷ []) in
    let rest = reverse (take best cycle) ++ reverse high in
    let P : SlotId → Type 0 = λ s. rank_of ranks x ≤ rank_of ranks s in
    let all : All P rest = All-append P (reverse (take best cycle)) (reverse high)
    (All-reverse P (take best cycle) (All-take P best cycle least)) (All-reverse P high (subst (All P) (sym b) (All-drop P (best + 1) cycle least))) in (
      take from slots,
      drop (from + 1) slots,
      sym (take-append-drop from slots) ∙ ap (λ (ys : List SlotId). take from slots ++ ys) cut,
      (reverse high, reverse low, whole, parts),
      subst (BeginsLeast ranks) (sym (parts ∙ ap (λ (ys : List SlotId). ys ++ reverse high) begun)) all,
    )
