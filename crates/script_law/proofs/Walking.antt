-- The walk that a search finds, by the new names.
use Rattle.std.proofs.Common.{◌≡◌, ◌≢◌, ℕ, ◌≤◌, List, [], ◌∷◌, ◌++◌, get_or, reverse, All, refl, ap, sym, ◌∙◌, subst, arith}
use Rattle.std.specs.Prelude.{map}
use Rattle.std.specs.List.{AllPairs}
use Rattle.std.proofs.lemmas.List.{get_or-map, length-map, map-append, reverse-append}
use Rattle.std.proofs.lemmas.List.Elements.{All-cons, All-head, All-nil, All-tail}
use Rattle.script_desk.specs.plain_state.declared.slot.SlotId.{SlotId}
use Rattle.script_desk.specs.heap_audit.Walks.{BeginsLeast, GoesTo, IsFoundAmong, rank_of}
use Rattle.script_law.proofs.Reaching.{path_renamed}

map_reverse : (to : SlotId → SlotId) (xs : List SlotId) → map to (reverse xs) ≡ reverse (map to xs)
map_reverse to [] = refl
map_reverse to (x ∷ xs) =
    ap (map to) (reverse-append (x ∷ []) xs) ∙ map-append to (reverse xs) (x ∷ [])
    ∙ ap (λ (ys : List SlotId). ys ++ to x ∷ []) (map_reverse to xs) ∙ sym (reverse-append (to x ∷ []) (map to xs))

-- no two are equal, by the new names either
once_renamed : (to from : SlotId → SlotId) → ((s : SlotId) → from (to s) ≡ s) → (xs : List SlotId)
    → AllPairs (λ (a b : SlotId). a ≢ b) xs → AllPairs (λ (a b : SlotId). a ≢ b) (map to xs)
once_renamed to from back xs once i j d l m same =
    let n = length-map xs to in
    let a = get_or-map to xs i (from d) d (omega arith) in
    let b = get_or-map to xs j (from d) d (omega arith) in
    let e : to (get_or xs i (from d)) ≡ to (get_or xs j (from d)) = sym a ∙ same ∙ b in
    once i j (from d) l (omega arith) (sym (back (get_or xs i (from d))) ∙ ap from e ∙ back (get_or xs j (from d)))

least_renamed : (to : SlotId → SlotId) (ranks ranks' : List ℕ) (P : SlotId → Type 0) → ((s : SlotId) → P s → rank_of ranks' (to s) ≡ rank_of ranks s)
    → (x : SlotId) (xs : List SlotId) → P x → All P xs → All (λ s. rank_of ranks x ≤ rank_of ranks s) xs
    → All (λ s. rank_of ranks' (to x) ≤ rank_of ranks' s) (map to xs)
least_renamed to ranks ranks' P same x [] here all least = All-nil (λ s. rank_of ranks' (to x) ≤ rank_of ranks' s)
least_renamed to ranks ranks' P same x (y ∷ ys) here all least =
    let a = same x here in
    let b = same y (All-head P y ys all) in
    let c = All-head (λ s. rank_of ranks x ≤ rank_of ranks s) y ys least in
    All-cons (λ s. rank_of ranks' (to x) ≤ rank_of ranks' s) (to y) (map to ys) (omega arith)
    (least_renamed to ranks ranks' P same x ys here (All-tail P y ys all) (All-tail (λ s. rank_of ranks x ≤ rank_of ranks s) y ys least))

begins_renamed : (to : SlotId → SlotId) (ranks ranks' : List ℕ) (P : SlotId → Type 0) → ((s : SlotId) → P s → rank_of ranks' (to s) ≡ rank_of ranks s)
    → (walk : List SlotId) → All P walk → BeginsLeast ranks walk → BeginsLeast ranks' (map to walk)
begins_renamed to ranks ranks' P same [] all least = least
begins_renamed to ranks ranks' P same (x ∷ xs) all least =
    least_renamed to ranks ranks' P same x xs (All-head P x xs all) (All-tail P x xs all) least

-- P and Holds are Q and Keeps by the new names; L is what all have of which ranks are asked
module _ (to from : SlotId → SlotId) (back : (s : SlotId) → from (to s) ≡ s) (forth : (s : SlotId) → to (from s) ≡ s)
    (P Q L : SlotId → Type 0) (Holds Keeps : SlotId → SlotId → Type 0) (ranks ranks' : List ℕ)
    (so : (s : SlotId) → P s → Q (to s)) (so_back : (s : SlotId) → Q s → P (from s))
    (holds : (a b : SlotId) → Holds a b → Keeps (to a) (to b)) (holds_back : (a b : SlotId) → Keeps a b → Holds (from a) (from b))
    (lives : (s : SlotId) → P s → L s) (same : (s : SlotId) → L s → rank_of ranks' (to s) ≡ rank_of ranks s) where
  rank_back : (u : SlotId) → Q u → rank_of ranks' u ≡ rank_of ranks (from u)
  rank_back u q = ap (rank_of ranks') (sym (forth u)) ∙ same (from u) (lives (from u) (so_back u q))

  goes_renamed : (s t : SlotId) → GoesTo P Holds ranks s t → GoesTo Q Keeps ranks' (to s) (to t)
  goes_renamed s t (is, least) = (
    (so t is.0, holds t s is.1),
    (λ u q.
        let a = least (from u) (so_back u q.0, subst (Holds (from u)) (back s) (holds_back u (to s) q.1)) in
        let b = rank_back u q.0 in
        let c = same t (lives t is.0) in omega arith),
  )

  pub found_renamed : (walk : List SlotId) → All L walk → IsFoundAmong P Holds ranks walk → IsFoundAmong Q Keeps ranks' (map to walk)
  found_renamed walk all f = record {
    start = to f.start;
    least = (
      so f.start f.least.0,
      (λ u q.
          let a = f.least.1 (from u) (so_back u q) in
          let b = rank_back u q in
          let c = same f.start (lives f.start f.least.0) in omega arith),
    );
    rest = map to f.rest;
    again = to f.again;
    goes = path_renamed to (GoesTo P Holds ranks) (GoesTo Q Keeps ranks') goes_renamed f.start f.rest f.again f.goes;
    once = once_renamed to from back (f.start ∷ f.rest) f.once;
    earlier = map to f.earlier;
    between = map to f.between;
    came = ap (map to) f.came ∙ map-append to f.earlier (f.again ∷ f.between);
    turned = (
      map to f.turned.0,
      map to f.turned.1,
      sym (map_reverse to (f.again ∷ f.between)) ∙ ap (map to) f.turned.2 ∙ map-append to f.turned.0 f.turned.1,
      ap (map to) f.turned.3 ∙ map-append to f.turned.1 f.turned.0,
    );
    begins = begins_renamed to ranks ranks' L same walk all f.begins;
  }
