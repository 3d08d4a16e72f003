-- The list of all seats' clients: those of the views, and the first ones of the seats still to be opened.
use Rattle.std.proofs.Common.{◌≡◌, ◌⊎◌, inl, inr, ⊎_elim, ℕ, zero, suc, ◌+◌, ◌-◌, ◌<◌, ◌≤◌, List, [], ◌∷◌, ◌++◌, length, map, get_or, set, append_assoc, refl, ap, sym, ◌∙◌, arith, length-append}
use Rattle.std.specs.List.{range_with_len}
use Rattle.std.proofs.lemmas.List.{length-set, length-map, map-set, set-get_or, map-append, set-append_left}
use Rattle.std.proofs.lemmas.List.FromFn.{length-map-range_with_len}
use mathlib.Core.Option.{some, some-injective, some-ne-none}
use lib.ListN.{get_elem?}
use Rattle.atomic_table.proofs.Lists.{at_longer, at_map}
use Rattle.domain_rule.specs.declared.view.SeatView.{SeatView}
use Rattle.domain_rule.specs.Rule.{clients}

module _ {A : Type 0} where
  -- what is found in a list stands there
  pub at_less : (xs : List A) (i : ℕ) (a : A) → get_elem? xs i ≡ some a → i < length xs
  at_less [] i a e = absurd (some-ne-none a (sym e))
  at_less (x ∷ xs) zero a e = omega arith
  at_less (x ∷ xs) (suc i) a e = let r = at_less xs i a e in omega arith

  pub at_or : (xs : List A) (i : ℕ) (a d : A) → get_elem? xs i ≡ some a → get_or xs i d ≡ a
  at_or [] i a d e = absurd (some-ne-none a (sym e))
  at_or (x ∷ xs) zero a d e = some-injective x a e
  at_or (x ∷ xs) (suc i) a d e = at_or xs i a d e

  -- a list with one element more has those that it had, and the new one in its last place
  pub at_pushed : (xs : List A) (a b : A) (i : ℕ) → get_elem? (xs ++ a ∷ []) i ≡ some b
      → (get_elem? xs i ≡ some b) ⊎ ((i ≡ length xs) × (a ≡ b))
  at_pushed [] a b zero e = inr (refl, some-injective a b e)
  at_pushed [] a b (suc i) e = absurd (some-ne-none b (sym e))
  at_pushed (x ∷ xs) a b zero e = inl e
  at_pushed (x ∷ xs) a b (suc i) e = ⊎_elim inl (λ t. inr (ap suc t.0, t.1))
      (at_pushed xs a b i e)

module _ {V : Type 0} (first : ℕ → V) (seats : ℕ) where
  abbrev client_of : SeatView V → V
  client_of v = v.client

  -- the first views of the seats from n on
  abbrev rest_from : ℕ → List V
  rest_from n = map first (range_with_len n (seats - n))

  pub clients_length : (views : List (SeatView V)) → length views ≤ seats
      → length (clients first seats views) ≡ seats
  clients_length views few =
      let a = length-append (map client_of views) (rest_from (length views)) in
      let b = length-map views client_of in
      let c = length-map-range_with_len first (length views) (seats - length views) in
      omega arith

  pub client_found : (views : List (SeatView V)) (i : ℕ) (v : SeatView V) → get_elem? views i ≡ some v
      → get_elem? (clients first seats views) i ≡ some v.client
  client_found views i v at = at_longer (map client_of views) (rest_from (length views)) i v.client
      (at_map client_of views i v at)

  pub client_at : (views : List (SeatView V)) (i : ℕ) (v : SeatView V) (d : V)
      → get_elem? views i ≡ some v → get_or (clients first seats views) i d ≡ v.client
  client_at views i v d at = at_or (clients first seats views) i v.client d
      (client_found views i v at)

  -- one seat's view is given anew
  pub clients_set : (views : List (SeatView V)) (i : ℕ) (w : SeatView V) → i < length views
      → clients first seats (set views i w) ≡ set (clients first seats views) i w.client
  clients_set views i w h =
      let l = length-map views client_of in
      ap (λ (n : ℕ). map client_of (set views i w) ++ rest_from n) (length-set views i w)
      ∙ (ap (λ (vs : List V). vs ++ rest_from (length views)) (map-set client_of views i w)
      ∙ sym (set-append_left (map client_of views) (rest_from (length views)) i w.client
      (omega arith)))

  -- its client stays
  pub clients_same : (views : List (SeatView V)) (i : ℕ) (v w : SeatView V)
      → get_elem? views i ≡ some v → w.client ≡ v.client
      → clients first seats (set views i w) ≡ clients first seats views
  clients_same views i v w at same =
      clients_set views i w (at_less views i v at)
      ∙ (ap (set (clients first seats views) i)
      (same ∙ sym (client_at views i v v.client at))
      ∙ set-get_or (clients first seats views) i v.client)

  -- one more seat is opened
  pub clients_more : (views : List (SeatView V)) (w : SeatView V) → length views < seats
      → w.client ≡ first (length views)
      → clients first seats (views ++ w ∷ []) ≡ clients first seats views
  clients_more views w room is =
      let n : ℕ = length views in
      let l : length (views ++ w ∷ []) ≡ n + 1 = length-append views (w ∷ []) in
      let e : seats - n ≡ suc (seats - (n + 1)) = omega arith in
      ap (λ (m : ℕ). map client_of (views ++ w ∷ []) ++ rest_from m) l
      ∙ (ap (λ (vs : List V). vs ++ rest_from (n + 1)) (map-append client_of views (w ∷ []))
      ∙ (append_assoc (map client_of views) (w.client ∷ []) (rest_from (n + 1))
      ∙ (ap (λ (v : V). map client_of views ++ v ∷ rest_from (n + 1)) is
      ∙ ap (λ (m : ℕ). map client_of views ++ map first (range_with_len n m)) (sym e))))
