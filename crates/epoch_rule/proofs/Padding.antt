-- The list of all seats' clients: those of the views, and the first ones of the seats still to be opened.
use Rattle.std.proofs.Common.{◌≡◌, ℕ, suc, ◌+◌, ◌-◌, ◌<◌, ◌≤◌, List, [], ◌∷◌, ◌++◌, length, map, get_or, set, append_assoc, ap, sym, ◌∙◌, arith, length-append}
use Rattle.std.specs.List.{range_with_len}
use Rattle.std.proofs.lemmas.List.{length-set, length-map, map-set, set-get_or, map-append, set-append_left}
use Rattle.std.proofs.lemmas.List.FromFn.{length-map-range_with_len}
use mathlib.Core.Option.{some}
use lib.ListN.{get_elem?}
use Rattle.atomic_table.proofs.Lists.{at_longer, at_map}
use Rattle.domain_rule.proofs.Padding.{at_less, at_or}
use Rattle.epoch_rule.specs.declared.view.EpochSeatView.{EpochSeatView}
use Rattle.epoch_rule.specs.Rule.{clients}

module _ {V : Type 0} (first : ℕ → V) (seats : ℕ) where
  abbrev client_of : EpochSeatView V → V
  client_of v = v.client

  -- the first views of the seats from n on
  abbrev rest_from : ℕ → List V
  rest_from n = map first (range_with_len n (seats - n))

  pub clients_length : (views : List (EpochSeatView V)) → length views ≤ seats
      → length (clients first seats views) ≡ seats
  clients_length views few =
      let a = length-append (map client_of views) (rest_from (length views)) in
      let b = length-map views client_of in
      let c = length-map-range_with_len first (length views) (seats - length views) in
      omega arith

  pub client_found : (views : List (EpochSeatView V)) (i : ℕ) (v : EpochSeatView V)
      → get_elem? views i ≡ some v → get_elem? (clients first seats views) i ≡ some v.client
  client_found views i v at = at_longer (map client_of views) (rest_from (length views)) i v.client
      (at_map client_of views i v at)

  pub client_at : (views : List (EpochSeatView V)) (i : ℕ) (v : EpochSeatView V) (d : V)
      → get_elem? views i ≡ some v → get_or (clients first seats views) i d ≡ v.client
  client_at views i v d at = at_or (clients first seats views) i v.client d
      (client_found views i v at)

  -- one seat's view is given anew
  pub clients_set : (views : List (EpochSeatView V)) (i : ℕ) (w : EpochSeatView V) → i < length views
      → clients first seats (set views i w) ≡ set (clients first seats views) i w.client
  clients_set views i w h =
      let l = length-map views client_of in
      ap (λ (n : ℕ). map client_of (set views i w) ++ rest_from n) (length-set views i w)
      ∙ (ap (λ (vs : List V). vs ++ rest_from (length views)) (map-set client_of views i w)
      ∙ sym (set-append_left (map client_of views) (rest_from (length views)) i w.client
      (omega arith)))

  -- its client stays
  pub clients_same : (views : List (EpochSeatView V)) (i : ℕ) (v w : EpochSeatView V)
      → get_elem? views i ≡ some v → w.client ≡ v.client
      → clients first seats (set views i w) ≡ clients first seats views
  clients_same views i v w at same =
      clients_set views i w (at_less views i v at)
      ∙ (ap (set (clients first seats views) i)
      (same ∙ sym (client_at views i v v.client at))
      ∙ set-get_or (clients first seats views) i v.client)

  -- one more seat is opened
  pub clients_more : (views : List (EpochSeatView V)) (w : EpochSeatView V) → length views < seats
      → w.client ≡ first (length views)
      → clients first seats (views ++ w ∷ []) ≡ clients first seats views
  clients_more views w room is =
      let n : ℕ = length views in
      let l : length (views ++ w ∷ []) ≡ n + 1 = length-append views (w ∷ []) in
      let e : seats - n ≡ suc (seats - (n + 1)) = omega arith in
      ap (λ (m : ℕ). map client_of (views ++ w ∷ []) ++ rest_from m) l
      ∙ (ap (λ (vs : List V). vs ++ rest_from (n + 1)) (map-append client_of views (w ∷ []))
      ∙ (append_assoc (map client_of views) (w.client ∷ []) (rest_from (n + 1))
      ∙ (ap (λ (v : V). map client_of views ++ v ∷ rest_from (n + 1)) is
      ∙ ap (λ (m : ℕ). map client_of views ++ map first (range_with_len n m)) (sym e))))
