-- What a key has is told by the least pair from it on.
use Rattle.std.proofs.Common.{◌≡◌, ℕ, ◌≤◌, Bool, true, false, List, [], ◌∷◌, refl, ap, sym, ◌∙◌, arith}
use Rattle.std.specs.Prelude.{Option, Some, None, ◌==◌, if◌then◌else◌, nat_lt}
use Rattle.std.proofs.lemmas.Bool.Decides.{nat_tests}
use Rattle.version_making.specs.protected_loads.acquire_retire.Domains.{DomainState}
use Rattle.version_making.specs.protected_loads.acquire_retire.Seats.{SeatState}
use Rattle.version_changes.specs.map_trees.Trees.{AllAbove, Ascends, Pair, pairs}
use Rattle.version_changes.specs.map_trees.Maps.{get, next}
use Rattle.version_reading.specs.map_law.declared.view.View.{View}
use Rattle.version_reading.specs.map_protocol.declared.law.MapLaw.{MapLaw}
use Rattle.version_reading.specs.Reading.{AtALook, HasNext}
use Rattle.version_map.specs.Maps.{HasValue, value_in}
use Rattle.version_map.proofs.Trails.{look_also}

-- a key below all of a list isn't there
get_none : (k n : ℕ) (xs : List Pair) → k ≤ n → AllAbove n xs → get k xs ≡ None
get_none k n [] low above = refl
get_none k n (x ∷ xs) low above =
    let first = above.0 in
    let other : (x.key == k) ≡ false = grind (arith, nat_tests) in
    rw other (get_none k n xs low above.1)

pub get_is : (k : ℕ) (xs : List Pair) → Ascends xs → get k xs ≡ value_in k (next k xs)
get_is k [] ascends = refl
get_is k (x ∷ xs) ascends = go (nat_lt x.key k) (x.key == k) refl refl (get_is k xs ascends.1)
  where
    go : (b e : Bool) → nat_lt x.key k ≡ b → (x.key == k) ≡ e → get k xs ≡ value_in k (next k xs)
        → (if e then Some x.value else get k xs)
        ≡ value_in k (if b then next k xs else Some x)
    go true true less same rest = absurd (grind (arith, nat_tests))
    go true false less other rest = rest
    go false true more same rest = sym (ap (λ (z : Bool). if z then Some x.value else None) same)
    go false false more other rest =
        let low : k ≤ x.key = grind (arith, nat_tests) in
        get_none k x.key xs low ascends.0
        ∙ sym (ap (λ (z : Bool). if z then Some x.value else None) other)

pub value_of : (d : DomainState MapLaw) (c key : ℕ) (least : Option Pair) (found : Option ℕ)
    (old new : SeatState View) → found ≡ value_in key least
    → AtALook d c (HasNext c key least) old new → AtALook d c (HasValue c key found) old new
value_of d c key least found old new is look =
    look_also d c (HasNext c key least) (HasValue c key found) old new
    (λ p h. (
      h.0,
      h.1,
      h.2,
      get_is key (pairs h.0) h.2.0 ∙ (ap (value_in key) h.3 ∙ sym is),
    )) look
