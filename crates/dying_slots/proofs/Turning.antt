-- The turn of a list of waiting slots, one after another.
use Rattle.std.proofs.Common.{◌≡◌, ◌≢◌, ℕ, ◌+◌, ◌<◌, ◌≤◌, Bool, true, false, List, [], ◌∷◌, ◌++◌, length, take, drop, get_or, refl, ap, sym, ◌∙◌, arith}
use Rattle.std.specs.Prelude.{◌==◌, not}
use Rattle.std.proofs.lemmas.Bool.Decides.{nat_tests}
use Rattle.std.specs.List.{filter}
use Rattle.std.proofs.lemmas.List.{append_assoc, append-nil, drop_all, drop_more, take_all, take_more, length-append, length-drop, take-append-drop}
use Rattle.std.proofs.lemmas.List.Elements.{filter-append}
use Rattle.core_functions.specs.plain_state.declared.slot.SlotId.{SlotId}

-- so many of `all` were looked at: those that pass the test were joined to `old`, and the others to the end
pub record IsTurned (free : SlotId → Bool) (all old : List SlotId) (i : ℕ) (waiting ripe : List SlotId)
    : Type 0 where
  pub waiting_is : waiting ≡ drop i all ++ filter (λ s. not (free s)) (take i all)
  pub ripe_is : ripe ≡ old ++ filter free (take i all)

module _ (free : SlotId → Bool) (all old : List SlotId) where
  pub turn_begins : IsTurned free all old 0 all old
  turn_begins = record {
    waiting_is = sym (append-nil all);
    ripe_is = sym (append-nil old);
  }

  -- the next one is x, the first of those that wait
  module _ (i : ℕ) (waiting ripe : List SlotId) (is : IsTurned free all old i waiting ripe)
      (there : i < length all) (x : SlotId) (rest : List SlotId) (first : waiting ≡ x ∷ rest) where
    next_is : x ∷ rest ≡ get_or all i x ∷ drop (i + 1) all ++ filter (λ s. not (free s)) (take i all)
    next_is = sym first
        ∙ (is.waiting_is
        ∙ ap (λ xs. xs ++ filter (λ s. not (free s)) (take i all)) (drop_more all i x there))

    tail_is : rest ≡ drop (i + 1) all ++ filter (λ s. not (free s)) (take i all)
    tail_is = ap (drop 1) next_is

    one_more : (f : SlotId → Bool)
        → filter f (take (i + 1) all) ≡ filter f (take i all) ++ filter f (x ∷ [])
    one_more f = ap (filter f) (take_more all i x there)
        ∙ (ap (λ y. filter f (take i all ++ y ∷ [])) (sym (ap (λ xs. get_or xs 0 x) next_is))
        ∙ filter-append f (take i all) (x ∷ []))

    pub turn_passes : free x ≡ true → IsTurned free all old (i + 1) rest (ripe ++ x ∷ [])
    turn_passes passes = record {
      waiting_is =
          tail_is
          ∙ ap (λ xs. drop (i + 1) all ++ xs)
          (sym (one_more (λ s. not (free s))
          ∙ rw passes (append-nil (filter (λ s. not (free s)) (take i all)))));
      ripe_is =
          ap (λ xs. xs ++ x ∷ []) is.ripe_is
          ∙ (append_assoc old (filter free (take i all)) (x ∷ [])
          ∙ ap (λ xs. old ++ xs) (sym (one_more free ∙ rw passes refl)));
    }

    pub turn_fails : free x ≡ false → IsTurned free all old (i + 1) (rest ++ x ∷ []) ripe
    turn_fails fails = record {
      waiting_is =
          ap (λ xs. xs ++ x ∷ []) tail_is
          ∙ (append_assoc (drop (i + 1) all) (filter (λ s. not (free s)) (take i all)) (x ∷ [])
          ∙ ap (λ xs. drop (i + 1) all ++ xs)
          (sym (one_more (λ s. not (free s)) ∙ rw fails refl)));
      ripe_is =
          is.ripe_is
          ∙ ap (λ xs. old ++ xs)
          (sym (one_more free ∙ rw fails (append-nil (filter free (take i all)))));
    }

    -- there is room for one that passes
    pub turn_room : (room : ℕ) → length (old ++ filter free all) ≤ room → free x ≡ true
        → length ripe < room
    turn_room room fit passes =
        let whole = ap (λ (xs : List SlotId). length (filter free xs)) (sym (take-append-drop (i + 1) all))
        ∙ (ap length (filter-append free (take (i + 1) all) (drop (i + 1) all))
        ∙ length-append (filter free (take (i + 1) all)) (filter free (drop (i + 1) all))) in
        let more = ap length (one_more free)
        ∙ length-append (filter free (take i all)) (filter free (x ∷ [])) in
        let one : length (filter free (x ∷ [])) ≡ 1 = rw passes refl in
        let most = length-append old (filter free all) in
        let now = ap length is.ripe_is ∙ length-append old (filter free (take i all)) in omega arith

  -- while some are left to look at, some wait
  pub turn_some : (i : ℕ) (waiting ripe : List SlotId) → IsTurned free all old i waiting ripe
      → i < length all → 0 < length waiting
  turn_some i waiting ripe is there =
      let sum = ap length is.waiting_is
      ∙ length-append (drop i all) (filter (λ s. not (free s)) (take i all)) in
      let left = length-drop i all in omega arith

  pub turn_ends : (i : ℕ) (waiting ripe : List SlotId) → length all ≤ i
      → IsTurned free all old i waiting ripe
      → (waiting ≡ filter (λ s. not (free s)) all) × (ripe ≡ old ++ filter free all)
  turn_ends i waiting ripe past is = (
    is.waiting_is
        ∙ ((λ k. drop_all i all past k ++ filter (λ s. not (free s)) (take_all i all past k))),
    is.ripe_is ∙ ap (λ xs. old ++ filter free xs) (take_all i all past),
  )

pub is_none : (n m : ℕ) → n ≡ m → n ≡ 0 → (m == 0) ≡ true
is_none n m same none = grind (arith, nat_tests)

pub is_some : (n m : ℕ) → n ≡ m → n ≢ 0 → (m == 0) ≡ false
is_some n m same some = grind (arith, nat_tests)
