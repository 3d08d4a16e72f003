-- What seats noted in a list of their views stays noted: where a seat's view grows, and where a seat leaves.
use Rattle.std.proofs.Common.{◌≡◌, ◌≢◌, ◌⊎◌, inl, inr, ⊎_elim, ℕ, ◌<◌, List, [], ◌++◌, length, get_or, map, sym, ap, subst, ◌∙◌, arith}
use Rattle.std.specs.Prelude.{Contains, slice_set}
use Rattle.std.specs.List.{range_with_len}
use Rattle.std.proofs.lemmas.Bool.{cases_eq, cases_lt}
use Rattle.std.proofs.lemmas.List.{get_or-set_same, get_or-set_other, get_or_past, length-set}
use Rattle.std.proofs.lemmas.List.FromFn.{get_or-map-range_with_len, length-map-range_with_len}
use Rattle.std.proofs.lemmas.List.Elements.{Contains-append_left, Contains-append_right, Contains-append_cases}

-- nothing is in an empty list
pub none_in : {X : Type 0} (value : X) → ¬ (Contains [] value)
none_in value has = absurd (omega (arith, has.1))

module _ {V : Type 0} (none : V) where
  pub view_here : (views : List V) (n : ℕ) (w : V) → n < length views
      → get_or (slice_set views n w) n none ≡ w
  view_here views n w low = get_or-set_same views n w none low

  pub view_else : (views : List V) (n m : ℕ) (w : V) → m ≢ n
      → get_or (slice_set views n w) m none ≡ get_or views m none
  view_else views n m w not = get_or-set_other views n m w none not

  -- at the start each seat has the same view
  pub view_first : (seats n : ℕ)
      → get_or (map (λ (m : ℕ). none) (range_with_len 0 seats)) n none ≡ none
  view_first seats n = ⊎_elim
      (λ low. get_or-map-range_with_len (λ (m : ℕ). none) 0 seats n n none low (omega arith))
      (λ past. let l = length-map-range_with_len (λ (m : ℕ). none) 0 seats in
      get_or_past (map (λ (m : ℕ). none) (range_with_len 0 seats)) n none (omega arith))
      (cases_lt n seats)

  module _ {X : Type 0} (f : V → List X) where
    -- some seat has noted this
    abbrev pub IsNoted : List V → X → Type 0
    IsNoted views value = (n : ℕ) × Contains (f (get_or views n none)) value

    -- nothing is noted at the start
    pub none_noted : f none ≡ [] → (seats : ℕ) (value : X)
        → ¬ (IsNoted (map (λ (m : ℕ). none) (range_with_len 0 seats)) value)
    none_noted empty seats value noted = none_in value
        (subst (λ l. Contains l value) (ap f (view_first seats noted.0) ∙ empty) noted.1)

    -- A STEP of seat n, which has w then
    module _ (views : List V) (n : ℕ) (w : V) (low : n < length views) where
      pub noted_here : (value : X) → Contains (f w) value → IsNoted (slice_set views n w) value
      noted_here value has =
          (n, subst (λ z. Contains (f z) value) (sym (view_here views n w low)) has)

      pub noted_still :
          ((value : X) → Contains (f (get_or views n none)) value → Contains (f w) value)
          → (value : X) → IsNoted views value → IsNoted (slice_set views n w) value
      noted_still more value was = ⊎_elim
          (λ (is : was.0 ≡ n). noted_here value
          (more value (subst (λ m. Contains (f (get_or views m none)) value) is was.1)))
          (λ (ne : was.0 ≢ n). (
            was.0,
            subst (λ z. Contains (f z) value) (sym (view_else views n was.0 w ne)) was.1,
          ))
          (cases_eq was.0 n)

      -- it stands in the new view, or was noted before
      pub noted_cases : (value : X) → IsNoted (slice_set views n w) value
          → Contains (f w) value ⊎ IsNoted views value
      noted_cases value noted = ⊎_elim
          (λ (is : noted.0 ≡ n). inl (subst (λ z. Contains (f z) value)
          (ap (λ m. get_or (slice_set views n w) m none) is ∙ view_here views n w low) noted.1))
          (λ (ne : noted.0 ≢ n). inr (
            noted.0,
            subst (λ z. Contains (f z) value) (view_else views n noted.0 w ne) noted.1,
          ))
          (cases_eq noted.0 n)

    -- A LEAVE of seat j, whose notes join those of seat 0
    module _ (joined : V → V → V) (empty : f none ≡ [])
        (joins : (a b : V) → f (joined a b) ≡ f a ++ f b)
        (views : List V) (j : ℕ) (there : j < length views) (other : j ≢ 0) where
      abbrev root : V
      root = get_or views 0 none

      abbrev gone : V
      gone = get_or views j none

      abbrev both : V
      both = joined root gone

      abbrev left : List V
      left = slice_set (slice_set views 0 both) j none

      left_root : get_or left 0 none ≡ both
      left_root = view_else (slice_set views 0 both) j 0 none (λ e. other (sym e))
          ∙ view_here views 0 both (omega arith)

      left_gone : get_or left j none ≡ none
      left_gone = view_here (slice_set views 0 both) j none
          (let l = length-set views 0 both in omega arith)

      left_else : (m : ℕ) → m ≢ 0 → m ≢ j → get_or left m none ≡ get_or views m none
      left_else m a b = view_else (slice_set views 0 both) j m none b ∙ view_else views 0 m both a

      pub noted_after : (value : X) → IsNoted views value → IsNoted left value
      noted_after value was =
          let has : (m : ℕ) → was.0 ≡ m → Contains (f (get_or views m none)) value =
          λ m e. subst (λ k. Contains (f (get_or views k none)) value) e was.1 in
          let by_root : Contains (f root ++ f gone) value → IsNoted left value =
          λ c. (0, subst (λ l. Contains l value) (sym (ap f left_root ∙ joins root gone)) c) in
          ⊎_elim
          (λ is. by_root (Contains-append_left (f root) (f gone) value (has 0 is)))
          (λ a. ⊎_elim
          (λ is. by_root (Contains-append_right (f root) (f gone) value (has j is)))
          (λ b. (was.0, subst (λ z. Contains (f z) value) (sym (left_else was.0 a b)) was.1))
          (cases_eq was.0 j))
          (cases_eq was.0 0)

      pub noted_before : (value : X) → IsNoted left value → IsNoted views value
      noted_before value now =
          let at : (m : ℕ) (l : List X) → now.0 ≡ m → f (get_or left m none) ≡ l
          → Contains l value =
          λ m l e is. subst (λ z. Contains z value)
          (ap (λ k. f (get_or left k none)) e ∙ is) now.1 in
          ⊎_elim
          (λ is. ⊎_elim (λ c. (0, c)) (λ c. (j, c))
          (Contains-append_cases (f root) (f gone) value
          (at 0 _ is (ap f left_root ∙ joins root gone))))
          (λ a. ⊎_elim
          (λ is. absurd (none_in value (at j _ is (ap f left_gone ∙ empty))))
          (λ b. (now.0, subst (λ z. Contains (f z) value) (left_else now.0 a b) now.1))
          (cases_eq now.0 j))
          (cases_eq now.0 0)
