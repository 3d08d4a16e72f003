-- What views note in a list: where one of them changes, and where a seat leaves, whose notes join those of seat 0.
use Rattle.std.proofs.Common.{◌≡◌, ◌≢◌, ◌⊎◌, inl, inr, ⊎_elim, ℕ, ◌<◌, List, [], ◌∷◌, ◌++◌, length, get_or, set, refl, sym, ap, subst, ◌∙◌, arith}
use Rattle.std.proofs.lemmas.Bool.{cases_eq}
use Rattle.std.proofs.lemmas.List.{get_or-set_same, get_or-set_other, length-set}
use Rattle.queue_law.specs.declared.view.Taken.{Taken}
use Rattle.queue_law.specs.Lists.{taken_items}
use Rattle.directory_law.specs.Views.{In}
use Rattle.directory_law.proofs.Notes.{in_left, in_right}

pub in_cases : {A : Type 0} (x : A) (xs ys : List A) → In x (xs ++ ys) → In x xs ⊎ In x ys
in_cases x [] ys i = inr i
in_cases x (y ∷ xs) ys i = ⊎_elim (λ (e : x ≡ y). inl (inl e))
    (λ (j : In x (xs ++ ys)). ⊎_elim (λ (a : In x xs). inl (inr a)) (λ (b : In x ys). inr b)
    (in_cases x xs ys j))
    i

pub taken_append : (xs ys : List Taken) → taken_items (xs ++ ys) ≡ taken_items xs ++ taken_items ys
taken_append [] ys = refl
taken_append (x ∷ xs) ys = ap (λ l. x.item ∷ l) (taken_append xs ys)

module _ {V X : Type 0} (none : V) (f : V → List X) where
  abbrev pub IsNoted : List V → X → Type 0
  IsNoted views x = (n : ℕ) × In x (f (get_or views n none))

  -- after a change it stands in the new view, or was noted before
  pub noted_cases : (views : List V) (n : ℕ) (w : V) (x : X) → n < length views
      → IsNoted (set views n w) x → In x (f w) ⊎ IsNoted views x
  noted_cases views n w x low noted = ⊎_elim
      (λ (is : noted.0 ≡ n). inl (subst (λ (v : V). In x (f v))
      (ap (λ (m : ℕ). get_or (set views n w) m none) is ∙ get_or-set_same views n w none low) noted.1))
      (λ (ne : noted.0 ≢ n). inr (
        noted.0,
        subst (λ (v : V). In x (f v)) (get_or-set_other views n noted.0 w none ne) noted.1,
      ))
      (cases_eq noted.0 n)

  module _ (joined : V → V → V) (empty : f none ≡ [])
      (joins : (a b : V) → f (joined a b) ≡ f a ++ f b)
      (views : List V) (j : ℕ) (there : j < length views) (other : j ≢ 0) where
    abbrev both : V
    both = joined (get_or views 0 none) (get_or views j none)

    -- what is noted after a leave was noted before
    pub noted_before : (x : X) → IsNoted (set (set views 0 both) j none) x → IsNoted views x
    noted_before x now = ⊎_elim
        (λ (here : In x (f none)). absurd (subst (In x) empty here))
        (λ (was : IsNoted (set views 0 both) x). ⊎_elim
        (λ (here : In x (f both)). ⊎_elim
        (λ (a : In x (f (get_or views 0 none))). (0, a))
        (λ (b : In x (f (get_or views j none))). (j, b))
        (in_cases x (f (get_or views 0 none)) (f (get_or views j none))
        (subst (In x) (joins (get_or views 0 none) (get_or views j none)) here)))
        (λ (old : IsNoted views x). old)
        (noted_cases views 0 both x (omega arith) was))
        (noted_cases (set views 0 both) j none x (let l = length-set views 0 both in omega arith) now)

    -- and what was noted is noted
    pub noted_after : (x : X) → IsNoted views x → IsNoted (set (set views 0 both) j none) x
    noted_after x was =
        let root : get_or (set (set views 0 both) j none) 0 none ≡ both =
        get_or-set_other (set views 0 both) j 0 none none (λ e. other (sym e))
        ∙ get_or-set_same views 0 both none (omega arith) in
        let at : (m : ℕ) → was.0 ≡ m → In x (f (get_or views m none)) =
        λ m e. subst (λ (k : ℕ). In x (f (get_or views k none))) e was.1 in
        let by_root : In x (f (get_or views 0 none) ++ f (get_or views j none))
        → IsNoted (set (set views 0 both) j none) x =
        λ i. (0, subst (In x) (sym (ap f root ∙ joins (get_or views 0 none) (get_or views j none))) i) in
        ⊎_elim
        (λ (is : was.0 ≡ 0). by_root
        (in_left x (f (get_or views 0 none)) (f (get_or views j none)) (at 0 is)))
        (λ (a : was.0 ≢ 0). ⊎_elim
        (λ (is : was.0 ≡ j). by_root
        (in_right x (f (get_or views 0 none)) (f (get_or views j none)) (at j is)))
        (λ (b : was.0 ≢ j). (
          was.0,
          subst (λ (v : V). In x (f v))
              (sym (get_or-set_other (set views 0 both) j was.0 none none b
              ∙ get_or-set_other views 0 was.0 both none a))
              was.1,
        ))
        (cases_eq was.0 j))
        (cases_eq was.0 0)
