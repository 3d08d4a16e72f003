-- A desk whose handles are given up, one after the other, on a domain.
use Rattle.std.proofs.Common.{◌≡◌, ℕ, ◌≤◌, suc, List, [], ◌∷◌, length, refl, ap, sym, ◌∙◌, subst, arith}
use Rattle.std.proofs.lemmas.List.{length-map}
use Rattle.std.specs.Map.{values_of}
use Rattle.std.specs.Prelude.{slice_index_or, slice_set}
use Rattle.script_desk.specs.plain_state.State.{Plain, PlainSeat, new_seat, seat_at}
use Rattle.script_desk.specs.plain_state.Steps.{Does}
use Rattle.script_desk.specs.plain_settling.Settling.{TidiesTo}
use Rattle.script_desk.proofs.Below.plain_settling_Settling.{tidies_on}
use Rattle.lone_heap.specs.Lone.{ThenTidies}
use Rattle.script_desk.specs.declared.handle.Handle.{Handle}
use Rattle.script_desk.specs.Desks.{Names, without_handles}
use Rattle.script_desk.specs.Holding.{HasSame, HoldsFor, giving}
use Rattle.script_desk.proofs.Closing.{hands_first, hands_last, holds_rest}
use Rattle.domain_desk.specs.Closing.{HasNoHandles}
use Rattle.domain_desk.proofs.Bare.{bare_given, bare_tidies}
use Rattle.domain_desk.proofs.Keeping.{tidied_same}

-- what the seat has for some handles stays where what it has stays
holds_same : (p q : Plain) (handles : List Handle) → HasSame p q → HoldsFor p handles
    → HoldsFor q handles
holds_same p q handles same holds = record {
  owned = λ s. same.owned s ∙ holds.owned s;
  weaks = λ s. same.weaks s ∙ holds.weaks s;
  snapshots = λ s. same.snapshots s ∙ holds.snapshots s;
  weak_snapshots = λ s. same.weak_snapshots s ∙ holds.weak_snapshots s;
}

-- ---- one more is given up

pub fewer_left : (old new : Names) (h : Handle) → values_of old ≡ h ∷ values_of new
    → suc (length new) ≤ length old
fewer_left old new h is =
    let value : List ℕ × Handle → Handle = λ entry. entry.1 in
    let before = length-map old value in
    let after = length-map new value in
    let one = ap length is in omega arith

module _ (p q : Plain) (h : Handle) (gives : ThenTidies (Does p 0 (giving h) 0) q) where
  pub holds_left : (old new : Names) → HoldsFor p (values_of old)
      → values_of old ≡ h ∷ values_of new → HoldsFor q (values_of new)
  holds_left old new holds is =
      holds_same gives.0 q (values_of new) (tidied_same gives.0 q gives.2)
      (holds_rest p gives.0 (values_of old) (values_of new) h holds is gives.1)

  pub tidies_left : (first : Plain) → TidiesTo first (without_handles p)
      → TidiesTo first (without_handles q)
  tidies_left first by =
      tidies_on first (without_handles p) (without_handles q) by
      (subst (λ (x : Plain). TidiesTo x (without_handles q)) (bare_given p gives.0 h gives.1)
      (bare_tidies gives.0 q gives.2))

-- ---- when none is left

first_has_none : (seats : List PlainSeat) (v : PlainSeat) → HasNoHandles v
    → HasNoHandles (slice_index_or (slice_set seats 0 v) 0 new_seat)
first_has_none [] v none = record { owned = refl; weaks = refl; snapshots = refl }
first_has_none (x ∷ xs) v none = none

none_left : (p : Plain) → HoldsFor p [] → p ≡ without_handles p
none_left p holds = hands_last p p holds (hands_first p)

no_handles : (p : Plain) → HoldsFor p [] → HasNoHandles (seat_at p 0)
no_handles p holds =
    subst (λ (x : Plain). HasNoHandles (seat_at x 0)) (sym (none_left p holds))
    (first_has_none p.seats _ (record { owned = refl; weaks = refl; snapshots = refl }))

module _ (p q : Plain) (names : Names) (holds : HoldsFor p (values_of names)) (none : names ≡ [])
    (tidies : TidiesTo p q) where
  last_holds : HoldsFor p []
  last_holds = subst (λ (ns : Names). HoldsFor p (values_of ns)) none holds

  pub last_tidies : (first : Plain) → TidiesTo first (without_handles p) → TidiesTo first q
  last_tidies first by =
      tidies_on first p q
      (subst (TidiesTo first) (sym (none_left p last_holds)) by)
      tidies

  pub last_none : HasNoHandles (seat_at q 0)
  last_none = no_handles q (holds_same p q [] (tidied_same p q tidies) last_holds)
