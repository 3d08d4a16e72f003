-- The ranks of the slots, and the names of the makes that made them.
use Rattle.std.proofs.Common.{◌≡◌, ℕ, ◌+◌, ◌<◌, ◌≤◌, List, [], ◌∷◌, ◌++◌, length, get_or, take, map, ap, sym, ◌∙◌, subst, arith}
use Rattle.std.specs.Prelude.{slice_index}
use Rattle.std.proofs.lemmas.List.{take_more, take_all, map-append, length-map, get_or-map}
use Rattle.plain_audit.specs.plain_state.State.{Plain}
use Rattle.script_desk.specs.Audits.{AreRanks}
use Rattle.script_desk.specs.Desks.{Desk, Names, Maker, nobody}
use Rattle.script_desk.specs.Holding.{Kept}
use Rattle.script_desk.proofs.Naming.{desk_of}

abbrev pub number_of : Maker → ℕ
number_of maker = maker.number

-- one more of a list that is mapped
pub mapped_more : {X Y : Type 0} (f : X → Y) (xs : List X) (i : ℕ) (x d : X) (y : Y) (ys zs : List Y) → i < length xs → x ≡ get_or xs i d → y ≡ f x
    → ys ≡ map f (take i xs) → zs ≡ ys ++ y ∷ [] → zs ≡ map f (take (i + 1) xs)
mapped_more f xs i x d y ys zs lt at is before after =
    after ∙ ap (λ l. l ++ y ∷ []) before ∙ ap (λ v. map f (take i xs) ++ v ∷ []) (is ∙ ap f at)
    ∙ sym (map-append f (take i xs) (get_or xs i d ∷ [])) ∙ ap (map f) (sym (take_more xs i d lt))

pub mapped_all : {X Y : Type 0} (f : X → Y) (xs : List X) (i : ℕ) (ys : List Y) → length xs ≤ i → ys ≡ map f (take i xs) → ys ≡ map f xs
mapped_all f xs i ys le e = e ∙ ap (map f) (take_all i xs le)

module _ (p : Plain) (names : Names) (made : List Maker) (makes strong weak : ℕ) (k : Kept p names made strong weak) (d : Desk) (is : desk_of p names made makes ≡ d) where
  pub are_ranks : (ranks : List ℕ) → ranks ≡ map number_of made → AreRanks d ranks
  are_ranks ranks e =
      subst (λ (x : Desk). AreRanks x ranks) is (
        ap length e ∙ length-map made number_of ∙ k.makers,
        λ s lt. ap (λ (l : List ℕ). slice_index l s.0) e ∙ get_or-map number_of made s.0 nobody 0 (omega (arith, k.makers)),
      )
