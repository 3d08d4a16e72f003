-- The laws of a pair, from those of its parts.
use Rattle.std.proofs.Common.{◌≡◌, ℕ, List, [], ◌∷◌, get_or, map, refl, sym, ap, subst, ◌∙◌}
use Rattle.std.specs.Prelude.{slice_set}
use Rattle.std.specs.List.{range_with_len}
use Rattle.std.proofs.lemmas.List.{map-set, length-map}
use Rattle.std.proofs.Math.ListN.{get_or-map}
use Rattle.plain_protocol.specs.plain_state.declared.act.PlainAct.TheVariants as act
use Rattle.plain_protocol.specs.plain_state.State.{Plain}
use Rattle.plain_protocol.specs.plain_state.Steps.{Does}
use Rattle.plain_protocol.specs.Acts.{Owned}
use Rattle.plain_protocol.specs.Laws.{Meets, Starts, KeptByCalm, KeptByForeign, KeptByLeave}
use Rattle.protocol_pairs.specs.Shares.{either_of}
use Rattle.protocol_pairs.specs.Parts.{Both}
use Rattle.protocol_pairs.specs.Foreign.{left_included, right_included, foreign_to_less}

map_map : {A B C : Type 0} (g : B → C) (f : A → B) (xs : List A)
    → map g (map f xs) ≡ map (λ x. g (f x)) xs
map_map g f [] = refl
map_map g f (x ∷ xs) = ap (λ l. g (f x) ∷ l) (map_map g f xs)

-- where the whole meets its law, what the views have of a part meets the part's
pub part_meets : {Z V : Type 0} (law : Plain → List Z → Type 0) (part : Plain → List V → Type 0)
    (f : Z → V) (p : Plain) (views : List Z) → Meets law p views → part p (map f views)
    → Meets part p (map f views)
part_meets law part f p views meets holds = record {
  lawful = meets.lawful;
  count = length-map views f ∙ meets.count;
  law = holds;
}

-- a seat leaves: the views' parts are joined as the part has it
leave_part : {Z V : Type 0} (part : Plain → List V → Type 0) (f : Z → V) (join : Z → Z → Z)
    (joined : V → V → V) (gone : Z) → ((a b : Z) → f (join a b) ≡ joined (f a) (f b))
    → KeptByLeave part joined (f gone)
    → (p q : Plain) (j found : ℕ) (views : List Z) → Meets part p (map f views)
    → Does p 0 (act.Leave j) found q
    → let one = join (get_or views 0 gone) (get_or views j gone) in
    part q (map f (slice_set (slice_set views 0 one) j gone))
leave_part part f join joined gone each kept p q j found views meets does =
    let at : (i : ℕ) → get_or (map f views) i (f gone) ≡ f (get_or views i gone) =
    λ i. get_or-map f views i gone in
    let one = join (get_or views 0 gone) (get_or views j gone) in
    let is : f one ≡ joined (get_or (map f views) 0 (f gone)) (get_or (map f views) j (f gone)) =
    each _ _ ∙ (ap (λ v. joined v (f (get_or views j gone))) (sym (at 0))
    ∙ ap (λ v. joined (get_or (map f views) 0 (f gone)) v) (sym (at j))) in
    subst (part q)
    (sym (map-set f (slice_set views 0 one) j gone
    ∙ ap (λ l. slice_set l j (f gone)) (map-set f views 0 one ∙ ap (slice_set (map f views) 0) is)))
    (kept p q j found (map f views) meets does)

module _ {V W : Type 0} (left : Plain → List V → Type 0) (right : Plain → List W → Type 0) where
  abbrev law : Plain → List (V × W) → Type 0
  law = Both left right

  left_meets : (p : Plain) (views : List (V × W)) → Meets law p views
      → Meets left p (map (λ v. v.0) views)
  left_meets p views meets = part_meets law left (λ v. v.0) p views meets meets.law.0

  right_meets : (p : Plain) (views : List (V × W)) → Meets law p views
      → Meets right p (map (λ v. v.1) views)
  right_meets p views meets = part_meets law right (λ v. v.1) p views meets meets.law.1

  pub both_start : (first : ℕ → V) (other : ℕ → W) → Starts left first → Starts right other
      → Starts law (λ n. (first n, other n))
  both_start first other a b seats slots cells weak_cells =
      let each : ℕ → V × W = λ n. (first n, other n) in (
        subst (left _) (sym (map_map (λ (v : V × W). v.0) each (range_with_len 0 seats)))
            (a seats slots cells weak_cells),
        subst (right _) (sym (map_map (λ (v : V × W). v.1) each (range_with_len 0 seats)))
            (b seats slots cells weak_cells),
      )

  pub both_calm : KeptByCalm left → KeptByCalm right → KeptByCalm law
  both_calm a b p q n step found views meets is does = (
    a p q n step found (map (λ v. v.0) views) (left_meets p views meets) is does,
    b p q n step found (map (λ v. v.1) views) (right_meets p views meets) is does,
  )

  pub both_foreign : (mine theirs : Owned) → KeptByForeign left mine → KeptByForeign right theirs
      → KeptByForeign law (either_of mine theirs)
  both_foreign mine theirs a b p q n step found views meets is does =
      let own = either_of mine theirs in (
        a p q n step found (map (λ v. v.0) views) (left_meets p views meets)
            (foreign_to_less mine own p step (left_included mine theirs) is) does,
        b p q n step found (map (λ v. v.1) views) (right_meets p views meets)
            (foreign_to_less theirs own p step (right_included mine theirs) is) does,
      )

  pub both_leave : (joined : V → V → V) (joins : W → W → W) (gone : V) (away : W)
      → KeptByLeave left joined gone → KeptByLeave right joins away
      → KeptByLeave law (λ v w. (joined v.0 w.0, joins v.1 w.1)) (gone, away)
  both_leave joined joins gone away a b p q j found views meets does =
      let join : V × W → V × W → V × W = λ v w. (joined v.0 w.0, joins v.1 w.1) in (
        leave_part left (λ v. v.0) join joined (gone, away) (λ v w. refl) a p q j found views
            (left_meets p views meets) does,
        leave_part right (λ v. v.1) join joins (gone, away) (λ v w. refl) b p q j found views
            (right_meets p views meets) does,
      )
