-- A protocol has itself as a part, and a pair has both of its sides.
use Rattle.std.proofs.Common.{◌≡◌, ℕ, List, [], ◌∷◌, map, get_or, refl, sym, ap, subst, ◌∙◌, arith}
use Rattle.std.specs.Prelude.{slice_set}
use Rattle.std.proofs.lemmas.List.{map-set, set-get_or, length-map, get_or-map}
use Rattle.std.proofs.Math.ListN as lists
use Rattle.plain_protocol.specs.plain_state.declared.act.PlainAct.{PlainAct}
use Rattle.plain_protocol.specs.plain_state.State.{Plain}
use Rattle.plain_protocol.specs.Acts.{Owned}
use Rattle.plain_protocol.specs.Laws.{KeptByForeign, Keeps}
use Rattle.plain_protocol.specs.Owns.{OwnPart, own_part}
use Rattle.protocol_pairs.specs.Shares.{IsLeft, IsRight}
use Rattle.protocol_pairs.specs.Spared.{IsSpared, others}
use Rattle.protocol_pairs.specs.Parts.{Both, HasPart, KeepsRest, Reads, Frees, Accepts}
use Rattle.protocol_pairs.specs.Both.{part_meets}
use Rattle.protocol_pairs.specs.Foreign.{Includes, spared_is_foreign, within_more}

-- A PART'S DEED
module _ {V W : Type 0} (law : Plain → List V → Type 0) (part : Plain → List W → Type 0)
    (seen : V → W) (with_seen : V → W → V) (gone : V) (away : W)
    (free : OwnPart → PlainAct → Type 0) (suits : V → W → Type 0) (has : HasPart law part seen)
    (rest : KeepsRest law part seen gone with_seen free suits) (reads : Reads seen with_seen) where
  pub part_keeps : (ready : OwnPart → W → PlainAct → Type 0)
      (next : OwnPart → OwnPart → W → PlainAct → ℕ → W)
      (allows : Plain → Plain → ℕ → W → W → Type 0) → Keeps part away ready next allows
      → Keeps law gone
      (λ own v step. ready own (seen v) step × free own step × Accepts suits next seen own v step)
      (λ own after v step found. with_seen v (next own after (seen v) step found))
      (λ p q n v w. allows p q n (seen v) (seen w))
  part_keeps ready next allows keeps p q views n step found meets low is does =
      let v = get_or views n gone in
      let at : get_or (map seen views) n away ≡ seen v = get_or-map seen views n gone away low in
      let w = next (own_part p n) (own_part q n) (seen v) step found in
      let l = length-map views seen in
      let k = keeps p q (map seen views) n step found
      (part_meets law part seen p views meets (has p views meets.law)) (omega arith)
      (subst (λ z. ready (own_part p n) z step) (sym at) is.0) does in
      let kept : part q (slice_set (map seen views) n w) × allows p q n (seen v) w =
      subst (λ z. let u = next (own_part p n) (own_part q n) z step found in
      part q (slice_set (map seen views) n u) × allows p q n z u) at k in (
        rest p q views n step found w meets low is.1 does (is.2 (own_part q n) found) kept.0,
        subst (allows p q n (seen v)) (sym (reads v w)) kept.1,
      )

-- ITSELF
map_same : {V : Type 0} (views : List V) → map (λ v. v) views ≡ views
map_same [] = refl
map_same (v ∷ vs) = ap (λ l. v ∷ l) (map_same vs)

module _ {V : Type 0} (law : Plain → List V → Type 0) where
  pub self_has : HasPart law law (λ v. v)
  self_has p views holds = subst (law p) (sym (map_same views)) holds

  pub self_rest : (gone : V)
      → KeepsRest law law (λ v. v) gone (λ v w. w) (λ own step. Unit {0}) (λ v w. Unit {0})
  self_rest gone p q views n step found w meets low free does suits kept =
      subst (λ l. law q (slice_set l n w)) (map_same views) kept

-- THE SIDES OF A PAIR
module _ {V W : Type 0} (left : Plain → List V → Type 0) (right : Plain → List W → Type 0) where
  pub left_has : HasPart (Both left right) left (λ v. v.0)
  left_has p views holds = holds.0

  pub right_has : HasPart (Both left right) right (λ v. v.1)
  right_has p views holds = holds.1

  pub left_rest : (gone : V) (away : W) (theirs : Owned) → KeptByForeign right theirs
      → KeepsRest (Both left right) left (λ v. v.0) (gone, away) (λ v w. (w, v.1)) (IsSpared theirs)
      (λ v w. Unit {0})
  left_rest gone away theirs foreign p q views n step found w meets low free does suits kept =
      let u = (get_or views n (gone, away)).1 in
      let others = map (λ (v : V × W). v.1) views in (
        subst (left q) (sym (map-set (λ (v : V × W). v.0) views n (w, u))) kept,
        subst (right q)
            (sym (map-set (λ (v : V × W). v.1) views n (w, u)
            ∙ (ap (slice_set others n)
            (sym (lists.get_or-map (λ (v : V × W). v.1) views n (gone, away)))
            ∙ set-get_or others n away)))
            (foreign p q n step found others
            (part_meets (Both left right) right (λ v. v.1) p views meets meets.law.1)
            (spared_is_foreign theirs p n step free) does),
      )

  pub right_rest : (gone : V) (away : W) (theirs : Owned) → KeptByForeign left theirs
      → KeepsRest (Both left right) right (λ v. v.1) (gone, away) (λ v w. (v.0, w))
      (IsSpared theirs) (λ v w. Unit {0})
  right_rest gone away theirs foreign p q views n step found w meets low free does suits kept =
      let u = (get_or views n (gone, away)).0 in
      let others = map (λ (v : V × W). v.0) views in (
        subst (left q)
            (sym (map-set (λ (v : V × W). v.0) views n (u, w)
            ∙ (ap (slice_set others n)
            (sym (lists.get_or-map (λ (v : V × W). v.0) views n (gone, away)))
            ∙ set-get_or others n gone)))
            (foreign p q n step found others
            (part_meets (Both left right) left (λ v. v.0) p views meets meets.law.0)
            (spared_is_foreign theirs p n step free) does),
        subst (right q) (sym (map-set (λ (v : V × W). v.1) views n (u, w))) kept,
      )

-- what the one part owns isn't the other's
module _ {strong weak : ℕ} {mine theirs : Owned} (own : IsLeft strong weak mine)
    (other : IsRight strong weak theirs) (once : mine.tickets → ¬ theirs.tickets) where
  left_apart : Includes mine (others theirs)
  left_apart = record {
    cell = λ i a b. let x = own.cells i a in let y = other.cells i b in omega arith;
    weak_cell = λ i a b. let x = own.weak_cells i a in let y = other.weak_cells i b in omega arith;
    payload = λ words a b. other.payloads words b (own.payloads words a);
    tickets = once;
  }

  right_apart : Includes theirs (others mine)
  right_apart = record {
    cell = λ i a b. let x = own.cells i b in let y = other.cells i a in omega arith;
    weak_cell = λ i a b. let x = own.weak_cells i b in let y = other.weak_cells i a in omega arith;
    payload = λ words a b. other.payloads words a (own.payloads words b);
    tickets = λ a b. once b a;
  }

  pub left_frees : Frees mine (IsSpared theirs)
  left_frees seat step is = within_more mine (others theirs) seat step left_apart is

  pub right_frees : Frees theirs (IsSpared mine)
  right_frees seat step is = within_more theirs (others mine) seat step right_apart is
