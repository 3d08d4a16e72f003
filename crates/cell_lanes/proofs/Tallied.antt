-- Tallies one after the other.
use Rattle.std.proofs.Common.{◌≡◌, if◌then◌else◌, Bool, true, false, ℕ, ◌+◌, List, [], ◌∷◌, ◌++◌, refl, arith}
use Rattle.std.specs.Prelude.{cond}
use Rattle.std.specs.Str.{bytes_eq}
use Rattle.std.proofs.lemmas.List.{length-append}
use Rattle.std.proofs.lemmas.List.Sums.{sum_by-append}
use Rattle.lane_work.specs.Tallying.{Tallies}
use Rattle.lane_work.specs.cdrc_text.Fold.{times}
use Rattle.lane_work.specs.cdrc_text.Tally.{CountsOneMore}

pub times_append : (w : List ℕ) (xs ys : List (List ℕ)) → times w (xs ++ ys) ≡ times w xs + times w ys
times_append w xs ys = sum_by-append (λ (x : List ℕ). cond (bytes_eq w x) 1 0) xs ys

pub tallies_none : (t : List (List ℕ × ℕ)) → Tallies [] t t
tallies_none t = record { counts = λ w. omega arith; sum = omega arith }

if_cond : (b : Bool) → 0 + cond b 1 0 ≡ (if b then 1 else 0)
if_cond true = refl
if_cond false = refl

times_one : (v w : List ℕ) → times v (w ∷ []) ≡ (if bytes_eq v w then 1 else 0)
times_one v w = if_cond (bytes_eq v w)

pub tallies_one : (w : List ℕ) (s t : List (List ℕ × ℕ)) → CountsOneMore s t w
    → Tallies (w ∷ []) s t
tallies_one w s t more = record {
  counts = λ v. let c = more.counts v in let o = times_one v w in omega arith;
  sum = let c = more.total in omega arith;
}

pub tallies_then : (us ws : List (List ℕ)) (r s t : List (List ℕ × ℕ)) → Tallies us r s
    → Tallies ws s t → Tallies (us ++ ws) r t
tallies_then us ws r s t first second = record {
  counts = λ w. let a = first.counts w in let b = second.counts w in
      let c = times_append w us ws in omega arith;
  sum = let a = first.sum in let b = second.sum in let c = length-append us ws in omega arith;
}
