-- How the sums over all seats change where one view does.
use Rattle.std.proofs.Common.{◌≡◌, ℕ, suc, ◌+◌, ◌<◌, List, [], ◌∷◌, set, get_or, length, refl, arith}
use mathlib.Core.Logic.{dite}
use native.Mathlib.Decide.{dec_lt}
use Rattle.std.specs.List.{sum_by, Any}
use Rattle.std.proofs.lemmas.List.Sums.{sum_by-set, sum_by-cons}
use Rattle.sticky_count.specs.declared.view.Phase.{Phase}
use Rattle.sticky_count.specs.declared.view.Phase.TheVariants as phase
use Rattle.sticky_count.specs.declared.view.View.{View}
use Rattle.sticky_count.specs.Views.{fresh, IsToFinish, IsToHelp}

-- 1 for a seat that is to finish
abbrev pub finishes : Phase → ℕ
finishes phase.Idle = 0
finishes phase.Finish = 1
finishes phase.Help = 0
finishes phase.Zero = 0

-- 1 for a seat that is to take the help flag
abbrev pub helps : Phase → ℕ
helps phase.Idle = 0
helps phase.Finish = 0
helps phase.Help = 1
helps phase.Zero = 0

-- over all seats: the counts held, the adds used, the seats that are to finish and to help, and the ends
pub record Sums : Type 0 where
  pub held : ℕ
  pub adds : ℕ
  pub finishing : ℕ
  pub helping : ℕ
  pub ended : ℕ

abbrev pub sums : List View → Sums
sums vs = record {
  held = sum_by (λ (v : View). v.held) vs;
  adds = sum_by (λ (v : View). v.adds) vs;
  finishing = sum_by (λ (v : View). finishes v.phase) vs;
  helping = sum_by (λ (v : View). helps v.phase) vs;
  ended = sum_by (λ (v : View). v.ended) vs;
}

-- the sums before and after a change of one view
pub record Changed (s s' : Sums) (v v' : View) : Type 0 where
  pub held : s'.held + v.held ≡ s.held + v'.held
  pub adds : s'.adds + v.adds ≡ s.adds + v'.adds
  pub finishing : s'.finishing + finishes v.phase ≡ s.finishing + finishes v'.phase
  pub helping : s'.helping + helps v.phase ≡ s.helping + helps v'.phase
  pub ended : s'.ended + v.ended ≡ s.ended + v'.ended

pub changes : (vs : List View) (i : ℕ) (w : View) → i < length vs
    → Changed (sums vs) (sums (set vs i w)) (get_or vs i (fresh 0)) w
changes vs i w h = record {
  held = sum_by-set (λ (v : View). v.held) vs i w (fresh 0) h;
  adds = sum_by-set (λ (v : View). v.adds) vs i w (fresh 0) h;
  finishing = sum_by-set (λ (v : View). finishes v.phase) vs i w (fresh 0) h;
  helping = sum_by-set (λ (v : View). helps v.phase) vs i w (fresh 0) h;
  ended = sum_by-set (λ (v : View). v.ended) vs i w (fresh 0) h;
}

-- a sum above 0 has a term above 0
some_positive : (f : View → ℕ) (vs : List View) → 0 < sum_by f vs → Any (λ v. 0 < f v) vs
some_positive f [] h = absurd (omega arith)
some_positive f (v ∷ vs) h = dite (dec_lt 0 (f v))
    (λ here. (0, v, omega arith, refl, here))
    (λ none. let r = some_positive f vs (omega (arith, sum_by-cons f v vs)) in (suc r.0, r.1, omega arith, r.3, r.4))

finish_phase : (p : Phase) → 0 < finishes p → p ≡ phase.Finish
finish_phase phase.Idle h = absurd (omega arith)
finish_phase phase.Finish h = λ _. phase.Finish
finish_phase phase.Help h = absurd (omega arith)
finish_phase phase.Zero h = absurd (omega arith)

help_phase : (p : Phase) → 0 < helps p → p ≡ phase.Help
help_phase phase.Idle h = absurd (omega arith)
help_phase phase.Finish h = absurd (omega arith)
help_phase phase.Help h = λ _. phase.Help
help_phase phase.Zero h = absurd (omega arith)

pub some_finisher : (vs : List View) → 0 < (sums vs).finishing → Any IsToFinish vs
some_finisher vs h = let a = some_positive (λ v. finishes v.phase) vs h in (a.0, a.1, a.2, a.3, finish_phase a.1.phase a.4)

pub some_helper : (vs : List View) → 0 < (sums vs).helping → Any IsToHelp vs
some_helper vs h = let a = some_positive (λ v. helps v.phase) vs h in (a.0, a.1, a.2, a.3, help_phase a.1.phase a.4)
