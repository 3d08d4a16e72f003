use Rattle.std.proofs.Common.{◌≡◌, ℕ, ◌+◌, ◌<◌, inl, inr, List, [], ◌∷◌, get_or, refl, sym, ap, subst, ◌∙◌, arith}
use Rattle.std.proofs.lemmas.Bool.{cases_eq}
use Rattle.std.specs.Prelude.{codes}
use Rattle.std.proofs.lemmas.Bool.Decides.{nat_tests}
use Rattle.std.proofs.lemmas.List.Elements.{All-cons, All-nil}
use Rattle.std.specs.Fmt.{digits}
use Rattle.bstr.proofs.Computing.{computing}
use Rattle.cdrc_text.specs.Pieces.{fields_of}
use Rattle.number_text.proofs.Counted.{IsSome, distinct-told}
use Rattle.number_text.specs.Counts.{TellCounts, all_numbers, count_for, times}
use Rattle.number_text.specs.declared.row.CountOf.{CountOf}
use Rattle.number_text.specs.Numbers.{number_of}
use Rattle.number_text.proofs.laws.worked_indexes.Goals as goal

abbrev row : ℕ → ℕ → CountOf
row count number = record { count = count; number = number }

abbrev rows : List CountOf
rows = row 2 3 ∷ row 3 7 ∷ []

abbrev files : List (List ℕ)
files = codes "7 3 7 x" ∷ codes "3 007" ∷ []

-- each number is told as often as it stands in this list
tells : (n : ℕ) → count_for n rows ≡ times n (7 ∷ 3 ∷ 7 ∷ 3 ∷ 7 ∷ [])
unfolding count_for
tells n = elim (cases_eq 3 n) [
  | inl three ↦ subst (λ m. count_for m rows ≡ times m (7 ∷ 3 ∷ 7 ∷ 3 ∷ 7 ∷ [])) three refl
  | inr no_three ↦ elim (cases_eq 7 n) [
    | inl seven ↦ subst (λ m. count_for m rows ≡ times m (7 ∷ 3 ∷ 7 ∷ 3 ∷ 7 ∷ [])) seven refl
    | inr no_seven ↦ grind (arith, nat_tests)
  ]
]

all : all_numbers files ≡ 7 ∷ 3 ∷ 7 ∷ 3 ∷ 7 ∷ []
unfolding computing fields_of number_of
all = refl

two-tells : TellCounts files rows
two-tells = record {
  ascending = λ k below. elim (cases_eq 0 k) [
    | inl first ↦ subst (λ j. get_or (3 ∷ 7 ∷ []) j 0 < get_or (3 ∷ 7 ∷ []) (j + 1) 0) first (omega arith)
    | inr later ↦ absurd (omega (arith, below, later))
  ];
  counts = λ n. tells n ∙ ap (times n) (sym all);
  positive = All-cons IsSome (row 2 3) (row 3 7 ∷ []) (omega arith) (All-cons IsSome (row 3 7) [] (omega arith) (All-nil IsSome));
}

pub returns-clause-two : goal.returns-clause-two
unfolding computing digits fields_of number_of
returns-clause-two c = record { numbers = 3 ∷ 7 ∷ []; distinct = distinct-told files rows two-tells; written = refl }

none-tells : TellCounts (codes "x" ∷ []) []
unfolding computing count_for fields_of number_of
none-tells = record { ascending = λ k below. absurd (omega (arith, below)); counts = λ n. refl; positive = All-nil IsSome }

pub returns-clause-none : goal.returns-clause-none
unfolding computing digits fields_of number_of
returns-clause-none c = record { numbers = []; distinct = distinct-told (codes "x" ∷ []) [] none-tells; written = refl }
