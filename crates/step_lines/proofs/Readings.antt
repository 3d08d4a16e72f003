-- What two readings are at once, and what a reading is that is made into another.
use Rattle.std.proofs.Common.{◌≡◌, ◌≢◌, ◌⊎◌, inl, inr, refl, sym, ap, subst, Result, Ok, Err}
use Rattle.std.specs.Result.{IfOk, IsErrAnd, IsOkAnd, MatchResult}
use Rattle.step_lines.specs.declared.refused.EventRefused.{EventRefused}
use Rattle.step_lines.specs.declared.refused.EventRefused.TheVariants.{Syntax, Range}
use Rattle.step_lines.specs.Reading.{Reads}

-- both are spelled, and one of them is beyond what can be held
abbrev pub Both : {A B : Type 0} → (A → Type 0) → (B → Type 0) → A × B → Type 0
Both P Q x = P x.0 × Q x.1

abbrev pub OneOf : {A B : Type 0} → (A → Type 0) → (B → Type 0) → A × B → Type 0
OneOf P Q x = P x.0 ⊎ Q x.1

module _ {A B : Type 0} (P P' : A → Type 0) (Q Q' : B → Type 0) where
  one_is_beyond : (first : Result A EventRefused) (second : Result B EventRefused)
      → (first ≡ Err Range) ⊎ (second ≡ Err Range) → first ≢ Err Syntax → second ≢ Err Syntax
      → Reads P P' first → Reads Q Q' second → (x : A × B) × Both P Q x × OneOf P' Q' x
  one_is_beyond (Err Syntax) second far no_first no_second one two = absurd (no_first refl)
  one_is_beyond first (Err Syntax) far no_first no_second one two = absurd (no_second refl)
  one_is_beyond (Ok a) (Ok b) far no_first no_second one two = absurd (elim far [ inl e ↦ cc | inr e ↦ cc ])
  one_is_beyond (Ok a) (Err Range) far no_first no_second one two = ((a, two.0), (one, two.1), inr two.2)
  one_is_beyond (Err Range) (Ok b) far no_first no_second one two = ((one.0, b), (one.1, two), inl one.2)
  one_is_beyond (Err Range) (Err Range) far no_first no_second one two = ((one.0, two.0), (one.1, two.1), inl one.2)

  -- what `both` gives is read
  pub reads_both : (first : Result A EventRefused) (second : Result B EventRefused) (r : Result (A × B) EventRefused)
      → IfOk r (λ x. (first ≡ Ok x.0) × (second ≡ Ok x.1))
      → (r ≡ Err Syntax → (first ≡ Err Syntax) ⊎ (second ≡ Err Syntax))
      → (r ≡ Err Range → ((first ≡ Err Range) ⊎ (second ≡ Err Range)) × (first ≢ Err Syntax) × (second ≢ Err Syntax))
      → Reads P P' first → Reads Q Q' second → Reads (Both P Q) (OneOf P' Q') r
  reads_both first second (Ok x) ok syntax range one two =
      (subst (λ (r : Result A EventRefused). Reads P P' r) ok.0 one, subst (λ (r : Result B EventRefused). Reads Q Q' r) ok.1 two)
  reads_both first second (Err Syntax) ok syntax range one two = elim (syntax refl) [
    | inl e ↦ λ x both. subst (λ (r : Result A EventRefused). Reads P P' r) e one x.0 both.0
    | inr e ↦ λ x both. subst (λ (r : Result B EventRefused). Reads Q Q' r) e two x.1 both.1
  ]
  reads_both first second (Err Range) ok syntax range one two =
      let far = range refl in one_is_beyond first second far.0 far.1 far.2 one two

-- what is read is made into something else
module _ {A B : Type 0} (P P' : A → Type 0) (Q Q' : B → Type 0) (make : A → B) where
  pub reads_made : ((x : A) → P x → Q (make x)) → ((y : B) → Q y → (x : A) × P x) → ((x : A) → P' x → Q' (make x))
      → (r : Result A EventRefused) (m : Result B EventRefused)
      → MatchResult r (λ x. IsOkAnd m (λ y. y ≡ make x)) (λ e. m ≡ Err e) → Reads P P' r → Reads Q Q' m
  reads_made makes only far (Ok x) (Ok y) is reads = subst Q (sym is) (makes x reads)
  reads_made makes only far (Ok x) (Err e) is reads = absurd is
  reads_made makes only far (Err Syntax) m is reads =
      subst (λ (r : Result B EventRefused). Reads Q Q' r) (sym is) (λ y spells. let found = only y spells in reads found.0 found.1)
  reads_made makes only far (Err Range) m is reads =
      subst (λ (r : Result B EventRefused). Reads Q Q' r) (sym is) (make reads.0, makes reads.0 reads.1, far reads.0 reads.2)

  -- a refusal is handed on
  pub reads_refused : ((x : A) → P x → Q (make x)) → ((y : B) → Q y → (x : A) × P x) → ((x : A) → P' x → Q' (make x))
      → (r : Result B EventRefused) (e : EventRefused) → IsErrAnd r (λ y. y ≡ e) → Reads P P' (Err e) → Reads Q Q' r
  reads_refused makes only far (Ok y) e is reads = absurd is
  reads_refused makes only far (Err y) e is reads = reads_made makes only far (Err e) (Err y) (ap (λ x. Err x) is) reads

-- what is read is seen as something else
module _ {A : Type 0} (P P' Q Q' : A → Type 0) where
  pub reads_as : ((x : A) → P x → Q x) → ((x : A) → Q x → P x) → ((x : A) → P' x → Q' x)
      → (r : Result A EventRefused) → Reads P P' r → Reads Q Q' r
  reads_as makes only far (Ok x) reads = makes x reads
  reads_as makes only far (Err Syntax) reads = λ x spells. reads x (only x spells)
  reads_as makes only far (Err Range) reads = (reads.0, makes reads.0 reads.1, far reads.0 reads.2)

-- what a reading says of each refusal
module _ {A : Type 0} (P P' : A → Type 0) (r : Result A EventRefused) (reads : Reads P P' r) where
  pub if_syntax : r ≡ Err Syntax → (x : A) → P x → ⊥
  if_syntax is = subst (λ (r : Result A EventRefused). Reads P P' r) is reads

  pub if_range : r ≡ Err Range → (x : A) × P x × P' x
  if_range is = subst (λ (r : Result A EventRefused). Reads P P' r) is reads
