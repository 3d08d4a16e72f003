-- A run in its middle: what is written so far, and whatever the lines that are left write.
use Rattle.std.proofs.Common.{◌≡◌, ◌⊎◌, ℕ, List, [], ◌∷◌, ◌++◌, Bool, true, false, refl, subst, sym, inl, inr}
use Rattle.std.proofs.lemmas.List.{append_assoc}
use Rattle.std.specs.Bool.{MatchBool}
use Rattle.line_words.specs.declared.reason.Reason.{Reason}
use Rattle.line_words.specs.Words.{words_of, is_blank}
use Rattle.line_words.specs.Refused.{refused_line}
use Rattle.line_machine.specs.Runs.{Goes}

in_true : {b : Bool} (P Q : Type 0) → b ≡ true → P → MatchBool b P Q
in_true {b} P Q is p = subst (λ (x : Bool). MatchBool x P Q) (sym is) p

in_false : {b : Bool} (P Q : Type 0) → b ≡ false → Q → MatchBool b P Q
in_false {b} P Q is q = subst (λ (x : Bool). MatchBool x P Q) (sym is) q

module _ {S : Type 0} (Takes : S → List (List ℕ) → List ℕ → S → Type 0)
    (Refuses : S → List (List ℕ) → Reason → Type 0) (Ends : S → List ℕ → Bool → Type 0) where
  -- from the first state on all lines write what is written, and then whatever the rest writes from s on
  abbrev pub Leads : S → List (ℕ × List ℕ) → List ℕ → S → List (ℕ × List ℕ) → Type 0
  Leads first all written s rest =
      (bytes : List ℕ) (refused : Bool) (last : S)
      → Goes Takes Refuses Ends s rest bytes refused last
      → Goes Takes Refuses Ends first all (written ++ bytes) refused last

  pub leads_start : (s : S) (all : List (ℕ × List ℕ)) → Leads s all [] s all
  leads_start s all bytes refused last goes = goes

  -- what a line that isn't blank does
  abbrev pub Done : S → ℕ × List ℕ → List (ℕ × List ℕ) → List ℕ → Bool → S → Type 0
  Done s line rest bytes refused last =
      ((out : List ℕ) × (more : List ℕ) × (next : S) × Takes s (words_of line.1) out next
      × Goes Takes Refuses Ends next rest more refused last × (bytes ≡ out ++ more))
      ⊎ ((reason : Reason) × Refuses s (words_of line.1) reason
      × (bytes ≡ refused_line line.0 reason) × (refused ≡ true) × (last ≡ s))

  pub leads_blank : (first : S) (all : List (ℕ × List ℕ)) (written : List ℕ) (s : S)
      (line : ℕ × List ℕ) (rest : List (ℕ × List ℕ)) → is_blank (words_of line.1) ≡ true
      → Leads first all written s (line ∷ rest) → Leads first all written s rest
  leads_blank first all written s line rest blank leads bytes refused last goes =
      leads bytes refused last
      (in_true (Goes Takes Refuses Ends s rest bytes refused last)
      (Done s line rest bytes refused last) blank goes)

  pub leads_taken : (first : S) (all : List (ℕ × List ℕ)) (written : List ℕ) (s : S)
      (line : ℕ × List ℕ) (rest : List (ℕ × List ℕ)) (out : List ℕ) (next : S)
      → is_blank (words_of line.1) ≡ false → Takes s (words_of line.1) out next
      → Leads first all written s (line ∷ rest) → Leads first all (written ++ out) next rest
  leads_taken first all written s line rest out next filled takes leads bytes refused last goes =
      subst (λ (text : List ℕ). Goes Takes Refuses Ends first all text refused last)
      (sym (append_assoc written out bytes))
      (leads (out ++ bytes) refused last
      (in_false (Goes Takes Refuses Ends s rest (out ++ bytes) refused last)
      (Done s line rest (out ++ bytes) refused last) filled
      (inl (out, bytes, next, takes, goes, refl))))

  pub refused_there : (first : S) (all : List (ℕ × List ℕ)) (written : List ℕ) (s : S)
      (line : ℕ × List ℕ) (rest : List (ℕ × List ℕ)) (reason : Reason)
      → is_blank (words_of line.1) ≡ false → Refuses s (words_of line.1) reason
      → Leads first all written s (line ∷ rest)
      → Goes Takes Refuses Ends first all (written ++ refused_line line.0 reason) true s
  refused_there first all written s line rest reason filled refuses leads =
      let bytes : List ℕ = refused_line line.0 reason in
      leads bytes true s
      (in_false (Goes Takes Refuses Ends s rest bytes true s) (Done s line rest bytes true s) filled
      (inr (reason, refuses, refl, refl, refl)))

  pub ended : (first : S) (all : List (ℕ × List ℕ)) (written : List ℕ) (s : S) (out : List ℕ) (refused : Bool)
      → Ends s out refused → Leads first all written s []
      → Goes Takes Refuses Ends first all (written ++ out) refused s
  ended first all written s out refused ends leads = leads out refused s (ends, refl)

  -- the same, as a loop has them: by equations
  at_lines : (first : S) (all : List (ℕ × List ℕ)) (written : List ℕ) (s : S) {xs ys : List (ℕ × List ℕ)} → xs ≡ ys
      → Leads first all written s xs → Leads first all written s ys
  at_lines first all written s same leads =
      subst (λ (lines : List (ℕ × List ℕ)). Leads first all written s lines) same leads

  with_text : (first : S) (all : List (ℕ × List ℕ)) (s : S) (rest : List (ℕ × List ℕ)) {v w : List ℕ} → v ≡ w
      → Leads first all w s rest → Leads first all v s rest
  with_text first all s rest same leads =
      subst (λ (text : List ℕ). Leads first all text s rest) (sym same) leads

  pub begins : (s : S) (all rest : List (ℕ × List ℕ)) (written : List ℕ) → written ≡ [] → rest ≡ all
      → Leads s all written s rest
  begins s all rest written nothing whole =
      at_lines s all written s (sym whole) (with_text s all s all nothing (leads_start s all))

  pub skips : (first : S) (all : List (ℕ × List ℕ)) (written : List ℕ) (s : S) (lines rest : List (ℕ × List ℕ))
      (line : ℕ × List ℕ) (words : List (List ℕ)) → lines ≡ line ∷ rest → words ≡ words_of line.1
      → is_blank words ≡ true → Leads first all written s lines → Leads first all written s rest
  skips first all written s lines rest line words split are blank leads =
      leads_blank first all written s line rest
      (subst (λ (ws : List (List ℕ)). is_blank ws ≡ true) are blank) (at_lines first all written s split leads)

  pub goes_on : (first : S) (all : List (ℕ × List ℕ)) (written text : List ℕ) (s next : S)
      (lines rest : List (ℕ × List ℕ)) (line : ℕ × List ℕ) (words : List (List ℕ)) → lines ≡ line ∷ rest
      → words ≡ words_of line.1 → is_blank words ≡ false
      → (out : List ℕ) × (text ≡ written ++ out) × Takes s words out next
      → Leads first all written s lines → Leads first all text next rest
  goes_on first all written text s next lines rest line words split are filled (out, is, takes) leads =
      with_text first all next rest is
      (leads_taken first all written s line rest out next
      (subst (λ (ws : List (List ℕ)). is_blank ws ≡ false) are filled)
      (subst (λ (ws : List (List ℕ)). Takes s ws out next) are takes) (at_lines first all written s split leads))

  pub stops : (first : S) (all : List (ℕ × List ℕ)) (written before text : List ℕ) (s : S)
      (lines rest : List (ℕ × List ℕ)) (line : ℕ × List ℕ) (words : List (List ℕ)) (reason : Reason)
      → lines ≡ line ∷ rest → words ≡ words_of line.1 → is_blank words ≡ false
      → (before ≡ written) × Refuses s words reason → text ≡ before ++ refused_line line.0 reason
      → Leads first all written s lines
      → (last : S) → last ≡ s → Goes Takes Refuses Ends first all text true last
  stops first all written before text s lines rest line words reason split are filled
      (same, refuses) is leads last stays =
      subst (λ (x : List ℕ × S). Goes Takes Refuses Ends first all x.0 true x.1)
      (λ i. (sym is i, sym stays i))
      (refused_there first all before s line rest reason
      (subst (λ (ws : List (List ℕ)). is_blank ws ≡ false) are filled)
      (subst (λ (ws : List (List ℕ)). Refuses s ws reason) are refuses)
      (with_text first all s (line ∷ rest) same (at_lines first all written s split leads)))

  pub comes_to_an_end : (first : S) (all : List (ℕ × List ℕ)) (written text : List ℕ) (s : S) (refused : Bool)
      (lines : List (ℕ × List ℕ)) → lines ≡ []
      → (out : List ℕ) × (text ≡ written ++ out) × Ends s out refused
      → Leads first all written s lines → Goes Takes Refuses Ends first all text refused s
  comes_to_an_end first all written text s refused lines none (out, is, ends) leads =
      subst (λ (bytes : List ℕ). Goes Takes Refuses Ends first all bytes refused s) (sym is)
      (ended first all written s out refused ends (at_lines first all written s none leads))
