-- A text has one output where the machine leaves nothing open.
use Rattle.std.proofs.Common.{◌≡◌, ℕ, List, [], ◌∷◌, ◌++◌, Bool, true, false, ap, ap₂, sym, ◌∙◌, inl, inr}
use Rattle.std.specs.Bool.{MatchBool}
use Rattle.line_words.specs.declared.reason.Reason.{Reason}
use Rattle.line_words.specs.Lines.{numbered_lines}
use Rattle.line_words.specs.Words.{words_of, is_blank}
use Rattle.line_words.specs.Refused.{refused_line}
use Rattle.line_machine.specs.Runs.{Goes, IsDefinite, IsRun}
use Rattle.line_machine.proofs.Leads.{Done}

-- two matches on one truth value are in one case
in_one_case : (b : Bool) {P Q P' Q' R : Type 0} → (P → P' → R) → (Q → Q' → R)
    → MatchBool b P Q → MatchBool b P' Q' → R
in_one_case true both_true both_false first second = both_true first second
in_one_case false both_true both_false first second = both_false first second

module _ {S : Type 0} (Takes : S → List (List ℕ) → List ℕ → S → Type 0)
    (Refuses : S → List (List ℕ) → Reason → Type 0) (Ends : S → List ℕ → Bool → Type 0)
    (definite : IsDefinite Takes Refuses Ends) where
  -- two answers are the same: their bytes, whether they are refusals, and where they lead
  abbrev AreSame : List ℕ → List ℕ → Bool → Bool → S → S → Type 0
  AreSame bytes others refused other last end =
      (bytes ≡ others) × (refused ≡ other) × (last ≡ end)

  -- from each state these lines write one output
  abbrev WriteOne : List (ℕ × List ℕ) → Type 0
  WriteOne lines =
      (s : S) (bytes others : List ℕ) (refused other : Bool) (last end : S)
      → Goes Takes Refuses Ends s lines bytes refused last
      → Goes Takes Refuses Ends s lines others other end
      → AreSame bytes others refused other last end

  -- a line that isn't blank does one thing, if the rest writes one output
  done_are_one : (s : S) (line : ℕ × List ℕ) (rest : List (ℕ × List ℕ)) → WriteOne rest
      → (bytes others : List ℕ) (refused other : Bool) (last end : S)
      → Done Takes Refuses Ends s line rest bytes refused last
      → Done Takes Refuses Ends s line rest others other end
      → AreSame bytes others refused other last end
  done_are_one s line rest one bytes others refused other last end
      (inl (out, more, next, takes, goes, is)) (inl (out', more', next', takes', goes', is')) =
      let step = definite.one_step s (words_of line.1) out out' next next' takes takes' in
      let same = one next' more more' refused other last end (rw step.1 at goes) goes' in
      (is ∙ ap₂ (λ xs ys. xs ++ ys) step.0 same.0 ∙ sym is', same.1, same.2)
  done_are_one s line rest one bytes others refused other last end
      (inl (out, more, next, takes, goes, is)) (inr (reason, refuses, is', told', stays')) =
      absurd (definite.not_refused s (words_of line.1) out next reason takes refuses)
  done_are_one s line rest one bytes others refused other last end
      (inr (reason, refuses, is, told, stays)) (inl (out', more', next', takes', goes', is')) =
      absurd (definite.not_refused s (words_of line.1) out' next' reason takes' refuses)
  done_are_one s line rest one bytes others refused other last end
      (inr (reason, refuses, is, told, stays)) (inr (reason', refuses', is', told', stays')) =
      let same = definite.one_reason s (words_of line.1) reason reason' refuses refuses' in
      (is ∙ ap (refused_line line.0) same ∙ sym is', told ∙ sym told', stays ∙ sym stays')

  goes_are_one : (lines : List (ℕ × List ℕ)) → WriteOne lines
  goes_are_one [] s bytes others refused other last end first second =
      let same = definite.one_end s bytes others refused other first.0 second.0 in
      (same.0, same.1, first.1 ∙ sym second.1)
  goes_are_one (line ∷ lines) s bytes others refused other last end first second =
      in_one_case (is_blank (words_of line.1))
      (goes_are_one lines s bytes others refused other last end)
      (done_are_one s line lines (goes_are_one lines) bytes others refused other last end)
      first second

  pub runs_are_one : (s : S) (text bytes others : List ℕ) (refused other : Bool) (last end : S)
      → IsRun Takes Refuses Ends s text bytes refused last
      → IsRun Takes Refuses Ends s text others other end
      → AreSame bytes others refused other last end
  runs_are_one s text = goes_are_one (numbered_lines text) s
