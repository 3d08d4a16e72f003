-- The words that are joined so far, the one at hand, and the entries that are left.
use Rattle.std.proofs.Common.{◌≡◌, ℕ, ◌+◌, ◌<◌, ◌^◌, true, false, List, [], ◌∷◌, ◌++◌, length, refl, sym, ap, ◌∙◌, arith}
use Rattle.std.specs.Borrow.{Bor}
use Rattle.std.specs.Cmp.Lexicographic.{bytes_decides}
use Rattle.std.specs.Str.{bytes_eq}
use Rattle.std.proofs.lemmas.Bool.{cond-true, cond-false}
use Rattle.std.proofs.lemmas.List.{append_assoc, map-append}
use Rattle.std.proofs.lemmas.List.Sums.{sum_by-append, sum_by-cons}
use Rattle.cdrc_text.specs.Tally.{shown_entries, shown_entry}
use Rattle.tally_sums.specs.Sums.{added_to, added_up, sum_for}
use Rattle.tally_sums.proofs.Joined.{part, sum_to, sum_up}

abbrev Row : Type 0
Row = Bor (List ℕ) × ℕ

-- the joined words, with the one at hand and what is left, are what all entries make
abbrev pub IsJoined : List Row → Row → List Row → List Row → Type 0
IsJoined words last left all =
    shown_entries words ++ added_to (shown_entry last) (shown_entries left) ≡ added_up (shown_entries all)

pub first_joined : (words all rest : List Row) (last : Row) → words ≡ [] → all ≡ last ∷ rest
    → IsJoined words last rest all
first_joined words all rest last none is =
    ap (λ ws. shown_entries ws ++ added_to (shown_entry last) (shown_entries rest)) none
    ∙ sym (ap (λ es. added_up (shown_entries es)) is)

module _ (words all left rest : List Row) (last next : Row) (is : left ≡ next ∷ rest)
    (so : IsJoined words last left all) where
  so_far : shown_entries words ++ added_to (shown_entry last) (shown_entry next ∷ shown_entries rest)
      ≡ added_up (shown_entries all)
  so_far = ap (λ es. shown_entries words ++ added_to (shown_entry last) (shown_entries es)) (sym is) ∙ so

  module _ (same : bytes_eq next.0.now last.0.now ≡ true) where
    pub next_joins : IsJoined words (last.0, last.1 + next.1) rest all
    next_joins = ap (λ es. shown_entries words ++ es) (sym (cond-true _ _ _ same)) ∙ so_far

    pub sum_fits : ((w : List ℕ) → sum_for w (shown_entries all) < 2 ^ 63) → last.1 + next.1 < 2 ^ 63
    sum_fits few =
        let w = last.0.now in
        let a = ap (sum_for w) so_far ∙ sum_up w (shown_entries all) in
        let b = sum_by-append (part w) (shown_entries words)
        (added_to (shown_entry last) (shown_entry next ∷ shown_entries rest)) in
        let c = sum_to w (shown_entry last) (shown_entry next ∷ shown_entries rest) in
        let d = sum_by-cons (part w) (shown_entry last) (shown_entry next ∷ shown_entries rest) in
        let e = sum_by-cons (part w) (shown_entry next) (shown_entries rest) in
        let f : part w (shown_entry last) ≡ last.1 = cond-true _ _ _ ((bytes_decides w w).1 refl) in
        let g : part w (shown_entry next) ≡ next.1 =
        cond-true _ _ _ ((bytes_decides w next.0.now).1
        (sym ((bytes_decides next.0.now w).0 same))) in
        let most = few w in omega (arith, a, b, c, d, e, f, g, most)

  pub next_stands : (more : List Row) → bytes_eq next.0.now last.0.now ≡ false
      → more ≡ words ++ last ∷ [] → IsJoined more next rest all
  next_stands more apart pushed =
      ap (λ ws. shown_entries ws ++ added_to (shown_entry next) (shown_entries rest)) pushed
      ∙ ap (λ es. es ++ added_to (shown_entry next) (shown_entries rest))
      (map-append shown_entry words (last ∷ []))
      ∙ append_assoc (shown_entries words) (shown_entry last ∷ [])
      (added_to (shown_entry next) (shown_entries rest))
      ∙ ap (λ es. shown_entries words ++ es) (sym (cond-false _ _ _ apart)) ∙ so_far

no_rows : (rows : List Row) → length rows ≡ 0 → rows ≡ []
no_rows [] none = refl
no_rows (r ∷ rs) none = absurd (omega (arith, none))

pub last_stands : (words all left more : List Row) (last : Row) → IsJoined words last left all
    → length left ≡ 0 → more ≡ words ++ last ∷ [] → shown_entries more ≡ added_up (shown_entries all)
last_stands words all left more last so none pushed =
    ap (λ ws. shown_entries ws) pushed ∙ map-append shown_entry words (last ∷ [])
    ∙ ap (λ es. shown_entries words ++ added_to (shown_entry last) (shown_entries es)) (sym (no_rows left none))
    ∙ so
