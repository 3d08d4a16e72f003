-- The last three lines begin where no more than three line feeds are left, and one stands before.
use Rattle.std.proofs.Common.{◌≡◌, ℕ, ◌+◌, ◌-◌, ◌<◌, ◌≤◌, ◌⊎◌, inl, inr, List, [], ◌∷◌, ◌++◌, length, drop, get_or, refl, sym, ap, ◌∙◌, arith, length-append, cond, ◌==◌}
use Rattle.std.proofs.lemmas.Bool.{cases_eq, eq-eqb, ne_eqb}
use Rattle.std.proofs.lemmas.List.{get_or_append_left, get_or-append_right}
use Rattle.std.proofs.Math.Seq.{drop-append_seam, drop-append-add}
use Rattle.command_line.specs.cdrc_text.declared.row.Totals.{Totals}
use Rattle.command_line.specs.cdrc_text.Report.{closing_lines}
use Rattle.cdrc_run.specs.Closings.{IsWholeLines}
use Rattle.cdrc_run.proofs.Feeds.{closing_feeds, feeds_at, feeds_drop, feeds_in}

-- whole lines end with a line feed
ends : (front more : List ℕ) → IsWholeLines front → 0 < length front
    → get_or (front ++ more) (length front - 1) 0 ≡ 10
ends front more whole some = elim whole [
  | inl none ↦ let l = ap length none in absurd (omega arith)
  | inr last ↦
      let l = ap length last.1 in let m = length-append last.0 (10 ∷ []) in
      get_or_append_left front more 0 (length front - 1) (omega arith)
      ∙ ap (λ xs. get_or xs (length front - 1) 0) last.1
      ∙ get_or-append_right last.0 (10 ∷ []) (length last.0) (length front - 1) 0 refl (omega arith)
      ∙ ap (λ n. get_or (10 ∷ []) n 0) (let e : length front - 1 - length last.0 ≡ 0 = omega arith in e)
]

module _ (text front : List ℕ) (distinct : ℕ) (totals : Totals) (whole : IsWholeLines front)
    (is : text ≡ front ++ closing_lines distinct totals) where
  abbrev closing : List ℕ
  closing = closing_lines distinct totals

  at_front : feeds_in (drop (length front) text) ≡ 3
  at_front =
      ap (λ xs. feeds_in (drop (length front) xs)) is
      ∙ ap feeds_in (drop-append_seam front closing) ∙ closing_feeds distinct totals

  pub few_left : (k : ℕ) → length front ≤ k → feeds_in (drop k text) ≤ 3
  few_left k past =
      let e : length front + (k - length front) ≡ k = omega arith in
      let a = ap (λ n. feeds_in (drop n text)) e in
      let b = ap (λ xs. feeds_in (drop (length front + (k - length front)) xs)) is in
      let c = ap feeds_in (drop-append-add front closing (k - length front)) in
      let d = feeds_drop closing (k - length front) in
      let f = closing_feeds distinct totals in omega arith

  pub still_behind : (start feeds : ℕ) → 0 < start → length front ≤ start
      → feeds ≡ feeds_in (drop start text)
      → ((get_or text (start - 1) 0 ≡ 10 → ⊥) ⊎ ((get_or text (start - 1) 0 ≡ 10) × (feeds < 3)))
      → length front ≤ start - 1
  still_behind start feeds some past count guard = elim (cases_eq (length front) start) [
    | inr ne ↦ omega arith
    | inl same ↦
        let feed : get_or text (start - 1) 0 ≡ 10
        = ap (λ n. get_or text (n - 1) 0) (sym same) ∙ ap (λ xs. get_or xs (length front - 1) 0) is
        ∙ ends front closing whole (omega arith) in
        let three = at_front in
        let here = ap (λ n. feeds_in (drop n text)) same in
        elim guard [
          | inl none ↦ absurd (none feed)
          | inr more ↦ let m = more.1 in absurd (omega arith)
        ]
  ]

  pub there : (start feeds : ℕ) → length front ≤ start → start ≤ length text
      → feeds ≡ feeds_in (drop start text)
      → (0 < start → (get_or text (start - 1) 0 ≡ 10) × (3 ≤ feeds))
      → drop start text ≡ closing
  there start feeds past within count stopped = elim (cases_eq (length front) start) [
    | inl same ↦
        ap (λ n. drop n text) (sym same) ∙ ap (drop (length front)) is ∙ drop-append_seam front closing
    | inr ne ↦
        let s = stopped (omega arith) in
        let a = feeds_at text (start - 1) 0 (omega arith) in
        let b : ◌≡◌ {A = ℕ} (cond {A = ℕ} (get_or text (start - 1) 0 == 10) 1 0) 1
        = ap {B = ℕ} (λ b. cond {A = ℕ} b 1 0) (eq-eqb (get_or text (start - 1) 0) 10 s.0) in
        let e : start - 1 + 1 ≡ start = omega arith in
        let c = ap (λ n. feeds_in (drop n text)) e in
        let f = few_left (start - 1) (omega arith) in
        let t = s.1 in absurd (omega arith)
  ]

-- one line feed more, or none
pub one_back : (text : List ℕ) (start feeds : ℕ) → 0 < start → start ≤ length text
    → feeds ≡ feeds_in (drop start text) → get_or text (start - 1) 0 ≡ 10
    → feeds + 1 ≡ feeds_in (drop (start - 1) text)
one_back text start feeds some within count feed =
    let a = feeds_at text (start - 1) 0 (omega arith) in
    let b : ◌≡◌ {A = ℕ} (cond {A = ℕ} (get_or text (start - 1) 0 == 10) 1 0) 1
    = ap {B = ℕ} (λ b. cond {A = ℕ} b 1 0) (eq-eqb (get_or text (start - 1) 0) 10 feed) in
    let e : start - 1 + 1 ≡ start = omega arith in
    let c = ap (λ n. feeds_in (drop n text)) e in omega arith

pub none_back : (text : List ℕ) (start feeds : ℕ) → 0 < start → start ≤ length text
    → feeds ≡ feeds_in (drop start text) → (get_or text (start - 1) 0 ≡ 10 → ⊥)
    → feeds ≡ feeds_in (drop (start - 1) text)
none_back text start feeds some within count none =
    let a = feeds_at text (start - 1) 0 (omega arith) in
    let b : ◌≡◌ {A = ℕ} (cond {A = ℕ} (get_or text (start - 1) 0 == 10) 1 0) 0
    = ap {B = ℕ} (λ b. cond {A = ℕ} b 1 0) (ne_eqb (get_or text (start - 1) 0) 10 none) in
    let e : start - 1 + 1 ≡ start = omega arith in
    let c = ap (λ n. feeds_in (drop n text)) e in omega arith
