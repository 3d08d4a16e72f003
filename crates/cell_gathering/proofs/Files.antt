-- What the files of all tickets come to: those of the last round are the files of the work, and all of them have each
-- word as often as it occurs.
use Rattle.std.proofs.Common.{◌≡◌, ℕ, ◌+◌, ◌*◌, ◌≤◌, inl, inr, All, List, [], ◌∷◌, ◌++◌, refl, sym, ap, subst, ◌∙◌, arith}
use Rattle.std.specs.Prelude.{◌%◌, ◌-◌, ◌/◌, cond, length, map, nat_le, nat_lt, slice_index_or}
use Rattle.std.specs.List.{filter, flat_map, sum_by}
use Rattle.std.specs.Str.{bytes_eq}
use Rattle.std.proofs.lemmas.Bool.{cases_lt}
use Rattle.std.proofs.lemmas.List.{get_or_past, length-map, map-append}
use Rattle.std.proofs.lemmas.List.Elements.{All-map, filter-append}
use Rattle.std.proofs.lemmas.List.Sums.{sum_by-append, sum_by-cons}
use Rattle.cell_rest.specs.cdrc_text.Fold.{File, holders_in, times}
use Rattle.cell_lanes.specs.lane_work.FilePieces.{pieces_in}
use Rattle.cell_lanes.specs.lane_work.Sizes.{texts_in}
use Rattle.cell_lanes.specs.lane_work.Work.{all_tickets, is_last, kept_files, words_of, words_of_all}
use Rattle.cell_lanes.specs.lane_work.declared.work.Work.{Work}
use Rattle.ticket_shares.specs.Tickets.{IsEachOnce, file_of}
use Rattle.ticket_shares.specs.Tickets as shares
use Rattle.ticket_shares.proofs.Rounds.{round_counts, round_sums}

-- OF LISTS
pub times_both : (w : List ℕ) (xs ys : List (List ℕ)) → times w (xs ++ ys) ≡ times w xs + times w ys
times_both w xs ys = sum_by-append (λ (y : List ℕ). cond (bytes_eq w y) 1 0) xs ys

-- the files of tickets, one list of tickets after the other
pub words_none : (work : Work) → words_of_all work [] ≡ []
unfolding words_of_all
words_none work = refl

pub kept_both : (work : Work) (ts us : List ℕ)
    → kept_files work (ts ++ us) ≡ kept_files work ts ++ kept_files work us
kept_both work ts us =
    ap (map (words_of work)) (filter-append (is_last work) ts us)
    ∙ map-append (words_of work) (filter (is_last work) ts) (filter (is_last work) us)

-- a number that adds up over lists
module _ (number : List (List ℕ) → ℕ) (nothing : number [] ≡ 0)
    (adds : (xs ys : List (List ℕ)) → number (xs ++ ys) ≡ number xs + number ys) where
  sum_flat : (words : ℕ → List (List ℕ)) (ts : List ℕ)
      → number (flat_map words ts) ≡ sum_by (λ t. number (words t)) ts
  sum_flat words [] = nothing
  sum_flat words (t ∷ ts) =
      let rest = sum_flat words ts in
      let all = sum_by-cons (λ u. number (words u)) t ts in
      let both = adds (words t) (flat_map words ts) in omega (arith, rest, all, both)

module _ (work : Work) (tickets : List ℕ) where
  many : length (texts_in work) ≡ length work.files.items
  many = length-map work.files.items pieces_in

  word_is : (t : ℕ) → words_of work t ≡ file_of [] (texts_in work) t
  word_is t = ap (λ n. slice_index_or (texts_in work) (t % n) []) (sym many)

  last_is : (t : ℕ) → is_last work t ≡ shares.is_last work.rounds (texts_in work) t
  last_is t = ap (λ n. nat_le (work.rounds - 1) (t / n)) (sym many)

  kept_is : kept_files work tickets
      ≡ map (file_of [] (texts_in work)) (filter (shares.is_last work.rounds (texts_in work)) tickets)
  kept_is = λ i. map (λ t. word_is t i) (filter (λ t. last_is t i) tickets)

  each_once : IsEachOnce (all_tickets work) tickets
      → IsEachOnce (work.rounds * length (texts_in work)) tickets
  each_once once = subst (λ n. IsEachOnce (work.rounds * n) tickets) (sym many) once

  -- a word has as many holders among those that are kept
  pub same_holders : 1 ≤ work.rounds → IsEachOnce (all_tickets work) tickets → (w : List ℕ)
      → holders_in w (kept_files work tickets) ≡ holders_in w (texts_in work)
  same_holders some once w =
      ap (holders_in w) kept_is
      ∙ round_counts [] (λ (f : File). nat_lt 0 (times w f)) (texts_in work) work.rounds tickets some
      (each_once once)

  -- it stands among all words as often as it occurs
  pub same_times : IsEachOnce (all_tickets work) tickets → (w : List ℕ)
      → times w (words_of_all work tickets)
      ≡ work.rounds * sum_by (λ (f : File). times w f) (texts_in work)
  unfolding words_of_all
  same_times once w =
      sum_flat (times w) refl (times_both w) (words_of work) tickets
      ∙ (λ i. sum_by (λ t. times w (word_is t i)) tickets)
      ∙ round_sums [] (times w) (texts_in work) work.rounds tickets (each_once once)

  -- what is so of each file of the work, and of no words, is so of each that is kept
  pub each_kept : (P : File → Type 0) → P [] → All P (texts_in work) → All P (kept_files work tickets)
  each_kept P none all =
      All-map P (words_of work) (filter (is_last work) tickets) (λ k d inside.
      at ((slice_index_or (filter (is_last work) tickets) k d) % length work.files.items))
    where
      at : (i : ℕ) → P (slice_index_or (texts_in work) i [])
      at i = elim (cases_lt i (length (texts_in work))) [
        | inl inside ↦ all i [] inside
        | inr past ↦ subst P (sym (get_or_past (texts_in work) i [] past)) none
      ]
