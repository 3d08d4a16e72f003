-- The files whose records are kept are the files of the work.
use Rattle.std.proofs.Common.{◌≡◌, ℕ, ◌*◌, ◌≤◌, inl, inr, List, [], sym, ap, subst, ◌∙◌}
use Rattle.std.specs.Prelude.{◌%◌, ◌-◌, ◌/◌, length, map, nat_le, nat_lt, slice_index_or}
use Rattle.std.specs.List.{All, filter}
use Rattle.std.proofs.lemmas.Bool.{cases_lt}
use Rattle.std.proofs.lemmas.List.{get_or_past, length-map}
use Rattle.std.proofs.lemmas.List.Elements.{All-map}
use Rattle.tally_sums.specs.cdrc_text.Fold.{File, holders_in, times}
use Rattle.ticket_shares.specs.Tickets.{IsEachOnce, file_of}
use Rattle.ticket_shares.specs.Tickets as shares
use Rattle.ticket_shares.proofs.Rounds.{round_counts}
use Rattle.lane_domain.specs.lane_files.lane_work.declared.work.Work.{Work}
use Rattle.lane_domain.specs.lane_files.FilePieces.{pieces_in}
use Rattle.lane_domain.specs.lane_files.Work.{all_tickets, is_last, kept_files, words_of}
use Rattle.lane_domain.specs.Sizes.{texts_in}

module _ (work : Work) (tickets : List ℕ) where
  many : length (texts_in work) ≡ length work.files.items
  many = length-map work.files.items pieces_in

  word_is : (t : ℕ) → words_of work t ≡ file_of [] (texts_in work) t
  word_is t = ap (λ n. slice_index_or (texts_in work) (t % n) []) (sym many)

  last_is : (t : ℕ) → is_last work t ≡ shares.is_last work.rounds (texts_in work) t
  last_is t = ap (λ n. nat_le (work.rounds - 1) (t / n)) (sym many)

  kept_is : kept_files work tickets
      ≡ map (file_of [] (texts_in work)) (filter (shares.is_last work.rounds (texts_in work)) tickets)
  kept_is = λ i. map (λ t. word_is t i) (filter (λ t. last_is t i) tickets)

  -- a word has as many holders among them
  pub same_holders : 1 ≤ work.rounds → IsEachOnce (all_tickets work) tickets → (w : List ℕ)
      → holders_in w (kept_files work tickets) ≡ holders_in w (texts_in work)
  same_holders some once w =
      ap (holders_in w) kept_is
      ∙ round_counts [] (λ (f : File). nat_lt 0 (times w f)) (texts_in work) work.rounds tickets some
      (subst (λ n. IsEachOnce (work.rounds * n) tickets) (sym many) once)

  -- what is so of each file of the work, and of no file, is so of them
  pub each_kept : (P : File → Type 0) → P [] → All P (texts_in work) → All P (kept_files work tickets)
  each_kept P none all =
      All-map P (words_of work) (filter (is_last work) tickets) (λ k d inside.
      at ((slice_index_or (filter (is_last work) tickets) k d) % length work.files.items))
    where
      at : (i : ℕ) → P (slice_index_or (texts_in work) i [])
      at i = elim (cases_lt i (length (texts_in work))) [
        | inl inside ↦ all i [] inside
        | inr past ↦ subst P (sym (get_or_past (texts_in work) i [] past)) none
      ]
