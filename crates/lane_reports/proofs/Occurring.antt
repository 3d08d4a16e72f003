-- What the seats counted together is what occurs in the files, once all that was pushed was popped.
use Rattle.std.proofs.Common.{◌≡◌, ℕ, ◌+◌, ◌*◌, ◌<◌, ◌≤◌, inl, inr, Bool, true, false, cond, List, [], ◌∷◌, ◌++◌, refl, sym, ap, subst, ◌∙◌, arith}
use Rattle.std.specs.Prelude.{◌%◌, drop, length, map, slice_index_or}
use Rattle.std.specs.List.{All, count_by, flat_map, sum_by}
use Rattle.std.specs.Str.{bytes_eq}
use Rattle.std.specs.Cmp.Lexicographic.{bytes_decides}
use Rattle.std.proofs.lemmas.Bool.{cases_lt}
use Rattle.std.proofs.lemmas.List.{length-append, length-drop, length-map, length-take-le}
use Rattle.std.proofs.lemmas.List.Elements.{All-head, All-tail}
use Rattle.std.proofs.lemmas.List.Sums.{sum_by-append, sum_by-cons}
use Rattle.law_lesson.specs.plain_state.State.{Plain}
use Rattle.law_lesson.specs.plain_protocol.Laws.{Meets}
use Rattle.law_lesson.specs.plain_protocol.Owns.{is_alone}
use Rattle.words_rest.specs.queue_law.declared.view.Item.{Item}
use Rattle.words_rest.specs.queue_law.declared.view.View.{View as QueueView}
use Rattle.words_rest.specs.queue_law.Chain.{Ends}
use Rattle.words_rest.specs.queue_law.Lists.{item_times, same_item, taken_items}
use Rattle.words_rest.proofs.Below.queue_law_Shut.{left_over}
use Rattle.words_rest.specs.directory_law.declared.view.View.{View as DirectoryView}
use Rattle.words_rest.specs.directory_law.Bytes.{text_bytes}
use Rattle.words_rest.specs.directory_law.Cells.{Area}
use Rattle.words_rest.specs.directory_law.Payloads.{Text}
use Rattle.tally_sums.specs.cdrc_text.Fold.{File, times}
use Rattle.tally_sums.specs.cdrc_text.Pieces.{bytes_at}
use Rattle.tally_sums.specs.cdrc_text.Tally.{count_of, total_of}
use Rattle.words_rest.specs.words_law.Known.{KnowsTexts}
use Rattle.words_rest.specs.words_law.Law.{WordsLaw}
use Rattle.words_rest.specs.words_law.Views.{View, gone, queues}
use Rattle.words_rest.proofs.Below.words_law_Counts.{popped_is, pushed_is, same_counts}
use Rattle.words_rest.proofs.Below.words_law_Parts.{queue_at}
use Rattle.words_rest.proofs.Below.words_law_Root.{root_has, told_agree}
use Rattle.ticket_shares.specs.Tickets.{IsEachOnce, file_of}
use Rattle.ticket_shares.proofs.Rounds.{round_sums}
use Rattle.lane_domain.specs.lane_files.lane_work.declared.file.FileText.{FileText}
use Rattle.lane_domain.specs.lane_files.lane_work.declared.work.Work.{Work}
use Rattle.lane_domain.specs.lane_files.FilePieces.{HasPieces, IsLongPlace, pieces_in}
use Rattle.lane_domain.specs.lane_files.Work.{IsWork, all_tickets, words_of, words_of_all}
use Rattle.lane_domain.specs.Sizes.{all_pieces, texts_in}
use Rattle.lane_reports.specs.Deeds.{LaneDeeds}
use Rattle.lane_reports.specs.Gathering.{AreTallies, Tally, words_popped}
use Rattle.lane_reports.specs.Reporting.{CountWork}
use Rattle.lane_reports.specs.Rows.{AreWords}
use Rattle.tally_sums.specs.Sums.{Tallies, counted_in}

-- OF LISTS OF WORDS
pub times_both : (w : List ℕ) (xs ys : List (List ℕ)) → times w (xs ++ ys) ≡ times w xs + times w ys
times_both w xs ys = sum_by-append (λ (y : List ℕ). cond (bytes_eq w y) 1 0) xs ys

times_most : (w : List ℕ) (xs : List (List ℕ)) → times w xs ≤ length xs
times_most w [] = omega arith
times_most w (x ∷ xs) =
    let rest = times_most w xs in
    let all = sum_by-cons (λ (y : List ℕ). cond (bytes_eq w y) 1 0) x xs in
    let one = at_most (bytes_eq w x) in omega (arith, rest, all, one)
  where
    at_most : (b : Bool) → cond b 1 0 ≤ 1
    at_most true = omega arith
    at_most false = omega arith

-- a number that adds up over lists adds up over the files of tickets
module _ (number : List (List ℕ) → ℕ) (nothing : number [] ≡ 0)
    (adds : (xs ys : List (List ℕ)) → number (xs ++ ys) ≡ number xs + number ys) where
  sum_flat : (words : ℕ → List (List ℕ)) (ts : List ℕ)
      → number (flat_map words ts) ≡ sum_by (λ t. number (words t)) ts
  sum_flat words [] = nothing
  sum_flat words (t ∷ ts) =
      let rest = sum_flat words ts in
      let all = sum_by-cons (λ u. number (words u)) t ts in
      let both = adds (words t) (flat_map words ts) in omega (arith, rest, all, both)

  pub sum_work : (work : Work) (ts : List ℕ) → IsEachOnce (all_tickets work) ts
      → number (words_of_all work ts) ≡ work.rounds * sum_by number (texts_in work)
  unfolding words_of_all
  sum_work work ts once =
      let many : length (texts_in work) ≡ length work.files.items =
      length-map work.files.items pieces_in in
      let is : (t : ℕ) → words_of work t ≡ file_of [] (texts_in work) t =
      λ t. ap (λ n. slice_index_or (texts_in work) (t % n) []) (sym many) in
      sum_flat (words_of work) ts
      ∙ (λ i. sum_by (λ t. number (is t i)) ts)
      ∙ round_sums [] number (texts_in work) work.rounds ts
      (subst (λ n. IsEachOnce (work.rounds * n) ts) (sym many) once)

items_both : (x : Item) (xs ys : List Item)
    → item_times x (xs ++ ys) ≡ item_times x xs + item_times x ys
unfolding item_times
items_both x xs ys = sum_by-append (λ y. cond (same_item x y) 1 0) xs ys

-- OF WHAT LANES COUNTED
pub lanes_counted : (w : List ℕ) (deeds : List LaneDeeds) (others : List Tally) → AreTallies deeds others
    → sum_by (λ (t : Tally). count_of t w) others ≡ times w (words_popped deeds)
lanes_counted w [] [] are = refl
lanes_counted w [] (t ∷ ts) are = absurd are
lanes_counted w (x ∷ xs) [] are = absurd are
lanes_counted w (x ∷ xs) (t ∷ ts) are =
    let rest = lanes_counted w xs ts are.1 in
    let all = sum_by-cons (λ (u : Tally). count_of u w) t ts in
    let here = are.0.counts w in
    let both = times_both w x.words (words_popped xs) in omega (arith, rest, all, here, both)

pub lanes_total : (deeds : List LaneDeeds) (others : List Tally) → AreTallies deeds others
    → sum_by total_of others ≡ length (words_popped deeds)
lanes_total [] [] are = refl
lanes_total [] (t ∷ ts) are = absurd are
lanes_total (x ∷ xs) [] are = absurd are
lanes_total (x ∷ xs) (t ∷ ts) are =
    let rest = lanes_total xs ts are.1 in
    let all = sum_by-cons total_of t ts in
    let here = are.0.sum in
    let both = length-append x.words (words_popped xs) in omega (arith, rest, all, here, both)

as_many_texts : (v : DirectoryView) (xs : List Item) (ts : List Text) → KnowsTexts v xs ts
    → length xs ≡ length ts
as_many_texts v [] [] knows = refl
as_many_texts v [] (t ∷ ts) knows = absurd knows
as_many_texts v (x ∷ xs) [] knows = absurd knows
as_many_texts v (x ∷ xs) (t ∷ ts) knows =
    let rest = as_many_texts v xs ts knows.1 in omega (arith, rest)

all_true : (xs : List Item) → count_by (λ (x : Item). true) xs ≡ length xs
all_true [] = refl
all_true (x ∷ xs) =
    let rest = all_true xs in
    let all = sum_by-cons (λ (y : Item). cond true 1 0) x xs in omega (arith, rest, all)

none_of : (xs : List Item) → length xs ≡ 0 → xs ≡ []
none_of [] none = refl
none_of (x ∷ xs) none = absurd (omega (arith, none))

-- OF THE LAW, ONCE SEAT 0 IS ALONE AND THE QUEUE IS SHUT
module _ (u : Ends) (z : Area) (p : Plain) (views : List View) (meets : Meets (WordsLaw u z) p views)
    (alone : is_alone p 0 ≡ true) (v : View) (own : slice_index_or views 0 gone ≡ v)
    (shut : 3 ≤ v.0.stand.laid) where
  abbrev root : View
  root = slice_index_or views 0 gone

  is_shut : 3 ≤ root.0.stand.laid
  is_shut = subst (λ (x : View). 3 ≤ x.0.stand.laid) (sym own) shut

  -- what was popped and what was left is what was pushed
  lengths : length (taken_items root.0.pushed)
      ≡ length (taken_items root.0.popped) + length root.0.stand.left
  lengths =
      let has = root_has u z p views meets alone in
      let at = queue_at views 0 in
      let over = left_over u p (queues views) meets.law.both.0.0
      (subst (λ (q : QueueView). 3 ≤ q.stand.laid) (sym at) is_shut) in
      let left = ap (λ (q : QueueView). q.stand.left) at in
      let q : Item → Bool = λ x. true in
      let same = same_counts (taken_items root.0.pushed)
      (taken_items root.0.popped ++ root.0.stand.left)
      (λ x.
      let a = over.even x in
      let b = pushed_is x (queues views) ∙ ap (item_times x) has.pushed in
      let c = popped_is x (queues views) ∙ ap (item_times x) has.popped in
      let d = items_both x (taken_items root.0.popped) root.0.stand.left in
      let e = ap (item_times x) left in omega (arith, a, b, c, d, e)) q in
      let long = all_true (taken_items root.0.pushed) in
      let rest = all_true (taken_items root.0.popped ++ root.0.stand.left) in
      let both = length-append (taken_items root.0.popped) root.0.stand.left in
      omega (arith, same, long, rest, both)

  module _ (ts us : List Text) (pushed : KnowsTexts v.1 (taken_items v.0.pushed) ts)
      (popped : KnowsTexts v.1 (taken_items v.0.popped) us) (enough : length ts ≤ length us) where
    pushed_in : KnowsTexts root.1 (taken_items root.0.pushed) ts
    pushed_in = subst (λ (x : View). KnowsTexts x.1 (taken_items x.0.pushed) ts) (sym own) pushed

    popped_in : KnowsTexts root.1 (taken_items root.0.popped) us
    popped_in = subst (λ (x : View). KnowsTexts x.1 (taken_items x.0.popped) us) (sym own) popped

    none_left : root.0.stand.left ≡ []
    none_left =
        let all = lengths in
        let a = as_many_texts root.1 (taken_items root.0.pushed) ts pushed_in in
        let b = as_many_texts root.1 (taken_items root.0.popped) us popped_in in
        none_of root.0.stand.left (omega (arith, all, a, b, enough))

    pub left_none : v.0.stand.left ≡ []
    left_none = ap (λ (x : View). x.0.stand.left) (sym own) ∙ none_left

    pub as_often : (w : List ℕ) → times w (map text_bytes ts) ≡ times w (map text_bytes us)
    as_often w = told_agree u z p views meets alone is_shut none_left ts us pushed_in popped_in w

    pub as_many : length ts ≡ length us
    as_many =
        let all = lengths in
        let none = ap length none_left in
        let a = as_many_texts root.1 (taken_items root.0.pushed) ts pushed_in in
        let b = as_many_texts root.1 (taken_items root.0.popped) us popped_in in
        omega (arith, all, none, a, b)

-- WHAT WAS COUNTED
module _ (work : Work) (tickets : List ℕ) (once : IsEachOnce (all_tickets work) tickets)
    (pushed popped : List (List ℕ)) (are : pushed ≡ words_of_all work tickets)
    (even : (w : List ℕ) → times w pushed ≡ times w popped) (many : length pushed ≡ length popped)
    (tallies : Tallies) (counts : (w : List ℕ) → counted_in tallies w ≡ times w popped) where
  pub count_work : CountWork work tallies
  count_work w =
      counts w ∙ sym (even w) ∙ ap (times w) are
      ∙ sum_work (times w) refl (times_both w) work tickets once

  pub few_counted : (w : List ℕ) → counted_in tallies w ≤ work.rounds * all_pieces work
  few_counted w =
      let sum = ap length are
      ∙ sum_work (λ xs. length xs) refl (λ xs ys. length-append xs ys) work tickets once in
      let most = times_most w popped in
      let same = counts w in omega (arith, sum, most, same, many)

-- SIZES
-- a word among the pieces of a file has the size of one
size_in : (w bytes : List ℕ) (places : List (ℕ × ℕ)) → All (IsLongPlace (length bytes)) places
    → 0 < times w (map (bytes_at bytes) places) → (1 ≤ length w) × (length w ≤ 4096)
size_in w bytes [] all some = absurd (omega (arith, some))
size_in w bytes (place ∷ places) all some =
    go (bytes_eq w x) refl
    (size_in w bytes places (All-tail (IsLongPlace (length bytes)) place places all))
  where
    x : List ℕ
    x = bytes_at bytes place

    at : IsLongPlace (length bytes) place
    at = All-head (IsLongPlace (length bytes)) place places all

    long : length x ≡ place.1
    long =
        let rest = length-drop place.0 bytes in
        length-take-le place.1 (drop place.0 bytes) (omega (arith, rest, at.2))

    go : (b : Bool) → bytes_eq w x ≡ b
        → (0 < times w (map (bytes_at bytes) places) → (1 ≤ length w) × (length w ≤ 4096))
        → (1 ≤ length w) × (length w ≤ 4096)
    go true is later =
        let same = ap length ((bytes_decides w x).0 is) in
        (omega (arith, same, long, at.0), omega (arith, same, long, at.1))
    go false is later =
        let all = sum_by-cons (λ (y : List ℕ). cond (bytes_eq w y) 1 0) x
        (map (bytes_at bytes) places) in
        let none = ap (λ (b : Bool). cond {A = ℕ} b 1 0) is in
        later (omega (arith, some, all, none))

size_held : (w : List ℕ) (files : List FileText) → All HasPieces files
    → 0 < sum_by (λ (f : File). times w f) (map pieces_in files)
    → (1 ≤ length w) × (length w ≤ 4096)
size_held w [] all some = absurd (omega (arith, some))
size_held w (f ∷ fs) all some = elim (cases_lt 0 (times w (pieces_in f))) [
  | inl here ↦
      size_in w f.bytes.items f.pieces (All-head HasPieces f fs all) here
  | inr none ↦
      let sum = sum_by-cons (λ (g : File). times w g) (pieces_in f) (map pieces_in fs) in
      size_held w fs (All-tail HasPieces f fs all) (omega (arith, some, none, sum))
]

product_some : (a b : ℕ) → 0 < a * b → 0 < b
product_some a b above = elim (cases_lt 0 b) [
  | inl h ↦ h
  | inr h ↦ let zero : b ≡ 0 = omega arith in absurd (omega (arith, above, ap (λ n. a * n) zero))
]

-- words that occur in the files are words, and were counted so often
pub are_words : (work : Work) → IsWork work → (tallies : Tallies) → CountWork work tallies
    → ((w : List ℕ) → counted_in tallies w ≤ work.rounds * all_pieces work)
    → work.rounds * all_pieces work ≤ 1000000 → AreWords tallies
are_words work is tallies counts few most w some =
    let all = counts w in
    let size = size_held w work.files.items is.pieces
    (product_some work.rounds (sum_by (λ (f : File). times w f) (texts_in work))
    (omega (arith, some, all))) in
    let a = few w in (size.0, size.1, omega (arith, a, most))
