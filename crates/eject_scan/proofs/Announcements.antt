-- What is noted of some words tells how often each slot is announced.
use Rattle.std.proofs.Common.{◌≡◌, ◌≢◌, ℕ, ◌+◌, ◌≤◌, true, false, Bool, List, [], ◌∷◌, ◌++◌, length, refl, arith}
use Rattle.std.specs.Prelude.{◌==◌}
use Rattle.std.specs.List.{fold}
use Rattle.std.proofs.lemmas.Bool.Decides.{nat_tests}
use Rattle.std.proofs.lemmas.List.Sums.{fold-append}
use Rattle.announce_slots.specs.plain_state.declared.slot.Kind.{Kind}
use Rattle.announce_slots.specs.plain_state.declared.slot.SlotId.{SlotId}
use Rattle.announce_slots.specs.Words.{code}
use Rattle.announce_slots.specs.Seen.{announced_in, seen_times}
use Rattle.announce_slots.proofs.Counting.{seen_cons, seen_none, word_one}
use Rattle.eject_scan.specs.declared.seen.Row.{Row}
use Rattle.eject_scan.specs.Seen.{announced, noted, times_noted, total, with_word}
use Rattle.eject_scan.proofs.Rows.{times_note, total_note}

-- a word that announces something counts once more, and one of 0 for none
times_more : (w x : ℕ) (rows : List Row) → w ≢ 0
    → times_noted w (with_word x rows) ≡ times_noted w rows + word_one w x
unfolding word_one
times_more w x rows not = go (x == 0) refl
  where
    go : (b : Bool) → (x == 0) ≡ b
        → times_noted w (with_word x rows) ≡ times_noted w rows + word_one w x
    go true is =
        let none : (x == w) ≡ false = grind (arith, nat_tests) in rw is (rw none (omega arith))
    go false is = rw is (times_note w x rows)

total_more : (x : ℕ) (rows : List Row) → total (with_word x rows) ≤ total rows + 1
total_more x rows = go (x == 0) refl
  where
    go : (b : Bool) → (x == 0) ≡ b → total (with_word x rows) ≤ total rows + 1
    go true is = rw is (omega arith)
    go false is = let t = total_note x rows in rw is (omega arith)

-- these words are noted behind those of the rows
abbrev behind : List Row → List ℕ → List Row
behind rows words = fold (λ rs w. with_word w rs) rows words

times_behind : (w : ℕ) (words : List ℕ) (rows : List Row) → w ≢ 0
    → times_noted w (behind rows words) ≡ times_noted w rows + seen_times w words
times_behind w [] rows not = let none = seen_none w in omega arith
times_behind w (x ∷ xs) rows not =
    let ih = times_behind w xs (with_word x rows) not in
    let one = times_more w x rows not in
    let c = seen_cons w x xs in omega arith

total_behind : (words : List ℕ) (rows : List Row)
    → total (behind rows words) ≤ total rows + length words
total_behind [] rows = omega arith
total_behind (x ∷ xs) rows =
    let ih = total_behind xs (with_word x rows) in
    let one = total_more x rows in omega arith

pub announced_alike : (words : List ℕ) → announced (noted words) ≡ announced_in words
announced_alike words = λ i kind slot. each kind slot i
  where
    each : (kind : Kind) (slot : SlotId)
        → announced (noted words) kind slot ≡ announced_in words kind slot
    each kind slot =
        let some : code kind slot ≢ 0 = λ e. absurd (omega arith) in
        let all = times_behind (code kind slot) words [] some in
        let none : times_noted (code kind slot) [] ≡ 0 = refl in omega arith

pub fewer : (words : List ℕ) → total (noted words) ≤ length words
fewer words =
    let all = total_behind words [] in let none : total [] ≡ 0 = refl in omega arith

pub noted_more : (words : List ℕ) (w : ℕ)
    → noted (words ++ w ∷ []) ≡ with_word w (noted words)
noted_more words w = fold-append (λ rows x. with_word x rows) [] words (w ∷ [])
