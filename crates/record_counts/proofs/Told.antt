-- What is told of lists: each slot has one of the words, each word one of the slots; and how often a slot is kept.
use Rattle.std.specs.Prelude.{cond, nat_lt}
use Rattle.std.specs.Cmp.Lexicographic.{bytes_decides}
use Rattle.std.specs.List.{count_by}
use Rattle.std.specs.Str.{bytes_eq}
use Rattle.std.proofs.Common.{◌≡◌, ◌≢◌, ⊎_elim, ℕ, ◌+◌, ◌<◌, All, Bool, true, false, List, [], ◌∷◌, refl, ap, sym, subst, ◌∙◌, arith}
use Rattle.std.proofs.lemmas.Bool.Decides.{nat_tests}
use Rattle.std.proofs.lemmas.List.Elements.{All-head, All-tail}
use Rattle.std.proofs.lemmas.List.Sums.{sum_by-cons}
use Rattle.plain_audit.specs.plain_state.declared.slot.SlotId.{SlotId}
use Rattle.plain_audit.specs.plain_state.Lists.{times}
use Rattle.plain_audit.proofs.Below.plain_state_Kit.{cases_slot, held_other, none_by, none_or_some, times_append, times_cons, times_none}
use Rattle.directory_law.specs.Bytes.{AreBytes}
use Rattle.cdrc_text.specs.Fold.{File, holders_in}
use Rattle.record_counts.specs.Told.{TellsEach, TellsFiles, TellsRecords}
use Rattle.record_counts.proofs.Listed.{member_here, member_there}

-- WORDS. How often one is in a list
abbrev occurs : List ℕ → List (List ℕ) → ℕ
occurs w ws = count_by (bytes_eq w) ws

occurs_cons : (w x : List ℕ) (ws : List (List ℕ))
    → occurs w (x ∷ ws) ≡ cond (bytes_eq w x) 1 0 + occurs w ws
occurs_cons w x ws = sum_by-cons (λ (y : List ℕ). cond (bytes_eq w y) 1 0) x ws

occurs_here : (w : List ℕ) (ws : List (List ℕ)) → 0 < occurs w (w ∷ ws)
occurs_here w ws =
    let all = occurs_cons w w ws in
    let one = ap (λ (b : Bool). cond {A = ℕ} b 1 0) ((bytes_decides w w).1 refl) in omega arith

occurs_there : (w x : List ℕ) (ws : List (List ℕ)) → 0 < occurs w ws → 0 < occurs w (x ∷ ws)
occurs_there w x ws some = let all = occurs_cons w x ws in omega arith

-- the first one is it, or it is among the others
occurs_first : (A : Type 0) (w x : List ℕ) (ws : List (List ℕ)) → 0 < occurs w (x ∷ ws)
    → (w ≡ x → A) → (0 < occurs w ws → A) → A
occurs_first A w x ws some here there = by_test (bytes_eq w x) refl
  where
    by_test : (b : Bool) → bytes_eq w x ≡ b → A
    by_test true is = here ((bytes_decides w x).0 is)
    by_test false is =
        let all = occurs_cons w x ws in
        let none = ap (λ (b : Bool). cond {A = ℕ} b 1 0) is in there (omega arith)

word_is : (P : List ℕ → Type 0) (w : List ℕ) (ws : List (List ℕ)) → All P ws → 0 < occurs w ws → P w
word_is P w [] each some = absurd (omega (arith, some))
word_is P w (x ∷ ws) each some = occurs_first (P w) w x ws some
    (λ e. subst P (sym e) (All-head P x ws each))
    (λ more. word_is P w ws (All-tail P x ws each) more)

-- so a word among words of bytes is of bytes
pub small_in : (w : List ℕ) (words : File) → 0 < occurs w words → All AreBytes words → AreBytes w
small_in w words some small = word_is AreBytes w words small some

abbrev holds : List ℕ → File → ℕ
holds w words = cond (nat_lt 0 (occurs w words)) 1 0

holds_some : (w : List ℕ) (words : File) → 0 < occurs w words → holds w words ≡ 1
holds_some w words some = grind (arith, nat_tests)

holds_none : (w : List ℕ) (words : File) → occurs w words ≡ 0 → holds w words ≡ 0
holds_none w words none = grind (arith, nat_tests)

holders_cons : (w : List ℕ) (words : File) (files : List File)
    → holders_in w (words ∷ files) ≡ holds w words + holders_in w files
holders_cons w words files = sum_by-cons (λ (f : File). holds w f) words files

abbrev pub AreAllBytes : List File → Type 0
AreAllBytes files = All (λ (words : List (List ℕ)). All AreBytes words) files

-- a file that is held has the word, so the word is of bytes where its files are
pub small_held : (w : List ℕ) (files : List File) → 0 < holders_in w files → AreAllBytes files
    → AreBytes w
small_held w [] some small = absurd (omega (arith, some))
small_held w (words ∷ files) some small = ⊎_elim
    (λ (none : occurs w words ≡ 0).
    let nothing = holds_none w words none in
    let all = holders_cons w words files in
    small_held w files (omega arith)
    (All-tail (λ (f : File). All AreBytes f) words files small))
    (λ (here : 0 < occurs w words). small_in w words here
    (All-head (λ (f : File). All AreBytes f) words files small))
    (none_or_some (occurs w words))

module _ (Told : List ℕ → SlotId → Type 0) where
  -- EACH SLOT HAS A WORD, EACH WORD A SLOT
  slot_word : (ws : List (List ℕ)) (ss : List SlotId) → TellsEach Told ws ss → (s : SlotId)
      → 0 < times s ss → (w : List ℕ) × (0 < occurs w ws) × Told w s
  slot_word [] [] tells s some = absurd (omega (arith, some, times_none s))
  slot_word [] (t ∷ ss) tells s some = absurd tells
  slot_word (w ∷ ws) [] tells s some = absurd tells
  slot_word (w ∷ ws) (t ∷ ss) tells s some = ⊎_elim
      (λ (e : t ≡ s).
      (w, occurs_here w ws, subst (λ (x : SlotId). Told w x) e tells.0))
      (λ (ne : t.0 ≢ s.0).
      let all = times_cons s t ss in
      let no = held_other s t ne in
      let r = slot_word ws ss tells.1 s (omega arith) in (r.0, occurs_there r.0 w ws r.1, r.2))
      (cases_slot t s)

  word_slot : (ws : List (List ℕ)) (ss : List SlotId) → TellsEach Told ws ss → (w : List ℕ)
      → 0 < occurs w ws → (s : SlotId) × (0 < times s ss) × Told w s
  word_slot [] ss tells w some = absurd (omega (arith, some))
  word_slot (x ∷ ws) [] tells w some = absurd tells
  word_slot (x ∷ ws) (t ∷ ss) tells w some =
      occurs_first ((s : SlotId) × (0 < times s (t ∷ ss)) × Told w s) w x ws some
      (λ e. (
        t,
        member_here t ss,
        subst (λ (y : List ℕ). Told y t) (sym e) tells.0,
      ))
      (λ more.
      let r = word_slot ws ss tells.1 w more in (r.0, member_there t r.0 ss r.1, r.2))

  -- what is kept for one file
  module _ (words : List (List ℕ)) (first : List SlotId)
      (are : TellsRecords Told words first) where
    kept_word : (s : SlotId) → 0 < times s first
        → (w : List ℕ) × (0 < occurs w words) × Told w s
    kept_word s some = slot_word words are.slots are.tells s (⊎_elim
        (λ (none : times s are.slots ≡ 0). let no = are.only s none in absurd (omega arith))
        (λ (is : 0 < times s are.slots). is)
        (none_or_some (times s are.slots)))

    word_kept : (w : List ℕ) → 0 < occurs w words
        → (s : SlotId) × (times s first ≡ 1) × Told w s
    word_kept w some =
        let r = word_slot words are.slots are.tells w some in (r.0, are.once r.0 r.1, r.2)

  pub kept_has_word : (files : List File) (kept : List SlotId) → TellsFiles Told files kept
      → (s : SlotId) → 0 < times s kept → (w : List ℕ) × Told w s
  kept_has_word [] kept none s some =
      let is = ap (times s) none in absurd (omega (arith, some, is, times_none s))
  kept_has_word (words ∷ files) kept (first, others, are, rest, is) s some = ⊎_elim
      (λ (none : times s first ≡ 0).
      let all = times_append s first others in
      let same = ap (times s) is in kept_has_word files others rest s (omega arith))
      (λ (here : 0 < times s first). let r = kept_word words first are s here in (r.0, r.2))
      (none_or_some (times s first))

  -- a word of the files is told of a kept slot
  pub held_is_told : (w : List ℕ) (files : List File) (kept : List SlotId)
      → TellsFiles Told files kept → 0 < holders_in w files
      → (s : SlotId) × (0 < times s kept) × Told w s
  held_is_told w [] kept none some = absurd (omega (arith, some))
  held_is_told w (words ∷ files) kept (first, others, are, rest, is) some =
      let parts : (t : SlotId) → times t kept ≡ times t first + times t others =
      λ t. ap (times t) is ∙ times_append t first others in ⊎_elim
      (λ (none : occurs w words ≡ 0).
      let nothing = holds_none w words none in
      let all = holders_cons w words files in
      let r = held_is_told w files others rest (omega arith) in
      (r.0, (let p = parts r.0 in let there = r.1 in omega arith), r.2))
      (λ (here : 0 < occurs w words).
      let r = word_kept words first are w here in
      let in_first = r.1 in
      let p = parts r.0 in (r.0, omega arith, r.2))
      (none_or_some (occurs w words))

-- HOW OFTEN. Where a word that is told of a kept slot is that slot's own, and each kept slot has another one
module _ (Told : List ℕ → SlotId → Type 0) (word : SlotId → List ℕ)
    (IsKept : SlotId → Type 0)
    (own_word : (w : List ℕ) (s : SlotId) → IsKept s → AreBytes w → Told w s
    → w ≡ word s)
    (one : (s t : SlotId) → IsKept s → IsKept t → word s ≡ word t → s ≡ t) where
  file_counted : (words : List (List ℕ)) (first : List SlotId) → TellsRecords Told words first
      → All AreBytes words → ((t : SlotId) → 0 < times t first → IsKept t) → (s : SlotId) → IsKept s
      → times s first ≡ holds (word s) words
  file_counted words first are small within s kept = ⊎_elim
      (λ (none : times s are.slots ≡ 0).
      let no = are.only s none in
      let absent = none_by (occurs (word s) words) (λ some.
      let r = word_kept Told words first are (word s) some in
      let in_first = r.1 in
      let is_kept = within r.0 (omega arith) in
      let same = one s r.0 kept is_kept
      (own_word (word s) r.0 is_kept (word_is AreBytes (word s) words small some) r.2) in
      let times_same = ap (λ (t : SlotId). times t first) same in omega arith) in
      let nothing = holds_none (word s) words absent in omega arith)
      (λ (some : 0 < times s are.slots).
      let yes = are.once s some in
      let r = kept_word Told words first are s (omega arith) in
      let is = own_word r.0 s kept (word_is AreBytes r.0 words small r.1) r.2 in
      let occurs_same = ap (λ (w : List ℕ). occurs w words) is in
      let there = r.1 in
      let all = holds_some (word s) words (omega arith) in omega arith)
      (none_or_some (times s are.slots))

  pub files_counted : (files : List File) (kept : List SlotId) → TellsFiles Told files kept
      → AreAllBytes files → ((t : SlotId) → 0 < times t kept → IsKept t) → (s : SlotId) → IsKept s
      → times s kept ≡ holders_in (word s) files
  files_counted [] kept none small within s is_kept = ap (times s) none ∙ times_none s
  files_counted (words ∷ files) kept (first, others, are, rest, is) small within s is_kept =
      let parts : (t : SlotId) → times t kept ≡ times t first + times t others =
      λ t. ap (times t) is ∙ times_append t first others in
      let here = file_counted words first are
      (All-head (λ (f : File). All AreBytes f) words files small)
      (λ t some. within t (let p = parts t in omega (arith, some))) s is_kept in
      let there = files_counted files others rest
      (All-tail (λ (f : File). All AreBytes f) words files small)
      (λ t some. within t (let p = parts t in omega (arith, some))) s is_kept in
      let all = holders_cons (word s) words files in
      let p = parts s in omega arith

  -- a word of the files is that of a kept slot
  pub held_is_kept : (w : List ℕ) (files : List File) (kept : List SlotId)
      → TellsFiles Told files kept → AreAllBytes files
      → ((t : SlotId) → 0 < times t kept → IsKept t) → 0 < holders_in w files
      → (s : SlotId) × (0 < times s kept) × (word s ≡ w)
  held_is_kept w files kept tells small within some =
      let r = held_is_told Told w files kept tells some in
      (r.0, r.1, sym (own_word w r.0 (within r.0 r.1) (small_held w files some small) r.2))
