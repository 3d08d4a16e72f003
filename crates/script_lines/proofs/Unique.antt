-- Words spell one line at most.
use Rattle.std.proofs.Common.{◌≡◌, ℕ, ◌+◌, false, List, [], ◌∷◌, ◌++◌, Option, Some, None, get_or, codes, refl, sym, ap, subst, ◌∙◌, arith, append_assoc}
use Rattle.line_words.proofs.Decimal.{one-number_of}
use Rattle.line_words.specs.Number.{capped}
use Rattle.script_lines.specs.declared.command.Command.{Command}
use Rattle.script_lines.specs.declared.command.Command.TheVariants.{Make, Copy, Drop, Weaken, CopyWeak, DropWeak, Upgrade, Put, Clear, Load, Replace, Snap, EndSnapshot, Keep, Read, Counts, Audit}
use Rattle.script_lines.specs.declared.command.ScriptLine.{ScriptLine}
use Rattle.script_lines.specs.declared.command.ScriptLine.TheVariants.{Heap, Command as OnHeap}
use Rattle.script_lines.specs.declared.command.TextPlace.{TextPlace}
use Rattle.script_lines.specs.declared.command.TextPlace.TheVariants.{Cell, WeakCell, Field, WeakField}
use Rattle.script_lines.specs.Names.{is_name_byte, IsName}
use Rattle.script_lines.specs.Spelling.{Each, Named, NamedOrNull, Number, Place, Spells, SpellsCommand}
use Rattle.script_lines.proofs.Commands.{first-word, not-heap, word_of}
use Rattle.script_lines.proofs.Places.{no-name_first, same-ends}
use Rattle.script_lines.proofs.Shapes.{shape, verb_at}

-- ---- a word spells one thing of a form at most

one-number : (word : List ℕ) (n m : ℕ) → Number n word → Number m word → n ≡ m
one-number word n m first second =
    let same = one-number_of word first.0 second.0 first.1 second.1 in
    first.2 ∙ ap capped same ∙ sym second.2

-- a byte and an index are a word that spells one number
one-index : (word xs ys : List ℕ) (byte i j : ℕ) → word ≡ byte ∷ xs → word ≡ byte ∷ ys → Number i xs → Number j ys → i ≡ j
one-index word xs ys byte i j first second left right =
    let same : xs ≡ ys = let e = sym first ∙ second in cc in
    one-number ys i j (subst (Number i) same left) right

-- a word that begins with a byte that is in no name isn't that of a field
no-index : (word index name rest : List ℕ) (byte : ℕ) → is_name_byte byte ≡ false → word ≡ byte ∷ index → word ≡ name ++ rest → IsName name → ⊥
no-index word index name rest byte odd first second is = no-name_first byte index name rest odd (sym first ∙ second) is

module _ (word : List ℕ) where
  one-name : (n m : List ℕ) → Named n word → Named m word → n ≡ m
  one-name n m first second = sym first.0 ∙ second.0

  one-name_or_null : (n m : Option (List ℕ)) → NamedOrNull n word → NamedOrNull m word → n ≡ m
  one-name_or_null None None first second = refl
  one-name_or_null None (Some m) first second = absurd (second.1.no_null (sym second.0 ∙ first))
  one-name_or_null (Some n) None first second = absurd (first.1.no_null (sym first.0 ∙ second))
  one-name_or_null (Some n) (Some m) first second = ap Some (one-name n m first second)

  -- a field's word ends in a colon and a byte
  field-ends : (n : List ℕ) (k : ℕ) → word ≡ n ++ codes ":" ++ (48 + k) ∷ [] → word ≡ n ++ 58 ∷ (48 + k) ∷ []
  field-ends n k is = is ∙ append_assoc n (codes ":") ((48 + k) ∷ [])

  one-place : (p q : TextPlace) → Place p word → Place q word → p ≡ q
  one-place (Cell i) (Cell j) first second = ap Cell (one-index word first.0 second.0 64 i j first.1 second.1 first.2 second.2)
  one-place (Cell i) (WeakCell j) first second = let e = ap (λ w. get_or w 0 0) (sym first.1 ∙ second.1) in absurd (omega arith)
  one-place (Cell i) (Field m l) first second = absurd (no-index word first.0 m (58 ∷ (48 + l) ∷ []) 64 refl first.1 (field-ends m l second.2) second.0)
  one-place (Cell i) (WeakField m) first second = absurd (no-index word first.0 m (codes ":w") 64 refl first.1 second.1 second.0)
  one-place (WeakCell i) (Cell j) first second = let e = ap (λ w. get_or w 0 0) (sym first.1 ∙ second.1) in absurd (omega arith)
  one-place (WeakCell i) (WeakCell j) first second = ap WeakCell (one-index word first.0 second.0 126 i j first.1 second.1 first.2 second.2)
  one-place (WeakCell i) (Field m l) first second =
      absurd (no-index word first.0 m (58 ∷ (48 + l) ∷ []) 126 refl first.1 (field-ends m l second.2) second.0)
  one-place (WeakCell i) (WeakField m) first second = absurd (no-index word first.0 m (codes ":w") 126 refl first.1 second.1 second.0)
  one-place (Field n k) (Cell j) first second = absurd (no-index word second.0 n (58 ∷ (48 + k) ∷ []) 64 refl second.1 (field-ends n k first.2) first.0)
  one-place (Field n k) (WeakCell j) first second =
      absurd (no-index word second.0 n (58 ∷ (48 + k) ∷ []) 126 refl second.1 (field-ends n k first.2) first.0)
  one-place (Field n k) (Field m l) first second =
      let ends = same-ends n m 58 (48 + k) 58 (48 + l) (sym (field-ends n k first.2) ∙ field-ends m l second.2) in
      let name = ends.0 in
      let field : k ≡ l = omega (arith, ends.1) in
      cc
  one-place (Field n k) (WeakField m) first second =
      let ends = same-ends n m 58 (48 + k) 58 119 (sym (field-ends n k first.2) ∙ second.1) in
      absurd (omega (arith, ends.1, first.1))
  one-place (WeakField n) (Cell j) first second = absurd (no-index word second.0 n (codes ":w") 64 refl second.1 first.1 first.0)
  one-place (WeakField n) (WeakCell j) first second = absurd (no-index word second.0 n (codes ":w") 126 refl second.1 first.1 first.0)
  one-place (WeakField n) (Field m l) first second =
      let ends = same-ends n m 58 119 58 (48 + l) (sym first.1 ∙ field-ends m l second.2) in
      absurd (omega (arith, ends.1, second.1))
  one-place (WeakField n) (WeakField m) first second = ap WeakField (same-ends n m 58 119 58 119 (sym first.1 ∙ second.1)).0

-- ---- words that have two lists of forms

-- a word has two forms
abbrev pub InBoth : (List ℕ → Type 0) → (List ℕ → Type 0) → Type 0
InBoth F G = (word : List ℕ) × F word × G word

both-one : (F F' : List ℕ → Type 0) (words : List (List ℕ)) → Each (F ∷ []) words → Each (F' ∷ []) words → InBoth F F'
both-one F F' [] first second = absurd first
both-one F F' (w ∷ words) first second = (w, first.0, second.0)

both-two : (F G F' G' : List ℕ → Type 0) (words : List (List ℕ)) → Each (F ∷ G ∷ []) words → Each (F' ∷ G' ∷ []) words → InBoth F F' × InBoth G G'
both-two F G F' G' [] first second = absurd first
both-two F G F' G' (w ∷ words) first second = ((w, first.0, second.0), both-one G G' words first.1 second.1)

both-three : (F G H F' G' H' : List ℕ → Type 0) (words : List (List ℕ)) → Each (F ∷ G ∷ H ∷ []) words → Each (F' ∷ G' ∷ H' ∷ []) words
    → InBoth F F' × (InBoth G G' × InBoth H H')
both-three F G H F' G' H' [] first second = absurd first
both-three F G H F' G' H' (w ∷ words) first second = ((w, first.0, second.0), both-two G H G' H' words first.1 second.1)

-- ---- lines

module _ (begun : List ℕ) (words : List (List ℕ)) where
  -- two commands of these words begin with one word
  same-word : (c d : Command) → SpellsCommand c (begun ∷ words) → SpellsCommand d (begun ∷ words) → word_of c ≡ word_of d
  same-word c d first second = sym (first-word c begun words first) ∙ first-word d begun words second

  one-command : (c d : Command) → SpellsCommand c (begun ∷ words) → SpellsCommand d (begun ∷ words) → c ≡ d
  one-command (Make n i) (Make n' i') first second =
      let both = both-two (Named n) (Number i) (Named n') (Number i') words first.1 second.1 in
      let n_is = one-name both.0.0 n n' both.0.1 both.0.2 in
      let i_is = one-number both.1.0 i i' both.1.1 both.1.2 in
      cc
  one-command (Make n i) d first second = let other = ap verb_at (same-word (Make n i) d first second) in cc
  one-command (Copy n m) (Copy n' m') first second =
      let both = both-two (Named n) (Named m) (Named n') (Named m') words first.1 second.1 in
      let n_is = one-name both.0.0 n n' both.0.1 both.0.2 in
      let m_is = one-name both.1.0 m m' both.1.1 both.1.2 in
      cc
  one-command (Copy n m) d first second = let other = ap verb_at (same-word (Copy n m) d first second) in cc
  one-command (Drop n) (Drop n') first second =
      let both = both-one (Named n) (Named n') words first.1 second.1 in
      let n_is = one-name both.0 n n' both.1 both.2 in
      cc
  one-command (Drop n) d first second = let other = ap verb_at (same-word (Drop n) d first second) in cc
  one-command (Weaken n m) (Weaken n' m') first second =
      let both = both-two (Named n) (Named m) (Named n') (Named m') words first.1 second.1 in
      let n_is = one-name both.0.0 n n' both.0.1 both.0.2 in
      let m_is = one-name both.1.0 m m' both.1.1 both.1.2 in
      cc
  one-command (Weaken n m) d first second = let other = ap verb_at (same-word (Weaken n m) d first second) in cc
  one-command (CopyWeak n m) (CopyWeak n' m') first second =
      let both = both-two (Named n) (Named m) (Named n') (Named m') words first.1 second.1 in
      let n_is = one-name both.0.0 n n' both.0.1 both.0.2 in
      let m_is = one-name both.1.0 m m' both.1.1 both.1.2 in
      cc
  one-command (CopyWeak n m) d first second = let other = ap verb_at (same-word (CopyWeak n m) d first second) in cc
  one-command (DropWeak n) (DropWeak n') first second =
      let both = both-one (Named n) (Named n') words first.1 second.1 in
      let n_is = one-name both.0 n n' both.1 both.2 in
      cc
  one-command (DropWeak n) d first second = let other = ap verb_at (same-word (DropWeak n) d first second) in cc
  one-command (Upgrade n m) (Upgrade n' m') first second =
      let both = both-two (Named n) (Named m) (Named n') (Named m') words first.1 second.1 in
      let n_is = one-name both.0.0 n n' both.0.1 both.0.2 in
      let m_is = one-name both.1.0 m m' both.1.1 both.1.2 in
      cc
  one-command (Upgrade n m) d first second = let other = ap verb_at (same-word (Upgrade n m) d first second) in cc
  one-command (Put p n) (Put p' n') first second =
      let both = both-two (Place p) (Named n) (Place p') (Named n') words first.1 second.1 in
      let p_is = one-place both.0.0 p p' both.0.1 both.0.2 in
      let n_is = one-name both.1.0 n n' both.1.1 both.1.2 in
      cc
  one-command (Put p n) d first second = let other = ap verb_at (same-word (Put p n) d first second) in cc
  one-command (Clear p) (Clear p') first second =
      let both = both-one (Place p) (Place p') words first.1 second.1 in
      let p_is = one-place both.0 p p' both.1 both.2 in
      cc
  one-command (Clear p) d first second = let other = ap verb_at (same-word (Clear p) d first second) in cc
  one-command (Load p n) (Load p' n') first second =
      let both = both-two (Place p) (Named n) (Place p') (Named n') words first.1 second.1 in
      let p_is = one-place both.0.0 p p' both.0.1 both.0.2 in
      let n_is = one-name both.1.0 n n' both.1.1 both.1.2 in
      cc
  one-command (Load p n) d first second = let other = ap verb_at (same-word (Load p n) d first second) in cc
  one-command (Replace p old new) (Replace p' old' new') first second =
      let both = both-three (Place p) (NamedOrNull old) (NamedOrNull new) (Place p') (NamedOrNull old') (NamedOrNull new') words first.1 second.1 in
      let p_is = one-place both.0.0 p p' both.0.1 both.0.2 in
      let old_is = one-name_or_null both.1.0.0 old old' both.1.0.1 both.1.0.2 in
      let new_is = one-name_or_null both.1.1.0 new new' both.1.1.1 both.1.1.2 in
      cc
  one-command (Replace p old new) d first second = let other = ap verb_at (same-word (Replace p old new) d first second) in cc
  one-command (Snap p n) (Snap p' n') first second =
      let both = both-two (Place p) (Named n) (Place p') (Named n') words first.1 second.1 in
      let p_is = one-place both.0.0 p p' both.0.1 both.0.2 in
      let n_is = one-name both.1.0 n n' both.1.1 both.1.2 in
      cc
  one-command (Snap p n) d first second = let other = ap verb_at (same-word (Snap p n) d first second) in cc
  one-command (EndSnapshot n) (EndSnapshot n') first second =
      let both = both-one (Named n) (Named n') words first.1 second.1 in
      let n_is = one-name both.0 n n' both.1 both.2 in
      cc
  one-command (EndSnapshot n) d first second = let other = ap verb_at (same-word (EndSnapshot n) d first second) in cc
  one-command (Keep n m) (Keep n' m') first second =
      let both = both-two (Named n) (Named m) (Named n') (Named m') words first.1 second.1 in
      let n_is = one-name both.0.0 n n' both.0.1 both.0.2 in
      let m_is = one-name both.1.0 m m' both.1.1 both.1.2 in
      cc
  one-command (Keep n m) d first second = let other = ap verb_at (same-word (Keep n m) d first second) in cc
  one-command (Read n i) (Read n' i') first second =
      let both = both-two (Named n) (Number i) (Named n') (Number i') words first.1 second.1 in
      let n_is = one-name both.0.0 n n' both.0.1 both.0.2 in
      let i_is = one-number both.1.0 i i' both.1.1 both.1.2 in
      cc
  one-command (Read n i) d first second = let other = ap verb_at (same-word (Read n i) d first second) in cc
  one-command (Counts n) (Counts n') first second =
      let both = both-one (Named n) (Named n') words first.1 second.1 in
      let n_is = one-name both.0 n n' both.1 both.2 in
      cc
  one-command (Counts n) d first second = let other = ap verb_at (same-word (Counts n) d first second) in cc
  one-command Audit Audit first second = refl
  one-command Audit d first second = let other = ap verb_at (same-word Audit d first second) in cc

  one-begun : (l m : ScriptLine) → Spells l (begun ∷ words) → Spells m (begun ∷ words) → l ≡ m
  one-begun (Heap i j k) (Heap i' j' k') first second =
      let both = both-three (Number i) (Number j) (Number k) (Number i') (Number j') (Number k') words first.1 second.1 in
      let i_is = one-number both.0.0 i i' both.0.1 both.0.2 in
      let j_is = one-number both.1.0.0 j j' both.1.0.1 both.1.0.2 in
      let k_is = one-number both.1.1.0 k k' both.1.1.1 both.1.1.2 in
      cc
  one-begun (Heap i j k) (OnHeap d) first second =
      absurd (not-heap d (ap (λ word. shape (verb_at word)) (sym (first-word d begun words second) ∙ first.0)))
  one-begun (OnHeap c) (Heap i j k) first second =
      absurd (not-heap c (ap (λ word. shape (verb_at word)) (sym (first-word c begun words first) ∙ second.0)))
  one-begun (OnHeap c) (OnHeap d) first second = ap OnHeap (one-command c d first second)

no-words : (l : ScriptLine) → Spells l [] → ⊥
no-words (Heap i j k) spells = spells
no-words (OnHeap (Make n i)) spells = spells
no-words (OnHeap (Copy n m)) spells = spells
no-words (OnHeap (Drop n)) spells = spells
no-words (OnHeap (Weaken n m)) spells = spells
no-words (OnHeap (CopyWeak n m)) spells = spells
no-words (OnHeap (DropWeak n)) spells = spells
no-words (OnHeap (Upgrade n m)) spells = spells
no-words (OnHeap (Put p n)) spells = spells
no-words (OnHeap (Clear p)) spells = spells
no-words (OnHeap (Load p n)) spells = spells
no-words (OnHeap (Replace p old new)) spells = spells
no-words (OnHeap (Snap p n)) spells = spells
no-words (OnHeap (EndSnapshot n)) spells = spells
no-words (OnHeap (Keep n m)) spells = spells
no-words (OnHeap (Read n i)) spells = spells
no-words (OnHeap (Counts n)) spells = spells
no-words (OnHeap Audit) spells = spells

pub one-line : (words : List (List ℕ)) (l m : ScriptLine) → Spells l words → Spells m words → l ≡ m
one-line [] l m first second = absurd (no-words l first)
one-line (begun ∷ words) l m first second = one-begun begun words l m first second
