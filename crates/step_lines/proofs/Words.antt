-- The words of a line, one by one.
use Rattle.std.proofs.Common.{◌≡◌, ℕ, List, [], ◌∷◌, length, get_or, Option, refl, arith}
use Rattle.std.specs.Borrow.{Bor}
use Rattle.core_events.specs.plain_state.declared.act.EventPlace.{EventPlace}
use Rattle.core_events.specs.plain_state.declared.slot.Kind.{Kind}
use Rattle.core_events.specs.plain_state.declared.slot.SlotId.{SlotId}
use Rattle.line_words.specs.Words.{texts_of}
use Rattle.step_lines.specs.Spelling.{Content, KindWord, Number, Place, Slot}

-- a word that isn't there
abbrev pub no_word : Bor (List ℕ)
no_word = record { ref_ptr = (0, 0); now = [] }

abbrev pub word_at : List (Bor (List ℕ)) → ℕ → List ℕ
word_at words i = (get_or words i no_word).now

-- what it spells
abbrev pub NumberAt : List (Bor (List ℕ)) → ℕ → ℕ → Type 0
NumberAt words i n = Number n (word_at words i)

abbrev pub SlotAt : List (Bor (List ℕ)) → ℕ → SlotId → Type 0
SlotAt words i s = Slot s (word_at words i)

abbrev pub KindAt : List (Bor (List ℕ)) → ℕ → Kind → Type 0
KindAt words i k = KindWord k (word_at words i)

abbrev pub ContentAt : List (Bor (List ℕ)) → ℕ → Option SlotId → Type 0
ContentAt words i x = Content x (word_at words i)

abbrev pub PlaceAt : List (Bor (List ℕ)) → ℕ → EventPlace → Type 0
PlaceAt words i p = Place p (word_at words i)

-- as many words as there are
pub one_word : (words : List (Bor (List ℕ))) → length words ≡ 1 → texts_of words ≡ word_at words 0 ∷ []
one_word [] is = absurd (omega arith)
one_word (a ∷ []) is = refl
one_word (a ∷ (b ∷ words)) is = absurd (omega arith)

pub two_words : (words : List (Bor (List ℕ))) → length words ≡ 2 → texts_of words ≡ word_at words 0 ∷ word_at words 1 ∷ []
two_words [] is = absurd (omega arith)
two_words (a ∷ []) is = absurd (omega arith)
two_words (a ∷ (b ∷ [])) is = refl
two_words (a ∷ (b ∷ (c ∷ words))) is = absurd (omega arith)

pub three_words : (words : List (Bor (List ℕ))) → length words ≡ 3
    → texts_of words ≡ word_at words 0 ∷ word_at words 1 ∷ word_at words 2 ∷ []
three_words [] is = absurd (omega arith)
three_words (a ∷ []) is = absurd (omega arith)
three_words (a ∷ (b ∷ [])) is = absurd (omega arith)
three_words (a ∷ (b ∷ (c ∷ []))) is = refl
three_words (a ∷ (b ∷ (c ∷ (d ∷ words)))) is = absurd (omega arith)

pub six_words : (words : List (Bor (List ℕ))) → length words ≡ 6
    → texts_of words ≡ word_at words 0 ∷ word_at words 1 ∷ word_at words 2 ∷ word_at words 3 ∷ word_at words 4 ∷ word_at words 5 ∷ []
six_words (a ∷ (b ∷ (c ∷ words))) is = grind (arith, three_words words (omega arith))
six_words words is = absurd (omega arith)
