-- What holds of one slot, by numbers alone, in each stage of its life.
use Rattle.std.specs.Prelude.{ℕ, ◌≡◌, ◌+◌, ◌<◌, ◌≤◌, slice_index}
use Rattle.core_events.specs.plain_state.declared.slot.Kind.TheVariants.{Strong, Weak}
use Rattle.core_events.specs.plain_state.declared.slot.SlotId.{SlotId}
use Rattle.core_events.specs.declared.shape.Shape.{Shape}
use Rattle.core_events.specs.Words.{field_at, weak_field_at}
use Rattle.core_events.specs.counter_word.Words.{ZERO, HELP}
use Rattle.core_events.specs.Runs.{Core}
use Rattle.core_events.specs.Counts.{refs, finishers, helpers, barers, fillers, givers, dying_times, free_bit, strong as strong_word, weak as weak_word}

-- Its two words and its bit, the references to it of each kind but for its own, the seats in a phase
-- on it, how often it stands in dying lists, and its three field words added up
pub record Numbers : Type 0 where
  pub strong : ℕ
  pub weak : ℕ
  pub bit : ℕ
  pub strong_refs : ℕ
  pub weak_refs : ℕ
  pub finishing : ℕ
  pub helping : ℕ
  pub baring : ℕ
  pub filling : ℕ
  pub giving : ℕ
  pub dying : ℕ
  pub fields : ℕ

-- the three field words of a slot, added up: 0 where all are null
abbrev pub field_words : Shape → Core → SlotId → ℕ
field_words z c s =
    slice_index c.words (field_at z s 0) + slice_index c.words (field_at z s 1)
    + slice_index c.words (weak_field_at z s)

abbrev pub numbers : Shape → Core → SlotId → Numbers
numbers z c s = record {
  strong = strong_word z c s;
  weak = weak_word z c s;
  bit = free_bit z c s;
  strong_refs = refs Strong z c s;
  weak_refs = refs Weak z c s;
  finishing = finishers c s;
  helping = helpers c s;
  baring = barers c s;
  filling = fillers c s;
  giving = givers c s;
  dying = dying_times c s;
  fields = field_words z c s;
}

-- the strong word has the zero flag alone, above a count of at most `most` late adds
pub record IsDead (most : ℕ) (m : Numbers) : Type 0 where
  pub zero_flag : ZERO ≤ m.strong
  pub late : m.strong ≤ ZERO + most
  pub unowned : m.strong_refs ≡ 0

-- nothing refers to it, and it holds nothing
pub record IsEmpty (m : Numbers) : Type 0 where
  pub weak_refs : m.weak_refs ≡ 0
  pub giving : m.giving ≡ 0
  pub dying : m.dying ≡ 0
  pub fields : m.fields ≡ 0

-- its bit is clear, and nobody has it from its claim to its start
pub record IsTaken (m : Numbers) : Type 0 where
  pub bit : m.bit ≡ 0
  pub baring : m.baring ≡ 0
  pub filling : m.filling ≡ 0

pub record IsFree (most : ℕ) (m : Numbers) : Type 0 where
  pub dead : IsDead most m
  pub empty : IsEmpty m
  pub bit : m.bit ≡ 1
  pub weak : m.weak ≡ 0
  pub baring : m.baring ≡ 0
  pub filling : m.filling ≡ 0

-- claimed, with no weak reference of its own yet
pub record IsBare (most : ℕ) (m : Numbers) : Type 0 where
  pub dead : IsDead most m
  pub empty : IsEmpty m
  pub bit : m.bit ≡ 0
  pub weak : m.weak ≡ 0
  pub baring : m.baring ≡ 1
  pub filling : m.filling ≡ 0

pub record IsBlank (most : ℕ) (m : Numbers) : Type 0 where
  pub dead : IsDead most m
  pub empty : IsEmpty m
  pub bit : m.bit ≡ 0
  pub weak : m.weak ≡ 1
  pub baring : m.baring ≡ 0
  pub filling : m.filling ≡ 1

-- the weak word counts the slot's own reference too
pub record HasOwn (most : ℕ) (m : Numbers) : Type 0 where
  pub taken : IsTaken m
  pub count : m.weak ≡ m.weak_refs + 1
  pub few : m.weak ≤ most
  pub giving : m.giving ≡ 0

-- the strong word is the count, and where it is 0 some seat is to finish
pub record IsCounted (most : ℕ) (m : Numbers) : Type 0 where
  pub own : HasOwn most m
  pub few : m.strong ≤ most
  pub count : m.strong ≡ m.strong_refs
  pub ends : m.strong ≡ 0 → 0 < m.finishing
  pub dying : m.dying ≡ 0

-- a reader has set both flags, and some seat is to finish or to help
pub record IsAsked (most : ℕ) (m : Numbers) : Type 0 where
  pub own : HasOwn most m
  pub flags : ZERO + HELP ≤ m.strong
  pub late : m.strong ≤ ZERO + HELP + most
  pub unowned : m.strong_refs ≡ 0
  pub helps : 0 < m.finishing + m.helping
  pub dying : m.dying ≡ 0

pub record IsEnded (most : ℕ) (m : Numbers) : Type 0 where
  pub dead : IsDead most m
  pub own : HasOwn most m
  pub dying : m.dying ≡ 1

-- where its weak word is 0 one seat is to give the slot back
pub record IsHusk (most : ℕ) (m : Numbers) : Type 0 where
  pub dead : IsDead most m
  pub taken : IsTaken m
  pub count : m.weak ≡ m.weak_refs
  pub few : m.weak ≤ most
  pub dying : m.dying ≡ 0
  pub fields : m.fields ≡ 0
  pub one_giver : m.giving ≤ 1
  pub gives : 0 < m.giving → m.weak ≡ 0
  pub given : m.weak ≡ 0 → 0 < m.giving

pub data SlotLaw (most : ℕ) (m : Numbers) : Type 0 where
  free : IsFree most m → SlotLaw most m
  bare : IsBare most m → SlotLaw most m
  blank : IsBlank most m → SlotLaw most m
  counted : IsCounted most m → SlotLaw most m
  asked : IsAsked most m → SlotLaw most m
  over : IsEnded most m → SlotLaw most m
  husk : IsHusk most m → SlotLaw most m
