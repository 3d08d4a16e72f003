-- What holds of one slot, by numbers alone, in each stage of its life.
use Rattle.std.specs.Prelude.{ℕ, ◌≡◌, ◌+◌, ◌<◌, ◌≤◌, List, slice_index}
use Rattle.core_law.specs.plain_state.declared.slot.SlotId.{SlotId}
use Rattle.epoch_core.specs.declared.shape.EpochShape.{EpochShape}
use Rattle.epoch_core.specs.Words.{field_at, free_word}
use Rattle.epoch_core.specs.Runs.{Core}
use Rattle.epoch_core.specs.Counts.{count, refs, fillers, dying_times}

-- Its count word, the references to it, the seats that fill it, how often it stands in dying lists, and its two field
-- words added up
pub record Numbers : Type 0 where
  pub word : ℕ
  pub refs : ℕ
  pub filling : ℕ
  pub dying : ℕ
  pub fields : ℕ

-- the two field words of a slot, added up: 0 where both are null
abbrev pub fields_sum : EpochShape → List ℕ → SlotId → ℕ
fields_sum z ws s = slice_index ws (field_at z s 0) + slice_index ws (field_at z s 1)

abbrev pub numbers : EpochShape → Core → SlotId → Numbers
numbers z c s = record {
  word = count z c s;
  refs = refs z c s;
  filling = fillers c s;
  dying = dying_times c s;
  fields = fields_sum z c.words s;
}

-- nothing names it, and it holds nothing
pub record IsFree (m : Numbers) : Type 0 where
  pub word : m.word ≡ free_word
  pub refs : m.refs ≡ 0
  pub filling : m.filling ≡ 0
  pub dying : m.dying ≡ 0
  pub fields : m.fields ≡ 0

-- one seat fills it, or is to destroy its object, to which there is no reference
pub record IsHeld (m : Numbers) : Type 0 where
  pub word : m.word ≡ 0
  pub refs : m.refs ≡ 0
  pub one : m.filling + m.dying ≡ 1
  pub nulls : 0 < m.filling → m.fields ≡ 0

-- its word counts its references
pub record IsLive (most : ℕ) (m : Numbers) : Type 0 where
  pub word : m.word ≡ m.refs
  pub some : 0 < m.refs
  pub few : m.word ≤ most
  pub filling : m.filling ≡ 0
  pub dying : m.dying ≡ 0

pub data SlotLaw (most : ℕ) (m : Numbers) : Type 0 where
  free : IsFree m → SlotLaw most m
  held : IsHeld m → SlotLaw most m
  live : IsLive most m → SlotLaw most m
