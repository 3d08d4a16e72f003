-- Which commands a verb and the words after it may spell.
use Rattle.std.proofs.Common.{◌≡◌, ℕ, List, [], ◌∷◌, Option, codes, refl, sym, ◌∙◌}
use Rattle.script_lines.specs.declared.command.Command.{Command}
use Rattle.script_lines.specs.declared.command.Command.TheVariants.{Make, Copy, Drop, Weaken, CopyWeak, DropWeak, Upgrade, Put, Clear, Load, Replace, Snap, EndSnapshot, Keep, Read, Counts, Audit}
use Rattle.script_lines.specs.declared.command.ScriptLine.{ScriptLine}
use Rattle.script_lines.specs.declared.command.ScriptLine.TheVariants.{Heap, Command as OnHeap}
use Rattle.script_lines.specs.declared.command.TextPlace.{TextPlace}
use Rattle.script_lines.specs.declared.verb.Verb.{Verb}
use Rattle.script_lines.specs.Spelling.{Each, Named, NamedOrNull, Number, Place, Spells, SpellsCommand}
use Rattle.script_lines.specs.Verbs.{spelling}
use Rattle.script_lines.proofs.Shapes.{OneName, TwoNames, NameAndNumber, OnePlace, PlaceAndName, PlaceAndTwo, ThreeNumbers, shape, shape-spelling, verb_at}

-- the word that begins a command
abbrev pub word_of : Command → List ℕ
word_of (Make n i) = codes "make"
word_of (Copy n m) = codes "copy"
word_of (Drop n) = codes "drop"
word_of (Weaken n m) = codes "weaken"
word_of (CopyWeak n m) = codes "wcopy"
word_of (DropWeak n) = codes "unweak"
word_of (Upgrade n m) = codes "up"
word_of (Put p n) = codes "put"
word_of (Clear p) = codes "clear"
word_of (Load p n) = codes "load"
word_of (Replace p old new) = codes "cas"
word_of (Snap p n) = codes "snap"
word_of (EndSnapshot n) = codes "unsnap"
word_of (Keep n m) = codes "keep"
word_of (Read n i) = codes "read"
word_of (Counts n) = codes "counts"
word_of Audit = codes "audit"

pub first-word : (command : Command) (word : List ℕ) (words : List (List ℕ)) → SpellsCommand command (word ∷ words) → word ≡ word_of command
first-word (Make n i) word words spells = spells.0
first-word (Copy n m) word words spells = spells.0
first-word (Drop n) word words spells = spells.0
first-word (Weaken n m) word words spells = spells.0
first-word (CopyWeak n m) word words spells = spells.0
first-word (DropWeak n) word words spells = spells.0
first-word (Upgrade n m) word words spells = spells.0
first-word (Put p n) word words spells = spells.0
first-word (Clear p) word words spells = spells.0
first-word (Load p n) word words spells = spells.0
first-word (Replace p old new) word words spells = spells.0
first-word (Snap p n) word words spells = spells.0
first-word (EndSnapshot n) word words spells = spells.0
first-word (Keep n m) word words spells = spells.0
first-word (Read n i) word words spells = spells.0
first-word (Counts n) word words spells = spells.0
first-word Audit word words spells = spells.0

module _ (verb : Verb) (words : List (List ℕ)) where
  -- the command has the verb's shape
  same-shape : (command : Command) → SpellsCommand command (spelling verb ∷ words) → shape verb ≡ shape (verb_at (word_of command))
  same-shape command spells = shape-spelling verb (word_of command) (first-word command (spelling verb) words spells)

  pub no-one_name : shape verb ≡ OneName → ((n : List ℕ) → Each (Named n ∷ []) words → ⊥) → (command : Command)
      → SpellsCommand command (spelling verb ∷ words) → ⊥
  no-one_name is none (Drop n) spells = none n spells.1
  no-one_name is none (DropWeak n) spells = none n spells.1
  no-one_name is none (EndSnapshot n) spells = none n spells.1
  no-one_name is none (Counts n) spells = none n spells.1
  no-one_name is none command spells = let other = sym is ∙ same-shape command spells in cc

  pub no-two_names : shape verb ≡ TwoNames → ((n m : List ℕ) → Each (Named n ∷ Named m ∷ []) words → ⊥) → (command : Command)
      → SpellsCommand command (spelling verb ∷ words) → ⊥
  no-two_names is none (Copy n m) spells = none n m spells.1
  no-two_names is none (Weaken n m) spells = none n m spells.1
  no-two_names is none (CopyWeak n m) spells = none n m spells.1
  no-two_names is none (Upgrade n m) spells = none n m spells.1
  no-two_names is none (Keep n m) spells = none n m spells.1
  no-two_names is none command spells = let other = sym is ∙ same-shape command spells in cc

  pub no-name_and_number : shape verb ≡ NameAndNumber → ((n : List ℕ) (i : ℕ) → Each (Named n ∷ Number i ∷ []) words → ⊥) → (command : Command)
      → SpellsCommand command (spelling verb ∷ words) → ⊥
  no-name_and_number is none (Make n i) spells = none n i spells.1
  no-name_and_number is none (Read n i) spells = none n i spells.1
  no-name_and_number is none command spells = let other = sym is ∙ same-shape command spells in cc

  pub no-one_place : shape verb ≡ OnePlace → ((p : TextPlace) → Each (Place p ∷ []) words → ⊥) → (command : Command)
      → SpellsCommand command (spelling verb ∷ words) → ⊥
  no-one_place is none (Clear p) spells = none p spells.1
  no-one_place is none command spells = let other = sym is ∙ same-shape command spells in cc

  pub no-place_and_name : shape verb ≡ PlaceAndName → ((p : TextPlace) (n : List ℕ) → Each (Place p ∷ Named n ∷ []) words → ⊥) → (command : Command)
      → SpellsCommand command (spelling verb ∷ words) → ⊥
  no-place_and_name is none (Put p n) spells = none p n spells.1
  no-place_and_name is none (Load p n) spells = none p n spells.1
  no-place_and_name is none (Snap p n) spells = none p n spells.1
  no-place_and_name is none command spells = let other = sym is ∙ same-shape command spells in cc

  pub no-place_and_two : shape verb ≡ PlaceAndTwo → ((p : TextPlace) (old new : Option (List ℕ)) → Each (Place p ∷ NamedOrNull old ∷ NamedOrNull new ∷ []) words → ⊥) → (command : Command)
      → SpellsCommand command (spelling verb ∷ words) → ⊥
  no-place_and_two is none (Replace p old new) spells = none p old new spells.1
  no-place_and_two is none command spells = let other = sym is ∙ same-shape command spells in cc

-- ---- lines

spelling-word : (command : Command) → word_of command ≡ spelling (verb_at (word_of command))
spelling-word (Make n i) = refl
spelling-word (Copy n m) = refl
spelling-word (Drop n) = refl
spelling-word (Weaken n m) = refl
spelling-word (CopyWeak n m) = refl
spelling-word (DropWeak n) = refl
spelling-word (Upgrade n m) = refl
spelling-word (Put p n) = refl
spelling-word (Clear p) = refl
spelling-word (Load p n) = refl
spelling-word (Replace p old new) = refl
spelling-word (Snap p n) = refl
spelling-word (EndSnapshot n) = refl
spelling-word (Keep n m) = refl
spelling-word (Read n i) = refl
spelling-word (Counts n) = refl
spelling-word Audit = refl

-- a word that is no verb's begins no line
pub no-verb : (word : List ℕ) (words : List (List ℕ)) → ((verb : Verb) → word ≡ spelling verb → ⊥) → (line : ScriptLine) → Spells line (word ∷ words) → ⊥
no-verb word words none (Heap slots cells weak_cells) spells = none (verb_at (codes "heap")) spells.0
no-verb word words none (OnHeap command) spells =
    none (verb_at (word_of command)) (first-word command word words spells ∙ spelling-word command)

pub not-heap : (command : Command) → shape (verb_at (word_of command)) ≡ ThreeNumbers → ⊥
not-heap (Make n i) is = cc
not-heap command is = cc

-- a verb of three numbers begins no command
pub no-heap : (verb : Verb) (words : List (List ℕ)) → shape verb ≡ ThreeNumbers
    → ((i j k : ℕ) → Each (Number i ∷ Number j ∷ Number k ∷ []) words → ⊥) → (line : ScriptLine) → Spells line (spelling verb ∷ words) → ⊥
no-heap verb words is none (Heap slots cells weak_cells) spells = none slots cells weak_cells spells.1
no-heap verb words is none (OnHeap command) spells = not-heap command (sym (same-shape verb words command spells) ∙ is)
