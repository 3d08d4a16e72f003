-- How the lines of a script are spelled.
use Rattle.std.specs.Prelude.{◌≡◌, ℕ, ◌+◌, ◌<◌, ⊤, List, [], ◌∷◌, ◌++◌, codes, Option, Some, None}
use Rattle.line_words.specs.Number.{IsCappedNumber}
use Rattle.script_lines.specs.declared.command.Command.{Command}
use Rattle.script_lines.specs.declared.command.Command.TheVariants.{Make, Copy, Drop, Weaken, CopyWeak, DropWeak, Upgrade, Put, Clear, Load, Replace, Snap, EndSnapshot, Keep, Read, Counts, Audit}
use Rattle.script_lines.specs.declared.command.ScriptLine.{ScriptLine}
use Rattle.script_lines.specs.declared.command.ScriptLine.TheVariants.{Heap, Command as OnHeap}
use Rattle.script_lines.specs.declared.command.TextPlace.{TextPlace}
use Rattle.script_lines.specs.declared.command.TextPlace.TheVariants.{Cell, WeakCell, Field, WeakField}
use Rattle.script_lines.specs.Names.{IsName}

-- ---- what a word spells

-- just this word
abbrev pub Word : List ℕ → List ℕ → Type 0
Word spelled word = word ≡ spelled

-- this name
abbrev pub Named : List ℕ → List ℕ → Type 0
Named name word = (word ≡ name) × IsName name

-- this number, where one above 2^128 - 1 counts as 2^128 - 1
abbrev pub Number : ℕ → List ℕ → Type 0
Number n word = IsCappedNumber word n

-- this name, or `null` for none
abbrev pub NamedOrNull : Option (List ℕ) → List ℕ → Type 0
NamedOrNull None = Word (codes "null")
NamedOrNull (Some name) = Named name

-- `@i`, `~i`, `NAME:0` or `NAME:1`, or `NAME:w`
abbrev pub Place : TextPlace → List ℕ → Type 0
Place (Cell i) word = (index : List ℕ) × (word ≡ codes "@" ++ index) × Number i index
Place (WeakCell i) word = (index : List ℕ) × (word ≡ codes "~" ++ index) × Number i index
Place (Field name k) word = IsName name × (k < 2) × (word ≡ name ++ codes ":" ++ (48 + k) ∷ [])
Place (WeakField name) word = IsName name × (word ≡ name ++ codes ":w")

-- ---- what the words of a line spell

-- there is a word for each form, and it has this form
abbrev pub Each : List (List ℕ → Type 0) → List (List ℕ) → Type 0
Each [] [] = ⊤
Each [] (word ∷ words) = ⊥
Each (form ∷ forms) [] = ⊥
Each (form ∷ forms) (word ∷ words) = form word × Each forms words

-- the command
abbrev pub SpellsCommand : Command → List (List ℕ) → Type 0
SpellsCommand (Make n w) = Each (Word (codes "make") ∷ Named n ∷ Number w ∷ [])
SpellsCommand (Copy n m) = Each (Word (codes "copy") ∷ Named n ∷ Named m ∷ [])
SpellsCommand (Drop n) = Each (Word (codes "drop") ∷ Named n ∷ [])
SpellsCommand (Weaken n m) = Each (Word (codes "weaken") ∷ Named n ∷ Named m ∷ [])
SpellsCommand (CopyWeak n m) = Each (Word (codes "wcopy") ∷ Named n ∷ Named m ∷ [])
SpellsCommand (DropWeak n) = Each (Word (codes "unweak") ∷ Named n ∷ [])
SpellsCommand (Upgrade n m) = Each (Word (codes "up") ∷ Named n ∷ Named m ∷ [])
SpellsCommand (Put p n) = Each (Word (codes "put") ∷ Place p ∷ Named n ∷ [])
SpellsCommand (Clear p) = Each (Word (codes "clear") ∷ Place p ∷ [])
SpellsCommand (Load p n) = Each (Word (codes "load") ∷ Place p ∷ Named n ∷ [])
SpellsCommand (Replace p old new) =
    Each (Word (codes "cas") ∷ Place p ∷ NamedOrNull old ∷ NamedOrNull new ∷ [])
SpellsCommand (Snap p n) = Each (Word (codes "snap") ∷ Place p ∷ Named n ∷ [])
SpellsCommand (EndSnapshot n) = Each (Word (codes "unsnap") ∷ Named n ∷ [])
SpellsCommand (Keep n m) = Each (Word (codes "keep") ∷ Named n ∷ Named m ∷ [])
SpellsCommand (Read n i) = Each (Word (codes "read") ∷ Named n ∷ Number i ∷ [])
SpellsCommand (Counts n) = Each (Word (codes "counts") ∷ Named n ∷ [])
SpellsCommand Audit = Each (Word (codes "audit") ∷ [])

-- the line: the numbers of a heap, or a command
abbrev pub Spells : ScriptLine → List (List ℕ) → Type 0
Spells (Heap slots cells weak_cells) =
    Each (Word (codes "heap") ∷ Number slots ∷ Number cells ∷ Number weak_cells ∷ [])
Spells (OnHeap command) = SpellsCommand command
