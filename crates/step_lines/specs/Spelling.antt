-- How the lines of a list of steps are spelled.
use Rattle.std.specs.Prelude.{◌≡◌, ℕ, ◌+◌, ◌<◌, ⊤, List, [], ◌∷◌, ◌++◌, codes, Option, Some, None}
use Rattle.core_events.specs.plain_state.declared.act.EventPlace.{EventPlace}
use Rattle.core_events.specs.plain_state.declared.act.EventPlace.TheVariants.{Cell, Field, WeakCell, WeakField}
use Rattle.core_events.specs.plain_state.declared.slot.Kind.{Kind}
use Rattle.core_events.specs.plain_state.declared.slot.Kind.TheVariants.{Strong, Weak, Disposal}
use Rattle.core_events.specs.plain_state.declared.slot.SlotId.{SlotId}
use Rattle.core_events.specs.declared.act.Act.{Act}
use Rattle.core_events.specs.declared.act.Act.TheVariants as act
use Rattle.core_events.specs.declared.act.Event.{Event}
use Rattle.core_events.specs.declared.shape.Shape.{Shape}
use Rattle.line_words.specs.Number.{IsNumber}

-- ---- what a word spells

-- just this word
abbrev pub Word : List ℕ → List ℕ → Type 0
Word spelled word = word ≡ spelled

-- this number, however large
abbrev pub Number : ℕ → List ℕ → Type 0
Number n word = IsNumber word n

-- this slot, by its number
abbrev pub Slot : SlotId → List ℕ → Type 0
Slot s word = IsNumber word s.0

abbrev pub KindWord : Kind → List ℕ → Type 0
KindWord Strong = Word (codes "strong")
KindWord Weak = Word (codes "weak")
KindWord Disposal = Word (codes "disposal")

-- this slot, or `null` for none
abbrev pub Content : Option SlotId → List ℕ → Type 0
Content None = Word (codes "null")
Content (Some s) = Slot s

-- `@i`, `s:0` or `s:1`, `~i`, `s:w`
abbrev pub Place : EventPlace → List ℕ → Type 0
Place (Cell i) word = (index : List ℕ) × (word ≡ codes "@" ++ index) × Number i index
Place (Field s i) word =
    (slot : List ℕ) × Slot s slot × (i < 2) × (word ≡ slot ++ codes ":" ++ (48 + i) ∷ [])
Place (WeakCell i) word = (index : List ℕ) × (word ≡ codes "~" ++ index) × Number i index
Place (WeakField s) word = (slot : List ℕ) × Slot s slot × (word ≡ slot ++ codes ":w")

-- ---- what the words of a line spell

-- there is a word for each form, and it has this form
abbrev pub Each : List (List ℕ → Type 0) → List (List ℕ) → Type 0
Each [] [] = ⊤
Each [] (word ∷ words) = ⊥
Each (form ∷ forms) [] = ⊥
Each (form ∷ forms) (word ∷ words) = form word × Each forms words

-- the act
abbrev pub SpellsAct : List (List ℕ) → Act → Type 0
SpellsAct words (act.Add s) = Each (Word (codes "add") ∷ Slot s ∷ []) words
SpellsAct words (act.Drop s) = Each (Word (codes "drop") ∷ Slot s ∷ []) words
SpellsAct words act.Pay = Each (Word (codes "pay") ∷ []) words
SpellsAct words act.Finish = Each (Word (codes "finish") ∷ []) words
SpellsAct words act.Take = Each (Word (codes "take") ∷ []) words
SpellsAct words (act.Count s) = Each (Word (codes "count") ∷ Slot s ∷ []) words
SpellsAct words act.Mark = Each (Word (codes "mark") ∷ []) words
SpellsAct words (act.Announce j k s) =
    Each (Word (codes "announce") ∷ Number j ∷ KindWord k ∷ Slot s ∷ []) words
SpellsAct words (act.Release j) = Each (Word (codes "release") ∷ Number j ∷ []) words
SpellsAct words (act.Look p) = Each (Word (codes "look") ∷ Place p ∷ []) words
SpellsAct words (act.Check j p) = Each (Word (codes "check") ∷ Number j ∷ Place p ∷ []) words
SpellsAct words (act.Alive j) = Each (Word (codes "alive") ∷ Number j ∷ []) words
SpellsAct words act.Scan = Each (Word (codes "scan") ∷ []) words
SpellsAct words (act.Swap p new) =
    Each (Word (codes "swap") ∷ Place p ∷ Content new ∷ []) words
SpellsAct words (act.Cas p old new) =
    Each (Word (codes "cas") ∷ Place p ∷ Content old ∷ Content new ∷ []) words
SpellsAct words (act.Claim s) = Each (Word (codes "claim") ∷ Slot s ∷ []) words
SpellsAct words act.Arm = Each (Word (codes "arm") ∷ []) words
SpellsAct words (act.Fill i value) =
    Each (Word (codes "fill") ∷ Number i ∷ Number value ∷ []) words
SpellsAct words act.Start = Each (Word (codes "start") ∷ []) words
SpellsAct words (act.See s i) = Each (Word (codes "see") ∷ Slot s ∷ Number i ∷ []) words
SpellsAct words act.Free = Each (Word (codes "free") ∷ []) words
SpellsAct words act.Ticket = Each (Word (codes "ticket") ∷ []) words
SpellsAct words (act.Wadd s) = Each (Word (codes "wadd") ∷ Slot s ∷ []) words
SpellsAct words (act.Wdrop s) = Each (Word (codes "wdrop") ∷ Slot s ∷ []) words
SpellsAct words (act.Destroy s) = Each (Word (codes "destroy") ∷ Slot s ∷ []) words
SpellsAct words (act.Wcount s) = Each (Word (codes "wcount") ∷ Slot s ∷ []) words
SpellsAct words (act.Leave j) = Each (Word (codes "leave") ∷ Number j ∷ []) words

-- the event: its seat's number, and its act
abbrev pub SpellsEvent : List (List ℕ) → Event → Type 0
SpellsEvent [] e = ⊥
SpellsEvent (seat ∷ words) e = Number e.seat seat × SpellsAct words e.act

-- the shape
abbrev pub SpellsShape : List (List ℕ) → Shape → Type 0
SpellsShape words z =
    Each (Word (codes "shape") ∷ Number z.seats ∷ Number z.slots ∷ Number z.cells
    ∷ Number z.weak_cells ∷ Number z.batch ∷ []) words
