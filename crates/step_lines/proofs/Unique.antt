-- Words spell one event and one shape at most.
use Rattle.std.proofs.Common.{◌≡◌, ℕ, List, [], ◌∷◌, refl, sym, ap, ◌∙◌}
use Rattle.core_events.specs.declared.act.Act.{Act}
use Rattle.core_events.specs.declared.act.Act.TheVariants as act
use Rattle.core_events.specs.declared.act.Event.{Event}
use Rattle.core_events.specs.declared.shape.Shape.{Shape}
use Rattle.step_lines.specs.Spelling.{Content, Each, KindWord, Number, Place, Slot, SpellsAct, SpellsEvent, SpellsShape}
use Rattle.step_lines.specs.Texts.{event_name}
use Rattle.step_lines.proofs.Names.{named, other}
use Rattle.step_lines.proofs.UniqueWords.{one-number, one-slot, one-kind, one-content, one-place}

-- ---- words that have two lists of forms

-- a word has two forms
abbrev pub InBoth : (List ℕ → Type 0) → (List ℕ → Type 0) → Type 0
InBoth F G = (word : List ℕ) × F word × G word

both-one : (F F' : List ℕ → Type 0) (words : List (List ℕ)) → Each (F ∷ []) words → Each (F' ∷ []) words → InBoth F F'
both-one F F' [] first second = absurd first
both-one F F' (w ∷ words) first second = (w, first.0, second.0)

both-two : (F G F' G' : List ℕ → Type 0) (words : List (List ℕ)) → Each (F ∷ G ∷ []) words → Each (F' ∷ G' ∷ []) words → InBoth F F' × InBoth G G'
both-two F G F' G' [] first second = absurd first
both-two F G F' G' (w ∷ words) first second = ((w, first.0, second.0), both-one G G' words first.1 second.1)

both-three : (F G H F' G' H' : List ℕ → Type 0) (words : List (List ℕ)) → Each (F ∷ G ∷ H ∷ []) words → Each (F' ∷ G' ∷ H' ∷ []) words
    → InBoth F F' × (InBoth G G' × InBoth H H')
both-three F G H F' G' H' [] first second = absurd first
both-three F G H F' G' H' (w ∷ words) first second = ((w, first.0, second.0), both-two G H G' H' words first.1 second.1)

-- a word and the rest
both-more : (F : List ℕ → Type 0) (Fs : List (List ℕ → Type 0)) (G : List ℕ → Type 0) (Gs : List (List ℕ → Type 0)) (words : List (List ℕ))
    → Each (F ∷ Fs) words → Each (G ∷ Gs) words → InBoth F G × ((rest : List (List ℕ)) × (Each Fs rest × Each Gs rest))
both-more F Fs G Gs [] first second = absurd first
both-more F Fs G Gs (w ∷ words) first second = ((w, first.0, second.0), (words, (first.1, second.1)))

-- ---- lines

module _ (name : List ℕ) (words : List (List ℕ)) where
  -- two acts of these words have one name
  same-name : (a b : Act) → SpellsAct (name ∷ words) a → SpellsAct (name ∷ words) b → event_name a ≡ event_name b
  same-name a b first second = sym (named a name words first) ∙ named b name words second

  one-named : (a b : Act) → SpellsAct (name ∷ words) a → SpellsAct (name ∷ words) b → a ≡ b
  one-named (act.Add s) (act.Add s') first second =
      let both = both-one (Slot s) (Slot s') words first.1 second.1 in
      let s_is = one-slot both.0 s s' both.1 both.2 in
      cc
  one-named (act.Add s) b first second = absurd (other (event_name (act.Add s)) (event_name b) (same-name (act.Add s) b first second) refl)
  one-named (act.Drop s) (act.Drop s') first second =
      let both = both-one (Slot s) (Slot s') words first.1 second.1 in
      let s_is = one-slot both.0 s s' both.1 both.2 in
      cc
  one-named (act.Drop s) b first second = absurd (other (event_name (act.Drop s)) (event_name b) (same-name (act.Drop s) b first second) refl)
  one-named act.Pay act.Pay first second = refl
  one-named act.Pay b first second = absurd (other (event_name act.Pay) (event_name b) (same-name act.Pay b first second) refl)
  one-named act.Finish act.Finish first second = refl
  one-named act.Finish b first second = absurd (other (event_name act.Finish) (event_name b) (same-name act.Finish b first second) refl)
  one-named act.Take act.Take first second = refl
  one-named act.Take b first second = absurd (other (event_name act.Take) (event_name b) (same-name act.Take b first second) refl)
  one-named (act.Count s) (act.Count s') first second =
      let both = both-one (Slot s) (Slot s') words first.1 second.1 in
      let s_is = one-slot both.0 s s' both.1 both.2 in
      cc
  one-named (act.Count s) b first second = absurd (other (event_name (act.Count s)) (event_name b) (same-name (act.Count s) b first second) refl)
  one-named act.Mark act.Mark first second = refl
  one-named act.Mark b first second = absurd (other (event_name act.Mark) (event_name b) (same-name act.Mark b first second) refl)
  one-named (act.Announce i k s) (act.Announce i' k' s') first second =
      let both = both-three (Number i) (KindWord k) (Slot s) (Number i') (KindWord k') (Slot s') words first.1 second.1 in
      let i_is = one-number both.0.0 i i' both.0.1 both.0.2 in
      let k_is = one-kind both.1.0.0 k k' both.1.0.1 both.1.0.2 in
      let s_is = one-slot both.1.1.0 s s' both.1.1.1 both.1.1.2 in
      cc
  one-named (act.Announce i k s) b first second = absurd (other (event_name (act.Announce i k s)) (event_name b) (same-name (act.Announce i k s) b first second) refl)
  one-named (act.Release i) (act.Release i') first second =
      let both = both-one (Number i) (Number i') words first.1 second.1 in
      let i_is = one-number both.0 i i' both.1 both.2 in
      cc
  one-named (act.Release i) b first second = absurd (other (event_name (act.Release i)) (event_name b) (same-name (act.Release i) b first second) refl)
  one-named (act.Look p) (act.Look p') first second =
      let both = both-one (Place p) (Place p') words first.1 second.1 in
      let p_is = one-place both.0 p p' both.1 both.2 in
      cc
  one-named (act.Look p) b first second = absurd (other (event_name (act.Look p)) (event_name b) (same-name (act.Look p) b first second) refl)
  one-named (act.Check i p) (act.Check i' p') first second =
      let both = both-two (Number i) (Place p) (Number i') (Place p') words first.1 second.1 in
      let i_is = one-number both.0.0 i i' both.0.1 both.0.2 in
      let p_is = one-place both.1.0 p p' both.1.1 both.1.2 in
      cc
  one-named (act.Check i p) b first second = absurd (other (event_name (act.Check i p)) (event_name b) (same-name (act.Check i p) b first second) refl)
  one-named (act.Alive i) (act.Alive i') first second =
      let both = both-one (Number i) (Number i') words first.1 second.1 in
      let i_is = one-number both.0 i i' both.1 both.2 in
      cc
  one-named (act.Alive i) b first second = absurd (other (event_name (act.Alive i)) (event_name b) (same-name (act.Alive i) b first second) refl)
  one-named act.Scan act.Scan first second = refl
  one-named act.Scan b first second = absurd (other (event_name act.Scan) (event_name b) (same-name act.Scan b first second) refl)
  one-named (act.Swap p x) (act.Swap p' x') first second =
      let both = both-two (Place p) (Content x) (Place p') (Content x') words first.1 second.1 in
      let p_is = one-place both.0.0 p p' both.0.1 both.0.2 in
      let x_is = one-content both.1.0 x x' both.1.1 both.1.2 in
      cc
  one-named (act.Swap p x) b first second = absurd (other (event_name (act.Swap p x)) (event_name b) (same-name (act.Swap p x) b first second) refl)
  one-named (act.Cas p x y) (act.Cas p' x' y') first second =
      let both = both-three (Place p) (Content x) (Content y) (Place p') (Content x') (Content y') words first.1 second.1 in
      let p_is = one-place both.0.0 p p' both.0.1 both.0.2 in
      let x_is = one-content both.1.0.0 x x' both.1.0.1 both.1.0.2 in
      let y_is = one-content both.1.1.0 y y' both.1.1.1 both.1.1.2 in
      cc
  one-named (act.Cas p x y) b first second = absurd (other (event_name (act.Cas p x y)) (event_name b) (same-name (act.Cas p x y) b first second) refl)
  one-named (act.Claim s) (act.Claim s') first second =
      let both = both-one (Slot s) (Slot s') words first.1 second.1 in
      let s_is = one-slot both.0 s s' both.1 both.2 in
      cc
  one-named (act.Claim s) b first second = absurd (other (event_name (act.Claim s)) (event_name b) (same-name (act.Claim s) b first second) refl)
  one-named act.Arm act.Arm first second = refl
  one-named act.Arm b first second = absurd (other (event_name act.Arm) (event_name b) (same-name act.Arm b first second) refl)
  one-named (act.Fill i j) (act.Fill i' j') first second =
      let both = both-two (Number i) (Number j) (Number i') (Number j') words first.1 second.1 in
      let i_is = one-number both.0.0 i i' both.0.1 both.0.2 in
      let j_is = one-number both.1.0 j j' both.1.1 both.1.2 in
      cc
  one-named (act.Fill i j) b first second = absurd (other (event_name (act.Fill i j)) (event_name b) (same-name (act.Fill i j) b first second) refl)
  one-named act.Start act.Start first second = refl
  one-named act.Start b first second = absurd (other (event_name act.Start) (event_name b) (same-name act.Start b first second) refl)
  one-named (act.See s i) (act.See s' i') first second =
      let both = both-two (Slot s) (Number i) (Slot s') (Number i') words first.1 second.1 in
      let s_is = one-slot both.0.0 s s' both.0.1 both.0.2 in
      let i_is = one-number both.1.0 i i' both.1.1 both.1.2 in
      cc
  one-named (act.See s i) b first second = absurd (other (event_name (act.See s i)) (event_name b) (same-name (act.See s i) b first second) refl)
  one-named act.Free act.Free first second = refl
  one-named act.Free b first second = absurd (other (event_name act.Free) (event_name b) (same-name act.Free b first second) refl)
  one-named act.Ticket act.Ticket first second = refl
  one-named act.Ticket b first second = absurd (other (event_name act.Ticket) (event_name b) (same-name act.Ticket b first second) refl)
  one-named (act.Wadd s) (act.Wadd s') first second =
      let both = both-one (Slot s) (Slot s') words first.1 second.1 in
      let s_is = one-slot both.0 s s' both.1 both.2 in
      cc
  one-named (act.Wadd s) b first second = absurd (other (event_name (act.Wadd s)) (event_name b) (same-name (act.Wadd s) b first second) refl)
  one-named (act.Wdrop s) (act.Wdrop s') first second =
      let both = both-one (Slot s) (Slot s') words first.1 second.1 in
      let s_is = one-slot both.0 s s' both.1 both.2 in
      cc
  one-named (act.Wdrop s) b first second = absurd (other (event_name (act.Wdrop s)) (event_name b) (same-name (act.Wdrop s) b first second) refl)
  one-named (act.Destroy s) (act.Destroy s') first second =
      let both = both-one (Slot s) (Slot s') words first.1 second.1 in
      let s_is = one-slot both.0 s s' both.1 both.2 in
      cc
  one-named (act.Destroy s) b first second = absurd (other (event_name (act.Destroy s)) (event_name b) (same-name (act.Destroy s) b first second) refl)
  one-named (act.Wcount s) (act.Wcount s') first second =
      let both = both-one (Slot s) (Slot s') words first.1 second.1 in
      let s_is = one-slot both.0 s s' both.1 both.2 in
      cc
  one-named (act.Wcount s) b first second = absurd (other (event_name (act.Wcount s)) (event_name b) (same-name (act.Wcount s) b first second) refl)
  one-named (act.Leave i) (act.Leave i') first second =
      let both = both-one (Number i) (Number i') words first.1 second.1 in
      let i_is = one-number both.0 i i' both.1 both.2 in
      cc
  one-named (act.Leave i) b first second = absurd (other (event_name (act.Leave i)) (event_name b) (same-name (act.Leave i) b first second) refl)

no-words : (a : Act) → SpellsAct [] a → ⊥
no-words (act.Add s) spells = spells
no-words (act.Drop s) spells = spells
no-words act.Pay spells = spells
no-words act.Finish spells = spells
no-words act.Take spells = spells
no-words (act.Count s) spells = spells
no-words act.Mark spells = spells
no-words (act.Announce i k s) spells = spells
no-words (act.Release i) spells = spells
no-words (act.Look p) spells = spells
no-words (act.Check i p) spells = spells
no-words (act.Alive i) spells = spells
no-words act.Scan spells = spells
no-words (act.Swap p x) spells = spells
no-words (act.Cas p x y) spells = spells
no-words (act.Claim s) spells = spells
no-words act.Arm spells = spells
no-words (act.Fill i j) spells = spells
no-words act.Start spells = spells
no-words (act.See s i) spells = spells
no-words act.Free spells = spells
no-words act.Ticket spells = spells
no-words (act.Wadd s) spells = spells
no-words (act.Wdrop s) spells = spells
no-words (act.Destroy s) spells = spells
no-words (act.Wcount s) spells = spells
no-words (act.Leave s) spells = spells

one-act : (words : List (List ℕ)) (a b : Act) → SpellsAct words a → SpellsAct words b → a ≡ b
one-act [] a b first second = absurd (no-words a first)
one-act (name ∷ words) a b first second = one-named name words a b first second

-- an event and a shape are their parts
abbrev event_of : ℕ → Act → Event
event_of n a = record { seat = n; act = a }

abbrev shape_of : ℕ → ℕ → ℕ → ℕ → ℕ → Shape
shape_of n s c w b = record { seats = n; slots = s; cells = c; weak_cells = w; batch = b }

pub one-event : (words : List (List ℕ)) (e f : Event) → SpellsEvent words e → SpellsEvent words f → e ≡ f
one-event [] e f first second = absurd first
one-event (seat ∷ words) e f first second =
    let seat_is : e.seat ≡ f.seat = one-number seat e.seat f.seat first.0 second.0 in
    let act_is : e.act ≡ f.act = one-act words e.act f.act first.1 second.1 in
    ap (λ (n : ℕ). event_of n e.act) seat_is ∙ ap (λ (a : Act). event_of f.seat a) act_is

pub one-shape : (words : List (List ℕ)) (y z : Shape) → SpellsShape words y → SpellsShape words z → y ≡ z
one-shape [] y z first second = absurd first
one-shape (name ∷ words) y z first second =
    let front = both-more (Number y.seats) (Number y.slots ∷ Number y.cells ∷ Number y.weak_cells ∷ Number y.batch ∷ [])
    (Number z.seats) (Number z.slots ∷ Number z.cells ∷ Number z.weak_cells ∷ Number z.batch ∷ []) words first.1 second.1 in
    let next = both-more (Number y.slots) (Number y.cells ∷ Number y.weak_cells ∷ Number y.batch ∷ [])
    (Number z.slots) (Number z.cells ∷ Number z.weak_cells ∷ Number z.batch ∷ []) front.1.0 front.1.1.0 front.1.1.1 in
    let rest = both-three (Number y.cells) (Number y.weak_cells) (Number y.batch) (Number z.cells) (Number z.weak_cells) (Number z.batch)
    next.1.0 next.1.1.0 next.1.1.1 in
    ap (λ (n : ℕ). shape_of n y.slots y.cells y.weak_cells y.batch) (one-number front.0.0 y.seats z.seats front.0.1 front.0.2)
    ∙ ap (λ (n : ℕ). shape_of z.seats n y.cells y.weak_cells y.batch) (one-number next.0.0 y.slots z.slots next.0.1 next.0.2)
    ∙ ap (λ (n : ℕ). shape_of z.seats z.slots n y.weak_cells y.batch) (one-number rest.0.0 y.cells z.cells rest.0.1 rest.0.2)
    ∙ ap (λ (n : ℕ). shape_of z.seats z.slots z.cells n y.batch) (one-number rest.1.0.0 y.weak_cells z.weak_cells rest.1.0.1 rest.1.0.2)
    ∙ ap (λ (n : ℕ). shape_of z.seats z.slots z.cells z.weak_cells n) (one-number rest.1.1.0 y.batch z.batch rest.1.1.1 rest.1.1.2)
