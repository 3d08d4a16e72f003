-- How a heap of one seat settles: what may go, what it weighs, and when nothing more may go.
use Rattle.std.specs.Prelude.{ℕ, ◌≡◌, ◌<◌, ◌≤◌, ◌+◌, List, [], ◌∷◌, ◌++◌}
use Rattle.plain_state.specs.declared.act.PlainAct.{PlainAct}
use Rattle.plain_state.specs.declared.act.PlainAct.TheVariants as act
use Rattle.plain_state.specs.declared.slot.Kind.{Kind}
use Rattle.plain_state.specs.declared.slot.SlotId.{SlotId}
use Rattle.plain_state.specs.declared.slot.Stage.TheVariants.{Live, Husk}
use Rattle.plain_state.specs.Lists.{Entry, entry_times}
use Rattle.plain_state.specs.Ejection.{Announcements, kept}
use Rattle.plain_state.specs.State.{Plain, PlainSeat, seat_at, slot_at, stage_at}
use Rattle.plain_state.specs.References.{strong_refs, weak_refs}
use Rattle.plain_state.specs.Steps.{Does}

-- how often each slot is announced: once by each uncounted snapshot that the seat is under
abbrev pub announced : PlainSeat → Announcements
announced v k s = entry_times k s v.snapshots

-- w is v with one entry ejected, in front of which at least as many equal ones stand as are announced: so of equal
-- entries the later ones go. The others keep their order
abbrev pub EjectsLater : PlainSeat → Kind → SlotId → PlainSeat → Type 0
EjectsLater v k s w =
    (front : List Entry) × (back : List Entry)
    × (v.deferred ≡ front ++ (k, s) ∷ back) × (w.deferred ≡ front ++ back)
    × (announced v k s ≤ entry_times k s front)

-- a later entry is ejected, an object without references ends, a dying slot is cleared and destroyed,
-- a slot without weak references is given again
abbrev pub Settles : Plain → PlainAct → Plain → Type 0
Settles p (act.Eject k s) q = EjectsLater (seat_at p 0) k s (seat_at q 0)
Settles p (act.End s) q = Unit {0}
Settles p (act.Clear place) q = Unit {0}
Settles p (act.Destroy s) q = Unit {0}
Settles p (act.Give s) q = Unit {0}
Settles p _ q = ⊥

-- what a step destroys weighs
abbrev pub freed : (List ℕ → ℕ) → Plain → PlainAct → ℕ
freed weight p (act.Destroy s) = weight (slot_at p s).payload
freed weight p _ = 0

-- these steps settle p, what they destroy weighs total, and they lead to q
abbrev pub SettlesBy : (List ℕ → ℕ) → List PlainAct → Plain → ℕ → Plain → Type 0
SettlesBy weight [] p total q = (q ≡ p) × (total ≡ 0)
SettlesBy weight (next ∷ more) p total q =
    (m : Plain) × (found : ℕ) × (rest : ℕ)
    × Settles p next m × Does p 0 next found m × SettlesBy weight more m rest q × (total ≡ freed weight p next + rest)

abbrev pub SettlesTo : (List ℕ → ℕ) → Plain → ℕ → Plain → Type 0
SettlesTo weight p total q = (acts : List PlainAct) × SettlesBy weight acts p total q

-- the step clears no place, and so defers nothing
abbrev pub ClearsNothing : PlainAct → Type 0
ClearsNothing (act.Clear place) = ⊥
ClearsNothing _ = Unit {0}

-- none of the steps defers anything
abbrev pub ClearNothing : List PlainAct → Type 0
ClearNothing [] = Unit {0}
ClearNothing (next ∷ more) = ClearsNothing next × ClearNothing more

-- what q has deferred is what the rule of ejection keeps of what p had, with `more` behind it
abbrev pub KeepsAnnounced : Plain → List Entry → Plain → Type 0
KeepsAnnounced p more q =
    (seat_at q 0).deferred ≡ kept ((seat_at p 0).deferred ++ more) (announced (seat_at p 0))

-- the same, where `more` was deferred meanwhile
abbrev pub EjectsAsAnnounced : List PlainAct → Plain → Plain → Type 0
EjectsAsAnnounced acts p q =
    (more : List Entry) × KeepsAnnounced p more q × (ClearNothing acts → more ≡ [])

-- p settles so to q, and its entries are ejected as the rule says
abbrev pub SettlesInOrder : (List ℕ → ℕ) → Plain → ℕ → Plain → Type 0
SettlesInOrder weight p total q =
    (acts : List PlainAct) × SettlesBy weight acts p total q × EjectsAsAnnounced acts p q

-- nothing more may go
pub record IsSettled (p : Plain) : Type 0 where
  pub ejected : (k : Kind) (s : SlotId) →
      entry_times k s (seat_at p 0).deferred ≤ entry_times k s (seat_at p 0).snapshots
  pub destroyed : (seat_at p 0).dying ≡ []
  pub ended : (s : SlotId) → stage_at p s ≡ Live → 0 < strong_refs p s
  pub given : (s : SlotId) → stage_at p s ≡ Husk → 0 < weak_refs p s
