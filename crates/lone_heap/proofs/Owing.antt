-- What a seat owes once it has scanned, and while it pays: of each such entry as many stay as it is under snapshots of.
use Rattle.std.proofs.Common.{◌≡◌, ⊎_elim, ℕ, suc, ◌+◌, ◌<◌, ◌≤◌, Bool, true, false, List, [], ◌∷◌, length, get_or, refl, ap, sym, ◌∙◌, subst, arith}
use Rattle.std.specs.Prelude.{Option}
use Rattle.std.proofs.lemmas.Bool.{cases_lt}
use Rattle.protected_loads.specs.plain_state.declared.slot.Kind.{Kind}
use Rattle.protected_loads.specs.plain_state.declared.slot.Kind.TheVariants.{Strong, Weak, Disposal}
use Rattle.protected_loads.specs.plain_state.declared.slot.SlotId.{SlotId}
use Rattle.protected_loads.specs.plain_state.Ejection.{Announcements, ejected, kept}
use Rattle.protected_loads.specs.plain_state.Lists.{Entry, entry_times}
use Rattle.protected_loads.specs.plain_state.State.{PlainSeat}
use Rattle.protected_loads.proofs.Below.plain_state_Ejections.{kept_times, split_times}
use Rattle.protected_loads.proofs.Below.plain_state_Kit.{entry_append, entry_cons, entry_in, entry_is, entry_none, entry_self}
use Rattle.plain_settling.specs.Settling.{IsSurplus}
use Rattle.protected_loads.specs.announce_slots.Seen.{announced_in}
use Rattle.protected_loads.specs.announce_slots.Words.{code}
use Rattle.protected_loads.proofs.Below.announce_slots_Counting.{seen_cons, word_one, word_same}
use Rattle.protected_loads.specs.core_events.declared.act.Act.{Act}
use Rattle.protected_loads.specs.core_events.declared.act.Act.TheVariants as act
use Rattle.protected_loads.specs.core_events.declared.shape.Shape.{Shape}
use Rattle.protected_loads.specs.core_events.declared.view.CoreView.{CoreView}
use Rattle.protected_loads.specs.core_events.declared.view.Note.{Note}
use Rattle.protected_loads.specs.core_events.declared.view.Note.TheVariants as note
use Rattle.protected_loads.specs.core_events.declared.view.Phase.{Phase}
use Rattle.protected_loads.specs.core_events.Good.{word_of_note}
use Rattle.protected_loads.specs.core_events.Shows.{show_seat}
use Rattle.protected_loads.specs.core_events.Steps.{ended, moved, paid}
use Rattle.protected_loads.specs.core_events.Views.{note_of, snapshots, valid_of}
use Rattle.slot_store.proofs.OwnNotes.{AreOwn}

-- of an entry that it owes as many are retired as it is under snapshots of
abbrev pub OwesSurplus : CoreView → Type 0
OwesSurplus v =
    (k : Kind) (s : SlotId) → 0 < entry_times k s v.owed
    → entry_times k s (snapshots v) ≤ entry_times k s v.retired

pub owes_none : (v : CoreView) → v.owed ≡ [] → OwesSurplus v
owes_none v none k s some =
    let e = ap (entry_times k s) none in
    let zero = entry_none k s in absurd (omega arith)

-- so more of it wait than are announced
pub owed_surplus : (v : CoreView) (y : PlainSeat) → y ≡ show_seat v → OwesSurplus v → (k : Kind)
    (s : SlotId) → 0 < entry_times k s v.owed → IsSurplus y k s
owed_surplus v y is owes k s some =
    let all = entry_append k s v.owed v.retired in
    let had = owes k s some in
    let surplus : IsSurplus (show_seat v) k s = omega arith in
    subst (λ (x : PlainSeat). IsSurplus x k s) (sym is) surplus

pub first_there : (e : Entry) (es : List Entry) → 0 < entry_times e.0 e.1 (e ∷ es)
first_there e es =
    let one = entry_cons e.0 e.1 e es in
    let self = entry_self e.0 e.1 in omega arith

-- the acts of a payment
abbrev pub IsPaying : Act → Type 0
IsPaying act.Pay = Unit {0}
IsPaying act.Finish = Unit {0}
IsPaying act.Take = Unit {0}
IsPaying act.Free = Unit {0}
IsPaying a = ⊥

-- no more is owed, and as much is retired and announced
record Less (v u : CoreView) : Type 0 where
  owed : (k : Kind) (s : SlotId) → entry_times k s u.owed ≤ entry_times k s v.owed
  retired : u.retired ≡ v.retired
  notes : u.notes ≡ v.notes

less_owes : (v u : CoreView) → Less v u → OwesSurplus v → OwesSurplus u
less_owes v u less owes k s some =
    let fewer = less.owed k s in
    let e = ap (entry_times k s) less.retired in
    let f = ap (λ (ns : List Note). entry_times k s (valid_of ns)) less.notes in
    let had = owes k s (omega arith) in omega arith

tail_less : (e : Entry) (es : List Entry) (v : CoreView) → v.owed ≡ e ∷ es → (k : Kind) (s : SlotId)
    → entry_times k s es ≤ entry_times k s v.owed
tail_less e es v is k s =
    let more = entry_cons k s e es in
    let all = ap (entry_times k s) is in omega arith

paid_less : (w : ℕ) (es : List Entry) (v : CoreView) → v.owed ≡ es → Less v (paid w es v)
paid_less w [] v is = record { owed = λ k s. omega arith; retired = refl; notes = refl }
paid_less w ((Strong, x) ∷ es) v is =
    record { owed = tail_less (Strong, x) es v is; retired = refl; notes = refl }
paid_less w ((Weak, x) ∷ es) v is =
    record { owed = tail_less (Weak, x) es v is; retired = refl; notes = refl }
paid_less w ((Disposal, x) ∷ es) v is =
    record { owed = tail_less (Disposal, x) es v is; retired = refl; notes = refl }

ended_less : (b : Bool) (o : Option SlotId) (next : Phase) (v : CoreView)
    → Less v (ended b o next v)
ended_less true o next v = record { owed = λ k s. omega arith; retired = refl; notes = refl }
ended_less false o next v = record { owed = λ k s. omega arith; retired = refl; notes = refl }

traced : (a : Act) (z : Shape) (w : ℕ) (v u : CoreView) → Less v u → moved z a w v ≡ record u
    { trail = (moved z a w v).trail } → Less v (moved z a w v)
traced a z w v u less is = subst (λ (x : CoreView). Less v x) (sym is)
    (record { owed = less.owed; retired = less.retired; notes = less.notes })

act_less : (a : Act) (z : Shape) (w : ℕ) (v : CoreView) → IsPaying a → Less v (moved z a w v)
act_less act.Pay z w v is = traced act.Pay z w v _ (paid_less w v.owed v refl) refl
act_less act.Finish z w v is = traced act.Finish z w v _ (ended_less _ _ _ v) refl
act_less act.Take z w v is = traced act.Take z w v _ (ended_less _ _ _ v) refl
act_less act.Free z w v is =
    record { owed = λ k s. omega arith; retired = refl; notes = refl }
act_less act.Scan z w v is = absurd is
act_less act.Start z w v is = absurd is
act_less act.Arm z w v is = absurd is
act_less act.Mark z w v is = absurd is
act_less act.Ticket z w v is = absurd is
act_less (act.Add s) z w v is = absurd is
act_less (act.Drop s) z w v is = absurd is
act_less (act.Count s) z w v is = absurd is
act_less (act.Announce j k s) z w v is = absurd is
act_less (act.Release j) z w v is = absurd is
act_less (act.Look p) z w v is = absurd is
act_less (act.Check j p) z w v is = absurd is
act_less (act.Alive j) z w v is = absurd is
act_less (act.Swap p new) z w v is = absurd is
act_less (act.Cas p old new) z w v is = absurd is
act_less (act.Claim s) z w v is = absurd is
act_less (act.Fill i x) z w v is = absurd is
act_less (act.See s i) z w v is = absurd is
act_less (act.Wadd s) z w v is = absurd is
act_less (act.Wdrop s) z w v is = absurd is
act_less (act.Destroy s) z w v is = absurd is
act_less (act.Wcount s) z w v is = absurd is
act_less (act.Leave j) z w v is = absurd is

-- after such an act it owes no more than before
pub paying_owes : (a : Act) (z : Shape) (w : ℕ) (v u : CoreView) → IsPaying a → u ≡ moved z a w v
    → OwesSurplus v → OwesSurplus u
paying_owes a z w v u is moves owes =
    subst (λ (x : CoreView). OwesSurplus x) (sym moves)
    (less_owes v (moved z a w v) (act_less a z w v is) owes)

-- a scan that ejects an entry keeps as many equal ones as it saw announced
split_owes : (es : List Entry) (seen : Announcements) (few : ℕ) (k : Kind) (s : SlotId)
    → few ≤ seen k s → 0 < entry_times k s (ejected es seen) → few ≤ entry_times k s (kept es seen)
split_owes es seen few k s most some =
    let smaller = kept_times k s es seen in
    let all = split_times k s es seen in omega arith

-- what each snapshot is of stands in the words of the seat's own notes
entry_most : (k : Kind) (s : SlotId) (e : Entry) → 0 < entry_in k s e → entry_in k s e ≡ 1
entry_most k s e some = ap (entry_in k s) (entry_is k s e some) ∙ entry_self k s

word_least : (k : Kind) (s : SlotId) (e : Entry) (w : ℕ) → w ≡ code e.0 e.1
    → entry_in k s e ≤ word_one (code k s) w
word_least k s e w is = ⊎_elim
    (λ (some : 0 < entry_in k s e).
    let most = entry_most k s e some in
    let one = word_same (code k s) w
    (is ∙ ap (λ (x : Entry). code x.0 x.1) (entry_is k s e some)) in omega arith)
    (λ (none : entry_in k s e ≤ 0). omega arith)
    (cases_lt 0 (entry_in k s e))

module _ (k : Kind) (s : SlotId) where
  least_more : (n : Note) (ns : List Note) (w : ℕ) (ws : List ℕ) → w ≡ word_of_note n
      → entry_times k s (valid_of ns) ≤ announced_in ws k s
      → entry_times k s (valid_of (n ∷ ns)) ≤ announced_in (w ∷ ws) k s
  least_more note.Idle ns w ws is rest = let more = seen_cons (code k s) w ws in omega arith
  least_more (note.Announced j x) ns w ws is rest =
      let more = seen_cons (code k s) w ws in omega arith
  least_more (note.Valid j x) ns w ws is rest =
      let more = seen_cons (code k s) w ws in
      let entry = entry_cons k s (j, x) (valid_of ns) in
      let one = word_least k s (j, x) w is in omega arith

  least_of : (v : CoreView) (i : ℕ) (ns : List Note) (ws : List ℕ)
      → ((j : ℕ) → note_of v (i + j) ≡ get_or ns j note.Idle) → length ns ≤ length ws
      → AreOwn v i ws → entry_times k s (valid_of ns) ≤ announced_in ws k s
  least_of v i [] ws from few own = let none = entry_none k s in omega arith
  least_of v i (n ∷ ns) [] from few own = absurd (omega arith)
  least_of v i (n ∷ ns) (w ∷ ws) from few own =
      let at : i + 0 ≡ i = omega arith in
      least_more n ns w ws (own.0 ∙ ap word_of_note (ap (note_of v) (sym at) ∙ from 0))
      (least_of v (i + 1) ns ws
      (λ j. let k : i + 1 + j ≡ i + suc j = omega arith in ap (note_of v) k ∙ from (suc j))
      (omega arith) own.1)

-- all of them are announced by as many words of it as it has notes
pub own_least : (v : CoreView) (ws : List ℕ) → length v.notes ≤ length ws → AreOwn v 0 ws → (k : Kind)
    (s : SlotId) → entry_times k s (snapshots v) ≤ announced_in ws k s
own_least v ws few own k s =
    least_of k s v 0 v.notes ws
    (λ j. let at : 0 + j ≡ j = omega arith in ap (λ (i : ℕ). get_or v.notes i note.Idle) at) few own

-- so a seat that has just scanned owes what is left over
pub scan_owes : (es : List Entry) (v : CoreView) (seen : Announcements) (ns : List Note)
    → ((k : Kind) (s : SlotId) → entry_times k s (valid_of ns) ≤ seen k s)
    → v.owed ≡ ejected es seen → v.retired ≡ kept es seen → v.notes ≡ ns → OwesSurplus v
scan_owes es v seen ns most owed retired notes k s some =
    let gone = ap (entry_times k s) owed in
    let stay = ap (entry_times k s) retired in
    let under = ap (λ (xs : List Note). entry_times k s (valid_of xs)) notes in
    let least = split_owes es seen (entry_times k s (valid_of ns)) k s (most k s) (omega arith) in
    omega arith
