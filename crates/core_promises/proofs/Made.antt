-- A seat's made list is the starts of its trail, and of the trails of those that left to it.
use Rattle.std.proofs.Common.{◌≡◌, ⊎_elim, ℕ, ◌+◌, Bool, true, false, List, [], ◌∷◌, ◌++◌, refl, ap, sym, ◌∙◌, arith, append_assoc}
use Rattle.std.specs.Prelude.{◌==◌, nat_lt, Option, Some, None, if◌then◌else◌}
use Rattle.std.proofs.lemmas.List.{append-nil}
use Rattle.std.proofs.lemmas.List.Sums.{sum_by_push}
use Rattle.core_law.specs.plain_state.declared.slot.Kind.{Kind}
use Rattle.core_law.specs.plain_state.declared.slot.Kind.TheVariants.{Strong, Weak, Disposal}
use Rattle.core_law.specs.plain_state.declared.slot.SlotId.{SlotId}
use Rattle.core_law.specs.plain_state.Lists.{Entry, times}
use Rattle.core_law.specs.plain_state.Places.{place_kind}
use Rattle.core_law.specs.plain_state.Steps.{word_of}
use Rattle.core_law.specs.counter_word.Words.{ZERO, has_help, value}
use Rattle.core_law.specs.core_events.declared.act.Act.{Act}
use Rattle.core_law.specs.core_events.declared.act.Act.TheVariants as act
use Rattle.core_law.specs.core_events.declared.outcome.Outcome.TheVariants as outcome
use Rattle.core_law.specs.core_events.declared.shape.Shape.{Shape}
use Rattle.core_law.specs.core_events.declared.view.CoreView.{CoreView}
use Rattle.core_law.specs.core_events.declared.view.LeftSeat.{LeftSeat}
use Rattle.core_law.specs.core_events.declared.view.Move.{Move}
use Rattle.core_law.specs.core_events.declared.view.Phase.{Phase}
use Rattle.core_law.specs.core_events.declared.view.Phase.TheVariants as phase
use Rattle.core_law.specs.core_events.Words.{bit_in}
use Rattle.core_law.specs.core_events.Shows.{filled}
use Rattle.core_law.specs.core_events.Steps.{May, answer, changed, ended, exchanged, given_up, is_last, is_valid, paid, moved, noted}
use Rattle.core_law.specs.core_events.Runs.{left_behind, taken_over}
use Rattle.core_law.proofs.Trails.{changed_trail}
use Rattle.core_law.specs.core_events.Views.{about, alone, note_of, slot_of}
use Rattle.core_promises.specs.Made.{MadeByStarts, claimed_by, making, making_after, started, started_before, starts}
use Rattle.core_law.proofs.Kit.{times_append, times_none}

-- one move more
making_push : (s : Option SlotId) (ms : List Move) (m : Move)
    → making s (ms ++ m ∷ []) ≡ making_after m.act m.outcome (making s ms)
making_push s [] m = refl
making_push s (n ∷ ms) m = making_push (making_after n.act n.outcome s) ms m

started_push : (s : Option SlotId) (ms : List Move) (m : Move)
    → started s (ms ++ m ∷ []) ≡ started s ms ++ starts m.act (making s ms)
started_push s [] m = append-nil (starts m.act s)
started_push s (n ∷ ms) m =
    ap (λ (xs : List SlotId). starts n.act s ++ xs)
    (started_push (making_after n.act n.outcome s) ms m)
    ∙ sym (append_assoc (starts n.act s) (started (making_after n.act n.outcome s) ms)
    (starts m.act (making (making_after n.act n.outcome s) ms)))

-- of two views it is one or the other
one_of : {A : Type 0} (f : CoreView → A) (b : Bool) (x y : CoreView) (r : A) → f x ≡ r → f y ≡ r
    → f (if b then x else y) ≡ r
one_of f true x y r first second = first
one_of f false x y r first second = second

no_slot : (b : Bool) (p q : Phase) → filled p ≡ None → filled q ≡ None
    → filled (if b then p else q) ≡ None
no_slot true p q first second = first
no_slot false p q first second = second

about_none : (b : Bool) (o : Option SlotId)
    → filled (if b then about phase.Help o else phase.Idle) ≡ None
about_none true None = refl
about_none true (Some s) = refl
about_none false o = refl

ended_none : (b : Bool) (s : Option SlotId) (p : Phase) (v : CoreView) → filled p ≡ None
    → filled (ended b s p v).phase ≡ None
ended_none true s p v none = refl
ended_none false s p v none = none

gives_none : (k : Kind) (s : SlotId) (w : ℕ) (v : CoreView) → filled v.phase ≡ None
    → filled (given_up k s w v).phase ≡ None
gives_none Strong s w v none = no_slot (w == 1) (phase.Finish s) phase.Idle refl refl
gives_none Weak s w v none = no_slot (w == 1) (phase.Give s) phase.Idle refl refl
gives_none Disposal s w v none = none

pays_none : (es : List Entry) (w : ℕ) (v : CoreView) → filled v.phase ≡ None
    → filled (paid w es v).phase ≡ None
pays_none [] w v none = none
pays_none (e ∷ es) w v none = gives_none e.0 e.1 w (record v { owed = es }) none

puts_same : (k : Kind) (new : Option SlotId) (w : ℕ) (v : CoreView)
    → filled (exchanged k new w v).phase ≡ filled v.phase
puts_same k None w v = refl
puts_same Strong (Some s) w v = refl
puts_same Weak (Some s) w v = refl
puts_same Disposal (Some s) w v = refl

module _ (z : Shape) (w : ℕ) (v : CoreView) where
  -- the slot that the seat has claimed and not started is that of its phase
  claims : (s : SlotId) (b : Bool)
      → filled (if b then record v { makes = v.makes + 1; phase = phase.Bare s } else v).phase
      ≡ claimed_by (if b then outcome.Claimed else outcome.Taken w) s (filled v.phase)
  claims s true = refl
  claims s false = refl

  abbrev Goes : Act → Type 0
  Goes a = filled (changed z a w v).phase ≡ making_after a (answer z a w v) (filled v.phase)

  phase_goes : (a : Act) → May z a v → Goes a
  phase_goes (act.Add s) may =
      one_of (λ (u : CoreView). filled u.phase) (nat_lt w ZERO) _ _ (filled v.phase) refl refl
  phase_goes (act.Drop s) may = no_slot (w == 1) (phase.Finish s) phase.Idle refl refl
      ∙ sym (ap filled may.0.0)
  phase_goes act.Pay may = pays_none v.owed w v (ap filled may.0.0) ∙ sym (ap filled may.0.0)
  phase_goes act.Finish may = ended_none (w == 0) (slot_of v.phase) _ v
      (about_none (has_help w) (slot_of v.phase)) ∙ sym (ap filled may.1)
  phase_goes act.Take may = ended_none (has_help w) (slot_of v.phase) phase.Idle v refl
      ∙ sym (ap filled may.1)
  phase_goes (act.Count s) may =
      one_of (λ (u : CoreView). filled u.phase) (w == 0) (record v { phase = phase.Zero s }) v
      (filled v.phase) (sym (ap filled may.0.0)) refl
  phase_goes act.Mark may = sym (ap filled may.1)
  phase_goes (act.Announce j k s) may = refl
  phase_goes (act.Release j) may = refl
  phase_goes (act.Look p) may = refl
  phase_goes (act.Check j p) may =
      one_of (λ (u : CoreView). filled u.phase) (is_valid w (note_of v j)) _ _ (filled v.phase)
      refl refl
  phase_goes (act.Alive j) may =
      one_of (λ (u : CoreView). filled u.phase) (nat_lt 0 (value w)) _ _ (filled v.phase) refl refl
  phase_goes act.Scan may =
      let none = ⊎_elim (λ e. ap filled e.0.0) (λ e. ap filled e) may in
      one_of (λ (u : CoreView). filled u.phase) (is_last z v) _ _ (filled v.phase) (sym none)
      (sym none)
  phase_goes (act.Swap p new) may = puts_same (place_kind p) new w v
  phase_goes (act.Cas p old new) may =
      one_of (λ (u : CoreView). filled u.phase) (w == word_of old) _ _ (filled v.phase)
      (puts_same (place_kind p) new w v) refl
  phase_goes (act.Claim s) may = claims s (bit_in s w == 1)
  phase_goes act.Arm may = rw (ap slot_of may.1) (sym (ap filled may.1))
  phase_goes (act.Fill i x) may = refl
  phase_goes act.Start may = refl
  phase_goes (act.See s i) may = refl
  phase_goes act.Free may = sym (ap filled may.1)
  phase_goes act.Ticket may = refl
  phase_goes (act.Wadd s) may = refl
  phase_goes (act.Wdrop s) may = no_slot (w == 1) (phase.Give s) phase.Idle refl refl
      ∙ sym (ap filled may.0.0)
  phase_goes (act.Destroy s) may = no_slot (w == 1) (phase.Give s) phase.Idle refl refl
      ∙ sym (ap filled may.0.0)
  phase_goes (act.Wcount s) may = refl
  phase_goes (act.Leave j) may = refl

  abbrev Starts : Act → Type 0
  Starts a = (changed z a w v).made ≡ v.made ++ starts a (filled v.phase)

  same_made : (xs : List SlotId) → xs ≡ v.made → xs ≡ v.made ++ []
  same_made xs e = e ∙ sym (append-nil v.made)

  either_made : (b : Bool) (x y : CoreView) → x.made ≡ v.made → y.made ≡ v.made
      → (if b then x else y).made ≡ v.made ++ []
  either_made b x y first second =
      same_made (if b then x else y).made (one_of (λ (u : CoreView). u.made) b x y v.made first second)

  gives_made : (k : Kind) (s : SlotId) (x : CoreView) → x.made ≡ v.made
      → (given_up k s w x).made ≡ v.made
  gives_made Strong s x e = e
  gives_made Weak s x e = e
  gives_made Disposal s x e = e

  pays_made : (es : List Entry) → (paid w es v).made ≡ v.made
  pays_made [] = refl
  pays_made (e ∷ es) = gives_made e.0 e.1 (record v { owed = es }) refl

  puts_made : (k : Kind) (new : Option SlotId) → (exchanged k new w v).made ≡ v.made
  puts_made k None = refl
  puts_made Strong (Some s) = refl
  puts_made Weak (Some s) = refl
  puts_made Disposal (Some s) = refl

  made_goes : (a : Act) → May z a v → Starts a
  made_goes (act.Add s) may = either_made (nat_lt w ZERO) _ _ refl refl
  made_goes (act.Drop s) may = same_made _ refl
  made_goes act.Pay may = same_made _ (pays_made v.owed)
  made_goes act.Finish may = either_made (w == 0) _ _ refl refl
  made_goes act.Take may = either_made (has_help w) _ _ refl refl
  made_goes (act.Count s) may = either_made (w == 0) _ _ refl refl
  made_goes act.Mark may = same_made _ refl
  made_goes (act.Announce j k s) may = same_made _ refl
  made_goes (act.Release j) may = same_made _ refl
  made_goes (act.Look p) may = same_made _ refl
  made_goes (act.Check j p) may = either_made (is_valid w (note_of v j)) _ _ refl refl
  made_goes (act.Alive j) may = either_made (nat_lt 0 (value w)) _ _ refl refl
  made_goes act.Scan may = either_made (is_last z v) _ _ refl refl
  made_goes (act.Swap p new) may = same_made _ (puts_made (place_kind p) new)
  made_goes (act.Cas p old new) may =
      either_made (w == word_of old) _ _ (puts_made (place_kind p) new) refl
  made_goes (act.Claim s) may = either_made (bit_in s w == 1) _ _ refl refl
  made_goes act.Arm may = same_made _ refl
  made_goes (act.Fill i x) may = same_made _ refl
  made_goes act.Start may =
      ap (λ (o : Option SlotId). v.made ++ alone o) (ap slot_of may.1 ∙ sym (ap filled may.1))
  made_goes (act.See s i) may = same_made _ refl
  made_goes act.Free may = same_made _ refl
  made_goes act.Ticket may = same_made _ refl
  made_goes (act.Wadd s) may = same_made _ refl
  made_goes (act.Wdrop s) may = same_made _ refl
  made_goes (act.Destroy s) may = same_made _ refl
  made_goes (act.Wcount s) may = same_made _ refl
  made_goes (act.Leave j) may = same_made _ refl

-- what holds of each view: the slot of its phase is the one that it is making, and its made list is its starts
pub record Tells (v : CoreView) : Type 0 where
  pub now : filled v.phase ≡ making None v.trail
  pub made : MadeByStarts v

-- a seat that makes an event still tells so
pub tells_on : (z : Shape) (a : Act) (w : ℕ) (v : CoreView) → May z a v → Tells v
    → Tells (moved z a w v)
tells_on z a w v may tells =
    let m : Move = record { act = a; outcome = answer z a w v } in
    let same = changed_trail z a w v in
    let longer : (moved z a w v).trail ≡ v.trail ++ m ∷ [] =
    ap (λ (ms : List Move). ms ++ m ∷ []) same.trail in
    record {
      now =
          phase_goes z w v a may ∙ (ap (making_after a (answer z a w v)) tells.now
          ∙ (sym (making_push None v.trail m) ∙ ap (making None) (sym longer)));
      made = λ s.
          let all = ap (times s) (made_goes z w v a may) in
          let split = times_append s v.made (starts a (filled v.phase)) in
          let had = tells.made s in
          let push = ap (times s) (ap (started None) longer ∙ started_push None v.trail m) in
          let parts = times_append s (started None v.trail) (starts a (making None v.trail)) in
          let slot = ap (λ (o : Option SlotId). times s (starts a o)) tells.now in
          let before = ap (started_before s) same.left_seats in omega arith;
    }

-- a seat takes over what another had that kept no records of its own
pub tells_taken : (root v : CoreView) (j : ℕ) → filled root.phase ≡ None → Tells root → Tells v
    → v.left_seats ≡ [] → Tells (noted (act.Leave j) outcome.Plain (taken_over root v))
tells_taken root v j idle tells other none =
    let m : Move = record { act = act.Leave j; outcome = outcome.Plain } in
    let l : LeftSeat = record { seat = v.seat; trail = v.trail; tickets = v.tickets } in
    record {
      now = tells.now ∙ sym (making_push None root.trail m);
      made = λ s.
          let split = times_append s root.made v.made in
          let had = tells.made s in
          let theirs = other.made s in
          let nobody = ap (started_before s) none in
          let push = ap (times s) (started_push None root.trail m ∙ append-nil (started None root.trail)) in
          let more = sum_by_push (λ (x : LeftSeat). times s (started None x.trail)) root.left_seats l in
          omega arith;
    }

pub tells_left : (v : CoreView) → filled v.phase ≡ None → v.left_seats ≡ [] → Tells (left_behind v)
tells_left v idle none = record {
  now = idle;
  made = λ s.
      let nobody = ap (started_before s) none in
      let z = times_none s in omega arith;
}
