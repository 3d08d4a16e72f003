-- What a seat has after an act is told by what the act answers: two words with one answer leave it
-- the same.
use Rattle.std.proofs.Common.{◌≡◌, ◌≢◌, ℕ, ◌+◌, Bool, true, false, List, [], ◌∷◌, ◌++◌, refl, ap, sym, arith}
use Rattle.std.specs.Prelude.{◌==◌, nat_lt, if◌then◌else◌, Option}
use Rattle.std.proofs.lemmas.Bool.Decides.{nat_tests}
use Rattle.plain_state.specs.declared.slot.Kind.{Kind}
use Rattle.plain_state.specs.declared.slot.Kind.TheVariants.{Strong, Weak, Disposal}
use Rattle.plain_state.specs.declared.slot.SlotId.{SlotId}
use Rattle.plain_state.specs.Lists.{Entry}
use Rattle.plain_state.specs.Places.{place_kind}
use Rattle.plain_state.specs.Steps.{joined, word_of}
use Rattle.core_promises.specs.core_events.declared.act.Act.{Act}
use Rattle.core_promises.specs.core_events.declared.act.Act.TheVariants as act
use Rattle.core_promises.specs.core_events.declared.outcome.Outcome.{Outcome}
use Rattle.core_promises.specs.core_events.declared.outcome.Outcome.TheVariants as outcome
use Rattle.core_promises.specs.core_events.declared.shape.Shape.{Shape}
use Rattle.core_promises.specs.core_events.declared.view.CoreView.{CoreView}
use Rattle.core_promises.specs.core_events.declared.view.Phase.TheVariants as phase
use Rattle.core_promises.specs.core_events.Steps.{answer, changed, decremented, ended, exchanged, given_up, is_last, is_valid, moved, noted, paid, paid_outcome, scanned, validated, with_note, without_given}
use Rattle.core_promises.specs.core_events.Views.{about, note_of, slot_of, without}
use Rattle.core_promises.specs.core_events.Words.{bit_in, slot_in}
use Rattle.plain_state.specs.counter_word.Words.{ZERO, has_help, value}

-- two tests with one answer, where the answers of a test differ
one_test : (b c : Bool) (x x' y y' : Outcome) → x ≢ y' → x' ≢ y
    → (if b then x else y) ≡ (if c then x' else y') → b ≡ c
one_test true true x x' y y' ne ne' same = refl
one_test true false x x' y y' ne ne' same = absurd (ne same)
one_test false true x x' y y' ne ne' same = absurd (ne' (sym same))
one_test false false x x' y y' ne ne' same = refl

given_same : (k : Kind) (s : SlotId) (w x : ℕ) (v : CoreView)
    → decremented k w ≡ decremented k x → given_up k s w v ≡ given_up k s x v
given_same Strong s w x v same =
    ap (λ (b : Bool). record v { phase = if b then phase.Finish s else phase.Idle })
    (one_test (w == 1) (x == 1) outcome.Zeroed outcome.Zeroed outcome.Left outcome.Left
    (λ e. cc (e)) (λ e. cc (e)) same)
given_same Weak s w x v same =
    ap (λ (b : Bool). record v { phase = if b then phase.Give s else phase.Idle })
    (one_test (w == 1) (x == 1) outcome.Last outcome.Last outcome.Left outcome.Left
    (λ e. cc (e)) (λ e. cc (e)) same)
given_same Disposal s w x v same = refl

paid_same : (es : List Entry) (w x : ℕ) (v : CoreView)
    → paid_outcome w es ≡ paid_outcome x es → paid w es v ≡ paid x es v
paid_same [] w x v same = refl
paid_same (e ∷ es) w x v same = given_same e.0 e.1 w x (record v { owed = es }) same

-- a finish: whether it ended the object, and else whether the help flag stood
finish_same : (b c h g : Bool) (s : Option SlotId) (v : CoreView)
    → (if b then outcome.Ended else if h then outcome.Help else outcome.Lost)
    ≡ (if c then outcome.Ended else if g then outcome.Help else outcome.Lost)
    → ended b s (if h then about phase.Help s else phase.Idle) v
    ≡ ended c s (if g then about phase.Help s else phase.Idle) v
finish_same true true h g s v same = refl
finish_same true false h true s v same = absurd (cc (same))
finish_same true false h false s v same = absurd (cc (same))
finish_same false true true g s v same = absurd (cc (same))
finish_same false true false g s v same = absurd (cc (same))
finish_same false false true true s v same = refl
finish_same false false true false s v same = absurd (cc (same))
finish_same false false false true s v same = absurd (cc (same))
finish_same false false false false s v same = refl

scan_same : (z : Shape) (b : Bool) (w x : ℕ) (v : CoreView) → is_last z v ≡ b
    → answer z act.Scan w v ≡ answer z act.Scan x v → w ≡ x
scan_same z true w x v is same = cc (rw is at same)
scan_same z false w x v is same = cc (rw is at same)

found_same : (k : Kind) (new a b : Option SlotId) (v : CoreView)
    → outcome.Found a ≡ outcome.Found b
    → ◌≡◌ {A = CoreView} (record (without_given k new v) { retired = joined k a v.retired })
    (record (without_given k new v) { retired = joined k b v.retired })
found_same k new a b v same =
    let is : a ≡ b = cc (same) in
    ap (λ (o : Option SlotId). record (without_given k new v) { retired = joined k o v.retired }) is

cas_same : (k : Kind) (new : Option SlotId) (old w x : ℕ) (v : CoreView) (b c : Bool)
    → (w == old) ≡ b → (x == old) ≡ c
    → (if b then outcome.Done else outcome.LostTo (slot_in w))
    ≡ (if c then outcome.Done else outcome.LostTo (slot_in x))
    → (if b then exchanged k new w v else v) ≡ (if c then exchanged k new x v else v)
cas_same k new old w x v true true is is' same =
    let there : w ≡ x = grind (arith, nat_tests) in
    ap (λ (n : ℕ). exchanged k new n v) there
cas_same k new old w x v true false is is' same = absurd (cc (same))
cas_same k new old w x v false true is is' same = absurd (cc (same))
cas_same k new old w x v false false is is' same = refl

changed_same : (z : Shape) (a : Act) (w x : ℕ) (v : CoreView) → answer z a w v ≡ answer z a x v
    → changed z a w v ≡ changed z a x v
changed_same z (act.Add s) w x v same =
    ap (λ (b : Bool). if b then record v { owned = v.owned ++ s ∷ []; adds = v.adds + 1 }
    else record v { adds = v.adds + 1 })
    (one_test (nat_lt w ZERO) (nat_lt x ZERO) outcome.Up outcome.Up outcome.Dead outcome.Dead
    (λ e. cc (e)) (λ e. cc (e)) same)
changed_same z (act.Drop s) w x v same =
    given_same Strong s w x (record v { owned = without s v.owned }) same
changed_same z act.Pay w x v same = paid_same v.owed w x v same
changed_same z act.Finish w x v same =
    finish_same (w == 0) (x == 0) (has_help w) (has_help x) (slot_of v.phase) v same
changed_same z act.Take w x v same =
    ap (λ (b : Bool). ended b (slot_of v.phase) phase.Idle v)
    (one_test (has_help w) (has_help x) outcome.Ended outcome.Ended outcome.NoHelp outcome.NoHelp
    (λ e. cc (e)) (λ e. cc (e)) same)
changed_same z (act.Count s) w x v same =
    ap (λ (b : Bool). if b then record v { phase = phase.Zero s } else v)
    (one_test (w == 0) (x == 0) outcome.Again outcome.Again _ _ (λ e. cc (e)) (λ e. cc (e)) same)
changed_same z act.Mark w x v same = refl
changed_same z (act.Announce j k s) w x v same = refl
changed_same z (act.Release j) w x v same = refl
changed_same z (act.Look p) w x v same = refl
changed_same z (act.Check j p) w x v same =
    ap (λ (b : Bool). if b then with_note j (validated (note_of v j)) v else v)
    (one_test (is_valid w (note_of v j)) (is_valid x (note_of v j)) outcome.Valid outcome.Valid _ _
    (λ e. cc (e)) (λ e. cc (e)) same)
changed_same z (act.Alive j) w x v same =
    ap (λ (b : Bool). if b then with_note j (validated (note_of v j)) v else v)
    (one_test (nat_lt 0 (value w)) (nat_lt 0 (value x)) outcome.Alive outcome.Alive outcome.Zeroed
    outcome.Zeroed (λ e. cc (e)) (λ e. cc (e)) same)
changed_same z act.Scan w x v same =
    ap (λ (n : ℕ). scanned z n v) (scan_same z (is_last z v) w x v refl same)
changed_same z (act.Swap p new) w x v same =
    found_same (place_kind p) new (slot_in w) (slot_in x) v same
changed_same z (act.Cas p old new) w x v same =
    cas_same (place_kind p) new (word_of old) w x v (w == word_of old) (x == word_of old) refl refl
    same
changed_same z (act.Claim s) w x v same =
    ap (λ (b : Bool). if b then record v { makes = v.makes + 1; phase = phase.Bare s } else v)
    (one_test (bit_in s w == 1) (bit_in s x == 1) outcome.Claimed outcome.Claimed _ _
    (λ e. cc (e)) (λ e. cc (e)) same)
changed_same z act.Arm w x v same = refl
changed_same z (act.Fill i y) w x v same = refl
changed_same z act.Start w x v same = refl
changed_same z (act.See s i) w x v same = refl
changed_same z act.Free w x v same = refl
changed_same z act.Ticket w x v same =
    let is : w ≡ x = cc (same) in
    ap (λ (n : ℕ). record v { adds = v.adds + 1; tickets = v.tickets ++ n ∷ [] }) is
changed_same z (act.Wadd s) w x v same = refl
changed_same z (act.Wdrop s) w x v same =
    given_same Weak s w x (record v { weaks = without s v.weaks }) same
changed_same z (act.Destroy s) w x v same =
    given_same Weak s w x (record v { dying = without s v.dying; ripe = without s v.ripe })
    same
changed_same z (act.Wcount s) w x v same = refl
changed_same z (act.Leave j) w x v same = refl

pub moved_same : (z : Shape) (a : Act) (w x : ℕ) (v : CoreView) → answer z a w v ≡ answer z a x v
    → moved z a w v ≡ moved z a x v
moved_same z a w x v same = λ i. noted a (same i) (changed_same z a w x v same i)
