-- What a seat that is alone does when it settles, or where a scan is due, tidies the plain state that it knows.
use Rattle.std.proofs.Common.{◌≡◌, ⊎_elim, ℕ, ◌<◌, ◌≤◌, Bool, true, false, List, [], ◌∷◌, ◌++◌, length, refl, ap, sym, ◌∙◌, subst, arith, append_assoc}
use Rattle.std.specs.Prelude.{◌==◌, IsSome, Option, Some, None, flat_map, if◌then◌else◌}
use Rattle.std.proofs.lemmas.List.{length-append}
use Rattle.protected_loads.specs.plain_state.declared.act.EventPlace.{EventPlace}
use Rattle.protected_loads.specs.plain_state.declared.act.PlainAct.TheVariants as plain
use Rattle.protected_loads.specs.plain_state.declared.slot.Kind.{Kind}
use Rattle.protected_loads.specs.plain_state.declared.slot.SlotId.{SlotId}
use Rattle.protected_loads.specs.plain_state.Ejection.{ejected, kept}
use Rattle.protected_loads.specs.plain_state.Lists.{Entry, entry_times}
use Rattle.protected_loads.specs.plain_state.State.{Plain, seat_at}
use Rattle.protected_loads.specs.plain_state.Steps.{Does}
use Rattle.plain_settling.specs.Settling.{IsSurplus, TidiesTo}
use Rattle.plain_settling.proofs.Settling.{tidies_none, tidies_on, tidies_one}
use Rattle.protected_loads.specs.announce_slots.Seen.{announced_in}
use Rattle.protected_loads.specs.counter_word.Words.{has_help}
use Rattle.protected_loads.specs.core_events.declared.act.Act.{Act}
use Rattle.protected_loads.specs.core_events.declared.act.Act.TheVariants as act
use Rattle.protected_loads.specs.core_events.declared.outcome.Outcome.{Outcome}
use Rattle.protected_loads.specs.core_events.declared.view.CoreView.{CoreView}
use Rattle.protected_loads.specs.core_events.declared.view.Move.{Move}
use Rattle.protected_loads.specs.core_events.declared.view.Note.{Note}
use Rattle.protected_loads.specs.core_events.declared.view.Phase.TheVariants as phase
use Rattle.protected_loads.specs.core_events.Good.{SeatLaw}
use Rattle.protected_loads.specs.core_events.ShownSteps.{ejects, on_slot}
use Rattle.protected_loads.specs.core_events.Steps.{all_seen, is_last}
use Rattle.protected_loads.specs.core_events.Views.{slot_of, valid_of}
use Rattle.protected_loads.specs.acquire_retire.declared.payment.Payment.{Payment}
use Rattle.protected_loads.specs.acquire_retire.declared.payment.Payment.TheVariants as payment
use Rattle.protected_loads.specs.acquire_retire.Calls.{IsSameView, Steps, same_view}
use Rattle.protected_loads.specs.acquire_retire.Collecting.{Walks, paid_by, scanned_by}
use Rattle.protected_loads.specs.acquire_retire.Domains.{DomainState}
use Rattle.protected_loads.specs.acquire_retire.Seats.{SeatState}
use Rattle.slot_store.specs.retiring_stores.Scanning.{Collected, IsBelow, IsDue, ScansWhereDue}
use Rattle.slot_store.proofs.Objects.{known_still}
use Rattle.slot_store.proofs.OwnNotes.{AreOwn, own_scan}
use Rattle.slot_store.proofs.Ripening.{split_read, word_read}
use Rattle.slot_store.proofs.Tries.{append_nil}
use Rattle.lone_heap.specs.Lone.{known_plain}
use Rattle.lone_heap.specs.Trails.{Shows}
use Rattle.lone_heap.proofs.Owing.{IsPaying, OwesSurplus, first_there, own_least, owed_surplus, paying_owes, scan_owes}
use Rattle.lone_heap.proofs.Stepping.{law_before, seat_before, step_does}
use Rattle.lone_heap.proofs.Trailing.{same_goes, shows_then, step_goes}

module _ (p q : Plain) (m : ℕ) where
  scan_shown : (b : Bool) → Does p 0 (if b then plain.Split else plain.Still) m q → TidiesTo p q
  scan_shown true does = tidies_one p q plain.Split m tt does
  scan_shown false does = tidies_none p q does.1.1

  end_shown : (b : Bool) (s : Option SlotId)
      → Does p 0 (if b then on_slot plain.End s else plain.Still) m q → TidiesTo p q
  end_shown true (Some s) does = tidies_one p q (plain.End s) m tt does
  end_shown true None does = tidies_none p q does.1.1
  end_shown false s does = tidies_none p q does.1.1

  pub give_shown : (s : Option SlotId) → Does p 0 (on_slot plain.Give s) m q → TidiesTo p q
  give_shown (Some s) does = tidies_one p q (plain.Give s) m tt does
  give_shown None does = tidies_none p q does.1.1

  pay_shown : (es : List Entry)
      → ((k : Kind) (s : SlotId) → 0 < entry_times k s es → IsSurplus (seat_at p 0) k s)
      → Does p 0 (ejects es) m q → TidiesTo p q
  pay_shown [] surplus does = tidies_none p q does.1.1
  pay_shown (e ∷ es) surplus does =
      tidies_one p q (plain.Eject e.0 e.1) m (surplus e.0 e.1 (first_there e es)) does

  pub clear_shown : (b : Bool) (place : EventPlace) → b ≡ true
      → Does p 0 (if b then plain.Clear place else plain.Replace place None) m q → TidiesTo p q
  clear_shown true place is does = tidies_one p q (plain.Clear place) m tt does
  clear_shown false place is does = absurd (cc is)

-- the seat knows the whole state, and is seat 0
pub record Knows {V : Type 0} (s : SeatState V) : Type 0 where
  pub known : IsSome s.view.whole
  pub root : s.view.core.seat ≡ 0

module _ {P V : Type 0} (d : DomainState P) where
  -- it came from one state to the other by tidying
  pub record Reaches (old new : SeatState V) : Type 0 where
    pub tidies : TidiesTo (known_plain d old) (known_plain d new)
    pub knows : Knows new
    pub goes : Shows [] old.view.core new.view.core

  pub reaches_on : (a b c : SeatState V) → Reaches a b → Reaches b c → Reaches a c
  reaches_on a b c one two = record {
    tidies =
        tidies_on (known_plain d a) (known_plain d b) (known_plain d c) one.tidies two.tidies;
    knows = two.knows;
    goes = shows_then [] [] a.view.core b.view.core c.view.core one.goes two.goes;
  }

  pub reaches_same : (a b : SeatState V) → Knows a → b ≡ a → Reaches a b
  reaches_same a b knows same = record {
    tidies = tidies_none (known_plain d a) (known_plain d b) (ap (known_plain d) same);
    knows = subst Knows (sym same) knows;
    goes = same_goes a b same;
  }

-- these moves are those of payments
abbrev pub ArePaying : List Move → Type 0
ArePaying [] = Unit {0}
ArePaying (m ∷ ms) = IsPaying m.act × ArePaying ms

both_pay : (xs ys : List Move) → ArePaying xs → ArePaying ys → ArePaying (xs ++ ys)
both_pay [] ys first more = more
both_pay (x ∷ xs) ys first more = (first.0, both_pay xs ys first.1 more)

payment_pays : (p : Payment) → ArePaying (paid_by p)
payment_pays payment.Left = (tt, tt)
payment_pays payment.Ended = (tt, (tt, tt))
payment_pays payment.Lost = (tt, (tt, tt))
payment_pays payment.Helped = (tt, (tt, (tt, tt)))
payment_pays payment.NoHelp = (tt, (tt, (tt, tt)))
payment_pays payment.Freed = (tt, (tt, tt))

all_pay : (ps : List Payment) → ArePaying (flat_map paid_by ps)
all_pay [] = tt
all_pay (p ∷ ps) = both_pay (paid_by p) (flat_map paid_by ps) (payment_pays p) (all_pay ps)

module _ {P V : Type 0} (fits : List ℕ → Type 0) (d : DomainState P) where
  pub knows_step : (a : Act) (old new : SeatState V) (o : Outcome) → Knows old
      → Steps fits d same_view IsSameView a old new o → Knows new
  knows_step a old new o knows step =
      record { known = known_still step.told knows.known; root = step.told.law.number ∙ knows.root }

  -- a step of a payment, where what is owed is surplus
  pub pay_reaches : (a : Act) (old new : SeatState V) (o : Outcome) → IsPaying a → Knows old
      → OwesSurplus old.view.core → Steps fits d same_view IsSameView a old new o
      → Reaches d old new
  pay_reaches a old new o pays knows owes step =
      record {
        tidies = go a pays step;
        knows = knows_step a old new o knows step;
        goes = step_goes d old new a o step;
      }
    where
      go : (a : Act) → IsPaying a → Steps fits d same_view IsSameView a old new o
          → TidiesTo (known_plain d old) (known_plain d new)
      go act.Pay pays step =
          let does = step_does d act.Pay old new o step knows.root knows.known in
          let seat = seat_before d act.Pay old new o step knows.root knows.known in
          pay_shown (known_plain d old) (known_plain d new) _ old.view.core.owed
          (owed_surplus old.view.core (seat_at (known_plain d old) 0) seat owes) does
      go act.Finish pays step =
          end_shown (known_plain d old) (known_plain d new) _ (step.word == 0)
          (slot_of old.view.core.phase)
          (step_does d act.Finish old new o step knows.root knows.known)
      go act.Take pays step =
          end_shown (known_plain d old) (known_plain d new) _ (has_help step.word)
          (slot_of old.view.core.phase)
          (step_does d act.Take old new o step knows.root knows.known)
      go act.Free pays step =
          give_shown (known_plain d old) (known_plain d new) _ (slot_of old.view.core.phase)
          (step_does d act.Free old new o step knows.root knows.known)
      go act.Scan pays step = absurd pays
      go act.Start pays step = absurd pays
      go act.Arm pays step = absurd pays
      go act.Mark pays step = absurd pays
      go act.Ticket pays step = absurd pays
      go (act.Add s) pays step = absurd pays
      go (act.Drop s) pays step = absurd pays
      go (act.Count s) pays step = absurd pays
      go (act.Announce j k s) pays step = absurd pays
      go (act.Release j) pays step = absurd pays
      go (act.Look x) pays step = absurd pays
      go (act.Check j x) pays step = absurd pays
      go (act.Alive j) pays step = absurd pays
      go (act.Swap x new) pays step = absurd pays
      go (act.Cas x old new) pays step = absurd pays
      go (act.Claim s) pays step = absurd pays
      go (act.Fill i x) pays step = absurd pays
      go (act.See s i) pays step = absurd pays
      go (act.Wadd s) pays step = absurd pays
      go (act.Wdrop s) pays step = absurd pays
      go (act.Destroy s) pays step = absurd pays
      go (act.Wcount s) pays step = absurd pays
      go (act.Leave j) pays step = absurd pays

  pub pays_reach : (ms : List Move) (old new : SeatState V) → ArePaying ms → Knows old
      → OwesSurplus old.view.core → Walks fits d ms old new → Reaches d old new
  pays_reach [] old new are knows owes walks = reaches_same d old new knows walks
  pays_reach (m ∷ ms) old new are knows owes walks =
      let mid = walks.0 in
      let step = walks.1 in
      let one = pay_reaches m.act old mid m.outcome are.0 knows owes step in
      let still = paying_owes m.act d.shape step.word old.view.core mid.view.core are.0
      step.told.core owes in
      reaches_on d old mid new one (pays_reach ms mid new are.1 one.knows still walks.2)

  scan_reaches : (old new : SeatState V) (o : Outcome) → Knows old
      → Steps fits d same_view IsSameView act.Scan old new o → Reaches d old new
  scan_reaches old new o knows step = record {
    tidies =
        scan_shown (known_plain d old) (known_plain d new) _ (is_last d.shape old.view.core)
        (step_does d act.Scan old new o step knows.root knows.known);
    knows = knows_step act.Scan old new o knows step;
    goes = step_goes d old new act.Scan o step;
  }

  scans_reach : (ws acc : List ℕ) (last stay go : ℕ) (ms : List Move) (old new : SeatState V)
      → ArePaying ms → Knows old → old.view.core.seen ≡ acc
      → ((k : Kind) (s : SlotId)
      → entry_times k s (valid_of old.view.core.notes)
      ≤ announced_in ((acc ++ ws) ++ last ∷ []) k s)
      → Walks fits d (scanned_by ws last stay go ++ ms) old new → Reaches d old new
  scans_reach [] acc last stay go ms old new are knows begins most walks =
      let mid = walks.0 in
      let step = walks.1 in
      let v = old.view.core in
      let is = split_read (is_last d.shape v) last stay go step.word _ _ step.answers in
      let stays : mid.view.core.retired ≡ kept v.retired (all_seen step.word v) =
      ap (λ (u : CoreView). u.retired) step.told.core ∙ rw is.0 refl in
      let goes : mid.view.core.owed ≡ ejected v.retired (all_seen step.word v) =
      ap (λ (u : CoreView). u.owed) step.told.core ∙ rw is.0 refl in
      let notes : mid.view.core.notes ≡ v.notes =
      ap (λ (u : CoreView). u.notes) step.told.core ∙ rw is.0 refl in
      let words : v.seen ++ step.word ∷ [] ≡ (acc ++ []) ++ last ∷ [] =
      (λ i. begins i ++ sym is.1 i ∷ []) ∙ ap (λ (xs : List ℕ). xs ++ last ∷ []) (sym (append_nil acc)) in
      let owes = scan_owes v.retired mid.view.core (all_seen step.word v) v.notes
      (λ k s. subst (λ (xs : List ℕ). entry_times k s (valid_of v.notes) ≤ announced_in xs k s)
      (sym words) (most k s))
      goes stays notes in
      let one = scan_reaches old mid _ knows step in
      reaches_on d old mid new one (pays_reach ms mid new are one.knows owes walks.2)
  scans_reach (w ∷ ws) acc last stay go ms old new are knows begins most walks =
      let mid = walks.0 in
      let step = walks.1 in
      let v = old.view.core in
      let is = word_read (is_last d.shape v) w step.word _ step.answers (λ e. absurd (cc (e))) in
      let seen : mid.view.core.seen ≡ acc ++ w ∷ [] =
      ap (λ (u : CoreView). u.seen) step.told.core ∙ rw is.0 (λ i. begins i ++ sym is.1 i ∷ []) in
      let notes : mid.view.core.notes ≡ v.notes =
      ap (λ (u : CoreView). u.notes) step.told.core ∙ rw is.0 refl in
      let one = scan_reaches old mid _ knows step in
      reaches_on d old mid new one
      (scans_reach ws (acc ++ w ∷ []) last stay go ms mid new are one.knows seen
      (λ k s.
      subst (λ (x : List Note × List ℕ). entry_times k s (valid_of x.0)
      ≤ announced_in (x.1 ++ last ∷ []) k s)
      (λ i. (sym notes i, sym (append_assoc acc (w ∷ []) ws) i)) (most k s)) walks.2)

  -- an idle seat is in no scan, as the first step of a collect tells
  scan_law : (ws : List ℕ) (last stay go : ℕ) (ms : List Move) (a b : SeatState V)
      → Walks fits d (scanned_by ws last stay go ++ ms) a b
      → (1 ≤ d.shape.seats) × SeatLaw d.shape a.view.core.seat a.view.core
  scan_law [] last stay go ms a b walks =
      (walks.1.told.happened.shape.0, law_before d act.Scan a walks.0 _ walks.1)
  scan_law (w ∷ ws) last stay go ms a b walks =
      (walks.1.told.happened.shape.0, law_before d act.Scan a walks.0 _ walks.1)

  pub collect_reaches : (old new : SeatState V) → Knows old → old.view.core.phase ≡ phase.Idle
      → Collected fits d old new → Reaches d old new
  collect_reaches old new knows idle collected =
      let c = collected.collects in
      let v = old.view.core in
      let walks = c.goes.walks in
      let law = scan_law c.seen c.last _ _ (flat_map paid_by c.payments) old new walks in
      let none : v.seen ≡ [] = ⊎_elim
      (λ (none : v.seen ≡ []). none)
      (λ (scans : v.phase ≡ phase.Scan). absurd (cc (sym scans ∙ idle)))
      law.1.scans in
      let words : List ℕ = c.seen ++ c.last ∷ [] in
      let own : AreOwn v (length v.seen) words =
      own_scan fits d c.seen c.last _ _ (flat_map paid_by c.payments) old new knows.known walks in
      let many : length v.notes ≤ length words =
      (let four = law.1.four in
      let one = law.0 in
      let all = c.all in
      let more = length-append c.seen (c.last ∷ []) in omega arith) in
      scans_reach c.seen [] c.last _ _ (flat_map paid_by c.payments) old new (all_pay c.payments)
      knows none
      (own_least v words many (subst (λ (ss : List ℕ). AreOwn v (length ss) words) none own)) walks

  pub due_reaches : (old new : SeatState V) → Knows old → old.view.core.phase ≡ phase.Idle
      → ScansWhereDue fits d old new → Reaches d old new
  due_reaches old new knows idle scans = ⊎_elim
      (λ (due : IsDue d old × Collected fits d old new). collect_reaches old new knows idle due.1)
      (λ (none : IsBelow d old × (new ≡ old)). reaches_same d old new knows none.1)
      scans
