-- The steps of a payment, and payments one after another.
use Rattle.std.proofs.Common.{◌≡◌, ◌≢◌, ℕ, ◌+◌, Bool, true, false, List, [], ◌∷◌, ◌++◌, length, length-append, append-nil, refl, ap, sym, ◌∙◌, subst, arith}
use Rattle.std.specs.Prelude.{Option, ◌==◌, cond, if◌then◌else◌, count_by, flat_map}
use Rattle.std.proofs.lemmas.List.Sums.{sum_by-append, sum_by-cons}
use Rattle.std.proofs.lemmas.Grind.{flat_map-append}
use Rattle.plain_state.specs.declared.slot.Kind.TheVariants.{Strong, Weak, Disposal}
use Rattle.plain_state.specs.declared.slot.SlotId.{SlotId}
use Rattle.plain_state.specs.Lists.{Entry}
use Rattle.core_promises.specs.core_events.declared.act.Act.TheVariants as act
use Rattle.core_promises.specs.core_events.declared.outcome.Outcome.{Outcome}
use Rattle.core_promises.specs.core_events.declared.outcome.Outcome.TheVariants as outcome
use Rattle.core_promises.specs.core_events.declared.view.CoreView.{CoreView}
use Rattle.core_promises.specs.core_events.declared.view.Move.{Move}
use Rattle.core_promises.specs.core_events.declared.view.Phase.TheVariants as phase
use Rattle.core_promises.specs.core_events.Steps.{IsIdle, ended, paid, paid_outcome}
use Rattle.core_promises.specs.core_events.Views.{about, slot_of}
use Rattle.plain_state.specs.counter_word.Words.{has_help}
use Rattle.acquire_retire.specs.declared.payment.Payment.{Payment}
use Rattle.acquire_retire.specs.Calls.{IsSameView, Steps, same_view}
use Rattle.acquire_retire.specs.Collecting.{Goes, Pays, PaysFor, ends, move, paid_by}
use Rattle.acquire_retire.specs.Domains.{DomainState}
use Rattle.acquire_retire.specs.Seats.{SeatState}
use Rattle.acquire_retire.proofs.Collects.{goes_append, goes_by, goes_nowhere, is_idle_after}

-- a payment takes the first entry, and the seat is idle after it where it wasn't the last reference
paid_lists : (w : ℕ) (es : List Entry) (v : CoreView) → es ≢ []
    → (length (paid w es v).owed + 1 ≡ length es) × ((paid w es v).retired ≡ v.retired)
paid_lists w [] v some = absurd (some refl)
paid_lists w ((Strong, s) ∷ es) v some = (omega arith, refl)
paid_lists w ((Weak, s) ∷ es) v some = (omega arith, refl)
paid_lists w ((Disposal, s) ∷ es) v some = (omega arith, refl)

paid_idle : (w : ℕ) (es : List Entry) (v : CoreView) → es ≢ [] → v.phase ≡ phase.Idle
    → paid_outcome w es ≢ outcome.Zeroed → paid_outcome w es ≢ outcome.Last
    → (paid_outcome w es ≡ outcome.Left) × ((paid w es v).phase ≡ phase.Idle)
paid_idle w [] v some idle zeroed last = absurd (some refl)
paid_idle w ((Disposal, s) ∷ es) v some idle zeroed last = (refl, idle)
paid_idle w ((Strong, s) ∷ es) v some idle zeroed last = by_word (w == 1) zeroed
  where
    by_word : (b : Bool) → (if b then outcome.Zeroed else outcome.Left) ≢ outcome.Zeroed
        → ((if b then outcome.Zeroed else outcome.Left) ≡ outcome.Left)
        × ((if b then phase.Finish s else phase.Idle) ≡ phase.Idle)
    by_word true not = absurd (not refl)
    by_word false not = (refl, refl)
paid_idle w ((Weak, s) ∷ es) v some idle zeroed last = by_word (w == 1) last
  where
    by_word : (b : Bool) → (if b then outcome.Last else outcome.Left) ≢ outcome.Last
        → ((if b then outcome.Last else outcome.Left) ≡ outcome.Left)
        × ((if b then phase.Give s else phase.Idle) ≡ phase.Idle)
    by_word true not = absurd (not refl)
    by_word false not = (refl, refl)

-- what an ending leaves as it is
ended_lists : (b : Bool) (s : Option SlotId) (v : CoreView) → (p : _)
    → ((ended b s p v).owed ≡ v.owed) × ((ended b s p v).retired ≡ v.retired)
ended_lists true s v p = (refl, refl)
ended_lists false s v p = (refl, refl)

finished_idle : (b h : Bool) (s : Option SlotId) (v : CoreView)
    → (if b then outcome.Ended else if h then outcome.Help else outcome.Lost) ≢ outcome.Help
    → (ended b s (if h then about phase.Help s else phase.Idle) v).phase ≡ phase.Idle
finished_idle true h s v not = refl
finished_idle false true s v not = absurd (not refl)
finished_idle false false s v not = refl

has_lost : (b h : Bool)
    → (if b then outcome.Ended else if h then outcome.Help else outcome.Lost) ≢ outcome.Ended
    → (if b then outcome.Ended else if h then outcome.Help else outcome.Lost) ≢ outcome.Help
    → (if b then outcome.Ended else if h then outcome.Help else outcome.Lost) ≡ outcome.Lost
has_lost true h ended help = absurd (ended refl)
has_lost false true ended help = absurd (help refl)
has_lost false false ended help = refl

taken_idle : (b : Bool) (s : Option SlotId) (v : CoreView)
    → (ended b s phase.Idle v).phase ≡ phase.Idle
taken_idle true s v = refl
taken_idle false s v = refl

had_no_help : (b : Bool)
    → (if b then outcome.Ended else outcome.NoHelp) ≢ outcome.Ended
    → (if b then outcome.Ended else outcome.NoHelp) ≡ outcome.NoHelp
had_no_help true not = absurd (not refl)
had_no_help false not = refl

ended_more : (ps : List Payment) (p : Payment) (n : ℕ) → n ≡ count_by ends ps
    → (if ends p then n + 1 else n) ≡ count_by ends (ps ++ p ∷ [])
ended_more ps p n is = by_end (ends p)
    (sum_by-append (λ x. cond (ends x) 1 0) ps (p ∷ [])
    ∙ ap (λ m. count_by ends ps + m) (sum_by-cons (λ x. cond (ends x) 1 0) p []))
  where
    by_end : (b : Bool) → count_by ends (ps ++ p ∷ []) ≡ count_by ends ps + (cond b 1 0 + 0)
        → (if b then n + 1 else n) ≡ count_by ends (ps ++ p ∷ [])
    by_end true more = omega arith
    by_end false more = omega arith

module _ {P V : Type 0} (fits : List ℕ → Type 0) (d : DomainState P) where
  -- the seat has made these moves, by which it gave up n of the entries that it owed
  pub record Part (ms : List Move) (n : ℕ) (old new : SeatState V) : Type 0 where
    pub goes : Goes fits d ms old new
    pub owed : length new.view.core.owed + n ≡ length old.view.core.owed
    pub retired : new.view.core.retired ≡ old.view.core.retired

module _ {P V : Type 0} {fits : List ℕ → Type 0} (d : DomainState P) where
  pub part_append : (xs ys : List Move) (n m : ℕ) (a b c : SeatState V) → Part fits d xs n a b
      → Part fits d ys m b c → Part fits d (xs ++ ys) (n + m) a c
  part_append xs ys n m a b c first more = record {
    goes = goes_append d xs ys a b c first.goes more.goes;
    owed = omega (arith, first.owed, more.owed);
    retired = more.retired ∙ first.retired;
  }

  pub pay_step : (old new : SeatState V) (o x : Outcome) → old.view.core.owed ≢ []
      → Steps fits d same_view IsSameView act.Pay old new o → o ≡ x
      → Part fits d (move act.Pay x ∷ []) 1 old new
  pay_step old new o x some step is =
      let v = old.view.core in
      let lists = paid_lists step.word v.owed v some in
      record {
        goes = goes_by d act.Pay x old new tt o is step;
        owed = ap (λ (v : CoreView). length v.owed + 1) step.told.core ∙ lists.0;
        retired = ap (λ (v : CoreView). v.retired) step.told.core ∙ lists.1;
      }

  pub finish_step : (old new : SeatState V) (o x : Outcome)
      → Steps fits d same_view IsSameView act.Finish old new o → o ≡ x
      → Part fits d (move act.Finish x ∷ []) 0 old new
  finish_step old new o x step is =
      let v = old.view.core in
      let lists = ended_lists (step.word == 0) (slot_of v.phase) v _ in
      record {
        goes = goes_by d act.Finish x old new tt o is step;
        owed =
            let same = ap (λ (v : CoreView). length v.owed) step.told.core ∙ ap length lists.0 in
            omega arith;
        retired = ap (λ (v : CoreView). v.retired) step.told.core ∙ lists.1;
      }

  pub take_step : (old new : SeatState V) (o x : Outcome)
      → Steps fits d same_view IsSameView act.Take old new o → o ≡ x
      → Part fits d (move act.Take x ∷ []) 0 old new
  take_step old new o x step is =
      let v = old.view.core in
      let lists = ended_lists (has_help step.word) (slot_of v.phase) v phase.Idle in
      record {
        goes = goes_by d act.Take x old new tt o is step;
        owed =
            let same = ap (λ (v : CoreView). length v.owed) step.told.core ∙ ap length lists.0 in
            omega arith;
        retired = ap (λ (v : CoreView). v.retired) step.told.core ∙ lists.1;
      }

  pub free_step : (old new : SeatState V) (o : Outcome)
      → Steps fits d same_view IsSameView act.Free old new o
      → Part fits d (move act.Free outcome.Plain ∷ []) 0 old new
  free_step old new o step = record {
    goes = goes_by d act.Free outcome.Plain old new tt o step.answers step;
    owed =
        let same = ap (λ (v : CoreView). length v.owed) step.told.core in
        omega arith;
    retired = ap (λ (v : CoreView). v.retired) step.told.core;
  }

  -- a payment is whole where the seat is in the middle of nothing again
  pub pays_one : (p : Payment) (old new : SeatState V) → Part fits d (paid_by p) 1 old new
      → IsIdle old.view.core → new.view.core.phase ≡ phase.Idle → Pays fits d (p ∷ []) old new
  pays_one p old new part idle is = record {
    goes = subst (λ (ms : List Move). Goes fits d ms old new) (sym (append-nil (paid_by p))) part.goes;
    idle = is_idle_after d (paid_by p) old new idle part.goes is;
    owed = part.owed;
    retired = part.retired;
  }

  -- the phase after the step that ends a payment
  pub idle_after_pay : (old new : SeatState V) (o : Outcome) → old.view.core.owed ≢ []
      → Steps fits d same_view IsSameView act.Pay old new o → o ≢ outcome.Zeroed → o ≢ outcome.Last
      → (o ≡ outcome.Left) × (new.view.core.phase ≡ phase.Idle)
  idle_after_pay old new o some step zeroed last =
      let v = old.view.core in
      let r = paid_idle step.word v.owed v some
      (ap (λ (v : CoreView). v.phase) step.told.happened.view ∙ step.told.happened.enabled.1.0.0) (λ e. zeroed (step.answers ∙ e))
      (λ e. last (step.answers ∙ e)) in
      (step.answers ∙ r.0, ap (λ (v : CoreView). v.phase) step.told.core ∙ r.1)

  pub idle_after_finish : (old new : SeatState V) (o : Outcome)
      → Steps fits d same_view IsSameView act.Finish old new o → o ≢ outcome.Help
      → new.view.core.phase ≡ phase.Idle
  idle_after_finish old new o step help =
      ap (λ (v : CoreView). v.phase) step.told.core
      ∙ finished_idle (step.word == 0) (has_help step.word) (slot_of old.view.core.phase)
      old.view.core (λ e. help (step.answers ∙ e))

  pub finish_lost : (old new : SeatState V) (o : Outcome)
      → Steps fits d same_view IsSameView act.Finish old new o → o ≢ outcome.Ended → o ≢ outcome.Help
      → o ≡ outcome.Lost
  finish_lost old new o step ended help =
      step.answers
      ∙ has_lost (step.word == 0) (has_help step.word) (λ e. ended (step.answers ∙ e))
      (λ e. help (step.answers ∙ e))

  pub idle_after_take : (old new : SeatState V) (o : Outcome)
      → Steps fits d same_view IsSameView act.Take old new o → new.view.core.phase ≡ phase.Idle
  idle_after_take old new o step =
      ap (λ (v : CoreView). v.phase) step.told.core
      ∙ taken_idle (has_help step.word) (slot_of old.view.core.phase) old.view.core

  pub take_no_help : (old new : SeatState V) (o : Outcome)
      → Steps fits d same_view IsSameView act.Take old new o → o ≢ outcome.Ended → o ≡ outcome.NoHelp
  take_no_help old new o step ended =
      step.answers ∙ had_no_help (has_help step.word) (λ e. ended (step.answers ∙ e))

  pub idle_after_free : (old new : SeatState V) (o : Outcome)
      → Steps fits d same_view IsSameView act.Free old new o → new.view.core.phase ≡ phase.Idle
  idle_after_free old new o step = ap (λ (v : CoreView). v.phase) step.told.core

  -- payments follow one another
  pub pays_none : (a : SeatState V) → IsIdle a.view.core → Pays fits d [] a a
  pays_none a idle = record {
    goes = goes_nowhere d a;
    idle = idle;
    owed = omega arith;
    retired = refl;
  }

  pub pays_append : (ps qs : List Payment) (a b c : SeatState V) → Pays fits d ps a b → Pays fits d qs b c
      → Pays fits d (ps ++ qs) a c
  pays_append ps qs a b c first more =
      let len = length-append ps qs in
      record {
        goes =
            subst (λ (ms : List Move). Goes fits d ms a c) (sym (flat_map-append paid_by ps qs))
            (goes_append d (flat_map paid_by ps) (flat_map paid_by qs) a b c first.goes more.goes);
        idle = more.idle;
        owed = omega (arith, first.owed, more.owed);
        retired = more.retired ∙ first.retired;
      }

  pub pays_for_more : (owed ended_before ended_now : ℕ) (p : Payment) (a b c : SeatState V)
      → PaysFor fits d a b owed ended_before → Pays fits d (p ∷ []) b c
      → ended_now ≡ (if ends p then ended_before + 1 else ended_before)
      → PaysFor fits d a c (owed + 1) ended_now
  pays_for_more owed ended_before ended_now p a b c before more is =
      let ps = before.0 in
      let len = length-append ps (p ∷ []) in (
        ps ++ p ∷ [],
        pays_append ps (p ∷ []) a b c before.1 more,
        omega (arith, before.2),
        is ∙ ended_more ps p ended_before before.3,
      )
