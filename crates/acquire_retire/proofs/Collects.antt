-- The steps of a collect: what each leaves, and how moves follow one another.
use Rattle.std.proofs.Common.{◌≡◌, ℕ, Bool, true, false, List, [], ◌∷◌, ◌++◌, refl, ap, sym, ◌∙◌, subst, append_assoc, append-nil}
use Rattle.std.specs.Prelude.{Option, Some, None, ◌==◌, if◌then◌else◌}
use Rattle.plain_state.specs.declared.act.EventPlace.{EventPlace}
use Rattle.plain_state.specs.declared.slot.Kind.TheVariants.{Strong, Weak, Disposal}
use Rattle.plain_state.specs.declared.slot.SlotId.{SlotId}
use Rattle.plain_state.specs.Lists.{Entry}
use Rattle.core_promises.specs.core_events.declared.act.Act.{Act}
use Rattle.core_promises.specs.core_events.declared.act.Act.TheVariants as act
use Rattle.core_promises.specs.core_events.declared.outcome.Outcome.{Outcome}
use Rattle.core_promises.specs.core_events.declared.shape.Shape.{Shape}
use Rattle.core_promises.specs.core_events.declared.view.CoreView.{CoreView}
use Rattle.core_promises.specs.core_events.declared.view.Move.{Move}
use Rattle.core_promises.specs.core_events.declared.view.Phase.{Phase}
use Rattle.core_promises.specs.core_events.declared.view.Phase.TheVariants as phase
use Rattle.core_promises.specs.core_events.Steps.{IsIdle, answer, changed, ended, is_last, paid}
use Rattle.core_promises.specs.core_events.Views.{slot_of}
use Rattle.plain_state.specs.counter_word.Words.{has_help}
use Rattle.core_promises.proofs.Below.core_law_Trails.{changed_trail}
use Rattle.domain_rule.specs.Told.{cleared_after}
use Rattle.acquire_retire.specs.Calls.{IsOf, IsSameView, Steps, same_view}
use Rattle.acquire_retire.specs.Collecting.{Goes, Walks, move, rest_of}
use Rattle.acquire_retire.specs.Domains.{DomainState}
use Rattle.acquire_retire.specs.Seats.{SeatState}

-- the acts of a collect
abbrev pub IsGathering : Act → Type 0
IsGathering act.Scan = Unit {0}
IsGathering act.Pay = Unit {0}
IsGathering act.Finish = Unit {0}
IsGathering act.Take = Unit {0}
IsGathering act.Free = Unit {0}
IsGathering a = ⊥

same_either : {A B : Type 0} (f : A → B) (b : Bool) (x y : A) (r : B) → f x ≡ r → f y ≡ r
    → f (if b then x else y) ≡ r
same_either f true x y r left right = left
same_either f false x y r left right = right

paid_rest : (w : ℕ) (es : List Entry) (v : CoreView) → rest_of (paid w es v) ≡ rest_of v
paid_rest w [] v = refl
paid_rest w ((Strong, s) ∷ es) v = refl
paid_rest w ((Weak, s) ∷ es) v = refl
paid_rest w ((Disposal, s) ∷ es) v = refl

ended_rest : (b : Bool) (s : Option SlotId) (p : Phase) (v : CoreView)
    → rest_of (ended b s p v) ≡ rest_of v
ended_rest true s p v = refl
ended_rest false s p v = refl

changed_rest : (z : Shape) (a : Act) (w : ℕ) (v : CoreView) → IsGathering a
    → rest_of (changed z a w v) ≡ rest_of v
changed_rest z act.Scan w v is = same_either rest_of (is_last z v) _ _ (rest_of v) refl refl
changed_rest z act.Pay w v is = paid_rest w v.owed v
changed_rest z act.Finish w v is = ended_rest (w == 0) (slot_of v.phase) _ v
changed_rest z act.Take w v is = ended_rest (has_help w) (slot_of v.phase) phase.Idle v
changed_rest z act.Free w v is = refl
changed_rest z (act.Add s) w v is = absurd is
changed_rest z (act.Drop s) w v is = absurd is
changed_rest z (act.Count s) w v is = absurd is
changed_rest z act.Mark w v is = absurd is
changed_rest z (act.Announce j k s) w v is = absurd is
changed_rest z (act.Release j) w v is = absurd is
changed_rest z (act.Look p) w v is = absurd is
changed_rest z (act.Check j p) w v is = absurd is
changed_rest z (act.Alive j) w v is = absurd is
changed_rest z (act.Swap p new) w v is = absurd is
changed_rest z (act.Cas p old new) w v is = absurd is
changed_rest z (act.Claim s) w v is = absurd is
changed_rest z act.Arm w v is = absurd is
changed_rest z (act.Fill i x) w v is = absurd is
changed_rest z act.Start w v is = absurd is
changed_rest z (act.See s i) w v is = absurd is
changed_rest z act.Ticket w v is = absurd is
changed_rest z (act.Wadd s) w v is = absurd is
changed_rest z (act.Wdrop s) w v is = absurd is
changed_rest z (act.Destroy s) w v is = absurd is
changed_rest z (act.Wcount s) w v is = absurd is
changed_rest z (act.Leave j) w v is = absurd is

-- none of them leaves a field null
cleared_stays : (a : Act) (v : CoreView) (ps : List EventPlace) → IsGathering a
    → cleared_after a v ps ≡ ps
cleared_stays act.Scan v ps is = refl
cleared_stays act.Pay v ps is = refl
cleared_stays act.Finish v ps is = refl
cleared_stays act.Take v ps is = refl
cleared_stays act.Free v ps is = refl
cleared_stays (act.Swap p None) v ps is = absurd is
cleared_stays (act.Swap p (Some s)) v ps is = absurd is
cleared_stays (act.Destroy s) v ps is = absurd is
cleared_stays a v ps is = refl

module _ {P V : Type 0} (fits : List ℕ → Type 0) (d : DomainState P) where
  walks_append : (xs ys : List Move) (a b c : SeatState V) → Walks fits d xs a b → Walks fits d ys b c
      → Walks fits d (xs ++ ys) a c
  walks_append [] ys a b c first more = subst (λ (x : SeatState V). Walks fits d ys x c) first more
  walks_append (x ∷ xs) ys a b c first more =
      (first.0, first.1, walks_append xs ys first.0 b c first.2 more)

  walks_table : (ms : List Move) (a b : SeatState V) → Walks fits d ms a b → b.table ≡ a.table
  walks_table [] a b walks = ap (λ (x : SeatState V). x.table) walks
  walks_table (m ∷ ms) a b walks = walks_table ms walks.0 b walks.2 ∙ walks.1.table

module _ {P V : Type 0} {fits : List ℕ → Type 0} (d : DomainState P) where
  pub goes_append : (xs ys : List Move) (a b c : SeatState V) → Goes fits d xs a b → Goes fits d ys b c
      → Goes fits d (xs ++ ys) a c
  goes_append xs ys a b c first more = record {
    walks = walks_append fits d xs ys a b c first.walks more.walks;
    rest = more.rest ∙ first.rest;
    client = more.client ∙ first.client;
    beside = record {
      cleared = more.beside.cleared ∙ first.beside.cleared;
      opened = more.beside.opened ∙ first.beside.opened;
      left_adds = more.beside.left_adds ∙ first.beside.left_adds;
      left_makes = more.beside.left_makes ∙ first.beside.left_makes;
    };
    trail = more.trail
        ∙ (ap (λ (ms : List Move). ms ++ ys) first.trail ∙ append_assoc a.view.core.trail xs ys);
  }

  pub goes_nowhere : (a : SeatState V) → Goes fits d [] a a
  goes_nowhere a = record {
    walks = refl;
    rest = refl;
    client = refl;
    beside = record { cleared = refl; opened = refl; left_adds = refl; left_makes = refl };
    trail = sym (append-nil a.view.core.trail);
  }

  -- a step of a collect, with its outcome by another name
  pub goes_by : (a : Act) (o : Outcome) (old new : SeatState V) → IsGathering a → (x : Outcome)
      → x ≡ o → Steps fits d same_view IsSameView a old new x → Goes fits d (move a o ∷ []) old new
  goes_by a o old new is x same step = record {
    walks = (new, subst (λ (x : Outcome). Steps fits d same_view IsSameView a old new x) same step, refl);
    rest = ap rest_of step.told.core ∙ changed_rest d.shape a step.word old.view.core is;
    client = step.told.client;
    beside = record {
      cleared = step.told.cleared ∙ cleared_stays a old.view.core old.view.cleared is;
      opened = step.told.opened;
      left_adds = step.told.left_adds;
      left_makes = step.told.left_makes;
    };
    trail = ap (λ (u : CoreView). u.trail) step.told.core
        ∙ (ap (λ (ms : List Move). ms
        ++ record { act = a; outcome = answer d.shape a step.word old.view.core } ∷ [])
        (changed_trail d.shape a step.word old.view.core).trail
        ∙ ap (λ (o : Outcome). old.view.core.trail ++ move a o ∷ [])
        (sym step.answers ∙ same));
  }

  -- a seat stays a seat of the domain
  pub is_of_after : (ms : List Move) (old new : SeatState V) → IsOf d old → Goes fits d ms old new
      → IsOf d new
  is_of_after ms old new of goes = (
    walks_table fits d ms old new goes.walks ∙ of.0,
    ap (λ (v : CoreView). v.shape) goes.rest ∙ of.1,
  )

  -- one that is in the middle of nothing again is idle
  pub is_idle_after : (ms : List Move) (old new : SeatState V) → IsIdle old.view.core
      → Goes fits d ms old new → new.view.core.phase ≡ phase.Idle → IsIdle new.view.core
  is_idle_after ms old new idle goes is =
      (is, ap (λ (v : CoreView). v.left) goes.rest ∙ idle.1)
