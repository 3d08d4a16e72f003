-- What an audit and two looks tell of the whole state, once the seat has settled.
use Rattle.std.proofs.Common.{◌≡◌, ℕ, zero, suc, List, [], ap, sym, ◌∙◌, subst, arith}
use Rattle.std.specs.Prelude.{None, Some, slice_index}
use Rattle.std.proofs.lemmas.List.{get_or_past}
use Rattle.law_lesson.specs.plain_state.declared.act.EventPlace.TheVariants.{Cell}
use Rattle.law_lesson.specs.plain_state.declared.slot.SlotId.{SlotId}
use Rattle.law_lesson.specs.plain_state.Lists.{times}
use Rattle.law_lesson.specs.plain_state.Lawful.{Lawful}
use Rattle.law_lesson.specs.plain_state.Places.{content}
use Rattle.law_lesson.specs.plain_state.State.{Plain}
use Rattle.domain_audit.specs.core_events.declared.view.CoreView.{CoreView}
use Rattle.domain_audit.specs.core_events.Shows.{shows}
use Rattle.domain_audit.specs.core_events.Views.{snapshots}
use Rattle.domain_audit.specs.core_events.Words.{cell_at, slot_in}
use Rattle.domain_audit.proofs.Below.core_law_Each.{length_each}
use Rattle.domain_audit.specs.acquire_retire.Collecting.{rest_of}
use Rattle.domain_audit.specs.acquire_retire.Domains.{DomainState}
use Rattle.domain_audit.specs.acquire_retire.Seats.{SeatState}
use Rattle.domain_audit.specs.acquire_retire.Wholes.{known_core}
use Rattle.domain_audit.specs.control_word.Moves.{KnowsStill}
use Rattle.domain_audit.specs.control_word.Resting.{IsAtRest}
use Rattle.domain_audit.specs.Audits.{IsWholeAudit, Stays}
use Rattle.domain_audit.proofs.Learning.{knows_shown}
use Rattle.domain_audit.specs.domain_rule.Views.{own_of}
use Rattle.words_rest.specs.heap_audit.declared.finding.Audit.{Audit}
use Rattle.words_rest.specs.plain_audit.Audits.{IsAudit}
use Rattle.domain_audit.proofs.Below.protected_loads_Telling.{holds_has}
use Rattle.domain_audit.specs.slot_store.Reaping.{KnowsBoth}
use Rattle.words_rest.specs.words_law.Views.{View}
use Rattle.lane_domain.specs.words_protocol.declared.law.WordsLaw.{WordsLaw}
use Rattle.lane_reports.specs.Audits.{IsAudited, KnowsOwned}
use Rattle.lane_reports.specs.Learning.{HoldsNothing, LearnsLaw}
use Rattle.lane_reports.specs.Reporting.{HasNothingDeferred}
use Rattle.lane_reports.proofs.AtRest.{alone_in, others_own, own_in, rests}

module _ (fits : List ℕ → Type 0) (weight : List ℕ → ℕ) (ranks : List ℕ)
    (d : DomainState WordsLaw) (old a b c : SeatState View) (found : Audit)
    (cells : d.shape.cells ≡ 2) (stays : Stays fits d old a)
    (whole : (own_of a.view).whole ≡ (own_of old.view).whole)
    (still : KnowsStill old.view.core old a) (same_client : a.view.client ≡ old.view.client)
    (first : LearnsLaw fits d a b) (second : LearnsLaw fits d b c) where
  pub rest_same : rest_of c.view.core ≡ rest_of old.view.core
  rest_same =
      ap rest_of second.core ∙ ap rest_of first.core ∙ ap rest_of stays.1.core

  pub client_same : c.view.client ≡ old.view.client
  client_same = second.client ∙ first.client ∙ same_client

  owned_a : (s : SlotId) → times s a.view.core.owned ≡ times s old.view.core.owned
  owned_a s = ap (λ (v : CoreView). times s v.owned) stays.1.core

  owned_b : (s : SlotId) → times s b.view.core.owned ≡ times s old.view.core.owned
  owned_b s = ap (λ (v : CoreView). times s v.owned) first.core ∙ owned_a s

  owned_c : (s : SlotId) → times s c.view.core.owned ≡ times s old.view.core.owned
  owned_c s = ap (λ (v : CoreView). times s v.owned) second.core ∙ owned_b s

  pub objects_same : KnowsOwned old c
  objects_same s some =
      let x = owned_a s in let y = owned_b s in
      second.objects s (holds_has b.view.core s (omega (arith, some, y)))
      ∙ first.objects s (holds_has a.view.core s (omega (arith, some, x)))
      ∙ still s (holds_has old.view.core s (omega (arith, some)))

  pub settled_still : HasNothingDeferred old.view.core → HasNothingDeferred c.view.core
  settled_still none = record {
    retired = ap (λ (v : CoreView). v.retired) second.core
        ∙ ap (λ (v : CoreView). v.retired) first.core
        ∙ ap (λ (v : CoreView). v.retired) stays.1.core ∙ none.retired;
    dying = ap (λ (v : CoreView). v.dying) second.core
        ∙ ap (λ (v : CoreView). v.dying) first.core
        ∙ ap (λ (v : CoreView). v.dying) stays.1.core ∙ none.dying;
  }

  module _ (rest : IsAtRest d c) (none : HasNothingDeferred old.view.core)
      (under : snapshots old.view.core ≡ [])
      (weakly : (s : SlotId) → times s old.view.core.weaks ≡ 0)
      (audit : IsWholeAudit fits weight ranks a.view found) (reached : found.cyclic ≡ 0)
      (head : HoldsNothing b 0) (tail : HoldsNothing c 1) where
    abbrev p : Plain
    p = shows d.shape (known_core c.view)

    knows_c : (own_of c.view).whole ≡ Some p
    knows_c = knows_shown d.shape c.view rest.of_domain.1 second.lone.known

    same_state : (x y : Plain) → Some x ≡ Some y → x ≡ y
    same_state x y e = cc (e)

    is : audit.state ≡ p
    is = same_state audit.state p
        (sym audit.knows.whole ∙ sym first.whole ∙ sym second.whole ∙ knows_c)

    past : (i : ℕ) → content p (Cell (suc (suc i))) ≡ None
    past i =
        let long = length_each 0 d.shape.cells
        (λ (x : ℕ). slot_in (slice_index (known_core c.view).words (cell_at d.shape x))) in
        get_or_past p.cells (suc (suc i)) None (omega (arith, long, cells))

    null_cells : (i : ℕ) → content p (Cell i) ≡ None
    null_cells zero = head p (sym second.whole ∙ knows_c)
    null_cells (suc zero) = tail p knows_c
    null_cells (suc (suc i)) = past i

    pub is_audited : IsAudited fits weight ranks d c found
    is_audited = record {
      state = p;
      knows = record {
        whole = knows_c;
        lawful = subst Lawful is audit.knows.lawful;
        fit = second.lone.fit;
      };
      rests = rests fits d c second.lone rest
          (ap snapshots second.core ∙ ap snapshots first.core ∙ ap snapshots stays.1.core ∙ under)
          (settled_still none).retired (settled_still none).dying
          (λ s. ap (λ (v : CoreView). times s v.weaks) second.core
          ∙ ap (λ (v : CoreView). times s v.weaks) first.core
          ∙ ap (λ (v : CoreView). times s v.weaks) stays.1.core ∙ weakly s);
      cells = null_cells;
      alone = alone_in fits d c second.lone rest;
      own = own_in fits d c second.lone rest;
      objects = λ s some. second.so s (holds_has c.view.core s (omega (arith, some)));
      others = others_own fits d c second.lone rest;
      law = second.law;
      audit = subst (λ (q : Plain). IsAudit weight ranks q found) is audit.audit;
      reached = reached;
    }

-- ONE CALL AFTER ANOTHER
pub owned_then : (old a b : SeatState View) → KnowsOwned old a
    → rest_of a.view.core ≡ rest_of old.view.core → KnowsOwned a b → KnowsOwned old b
owned_then old a b first same second s some =
    second s (let e = ap (λ (v : CoreView). times s v.owned) same in omega (arith, some, e))
    ∙ first s some

pub owned_both : (a b : SeatState View) → KnowsBoth a b
    → rest_of b.view.core ≡ rest_of a.view.core → KnowsOwned a b
owned_both a b knows same s some =
    let e = ap (λ (v : CoreView). times s v.owned) same in
    knows s (holds_has a.view.core s (omega (arith, some)))
    (holds_has b.view.core s (omega (arith, some, e)))
