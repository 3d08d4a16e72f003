-- The payload of a slot that a seat has ended is read, word by word.
use Rattle.std.proofs.Common.{◌≡◌, ⊎_elim, inr, ℕ, zero, suc, ◌+◌, ◌<◌, List, [], ◌∷◌, ◌++◌, length, set, refl, ap, sym, ◌∙◌, subst, arith}
use Rattle.std.specs.Prelude.{slice_index}
use Rattle.std.proofs.lemmas.Bool.{cases_eq}
use Rattle.std.proofs.lemmas.Bool.Decides.{nat_tests}
use Rattle.std.proofs.lemmas.List.{ext_get_or, get_or-set_other, get_or-set_same, length-set}
use Rattle.epoch_domain.proofs.Below.epoch_core_Keeps.{history_sound}
use Rattle.epoch_domain.proofs.Below.epoch_core_Kit.{total_at}
use Rattle.epoch_domain.proofs.Below.epoch_core_Parts.{by}
use Rattle.epoch_domain.proofs.Below.epoch_core_Bridge.{shown_stage}
use Rattle.epoch_domain.proofs.Below.epoch_rule_Others.{has_there}
use Rattle.epoch_domain.specs.plain_protocol.plain_state.Lists.{times}
use Rattle.epoch_domain.specs.plain_protocol.plain_state.declared.slot.SlotId.{SlotId}
use Rattle.epoch_domain.specs.plain_protocol.Owns.{HasSlot, Object}
use Rattle.epoch_domain.specs.epoch_core.core_events.Words.{each_from}
use Rattle.epoch_domain.specs.epoch_core.declared.act.EpochAct.TheVariants as act
use Rattle.epoch_domain.specs.epoch_core.declared.outcome.EpochOutcome.TheVariants as outcome
use Rattle.epoch_domain.specs.epoch_core.declared.view.EpochMove.{EpochMove}
use Rattle.epoch_domain.specs.epoch_core.declared.view.EpochView.{EpochView}
use Rattle.epoch_domain.specs.epoch_core.Shows.{show_seat}
use Rattle.epoch_domain.specs.epoch_rule.Views.{object_in}
use Rattle.epoch_domain.specs.Calls.{IsSameView, Steps, same_view}
use Rattle.epoch_domain.specs.Domains.{DomainState}
use Rattle.epoch_domain.specs.Seats.{SeatState}
use Rattle.epoch_refs.specs.Dying.{Leaves}
use Rattle.epoch_refs.specs.Walks.{IsAtRest, Walks, move}
use Rattle.epoch_refs.proofs.Payments.{flushing_then}
use Rattle.epoch_refs.proofs.Reading.{read_made}
use Rattle.epoch_refs.proofs.Walking.{one_step, rest_after, walks_then}

-- what a seat has ended it has
pub dying_has : (s : SlotId) (v : EpochView) → 0 < times s v.dying → HasSlot (show_seat v) s
dying_has s v dies = grind (arith, nat_tests)

module _ {P V : Type 0} (d : DomainState P) (s : SlotId) where
  -- one part of a destruction after another
  pub leaves_then : (m n : ℕ) (a b c : SeatState V) → Leaves d s m a b → Leaves d s n b c
      → Leaves d s (m + n) a c
  leaves_then m n a b c first second =
      let x = first.room in let y = second.room in record {
        rest = second.rest;
        core = flushing_then a.view.core b.view.core c.view.core first.core second.core;
        known = second.known ∙ first.known;
        dying = second.dying ∙ first.dying;
        object = second.object ∙ first.object;
        room = omega (arith, x, y);
      }

  pub leaves_none : (a : SeatState V) → IsAtRest d a → Leaves d s 0 a a
  leaves_none a rest = record {
    rest = rest;
    core = refl;
    known = refl;
    dying = refl;
    object = refl;
    room = omega arith;
  }

module _ (s : SlotId) where
  -- the events that read its first words
  abbrev reads : List ℕ → ℕ → List EpochMove
  reads p k = each_from 0 k (λ i. move (act.See s i) (outcome.Word (slice_index p i)))

  next_read : (p : List ℕ) (i k : ℕ)
      → each_from i (suc k) (λ j. move (act.See s j) (outcome.Word (slice_index p j)))
      ≡ each_from i k (λ j. move (act.See s j) (outcome.Word (slice_index p j)))
      ++ move (act.See s (i + k)) (outcome.Word (slice_index p (i + k))) ∷ []
  next_read p i zero =
      ap (λ (n : ℕ). move (act.See s n) (outcome.Word (slice_index p n)) ∷ [])
      (let e : i ≡ i + 0 = omega arith in e)
  next_read p i (suc k) =
      ap (λ (ms : List EpochMove). move (act.See s i) (outcome.Word (slice_index p i)) ∷ ms)
      (next_read p (i + 1) k
      ∙ ap (λ (n : ℕ). each_from (i + 1) k (λ j. move (act.See s j) (outcome.Word (slice_index p j)))
      ++ move (act.See s n) (outcome.Word (slice_index p n)) ∷ [])
      (let e : i + 1 + k ≡ i + suc k = omega arith in e))

module _ {P V : Type 0} (fits : List ℕ → Type 0) (d : DomainState P) (s : SlotId) where
  -- the payload that a seat knows of the slot
  abbrev known : SeatState V → List ℕ
  known a = (object_in a.view s).payload

  -- the first k words are read, and stand in the list
  pub record SeenSoFar (k : ℕ) (payload : List ℕ) (old new : SeatState V) : Type 0 where
    pub walks : Walks fits d (reads s (known old) k) old new
    pub same : (i : ℕ) → i < k → slice_index payload i ≡ slice_index (known old) i
    pub long : length payload ≡ 16
    pub cleared : new.view.cleared ≡ old.view.cleared
    pub leaves : Leaves d s 0 old new
    pub whole : 0 < k → (length (known old) ≡ 16) × fits (known old)

  pub none_seen : (payload : List ℕ) (old : SeatState V) → length payload ≡ 16 → IsAtRest d old
      → SeenSoFar 0 payload old old
  none_seen payload old long rest = record {
    walks = refl;
    same = λ i h. absurd (omega (arith, h));
    long = long;
    cleared = refl;
    leaves = leaves_none d s old rest;
    whole = λ some. absurd (omega (arith, some));
  }

  module _ (k : ℕ) (payload : List ℕ) (old mid new : SeatState V) (w : ℕ)
      (ended : 0 < times s old.view.core.dying) (so : SeenSoFar k payload old mid) (low : k < 16)
      (step : Steps fits d same_view IsSameView (act.See s k) mid new (outcome.Word w)) where
    here : HasSlot (show_seat mid.view.core) s
    here = dying_has s mid.view.core
        (subst (λ (xs : List SlotId). 0 < times s xs) (sym so.leaves.dying) ended)

    object_same : object_in new.view s ≡ object_in mid.view s
    object_same = step.told.objects s here

    word_is : w ≡ slice_index (known old) k
    word_is =
        read_made fits d s k w mid new step here low
        ∙ ap (λ (o : Object). slice_index o.payload k) (object_same ∙ so.leaves.object)

    -- what an ended object was made with fits
    fit_here : fits (object_in mid.view s).payload
    fit_here =
        let h = step.told.happened in
        let z = d.shape in
        let c = h.before in
        let n = mid.view.core.seat in
        let so_core = history_sound z d.quotas h.events c h.shape h.quotas h.history in
        let inside = h.enabled.0 in
        let has = subst (λ (v : EpochView). HasSlot (show_seat v) s) h.view here in
        let there = has_there z c so_core n s inside has in
        let dies = subst (λ (v : EpochView). 0 < times s v.dying) h.view
        (subst (λ (xs : List SlotId). 0 < times s xs) (sym so.leaves.dying) ended) in
        let all = total_at (λ (v : EpochView). times s v.dying) c.views n inside in
        let stage_is = shown_stage z c s there
        ∙ (by z c so_core s there).ended (omega (arith, dies, all)) in
        subst (λ (o : Object). fits o.payload) (sym (step.told.said.objects s here))
        (h.fact.0 s (inr stage_is))

    one_more_leaves : Leaves d s 0 mid new
    one_more_leaves =
        let more = step.room in record {
          rest = rest_after fits d (move (act.See s k) (outcome.Word w) ∷ []) mid new
              (one_step fits d (act.See s k) (outcome.Word w) mid new step) so.leaves.rest core_is;
          core = core_is;
          known = ap (λ (v : EpochView). v.known) step.told.core;
          dying = ap (λ (v : EpochView). v.dying) step.told.core;
          object = object_same;
          room = omega (arith, more);
        }
      where
        core_is : new.view.core
            ≡ record mid.view.core {
              pending = new.view.core.pending;
              dying = new.view.core.dying;
              known = new.view.core.known;
              trail = new.view.core.trail;
            }
        core_is =
            step.told.core
            ∙ (λ i. record mid.view.core {
              pending = (sym step.told.core i).pending;
              dying = (sym step.told.core i).dying;
              known = (sym step.told.core i).known;
              trail = (sym step.told.core i).trail;
            })

    pub one_seen : SeenSoFar (k + 1) (set payload k w) old new
    one_seen = record {
      walks = subst (λ (ms : List EpochMove). Walks fits d ms old new) moves_are
          (walks_then fits d (reads s (known old) k)
          (move (act.See s k) (outcome.Word (slice_index (known old) k)) ∷ []) old mid new so.walks
          (one_step fits d (act.See s k) (outcome.Word (slice_index (known old) k)) mid new
          (subst (λ (x : ℕ). Steps fits d same_view IsSameView (act.See s k) mid new (outcome.Word x))
          word_is step)));
      same = λ i h. ⊎_elim
          (λ (last : i ≡ k).
          subst (λ (j : ℕ). slice_index (set payload k w) j ≡ slice_index (known old) j) (sym last)
          (get_or-set_same payload k w 0 (let l = so.long in omega (arith, l, low)) ∙ word_is))
          (λ ne. get_or-set_other payload k i w 0 ne ∙ so.same i (omega (arith, h, ne)))
          (cases_eq i k);
      long = length-set payload k w ∙ so.long;
      cleared = step.told.cleared ∙ so.cleared;
      leaves = leaves_then d s 0 0 old mid new so.leaves one_more_leaves;
      whole = λ some. (
        ap (λ (o : Object). length o.payload) (sym (object_same ∙ so.leaves.object))
            ∙ step.told.payloads s,
        subst (λ (o : Object). fits o.payload) so.leaves.object fit_here,
      );
    }
      where
        moves_are : reads s (known old) k
            ++ move (act.See s k) (outcome.Word (slice_index (known old) k)) ∷ []
            ≡ reads s (known old) (k + 1)
        moves_are =
            sym (next_read s (known old) 0 k
            ∙ ap (λ (n : ℕ). reads s (known old) k
            ++ move (act.See s n) (outcome.Word (slice_index (known old) n)) ∷ [])
            (let e : 0 + k ≡ k = omega arith in e))
            ∙ ap (reads s (known old)) (let e : suc k ≡ k + 1 = omega arith in e)

  -- all words are read
  module _ (payload : List ℕ) (old new : SeatState V) (so : SeenSoFar 16 payload old new) where
    pub all_known : payload ≡ known old
    all_known =
        let whole = so.whole (omega arith) in
        ext_get_or 0 payload (known old) (so.long ∙ sym whole.0)
        (λ i h. so.same i (let l = so.long in omega (arith, h, l)))

    pub all_walks : Walks fits d (reads s payload 16) old new
    all_walks = subst (λ (p : List ℕ). Walks fits d (reads s p 16) old new) (sym all_known) so.walks

    pub all_fit : fits payload
    all_fit = subst fits (sym all_known) (so.whole (omega arith)).1
