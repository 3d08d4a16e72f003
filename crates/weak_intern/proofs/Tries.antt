-- The tries that a load of a cell with the deed SeeHead loses, and what they leave of a seat.
use Rattle.std.proofs.Common.{◌≡◌, ℕ, List, [], ◌∷◌, ◌++◌, sym, ap, subst, ◌∙◌, append_assoc, Option, Some}
use Rattle.atomic_weak.specs.plain_state.declared.act.EventPlace.TheVariants.{WeakCell}
use Rattle.atomic_weak.specs.plain_state.declared.act.PlainAct.TheVariants as plain
use Rattle.atomic_weak.specs.plain_state.declared.slot.SlotId.{SlotId}
use Rattle.atomic_weak.specs.core_events.declared.act.Act.TheVariants as act
use Rattle.atomic_weak.specs.core_events.declared.outcome.Outcome.TheVariants as outcome
use Rattle.atomic_weak.specs.core_events.declared.view.CoreView.{CoreView}
use Rattle.atomic_weak.specs.core_events.declared.view.Move.{Move}
use Rattle.atomic_weak.specs.core_events.declared.view.Note.TheVariants as stands
use Rattle.atomic_weak.specs.core_events.Views.{note_of}
use Rattle.atomic_weak.specs.domain_rule.Views.{own_of}
use Rattle.atomic_weak.specs.acquire_retire.Calls.{IsSameView, same_view}
use Rattle.atomic_weak.specs.acquire_retire.Collecting.{move}
use Rattle.atomic_weak.specs.acquire_retire.Domains.{DomainState}
use Rattle.atomic_weak.specs.acquire_retire.Seats.{SeatState}
use Rattle.atomic_weak.specs.control_word.Resting.{IsAtRest, IsSettled}
use Rattle.atomic_weak.proofs.Below.control_word_Becoming.{walks_table}
use Rattle.atomic_weak.specs.protected_loads.Loads.{Misses, announced_by}
use Rattle.atomic_weak.specs.protected_loads.Retries.{AcquiresAtLast, Loses, Lost, lost_by}
use Rattle.record_making.specs.directory_law.Cells.{Area}
use Rattle.record_making.specs.directory_law.Lessons.{SeeTells, see_next}
use Rattle.text_reading.proofs.Below.snapshot_ptr_Under.{IsFreeWord}
use Rattle.record_making.specs.directory_calls.Steps.{GoesOn}
use Rattle.record_making.proofs.Below.directory_calls_Learnt.{see_learns}
use Rattle.record_making.proofs.Below.directory_calls_Parts.{LearnsBy, Place, lift_learns, lifts, part_none, part_then, tells}

module _ {P V : Type 0} (fits : List ℕ → Type 0) (d : DomainState P) (l : Place V) (z : Area)
    (i j : ℕ) (old : SeatState V) where
  -- LOST TRIES
  pub lost_learns : (ts : List Lost) (mid : SeatState V)
      → Loses fits d (WeakCell i) (lifts l (see_next z)) (tells l (SeeTells z)) j ts old mid
      → LearnsBy l 0 old.view.client mid.view.client
  lost_learns [] mid same =
      subst (λ (x : SeatState V). LearnsBy l 0 old.view.client x.view.client) (sym same)
      (part_none l old.view.client)
  lost_learns (t ∷ ts) new loses =
      let mid = loses.0 in
      let m = loses.2 in
      let own = own_of m.mid.view in
      let late = own_of m.checks.walks.0.view in
      let v = m.mid.view.client in
      let a = plain.Check j (WeakCell i) in
      let w = m.checks.walks.1.word in
      let more = lift_learns l 0 v (see_next z own late (l.seen v) a w)
      (see_learns z own late (l.seen v) a w) in
      part_then l 0 0 old.view.client mid.view.client new.view.client
      (lost_learns ts mid loses.1)
      (subst (λ v. LearnsBy l 0 mid.view.client v) (sym (client_moved mid t m))
      (subst (λ u. LearnsBy l 0 u (lifts l (see_next z) own late v a w)) m.announces.client more))
    where
      -- what a lost try tells the client's view
      client_moved : (mid : SeatState V) (t : Lost)
          → (m : Misses fits d j (WeakCell i) (lifts l (see_next z)) (tells l (SeeTells z))
          (Some t.slot) t.now mid new)
          → new.view.client
          ≡ lifts l (see_next z) (own_of m.mid.view) (own_of m.checks.walks.0.view)
          m.mid.view.client (plain.Check j (WeakCell i)) m.checks.walks.1.word
      client_moved mid t m =
          m.client
          ∙ (ap (λ (x : SeatState V). x.view.client) m.checks.walks.2
          ∙ m.checks.walks.1.told.client)

  pub lost_table : (ts : List Lost) (mid : SeatState V)
      → Loses fits d (WeakCell i) (lifts l (see_next z)) (tells l (SeeTells z)) j ts old mid
      → mid.table ≡ old.table
  lost_table [] mid same = ap (λ (x : SeatState V). x.table) same
  lost_table (t ∷ ts) new loses =
      let mid = loses.0 in
      let m = loses.2 in
      walks_table fits d same_view IsSameView
      (move (act.Release j) outcome.Plain ∷ []) m.late new m.releases.walks
      ∙ walks_table fits d (lifts l (see_next z)) (tells l (SeeTells z))
      (move (act.Check j (WeakCell i)) (outcome.Moved t.now) ∷ []) m.mid m.late m.checks.walks
      ∙ walks_table fits d same_view IsSameView (announced_by j (WeakCell i) m.slot) mid m.mid
      m.announces.becomes.walks
      ∙ lost_table ts mid loses.1

  -- WHAT IT LEAVES
  module _ (rest : IsAtRest d old) (word : IsFreeWord j old.view.core) (new : SeatState V)
      (found : Option SlotId)
      (last : AcquiresAtLast fits d (WeakCell i) (lifts l (see_next z)) (tells l (SeeTells z)) j
      found old new) where
    abbrev mid : SeatState V
    mid = last.mid

    pub rest_mid : IsAtRest d mid
    rest_mid = record {
      of_domain = (
        lost_table last.lost mid last.loses ∙ rest.of_domain.0,
        ap (λ (v : CoreView). v.shape) last.core ∙ rest.of_domain.1,
      );
      idle = (
        ap (λ (v : CoreView). v.phase) last.core ∙ rest.idle.0,
        ap (λ (v : CoreView). v.left) last.core ∙ rest.idle.1,
      );
      owes_nothing = ap (λ (v : CoreView). v.owed) last.core ∙ rest.owes_nothing;
      first = ap (λ (v : CoreView). note_of v 0) last.core ∙ rest.first;
      others = λ k. subst IsSettled (sym (ap (λ (v : CoreView). note_of v k) last.core))
          (rest.others k);
    }

    pub idle_mid : note_of mid.view.core j ≡ stands.Idle
    idle_mid = ap (λ (v : CoreView). note_of v j) last.core ∙ word.2

    pub learns_mid : LearnsBy l 0 old.view.client mid.view.client
    learns_mid = lost_learns last.lost mid last.loses

    pub goes_mid : GoesOn old.view.core mid.view.core
    goes_mid = (_, ap (λ (v : CoreView). v.trail) last.core)

    -- the lost tries, and then these moves, by which the seat came to have v
    pub sights_so : (v : CoreView → CoreView) (ms : List Move)
        → ((u : CoreView) (t : List Move)
        → record (v (record u { trail = t })) { trail = t ++ ms }
        ≡ record (v u) { trail = t ++ ms })
        → new.view.core ≡ record (v mid.view.core) { trail = mid.view.core.trail ++ ms }
        → new.view.core
        ≡ record (v old.view.core) {
          trail = old.view.core.trail ++ (lost_by j (WeakCell i) last.lost ++ ms);
        }
    sights_so v ms bare core =
        core
        ∙ (ap (λ (u : CoreView). record (v u) { trail = u.trail ++ ms }) last.core
        ∙ (bare old.view.core (old.view.core.trail ++ lost_by j (WeakCell i) last.lost)
        ∙ ap (λ (t : List Move). record (v old.view.core) { trail = t })
        (append_assoc old.view.core.trail (lost_by j (WeakCell i) last.lost) ms)))
