-- What the calls of an intern keep.
use Rattle.std.proofs.Common.{◌≡◌, ℕ, ◌+◌, ◌<◌, List, [], ◌∷◌, ◌++◌, refl, ap, ◌∙◌, arith}
use Rattle.cell_calls.specs.Keeping.{Keeps}
use Rattle.cell_calls.proofs.Keeping.{keeps_then, keeps_wider}
use Rattle.cell_calls.specs.cell_law.declared.view.View.{View}
use Rattle.cell_calls.specs.cell_law.plain_state.declared.slot.SlotId.{SlotId}
use Rattle.cell_calls.specs.cell_law.plain_state.Lists.{times}
use Rattle.cell_calls.specs.cell_protocol.declared.law.CellLaw.{CellLaw}
use Rattle.epoch_refs.specs.epoch_core.core_events.Views.{without}
use Rattle.epoch_refs.specs.epoch_core.declared.act.EpochAct.TheVariants as act
use Rattle.epoch_refs.specs.epoch_core.declared.outcome.EpochOutcome.TheVariants as outcome
use Rattle.epoch_refs.specs.epoch_core.declared.view.EpochView.{EpochView}
use Rattle.epoch_refs.specs.epoch_core.Views.{Holds}
use Rattle.epoch_refs.specs.epoch_domain.Calls.{IsSameView, Steps, same_view}
use Rattle.epoch_refs.specs.epoch_domain.Domains.{DomainState}
use Rattle.epoch_refs.specs.epoch_domain.Seats.{SeatState}
use Rattle.epoch_refs.specs.Walks.{IsAtRest, move}
use Rattle.epoch_domain.proofs.Below.core_law_Kit.{times_push, times_without}
use Rattle.epoch_domain.proofs.Below.epoch_rule_Others.{held_has}
use Rattle.cell_making.proofs.Kept.{keeps_core}
use Rattle.cell_making.proofs.Owned.{holds_on}
use Rattle.cell_intern.specs.Interning.{IsInRegion}

-- A REFERENCE that is gained
pub add_keeps : {P V : Type 0} (fits : List ℕ → Type 0) (d : DomainState P) (s : SlotId)
    (old new : SeatState V) → Steps fits d same_view IsSameView (act.Add s) old new outcome.Plain
    → Keeps 0 1 (old.view.core.owned ++ s ∷ []) old new
add_keeps fits d s old new step =
    keeps_core 0 1 old new (record old.view.core {
      owned = old.view.core.owned ++ s ∷ [];
      adds = old.view.core.adds + 1;
    }) (move (act.Add s) outcome.Plain ∷ []) step.told.core refl (omega arith) refl refl
    (λ x before after. step.told.objects x (held_has x old.view.core before))

-- a region stays open over calls
pub region_on : (d : DomainState CellLaw) (m n : ℕ) (xs : List SlotId) (old new : SeatState View)
    → IsInRegion d old → Keeps m n xs old new → IsAtRest d new
    → new.view.client.cleared ≡ old.view.client.cleared → IsInRegion d new
region_on d m n xs old new r keeps rest same = record {
  rest = rest;
  inside =
      let number = ap (λ (v : EpochView). v.number) keeps.same in
      let stands = r.inside in omega (arith, number, stands);
  over = r.over;
  is_open = same ∙ r.is_open;
}

-- the same references, without one
pub without_same : (s : SlotId) (xs ys : List SlotId) → ((x : SlotId) → times x xs ≡ times x ys)
    → 0 < times s xs → (x : SlotId) → times x (without s xs) ≡ times x (without s ys)
without_same s xs ys same some x =
    let a = times_without x s xs some in
    let there = same s in
    let b = times_without x s ys (omega (arith, there, some)) in
    let e = same x in omega (arith, a, b, e)

module _ {V : Type 0} where
  -- what a seat held it holds still, where it owns no fewer references
  pub held_on : (m n : ℕ) (old new : SeatState V) → Keeps m n old.view.core.owned old new
      → (x : SlotId) → Holds old.view.core x → Holds new.view.core x
  held_on m n old new keeps x has =
      holds_on m n old.view.core.owned old new keeps x (omega arith) has

  -- calls that leave all references, and one after them
  pub keeps_on : (m n : ℕ) (xs : List SlotId) (old mid new : SeatState V)
      → Keeps 0 0 old.view.core.owned old mid → Keeps m n xs mid new → Keeps m n xs old new
  keeps_on m n xs old mid new first second =
      keeps_wider (0 + m) m (0 + n) n xs xs old new
      (keeps_then 0 m 0 n old.view.core.owned xs old mid new first second
      (λ x has still. held_on 0 0 old mid first x has))
      (omega arith) (omega arith) (λ x. refl)

  -- then one reference was given away
  pub gave_on : (s : SlotId) (old mid new : SeatState V) → Keeps 0 0 old.view.core.owned old mid
      → Keeps 0 0 (without s mid.view.core.owned) mid new → 0 < times s mid.view.core.owned
      → Keeps 0 1 (without s old.view.core.owned) old new
  gave_on s old mid new first second some =
      keeps_wider 0 0 0 1 (without s mid.view.core.owned) (without s old.view.core.owned) old new
      (keeps_on 0 0 (without s mid.view.core.owned) old mid new first second)
      (omega arith) (omega arith)
      (without_same s mid.view.core.owned old.view.core.owned first.owns some)

  -- one was gained, and another one was given up
  pub swapped_on : (s t : SlotId) (old mid new last : SeatState V)
      → Keeps 0 0 old.view.core.owned old mid → Keeps 0 1 (mid.view.core.owned ++ t ∷ []) mid new
      → Keeps 0 0 (without s new.view.core.owned) new last → 0 < times s mid.view.core.owned
      → Keeps 0 1 (without s old.view.core.owned ++ t ∷ []) old last
  swapped_on s t old mid new last first second third some =
      let gained = keeps_on 0 1 (mid.view.core.owned ++ t ∷ []) old mid new first second in
      let more : 0 < times s new.view.core.owned =
      let o = second.owns s in let p = times_push s t mid.view.core.owned in
      omega (arith, o, p, some) in
      keeps_wider (0 + 0) 0 (1 + 0) 1 (without s new.view.core.owned)
      (without s old.view.core.owned ++ t ∷ []) old last
      (keeps_then 0 0 1 0 (mid.view.core.owned ++ t ∷ []) (without s new.view.core.owned) old new last
      gained third
      (λ x has still. holds_on 0 1 (mid.view.core.owned ++ t ∷ []) mid new second x
      (let p = times_push x t mid.view.core.owned in omega (arith, p))
      (held_on 0 0 old mid first x has)))
      (omega arith) (omega arith)
      (λ x.
      let w = times_without x s new.view.core.owned more in
      let o = second.owns x in
      let p = times_push x t mid.view.core.owned in
      let f = first.owns x in
      let there = first.owns s in
      let u = times_without x s old.view.core.owned (omega (arith, there, some)) in
      let q = times_push x t (without s old.view.core.owned) in
      omega (arith, w, o, p, f, u, q))
