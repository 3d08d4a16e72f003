-- What a call keeps that takes an item off the queue, reads it, and gives it up.
use Rattle.std.proofs.Common.{ℕ, ◌≡◌, ◌-◌, ◌<◌, ◌≤◌, List, [], refl, ap, arith}
use Rattle.std.specs.Prelude.{Option}
use Rattle.control_word.specs.plain_state.declared.slot.SlotId.{SlotId}
use Rattle.control_word.specs.plain_state.Lists.{times}
use Rattle.control_word.specs.core_events.declared.view.CoreView.{CoreView}
use Rattle.control_word.specs.core_events.Views.{without}
use Rattle.control_word.proofs.Below.core_law_Kit.{times_without}
use Rattle.control_word.specs.acquire_retire.Domains.{DomainState}
use Rattle.control_word.specs.acquire_retire.Seats.{SeatState}
use Rattle.control_word.specs.Moves.{KnowsStill}
use Rattle.linked_queue.specs.Pops.{PopsWith, with_both}
use Rattle.part_calls.specs.slot_store.Calls.{SeesWord}
use Rattle.watch_protocol.specs.watch_law.News.{NewsView}
use Rattle.weak_watch.specs.Keeping.{Keeps}
use Rattle.weak_watch.specs.Sending.{pushing}
use Rattle.weak_watch.proofs.Keeping.{held_before, keeps_core, keeps_then}

-- A POP
pub pop_keeps : (found : Option (SlotId × Option SlotId)) (old new : SeatState NewsView)
    → PopsWith found (pushing old) (pushing new) → new.view.core.makes ≡ old.view.core.makes
    → (n : ℕ) × Keeps 0 n (with_both found old.view.core.owned) old.view.core.weaks old new
pop_keeps found old new pops makes = (
  new.view.core.adds - old.view.core.adds,
  record {
    owns = pops.leaves.owns;
    weakly = λ x. ap (λ (v : CoreView). times x v.weaks) pops.leaves.same;
    makes_used = (omega (arith, makes), omega (arith, makes));
    adds_used = (pops.leaves.adds, (let e = pops.leaves.adds in omega (arith, e)));
    same = ap (λ (v : CoreView). record v { weaks = [] }) pops.leaves.same;
    knows = pops.leaves.knows;
  },
)

-- A WORD that is read
pub word_keeps : {P V : Type 0} (fits : List ℕ → Type 0) (d : DomainState P) (s : SlotId)
    (i n : ℕ) (old new : SeatState V) → SeesWord fits d s i n old new
    → KnowsStill old.view.core old new
    → Keeps 0 0 old.view.core.owned old.view.core.weaks old new
word_keeps fits d s i n old new sees knows =
    keeps_core old new old.view.core old.view.core _ 0 0 sees.becomes.core refl (omega arith)
    (omega arith) knows (λ x was is. was)

-- WHAT IS LEFT of a list
pub fewer : (x s : SlotId) (xs : List SlotId) → 0 < times s xs
    → times x (without s xs) ≤ times x xs
fewer x s xs some' = let e = times_without x s xs some' in omega (arith, e)

-- one reference that is given after another
pub gives_both : {V : Type 0} (s t : SlotId) (a b c : SeatState V)
    → Keeps 0 0 (without s a.view.core.owned) a.view.core.weaks a b
    → 0 < times t (without s a.view.core.owned)
    → Keeps 0 0 (without t b.view.core.owned) b.view.core.weaks b c
    → Keeps 0 0 (without t (without s a.view.core.owned)) a.view.core.weaks a c
gives_both s t a b c first some' second =
    let left = first.owns t in
    keeps_then 0 0 0 0 _ _ _ _ _ _ a b c first second
    (λ x.
    let p = first.owns x in
    let q = times_without x t b.view.core.owned (omega (arith, left, some')) in
    let r = times_without x t (without s a.view.core.owned) some' in
    omega (arith, p, q, r))
    first.weakly
    (λ x was is. held_before 0 0 _ _ b c second x
    (fewer x t b.view.core.owned (omega (arith, left, some'))) (omega arith) is)
