-- The first of the ripe slots of a seat, and why none is ripe after a collect.
use Rattle.std.proofs.Common.{◌≡◌, ◌≢◌, ◌⊎◌, inl, inr, ⊎_elim, ℕ, zero, suc, ◌<◌, ◌≤◌, Bool, true, false, List, [], ◌∷◌, ◌++◌, length, refl, ap, sym, ◌∙◌, subst, arith, append_assoc}
use Rattle.std.proofs.lemmas.Bool.Decides.{nat_tests}
use Rattle.std.specs.Prelude.{◌↔◌, Option, None, Some, IfSome, IsNone, slice_index_or, flat_map, if◌then◌else◌}
use Rattle.protocol_pairs.specs.plain_state.declared.slot.Kind.TheVariants.{Disposal}
use Rattle.protocol_pairs.specs.plain_state.declared.slot.SlotId.{SlotId}
use Rattle.protocol_pairs.specs.plain_state.Ejection.{Announcements, ripened, ripens}
use Rattle.protocol_pairs.specs.plain_state.Lists.{times}
use Rattle.claim_law.specs.announce_slots.Seen.{announced_in}
use Rattle.claim_law.specs.core_events.declared.act.Act.TheVariants as act
use Rattle.claim_law.specs.core_events.declared.outcome.Outcome.{Outcome}
use Rattle.claim_law.specs.core_events.declared.outcome.Outcome.TheVariants as outcome
use Rattle.claim_law.specs.core_events.declared.shape.Shape.{Shape}
use Rattle.claim_law.specs.core_events.declared.view.CoreView.{CoreView}
use Rattle.claim_law.specs.core_events.declared.view.Move.{Move}
use Rattle.claim_law.specs.core_events.declared.view.Phase.TheVariants as phase
use Rattle.claim_law.specs.core_events.Good.{SeatLaw}
use Rattle.claim_law.specs.core_events.Steps.{all_seen, is_last}
use Rattle.claim_law.proofs.Below.core_law_Kit.{one_same, times_cons, times_none}
use Rattle.claim_law.proofs.Below.core_law_Ripening.{ripened_times}
use Rattle.retiring_stores.specs.acquire_retire.Calls.{IsSameView, Steps, same_view}
use Rattle.retiring_stores.specs.acquire_retire.Collecting.{Walks, paid_by, scanned_by}
use Rattle.retiring_stores.specs.acquire_retire.Domains.{DomainState}
use Rattle.retiring_stores.specs.acquire_retire.Seats.{SeatState}
use Rattle.retiring_stores.specs.control_word.Resting.{IsAtRest}
use Rattle.retiring_stores.proofs.Below.control_word_Finding.{seat_there, sound_before}
use Rattle.retiring_stores.specs.Scanning.{Collected}
use Rattle.retiring_stores.proofs.Gathering.{pays_gather, walk_stays}
use Rattle.slot_store.specs.Reaping.{FindsRipe, Waits}
use Rattle.slot_store.proofs.Tries.{append_nil}

pub first_there : (s : SlotId) (xs : List SlotId) → (xs ≡ [] → ⊥) → s ≡ slice_index_or xs 0 s
    → 0 < times s xs
first_there s [] some is = absurd (some refl)
first_there s (x ∷ xs) some is =
    let more = times_cons s x xs in
    let one = one_same s x (ap (λ (y : SlotId). y.0) (sym is)) in omega arith

-- a ripe slot is dying
pub dies_too : (v : CoreView) (o : Option SlotId) → (IsNone o ↔ (v.ripe ≡ []))
    → IfSome o (λ s. s ≡ slice_index_or v.ripe 0 s)
    → ((s : SlotId) → times s v.ripe ≤ times s v.dying) → IfSome o (λ s. 0 < times s v.dying)
dies_too v None none is listed = tt
dies_too v (Some s) none is listed =
    let some = first_there s v.ripe (λ e. absurd (cc (none.1 e))) is in
    let more = listed s in omega arith

-- a dying slot becomes ripe at a scan, or was ripe, or is announced for disposal
ripened_or : (s : SlotId) (ripe dying : List SlotId) (seen : Announcements) → 0 < times s dying
    → (0 < times s (ripened ripe dying seen)) ⊎ (0 < seen Disposal s)
ripened_or s ripe dying seen some = go (ripens ripe seen s) refl
  where
    few : (n : ℕ) → (n ≤ 0) ⊎ (0 < n)
    few zero = inl (omega arith)
    few (suc n) = inr (omega arith)

    go : (b : Bool) → ripens ripe seen s ≡ b
        → (0 < times s (ripened ripe dying seen)) ⊎ (0 < seen Disposal s)
    go true is =
        let more = ripened_times s ripe dying seen in
        let all : (if ripens ripe seen s then times s dying else 0) ≡ times s dying = rw is refl in
        inl (omega arith)
    go false is = ⊎_elim
        (λ (none : times s ripe ≤ 0). inr (grind (arith, nat_tests)))
        (λ (one : 0 < times s ripe). let more = ripened_times s ripe dying seen in inl (omega arith))
        (few (times s ripe))

-- what a scan answers tells whether it was the last
pub word_read : (b : Bool) (w x : ℕ) (o : Outcome)
    → outcome.Word w ≡ (if b then o else outcome.Word x) → o ≢ outcome.Word w
    → (b ≡ false) × (w ≡ x)
word_read true w x o is not = absurd (not (sym is))
word_read false w x o is not = (refl, cc (is))

pub split_read : (b : Bool) (last stay go x m n : ℕ)
    → outcome.Split last stay go ≡ (if b then outcome.Split x m n else outcome.Word x)
    → (b ≡ true) × (last ≡ x)
split_read true last stay go x m n is = (refl, cc (is))
split_read false last stay go x m n is = absurd (cc (is))

module _ {P V : Type 0} (fits : List ℕ → Type 0) (d : DomainState P) (s : SlotId)
    (last stay go : ℕ) (ms : List Move) where
  -- after the scan the slot is ripe, or one of the words announces it for disposal
  after_scan : (ws acc : List ℕ) (old new : SeatState V) → old.view.core.seen ≡ acc
      → 0 < times s old.view.core.dying
      → Walks fits d (scanned_by ws last stay go ++ ms) old new
      → (mid : SeatState V) × Walks fits d ms mid new
      × ((0 < times s mid.view.core.ripe)
      ⊎ (0 < announced_in ((acc ++ ws) ++ last ∷ []) Disposal s))
  after_scan [] acc old new begins some walks =
      let step = walks.1 in
      let v = old.view.core in
      let is = split_read (is_last d.shape v) last stay go step.word _ _ step.answers in
      let ripe : walks.0.view.core.ripe ≡ ripened v.ripe v.dying (all_seen step.word v) =
      ap (λ (u : CoreView). u.ripe) step.told.core ∙ rw is.0 refl in
      let words : v.seen ++ step.word ∷ [] ≡ (acc ++ []) ++ last ∷ [] =
      (λ i. begins i ++ sym is.1 i ∷ []) ∙ ap (λ (xs : List ℕ). xs ++ last ∷ []) (sym (append_nil acc)) in (
        walks.0,
        walks.2,
        ⊎_elim
            (λ (now : 0 < times s (ripened v.ripe v.dying (all_seen step.word v))).
            inl (subst (λ (xs : List SlotId). 0 < times s xs) (sym ripe) now))
            (λ (held : 0 < announced_in (v.seen ++ step.word ∷ []) Disposal s).
            inr (subst (λ (xs : List ℕ). 0 < announced_in xs Disposal s) words held))
            (ripened_or s v.ripe v.dying (all_seen step.word v) some),
      )
  after_scan (w ∷ ws) acc old new begins some walks =
      let step = walks.1 in
      let v = old.view.core in
      let is = word_read (is_last d.shape v) w step.word _ step.answers (λ e. absurd (cc (e))) in
      let seen : walks.0.view.core.seen ≡ acc ++ w ∷ [] =
      ap (λ (u : CoreView). u.seen) step.told.core ∙ rw is.0 (λ i. begins i ++ sym is.1 i ∷ []) in
      let dying : walks.0.view.core.dying ≡ v.dying =
      ap (λ (u : CoreView). u.dying) step.told.core ∙ rw is.0 refl in
      let r = after_scan ws (acc ++ w ∷ []) walks.0 new seen
      (subst (λ (xs : List SlotId). 0 < times s xs) (sym dying) some) walks.2 in (
        r.0,
        r.1,
        subst
            (λ (xs : List ℕ). (0 < times s r.0.view.core.ripe)
            ⊎ (0 < announced_in (xs ++ last ∷ []) Disposal s))
            (append_assoc acc (w ∷ []) ws) r.2,
      )

-- an idle seat is in no scan
unread : (z : Shape) (n : ℕ) (v : CoreView) → SeatLaw z n v → v.phase ≡ phase.Idle → v.seen ≡ []
unread z n v law idle = ⊎_elim
    (λ (none : v.seen ≡ []). none)
    (λ (scans : v.phase ≡ phase.Scan). absurd (cc (sym scans ∙ idle)))
    law.scans

module _ {P V : Type 0} {fits : List ℕ → Type 0} (d : DomainState P) (old new : SeatState V)
    (rest : IsAtRest d old) (c : Collected fits d old new) where
  -- a step tells what held of the seat before it
  begun : {o : Outcome} {a b : SeatState V} → Steps fits d same_view IsSameView act.Scan a b o
      → a.view.core.phase ≡ phase.Idle → a.view.core.seen ≡ []
  begun {a = a} step idle =
      let n = a.view.core.seat in
      unread d.shape n a.view.core
      (subst (λ (v : CoreView). SeatLaw d.shape n v) (sym step.told.happened.view)
      ((sound_before step.told).seats n (seat_there step.told)))
      idle

  -- the first step of a collect tells what holds of the seat
  pub collect_law : (ws : List ℕ) (last stay go : ℕ) (ms : List Move) (a b : SeatState V)
      → Walks fits d (scanned_by ws last stay go ++ ms) a b → a.view.core.phase ≡ phase.Idle
      → a.view.core.seen ≡ []
  collect_law [] last stay go ms a b walks idle = begun walks.1 idle
  collect_law (w ∷ ws) last stay go ms a b walks idle = begun walks.1 idle

  -- what was dying and isn't ripe was announced for disposal
  pub dying_announced : new.view.core.ripe ≡ [] → (s : SlotId) → 0 < times s old.view.core.dying
      → 0 < announced_in (c.collects.seen ++ c.collects.last ∷ []) Disposal s
  dying_announced none s some =
      let r = after_scan fits d s c.collects.last (length new.view.core.retired)
      (length c.collects.payments) (flat_map paid_by c.collects.payments) c.collects.seen []
      old new
      (collect_law c.collects.seen _ _ _ (flat_map paid_by c.collects.payments) old new
      c.collects.goes.walks rest.idle.0)
      some c.collects.goes.walks in
      ⊎_elim
      (λ (ripe : 0 < times s r.0.view.core.ripe).
      let stays = walk_stays fits d (flat_map paid_by c.collects.payments) r.0 new
      (pays_gather c.collects.payments) r.1 in
      let more = stays.ripe s in
      let nothing = ap (times s) none in
      let zero = times_none s in absurd (omega arith))
      (λ (held : 0 < announced_in (c.collects.seen ++ c.collects.last ∷ []) Disposal s). held)
      r.2

  waits : new.view.core.ripe ≡ [] → Waits fits d old new
  waits none = record { collected = c; none = none; announced = dying_announced none }

  pub finds_after : old.view.core.ripe ≡ [] → (o : Option SlotId)
      → (IsNone o ↔ (new.view.core.ripe ≡ []))
      → IfSome o (λ s. s ≡ slice_index_or new.view.core.ripe 0 s) → FindsRipe fits d o old new
  finds_after were None none is = (were, waits (none.0 refl))
  finds_after were (Some s) none is =
      (inr (were, c), first_there s new.view.core.ripe (λ e. absurd (cc (none.1 e))) is)
