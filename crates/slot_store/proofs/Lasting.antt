-- What lasts while a seat that is alone settles: it knows the whole state, whose objects don't change and of which no
-- new ones come.
use Rattle.std.proofs.Common.{◌≡◌, ◌⊎◌, inl, inr, ⊎_elim, ℕ, zero, suc, ◌+◌, ◌<◌, ◌≤◌, List, [], ◌∷◌, ◌++◌, refl, ap, sym, ◌∙◌, subst, arith}
use Rattle.std.specs.Prelude.{IsSome, flat_map, slice_index}
use Rattle.std.proofs.lemmas.Bool.Decides.{nat_tests}
use Rattle.protocol_pairs.specs.plain_state.declared.act.PlainAct.{PlainAct}
use Rattle.protocol_pairs.specs.plain_state.declared.slot.SlotId.{SlotId}
use Rattle.protocol_pairs.specs.plain_state.State.{Plain}
use Rattle.protocol_pairs.specs.plain_protocol.Owns.{HasSlot, Object, OwnPart}
use Rattle.claim_law.specs.core_events.declared.act.Act.{Act}
use Rattle.claim_law.specs.core_events.declared.act.Act.TheVariants as act
use Rattle.claim_law.specs.core_events.declared.outcome.Outcome.{Outcome}
use Rattle.claim_law.specs.core_events.declared.outcome.Outcome.TheVariants as outcome
use Rattle.claim_law.specs.core_events.declared.view.Move.{Move}
use Rattle.claim_law.specs.core_events.Counts.{stage}
use Rattle.claim_law.specs.core_events.declared.view.CoreView.{CoreView}
use Rattle.claim_law.specs.core_events.Good.{SeatLaw}
use Rattle.claim_law.specs.core_events.Runs.{Core, IsShape, after}
use Rattle.claim_law.specs.core_events.Shows.{show_seat, shows}
use Rattle.claim_law.specs.core_events.Words.{each_from}
use Rattle.claim_law.specs.core_law.Sound.{Sound}
use Rattle.claim_law.specs.core_promises.Destroyed.{destroys, standing}
use Rattle.retiring_stores.specs.domain_rule.Rule.{IsTrueOf}
use Rattle.retiring_stores.proofs.Below.domain_rule_Objects.{object_at}
use Rattle.retiring_stores.specs.acquire_retire.declared.payment.Payment.{Payment}
use Rattle.retiring_stores.specs.acquire_retire.declared.payment.Payment.TheVariants as payment
use Rattle.retiring_stores.specs.acquire_retire.Calls.{Steps}
use Rattle.retiring_stores.specs.acquire_retire.Collecting.{Walks, move, paid_by, read_by, scanned_by}
use Rattle.retiring_stores.specs.acquire_retire.Domains.{DomainState}
use Rattle.retiring_stores.specs.acquire_retire.Seats.{SeatState}
use Rattle.retiring_stores.specs.acquire_retire.Wholes.{known_core}
use Rattle.retiring_stores.proofs.Below.control_word_Finding.{seat_there, sound_before}
use Rattle.retiring_stores.specs.Scanning.{Collected}
use Rattle.slot_store.specs.Reaping.{KnowsBoth, seen_by}
use Rattle.slot_store.specs.Settling.{objects_known}
use Rattle.slot_store.proofs.Objects.{IsSettling, below_most, known_after, known_before, known_still, object_stays, sound_later, stands_still}
use Rattle.slot_store.proofs.Telling.{slot_there}

-- all that the view of the seat says is so of the core that it knows
abbrev pub IsTrue : {P V : Type 0} → DomainState P → SeatState V → Type 0
IsTrue d seat = IsTrueOf d.shape (known_core seat.view) seat.view.core.seat seat.view

-- the object in a slot, and 1 where it isn't destroyed, as the seat knows them
abbrev pub object_known : {P V : Type 0} → DomainState P → SlotId → SeatState V → Object
object_known d s seat = object_at (shows d.shape (known_core seat.view)) s

abbrev pub stands : {P V : Type 0} → DomainState P → SlotId → SeatState V → ℕ
stands d s seat = standing (stage d.shape (known_core seat.view) s)

pub record Lasts {P V : Type 0} (d : DomainState P) (old new : SeatState V) : Type 0 where
  pub shape : IsShape d.shape
  pub law : SeatLaw d.shape old.view.core.seat old.view.core
  pub known : IsSome new.view.whole
  pub said : IsTrue d old
  pub says : IsTrue d new
  pub sound : Sound d.shape (known_core new.view)
  pub inside : (s : SlotId) → HasSlot (show_seat old.view.core) s → s.0 < d.shape.slots
  pub object :
      (s : SlotId) → s.0 < d.shape.slots → object_known d s new ≡ object_known d s old
  pub stood : (s : SlotId) → s.0 < d.shape.slots → stands d s new ≤ stands d s old

-- or nothing has happened
abbrev pub MayLast : {P V : Type 0} → DomainState P → SeatState V → SeatState V → Type 0
MayLast d old new = (new ≡ old) ⊎ Lasts d old new

module _ {P V : Type 0} (d : DomainState P) where
  pub lasts_on : (a b c : SeatState V) → Lasts d a b → Lasts d b c → Lasts d a c
  lasts_on a b c first more = record {
    shape = first.shape;
    law = first.law;
    known = more.known;
    said = first.said;
    says = more.says;
    sound = more.sound;
    inside = first.inside;
    object = λ s there. more.object s there ∙ first.object s there;
    stood = λ s there.
        let one = first.stood s there in let two = more.stood s there in omega arith;
  }

  pub lasts_then : (a b c : SeatState V) → Lasts d a b → MayLast d b c → Lasts d a c
  lasts_then a b c first more = ⊎_elim
      (λ (same : c ≡ b). subst (λ (x : SeatState V). Lasts d a x) (sym same) first)
      (λ (lasts : Lasts d b c). lasts_on a b c first lasts)
      more

  pub then_lasts : (a b c : SeatState V) → MayLast d a b → Lasts d b c → Lasts d a c
  then_lasts a b c first more = ⊎_elim
      (λ (same : b ≡ a). subst (λ (x : SeatState V). Lasts d x c) same more)
      (λ (lasts : Lasts d a b). lasts_on a b c lasts more)
      first

  pub may_last_on : (a b c : SeatState V) → MayLast d a b → MayLast d b c → MayLast d a c
  may_last_on a b c first more = ⊎_elim
      (λ (same : c ≡ b). subst (λ (x : SeatState V). MayLast d a x) (sym same) first)
      (λ (lasts : Lasts d b c). inr (then_lasts a b c first lasts))
      more

  pub known_then : (a b : SeatState V) → IsSome a.view.whole → MayLast d a b → IsSome b.view.whole
  known_then a b known may = ⊎_elim
      (λ (same : b ≡ a). subst (λ (x : SeatState V). IsSome x.view.whole) (sym same) known)
      (λ (lasts : Lasts d a b). lasts.known)
      may

  -- no more objects are there than there were
  pub objects_last : (a b : SeatState V) → Lasts d a b → objects_known d b ≤ objects_known d a
  objects_last a b lasts = below_most d.shape.slots
      (λ x. stands d (record { 0 = x }) a) (λ x. stands d (record { 0 = x }) b)
      (λ x there. lasts.stood (record { 0 = x }) there)

  pub objects_may : (a b : SeatState V) → MayLast d a b → objects_known d b ≤ objects_known d a
  objects_may a b may = ⊎_elim
      (λ (same : b ≡ a). let e = ap (objects_known d) same in omega arith)
      (λ (lasts : Lasts d a b). objects_last a b lasts)
      may

  -- what the seat knew of the objects of its slots it knows
  pub knows_last : (a b : SeatState V) → Lasts d a b → KnowsBoth a b
  knows_last a b lasts s had has =
      let there = lasts.inside s had in
      lasts.says.objects s has ∙ lasts.object s there ∙ sym (lasts.said.objects s had)

  pub knows_may : (a b : SeatState V) → MayLast d a b → KnowsBoth a b
  knows_may a b may = ⊎_elim
      (λ (same : b ≡ a). subst (λ (x : SeatState V). KnowsBoth a x) (sym same) (λ s had has. refl))
      (λ (lasts : Lasts d a b). knows_last a b lasts)
      may

module _ {P V : Type 0} {fits : List ℕ → Type 0} (d : DomainState P)
    {next : OwnPart → OwnPart → V → PlainAct → ℕ → V}
    {allows : Plain → Plain → ℕ → V → V → Type 0} where
  -- a step
  pub step_lasts : (a : Act) (old new : SeatState V) (o : Outcome) → IsSettling a
      → IsSome old.view.whole → Steps fits d next allows a old new o → Lasts d old new
  step_lasts a old new o is known step =
      let told = step.told in
      let n = old.view.core.seat in
      let then : known_core old.view ≡ told.happened.before = known_before told known in
      let now : known_core new.view ≡ after d.shape told.happened.before n a =
      known_after told known in
      record {
        shape = told.happened.shape;
        law = subst (λ (v : CoreView). SeatLaw d.shape n v) (sym told.happened.view)
            ((sound_before told).seats n (seat_there told));
        known = known_still told known;
        said = subst (λ (c : Core). IsTrueOf d.shape c n old.view) (sym then) told.said;
        says = subst (λ (x : Core × ℕ). IsTrueOf d.shape x.0 x.1 new.view)
            (λ i. (sym now i, sym told.law.number i)) told.says;
        sound = subst (λ (c : Core). Sound d.shape c) (sym now) (sound_later told);
        inside = slot_there told;
        object = λ s there.
            ap (λ (c : Core). object_at (shows d.shape c) s) now
            ∙ object_stays told s there is
            ∙ sym (ap (λ (c : Core). object_at (shows d.shape c) s) then);
        stood = λ s there.
            let falls = stands_still told s there is in
            let was = ap (λ (c : Core). standing (stage d.shape c s)) then in
            let are = ap (λ (c : Core). standing (stage d.shape c s)) now in omega arith;
      }

  -- and one that destroys an object, which is gone then
  pub destroy_stands : (s : SlotId) (old new : SeatState V) (o : Outcome) → IsSome old.view.whole
      → s.0 < d.shape.slots → Steps fits d next allows (act.Destroy s) old new o
      → stands d s new + 1 ≤ stands d s old
  destroy_stands s old new o known there step =
      let told = step.told in
      let falls = stands_still told s there tt in
      let one = here s in
      let was = ap (λ (c : Core). standing (stage d.shape c s)) (known_before told known) in
      let are = ap (λ (c : Core). standing (stage d.shape c s)) (known_after told known) in
      omega arith
    where
      here : (s : SlotId) → destroys s (act.Destroy s) ≡ 1
      here s = grind (arith, nat_tests)

-- the acts of these moves are those of a settle
abbrev pub AreSettling : List Move → Type 0
AreSettling [] = Unit {0}
AreSettling (m ∷ ms) = IsSettling m.act × AreSettling ms

both_settle : (xs ys : List Move) → AreSettling xs → AreSettling ys → AreSettling (xs ++ ys)
both_settle [] ys first more = more
both_settle (x ∷ xs) ys first more = (first.0, both_settle xs ys first.1 more)

reads_settle : (seen : List ℕ) → AreSettling (read_by seen)
reads_settle [] = tt
reads_settle (w ∷ ws) = (tt, reads_settle ws)

payment_settles : (p : Payment) → AreSettling (paid_by p)
payment_settles payment.Left = (tt, tt)
payment_settles payment.Ended = (tt, (tt, tt))
payment_settles payment.Lost = (tt, (tt, tt))
payment_settles payment.Helped = (tt, (tt, (tt, tt)))
payment_settles payment.NoHelp = (tt, (tt, (tt, tt)))
payment_settles payment.Freed = (tt, (tt, tt))

pays_settle : (ps : List Payment) → AreSettling (flat_map paid_by ps)
pays_settle [] = tt
pays_settle (p ∷ ps) =
    both_settle (paid_by p) (flat_map paid_by ps) (payment_settles p) (pays_settle ps)

sees_settle : (s : SlotId) (payload : List ℕ) (i n : ℕ)
    → AreSettling (each_from i n (λ k. move (act.See s k) (outcome.Word (slice_index payload k))))
sees_settle s payload i zero = tt
sees_settle s payload i (suc n) = (tt, sees_settle s payload (i + 1) n)

module _ {P V : Type 0} (fits : List ℕ → Type 0) (d : DomainState P) where
  -- these moves in turn
  walk_lasts : (ms : List Move) (old new : SeatState V) → AreSettling ms → IsSome old.view.whole
      → Walks fits d ms old new → MayLast d old new
  walk_lasts [] old new are known walks = inl walks
  walk_lasts (m ∷ ms) old new are known walks =
      let first = step_lasts d m.act old walks.0 m.outcome are.0 known walks.1 in
      inr (lasts_then d old walks.0 new first
      (walk_lasts ms walks.0 new are.1 first.known walks.2))

  pub sees_last : (s : SlotId) (payload : List ℕ) (old new : SeatState V) → IsSome old.view.whole
      → Walks fits d (seen_by s payload) old new → MayLast d old new
  sees_last s payload old new known walks =
      walk_lasts (seen_by s payload) old new (sees_settle s payload 0 16) known walks

  -- a collect makes a step at least
  scan_lasts : (seen : List ℕ) (last stay go : ℕ) (ms : List Move) (old new : SeatState V)
      → AreSettling ms → IsSome old.view.whole
      → Walks fits d (scanned_by seen last stay go ++ ms) old new → Lasts d old new
  scan_lasts [] last stay go ms old new are known walks =
      let first = step_lasts d act.Scan old walks.0 _ tt known walks.1 in
      lasts_then d old walks.0 new first (walk_lasts ms walks.0 new are first.known walks.2)
  scan_lasts (w ∷ ws) last stay go ms old new are known walks =
      let first = step_lasts d act.Scan old walks.0 _ tt known walks.1 in
      lasts_on d old walks.0 new first
      (scan_lasts ws last stay go ms walks.0 new are first.known walks.2)

module _ {P V : Type 0} {fits : List ℕ → Type 0} (d : DomainState P) where
  pub collect_lasts : (old new : SeatState V) → IsSome old.view.whole → Collected fits d old new
      → Lasts d old new
  collect_lasts old new known c =
      scan_lasts fits d c.collects.seen c.collects.last _ _ (flat_map paid_by c.collects.payments) old new
      (pays_settle c.collects.payments) known c.collects.goes.walks
