-- What a make with the deed MakeSlot asks, and what it leaves.
use Rattle.std.proofs.Common.{◌≡◌, ℕ, ◌+◌, ◌<◌, List, [], ◌∷◌, refl, ap, sym, ◌∙◌, subst, arith, Some, None}
use Rattle.std.specs.Prelude.{Err, IfOk, Ok, Result, if◌then◌else◌}
use Rattle.atomic_shared.specs.plain_state.declared.act.PlainAct.{PlainAct}
use Rattle.atomic_shared.specs.plain_state.declared.act.PlainAct.TheVariants as plain
use Rattle.atomic_shared.specs.plain_state.declared.slot.SlotId.{SlotId}
use Rattle.atomic_shared.specs.plain_state.Lists.{times}
use Rattle.atomic_shared.specs.plain_protocol.Acts.{Owned}
use Rattle.atomic_shared.specs.plain_protocol.Owns.{HasSlot, Object, OwnPart}
use Rattle.slot_store.specs.protocol_pairs.Parts.{Accepts, Frees}
use Rattle.slot_store.specs.protocol_pairs.Spared.{HasOneOf, IsWithin}
use Rattle.slot_store.specs.core_events.declared.view.CoreView.{CoreView}
use Rattle.slot_store.specs.core_events.declared.view.Phase.{Phase}
use Rattle.slot_store.specs.core_events.declared.view.Phase.TheVariants as phase
use Rattle.slot_store.specs.core_events.Shows.{show_seat}
use Rattle.slot_store.specs.core_events.ShownSteps.{on_slot}
use Rattle.slot_store.specs.core_events.Views.{slot_of}
use Rattle.slot_store.specs.domain_rule.Views.{object_in, own_of}
use Rattle.slot_store.proofs.Below.domain_rule_Others.{fills_has}
use Rattle.slot_store.specs.acquire_retire.Domains.{DomainState}
use Rattle.slot_store.specs.acquire_retire.Seats.{SeatState}
use Rattle.slot_store.specs.control_word.Moves.{KnowsStill}
use Rattle.slot_store.specs.counted_handles.Handles.{Handle}
use Rattle.atomic_shared.proofs.Below.protected_loads_Telling.{holds_has}
use Rattle.slot_store.specs.declared.making.MakeError.{MakeError}
use Rattle.slot_store.specs.declared.making.MakeError.TheVariants as refused
use Rattle.slot_store.specs.Calls.{Begins, Makes, with_made}
use Rattle.slot_store.specs.Searching.{Misses}
use Rattle.directory_calls.specs.directory_law.declared.view.Rope.{Rope}
use Rattle.directory_calls.specs.directory_law.declared.view.View.{View}
use Rattle.directory_calls.specs.directory_law.Cells.{Area}
use Rattle.directory_calls.specs.directory_law.Making.{MakeReady, MakeTells, alone, make_next}
use Rattle.directory_calls.specs.directory_law.Payloads.{IsOwn}
use Rattle.directory_calls.specs.directory_law.Steps.{life_in, life_of, payload_in, payload_of}
use Rattle.directory_calls.specs.directory_law.Views.{rope}
use Rattle.directory_calls.specs.directory_protocol.Keeping.{MindsNone}
use Rattle.record_making.specs.Making.{AddsAsMakes, candidate_in, made_by, with_notes}
use Rattle.directory_calls.specs.Steps.{Leaves, handle_by, with_found}
use Rattle.directory_calls.proofs.Going.{leaves_core, leaves_none}
use Rattle.directory_calls.proofs.Parts.{Place, lift_ready, lifts, tells}

-- WHAT A SEAT HAS it knows by its own part
module _ {V : Type 0} (s : SlotId) (seat : SeatState V)
    (has : HasSlot (show_seat seat.view.core) s) where
  pub own_life : life_in (own_of seat.view) s ≡ (object_in seat.view s).life
  own_life = ap (λ b. life_of (if b then Some (object_in seat.view s) else None)) has

  pub own_payload : payload_in (own_of seat.view) s ≡ (object_in seat.view s).payload
  own_payload = ap (λ b. payload_of (if b then Some (object_in seat.view s) else None)) has

  own_object : (own_of seat.view).objects s ≡ Some (object_in seat.view s)
  own_object = ap (λ b. if b then Some (object_in seat.view s) else None) has

module _ {P V : Type 0} (fits : List ℕ → Type 0) (d : DomainState P) (l : Place V)
    (head : List ℕ) (s : SlotId) (old mid : SeatState V) (begins : Begins fits d head s old mid)
  where
    blank : mid.view.core.phase ≡ phase.Blank s
    blank = ap (λ (v : CoreView). v.phase) begins.goes.becomes.core

    act_is : on_slot plain.Make (slot_of mid.view.core.phase) ≡ plain.Make s
    act_is = ap (λ (x : Phase). on_slot plain.Make (slot_of x)) blank

    has : HasSlot (show_seat mid.view.core) s
    has = fills_has s mid.view.core blank

    -- THE DEED is ready
    pub head_ready : (owned : Owned) (free : OwnPart → PlainAct → Type 0)
        (suits : V → View → Type 0) → Frees owned free → MindsNone suits l.seen
        → ((words : List ℕ) → IsOwn words → owned.payload words) → IsOwn head
        → MakeReady (own_of mid.view) (l.seen mid.view.client)
        (on_slot plain.Make (slot_of mid.view.core.phase))
        × free (own_of mid.view) (on_slot plain.Make (slot_of mid.view.core.phase))
        × Accepts suits make_next l.seen (own_of mid.view) mid.view.client
        (on_slot plain.Make (slot_of mid.view.core.phase))
    head_ready owned free suits frees minds mine own =
        lift_ready l owned free suits frees minds MakeReady make_next (own_of mid.view)
        mid.view.client (on_slot plain.Make (slot_of mid.view.core.phase))
        (record {
          slot = s;
          act_is = act_is;
          is_own = subst IsOwn (sym (own_payload s mid has ∙ begins.filled)) own;
        })
        (subst (λ a. IsWithin owned (own_of mid.view) a) (sym act_is)
        (subst (λ o. HasOneOf owned.payload o) (sym (own_object s mid has))
        (mine (object_in mid.view s).payload (subst IsOwn (sym begins.filled) own))))
        (λ after n e in'. in')

module _ {P V : Type 0} (fits : List ℕ → Type 0) (d : DomainState P) (l : Place V) (z : Area)
    (head : List ℕ) (old new : SeatState V) where
  -- IT IS NOTED
  pub made_noted : (s : SlotId)
      → Makes fits d (lifts l make_next) (tells l (MakeTells z)) head s old new
      → 0 < times s new.view.core.owned
      → new.view.client
      ≡ l.with_seen old.view.client
      (with_notes (candidate_in s (head ∷ []) new ∷ (l.seen old.view.client).noted)
      (l.seen old.view.client))
  made_noted s makes owns =
      let mid = makes.mid in
      let late = makes.starts.walks.0 in
      let step = makes.starts.walks.1 in
      let has_new : HasSlot (show_seat new.view.core) s =
      holds_has new.view.core s (omega arith) in
      let life = own_life s new has_new in
      let payload : payload_in (own_of new.view) s ≡ head =
      own_payload s new has_new ∙ ap (λ (o : Object). o.payload) makes.object in
      let noted : alone (own_of new.view) s ≡ candidate_in s (head ∷ []) new =
      λ i. rope s (life i) (payload i ∷ []) in
      ap (λ (x : SeatState V). x.view.client) makes.starts.walks.2
      ∙ step.told.client
      ∙ ap (λ a. lifts l make_next (own_of mid.view) (own_of late.view) mid.view.client a step.word)
      (act_is fits d l head s old mid makes.begins)
      ∙ ap (λ c. l.with_seen c (with_notes (alone (own_of late.view) s ∷ (l.seen c).noted) (l.seen
      c)))
      makes.begins.goes.client
      ∙ ap (λ (x : SeatState V). l.with_seen old.view.client
      (with_notes (alone (own_of x.view) s ∷ (l.seen old.view.client).noted)
      (l.seen old.view.client))) (sym makes.starts.walks.2)
      ∙ ap (λ (e : Rope). l.with_seen old.view.client (with_notes (e ∷ (l.seen
      old.view.client).noted) (l.seen old.view.client))) noted

  pub made_all : (r : Result Handle MakeError)
      → IfOk r (λ strong. Makes fits d (lifts l make_next) (tells l (MakeTells z)) head strong.slot
      old new)
      → IfOk r (λ strong. 0 < times strong.slot new.view.core.owned)
      → IfOk r (λ strong. new.view.client
      ≡ l.with_seen old.view.client
      (with_notes (candidate_in strong.slot (head ∷ []) new ∷ (l.seen old.view.client).noted)
      (l.seen old.view.client)))
  made_all (Ok strong) makes owns = made_noted strong.slot makes owns
  made_all (Err error) makes owns = tt

  -- WHAT IS LEFT
  pub made_leaves : (r : Result Handle MakeError)
      → (r ≡ Err refused.MakesSpent → new ≡ old) → (r ≡ Err refused.AddsSpent → new ≡ old)
      → (r ≡ Err refused.Full → Misses fits d old new)
      → IfOk r (λ strong. Makes fits d (lifts l make_next) (tells l (MakeTells z)) head strong.slot
      old new)
      → KnowsStill old.view.core old new
      → Leaves (with_found (handle_by r) old.view.core.owned) old.view.core.weaks old new
  made_leaves r makes_spent adds_spent full made knows = go r refl made
    where
      same : new ≡ old → Leaves old.view.core.owned old.view.core.weaks old new
      same is = subst (λ (x : SeatState V). Leaves old.view.core.owned old.view.core.weaks old x)
          (sym is) (leaves_none old)

      go : (o : Result Handle MakeError) → r ≡ o
          → IfOk o (λ strong. Makes fits d (lifts l make_next) (tells l (MakeTells z)) head
          strong.slot old new)
          → Leaves (with_found (handle_by o) old.view.core.owned) old.view.core.weaks old new
      go (Ok strong) is makes =
          leaves_core old new (with_made strong.slot old.view.core) _ makes.core refl knows
      go (Err refused.MakesSpent) is makes = same (makes_spent is)
      go (Err refused.AddsSpent) is makes = same (adds_spent is)
      go (Err refused.Full) is makes =
          leaves_core old new old.view.core _ (full is).goes.becomes.core refl knows

  -- HOW MANY MAKES are used
  pub made_makes : (r : Result Handle MakeError)
      → (r ≡ Err refused.MakesSpent → new ≡ old) → (r ≡ Err refused.AddsSpent → new ≡ old)
      → (r ≡ Err refused.Full → Misses fits d old new)
      → IfOk r (λ strong. Makes fits d (lifts l make_next) (tells l (MakeTells z)) head strong.slot
      old new)
      → new.view.core.makes ≡ old.view.core.makes + made_by r
  made_makes r makes_spent adds_spent full made = go r refl made
    where
      same : new ≡ old → new.view.core.makes ≡ old.view.core.makes + 0
      same is = let e = ap (λ (x : SeatState V). x.view.core.makes) is in omega (arith, e)

      go : (o : Result Handle MakeError) → r ≡ o
          → IfOk o (λ strong. Makes fits d (lifts l make_next) (tells l (MakeTells z)) head
          strong.slot old new)
          → new.view.core.makes ≡ old.view.core.makes + made_by o
      go (Ok strong) is makes = ap (λ (v : CoreView). v.makes) makes.core
      go (Err refused.MakesSpent) is makes = same (makes_spent is)
      go (Err refused.AddsSpent) is makes = same (adds_spent is)
      go (Err refused.Full) is makes =
          let e = ap (λ (v : CoreView). v.makes) (full is).goes.becomes.core in omega (arith, e)

  -- and as many adds
  pub made_used : (r : Result Handle MakeError)
      → (r ≡ Err refused.MakesSpent → new ≡ old) → (r ≡ Err refused.AddsSpent → new ≡ old)
      → (r ≡ Err refused.Full → Misses fits d old new)
      → IfOk r (λ strong. Makes fits d (lifts l make_next) (tells l (MakeTells z)) head strong.slot
      old new)
      → AddsAsMakes old.view.core new.view.core
  made_used r makes_spent adds_spent full made = go r refl made
    where
      same : new ≡ old → AddsAsMakes old.view.core new.view.core
      same is = subst (λ (x : SeatState V). AddsAsMakes old.view.core x.view.core) (sym is) refl

      go : (o : Result Handle MakeError) → r ≡ o
          → IfOk o (λ strong. Makes fits d (lifts l make_next) (tells l (MakeTells z)) head
          strong.slot old new)
          → AddsAsMakes old.view.core new.view.core
      go (Ok strong) is makes =
          let a = ap (λ (v : CoreView). v.adds) makes.core in
          let m = ap (λ (v : CoreView). v.makes) makes.core in
          omega (arith, a, m)
      go (Err refused.MakesSpent) is makes = same (makes_spent is)
      go (Err refused.AddsSpent) is makes = same (adds_spent is)
      go (Err refused.Full) is makes =
          let a = ap (λ (v : CoreView). v.adds) (full is).goes.becomes.core in
          let m = ap (λ (v : CoreView). v.makes) (full is).goes.becomes.core in
          omega (arith, a, m)
