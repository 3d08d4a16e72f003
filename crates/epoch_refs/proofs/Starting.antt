-- From a claim to the start: a seat fills the slot that it has claimed, and starts it.
use Rattle.std.proofs.Common.{◌≡◌, ◌≢◌, ◌⊎◌, inl, inr, ⊎_elim, ℕ, ◌+◌, ◌<◌, true, false, List, [], ◌∷◌, ◌++◌, append_assoc, length, refl, ap, sym, ◌∙◌, subst, arith}
use Rattle.std.specs.Prelude.{Option, None, Some}
use Rattle.std.proofs.lemmas.Bool.Decides.{nat_tests}
use Rattle.std.proofs.lemmas.List.{length-append, length-map}
use Rattle.epoch_domain.proofs.Below.core_law_Kit.{one_same, times_push}
use Rattle.epoch_domain.proofs.Below.epoch_core_Held.{held_of, held_refs, named_in_range}
use Rattle.epoch_domain.proofs.Below.epoch_core_Keeps.{history_sound}
use Rattle.epoch_domain.proofs.Below.epoch_core_Kit.{total_at}
use Rattle.epoch_domain.proofs.Below.epoch_rule_Others.{fills_has, has_how, held_has, held_counts}
use Rattle.epoch_domain.specs.domain_rule.Told.{changed_object}
use Rattle.epoch_domain.specs.plain_protocol.plain_state.declared.act.PlainAct.{PlainAct}
use Rattle.epoch_domain.specs.plain_protocol.plain_state.declared.act.PlainAct.TheVariants as plain
use Rattle.epoch_domain.specs.plain_protocol.plain_state.declared.slot.SlotId.{SlotId}
use Rattle.epoch_domain.specs.plain_protocol.plain_state.Lists.{is_slot, times}
use Rattle.epoch_domain.specs.plain_protocol.plain_state.State.{Plain, slot_at}
use Rattle.epoch_domain.specs.plain_protocol.Owns.{HasSlot, Object, OwnPart}
use Rattle.epoch_domain.specs.epoch_core.declared.act.EpochAct.TheVariants as act
use Rattle.epoch_domain.specs.epoch_core.declared.outcome.EpochOutcome.{EpochOutcome}
use Rattle.epoch_domain.specs.epoch_core.declared.outcome.EpochOutcome.TheVariants as outcome
use Rattle.epoch_domain.specs.epoch_core.declared.shape.EpochShape.{EpochShape}
use Rattle.epoch_domain.specs.epoch_core.declared.view.EpochMove.{EpochMove}
use Rattle.epoch_domain.specs.epoch_core.declared.view.EpochPhase.TheVariants as phase
use Rattle.epoch_domain.specs.epoch_core.declared.view.EpochView.{EpochView}
use Rattle.epoch_domain.specs.epoch_core.Counts.{adds_used, filling}
use Rattle.epoch_domain.specs.epoch_core.Runs.{Core, view_at}
use Rattle.epoch_domain.specs.epoch_core.Shows.{show_seat, shows}
use Rattle.epoch_domain.specs.epoch_core.Slots.{numbers}
use Rattle.epoch_domain.specs.epoch_core.Sound.{Sound}
use Rattle.epoch_domain.specs.epoch_core.Steps.{moved}
use Rattle.epoch_domain.specs.epoch_core.Views.{Holds, slot_of}
use Rattle.epoch_domain.specs.epoch_rule.Told.{make_of}
use Rattle.epoch_domain.specs.epoch_rule.Views.{object_in}
use Rattle.epoch_domain.specs.Calls.{IsOf, Steps}
use Rattle.epoch_domain.specs.Domains.{DomainState}
use Rattle.epoch_domain.specs.Leavings.{KnowsSame}
use Rattle.epoch_domain.specs.Seats.{SeatState}
use Rattle.epoch_refs.specs.Making.{Begins, Fills, Makes, begun_by, filled_by, with_made}
use Rattle.epoch_refs.specs.Searching.{Claims, Goes, IsFull, SearchesAll, Try, in_order, taken_by, tried, with_blank}
use Rattle.epoch_refs.specs.Walks.{IsAtRest, move}
use Rattle.epoch_refs.proofs.Going.{goes_on, walks_table}
use Rattle.epoch_refs.proofs.SearchOrder.{as_many, each_once}
use Rattle.epoch_refs.proofs.Searching.{claims_of}

-- what a seat has beside what it fills
abbrev pub HasOther : EpochView → SlotId → Type 0
HasOther v x = Holds v x ⊎ (0 < times x v.dying)

idle_has : (v : EpochView) (x : SlotId) → v.phase ≡ phase.Idle → HasSlot (show_seat v) x
    → HasOther v x
idle_has v x idle has = ⊎_elim (λ (held : Holds v x). inl held)
    (λ rest. ⊎_elim (λ (dies : 0 < times x v.dying). inr dies)
    (λ (fills : 0 < filling x v.phase).
    let none : filling x v.phase ≡ 0 = ap (filling x) idle in absurd (omega arith))
    rest)
    (has_how x v has)

other_has : (v : EpochView) (x : SlotId) → HasOther v x → HasSlot (show_seat v) x
other_has v x other = ⊎_elim (λ (held : Holds v x). held_has x v held)
    (λ (dies : 0 < times x v.dying).
    let g = held_counts x v in grind (arith, nat_tests))
    other

-- a slot that a seat fills is none of the others that it has
blank_apart : (z : EpochShape) (c : Core) (n : ℕ) → Sound z c → n < length c.views → (s x : SlotId)
    → (view_at c n).phase ≡ phase.Blank s → HasOther (view_at c n) x → x.0 ≢ s.0
blank_apart z c n so inside s x fills other same =
    let views = so.views in
    let one' = one_same x s (sym same) in
    let mine : filling x (view_at c n).phase ≡ 1 = ap (filling x) fills ∙ one' in
    let there = named_in_range z n (view_at c n) x (so.seats n (omega arith)) (omega arith) in
    let among = total_at (λ (u : EpochView). filling x u.phase) c.views n inside in
    let law = held_of (adds_used c) (numbers z c x) (so.slots x there) (omega arith) in
    let once = law.one in
    let none = law.refs in ⊎_elim
    (λ (held : Holds (view_at c n) x).
    let refs = held_refs z c n x so (omega arith) held in absurd (omega arith))
    (λ (dies : 0 < times x (view_at c n).dying).
    let d = total_at (λ (u : EpochView). times x u.dying) c.views n inside in absurd (omega arith))
    other

make_takes : (s : SlotId) (o : Object)
    → changed_object (plain.Make s) s o ≡ record o { life = o.life + 1 }
make_takes s o =
    let same : s.0 ≡ s.0 = refl in
    let itself : is_slot s s ≡ true = grind (arith, nat_tests) in rw itself refl

make_leaves : (s x : SlotId) (o : Object) → x.0 ≢ s.0 → changed_object (plain.Make s) x o ≡ o
make_leaves s x o apart =
    let other : is_slot s x ≡ false = grind (arith, nat_tests) in rw other refl

module _ {P V : Type 0} (fits : List ℕ → Type 0) (d : DomainState P) where
  -- a search that claimed nothing found each slot of the domain taken
  pub full : (old new : SeatState V) → SearchesAll fits d old new None → IsFull fits d old new
  full old new looked =
      let misses = looked.2 in
      let size = length-map misses.tries (λ (t : Try). t.slot) in
      let same = ap (λ (xs : List SlotId). length xs) misses.in_turn in
      let all = as_many d.shape looked.0 looked.1 in
      record {
        first = looked.0;
        inside = looked.1;
        misses = misses;
        each = λ s there.
            ap (times s) misses.in_turn ∙ each_once d.shape looked.0 looked.1 s there;
        few = omega arith;
      }

  module _ (s : SlotId) (old claimed : SeatState V) (rest : IsAtRest d old)
      (looked : SearchesAll fits d old claimed (Some s)) where
    abbrev first : ℕ
    first = looked.0

    abbrev claims : Claims fits d (in_order d.shape first) old claimed s
    claims = looked.2

    pub is_of_claimed : IsOf d claimed
    is_of_claimed = claims_of fits d (in_order d.shape first) old claimed s claims rest.0

    pub is_blank : claimed.view.core.phase ≡ phase.Blank s
    is_blank = ap (λ (v : EpochView). v.phase) claims.goes.core

    few : length claims.tries < d.shape.slots
    few =
        let size : length (tried claims.tries) ≡ length claims.tries =
        length-map claims.tries (λ (t : Try). t.slot) in
        let parts : length (tried claims.tries ++ s ∷ claims.untried)
        ≡ length (tried claims.tries) + length (s ∷ claims.untried) =
        length-append (tried claims.tries) (s ∷ claims.untried) in
        let same : length (tried claims.tries ++ s ∷ claims.untried)
        ≡ length (in_order d.shape first) =
        ap (λ (xs : List SlotId). length xs) claims.in_turn in
        let all = as_many d.shape first looked.1 in omega arith

    other_still : (x : SlotId) → HasSlot (show_seat old.view.core) x → HasOther claimed.view.core x
    other_still x has =
        subst (λ (v : EpochView). HasOther v x) (sym claims.goes.core)
        (idle_has old.view.core x rest.1.0 has)

    module _ (payload : List ℕ) (filled : SeatState V) (fills : Fills fits d payload s claimed filled)
      where
        -- the slot is none of those that the seat had
        pub apart : (x : SlotId) → HasSlot (show_seat old.view.core) x → x.0 ≢ s.0
        apart x has =
            let h = fills.walks.1.told.happened in
            let so = history_sound d.shape d.quotas h.events h.before h.shape h.quotas h.history in
            blank_apart d.shape h.before claimed.view.core.seat so h.enabled.0 s x
            (ap (λ (v : EpochView). v.phase) (sym h.view) ∙ is_blank)
            (subst (λ (v : EpochView). HasOther v x) h.view (other_still x has))

        pub begins : Begins fits d payload s old filled
        begins = record {
          first = first;
          inside = looked.1;
          claimed = claimed;
          claims = claims;
          few = few;
          goes = subst (λ (ms : List EpochMove).
              Goes fits d ms (with_blank s old.view.core) old filled)
              (append_assoc (taken_by claims.tries) (move (act.Claim s) outcome.Claimed ∷ [])
              (filled_by payload))
              (goes_on fits d (taken_by claims.tries ++ move (act.Claim s) outcome.Claimed ∷ [])
              (with_blank s old.view.core) (with_blank s old.view.core) old claimed filled claims.goes
              (filled_by payload) fills.walks
              (fills.core ∙ ap (λ (v : EpochView).
              record v { trail = claimed.view.core.trail ++ filled_by payload }) claims.goes.core)
              fills.client
              (λ x has. fills.others x (apart x has) (other_has claimed.view.core x (other_still x has))));
          filled = fills.filled;
        }

        pub is_of_filled : IsOf d filled
        is_of_filled = (
          walks_table fits d (filled_by payload) claimed filled fills.walks ∙ is_of_claimed.0,
          ap (λ (v : EpochView). v.shape) fills.core ∙ is_of_claimed.1,
        )

  module _ {next : OwnPart → OwnPart → V → PlainAct → ℕ → V}
      {allows : Plain → Plain → ℕ → V → V → Type 0} (payload : List ℕ) (s : SlotId)
      (old mid new : SeatState V) (rest : IsAtRest d old) (begun : Begins fits d payload s old mid)
      (o : EpochOutcome) (step : Steps fits d next allows act.Start mid new o) where
    starts : Steps fits d next allows act.Start mid new outcome.Plain
    starts = subst (Steps fits d next allows act.Start mid new) step.answers step

    pub mid_blank : mid.view.core.phase ≡ phase.Blank s
    mid_blank = ap (λ (v : EpochView). v.phase) begun.goes.core

    object_then : (x : SlotId) → HasSlot (show_seat mid.view.core) x
        → object_in new.view x ≡ changed_object (plain.Make s) x (object_in mid.view x)
    object_then x has =
        starts.told.objects x has
        ∙ ap (λ (y : Option SlotId). changed_object (make_of y) x (object_in mid.view x))
        (ap slot_of mid_blank)

    pub makes : Makes fits d next allows payload s old new
    makes = record {
      mid = mid;
      begins = begun;
      starts = starts;
      core = starts.told.core
          ∙ (ap (moved d.shape act.Start starts.word) begun.goes.core
          ∙ (λ i. record (with_made s old.view.core) {
            phase = sym rest.1.0 i;
            trail =
                append_assoc old.view.core.trail (begun_by begun.claims.tries s payload)
                (move act.Start outcome.Plain ∷ []) i;
          }));
      object =
          object_then s (fills_has s mid.view.core mid_blank) ∙ make_takes s (object_in mid.view s)
          ∙ (λ i. record { life = lived i; payload = begun.filled i });
    }
      where
        lived : (object_in mid.view s).life + 1
            ≡ (slot_at (shows d.shape starts.told.happened.before) s).life + 1
        lived =
            ap (λ (x : Object). x.life + 1)
            (starts.told.said.objects s (fills_has s mid.view.core mid_blank))

    pub still_known : ((x : SlotId) → HasSlot (show_seat old.view.core) x → x.0 ≢ s.0)
        → KnowsSame old.view new.view
    still_known off x has =
        object_then x (other_has mid.view.core x
        (subst (λ (v : EpochView). HasOther v x) (sym begun.goes.core)
        (idle_has old.view.core x rest.1.0 has)))
        ∙ make_leaves s x (object_in mid.view x) (off x has) ∙ begun.goes.knows x has

    pub rests_again : IsAtRest d new
    rests_again = (
      (
        starts.table
            ∙ (walks_table fits d (begun_by begun.claims.tries s payload) old mid begun.goes.walks
            ∙ rest.0.0),
        ap (λ (v : EpochView). v.shape) makes.core ∙ rest.0.1,
      ),
      (
        ap (λ (v : EpochView). v.phase) makes.core ∙ rest.1.0,
        ap (λ (v : EpochView). v.left) makes.core ∙ rest.1.1,
      ),
    )

    pub owns_it : 0 < times s new.view.core.owned
    owns_it =
        let owned = ap (λ (v : EpochView). times s v.owned) makes.core in
        let more = times_push s s old.view.core.owned in
        let same = one_same s s refl in omega arith
