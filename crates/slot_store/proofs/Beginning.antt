-- From a claim to the start: a seat arms the slot that it has claimed, fills it and starts it.
use Rattle.std.proofs.Common.{◌≡◌, ◌≢◌, ⊎_elim, ℕ, ◌+◌, ◌<◌, ◌≤◌, List, [], ◌∷◌, ◌++◌, length, refl, ap, sym, ◌∙◌, subst, arith, append_assoc}
use Rattle.std.specs.Prelude.{None}
use Rattle.std.proofs.lemmas.Bool.{cases_lt}
use Rattle.std.proofs.lemmas.Bool.Decides.{nat_tests}
use Rattle.protocol_pairs.specs.plain_state.declared.slot.SlotId.{SlotId}
use Rattle.protocol_pairs.specs.plain_state.Lists.{times}
use Rattle.protocol_pairs.specs.plain_state.References.{held_in}
use Rattle.protocol_pairs.specs.plain_protocol.Owns.{HasSlot}
use Rattle.claim_law.specs.core_events.declared.act.Act.TheVariants as act
use Rattle.claim_law.specs.core_events.declared.outcome.Outcome.{Outcome}
use Rattle.claim_law.specs.core_events.declared.outcome.Outcome.TheVariants as outcome
use Rattle.claim_law.specs.core_events.declared.shape.Shape.{Shape}
use Rattle.claim_law.specs.core_events.declared.view.CoreView.{CoreView}
use Rattle.claim_law.specs.core_events.declared.view.Move.{Move}
use Rattle.claim_law.specs.core_events.declared.view.Phase.{Phase}
use Rattle.claim_law.specs.core_events.declared.view.Phase.TheVariants as phase
use Rattle.claim_law.specs.core_events.Counts.{baring}
use Rattle.claim_law.specs.core_events.Runs.{Core, view_at}
use Rattle.claim_law.specs.core_events.Shows.{show_seat}
use Rattle.claim_law.specs.core_events.Views.{about, held_times, slot_of}
use Rattle.claim_law.specs.core_law.Sound.{Sound}
use Rattle.claim_law.proofs.Below.core_law_Held.{held_taken}
use Rattle.claim_law.proofs.Below.core_law_Kit.{one_same, total_at}
use Rattle.claim_law.proofs.Below.core_law_Parts.{sound_good}
use Rattle.retiring_stores.proofs.Below.domain_rule_Others.{has_there}
use Rattle.retiring_stores.specs.acquire_retire.Calls.{IsOf, IsSameView, Steps, same_view}
use Rattle.retiring_stores.specs.acquire_retire.Collecting.{move}
use Rattle.retiring_stores.specs.acquire_retire.Domains.{DomainState}
use Rattle.retiring_stores.specs.acquire_retire.Seats.{SeatState}
use Rattle.retiring_stores.specs.control_word.Resting.{IsAtRest}
use Rattle.retiring_stores.proofs.Below.control_word_Becoming.{Comes, bare, comes_more, comes_one, walks_table}
use Rattle.slot_store.specs.Calls.{Begins, Fills, begun_by, filled_by, with_blank}
use Rattle.slot_store.specs.Searching.{Claims, taken_by, with_bare}
use Rattle.retiring_stores.proofs.Below.control_word_Finding.{sound_before}
use Rattle.slot_store.proofs.Claims.{comes_of, goes_of}

none_held : (x : SlotId) → held_in x None ≡ 0
unfolding held_in
none_held x = refl

-- what an idle seat has it holds, or is to destroy
idle_has : (v : CoreView) (x : SlotId) → v.phase ≡ phase.Idle → HasSlot (show_seat v) x
    → 0 < held_times x v + times x v.dying
idle_has v x idle has =
    let so : HasSlot (show_seat (record v { phase = phase.Idle })) x =
    subst (λ (q : Phase). HasSlot (show_seat (record v { phase = q })) x) idle has in
    let none = none_held x in grind (arith, nat_tests)

has_such : (v : CoreView) (x : SlotId) → 0 < held_times x v + times x v.dying
    → HasSlot (show_seat v) x
has_such v x some = grind (arith, nat_tests)

-- it has that also while it claims and fills a slot
pub has_while : (v w : CoreView) (x : SlotId) (m : ℕ) (p : Phase) → v.phase ≡ phase.Idle
    → bare w ≡ bare (record v { makes = m; phase = p }) → HasSlot (show_seat v) x
    → HasSlot (show_seat w) x
has_while v w x m p idle is has =
    has_such w x
    (subst (λ (n : ℕ). 0 < n)
    (sym (ap (λ (u : CoreView). held_times x u + times x u.dying) is)) (idle_has v x idle has))

-- a slot that a seat has claimed and is to arm is none of those
bare_apart : (z : Shape) (c : Core) (n : ℕ) → Sound z c → n < length c.views → (s x : SlotId)
    → (view_at c n).phase ≡ phase.Bare s
    → 0 < held_times x (view_at c n) + times x (view_at c n).dying → x.0 ≢ s.0
bare_apart z c n so there s x bares some same =
    let mine = view_at c n in
    let seats = so.views in
    let hs = has_there z c so n x there (has_such mine x some) in
    let named : baring x mine.phase ≡ 1 =
    ap (baring x) bares ∙ one_same x s (sym same) in
    let bearers = total_at (λ (u : CoreView). baring x u.phase) c.views n there in
    ⊎_elim
    (λ (held : 0 < held_times x mine).
    let none = held_taken z c n x so (omega arith) hs held in omega arith)
    (λ (not : held_times x mine ≤ 0).
    let dying = total_at (λ (u : CoreView). times x u.dying) c.views n there in
    let none = (((sound_good z c so).enders x hs).dying (omega arith)).2 in omega arith)
    (cases_lt 0 (held_times x mine))

module _ {P V : Type 0} {fits : List ℕ → Type 0} (d : DomainState P) (s : SlotId)
    (old mid : SeatState V) (rest : IsAtRest d old) (claims : Claims fits d old mid s)
  where
    bares : mid.view.core ≡ record (with_bare s old.view.core) { trail = mid.view.core.trail }
    bares =
        claims.goes.becomes.core
        ∙ ap (λ (t : List Move). record (with_bare s old.view.core) { trail = t })
        (sym (ap (λ (v : CoreView). v.trail) claims.goes.becomes.core))

    pub is_of_bare : IsOf d mid
    is_of_bare = (
      walks_table fits d same_view IsSameView
          (taken_by claims.tries ++ move (act.Claim s) outcome.Claimed ∷ []) old mid
          claims.goes.becomes.walks
          ∙ rest.of_domain.0,
      ap (λ (v : CoreView). v.shape) bares ∙ rest.of_domain.1,
    )

    still_has : (x : SlotId) → HasSlot (show_seat old.view.core) x → HasSlot (show_seat mid.view.core) x
    still_has x =
        has_while old.view.core mid.view.core x (old.view.core.makes + 1) (phase.Bare s) rest.idle.0
        (ap bare bares)

    module _ (blank : SeatState V) (o : Outcome)
        (arm : Steps fits d same_view IsSameView act.Arm mid blank o) where
      pub apart : (x : SlotId) → HasSlot (show_seat old.view.core) x → x.0 ≢ s.0
      apart x has =
          let h = arm.told.happened in
          bare_apart d.shape h.before mid.view.core.seat (sound_before arm.told) h.enabled.0 s x
          (ap (λ (v : CoreView). v.phase) (sym h.view ∙ bares))
          (subst (λ (v : CoreView). 0 < held_times x v + times x v.dying) h.view
          (subst (λ (n : ℕ). 0 < n)
          (sym (ap (λ (v : CoreView). held_times x v + times x v.dying) bares))
          (idle_has old.view.core x rest.idle.0 has)))

      armed : Comes fits d (move act.Arm outcome.Plain ∷ []) (with_blank s old.view.core)
          old.view.core mid blank
      armed =
          comes_one d act.Arm mid blank outcome.Plain 0 (with_blank s old.view.core) old.view.core
          (subst (λ (x : Outcome). Steps fits d same_view IsSameView act.Arm mid blank x) arm.answers
          arm)
          refl
          (ap (λ (v : CoreView). bare (record v { phase = about phase.Blank (slot_of v.phase) })) bares)
          refl still_has (λ w x it. refl)

      pub is_blank : blank.view.core.phase ≡ phase.Blank s
      is_blank = ap (λ (v : CoreView). v.phase) armed.by.core

      pub is_of_blank : IsOf d blank
      is_of_blank = (arm.table ∙ is_of_bare.0, ap (λ (v : CoreView). v.shape) armed.by.core ∙ rest.of_domain.1)

      module _ (payload : List ℕ) (full : SeatState V) (fills : Fills fits d payload s blank full) where
        filled : Comes fits d (filled_by payload) (with_blank s old.view.core) old.view.core blank full
        filled = record {
          by = record {
            walks = fills.becomes.walks;
            core = fills.becomes.core
                ∙ ap (λ (v : CoreView). record v { trail = blank.view.core.trail ++ filled_by payload })
                armed.by.core;
            cleared = fills.becomes.cleared;
          };
          client = fills.client;
          knows = λ x has. fills.others x (apart x has)
              (has_while old.view.core blank.view.core x (old.view.core.makes + 1) (phase.Blank s)
              rest.idle.0 (ap bare armed.by.core) has);
        }

        pub begins : Begins fits d payload s old full
        begins = record {
          tries = claims.tries;
          in_turn = claims.in_turn;
          few = let few = claims.few in omega arith;
          next = claims.next;
          goes = goes_of d (begun_by claims.tries s payload) (with_blank s old.view.core) old full
              (subst (λ (ms : List Move). Comes fits d ms (with_blank s old.view.core) old.view.core
              old full)
              (append_assoc (taken_by claims.tries) (move (act.Claim s) outcome.Claimed ∷ [])
              (move act.Arm outcome.Plain ∷ filled_by payload))
              (comes_more d (taken_by claims.tries ++ move (act.Claim s) outcome.Claimed ∷ [])
              (move act.Arm outcome.Plain ∷ filled_by payload) (with_bare s old.view.core)
              (with_blank s old.view.core) old.view.core old mid full
              (comes_of d _ _ old mid claims.goes)
              (comes_more d (move act.Arm outcome.Plain ∷ []) (filled_by payload)
              (with_blank s old.view.core) (with_blank s old.view.core) old.view.core mid blank full
              armed filled)));
          filled = fills.filled;
        }

        pub is_of_full : IsOf d full
        is_of_full = (
          walks_table fits d same_view IsSameView (filled_by payload) blank full fills.becomes.walks ∙ is_of_blank.0,
          ap (λ (v : CoreView). v.shape) fills.becomes.core ∙ is_of_blank.1,
        )
