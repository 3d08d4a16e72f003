-- A search, claim by claim.
use Rattle.std.proofs.Common.{◌≡◌, ◌≢◌, ℕ, ◌<◌, Bool, true, false, List, [], ◌∷◌, ◌++◌, append_assoc, refl, ap, sym, ◌∙◌, subst, arith}
use Rattle.std.specs.Prelude.{◌==◌, if◌then◌else◌, Option, None, Some}
use Rattle.std.proofs.lemmas.Bool.Decides.{nat_tests}
use Rattle.std.proofs.lemmas.List.{map-append}
use Rattle.std.proofs.lemmas.List.Elements.{All-append, All-nil, All-cons}
use Rattle.epoch_domain.specs.plain_protocol.plain_state.declared.slot.SlotId.{SlotId}
use Rattle.epoch_domain.specs.plain_protocol.Owns.{HasSlot}
use Rattle.epoch_domain.specs.epoch_core.declared.act.EpochAct.TheVariants as act
use Rattle.epoch_domain.specs.epoch_core.declared.outcome.EpochOutcome.{EpochOutcome}
use Rattle.epoch_domain.specs.epoch_core.declared.outcome.EpochOutcome.TheVariants as outcome
use Rattle.epoch_domain.specs.epoch_core.declared.view.EpochMove.{EpochMove}
use Rattle.epoch_domain.specs.epoch_core.declared.view.EpochView.{EpochView}
use Rattle.epoch_domain.specs.epoch_core.Shows.{show_seat}
use Rattle.epoch_domain.specs.epoch_core.Steps.{HasAdd, HasMake}
use Rattle.epoch_domain.specs.epoch_core.Words.{free_word}
use Rattle.epoch_domain.specs.Calls.{IsOf, IsSameView, Steps, same_view}
use Rattle.epoch_domain.specs.Domains.{DomainState}
use Rattle.epoch_domain.specs.Seats.{SeatState}
use Rattle.epoch_refs.specs.Searching.{Claims, Goes, Misses, Searches, Try, taken_by, tried, with_blank}
use Rattle.epoch_refs.specs.Walks.{IsAtRest, move}
use Rattle.epoch_refs.proofs.Going.{goes_nowhere, goes_on, one_more, walks_table}

-- what an answer of a claim says of the word that it found
not_free : (b : Bool) (w x : ℕ)
    → (if b then outcome.Claimed else outcome.Taken w) ≡ outcome.Taken x
    → (b ≡ false) × (w ≡ x)
not_free true w x is = absurd (cc (is))
not_free false w x is = (refl, cc (is))

or_claimed : (b : Bool) (w : ℕ)
    → ((x : ℕ) → (if b then outcome.Claimed else outcome.Taken w) ≢ outcome.Taken x) → b ≡ true
or_claimed true w not = refl
or_claimed false w not = absurd (not w refl)

module _ {P V : Type 0} (fits : List ℕ → Type 0) (d : DomainState P) where
  -- a seat that has claimed in vain is as it was, but for its trail
  module _ (order : List SlotId) (old mid : SeatState V) (misses : Misses fits d order old mid)
    where
      pub misses_rest : IsAtRest d old → IsAtRest d mid
      misses_rest rest = (
        (
          walks_table fits d (taken_by misses.tries) old mid misses.goes.walks ∙ rest.0.0,
          ap (λ (v : EpochView). v.shape) misses.goes.core ∙ rest.0.1,
        ),
        (
          ap (λ (v : EpochView). v.phase) misses.goes.core ∙ rest.1.0,
          ap (λ (v : EpochView). v.left) misses.goes.core ∙ rest.1.1,
        ),
      )

      pub misses_has : (x : SlotId) → HasSlot (show_seat old.view.core) x
          → HasSlot (show_seat mid.view.core) x
      misses_has x = subst (λ (v : EpochView). HasSlot (show_seat v) x) (sym misses.goes.core)

      pub misses_quota : HasMake old.view.core × HasAdd old.view.core
          → HasMake mid.view.core × HasAdd mid.view.core
      misses_quota = subst (λ (v : EpochView). HasMake v × HasAdd v) (sym misses.goes.core)

      same_trail : mid.view.core ≡ record old.view.core { trail = mid.view.core.trail }
      same_trail =
          misses.goes.core
          ∙ ap (λ (t : List EpochMove). record old.view.core { trail = t })
          (sym (ap (λ (v : EpochView). v.trail) misses.goes.core))

      -- one claim more
      module _ (s : SlotId) (new : SeatState V) (o : EpochOutcome)
          (step : Steps fits d same_view IsSameView (act.Claim s) mid new o) where
        -- that found the slot taken
        pub misses_one : (word : ℕ) → o ≡ outcome.Taken word
            → Misses fits d (order ++ s ∷ []) old new
        misses_one word is =
            let found = not_free (step.word == free_word) step.word word (sym step.answers ∙ is) in
            let t : Try = record { slot = s; word = word } in
            record {
              tries = misses.tries ++ t ∷ [];
              in_turn = map-append (λ (x : Try). x.slot) misses.tries (t ∷ [])
                  ∙ ap (λ (xs : List SlotId). xs ++ s ∷ []) misses.in_turn;
              words = All-append (λ (x : Try). x.word ≢ free_word) misses.tries (t ∷ []) misses.words
                  (All-cons (λ (x : Try). x.word ≢ free_word) t [] other
                  (All-nil (λ (x : Try). x.word ≢ free_word)));
              goes = subst (λ (ms : List EpochMove). Goes fits d ms old.view.core old new)
                  (sym (map-append (λ (x : Try). move (act.Claim x.slot) (outcome.Taken x.word))
                  misses.tries (t ∷ [])))
                  (one_more fits d (taken_by misses.tries) old.view.core old.view.core old mid new
                  misses.goes (act.Claim s) (outcome.Taken word)
                  (subst (Steps fits d same_view IsSameView (act.Claim s) mid new) is step)
                  (rw found.0 same_trail) misses_has (λ x has y. refl));
            }
          where
            other : word ≢ free_word
            other same =
                let found = not_free (step.word == free_word) step.word word (sym step.answers ∙ is) in
                let not = found.0 in let w = found.1 in grind (arith, nat_tests)

        -- that found it free
        pub misses_claims : ((word : ℕ) → o ≢ outcome.Taken word) → (untried all : List SlotId)
            → order ++ s ∷ untried ≡ all → s.0 < d.shape.slots → Claims fits d all old new s
        misses_claims not untried all is there =
            let free = or_claimed (step.word == free_word) step.word
            (λ x e. not x (step.answers ∙ e)) in
            let says : o ≡ outcome.Claimed = step.answers ∙ rw free refl in
            record {
              tries = misses.tries;
              untried = untried;
              in_turn = ap (λ (xs : List SlotId). xs ++ s ∷ untried) misses.in_turn ∙ is;
              words = misses.words;
              there = there;
              goes = one_more fits d (taken_by misses.tries) old.view.core
                  (with_blank s old.view.core) old mid new misses.goes (act.Claim s) outcome.Claimed
                  (subst (Steps fits d same_view IsSameView (act.Claim s) mid new) says step)
                  (rw free (ap (with_blank s) same_trail)) misses_has (λ x has y. refl);
            }

      -- more slots that were missed
      module _ (more : List SlotId) (new : SeatState V) where
        pub misses_more : Misses fits d more mid new → Misses fits d (order ++ more) old new
        misses_more next = record {
          tries = misses.tries ++ next.tries;
          in_turn = map-append (λ (x : Try). x.slot) misses.tries next.tries
              ∙ (λ i. misses.in_turn i ++ next.in_turn i);
          words = All-append (λ (x : Try). x.word ≢ free_word) misses.tries next.tries misses.words
              next.words;
          goes = subst (λ (ms : List EpochMove). Goes fits d ms old.view.core old new)
              (sym (map-append (λ (x : Try). move (act.Claim x.slot) (outcome.Taken x.word))
              misses.tries next.tries))
              (goes_on fits d (taken_by misses.tries) old.view.core old.view.core old mid new
              misses.goes (taken_by next.tries) next.goes.walks
              (next.goes.core ∙ ap (λ (v : EpochView).
              record v { trail = mid.view.core.trail ++ taken_by next.tries }) misses.goes.core)
              next.goes.client (λ x has. next.goes.knows x (misses_has x has)));
        }

        -- and then one that was free
        pub then_claims : (s : SlotId) → Claims fits d more mid new s
            → Claims fits d (order ++ more) old new s
        then_claims s next = record {
          tries = misses.tries ++ next.tries;
          untried = next.untried;
          in_turn = ap (λ (xs : List SlotId). xs ++ s ∷ next.untried)
              (map-append (λ (x : Try). x.slot) misses.tries next.tries)
              ∙ (append_assoc (tried misses.tries) (tried next.tries) (s ∷ next.untried)
              ∙ (λ i. misses.in_turn i ++ next.in_turn i));
          words = All-append (λ (x : Try). x.word ≢ free_word) misses.tries next.tries misses.words
              next.words;
          there = next.there;
          goes = subst (λ (ms : List EpochMove). Goes fits d ms (with_blank s old.view.core) old new)
              (sym (ap (λ (ms : List EpochMove). ms ++ move (act.Claim s) outcome.Claimed ∷ [])
              (map-append (λ (x : Try). move (act.Claim x.slot) (outcome.Taken x.word))
              misses.tries next.tries)
              ∙ append_assoc (taken_by misses.tries) (taken_by next.tries)
              (move (act.Claim s) outcome.Claimed ∷ [])))
              (goes_on fits d (taken_by misses.tries) old.view.core (with_blank s old.view.core) old
              mid new misses.goes (taken_by next.tries ++ move (act.Claim s) outcome.Claimed ∷ [])
              next.goes.walks
              (next.goes.core ∙ ap (λ (v : EpochView). record (with_blank s v) {
                trail =
                    mid.view.core.trail
                    ++ (taken_by next.tries ++ move (act.Claim s) outcome.Claimed ∷ []);
              }) misses.goes.core)
              next.goes.client (λ x has. next.goes.knows x (misses_has x has)));
        }

  -- what a search that goes on has found
  pub searches_more : (order more : List SlotId) (old mid new : SeatState V)
      → Misses fits d order old mid → (o : Option SlotId) → Searches fits d more mid new o
      → Searches fits d (order ++ more) old new o
  searches_more order more old mid new misses None next =
      misses_more order old mid misses more new next
  searches_more order more old mid new misses (Some s) next =
      then_claims order old mid misses more new s next

  pub misses_none : (old : SeatState V) → Misses fits d [] old old
  misses_none old = record {
    tries = [];
    in_turn = refl;
    words = All-nil (λ (x : Try). x.word ≢ free_word);
    goes = goes_nowhere fits d old;
  }

  -- a seat that has claimed a slot is still of the domain
  pub claims_of : (order : List SlotId) (old new : SeatState V) (s : SlotId)
      → Claims fits d order old new s → IsOf d old → IsOf d new
  claims_of order old new s claims of = (
    walks_table fits d (taken_by claims.tries ++ move (act.Claim s) outcome.Claimed ∷ []) old new
        claims.goes.walks
        ∙ of.0,
    ap (λ (v : EpochView). v.shape) claims.goes.core ∙ of.1,
  )

  -- a slot that was free is so with more slots left
  pub claims_before : (order more : List SlotId) (old new : SeatState V) (s : SlotId)
      → Claims fits d order old new s → Claims fits d (order ++ more) old new s
  claims_before order more old new s claims = record {
    tries = claims.tries;
    untried = claims.untried ++ more;
    in_turn = sym (append_assoc (tried claims.tries) (s ∷ claims.untried) more)
        ∙ ap (λ (xs : List SlotId). xs ++ more) claims.in_turn;
    words = claims.words;
    there = claims.there;
    goes = claims.goes;
  }
