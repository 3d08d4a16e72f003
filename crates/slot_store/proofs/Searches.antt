-- A search, turn by turn.
use Rattle.std.proofs.Common.{◌≡◌, ◌≢◌, inl, inr, ⊎_elim, ℕ, ◌+◌, ◌-◌, ◌/◌, ◌%◌, ◌^◌, ◌<◌, ◌≤◌, Bool, true, false, List, [], ◌∷◌, length, refl, ap, sym, ◌∙◌, subst, arith}
use Rattle.std.specs.Prelude.{◌==◌, if◌then◌else◌}
use Rattle.std.proofs.lemmas.Bool.Decides.{nat_tests}
use Rattle.std.proofs.lemmas.Nat.Bits.{bit_at-lt}
use Rattle.protocol_pairs.specs.plain_state.declared.slot.SlotId.{SlotId}
use Rattle.claim_law.specs.core_events.declared.act.Act.TheVariants as act
use Rattle.claim_law.specs.core_events.declared.outcome.Outcome.{Outcome}
use Rattle.claim_law.specs.core_events.declared.outcome.Outcome.TheVariants as outcome
use Rattle.claim_law.specs.core_events.declared.view.CoreView.{CoreView}
use Rattle.claim_law.specs.core_events.Steps.{HasAdd, HasMake, May}
use Rattle.claim_law.specs.core_events.Words.{bit_in}
use Rattle.claim_law.proofs.Below.core_law_Kit.{slot_eq}
use Rattle.retiring_stores.specs.acquire_retire.Calls.{IsSameView, Steps, same_view}
use Rattle.retiring_stores.specs.acquire_retire.Collecting.{move}
use Rattle.retiring_stores.specs.acquire_retire.Domains.{DomainState}
use Rattle.retiring_stores.specs.acquire_retire.Seats.{SeatState}
use Rattle.retiring_stores.specs.control_word.Resting.{IsAtRest}
use Rattle.retiring_stores.proofs.Below.control_word_Becoming.{comes_more, rest_after}
use Rattle.slot_store.specs.Searching.{AreInTurn, Claims, Goes, IsNext, IsShownTaken, Misses, Try, bits_of, latest, taken_by, with_bare}
use Rattle.slot_store.specs.Turns.{IsAtTurn, newest}
use Rattle.slot_store.proofs.Claims.{claim_missed, claim_won, comes_of, goes_nowhere, goes_of}
use Rattle.slot_store.proofs.Tries.{shown_by_latest}
use Rattle.slot_store.proofs.Turns.{ComeBefore, ComesBefore, all_come, come_still, comes_now, comes_or, none_before, same_word, there, unread, untried}

pub still_rests : {P V : Type 0} {fits : List ℕ → Type 0} (d : DomainState P) (old now : SeatState V)
    (tries : List Try) → Goes fits d (taken_by tries) old.view.core old now → IsAtRest d old
    → IsAtRest d now
still_rests d old now tries goes =
    rest_after d (taken_by tries) old.view.core old now goes.becomes refl

-- The slots of the turns before this one were tried or shown taken. `home` was found last of the word
-- in which the search began, and `found` of that in which it is.
pub record Trying {P V : Type 0} (fits : List ℕ → Type 0) (d : DomainState P)
    (first turn home found : ℕ) (old now : SeatState V) : Type 0 where
  pub tries : List Try
  pub in_turn : AreInTurn d.shape tries
  pub before : ComeBefore first d.shape.slots turn tries
  pub few : length tries ≤ turn
  pub all_taken :
      (s : SlotId) → s.0 < d.shape.slots → ComesBefore first d.shape.slots turn s.0
      → IsShownTaken s tries
  pub home_last : latest (first / 64) tries ≡ home
  pub found_last :
      (number : ℕ) → IsAtTurn first d.shape.slots turn number → number % 64 ≢ 0
      → latest (number / 64) tries ≡ found
  pub goes : Goes fits d (taken_by tries) old.view.core old now

module _ {P V : Type 0} {fits : List ℕ → Type 0} (d : DomainState P) (first : SlotId)
    (start : first.0 < d.shape.slots) where
  pub none_tried : (old now : SeatState V) → now ≡ old
      → Trying fits d first.0 0 (2 ^ 64 - 1) (2 ^ 64 - 1) old now
  none_tried old now same = record {
    tries = [];
    in_turn = tt;
    before = tt;
    few = omega arith;
    all_taken = λ s inside before. absurd (none_before first.0 d.shape.slots s.0 inside start before);
    home_last = refl;
    found_last = λ number at within. refl;
    goes = subst (λ (x : SeatState V). Goes fits d [] old.view.core old x) (sym same)
        (goes_nowhere d old);
  }

  module _ (turn home found : ℕ) (old now : SeatState V) (more : turn < d.shape.slots)
      (trying : Trying fits d first.0 turn home found old now) (s : SlotId)
      (at : IsAtTurn first.0 d.shape.slots turn s.0) where
    pub inside : s.0 < d.shape.slots
    inside = there first.0 d.shape.slots turn start more s.0 at

    -- what was found last of the slot's word
    newest_last : latest (bits_of s) trying.tries ≡ newest s first home found
    newest_last = go (s.0 % 64 == 0) (s.0 / 64 == first.0 / 64) refl refl
      where
        go : (begins same : Bool) → (s.0 % 64 == 0) ≡ begins → (s.0 / 64 == first.0 / 64) ≡ same
            → latest (bits_of s) trying.tries
            ≡ (if begins then (if same then home else 2 ^ 64 - 1) else found)
        go false same begins is = trying.found_last s.0 at (λ zero. grind (arith, nat_tests))
        go true true begins is =
            let word : s.0 / 64 ≡ first.0 / 64 = grind (arith, nat_tests) in
            ap (λ (k : ℕ). latest k trying.tries) word ∙ trying.home_last
        go true false begins is =
            unread first.0 d.shape.slots turn start more s.0 at trying.tries trying.before
            (grind (arith, nat_tests)) (λ word. grind (arith, nat_tests))

    pub rests : IsAtRest d old → IsAtRest d now
    rests = still_rests d old now trying.tries trying.goes

    pub may_claim : IsAtRest d old → HasMake old.view.core → HasAdd old.view.core
        → May d.shape (act.Claim s) now.view.core
    may_claim rest make add =
        subst (λ (v : CoreView). May d.shape (act.Claim s) v) (sym trying.goes.becomes.core)
        (rest.idle, inside, make, add)

    is_next : (bit_in s (newest s first home found) == 1) ≡ true → IsNext d.shape s trying.tries
    is_next set = record {
      there = inside;
      untried = untried first.0 d.shape.slots turn start more s.0 at s refl trying.tries trying.before;
      set = ap (bit_in s) newest_last ∙ grind (arith, nat_tests);
    }

    -- what is known of the slots of the turns before the next one
    taken_so_far : (ts : List Try)
        → ((x : SlotId) → IsShownTaken x trying.tries → IsShownTaken x ts) → IsShownTaken s ts
        → (x : SlotId) → x.0 < d.shape.slots
        → ComesBefore first.0 d.shape.slots (turn + 1) x.0 → IsShownTaken x ts
    taken_so_far ts still now x there before = ⊎_elim
        (λ (was : ComesBefore first.0 d.shape.slots turn x.0).
        still x (trying.all_taken x there was))
        (λ (is : x.0 ≡ s.0). subst (λ (y : SlotId). IsShownTaken y ts) (sym (slot_eq x s is)) now)
        (comes_or first.0 d.shape.slots turn start more s.0 at x.0 there before)

    -- the word of the next slot, if it is the same
    found_still : (ts : List Try) (w : ℕ) → latest (bits_of s) ts ≡ w → (later : ℕ)
        → IsAtTurn first.0 d.shape.slots (turn + 1) later → later % 64 ≢ 0
        → latest (later / 64) ts ≡ w
    found_still ts w is later next within =
        let one = same_word first.0 d.shape.slots turn s.0 later start more at next within in
        let word : later / 64 ≡ bits_of s = omega arith in
        ap (λ (k : ℕ). latest k ts) word ∙ is

    -- the bit of the slot is clear in what was found last
    pub one_shown : (bit_in s (newest s first home found) == 1) ≡ false
        → Trying fits d first.0 (turn + 1) home (newest s first home found) old now
    one_shown clear =
        let few = trying.few in
        let bit = bit_at-lt (newest s first home found) (s.0 % 64) in
        let none : bit_in s (newest s first home found) ≡ 0 = grind (arith, nat_tests) in
        record {
          tries = trying.tries;
          in_turn = trying.in_turn;
          before = come_still first.0 d.shape.slots turn start more trying.tries trying.before;
          few = omega arith;
          all_taken = taken_so_far trying.tries (λ x shown. shown)
              (shown_by_latest s trying.tries (ap (bit_in s) newest_last ∙ none));
          home_last = trying.home_last;
          found_last = found_still trying.tries (newest s first home found) newest_last;
          goes = trying.goes;
        }

    -- the slot was claimed, and was taken
    pub one_missed : (new : SeatState V) (o : Outcome) (word : ℕ)
        → (bit_in s (newest s first home found) == 1) ≡ true
        → Steps fits d same_view IsSameView (act.Claim s) now new o → o ≡ outcome.Taken word
        → Trying fits d first.0 (turn + 1) (if s.0 / 64 == first.0 / 64 then word else home) word
        old new
    one_missed new o word set step taken =
        let miss = claim_missed d s old.view.core _ now new trying.goes.becomes.core o step word taken in
        let few = trying.few in
        let same : (bits_of s == bits_of s) ≡ true = grind (arith, nat_tests) in
        let tries : List Try = record { slot = s; word = word } ∷ trying.tries in
        record {
          tries = tries;
          in_turn = (is_next set, trying.in_turn);
          before = (
            comes_now first.0 d.shape.slots turn start more s.0 at,
            inside,
            come_still first.0 d.shape.slots turn start more trying.tries trying.before,
          );
          few = omega arith;
          all_taken = taken_so_far tries (λ x shown. inr shown) (inl (refl, miss.1));
          home_last = ap (λ (w : ℕ). if s.0 / 64 == first.0 / 64 then word else w) trying.home_last;
          found_last = found_still tries word (rw same refl);
          goes = goes_of d _ _ old new
              (comes_more d (taken_by trying.tries) (move (act.Claim s) (outcome.Taken word) ∷ [])
              old.view.core old.view.core old.view.core old now new
              (comes_of d _ _ old now trying.goes) miss.0);
        }

    -- the slot was claimed, and was free
    pub one_won : (new : SeatState V) (o : Outcome)
        → (bit_in s (newest s first home found) == 1) ≡ true
        → Steps fits d same_view IsSameView (act.Claim s) now new o
        → ((word : ℕ) → o ≢ outcome.Taken word) → Claims fits d old new s
    one_won new o set step not =
        let won = claim_won d s old.view.core _ now new trying.goes.becomes.core o step not in
        let few = trying.few in
        record {
          tries = trying.tries;
          in_turn = trying.in_turn;
          few = omega arith;
          next = is_next set;
          goes = goes_of d _ _ old new
              (comes_more d (taken_by trying.tries) (move (act.Claim s) outcome.Claimed ∷ [])
              old.view.core (with_bare s old.view.core) old.view.core old now new
              (comes_of d _ _ old now trying.goes) won);
        }

  pub all_tried : (turn home found : ℕ) (old now : SeatState V) → turn ≡ d.shape.slots
      → Trying fits d first.0 turn home found old now → Misses fits d old now
  all_tried turn home found old now all trying =
      let few = trying.few in
      record {
        tries = trying.tries;
        in_turn = trying.in_turn;
        few = omega arith;
        all_taken = λ x inside. trying.all_taken x inside
            (subst (λ (n : ℕ). ComesBefore first.0 d.shape.slots n x.0) (sym all)
            (all_come first.0 d.shape.slots x.0 inside));
        goes = trying.goes;
      }
