-- All parts of a text, the last one made first.
use Rattle.std.proofs.Common.{◌≡◌, ℕ, suc, ◌+◌, ◌-◌, ◌*◌, ◌<◌, ◌≤◌, List, [], ◌∷◌, ◌++◌, drop, length, refl, ap, sym, ◌∙◌, subst, arith}
use Rattle.std.specs.Prelude.{Err, IfOk, None, Ok, Result, Some}
use Rattle.std.proofs.lemmas.List.{drop-drop}
use Rattle.atomic_shared.specs.plain_state.declared.slot.SlotId.{SlotId}
use Rattle.atomic_shared.specs.plain_state.Lists.{times}
use Rattle.slot_store.specs.core_events.Steps.{HasRoom}
use Rattle.slot_store.specs.core_events.Views.{without}
use Rattle.slot_store.specs.domain_rule.Views.{object_in}
use Rattle.slot_store.specs.acquire_retire.Domains.{DomainState}
use Rattle.slot_store.specs.acquire_retire.Seats.{SeatState}
use Rattle.slot_store.specs.control_word.Resting.{IsAtRest}
use Rattle.slot_store.specs.counted_handles.Handles.{Handle}
use Rattle.directory_calls.specs.directory_law.declared.view.View.{View}
use Rattle.directory_calls.specs.directory_law.Payloads.{IsPart, Text}
use Rattle.directory_calls.specs.Steps.{Leaves}
use Rattle.directory_calls.proofs.Parts.{Place}
use Rattle.record_making.specs.Making.{AddsAsMakes, HasText, Notes, NotesOnly, PutsBefore, candidate_in, made_by, with_notes}
use Rattle.record_texts.specs.Texts.{part_of, parts_after, parts_of}
use Rattle.record_making.proofs.Noted.{has_text, noted_so, notes_then, only_then}
use Rattle.record_making.proofs.Before.{taken_over}

-- ALL PARTS. The last n parts of the text are made, and s is the first of them
abbrev pub chained : List ℕ → ℕ → Text
chained bytes n = parts_of n (drop (120 * (parts_after (length bytes) + 1 - n)) bytes)

pub record Chains {P V : Type 0} (d : DomainState P) (seen : V → View) (with_seen : V → View → V)
    (bytes : List ℕ) (n : ℕ) (s : SlotId) (old now : SeatState V) : Type 0 where
  pub noted : Notes seen with_seen (candidate_in s (chained bytes n) now) old.view.client
      now.view.client
  pub part : IsPart (object_in now.view s).payload
  pub owned : 0 < times s now.view.core.owned
  pub makes : now.view.core.makes ≡ old.view.core.makes + n
  pub used : AddsAsMakes old.view.core now.view.core
  pub leaves : Leaves (old.view.core.owned ++ s ∷ []) old.view.core.weaks old now
  pub room : HasRoom now.view.core
  pub rest : IsAtRest d now

one_part : (bytes : List ℕ) → parts_of 1 bytes ≡ part_of bytes ∷ []
unfolding parts_of
one_part bytes = refl

pub offset : (bytes : List ℕ) (k j : ℕ) → k ≡ j → part_of (drop k bytes) ≡ part_of (drop j bytes)
offset bytes k j is = ap (λ i. part_of (drop i bytes)) is

one_more : (bytes : List ℕ) (n k j : ℕ) → k + 120 ≡ j
    → part_of (drop k bytes) ∷ parts_of n (drop j bytes) ≡ parts_of (suc n) (drop k bytes)
unfolding parts_of
one_more bytes n k j is =
    ap (λ (xs : List ℕ). part_of (drop k bytes) ∷ parts_of n xs)
    (ap (λ i. drop i bytes) (sym is) ∙ sym (drop-drop 120 k bytes))

module _ {P V : Type 0} (d : DomainState P) (l : Place V) (bytes payload : List ℕ)
    (a b : SeatState V) where
  pub chain_first : (s : SlotId) → payload ≡ part_of (drop (120 * parts_after (length bytes)) bytes)
      → IsPart payload → (object_in b.view s).payload ≡ payload
      → b.view.client ≡ l.with_seen a.view.client (with_notes
      (candidate_in s (payload ∷ []) b ∷ (l.seen a.view.client).noted) (l.seen a.view.client))
      → 0 < times s b.view.core.owned → b.view.core.makes ≡ a.view.core.makes + 1
      → AddsAsMakes a.view.core b.view.core
      → Leaves (a.view.core.owned ++ s ∷ []) a.view.core.weaks a b → HasRoom b.view.core
      → IsAtRest d b → Chains d l.seen l.with_seen bytes 1 s a b
  chain_first s is part made noted owned makes used leaves room rest = record {
    noted = (
      (l.seen a.view.client).noted,
      noted ∙ ap (λ (t : Text). l.with_seen a.view.client (with_notes
          (candidate_in s t b ∷ (l.seen a.view.client).noted) (l.seen a.view.client)))
          (ap (λ (words : List ℕ). words ∷ []) is
          ∙ sym (one_part (drop (120 * parts_after (length bytes)) bytes))
          ∙ ap (λ k. parts_of 1 (drop (120 * k) bytes))
          (let e : parts_after (length bytes) ≡ parts_after (length bytes) + 1 - 1 = omega arith in
          e)),
    );
    part = subst IsPart (sym made) part;
    owned = owned;
    makes = makes;
    used = used;
    leaves = leaves;
    room = room;
    rest = rest;
  }

  -- one more is made before them
  module _ (n : ℕ) (s t : SlotId) (c : SeatState V)
      (chains : Chains d l.seen l.with_seen bytes n s a b)
      (before : PutsBefore l.seen l.with_seen payload s t b c) where
    pub chain_on : (k : ℕ) → k ≡ 120 * (parts_after (length bytes) - n)
        → n < parts_after (length bytes) → payload ≡ part_of (drop k bytes) → IsPart payload
        → (object_in c.view t).payload ≡ payload → 0 < times t c.view.core.owned
        → c.view.core.makes ≡ b.view.core.makes + 1 → AddsAsMakes b.view.core c.view.core
        → Leaves (without s b.view.core.owned ++ t ∷ []) b.view.core.weaks b c
        → HasRoom c.view.core → IsAtRest d c → Chains d l.seen l.with_seen bytes (n + 1) t a c
    chain_on k at low is part made owned makes used second room rest = record {
      noted = notes_then l (candidate_in t (chained bytes (n + 1)) c) a.view.client b.view.client
          c.view.client
          (candidate_in s (chained bytes n) b ∷ chains.noted.0, chains.noted.1)
          (subst (λ (x : Text). Notes l.seen l.with_seen (candidate_in t x c) b.view.client
          c.view.client) text_on (before (chained bytes n) (noted_so l s (chained bytes n) a b
          chains.noted)));
      part = subst IsPart (sym made) part;
      owned = owned;
      makes = let m = chains.makes in omega (arith, m, makes);
      used = let u = chains.used in omega (arith, u, used);
      leaves = taken_over s (Some t) a b c chains.leaves second;
      room = room;
      rest = rest;
    }
      where
        text_on : payload ∷ chained bytes n ≡ chained bytes (n + 1)
        text_on =
            let e : suc n ≡ n + 1 = omega arith in
            let f : k ≡ 120 * (parts_after (length bytes) + 1 - (n + 1)) = omega (arith, at) in
            ap (λ (words : List ℕ). words ∷ chained bytes n) is
            ∙ one_more bytes n k (120 * (parts_after (length bytes) + 1 - n))
            (omega (arith, at, low))
            ∙ (λ i. parts_of (e i) (drop (f i) bytes))

  module _ (n : ℕ) (s : SlotId) (chains : Chains d l.seen l.with_seen bytes n s a b) where
    pub chain_text : HasText l.seen s b
    chain_text = has_text l s (chained bytes n) a b chains.noted

    pub chain_done : n ≡ parts_after (length bytes)
        → Notes l.seen l.with_seen
        (candidate_in s (parts_of (parts_after (length bytes)) (drop 120 bytes)) b)
        a.view.client b.view.client
    chain_done is =
        let e : 120 * (parts_after (length bytes) + 1 - n) ≡ 120 = omega (arith, is) in
        subst (λ (x : Text). Notes l.seen l.with_seen (candidate_in s x b) a.view.client
        b.view.client) (λ i. parts_of (is i) (drop (e i) bytes)) chains.noted

    -- a make that was refused, after which s was given up
    module _ (c : SeatState V)
        (second : Leaves (without s b.view.core.owned) b.view.core.weaks b c) where
      pub chain_leaves : Leaves a.view.core.owned a.view.core.weaks a c
      chain_leaves = taken_over s None a b c chains.leaves second

      pub chain_only : NotesOnly l.seen l.with_seen b.view.client c.view.client
          → NotesOnly l.seen l.with_seen a.view.client c.view.client
      chain_only only =
          only_then l a.view.client b.view.client c.view.client
          (candidate_in s (chained bytes n) b ∷ chains.noted.0, chains.noted.1) only

-- HOW MANY MAKES a record takes
pub one_make : {E : Type 0} (r : Result Handle E) (m n k : ℕ) → k ≡ 1 → n ≡ m + made_by r
    → (n ≤ m + k) × IfOk r (λ h. n ≡ m + k)
one_make (Ok h) m n k one is = (omega (arith, one, is), omega (arith, one, is))
one_make (Err e) m n k one is = (omega (arith, one, is), tt)

pub one_make_more : {E : Type 0} (r : Result Handle E) (m n j k : ℕ) → k ≡ j + 1
    → n ≡ m + j + made_by r → (n ≤ m + k) × IfOk r (λ h. n ≡ m + k)
one_make_more (Ok h) m n j k more is = (omega (arith, more, is), omega (arith, more, is))
one_make_more (Err e) m n j k more is = (omega (arith, more, is), tt)
