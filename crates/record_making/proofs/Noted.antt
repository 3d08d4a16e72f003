-- What a seat notes of the slots that it makes, and what a refusal leaves.
use Rattle.std.proofs.Common.{◌≡◌, ℕ, List, [], ◌∷◌, refl, ap, sym, ◌∙◌, subst}
use Rattle.std.specs.Prelude.{Err, IfOk, IsErrAnd, Ok, OnErr, Result}
use Rattle.std.proofs.lemmas.Result.{err_from_is_err_and}
use Rattle.atomic_shared.specs.plain_state.declared.slot.SlotId.{SlotId}
use Rattle.slot_store.specs.acquire_retire.Domains.{DomainState}
use Rattle.slot_store.specs.acquire_retire.Seats.{SeatState}
use Rattle.slot_store.specs.counted_handles.Handles.{Handle}
use Rattle.slot_store.specs.declared.making.MakeError.{MakeError}
use Rattle.slot_store.specs.Searching.{Misses}
use Rattle.directory_calls.specs.directory_law.declared.view.Rope.{Rope}
use Rattle.directory_calls.specs.directory_law.declared.view.View.{View}
use Rattle.directory_calls.specs.directory_law.Payloads.{Text}
use Rattle.directory_calls.specs.Steps.{GoesOn}
use Rattle.directory_calls.proofs.Going.{goes_none, goes_then}
use Rattle.directory_calls.proofs.Parts.{Place}
use Rattle.record_making.specs.Making.{HasNotedLast, HasText, MissesWithin, Notes, NotesOnly, PutsBefore, candidate_in, with_notes}

-- NOTES that changed twice
module _ {V : Type 0} (l : Place V) where
  pub notes_then : (e : Rope) (a b c : V) → NotesOnly l.seen l.with_seen a b
      → Notes l.seen l.with_seen e b c → Notes l.seen l.with_seen e a c
  notes_then e a b c first second = (second.0, change_then (e ∷ second.0) second.1)
    where
      change_then : (es : List Rope) → c ≡ l.with_seen b (with_notes es (l.seen b))
          → c ≡ l.with_seen a (with_notes es (l.seen a))
      change_then es is =
          is ∙ ap (λ (v : View). l.with_seen b (with_notes es v))
          (ap l.seen first.1 ∙ l.reads a (with_notes first.0 (l.seen a)))
          ∙ ap (λ (x : V). l.with_seen x (with_notes es (l.seen a))) first.1
          ∙ l.puts_over a (with_notes first.0 (l.seen a)) (with_notes es (l.seen a))

  pub only_then : (a b c : V) → NotesOnly l.seen l.with_seen a b
      → NotesOnly l.seen l.with_seen b c → NotesOnly l.seen l.with_seen a c
  only_then a b c first second = (
    second.0,
    second.1 ∙ ap (λ (v : View). l.with_seen b (with_notes second.0 v))
        (ap l.seen first.1 ∙ l.reads a (with_notes first.0 (l.seen a)))
        ∙ ap (λ (x : V). l.with_seen x (with_notes second.0 (l.seen a))) first.1
        ∙ l.puts_over a (with_notes first.0 (l.seen a)) (with_notes second.0 (l.seen a)),
  )

  pub only_none : (a b : V) → b ≡ a → NotesOnly l.seen l.with_seen a b
  only_none a b is = ((l.seen a).noted, is ∙ sym (l.puts_back a))

  pub none_if : {T E : Type 0} (r : Result T E) (a b : V) → OnErr r (b ≡ a)
      → OnErr r (NotesOnly l.seen l.with_seen a b)
  none_if (Ok x) a b is = tt
  none_if (Err e) a b is = only_none a b is

-- WHAT IS NOTED LAST
module _ {V : Type 0} (l : Place V) (s : SlotId) (text : Text) (a b : SeatState V)
    (noted : Notes l.seen l.with_seen (candidate_in s text b) a.view.client b.view.client) where
  pub noted_so : HasNotedLast (candidate_in s text b) (l.seen b.view.client)
  noted_so = (
    noted.0,
    ap (λ (x : V). (l.seen x).noted) noted.1
        ∙ ap (λ (v : View). v.noted) (l.reads a.view.client
        (with_notes (candidate_in s text b ∷ noted.0) (l.seen a.view.client))),
  )

  pub has_text : HasText l.seen s b
  has_text = (text, noted_so)

  pub noted_only : NotesOnly l.seen l.with_seen a.view.client b.view.client
  noted_only = (candidate_in s text b ∷ noted.0, noted.1)

  -- and what is made before it then
  module _ (c : SeatState V) where
    pub all_before : {E : Type 0} (r : Result Handle E) (payload : List ℕ) (whole : Text)
        → payload ∷ text ≡ whole
        → IfOk r (λ t. PutsBefore l.seen l.with_seen payload s t.slot b c)
        → IfOk r (λ t. Notes l.seen l.with_seen (candidate_in t.slot whole c) a.view.client
        c.view.client)
    all_before (Ok t) payload whole is before =
        notes_then l (candidate_in t.slot whole c) a.view.client b.view.client c.view.client
        noted_only
        (subst (λ (x : Text). Notes l.seen l.with_seen (candidate_in t.slot x c) b.view.client
        c.view.client) is (before text noted_so))
    all_before (Err e) payload whole is before = tt

    pub only_if : {T E : Type 0} (r : Result T E)
        → OnErr r (NotesOnly l.seen l.with_seen b.view.client c.view.client)
        → OnErr r (NotesOnly l.seen l.with_seen a.view.client c.view.client)
    only_if (Ok x) only = tt
    only_if (Err e) only = only_then l a.view.client b.view.client c.view.client noted_only only

-- a slot that has the whole text
pub alone_noted : {V E : Type 0} (l : Place V) (r : Result Handle E) (payload : List ℕ)
    (text : Text) (a b : SeatState V) → payload ∷ [] ≡ text
    → IfOk r (λ s. b.view.client ≡ l.with_seen a.view.client (with_notes
    (candidate_in s.slot (payload ∷ []) b ∷ (l.seen a.view.client).noted) (l.seen a.view.client)))
    → IfOk r (λ s. Notes l.seen l.with_seen (candidate_in s.slot text b) a.view.client
    b.view.client)
alone_noted l (Ok s) payload text a b is noted =
    subst (λ (x : Text). Notes l.seen l.with_seen (candidate_in s.slot x b) a.view.client
    b.view.client) is ((l.seen a.view.client).noted, noted)
alone_noted l (Err e) payload text a b is noted = tt

-- REFUSALS
-- what the exit of a `?` returns
pub same_refusal : {T U : Type 0} (r : Result T MakeError) (e x : MakeError)
    → IsErrAnd r (λ y. y ≡ e) → r ≡ Err x → ◌≡◌ {A = Result U MakeError} (Err e) (Err x)
same_refusal r e x handed told =
    let p = err_from_is_err_and r handed in
    let was = p.1 in
    let same = p.2 in
    let is : e ≡ x = cc in
    cc

pub on_err : {T E A : Type 0} (r : Result T E) → A → OnErr r A
on_err (Ok x) is = tt
on_err (Err e) is = is

module _ {P V : Type 0} (fits : List ℕ → Type 0) (d : DomainState P) where
  pub misses_here : (a b : SeatState V) → Misses fits d a b → MissesWithin fits d a b
  misses_here a b misses = record {
    mid = a;
    late = b;
    misses = misses;
    since = goes_none a.view.core a.view.core refl;
    till = goes_none b.view.core b.view.core refl;
  }

  pub misses_on : (a b c : SeatState V) → MissesWithin fits d a b
      → GoesOn b.view.core c.view.core → MissesWithin fits d a c
  misses_on a b c m goes = record {
    mid = m.mid;
    late = m.late;
    misses = m.misses;
    since = m.since;
    till = goes_then m.late.view.core b.view.core c.view.core m.till goes;
  }

  pub misses_after : (a b c : SeatState V) → GoesOn a.view.core b.view.core
      → MissesWithin fits d b c → MissesWithin fits d a c
  misses_after a b c goes m = record {
    mid = m.mid;
    late = m.late;
    misses = m.misses;
    since = goes_then a.view.core b.view.core m.mid.view.core goes m.since;
    till = m.till;
  }
