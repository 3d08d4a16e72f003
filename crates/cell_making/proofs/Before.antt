-- A slot that is made before another one.
use Rattle.std.proofs.Common.{◌≡◌, ℕ, ◌+◌, ◌<◌, List, [], ◌∷◌, ◌++◌, refl, ap, sym, ◌∙◌, subst, arith}
use Rattle.std.specs.Prelude.{Err, IfOk, Ok, Result}
use Rattle.control_word.specs.counted_handles.Handles.{Handle}
use Rattle.cell_calls.specs.cell_law.plain_state.declared.slot.SlotId.{SlotId}
use Rattle.cell_calls.specs.cell_law.plain_state.Lists.{times}
use Rattle.cell_calls.specs.cell_law.directory_law.declared.view.Rope.{Rope}
use Rattle.cell_calls.specs.cell_law.directory_law.Payloads.{IsPart, Text}
use Rattle.cell_calls.specs.cell_law.declared.view.View.{View}
use Rattle.cell_calls.specs.Keeping.{Keeps, NotesOnly}
use Rattle.epoch_refs.specs.plain_protocol.Owns.{Object}
use Rattle.epoch_refs.specs.epoch_core.core_events.Views.{without}
use Rattle.epoch_refs.specs.epoch_rule.Views.{object_in}
use Rattle.epoch_refs.specs.epoch_domain.Seats.{SeatState}
use Rattle.epoch_domain.proofs.Below.core_law_Kit.{one_same, times_push}
use Rattle.cell_making.specs.Making.{candidate_in, HasMade, HasMadeBefore, HasMadeOne, HasText, HasTwo, Links, NotesLast, owned_with}
use Rattle.cell_making.proofs.Notes.{notes_from, notes_then, only_by}
use Rattle.cell_making.proofs.Owned.{front_left}

-- ONE SLOT MORE: t is made while s is owned, and then s is given into it
module _ (t s : SlotId) (payload : List ℕ) (a b : SeatState View) (made : HasMadeOne payload t a b)
    (first : Keeps 1 1 (a.view.core.owned ++ t ∷ []) a b) (owned : 0 < times s a.view.core.owned)
  where
    known : object_in b.view s ≡ object_in a.view s
    known =
        let o = first.owns s in let p = times_push s t a.view.core.owned in
        first.knows s (omega (arith, owned)) (omega (arith, o, p, owned))

    two : (text : Text) (others : List Rope)
        → a.view.client.noted ≡ candidate_in s text a ∷ others
        → b.view.client.noted
        ≡ candidate_in t ((object_in b.view t).payload ∷ []) b ∷ candidate_in s text b ∷ others
    two text others is =
        ap (λ (v : View). v.noted) made.noted
        ∙ ap (λ (es : List Rope). candidate_in t (payload ∷ []) b ∷ es) is
        ∙ ap (λ (words : List ℕ). candidate_in t (words ∷ []) b ∷ candidate_in s text a ∷ others)
        (sym made.payload_is)
        ∙ ap (λ (o : Object). candidate_in t ((object_in b.view t).payload ∷ []) b
        ∷ record { slot = s; life = o.life; text = text } ∷ others) (sym known)

    pub has_two : IsPart (object_in a.view s).payload → HasText s a → HasTwo t s b
    has_two part is = record {
      owned = let o = first.owns s in let p = times_push s t a.view.core.owned in
          omega (arith, o, p, owned);
      besides = front_left t s a b first owned;
      part = subst (λ (o : Object). IsPart o.payload) (sym known) part;
      text = is.0;
      others = is.1;
      noted = two is.0 is.1 is.2;
    }

    module _ (c : SeatState View) (links : Links t s b c)
        (second : Keeps 0 0 (without t (without s b.view.core.owned) ++ t ∷ []) b c) where
      owned_before : 0 < times t c.view.core.owned
      owned_before =
          let o = second.owns t in
          let p = times_push t t (without t (without s b.view.core.owned)) in
          let i = one_same t t refl in
          omega (arith, o, p, i)

      known_before : object_in c.view t ≡ object_in b.view t
      known_before =
          let q = owned_before in
          let o = first.owns t in
          let p = times_push t t a.view.core.owned in
          let i = one_same t t refl in
          second.knows t (omega (arith, o, p, i)) (omega (arith, q))

      pub made_before : HasMadeBefore payload s t a c
      made_before = record {
        owned = owned_before;
        payload_is = ap (λ (o : Object). o.payload) known_before ∙ made.payload_is;
        puts = λ text others is.
            notes_from (candidate_in t (payload ∷ text) c) others
            (candidate_in t (payload ∷ []) b ∷ a.view.client.noted) a.view.client b.view.client
            c.view.client made.noted
            (subst (λ (words : List ℕ). NotesLast (candidate_in t (words ∷ text) c) others
            b.view.client c.view.client) made.payload_is (links text others (two text others is)));
        makes = let m = made.makes in let k = second.makes_used in omega (arith, m, k.0, k.1);
        adds = let m = made.adds in let k = second.adds_used in omega (arith, m, k.0, k.1);
      }

-- whatever the link answers
pub before_if : {E : Type 0} (h : Handle) (s : SlotId) (payload : List ℕ) (a b c : SeatState View)
    (made : HasMadeOne payload h.slot a b)
    (first : Keeps 1 1 (a.view.core.owned ++ h.slot ∷ []) a b)
    (owned : 0 < times s a.view.core.owned) (r : Result Handle E)
    → IfOk r (λ head. (head ≡ h) × Links h.slot s b c)
    → Keeps 0 0 (owned_with r (without h.slot (without s b.view.core.owned))) b c
    → IfOk r (λ front. HasMadeBefore payload s front.slot a c)
before_if h s payload a b c made first owned (Ok head) links second =
    subst (λ (x : Handle). HasMadeBefore payload s x.slot a c) (sym links.0)
    (made_before h.slot s payload a b made first owned c links.1
    (subst (λ (x : Handle). Keeps 0 0 (without h.slot (without s b.view.core.owned) ++ x.slot ∷ [])
    b c) links.0 second))
before_if h s payload a b c made first owned (Err e) links second = tt

-- A WHOLE TEXT, or the rest of one
module _ (text : Text) (n : ℕ) (s : SlotId) (a b : SeatState View) (made : HasMade text n s a b)
  where
    pub made_only : NotesOnly a.view.client b.view.client
    made_only =
        only_by (candidate_in s text b ∷ made.noted.others) a.view.client b.view.client
        made.noted.noted

    noted_so : b.view.client.noted ≡ candidate_in s text b ∷ made.noted.others
    noted_so = ap (λ (v : View). v.noted) made.noted.noted

    pub has_text : HasText s b
    has_text = (text, made.noted.others, noted_so)

    -- with one slot more
    module _ (payload : List ℕ) (whole : Text) (k : ℕ) (is : payload ∷ text ≡ whole)
        (more : k ≡ n + 1) (c : SeatState View) where
      pub made_more : (t : SlotId) → HasMadeBefore payload s t b c → HasMade whole k t a c
      made_more t before = record {
        owned = before.owned;
        noted = notes_then (candidate_in s text b) (candidate_in t whole c) a.view.client.noted
            a.view.client b.view.client c.view.client made.noted
            (subst (λ (x : Text). NotesLast (candidate_in t x c) made.noted.others b.view.client
            c.view.client) is (before.puts text made.noted.others noted_so));
        makes = let m = made.makes in let o = before.makes in omega (arith, m, o, more);
        adds = let m = made.adds in let o = before.adds in omega (arith, m, o, more);
      }

      pub more_if : {E : Type 0} (r : Result Handle E)
          → IfOk r (λ t. HasMadeBefore payload s t.slot b c)
          → IfOk r (λ t. HasMade whole k t.slot a c)
      more_if (Ok t) before = made_more t.slot before
      more_if (Err e) before = tt

-- a slot that has the whole text
module _ (payload : List ℕ) (whole : Text) (k : ℕ) (is : payload ∷ [] ≡ whole) (one : k ≡ 1)
    (a b : SeatState View) where
  pub made_alone : (s : SlotId) → HasMadeOne payload s a b → HasMade whole k s a b
  made_alone s made = record {
    owned = made.owned;
    noted = record {
      others = a.view.client.noted;
      noted = made.noted ∙ ap (λ (x : Text). record a.view.client {
        noted = candidate_in s x b ∷ a.view.client.noted;
      }) is;
      are_among = λ e i. i;
    };
    makes = let m = made.makes in omega (arith, m, one);
    adds = let m = made.adds in omega (arith, m, one);
  }

  pub alone_if : {E : Type 0} (r : Result Handle E) → IfOk r (λ s. HasMadeOne payload s.slot a b)
      → IfOk r (λ s. HasMade whole k s.slot a b)
  alone_if (Ok s) made = made_alone s.slot made
  alone_if (Err e) made = tt
