-- All parts of a text, the last one made first.
use Rattle.std.proofs.Common.{◌≡◌, ℕ, suc, ◌+◌, ◌-◌, ◌*◌, ◌<◌, List, [], ◌∷◌, ◌++◌, drop, length, refl, ap, sym, ◌∙◌, subst, arith}
use Rattle.std.specs.Prelude.{Err, Ok, Result}
use Rattle.std.proofs.lemmas.List.{drop-drop}
use Rattle.control_word.specs.counted_handles.Handles.{Handle}
use Rattle.cell_calls.specs.cell_law.plain_state.declared.slot.SlotId.{SlotId}
use Rattle.cell_calls.specs.cell_law.directory_law.Payloads.{IsPart, Text}
use Rattle.cell_calls.specs.cell_law.declared.view.View.{View}
use Rattle.cell_calls.specs.cell_protocol.declared.law.CellLaw.{CellLaw}
use Rattle.cell_calls.specs.Keeping.{Keeps}
use Rattle.cell_calls.proofs.Keeping.{keeps_wider}
use Rattle.epoch_refs.specs.epoch_core.core_events.Views.{without}
use Rattle.epoch_refs.specs.epoch_rule.Views.{object_in}
use Rattle.epoch_refs.specs.epoch_domain.Domains.{DomainState}
use Rattle.epoch_refs.specs.epoch_domain.Seats.{SeatState}
use Rattle.epoch_refs.specs.Walks.{IsAtRest}
use Rattle.record_texts.specs.Texts.{part_of, parts_after, parts_of}
use Rattle.cell_making.specs.declared.refusals.RecordError.{RecordError}
use Rattle.cell_making.specs.Making.{HasMade, HasMadeBefore, HasMadeOne, HasText, IsFew, IsRefused}
use Rattle.cell_making.proofs.Before.{has_text, made_alone, made_more, made_only}
use Rattle.cell_making.proofs.Events.{few_less, few_more, few_one}
use Rattle.cell_making.proofs.Notes.{refused_after}
use Rattle.cell_making.proofs.Owned.{taken_over}

-- the last n parts of the text
abbrev pub chained : List ℕ → ℕ → Text
chained bytes n = parts_of n (drop (120 * (parts_after (length bytes) + 1 - n)) bytes)

-- The last n parts of the text are made, and s is the first of them.
pub record Chains (d : DomainState CellLaw) (bytes : List ℕ) (n : ℕ) (s : SlotId)
    (old now : SeatState View) : Type 0 where
  pub made : HasMade (chained bytes n) n s old now
  pub part : IsPart (object_in now.view s).payload
  pub keeps : Keeps n n (old.view.core.owned ++ s ∷ []) old now
  pub rest : IsAtRest d now
  pub few : IsFew (n * (d.shape.slots + 19)) old now

one_part : (bytes : List ℕ) → parts_of 1 bytes ≡ part_of bytes ∷ []
unfolding parts_of
one_part bytes = refl

pub offset : (bytes : List ℕ) (k j : ℕ) → k ≡ j → part_of (drop k bytes) ≡ part_of (drop j bytes)
offset bytes k j is = ap (λ i. part_of (drop i bytes)) is

one_more : (bytes : List ℕ) (n k j : ℕ) → k + 120 ≡ j
    → part_of (drop k bytes) ∷ parts_of n (drop j bytes) ≡ parts_of (suc n) (drop k bytes)
unfolding parts_of
one_more bytes n k j is =
    ap (λ (xs : List ℕ). part_of (drop k bytes) ∷ parts_of n xs)
    (ap (λ i. drop i bytes) (sym is) ∙ sym (drop-drop 120 k bytes))

module _ (d : DomainState CellLaw) (bytes payload : List ℕ) (a b : SeatState View) where
  first_text : payload ≡ part_of (drop (120 * parts_after (length bytes)) bytes)
      → payload ∷ [] ≡ chained bytes 1
  first_text is =
      ap (λ (words : List ℕ). words ∷ []) is
      ∙ sym (one_part (drop (120 * parts_after (length bytes)) bytes))
      ∙ ap (λ k. parts_of 1 (drop (120 * k) bytes))
      (let e : parts_after (length bytes) ≡ parts_after (length bytes) + 1 - 1 = omega arith in e)

  pub chain_first : (s : SlotId) → payload ≡ part_of (drop (120 * parts_after (length bytes)) bytes)
      → IsPart payload → HasMadeOne payload s a b
      → Keeps 1 1 (a.view.core.owned ++ s ∷ []) a b → IsAtRest d b
      → IsFew (d.shape.slots + 17) a b → Chains d bytes 1 s a b
  chain_first s is part made keeps rest few = record {
    made = made_alone payload (chained bytes 1) 1 (first_text is) refl a b s made;
    part = subst IsPart (sym made.payload_is) part;
    keeps = keeps;
    rest = rest;
    few = few_one 1 (d.shape.slots + 19) (length a.view.core.trail) (length b.view.core.trail) refl
        (omega (arith, few));
  }

  module _ (n : ℕ) (s : SlotId) (chains : Chains d bytes n s a b) where
    pub chain_text : HasText s b
    chain_text = has_text (chained bytes n) n s a b chains.made

    pub chain_done : n ≡ parts_after (length bytes)
        → HasMade (parts_of (parts_after (length bytes)) (drop 120 bytes))
        (parts_after (length bytes)) s a b
    chain_done is =
        let e : 120 * (parts_after (length bytes) + 1 - n) ≡ 120 = omega (arith, is) in
        subst (λ (x : Text × ℕ). HasMade x.0 x.1 s a b)
        (λ i. (parts_of (is i) (drop (e i) bytes), is i)) chains.made

    pub chain_all : n ≡ parts_after (length bytes)
        → Keeps (parts_after (length bytes)) (parts_after (length bytes))
        (a.view.core.owned ++ s ∷ []) a b
    chain_all is = subst (λ k. Keeps k k (a.view.core.owned ++ s ∷ []) a b) is chains.keeps

    pub chain_count : n ≡ parts_after (length bytes)
        → IsFew (parts_after (length bytes) * (d.shape.slots + 19)) a b
    chain_count is = subst (λ k. IsFew (k * (d.shape.slots + 19)) a b) is chains.few

    module _ (c : SeatState View) where
      text_on : (k : ℕ) → k ≡ 120 * (parts_after (length bytes) - n)
          → n < parts_after (length bytes) → payload ≡ part_of (drop k bytes)
          → payload ∷ chained bytes n ≡ chained bytes (n + 1)
      text_on k at low is =
          let e : suc n ≡ n + 1 = omega arith in
          let f : k ≡ 120 * (parts_after (length bytes) + 1 - (n + 1)) = omega (arith, at) in
          ap (λ (words : List ℕ). words ∷ chained bytes n) is
          ∙ one_more bytes n k (120 * (parts_after (length bytes) + 1 - n)) (omega (arith, at, low))
          ∙ (λ i. parts_of (e i) (drop (f i) bytes))

      chain_few : IsFew (d.shape.slots + 19) b c → IsFew ((n + 1) * (d.shape.slots + 19)) a c
      chain_few few =
          few_more n (n + 1) (d.shape.slots + 19) (length a.view.core.trail)
          (length b.view.core.trail) (length c.view.core.trail) refl chains.few few

      -- one more is made before them
      pub chain_on : (t : SlotId) (k : ℕ) → k ≡ 120 * (parts_after (length bytes) - n)
          → n < parts_after (length bytes) → payload ≡ part_of (drop k bytes) → IsPart payload
          → HasMadeBefore payload s t b c
          → Keeps 1 1 (without s b.view.core.owned ++ t ∷ []) b c
          → IsAtRest d c → IsFew (d.shape.slots + 19) b c → Chains d bytes (n + 1) t a c
      chain_on t k at low is part before second rest few = record {
        made = made_more (chained bytes n) n s a b chains.made payload (chained bytes (n + 1))
            (n + 1) (text_on k at low is) refl c t before;
        part = subst IsPart (sym before.payload_is) part;
        keeps = let r : Result Handle RecordError = Ok (record { slot = t }) in
            taken_over n 1 s r a b c chains.keeps second;
        rest = rest;
        few = chain_few few;
      }

      -- or it was refused, and s given up
      pub chain_keeps : (e : RecordError) → n < parts_after (length bytes)
          → Keeps 1 1 (without s b.view.core.owned) b c
          → Keeps (parts_after (length bytes)) (parts_after (length bytes)) a.view.core.owned a c
      chain_keeps e low second =
          keeps_wider (n + 1) (parts_after (length bytes)) (n + 1) (parts_after (length bytes))
          a.view.core.owned a.view.core.owned a c
          (let r : Result Handle RecordError = Err e in
          taken_over n 1 s r a b c chains.keeps second)
          (omega (arith, low)) (omega (arith, low)) (λ x. refl)

      pub chain_events : n < parts_after (length bytes) → IsFew (d.shape.slots + 19) b c
          → IsFew (parts_after (length bytes) * (d.shape.slots + 19)) a c
      chain_events low few =
          few_less (n + 1) (parts_after (length bytes)) (d.shape.slots + 19)
          (length a.view.core.trail) (length c.view.core.trail) (omega (arith, low)) (chain_few few)

      pub chain_refused : (e : RecordError) → IsRefused d e b c → IsRefused d e a c
      chain_refused e is =
          refused_after d e a b c chains.keeps.goes
          (made_only (chained bytes n) n s a b chains.made) is
