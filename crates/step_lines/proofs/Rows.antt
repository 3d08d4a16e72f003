-- Which act a name and two or three words after it spell, which are refused together.
use Rattle.std.proofs.Common.{◌≡◌, inl, inr, ℕ, List, [], ◌∷◌, length, refl, codes, Option, Result, Err}
use Rattle.std.specs.Borrow.{Bor}
use Rattle.std.specs.Result.{IsErrAnd}
use Rattle.core_events.specs.plain_state.declared.act.EventPlace.{EventPlace}
use Rattle.core_events.specs.plain_state.declared.slot.Kind.{Kind}
use Rattle.core_events.specs.plain_state.declared.slot.SlotId.{SlotId}
use Rattle.core_events.specs.declared.act.Act.{Act}
use Rattle.core_events.specs.declared.act.Act.TheVariants as act
use Rattle.line_words.specs.Words.{texts_of}
use Rattle.step_lines.specs.declared.refused.EventRefused.{EventRefused}
use Rattle.step_lines.specs.Beyond.{IsBeyondAct, IsBeyondContent, IsBeyondPlace, IsBeyondSlot, IsTooLarge, IsTooLargeValue}
use Rattle.step_lines.specs.Reading.{Reads}
use Rattle.step_lines.specs.Spelling.{SpellsAct}
use Rattle.step_lines.specs.Texts.{event_name}
use Rattle.step_lines.proofs.Readings.{Both, OneOf, reads_refused}
use Rattle.step_lines.proofs.Words.{word_at, one_word, two_words, three_words, ContentAt, KindAt, NumberAt, PlaceAt, SlotAt}
use Rattle.step_lines.proofs.Names.{named, other}

module _ (words : List (Bor (List ℕ))) (r : Result Act EventRefused) (e : EventRefused) (handed : IsErrAnd r (λ y. y ≡ e)) where
  pub announce_refused : length words ≡ 3 → Reads (Both (NumberAt words 0) (Both (KindAt words 1) (SlotAt words 2))) (OneOf IsTooLarge (OneOf (λ (k : Kind). ⊥) IsBeyondSlot)) (Err e)
      → Reads (SpellsAct (codes "announce" ∷ texts_of words)) IsBeyondAct r
  announce_refused is reads =
      rw (three_words words is)
      (reads_refused (Both (NumberAt words 0) (Both (KindAt words 1) (SlotAt words 2))) (OneOf IsTooLarge (OneOf (λ (k : Kind). ⊥) IsBeyondSlot)) (SpellsAct (codes "announce" ∷ arguments)) IsBeyondAct
      (λ x. act.Announce x.0 x.1.0 x.1.1) (λ x spells. (refl, (spells.0, (spells.1.0, (spells.1.1, tt))))) only (λ x far. elim far [ inl note ↦ inl note | inr rest ↦ elim rest [ inl none ↦ absurd none | inr slot ↦ inr slot ] ]) r e handed reads)
    where
      arguments : List (List ℕ)
      arguments = word_at words 0 ∷ word_at words 1 ∷ word_at words 2 ∷ []

      only : (a : Act) → SpellsAct (codes "announce" ∷ arguments) a → (x : ℕ × (Kind × SlotId)) × (Both (NumberAt words 0) (Both (KindAt words 1) (SlotAt words 2))) x
      only (act.Announce j k s) spells = ((j, (k, s)), (spells.1.0, (spells.1.1.0, spells.1.1.1.0)))
      only a spells = absurd (other (codes "announce") (event_name a) (named a (codes "announce") arguments spells) refl)

  pub look_refused : length words ≡ 1 → Reads (PlaceAt words 0) IsBeyondPlace (Err e)
      → Reads (SpellsAct (codes "look" ∷ texts_of words)) IsBeyondAct r
  look_refused is reads =
      rw (one_word words is)
      (reads_refused (PlaceAt words 0) IsBeyondPlace (SpellsAct (codes "look" ∷ arguments)) IsBeyondAct
      (λ x. act.Look x) (λ x spells. (refl, (spells, tt))) only (λ x far. far) r e handed reads)
    where
      arguments : List (List ℕ)
      arguments = word_at words 0 ∷ []

      only : (a : Act) → SpellsAct (codes "look" ∷ arguments) a → (x : EventPlace) × (PlaceAt words 0) x
      only (act.Look p) spells = (p, spells.1.0)
      only a spells = absurd (other (codes "look") (event_name a) (named a (codes "look") arguments spells) refl)

  pub check_refused : length words ≡ 2 → Reads (Both (NumberAt words 0) (PlaceAt words 1)) (OneOf IsTooLarge IsBeyondPlace) (Err e)
      → Reads (SpellsAct (codes "check" ∷ texts_of words)) IsBeyondAct r
  check_refused is reads =
      rw (two_words words is)
      (reads_refused (Both (NumberAt words 0) (PlaceAt words 1)) (OneOf IsTooLarge IsBeyondPlace) (SpellsAct (codes "check" ∷ arguments)) IsBeyondAct
      (λ x. act.Check x.0 x.1) (λ x spells. (refl, (spells.0, (spells.1, tt)))) only (λ x far. far) r e handed reads)
    where
      arguments : List (List ℕ)
      arguments = word_at words 0 ∷ word_at words 1 ∷ []

      only : (a : Act) → SpellsAct (codes "check" ∷ arguments) a → (x : ℕ × EventPlace) × (Both (NumberAt words 0) (PlaceAt words 1)) x
      only (act.Check j p) spells = ((j, p), (spells.1.0, spells.1.1.0))
      only a spells = absurd (other (codes "check") (event_name a) (named a (codes "check") arguments spells) refl)

  pub swap_refused : length words ≡ 2 → Reads (Both (PlaceAt words 0) (ContentAt words 1)) (OneOf IsBeyondPlace IsBeyondContent) (Err e)
      → Reads (SpellsAct (codes "swap" ∷ texts_of words)) IsBeyondAct r
  swap_refused is reads =
      rw (two_words words is)
      (reads_refused (Both (PlaceAt words 0) (ContentAt words 1)) (OneOf IsBeyondPlace IsBeyondContent) (SpellsAct (codes "swap" ∷ arguments)) IsBeyondAct
      (λ x. act.Swap x.0 x.1) (λ x spells. (refl, (spells.0, (spells.1, tt)))) only (λ x far. far) r e handed reads)
    where
      arguments : List (List ℕ)
      arguments = word_at words 0 ∷ word_at words 1 ∷ []

      only : (a : Act) → SpellsAct (codes "swap" ∷ arguments) a → (x : EventPlace × Option SlotId) × (Both (PlaceAt words 0) (ContentAt words 1)) x
      only (act.Swap p new) spells = ((p, new), (spells.1.0, spells.1.1.0))
      only a spells = absurd (other (codes "swap") (event_name a) (named a (codes "swap") arguments spells) refl)

  pub cas_refused : length words ≡ 3 → Reads (Both (PlaceAt words 0) (Both (ContentAt words 1) (ContentAt words 2))) (OneOf IsBeyondPlace (OneOf IsBeyondContent IsBeyondContent)) (Err e)
      → Reads (SpellsAct (codes "cas" ∷ texts_of words)) IsBeyondAct r
  cas_refused is reads =
      rw (three_words words is)
      (reads_refused (Both (PlaceAt words 0) (Both (ContentAt words 1) (ContentAt words 2))) (OneOf IsBeyondPlace (OneOf IsBeyondContent IsBeyondContent)) (SpellsAct (codes "cas" ∷ arguments)) IsBeyondAct
      (λ x. act.Cas x.0 x.1.0 x.1.1) (λ x spells. (refl, (spells.0, (spells.1.0, (spells.1.1, tt))))) only (λ x far. far) r e handed reads)
    where
      arguments : List (List ℕ)
      arguments = word_at words 0 ∷ word_at words 1 ∷ word_at words 2 ∷ []

      only : (a : Act) → SpellsAct (codes "cas" ∷ arguments) a → (x : EventPlace × (Option SlotId × Option SlotId)) × (Both (PlaceAt words 0) (Both (ContentAt words 1) (ContentAt words 2))) x
      only (act.Cas p old new) spells = ((p, (old, new)), (spells.1.0, (spells.1.1.0, spells.1.1.1.0)))
      only a spells = absurd (other (codes "cas") (event_name a) (named a (codes "cas") arguments spells) refl)

  pub fill_refused : length words ≡ 2 → Reads (Both (NumberAt words 0) (NumberAt words 1)) (OneOf IsTooLarge IsTooLargeValue) (Err e)
      → Reads (SpellsAct (codes "fill" ∷ texts_of words)) IsBeyondAct r
  fill_refused is reads =
      rw (two_words words is)
      (reads_refused (Both (NumberAt words 0) (NumberAt words 1)) (OneOf IsTooLarge IsTooLargeValue) (SpellsAct (codes "fill" ∷ arguments)) IsBeyondAct
      (λ x. act.Fill x.0 x.1) (λ x spells. (refl, (spells.0, (spells.1, tt)))) only (λ x far. far) r e handed reads)
    where
      arguments : List (List ℕ)
      arguments = word_at words 0 ∷ word_at words 1 ∷ []

      only : (a : Act) → SpellsAct (codes "fill" ∷ arguments) a → (x : ℕ × ℕ) × (Both (NumberAt words 0) (NumberAt words 1)) x
      only (act.Fill i value) spells = ((i, value), (spells.1.0, spells.1.1.0))
      only a spells = absurd (other (codes "fill") (event_name a) (named a (codes "fill") arguments spells) refl)

  pub see_refused : length words ≡ 2 → Reads (Both (SlotAt words 0) (NumberAt words 1)) (OneOf IsBeyondSlot IsTooLarge) (Err e)
      → Reads (SpellsAct (codes "see" ∷ texts_of words)) IsBeyondAct r
  see_refused is reads =
      rw (two_words words is)
      (reads_refused (Both (SlotAt words 0) (NumberAt words 1)) (OneOf IsBeyondSlot IsTooLarge) (SpellsAct (codes "see" ∷ arguments)) IsBeyondAct
      (λ x. act.See x.0 x.1) (λ x spells. (refl, (spells.0, (spells.1, tt)))) only (λ x far. far) r e handed reads)
    where
      arguments : List (List ℕ)
      arguments = word_at words 0 ∷ word_at words 1 ∷ []

      only : (a : Act) → SpellsAct (codes "see" ∷ arguments) a → (x : SlotId × ℕ) × (Both (SlotAt words 0) (NumberAt words 1)) x
      only (act.See s i) spells = ((s, i), (spells.1.0, spells.1.1.0))
      only a spells = absurd (other (codes "see") (event_name a) (named a (codes "see") arguments spells) refl)
