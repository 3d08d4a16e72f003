-- Which act a name and no word or one word after it spell.
use Rattle.std.proofs.Common.{◌≡◌, ℕ, List, [], ◌∷◌, length, refl, sym, subst, ◌∙◌, codes, Result, Err}
use Rattle.std.specs.Borrow.{Bor}
use Rattle.std.specs.Result.{IsOkAnd, MatchResult}
use Rattle.core_events.specs.plain_state.declared.slot.SlotId.{SlotId}
use Rattle.core_events.specs.declared.act.Act.{Act}
use Rattle.core_events.specs.declared.act.Act.TheVariants as act
use Rattle.line_words.specs.Words.{texts_of}
use Rattle.step_lines.specs.declared.refused.EventRefused.{EventRefused}
use Rattle.step_lines.specs.Beyond.{IsBeyondAct, IsBeyondSlot, IsTooLarge}
use Rattle.step_lines.specs.Reading.{Reads}
use Rattle.step_lines.specs.Spelling.{Each, Number, Slot, SpellsAct}
use Rattle.step_lines.specs.Texts.{event_name}
use Rattle.step_lines.proofs.Names.{named, other}
use Rattle.step_lines.proofs.Readings.{reads_as, reads_made}
use Rattle.step_lines.proofs.Words.{word_at, one_word, NumberAt, SlotAt}

-- ---- acts without arguments

-- the act a is spelled by its name alone
abbrev Alone : Act → List (List ℕ) → Act → Type 0
Alone a words x = (x ≡ a) × Each [] words

module _ (name : List ℕ) (words : List (List ℕ)) (r : Result Act EventRefused) where
  pub pay_reads : name ≡ codes "pay" → Reads (Alone act.Pay words) (λ x. ⊥) r → Reads (SpellsAct (name ∷ words)) IsBeyondAct r
  pay_reads is =
      reads_as (Alone act.Pay words) (λ x. ⊥) (SpellsAct (name ∷ words)) IsBeyondAct
      (λ x spells. subst (SpellsAct (name ∷ words)) (sym spells.0) (is, spells.1)) only (λ x far. absurd far) r
    where
      only : (a : Act) → SpellsAct (name ∷ words) a → Alone act.Pay words a
      only act.Pay spells = (refl, spells.1)
      only a spells = absurd (other (codes "pay") (event_name a) (sym is ∙ named a name words spells) refl)

  pub finish_reads : name ≡ codes "finish" → Reads (Alone act.Finish words) (λ x. ⊥) r → Reads (SpellsAct (name ∷ words)) IsBeyondAct r
  finish_reads is =
      reads_as (Alone act.Finish words) (λ x. ⊥) (SpellsAct (name ∷ words)) IsBeyondAct
      (λ x spells. subst (SpellsAct (name ∷ words)) (sym spells.0) (is, spells.1)) only (λ x far. absurd far) r
    where
      only : (a : Act) → SpellsAct (name ∷ words) a → Alone act.Finish words a
      only act.Finish spells = (refl, spells.1)
      only a spells = absurd (other (codes "finish") (event_name a) (sym is ∙ named a name words spells) refl)

  pub take_reads : name ≡ codes "take" → Reads (Alone act.Take words) (λ x. ⊥) r → Reads (SpellsAct (name ∷ words)) IsBeyondAct r
  take_reads is =
      reads_as (Alone act.Take words) (λ x. ⊥) (SpellsAct (name ∷ words)) IsBeyondAct
      (λ x spells. subst (SpellsAct (name ∷ words)) (sym spells.0) (is, spells.1)) only (λ x far. absurd far) r
    where
      only : (a : Act) → SpellsAct (name ∷ words) a → Alone act.Take words a
      only act.Take spells = (refl, spells.1)
      only a spells = absurd (other (codes "take") (event_name a) (sym is ∙ named a name words spells) refl)

  pub mark_reads : name ≡ codes "mark" → Reads (Alone act.Mark words) (λ x. ⊥) r → Reads (SpellsAct (name ∷ words)) IsBeyondAct r
  mark_reads is =
      reads_as (Alone act.Mark words) (λ x. ⊥) (SpellsAct (name ∷ words)) IsBeyondAct
      (λ x spells. subst (SpellsAct (name ∷ words)) (sym spells.0) (is, spells.1)) only (λ x far. absurd far) r
    where
      only : (a : Act) → SpellsAct (name ∷ words) a → Alone act.Mark words a
      only act.Mark spells = (refl, spells.1)
      only a spells = absurd (other (codes "mark") (event_name a) (sym is ∙ named a name words spells) refl)

  pub scan_reads : name ≡ codes "scan" → Reads (Alone act.Scan words) (λ x. ⊥) r → Reads (SpellsAct (name ∷ words)) IsBeyondAct r
  scan_reads is =
      reads_as (Alone act.Scan words) (λ x. ⊥) (SpellsAct (name ∷ words)) IsBeyondAct
      (λ x spells. subst (SpellsAct (name ∷ words)) (sym spells.0) (is, spells.1)) only (λ x far. absurd far) r
    where
      only : (a : Act) → SpellsAct (name ∷ words) a → Alone act.Scan words a
      only act.Scan spells = (refl, spells.1)
      only a spells = absurd (other (codes "scan") (event_name a) (sym is ∙ named a name words spells) refl)

  pub arm_reads : name ≡ codes "arm" → Reads (Alone act.Arm words) (λ x. ⊥) r → Reads (SpellsAct (name ∷ words)) IsBeyondAct r
  arm_reads is =
      reads_as (Alone act.Arm words) (λ x. ⊥) (SpellsAct (name ∷ words)) IsBeyondAct
      (λ x spells. subst (SpellsAct (name ∷ words)) (sym spells.0) (is, spells.1)) only (λ x far. absurd far) r
    where
      only : (a : Act) → SpellsAct (name ∷ words) a → Alone act.Arm words a
      only act.Arm spells = (refl, spells.1)
      only a spells = absurd (other (codes "arm") (event_name a) (sym is ∙ named a name words spells) refl)

  pub start_reads : name ≡ codes "start" → Reads (Alone act.Start words) (λ x. ⊥) r → Reads (SpellsAct (name ∷ words)) IsBeyondAct r
  start_reads is =
      reads_as (Alone act.Start words) (λ x. ⊥) (SpellsAct (name ∷ words)) IsBeyondAct
      (λ x spells. subst (SpellsAct (name ∷ words)) (sym spells.0) (is, spells.1)) only (λ x far. absurd far) r
    where
      only : (a : Act) → SpellsAct (name ∷ words) a → Alone act.Start words a
      only act.Start spells = (refl, spells.1)
      only a spells = absurd (other (codes "start") (event_name a) (sym is ∙ named a name words spells) refl)

  pub free_reads : name ≡ codes "free" → Reads (Alone act.Free words) (λ x. ⊥) r → Reads (SpellsAct (name ∷ words)) IsBeyondAct r
  free_reads is =
      reads_as (Alone act.Free words) (λ x. ⊥) (SpellsAct (name ∷ words)) IsBeyondAct
      (λ x spells. subst (SpellsAct (name ∷ words)) (sym spells.0) (is, spells.1)) only (λ x far. absurd far) r
    where
      only : (a : Act) → SpellsAct (name ∷ words) a → Alone act.Free words a
      only act.Free spells = (refl, spells.1)
      only a spells = absurd (other (codes "free") (event_name a) (sym is ∙ named a name words spells) refl)

  pub ticket_reads : name ≡ codes "ticket" → Reads (Alone act.Ticket words) (λ x. ⊥) r → Reads (SpellsAct (name ∷ words)) IsBeyondAct r
  ticket_reads is =
      reads_as (Alone act.Ticket words) (λ x. ⊥) (SpellsAct (name ∷ words)) IsBeyondAct
      (λ x spells. subst (SpellsAct (name ∷ words)) (sym spells.0) (is, spells.1)) only (λ x far. absurd far) r
    where
      only : (a : Act) → SpellsAct (name ∷ words) a → Alone act.Ticket words a
      only act.Ticket spells = (refl, spells.1)
      only a spells = absurd (other (codes "ticket") (event_name a) (sym is ∙ named a name words spells) refl)

-- ---- acts on one slot

-- a slot is read from one word
pub slot_alone : (words : List (Bor (List ℕ))) → length words ≡ 1 → (r : Result SlotId EventRefused)
    → Reads (SlotAt words 0) IsBeyondSlot r → Reads (λ s. Each (Slot s ∷ []) (texts_of words)) IsBeyondSlot r
slot_alone words is r =
    rw (one_word words is)
    (reads_as (SlotAt words 0) IsBeyondSlot (λ s. Each (Slot s ∷ []) (word_at words 0 ∷ [])) IsBeyondSlot
    (λ s spells. (spells, tt)) (λ s spells. spells.0) (λ s far. far) r)

module _ (name : List ℕ) (words : List (List ℕ)) (r : Result SlotId EventRefused) (m : Result Act EventRefused) where
  pub add_reads : name ≡ codes "add" → MatchResult r (λ s. IsOkAnd m (λ a. a ≡ act.Add s)) (λ e. m ≡ Err e)
      → Reads (λ s. Each (Slot s ∷ []) words) IsBeyondSlot r → Reads (SpellsAct (name ∷ words)) IsBeyondAct m
  add_reads is =
      reads_made (λ s. Each (Slot s ∷ []) words) IsBeyondSlot (SpellsAct (name ∷ words)) IsBeyondAct (λ s. act.Add s)
      (λ s spells. (is, spells)) only (λ s far. far) r m
    where
      only : (a : Act) → SpellsAct (name ∷ words) a → (s : SlotId) × Each (Slot s ∷ []) words
      only (act.Add s) spells = (s, spells.1)
      only a spells = absurd (other (codes "add") (event_name a) (sym is ∙ named a name words spells) refl)

  pub drop_reads : name ≡ codes "drop" → MatchResult r (λ s. IsOkAnd m (λ a. a ≡ act.Drop s)) (λ e. m ≡ Err e)
      → Reads (λ s. Each (Slot s ∷ []) words) IsBeyondSlot r → Reads (SpellsAct (name ∷ words)) IsBeyondAct m
  drop_reads is =
      reads_made (λ s. Each (Slot s ∷ []) words) IsBeyondSlot (SpellsAct (name ∷ words)) IsBeyondAct (λ s. act.Drop s)
      (λ s spells. (is, spells)) only (λ s far. far) r m
    where
      only : (a : Act) → SpellsAct (name ∷ words) a → (s : SlotId) × Each (Slot s ∷ []) words
      only (act.Drop s) spells = (s, spells.1)
      only a spells = absurd (other (codes "drop") (event_name a) (sym is ∙ named a name words spells) refl)

  pub count_reads : name ≡ codes "count" → MatchResult r (λ s. IsOkAnd m (λ a. a ≡ act.Count s)) (λ e. m ≡ Err e)
      → Reads (λ s. Each (Slot s ∷ []) words) IsBeyondSlot r → Reads (SpellsAct (name ∷ words)) IsBeyondAct m
  count_reads is =
      reads_made (λ s. Each (Slot s ∷ []) words) IsBeyondSlot (SpellsAct (name ∷ words)) IsBeyondAct (λ s. act.Count s)
      (λ s spells. (is, spells)) only (λ s far. far) r m
    where
      only : (a : Act) → SpellsAct (name ∷ words) a → (s : SlotId) × Each (Slot s ∷ []) words
      only (act.Count s) spells = (s, spells.1)
      only a spells = absurd (other (codes "count") (event_name a) (sym is ∙ named a name words spells) refl)

  pub claim_reads : name ≡ codes "claim" → MatchResult r (λ s. IsOkAnd m (λ a. a ≡ act.Claim s)) (λ e. m ≡ Err e)
      → Reads (λ s. Each (Slot s ∷ []) words) IsBeyondSlot r → Reads (SpellsAct (name ∷ words)) IsBeyondAct m
  claim_reads is =
      reads_made (λ s. Each (Slot s ∷ []) words) IsBeyondSlot (SpellsAct (name ∷ words)) IsBeyondAct (λ s. act.Claim s)
      (λ s spells. (is, spells)) only (λ s far. far) r m
    where
      only : (a : Act) → SpellsAct (name ∷ words) a → (s : SlotId) × Each (Slot s ∷ []) words
      only (act.Claim s) spells = (s, spells.1)
      only a spells = absurd (other (codes "claim") (event_name a) (sym is ∙ named a name words spells) refl)

  pub wadd_reads : name ≡ codes "wadd" → MatchResult r (λ s. IsOkAnd m (λ a. a ≡ act.Wadd s)) (λ e. m ≡ Err e)
      → Reads (λ s. Each (Slot s ∷ []) words) IsBeyondSlot r → Reads (SpellsAct (name ∷ words)) IsBeyondAct m
  wadd_reads is =
      reads_made (λ s. Each (Slot s ∷ []) words) IsBeyondSlot (SpellsAct (name ∷ words)) IsBeyondAct (λ s. act.Wadd s)
      (λ s spells. (is, spells)) only (λ s far. far) r m
    where
      only : (a : Act) → SpellsAct (name ∷ words) a → (s : SlotId) × Each (Slot s ∷ []) words
      only (act.Wadd s) spells = (s, spells.1)
      only a spells = absurd (other (codes "wadd") (event_name a) (sym is ∙ named a name words spells) refl)

  pub wdrop_reads : name ≡ codes "wdrop" → MatchResult r (λ s. IsOkAnd m (λ a. a ≡ act.Wdrop s)) (λ e. m ≡ Err e)
      → Reads (λ s. Each (Slot s ∷ []) words) IsBeyondSlot r → Reads (SpellsAct (name ∷ words)) IsBeyondAct m
  wdrop_reads is =
      reads_made (λ s. Each (Slot s ∷ []) words) IsBeyondSlot (SpellsAct (name ∷ words)) IsBeyondAct (λ s. act.Wdrop s)
      (λ s spells. (is, spells)) only (λ s far. far) r m
    where
      only : (a : Act) → SpellsAct (name ∷ words) a → (s : SlotId) × Each (Slot s ∷ []) words
      only (act.Wdrop s) spells = (s, spells.1)
      only a spells = absurd (other (codes "wdrop") (event_name a) (sym is ∙ named a name words spells) refl)

  pub destroy_reads : name ≡ codes "destroy" → MatchResult r (λ s. IsOkAnd m (λ a. a ≡ act.Destroy s)) (λ e. m ≡ Err e)
      → Reads (λ s. Each (Slot s ∷ []) words) IsBeyondSlot r → Reads (SpellsAct (name ∷ words)) IsBeyondAct m
  destroy_reads is =
      reads_made (λ s. Each (Slot s ∷ []) words) IsBeyondSlot (SpellsAct (name ∷ words)) IsBeyondAct (λ s. act.Destroy s)
      (λ s spells. (is, spells)) only (λ s far. far) r m
    where
      only : (a : Act) → SpellsAct (name ∷ words) a → (s : SlotId) × Each (Slot s ∷ []) words
      only (act.Destroy s) spells = (s, spells.1)
      only a spells = absurd (other (codes "destroy") (event_name a) (sym is ∙ named a name words spells) refl)

  pub wcount_reads : name ≡ codes "wcount" → MatchResult r (λ s. IsOkAnd m (λ a. a ≡ act.Wcount s)) (λ e. m ≡ Err e)
      → Reads (λ s. Each (Slot s ∷ []) words) IsBeyondSlot r → Reads (SpellsAct (name ∷ words)) IsBeyondAct m
  wcount_reads is =
      reads_made (λ s. Each (Slot s ∷ []) words) IsBeyondSlot (SpellsAct (name ∷ words)) IsBeyondAct (λ s. act.Wcount s)
      (λ s spells. (is, spells)) only (λ s far. far) r m
    where
      only : (a : Act) → SpellsAct (name ∷ words) a → (s : SlotId) × Each (Slot s ∷ []) words
      only (act.Wcount s) spells = (s, spells.1)
      only a spells = absurd (other (codes "wcount") (event_name a) (sym is ∙ named a name words spells) refl)

-- ---- acts on one note or one seat

-- a number is read from one word
pub number_alone : (words : List (Bor (List ℕ))) → length words ≡ 1 → (r : Result ℕ EventRefused)
    → Reads (NumberAt words 0) IsTooLarge r → Reads (λ n. Each (Number n ∷ []) (texts_of words)) IsTooLarge r
number_alone words is r =
    rw (one_word words is)
    (reads_as (NumberAt words 0) IsTooLarge (λ n. Each (Number n ∷ []) (word_at words 0 ∷ [])) IsTooLarge
    (λ n spells. (spells, tt)) (λ n spells. spells.0) (λ n far. far) r)

module _ (name : List ℕ) (words : List (List ℕ)) (r : Result ℕ EventRefused) (m : Result Act EventRefused) where
  pub release_reads : name ≡ codes "release" → MatchResult r (λ j. IsOkAnd m (λ a. a ≡ act.Release j)) (λ e. m ≡ Err e)
      → Reads (λ j. Each (Number j ∷ []) words) IsTooLarge r → Reads (SpellsAct (name ∷ words)) IsBeyondAct m
  release_reads is =
      reads_made (λ j. Each (Number j ∷ []) words) IsTooLarge (SpellsAct (name ∷ words)) IsBeyondAct (λ j. act.Release j)
      (λ j spells. (is, spells)) only (λ j far. far) r m
    where
      only : (a : Act) → SpellsAct (name ∷ words) a → (j : ℕ) × Each (Number j ∷ []) words
      only (act.Release j) spells = (j, spells.1)
      only a spells = absurd (other (codes "release") (event_name a) (sym is ∙ named a name words spells) refl)

  pub alive_reads : name ≡ codes "alive" → MatchResult r (λ j. IsOkAnd m (λ a. a ≡ act.Alive j)) (λ e. m ≡ Err e)
      → Reads (λ j. Each (Number j ∷ []) words) IsTooLarge r → Reads (SpellsAct (name ∷ words)) IsBeyondAct m
  alive_reads is =
      reads_made (λ j. Each (Number j ∷ []) words) IsTooLarge (SpellsAct (name ∷ words)) IsBeyondAct (λ j. act.Alive j)
      (λ j spells. (is, spells)) only (λ j far. far) r m
    where
      only : (a : Act) → SpellsAct (name ∷ words) a → (j : ℕ) × Each (Number j ∷ []) words
      only (act.Alive j) spells = (j, spells.1)
      only a spells = absurd (other (codes "alive") (event_name a) (sym is ∙ named a name words spells) refl)

  pub leave_reads : name ≡ codes "leave" → MatchResult r (λ j. IsOkAnd m (λ a. a ≡ act.Leave j)) (λ e. m ≡ Err e)
      → Reads (λ j. Each (Number j ∷ []) words) IsTooLarge r → Reads (SpellsAct (name ∷ words)) IsBeyondAct m
  leave_reads is =
      reads_made (λ j. Each (Number j ∷ []) words) IsTooLarge (SpellsAct (name ∷ words)) IsBeyondAct (λ j. act.Leave j)
      (λ j spells. (is, spells)) only (λ j far. far) r m
    where
      only : (a : Act) → SpellsAct (name ∷ words) a → (j : ℕ) × Each (Number j ∷ []) words
      only (act.Leave j) spells = (j, spells.1)
      only a spells = absurd (other (codes "leave") (event_name a) (sym is ∙ named a name words spells) refl)
