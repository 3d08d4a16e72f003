-- A seat that knows the whole core reads it, and what it reads is the image of what the core shows.
use Rattle.std.proofs.Common.{◌≡◌, ◌≢◌, ⊎_elim, ℕ, zero, suc, ◌+◌, ◌-◌, ◌^◌, ◌<◌, ◌≤◌, true, false, List, [], ◌∷◌, ◌++◌, length, map, get_or, refl, ap, sym, ◌∙◌, subst, arith}
use Rattle.std.specs.Prelude.{◌==◌, slice_index, nat_lt, Option, IsSome, if◌then◌else◌}
use Rattle.std.proofs.lemmas.Bool.{cases_eq, cases_lt}
use Rattle.std.proofs.lemmas.Bool.Decides.{nat_tests}
use Rattle.atomic_table.specs.Table.{Me}
use Rattle.atomic_table.specs.declared.shared.Seat.{Seat as TableSeat}
use Rattle.plain_state.specs.declared.image.Heap.{Heap}
use Rattle.plain_state.specs.declared.image.SlotImage.{SlotImage}
use Rattle.plain_state.specs.declared.slot.SlotId.{SlotId}
use Rattle.plain_state.specs.declared.slot.PlainSlot.{PlainSlot}
use Rattle.plain_state.specs.Fits.{AllFit}
use Rattle.plain_state.specs.Images.{IsImage, free_image, image_at, image_of}
use Rattle.plain_state.specs.References.{own_reference, strong_refs, weak_refs}
use Rattle.plain_state.specs.State.{seat_at}
use Rattle.plain_state.specs.Steps.{word_of}
use Rattle.core_promises.specs.core_events.declared.shape.Shape.{Shape}
use Rattle.core_promises.specs.core_events.declared.view.CoreView.{CoreView}
use Rattle.core_promises.specs.core_events.declared.view.Phase.TheVariants as phase
use Rattle.core_promises.specs.core_events.Counts.{barers, baring, strong, weak}
use Rattle.core_promises.specs.core_events.Good.{CountLaw}
use Rattle.core_promises.specs.core_events.Runs.{Core, view_at}
use Rattle.core_promises.specs.core_events.Shows.{show_slot, shows}
use Rattle.core_promises.specs.core_events.Words.{cell_at, each_from, field_at, payload_at, slot_at, slot_in, weak_cell_at, weak_field_at}
use Rattle.plain_state.specs.counter_word.Words.{ZERO, has_zero}
use Rattle.core_promises.specs.core_law.Sound.{Sound}
use Rattle.core_promises.proofs.Below.core_law_Always.{history_sound}
use Rattle.core_promises.proofs.Below.core_law_Parts.{sound_good}
use Rattle.core_promises.proofs.Below.core_law_Bridge.{shown_slot, shown_strong, shown_weak, total_zero}
use Rattle.core_promises.proofs.Below.core_law_Each.{get_each, length_each}
use Rattle.core_promises.proofs.Below.core_law_Lists.{each_push, each_same}
use Rattle.domain_rule.specs.declared.view.SeatView.{SeatView}
use Rattle.domain_rule.specs.declared.view.Whole.{Whole}
use Rattle.domain_rule.specs.Reading.{HasRead}
use Rattle.domain_rule.specs.Rule.{OthersLeft}
use Rattle.domain_rule.proofs.Reading.{known_is}
use Rattle.acquire_retire.specs.Domains.{DomainState}
use Rattle.acquire_retire.specs.Wholes.{IsSame, KnowsCore, core_known, known_core, known_state, known_word, strong_image}

module _ {P V : Type 0} (d : DomainState P) (fits : List ℕ → Type 0)
    (old new : TableSeat (Unit {0}) (SeatView V)) (word w : ℕ) (table : new.table_id ≡ old.table_id)
    (read : HasRead fits d.shape d.terms word w old.me.0 new.me.0) (carries : new.me.1 ≡ old.me.1)
    (knows : IsSome old.me.0.whole) where
  view_stays : new.me.0 ≡ old.me.0
  view_stays = read.same
      ∙ ap (λ (known : Option Whole). record old.me.0 { whole = known }) (read.stays knows)

  pub read_stays : IsSame old new
  read_stays = (table, λ i. (view_stays i, carries i))

  -- the state in which the seat has read is the one that it knows
  core_is : known_core old.me.0 ≡ read.found.core
  core_is = known_is old.me.0.whole (known_core old.me.0 ≡ read.found.core)
      (λ all e. ap core_known e ∙ (read.found.says.whole all (read.stays knows ∙ e)).0) knows

  pub read_word : w ≡ known_word old word
  read_word = read.found.word ∙ ap (λ (c : Core). slice_index c.words word) (sym core_is)

  -- no slot is claimed bare where that seat is idle, and all others have left
  none_bare : old.me.0.core.phase ≡ phase.Idle → (x : SlotId) → barers read.found.core x ≡ 0
  none_bare idle x = total_zero (λ (v : CoreView). baring x v.phase) c.views each
    where
      c : Core
      c = read.found.core

      so : Sound d.shape c
      so = history_sound d.shape d.terms read.found.events c read.found.shape read.found.terms
          read.found.history

      others : (new.me.0.core.seat ≡ 0) × OthersLeft c
      others = known_is old.me.0.whole ((new.me.0.core.seat ≡ 0) × OthersLeft c)
          (λ all e. let t = read.found.says.whole all (read.stays knows ∙ e) in (t.1, t.2)) knows

      own : (view_at c 0).phase ≡ phase.Idle
      own = sym (ap (λ (u : CoreView). u.phase)
          (read.found.says.core ∙ ap (view_at c) others.0))
          ∙ (ap (λ (v : SeatView V). v.core.phase) view_stays ∙ idle)

      each : (n : ℕ) → n < length c.views → baring x (view_at c n).phase ≡ 0
      each n below = ⊎_elim
          (λ (first : n ≡ 0). ap (baring x) (ap (λ (m : ℕ). (view_at c m).phase) first ∙ own))
          (λ (later : n ≢ 0).
          let views = so.views in
          ap (baring x) ((so.seats n (omega arith)).gone (others.1 n (omega arith) below)).0)
          (cases_eq n 0)

  pub read_knows : old.table_id ≡ d.table → old.me.0.gone ≡ false
      → old.me.0.core.phase ≡ phase.Idle → KnowsCore d fits old
  read_knows of here idle = record {
    table = of;
    here = here;
    knows = knows;
    armed = λ x. ap (λ (c : Core). barers c x) core_is ∙ none_bare idle x;
    sound = subst (Sound d.shape) (sym core_is)
        (history_sound d.shape d.terms read.found.events read.found.core read.found.shape
        read.found.terms read.found.history);
    fit = subst (λ (c : Core). AllFit fits (shows d.shape c)) (sym core_is) read.found.fit;
    half = subst (λ (v : SeatView V). v.core ≡ view_at read.found.core v.core.seat) view_stays
        read.found.says.core
        ∙ ap (λ (c : Core). view_at c old.me.0.core.seat) (sym core_is);
  }

module _ {V : Type 0} (s t : TableSeat (Unit {0}) (SeatView V)) (same : IsSame s t) where
  -- a seat that is as it was knows what it knew
  pub same_knows : {P : Type 0} (d : DomainState P) (fits : List ℕ → Type 0) → KnowsCore d fits s
      → KnowsCore d fits t
  same_knows d fits k = record {
    table = same.0 ∙ k.table;
    here = subst (λ (m : Me (Unit {0}) (SeatView V)). m.0.gone ≡ false) (sym same.1) k.here;
    knows = subst (λ (m : Me (Unit {0}) (SeatView V)). IsSome m.0.whole) (sym same.1) k.knows;
    sound = subst (λ (m : Me (Unit {0}) (SeatView V)). Sound d.shape (known_core m.0))
        (sym same.1) k.sound;
    fit = subst (λ (m : Me (Unit {0}) (SeatView V)). AllFit fits (shows d.shape (known_core m.0)))
        (sym same.1) k.fit;
    armed = λ x. ap (λ (m : Me (Unit {0}) (SeatView V)). barers (known_core m.0) x) same.1
        ∙ k.armed x;
    half = subst (λ (m : Me (Unit {0}) (SeatView V)). m.0.core
        ≡ view_at (known_core m.0) m.0.core.seat) (sym same.1) k.half;
  }

  pub same_word : (i : ℕ) → known_word t i ≡ known_word s i
  same_word i = ap (λ (m : Me (Unit {0}) (SeatView V)). slice_index (known_core m.0).words i) same.1

  pub same_words : (first n : ℕ) → each_from 0 n (λ i. known_word t (first + i))
      ≡ each_from 0 n (λ i. known_word s (first + i))
  same_words first n = ap (λ (m : Me (Unit {0}) (SeatView V)).
      each_from 0 n (λ i. slice_index (known_core m.0).words (first + i))) same.1

  pub same_state : {P : Type 0} (d : DomainState P) → known_state d t ≡ known_state d s
  same_state d = ap (λ (m : Me (Unit {0}) (SeatView V)). shows d.shape (known_core m.0)) same.1

-- one more comes last
pub one_each : {A : Type 0} (f : ℕ → A) (i : ℕ) (x : A) (old new : List A) → new ≡ old ++ x ∷ []
    → old ≡ each_from 0 i f → x ≡ f i → new ≡ each_from 0 (i + 1) f
one_each f i x old new pushed before is =
    let at : 0 + i ≡ i = omega arith in
    let next : suc i ≡ i + 1 = omega arith in
    pushed
    ∙ ((λ k. before k ++ (is ∙ ap f (sym at)) k ∷ [])
    ∙ (sym (each_push 0 i f) ∙ ap (λ (n : ℕ). each_from 0 n f) next))

-- a list with these numbers in their places is the list of them
each_of : (f : ℕ → ℕ) (i n : ℕ) (xs : List ℕ) → length xs ≡ n
    → ((k : ℕ) → k < n → get_or xs k 0 ≡ f (i + k)) → xs ≡ each_from i n f
each_of f i zero [] size each = refl
each_of f i zero (x ∷ xs) size each = absurd (omega arith)
each_of f i (suc n) [] size each = absurd (omega arith)
each_of f i (suc n) (x ∷ xs) size each =
    let at : i + 0 ≡ i = omega arith in
    let head : x ≡ f i = each 0 (omega arith) ∙ ap f at in
    let tail : xs ≡ each_from (i + 1) n f = each_of f (i + 1) n xs (omega arith)
    (λ k h. let next : i + suc k ≡ i + 1 + k = omega arith in
    each (suc k) (omega arith) ∙ ap f next) in
    λ j. head j ∷ tail j

pub all_each : (f : ℕ → ℕ) (n : ℕ) (xs : List ℕ) → length xs ≡ n
    → ((k : ℕ) → k < n → get_or xs k 0 ≡ f k) → xs ≡ each_from 0 n f
all_each f n xs size each = each_of f 0 n xs size
    (λ k h. let at : k ≡ 0 + k = omega arith in each k h ∙ ap f at)

-- the words of places are those of the slots that they hold
word_held : (w : ℕ) → word_of (slot_in w) ≡ w
word_held w = ⊎_elim
    (λ (null : w ≡ 0). rw null refl)
    (λ (some : w ≢ 0).
    let test : (w == 0) ≡ false = grind (arith, nat_tests) in
    let e : w - 1 + 1 ≡ w = omega arith in rw test e)
    (cases_eq w 0)

pub words_held : (f : ℕ → ℕ) (i n : ℕ) → map word_of (each_from i n (λ k. slot_in (f k)))
    ≡ each_from i n f
words_held f i zero = refl
words_held f i (suc n) = λ j. word_held (f i) j ∷ words_held f (i + 1) n j

module _ (z : Shape) (c : Core) (so : Sound z c) (s : SlotId) (h : s.0 < z.slots)
    (armed : barers c s ≡ 0) where
  counted : CountLaw z c s
  counted = (sound_good z c so).counts s h

  strong_shown : (if has_zero (strong z c s) then 2 ^ 63 else strong_refs (shows z c) s)
      ≡ strong_image (strong z c s)
  strong_shown = ⊎_elim
      (λ (lt : strong z c s < ZERO).
      let mark : has_zero (strong z c s) ≡ false = grind (arith, nat_tests) in
      let below : nat_lt (strong z c s) ZERO ≡ true = grind (arith, nat_tests) in
      rw (mark, below) (shown_strong z c s ∙ sym (rw below at counted.strong_count)))
      (λ (le : ZERO ≤ strong z c s).
      let mark : has_zero (strong z c s) ≡ true = grind (arith, nat_tests) in
      let below : nat_lt (strong z c s) ZERO ≡ false = grind (arith, nat_tests) in
      rw (mark, below) refl)
      (cases_lt (strong z c s) ZERO)

  weak_shown : weak_refs (shows z c) s ≡ weak z c s
  weak_shown =
      let shown = shown_weak z c s in
      let same = ap (λ (x : PlainSlot). own_reference x.stage) (shown_slot z c s h) in
      ⊎_elim (λ counts. omega arith) (λ bare. let some = bare.1 in absurd (omega arith))
      counted.weak_count

  -- the image of a slot, by its words
  pub image_words : image_at (shows z c) s ≡ record {
    strong = strong_image (strong z c s);
    weak = weak z c s;
    fields = slice_index c.words (field_at z s 0) ∷ slice_index c.words (field_at z s 1) ∷ [];
    weak_field = slice_index c.words (weak_field_at z s);
    payload = each_from 0 16 (λ i. slice_index c.words (payload_at z s i));
  }
  image_words =
      ap (λ (x : PlainSlot). image_of x (strong_refs (shows z c) s) (weak_refs (shows z c) s))
      (shown_slot z c s h)
      ∙ (λ i. record {
        strong = strong_shown i;
        weak = weak_shown i;
        fields = word_held (slice_index c.words (field_at z s 0)) i
            ∷ word_held (slice_index c.words (field_at z s 1)) i ∷ [];
        weak_field = word_held (slice_index c.words (weak_field_at z s)) i;
        payload = each_from 0 16 (λ k. slice_index c.words (payload_at z s k));
      })

  -- words that are read from the slot's first word on make its image
  module _ (at strong_word weak_word first second weak_field : ℕ) (payload : List ℕ)
      (is : at ≡ slot_at z s.0) (strong_is : strong_word ≡ strong_image (slice_index c.words at))
      (weak_is : weak_word ≡ slice_index c.words (at + 1))
      (first_is : first ≡ slice_index c.words (at + 2))
      (second_is : second ≡ slice_index c.words (at + 3))
      (weak_field_is : weak_field ≡ slice_index c.words (at + 4))
      (payload_is : payload ≡ each_from 0 16 (λ i. slice_index c.words (at + 5 + i))) where
    at_first : at + 2 ≡ field_at z s 0
    at_first = omega arith

    at_second : at + 3 ≡ field_at z s 1
    at_second = omega arith

    pub read_image : (record {
      strong = strong_word;
      weak = weak_word;
      fields = first ∷ second ∷ [];
      weak_field = weak_field;
      payload = payload;
    }) ≡ image_at (shows z c) s
    read_image = (λ i. record {
      strong = (strong_is ∙ ap (λ (n : ℕ). strong_image (slice_index c.words n)) is) i;
      weak = (weak_is ∙ ap (λ (n : ℕ). slice_index c.words (n + 1)) is) i;
      fields = (first_is ∙ ap (slice_index c.words) at_first) i
          ∷ (second_is ∙ ap (slice_index c.words) at_second) i ∷ [];
      weak_field = (weak_field_is ∙ ap (λ (n : ℕ). slice_index c.words (n + 4)) is) i;
      payload = (payload_is
          ∙ ap (λ (n : ℕ). each_from 0 16 (λ k. slice_index c.words (n + 5 + k))) is) i;
    }) ∙ sym image_words

-- as many slots are shown as there are
pub slots_shown : (z : Shape) (c : Core) → length (shows z c).slots ≡ z.slots
slots_shown z c = length_each 0 z.slots (λ x. show_slot z c (record { 0 = x }))

-- words that are read from the first of the cells on are those of the cells
module _ (z : Shape) (c : Core) (words : List ℕ) (first : ℕ) where
  pub cell_words : words ≡ each_from 0 z.cells (λ i. slice_index c.words (first + i))
      → first ≡ cell_at z 0 → words ≡ map word_of (shows z c).cells
  cell_words cells first_is = cells
      ∙ (each_same z.cells (λ i. slice_index c.words (cell_at z i))
      (λ i. slice_index c.words (first + i))
      (λ i h. let e : first + i ≡ cell_at z i = omega arith in ap (slice_index c.words) e)
      ∙ sym (words_held (λ i. slice_index c.words (cell_at z i)) 0 z.cells))

  pub weak_cell_words : words ≡ each_from 0 z.weak_cells (λ i. slice_index c.words (first + i))
      → first ≡ weak_cell_at z 0 → words ≡ map word_of (shows z c).weak_cells
  weak_cell_words weak_cells first_is = weak_cells
      ∙ (each_same z.weak_cells (λ i. slice_index c.words (weak_cell_at z i))
      (λ i. slice_index c.words (first + i))
      (λ i h. let e : first + i ≡ weak_cell_at z i = omega arith in ap (slice_index c.words) e)
      ∙ sym (words_held (λ i. slice_index c.words (weak_cell_at z i)) 0 z.weak_cells))

-- with the images of all slots, these words make the image
pub heap_words : (z : Shape) (c : Core) (heap : Heap) (first weak_first : ℕ)
    → heap.slots.items ≡ each_from 0 z.slots (λ x. image_at (shows z c) (record { 0 = x }))
    → heap.cells.items ≡ each_from 0 z.cells (λ i. slice_index c.words (first + i))
    → first ≡ cell_at z 0
    → heap.weak_cells.items ≡ each_from 0 z.weak_cells (λ i. slice_index c.words (weak_first + i))
    → weak_first ≡ weak_cell_at z 0
    → heap.deferred.items ≡ (seat_at (shows z c) 0).deferred → IsImage (shows z c) heap
heap_words z c heap first weak_first slots cells first_is weak_cells weak_is deferred = record {
  size = ap length slots ∙ length_each 0 z.slots image ∙ sym (slots_shown z c);
  slots = λ s h.
      let at : 0 + s.0 ≡ s.0 = omega arith in
      ap (λ (xs : List SlotImage). get_or xs s.0 free_image) slots
      ∙ (get_each 0 z.slots s.0 image free_image (let n = slots_shown z c in omega arith)
      ∙ ap image at);
  cells = cell_words z c heap.cells.items first cells first_is;
  weak_cells = weak_cell_words z c heap.weak_cells.items weak_first weak_cells weak_is;
  deferred = deferred;
}
  where
    image : ℕ → SlotImage
    image x = image_at (shows z c) (record { 0 = x })
