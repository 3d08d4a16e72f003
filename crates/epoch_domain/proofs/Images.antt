-- A seat that knows the whole core reads it, and what it reads is the image of what the core shows.
use Rattle.std.proofs.Common.{◌≡◌, ◌≢◌, ⊎_elim, ℕ, zero, suc, ◌+◌, ◌-◌, ◌^◌, ◌<◌, ◌≤◌, false, List, [], ◌∷◌, ◌++◌, length, map, get_or, refl, ap, sym, ◌∙◌, subst, arith, append-nil}
use Rattle.std.specs.Prelude.{◌==◌, slice_index, IsSome, if◌then◌else◌}
use Rattle.std.proofs.lemmas.Bool.{cases_eq, cases_lt}
use Rattle.std.proofs.lemmas.Bool.Decides.{nat_tests}
use Rattle.atomic_table.specs.Table.{Me}
use Rattle.atomic_table.specs.declared.shared.Seat.{Seat as TableSeat}
use Rattle.core_law.proofs.Each.{get_each, length_each}
use Rattle.core_law.proofs.Lists.{each_push, each_same}
use Rattle.epoch_parts.specs.plain_state.counter_word.Words.{ZERO}
use Rattle.epoch_parts.specs.plain_state.declared.image.Heap.{Heap}
use Rattle.epoch_parts.specs.plain_state.declared.image.SlotImage.{SlotImage}
use Rattle.epoch_parts.specs.plain_state.declared.slot.PlainSlot.{PlainSlot}
use Rattle.epoch_parts.specs.plain_state.declared.slot.SlotId.{SlotId}
use Rattle.epoch_parts.specs.plain_state.declared.slot.Stage.TheVariants.{Blank, Ended, Free, Live}
use Rattle.epoch_parts.specs.plain_state.Fits.{AllFit}
use Rattle.epoch_parts.specs.plain_state.Images.{IsImage, free_image, image_at, image_of}
use Rattle.epoch_parts.specs.plain_state.References.{own_reference, strong_refs, weak_refs}
use Rattle.epoch_parts.specs.plain_state.State.{PlainSeat, seat_at}
use Rattle.epoch_parts.specs.plain_state.Steps.{word_of}
use Rattle.epoch_rule.specs.epoch_core.core_events.Words.{each_from, slot_in}
use Rattle.epoch_rule.specs.epoch_core.declared.act.Dated.{Dated}
use Rattle.epoch_rule.specs.epoch_core.declared.shape.EpochShape.{EpochShape}
use Rattle.epoch_rule.specs.epoch_core.declared.view.EpochView.{EpochView}
use Rattle.epoch_rule.specs.epoch_core.Counts.{adds_used, count}
use Rattle.epoch_rule.specs.epoch_core.Good.{stage, stage_of}
use Rattle.epoch_rule.specs.epoch_core.Runs.{Core, view_at}
use Rattle.epoch_rule.specs.epoch_core.Shows.{is_marked, show_seat, show_slot, shows, undated_entry}
use Rattle.epoch_rule.specs.epoch_core.Slots.{Numbers, SlotLaw, free, held, live, numbers}
use Rattle.epoch_rule.specs.epoch_core.Sound.{Sound}
use Rattle.epoch_rule.specs.epoch_core.Views.{IsIdle}
use Rattle.epoch_rule.specs.epoch_core.Words.{cell_at, field_at, free_word, payload_at, slot_at}
use Rattle.epoch_core.proofs.Bridge.{shown_seat, shown_slot, shown_strong, shown_weak}
use Rattle.epoch_core.proofs.Keeps.{history_sound}
use Rattle.epoch_core.proofs.Put.{adds_fit}
use Rattle.epoch_rule.specs.declared.view.EpochSeatView.{EpochSeatView}
use Rattle.epoch_rule.specs.Reading.{HasRead}
use Rattle.epoch_rule.proofs.Reading.{known_is}
use Rattle.epoch_parts.specs.Pending.{deferred_of}
use Rattle.epoch_domain.specs.Domains.{DomainState}
use Rattle.epoch_domain.specs.Wholes.{IsSame, KnowsCore, core_known, known_core, known_state, known_word, strong_image, weak_image}

-- A LOAD
module _ {P V : Type 0} (d : DomainState P) (fits : List ℕ → Type 0)
    (old new : TableSeat (Unit {0}) (EpochSeatView V)) (word w : ℕ) (table : new.table_id ≡ old.table_id)
    (read : HasRead fits d.shape d.quotas word w old.me.0 new.me.0) (carries : new.me.1 ≡ old.me.1)
    (knows : IsSome old.me.0.whole) where
  view_stays : new.me.0 ≡ old.me.0
  view_stays = read.same ∙ (λ i. record old.me.0 { whole = read.stays knows i })

  pub read_stays : IsSame old new
  read_stays = (table, λ i. (view_stays i, carries i))

  -- the state in which the seat has read is the one that it knows
  core_is : known_core old.me.0 ≡ read.found.core
  core_is = known_is old.me.0.whole (known_core old.me.0 ≡ read.found.core)
      (λ all e. ap core_known e ∙ (read.found.says.whole all (read.stays knows ∙ e)).0) knows

  pub read_word : w ≡ known_word old word
  read_word = read.found.word ∙ ap (λ (c : Core). slice_index c.words word) (sym core_is)

  pub read_knows : old.table_id ≡ d.table → old.me.0.gone ≡ false → KnowsCore d fits old
  read_knows of here = record {
    table = of;
    here = here;
    knows = knows;
    sound = subst (Sound d.shape) (sym core_is)
        (history_sound d.shape d.quotas read.found.events read.found.core read.found.shape
        read.found.quotas read.found.history);
    fit = subst (λ (c : Core). AllFit fits (shows d.shape c)) (sym core_is) read.found.fit;
    half = subst (λ (v : EpochSeatView V). v.core ≡ view_at read.found.core v.core.seat) view_stays
        read.found.says.core
        ∙ ap (λ (c : Core). view_at c old.me.0.core.seat) (sym core_is);
  }

module _ {V : Type 0} (s t : TableSeat (Unit {0}) (EpochSeatView V)) (same : IsSame s t) where
  -- a seat that is as it was knows what it knew
  pub same_knows : {P : Type 0} (d : DomainState P) (fits : List ℕ → Type 0) → KnowsCore d fits s
      → KnowsCore d fits t
  same_knows d fits k = record {
    table = same.0 ∙ k.table;
    here = subst (λ (m : Me (Unit {0}) (EpochSeatView V)). m.0.gone ≡ false) (sym same.1) k.here;
    knows = subst (λ (m : Me (Unit {0}) (EpochSeatView V)). IsSome m.0.whole) (sym same.1) k.knows;
    sound = subst (λ (m : Me (Unit {0}) (EpochSeatView V)). Sound d.shape (known_core m.0))
        (sym same.1) k.sound;
    fit = subst (λ (m : Me (Unit {0}) (EpochSeatView V)). AllFit fits (shows d.shape (known_core m.0)))
        (sym same.1) k.fit;
    half = subst (λ (m : Me (Unit {0}) (EpochSeatView V)). m.0.core
        ≡ view_at (known_core m.0) m.0.core.seat) (sym same.1) k.half;
  }

  pub same_words : (first n : ℕ) → each_from 0 n (λ i. known_word t (first + i))
      ≡ each_from 0 n (λ i. known_word s (first + i))
  same_words first n = ap (λ (m : Me (Unit {0}) (EpochSeatView V)).
      each_from 0 n (λ i. slice_index (known_core m.0).words (first + i))) same.1

  pub same_state : {P : Type 0} (d : DomainState P) → known_state d t ≡ known_state d s
  same_state d = ap (λ (m : Me (Unit {0}) (EpochSeatView V)). shows d.shape (known_core m.0)) same.1

-- LISTS OF WORDS
-- one more comes last
pub one_each : {A : Type 0} (f : ℕ → A) (i : ℕ) (x : A) (old new : List A) → new ≡ old ++ x ∷ []
    → old ≡ each_from 0 i f → x ≡ f i → new ≡ each_from 0 (i + 1) f
one_each f i x old new pushed before is =
    let at : 0 + i ≡ i = omega arith in
    let next : suc i ≡ i + 1 = omega arith in
    pushed
    ∙ ((λ k. before k ++ (is ∙ ap f (sym at)) k ∷ [])
    ∙ (sym (each_push 0 i f) ∙ ap (λ (n : ℕ). each_from 0 n f) next))

-- a list with these numbers in their places is the list of them
each_of : (f : ℕ → ℕ) (i n : ℕ) (xs : List ℕ) → length xs ≡ n
    → ((k : ℕ) → k < n → get_or xs k 0 ≡ f (i + k)) → xs ≡ each_from i n f
each_of f i zero [] size each = refl
each_of f i zero (x ∷ xs) size each = absurd (omega arith)
each_of f i (suc n) [] size each = absurd (omega arith)
each_of f i (suc n) (x ∷ xs) size each =
    let at : i + 0 ≡ i = omega arith in
    let head : x ≡ f i = each 0 (omega arith) ∙ ap f at in
    let tail : xs ≡ each_from (i + 1) n f = each_of f (i + 1) n xs (omega arith)
    (λ k h. let next : i + suc k ≡ i + 1 + k = omega arith in
    each (suc k) (omega arith) ∙ ap f next) in
    λ j. head j ∷ tail j

pub all_each : (f : ℕ → ℕ) (n : ℕ) (xs : List ℕ) → length xs ≡ n
    → ((k : ℕ) → k < n → get_or xs k 0 ≡ f k) → xs ≡ each_from 0 n f
all_each f n xs size each = each_of f 0 n xs size
    (λ k h. let at : k ≡ 0 + k = omega arith in each k h ∙ ap f at)

-- the words of places are those of the slots that they hold
word_held : (w : ℕ) → word_of (slot_in w) ≡ w
word_held w = ⊎_elim
    (λ (null : w ≡ 0). rw null refl)
    (λ (some : w ≢ 0).
    let test : (w == 0) ≡ false = grind (arith, nat_tests) in
    let e : w - 1 + 1 ≡ w = omega arith in rw test e)
    (cases_eq w 0)

words_held : (f : ℕ → ℕ) (i n : ℕ) → map word_of (each_from i n (λ k. slot_in (f k)))
    ≡ each_from i n f
words_held f i zero = refl
words_held f i (suc n) = λ j. word_held (f i) j ∷ words_held f (i + 1) n j

-- THE COUNTS OF A SLOT, by its numbers
stage_free : (m : Numbers) → m.word ≡ free_word → stage_of m.word m.filling m.dying ≡ Free
unfolding stage_of
stage_free m is = grind (arith, nat_tests)

stage_blank : (m : Numbers) → m.word ≡ 0 → 0 < m.filling
    → stage_of m.word m.filling m.dying ≡ Blank
unfolding stage_of
stage_blank m is fills = grind (arith, nat_tests)

stage_ended : (m : Numbers) → m.word ≡ 0 → m.filling ≡ 0 → 0 < m.dying
    → stage_of m.word m.filling m.dying ≡ Ended
unfolding stage_of
stage_ended m is none dies = grind (arith, nat_tests)

stage_live : (m : Numbers) → m.word < 2 ^ 63 → m.filling ≡ 0 → m.dying ≡ 0
    → stage_of m.word m.filling m.dying ≡ Live
unfolding stage_of
stage_live m below none alive = grind (arith, nat_tests)

-- what the image of a slot in this stage has as its strong word and its weak one
abbrev Imaged : Numbers → Type 0
Imaged m =
    ((if is_marked (stage_of m.word m.filling m.dying) then ZERO else m.refs) ≡ strong_image m.word)
    × (own_reference (stage_of m.word m.filling m.dying) ≡ weak_image m.word)

imaged : (most : ℕ) (m : Numbers) → SlotLaw most m → most < 2 ^ 60 → Imaged m
imaged most m (free l) fit =
    let e = stage_free m l.word in (rw (e, l.word) refl, rw (e, l.word) refl)
imaged most m (held l) fit = ⊎_elim
    (λ (fills : 0 < m.filling).
    let e = stage_blank m l.word fills in (rw (e, l.word) refl, rw (e, l.word) refl))
    (λ (none : m.filling ≤ 0).
    let one = l.one in
    let e = stage_ended m l.word (omega (arith, none)) (omega (arith, one, none)) in
    (rw (e, l.word) refl, rw (e, l.word) refl))
    (cases_lt 0 m.filling)
imaged most m (live l) fit =
    let few = l.few in
    let some = l.some in
    let word = l.word in
    let e = stage_live m (omega (arith, few, fit)) l.filling l.dying in
    let some_word : (m.word == 0) ≡ false = grind (arith, nat_tests) in
    let not_free : (m.word == free_word) ≡ false = grind (arith, nat_tests) in
    (rw (e, some_word) (sym word), rw (e, not_free) refl)

module _ (z : EpochShape) (c : Core) (so : Sound z c) (s : SlotId) (h : s.0 < z.slots) where
  counted : Imaged (numbers z c s)
  counted = imaged (adds_used c) (numbers z c s) (so.slots s h) (adds_fit z c so)

  strong_shown : (if is_marked (stage z c s) then ZERO else strong_refs (shows z c) s)
      ≡ strong_image (count z c s)
  strong_shown =
      ap (λ (n : ℕ). if is_marked (stage z c s) then ZERO else n) (shown_strong z c s) ∙ counted.0

  weak_shown : weak_refs (shows z c) s ≡ weak_image (count z c s)
  weak_shown =
      shown_weak z c s ∙ (ap (λ (x : PlainSlot). own_reference x.stage) (shown_slot z c s h)
      ∙ counted.1)

  -- the image of a slot, by its words
  image_words : image_at (shows z c) s ≡ record {
    strong = strong_image (count z c s);
    weak = weak_image (count z c s);
    fields = slice_index c.words (field_at z s 0) ∷ slice_index c.words (field_at z s 1) ∷ [];
    weak_field = 0;
    payload = each_from 0 16 (λ i. slice_index c.words (payload_at z s i));
  }
  image_words =
      ap (λ (x : PlainSlot). image_of x (strong_refs (shows z c) s) (weak_refs (shows z c) s))
      (shown_slot z c s h)
      ∙ (λ i. record {
        strong = strong_shown i;
        weak = weak_shown i;
        fields = word_held (slice_index c.words (field_at z s 0)) i
            ∷ word_held (slice_index c.words (field_at z s 1)) i ∷ [];
        weak_field = 0;
        payload = each_from 0 16 (λ k. slice_index c.words (payload_at z s k));
      })

  -- words that are read from the slot's first word on make its image
  module _ (at strong_word weak_word first second : ℕ) (payload : List ℕ) (is : at ≡ slot_at z s.0)
      (strong_is : strong_word ≡ strong_image (slice_index c.words at))
      (weak_is : weak_word ≡ weak_image (slice_index c.words at))
      (first_is : first ≡ slice_index c.words (at + 1))
      (second_is : second ≡ slice_index c.words (at + 2))
      (payload_is : payload ≡ each_from 0 16 (λ i. slice_index c.words (at + 3 + i))) where
    at_first : at + 1 ≡ field_at z s 0
    at_first = omega (arith, is)

    at_second : at + 2 ≡ field_at z s 1
    at_second = omega (arith, is)

    pub read_image : (record {
      strong = strong_word;
      weak = weak_word;
      fields = first ∷ second ∷ [];
      weak_field = 0;
      payload = payload;
    }) ≡ image_at (shows z c) s
    read_image = (λ i. record {
      strong = (strong_is ∙ ap (λ (n : ℕ). strong_image (slice_index c.words n)) is) i;
      weak = (weak_is ∙ ap (λ (n : ℕ). weak_image (slice_index c.words n)) is) i;
      fields = (first_is ∙ ap (slice_index c.words) at_first) i
          ∷ (second_is ∙ ap (slice_index c.words) at_second) i ∷ [];
      weak_field = 0;
      payload = (payload_is
          ∙ ap (λ (n : ℕ). each_from 0 16 (λ k. slice_index c.words (n + 3 + k))) is) i;
    }) ∙ sym image_words

-- what a seat that is in the middle of nothing has pending is deferred
shown_pending : (v : EpochView) → IsIdle v → (show_seat v).deferred ≡ map deferred_of v.pending
shown_pending v idle =
    ap (λ p. map deferred_of v.pending ++ undated_entry p) idle.0
    ∙ append-nil (map deferred_of v.pending)

-- words that are read from the first of the cells on, with the images of all slots, make the image
pub heap_words : (z : EpochShape) (c : Core) (v : EpochView) (heap : Heap) (first : ℕ)
    (pending : List Dated) → Sound z c → v ≡ view_at c v.seat → v.seat ≡ 0 → IsIdle v
    → pending ≡ v.pending
    → heap.slots.items ≡ each_from 0 z.slots (λ x. image_at (shows z c) (record { 0 = x }))
    → heap.cells.items ≡ each_from 0 z.cells (λ i. slice_index c.words (first + i))
    → first ≡ cell_at z 0 → heap.weak_cells.items ≡ []
    → heap.deferred.items ≡ map deferred_of pending → IsImage (shows z c) heap
heap_words z c v heap first pending so half root idle entries slots cells first_is weak_cells deferred =
    record {
      size = ap length slots ∙ length_each 0 z.slots image ∙ sym size;
      slots = λ s h.
          let at : 0 + s.0 ≡ s.0 = omega arith in
          ap (λ (xs : List SlotImage). get_or xs s.0 free_image) slots
          ∙ (get_each 0 z.slots s.0 image free_image (let n = size in omega arith) ∙ ap image at);
      cells = cells
          ∙ (each_same z.cells (λ i. slice_index c.words (cell_at z i))
          (λ i. slice_index c.words (first + i))
          (λ i h. let e : first + i ≡ cell_at z i = omega arith in ap (slice_index c.words) e)
          ∙ sym (words_held (λ i. slice_index c.words (cell_at z i)) 0 z.cells));
      weak_cells = weak_cells;
      deferred = deferred ∙ (ap (map deferred_of) entries ∙ sym shown);
    }
  where
    image : ℕ → SlotImage
    image x = image_at (shows z c) (record { 0 = x })

    size : length (shows z c).slots ≡ z.slots
    size = length_each 0 z.slots (λ x. show_slot z c (record { 0 = x }))

    shown : (seat_at (shows z c) 0).deferred ≡ map deferred_of v.pending
    shown =
        let views = so.views in
        let some_seat = so.shape.0 in
        ap (λ (x : PlainSeat). x.deferred) (shown_seat z c 0 (omega (arith, views, some_seat)))
        ∙ (ap (λ (u : EpochView). (show_seat u).deferred) (ap (view_at c) (sym root) ∙ sym half)
        ∙ shown_pending v idle)
