-- A step of one seat that writes one word: what is enough for the invariant to stay.
use Rattle.std.proofs.Common.{◌≡◌, ◌≢◌, ◌⊎◌, ⊎_elim, ℕ, ◌+◌, ◌*◌, ◌^◌, ◌<◌, ◌≤◌, List, length, get_or, set, refl, ap, sym, ◌∙◌, subst, arith}
use Rattle.std.specs.Prelude.{slice_index, nat_lt, if◌then◌else◌}
use Rattle.std.proofs.lemmas.List.{length-set, get_or-set_same, get_or-set_other, get_or_default, set_past, set-get_or}
use Rattle.std.proofs.lemmas.List.Elements.{All-set}
use Rattle.std.proofs.lemmas.List.Sums.{sum_by-le}
use Rattle.std.proofs.lemmas.Bool.{cases_eq, cases_lt}
use Rattle.core_events.specs.plain_state.declared.slot.Kind.{Kind}
use Rattle.core_events.specs.plain_state.declared.slot.Kind.TheVariants.{Strong, Weak, Disposal}
use Rattle.core_events.specs.plain_state.declared.slot.SlotId.{SlotId}
use Rattle.core_events.specs.plain_state.Lists.{times}
use Rattle.core_events.specs.declared.shape.Shape.{Shape}
use Rattle.core_events.specs.declared.view.CoreView.{CoreView}
use Rattle.core_events.specs.declared.view.Note.TheVariants as note
use Rattle.core_events.specs.Words.{note_at, strong_at, weak_at, bit_in, bits_at, bitmaps, ticket_at}
use Rattle.core_events.specs.announce_slots.Words.{code}
use Rattle.core_events.specs.Views.{no_view, note_of, room_of}
use Rattle.core_events.specs.Runs.{Core, view_at}
use Rattle.core_events.specs.declared.view.Phase.{Phase}
use Rattle.core_events.specs.Counts.{total, listed, finishing, helping, baring, filling, giving, in_phase, places, adds_used, guarding, ticket_times}
use Rattle.core_events.specs.Good.{SeatLaw, AreAnnounced, Room, ArePlacesInRange, TicketLaw, WordsFit, word_of_note, staying_room}
use Rattle.core_law.specs.Slots.{numbers, SlotLaw}
use Rattle.core_law.specs.Sound.{Sound, covering, AreGuarded, AreUnripe}
use Rattle.core_law.proofs.Kit.{total_set, total_at, by_slot}
use Rattle.core_law.proofs.Writes.{fields_sum}
use Rattle.core_law.proofs.SlotSame.{slot_same}

-- the view of seat n, and one word, given anew
abbrev pub put : Core → ℕ → CoreView → ℕ → ℕ → Core
put c n v p w = record { words = set c.words p w; views = set c.views n v }

-- the view of seat n, and all words, given anew
abbrev pub stepped : Core → ℕ → CoreView → List ℕ → Core
stepped c n v ws = record { words = ws; views = set c.views n v }

-- the law of slot x holds
abbrev pub HasLaw : Shape → Core → SlotId → Type 0
HasLaw z c x = SlotLaw (adds_used c) (numbers z c x)

pub at_seat : (z : Shape) (c : Core) (n : ℕ) → Sound z c → n < z.seats → n < length c.views
at_seat z c n so hn = let e = so.views in omega arith

pub view_same : (z : Shape) (c : Core) (n : ℕ) (v : CoreView) → Sound z c → n < z.seats
    → get_or (set c.views n v) n no_view ≡ v
view_same z c n v so hn = get_or-set_same c.views n v no_view (at_seat z c n so hn)

pub view_other : (c : Core) (n m : ℕ) (v : CoreView) → m ≢ n
    → get_or (set c.views n v) m no_view ≡ view_at c m
view_other c n m v ne = get_or-set_other c.views n m v no_view ne

-- a seat of the new state is seat n, or as before
by_put : (z : Shape) (c : Core) (n : ℕ) (v : CoreView) → Sound z c → n < z.seats
    → (P : ℕ → CoreView → Type 0) → P n v → ((m : ℕ) → m ≢ n → P m (view_at c m))
    → (m : ℕ) → P m (get_or (set c.views n v) m no_view)
by_put z c n v so hn P here there m = ⊎_elim
    (λ (e : m ≡ n). rw (e, view_same z c n v so hn) here)
    (λ (ne : m ≢ n). rw (view_other c n m v ne) (there m ne))
    (cases_eq m n)

-- the seats are as many
seats_stay : (z : Shape) (c : Core) (n m : ℕ) (v : CoreView) → Sound z c
    → m < length (set c.views n v) → m < z.seats
seats_stay z c n m v so hm =
    let l = length-set c.views n v in let e = so.views in omega arith

-- the adds that all seats have used are few
pub adds_fit : (z : Shape) (c : Core) → Sound z c → adds_used c < 2 ^ 60
unfolding total
adds_fit z c so =
    let e = so.views in
    let few = so.shape.1 in
    let le = sum_by-le (λ (v : CoreView). v.adds) (2 ^ 40) c.views
    (λ k d h.
    let l = so.seats k (omega arith) in
    let q = l.quota.1 in
    let a = l.adds in
    let same = ap (λ (v : CoreView). v.adds) (get_or_default c.views k d no_view h) in omega
    arith) in
    omega arith

-- how the sum of f over all seats moves, where seat n's view becomes v
abbrev pub Moves : (CoreView → ℕ) → Core → ℕ → CoreView → Type 0
Moves f c n v =
    (total f (set c.views n v) + f (view_at c n) ≡ total f c.views + f v)
    × (f (view_at c n) ≤ total f c.views)

moves : (z : Shape) (c : Core) (n : ℕ) (v : CoreView) (f : CoreView → ℕ) → Sound z c → n < z.seats
    → Moves f c n v
moves z c n v f so hn =
    let h = at_seat z c n so hn in (total_set f c.views n v h, total_at f c.views n h)

-- how the sums over all seats move at slot x
pub record Totals (c : Core) (n : ℕ) (v : CoreView) (x : SlotId) : Type 0 where
  pub strong : Moves (listed Strong x) c n v
  pub weak : Moves (listed Weak x) c n v
  pub fin : Moves (λ u. finishing x u.phase) c n v
  pub hlp : Moves (λ u. helping x u.phase) c n v
  pub bar : Moves (λ u. baring x u.phase) c n v
  pub fill : Moves (λ u. filling x u.phase) c n v
  pub giv : Moves (λ u. giving x u.phase) c n v
  pub dyi : Moves (λ u. times x u.dying) c n v
  pub add : Moves (λ u. u.adds) c n v
  pub fit : adds_used c < 2 ^ 60

pub totals : (z : Shape) (c : Core) (n : ℕ) (v : CoreView) (x : SlotId) → Sound z c → n < z.seats
    → Totals c n v x
totals z c n v x so hn = record {
  strong = moves z c n v (listed Strong x) so hn;
  weak = moves z c n v (listed Weak x) so hn;
  fin = moves z c n v (λ u. finishing x u.phase) so hn;
  hlp = moves z c n v (λ u. helping x u.phase) so hn;
  bar = moves z c n v (λ u. baring x u.phase) so hn;
  fill = moves z c n v (λ u. filling x u.phase) so hn;
  giv = moves z c n v (λ u. giving x u.phase) so hn;
  dyi = moves z c n v (λ u. times x u.dying) so hn;
  add = moves z c n v (λ u. u.adds) so hn;
  fit = adds_fit z c so;
}

-- the two views stand alike to slot x
pub record Alike (x : SlotId) (old new : CoreView) : Type 0 where
  pub strong : listed Strong x new ≡ listed Strong x old
  pub weak : listed Weak x new ≡ listed Weak x old
  pub fin : finishing x new.phase ≡ finishing x old.phase
  pub hlp : helping x new.phase ≡ helping x old.phase
  pub bar : baring x new.phase ≡ baring x old.phase
  pub fill : filling x new.phase ≡ filling x old.phase
  pub giv : giving x new.phase ≡ giving x old.phase
  pub dyi : times x new.dying ≡ times x old.dying

-- the two phases stand alike to slot x
pub record SamePhase (x : SlotId) (p q : Phase) : Type 0 where
  pub fin : finishing x q ≡ finishing x p
  pub hlp : helping x q ≡ helping x p
  pub bar : baring x q ≡ baring x p
  pub fill : filling x q ≡ filling x p
  pub giv : giving x q ≡ giving x p
  pub names : in_phase x q ≡ in_phase x p

pub alike : {x : SlotId} {old new : CoreView} → listed Strong x new ≡ listed Strong x old
    → listed Weak x new ≡ listed Weak x old → SamePhase x old.phase new.phase
    → times x new.dying ≡ times x old.dying → Alike x old new
alike a b p d = record {
  strong = a;
  weak = b;
  fin = p.fin;
  hlp = p.hlp;
  bar = p.bar;
  fill = p.fill;
  giv = p.giv;
  dyi = d;
}

-- what the words ws' tell of slot x: its strong word, its weak word and its bit, and else the same as ws
pub record SlotWords (z : Shape) (ws ws' : List ℕ) (x : SlotId) (st wk bt : ℕ) : Type 0 where
  pub strong : slice_index ws' (strong_at z x) ≡ st
  pub weak : slice_index ws' (weak_at z x) ≡ wk
  pub bit : bit_in x (slice_index ws' (bits_at z x)) ≡ bt
  pub strong_places : places Strong z ws' x ≡ places Strong z ws x
  pub weak_places : places Weak z ws' x ≡ places Weak z ws x
  pub fields : fields_sum z ws' x ≡ fields_sum z ws x

-- the two rows of words say the same of slot x
abbrev pub SameWords : Shape → List ℕ → List ℕ → SlotId → Type 0
SameWords z ws ws' x = SlotWords z ws ws' x (slice_index ws (strong_at z x))
    (slice_index ws (weak_at z x)) (bit_in x (slice_index ws (bits_at z x)))

-- a slot that the step doesn't touch keeps its law
pub law_alike : (z : Shape) (c : Core) (n : ℕ) (v : CoreView) (ws : List ℕ) (x : SlotId) → Sound z c
    → n < z.seats → (view_at c n).adds ≤ v.adds → Alike x (view_at c n) v
    → SameWords z c.words ws x → x.0 < z.slots → HasLaw z (stepped c n v ws) x
law_alike z c n v ws x so hn more alike words hx =
    let t = totals z c n v x so hn in
    slot_same _ _ _ _ (so.slots x hx) (omega arith) (omega arith)

-- where one slot is touched, and its law is shown, all laws stay
pub laws_but : (z : Shape) (c : Core) (n : ℕ) (v : CoreView) (ws : List ℕ) (s : SlotId) → Sound z c
    → n < z.seats → (view_at c n).adds ≤ v.adds
    → ((x : SlotId) → x.0 < z.slots → x.0 ≢ s.0
    → Alike x (view_at c n) v × SameWords z c.words ws x)
    → HasLaw z (stepped c n v ws) s → (x : SlotId) → x.0 < z.slots → HasLaw z (stepped c n v ws) x
laws_but z c n v ws s so hn more others here x hx =
    by_slot s x (HasLaw z (stepped c n v ws)) here
    (λ ne. let o = others x hx ne in law_alike z c n v ws x so hn more o.0 o.1 hx)

-- what holds of each seat by itself
pub seats_put : (z : Shape) (c : Core) (n : ℕ) (v : CoreView) → Sound z c → n < z.seats
    → SeatLaw z n v
    → (m : ℕ) → m < z.seats → SeatLaw z m (get_or (set c.views n v) m no_view)
seats_put z c n v so hn law =
    by_put z c n v so hn (λ m u. m < z.seats → SeatLaw z m u) (λ _. law) (λ m ne hm. so.seats m hm)

pub room_put : (z : Shape) (c : Core) (n : ℕ) (v : CoreView) (ws : List ℕ) → Sound z c → n < z.seats
    → v.room ≡ (view_at c n).room → v.left ≡ (view_at c n).left → length v.retired
    + length v.owed ≤ v.room
    → Room z (stepped c n v ws)
room_put z c n v ws so hn room' left' fits = record {
  each = All-set (λ (u : CoreView). length u.retired + length u.owed ≤ u.room) c.views n v fits
      so.room.each;
  others = λ m pos hm. by_put z c n v so hn (λ k u. 0 < k → k < z.seats → u.room ≡ room_of z)
      (λ q hk. room' ∙ so.room.others n q (at_seat z c n so hk))
      (λ k ne q hk. so.room.others k q (at_seat z c k so hk)) m pos (seats_stay z c n m v so hm);
  sum =
      let t = total_set staying_room c.views n v (at_seat z c n so hn) in
      let e : staying_room v ≡ staying_room (view_at c n) = rw (room', left') refl in
      let s = so.room.sum in omega arith;
}

-- the words of other seats' notes stay, and this seat's notes stand in theirs
pub announced_put : (z : Shape) (c : Core) (n : ℕ) (v : CoreView) (ws : List ℕ) → Sound z c
    → n < z.seats
    → ((m j : ℕ) → m < z.seats → m ≢ n → j < 4 → slice_index ws (note_at m j)
    ≡ slice_index c.words (note_at m j))
    → ((j : ℕ) → j < 4 → slice_index ws (note_at n j) ≡ word_of_note (note_of v j))
    → AreAnnounced (stepped c n v ws)
announced_put z c n v ws so hn others mine m j hm hj =
    by_put z c n v so hn (λ k u. k < z.seats → slice_index ws (note_at k j)
    ≡ word_of_note (note_of u j))
    (λ _. mine j hj)
    (λ k ne hk. others k j hk ne hj ∙ so.announced k j (at_seat z c k so hk) hj)
    m (seats_stay z c n m v so hm)

-- a note that is valid anew is covered by the words
abbrev pub CoversNew : Shape → Core → ℕ → CoreView → List ℕ → Type 0
CoversNew z c n v ws =
    (j : ℕ) (k : Kind) (s : SlotId) → j < 4 → note_of v j ≡ note.Valid k s
    → (note_of (view_at c n) j ≡ note.Valid k s) ⊎ (0 < covering k z ws s)

-- where this seat loses its guard, or the words no longer cover the slot, the other one or the new view does
abbrev pub KeepsGuards : Shape → Core → ℕ → CoreView → List ℕ → Type 0
KeepsGuards z c n v ws =
    (m j : ℕ) (k : Kind) (s : SlotId) → m < z.seats → j < 4
    → note_of (view_at c m) j ≡ note.Valid k s → slice_index c.words (1 + (4 * m + j)) ≡ code k s
    → (0 < guarding (4 * m + j) k s (view_at c n)
    → 0 < covering k z ws s + guarding (4 * m + j) k s v)
    × (0 < covering k z c.words s → 0 < covering k z ws s + guarding (4 * m + j) k s v)

pub guarded_put : (z : Shape) (c : Core) (n : ℕ) (v : CoreView) (ws : List ℕ) → Sound z c
    → n < z.seats → CoversNew z c n v ws → KeepsGuards z c n v ws → AreGuarded z (stepped c n v ws)
guarded_put z c n v ws so hn new_notes stays m j k s hm hj valid =
    by_put z c n v so hn (λ i u. i < z.seats → note_of u j ≡ note.Valid k s
    → 0 < covering k z ws s + total (guarding (4 * i + j) k s) (set c.views n v))
    (λ hi is. ⊎_elim (λ was. old n hn was) (λ pos. omega arith) (new_notes j k s hj is))
    (λ i ne hi was. old i hi was)
    m (seats_stay z c n m v so hm) valid
  where
    sum_stays : (P T P' T' x y : ℕ) → 0 < P + T → T' + x ≡ T + y → x ≤ T → (0 < x → 0 < P' + y)
        → (0 < P → 0 < P' + y) → 0 < P' + T'
    sum_stays P T P' T' x y a b c e f = grind arith

    -- a note that was valid stays guarded
    old : (i : ℕ) → i < z.seats → note_of (view_at c i) j ≡ note.Valid k s
        → 0 < covering k z ws s + total (guarding (4 * i + j) k s) (set c.views n v)
    old i hi was =
        let h = at_seat z c i so hi in
        let hn' = at_seat z c n so hn in
        let same : 1 + 4 * i + j ≡ 1 + (4 * i + j) = omega arith in
        let is : slice_index c.words (1 + (4 * i + j)) ≡ code k s =
        subst (λ (q : ℕ). slice_index c.words q ≡ code k s) same
        (so.announced i j h hj ∙ ap word_of_note was) in
        let g = stays i j k s hi hj was is in
        let p = so.guarded i j k s h hj was in
        let t = total_set (guarding (4 * i + j) k s) c.views n v hn' in
        let l = total_at (guarding (4 * i + j) k s) c.views n hn' in
        sum_stays _ _ _ _ _ _ p t l g.0 g.1

-- how often s is ripe
abbrev pub ripe_times : Core → SlotId → ℕ
ripe_times c s = total (λ v. times s v.ripe) c.views

-- a new weak snapshot is of a slot that isn't ripe
abbrev pub UnripeNew : Core → ℕ → CoreView → Type 0
UnripeNew c n v =
    (j : ℕ) (s : SlotId) → j < 4 → note_of v j ≡ note.Valid Disposal s
    → (note_of (view_at c n) j ≡ note.Valid Disposal s)
    ⊎ ((ripe_times c s ≡ 0) × (times s v.ripe ≤ times s (view_at c n).ripe))

-- no slot under a weak snapshot becomes ripe
abbrev pub KeepsUnripe : Shape → Core → ℕ → CoreView → Type 0
KeepsUnripe z c n v =
    (m j : ℕ) (s : SlotId) → m < z.seats → j < 4
    → note_of (view_at c m) j ≡ note.Valid Disposal s
    → times s v.ripe ≤ times s (view_at c n).ripe

pub unripe_put : (z : Shape) (c : Core) (n : ℕ) (v : CoreView) (ws : List ℕ) → Sound z c
    → n < z.seats → UnripeNew c n v → KeepsUnripe z c n v → AreUnripe (stepped c n v ws)
unripe_put z c n v ws so hn new_notes stays m j s hm hj valid =
    by_put z c n v so hn (λ i u. i < z.seats → note_of u j ≡ note.Valid Disposal s
    → total (λ (w : CoreView). times s w.ripe) (set c.views n v) ≡ 0)
    (λ hi is. ⊎_elim (λ was. old n hn was) (λ e. none e.0 e.1) (new_notes j s hj is))
    (λ i ne hi was. old i hi was)
    m (seats_stay z c n m v so hm) valid
  where
    none : ripe_times c s ≡ 0 → times s v.ripe ≤ times s (view_at c n).ripe
        → total (λ (u : CoreView). times s u.ripe) (set c.views n v) ≡ 0
    none before le =
        let h = at_seat z c n so hn in
        let t = total_set (λ (u : CoreView). times s u.ripe) c.views n v h in omega arith

    old : (i : ℕ) → i < z.seats → note_of (view_at c i) j ≡ note.Valid Disposal s
        → total (λ (u : CoreView). times s u.ripe) (set c.views n v) ≡ 0
    old i hi was = none (so.unripe i j s (at_seat z c i so hi) hj was) (stays i j s hi hj was)

-- tickets stay as they were
pub tickets_put : (z : Shape) (c : Core) (n : ℕ) (v : CoreView) (ws : List ℕ) → Sound z c
    → n < z.seats → v.tickets ≡ (view_at c n).tickets → v.left_seats ≡ (view_at c n).left_seats
    → (view_at c n).adds ≤ v.adds
    → slice_index ws (ticket_at z) ≡ slice_index c.words (ticket_at z)
    → TicketLaw z (stepped c n v ws)
tickets_put z c n v ws so hn tickets' left' more same = record {
  each = λ t.
      let h = at_seat z c n so hn in
      let f = total_set (ticket_times t) c.views n v h in
      let e : ticket_times t v ≡ ticket_times t (view_at c n) = rw (tickets', left') refl in
      let l : total (ticket_times t) (set c.views n v) ≡ total (ticket_times t) c.views = omega arith in
      l ∙ (so.tickets.each t ∙ ap (λ (m : ℕ). if nat_lt t m then 1 else 0) (sym same));
  few =
      let h = at_seat z c n so hn in
      let a = total_set (λ (u : CoreView). u.adds) c.views n v h in
      let f = so.tickets.few in omega arith;
}

-- a word that fits is written, and leaves the bits past the last slot
pub fit_put : (z : Shape) (c : Core) (n : ℕ) (v : CoreView) (p w : ℕ) → Sound z c → w < 2 ^ 64
    → ((x : SlotId) → z.slots ≤ x.0 → x.0 < 64 * bitmaps z
    → bit_in x (slice_index (set c.words p w) (bits_at z x)) ≡ bit_in x (slice_index c.words (bits_at z x)))
    → WordsFit z (put c n v p w)
fit_put z c n v p w so fits spare = record {
  fit = λ i. ⊎_elim
      (λ (lt : p < length c.words). ⊎_elim
      (λ (e : i ≡ p).
      let a : slice_index (set c.words p w) i ≡ slice_index (set c.words p w) p =
      ap (λ (k : ℕ). slice_index (set c.words p w) k) e in
      let b = get_or-set_same c.words p w 0 lt in omega arith)
      (λ (ne : i ≢ p).
      let o = get_or-set_other c.words p i w 0 ne in
      let f = so.fit.fit i in omega arith)
      (cases_eq i p))
      (λ past. let e = set_past c.words p w past in let f = so.fit.fit i in rw e f)
      (cases_lt p (length c.words));
  spare = λ x a b. spare x a b ∙ so.fit.spare x a b;
}

-- what a step has to show, but for the room
pub record Shown (z : Shape) (c : Core) (n : ℕ) (v : CoreView) (ws : List ℕ) : Type 0 where
  pub law : SeatLaw z n v
  pub slots : (x : SlotId) → x.0 < z.slots → HasLaw z (stepped c n v ws) x
  pub announced : AreAnnounced (stepped c n v ws)
  pub guarded : AreGuarded z (stepped c n v ws)
  pub unripe : AreUnripe (stepped c n v ws)
  pub range : ArePlacesInRange z (stepped c n v ws)
  pub tickets : TicketLaw z (stepped c n v ws)
  pub fit : WordsFit z (stepped c n v ws)

-- where all is given for the new view and the new words
pub step_sound : (z : Shape) (c : Core) (n : ℕ) (v : CoreView) (ws : List ℕ) → Sound z c
    → n < z.seats → length ws ≡ length c.words → Shown z c n v ws
    → v.room ≡ (view_at c n).room → v.left ≡ (view_at c n).left
    → length v.retired + length v.owed ≤ v.room
    → Sound z (stepped c n v ws)
step_sound z c n v ws so hn len shown room' left' fits = record {
  shape = so.shape;
  words = len ∙ so.words;
  views = length-set c.views n v ∙ so.views;
  seats = seats_put z c n v so hn shown.law;
  slots = shown.slots;
  announced = shown.announced;
  guarded = shown.guarded;
  unripe = shown.unripe;
  room = room_put z c n v ws so hn room' left' fits;
  range = shown.range;
  tickets = shown.tickets;
  fit = shown.fit;
}

pub put_sound : (z : Shape) (c : Core) (n : ℕ) (v : CoreView) (p w : ℕ) → Sound z c → n < z.seats
    → Shown z c n v (set c.words p w) → v.room ≡ (view_at c n).room
    → v.left ≡ (view_at c n).left → length v.retired + length v.owed ≤ v.room
    → Sound z (put c n v p w)
put_sound z c n v p w so hn = step_sound z c n v (set c.words p w) so hn (length-set c.words p w)

-- what no step but a leave, a draw of a ticket and an add changes
pub record SameMarks (v u : CoreView) : Type 0 where
  pub tickets : u.tickets ≡ v.tickets
  pub left_seats : u.left_seats ≡ v.left_seats
  pub adds : u.adds ≡ v.adds
  pub room : u.room ≡ v.room
  pub left : u.left ≡ v.left

-- a step that writes no word
pub still_sound : (z : Shape) (c : Core) (n : ℕ) (u : CoreView) (p : ℕ) → Sound z c → n < z.seats
    → SeatLaw z n u → SameMarks (view_at c n) u → ((x : SlotId) → Alike x (view_at c n) u)
    → ((j : ℕ) → word_of_note (note_of (view_at c n) j) ≡ word_of_note (note_of u j))
    → CoversNew z c n u c.words → KeepsGuards z c n u c.words → UnripeNew c n u → KeepsUnripe z c n u
    → length u.retired + length u.owed ≤ u.room → Sound z (put c n u p (slice_index c.words p))
still_sound z c n u p so hn law same alike notes new_notes guards new_ripe ripe fits =
    let a = same.adds in
    rw (set-get_or c.words p 0)
    (step_sound z c n u c.words so hn refl (record {
      law = law;
      slots = λ x hx. law_alike z c n u c.words x so hn (omega arith) (alike x) (omega arith) hx;
      announced = announced_put z c n u c.words so hn (λ m j hm ne hj. refl)
          (λ j hj. so.announced n j (at_seat z c n so hn) hj ∙ notes j);
      guarded = guarded_put z c n u c.words so hn new_notes guards;
      unripe = unripe_put z c n u c.words so hn new_ripe ripe;
      range = so.range;
      tickets = tickets_put z c n u c.words so hn same.tickets same.left_seats (omega arith) refl;
      fit = assumption so.fit;
    })
    same.room same.left fits)
