-- A step of one seat that writes one word: who is who in the new views, and how sums move.
use Rattle.std.proofs.Common.{◌≡◌, ◌≢◌, ◌⊎◌, ⊎_elim, ℕ, ◌+◌, ◌^◌, ◌<◌, ◌≤◌, List, length, get_or, set, ap, ◌∙◌, arith}
use Rattle.std.specs.Prelude.{slice_index}
use Rattle.std.proofs.lemmas.List.{get_or-set_same, get_or-set_other, get_or_default, set_past}
use Rattle.std.proofs.lemmas.List.Sums.{sum_by-le}
use Rattle.std.proofs.lemmas.Bool.{cases_eq, cases_lt}
use Rattle.core_law.specs.plain_state.declared.slot.SlotId.{SlotId}
use Rattle.core_law.specs.plain_state.Lists.{times}
use Rattle.core_law.proofs.Kit.{by_slot}
use Rattle.epoch_core.specs.declared.shape.EpochShape.{EpochShape}
use Rattle.epoch_core.specs.declared.view.EpochView.{EpochView}
use Rattle.epoch_core.specs.Views.{no_view}
use Rattle.epoch_core.specs.Runs.{Core, view_at}
use Rattle.epoch_core.specs.Counts.{total, listed, filling, places, adds_used, guarding, witness, refs, dying_times}
use Rattle.epoch_core.specs.Words.{count_at}
use Rattle.epoch_core.specs.Slots.{numbers, Numbers, SlotLaw, free, held, live, fields_sum}
use Rattle.epoch_core.specs.Sound.{Sound}
use Rattle.epoch_core.proofs.Kit.{total_set, total_at}

-- the view of seat n, and all words, given anew
abbrev pub stepped : Core → ℕ → EpochView → List ℕ → List ℕ → Core
stepped c n v ws os = record { words = ws; views = set c.views n v; opened = os }

-- the law of slot x holds
abbrev pub HasLaw : EpochShape → Core → SlotId → Type 0
HasLaw z c x = SlotLaw (adds_used c) (numbers z c x)

module _ (z : EpochShape) (c : Core) (n : ℕ) (so : Sound z c) (hn : n < z.seats) where
  pub at_seat : n < length c.views
  at_seat = let e = so.views in omega arith

  pub view_same : (v : EpochView) → get_or (set c.views n v) n no_view ≡ v
  view_same v = get_or-set_same c.views n v no_view at_seat

  -- a seat of the new state is seat n, or as before
  pub by_put : (v : EpochView) (P : ℕ → EpochView → Type 0) → P n v
      → ((m : ℕ) → m ≢ n → P m (view_at c m))
      → (m : ℕ) → P m (get_or (set c.views n v) m no_view)
  by_put v P here there m = ⊎_elim
      (λ (e : m ≡ n). rw (e, view_same v) here)
      (λ (ne : m ≢ n). rw (get_or-set_other c.views n m v no_view ne) (there m ne))
      (cases_eq m n)

-- the adds that all seats have used are few
pub adds_fit : (z : EpochShape) (c : Core) → Sound z c → adds_used c < 2 ^ 60
unfolding total
adds_fit z c so =
    let e = so.views in
    let few = so.shape.1 in
    let le = sum_by-le (λ (v : EpochView). v.adds) (2 ^ 40) c.views
    (λ k d h.
    let l = so.seats k (omega arith) in
    let q = l.quota.1 in
    let a = l.adds in
    let same = ap (λ (v : EpochView). v.adds) (get_or_default c.views k d no_view h) in omega arith) in
    omega arith

-- how the sum of f over all seats moves, where seat n's view becomes v
abbrev pub Moves : (EpochView → ℕ) → Core → ℕ → EpochView → Type 0
Moves f c n v =
    (total f (set c.views n v) + f (view_at c n) ≡ total f c.views + f v)
    × (f (view_at c n) ≤ total f c.views)

pub moves : (z : EpochShape) (c : Core) (n : ℕ) (v : EpochView) (f : EpochView → ℕ) → Sound z c
    → n < z.seats → Moves f c n v
moves z c n v f so hn =
    let h = at_seat z c n so hn in (total_set f c.views n v h, total_at f c.views n h)

-- how the sums over all seats move at slot x
pub record Totals (c : Core) (n : ℕ) (v : EpochView) (x : SlotId) : Type 0 where
  pub listed : Moves (listed x) c n v
  pub fill : Moves (λ u. filling x u.phase) c n v
  pub dyi : Moves (λ u. times x u.dying) c n v
  pub add : Moves (λ u. u.adds) c n v
  pub fit : adds_used c < 2 ^ 60

pub totals : (z : EpochShape) (c : Core) (n : ℕ) (v : EpochView) (x : SlotId) → Sound z c
    → n < z.seats → Totals c n v x
totals z c n v x so hn = record {
  listed = moves z c n v (listed x) so hn;
  fill = moves z c n v (λ u. filling x u.phase) so hn;
  dyi = moves z c n v (λ u. times x u.dying) so hn;
  add = moves z c n v (λ u. u.adds) so hn;
  fit = adds_fit z c so;
}

-- A slot whose count the step of seat n leaves: its references go between the seat and places, and where nobody refers
-- to it and it isn't dying, its fields stay.
pub record Alike (z : EpochShape) (c : Core) (n : ℕ) (ws : List ℕ) (x : SlotId) (u : EpochView)
    : Type 0 where
  pub word : slice_index ws (count_at z x) ≡ slice_index c.words (count_at z x)
  pub counted : listed x u + places z ws x ≡ listed x (view_at c n) + places z c.words x
  pub fill : filling x u.phase ≡ filling x (view_at c n).phase
  pub dyi : times x u.dying ≡ times x (view_at c n).dying
  pub fields : (fields_sum z ws x ≡ fields_sum z c.words x) ⊎ (0 < refs z c x + dying_times c x)

pub still_law : (a a' : ℕ) (m k : Numbers) → SlotLaw a m → a ≤ a' → k.word ≡ m.word → k.refs ≡ m.refs
    → k.filling ≡ m.filling → k.dying ≡ m.dying
    → (k.fields ≡ m.fields) ⊎ (0 < m.refs + m.dying) → SlotLaw a' k
still_law a a' m k (free l) le w r f d e = free (record {
  word = w ∙ l.word;
  refs = r ∙ l.refs;
  filling = f ∙ l.filling;
  dying = d ∙ l.dying;
  fields = ⊎_elim (λ same. same ∙ l.fields) (λ pos. let a = l.refs in let b = l.dying in absurd (omega arith)) e;
})
still_law a a' m k (held l) le w r f d e = held (record {
  word = w ∙ l.word;
  refs = r ∙ l.refs;
  one = let o = l.one in omega arith;
  nulls = λ pos. ⊎_elim (λ same. same ∙ l.nulls (omega arith))
      (λ more. let o = l.one in let b = l.refs in absurd (omega arith)) e;
})
still_law a a' m k (live l) le w r f d e = live (record {
  word = let o = l.word in omega arith;
  some = let o = l.some in omega arith;
  few = let o = l.few in omega arith;
  filling = f ∙ l.filling;
  dying = d ∙ l.dying;
})

-- a slot that stands alike keeps its law
pub law_alike : (z : EpochShape) (c : Core) (n : ℕ) (v : EpochView) (ws os : List ℕ) (x : SlotId)
    → Sound z c → n < z.seats → (view_at c n).adds ≤ v.adds
    → Alike z c n ws x v → x.0 < z.slots → HasLaw z (stepped c n v ws os) x
law_alike z c n v ws os x so hn more alike hx =
    let t = totals z c n v x so hn in
    let l = t.listed in
    let f = t.fill in
    let d = t.dyi in
    let a = t.add in
    let r = alike.counted in
    let fl = alike.fill in
    let dl = alike.dyi in
    still_law (adds_used c) _ (numbers z c x) (numbers z (stepped c n v ws os) x) (so.slots x hx)
    (omega arith) alike.word (omega arith) (omega arith) (omega arith)
    alike.fields

-- where one slot is touched, and its law is shown, all laws stay
pub laws_but : (z : EpochShape) (c : Core) (n : ℕ) (v : EpochView) (ws os : List ℕ) (s : SlotId)
    → Sound z c → n < z.seats → (view_at c n).adds ≤ v.adds
    → ((x : SlotId) → x.0 < z.slots → x.0 ≢ s.0 → Alike z c n ws x v)
    → HasLaw z (stepped c n v ws os) s
    → (x : SlotId) → x.0 < z.slots → HasLaw z (stepped c n v ws os) x
laws_but z c n v ws os s so hn more others here x hx =
    by_slot s x (HasLaw z (stepped c n v ws os)) here
    (λ ne. law_alike z c n v ws os x so hn more (others x hx ne) hx)

-- WITNESSES
-- how what guards a seen slot moves: where the step takes nothing of it from the seat and the places together
pub guards_stay : (z : EpochShape) (c : Core) (n : ℕ) (v : EpochView) (ws os : List ℕ) (g : ℕ)
    (x : SlotId) → Sound z c → n < z.seats
    → guarding g x (view_at c n) + places z c.words x ≤ guarding g x v + places z ws x
    → witness z g c x ≤ witness z g (stepped c n v ws os) x
guards_stay z c n v ws os g x so hn le =
    let t = moves z c n v (guarding g x) so hn in
    let a = t.0 in
    let b = t.1 in omega arith

-- a word that fits is written
pub fit_set : (z : EpochShape) (c : Core) (p w : ℕ) → Sound z c → w < 2 ^ 64
    → (i : ℕ) → slice_index (set c.words p w) i < 2 ^ 64
fit_set z c p w so fits i = ⊎_elim
    (λ (lt : p < length c.words). ⊎_elim
    (λ (e : i ≡ p).
    let a : slice_index (set c.words p w) i ≡ slice_index (set c.words p w) p =
    ap (λ (k : ℕ). slice_index (set c.words p w) k) e in
    let b = get_or-set_same c.words p w 0 lt in omega arith)
    (λ (ne : i ≢ p).
    let o = get_or-set_other c.words p i w 0 ne in
    let f = so.fit i in omega arith)
    (cases_eq i p))
    (λ past. let e = set_past c.words p w past in let f = so.fit i in rw e f)
    (cases_lt p (length c.words))
