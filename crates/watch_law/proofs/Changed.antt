-- A view of one seat changes, and the state stays.
use Rattle.std.proofs.Common.{◌≡◌, ◌≢◌, ⊎_elim, ℕ, ◌<◌, true, List, length, set, refl, sym, subst, ◌∙◌, arith}
use Rattle.std.specs.Prelude.{Contains}
use Rattle.std.proofs.lemmas.Bool.{cases_eq}
use Rattle.std.proofs.lemmas.List.{get_or-set_same, get_or-set_other, set-get_or}
use Rattle.plain_protocol.specs.plain_state.declared.slot.SlotId.{SlotId}
use Rattle.plain_protocol.specs.plain_state.State.{Plain}
use Rattle.protocol_pairs.proofs.Notes.{noted_cases, noted_still}
use Rattle.watch_law.specs.Views.{Made, Address, View, view_at, no_view, IsAddressed, last}
use Rattle.watch_law.specs.Law.{Area, owner, KnowsCell, Fresh, IsNotedAs, WatchLaw}

-- what holds of each view after one has changed
pub at_view : (views : List View) (n : ℕ) (w : View) (P : ℕ → View → Type 0) → n < length views
    → P n w → ((m : ℕ) → m ≢ n → P m (view_at views m)) → (m : ℕ) → P m (view_at (set views n w) m)
at_view views n w P low new old m =
    ⊎_elim
    (λ (e : m ≡ n). subst (λ (k : ℕ). P k (view_at (set views n w) k)) (sym e)
    (subst (P n) (sym (get_or-set_same views n w no_view low)) new))
    (λ (ne : m ≢ n). subst (P m) (sym (get_or-set_other views n m w no_view ne)) (old m ne))
    (cases_eq m n)

abbrev pub addresses : View → List Address
addresses v = v.addressed

-- the same is addressed
pub record SameNotes (views after : List View) : Type 0 where
  pub still : (a : Address) → IsAddressed views a → IsAddressed after a
  pub was : (a : Address) → IsAddressed after a → IsAddressed views a

pub same_notes : (views : List View) (n : ℕ) (w : View) → n < length views
    → w.addressed ≡ (view_at views n).addressed → SameNotes views (set views n w)
same_notes views n w low same = record {
  still = noted_still no_view addresses views n w low
      (λ a has. subst (λ l. Contains l a) (sym same) has);
  was = λ a now. ⊎_elim (λ here. (n, subst (λ l. Contains l a) same here)) (λ old. old)
      (noted_cases no_view addresses views n w low a now);
}

pub fresh_after : (p : Plain) (views after : List View) (e : Made) → SameNotes views after
    → Fresh p views e → Fresh p after e
fresh_after p views after e same f = record {
  begun = f.begun;
  null = f.null;
  loose = λ a now slot life. f.loose a (same.was a now) slot life;
}

pub noted_after : (views after : List View) (d : SlotId) (l : ℕ) (o : SlotId)
    → SameNotes views after → IsNotedAs views d l o → IsNotedAs after d l o
noted_after views after d l o same i = record {
  address = i.address;
  noted = same.still i.address i.noted;
  slot = i.slot;
  life = i.life;
  observer = i.observer;
}

-- what a new view of seat n owes
pub record Turn (z : Area) (p : Plain) (views : List View) (n : ℕ) (w : View) : Type 0 where
  pub low : n < length views
  pub number : w.here ≡ true → w.number ≡ n
  pub knows : (c : ℕ) → w.here ≡ true → c < z.cells → owner z c ≡ n
      → KnowsCell z p c (last c w.subscribed)
  pub fresh : 0 < w.made.life → Fresh p views w.made
  pub apart : (m : ℕ) → m ≢ n → 0 < w.made.life → w.made.slot ≡ (view_at views m).made.slot
      → w.made.life ≡ (view_at views m).made.life → ⊥
  pub addressed : w.addressed ≡ (view_at views n).addressed
  pub read : (a : Address) → Contains w.read a → IsAddressed views a

pub law_turn : (z : Area) (p : Plain) (views : List View) (n : ℕ) (w : View) → WatchLaw z p views
    → Turn z p views n w → WatchLaw z p (set views n w)
law_turn z p views n w law turn =
    let low = turn.low in
    let same = same_notes views n w low turn.addressed in
    record {
      cells = law.cells;
      own_cells = λ m c here h own.
          at_view views n w (λ k v. v.here ≡ true → owner z c ≡ k → KnowsCell z p c (last c v.subscribed))
          low (λ is own. turn.knows c is h own) (λ k ne is own. law.own_cells k c is h own) m here own;
      number = at_view views n w (λ k v. v.here ≡ true → v.number ≡ k) low turn.number
          (λ k ne. law.number k);
      fresh = at_view views n w (λ k v. 0 < v.made.life → Fresh p (set views n w) v.made) low
          (λ some. fresh_after p views (set views n w) w.made same (turn.fresh some))
          (λ k ne some. fresh_after p views (set views n w) _ same (law.fresh k some));
      apart = λ i j. at_view views n w (λ k v. 0 < v.made.life
          → v.made.slot ≡ (view_at (set views n w) j).made.slot
          → v.made.life ≡ (view_at (set views n w) j).made.life → k ≡ j) low
          (at_view views n w (λ m u. 0 < w.made.life → w.made.slot ≡ u.made.slot
          → w.made.life ≡ u.made.life → n ≡ m) low (λ a b c. refl)
          (λ m ne some slot life. absurd (turn.apart m ne some slot life)) j)
          (λ k ne. at_view views n w (λ m u. 0 < (view_at views k).made.life
          → (view_at views k).made.slot ≡ u.made.slot
          → (view_at views k).made.life ≡ u.made.life → k ≡ m) low
          (λ some slot life. absurd (turn.apart k ne (omega arith) (sym slot) (sym life)))
          (λ m no. law.apart k m) j)
          i;
      addressed = λ a is. law.addressed a (same.was a is);
      once = λ a b x y. law.once a b (same.was a x) (same.was b y);
      fields = λ d o live is first.
          noted_after views (set views n w) d _ o same (law.fields d o live is first);
      bare = law.bare;
      read = λ a now. same.still a
          (⊎_elim (λ here. turn.read a here) (λ old. law.read a old)
          (noted_cases no_view (λ (v : View). v.read) views n w low a now));
    }

-- the view stays as it is
pub same_view : (z : Area) (p : Plain) (views : List View) (n : ℕ) → WatchLaw z p views
    → WatchLaw z p (set views n (view_at views n))
same_view z p views n law = subst (WatchLaw z p) (sym (set-get_or views n no_view)) law

-- of the view of a seat that is there, something else changes than what Turn asks of it
pub knows_still : (z : Area) (p : Plain) (views : List View) (n : ℕ) (w : View)
    → WatchLaw z p views → w.here ≡ (view_at views n).here → w.subscribed ≡ (view_at views n).subscribed
    → (c : ℕ) → w.here ≡ true → c < z.cells → owner z c ≡ n → KnowsCell z p c (last c w.subscribed)
knows_still z p views n w law here same c is h own =
    subst (λ l. KnowsCell z p c (last c l)) (sym same) (law.own_cells n c (sym here ∙ is) h own)
