-- The walk of a text: its cells are all different, and what a view knows of those that it passed.
use Rattle.std.proofs.Common.{◌≡◌, ◌≢◌, ◌⊎◌, inl, inr, ⊎_elim, ℕ, ◌+◌, ◌-◌, ◌<◌, ◌≤◌, true, false, List, ◌∷◌, ◌++◌, sum, refl, ap, sym, ◌∙◌, subst, arith}
use Rattle.std.specs.Prelude.{◌%◌, Some, None}
use Rattle.std.proofs.lemmas.Bool.{cases_eq, cases_lt}
use Rattle.std.proofs.Math.Nat.{mod-lt, mod-add-mod, add-mod_right, mod-eq_of_lt}
use Rattle.plain_protocol.specs.plain_state.declared.slot.SlotId.{SlotId}
use Rattle.plain_protocol.specs.plain_state.State.{Plain, slot_at}
use Rattle.directory_law.specs.Payloads.{Text}
use Rattle.directory_law.specs.Places.{text_hash}
use Rattle.directory_law.specs.Views.{Seen, Ran, View, note, KeptIn, In}
use Rattle.directory_law.specs.Cells.{Area, cell, on, IsOnWay}
use Rattle.directory_law.specs.Learnt.{Saw, Past, Running, Learnt}
use Rattle.directory_law.specs.Law.{DirectoryLaw, IsBound, NoneBound}
use Rattle.directory_law.proofs.Kit.{some_same, none_some, false≢true}
use Rattle.directory_law.proofs.Notes.{each_in}
use Rattle.directory_law.proofs.Kept.{same_text}
use Rattle.directory_law.proofs.Chains.{reads_same}
use Rattle.directory_law.specs.Walks.{NotHead, IsOther, Passes, Walked, WalksTell}

-- one time round at most
wrap : (a j n : ℕ) → a < n → j < n
    → ((a + j < n) × ((a + j) % n ≡ a + j)) ⊎ ((n ≤ a + j) × ((a + j) % n + n ≡ a + j))
wrap a j n ha hj =
    ⊎_elim
    (λ (less : a + j < n). inl (less, mod-eq_of_lt less))
    (λ (more : n ≤ a + j).
    let e : (a + j - n) + n ≡ a + j = omega arith in
    let f : ((a + j - n) + n) % n ≡ (a + j - n) % n = add-mod_right (a + j - n) n in
    let g : (a + j - n) % n ≡ a + j - n = mod-eq_of_lt (omega arith) in
    let h : (a + j) % n ≡ a + j - n = ap (λ (x : ℕ). x % n) (sym e) ∙ (f ∙ g) in
    inr (more, omega arith))
    (cases_lt (a + j) n)

-- two numbers below n lead to two cells
one_way : (h j k n : ℕ) → j < n → k < n → (h + j) % n ≡ (h + k) % n → j ≡ k
one_way h j k n hj hk e =
    let a : h % n < n = mod-lt h (omega arith) in
    let ej : (h % n + j) % n ≡ (h + j) % n = mod-add-mod h n j in
    let ek : (h % n + k) % n ≡ (h + k) % n = mod-add-mod h n k in
    let f : (h % n + j) % n ≡ (h % n + k) % n = ej ∙ (e ∙ sym ek) in
    ⊎_elim
    (λ x. ⊎_elim
    (λ y. let x0 = x.0 in let x1 = x.1 in let y0 = y.0 in let y1 = y.1 in omega arith)
    (λ y. let x0 = x.0 in let x1 = x.1 in let y0 = y.0 in let y1 = y.1 in absurd (omega arith))
    (wrap (h % n) k n a hk))
    (λ x. ⊎_elim
    (λ y. let x0 = x.0 in let x1 = x.1 in let y0 = y.0 in let y1 = y.1 in absurd (omega arith))
    (λ y. let x0 = x.0 in let x1 = x.1 in let y0 = y.0 in let y1 = y.1 in omega arith)
    (wrap (h % n) k n a hk))
    (wrap (h % n) j n a hj)

pub on_way : (z : Area) (text : Text) (j k : ℕ) → j < z.cells → k < z.cells
    → on z text j ≡ on z text k → j ≡ k
on_way z text j k hj hk e = one_way (text_hash text) j k z.cells hj hk e

-- from `start` on, a cell is reached after some others
reached : (h start by c n : ℕ) → h % n ≡ start → c < n → (start + by ≡ c) ⊎ (start + by ≡ c + n)
    → (h + by) % n ≡ c
reached h start by c n at inside sum =
    let whole : c % n ≡ c = mod-eq_of_lt inside in
    let a : (h + by) % n ≡ (start + by) % n =
    sym (mod-add-mod h n by) ∙ ap (λ (x : ℕ). (x + by) % n) at in
    ⊎_elim
    (λ (e : start + by ≡ c). a ∙ (ap (λ (x : ℕ). x % n) e ∙ whole))
    (λ (e : start + by ≡ c + n). a ∙ (ap (λ (x : ℕ). x % n) e ∙ (add-mod_right c n ∙ whole)))
    sum

-- every cell of the range is on the walk of a text
pub covers : (z : Area) (text : Text) (c : ℕ) → c < z.cells
    → (k : ℕ) × (k < z.cells) × (on z text k ≡ c)
covers z text c h =
    let start : ℕ = text_hash text % z.cells in
    let inside : text_hash text % z.cells < z.cells = mod-lt (text_hash text) (omega arith) in
    ⊎_elim
    (λ (more : c < text_hash text % z.cells). (
      c + z.cells - text_hash text % z.cells,
      omega arith,
      reached (text_hash text) (text_hash text % z.cells) (c + z.cells - text_hash text % z.cells) c
          z.cells refl h (inr (omega arith)),
    ))
    (λ (less : text_hash text % z.cells ≤ c). (
      c - text_hash text % z.cells,
      omega arith,
      reached (text_hash text) (text_hash text % z.cells) (c - text_hash text % z.cells) c z.cells
          refl h (inl (omega arith)),
    ))
    (cases_lt c (text_hash text % z.cells))

-- the cell is set, and its record has ended or its text is another
pub record PassedAt (z : Area) (p : Plain) (views : List View) (text : Text) (c : ℕ)
    : Type 0 where
  pub inside : c < z.cells
  pub slot : SlotId
  pub is : cell z p c ≡ Some slot
  pub why : ((slot_at p slot).marked ≡ true)
      ⊎ ((other : Text) × KeptIn views slot (slot_at p slot).life other × (other ≢ text))

abbrev pub Passed : Area → Plain → List View → Text → ℕ → Type 0
Passed z p views text m = (j : ℕ) → j < m → PassedAt z p views text (on z text j)

module _ (z : Area) (p : Plain) (views : List View) (law : DirectoryLaw z p views) where
  -- a text that a view tells apart from a head's isn't kept for it
  other_text : (v : View) → Learnt z p views v → (e : Seen) → Saw z p e → (text : Text)
      → IsOther v e text
      → (other : Text) × KeptIn views e.slot (slot_at p e.slot).life other × (other ≢ text)
  other_text v l e saw text differs =
      let o = law.cells e.cell e.slot saw.0 saw.1 in
      ⊎_elim
      (λ (not : NotHead e.head text). (
        o.text,
        o.kept,
        λ same. not o.begins.0 (sym same
            ∙ (o.begins.1 ∙ ap (λ (u : List ℕ). u ∷ o.begins.0) saw.3)),
      ))
      (λ ran.
      let r : Ran = ran.0 in
      let run : Running p views r = each_in (Running p views) r v.ran ran.1 l.ran in
      let of_slot = subst (λ (x : SlotId). KeptIn views x r.life (r.before ++ run.0)) ran.2 run.1 in (
        r.before ++ run.0,
        subst (λ (x : ℕ). KeptIn views e.slot x (r.before ++ run.0))
            (ran.3 ∙ sym saw.2) of_slot,
        λ same. ran.4 run.0 (sym same),
      ))
      differs

  -- what the view knows holds
  passes : (v : View) (text : Text) (c : ℕ) → Learnt z p views v → Passes v text c
      → PassedAt z p views text c
  passes v text c l pass =
      let e : Seen = pass.0 in
      let saw : Saw z p e = each_in (Saw z p) e v.seen pass.1 l.seen in
      subst (PassedAt z p views text) pass.2
      (record {
        inside = saw.0;
        slot = e.slot;
        is = saw.1;
        why = ⊎_elim
            (λ (differs : IsOther v e text). inr (other_text v l e saw text differs))
            (λ (dead : In (note e.slot e.life) v.ended).
            inl ((each_in (Past p) (note e.slot e.life) v.ended dead l.ended).1 saw.2))
            pass.3;
      })

  pub walked_passed : (v : View) (text : Text) (m : ℕ) → Learnt z p views v → Walked z v text m
      → Passed z p views text m
  walked_passed v text m l walked j h = passes v text (on z text j) l (walked j h)

  -- a passed cell holds no live record of the text
  not_passed : (c : ℕ) (s : SlotId) (text : Text) → PassedAt z p views text c → cell z p c ≡ Some s
      → KeptIn views s (slot_at p s).life text → (slot_at p s).marked ≡ false → ⊥
  not_passed c s text o is kept mark =
      let g : s ≡ o.slot = some_same s o.slot (sym is ∙ o.is) in
      ⊎_elim
      (λ (dead : (slot_at p o.slot).marked ≡ true).
      false≢true (sym mark ∙ (ap (λ (x : SlotId). (slot_at p x).marked) g ∙ dead)))
      (λ other.
      let k = subst (λ (x : SlotId). KeptIn views x (slot_at p x).life other.0) (sym g) other.1 in
      let once = law.once s (slot_at p s).life in
      other.2 (same_text views s (slot_at p s).life other.0 text (omega arith) k kept))
      o.why

  -- of a text that stands in a cell: the cell keeps it, and every cell from its place to there is set
  bound_at : (text : Text) (s : SlotId) → (b : IsBound z p text s)
      → KeptIn views s (slot_at p s).life text × IsOnWay z p text b.stands.0
  bound_at text s b =
      let o = law.cells b.stands.0 s b.stands.1 b.stands.2 in
      let same : o.text ≡ text = reads_same p s o.text text (o.reads b.stage) b.reads in (
        subst (KeptIn views s (slot_at p s).life) same o.kept,
        subst (λ (t : Text). IsOnWay z p t b.stands.0) same o.way,
      )

  -- where the walk comes to a null cell, no cell has a live record of the text
  none_walk : (text : Text) (m : ℕ) → Passed z p views text m → cell z p (on z text m) ≡ None
      → NoneBound z p text
  none_walk text m passed null s b =
      let k = bound_at text s b in
      let w = k.1 in
      let is = b.stands.2 in
      ⊎_elim
      (λ (h : w.0 < m). not_passed b.stands.0 s text
      (subst (PassedAt z p views text) (sym w.2) (passed w.0 h)) is k.0 b.mark)
      (λ (h : m ≤ w.0).
      ⊎_elim
      (λ (e : w.0 ≡ m).
      let at : b.stands.0 ≡ on z text m = w.2 ∙ ap (λ (j : ℕ). on z text j) e in
      none_some s (sym null ∙ (ap (λ (d : ℕ). cell z p d) (sym at) ∙ is)))
      (λ (ne : w.0 ≢ m). w.3 m (omega arith) null)
      (cases_eq w.0 m))
      (cases_lt w.0 m)

  -- the same after a walk over all cells
  none_all : (text : Text) (m : ℕ) → Passed z p views text m → z.cells ≤ m → NoneBound z p text
  none_all text m passed all s b =
      let kept = (bound_at text s b).0 in
      let k = covers z text b.stands.0 b.stands.1 in
      let below = k.1 in
      not_passed b.stands.0 s text (subst (PassedAt z p views text) k.2 (passed k.0 (omega arith)))
      b.stands.2 kept b.mark

  pub walks_tell : (v : View) → Learnt z p views v → WalksTell z p v
  walks_tell v l text m walked ends =
      let passed = walked_passed v text m l walked in
      ⊎_elim (λ (null : cell z p (on z text m) ≡ None). none_walk text m passed null)
      (λ (all : z.cells ≤ m). none_all text m passed all) ends
