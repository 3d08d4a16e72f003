-- How many heads views list: never more than was granted; so where one more may be bound, some cell is null, and where
-- all was granted to one seat, it has bound each of them.
use Rattle.std.specs.Prelude.{Option, Some, None, map, sum}
use Rattle.std.specs.List.{flat_map}
use Rattle.std.proofs.Common.{◌≡◌, ◌≢◌, ◌⊎◌, inl, inr, ⊎_elim, ℕ, zero, suc, ◌+◌, ◌<◌, ◌≤◌, List, [], ◌∷◌, length, get_or, set, refl, ap, sym, ◌∙◌, subst, arith, length-append}
use Rattle.std.proofs.lemmas.List.{length-set, length-map, get_or-set_other}
use Rattle.std.proofs.lemmas.List.Sums.{sum_by-cons, sum_by-set, get_or-le-sum_by}
use Rattle.std.proofs.lemmas.Bool.{cases_eq}
use Rattle.plain_protocol.specs.plain_state.declared.slot.SlotId.{SlotId}
use Rattle.plain_protocol.specs.plain_state.State.{Plain}
use Rattle.directory_law.specs.declared.view.Rope.{Rope}
use Rattle.directory_law.specs.Payloads.{Text}
use Rattle.directory_law.specs.Steps.{id}
use Rattle.directory_law.specs.Views.{In, rope}
use Rattle.directory_law.specs.Cells.{Area}
use Rattle.directory_law.proofs.Kit.{none_some}
use Rattle.cell_law.specs.Views.{View, gone, view_at, all_bound, bound_in, BoundIn, MayBind, share, shares}
use Rattle.cell_law.specs.Cells.{BindsAlone, HasRoom, cell}
use Rattle.cell_law.specs.Law.{CellLaw}
use Rattle.cell_law.proofs.Distinct.{in_all}
use Rattle.cell_law.proofs.Kit.{in_either, listing}

-- SUMS. One view changes, and its share is as it was
pub shares_set : (views : List View) (n : ℕ) (w : View) → n < length views
    → share w ≡ share (view_at views n) → shares (set views n w) ≡ shares views
unfolding shares
shares_set views n w here same = let a = sum_by-set share views n w gone here in omega arith

-- one view takes over at most the share of another, which is gone then
pub shares_join : (views : List View) (j : ℕ) (w : View) → 0 < length views → j < length views
    → j ≢ 0 → share w ≤ share (view_at views 0) + share (view_at views j)
    → shares (set (set views 0 w) j gone) ≤ shares views
unfolding shares
shares_join views j w some there other few =
    let a = sum_by-set share views 0 w gone some in
    let l = length-set views 0 w in
    let b = sum_by-set share (set views 0 w) j gone gone (omega arith) in
    let c : share (get_or (set views 0 w) j gone) ≡ share (get_or views j gone) =
    ap share (get_or-set_other views 0 j w gone other) in omega arith

pub share_at : (views : List View) (n : ℕ) → n < length views → share (view_at views n) ≤ shares views
unfolding shares
share_at views n here = get_or-le-sum_by share views n gone here

pub share_both : (views : List View) (n m : ℕ) → n < length views → m < length views → m ≢ n
    → share (view_at views n) + share (view_at views m) ≤ shares views
unfolding shares
share_both views n m hn hm ne =
    let a = sum_by-set share views n gone gone hn in
    let l = length-set views n gone in
    let b = get_or-le-sum_by share (set views n gone) m gone (omega arith) in
    let c : share (get_or (set views n gone) m gone) ≡ share (get_or views m gone) =
    ap share (get_or-set_other views n m gone gone ne) in omega arith

-- each seat has bound at most what it may
abbrev Granted : List View → Type 0
Granted views = (m : ℕ) → length (view_at views m).bound ≤ (view_at views m).grant

listed_few : (views : List View) → Granted views → length (all_bound views) ≤ shares views
unfolding all_bound shares
listed_few [] few = omega arith
listed_few (v ∷ views) few =
    let a = length-append (bound_in v) (flat_map bound_in views) in
    let b = length-append v.bound v.joined in
    let c = sum_by-cons share v views in
    let d : length v.bound ≤ v.grant = few 0 in
    let e = listed_few views (λ m. few (suc m)) in omega arith

listed_fewer : (views : List View) (n : ℕ) → Granted views → n < length views
    → MayBind (view_at views n) → length (all_bound views) < shares views
unfolding all_bound shares
listed_fewer [] n few here may = absurd (omega arith)
listed_fewer (v ∷ views) zero few here may =
    let a = length-append (bound_in v) (flat_map bound_in views) in
    let b = length-append v.bound v.joined in
    let c = sum_by-cons share v views in
    let d : length v.bound < v.grant = may in
    let e = listed_few views (λ m. few (suc m)) in omega arith
listed_fewer (v ∷ views) (suc n) few here may =
    let a = length-append (bound_in v) (flat_map bound_in views) in
    let b = length-append v.bound v.joined in
    let c = sum_by-cons share v views in
    let d : length v.bound ≤ v.grant = few 0 in
    let e = listed_fewer views n (λ m. few (suc m)) (omega arith) may in omega arith

-- PLACES. A list without one of its members
without_one : {A : Type 0} (x : A) (ys : List A) → In x ys
    → (zs : List A) × (length ys ≡ suc (length zs)) × ((y : A) → In y ys → (y ≡ x) ⊎ In y zs)
without_one x [] i = absurd i
without_one x (y ∷ ys) i =
    ⊎_elim
    (λ (e : x ≡ y). (
      ys,
      refl,
      λ w j. ⊎_elim (λ (f : w ≡ y). inl (f ∙ sym e)) (λ (k : In w ys). inr k) j,
    ))
    (λ (j : In x ys).
    let r = without_one x ys j in (
      y ∷ r.0,
      ap suc r.1,
      λ w k. ⊎_elim (λ (f : w ≡ y). inr (inl f))
          (λ (h : In w ys). ⊎_elim (λ (a : w ≡ x). inl a) (λ (a : In w r.0). inr (inr a)) (r.2 w h)) k,
    ))
    i

-- k numbers that lead to different members
at_most : {A : Type 0} (k : ℕ) (f : ℕ → A) (ys : List A) → ((c : ℕ) → c < k → In (f c) ys)
    → ((c d : ℕ) → c < k → d < k → f c ≡ f d → c ≡ d) → k ≤ length ys
at_most zero f ys among apart = omega arith
at_most (suc k) f ys among apart =
    let r = without_one (f k) ys (among k (omega arith)) in
    let few = at_most k f r.0
    (λ c h. ⊎_elim
    (λ (e : f c ≡ f k). absurd (let s = apart c k (omega arith) (omega arith) e in omega arith))
    (λ (i : In (f c) r.0). i)
    (r.2 (f c) (among c (omega arith))))
    (λ c d hc hd e. apart c d (omega arith) (omega arith) e) in
    let l = r.1 in omega arith

-- CELLS. Of the first k one is null, or all are set
null_or_set : (z : Area) (p : Plain) (k : ℕ)
    → ((c : ℕ) × (c < k) × (cell z p c ≡ None)) ⊎ ((c : ℕ) → c < k → cell z p c ≢ None)
null_or_set z p zero = inr (λ c h. absurd (omega arith))
null_or_set z p (suc k) =
    ⊎_elim
    (λ o. inl (o.0, (let h = o.1 in omega arith), o.2))
    (λ all. go (cell z p k) refl all)
    (null_or_set z p k)
  where
    go : (x : Option SlotId) → cell z p k ≡ x → ((c : ℕ) → c < k → cell z p c ≢ None)
        → ((c : ℕ) × (c < suc k) × (cell z p c ≡ None)) ⊎ ((c : ℕ) → c < suc k → cell z p c ≢ None)
    go None is all = inl (k, (omega arith), is)
    go (Some s) is all = inr (λ c h. ⊎_elim
        (λ (e : c ≡ k). λ null. none_some s (sym null ∙ (ap (λ (d : ℕ). cell z p d) e ∙ is)))
        (λ (ne : c ≢ k). all c (omega arith))
        (cases_eq c k))

abbrev slot_held : Option SlotId → SlotId
slot_held None = id 0
slot_held (Some s) = s

held_some : (x : Option SlotId) → x ≢ None → x ≡ Some (slot_held x)
held_some None some = absurd (some refl)
held_some (Some s) some = refl

slot_in : (e : Rope) (es : List Rope) → In e es → In e.slot (map (λ (r : Rope). r.slot) es)
slot_in e [] i = absurd i
slot_in e (x ∷ es) i =
    ⊎_elim
    (λ (is : e ≡ x). inl (ap (λ (r : Rope). r.slot) is))
    (λ (j : In e es). inr (slot_in e es j))
    i

in_some : {A : Type 0} (x : A) (xs : List A) → In x xs → 0 < length xs
in_some x [] i = absurd i
in_some x (y ∷ xs) i = omega arith

module _ (z : Area) (p : Plain) (views : List View) (law : CellLaw z p views) where
  -- no more heads are listed than were granted, and fewer where a seat may bind one more
  pub not_more_listed : length (all_bound views) ≤ sum z.interns
  not_more_listed =
      let a = listed_few views law.granted in
      let b = law.room in omega arith

  pub fewer_listed : (n : ℕ) → n < length views → MayBind (view_at views n)
      → length (all_bound views) < sum z.interns
  fewer_listed n here may =
      let a = listed_fewer views n law.granted here may in
      let b = law.room in omega arith

  -- where fewer heads are listed than there are cells, some cell is null
  some_null : length (all_bound views) < z.cells
      → (c : ℕ) × (c < z.cells) × (cell z p c ≡ None)
  some_null few =
      ⊎_elim (λ o. o) (λ all. absurd (too_many all)) (null_or_set z p z.cells)
    where
      too_many : ((c : ℕ) → c < z.cells → cell z p c ≢ None) → ⊥
      too_many all =
          let at : (c : ℕ) → c < z.cells → cell z p c ≡ Some (slot_held (cell z p c)) =
          λ c h. held_some (cell z p c) (all c h) in
          let l = length-map (all_bound views) (λ (e : Rope). e.slot) in
          let many = at_most z.cells (λ (c : ℕ). slot_held (cell z p c))
          (map (λ (e : Rope). e.slot) (all_bound views))
          (λ c h.
          let o = law.cells c (slot_held (cell z p c)) h (at c h) in
          let e : Rope = rope (slot_held (cell z p c)) _ o.text in
          slot_in e (all_bound views) (in_all views o.bound.0 e o.bound.1))
          (λ c d hc hd same.
          law.single c d (slot_held (cell z p c)) hc hd (at c hc) (at d hd ∙ ap Some (sym same))) in
          omega arith

  pub has_room : (n : ℕ) → n < length views → HasRoom z p (view_at views n)
  has_room n here may enough = some_null (let few = fewer_listed n here may in omega arith)

  -- where all was granted to one seat, it has bound all that is listed
  pub alone_bound : (n : ℕ) → n < length views → BindsAlone z (view_at views n)
      → (s : SlotId) (l : ℕ) (t : Text) → BoundIn views s l t
      → In (rope s l t) (view_at views n).bound
  alone_bound n here alone s l t k =
      let e : Rope = rope s l t in
      let m : ℕ = k.0 in
      let room = law.room in
      ⊎_elim
      (λ (is : m ≡ n).
      ⊎_elim
      (λ (i : In e (view_at views n).bound). i)
      (λ (i : In e (view_at views n).joined).
      let a = in_some e (view_at views n).joined i in
      let b = share_at views n here in absurd (omega arith))
      (in_either e (view_at views n).bound (view_at views n).joined
      (subst (λ (x : ℕ). In e (bound_in (view_at views x))) is k.1)))
      (λ (ne : m ≢ n).
      let a = in_some e (bound_in (view_at views m)) k.1 in
      let b = length-append (view_at views m).bound (view_at views m).joined in
      let c = share_both views n m here (listing views m e k.1) ne in
      let d = law.granted m in absurd (omega arith))
      (cases_eq m n)
