-- Views by their numbers, what they list, and the same views as those of a directory without cells.
use Rattle.std.proofs.Common.{◌≡◌, ◌≢◌, ◌⊎◌, inl, inr, ⊎_elim, ℕ, ◌<◌, List, [], ◌∷◌, ◌++◌, length, set, ap, sym, ◌∙◌, subst}
use Rattle.std.proofs.lemmas.List.{get_or-set_same, get_or-set_other, get_or_past, length-map, map-set, set-get_or}
use Rattle.std.proofs.Math.ListN.{get_or-map}
use Rattle.std.proofs.lemmas.Bool.{cases_eq, cases_lt}
use Rattle.plain_protocol.specs.plain_state.declared.slot.SlotId.{SlotId}
use Rattle.plain_protocol.specs.plain_state.State.{Plain}
use Rattle.plain_protocol.specs.Laws.{Meets}
use Rattle.directory_law.specs.declared.view.Rope.{Rope}
use Rattle.directory_law.specs.Payloads.{Text}
use Rattle.directory_law.specs.Views.{In, Each, rope}
use Rattle.directory_law.specs.Views as directory
use Rattle.directory_law.specs.Cells.{Area}
use Rattle.directory_law.specs.Law.{DirectoryLaw}
use Rattle.cell_law.specs.Views.{View, gone, view_at, bound_in, BoundIn, made, makers}
use Rattle.cell_law.specs.Cells.{no_cells}
use Rattle.cell_law.specs.Law.{CellLaw}

pub view_here : (views : List View) (n : ℕ) (w : View) → n < length views
    → view_at (set views n w) n ≡ w
view_here views n w here = get_or-set_same views n w gone here

pub view_else : (views : List View) (n m : ℕ) (w : View) → m ≢ n
    → view_at (set views n w) m ≡ view_at views m
view_else views n m w ne = get_or-set_other views n m w gone ne

-- what holds of each view after one has changed
pub at_view : (views : List View) (n : ℕ) (w : View) (P : View → Type 0) → n < length views → P w
    → ((m : ℕ) → m ≢ n → P (view_at views m)) → (m : ℕ) → P (view_at (set views n w) m)
at_view views n w P here new old m =
    ⊎_elim
    (λ (e : m ≡ n). subst P (sym (ap (λ (j : ℕ). view_at (set views n w) j) e
    ∙ view_here views n w here)) new)
    (λ (ne : m ≢ n). subst P (sym (view_else views n m w ne)) (old m ne))
    (cases_eq m n)

-- one view is as it was
pub set_same : (views : List View) (n : ℕ) → set views n (view_at views n) ≡ views
set_same views n = set-get_or views n gone

-- what was made, of one view and of all
pub maker_at : (views : List View) (n : ℕ)
    → directory.view_at (makers views) n ≡ made (view_at views n)
maker_at views n = get_or-map made views n gone

pub makers_set : (views : List View) (n : ℕ) (w : View)
    → makers (set views n w) ≡ set (makers views) n (made w)
makers_set views n w = map-set made views n w

pub makers_long : (views : List View) → length (makers views) ≡ length views
makers_long views = length-map views made

pub meets_records : (z : Area) (p : Plain) (views : List View) → Meets (CellLaw z) p views
    → Meets (DirectoryLaw no_cells) p (makers views)
meets_records z p views meets = record {
  lawful = meets.lawful;
  count = makers_long views ∙ meets.count;
  law = meets.law.records;
}

-- a member of two lists
pub in_either : {A : Type 0} (x : A) (xs ys : List A) → In x (xs ++ ys) → In x xs ⊎ In x ys
in_either x [] ys i = inr i
in_either x (y ∷ xs) ys i =
    ⊎_elim
    (λ (e : x ≡ y). inl (inl e))
    (λ (j : In x (xs ++ ys)). ⊎_elim (λ (k : In x xs). inl (inr k)) (λ (k : In x ys). inr k)
    (in_either x xs ys j))
    i

-- what holds of each of two lists
pub each_left : (P : Rope → Type 0) (xs ys : List Rope) → Each P (xs ++ ys) → Each P xs
each_left P [] ys a = tt
each_left P (x ∷ xs) ys a = (a.0, each_left P xs ys a.1)

pub each_right : (P : Rope → Type 0) (xs ys : List Rope) → Each P (xs ++ ys) → Each P ys
each_right P [] ys a = a
each_right P (x ∷ xs) ys a = each_right P xs ys a.1

-- a view that lists something is there
pub listing : (views : List View) (n : ℕ) (e : Rope) → In e (bound_in (view_at views n))
    → n < length views
listing views n e i =
    ⊎_elim
    (λ (h : n < length views). h)
    (λ past. absurd (subst (λ (v : View). In e (bound_in v)) (get_or_past views n gone past) i))
    (cases_lt n (length views))

-- what is listed, where one view has changed that goes on to list what it listed
pub bound_more : (views : List View) (n : ℕ) (w : View) → n < length views
    → ((e : Rope) → In e (bound_in (view_at views n)) → In e (bound_in w))
    → (s : SlotId) (l : ℕ) (t : Text) → BoundIn views s l t → BoundIn (set views n w) s l t
bound_more views n w here more s l t k =
    ⊎_elim
    (λ (e : k.0 ≡ n). (
      n,
      subst (λ (v : View). In (rope s l t) (bound_in v)) (sym (view_here views n w here))
          (more (rope s l t) (subst (λ (m : ℕ). In (rope s l t) (bound_in (view_at views m))) e
          k.1)),
    ))
    (λ (ne : k.0 ≢ n). (
      k.0,
      subst (λ (v : View). In (rope s l t) (bound_in v)) (sym (view_else views n k.0 w ne)) k.1,
    ))
    (cases_eq k.0 n)

-- and what is listed then was listed before, or is listed by that view
pub bound_back : (views : List View) (n : ℕ) (w : View) → n < length views
    → (s : SlotId) (l : ℕ) (t : Text) → BoundIn (set views n w) s l t
    → In (rope s l t) (bound_in w) ⊎ BoundIn views s l t
bound_back views n w here s l t k =
    ⊎_elim
    (λ (e : k.0 ≡ n). inl (subst (λ (v : View). In (rope s l t) (bound_in v))
    (ap (λ (m : ℕ). view_at (set views n w) m) e ∙ view_here views n w here) k.1))
    (λ (ne : k.0 ≢ n). inr (
      k.0,
      subst (λ (v : View). In (rope s l t) (bound_in v)) (view_else views n k.0 w ne) k.1,
    ))
    (cases_eq k.0 n)

-- whether seat 0 has cleared, where one view has changed that says the same of itself
pub cleared_set : (views : List View) (n : ℕ) (w : View) → n < length views
    → w.cleared ≡ (view_at views n).cleared
    → (view_at (set views n w) 0).cleared ≡ (view_at views 0).cleared
cleared_set views n w here cleared =
    ⊎_elim
    (λ (e : 0 ≡ n).
    ap (λ (m : ℕ). (view_at (set views n w) m).cleared) e
    ∙ (ap (λ (v : View). v.cleared) (view_here views n w here)
    ∙ (cleared ∙ ap (λ (m : ℕ). (view_at views m).cleared) (sym e))))
    (λ (ne : 0 ≢ n). ap (λ (v : View). v.cleared) (view_else views n 0 w ne))
    (cases_eq 0 n)
