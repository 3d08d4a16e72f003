-- The law holds of the state with nothing in it.
use Rattle.std.proofs.Common.{◌≡◌, ⊎_elim, ℕ, zero, suc, ◌+◌, ◌<◌, ◌≤◌, List, [], ◌∷◌, length, get_or, sum, refl, ap, sym, ◌∙◌, subst, arith}
use Rattle.std.specs.Prelude.{Option, Some, None, map, replicate}
use Rattle.std.specs.List.{range_with_len}
use Rattle.std.proofs.lemmas.List.{get_or_past, get_or-replicate, length-replicate}
use Rattle.std.proofs.lemmas.List.FromFn.{get_or-map-range_with_len, length-map-range_with_len}
use Rattle.std.proofs.lemmas.List.Sums.{sum_by-cons}
use Rattle.std.proofs.lemmas.Bool.{cases_lt}
use Rattle.plain_protocol.specs.plain_state.declared.slot.PlainSlot.{PlainSlot}
use Rattle.plain_protocol.specs.plain_state.declared.slot.SlotId.{SlotId}
use Rattle.plain_protocol.specs.plain_state.declared.slot.Stage.TheVariants.{Free, Live}
use Rattle.plain_protocol.specs.plain_state.State.{Plain, empty, stage_at}
use Rattle.plain_protocol.proofs.Below.plain_state_Start.{every_slot_new}
use Rattle.plain_protocol.specs.Laws.{Starts}
use Rattle.directory_law.specs.Views.{View, gone, view_at, times_of, total, fresh, keeps}
use Rattle.directory_law.specs.Chains.{OwnSlot}
use Rattle.directory_law.specs.Cells.{Area, cell, on, full, set_cells}
use Rattle.directory_law.specs.Learnt.{Learnt}
use Rattle.directory_law.specs.Law.{DirectoryLaw}
use Rattle.directory_law.specs.Owned.{first_view}
use Rattle.directory_law.proofs.Kit.{none_some}
use Rattle.directory_law.proofs.Notes.{none_of}

total_zero : (f : View → ℕ) (vs : List View) → ((n : ℕ) → n < length vs → f (view_at vs n) ≡ 0)
    → total f vs ≡ 0
unfolding total
total_zero f [] h = refl
total_zero f (v ∷ vs) h =
    let a = sum_by-cons f v vs in
    let b : f v ≡ 0 = h 0 (omega arith) in
    let c = total_zero f vs (λ n k. h (suc n) (omega arith)) in omega arith

total_quota : (vs : List View) (qs : List ℕ)
    → ((n : ℕ) → n < length vs → (view_at vs n).quota ≡ get_or qs n 0)
    → total (λ v. v.quota) vs ≤ sum qs
unfolding total
total_quota [] qs h = omega arith
total_quota (v ∷ vs) [] h =
    let a = sum_by-cons (λ (w : View). w.quota) v vs in
    let b : v.quota ≡ 0 = h 0 (omega arith) in
    let c : total (λ (w : View). w.quota) vs ≤ 0 =
    total_quota vs [] (λ n k. h (suc n) (omega arith)) in omega arith
total_quota (v ∷ vs) (q ∷ qs) h =
    let a = sum_by-cons (λ (w : View). w.quota) v vs in
    let b : v.quota ≡ q = h 0 (omega arith) in
    let s : sum (q ∷ qs) ≡ q + sum qs = sum_by-cons (λ (x : ℕ). x) q qs in
    let c = total_quota vs qs (λ n k. h (suc n) (omega arith)) in omega arith

abbrev no_slot : Option SlotId
no_slot = None

none_cell : (z : Area) (seats slots cells weak_cells c : ℕ)
    → cell z (empty seats slots cells weak_cells) c ≡ None
none_cell z seats slots cells weak_cells c =
    ⊎_elim
    (λ (lt : z.first + c < weak_cells). get_or-replicate weak_cells (z.first + c) None None lt)
    (λ (le : weak_cells ≤ z.first + c).
    let l : length (replicate weak_cells no_slot) ≡ weak_cells =
    length-replicate weak_cells no_slot in
    get_or_past (replicate weak_cells None) (z.first + c) None (omega arith))
    (cases_lt (z.first + c) weak_cells)

none_set : (z : Area) (seats slots cells weak_cells m : ℕ)
    → set_cells z (empty seats slots cells weak_cells) m ≡ 0
none_set z seats slots cells weak_cells zero = refl
none_set z seats slots cells weak_cells (suc m) =
    let a = none_set z seats slots cells weak_cells m in
    let b : full (cell z (empty seats slots cells weak_cells) m) ≡ 0 =
    ap full (none_cell z seats slots cells weak_cells m) in omega arith

module _ (z : Area) (seats slots cells weak_cells : ℕ) where
  views : List View
  views = map (first_view z) (range_with_len 0 seats)

  start : Plain
  start = empty seats slots cells weak_cells

  at : (n : ℕ) → n < length views → view_at views n ≡ first_view z n
  unfolding views
  at n h =
      let l : length views ≡ seats = length-map-range_with_len (first_view z) 0 seats in
      get_or-map-range_with_len (first_view z) 0 seats n n gone (omega arith) (omega arith)

  at_views : (P : View → Type 0) (n : ℕ) → P (first_view z n) → P gone → P (view_at views n)
  at_views P n a b =
      ⊎_elim (λ (h : n < length views). subst P (sym (at n h)) a)
      (λ h. subst P (sym (get_or_past views n gone h)) b)
      (cases_lt n (length views))

  free : (s : SlotId) → stage_at start s ≡ Free
  unfolding start
  free s = ap (λ (y : PlainSlot). y.stage) (every_slot_new seats slots cells weak_cells s)

  not_own : (s : SlotId) → OwnSlot start s → ⊥
  not_own s o = o.made.0 (free s)

  null : (c : ℕ) → cell z start c ≡ None
  unfolding start
  null c = none_cell z seats slots cells weak_cells c

  unset : (c : ℕ) (s : SlotId) → cell z start c ≡ Some s → ⊥
  unset c s is = none_some s (sym (null c) ∙ is)

  none : (s : SlotId) (l : ℕ) → fresh views s l ≡ 0
  none s l =
      total_zero (λ (v : View). times_of s l v.noted) views
      (λ n h. ap (λ (v : View). times_of s l v.noted) (at n h) ∙ none_of s l)

  none_kept : (s : SlotId) (l : ℕ) → keeps views s l ≡ 0
  none_kept s l =
      total_zero (λ (v : View). times_of s l v.kept) views
      (λ n h. ap (λ (v : View). times_of s l v.kept) (at n h) ∙ none_of s l)

  unnoted : (s : SlotId) (l : ℕ) → 0 < fresh views s l + keeps views s l → ⊥
  unnoted s l h = let e = none s l in let f = none_kept s l in omega arith

  pub law_starts : DirectoryLaw z (empty seats slots cells weak_cells)
      (map (first_view z) (range_with_len 0 seats))
  unfolding views start
  law_starts = record {
    cells = λ c s h is. absurd (unset c s is);
    last = λ k j s r text lt h isk isj keptk keptj. absurd (unset (on z text k) s isk);
    bound = λ s live. let f : Free ≡ Live = sym (free s) ∙ live.stage in cc;
    few = let a = none_set z seats slots cells weak_cells z.cells in omega arith;
    quotas = let a = total_quota views z.interns (λ n h. ap (λ (v : View). v.quota) (at n h)) in
        omega arith;
    quota = λ n. at_views (λ v. v.used ≤ v.quota) n (omega arith) (omega arith);
    shape = λ s o. absurd (not_own s o);
    single = λ s t r os ot a b. absurd (not_own s os);
    loose = λ t s o a. absurd (not_own t o);
    lives = λ s l h. absurd (unnoted s l h);
    once = λ s l. let e = none s l in let f = none_kept s l in omega arith;
    stands = λ s l h. absurd (unnoted s l (omega arith));
    learnt = λ n.
        at_views (Learnt z start views) n
        (record { noted = tt; seen = tt; ended = tt; ran = tt; led = tt })
        (record { noted = tt; seen = tt; ended = tt; ran = tt; led = tt });
  }

pub starts : (z : Area) → Starts (DirectoryLaw z) (first_view z)
starts z seats slots cells weak_cells = law_starts z seats slots cells weak_cells
