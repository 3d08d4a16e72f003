-- The law holds of the state with nothing in it.
use Rattle.std.proofs.Common.{◌≡◌, ⊎_elim, ℕ, true, suc, ◌+◌, ◌<◌, ◌≤◌, List, [], ◌∷◌, length, get_or, refl, ap, sym, ◌∙◌, subst, arith}
use Rattle.std.specs.Prelude.{Option, Some, None, map, replicate, sum}
use Rattle.std.specs.List.{range_with_len}
use Rattle.std.proofs.lemmas.List.{get_or_past, get_or-replicate, length-replicate}
use Rattle.std.proofs.lemmas.List.FromFn.{get_or-map-range_with_len, length-map-range_with_len}
use Rattle.std.proofs.lemmas.List.Sums.{sum_by-cons}
use Rattle.std.proofs.lemmas.Bool.{cases_lt, false≢true}
use Rattle.plain_protocol.specs.plain_state.declared.slot.SlotId.{SlotId}
use Rattle.plain_protocol.specs.plain_state.State.{PlainSeat, empty, new_seat}
use Rattle.plain_protocol.specs.Laws.{Starts}
use Rattle.directory_law.specs.Payloads.{Text}
use Rattle.directory_law.specs.Views.{In, rope}
use Rattle.directory_law.specs.Cells.{Area}
use Rattle.directory_law.specs.Law.{DirectoryLaw}
use Rattle.directory_law.specs.Owned as directory_owned
use Rattle.directory_law.proofs.Kit.{none_some}
use Rattle.directory_law.proofs.Start.{starts}
use Rattle.cell_law.specs.Views.{View, gone, view_at, bound_in, BoundIn, makers, share, shares}
use Rattle.cell_law.specs.Cells.{cell, no_cells}
use Rattle.cell_law.specs.Law.{Learnt, CellLaw, HasLeft}
use Rattle.cell_law.specs.Owned.{first_view}

makers_start : (z : Area) (ns : List ℕ)
    → map (directory_owned.first_view no_cells) ns ≡ makers (map (first_view z) ns)
makers_start z [] = refl
makers_start z (n ∷ ns) =
    ap (λ l. directory_owned.first_view no_cells n ∷ l) (makers_start z ns)

-- the shares of views, each of which may bind what stands at its place in a list
shares_start : (vs : List View) (ns : List ℕ)
    → ((n : ℕ) → n < length vs → share (view_at vs n) ≡ get_or ns n 0) → shares vs ≤ sum ns
unfolding shares
shares_start [] ns h = omega arith
shares_start (v ∷ vs) [] h =
    let a = sum_by-cons share v vs in
    let b : share v ≡ 0 = h 0 (omega arith) in
    let c : shares vs ≤ 0 = shares_start vs [] (λ n k. h (suc n) (omega arith)) in omega arith
shares_start (v ∷ vs) (m ∷ ns) h =
    let a = sum_by-cons share v vs in
    let b : share v ≡ m = h 0 (omega arith) in
    let s : sum (m ∷ ns) ≡ m + sum ns = sum_by-cons (λ (x : ℕ). x) m ns in
    let c = shares_start vs ns (λ n k. h (suc n) (omega arith)) in omega arith

abbrev no_slot : Option SlotId
no_slot = None

none_cell : (z : Area) (seats slots cells weak_cells c : ℕ)
    → cell z (empty seats slots cells weak_cells) c ≡ None
none_cell z seats slots cells weak_cells c =
    ⊎_elim
    (λ (lt : z.first + c < cells). get_or-replicate cells (z.first + c) None None lt)
    (λ (le : cells ≤ z.first + c).
    let l : length (replicate cells no_slot) ≡ cells = length-replicate cells no_slot in
    get_or_past (replicate cells None) (z.first + c) None (omega arith))
    (cases_lt (z.first + c) cells)

-- who has left at the start never was
starts_here : (z : Area) (seats slots cells weak_cells m : ℕ)
    → HasLeft (empty seats slots cells weak_cells) m → seats ≤ m
starts_here z seats slots cells weak_cells m h =
    let l : length (replicate seats new_seat) ≡ seats = length-replicate seats new_seat in
    ⊎_elim
    (λ (past : length (replicate seats new_seat) ≤ m). let e = past in omega arith)
    (λ (left : (get_or (replicate seats new_seat) m new_seat).left ≡ true).
    ⊎_elim
    (λ (lt : m < seats). absurd (false≢true
    (sym (ap (λ (s : PlainSeat). s.left) (get_or-replicate seats m new_seat new_seat lt)) ∙ left)))
    (λ (le : seats ≤ m). le)
    (cases_lt m seats))
    h

module _ (z : Area) (seats slots cells weak_cells : ℕ) where
  views : List View
  views = map (first_view z) (range_with_len 0 seats)

  at : (n : ℕ) → n < length views → view_at views n ≡ first_view z n
  unfolding views
  at n h =
      let l : length views ≡ seats = length-map-range_with_len (first_view z) 0 seats in
      get_or-map-range_with_len (first_view z) 0 seats n n gone (omega arith) (omega arith)

  at_views : (P : View → Type 0) (n : ℕ) → P (first_view z n) → P gone → P (view_at views n)
  at_views P n a b =
      ⊎_elim (λ (h : n < length views). subst P (sym (at n h)) a)
      (λ (h : length views ≤ n). subst P (sym (get_or_past views n gone h)) b)
      (cases_lt n (length views))

  past_gone : (n : ℕ) → seats ≤ n → view_at views n ≡ gone
  unfolding views
  past_gone n h =
      let l : length views ≡ seats = length-map-range_with_len (first_view z) 0 seats in
      get_or_past views n gone (omega arith)

  none_bound : (s : SlotId) (l : ℕ) (t : Text) → BoundIn views s l t → ⊥
  none_bound s l t k =
      at_views (λ (v : View). In (rope s l t) (bound_in v) → ⊥) k.0 (λ i. i) (λ i. i) k.1

  unset : (c : ℕ) (s : SlotId) → cell z (empty seats slots cells weak_cells) c ≡ Some s → ⊥
  unset c s is = none_some s (sym (none_cell z seats slots cells weak_cells c) ∙ is)

  pub law_starts : CellLaw z (empty seats slots cells weak_cells)
      (map (first_view z) (range_with_len 0 seats))
  unfolding views
  law_starts = record {
    records = subst (DirectoryLaw no_cells (empty seats slots cells weak_cells))
        (makers_start z (range_with_len 0 seats)) (starts no_cells seats slots cells weak_cells);
    cells = λ c s h is. absurd (unset c s is);
    single = λ c d s hc hd isc isd. absurd (unset c s isc);
    stands = λ o s l t k. absurd (none_bound s l t k);
    apart = λ s r l k t a b. absurd (none_bound s l t a);
    learnt = λ n. at_views (Learnt z (empty seats slots cells weak_cells) views) n
        (record { texts = tt; seen = tt; found = tt; own = tt })
        (record { texts = tt; seen = tt; found = tt; own = tt });
    granted = λ n. at_views (λ (v : View). length v.bound ≤ v.grant) n (omega arith) (omega arith);
    room = shares_start views z.interns
        (λ n h. ap share (at n h) ∙ (let e : share (first_view z n) ≡ get_or z.interns n 0 = omega arith in e));
    left = λ m h. past_gone m (starts_here z seats slots cells weak_cells m h);
    alone = λ is m ne. absurd (at_views (λ (v : View). v.cleared ≡ true → ⊥) 0 (λ e. cc) (λ e. cc) is);
  }

pub starts_law : (z : Area) → Starts (CellLaw z) (first_view z)
starts_law z seats slots cells weak_cells = law_starts z seats slots cells weak_cells
