-- The law holds of the state with nothing in it.
use Rattle.std.proofs.Common.{◌≡◌, ⊎_elim, ℕ, ◌+◌, ◌<◌, true, List, refl, ap, sym, ◌∙◌, subst, arith}
use Rattle.std.specs.Prelude.{Contains, Option, None, map, replicate}
use Rattle.std.specs.List.{range_with_len}
use Rattle.std.proofs.lemmas.List.{get_or_past, get_or-replicate, length-replicate}
use Rattle.std.proofs.lemmas.List.FromFn.{get_or-map-range_with_len, length-map-range_with_len}
use Rattle.std.proofs.lemmas.Bool.{cases_lt, false≢true}
use Rattle.plain_protocol.specs.plain_state.declared.slot.PlainSlot.{PlainSlot}
use Rattle.plain_protocol.specs.plain_state.declared.slot.SlotId.{SlotId}
use Rattle.plain_protocol.specs.plain_state.declared.slot.Stage.TheVariants.{Free, Live}
use Rattle.plain_protocol.specs.plain_state.State.{empty, stage_at}
use Rattle.plain_protocol.proofs.Below.plain_state_Start.{every_slot_new}
use Rattle.plain_protocol.specs.Laws.{Starts}
use Rattle.protocol_pairs.proofs.Notes.{none_in}
use Rattle.watch_law.specs.Views.{Address, View, view_at, no_view, first_view, IsAddressed, last}
use Rattle.watch_law.specs.Law.{Area, cell, KnowsCell, Fresh, WatchLaw}
use Rattle.watch_law.proofs.Quiet.{none_some}

null_cell : (z : Area) (seats slots cells weak_cells c : ℕ)
    → cell z (empty seats slots cells weak_cells) c ≡ None
null_cell z seats slots cells weak_cells c =
    let null : Option SlotId = None in
    ⊎_elim
    (λ (low : z.first + c < weak_cells). get_or-replicate weak_cells (z.first + c) null null low)
    (λ past. let l = length-replicate weak_cells null in
    get_or_past (replicate weak_cells null) (z.first + c) null (omega arith))
    (cases_lt (z.first + c) weak_cells)

module _ (seats : ℕ) where
  abbrev views : List View
  views = map first_view (range_with_len 0 seats)

  at_views : (P : View → Type 0) (n : ℕ) → P (first_view n) → P no_view → P (view_at views n)
  at_views P n a b =
      let l = length-map-range_with_len first_view 0 seats in
      ⊎_elim
      (λ (h : n < seats).
      subst P (sym (get_or-map-range_with_len first_view 0 seats n n no_view h (omega arith))) a)
      (λ h. subst P (sym (get_or_past views n no_view (omega arith))) b)
      (cases_lt n seats)

  none_addressed : (a : Address) → ¬ (IsAddressed views a)
  none_addressed a is = at_views (λ v. ¬ (Contains v.addressed a)) is.0 (none_in a) (none_in a) is.1

pub watch_start : (z : Area) → Starts (WatchLaw z) first_view
watch_start z seats slots cells weak_cells =
    let start = empty seats slots cells weak_cells in
    let free : (s : SlotId) → stage_at start s ≡ Free =
    λ s. ap (λ (y : PlainSlot). y.stage) (every_slot_new seats slots cells weak_cells s) in
    let dead : (s : SlotId) → stage_at start s ≡ Live → ⊥ =
    λ s live. let e : Free ≡ Live = sym (free s) ∙ live in cc in
    let null = null_cell z seats slots cells weak_cells in
    record {
      cells = λ c s h is. absurd (none_some s (cell z start c) (null c) is);
      own_cells = λ n c here h own.
          at_views seats (λ v. KnowsCell z start c
          (last c v.subscribed)) n (null c) (null c);
      number = λ n. at_views seats (λ v. v.here ≡ true → v.number ≡ n) n (λ is. refl)
          (λ is. absurd (false≢true is));
      fresh = λ n. at_views seats
          (λ v. 0 < v.made.life → Fresh start (views seats) v.made) n
          (λ some. absurd (omega arith)) (λ some. absurd (omega arith));
      apart = λ n m. at_views seats (λ v. 0 < v.made.life
          → v.made.slot ≡ (view_at (views seats) m).made.slot
          → v.made.life ≡ (view_at (views seats) m).made.life → n ≡ m) n
          (λ some. absurd (omega arith)) (λ some. absurd (omega arith));
      addressed = λ a is. absurd (none_addressed seats a is);
      once = λ a b is. absurd (none_addressed seats a is);
      fields = λ d o live. absurd (dead d live);
      bare = λ s live. absurd (dead s live);
      read = λ a is. absurd (at_views seats (λ v. ¬ (Contains v.read a)) is.0 (none_in a) (none_in a) is.1);
    }
