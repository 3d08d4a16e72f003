-- The start, and a seat that leaves.
use Rattle.std.proofs.Common.{◌≡◌, ⊎_elim, ℕ, suc, ◌<◌, ◌≤◌, true, false, List, [], ◌∷◌, length, refl, ap, sym, ◌∙◌, subst, arith}
use Rattle.std.specs.Prelude.{Option, None, map, replicate, sum_by}
use Rattle.std.specs.List.{range_with_len}
use Rattle.std.proofs.lemmas.List.{get_or_past, get_or-replicate, length-replicate}
use Rattle.std.proofs.lemmas.List.FromFn.{get_or-map-range_with_len, length-map-range_with_len}
use Rattle.std.proofs.lemmas.List.Sums.{sum_by-cons}
use Rattle.std.proofs.lemmas.Bool.{cases_lt, false≢true}
use Rattle.plain_protocol.specs.plain_state.declared.slot.PlainSlot.{PlainSlot}
use Rattle.plain_protocol.specs.plain_state.declared.slot.SlotId.{SlotId}
use Rattle.plain_protocol.specs.plain_state.declared.slot.Stage.TheVariants.{Free, Live}
use Rattle.plain_protocol.specs.plain_state.State.{PlainSeat, seat_at, slot_at, new_seat, empty}
use Rattle.plain_protocol.proofs.Below.plain_state_Start.{every_slot_new}
use Rattle.plain_protocol.specs.Laws.{Starts}
use Rattle.map_trees.specs.Trees.{leaf}
use Rattle.map_law.specs.Views.{View, gone, first_view, view_at, raw_times, total, fresh}
use Rattle.map_law.specs.Nodes.{root}
use Rattle.map_law.specs.Learnt.{Learnt}
use Rattle.map_law.specs.Orders.{tagged, home}
use Rattle.map_law.specs.Law.{MapLaw}
use Rattle.map_law.proofs.Kit.{raw_none, none_some}
use Rattle.map_law.proofs.Orders.{tagged_none}

pub total_zero : (f : View → ℕ) (vs : List View) → ((n : ℕ) → n < length vs → f (view_at vs n) ≡ 0) → total f vs ≡ 0
unfolding total
total_zero f [] h = refl
total_zero f (v ∷ vs) h = let a = sum_by-cons f v vs in let b : f v ≡ 0 = h 0 (omega arith) in let c =
    total_zero f vs (λ n k. h (suc n) (omega arith)) in omega arith

abbrev no_slot : Option SlotId
no_slot = None

none_root : (c seats slots cells weak_cells : ℕ) → root (empty seats slots cells weak_cells) c ≡ None
none_root c seats slots cells weak_cells =
    ⊎_elim
    (λ (lt : c < cells). get_or-replicate cells c None None lt)
    (λ (le : cells ≤ c). let l : length (replicate cells no_slot) ≡ cells = length-replicate cells no_slot in
    get_or_past (replicate cells None) c None (omega arith))
    (cases_lt c cells)

empty_seat : (seats slots cells weak_cells m : ℕ) → seat_at (empty seats slots cells weak_cells) m ≡ new_seat
empty_seat seats slots cells weak_cells m = ⊎_elim (λ low. get_or-replicate seats m new_seat new_seat low)
    (λ past. let l = length-replicate seats new_seat in get_or_past (replicate seats new_seat) m new_seat
    (omega arith)) (cases_lt m seats)

pub starts : (c : ℕ) → Starts (MapLaw c) first_view
starts c seats slots cells weak_cells =
    record {
      tree = leaf;
      is = none_root c seats slots cells weak_cells;
      shaped = (tt, tt);
      trees = λ s nd. absurd (dead s nd.0);
      loose = λ t s nd l. absurd (dead t nd.0);
      stands = λ s e. absurd (none_some s (sym (none_root c seats slots cells weak_cells) ∙ e));
      once = λ s l. let e = none s l in omega arith;
      lives = λ s l h. let e = none s l in absurd (omega arith);
      learnt = λ n. at_views (Learnt (empty seats slots cells weak_cells) vs) n
          (record { raw = tt; solid = tt; led = tt; shown = tt })
          (record { raw = tt; solid = tt; led = tt; shown = tt });
      number = λ n. at_views (λ v. v.here ≡ true → v.number ≡ n) n (λ h. refl) (λ h. absurd (false≢true h));
      orders = record {
        all = [];
        kept = record {
          own = λ n. at_views (λ v. tagged n v.entries ≡ tagged n []) (home vs n) refl refl;
          none = λ n m ne. at_views (λ v. tagged n v.entries ≡ []) m (tagged_none n) (tagged_none n);
        };
        many = λ f. total_zero (λ (v : View). sum_by f v.entries) vs
            (λ n h. ap (λ (v : View). sum_by f v.entries) (at n h));
        answers = tt;
        ends = λ e. refl;
      };
      left = λ m e. ⊎_elim
          (λ past. let l = length-replicate seats new_seat in
          let k : length vs ≡ seats = length-map-range_with_len first_view 0 seats in
          get_or_past vs m gone (omega arith))
          (λ h. absurd (false≢true (sym (ap (λ (z : PlainSeat). z.left) (empty_seat seats slots cells weak_cells m))
          ∙ h))) e;
      closed = λ e. absurd (false≢true (sym (at_views (λ v. v.cleared ≡ false) 0 refl refl) ∙ e));
    }
  where
    vs : List View
    vs = map first_view (range_with_len 0 seats)

    at : (n : ℕ) → n < length vs → view_at vs n ≡ first_view n
    at n h = let l : length vs ≡ seats = length-map-range_with_len first_view 0 seats in
        get_or-map-range_with_len first_view 0 seats n n gone (omega arith) (omega arith)

    dead : (s : SlotId) → (slot_at (empty seats slots cells weak_cells) s).stage ≡ Live → ⊥
    dead s live = let f : Free ≡ Live =
        sym (ap (λ (y : PlainSlot). y.stage) (every_slot_new seats slots cells weak_cells s)) ∙ live in absurd cc

    at_views : (P : View → Type 0) (n : ℕ) → P (first_view n) → P gone → P (view_at vs n)
    at_views P n a b = ⊎_elim (λ (h : n < length vs). subst P (sym (at n h)) a)
        (λ h. subst P (sym (get_or_past vs n gone h)) b) (cases_lt n (length vs))

    none : (s : SlotId) (l : ℕ) → fresh vs s l ≡ 0
    none s l = total_zero (λ (v : View). raw_times s l v.raw) vs
        (λ n h. ap (λ (v : View). raw_times s l v.raw) (at n h) ∙ raw_none s l)
