-- A seat's view tells the seat's own part of the plain state.
use Rattle.std.proofs.Common.{◌≡◌, ⊎_elim, ℕ, zero, suc, ◌+◌, ◌<◌, ◌≤◌, Bool, true, false, List, [], ◌∷◌, length, get_or, drop, map, refl, ap, sym, ◌∙◌, arith}
use Rattle.std.specs.Prelude.{◌↔◌, ◌==◌, ◌&&◌, if◌then◌else◌, Option, Some, None}
use Rattle.std.specs.List.{list_all}
use Rattle.std.specs.Option.{option_map, is_some}
use Rattle.std.proofs.lemmas.Bool.{cases_Bool, cases_lt}
use Rattle.std.proofs.lemmas.Bool.Decides.{nat_tests}
use Rattle.std.proofs.Math.ListN.{get_or-map}
use Rattle.plain_protocol.specs.plain_state.declared.slot.PlainSlot.{PlainSlot}
use Rattle.plain_protocol.specs.plain_state.declared.slot.SlotId.{SlotId}
use Rattle.plain_protocol.specs.plain_state.State.{Plain, PlainSeat, new_slot, seat_at, slot_at}
use Rattle.plain_protocol.specs.Owns.{Object, OwnPart, has_slot, is_alone, object_of, own_part}
use Rattle.epoch_core.specs.declared.shape.EpochShape.{EpochShape}
use Rattle.epoch_core.specs.declared.view.EpochView.{EpochView}
use Rattle.epoch_core.specs.Runs.{Core, view_at}
use Rattle.epoch_core.specs.Shows.{show_seat, shows}
use Rattle.epoch_core.specs.Views.{no_view}
use Rattle.epoch_core.specs.Sound.{Sound}
use Rattle.epoch_core.proofs.Bridge.{shown_past, shown_seat, shown_slot}
use Rattle.domain_rule.specs.declared.view.Known.{Known}
use Rattle.epoch_rule.specs.declared.view.EpochSeatView.{EpochSeatView}
use Rattle.epoch_rule.specs.declared.view.EpochWhole.{EpochWhole}
use Rattle.epoch_rule.specs.Rule.{IsTrueOf, OthersLeft}
use Rattle.domain_rule.specs.Views.{known_of, no_object, objects_of}
use Rattle.epoch_rule.specs.Views.{IsAlone, KnowsAll, core_in, object_in, own_of}

-- the objects that are told are those of the state
pub told_object : {V : Type 0} (p : Plain) (v : EpochSeatView V) (s : SlotId) → v.objects ≡ objects_of p
    → object_in v s ≡ object_of (slot_at p s)
told_object p v s told =
    let o : get_or v.objects s.0 no_object ≡ known_of (object_of (slot_at p s)) =
    ap (λ (os : List Known). get_or os s.0 no_object) told
    ∙ get_or-map (λ (x : PlainSlot). known_of (object_of x)) p.slots s.0 new_slot in
    ap (λ (k : Known). record { life = k.life; payload = k.payload }) o

-- each slot has 16 payload words
pub shown_payload : (z : EpochShape) (c : Core) (s : SlotId) → length (slot_at (shows z c) s).payload ≡ 16
shown_payload z c s = ⊎_elim
    (λ (below : s.0 < z.slots). ap (λ (x : PlainSlot). length x.payload) (shown_slot z c s below))
    (λ (past : z.slots ≤ s.0). ap (λ (x : PlainSlot). length x.payload) (shown_past z c s past))
    (cases_lt s.0 z.slots)

both : (a b : Bool) → (a && b) ≡ true → (a ≡ true) × (b ≡ true)
both true b e = (refl, e)
both false b e = absurd (cc (e))

-- where all seats are shown as left, each has left, and the other way round
all_left : (vs : List EpochView) → list_all (λ (u : PlainSeat). u.left) (map show_seat vs) ≡ true
    → (n : ℕ) → n < length vs → (get_or vs n no_view).left ≡ true
all_left [] e n h = absurd (omega arith)
all_left (v ∷ vs) e zero h = (both v.left _ e).0
all_left (v ∷ vs) e (suc n) h = all_left vs (both v.left _ e).1 n (omega arith)

left_all : (vs : List EpochView) → ((n : ℕ) → n < length vs → (get_or vs n no_view).left ≡ true)
    → list_all (λ (u : PlainSeat). u.left) (map show_seat vs) ≡ true
left_all [] each = refl
left_all (v ∷ vs) each =
    rw (each zero (omega arith)) (left_all vs (λ n h. each (suc n) (omega arith)))

-- the same of all but the first
others_left : (vs : List EpochView)
    → list_all (λ (u : PlainSeat). u.left) (drop 1 (map show_seat vs)) ≡ true
    → (n : ℕ) → 0 < n → n < length vs → (get_or vs n no_view).left ≡ true
others_left [] e n pos h = absurd (omega arith)
others_left (v ∷ vs) e zero pos h = absurd (omega arith)
others_left (v ∷ vs) e (suc n) pos h = all_left vs e n (omega arith)

left_others : (vs : List EpochView)
    → ((n : ℕ) → 0 < n → n < length vs → (get_or vs n no_view).left ≡ true)
    → list_all (λ (u : PlainSeat). u.left) (drop 1 (map show_seat vs)) ≡ true
left_others [] each = refl
left_others (v ∷ vs) each = left_all vs (λ n h. each (suc n) (omega arith) (omega arith))

module _ (z : EpochShape) (c : Core) where
  -- the state shows a seat that is alone
  alone_shown : (n : ℕ) → (is_alone (shows z c) n ≡ true) ↔ ((n ≡ 0) × OthersLeft c)
  alone_shown n = (
    λ e.
        let b = both (n == 0) _ e in
        let first : (n == 0) ≡ true = b.0 in
        (grind (arith, nat_tests), others_left c.views b.1),
    λ a.
        let root = a.0 in
        let first : (n == 0) ≡ true = grind (arith, nat_tests) in
        rw first (left_others c.views a.1),
  )

-- what a seat has, by its parts
abbrev own_with : PlainSeat → (SlotId → Option Object) → Option Plain → OwnPart
own_with seat objects whole = record { seat = seat; objects = objects; whole = whole }

own_eq : (a a' : PlainSeat) (f f' : SlotId → Option Object) (w w' : Option Plain)
    → a' ≡ a → f' ≡ f → w' ≡ w → own_with a' f' w' ≡ own_with a f w
own_eq a a' f f' w w' e1 e2 e3 = cc

module _ {V : Type 0} (z : EpochShape) (c : Core) (so : Sound z c) (n : ℕ) (v : EpochSeatView V)
    (hn : n < length c.views) (told : IsTrueOf z c n v) (knows : KnowsAll v)
    (count : OthersLeft c ↔ (length (view_at c 0).left_seats + 1 ≡ z.seats)) where
  seat_told : seat_at (shows z c) n ≡ show_seat v.core
  seat_told = shown_seat z c n hn ∙ ap show_seat (sym told.core)

  objects_told : (own_part (shows z c) n).objects ≡ (own_of v).objects
  objects_told = λ i s. each s i
    where
      each : (s : SlotId) → (own_part (shows z c) n).objects s ≡ (own_of v).objects s
      each s = rw seat_told (go (has_slot (show_seat v.core) s) refl)
        where
          go : (b : Bool) → has_slot (show_seat v.core) s ≡ b
              → (if b then Some (object_of (slot_at (shows z c) s)) else None)
              ≡ (if b then Some (object_in v s) else None)
          go true has = ap Some (sym (told.objects s has))
          go false has = refl

  shape_told : v.core.shape ≡ z
  shape_told =
      let e = so.views in
      ap (λ (u : EpochView). u.shape) told.core ∙ (so.seats n (omega arith)).same_shape

  -- the view of a seat that is alone says so
  alone_seen : (n ≡ 0) × OthersLeft c → IsAlone v
  alone_seen alone =
      let e = so.views in
      let law = so.seats n (omega arith) in
      let root : length (view_at c n).left_seats ≡ length (view_at c 0).left_seats =
      ap (λ (m : ℕ). length (view_at c m).left_seats) alone.0 in
      let trails = ap (λ (u : EpochView). length u.left_seats) told.core in
      let seats = ap (λ (x : EpochShape). x.seats) shape_told in
      let left = count.0 alone.1 in
      (ap (λ (u : EpochView). u.seat) told.core ∙ (law.number ∙ alone.0), omega arith)

  whole_told : (own_part (shows z c) n).whole ≡ (own_of v).whole
  whole_told = go v.whole refl
    where
      go : (o : Option EpochWhole) → v.whole ≡ o
          → (if is_alone (shows z c) n then Some (shows z c) else None)
          ≡ option_map (λ all. shows v.core.shape (core_in all)) o
      go None none = ⊎_elim
          (λ alone.
          let known : is_some v.whole ≡ true = knows (alone_seen ((alone_shown z c n).0 alone)) in
          absurd (cc (known, none)))
          (λ accompanied. rw accompanied refl)
          (cases_Bool (is_alone (shows z c) n))
      go (Some all) known =
          let all_told = told.whole all known in
          rw ((alone_shown z c n).1 (all_told.1, all_told.2))
          (λ i. Some (shows (sym shape_told i) (sym all_told.0 i)))

  -- the view tells the seat's own part
  pub own_told : own_part (shows z c) n ≡ own_of v
  own_told = own_eq _ _ _ _ _ _ seat_told objects_told whole_told
