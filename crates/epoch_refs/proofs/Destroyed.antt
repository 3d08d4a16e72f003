-- Objects that a seat has ended are destroyed, one after another.
use Rattle.std.proofs.Common.{◌≡◌, ℕ, ◌+◌, ◌*◌, ◌-◌, ◌^◌, ◌<◌, ◌≤◌, Bool, true, false, List, [], ◌∷◌, ◌++◌, length, get_or, refl, ap, sym, ◌∙◌, subst, arith}
use Rattle.std.specs.Prelude.{min, if◌then◌else◌, IfSome, IsNone, ◌↔◌, Option, Some, None}
use Rattle.epoch_domain.proofs.Below.core_law_Kit.{one_other, one_same, times_cons, times_none}
use Rattle.std.proofs.lemmas.Bool.Decides.{nat_tests}
use Rattle.epoch_domain.specs.plain_protocol.plain_state.declared.slot.SlotId.{SlotId}
use Rattle.epoch_domain.specs.plain_protocol.plain_state.Lists.{is_slot, times}
use Rattle.epoch_domain.specs.epoch_core.core_events.Counts.{one}
use Rattle.epoch_domain.specs.epoch_core.core_events.Views.{without}
use Rattle.epoch_domain.specs.Domains.{DomainState}
use Rattle.epoch_domain.specs.Seats.{SeatState}
use Rattle.epoch_refs.specs.Flushing.{Destroys, DestroysEach, IsFlushing, weights}
use Rattle.epoch_refs.specs.Walks.{IsAtRest}
use Rattle.epoch_refs.proofs.Payments.{flushing_then}

one_apart : (s x : SlotId) → is_slot s x ≡ false → one s x ≡ 0
one_apart s x is = one_other s x (λ e. absurd (grind (arith, nat_tests)))

-- a slot that stands in a list makes it one longer
without_length : (s : SlotId) (xs : List SlotId) → 0 < times s xs
    → length (without s xs) + 1 ≡ length xs
without_length s [] some = let none = times_none s in absurd (omega (arith, some, none))
without_length s (x ∷ xs) some = go (is_slot s x) refl (without_length s xs)
  where
    go : (b : Bool) → is_slot s x ≡ b → (0 < times s xs → length (without s xs) + 1 ≡ length xs)
        → length (if is_slot s x then xs else x ∷ without s xs) + 1 ≡ length (x ∷ xs)
    go true is rest = rw is (omega arith)
    go false is rest =
        let c = times_cons s x xs in
        let apart = one_apart s x is in
        let more = rest (omega (arith, some, c, apart)) in rw is (omega (arith, more))

-- the first of a list stands in it
pub first_stands : (r : Option SlotId) (xs : List SlotId) → (IsNone r ↔ (xs ≡ []))
    → IfSome r (λ s. s ≡ get_or xs 0 s) → IfSome r (λ s. 0 < times s xs)
first_stands None xs none first = tt
first_stands (Some s) [] none first = absurd (cc (none.1 refl))
first_stands (Some s) (x ∷ xs) none first =
    let c = times_cons s x xs in
    let o = one_same s x (sym (ap (λ (t : SlotId). t.0) first)) in omega (arith, c, o)

module _ {P V : Type 0} (fits : List ℕ → Type 0) (d : DomainState P) (weight : List ℕ → ℕ) where
  each_then : (xs ys : List (SlotId × ℕ)) (a b c : SeatState V) → DestroysEach fits d weight xs a b
      → DestroysEach fits d weight ys b c → DestroysEach fits d weight (xs ++ ys) a c
  each_then [] ys a b c first second =
      subst (λ (s : SeatState V). DestroysEach fits d weight ys s c) first second
  each_then (x ∷ xs) ys a b c first second =
      (first.0, first.1, each_then xs ys first.0 b c first.2 second)

  -- objects of this weight together are destroyed so far
  pub record DestroyedSoFar (count : ℕ) (old new : SeatState V) : Type 0 where
    pub rest : IsAtRest d new
    pub core : IsFlushing old.view.core new.view.core
    pub known : new.view.core.known ≡ old.view.core.known
    pub room : 2 * length new.view.core.dying ≤ new.room
    pub ended : List (SlotId × ℕ)
    pub counted : count ≡ min (weights ended) (2 ^ 64 - 1)
    pub each : DestroysEach fits d weight ended old new

  pub none_so_far : (old : SeatState V) → IsAtRest d old
      → 2 * length old.view.core.dying ≤ old.room → DestroyedSoFar 0 old old
  none_so_far old rest room = record {
    rest = rest;
    core = refl;
    known = refl;
    room = room;
    ended = [];
    counted = refl;
    each = refl;
  }

  module _ (count w next : ℕ) (old mid new : SeatState V) (s : SlotId) (so : DestroyedSoFar count old mid)
      (stands : 0 < times s mid.view.core.dying) where
    pub room_here : 2 ≤ mid.room
    room_here =
        let one = without_length s mid.view.core.dying stands in
        let room = so.room in omega (arith, one, room)

    module _ (destroys : Destroys fits d weight w s mid new)
        (core : IsFlushing mid.view.core new.view.core)
        (known : new.view.core.known ≡ mid.view.core.known)
        (dying : new.view.core.dying ≡ without s mid.view.core.dying)
        (room : mid.room ≤ new.room + 2) (rest : IsAtRest d new) where
      fewer : length new.view.core.dying + 1 ≡ length mid.view.core.dying
      fewer =
          let one = without_length s mid.view.core.dying stands in
          let same = ap length dying in omega (arith, one, same)

      pub one_less : length new.view.core.dying < length mid.view.core.dying
      one_less = let f = fewer in omega (arith, f)

      pub one_more : next ≡ min (count + w) (2 ^ 64 - 1) → DestroyedSoFar next old new
      one_more is = record {
        rest = rest;
        core = flushing_then old.view.core mid.view.core new.view.core so.core core;
        known = known ∙ so.known;
        room = let f = fewer in let had = so.room in omega (arith, f, had, room);
        ended = so.ended ++ (s, w) ∷ [];
        counted = counted_more (weights so.ended) count next (weights (so.ended ++ (s, w) ∷ []))
            so.counted is together;
        each = each_then so.ended ((s, w) ∷ []) old mid new so.each (new, destroys, refl);
      }
        where
          counted_more : (n k next m : ℕ) → k ≡ min n (2 ^ 64 - 1)
              → next ≡ min (k + w) (2 ^ 64 - 1) → m ≡ n + w → next ≡ min m (2 ^ 64 - 1)
          counted_more n k next m a b c = grind arith

          together : weights (so.ended ++ (s, w) ∷ []) ≡ weights so.ended + w
          together = go so.ended
            where
              go : (xs : List (SlotId × ℕ)) → weights (xs ++ (s, w) ∷ []) ≡ weights xs + w
              go [] = omega arith
              go (x ∷ xs) = let r = go xs in omega (arith, r)
