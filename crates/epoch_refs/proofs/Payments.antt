-- Entries that are due are given up, one after another.
use Rattle.std.proofs.Common.{◌≡◌, ℕ, ◌+◌, ◌<◌, ◌≤◌, Bool, true, false, List, [], ◌∷◌, ◌++◌, length, length-append, map, refl, ap, sym, ◌∙◌, subst, arith}
use Rattle.std.specs.Prelude.{◌==◌, ◌-◌, ◌^◌, min, if◌then◌else◌, IfSome, Option, Some, None}
use Rattle.std.specs.Option.{is_some}
use Rattle.std.proofs.lemmas.List.{map-append}
use Rattle.epoch_domain.proofs.Below.epoch_core_Kit.{dated_cons, dated_none}
use Rattle.epoch_domain.specs.epoch_core.declared.act.Dated.{Dated}
use Rattle.epoch_domain.specs.epoch_core.declared.act.EpochAct.TheVariants as act
use Rattle.epoch_domain.specs.epoch_core.declared.outcome.EpochOutcome.{EpochOutcome}
use Rattle.epoch_domain.specs.epoch_core.declared.view.EpochMove.{EpochMove}
use Rattle.epoch_domain.specs.epoch_core.declared.view.EpochView.{EpochView}
use Rattle.epoch_domain.specs.epoch_core.Steps.{dated_times, ended_by, is_dated, noted, without_dated}
use Rattle.epoch_domain.specs.Calls.{IsSameView, Steps, same_view}
use Rattle.epoch_domain.specs.Domains.{DomainState}
use Rattle.epoch_domain.specs.Seats.{SeatState}
use Rattle.epoch_refs.specs.Flushing.{IsFlushing, Pays}
use Rattle.epoch_refs.specs.Walks.{IsAtRest, Walks, move}
use Rattle.epoch_refs.proofs.Walking.{one_step, rest_after, walks_then}

-- one part of a flush after another
pub flushing_then : (v u t : EpochView) → IsFlushing v u → IsFlushing u t → IsFlushing v t
flushing_then v u t first second =
    second
    ∙ ap (λ (x : EpochView). record x {
      pending = t.pending;
      dying = t.dying;
      known = t.known;
      trail = t.trail;
    }) first

-- a list in which an entry stands is one longer than without it
without_length : (d : Dated) (xs : List Dated) → 0 < dated_times d xs
    → length (without_dated d xs) + 1 ≡ length xs
without_length d [] some = let none = dated_none d in absurd (omega (arith, some, none))
without_length d (x ∷ xs) some = go (is_dated d x) refl (without_length d xs)
  where
    go : (b : Bool) → is_dated d x ≡ b
        → (0 < dated_times d xs → length (without_dated d xs) + 1 ≡ length xs)
        → length (if is_dated d x then xs else x ∷ without_dated d xs) + 1 ≡ length (x ∷ xs)
    go true is rest = rw is (omega arith)
    go false is rest =
        let c = dated_cons d x xs in
        let zero_here : ◌≡◌ {A = ℕ} (if is_dated d x then 1 else 0) 0 = rw is refl in
        let more = rest (omega (arith, some, c, zero_here)) in rw is (omega (arith, more))

module _ (v : EpochView) (d : Dated) (o : EpochOutcome) where
  abbrev less : EpochView
  less = record v { pending = without_dated d v.pending }

  record Gives (u : EpochView) : Type 0 where
    pub core : IsFlushing v u
    pub known : u.known ≡ v.known
    pub pending : u.pending ≡ without_dated d v.pending
    pub dying : length u.dying ≤ length v.dying + 1

  gives : (w : ℕ) → Gives (noted (act.Pay d) o (ended_by w d.slot less))
  gives w = go (w == 1)
    where
      go : (b : Bool)
          → Gives (noted (act.Pay d) o (if b then record less { dying = less.dying ++ d.slot ∷ [] } else less))
      go true = record {
        core = refl;
        known = refl;
        pending = refl;
        dying = let l = length-append v.dying (d.slot ∷ []) in omega (arith, l);
      }
      go false = record { core = refl; known = refl; pending = refl; dying = omega arith }

abbrev moves : List (Dated × EpochOutcome) → List EpochMove
moves paid = map (λ (p : Dated × EpochOutcome). move (act.Pay p.0) p.1) paid

module _ {P V : Type 0} (fits : List ℕ → Type 0) (d : DomainState P) where
  pub none_paid : (old : SeatState V) → Pays fits d [] old old
  none_paid old = record {
    walks = refl;
    core = refl;
    known = refl;
    fewer = omega arith;
    dying = omega arith;
  }

  pub one_paid : (paid : List (Dated × EpochOutcome)) (old mid new : SeatState V) (x : Dated)
      (o : EpochOutcome) → Pays fits d paid old mid
      → Steps fits d same_view IsSameView (act.Pay x) mid new o
      → Pays fits d (paid ++ (x, o) ∷ []) old new
  one_paid paid old mid new x o so step =
      let said = step.answers in
      let g : Gives mid.view.core x _ new.view.core =
      subst (Gives mid.view.core x _) (sym step.told.core) (gives mid.view.core x _ step.word) in
      let stood = subst (λ (u : EpochView). 0 < dated_times x u.pending) (sym step.told.happened.view)
      step.told.happened.enabled.1.1 in
      let one = without_length x mid.view.core.pending stood in
      let now = ap length g.pending in
      let count = length-append paid ((x, o) ∷ []) in
      let fewer = so.fewer in
      let dying = so.dying in
      let more = g.dying in record {
        walks = subst (λ (ms : List EpochMove). Walks fits d ms old new)
            (sym (map-append (λ (p : Dated × EpochOutcome). move (act.Pay p.0) p.1) paid ((x, o) ∷ [])))
            (walks_then fits d (moves paid) (moves ((x, o) ∷ [])) old mid new so.walks
            (one_step fits d (act.Pay x) o mid new step));
        core = flushing_then old.view.core mid.view.core new.view.core so.core g.core;
        known = g.known ∙ so.known;
        fewer = omega (arith, fewer, one, now, count);
        dying = omega (arith, dying, more, count);
      }

  -- so many have been given up so far
  pub record PaidSoFar (count : ℕ) (old new : SeatState V) : Type 0 where
    pub rest : IsAtRest d new
    pub room : old.room ≤ new.room
    pub paid : List (Dated × EpochOutcome)
    pub counted : count ≡ min (length paid) (2 ^ 64 - 1)
    pub pays : Pays fits d paid old new

  pub none_so_far : (old : SeatState V) → IsAtRest d old → PaidSoFar 0 old old
  none_so_far old rest = record {
    rest = rest;
    room = omega arith;
    paid = [];
    counted = refl;
    pays = none_paid old;
  }

  -- an entry that was given up
  abbrev pub Paid : SeatState V → SeatState V → Dated × EpochOutcome → Type 0
  Paid mid new r = Steps fits d same_view IsSameView (act.Pay r.0) mid new r.1

  which : (mid new : SeatState V) (r : Option (Dated × EpochOutcome)) → IfSome r (Paid mid new)
      → is_some r ≡ true → (x : Dated × EpochOutcome) × Paid mid new x
  which mid new None paid some = absurd (cc (some))
  which mid new (Some x) paid some = (x, paid)

  pub one_so_far : (count next : ℕ) (old mid new : SeatState V) (r : Option (Dated × EpochOutcome))
      → PaidSoFar count old mid → IfSome r (Paid mid new) → is_some r ≡ true
      → next ≡ min (count + 1) (2 ^ 64 - 1) → PaidSoFar next old new
  one_so_far count next old mid new r so answers some is =
      let x = which mid new r answers some in
      let pays = one_paid so.paid old mid new x.0.0 x.0.1 so.pays x.1 in
      let room = so.room in
      let more = x.1.room in
      let long = length-append so.paid (x.0 ∷ []) in
      let told = so.counted in
      let g : Gives mid.view.core x.0.0 _ new.view.core =
      subst (Gives mid.view.core x.0.0 _) (sym x.1.told.core) (gives mid.view.core x.0.0 _ x.1.word) in record {
        rest = rest_after fits d (move (act.Pay x.0.0) x.0.1 ∷ []) mid new
            (one_step fits d (act.Pay x.0.0) x.0.1 mid new x.1) so.rest g.core;
        room = omega (arith, room, more);
        paid = so.paid ++ (x.0.0, x.0.1) ∷ [];
        counted = counted_more (length so.paid) count next (length (so.paid ++ x.0 ∷ [])) told is long;
        pays = pays;
      }
    where
      counted_more : (n k next m : ℕ) → k ≡ min n (2 ^ 64 - 1) → next ≡ min (k + 1) (2 ^ 64 - 1)
          → m ≡ n + 1 → next ≡ min m (2 ^ 64 - 1)
      counted_more n k next m a b c = grind arith

  -- and so fewer are left
  pub fewer_left : (mid new : SeatState V) (r : Option (Dated × EpochOutcome))
      → IfSome r (Paid mid new) → is_some r ≡ true
      → length new.view.core.pending < length mid.view.core.pending
  fewer_left mid new r answers some =
      let x = which mid new r answers some in
      let p = one_paid [] mid mid new x.0.0 x.0.1 (none_paid mid) x.1 in
      let less = p.fewer in omega (arith, less)
