-- The law over every list of events.
use Rattle.std.proofs.Common.{ℕ, ◌-◌, ◌^◌, ◌<◌, ◌≤◌, inl, inr, List, [], ◌∷◌, length, replicate, arith}
use Rattle.std.proofs.lemmas.Bool.Decides.{nat_tests}
use Rattle.std.proofs.lemmas.List.Sums.{get_or-le-sum_by, sum_by-cons}
use Rattle.std.proofs.lemmas.List.Folds.{sum_by-replicate}
use mathlib.Core.Logic.{dite}
use native.Mathlib.Decide.{dec_lt}
use Rattle.sticky_count.specs.declared.view.Act.{Act}
use Rattle.sticky_count.specs.declared.view.Act.TheVariants as act
use Rattle.sticky_count.specs.declared.view.Event.{Event}
use Rattle.sticky_count.specs.declared.view.View.{View}
use Rattle.counter_word.specs.Words.{HasZero}
use Rattle.sticky_count.specs.Views.{fresh, next, moved}
use Rattle.sticky_count.specs.History.{Counter, Enabled, Possible, after, opened, run, view_at}
use Rattle.sticky_count.specs.Sound.{IsSound}
use Rattle.sticky_count.specs.Running.{Suits}
use Rattle.sticky_count.proofs.Sums.{sums, changes, some_finisher, some_helper}
use Rattle.sticky_count.proofs.Steps.{Stands, alive, asked, over, goes, suits}

abbrev Standing : Counter → Type 0
Standing c = Stands c.word (sums c.seats)

-- the counts of a seat are among those held
part : (c : Counter) (i : ℕ) → i < length c.seats → (view_at c i).held ≤ (sums c.seats).held
part c i h = get_or-le-sum_by (λ (v : View). v.held) c.seats i (fresh 0) h

stands_first : (seats : ℕ) → Standing (opened seats)
stands_first seats =
    let n = seats - 1 in
    let others = replicate n (fresh 0) in
    let held = sum_by-replicate (λ (v : View). v.held) n (fresh 0) in
    let adds = sum_by-replicate (λ (v : View). v.adds) n (fresh 0) in
    let ended = sum_by-replicate (λ (v : View). v.ended) n (fresh 0) in
    let held' = sum_by-cons (λ (v : View). v.held) (fresh 1) others in
    let adds' = sum_by-cons (λ (v : View). v.adds) (fresh 1) others in
    let ended' = sum_by-cons (λ (v : View). v.ended) (fresh 1) others in
    alive (record {
      fits = omega arith;
      low = omega arith;
      held = omega arith;
      ended = omega arith;
      pending = λ z. absurd (omega arith);
    })

stands_after : (e : Event) (c : Counter) → Standing c → Enabled c e → Standing (after e c)
stands_after e c h on =
    let v = view_at c e.seat in
    goes e.act c.word (sums c.seats) v (part c e.seat on.there) h
    (sums (after e c).seats) (changes c.seats e.seat (moved e.act c.word v) on.there) on.may on.room

pub stands : (seats : ℕ) (es : List Event) → Possible seats es → Standing (run seats es)
stands seats [] p = stands_first seats
stands seats (e ∷ es) p = stands_after e (run seats es) (stands seats es p.0) p.1

sound_of : (c : Counter) → Standing c → IsSound c
sound_of c (alive a) = record {
  counts = grind (arith, nat_tests);
  help_beside_zero = λ h. absurd (omega arith);
  zero_pending = λ z. some_finisher c.seats (a.pending z);
  help_pending = λ h. absurd (omega arith);
  one_ender = (omega arith, ((λ h. absurd (omega arith)), (λ h. absurd (omega arith))));
  fits = omega arith;
  few = omega arith;
}
sound_of c (asked a) = record {
  counts = grind (arith, nat_tests);
  help_beside_zero = λ h. omega arith;
  zero_pending = λ z. absurd (omega arith);
  help_pending = λ h. dite (dec_lt 0 (sums c.seats).finishing) (λ f. inl (some_finisher c.seats f)) (λ f. inr (some_helper c.seats (omega arith)));
  one_ender = (omega arith, ((λ h. absurd (omega arith)), (λ h. absurd (h.1 (omega arith)))));
  fits = omega arith;
  few = omega arith;
}
sound_of c (over a) = record {
  counts = grind (arith, nat_tests);
  help_beside_zero = λ h. omega arith;
  zero_pending = λ z. absurd (omega arith);
  help_pending = λ h. absurd (omega arith);
  one_ender = (omega arith, ((λ h. (omega arith, λ k. omega arith)), (λ h. a.ended)));
  fits = omega arith;
  few = omega arith;
}

pub sound : (seats : ℕ) (es : List Event) → Possible seats es → IsSound (run seats es)
sound seats es p = sound_of (run seats es) (stands seats es p)

pub event_suits : (seats : ℕ) (es : List Event) (e : Event) → Possible seats (e ∷ es) → Suits e.act (run seats es).word
event_suits seats es e p =
    let c = run seats es in
    suits e.act c.word (sums c.seats) (view_at c e.seat) (part c e.seat p.1.there) (stands seats es p.0) p.1.may p.1.room

-- the zero flag stays
pub zero_next : (a : Act) (w : ℕ) → w < 2 ^ 64 → Suits a w → HasZero w → HasZero (next a w)
zero_next act.Add w h s z = omega arith
zero_next act.Sub w h s z = absurd (omega arith)
zero_next act.Finish w h s z = grind (arith, nat_tests)
zero_next act.Take w h s z = grind (arith, nat_tests)
zero_next act.Load w h s z = z
zero_next act.Mark w h s z = grind (arith, nat_tests)

pub zero_kept : (seats : ℕ) (es : List Event) (e : Event) → Possible seats (e ∷ es)
    → HasZero (run seats es).word → HasZero (run seats (e ∷ es)).word
zero_kept seats es e p z = zero_next e.act (run seats es).word (sound seats es p.0).fits (event_suits seats es e p) z
