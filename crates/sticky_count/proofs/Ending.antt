-- What a step tells of all later events: the counter has ended by it alone; the zero flag stays.
use Rattle.std.proofs.Common.{◌≡◌, ℕ, ◌+◌, ◌≤◌, true, false, List, [], ◌∷◌, ◌++◌, sym, ap, ◌∙◌, subst, arith}
use Rattle.std.proofs.lemmas.Bool.Decides.{nat_tests}
use Rattle.atomic_table.specs.Seated.{TableId}
use Rattle.sticky_count.specs.declared.view.Act.{Act}
use Rattle.sticky_count.specs.declared.view.Act.TheVariants as act
use Rattle.sticky_count.specs.declared.view.Event.{Event}
use Rattle.sticky_count.specs.declared.view.View.{View}
use Rattle.sticky_count.specs.declared.view.Knows.{Knows}
use Rattle.counter_word.specs.Words.{HasZero, has_help, lives, value}
use Rattle.sticky_count.specs.Views.{next, moved}
use Rattle.sticky_count.specs.History.{Possible, event, run, view_at}
use Rattle.sticky_count.specs.Sound.{ended_in}
use Rattle.sticky_count.specs.Running.{Does}
use Rattle.sticky_count.specs.Ending.{EndsOnce, HasEndedIt, IsOver}
use Rattle.sticky_count.proofs.Sums.{changes}
use Rattle.sticky_count.proofs.Law.{sound, zero_kept}
use Rattle.sticky_count.proofs.Walks.{state_of}

ended_grows : (a : Act) (w : ℕ) (v : View) → v.ended ≤ (moved a w v).ended
ended_grows act.Add w v = omega arith
ended_grows act.Sub w v = omega arith
ended_grows act.Finish w v = grind (arith, nat_tests)
ended_grows act.Take w v = grind (arith, nat_tests)
ended_grows act.Load w v = omega arith
ended_grows act.Mark w v = omega arith

module _ (seats : ℕ) (es : List Event) where
  -- an end stays, and so does the zero flag
  still_ended : (later : List Event) → Possible seats (later ++ es) → ended_in (run seats es) ≤ ended_in (run seats (later ++ es))
  still_ended [] p = omega arith
  still_ended (e ∷ later) p =
      let c = run seats (later ++ es) in
      let before = still_ended later p.0 in
      let step = changes c.seats e.seat (moved e.act c.word (view_at c e.seat)) p.1.there in
      let more = ended_grows e.act c.word (view_at c e.seat) in
      omega (arith, step.ended)

  still_zero : HasZero (run seats es).word → (later : List Event) → Possible seats (later ++ es) → HasZero (run seats (later ++ es)).word
  still_zero z [] p = z
  still_zero z (e ∷ later) p = zero_kept seats (later ++ es) e p (still_zero z later p.0)

-- an event that adds to how often its seat ended the counter
ends_once : (seats n : ℕ) (a : Act) (es : List Event) → Possible seats (event n a ∷ es)
    → (moved a (run seats es).word (view_at (run seats es) n)).ended ≡ (view_at (run seats es) n).ended + 1
    → EndsOnce seats es (event n a)
ends_once seats n a es p more =
    let c = run seats es in
    let e = event n a in
    let step = changes c.seats n (moved a c.word (view_at c n)) p.1.there in
    let law = sound seats (e ∷ es) p in
    let was = sound seats es p.0 in
    let none : ended_in c ≡ 0 = omega (arith, step.ended, law.one_ender) in
    let one : ended_in (run seats (e ∷ es)) ≡ 1 = omega (arith, step.ended, law.one_ender) in
    record {
      lived = λ h. let b = was.one_ender.1.1 h in absurd (omega arith);
      none_before = none;
      since = λ later q.
          let all = sound seats (later ++ e ∷ es) q in
          let still = still_ended seats (e ∷ es) later q in
          let once : ended_in (run seats (later ++ e ∷ es)) ≡ 1 = omega (arith, all.one_ender) in
          (all.one_ender.1.0 once, once);
    }

module _ (t : TableId) (q : ℕ) (a : Act) (k : Knows) (w : ℕ) (k' : Knows) (d : Does a k w k') where
  abbrev es : List Event
  es = d.since ++ k.past

  can : Possible k.seats (event k.seat a ∷ es)
  can = subst (λ (l : List Event). Possible k.seats l) d.past (subst (λ (n : ℕ). Possible n k'.past) d.seats d.after.possible)

  by_step : k'.view.ended ≡ k.view.ended + 1 → HasEndedIt (state_of t q k')
  by_step more =
      let c = run k.seats es in
      let was : (view_at c k.seat).ended ≡ k.view.ended = ap (λ (v : View). v.ended) (sym d.before.view) in
      let is : (moved a c.word (view_at c k.seat)).ended ≡ k'.view.ended =
      (λ i. (moved a (sym d.found i) (sym d.before.view i)).ended) ∙ ap (λ (v : View). v.ended) (sym d.view) in
      record {
        before = es;
        event = event k.seat a;
        own = sym d.seat;
        past = d.past;
        once = subst (λ (n : ℕ). EndsOnce n es (event k.seat a)) (sym d.seats)
            (ends_once k.seats k.seat a es can (omega arith));
      }

  pub over_by : HasZero (next a w) → IsOver (state_of t q k')
  over_by z =
      let word : next a w ≡ (run k'.seats k'.past).word =
      ap (next a) d.found ∙ (λ i. (run (sym d.seats i) (sym d.past i)).word) in
      still_zero k'.seats k'.past (subst HasZero word z)

pub ends_by_finish : (t : TableId) (q : ℕ) (k : Knows) (w : ℕ) (k' : Knows) → Does act.Finish k w k' → w ≡ 0
    → HasEndedIt (state_of t q k')
ends_by_finish t q k w k' d zero_word =
    let e = ap (λ (v : View). v.ended) d.view in
    by_step t q act.Finish k w k' d (grind (arith, nat_tests))

pub ends_by_take : (t : TableId) (q : ℕ) (k : Knows) (w : ℕ) (k' : Knows) → Does act.Take k w k' → has_help w ≡ true
    → HasEndedIt (state_of t q k')
ends_by_take t q k w k' d help =
    let e = ap (λ (v : View). v.ended) d.view in
    by_step t q act.Take k w k' d (grind (arith, nat_tests))

pub over_by_add : (t : TableId) (q : ℕ) (k : Knows) (w : ℕ) (k' : Knows) → Does act.Add k w k' → lives w ≡ false
    → IsOver (state_of t q k')
over_by_add t q k w k' d dead = over_by t q act.Add k w k' d (grind (arith, nat_tests))

pub over_by_load : (t : TableId) (q : ℕ) (k : Knows) (w : ℕ) (k' : Knows) → Does act.Load k w k' → (w ≡ 0 → ⊥) → value w ≡ 0
    → IsOver (state_of t q k')
over_by_load t q k w k' d some_word none = over_by t q act.Load k w k' d (grind (arith, nat_tests))

pub over_by_mark : (t : TableId) (q : ℕ) (k : Knows) (w : ℕ) (k' : Knows) → Does act.Mark k w k' → value w ≡ 0
    → IsOver (state_of t q k')
over_by_mark t q k w k' d none = over_by t q act.Mark k w k' d (grind (arith, nat_tests))
