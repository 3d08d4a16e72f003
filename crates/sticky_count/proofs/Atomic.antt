-- A step on the table lengthens the history, so the rule holds after it.
use Rattle.std.proofs.Common.{◌≡◌, ℕ, ◌+◌, ◌-◌, ◌*◌, ◌%◌, ◌^◌, ◌<◌, ◌≤◌, List, [], ◌∷◌, ◌++◌, set, get_or, length, length-set, get_or-set_same, replicate, bit_and, ◌==◌, sym, ap, ◌∙◌, subst, refl, arith}
use Rattle.std.proofs.lemmas.Bool.Decides.{nat_tests}
use prog.Atomic.{either}
use mathlib.Core.Option.{some}
use lib.ListN.{get_elem?}
use Rattle.std.specs.List.{All, sum_by}
use Rattle.std.proofs.lemmas.List.{length-replicate}
use Rattle.std.proofs.lemmas.List.Sums.{get_or-le-sum_by, sum_by-le, sum_by-cons}
use Rattle.std.proofs.lemmas.List.Elements.{All-set, All-cons, All-replicate}
use Rattle.atomic_table.specs.Table.{State, keeps, Allows, Splits, opening}
use Rattle.sticky_count.specs.declared.view.Act.{Act}
use Rattle.sticky_count.specs.declared.view.Act.TheVariants as act
use Rattle.sticky_count.specs.declared.view.Event.{Event}
use Rattle.sticky_count.specs.declared.view.View.{View}
use Rattle.sticky_count.specs.declared.view.Knows.{Knows}
use Rattle.counter_word.specs.Words.{low}
use Rattle.sticky_count.specs.Views.{fresh, next, moved, May, HasRoom}
use Rattle.sticky_count.specs.History.{Counter, Enabled, after, event, run, view_at}
use Rattle.sticky_count.specs.Sound.{IsSound, adds_in}
use Rattle.sticky_count.specs.Running.{Kept, Does, InHistory, Suits, shown, first, stays, split_off, all_views, most_adds}
use Rattle.counter_word.proofs.Bits.{cleared}
use Rattle.sticky_count.proofs.Law.{sound, event_suits}
use Rattle.sticky_count.proofs.Padded.{view_there, set_view, split_view}
use Rattle.sticky_count.proofs.Pasts.{AllKept, stepped, kept_step, kept_split, kept_first, step_history, known_history}

-- the word after the atomic operation of a step
abbrev pub atomic : Act → ℕ → ℕ
atomic act.Add w = (w + 1) % 2 ^ 64
atomic act.Sub w = (w + (2 ^ 64 - 1)) % 2 ^ 64
atomic act.Finish w = either (w == 0) (2 ^ 63) w
atomic act.Take w = bit_and w (2 ^ 64 - 1 - 2 ^ 62)
atomic act.Load w = w
atomic act.Mark w = either (w == 0) (2 ^ 63 + 2 ^ 62) w

-- it is the pure one
lands : (a : Act) (w : ℕ) → w < 2 ^ 64 → Suits a w → atomic a w ≡ next a w
lands act.Add w h s = omega arith
lands act.Sub w h s = omega arith
lands act.Finish w h s = grind (arith, nat_tests)
lands act.Take w h s = cleared w h
lands act.Load w h s = refl
lands act.Mark w h s = grind (arith, nat_tests)

-- an add is below the quota; other steps use none
abbrev pub HasAdds : Act → View → Type 0
HasAdds act.Add v = v.adds < most_adds
HasAdds act.Sub v = Unit {0}
HasAdds act.Finish v = Unit {0}
HasAdds act.Take v = Unit {0}
HasAdds act.Load v = Unit {0}
HasAdds act.Mark v = Unit {0}

few_moved : (a : Act) (w : ℕ) (v : View) → HasAdds a v → v.adds ≤ most_adds → (moved a w v).adds ≤ most_adds
few_moved act.Add w v h few = omega arith
few_moved act.Sub w v h few = few
few_moved act.Finish w v h few = few
few_moved act.Take w v h few = few
few_moved act.Load w v h few = few
few_moved act.Mark w v h few = few

has_room : (a : Act) (w adds : ℕ) → low w ≤ adds + 1 → adds ≤ 32 * 2 ^ 40 → HasRoom a w
has_room act.Add w adds few most = omega arith
has_room act.Sub w adds few most = tt
has_room act.Finish w adds few most = tt
has_room act.Take w adds few most = tt
has_room act.Load w adds few most = tt
has_room act.Mark w adds few most = tt

length_run : (seats : ℕ) (es : List Event) → 1 ≤ seats → length (run seats es).seats ≡ seats
length_run seats [] one = let n = length-replicate (seats - 1) (fresh 0) in omega arith
length_run seats (e ∷ es) one =
    let c = run seats es in
    length-set c.seats e.seat (moved e.act c.word (view_at c e.seat)) ∙ length_run seats es one

-- the law of a running counter
pub running : (seats : ℕ) (s : State (Unit {0}) Knows) → Kept seats s → IsSound (shown s)
running seats s k = subst IsSound (sym k.is) (sound seats k.events k.possible)

-- all seats together have few adds
few_in : (seats : ℕ) (s : State (Unit {0}) Knows) → Kept seats s → adds_in (shown s) ≤ 32 * 2 ^ 40
few_in seats s k =
    let n : length (all_views s.views) ≡ seats = ap (λ (c : Counter). length c.seats) k.is ∙ length_run seats k.events k.few_seats.0 in
    let most = sum_by-le (λ (v : View). v.adds) (2 ^ 40) (all_views s.views) k.few_adds in
    omega (arith, k.few_seats)

-- the event of a seat's step is enabled
on_step : (seats id : ℕ) (a : Act) (k : Knows) (s : State (Unit {0}) Knows) → Kept seats s → get_elem? s.views id ≡ some k
    → May a k.view → Enabled (shown s) (record { seat = id; act = a })
on_step seats id a k s kept at may =
    let t = view_there s.views id k at in
    record {
      there = t.0;
      may = subst (λ (v : View). May a v) (sym t.1) may;
      room = has_room a (shown s).word (adds_in (shown s)) (running seats s kept).few (few_in seats s kept);
    }

-- what the law tells of the step
suits_step : (seats id : ℕ) (a : Act) (k : Knows) (s : State (Unit {0}) Knows) → Kept seats s → get_elem? s.views id ≡ some k
    → May a k.view → Suits a (get_or s.words 0 0)
suits_step seats id a k s kept at may =
    let e : Event = record { seat = id; act = a } in
    let on = subst (λ (c : Counter). Enabled c e) kept.is (on_step seats id a k s kept at may) in
    subst (λ (c : Counter). Suits a c.word) (sym kept.is) (event_suits seats kept.events e (kept.possible, on))

-- the rule holds after the step
keeps_step : (seats id : ℕ) (a : Act) (k : Knows) (s s' : State (Unit {0}) Knows) (kept : Kept seats s) → get_elem? s.views id ≡ some k
    → get_or s.words 0 0 < 2 ^ 64 → May a k.view → HasAdds a k.view
    → s'.words ≡ set s.words 0 (atomic a (get_or s.words 0 0)) → s'.views ≡ set s.views id (stepped id a k (get_or s.words 0 0) kept.events) → Kept seats s'
keeps_step seats id a k s s' kept at fits may left words views =
    let w : ℕ = get_or s.words 0 0 in
    let e : Event = record { seat = id; act = a } in
    let t = view_there s.views id k at in
    let on = on_step seats id a k s kept at may in
    let word : get_or s'.words 0 0 ≡ next a w =
    ap (λ (l : List ℕ). get_or l 0 0) words
    ∙ get_or-set_same s.words 0 (atomic a w) 0 (omega (arith, kept.one_word))
    ∙ lands a w fits (suits_step seats id a k s kept at may) in
    let seen : all_views s'.views ≡ set (all_views s.views) id (moved a w k.view) =
    ap all_views views ∙ set_view s.views id k (stepped id a k w kept.events) at refl in
    let mine : set (all_views s.views) id (moved a w k.view) ≡ set (all_views s.views) id (moved a w (view_at (shown s) id)) =
    ap (λ (v : View). set (all_views s.views) id (moved a w v)) (sym t.1) in
    let few : (view_at (shown s) id).adds ≤ most_adds = kept.few_adds id (fresh 0) t.0 in
    let less : k.view.adds ≤ most_adds = subst (λ (v : View). v.adds ≤ most_adds) t.1 few in
    record {
      one_word = ap length words ∙ length-set s.words 0 (atomic a w) ∙ kept.one_word;
      few_seats = kept.few_seats;
      few_adds = subst (λ (l : List View). All (λ (v : View). v.adds ≤ most_adds) l) (sym seen)
          (All-set (λ (v : View). v.adds ≤ most_adds) (all_views s.views) id (moved a w k.view) (few_moved a w k.view left less) kept.few_adds);
      events = e ∷ kept.events;
      possible = (kept.possible, subst (λ (c : Counter). Enabled c e) kept.is on);
      is = (λ i. record { word = word i; seats = (seen ∙ mine) i }) ∙ ap (after e) kept.is;
      each = subst (λ (ks : List Knows). AllKept seats (length ks) (e ∷ kept.events) ks) (sym views)
          (kept_step seats id kept.events a k w s.views kept.each at);
    }

-- the history up to the step, as its seat knows it
history_before : (seats id : ℕ) (k : Knows) (s : State (Unit {0}) Knows) (kept : Kept seats s) → get_elem? s.views id ≡ some k
    → InHistory seats id kept.events k.view
history_before seats id k s kept at =
    let t = view_there s.views id k at in
    record {
      possible = kept.possible;
      there = subst (λ (c : Counter). id < length c.seats) kept.is t.0;
      view = sym t.1 ∙ ap (λ (c : Counter). view_at c id) kept.is;
    }

pub allows : (seats slots id : ℕ) (a : Act) (k : Knows) (cs : List (ℕ × Unit {0})) → May a k.view → HasAdds a k.view
    → Allows (Kept seats) slots id (k, cs) 0 (atomic a) (λ n m. Does a k n m.0)
allows seats slots id a k cs may left s kept _ at fits =
    let t = view_there s.views id k at in
    let w : ℕ = get_or s.words 0 0 in
    let k' : Knows = stepped id a k w kept.events in
    let s' : State (Unit {0}) Knows = record { words = set s.words 0 (atomic a (get_or s.words 0 0)); homes = s.homes; views = set s.views id k' } in
    let kept' : Kept seats s' = keeps_step seats id a k s s' kept at fits may left refl refl in
    let mine_of = kept.each id k at in
    let before = history_before seats id k s kept at in
    let on = subst (λ (c : Counter). Enabled c (event id a)) kept.is (on_step seats id a k s kept at may) in
    let word : (run seats kept.events).word ≡ w = ap (λ (c : Counter). c.word) (sym kept.is) in
    let after_it : InHistory seats id k'.past k'.view = subst (λ (n : ℕ). InHistory seats id k'.past (moved a n k.view)) word
    (step_history seats id a k.view kept.events before on) in
    let law = running seats s kept in
    let law' = running seats s' kept' in
    let part = get_or-le-sum_by (λ (v : View). v.held) (all_views s.views) id (fresh 0) t.0 in
    let mine : (get_or (all_views s.views) id (fresh 0)).held ≡ k.view.held = ap (λ (v : View). v.held) t.1 in
    let seen = set_view s.views id k k' at refl in
    let there : id < length (all_views s'.views) = omega (arith, ap length seen, length-set (all_views s.views) id k'.view) in
    let same : get_or (all_views s'.views) id (fresh 0) ≡ k'.view =
    ap (λ (l : List View). get_or l id (fresh 0)) seen ∙ get_or-set_same (all_views s.views) id k'.view (fresh 0) t.0 in
    let ends = get_or-le-sum_by (λ (v : View). v.ended) (all_views s'.views) id (fresh 0) there in
    let mine' : (get_or (all_views s'.views) id (fresh 0)).ended ≡ k'.view.ended = ap (λ (v : View). v.ended) same in (
      k',
      keeps,
      tt,
      kept',
      record {
        view = refl;
        seat = refl;
        seats = refl;
        since = mine_of.past.0;
        past = λ i. event (sym mine_of.own i) a ∷ mine_of.past.1 i;
        found = sym word ∙ (λ i. (run (sym mine_of.all i) (mine_of.past.1 i)).word);
        before = known_history seats id kept.events (mine_of.past.0 ++ k.past) k.view k.seats k.seat mine_of.all mine_of.own mine_of.past.1 before;
        after = known_history seats id k'.past k'.past k'.view k.seats k.seat mine_of.all mine_of.own refl after_it;
        suits = suits_step seats id a k s kept at may;
        held = omega (arith, law.counts);
        once = omega (arith, law'.one_ender);
      },
    )

-- splitting a seat off changes nothing that is shown
pub splits : (seats id : ℕ) (k : Knows) → 0 < k.to_open → Splits (Kept seats) id k (stays k) (split_off k)
splits seats id k more s kept at =
    let same = split_view s.views id k at more in
    record {
      one_word = kept.one_word;
      few_seats = kept.few_seats;
      few_adds = subst (λ (l : List View). All (λ (v : View). v.adds ≤ most_adds) l) (sym same) kept.few_adds;
      events = kept.events;
      possible = kept.possible;
      is = (λ i. record { word = get_or s.words 0 0; seats = same i }) ∙ kept.is;
      each = kept_split seats id kept.events k s.views kept.each at more;
    }

pub starts : (seats : ℕ) → 1 ≤ seats → seats ≤ 32 → Kept seats (opening (1 ∷ []) [] (first seats))
starts seats one few =
    let f : View → Type 0 = λ v. v.adds ≤ most_adds in
    let n : sum_by (λ (k : Knows). k.to_open) (first seats ∷ []) ≡ seats - 1 = omega (arith, sum_by-cons (λ (k : Knows). k.to_open) (first seats) []) in
    let same : all_views (first seats ∷ []) ≡ fresh 1 ∷ replicate (seats - 1) (fresh 0) =
    ap (λ (m : ℕ). fresh 1 ∷ replicate m (fresh 0)) n in
    record {
      one_word = refl;
      few_seats = (one, few);
      few_adds = subst (λ (l : List View). All (λ (v : View). v.adds ≤ most_adds) l) (sym same)
          (All-cons (λ (v : View). v.adds ≤ most_adds) (fresh 1) (replicate (seats - 1) (fresh 0)) (omega arith)
          (All-replicate (λ (v : View). v.adds ≤ most_adds) (seats - 1) (fresh 0) (omega arith)));
      events = [];
      possible = tt;
      is = λ i. record { word = 1; seats = same i };
      each = kept_first seats;
    }
