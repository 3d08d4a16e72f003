-- Each kind of step keeps what the word and the sums over all seats say of each other.
use Rattle.std.proofs.Common.{◌≡◌, ◌≢◌, ℕ, ◌+◌, ◌^◌, ◌<◌, ◌≤◌, arith}
use Rattle.std.proofs.lemmas.Bool.Decides.{nat_tests}
use mathlib.Core.Logic.{dite}
use native.Mathlib.Decide.{ℕ_discrete}
use Rattle.sticky_count.specs.declared.view.Act.{Act}
use Rattle.sticky_count.specs.declared.view.Act.TheVariants as act
use Rattle.sticky_count.specs.declared.view.View.{View}
use Rattle.sticky_count.specs.Views.{next, moved, May, HasRoom}
use Rattle.sticky_count.specs.Running.{Suits}
use Rattle.sticky_count.proofs.Sums.{Sums, Changed}

-- no flag: the word is the counts held, and where it is 0 a seat is to finish
pub record Alive (w : ℕ) (s : Sums) : Type 0 where
  pub fits : w < 2 ^ 62
  pub low : w ≤ s.adds + 1
  pub held : s.held ≡ w
  pub ended : s.ended ≡ 0
  pub pending : w ≡ 0 → 0 < s.finishing

-- both flags: nobody holds a count, and a seat is to finish or to help
pub record Asked (w : ℕ) (s : Sums) : Type 0 where
  pub flags : 2 ^ 63 + 2 ^ 62 ≤ w
  pub fits : w < 2 ^ 64
  pub low : w ≤ 2 ^ 63 + 2 ^ 62 + s.adds + 1
  pub held : s.held ≡ 0
  pub ended : s.ended ≡ 0
  pub pending : 0 < s.finishing + s.helping

-- the zero flag alone: one seat has ended the counter, once
pub record Over (w : ℕ) (s : Sums) : Type 0 where
  pub flags : 2 ^ 63 ≤ w
  pub fits : w < 2 ^ 63 + 2 ^ 62
  pub low : w ≤ 2 ^ 63 + s.adds + 1
  pub held : s.held ≡ 0
  pub ended : s.ended ≡ 1

pub data Stands (w : ℕ) (s : Sums) : Type 0 where
  alive : Alive w s → Stands w s
  asked : Asked w s → Stands w s
  over : Over w s → Stands w s

abbrev Goes : Act → ℕ → Sums → View → Type 0
Goes a w s v = (s' : Sums) → Changed s s' v (moved a w v) → May a v → HasRoom a w → Stands (next a w) s'

add_alive : (w : ℕ) (s : Sums) (v : View) → Alive w s → Goes act.Add w s v
add_alive w s v a s' c m r = alive (record {
  fits = omega arith;
  low = omega arith;
  held = grind (arith, nat_tests);
  ended = omega arith;
  pending = λ z. absurd (omega arith);
})

add_asked : (w : ℕ) (s : Sums) (v : View) → Asked w s → Goes act.Add w s v
add_asked w s v a s' c m r = asked (record {
  flags = omega arith;
  fits = omega arith;
  low = omega arith;
  held = grind (arith, nat_tests);
  ended = omega arith;
  pending = omega arith;
})

add_over : (w : ℕ) (s : Sums) (v : View) → Over w s → Goes act.Add w s v
add_over w s v a s' c m r = over (record {
  flags = omega arith;
  fits = omega arith;
  low = omega arith;
  held = grind (arith, nat_tests);
  ended = omega arith;
})

sub_alive : (w : ℕ) (s : Sums) (v : View) → 0 < w → Alive w s → Goes act.Sub w s v
sub_alive w s v p a s' c m r = alive (record {
  fits = omega arith;
  low = omega arith;
  held = omega arith;
  ended = omega arith;
  pending = grind (arith, nat_tests);
})

-- a seat that holds a count finds a word with no flag
pub holder_alive : (w : ℕ) (s : Sums) → 0 < s.held → Stands w s → Alive w s
holder_alive w s h (alive a) = a
holder_alive w s h (asked a) = absurd (omega arith)
holder_alive w s h (over a) = absurd (omega arith)

finish_zero : (w : ℕ) (s : Sums) (v : View) → w ≡ 0 → Alive w s → Goes act.Finish w s v
finish_zero w s v z a s' c m r = over (record {
  flags = grind (arith, nat_tests);
  fits = grind (arith, nat_tests);
  low = grind (arith, nat_tests);
  held = omega arith;
  ended = grind (arith, nat_tests);
})

finish_alive : (w : ℕ) (s : Sums) (v : View) → w ≢ 0 → Alive w s → Goes act.Finish w s v
finish_alive w s v z a s' c m r = alive (record {
  fits = grind (arith, nat_tests);
  low = grind (arith, nat_tests);
  held = grind (arith, nat_tests);
  ended = grind (arith, nat_tests);
  pending = grind (arith, nat_tests);
})

finish_asked : (w : ℕ) (s : Sums) (v : View) → Asked w s → Goes act.Finish w s v
finish_asked w s v a s' c m r = asked (record {
  flags = grind (arith, nat_tests);
  fits = grind (arith, nat_tests);
  low = grind (arith, nat_tests);
  held = grind (arith, nat_tests);
  ended = grind (arith, nat_tests);
  pending = grind (arith, nat_tests);
})

finish_over : (w : ℕ) (s : Sums) (v : View) → Over w s → Goes act.Finish w s v
finish_over w s v a s' c m r = over (record {
  flags = grind (arith, nat_tests);
  fits = grind (arith, nat_tests);
  low = grind (arith, nat_tests);
  held = grind (arith, nat_tests);
  ended = grind (arith, nat_tests);
})

take_alive : (w : ℕ) (s : Sums) (v : View) → Alive w s → Goes act.Take w s v
take_alive w s v a s' c m r = alive (record {
  fits = grind (arith, nat_tests);
  low = grind (arith, nat_tests);
  held = grind (arith, nat_tests);
  ended = grind (arith, nat_tests);
  pending = grind (arith, nat_tests);
})

take_asked : (w : ℕ) (s : Sums) (v : View) → Asked w s → Goes act.Take w s v
take_asked w s v a s' c m r = over (record {
  flags = grind (arith, nat_tests);
  fits = grind (arith, nat_tests);
  low = grind (arith, nat_tests);
  held = grind (arith, nat_tests);
  ended = grind (arith, nat_tests);
})

take_over : (w : ℕ) (s : Sums) (v : View) → Over w s → Goes act.Take w s v
take_over w s v a s' c m r = over (record {
  flags = grind (arith, nat_tests);
  fits = grind (arith, nat_tests);
  low = grind (arith, nat_tests);
  held = grind (arith, nat_tests);
  ended = grind (arith, nat_tests);
})

load_any : (w : ℕ) (s : Sums) (v : View) → Stands w s → Goes act.Load w s v
load_any w s v (alive a) s' c m r = alive (record {
  fits = omega arith;
  low = omega arith;
  held = omega arith;
  ended = omega arith;
  pending = grind (arith, nat_tests);
})
load_any w s v (asked a) s' c m r = asked (record {
  flags = omega arith;
  fits = omega arith;
  low = omega arith;
  held = omega arith;
  ended = omega arith;
  pending = grind (arith, nat_tests);
})
load_any w s v (over a) s' c m r = over (record {
  flags = omega arith;
  fits = omega arith;
  low = omega arith;
  held = omega arith;
  ended = omega arith;
})

mark_zero : (w : ℕ) (s : Sums) (v : View) → w ≡ 0 → Alive w s → Goes act.Mark w s v
mark_zero w s v z a s' c m r = asked (record {
  flags = grind (arith, nat_tests);
  fits = grind (arith, nat_tests);
  low = grind (arith, nat_tests);
  held = omega arith;
  ended = omega arith;
  pending = grind (arith, nat_tests);
})

mark_alive : (w : ℕ) (s : Sums) (v : View) → w ≢ 0 → Alive w s → Goes act.Mark w s v
mark_alive w s v z a s' c m r = alive (record {
  fits = grind (arith, nat_tests);
  low = grind (arith, nat_tests);
  held = grind (arith, nat_tests);
  ended = omega arith;
  pending = grind (arith, nat_tests);
})

mark_asked : (w : ℕ) (s : Sums) (v : View) → Asked w s → Goes act.Mark w s v
mark_asked w s v a s' c m r = asked (record {
  flags = grind (arith, nat_tests);
  fits = grind (arith, nat_tests);
  low = grind (arith, nat_tests);
  held = omega arith;
  ended = omega arith;
  pending = grind (arith, nat_tests);
})

mark_over : (w : ℕ) (s : Sums) (v : View) → Over w s → Goes act.Mark w s v
mark_over w s v a s' c m r = over (record {
  flags = grind (arith, nat_tests);
  fits = grind (arith, nat_tests);
  low = grind (arith, nat_tests);
  held = omega arith;
  ended = omega arith;
})

go_add : (w : ℕ) (s : Sums) (v : View) → Stands w s → Goes act.Add w s v
go_add w s v (alive a) = add_alive w s v a
go_add w s v (asked a) = add_asked w s v a
go_add w s v (over a) = add_over w s v a

go_sub : (w : ℕ) (s : Sums) (v : View) → v.held ≤ s.held → Stands w s → Goes act.Sub w s v
go_sub w s v part h s' c m r = let a = holder_alive w s (omega arith) h in sub_alive w s v (omega arith) a s' c m r

go_finish : (w : ℕ) (s : Sums) (v : View) → Stands w s → Goes act.Finish w s v
go_finish w s v (alive a) = dite (ℕ_discrete w 0) (λ z. finish_zero w s v z a) (λ z. finish_alive w s v z a)
go_finish w s v (asked a) = finish_asked w s v a
go_finish w s v (over a) = finish_over w s v a

go_take : (w : ℕ) (s : Sums) (v : View) → Stands w s → Goes act.Take w s v
go_take w s v (alive a) = take_alive w s v a
go_take w s v (asked a) = take_asked w s v a
go_take w s v (over a) = take_over w s v a

go_mark : (w : ℕ) (s : Sums) (v : View) → Stands w s → Goes act.Mark w s v
go_mark w s v (alive a) = dite (ℕ_discrete w 0) (λ z. mark_zero w s v z a) (λ z. mark_alive w s v z a)
go_mark w s v (asked a) = mark_asked w s v a
go_mark w s v (over a) = mark_over w s v a

-- any step, by a seat whose counts are among those held
pub goes : (a : Act) (w : ℕ) (s : Sums) (v : View) → v.held ≤ s.held → Stands w s → Goes a w s v
goes act.Add w s v part = go_add w s v
goes act.Sub w s v part = go_sub w s v part
goes act.Finish w s v part = go_finish w s v
goes act.Take w s v part = go_take w s v
goes act.Load w s v part = load_any w s v
goes act.Mark w s v part = go_mark w s v

-- what the pure function of a step asks of the word
pub suits : (a : Act) (w : ℕ) (s : Sums) (v : View) → v.held ≤ s.held → Stands w s → May a v → HasRoom a w → Suits a w
suits act.Add w s v part h m r = r
suits act.Sub w s v part h m r = let a = holder_alive w s (omega arith) h in (omega arith, omega arith)
suits act.Finish w s v part h m r = tt
suits act.Take w s v part h m r = tt
suits act.Load w s v part h m r = tt
suits act.Mark w s v part h m r = tt
