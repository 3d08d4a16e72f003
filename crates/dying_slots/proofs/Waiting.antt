-- Which of the dying slots wait, as slots end, become ripe, are destroyed, and are handed over.
use Rattle.std.proofs.Common.{◌≡◌, ◌≢◌, ⊎_elim, ◌+◌, ◌<◌, ◌≤◌, Bool, true, false, List, [], ◌∷◌, ◌++◌, length, refl, ap, sym, ◌∙◌, subst, arith}
use Rattle.std.specs.Prelude.{◌&&◌, not, nat_lt}
use Rattle.std.specs.List.{filter}
use Rattle.std.proofs.lemmas.Bool.{cases_eq}
use Rattle.std.proofs.lemmas.Bool.Decides.{nat_tests}
use Rattle.std.proofs.lemmas.List.Elements.{filter-append}
use Rattle.std.proofs.lemmas.List.Sums.{length-filter, count_by-le-length}
use Rattle.core_functions.specs.plain_state.declared.slot.SlotId.{SlotId}
use Rattle.core_functions.specs.plain_state.Ejection.{Announcements, ripened, ripens}
use Rattle.core_functions.specs.plain_state.Lists.{times, is_slot}
use Rattle.core_functions.proofs.Below.plain_state_Kit.{slot_is, held_same, held_other, times_none, times_cons, times_append}
use Rattle.core_functions.specs.core_events.Views.{without}
use Rattle.dying_slots.specs.Dying.{is_free, waiting_of}

-- one that stands in a list of ripe slots doesn't wait
abbrev waits : List SlotId → SlotId → Bool
waits ripe s = not (nat_lt 0 (times s ripe))

-- two tests that agree on what stands in a list
pub same_filter : (f g : SlotId → Bool) (xs : List SlotId)
    → ((x : SlotId) → 0 < times x xs → f x ≡ g x) → filter f xs ≡ filter g xs
same_filter f g [] same = refl
same_filter f g (x ∷ xs) same =
    let rest = same_filter f g xs (λ y in_rest.
    same y (let c = times_cons y x xs in omega arith)) in
    let here = same x (let c = times_cons x x xs in let o = held_same x x refl in omega arith) in
    rw (here, rest) refl

-- a test after another one
pub filter_both : (f g : SlotId → Bool) (xs : List SlotId)
    → filter (λ x. f x && g x) xs ≡ filter g (filter f xs)
filter_both f g [] = refl
filter_both f g (x ∷ xs) = by_first (f x) refl (filter_both f g xs)
  where
    by_first : (b : Bool) → f x ≡ b
        → filter (λ y. f y && g y) xs ≡ filter g (filter f xs)
        → filter (λ y. f y && g y) (x ∷ xs) ≡ filter g (filter f (x ∷ xs))
    by_first true is rest = rw (is, rest) refl
    by_first false is rest = rw (is, rest) refl

-- what passes a test stands among those that pass as often as before, and what fails it nowhere
module _ (f : SlotId → Bool) (s : SlotId) where
  pub times_passing : (xs : List SlotId) → f s ≡ true → times s (filter f xs) ≡ times s xs
  times_passing [] is = refl
  times_passing (x ∷ xs) is = by_test (f x) refl (times_passing xs is)
    where
      by_test : (b : Bool) → f x ≡ b → times s (filter f xs) ≡ times s xs
          → times s (filter f (x ∷ xs)) ≡ times s (x ∷ xs)
      by_test true passes rest =
          let here = times_cons s x (filter f xs) in
          let all = times_cons s x xs in rw passes (omega arith)
      by_test false fails rest =
          let ne : x.0 ≢ s.0 = λ e. absurd (cc (fails, is, ap f (slot_is x s e))) in
          let other = held_other s x ne in
          let all = times_cons s x xs in rw fails (omega arith)

  pub times_failing : (xs : List SlotId) → f s ≡ false → times s (filter f xs) ≡ 0
  times_failing [] is = times_none s
  times_failing (x ∷ xs) is = by_test (f x) refl (times_failing xs is)
    where
      by_test : (b : Bool) → f x ≡ b → times s (filter f xs) ≡ 0
          → times s (filter f (x ∷ xs)) ≡ 0
      by_test true passes rest =
          let here = times_cons s x (filter f xs) in
          let ne : x.0 ≢ s.0 = λ e. absurd (cc (passes, is, ap f (slot_is x s e))) in
          let other = held_other s x ne in rw passes (omega arith)
      by_test false fails rest = rw fails rest

-- a slot that isn't ripe waits, and a ripe one doesn't
waits_on : (ripe : List SlotId) (s : SlotId) → times s ripe ≡ 0 → waits ripe s ≡ true
waits_on ripe s none = grind (arith, nat_tests)

waits_not : (ripe : List SlotId) (s : SlotId) → 0 < times s ripe → waits ripe s ≡ false
waits_not ripe s some = grind (arith, nat_tests)

same_waits : (xs ys : List SlotId) (s : SlotId) → times s xs ≡ times s ys → waits xs s ≡ waits ys s
same_waits xs ys s same = ap (λ n. not (nat_lt 0 n)) same

-- a slot that ends waits
pub ends_waiting : (ripe dying : List SlotId) (s : SlotId) → times s ripe ≡ 0
    → waiting_of ripe (dying ++ s ∷ []) ≡ waiting_of ripe dying ++ s ∷ []
ends_waiting ripe dying s none =
    filter-append (waits ripe) dying (s ∷ []) ∙ rw (waits_on ripe s none) refl

-- of another slot nothing is taken out
pub times_without_other : (s x : SlotId) (xs : List SlotId) → x.0 ≢ s.0
    → times x (without s xs) ≡ times x xs
times_without_other s x [] ne = refl
times_without_other s x (y ∷ ys) ne =
    by_test (is_slot s y) refl (times_without_other s x ys ne)
  where
    by_test : (b : Bool) → is_slot s y ≡ b → times x (without s ys) ≡ times x ys
        → times x (without s (y ∷ ys)) ≡ times x (y ∷ ys)
    by_test true is rest =
        let same : y.0 ≡ s.0 = grind (arith, nat_tests) in
        let other = held_other x y (λ e. ne (sym e ∙ same)) in
        let all = times_cons x y ys in rw is (omega arith)
    by_test false is rest =
        let here = times_cons x y (without s ys) in
        let all = times_cons x y ys in rw is (omega arith)

-- a ripe slot is destroyed, and those that wait go on
pub destroyed_waiting : (s : SlotId) (ripe dying : List SlotId) → 0 < times s ripe
    → times s dying ≤ 1 → waiting_of (without s ripe) (without s dying) ≡ waiting_of ripe dying
destroyed_waiting s ripe [] is_ripe once = refl
destroyed_waiting s ripe (x ∷ xs) is_ripe once =
    let all = times_cons s x xs in
    ⊎_elim here (λ ne. there ne (destroyed_waiting s ripe xs is_ripe (omega arith)))
    (cases_eq x.0 s.0)
  where
    here : x.0 ≡ s.0
        → waiting_of (without s ripe) (without s (x ∷ xs)) ≡ waiting_of ripe (x ∷ xs)
    here e =
        let all = times_cons s x xs in
        let first = held_same s x e in
        let found : is_slot s x ≡ true = grind (arith, nat_tests) in
        let fails = waits_not ripe x (subst (λ y. 0 < times y ripe) (sym (slot_is x s e)) is_ripe) in
        let rest = same_filter (waits (without s ripe)) (waits ripe) xs
        (λ y among. same_waits (without s ripe) ripe y
        (times_without_other s y ripe
        (λ same. let i = slot_is y s same in let c = subst (λ z. 0 < times z xs) i among in
        absurd (omega arith)))) in
        rw (found, fails) rest

    there : x.0 ≢ s.0 → waiting_of (without s ripe) (without s xs) ≡ waiting_of ripe xs
        → waiting_of (without s ripe) (without s (x ∷ xs)) ≡ waiting_of ripe (x ∷ xs)
    there ne rest =
        let missed : is_slot s x ≡ false = grind (arith, nat_tests) in
        let same = same_waits (without s ripe) ripe x (times_without_other s x ripe ne) in
        rw (missed, same, rest) refl

-- those that become ripe are the free ones of those that wait
pub ripened_waiting : (ripe dying : List SlotId) (seen : Announcements)
    → ripened ripe dying seen ≡ ripe ++ filter (is_free seen) (waiting_of ripe dying)
ripened_waiting ripe dying seen =
    ap (λ xs. ripe ++ xs) (filter_both (waits ripe) (is_free seen) dying)

-- and the others wait on
pub waiting_after : (ripe dying : List SlotId) (seen : Announcements)
    → waiting_of (ripened ripe dying seen) dying
    ≡ filter (λ s. not (is_free seen s)) (waiting_of ripe dying)
waiting_after ripe dying seen =
    same_filter (waits now) (λ x. waits ripe x && not (is_free seen x)) dying each
    ∙ filter_both (waits ripe) (λ x. not (is_free seen x)) dying
  where
    now : List SlotId
    now = ripened ripe dying seen

    each : (x : SlotId) → 0 < times x dying
        → waits now x ≡ (waits ripe x && not (is_free seen x))
    each x among = by_both (waits ripe x) (is_free seen x) refl refl
      where
        sum : times x now ≡ times x ripe + times x (filter (ripens ripe seen) dying)
        sum = times_append x ripe (filter (ripens ripe seen) dying)

        by_both : (b c : Bool) → waits ripe x ≡ b → is_free seen x ≡ c
            → waits now x ≡ (waits ripe x && not (is_free seen x))
        by_both false c was free =
            let all = sum in
            let some : 0 < times x ripe = grind (arith, nat_tests) in
            rw was (waits_not now x (omega arith))
        by_both true true was free =
            let all = sum in
            let none : times x ripe ≡ 0 = grind (arith, nat_tests) in
            let more = times_passing (ripens ripe seen) x dying (rw (was, free) refl) in
            rw (was, free) (waits_not now x (omega arith))
        by_both true false was free =
            let all = sum in
            let none : times x ripe ≡ 0 = grind (arith, nat_tests) in
            let more = times_failing (ripens ripe seen) x dying (rw (was, free) refl) in
            rw (was, free) (waits_on now x (omega arith))

-- slots of two seats, where none of the one is ripe at the other
pub joined_waiting : (ripe dying ripe' dying' : List SlotId)
    → ((x : SlotId) → 0 < times x dying → times x ripe' ≡ 0)
    → ((x : SlotId) → 0 < times x dying' → times x ripe ≡ 0)
    → waiting_of (ripe ++ ripe') (dying ++ dying') ≡ waiting_of ripe dying ++ waiting_of ripe' dying'
joined_waiting ripe dying ripe' dying' apart apart' =
    filter-append (waits (ripe ++ ripe')) dying dying'
    ∙ (ap (λ xs. xs ++ filter (waits (ripe ++ ripe')) dying')
    (same_filter (waits (ripe ++ ripe')) (waits ripe) dying
    (λ x among. same_waits (ripe ++ ripe') ripe x
    (let s = times_append x ripe ripe' in let a = apart x among in omega arith)))
    ∙ ap (λ xs. waiting_of ripe dying ++ xs)
    (same_filter (waits (ripe ++ ripe')) (waits ripe') dying'
    (λ x among. same_waits (ripe ++ ripe') ripe' x
    (let s = times_append x ripe ripe' in let a = apart' x among in omega arith))))

-- no more wait than are dying
pub few_waiting : (ripe dying : List SlotId) → length (waiting_of ripe dying) ≤ length dying
few_waiting ripe dying =
    let l = length-filter (waits ripe) dying in
    let c = count_by-le-length (waits ripe) dying in omega arith

-- where nothing is ripe all wait
pub all_wait : (dying : List SlotId) → waiting_of [] dying ≡ dying
all_wait [] = refl
all_wait (x ∷ xs) = rw (waits_on [] x (times_none x), all_wait xs) refl
