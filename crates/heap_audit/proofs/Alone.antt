-- Where all ranks are different, the search finds one walk alone.
use Rattle.std.proofs.Common.{◌≡◌, ◌≢◌, ℕ, ◌-◌, ◌<◌, ◌≤◌, zero, suc, List, [], ◌∷◌, ◌++◌, length, get_or, reverse, All, Contains, arith, sym, ◌∙◌, ap, subst, refl, inl, inr, append_assoc, append-nil, length-append}
use Rattle.std.specs.List.{AllPairs}
use Rattle.std.proofs.lemmas.List.{get_or_at, get_or_append_left, length-reverse, get_or-reverse}
use Rattle.std.proofs.lemmas.List.Elements.{All-cons, All-nil, All-tail, All-contains, Contains-append_cases, Contains-append_left, Contains-append_right}
use Rattle.deleter.specs.plain_state.declared.slot.SlotId.{SlotId}
use Rattle.deleter.specs.plain_state.declared.image.Heap.{Heap}
use Rattle.heap_audit.specs.Paths.{Path}
use Rattle.heap_audit.specs.Reached.{HasField, IsUnreached}
use Rattle.heap_audit.specs.Walks.{rank_of, IsLeast, GoesTo, BeginsLeast, IsFound, IsFoundAmong, HasDistinctRanks}
use Rattle.heap_audit.proofs.Turning.{All-reverse}

abbrev Once : List SlotId → Type 0
Once xs = AllPairs (λ (a b : SlotId). a ≢ b) xs

-- what comes once doesn't stand again further on
once_only : (front : List SlotId) (a : SlotId) (mid : List SlotId) (back : List SlotId) → Once (front ++ a ∷ (mid ++ a ∷ back)) → ⊥
once_only front a mid back once =
    let here : get_or (front ++ a ∷ (mid ++ a ∷ back)) (length front) a ≡ a = get_or_at front a (mid ++ a ∷ back) a (length front) refl in
    let whole : front ++ a ∷ (mid ++ a ∷ back) ≡ (front ++ a ∷ mid) ++ a ∷ back = sym (append_assoc front (a ∷ mid) (a ∷ back)) in
    let there : get_or (front ++ a ∷ (mid ++ a ∷ back)) (length (front ++ a ∷ mid)) a ≡ a =
    ap (λ (xs : List SlotId). get_or xs (length (front ++ a ∷ mid)) a) whole ∙ get_or_at (front ++ a ∷ mid) a back a (length (front ++ a ∷ mid)) refl in
    once (length front) (length (front ++ a ∷ mid)) a
    (omega (arith, length-append front (a ∷ mid)))
    (omega (arith, length-append front (a ∷ mid), length-append (front ++ a ∷ mid) (a ∷ back), ap length whole))
    (here ∙ sym there)

once_tail : (x : SlotId) (xs : List SlotId) → Once (x ∷ xs) → Once xs
once_tail x xs once i j d l m = once (suc i) (suc j) d (omega (arith, l)) (omega (arith, m))

-- there is one way to cut it at a
one_cut : (front back front₂ back₂ : List SlotId) (a : SlotId) → Once (front ++ a ∷ back) → front ++ a ∷ back ≡ front₂ ++ a ∷ back₂ → (front ≡ front₂) × (back ≡ back₂)
one_cut [] back [] back₂ a once e = (refl, cc)
one_cut [] back (y ∷ front₂) back₂ a once e =
    let same : a ≡ y = cc in
    let rest : back ≡ front₂ ++ a ∷ back₂ = cc in
    absurd (once_only [] a front₂ back₂ (subst (λ (xs : List SlotId). Once (a ∷ xs)) rest once))
one_cut (x ∷ front) back [] back₂ a once e =
    let same : x ≡ a = cc in
    absurd (once_only [] a front back (subst (λ (b : SlotId). Once (b ∷ (front ++ a ∷ back))) same once))
one_cut (x ∷ front) back (y ∷ front₂) back₂ a once e =
    let same : x ≡ y = cc in
    let rest : front ++ a ∷ back ≡ front₂ ++ a ∷ back₂ = cc in
    let cut = one_cut front back front₂ back₂ a (once_tail x (front ++ a ∷ back) once) rest in
    let longer : x ∷ front ≡ y ∷ front₂ = ap (λ (b : SlotId). b ∷ front) same ∙ ap (λ (xs : List SlotId). y ∷ xs) cut.0 in
    (longer, cut.1)

-- two searches go the same way, and end where a slot comes twice
module _ (R : SlotId → SlotId → Type 0) (one : (a b c : SlotId) → R a b → R a c → b ≡ c) where
  -- a slot that came before doesn't come next
  came_before : (before : List SlotId) (x p : SlotId) (zs : List SlotId) → Contains (before ++ x ∷ []) p → Once (before ++ x ∷ p ∷ zs) → ⊥
  came_before before x p zs came once =
      let listed = before ++ x ∷ [] in
      let whole : before ++ x ∷ p ∷ zs ≡ listed ++ p ∷ zs = sym (append_assoc before (x ∷ []) (p ∷ zs)) in
      let here : get_or (listed ++ p ∷ zs) came.0 p ≡ p = get_or_append_left listed (p ∷ zs) p came.0 came.1 ∙ came.2 in
      let there : get_or (listed ++ p ∷ zs) (length listed) p ≡ p = get_or_at listed p zs p (length listed) refl in
      subst Once whole once came.0 (length listed) p came.1 (omega (arith, length-append listed (p ∷ zs))) (here ∙ sym there)

  one_trail : (before : List SlotId) (x : SlotId) (ys : List SlotId) (p : SlotId) (zs : List SlotId) (q : SlotId) → Path R x ys p → Path R x zs q
      → Once (before ++ x ∷ ys) → Once (before ++ x ∷ zs) → Contains (before ++ x ∷ ys) p → Contains (before ++ x ∷ zs) q → (ys ≡ zs) × (p ≡ q)
  one_trail before x [] p [] q r s once once₂ came came₂ = (refl, one x p q r s)
  one_trail before x [] p (z ∷ zs) q r s once once₂ came came₂ =
      let same : z ≡ p = one x z p s.0 r in
      absurd (came_before before x p zs came (subst (λ (b : SlotId). Once (before ++ x ∷ b ∷ zs)) same once₂))
  one_trail before x (y ∷ ys) p [] q r s once once₂ came came₂ =
      let same : y ≡ q = one x y q r.0 s in
      absurd (came_before before x q ys came₂ (subst (λ (b : SlotId). Once (before ++ x ∷ b ∷ ys)) same once))
  one_trail before x (y ∷ ys) p (z ∷ zs) q r s once once₂ came came₂ =
      let same : z ≡ y = one x z y s.0 r.0 in
      let along : Path R y zs q = subst (λ (b : SlotId). Path R b zs q) same s.1 in
      let whole : before ++ x ∷ y ∷ ys ≡ (before ++ x ∷ []) ++ y ∷ ys = sym (append_assoc before (x ∷ []) (y ∷ ys)) in
      let whole₂ : before ++ x ∷ z ∷ zs ≡ (before ++ x ∷ []) ++ y ∷ zs = ap (λ (b : SlotId). before ++ x ∷ b ∷ zs) same ∙ sym (append_assoc before (x ∷ []) (y ∷ zs)) in
      let more = one_trail (before ++ x ∷ []) y ys p zs q r.1 along (subst Once whole once) (subst Once whole₂ once₂)
      (subst (λ (xs : List SlotId). Contains xs p) whole came) (subst (λ (xs : List SlotId). Contains xs q) whole₂ came₂) in
      let longer : y ∷ ys ≡ z ∷ zs = ap (λ (xs : List SlotId). y ∷ xs) more.0 ∙ ap (λ (b : SlotId). b ∷ zs) (sym same) in
      (longer, more.1)

once_back : (front xs : List SlotId) → Once (front ++ xs) → Once xs
once_back [] xs once = once
once_back (x ∷ front) xs once = once_back front xs (once_tail x (front ++ xs) once)

all_back : (P : SlotId → Type 0) (front xs : List SlotId) → All P (front ++ xs) → All P xs
all_back P [] xs all = all
all_back P (x ∷ front) xs all = all_back P front xs (All-tail P x (front ++ xs) all)

once_reverse : (xs : List SlotId) → Once xs → Once (reverse xs)
once_reverse xs once i j d l m e =
    let n = length xs in
    let within : j < n = omega (arith, m, length-reverse xs) in
    let at : get_or (reverse xs) i d ≡ get_or xs (n - 1 - i) d = get_or-reverse xs i d (omega (arith, l, within)) in
    let at₂ : get_or (reverse xs) j d ≡ get_or xs (n - 1 - j) d = get_or-reverse xs j d within in
    once (n - 1 - j) (n - 1 - i) d (omega (arith, l, within)) (omega (arith, l, within)) (sym at₂ ∙ (sym e ∙ at))

module _ (P : SlotId → Type 0) (R : SlotId → SlotId → Type 0) (ranks : List ℕ) (distinct : (s t : SlotId) → P s → P t → rank_of ranks s ≡ rank_of ranks t → s ≡ t) where
  -- of the slots with the property one alone is of least rank, also among some of them
  one_least : (Q : SlotId → Type 0) → ((s : SlotId) → Q s → P s) → (s t : SlotId) → IsLeast ranks Q s → IsLeast ranks Q t → s ≡ t
  one_least Q within s t l m = distinct s t (within s l.0) (within t m.0) (omega (arith, l.1 t m.0, m.1 s l.0))

  one_step : (a b c : SlotId) → GoesTo P R ranks a b → GoesTo P R ranks a c → b ≡ c
  one_step a b c = one_least (λ u. P u × R u a) (λ s p. p.0) b c

  -- all that the search comes to has it
  all_searched : (x : SlotId) (ys : List SlotId) (z : SlotId) → P x → Path (GoesTo P R ranks) x ys z → All P (x ∷ ys)
  all_searched x [] z here path = All-cons P x [] here (All-nil P)
  all_searched x (y ∷ ys) z here path = All-cons P x (y ∷ ys) here (all_searched y ys z path.0.0.0 path.1)

-- where a walk is begun
record Begun (ranks : List ℕ) (walk round : List SlotId) : Type 0 where
  first : SlotId
  front : List SlotId
  back : List SlotId
  round_is : round ≡ front ++ first ∷ back
  walk_is : walk ≡ first ∷ (back ++ front)
  least : All (λ s. rank_of ranks first ≤ rank_of ranks s) (back ++ front)

begun_at : (ranks : List ℕ) (walk round front back : List SlotId) → round ≡ front ++ back → walk ≡ back ++ front → BeginsLeast ranks walk → Begun ranks walk round
begun_at ranks walk round [] [] r w least = absurd (subst (BeginsLeast ranks) w least)
begun_at ranks walk round (x ∷ front) [] r w least = record {
  first = x;
  front = [];
  back = front;
  round_is = r ∙ append-nil (x ∷ front);
  walk_is = w ∙ ap (λ (xs : List SlotId). x ∷ xs) (sym (append-nil front));
  least = subst (All (λ s. rank_of ranks x ≤ rank_of ranks s)) (sym (append-nil front)) (subst (BeginsLeast ranks) w least);
}
begun_at ranks walk round front (x ∷ back) r w least = record {
  first = x;
  front = front;
  back = back;
  round_is = r;
  walk_is = w;
  least = subst (BeginsLeast ranks) w least;
}

-- a list of one has that one
only_one : (a s : SlotId) → Contains (a ∷ []) s → a ≡ s
only_one a s (zero, l, e) = e
only_one a s (suc k, l, e) = absurd (omega (arith, l))

-- a walk's first slot is of least rank of all that it goes round
first_least : (ranks : List ℕ) (walk round : List SlotId) (b : Begun ranks walk round) (s : SlotId) → Contains round s → rank_of ranks b.first ≤ rank_of ranks s
first_least ranks walk round b s came =
    let P : SlotId → Type 0 = λ t. rank_of ranks b.first ≤ rank_of ranks t in
    elim (Contains-append_cases b.front (b.first ∷ b.back) s (subst (λ (xs : List SlotId). Contains xs s) b.round_is came)) [
      | inl f ↦ All-contains P (b.back ++ b.front) s b.least (Contains-append_right b.back b.front s f)
      | inr h ↦ elim (Contains-append_cases (b.first ∷ []) b.back s h) [
        | inl here ↦ subst P (only_one b.first s here) (omega arith)
        | inr k ↦ All-contains P (b.back ++ b.front) s b.least (Contains-append_left b.back b.front s k)
      ]
    ]

first_stands : (ranks : List ℕ) (walk round : List SlotId) (b : Begun ranks walk round) → Contains round b.first
first_stands ranks walk round b = subst (λ (xs : List SlotId). Contains xs b.first) (sym b.round_is)
    (length b.front, omega (arith, length-append b.front (b.first ∷ b.back)), get_or_at b.front b.first b.back b.first (length b.front) refl)

-- two walks round one cycle, both begun with the slot of least rank
one_turn : (P : SlotId → Type 0) (ranks : List ℕ) (v w round : List SlotId) → ((s t : SlotId) → P s → P t → rank_of ranks s ≡ rank_of ranks t → s ≡ t)
    → Once round → All P round → (b : Begun ranks v round) (c : Begun ranks w round) → v ≡ w
one_turn P ranks v w round distinct once all b c =
    let same : b.first ≡ c.first = distinct b.first c.first
    (All-contains P round b.first all (first_stands ranks v round b)) (All-contains P round c.first all (first_stands ranks w round c))
    (omega (arith, first_least ranks v round b c.first (first_stands ranks w round c), first_least ranks w round c b.first (first_stands ranks v round b))) in
    let whole : b.front ++ b.first ∷ b.back ≡ c.front ++ b.first ∷ c.back =
    sym b.round_is ∙ (c.round_is ∙ ap (λ (s : SlotId). c.front ++ s ∷ c.back) (sym same)) in
    let cut = one_cut b.front b.back c.front c.back b.first (subst Once b.round_is once) whole in
    b.walk_is ∙ (ap (λ (s : SlotId). s ∷ (b.back ++ b.front)) same
    ∙ (ap (λ (xs : List SlotId). c.first ∷ (xs ++ b.front)) cut.1 ∙ (ap (λ (xs : List SlotId). c.first ∷ (c.back ++ xs)) cut.0 ∙ sym c.walk_is)))

came_in : (P : SlotId → Type 0) (R : SlotId → SlotId → Type 0) (ranks : List ℕ) (walk : List SlotId) (f : IsFoundAmong P R ranks walk) → Contains (f.start ∷ f.rest) f.again
came_in P R ranks walk f = subst (λ (xs : List SlotId). Contains xs f.again) (sym f.came)
    (length f.earlier, omega (arith, length-append f.earlier (f.again ∷ f.between)), get_or_at f.earlier f.again f.between f.again (length f.earlier) refl)

-- where the slots with the property have different ranks, the search among them finds one walk alone
pub one_walk_among : (P : SlotId → Type 0) (R : SlotId → SlotId → Type 0) (ranks : List ℕ) → ((s t : SlotId) → P s → P t → rank_of ranks s ≡ rank_of ranks t → s ≡ t)
    → (v w : List SlotId) → IsFoundAmong P R ranks v → IsFoundAmong P R ranks w → v ≡ w
one_walk_among P R ranks distinct v w f g =
    let start : f.start ≡ g.start = one_least P R ranks distinct P (λ s u. u) f.start g.start f.least g.least in
    let goes : Path (GoesTo P R ranks) f.start g.rest g.again = subst (λ (s : SlotId). Path (GoesTo P R ranks) s g.rest g.again) (sym start) g.goes in
    let whole : f.start ∷ g.rest ≡ g.start ∷ g.rest = ap (λ (s : SlotId). s ∷ g.rest) start in
    let trail = one_trail (GoesTo P R ranks) (one_step P R ranks distinct) [] f.start f.rest f.again g.rest g.again f.goes goes f.once
    (subst Once (sym whole) g.once) (came_in P R ranks v f) (subst (λ (xs : List SlotId). Contains xs g.again) (sym whole) (came_in P R ranks w g)) in
    let cut_here : f.earlier ++ f.again ∷ f.between ≡ g.earlier ++ f.again ∷ g.between =
    sym f.came ∙ (ap (λ (xs : List SlotId). f.start ∷ xs) trail.0 ∙ (whole ∙ (g.came ∙ ap (λ (s : SlotId). g.earlier ++ s ∷ g.between) (sym trail.1)))) in
    let once_f : Once (f.earlier ++ f.again ∷ f.between) = subst Once f.came f.once in
    let cut = one_cut f.earlier f.between g.earlier g.between f.again once_f cut_here in
    let round : reverse (g.again ∷ g.between) ≡ reverse (f.again ∷ f.between) =
    ap reverse (ap (λ (s : SlotId). s ∷ g.between) (sym trail.1) ∙ ap (λ (xs : List SlotId). f.again ∷ xs) (sym cut.1)) in
    let once_r : Once (reverse (f.again ∷ f.between)) = once_reverse (f.again ∷ f.between) (once_back f.earlier (f.again ∷ f.between) once_f) in
    let all : All P (reverse (f.again ∷ f.between)) =
    All-reverse P (f.again ∷ f.between) (all_back P f.earlier (f.again ∷ f.between) (subst (All P) f.came (all_searched P R ranks distinct f.start f.rest f.again f.least.0 f.goes))) in
    let b = begun_at ranks v (reverse (f.again ∷ f.between)) f.turned.0 f.turned.1 f.turned.2 f.turned.3 f.begins in
    let c = begun_at ranks w (reverse (f.again ∷ f.between)) g.turned.0 g.turned.1 (sym round ∙ g.turned.2) g.turned.3 g.begins in
    one_turn P ranks v w (reverse (f.again ∷ f.between)) distinct once_r all b c

pub one_walk : (heap : Heap) (ranks : List ℕ) (v w : List SlotId) → HasDistinctRanks heap ranks → IsFound heap ranks v → IsFound heap ranks w → v ≡ w
one_walk heap ranks v w distinct f g =
    one_walk_among (IsUnreached heap) (HasField heap) ranks (λ s t u x. distinct s t u.0.0 x.0.0) v w f g
