-- Lanes that drew all tickets of files, each once.
use Rattle.std.specs.Prelude.{cond, nat_lt, ◌==◌, All, length}
use Rattle.std.specs.List.{flat_map, sum_by}
use Rattle.std.proofs.Common.{◌≡◌, ◌⊎◌, inl, inr, ⊎_elim, ℕ, zero, suc, ◌+◌, ◌<◌, ◌≤◌, List, [], ◌∷◌, ◌++◌, refl, sym, ap, ◌∙◌, arith}
use Rattle.std.proofs.lemmas.Bool.{cases_eq, cases_lt}
use Rattle.std.proofs.lemmas.List.Concat.{flat_map-cons}
use Rattle.std.proofs.lemmas.List.Sums.{sum_by-cons}
use Rattle.ticket_shares.specs.Tickets.{AreLanes, DrewOnce, IsEachOnce, IsShare, ticket_times, together}
use Rattle.ticket_shares.proofs.Counts.{none_if, one_if, times_self, times_append, times_cons}
use Rattle.ticket_shares.proofs.Rounds.{firsts, firsts_once, none_first, none_past, one_below, same_first}

together_cons : (t : ℕ) (one : List ℕ) (lists : List (List ℕ))
    → ticket_times t (together (one ∷ lists)) ≡ ticket_times t one + ticket_times t (together lists)
together_cons t one lists =
    ap (ticket_times t) (flat_map-cons (λ (tickets : List ℕ). tickets) one lists)
    ∙ times_append t one (together lists)

turned : (t u : ℕ) → cond {A = ℕ} (t == u) 1 0 ≡ cond (u == t) 1 0
turned t u = ⊎_elim
    (λ (e : t ≡ u). let a = one_if t u e in let b = one_if u t (sym e) in omega arith)
    (λ (e : t ≡ u → ⊥).
    let a = none_if t u e in let b = none_if u t (λ f. e (sym f)) in omega arith)
    (cases_eq t u)

both_first : (f g : ℕ → ℕ) (n : ℕ)
    → sum_by (λ i. f i + g i) (firsts n) ≡ sum_by f (firsts n) + sum_by g (firsts n)
unfolding firsts
both_first f g zero = refl
both_first f g (suc n) =
    let a = sum_by-cons (λ i. f i + g i) n (firsts n) in
    let b = sum_by-cons f n (firsts n) in
    let c = sum_by-cons g n (firsts n) in
    let d = both_first f g n in omega arith

-- one of the first n numbers is u
one_first : (u n : ℕ) → u < n → sum_by (λ i. cond (i == u) 1 0) (firsts n) ≡ 1
one_first u n lt =
    let a = firsts_once n u in
    let b = one_below u n lt in
    let c = same_first (λ i. cond (i == u) 1 0) (λ i. cond (u == i) 1 0) n (λ i under. turned i u) in
    omega arith

one_most : (t n : ℕ) → cond {A = ℕ} (nat_lt t n) 1 0 ≤ 1
one_most t n = ⊎_elim
    (λ (l : t < n). let a = one_below t n l in omega arith)
    (λ (l : n ≤ t). let a = none_past t n l in omega arith)
    (cases_lt t n)

few_first : (f : ℕ → ℕ) (n : ℕ) → ((i : ℕ) → f i ≤ 1) → sum_by f (firsts n) ≤ n
unfolding firsts
few_first f zero few = let a : sum_by f [] ≡ 0 = refl in omega arith
few_first f (suc n) few =
    let a = sum_by-cons f n (firsts n) in
    let b = few n in
    let c = few_first f n few in omega arith

-- how often each of the first n numbers stands among numbers below n, added up
all_times : (n : ℕ) (ts : List ℕ) → All (λ t. t < n) ts
    → sum_by (λ i. ticket_times i ts) (firsts n) ≡ length ts
all_times n [] below = none_first (λ i. 0) n (λ i lt. refl)
all_times n (u ∷ us) below =
    let i = all_times n us (λ k d lt. below (suc k) d (omega arith)) in
    let a = same_first (λ i. ticket_times i (u ∷ us))
    (λ i. cond (i == u) 1 0 + ticket_times i us) n (λ i lt. times_cons i u us) in
    let b = both_first (λ i. cond (i == u) 1 0) (λ i. ticket_times i us) n in
    let c = one_first u n (below 0 0 (omega arith)) in omega arith

-- what a lane drew: tickets of files, and then one of none
record Ended (most : ℕ) (drawn tickets : List ℕ) : Type 0 where
  last : ℕ
  is : drawn ≡ tickets ++ last ∷ []
  inside : All (λ t. t < most) tickets
  past : most ≤ last

abbrev AreEnded : ℕ → List (List ℕ) → List (List ℕ) → Type 0
AreEnded most [] [] = Unit {0}
AreEnded most [] (tickets ∷ shares) = ⊥
AreEnded most (one ∷ drawn) [] = ⊥
AreEnded most (one ∷ drawn) (tickets ∷ shares) =
    Ended most one tickets × AreEnded most drawn shares

-- numbers below n, each at most once, are at most n
pigeonholes : (n : ℕ) (ts : List ℕ) → All (λ t. t < n) ts → ((t : ℕ) → ticket_times t ts ≤ 1)
    → length ts ≤ n
pigeonholes n ts below once =
    let a = all_times n ts below in
    let b = few_first (λ i. ticket_times i ts) n once in omega arith

ended : (most : ℕ) (one tickets : List ℕ) → ((t : ℕ) → ticket_times t one ≤ 1)
    → IsShare most one tickets → Ended most one tickets
ended most one tickets once share = ⊎_elim
    (λ (e : (last : ℕ) × (share.rest ≡ last ∷ []) × (most ≤ last)).
    record {
      last = e.0;
      is = share.is ∙ ap (λ r. tickets ++ r) e.1;
      inside = share.inside;
      past = e.2;
    })
    (λ (e : (share.rest ≡ []) × (most < length tickets)).
    let few = pigeonholes most tickets share.inside (λ t.
    let a = ap (ticket_times t) share.is in
    let b = times_append t tickets share.rest in
    let c = once t in omega arith) in
    absurd (omega arith))
    share.ends

all_ended : (most : ℕ) (drawn shares : List (List ℕ)) → AreLanes most drawn shares
    → ((t : ℕ) → ticket_times t (together drawn) ≤ 1) → AreEnded most drawn shares
all_ended most [] [] lanes once = tt
all_ended most [] (tickets ∷ shares) lanes once = absurd lanes
all_ended most (one ∷ drawn) [] lanes once = absurd lanes
all_ended most (one ∷ drawn) (tickets ∷ shares) lanes once = (
  ended most one tickets (λ t.
      let a = together_cons t one drawn in let b = once t in omega arith) lanes.0,
  all_ended most drawn shares lanes.1 (λ t.
      let a = together_cons t one drawn in let b = once t in omega arith),
)

-- of tickets of files the lanes' lists have what they drew
same_inside : (most t : ℕ) → t < most → (drawn shares : List (List ℕ)) → AreEnded most drawn shares
    → ticket_times t (together shares) ≡ ticket_times t (together drawn)
same_inside most t lt [] [] lanes = refl
same_inside most t lt [] (tickets ∷ shares) lanes = absurd lanes
same_inside most t lt (one ∷ drawn) [] lanes = absurd lanes
same_inside most t lt (one ∷ drawn) (tickets ∷ shares) lanes =
    let lane = lanes.0 in
    let a = together_cons t one drawn in
    let b = together_cons t tickets shares in
    let c = same_inside most t lt drawn shares lanes.1 in
    let d = ap (ticket_times t) lane.is in
    let e = times_append t tickets (lane.last ∷ []) in
    let past = lane.past in
    let f = times_cons t lane.last [] in
    let g = none_if t lane.last (λ same. omega arith) in omega arith

none_inside : (most t : ℕ) → most ≤ t → (ts : List ℕ) → All (λ u. u < most) ts
    → ticket_times t ts ≡ 0
none_inside most t le [] below = refl
none_inside most t le (u ∷ us) below =
    let a = times_cons t u us in
    let under : u < most = below 0 0 (omega arith) in
    let b = none_if t u (λ same. omega arith) in
    let c = none_inside most t le us (λ k d lt. below (suc k) d (omega arith)) in omega arith

none_outside : (most t : ℕ) → most ≤ t → (drawn shares : List (List ℕ))
    → AreEnded most drawn shares → ticket_times t (together shares) ≡ 0
none_outside most t le [] [] lanes = refl
none_outside most t le [] (tickets ∷ shares) lanes = absurd lanes
none_outside most t le (one ∷ drawn) [] lanes = absurd lanes
none_outside most t le (one ∷ drawn) (tickets ∷ shares) lanes =
    let a = together_cons t tickets shares in
    let b = none_inside most t le tickets lanes.0.inside in
    let c = none_outside most t le drawn shares lanes.1 in omega arith

-- the first lane drew a ticket of no file
some_past : (most : ℕ) (drawn shares : List (List ℕ)) → 0 < length drawn
    → AreEnded most drawn shares
    → (t : ℕ) × (most ≤ t) × (0 < ticket_times t (together drawn))
some_past most [] shares some lanes = absurd (omega arith)
some_past most (one ∷ drawn) [] some lanes = absurd lanes
some_past most (one ∷ drawn) (tickets ∷ shares) some lanes =
    let lane = lanes.0 in
    let t = lane.last in
    let a = together_cons t one drawn in
    let b = ap (ticket_times t) lane.is in
    let c = times_append t tickets (t ∷ []) in
    let d = times_self t [] in
    (t, lane.past, omega arith)

pub each_ticket : (most below : ℕ) (drawn shares : List (List ℕ)) → 0 < length drawn
    → DrewOnce drawn below → AreLanes most drawn shares → IsEachOnce most (together shares)
each_ticket most below drawn shares some once lanes t =
    let ends = all_ended most drawn shares lanes (λ u.
    let a = once u in let b = one_most u below in omega arith) in
    let last = some_past most drawn shares some ends in
    let under : last.0 < below = ⊎_elim (λ (l : last.0 < below). l)
    (λ (l : below ≤ last.0).
    let a = once last.0 in
    let b = none_past last.0 below l in
    let c = last.2 in absurd (omega arith))
    (cases_lt last.0 below) in
    let past = last.1 in
    ⊎_elim
    (λ (l : t < most).
    let a = same_inside most t l drawn shares ends in
    let b = once t in
    let c = one_below t below (omega arith) in
    let d = one_below t most l in omega arith)
    (λ (l : most ≤ t).
    let a = none_outside most t l drawn shares ends in
    let b = none_past t most l in omega arith)
    (cases_lt t most)
