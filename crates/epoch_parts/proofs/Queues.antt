-- What a change of one list makes of all entries.
use Rattle.std.proofs.Common.{◌≡◌, ℕ, zero, suc, ◌+◌, ◌<◌, ◌≤◌, Bool, true, false, List, [], ◌∷◌, ◌++◌, length, get_or, set, append_assoc, refl, ap, sym, ◌∙◌, subst, arith, take}
use Rattle.std.specs.Prelude.{All, map, ◌==◌, if◌then◌else◌}
use Rattle.std.proofs.lemmas.Bool.{eq-eqb}
use Rattle.std.proofs.lemmas.List.{length-append, map-append}
use Rattle.std.proofs.lemmas.List.Elements.{All-append}
use Rattle.epoch_core.specs.declared.act.Dated.{Dated}
use Rattle.epoch_core.specs.plain_state.Lists.{Entry}
use Rattle.epoch_core.specs.Steps.{dated_times, is_dated, without_dated}
use Rattle.epoch_core.proofs.Kit.{dated_cons, dated_eq}
use Rattle.epoch_parts.specs.Pending.{IsDueAt, IsInOrder, Queue, deferred_of, entries, spare}

-- the entry isn't due
abbrev pub NotDue : ℕ → Dated → Type 0
NotDue known d = IsDueAt known d → ⊥

-- what holds of each holds of the first and of the rest
first_of : {A : Type 0} (P : A → Type 0) (x : A) (xs : List A) → All P (x ∷ xs) → P x × All P xs
first_of P x xs all = (all 0 x (omega arith), λ k d h. all (suc k) d (omega (arith, h)))

pub all_behind : {A : Type 0} (P : A → Type 0) (xs ys : List A) → All P (xs ++ ys) → All P ys
all_behind P [] ys all = all
all_behind P (x ∷ xs) ys all = all_behind P xs ys (first_of P x (xs ++ ys) all).1

-- an entry that is dated no earlier than the others may come last
pub order_push : (ds : List Dated) (x : Dated) → IsInOrder ds
    → All (λ (y : Dated). y.date ≤ x.date) ds → IsInOrder (ds ++ x ∷ [])
order_push [] x order all = ((λ k d h. absurd (omega (arith, h))), tt)
order_push (d ∷ ds) x order all =
    let f = first_of (λ (y : Dated). y.date ≤ x.date) d ds all in
    (pushed (λ (y : Dated). d.date ≤ y.date) ds x order.0 f.0, order_push ds x order.1 f.1)
  where
    pushed : (P : Dated → Type 0) (ys : List Dated) (y : Dated) → All P ys → P y
        → All P (ys ++ y ∷ [])
    pushed P [] y all one zero e h = one
    pushed P [] y all one (suc k) e h = absurd (omega (arith, h))
    pushed P (z ∷ ys) y all one zero e h = all 0 e (omega arith)
    pushed P (z ∷ ys) y all one (suc k) e h =
        pushed P ys y (λ j b less. all (suc j) b (omega (arith, less))) one k e (omega (arith, h))

pub entries_append : (a b : List Queue) → entries (a ++ b) ≡ entries a ++ entries b
entries_append [] b = refl
entries_append (q ∷ a) b =
    ap (λ (ds : List Dated). q.entries ++ ds) (entries_append a b)
    ∙ sym (append_assoc q.entries (entries a) (entries b))

module _ (none : Queue) where
  -- all entries but those of the last list, which is changed alone
  pub last_entries : (qs : List Queue) (n : ℕ) → n + 1 ≡ length qs
      → (rest : List Dated) × (entries qs ≡ rest ++ (get_or qs n none).entries)
      × ((p : Queue) → entries (set qs n p) ≡ rest ++ p.entries)
  last_entries [] n is = absurd (omega (arith, is))
  last_entries (q ∷ []) zero is = ([], no_more q.entries, λ p. no_more p.entries)
    where
      no_more : (ds : List Dated) → ds ++ [] ≡ ds
      no_more [] = refl
      no_more (d ∷ ds) = ap (λ (es : List Dated). d ∷ es) (no_more ds)
  last_entries (q ∷ []) (suc n) is = absurd (omega (arith, is))
  last_entries (q ∷ (r ∷ qs)) zero is = absurd (omega (arith, is))
  last_entries (q ∷ (r ∷ qs)) (suc n) is =
      let l = last_entries (r ∷ qs) n (omega (arith, is)) in (
        q.entries ++ l.0,
        ap (λ (ds : List Dated). q.entries ++ ds) l.1
            ∙ sym (append_assoc q.entries l.0 (get_or (r ∷ qs) n none).entries),
        λ p. ap (λ (ds : List Dated). q.entries ++ ds) (l.2 p)
            ∙ sym (append_assoc q.entries l.0 p.entries),
      )

  pub last_spare : (qs : List Queue) (n : ℕ) → n + 1 ≡ length qs
      → (spare qs ≡ (get_or qs n none).spare) × ((p : Queue) → spare (set qs n p) ≡ p.spare)
  last_spare [] n is = absurd (omega (arith, is))
  last_spare (q ∷ []) zero is = (refl, λ p. refl)
  last_spare (q ∷ []) (suc n) is = absurd (omega (arith, is))
  last_spare (q ∷ (r ∷ qs)) zero is = absurd (omega (arith, is))
  last_spare (q ∷ (r ∷ [])) (suc zero) is = (refl, λ p. refl)
  last_spare (q ∷ (r ∷ [])) (suc (suc n)) is = absurd (omega (arith, is))
  last_spare (q ∷ (r ∷ (s ∷ qs))) (suc zero) is = absurd (omega (arith, is))
  last_spare (q ∷ (r ∷ (s ∷ qs))) (suc (suc n)) is =
      last_spare (r ∷ (s ∷ qs)) (suc n) (omega (arith, is))

  -- the room of the last list, where some list got no smaller room
  pub spare_grows : (qs : List Queue) (i : ℕ) (p : Queue) → i < length qs
      → (get_or qs i none).spare ≤ p.spare → spare qs ≤ spare (set qs i p)
  spare_grows [] i p there more = absurd (omega (arith, there))
  spare_grows (q ∷ []) zero p there more = more
  spare_grows (q ∷ []) (suc i) p there more = absurd (omega (arith, there))
  spare_grows (q ∷ (r ∷ qs)) zero p there more = omega arith
  spare_grows (q ∷ (r ∷ [])) (suc zero) p there more = more
  spare_grows (q ∷ (r ∷ [])) (suc (suc i)) p there more = absurd (omega (arith, there))
  spare_grows (q ∷ (r ∷ (s ∷ qs))) (suc zero) p there more = omega arith
  spare_grows (q ∷ (r ∷ (s ∷ qs))) (suc (suc i)) p there more =
      spare_grows (r ∷ (s ∷ qs)) (suc i) p (omega (arith, there)) more

  dated_self : (d : Dated) → is_dated d d ≡ true
  dated_self d =
      let a : (d.slot.0 == d.slot.0) ≡ true = eq-eqb d.slot.0 d.slot.0 refl in
      let b : (d.date == d.date) ≡ true = eq-eqb d.date d.date refl in rw (a, b) refl

  -- an entry that is due isn't one of those that aren't
  skips : (known : ℕ) (d x : Dated) (before after : List Dated) → IsDueAt known d → NotDue known x
      → without_dated d before ≡ after → without_dated d (x ∷ before) ≡ x ∷ after
  skips known d x before after due not rest = go (is_dated d x) refl
    where
      go : (b : Bool) → is_dated d x ≡ b
          → (if is_dated d x then before else x ∷ without_dated d before) ≡ x ∷ after
      go true is = absurd (not (subst (IsDueAt known) (sym (dated_eq d x is)) due))
      go false is = rw is (ap (λ (es : List Dated). x ∷ es) rest)

  without_due : (known : ℕ) (d : Dated) (ds rest : List Dated) → IsDueAt known d
      → All (NotDue known) ds
      → (without_dated d (ds ++ d ∷ rest) ≡ ds ++ rest) × (0 < dated_times d (ds ++ d ∷ rest))
  without_due known d [] rest due none =
      let own = dated_self d in
      let c = dated_cons d d rest in
      let one : ◌≡◌ {A = ℕ} (if is_dated d d then 1 else 0) 1 = rw own refl in
      (rw own refl, omega arith)
  without_due known d (x ∷ ds) rest due none =
      let f = first_of (NotDue known) x ds none in
      let r = without_due known d ds rest due f.1 in
      let c = dated_cons d x (ds ++ d ∷ rest) in
      let some = r.1 in
      (skips known d x (ds ++ d ∷ rest) (ds ++ rest) due f.0 r.0, omega arith)

  -- the front of a list was taken, before which nothing was due
  pub front_taken : (known : ℕ) (qs : List Queue) (i : ℕ) (d : Dated) (p : Queue) → i < length qs
      → (get_or qs i none).entries ≡ d ∷ p.entries → IsDueAt known d
      → All (NotDue known) (entries (take i qs))
      → (entries (set qs i p) ≡ without_dated d (entries qs)) × (0 < dated_times d (entries qs))
  front_taken known qs i d p there front due before =
      let s = split qs i there in
      let w = without_due known d (entries (take i qs)) (p.entries ++ s.0) due before in
      let all : entries qs ≡ entries (take i qs) ++ d ∷ (p.entries ++ s.0) =
      s.1 ∙ ap (λ (ds : List Dated). entries (take i qs) ++ (ds ++ s.0)) front in (
        s.2 p ∙ sym (ap (without_dated d) all ∙ w.0),
        subst (λ (ds : List Dated). 0 < dated_times d ds) (sym all) w.1,
      )
    where
      split : (qs : List Queue) (i : ℕ) → i < length qs
          → (rest : List Dated)
          × (entries qs ≡ entries (take i qs) ++ ((get_or qs i none).entries ++ rest))
          × ((r : Queue) → entries (set qs i r) ≡ entries (take i qs) ++ (r.entries ++ rest))
      split [] i there = absurd (omega (arith, there))
      split (q ∷ qs) zero there = (entries qs, refl, λ r. refl)
      split (q ∷ qs) (suc i) there =
          let s = split qs i (omega (arith, there)) in (
            s.0,
            ap (λ (ds : List Dated). q.entries ++ ds) s.1
                ∙ sym (append_assoc q.entries (entries (take i qs))
                ((get_or qs i none).entries ++ s.0)),
            λ r. ap (λ (ds : List Dated). q.entries ++ ds) (s.2 r)
                ∙ sym (append_assoc q.entries (entries (take i qs)) (r.entries ++ s.0)),
          )

  -- the entries of one list more
  pub entries_more : (qs : List Queue) (i : ℕ) → i < length qs
      → entries (take (i + 1) qs) ≡ entries (take i qs) ++ (get_or qs i none).entries
  entries_more [] i there = absurd (omega (arith, there))
  entries_more (q ∷ qs) zero there = no_more q.entries
    where
      no_more : (ds : List Dated) → ds ++ [] ≡ ds
      no_more [] = refl
      no_more (d ∷ ds) = ap (λ (es : List Dated). d ∷ es) (no_more ds)
  entries_more (q ∷ qs) (suc i) there =
      ap (λ (n : ℕ). entries (take n (q ∷ qs)))
      (let same : suc i + 1 ≡ suc (i + 1) = omega arith in same)
      ∙ ap (λ (ds : List Dated). q.entries ++ ds) (entries_more qs i (omega (arith, there)))
      ∙ sym (append_assoc q.entries (entries (take i qs)) (get_or qs i none).entries)

  -- how many they are
  pub count_more : (qs : List Queue) (i : ℕ) → i < length qs
      → length (entries (take (i + 1) qs))
      ≡ length (entries (take i qs)) + length (get_or qs i none).entries
  count_more qs i there =
      ap length (entries_more qs i there)
      ∙ length-append (entries (take i qs)) (get_or qs i none).entries

  -- and what they are without their dates
  pub deferred_more : (qs : List Queue) (i : ℕ) (before middle after : List Entry) → i < length qs
      → middle ≡ before ++ map deferred_of (entries (take i qs))
      → after ≡ middle ++ map deferred_of (get_or qs i none).entries
      → after ≡ before ++ map deferred_of (entries (take (i + 1) qs))
  deferred_more qs i before middle after there first last =
      last
      ∙ (ap (λ (es : List Entry). es ++ map deferred_of (get_or qs i none).entries) first
      ∙ (append_assoc before (map deferred_of (entries (take i qs)))
      (map deferred_of (get_or qs i none).entries)
      ∙ ap (λ (es : List Entry). before ++ es)
      (sym (ap (map deferred_of) (entries_more qs i there)
      ∙ map-append deferred_of (entries (take i qs)) (get_or qs i none).entries))))

  -- a list more in which nothing is due
  pub none_more : (known : ℕ) (qs : List Queue) (i : ℕ) → i < length qs
      → All (NotDue known) (entries (take i qs)) → All (NotDue known) (get_or qs i none).entries
      → All (NotDue known) (entries (take (i + 1) qs))
  none_more known qs i there before here =
      subst (All (NotDue known)) (sym (entries_more qs i there))
      (All-append (NotDue known) (entries (take i qs)) (get_or qs i none).entries before here)
