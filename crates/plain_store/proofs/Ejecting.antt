-- A settling leaves of the deferred entries what the rule of ejection keeps.
use Rattle.std.proofs.Common.{◌≡◌, ℕ, ◌-◌, ◌<◌, ◌≤◌, Bool, true, false, List, [], ◌∷◌, ◌++◌, length, set, refl, ap, sym, ◌∙◌, subst, arith, append-nil, append_assoc, Option, None, Some}
use Rattle.std.specs.Prelude.{if◌then◌else◌, nat_lt}
use Rattle.std.proofs.lemmas.Bool.Decides.{nat_tests}
use Rattle.std.proofs.lemmas.List.{get_or-set_same}
use Rattle.plain_state.specs.declared.act.EventPlace.{EventPlace}
use Rattle.plain_state.specs.declared.act.EventPlace.TheVariants.{Cell, Field, WeakCell, WeakField}
use Rattle.plain_state.specs.declared.act.PlainAct.{PlainAct}
use Rattle.plain_state.specs.declared.act.PlainAct.TheVariants as act
use Rattle.plain_state.specs.declared.slot.Kind.{Kind}
use Rattle.plain_state.specs.declared.slot.SlotId.{SlotId}
use Rattle.plain_state.specs.Lists.{Entry, is_entry, entry_times}
use Rattle.plain_state.specs.Ejection.{Announcements, left_after, kept}
use Rattle.plain_state.specs.State.{Plain, PlainSeat, new_seat, seat_at}
use Rattle.plain_state.specs.Places.{place_kind, content}
use Rattle.plain_state.specs.Steps.{joined, Does}
use Rattle.plain_state.proofs.Kit.{entry_in, entry_self, entry_is, entry_none, entry_cons}
use Rattle.plain_store.specs.Settling.{announced, Settles, SettlesBy, ClearsNothing, ClearNothing, EjectsAsAnnounced, IsSettled}
use Rattle.plain_store.proofs.SettlingEntries.{counts_entry}

-- an entry is one of (k, s), or not
entry_yes : (k : Kind) (s : SlotId) (x : Entry) → is_entry k s x ≡ true → entry_in k s x ≡ 1
entry_yes k s x is = sym (counts_entry k s x) ∙ rw is refl

entry_no : (k : Kind) (s : SlotId) (x : Entry) → is_entry k s x ≡ false → entry_in k s x ≡ 0
entry_no k s x is = sym (counts_entry k s x) ∙ rw is refl

left_yes : (seen : Announcements) (k : Kind) (s : SlotId) (x : Entry) → is_entry k s x ≡ true → left_after seen x k s ≡ seen k s - 1
left_yes seen k s x is = rw is refl

left_no : (seen : Announcements) (k : Kind) (s : SlotId) (x : Entry) → is_entry k s x ≡ false → left_after seen x k s ≡ seen k s
left_no seen k s x is = rw is refl

-- behind an entry that is kept no more are announced than stand there, if that was so with it
left_enough : (seen : Announcements) (k : Kind) (s : SlotId) (x : Entry) (xs : List Entry) → seen k s ≤ entry_times k s (x ∷ xs)
    → left_after seen x k s ≤ entry_times k s xs
left_enough seen k s x xs h = go (is_entry k s x) refl
  where
    go : (b : Bool) → is_entry k s x ≡ b → left_after seen x k s ≤ entry_times k s xs
    go true is =
        let l = left_yes seen k s x is in let t = entry_cons k s x xs in let o = entry_yes k s x is in omega arith
    go false is =
        let l = left_no seen k s x is in let t = entry_cons k s x xs in let o = entry_no k s x is in omega arith

-- and no fewer, if that was so with it
left_for : (seen : Announcements) (k : Kind) (s : SlotId) (x : Entry) (xs : List Entry) → entry_times k s (x ∷ xs) ≤ seen k s
    → entry_times k s xs ≤ left_after seen x k s
left_for seen k s x xs h = go (is_entry k s x) refl
  where
    go : (b : Bool) → is_entry k s x ≡ b → entry_times k s xs ≤ left_after seen x k s
    go true is =
        let l = left_yes seen k s x is in let t = entry_cons k s x xs in let o = entry_yes k s x is in omega arith
    go false is =
        let l = left_no seen k s x is in let t = entry_cons k s x xs in let o = entry_no k s x is in omega arith

-- an entry that isn't announced counts for nothing
behind_none : (seen : Announcements) (k : Kind) (s : SlotId) (x : Entry) (xs : List Entry) → seen x.0 x.1 ≡ 0 → seen k s ≤ entry_times k s (x ∷ xs)
    → seen k s ≤ entry_times k s xs
behind_none seen k s x xs none h = go (is_entry k s x) refl
  where
    go : (b : Bool) → is_entry k s x ≡ b → seen k s ≤ entry_times k s xs
    go true is =
        let o = entry_yes k s x is in
        let same = entry_is k s x (omega arith) in
        let e : seen x.0 x.1 ≡ seen k s = ap (λ (y : Entry). seen y.0 y.1) same in omega arith
    go false is = let t = entry_cons k s x xs in let o = entry_no k s x is in omega arith

-- an entry goes in front of which as many equal ones stand as are announced: what is kept is the same
pub kept_without : (k : Kind) (s : SlotId) (front back : List Entry) (seen : Announcements) → seen k s ≤ entry_times k s front
    → kept (front ++ (k, s) ∷ back) seen ≡ kept (front ++ back) seen
kept_without k s [] back seen h =
    let z = entry_none k s in
    let none : nat_lt 0 (seen k s) ≡ false = grind (arith, nat_tests) in
    rw none refl
kept_without k s (x ∷ xs) back seen h = go (nat_lt 0 (seen x.0 x.1)) refl (kept_without k s xs back)
  where
    go : (b : Bool) → nat_lt 0 (seen x.0 x.1) ≡ b
        → ((y : Announcements) → y k s ≤ entry_times k s xs → kept (xs ++ (k, s) ∷ back) y ≡ kept (xs ++ back) y)
        → (if b then x ∷ kept (xs ++ (k, s) ∷ back) (left_after seen x) else kept (xs ++ (k, s) ∷ back) seen)
        ≡ (if b then x ∷ kept (xs ++ back) (left_after seen x) else kept (xs ++ back) seen)
    go true more ih = ap (λ (l : List Entry). x ∷ l) (ih (left_after seen x) (left_enough seen k s x xs h))
    go false is ih =
        let none : seen x.0 x.1 ≡ 0 = grind (arith, nat_tests) in
        ih seen (behind_none seen k s x xs none h)

-- where no more stand than are announced, all are kept
pub kept_all : (es : List Entry) (seen : Announcements) → ((k : Kind) (s : SlotId) → entry_times k s es ≤ seen k s) → kept es seen ≡ es
kept_all [] seen h = refl
kept_all (x ∷ xs) seen h =
    let t = entry_cons x.0 x.1 x xs in
    let o = entry_self x.0 x.1 in
    let few = h x.0 x.1 in
    let some : nat_lt 0 (seen x.0 x.1) ≡ true = grind (arith, nat_tests) in
    rw some (ap (λ (l : List Entry). x ∷ l) (kept_all xs (left_after seen x) (λ k s. left_for seen k s x xs (h k s))))

seat_is : (p q : Plain) (w : PlainSeat) → 0 < length p.seats → q.seats ≡ set p.seats 0 w → seat_at q 0 ≡ w
seat_is p q w here e =
    ap (λ (vs : List PlainSeat). seat_at (record q { seats = vs }) 0) e ∙ get_or-set_same p.seats 0 w new_seat here

-- what one step leaves: the snapshots, and what is kept of all entries with those behind that it defers
record Leaves (p : Plain) (a : PlainAct) (q : Plain) : Type 0 where
  pub deferred : List Entry
  pub snapshots : (seat_at q 0).snapshots ≡ (seat_at p 0).snapshots
  pub keeps : (more : List Entry) → kept ((seat_at q 0).deferred ++ more) (announced (seat_at p 0))
      ≡ kept ((seat_at p 0).deferred ++ (deferred ++ more)) (announced (seat_at p 0))
  pub none : ClearsNothing a → deferred ≡ []

-- a step that leaves both lists
same_leaves : (p q : Plain) (a : PlainAct) → (seat_at q 0).snapshots ≡ (seat_at p 0).snapshots
    → (seat_at q 0).deferred ≡ (seat_at p 0).deferred → Leaves p a q
same_leaves p q a e f = record {
  deferred = [];
  snapshots = e;
  keeps = λ more. ap (λ (l : List Entry). kept (l ++ more) (announced (seat_at p 0))) f;
  none = λ u. refl;
}

joined_behind : (k : Kind) (old : Option SlotId) (es more : List Entry) → joined k old es ++ more ≡ es ++ (joined k old [] ++ more)
joined_behind k None es more = refl
joined_behind k (Some s) es more = append_assoc es ((k, s) ∷ []) more

clear_leaves : (p q : Plain) (place : EventPlace) → seat_at q 0
    ≡ record (seat_at p 0) { deferred = joined (place_kind place) (content p place) (seat_at p 0).deferred } → Leaves p (act.Clear place) q
clear_leaves p q place is = record {
  deferred = joined (place_kind place) (content p place) [];
  snapshots = ap (λ (v : PlainSeat). v.snapshots) is;
  keeps = λ more. ap (λ (l : List Entry). kept l (announced (seat_at p 0)))
      (ap (λ (v : PlainSeat). v.deferred ++ more) is ∙ joined_behind (place_kind place) (content p place) (seat_at p 0).deferred more);
  none = λ f. absurd f;
}

step_leaves : (p q : Plain) (a : PlainAct) (found : ℕ) → Settles p a q → Does p 0 a found q → Leaves p a q
step_leaves p q (act.Eject k s) found (front, back, was, now, enough) (here, (es, l, z, e, c)) = record {
  deferred = [];
  snapshots = ap (λ (v : PlainSeat). v.snapshots)
      (seat_is p q (record (seat_at p 0) { deferred = es }) here.0 (ap (λ (r : Plain). r.seats) e));
  keeps = λ more.
      ap (λ (l : List Entry). kept (l ++ more) (announced (seat_at p 0))) now
      ∙ ap (λ (l : List Entry). kept l (announced (seat_at p 0))) (append_assoc front back more)
      ∙ sym (kept_without k s front (back ++ more) (announced (seat_at p 0)) enough)
      ∙ ap (λ (l : List Entry). kept l (announced (seat_at p 0))) (sym (append_assoc front ((k, s) ∷ back) more))
      ∙ ap (λ (l : List Entry). kept (l ++ more) (announced (seat_at p 0))) (sym was);
  none = λ u. refl;
}
step_leaves p q (act.End s) found may (here, (live, ends, z, e)) =
    let is = seat_is p q _ here.0 (ap (λ (r : Plain). r.seats) e) in
    same_leaves p q (act.End s) (ap (λ (v : PlainSeat). v.snapshots) is) (ap (λ (v : PlainSeat). v.deferred) is)
step_leaves p q (act.Clear (Field s i)) found may (here, (dying, z, e)) =
    clear_leaves p q (Field s i) (seat_is p q _ here.0 (ap (λ (r : Plain). r.seats) e))
step_leaves p q (act.Clear (WeakField s)) found may (here, (dying, z, e)) =
    clear_leaves p q (WeakField s) (seat_is p q _ here.0 (ap (λ (r : Plain). r.seats) e))
step_leaves p q (act.Clear (Cell i)) found may d = absurd d.1.0
step_leaves p q (act.Clear (WeakCell i)) found may d = absurd d.1.0
step_leaves p q (act.Destroy s) found may (here, (nulls, under, z, (xs, l, e))) =
    let is = seat_is p q _ here.0 (ap (λ (r : Plain). r.seats) e) in
    same_leaves p q (act.Destroy s) (ap (λ (v : PlainSeat). v.snapshots) is) (ap (λ (v : PlainSeat). v.deferred) is)
step_leaves p q (act.Give s) found may (here, (husk, few, z, e)) =
    same_leaves p q (act.Give s) (ap (λ (r : Plain). (seat_at r 0).snapshots) e) (ap (λ (r : Plain). (seat_at r 0).deferred) e)
step_leaves p q _ found may d = absurd may

-- what some steps leave
record LeftBy (acts : List PlainAct) (p q : Plain) : Type 0 where
  pub more : List Entry
  pub snapshots : (seat_at q 0).snapshots ≡ (seat_at p 0).snapshots
  pub keeps : kept (seat_at q 0).deferred (announced (seat_at p 0)) ≡ kept ((seat_at p 0).deferred ++ more) (announced (seat_at p 0))
  pub none : ClearNothing acts → more ≡ []

announced_same : (v w : PlainSeat) → w.snapshots ≡ v.snapshots → announced w ≡ announced v
announced_same v w e = let seen : List Entry → Announcements = λ es k s. entry_times k s es in ap seen e

settled_leaves : (weight : List ℕ → ℕ) (acts : List PlainAct) (p q : Plain) (total : ℕ) → SettlesBy weight acts p total q → LeftBy acts p q
settled_leaves weight [] p q total (e, z) = record {
  more = [];
  snapshots = ap (λ (r : Plain). (seat_at r 0).snapshots) e;
  keeps = ap (λ (l : List Entry). kept l (announced (seat_at p 0)))
      (ap (λ (r : Plain). (seat_at r 0).deferred) e ∙ sym (append-nil (seat_at p 0).deferred));
  none = λ u. refl;
}
settled_leaves weight (a ∷ acts) p q total (m, found, rest, may, d, by, z) =
    let step = step_leaves p m a found may d in
    let on = settled_leaves weight acts m q rest by in
    let same = announced_same (seat_at p 0) (seat_at m 0) step.snapshots in
    record {
      more = step.deferred ++ on.more;
      snapshots = on.snapshots ∙ step.snapshots;
      keeps = subst (λ (seen : Announcements). kept (seat_at q 0).deferred seen ≡ kept ((seat_at m 0).deferred ++ on.more) seen) same on.keeps
          ∙ step.keeps on.more;
      none = λ both. ap (λ (l : List Entry). l ++ on.more) (step.none both.0) ∙ on.none both.1;
    }

pub ejects_as_announced : (weight : List ℕ → ℕ) (acts : List PlainAct) (p q : Plain) (total : ℕ) → SettlesBy weight acts p total q → IsSettled q
    → EjectsAsAnnounced acts p q
ejects_as_announced weight acts p q total by settled =
    let left = settled_leaves weight acts p q total by in
    let same = announced_same (seat_at p 0) (seat_at q 0) left.snapshots in
    let all : kept (seat_at q 0).deferred (announced (seat_at p 0)) ≡ (seat_at q 0).deferred =
    subst (λ (seen : Announcements). kept (seat_at q 0).deferred seen ≡ (seat_at q 0).deferred) same
    (kept_all (seat_at q 0).deferred (announced (seat_at q 0)) settled.ejected) in
    (left.more, sym all ∙ left.keeps, left.none)
