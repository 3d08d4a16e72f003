-- How what calls keep composes, and what single calls keep.
use Rattle.std.proofs.Common.{◌≡◌, ℕ, ◌+◌, ◌≤◌, Bool, true, false, List, [], ◌∷◌, ◌++◌, refl, ap, sym, ◌∙◌, subst, arith}
use Rattle.std.specs.Prelude.{Err, IsErr, None, Ok, Option, Result, Some}
use Rattle.control_word.specs.plain_state.declared.slot.Kind.TheVariants.{Strong, Weak}
use Rattle.control_word.specs.plain_state.declared.slot.SlotId.{SlotId}
use Rattle.control_word.specs.plain_state.Lists.{times}
use Rattle.control_word.specs.core_events.declared.view.CoreView.{CoreView}
use Rattle.control_word.specs.core_events.declared.view.Move.{Move}
use Rattle.control_word.specs.core_events.Steps.{without_given}
use Rattle.control_word.specs.core_events.Views.{Holds, held_times, without}
use Rattle.control_word.proofs.Below.core_law_Kit.{one_same, times_none, times_push, times_without}
use Rattle.control_word.specs.acquire_retire.Collecting.{ends, rest_of}
use Rattle.control_word.specs.acquire_retire.Domains.{DomainState}
use Rattle.control_word.specs.acquire_retire.Seats.{SeatState}
use Rattle.control_word.specs.Calls.{DropsStrong, DropsWeak, dropped_by, weakly_dropped_by, with_ended, without_strong, without_weak}
use Rattle.control_word.specs.Moves.{KnowsStill}
use Rattle.weak_part_calls.proofs.Below.protected_loads_Telling.{holds_has}
use Rattle.watch_protocol.specs.watch_law.News.{NewsView}
use Rattle.weak_watch.specs.Keeping.{Keeps, aside, with_more}
use Rattle.weak_watch.specs.Subjects.{seen}

pub more_same : (found : Option SlotId) (x : SlotId) (xs ys : List SlotId)
    → times x xs ≡ times x ys → times x (with_more found xs) ≡ times x (with_more found ys)
more_same None x xs ys same = same
more_same (Some s) x xs ys same =
    let a = times_push x s xs in let b = times_push x s ys in omega (arith, same, a, b)

-- what a seat holds is told by its lists and by what it has beside
holds_by : (x : SlotId) (v w : CoreView) → aside v ≡ aside w → times x v.owned ≤ times x w.owned
    → times x v.weaks ≤ times x w.weaks → Holds v x → Holds w x
holds_by x v w same strong weak held =
    let e = ap (λ (u : CoreView). held_times x u) same in
    let none = times_none x in omega arith

module _ {V : Type 0} where
  pub keeps_same : (old new : SeatState V) → new ≡ old
      → Keeps 0 0 old.view.core.owned old.view.core.weaks old new
  keeps_same old new is =
      subst (λ (z : SeatState V). Keeps 0 0 old.view.core.owned old.view.core.weaks old z) (sym is)
      (record {
        owns = λ x. refl;
        weakly = λ x. refl;
        makes_used = (omega arith, omega arith);
        adds_used = (omega arith, omega arith);
        same = refl;
        knows = λ x was is. refl;
      })

  -- the seat has come to have v, but for its trail, and knows what it knew by `kept`
  pub keeps_core : (old new : SeatState V) (v kept : CoreView) (ms : List Move) (m n : ℕ)
      → new.view.core ≡ record v { trail = old.view.core.trail ++ ms }
      → aside v ≡ aside old.view.core → v.makes ≡ old.view.core.makes + m
      → v.adds ≡ old.view.core.adds + n → KnowsStill kept old new
      → ((x : SlotId) → Holds old.view.core x → Holds v x → Holds kept x)
      → Keeps m n v.owned v.weaks old new
  keeps_core old new v kept ms m n core same makes adds knows holds =
      let made = ap (λ (u : CoreView). u.makes) core ∙ makes in
      let added = ap (λ (u : CoreView). u.adds) core ∙ adds in
      record {
        owns = λ x. ap (λ (u : CoreView). times x u.owned) core;
        weakly = λ x. ap (λ (u : CoreView). times x u.weaks) core;
        makes_used = (omega (arith, made), omega (arith, made));
        adds_used = (omega (arith, added), omega (arith, added));
        same = ap aside core ∙ same;
        knows = λ x was is.
            knows x (holds_has kept x (holds x was (subst (λ (u : CoreView). Holds u x) core is)));
      }

  -- it exchanged what a place held, gave what it gave, and may have scanned then
  keeps_given : (old new : SeatState V) (v : CoreView) → rest_of new.view.core ≡ rest_of v
      → aside v ≡ aside old.view.core → v.makes ≡ old.view.core.makes
      → v.adds ≡ old.view.core.adds → KnowsStill v old new
      → Keeps 0 0 v.owned v.weaks old new
  keeps_given old new v rest same makes adds knows =
      let made = ap (λ (u : CoreView). u.makes) rest ∙ makes in
      let added = ap (λ (u : CoreView). u.adds) rest ∙ adds in
      let beside : aside new.view.core ≡ aside v =
      ap (λ (u : CoreView). record u { owned = []; weaks = []; made = []; adds = 0; makes = 0 })
      rest in
      record {
        owns = λ x. ap (λ (u : CoreView). times x u.owned) rest;
        weakly = λ x. ap (λ (u : CoreView). times x u.weaks) rest;
        makes_used = (omega (arith, made), omega (arith, made));
        adds_used = (omega (arith, added), omega (arith, added));
        same = beside ∙ same;
        knows = λ x was is.
            let strong = ap (λ (u : CoreView). times x u.owned) rest in
            let weak = ap (λ (u : CoreView). times x u.weaks) rest in
            knows x (holds_has v x
            (holds_by x new.view.core v beside (omega (arith, strong)) (omega (arith, weak)) is));
      }

  pub keeps_weak_given : (s : SlotId) (old new : SeatState V)
      → rest_of new.view.core ≡ rest_of (without_given Weak (Some s) old.view.core)
      → KnowsStill (without_given Weak (Some s) old.view.core) old new
      → Keeps 0 0 old.view.core.owned (without s old.view.core.weaks) old new
  keeps_weak_given s old new rest knows =
      keeps_given old new (without_given Weak (Some s) old.view.core) rest refl refl refl knows

  pub keeps_strong_given : (s : SlotId) (old new : SeatState V)
      → rest_of new.view.core ≡ rest_of (without_given Strong (Some s) old.view.core)
      → KnowsStill (without_given Strong (Some s) old.view.core) old new
      → Keeps 0 0 (without s old.view.core.owned) old.view.core.weaks old new
  keeps_strong_given s old new rest knows =
      keeps_given old new (without_given Strong (Some s) old.view.core) rest refl refl refl knows

  -- A DROP
  gave_up : (e : Bool) (s : SlotId) (ms : List Move) (b c : SeatState V)
      → c.view.core ≡ record (with_ended e s (without_strong s b.view.core)) {
        trail = b.view.core.trail ++ ms;
      }
      → KnowsStill (without_strong s b.view.core) b c
      → Keeps 0 0 (without s b.view.core.owned) b.view.core.weaks b c
  gave_up true s ms b c core knows =
      keeps_core b c (with_ended true s (without_strong s b.view.core))
      (without_strong s b.view.core) ms 0 0 core refl (omega arith) (omega arith) knows
      (λ x was is. is)
  gave_up false s ms b c core knows =
      keeps_core b c (without_strong s b.view.core) (without_strong s b.view.core) ms 0 0 core refl
      (omega arith) (omega arith) knows (λ x was is. is)

  weakly_gave_up : (s : SlotId) (ms : List Move) (b c : SeatState V)
      → c.view.core ≡ record (without_weak s b.view.core) { trail = b.view.core.trail ++ ms }
      → KnowsStill (without_weak s b.view.core) b c
      → Keeps 0 0 b.view.core.owned (without s b.view.core.weaks) b c
  weakly_gave_up s ms b c core knows =
      keeps_core b c (without_weak s b.view.core) (without_weak s b.view.core) ms 0 0 core refl
      (omega arith) (omega arith) knows (λ x was is. is)

  -- ONE CALL AND THEN ANOTHER, where what is held throughout is held between them
  pub keeps_then : (m n k l : ℕ) (os ws xs ys owned weaks : List SlotId) (a b c : SeatState V)
      → Keeps m n os ws a b → Keeps k l xs ys b c
      → ((x : SlotId) → times x xs ≡ times x owned) → ((x : SlotId) → times x ys ≡ times x weaks)
      → ((x : SlotId) → Holds a.view.core x → Holds c.view.core x → Holds b.view.core x)
      → Keeps (m + k) (n + l) owned weaks a c
  keeps_then m n k l os ws xs ys owned weaks a b c first second strong weak mid = record {
    owns = λ x. second.owns x ∙ strong x;
    weakly = λ x. second.weakly x ∙ weak x;
    makes_used = (
      omega (arith, first.makes_used.0, second.makes_used.0),
      omega (arith, first.makes_used.1, second.makes_used.1),
    );
    adds_used = (
      omega (arith, first.adds_used.0, second.adds_used.0),
      omega (arith, first.adds_used.1, second.adds_used.1),
    );
    same = second.same ∙ first.same;
    knows = λ x was is. second.knows x (mid x was is) is ∙ first.knows x was (mid x was is);
  }

  -- the same by wider numbers
  pub keeps_wider : (m n k l : ℕ) (os ws : List SlotId) (a b : SeatState V) → Keeps m n os ws a b
      → m ≤ k → n ≤ l → Keeps k l os ws a b
  keeps_wider m n k l os ws a b keeps makes adds = record {
    owns = keeps.owns;
    weakly = keeps.weakly;
    makes_used = (keeps.makes_used.0, omega (arith, keeps.makes_used.1, makes));
    adds_used = (keeps.adds_used.0, omega (arith, keeps.adds_used.1, adds));
    same = keeps.same;
    knows = keeps.knows;
  }

  module _ (m n : ℕ) (os ws : List SlotId) (a b : SeatState V) (first : Keeps m n os ws a b)
      (x : SlotId) where
    pub held_on : times x a.view.core.owned ≤ times x os → times x a.view.core.weaks ≤ times x ws
        → Holds a.view.core x → Holds b.view.core x
    held_on strong weak =
        let e = first.owns x in
        let f = first.weakly x in
        holds_by x a.view.core b.view.core (sym first.same) (omega arith) (omega arith)

    pub held_before : times x os ≤ times x a.view.core.owned
        → times x ws ≤ times x a.view.core.weaks → Holds b.view.core x → Holds a.view.core x
    held_before strong weak =
        let e = first.owns x in
        let f = first.weakly x in
        holds_by x b.view.core a.view.core first.same (omega arith) (omega arith)

  -- a call that leaves what the seat owns then, after one by which it owns no less
  pub keeps_on : (m n k l : ℕ) (os ws : List SlotId) (a b c : SeatState V) → Keeps m n os ws a b
      → Keeps k l b.view.core.owned b.view.core.weaks b c
      → ((x : SlotId) → times x a.view.core.owned ≤ times x os)
      → ((x : SlotId) → times x a.view.core.weaks ≤ times x ws)
      → Keeps (m + k) (n + l) os ws a c
  keeps_on m n k l os ws a b c first second strong weak =
      keeps_then m n k l os ws _ _ os ws a b c first second first.owns first.weakly
      (λ x was is. held_on m n os ws a b first x (strong x) (weak x) was)

  -- A WEAK REFERENCE that was gained and given up
  pub weak_through : (m n : ℕ) (s : SlotId) (a b c : SeatState V)
      → Keeps m n a.view.core.owned (a.view.core.weaks ++ s ∷ []) a b
      → Keeps 0 0 b.view.core.owned (without s b.view.core.weaks) b c
      → Keeps (m + 0) (n + 0) a.view.core.owned a.view.core.weaks a c
  weak_through m n s a b c gains gives =
      keeps_then m n 0 0 _ _ _ _ _ _ a b c gains gives gains.owns
      (λ x.
      let p = gains.weakly x in
      let q = gains.weakly s in
      let push = times_push x s a.view.core.weaks in
      let here = times_push s s a.view.core.weaks in
      let one = one_same s s refl in
      let fewer = times_without x s b.view.core.weaks (omega (arith, q, here, one)) in
      omega (arith, p, push, fewer))
      (λ x was is.
      let push = times_push x s a.view.core.weaks in
      held_on m n _ _ a b gains x (omega arith) (omega (arith, push)) was)

  -- a strong one
  pub strong_through : (m n : ℕ) (s : SlotId) (a b c : SeatState V)
      → Keeps m n (a.view.core.owned ++ s ∷ []) a.view.core.weaks a b
      → Keeps 0 0 (without s b.view.core.owned) b.view.core.weaks b c
      → Keeps (m + 0) (n + 0) a.view.core.owned a.view.core.weaks a c
  strong_through m n s a b c gains gives =
      keeps_then m n 0 0 _ _ _ _ _ _ a b c gains gives
      (λ x.
      let p = gains.owns x in
      let q = gains.owns s in
      let push = times_push x s a.view.core.owned in
      let here = times_push s s a.view.core.owned in
      let one = one_same s s refl in
      let fewer = times_without x s b.view.core.owned (omega (arith, q, here, one)) in
      omega (arith, p, push, fewer))
      gains.weakly
      (λ x was is.
      let push = times_push x s a.view.core.owned in
      held_on m n _ _ a b gains x (omega (arith, push)) (omega arith) was)

pub keeps_weak_drop : {P V W : Type 0} (fits : List ℕ → Type 0) (d : DomainState P) (s : SlotId)
    (a b : SeatState W) (old new : SeatState V) → a.view.core ≡ old.view.core
    → b.view.core ≡ new.view.core → DropsWeak fits d s a b
    → KnowsStill (without_weak s old.view.core) old new
    → Keeps 0 0 old.view.core.owned (without s old.view.core.weaks) old new
keeps_weak_drop fits d s a b old new same later drops knows =
    weakly_gave_up s (weakly_dropped_by s drops.0) old new
    (sym later ∙ drops.1.core
    ∙ ap (λ (v : CoreView). record (without_weak s v) {
      trail = v.trail ++ weakly_dropped_by s drops.0;
    }) same)
    knows

pub keeps_drop : {P V W : Type 0} (fits : List ℕ → Type 0) (d : DomainState P) (s : SlotId)
    (a b : SeatState W) (old new : SeatState V) → a.view.core ≡ old.view.core
    → b.view.core ≡ new.view.core → DropsStrong fits d s a b
    → KnowsStill (without_strong s old.view.core) old new
    → Keeps 0 0 (without s old.view.core.owned) old.view.core.weaks old new
keeps_drop fits d s a b old new same later drops knows =
    gave_up (ends drops.0) s (dropped_by s drops.0) old new
    (sym later ∙ drops.1.core
    ∙ ap (λ (v : CoreView). record (with_ended (ends drops.0) s (without_strong s v)) {
      trail = v.trail ++ dropped_by s drops.0;
    }) same)
    knows

-- what a part of a seat keeps the whole keeps
pub keeps_whole : (m n : ℕ) (os ws : List SlotId) (old new : SeatState NewsView)
    → Keeps m n os ws (seen old) (seen new) → Keeps m n os ws old new
keeps_whole m n os ws old new keeps = record {
  owns = keeps.owns;
  weakly = keeps.weakly;
  makes_used = keeps.makes_used;
  adds_used = keeps.adds_used;
  same = keeps.same;
  knows = keeps.knows;
}

-- WHICH OF BOTH a call answered
pub not_err : {T E : Type 0} (r : Result T E) (x : T) → r ≡ Ok x → IsErr r → ⊥
not_err (Ok y) x is err = absurd cc
not_err (Err e) x is err = absurd cc

pub is_err : {T E : Type 0} (r : Result T E) (e : E) → r ≡ Err e → IsErr r
is_err (Ok y) e is = absurd cc
is_err (Err f) e is = refl

pub err_as : {T E : Type 0} (r : Result T E) (e f : E) → r ≡ Err e → e ≡ f → r ≡ Err f
err_as {T = T} {E = E} r e f is same = subst (λ (x : E). r ≡ Err x) same is
