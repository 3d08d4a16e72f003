-- What the desk's seat has after each call, and what was begun.
use Rattle.std.proofs.Common.{◌≡◌, ℕ, ◌+◌, List, [], ◌∷◌, refl, ap, sym, ◌∙◌, subst, Some}
use Rattle.std.specs.Map.{values_of}
use Rattle.std.specs.Prelude.{Result, Ok, Err, IfOk, slice_set}
use Rattle.script_desk.specs.plain_state.declared.act.PlainAct.{PlainAct}
use Rattle.script_desk.specs.plain_state.declared.act.PlainAct.TheVariants as act
use Rattle.script_desk.specs.plain_state.declared.slot.SlotId.{SlotId}
use Rattle.script_desk.specs.plain_state.State.{Plain, seat_at}
use Rattle.script_desk.specs.plain_state.Steps.{Does}
use Rattle.script_desk.specs.plain_store.Calls.{Gains, WeaklyGains}
use Rattle.script_desk.specs.plain_store.Heaps.{Makes, Owns, OwnsWeakly}
use Rattle.script_desk.specs.plain_store.Settling.{IsSettled, freed}
use Rattle.script_desk.specs.plain_store.Settling.{Settles as PlainSettles}
use Rattle.script_desk.specs.plain_settling.Settling.{Tidies, TidiesBy, TidiesTo}
use Rattle.script_desk.proofs.Below.plain_settling_Settling.{tidies_none, tidies_on}
use Rattle.lone_heap.specs.acquire_retire.Seats.{SeatState}
use Rattle.lone_heap.specs.declared.words.Words.{Words}
use Rattle.lone_heap.specs.Lone.{IsReady, ThenTidies, known_plain}
use Rattle.lone_heap.specs.Words.{AreNoted}
use Rattle.script_desk.specs.script_lines.declared.command.Command.{Command}
use Rattle.script_desk.specs.declared.handle.Handle.{Handle}
use Rattle.script_desk.specs.declared.handle.Handle.TheVariants.{Strong, Weak}
use Rattle.script_desk.specs.declared.said.Said.{Said}
use Rattle.script_desk.specs.declared.said.Said.TheVariants as said
use Rattle.script_desk.specs.Desks.{Binds, Desk, Maker, Names, Tidied, bound}
use Rattle.script_desk.specs.Effects.{Acts, MakesOne, Runs}
use Rattle.script_desk.specs.Holding.{CountsMore, HasMore, HasSame, Kept, giving}
use Rattle.script_desk.specs.Kinds.{script_payload, script_weight}
use Rattle.script_desk.proofs.Gaining.{gains_more, gives_fewer, makes_more, weakly_gains_more}
use Rattle.script_desk.proofs.Told.{kept_made, makes_told, named}
use Rattle.script_desk.proofs.Grows.{same_by}
use Rattle.script_desk.proofs.Steps.{same_as, same_then, settles_same}
use Rattle.script_desk.proofs.Sums.{has_bound, kept_fewer, kept_more, kept_same}
use Rattle.domain_desk.specs.Desks.{DeskState, IsKept, desk_of, plain_of}
use Rattle.domain_desk.specs.Runs.{Begins}

-- tidying leaves what the seat has
one_settles : (p q : Plain) (a : PlainAct) (found : ℕ) → PlainSettles p a q → Does p 0 a found q
    → HasSame p q
one_settles p q a found may does =
    settles_same script_weight p q (freed script_weight p a + 0)
    (a ∷ [], (q, found, 0, may, does, (refl, refl), refl))

tidy_step : (p q : Plain) (a : PlainAct) (found : ℕ) → Tidies p a → Does p 0 a found q → HasSame p q
tidy_step p q (act.Eject k s) found may (here, (es, l, z, e, covered)) =
    same_by p q (record (seat_at p 0) { deferred = es }) here.0 e refl refl refl
tidy_step p q act.Split found may (here, (z, (es, order, e))) =
    same_by p q (record (seat_at p 0) { deferred = es }) here.0 e refl refl refl
tidy_step p q (act.End s) found may does = one_settles p q (act.End s) found tt does
tidy_step p q (act.Clear place) found may does = one_settles p q (act.Clear place) found tt does
tidy_step p q (act.Destroy s) found may does = one_settles p q (act.Destroy s) found tt does
tidy_step p q (act.Give s) found may does = one_settles p q (act.Give s) found tt does
tidy_step p q _ found may does = absurd may

tidied_by : (acts : List PlainAct) (p q : Plain) → TidiesBy acts p q → HasSame p q
tidied_by [] p q same = same_as p q same
tidied_by (a ∷ more) p q (m, found, may, does, by) =
    same_then p m q (tidy_step p m a found may does) (tidied_by more m q by)

pub tidied_same : (p q : Plain) → TidiesTo p q → HasSame p q
tidied_same p q by = tidied_by by.0 p q by.1

-- after a call the seat is ready, and under the snapshots that it was under
abbrev pub IsStill : {P : Type 0} → DeskState P → SeatState (Unit {0}) → Type 0
IsStill i seat = IsReady i.domain seat × (seat.view.core.notes ≡ i.seat.view.core.notes)

module _ {P : Type 0} (i d : DeskState P) (is : i ≡ d) (kept : IsKept d) where
  pub has_kept : IsKept i
  has_kept = subst IsKept (sym is) kept

  pub owns_strong : (name : List ℕ) (s t : SlotId) → bound d.names name ≡ Some (Strong s) → t ≡ s
      → Owns (plain_of i) t
  owns_strong name s t named same =
      subst (λ (x : SlotId). Owns (plain_of i) x) (sym same)
      (subst (λ (x : DeskState P). Owns (plain_of x) s) (sym is)
      (has_bound (plain_of d) d.names name (Strong s) kept.kept.holds named))

  pub owns_weak : (name : List ℕ) (s t : SlotId) → bound d.names name ≡ Some (Weak s) → t ≡ s
      → OwnsWeakly (plain_of i) t
  owns_weak name s t named same =
      subst (λ (x : SlotId). OwnsWeakly (plain_of i) x) (sym same)
      (subst (λ (x : DeskState P). OwnsWeakly (plain_of x) s) (sym is)
      (has_bound (plain_of d) d.names name (Weak s) kept.kept.holds named))

  pub named_so : (name : List ℕ) (h : Handle) → bound i.names name ≡ Some h
      → bound d.names name ≡ Some h
  named_so name h e = ap (λ (x : DeskState P). bound x.names name) (sym is) ∙ e

  module _ (seat : SeatState (Unit {0})) (words : Words) (names : Names)
      (ready : IsReady i.domain seat) (noted : AreNoted words seat) where
    abbrev after : DeskState P
    after = record i { seat = seat; words = words; names = names }

    of_kept : Kept (plain_of after) names i.makers i.cells i.weak_cells → IsKept after
    of_kept k = record { ready = ready; noted = noted; kept = k }

    pub kept_gained : (h : Handle) → HasMore (plain_of i) h (plain_of after)
        → CountsMore (values_of i.names) h (values_of names) → IsKept after
    kept_gained h more counts =
        of_kept (kept_more (plain_of i) i.names i.makers _ _ has_kept.kept (plain_of after) h names
        more counts)

    -- a handle that was given up, and its name
    pub kept_given : (h : Handle)
        → ThenTidies (Does (plain_of i) 0 (giving h) 0) (plain_of after)
        → CountsMore (values_of names) h (values_of i.names) → IsKept after
    kept_given h gives counts =
        let one = kept_fewer (plain_of i) i.names i.makers _ _ has_kept.kept gives.0 h names
        (gives_fewer (plain_of i) gives.0 h gives.1) counts in
        of_kept (kept_same gives.0 names i.makers _ _ one (plain_of after)
        (tidied_same gives.0 (plain_of after) gives.2))

  -- the same after a call that leaves the snapshots
  module _ (seat : SeatState (Unit {0})) (names : Names) (still : IsStill i seat) where
    abbrev later : DeskState P
    later = record i { seat = seat; names = names }

    noted_so : AreNoted i.words seat
    noted_so = still.1 ∙ has_kept.noted

    pub still_kept : Kept (plain_of later) names i.makers i.cells i.weak_cells → IsKept later
    still_kept = of_kept seat i.words names still.0 noted_so

    pub kept_with : HasSame (plain_of i) (plain_of later) → names ≡ i.names → IsKept later
    kept_with same names_are =
        still_kept (subst (λ (ns : Names). Kept (plain_of later) ns i.makers i.cells i.weak_cells)
        (sym names_are)
        (kept_same (plain_of i) i.names i.makers _ _ has_kept.kept (plain_of later) same))

    pub still_gained : (h : Handle) → HasMore (plain_of i) h (plain_of later)
        → CountsMore (values_of i.names) h (values_of names) → IsKept later
    still_gained = kept_gained seat i.words names still.0 noted_so

    pub kept_strong : (s t u v : SlotId) → Gains (plain_of i) s t (plain_of later) → u ≡ t → v ≡ u
        → CountsMore (values_of i.names) (Strong v) (values_of names) → IsKept later
    kept_strong s t u v gains first second counts =
        still_gained (Strong v)
        (subst (λ (x : SlotId). HasMore (plain_of i) (Strong x) (plain_of later))
        (sym (second ∙ first)) (gains_more (plain_of i) (plain_of later) s t gains))
        counts

    pub kept_weak : (s t u v : SlotId) → WeaklyGains (plain_of i) s t (plain_of later) → u ≡ t
        → v ≡ u → CountsMore (values_of i.names) (Weak v) (values_of names) → IsKept later
    kept_weak s t u v gains first second counts =
        still_gained (Weak v)
        (subst (λ (x : SlotId). HasMore (plain_of i) (Weak x) (plain_of later))
        (sym (second ∙ first)) (weakly_gains_more (plain_of i) (plain_of later) s t gains))
        counts

  -- an object that was made, and its maker
  module _ (seat : SeatState (Unit {0})) (names : Names) (still : IsStill i seat)
      (payload : List ℕ) (s u v : SlotId)
      (makes : Makes (plain_of i) s payload (known_plain i.domain seat)) (first : u ≡ s)
      (second : v ≡ u) (at : SlotId) (third : at ≡ v) (maker : Maker) (count : ℕ) where
    abbrev made : DeskState P
    made = record i {
      seat = seat;
      names = names;
      makers = slice_set i.makers at.0 maker;
      makes = count;
    }

    of_hand : v ≡ s
    of_hand = second ∙ first

    pub made_kept : CountsMore (values_of i.names) (Strong v) (values_of names) → IsKept made
    made_kept counts =
        let more = subst (λ (x : SlotId). HasMore (plain_of i) (Strong x) (plain_of made))
        (sym of_hand) (makes_more (plain_of i) (plain_of made) s payload makes) in
        record {
          ready = still.0;
          noted = noted_so seat names still;
          kept =
              kept_made (plain_of made) names i.makers _ _ at.0 maker
              (kept_more (plain_of i) i.names i.makers _ _ has_kept.kept (plain_of made) (Strong v)
              names more counts);
        }

    pub made_told : (name : List ℕ) (weight : ℕ) → payload ≡ script_payload weight
        → Binds i.names name (Some (Strong v)) names → count ≡ i.makes + 1
        → maker ≡ named i.makes name → MakesOne (desk_of d) name weight said.Made (desk_of made)
    made_told name weight is_payload binds next is_maker =
        makes_told (plain_of i) i.names i.makers i.makes (desk_of d) (ap desk_of is) _ _
        has_kept.kept name weight payload s (plain_of made) (plain_of made) names at count maker
        makes is_payload refl
        (subst (λ (x : SlotId). Binds i.names name (Some (Strong x)) names) of_hand binds)
        (third ∙ of_hand) next is_maker

  -- a settle
  module _ (seat : SeatState (Unit {0})) (still : IsStill i seat)
      (tidies : TidiesTo (plain_of i) (known_plain i.domain seat)) where
    abbrev settled : DeskState P
    settled = record i { seat = seat }

    pub settle_kept : IsKept settled
    settle_kept =
        still_kept seat i.names still
        (kept_same (plain_of i) i.names i.makers _ _ has_kept.kept (plain_of settled)
        (tidied_same (plain_of i) (plain_of settled) tidies))

-- a command that made its row alone has begun so
acts_begin : (d : Desk) (c : Command) (answer : Said) (e : Desk) → Acts d c answer e
    → Begins d c answer e
acts_begin d c answer e acts = (
  e,
  acts,
  record { tidies = tidies_none e.plain e.plain refl; names = refl; makers = (refl, refl) },
)

-- the same by the command that it was, and of a call that may fail
pub acts_as : (d : Desk) (c of : Command) (answer : Said) (e : Desk) → c ≡ of → Acts d of answer e
    → Begins d c answer e
acts_as d c of answer e is acts =
    acts_begin d c answer e (subst (λ (x : Command). Acts d x answer e) (sym is) acts)

pub acts_if_ok : {E : Type 0} (d : Desk) (c of : Command) (result : Result Said E) (e : Desk)
    → c ≡ of → IfOk result (λ answer. Acts d of answer e)
    → IfOk result (λ answer. Begins d c answer e)
acts_if_ok d c of (Ok answer) e is acts = acts_as d c of answer e is acts
acts_if_ok d c of (Err refused) e is acts = acts

-- what has begun, and is tidied until nothing more may go, has run
pub begun_runs : (d : Desk) (c : Command) (answer : Said) (e f : Desk) → Begins d c answer e
    → Tidied e f → IsSettled f.plain → Runs d c answer f
begun_runs d c answer e f begins tidied settled =
    let m = begins.0 in
    let first = begins.2 in (
      m,
      begins.1,
      (
        record {
          tidies = tidies_on m.plain e.plain f.plain first.tidies tidied.tidies;
          names = tidied.names ∙ first.names;
          makers = (tidied.makers.0 ∙ first.makers.0, tidied.makers.1 ∙ first.makers.1);
        },
        settled,
      ),
    )
