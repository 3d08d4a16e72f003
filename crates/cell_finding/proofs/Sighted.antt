-- What a look at a cell shows, and what it tells of a walk that has come there, or around.
use Rattle.std.proofs.Common.{◌≡◌, ◌≢◌, inl, inr, ℕ, zero, suc, ◌+◌, ◌-◌, ◌<◌, List, [], ◌∷◌, ◌++◌, length, refl, sym, ap, subst, ◌∙◌, arith}
use Rattle.std.specs.Prelude.{false, Option, Some, None, IfSome, IsNone}
use Rattle.cell_calls.specs.Cells.{IsOver, area_of}
use Rattle.cell_calls.specs.Keeping.{Learns}
use Rattle.cell_calls.specs.cell_law.Cells.{IsNew, NoRecord, cell}
use Rattle.cell_calls.specs.cell_law.Lessons.{LookReady, LookTells, first_of, look_next}
use Rattle.cell_calls.specs.cell_law.Making.{sees}
use Rattle.cell_calls.specs.cell_law.Views.{TellsNone, bound_in, sight}
use Rattle.cell_law.specs.declared.view.Sight.{Sight}
use Rattle.cell_law.specs.declared.view.View.{View}
use Rattle.cell_calls.specs.cell_law.Walks.{Walked, last_of, last_sight, payloads}
use Rattle.cell_calls.specs.cell_law.directory_law.Cells.{Area, on}
use Rattle.cell_calls.specs.cell_law.directory_law.Payloads.{Text}
use Rattle.cell_calls.specs.cell_law.directory_law.Views.{Each, In}
use Rattle.directory_law.specs.declared.view.Rope.{Rope}
use Rattle.cell_calls.specs.cell_protocol.declared.law.CellLaw.{CellLaw}
use Rattle.cell_law.proofs.InTurn.{walk_stays}
use Rattle.directory_law.proofs.Kit.{false≢true}
use Rattle.directory_law.proofs.Walks.{covers}
use Rattle.epoch_domain.specs.plain_protocol.plain_state.declared.act.EventPlace.TheVariants.{Cell}
use Rattle.epoch_domain.specs.plain_protocol.plain_state.declared.act.PlainAct.TheVariants as plain
use Rattle.epoch_domain.specs.plain_protocol.plain_state.declared.slot.SlotId.{SlotId}
use Rattle.epoch_domain.specs.plain_protocol.plain_state.Places.{content}
use Rattle.epoch_domain.specs.plain_protocol.plain_state.State.{Plain}
use Rattle.epoch_domain.specs.plain_protocol.Owns.{OwnPart, own_part}
use Rattle.epoch_domain.specs.epoch_core.core_events.Words.{slot_in}
use Rattle.epoch_domain.specs.epoch_core.declared.act.EpochAct.TheVariants as act
use Rattle.epoch_domain.specs.epoch_core.declared.outcome.EpochOutcome.TheVariants as outcome
use Rattle.epoch_domain.specs.epoch_rule.Views.{own_of}
use Rattle.epoch_domain.specs.Calls.{Steps}
use Rattle.epoch_domain.specs.Domains.{DomainState}
use Rattle.epoch_domain.specs.Seats.{SeatState}
use Rattle.cell_finding.specs.Comparing.{IsAlong, sighted}
use Rattle.cell_finding.specs.Finding.{ComesToNull, GoesAround, IsNullOn, IsOnWalk}
use Rattle.cell_finding.specs.Looking.{HasSeen, OnlyLooks}
use Rattle.cell_finding.proofs.Looks.{look_few, look_keeps, look_sees}
use Rattle.cell_finding.proofs.Past.{past_walked}
use Rattle.cell_finding.proofs.Shown.{at_step, cell_shows, objects_told, slot_is, state, word_is, word_null, word_some}
use Rattle.cell_finding.proofs.Walking.{walk_still}

-- a look at a cell of the range is ready
pub look_ready : (law : CellLaw) (own : OwnPart) (v : View) (i : ℕ) → law.first ≡ 0
    → i < law.cells → LookReady (area_of law) own v (plain.Look (Cell i))
look_ready law own v i first low = record {
  at = i;
  inside = low;
  looks = inl (ap (λ (k : ℕ). plain.Look (Cell k)) (let e : i ≡ law.first + i = omega (arith, first) in e));
}

sees_learns : (c w : ℕ) (v : View) → Learns v (sees c w v)
sees_learns c zero v = record { saw = λ e i. i; found = λ e i. i; rest = refl }
sees_learns c (suc s) v = record { saw = λ e i. inr i; found = λ e i. i; rest = refl }

-- it leaves all else
sees_lists : (c w : ℕ) (v : View) → ((sees c w v).found ≡ v.found) × ((sees c w v).bound ≡ v.bound)
    × ((sees c w v).joined ≡ v.joined) × ((sees c w v).grant ≡ v.grant)
sees_lists c zero v = (refl, refl, refl, refl)
sees_lists c (suc s) v = (refl, refl, refl, refl)

-- how a sight that is the last one is along a record
pub along_by : (head last : SlotId) (seat : SeatState View) (e : Sight) (es : List Sight)
    → seat.view.client.seen ≡ e ∷ es → seat.view.client.cleared ≡ false → e.slots ≢ []
    → first_of e.slots ≡ head → last_of e.slots ≡ last → Each (HasSeen seat.view.core) e.slots
    → IsAlong head last seat
along_by head last seat e es seen opened some first end region =
    let is : sighted seat ≡ e = ap last_sight seen in
    record {
      earlier = es;
      seen = seen ∙ ap (λ (x : Sight). x ∷ es) (sym is);
      is_open = opened;
      some_slot = subst (λ (x : Sight). x.slots ≢ []) (sym is) some;
      first_is = ap (λ (x : Sight). first_of x.slots) is ∙ first;
      last_is = ap (λ (x : Sight). last_of x.slots) is ∙ end;
      region = subst (λ (x : Sight). Each (HasSeen seat.view.core) x.slots) (sym is) region;
    }

module _ (fits : List ℕ → Type 0) (d : DomainState CellLaw) (i : ℕ) (x : Option SlotId)
    (old new : SeatState View) (over : IsOver d)
    (step : Steps fits d (look_next (area_of d.protocol)) (LookTells (area_of d.protocol))
    (act.Look (Cell i)) old new (outcome.Found x)) where
  abbrev z : Area
  z = area_of d.protocol

  pub seen_looks : OnlyLooks 1 old new
  seen_looks = record {
    keeps = look_keeps fits d (look_next z) (LookTells z) (Cell i) (outcome.Found x) old new step;
    learns = subst (λ (v : View). Learns old.view.client v) (sym step.told.client)
        (sees_learns (i - d.protocol.first) step.word old.view.client);
    few = look_few fits d (look_next z) (LookTells z) (Cell i) (outcome.Found x) old new step;
  }

  module _ (head : SlotId) (some : x ≡ Some head) (opened : old.view.client.cleared ≡ false) where
    word : step.word ≡ suc head.0
    word = word_some step.word head
        (slot_is fits d (look_next z) (LookTells z) (Cell i) x old new step ∙ some)

    client_is : new.view.client
        ≡ record old.view.client { seen = sight i head ∷ old.view.client.seen }
    client_is =
        let first = over.first in
        let e : i - d.protocol.first ≡ i = omega (arith, first) in
        step.told.client
        ∙ (ap (λ (k : ℕ). sees (i - d.protocol.first) k old.view.client) word
        ∙ ap (λ (k : ℕ). sees k (suc head.0) old.view.client) e)

    seen_is : new.view.client.seen ≡ sight i head ∷ old.view.client.seen
    seen_is = ap (λ (v : View). v.seen) client_is

    pub seen_head : IsAlong head head new × ((sighted new).cell ≡ i)
        × ((sighted new).slots ≡ head ∷ [])
    seen_head = (
      along_by head head new (sight i head) old.view.client.seen seen_is
          (ap (λ (v : View). v.cleared) client_is ∙ opened) (λ e. cc) refl refl (
            look_sees fits d (look_next z) (LookTells z) (Cell i) (outcome.Found x) old new step
                head
                (slot_is fits d (look_next z) (LookTells z) (Cell i) x old new step ∙ some),
            tt,
          ),
      ap (λ (es : List Sight). (last_sight es).cell) seen_is,
      ap (λ (es : List Sight). (last_sight es).slots) seen_is,
    )

  abbrev p : Plain
  p = state fits d (look_next z) (LookTells z) (Cell i) x old new step

  tells : LookTells z p p old.view.core.seat old.view.client new.view.client
  tells = step.told.happened.fact.2

  -- a look leaves what the view found, and what it lists
  same_lists : (new.view.client.found ≡ old.view.client.found)
      × (new.view.client.bound ≡ old.view.client.bound)
      × (new.view.client.joined ≡ old.view.client.joined)
      × (new.view.client.grant ≡ old.view.client.grant)
  same_lists =
      let same = sees_lists (i - d.protocol.first) step.word old.view.client in (
        ap (λ (v : View). v.found) step.told.client ∙ same.0,
        ap (λ (v : View). v.bound) step.told.client ∙ same.1,
        ap (λ (v : View). v.joined) step.told.client ∙ same.2,
        ap (λ (v : View). v.grant) step.told.client ∙ same.3,
      )

  untold_then : (text : Text) → TellsNone old.view.client text → TellsNone new.view.client text
  untold_then text none e i =
      none e (subst (λ (fs : List Rope). In e (fs ++ bound_in old.view.client)) same_lists.0
      (subst (λ (bs : List Rope). In e (new.view.client.found ++ bs))
      (ap (λ (bs : List Rope). bs ++ new.view.client.joined) same_lists.1
      ∙ ap (λ (js : List Rope). old.view.client.bound ++ js) same_lists.2) i))

  -- what the walk has passed it has passed by that state
  walked_there : (text : Text) (passed : ℕ) → IsOnWalk d text passed old
      → Walked z (own_part p old.view.core.seat) old.view.client text passed
  walked_there text passed walk =
      walk_stays z (own_of old.view) (own_part p old.view.core.seat) old.view.client
      old.view.client text passed (past_walked d text passed old walk.walked) (λ e was. was)
      (λ e s was in_slots some. objects_told fits d (look_next z) (LookTells z) (Cell i) x old new step s)

  -- AROUND. Every cell is on the walk, so something was seen in it
  module _ (text : Text) (walk : IsOnWalk d text d.shape.cells old) where
    seen_in : (c : ℕ) → c < z.cells
        → (e : Sight) × In e old.view.client.seen × (e.cell ≡ c) × (e.slots ≢ [])
    seen_in c h =
        let o = covers z text c h in
        let cells = over.cells in
        let low = o.1 in
        let past = walk.walked o.0 (omega (arith, cells, low)) in (
          past.0,
          past.1,
          past.2 ∙ o.2,
          λ none. past.4 text
              (sym (ap (λ (ss : List SlotId). payloads (own_of old.view) ss ++ text) none)),
        )

    new_text : IsNew z p old.view.client text
    new_text =
        let cells = over.cells in
        tells.walks text d.shape.cells walk.is_open (walked_there text d.shape.cells walk)
        (inr (omega (arith, cells)))

    pub around : GoesAround d text old new
    around = record {
      walk = walk_still d text d.shape.cells 1 old new seen_looks walk;
      none = at_step fits d (look_next z) (LookTells z) (Cell i) x old new step
          (λ q. NoRecord z q text) new_text.none;
      untold = untold_then text new_text.untold;
      spent = λ may.
          let b = ap (λ (es : List Rope). length es) same_lists.1 in
          let g = same_lists.3 in
          let cells = over.cells in
          let few = over.few in
          let null = tells.room (omega (arith, may, b, g)) (omega (arith, cells, few)) in
          let o = seen_in null.0 null.1 in
          tells.unseen walk.is_open o.0 o.1 o.3
          (ap (λ (c : ℕ). cell z p c) o.2 ∙ null.2);
    }

  module _ (none : x ≡ None) (low : i < d.shape.cells) (text : Text) (passed : ℕ)
      (at : i ≡ on (area_of d.protocol) text passed) (walk : IsOnWalk d text passed old) where
    null_here : cell z p (on z text passed) ≡ None
    null_here =
        let first = over.first in
        let e : z.first + on z text passed ≡ i = omega (arith, first, at) in
        let w = word_is fits d (look_next z) (LookTells z) (Cell i) x old new step in
        ap (λ (k : ℕ). content p (Cell k)) e
        ∙ (cell_shows d.shape step.told.happened.before i low
        ∙ (ap slot_in (sym w)
        ∙ (slot_is fits d (look_next z) (LookTells z) (Cell i) x old new step ∙ none)))

    -- it has seen no more than before
    same_view : new.view.client ≡ old.view.client
    same_view =
        step.told.client
        ∙ ap (λ (k : ℕ). sees (i - d.protocol.first) k old.view.client)
        (word_null step.word
        (slot_is fits d (look_next z) (LookTells z) (Cell i) x old new step ∙ none))

    pub null_tells : ComesToNull d text passed old new
    null_tells =
        let new_text = tells.walks text passed walk.is_open (walked_there text passed walk)
        (inl null_here) in
        record {
          walk = walk_still d text passed 1 old new seen_looks walk;
          null = at_step fits d (look_next z) (LookTells z) (Cell i) x old new step
              (IsNullOn z text passed) (null_here, new_text.none);
          untold = untold_then text new_text.untold;
          unseen = λ e i some there.
              tells.unseen walk.is_open e (subst (λ (v : View). In e v.seen) same_view i) some
              (ap (λ (c : ℕ). cell z p c) there ∙ null_here);
        }

pub head_seen : (fits : List ℕ → Type 0) (d : DomainState CellLaw) (i : ℕ) (x : Option SlotId)
    (old new : SeatState View) → IsOver d
    → Steps fits d (look_next (area_of d.protocol)) (LookTells (area_of d.protocol))
    (act.Look (Cell i)) old new (outcome.Found x)
    → old.view.client.cleared ≡ false
    → IfSome x (λ head. IsAlong head head new × ((sighted new).cell ≡ i)
    × ((sighted new).slots ≡ head ∷ []))
head_seen fits d i None old new over step opened = tt
head_seen fits d i (Some head) old new over step opened =
    seen_head fits d i (Some head) old new over step head refl opened

pub none_is : {A : Type 0} (x : Option A) → IsNone x → x ≡ None
none_is None is = refl
none_is (Some a) is = absurd (false≢true (sym is))

pub is_none_of : {A : Type 0} (x : Option A) → x ≡ None → IsNone x
is_none_of x is = subst IsNone (sym is) refl
