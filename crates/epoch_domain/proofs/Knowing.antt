-- What a seat knows of itself once it has read a word: the laws of the state in which it read.
use Rattle.std.proofs.Common.{◌≡◌, ◌≢◌, ⊎_elim, ℕ, zero, ◌+◌, ◌<◌, ◌≤◌, Bool, false, List, [], ◌∷◌, length, get_or, refl, ap, sym, ◌∙◌, subst, arith}
use Rattle.std.specs.Prelude.{All, Option, Some, if◌then◌else◌}
use Rattle.std.proofs.lemmas.Bool.{cases_eq}
use Rattle.std.proofs.lemmas.List.Elements.{All-append}
use Rattle.std.proofs.lemmas.List.Sums.{sum_by-cons}
use Rattle.atomic_table.specs.Table.{Allows, Me}
use Rattle.atomic_table.specs.declared.shared.Seat.{Seat as TableSeat}
use Rattle.epoch_rule.specs.plain_protocol.plain_state.State.{Plain}
use Rattle.epoch_rule.specs.epoch_core.core_events.declared.shape.Quota.{Quota}
use Rattle.epoch_rule.specs.epoch_core.declared.act.EpochAct.{EpochAct}
use Rattle.epoch_rule.specs.epoch_core.declared.act.EpochAct.TheVariants as act
use Rattle.epoch_rule.specs.epoch_core.declared.act.EpochEvent.{EpochEvent}
use Rattle.epoch_rule.specs.epoch_core.declared.shape.EpochShape.{EpochShape}
use Rattle.epoch_rule.specs.epoch_core.declared.view.EpochView.{EpochView}
use Rattle.epoch_rule.specs.epoch_core.declared.view.LeftEpochSeat.{LeftEpochSeat}
use Rattle.epoch_rule.specs.epoch_core.Counts.{total}
use Rattle.epoch_rule.specs.epoch_core.Runs.{AreQuotas, Core, Enabled, History, IsShape, after, found, start, view_at}
use Rattle.epoch_rule.specs.epoch_core.Sound.{SeatLaw, Sound}
use Rattle.epoch_rule.specs.epoch_core.Views.{no_view}
use Rattle.epoch_rule.specs.epoch_core.Words.{word_count}
use Rattle.epoch_core.proofs.Keeps.{history_sound}
use Rattle.epoch_core.proofs.ShownLeaves.{leave_shows}
use Rattle.epoch_rule.specs.declared.view.EpochSeatView.{EpochSeatView}
use Rattle.epoch_rule.specs.Reading.{FoundIn, HasRead}
use Rattle.epoch_rule.specs.Rule.{Kept}
use Rattle.epoch_rule.proofs.Counting.{gone, history_counted}
use Rattle.epoch_rule.proofs.Reading.{reads}
use Rattle.epoch_rule.proofs.Views.{changed_left, is_leave, other_after, root_after, view_after}
use Rattle.epoch_domain.specs.Domains.{DomainState, IsDomain, StoredDomain}
use Rattle.epoch_domain.specs.Leavings.{HasLeft}
use Rattle.epoch_domain.proofs.Few.{few_dying_in}

-- HOW MANY SEATS HAVE LEFT
few_gone : (vs : List EpochView) → total gone vs ≤ length vs
unfolding total
few_gone [] = omega arith
few_gone (v ∷ vs) =
    let c = sum_by-cons gone v vs in
    let r = few_gone vs in
    let one : gone v ≤ 1 = grind arith in omega arith

-- fewer than there are, where the first is there
few_others : (vs : List EpochView) → 0 < length vs → (get_or vs 0 no_view).left ≡ false
    → total gone vs + 1 ≤ length vs
unfolding total
few_others [] some_seat here = absurd (omega arith)
few_others (v ∷ vs) some_seat here =
    let c = sum_by-cons gone v vs in
    let r = few_gone vs in
    let none : gone v ≡ 0 = ap (λ (b : Bool). if b then 1 else 0) here in omega arith

-- THE SEATS THAT HAVE LEFT
-- each seat of which seat 0 keeps what it left has left, by one of these events
abbrev AreLeavers : EpochShape → List Quota → List EpochEvent → Core → Type 0
AreLeavers z qs es c =
    All (λ (l : LeftEpochSeat). HasLeft z qs es l.seat) (view_at c 0).left_seats

none_first : (z : EpochShape) (qs : List Quota) → AreLeavers z qs [] (start z qs)
none_first z [] k l h = absurd (omega (arith, h))
none_first z (q ∷ qs) k l h = absurd (omega (arith, h))

module _ (z : EpochShape) (qs : List Quota) (es : List EpochEvent) (c : Core) (so : Sound z c)
    (history : History z qs es c) (k : AreLeavers z qs es c) where
  -- they have left by one event more
  abbrev StillLeft : EpochEvent → List LeftEpochSeat → Type 0
  StillLeft e ls = All (λ (l : LeftEpochSeat). HasLeft z qs (e ∷ es) l.seat) ls

  still : (e : EpochEvent) (j : ℕ) → HasLeft z qs es j → HasLeft z qs (e ∷ es) j
  still e j h = record {
    since = e ∷ h.since;
    before = h.before;
    core = h.core;
    are = ap (λ (xs : List EpochEvent). e ∷ xs) h.are;
    history = h.history;
    enabled = h.enabled;
    shows = h.shows;
  }

  stays : (e : EpochEvent) → StillLeft e (view_at c 0).left_seats
  stays e i l h = still e _ (k i l h)

  plain_leavers : (n : ℕ) (a : EpochAct) → n < length c.views
      → ((j : ℕ) → a ≡ act.Leave j → ⊥)
      → AreLeavers z qs (record { seat = n; act = a } ∷ es) (after z c n a)
  plain_leavers n a there single =
      let e : EpochEvent = record { seat = n; act = a } in ⊎_elim
      (λ (first : n ≡ 0).
      let same = (changed_left z a (found z c n a) (view_at c n)).left_seats in
      let now = view_after z c n a there single in
      subst (StillLeft e) (sym (ap (λ (m : ℕ). (view_at (after z c n a) m).left_seats) (sym first)
      ∙ (ap (λ (v : EpochView). v.left_seats) now
      ∙ (same ∙ ap (λ (m : ℕ). (view_at c m).left_seats) first)))) (stays e))
      (λ (later : n ≢ 0).
      let now = other_after z c n a there single 0 (λ e. later (sym e)) in
      subst (StillLeft e) (sym (ap (λ (v : EpochView). v.left_seats) now)) (stays e))
      (cases_eq n 0)

  leave_leavers : (j : ℕ) → j ≢ 0 → j < z.seats → Enabled z c 0 (act.Leave j)
      → AreLeavers z qs (record { seat = 0; act = act.Leave j } ∷ es) (after z c 0 (act.Leave j))
  leave_leavers j other there on =
      let now = root_after z c so j other there in
      subst (StillLeft e) (sym (ap (λ (v : EpochView). v.left_seats) now))
      (All-append (λ (l : LeftEpochSeat). HasLeft z qs (e ∷ es) l.seat) (view_at c 0).left_seats
      (leaver ∷ []) (stays e) last)
    where
      e : EpochEvent
      e = record { seat = 0; act = act.Leave j }

      leaver : LeftEpochSeat
      leaver = record { seat = (view_at c j).seat; trail = (view_at c j).trail }

      left_now : HasLeft z qs (e ∷ es) j
      left_now = record {
        since = [];
        before = es;
        core = c;
        are = refl;
        history = history;
        enabled = on;
        shows = leave_shows z c 0 j so on;
      }

      last : StillLeft e (leaver ∷ [])
      last zero l h = subst (HasLeft z qs (e ∷ es)) (sym (so.seats j there).number) left_now
      last i l h = absurd (omega (arith, h))

  step_leavers : (n : ℕ) (a : EpochAct) → Enabled z c n a
      → AreLeavers z qs (record { seat = n; act = a } ∷ es) (after z c n a)
  step_leavers n a on = ⊎_elim
      (λ (l : (j : ℕ) × (a ≡ act.Leave j)).
      subst (λ (b : EpochAct). AreLeavers z qs (record { seat = n; act = b } ∷ es) (after z c n b))
      (sym l.1) (leaves l.0 (subst (λ (b : EpochAct). Enabled z c n b) l.1 on)))
      (λ (single : (j : ℕ) → a ≡ act.Leave j → ⊥). plain_leavers n a on.0 single)
      (is_leave a)
    where
      leaves : (j : ℕ) → Enabled z c n (act.Leave j)
          → AreLeavers z qs (record { seat = n; act = act.Leave j } ∷ es) (after z c n (act.Leave j))
      leaves j may =
          let views = so.views in
          let here = may.0 in
          let number = (so.seats n (omega arith)).number in
          let first = may.1.0 in
          let root : n ≡ 0 = omega arith in
          subst (λ (m : ℕ). AreLeavers z qs (record { seat = m; act = act.Leave j } ∷ es)
          (after z c m (act.Leave j))) (sym root)
          (leave_leavers j may.1.1 may.1.2
          (subst (λ (m : ℕ). Enabled z c m (act.Leave j)) root may))

history_leavers : (z : EpochShape) (qs : List Quota) (es : List EpochEvent) (c : Core) → IsShape z
    → AreQuotas z qs → History z qs es c → AreLeavers z qs es c
history_leavers z qs [] c shape quotas h = subst (AreLeavers z qs []) (sym h) (none_first z qs)
history_leavers z qs (e ∷ es) c shape quotas h = subst (AreLeavers z qs (e ∷ es)) (sym h.2.1)
    (step_leavers z qs es h.0 (history_sound z qs es h.0 shape quotas h.1) h.1
    (history_leavers z qs es h.0 shape quotas h.1) e.seat e.act h.2.0)

-- WHAT A LOAD TELLS
module _ {V : Type 0} (fits : List ℕ → Type 0) (z : EpochShape) (qs : List Quota) (v : EpochSeatView V)
    (i w : ℕ) (f : FoundIn fits z qs v i w) (inside : v.core.seat < z.seats) where
  sound : Sound z f.core
  sound = history_sound z qs f.events f.core f.shape f.quotas f.history

  there : v.core.seat < length f.core.views
  there = let views = sound.views in omega arith

  -- the law of a seat by itself
  pub found_law : SeatLaw z v.core.seat v.core
  found_law = subst (SeatLaw z v.core.seat) (sym f.says.core) (sound.seats v.core.seat inside)

  pub found_dying : length v.core.dying ≤ z.slots
  found_dying =
      let few = few_dying_in z f.core v.core.seat sound there in
      let same = ap (λ (u : EpochView). length u.dying) f.says.core in omega arith

  module _ (root : v.core.seat ≡ 0) where
    root_is : v.core ≡ view_at f.core 0
    root_is = f.says.core ∙ ap (view_at f.core) root

    -- fewer seats have left than there are
    pub found_left : length v.core.left_seats + 1 ≤ z.seats
    found_left =
        let counted = history_counted z qs f.events f.core f.shape f.quotas f.history in
        let count = counted.count in
        let views = sound.views in
        let here = there in
        let few = few_others f.core.views (omega arith) counted.here in
        let trails = ap (λ (u : EpochView). length u.left_seats) root_is in omega arith

    -- and each by one of the events
    pub found_leavers : All (λ (l : LeftEpochSeat). HasLeft z qs f.events l.seat) v.core.left_seats
    found_leavers =
        subst
        (λ (u : EpochView). All (λ (l : LeftEpochSeat). HasLeft z qs f.events l.seat) u.left_seats)
        (sym root_is) (history_leavers z qs f.events f.core f.shape f.quotas f.history)

module _ {P V : Type 0} (law : P → Plain → List V → Type 0) (first : P → ℕ → V) (gone : V)
    (fits : List ℕ → Type 0) (d : DomainState P) (site : Option (DomainState P))
    (is : site ≡ Some d) (seat : TableSeat (Unit {0}) (EpochSeatView V)) (word : ℕ) where
  -- a load tells what it found for each domain that it is in, which is one
  abbrev Tells : ℕ → Me (Unit {0}) (EpochSeatView V) → Type 0
  Tells w new = (x : DomainState P) → site ≡ Some x
      → HasRead fits x.shape x.quotas word w seat.me.0 new.0 × (new.1 ≡ seat.me.1)

  tells : (w : ℕ) (new : Me (Unit {0}) (EpochSeatView V))
      → HasRead fits d.shape d.quotas word w seat.me.0 new.0 × (new.1 ≡ seat.me.1) → Tells w new
  tells w new read x names =
      let same : d ≡ x = cc (is, names) in
      subst (λ (y : DomainState P). HasRead fits y.shape y.quotas word w seat.me.0 new.0
      × (new.1 ≡ seat.me.1)) same read

  -- what the table requires of the load
  pub read_requires : seat.table_id ≡ d.table → seat.me.0.gone ≡ false → word < word_count d.shape
      → (e : DomainState P) → e ≡ d → (kept : StoredDomain) → IsDomain e.table e.shape e.quotas kept
      → (seat.table_id ≡ e.table) × (word < e.table.words)
      × Allows (Kept (law e.protocol) (first e.protocol) gone fits e.shape e.quotas) e.table.slots
      seat.id seat.me word (λ w. w) Tells
  read_requires table here inside e same kept in_domain =
      let count = in_domain.words ∙ ap (λ (x : DomainState P). word_count x.shape) same in
      let T : DomainState P → Type 0 = λ x. Allows (Kept (law x.protocol) (first x.protocol) gone fits
      x.shape x.quotas) e.table.slots seat.id seat.me word (λ w. w)
      (λ w new. HasRead fits d.shape d.quotas word w seat.me.0 new.0 × (new.1 ≡ seat.me.1)) in
      let r = subst T (sym same) (reads (law d.protocol) (first d.protocol) gone fits d.shape d.quotas
      e.table.slots seat.id word seat.me here) in (
        table ∙ sym (ap (λ (x : DomainState P). x.table) same),
        omega arith,
        λ s k len at fit.
            let t = r s k len at fit in (t.0, t.1, t.2, t.3, tells _ _ t.4),
      )
