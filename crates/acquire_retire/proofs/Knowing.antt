-- What a seat knows of itself once it has read a word: the laws of the state in which it read.
use Rattle.std.proofs.Common.{◌≡◌, ℕ, ◌+◌, ◌*◌, ◌<◌, ◌≤◌, false, List, [], ◌∷◌, length, refl, ap, sym, ◌∙◌, subst, arith}
use Rattle.std.specs.Prelude.{Option, Some}
use Rattle.std.proofs.lemmas.List.Sums.{sum_by-cons}
use Rattle.atomic_table.specs.Table.{Allows, Me}
use Rattle.atomic_table.specs.declared.shared.Seat.{Seat as TableSeat}
use Rattle.plain_state.specs.declared.slot.SlotId.{SlotId}
use Rattle.plain_state.specs.Lists.{times}
use Rattle.plain_state.specs.State.{Plain}
use Rattle.core_promises.specs.core_events.declared.shape.Shape.{Shape}
use Rattle.core_promises.specs.core_events.Views.{Terms}
use Rattle.core_promises.specs.core_events.declared.view.CoreView.{CoreView}
use Rattle.core_promises.specs.core_events.Counts.{total}
use Rattle.core_promises.specs.core_events.Good.{SeatLaw, staying_room}
use Rattle.core_promises.specs.core_events.Runs.{view_at}
use Rattle.core_promises.specs.core_events.Views.{no_view, room_of}
use Rattle.core_promises.specs.core_events.Words.{word_count}
use Rattle.core_promises.specs.core_law.Sound.{Sound}
use Rattle.core_promises.proofs.Below.core_law_Always.{history_sound}
use Rattle.core_promises.proofs.Below.core_law_Kit.{total_at}
use Rattle.domain_rule.specs.declared.view.SeatView.{SeatView}
use Rattle.domain_rule.specs.Reading.{FoundIn, HasRead}
use Rattle.domain_rule.specs.Rule.{Kept}
use Rattle.domain_rule.proofs.Counting.{gone, history_counted}
use Rattle.domain_rule.proofs.Reading.{reads}
use Rattle.acquire_retire.specs.Domains.{DomainState, IsDomain, StoredDomain}
use Rattle.acquire_retire.proofs.Dying.{few_dying_in, few_ripe_in, once_dying_in}

-- no more seats have left than there are
few_gone : (vs : List CoreView) → total gone vs ≤ length vs
unfolding total
few_gone [] = omega arith
few_gone (v ∷ vs) =
    let c = sum_by-cons gone v vs in
    let r = few_gone vs in
    let one : gone v ≤ 1 = grind arith in omega arith

module _ {V : Type 0} (fits : List ℕ → Type 0) (z : Shape) (ts : Terms) (v : SeatView V)
    (i w : ℕ) (f : FoundIn fits z ts v i w) (inside : v.core.seat < z.seats) where
  sound : Sound z f.core
  sound = history_sound z ts f.events f.core f.shape f.terms f.history

  there : v.core.seat < length f.core.views
  there = let views = sound.views in omega arith

  -- the law of a seat by itself
  pub found_law : SeatLaw z v.core.seat v.core
  found_law = subst (SeatLaw z v.core.seat) (sym f.says.core) (sound.seats v.core.seat inside)

  pub found_dying : length v.core.dying ≤ z.slots
  found_dying =
      let few = few_dying_in z f.core v.core.seat sound there in
      let same = ap (λ (u : CoreView). length u.dying) f.says.core in omega arith

  pub found_once : (s : SlotId) → times s v.core.dying ≤ 1
  found_once s =
      let one = once_dying_in z f.core v.core.seat sound there s in
      let same = ap (λ (u : CoreView). times s u.dying) f.says.core in omega arith

  pub found_ripe : length v.core.ripe ≤ z.slots
  found_ripe =
      let few = few_ripe_in z f.core v.core.seat sound there in
      let same = ap (λ (u : CoreView). length u.ripe) f.says.core in omega arith

  pub found_entries : length v.core.retired + length v.core.owed ≤ v.core.room
  found_entries =
      let few = sound.room.each v.core.seat no_view there in
      let retired = ap (λ (u : CoreView). length u.retired) f.says.core in
      let owed = ap (λ (u : CoreView). length u.owed) f.says.core in
      let room = ap (λ (u : CoreView). u.room) f.says.core in omega arith

  module _ (root : v.core.seat ≡ 0) where
    root_is : v.core ≡ view_at f.core 0
    root_is = f.says.core ∙ ap (view_at f.core) root

    here : (view_at f.core 0).left ≡ false
    here = (history_counted z ts f.events f.core f.shape f.terms f.history).here

    -- seat 0 has room for no more than all seats began with
    pub found_room : v.core.room ≤ z.seats * room_of z
    found_room =
        let sum = sound.room.sum in
        let first = subst (λ (n : ℕ). n < length f.core.views) root there in
        let mine = total_at staying_room f.core.views 0 first in
        let stays : staying_room (view_at f.core 0) ≡ (view_at f.core 0).room = rw here refl in
        let room = ap (λ (u : CoreView). u.room) root_is in omega arith

    -- and at most as many have left as there are
    pub found_left : length v.core.left_seats ≤ z.seats
    found_left =
        let count = (history_counted z ts f.events f.core f.shape f.terms f.history).count in
        let few = few_gone f.core.views in
        let views = sound.views in
        let trails = ap (λ (u : CoreView). length u.left_seats) root_is in omega arith

module _ {P V : Type 0} (law : P → Plain → List V → Type 0) (first : P → ℕ → V) (gone : V)
    (fits : List ℕ → Type 0) (d : DomainState P) (site : Option (DomainState P))
    (is : site ≡ Some d) (seat : TableSeat (Unit {0}) (SeatView V)) (word : ℕ) where
  -- a load tells what it found for each domain that it is in, which is one
  abbrev Tells : ℕ → Me (Unit {0}) (SeatView V) → Type 0
  Tells w new = (x : DomainState P) → site ≡ Some x
      → HasRead fits x.shape x.terms word w seat.me.0 new.0 × (new.1 ≡ seat.me.1)

  tells : (w : ℕ) (new : Me (Unit {0}) (SeatView V))
      → HasRead fits d.shape d.terms word w seat.me.0 new.0 × (new.1 ≡ seat.me.1) → Tells w new
  tells w new read x names =
      let same : d ≡ x = cc (is, names) in
      subst (λ (y : DomainState P). HasRead fits y.shape y.terms word w seat.me.0 new.0
      × (new.1 ≡ seat.me.1)) same read

  -- what the table requires of the load
  pub read_requires : seat.table_id ≡ d.table → seat.me.0.gone ≡ false → word < word_count d.shape
      → (e : DomainState P) → e ≡ d → (kept : StoredDomain) → IsDomain e.table e.shape e.terms kept
      → (seat.table_id ≡ e.table) × (word < e.table.words)
      × Allows (Kept (law e.protocol) (first e.protocol) gone fits e.shape e.terms) e.table.slots
      seat.id seat.me word (λ w. w) Tells
  read_requires table here inside e same kept in_domain =
      let count = in_domain.words ∙ ap (λ (x : DomainState P). word_count x.shape) same in
      let T : DomainState P → Type 0 = λ x. Allows (Kept (law x.protocol) (first x.protocol) gone fits
      x.shape x.terms) e.table.slots seat.id seat.me word (λ w. w)
      (λ w new. HasRead fits d.shape d.terms word w seat.me.0 new.0 × (new.1 ≡ seat.me.1)) in
      let r = subst T (sym same) (reads (law d.protocol) (first d.protocol) gone fits d.shape d.terms
      e.table.slots seat.id word seat.me here) in (
        table ∙ sym (ap (λ (x : DomainState P). x.table) same),
        omega arith,
        λ s k len at fit.
            let t = r s k len at fit in (t.0, t.1, t.2, t.3, tells _ _ t.4),
      )
