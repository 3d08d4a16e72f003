-- A seat that leaves to seat 0 keeps the invariant.
use Rattle.std.proofs.Common.{◌≡◌, ◌≢◌, ℕ, ◌+◌, ◌*◌, ◌<◌, ◌≤◌, false, List, [], length, get_or, set, refl, ap, sym, ◌∙◌, arith, length-append}
use Rattle.std.proofs.lemmas.List.Elements.{All-set}
use Rattle.std.proofs.lemmas.List.Sums.{sum_by_push}
use Rattle.core_events.specs.plain_state.declared.slot.Kind.{Kind}
use Rattle.core_events.specs.plain_state.declared.slot.Kind.TheVariants.{Strong, Weak, Disposal}
use Rattle.core_events.specs.plain_state.declared.slot.SlotId.{SlotId}
use Rattle.core_events.specs.plain_state.Lists.{times}
use Rattle.core_events.specs.declared.act.Act.TheVariants as act
use Rattle.core_events.specs.declared.outcome.Outcome.TheVariants as outcome
use Rattle.core_events.specs.declared.shape.Shape.{Shape}
use Rattle.core_events.specs.declared.view.CoreView.{CoreView}
use Rattle.core_events.specs.declared.view.LeftSeat.{LeftSeat}
use Rattle.core_events.specs.declared.view.Note.{Note}
use Rattle.core_events.specs.declared.view.Note.TheVariants as note
use Rattle.core_events.specs.Views.{no_view, room_of}
use Rattle.core_events.specs.Steps.{CanLeave, noted}
use Rattle.core_events.specs.Runs.{Core, view_at, taken_over, left_behind}
use Rattle.core_events.specs.Counts.{total, listed, finishing, helping, baring, filling, giving, guarding, waiting, ticket_times, number_times}
use Rattle.core_events.specs.Good.{SeatLaw, staying_room, word_of_note}
use Rattle.core_law.specs.Slots.{numbers}
use Rattle.core_law.specs.Sound.{Sound}
use Rattle.core_law.proofs.Kit.{entry_append, entry_none, times_append, times_none}
use Rattle.core_law.proofs.SlotSame.{slot_same}
use Rattle.core_law.proofs.Steady.{nothing_seen}
use Rattle.core_law.proofs.Guards.{guards_all}
use Rattle.core_law.proofs.Joined.{parts, at0, atj, joined_length, two, by_seat}

no_number : (t : ℕ) → number_times t [] ≡ 0
unfolding number_times
no_number t = refl

module _ (root v : CoreView) where
  -- the law of seat 0 by itself holds then
  pub taken_law : (z : Shape) (j : ℕ) → SeatLaw z 0 root → SeatLaw z j v → root.left ≡ false
      → SeatLaw z 0 (noted (act.Leave j) outcome.Plain (taken_over root v))
  taken_law z j law0 lawj here = record {
    number = law0.number;
    same_shape = law0.same_shape;
    quota = law0.quota;
    adds = law0.adds;
    makes = law0.makes;
    can_start = law0.can_start;
    four = law0.four;
    scans = law0.scans;
    reads = law0.reads;
    owes_nothing = law0.owes_nothing;
    ripe = λ s.
        let a = law0.ripe s in let b = lawj.ripe s in let p = parts root v s in omega arith;
    kinds = λ s.
        let a = law0.kinds s in
        let b = lawj.kinds s in
        let p = (parts root v s).retired Disposal in omega arith;
    range = λ s le.
        let a = law0.range s le in
        let b = lawj.range s le in
        let p = parts root v s in
        let ps = p.retired Strong in
        let pw = p.retired Weak in
        let pd = p.retired Disposal in omega arith;
    gone = λ e. absurd (cc (here, e));
  }

module _ (z : Shape) (c : Core) (so : Sound z c) (j : ℕ) (other : j ≢ 0) (hj : j < z.seats)
    (can0 : CanLeave (view_at c 0)) (canj : CanLeave (view_at c j)) where
  abbrev root : CoreView
  root = view_at c 0

  abbrev v : CoreView
  v = view_at c j

  abbrev root' : CoreView
  root' = noted (act.Leave j) outcome.Plain (taken_over (view_at c 0) (view_at c j))

  abbrev v' : CoreView
  v' = left_behind (view_at c j)

  abbrev views' : List CoreView
  views' = set (set c.views 0 (noted (act.Leave j) outcome.Plain
      (taken_over (view_at c 0) (view_at c j)))) j (left_behind (view_at c j))

  law0 : SeatLaw z 0 root
  law0 = let s = so.shape.0 in so.seats 0 (omega arith)

  lawj : SeatLaw z j v
  lawj = so.seats j hj

  seen0 : root.seen ≡ []
  seen0 = nothing_seen z 0 root law0 (λ e. absurd (cc (can0.0.0, e)))

  seenj : v.seen ≡ []
  seenj = nothing_seen z j v lawj (λ e. absurd (cc (canj.0.0, e)))

  both : (f : CoreView → ℕ) → f root' + f v' ≡ f root + f v → total f views' ≡ total f c.views
  both f e = two z c so j other hj f e

  left_seat : SeatLaw z j v'
  left_seat = record {
    number = lawj.number;
    same_shape = lawj.same_shape;
    quota = lawj.quota;
    adds = lawj.adds;
    makes = λ l. absurd (cc (l));
    can_start = lawj.can_start;
    four = lawj.four;
    scans = lawj.scans;
    reads = lawj.reads;
    owes_nothing = lawj.owes_nothing;
    ripe = λ s. omega arith;
    kinds = λ s.
        let a = lawj.kinds s in let n = entry_none Disposal s in omega arith;
    range = λ s le.
        let b = lawj.range s le in
        let p = parts root v s in
        let ns = p.no_entry Strong in
        let nw = p.no_entry Weak in
        let nd = p.no_entry Disposal in omega arith;
    gone = λ e. (canj.0.0, refl, refl, refl, canj.1, refl, canj.2);
  }

  -- what guards one kind of note
  guards_two : (a : ℕ) (k : Kind) (s : SlotId) → guarding a k s root' + guarding a k s v'
      ≡ guarding a k s root + guarding a k s v
  guards_two a k s =
      let w = guards_all a k s root seen0 in
      let x = guards_all a k s v seenj in
      let w' = guards_all a k s root' seen0 in
      let x' = guards_all a k s v' seenj in
      let m = waits k in omega arith
    where
      waits : (i : Kind) → waiting i s root' + waiting i s v' ≡ waiting i s root + waiting i s v
      waits Strong =
          let t = entry_append Strong s root.retired v.retired in
          let n = entry_none Strong s in omega arith
      waits Weak =
          let t = entry_append Weak s root.retired v.retired in
          let n = entry_none Weak s in omega arith
      waits Disposal =
          let t = times_append s root.dying v.dying in
          let n = times_none s in omega arith

  -- the tickets of the seat that leaves are kept by its number
  tickets_two : (t : ℕ) → ticket_times t root' + ticket_times t v' ≡ ticket_times t root + ticket_times t v
  tickets_two t =
      let p = sum_by_push (λ (l : LeftSeat). number_times t l.tickets) root.left_seats
      (record { seat = v.seat; trail = v.trail; tickets = v.tickets }) in
      let n = no_number t in omega arith

  room0 : length root'.retired + length root'.owed ≤ root'.room
  room0 =
      let a = so.room.each 0 no_view (at0 z c so j other hj) in
      let b = so.room.each j no_view (atj z c so j other hj) in
      let r = so.room.others j (omega arith) (atj z c so j other hj) in
      let l = length-append root.retired v.retired in
      let e = ap (λ (x : Shape). room_of x) law0.same_shape in omega arith

  pub leave_sound : Sound z (record { words = c.words; views = views' })
  leave_sound = record {
    shape = so.shape;
    words = so.words;
    views = len ∙ so.views;
    seats = λ m hm. seat (λ k u. k < z.seats → SeatLaw z k u)
        (λ _. taken_law root v z j law0 lawj can0.0.1) (λ _. left_seat)
        (λ k a b hk. so.seats k hk) m hm;
    slots = λ s hs.
        let p = parts root v s in
        let ps = p.retired Strong in
        let pw = p.retired Weak in
        let ns = p.no_entry Strong in
        let nw = p.no_entry Weak in
        let a = both (listed Strong s) (omega arith) in
        let b = both (listed Weak s) (omega arith) in
        let e = both (λ (u : CoreView). u.adds) refl in
        slot_same _ _ (numbers z c s) _ (so.slots s hs) (omega arith) (record {
          strong = refl;
          weak = refl;
          bit = refl;
          strong_refs = omega arith;
          weak_refs = omega arith;
          finishing = both (λ (u : CoreView). finishing s u.phase) refl;
          helping = both (λ (u : CoreView). helping s u.phase) refl;
          baring = both (λ (u : CoreView). baring s u.phase) refl;
          filling = both (λ (u : CoreView). filling s u.phase) refl;
          giving = both (λ (u : CoreView). giving s u.phase) refl;
          dying = both (λ (u : CoreView). times s u.dying) (omega arith);
          fields = refl;
        });
    announced = λ m i hm hi. so.announced m i (rw (← len) hm) hi
        ∙ ap (λ (ns : List Note). word_of_note (get_or ns i note.Idle)) (sym (notes_same m));
    guarded = λ m i k s hm hi valid.
        let p = so.guarded m i k s (rw (← len) hm) hi
        (ap (λ (ns : List Note). get_or ns i note.Idle) (sym (notes_same m)) ∙ valid) in
        let t = both (guarding (4 * m + i) k s) (guards_two (4 * m + i) k s) in omega arith;
    unripe = λ m i s hm hi valid.
        let p = so.unripe m i s (rw (← len) hm) hi
        (ap (λ (ns : List Note). get_or ns i note.Idle) (sym (notes_same m)) ∙ valid) in
        let r = times_append s root.ripe v.ripe in
        let n = times_none s in
        let t = both (λ (u : CoreView). times s u.ripe) (omega arith) in omega arith;
    room = record {
      each = All-set (λ (u : CoreView). length u.retired + length u.owed ≤ u.room)
          (set c.views 0 root') j v'
          (let b = so.room.each j no_view (atj z c so j other hj) in omega arith)
          (All-set (λ (u : CoreView). length u.retired + length u.owed ≤ u.room) c.views 0 root'
          room0 so.room.each);
      others = λ m pos hm. seat (λ k u. 0 < k → k < length c.views → u.room ≡ room_of z)
          (λ q. absurd (omega arith)) (λ q _. so.room.others j q (atj z c so j other hj))
          (λ k a b q hk. so.room.others k q hk) m pos (rw (← len) hm);
      sum =
          let r = so.room.others j (omega arith) (atj z c so j other hj) in
          let e = ap (λ (x : Shape). room_of x) law0.same_shape in
          let a : staying_room root ≡ root.room = rw can0.0.1 refl in
          let a' : staying_room root' ≡ root.room + room_of root.shape = rw can0.0.1 refl in
          let b : staying_room v ≡ v.room = rw canj.0.1 refl in
          both staying_room (omega arith) ∙ so.room.sum;
    };
    range = so.range;
    tickets = record {
      each = λ t. both (ticket_times t) (tickets_two t) ∙ so.tickets.each t;
      few = let e = both (λ (u : CoreView). u.adds) refl in let f = so.tickets.few in omega arith;
    };
    fit = record { fit = so.fit.fit; spare = so.fit.spare };
  }
    where
      len : length views' ≡ length c.views
      len = joined_length z c so j other hj

      seat : (P : ℕ → CoreView → Type 0) → P 0 root' → P j v'
          → ((m : ℕ) → m ≢ 0 → m ≢ j → P m (view_at c m))
          → (m : ℕ) → P m (get_or views' m no_view)
      seat P = by_seat z c so j other hj P

      notes_same : (m : ℕ) → (get_or views' m no_view).notes ≡ (view_at c m).notes
      notes_same m = seat (λ k u. u.notes ≡ (view_at c k).notes) refl refl (λ k a b. refl) m
