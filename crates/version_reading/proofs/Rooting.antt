-- The root is held, or the cell shows null, or another root.
use Rattle.std.proofs.Common.{◌≡◌, inl, inr, ℕ, suc, ◌+◌, ◌<◌, [], ◌∷◌, ◌++◌, length, refl, ap, sym, ◌∙◌, subst, arith, append_assoc}
use Rattle.std.specs.Prelude.{Err, IfErr, IfOk, IfSome, Ok, Option, Some, None, Result}
use Rattle.std.proofs.lemmas.List.{append-nil, length-set}
use Rattle.map_law.specs.plain_state.declared.act.EventPlace.TheVariants.{Cell}
use Rattle.map_law.specs.plain_state.declared.act.PlainAct.TheVariants as plain
use Rattle.map_law.specs.plain_state.declared.slot.Kind.TheVariants.{Strong}
use Rattle.map_law.specs.plain_state.declared.slot.SlotId.{SlotId}
use Rattle.map_law.specs.plain_state.Steps.{word_of}
use Rattle.map_law.specs.plain_protocol.Owns.{HasSlot, Object}
use Rattle.map_law.specs.declared.view.View.{View}
use Rattle.map_law.specs.Views.{In, note}
use Rattle.map_law.specs.Nodes.{IsNode, root}
use Rattle.map_law.specs.Lessons.{SeeTells, answer_next, see_next, seen_root}
use Rattle.map_law.proofs.Frame.{root_live}
use Rattle.map_protocol.specs.declared.law.MapLaw.{MapLaw}
use Rattle.protected_loads.specs.core_events.declared.act.Act.TheVariants as act
use Rattle.protected_loads.specs.core_events.declared.outcome.Outcome.TheVariants as outcome
use Rattle.protected_loads.specs.core_events.declared.view.CoreView.{CoreView}
use Rattle.protected_loads.specs.core_events.declared.view.Note.TheVariants as stands
use Rattle.protected_loads.specs.core_events.Shows.{show_seat, shows}
use Rattle.protected_loads.specs.core_events.Steps.{with_note}
use Rattle.protected_loads.specs.core_events.Views.{HoldsStrongly, note_of}
use Rattle.protected_loads.specs.core_events.Words.{slot_in}
use Rattle.protected_loads.specs.domain_rule.Views.{object_in, own_of}
use Rattle.protected_loads.specs.acquire_retire.Calls.{IsSameView, same_view}
use Rattle.protected_loads.specs.acquire_retire.Collecting.{move}
use Rattle.protected_loads.specs.acquire_retire.Domains.{DomainState}
use Rattle.protected_loads.specs.acquire_retire.Seats.{SeatState}
use Rattle.control_word.proofs.Below.acquire_retire_Contents.{check_on}
use Rattle.protected_loads.proofs.Below.control_word_Becoming.{walks_table}
use Rattle.protected_loads.proofs.Below.control_word_Finding.{sound_before}
use Rattle.protected_loads.proofs.Below.core_law_Lawful.{shows_lawful}
use Rattle.protected_loads.proofs.Below.core_law_ShownPlaces.{slot_word, word_slot}
use Rattle.protected_loads.proofs.Below.core_functions_Snapshots.{snapshot_at}
use Rattle.protected_loads.proofs.Noting.{written}
use Rattle.protected_loads.proofs.Telling.{content_found, four_notes, holds_has}
use Rattle.protected_loads.specs.declared.acquiring.Moved.{Moved}
use Rattle.protected_loads.specs.Loads.{FindsNull, Misses, Protects, announced_by, missed_by, protected_by}
use Rattle.version_reading.specs.Lessons.{LookTells}
use Rattle.version_reading.specs.Reading.{AtALook, HoldsRoot, IsMoved, Learns, Reads, held_by, root_by}
use Rattle.version_reading.proofs.Events.{own_has}
use Rattle.version_reading.proofs.Learning.{learns_as, learns_then, see_learns}

-- a walk of these moves that only read
module _ (d : DomainState MapLaw) (c j : ℕ) (is : c ≡ d.protocol.cell) (small : j < 4)
    (old new : SeatState View) where
  abbrev k : ℕ
  k = d.protocol.cell

  abbrev Found : SlotId → Type 0
  Found s = Protects IsNode d j (Cell c) see_next (SeeTells k) s old new

  abbrev Missed : Option SlotId → Option SlotId → Type 0
  Missed seen now = Misses IsNode d j (Cell c) see_next (SeeTells k) seen now old new

  -- NULL
  module _ (null : FindsNull IsNode d (Cell c) answer_next (LookTells k) old new) where
    null_reads : Reads old.view.core old new
    null_reads = record {
      table = walks_table IsNode d answer_next (LookTells k)
          (move (act.Look (Cell c)) (outcome.Found None) ∷ []) old new null.becomes.walks;
      moves = move (act.Look (Cell c)) (outcome.Found None) ∷ [];
      only = (tt, tt);
      core = null.becomes.core;
      cleared = null.becomes.cleared;
      learns = learns_as old.view.client new.view.client
          (ap (λ (x : SeatState View). x.view.client) null.becomes.walks.2
          ∙ null.becomes.walks.1.told.client);
    }

    pub null_look : AtALook d c (λ p. root p c ≡ None) old new
    null_look = record {
      before = old;
      after = null.becomes.walks.0;
      found = None;
      looks = null.becomes.walks.1;
      since = ([], sym (append-nil old.view.core.trail));
      till = (
        [],
        ap (λ (x : SeatState View). x.view.core.trail) null.becomes.walks.2
            ∙ sym (append-nil null.becomes.walks.0.view.core.trail),
      );
      holds = null.null;
    }

  -- THE ROOT
  module _ (s : SlotId) (found : Found s) where
    check_client : new.view.client
        ≡ see_next (own_of found.mid.view) (own_of new.view) found.mid.view.client
        (plain.Check j (Cell c)) found.checks.walks.1.word
    check_client = ap (λ (x : SeatState View). x.view.client) found.checks.walks.2
        ∙ (found.checks.walks.1.told.client
        ∙ ap (λ (x : SeatState View). see_next (own_of found.mid.view) (own_of x.view)
        found.mid.view.client (plain.Check j (Cell c)) found.checks.walks.1.word)
        (sym found.checks.walks.2))

    root_reads : Reads (with_note j (stands.Valid Strong s) old.view.core) old new
    root_reads = record {
      table = walks_table IsNode d see_next (SeeTells k)
          (move (act.Check j (Cell c)) outcome.Valid ∷ []) found.mid new found.checks.walks
          ∙ walks_table IsNode d same_view IsSameView (announced_by j (Cell c) s) old found.mid
          found.announces.becomes.walks;
      moves = protected_by j (Cell c) s;
      only = (tt, (tt, (tt, tt)));
      core = found.core;
      cleared = found.cleared;
      learns = learns_then old.view.client found.mid.view.client new.view.client
          (learns_as old.view.client found.mid.view.client found.announces.client)
          (subst (λ (u : View). Learns found.mid.view.client u) (sym check_client)
          (see_learns (own_of found.mid.view) (own_of new.view) found.mid.view.client
          (plain.Check j (Cell c)) found.checks.walks.1.word));
    }

    there : j < length old.view.core.notes
    there = let four = four_notes found.announces.becomes.walks.1.told in omega (arith, four, small)

    noted : note_of new.view.core j ≡ stands.Valid Strong s
    noted = ap (λ (u : CoreView). note_of u j) found.core
        ∙ written old.view.core j there (stands.Valid Strong s)

    held : HoldsStrongly new.view.core s
    held =
        let long = ap (λ (u : CoreView). length u.notes) found.core
        ∙ length-set old.view.core.notes j (stands.Valid Strong s) in
        let some' = snapshot_at Strong s new.view.core.notes j (omega (arith, long, there)) noted in
        omega (arith, some')

    has : HasSlot (show_seat new.view.core) s
    has = holds_has new.view.core s (omega (arith, held))

    fits : IsNode (object_in new.view s).payload
    fits =
        let told = found.checks.walks.1.told in
        let state = shows d.shape told.happened.before in
        let live = root_live state (shows_lawful d.shape told.happened.before (sound_before told)) c
        s found.there in
        subst (λ (x : Object). IsNode x.payload) (sym found.object)
        (told.happened.fact.0 s (inl live))

    word : found.checks.walks.1.word ≡ suc s.0
    word =
        let told = found.checks.walks.1.told in
        let holds : slot_in found.checks.walks.1.word ≡ Some s =
        sym (content_found told (Cell c) (check_on d.shape j (Cell c))) ∙ found.there in
        let e : s.0 + 1 ≡ found.checks.walks.1.word =
        ap word_of (sym holds) ∙ word_slot found.checks.walks.1.word in omega (arith, e)

    solid : In (note s (object_in new.view s).life) new.view.client.solid
    solid =
        subst (λ (u : View). In (note s (object_in new.view s).life) u.solid)
        (sym (check_client
        ∙ (ap (λ (w : ℕ). see_next (own_of found.mid.view) (own_of new.view) found.mid.view.client
        (plain.Check j (Cell c)) w) word
        ∙ ap (λ (o : Option Object). seen_root s o found.mid.view.client)
        (own_has new.view s has))))
        (inl refl)

    pub holds_root : HoldsRoot c j s old new
    holds_root = record {
      held = noted;
      node = record { held = held; node = fits; solid = solid };
      saw = record {
        before = [];
        event = move (act.Look (Cell c)) (outcome.Found (Some s));
        after = move (act.Announce j Strong s) outcome.Plain
            ∷ move (act.Check j (Cell c)) outcome.Valid ∷ [];
        trail = ap (λ (u : CoreView). u.trail) found.core;
        showed = inl (Some s, refl, refl);
      };
    }

  -- ANOTHER ROOT
  module _ (seen now : Option SlotId) (missed : Missed seen now) where
    missed_client : new.view.client
        ≡ see_next (own_of missed.mid.view) (own_of missed.late.view) missed.mid.view.client
        (plain.Check j (Cell c)) missed.checks.walks.1.word
    missed_client = missed.client
        ∙ (ap (λ (x : SeatState View). x.view.client) missed.checks.walks.2
        ∙ (missed.checks.walks.1.told.client
        ∙ ap (λ (x : SeatState View). see_next (own_of missed.mid.view) (own_of x.view)
        missed.mid.view.client (plain.Check j (Cell c)) missed.checks.walks.1.word)
        (sym missed.checks.walks.2)))

    missed_reads : Reads old.view.core old new
    missed_reads = record {
      table = walks_table IsNode d same_view IsSameView
          (move (act.Release j) outcome.Plain ∷ []) missed.late new missed.releases.walks
          ∙ (walks_table IsNode d see_next (SeeTells k)
          (move (act.Check j (Cell c)) (outcome.Moved now) ∷ []) missed.mid missed.late
          missed.checks.walks
          ∙ walks_table IsNode d same_view IsSameView (announced_by j (Cell c) missed.slot) old
          missed.mid missed.announces.becomes.walks);
      moves = missed_by j (Cell c) missed.slot now;
      only = (tt, (tt, (tt, (tt, tt))));
      core = missed.core;
      cleared = missed.cleared;
      learns = learns_then old.view.client missed.mid.view.client new.view.client
          (learns_as old.view.client missed.mid.view.client missed.announces.client)
          (subst (λ (u : View). Learns missed.mid.view.client u) (sym missed_client)
          (see_learns (own_of missed.mid.view) (own_of missed.late.view) missed.mid.view.client
          (plain.Check j (Cell c)) missed.checks.walks.1.word));
    }

    pub is_moved : IsMoved c (word_of seen) (word_of now) old new
    is_moved = record {
      differ = λ same. missed.differ
          (sym (slot_word now) ∙ (ap slot_in (sym same) ∙ slot_word seen));
      middle = old.view.core.trail ++ announced_by j (Cell c) missed.slot;
      saw = record {
        before = [];
        event = move (act.Look (Cell c)) (outcome.Found (Some missed.slot));
        after = move (act.Announce j Strong missed.slot) outcome.Plain ∷ [];
        trail = refl;
        showed = inl (Some missed.slot, ap word_of missed.found, refl);
      };
      sees = record {
        before = [];
        event = move (act.Check j (Cell c)) (outcome.Moved now);
        after = move (act.Release j) outcome.Plain ∷ [];
        trail = ap (λ (u : CoreView). u.trail) missed.core
            ∙ sym (append_assoc old.view.core.trail (announced_by j (Cell c) missed.slot)
            (move (act.Check j (Cell c)) (outcome.Moved now)
            ∷ move (act.Release j) outcome.Plain ∷ []));
        showed = inr (j, now, refl, refl);
      };
    }

  -- ALL that it answers
  pub all_held : (r : Result (Option SlotId) Moved)
      → IfOk r (λ found. IfSome found Found)
      → IfOk r (λ found. IfSome found (λ s. HoldsRoot c j s old new))
  all_held (Ok None) h = tt
  all_held (Ok (Some s)) h = holds_root s h
  all_held (Err moved) h = tt

  pub all_moved : (r : Result (Option SlotId) Moved)
      → IfErr r (λ moved. Missed moved.seen moved.now)
      → IfErr r (λ moved. IsMoved c (word_of moved.seen) (word_of moved.now) old new)
  all_moved (Ok found) h = tt
  all_moved (Err moved) h = is_moved moved.seen moved.now h

  pub all_reads : (r : Result (Option SlotId) Moved)
      → (r ≡ Ok None → FindsNull IsNode d (Cell c) answer_next (LookTells k) old new)
      → IfOk r (λ found. IfSome found Found)
      → IfErr r (λ moved. Missed moved.seen moved.now)
      → Reads (held_by j (root_by r) old.view.core) old new
  all_reads (Ok None) null found missed = null_reads (null refl)
  all_reads (Ok (Some s)) null found missed = root_reads s found
  all_reads (Err moved) null found missed = missed_reads moved.seen moved.now missed
