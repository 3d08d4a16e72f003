-- A field is loaded: a look at it, an announcement of what it holds, a check, and a reference more.
use Rattle.std.proofs.Common.{◌≡◌, ◌≢◌, inl, inr, ℕ, suc, ◌+◌, ◌<◌, List, ◌++◌, length, refl, sym, ap, subst, ◌∙◌, arith, Some, None}
use Rattle.std.specs.Prelude.{Option}
use Rattle.map_law.specs.plain_state.declared.act.EventPlace.{EventPlace}
use Rattle.map_law.specs.plain_state.declared.act.EventPlace.TheVariants.{Field}
use Rattle.map_law.specs.plain_state.declared.act.PlainAct.TheVariants as plain
use Rattle.map_law.specs.plain_state.declared.slot.Kind.TheVariants.{Strong}
use Rattle.map_law.specs.plain_state.declared.slot.SlotId.{SlotId}
use Rattle.map_law.specs.plain_state.Lists.{Entry, entry_times, times}
use Rattle.map_law.specs.plain_state.Places.{content}
use Rattle.map_law.specs.plain_protocol.Owns.{HasSlot, Object}
use Rattle.map_law.specs.declared.view.Led.{Led}
use Rattle.map_law.specs.declared.view.Shown.{Shown}
use Rattle.map_law.specs.declared.view.View.{View}
use Rattle.map_law.specs.Views.{In, note}
use Rattle.map_law.specs.Nodes.{IsNode}
use Rattle.map_law.specs.Lessons.{ReadReady, led_by, led_to, read_next, read_of}
use Rattle.map_law.specs.Making.{frozen}
use Rattle.map_law.specs.Patterns.{HasObject, kid_of}
use Rattle.slot_store.specs.core_events.declared.act.Act.TheVariants as act
use Rattle.slot_store.specs.core_events.declared.outcome.Outcome.{Outcome}
use Rattle.slot_store.specs.core_events.declared.outcome.Outcome.TheVariants as outcome
use Rattle.slot_store.specs.core_events.declared.view.CoreView.{CoreView}
use Rattle.slot_store.specs.core_events.declared.view.Note.TheVariants as stands
use Rattle.slot_store.specs.core_events.Counts.{one}
use Rattle.slot_store.specs.core_events.Runs.{after}
use Rattle.slot_store.specs.core_events.Shows.{show_seat, shows}
use Rattle.slot_store.specs.core_events.Steps.{HasRoom, IsIdle}
use Rattle.slot_store.specs.core_events.Views.{HoldsStrongly, IsReadable, note_of}
use Rattle.slot_store.specs.core_events.Words.{slot_in}
use Rattle.slot_store.proofs.Below.core_law_Kit.{one_same, times_push}
use Rattle.slot_store.proofs.Below.control_word_Becoming.{knows_after, one_step}
use Rattle.slot_store.proofs.Below.acquire_retire_Contents.{check_on}
use Rattle.slot_store.specs.domain_rule.Views.{object_in, own_of}
use Rattle.slot_store.specs.acquire_retire.Calls.{IsOf, IsSameView, Steps, same_view}
use Rattle.slot_store.specs.acquire_retire.Domains.{DomainState}
use Rattle.slot_store.specs.acquire_retire.Seats.{SeatState}
use Rattle.slot_store.specs.control_word.Calls.{with_strong}
use Rattle.slot_store.specs.control_word.Moves.{KnowsStill}
use Rattle.slot_store.specs.control_word.Resting.{IsAtRest}
use Rattle.protected_loads.specs.Loads.{Announces, Protects, announced_by}
use Rattle.protected_loads.specs.References.{Refers}
use Rattle.protected_loads.proofs.Checking.{has_announced, may_check, moved_word}
use Rattle.protected_loads.proofs.Counted.{up_under_snapshot}
use Rattle.protected_loads.proofs.Looking.{Looks, announces, may_announce}
use Rattle.protected_loads.proofs.Noting.{announced_not_valid, announced_same, release_keeps}
use Rattle.protected_loads.proofs.Protecting.{holds_snapshot, protected}
use Rattle.protected_loads.proofs.Referring.{loaded, may_release, snapshot_there}
use Rattle.protected_loads.proofs.Telling.{content_found, four_notes, holds_has}
use Rattle.version_making.specs.Deeds.{OpenTells}
use Rattle.version_making.specs.Keeping.{Grows, IsReadyFor, Keeps, none}
use Rattle.version_making.specs.Opening.{IsSide}
use Rattle.version_making.specs.Standing.{IsSolid, node_in}
use Rattle.version_making.proofs.Growing.{frozen_grows, led_to_grows}
use Rattle.version_making.proofs.Keeping.{grows_same, grows_then, keeps_core}
use Rattle.version_making.proofs.Looked.{as_seen, calm_look, rest_as_seen, shown_held, shown_object, state, word_is}
use Rattle.version_making.proofs.Own.{own_object, owned_has}
use Rattle.version_making.proofs.Reading.{by, client_looked, keeps_looked, knows_looked, read_ready}
use Rattle.version_making.proofs.Set.{two_sides}

-- the announcement word that a load uses
abbrev pub first_word : ℕ
first_word = 0

-- what the seat knows of a node that it owns
pub solid_ready : {P : Type 0} (d : DomainState P) (s : SlotId) (i : ℕ) (seat : SeatState View) → IsReadyFor d seat
    → i < 2 → 0 < times s seat.view.core.owned → IsSolid s seat
    → ReadReady s i (own_of seat.view) seat.view.client (plain.Look (Field s i))
solid_ready d s i seat ready low owned solid =
    read_ready s i seat (plain.Look (Field s i)) (inl refl) (two_sides i low) owned ready.here
    solid.node (inl solid.known)

module _ {P : Type 0} (d : DomainState P) (c : ℕ) (s : SlotId) (i : ℕ) (old mid : SeatState View)
    (o : Outcome)
    (look : Steps IsNode d (read_next s i) (OpenTells c) (act.Look (Field s i)) old mid o)
    (ready : IsReadyFor d old) (low : i < 2) (owned : 0 < times s old.view.core.owned)
    (solid : IsSolid s old) where
  abbrev pub place : EventPlace
  place = Field s i

  abbrev pub life : ℕ
  life = (object_in old.view s).life

  pub look_ready : ReadReady s i (own_of old.view) old.view.client (plain.Look (Field s i))
  look_ready = solid_ready d s i old ready low owned solid

  readable : IsReadable d.shape old.view.core place
  readable = (omega (arith, low), omega (arith, owned))

  has_old : HasSlot (show_seat old.view.core) s
  has_old = owned_has s old owned

  same_mid : object_in mid.view s ≡ object_in old.view s
  same_mid = knows_looked d c s i old mid o look owned s has_old

  -- NULL was found
  pub null_side : o ≡ outcome.Found None → IsSide s i None mid
  null_side is =
      let none' : slot_in look.word ≡ None = cc (look.answers, is) in
      let zero' : look.word ≡ 0 = Rattle.protected_loads.proofs.Looking.null_found look.word none' in
      let client : mid.view.client ≡ led_by s life i (own_of mid.view) 0
      (frozen s life old.view.client) =
      client_looked d c s i old mid o look owned
      ∙ ap (λ (w : ℕ). led_by s life i (own_of mid.view) w (frozen s life old.view.client)) zero' in
      let e : Led = record { slot = s; life = life; side = i; kid = None } in
      let in' : In e mid.view.client.led =
      subst (λ (v : View). In e v.led) (sym client) (inl refl) in
      let known = look.told.happened.fact.2.1 e (object_in old.view s) in'
      (shown_object look.told s has_old) refl (shown_held look.told s (omega (arith, owned))) in
      let lives = ap (λ (x : Object). x.life) same_mid in record {
        tree = tt;
        has = (e, in', refl, sym lives, refl, refl);
        only = λ f inf slot' life' side'. known.one f inf slot' (life' ∙ lives) side';
      }

  module _ (kid : SlotId) (is : o ≡ outcome.Found (Some kid)) where
    abbrev pub before : SeatState View
    before = as_seen old mid

    rest_before : IsAtRest d before
    rest_before = rest_as_seen d old mid ready.rest

    looks : Looks IsNode d place same_view IsSameView before mid o
    looks = calm_look d place old mid o look

    number : look.word ≡ suc kid.0
    number = word_is look.word kid (sym (cc (look.answers, is)))

    client_mid : mid.view.client
        ≡ led_by s life i (own_of mid.view) (suc kid.0) (frozen s life old.view.client)
    client_mid =
        client_looked d c s i old mid o look owned
        ∙ ap (λ (w : ℕ). led_by s life i (own_of mid.view) w (frozen s life old.view.client)) number

    pub may_tell : IsIdle mid.view.core × (0 < 4) × (note_of mid.view.core 0 ≡ stands.Idle)
        × (kid.0 < d.shape.slots)
    may_tell = may_announce d place 0 (omega arith) kid Strong refl before mid mid rest_before
        ready.rest.first same_view IsSameView o looks is

    pub of_mid : IsOf d mid
    of_mid = Rattle.protected_loads.proofs.Looking.is_of_looked d place 0 (omega arith) kid Strong refl
        before mid mid rest_before ready.rest.first same_view IsSameView o looks is

    module _ (late : SeatState View) (o2 : Outcome)
        (announce : Steps IsNode d same_view IsSameView (act.Announce 0 Strong kid) mid late o2)
      where
        announced : Announces IsNode d 0 place kid before late
        announced = announces d place 0 (omega arith) kid Strong refl before mid late rest_before
            ready.rest.first same_view IsSameView o looks is o2 announce

        pub may_look_again : IsIdle late.view.core × (0 < 4)
            × ((x : SlotId) × (note_of late.view.core 0 ≡ stands.Announced Strong x))
            × IsReadable d.shape late.view.core place
        may_look_again =
            may_check d place 0 (omega arith) kid before late rest_before ready.rest.first announced
            readable

        pub of_late : IsOf d late
        of_late = Rattle.protected_loads.proofs.Checking.is_of_announced d place 0 (omega arith) kid
            before late rest_before ready.rest.first announced

        client_late : late.view.client ≡ mid.view.client
        client_late = announced.client

        has_late : HasSlot (show_seat late.view.core) s
        has_late =
            subst (λ (v : CoreView). HasSlot (show_seat v) s) (sym announced.becomes.core)
            (has_announced d place 0 (omega arith) kid before late rest_before ready.rest.first
            announced s has_old (old.view.core.trail ++ announced_by 0 place kid))

        pub there : 0 < length old.view.core.notes
        there = let four = four_notes announced.becomes.walks.1.told in omega (arith, four)

        held_late : HoldsStrongly late.view.core s
        held_late =
            subst (λ (v : CoreView). HoldsStrongly v s) (sym announced.becomes.core)
            (subst (λ (es : List Entry).
            0 < times s old.view.core.owned + entry_times Strong s es)
            (sym (announced_same old.view.core 0 there (stands.Announced Strong kid)
            (announced_not_valid Strong kid) ready.rest.first)) (omega (arith, owned)))

        same_late : object_in late.view s ≡ object_in old.view s
        same_late = announced.knows s has_old

        grown_late : Grows old.view.client late.view.client
        grown_late =
            grows_then old.view.client mid.view.client late.view.client
            (keeps_looked d c s i old mid o look owned).grows
            (grows_same mid.view.client late.view.client client_late)

        object_late : HasObject (own_of late.view) s (object_in late.view s)
        object_late = own_object s late has_late

        known_late : In (note s (object_in late.view s).life) late.view.client.solid
        known_late =
            subst (λ (x : Object). In (note s x.life) late.view.client.solid) (sym same_late)
            (grown_late.solid (note s life) solid.known)

        pub check_ready : ReadReady s i (own_of late.view) late.view.client (plain.Check 0 place)
        check_ready = record {
          is = inr (0, refl);
          here = grown_late.here ∙ ready.here;
          side = two_sides i low;
          held = held_late;
          object = object_in late.view s;
          has = object_late;
          node = subst (λ (x : Object). IsNode x.payload) (sym same_late) solid.node;
          known = inl known_late;
        }

        module _ (new : SeatState View) (o3 : Outcome)
            (check : Steps IsNode d (read_next s i) (OpenTells c) (act.Check 0 place) late new o3)
          where
            lives : (object_in late.view s).life ≡ life
            lives = ap (λ (x : Object). x.life) same_late

            tell : OpenTells c (state check.told)
                (shows d.shape
                (after d.shape check.told.happened.before late.view.core.seat (act.Check 0 place)))
                late.view.core.seat late.view.client new.view.client
            tell = check.told.happened.fact.2

            client_new : new.view.client
                ≡ led_by s (object_in late.view s).life i (own_of new.view) check.word
                (frozen s (object_in late.view s).life late.view.client)
            client_new =
                check.told.client
                ∙ ap (λ (x : Option Object). read_of s i x (own_of new.view) late.view.client
                check.word) object_late

            grown_new : Grows late.view.client new.view.client
            grown_new =
                subst (λ (v : View). Grows late.view.client v) (sym client_new)
                (grows_then late.view.client
                (frozen s (object_in late.view s).life late.view.client) _
                (frozen_grows s (object_in late.view s).life late.view.client)
                (Rattle.version_making.proofs.Growing.led_grows s (object_in late.view s).life i
                (own_of new.view) check.word
                (frozen s (object_in late.view s).life late.view.client)))

            -- it holds what the look found
            field : content (state check.told) place ≡ Some kid
            field = of ((own_of mid.view).objects kid) (client_late ∙ client_mid)
              where
                of : (x : Option Object)
                    → late.view.client ≡ led_to s life i kid x (frozen s life old.view.client)
                    → content (state check.told) place ≡ Some kid
                of None client =
                    let e : Shown = record { slot = s; life = life; side = i; next = Some kid } in
                    tell.0.1 e (object_in late.view s)
                    (subst (λ (v : View). In e v.shown) (sym client) (inl refl))
                    (shown_object check.told s has_late) lives
                    (shown_held check.told s held_late)
                of (Some x) client =
                    let e : Led = record {
                      slot = s;
                      life = life;
                      side = i;
                      kid = Some (kid_of kid x);
                    } in
                    (tell.1 e (object_in late.view s)
                    (grown_new.led e (subst (λ (v : View). In e v.led) (sym client) (inl refl)))
                    (shown_object check.told s has_late) lives
                    (shown_held check.told s held_late)).there

            word : slot_in check.word ≡ Some kid
            word = sym (content_found check.told place (check_on d.shape 0 place)) ∙ field

            not_moved : (now : Option SlotId) → o3 ≡ outcome.Moved now → ⊥
            not_moved now moved =
                let other = moved_word d place 0 (omega arith) kid before late rest_before
                ready.rest.first announced
                new now (subst (Steps IsNode d (read_next s i) (OpenTells c)
                (act.Check 0 place) late new) moved check) in
                other.1 (other.0 ∙ word)

            all : Protects IsNode d 0 place (read_next s i) (OpenTells c) kid before new
                × KnowsStill old.view.core before new × IsOf d new × (first_word ≢ first_word → IsAtRest d new)
            all = protected d place 0 (omega arith) kid before late rest_before ready.rest.first
                announced new o3 check not_moved

            pub of_new : IsOf d new
            of_new = all.2

            has_kid : HasSlot (show_seat new.view.core) kid
            has_kid = holds_has new.view.core kid
                (holds_snapshot place 0 kid old.view.core there ready.rest.first new _ all.0.core)

            pub may_add : IsIdle new.view.core
                × Rattle.slot_store.specs.core_events.Views.Holds new.view.core kid
            may_add = (
              Rattle.protected_loads.proofs.Referring.idle_protected d place kid before new rest_before all.0,
              holds_snapshot place 0 kid old.view.core there ready.rest.first new _ all.0.core,
            )

            -- and it has the adds left that it had
            pub has_add : mid.view.core.adds < mid.view.core.quota.adds
                → new.view.core.adds < new.view.core.quota.adds
            has_add less =
                let looked = by d c s i old mid o look owned in
                let a = ap (λ (v : CoreView). v.adds) all.0.core in
                let b = ap (λ (v : CoreView). v.quota.adds) all.0.core in
                let e = ap (λ (v : CoreView). v.adds) looked.core in
                let f = ap (λ (v : CoreView). v.quota.adds) looked.core in
                omega (arith, a, b, e, f, less)

            client_found : new.view.client
                ≡ led_to s life i kid (Some (object_in new.view kid))
                (frozen s life late.view.client)
            client_found =
                client_new
                ∙ ap (λ (w : ℕ). led_by s (object_in late.view s).life i (own_of new.view) w
                (frozen s (object_in late.view s).life late.view.client))
                (word_is check.word kid word)
                ∙ ap (λ (x : Option Object). led_to s (object_in late.view s).life i kid x
                (frozen s (object_in late.view s).life late.view.client))
                (own_object kid new has_kid)
                ∙ ap (λ (l : ℕ). led_to s l i kid (Some (object_in new.view kid))
                (frozen s l late.view.client)) lives

            module _ (more : SeatState View) (o4 : Outcome)
                (add : Steps IsNode d same_view IsSameView (act.Add kid) new more o4) where
              counts : Steps IsNode d same_view IsSameView (act.Add kid) new more outcome.Up
              counts = up_under_snapshot d new more kid o4 add
                  (snapshot_there d place kid before new rest_before all.0)

              pub may_let_go : IsIdle more.view.core × (0 < 4)
                  × (note_of more.view.core 0 ≢ stands.Idle)
              may_let_go = may_release d place kid before new rest_before all.0 Strong refl more counts

              pub of_more : IsOf d more
              of_more = Rattle.protected_loads.proofs.Referring.is_of_counted d place kid before new
                  rest_before all.0 Strong refl more counts

              module _ (end : SeatState View) (o5 : Outcome)
                  (release : Steps IsNode d same_view IsSameView (act.Release 0) more end o5) where
                result : Refers IsNode d place (read_next s i) (OpenTells c) kid before end
                    × KnowsStill old.view.core before end × IsAtRest d end
                result = loaded d place kid before new rest_before all.0 Strong refl more counts end
                    o5 release all.1

                client_end : end.view.client ≡ new.view.client
                client_end = release.told.client ∙ add.told.client

                owned_more : 0 < times kid more.view.core.owned
                owned_more =
                    let by_more = one_step d (act.Add kid) new more outcome.Up 0
                    (with_strong kid new.view.core) counts refl refl refl in
                    let t = times_push kid kid new.view.core.owned in
                    let o = one_same kid kid refl in
                    let e = ap (λ (v : CoreView). times kid v.owned) by_more.core in
                    omega (arith, t, o, e)

                object_end : object_in end.view kid ≡ object_in new.view kid
                object_end =
                    knows_after d (act.Release 0) more end o5 more.view.core release (λ x has. has)
                    (λ w y it. release_keeps (note_of more.view.core 0) y it) kid
                    (owned_has kid more owned_more)
                    ∙ knows_after d (act.Add kid) new more o4 new.view.core add (λ x has. has)
                    (λ w y it. refl) kid has_kid

                pub keeps_loaded : Keeps 0 1 none (λ x. one x kid) old end
                keeps_loaded =
                    keeps_core 0 1 none (λ x. one x kid) old end (with_strong kid old.view.core)
                    old.view.core _ result.0.core refl
                    (λ x. let t = times_push x kid old.view.core.owned in omega (arith, t))
                    (omega arith, omega arith) (omega arith, omega arith) result.1
                    (λ x less. less)
                    (grows_then old.view.client late.view.client end.view.client grown_late
                    (grows_then late.view.client new.view.client end.view.client grown_new
                    (grows_same new.view.client end.view.client client_end)))

                pub ready_loaded : IsReadyFor d end
                ready_loaded = record {
                  rest = result.2;
                  room = subst (λ (v : CoreView). HasRoom v) (sym result.0.core) ready.room;
                  here = keeps_loaded.grows.here ∙ ready.here;
                }

                pub loaded_side : IsSide s i (Some (record { slot = kid })) end
                loaded_side =
                    let e : Led = record {
                      slot = s;
                      life = life;
                      side = i;
                      kid = Some (kid_of kid (object_in new.view kid));
                    } in
                    let in' : In e new.view.client.led =
                    subst (λ (v : View). In e v.led) (sym client_found) (inl refl) in
                    let known = tell.1 e (object_in late.view s) in'
                    (shown_object check.told s has_late) lives
                    (shown_held check.told s held_late) in
                    let client = client_end in
                    let at_end = ap (λ (x : Object). x.life) (result.1 s has_old) in
                    let kids : Some (kid_of kid (object_in new.view kid)) ≡ Some (node_in kid end) =
                    ap (λ (x : Object). Some (kid_of kid x)) (sym object_end) in record {
                      tree = record {
                        node = subst (λ (x : Object). IsNode x.payload) (sym object_end)
                            (known.node (kid_of kid (object_in new.view kid)) refl);
                        known = subst (λ (x : Object). In (note kid x.life) end.view.client.solid)
                            (sym object_end)
                            (subst (λ (v : View).
                            In (note kid (object_in new.view kid).life) v.solid)
                            (sym client)
                            (subst (λ (v : View).
                            In (note kid (object_in new.view kid).life) v.solid)
                            (sym client_found) (inl refl)));
                      };
                      has = (
                        e,
                        subst (λ (v : View). In e v.led) (sym client) in',
                        refl,
                        sym at_end,
                        refl,
                        kids,
                      );
                      only = λ f inf slot' life' side'.
                          known.one f (subst (λ (v : View). In f v.led) client inf) slot'
                          (life' ∙ at_end) side'
                          ∙ kids;
                    }
