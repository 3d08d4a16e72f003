-- A head that is being placed.
use Rattle.std.proofs.Common.{◌≡◌, inl, ℕ, ◌<◌, List, [], ◌∷◌, ◌++◌, refl, ap, sym, ◌∙◌, subst, arith}
use Rattle.cell_calls.specs.Cells.{BindsAlone, HasBind, area_of}
use Rattle.cell_calls.specs.Keeping.{Keeps, Learns}
use Rattle.cell_calls.specs.cell_law.directory_law.Cells.{on}
use Rattle.cell_calls.proofs.Keeping.{keeps_self}
use Rattle.cell_calls.specs.cell_law.Making.{binds}
use Rattle.cell_calls.specs.cell_law.Views.{TellsNone}
use Rattle.cell_calls.specs.cell_law.declared.view.View.{View}
use Rattle.cell_calls.specs.cell_law.directory_law.Payloads.{Text}
use Rattle.cell_calls.specs.cell_law.directory_law.Views.{In, rope}
use Rattle.cell_calls.specs.cell_law.directory_law.declared.view.Rope.{Rope}
use Rattle.cell_calls.specs.cell_law.plain_state.declared.slot.SlotId.{SlotId}
use Rattle.cell_calls.specs.cell_law.plain_state.Lists.{times}
use Rattle.cell_calls.specs.cell_protocol.declared.law.CellLaw.{CellLaw}
use Rattle.epoch_refs.specs.epoch_core.core_events.Views.{without}
use Rattle.epoch_refs.specs.plain_protocol.Owns.{Object}
use Rattle.epoch_refs.specs.epoch_rule.Views.{object_in}
use Rattle.epoch_refs.specs.epoch_domain.Domains.{DomainState}
use Rattle.epoch_refs.specs.epoch_domain.Seats.{SeatState}
use Rattle.epoch_refs.specs.Walks.{IsAtRest}
use Rattle.epoch_domain.proofs.Below.core_law_Kit.{one_same, times_push}
use Rattle.cell_making.specs.Bindings.{CanBind, HasHead}
use Rattle.cell_making.specs.Making.{candidate_in}
use Rattle.cell_making.proofs.Heads.{head_stays}
use Rattle.cell_finding.specs.Finding.{ComesToNull, GoesAround, IsFound, IsOnWalk, IsOwnIfAlone}
use Rattle.cell_finding.proofs.Past.{past_walked}
use Rattle.cell_finding.proofs.Walking.{walk_kept}
use Rattle.cell_making.proofs.Kept.{drop_keeps}
use Rattle.epoch_refs.specs.Calls.{IsSpent}
use Rattle.epoch_refs.specs.epoch_core.declared.act.EpochAct.TheVariants as act
use Rattle.epoch_refs.specs.epoch_core.declared.outcome.EpochOutcome.{EpochOutcome}
use Rattle.epoch_refs.specs.epoch_core.declared.outcome.EpochOutcome.TheVariants as outcome
use Rattle.epoch_refs.specs.epoch_domain.Calls.{IsSameView, Steps, same_view}
use Rattle.cell_intern.specs.Interning.{Grows, Has, IsInRegion}
use Rattle.cell_intern.proofs.Causes.{spent_on}
use Rattle.cell_intern.proofs.Kept.{add_keeps, gave_on, keeps_on, region_on, swapped_on}
use Rattle.cell_intern.proofs.Untold.{may_on, not_bound, untold_view}
use Rattle.cell_intern.proofs.Quiet.{Quiet, grows_after, grows_bound, grows_quiet, learns_same, listed_bound, quiet_learns, quiet_same, quiet_then}

module _ (d : DomainState CellLaw) (text : Text) (s : SlotId) where
  -- the head is to be placed still, by a walk that has passed so many cells
  pub record PlacesSoFar (passed : ℕ) (old now : SeatState View) : Type 0 where
    pub region : IsInRegion d now
    pub walk : IsOnWalk d text passed now
    pub head : HasHead text s now
    pub keeps : Keeps 0 0 old.view.core.owned old now
    pub quiet : Quiet old.view.client now.view.client
    pub may : HasBind now
    -- where no other seat may put heads into cells, the text has no record yet
    pub untold : BindsAlone d old → TellsNone now.view.client text

  pub none_placed : (from : ℕ) (seat : SeatState View) → IsInRegion d seat → IsOnWalk d text from seat
      → HasHead text s seat → HasBind seat → TellsNone seat.view.client text
      → PlacesSoFar from seat seat
  none_placed from seat region walk head may untold = record {
    region = region;
    walk = walk;
    head = head;
    keeps = keeps_self seat;
    quiet = quiet_same seat.view.client seat.view.client refl;
    may = may;
    untold = λ alone. untold;
  }

  -- it has looked on, or lost an exchange
  pub placed_on : (passed further : ℕ) (old now next : SeatState View) → PlacesSoFar passed old now
      → Keeps 0 0 now.view.core.owned now next → Learns now.view.client next.view.client
      → IsAtRest d next → IsOnWalk d text further next
      → (BindsAlone d old → TellsNone next.view.client text) → PlacesSoFar further old next
  placed_on passed further old now next so keeps learns rest walk untold =
      let quiet = quiet_learns now.view.client next.view.client learns in
      let owned : 0 < times s next.view.core.owned =
      let o = keeps.owns s in let was = so.head.owned in omega (arith, o, was) in
      record {
        region = region_on d 0 0 now.view.core.owned now next so.region keeps rest quiet.cleared;
        walk = walk;
        head = head_stays text 0 0 now.view.core.owned s now next so.head keeps learns owned;
        keeps = keeps_owned old now next so.keeps
            (keeps_on 0 0 now.view.core.owned old now next so.keeps keeps);
        quiet = quiet_then old.view.client now.view.client next.view.client so.quiet quiet;
        may = may_on now.view.client next.view.client quiet so.may;
        untold = untold;
      }
    where
      keeps_owned : (a b c : SeatState View) → Keeps 0 0 a.view.core.owned a b
          → Keeps 0 0 b.view.core.owned a c → Keeps 0 0 a.view.core.owned a c
      keeps_owned a b c first second = record {
        owns = λ x. second.owns x ∙ first.owns x;
        makes_used = second.makes_used;
        adds_used = second.adds_used;
        sees = second.sees;
        same = second.same;
        goes = second.goes;
        knows = second.knows;
      }

  -- a lost exchange leaves the walk
  pub lost_on : (passed : ℕ) (old now next : SeatState View) → PlacesSoFar passed old now
      → Keeps 0 0 now.view.core.owned now next → Learns now.view.client next.view.client
      → IsAtRest d next → (BindsAlone d old → TellsNone next.view.client text)
      → PlacesSoFar passed old next
  lost_on passed old now next so keeps learns rest untold =
      let quiet = quiet_learns now.view.client next.view.client learns in
      placed_on passed passed old now next so keeps learns rest
      (walk_kept d text passed 0 0 now.view.core.owned now next so.walk keeps learns.saw
      (quiet.cleared ∙ so.region.is_open)) untold

  -- a record that was found is another seat's
  pub not_own : (passed : ℕ) (old now next : SeatState View) → PlacesSoFar passed old now
      → Learns now.view.client next.view.client → (t : SlotId) → IsOwnIfAlone d text t next
      → BindsAlone d old → ⊥
  not_own passed old now next so learns t own alone =
      let quiet = quiet_learns now.view.client next.view.client learns in
      let e : Rope = rope t (object_in next.view t).life text in
      not_bound e now.view.client (so.untold alone)
      (subst (λ (es : List Rope). In e es) quiet.bound (own (quiet.grant ∙ (so.quiet.grant ∙ alone))))

  -- it has come to a null cell
  pub null_on : (passed further : ℕ) (old now next : SeatState View) → PlacesSoFar passed old now
      → Keeps 0 0 now.view.core.owned now next → Learns now.view.client next.view.client
      → IsAtRest d next → ComesToNull d text further now next → PlacesSoFar further old next
  null_on passed further old now next so keeps learns rest null =
      placed_on passed further old now next so keeps learns rest null.walk (λ alone. null.untold)

  -- its view is as it was
  pub same_on : (passed : ℕ) (old now next : SeatState View) → PlacesSoFar passed old now
      → Keeps 0 0 now.view.core.owned now next → next.view.client ≡ now.view.client
      → IsAtRest d next → PlacesSoFar passed old next
  same_on passed old now next so keeps same rest =
      lost_on passed old now next so keeps
      (learns_same now.view.client next.view.client same) rest
      (λ alone. untold_view text now.view.client next.view.client same (so.untold alone))

  -- it has found that
  pub found_on : (passed : ℕ) (old now next : SeatState View) → PlacesSoFar passed old now
      → Keeps 0 0 now.view.core.owned now next → Learns now.view.client next.view.client
      → IsAtRest d next → IsOnWalk d text passed next → (t : SlotId) → IsOwnIfAlone d text t next
      → PlacesSoFar passed old next
  found_on passed old now next so keeps learns rest walk t own =
      placed_on passed passed old now next so keeps learns rest walk
      (λ alone. absurd (not_own passed old now next so learns t own alone))

  -- a walk that may bind doesn't go around
  pub not_around : (passed : ℕ) (old now next : SeatState View) → PlacesSoFar passed old now
      → Learns now.view.client next.view.client → GoesAround d text now next → ⊥
  not_around passed old now next so learns around =
      around.spent (may_on now.view.client next.view.client
      (quiet_learns now.view.client next.view.client learns) so.may)

  module _ (passed : ℕ) (old now : SeatState View) (so : PlacesSoFar passed old now) where
    pub can_bind : (cell : ℕ) → cell ≡ on (area_of d.protocol) text passed
        → CanBind d cell s now
    can_bind cell at = record {
      text = text;
      head = so.head;
      is_open = so.region.is_open;
      passed = passed;
      walked = past_walked d text passed now so.walk.walked;
      at = at;
    }

    -- the head is the same object as before
    pub same_head : 0 < times s old.view.core.owned → candidate_in s text now ≡ candidate_in s text old
    same_head was =
        let is = so.head.owned in
        ap (λ (o : Object). rope s o.life text)
        (so.keeps.knows s (omega (arith, was)) (omega (arith, is)))

  -- IT WAS BOUND
  module _ (passed : ℕ) (old now next : SeatState View) (so : PlacesSoFar passed old now)
      (was : 0 < times s old.view.core.owned) where
    module _ (cell : ℕ) (bound : next.view.client ≡ binds cell now.view.client)
        (keeps : Keeps 0 0 (without s now.view.core.owned) now next) (rest : IsAtRest d next) where
      pub placed_ok : next.view.client.bound ≡ candidate_in s text old ∷ old.view.client.bound
      placed_ok =
          listed_bound text s cell now next.view.client so.head bound
          ∙ (ap (λ (e : Rope). e ∷ now.view.client.bound) (same_head passed old now so was)
          ∙ ap (λ (es : List Rope). candidate_in s text old ∷ es) so.quiet.bound)

      pub grows_ok : Grows text old.view.client next.view.client
      grows_ok = grows_after text old.view.client now.view.client next.view.client so.quiet
          (grows_bound text s cell now next.view.client so.head bound)

      pub keeps_ok : Keeps 0 1 (without s old.view.core.owned) old next
      keeps_ok = gave_on s old now next so.keeps keeps so.head.owned

      pub region_ok : IsInRegion d next
      region_ok = region_on d 0 0 (without s now.view.core.owned) now next so.region keeps rest
          (grows_bound text s cell now next.view.client so.head bound).cleared

    -- IT WAS GIVEN UP
    module _ (fits : List ℕ → Type 0) (o : EpochOutcome)
        (drop : Steps fits d same_view IsSameView (act.Drop s) now next o) (rest : IsAtRest d next)
      where
        given : Keeps 0 0 (without s now.view.core.owned) now next
        given = drop_keeps fits d now next s o drop

        pub keeps_given : Keeps 0 1 (without s old.view.core.owned) old next
        keeps_given = gave_on s old now next so.keeps given so.head.owned

        pub grows_given : Grows text old.view.client next.view.client
        grows_given = grows_quiet text old.view.client next.view.client
            (quiet_then old.view.client now.view.client next.view.client so.quiet
            (quiet_same now.view.client next.view.client drop.told.client))

        pub region_given : IsInRegion d next
        region_given = region_on d 0 0 (without s now.view.core.owned) now next so.region given rest
            (ap (λ (v : View). v.cleared) drop.told.client)

        pub spent_given : IsSpent now.view.core → IsSpent next.view.core
        spent_given = spent_on 0 (without s now.view.core.owned) now next given

  -- ANOTHER RECORD WAS FOUND
  module _ (passed : ℕ) (old now mid next : SeatState View) (so : PlacesSoFar passed old now)
      (fits : List ℕ → Type 0) (t : SlotId) (start : SeatState View)
      (found : IsFound d text t start now)
      (add : Steps fits d same_view IsSameView (act.Add t) now mid outcome.Plain)
      (o : EpochOutcome) (drop : Steps fits d same_view IsSameView (act.Drop s) mid next o)
      (rest : IsAtRest d next) where
    gained : Keeps 0 1 (now.view.core.owned ++ t ∷ []) now mid
    gained = add_keeps fits d t now mid add

    given_then : Keeps 0 0 (without s mid.view.core.owned) mid next
    given_then = drop_keeps fits d mid next s o drop

    pub keeps_found : Keeps 0 1 (without s old.view.core.owned ++ t ∷ []) old next
    keeps_found = swapped_on s t old now mid next so.keeps gained given_then so.head.owned

    client_same : next.view.client ≡ now.view.client
    client_same = drop.told.client ∙ add.told.client

    pub grows_found : Grows text old.view.client next.view.client
    grows_found = grows_quiet text old.view.client next.view.client
        (quiet_then old.view.client now.view.client next.view.client so.quiet
        (quiet_same now.view.client next.view.client client_same))

    owned_mid : 0 < times t mid.view.core.owned
    owned_mid =
        let k = gained.owns t in let p = times_push t t now.view.core.owned in
        let one' = one_same t t refl in omega (arith, k, p, one')

    owned_next : 0 < times t next.view.core.owned
    owned_next =
        let k = keeps_found.owns t in
        let p = times_push t t (without s old.view.core.owned) in
        let one' = one_same t t refl in omega (arith, k, p, one')

    life_same : (object_in next.view t) ≡ (object_in now.view t)
    life_same =
        let seen = found.seen in
        let more = owned_mid in
        let still = owned_next in
        given_then.knows t (omega (arith, more)) (omega (arith, still))
        ∙ gained.knows t (omega (arith, seen)) (omega (arith, more))

    pub has_found : Has text t next
    has_found = record {
      listed = inl (subst (λ (v : View). In (rope t (object_in next.view t).life text) v.found)
          (sym client_same)
          (subst (λ (x : Object). In (rope t x.life text) now.view.client.found) (sym life_same)
          found.noted));
      owned = owned_next;
    }

    pub region_found : IsAtRest d mid → IsInRegion d next
    region_found rested = region_on d 0 0 (without s mid.view.core.owned) mid next
        (region_on d 0 1 (now.view.core.owned ++ t ∷ []) now mid so.region gained rested
        (ap (λ (v : View). v.cleared) add.told.client)) given_then rest
        (ap (λ (v : View). v.cleared) drop.told.client)
