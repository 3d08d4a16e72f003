-- The turns of a settle, put together.
use Rattle.std.proofs.Common.{◌≡◌, inl, inr, ⊎_elim, ℕ, ◌+◌, ◌*◌, ◌^◌, ◌<◌, ◌≤◌, List, [], ◌∷◌, length, refl, ap, ◌∙◌, arith}
use Rattle.std.specs.Prelude.{Option, None, Some, IsSome, sum_by}
use Rattle.std.proofs.lemmas.List.Sums.{sum_by-cons}
use Rattle.claim_law.specs.core_events.declared.view.CoreView.{CoreView}
use Rattle.claim_law.specs.core_events.Counts.{stage}
use Rattle.claim_law.specs.core_events.Steps.{HasRoom}
use Rattle.retiring_stores.specs.domain_rule.Views.{IsAlone}
use Rattle.retiring_stores.specs.acquire_retire.Collecting.{rest_of}
use Rattle.retiring_stores.specs.acquire_retire.Domains.{DomainState}
use Rattle.retiring_stores.specs.acquire_retire.Seats.{SeatState}
use Rattle.retiring_stores.specs.acquire_retire.Wholes.{known_core}
use Rattle.retiring_stores.specs.control_word.Resting.{IsAtRest}
use Rattle.slot_store.specs.Leftovers.{IsQuiet, LeavesCycles}
use Rattle.slot_store.specs.Reaping.{Answers, KnowsBoth, Reaps, Waits}
use Rattle.slot_store.specs.Spending.{settle_most, steps_made}
use Rattle.slot_store.specs.Settling.{GoesOn, Quiets, Settles, Turns, objects_known, weight_of}
use Rattle.slot_store.proofs.CyclesLeft.{leaves_cycles}
use Rattle.slot_store.proofs.Lasting.{Lasts, MayLast, collect_lasts, known_then, may_last_on, objects_last, objects_may, stands, then_lasts, knows_last}
use Rattle.slot_store.proofs.Leftovers.{is_quiet}
use Rattle.slot_store.proofs.Objects.{below_ones, standing_most}
use Rattle.slot_store.proofs.Passing.{passes_collect}
use Rattle.slot_store.proofs.Spending.{Spends, collected_spends, reaped_spends, settle_steps, spends_none, spends_on}
use Rattle.slot_store.proofs.Turning.{less_collected, less_reaped, none_parts, reaps_fewer, unripe_most, work_left}

-- the seat has settled so far, and `total` is the sum of the weights that its reaps answered
pub record UnderWay {P V : Type 0} (fits : List ℕ → Type 0) (weight : List ℕ → ℕ) (d : DomainState P)
    (total : ℕ) (old now : SeatState V) : Type 0 where
  pub answers : List (Option ℕ)
  pub turns : Turns fits d weight answers old now
  pub sum : total ≡ sum_by weight_of answers
  pub few : length answers + work_left d now ≤ work_left d old
  pub collects : ℕ
  pub spends : Spends d collects old now
  pub light : total + 2 ^ 32 * objects_known d now ≤ 2 ^ 32 * objects_known d old
  pub lasts : MayLast d old now
  pub known : IsSome now.view.whole
  pub same : rest_of now.view.core ≡ rest_of old.view.core
  pub client : now.view.client ≡ old.view.client
  pub room : HasRoom now.view.core
  pub rest : IsAtRest d now

-- a seat that has what it had beside its batch and its dying and ripe slots is as alone as it was
pub alone_still : {V : Type 0} (old new : SeatState V) → rest_of new.view.core ≡ rest_of old.view.core
    → IsAlone old.view → IsAlone new.view
alone_still old new same alone =
    let seat = ap (λ (v : CoreView). v.seat) same in
    let left = ap (λ (v : CoreView). length v.left_seats) same in
    let seats = ap (λ (v : CoreView). v.shape.seats) same in
    (omega (arith, alone.0), omega (arith, alone.1))

module _ {P V : Type 0} (d : DomainState P) where
  -- there are no more objects than slots
  objects_most : (seat : SeatState V) → objects_known d seat ≤ d.shape.slots
  objects_most seat =
      below_ones d.shape.slots (λ x. stands d (record { 0 = x }) seat)
      (λ x inside. standing_most (stage d.shape (known_core seat.view) (record { 0 = x })))

module _ {P V : Type 0} {fits : List ℕ → Type 0} {weight : List ℕ → ℕ} (d : DomainState P) where
  pub begins : (old : SeatState V) → IsSome old.view.whole → HasRoom old.view.core → IsAtRest d old
      → UnderWay fits weight d 0 old old
  begins old known room rest = record {
    answers = [];
    turns = refl;
    sum = refl;
    few = omega arith;
    collects = 0;
    spends = spends_none d old;
    light = omega arith;
    lasts = inl refl;
    known = known;
    same = refl;
    client = refl;
    room = room;
    rest = rest;
  }

  module _ (total : ℕ) (old now : SeatState V) (u : UnderWay fits weight d total old now) where
    module _ (bounded : (words : List ℕ) → fits words → weight words ≤ 2 ^ 32) (answer : ℕ)
        (new : SeatState V) (reaps : Reaps fits d weight answer now new) where
      -- the sum has room for one weight more
      pub sum_fits : total + answer < 2 ^ 64
      sum_fits =
          let fewer = reaps_fewer d weight answer now new u.known reaps in
          let shape = fewer.lasts.shape in
          let slots = shape.3 in
          let one = bounded reaps.payload reaps.sees.fit in
          let is = reaps.weighs in
          let light = u.light in
          let objects = fewer.objects in
          let most = objects_most d old in omega arith

      pub reaped_more : new.view.client ≡ now.view.client → HasRoom new.view.core → IsAtRest d new
          → UnderWay fits weight d (total + answer) old new
      reaped_more client room rest =
          let fewer = reaps_fewer d weight answer now new u.known reaps in record {
            answers = Some answer ∷ u.answers;
            turns = (now, u.turns, reaps);
            sum =
                let more = sum_by-cons weight_of (Some answer) u.answers in
                let so = u.sum in omega arith;
            few =
                let less = less_reaped d now new fewer in
                let so = u.few in omega arith;
            collects = u.collects + (reaped_spends d weight answer now new reaps fewer).0;
            spends =
                let more = reaped_spends d weight answer now new reaps fewer in
                spends_on d u.collects more.0 old now new u.spends more.1;
            light =
                let one = bounded reaps.payload reaps.sees.fit in
                let is = reaps.weighs in
                let so = u.light in
                let objects = fewer.objects in omega arith;
            lasts = may_last_on d old now new u.lasts (inr fewer.lasts);
            known = fewer.lasts.known;
            same = reaps.same ∙ u.same;
            client = client ∙ u.client;
            room = room;
            rest = rest;
          }

      pub less_work_reaped : work_left d new < work_left d now
      less_work_reaped =
          let less = less_reaped d now new (reaps_fewer d weight answer now new u.known reaps) in
          omega arith

    module _ (mid : SeatState V) (none : Answers fits d weight None now mid)
        (client : mid.view.client ≡ now.view.client) (room : HasRoom mid.view.core)
        (rest : IsAtRest d mid) where
      same : rest_of mid.view.core ≡ rest_of now.view.core
      same = ⊎_elim
          (λ (idle : (now.view.core.dying ≡ []) × (mid ≡ now)).
          ap (λ (x : SeatState V). rest_of x.view.core) idle.1)
          (λ (waits : (now.view.core.ripe ≡ []) × Waits fits d now mid).
          waits.1.collected.collects.goes.rest)
          none

      mid_lasts : MayLast d now mid
      mid_lasts = (none_parts d weight now mid u.known none).lasts

      mid_known : IsSome mid.view.whole
      mid_known = known_then d now mid u.known mid_lasts

      module _ (new : SeatState V) (goes : GoesOn fits d mid new) where
        pub less_work_collected : work_left d new < work_left d now
        less_work_collected =
            let less = less_collected d weight now mid new u.known none goes in omega arith

        pub collected_more : UnderWay fits weight d total old new
        collected_more =
            let passes = passes_collect d mid new rest room goes.collected in
            let lasts = collect_lasts d mid new mid_known goes.collected in record {
              answers = None ∷ u.answers;
              turns = (now, u.turns, (mid, none, goes));
              sum =
                  let more = sum_by-cons weight_of None u.answers in
                  let so = u.sum in omega arith;
              few =
                  let less = less_collected d weight now mid new u.known none goes in
                  let so = u.few in omega arith;
              collects =
                  u.collects + (collected_spends d weight now mid new u.rest u.known none goes).0;
              spends =
                  let more = collected_spends d weight now mid new u.rest u.known none goes in
                  spends_on d u.collects more.0 old now new u.spends more.1;
              light =
                  let so = u.light in
                  let first = objects_may d now mid mid_lasts in
                  let then = objects_last d mid new lasts in omega arith;
              lasts = may_last_on d old now new u.lasts (inr (then_lasts d now mid new mid_lasts lasts));
              known = lasts.known;
              same = passes.same ∙ same ∙ u.same;
              client = passes.client ∙ client ∙ u.client;
              room = passes.room;
              rest = passes.rest;
            }

      module _ (new : SeatState V) (quiet : Quiets fits d mid new) where
        pub settles : Settles fits d weight total old new
        settles = record {
          answers = u.answers;
          before = now;
          reaped = mid;
          turns = u.turns;
          sum = u.sum;
          few =
              let so = u.few in
              let ripe = unripe_most old.view.core.ripe in omega arith;
          reaps_none = none;
          quiets = quiet;
        }

        pub settled_steps : (now.view.core.dying ≡ [] → mid ≡ now)
            → steps_made new ≤ steps_made old + settle_most d old
        settled_steps idle =
            settle_steps d weight u.collects old now mid new u.known u.spends none idle quiet

        pub settled_rest : rest_of new.view.core ≡ rest_of old.view.core
        settled_rest =
            (passes_collect d mid new rest room quiet.collected).same ∙ same ∙ u.same

        pub settled_client : new.view.client ≡ old.view.client
        settled_client =
            (passes_collect d mid new rest room quiet.collected).client ∙ client ∙ u.client

        pub settled_room : HasRoom new.view.core
        settled_room = (passes_collect d mid new rest room quiet.collected).room

        pub settled_quiet : IsQuiet new.view.core
        settled_quiet = is_quiet d mid new rest mid_known quiet

        settled_lasts : Lasts d old new
        settled_lasts =
            then_lasts d old mid new (may_last_on d old now mid u.lasts mid_lasts)
            (collect_lasts d mid new mid_known quiet.collected)

        pub settled_knows : KnowsBoth old new
        settled_knows = knows_last d old new settled_lasts

        pub settled_cycles : LeavesCycles new.view
        settled_cycles =
            leaves_cycles d old new settled_lasts quiet.collected.rest settled_quiet
