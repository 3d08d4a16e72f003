-- A make of a node: what its deed asks, and what it leaves.
use Rattle.std.proofs.Common.{◌≡◌, ◌≢◌, ℕ, ◌+◌, ◌<◌, true, List, ◌∷◌, refl, ap, sym, ◌∙◌, subst, arith}
use Rattle.std.specs.Prelude.{Err, IfErr, IfOk, Ok, OnErr, Option, Result, Some, None}
use Rattle.map_law.specs.plain_state.declared.act.PlainAct.{PlainAct}
use Rattle.map_law.specs.plain_state.declared.act.PlainAct.TheVariants as plain
use Rattle.map_law.specs.plain_state.declared.slot.SlotId.{SlotId}
use Rattle.map_law.specs.plain_state.Lists.{times}
use Rattle.map_law.specs.plain_protocol.Owns.{HasSlot, Object}
use Rattle.map_law.specs.declared.view.View.{View}
use Rattle.map_law.specs.Nodes.{IsNode}
use Rattle.map_law.specs.Making.{MakeTells, made}
use Rattle.slot_store.specs.core_events.declared.view.CoreView.{CoreView}
use Rattle.slot_store.specs.core_events.declared.view.Phase.{Phase}
use Rattle.slot_store.specs.core_events.declared.view.Phase.TheVariants as phase
use Rattle.slot_store.specs.core_events.Shows.{show_seat}
use Rattle.slot_store.specs.core_events.ShownSteps.{on_slot}
use Rattle.slot_store.specs.core_events.Views.{slot_of}
use Rattle.slot_store.specs.domain_rule.Views.{object_in, own_of}
use Rattle.slot_store.proofs.Below.core_law_Kit.{times_push}
use Rattle.slot_store.proofs.Below.domain_rule_Others.{fills_has}
use Rattle.slot_store.specs.acquire_retire.Domains.{DomainState}
use Rattle.slot_store.specs.acquire_retire.Seats.{SeatState}
use Rattle.slot_store.specs.control_word.Moves.{KnowsStill}
use Rattle.slot_store.specs.counted_handles.Handles.{Handle}
use Rattle.slot_store.specs.declared.making.MakeError.{MakeError}
use Rattle.slot_store.specs.declared.making.MakeError.TheVariants as refused
use Rattle.slot_store.specs.Calls.{Begins, HasNoMake, Makes, with_made}
use Rattle.slot_store.specs.Searching.{Misses}
use Rattle.slot_store.specs.control_word.Resting.{IsSpent}
use Rattle.version_making.specs.Building.{IsMaking, IsWhy, raw_of}
use Rattle.version_making.specs.Deeds.{NewReady, new_next}
use Rattle.version_making.specs.Keeping.{Grows, Keeps, none, of_answer}
use Rattle.version_making.proofs.Keeping.{goes_none, grows_same, keeps_core, keeps_none}
use Rattle.version_making.proofs.Own.{own_object, owned_has}

module _ {P : Type 0} (d : DomainState P) (words : List ℕ) (s : SlotId) (old mid : SeatState View)
    (begins : Begins IsNode d words s old mid) where
  blank : mid.view.core.phase ≡ phase.Blank s
  blank = ap (λ (v : CoreView). v.phase) begins.goes.becomes.core

  pub act_is : on_slot plain.Make (slot_of mid.view.core.phase) ≡ plain.Make s
  act_is = ap (λ (x : Phase). on_slot plain.Make (slot_of x)) blank

  pub has_blank : HasSlot (show_seat mid.view.core) s
  has_blank = fills_has s mid.view.core blank

  -- THE DEED is ready
  pub new_ready : old.view.client.here ≡ true → IsNode words
      → NewReady (own_of mid.view) mid.view.client
      (on_slot plain.Make (slot_of mid.view.core.phase))
  new_ready here node = record {
    slot = s;
    ready = record {
      is = act_is;
      here = ap (λ (v : View). v.here) begins.goes.client ∙ here;
      object = (
        object_in mid.view s,
        own_object s mid has_blank,
        subst IsNode (sym begins.filled) node,
      );
    };
  }

module _ {P : Type 0} (d : DomainState P) (c : ℕ) (words : List ℕ) (s : SlotId)
    (old new : SeatState View)
    (makes : Makes IsNode d new_next (MakeTells c) words s old new) where
  abbrev mid : SeatState View
  mid = makes.mid

  -- the life that the slot had
  life_is : (object_in new.view s).life ≡ (object_in mid.view s).life + 1
  life_is =
      let has = has_blank d words s old mid makes.begins in
      let said = makes.starts.walks.1.told.said.objects s has in
      ap (λ (o : Object). o.life) makes.object
      ∙ ap (λ (n : ℕ). n + 1) (sym (ap (λ (o : Object). o.life) said))

  payload_is : (object_in new.view s).payload ≡ words
  payload_is = ap (λ (o : Object). o.payload) makes.object

  -- IT IS NOTED LAST
  pub noted : new.view.client
      ≡ record old.view.client { raw = raw_of s new ∷ old.view.client.raw }
  noted =
      let step = makes.starts.walks.1 in
      let has = has_blank d words s old mid makes.begins in
      let payload : (object_in mid.view s).payload ≡ (object_in new.view s).payload =
      makes.begins.filled ∙ sym payload_is in
      ap (λ (x : SeatState View). x.view.client) makes.starts.walks.2
      ∙ step.told.client
      ∙ ap (λ (a : PlainAct).
      new_next (own_of mid.view) (own_of makes.starts.walks.0.view) mid.view.client a 0)
      (act_is d words s old mid makes.begins)
      ∙ ap (λ (o : Option Object). made s o mid.view.client) (own_object s mid has)
      ∙ ap (λ (v : View). made s (Some (object_in mid.view s)) v) makes.begins.goes.client
      ∙ (λ i. record old.view.client {
        raw = record {
          slot = s;
          life = sym life_is i;
          payload = payload i;
          first = None;
          second = None;
        } ∷ old.view.client.raw;
      })

  pub is_making : 0 < times s new.view.core.owned → IsMaking (raw_of s new) new
  is_making owned = record {
    owned = owned;
    life = refl;
    payload = refl;
    others = old.view.client.raw;
    raw = ap (λ (v : View). v.raw) noted;
  }

  grows : Grows old.view.client new.view.client
  grows = record {
    number = ap (λ (v : View). v.number) noted;
    here = ap (λ (v : View). v.here) noted;
    entries = ap (λ (v : View). v.entries) noted;
    cleared = ap (λ (v : View). v.cleared) noted;
    solid = λ e in'. subst (λ (v : View). Rattle.map_law.specs.Views.In e v.solid) (sym noted) in';
    led = λ e in'. subst (λ (v : View). Rattle.map_law.specs.Views.In e v.led) (sym noted) in';
  }

  -- IT IS NONE of those that the seat owned: of these it knows the life that it knew
  pub apart : KnowsStill old.view.core old new → (x : SlotId) → 0 < times x old.view.core.owned
      → x ≢ s
  apart knows x owned same =
      let has = owned_has x old owned in
      let before = ap (λ (o : Object). o.life) (makes.begins.goes.knows x has) in
      let after' = ap (λ (o : Object). o.life) (knows x has) in
      let one : (object_in new.view x).life ≡ (object_in mid.view x).life + 1 =
      subst (λ (y : SlotId). (object_in new.view y).life ≡ (object_in mid.view y).life + 1)
      (sym same) life_is in
      absurd (omega (arith, before, after', one))

  pub keeps_made : KnowsStill old.view.core old new → Keeps 1 1 none (λ x. Rattle.slot_store.specs.core_events.Counts.one x s) old new
  keeps_made knows =
      keeps_core 1 1 none (λ x. Rattle.slot_store.specs.core_events.Counts.one x s) old new
      (with_made s old.view.core) old.view.core _ makes.core refl
      (λ x. let t = times_push x s old.view.core.owned in omega (arith, t))
      (omega arith, omega arith) (omega arith, omega arith) knows (λ x less. less) grows

module _ {P : Type 0} (d : DomainState P) (c : ℕ) (words : List ℕ) (old new : SeatState View)
    (r : Result Handle MakeError)
    (made' : IfOk r (λ strong. Makes IsNode d new_next (MakeTells c) words strong.slot old new))
    (no_make : r ≡ Err refused.MakesSpent → new ≡ old)
    (no_add : r ≡ Err refused.AddsSpent → new ≡ old)
    (full : r ≡ Err refused.Full → Misses IsNode d old new)
    (knows : KnowsStill old.view.core old new) where
  pub making_ok : IfOk r (λ strong. 0 < times strong.slot new.view.core.owned)
      → IfOk r (λ node. IsMaking (raw_of node.slot new) new)
  making_ok owned = go r made' owned
    where
      go : (o : Result Handle MakeError)
          → IfOk o (λ strong. Makes IsNode d new_next (MakeTells c) words strong.slot old new)
          → IfOk o (λ strong. 0 < times strong.slot new.view.core.owned)
          → IfOk o (λ node. IsMaking (raw_of node.slot new) new)
      go (Ok h) makes owned = is_making d c words h.slot old new makes owned
      go (Err e) makes owned = tt

  pub apart_ok : IfOk r (λ node. (x : SlotId) → 0 < times x old.view.core.owned → x ≢ node.slot)
  apart_ok = go r made'
    where
      go : (o : Result Handle MakeError)
          → IfOk o (λ strong. Makes IsNode d new_next (MakeTells c) words strong.slot old new)
          → IfOk o (λ node. (x : SlotId) → 0 < times x old.view.core.owned → x ≢ node.slot)
      go (Ok h) makes = apart d c words h.slot old new makes knows
      go (Err e) makes = tt

  pub keeps_ok : OnErr r (new.view.client ≡ old.view.client) → Keeps 1 1 none (of_answer r) old new
  keeps_ok client = go r refl made' client
    where
      same : new ≡ old → Keeps 1 1 none none old new
      same is =
          subst (λ (x : SeatState View). Keeps 1 1 none none old x) (sym is)
          (Rattle.version_making.proofs.Keeping.keeps_most 0 0 1 1 none none old old (omega arith)
          (omega arith) (keeps_none old))

      go : (o : Result Handle MakeError) → r ≡ o
          → IfOk o (λ strong. Makes IsNode d new_next (MakeTells c) words strong.slot old new)
          → OnErr o (new.view.client ≡ old.view.client)
          → Keeps 1 1 none (of_answer o) old new
      go (Ok h) is makes client = keeps_made d c words h.slot old new makes knows
      go (Err refused.MakesSpent) is makes client = same (no_make is)
      go (Err refused.AddsSpent) is makes client = same (no_add is)
      go (Err refused.Full) is makes client =
          keeps_core 1 1 none none old new old.view.core old.view.core _
          (full is).goes.becomes.core refl (λ x. refl) (omega arith, omega arith)
          (omega arith, omega arith) knows (λ x less. less)
          (grows_same old.view.client new.view.client client)

  pub why_not : (r ≡ Err refused.MakesSpent → HasNoMake old.view.core)
      → (r ≡ Err refused.AddsSpent → IsSpent old.view.core)
      → IfErr r (λ why. IsWhy d why old new)
  why_not makes adds = go r refl
    where
      go : (o : Result Handle MakeError) → r ≡ o → IfErr o (λ why. IsWhy d why old new)
      go (Ok h) is = tt
      go (Err refused.MakesSpent) is =
          subst (λ (x : SeatState View). HasNoMake x.view.core) (sym (no_make is)) (makes is)
      go (Err refused.AddsSpent) is =
          subst (λ (x : SeatState View). IsSpent x.view.core) (sym (no_add is)) (adds is)
      go (Err refused.Full) is = record {
        mid = old;
        late = new;
        misses = full is;
        since = goes_none old.view.core old.view.core refl;
        till = goes_none new.view.core new.view.core refl;
      }
