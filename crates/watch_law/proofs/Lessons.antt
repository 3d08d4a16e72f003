-- What a seat finds in the cell of an id, and in field 0 of what it holds.
use Rattle.std.proofs.Common.{◌≡◌, inl, inr, ⊎_elim, ℕ, zero, suc, ◌+◌, ◌<◌, Bool, true, false, List, [], ◌∷◌, ◌++◌, length, set, refl, ap, sym, ◌∙◌, subst, arith, Option, Some, None}
use Rattle.std.specs.Prelude.{slice_index, if◌then◌else◌}
use Rattle.std.proofs.lemmas.Bool.Decides.{eqb_tells}
use Rattle.std.proofs.lemmas.List.Elements.{Contains-push_cases}
use Rattle.plain_protocol.specs.plain_state.declared.act.EventPlace.{EventPlace}
use Rattle.plain_protocol.specs.plain_state.declared.act.EventPlace.TheVariants.{Field, WeakCell}
use Rattle.plain_protocol.specs.plain_state.declared.act.PlainAct.{PlainAct}
use Rattle.plain_protocol.specs.plain_state.declared.act.PlainAct.TheVariants as act
use Rattle.plain_protocol.specs.plain_state.declared.slot.SlotId.{SlotId}
use Rattle.plain_protocol.specs.plain_state.declared.slot.Stage.TheVariants.{Live}
use Rattle.plain_protocol.specs.plain_state.State.{Plain, slot_at, stage_at}
use Rattle.plain_protocol.specs.plain_state.Places.{content}
use Rattle.plain_protocol.specs.plain_state.Steps.{Does, word_of}
use Rattle.plain_protocol.specs.Acts.{IsCalm}
use Rattle.plain_protocol.specs.Laws.{Keeps}
use Rattle.plain_protocol.specs.Owns.{Object, OwnPart, object_of, own_part}
use Rattle.watch_law.specs.Payloads.{IsDelivery, told}
use Rattle.watch_law.specs.Views.{Address, View, view_at, no_view, IsAddressed}
use Rattle.queue_law.specs.Words.{id}
use Rattle.watch_law.specs.Law.{Area, IsTo, IsNotedAs, WatchLaw}
use Rattle.watch_law.specs.Steps.{LooksAt, life_in, payload_in, address_by, read_slot}
use Rattle.watch_law.specs.Lessons.{FindReady, find_next, FindTells, ReadReady, reads, reads_word, read_next, ReadTells}
use Rattle.watch_law.proofs.Own.{known_life, known_payload, holds_has, holds_live, object_is}
use Rattle.watch_law.proofs.Quiet.{watch_calm}
use Rattle.watch_law.proofs.Changed.{law_turn, same_view, knows_still}

-- a look or a check finds what the place holds, and leaves every slot
pub record Looked (p q : Plain) (at : EventPlace) (step : PlainAct) (found : ℕ) : Type 0 where
  pub calm : IsCalm step
  pub found_is : found ≡ word_of (content p at)
  pub slots : (s : SlotId) → slot_at q s ≡ slot_at p s

pub looked : (p q : Plain) (n : ℕ) (at : EventPlace) (step : PlainAct) (found : ℕ) → LooksAt at step
    → Does p n step found q → Looked p q at step found
looked p q n at step found looks does =
    ⊎_elim
    (λ (e : step ≡ act.Look at).
    let d = subst (λ (a : PlainAct). Does p n a found q) e does in
    record {
      calm = subst IsCalm (sym e) tt;
      found_is = d.1.1;
      slots = λ s. ap (λ (x : Plain). slot_at x s) d.1.2;
    })
    (λ check.
    let d = subst (λ (a : PlainAct). Does p n a found q) check.1 does in
    record {
      calm = subst IsCalm (sym check.1) tt;
      found_is = d.1.1;
      slots = λ s. ⊎_elim (λ (e : q ≡ p). ap (λ (x : Plain). slot_at x s) e)
          (λ taken. ap (λ (x : Plain). slot_at x s) taken.2.2) d.1.2;
    })
    looks

-- FIND
pub find_keeps : (z : Area) (c : ℕ)
    → Keeps (WatchLaw z) no_view (FindReady z c) find_next (FindTells z c)
find_keeps z c p q views n step found meets low ready does =
    let l = looked p q n (WeakCell (z.first + c)) step found ready.looks does in (
      same_view z q views n (watch_calm z p q n step found views meets l.calm does),
      record {
        same = refl;
        observer = λ s at. meets.law.cells c s ready.inside at;
        own = λ here seat. meets.law.own_cells n c here ready.inside (seat ∙ meets.law.number n here);
      },
    )

-- READ
address_same : (a b : Address) → a.slot ≡ b.slot → a.life ≡ b.life → a.event ≡ b.event
    → a.observer ≡ b.observer → a.observer_life ≡ b.observer_life → a.id ≡ b.id → a ≡ b
address_same a b slot life event observer observer_life id_is = λ i. record {
  slot = slot i;
  life = life i;
  event = event i;
  observer = observer i;
  observer_life = observer_life i;
  id = id_is i;
}

module _ (z : Area) (p q : Plain) (views : List View) (n : ℕ) (d : SlotId)
    (law : WatchLaw z p views) (kept : WatchLaw z q views) (low : n < length views)
    (live : stage_at p d ≡ Live) (life : life_in (own_part p n) d ≡ (slot_at p d).life)
    (payload : payload_in (own_part p n) d ≡ (slot_at p d).payload)
    (slots : (s : SlotId) → slot_at q s ≡ slot_at p s) where
  abbrev v : View
  v = view_at views n

  module _ (o : SlotId) (first : (slot_at p d).first ≡ Some o) where
    -- what is read in a delivery is noted
    module _ (x : Object) (has : x ≡ object_of (slot_at q o)) (is : IsDelivery (slot_at p d).payload) where
      abbrev new : Address
      new = address_by (own_part p n) d (Some x) o

      noted : IsNotedAs views d (slot_at p d).life o
      noted = law.fields d o live is first

      to : IsTo p noted.address
      to = (law.addressed noted.address noted.noted).holds
          (ap (λ r. stage_at p r) noted.slot ∙ live)
          (ap (λ r. (slot_at p r).life) noted.slot ∙ sym noted.life)

      object : x ≡ object_of (slot_at p o)
      object = has ∙ ap object_of (slots o)

      new_is : new ≡ noted.address
      new_is = address_same new noted.address (sym noted.slot) (life ∙ sym noted.life)
          (ap told payload ∙ (ap (λ r. told (slot_at p r).payload) (sym noted.slot) ∙ to.event))
          (sym noted.observer)
          (ap (λ (y : Object). y.life) object
          ∙ (ap (λ r. (slot_at p r).life) (sym noted.observer) ∙ to.life))
          (ap (λ (y : Object). told y.payload) object
          ∙ (ap (λ r. told (slot_at p r).payload) (sym noted.observer) ∙ to.observer.1))

      abbrev w : View
      w = record (view_at views n) { read = (view_at views n).read ++ new ∷ [] }

      law_reads : WatchLaw z q (set views n w)
      law_reads = law_turn z q views n w kept (record {
        low = low;
        number = kept.number n;
        knows = knows_still z q views n w kept refl refl;
        fresh = kept.fresh n;
        apart = λ m ne some slot same. ne (sym (kept.apart n m some slot same));
        addressed = refl;
        read = λ a has_a. ⊎_elim (λ old. law.read a (n, old))
            (λ e. subst (IsAddressed views) (sym new_is ∙ e) noted.noted)
            (Contains-push_cases (view_at views n).read new a has_a);
      })

      tells : ReadTells p q n v w
      tells = inr (new, refl, subst (IsTo p) (sym new_is) to, life)

    abbrev Result : View → Type 0
    Result w = WatchLaw z q (set views n w) × ReadTells p q n v w

    by_object : (x : Option Object) → (own_part q n).objects o ≡ x → Result (reads (own_part p n) d x o v)
    by_object None has = (same_view z q views n kept, inl refl)
    by_object (Some x) has = ⊎_elim
        (λ t.
        let is : IsDelivery (slot_at p d).payload = subst IsDelivery payload t.1 in
        let object = object_is q n o x has in
        subst (λ b. Result (if b then w x object is else v)) (sym t.0)
        (law_reads x object is, tells x object is))
        (λ f. subst (λ b. Result (if b then record v {
          read = v.read ++ address_by (own_part p n) d (Some x) o ∷ [];
        } else v)) (sym f.0) (same_view z q views n kept, inl refl))
        (eqb_tells (slice_index (payload_in (own_part p n) d) 0) 2)

  by_place : (place : Option SlotId) → (slot_at p d).first ≡ place → (found : ℕ) → found ≡ word_of place
      → let w = reads_word d (own_part p n) (own_part q n) v found in
      WatchLaw z q (set views n w) × ReadTells p q n v w
  by_place None at found e =
      subst (λ k. let w = reads_word d (own_part p n) (own_part q n) v k in
      WatchLaw z q (set views n w) × ReadTells p q n v w) (sym e)
      (same_view z q views n kept, inl refl)
  by_place (Some o) at found e =
      let next : found ≡ suc o.0 = omega arith in
      subst (λ k. let w = reads_word d (own_part p n) (own_part q n) v k in
      WatchLaw z q (set views n w) × ReadTells p q n v w) (sym next)
      (by_object o at ((own_part q n).objects o) refl)

pub read_slot_is : (d : SlotId) (step : PlainAct) → LooksAt (Field d 0) step → read_slot step ≡ d
read_slot_is d step looks = ⊎_elim (λ e. ap read_slot e) (λ c. ap read_slot c.1) looks

pub read_keeps : (z : Area) → Keeps (WatchLaw z) no_view ReadReady read_next ReadTells
read_keeps z p q views n step found meets low ready does =
    let d = ready.slot in
    let l = looked p q n (Field ready.slot 0) step found ready.looks does in
    let count = meets.count in
    let kept = watch_calm z p q n step found views meets l.calm does in
    let has = holds_has p n ready.slot ready.held in
    subst (λ s. let w = reads_word s (own_part p n) (own_part q n) (view_at views n) found in
    WatchLaw z q (set views n w) × ReadTells p q n (view_at views n) w)
    (sym (read_slot_is ready.slot step ready.looks))
    (by_place z p q views n ready.slot meets.law kept low
    (holds_live p n ready.slot meets.lawful (omega arith) ready.held) (known_life p n ready.slot has)
    (known_payload p n ready.slot has) l.slots (slot_at p ready.slot).first refl found l.found_is)

-- a read keeps what was addressed, so the rest of a pair minds none
pub reads_keep : (own after : OwnPart) (v : View) (step : PlainAct)
    (found : ℕ) → (read_next own after v step found).addressed ≡ v.addressed
reads_keep own after v step zero = refl
reads_keep own after v step (suc o) = by_object (after.objects (id o))
  where
    by_test : (b : Bool) (a : Address)
        → (if b then record v { read = v.read ++ a ∷ [] } else v).addressed ≡ v.addressed
    by_test true a = refl
    by_test false a = refl

    by_object : (x : Option Object) → (reads own (read_slot step) x (id o) v).addressed ≡ v.addressed
    by_object None = refl
    by_object (Some x) = by_test _ _
