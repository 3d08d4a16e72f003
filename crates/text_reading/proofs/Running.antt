-- How far a text was read, from slot to slot.
use Rattle.std.proofs.Common.{◌≡◌, ◌≢◌, ℕ, ◌+◌, ◌-◌, ◌*◌, ◌<◌, ◌≤◌, List, [], ◌∷◌, ◌++◌, length, ap, sym, ◌∙◌, subst, arith}
use Rattle.std.specs.Prelude.{Option, Some, None, min, slice_set}
use Rattle.snapshot_ptr.specs.plain_state.declared.slot.Kind.TheVariants.{Strong}
use Rattle.snapshot_ptr.specs.plain_state.declared.slot.SlotId.{SlotId}
use Rattle.snapshot_ptr.specs.plain_state.Lists.{times}
use Rattle.snapshot_ptr.specs.plain_protocol.Owns.{HasSlot, Object}
use Rattle.slot_store.specs.core_events.declared.view.CoreView.{CoreView}
use Rattle.slot_store.specs.core_events.declared.view.Note.TheVariants as note
use Rattle.slot_store.specs.core_events.Shows.{show_seat}
use Rattle.slot_store.specs.core_events.Steps.{with_note}
use Rattle.slot_store.specs.core_events.Views.{HoldsStrongly, note_of}
use Rattle.slot_store.specs.domain_rule.Views.{object_in}
use Rattle.slot_store.specs.acquire_retire.Domains.{DomainState}
use Rattle.slot_store.specs.acquire_retire.Notes.{least_free}
use Rattle.slot_store.specs.acquire_retire.Seats.{SeatState}
use Rattle.slot_store.specs.control_word.Moves.{KnowsStill}
use Rattle.slot_store.specs.control_word.Resting.{IsAtRest}
use Rattle.snapshot_ptr.proofs.Below.protected_loads_Noting.{more_has, snapshot_gains, written}
use Rattle.snapshot_ptr.proofs.Below.protected_loads_Telling.{holds_has}
use Rattle.snapshot_ptr.specs.Handles.{IsHeldBy}
use Rattle.snapshot_ptr.proofs.Under.{IsFreeWord, has_strongly, least_is_free}
use Rattle.directory_calls.specs.directory_law.declared.view.Ran.{Ran}
use Rattle.directory_calls.specs.directory_law.Views.{Each}
use Rattle.directory_calls.specs.directory_law.Bytes.{piece_bytes, text_bytes}
use Rattle.directory_calls.specs.directory_law.Lessons.{first_ran, reads_on}
use Rattle.directory_calls.specs.directory_law.Payloads.{IsHead, IsText, Text, size}
use Rattle.directory_calls.proofs.Parts.{LearnsBy, Place, part_none, part_then}
use Rattle.text_reading.specs.Going.{ComesTo, IsReading, ReadsOn, freed, last_run, one_if}
use Rattle.text_reading.specs.Reading.{HasBegun, HasTwoFree, begun}
use Rattle.text_reading.proofs.Cuts.{HasLeft, bytes_head, bytes_more, each_more, left_head, left_part, left_some}
use Rattle.text_reading.proofs.LetGo.{IsFreeIn, free_in_rest, hold_after, least_there, one_free, rest_is, with_hold}
use Rattle.text_reading.proofs.Steps.{comes_then, freed_trail}

-- the text of s was read up to a slot, and these are the payloads so far
abbrev pub ran_to : {V : Type 0} → SlotId → SeatState V → Text → SlotId → SeatState V → Ran
ran_to s old before slot now = record {
  slot = s;
  life = (object_in old.view s).life;
  before = before;
  now = slot;
  now_life = (object_in now.view slot).life;
}

-- from `old` on the seat has read the head of s and n parts, the last of them in a slot that it
-- holds by this word, or by its own reference; these bytes were read, and so many are left
pub record IsUpTo {P V : Type 0} (fits : List ℕ → Type 0) (d : DomainState P) (l : Place V)
    (s : SlotId) (n left : ℕ) (bytes : List ℕ) (word : Option ℕ) (slot : SlotId)
    (old now : SeatState V) : Type 0 where
  pub steps : ℕ
  pub few : steps + one_if word ≤ 16 + 20 * n
  pub core : ComesTo steps (with_hold word slot old.view.core) old.view.core now.view.core
  pub free : IsFreeIn word old.view.core
  pub held : IsHeldBy word slot now.view.core.owned now.view.core.notes
  pub knows : KnowsStill old.view.core old now
  pub before : Text
  pub earlier : List Ran
  pub ran : (l.seen now.view.client).ran ≡ ran_to s old before slot now ∷ earlier
  pub some_left : HasLeft left before
  pub read : bytes ≡ text_bytes before
  pub fit : Each fits before
  pub learns : LearnsBy l 0 old.view.client now.view.client
  pub rest : IsAtRest d now

min_other : (n : ℕ) → min n 120 ≡ min 120 n
min_other n = grind arith

module _ {P V : Type 0} (fits : List ℕ → Type 0) (d : DomainState P) (l : Place V) (s : SlotId)
    (old : SeatState V) (owns : 0 < times s old.view.core.owned)
    (four : length old.view.core.notes ≡ 4) where
  has_head : HasSlot (show_seat old.view.core) s
  has_head = holds_has old.view.core s (omega (arith, owns))

  pub holds_head : HoldsStrongly old.view.core s
  holds_head = omega (arith, owns)

  -- THE HEAD was read
  pub head_read : HasBegun l.seen s old → IsHead (object_in old.view s).payload
      → (now : SeatState V) → ComesTo 16 old.view.core old.view.core now.view.core
      → now.view.client ≡ old.view.client → KnowsStill old.view.core old now → IsAtRest d now
      → (bytes : List ℕ) (n left : ℕ) → n ≡ size (object_in old.view s).payload
      → left ≡ n - 120
      → bytes ≡ piece_bytes (min n 120) (object_in old.view s).payload
      → fits (object_in old.view s).payload
      → IsUpTo fits d l s 0 left bytes None s old now
  head_read begins head now core client knows rest bytes n left is less put fit = record {
    steps = 16;
    few = omega arith;
    core = core;
    free = tt;
    held = subst (λ (v : CoreView). 0 < times s v.owned) (sym core.1) owns;
    knows = knows;
    before = (object_in old.view s).payload ∷ [];
    earlier = begins.0;
    ran = ap (λ v. (l.seen v).ran) client
        ∙ (begins.1
        ∙ ap (λ (o : Object). record (begun s old) { now_life = o.life } ∷ begins.0)
        (sym (knows s has_head)));
    some_left = subst (λ (k : ℕ). HasLeft k ((object_in old.view s).payload ∷ []))
        (sym (less ∙ ap (λ (k : ℕ). k - 120) is)) (left_head (object_in old.view s).payload head);
    read = put
        ∙ (ap (λ (k : ℕ). piece_bytes k (object_in old.view s).payload)
        (ap (λ (k : ℕ). min k 120) is ∙ min_other (size (object_in old.view s).payload))
        ∙ sym (bytes_head (object_in old.view s).payload));
    fit = (fit, tt);
    learns = subst (λ v. LearnsBy l 0 old.view.client v) (sym client)
        (part_none l old.view.client);
    rest = rest;
  }

  module _ (two : HasTwoFree old.view.core) (n left : ℕ) (bytes : List ℕ) (w : Option ℕ)
      (slot : SlotId) (now : SeatState V) (up : IsUpTo fits d l s n left bytes w slot old now) where
    -- A PART MORE may be read
    free_now_by : (m k : ℕ) (v : CoreView) → ComesTo m v old.view.core now.view.core
        → IsFreeWord k v → IsFreeWord k now.view.core
    free_now_by m k v core free = subst (IsFreeWord k) (sym core.1) free

    pub word_free : least_free now.view.core ≢ None
    word_free =
        let one = one_free old.view.core four w slot up.free two in
        least_there now.view.core one.0
        (free_now_by up.steps one.0 (with_hold w slot old.view.core) up.core one.1)

    run_is : last_run l.seen now ≡ ran_to s old up.before slot now
    run_is = ap first_ran up.ran

    pub reading : IsReading l.seen slot now
    reading = record {
      earlier = up.earlier;
      last = up.ran ∙ ap (λ (r : Ran). r ∷ up.earlier) (sym run_is);
      now = ap (λ (r : Ran). r.now) run_is;
      life = ap (λ (r : Ran). r.now_life) run_is;
    }

    pub more : 0 < left → ¬ (IsText (last_run l.seen now).before)
    more some' = subst (λ (r : Ran). ¬ (IsText r.before)) (sym run_is)
        (left_some left up.before up.some_left some')

    -- IT WAS READ
    module _ (j : ℕ) (part : SlotId) (mid : SeatState V)
        (least : least_free now.view.core ≡ Some j)
        (moves : ComesTo (3 + one_if w)
        (freed w (with_note j (note.Valid Strong part) now.view.core))
        now.view.core mid.view.core)
        (knows : KnowsStill (freed w now.view.core) now mid)
        (reads : ReadsOn l.seen part now mid)
        (learns : LearnsBy l 0 now.view.client mid.view.client) where
      free_now : IsFreeWord j (with_hold w slot old.view.core)
      free_now = let f = least_is_free now.view.core j least in
          subst (λ (v : CoreView). IsFreeWord j v) up.core.1 f

      free_part : IsFreeWord j old.view.core
      free_part = free_in_rest old.view.core four w j slot up.free free_now

      core_mid : ComesTo (up.steps + (3 + one_if w)) (with_hold (Some j) part old.view.core)
          old.view.core mid.view.core
      core_mid =
          comes_then up.steps (3 + one_if w) old.view.core (with_hold w slot old.view.core)
          (with_hold (Some j) part old.view.core) now.view.core mid.view.core up.core (
            moves.0,
            moves.1
                ∙ (ap (λ (v : CoreView).
                record (freed w (with_note j (note.Valid Strong part) v)) {
                  trail = now.view.core.trail ++ moves.0;
                }) up.core.1
                ∙ (freed_trail w (with_note j (note.Valid Strong part)
                (with_hold w slot old.view.core)) _ _
                ∙ ap (λ (v : CoreView). record v { trail = now.view.core.trail ++ moves.0 })
                (hold_after old.view.core four w j slot part up.free free_now))),
            moves.2,
          )

      there : j < length old.view.core.notes
      there = omega (arith, four, free_part.1)

      held_mid : IsHeldBy (Some j) part mid.view.core.owned mid.view.core.notes
      held_mid = (
        free_part.0,
        free_part.1,
        ap (λ (v : CoreView). note_of v j) core_mid.1
            ∙ written old.view.core j there (note.Valid Strong part),
      )

      pub holds_part : HoldsStrongly mid.view.core part
      holds_part = has_strongly (record { slot = part; word = Some j }) mid.view.core held_mid

      has_part : HasSlot (show_seat mid.view.core) part
      has_part = holds_has mid.view.core part (omega (arith, holds_part))

      has_mid : (x : SlotId) → HasSlot (show_seat old.view.core) x
          → HasSlot (show_seat mid.view.core) x
      has_mid x has =
          subst (λ (v : CoreView). HasSlot (show_seat v) x) (sym core_mid.1)
          (more_has old.view.core (slice_set old.view.core.notes j (note.Valid Strong part))
          (old.view.core.trail ++ core_mid.0) Strong part
          (snapshot_gains old.view.core j there Strong part free_part.2) x has)

      knows_mid : KnowsStill old.view.core old mid
      knows_mid x has =
          knows x (subst (λ (v : CoreView). HasSlot (show_seat v) x)
          (sym (rest_is old now w slot up.core up.free)) has)
          ∙ up.knows x has

      abbrev object : Object
      object = object_in mid.view part

      ran_mid : (l.seen mid.view.client).ran
          ≡ ran_to s old (up.before ++ object.payload ∷ []) part mid
          ∷ (ran_to s old up.before slot now ∷ up.earlier)
      ran_mid = reads.ran
          ∙ (λ i. reads_on (run_is i) part object ∷ up.ran i)

      cut : (size object.payload ≡ 65536 + min 120 left)
          × HasLeft (left - 120) (up.before ++ object.payload ∷ [])
      cut = left_part left up.before reads.rest object.payload up.some_left
          (subst (λ (r : Ran). IsText ((r.before ++ object.payload ∷ []) ++ reads.rest)) run_is
          reads.goes_on)

      pub part_read : (late : SeatState V)
          → ComesTo 16 mid.view.core mid.view.core late.view.core
          → late.view.client ≡ mid.view.client → KnowsStill mid.view.core mid late
          → IsAtRest d late → (words new : List ℕ) (more : ℕ) → words ≡ object.payload → fits words
          → more ≡ left - 120
          → new ≡ bytes ++ piece_bytes (min left 120) words
          → IsUpTo fits d l s (n + 1) more new (Some j) part old late
      part_read late moves' client knows' rest words new more is fit less put =
          let o = knows' part has_part in
          let most = up.few in record {
            steps = up.steps + (3 + one_if w) + 16;
            few = omega (arith, most);
            core =
                comes_then (up.steps + (3 + one_if w)) 16 old.view.core
                (with_hold (Some j) part old.view.core) (with_hold (Some j) part old.view.core)
                mid.view.core late.view.core core_mid (
                  moves'.0,
                  moves'.1 ∙ ap (λ (v : CoreView).
                      record v { trail = mid.view.core.trail ++ moves'.0 }) core_mid.1,
                  moves'.2,
                );
            free = free_part;
            held = subst (λ (v : CoreView). IsHeldBy (Some j) part v.owned v.notes) (sym moves'.1)
                held_mid;
            knows = λ x has. knows' x (has_mid x has) ∙ knows_mid x has;
            before = up.before ++ object.payload ∷ [];
            earlier = ran_to s old up.before slot now ∷ up.earlier;
            ran = ap (λ v. (l.seen v).ran) client
                ∙ (ran_mid
                ∙ ap (λ (x : Object).
                record (ran_to s old (up.before ++ object.payload ∷ []) part mid) {
                  now_life = x.life;
                } ∷ (ran_to s old up.before slot now ∷ up.earlier)) (sym o));
            some_left = subst (λ (k : ℕ). HasLeft k (up.before ++ object.payload ∷ [])) (sym less)
                cut.1;
            read = put
                ∙ (ap (λ (p : List ℕ). bytes ++ piece_bytes (min left 120) p) is
                ∙ (ap (λ (k : ℕ). bytes ++ piece_bytes k object.payload) (min_other left)
                ∙ (ap (λ (b : List ℕ). b ++ piece_bytes (min 120 left) object.payload) up.read
                ∙ sym (bytes_more left up.before object.payload up.some_left cut.0))));
            fit = each_more fits up.before object.payload up.fit (subst fits is fit);
            learns = subst (λ v. LearnsBy l 0 old.view.client v) (sym client)
                (part_then l 0 0 old.view.client now.view.client mid.view.client up.learns learns);
            rest = rest;
          }
