-- An object is made: its slot is claimed, each of its sixteen words is filled, and it starts.
use Rattle.std.proofs.Common.{◌≡◌, ℕ, ◌+◌, ◌<◌, ◌≤◌, List, [], ◌∷◌, ◌++◌, length, set, take, refl, ap, sym, ◌∙◌, subst, arith, Some, None, false, append-nil, append_assoc}
use Rattle.std.proofs.lemmas.List.{length-set, get_or-set_same, set-set, take_all, take_more_set}
use Rattle.plain_state.specs.declared.act.PlainAct.{PlainAct}
use Rattle.plain_state.specs.declared.act.PlainAct.TheVariants as act
use Rattle.plain_state.specs.declared.slot.SlotId.{SlotId}
use Rattle.plain_state.specs.declared.slot.PlainSlot.{PlainSlot}
use Rattle.plain_state.specs.declared.slot.Stage.TheVariants.{Free, Blank, Live}
use Rattle.plain_state.specs.State.{Plain, PlainSeat, new_seat, new_slot, seat_at, slot_at, with_seat, with_slot}
use Rattle.plain_state.specs.Steps.{Does, IsSeat}
use Rattle.plain_state.specs.Runs.{Runs}
use Rattle.plain_store.specs.Heaps.{fills, made_slot, Makes}

-- the words from i on are written over a payload
abbrev pub written : List ℕ → ℕ → List ℕ → List ℕ
written pl i [] = pl
written pl i (word ∷ words) = written (set pl i word) (i + 1) words

written_is : (pl words : List ℕ) (i : ℕ) → length pl ≡ i + length words → written pl i words ≡ take i pl ++ words
written_is pl [] i e = sym (ap (λ (l : List ℕ). l ++ []) (take_all i pl (omega arith)) ∙ append-nil pl)
written_is pl (word ∷ words) i e =
    written_is (set pl i word) words (i + 1) (omega (arith, length-set pl i word))
    ∙ ap (λ (l : List ℕ). l ++ words) (take_more_set pl i word (omega arith))
    ∙ append_assoc (take i pl) (word ∷ []) words

-- seat 0 fills s, whose payload is pl
abbrev pub filling : Plain → SlotId → List ℕ → Plain
filling p s pl = with_slot (with_seat p 0 (record (seat_at p 0) { filling = Some s })) s (record (slot_at p s) { stage = Blank; payload = pl })

-- the object is made
abbrev pub made : Plain → SlotId → List ℕ → Plain
made p s pl =
    let v = seat_at p 0 in
    with_slot (with_seat p 0 (record v { owned = v.owned ++ s ∷ []; filling = None; adds = v.adds + 1 })) s
    (made_slot (slot_at p s) pl)

module _ (p : Plain) (s : SlotId) (here : IsSeat p 0) (at : s.0 < length p.slots) where
  abbrev claims : PlainSeat
  claims = record (seat_at p 0) { filling = Some s }

  abbrev starts : PlainSeat
  starts = record (seat_at p 0) { owned = (seat_at p 0).owned ++ s ∷ []; filling = None; adds = (seat_at p 0).adds + 1 }

  abbrev blank : List ℕ → PlainSlot
  blank pl = record (slot_at p s) { stage = Blank; payload = pl }

  abbrev alive : List ℕ → PlainSlot
  alive pl = record (slot_at p s) { stage = Live; marked = false; life = (slot_at p s).life + 1; payload = pl }

  seat_then : (pl : List ℕ) → seat_at (filling p s pl) 0 ≡ record (seat_at p 0) { filling = Some s }
  seat_then pl = get_or-set_same p.seats 0 (record (seat_at p 0) { filling = Some s }) new_seat here.0

  slot_then : (pl : List ℕ) → slot_at (filling p s pl) s ≡ record (slot_at p s) { stage = Blank; payload = pl }
  slot_then pl = get_or-set_same p.slots s.0 (record (slot_at p s) { stage = Blank; payload = pl }) new_slot at

  seat_stays : (pl : List ℕ) → IsSeat (filling p s pl) 0
  seat_stays pl = (omega (arith, length-set p.seats 0 (record (seat_at p 0) { filling = Some s }), here.0), ap (λ (v : PlainSeat). v.left) (seat_then pl) ∙ here.1)

  -- one more word is filled
  filled : (pl : List ℕ) (i word : ℕ)
      → with_slot (filling p s pl) s (record (slot_at (filling p s pl) s) { payload = set (slot_at (filling p s pl) s).payload i word })
      ≡ filling p s (set pl i word)
  filled pl i word =
      ap (λ (x : PlainSlot). with_slot (filling p s pl) s (record x { payload = set x.payload i word })) (slot_then pl)
      ∙ ap (λ (xs : List PlainSlot). record (filling p s pl) { slots = xs }) (set-set p.slots s.0 (blank pl) (blank (set pl i word)))

  fill_one : (pl : List ℕ) (i word : ℕ) → i < 16 → Does (filling p s pl) 0 (act.Fill s i word) 0 (filling p s (set pl i word))
  fill_one pl i word lt = (
    seat_stays pl,
    (ap (λ (x : PlainSlot). x.stage) (slot_then pl), ap (λ (v : PlainSeat). v.filling) (seat_then pl), lt, refl, sym (filled pl i word)),
  )

  fill_all : (words pl : List ℕ) (i : ℕ) (more : List PlainAct) (q : Plain) → i + length words ≤ 16
      → Runs (filling p s (written pl i words)) 0 more q → Runs (filling p s pl) 0 (fills s i words ++ more) q
  fill_all [] pl i more q le r = r
  fill_all (word ∷ words) pl i more q le r =
      (filling p s (set pl i word), 0, fill_one pl i word (omega arith), fill_all words (set pl i word) (i + 1) more q (omega arith) r)

  -- the filled object starts
  started : Plain → Plain
  started m =
      with_slot
      (with_seat m 0 (record (seat_at m 0) { owned = (seat_at m 0).owned ++ s ∷ []; filling = None; adds = (seat_at m 0).adds + 1 }))
      s (record (slot_at m s) { stage = Live; marked = false; life = (slot_at m s).life + 1 })

  starts_made : (pl : List ℕ) → started (filling p s pl) ≡ made p s pl
  unfolding started
  starts_made pl =
      ap (λ (v : PlainSeat). with_slot (with_seat (filling p s pl) 0 (record v { owned = v.owned ++ s ∷ []; filling = None; adds = v.adds + 1 })) s
      (record (slot_at (filling p s pl) s) { stage = Live; marked = false; life = (slot_at (filling p s pl) s).life + 1 })) (seat_then pl)
      ∙ ap (λ (x : PlainSlot). with_slot (with_seat (filling p s pl) 0 starts) s (record x { stage = Live; marked = false; life = x.life + 1 })) (slot_then pl)
      ∙ ap (λ (vs : List PlainSeat). record p { seats = vs; slots = set (set p.slots s.0 (blank pl)) s.0 (alive pl) }) (set-set p.seats 0 claims starts)
      ∙ ap (λ (xs : List PlainSlot). record p { seats = set p.seats 0 starts; slots = xs }) (set-set p.slots s.0 (blank pl) (alive pl))

  make_last : (pl : List ℕ) → Does (filling p s pl) 0 (act.Make s) 0 (made p s pl)
  unfolding started
  make_last pl = (
    seat_stays pl,
    (ap (λ (x : PlainSlot). x.stage) (slot_then pl), ap (λ (v : PlainSeat). v.filling) (seat_then pl), refl, sym (starts_made pl)),
  )

  pub makes : (payload : List ℕ) → (slot_at p s).stage ≡ Free → (seat_at p 0).filling ≡ None → length payload ≡ 16 → length (slot_at p s).payload ≡ 16 → Makes p s payload (made p s payload)
  makes payload free empty len old = (
    filling p s (slot_at p s).payload,
    0,
    (here, (at, free, empty, refl, refl)),
    fill_all payload (slot_at p s).payload 0 (act.Make s ∷ []) (made p s payload) (omega (arith, len))
        (made p s payload, 0, subst (λ (pl : List ℕ). Does (filling p s pl) 0 (act.Make s) 0 (made p s payload)) (sym (written_is (slot_at p s).payload payload 0 (omega (arith, len, old)))) (make_last payload), refl),
  )

  -- the fills lead nowhere else
  filled_only : (words pl : List ℕ) (i : ℕ) (more : List PlainAct) (q : Plain)
      → Runs (filling p s pl) 0 (fills s i words ++ more) q → Runs (filling p s (written pl i words)) 0 more q
  filled_only [] pl i more q r = r
  filled_only (word ∷ words) pl i more q (m, found, (_, (_, _, _, _, e)), r) =
      filled_only words (set pl i word) (i + 1) more q
      (subst (λ (z : Plain). Runs z 0 (fills s (i + 1) words ++ more) q) (e ∙ filled pl i word) r)

  made_only : (pl : List ℕ) (q : Plain) → Runs (filling p s pl) 0 (act.Make s ∷ []) q → q ≡ made p s pl
  unfolding started
  made_only pl q (m, found, (_, (_, _, _, e)), r) = r ∙ e ∙ starts_made pl

-- what a make leads to, and where it may be
pub record IsMake (p : Plain) (s : SlotId) (payload : List ℕ) (q : Plain) : Type 0 where
  pub there : s.0 < length p.slots
  pub free : (slot_at p s).stage ≡ Free
  pub state : q ≡ made p s payload

pub make_is : (p q : Plain) (s : SlotId) (payload : List ℕ) → length payload ≡ 16
    → ((t : SlotId) → t.0 < length p.slots → length (slot_at p t).payload ≡ 16) → Makes p s payload q → IsMake p s payload q
make_is p q s payload len old (m, found, (here, (at, free, _, _, e)), r) = record {
  there = at;
  free = free;
  state =
      let back : Runs (filling p s (slot_at p s).payload) 0 (fills s 0 payload ++ act.Make s ∷ []) q = subst (λ (z : Plain). Runs z 0 (fills s 0 payload ++ act.Make s ∷ []) q) e r in
      made_only p s here at payload q
      (subst (λ (pl : List ℕ). Runs (filling p s pl) 0 (act.Make s ∷ []) q) (written_is (slot_at p s).payload payload 0 (omega (arith, len, old s at)))
      (filled_only p s here at payload (slot_at p s).payload 0 (act.Make s ∷ []) q back));
}
