-- The announcement words by which a walk holds its nodes, in turn.
use Rattle.std.proofs.Common.{◌≡◌, ◌≢◌, ◌⊎◌, inl, inr, ⊎_elim, ℕ, zero, suc, ◌<◌, Bool, true, false, List, [], ◌∷◌, length, refl, ap, sym, ◌∙◌, subst, arith}
use Rattle.std.specs.Prelude.{Option, Some, None, ◌==◌, slice_set, if◌then◌else◌}
use Rattle.std.proofs.lemmas.Bool.Decides.{nat_tests}
use Rattle.std.proofs.lemmas.List.{length-set}
use Rattle.map_law.specs.plain_state.declared.slot.Kind.TheVariants.{Strong}
use Rattle.map_law.specs.plain_state.declared.slot.SlotId.{SlotId}
use Rattle.map_law.specs.plain_protocol.Owns.{HasSlot}
use Rattle.protected_loads.specs.core_events.declared.view.CoreView.{CoreView}
use Rattle.protected_loads.specs.core_events.declared.view.Move.{Move}
use Rattle.protected_loads.specs.core_events.declared.view.Note.{Note}
use Rattle.protected_loads.specs.core_events.declared.view.Note.TheVariants as stands
use Rattle.protected_loads.specs.core_events.Shows.{show_seat}
use Rattle.protected_loads.specs.core_events.Steps.{with_note}
use Rattle.protected_loads.specs.core_events.Views.{HoldsStrongly, note_of}
use Rattle.protected_loads.proofs.Below.core_functions_Snapshots.{snapshot_at}
use Rattle.protected_loads.proofs.Noting.{beside, more_has, second_stays, snapshot_gains, written, written_back}
use Rattle.protected_loads.proofs.Telling.{holds_has}
use Rattle.version_reading.specs.Reading.{freed, held_by}
use Rattle.version_reading.specs.Walks.{next_word}
use Rattle.version_reading.proofs.Events.{Minds}

-- two writes in two places
set_beside : (ns : List Note) (i j : ℕ) (a b : Note) → i ≢ j
    → slice_set (slice_set ns i a) j b ≡ slice_set (slice_set ns j b) i a
set_beside [] i j a b other = refl
set_beside (n ∷ ns) zero zero a b other = absurd (other refl)
set_beside (n ∷ ns) zero (suc j) a b other = refl
set_beside (n ∷ ns) (suc i) zero a b other = refl
set_beside (n ∷ ns) (suc i) (suc j) a b other =
    ap (λ (x : List Note). n ∷ x) (set_beside ns i j a b (λ same. other (ap suc same)))

-- with the word, if there is one, by which the walk holds s
abbrev pub standing : Option ℕ → SlotId → CoreView → CoreView
standing None s v = v
standing (Some j) s v = with_note j (stands.Valid Strong s) v

-- word 0, or the free one
abbrev pub IsWalkWord : ℕ → Option ℕ → Type 0
IsWalkWord free None = Unit {0}
IsWalkWord free (Some j) = (j ≡ 0) ⊎ (j ≡ free)

pub freed_minds : (w : Option ℕ) → Minds (freed w)
freed_minds None u t = refl
freed_minds (Some j) u t = refl

pub held_minds : (j : ℕ) (o : Option SlotId) → Minds (held_by j o)
held_minds j None u t = refl
held_minds j (Some s) u t = refl

module _ (v : CoreView) (free : ℕ) (four : length v.notes ≡ 4) (first : note_of v 0 ≡ stands.Idle)
    (some' : 0 < free) (small : free < 4) (unused : note_of v free ≡ stands.Idle) where
  pub low_word : (j : ℕ) → (j ≡ 0) ⊎ (j ≡ free) → (j < length v.notes) × (note_of v j ≡ stands.Idle)
  low_word j is = ⊎_elim
      (λ (e : j ≡ 0). (omega (arith, four, e), subst (λ (i : ℕ). note_of v i ≡ stands.Idle) (sym e) first))
      (λ (e : j ≡ free). (
        omega (arith, four, e, small),
        subst (λ (i : ℕ). note_of v i ≡ stands.Idle) (sym e) unused,
      ))
      is

  -- THE NEXT WORD is one of the two, and not the one that is in use
  pub record IsNext (w : Option ℕ) (j : ℕ) : Type 0 where
    pub word : IsWalkWord free (Some j)
    pub low : j < 4
    pub idle : note_of v j ≡ stands.Idle
    pub apart : (i : ℕ) → w ≡ Some i → j ≢ i

  pub next_is : (w : Option ℕ) (j : ℕ) → IsWalkWord free w → j ≡ next_word w free → IsNext w j
  next_is None j word is = subst (IsNext None) (sym is) (record {
    word = inl refl;
    low = omega arith;
    idle = first;
    apart = λ i e. absurd (cc (e));
  })
  next_is (Some i) j word is = go (i == 0) refl is
    where
      go : (b : Bool) → (i == 0) ≡ b → j ≡ (if b then free else 0) → IsNext (Some i) j
      go true zero' at = subst (IsNext (Some i)) (sym at) (record {
        word = inr refl;
        low = small;
        idle = unused;
        apart = λ k e. let z : i ≡ 0 = grind (arith, nat_tests) in let same : i ≡ k = cc (e) in
            λ f. absurd (omega (arith, z, same, f, some'));
      })
      go false other at = subst (IsNext (Some i)) (sym at) (record {
        word = inl refl;
        low = omega arith;
        idle = first;
        apart = λ k e. let z : i ≢ 0 = grind (arith, nat_tests) in let same : i ≡ k = cc (e) in
            λ f. absurd (z (same ∙ sym f));
      })

  -- it stands for nothing while the other is in use
  pub next_idle : (w : Option ℕ) (s : SlotId) (j : ℕ) → IsWalkWord free w → IsNext w j
      → note_of (standing w s v) j ≡ stands.Idle
  next_idle None s j word next = next.idle
  next_idle (Some i) s j word next =
      beside v i (low_word i word).0 (stands.Valid Strong s) j (next.apart i refl) ∙ next.idle

  -- WHAT A SEAT HAS that stands there
  pub standing_has : (w : Option ℕ) (s x : SlotId) (t : List Move) → IsWalkWord free w
      → HasSlot (show_seat v) x → HasSlot (show_seat (record (standing w s v) { trail = t })) x
  standing_has None s x t word has = has
  standing_has (Some j) s x t word has =
      let low = low_word j word in
      more_has v (slice_set v.notes j (stands.Valid Strong s)) t Strong s
      (snapshot_gains v j low.0 Strong s low.1) x has

  -- of a seat that has found something below and lets go of what it stands on
  hand_same : (j : ℕ) → IsWalkWord free (Some j) → (s : SlotId)
      → with_note j stands.Idle (with_note j (stands.Valid Strong s) v) ≡ v
  hand_same j word s = second_stays v j (stands.Valid Strong s) stands.Idle
      ∙ written_back v j stands.Idle (low_word j word).1

  pub gives_back : (w : Option ℕ) (s : SlotId) → IsWalkWord free w → freed w (standing w s v) ≡ v
  gives_back None s word = refl
  gives_back (Some j) s word = hand_same j word s

  pub hands_over : (w : Option ℕ) (s : SlotId) (j : ℕ) (below : Option SlotId) → IsWalkWord free w
      → IsNext w j → freed w (held_by j below (standing w s v)) ≡ held_by j below v
  hands_over None s j below word next = refl
  hands_over (Some i) s j None word next = hand_same i word s
  hands_over (Some i) s j (Some kid) word next =
      ap (λ (ns : List Note). record v { notes = ns })
      (set_beside (slice_set v.notes i (stands.Valid Strong s)) j i (stands.Valid Strong kid)
      stands.Idle (next.apart i refl))
      ∙ ap (λ (u : CoreView). with_note j (stands.Valid Strong kid) u) (hand_same i word s)

  -- the word that is in use stands for s
  pub noted_there : (w : Option ℕ) (s : SlotId) (j : ℕ) (below : Option SlotId) → IsWalkWord free w
      → IsNext w j → (i : ℕ) → w ≡ Some i
      → note_of (held_by j below (standing w s v)) i ≡ stands.Valid Strong s
  noted_there None s j below word next i is = absurd (cc (is))
  noted_there (Some k) s j None word next i is =
      let same : k ≡ i = cc (is) in
      subst (λ (m : ℕ). note_of (with_note k (stands.Valid Strong s) v) m ≡ stands.Valid Strong s)
      same (written v k (low_word k word).0 (stands.Valid Strong s))
  noted_there (Some k) s j (Some kid) word next i is =
      let same : k ≡ i = cc (is) in
      let low = low_word k word in
      let u = with_note k (stands.Valid Strong s) v in
      let long : length u.notes ≡ 4 = length-set v.notes k (stands.Valid Strong s) ∙ four in
      subst (λ (m : ℕ). note_of (with_note j (stands.Valid Strong kid) u) m ≡ stands.Valid Strong s)
      same
      (beside u j (omega (arith, long, next.low)) (stands.Valid Strong kid) k
      (λ e. next.apart k refl (sym e))
      ∙ written v k low.0 (stands.Valid Strong s))

  -- what a seat has that has found this below
  module _ (j : ℕ) (word : IsWalkWord free (Some j)) where
    pub below_has : (below : Option SlotId) (x : SlotId) (t : List Move) → HasSlot (show_seat v) x
        → HasSlot (show_seat (record (held_by j below v) { trail = t })) x
    below_has None x t has = has
    below_has (Some kid) x t has = standing_has (Some j) kid x t word has

    pub kid_held : (kid : SlotId) (t : List Move)
        → HoldsStrongly (record (held_by j (Some kid) v) { trail = t }) kid
    kid_held kid t =
        let low = low_word j word in
        let long : length (slice_set v.notes j (stands.Valid Strong kid)) ≡ 4 =
        length-set v.notes j (stands.Valid Strong kid) ∙ four in
        let some' = snapshot_at Strong kid (slice_set v.notes j (stands.Valid Strong kid)) j
        (omega (arith, long, four, low.0)) (written v j low.0 (stands.Valid Strong kid)) in
        omega (arith, some')

    pub kid_has : (kid : SlotId) (t : List Move)
        → HasSlot (show_seat (record (held_by j (Some kid) v) { trail = t })) kid
    kid_has kid t =
        let h = kid_held kid t in
        holds_has (record (held_by j (Some kid) v) { trail = t }) kid (omega (arith, h))
