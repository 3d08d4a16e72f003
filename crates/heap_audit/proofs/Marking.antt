-- What becomes of marks where a slot is marked.
use Rattle.std.proofs.Common.{◌≡◌, ℕ, ◌<◌, ◌≤◌, ◌⊎◌, List, [], ◌∷◌, ◌++◌, length, get_or, Bool, true, false, cond, Contains, replicate, arith, sym, ◌∙◌, ap, subst, inl, inr, refl, length-set}
use Rattle.std.proofs.Math.ListN.{set}
use Rattle.std.proofs.lemmas.Bool.{false≢true, cases_eq, cases_lt}
use Rattle.std.proofs.lemmas.List.{length-replicate, get_or-set_same, get_or-set_other, get_or-replicate, get_or_past, get_or_append_left, length_push}
use Rattle.std.proofs.lemmas.List.Elements.{All-nil, All-push, Contains-push, Contains-append_left}
use Rattle.std.proofs.lemmas.List.Folds.{sum_by-replicate}
use Rattle.std.proofs.lemmas.List.Quantifiers.{all_pairs_push}
use Rattle.std.proofs.lemmas.List.Sums.{sum_by-set, count_by-le-length}
use Rattle.deleter.specs.plain_state.declared.slot.SlotId.{SlotId}
use Rattle.heap_audit.specs.Heaps.{slot}
use Rattle.heap_audit.specs.Marking.{is_marked, Adds, IsMarking}

abbrev pub Marked : List Bool → SlotId → Type 0
Marked marks s = is_marked marks s ≡ true

-- nothing is marked
unmarked : (n : ℕ) (s : SlotId) → is_marked (replicate n false) s ≡ false
unmarked n s =
    elim (cases_lt s.0 n) [
      | inl l ↦ get_or-replicate n s.0 false false l
      | inr g ↦ get_or_past (replicate n false) s.0 false (omega (arith, g, length-replicate n false))
    ]

pub nothing_marked : (n : ℕ) → IsMarking (replicate n false) []
nothing_marked n = record {
  listed = λ s h. absurd (false≢true (sym (unmarked n s) ∙ h));
  marked = All-nil (Marked (replicate n false));
  once = λ i j d h l. absurd (omega (arith, h, l));
  many = omega (arith, sum_by-replicate (λ (mark : Bool). cond mark 1 0) n false);
}

pub none_marked : (n : ℕ) (s : SlotId) → Marked (replicate n false) s → ⊥
none_marked n s h = false≢true (sym (unmarked n s) ∙ h)

module _ (marks : List Bool) (slots : List SlotId) (s : SlotId) (within : s.0 < length marks) where
  now_marked : Marked (set marks s.0 true) s
  now_marked = get_or-set_same marks s.0 true false within

  still_marked : (t : SlotId) → Marked marks t → Marked (set marks s.0 true) t
  still_marked t h =
      elim (cases_eq t.0 s.0) [
        | inl e ↦ (let same : s ≡ t = ap slot (sym e) in subst (Marked (set marks s.0 true)) same now_marked)
        | inr n ↦ get_or-set_other marks s.0 t.0 true false n ∙ h
      ]

  newly_marked : (t : SlotId) → Marked (set marks s.0 true) t → Marked marks t ⊎ (s ≡ t)
  newly_marked t h =
      elim (cases_eq t.0 s.0) [
        | inl e ↦ inr (ap slot (sym e))
        | inr n ↦ inl (sym (get_or-set_other marks s.0 t.0 true false n) ∙ h)
      ]

  more_marking : IsMarking marks slots → is_marked marks s ≡ false → IsMarking (set marks s.0 true) (slots ++ s ∷ [])
  more_marking is free = record {
    listed = λ t h. elim (newly_marked t h) [
      | inl old ↦ Contains-append_left slots (s ∷ []) t (is.listed t old)
      | inr e ↦ subst (Contains (slots ++ s ∷ [])) e (Contains-push slots s)
    ];
    marked = All-push (Marked (set marks s.0 true)) slots s (λ k d l. still_marked (get_or slots k d) (is.marked k d l)) now_marked;
    once = all_pairs_push (λ (a b : SlotId). a ≡ b → ⊥) slots s is.once
        (λ k d l e. false≢true (sym free ∙ subst (Marked marks) e (is.marked k d l)));
    many =
        let bit : Bool → ℕ = λ mark. cond mark 1 0 in
        omega (arith, length_push slots s, is.many, sum_by-set bit marks s.0 true false within, ap bit free);
  }

-- what grew: no mark is lost, and the list keeps its front
pub record Grown (marks : List Bool) (slots : List SlotId) (marks' : List Bool) (slots' : List SlotId) : Type 0 where
  pub size : length marks' ≡ length marks
  pub kept : (t : SlotId) → Marked marks t → Marked marks' t
  pub longer : length slots ≤ length slots'
  pub front : (k : ℕ) (d : SlotId) → k < length slots → get_or slots' k d ≡ get_or slots k d

pub grown_same : (marks : List Bool) (slots : List SlotId) → Grown marks slots marks slots
grown_same marks slots = record { size = refl; kept = λ t h. h; longer = omega arith; front = λ k d h. refl }

-- what is so after a slot was marked
pub record Added (marks : List Bool) (slots : List SlotId) (s : SlotId) (marks' : List Bool) (slots' : List SlotId) : Type 0 where
  pub marking : IsMarking marks' slots'
  pub grown : Grown marks slots marks' slots'
  pub here : Marked marks' s
  pub only : (t : SlotId) → Marked marks' t → Marked marks t ⊎ (s ≡ t)

pub added : (marks : List Bool) (slots : List SlotId) (s : SlotId) (marks' : List Bool) (slots' : List SlotId)
    → IsMarking marks slots → s.0 < length marks → Adds marks slots s marks' slots' → Added marks slots s marks' slots'
added marks slots s marks' slots' is within adds =
    elim adds [
      | inl old ↦
          (let Q : List Bool → List SlotId → Type 0 = λ ms ss. Added marks slots s ms ss in
          subst (λ (ms : List Bool). Q ms slots') (sym old.1) (subst (λ (ss : List SlotId). Q marks ss) (sym old.2)
          (record { marking = is; grown = grown_same marks slots; here = old.0; only = λ t h. inl h })))
      | inr new ↦
          (let Q : List Bool → List SlotId → Type 0 = λ ms ss. Added marks slots s ms ss in
          subst (λ (ms : List Bool). Q ms slots') (sym new.1) (subst (λ (ss : List SlotId). Q (set marks s.0 true) ss) (sym new.2)
          (record {
            marking = more_marking marks slots s within is new.0;
            grown = record {
              size = length-set marks s.0 true;
              kept = still_marked marks slots s within;
              longer = omega (arith, length_push slots s);
              front = λ k d h. get_or_append_left slots (s ∷ []) d k h;
            };
            here = now_marked marks slots s within;
            only = newly_marked marks slots s within;
          })))
    ]

-- where a slot isn't marked, the list isn't full
pub room_left : (marks : List Bool) (slots : List SlotId) (s : SlotId) → IsMarking marks slots → s.0 < length marks → is_marked marks s ≡ false → length slots < length marks
room_left marks slots s is within free =
    let more = more_marking marks slots s within is free in
    omega (arith, more.many, length_push slots s, count_by-le-length (λ (mark : Bool). mark) (set marks s.0 true), length-set marks s.0 true)

-- only a slot that has a mark is marked
pub marked_within : (marks : List Bool) (s : SlotId) → Marked marks s → s.0 < length marks
marked_within marks s h =
    elim (cases_lt s.0 (length marks)) [ inl l ↦ l | inr g ↦ absurd (false≢true (sym (get_or_past marks s.0 false g) ∙ h)) ]

-- fresh marks
pub fresh_marking : (marks : List Bool) (slots : List SlotId) (n : ℕ) → marks ≡ replicate n false → slots ≡ [] → IsMarking marks slots × (length marks ≡ n) × ((s : SlotId) → is_marked marks s ≡ false)
fresh_marking marks slots n e f = (
  subst (λ (ms : List Bool). IsMarking ms slots) (sym e) (subst (λ (ss : List SlotId). IsMarking (replicate n false) ss) (sym f) (nothing_marked n)),
  ap length e ∙ length-replicate n false,
  λ s. ap (λ (ms : List Bool). is_marked ms s) e ∙ unmarked n s,
)
