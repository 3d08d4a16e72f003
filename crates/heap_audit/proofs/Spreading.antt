-- Marks spread from the roots along fields, until all that is reached is marked.
use Rattle.std.proofs.Common.{◌≡◌, ℕ, ◌+◌, ◌<◌, ◌≤◌, List, [], ◌∷◌, length, get_or, Bool, false, replicate, slice_index, arith, sym, ◌∙◌, ap, subst, inl, inr, refl}
use Rattle.std.proofs.lemmas.Bool.{cases_lt}
use Rattle.std.proofs.lemmas.List.{length-replicate, get_or_default}
use Rattle.deleter.specs.plain_state.declared.slot.SlotId.{SlotId}
use Rattle.deleter.specs.plain_state.declared.image.SlotImage.{SlotImage}
use Rattle.deleter.specs.plain_state.declared.image.Heap.{Heap}
use Rattle.deleter.specs.plain_state.Images.{free_image}
use Rattle.heap_audit.specs.Heaps.{slot, image_of, fields_holding, IsLawful, IsInRange}
use Rattle.heap_audit.specs.Paths.{Path}
use Rattle.heap_audit.specs.Reached.{HasField, IsRoot, IsReached}
use Rattle.heap_audit.specs.Marking.{Adds, Follows, IsRooted, IsSpread}
use Rattle.heap_audit.specs.Tables.{AreReached}
use Rattle.heap_audit.proofs.Holding.{named_first, named_second, field_names}
use Rattle.heap_audit.proofs.Lawfulness.{root_within, reached_on, reached_live}
use Rattle.heap_audit.proofs.Marking.{Marked, nothing_marked, none_marked, added, Grown, grown_same}

module _ (heap : Heap) where
  rooted_start : (n : ℕ) → n ≡ length heap.slots.items → IsRooted heap (replicate n false) [] 0
  rooted_start n e = record {
    size = length-replicate n false ∙ e;
    marking = nothing_marked n;
    roots = λ s h r. absurd (omega (arith, h));
    sound = λ s h. absurd (none_marked n s h);
  }

  pub rooted_none : (marks : List Bool) (slots : List SlotId) (n : ℕ) → n ≡ length heap.slots.items → marks ≡ replicate n false → slots ≡ [] → IsRooted heap marks slots 0
  rooted_none marks slots n e f g =
      subst (λ (ms : List Bool). IsRooted heap ms slots 0) (sym f) (subst (λ (ss : List SlotId). IsRooted heap (replicate n false) ss 0) (sym g) (rooted_start n e))

  module _ (marks : List Bool) (slots : List SlotId) where
    pub rooted_adds : (i : ℕ) (marks' : List Bool) (slots' : List SlotId) → IsRooted heap marks slots i → i < length heap.slots.items
        → IsRoot heap (slot i) → Adds marks slots (slot i) marks' slots' → IsRooted heap marks' slots' (i + 1)
    rooted_adds i marks' slots' is within root adds =
        let now = added marks slots (slot i) marks' slots' is.marking (omega (arith, within, is.size)) adds in
        record {
          size = now.grown.size ∙ is.size;
          marking = now.marking;
          roots = λ s h r. elim (cases_lt s.0 i) [
            | inl l ↦ now.grown.kept s (is.roots s l r)
            | inr g ↦ (let same : slot i ≡ s = ap slot (omega arith) in subst (Marked marks') same now.here)
          ];
          sound = λ t h. elim (now.only t h) [
            | inl old ↦ is.sound t old
            | inr e ↦ subst (IsReached heap) e (slot i, root, inl refl)
          ];
        }

    pub rooted_skips : (i : ℕ) → IsRooted heap marks slots i → (IsRoot heap (slot i) → ⊥) → IsRooted heap marks slots (i + 1)
    rooted_skips i is none = record {
      size = is.size;
      marking = is.marking;
      roots = λ s h r. elim (cases_lt s.0 i) [
        | inl l ↦ is.roots s l r
        | inr g ↦ (let same : s ≡ slot i = ap slot (omega arith) in absurd (none (subst (IsRoot heap) same r)))
      ];
      sound = is.sound;
    }

    pub rooted_all : (i : ℕ) → IsInRange heap → length heap.slots.items ≤ i → IsRooted heap marks slots i → IsSpread heap marks slots 0
    rooted_all i range h is = record {
      size = is.size;
      marking = is.marking;
      roots = λ s r. is.roots s (omega (arith, root_within heap s range r)) r;
      sound = is.sound;
      spread = λ k t l f. absurd (omega (arith, l));
    }

    -- what is so after a word was followed
    record Followed (done word : ℕ) (marks' : List Bool) (slots' : List SlotId) : Type 0 where
      spreads : IsSpread heap marks' slots' done
      grown : Grown marks slots marks' slots'
      named : (s : SlotId) → word ≡ s.0 + 1 → Marked marks' s

    followed : (done word : ℕ) (marks' : List Bool) (slots' : List SlotId) → IsSpread heap marks slots done → done ≤ length slots → word ≤ length marks
        → ((s : SlotId) → word ≡ s.0 + 1 → IsReached heap s) → Follows marks slots word marks' slots' → Followed done word marks' slots'
    followed done word marks' slots' is listed within reached follows =
        elim follows [
          | inl null ↦
              subst (λ (ms : List Bool). Followed done word ms slots') (sym null.1) (subst (λ (ss : List SlotId). Followed done word marks ss) (sym null.2)
              (record { spreads = is; grown = grown_same marks slots; named = λ s e. absurd (omega (arith, e, null.0)) }))
          | inr f ↦
              (let now = added marks slots f.0 marks' slots' is.marking (omega (arith, f.1, within)) f.2 in
              record {
                spreads = record {
                  size = now.grown.size ∙ is.size;
                  marking = now.marking;
                  roots = λ s r. now.grown.kept s (is.roots s r);
                  sound = λ t h. elim (now.only t h) [ inl old ↦ is.sound t old | inr e ↦ subst (IsReached heap) e (reached f.0 f.1) ];
                  spread = λ k t l h. now.grown.kept t (is.spread k t l (subst (λ (a : SlotId). HasField heap a t) (now.grown.front k (slot 0) (omega arith)) h));
                };
                grown = now.grown;
                named = λ s e. let same : f.0 ≡ s = ap slot (omega (arith, e, f.1)) in subst (Marked marks') same now.here;
              })
        ]

  pub spread_step : (marks : List Bool) (slots : List SlotId) (done : ℕ) (a : SlotId) (x : SlotImage)
      (marks₁ : List Bool) (slots₁ : List SlotId) (marks₂ : List Bool) (slots₂ : List SlotId)
      → IsLawful heap → IsInRange heap → IsSpread heap marks slots done → done < length slots
      → a ≡ get_or slots done (slot 0) → x ≡ image_of heap a
      → Follows marks slots (slice_index x.fields 0) marks₁ slots₁ → Follows marks₁ slots₁ (slice_index x.fields 1) marks₂ slots₂
      → IsSpread heap marks₂ slots₂ (done + 1) × (done + 1 ≤ length slots₂)
  spread_step marks slots done a x marks₁ slots₁ marks₂ slots₂ law range is listed e f one two =
      let reached : IsReached heap a = is.sound a (subst (Marked marks) (sym e) (is.marking.marked done (slot 0) listed)) in
      let live = reached_live heap a law range reached in
      let within = range.fields a.0 free_image live.0 in
      let holds = λ (s : SlotId) (h : 0 < fields_holding s x). (let P : SlotImage → Type 0 = λ y. 0 < fields_holding s y in reached_on heap s a reached (live, subst P f h)) in
      let first = followed marks slots done (slice_index x.fields 0) marks₁ slots₁ is (omega arith)
      (omega (arith, within.first, is.size, ap (λ (y : SlotImage). slice_index y.fields 0) f)) (λ s n. holds s (named_first s x n)) one in
      let second = followed marks₁ slots₁ done (slice_index x.fields 1) marks₂ slots₂ first.spreads (omega (arith, first.grown.longer))
      (omega (arith, within.second, first.spreads.size, ap (λ (y : SlotImage). slice_index y.fields 1) f)) (λ s n. holds s (named_second s x n)) two in (
        record {
          size = second.spreads.size;
          marking = second.spreads.marking;
          roots = second.spreads.roots;
          sound = second.spreads.sound;
          spread = λ k t l h. elim (cases_lt k done) [
            | inl before ↦ second.spreads.spread k t before h
            | inr here ↦
                (let at : get_or slots₂ k (slot 0) ≡ a = ap (λ j. get_or slots₂ j (slot 0)) (omega arith)
                ∙ (second.grown.front done (slot 0) (omega (arith, first.grown.longer)) ∙ (first.grown.front done (slot 0) listed ∙ sym e)) in
                let P : SlotImage → Type 0 = λ y. 0 < fields_holding t y in
                let held : 0 < fields_holding t x = subst P (sym f) (subst (λ (b : SlotId). HasField heap b t) at h).1 in
                elim (field_names t x held) [
                  | inl n ↦ second.grown.kept t (first.named t n)
                  | inr n ↦ second.named t n
                ])
          ];
        },
        omega (arith, listed, first.grown.longer, second.grown.longer),
      )

  marked_on : (marks : List Bool) (slots : List SlotId) (done : ℕ) → IsSpread heap marks slots done → length slots ≤ done
      → (a b : SlotId) → Marked marks a → HasField heap a b → Marked marks b
  marked_on marks slots done is all a b h f =
      let place = is.marking.listed a h in
      is.spread place.0 b (omega (arith, place.1))
      (subst (λ (c : SlotId). HasField heap c b) (sym (get_or_default slots place.0 (slot 0) a place.1 ∙ place.2)) f)

  marked_along : (marks : List Bool) (slots : List SlotId) (done : ℕ) → IsSpread heap marks slots done → length slots ≤ done
      → (x : SlotId) (ys : List SlotId) (z : SlotId) → Marked marks x → Path (HasField heap) x ys z → Marked marks z
  marked_along marks slots done is all x [] z h p = marked_on marks slots done is all x z h p
  marked_along marks slots done is all x (y ∷ ys) z h p = marked_along marks slots done is all y ys z (marked_on marks slots done is all x y h p.0) p.1

  pub spread_all : (marks : List Bool) (slots : List SlotId) (done : ℕ) → IsSpread heap marks slots done → length slots ≤ done → AreReached heap marks
  spread_all marks slots done is all = record {
    size = is.size;
    sound = is.sound;
    whole = λ s reached. elim reached.2 [
      | inl e ↦ subst (Marked marks) e (is.roots reached.0 reached.1)
      | inr p ↦ marked_along marks slots done is all reached.0 p.0 s (is.roots reached.0 reached.1) p.1
    ];
  }
