-- What notes spell they go on to spell as they grow, and a node that is frozen spells what its fields do.
use Rattle.std.proofs.Common.{◌≡◌, inl, inr, ⊎_elim, ℕ, Bool, true, false, List, [], ◌∷◌, ◌++◌, refl, ap, sym, ◌∙◌, subst, arith}
use Rattle.std.specs.Prelude.{Option, Some, if◌then◌else◌}
use Rattle.std.proofs.lemmas.Bool.{false≢true}
use Rattle.plain_protocol.specs.plain_state.declared.slot.SlotId.{SlotId}
use Rattle.map_law.specs.Views.{Kid, Raw, Led, View, In, kid, is_raw}
use Rattle.map_law.specs.Nodes.{words}
use Rattle.map_law.specs.Patterns.{Pattern, null, hole, branch, Notes, Spells}
use Rattle.map_law.specs.Making.{led_notes, frozen}
use Rattle.map_law.proofs.Kit.{raw_same, raw_isnt}

-- the led notes grow
abbrev pub More : View → View → Type 0
More v w = (e : Led) → In e v.led → In e w.led

pub notes_more : (v w : View) → More v w → (s : SlotId) (l i : ℕ) (k : Option Kid) → Notes v s l i k → Notes w s l i k
notes_more v w more s l i k h = (h.0, more h.0 h.1, h.2, h.3, h.4, h.5)

pub spells_more : (v w : View) → More v w → (k : Option Kid) (pat : Pattern) → Spells v k pat → Spells w k pat
spells_more v w more k null h = h
spells_more v w more k (hole s d) h = h
spells_more v w more k (branch key value d l r) h = (
  h.0,
  h.1,
  h.2,
  (h.3.0, notes_more v w more h.0.slot h.0.life 0 h.3.0 h.3.1, spells_more v w more h.3.0 l h.3.2),
  (h.4.0, notes_more v w more h.0.slot h.0.life 1 h.4.0 h.4.1, spells_more v w more h.4.0 r h.4.2),
)

in_right : {A : Type 0} (x : A) (xs ys : List A) → In x ys → In x (xs ++ ys)
in_right x [] ys i = i
in_right x (y ∷ xs) ys i = inr (in_right x xs ys i)

in_left : {A : Type 0} (x : A) (xs ys : List A) → In x xs → In x (xs ++ ys)
in_left x [] ys i = absurd i
in_left x (y ∷ xs) ys i = ⊎_elim (λ (e : x ≡ y). inl e) (λ (j : In x xs). inr (in_left x xs ys j)) i

pub frozen_more : (r : SlotId) (l : ℕ) (v : View) → More v (frozen r l v)
frozen_more r l v e i = in_right e (led_notes v.raw r l) v.led i

is_one : (r : SlotId) (l : ℕ) (e : Raw) → e.slot ≡ r → e.life ≡ l → is_raw r l e ≡ true
is_one r l e a b = go (is_raw r l e) refl
  where
    go : (z : Bool) → is_raw r l e ≡ z → is_raw r l e ≡ true
    go true is = is
    go false is = let x = raw_isnt r l e is in let y = raw_same r l e a b in absurd (omega arith)

-- both fields of a node that is noted
in_led_notes : (r : SlotId) (l : ℕ) (e : Raw) (es : List Raw) → e.slot ≡ r → e.life ≡ l → In e es
    → In (record { slot = r; life = l; side = 0; kid = e.first }) (led_notes es r l)
    × In (record { slot = r; life = l; side = 1; kid = e.second }) (led_notes es r l)
in_led_notes r l e [] a b i = absurd i
in_led_notes r l e (x ∷ es) a b i = ⊎_elim
    (λ (h : e ≡ x). subst (λ (z : Raw). In (record { slot = r; life = l; side = 0; kid = z.first })
    (led_notes (x ∷ es) r l) × In (record { slot = r; life = l; side = 1; kid = z.second })
    (led_notes (x ∷ es) r l)) (sym h)
    (go (is_raw r l x) (is_one r l x (ap (λ (z : Raw). z.slot) (sym h) ∙ a) (ap (λ (z : Raw). z.life) (sym h) ∙ b))))
    (λ (j : In e es). rest (is_raw r l x) (in_led_notes r l e es a b j)) i
  where
    go : (z : Bool) → z ≡ true
        → In (record { slot = r; life = l; side = 0; kid = x.first }) (if z
        then record { slot = r; life = l; side = 0; kid = x.first } ∷ record {
          slot = r;
          life = l;
          side = 1;
          kid = x.second;
        } ∷ led_notes es r l else led_notes es r l)
        × In (record { slot = r; life = l; side = 1; kid = x.second }) (if z
        then record { slot = r; life = l; side = 0; kid = x.first } ∷ record {
          slot = r;
          life = l;
          side = 1;
          kid = x.second;
        } ∷ led_notes es r l else led_notes es r l)
    go true h = (inl refl, inr (inl refl))
    go false h = absurd (false≢true h)

    rest : (z : Bool) → In (record { slot = r; life = l; side = 0; kid = e.first }) (led_notes es r l)
        × In (record { slot = r; life = l; side = 1; kid = e.second }) (led_notes es r l)
        → In (record { slot = r; life = l; side = 0; kid = e.first }) (if z
        then record { slot = r; life = l; side = 0; kid = x.first } ∷ record {
          slot = r;
          life = l;
          side = 1;
          kid = x.second;
        } ∷ led_notes es r l else led_notes es r l)
        × In (record { slot = r; life = l; side = 1; kid = e.second }) (if z
        then record { slot = r; life = l; side = 0; kid = x.first } ∷ record {
          slot = r;
          life = l;
          side = 1;
          kid = x.second;
        } ∷ led_notes es r l else led_notes es r l)
    rest true h = (inr (inr h.0), inr (inr h.1))
    rest false h = h

-- a node of the seat's own, once frozen, spells a node over what its two fields spell
pub spells_frozen : (r : SlotId) (l : ℕ) (v : View) (e : Raw) (key value d : ℕ) (a b : Pattern) → In e v.raw
    → e.slot ≡ r → e.life ≡ l
    → Spells v e.first a → Spells v e.second b → Spells (frozen r l v) (Some (kid r l (words key value d)))
    (branch key value d a b)
spells_frozen r l v e key value d a b i s t sa sb =
    let both = in_led_notes r l e v.raw s t i in
    let more = frozen_more r l v in (
      kid r l (words key value d),
      refl,
      refl,
      (
        e.first,
        (
          record { slot = r; life = l; side = 0; kid = e.first },
          in_left _ (led_notes v.raw r l) v.led both.0,
          refl,
          refl,
          refl,
          refl,
        ),
        spells_more v (frozen r l v) more e.first a sa,
      ),
      (
        e.second,
        (
          record { slot = r; life = l; side = 1; kid = e.second },
          in_left _ (led_notes v.raw r l) v.led both.1,
          refl,
          refl,
          refl,
          refl,
        ),
        spells_more v (frozen r l v) more e.second b sb,
      ),
    )
