-- What a seat met in a head.
use Rattle.std.proofs.Common.{◌≡◌, inl, inr, ℕ, ◌≤◌, List, [], ◌∷◌, refl, sym, ap, subst, ◌∙◌}
use Rattle.std.specs.Prelude.{◌≢◌, Bool, true, false}
use Rattle.atomic_weak.specs.plain_state.declared.slot.SlotId.{SlotId}
use Rattle.atomic_weak.specs.plain_protocol.Owns.{Object}
use Rattle.atomic_weak.specs.domain_rule.Views.{object_in}
use Rattle.atomic_weak.specs.acquire_retire.Domains.{DomainState}
use Rattle.atomic_weak.specs.acquire_retire.Seats.{SeatState}
use Rattle.atomic_weak.specs.counted_handles.Handles.{Handle}
use Rattle.record_making.specs.directory_law.declared.view.Seen.{Seen}
use Rattle.record_making.specs.directory_law.Cells.{Area}
use Rattle.record_making.specs.directory_law.Law.{IsBound}
use Rattle.record_making.specs.directory_law.Payloads.{IsText, Text, size}
use Rattle.record_making.specs.directory_law.Views.{In, note}
use Rattle.weak_intern.specs.declared.looking.Sight.TheVariants as sight
use Rattle.text_reading.specs.Reading.{HasBegun, begun}
use Rattle.weak_intern.specs.Seeing.{BeginsText, HasSeenAt, seen_in}
use Rattle.weak_intern.specs.Knowing.{Knows}
use Rattle.record_making.specs.directory_calls.Steps.{AtStep}
use Rattle.weak_intern.specs.Walking.{MeetsIn}
use Rattle.record_making.proofs.Below.directory_calls_Going.{also}
use Rattle.weak_intern.proofs.Heads.{short_text}
use Rattle.record_making.proofs.Below.directory_calls_Parts.{LearnsBy, Place}

-- a test that failed
pub is_not : (b : Bool) → b ≡ false → b ≡ true → ⊥
is_not b is so = cc (is, so)

abbrev first_of : Text → List ℕ
first_of [] = []
first_of (t ∷ ts) = t

module _ {P V : Type 0} (d : DomainState P) (l : Place V) (z : Area) (w : SlotId)
    (text : Text) (head : List ℕ) (begins : (tail : Text) × (text ≡ head ∷ tail))
    (b c : SeatState V) where
  -- A HEAD OF ANOTHER TEXT, of which the seat compared the payload
  pub other_met : (object_in b.view w).payload ≢ head → c.view.client ≡ b.view.client
      → MeetsIn l.seen d z w text sight.Other b c
  other_met differs client = λ n saw. (
    seen_in n w b,
    subst (λ (v : V). In (seen_in n w b) (l.seen v).seen) (sym client) saw,
    refl,
    inl (inl (λ tail e. differs (sym (ap first_of (sym begins.1 ∙ e))))),
  )

  -- A HEAD THAT HAS ENDED
  pub ended_met : LearnsBy l 0 b.view.client c.view.client
      → In (note w (object_in b.view w).life) (l.seen c.view.client).ended
      → MeetsIn l.seen d z w text sight.Other b c
  ended_met more ended = λ n saw. (
    seen_in n w b,
    more.part.seen (seen_in n w b) saw,
    refl,
    inr ended,
  )

  -- THE LIVE RECORD, after a raise of it
  module _ (strong : Handle) (same : strong.slot ≡ w)
      (known : object_in c.view w ≡ object_in b.view w)
      (payload : (object_in b.view w).payload ≡ head) where
    payload_now : (object_in c.view w).payload ≡ head
    payload_now = ap (λ (o : Object). o.payload) known ∙ payload

    alone : IsText text → size head ≤ 120 → text ≡ head ∷ []
    alone is short =
        begins.1 ∙ ap (λ t. head ∷ t)
        (short_text head begins.0 short (subst IsText begins.1 is))

    -- the seat knows its text
    knows_met : IsText text → text ≡ head ∷ [] → HasBegun l.seen w c
        → ((e : Seen) → In e (l.seen b.view.client).seen → In e (l.seen c.view.client).seen)
        → (k : ℕ) → HasSeenAt l.seen k w b → Knows l.seen strong.slot text c
    knows_met is whole begins' more k saw =
        subst (λ x. Knows l.seen x text c) (sym same)
        (inr (
          (k, saw_now),
          begun w c,
          subst (λ rs. In (begun w c) rs) (sym begins'.1) (inl refl),
          refl,
          refl,
          ap (λ h. h ∷ []) payload_now ∙ sym whole,
          is,
        ))
      where
        saw_now : HasSeenAt l.seen k w c
        saw_now =
            subst (λ (o : Object). In (record {
              cell = k;
              slot = w;
              life = o.life;
              head = o.payload;
            }) (l.seen c.view.client).seen) (sym known)
            (more (seen_in k w b) saw)

    pub record_met : IsText text → size head ≤ 120 → AtStep d (BeginsText z w c) b c
        → HasBegun l.seen w c
        → ((e : Seen) → In e (l.seen b.view.client).seen → In e (l.seen c.view.client).seen)
        → MeetsIn l.seen d z w text (sight.Record strong) b c
    record_met is short live begins' more = λ k saw. (
      also d (BeginsText z w c) (λ p. IsBound z p text strong.slot) b c
          (λ p starts.
          let whole = subst (λ h. IsText (h ∷ starts.0)) payload_now starts.1 in
          let bound = subst (λ h. IsBound z p (h ∷ starts.0) w) payload_now starts.2 in
          subst (λ x. IsBound z p text x) (sym same)
          (subst (λ t. IsBound z p t w)
          (ap (λ t. head ∷ t) (short_text head starts.0 short whole) ∙ sym (alone is short))
          bound))
          live,
      knows_met is (alone is short) begins' more k saw,
    )
