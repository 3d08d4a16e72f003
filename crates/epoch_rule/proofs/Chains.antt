-- What a chain of calm steps keeps: a client's law with all views, payloads that fit, and the objects.
use Rattle.std.proofs.Common.{◌≡◌, ⊎_elim, ℕ, ◌<◌, List, [], ◌∷◌, length, refl, ap, sym, ◌∙◌, subst, arith, Option, None}
use Rattle.std.proofs.lemmas.List.{length-set}
use Rattle.plain_state.proofs.EveryStep.{step_sound}
use Rattle.plain_protocol.specs.plain_state.declared.act.EventPlace.{EventPlace}
use Rattle.plain_protocol.specs.plain_state.declared.act.EventPlace.TheVariants.{Cell, Field, WeakCell, WeakField}
use Rattle.plain_protocol.specs.plain_state.declared.act.PlainAct.{PlainAct}
use Rattle.plain_protocol.specs.plain_state.declared.act.PlainAct.TheVariants as plain
use Rattle.plain_protocol.specs.plain_state.declared.slot.SlotId.{SlotId}
use Rattle.plain_protocol.specs.plain_state.Fits.{AllFit}
use Rattle.plain_protocol.specs.plain_state.Places.{with_content}
use Rattle.plain_protocol.specs.plain_state.Sound.{Sound}
use Rattle.plain_protocol.specs.plain_state.State.{Plain}
use Rattle.plain_protocol.specs.plain_state.Steps.{Does}
use Rattle.plain_protocol.specs.Acts.{IsCalm}
use Rattle.plain_protocol.specs.Laws.{KeptByCalm, Meets}
use Rattle.plain_protocol.proofs.StepFits.{step_fits}
use Rattle.epoch_core.specs.ShownSteps.{Chain, PlainStep}
use Rattle.epoch_core.proofs.Destroys.{slots_kept}
use Rattle.domain_rule.proofs.Acts.{Leaves}
use Rattle.domain_rule.proofs.Objects.{object_at, object_changes}

abbrev pub AllCalm : List PlainStep → Type 0
AllCalm [] = Unit {0}
AllCalm (a ∷ rest) = IsCalm a.0 × AllCalm rest

-- none of the steps changes the object in s
abbrev pub AllLeave : SlotId → List PlainStep → Type 0
AllLeave s [] = Unit {0}
AllLeave s (a ∷ rest) = Leaves a.0 s × AllLeave s rest

-- A STEP KEEPS THE SEATS
kept : (q r p : Plain) → q ≡ r → length r.seats ≡ length p.seats → length q.seats ≡ length p.seats
kept q r p is e = ap (λ (x : Plain). length x.seats) is ∙ e

content_kept : (r : Plain) (place : EventPlace) (new : Option SlotId)
    → length (with_content r place new).seats ≡ length r.seats
content_kept r (Cell i) new = refl
content_kept r (Field s i) new = refl
content_kept r (WeakCell i) new = refl
content_kept r (WeakField s) new = refl

seats_kept : (p q : Plain) (n : ℕ) (a : PlainAct) (m : ℕ) → IsCalm a → Does p n a m q
    → length q.seats ≡ length p.seats
seats_kept p q n (plain.Claim x) m calm d = kept q _ p d.1.4 (length-set p.seats n _)
seats_kept p q n (plain.Fill x i w) m calm d = kept q _ p d.1.4 refl
seats_kept p q n (plain.Make x) m calm d = absurd calm
seats_kept p q n (plain.Add x) m calm d = ⊎_elim
    (λ up. kept q _ p up.2 (length-set p.seats n _))
    (λ off. kept q _ p off.2 (length-set p.seats n _)) d.1.1
seats_kept p q n (plain.Drop x) m calm d = kept q _ p d.1.3 (length-set p.seats n _)
seats_kept p q n (plain.WeakGain x) m calm d = kept q _ p d.1.2 (length-set p.seats n _)
seats_kept p q n (plain.WeakDrop x) m calm d = kept q _ p d.1.3 (length-set p.seats n _)
seats_kept p q n (plain.Look place) m calm d = kept q _ p d.1.2 refl
seats_kept p q n (plain.Check j place) m calm d = ⊎_elim
    (λ lost. kept q _ p lost refl)
    (λ taken. kept q _ p taken.2.2 (length-set p.seats n _)) d.1.2
seats_kept p q n (plain.Alive j) m calm d = ⊎_elim
    (λ none. kept q _ p none.1 refl)
    (λ up. kept q _ p up.2.2 (length-set p.seats n _)) d.1.3
seats_kept p q n (plain.EndSnapshot k x) m calm d = kept q _ p d.1.3 (length-set p.seats n _)
seats_kept p q n (plain.Replace place new) m calm d = absurd calm
seats_kept p q n (plain.TryReplace place old new) m calm d = absurd calm
seats_kept p q n (plain.Count x) m calm d = kept q _ p d.1.2 refl
seats_kept p q n (plain.Mark x) m calm d =
    ⊎_elim (λ same. kept q _ p same.0 refl) (λ zero. kept q _ p zero.2 refl) d.1.1
seats_kept p q n (plain.WeakCount x) m calm d = kept q _ p d.1.2 refl
seats_kept p q n (plain.See x i) m calm d = kept q _ p d.1.3 refl
seats_kept p q n (plain.Eject k x) m calm d = kept q _ p d.1.3 (length-set p.seats n _)
seats_kept p q n (plain.End x) m calm d = kept q _ p d.1.3 (length-set p.seats n _)
seats_kept p q n (plain.Clear place) m calm d =
    kept q _ p d.1.2 (content_kept _ place None ∙ length-set p.seats n _)
seats_kept p q n (plain.Destroy x) m calm d = kept q _ p d.1.3.2 (length-set p.seats n _)
seats_kept p q n (plain.Give x) m calm d = kept q _ p d.1.3 refl
seats_kept p q n (plain.Leave j) m calm d = absurd calm
seats_kept p q n plain.Split m calm d = kept q _ p d.1.1.2 (length-set p.seats n _)
seats_kept p q n plain.Ticket m calm d = absurd calm
seats_kept p q n plain.Still m calm d = kept q _ p d.1.1 refl

-- A CHAIN OF CALM STEPS
module _ {V : Type 0} (law : Plain → List V → Type 0) (calm : KeptByCalm law) (views : List V) where
  -- keeps what the deeds of all seats ask, with all views as they were,
  pub chain_meets : (n : ℕ) (p q : Plain) (steps : List PlainStep) → Sound p → AllCalm steps
      → Chain n p steps q → Meets law p views → Meets law q views
  chain_meets n p q [] so calms chain meets =
      subst (λ (r : Plain). Meets law r views) (sym chain) meets
  chain_meets n p q (a ∷ rest) so calms chain meets =
      let still = step_sound p chain.0 n a.0 a.1 so chain.1 in
      chain_meets n chain.0 q rest still calms.1 chain.2
      (record {
        lawful = still.lawful;
        count = meets.count ∙ sym (seats_kept p chain.0 n a.0 a.1 calms.0 chain.1);
        law = calm p chain.0 n a.0 a.1 views meets calms.0 chain.1;
      })

-- leaves the payloads of all objects fitting,
pub chain_fits : (fits : List ℕ → Type 0) (n : ℕ) (p q : Plain) (steps : List PlainStep)
    → AllCalm steps → Chain n p steps q → AllFit fits p → AllFit fits q
chain_fits fits n p q [] calms chain all = subst (AllFit fits) (sym chain) all
chain_fits fits n p q (a ∷ rest) calms chain all =
    chain_fits fits n chain.0 q rest calms.1 chain.2
    (step_fits fits p chain.0 n a.0 a.1 chain.1 (λ x e. absurd (subst IsCalm e calms.0)) all)

-- and an object that none of them changes
pub chain_leaves : (s : SlotId) (n : ℕ) (p q : Plain) (steps : List PlainStep)
    → s.0 < length p.slots → AllLeave s steps → Chain n p steps q → object_at q s ≡ object_at p s
chain_leaves s n p q [] there leave chain = ap (λ (r : Plain). object_at r s) chain
chain_leaves s n p q (a ∷ rest) there leave chain =
    let l = slots_kept p chain.0 n a.0 a.1 chain.1 in
    chain_leaves s n chain.0 q rest (omega arith) leave.1 chain.2
    ∙ (object_changes p chain.0 n s a.0 a.1 there chain.1 ∙ leave.0 (object_at p s))
