-- What a deed owes along the way of plain steps that its event shows: the client's law after it, and what it allows.
use Rattle.std.proofs.Common.{◌≡◌, ℕ, ◌<◌, Bool, true, false, List, length, get_or, set, refl, ap, sym, ◌∙◌, subst}
use Rattle.std.specs.Prelude.{if◌then◌else◌}
use Rattle.std.proofs.lemmas.List.{length-set}
use Rattle.plain_state.proofs.EveryStep.{step_sound}
use Rattle.plain_protocol.specs.plain_state.declared.act.PlainAct.{PlainAct}
use Rattle.plain_protocol.specs.plain_state.declared.act.PlainAct.TheVariants as plain
use Rattle.plain_protocol.specs.plain_state.declared.slot.SlotId.{SlotId}
use Rattle.plain_protocol.specs.plain_state.Fits.{AllFit}
use Rattle.plain_protocol.specs.plain_state.Sound.{Sound}
use Rattle.plain_protocol.specs.plain_state.State.{Plain, slot_at}
use Rattle.plain_protocol.specs.plain_state.Steps.{Does}
use Rattle.plain_protocol.specs.Laws.{Keeps, KeptByCalm, Meets}
use Rattle.plain_protocol.specs.Owns.{OwnPart, own_part}
use Rattle.plain_protocol.proofs.StepFits.{step_fits}
use Rattle.epoch_core.specs.ShownSteps.{PlainStep}
use Rattle.epoch_rule.proofs.Chains.{chain_fits, chain_meets}
use Rattle.epoch_rule.proofs.Paths.{Path}

module _ {V : Type 0} (law : Plain → List V → Type 0) (gone : V)
    (ready : OwnPart → V → PlainAct → Type 0)
    (next : OwnPart → OwnPart → V → PlainAct → ℕ → V) (allows : Plain → Plain → ℕ → V → V → Type 0)
    (keep : Keeps law gone ready next allows) (calm : KeptByCalm law) where
  -- what the deed owes, where the seat's own part before and after the step and its view are known
  deed_keeps : (p q : Plain) (views : List V) (n : ℕ) (step : PlainAct) (m : ℕ) (o o' : OwnPart)
      (v : V) → Meets law p views → n < length views → own_part p n ≡ o → own_part q n ≡ o'
      → get_or views n gone ≡ v → ready o v step → Does p n step m q
      → law q (set views n (next o o' v step m)) × allows p q n v (next o o' v step m)
  deed_keeps p q views n step m o o' v meets hn own_is then_is view_is is_ready does =
      subst (λ (x : OwnPart × OwnPart × V). law q (set views n (next x.0 x.1 x.2 step m))
      × allows p q n x.2 (next x.0 x.1 x.2 step m)) all_are
      (keep p q views n step m meets hn
      (subst (λ (x : OwnPart × OwnPart × V). ready x.0 x.2 step) (sym all_are) is_ready) does)
    where
      all_are : ◌≡◌ {A = OwnPart × OwnPart × V} (own_part p n, own_part q n, get_or views n gone)
          (o, o', v)
      all_are = λ i. (own_is i, then_is i, view_is i)

  module _ (n : ℕ) (p q : Plain) (deed : PlainStep) (change : Bool) (made : PlainAct)
      (path : Path n p q deed change made) (so : Sound p) (seats : length q.seats ≡ length p.seats)
    where
      mid_seats : length path.mid.seats ≡ length p.seats
      mid_seats = ap (λ (r : Plain). length r.seats) path.is ∙ go change
        where
          go : (b : Bool) → length (if b then q else p).seats ≡ length p.seats
          go true = seats
          go false = refl

      -- the deed keeps the law, and the calm steps behind it do
      pub path_keeps : (views : List V) (o o' : OwnPart) (v : V) → Meets law p views
          → n < length views → own_part p n ≡ o → own_part (if change then q else p) n ≡ o'
          → get_or views n gone ≡ v → ready o v deed.0
          → Meets law q (set views n (next o o' v deed.0 deed.1))
          × allows p (if change then q else p) n v (next o o' v deed.0 deed.1)
      path_keeps views o o' v meets hn own_is then_is view_is is_ready = (
        chain_meets law calm (set views n w) n path.mid q path.rest mid_sound path.calm path.chain
            (record {
              lawful = mid_sound.lawful;
              count = length-set views n w ∙ (meets.count ∙ sym mid_seats);
              law = owed.0;
            }),
        subst (λ (r : Plain). allows p r n v w) path.is owed.1,
      )
        where
          w : V
          w = next o o' v deed.0 deed.1

          mid_sound : Sound path.mid
          mid_sound = step_sound p path.mid n deed.0 deed.1 so path.does

          owed : law path.mid (set views n w) × allows p path.mid n v w
          owed = deed_keeps p path.mid views n deed.0 deed.1 o o' v meets hn own_is
              (ap (λ (r : Plain). own_part r n) path.is ∙ then_is) view_is is_ready path.does

-- the payloads of all objects fit after it, where an object that the deed makes has one that fits
pub path_fits : (fits : List ℕ → Type 0) (n : ℕ) (p q : Plain) (deed : PlainStep) (change : Bool)
    (made : PlainAct) → Path n p q deed change made
    → ((x : SlotId) → deed.0 ≡ plain.Make x → fits (slot_at p x).payload) → AllFit fits p
    → AllFit fits q
path_fits fits n p q deed change made path made_fits all =
    chain_fits fits n path.mid q path.rest path.calm path.chain
    (step_fits fits p path.mid n deed.0 deed.1 path.does made_fits all)
