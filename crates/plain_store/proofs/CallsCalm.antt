-- Each call that gives up nothing keeps every calm slot calm.
use Rattle.std.proofs.Common.{◌≡◌, ℕ, ◌+◌, List, [], ◌∷◌, ◌++◌, true, false, Bool, Option, Some, None}
use Rattle.std.specs.Prelude.{Result, Ok, Err, IfOk, OnErr}
use Rattle.plain_state.specs.declared.act.EventPlace.{EventPlace}
use Rattle.plain_state.specs.declared.act.PlainAct.{PlainAct}
use Rattle.plain_state.specs.declared.act.PlainAct.TheVariants as act
use Rattle.plain_state.specs.declared.slot.SlotId.{SlotId}
use Rattle.plain_state.specs.State.{Plain}
use Rattle.plain_state.specs.Places.{place_kind, content}
use Rattle.plain_state.specs.Sound.{Sound}
use Rattle.plain_state.specs.Steps.{word_of}
use Rattle.plain_store.specs.Heaps.{fills, Makes}
use Rattle.plain_store.specs.Calls.{Gains, WeaklyGains, Upgrades, Puts, Tries, Loads, WeaklyLoads, SnapsAs, Snaps}
use Rattle.plain_store.proofs.Calming.{StaysCalm, GiveUpNothing, calm_still, step_calm, runs_calm}

-- a call did what it does, or was refused and changed nothing
pub call_calm : {A E : Type 0} (r : Result A E) (P : A → Type 0) (p q : Plain) → IfOk r P → OnErr r (q ≡ p) → ((x : A) → P x → StaysCalm p q) → StaysCalm p q
call_calm (Ok x) P p q done same calm = calm x done
call_calm (Err e) P p q done same calm = calm_still p q same

fills_give : (s : SlotId) (i : ℕ) (words : List ℕ) (more : List PlainAct) → GiveUpNothing more → GiveUpNothing (fills s i words ++ more)
fills_give s i [] more g = g
fills_give s i (word ∷ words) more g = (tt, fills_give s (i + 1) words more g)

module _ (p q : Plain) (so : Sound p) where
  pub makes_calm : (s : SlotId) (payload : List ℕ) → Makes p s payload q → StaysCalm p q
  makes_calm s payload r = runs_calm (act.Claim s ∷ fills s 0 payload ++ act.Make s ∷ []) p q so (tt, fills_give s 0 payload (act.Make s ∷ []) (tt, tt)) r

  pub gains_calm : (s h : SlotId) → Gains p s h q → StaysCalm p q
  gains_calm s h g = step_calm p q (act.Add s) 0 so tt g.1

  pub weakly_gains_calm : (s h : SlotId) → WeaklyGains p s h q → StaysCalm p q
  weakly_gains_calm s h g = step_calm p q (act.WeakGain s) 0 so tt g.1

  pub upgrades_calm : (s : SlotId) (r : Option SlotId) → Upgrades p s r q → StaysCalm p q
  upgrades_calm s (Some h) g = gains_calm s h g
  upgrades_calm s None d = step_calm p q (act.Add s) 1 so tt d

  pub puts_calm : (place : EventPlace) (new : Option SlotId) → Puts p place new q → StaysCalm p q
  puts_calm place new d = step_calm p q (act.Replace place new) (word_of (content p place)) so tt d

  pub tries_calm : (place : EventPlace) (expected new : Option SlotId) (done : Bool) → Tries p place expected new done q → StaysCalm p q
  tries_calm place expected new done t = step_calm p q (act.TryReplace place expected new) (word_of (content p place)) so tt t.1

  pub loads_calm : (place : EventPlace) (r : Option SlotId) → Loads p place r q → StaysCalm p q
  loads_calm place (Some s) l = runs_calm (act.Check 0 place ∷ act.Add s ∷ act.EndSnapshot (place_kind place) s ∷ []) p q so (tt, (tt, (tt, tt))) l.2
  loads_calm place None l = step_calm p q (act.Look place) 0 so tt l.1

  pub weakly_loads_calm : (place : EventPlace) (r : Option SlotId) → WeaklyLoads p place r q → StaysCalm p q
  weakly_loads_calm place (Some s) l = runs_calm (act.Check 0 place ∷ act.WeakGain s ∷ act.EndSnapshot (place_kind place) s ∷ []) p q so (tt, (tt, (tt, tt))) l.2
  weakly_loads_calm place None l = step_calm p q (act.Look place) 0 so tt l.1

  snaps_as_calm : (place : EventPlace) (s : SlotId) (counted : Bool) → SnapsAs p place s counted q → StaysCalm p q
  snaps_as_calm place s false n = step_calm p q (act.Check 0 place) (s.0 + 1) so tt n.3
  snaps_as_calm place s true n = loads_calm place (Some s) n.1

  pub snaps_calm : (place : EventPlace) (r : Option (SlotId × Bool)) → Snaps p place r q → StaysCalm p q
  snaps_calm place (Some h) n = snaps_as_calm place h.0 h.1 n
  snaps_calm place None n = step_calm p q (act.Look place) 0 so tt n.1
