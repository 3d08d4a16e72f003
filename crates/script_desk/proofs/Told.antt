-- What a command answers, from what the heap and the names did.
use Rattle.std.proofs.Common.{◌≡◌, ◌≢◌, inl, inr, ℕ, ◌+◌, ◌<◌, List, length, refl, ap, sym, ◌∙◌, subst, arith, Some}
use Rattle.std.specs.Prelude.{slice_index_or, slice_set}
use Rattle.std.proofs.lemmas.List.{length-set, get_or-set_same, get_or-set_other}
use Rattle.plain_audit.specs.plain_state.declared.act.EventPlace.{EventPlace}
use Rattle.plain_audit.specs.plain_state.declared.slot.SlotId.{SlotId}
use Rattle.plain_audit.specs.plain_state.State.{Plain}
use Rattle.plain_audit.proofs.Below.plain_state_Kit.{slot_is}
use Rattle.plain_settling.specs.plain_store.Heaps.{Makes}
use Rattle.plain_settling.specs.plain_store.Calls.{Loads, WeaklyLoads}
use Rattle.script_desk.specs.declared.handle.Handle.TheVariants.{Strong, Weak}
use Rattle.script_desk.specs.declared.said.Said.TheVariants as said
use Rattle.script_desk.specs.Desks.{Desk, Names, Maker, nobody, Binds}
use Rattle.script_desk.specs.Effects.{LoadsStrong, LoadsWeak, MakesOne}
use Rattle.script_desk.specs.Holding.{Kept}
use Rattle.script_desk.specs.Kinds.{script_payload}
use Rattle.script_desk.proofs.Naming.{desk_of}

abbrev pub named : ℕ → List ℕ → Maker
named makes name = record { number = makes; name = name }

module _ (p : Plain) (names : Names) (made : List Maker) (makes : ℕ) (d : Desk) (is : desk_of p names made makes ≡ d) where
  pub loads_told : (place : EventPlace) (new : List ℕ) (s : SlotId) (q r : Plain) (after : Names) → Loads p place (Some s) q → r ≡ q
      → Binds names new (Some (Strong s)) after → LoadsStrong d place new said.Loaded (desk_of r after made makes)
  loads_told place new s q r after l e b =
      subst (λ (x : Desk). LoadsStrong x place new said.Loaded (desk_of r after made makes)) is
      (inl (refl, (s, subst (Loads p place (Some s)) (sym e) l, (b, (refl, refl)))))

  pub weakly_loads_told : (place : EventPlace) (new : List ℕ) (s : SlotId) (q r : Plain) (after : Names) → WeaklyLoads p place (Some s) q → r ≡ q
      → Binds names new (Some (Weak s)) after → LoadsWeak d place new said.Loaded (desk_of r after made makes)
  weakly_loads_told place new s q r after l e b =
      subst (λ (x : Desk). LoadsWeak x place new said.Loaded (desk_of r after made makes)) is
      (inl (refl, (s, subst (WeaklyLoads p place (Some s)) (sym e) l, (b, (refl, refl)))))

  pub makes_told : (strong weak : ℕ) → Kept p names made strong weak → (name : List ℕ) (weight : ℕ) (payload : List ℕ) (s : SlotId) (q r : Plain) (after : Names)
      → (at : SlotId) (more : ℕ) (maker : Maker) → Makes p s payload q → payload ≡ script_payload weight → r ≡ q → Binds names name (Some (Strong s)) after
      → at ≡ s → more ≡ makes + 1 → maker ≡ named makes name
      → MakesOne d name weight said.Made (desk_of r after (slice_set made at.0 maker) more)
  makes_told strong weak k name weight payload s q r after at more maker m is_payload e b same next is_maker =
      let there : at.0 < length made = omega (arith, ap (λ (t : SlotId). t.0) same, m.2.1.0, k.makers) in
      let new : Desk = desk_of r after (slice_set made at.0 maker) more in
      let here : slice_index_or (slice_set made at.0 maker) s.0 nobody ≡ named makes name
      = ap (λ (t : SlotId). slice_index_or (slice_set made at.0 maker) t.0 nobody) (sym same) ∙ get_or-set_same made at.0 maker nobody there ∙ is_maker in
      let other : (t : SlotId) → t ≢ s → slice_index_or (slice_set made at.0 maker) t.0 nobody ≡ slice_index_or made t.0 nobody
      = λ t ne. get_or-set_other made at.0 t.0 maker nobody (λ eq. ne (slot_is t s (eq ∙ ap (λ (u : SlotId). u.0) same))) in
      let made_one : Makes p s (script_payload weight) r = subst (λ (words : List ℕ). Makes p s words r) is_payload (subst (Makes p s payload) (sym e) m) in
      subst (λ (x : Desk). MakesOne x name weight said.Made new) is (inr (refl, (s, made_one, b, (next, here, other))))

pub kept_made : (p : Plain) (names : Names) (made : List Maker) (strong weak : ℕ) (at : ℕ) (maker : Maker) → Kept p names made strong weak
    → Kept p names (slice_set made at maker) strong weak
kept_made p names made strong weak at maker k = record {
  holds = k.holds;
  makers = length-set made at maker ∙ k.makers;
  cells = k.cells;
  weak_cells = k.weak_cells;
}
