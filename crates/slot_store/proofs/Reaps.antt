-- The steps of a reap, put together.
use Rattle.std.proofs.Common.{◌≡◌, inl, inr, ℕ, List, ◌∷◌, refl, ap, sym, ◌∙◌, subst}
use Rattle.std.specs.Prelude.{Some}
use Rattle.protocol_pairs.specs.plain_state.declared.act.EventPlace.{EventPlace}
use Rattle.protocol_pairs.specs.plain_state.declared.act.EventPlace.TheVariants.{Field, WeakField}
use Rattle.protocol_pairs.specs.plain_state.declared.slot.SlotId.{SlotId}
use Rattle.retiring_stores.specs.domain_rule.Views.{HasCleared, Stands}
use Rattle.retiring_stores.specs.acquire_retire.Collecting.{rest_of}
use Rattle.retiring_stores.specs.acquire_retire.Domains.{DomainState}
use Rattle.retiring_stores.specs.acquire_retire.Seats.{SeatState}
use Rattle.slot_store.specs.Reaping.{Clears, Destroys, FindsRipe, KnowsBoth, Passes, Reaps, SeesAll}
use Rattle.slot_store.proofs.Passing.{passes_on}

module _ {P V : Type 0} (d : DomainState P)
    (old ripe first second null read : SeatState V) (p0 : Passes d old ripe) (p1 : Passes d ripe first)
    (p2 : Passes d first second) (p3 : Passes d second null) (p4 : Passes d null read) where
  pub passes_null : Passes d ripe null
  passes_null = passes_on d ripe second null (passes_on d ripe first second p1 p2) p3

  pub passes_read : Passes d old read
  passes_read =
      passes_on d old null read (passes_on d old ripe null p0 passes_null) p4

  pub knows_new : (new : SeatState V) → KnowsBoth read new → KnowsBoth old new
  knows_new new knows x had has = knows x (passes_read.has x had) has ∙ passes_read.knows x had

  module _ {fits : List ℕ → Type 0} (s : SlotId) (payload : List ℕ)
      (one : Clears fits d (Field s 0) ripe first) (two : Clears fits d (Field s 1) first second)
      (three : Clears fits d (WeakField s) second null) (sees : SeesAll fits d s payload null read)
    where
      pub has_cleared : HasCleared read.view s
      has_cleared =
          let is : read.view.cleared ≡ WeakField s ∷ Field s 1 ∷ Field s 0 ∷ ripe.view.cleared =
          sees.goes.becomes.cleared ∙ three.cleared
          ∙ ap (λ (ps : List EventPlace). WeakField s ∷ ps)
          (two.cleared ∙ ap (λ (ps : List EventPlace). Field s 1 ∷ ps) one.cleared) in
          subst (λ (ps : List EventPlace).
          Stands (Field s 0) ps × Stands (Field s 1) ps × Stands (WeakField s) ps) (sym is)
          (inr (inr (inl refl)), inr (inl refl), inl refl)

      module _ (new : SeatState V) (finds : FindsRipe fits d (Some s) old ripe)
          (destroys : Destroys fits d s read new)
          (same : rest_of new.view.core ≡ rest_of read.view.core) where
        pub reaps : (weight : List ℕ → ℕ) (answer : ℕ) → answer ≡ weight payload
            → Reaps fits d weight answer old new
        reaps weight answer weighs = record {
          slot = s;
          payload = payload;
          ripe = ripe;
          first = first;
          second = second;
          null = null;
          read = read;
          finds = finds;
          clears_first = one;
          clears_second = two;
          clears_weak = three;
          sees = sees;
          destroys = destroys;
          weighs = weighs;
          same = same ∙ passes_read.same;
        }
