-- A record that was made, of which the seat has a second reference, while it is placed.
use Rattle.std.proofs.Common.{◌≡◌, inl, inr, ⊎_elim, ℕ, ◌+◌, ◌<◌, ◌≤◌, List, [], ◌∷◌, ◌++◌, refl, sym, ◌∙◌, subst, arith}
use Rattle.cell_calls.specs.Keeping.{Keeps}
use Rattle.cell_calls.proofs.Keeping.{keeps_then, keeps_wider}
use Rattle.cell_calls.specs.cell_law.declared.view.View.{View}
use Rattle.cell_calls.specs.cell_law.directory_law.Payloads.{Text}
use Rattle.cell_calls.specs.cell_law.directory_law.Views.{In, rope}
use Rattle.cell_calls.specs.cell_law.directory_law.declared.view.Rope.{Rope}
use Rattle.cell_calls.specs.cell_law.plain_state.declared.slot.SlotId.{SlotId}
use Rattle.cell_calls.specs.cell_law.plain_state.Lists.{times}
use Rattle.cell_calls.specs.cell_protocol.declared.law.CellLaw.{CellLaw}
use Rattle.epoch_refs.specs.epoch_core.core_events.Counts.{one}
use Rattle.epoch_refs.specs.epoch_core.core_events.Views.{without}
use Rattle.epoch_refs.specs.epoch_core.declared.act.EpochAct.TheVariants as act
use Rattle.epoch_refs.specs.epoch_core.declared.outcome.EpochOutcome.{EpochOutcome}
use Rattle.epoch_refs.specs.epoch_core.declared.outcome.EpochOutcome.TheVariants as outcome
use Rattle.epoch_refs.specs.epoch_core.Views.{Holds}
use Rattle.epoch_refs.specs.epoch_rule.Views.{object_in}
use Rattle.epoch_refs.specs.plain_protocol.Owns.{Object}
use Rattle.epoch_refs.specs.epoch_domain.Calls.{IsSameView, Steps, same_view}
use Rattle.epoch_refs.specs.epoch_domain.Domains.{DomainState}
use Rattle.epoch_refs.specs.epoch_domain.Seats.{SeatState}
use Rattle.epoch_domain.proofs.Below.core_law_Kit.{one_same, times_push, times_without}
use Rattle.cell_making.specs.Bindings.{HasHead}
use Rattle.cell_making.specs.Making.{HasMade, candidate_in}
use Rattle.cell_making.proofs.Heads.{head_stays, made_notes}
use Rattle.cell_making.proofs.Kept.{drop_back, drop_keeps, drop_unclaimed}
use Rattle.cell_making.proofs.Owned.{holds_on, keeps_dropped}
use Rattle.cell_finding.specs.Finding.{IsOnWalk}
use Rattle.cell_finding.proofs.Walking.{walk_kept}
use Rattle.cell_intern.specs.Interning.{Has}
use Rattle.cell_intern.specs.Refusals.{IsWhy}
use Rattle.cell_intern.specs.declared.refusal.InternError.{InternError}
use Rattle.cell_intern.proofs.Causes.{why_after, why_on}
use Rattle.cell_intern.proofs.Kept.{add_keeps}
use Rattle.cell_intern.proofs.Quiet.{Quiet, learns_same, quiet_notes, quiet_same, quiet_then}

pub pushed_more : (t : SlotId) (xs : List SlotId) (x : SlotId)
    → times x xs ≤ times x (xs ++ t ∷ [])
pushed_more t xs x = let p = times_push x t xs in omega (arith, p)

-- a make of a record and a copy of its head bind nothing
pub quiet_copied : (d : DomainState CellLaw) (fits : List ℕ → Type 0) (text : Text) (h : SlotId)
    (n : ℕ) (old made copied : SeatState View) → HasMade text n h old made
    → Steps fits d same_view IsSameView (act.Add h) made copied outcome.Plain
    → Quiet old.view.client copied.view.client
quiet_copied d fits text h n old made copied is add =
    quiet_then old.view.client made.view.client copied.view.client
    (quiet_notes old.view.client made.view.client (made_notes text n h old made is))
    (quiet_same made.view.client copied.view.client add.told.client)

-- a reference to what it has listed is that of a record with this text
pub has_still : (text : Text) (t : SlotId) (a b : SeatState View) → Has text t a
    → b.view.client ≡ a.view.client → object_in b.view t ≡ object_in a.view t
    → 0 < times t b.view.core.owned → Has text t b
has_still text t a b has client same owned = record {
  listed = ⊎_elim
      (λ (f : In (rope t (object_in a.view t).life text) a.view.client.found).
      inl (subst (λ (v : View). In (rope t (object_in b.view t).life text) v.found) (sym client)
      (subst (λ (o : Object). In (rope t o.life text) a.view.client.found) (sym same) f)))
      (λ (f : In (rope t (object_in a.view t).life text) a.view.client.bound).
      inr (subst (λ (v : View). In (rope t (object_in b.view t).life text) v.bound) (sym client)
      (subst (λ (o : Object). In (rope t o.life text) a.view.client.bound) (sym same) f)))
      has.listed;
  owned = owned;
}

module _ (d : DomainState CellLaw) (fits : List ℕ → Type 0) (text : Text) (h : SlotId) (n : ℕ)
    (old made : SeatState View) (keeps : Keeps n n (old.view.core.owned ++ h ∷ []) old made) where
  holds_made : (x : SlotId) → Holds old.view.core x → Holds made.view.core x
  holds_made x has = holds_on n n (old.view.core.owned ++ h ∷ []) old made keeps x
      (let p = times_push x h old.view.core.owned in omega (arith, p)) has

  pub made_owned : 0 < times h made.view.core.owned
  made_owned =
      let o = keeps.owns h in let p = times_push h h old.view.core.owned in
      let one' = one_same h h refl in omega (arith, o, p, one')

  -- it was given up again
  pub unmade_keeps : (o : EpochOutcome) (next : SeatState View)
      → Steps fits d same_view IsSameView (act.Drop h) made next o
      → Keeps n (n + 2) old.view.core.owned old next
  unmade_keeps o next drop =
      let there : 0 < times h (old.view.core.owned ++ h ∷ []) =
      let p = times_push h h old.view.core.owned in
      let one' = one_same h h refl in omega (arith, p, one') in
      keeps_wider n n n (n + 2) (without h (old.view.core.owned ++ h ∷ [])) old.view.core.owned old next
      (keeps_dropped n n (old.view.core.owned ++ h ∷ []) h old made next keeps there
      (drop_keeps fits d made next h o drop) (drop_back fits d made next h o made_owned drop))
      (omega arith) (omega arith)
      (λ x.
      let w = times_without x h (old.view.core.owned ++ h ∷ []) there in
      let p = times_push x h old.view.core.owned in omega (arith, w, p))

  -- IT WAS COPIED
  module _ (copied : SeatState View)
      (add : Steps fits d same_view IsSameView (act.Add h) made copied outcome.Plain) where
    added : Keeps 0 1 (made.view.core.owned ++ h ∷ []) made copied
    added = add_keeps fits d h made copied add

    pub both : Keeps n (n + 1) (made.view.core.owned ++ h ∷ []) old copied
    both =
        keeps_wider (n + 0) n (n + 1) (n + 1) (made.view.core.owned ++ h ∷ [])
        (made.view.core.owned ++ h ∷ []) old copied
        (keeps_then n 0 n 1 (old.view.core.owned ++ h ∷ []) (made.view.core.owned ++ h ∷ []) old made
        copied keeps added (λ x has still. holds_made x has))
        (omega arith) (omega arith) (λ x. refl)

    -- how often it owns x
    counted : (x : SlotId)
        → times x copied.view.core.owned ≡ times x old.view.core.owned + one x h + one x h
    counted x =
        let a = added.owns x in
        let k = keeps.owns x in
        let p = times_push x h made.view.core.owned in
        let q = times_push x h old.view.core.owned in
        omega (arith, a, k, p, q)

    once : one h h ≡ 1
    once = one_same h h refl

    twice : 2 ≤ times h copied.view.core.owned
    twice = let c = counted h in let o = once in omega (arith, c, o)

    holds_copied : (x : SlotId) → Holds old.view.core x → Holds copied.view.core x
    holds_copied x has = holds_on n (n + 1) (made.view.core.owned ++ h ∷ []) old copied both x
        (let k = keeps.owns x in
        let p = times_push x h made.view.core.owned in
        let q = times_push x h old.view.core.owned in omega (arith, k, p, q)) has

    pub head_copied : HasHead text h made → HasHead text h copied
    head_copied head = head_stays text 0 1 (made.view.core.owned ++ h ∷ []) h made copied head added
        (learns_same made.view.client copied.view.client add.told.client)
        (let t = twice in omega (arith, t))

    pub walk_copied : (passed : ℕ) → IsOnWalk d text passed old
        → Quiet old.view.client made.view.client → IsOnWalk d text passed copied
    walk_copied passed walk quiet =
        walk_kept d text passed n (n + 1) (made.view.core.owned ++ h ∷ []) old copied walk both
        (quiet_copied quiet).saw ((quiet_copied quiet).cleared ∙ walk.is_open)
      where
        quiet_copied : Quiet old.view.client made.view.client
            → Quiet old.view.client copied.view.client
        quiet_copied q = quiet_then old.view.client made.view.client copied.view.client q
            (quiet_same made.view.client copied.view.client add.told.client)

    -- one of the two references is gone
    less : (x : SlotId)
        → times x (without h copied.view.core.owned) + one x h ≡ times x copied.view.core.owned
    less x =
        let t = twice in
        let w = times_without x h copied.view.core.owned (omega (arith, t)) in omega (arith, w)

    -- IT WAS PLACED
    module _ (placed : SeatState View) where
      total : (xs : List SlotId) → Keeps 0 1 xs copied placed → Keeps n (n + 2) xs old placed
      total xs second =
          keeps_wider (n + 0) n (n + 1 + 1) (n + 2) xs xs old placed
          (keeps_then n 0 (n + 1) 1 (made.view.core.owned ++ h ∷ []) xs old copied placed both second
          (λ x has still. holds_copied x has))
          (omega arith) (omega arith) (λ x. refl)

      pub placed_keeps : Keeps 0 1 (without h copied.view.core.owned) copied placed
          → Keeps n (n + 2) (old.view.core.owned ++ h ∷ []) old placed
      placed_keeps second =
          keeps_wider n n (n + 2) (n + 2) (without h copied.view.core.owned)
          (old.view.core.owned ++ h ∷ []) old placed (total (without h copied.view.core.owned) second)
          (omega arith) (omega arith)
          (λ x.
          let c = counted x in
          let l = less x in
          let q = times_push x h old.view.core.owned in omega (arith, c, l, q))

      pub placed_has : Keeps 0 1 (without h copied.view.core.owned) copied placed
          → placed.view.client.bound ≡ candidate_in h text copied ∷ copied.view.client.bound
          → Has text h placed
      placed_has second listed =
          let t = twice in
          let l = less h in
          let o = once in
          let k = second.owns h in
          let owned : 0 < times h placed.view.core.owned = omega (arith, t, l, o, k) in
          record {
            listed = inr (subst (λ (x : Object). In (rope h x.life text) placed.view.client.bound)
                (sym (second.knows h (omega (arith, t)) (omega (arith, owned))))
                (subst (λ (es : List Rope). In (candidate_in h text copied) es) (sym listed)
                (inl refl)));
            owned = owned;
          }

      -- and the other one too
      module _ (xs : List SlotId) (second : Keeps 0 1 xs copied placed)
          (more : (x : SlotId)
          → times x (without h copied.view.core.owned) ≤ times x xs) where
        pub copy_owned : 0 < times h placed.view.core.owned
        copy_owned =
            let t = twice in let l = less h in let o = once in let k = second.owns h in
            let m = more h in omega (arith, t, l, o, k, m)

        copy_there : 0 < times h xs
        copy_there = let k = second.owns h in let c = copy_owned in omega (arith, k, c)

        module _ (o : EpochOutcome) (next : SeatState View)
            (drop : Steps fits d same_view IsSameView (act.Drop h) placed next o) where
          pub left_keeps : (m : SlotId → ℕ)
              → ((x : SlotId) → times x xs
              ≡ times x (without h copied.view.core.owned) + m x)
              → (zs : List SlotId)
              → ((x : SlotId) → times x zs ≡ times x old.view.core.owned + m x)
              → Keeps n (n + 2) zs old next
          left_keeps m are zs wanted =
              keeps_wider n n (n + 2) (n + 2) (without h xs) zs old next
              (keeps_dropped n (n + 2) xs h old placed next (total xs second) copy_there
              (drop_keeps fits d placed next h o drop)
              (drop_back fits d placed next h o copy_owned drop))
              (omega arith) (omega arith)
              (λ x.
              let w = times_without x h xs copy_there in
              let c = counted x in
              let l = less x in
              let a = are x in
              let z = wanted x in omega (arith, w, c, l, a, z))

          dropped : Keeps 0 0 (without h placed.view.core.owned) placed next
          dropped = drop_keeps fits d placed next h o drop

          pub found_has : (t : SlotId) → Has text t placed
              → 0 < times t next.view.core.owned → Has text t next
          found_has t has owned =
              let was = has.owned in
              has_still text t placed next has drop.told.client
              (dropped.knows t (omega (arith, was)) (omega (arith, owned))) owned

          pub placed_why : (error : InternError) → IsWhy d error copied placed
              → IsWhy d error old next
          placed_why error why =
              why_on d error (without h placed.view.core.owned) old placed next
              (why_after d error n (n + 1) (made.view.core.owned ++ h ∷ []) old copied placed both why)
              dropped (drop_unclaimed fits d placed next h o drop)
