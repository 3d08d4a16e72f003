-- What the seat has for the handles of its names.
use Rattle.std.proofs.Common.{◌≡◌, ℕ, ◌≤◌, Bool, true, false, List, [], ◌∷◌, refl, ap, sym, ◌∙◌, arith, Some}
use Rattle.std.specs.List.{sum_by}
use Rattle.std.specs.Map.{values_of}
use Rattle.std.specs.Str.{bytes_eq}
use Rattle.std.proofs.lemmas.List.Sums.{sum_by-cons}
use Rattle.plain_audit.specs.plain_state.State.{Plain}
use Rattle.plain_audit.proofs.Below.plain_state_Kit.{held_self}
use Rattle.script_desk.specs.declared.handle.Handle.{Handle}
use Rattle.script_desk.specs.declared.handle.Handle.TheVariants.{Strong, Weak, Snapshot}
use Rattle.script_desk.specs.Desks.{Names, Maker, bound}
use Rattle.script_desk.specs.Holding.{owned_by, weakly_owned_by, announced_by, HoldsFor, HasHandle, HasMore, HasSame, CountsMore, Kept}

-- what a handle that is bound counts for is in the sum
at_most : (f : Handle → ℕ) (names : Names) (name : List ℕ) (h : Handle) → bound names name ≡ Some h → f h ≤ sum_by f (values_of names)
unfolding bound
at_most f [] name h e = cc
at_most f ((key, x) ∷ rest) name h e = here (bytes_eq name key) refl (λ later. at_most f rest name h later)
  where
    here : (b : Bool) → bytes_eq name key ≡ b → (bound rest name ≡ Some h → f h ≤ sum_by f (values_of rest)) → f h ≤ sum_by f (x ∷ values_of rest)
    here true same later =
        let is : x ≡ h = cc (rw same at e) in
        let counted : f x ≡ f h = ap f is in
        omega (arith, sum_by-cons f x (values_of rest))
    here false other later = omega (arith, sum_by-cons f x (values_of rest), later (rw other at e))

-- the seat has each handle to which a name is bound
pub has_bound : (p : Plain) (names : Names) (name : List ℕ) (h : Handle) → HoldsFor p (values_of names) → bound names name ≡ Some h → HasHandle p h
has_bound p names name (Strong s) k e = omega (arith, k.owned s, at_most (owned_by s) names name (Strong s) e, held_self s)
has_bound p names name (Weak s) k e = omega (arith, k.weaks s, at_most (weakly_owned_by s) names name (Weak s) e, held_self s)
has_bound p names name (Snapshot (s, true)) k e = omega (arith, k.owned s, at_most (owned_by s) names name (Snapshot (s, true)) e, held_self s)
has_bound p names name (Snapshot (s, false)) k e = omega (arith, k.snapshots s, at_most (announced_by s) names name (Snapshot (s, false)) e, held_self s)

-- what it has more it has
pub has_more : (p q : Plain) (h : Handle) → HasMore p h q → HasHandle q h
has_more p q (Strong s) m = omega (arith, m.owned s, held_self s)
has_more p q (Weak s) m = omega (arith, m.weaks s, held_self s)
has_more p q (Snapshot (s, true)) m = omega (arith, m.owned s, held_self s)
has_more p q (Snapshot (s, false)) m = omega (arith, m.snapshots s, held_self s)

-- what was more is gone again
pub undone : (p q r : Plain) (h : Handle) → HasMore p h q → HasMore r h q → HasSame p r
undone p q r h m n = record {
  sizes = record { slots = cc (m.sizes.slots, n.sizes.slots); cells = cc (m.sizes.cells, n.sizes.cells); weak_cells = cc (m.sizes.weak_cells, n.sizes.weak_cells) };
  owned = λ s. omega (arith, m.owned s, n.owned s);
  weaks = λ s. omega (arith, m.weaks s, n.weaks s);
  snapshots = λ s. omega (arith, m.snapshots s, n.snapshots s);
  weak_snapshots = λ s. omega (arith, m.weak_snapshots s, n.weak_snapshots s);
}

module _ (p : Plain) (names : Names) (made : List Maker) (strong weak : ℕ) (k : Kept p names made strong weak) where
  pub kept_same : (q : Plain) → HasSame p q → Kept q names made strong weak
  kept_same q m = record {
    holds = record {
      owned = λ s. m.owned s ∙ k.holds.owned s;
      weaks = λ s. m.weaks s ∙ k.holds.weaks s;
      snapshots = λ s. m.snapshots s ∙ k.holds.snapshots s;
      weak_snapshots = λ s. m.weak_snapshots s ∙ k.holds.weak_snapshots s;
    };
    makers = k.makers ∙ sym m.sizes.slots;
    cells = k.cells ∙ sym m.sizes.cells;
    weak_cells = k.weak_cells ∙ sym m.sizes.weak_cells;
  }

  -- a handle more, and a name that is bound to it
  pub kept_more : (q : Plain) (h : Handle) (new : Names) → HasMore p h q → CountsMore (values_of names) h (values_of new) → Kept q new made strong weak
  kept_more q h new m counts = record {
    holds = record {
      owned = λ s. omega (arith, m.owned s, k.holds.owned s, counts (owned_by s));
      weaks = λ s. omega (arith, m.weaks s, k.holds.weaks s, counts (weakly_owned_by s));
      snapshots = λ s. omega (arith, m.snapshots s, k.holds.snapshots s, counts (announced_by s));
      weak_snapshots = λ s. m.weak_snapshots s ∙ k.holds.weak_snapshots s;
    };
    makers = k.makers ∙ sym m.sizes.slots;
    cells = k.cells ∙ sym m.sizes.cells;
    weak_cells = k.weak_cells ∙ sym m.sizes.weak_cells;
  }

  -- a handle fewer, and no name that is bound to it
  pub kept_fewer : (q : Plain) (h : Handle) (new : Names) → HasMore q h p → CountsMore (values_of new) h (values_of names) → Kept q new made strong weak
  kept_fewer q h new m counts = record {
    holds = record {
      owned = λ s. omega (arith, m.owned s, k.holds.owned s, counts (owned_by s));
      weaks = λ s. omega (arith, m.weaks s, k.holds.weaks s, counts (weakly_owned_by s));
      snapshots = λ s. omega (arith, m.snapshots s, k.holds.snapshots s, counts (announced_by s));
      weak_snapshots = λ s. sym (m.weak_snapshots s) ∙ k.holds.weak_snapshots s;
    };
    makers = k.makers ∙ m.sizes.slots;
    cells = k.cells ∙ m.sizes.cells;
    weak_cells = k.weak_cells ∙ m.sizes.weak_cells;
  }
