-- Desks that are alike: what names are bound to, and what is alike after a step.
use Rattle.std.proofs.Common.{◌≡◌, ◌≢◌, ⊎_elim, ℕ, List, length, refl, ap, sym, ◌∙◌, subst, subst₂, arith, Option, Some, None}
use Rattle.std.proofs.lemmas.List.{length-map}
use Rattle.script_desk.specs.plain_state.declared.slot.Kind.TheVariants.{Disposal}
use Rattle.script_desk.specs.plain_state.declared.slot.SlotId.{SlotId}
use Rattle.script_desk.specs.plain_state.declared.slot.Stage.TheVariants.{Free}
use Rattle.script_desk.specs.plain_state.State.{Plain, seat_at, stage_at}
use Rattle.script_desk.specs.declared.handle.Handle.{Handle}
use Rattle.script_desk.specs.declared.handle.Handle.TheVariants.{Strong, Weak, Snapshot}
use Rattle.script_desk.specs.Desks.{Binds, Desk, Maker, Names, SameMakers, Settles, bound, maker_at, maker_of, scope_of}
use Rattle.script_desk.specs.Effects.{Gets, Gives, Keeps}
use Rattle.script_desk.specs.Handles.{slot_of}
use Rattle.script_desk.specs.Holding.{HasSame}
use Rattle.script_desk.proofs.Grows.{has_lists}
use Rattle.script_law.specs.Desks.{DesksAlike, renamed_bound, renamed_handle}
use Rattle.script_law.specs.Orderly.{IsOrderly}
use Rattle.script_law.specs.Renamings.{IsRenaming, renamed}
use Rattle.script_law.specs.States.{StatesAlike}
use Rattle.script_law.proofs.Backwards.{alike_back, tidied, tidied_alike}
use Rattle.script_law.proofs.Names.{same_name}
use Rattle.script_law.proofs.Orderly.{Moves, orderly_same}
use Rattle.script_law.proofs.Settled.{was_taken}
use Rattle.script_law.proofs.Fates.{Tidying}

pub slot_of_renamed : (to : SlotId → SlotId) (h : Handle) → slot_of (renamed_handle to h) ≡ to (slot_of h)
slot_of_renamed to (Strong s) = refl
slot_of_renamed to (Weak s) = refl
slot_of_renamed to (Snapshot s) = refl

-- ---- the names that lead back
module _ (to from : SlotId → SlotId) (n : ℕ) (r : IsRenaming n to from) where
  handle_back : (h : Handle) → renamed_handle from (renamed_handle to h) ≡ h
  handle_back (Strong s) = ap Strong (r.back s)
  handle_back (Weak s) = ap Weak (r.back s)
  handle_back (Snapshot s) = λ i. Snapshot (r.back s.0 i, s.1)

  bound_back : (o : Option Handle) → renamed_bound from (renamed_bound to o) ≡ o
  bound_back None = refl
  bound_back (Some h) = ap Some (handle_back h)

  pub desks_back : (d e : Desk) → DesksAlike to d e → DesksAlike from e d
  desks_back d e alike = record {
    plain = alike_back to from n r d.plain e.plain alike.plain;
    names = λ name. sym (ap (renamed_bound from) (alike.names name) ∙ bound_back (bound d.names name));
    makers = λ s taken.
        let there : stage_at d.plain (from s) ≢ Free
        = λ free. taken (ap (stage_at e.plain) (sym (r.forth s)) ∙ (alike.plain.slots (from s)).stage ∙ free) in
        sym (alike.makers (from s) there) ∙ ap (maker_of e) (r.forth s);
    makes = sym alike.makes;
  }

-- ---- what a name is bound to
module _ (to : SlotId → SlotId) (d e : Desk) (alike : DesksAlike to d e) where
  pub sizes_alike : (scope_of e).sizes ≡ (scope_of d).sizes
  sizes_alike = λ i. record {
    cells = (ap length alike.plain.cells ∙ length-map d.plain.cells (renamed to)) i;
    weak_cells = (ap length alike.plain.weak_cells ∙ length-map d.plain.weak_cells (renamed to)) i;
  }

  pub bound_alike : (name : List ℕ) (h h' : Handle) → bound d.names name ≡ Some h → bound e.names name ≡ Some h'
      → h' ≡ renamed_handle to h
  bound_alike name h h' is is' =
      let a : Some h' ≡ Some (renamed_handle to h) = sym is' ∙ alike.names name ∙ ap (renamed_bound to) is in cc

  -- after a binding
  module _ (f g : Desk) (name : List ℕ) (o o' : Option Handle) (binds : Binds d.names name o f.names)
      (binds' : Binds e.names name o' g.names) (same : o' ≡ renamed_bound to o) where
    pub binds_alike : (other : List ℕ) → bound g.names other ≡ renamed_bound to (bound f.names other)
    binds_alike other =
        ⊎_elim
        (λ (is : other ≡ name). subst (λ (n : List ℕ). bound g.names n ≡ renamed_bound to (bound f.names n)) (sym is)
        (binds'.0 ∙ same ∙ ap (renamed_bound to) (sym binds.0)))
        (λ (ne : other ≢ name).
        binds'.1 other ne ∙ alike.names other ∙ ap (renamed_bound to) (sym (binds.1 other ne)))
        (same_name other name)

  -- after steps that make nothing
  module _ (f g : Desk) (taken : (s : SlotId) → stage_at f.plain s ≢ Free → stage_at d.plain s ≢ Free) (plain : StatesAlike to f.plain g.plain)
      (makers : SameMakers d f) (makers' : SameMakers e g) where
    after : ((name : List ℕ) → bound g.names name ≡ renamed_bound to (bound f.names name)) → DesksAlike to f g
    after names = record {
      plain = plain;
      names = names;
      makers = λ s there.
          ap (λ (made : List Maker). maker_at made (to s)) makers'.1 ∙ alike.makers s (taken s there)
          ∙ sym (ap (λ (made : List Maker). maker_at made s) makers.1);
      makes = makers'.0 ∙ alike.makes ∙ sym makers.0;
    }

  module _ (f g : Desk) (moves : Moves d.plain f.plain) (plain : StatesAlike to f.plain g.plain) where
    pub gets_alike : (name : List ℕ) (h : Handle) → Gets d name h f → Gets e name (renamed_handle to h) g → DesksAlike to f g
    gets_alike name h (b, m) (b', m') =
        after f g moves.taken plain m m' (binds_alike f g name (Some h) (Some (renamed_handle to h)) b b' refl)

    pub gives_alike : (name : List ℕ) → Gives d name f → Gives e name g → DesksAlike to f g
    gives_alike name (b, m) (b', m') = after f g moves.taken plain m m' (binds_alike f g name None None b b' refl)

    pub keeps_alike : Keeps d f → Keeps e g → DesksAlike to f g
    keeps_alike (n, m) (n', m') =
        after f g moves.taken plain m m'
        (λ name. ap (λ (ns : Names). bound ns name) n' ∙ alike.names name ∙ ap (λ (ns : Names). renamed_bound to (bound ns name)) (sym n))

  pub still_alike : (f g : Desk) → f ≡ d → g ≡ e → DesksAlike to f g
  still_alike f g is is' = subst₂ (DesksAlike to) (sym is) (sym is') alike

-- ---- a heap that settles
tidying_same : (p q : Plain) → Tidying p q → HasSame p q
tidying_same p q t =
    has_lists p q (seat_at q 0)
    (record { slots = t.slots.size; cells = ap length t.slots.cells; weak_cells = ap length t.slots.weak_cells })
    refl t.lists.owned t.lists.weaks t.lists.snapshots

tidying_moves : (p q : Plain) → Tidying p q → Moves p q
tidying_moves p q t = record {
  sound = t.sound;
  one = t.seats;
  size = t.slots.size;
  quiet = λ quiet s. let a = t.balance.most Disposal s in let b = quiet s in omega arith;
  taken = λ s taken. was_taken (stage_at p s) (stage_at q s) (t.slots.fates s).later taken;
}

pub settles_orderly : (d e : Desk) → IsOrderly d → Settles d e → IsOrderly e
settles_orderly d e k (t, settled) =
    let by = tidied d.plain e.plain k.sound k.one t.tidies in
    orderly_same d e k (tidying_moves d.plain e.plain by) (tidying_same d.plain e.plain by) (t.names, t.makers)

pub settles_alike : (to from : SlotId → SlotId) (d e f g : Desk) → IsRenaming (length d.plain.slots) to from → DesksAlike to d e
    → IsOrderly d → IsOrderly e → Settles d f → Settles e g → DesksAlike to f g
settles_alike to from d e f g r alike k l (t, settled) (u, settled') =
    let by = tidied d.plain f.plain k.sound k.one t.tidies in
    keeps_alike to d e alike f g (tidying_moves d.plain f.plain by)
    (tidied_alike to from d.plain e.plain f.plain g.plain r alike.plain k.sound l.sound k.one l.one t.tidies settled u.tidies settled')
    (t.names, t.makers) (u.names, u.makers)
