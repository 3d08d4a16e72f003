-- Desks of which no command was run, and equal desks.
use Rattle.std.proofs.Common.{◌≡◌, ℕ, List, [], ◌∷◌, length, refl, ap, ap₂, sym, ◌∙◌, subst, arith, Option, Some, None}
use Rattle.std.specs.Prelude.{map}
use Rattle.script_desk.specs.plain_state.declared.slot.PlainSlot.{PlainSlot}
use Rattle.script_desk.specs.plain_state.declared.slot.SlotId.{SlotId}
use Rattle.script_desk.specs.plain_state.declared.slot.Stage.TheVariants.{Free}
use Rattle.script_desk.specs.plain_state.declared.slot.Kind.TheVariants as kind
use Rattle.script_desk.specs.plain_state.Lists.{entry_times}
use Rattle.script_desk.specs.plain_state.Sound.{Sound}
use Rattle.script_desk.specs.plain_state.State.{Plain, empty, seat_at, slot_at, stage_at}
use Rattle.script_desk.proofs.Below.plain_state_Kit.{entry_none, times_none}
use Rattle.script_desk.proofs.Below.plain_state_Start.{every_slot_new, empty_sound}
use Rattle.script_desk.specs.declared.handle.Handle.{Handle}
use Rattle.script_desk.specs.declared.handle.Handle.TheVariants.{Strong, Weak, Snapshot}
use Rattle.script_desk.specs.Desks.{Desk, Names, bound, maker_of}
use Rattle.script_desk.specs.Holding.{HoldsFor}
use Rattle.script_law.specs.Desks.{Alike, renamed_bound}
use Rattle.script_law.specs.Orderly.{IsFresh, IsOrderly}
use Rattle.script_law.specs.Renamings.{IsRenaming, renamed}
use Rattle.script_law.specs.States.{StatesAlike}

-- each slot keeps its name
abbrev pub own_name : SlotId → SlotId
own_name s = s

pub own_names : (n : ℕ) → IsRenaming n own_name own_name
own_names n = record { back = λ s. refl; forth = λ s. refl; inside = λ s h. h; inside_back = λ s h. h }

renamed_own : (o : Option SlotId) → renamed own_name o ≡ o
renamed_own None = refl
renamed_own (Some s) = refl

cells_own : (cs : List (Option SlotId)) → map (renamed own_name) cs ≡ cs
cells_own [] = refl
cells_own (c ∷ cs) = ap₂ (λ (d : Option SlotId) (ds : List (Option SlotId)). d ∷ ds) (renamed_own c) (cells_own cs)

bound_own : (o : Option Handle) → renamed_bound own_name o ≡ o
bound_own None = refl
bound_own (Some (Strong s)) = refl
bound_own (Some (Weak s)) = refl
bound_own (Some (Snapshot s)) = refl

pub states_own : (p : Plain) → StatesAlike own_name p p
states_own p = record {
  size = refl;
  slots = λ s. record {
    stage = refl;
    marked = refl;
    payload = λ taken. refl;
    first = sym (renamed_own (slot_at p s).first);
    second = sym (renamed_own (slot_at p s).second);
    weak_field = sym (renamed_own (slot_at p s).weak_field);
  };
  cells = sym (cells_own p.cells);
  weak_cells = sym (cells_own p.weak_cells);
  seat = record { owned = λ s. refl; weaks = λ s. refl; snapshots = λ k s. refl; deferred = λ k s. refl };
}

-- a desk is alike to itself, and to one with an equal heap, equal names and the same makers
pub same_alike : (d e : Desk) → e.plain ≡ d.plain → e.names ≡ d.names → e.makes ≡ d.makes
    → ((s : SlotId) → maker_of e s ≡ maker_of d s) → Alike d e
same_alike d e plain names makes makers = (
  own_name,
  own_name,
  own_names (length d.plain.slots),
  record {
    plain = subst (StatesAlike own_name d.plain) (sym plain) (states_own d.plain);
    names = λ name. ap (λ (ns : Names). bound ns name) names ∙ sym (bound_own (bound d.names name));
    makers = λ s taken. makers s;
    makes = makes;
  },
)

module _ (slots cells weak_cells : ℕ) where
  pub fresh_alike : (d e : Desk) → IsFresh slots cells weak_cells d → IsFresh slots cells weak_cells e → Alike d e
  fresh_alike d e f g =
      same_alike d e (g.0 ∙ sym f.0) (g.1 ∙ sym f.1) (g.2 ∙ sym f.2) (λ s. g.3 s ∙ sym (f.3 s))

  all_free : (d : Desk) → IsFresh slots cells weak_cells d → (s : SlotId) → stage_at d.plain s ≡ Free
  all_free d f s =
      ap (λ (p : Plain). stage_at p s) f.0 ∙ ap (λ (x : PlainSlot). x.stage) (every_slot_new 1 slots cells weak_cells s)

  nothing_held : HoldsFor (empty 1 slots cells weak_cells) []
  nothing_held = record {
    owned = λ s. times_none s;
    weaks = λ s. times_none s;
    snapshots = λ s. entry_none kind.Strong s;
    weak_snapshots = λ s. let a = entry_none kind.Weak s in let b = entry_none kind.Disposal s in omega arith;
  }

  pub fresh_orderly : (d : Desk) → IsFresh slots cells weak_cells d → IsOrderly d
  fresh_orderly d f = record {
    sound = subst Sound (sym f.0) (empty_sound 1 slots cells weak_cells);
    one = ap (λ (p : Plain). length p.seats) f.0;
    quiet = λ s. ap (λ (p : Plain). entry_times kind.Disposal s (seat_at p 0).deferred) f.0 ∙ entry_none kind.Disposal s;
    listed = [];
    once = tt;
    same = λ name. ap (λ (ns : Names). bound ns name) (sym f.1);
    holds = subst (λ (p : Plain). HoldsFor p []) (sym f.0) nothing_held;
    made = λ s taken. absurd (taken (all_free d f s));
    own = λ s t taken other same. absurd (taken (all_free d f s));
  }
