-- Tidying goes on, and plain heaps settle by tidying.
use Rattle.std.proofs.Common.{◌≡◌, ℕ, ◌+◌, ◌<◌, ◌≤◌, List, [], ◌∷◌, ◌++◌, refl, ap, sym, ◌∙◌, subst, arith}
use Rattle.plain_store.specs.plain_state.declared.act.EventPlace.{EventPlace}
use Rattle.plain_store.specs.plain_state.declared.act.PlainAct.{PlainAct}
use Rattle.plain_store.specs.plain_state.declared.act.PlainAct.TheVariants as act
use Rattle.plain_store.specs.plain_state.declared.slot.Kind.{Kind}
use Rattle.plain_store.specs.plain_state.declared.slot.Kind.TheVariants.{Strong, Weak, Disposal}
use Rattle.plain_store.specs.plain_state.declared.slot.SlotId.{SlotId}
use Rattle.plain_store.specs.plain_state.Lists.{Entry, entry_times}
use Rattle.plain_store.specs.plain_state.State.{Plain, PlainSeat, seat_at}
use Rattle.plain_store.specs.plain_state.Steps.{Does}
use Rattle.plain_store.proofs.Below.plain_state_Kit.{entry_append, entry_cons, entry_in, entry_self}
use Rattle.plain_store.specs.Settling.{EjectsLater, Settles, SettlesBy, SettlesTo}
use Rattle.plain_settling.specs.Settling.{IsSurplus, Tidies, TidiesBy, TidiesTo}

by_more : (first more : List PlainAct) (p q r : Plain) → TidiesBy first p q → TidiesBy more q r
    → TidiesBy (first ++ more) p r
by_more [] more p q r one two = subst (λ (x : Plain). TidiesBy more x r) one two
by_more (a ∷ rest) more p q r one two =
    (one.0, one.1, one.2, one.3, by_more rest more one.0 q r one.4 two)

pub tidies_on : (p q r : Plain) → TidiesTo p q → TidiesTo q r → TidiesTo p r
tidies_on p q r one two = (one.0 ++ two.0, by_more one.0 two.0 p q r one.1 two.1)

pub tidies_none : (p q : Plain) → q ≡ p → TidiesTo p q
tidies_none p q same = ([], same)

pub tidies_one : (p q : Plain) (a : PlainAct) (found : ℕ) → Tidies p a → Does p 0 a found q
    → TidiesTo p q
tidies_one p q a found tidies does = (a ∷ [], (q, found, tidies, does, refl))

-- a later entry that goes is one of too many
later_surplus : (k : Kind) (s : SlotId) (v w : PlainSeat) → EjectsLater v k s w → IsSurplus v k s
later_surplus k s v w later =
    let all = ap (entry_times k s) later.2 in
    let parts = entry_append k s later.0 ((k, s) ∷ later.1) in
    let one = entry_cons k s (k, s) later.1 in
    let self = entry_self k s in
    let many = later.4 in omega arith

one_so : (a : PlainAct) (p q : Plain) → Settles p a q → Tidies p a
one_so (act.Eject k s) p q is = later_surplus k s (seat_at p 0) (seat_at q 0) is
one_so (act.End s) p q is = tt
one_so (act.Clear place) p q is = tt
one_so (act.Destroy s) p q is = tt
one_so (act.Give s) p q is = tt
one_so act.Split p q is = tt
one_so act.Still p q is = is
one_so act.Ticket p q is = is
one_so (act.Claim s) p q is = is
one_so (act.Fill s i word) p q is = is
one_so (act.Make s) p q is = is
one_so (act.Add s) p q is = is
one_so (act.Drop s) p q is = is
one_so (act.WeakGain s) p q is = is
one_so (act.WeakDrop s) p q is = is
one_so (act.Look place) p q is = is
one_so (act.Check j place) p q is = is
one_so (act.EndSnapshot k s) p q is = is
one_so (act.Replace place new) p q is = is
one_so (act.TryReplace place old new) p q is = is
one_so (act.Count s) p q is = is
one_so (act.Mark s) p q is = is
one_so (act.WeakCount s) p q is = is
one_so (act.See s i) p q is = is
one_so (act.Leave j) p q is = is
one_so (act.Alive j) p q is = is

so : (weight : List ℕ → ℕ) (acts : List PlainAct) (p q : Plain) (total : ℕ)
    → SettlesBy weight acts p total q → TidiesBy acts p q
so weight [] p q total by = by.0
so weight (a ∷ rest) p q total by =
    (by.0, by.1, one_so a p by.0 by.3, by.4, so weight rest by.0 q by.2 by.5)

pub settles_so : (weight : List ℕ → ℕ) (p q : Plain) (total : ℕ) → SettlesTo weight p total q
    → TidiesTo p q
settles_so weight p q total by = (by.0, so weight by.0 p q total by.1)
