-- A desk stays orderly where the seat has one handle more and a name for it, one fewer, or just what it had.
use Rattle.std.proofs.Common.{◌≡◌, ◌≢◌, ⊎_elim, ℕ, ◌<◌, List, ◌∷◌, length, ap, sym, ◌∙◌, subst, arith, Some, None}
use Rattle.std.specs.Map.{values_of}
use Rattle.std.proofs.lemmas.List.Sums.{sum_by-cons}
use Rattle.script_desk.specs.plain_state.declared.slot.SlotId.{SlotId}
use Rattle.script_desk.specs.plain_state.declared.slot.Stage.TheVariants.{Free}
use Rattle.script_desk.specs.plain_state.Sound.{Sound}
use Rattle.script_desk.specs.plain_state.State.{Plain, stage_at}
use Rattle.script_desk.specs.declared.handle.Handle.{Handle}
use Rattle.script_desk.specs.Desks.{Binds, Desk, Maker, Names, SameMakers, bound, maker_at, maker_of}
use Rattle.script_desk.specs.Effects.{Gets, Gives, Keeps}
use Rattle.script_desk.specs.Holding.{HasMore, HasSame, HoldsFor, announced_by, owned_by, weakly_owned_by}
use Rattle.script_law.specs.Orderly.{IsOrderly, IsQuiet, OnceEach}
use Rattle.script_law.proofs.Names.{Without, bound_else, bound_here, same_name, without}

-- a step of a sound heap of one seat, by which no slot is taken
pub record Moves (p q : Plain) : Type 0 where
  pub sound : Sound q
  pub one : length q.seats ≡ 1
  pub size : length q.slots ≡ length p.slots
  pub taken : (s : SlotId) → stage_at q s ≢ Free → stage_at p s ≢ Free
  pub quiet : IsQuiet p → IsQuiet q

-- what the seat has for the listed names
pub holds_more : (p q : Plain) (listed : Names) (name : List ℕ) (h : Handle) → HoldsFor p (values_of listed) → HasMore p h q
    → HoldsFor q (values_of ((name, h) ∷ listed))
holds_more p q listed name h k m = record {
  owned = λ s. let c = sum_by-cons (owned_by s) h (values_of listed) in let a = k.owned s in let b = m.owned s in omega arith;
  weaks = λ s. let c = sum_by-cons (weakly_owned_by s) h (values_of listed) in let a = k.weaks s in let b = m.weaks s in omega arith;
  snapshots = λ s. let c = sum_by-cons (announced_by s) h (values_of listed) in let a = k.snapshots s in let b = m.snapshots s in omega arith;
  weak_snapshots = λ s. m.weak_snapshots s ∙ k.weak_snapshots s;
}

holds_fewer : (p q : Plain) (listed : Names) (name : List ℕ) (h : Handle) (w : Without listed name h) → HoldsFor p (values_of listed)
    → HasMore q h p → HoldsFor q (values_of w.less)
holds_fewer p q listed name h w k m = record {
  owned = λ s. let c = w.fewer (owned_by s) in let a = k.owned s in let b = m.owned s in omega arith;
  weaks = λ s. let c = w.fewer (weakly_owned_by s) in let a = k.weaks s in let b = m.weaks s in omega arith;
  snapshots = λ s. let c = w.fewer (announced_by s) in let a = k.snapshots s in let b = m.snapshots s in omega arith;
  weak_snapshots = λ s. sym (m.weak_snapshots s) ∙ k.weak_snapshots s;
}

holds_same : (p q : Plain) (handles : List Handle) → HoldsFor p handles → HasSame p q → HoldsFor q handles
holds_same p q handles k m = record {
  owned = λ s. m.owned s ∙ k.owned s;
  weaks = λ s. m.weaks s ∙ k.weaks s;
  snapshots = λ s. m.snapshots s ∙ k.snapshots s;
  weak_snapshots = λ s. m.weak_snapshots s ∙ k.weak_snapshots s;
}

module _ (d e : Desk) (k : IsOrderly d) (moves : Moves d.plain e.plain) (makers : SameMakers d e) where
  same_maker : (s : SlotId) → maker_of e s ≡ maker_of d s
  same_maker s = ap (λ (made : List Maker). maker_at made s) makers.1

  made_then : (s : SlotId) → stage_at e.plain s ≢ Free → (maker_of e s).number < e.makes
  made_then s there =
      let a = k.made s (moves.taken s there) in
      let b = ap (λ (m : Maker). m.number) (same_maker s) in
      let c = makers.0 in omega arith

  own_then : (s t : SlotId) → stage_at e.plain s ≢ Free → stage_at e.plain t ≢ Free
      → (maker_of e s).number ≡ (maker_of e t).number → s ≡ t
  own_then s t here there same =
      k.own s t (moves.taken s here) (moves.taken t there)
      (sym (ap (λ (m : Maker). m.number) (same_maker s)) ∙ same ∙ ap (λ (m : Maker). m.number) (same_maker t))

  -- the names that are listed now
  orderly_by : (listed : Names) → OnceEach listed → ((name : List ℕ) → bound listed name ≡ bound e.names name)
      → HoldsFor e.plain (values_of listed) → IsOrderly e
  orderly_by listed once same holds = record {
    sound = moves.sound;
    one = moves.one;
    quiet = moves.quiet k.quiet;
    listed = listed;
    once = once;
    same = same;
    holds = holds;
    made = made_then;
    own = own_then;
  }

-- a name more is listed
pub listed_more : (d : Desk) (k : IsOrderly d) (name : List ℕ) (h : Handle) (names : Names) → bound d.names name ≡ None
    → Binds d.names name (Some h) names
    → OnceEach ((name, h) ∷ k.listed) × ((other : List ℕ) → bound ((name, h) ∷ k.listed) other ≡ bound names other)
listed_more d k name h names none binds = (
  (k.same name ∙ none, k.once),
  (λ other. ⊎_elim
      (λ (is : other ≡ name). subst (λ (n : List ℕ). bound ((name, h) ∷ k.listed) n ≡ bound names n) (sym is)
      (bound_here name h k.listed ∙ sym binds.0))
      (λ (ne : other ≢ name). bound_else name other h k.listed ne ∙ k.same other ∙ sym (binds.1 other ne))
      (same_name other name)),
)

pub orderly_more : (d e : Desk) (name : List ℕ) (h : Handle) → IsOrderly d → Moves d.plain e.plain → bound d.names name ≡ None
    → HasMore d.plain h e.plain → Gets d name h e → IsOrderly e
orderly_more d e name h k moves none more (binds, makers) =
    let l = listed_more d k name h e.names none binds in
    orderly_by d e k moves makers ((name, h) ∷ k.listed) l.0 l.1 (holds_more d.plain e.plain k.listed name h k.holds more)

pub orderly_fewer : (d e : Desk) (name : List ℕ) (h : Handle) → IsOrderly d → Moves d.plain e.plain → bound d.names name ≡ Some h
    → HasMore e.plain h d.plain → Gives d name e → IsOrderly e
orderly_fewer d e name h k moves some fewer (binds, makers) =
    let w = without k.listed name h k.once (k.same name ∙ some) in
    orderly_by d e k moves makers w.less w.once
    (λ other. ⊎_elim
    (λ (is : other ≡ name). subst (λ (n : List ℕ). bound w.less n ≡ bound e.names n) (sym is) (w.gone ∙ sym binds.0))
    (λ (ne : other ≢ name). w.others other ne ∙ k.same other ∙ sym (binds.1 other ne))
    (same_name other name))
    (holds_fewer d.plain e.plain k.listed name h w k.holds fewer)

pub orderly_same : (d e : Desk) → IsOrderly d → Moves d.plain e.plain → HasSame d.plain e.plain → Keeps d e → IsOrderly e
orderly_same d e k moves same (names, makers) =
    orderly_by d e k moves makers k.listed k.once (λ name. k.same name ∙ ap (λ (ns : Names). bound ns name) (sym names))
    (holds_same d.plain e.plain (values_of k.listed) k.holds same)
