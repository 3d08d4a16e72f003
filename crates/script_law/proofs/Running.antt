-- A command at desks that are alike.
use Rattle.std.proofs.Common.{◌≡◌, inl, inr, ⊎_elim, ℕ, ◌<◌, List, length, length-set, refl, ap, sym, ◌∙◌, subst, arith, Option, None}
use Rattle.script_desk.specs.line_words.declared.reason.Reason.{Reason}
use Rattle.script_desk.specs.plain_state.declared.slot.SlotId.{SlotId}
use Rattle.script_desk.specs.plain_state.State.{Plain, stage_at}
use Rattle.script_desk.specs.plain_store.Heaps.{Makes, NoneFree}
use Rattle.script_desk.specs.script_lines.declared.command.Command.{Command}
use Rattle.script_desk.specs.script_lines.declared.command.Command.TheVariants as command
use Rattle.script_desk.specs.declared.said.Said.{Said}
use Rattle.script_desk.specs.declared.sizes.Sizes.{Sizes}
use Rattle.script_desk.specs.Desks.{Desk, scope, scope_of}
use Rattle.script_desk.specs.Effects.{Acts, MakesOne, Runs}
use Rattle.script_desk.specs.Faults.{IsFault, IsFaultless}
use Rattle.script_desk.specs.Kinds.{script_payload}
use Rattle.script_law.specs.Desks.{Alike, DesksAlike}
use Rattle.script_law.specs.Orderly.{IsOrderly}
use Rattle.script_law.specs.Renamings.{IsRenaming}
use Rattle.script_law.specs.SaidAlike.{SaidAlike}
use Rattle.script_law.proofs.Acting.{Acted, acted}
use Rattle.script_law.proofs.Audits.{audits_alike}
use Rattle.script_law.proofs.Backwards.{renaming_back, tidied}
use Rattle.script_law.proofs.Commands.{IsPlainer, plainer}
use Rattle.script_law.proofs.Desks.{desks_back, settles_alike, settles_orderly, sizes_alike, still_alike}
use Rattle.script_law.proofs.Faults.{fault_so}
use Rattle.script_law.proofs.Making.{is_make, makes_alike, makes_orderly, none_there}
use Rattle.script_law.proofs.Swapping.{desks_turned, turned, turned_back, turned_first, turned_renaming}

-- alike desks, by names that are one to one
with_size : (d e f g : Desk) (to from : SlotId → SlotId) → length f.plain.slots ≡ length d.plain.slots
    → IsRenaming (length d.plain.slots) to from → DesksAlike to f g → Alike f g
with_size d e f g to from same r alike = (to, from, subst (λ (n : ℕ). IsRenaming n to from) (sym same) r, alike)

pub alike_desks_back : (d e : Desk) → Alike d e → Alike e d
alike_desks_back d e (to, from, r, alike) =
    with_size d e e d from to alike.plain.size (renaming_back (length d.plain.slots) to from r)
    (desks_back to from (length d.plain.slots) r d e alike)

-- ---- faults
pub faults_alike : (d e : Desk) (c : Command) (o : Option Reason) → Alike d e → IsFault (scope_of d) c o → IsFault (scope_of e) c o
faults_alike d e c o (to, from, r, alike) fault =
    subst (λ (x : Sizes). IsFault (scope e.names x) c o) (sym (sizes_alike to d e alike))
    (fault_so to from d.names e.names (scope_of d).sizes alike.names
    (desks_back to from (length d.plain.slots) r d e alike).names c o fault)

-- ---- a make
module _ (to from : SlotId → SlotId) (d d' e e' : Desk) (r : IsRenaming (length d.plain.slots) to from) (alike : DesksAlike to d d')
    (k : IsOrderly d) (k' : IsOrderly d') (name : List ℕ) (weight : ℕ) where
  -- where one finds no free slot, so does the other
  full_too : NoneFree d.plain → (s' : SlotId) → Makes d'.plain s' (script_payload weight) e'.plain → ⊥
  full_too none s' makes =
      let m = is_make d' e' k' name weight s' makes in
      let there : s'.0 < length d.plain.slots = let a = m.there in let b = alike.plain.size in omega arith in
      none_there d.plain none (from s') (r.inside_back s' there)
      (sym (alike.plain.slots (from s')).stage ∙ ap (stage_at d'.plain) (r.forth s') ∙ m.free)

  full_back : NoneFree d'.plain → (s : SlotId) → Makes d.plain s (script_payload weight) e.plain → ⊥
  full_back none s makes =
      let m = is_make d e k name weight s makes in
      let there : (to s).0 < length d'.plain.slots = let a = r.inside s m.there in let b = alike.plain.size in omega arith in
      none_there d'.plain none (to s) there ((alike.plain.slots s).stage ∙ m.free)

  makes_two : (a b : Said) → MakesOne d name weight a e → MakesOne d' name weight b e' → (a ≡ b) × Alike e e'
  makes_two a b one two =
      ⊎_elim
      (λ x. ⊎_elim
      (λ y. (x.0 ∙ sym y.0, with_size d d' e e' to from (ap (λ (z : Desk). length z.plain.slots) x.2) r (still_alike to d d' alike e e' x.2 y.2)))
      (λ y. absurd (full_too x.1 y.1.0 y.1.1))
      two)
      (λ x. ⊎_elim
      (λ y. absurd (full_back y.1 x.1.0 x.1.1))
      (λ y.
      let s = x.1.0 in
      let s' = y.1.0 in
      let m = is_make d e k name weight s x.1.1 in
      let m' = is_make d' e' k' name weight s' y.1.1 in
      let n = length d.plain.slots in
      let there : s'.0 < n = let p = m'.there in let q = alike.plain.size in omega arith in
      let up = turned to from n r s s' m.there there in
      let down = turned_back to from n r s s' m.there there in
      let r' : IsRenaming n up down = turned_renaming to from n r s s' m.there there in
      let alike' : DesksAlike up d d' = desks_turned to from n r s s' m.there there d d' refl alike k k' m.free m'.free in
      let size : length e.plain.slots ≡ n = ap (λ (z : Plain). length z.slots) m.state ∙ length-set d.plain.slots s.0 _ in (
        x.0 ∙ sym y.0,
        with_size d d' e e' up down size r'
            (makes_alike up down d d' e e' r' alike' k k' name weight s s' (turned_first to from n r s s' m.there there)
            x.1.1 y.1.1 x.1.2 y.1.2 x.1.3 y.1.3),
      ))
      two)
      one

-- ---- whatever the command
module _ (d e : Desk) (k : IsOrderly d) where
  acts_orderly : (c : Command) (a : Said) → IsFaultless (scope_of d) c → Acts d c a e → IsOrderly e
  acts_orderly (command.Make name weight) a f acts = makes_orderly d e k name weight a (λ b. f.names (inr b)) acts
  acts_orderly c a f acts = (acted d k e c a f tt acts).orderly

module _ (to from : SlotId → SlotId) (d d' e e' : Desk) (r : IsRenaming (length d.plain.slots) to from) (alike : DesksAlike to d d')
    (k : IsOrderly d) (k' : IsOrderly d') where
  plain_two : (c : Command) (a b : Said) → IsPlainer c → Acted d e → Acts d c a e → Acts d' c b e' → SaidAlike a b × Alike e e'
  plain_two c a b not m one two =
      let both = plainer to from d d' e e' r alike k k' m.moves c a b not one two in
      (inl both.0, with_size d d' e e' to from m.moves.size r both.1)

  acts_alike : (c : Command) (a b : Said) → IsFaultless (scope_of d) c → Acts d c a e → Acts d' c b e' → SaidAlike a b × Alike e e'
  acts_alike (command.Make name weight) a b f one two =
      let both = makes_two to from d d' e e' r alike k k' name weight a b one two in (inl both.0, both.1)
  acts_alike command.Audit a b f one two = (
    audits_alike to from d d' r alike k k' a b one.0 two.0,
    with_size d d' e e' to from (ap (λ (z : Desk). length z.plain.slots) one.1) r (still_alike to d d' alike e e' one.1 two.1),
  )
  acts_alike c a b f one two = plain_two c a b tt (acted d k e c a f tt one) one two

-- ---- and then the heap settles
pub runs_orderly : (d f : Desk) (c : Command) (a : Said) → IsOrderly d → IsFaultless (scope_of d) c → Runs d c a f → IsOrderly f
runs_orderly d f c a k fine (e, acts, settles) = settles_orderly e f (acts_orderly d e k c a fine acts) settles

pub runs_alike : (d d' f f' : Desk) (c : Command) (a b : Said) → IsOrderly d → IsOrderly d' → Alike d d' → IsFaultless (scope_of d) c
    → Runs d c a f → Runs d' c b f' → SaidAlike a b × Alike f f'
runs_alike d d' f f' c a b k k' (to, from, r, alike) fine (e, acts, settles) (e', acts', settles') =
    let fine' = faults_alike d d' c None (to, from, r, alike) fine in
    let l = acts_orderly d e k c a fine acts in
    let l' = acts_orderly d' e' k' c b fine' acts' in
    let two = acts_alike to from d d' e e' r alike k k' c a b fine acts acts' in
    let up = two.1.0 in
    let down = two.1.1 in
    let t = tidied e.plain f.plain l.sound l.one settles.0.tidies in (
      two.0,
      with_size e e' f f' up down t.slots.size two.1.2 (settles_alike up down e e' f f' two.1.2 two.1.3 l l' settles settles'),
    )
