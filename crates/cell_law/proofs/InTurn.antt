-- The deeds of a call follow one another, and walks go on.
use Rattle.std.proofs.Common.{◌≡◌, ◌≢◌, inl, inr, ⊎_elim, ℕ, zero, suc, ◌+◌, ◌<◌, false, List, [], ◌∷◌, ◌++◌, refl, ap, sym, ◌∙◌, subst, arith}
use Rattle.std.specs.Prelude.{Some, None}
use Rattle.std.proofs.lemmas.Bool.{cases_eq}
use Rattle.plain_protocol.specs.plain_state.declared.act.EventPlace.TheVariants.{Cell, Field}
use Rattle.plain_protocol.specs.plain_state.declared.act.PlainAct.{PlainAct}
use Rattle.plain_protocol.specs.plain_state.declared.act.PlainAct.TheVariants as act
use Rattle.plain_protocol.specs.plain_state.declared.slot.SlotId.{SlotId}
use Rattle.plain_protocol.specs.plain_state.Lists.{times}
use Rattle.plain_protocol.specs.Acts.{IsCalm}
use Rattle.plain_protocol.specs.Owns.{OwnPart}
use Rattle.directory_law.specs.declared.view.Rope.{Rope}
use Rattle.directory_law.specs.Cells.{Area, on}
use Rattle.directory_law.specs.Making.{alone, linked}
use Rattle.directory_law.specs.Payloads.{IsPart, IsText, Text}
use Rattle.directory_law.specs.Steps.{LooksAt, id, life_in, payload_in, payload_of}
use Rattle.directory_law.specs.Views.{In, rope, without}
use Rattle.directory_law.specs.Walks.{NotPrefix}
use Rattle.directory_law.proofs.Notes.{each_known}
use Rattle.cell_law.specs.Views.{Sight, View, IsWord, MayBind}
use Rattle.cell_law.specs.Lessons.{FindReady, ReadReady, look_next, read_next}
use Rattle.cell_law.specs.Making.{BindReady, LinkReady, Links, link_next, make_next, sees}
use Rattle.cell_law.specs.Walks.{HasAll, KeepsSeen, Passes, SawAll, Walked, last_of, last_sight, payloads}

-- WALKS
pub walk_begins : (z : Area) (own : OwnPart) (v : View) (text : Text) → Walked z own v text 0
walk_begins z own v text j lt = absurd (omega arith)

pub walk_further : (z : Area) (own : OwnPart) (v : View) (text : Text) (m : ℕ)
    → Walked z own v text m → Passes own v text (on z text m) → Walked z own v text (m + 1)
walk_further z own v text m walked pass j lt =
    ⊎_elim
    (λ (e : j ≡ m). subst (λ (k : ℕ). Passes own v text (on z text k)) (sym e) pass)
    (λ (ne : j ≢ m). walked j (omega arith))
    (cases_eq j m)

same_payloads : (own after : OwnPart) (ss : List SlotId)
    → ((s : SlotId) → In s ss → after.objects s ≡ own.objects s)
    → payloads after ss ≡ payloads own ss
same_payloads own after [] same = refl
same_payloads own after (s ∷ ss) same =
    ap (λ (t : List ℕ). t ∷ payloads after ss) (ap payload_of (same s (inl refl)))
    ∙ ap (λ (ts : Text). payload_in own s ∷ ts) (same_payloads own after ss (λ r i. same r (inr i)))

has_in : (own : OwnPart) (ss : List SlotId) (s : SlotId) → HasAll own ss → In s ss
    → own.objects s ≢ None
has_in own [] s has i = absurd i
has_in own (x ∷ ss) s has i =
    ⊎_elim
    (λ (e : s ≡ x). subst (λ (y : SlotId). own.objects y ≢ None) (sym e) has.0)
    (λ (j : In s ss). has_in own ss s has.1 j)
    i

pub walk_stays : (z : Area) (own after : OwnPart) (v w : View) (text : Text) (m : ℕ)
    → Walked z own v text m → SawAll v w → KeepsSeen own after v → Walked z after w text m
walk_stays z own after v w text m walked saw keeps j lt =
    let o = walked j lt in
    let same : (s : SlotId) → In s o.0.slots → after.objects s ≡ own.objects s =
    λ s i. keeps o.0 s o.1 i (has_in own o.0.slots s o.3 i) in (
      o.0,
      saw o.0 o.1,
      o.2,
      each_known (λ (s : SlotId). own.objects s ≢ None) (λ (s : SlotId). after.objects s ≢ None)
          o.0.slots (λ s i has none. has (sym (same s i) ∙ none)) o.3,
      subst (λ (ts : Text). NotPrefix ts text) (sym (same_payloads own after o.0.slots same)) o.4,
    )

-- two texts that differ in a payload after the same ones
abbrev head_of : Text → List ℕ
head_of [] = []
head_of (t ∷ ts) = t

abbrev tail_of : Text → Text
tail_of [] = []
tail_of (t ∷ ts) = ts

not_prefix : (front rest more : Text) (payload other : List ℕ) → other ≢ payload
    → front ++ payload ∷ rest ≡ (front ++ other ∷ []) ++ more → ⊥
not_prefix [] rest more payload other ne e = ne (sym (ap head_of e))
not_prefix (t ∷ front) rest more payload other ne e =
    not_prefix front rest more payload other ne (ap tail_of e)

pub walk_differs : (own : OwnPart) (v : View) (e : Sight) (front rest : Text)
    (payload other : List ℕ)
    → In e v.seen → HasAll own e.slots → payloads own e.slots ≡ front ++ other ∷ []
    → other ≢ payload → Passes own v (front ++ payload ∷ rest) e.cell
walk_differs own v e front rest payload other i has are ne = (
  e,
  i,
  refl,
  has,
  subst (λ (ts : Text). NotPrefix ts (front ++ payload ∷ rest)) (sym are)
      (λ more same. not_prefix front rest more payload other ne same),
)

-- MAKING
pub link_follows : (v : View) (r s : SlotId) (first second third fourth own : OwnPart)
    (step : PlainAct) → alone second r ≡ alone own r → alone fourth s ≡ alone own s
    → 0 < times s own.seat.owned → 0 < times r own.seat.owned → IsPart (payload_in own r)
    → Links s r step
    → LinkReady own (make_next third fourth (make_next first second v (act.Make r) 0) (act.Make s) 0)
    step
link_follows v r s first second third fourth own step same_r same_s owned part_owned part links =
    record {
      slot = s;
      part = r;
      links = links;
      owned = owned;
      part_owned = part_owned;
      is_part = part;
      text = payload_in own r ∷ [];
      others = v.noted;
      noted = ap (λ (e : Rope). e ∷ alone second r ∷ v.noted) same_s
          ∙ ap (λ (e : Rope). alone own s ∷ e ∷ v.noted) same_r;
    }

pub bind_follows_make : (z : Area) (v : View) (s : SlotId) (first second own : OwnPart) (m : ℕ)
    → alone second s ≡ alone own s → 0 < z.cells → v.cleared ≡ false → MayBind v
    → 0 < times s own.seat.owned → IsWord (payload_in own s ∷ [])
    → Walked z own (make_next first second v (act.Make s) 0) (payload_in own s ∷ []) m
    → BindReady z own (make_next first second v (act.Make s) 0)
    (act.TryReplace (Cell (z.first + on z (payload_in own s ∷ []) m)) None (Some s))
bind_follows_make z v s first second own m same some uncleared may owned is walked = record {
  slot = s;
  text = payload_in own s ∷ [];
  passed = m;
  act_is = refl;
  some_cells = some;
  is_open = uncleared;
  granted = may;
  owned = owned;
  is_word = is;
  walked = walked;
  others = v.noted;
  noted = ap (λ (e : Rope). e ∷ v.noted) same;
}

pub bind_follows_link : (z : Area) (v : View) (r s : SlotId) (own after later : OwnPart)
    (step : PlainAct) (es : List Rope) (m : ℕ)
    → v.noted ≡ alone own s ∷ alone own r ∷ es → life_in later s ≡ life_in own s
    → 0 < z.cells → v.cleared ≡ false → MayBind v → 0 < times s later.seat.owned
    → IsWord (payload_in own s ∷ payload_in own r ∷ [])
    → Walked z later (link_next own after v step 0) (payload_in own s ∷ payload_in own r ∷ []) m
    → BindReady z later (link_next own after v step 0)
    (act.TryReplace (Cell (z.first + on z (payload_in own s ∷ payload_in own r ∷ []) m)) None (Some s))
bind_follows_link z v r s own after later step es m noted life some uncleared may owned is walked = record {
  slot = s;
  text = payload_in own s ∷ payload_in own r ∷ [];
  passed = m;
  act_is = refl;
  some_cells = some;
  is_open = uncleared;
  granted = may;
  owned = owned;
  is_word = is;
  walked = walked;
  others = without r (life_in own r) (alone own r ∷ es);
  noted = ap linked noted ∙ ap (λ (l : ℕ).
      rope s l (payload_in own s ∷ payload_in own r ∷ []) ∷ without r (life_in own r)
      (alone own r ∷ es)) (sym life);
}

still_notes : (c found : ℕ) (v : View) → (sees c found v).noted ≡ v.noted
still_notes c zero v = refl
still_notes c (suc s) v = refl

still_open : (c found : ℕ) (v : View) → (sees c found v).cleared ≡ v.cleared
still_open c zero v = refl
still_open c (suc s) v = refl

still_may : (c found : ℕ) (v : View) → MayBind v → MayBind (sees c found v)
still_may c zero v may = may
still_may c (suc s) v may = may

pub bind_follows_bind : (z : Area) (v : View) (own later : OwnPart) (c found m : ℕ)
    (step : PlainAct) → (ready : BindReady z own v step)
    → life_in later ready.slot ≡ life_in own ready.slot → 0 < times ready.slot later.seat.owned
    → Walked z later (sees c found v) ready.text m
    → BindReady z later (sees c found v)
    (act.TryReplace (Cell (z.first + on z ready.text m)) None (Some ready.slot))
bind_follows_bind z v own later c found m step ready life owned walked = record {
  slot = ready.slot;
  text = ready.text;
  passed = m;
  act_is = refl;
  some_cells = ready.some_cells;
  is_open = still_open c found v ∙ ready.is_open;
  granted = still_may c found v ready.granted;
  owned = owned;
  is_word = ready.is_word;
  walked = walked;
  others = ready.others;
  noted = still_notes c found v ∙ (ready.noted
      ∙ ap (λ (l : ℕ). rope ready.slot l ready.text ∷ ready.others) (sym life));
}

-- FINDING
pub read_follows_look : (z : Area) (own after later : OwnPart) (v : View) (step next : PlainAct)
    (s : ℕ) → v.cleared ≡ false → LooksAt (Field (id s) 1) next
    → ReadReady later (look_next z own after v step (suc s)) next
read_follows_look z own after later v step next s uncleared looks = record {
  is_open = uncleared;
  earlier = v.seen;
  seen = refl;
  some_slot = λ e. cc;
  looks = looks;
}

last_added : (ss : List SlotId) (r : SlotId) → last_of (ss ++ r ∷ []) ≡ r
last_added [] r = refl
last_added (s ∷ []) r = refl
last_added (s ∷ t ∷ ss) r = last_added (t ∷ ss) r

none_added : (ss : List SlotId) (r : SlotId) → ss ++ r ∷ [] ≢ []
none_added [] r e = cc
none_added (s ∷ ss) r e = cc

pub read_follows_read : (own after later : OwnPart) (v : View) (step next : PlainAct) (s : ℕ)
    → ReadReady own v step → LooksAt (Field (id s) 1) next
    → ReadReady later (read_next own after v step (suc s)) next
read_follows_read own after later v step next s ready looks = record {
  is_open = ready.is_open;
  earlier = v.seen;
  seen = refl;
  some_slot = none_added (last_sight v.seen).slots (id s);
  looks = subst (λ (r : SlotId). LooksAt (Field r 1) next)
      (sym (last_added (last_sight v.seen).slots (id s))) looks;
}

pub find_follows : (own : OwnPart) (v : View) (e : Sight) (es : List Sight) (next : PlainAct)
    → v.seen ≡ e ∷ es → v.cleared ≡ false → IsCalm next → HasAll own e.slots
    → IsText (payloads own e.slots) → FindReady own v next
find_follows own v e es next seen uncleared calm has whole =
    let last : last_sight v.seen ≡ e = ap last_sight seen in
    record {
      calm = calm;
      is_open = uncleared;
      earlier = es;
      seen = seen ∙ ap (λ (x : Sight). x ∷ es) (sym last);
      has = subst (λ (x : Sight). HasAll own x.slots) (sym last) has;
      whole = subst (λ (x : Sight). IsText (payloads own x.slots)) (sym last) whole;
    }
