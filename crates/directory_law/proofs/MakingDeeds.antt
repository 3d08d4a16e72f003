-- The deeds of a make, a link and a bind keep the law.
use Rattle.std.proofs.Common.{◌≡◌, ◌≢◌, inl, inr, ⊎_elim, ℕ, ◌+◌, ◌<◌, Bool, true, false, List, [], ◌∷◌, ◌++◌, length, set, refl, ap, sym, ◌∙◌, subst, arith}
use Rattle.std.specs.Prelude.{if◌then◌else◌, ◌==◌, Option, Some, None}
use Rattle.std.proofs.lemmas.List.{get_or-set_same, get_or-set_other}
use Rattle.std.proofs.lemmas.Bool.Decides.{nat_tests}
use Rattle.plain_protocol.specs.plain_state.declared.act.EventPlace.TheVariants.{Field}
use Rattle.plain_protocol.specs.plain_state.declared.act.PlainAct.{PlainAct}
use Rattle.plain_protocol.specs.plain_state.declared.act.PlainAct.TheVariants as act
use Rattle.plain_protocol.specs.plain_state.declared.slot.Kind.TheVariants.{Strong, Weak}
use Rattle.plain_protocol.specs.plain_state.declared.slot.PlainSlot.{PlainSlot}
use Rattle.plain_protocol.specs.plain_state.declared.slot.SlotId.{SlotId}
use Rattle.plain_protocol.specs.plain_state.declared.slot.Stage.TheVariants.{Free, Blank, Live}
use Rattle.plain_protocol.specs.plain_state.State.{Plain, PlainSeat, new_seat, new_slot, seat_at, slot_at, stage_at}
use Rattle.plain_protocol.specs.plain_state.References.{held_in}
use Rattle.plain_protocol.specs.plain_state.Places.{content}
use Rattle.plain_protocol.specs.plain_state.Lawful.{Lawful}
use Rattle.plain_protocol.specs.plain_state.Steps.{Does, word_of, joined as defers}
use Rattle.plain_protocol.proofs.Below.plain_state_Kit.{held_self, times_push}
use Rattle.plain_protocol.specs.Laws.{Keeps}
use Rattle.plain_protocol.specs.Owns.{own_part, HasSlot}
use Rattle.directory_law.specs.Payloads.{Text, IsPart, IsOwn, IsText}
use Rattle.directory_law.specs.Views.{Rope, View, gone, view_at, rope, In, Each}
use Rattle.directory_law.specs.Cells.{Area, cell, on}
use Rattle.directory_law.specs.Learnt.{Built}
use Rattle.directory_law.specs.Law.{DirectoryLaw, IsBound}
use Rattle.directory_law.proofs.Kit.{number_other, none_some}
use Rattle.directory_law.proofs.Notes.{each_in}
use Rattle.directory_law.proofs.Turns.{same_law}
use Rattle.directory_law.proofs.Linking.{leads_to, after_link}
use Rattle.directory_law.specs.Steps.{life_in, payload_in, slot_in, Stays}
use Rattle.directory_law.specs.Making.{MakeReady, alone, make_next, LinkReady, linked, link_next, BindReady, first_noted, bound, bind_next, MakeTells, LinkTells, BindTells}
use Rattle.directory_law.proofs.Making.{made, after_make}
use Rattle.directory_law.proofs.MakeNotes.{law_noted}
use Rattle.directory_law.proofs.LinkNotes.{law_relinked}
use Rattle.directory_law.proofs.Binding.{moved, Puts, reads_moved}
use Rattle.directory_law.proofs.BindNotes.{law_kept}
use Rattle.directory_law.proofs.Owns.{has_if, life_at, payload_at, has_owned, owned_live, inside_if}
use Rattle.directory_law.specs.Walks.{Walked}
use Rattle.directory_law.proofs.Walks.{walked_passed}
use Rattle.directory_law.proofs.Moves.{on_inside}

-- MAKE
module _ (p q : Plain) (n : ℕ) (s : SlotId) (found : ℕ) (does : Does p n (act.Make s) found q) where
  owner : PlainSeat
  owner = record (seat_at p n) {
    owned = (seat_at p n).owned ++ s ∷ [];
    filling = None;
    adds = (seat_at p n).adds + 1;
  }

  seats : List PlainSeat
  seats = set p.seats n owner

  q_is : q ≡ after_make p seats s
  unfolding seats owner
  q_is = does.1.3

  inside : s.0 < length p.slots
  inside = inside_if p s (λ free. let e : Blank ≡ Free = sym does.1.0 ∙ free in cc)

  slot_is : slot_at q s ≡ made (slot_at p s)
  slot_is = ap (λ (x : Plain). slot_at x s) q_is
      ∙ get_or-set_same p.slots s.0 (made (slot_at p s)) new_slot inside

  owns_it : HasSlot (seat_at q n) s
  unfolding owner
  owns_it =
      let at : seat_at q n ≡ owner = ap (λ (x : Plain). seat_at x n) does.1.3
      ∙ get_or-set_same p.seats n owner new_seat does.0.0 in
      let more = times_push s s (seat_at p n).owned in
      let one = held_self s in
      subst (λ (v : PlainSeat). HasSlot v s) (sym at) (has_owned owner s (omega arith))

  -- what the seat then has of the slot
  alone_is : alone (own_part q n) s ≡ rope s ((slot_at p s).life + 1) ((slot_at p s).payload ∷ [])
  alone_is =
      ap (λ (l : ℕ). rope s l (payload_in (own_part q n) s ∷ []))
      (life_at q n s owns_it ∙ ap (λ (x : PlainSlot). x.life) slot_is)
      ∙ ap (λ (t : List ℕ). rope s ((slot_at p s).life + 1) (t ∷ []))
      (payload_at q n s owns_it ∙ ap (λ (x : PlainSlot). x.payload) slot_is)

pub make_keeps : (z : Area) → Keeps (DirectoryLaw z) gone MakeReady make_next (MakeTells z)
make_keeps z p q views n step found meets here ready does =
    let s : SlotId = ready.slot in
    let d = subst (λ (a : PlainAct). Does p n a found q) ready.act_is does in
    let filled = ap (held_in s) d.1.1 in
    let self = held_self s in
    let own = subst IsOwn (payload_at p n s (has_if (seat_at p n) s (omega arith))) ready.is_own in
    let ss = seats p q n s found d in
    let law = law_noted z p s views n here meets.law ss (inside p q n s found d) d.1.0 meets.lawful
    own in
    let alone_at : alone (own_part q n) (slot_in step) ≡ rope s ((slot_at p s).life + 1)
    ((slot_at p s).payload ∷ []) =
    ap (λ (a : PlainAct). alone (own_part q n) (slot_in a)) ready.act_is
    ∙ alone_is p q n s found d in
    let noted : DirectoryLaw z (after_make p ss s)
    (set views n (make_next (own_part p n) (own_part q n) (view_at views n) step found)) =
    subst (λ (e : Rope). DirectoryLaw z (after_make p ss s)
    (set views n (record (view_at views n) { noted = e ∷ (view_at views n).noted })))
    (sym alone_at) law in (
      subst (λ (x : Plain). DirectoryLaw z x (set views n
          (make_next (own_part p n) (own_part q n) (view_at views n) step found)))
          (sym (q_is p q n s found d)) noted,
      λ c r h at. ap (λ (x : Plain). cell z x c) (q_is p q n s found d) ∙ at,
    )

-- LINK
other_slot : (p : Plain) (ss : List PlainSeat) (s r x : SlotId) → x ≢ s
    → slot_at (after_link p ss s r) x ≡ slot_at p x
other_slot p ss s r x ne = get_or-set_other p.slots s.0 x.0 (leads_to r (slot_at p s)) new_slot
    (number_other x s ne)

pub link_keeps : (z : Area) → Keeps (DirectoryLaw z) gone LinkReady link_next (LinkTells z)
link_keeps z p q views n step found meets here ready does =
    let s : SlotId = ready.slot in
    let r : SlotId = ready.part in
    let law = meets.law in
    let d = subst (λ (a : PlainAct). Does p n a found q) ready.act_is does in
    let life_s = life_at p n s (has_owned (seat_at p n) s ready.owned) in
    let payload_s = payload_at p n s (has_owned (seat_at p n) s ready.owned) in
    let life_r = life_at p n r (has_owned (seat_at p n) r ready.part_owned) in
    let payload_r = payload_at p n r (has_owned (seat_at p n) r ready.part_owned) in
    let second : Rope = rope r (slot_at p r).life ready.text in
    let noted : (view_at views n).noted ≡ rope s (slot_at p s).life
    ((slot_at p s).payload ∷ []) ∷ (rope r (slot_at p r).life ready.text ∷ ready.others) =
    ready.noted
    ∙ (ap (λ (l : ℕ). rope s l (payload_in (own_part p n) s ∷ []) ∷ rope r
    (life_in (own_part p n) r) ready.text ∷ ready.others) life_s
    ∙ (ap (λ (t : List ℕ). rope s (slot_at p s).life (t ∷ []) ∷ rope r
    (life_in (own_part p n) r) ready.text ∷ ready.others) payload_s
    ∙ ap (λ (l : ℕ). rope s (slot_at p s).life ((slot_at p s).payload ∷ []) ∷ rope r l
    ready.text ∷ ready.others) life_r)) in
    let live_s = (owned_live p n s meets.lawful d.0.0 ready.owned).0 in
    let live_r = (owned_live p n r meets.lawful d.0.0 ready.part_owned).0 in
    let built = subst (Each (Built p)) noted (law.learnt n).noted in
    let own_s : IsOwn (slot_at p s).payload = (built.0.1 refl live_s).0 in
    let part : IsPart (slot_at p r).payload = subst IsPart payload_r ready.is_part in
    let ss : List PlainSeat = set p.seats n (record d.1.2.0 {
      deferred =
          defers Strong (content p (Field s 1)) d.1.2.0.deferred;
    }) in
    let inside = inside_if p s (λ free. let e : Live ≡ Free = sym live_s ∙ free in cc) in
    let a = law_relinked z p s r ready.text (second ∷ ready.others) views n here law noted
    (inl refl) ss inside meets.lawful own_s live_r part in
    let b = subst (λ (xs : List Rope). DirectoryLaw z (after_link p ss s r)
    (set views n (record (view_at views n) { noted = xs }))) (ap linked (sym noted)) a in (
      subst (λ (x : Plain). DirectoryLaw z x (set views n
          (link_next (own_part p n) (own_part q n) (view_at views n) step found))) (sym d.1.2.2) b,
      (
        λ c x h at. ap (λ (y : Plain). cell z y c) d.1.2.2 ∙ at,
        λ x other.
            let ne : x ≢ s = λ e. other (e ∙ sym (ap (λ (es : List Rope). (first_noted es).slot)
            noted)) in
            ap (λ (y : Plain). slot_at y x) d.1.2.2 ∙ other_slot p ss s r x ne,
      ),
    )

-- BIND
found_some : (found : ℕ) (place : Option SlotId) → found ≡ word_of place → place ≢ None
    → (found == 0) ≡ false
found_some found None e not = absurd (not refl)
found_some found (Some x) e not = grind (arith, nat_tests)

found_none : (found : ℕ) (place : Option SlotId) → found ≡ word_of place → place ≡ None
    → (found == 0) ≡ true
found_none found place e null = let f : found ≡ 0 = e ∙ ap word_of null in rw f refl

puts_at : (z : Area) (p : Plain) (ss : List PlainSeat) (c : ℕ) (s : SlotId)
    → z.first + c < length p.weak_cells
    → Puts z p (moved p ss (set p.weak_cells (z.first + c) (Some s))) c s
puts_at z p ss c s range = record {
  here = get_or-set_same p.weak_cells (z.first + c) (Some s) None (omega arith);
  there = λ d ne. get_or-set_other p.weak_cells (z.first + c) (z.first + d) (Some s) None
      (λ e. ne (omega arith));
}

-- the law holds with the view w, and no set cell has changed
abbrev Bound : Area → Plain → Plain → List View → ℕ → View → Type 0
Bound z p q views n w = DirectoryLaw z q (set views n w) × Stays z p q

abbrev Told : Area → Plain → Plain → List View → ℕ → View → Type 0
Told z p q views n w = DirectoryLaw z q (set views n w) × BindTells z p q n (view_at views n) w

chosen : (z : Area) (p q : Plain) (views : List View) (n found : ℕ) (e : Rope) (b : Bool)
    → (found == 0) ≡ b
    → Told z p q views n (if b then bound e (view_at views n) else view_at views n)
    → Told z p q views n (if found == 0 then bound e (view_at views n) else view_at views n)
chosen z p q views n found e b is h =
    subst (λ (t : Bool). Told z p q views n (if t then bound e (view_at views n) else view_at views
    n)) (sym is) h

-- the step that found null puts the slot there
moved_is : (p q : Plain) (n i : ℕ) (s : SlotId) (seat : PlainSeat) (place : Option SlotId)
    → place ≡ None
    → q ≡ moved p (set p.seats n (record seat { deferred = defers Weak place seat.deferred }))
    (set p.weak_cells i (Some s))
    → q ≡ moved p (set p.seats n seat) (set p.weak_cells i (Some s))
moved_is p q n i s seat None null is = is
moved_is p q n i s seat (Some x) null is = absurd (none_some x (sym null))

bind_puts : (z : Area) (p : Plain) (ss : List PlainSeat) (s : SlotId) (m : ℕ) (text : Text)
    (views : List View)
    (n : ℕ) → n < length views → Lawful p → DirectoryLaw z p views → 0 < z.cells
    → z.first + on z text m < length p.weak_cells → cell z p (on z text m) ≡ None
    → Walked z (view_at views n) text m → IsText text
    → (stage_at p s ≡ Live) × ((slot_at p s).marked ≡ false)
    → In (rope s (slot_at p s).life text) (view_at views n).noted
    → (view_at views n).used < (view_at views n).quota
    → Bound z p (moved p ss (set p.weak_cells (z.first + on z text m) (Some s))) views n
    (bound (rope s (slot_at p s).life text) (view_at views n))
    × IsBound z (moved p ss (set p.weak_cells (z.first + on z text m) (Some s))) text s
bind_puts z p ss s m text views n here lawful law some_cells range null walked is_text live noted
    spare =
    let cs : List (Option SlotId) = set p.weak_cells (z.first + on z text m) (Some s) in
    let passed = walked_passed z p views law (view_at views n) text m (law.learnt n) walked in
    let puts = puts_at z p ss (on z text m) s range in
    let after = law_kept z p s text views n here law noted spare ss cs m lawful some_cells puts null
    passed is_text live.0 in
    let built = (each_in (Built p) (rope s (slot_at p s).life text) (view_at views n).noted noted
    (law.learnt n).noted).1 refl live.0 in (
      (
        after,
        λ e r h held. puts.there e (λ same.
            none_some r (sym (ap (λ (x : ℕ). cell z p x) same ∙ null) ∙ held)) ∙ held,
      ),
      record {
        stands = (on z text m, on_inside z text m some_cells, puts.here);
        stage = live.0;
        mark = live.1;
        reads = reads_moved p ss cs s text built.1;
      },
    )

pub bind_keeps : (z : Area) → Keeps (DirectoryLaw z) gone (BindReady z) bind_next (BindTells z)
bind_keeps z p q views n step found meets here ready does =
    let s : SlotId = ready.slot in
    let v : View = view_at views n in
    let text : Text = ready.text in
    let place : Option SlotId = cell z p (on z text ready.passed) in
    let d = subst (λ (a : PlainAct). Does p n a found q) ready.act_is does in
    let life = life_at p n s (has_owned (seat_at p n) s ready.owned) in
    let first : first_noted v.noted ≡ rope s (slot_at p s).life text =
    ap first_noted ready.noted ∙ ap (λ (l : ℕ). rope s l text) life in
    let noted_own : In (rope s (life_in (own_part p n) s) text) v.noted =
    subst (In (rope s (life_in (own_part p n) s) text)) (sym ready.noted) (inl refl) in
    let noted : In (rope s (slot_at p s).life text) v.noted =
    subst (λ (l : ℕ). In (rope s l text) v.noted) life noted_own in
    ⊎_elim
    (λ yes.
    let live = owned_live p n s meets.lawful d.0.0 ready.owned in
    let ss : List PlainSeat = set p.seats n yes.1.0 in
    let b = bind_puts z p ss s ready.passed text views n here meets.lawful meets.law
    ready.some_cells d.1.0 yes.0 ready.walked ready.is_text live noted ready.spare in
    let at = moved_is p q n (z.first + on z text ready.passed) s yes.1.0 place yes.0 yes.1.2 in
    let after : Plain = moved p ss (set p.weak_cells (z.first + on z text ready.passed) (Some s)) in
    let told : Told z p after views n (bound (first_noted v.noted) v) = (
      subst (λ (e : Rope). DirectoryLaw z after (set views n (bound e v))) (sym first) b.0.0,
      (b.0.1, inr (subst (λ (e : Rope). IsBound z after e.text e.slot) (sym first) b.1)),
    ) in
    chosen z p q views n found (first_noted v.noted) true (found_none found place d.1.1 yes.0)
    (subst (λ (x : Plain). Told z p x views n (bound (first_noted v.noted) v)) (sym at) told))
    (λ not.
    chosen z p q views n found (first_noted v.noted) false (found_some found place d.1.1 not.0)
    (subst (λ (x : Plain). Told z p x views n v) (sym not.1)
    (same_law z p views n meets.law, ((λ e r h held. held), inl refl))))
    d.1.2
