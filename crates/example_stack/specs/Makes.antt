-- The steps of the deeds keep the law.
use Rattle.std.proofs.Common.{◌≡◌, ◌≢◌, ⊎_elim, ℕ, suc, ◌+◌, ◌<◌, Bool, true, false, List, [], ◌∷◌, ◌++◌, length, get_or, refl, sym, ap, subst, ◌∙◌, arith, Option, Some, None}
use Rattle.std.specs.Prelude.{Contains, slice_set, ◌==◌, if◌then◌else◌}
use Rattle.std.proofs.lemmas.Bool.{eq-eqb, eqb-true}
use Rattle.std.proofs.lemmas.List.{get_or-set_same, set-get_or}
use Rattle.std.proofs.lemmas.List.Elements.{Contains-append_left, Contains-append_right, Contains-append_cases, Contains-push}
use Rattle.cdrc.specs.plain_state.declared.act.EventPlace.{EventPlace}
use Rattle.cdrc.specs.plain_state.declared.act.EventPlace.TheVariants.{Cell, Field}
use Rattle.cdrc.specs.plain_state.declared.act.PlainAct.{PlainAct}
use Rattle.cdrc.specs.plain_state.declared.act.PlainAct.TheVariants as act
use Rattle.cdrc.specs.plain_state.declared.slot.SlotId.{SlotId}
use Rattle.cdrc.specs.plain_state.declared.slot.Stage.TheVariants.{Ended, Live}
use Rattle.cdrc.specs.plain_state.Places.{content}
use Rattle.cdrc.specs.plain_state.State.{Plain, seat_at, slot_at, stage_at}
use Rattle.cdrc.specs.plain_state.Steps.{Does, Replaces, word_of}
use Rattle.cdrc.specs.plain_protocol.Acts.{IsCalm}
use Rattle.cdrc.specs.plain_protocol.Laws.{Meets}
use Rattle.cdrc.specs.plain_protocol.Owns.{has_slot, object_of, own_part}
use Rattle.cdrc.specs.protocol_pairs.Spared.{HasOneOf}
use Rattle.cdrc.specs.protocol_pairs.Untouched.{IsUntouched}
use Rattle.cdrc.proofs.Below.protocol_pairs_Held.{cell_live, first_live}
use Rattle.cdrc.proofs.Below.protocol_pairs_Leaves.{calm_is_foreign, foreign_leaves}
use Rattle.cdrc.proofs.Below.protocol_pairs_Owning.{owned_live}
use Rattle.cdrc.specs.protocol_pairs.Values.{value_of}
use Rattle.cdrc.proofs.Below.protocol_pairs_Values.{one_of_value, value_in}
use Rattle.cdrc.proofs.Below.protocol_pairs_Notes.{none_in, noted_here, noted_still}
use Rattle.example_stack.specs.Views.{View, WasPushed, no_view, view_at}
use Rattle.example_stack.specs.Stack.{Stack, below, owns, top}
use Rattle.example_stack.specs.Deeds.{IsStackPlace, SawIt, pop_next, push_next, see_next}
use Rattle.example_stack.specs.Kept.{untouched_keeps}
use Rattle.example_stack.specs.Moves.{cell_moves, held_is, saw_value, slot_moves, view_grows}

module _ (cell : ℕ) (kind : List ℕ → Type 0) (p q : Plain) (views : List View) (n found : ℕ)
    (meets : Meets (Stack cell kind) p views) (low : n < length views) where
  abbrev v : View
  v = view_at views n

  -- the views as they were
  same_views : Stack cell kind q views → Stack cell kind q (slice_set views n v)
  same_views law = subst (Stack cell kind q) (sym (set-get_or views n no_view)) law

  -- what the seat saw in the stack was pushed
  saw_pushed : (s : SlotId) → SawIt (own_part p n) v (Some s) → WasPushed views (slot_at p s).payload
  saw_pushed s saw = meets.law.seen _
      (n, saw_value v (has_slot (seat_at p n) s) (object_of (slot_at p s)) saw)

  -- MAKE
  pub makes : (s : SlotId) → Does p n (act.Make s) found q → Stack cell kind q (slice_set views n v)
  makes s does = same_views (slot_moves cell kind p q views meets.law s
      (record (slot_at p s) { stage = Live; marked = false; life = (slot_at p s).life + 1 })
      (ap (λ (z : Plain). z.slots) does.1.3) refl (ap (λ (z : Plain). z.cells) does.1.3)
      (λ x is. let none = (meets.lawful.nulls s vacant).0 in
      let e : None ≡ Some x = sym none ∙ is in absurd cc))
    where
      vacant : (stage_at p s ≢ Live) × (stage_at p s ≢ Ended)
      vacant = (
        λ e. let b = sym does.1.0 ∙ e in absurd cc,
        λ e. let b = sym does.1.0 ∙ e in absurd cc,
      )

  -- LINK
  pub links : (x : SlotId) (new : Option SlotId) → SawIt (own_part p n) v new
      → Does p n (act.Replace (Field x 0) new) found q → Stack cell kind q (slice_set views n v)
  links x new saw does = same_views (slot_moves cell kind p q views meets.law x
      (record (slot_at p x) { first = new }) (ap (λ (z : Plain). z.slots) does.1.2.2) refl
      (ap (λ (z : Plain). z.cells) does.1.2.2)
      (λ s is. saw_pushed s (subst (SawIt (own_part p n) v) is saw)))

  -- THE CELL is tried: what it gets was pushed
  tried : (w : View) (old new : Option SlotId) → Stack cell kind p (slice_set views n w)
      → Does p n (act.TryReplace (Cell cell) old new) found q
      → ((s : SlotId) → new ≡ Some s → top cell p ≡ old
      → WasPushed (slice_set views n w) (slot_at p s).payload)
      → Stack cell kind q (slice_set views n w)
  tried w old new law does known = ⊎_elim
      (λ hit. cell_moves cell kind p q (slice_set views n w) law
      (ap (λ (z : Plain). z.slots) hit.1.2)
      (λ s is. known s (sym (put hit.1) ∙ is) hit.0))
      (λ miss. subst (λ z. Stack cell kind z (slice_set views n w)) (sym miss.1) law)
      does.1.2
    where
      put : Replaces p n (Cell cell) new q → top cell q ≡ new
      put r = ap (λ (z : Plain). get_or z.cells cell None) r.2
          ∙ get_or-set_same p.cells cell new None does.1.0

  -- PUSH
  pub pushes : (old : Option SlotId) (s : SlotId) → HasOneOf kind ((own_part p n).objects s)
      → Does p n (act.TryReplace (Cell cell) old (Some s)) found q
      → Stack cell kind q (slice_set views n
      (push_next (own_part p n) (own_part q n) v (act.TryReplace (Cell cell) old (Some s)) found))
  pushes old s has does = tried w old (Some s) grown does now
    where
      step : PlainAct
      step = act.TryReplace (Cell cell) old (Some s)

      w : View
      w = push_next (own_part p n) (own_part q n) v (act.TryReplace (Cell cell) old (Some s)) found

      is_node : (value_of ((own_part p n).objects s) ≡ (slot_at p s).payload ∷ [])
          × kind (slot_at p s).payload
      is_node = one_of_value kind (has_slot (seat_at p n) s) (object_of (slot_at p s)) has

      of_kind : (b : Bool) (value : List ℕ)
          → Contains (if b then value_of ((own_part p n).objects s) else []) value → kind value
      of_kind true value has = subst kind
          (value_in (has_slot (seat_at p n) s) (object_of (slot_at p s)) value has) is_node.1
      of_kind false value has = absurd (none_in value has)

      grown : Stack cell kind p (slice_set views n w)
      grown = view_grows cell kind p views n w low meets.law
          (λ value has. Contains-append_left v.pushed _ value has)
          (λ value has. ⊎_elim
          (λ old. meets.law.nodes value (n, old))
          (λ new. of_kind (found == word_of old) value new)
          (Contains-append_cases v.pushed _ value has))
          (λ value has. meets.law.seen value (n, has))
          (λ value has. meets.law.popped value (n, has))

      noted : (b : Bool) → b ≡ true
          → Contains (if b then value_of ((own_part p n).objects s) else []) (slot_at p s).payload
      noted b is = rw is (subst (λ l. Contains l (slot_at p s).payload) (sym is_node.0)
          (Contains-push [] (slot_at p s).payload))

      now : (x : SlotId) → Some s ≡ Some x → top cell p ≡ old
          → WasPushed (slice_set views n w) (slot_at p x).payload
      now x is at =
          let same : s ≡ x = cc in
          let hit : found ≡ word_of old = does.1.1 ∙ ap word_of at in
          subst (λ (z : SlotId). WasPushed (slice_set views n w) (slot_at p z).payload) same
          (noted_here no_view (λ (z : View). z.pushed) views n w low (slot_at p s).payload
          (Contains-append_right v.pushed _ (slot_at p s).payload
          (noted (found == word_of old) (eq-eqb found (word_of old) hit))))

  -- POP
  pub pops : (s : SlotId) (new : Option SlotId) → SawIt (own_part p n) v new
      → Does p n (act.TryReplace (Cell cell) (Some s) new) found q
      → Stack cell kind q (slice_set views n
      (pop_next (own_part p n) (own_part q n) v (act.TryReplace (Cell cell) (Some s) new) found))
  pops s new saw does = tried w (Some s) new grown does
      (λ x is at. noted_still no_view (λ (z : View). z.pushed) views n w low (λ value has. has) _
      (saw_pushed x (subst (SawIt (own_part p n) v) is saw)))
    where
      w : View
      w = pop_next (own_part p n) (own_part q n) v (act.TryReplace (Cell cell) (Some s) new) found

      was_top : (b : Bool) → found == word_of (Some s) ≡ b → (value : List ℕ)
          → Contains (if b then value_of ((own_part p n).objects s) else []) value
          → WasPushed views value
      was_top true hit value has =
          let same = eqb-true found (word_of (Some s)) hit in
          let at = held_is (top cell p) s (sym does.1.1 ∙ same) in
          subst (WasPushed views)
          (value_in (has_slot (seat_at p n) s) (object_of (slot_at p s)) value has)
          (meets.law.top s at)
      was_top false hit value has = absurd (none_in value has)

      grown : Stack cell kind p (slice_set views n w)
      grown = view_grows cell kind p views n w low meets.law
          (λ value has. has)
          (λ value has. meets.law.nodes value (n, has))
          (λ value has. meets.law.seen value (n, has))
          (λ value has. ⊎_elim
          (λ old. meets.law.popped value (n, old))
          (λ new. was_top (found == word_of (Some s)) refl value new)
          (Contains-append_cases v.popped _ value has))

  -- SEE. What a place of the stack holds lives, and was pushed
  pub found_in : (place : EventPlace) → IsStackPlace cell kind (own_part p n) place → (s : SlotId)
      → content p place ≡ Some s
      → (stage_at p s ≡ Live) × WasPushed views (slot_at p s).payload
  found_in place is s holds = ⊎_elim
      (λ (e : place ≡ Cell cell).
      let at : top cell p ≡ Some s = subst (λ z. content p z ≡ Some s) e holds in
      (cell_live p cell s meets.lawful at, meets.law.top s at))
      (λ field.
      let x = field.0 in
      let at : below p x ≡ Some s = subst (λ z. content p z ≡ Some s) field.1 holds in (
        first_live p x s meets.lawful at,
        meets.law.below x s (
          owned_live p n x meets.lawful there field.2.0,
          (one_of_value kind (has_slot (seat_at p n) x) (object_of (slot_at p x)) field.2.1).1,
        )
            at,
      ))
      is
    where
      there : n < length p.seats
      there = let c = meets.count in omega arith

  module _ (step : PlainAct) (is : IsCalm step) (does : Does p n step found q) where
    same : IsUntouched (owns cell kind) p q
    same = foreign_leaves (owns cell kind) p q n step found meets.lawful
        (calm_is_foreign (owns cell kind) p step is) does

    seen_at : (s : SlotId) → stage_at p s ≡ Live → WasPushed views (slot_at p s).payload
        → Stack cell kind q (slice_set views n
        (record v { seen = v.seen ++ value_of ((own_part q n).objects s) }))
    seen_at s live was = view_grows cell kind q views n _ low
        (untouched_keeps cell kind p q views meets.lawful meets.law same)
        (λ value has. has)
        (λ value has. meets.law.nodes value (n, has))
        (λ value has. ⊎_elim
        (λ old. meets.law.seen value (n, old))
        (λ new. subst (WasPushed views)
        (sym ((same.slots s).kept live).1
        ∙ value_in (has_slot (seat_at q n) s) (object_of (slot_at q s)) value new) was)
        (Contains-append_cases v.seen _ value has))
        (λ value has. meets.law.popped value (n, has))

    -- what was found lives, and was pushed
    pub sees : (place : Option SlotId)
        → ((s : SlotId) → place ≡ Some s
        → (stage_at p s ≡ Live) × WasPushed views (slot_at p s).payload)
        → (word : ℕ) → word ≡ word_of place
        → Stack cell kind q (slice_set views n
        (see_next (own_part p n) (own_part q n) v step word))
    sees None known word e = subst (λ z. Stack cell kind q (slice_set views n
        (see_next (own_part p n) (own_part q n) v step z))) (sym e)
        (same_views (untouched_keeps cell kind p q views meets.lawful meets.law same))
    sees (Some s) known word e =
        let next : word ≡ suc s.0 = omega arith in
        subst (λ z. Stack cell kind q (slice_set views n
        (see_next (own_part p n) (own_part q n) v step z))) (sym next)
        (seen_at s (known s refl).0 (known s refl).1)
