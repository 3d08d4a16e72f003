-- A seat that leaves: the seats are cut before it, and the first one has room for all that it takes.
use Rattle.std.proofs.Common.{◌≡◌, ◌≢◌, ◌∙◌, ℕ, ◌+◌, ◌-◌, ◌^◌, ◌<◌, ◌≤◌, Bool, List, ◌++◌, length, get_or, set, length-append, length-set, refl, ap, sym, subst, Result, Ok, Err, arith}
use Rattle.std.specs.Prelude.{if◌then◌else◌, OnOk}
use Rattle.std.proofs.lemmas.List.{get_or_append_left, get_or-append_right, get_or_default, set-append_left, set-append_right, set-get_or}
use Rattle.std.proofs.Math.Nat.{mul-le-mul_left}
use Rattle.core_law.specs.core_events.declared.act.Act.TheVariants as act
use Rattle.core_law.specs.core_events.declared.outcome.Outcome.TheVariants as outcome
use Rattle.core_law.specs.core_events.declared.shape.Shape.{Shape}
use Rattle.core_law.specs.core_events.declared.view.CoreView.{CoreView}
use Rattle.core_law.specs.core_events.Views.{no_view, room_of}
use Rattle.core_law.specs.core_events.Steps.{noted}
use Rattle.core_law.specs.core_events.Runs.{Core, Enabled, after, left_behind, taken_over, view_at, views_after}
use Rattle.core_law.specs.core_events.Good.{staying_room}
use Rattle.core_law.specs.Sound.{Sound}
use Rattle.core_law.proofs.Kit.{total_at}
use Rattle.cdrc_core.specs.State.{State}

abbrev state : Shape → Core → State
state z c = record { shape = z; core = c }

staying : (v : CoreView) (b : Bool) → v.left ≡ b → staying_room v ≡ (if b then 0 else v.room)
staying v b e = ap (λ (x : Bool). if x then 0 else v.room) e

-- the first seat's room and what it gains by a leave
root_room : (z : Shape) (c : Core) (j : ℕ) → Sound z c → Enabled z c 0 (act.Leave j)
    → (view_at c 0).room + room_of (view_at c 0).shape < 2 ^ 32
root_room z c j so on =
    let shape = so.shape in
    let views = so.views in
    let here = on.0 in
    let law = so.seats 0 (omega arith) in
    let same = ap room_of law.same_shape in
    let stays = staying (view_at c 0) _ on.1.3.0.1 in
    let most = total_at staying_room c.views 0 here in
    let sum = so.room.sum in
    let each : room_of z ≤ 1152 = omega arith in
    let all = mul-le-mul_left z.seats each in
    omega arith

module _ (c : Core) (j : ℕ) (pos : j ≢ 0) (there : j < length c.views) (front back : List CoreView)
    (whole : c.views ≡ front ++ back) (cut : length front ≡ j) where
  front_is : (d : CoreView) → get_or front 0 d ≡ view_at c 0
  front_is d =
      get_or_default front 0 d no_view (omega arith)
      ∙ (sym (get_or_append_left front back no_view 0 (omega arith))
      ∙ ap (λ (vs : List CoreView). get_or vs 0 no_view) (sym whole))

  back_is : (d : CoreView) → get_or back 0 d ≡ view_at c j
  back_is d =
      let all = ap length whole in
      let sum = length-append front back in
      let here : j - j ≡ 0 = omega arith in
      let at = get_or-append_right front back j j no_view cut (omega arith) in
      get_or_default back 0 d no_view (omega arith)
      ∙ (sym (rw here at at)
      ∙ ap (λ (vs : List CoreView). get_or vs j no_view) (sym whole))

  both_set : (root leaver : CoreView) → set front 0 root ++ set back 0 leaver
      ≡ set (set c.views 0 root) j leaver
  both_set root leaver =
      let here : j - j ≡ 0 = omega arith in
      let first : set c.views 0 root ≡ set front 0 root ++ back =
      ap (λ (vs : List CoreView). set vs 0 root) whole
      ∙ set-append_left front back 0 root (omega arith) in
      let long : length (set front 0 root) ≡ j = length-set front 0 root ∙ cut in
      let last = set-append_right (set front 0 root) back j j leaver long (omega arith) in
      sym (ap (λ (vs : List CoreView). set vs j leaver) first ∙ rw here at last)

-- the seats after a leave are those of the table
leaves : (z : Shape) (c : Core) (j : ℕ) → Sound z c → Enabled z c 0 (act.Leave j)
    → (front back : List CoreView) → c.views ≡ front ++ back → length front ≡ j
    → (d e root leaver : CoreView)
    → root
    ≡ noted (act.Leave (get_or back 0 e).seat) outcome.Plain
    (taken_over (get_or front 0 d) (get_or back 0 e))
    → leaver ≡ left_behind (get_or back 0 e)
    → set front 0 root ++ set back 0 leaver ≡ views_after z c 0 (act.Leave j)
leaves z c j so on front back whole cut d e root leaver first last =
    let there : j < length c.views = let views = so.views in let may = on.1.2 in omega arith in
    let f = front_is c j on.1.1 there front back whole cut d in
    let b = back_is c j on.1.1 there front back whole cut e in
    let number = (so.seats j on.1.2).number in
    let all = both_set c j on.1.1 there front back whole cut root leaver in
    let r : root ≡ noted (act.Leave j) outcome.Plain (taken_over (view_at c 0) (view_at c j)) =
    subst (λ (m : ℕ). root ≡ noted (act.Leave m) outcome.Plain
    (taken_over (view_at c 0) (view_at c j))) number (rw (f, b) at first) in
    let l : leaver ≡ left_behind (view_at c j) = rw b at last in
    rw (r, l) (rw (r, l) at all)

-- and so is the state, where there was memory
left_core : (z : Shape) (c : Core) (j : ℕ) → Sound z c → Enabled z c 0 (act.Leave j)
    → (front back : List CoreView) → c.views ≡ front ++ back → length front ≡ j
    → (d e root leaver : CoreView) → {T E : Type 0} (r : Result T E)
    → OnOk r (root
    ≡ noted (act.Leave (get_or back 0 e).seat) outcome.Plain
    (taken_over (get_or front 0 d) (get_or back 0 e)))
    → OnOk r (leaver ≡ left_behind (get_or back 0 e))
    → OnOk r (record {
      shape = z;
      core = record { words = c.words; views = set front 0 root ++ set back 0 leaver };
    } ≡ state z (after z c 0 (act.Leave j)))
left_core z c j so on front back whole cut d e root leaver (Ok x) first last =
    let views = leaves z c j so on front back whole cut d e root leaver first last in
    let words = set-get_or c.words 0 0 in
    rw (views, words) refl
left_core z c j so on front back whole cut d e root leaver (Err x) first last = tt

pub left_state : (z : Shape) (c : Core) (j : ℕ) (s : State) → state z c ≡ s → Sound z c
    → Enabled z c 0 (act.Leave j)
    → (front back : List CoreView) → c.views ≡ front ++ back → length front ≡ j
    → (d e root leaver : CoreView) (views : List CoreView)
    → views ≡ set front 0 root ++ set back 0 leaver → {T E : Type 0} (r : Result T E)
    → OnOk r (root
    ≡ noted (act.Leave (get_or back 0 e).seat) outcome.Plain
    (taken_over (get_or front 0 d) (get_or back 0 e)))
    → OnOk r (leaver ≡ left_behind (get_or back 0 e))
    → OnOk r (record { shape = z; core = record { words = c.words; views = views } }
    ≡ record s { core = after s.shape s.core 0 (act.Leave j) })
left_state z c j s is so on front back whole cut d e root leaver views both r first last =
    rw both (subst (λ (t : State). OnOk r (record {
      shape = z;
      core = record { words = c.words; views = set front 0 root ++ set back 0 leaver };
    } ≡ record t { core = after t.shape t.core 0 (act.Leave j) })) is
    (left_core z c j so on front back whole cut d e root leaver r first last))

-- the cut keeps the number of seats
pub same_length : (vs front back : List CoreView) (n : ℕ) → vs ≡ front ++ back → length vs ≡ n
    → (root leaver : CoreView) → length (set front 0 root ++ set back 0 leaver) ≡ n
same_length vs front back n whole long root leaver =
    let all = ap length whole in
    simp (length-append, length-set) (omega (arith, length-append front back))

-- the first seat's room, by the cut
pub front_room : (z : Shape) (c : Core) (j : ℕ) → Sound z c → Enabled z c 0 (act.Leave j)
    → (front back : List CoreView) → c.views ≡ front ++ back → length front ≡ j → (d : CoreView)
    → (get_or front 0 d).room + room_of (get_or front 0 d).shape < 2 ^ 32
front_room z c j so on front back whole cut d =
    let there : j < length c.views = let views = so.views in let may = on.1.2 in omega arith in
    let P : CoreView → Type 0 = λ v. v.room + room_of v.shape < 2 ^ 32 in
    subst P (sym (front_is c j on.1.1 there front back whole cut d)) (root_room z c j so on)
