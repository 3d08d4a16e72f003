-- Over every history each made list is the starts of trails.
use Rattle.std.proofs.Common.{◌≡◌, ◌≢◌, ⊎_elim, ℕ, ◌<◌, List, [], ◌∷◌, get_or, refl, ap, sym, ◌∙◌, subst, arith}
use Rattle.std.specs.Prelude.{None}
use Rattle.std.proofs.lemmas.List.{get_or-set_same, get_or-set_other}
use Rattle.std.proofs.lemmas.Bool.{cases_eq}
use Rattle.core_law.specs.core_events.declared.act.Act.{Act}
use Rattle.core_law.specs.core_events.declared.act.Act.TheVariants as act
use Rattle.core_law.specs.core_events.declared.act.Event.{Event}
use Rattle.core_law.specs.core_events.declared.shape.Shape.{Shape}
use Rattle.core_law.specs.core_events.declared.view.CoreView.{CoreView}
use Rattle.core_law.specs.core_events.Shows.{filled}
use Rattle.core_law.specs.core_events.Steps.{moved}
use Rattle.core_law.specs.core_events.Views.{Terms, no_view}
use Rattle.core_law.specs.core_events.Runs.{AreTerms, Core, Enabled, History, IsShape, after, found, start, view_at}
use Rattle.core_law.specs.Sound.{Sound}
use Rattle.core_law.proofs.Joined as joined
use Rattle.core_law.proofs.Kit.{times_none}
use Rattle.core_law.proofs.Starts.{first_at}
use Rattle.core_law.proofs.Always.{history_sound, is_leave}
use Rattle.core_law.proofs.Trails.{changed_trail, views_plain}
use Rattle.core_promises.specs.Made.{MadeByStarts}
use Rattle.core_promises.proofs.Made.{Tells, tells_left, tells_on, tells_taken}

-- all views tell so, and only seat 0 keeps records of those that left
abbrev AllTell : Shape → Core → Type 0
AllTell z c =
    (m : ℕ) → m < z.seats
    → Tells (view_at c m) × (m ≢ 0 → (view_at c m).left_seats ≡ [])

module _ (z : Shape) (c : Core) (so : Sound z c) (all : AllTell z c) where
  plain_tells : (n : ℕ) (a : Act) → Enabled z c n a → ((j : ℕ) → a ≡ act.Leave j → ⊥)
      → AllTell z (after z c n a)
  plain_tells n a on stays m hm = ⊎_elim
      (λ (is : m ≡ n).
      let now : view_at (after z c n a) m ≡ moved z a (found z c n a) (view_at c n) =
      ap (λ (vs : List CoreView). get_or vs m no_view) (views_plain z c n a stays)
      ∙ rw is
      (get_or-set_same c.views n (moved z a (found z c n a) (view_at c n)) no_view on.0) in
      let before = subst
      (λ (k : ℕ). Tells (view_at c k) × (k ≢ 0 → (view_at c k).left_seats ≡ [])) is (all m hm) in
      let records = (changed_trail z a (found z c n a) (view_at c n)).left_seats in (
        subst Tells (sym now) (tells_on z a (found z c n a) (view_at c n) on.1 before.0),
        λ ne. ap (λ (v : CoreView). v.left_seats) now ∙ (records ∙ before.1 (λ e. ne (is ∙ e))),
      ))
      (λ (ne : m ≢ n).
      let now : view_at (after z c n a) m ≡ view_at c m =
      ap (λ (vs : List CoreView). get_or vs m no_view) (views_plain z c n a stays)
      ∙ get_or-set_other c.views n m (moved z a (found z c n a) (view_at c n)) no_view ne in (
        subst Tells (sym now) (all m hm).0,
        λ other. ap (λ (v : CoreView). v.left_seats) now ∙ (all m hm).1 other,
      ))
      (cases_eq m n)

  leave_tells : (n j : ℕ) → Enabled z c n (act.Leave j) → AllTell z (after z c n (act.Leave j))
  leave_tells n j on m hm =
      let may = on.1 in
      let views = so.views in
      let here = on.0 in
      let root : n ≡ 0 = let number = (so.seats n (omega arith)).number in omega arith in
      let idle = subst (λ (k : ℕ). filled (view_at c k).phase ≡ None) root
      (ap filled may.3.0.0) in
      let gone = all j may.2 in
      joined.by_seat z c so j may.1 may.2
      (λ k v. k < z.seats → Tells v × (k ≢ 0 → v.left_seats ≡ []))
      (λ h. (
        tells_taken (view_at c 0) (view_at c j) j idle (all 0 h).0 gone.0 (gone.1 may.1),
        λ ne. absurd (ne refl),
      ))
      (λ h. (tells_left (view_at c j) (ap filled on.2.0.0) (gone.1 may.1), λ ne. gone.1 ne))
      (λ k a b h. all k h)
      m hm

  pub step_tells : (n : ℕ) (a : Act) → Enabled z c n a → AllTell z (after z c n a)
  step_tells n a on = ⊎_elim
      (λ l. subst (λ (b : Act). AllTell z (after z c n b)) (sym l.1)
      (leave_tells n l.0 (subst (λ (b : Act). Enabled z c n b) l.1 on)))
      (λ stays. plain_tells n a on stays)
      (is_leave a)

first_tells : (z : Shape) (ts : Terms) → AreTerms z ts → AllTell z (start z ts)
first_tells z ts terms m hm =
    let l = terms.0 in
    subst (λ (v : CoreView). Tells v × (m ≢ 0 → v.left_seats ≡ []))
    (sym (first_at z 0 m ts.quotas ts.grants (record { makes = 0; adds = 0 }) (omega arith)))
    (record { now = refl; made = λ s. let e = times_none s in omega arith }, λ ne. refl)

all_tell : (z : Shape) (ts : Terms) (es : List Event) (c : Core) → IsShape z → AreTerms z ts
    → History z ts es c → AllTell z c
all_tell z ts [] c shape terms h = subst (AllTell z) (sym h) (first_tells z ts terms)
all_tell z ts (e ∷ es) c shape terms h =
    let so = history_sound z ts es h.0 shape terms h.1 in
    subst (AllTell z) (sym h.2.1)
    (step_tells z h.0 so (all_tell z ts es h.0 shape terms h.1) e.seat e.act h.2.0)

pub made_by_starts : (z : Shape) (ts : Terms) (es : List Event) (c : Core) (n : ℕ) → IsShape z
    → AreTerms z ts → History z ts es c → n < z.seats → MadeByStarts (view_at c n)
made_by_starts z ts es c n shape terms h hn = (all_tell z ts es c shape terms h n hn).0.made
