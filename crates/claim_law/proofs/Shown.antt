-- A slot whose bit is clear was claimed, and so was one that a trail shows taken.
use Rattle.std.proofs.Common.{◌≡◌, ◌≢◌, ◌⊎◌, inl, inr, ⊎_elim, ℕ, ◌<◌, Bool, true, false, List, [], ◌∷◌, ◌++◌, get_or, ap, sym, ◌∙◌, subst, arith}
use Rattle.std.specs.Prelude.{slice_index, ◌==◌, if◌then◌else◌}
use Rattle.std.proofs.lemmas.List.{get_or-set_same, get_or-set_other}
use Rattle.std.proofs.lemmas.Bool.{cases_eq}
use Rattle.core_promises.specs.plain_state.declared.slot.SlotId.{SlotId}
use Rattle.core_promises.specs.core_events.declared.act.Act.{Act}
use Rattle.core_promises.specs.core_events.declared.act.Act.TheVariants as act
use Rattle.core_promises.specs.core_events.declared.act.Event.{Event}
use Rattle.core_promises.specs.core_events.declared.outcome.Outcome.TheVariants as outcome
use Rattle.core_promises.specs.core_events.declared.shape.Shape.{Shape}
use Rattle.core_promises.specs.core_events.declared.view.CoreView.{CoreView}
use Rattle.core_promises.specs.core_events.declared.view.Move.{Move}
use Rattle.core_promises.specs.core_events.Counts.{free_bit}
use Rattle.core_promises.specs.core_events.Runs.{AreTerms, Core, Enabled, History, IsShape, after, found, view_at}
use Rattle.core_promises.specs.core_events.Steps.{answer, moved}
use Rattle.core_promises.specs.core_events.Views.{Terms, no_view}
use Rattle.core_promises.specs.core_events.Words.{bit_in, bits_at}
use Rattle.core_promises.specs.core_law.Sound.{Sound}
use Rattle.core_promises.proofs.Below.core_law_FirstWords.{bit_first}
use Rattle.core_promises.proofs.Below.core_law_Starts.{first_trail}
use Rattle.core_promises.proofs.Below.core_law_Joined as joined
use Rattle.core_promises.proofs.Below.core_law_Always.{history_sound, is_leave}
use Rattle.core_promises.proofs.Below.core_law_Trails.{changed_trail, views_plain}
use Rattle.claim_law.specs.Claims.{ShownBy, ShowsTaken, claims}
use Rattle.claim_law.proofs.Bits.{clears}
use Rattle.claim_law.proofs.Claiming.{claims_stay}

shows_either : (s : SlotId) (ms ns : List Move) → ShowsTaken s (ms ++ ns)
    → ShowsTaken s ms ⊎ ShowsTaken s ns
shows_either s [] ns shows = inr shows
shows_either s (m ∷ ms) ns shows = ⊎_elim
    (λ now. inl (inl now))
    (λ later. ⊎_elim (λ first. inl (inr first)) (λ second. inr second) (shows_either s ms ns later))
    shows

-- the bit that a claim shows clear is so in the state in which it is made
shown_clear : (z : Shape) (c : Core) (n : ℕ) (s : SlotId) (a : Act)
    → ShownBy s a (answer z a (found z c n a) (view_at c n)) → free_bit z c s ≡ 0
shown_clear z c n s (act.Claim x) shown =
    go (bit_in x (slice_index c.words (bits_at z x)) == 1) shown
  where
    go : (b : Bool)
        → ShownBy s (act.Claim x)
        (if b then outcome.Claimed else outcome.Taken (slice_index c.words (bits_at z x)))
        → free_bit z c s ≡ 0
    go true h = absurd h
    go false h =
        let word = h.0 in
        let at : bits_at z s ≡ bits_at z x = omega arith in
        ap (λ (i : ℕ). bit_in s (slice_index c.words i)) at ∙ h.1
shown_clear z c n s a shown = absurd shown

-- what is so between any two events
pub record AllClaimed (z : Shape) (c : Core) : Type 0 where
  pub bits : (s : SlotId) → s.0 < z.slots → free_bit z c s ≡ 0 → 0 < claims c s
  pub trails :
      (n : ℕ) (s : SlotId) → n < z.seats → s.0 < z.slots → ShowsTaken s (view_at c n).trail
      → 0 < claims c s

module _ (z : Shape) (c : Core) (so : Sound z c) (all : AllClaimed z c) (n : ℕ) (a : Act)
    (on : Enabled z c n a) where
  abbrev Told : ℕ → CoreView → Type 0
  Told m v = m < z.seats → (s : SlotId) → s.0 < z.slots → ShowsTaken s v.trail
      → 0 < claims (after z c n a) s

  hn : n < z.seats
  hn = let views = so.views in let h = on.0 in omega arith

  bits_then : (s : SlotId) → s.0 < z.slots → free_bit z (after z c n a) s ≡ 0
      → 0 < claims (after z c n a) s
  bits_then s hs clear = ⊎_elim
      (λ was.
      let before = all.bits s hs was in
      let more = claims_stay z c so n a on s in omega arith)
      (λ now. now)
      (clears z c n so hn s hs a on.1 clear)

  told_still : (m : ℕ) → Told m (view_at c m)
  told_still m hm s hs shows =
      let before = all.trails m s hm hs shows in
      let more = claims_stay z c so n a on s in omega arith

  -- the seat of the event has one move more
  told_more : Told n (moved z a (found z c n a) (view_at c n))
  told_more hm s hs shows = ⊎_elim
      (told_still n hm s hs)
      (λ now.
      let before = all.bits s hs (⊎_elim (shown_clear z c n s a) absurd now) in
      let more = claims_stay z c so n a on s in omega arith)
      (shows_either s (view_at c n).trail _
      (subst (λ (ms : List Move). ShowsTaken s (ms ++ move ∷ []))
      (changed_trail z a (found z c n a) (view_at c n)).trail shows))
    where
      move : Move
      move = record { act = a; outcome = answer z a (found z c n a) (view_at c n) }

  plain_told : ((j : ℕ) → a ≡ act.Leave j → ⊥) → (m : ℕ) → Told m (view_at (after z c n a) m)
  plain_told stays m = ⊎_elim
      (λ (is : m ≡ n). subst (λ (k : ℕ). Told k (view_at (after z c n a) k)) (sym is)
      (subst (Told n)
      (sym (ap (λ (vs : List CoreView). get_or vs n no_view) (views_plain z c n a stays)
      ∙ get_or-set_same c.views n (moved z a (found z c n a) (view_at c n)) no_view on.0))
      told_more))
      (λ (ne : m ≢ n). subst (Told m)
      (sym (ap (λ (vs : List CoreView). get_or vs m no_view) (views_plain z c n a stays)
      ∙ get_or-set_other c.views n m (moved z a (found z c n a) (view_at c n)) no_view ne))
      (told_still m))
      (cases_eq m n)

-- a leave shows nothing, and takes the trail of who leaves away
leave_told : (z : Shape) (c : Core) (so : Sound z c) (all : AllClaimed z c) (n j : ℕ)
    → Enabled z c n (act.Leave j)
    → (m s : ℕ) → m < z.seats → s < z.slots
    → ShowsTaken (record { 0 = s }) (view_at (after z c n (act.Leave j)) m).trail
    → 0 < claims (after z c n (act.Leave j)) (record { 0 = s })
leave_told z c so all n j on m s hm hs =
    let may = on.1 in
    joined.by_seat z c so j may.1 may.2
    (λ k v. k < z.seats → ShowsTaken (record { 0 = s }) v.trail
    → 0 < claims (after z c n (act.Leave j)) (record { 0 = s }))
    (λ h shows. ⊎_elim
    (told_still z c so all n (act.Leave j) on 0 h (record { 0 = s }) hs)
    (λ now. absurd (⊎_elim (λ none. none) (λ none. none) now))
    (shows_either (record { 0 = s }) (view_at c 0).trail _ shows))
    (λ h shows. absurd shows)
    (λ k x y h. told_still z c so all n (act.Leave j) on k h (record { 0 = s }) hs)
    m hm

step : (z : Shape) (c : Core) → Sound z c → AllClaimed z c → (n : ℕ) (a : Act) → Enabled z c n a
    → AllClaimed z (after z c n a)
step z c so all n a on = record {
  bits = bits_then z c so all n a on;
  trails = λ m s hm hs. ⊎_elim
      (λ (l : (j : ℕ) × (a ≡ act.Leave j)).
      subst
      (λ (b : Act). ShowsTaken s (view_at (after z c n b) m).trail → 0 < claims (after z c n b) s)
      (sym l.1)
      (leave_told z c so all n l.0 (subst (λ (b : Act). Enabled z c n b) l.1 on) m s.0 hm hs))
      (λ (stays : (j : ℕ) → a ≡ act.Leave j → ⊥).
      plain_told z c so all n a on stays m hm s hs)
      (is_leave a);
}

pub all_claimed : (z : Shape) (ts : Terms) (es : List Event) (c : Core) → IsShape z
    → AreTerms z ts → History z ts es c → AllClaimed z c
all_claimed z ts [] c shape terms h = subst (AllClaimed z) (sym h) (record {
  bits = λ s hs clear. let free = bit_first z s hs in absurd (omega arith);
  trails = λ n s hn hs shows. absurd (subst (ShowsTaken s) (first_trail z ts n terms hn) shows);
})
all_claimed z ts (e ∷ es) c shape terms h =
    subst (AllClaimed z) (sym h.2.1)
    (step z h.0 (history_sound z ts es h.0 shape terms h.1)
    (all_claimed z ts es h.0 shape terms h.1) e.seat e.act h.2.0)
