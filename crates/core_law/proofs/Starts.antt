-- The invariant holds where nothing has happened.
use Rattle.std.proofs.Common.{◌≡◌, inl, ⊎_elim, ℕ, zero, suc, ◌+◌, ◌*◌, ◌<◌, ◌≤◌, List, [], ◌∷◌, length, get_or, refl, ap, sym, ◌∙◌, subst, arith}
use Rattle.std.specs.Prelude.{nat_lt, if◌then◌else◌}
use Rattle.std.proofs.lemmas.List.{get_or_default, get_or_past}
use Rattle.std.proofs.lemmas.List.Sums.{sum_by-cons}
use Rattle.std.proofs.lemmas.Bool.{cases_lt}
use Rattle.std.proofs.lemmas.Bool.Decides.{nat_tests}
use Rattle.core_events.specs.plain_state.declared.slot.Kind.TheVariants.{Strong, Weak}
use Rattle.core_events.specs.plain_state.declared.slot.SlotId.{SlotId}
use Rattle.core_events.specs.plain_state.Lists.{times, entry_times}
use Rattle.core_events.specs.declared.shape.Shape.{Shape}
use Rattle.core_events.specs.declared.shape.Quota.{Quota}
use Rattle.core_events.specs.declared.view.CoreView.{CoreView}
use Rattle.core_events.specs.declared.view.Note.TheVariants as note
use Rattle.core_events.specs.Words.{note_at}
use Rattle.core_events.specs.Views.{Terms, no_view, first_view, first_views, room_of, note_of}
use Rattle.core_events.specs.Runs.{start, view_at, IsShape, IsQuota, AreTerms}
use Rattle.core_events.specs.Counts.{total, listed, finishing, helping, baring, filling, giving, naming, noting, ticket_times, number_times}
use Rattle.core_events.specs.Good.{SeatLaw, staying_room, word_of_note}
use Rattle.core_law.specs.Slots.{free}
use Rattle.core_law.specs.Sound.{Sound}
use Rattle.core_law.proofs.FirstWords.{length_first, low_at, strong_first, weak_first, bit_first, bit_spare, ticket_first, words_fit, field0, field1, weak_field, places_first}
use Rattle.core_law.proofs.Kit.{times_none}

pub length_views : (z : Shape) (i : ℕ) (qs : List Quota) (gs : List ℕ)
    → length (first_views z i qs gs) ≡ length qs
length_views z i [] gs = refl
length_views z i (q ∷ qs) gs = ap suc (length_views z (i + 1) qs gs)

-- seat n's first view
pub first_at : (z : Shape) (i n : ℕ) (qs : List Quota) (gs : List ℕ) (d : Quota) → n < length qs
    → get_or (first_views z i qs gs) n no_view ≡ first_view z (i + n) (get_or qs n d) gs
first_at z i n [] gs d h = absurd (omega arith)
first_at z i zero (q ∷ qs) gs d h =
    let e : i ≡ i + 0 = omega arith in ap (λ (m : ℕ). first_view z m q gs) e
first_at z i (suc n) (q ∷ qs) gs d h =
    let e : i + 1 + n ≡ i + suc n = omega arith in
    first_at z (i + 1) n qs gs d (omega arith)
    ∙ ap (λ (m : ℕ). first_view z m (get_or qs n d) gs) e

pub total_none : (f : CoreView → ℕ) (z : Shape) (i : ℕ) (qs : List Quota) (gs : List ℕ)
    → ((n : ℕ) (q : Quota) → f (first_view z n q gs) ≡ 0)
    → total f (first_views z i qs gs) ≡ 0
unfolding total
total_none f z i [] gs none = refl
total_none f z i (q ∷ qs) gs none =
    let c = sum_by-cons f (first_view z i q gs) (first_views z (i + 1) qs gs) in
    let r = total_none f z (i + 1) qs gs none in
    let n = none i q in omega arith

total_room : (z : Shape) (i : ℕ) (qs : List Quota) (gs : List ℕ)
    → total staying_room (first_views z i qs gs) ≡ length qs * room_of z
unfolding total
total_room z i [] gs = grind arith
total_room z i (q ∷ qs) gs =
    let c = sum_by-cons staying_room (first_view z i q gs) (first_views z (i + 1) qs gs) in
    let r = total_room z (i + 1) qs gs in grind arith

four_idle : (j : ℕ) → get_or (note.Idle ∷ note.Idle ∷ note.Idle ∷ note.Idle ∷ []) j note.Idle
    ≡ note.Idle
four_idle zero = refl
four_idle (suc zero) = refl
four_idle (suc (suc zero)) = refl
four_idle (suc (suc (suc zero))) = refl
four_idle (suc (suc (suc (suc j)))) = refl

first_names : (s : SlotId) (z : Shape) (n : ℕ) (q : Quota) (gs : List ℕ)
    → naming s (first_view z n q gs) ≡ 0
unfolding times entry_times noting
first_names s z n q gs = refl

no_tickets : (t : ℕ) (z : Shape) (n : ℕ) (q : Quota) (gs : List ℕ)
    → ticket_times t (first_view z n q gs) ≡ 0
unfolding number_times
no_tickets t z n q gs = refl

pub first_seat : (z : Shape) (n : ℕ) (q : Quota) (gs : List ℕ) → 1 ≤ z.seats → IsQuota q
    → SeatLaw z n (first_view z n q gs)
first_seat z n q gs some' is = record {
  number = refl;
  same_shape = refl;
  quota = is;
  adds = omega arith;
  makes = λ l. omega arith;
  can_start = λ s e. ⊎_elim (λ f. absurd (cc (f))) (λ f. absurd (cc (f))) e;
  four = refl;
  scans = inl refl;
  reads = omega arith;
  owes_nothing = λ e. absurd (cc (e));
  ripe = λ s. omega arith;
  kinds = λ s. let a = first_names s z n q gs in omega arith;
  range = λ s le. first_names s z n q gs;
  gone = λ e. absurd (cc (e));
}

none_below : (t : ℕ) → ◌≡◌ {A = ℕ} 0 (if nat_lt t 0 then 1 else 0)
none_below t = grind (arith, nat_tests)

no_quota : Quota
no_quota = record { makes = 0; adds = 0 }

pub start_sound : (z : Shape) (ts : Terms) → IsShape z → AreTerms z ts → Sound z (start z ts)
start_sound z ts shape terms = record {
  shape = shape;
  words = length_first z;
  views = length_views z 0 qs gs ∙ terms.0;
  seats = λ n hn.
      let h : n < length qs = let e = terms.0 in omega arith in
      subst (SeatLaw z n) (sym (at n h))
      (first_seat z n (get_or qs n no_quota) gs shape.0 (terms.1 n no_quota h));
  slots = λ s hs.
      let a = names s in
      let st = strong_first z s hs in
      let wk = weak_first z s hs in
      let bt = bit_first z s hs in
      let ps = places_first z Strong s in
      let pw = places_first z Weak s in
      let f0 = field0 z s hs in
      let f1 = field1 z s hs in
      let fw = weak_field z s hs in
      let ls = none (listed Strong s) (λ n q. let e = first_names s z n q gs in omega arith) in
      let lw = none (listed Weak s) (λ n q. let e = first_names s z n q gs in omega arith) in
      let fi = none (λ (v : CoreView). finishing s v.phase) (λ n q. refl) in
      let hl = none (λ (v : CoreView). helping s v.phase) (λ n q. refl) in
      let ba = none (λ (v : CoreView). baring s v.phase) (λ n q. refl) in
      let fl = none (λ (v : CoreView). filling s v.phase) (λ n q. refl) in
      let gi = none (λ (v : CoreView). giving s v.phase) (λ n q. refl) in
      let dy = none (λ (v : CoreView). times s v.dying) (λ n q. times_none s) in
      free (record {
        dead = record { zero_flag = omega arith; late = omega arith; unowned = omega arith };
        empty = record {
          weak_refs = omega arith;
          giving = omega arith;
          dying = omega arith;
          fields = omega arith;
        };
        bit = omega arith;
        weak = omega arith;
        baring = omega arith;
        filling = omega arith;
      });
  announced = λ n j hn hj.
      low_at z (note_at n j) (let l = length_views z 0 qs gs in let e = terms.0 in omega arith)
      ∙ ap word_of_note (sym (idle n j));
  guarded = λ n j k s hn hj valid. absurd (cc (idle n j, valid));
  unripe = λ n j s hn hj valid. absurd (cc (idle n j, valid));
  room = record {
    each = λ n d hn.
        let e = get_or_default (first_views z 0 qs gs) n d no_view hn ∙ at n (in_quotas n hn) in
        let a = ap (λ (v : CoreView). length v.retired) e in
        let b = ap (λ (v : CoreView). length v.owed) e in omega arith;
    others = λ n pos hn. ap (λ (v : CoreView). v.room) (at n (in_quotas n hn));
    sum = total_room z 0 qs gs ∙ ap (λ (m : ℕ). m * room_of z) terms.0;
  };
  range = λ k s le. places_first z k s;
  tickets = record {
    each = λ t.
        let n = none (ticket_times t) (λ n q. no_tickets t z n q gs) in
        let e = ticket_first z in
        n ∙ (none_below t ∙ ap (λ (m : ℕ). if nat_lt t m then 1 else 0) (sym e));
    few = let e = ticket_first z in omega arith;
  };
  fit = record { fit = words_fit z; spare = bit_spare z };
}
  where
    qs : List Quota
    qs = ts.quotas

    gs : List ℕ
    gs = ts.grants

    in_quotas : (n : ℕ) → n < length (first_views z 0 ts.quotas ts.grants) → n < length ts.quotas
    in_quotas n h = let l = length_views z 0 ts.quotas ts.grants in omega arith

    at : (n : ℕ) → n < length ts.quotas
        → view_at (start z ts) n ≡ first_view z n (get_or ts.quotas n no_quota) ts.grants
    at n h = first_at z 0 n ts.quotas ts.grants no_quota h ∙ (let e : 0 + n
        ≡ n = omega arith in ap (λ (m : ℕ). first_view z m (get_or ts.quotas n no_quota) ts.grants) e)

    none : (f : CoreView → ℕ) → ((n : ℕ) (q : Quota) → f (first_view z n q ts.grants) ≡ 0)
        → total f (first_views z 0 ts.quotas ts.grants) ≡ 0
    none f each = total_none f z 0 ts.quotas ts.grants each

    names : (s : SlotId) → total (naming s) (first_views z 0 ts.quotas ts.grants) ≡ 0
    names s = none (naming s) (λ n q. first_names s z n q ts.grants)

    idle : (n j : ℕ) → note_of (view_at (start z ts) n) j ≡ note.Idle
    idle n j = ⊎_elim
        (λ lt. ap (λ (v : CoreView). note_of v j) (at n lt) ∙ four_idle j)
        (λ le. let l = length_views z 0 ts.quotas ts.grants in
        ap (λ (v : CoreView). note_of v j) (get_or_past (first_views z 0 ts.quotas ts.grants) n no_view
        (omega arith)) ∙ four_idle j)
        (cases_lt n (length ts.quotas))

-- the trails are empty
pub first_trail : (z : Shape) (ts : Terms) (n : ℕ) → AreTerms z ts → n < z.seats
    → (view_at (start z ts) n).trail ≡ []
first_trail z ts n terms hn =
    let h : n < length ts.quotas = let e = terms.0 in omega arith in
    ap (λ (v : CoreView). v.trail) (first_at z 0 n ts.quotas ts.grants no_quota h)
