-- Why a call that tries again has run out of adds.
use Rattle.std.proofs.Common.{◌≡◌, ◌≤◌, ◌⊎◌, ⊎_elim, inl, inr, ℕ, ◌+◌, refl, arith}
use Rattle.slot_store.specs.acquire_retire.Seats.{SeatState}
use Rattle.queue_protocol.specs.queue_law.declared.view.View.{View}
use Rattle.linked_queue.specs.Leaving.{TrailGoesOn}
use Rattle.linked_queue.specs.Nodes.{HasFewAdds}
use Rattle.linked_queue.specs.Waits.{IsWhyShort, LosesTry}
use Rattle.linked_queue.proofs.Trails.{trail_same, trail_then}

module _ (is_lost : ℕ → ℕ → SeatState View → SeatState View → Type 0) where
  -- no try was lost before this one, and no add was used; or one was lost
  abbrev pub HasTried : SeatState View → SeatState View → Type 0
  HasTried old mid = (mid.view.core.adds ≡ old.view.core.adds) ⊎ LosesTry is_lost old mid

  module _ (a b c : SeatState View) where
    pub lost_now : TrailGoesOn a b → (seen now : ℕ) → is_lost seen now b c → LosesTry is_lost a c
    lost_now begins seen now lost = record {
      seen = seen;
      now = now;
      before = b;
      after = c;
      begins = begins;
      loses = lost;
      ends = trail_same c c refl;
    }

    lost_then : LosesTry is_lost a b → TrailGoesOn b c → LosesTry is_lost a c
    lost_then lost goes = record {
      seen = lost.seen;
      now = lost.now;
      before = lost.before;
      after = lost.after;
      begins = lost.begins;
      loses = lost.loses;
      ends = trail_then lost.after b c lost.ends goes;
    }

    lost_after : TrailGoesOn a b → LosesTry is_lost b c → LosesTry is_lost a c
    lost_after goes lost = record {
      seen = lost.seen;
      now = lost.now;
      before = lost.before;
      after = lost.after;
      begins = trail_then a b lost.before goes lost.begins;
      loses = lost.loses;
      ends = lost.ends;
    }

    -- a last try has too few adds
    pub short_last : (n : ℕ) → HasTried a b → b.view.core.quota.adds ≡ a.view.core.quota.adds
        → HasFewAdds n b.view.core → TrailGoesOn b c → IsWhyShort n is_lost a c
    short_last n tried quota few goes = ⊎_elim
        (λ same. inl (omega arith))
        (λ lost. inr (lost_then lost goes))
        tried

    -- more follows
    pub short_then : (n : ℕ) → IsWhyShort n is_lost a b → TrailGoesOn b c → IsWhyShort n is_lost a c
    short_then n why goes = ⊎_elim (λ few. inl few) (λ lost. inr (lost_then lost goes)) why

    -- the adds were used before
    pub short_after : (k n j : ℕ) → n ≡ k + j → b.view.core.adds ≤ a.view.core.adds + j
        → b.view.core.quota.adds ≡ a.view.core.quota.adds → TrailGoesOn a b → IsWhyShort k is_lost b c
        → IsWhyShort n is_lost a c
    short_after k n j is adds quota goes why = ⊎_elim
        (λ few. inl (omega arith))
        (λ lost. inr (lost_after goes lost))
        why
