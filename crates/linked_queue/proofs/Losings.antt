-- Why a pop answers nothing, level by level.
use Rattle.std.proofs.Common.{◌≡◌, ℕ, ◌+◌, ◌≤◌, refl, ap, arith}
use Rattle.slot_store.specs.core_events.declared.view.CoreView.{CoreView}
use Rattle.slot_store.specs.counted_handles.declared.refusal.LoadError.{LoadError}
use Rattle.slot_store.specs.counted_handles.declared.refusal.LoadError.TheVariants as unloaded
use Rattle.slot_store.specs.acquire_retire.Seats.{SeatState}
use Rattle.queue_protocol.specs.queue_law.declared.view.View.{View}
use Rattle.linked_queue.specs.declared.queue.PopError.{PopError}
use Rattle.linked_queue.specs.declared.queue.PopError.TheVariants as unpopped
use Rattle.linked_queue.specs.Leaving.{aside}
use Rattle.linked_queue.specs.Nodes.{HasFewAdds}
use Rattle.linked_queue.specs.Pops.{IsWhyLost, unpopped_by}
use Rattle.linked_queue.specs.Seeing.{IsWhyUnread}

-- a pop that is refused for want of adds had its load refused for it
pub spent_by : (error : LoadError) → unpopped_by error ≡ unpopped.Spent → error ≡ unloaded.Spent
spent_by unloaded.Spent is = refl
spent_by (unloaded.Moved seen now) is = absurd (cc (is))

-- a load that was refused refuses the pop
pub why_of : (differs loses : ℕ → ℕ → Type 0) (n : ℕ) (error : LoadError) (old : SeatState View)
    → ((seen now : ℕ) → differs seen now → loses seen now) → IsWhyUnread differs error old
    → IsWhyLost loses n (unpopped_by error) old
why_of differs loses n unloaded.Spent old so why = omega (arith, why)
why_of differs loses n (unloaded.Moved seen now) old so why = so seen now why

-- and so does what refused its rest, before which it had used few adds
pub few_up : (m n used : ℕ) (old mid : SeatState View) → mid.view.core.adds ≤ old.view.core.adds + used
    → aside mid.view.core ≡ aside old.view.core → m + used ≤ n → HasFewAdds m mid.view.core
    → HasFewAdds n old.view.core
few_up m n used old mid adds same most few =
    let quota = ap (λ (v : CoreView). v.quota.adds) same in omega arith

pub why_up : (inner outer : ℕ → ℕ → Type 0) (m n : ℕ) (e : PopError) (old mid : SeatState View)
    → ((seen now : ℕ) → inner seen now → outer seen now)
    → (HasFewAdds m mid.view.core → HasFewAdds n old.view.core) → IsWhyLost inner m e mid
    → IsWhyLost outer n e old
why_up inner outer m n unpopped.Spent old mid up few why = few why
why_up inner outer m n (unpopped.Again seen now) old mid up few why = up seen now why
