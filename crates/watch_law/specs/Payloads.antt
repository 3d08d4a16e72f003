-- Which payloads are those of observers and of deliveries: word 0 tells it.
use Rattle.std.specs.Prelude.{ℕ, ◌≡◌, ◌⊎◌, ◌≤◌, List, slice_index}

abbrev pub IsObserver : List ℕ → Type 0
IsObserver words = slice_index words 0 ≡ 1

abbrev pub IsDelivery : List ℕ → Type 0
IsDelivery words = slice_index words 0 ≡ 2

-- what observers and deliveries are, and no other object
abbrev pub IsOwn : List ℕ → Type 0
IsOwn words = IsObserver words ⊎ IsDelivery words

-- what an observer or a delivery tells: the observer's id, or the event
abbrev pub told : List ℕ → ℕ
told words = slice_index words 1

-- the payload of an observer with this id
abbrev pub IsObserverOf : ℕ → List ℕ → Type 0
IsObserverOf id words = IsObserver words × (told words ≡ id)

-- such a payload, whole: word 0, what it tells, and zeros
abbrev pub IsWatchPayload : List ℕ → Type 0
IsWatchPayload words = IsOwn words × ((i : ℕ) → 2 ≤ i → slice_index words i ≡ 0)

-- an observer weighs 1, a delivery 2
abbrev pub watch_weight : List ℕ → ℕ
watch_weight words = slice_index words 0
