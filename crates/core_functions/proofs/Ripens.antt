-- The slots that become ripe, one after another.
use Rattle.std.proofs.Common.{◌≡◌, ℕ, ◌+◌, ◌<◌, ◌≤◌, Bool, true, List, [], ◌∷◌, ◌++◌, length, take, drop, get_or, length-append, refl, ap, sym, ◌∙◌, arith}
use Rattle.std.specs.List.{filter}
use Rattle.std.proofs.lemmas.List.{append_assoc, take-append-drop, take-append-le, take_all, take_more}
use Rattle.std.proofs.lemmas.List.Elements.{filter-append}
use Rattle.std.proofs.lemmas.List.Sums.{length-filter, count_by-le-length}
use Rattle.core_events.specs.plain_state.declared.slot.SlotId.{SlotId}
use Rattle.core_events.specs.plain_state.Ejection.{Announcements, ripened, ripens}

module _ (f : SlotId → Bool) (dying : List SlotId) (i : ℕ) (none : SlotId)
    (there : i < length dying) where
  abbrev slot : SlotId
  slot = get_or dying i none

  filter_more : filter f (take (i + 1) dying) ≡ filter f (take i dying) ++ filter f (slot ∷ [])
  filter_more =
      ap (filter f) (take_more dying i none there) ∙ filter-append f (take i dying) (slot ∷ [])

  -- one that passes the test isn't among those that were looked at
  filter_room : f slot ≡ true → length (filter f (take i dying)) < length (filter f dying)
  filter_room test =
      let whole = ap (λ (xs : List SlotId). length (filter f xs)) (sym (take-append-drop (i + 1) dying))
      ∙ (ap length (filter-append f (take (i + 1) dying) (drop (i + 1) dying))
      ∙ length-append (filter f (take (i + 1) dying)) (filter f (drop (i + 1) dying))) in
      let more = ap length filter_more
      ∙ length-append (filter f (take i dying)) (filter f (slot ∷ [])) in
      let one : length (filter f (slot ∷ [])) ≡ 1 = rw test refl in omega arith

module _ (old dying now : List SlotId) (a : Announcements) (i were : ℕ)
    (so_far : now ≡ old ++ filter (ripens old a) (take i dying)) (all : were ≡ length old) where
  pub were_ripe : take were now ≡ old
  were_ripe = (λ k. take (all k) (so_far k))
      ∙ (take-append-le (length old) old (filter (ripens old a) (take i dying)) (omega arith)
      ∙ take_all (length old) old (omega arith))

  pub ripe_len : were ≤ length now
  ripe_len =
      let len = ap length so_far ∙ length-append old (filter (ripens old a) (take i dying)) in
      omega arith

  module _ (none : SlotId) (there : i < length dying) where
    pub ripe_more : (new : List SlotId)
        → new ≡ now ++ filter (ripens (take were now) a) (get_or dying i none ∷ [])
        → new ≡ old ++ filter (ripens old a) (take (i + 1) dying)
    ripe_more new joins =
        joins ∙ (λ k. so_far k ++ filter (ripens (were_ripe k) a) (get_or dying i none ∷ []))
        ∙ joined_lists
      where
        joined_lists : (old ++ filter (ripens old a) (take i dying))
            ++ filter (ripens old a) (get_or dying i none ∷ [])
            ≡ old ++ filter (ripens old a) (take (i + 1) dying)
        joined_lists = append_assoc old (filter (ripens old a) (take i dying))
            (filter (ripens old a) (get_or dying i none ∷ []))
            ∙ ap (λ (xs : List SlotId). old ++ xs) (sym (filter_more (ripens old a) dying i none there))

    pub ripe_room : (room : ℕ) → length (ripened old dying a) ≤ room
        → ripens (take were now) a (get_or dying i none) ≡ true → length now < room
    ripe_room room fit test =
        let less = filter_room (ripens old a) dying i none there
        (ap (λ (xs : List SlotId). ripens xs a (get_or dying i none)) (sym were_ripe) ∙ test) in
        let len = ap length so_far ∙ length-append old (filter (ripens old a) (take i dying)) in
        let whole = length-append old (filter (ripens old a) dying) in omega arith

-- all dying slots were looked at
pub ripe_whole : (old dying now : List SlotId) (a : Announcements) (i : ℕ) → length dying ≤ i
    → now ≡ old ++ filter (ripens old a) (take i dying) → now ≡ ripened old dying a
ripe_whole old dying now a i past so_far =
    so_far ∙ ap (λ (xs : List SlotId). old ++ filter (ripens old a) xs) (take_all i dying past)

-- no more become ripe than there are
pub ripened_few : (ripe dying : List SlotId) (seen : Announcements) (room : ℕ)
    → length ripe + length dying ≤ room → length (ripened ripe dying seen) ≤ room
ripened_few ripe dying seen room h =
    let a = length-append ripe (filter (ripens ripe seen) dying) in
    let f = length-filter (ripens ripe seen) dying in
    let m = count_by-le-length (ripens ripe seen) dying in omega arith
