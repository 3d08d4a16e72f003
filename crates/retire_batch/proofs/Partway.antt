-- The loop that splits a list in place, over plain lists.
use Rattle.std.proofs.Common.{◌≡◌, ℕ, ◌+◌, ◌<◌, ◌≤◌, Bool, true, false, List, [], ◌∷◌, ◌++◌, length, get_or, take, drop, set, refl, ap, sym, ◌∙◌, arith, add-zero}
use Rattle.std.specs.Prelude.{nat_lt}
use Rattle.std.proofs.lemmas.List.{take_more, take_more_set, get_or-drop, drop-set-lt}
use Rattle.std.proofs.lemmas.Grind.{drop_more_same}
use Rattle.plain_state.specs.Lists.{Entry, entry_times}
use Rattle.plain_state.specs.Ejection.{Announcements, kept, ejected}
use Rattle.plain_state.proofs.Ejections.{kept_push, ejected_push, stays_by_kept}

-- `place` entries of `all` are split: `staying` of them stand in front, and the rest of the list is untouched
pub record IsPartway (all : List Entry) (seen : Announcements) (place staying : ℕ) (list owed : List Entry) : Type 0 where
  pub stays : take staying list ≡ kept (take place all) seen
  pub goes : owed ≡ ejected (take place all) seen
  pub rest : drop place list ≡ drop place all

pub partway_start : (all : List Entry) (seen : Announcements) → IsPartway all seen 0 0 all []
partway_start all seen = record { stays = refl; goes = refl; rest = refl }

-- the next entry of the list is that of `all`
next_of : (all list : List Entry) (place : ℕ) (e : Entry) → place < length all → drop place list ≡ drop place all
    → e ≡ get_or list place e → take (place + 1) all ≡ take place all ++ e ∷ []
next_of all list place e lt same is =
    let at : get_or list place e ≡ get_or all place e = sym (rw add-zero at (get_or-drop place list 0 e)) ∙ (ap (λ (xs : List Entry). get_or xs 0 e) same ∙ rw add-zero at (get_or-drop place all 0 e)) in
    take_more all place e lt ∙ ap (λ (x : Entry). take place all ++ x ∷ []) (sym (is ∙ at))

-- whether it stays, by what was kept so far
next_stays : (all : List Entry) (seen : Announcements) (place : ℕ) (front : List Entry) (e : Entry) (b : Bool)
    → front ≡ kept (take place all) seen → b ≡ nat_lt (entry_times e.0 e.1 front) (seen e.0 e.1)
    → nat_lt (entry_times e.0 e.1 (take place all)) (seen e.0 e.1) ≡ b
next_stays all seen place front e b is test =
    sym (test ∙ (ap (λ (xs : List Entry). nat_lt (entry_times e.0 e.1 xs) (seen e.0 e.1)) is ∙ stays_by_kept e (take place all) seen))

pub partway_kept : (all : List Entry) (seen : Announcements) (place staying : ℕ) (list owed : List Entry) (e : Entry)
    → IsPartway all seen place staying list owed → place < length all → length list ≡ length all → staying ≤ place
    → e ≡ get_or list place e → true ≡ nat_lt (entry_times e.0 e.1 (take staying list)) (seen e.0 e.1)
    → IsPartway all seen (place + 1) (staying + 1) (set list staying e) owed
partway_kept all seen place staying list owed e h lt same before is test =
    let more = next_of all list place e lt h.rest is in
    let here = next_stays all seen place (take staying list) e true h.stays test in
    let within : staying < length list = omega arith in
    let past : staying < place + 1 = omega arith in
    record {
      stays =
          take_more_set list staying e within
          ∙ (ap (λ (xs : List Entry). xs ++ e ∷ []) h.stays
          ∙ sym (ap (λ (xs : List Entry). kept xs seen) more ∙ rw here at (kept_push e (take place all) seen)));
      goes = h.goes ∙ sym (ap (λ (xs : List Entry). ejected xs seen) more ∙ rw here at (ejected_push e (take place all) seen));
      rest = drop-set-lt (place + 1) list staying e past ∙ drop_more_same list all place h.rest;
    }

pub partway_ejected : (all : List Entry) (seen : Announcements) (place staying : ℕ) (list owed : List Entry) (e : Entry)
    → IsPartway all seen place staying list owed → place < length all
    → e ≡ get_or list place e → false ≡ nat_lt (entry_times e.0 e.1 (take staying list)) (seen e.0 e.1)
    → IsPartway all seen (place + 1) staying list (owed ++ e ∷ [])
partway_ejected all seen place staying list owed e h lt is test =
    let more = next_of all list place e lt h.rest is in
    let here = next_stays all seen place (take staying list) e false h.stays test in
    record {
      stays = h.stays ∙ sym (ap (λ (xs : List Entry). kept xs seen) more ∙ rw here at (kept_push e (take place all) seen));
      goes =
          ap (λ (xs : List Entry). xs ++ e ∷ []) h.goes
          ∙ sym (ap (λ (xs : List Entry). ejected xs seen) more ∙ rw here at (ejected_push e (take place all) seen));
      rest = drop_more_same list all place h.rest;
    }
