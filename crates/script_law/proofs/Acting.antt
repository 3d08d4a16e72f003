-- What each command but `make` leaves of an orderly desk.
use Rattle.std.proofs.Common.{◌≡◌, inr, ⊎_elim, ℕ, true, false, List, [], ◌∷◌, ◌++◌, refl, ap, subst, arith, Option, Some, None}
use Rattle.std.specs.Prelude.{IsSome}
use Rattle.script_desk.specs.plain_state.declared.act.EventPlace.{EventPlace}
use Rattle.script_desk.specs.plain_state.declared.act.PlainAct.TheVariants as act
use Rattle.script_desk.specs.plain_state.declared.slot.Kind.TheVariants as kind
use Rattle.script_desk.specs.plain_state.declared.slot.SlotId.{SlotId}
use Rattle.script_desk.specs.plain_state.Places.{place_kind}
use Rattle.script_desk.specs.plain_state.Steps.{Does, Replaces}
use Rattle.script_desk.specs.plain_store.Calls.{Gains, Puts, WeaklyGains}
use Rattle.script_desk.specs.script_lines.declared.command.Command.{Command}
use Rattle.script_desk.specs.script_lines.declared.command.Command.TheVariants as command
use Rattle.script_desk.specs.script_lines.declared.command.TextPlace.{TextPlace}
use Rattle.script_desk.specs.script_lines.declared.command.TextPlace.TheVariants as text
use Rattle.script_desk.specs.declared.handle.Handle.{Handle}
use Rattle.script_desk.specs.declared.handle.Handle.TheVariants.{Strong, Weak, Snapshot}
use Rattle.script_desk.specs.declared.said.Said.{Said}
use Rattle.script_desk.specs.Desks.{Desk, bound, scope_of}
use Rattle.script_desk.specs.Effects.{Acts, Gets, Gives, IsPlace, IsSlotOf, Keeps, LoadsOne, LoadsStrong, LoadsWeak, ReplacesOne, SnapsOne, UpgradesOne}
use Rattle.script_desk.specs.Faults.{IsFaultless, need_of, place_needs, taken_by}
use Rattle.script_desk.specs.Handles.{is_firm, is_strong, slot_of}
use Rattle.script_desk.specs.Holding.{HasMore, HasSame, giving}
use Rattle.script_desk.specs.Places.{AreMet}
use Rattle.script_desk.proofs.Gaining.{gains_more, gives_fewer, loads_more, replaces_same, takes_more, weakly_gains_more, weakly_loads_more}
use Rattle.script_desk.proofs.Grows.{same_by}
use Rattle.script_desk.proofs.Needs.{faultless_met, first_met, kind_of, met_right}
use Rattle.script_desk.proofs.Placing.{tries_done}
use Rattle.script_desk.proofs.Steps.{same_as}
use Rattle.script_law.specs.Orderly.{IsOrderly}
use Rattle.script_law.proofs.Moving.{still_moves}
use Rattle.script_law.proofs.Orderly.{Moves, orderly_fewer, orderly_more, orderly_same}
use Rattle.script_law.proofs.Heaps.{add_moves, give_moves, load_moves, look_same, lost_same, put_fewer, put_moves, put_strong, seated, strong_kind, take_moves, try_moves, weak_gain_moves, weakly_load_moves}

pub none_of : (o : Option Handle) → (IsSome o → ⊥) → o ≡ None
none_of None no-one = refl
none_of (Some h) no-one = absurd (no-one refl)

-- the step was made, and what it leaves is orderly
pub record Acted (d e : Desk) : Type 0 where
  pub moves : Moves d.plain e.plain
  pub orderly : IsOrderly e

-- the command makes nothing
abbrev pub IsNoMake : Command → Type 0
IsNoMake (command.Make name weight) = ⊥
IsNoMake _ = Unit {0}

-- ---- what becomes of the desk
module _ (d : Desk) (k : IsOrderly d) where
  still : (e : Desk) → e.plain ≡ d.plain → Keeps d e → Acted d e
  still e is keeps =
      let m = still_moves d.plain k.sound k.one e.plain is in record {
        moves = m;
        orderly = orderly_same d e k m (same_as d.plain e.plain is) keeps;
      }

  same_desk : (e : Desk) → e ≡ d → Acted d e
  same_desk e is = still e (ap (λ (x : Desk). x.plain) is)
      (ap (λ (x : Desk). x.names) is, (ap (λ (x : Desk). x.makes) is, ap (λ (x : Desk). x.makers) is))

  got : (e : Desk) (name : List ℕ) (h : Handle) → (IsSome (bound d.names name) → ⊥) → Moves d.plain e.plain → HasMore d.plain h e.plain
      → Gets d name h e → Acted d e
  got e name h free m more gets = record {
    moves = m;
    orderly = orderly_more d e name h k m (none_of (bound d.names name) free) more gets;
  }

  gave_up : (e : Desk) (name : List ℕ) (h : Handle) → bound d.names name ≡ Some h → Moves d.plain e.plain → HasMore e.plain h d.plain
      → Gives d name e → Acted d e
  gave_up e name h is m fewer gives = record { moves = m; orderly = orderly_fewer d e name h k m is fewer gives }

  gains_acted : (e : Desk) (new : List ℕ) (s : SlotId) → (IsSome (bound d.names new) → ⊥) → Gains d.plain s s e.plain
      → Gets d new (Strong s) e → Acted d e
  gains_acted e new s free g gets =
      got e new (Strong s) free (add_moves d.plain k.sound k.one e.plain s 0 g.1) (gains_more d.plain e.plain s s g) gets

  weakly_gains_acted : (e : Desk) (new : List ℕ) (s : SlotId) → (IsSome (bound d.names new) → ⊥) → WeaklyGains d.plain s s e.plain
      → Gets d new (Weak s) e → Acted d e
  weakly_gains_acted e new s free g gets =
      got e new (Weak s) free (weak_gain_moves d.plain k.sound k.one e.plain s 0 g.1) (weakly_gains_more d.plain e.plain s s g) gets

  gives_acted : (e : Desk) (name : List ℕ) (h : Handle) → bound d.names name ≡ Some h → Does d.plain 0 (giving h) 0 e.plain
      → Gives d name e → Acted d e
  gives_acted e name h is does gives =
      gave_up e name h is (give_moves d.plain k.sound k.one e.plain h does) (gives_fewer d.plain e.plain h does) gives

  upgrades_acted : (e : Desk) (s : SlotId) (new : List ℕ) (answer : Said) → (IsSome (bound d.names new) → ⊥) → UpgradesOne d s new answer e
      → Acted d e
  upgrades_acted e s new answer free cases =
      ⊎_elim
      (λ x. gains_acted e new s free x.1 x.2)
      (λ x.
      let m = add_moves d.plain k.sound k.one e.plain s 1 x.1 in record {
        moves = m;
        orderly = orderly_same d e k m (refused e s x.1) x.2;
      })
      cases
    where
      refused : (e : Desk) (s : SlotId) → Does d.plain 0 (act.Add s) 1 e.plain → HasSame d.plain e.plain
      refused e s (here, (held, cases)) =
          ⊎_elim
          (λ x. absurd (omega (arith, x.0)))
          (λ x. same_by d.plain e.plain _ here.0 x.2 refl refl refl)
          cases

  loads_acted : (e : Desk) (at : EventPlace) (new : List ℕ) (answer : Said) → (IsSome (bound d.names new) → ⊥) → LoadsStrong d at new answer e
      → Acted d e
  loads_acted e at new answer free cases =
      ⊎_elim
      (λ x.
      let s = x.1.0 in
      got e new (Strong s) free (load_moves d.plain k.sound k.one e.plain at s x.1.1) (loads_more d.plain e.plain at s x.1.1).0 x.1.2)
      (λ x. still e (look_same d.plain k.sound k.one e.plain at x.1.1) x.2)
      cases

  weakly_loads_acted : (e : Desk) (at : EventPlace) (new : List ℕ) (answer : Said) → (IsSome (bound d.names new) → ⊥)
      → LoadsWeak d at new answer e → Acted d e
  weakly_loads_acted e at new answer free cases =
      ⊎_elim
      (λ x.
      let s = x.1.0 in
      got e new (Weak s) free (weakly_load_moves d.plain k.sound k.one e.plain at s x.1.1) (weakly_loads_more d.plain e.plain at s x.1.1) x.1.2)
      (λ x. still e (look_same d.plain k.sound k.one e.plain at x.1.1) x.2)
      cases

  load_acted : (e : Desk) (place : TextPlace) (at : EventPlace) (new : List ℕ) (answer : Said) → (IsSome (bound d.names new) → ⊥)
      → LoadsOne d place at new answer e → Acted d e
  load_acted e (text.Cell i) at new answer free l = loads_acted e at new answer free l
  load_acted e (text.Field name i) at new answer free l = loads_acted e at new answer free l
  load_acted e (text.WeakCell i) at new answer free l = weakly_loads_acted e at new answer free l
  load_acted e (text.WeakField name) at new answer free l = weakly_loads_acted e at new answer free l

  snaps_acted : (e : Desk) (at : EventPlace) (new : List ℕ) (answer : Said) → place_kind at ≡ kind.Strong → (IsSome (bound d.names new) → ⊥)
      → SnapsOne d at new answer e → Acted d e
  snaps_acted e at new answer strong free cases =
      ⊎_elim
      (λ x.
      let s = x.0 in
      let counted = x.1 in
      got e new (Snapshot (s, counted)) free (take_moves d.plain k.sound k.one e.plain at s counted x.3)
      (takes_more d.plain e.plain at s counted strong x.3) x.4)
      (λ x. still e (look_same d.plain k.sound k.one e.plain at x.1.1) x.2)
      cases

  puts_acted : (e : Desk) (place : TextPlace) (at : EventPlace) (name : List ℕ) (h : Handle) → IsPlace d.names place at
      → bound d.names name ≡ Some h → taken_by place h ≡ true → Puts d.plain at (Some (slot_of h)) e.plain → Gives d name e → Acted d e
  puts_acted e place at name h is-at is takes puts gives =
      gave_up e name h is (put_moves d.plain k.sound k.one e.plain at (Some (slot_of h)) puts)
      (put_fewer d.plain e.plain d.names place at h is-at takes (seated d.plain k.sound k.one) puts.1.2) gives

  clears_acted : (e : Desk) (at : EventPlace) → Puts d.plain at None e.plain → Keeps d e → Acted d e
  clears_acted e at puts keeps =
      let m = put_moves d.plain k.sound k.one e.plain at None puts in record {
        moves = m;
        orderly = orderly_same d e k m (replaces_same d.plain e.plain at (seated d.plain k.sound k.one) puts.1.2) keeps;
      }

  -- what a name or `null` stands for left its name
  replaces_acted : (e : Desk) (at : EventPlace) (old slot : Option SlotId) (new : Option (List ℕ)) (answer : Said)
      → place_kind at ≡ kind.Strong → AreMet d.names (need_of new is_strong) → IsSlotOf d.names new slot
      → ReplacesOne d at old slot new answer e → Acted d e
  replaces_acted e at old slot None answer strong met is cases =
      ⊎_elim
      (λ x.
      let m = try_moves d.plain k.sound k.one e.plain at old slot true x.1 in
      let done = tries_done d.plain e.plain at old slot x.1 in
      let r : Replaces d.plain 0 at None e.plain = subst (λ (o : Option SlotId). Replaces d.plain 0 at o e.plain) is done.1 in record {
        moves = m;
        orderly = orderly_same d e k m (replaces_same d.plain e.plain at done.0 r) x.2;
      })
      (λ x. still e (lost_same d.plain k.sound k.one e.plain at old slot x.1) x.2)
      cases
  replaces_acted e at old slot (Some name) answer strong met (h, bound-to, is) cases =
      ⊎_elim
      (λ x.
      let m = try_moves d.plain k.sound k.one e.plain at old slot true x.1 in
      let done = tries_done d.plain e.plain at old slot x.1 in
      let r : Replaces d.plain 0 at (Some (slot_of h)) e.plain = subst (λ (o : Option SlotId). Replaces d.plain 0 at o e.plain) is done.1 in
      let kind = kind_of (bound d.names name) is_strong h (first_met d.names name is_strong [] met) bound-to in
      gave_up e name h bound-to m (put_strong d.plain e.plain at h strong kind done.0 r) x.2)
      (λ x. still e (lost_same d.plain k.sound k.one e.plain at old slot x.1) x.2)
      cases

  -- whatever the command, unless it is a make
  pub acted : (e : Desk) (c : Command) (answer : Said) → IsFaultless (scope_of d) c → IsNoMake c → Acts d c answer e → Acted d e
  acted e (command.Make name weight) answer f not a = absurd not
  acted e (command.Copy name new) answer f not (z, (s, is, g, gets)) = gains_acted e new s (λ b. f.names (inr b)) g gets
  acted e (command.Drop name) answer f not (z, (s, is, does, gives)) = gives_acted e name (Strong s) is does gives
  acted e (command.Weaken name new) answer f not (z, (s, is, g, gets)) = weakly_gains_acted e new s (λ b. f.names (inr b)) g gets
  acted e (command.CopyWeak name new) answer f not (z, (s, is, g, gets)) = weakly_gains_acted e new s (λ b. f.names (inr b)) g gets
  acted e (command.DropWeak name) answer f not (z, (s, is, does, gives)) = gives_acted e name (Weak s) is does gives
  acted e (command.Upgrade name new) answer f not (s, is, cases) = upgrades_acted e s new answer (λ b. f.names (inr b)) cases
  acted e (command.Put place name) answer f not (z, (at, h, is-at, is, puts, gives)) =
      let met = faultless_met (scope_of d) (command.Put place name) f in
      let first = first_met d.names name (taken_by place) [] (met_right d.names (place_needs place) ((name, taken_by place) ∷ []) met) in
      puts_acted e place at name h is-at is (kind_of (bound d.names name) (taken_by place) h first is) puts gives
  acted e (command.Clear place) answer f not (z, (at, is-at, puts, keeps)) = clears_acted e at puts keeps
  acted e (command.Load place new) answer f not (at, is-at, l) = load_acted e place at new answer (λ b. f.names (inr b)) l
  acted e (command.Replace place old new) answer f not (at, expected, slot, is-at, is-old, is-new, r) =
      let met = faultless_met (scope_of d) (command.Replace place old new) f in
      let rest = met_right d.names (place_needs place) (need_of old is_firm ++ need_of new is_strong) met in
      replaces_acted e at expected slot new answer (strong_kind d.names place at is-at (λ w. f.kinds (inr w)))
      (met_right d.names (need_of old is_firm) (need_of new is_strong) rest) is-new r
  acted e (command.Snap place new) answer f not (at, is-at, s) =
      snaps_acted e at new answer (strong_kind d.names place at is-at (λ w. f.kinds (inr w))) (λ b. f.names (inr b)) s
  acted e (command.EndSnapshot name) answer f not (z, (s, true, is, does, gives)) = gives_acted e name (Snapshot (s, true)) is does gives
  acted e (command.EndSnapshot name) answer f not (z, (s, false, is, does, gives)) = gives_acted e name (Snapshot (s, false)) is does gives
  acted e (command.Keep name new) answer f not (z, (s, counted, is, g, gets)) = gains_acted e new s (λ b. f.names (inr b)) g gets
  acted e (command.Read name word) answer f not (h, is, said, same) = same_desk e same
  acted e (command.Counts name) answer f not (h, is, said, same) = same_desk e same
  acted e command.Audit answer f not (answers, same) = same_desk e same
