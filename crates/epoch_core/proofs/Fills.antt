-- A payload word of the claimed slot is written; a payload word is read.
use Rattle.std.proofs.Common.{◌≡◌, inl, ℕ, ◌^◌, ◌<◌, List, set, refl, ap, ◌∙◌, arith}
use Rattle.std.proofs.lemmas.List.{length-set, get_or-set_other}
use Rattle.core_law.specs.plain_state.declared.slot.SlotId.{SlotId}
use Rattle.core_law.proofs.Kit.{one_same}
use Rattle.epoch_core.specs.declared.act.EpochAct.TheVariants as act
use Rattle.epoch_core.specs.declared.shape.EpochShape.{EpochShape}
use Rattle.epoch_core.specs.declared.view.EpochMove.{EpochMove}
use Rattle.epoch_core.specs.declared.view.EpochPhase.TheVariants as phase
use Rattle.epoch_core.specs.declared.view.EpochView.{EpochView}
use Rattle.epoch_core.specs.Words.{count_at, payload_at}
use Rattle.epoch_core.specs.Views.{slot_of}
use Rattle.epoch_core.specs.Steps.{May}
use Rattle.epoch_core.specs.Runs.{Core, view_at, after}
use Rattle.epoch_core.specs.Sound.{Sound}
use Rattle.epoch_core.proofs.Writes.{payload_off, places_off, fields_sum_off}
use Rattle.epoch_core.proofs.Put.{stepped, law_alike, fit_set}
use Rattle.epoch_core.proofs.Quiet.{quiet_sound}
use Rattle.epoch_core.proofs.Held.{named_in_range}
use Rattle.epoch_core.proofs.Counters.{unchanged}
use Rattle.epoch_core.proofs.Phases.{quiet_idle, quiet_blank, in_blank}

module _ (z : EpochShape) (c : Core) (n : ℕ) (so : Sound z c) (hn : n < z.seats) where
  abbrev v : EpochView
  v = view_at c n

  filled : (s : SlotId) (i x : ℕ) (t : List EpochMove) → v.phase ≡ phase.Blank s → s.0 < z.slots → i < 16
      → x < 2 ^ 64
      → Sound z (stepped c n (record v { trail = t }) (set c.words (payload_at z s i) x) c.opened)
  filled s i x t at hs hi fits =
      let law = so.seats n hn in
      let ws : List ℕ = set c.words (payload_at z s i) x in
      let off = payload_off z s i hi in
      quiet_sound z c n (record v { trail = t }) ws so hn (record {
        len = length-set c.words (payload_at z s i) x;
        low = λ j h. get_or-set_other c.words (payload_at z s i) j x 0 (omega arith);
        fit = fit_set z c (payload_at z s i) x so fits;
        same = record {
          number = refl;
          known = refl;
          before = quiet_blank v.phase s at;
          after = quiet_blank v.phase s at;
        };
        law = assumption law;
        dates = (so.regions n hn).dates;
        guards = λ g y a b hy. let p = places_off z c.words (payload_at z s i) x off y in omega arith;
        seen = λ y h. inl h;
        range = λ y le. places_off z c.words (payload_at z s i) x off y ∙ so.range y le;
        slots = λ y hy. law_alike z c n (record v { trail = t }) ws c.opened y so hn (omega arith)
            (record {
              word = get_or-set_other c.words (payload_at z s i) (count_at z y) x 0 (omega arith);
              counted = let p = places_off z c.words (payload_at z s i) x off y in omega arith;
              fill = refl;
              dyi = refl;
              fields = inl (fields_sum_off z c.words (payload_at z s i) x y (λ j h. off.fields y j hy h));
            }) hy;
      })

  pub fill_keeps : (i x : ℕ) → May z (act.Fill i x) v → Sound z (after z c n (act.Fill i x))
  fill_keeps i x may =
      let s : SlotId = may.0.0 in
      let o = one_same s s refl in
      let p = in_blank v.phase s s may.0.1 in
      let hs = named_in_range z n v s (so.seats n hn) (omega arith) in
      rw (ap slot_of may.0.1) (filled s i x _ may.0.1 hs may.1 may.2)

  pub see_keeps : (s : SlotId) (i : ℕ) → May z (act.See s i) v → Sound z (after z c n (act.See s i))
  see_keeps s i may = unchanged z c n so hn _ (payload_at z s i) (quiet_idle v.phase may.0.0)
