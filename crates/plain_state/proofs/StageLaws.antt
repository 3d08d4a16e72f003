-- The law of a slot whose stage or mark changes, by its numbers before (m) and after (n).
use Rattle.std.proofs.Common.{◌≡◌, ◌≢◌, inl, inr, ℕ, ◌+◌, ◌≤◌, true, false, refl, ap, sym, ◌∙◌, arith}
use Rattle.plain_state.specs.declared.slot.PlainSlot.{PlainSlot}
use Rattle.plain_state.specs.declared.slot.Stage.{Stage}
use Rattle.plain_state.specs.declared.slot.Stage.TheVariants.{Free, Blank, Live, Ended, Husk}
use Rattle.plain_state.specs.References.{own_reference}
use Rattle.plain_state.specs.Lawful.{HasNullFields}
use Rattle.plain_state.proofs.SlotLaw.{Numbers, SlotLaw, NoMore, strong_sum, weak_sum, none_strong, none_weak, none_dying, none_disposal}

apart : (x : PlainSlot) (g h : Stage) → x.stage ≡ g → (g ≡ h → ⊥) → x.stage ≢ h
apart x g h e ne f = ne (sym e ∙ f)

-- free, and then blank
pub claimed : (m n : Numbers) (x : PlainSlot) → SlotLaw m x → NoMore m n → x.stage ≡ Free
    → SlotLaw n (record x { stage = Blank })
claimed m n x law less free =
    let not_live : x.stage ≢ Live = apart x Free Live free (λ e. cc) in
    let not_ended : x.stage ≢ Ended = apart x Free Ended free (λ e. cc) in
    let no_strong = none_strong m x law not_live in
    let no_weak = none_weak m x law free in
    let no_dying = none_dying m x law not_ended in
    record {
      strong_covered = less.strong_covered law.strong_covered;
      weak_covered = less.weak_covered law.weak_covered;
      disposal_covered = λ h.
          let none = none_disposal m x law not_live not_ended in
          let d = less.disposal in absurd (omega arith);
      strong = λ h. absurd (omega arith);
      weak = λ h e. cc;
      once = omega arith;
      dying = (λ e. cc, λ h. absurd (omega arith));
      nulls = λ vacant. law.nulls (not_live, not_ended);
      marks = λ other. law.marks not_live;
      strong_few = omega arith;
      weak_few = omega arith;
    }

-- blank, and then live, with one reference, by one add
pub made : (m n : Numbers) (x : PlainSlot) (life : ℕ) → SlotLaw m x → n.owned ≤ m.owned + 1
    → n.adds ≡ m.adds + 1
    → NoMore m (record n { owned = m.owned }) → x.stage ≡ Blank
    → SlotLaw n (record x { stage = Live; marked = false; life = life })
made m n x life law more adds less blank =
    let not_ended : x.stage ≢ Ended = apart x Blank Ended blank (λ e. cc) in
    let own = ap own_reference blank in
    let no_dying = none_dying m x law not_ended in
    record {
      strong_covered = less.strong_covered law.strong_covered;
      weak_covered = less.weak_covered law.weak_covered;
      disposal_covered = λ h. inl refl;
      strong = λ h. (refl, refl);
      weak = λ h e. cc;
      once = omega arith;
      dying = (λ e. cc, λ h. absurd (omega arith));
      nulls = λ vacant. absurd (vacant.0 refl);
      marks = λ other. absurd (other refl);
      strong_few = omega arith;
      weak_few = omega arith;
    }

-- live with no strong reference, and then marked
pub zero_marked : (m n : Numbers) (x : PlainSlot) → SlotLaw m x → NoMore m n → x.stage ≡ Live
    → strong_sum m ≡ 0
    → SlotLaw n (record x { marked = true })
zero_marked m n x law less live none = record {
  strong_covered = less.strong_covered law.strong_covered;
  weak_covered = less.weak_covered law.weak_covered;
  disposal_covered = λ h. inl live;
  strong = λ h. absurd (omega arith);
  weak = λ h. law.weak (omega arith);
  once = omega arith;
  dying = (λ e. let d = law.dying.0 e in omega arith, λ h. law.dying.1 (omega arith));
  nulls = law.nulls;
  marks = λ other. refl;
  strong_few = omega arith;
  weak_few = omega arith;
}

-- live with no strong reference, and then ended, in one dying list
pub ended : (m n : Numbers) (x : PlainSlot) → SlotLaw m x → n.dying ≡ m.dying + 1
    → NoMore m (record n { dying = m.dying }) → x.stage ≡ Live → strong_sum m ≡ 0
    → SlotLaw n (record x { stage = Ended; marked = true })
ended m n x law more less live none =
    let not_ended : x.stage ≢ Ended = apart x Live Ended live (λ e. cc) in
    let own = ap own_reference live in
    let no_dying = none_dying m x law not_ended in
    record {
      strong_covered = less.strong_covered law.strong_covered;
      weak_covered = less.weak_covered law.weak_covered;
      disposal_covered = λ h. inr refl;
      strong = λ h. absurd (omega arith);
      weak = λ h e. cc;
      once = omega arith;
      dying = (λ e. omega arith, λ h. refl);
      nulls = λ vacant. absurd (vacant.1 refl);
      marks = λ other. refl;
      strong_few = omega arith;
      weak_few = omega arith;
    }

-- ended, and then a husk, in no dying list
pub destroyed : (m n : Numbers) (x : PlainSlot) → SlotLaw m x → n.dying + 1 ≡ m.dying
    → NoMore m (record n { dying = m.dying }) → HasNullFields x → m.disposal_snapshots ≡ 0
    → SlotLaw n (record x { stage = Husk })
destroyed m n x law one less null unseen =
    let is_ended : x.stage ≡ Ended = law.dying.1 (omega arith) in
    let not_live : x.stage ≢ Live = apart x Ended Live is_ended (λ e. cc) in
    let own = ap own_reference is_ended in
    let none = none_strong m x law not_live in
    record {
      strong_covered = less.strong_covered law.strong_covered;
      weak_covered = less.weak_covered law.weak_covered;
      disposal_covered = λ h. let d = less.disposal in absurd (omega arith);
      strong = λ h. absurd (omega arith);
      weak = λ h e. cc;
      once = omega arith;
      dying = (λ e. cc, λ h. let o = law.once in absurd (omega arith));
      nulls = λ vacant. null;
      marks = λ other. law.marks not_live;
      strong_few = omega arith;
      weak_few = omega arith;
    }

-- a husk with no weak reference, and then free
pub given : (m n : Numbers) (x : PlainSlot) → SlotLaw m x → NoMore m n → x.stage ≡ Husk
    → weak_sum m ≡ 0
    → SlotLaw n (record x { stage = Free })
given m n x law less husk no_weak =
    let not_live : x.stage ≢ Live = apart x Husk Live husk (λ e. cc) in
    let not_ended : x.stage ≢ Ended = apart x Husk Ended husk (λ e. cc) in
    let no_strong = none_strong m x law not_live in
    let no_dying = none_dying m x law not_ended in
    record {
      strong_covered = less.strong_covered law.strong_covered;
      weak_covered = less.weak_covered law.weak_covered;
      disposal_covered = λ h.
          let none = none_disposal m x law not_live not_ended in
          let d = less.disposal in absurd (omega arith);
      strong = λ h. absurd (omega arith);
      weak = λ h. absurd (omega arith);
      once = omega arith;
      dying = (λ e. cc, λ h. absurd (omega arith));
      nulls = λ vacant. law.nulls (not_live, not_ended);
      marks = λ other. law.marks not_live;
      strong_few = omega arith;
      weak_few = omega arith;
    }
