-- What the trail shows of commands, as a desk's calls have it.
use Rattle.std.proofs.Common.{◌≡◌, ℕ, Bool, true, false, List, [], sym, subst, refl}
use Rattle.std.specs.Prelude.{Option, Some, None, Result, IfOk}
use Rattle.script_desk.specs.plain_state.declared.act.EventPlace.{EventPlace}
use Rattle.script_desk.specs.plain_state.declared.slot.SlotId.{SlotId}
use Rattle.lone_heap.specs.core_events.declared.view.CoreView.{CoreView}
use Rattle.lone_heap.specs.Trails.{Shows, ShowsPut, ShowsTry, exchanged, lost, replaced}
use Rattle.lone_heap.proofs.Trailing.{shows_first}
use Rattle.script_desk.specs.script_lines.declared.command.Command.{Command}
use Rattle.script_desk.specs.script_lines.declared.command.Command.TheVariants as command
use Rattle.script_desk.specs.script_lines.declared.command.TextPlace.{TextPlace}
use Rattle.script_desk.specs.declared.said.Said.{Said}
use Rattle.script_desk.specs.declared.said.Said.TheVariants as said
use Rattle.domain_desk.specs.Desks.{DeskState, core_of}
use Rattle.domain_desk.specs.Marks.{ShowsCommand}

module _ (place : TextPlace) (v w : CoreView) (at : EventPlace) where
  pub put_shown : (name : List ℕ) (s : SlotId) → ShowsPut at (Some s) v w
      → ShowsCommand (command.Put place name) said.Nothing v w
  put_shown name s (held, shows) = (exchanged at (Some s) held, (at, s, held, refl), shows)

  pub clear_shown : ShowsPut at None v w → ShowsCommand (command.Clear place) said.Nothing v w
  clear_shown (held, shows) = (exchanged at None held, (at, held, refl), shows)

  module _ (old new : Option (List ℕ)) (x y : Option SlotId) (b : Bool)
      (tries : ShowsTry at x y b v w) where
    pub done_shown : b ≡ true → ShowsCommand (command.Replace place old new) said.Done v w
    done_shown is =
        (replaced at x y, (at, x, y, refl), subst (λ (c : Bool). ShowsTry at x y c v w) is tries)

    pub lost_shown : b ≡ false → ShowsCommand (command.Replace place old new) said.Lost v w
    lost_shown is =
        let one = subst (λ (c : Bool). ShowsTry at x y c v w) is tries in
        (lost at x y one.0, (at, x, y, one.0, refl), one.1)

-- the same of the desk that a call's own parts make up
pub from_view : {P : Type 0} (d e : DeskState P) → d ≡ e → (c : Command) (answer : Said) (w : CoreView)
    → ShowsCommand c answer (core_of d) w → ShowsCommand c answer (core_of e) w
from_view {P = P} d e is c answer w shown =
    subst (λ (x : DeskState P). ShowsCommand c answer (core_of x) w) is shown

-- the same of whichever command it is
pub shown_as : {E : Type 0} (c x : Command) (r : Result Said E) (v w : CoreView) → c ≡ x
    → IfOk r (λ answer. ShowsCommand x answer v w) → IfOk r (λ answer. ShowsCommand c answer v w)
shown_as c x r v w is shown =
    subst (λ (y : Command). IfOk r (λ answer. ShowsCommand y answer v w)) (sym is) shown

-- what a command shows it shows where the seat settles after that
pub shown_then : (c : Command) (answer : Said) (u v w : CoreView) → ShowsCommand c answer u v
    → Shows [] v w → ShowsCommand c answer u w
shown_then c answer u v w (marks, are, shows) more =
    (marks, are, shows_first marks u v w shows more)
