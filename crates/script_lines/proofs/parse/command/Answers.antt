use Rattle.std.proofs.Common.{ap}
use Rattle.script_lines.proofs.Commands.{no-name_and_number, no-one_name, no-one_place, no-place_and_name, no-place_and_two, no-two_names}
use Rattle.script_lines.proofs.Refusals.{mapped-refusal}
use Rattle.script_lines.proofs.Shapes.{shape}
use Rattle.script_lines.proofs.parse.command.Goals as goal

-- the words after the verb are refused, and no command of the verb has others
pub returns-in-Make-clause-syntax : goal.returns-in-Make-clause-syntax
returns-in-Make-clause-syntax c told =
    no-name_and_number c.args.verb _ (ap shape c.in-Make.is) (c.name_and_number.ensures.syntax (mapped-refusal _ _ c.map.ensures.variant (λ e is. rw is at c.map.ensures.cases) told))

pub returns-in-Copy-clause-syntax : goal.returns-in-Copy-clause-syntax
returns-in-Copy-clause-syntax c told =
    no-two_names c.args.verb _ (ap shape c.in-Copy.is) (c.two_names.ensures.syntax (mapped-refusal _ _ c.map-in-Copy.ensures.variant (λ e is. rw is at c.map-in-Copy.ensures.cases) told))

pub returns-in-Drop-clause-syntax : goal.returns-in-Drop-clause-syntax
returns-in-Drop-clause-syntax c told =
    no-one_name c.args.verb _ (ap shape c.in-Drop.is) (c.one_name.ensures.syntax (mapped-refusal _ _ c.map-in-Drop.ensures.variant (λ e is. rw is at c.map-in-Drop.ensures.cases) told))

pub returns-in-Weaken-clause-syntax : goal.returns-in-Weaken-clause-syntax
returns-in-Weaken-clause-syntax c told =
    no-two_names c.args.verb _ (ap shape c.in-Weaken.is) (c.two_names-in-Weaken.ensures.syntax (mapped-refusal _ _ c.map-in-Weaken.ensures.variant (λ e is. rw is at c.map-in-Weaken.ensures.cases) told))

pub returns-in-CopyWeak-clause-syntax : goal.returns-in-CopyWeak-clause-syntax
returns-in-CopyWeak-clause-syntax c told =
    no-two_names c.args.verb _ (ap shape c.in-CopyWeak.is) (c.two_names-in-CopyWeak.ensures.syntax (mapped-refusal _ _ c.map-in-CopyWeak.ensures.variant (λ e is. rw is at c.map-in-CopyWeak.ensures.cases) told))

pub returns-in-DropWeak-clause-syntax : goal.returns-in-DropWeak-clause-syntax
returns-in-DropWeak-clause-syntax c told =
    no-one_name c.args.verb _ (ap shape c.in-DropWeak.is) (c.one_name-in-DropWeak.ensures.syntax (mapped-refusal _ _ c.map-in-DropWeak.ensures.variant (λ e is. rw is at c.map-in-DropWeak.ensures.cases) told))

pub returns-in-Upgrade-clause-syntax : goal.returns-in-Upgrade-clause-syntax
returns-in-Upgrade-clause-syntax c told =
    no-two_names c.args.verb _ (ap shape c.in-Upgrade.is) (c.two_names-in-Upgrade.ensures.syntax (mapped-refusal _ _ c.map-in-Upgrade.ensures.variant (λ e is. rw is at c.map-in-Upgrade.ensures.cases) told))

pub returns-in-Put-clause-syntax : goal.returns-in-Put-clause-syntax
returns-in-Put-clause-syntax c told =
    no-place_and_name c.args.verb _ (ap shape c.in-Put.is) (c.place_and_name.ensures.syntax (mapped-refusal _ _ c.map-in-Put.ensures.variant (λ e is. rw is at c.map-in-Put.ensures.cases) told))

pub returns-in-Clear-clause-syntax : goal.returns-in-Clear-clause-syntax
returns-in-Clear-clause-syntax c told =
    no-one_place c.args.verb _ (ap shape c.in-Clear.is) (c.one_place.ensures.syntax (mapped-refusal _ _ c.map-in-Clear.ensures.variant (λ e is. rw is at c.map-in-Clear.ensures.cases) told))

pub returns-in-Load-clause-syntax : goal.returns-in-Load-clause-syntax
returns-in-Load-clause-syntax c told =
    no-place_and_name c.args.verb _ (ap shape c.in-Load.is) (c.place_and_name-in-Load.ensures.syntax (mapped-refusal _ _ c.map-in-Load.ensures.variant (λ e is. rw is at c.map-in-Load.ensures.cases) told))

pub returns-in-Replace-clause-syntax : goal.returns-in-Replace-clause-syntax
returns-in-Replace-clause-syntax c told =
    no-place_and_two c.args.verb _ (ap shape c.in-Replace.is) (c.place_and_two.ensures.syntax (mapped-refusal _ _ c.map-in-Replace.ensures.variant (λ e is. rw is at c.map-in-Replace.ensures.cases) told))

pub returns-in-Snap-clause-syntax : goal.returns-in-Snap-clause-syntax
returns-in-Snap-clause-syntax c told =
    no-place_and_name c.args.verb _ (ap shape c.in-Snap.is) (c.place_and_name-in-Snap.ensures.syntax (mapped-refusal _ _ c.map-in-Snap.ensures.variant (λ e is. rw is at c.map-in-Snap.ensures.cases) told))

pub returns-in-EndSnapshot-clause-syntax : goal.returns-in-EndSnapshot-clause-syntax
returns-in-EndSnapshot-clause-syntax c told =
    no-one_name c.args.verb _ (ap shape c.in-EndSnapshot.is) (c.one_name-in-EndSnapshot.ensures.syntax (mapped-refusal _ _ c.map-in-EndSnapshot.ensures.variant (λ e is. rw is at c.map-in-EndSnapshot.ensures.cases) told))

pub returns-in-Keep-clause-syntax : goal.returns-in-Keep-clause-syntax
returns-in-Keep-clause-syntax c told =
    no-two_names c.args.verb _ (ap shape c.in-Keep.is) (c.two_names-in-Keep.ensures.syntax (mapped-refusal _ _ c.map-in-Keep.ensures.variant (λ e is. rw is at c.map-in-Keep.ensures.cases) told))

pub returns-in-Read-clause-syntax : goal.returns-in-Read-clause-syntax
returns-in-Read-clause-syntax c told =
    no-name_and_number c.args.verb _ (ap shape c.in-Read.is) (c.name_and_number-in-Read.ensures.syntax (mapped-refusal _ _ c.map-in-Read.ensures.variant (λ e is. rw is at c.map-in-Read.ensures.cases) told))

pub returns-in-Counts-clause-syntax : goal.returns-in-Counts-clause-syntax
returns-in-Counts-clause-syntax c told =
    no-one_name c.args.verb _ (ap shape c.in-Counts.is) (c.one_name-in-Counts.ensures.syntax (mapped-refusal _ _ c.map-in-Counts.ensures.variant (λ e is. rw is at c.map-in-Counts.ensures.cases) told))
