-- In which lives a seat that is alone knows what it owns.
use Rattle.std.proofs.Common.{◌≡◌, ◌<◌, false, ap, sym, ◌∙◌, subst, arith}
use Rattle.cell_intern.specs.cell_calls.Cells.{area_of}
use Rattle.cell_intern.specs.cell_calls.cell_law.declared.view.View.{View}
use Rattle.cell_intern.specs.cell_calls.cell_law.directory_law.Views.{In, rope}
use Rattle.cell_intern.specs.cell_calls.cell_law.directory_law.declared.view.Rope.{Rope}
use Rattle.cell_intern.specs.cell_calls.cell_law.plain_state.Lists.{times}
use Rattle.cell_intern.specs.cell_calls.cell_law.plain_state.declared.slot.SlotId.{SlotId}
use Rattle.cell_intern.specs.cell_calls.cell_protocol.declared.law.CellLaw.{CellLaw}
use Rattle.cell_rest.specs.Kept.{told_by}
use Rattle.cell_rest.proofs.Told.{told_now}
use Rattle.epoch_alone.proofs.Objects.{own_has}
use Rattle.cell_intern.specs.epoch_refs.epoch_domain.Domains.{DomainState}
use Rattle.cell_intern.specs.epoch_refs.epoch_domain.Seats.{SeatState}
use Rattle.cell_intern.specs.epoch_refs.plain_protocol.Owns.{Object}
use Rattle.cell_records.specs.Audits.{KnowsCells}
use Rattle.cell_records.specs.Lives.{KnowsLives}
use Rattle.cell_records.proofs.Cleared.{KnowsOwned}

-- by the law, until cells are cleared
pub knows_lives : (d : DomainState CellLaw) (seat : SeatState View) → KnowsCells d seat
    → seat.view.client.cleared ≡ false → KnowsLives seat
knows_lives d seat law is_open s owned life text told =
    let h = law.holds in
    ap (λ (o : Object). o.life)
    (law.lone.objects s (own_has s seat.view.core (omega (arith, owned))))
    ∙ told_now (area_of d.protocol) law.state h.views h.meets.law
    (ap (λ (v : View). v.cleared) h.own ∙ is_open) 0 s life text
    (subst (λ (v : View). In (rope s life text) (told_by v)) (sym h.own) told)

-- and where the seat goes on to own and to know what it owned, and its view tells no more
pub lives_on : (a b : SeatState View) → ((s : SlotId) → 0 < times s b.view.core.owned
    → 0 < times s a.view.core.owned) → KnowsOwned a b
    → ((e : Rope) → In e (told_by b.view.client) → In e (told_by a.view.client))
    → KnowsLives a → KnowsLives b
lives_on a b owns knows tells lives s owned life text told =
    ap (λ (o : Object). o.life) (knows s (owns s owned))
    ∙ lives s (owns s owned) life text (tells (rope s life text) told)
