use Rattle.std.proofs.Common.{◌<◌, ap, subst}
use Rattle.watch_protocol.specs.watch_law.News.{NewsView}
use Rattle.weak_watch.specs.Subjects.{news_fits, seen, watch_in, watch_part, watch_view}
use Rattle.part_calls.proofs.Seen.{rest_seen}
use Rattle.weak_watch.proofs.Found.{finds_at, found_client, found_keeps, found_observer, loses_at}
use Rattle.weak_watch.proofs.Keeping.{keeps_whole}
use Rattle.weak_watch.proofs.finding.try_find.Goals as goal

pub returns-clause-found : goal.returns-clause-found
returns-clause-found c =
    finds_at news_fits (watch_in c.args.domain.now) c.args.id (seen c.args.seat.now)
    (seen c.try_load_weak.new.seat) c.cell_of.result c.cell_of.ensures.is c.try_load_weak.result
    c.try_load_weak.ensures.loaded

pub returns-clause-observer : goal.returns-clause-observer
returns-clause-observer c =
    let d = watch_in c.args.domain.now in
    found_observer news_fits d c.args.id (seen c.args.seat.now) (seen c.try_load_weak.new.seat)
    c.try_load_weak.result
    (subst (λ n. c.args.id < n) c.requires.ready.over.cells c.requires.inside)
    (finds_at news_fits d c.args.id (seen c.args.seat.now) (seen c.try_load_weak.new.seat)
    c.cell_of.result c.cell_of.ensures.is c.try_load_weak.result c.try_load_weak.ensures.loaded)

pub returns-clause-client : goal.returns-clause-client
returns-clause-client c =
    let d = watch_in c.args.domain.now in
    let a = seen c.args.seat.now in
    let b = seen c.try_load_weak.new.seat in
    let mine = found_client news_fits d c.args.id a b c.try_load_weak.result
    (rest_seen watch_part watch_view c.args.domain.now c.args.seat.now c.requires.ready.rest)
    (λ is. ap seen (c.try_load_weak.ensures.refused is))
    (finds_at news_fits d c.args.id a b c.cell_of.result c.cell_of.ensures.is
    c.try_load_weak.result c.try_load_weak.ensures.loaded)
    (loses_at news_fits d c.args.id a b c.cell_of.result c.cell_of.ensures.is
    c.try_load_weak.result c.try_load_weak.ensures.moved) in
    λ i. (ap (λ (v : NewsView). v.0) c.try_load_weak.ensures.beside i, mine i)

pub returns-clause-keeps : goal.returns-clause-keeps
returns-clause-keeps c =
    let d = watch_in c.args.domain.now in
    let a = seen c.args.seat.now in
    let b = seen c.try_load_weak.new.seat in
    keeps_whole 0 _ _ _ c.args.seat.now c.try_load_weak.new.seat
    (found_keeps news_fits d c.args.id a b c.try_load_weak.result
    (λ is. ap seen (c.try_load_weak.ensures.refused is))
    (finds_at news_fits d c.args.id a b c.cell_of.result c.cell_of.ensures.is
    c.try_load_weak.result c.try_load_weak.ensures.loaded)
    (loses_at news_fits d c.args.id a b c.cell_of.result c.cell_of.ensures.is
    c.try_load_weak.result c.try_load_weak.ensures.moved)
    c.try_load_weak.ensures.objects)
