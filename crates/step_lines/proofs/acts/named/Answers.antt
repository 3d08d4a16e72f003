use Rattle.std.proofs.Common.{◌≡◌, rules, codes, arith}
use Rattle.std.proofs.lemmas.Slice.Eq.{text_from_reads}
use Rattle.line_words.specs.Words.{texts_of}
use Rattle.step_lines.proofs.ShortRows as row
use Rattle.step_lines.proofs.acts.named.Goals as goal

pub returns-in-add : goal.returns-in-add
returns-in-add c =
    let is : c.args.name.now ≡ codes "add" = text_from_reads c.args.name.now (codes "add") (omega arith) (search rules) in
    row.add_reads c.args.name.now (texts_of c.args.words.now) c.slot.result c.map.result is c.map.ensures.cases c.slot.ensures

pub returns-in-drop : goal.returns-in-drop
returns-in-drop c =
    let is : c.args.name.now ≡ codes "drop" = text_from_reads c.args.name.now (codes "drop") (omega arith) (search rules) in
    row.drop_reads c.args.name.now (texts_of c.args.words.now) c.slot-in-drop.result c.map-in-drop.result is c.map-in-drop.ensures.cases c.slot-in-drop.ensures

pub returns-in-pay : goal.returns-in-pay
returns-in-pay c =
    let is : c.args.name.now ≡ codes "pay" = text_from_reads c.args.name.now (codes "pay") (omega arith) (search rules) in
    row.pay_reads c.args.name.now (texts_of c.args.words.now) c.alone-in-pay.result is c.alone-in-pay.ensures

pub returns-in-finish : goal.returns-in-finish
returns-in-finish c =
    let is : c.args.name.now ≡ codes "finish" = text_from_reads c.args.name.now (codes "finish") (omega arith) (search rules) in
    row.finish_reads c.args.name.now (texts_of c.args.words.now) c.alone-in-finish.result is c.alone-in-finish.ensures

pub returns-in-take : goal.returns-in-take
returns-in-take c =
    let is : c.args.name.now ≡ codes "take" = text_from_reads c.args.name.now (codes "take") (omega arith) (search rules) in
    row.take_reads c.args.name.now (texts_of c.args.words.now) c.alone-in-take.result is c.alone-in-take.ensures

pub returns-in-count : goal.returns-in-count
returns-in-count c =
    let is : c.args.name.now ≡ codes "count" = text_from_reads c.args.name.now (codes "count") (omega arith) (search rules) in
    row.count_reads c.args.name.now (texts_of c.args.words.now) c.slot-in-count.result c.map-in-count.result is c.map-in-count.ensures.cases c.slot-in-count.ensures

pub returns-in-mark : goal.returns-in-mark
returns-in-mark c =
    let is : c.args.name.now ≡ codes "mark" = text_from_reads c.args.name.now (codes "mark") (omega arith) (search rules) in
    row.mark_reads c.args.name.now (texts_of c.args.words.now) c.alone-in-mark.result is c.alone-in-mark.ensures

pub returns-in-release : goal.returns-in-release
returns-in-release c =
    let is : c.args.name.now ≡ codes "release" = text_from_reads c.args.name.now (codes "release") (omega arith) (search rules) in
    row.release_reads c.args.name.now (texts_of c.args.words.now) c.one_number-in-release.result c.map-in-release.result is c.map-in-release.ensures.cases c.one_number-in-release.ensures

pub returns-in-alive : goal.returns-in-alive
returns-in-alive c =
    let is : c.args.name.now ≡ codes "alive" = text_from_reads c.args.name.now (codes "alive") (omega arith) (search rules) in
    row.alive_reads c.args.name.now (texts_of c.args.words.now) c.one_number.result c.map-in-alive.result is c.map-in-alive.ensures.cases c.one_number.ensures

pub returns-in-scan : goal.returns-in-scan
returns-in-scan c =
    let is : c.args.name.now ≡ codes "scan" = text_from_reads c.args.name.now (codes "scan") (omega arith) (search rules) in
    row.scan_reads c.args.name.now (texts_of c.args.words.now) c.alone-in-scan.result is c.alone-in-scan.ensures

pub returns-in-claim : goal.returns-in-claim
returns-in-claim c =
    let is : c.args.name.now ≡ codes "claim" = text_from_reads c.args.name.now (codes "claim") (omega arith) (search rules) in
    row.claim_reads c.args.name.now (texts_of c.args.words.now) c.slot-in-claim.result c.map-in-claim.result is c.map-in-claim.ensures.cases c.slot-in-claim.ensures

pub returns-in-arm : goal.returns-in-arm
returns-in-arm c =
    let is : c.args.name.now ≡ codes "arm" = text_from_reads c.args.name.now (codes "arm") (omega arith) (search rules) in
    row.arm_reads c.args.name.now (texts_of c.args.words.now) c.alone.result is c.alone.ensures

pub returns-in-start : goal.returns-in-start
returns-in-start c =
    let is : c.args.name.now ≡ codes "start" = text_from_reads c.args.name.now (codes "start") (omega arith) (search rules) in
    row.start_reads c.args.name.now (texts_of c.args.words.now) c.alone-in-start.result is c.alone-in-start.ensures

pub returns-in-free : goal.returns-in-free
returns-in-free c =
    let is : c.args.name.now ≡ codes "free" = text_from_reads c.args.name.now (codes "free") (omega arith) (search rules) in
    row.free_reads c.args.name.now (texts_of c.args.words.now) c.alone-in-free.result is c.alone-in-free.ensures

pub returns-in-ticket : goal.returns-in-ticket
returns-in-ticket c =
    let is : c.args.name.now ≡ codes "ticket" = text_from_reads c.args.name.now (codes "ticket") (omega arith) (search rules) in
    row.ticket_reads c.args.name.now (texts_of c.args.words.now) c.alone-in-ticket.result is c.alone-in-ticket.ensures

pub returns-in-wadd : goal.returns-in-wadd
returns-in-wadd c =
    let is : c.args.name.now ≡ codes "wadd" = text_from_reads c.args.name.now (codes "wadd") (omega arith) (search rules) in
    row.wadd_reads c.args.name.now (texts_of c.args.words.now) c.slot-in-wadd.result c.map-in-wadd.result is c.map-in-wadd.ensures.cases c.slot-in-wadd.ensures

pub returns-in-wdrop : goal.returns-in-wdrop
returns-in-wdrop c =
    let is : c.args.name.now ≡ codes "wdrop" = text_from_reads c.args.name.now (codes "wdrop") (omega arith) (search rules) in
    row.wdrop_reads c.args.name.now (texts_of c.args.words.now) c.slot-in-wdrop.result c.map-in-wdrop.result is c.map-in-wdrop.ensures.cases c.slot-in-wdrop.ensures

pub returns-in-destroy : goal.returns-in-destroy
returns-in-destroy c =
    let is : c.args.name.now ≡ codes "destroy" = text_from_reads c.args.name.now (codes "destroy") (omega arith) (search rules) in
    row.destroy_reads c.args.name.now (texts_of c.args.words.now) c.slot-in-destroy.result c.map-in-destroy.result is c.map-in-destroy.ensures.cases c.slot-in-destroy.ensures

pub returns-in-wcount : goal.returns-in-wcount
returns-in-wcount c =
    let is : c.args.name.now ≡ codes "wcount" = text_from_reads c.args.name.now (codes "wcount") (omega arith) (search rules) in
    row.wcount_reads c.args.name.now (texts_of c.args.words.now) c.slot-in-wcount.result c.map-in-wcount.result is c.map-in-wcount.ensures.cases c.slot-in-wcount.ensures

pub returns-in-leave : goal.returns-in-leave
returns-in-leave c =
    let is : c.args.name.now ≡ codes "leave" = text_from_reads c.args.name.now (codes "leave") (omega arith) (search rules) in
    row.leave_reads c.args.name.now (texts_of c.args.words.now) c.one_number-in-leave.result c.map-in-leave.result is c.map-in-leave.ensures.cases c.one_number-in-leave.ensures

pub returns-in-announce : goal.returns-in-announce
returns-in-announce c =
    let is : c.args.name.now ≡ codes "announce" = text_from_reads c.args.name.now (codes "announce") (omega arith) (search rules) in
    rw is c.announce.ensures

pub returns-in-look : goal.returns-in-look
returns-in-look c =
    let is : c.args.name.now ≡ codes "look" = text_from_reads c.args.name.now (codes "look") (omega arith) (search rules) in
    rw is c.look.ensures

pub returns-in-check : goal.returns-in-check
returns-in-check c =
    let is : c.args.name.now ≡ codes "check" = text_from_reads c.args.name.now (codes "check") (omega arith) (search rules) in
    rw is c.check.ensures

pub returns-in-swap : goal.returns-in-swap
returns-in-swap c =
    let is : c.args.name.now ≡ codes "swap" = text_from_reads c.args.name.now (codes "swap") (omega arith) (search rules) in
    rw is c.swap.ensures

pub returns-in-fill : goal.returns-in-fill
returns-in-fill c =
    let is : c.args.name.now ≡ codes "fill" = text_from_reads c.args.name.now (codes "fill") (omega arith) (search rules) in
    rw is c.fill.ensures
