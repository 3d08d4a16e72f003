use Rattle.std.proofs.Common.{◌≡◌, [], ◌∷◌, arith, codes, map, rules, string_bytes}
use Rattle.call_times.proofs.Words.{two_items}
use Rattle.call_times.proofs.request.asked.Goals as goal

pub returns-in_ok-threads_of-in-len2-clause-placing : goal.returns-in_ok-threads_of-in-len2-clause-placing
returns-in_ok-threads_of-in-len2-clause-placing c =
    let two : map string_bytes c.args.words.now
    ≡ string_bytes c.option-item.result ∷ string_bytes c.threads-item-then-words-lt3.result ∷ [] =
    two_items string_bytes c.args.words.now c.option-item.result
    c.threads-item-then-words-lt3.result
    (omega arith) (omega arith) c.option-item.is c.threads-item-then-words-lt3.is in
    let said : c.as_str.result.now ≡ codes "--neighbours" = search rules in
    (string_bytes c.threads-item-then-words-lt3.result, cc (two, said))
