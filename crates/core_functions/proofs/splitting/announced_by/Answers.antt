use Rattle.std.proofs.Common.{◌≡◌, ◌+◌, ◌<◌, ◌++◌, ◌∷◌, [], ◌∙◌, ap, sym, length, length-take, take, arith, ℕ, List, get_or}
use Rattle.std.proofs.lemmas.List.{take_all, take_more}
use Rattle.eject_scan.specs.Seen.{announced, noted, total, with_word, Noted}
use Rattle.eject_scan.specs.declared.seen.Row.{Row}
use Rattle.eject_scan.proofs.Announcements.{announced_alike, fewer, noted_more}
use Rattle.core_functions.proofs.splitting.announced_by.Goals as goal

-- there is room for one more than the words read so far
has_room : (all : List Row) (seen : List ℕ) (i room : ℕ) → all ≡ noted (take i seen)
    → room ≡ length seen + 1 → total all < room
has_room all seen i room is same =
    let f = fewer (take i seen) in
    let t = length-take i seen in
    let l = ap total is in omega arith

-- a word more is noted
one_more : (all : List Row) (seen : List ℕ) (i d : ℕ) → all ≡ noted (take i seen)
    → i < length seen → with_word (get_or seen i d) all ≡ noted (take (i + 1) seen)
one_more all seen i d is lt =
    ap (with_word (get_or seen i d)) is
    ∙ sym (ap noted (take_more seen i d lt) ∙ noted_more (take i seen) (get_or seen i d))

pub note-requires : goal.note-requires
note-requires c =
    has_room _ c.args.seen.now _ _ c.loop-word.invariant.0 c.loop-word.invariant.1

pub note-requires-2 : goal.note-requires-2
note-requires-2 c =
    has_room _ c.args.seen.now _ _ c.loop-word.invariant.0 c.loop-word.invariant.1

pub loop-word-preserved : goal.loop-word-preserved
loop-word-preserved c = (
  ap (λ (n : Noted). n.rows) c.note.ensures
      ∙ one_more _ c.args.seen.now c.loop-word.word-index _ c.loop-word.invariant.0 c.loop-word-test.true,
  ap (λ (n : Noted). n.room) c.note.ensures ∙ c.loop-word.invariant.1,
)

pub returns : goal.returns
returns c =
    let whole = take_all c.loop-word.word-index c.args.seen.now c.loop-word-test.false in
    ap announced
    (ap (λ (n : Noted). n.rows) c.note-2.ensures
    ∙ (ap (with_word c.args.last) (c.loop-word.invariant.0 ∙ ap noted whole)
    ∙ sym (noted_more c.args.seen.now c.args.last)))
    ∙ announced_alike (c.args.seen.now ++ c.args.last ∷ [])
