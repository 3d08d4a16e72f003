use Rattle.std.proofs.Common.{◌≡◌, ◌+◌, ◌++◌, [], ◌∷◌, sym, ap, ◌∙◌, arith, append_assoc}
use Rattle.std.specs.List.{flat_map, range_with_len}
use Rattle.cdrc_text.specs.Generated.{after_word, draw, drawn_part, drawn_word, next_draw}
use Rattle.cdrc_text.proofs.Drawing.{drawn_first, drawn_next, drawn_all, drawn_more}
use Rattle.cdrc_text.proofs.generated.generate.Goals as goal

pub loop-before-init : goal.loop-before-init
loop-before-init c = record { drawn = sym (drawn_first c.args.seed); written = c.in_ok-text.ensures.items }

pub loop-before-preserved : goal.loop-before-preserved
loop-before-preserved c =
    let seed = c.args.seed in
    let many = c.args.words in
    let vocabulary = c.args.vocabulary in
    let k = c.loop-before.before in
    let first = flat_map (drawn_part seed many vocabulary) (range_with_len 1 k) in
    let drawn : c.next_of-drawn.result ≡ draw seed (k + 1)
    = c.next_of-drawn.ensures ∙ ap next_draw c.loop-before.invariant.drawn ∙ sym (drawn_next seed k) in
    let word = drawn_word vocabulary (draw seed (k + 1)) in
    let pushed : c.push_drawn.new.text.items ≡ first ++ word
    = c.in_ok-push_drawn.ensures
    ∙ ap (λ text. text ++ drawn_word vocabulary c.next_of-drawn.result) c.loop-before.invariant.written
    ∙ ap (λ x. first ++ drawn_word vocabulary x) drawn in
    record {
      drawn = drawn;
      written = c.in_ok-push.ensures.items
          ∙ ap (λ text. text ++ c.follower.result ∷ []) pushed
          ∙ ap (λ end. (first ++ word) ++ end) c.follower.ensures
          ∙ append_assoc first word (after_word many (k + 1))
          ∙ sym (drawn_more seed many vocabulary k);
    }

pub returns : goal.returns
returns c = c.loop-before.invariant.written
    ∙ drawn_all c.args.seed c.args.words c.args.vocabulary c.loop-before.before (omega arith)
