use Rattle.std.proofs.Common.{◌≡◌, ◌<◌, ◌+◌, ◌-◌, ◌*◌, ◌^◌, length, arith, subst, ℕ}
use Rattle.plain_state.proofs.Records.{word_more, byte_below, eight_fit}
use Rattle.plain_state.proofs.record.packed.Goals as goal

pub overflow_mul-word : goal.overflow_mul-word
overflow_mul-word c =
    let i = c.loop-rest.invariant in
    let n = length c.args.bytes.now - c.loop-rest.rest in
    let h : c.loop-rest.word * 256 + 0 < 256 ^ (n + 1) = byte_below c.loop-rest.word 0 n i.fits (omega arith) in
    omega (arith, eight_fit (c.loop-rest.word * 256 + 0) (n + 1) (omega arith) h)

pub overflow_add-word : goal.overflow_add-word
overflow_add-word c =
    let i = c.loop-rest.invariant in
    let n = length c.args.bytes.now - c.loop-rest.rest in
    let small : c.from.result < 256 = omega (arith, c.type_inv.bytes (c.loop-rest.rest - 1), c.from.ensures) in
    let h : c.loop-rest.word * 256 + c.from.result < 256 ^ (n + 1) = byte_below c.loop-rest.word c.from.result n i.fits small in
    omega (arith, eight_fit (c.loop-rest.word * 256 + c.from.result) (n + 1) (omega arith) h)

pub loop-rest-preserved : goal.loop-rest-preserved
loop-rest-preserved c =
    let i = c.loop-rest.invariant in
    let n = length c.args.bytes.now - c.loop-rest.rest in
    let small : c.from.result < 256 = omega (arith, c.type_inv.bytes (c.loop-rest.rest - 1), c.from.ensures) in
    let e : n + 1 ≡ length c.args.bytes.now - (c.loop-rest.rest - 1) = omega arith in
    record {
      within = omega arith;
      word = omega (arith, word_more c.args.bytes.now (c.loop-rest.rest - 1) c.loop-rest.rest (omega arith) (omega arith), i.word, c.from.ensures);
      fits = subst (λ (k : ℕ). c.loop-rest.word * 256 + c.from.result < 256 ^ k) e (byte_below c.loop-rest.word c.from.result n i.fits small);
    }
