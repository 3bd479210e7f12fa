use Rattle.std.proofs.lemmas.Grind.{common_steps}
use Rattle.std.proofs.Common.{arith, rules}
use Rattle.device_text.proofs.Numbers.{room_at, digits_on, value_on, value_below}
use Rattle.device_text.proofs.digits.number.Goals as goal

pub overflow_mul-value : goal.overflow_mul-value
overflow_mul-value c =
    let all = room_at c.args.base c.args.most c.loop-byte.value 0 c.from-in-loop-byte.result c.loop-byte.byte-index
    c.args.text.now c.requires.low c.requires.fits (omega arith) c.loop-byte-test.true c.loop-byte.invariant.digits
    c.loop-byte.invariant.value (omega arith) (search rules) in
    omega (arith, all)

pub overflow_add-value : goal.overflow_add-value
overflow_add-value c =
    let all = room_at c.args.base c.args.most c.loop-byte.value c.from-in-loop-byte-2.result c.from-in-loop-byte.result
    c.loop-byte.byte-index c.args.text.now c.requires.low c.requires.fits (omega arith) c.loop-byte-test.true
    c.loop-byte.invariant.digits c.loop-byte.invariant.value (omega (arith, c.in_ok-digit.ensures.value))
    (search rules) in
    omega (arith, all)

pub loop-byte-preserved : goal.loop-byte-preserved
loop-byte-preserved c =
    let e = c.in_ok-digit.ensures.value in
    record {
      digits = digits_on c.args.base c.loop-byte.byte-index c.from.result c.args.text.now c.loop-byte-test.true
          c.loop-byte.invariant.digits (search rules) e.0;
      value = value_on c.args.base c.loop-byte.byte-index c.loop-byte.value c.from.result c.from-in-loop-byte.result
          c.from-in-loop-byte-2.result c.args.text.now c.loop-byte-test.true c.loop-byte.invariant.value (search rules)
          (search rules) (search rules);
    }

pub returns-clause-below : goal.returns-clause-below
returns-clause-below c =
    grind (
      arith,
      common_steps,
      value_below,
      c.requires.low,
      c.loop-byte.invariant.digits,
      c.loop-byte.invariant.value,
    )
