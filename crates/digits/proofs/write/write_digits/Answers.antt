-- `write_digits` meets its contract: each turn puts the digits of one more byte.
use Rattle.std.proofs.Common.{refl, arith}
use Rattle.digits.specs.Digits.{digits_of}
use Rattle.digits.proofs.LoopLaws.{write_more}
use Rattle.digits.proofs.SliceLaws.{no_room, written_all}
use Rattle.digits.proofs.write.write_digits.Goals as goal

pub returns-then-buffer-bytes-clause-answer : goal.returns-then-buffer-bytes-clause-answer
returns-then-buffer-bytes-clause-answer c = (no_room c.args.bytes.now c.args.buffer.now (omega arith)).0

pub returns-then-buffer-bytes-clause-digits : goal.returns-then-buffer-bytes-clause-digits
returns-then-buffer-bytes-clause-digits c = (no_room c.args.bytes.now c.args.buffer.now (omega arith)).1

pub loop-i-init : goal.loop-i-init
unfolding digits_of
loop-i-init c = refl

pub loop-i-preserved : goal.loop-i-preserved
loop-i-preserved c =
    rw c.loop-i.invariant
    (write_more c.args.bytes.now c.args.buffer.now c.loop-i.i c.high_digit.result c.low_digit.result (omega arith) (omega arith) c.high_digit.ensures c.low_digit.ensures)

pub returns-clause-answer : goal.returns-clause-answer
returns-clause-answer c = (written_all c.args.bytes.now c.args.buffer.now c.loop-i.i c.loop-i.buffer (omega arith) (omega arith) c.loop-i.invariant).0

pub returns-clause-digits : goal.returns-clause-digits
returns-clause-digits c = (written_all c.args.bytes.now c.args.buffer.now c.loop-i.i c.loop-i.buffer (omega arith) (omega arith) c.loop-i.invariant).1
