use Rattle.std.proofs.Common.{arith, sym}
use Rattle.front_certificate.proofs.WordReading.{digits-more}
use Rattle.front_certificate.proofs.words.digits.Goals as goal

pub loop-end-preserved : goal.loop-end-preserved
loop-end-preserved c = record {
  within = omega arith;
  digits = digits-more c.args.bytes.now c.loop-end.end (omega arith) c.loop-end.invariant.digits (sym c.if-is_ascii_digit.ensures.value);
}
