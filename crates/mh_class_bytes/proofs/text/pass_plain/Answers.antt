use Rattle.std.proofs.Common.{sym, arith}
use Rattle.mh_class_bytes.proofs.SoundLen.{sound_plain}
use Rattle.mh_class_bytes.proofs.text.pass_plain.Goals as goal

pub loop-end-preserved : goal.loop-end-preserved
loop-end-preserved c = record {
  onward = omega arith;
  within = omega arith;
  passed = sym (sound_plain c.args.bytes.now c.loop-end.end _ c.loop-end-test.true c.if-bytes-end-ge1.true c.if-bytes-end-le127.true
      (sym c.loop-end.invariant.passed));
}
