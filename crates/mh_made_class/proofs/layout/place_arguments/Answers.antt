use Rattle.std.proofs.Common.{◌<◌, length, arith}
use Rattle.mh_made_class.specs.Sites.{IsMakeableArgument, argument_width}
use Rattle.mh_made_class.proofs.Placing.{arguments_next, arguments_end, all_split, sum_split}
use Rattle.mh_made_class.proofs.layout.place_arguments.Goals as goal

pub loop-arg-preserved : goal.loop-arg-preserved
loop-arg-preserved c =
    let args = c.args.args.now in
    let i = c.loop-arg.arg-index in
    let arg = c.arg-item.result in
    let within : i < length args = c.loop-arg-test.true in
    let so_far = c.loop-arg.invariant in
    record {
      put = arguments_next c.loop-arg.next c.width-next.result args i arg _ _ _ within c.arg-item.is c.width-next.ensures c.in_ok-push.ensures.items so_far.put;
      makeable = (all_split IsMakeableArgument args i arg within c.arg-item.is so_far.makeable).1;
      fits = omega (arith, so_far.fits, c.width-next.ensures, sum_split argument_width args i arg within c.arg-item.is);
    }

pub returns : goal.returns
returns c = arguments_end c.loop-arg.next c.args.args.now c.loop-arg.arg-index _ _ c.loop-arg-test.false c.loop-arg.invariant.put
