use Rattle.std.proofs.Common.{refl, subst, arith}
use Rattle.std.specs.Prelude.{slice_index_or}
use Rattle.std.specs.Fork.{ChangesAt}
use Rattle.mh_threads.proofs.beside.call_beside.Goals as goal

pub returns : goal.returns
returns g c = λ i d within. (
  refl,
  subst (λ place. ChangesAt g.F.Fn c.args.f.now place (slice_index_or c.args.lanes.now i d) (slice_index_or c.start_from.new.lanes i d)) (omega arith)
      (c.start_from.ensures.each i d within),
)
