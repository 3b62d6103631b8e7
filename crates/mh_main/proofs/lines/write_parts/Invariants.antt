use Rattle.std.proofs.Common.{◌≡◌, take, ℕ}
use Rattle.std.specs.List.{flat_map}
use Rattle.std.specs.Io.KnownBytes.{Appends}
use Rattle.std.specs.declared.alloc.Global.{Global}
use Rattle.std.specs.declared.vec.Vec.{Vec}
use Rattle.mh_main.proofs.lines.write_parts.Given as goal

abbrev pub invariant-loop-at : goal.invariant-loop-at
invariant-loop-at g l = record {
  written : Appends (g.S.Sink.taken l.initial.sink) (g.S.Sink.taken l.sink) (flat_map (λ (p : Vec ℕ Global). p.items) (take l.at l.parts));
  no_fault : g.S.Sink.faults l.sink ≡ g.S.Sink.faults l.initial.sink;
}
