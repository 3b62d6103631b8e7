use Rattle.std.proofs.Common.{◌≡◌, ◌+◌, ◌++◌, map, drop, Ok}
use Rattle.mh_values.specs.Descriptor.{bytes_of, found_then, types_meant}
use Rattle.mh_values.proofs.descriptor.types_of.Given as goal

abbrev pub invariant-loop-text : goal.invariant-loop-text
invariant-loop-text l = record {
  place : l.at + bytes_of (map (λ x. x.now) (drop l.text-index l.texts)) ≡ l.fn.start + bytes_of (map (λ x. x.now) l.texts);
  meant : types_meant l.classes l.fn.start (map (λ x. x.now) l.texts) ≡ found_then (types_meant l.classes l.at (map (λ x. x.now) (drop l.text-index l.texts)))
      (λ ts. Ok (l.found ++ ts));
}
