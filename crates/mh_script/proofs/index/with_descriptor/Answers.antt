use Rattle.std.proofs.Common.{◌∙◌, ap, ℕ, List, Some, cond}
use Rattle.std.specs.Str.{bytes_eq}
use Rattle.mh_base.specs.TextMaps.{at_text}
use Rattle.mh_script.proofs.Nested.{at_text-written}
use Rattle.mh_script.proofs.index.with_descriptor.Goals as goal

pub returns : goal.returns
returns c =
    λ d. at_text-written c.args.descriptors c.insert.new.self c.in_ok-from_slice.field-0.items d (Some c.args.number) c.in_ok-insert.ensures.updates
    ∙ ap (λ (k : List ℕ). cond (bytes_eq k d) (Some c.args.number) (at_text c.args.descriptors d)) c.in_ok-from_slice.ensures.items
