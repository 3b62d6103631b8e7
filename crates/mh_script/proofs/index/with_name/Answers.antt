use Rattle.std.proofs.Common.{◌∙◌, ap, subst, ℕ, List, Some, cond}
use Rattle.std.specs.Str.{bytes_eq}
use Rattle.mh_base.specs.TextMaps.{at_text, WritesText}
use Rattle.mh_script.specs.Index.{ByDescriptor}
use Rattle.mh_script.proofs.Nested.{found-within}
use Rattle.mh_script.proofs.index.with_name.Goals as goal

pub returns : goal.returns
returns c =
    λ n d.
    let rest = c.take_name-descriptors.new.names in
    let inner = c.in_ok-descriptors.descriptors in
    let put = subst (λ (k : List ℕ). WritesText rest c.insert.new.self k (Some inner)) c.in_ok-from_slice.ensures.items c.in_ok-insert.ensures.updates in
    found-within c.args.names rest c.insert.new.self c.args.name.now n inner (λ (m : ByDescriptor). at_text m d) (bytes_eq c.args.descriptor.now d)
    c.args.number c.take_name-descriptors.ensures.rest put
    (c.in_ok-descriptors.ensures d ∙ ap (cond (bytes_eq c.args.descriptor.now d) (Some c.args.number)) (c.take_name-descriptors.ensures.taken d))
