use Rattle.std.proofs.Common.{◌∙◌, ◌&&◌, ap, subst, Bool, ℕ, List, Some, cond}
use Rattle.std.specs.Str.{bytes_eq}
use Rattle.mh_base.specs.TextMaps.{WritesText}
use Rattle.mh_script.specs.Index.{ByName, named_at}
use Rattle.mh_script.proofs.Nested.{found-within, known-within}
use Rattle.mh_script.proofs.index.with_owner.Goals as goal

pub returns-clause-found : goal.returns-clause-found
returns-clause-found c =
    λ o n d.
    let texts = c.args.texts in
    let rest = c.take_owner-names.new.owners in
    let inner = c.in_ok-names.names in
    let test : Bool = bytes_eq texts.name.now n && bytes_eq texts.descriptor.now d in
    let put = subst (λ (k : List ℕ). WritesText rest c.insert.new.self k (Some inner)) c.in_ok-from_slice.ensures.items c.in_ok-insert.ensures.updates in
    found-within c.args.owners rest c.insert.new.self texts.owner.now o inner (λ (m : ByName). named_at m n d) test c.args.number
    c.take_owner-names.ensures.rest put
    (c.in_ok-names.ensures n d ∙ ap (cond test (Some c.args.number)) (c.take_owner-names.ensures.taken n d))

pub returns-clause-owners : goal.returns-clause-owners
returns-clause-owners c =
    λ o.
    let rest = c.take_owner-names.new.owners in
    let inner = c.in_ok-names.names in
    let put = subst (λ (k : List ℕ). WritesText rest c.insert.new.self k (Some inner)) c.in_ok-from_slice.ensures.items c.in_ok-insert.ensures.updates in
    known-within c.args.owners rest c.insert.new.self c.args.texts.owner.now o inner c.take_owner-names.ensures.rest put
