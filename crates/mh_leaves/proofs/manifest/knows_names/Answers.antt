use Rattle.std.proofs.Common.{◌∙◌, sym, ap, ℕ, List, Bor}
use Rattle.std.proofs.lemmas.List.Folds.{list_all-map}
use Rattle.std.specs.List.{list_all}
use Rattle.mh_leaves.specs.Manifest.{knows_name}
use Rattle.mh_leaves.proofs.manifest.knows_names.Goals as goal

pub returns : goal.returns
returns c =
    let test = knows_name c.args.classes.now in
    c.knows_each.ensures ∙ ap (list_all (λ (piece : Bor (List ℕ)). test piece.now)) c.deref.ensures.value
    ∙ sym (list_all-map test (λ (piece : Bor (List ℕ)). piece.now) c.in_ok-pieces.pieces.items) ∙ ap (list_all test) c.in_ok-pieces.ensures.pieces
