use Rattle.std.proofs.Common.{◌∙◌, sym, ℕ, List, Bor}
use Rattle.std.proofs.lemmas.List.Folds.{list_all-map}
use Rattle.mh_base.specs.Lines.{is_full}
use Rattle.mh_script.proofs.reading.are_full.Goals as goal

pub returns : goal.returns
returns c = c.each_is_full.ensures ∙ sym (list_all-map is_full (λ (token : Bor (List ℕ)). token.now) c.args.tokens.now)
