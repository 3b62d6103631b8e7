use Rattle.std.proofs.Common.{◌≡◌, ℕ, List, [], ◌∷◌, slice_index, sym, ap, ◌∙◌}
use mathlib.Core.Option.{some, some-injective, some-ne-none}
use lib.ListN.{get_elem?}
use Rattle.mh_tickets.proofs.Keeps.{ends}
use Rattle.mh_tickets.proofs.steps.last.Goals as goal

first_word : (ws : List ℕ) (r : ℕ) → get_elem? ws 0 ≡ some r → slice_index ws 0 ≡ r
first_word [] r e = absurd (some-ne-none r (sym e))
first_word (x ∷ xs) r e = some-injective x r e

pub returns : goal.returns
returns c =
    let f = c.close_with-closed.ensures.values.2 in
    let e = ends f.0 f.1.0 _ _ f.1.1 c.requires.whole in
    record {
      last = sym (first_word _ _ c.word-last.ensures) ∙ (ap (λ (w : List ℕ). slice_index w 0) (sym f.2) ∙ e.0);
      each_once = e.1;
    }
