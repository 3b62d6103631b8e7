use Rattle.std.proofs.Common.{ℕ, ◌≡◌, ◌+◌, ◌<◌, ◌∷◌, ◌++◌, [], List, Bool, ◌&&◌, IsTrue, All, take, length, get_or}
use Rattle.std.proofs.lemmas.Bool.{and_parts}
use Rattle.std.proofs.lemmas.List.{flat_map_more, take_more}
use Rattle.std.proofs.lemmas.List.Elements.{All-more}
use Rattle.mh_texts.specs.Text.{escaped, escaped_char}
use Rattle.mh_texts.proofs.printed.are_plain.Goals as goal

low_more : (so_far now : Bool) (text : List ℕ) (i c : ℕ) → i < length text → c ≡ get_or text i c → (IsTrue so_far → All (λ x. x < 128) (take i text))
    → (IsTrue now → c < 128) → IsTrue (so_far && now) → All (λ x. x < 128) (take (i + 1) text)
low_more so_far now text i c within is low new both =
    let parts = and_parts so_far now both in
    All-more (λ x. x < 128) text i c within (low parts.0) (rw (← is) (new parts.1))

plain_more : (so_far now : Bool) (text : List ℕ) (i c : ℕ) → i < length text → c ≡ get_or text i c → (IsTrue so_far → escaped (take i text) ≡ take i text)
    → (IsTrue now → escaped_char c ≡ c ∷ []) → IsTrue (so_far && now) → escaped (take (i + 1) text) ≡ take (i + 1) text
plain_more so_far now text i c within is plain new both =
    let parts = and_parts so_far now both in
    let before = plain parts.0 in
    let this = new parts.1 in
    let more = take_more text i c within in
    let each = flat_map_more escaped_char [] (take i text) c in
    cc

pub loop-character-preserved : goal.loop-character-preserved
loop-character-preserved c = let l = c.loop-character in record {
  low = low_more _ _ _ _ _ c.loop-character-test.true c.character-item.is l.invariant.low c.is_plain-plain.ensures.low;
  plain = plain_more _ _ _ _ _ c.loop-character-test.true c.character-item.is l.invariant.plain c.is_plain-plain.ensures.plain;
}
