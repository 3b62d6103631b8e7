-- What a manifest registers are classes and leaves of its lines.
use Rattle.std.proofs.Common.{◌≡◌, subst, ℕ, ◌+◌, true, false, List, [], ◌∷◌, Ok, if◌then◌else◌}
use Rattle.mh_base.specs.Lines.{is_passed, tokens_of, built_from}
use Rattle.mh_base.proofs.Inversion.{ok_is}
use Rattle.mh_leaf.specs.LeafTable.{LeafTable}
use Rattle.mh_leaves.specs.declared.manifest.ManifestKind.TheVariants.{BadLine}
use Rattle.mh_leaves.specs.Manifest.{leaf_line, is_virtual_word, tokens_meaning, line_meaning}
use Rattle.mh_leaves.specs.Reference.{Texts}
use Rattle.mh_leaves.specs.Registered.{nothing_registered}
use Rattle.mh_base.proofs.Conditions.{after_line-parts, passes_some}
use Rattle.mh_leaves.proofs.LineParts.{line_plain}
use Rattle.mh_base.proofs.LineTokens.{AreTokens, tokens_are}
use Rattle.mh_leaves.proofs.TakenLines.{IsRead, nothing-read, three-read, leaf_line-read}

tokens-read : (table next : LeafTable) (tokens : List (List ℕ)) → AreTokens tokens → IsRead table → tokens_meaning table tokens ≡ Ok next → IsRead next
tokens-read table next [] are old h = absurd cc
tokens-read table next (a ∷ []) are old h = absurd cc
tokens-read table next (a ∷ b ∷ []) are old h = absurd cc
tokens-read table next (a ∷ b ∷ c ∷ []) are old h = three-read table next a b c are.1 old h
tokens-read table next (a ∷ b ∷ c ∷ d ∷ []) are old h = absurd cc
tokens-read table next (a ∷ b ∷ c ∷ d ∷ e ∷ []) are old h =
    let texts : Texts = record { owner = b; name = c; descriptor = d } in
    let way = passes_some (is_virtual_word a) BadLine (λ is_virtual. leaf_line table is_virtual texts e) (Ok next) (λ k. cc) h in
    leaf_line-read table next way.0 texts e are.1 old way.2
tokens-read table next (a ∷ b ∷ c ∷ d ∷ e ∷ f ∷ rest) are old h = absurd cc

line-read : (table next : LeafTable) (line : List ℕ) → IsRead table → line_meaning table line ≡ Ok next → IsRead next
line-read table next line old h =
    let plain = line_plain table line (Ok next) (λ e. cc) h in
    elim (is_passed line) as (λ b. (if b then Ok table else tokens_meaning table (tokens_of line)) ≡ Ok next → IsRead next) [
      | true ↦ λ k. subst IsRead (ok_is table next k) old
      | false ↦ λ k. tokens-read table next (tokens_of line) (tokens_are line plain.0) old k
    ] plain.1

lines-read : (n : ℕ) (start table : LeafTable) (lines : List (List ℕ)) → IsRead start → built_from line_meaning n start lines ≡ Ok table → IsRead table
lines-read n start table [] old h = let same : start ≡ table = cc in subst IsRead same old
lines-read n start table (line ∷ lines) old h =
    let first = after_line-parts n (line_meaning start line) (λ next. built_from line_meaning (n + 1) next lines) table h in
    lines-read (n + 1) first.0 table lines (line-read start first.0 line old first.1) first.2

-- what a manifest registers
pub manifest-read : (table : LeafTable) (lines : List (List ℕ)) → built_from line_meaning 1 nothing_registered lines ≡ Ok table → IsRead table
manifest-read table lines h = lines-read 1 nothing_registered table lines nothing-read h
