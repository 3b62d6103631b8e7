-- Bootstrap methods whose arguments stand in one list, one after the other.
use Rattle.std.proofs.Common.{◌≡◌, ℕ, ◌+◌, ◌≤◌, List, [], ◌∷◌, ◌++◌, length, take, drop, map, refl, ap, ◌∙◌, arith}
use Rattle.std.proofs.lemmas.List.{take-append-le, drop-append-le, length-drop}
use Rattle.mh_classfile.specs.declared.bootstraps.Span.{Span}
use Rattle.mh_classfile.specs.Rows.{Row, row_of, AreWithin}

row-kept : (arguments more : List ℕ) (s : Span) → s.start + s.count ≤ length arguments → row_of (arguments ++ more) s ≡ row_of arguments s
row-kept arguments more s le =
    let d = drop-append-le s.start arguments more (omega arith) in
    let t = take-append-le s.count (drop s.start arguments) more (omega (arith, length-drop s.start arguments)) in
    ap (λ (xs : List ℕ). row s.handle xs) (ap (take s.count) d ∙ t)
  where
    row : ℕ → List ℕ → Row
    row h xs = record { handle = h; arguments = xs }

-- What stands after the spans does not change them.
pub rows-kept : (arguments more : List ℕ) (end : ℕ) (spans : List Span) → end ≤ length arguments → AreWithin end spans →
    map (row_of (arguments ++ more)) spans ≡ map (row_of arguments) spans
rows-kept arguments more end [] le h = refl
rows-kept arguments more end (s ∷ spans) le h =
    ap (λ (r : Row). r ∷ map (row_of (arguments ++ more)) spans) (row-kept arguments more s (omega (arith, h.0))) ∙
    ap (λ (rs : List Row). row_of arguments s ∷ rs) (rows-kept arguments more end spans le h.1)

within-more : (end later : ℕ) (spans : List Span) (s : Span) → end ≤ later → AreWithin end spans → s.start + s.count ≤ later → AreWithin later (spans ++ s ∷ [])
within-more end later [] s le h k = (k, tt)
within-more end later (x ∷ spans) s le h k = (omega (arith, h.0), within-more end later spans s le h.1 k)
