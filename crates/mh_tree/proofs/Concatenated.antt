-- Concatenations have the types by which they are joined, end as these say, and keep the limits of values.
use Rattle.std.proofs.Common.{◌≡◌, sym, ap, ◌∙◌, subst, ℕ, true, ◌&&◌, List, [], Option, Some, None, Ok, nat_le, codes, le-leb}
use Rattle.std.proofs.lemmas.Bool.{and_from}
use Rattle.mh_base.specs.Provided.{provided}
use Rattle.mh_values.specs.declared.class.Class.{Class}
use Rattle.mh_values.specs.declared.types.Ty.{Ty}
use Rattle.mh_values.specs.declared.types.MethodTy.{MethodTy}
use Rattle.mh_values.specs.declared.value.Outcome.{Outcome}
use Rattle.mh_values.specs.declared.value.Outcome.TheVariants.{Return, Throw}
use Rattle.mh_values.specs.declared.value.Value.{Value}
use Rattle.mh_values.specs.Classes.{AreClasses}
use Rattle.mh_values.specs.Returns.{Returns}
use Rattle.mh_values.specs.Same.{are_same_types}
use Rattle.mh_values.specs.Slots.{slots_of_all}
use Rattle.mh_values.proofs.SameTypes.{same_types-itself}
use Rattle.mh_leaf.specs.Limits.{IsOutcomeWithinLimits, IsRunWithinLimits}
use Rattle.mh_leaf.specs.Outcome.{ran_of}
use Rattle.mh_pieces.specs.declared.piece.Piece.{Piece}
use Rattle.mh_pieces.specs.Joined.{arg_types, joined}
use Rattle.mh_pieces.specs.Recipe.{most_concat_slots, pieces_of, returns_text}
use Rattle.mh_pieces.proofs.Bounds.{joined_within}
use Rattle.mh_pieces.proofs.Returned.{joined_returns}
use Rattle.mh_pieces.proofs.Taken.{taken}
use Rattle.mh_tree.specs.Limited.{KeepsLimits}
use Rattle.mh_tree.specs.Rows.{concat_row, illegal}
use Rattle.mh_tree.specs.Sound.{IsSound}
use Rattle.mh_tree.proofs.RowParts.{concat_row-parts}

-- what a recipe is read as has the type of the call site, so that it is never refused
pub recipe-typed : (classes : List Class) (recipe : List ℕ) (constants : List Value) (t : MethodTy) (pieces : List Piece) →
    pieces_of classes recipe constants t ≡ Ok pieces →
    concat_row classes t pieces ≡ Ok t
recipe-typed classes recipe constants t pieces e =
    let q = taken classes recipe constants t pieces e in
    let same : are_same_types (arg_types pieces) t.params ≡ true = ap (λ ts. are_same_types ts t.params) q.0 ∙ same_types-itself t.params in
    let few : nat_le (slots_of_all t.params) most_concat_slots ≡ true = le-leb (slots_of_all t.params) most_concat_slots q.1 in
    ap (λ b. provided b (illegal (codes "concat")) (Ok t))
    (and_from (are_same_types (arg_types pieces) t.params && nat_le (slots_of_all t.params) most_concat_slots) (returns_text classes t.ret)
    (and_from (are_same_types (arg_types pieces) t.params) (nat_le (slots_of_all t.params) most_concat_slots) same few) q.2)

-- what pieces join to is a result of each return type that a text has
returned-text : (classes : List Class) → AreClasses classes → (pieces : List Piece) (args : List Value) (ret : Option Ty) → returns_text classes ret ≡ true →
    Returns classes (ran_of (joined classes pieces args) []) ret
returned-text classes are pieces args None h = absurd cc
returned-text classes are pieces args (Some t) h = joined_returns classes are pieces args t [] h

pub concat-sound : (classes : List Class) → AreClasses classes → (asked : MethodTy) (pieces : List Piece) (u : MethodTy) →
    concat_row classes asked pieces ≡ Ok u → IsSound classes (λ args n. ran_of (joined classes pieces args) []) u
concat-sound classes are asked pieces u typed =
    let q = concat_row-parts classes asked pieces u typed in
    subst (IsSound classes (λ args n. ran_of (joined classes pieces args) [])) (sym q.3)
    (λ args n have. returned-text classes are pieces args asked.ret q.2)

outcome-limits : (outcome : Outcome) → IsOutcomeWithinLimits outcome → IsRunWithinLimits (ran_of outcome [])
outcome-limits (Return r) h = (h, tt)
outcome-limits (Throw e) h = tt

pub concat-keeps : (classes : List Class) (pieces : List Piece) → KeepsLimits (λ args n. ran_of (joined classes pieces args) [])
concat-keeps classes pieces args n have = outcome-limits (joined classes pieces args) (joined_within classes pieces args)
