-- What pieces join to is within the limits of values.
use Rattle.std.proofs.Common.{◌≡◌, refl, ℕ, ◌≤◌, Bool, true, false, cond, List, length, codes, leb-true}
use Rattle.mh_values.specs.declared.class.Class.{Class}
use Rattle.mh_values.specs.declared.value.Exc.{Exc}
use Rattle.mh_values.specs.declared.value.Outcome.TheVariants.{Throw}
use Rattle.mh_values.specs.declared.value.Value.{Value}
use Rattle.mh_values.specs.declared.value.Value.TheVariants as value
use Rattle.mh_values.specs.Class.{internal_error_class}
use Rattle.mh_values.specs.Exception.{saying}
use Rattle.mh_values.specs.ValueLimits.{is_short_text, most_characters}
use Rattle.mh_leaf.specs.Limits.{IsOutcomeWithinLimits}
use Rattle.mh_leaf.specs.Outcome.{returned}
use Rattle.mh_pieces.specs.declared.piece.Piece.{Piece}
use Rattle.mh_pieces.specs.Joined.{joined, joined_text}

chosen : (b : Bool) (s : List ℕ) (e : Exc) → (b ≡ true → length s ≤ most_characters) → IsOutcomeWithinLimits (cond b (returned (value.Text s)) (Throw e))
chosen true s e h = h refl
chosen false s e h = tt

pub joined_within : (classes : List Class) (pieces : List Piece) (args : List Value) → IsOutcomeWithinLimits (joined classes pieces args)
joined_within classes pieces args =
    let s = joined_text classes pieces args in
    chosen (is_short_text s) s (saying internal_error_class (codes "string too long")) (leb-true (length s) most_characters)
