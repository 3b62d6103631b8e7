-- What pieces join to is a value of each type that a text has, or an exception.
use Rattle.std.proofs.Common.{◌≡◌, refl, ℕ, Bool, true, false, cond, List, Some, codes}
use Rattle.std.proofs.lemmas.Bool.{and_from}
use Rattle.mh_values.specs.declared.calls.LeafCall.{LeafCall}
use Rattle.mh_values.specs.declared.class.Class.{Class}
use Rattle.mh_values.specs.declared.types.Ty.{Ty}
use Rattle.mh_values.specs.declared.types.Ty.TheVariants as ty
use Rattle.mh_values.specs.declared.value.Outcome.TheVariants.{Throw}
use Rattle.mh_values.specs.declared.value.Value.{Value}
use Rattle.mh_values.specs.declared.value.Value.TheVariants as value
use Rattle.mh_values.specs.Class.{internal_error_class, is_subclass, string_class, throwable_class}
use Rattle.mh_values.specs.Classes.{AreClasses}
use Rattle.mh_values.specs.Exception.{saying}
use Rattle.mh_values.specs.HasType.{has_type, is_type_below}
use Rattle.mh_values.specs.Returns.{Returns}
use Rattle.mh_values.specs.ValueLimits.{is_short_text}
use Rattle.mh_values.proofs.BelowTypes.{internal_error-below}
use Rattle.mh_leaf.specs.Outcome.{ran_of, returned, string_type}
use Rattle.mh_pieces.specs.declared.piece.Piece.{Piece}
use Rattle.mh_pieces.specs.Joined.{joined, joined_text}

-- a text that is not too long has each type above String
text-typed : (classes : List Class) (t : Ty) (s : List ℕ) → is_type_below classes string_type t ≡ true → is_short_text s ≡ true →
    has_type classes (value.Text s) t ≡ true
text-typed classes (ty.Class d) s below short = and_from (is_subclass classes string_class d) (is_short_text s) below short
text-typed classes (ty.Prim p) s below short = absurd cc
text-typed classes (ty.Array c) s below short = absurd cc

chosen-returns : (classes : List Class) (b : Bool) (t : Ty) (s : List ℕ) (calls : List LeafCall) → (b ≡ true → has_type classes (value.Text s) t ≡ true) →
    is_subclass classes internal_error_class throwable_class ≡ true →
    Returns classes (ran_of (cond b (returned (value.Text s)) (Throw (saying internal_error_class (codes "string too long")))) calls) (Some t)
chosen-returns classes true t s calls typed below = typed refl
chosen-returns classes false t s calls typed below = below

pub joined_returns : (classes : List Class) → AreClasses classes → (pieces : List Piece) (args : List Value) (t : Ty) (calls : List LeafCall) →
    is_type_below classes string_type t ≡ true → Returns classes (ran_of (joined classes pieces args) calls) (Some t)
joined_returns classes are pieces args t calls below =
    let s = joined_text classes pieces args in
    chosen-returns classes (is_short_text s) t s calls (text-typed classes t s below) (internal_error-below classes are)
