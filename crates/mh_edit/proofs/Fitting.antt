-- What a key that fits says of positions.
use Rattle.std.proofs.Common.{◌≡◌, refl, Bool, true, false, ◌&&◌, Option, Some, None, ℕ, ◌+◌, ◌<◌, ◌≤◌, List, length, arith}
use Rattle.std.specs.Prelude.{IsTrue, nat_le, nat_lt, ◌==◌, slice_get}
use Rattle.std.specs.Option.{option_map_or}
use Rattle.std.proofs.lemmas.Bool.{eqb-true, leb-true, ltb-true}
use Rattle.std.proofs.lemmas.Option.{slice_get_within}
use Rattle.mh_form.specs.declared.basic.Basic.{Basic}
use Rattle.mh_form.specs.declared.basic.BasicRet.{BasicRet}
use Rattle.mh_form.specs.declared.basic.BasicRet.TheVariants.{V, Is}
use Rattle.mh_edit.specs.Fit.{ends_with, is_basic_at, is_same_basic, taken_by, takes_result}

pub first-true : (a b : Bool) → IsTrue (a && b) → IsTrue a
first-true true b h = refl
first-true false b h = h

pub second-true : (a b : Bool) → IsTrue (a && b) → IsTrue b
second-true true b h = h
second-true false b h = absurd cc

pub at-most : (a b : ℕ) → IsTrue (nat_le a b) → a ≤ b
at-most a b h = leb-true a b h

pub below : (a b : ℕ) → IsTrue (nat_lt a b) → a < b
below a b h = ltb-true a b h

pub same-number : (a b : ℕ) → IsTrue (a == b) → a ≡ b
same-number a b h = eqb-true a b h

inside : (params : List Basic) (place : ℕ) (b : Basic) (o : Option Basic) → slice_get params place ≡ o → IsTrue (option_map_or (is_same_basic b) o false) →
    place < length params
inside params place b None is h = absurd cc
inside params place b (Some c) is h = slice_get_within params place c is

pub is-parameter : (params : List Basic) (place : ℕ) (b : Basic) → IsTrue (is_basic_at params place b) → place < length params
is-parameter params place b h = inside params place b (slice_get params place) refl h

pub takes-result : (params : List Basic) (pos : ℕ) (ret : BasicRet) → IsTrue (takes_result params pos ret) → pos + taken_by ret ≤ length params
takes-result params pos V h = let k = at-most pos (length params) h in omega arith
takes-result params pos (Is b) h = let k = is-parameter params pos b h in omega arith

pub has-last : (params : List Basic) (count : ℕ) (b : Basic) → IsTrue (ends_with params count b) → count ≤ length params
has-last params count b h = at-most count (length params) (first-true (nat_le count (length params)) _ h)
