-- Static arguments that are all resolved, by their parts.
use Rattle.std.proofs.Common.{◌≡◌, sym, ◌∙◌, ap, ℕ, zero, suc, List, [], ◌∷◌, Option, None, Some, Ok, Err}
use Rattle.std.specs.Prelude.{ok_or, slice_get}
use Rattle.mh_values.specs.declared.value.Exc.{Exc}
use Rattle.mh_values.specs.declared.value.Value.{Value}
use Rattle.mh_jobs.specs.declared.job.Argument.{Argument}
use Rattle.mh_jobs.specs.declared.job.Argument.TheVariants as argument
use Rattle.mh_jobs.specs.declared.unresolved.Part.{Part}
use Rattle.mh_jobs.specs.declared.unresolved.Part.TheVariants.{Known, Constant}
use Rattle.mh_jobs.specs.Thrown.{OrThrown, ◌>>=◌}
use Rattle.mh_jobs.proofs.Parts.{bound-parts}
use Rattle.mh_link.specs.ConstScripts.{value_argument}
use Rattle.mh_link.specs.Operands.{no_argument}
use Rattle.mh_jobs.specs.Given.{Found}
use Rattle.mh_link.specs.Resolved.{resolved_parts, taken}
use Rattle.mh_condy.specs.Lines.{argument_at}

-- what a part gives: itself, or the value of its constant
abbrev pub GivesAt : Found → List Argument → ℕ → Option Part → Type 0
GivesAt found given n None = slice_get given n ≡ None
GivesAt found given n (Some (Known a)) = slice_get given n ≡ Some a
GivesAt found given n (Some (Constant c)) = (v : Value) × (found c ≡ Some (Ok v)) × (slice_get given n ≡ Some (argument.Value v))

taken-is : (o : Option (OrThrown Value)) (v : Value) → taken o ≡ Ok v → o ≡ Some (Ok v)
taken-is None v e = absurd cc
taken-is (Some r) v e = ap (λ x. Some x) e

-- the front of a list that is given, and its rest
front-is : (a : Argument) (rest given : List Argument) → ◌≡◌ {A = OrThrown (List Argument)} (Ok (a ∷ rest)) (Ok given) → a ∷ rest ≡ given
front-is a rest given e = cc

later : (found : Found) (o : Option Part) (a : Argument) (rest given : List Argument) (n : ℕ) → a ∷ rest ≡ given → GivesAt found rest n o →
    GivesAt found given (suc n) o
later found None a rest given n is h = ap (λ xs. slice_get xs (suc n)) (sym is) ∙ h
later found (Some (Known b)) a rest given n is h = ap (λ xs. slice_get xs (suc n)) (sym is) ∙ h
later found (Some (Constant c)) a rest given n is h = (h.0, h.1, ap (λ xs. slice_get xs (suc n)) (sym is) ∙ h.2)

pub gives-at : (found : Found) (thrown : Option Exc) (parts : List Part) (given : List Argument) → resolved_parts found thrown parts ≡ Ok given → (n : ℕ) →
    GivesAt found given n (slice_get parts n)
gives-at found None [] given e n = let none : [] ≡ given = cc in ap (λ xs. slice_get xs n) (sym none)
gives-at found (Some x) [] given e n = absurd cc
gives-at found thrown (Known a ∷ parts) given e zero =
    let b = bound-parts (resolved_parts found thrown parts) (λ others. Ok (a ∷ others)) given e in
    ap (λ xs. slice_get xs zero) (sym (front-is a b.0 given b.2))
gives-at found thrown (Constant c ∷ parts) given e zero =
    let v = bound-parts (taken (found c)) (λ v. resolved_parts found thrown parts >>= (λ others. Ok (argument.Value v ∷ others))) given e in
    let b = bound-parts (resolved_parts found thrown parts) (λ others. Ok (argument.Value v.0 ∷ others)) given v.2 in
    (v.0, taken-is (found c) v.0 v.1, ap (λ xs. slice_get xs zero) (sym (front-is (argument.Value v.0) b.0 given b.2)))
gives-at found thrown (Known a ∷ parts) given e (suc n) =
    let b = bound-parts (resolved_parts found thrown parts) (λ others. Ok (a ∷ others)) given e in
    later found (slice_get parts n) a b.0 given n (front-is a b.0 given b.2) (gives-at found thrown parts b.0 b.1 n)
gives-at found thrown (Constant c ∷ parts) given e (suc n) =
    let v = bound-parts (taken (found c)) (λ v. resolved_parts found thrown parts >>= (λ others. Ok (argument.Value v ∷ others))) given e in
    let b = bound-parts (resolved_parts found thrown parts) (λ others. Ok (argument.Value v.0 ∷ others)) given v.2 in
    later found (slice_get parts n) (argument.Value v.0) b.0 given n (front-is (argument.Value v.0) b.0 given b.2) (gives-at found thrown parts b.0 b.1 n)

-- so the static argument of a number
pub argument-none : (given : List Argument) (n : ℕ) → slice_get given n ≡ None → argument_at given n ≡ Err no_argument
argument-none given n none = ap (λ o. ok_or o no_argument >>= value_argument) none

pub argument-known : (given : List Argument) (n : ℕ) (a : Argument) → slice_get given n ≡ Some a → argument_at given n ≡ value_argument a
argument-known given n a at = ap (λ o. ok_or o no_argument >>= value_argument) at
