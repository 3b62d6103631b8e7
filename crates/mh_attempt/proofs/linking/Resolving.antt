-- Static arguments that are resolved one after the other.
use Rattle.std.proofs.Common.{◌≡◌, refl, sym, ◌∙◌, ap, ℕ, suc, ◌+◌, List, [], ◌∷◌, ◌++◌, length, drop, Option, None, Some, Ok, Err, add-one, subst}
use Rattle.std.specs.Prelude.{slice_get}
use Rattle.std.proofs.Math.Seq.{drop-length}
use Rattle.std.proofs.lemmas.List.{append_assoc, append-nil}
use Rattle.mh_values.specs.declared.value.Exc.{Exc}
use Rattle.mh_values.specs.declared.value.Value.{Value}
use Rattle.mh_tree.specs.declared.error.CheckError.{CheckError}
use Rattle.mh_tree.specs.declared.error.CheckError.TheVariants.{NoMemory, Refused}
use Rattle.mh_jobs.specs.declared.job.Argument.{Argument}
use Rattle.mh_jobs.specs.declared.job.Argument.TheVariants as argument
use Rattle.mh_jobs.specs.declared.unresolved.Part.{Part}
use Rattle.mh_jobs.specs.declared.unresolved.Part.TheVariants.{Known, Constant}
use Rattle.mh_jobs.specs.Given.{Found}
use Rattle.mh_jobs.specs.Thrown.{OrThrown, ◌>>=◌}
use Rattle.mh_jobs.proofs.Arguments.{drop-here}
use Rattle.mh_link.specs.Named.{Constants}
use Rattle.mh_link.specs.Resolved.{at_end, resolved_parts, taken}
use Rattle.mh_condy.specs.Runs.{HavePlaces}
use Rattle.mh_attempt.specs.Constants.{HasPlace, constant_argument, part_under}
use Rattle.mh_attempt.specs.Told.{Tells}

-- these arguments, and then others
abbrev before_others : List Argument → OrThrown (List Argument) → OrThrown (List Argument)
before_others found rest = rest >>= (λ others. Ok (found ++ others))

-- the parts before a place are resolved, and the others are what is left
abbrev pub AreFound : Found → Option Exc → List Part → ℕ → List Argument → Type 0
AreFound known thrown all k found = resolved_parts known thrown all ≡ before_others found (resolved_parts known thrown (drop k all))

-- an argument before others
abbrev before_rest : OrThrown (List Argument) → Argument → OrThrown (List Argument)
before_rest rest a = rest >>= (λ others. Ok (a ∷ others))

constant-first : (o : Option (OrThrown Value)) (rest : OrThrown (List Argument)) →
    (taken o >>= (λ v. before_rest rest (argument.Value v))) ≡ (constant_argument o >>= before_rest rest)
constant-first None rest = refl
constant-first (Some (Ok v)) rest = refl
constant-first (Some (Err e)) rest = refl

part-first : (known : Found) (thrown : Option Exc) (p : Part) (parts : List Part) →
    resolved_parts known thrown (p ∷ parts) ≡ (part_under known p >>= before_rest (resolved_parts known thrown parts))
part-first known thrown (Known a) parts = refl
part-first known thrown (Constant c) parts = constant-first (known c) (resolved_parts known thrown parts)

joined : (found : List Argument) (a : Argument) (rest : OrThrown (List Argument)) → before_others found (before_rest rest a) ≡ before_others
    (found ++ a ∷ []) rest
joined found a (Ok others) = ap (λ x. Ok x) (sym (append_assoc found (a ∷ []) others))
joined found a (Err e) = refl

-- what is left begins with a part
left-is : (known : Found) (thrown : Option Exc) (all : List Part) (k : ℕ) (found : List Argument) (p : Part) (m : OrThrown Argument) →
    AreFound known thrown all k found → slice_get all k ≡ Some p → part_under known p ≡ m →
    resolved_parts known thrown all ≡ before_others found (m >>= before_rest (resolved_parts known thrown (drop (suc k) all)))
left-is known thrown all k found p m are there is =
    are
    ∙ ap (λ parts. before_others found (resolved_parts known thrown parts)) (drop-here all k p there)
    ∙ ap (before_others found)
    (part-first known thrown p (drop (suc k) all) ∙ ap (λ r. r >>= before_rest (resolved_parts known thrown (drop (suc k) all))) is)

-- one more argument
pub next-found : (known : Found) (thrown : Option Exc) (all : List Part) (k : ℕ) (found : List Argument) (p : Part) (a : Argument) →
    AreFound known thrown all k found → slice_get all k ≡ Some p → part_under known p ≡ Ok a → AreFound known thrown all (k + 1) (found ++ a ∷ [])
next-found known thrown all k found p a are there is =
    subst (λ n. AreFound known thrown all n (found ++ a ∷ [])) (sym (add-one k))
    (left-is known thrown all k found p (Ok a) are there is ∙ joined found a (resolved_parts known thrown (drop (suc k) all)))

-- an error ends all
pub part_stops : (known : Found) (thrown : Option Exc) (all : List Part) (k : ℕ) (found : List Argument) (p : Part) (error : CheckError) →
    AreFound known thrown all k found → slice_get all k ≡ Some p → Tells {A = Argument} (Err error) (part_under known p) →
    Tells {A = List Argument} (Err error) (resolved_parts known thrown all)
part_stops known thrown all k found p NoMemory are there told = tt
part_stops known thrown all k found p (Refused e) are there told = left-is known thrown all k found p (Err e) are there told

-- all parts are resolved
pub all-found : (known : Found) (thrown : Option Exc) (all : List Part) (k : ℕ) (found : List Argument) → AreFound known thrown all k found →
    k ≡ length all → resolved_parts known thrown all ≡ before_others found (at_end thrown)
all-found known thrown all k found are h =
    are ∙ ap (λ parts. before_others found (resolved_parts known thrown parts)) (ap (λ n. drop n all) h ∙ drop-length all)

-- nothing is thrown at the end
pub none-thrown : (found : List Argument) → before_others found (at_end None) ≡ Ok found
none-thrown found = ap (λ x. Ok x) (append-nil found)

-- a part that is a constant is one of the run's, where all such parts are
pub place-at : (run : Constants) (parts : List Part) (k : ℕ) (p : Part) → HavePlaces run parts → slice_get parts k ≡ Some p → HasPlace run p
place-at run parts k (Known a) places at = tt
place-at run parts k (Constant c) places at = places k c at

-- how parts are resolved one after the other
pub ruleset resolving = (next-found, part_stops, all-found, none-thrown, place-at)
