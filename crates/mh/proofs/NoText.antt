-- Words that are no text are refused as no words are.
use Rattle.std.proofs.Common.{◌≡◌, ◌∙◌, refl, ap, subst, Bool, true, false, List, [], map, string_bytes, None, Result, Ok, Err, IfErr}
use Rattle.std.specs.declared.string.String.{String}
use Rattle.std.specs.declared.alloc.Global.{Global}
use Rattle.clap.proofs.OnLiterals.{clap_on_literals}
use Rattle.mh_words.specs.Options.{found}
use Rattle.mh_words.specs.Words.{command_of}
use Rattle.mh.specs.Ending.{after_name}

-- no words are refused
no_words : command_of [] ≡ None
unfolding found clap_on_literals
no_words = refl

IsFalse : Bool → Type 0
IsFalse false = Unit {0}
IsFalse true = ⊥

unlike : false ≡ true → ⊥
unfolding IsFalse
unlike same = subst IsFalse same tt

-- where the words are none unless memory is wanting, and it is not, the words after the program's name are refused
pub refused_as_none : {W E : Type 0} (args : Result W E) (IsWant : E → Type 0) (words held after : List (String Global)) (IsQuiet IsRefused : Type 0) →
    IfErr args (λ error. (IsWant error → ⊥) → words ≡ []) → IfErr args (λ error. IsWant error → false ≡ true) → held ≡ words →
    map string_bytes after ≡ after_name held → (command_of (map string_bytes after) ≡ None → IsQuiet → IsRefused) →
    IfErr args (λ error. IsQuiet → IsRefused)
refused_as_none (Ok given) IsWant words held after IsQuiet IsRefused none want same after_is due = tt
refused_as_none (Err error) IsWant words held after IsQuiet IsRefused none want same after_is due = λ quiet.
    due (ap command_of (after_is ∙ ap after_name (same ∙ none (λ is. unlike (want is)))) ∙ no_words) quiet
