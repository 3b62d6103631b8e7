-- Arguments that were read, as they are written: their literals are read as them, and are tokens.
use Rattle.std.proofs.Common.{◌≡◌, sym, ap, subst, ◌∙◌, ℕ, true, if◌then◌else◌, List, [], ◌∷◌, None, Some, option_map, option_and_then}
use Rattle.mh_base.proofs.LineTokens.{AreFullTokens}
use Rattle.mh_values.specs.declared.class.Class.{Class}
use Rattle.mh_values.specs.declared.types.Ty.{Ty}
use Rattle.mh_values.specs.declared.value.Value.{Value}
use Rattle.mh_values.specs.HasType.{has_type}
use Rattle.mh_texts.specs.Literal.{literal_of}
use Rattle.mh_texts.specs.LiteralText.{literal_text}
use Rattle.mh_base.proofs.Inversion.{by_test, some_is, none_is_not, then_some}
use Rattle.mh_texts.proofs.LiteralAgain.{literal_of-again}
use Rattle.mh_script.proofs.GraphicTokens.{literal-token}
use Rattle.mh_plan.specs.Plan.{argument_of, arguments_of}
use Rattle.mh_plan.specs.Written.{argument_texts}
use Rattle.mh_plan.proofs.FoundCalls.{first_and_others}

-- ---- one argument

argument_parts : (classes : List Class) (token : List ℕ) (t : Ty) (v : Value) → argument_of classes token t ≡ Some v →
    (literal_of classes token ≡ Some v) × (has_type classes v t ≡ true)
argument_parts classes token t v told =
    let read = then_some (λ (w : Value). if has_type classes w t then Some w else None) (literal_of classes token) v told in
    by_test (has_type classes read.0 t) (Some read.0) None (Some v) read.2
    (λ typed is. let same : read.0 ≡ v = some_is read.0 v is in (read.1 ∙ ap Some same, ap (λ w. has_type classes w t) (sym same) ∙ typed))
    (λ typed is. none_is_not v is)

argument-again : (classes : List Class) (token : List ℕ) (t : Ty) (v : Value) → argument_of classes token t ≡ Some v →
    argument_of classes (literal_text classes v) t ≡ Some v
argument-again classes token t v told =
    let parts = argument_parts classes token t v told in
    ap (option_and_then (λ w. if has_type classes w t then Some w else None)) (literal_of-again classes token v parts.0)
    ∙ ap (λ b. if b then Some v else None) parts.1

-- ---- arguments

pub arguments-again : (classes : List Class) (tokens : List (List ℕ)) (types : List Ty) (values : List Value) →
    arguments_of classes tokens types ≡ Some values → arguments_of classes (argument_texts classes values) types ≡ Some values
arguments-again classes [] [] values told = ap (λ vs. arguments_of classes (argument_texts classes vs) []) (sym (some_is [] values told)) ∙ told
arguments-again classes [] (t ∷ types) values told = cc
arguments-again classes (token ∷ tokens) [] values told = cc
arguments-again classes (token ∷ tokens) (t ∷ types) values told =
    let q = first_and_others (argument_of classes token t) (arguments_of classes tokens types) values told in
    ap (λ vs. arguments_of classes (argument_texts classes vs) (t ∷ types)) (sym q.4)
    ∙ ap (option_and_then (λ v. option_map (λ vs. v ∷ vs) (arguments_of classes (argument_texts classes q.1) types))) (argument-again classes token t q.0 q.2)
    ∙ ap (option_map (λ vs. q.0 ∷ vs)) (arguments-again classes tokens types q.1 q.3)
    ∙ ap Some q.4

-- the literals of arguments that were read of tokens are tokens
pub argument_texts-tokens : (classes : List Class) (tokens : List (List ℕ)) (types : List Ty) (values : List Value) → AreFullTokens tokens →
    arguments_of classes tokens types ≡ Some values → AreFullTokens (argument_texts classes values)
argument_texts-tokens classes [] [] values are told = subst (λ vs. AreFullTokens (argument_texts classes vs)) (some_is [] values told) tt
argument_texts-tokens classes [] (t ∷ types) values are told = cc
argument_texts-tokens classes (token ∷ tokens) [] values are told = cc
argument_texts-tokens classes (token ∷ tokens) (t ∷ types) values are told =
    let q = first_and_others (argument_of classes token t) (arguments_of classes tokens types) values told in
    subst (λ vs. AreFullTokens (argument_texts classes vs)) q.4 (
      literal-token classes token q.0 (argument_parts classes token t q.0 q.2).0 are.0,
      argument_texts-tokens classes tokens types q.1 are.1 q.3,
    )
