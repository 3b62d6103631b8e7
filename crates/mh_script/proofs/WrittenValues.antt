-- A value that a line has, as it is written.
use Rattle.std.proofs.Common.{◌≡◌, sym, ap, subst, ◌∙◌, ℕ, Bool, true, false, if◌then◌else◌, List, Option, None, Some, is_some, option_and_then, Ok}
use Rattle.mh_base.specs.Provided.{provided_some}
use Rattle.mh_base.proofs.Inversion.{ok_is}
use Rattle.mh_values.specs.declared.class.Class.{Class}
use Rattle.mh_values.specs.declared.value.Value.{Value}
use Rattle.mh_texts.specs.Literal.{literal_of}
use Rattle.mh_texts.proofs.LiteralAgain.{literal_of-again}
use Rattle.mh_texts.specs.LiteralText.{literal_text}
use Rattle.mh_script.specs.declared.kinds.ScriptKind.{ScriptKind}
use Rattle.mh_script.specs.declared.kinds.ScriptKind.TheVariants.{BadLine, BadLiteral}
use Rattle.mh_script.specs.declared.operand.ValueOperand.{ValueOperand}
use Rattle.mh_script.specs.declared.operand.ValueOperand.TheVariants as of_value
use Rattle.mh_script.specs.declared.script.Step.{Step}
use Rattle.mh_script.specs.declared.token.Sort.TheVariants as sort
use Rattle.mh_script.specs.Faults.{sort_fault, value_fault}
use Rattle.mh_script.specs.Lines.{value_operand}
use Rattle.mh_script.specs.Tokens.{is_register, register_of, has_colon, if_operand, operand_literal}
use Rattle.mh_script.specs.Written.{value_operand_text}
use Rattle.mh_base.proofs.Conditions.{provided_some-parts}
use Rattle.mh_base.proofs.LineTokens.{IsFullToken}
use Rattle.mh_script.proofs.GraphicTokens.{literal-token}
use Rattle.mh_script.proofs.LiteralTokens.{literal-no_register, operand-read}
use Rattle.mh_script.proofs.Operands.{register-text}

-- a value that was read from a token: its own token is read as it too, and has no fault where that has none
pub record ValueAgain (classes : List Class) (from : List ℕ) (v : ValueOperand) : Type 0 where
  pub said : value_operand classes (value_operand_text classes v) ≡ Ok v
  pub faults : (steps : List Step) → value_fault classes steps from ≡ None → value_fault classes steps (value_operand_text classes v) ≡ None
  pub token : IsFullToken from → IsFullToken (value_operand_text classes v)

register-again : (classes : List Class) (token : List ℕ) (v : ValueOperand) → value_operand classes token ≡ Ok v → of_value.Register (register_of token) ≡ v →
    ValueAgain classes token v
register-again classes token v h is =
    let same : value_operand_text classes v ≡ token = ap (value_operand_text classes) (sym is) ∙ register-text token in
    record {
      said = ap (value_operand classes) same ∙ h;
      faults = λ steps none. ap (value_fault classes steps) same ∙ none;
      token = λ is_token. subst IsFullToken (sym same) is_token;
    }

literal-again : (classes : List Class) (token : List ℕ) (v : Value) → operand_literal classes token ≡ Some v →
    ValueAgain classes token (of_value.Literal v)
literal-again classes token v h =
    let text : List ℕ = literal_text classes v in
    let read = operand-read classes token v h in
    let again : literal_of classes text ≡ Some v = literal_of-again classes token v read.0 in
    let operand : operand_literal classes text ≡ Some v = ap (option_and_then if_operand) again ∙ read.1 in
    let no_register = literal-no_register classes text v again in
    let wrong : Option ScriptKind = if has_colon text then Some BadLiteral else Some BadLine in
    record {
      said =
          ap (λ b. if b then Ok (of_value.Register (register_of text))
          else provided_some (operand_literal classes text) BadLiteral (λ u. Ok (of_value.Literal u))) no_register
          ∙ ap (λ o. provided_some o BadLiteral (λ u. Ok (of_value.Literal u))) operand;
      faults = λ steps none.
          ap (λ b. if b then sort_fault steps sort.Value text else (if is_some (operand_literal classes text) then None else wrong)) no_register
          ∙ ap (λ o. if is_some o then None else wrong) operand;
      token = λ is_token. literal-token classes token v read.0 is_token;
    }

pub value-again : (classes : List Class) (token : List ℕ) (v : ValueOperand) → value_operand classes token ≡ Ok v →
    ValueAgain classes token v
value-again classes token v h = cases (is_register token) h
  where
    cases : (b : Bool) → (if b then Ok (of_value.Register (register_of token))
        else provided_some (operand_literal classes token) BadLiteral (λ u. Ok (of_value.Literal u))) ≡ Ok v → ValueAgain classes token v
    cases true k = register-again classes token v h (ok_is (of_value.Register (register_of token)) v k)
    cases false k =
        let read = provided_some-parts (operand_literal classes token) BadLiteral (λ u. Ok (of_value.Literal u)) v k in
        subst (ValueAgain classes token) (ok_is (of_value.Literal read.0) v read.2) (literal-again classes token read.0 read.1)
