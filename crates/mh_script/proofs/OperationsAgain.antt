-- An operation that was read: what is written of it is read as it. Operations with a value.
use Rattle.std.proofs.Common.{◌≡◌, refl, ap, ap₂, ◌∙◌, ℕ, ◌==◌, false, List, [], ◌∷◌, codes, length, Option, None, Result, Ok, decimal}
use Rattle.mh_base.specs.Provided.{provided_some}
use Rattle.mh_values.specs.declared.class.Class.{Class}
use Rattle.mh_script.specs.declared.form.Two.TheVariants as two
use Rattle.mh_script.specs.declared.form.Three.TheVariants as three
use Rattle.mh_script.specs.declared.kinds.ScriptKind.{ScriptKind}
use Rattle.mh_script.specs.declared.kinds.ScriptKind.TheVariants.{BadLine}
use Rattle.mh_script.specs.declared.script.Operation.{Operation}
use Rattle.mh_script.specs.declared.script.Operation.TheVariants as operation
use Rattle.mh_script.specs.declared.script.Step.{Step}
use Rattle.mh_script.specs.Faults.{operands_fault}
use Rattle.mh_script.specs.Kinds.{lower}
use Rattle.mh_script.specs.Lines.{said_then, value_operand, type_operand, two_operation, three_operation, operation_of}
use Rattle.mh_script.specs.Numbers.{small_of}
use Rattle.mh_script.specs.Tokens.{register_of}
use Rattle.mh_script.specs.Written.{value_operand_text, register_text, operation_tokens}
use Rattle.mh_base.proofs.Conditions.{provided_some-parts}
use Rattle.mh_script.proofs.Divisors.{said-parts}
use Rattle.mh_script.proofs.FaultlessOperations.{lower-none}
use Rattle.mh_base.proofs.LineTokens.{AreFullTokens}
use Rattle.mh_script.proofs.Operands.{small-text, register-text, type_operand-text}
use Rattle.mh_script.proofs.WrittenOperands.{made_tokens, after_word}
use Rattle.mh_script.proofs.WrittenValues.{value-again}

-- an operation that was read from a word and its operands: what is written of it is read as it, and has no fault where those have none
pub record OperationAgain (classes : List Class) (word : List ℕ) (operands : List (List ℕ)) (op : Operation) : Type 0 where
  pub written : List (List ℕ)
  pub are : operation_tokens classes op ≡ word ∷ written
  pub some : (length written == 0) ≡ false
  pub said : operation_of classes word written ≡ Ok op
  pub faults : (steps : List Step) → operands_fault classes steps word operands ≡ None → operands_fault classes steps word written ≡ None
  pub tokens : AreFullTokens operands → AreFullTokens written

-- where the very tokens are written that were read
pub as_read : (classes : List Class) (word : List ℕ) (operands : List (List ℕ)) (op : Operation) → (length operands == 0) ≡ false →
    operation_of classes word operands ≡ Ok op → operation_tokens classes op ≡ word ∷ operands → OperationAgain classes word operands op
as_read classes word operands op some said are =
    record { written = operands; are = are; some = some; said = said; faults = λ steps none. none; tokens = λ tokens. tokens }

pub lower-of_none : (one other : Option ScriptKind) → one ≡ None → other ≡ None → lower one other ≡ None
lower-of_none one other h k = ap₂ lower h k

-- ---- operations with a value

pub constant-again : (classes : List Class) (a b : List ℕ) (op : Operation) → two_operation classes two.Constant a b ≡ Ok op →
    OperationAgain classes (codes "constant") (a ∷ b ∷ []) op
constant-again classes a b op h =
    let read = said-parts (value_operand classes b) (λ v. Ok (operation.Constant (type_operand a) v)) op h in
    let v = value-again classes b read.0 read.1 in
    let text : List ℕ = value_operand_text classes read.0 in
    record {
      written = a ∷ text ∷ [];
      are = made_tokens classes (operation.Constant (type_operand a) read.0) op (codes "constant" ∷ a ∷ text ∷ []) read.2
          (ap (λ t. codes "constant" ∷ t ∷ text ∷ []) (type_operand-text a));
      some = refl;
      said = ap (λ r. said_then r (λ u. Ok (operation.Constant (type_operand a) u))) v.said ∙ read.2;
      faults = λ steps none.
          let parts = lower-none _ _ none in lower-of_none _ _ parts.0 (v.faults steps parts.1);
      tokens = λ tokens. (tokens.0, (v.token tokens.1.0, tt));
    }

pub bind-again : (classes : List Class) (a b c : List ℕ) (op : Operation) → three_operation classes three.Bind a b c ≡ Ok op →
    OperationAgain classes (codes "bind") (a ∷ b ∷ c ∷ []) op
bind-again classes a b c op h =
    let made : ℕ → Result Operation ScriptKind = λ n. said_then (value_operand classes c) (λ v. Ok (operation.Bind (register_of a) n v)) in
    let number = provided_some-parts (small_of b) BadLine made op h in
    let read = said-parts (value_operand classes c) (λ v. Ok (operation.Bind (register_of a) number.0 v)) op number.2 in
    let v = value-again classes c read.0 read.1 in
    let text : List ℕ = value_operand_text classes read.0 in
    record {
      written = a ∷ b ∷ text ∷ [];
      are = made_tokens classes (operation.Bind (register_of a) number.0 read.0) op (codes "bind" ∷ a ∷ b ∷ text ∷ []) read.2
          (after_word (codes "bind") (register_text (register_of a)) (decimal number.0) text a b text (register-text a) (small-text b number.0 number.1) refl);
      some = refl;
      said =
          ap (λ o. provided_some o BadLine (λ n. said_then (value_operand classes text) (λ u. Ok (operation.Bind (register_of a) n u)))) number.1
          ∙ ap (λ r. said_then r (λ u. Ok (operation.Bind (register_of a) number.0 u))) v.said ∙ read.2;
      faults = λ steps none.
          let parts = lower-none _ _ none in
          let more = lower-none _ _ parts.1 in
          lower-of_none _ _ parts.0 (lower-of_none _ _ more.0 (v.faults steps more.1));
      tokens = λ tokens. (tokens.0, (tokens.1.0, (v.token tokens.1.1.0, tt)));
    }
