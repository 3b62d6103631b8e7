-- The tokens of an operation that has no literal are those that were read.
use Rattle.std.proofs.Common.{◌≡◌, refl, sym, ap, ap₂, ◌∙◌, ℕ, List, [], ◌∷◌, codes, Result, Ok, decimal}
use Rattle.mh_base.proofs.Inversion.{ok_is}
use Rattle.mh_values.specs.declared.class.Class.{Class}
use Rattle.mh_leaves.specs.Reference.{reference_of}
use Rattle.mh_script.specs.declared.form.One.{One}
use Rattle.mh_script.specs.declared.form.One.TheVariants as one
use Rattle.mh_script.specs.declared.kinds.ScriptKind.{ScriptKind}
use Rattle.mh_script.specs.declared.kinds.ScriptKind.TheVariants.{BadLine}
use Rattle.mh_script.specs.declared.operand.Register.{Register}
use Rattle.mh_script.specs.declared.operand.TypeOperand.{TypeOperand}
use Rattle.mh_script.specs.declared.script.Operation.{Operation}
use Rattle.mh_script.specs.declared.script.Operation.TheVariants as operation
use Rattle.mh_script.specs.Lines.{said_then, method_name, type_operand, method_type_operand, numbered, with_count, dropped, permuted, one_operation}
use Rattle.mh_script.specs.Numbers.{small_of, order_of}
use Rattle.mh_script.specs.Tokens.{register_of}
use Rattle.mh_script.specs.Written.{register_text, type_operand_text, operation_tokens}
use Rattle.mh_base.proofs.Conditions.{provided_some-parts}
use Rattle.mh_script.proofs.Divisors.{said-parts}
use Rattle.mh_script.proofs.Operands.{small-text, order-text, register-text, type_operand-text, method_type_operand-text}
use Rattle.mh_script.proofs.References.{reference-text}
use Rattle.mh_script.proofs.OperationWords.{one_word}

-- the tokens of what was made
pub made_tokens : (classes : List Class) (made op : Operation) (tokens : List (List ℕ)) → ◌≡◌ {A = Result Operation ScriptKind} (Ok made) (Ok op) →
    operation_tokens classes made ≡ tokens → operation_tokens classes op ≡ tokens
made_tokens classes made op tokens h is = ap (operation_tokens classes) (sym (ok_is made op h)) ∙ is

pub after_word : (word a b c : List ℕ) (x y z : List ℕ) → a ≡ x → b ≡ y → c ≡ z → word ∷ a ∷ b ∷ c ∷ [] ≡ word ∷ x ∷ y ∷ z ∷ []
after_word word a b c x y z p q r = ap₂ (λ s t. word ∷ s ∷ t ∷ c ∷ []) p q ∙ ap (λ u. word ∷ x ∷ y ∷ u ∷ []) r

-- ---- one operand

pub one-tokens : (classes : List Class) (form : One) (a : List ℕ) (op : Operation) → one_operation form a ≡ Ok op →
    operation_tokens classes op ≡ one_word form ∷ a ∷ []
one-tokens classes one.Leaf a op h =
    let read = provided_some-parts (reference_of a) BadLine (λ texts. Ok (operation.Leaf (method_name texts))) op h in
    made_tokens classes (operation.Leaf (method_name read.0)) op (codes "leaf" ∷ a ∷ []) read.2
    (ap (λ t. codes "leaf" ∷ t ∷ []) (reference-text a read.0 read.1))
one-tokens classes one.Identity a op h =
    made_tokens classes (operation.Identity (type_operand a)) op (codes "identity" ∷ a ∷ []) h
    (ap (λ t. codes "identity" ∷ t ∷ []) (type_operand-text a))

-- ---- a number among three operands

pub numbered-tokens : (classes : List Class) (word a b c : List ℕ) (make : Register × ℕ × Register → Operation) (op : Operation) →
    ((x : Register × ℕ × Register) → operation_tokens classes (make x) ≡ word ∷ register_text x.0 ∷ decimal x.1 ∷ register_text x.2 ∷ []) →
    said_then (numbered a b c) (λ x. Ok (make x)) ≡ Ok op → operation_tokens classes op ≡ word ∷ a ∷ b ∷ c ∷ []
numbered-tokens classes word a b c make op tokens h =
    let said = said-parts (numbered a b c) (λ x. Ok (make x)) op h in
    let read = provided_some-parts (small_of b) BadLine (λ n. Ok (register_of a, n, register_of c)) said.0 said.1 in
    let parts : (register_of a, read.0, register_of c) ≡ said.0 = ok_is {A = Register × ℕ × Register} (register_of a, read.0, register_of c) said.0 read.2 in
    made_tokens classes (make said.0) op (word ∷ a ∷ b ∷ c ∷ []) said.2
    (tokens said.0
    ∙ ap (λ (x : Register × ℕ × Register). word ∷ register_text x.0 ∷ decimal x.1 ∷ register_text x.2 ∷ []) (sym parts)
    ∙ after_word word (register_text (register_of a)) (decimal read.0) (register_text (register_of c)) a b c (register-text a)
    (small-text b read.0 read.1) (register-text c))

pub counted-tokens : (classes : List Class) (word a b c : List ℕ) (make : Register × TypeOperand × ℕ → Operation) (op : Operation) →
    ((x : Register × TypeOperand × ℕ) → operation_tokens classes (make x) ≡ word ∷ register_text x.0 ∷ type_operand_text x.1 ∷ decimal x.2 ∷ []) →
    said_then (with_count a b c) (λ x. Ok (make x)) ≡ Ok op → operation_tokens classes op ≡ word ∷ a ∷ b ∷ c ∷ []
counted-tokens classes word a b c make op tokens h =
    let said = said-parts (with_count a b c) (λ x. Ok (make x)) op h in
    let read = provided_some-parts (small_of c) BadLine (λ n. Ok (register_of a, type_operand b, n)) said.0 said.1 in
    let parts : (register_of a, type_operand b, read.0) ≡ said.0 =
    ok_is {A = Register × TypeOperand × ℕ} (register_of a, type_operand b, read.0) said.0 read.2 in
    made_tokens classes (make said.0) op (word ∷ a ∷ b ∷ c ∷ []) said.2
    (tokens said.0
    ∙ ap (λ (x : Register × TypeOperand × ℕ). word ∷ register_text x.0 ∷ type_operand_text x.1 ∷ decimal x.2 ∷ []) (sym parts)
    ∙ after_word word (register_text (register_of a)) (type_operand_text (type_operand b)) (decimal read.0) a b c (register-text a)
    (type_operand-text b) (small-text c read.0 read.1))

pub dropped-tokens : (classes : List Class) (a b c : List ℕ) (op : Operation) → dropped a b c ≡ Ok op →
    operation_tokens classes op ≡ codes "drop" ∷ a ∷ b ∷ c ∷ []
dropped-tokens classes a b c op h =
    let read = provided_some-parts (small_of b) BadLine (λ n. Ok (operation.Drop (register_of a) n c)) op h in
    made_tokens classes (operation.Drop (register_of a) read.0 c) op (codes "drop" ∷ a ∷ b ∷ c ∷ []) read.2
    (after_word (codes "drop") (register_text (register_of a)) (decimal read.0) c a b c (register-text a) (small-text b read.0 read.1) refl)

pub permuted-tokens : (classes : List Class) (a b c : List ℕ) (op : Operation) → permuted a b c ≡ Ok op →
    operation_tokens classes op ≡ codes "permute" ∷ a ∷ b ∷ c ∷ []
permuted-tokens classes a b c op h =
    let read = provided_some-parts (order_of c) BadLine (λ ns. Ok (operation.Permute (register_of a) (method_type_operand b) ns)) op h in
    made_tokens classes (operation.Permute (register_of a) (method_type_operand b) read.0) op (codes "permute" ∷ a ∷ b ∷ c ∷ []) read.2
    (after_word (codes "permute") _ _ _ a b c (register-text a) (method_type_operand-text b) (order-text c read.0 read.1))
