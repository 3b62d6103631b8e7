-- Any operation that was read: what is written of it is read as it.
use Rattle.std.proofs.Common.{◌≡◌, refl, sym, ap, ap₂, subst, ◌∙◌, ℕ, suc, arith, Bool, true, false, if◌then◌else◌, nat_le, List, [], ◌∷◌, length, map, codes, Result, Ok, Err}
use Rattle.std.specs.Prelude.{◌==◌}
use Rattle.std.proofs.lemmas.Bool.Decides.{nat_tests}
use Rattle.std.specs.Str.{bytes_eq}
use Rattle.mh_base.proofs.Tests.{same_text}
use Rattle.mh_values.specs.declared.class.Class.{Class}
use Rattle.mh_script.specs.declared.form.Two.{Two}
use Rattle.mh_script.specs.declared.form.Two.TheVariants as two
use Rattle.mh_script.specs.declared.form.Three.{Three}
use Rattle.mh_script.specs.declared.form.Three.TheVariants as three
use Rattle.mh_script.specs.declared.kinds.ScriptKind.{ScriptKind}
use Rattle.mh_script.specs.declared.kinds.ScriptKind.TheVariants.{BadLine}
use Rattle.mh_script.specs.declared.script.Operation.{Operation}
use Rattle.mh_script.specs.declared.script.Operation.TheVariants as operation
use Rattle.mh_script.specs.Forms.{one_form, two_form, three_form}
use Rattle.mh_script.specs.Lines.{type_operand, method_type_operand, one_operation, two_operation, three_operation, fixed_operation, switch_operation, operation_of}
use Rattle.mh_script.specs.Tokens.{register_of}
use Rattle.mh_script.specs.Written.{register_text, operation_tokens}
use Rattle.mh_base.proofs.Conditions.{provided_some-parts}
use Rattle.mh_script.proofs.OperationWords.{two_word, three_word, one_form-word, two_form-word, three_form-word}
use Rattle.mh_script.proofs.Operands.{register-text, type_operand-text, method_type_operand-text}
use Rattle.mh_script.proofs.WrittenOperands.{made_tokens, after_word, one-tokens, numbered-tokens, counted-tokens, dropped-tokens, permuted-tokens}
use Rattle.mh_script.proofs.OperationsAgain.{OperationAgain, as_read, constant-again, bind-again}

-- ---- two operands, and three

two-again : (classes : List Class) (form : Two) (a b : List ℕ) (op : Operation) →
    operation_of classes (two_word form) (a ∷ b ∷ []) ≡ Ok op → two_operation classes form a b ≡ Ok op →
    OperationAgain classes (two_word form) (a ∷ b ∷ []) op
two-again classes two.Constant a b op said h = constant-again classes a b op h
two-again classes two.Throw a b op said h =
    as_read classes (codes "throw") (a ∷ b ∷ []) op refl said
    (made_tokens classes (operation.Throw (type_operand a) b) op (codes "throw" ∷ a ∷ b ∷ []) h
    (ap (λ t. codes "throw" ∷ t ∷ b ∷ []) (type_operand-text a)))
two-again classes two.FilterReturn a b op said h =
    as_read classes (codes "filterret") (a ∷ b ∷ []) op refl said
    (made_tokens classes (operation.FilterReturn (register_of a) (register_of b)) op (codes "filterret" ∷ a ∷ b ∷ []) h
    (ap₂ (λ s t. codes "filterret" ∷ s ∷ t ∷ []) (register-text a) (register-text b)))
two-again classes two.AsType a b op said h =
    as_read classes (codes "astype") (a ∷ b ∷ []) op refl said
    (made_tokens classes (operation.AsType (register_of a) (method_type_operand b)) op (codes "astype" ∷ a ∷ b ∷ []) h
    (ap₂ (λ s t. codes "astype" ∷ s ∷ t ∷ []) (register-text a) (method_type_operand-text b)))
two-again classes two.Explicit a b op said h =
    as_read classes (codes "explicit") (a ∷ b ∷ []) op refl said
    (made_tokens classes (operation.Explicit (register_of a) (method_type_operand b)) op (codes "explicit" ∷ a ∷ b ∷ []) h
    (ap₂ (λ s t. codes "explicit" ∷ s ∷ t ∷ []) (register-text a) (method_type_operand-text b)))
two-again classes two.TryFinally a b op said h =
    as_read classes (codes "tryfinally") (a ∷ b ∷ []) op refl said
    (made_tokens classes (operation.TryFinally (register_of a) (register_of b)) op (codes "tryfinally" ∷ a ∷ b ∷ []) h
    (ap₂ (λ s t. codes "tryfinally" ∷ s ∷ t ∷ []) (register-text a) (register-text b)))

-- the tokens of an operation with three operands of which none is a value
three-tokens : (classes : List Class) (form : Three) (a b c : List ℕ) (op : Operation) → (form ≡ three.Bind → ⊥) →
    three_operation classes form a b c ≡ Ok op → operation_tokens classes op ≡ three_word form ∷ a ∷ b ∷ c ∷ []
three-tokens classes three.Bind a b c op other h = absurd (other refl)
three-tokens classes three.Drop a b c op other h = dropped-tokens classes a b c op h
three-tokens classes three.Permute a b c op other h = permuted-tokens classes a b c op h
three-tokens classes three.Filter a b c op other h =
    numbered-tokens classes (codes "filter") a b c (λ x. operation.Filter x.0 x.1 x.2) op (λ x. refl) h
three-tokens classes three.Fold a b c op other h = numbered-tokens classes (codes "fold") a b c (λ x. operation.Fold x.0 x.1 x.2) op (λ x. refl) h
three-tokens classes three.Collect a b c op other h =
    numbered-tokens classes (codes "collect") a b c (λ x. operation.Collect x.0 x.1 x.2) op (λ x. refl) h
three-tokens classes three.Spread a b c op other h =
    counted-tokens classes (codes "spread") a b c (λ x. operation.Spread x.0 x.1 x.2) op (λ x. refl) h
three-tokens classes three.Gather a b c op other h =
    counted-tokens classes (codes "gather") a b c (λ x. operation.Gather x.0 x.1 x.2) op (λ x. refl) h
three-tokens classes three.Guard a b c op other h =
    made_tokens classes (operation.Guard (register_of a) (register_of b) (register_of c)) op (codes "guard" ∷ a ∷ b ∷ c ∷ []) h
    (after_word (codes "guard") _ _ _ a b c (register-text a) (register-text b) (register-text c))
three-tokens classes three.Catch a b c op other h =
    made_tokens classes (operation.Catch (register_of a) b (register_of c)) op (codes "catch" ∷ a ∷ b ∷ c ∷ []) h
    (after_word (codes "catch") (register_text (register_of a)) b (register_text (register_of c)) a b c (register-text a) refl (register-text c))
three-tokens classes three.Counted a b c op other h =
    made_tokens classes (operation.Counted (register_of a) (register_of b) (register_of c)) op (codes "counted" ∷ a ∷ b ∷ c ∷ []) h
    (after_word (codes "counted") _ _ _ a b c (register-text a) (register-text b) (register-text c))

three-again : (classes : List Class) (form : Three) (a b c : List ℕ) (op : Operation) →
    operation_of classes (three_word form) (a ∷ b ∷ c ∷ []) ≡ Ok op → three_operation classes form a b c ≡ Ok op →
    OperationAgain classes (three_word form) (a ∷ b ∷ c ∷ []) op
three-again classes three.Bind a b c op said h = bind-again classes a b c op h
three-again classes form a b c op said h =
    as_read classes (three_word form) (a ∷ b ∷ c ∷ []) op refl said (three-tokens classes form a b c op (λ e. cc) h)

-- ---- any operation

fixed-again : (classes : List Class) (word : List ℕ) (operands : List (List ℕ)) (op : Operation) →
    operation_of classes word operands ≡ Ok op → fixed_operation classes word operands ≡ Ok op → OperationAgain classes word operands op
fixed-again classes word [] op said h = absurd cc
fixed-again classes word (a ∷ []) op said h =
    let named = provided_some-parts (one_form word) BadLine (λ form. one_operation form a) op h in
    as_read classes word (a ∷ []) op refl said
    (one-tokens classes named.0 a op named.2 ∙ ap (λ w. w ∷ a ∷ []) (sym (one_form-word word named.0 named.1)))
fixed-again classes word (a ∷ b ∷ []) op said h =
    let named = provided_some-parts (two_form word) BadLine (λ form. two_operation classes form a b) op h in
    let is : word ≡ two_word named.0 = two_form-word word named.0 named.1 in
    subst (λ w. OperationAgain classes w (a ∷ b ∷ []) op) (sym is)
    (two-again classes named.0 a b op (subst (λ w. operation_of classes w (a ∷ b ∷ []) ≡ Ok op) is said) named.2)
fixed-again classes word (a ∷ b ∷ c ∷ []) op said h =
    let named = provided_some-parts (three_form word) BadLine (λ form. three_operation classes form a b c) op h in
    let is : word ≡ three_word named.0 = three_form-word word named.0 named.1 in
    subst (λ w. OperationAgain classes w (a ∷ b ∷ c ∷ []) op) (sym is)
    (three-again classes named.0 a b c op (subst (λ w. operation_of classes w (a ∷ b ∷ c ∷ []) ≡ Ok op) is said) named.2)
fixed-again classes word (a ∷ b ∷ c ∷ d ∷ rest) op said h = absurd cc

registers-text : (tokens : List (List ℕ)) → map register_text (map register_of tokens) ≡ tokens
registers-text [] = refl
registers-text (t ∷ ts) = ap₂ (λ s ss. s ∷ ss) (register-text t) (registers-text ts)

-- a list with an item is not empty
some-tokens : (n : ℕ) → (suc n == 0) ≡ false
some-tokens n = grind (arith, nat_tests)

-- what was read of no more tokens than there may be
few-read : (few : Bool) (read : Result Operation ScriptKind) (op : Operation) → (if few then read else Err BadLine) ≡ Ok op → read ≡ Ok op
few-read true read op h = h
few-read false read op h = absurd cc

switch-again : (classes : List Class) (operands : List (List ℕ)) (op : Operation) →
    operation_of classes (codes "switch") operands ≡ Ok op → switch_operation operands ≡ Ok op → OperationAgain classes (codes "switch") operands op
switch-again classes [] op said h = absurd cc
switch-again classes (f ∷ []) op said h = absurd cc
switch-again classes (f ∷ c ∷ cs) op said h =
    as_read classes (codes "switch") (f ∷ c ∷ cs) op (some-tokens (length (c ∷ cs))) said
    (made_tokens classes (operation.Switch (register_of f) (map register_of (c ∷ cs))) op (codes "switch" ∷ f ∷ c ∷ cs)
    (few-read (nat_le (length cs) 15) (Ok (operation.Switch (register_of f) (map register_of (c ∷ cs)))) op h)
    (ap₂ (λ s ss. codes "switch" ∷ s ∷ ss) (register-text f) (registers-text (c ∷ cs))))

pub operation-again : (classes : List Class) (word : List ℕ) (operands : List (List ℕ)) (op : Operation) →
    operation_of classes word operands ≡ Ok op → OperationAgain classes word operands op
operation-again classes word operands op h = by-word (bytes_eq word (codes "switch")) refl
  where
    by-word : (b : Bool) → bytes_eq word (codes "switch") ≡ b → OperationAgain classes word operands op
    by-word true is =
        let same : word ≡ codes "switch" = same_text word (codes "switch") is in
        let read : switch_operation operands ≡ Ok op =
        sym (ap (λ b. if b then switch_operation operands else fixed_operation classes word operands) is) ∙ h in
        subst (λ w. OperationAgain classes w operands op) (sym same)
        (switch-again classes operands op (subst (λ w. operation_of classes w operands ≡ Ok op) same h) read)
    by-word false is =
        fixed-again classes word operands op h
        (sym (ap (λ b. if b then switch_operation operands else fixed_operation classes word operands) is) ∙ h)
