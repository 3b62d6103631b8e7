-- The operands of an operation that have no fault say something.
use Rattle.std.proofs.Common.{◌≡◌, refl, ℕ, Bool, true, false, if◌then◌else◌, List, [], ◌∷◌, length, map, nat_le, Option, None, Some, is_some, Result, Ok, Err}
use Rattle.std.specs.Option.{option_map_or}
use Rattle.std.specs.Result.{is_ok}
use Rattle.mh_values.specs.declared.class.Class.{Class}
use Rattle.mh_values.specs.declared.value.Value.{Value}
use Rattle.mh_values.specs.Grammar.{descriptor_fault}
use Rattle.mh_base.specs.Provided.{provided_some}
use Rattle.mh_leaves.specs.Reference.{Texts, reference_of}
use Rattle.mh_script.specs.declared.form.One.{One}
use Rattle.mh_script.specs.declared.form.One.TheVariants as one
use Rattle.mh_script.specs.declared.form.Two.{Two}
use Rattle.mh_script.specs.declared.form.Two.TheVariants as two
use Rattle.mh_script.specs.declared.form.Three.{Three}
use Rattle.mh_script.specs.declared.form.Three.TheVariants as three
use Rattle.mh_script.specs.declared.kinds.ScriptKind.{ScriptKind}
use Rattle.mh_script.specs.declared.kinds.ScriptKind.TheVariants.{BadLine, BadLiteral}
use Rattle.mh_script.specs.declared.operand.ValueOperand.{ValueOperand}
use Rattle.mh_script.specs.declared.operand.ValueOperand.TheVariants as of_value
use Rattle.mh_script.specs.declared.script.Operation.TheVariants as operation
use Rattle.mh_script.specs.declared.script.Step.{Step}
use Rattle.mh_script.specs.declared.token.Sort.TheVariants as sort
use Rattle.mh_script.specs.Faults.{bad_descriptor, sort_fault, value_fault, fault_in, two_fault, three_fault, handles_fault, switch_fault}
use Rattle.mh_script.specs.Forms.{one_place}
use Rattle.mh_script.specs.Kinds.{fault_unless, lower}
use Rattle.mh_script.specs.Lines.{said_then, method_name, value_operand, numbered, with_count, one_operation, two_operation, three_operation, switch_operation}
use Rattle.mh_script.specs.Numbers.{small_of, order_of}
use Rattle.mh_script.specs.Tokens.{is_register, register_of, operand_literal, has_colon}

-- ---- parts of a line

pub lower-none : (one other : Option ScriptKind) → lower one other ≡ None → (one ≡ None) × (other ≡ None)
lower-none None other h = (refl, h)
lower-none (Some one) None h = cc
lower-none (Some one) (Some other) h = cc

pub unless-none : (holds : Bool) (kind : ScriptKind) → fault_unless holds kind ≡ None → holds ≡ true
unless-none true kind h = refl
unless-none false kind h = cc

pub some-then : {A B : Type 0} (o : Option A) (kind : ScriptKind) (next : A → Result B ScriptKind) → is_some o ≡ true → ((a : A) → is_ok (next a) ≡ true) →
    is_ok (provided_some o kind next) ≡ true
some-then (Some a) kind next h each = each a
some-then None kind next h each = cc

pub ok-then : {A B : Type 0} (r : Result A ScriptKind) (next : A → Result B ScriptKind) → is_ok r ≡ true → ((a : A) → is_ok (next a) ≡ true) →
    is_ok (said_then r next) ≡ true
ok-then (Ok a) next h each = each a
ok-then (Err kind) next h each = cc

-- nothing is no fault
pub no_fault : {P : Type 0} (kind : ScriptKind) → Some kind ≡ None → P
no_fault kind h = absurd cc

-- ---- operands

value-choice : (register : Bool) (fault : Option ScriptKind) (literal : Option Value) (colon : Bool) (operand : ValueOperand) →
    (if register then fault else (if is_some literal then None else (if colon then Some BadLiteral else Some BadLine))) ≡ None →
    is_ok (if register then Ok operand else provided_some literal BadLiteral (λ v. Ok (of_value.Literal v))) ≡ true
value-choice true fault literal colon operand h = refl
value-choice false fault (Some v) colon operand h = refl
value-choice false fault None true operand h = cc
value-choice false fault None false operand h = cc

pub value-said : (classes : List Class) (steps : List Step) (token : List ℕ) → value_fault classes steps token ≡ None →
    is_ok (value_operand classes token) ≡ true
value-said classes steps token h =
    value-choice (is_register token) (sort_fault steps sort.Value token) (operand_literal classes token) (has_colon token)
    (of_value.Register (register_of token)) h

reference-choice : (o : Option Texts) → option_map_or (λ texts. bad_descriptor (descriptor_fault texts.descriptor)) o (Some BadLine) ≡ None →
    is_ok (provided_some o BadLine (λ texts. Ok (operation.Leaf (method_name texts)))) ≡ true
reference-choice (Some texts) h = refl
reference-choice None h = cc

-- ---- operations

pub one-said : (classes : List Class) (steps : List Step) (form : One) (a : List ℕ) → fault_in classes steps (one_place form) a ≡ None →
    is_ok (one_operation form a) ≡ true
one-said classes steps one.Leaf a h = reference-choice (reference_of a) h
one-said classes steps one.Identity a h = refl

pub two-said : (classes : List Class) (steps : List Step) (form : Two) (a b : List ℕ) → two_fault classes steps form a b ≡ None →
    is_ok (two_operation classes form a b) ≡ true
two-said classes steps two.Constant a b h = ok-then (value_operand classes b) _ (value-said classes steps b (lower-none _ _ h).1) (λ v. refl)
two-said classes steps two.Throw a b h = refl
two-said classes steps two.FilterReturn a b h = refl
two-said classes steps two.AsType a b h = refl
two-said classes steps two.Explicit a b h = refl
two-said classes steps two.TryFinally a b h = refl

-- where a number stands second, and where it stands third
numbered-said : (a b c : List ℕ) (k : ScriptKind) → fault_unless (is_some (small_of b)) k ≡ None → is_ok (numbered a b c) ≡ true
numbered-said a b c k h = some-then (small_of b) BadLine _ (unless-none _ k h) (λ n. refl)

with_count-said : (a b c : List ℕ) (k : ScriptKind) → fault_unless (is_some (small_of c)) k ≡ None → is_ok (with_count a b c) ≡ true
with_count-said a b c k h = some-then (small_of c) BadLine _ (unless-none _ k h) (λ n. refl)

pub three-said : (classes : List Class) (steps : List Step) (form : Three) (a b c : List ℕ) → three_fault classes steps form a b c ≡ None →
    is_ok (three_operation classes form a b c) ≡ true
three-said classes steps three.Bind a b c h =
    let parts = lower-none _ _ (lower-none _ _ h).1 in
    some-then (small_of b) BadLine _ (unless-none _ BadLine parts.0) (λ n.
    ok-then (value_operand classes c) _ (value-said classes steps c parts.1) (λ v. refl))
three-said classes steps three.Drop a b c h =
    some-then (small_of b) BadLine _ (unless-none _ BadLine (lower-none _ _ (lower-none _ _ h).1).0) (λ n. refl)
three-said classes steps three.Permute a b c h =
    some-then (order_of c) BadLine _ (unless-none _ BadLine (lower-none _ _ (lower-none _ _ h).1).1) (λ n. refl)
three-said classes steps three.Filter a b c h =
    ok-then (numbered a b c) _ (numbered-said a b c BadLine (lower-none _ _ (lower-none _ _ h).1).0) (λ x. refl)
three-said classes steps three.Fold a b c h =
    ok-then (numbered a b c) _ (numbered-said a b c BadLine (lower-none _ _ (lower-none _ _ h).1).0) (λ x. refl)
three-said classes steps three.Collect a b c h =
    ok-then (numbered a b c) _ (numbered-said a b c BadLine (lower-none _ _ (lower-none _ _ h).1).0) (λ x. refl)
three-said classes steps three.Spread a b c h =
    ok-then (with_count a b c) _ (with_count-said a b c BadLine (lower-none _ _ (lower-none _ _ h).1).1) (λ x. refl)
three-said classes steps three.Gather a b c h =
    ok-then (with_count a b c) _ (with_count-said a b c BadLine (lower-none _ _ (lower-none _ _ h).1).1) (λ x. refl)
three-said classes steps three.Guard a b c h = refl
three-said classes steps three.Catch a b c h = refl
three-said classes steps three.Counted a b c h = refl

-- a fallback and cases
pub switch-said : (steps : List Step) (fallback : List ℕ) (cases : List (List ℕ)) → switch_fault steps (fallback ∷ cases) ≡ None →
    is_ok (switch_operation (fallback ∷ cases)) ≡ true
switch-said steps fallback [] h = no_fault BadLine h
switch-said steps fallback (first ∷ others) h = few (nat_le (length others) 15) h
  where
    few : (b : Bool) → (if b then handles_fault steps (fallback ∷ first ∷ others) else Some BadLine) ≡ None →
        is_ok (if b then Ok (operation.Switch (register_of fallback) (map register_of (first ∷ others))) else Err BadLine) ≡ true
    few true k = refl
    few false k = no_fault BadLine k
