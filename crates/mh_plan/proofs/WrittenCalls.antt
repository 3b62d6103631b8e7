-- The line of a call of a leaf that was read, as it is written: it has a call's form, and means the call.
use Rattle.std.proofs.Common.{◌≡◌, sym, ap, subst, ◌∙◌, inl, inr, ℕ, ◌==◌, Bool, true, false, not, ◌&&◌, ◌||◌, if◌then◌else◌, is_some, List, [], ◌∷◌, codes, length, Some, Result, Ok, Err, arith}
use Rattle.std.proofs.lemmas.Bool.{cases_Bool, and_parts, and_from, ne_eqb, not_from_false}
use Rattle.std.proofs.lemmas.Slice.Eq.{bytes_eq-Decides}
use Rattle.std.specs.Str.{bytes_eq}
use Rattle.mh_base.specs.Provided.{provided_some}
use Rattle.mh_base.proofs.Conditions.{provided_some-parts}
use Rattle.mh_base.proofs.LineTokens.{AreFullTokens}
use Rattle.mh_values.specs.declared.types.MethodTy.{MethodTy}
use Rattle.mh_values.specs.declared.value.LeafId.{LeafId}
use Rattle.mh_values.specs.declared.value.Value.{Value}
use Rattle.mh_values.specs.Descriptor.{desc}
use Rattle.mh_values.specs.TypeText.{method_type_text}
use Rattle.mh_leaf.specs.LeafTable.{LeafTable}
use Rattle.mh_leaves.specs.Manifest.{type_if_read}
use Rattle.mh_jobs.specs.declared.job.Job.{Job}
use Rattle.mh_plan.specs.declared.call.Call.{Call}
use Rattle.mh_plan.specs.declared.call.Call.TheVariants.{Exact, Generic}
use Rattle.mh_plan.specs.declared.kinds.PlanKind.{PlanKind}
use Rattle.mh_plan.specs.declared.kinds.PlanKind.TheVariants.{BadLine, NoLeaf, BadType, BadArguments}
use Rattle.mh_plan.specs.Plan.{is_number, leaf_texts, is_leaf_word, is_call_of, is_call, leaf_named, arguments_of, call_by, leaf_call, indy_call, call_meaning}
use Rattle.mh_plan.specs.Written.{leaf_text, argument_texts, call_tokens}
use Rattle.mh_plan.proofs.WrittenArguments.{arguments-again, argument_texts-tokens}
use Rattle.mh_plan.proofs.WrittenLeaves.{leaf_text-is, type_text-is}

-- the call that the tokens of a line mean
abbrev pub call_read : LeafTable → List Job → List (List ℕ) → Result Call PlanKind
call_read leaves jobs (word ∷ subject ∷ rest) = call_meaning leaves jobs word subject rest
call_read leaves jobs _ = Err BadLine

-- tokens of a call's form, which mean the call
pub record AreOfCall (leaves : LeafTable) (jobs : List Job) (tokens : List (List ℕ)) (call : Call) : Type 0 where
  pub tokens_are : AreFullTokens tokens
  pub formed : is_call tokens ≡ true
  pub meant : call_read leaves jobs tokens ≡ Ok call

-- a call that is written by such tokens
abbrev pub IsWritten : LeafTable → List Job → Call → Type 0
IsWritten leaves jobs call = AreOfCall leaves jobs (call_tokens leaves call) call

-- ---- calls of leaves

-- the tokens of a call of a leaf, by its word
call_by-tokens : (leaves : LeafTable) (word subject asked : List ℕ) (leaf : LeafId) (t : MethodTy) (values : List Value) → is_leaf_word word ≡ true →
    leaf_text leaves leaf ≡ subject → method_type_text leaves.classes t ≡ asked →
    word ∷ subject ∷ asked ∷ argument_texts leaves.classes values ≡ call_tokens leaves (call_by word leaf t values)
call_by-tokens leaves word subject asked leaf t values is_word is_leaf is_type =
    let texts = argument_texts leaves.classes values in
    let written : List ℕ → List (List ℕ) = λ w. w ∷ leaf_text leaves leaf ∷ method_type_text leaves.classes t ∷ texts in
    ap (λ s. word ∷ s ∷ asked ∷ texts) (sym is_leaf)
    ∙ ap (λ a. word ∷ leaf_text leaves leaf ∷ a ∷ texts) (sym is_type)
    ∙ elim (cases_Bool (bytes_eq word (codes "exact"))) [
      | inl e ↦ ap written ((bytes_eq-Decides word (codes "exact")).0 e) ∙
          ap (λ b. call_tokens leaves (if b then Exact leaf t values else Generic leaf t values)) (sym e)
      | inr e ↦
          let generic : bytes_eq word (codes "generic") ≡ true = sym (ap (λ b. b || bytes_eq word (codes "generic")) e) ∙ is_word in
          ap written ((bytes_eq-Decides word (codes "generic")).0 generic) ∙
          ap (λ b. call_tokens leaves (if b then Exact leaf t values else Generic leaf t values)) (sym e)
    ]

-- what a line of a call of a leaf was read of
record LeafParts (leaves : LeafTable) (word subject asked : List ℕ) (args : List (List ℕ)) (call : Call) : Type 0 where
  leaf : LeafId
  type : MethodTy
  values : List Value
  found : leaf_named leaves subject ≡ Some leaf
  typed : type_if_read (desc leaves.classes asked) ≡ Some type
  valued : arguments_of leaves.classes args type.params ≡ Some values
  is : call_by word leaf type values ≡ call

leaf_parts : (leaves : LeafTable) (word subject asked : List ℕ) (args : List (List ℕ)) (call : Call) →
    leaf_call leaves word subject (asked ∷ args) ≡ Ok call → LeafParts leaves word subject asked args call
leaf_parts leaves word subject asked args call told =
    let leaf = provided_some-parts (leaf_named leaves subject) NoLeaf _ call told in
    let type = provided_some-parts (type_if_read (desc leaves.classes asked)) BadType _ call leaf.2 in
    let values = provided_some-parts (arguments_of leaves.classes args type.0.params) BadArguments _ call type.2 in
    record {
      leaf = leaf.0;
      type = type.0;
      values = values.0;
      found = leaf.1;
      typed = type.1;
      valued = values.1;
      is = cc (values.2);
    }

pub leaf_call-written : (leaves : LeafTable) (jobs : List Job) (word subject : List ℕ) (rest : List (List ℕ)) (call : Call) →
    AreFullTokens (word ∷ subject ∷ rest) → is_call_of word subject (length rest) ≡ true →
    bytes_eq word (codes "indy") ≡ false → leaf_call leaves word subject rest ≡ Ok call → IsWritten leaves jobs call
leaf_call-written leaves jobs word subject [] call are formed other told = cc
leaf_call-written leaves jobs word subject (asked ∷ args) call are formed other told =
    let parts = leaf_parts leaves word subject asked args call told in
    let texts = argument_texts leaves.classes parts.values in
    let some_more : (xs : List (List ℕ)) → not (length (asked ∷ xs) == 0) ≡ true =
    λ xs. not_from_false (length (asked ∷ xs) == 0) (ne_eqb (length (asked ∷ xs)) 0 (λ e. omega (arith, e))) in
    let named : Bool = is_leaf_word word && is_some (leaf_texts subject) in
    let form = and_parts named (not (length (asked ∷ args) == 0))
    (sym (ap (λ b. if b then is_number subject else named && not (length (asked ∷ args) == 0)) other) ∙ formed) in
    let form_again : is_call (word ∷ subject ∷ asked ∷ texts) ≡ true =
    ap (λ b. if b then is_number subject else named && not (length (asked ∷ texts) == 0)) other
    ∙ and_from named (not (length (asked ∷ texts) == 0)) form.0 (some_more texts) in
    let meant : call_read leaves jobs (word ∷ subject ∷ asked ∷ texts) ≡ Ok (call_by word parts.leaf parts.type parts.values) =
    ap (λ b. if b then indy_call leaves.classes jobs subject (asked ∷ texts) else leaf_call leaves word subject (asked ∷ texts)) other
    ∙ ap (λ o. provided_some o NoLeaf (λ leaf. provided_some (type_if_read (desc leaves.classes asked)) BadType
    (λ t. provided_some (arguments_of leaves.classes texts t.params) BadArguments (λ values. Ok (call_by word leaf t values))))) parts.found
    ∙ ap (λ o. provided_some o BadType (λ t. provided_some (arguments_of leaves.classes texts t.params) BadArguments
    (λ values. Ok (call_by word parts.leaf t values)))) parts.typed
    ∙ ap (λ o. provided_some o BadArguments (λ values. Ok (call_by word parts.leaf parts.type values)))
    (arguments-again leaves.classes args parts.type.params parts.values parts.valued) in
    let tokens : word ∷ subject ∷ asked ∷ texts ≡ call_tokens leaves (call_by word parts.leaf parts.type parts.values) =
    call_by-tokens leaves word subject asked parts.leaf parts.type parts.values (and_parts (is_leaf_word word) (is_some (leaf_texts subject)) form.0).0
    (leaf_text-is leaves subject parts.leaf parts.found) (type_text-is leaves.classes asked parts.type parts.typed) in
    subst (IsWritten leaves jobs) parts.is
    (subst (λ ts. AreOfCall leaves jobs ts (call_by word parts.leaf parts.type parts.values)) tokens (record {
      tokens_are =
          (are.0, (are.1.0, (are.1.1.0, argument_texts-tokens leaves.classes args parts.type.params parts.values are.1.1.1 parts.valued)));
      formed = form_again;
      meant = meant;
    }))
