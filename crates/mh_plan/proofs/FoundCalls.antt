-- A call of a leaf that is read can be made.
use Rattle.std.proofs.Common.{◌≡◌, refl, sym, ◌∙◌, ap, subst, inl, inr, ℕ, ◌<◌, Bool, true, false, if◌then◌else◌, List, [], ◌∷◌, length, codes, Option, None, Some, option_map, option_and_then, position, IfSome, Ok, arith}
use Rattle.std.specs.Option.{option_map_or}
use Rattle.std.specs.Str.{bytes_eq}
use Rattle.std.proofs.lemmas.Bool.{cases_Bool}
use Rattle.mh_values.specs.declared.class.Class.{Class}
use Rattle.mh_values.specs.declared.class.ClassId.{ClassId}
use Rattle.mh_values.specs.declared.types.Ty.{Ty}
use Rattle.mh_values.specs.declared.types.MethodTy.{MethodTy}
use Rattle.mh_values.specs.declared.value.LeafId.{LeafId}
use Rattle.mh_values.specs.declared.value.Value.{Value}
use Rattle.mh_values.specs.Classes.{class_named}
use Rattle.mh_values.specs.Descriptor.{desc}
use Rattle.mh_values.specs.HasType.{has_type, HaveTypes}
use Rattle.mh_texts.specs.Literal.{literal_of}
use Rattle.mh_leaf.specs.LeafTable.{LeafTable}
use Rattle.mh_leaves.specs.declared.naming.How.{How}
use Rattle.mh_leaves.specs.declared.naming.How.TheVariants.{Any}
use Rattle.mh_leaves.specs.Find.{is_called, leaf_numbered, leaf_called, find_leaf}
use Rattle.mh_leaves.specs.Manifest.{type_if_read}
use Rattle.mh_base.specs.Provided.{provided_some}
use Rattle.mh_leaves.specs.Reference.{Texts}
use Rattle.mh_leaves.proofs.Once.{position-within}
use Rattle.mh_jobs.specs.declared.job.Job.{Job}
use Rattle.mh_plan.specs.declared.call.Call.{Call}
use Rattle.mh_plan.specs.declared.call.Call.TheVariants.{Exact, Generic}
use Rattle.mh_plan.specs.declared.kinds.PlanKind.TheVariants.{NoLeaf, BadType, BadArguments}
use Rattle.mh_plan.specs.Plan.{leaf_texts, leaf_if_found, leaf_named, argument_of, arguments_of, call_by, leaf_call}
use Rattle.mh_plan.specs.Calls.{IsCallOf}

-- ---- leaves that are found

placed : (table : LeafTable) (o : Option ℕ) (leaf : LeafId) → IfSome o (λ at. at < length table.leaves) → leaf_if_found (leaf_numbered o) ≡ Some leaf →
    leaf.0 < length table.leaves
placed table None leaf within is = cc
placed table (Some at) leaf within is =
    let same : at ≡ leaf.0 = ap (λ o. option_map_or (λ (l : LeafId). l.0) o 0) is in omega (arith, within, same)

found-within : (table : LeafTable) (owner : Option ClassId) (name descriptor : List ℕ) (how : How) (leaf : LeafId) →
    leaf_if_found (leaf_called owner name descriptor how table.leaves) ≡ Some leaf → leaf.0 < length table.leaves
found-within table None name descriptor how leaf is = cc
found-within table (Some owner) name descriptor how leaf is =
    placed table (position (is_called owner name descriptor how) table.leaves) leaf (position-within (is_called owner name descriptor how) table.leaves _ refl)
    is

named-within : (table : LeafTable) (texts : Option Texts) (leaf : LeafId) →
    option_and_then (λ (t : Texts). leaf_if_found (find_leaf table t.owner t.name t.descriptor Any)) texts ≡ Some leaf → leaf.0 < length table.leaves
named-within table None leaf is = cc
named-within table (Some t) leaf is = found-within table (class_named table.classes t.owner) t.name t.descriptor Any leaf is

-- ---- arguments

argument-typed : (classes : List Class) (t : Ty) (v : Value) (o : Option Value) → option_and_then (λ w. if has_type classes w t then Some w else None) o ≡ Some
    v → has_type classes v t ≡ true
argument-typed classes t v None is = cc
argument-typed classes t v (Some w) is =
    elim (cases_Bool (has_type classes w t)) [
      | inl e ↦
          let same : Some w ≡ Some v = sym (ap (λ b. if b then Some w else None) e) ∙ is in
          let whole : w ≡ v = cc in subst (λ x. has_type classes x t ≡ true) whole e
      | inr e ↦ cc (ap (λ b. if b then Some w else None) e)
    ]

-- the first value and the others, where all are there
pub first_and_others : (first : Option Value) (others : Option (List Value)) (values : List Value) →
    option_and_then (λ v. option_map (λ vs. v ∷ vs) others) first ≡ Some values → (v : Value) × (vs : List Value) × (first ≡ Some v) × (others ≡ Some vs)
    × (v ∷ vs ≡ values)
first_and_others None others values is = cc
first_and_others (Some v) None values is = cc
first_and_others (Some v) (Some vs) values is = (v, vs, refl, refl, cc)

pub arguments-typed : (classes : List Class) (tokens : List (List ℕ)) (types : List Ty) (values : List Value) →
    arguments_of classes tokens types ≡ Some values → HaveTypes classes values types
arguments-typed classes [] [] values is = let none : [] ≡ values = cc in subst (λ vs. HaveTypes classes vs []) none tt
arguments-typed classes [] (t ∷ types) values is = cc
arguments-typed classes (token ∷ tokens) [] values is = cc
arguments-typed classes (token ∷ tokens) (t ∷ types) values is =
    let q = first_and_others (argument_of classes token t) (arguments_of classes tokens types) values is in
    subst (λ vs. HaveTypes classes vs (t ∷ types)) q.4
    (argument-typed classes t q.0 (literal_of classes token) q.2, arguments-typed classes tokens types q.1 q.3)

-- ---- one call

called-fits : (table : LeafTable) (jobs : List Job) (is_exact : Bool) (leaf : LeafId) (t : MethodTy) (values : List Value) → leaf.0 < length table.leaves →
    HaveTypes table.classes values t.params → IsCallOf table jobs (if is_exact then Exact leaf t values else Generic leaf t values)
called-fits table jobs true leaf t values within typed = (within, typed)
called-fits table jobs false leaf t values within typed = (within, typed)

with_values : (table : LeafTable) (jobs : List Job) (word : List ℕ) (leaf : LeafId) (t : MethodTy) (args : List (List ℕ)) (o : Option (List Value))
    (call : Call) → leaf.0 < length table.leaves → o ≡ arguments_of table.classes args t.params →
    provided_some o BadArguments (λ values. Ok (call_by word leaf t values)) ≡ Ok call → IsCallOf table jobs call
with_values table jobs word leaf t args None call within read is = cc
with_values table jobs word leaf t args (Some values) call within read is =
    let same : call_by word leaf t values ≡ call = cc in
    subst (IsCallOf table jobs) same
    (called-fits table jobs (bytes_eq word (codes "exact")) leaf t values within (arguments-typed table.classes args t.params values (sym read)))

with_type : (table : LeafTable) (jobs : List Job) (word : List ℕ) (leaf : LeafId) (args : List (List ℕ)) (o : Option MethodTy) (call : Call) →
    leaf.0 < length table.leaves →
    provided_some o BadType (λ t. provided_some (arguments_of table.classes args t.params) BadArguments (λ values. Ok (call_by word leaf t values))) ≡ Ok call →
    IsCallOf table jobs call
with_type table jobs word leaf args None call within is = cc
with_type table jobs word leaf args (Some t) call within is =
    with_values table jobs word leaf t args (arguments_of table.classes args t.params) call within refl is

with_leaf : (table : LeafTable) (jobs : List Job) (word token asked : List ℕ) (args : List (List ℕ)) (o : Option LeafId) (call : Call) →
    o ≡ leaf_named table token → provided_some o NoLeaf (λ leaf. provided_some (type_if_read (desc table.classes asked)) BadType
    (λ t. provided_some (arguments_of table.classes args t.params) BadArguments (λ values. Ok (call_by word leaf t values)))) ≡ Ok call →
    IsCallOf table jobs call
with_leaf table jobs word token asked args None call found is = cc
with_leaf table jobs word token asked args (Some leaf) call found is =
    with_type table jobs word leaf args (type_if_read (desc table.classes asked)) call (named-within table (leaf_texts token) leaf (sym found)) is

pub leaf_call-fits : (table : LeafTable) (jobs : List Job) (word token : List ℕ) (rest : List (List ℕ)) (call : Call) →
    leaf_call table word token rest ≡ Ok call → IsCallOf table jobs call
leaf_call-fits table jobs word token [] call is = cc
leaf_call-fits table jobs word token (asked ∷ args) call is = with_leaf table jobs word token asked args (leaf_named table token) call refl is
