-- The static arguments of a job that are leaves are leaves of the table.
use Rattle.std.proofs.Common.{◌≡◌, refl, sym, subst, ap, ℕ, zero, suc, ◌<◌, List, [], ◌∷◌, length, Option, Some, None, Result, Ok, Err, codes}
use Rattle.std.specs.Prelude.{position, slice_get, IfSome, ok_or}
use Rattle.mh_base.proofs.Inversion.{ok_is, some_is}
use Rattle.mh_base.proofs.Slices.{slice_get-within}
use Rattle.mh_values.specs.declared.class.ClassId.{ClassId}
use Rattle.mh_values.specs.declared.value.LeafId.{LeafId}
use Rattle.mh_values.specs.declared.value.Value.{Value}
use Rattle.mh_values.specs.declared.value.Value.TheVariants as value
use Rattle.mh_values.specs.Classes.{class_named}
use Rattle.mh_leaf.specs.declared.leaf.Leaf.{Leaf}
use Rattle.mh_leaf.specs.LeafTable.{LeafTable}
use Rattle.mh_leaves.specs.declared.naming.How.{How}
use Rattle.mh_leaves.specs.declared.naming.Missing.{Missing}
use Rattle.mh_leaves.specs.Find.{is_called, leaf_numbered, leaf_called, find_leaf}
use Rattle.mh_leaves.proofs.Once.{position-within}
use Rattle.mh_tree.specs.Tree as tree
use Rattle.mh_tree.specs.Rows.{leaf_row}
use Rattle.mh_classfile.specs.declared.constant.Constant.{Constant}
use Rattle.mh_classfile.specs.declared.constant.Constant.TheVariants as constant
use Rattle.mh_classfile.specs.declared.constant.SiteView.{SiteView}
use Rattle.mh_classfile.specs.Class as class_file
use Rattle.mh_jobs.specs.declared.job.Argument.{Argument}
use Rattle.mh_jobs.specs.declared.job.Argument.TheVariants as argument
use Rattle.mh_jobs.specs.declared.job.BootstrapCall.{BootstrapCall}
use Rattle.mh_script.specs.declared.script.MethodName.{MethodName}
use Rattle.mh_script.specs.declared.script.Script.{Script}
use Rattle.mh_jobs.specs.declared.unresolved.StaticArguments.{StaticArguments}
use Rattle.mh_jobs.specs.Job.{text_of, method_of, way_of, class_argument, argument_of}
use Rattle.mh_jobs.specs.Parts.{constant_or, named_constant, static_arguments, with_part}
use Rattle.mh_jobs.specs.Sites.{site_bootstrap}
use Rattle.mh_jobs.specs.Names.{unless_missing, leaf_named, method_type_of_text}
use Rattle.mh_jobs.specs.Thrown.{Says, OrThrown, ◌>>=◌, as_shown, unsupported}
use Rattle.mh_jobs.specs.Given.{Found}
use Rattle.mh_link.specs.Resolved.{taken, resolved, call_under}
use Rattle.mh_link.proofs.typing.Nodes.{IsTyped, AreTyped}
use Rattle.mh_link.proofs.constants.SiteCalls.{call-made}
use Rattle.mh_jobs.proofs.Parts.{bound-parts}

at-within : (n : ℕ) (o : Option ℕ) (l : LeafId) → IfSome o (λ i. i < n) → leaf_numbered o ≡ Ok l → l.0 < n
at-within n (Some i) l h k = subst (λ (x : LeafId). x.0 < n) (ok_is {A = LeafId} (record { 0 = i }) l k) h
at-within n None l h k = absurd cc

of-within : (owner : Option ClassId) (name descriptor : List ℕ) (how : How) (leaves : List Leaf) (l : LeafId) →
    leaf_called owner name descriptor how leaves ≡ Ok l → l.0 < length leaves
of-within (Some owner) name descriptor how leaves l h =
    at-within (length leaves) (position (is_called owner name descriptor how) leaves) l
    (position-within (is_called owner name descriptor how) leaves (position (is_called owner name descriptor how) leaves) refl) h
of-within None name descriptor how leaves l h = absurd cc

not_missing : (says : Says) (m : MethodName) (r : Result LeafId Missing) (l : LeafId) → unless_missing says m r ≡ Ok l → r ≡ Ok l
not_missing says m (Ok k) l h = cc
not_missing says m (Err what) l h = absurd cc

named-within : (says : Says) (leaves : LeafTable) (how : How) (m : MethodName) (l : LeafId) → leaf_named says leaves how m ≡ Ok l → l.0 < length leaves.leaves
named-within says leaves how m l h =
    of-within (class_named leaves.classes m.owner) m.name m.descriptor how leaves.leaves l
    (not_missing says m (find_leaf leaves m.owner m.name m.descriptor how) l h)

same_leaf : (a b : LeafId) → ◌≡◌ {A = OrThrown Argument} (Ok (argument.Leaf a)) (Ok (argument.Leaf b)) → a ≡ b
same_leaf a b h = cc

argument-within : (leaves : LeafTable) (c : Constant) (l : LeafId) → argument_of leaves c ≡ Ok (argument.Leaf l) → l.0 < length leaves.leaves
argument-within leaves (constant.Handle r) l h =
    let way = bound-parts (ok_or (way_of r.kind) (unsupported (codes "constant")))
    (λ how. leaf_named as_shown leaves how (method_of r) >>= (λ k. Ok (argument.Leaf k))) (argument.Leaf l) h in
    let leaf = bound-parts (leaf_named as_shown leaves way.0 (method_of r)) (λ k. Ok (argument.Leaf k)) (argument.Leaf l) way.2 in
    subst (λ (k : LeafId). k.0 < length leaves.leaves) (same_leaf leaf.0 l leaf.2) (named-within as_shown leaves way.0 (method_of r) leaf.0 leaf.1)
argument-within leaves (constant.Str text) l h =
    let q = bound-parts (text_of text) (λ cs. Ok (argument.Value (value.Text cs))) (argument.Leaf l) h in let e = q.2 in absurd cc
argument-within leaves (constant.MethodType text) l h =
    let q = bound-parts (method_type_of_text as_shown leaves.classes text) (λ t. Ok (argument.MethodType t)) (argument.Leaf l) h in let e = q.2 in absurd cc
argument-within leaves (constant.Class text) l h =
    let q = bound-parts (class_argument leaves.classes text) (λ t. Ok (argument.Class t)) (argument.Leaf l) h in let e = q.2 in absurd cc
argument-within leaves c l h = absurd cc

none_there : (a : Argument) → ◌≡◌ {A = Option Argument} None (Some a) → ⊥
none_there a h = absurd cc

-- the leaves among these arguments are leaves of the table
abbrev AreWithin : LeafTable → List Argument → Type 0
AreWithin leaves given = (n : ℕ) (l : LeafId) → slice_get given n ≡ Some (argument.Leaf l) → l.0 < length leaves.leaves

next-within : (leaves : LeafTable) (a : Argument) (others : List Argument) → ((l : LeafId) → a ≡ argument.Leaf l → l.0 < length leaves.leaves) →
    AreWithin leaves others → AreWithin leaves (a ∷ others)
next-within leaves a others first more zero l k = first l (some_is a (argument.Leaf l) k)
next-within leaves a others first more (suc n) l k = more n l k

no_leaf : (v : Value) (l : LeafId) → argument.Value v ≡ argument.Leaf l → ⊥
no_leaf v l h = absurd cc

module _ (leaves : LeafTable) (known : Found) where
  -- so are those of one argument and the others
  first-within : (o : Option ℕ) (m : OrThrown Argument) → ((l : LeafId) → m ≡ Ok (argument.Leaf l) → l.0 < length leaves.leaves) → (rest : StaticArguments) →
      ((others : List Argument) → resolved known rest ≡ Ok others → AreWithin leaves others) → (given : List Argument) →
      resolved known (with_part (constant_or o m) rest) ≡ Ok given → AreWithin leaves given
  first-within (Some c) m own rest more given h =
      let value = bound-parts (taken (known c)) _ given h in
      let others = bound-parts (resolved known rest) (λ others. Ok (argument.Value value.0 ∷ others)) given value.2 in
      subst (AreWithin leaves) (ok_is (argument.Value value.0 ∷ others.0) given others.2)
      (next-within leaves (argument.Value value.0) others.0 (λ l is. absurd (no_leaf value.0 l is)) (more others.0 others.1))
  first-within None (Ok a) own rest more given h =
      let others = bound-parts (resolved known rest) (λ others. Ok (a ∷ others)) given h in
      subst (AreWithin leaves) (ok_is (a ∷ others.0) given others.2)
      (next-within leaves a others.0 (λ l is. own l (ap (λ (b : Argument). Ok b) is)) (more others.0 others.1))
  first-within None (Err e) own rest more given h = absurd cc

  arguments-within : (class : class_file.Class) (first : ℕ) (cs : List Constant) (given : List Argument) →
      resolved known (static_arguments leaves class first cs) ≡ Ok given → AreWithin leaves given
  arguments-within class first [] given h = λ n l k.
      absurd (none_there (argument.Leaf l) (subst (λ (xs : List Argument). slice_get xs n ≡ Some (argument.Leaf l)) (sym (ok_is [] given h)) k))
  arguments-within class first (c ∷ cs) given h =
      first-within (named_constant class first c) (argument_of leaves c) (argument-within leaves c) (static_arguments leaves class first cs)
      (arguments-within class first cs) given h

-- a leaf of the table has a type
pub leaf-typed : (leaves : LeafTable) (l : LeafId) → l.0 < length leaves.leaves → IsTyped leaves (tree.Leaf l)
leaf-typed leaves l h = let there = slice_get-within leaves.leaves l.0 h in (there.0.ty, subst (λ o. leaf_row o ≡ Ok there.0.ty) (sym there.1) refl)

-- the call of a site has leaves of the table alone, and they have types
pub call-typed : (leaves : LeafTable) (scripts : List Script) (class : class_file.Class) (first : ℕ) (site : SiteView) (known : Found) (call : BootstrapCall) →
    call_under known (site_bootstrap leaves scripts class first site) ≡ Ok call → AreTyped leaves call
call-typed leaves scripts class first site known call h n l k =
    let made = call-made leaves scripts class first site known call h in
    leaf-typed leaves l (arguments-within leaves known class first made.constants call.arguments made.given n l k)
