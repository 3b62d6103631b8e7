-- What a line leaves that joins something to the handle of the register which it assigns.
use denote.Ref.{Bor}
use Rattle.std.proofs.Common.{◌≡◌, refl, sym, ◌∙◌, ap, subst, List, [], ◌∷◌, ◌++◌, map, Option, Some, None, Result, Ok, Err, IfOk}
use Rattle.std.specs.Prelude.{IsErrAnd, IfSome, ℕ}
use Rattle.mh_base.proofs.Inversion.{ok_is}
use Rattle.mh_values.specs.declared.types.MethodTy.{MethodTy}
use Rattle.mh_intern.specs.Views.{HoldView}
use Rattle.mh_leaf.specs.LeafTable.{LeafTable}
use Rattle.mh_tree.specs.declared.error.CheckError.{CheckError}
use Rattle.mh_tree.specs.declared.error.CheckError.TheVariants as check
use Rattle.mh_tree.specs.Tree.{Tree}
use Rattle.mh_tree.specs.Typing.{type_of}
use Rattle.mh_handle.specs.declared.error.HandleError.{HandleError}
use Rattle.mh_handle.specs.declared.error.HandleError.TheVariants.{NoMemory}
use Rattle.mh_handle.specs.declared.handle.Handle.{Handle}
use Rattle.mh_handle.specs.declared.work.Work.{Work}
use Rattle.mh_handle.specs.Errors.{of_check}
use Rattle.mh_handle.specs.Recipe.{recipe}
use Rattle.mh_handle.specs.Stands.{Stands}
use Rattle.mh_handle.specs.Works.{IsAccepted, Makes, TradesTypes}
use Rattle.mh_jobs.specs.Thrown.{◌>>=◌}
use Rattle.mh_jobs.proofs.Parts.{bound-parts}
use Rattle.mh_script.specs.declared.operand.Register.{Register}
use Rattle.mh_script.specs.declared.operand.Register.TheVariants as register
use Rattle.mh_script.specs.declared.script.Operation.{Operation}
use Rattle.mh_script.specs.declared.script.Operation.TheVariants as operation
use Rattle.mh_tree.specs.declared.joints.Joint.TheVariants as joint
use Rattle.mh_attempt.specs.declared.lines.nodes.OfTwo.TheVariants as two
use Rattle.mh_link.specs.Made.{handles_of, node_of_use, nodes_of, nodes_of_uses, types_of, unless_thrown}
use Rattle.mh_link.specs.Operands.{Frame, handle_in}
use Rattle.mh_link.specs.Operations.{asked_by, node_of}
use Rattle.mh_attempt.specs.declared.handle.HandleOperand.{HandleOperand}
use Rattle.mh_attempt.specs.declared.lines.nodes.OfTwo.{OfTwo}
use Rattle.mh_attempt.specs.Again.{IsJoined, IsPair, MakesPair, pair_asked}
use Rattle.mh_attempt.specs.Asked.{AsksIfMade, HasAskedMore}
use Rattle.mh_attempt.specs.AskedTypes.{AsksNoOther, AsksTypesOrThrows, types_made}
use Rattle.mh_attempt.specs.Lines.{typed}
use Rattle.mh_attempt.specs.Nodes.{TellsNode, two_tree}
use Rattle.mh_attempt.specs.Operations.{MakesAsked, MakesOperation}
use Rattle.mh_attempt.specs.Recipes.{asked_itself, recipes_made}
use Rattle.mh_attempt.specs.Registers.{node_made}
use Rattle.mh_attempt.specs.Told.{TellsBy}
use Rattle.mh_attempt.proofs.asked.AskedNodes.{asks-made, asks-refused}
use Rattle.mh_attempt.proofs.asked.AskedOperands.{asks-nodes}
use Rattle.mh_attempt.proofs.asked.AskedOperations.{asks-node, one-use}
use Rattle.mh_attempt.proofs.nodes.LineNodes.{error-node, ruled-node, same-node, thrown-node, typed-is}
use Rattle.mh_attempt.proofs.nodes.NodeRules.{two-alone}
use Rattle.mh_attempt.proofs.types.AskingTypes.{types-refused}
use Rattle.mh_attempt.proofs.types.OperandTypes.{types-row, types-unmade_node}

module _ (frame : Frame) (name : List ℕ) (by : OfTwo) (part : Register) where
  -- an operand throws
  pub pair-thrown : (w : Work) (error : CheckError) (r : Result Handle HandleError) → IsErrAnd r (λ x. x ≡ of_check error) →
      TellsNode w.leaves.now (Err error) (pair_asked name by part frame) (λ (t : Tree). t ∷ []) → MakesPair frame name by part w w r
  pair-thrown w error r is told =
      let leaves = w.leaves.now in
      let m = pair_asked name by part frame in
      record {
        node = error-node _ w w (of_check error) r is (thrown-node w error m (λ (t : Tree). t ∷ []) told);
        asks = λ n given. asks-refused (map (recipe leaves) (nodes_of_uses frame (part ∷ []) ++ n ∷ [])) w w error r is;
        asked =
            types-refused (types_of leaves (unless_thrown (m >>= typed leaves) (λ n. nodes_of_uses frame (part ∷ []) ++ nodes_of n))) w error r is;
      }

  -- it is the register of this name
  pub target-throws : {A : Type 0} (Is : A → Tree → Type 0) (leaves : LeafTable) (error : CheckError) →
      TellsBy Is (Err error) (handle_in frame (register.Assigned name)) → TellsNode leaves (Err error) (pair_asked name by part frame) (λ (t : Tree). t ∷ [])
  target-throws Is leaves check.NoMemory told = tt
  target-throws Is leaves (check.Refused e) told = ap (λ m. m >>= (λ t. handle_in frame part >>= (λ p. Ok (two_tree by t p)))) told

  -- it is the other one
  pub part-throws : {A : Type 0} (Is : A → Tree → Type 0) (leaves : LeafTable) (error : CheckError) (t : Tree) →
      handle_in frame (register.Assigned name) ≡ Ok t → TellsBy Is (Err error) (handle_in frame part) →
      TellsNode leaves (Err error) (pair_asked name by part frame) (λ (t : Tree). t ∷ [])
  part-throws Is leaves check.NoMemory t found told = tt
  part-throws Is leaves (check.Refused e) t found told =
      ap (λ m. m >>= (λ u. handle_in frame part >>= (λ p. Ok (two_tree by u p)))) found ∙ ap (λ m. m >>= (λ p. Ok (two_tree by t p))) told

  -- both are found
  pub pair-is : (t p : Tree) → handle_in frame (register.Assigned name) ≡ Ok t → handle_in frame part ≡ Ok p →
      pair_asked name by part frame ≡ Ok (two_tree by t p)
  pair-is t p first second = λ i. first i >>= (λ u. second i >>= (λ v. Ok (two_tree by u v)))

  -- the same, made of an operand for the part
  pub pair-of : (p : HandleOperand) → node_made p ≡ node_of_use frame part → (old new : Work) (r : Result Handle HandleError) →
      MakesAsked (p ∷ []) (pair_asked name by part frame) (λ (t : Tree). t ∷ []) old new r → MakesPair frame name by part old new r
  pair-of p uses old new r makes =
      let leaves = old.leaves.now in
      let same = one-use frame p part uses in
      record {
        node = makes.node;
        asks = λ n given. subst (λ ts. AsksIfMade (map (recipe leaves) (ts ++ n ∷ [])) old new r) same (makes.asks n given);
        asked =
            subst (λ ts. AsksTypesOrThrows (types_of leaves (unless_thrown (pair_asked name by part frame >>= typed leaves) (λ n. ts ++ nodes_of n))) old new r)
            same makes.asked;
      }

  -- what was asked for where only a handle of the part was made
  pub part-asked : (p : HandleOperand) → node_made p ≡ node_of_use frame part → (old mid : Work) (own : MethodTy) (t u : Tree) →
      pair_asked name by part frame ≡ Ok (two_tree by t u) → type_of old.leaves.now (two_tree by t u) ≡ Ok own →
      AsksNoOther (types_made old.leaves.now (p ∷ []) []) old.seat.now mid.seat.now →
      AsksNoOther (types_of old.leaves.now (unless_thrown (pair_asked name by part frame >>= typed old.leaves.now)
      (λ n. nodes_of_uses frame (part ∷ []) ++ nodes_of n))) old.seat.now mid.seat.now
  part-asked p uses old mid own t u given is asked =
      let leaves = old.leaves.now in
      let n = two_tree by t u in
      let m = pair_asked name by part frame >>= typed leaves in
      subst (λ ts. AsksNoOther (types_of leaves (unless_thrown m (λ x. ts ++ nodes_of x))) old.seat.now mid.seat.now) (one-use frame p part uses)
      (types-unmade_node Handle {B = Handle} leaves (p ∷ []) m n old mid NoMemory (Err NoMemory)
      (ap (λ x. x >>= typed leaves) given ∙ typed-is leaves n own is) refl asked)

  -- nothing was taken out: the register of this name held a handle before, so no memory was left
  pub pair-untaken : {A : Type 0} (Is : A → Tree → Type 0) (old new : Work) (error : CheckError) (t : Tree) →
      handle_in frame (register.Assigned name) ≡ Ok t → TellsBy Is (Err error) (handle_in frame (register.Assigned name)) →
      AsksNoOther (types_of old.leaves.now (unless_thrown (pair_asked name by part frame >>= typed old.leaves.now)
      (λ n. nodes_of_uses frame (part ∷ []) ++ nodes_of n))) old.seat.now new.seat.now → MakesPair frame name by part old new (Err (of_check error))
  pair-untaken Is old new check.NoMemory t found told asked = record { node = tt; asks = λ n given. tt; asked = asked }
  pair-untaken Is old new (check.Refused e) t found told asked = absurd (is-none (sym found ∙ told))
    where
      is-none : Ok t ≡ Err e → ⊥
      is-none h = absurd cc

  -- both handles are there, and they are joined by a rule that gives a type
  pub pair-made : (p : HandleOperand) → node_made p ≡ node_of_use frame part → (old mid new : Work) (own : MethodTy) (came : List HoldView)
      (r : Result Handle HandleError) (t u : Tree) → pair_asked name by part frame ≡ Ok (two_tree by t u) → mid.leaves ≡ old.leaves →
      HasAskedMore (recipes_made old.leaves.now (p ∷ []) []) old.pass.now mid.pass.now →
      AsksNoOther (types_made old.leaves.now (p ∷ []) []) old.seat.now mid.seat.now → type_of old.leaves.now (two_tree by t u) ≡ Ok own →
      IsAccepted r → Makes (recipe mid.leaves.now (two_tree by t u)) mid new r → IfOk r (λ h. Stands mid.leaves.now h (two_tree by t u)) →
      TradesTypes (own ∷ []) came mid new r → MakesPair frame name by part old new r
  pair-made p uses old mid new own came r t u given same asks asked is accepted makes made types =
      let leaves = old.leaves.now in
      let n = two_tree by t u in
      let named = ap (λ x. x >>= typed leaves) given in
      let used = one-use frame p part uses in
      record {
        node = same-node _ _ old new r named (ruled-node old mid new n own r same is accepted made);
        asks =
            λ v found. subst (λ ts. AsksIfMade (map (recipe leaves) (ts ++ v ∷ [])) old new r) used
            (subst (λ x. AsksIfMade (recipes_made leaves (p ∷ []) (x ∷ [])) old new r) (ok_is n v (sym given ∙ found))
            (asks-nodes (p ∷ []) (λ l. n ∷ []) old mid new r same asks (asks-made (recipe mid.leaves.now n) mid new r makes)));
        asked =
            subst (λ m. AsksTypesOrThrows (types_of leaves (unless_thrown m (λ x. nodes_of_uses frame (part ∷ []) ++ nodes_of x))) old new r) (sym named)
            (subst (λ ts. AsksTypesOrThrows (types_of leaves (unless_thrown (typed leaves n) (λ x. ts ++ nodes_of x))) old new r) used
            (types-row (p ∷ []) n own (Ok own) came old mid new r (two-alone by t u) is is asked types));
      }

-- what the operation of such a line leaves
pub pair-operation : (frame : Frame) (op : Operation) (name : List ℕ) (by : OfTwo) (part : Register) (old new : Work) (r : Result Handle HandleError) →
    IsPair op name by part → MakesPair frame name by part old new r → MakesOperation frame op old new r
pair-operation frame op name by part old new r is makes =
    let leaves = old.leaves.now in
    let asked = is.asked leaves frame in
    let node = same-node _ _ old new r (ap (λ m. m >>= typed leaves) asked) makes.node in
    record {
      node = node;
      asks =
          asks-node leaves (node_of leaves frame op) (λ n. nodes_of_uses frame (handles_of op) ++ asked_itself leaves frame op n) old new r node
          (λ n given.
          let found = bound-parts (asked_by leaves frame op) (typed leaves) n given in
          let own = bound-parts (type_of leaves found.0) (λ _. Ok found.0) n found.2 in
          subst (λ used. AsksIfMade (map (recipe leaves) (nodes_of_uses frame used ++ asked_itself leaves frame op n)) old new r) (sym is.handles)
          (subst (λ (itself : Tree → List Tree). AsksIfMade (map (recipe leaves) (nodes_of_uses frame (part ∷ []) ++ itself n)) old new r)
          (sym (is.itself leaves frame)) (makes.asks n (sym asked ∙ subst (λ t. asked_by leaves frame op ≡ Ok t) (ok_is found.0 n own.2) found.1))));
      asked =
          subst (λ m. AsksTypesOrThrows (types_of leaves (unless_thrown (m >>= typed leaves)
          (λ t. nodes_of_uses frame (handles_of op) ++ nodes_of t))) old new r)
          (sym asked)
          (subst (λ used. AsksTypesOrThrows (types_of leaves (unless_thrown (pair_asked name by part frame >>= typed leaves)
          (λ t. nodes_of_uses frame used ++ nodes_of t))) old new r) (sym is.handles) makes.asked);
    }

-- ---- the operations that join something to a register

-- what is found is joined
pub found-pair : (op : Operation) (name : List ℕ) (by : OfTwo) (part : Bor Register) (target : Register) (r : Option (OfTwo × Bor Register)) →
    IfSome r (λ with. IsJoined target name by part with) → (target ≡ register.Assigned name → IsPair op name by part.now) →
    IfSome r (λ with. IsPair op name with.0 with.1.now)
found-pair op name by part target None found is = tt
found-pair op name by part target (Some with) found is =
    subst (λ b. IsPair op name b with.1.now) (sym found.by_is) (subst (λ (p : Bor Register). IsPair op name by p.now) (sym found.part_is) (is found.target_is))

module _ (name : List ℕ) (h part : Register) (is : h ≡ register.Assigned name) where
  pub filter-pair : (at : ℕ) → IsPair (operation.Filter h at part) name (two.Joint (joint.Filter at)) part
  filter-pair at =
      subst (λ r. IsPair (operation.Filter r at part) name (two.Joint (joint.Filter at)) part) (sym is)
      (record { asked = λ leaves frame. refl; itself = λ leaves frame. refl; handles = refl })

  pub filter_return-pair : IsPair (operation.FilterReturn h part) name (two.Joint joint.FilterReturn) part
  filter_return-pair =
      subst (λ r. IsPair (operation.FilterReturn r part) name (two.Joint joint.FilterReturn) part) (sym is)
      (record { asked = λ leaves frame. refl; itself = λ leaves frame. refl; handles = refl })

  pub fold-pair : (at : ℕ) → IsPair (operation.Fold h at part) name (two.Joint (joint.Fold at)) part
  fold-pair at =
      subst (λ r. IsPair (operation.Fold r at part) name (two.Joint (joint.Fold at)) part) (sym is)
      (record { asked = λ leaves frame. refl; itself = λ leaves frame. refl; handles = refl })

  pub collect-pair : (at : ℕ) → IsPair (operation.Collect h at part) name (two.Joint (joint.Collect at)) part
  collect-pair at =
      subst (λ r. IsPair (operation.Collect r at part) name (two.Joint (joint.Collect at)) part) (sym is)
      (record { asked = λ leaves frame. refl; itself = λ leaves frame. refl; handles = refl })

  pub try_finally-pair : IsPair (operation.TryFinally h part) name two.TryFinally part
  try_finally-pair =
      subst (λ r. IsPair (operation.TryFinally r part) name two.TryFinally part) (sym is)
      (record { asked = λ leaves frame. refl; itself = λ leaves frame. refl; handles = refl })
