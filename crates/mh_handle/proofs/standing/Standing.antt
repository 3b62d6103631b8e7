-- A handle that grew by an edit stands for a tree that has the edit's key last, and runs as the edited form does.
use Rattle.std.proofs.Common.{◌≡◌, refl, sym, subst, ap, ◌∙◌, ℕ, suc, ◌+◌, ◌<◌, ◌^◌, Bool, true, false, not, ◌&&◌, List, [], ◌∷◌, ◌++◌, Ok, map, length, length-append, Option, Some, None, arith}
use Rattle.std.specs.Prelude.{◌==◌, is_some}
use Rattle.std.specs.Option.{option_map}
use Rattle.std.proofs.lemmas.Bool.Decides.{nat_tests}
use Rattle.std.proofs.lemmas.List.{length-map}
use Rattle.mh_values.specs.declared.types.MethodTy.{MethodTy}
use Rattle.mh_values.specs.declared.value.Value.{Value}
use Rattle.mh_values.specs.HasType.{HaveTypes}
use Rattle.mh_leaf.specs.LeafTable.{LeafTable}
use Rattle.mh_tree.specs.Tree.{Tree, weight}
use Rattle.mh_tree.specs.Typing.{type_of, sides}
use Rattle.mh_tree.specs.Meaning.{mean}
use Rattle.mh_tree.specs.Sound.{IsSound}
use Rattle.mh_form.specs.declared.basic.Basic.{Basic}
use Rattle.mh_form.specs.declared.body.FormBody.{FormBody}
use Rattle.mh_form.specs.declared.field.Field.{Field}
use Rattle.mh_form.specs.declared.name.Name.{Name}
use Rattle.mh_form.specs.Erasure.{basic_of, erased, erased_ran}
use Rattle.mh_form.specs.Run.{run_on}
use Rattle.mh_edit.specs.declared.key.Key.{Key}
use Rattle.mh_edit.specs.Applied.{applied}
use Rattle.mh_edit.specs.Fit.{is_nothing}
use Rattle.mh_edit.specs.Rename.{reframed, renamed, place_by}
use Rattle.mh_handle.specs.Form.{body_of}
use Rattle.mh_handle.specs.Grows.{Grows, base_handle}
use Rattle.mh_handle.specs.Recipe.{recipe}
use Rattle.mh_handle.specs.Stands.{HandleView, handle_body, handle_run, IsMade, Stands}
use Rattle.mh_handle.proofs.standing.Erasing.{returns-runs}
use Rattle.mh_handle.proofs.recipes.Recipes.{body_of-snoc}

and-false : (a : Bool) → (a && false) ≡ false
and-false true = refl
and-false false = refl

pub made-fits : (body : FormBody) → IsMade body → not (is_nothing body) ≡ true
made-fits body made = ap not (ap (λ b. length body.params == 0 && (body.fields == 0 && b)) made ∙
    (ap (λ b. length body.params == 0 && b) (and-false (body.fields == 0)) ∙ and-false (length body.params == 0)))

some-mapped : {A B : Type 0} (f : A → B) (o : Option A) → is_some (option_map f o) ≡ is_some o
some-mapped f None = refl
some-mapped f (Some a) = refl

pub suc-positive : (n : ℕ) → (suc n == 0) ≡ false
suc-positive n = grind (arith, nat_tests)

pub made-reframed : (body : FormBody) (params : List Basic) (before : List Name) (table : List ℕ) (more : ℕ) → IsMade body →
    IsMade (reframed body params before table more)
made-reframed body params [] table more made =
    let to = place_by table (length params + 0) in
    ap (λ n. n == 0 && not (is_some (option_map to body.out))) (length-map body.names (renamed to)) ∙
    (ap (λ b. length body.names == 0 && not b) (some-mapped to body.out) ∙ made)
made-reframed body params (x ∷ before) table more made =
    let to = place_by table (length params + length (x ∷ before)) in
    ap (λ b. b && not (is_some (option_map to body.out))) (suc-positive (length (before ++ map (renamed to) body.names)))

-- what is to be shown of the tree that the edit is of, where the handle before it has these keys and side types
pub record Suits (table : LeafTable) (h : HandleView) (keys : List Key) (held : List MethodTy) (t' : Tree) (ty : MethodTy) (weighs : ℕ) (more : List MethodTy)
    (k : Key) (fields : List Field) : Type 0 where
  pub typed : type_of table t' ≡ Ok ty
  pub weighed : weighs ≡ weight t'
  pub holds : sides table t' ≡ held ++ more
  pub keyed : recipe table t' ≡ keys ++ k ∷ []
  pub fielded : (applied k (handle_body h)).fields ≡ (handle_body h).fields + length fields
  pub shaped : (applied k (handle_body h)).params ≡ map basic_of ty.params
  pub begun : IsMade (applied k (handle_body h))
  pub runs :
      (args : List Value) (n : ℕ) → HaveTypes table.classes args ty.params → n < 2 ^ 32 →
      run_on table (applied k (handle_body h)) (h.fields ++ fields) (map erased args) n ≡ erased_ran (mean table t' args n)
  pub returns : IsSound table.classes (mean table t') ty

pub stands-by :
    (table : LeafTable) (h h' : HandleView) (keys : List Key) (held : List MethodTy) (t' : Tree) (ty : MethodTy) (weighs : ℕ) (more : List MethodTy) (k : Key)
    (fields : List Field) →
    Grows h h' ty weighs more k fields →
    h.form.recipe ≡ keys →
    h.sides ≡ held →
    length h.fields ≡ (handle_body h).fields →
    Suits table h keys held t' ty weighs more k fields →
    Stands table h' t'
stands-by table h h' keys held t' ty weighs more k fields g made holds fielded su =
    let body : handle_body h' ≡ applied k (handle_body h) = ap body_of g.made ∙ body_of-snoc h.form.recipe k in
    let run : (args : List Value) (n : ℕ) → HaveTypes table.classes args h'.ty.params → n < 2 ^ 32 →
    handle_run table h' (map erased args) n ≡ erased_ran (mean table t' args n) =
    λ args n have low.
    ap (λ b. run_on table b h'.fields (map erased args) n) body
    ∙ (ap (λ fs. run_on table (applied k (handle_body h)) fs (map erased args) n) g.fielded
    ∙ su.runs args n (subst (λ (m : MethodTy). HaveTypes table.classes args m.params) g.typed have) low) in
    let sound : IsSound table.classes (mean table t') h'.ty = subst (IsSound table.classes (mean table t')) (sym g.typed) su.returns in
    record {
      typed = su.typed ∙ ap Ok (sym g.typed);
      weighed = g.weighed ∙ su.weighed;
      made = g.made ∙ (ap (λ r. r ++ k ∷ []) made ∙ sym su.keyed);
      holds = g.holds ∙ (ap (λ s. s ++ more) holds ∙ sym su.holds);
      fielded =
          ap length g.fielded ∙ (length-append h.fields fields ∙ (ap (λ c. c + length fields) fielded ∙ (sym su.fielded ∙ ap (λ b. b.fields) (sym body))));
      shaped = ap (λ b. b.params) body ∙ (su.shaped ∙ ap (λ (m : MethodTy). map basic_of m.params) (sym g.typed));
      begun = subst IsMade (sym body) su.begun;
      runs = run;
      well_formed = λ args n have low e. returns-runs table.classes (mean table t' args n) h'.ty.ret (sound args n have) (sym (run args n have low) ∙ e);
      returns = sound;
    }

-- a handle that was made from one that stands for a tree
pub stands-grown :
    (table : LeafTable) (h h' : HandleView) (t t' : Tree) (ty : MethodTy) (weighs : ℕ) (more : List MethodTy) (k : Key) (fields : List Field) →
    Grows h h' ty weighs more k fields →
    Stands table h t →
    Suits table h (recipe table t) (sides table t) t' ty weighs more k fields →
    Stands table h' t'
stands-grown table h h' t t' ty weighs more k fields g st su = stands-by table h h' (recipe table t) (sides table t) t' ty weighs more k fields g st.made
    st.holds st.fielded su

-- a handle that was made by a root
pub stands-rooted :
    (table : LeafTable) (h' : HandleView) (t' : Tree) (ty : MethodTy) (weighs : ℕ) (more : List MethodTy) (k : Key) (fields : List Field) →
    Grows base_handle h' ty weighs more k fields →
    Suits table base_handle [] [] t' ty weighs more k fields →
    Stands table h' t'
stands-rooted table h' t' ty weighs more k fields g su = stands-by table base_handle h' [] [] t' ty weighs more k fields g refl refl refl su
