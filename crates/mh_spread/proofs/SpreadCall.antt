-- What the call of a spread does, from what its check found and what its use of the handle made.
use Rattle.std.proofs.Common.{◌≡◌, sym, subst, ap, ◌∙◌, ℕ, ◌+◌, ◌-◌, ◌≤◌, List, [], ◌∷◌, ◌++◌, append-nil, length, Option, Result, Ok, Err, IfOk, codes}
use Rattle.std.specs.Prelude.{IsTrue}
use Rattle.mh_base.specs.Provided.{provided}
use Rattle.mh_values.specs.declared.class.Class.{Class}
use Rattle.mh_values.specs.declared.types.Comp.{Comp}
use Rattle.mh_values.specs.declared.types.Ty.{Ty}
use Rattle.mh_values.specs.declared.types.Ty.TheVariants as ty
use Rattle.mh_values.specs.declared.types.MethodTy.{MethodTy}
use Rattle.mh_values.specs.Array.{item_type}
use Rattle.mh_values.specs.Classes.{AreClasses}
use Rattle.mh_values.specs.Computation.{spliced}
use Rattle.mh_convert.specs.declared.conv.Rules.TheVariants as rules
use Rattle.mh_leaf.specs.LeafTable.{LeafTable}
use Rattle.mh_tree.specs.Rows.{TypeOrRefusal, component_of, ends_with, illegal, limited, spread_row, taking}
use Rattle.mh_tree.specs.Tree.{Tree}
use Rattle.mh_tree.specs.Tree as tree
use Rattle.mh_tree.specs.Use.{items_used_as, spread_use_row, use_row, used_as}
use Rattle.mh_tree.proofs.Provided.{provided-parts, provided_some-parts}
use Rattle.mh_form.specs.declared.basic.Basic.{Basic}
use Rattle.mh_form.specs.declared.field.Field.{Field}
use Rattle.mh_form.specs.Erasure.{basic_of}
use Rattle.mh_edit.specs.declared.key.Key.{Key}
use Rattle.mh_edit.specs.declared.key.Key.TheVariants as key
use Rattle.mh_edit.specs.Applied.{applied}
use Rattle.mh_edit.specs.Fit.{fits}
use Rattle.mh_handle.specs.declared.error.HandleError.{HandleError}
use Rattle.mh_handle.specs.declared.handle.Handle.{Handle}
use Rattle.mh_handle.specs.Grows.{Grows}
use Rattle.mh_handle.specs.Obeys.{Obeys}
use Rattle.mh_handle.specs.declared.work.Work.{Work}
use Rattle.mh_handle.specs.Recipe.{at_some, recipe}
use Rattle.mh_handle.specs.Stands.{HandleView, HasShape, IsShaped, Stands, handle_body}
use Rattle.mh_handle.specs.Works.{IsAccepted, Makes}
use Rattle.mh_handle.proofs.obeying.Limits.{limited-low}
use Rattle.mh_handle.proofs.obeying.Obeying.{grown-obeys}
use Rattle.mh_astype.specs.Use.{IsUse, MakesFrom}
use Rattle.mh_spread.specs.declared.spreading.Spreading.{Spreading}
use Rattle.mh_spread.specs.Spreading.{IsSpreading, MakesSpread, spread_keys}
use Rattle.mh_branch.proofs.ArrayFits.{spread-fits}
use Rattle.mh_branch.proofs.ArrayShapes.{spread-shaped}
use Rattle.mh_spread.proofs.SpreadRules.{items-are, spreading-row}
use Rattle.mh_spread.proofs.SpreadEdits.{makes-second}
use Rattle.mh_spread.proofs.SpreadStands.{spread-stands}

spread-light : (t : MethodTy) (weight : ℕ) (array : Option Ty) (count : ℕ) (u : MethodTy) → spread_row t weight array count ≡ Ok u → 1 + weight ≤ 256
spread-light t weight array count u row =
    let word = codes "spread" in
    let made : Comp → MethodTy = λ c. taking (spliced (length t.params - count) count (ty.Array c ∷ []) t.params) t in
    let within : Comp → TypeOrRefusal = λ c. limited word (1 + weight) (made c) in
    let q = provided_some-parts (component_of array) (illegal word) (λ c. provided (ends_with t.params count (item_type c)) (illegal word) (within c)) u row in
    let r = provided-parts (ends_with t.params count (item_type q.0)) (illegal word) (within q.0) u q.2 in
    (limited-low word (1 + weight) (made q.0) u r.1).1

module _
    (classes : List Class) (t used : HandleView) (array : Option Ty) (count : ℕ) (s : Spreading) (found : IsSpreading classes t.ty t.weight array count s)
    (obeys : Obeys (use_row classes t.ty t.weight s.asked) (Ok used)) (made_by : IsUse rules.AsType classes s.asked t used)
  where
    row : spread_row used.ty used.weight array count ≡ Ok s.own
    row =
        let both : ◌≡◌ {A = TypeOrRefusal} (Ok used.ty) (Ok s.asked) = sym obeys ∙ found.used in
        let is : used.ty ≡ s.asked = cc in
        (λ i. spread_row (is i) (made_by.weight i) array count) ∙ found.own

    pub call-fits : (b : Basic) → b ≡ basic_of (item_type s.component) → IsShaped used → IsTrue (fits (key.Spread count b) (handle_body used))
    call-fits b is shaped =
        subst (λ x. IsTrue (fits (key.Spread count x) (handle_body used))) (sym is)
        (spread-fits used.ty used.weight array count s.component s.own (handle_body used) row found.component shaped.made shaped.params)

    pub call-shaped : (b : Basic) → b ≡ basic_of (item_type s.component) → IsShaped used → HasShape (applied (key.Spread count b) (handle_body used)) s.own
    call-shaped b is shaped =
        subst (λ x. HasShape (applied (key.Spread count x) (handle_body used)) s.own) (sym is)
        (spread-shaped used.ty used.weight array count s.component s.own (handle_body used) row found.component shaped.params)

    pub call-light : 1 + used.weight ≤ 256
    call-light = spread-light used.ty used.weight array count s.own row

    pub call-obeys :
        (weight : ℕ) (sides : List MethodTy) (k : Key) (fields : List Field) (r : Result Handle HandleError) →
        IsAccepted r → IfOk r (λ h. Grows used h s.own weight sides k fields) → Obeys (spread_use_row classes t.ty t.weight array count) r
    call-obeys weight sides k fields r accepted grows =
        grown-obeys (spread_use_row classes t.ty t.weight array count) used s.own weight sides k fields r (spreading-row classes t.ty t.weight array count s
        found) accepted grows

    pub call-sides :
        (weight : ℕ) (sides : List MethodTy) (k : Key) (fields : List Field) (r : Result Handle HandleError) →
        sides ≡ [] → IfOk r (λ h. Grows used h s.own weight sides k fields) → IfOk r (λ (h : HandleView). h.sides ≡ t.sides)
    call-sides weight sides k fields (Ok h) none g = g.holds ∙ (ap (λ x. used.sides ++ x) none ∙ (append-nil used.sides ∙ made_by.sides))
    call-sides weight sides k fields (Err e) none g = g

    pub call-makes :
        (b : Basic) (a : Tree) (old mid new : Work) (r : Result Handle HandleError) →
        b ≡ basic_of (item_type s.component) →
        MakesFrom (recipe old.leaves.now a) (recipe old.leaves.now (used_as t.ty s.asked a)) old mid (Ok used) →
        Makes (used.form.recipe ++ key.Spread count b ∷ []) mid new r →
        IsAccepted r →
        Stands old.leaves.now used (used_as t.ty s.asked a) →
        MakesSpread t.ty array count a old new r
    call-makes b a old mid new r is first second accepted st =
        let table = old.leaves.now in
        let items = items_used_as t.ty array count a in
        let used-items : used_as t.ty s.asked a ≡ items = items-are classes t.ty t.weight array count s.component s.asked a found.component found.asked in
        let own : key.Spread count b ∷ [] ≡ spread_keys array count =
        ap (λ x. key.Spread count x ∷ []) is ∙ sym (ap (λ o. at_some o (λ c. key.Spread count (basic_of (item_type c)))) found.component) in
        let whole : used.form.recipe ++ key.Spread count b ∷ [] ≡ recipe table (tree.Spread items array count) =
        λ i. (st.made ∙ ap (recipe table) used-items) i ++ own i in
        makes-second (recipe table a) (recipe table items) (recipe table (tree.Spread items array count)) old mid new used r
        (subst (λ x. MakesFrom (recipe table a) (recipe table x) old mid (Ok used)) used-items first)
        (subst (λ ks. Makes ks mid new r) whole second) accepted

    pub call-stands :
        (table : LeafTable) (b : Basic) (weight : ℕ) (sides : List MethodTy) (fields : List Field) (r : Result Handle HandleError) (a : Tree) →
        table.classes ≡ classes →
        AreClasses table.classes →
        b ≡ basic_of (item_type s.component) →
        weight ≡ used.weight →
        sides ≡ [] →
        fields ≡ [] →
        IfOk r (λ h. Grows used h s.own (1 + weight) sides (key.Spread count b) fields) →
        Stands table used (used_as t.ty s.asked a) →
        IfOk r (λ h. Stands table h (tree.Spread (items_used_as t.ty array count a) array count))
    call-stands table b weight sides fields (Ok h) a same are is w none no_fields g st =
        spread-stands table used h (items_used_as t.ty array count a) array count s.component s.own are (subst (λ x. Stands table used x)
        (items-are classes t.ty t.weight array count s.component s.asked a found.component found.asked) st) row
        found.component (record {
          typed = g.typed;
          weighed = g.weighed ∙ ap (λ n. 1 + n) w;
          holds = g.holds ∙ ap (λ x. used.sides ++ x) none;
          made = g.made ∙ ap (λ x. used.form.recipe ++ key.Spread count x ∷ []) is;
          fielded = g.fielded ∙ ap (λ x. used.fields ++ x) no_fields;
        })
    call-stands table b weight sides fields (Err e) a same are is w none no_fields g st = g
