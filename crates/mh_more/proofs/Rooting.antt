-- What is answered where a root makes a handle of handles that are given one by one.
use Rattle.std.proofs.Common.{◌≡◌, subst, ap, ◌∙◌, List, [], ◌∷◌, ◌++◌, Result, Ok, Err, IfOk}
use Rattle.mh_values.specs.declared.types.MethodTy.{MethodTy}
use Rattle.mh_intern.specs.Views.{HoldView}
use Rattle.mh_handle.specs.declared.error.HandleError.{HandleError}
use Rattle.mh_handle.specs.declared.handle.Handle.{Handle}
use Rattle.mh_handle.specs.declared.work.Work.{Work}
use Rattle.mh_handle.specs.Grows.{GrowsBy, base_handle}
use Rattle.mh_handle.specs.Parts.{PartsView, no_parts}
use Rattle.mh_handle.specs.Stands.{HandleView}
use Rattle.mh_handle.specs.Works.{TradesTypes}
use Rattle.mh_branch.proofs.Trading.{trades-parts}
use Rattle.mh_more.specs.declared.several.Root.{Root}
use Rattle.mh_more.specs.Roots.{RootsParts}
use Rattle.mh_more.specs.Several.{AddsAll, ArePartsOf, types_held_by}

-- the handle has the root's type
pub roots-typed : (root : Root) (hs : List HandleView) (u : MethodTy) (r : Result Handle HandleError) → root.ty ≡ u → IfOk r (RootsParts root hs) →
    IfOk r (λ h. h.ty ≡ u)
roots-typed root hs u (Ok h) is made = made.1.typed ∙ is
roots-typed root hs u (Err e) is made = made

-- the handles are these
pub roots-same : (root : Root) (hs given : List HandleView) (r : Result Handle HandleError) → hs ≡ given → IfOk r (RootsParts root hs) →
    IfOk r (RootsParts root given)
roots-same root hs given r same made = subst (λ l. IfOk r (RootsParts root l)) same made

-- the types that they held are those of the handle
pub roots-types : (root : Root) (u : MethodTy) (held gone : List HoldView) (a b c : Work) (r : Result Handle HandleError) → root.ty ≡ u → held ≡ gone
    →
    b.seat.now ≡ a.seat.now → TradesTypes (root.ty ∷ []) held b c r → TradesTypes (u ∷ []) gone a c r
roots-types root u held gone a b c r is all same x = trades-parts u held gone a b c r all same (subst (λ t. TradesTypes (t ∷ []) held b c r) is x)

-- the handle that a root has made of parts, one for each handle
pub roots-made : (root : Root) (given hs : List HandleView) (none all : PartsView) (r : Result Handle HandleError) → none ≡ no_parts → hs ≡ given →
    AddsAll hs none all → GrowsBy base_handle (record { ty = root.ty; weight = root.weight; key = root.key; parts = all }) r → IfOk r (RootsParts root given)
roots-made root given hs none all (Ok h) bare same adds grows =
    let x = adds.fields in
    let fields : all.fields ≡ x.0 = x.1 ∙ ap (λ (p : PartsView). p.fields ++ x.0) bare in
    let sides : all.sides ≡ types_held_by given = adds.sides ∙ (λ i. (bare i).sides ++ types_held_by (same i)) in (
      x.0,
      record {
        typed = grows.typed;
        weighed = grows.weighed;
        holds = grows.holds ∙ sides;
        made = grows.made;
        fielded = grows.fielded ∙ fields;
      },
      subst (λ l. ArePartsOf l x.0) same x.2,
    )
roots-made root given hs none all (Err e) bare same adds grows = grows
