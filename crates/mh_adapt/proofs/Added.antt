-- A part that was added to what an adapter adds, and what the handle with it has grown by.
use Rattle.std.proofs.Common.{◌≡◌, ap, ◌∙◌, [], ◌∷◌, ◌++◌, Result, Ok, Err, IfOk}
use Rattle.mh_handle.specs.declared.error.HandleError.{HandleError}
use Rattle.mh_handle.specs.declared.growth.Growth.{Growth}
use Rattle.mh_handle.specs.declared.handle.Handle.{Handle}
use Rattle.mh_handle.specs.Grows.{Grows}
use Rattle.mh_handle.specs.Parts.{AddsHandle, PartsView, held_by, no_parts}
use Rattle.mh_handle.specs.Stands.{HandleView}
use Rattle.mh_adapt.specs.Parts.{GrowsByPart}

module _ (t part : HandleView) (by : Growth) (parts : PartsView) (none : by.parts ≡ no_parts) (adds : AddsHandle part by.parts parts) where
  pub part-grows : (r : Result Handle HandleError) → IfOk r (λ new. Grows t new by.ty by.weight parts.sides by.key parts.fields) → GrowsByPart t by part r
  part-grows (Ok h) grows =
      let f = adds.fields in (
        f.0,
        f.2,
        record {
          typed = grows.typed;
          weighed = grows.weighed;
          holds = grows.holds ∙ ap (λ s. t.sides ++ s) (adds.sides ∙ ap (λ (p : PartsView). p.sides ++ held_by part) none);
          made = grows.made;
          fielded = grows.fielded ∙ ap (λ fs. t.fields ++ fs) (f.1 ∙ ap (λ (p : PartsView). p.fields ++ f.0 ∷ []) none);
        },
      )
  part-grows (Err e) grows = grows
