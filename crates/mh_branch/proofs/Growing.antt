-- The parts of a branch, added one after the other.
use Rattle.std.proofs.Common.{◌≡◌, ap, ◌∙◌, [], ◌∷◌, ◌++◌, Result, Ok, Err, IfOk}
use Rattle.mh_base.specs.declared.memory.NoMemory.{NoMemory}
use Rattle.mh_values.specs.declared.class.ClassId.{ClassId}
use Rattle.mh_form.specs.declared.field.Field.TheVariants as field
use Rattle.mh_handle.specs.Parts.{AddsHandle, PartsView, held_by, no_parts}
use Rattle.mh_handle.specs.Stands.{HandleView}
use Rattle.mh_branch.specs.Growths.{AddsHandler, AddsHandles, AreCatchParts, AreGuardParts}

if-ok : (r : Result PartsView NoMemory) (P Q : PartsView → Type 0) → IfOk r P → ((x : PartsView) → P x → Q x) → IfOk r Q
if-ok (Ok x) P Q has then-has = then-has x has
if-ok (Err e) P Q has then-has = has

guard-parts : (c t e : HandleView) (none one all : PartsView) → none ≡ no_parts → AddsHandle c none one → AddsHandles t e one all → AreGuardParts c t e all
guard-parts c t e none one all bare a more =
    let b = more.1 in
    let d = more.2 in
    let x = a.fields.0 in
    let y = b.fields.0 in
    let z = d.fields.0 in
    let first : one.fields ≡ x ∷ [] = a.fields.1 ∙ ap (λ (p : PartsView). p.fields ++ x ∷ []) bare in
    let second : more.0.fields ≡ x ∷ y ∷ [] = b.fields.1 ∙ ap (λ fs. fs ++ y ∷ []) first in
    let sides : one.sides ≡ held_by c = a.sides ∙ ap (λ (p : PartsView). p.sides ++ held_by c) bare in
    let held : one.held ≡ c.held = a.held ∙ ap (λ (p : PartsView). p.held ++ c.held) bare in
    record {
      fields = (x, y, z, d.fields.1 ∙ ap (λ fs. fs ++ z ∷ []) second, a.fields.2, b.fields.2, d.fields.2);
      sides = d.sides ∙ ap (λ s. s ++ held_by e) (b.sides ∙ ap (λ s. s ++ held_by t) sides);
      held = d.held ∙ ap (λ l. l ++ e.held) (b.held ∙ ap (λ l. l ++ t.held) held);
    }

catch-parts : (t : HandleView) (class : ClassId) (h : HandleView) (none one all : PartsView) → none ≡ no_parts → AddsHandle t none one →
    AddsHandler class h one all → AreCatchParts t class h all
catch-parts t class h none one all bare a d =
    let x = a.fields.0 in
    let z = d.fields.0 in
    let first : one.fields ≡ x ∷ [] = a.fields.1 ∙ ap (λ (p : PartsView). p.fields ++ x ∷ []) bare in
    let sides : one.sides ≡ held_by t = a.sides ∙ ap (λ (p : PartsView). p.sides ++ held_by t) bare in
    let held : one.held ≡ t.held = a.held ∙ ap (λ (p : PartsView). p.held ++ t.held) bare in
    record {
      fields = (x, z, d.fields.1 ∙ ap (λ fs. (fs ++ field.Class class ∷ []) ++ z ∷ []) first, a.fields.2, d.fields.2);
      sides = d.sides ∙ ap (λ s. s ++ held_by h) sides;
      held = d.held ∙ ap (λ l. l ++ h.held) held;
    }

module _ (none one : PartsView) (bare : none ≡ no_parts) (r : Result PartsView NoMemory) where
  pub guard-all : (c t e : HandleView) → AddsHandle c none one → IfOk r (AddsHandles t e one) → IfOk r (AreGuardParts c t e)
  guard-all c t e a more = if-ok r (AddsHandles t e one) (AreGuardParts c t e) more (λ all. guard-parts c t e none one all bare a)

  pub catch-all : (t : HandleView) (class : ClassId) (h : HandleView) → AddsHandle t none one → IfOk r (AddsHandler class h one) →
      IfOk r (AreCatchParts t class h)
  catch-all t class h a more = if-ok r (AddsHandler class h one) (AreCatchParts t class h) more (λ all. catch-parts t class h none one all bare a)
