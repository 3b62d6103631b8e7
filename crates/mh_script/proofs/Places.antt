-- The places of scripts in a list, when one more is put at its end.
use Rattle.std.proofs.Common.{◌≡◌, refl, sym, ap, ap₂, ◌∙◌, ℕ, ◌<◌, Bool, true, false, ◌||◌, cond, List, [], ◌∷◌, ◌++◌, length, Option, None, Some, position, option_map, IfSome}
use Rattle.std.specs.List.{list_any}
use Rattle.std.specs.Option.{option_or}
use Rattle.std.specs.Str.{bytes_eq}
use Rattle.mh_base.proofs.Positions.{position-push}
use Rattle.mh_leaves.proofs.Once.{position-within}
use Rattle.mh_script.specs.declared.script.Script.{Script}
use Rattle.mh_script.specs.declared.scripts.ScriptId.{ScriptId}
use Rattle.mh_script.specs.Index.{ByOwner, FindsFirst, KnowsOneMore}
use Rattle.mh_script.specs.Find.{has_texts, ArePlaces, script_named}

any-push : {A : Type 0} (f : A → Bool) (xs : List A) (y : A) → list_any f (xs ++ y ∷ []) ≡ (f y || list_any f xs)
any-push f [] y = refl
any-push f (x ∷ xs) y =
    ap (λ b. f x || b) (any-push f xs y)
    ∙ elim (f x) as (λ b. (b || (f y || list_any f xs)) ≡ (f y || (b || list_any f xs))) [ true ↦ sym (or_right (f y)) | false ↦ refl ]
  where
    or_right : (b : Bool) → (b || true) ≡ true
    or_right true = refl
    or_right false = refl

-- an index that finds one more script, after the others
pub places-more : (old new : ByOwner) (scripts more : List Script) (script : Script) (number : ℕ) → ArePlaces old scripts → number ≡ length scripts →
    FindsFirst old new script.method.owner script.method.name script.method.descriptor number → KnowsOneMore old new script.method.owner →
    more ≡ scripts ++ script ∷ [] → ArePlaces new more
places-more old new scripts more script number are here first knows pushed = rw pushed (record {
  found = λ o n d.
      first o n d ∙ ap₂ (λ x k. option_or x (cond (has_texts o n d script) (Some k) None)) (are.found o n d) here
      ∙ sym (position-push (has_texts o n d) scripts script);
  owners = λ o.
      knows o ∙ ap (λ b. bytes_eq script.method.owner o || b) (are.owners o)
      ∙ sym (any-push (λ (s : Script). bytes_eq s.method.owner o) scripts script);
})

-- a script that is found is one of the list
pub script_named-within : (scripts : List Script) (o n d : List ℕ) (r : Option ScriptId) → r ≡ script_named scripts o n d →
    IfSome r (λ id. id.0 < length scripts)
script_named-within scripts o n d r is = rw is (within (position (has_texts o n d) scripts) (position-within (has_texts o n d) scripts _ refl))
  where
    within : (p : Option ℕ) → IfSome p (λ i. i < length scripts) → IfSome (option_map (λ at. record { 0 = at }) p) (λ (id : ScriptId). id.0 < length scripts)
    within None h = tt
    within (Some i) h = h
