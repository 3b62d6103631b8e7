-- What a key that fits makes is not nothing, so that further keys can be applied to it.
use Rattle.std.proofs.Common.{◌≡◌, refl, sym, ap, ◌∙◌, true, false, ◌&&◌, Option, Some, None, ℕ, suc, ◌+◌, List, [], ◌∷◌, length, map, length-append, arith}
use Rattle.std.specs.Prelude.{IsTrue, is_some, not, ◌==◌}
use Rattle.std.specs.Option.{option_map}
use Rattle.std.proofs.lemmas.List.{length-map}
use Rattle.std.proofs.lemmas.Bool.{false_from_ne_true, not-true}
use Rattle.mh_values.specs.Computation.{spliced}
use Rattle.mh_form.specs.declared.basic.Basic.{Basic}
use Rattle.mh_form.specs.declared.basic.BasicRet.{BasicRet}
use Rattle.mh_form.specs.declared.body.FormBody.{FormBody}
use Rattle.mh_form.specs.declared.name.Name.{Name}
use Rattle.mh_form.specs.declared.name.Name.TheVariants.{Link, Ret}
use Rattle.mh_edit.specs.Applied.{applied, conv_params, converting, finishing, places_of}
use Rattle.mh_edit.specs.Fit.{fits, is_basic_at, is_nothing, names_each}
use Rattle.mh_edit.specs.Rename.{place_by, reframed, renamed}
use Rattle.mh_edit.specs.declared.key.Key.{Key}
use Rattle.mh_edit.specs.declared.key.Key.TheVariants.{LeafRoot, ConstRoot, IdentityRoot, ThrowRoot, GuardRoot, CatchRoot, TryRoot, SwitchRoot, LoopRoot, ConcatRoot, Bind, Add, Permute, Collect, Fold, FilterReturn, Convert, Spread, Gather}
use Rattle.mh_edit.specs.declared.key.RetEntry.TheVariants.{Keep, New}
use Rattle.mh_edit.proofs.Converted.{length-conv_params}
use Rattle.mh_edit.proofs.Fitting.{first-true, second-true, same-number, at-most}
use Rattle.mh_edit.proofs.Places.{length-spliced}

-- what nothing has
nothing-has :
    (body : FormBody) → is_nothing body ≡ true → (length body.params ≡ 0) × (body.fields ≡ 0) × (length body.names ≡ 0) × (is_some body.out ≡ false)
nothing-has body h =
    let rest = second-true (length body.params == 0) _ h in
    let more = second-true (body.fields == 0) _ rest in (
      same-number (length body.params) 0 (first-true (length body.params == 0) _ h),
      same-number body.fields 0 (first-true (body.fields == 0) _ rest),
      same-number (length body.names) 0 (first-true (length body.names == 0) _ more),
      not-true (is_some body.out) (second-true (length body.names == 0) _ more),
    )

nothing-if :
    (body : FormBody) → length body.params ≡ 0 → body.fields ≡ 0 → length body.names ≡ 0 → is_some body.out ≡ false → is_nothing body ≡ true
nothing-if body params fields names out =
    ap (λ n. n == 0 && (body.fields == 0 && (length body.names == 0 && not (is_some body.out)))) params
    ∙ (ap (λ n. n == 0 && (length body.names == 0 && not (is_some body.out))) fields
    ∙ (ap (λ n. n == 0 && not (is_some body.out)) names ∙ ap not out))

made-if :
    (body : FormBody) →
    (length body.params ≡ 0 → body.fields ≡ 0 → length body.names ≡ 0 → is_some body.out ≡ false → ⊥) →
    is_nothing body ≡ false
made-if body h = false_from_ne_true (is_nothing body) (λ is. let q = nothing-has body is in h q.0 q.1 q.2 q.3)

-- a body with a name is made
named-made : (body : FormBody) (x : Name) (xs : List Name) → body.names ≡ x ∷ xs → is_nothing body ≡ false
named-made body x xs is = made-if body (λ params fields names out. let e : length body.names ≡ suc (length xs) = ap length is in absurd (omega arith))

is_some-map : (o : Option ℕ) (f : ℕ → ℕ) → is_some (option_map f o) ≡ is_some o
is_some-map None f = refl
is_some-map (Some p) f = refl

-- a body that was made stays made, where parameters remain
reframed-made :
    (old : FormBody) (params : List Basic) (before : List Name) (table : List ℕ) (more : ℕ) →
    is_nothing old ≡ false →
    (length params ≡ 0 → length old.params ≡ 0) →
    is_nothing (reframed old params before table more) ≡ false
reframed-made old params before table more was remain =
    let to = place_by table (length params + length before) in
    let moved = length-append before (map (renamed to) old.names) in
    let same = length-map old.names (renamed to) in
    made-if (reframed old params before table more) (λ none fields names out.
    let is : is_nothing old ≡ true = nothing-if old (remain none) (omega arith) (omega arith) (sym (is_some-map old.out to) ∙ out) in
    let both : false ≡ true = sym was ∙ is in
    cc)

-- one name more
finished-made : (last : Option ℕ → Name) (ret : BasicRet) (body : FormBody) → is_nothing (finishing last ret body) ≡ false
finished-made last ret body =
    made-if (finishing last ret body) (λ params fields names out.
    let long = length-append body.names (last body.out ∷ []) in absurd (omega arith))

no-basic : (basics : List Basic) (r : ℕ) (b : Basic) → length basics ≡ 0 → is_basic_at basics r b ≡ true → ⊥
no-basic [] r b none h = cc
no-basic (c ∷ basics) r b none h = omega arith

names-remain : (basics : List Basic) (reorder : List ℕ) (params : List Basic) → names_each basics reorder params ≡ true → length basics ≡ 0 → length params ≡ 0
names-remain basics [] params h none = same-number (length params) 0 h
names-remain basics (r ∷ reorder) [] h none = refl
names-remain basics (r ∷ reorder) (b ∷ params) h none = absurd (no-basic basics r b none (first-true (is_basic_at basics r b) _ h))

pub made-applied : (key : Key) (body : FormBody) → IsTrue (fits key body) → is_nothing (applied key body) ≡ false
made-applied (LeafRoot shape) body h = named-made (applied (LeafRoot shape) body) _ [] refl
made-applied (ConstRoot b) body h = refl
made-applied (IdentityRoot b) body h = refl
made-applied (ThrowRoot ret) body h = refl
made-applied (GuardRoot shape test) body h = named-made (applied (GuardRoot shape test) body) _ _ refl
made-applied (CatchRoot shape handler) body h = named-made (applied (CatchRoot shape handler) body) _ [] refl
made-applied (TryRoot shape cleanup) body h = named-made (applied (TryRoot shape cleanup) body) _ [] refl
made-applied (SwitchRoot shape count) body h = named-made (applied (SwitchRoot shape count) body) _ [] refl
made-applied (LoopRoot shape iterations init turns) body h = named-made (applied (LoopRoot shape iterations init turns) body) _ [] refl
made-applied (ConcatRoot shape) body h = named-made (applied (ConcatRoot shape) body) _ [] refl
made-applied (Bind pos) body h = named-made (applied (Bind pos) body) _ _ refl
made-applied (Add pos basics) body h =
    let was = not-true (is_nothing body) (first-true (not (is_nothing body)) _ h) in
    let within = at-most pos (length body.params) (second-true (not (is_nothing body)) _ h) in
    let size = length-spliced pos 0 basics body.params (omega arith) in
    reframed-made body (spliced pos 0 basics body.params) [] _ 0 was (λ none. omega arith)
made-applied (Permute basics reorder) body h =
    let was = not-true (is_nothing body) (first-true (not (is_nothing body)) _ h) in
    reframed-made body basics [] reorder 0 was (names-remain basics reorder body.params (second-true (not (is_nothing body)) _ h))
made-applied (Collect pos basics ret) body h = named-made (applied (Collect pos basics ret) body) _ _ refl
made-applied (Fold pos count ret) body h = named-made (applied (Fold pos count ret) body) _ _ refl
made-applied (FilterReturn ret) body h = finished-made (λ out. Link body.fields (places_of out)) ret body
made-applied (Convert entries Keep) body h =
    let was = not-true (is_nothing body) (first-true (not (is_nothing body)) _ h) in
    let each = same-number (length entries) (length body.params) (second-true (not (is_nothing body)) _ h) in
    let size = length-conv_params entries body.params each in
    reframed-made body (conv_params entries body.params) _ _ _ was (λ none. omega arith)
made-applied (Convert entries (New ret)) body h = finished-made (Ret (converting entries body).fields) ret (converting entries body)
made-applied (Spread count b) body h = named-made (applied (Spread count b) body) _ _ refl
made-applied (Gather count b) body h = named-made (applied (Gather count b) body) _ _ refl
