-- The owner of a script that is found is known.
use Rattle.std.proofs.Common.{◌≡◌, refl, ap, ◌∙◌, ℕ, ◌+◌, ◌<◌, Bool, true, false, inl, inr, not, ◌||◌, cond, nat_lt, List, [], ◌∷◌, length, Some, None, is_some, position, Ok, ok_or, arith}
use Rattle.std.proofs.lemmas.Bool.{cases_Bool, ltb-true, and_parts}
use Rattle.std.specs.List.{list_any, position_or_len}
use Rattle.mh_base.proofs.Inversion.{map_some}
use Rattle.mh_values.specs.declared.class.Class.{Class}
use Rattle.mh_script.specs.declared.script.Script.{Script}
use Rattle.mh_script.specs.declared.scripts.ScriptId.{ScriptId}
use Rattle.mh_script.specs.Find.{has_owner, has_texts, script_named}
use Rattle.mh_values.specs.Classes.{class_named}
use Rattle.mh_script.specs.declared.script.MethodName.{MethodName}
use Rattle.mh_jobs.specs.Names.{is_known_owner, script_of}
use Rattle.mh_jobs.specs.Thrown.{Says, ◌>>◌, require, no_class, no_method}

or-true : (b : Bool) → b || true ≡ true
or-true true = refl
or-true false = refl

-- a test that an item before the end passes, and that implies another
some-passes : {A : Type 0} (p q : A → Bool) → ((x : A) → p x ≡ true → q x ≡ true) → (xs : List A) → position_or_len p xs < length xs →
    list_any q xs ≡ true
some-passes p q implies [] within = absurd (omega (arith, within))
some-passes p q implies (x ∷ xs) within =
    elim (cases_Bool (p x)) [
      | inl e ↦ ap (λ b. b || list_any q xs) (implies x e)
      | inr e ↦
          let there : position_or_len p (x ∷ xs) ≡ 1 + position_or_len p xs = ap (λ t. cond (not t) (1 + position_or_len p xs) 0) e in
          ap (λ b. q x || b) (some-passes p q implies xs (omega (arith, within, there))) ∙ or-true (q x)
    ]

within : (t : Bool) (n at : ℕ) → cond t (Some n) None ≡ Some at → t ≡ true
within true n at found = refl
within false n at found = absurd cc

-- the owner of a script is known
known-owner : (classes : List Class) (scripts : List Script) (owner name descriptor : List ℕ) (id : ScriptId) →
    script_named scripts owner name descriptor ≡ Some id → is_known_owner classes scripts owner ≡ true
known-owner classes scripts owner name descriptor id found =
    let passes = has_texts owner name descriptor in
    let place = map_some (λ at. record { 0 = at }) (position passes scripts) id found in
    let before = ltb-true (position_or_len passes scripts) (length scripts)
    (within (nat_lt (position_or_len passes scripts) (length scripts)) (position_or_len passes scripts) place.0 place.1) in
    let some : has_owner scripts owner ≡ true = some-passes passes _ (λ s e. (and_parts _ _ e).0) scripts before in
    ap (λ b. is_some (class_named classes owner) || b) some ∙ or-true (is_some (class_named classes owner))

-- so a script that is found is the method
pub found-script : (says : Says) (classes : List Class) (scripts : List Script) (m : MethodName) (id : ScriptId) →
    script_named scripts m.owner m.name m.descriptor ≡ Some id → script_of says classes scripts m ≡ Ok id
found-script says classes scripts m id found =
    ap (λ b. require b (no_class says m.owner) >> ok_or (script_named scripts m.owner m.name m.descriptor) (no_method says m))
    (known-owner classes scripts m.owner m.name m.descriptor id found)
    ∙ ap (λ o. ok_or o (no_method says m)) found
