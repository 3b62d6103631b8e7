-- Why two call sites share a form, or why they do not.
use Rattle.std.specs.Prelude.{ℕ, ◌+◌, ◌==◌, if◌then◌else◌, List, [], ◌∷◌, ◌++◌, codes, Option, None, Some, slice_get}
use Rattle.std.specs.Fmt.{decimal}
use Rattle.std.specs.Str.{bytes_eq}
use Rattle.mh_values.specs.declared.class.Class.{Class}
use Rattle.mh_values.specs.declared.value.Exc.{Exc}
use Rattle.mh_texts.specs.Printed.{shown_exception}
use Rattle.mh_form.specs.declared.field.Field.{Field}
use Rattle.mh_edit.specs.declared.key.Key.{Key}
use Rattle.mh_handle.specs.Form.{FormView}
use Rattle.mh_handle.specs.Stands.{HandleView}
use Rattle.mh_attempt.specs.declared.linkage.Linked.{Linked}
use Rattle.mh_attempt.specs.declared.linkage.Linked.TheVariants.{Target, Error}
use Rattle.mh_shown.specs.KeyText.{key_text}
use Rattle.mh_drawing.specs.declared.site.Site.{Site}
use Rattle.mh_drawing.specs.Fields.{held_text}

-- ---- recipes

-- how many keys two recipes have in common before they part
abbrev pub common : List Key → List Key → ℕ
common (a ∷ xs) (b ∷ ys) = if bytes_eq (key_text a) (key_text b) then common xs ys + 1 else 0
common _ _ = 0

-- the key at which a recipe parts from another one, if it goes on
abbrev pub parting_text : Option Key → List ℕ
parting_text None = codes "no further key"
parting_text (Some key) = key_text key

-- two recipes part at a key: what each has there
abbrev pub against_text : ℕ → List Key → List Key → List ℕ
against_text at one other =
    codes "their recipes part at key " ++ decimal at ++ codes ": " ++ parting_text (slice_get one at) ++ codes " against " ++ parting_text (slice_get other at)
    ++ codes "\n"

-- ---- fields

-- what a field holds in both, if it is not written the same
abbrev pub field_line : ℕ → List ℕ → List ℕ → List ℕ
field_line number one other =
    if bytes_eq one other then [] else codes "field f" ++ decimal number ++ codes ": " ++ one ++ codes " against " ++ other ++ codes "\n"

-- the fields that differ, numbered from a number on
abbrev pub fields_text : List Class → List FormView → ℕ → List Field → List Field → List ℕ
fields_text classes forms number (a ∷ xs) (b ∷ ys) =
    field_line number (held_text classes forms a) (held_text classes forms b) ++ fields_text classes forms (number + 1) xs ys
fields_text classes forms number _ _ = []

-- ---- call sites

-- two call sites, by their numbers
abbrev pub pair_text : ℕ → ℕ → List ℕ
pair_text one other = codes "sites " ++ decimal one ++ codes " and " ++ decimal other

-- a call site that has no form, because it is linked to an error
abbrev pub no_form_line : List Class → ℕ → Exc → List ℕ
no_form_line classes number e = codes "site " ++ decimal number ++ codes " has no form: it is linked to an error, " ++ shown_exception classes e ++ codes "\n"

-- the same of a call site as it is linked
abbrev pub error_line : List Class → ℕ → Linked → List ℕ
error_line classes number (Target handle) = []
error_line classes number (Error e) = no_form_line classes number e

-- two call sites share a form
abbrev pub shared_line : ℕ → ℕ → ℕ → List ℕ
shared_line m n form = pair_text m n ++ codes " share form " ++ decimal form ++ codes "\n"

-- two call sites have two forms
abbrev pub apart_line : ℕ → ℕ → ℕ → ℕ → List ℕ
apart_line m n one other = pair_text m n ++ codes " have forms " ++ decimal one ++ codes " and " ++ decimal other ++ codes "\n"

-- two call sites have two forms: where their recipes part
abbrev pub two_forms_text : ℕ → FormView → ℕ → FormView → List ℕ
two_forms_text m one n other =
    apart_line m n one.number other.number ++ against_text (common one.recipe other.recipe) one.recipe other.recipe

-- two call sites with targets: the form that they share with the fields that differ, or where the recipes of their forms part
abbrev pub handles_text : List Class → List FormView → ℕ → HandleView → ℕ → HandleView → List ℕ
handles_text classes forms m one n other =
    if one.form.number == other.form.number
    then shared_line m n one.form.number ++ fields_text classes forms 0 one.fields other.fields
    else two_forms_text m one.form n other.form

-- two call sites as they are linked
abbrev pub linked_text : List Class → List FormView → ℕ → Linked → ℕ → Linked → List ℕ
linked_text classes forms m (Target one) n (Target other) = handles_text classes forms m one n other
linked_text classes forms m one n other = error_line classes m one ++ error_line classes n other

-- why two call sites share a form, or why they do not
abbrev pub why_text : List Class → List FormView → Site → Site → List ℕ
why_text classes forms one other = linked_text classes forms one.number one.linked.now other.number other.linked.now
