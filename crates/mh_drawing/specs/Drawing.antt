-- The drawing of forms and of the call sites that have them. Each form is a node, with an edge from the form that it was made of. Each call site is a box, with
-- an edge to the form of its target and to those of its side parts.
use Rattle.std.specs.Prelude.{ℕ, ◌-◌, ◌==◌, nat_le, Bool, true, false, if◌then◌else◌, List, [], ◌∷◌, ◌++◌, codes, flat_map, length, slice_get, Option, None, Some}
use Rattle.std.specs.Fmt.{decimal}
use Rattle.std.specs.List.{count_by, find}
use Rattle.std.specs.Str.{bytes_eq}
use Rattle.mh_values.specs.declared.class.Class.{Class}
use Rattle.mh_texts.specs.Printed.{shown_exception}
use Rattle.mh_form.specs.declared.body.FormBody.{FormBody}
use Rattle.mh_form.specs.declared.field.Field.{Field}
use Rattle.mh_form.specs.declared.field.Field.TheVariants.{Part'}
use Rattle.mh_form.specs.declared.name.Name.{Name}
use Rattle.mh_edit.specs.declared.key.Key.{Key}
use Rattle.mh_handle.specs.Form.{FormView, body_of}
use Rattle.mh_handle.specs.Stands.{HandleView}
use Rattle.mh_handle.specs.SameRecipes.{same_recipe}
use Rattle.mh_attempt.specs.declared.linkage.Linked.{Linked}
use Rattle.mh_attempt.specs.declared.linkage.Linked.TheVariants.{Target, Error}
use Rattle.mh_shown.specs.KeyText.{basics_text, key_text}
use Rattle.mh_shown.specs.NameText.{name_text, out_text}
use Rattle.mh_drawing.specs.declared.site.Site.{Site}
use Rattle.mh_drawing.specs.Dot.{form_node, label_line, site_node}

-- ---- forms

-- the last key of a recipe
abbrev pub last_text : Option Key → List ℕ
last_text None = codes "nothing"
last_text (Some key) = key_text key

-- the key that made a form of the one before
abbrev pub last_key : List Key → Option Key
last_key keys = slice_get keys (length keys - 1)

-- a name on a line of its own
abbrev pub name_line : Name → List ℕ
name_line name = label_line (name_text name)

-- the label of a form: its number, the key that made it, what it takes, its names in order, and what it gives
abbrev pub form_label : FormView → List ℕ
form_label form =
    let body = body_of form.recipe in
    label_line (codes "form " ++ decimal form.number) ++ label_line (last_text (last_key form.recipe)) ++ label_line (codes "takes " ++ basics_text body.params)
    ++ flat_map name_line body.names ++ label_line (codes "gives " ++ out_text body.out)

-- a form is shared if it is the target's form of two call sites or more
abbrev pub is_shared : List ℕ → ℕ → Bool
is_shared targets number = nat_le 2 (count_by (λ target. target == number) targets)

-- the look of a form, if it is shared
abbrev pub shared_look : Bool → List ℕ
shared_look true = codes ", style=filled, fillcolor=gold"
shared_look false = []

-- the node of a form
abbrev pub form_line : List ℕ → FormView → List ℕ
form_line targets form =
    codes "  " ++ form_node form.number ++ codes " [label=\"" ++ form_label form ++ codes "\"" ++ shared_look (is_shared targets form.number) ++ codes "];\n"

-- a recipe is another one with this key after it
abbrev pub is_then : List Key → List Key → Option Key → Bool
is_then recipe origin None = false
is_then recipe origin (Some key) = same_recipe recipe (origin ++ key ∷ [])

-- a form was made of another one by its last key
abbrev pub is_made_of : List Key → List Key → Bool
is_made_of recipe origin = is_then recipe origin (last_key recipe)

-- the form that the form of a recipe was made from, if it is among these; a root is made from nothing
abbrev pub origin_of : List FormView → List Key → Option FormView
origin_of forms recipe = find (λ origin. is_made_of recipe origin.recipe) forms

-- the edge from that form
abbrev pub edge_from : ℕ → Option FormView → List ℕ
edge_from number None = []
edge_from number (Some origin) = codes "  " ++ form_node origin.number ++ codes " -> " ++ form_node number ++ codes ";\n"

-- a form: its node, and the edge from the form that it was made of
abbrev pub form_text : List FormView → List ℕ → FormView → List ℕ
form_text forms targets form = form_line targets form ++ edge_from form.number (origin_of forms form.recipe)

-- ---- call sites

-- the number of the form of the target, if there is one
abbrev pub target_of : Linked → List ℕ
target_of (Target handle) = handle.form.number ∷ []
target_of (Error e) = []

-- the same of all call sites
abbrev pub targets_of : List Site → List ℕ
targets_of sites = flat_map (λ site. target_of site.linked.now) sites

-- how the call site is linked: by the attempt of a serial number, or to an error
abbrev pub ending_text : List Class → ℕ → Linked → List ℕ
ending_text classes serial (Target handle) = codes "serial " ++ decimal serial
ending_text classes serial (Error e) = codes "error " ++ shown_exception classes e

-- the label of a call site: its number, its class file, its method, its name and type, and how it is linked
abbrev pub site_label : List Class → Site → List ℕ
site_label classes site =
    label_line (codes "site " ++ decimal site.number) ++ label_line site.place.now.class ++ label_line site.place.now.method ++ label_line site.place.now.ty
    ++ label_line (ending_text classes site.serial site.linked.now)

-- the box of a call site
abbrev pub site_line : List Class → Site → List ℕ
site_line classes site = codes "  " ++ site_node site.number ++ codes " [shape=box, label=\"" ++ site_label classes site ++ codes "\"];\n"

-- what a body does, as a text, by which the form of a side part is found
abbrev pub body_text : FormBody → List ℕ
body_text body =
    basics_text body.params ++ flat_map (λ name. codes "; " ++ name_text name) body.names ++ codes "; " ++ out_text body.out

-- the first of the forms whose body has this text
abbrev pub form_of : List FormView → List ℕ → Option FormView
form_of forms text = find (λ form. bytes_eq (body_text (body_of form.recipe)) text) forms

-- the edge from a call site to the form of a side part
abbrev pub part_edge : ℕ → Option FormView → List ℕ
part_edge number None = []
part_edge number (Some form) = codes "  " ++ site_node number ++ codes " -> " ++ form_node form.number ++ codes " [style=dashed];\n"

-- the edge of a field, which a side part has
abbrev pub field_edge : List FormView → ℕ → Field → List ℕ
field_edge forms number (Part' part body shape fields) = part_edge number (form_of forms (body_text body.now))
field_edge forms number _ = []

-- the edge to the form of the target
abbrev pub target_edge : ℕ → HandleView → List ℕ
target_edge number handle = codes "  " ++ site_node number ++ codes " -> " ++ form_node handle.form.number ++ codes ";\n"

-- the edges of a call site: to the form of its target, and to those of the target's side parts
abbrev pub site_edges : List FormView → ℕ → Linked → List ℕ
site_edges forms number (Target handle) = target_edge number handle ++ flat_map (field_edge forms number) handle.fields
site_edges forms number (Error e) = []

-- a call site: its box and its edges
abbrev pub site_text : List Class → List FormView → Site → List ℕ
site_text classes forms site = site_line classes site ++ site_edges forms site.number site.linked.now

-- ---- the drawing

-- its first lines: how nodes look
unfoldable pub head : List ℕ
head = codes "digraph forms {\n  rankdir=LR;\n  node [fontname=monospace, fontsize=10];\n"

-- what the looks mean
unfoldable pub legend : List ℕ
legend =
    codes "  subgraph cluster_legend {\n    label=\"legend\";\n    l1 [label=\"a form\\lthe key that made it\\lits names\\l\"];\n"
    ++ codes "    l2 [label=\"a form that two\\lor more sites share\\l\", style=filled, fillcolor=gold];\n"
    ++ codes "    l3 [shape=box, label=\"a call site\\l\"];\n    l4 [label=\"form of a\\lside part\\l\"];\n"
    ++ codes "    l1 -> l2 [label=\"one more key\"];\n    l3 -> l2 [label=\"target\"];\n    l3 -> l4 [style=dashed, label=\"side part\"];\n  }\n"

-- the drawing of forms and call sites, with the names of classes
abbrev pub drawing : List Class → List FormView → List Site → List ℕ
drawing classes forms sites =
    head ++ legend ++ flat_map (form_text forms (targets_of sites)) forms ++ flat_map (site_text classes forms) sites ++ codes "}\n"
