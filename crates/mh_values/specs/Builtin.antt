-- Rows of a table of classes.
use Rattle.std.specs.Prelude.{ℕ, nat_lt, Bool, true, ◌&&◌, not, List, [], ◌∷◌, ◌++◌, length, map, Option, option_map, is_some}
use Rattle.std.specs.Option.{option_map_or}
use denote.Ref.{Bor}
use Rattle.mh_values.specs.declared.class.Class.{Class}
use Rattle.mh_values.specs.Class.{class_at}
use Rattle.mh_values.specs.Classes.{class_named, class_of}

-- the class of a row, by its name and the number of its superclass
abbrev pub class_of_row : List ℕ → Option ℕ → Class
class_of_row name superclass = class_of name (option_map class_at superclass)

-- the classes of rows
abbrev pub classes_of_rows : List (Bor (List ℕ) × Option ℕ) → List Class
classes_of_rows rows = map (λ row. class_of_row row.0.now row.1) rows

-- whether a class may stand after these: its name is new, its superclass is one of them
abbrev pub may_follow : List Class → Class → Bool
may_follow before class = not (is_some (class_named before class.name)) && option_map_or (λ c. nat_lt c.0 (length before)) class.superclass true

-- whether each class may stand after those before it
abbrev pub may_follow_each : List Class → List Class → Bool
may_follow_each before [] = true
may_follow_each before (class ∷ classes) = may_follow before class && may_follow_each (before ++ class ∷ []) classes
