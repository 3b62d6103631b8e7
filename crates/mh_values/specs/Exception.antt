-- What an exception says: its class, its message, and what it was caused by.
use Rattle.std.specs.Prelude.{ℕ, List, [], None}
use Rattle.mh_values.specs.declared.class.ClassId.{ClassId}
use Rattle.mh_values.specs.declared.value.ExcParts.{ExcParts}
use Rattle.mh_values.specs.declared.value.ExcKept.{ExcKept}
use Rattle.mh_values.specs.declared.value.ExcKept.TheVariants.{Bare, Said}

-- an exception of a class, with a message and without a cause
abbrev pub saying : ClassId → List ℕ → ExcParts
saying class message = record { class = class; message = message; cause = None }

-- an exception of a class, with an empty message
abbrev pub bare : ClassId → ExcParts
bare class = saying class []

-- the same exception with another message
abbrev pub with_message : List ℕ → ExcParts → ExcParts
with_message message e = record { class = e.class; message = message; cause = e.cause }

-- what an exception says if this is kept of it
abbrev pub kept_exc : ExcKept → ExcParts
kept_exc (Bare class) = bare class
kept_exc (Said parts) = parts
