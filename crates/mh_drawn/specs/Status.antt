-- The statuses that the program ends with. They are those of `mh`.
use Rattle.std.specs.Prelude.{ℕ}

-- what was asked for was written
abbrev pub done : ℕ
done = 0

-- an input was refused, or a call site that is not there was asked for
abbrev pub refused : ℕ
refused = 1

-- the words were refused
abbrev pub usage_wanted : ℕ
usage_wanted = 2

-- no memory was left
abbrev pub no_memory : ℕ
no_memory = 3

-- no number was left for a form
abbrev pub forms_full : ℕ
forms_full = 4

-- no slot was left for a type
abbrev pub types_full : ℕ
types_full = 5

-- an input could not be read
abbrev pub unread : ℕ
unread = 6

-- the text could not be written
abbrev pub write_failed : ℕ
write_failed = 7
