-- The statuses that the program ends with.
use Rattle.std.specs.Prelude.{◌≡◌, ◌≢◌, ◌⊎◌, ◌<◌, ◌≤◌, ℕ}
use Rattle.mh_outside.specs.Causes.{Rose}

-- what was asked for was written
abbrev pub done : ℕ
done = 0

-- an input was refused
abbrev pub refused : ℕ
refused = 1

-- the words were refused
abbrev pub usage_wanted : ℕ
usage_wanted = 2

-- no memory was left
abbrev pub no_memory : ℕ
no_memory = 3

-- no number was left for a form
abbrev pub forms_full : ℕ
forms_full = 4

-- no slot was left for a type
abbrev pub types_full : ℕ
types_full = 5

-- an input could not be read
abbrev pub unread : ℕ
unread = 6

-- the text could not be written
abbrev pub write_failed : ℕ
write_failed = 7

-- one of these: a number up to the last
abbrev pub IsStatus : ℕ → Type 0
IsStatus status = status ≤ write_failed

-- the words are refused, or memory was wanting
abbrev pub IsUsageOrWant : ℕ → Type 0
IsUsageOrWant status = (status ≡ usage_wanted) ⊎ (status ≡ no_memory)

-- the input is refused, or memory was wanting
abbrev pub IsRefusedOrWant : ℕ → Type 0
IsRefusedOrWant status = (status ≡ refused) ⊎ (status ≡ no_memory)

-- an input could not be read, or memory was wanting
abbrev pub IsUnreadOrWant : ℕ → Type 0
IsUnreadOrWant status = (status ≡ unread) ⊎ (status ≡ no_memory)

-- the run is complete, or memory was wanting
abbrev pub IsDoneOrWant : ℕ → Type 0
IsDoneOrWant status = (status ≡ done) ⊎ (status ≡ no_memory)

-- the run is complete, or memory was wanting, or a table is full: of forms or of types
abbrev pub IsDoneFullOrWant : ℕ → Type 0
IsDoneFullOrWant status = IsDoneOrWant status ⊎ ((status ≡ forms_full) ⊎ (status ≡ types_full))

-- the status says if and only if the sink failed: then its count of faults rose, and at any other status it stayed
pub record FailsWhere (status before now : ℕ) : Type 0 where
  pub failed : status ≡ write_failed → Rose before now
  pub still : status ≢ write_failed → now ≡ before
  pub fault : before < now → status ≡ write_failed
