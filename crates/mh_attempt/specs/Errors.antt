-- Errors of edits, as errors of calls.
use Rattle.mh_handle.specs.declared.error.EditError.{EditError}
use Rattle.mh_handle.specs.declared.error.EditError.TheVariants as edit
use Rattle.mh_attempt.specs.declared.error.WorkError.{WorkError}
use Rattle.mh_attempt.specs.declared.error.WorkError.TheVariants as work

-- the error of an edit
abbrev pub of_edit : EditError → WorkError
of_edit edit.NoMemory = work.NoMemory
of_edit (edit.FormsFull drawn) = work.FormsFull drawn
