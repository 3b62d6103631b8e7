-- Errors of rules and of the table of types, as errors of the calls that make handles.
use Rattle.mh_intern.specs.declared.error.InternError.{InternError}
use Rattle.mh_intern.specs.declared.error.InternError.TheVariants as intern
use Rattle.mh_tree.specs.declared.error.CheckError.{CheckError}
use Rattle.mh_tree.specs.declared.error.CheckError.TheVariants as check
use Rattle.mh_handle.specs.declared.error.EditError.{EditError}
use Rattle.mh_handle.specs.declared.error.EditError.TheVariants as edit
use Rattle.mh_handle.specs.declared.error.HandleError.{HandleError}
use Rattle.mh_handle.specs.declared.error.HandleError.TheVariants as handle

-- an edit that was refused
abbrev pub of_edit : EditError → HandleError
of_edit edit.NoMemory = handle.NoMemory
of_edit (edit.FormsFull drawn) = handle.FormsFull drawn

-- the error of a check of a rule
abbrev pub of_check : CheckError → HandleError
of_check check.NoMemory = handle.NoMemory
of_check (check.Refused e) = handle.Refused e

-- the error of a request for a type
abbrev pub of_intern : InternError → HandleError
of_intern intern.NoMemory = handle.NoMemory
of_intern (intern.TypesFull bucket) = handle.TypesFull bucket
