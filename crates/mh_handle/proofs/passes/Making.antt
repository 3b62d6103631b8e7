-- What an edit leaves of a pass, as what the making of a handle leaves of the work.
use Rattle.std.proofs.Common.{List, Err}
use Rattle.mh_edit.specs.declared.key.Key.{Key}
use Rattle.mh_handle.specs.declared.error.EditError.{EditError}
use Rattle.mh_handle.specs.declared.error.EditError.TheVariants as edit
use Rattle.mh_handle.specs.declared.work.Work.{Work}
use Rattle.mh_handle.specs.Errors.{of_edit}
use Rattle.mh_handle.specs.Passes.{Edits}
use Rattle.mh_handle.specs.Works.{Makes}

pub makes-refused : (recipe : List Key) (old new : Work) (e : EditError) → Edits recipe old.pass.now new.pass.now (Err e) →
    Makes recipe old new (Err (of_edit e))
makes-refused recipe old new edit.NoMemory h = (h.0.1, h.1, h.2)
makes-refused recipe old new (edit.FormsFull drawn) h = h
