-- Bodies of forms.
use Rattle.std.specs.Prelude.{[], None}
use Rattle.mh_form.specs.declared.body.FormBody.{FormBody}

-- the body that the first edit of each form begins with
abbrev pub nothing : FormBody
nothing = record { params = []; fields = 0; names = []; out = None }
