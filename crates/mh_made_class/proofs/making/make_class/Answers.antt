use Rattle.std.proofs.Common.{◌≡◌, sym, subst}
use Rattle.std.proofs.lemmas.Result.{IfOk-weaker}
use Rattle.mh_made_class.specs.File.{made_class}
use Rattle.mh_made_class.specs.ReadBack.{ReadsBack}
use Rattle.mh_made_class.proofs.MadeFile.{reads_back}
use Rattle.mh_made_class.proofs.making.make_class.Goals as goal

pub returns-clause-class : goal.returns-clause-class
returns-clause-class c =
    let made = c.args.sites.now in
    IfOk-weaker c.write_class.result (λ file. file.items ≡ made_class made) (λ file. ReadsBack made file.items) (λ file is. subst (ReadsBack made) (sym is)
    (reads_back made c.requires)) c.write_class.ensures
