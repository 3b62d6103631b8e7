use Rattle.mh_runtime.specs.Passes.{most_sites}
use Rattle.mh_main.specs.Input.{listing_input, to_list}
use Rattle.mh_main.specs.Stops.{Refuses}
use Rattle.mh_words.specs.Options.{said}
use Rattle.mh_main.proofs.ClassListing.{all-listed}
use Rattle.mh_main.proofs.Reaching.{handed}
use Rattle.mh_main.proofs.listing.list_sites.Goals as goal

pub returns-in_err-list_classes-clause-refuses : goal.returns-in_err-list_classes-clause-refuses
returns-in_err-list_classes-clause-refuses g c =
    handed c.from_residual.result c.in_err-list_classes.field-0.0
    (λ stop. Refuses (listing_input most_sites (said c.args.names.now) (g.I.Inputs.contents c.args.inputs.now)) stop)
    c.from_residual.ensures.1 (c.in_err-list_classes.ensures.refuses to_list)

pub returns-clause-ok : goal.returns-clause-ok
returns-clause-ok g c =
    all-listed (said c.args.names.now) (g.I.Inputs.contents c.args.inputs.now) c.list_classes.new.text.items
    (rw c.new-text.ensures.items at c.in_ok-list_classes.ensures.ok)
