use Rattle.mh_listing.proofs.Lines.{six-pieces}
use Rattle.mh_listing.specs.Listing.{place_text, bootstrap_text, call_text}
use Rattle.std.specs.Prelude.{codes, slice_get}
use Rattle.mh_listing.proofs.printing.push_site.Goals as goal

pub returns : goal.returns
returns c =
    six-pieces _ _ _ _ _ _ _
    (place_text c.args.number c.args.site.now) (codes " ") (bootstrap_text (slice_get c.args.view.now.bootstraps c.args.site.now.bootstrap)) (codes " ")
    (call_text c.args.site.now) (codes "\n")
    c.in_ok-push_place.ensures c.in_ok-extend_from_slice.ensures.items c.in_ok-push_bootstrap.ensures c.in_ok-extend_from_slice-2.ensures.items
    c.in_ok-push_call.ensures c.in_ok-extend_from_slice-3.ensures.items
