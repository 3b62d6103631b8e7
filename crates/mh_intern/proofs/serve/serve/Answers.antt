use Rattle.std.proofs.Common.{ap, sym, subst}
use Rattle.mh_intern.specs.Keep.{IsKeeper}
use Rattle.mh_intern.proofs.Listing.{listed_found}
use Rattle.mh_intern.proofs.serve.serve.Goals as goal

pub serve_listed-requires-clause-keeper : goal.serve_listed-requires-clause-keeper
serve_listed-requires-clause-keeper c =
    let r = c.requires in
    let asked = c.args.request in
    let l = listed_found asked.bucket asked.ty _ _ r.keeper.listed r.bucket.0 c.deref.ensures.value c.in_ok-hold.ensures c.in-Some.is in
    subst (λ b. IsKeeper c.args.steps.now.table_id b c.args.keeper.now) (sym l.2) c.requires.keeper

pub serve_listed-requires-clause-slot : goal.serve_listed-requires-clause-slot
serve_listed-requires-clause-slot c =
    let r = c.requires in
    let asked = c.args.request in
    let l = listed_found asked.bucket asked.ty _ _ r.keeper.listed r.bucket.0 c.deref.ensures.value c.in_ok-hold.ensures c.in-Some.is in
    l.1

pub returns-in-Some-clause-keeper : goal.returns-in-Some-clause-keeper
returns-in-Some-clause-keeper c =
    let r = c.requires in
    let asked = c.args.request in
    let l = listed_found asked.bucket asked.ty _ _ r.keeper.listed r.bucket.0 c.deref.ensures.value c.in_ok-hold.ensures c.in-Some.is in
    subst (λ b. IsKeeper c.args.steps.now.table_id b c.serve_listed.new.keeper) l.2 c.serve_listed.ensures.keeper

pub returns-in-Some-clause-caller : goal.returns-in-Some-clause-caller
returns-in-Some-clause-caller c =
    let r = c.requires in
    let asked = c.args.request in
    let l = listed_found asked.bucket asked.ty _ _ r.keeper.listed r.bucket.0 c.deref.ensures.value c.in_ok-hold.ensures c.in-Some.is in
    (l.0, l.1, ap (λ m. m.0) c.serve_listed.ensures.caller.1)
