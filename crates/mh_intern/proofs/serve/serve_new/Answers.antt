use Rattle.std.proofs.Common.{rules, ap, ◌∙◌}
use Rattle.mh_values.specs.declared.types.MethodTy.{MethodTy}
use Rattle.mh_intern.specs.Buckets.{bucket_of}
use Rattle.mh_intern.specs.Held.{on_type}
use Rattle.mh_intern.proofs.Listing.{listed_placed}
use Rattle.mh_intern.proofs.serve.serve_new.Goals as goal

pub returns-in-Some-clause-keeper : goal.returns-in-Some-clause-keeper
returns-in-Some-clause-keeper c =
    let es = c.args.keeper.now.entries.items in
    record {
      of = search rules;
      free = search rules;
      view = search rules;
      listed = listed_placed c.args.bucket (record { slot = c.in-Some.slot; ty = c.args.new.entry }) es c.put.new.entries.items c.requires.keeper.listed
          c.put.ensures
          (ap bucket_of c.requires.owners ∙ c.requires.bucket.1) c.in-Some.ensures.found.0
          (ap (λ (t : MethodTy). on_type t es) c.requires.owners ∙ c.requires.absent);
    }
