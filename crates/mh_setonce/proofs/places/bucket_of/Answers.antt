use Rattle.mh_setonce.proofs.Buckets.{low-bits}
use Rattle.mh_setonce.proofs.places.bucket_of.Goals as goal

pub returns : goal.returns
returns c = low-bits c.args.hash c.args.buckets c.requires
