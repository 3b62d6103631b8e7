-- What stops the reading of a file, or of the bytes in it, stops that of the text or the class.
use Rattle.std.proofs.Common.{ℕ, List, Result}
use Rattle.mh_base.specs.declared.lines.LineFault.{LineFault}
use Rattle.mh_outside.specs.Contents.{Contents}
use Rattle.mh_main.specs.declared.stop.Stop.{Stop}
use Rattle.mh_main.specs.declared.stop.Stop.TheVariants.{NoMemory, ReadFault, TooLong, Fault, Place}
use Rattle.mh_main.specs.Stops.{StopsText, StopsFile}

pub unread_text :
    {T K : Type 0} (limit : ℕ) (word : K → List ℕ) (meaning : List ℕ → Result T (LineFault K)) (contents : Contents) (stop : Stop) →
    StopsFile limit contents stop →
    StopsText limit word meaning contents stop
unread_text limit word meaning contents NoMemory unread = tt
unread_text limit word meaning contents (ReadFault at) unread = tt
unread_text limit word meaning contents (TooLong at) unread = unread
unread_text limit word meaning contents (Fault at line kind) unread = absurd unread
unread_text limit word meaning contents (Place at place kind) unread = absurd unread
