-- What is shown of call sites that were linked, and what stops it.
use Rattle.std.proofs.Common.{◌≡◌, subst, ℕ, length, Result, Ok, Err, IfErr, IfOk}
use Rattle.mh_jobs.specs.Given.{Given}
use Rattle.mh_drawn.specs.declared.stop.Stop.{Stop}
use Rattle.mh_drawn.specs.declared.stop.Stop.TheVariants.{NoMemory, ReadFault, TooLong, Fault, Place, FormsFull, TypesFull, NoSite}
use Rattle.mh_drawn.specs.Answer.{LacksSite, StopsShowing}
use Rattle.mh_drawn.specs.Words.{Asked}

-- a value of which both of these hold
pub both-ok : {T E : Type 0} (r : Result T E) (P Q R : T → Type 0) → ((x : T) → P x → Q x → R x) → IfOk r P → IfOk r Q → IfOk r R
both-ok (Ok x) P Q R both p q = both x p q
both-ok (Err e) P Q R both p q = tt

-- what stops the text of call sites stops what is asked for
pub lacks-stops : (given : Given) (asked : Asked) (count : ℕ) (stop : Stop) → count ≡ length given.jobs → LacksSite count asked stop →
    StopsShowing given asked stop
lacks-stops given asked count NoMemory same lacks = tt
lacks-stops given asked count (ReadFault at) same lacks = absurd lacks
lacks-stops given asked count (TooLong at) same lacks = absurd lacks
lacks-stops given asked count (Fault at line kind) same lacks = absurd lacks
lacks-stops given asked count (Place at place kind) same lacks = absurd lacks
lacks-stops given asked count FormsFull same lacks = absurd lacks
lacks-stops given asked count TypesFull same lacks = absurd lacks
lacks-stops given asked count (NoSite number most) same lacks = subst (λ n. LacksSite n asked (NoSite number most)) same lacks

pub all-lack-stops : {T : Type 0} (given : Given) (asked : Asked) (count : ℕ) (r : Result T Stop) → count ≡ length given.jobs →
    IfErr r (LacksSite count asked) → IfErr r (StopsShowing given asked)
all-lack-stops given asked count (Ok text) same lacks = tt
all-lack-stops given asked count (Err stop) same lacks = lacks-stops given asked count stop same lacks
