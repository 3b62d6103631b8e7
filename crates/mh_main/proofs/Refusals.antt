-- The lines of refusals, piece by piece.
use Rattle.std.proofs.Common.{◌≡◌, ◌∙◌, sym, ℕ, List, [], ◌++◌, codes, append_assoc}
use Rattle.std.specs.Fmt.{decimal}
use Rattle.mh_main.specs.Input.{fault_line, place_line}
use Rattle.mh_main.specs.Stops.{unread_line}

-- `cannot read NAME`
pub unread-pieces : (name : List ℕ) → codes "cannot read " ++ (name ++ (codes "\n" ++ [])) ≡ unread_line name
unread-pieces name = sym (append_assoc (codes "cannot read ") name (codes "\n"))

-- `refused NAME line N KIND`
pub fault-pieces : (name : List ℕ) (number : ℕ) (word : List ℕ) →
    codes "refused " ++ (name ++ (codes " line " ++ (decimal number ++ (codes " " ++ (word ++ (codes "\n" ++ [])))))) ≡ fault_line name number word
fault-pieces name number word =
    sym (
    append_assoc (codes "refused " ++ name ++ codes " line " ++ decimal number ++ codes " ") word (codes "\n")
    ∙ append_assoc (codes "refused " ++ name ++ codes " line " ++ decimal number) (codes " ") (word ++ codes "\n")
    ∙ append_assoc (codes "refused " ++ name ++ codes " line ") (decimal number) (codes " " ++ (word ++ codes "\n"))
    ∙ append_assoc (codes "refused " ++ name) (codes " line ") (decimal number ++ (codes " " ++ (word ++ codes "\n")))
    ∙ append_assoc (codes "refused ") name (codes " line " ++ (decimal number ++ (codes " " ++ (word ++ codes "\n")))))

-- `refused NAME at PLACE KIND`
pub place-pieces : (name : List ℕ) (place : ℕ) (word : List ℕ) →
    codes "refused " ++ (name ++ (codes " at " ++ (decimal place ++ (codes " " ++ (word ++ (codes "\n" ++ [])))))) ≡ place_line name place word
place-pieces name place word =
    sym (
    append_assoc (codes "refused " ++ name ++ codes " at " ++ decimal place ++ codes " ") word (codes "\n")
    ∙ append_assoc (codes "refused " ++ name ++ codes " at " ++ decimal place) (codes " ") (word ++ codes "\n")
    ∙ append_assoc (codes "refused " ++ name ++ codes " at ") (decimal place) (codes " " ++ (word ++ codes "\n"))
    ∙ append_assoc (codes "refused " ++ name) (codes " at ") (decimal place ++ (codes " " ++ (word ++ codes "\n")))
    ∙ append_assoc (codes "refused ") name (codes " at " ++ (decimal place ++ (codes " " ++ (word ++ codes "\n")))))
