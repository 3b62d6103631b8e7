-- What the registers of a run hold is what those of the frame hold for which they stand.
use Rattle.std.proofs.Common.{◌≡◌, arith, zero, suc, ◌<◌, ◌≤◌, length, get_or, drop, length-drop, refl, sym, ◌∙◌, ap, ℕ, List, [], ◌∷◌, Option, Some, None, Ok, Err}
use Rattle.std.specs.Prelude.{slice_get, option_map, ok_or}
use Rattle.std.proofs.lemmas.List.{nil_from_length}
use Rattle.std.proofs.lemmas.Option.{slice_get_past}
use Rattle.mh_leaf.specs.LeafTable.{LeafTable}
use Rattle.mh_jobs.specs.declared.job.Argument.{Argument}
use Rattle.mh_jobs.specs.declared.job.BootstrapCall.{BootstrapCall}
use Rattle.mh_script.specs.declared.operand.Register.TheVariants as register
use Rattle.mh_attempt.specs.declared.registers.Content.{Content as Found}
use Rattle.mh_attempt.specs.declared.registers.Held.{Held}
use Rattle.mh_attempt.specs.declared.registers.Registers.{Registers}
use Rattle.mh_link.specs.Operands.{Content, Frame, content, content_of, no_argument}
use Rattle.mh_attempt.specs.Registers.{Hold, HoldsContent, HoldsLast, IsContent, IsLeafWithin}
use Rattle.mh_attempt.specs.Told.{TellsBy}

get-some : {A : Type 0} (xs : List A) (n : ℕ) (a : A) → n < length xs → ((d : A) → a ≡ get_or xs n d) → slice_get xs n ≡ Some a
get-some [] n a h k = absurd (omega arith)
get-some (x ∷ xs) zero a h k = ap Some (sym (k a))
get-some (x ∷ xs) (suc n) a h k = get-some xs n a (omega arith) k

pub drop-all : {A : Type 0} (xs : List A) (i : ℕ) → length xs ≤ i → drop i xs ≡ []
drop-all xs i past = nil_from_length (drop i xs) (length-drop i xs ∙ omega (arith, past))

-- a static argument that is there
pub argument-content : (leaves : LeafTable) (registers : Registers) (frame : Frame) → Hold leaves registers frame → (n : ℕ) (a : Argument) (c : Found) →
    n < length registers.call.now.arguments → ((d : Argument) → a ≡ get_or registers.call.now.arguments n d) →
    (IsLeafWithin leaves a → IsContent leaves c (content_of a)) →
    TellsBy (IsContent leaves) (Ok c) (content frame (register.Argument n))
argument-content leaves registers frame hold n a c within there is =
    let at = get-some registers.call.now.arguments n a within there in (
      content_of a,
      ap (λ (call : BootstrapCall). ok_or (option_map content_of (slice_get call.arguments n)) no_argument) hold.call
          ∙ ap (λ o. ok_or (option_map content_of o) no_argument) at,
      is (hold.arguments n a at),
    )

-- a static argument that is not there
pub argument-none : (leaves : LeafTable) (registers : Registers) (frame : Frame) → Hold leaves registers frame → (n : ℕ) →
    length registers.call.now.arguments ≤ n → content frame (register.Argument n) ≡ Err no_argument
argument-none leaves registers frame hold n at =
    ap (λ (call : BootstrapCall). ok_or (option_map content_of (slice_get call.arguments n)) no_argument) hold.call
    ∙ ap (λ o. ok_or (option_map content_of o) no_argument) (slice_get_past registers.call.now.arguments n at)

-- what was assigned last
pub last-content : (leaves : LeafTable) (h : Held) (c : Found) (o : Option Content) → HoldsLast leaves (Some h) o →
    ((m : Content) → HoldsContent leaves h m → IsContent leaves c m) → TellsBy (IsContent leaves) (Ok c) (ok_or o no_argument)
last-content leaves h c (Some m) holds is = (m, refl, is m holds)
last-content leaves h c None holds is = absurd holds
