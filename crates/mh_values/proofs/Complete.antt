-- A text that is spelled by the grammar has no fault.
use Rattle.std.proofs.Common.{◌≡◌, refl, sym, ap, subst, ◌∙◌, ℕ, ◌+◌, ◌<◌, ◌≤◌, Bool, true, false, length, if◌then◌else◌, nat_le, List, [], ◌∷◌, ◌++◌, Option, None, Some, append_assoc, arith}
use Rattle.std.proofs.lemmas.Bool.{le-leb}
use Rattle.std.proofs.lemmas.List.{append-nil}
use Rattle.mh_values.specs.declared.descriptor.Place.TheVariants as place
use Rattle.mh_values.specs.declared.descriptor.Standing.TheVariants as standing
use Rattle.mh_values.specs.Grammar.{begun, slots_from, parameter, next, first_bad, descriptor_fault, type_fault, types_fault}
use Rattle.mh_values.specs.Spelling.{Spelled, spelled_text, AreSpelled, all_slots, texts_of, IsReturn, return_spelled, IsMethodDescriptor, IsTypeText, AreTypeTexts}
use Rattle.mh_values.proofs.Beginnings.{Accepts, accepts_on, spelled_begins}

-- ---- method descriptors

close_accepts : (ret : Option Spelled) → IsReturn ret → Accepts standing.Close (return_spelled ret)
close_accepts None good = λ at. refl
close_accepts (Some t) good =
    let begins = spelled_begins t.dimensions t.element good.0 good.1 in
    let goes = begins.goes place.Last [] (λ at. refl) in
    let step : next standing.Close begins.first ≡ Some goes.0 = ap (λ c. if c then Some standing.End else begun place.Last begins.first) begins.no_void ∙
    goes.1 in
    subst (Accepts standing.Close) (sym begins.is) (accepts_on standing.Close goes.0 begins.first begins.more step
    (subst (Accepts goes.0) (append-nil begins.more) goes.2))

parameters_accept : (params : List Spelled) (ret : Option Spelled) (n : ℕ) → AreSpelled params → IsReturn ret → n + all_slots params ≤ 255 →
    Accepts (standing.Parameters n) (texts_of params ++ 41 ∷ return_spelled ret)
parameters_accept [] ret n good returns few = accepts_on (standing.Parameters n) standing.Close 41 (return_spelled ret) refl (close_accepts ret returns)
parameters_accept (t ∷ ts) ret n good returns few =
    let begins = spelled_begins t.dimensions t.element good.0.0 good.0.1 in
    let rest : List ℕ = texts_of ts ++ 41 ∷ return_spelled ret in
    let slots : ℕ = slots_from begins.first in
    let fits : nat_le (n + slots) 255 ≡ true = le-leb (n + slots) 255 (omega (arith, begins.slots)) in
    let goes = begins.goes (place.Parameter (n + slots)) rest (parameters_accept ts ret (n + slots) good.1 returns (omega (arith, begins.slots))) in
    let step : next (standing.Parameters n) begins.first ≡ Some goes.0 =
    ap (λ c. if c then Some standing.Close else parameter n begins.first) begins.no_close
    ∙ ap (λ c. if c then begun (place.Parameter (n + slots)) begins.first else None) fits ∙ goes.1 in
    let text : (spelled_text t ++ texts_of ts) ++ 41 ∷ return_spelled ret ≡ begins.first ∷ (begins.more ++ rest) =
    append_assoc (spelled_text t) (texts_of ts) (41 ∷ return_spelled ret) ∙ ap (λ u. u ++ rest) begins.is in
    subst (Accepts (standing.Parameters n)) (sym text) (accepts_on (standing.Parameters n) goes.0 begins.first (begins.more ++ rest) step goes.2)

pub descriptor_complete : (text : List ℕ) → IsMethodDescriptor text → descriptor_fault text ≡ None
descriptor_complete text d =
    subst (λ t. first_bad 0 standing.Front t ≡ None) (sym d.is) (accepts_on standing.Front (standing.Parameters 0) 40 (texts_of d.params ++ 41 ∷ return_spelled
    d.ret) refl (parameters_accept d.params d.ret 0 d.spelled d.returns (omega (arith, d.few))) 0)

-- ---- one type, and more

pub type_complete : (text : List ℕ) → IsTypeText text → type_fault text ≡ None
type_complete text d =
    let begins = spelled_begins d.type.dimensions d.type.element d.spelled.0 d.spelled.1 in
    let goes = begins.goes place.Last [] (λ at. refl) in
    subst (λ t. first_bad 0 standing.Alone t ≡ None) (sym (d.is ∙ begins.is)) (accepts_on standing.Alone goes.0 begins.first begins.more goes.1
    (subst (Accepts goes.0) (append-nil begins.more) goes.2) 0)

types_accept : (some : Bool) (types : List Spelled) → AreSpelled types → (some ≡ false → 0 < length types) → Accepts (standing.Types some) (texts_of types)
types_accept true [] good one = λ at. refl
types_accept false [] good one = absurd (omega (arith, one refl))
types_accept some (t ∷ ts) good one =
    let begins = spelled_begins t.dimensions t.element good.0.0 good.0.1 in
    let goes = begins.goes place.Listed (texts_of ts) (types_accept true ts good.1 (λ h. cc)) in
    subst (Accepts (standing.Types some)) (sym (ap (λ u. u ++ texts_of ts) begins.is)) (accepts_on (standing.Types some) goes.0 begins.first
    (begins.more ++ texts_of ts) goes.1 goes.2)

pub types_complete : (text : List ℕ) → AreTypeTexts text → types_fault text ≡ None
types_complete text d =
    subst (λ t. first_bad 0 (standing.Types false) t ≡ None) (sym d.is) (types_accept false d.types d.spelled (λ h. d.one) 0)
