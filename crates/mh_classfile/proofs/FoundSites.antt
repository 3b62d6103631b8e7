-- The call sites of a class file have indices that name bootstrap methods (JVMS SE 17, 4.4.10), and are no more than there is room for.
use Rattle.std.proofs.Common.{◌≡◌, refl, ℕ, ◌+◌, ◌-◌, ◌≤◌, if◌then◌else◌, Bool, true, false, List, [], ◌∷◌, ◌++◌, length, Some, Ok, arith}
use Rattle.std.specs.Prelude.{All, nat_lt}
use Rattle.std.proofs.lemmas.Bool.Decides.{nat_tests}
use Rattle.std.proofs.lemmas.List.Elements.{All-append, All-cons, All-nil}
use Rattle.std.proofs.lemmas.List.{length-append}
use Rattle.mh_class_pool.specs.declared.entry.Entry.TheVariants as entries
use Rattle.mh_class_pool.specs.declared.entry.Kind.TheVariants as kinds
use Rattle.mh_class_pool.specs.Entries.{Slot, slot}
use Rattle.mh_class_pool.specs.References.{is_usable, names}
use Rattle.mh_classfile.specs.declared.site.Method.{Method}
use Rattle.mh_classfile.specs.declared.site.Site.{Site}
use Rattle.mh_classfile.specs.Code.{call_site, instruction, next_site, code_sites}
use Rattle.mh_classfile.specs.Members.{code_bytes, code_contents, code_attribute, method_attribute, method, members}
use Rattle.mh_classfile.proofs.Spelled.{Gives, value-gives, verdict-gives, check-gives, choice-gives, both-give, later-gives, steps-give, part-gives}

-- the index of a call site is that of an entry that names a bootstrap method
abbrev pub IsCalling : List Slot → Site → Type 0
IsCalling pool s = (at bootstrap name : ℕ) × (slot pool s.index ≡ Some (at, entries.InvokeDynamic bootstrap name))

-- each call site has such an index
abbrev pub AreCalling : List Slot → List Site → Type 0
AreCalling pool sites = All (IsCalling pool) sites

-- likewise, and they are no more than there is room for
abbrev pub AreFound : List Slot → ℕ → List Site → Type 0
AreFound pool room sites = AreCalling pool sites × (length sites ≤ room)

-- how many call sites an instruction can be, where one more may be found
abbrev more : Bool → ℕ
more has_room = if has_room then 1 else 0

named : (at : ℕ) (s : Slot) → is_usable kinds.InvokeDynamic at s ≡ Ok tt →
    (place bootstrap name : ℕ) × (s ≡ Some (place, entries.InvokeDynamic bootstrap name))
named at (Some (place, entries.InvokeDynamic bootstrap name)) h = (place, bootstrap, name, refl)
named at s h = absurd cc

-- a call site that there is room for
abbrev IsInRoom : List Slot → Bool → Site → Type 0
IsInRoom pool has_room s = IsCalling pool s × (has_room ≡ true)

site-calls : (pool : List Slot) (m : Method) (has_room : Bool) (start at : ℕ) → Gives (IsInRoom pool has_room) (call_site pool m has_room start at)
unfolding call_site
site-calls pool m has_room start at =
    later-gives (IsInRoom pool has_room) _ _ (λ both.
    both-give (λ _. names pool kinds.InvokeDynamic both.0 at ≡ Ok tt) (IsInRoom pool has_room) _ _ (verdict-gives _) (λ _ is.
    later-gives (IsInRoom pool has_room) _ _ (λ _.
    both-give (λ _. has_room ≡ true) (IsInRoom pool has_room) _ _ (check-gives has_room _ _) (λ _ room.
    value-gives (IsInRoom pool has_room) _ (named at (slot pool both.0) is, room)))))

one-more : (has_room : Bool) → has_room ≡ true → 1 ≤ more has_room
one-more true h = omega arith
one-more false h = absurd cc

instruction-calls : (pool : List Slot) (m : Method) (has_room : Bool) (start : ℕ) → Gives (AreFound pool (more has_room)) (instruction pool m has_room start)
unfolding instruction
instruction-calls pool m has_room start =
    let Found : List Site → Type 0 = AreFound pool (more has_room) in
    later-gives Found _ _ (λ at. later-gives Found _ _ (λ opcode. choice-gives Found _ _ _
    (both-give (IsInRoom pool has_room) Found _ _ (site-calls pool m has_room start at)
    (λ s calls. value-gives Found (s ∷ []) (All-cons (IsCalling pool) s [] calls.0 (All-nil (IsCalling pool)), one-more has_room calls.1)))
    (later-gives Found _ _ (λ _. value-gives Found [] (All-nil (IsCalling pool), omega arith)))))

found-more : (pool : List Slot) (room : ℕ) (before found : List Site) → AreFound pool room before →
    AreFound pool (more (nat_lt (length before) room)) found → AreFound pool room (before ++ found)
found-more pool room before found are also =
    let few : length found ≤ more (nat_lt (length before) room) = also.1 in
    let fits : length before ≤ room = are.1 in
    (All-append (IsCalling pool) before found are.0 also.0, grind (arith, nat_tests, length-append))

code-calls : (pool : List Slot) (m : Method) (room start end : ℕ) (so_far : List Site) → AreFound pool room so_far →
    Gives (AreFound pool room) (code_sites pool m room start end so_far)
code-calls pool m room start end so_far are =
    let Found : List Site → Type 0 = AreFound pool room in
    steps-give Found (next_site pool m room start end) (λ before calls. later-gives Found _ _ (λ at.
    choice-gives Found _ _ _ (value-gives Found before calls)
    (both-give (AreFound pool (more (nat_lt (length before) room))) Found _ _ (instruction-calls pool m _ start)
    (λ found also. value-gives Found (before ++ found) (found-more pool room before found calls also))))) (end - start) so_far are

bytes-call : (pool : List Slot) (m : Method) (room : ℕ) (so_far : List Site) → AreFound pool room so_far →
    Gives (AreFound pool room) (code_bytes pool m room so_far)
unfolding code_bytes
bytes-call pool m room so_far are =
    later-gives (AreFound pool room) _ _ (λ _. later-gives (AreFound pool room) _ _ (λ len. later-gives (AreFound pool room) _ _ (λ _.
    later-gives (AreFound pool room) _ _ (λ start.
    part-gives (AreFound pool room) _ _ _ _ (code-calls pool m room start (start + len) so_far are)))))

contents-call : (pool : List Slot) (m : Method) (room : ℕ) (so_far : List Site) → AreFound pool room so_far →
    Gives (AreFound pool room) (code_contents pool m room so_far)
unfolding code_contents
contents-call pool m room so_far are =
    later-gives (AreFound pool room) _ _ (λ _. later-gives (AreFound pool room) _ _ (λ _.
    both-give (AreFound pool room) (AreFound pool room) _ _ (bytes-call pool m room so_far are) (λ sites calls.
    later-gives (AreFound pool room) _ _ (λ _. value-gives (AreFound pool room) sites calls))))

attribute-calls : (pool : List Slot) (m : Method) (room : ℕ) (so_far : List Site) → AreFound pool room so_far →
    Gives (AreFound pool room) (code_attribute pool m room so_far)
unfolding code_attribute
attribute-calls pool m room so_far are =
    later-gives (AreFound pool room) _ _ (λ _. part-gives (AreFound pool room) _ _ _ _ (contents-call pool m room so_far are))

-- whether there was code, and the call sites so far
abbrev AreFoundSoFar : List Slot → ℕ → Bool × List Site → Type 0
AreFoundSoFar pool room so_far = AreFound pool room so_far.1

attributes-call : (pool : List Slot) (m : Method) (room : ℕ) (so_far : Bool × List Site) → AreFoundSoFar pool room so_far →
    Gives (AreFoundSoFar pool room) (method_attribute pool m room so_far)
unfolding method_attribute
attributes-call pool m room so_far are =
    later-gives (AreFoundSoFar pool room) _ _ (λ _. later-gives (AreFoundSoFar pool room) _ _ (λ _. choice-gives (AreFoundSoFar pool room) _ _ _
    (later-gives (AreFoundSoFar pool room) _ _ (λ _.
    both-give (AreFound pool room) (AreFoundSoFar pool room) _ _ (attribute-calls pool m room so_far.1 are)
    (λ sites calls. value-gives (AreFoundSoFar pool room) (true, sites) calls)))
    (later-gives (AreFoundSoFar pool room) _ _ (λ _. value-gives (AreFoundSoFar pool room) so_far are))))

method-calls : (pool : List Slot) (room : ℕ) (so_far : List Site) → AreFound pool room so_far → Gives (AreFound pool room) (method pool room so_far)
unfolding method
method-calls pool room so_far are =
    later-gives (AreFound pool room) _ _ (λ m. later-gives (AreFound pool room) _ _ (λ count.
    both-give (AreFoundSoFar pool room) (AreFound pool room) _ _
    (steps-give (AreFoundSoFar pool room) (method_attribute pool m room) (λ before calls. attributes-call pool m room before calls) count (false, so_far) are)
    (λ all calls. value-gives (AreFound pool room) all.1 calls)))

-- the call sites of all methods
pub members-call : (pool : List Slot) (room : ℕ) → Gives (AreFound pool room) (members pool room)
unfolding members
members-call pool room =
    let Found : List Site → Type 0 = AreFound pool room in
    later-gives Found _ _ (λ _. later-gives Found _ _ (λ _. later-gives Found _ _ (λ methods.
    steps-give Found (method pool room) (λ before calls. method-calls pool room before calls) methods [] (All-nil (IsCalling pool), omega arith))))
