-- Static arguments that are read one after the other, where some are dynamic constants.
use Rattle.std.proofs.Common.{◌≡◌, sym, ◌∙◌, ap, subst, ⊎_elim, ℕ, suc, ◌+◌, List, [], ◌∷◌, ◌++◌, length, drop, Option, None, Some, Ok, Err, add-one}
use Rattle.std.specs.Prelude.{slice_get, option_to_list}
use Rattle.std.proofs.Math.Seq.{drop-length}
use Rattle.std.proofs.lemmas.List.{append_assoc, append-nil}
use Rattle.mh_base.proofs.Slices.{slice_get-push}
use Rattle.mh_values.specs.declared.value.Exc.{Exc}
use Rattle.mh_leaf.specs.LeafTable.{LeafTable}
use Rattle.mh_classfile.specs.declared.constant.Constant.{Constant}
use Rattle.mh_classfile.specs.Class as class_file
use Rattle.mh_jobs.specs.declared.unresolved.Entry.{Entry}
use Rattle.mh_jobs.specs.declared.unresolved.Part.{Part}
use Rattle.mh_jobs.specs.declared.unresolved.StaticArguments.{StaticArguments}
use Rattle.mh_jobs.specs.Job.{constants_at}
use Rattle.mh_jobs.specs.Parts.{named_constant, part_of, with_part, static_arguments, names_of, entry_of, AreFirstRead}
use Rattle.mh_jobs.specs.Thrown.{OrThrown}
use Rattle.mh_jobs.proofs.Arguments.{drop-here}

-- ---- parts

-- parts before others
abbrev after : List Part → StaticArguments → StaticArguments
after before others = record { parts = before ++ others.parts; thrown = others.thrown }

-- the arguments of the constants before a place were read, and the others are what is left
abbrev pub AreParts : LeafTable → class_file.Class → ℕ → List Constant → ℕ → List Part → Type 0
AreParts leaves class first all k before = static_arguments leaves class first all ≡ after before (static_arguments leaves class first (drop k all))

-- these parts, and what is thrown after them
abbrev same : List Part → Option Exc → StaticArguments
same parts thrown = record { parts = parts; thrown = thrown }

joined : (before : List Part) (p : Part) (others : StaticArguments) → after before (with_part (Ok p) others) ≡ after (before ++ p ∷ []) others
joined before p others = ap (λ (parts : List Part). same parts others.thrown) (sym (append_assoc before (p ∷ []) others.parts))

here : (leaves : LeafTable) (class : class_file.Class) (first : ℕ) (all : List Constant) (k : ℕ) (before : List Part) (c : Constant) (r : OrThrown Part) →
    AreParts leaves class first all k before → slice_get all k ≡ Some c → part_of leaves class first c ≡ r →
    static_arguments leaves class first all ≡ after before (with_part r (static_arguments leaves class first (drop (suc k) all)))
here leaves class first all k before c r read there h =
    read ∙ ap (λ cs. after before (static_arguments leaves class first cs)) (drop-here all k c there)
    ∙ ap (λ (q : OrThrown Part). after before (with_part q (static_arguments leaves class first (drop (suc k) all)))) h

-- one more part
pub next_part : (leaves : LeafTable) (class : class_file.Class) (first : ℕ) (all : List Constant) (k : ℕ) (before : List Part) (c : Constant) (p : Part) →
    AreParts leaves class first all k before → slice_get all k ≡ Some c → part_of leaves class first c ≡ Ok p →
    AreParts leaves class first all (k + 1) (before ++ p ∷ [])
next_part leaves class first all k before c p read there h =
    subst (λ n. AreParts leaves class first all n (before ++ p ∷ [])) (sym (add-one k))
    (here leaves class first all k before c (Ok p) read there h ∙ joined before p (static_arguments leaves class first (drop (suc k) all)))

-- one that is refused ends all
pub part_stops : (leaves : LeafTable) (class : class_file.Class) (first : ℕ) (all : List Constant) (k : ℕ) (before : List Part) (c : Constant) (e : Exc) →
    AreParts leaves class first all k before → slice_get all k ≡ Some c → part_of leaves class first c ≡ Err e →
    record { parts = before; thrown = Some e } ≡ static_arguments leaves class first all
part_stops leaves class first all k before c e read there h =
    sym (here leaves class first all k before c (Err e) read there h ∙ ap (λ (parts : List Part). same parts (Some e)) (append-nil before))

-- all were read
pub parts_read : (leaves : LeafTable) (class : class_file.Class) (first : ℕ) (all : List Constant) (k : ℕ) (before : List Part) →
    AreParts leaves class first all k before → k ≡ length all → record { parts = before; thrown = None } ≡ static_arguments leaves class first all
parts_read leaves class first all k before read h =
    sym (read ∙ ap (λ cs. after before (static_arguments leaves class first cs)) (ap (λ n. drop n all) h ∙ drop-length all)
    ∙ ap (λ (parts : List Part). same parts None) (append-nil before))

-- how parts are read one after the other
pub ruleset parting = (next_part, part_stops, parts_read)

-- ---- names

-- the dynamic constants before a place were noted, and the others are what is left
abbrev pub AreNamed : class_file.Class → ℕ → List Constant → ℕ → List ℕ → Type 0
AreNamed class first all k names = names_of class first all ≡ names ++ names_of class first (drop k all)

there_too : (class : class_file.Class) (first : ℕ) (all : List Constant) (k : ℕ) (names : List ℕ) (c : Constant) (o : Option ℕ) →
    AreNamed class first all k names → slice_get all k ≡ Some c → named_constant class first c ≡ o →
    AreNamed class first all (k + 1) (names ++ option_to_list o)
there_too class first all k names c o read there h =
    subst (λ n. AreNamed class first all n (names ++ option_to_list o)) (sym (add-one k))
    (read ∙ ap (λ cs. names ++ names_of class first cs) (drop-here all k c there)
    ∙ ap (λ (p : Option ℕ). names ++ (option_to_list p ++ names_of class first (drop (suc k) all))) h
    ∙ sym (append_assoc names (option_to_list o) (names_of class first (drop (suc k) all))))

-- one more name
pub next_name : (class : class_file.Class) (first : ℕ) (all : List Constant) (k : ℕ) (names : List ℕ) (c : Constant) (n : ℕ) →
    AreNamed class first all k names → slice_get all k ≡ Some c → named_constant class first c ≡ Some n → AreNamed class first all (k + 1) (names ++ n ∷ [])
next_name class first all k names c n read there h = there_too class first all k names c (Some n) read there h

-- an argument that is no dynamic constant
pub next_other : (class : class_file.Class) (first : ℕ) (all : List Constant) (k : ℕ) (names : List ℕ) (c : Constant) →
    AreNamed class first all k names → slice_get all k ≡ Some c → named_constant class first c ≡ None → AreNamed class first all (k + 1) names
next_other class first all k names c read there h =
    subst (AreNamed class first all (k + 1)) (append-nil names) (there_too class first all k names c None read there h)

-- all were noted
pub all_named : (class : class_file.Class) (first : ℕ) (all : List Constant) (k : ℕ) (names : List ℕ) → AreNamed class first all k names → k ≡ length all →
    names ≡ names_of class first all
all_named class first all k names read h =
    sym (read ∙ ap (λ cs. names ++ names_of class first cs) (ap (λ n. drop n all) h ∙ drop-length all) ∙ append-nil names)

-- how names are noted one after the other
pub ruleset naming = (next_name, next_other, all_named)

-- ---- entries

-- one entry more
pub one_more : (leaves : LeafTable) (class : class_file.Class) (first : ℕ) (entries : List Entry) (entry : Entry) →
    AreFirstRead leaves class first entries → entry ≡ entry_of leaves class first (constants_at class (length entries)) →
    AreFirstRead leaves class first (entries ++ entry ∷ [])
one_more leaves class first entries entry each is j found there =
    ⊎_elim (λ (before : slice_get entries j ≡ Some found). each j found before)
    (λ (last : (j ≡ length entries) × (entry ≡ found)). sym last.1 ∙ is ∙ ap (λ n. entry_of leaves class first (constants_at class n)) (sym last.0))
    (slice_get-push entries entry j found there)
