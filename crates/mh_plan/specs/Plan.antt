-- What the lines of a plan mean.
use Rattle.std.specs.Prelude.{ℕ, ◌+◌, ◌==◌, Bool, false, not, ◌&&◌, ◌||◌, if◌then◌else◌, List, [], ◌∷◌, ◌++◌, codes, length, drop, nat_eq, nat_le, nat_lt, Option, None, Some, is_some, option_map, option_and_then, Result, Ok, Err}
use Rattle.std.specs.List.{list_all, starts_with}
use Rattle.std.specs.Str.{bytes_eq}
use Rattle.mh_base.specs.Ascii.{digit_0, digit_9}
use Rattle.mh_base.specs.Lines.{is_full, lines_of, tokens_of, is_passed, is_plain, built_from}
use Rattle.mh_base.specs.declared.lines.LineFault.{LineFault}
use Rattle.mh_values.specs.declared.class.Class.{Class}
use Rattle.mh_values.specs.declared.types.Ty.{Ty}
use Rattle.mh_values.specs.declared.types.MethodTy.{MethodTy}
use Rattle.mh_values.specs.declared.value.LeafId.{LeafId}
use Rattle.mh_values.specs.declared.value.Value.{Value}
use Rattle.mh_values.specs.Descriptor.{desc}
use Rattle.mh_values.specs.HasType.{has_type}
use Rattle.mh_texts.specs.Literal.{literal_of}
use Rattle.mh_texts.specs.Number.{unsigned_of}
use Rattle.mh_leaf.specs.LeafTable.{LeafTable}
use Rattle.mh_leaves.specs.declared.naming.How.TheVariants.{Any}
use Rattle.mh_leaves.specs.Find.{find_leaf}
use Rattle.mh_leaves.specs.Manifest.{type_if_read}
use Rattle.mh_base.specs.Provided.{provided, provided_some}
use Rattle.mh_leaves.specs.Reference.{Texts, reference_of}
use Rattle.mh_jobs.specs.declared.job.Job.{Job}
use Rattle.mh_jobs.specs.Jobs.{params_at}
use Rattle.mh_plan.specs.declared.call.Call.{Call}
use Rattle.mh_plan.specs.declared.call.Call.TheVariants.{Exact, Generic, Indy}
use Rattle.mh_plan.specs.declared.kinds.PlanKind.{PlanKind}
use Rattle.mh_plan.specs.declared.kinds.PlanKind.TheVariants.{BadLine, TooMany, NoLeaf, NoSite, BadType, BadArguments}
use Rattle.mh_plan.specs.declared.counting.Counts.{Counts}

-- the name of a kind of fault
abbrev pub kind_word : PlanKind → List ℕ
kind_word BadLine = codes "BadLine"
kind_word TooMany = codes "TooMany"
kind_word NoLeaf = codes "NoLeaf"
kind_word NoSite = codes "NoSite"
kind_word BadType = codes "BadType"
kind_word BadArguments = codes "BadArguments"

-- The number of a kind. If several kinds apply to a line, the lowest number counts.
abbrev pub kind_number : PlanKind → ℕ
kind_number BadLine = 1
kind_number TooMany = 2
kind_number NoLeaf = 3
kind_number NoSite = 4
kind_number BadType = 5
kind_number BadArguments = 6

-- ---- the form of a line

-- a decimal digit
abbrev pub is_digit : ℕ → Bool
is_digit b = nat_le digit_0 b && nat_le b digit_9

-- the number of a site: decimal digits without a leading zero
abbrev pub is_number : List ℕ → Bool
is_number [] = false
is_number (b ∷ bs) = list_all is_digit (b ∷ bs) && (length bs == 0 || not (b == digit_0))

-- the texts of `leaf:OWNER.NAME:DESC`
abbrev pub leaf_texts : List ℕ → Option Texts
leaf_texts token = if starts_with nat_eq token (codes "leaf:") then reference_of (drop 5 token) else None

-- a word that begins a call of a leaf
abbrev pub is_leaf_word : List ℕ → Bool
is_leaf_word word = bytes_eq word (codes "exact") || bytes_eq word (codes "generic")

-- `exact leaf:REF M ARG ..`, `generic leaf:REF M ARG ..` or `indy N ARG ..`; the number counts the tokens after the second
abbrev pub is_call_of : List ℕ → List ℕ → ℕ → Bool
is_call_of word subject more =
    if bytes_eq word (codes "indy") then is_number subject
    else is_leaf_word word && is_some (leaf_texts subject) && not (more == 0)

-- the tokens of a call
abbrev pub is_call : List (List ℕ) → Bool
is_call (word ∷ subject ∷ rest) = is_call_of word subject (length rest)
is_call _ = false

-- the one token `thread`
abbrev pub is_thread : List (List ℕ) → Bool
is_thread (word ∷ []) = bytes_eq word (codes "thread")
is_thread _ = false

-- ---- how many threads and calls there are

-- no thread, and no call
abbrev pub none_counted : Counts
none_counted = record { threads = 0; calls = 0 }

-- the most threads that a plan may have
abbrev pub most_threads : ℕ
most_threads = 128

-- the most calls that its threads may have together
abbrev pub most_calls : ℕ
most_calls = 10000

-- one more thread, if there may be one
abbrev pub thread_counted : Counts → Result Counts PlanKind
thread_counted counts = provided (nat_lt counts.threads most_threads) TooMany (Ok (record { threads = counts.threads + 1; calls = counts.calls }))

-- one more call, if a thread has begun and there may be one
abbrev pub call_counted : Counts → List (List ℕ) → Result Counts PlanKind
call_counted counts tokens =
    provided (is_call tokens && not (counts.threads == 0)) BadLine
    (provided (nat_lt counts.calls most_calls) TooMany (Ok (record { threads = counts.threads; calls = counts.calls + 1 })))

-- the tokens of a line that counts; none is empty
abbrev pub tokens_counted : Counts → List (List ℕ) → Result Counts PlanKind
tokens_counted counts tokens =
    provided (list_all is_full tokens) BadLine
    (if is_thread tokens then thread_counted counts else call_counted counts tokens)

-- what is counted after a line
abbrev pub line_counted : Counts → List ℕ → Result Counts PlanKind
line_counted counts line = provided (is_plain line) BadLine (if is_passed line then Ok counts else tokens_counted counts (tokens_of line))

-- ---- calls

-- the leaf that a token names
abbrev pub leaf_if_found : {E : Type 0} → Result LeafId E → Option LeafId
leaf_if_found (Ok leaf) = Some leaf
leaf_if_found (Err e) = None

-- the leaf of a reference, which may have a receiver
abbrev pub leaf_named : LeafTable → List ℕ → Option LeafId
leaf_named leaves token = option_and_then (λ texts. leaf_if_found (find_leaf leaves texts.owner texts.name texts.descriptor Any)) (leaf_texts token)

-- the value of a token, if it has the type
abbrev pub argument_of : List Class → List ℕ → Ty → Option Value
argument_of classes token t = option_and_then (λ v. if has_type classes v t then Some v else None) (literal_of classes token)

-- the values of tokens, if they have the types, one for each
abbrev pub arguments_of : List Class → List (List ℕ) → List Ty → Option (List Value)
arguments_of classes [] [] = Some []
arguments_of classes (token ∷ tokens) (t ∷ types) =
    option_and_then (λ v. option_map (λ vs. v ∷ vs) (arguments_of classes tokens types)) (argument_of classes token t)
arguments_of classes _ _ = None

-- the call of a leaf that a word begins: `exact` an exact one, any other word a generic one
abbrev pub call_by : List ℕ → LeafId → MethodTy → List Value → Call
call_by word leaf t values = if bytes_eq word (codes "exact") then Exact leaf t values else Generic leaf t values

-- The call of a leaf by a type, with arguments. The tokens after the leaf begin with the type; a line of the right form has it.
abbrev pub leaf_call : LeafTable → List ℕ → List ℕ → List (List ℕ) → Result Call PlanKind
leaf_call leaves word subject [] = Err BadType
leaf_call leaves word subject (asked ∷ args) =
    provided_some (leaf_named leaves subject) NoLeaf (λ leaf.
    provided_some (type_if_read (desc leaves.classes asked)) BadType (λ t.
    provided_some (arguments_of leaves.classes args t.params) BadArguments (λ values. Ok (call_by word leaf t values))))

-- the call site with a number, if there is one; the number may have any number of digits
abbrev pub site_numbered : List Job → List ℕ → Option ℕ
site_numbered jobs token = option_and_then (λ n. if nat_lt n (length jobs) then Some n else None) (unsigned_of token)

-- The call of a call site, with arguments of its type. If the site's type is not readable, the call has no arguments.
abbrev pub indy_call : List Class → List Job → List ℕ → List (List ℕ) → Result Call PlanKind
indy_call classes jobs subject args =
    provided_some (site_numbered jobs subject) NoSite (λ site.
    provided_some (arguments_of classes args (params_at jobs site)) BadArguments (λ values. Ok (Indy site values)))

-- the call that a word begins
abbrev pub call_meaning : LeafTable → List Job → List ℕ → List ℕ → List (List ℕ) → Result Call PlanKind
call_meaning leaves jobs word subject rest =
    if bytes_eq word (codes "indy") then indy_call leaves.classes jobs subject rest else leaf_call leaves word subject rest

-- a call after those of the last thread
abbrev pub with_call : List (List Call) → Call → List (List Call)
with_call [] call = []
with_call (calls ∷ []) call = (calls ++ call ∷ []) ∷ []
with_call (calls ∷ more) call = calls ∷ with_call more call

-- the threads after a call
abbrev pub call_put : List (List Call) → Result Call PlanKind → Result (List (List Call)) PlanKind
call_put threads (Ok call) = Ok (with_call threads call)
call_put threads (Err kind) = Err kind

-- the threads after a line of the right form: one token begins a thread, and two or more are a call
abbrev pub tokens_meaning : LeafTable → List Job → List (List Call) → List (List ℕ) → Result (List (List Call)) PlanKind
tokens_meaning leaves jobs threads (word ∷ subject ∷ rest) = call_put threads (call_meaning leaves jobs word subject rest)
tokens_meaning leaves jobs threads _ = Ok (threads ++ [] ∷ [])

-- the threads after a line, or what is wrong with the line
abbrev pub line_meaning : LeafTable → List Job → List (List Call) → List ℕ → Result (List (List Call)) PlanKind
line_meaning leaves jobs threads line = if is_passed line then Ok threads else tokens_meaning leaves jobs threads (tokens_of line)

-- ---- plans

-- continues if no line has a fault
abbrev pub faultless : {A B : Type 0} → Result A (LineFault PlanKind) → (A → Result B (LineFault PlanKind)) → Result B (LineFault PlanKind)
faultless (Ok a) next = next a
faultless (Err fault) next = Err fault

-- The calls of each thread of a plan with these lines. The form of all lines is checked first, then their calls.
abbrev pub plan_of : LeafTable → List Job → List (List ℕ) → Result (List (List Call)) (LineFault PlanKind)
plan_of leaves jobs lines =
    faultless (built_from line_counted 1 none_counted lines) (λ counts. built_from (line_meaning leaves jobs) 1 [] lines)

-- the calls of each thread, or the fault that counts
abbrev pub plan : List ℕ → LeafTable → List Job → Result (List (List Call)) (LineFault PlanKind)
plan bytes leaves jobs = plan_of leaves jobs (lines_of bytes)
