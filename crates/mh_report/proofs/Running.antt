-- Lines of a report, site by site, and results of calls, thread by thread.
use Rattle.std.proofs.Common.{◌≡◌, refl, sym, ◌∙◌, ap, ℕ, ◌+◌, ◌<◌, ◌≤◌, List, [], ◌∷◌, ◌++◌, take, drop, length, slice_get, Option, Some, append_assoc}
use Rattle.std.specs.List.{flat_map}
use Rattle.std.proofs.lemmas.List.{drop_more, take_all}
use Rattle.std.proofs.lemmas.Option.{get_or_from_slice_get}
use Rattle.mh_values.specs.declared.class.Class.{Class}
use Rattle.mh_handle.specs.declared.answer.Answer.{Answer}
use Rattle.mh_report.specs.declared.table.ConstRow.{ConstRow}
use Rattle.mh_report.specs.declared.table.Recorded.{Recorded}
use Rattle.mh_report.specs.Results.{result_said, thread_said, results_said}
use Rattle.mh_report.specs.Text.{constant_text, constants_text, result_line, results_text, site_text, sites_text, thread_text, threads_text}

pub threads_text-more : (classes : List Class) (threads : List (List Answer)) (n : ℕ) (item : List Answer) (old new all : List ℕ) → n < length threads →
    slice_get threads n ≡ Some item → new ≡ old ++ thread_text classes n (thread_said item) →
    old ++ threads_text classes n (results_said (drop n threads)) ≡ all → new ++ threads_text classes (n + 1) (results_said (drop (n + 1) threads)) ≡ all
threads_text-more classes threads n item old new all in_range is new_is before =
    let cut : drop n threads ≡ item ∷ drop (n + 1) threads = drop_more threads n item in_range ∙ ap (λ x. x ∷ drop (n + 1) threads)
    (get_or_from_slice_get threads n item item is) in
    ap (λ x. x ++ threads_text classes (n + 1) (results_said (drop (n + 1) threads))) new_is
    ∙ append_assoc old (thread_text classes n (thread_said item)) (threads_text classes (n + 1) (results_said (drop (n + 1) threads)))
    ∙ ap (λ x. old ++ threads_text classes n (results_said x)) (sym cut) ∙ before

lines-said : (classes : List Class) (answers : List Answer) → flat_map (λ answer. result_line classes (result_said answer)) answers ≡ results_text classes
    (thread_said answers)
lines-said classes [] = refl
lines-said classes (answer ∷ answers) = ap (λ x. result_line classes (result_said answer) ++ x) (lines-said classes answers)

-- after the lines of all answers
pub results_text-whole : (classes : List Class) (answers : List Answer) (i : ℕ) (old new : List ℕ) → length answers ≤ i →
    new ≡ old ++ flat_map (λ answer. result_line classes (result_said answer)) (take i answers) → new ≡ old ++ results_text classes (thread_said answers)
results_text-whole classes answers i old new all is =
    is ∙ ap (λ xs. old ++ flat_map (λ answer. result_line classes (result_said answer)) xs) (take_all i answers all) ∙
    ap (λ x. old ++ x) (lines-said classes answers)

pub sites_text-more : (classes : List Class) (table : List (Option Recorded)) (n : ℕ) (entry : Option Recorded) (old new all : List ℕ) → n < length table →
    slice_get table n ≡ Some entry → new ≡ old ++ site_text classes n entry → old ++ sites_text classes n (drop n table) ≡ all →
    new ++ sites_text classes (n + 1) (drop (n + 1) table) ≡ all
sites_text-more classes table n entry old new all in_range is new_is before =
    let cut : drop n table ≡ entry ∷ drop (n + 1) table = drop_more table n entry in_range ∙ ap (λ x. x ∷ drop (n + 1) table)
    (get_or_from_slice_get table n entry entry is) in
    ap (λ x. x ++ sites_text classes (n + 1) (drop (n + 1) table)) new_is
    ∙ append_assoc old (site_text classes n entry) (sites_text classes (n + 1) (drop (n + 1) table))
    ∙ ap (λ x. old ++ sites_text classes n x) (sym cut) ∙ before

pub constants_text-more : (classes : List Class) (rows : List (Option ConstRow)) (n : ℕ) (entry : Option ConstRow) (old new all : List ℕ) → n < length rows →
    slice_get rows n ≡ Some entry → new ≡ old ++ constant_text classes n entry → old ++ constants_text classes n (drop n rows) ≡ all →
    new ++ constants_text classes (n + 1) (drop (n + 1) rows) ≡ all
constants_text-more classes rows n entry old new all in_range is new_is before =
    let cut : drop n rows ≡ entry ∷ drop (n + 1) rows = drop_more rows n entry in_range ∙ ap (λ x. x ∷ drop (n + 1) rows)
    (get_or_from_slice_get rows n entry entry is) in
    ap (λ x. x ++ constants_text classes (n + 1) (drop (n + 1) rows)) new_is
    ∙ append_assoc old (constant_text classes n entry) (constants_text classes (n + 1) (drop (n + 1) rows))
    ∙ ap (λ x. old ++ constants_text classes n x) (sym cut) ∙ before
