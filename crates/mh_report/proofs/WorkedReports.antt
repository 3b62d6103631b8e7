-- Worked examples of reports with call sites: what the checker computes of the definitions.
use Rattle.std.specs.Prelude.{◌≡◌, refl, List, [], ◌∷◌, ◌++◌, codes, pos, Option, Some, None, Ok, Err}
use Rattle.std.specs.Fmt.{digits}
use Rattle.std.specs.Int.{int_wrap}
use Rattle.mh_values.specs.declared.value.Num.TheVariants as num
use Rattle.mh_values.specs.declared.value.Value.TheVariants as value
use Rattle.mh_class_bytes.specs.Chars.{chars_from, units_from, shown}
use Rattle.mh_class_bytes.specs.Mutf8.{sound_from, unit_len}
use Rattle.mh_jobs.specs.Given.{Given}
use Rattle.mh_jobs.proofs.Host.{host}
use Rattle.mh_link.specs.Constants.{too_deep}
use Rattle.mh_plan.specs.declared.call.Call.{Call}
use Rattle.mh_plan.specs.declared.call.Call.TheVariants.{Indy}
use Rattle.mh_plan.proofs.Host.{given_with, int}
use Rattle.mh_report.specs.declared.table.ConstRow.{ConstRow}
use Rattle.mh_report.specs.Forms.{const_tables, tables}
use Rattle.mh_report.specs.Recorded.{recorded, serials_of}
use Rattle.mh_report.specs.Results.{Serials, results_of}
use Rattle.mh_report.specs.Text.{lf, report_text}
use Rattle.mh_report.proofs.Host.{adding_later}

-- three sites that only attempts with even numbers link
abbrev evens : Given
evens = given_with adding_later (codes "(II)I" ∷ codes "(II)I" ∷ codes "(II)I" ∷ [])

-- no call names the second site
abbrev table : Serials
table = Some 2 ∷ None ∷ Some 1 ∷ []

-- the calls
abbrev plan : List (List Call)
plan = (Indy 2 (int 1 ∷ int 2 ∷ []) ∷ Indy 0 (int 1 ∷ int 2 ∷ []) ∷ []) ∷ []

a_report_begins_with_the_sites :
    report_text host.classes (recorded evens table) [] (results_of evens table plan) 2 1 1
    ≡ codes "site 0 serial 2 linked (II)I" ++ lf
    ++ codes "site 1 none" ++ lf
    ++ codes "site 2 serial 1 error java/lang/BootstrapMethodError s: cause java/lang/RuntimeException s:failmod" ++ lf
    ++ codes "thread 0" ++ lf
    ++ codes "throws java/lang/BootstrapMethodError s: cause java/lang/RuntimeException s:failmod calls -" ++ lf
    ++ codes "returns i:3 calls 0" ++ lf
    ++ codes "attempts 2 forms 1 types 1" ++ lf
unfolding chars_from units_from unit_len sound_from shown int_wrap digits
a_report_begins_with_the_sites = refl

the_serials_are_those_of_the_attempts :
    serials_of (recorded evens table)
    ≡ table
the_serials_are_those_of_the_attempts = refl

-- what is recorded of three constants, of which no attempt asks the second
abbrev constants : List (Option ConstRow)
constants =
    Some (record { serial = 2; value = Ok (value.Boxed (num.J (pos 1))) }) ∷ None ∷ Some (record { serial = 1; value = Err too_deep }) ∷ []

the_constants_come_after_the_sites :
    report_text host.classes (recorded evens (None ∷ [])) constants [] 0 0 0
    ≡ codes "site 0 none" ++ lf
    ++ codes "constant 0 serial 2 value J:1" ++ lf
    ++ codes "constant 1 none" ++ lf
    ++ codes "constant 2 serial 1 error java/lang/StackOverflowError s:constant\\sdepth" ++ lf
    ++ codes "attempts 0 forms 0 types 0" ++ lf
unfolding chars_from units_from unit_len sound_from shown int_wrap digits
the_constants_come_after_the_sites = refl

-- two constants of a run: one table for each pair of serials from 1 to 2
each_constant_may_have_each_serial :
    tables 2 2
    ≡ (Some 1 ∷ Some 1 ∷ []) ∷ (Some 2 ∷ Some 1 ∷ []) ∷ (Some 1 ∷ Some 2 ∷ []) ∷ (Some 2 ∷ Some 2 ∷ []) ∷ []
each_constant_may_have_each_serial = refl

a_run_without_constants_has_one_table : const_tables evens 3 ≡ [] ∷ []
a_run_without_constants_has_one_table = refl
