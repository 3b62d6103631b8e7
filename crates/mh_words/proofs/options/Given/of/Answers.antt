use Rattle.std.proofs.Common.{◌≡◌, ◌∙◌, ap, codes, refl}
use Rattle.std.specs.Prelude.{unwrap_or, []}
use Rattle.clap.specs.Words.{all_of, first_of, found_of, rows_of}
use Rattle.clap.proofs.WalkLemmas.{first_value-rows, raw_values-rows}
use Rattle.mh_words.specs.Options.{said, text}
use Rattle.mh_words.proofs.Gotten.{names_or_none}
use Rattle.mh_words.proofs.options.Given.of.Goals as goal

pub returns : goal.returns
returns c =
    let found = found_of c.args.matches.now in
    let rows = rows_of found in
    let mode : text c.get_str.result ≡ first_of (codes "mode") rows = c.get_str.ensures ∙ first_value-rows found (codes "mode") in
    let leaves : text c.get_str-2.result ≡ first_of (codes "leaves") rows = c.get_str-2.ensures ∙ first_value-rows found (codes "leaves") in
    let scripts : text c.get_str-3.result ≡ first_of (codes "scripts") rows = c.get_str-3.ensures ∙ first_value-rows found (codes "scripts") in
    let plan : text c.get_str-4.result ≡ first_of (codes "plan") rows = c.get_str-4.ensures ∙ first_value-rows found (codes "plan") in
    let number : text c.get_str-5.result ≡ first_of (codes "number") rows = c.get_str-5.ensures ∙ first_value-rows found (codes "number") in
    let prelink : text c.get_str-6.result ≡ first_of (codes "prelink") rows = c.get_str-6.ensures ∙ first_value-rows found (codes "prelink") in
    let names = c.get_strs.ensures ∙ raw_values-rows found (codes "class") in
    let classes : said c.in_ok-from_slice.field-0.items ≡ unwrap_or (all_of (codes "class") rows) [] =
    ap said c.in_ok-from_slice.ensures.items ∙ names_or_none _ _ _ _ refl c.unwrap_or-classes.ensures names in
    rw (mode, leaves, scripts, plan, number, prelink, classes) refl
