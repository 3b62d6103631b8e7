use Rattle.std.proofs.Common.{◌∙◌, ap, sym, ◌++◌, codes, append_assoc}
use Rattle.std.specs.Fmt.{decimal}
use Rattle.std.specs.String.{string_bytes}
use Rattle.mh_bench.specs.Scripts.{script_text}
use Rattle.mh_bench.proofs.scripts.push_script.Goals as goal

pub returns : goal.returns
unfolding script_text
returns c =
    let owner = c.args.owner.now in
    let number = decimal c.args.number in
    let rest = codes " f ()V\nlet a leaf b/C.d:(I)I\nreturn a\nend\n" in
    c.in_ok-push_str.ensures.bytes
    ∙ ap (λ text. string_bytes c.args.file.now ++ text) (c.as_str.ensures.value ∙ c.in_ok-script.ensures.ok)
    ∙ ap (λ text. string_bytes c.args.file.now ++ (codes "script " ++ text)) (sym (append_assoc owner number rest))
