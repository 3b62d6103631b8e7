use Rattle.std.proofs.Common.{◌≡◌, ◌∙◌, sym, ap, subst, ◌+◌, None, if◌then◌else◌}
use Rattle.std.specs.BTreeMap.{btree_map_len}
use Rattle.std.specs.Option.{is_some}
use Rattle.mh_leaves.specs.Numbers.{text_number}
use Rattle.mh_leaves.proofs.Numbering.{grown-written, numbered-written}
use Rattle.mh_leaves.proofs.index.number_text.Goals as goal

new : (c : goal.In_ok-insert) → text_number c.args.texts.now c.in_ok-from_slice.field-0.items ≡ None
new c = subst (λ l. text_number c.args.texts.now l ≡ None) (sym c.in_ok-from_slice.ensures.items) (sym c.in_default.ensures.value)

more : (c : goal.In_ok-insert) → btree_map_len c.insert.new.self ≡ btree_map_len c.args.texts.now + 1
more c = c.in_ok-insert.ensures.len ∙ ap (λ o. btree_map_len c.args.texts.now + (if is_some o then 0 else 1)) (c.in_ok-insert.ensures.old ∙ new c)

pub returns-clause-grown : goal.returns-clause-grown
returns-clause-grown c =
    grown-written _ _ c.in_ok-from_slice.field-0.items _ c.in_ok-insert.ensures.updates (new c) c.len-number.ensures.len (more c)

pub returns-clause-numbered : goal.returns-clause-numbered
returns-clause-numbered c =
    numbered-written _ _ c.in_ok-from_slice.field-0.items _ c.requires c.in_ok-insert.ensures.updates c.len-number.ensures.len (more c)
