use Rattle.std.proofs.Common.{[], ◌∷◌, ◌∙◌, sym, ap}
use Rattle.mh_intern.specs.Views.{TypesId}
use Rattle.mh_intern.proofs.Trading.{still_held, part_held, holds_fewer}
use Rattle.mh_sharing_tests.proofs.both.release_both.Goals as goal

pub release-requires-clause-held : goal.release-requires-clause-held
release-requires-clause-held c = record {
  table = c.requires.tables.1 ∙ ap (λ (t : TypesId). t.holders) (sym c.requires.seat);
  counted = part_held c.args.two.entry c.args.seat.now.holds [] (holds_fewer c.args.one.entry c.args.seat.now.holds (c.args.two.entry ∷ []) c.requires.holds);
}

pub release-requires-2-clause-held : goal.release-requires-2-clause-held
release-requires-2-clause-held c = record {
  table = c.requires.tables.0 ∙ ap (λ (t : TypesId). t.holders) (sym c.requires.seat ∙ sym (ap (λ s. s.table) c.release.ensures.released));
  counted = still_held c.args.one.entry c.args.seat.now.holds (c.args.two.entry ∷ []) [] c.release.new.seat.holds c.release.ensures.traded c.requires.holds;
}
