use Rattle.std.proofs.Common.{◌∙◌, ◌∷◌, [], List, sym, subst, ap}
use Rattle.mh_intern.specs.declared.holding.Entry.{Entry}
use Rattle.mh_intern.specs.Lists.{removed}
use Rattle.mh_intern.specs.Views.{TypesId}
use Rattle.mh_intern.proofs.Entries.{In}
use Rattle.mh_intern.proofs.HoldCounts.{in_here, in_longer, removed_older}
use Rattle.mh_sharing_tests.proofs.playing.release_older.Goals as goal

pub release-requires-clause-held : goal.release-requires-clause-held
release-requires-clause-held c =
    let held : Entry = c.args.held.entry in
    let newer : Entry = c.args.newer.now.entry in
    record {
      table = c.requires.hold_of ∙ ap (λ (t : TypesId). t.holders) (sym c.requires.seat_of);
      counted = subst (λ (l : List Entry). In l held) (sym c.requires.holds) (in_longer newer held (held ∷ []) (in_here held []));
    }

pub returns-clause-hand : goal.returns-clause-hand
returns-clause-hand c =
    let held : Entry = c.args.held.entry in
    let released = c.release.ensures.released in
    record {
      seat_of = ap (λ s. s.table) released ∙ c.requires.seat_of;
      hold_of = c.requires.newer_of;
      holds = ap (λ s. s.holds) released ∙ (ap (removed held) c.requires.holds ∙ removed_older held c.args.newer.now.entry);
    }
