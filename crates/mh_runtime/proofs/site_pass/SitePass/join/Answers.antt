use Rattle.std.proofs.Common.{◌∙◌, ap, ◌++◌}
use Rattle.mh_runtime.proofs.sites.LinkPasses.{pass-joins, pass-learns}
use Rattle.mh_runtime.proofs.site_pass.SitePass.join.Goals as goal

-- there was no memory for the attempts of the other pass, or for those that it has recorded

pub invariant_of-self-in_err-reserve : goal.invariant_of-self-in_err-reserve
invariant_of-self-in_err-reserve g c = (
  c.join-2.ensures.table ∙ c.self.invariant.0,
  rw c.reserve.ensures.items
      (pass-learns g.J.Run.given c.self.inside.known c.self.inside.known c.self.inside.attempts.items c.self.inside.recorded.items c.self.inside.constants
      c.join-2.new.pass (λ site serial is. is) (λ site l at. at) c.in_ok-join.ensures.ok.mine c.self.invariant.1),
)

pub invariant_of-self-in_err-reserve-2 : goal.invariant_of-self-in_err-reserve-2
invariant_of-self-in_err-reserve-2 g c = (
  c.join-2.ensures.table ∙ c.self.invariant.0,
  rw (c.reserve.ensures.items, c.reserve-2.ensures.items)
      (pass-learns g.J.Run.given c.self.inside.known c.self.inside.known c.self.inside.attempts.items c.self.inside.recorded.items c.self.inside.constants
      c.join-2.new.pass (λ site serial is. is) (λ site l at. at) c.in_ok-join.ensures.ok.mine c.self.invariant.1),
)

-- all of it was added

pub invariant_of-self-2 : goal.invariant_of-self-2
invariant_of-self-2 g c = (
  c.join-2.ensures.table ∙ c.self.invariant.0,
  pass-joins g.J.Run.given c.self.inside.known c.join-3.new.self c.self.inside.attempts.items c.self.inside.recorded.items c.self.inside.constants
      c.join-2.new.pass c.join-3.ensures.mine c.join-3.ensures.my_values c.in_ok-join.ensures.ok.mine c.self.invariant.1 c.other.inside.known
      c.other.inside.attempts.items c.other.inside.recorded.items c.append.new.self.items c.append-2.new.self.items c.other.inside.constants
      c.join-3.ensures.theirs c.join-3.ensures.their_values c.in_ok-join.ensures.ok.theirs c.other.invariant.1
      (c.in_ok-append.ensures.items ∙ ap (λ made. made ++ c.other.inside.attempts.items) c.reserve.ensures.items)
      (c.in_ok-append-2.ensures.items ∙ ap (λ made. made ++ c.other.inside.recorded.items) c.reserve-2.ensures.items),
)

pub returns-clause-ok : goal.returns-clause-ok
returns-clause-ok g c = rw (← c.self.view_is, ← c.other.view_is) (record {
  mine = c.join-3.ensures.mine;
  theirs = c.join-3.ensures.theirs;
  attempts = c.in_ok-append.ensures.items ∙ ap (λ made. made ++ c.other.inside.attempts.items) c.reserve.ensures.items;
  recorded = c.in_ok-append-2.ensures.items ∙ ap (λ made. made ++ c.other.inside.recorded.items) c.reserve-2.ensures.items;
  my_linkages = c.join-3.ensures.my_values;
  their_linkages = c.join-3.ensures.their_values;
  only = c.join-3.ensures.only;
  constants = c.in_ok-join.ensures.ok;
  constants_table = c.join-2.ensures.table;
  constants_thread = c.join-2.ensures.thread;
})
