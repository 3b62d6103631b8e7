use Rattle.mh_report.proofs.SharedLines.{joined-push}
use Rattle.mh_report.proofs.sharing.PrintingForkJoin.join.Goals as goal

pub returns-in-Some : goal.returns-in-Some
returns-in-Some c = λ before after joined within done.
    joined-push c.args.self.now.classes.now c.args.self.now.threads.now c.args.self.now.front.value before after c.args.lane c.args.report.now
    c.push.new.self c.in-Some.lines c.push.result joined.0 within done c.in-Some.is (rw c.in-Some.lines-is at c.push.ensures) joined.1
