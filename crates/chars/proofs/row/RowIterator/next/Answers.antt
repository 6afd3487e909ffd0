-- `next` meets its promise: a row that stands whole has a piece more here, and stands whole behind it. Assumes nothing.
use Rattle.chars.proofs.RowLaws.{whole_reads, whole_on, whole_value}
use Rattle.chars.proofs.row.RowIterator.next.Goals as goal

pub returns-in_err-what-clause-steps : goal.returns-in_err-what-clause-steps
returns-in_err-what-clause-steps g c = let s = c.args.self.now in
    absurd (whole_reads (g.met.W.Written.laws s.stop s.closes) s.text.now s.at s.whole c.if-self.false c.in_err-what.ensures)

pub invariant_of-self : goal.invariant_of-self
invariant_of-self g c = let s = c.args.self.now in
    record { closes = s.closes; whole = whole_on (g.met.W.Written.laws s.stop s.closes) s.text.now s.at s.whole c.if-self.false c.in_ok-what.ensures }

pub returns-clause-steps : goal.returns-clause-steps
returns-clause-steps g c = let s = c.args.self.now in
    whole_value (g.met.W.Written.laws s.stop s.closes) s.text.now s.at s.whole c.if-self.false c.in_ok-what.ensures
