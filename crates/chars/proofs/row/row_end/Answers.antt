-- `row_end` meets its promise. The loop's invariant: the row ends where the rest of it does. The measure is what is left of the text. Assumes nothing.
use Rattle.std.proofs.Common.{rules}
use Rattle.chars.proofs.RowLaws.{passed_fails, passed_on}
use Rattle.chars.proofs.row.row_end.Goals as goal

pub returns-in_err-i : goal.returns-in_err-i
returns-in_err-i g c = rw c.from_residual-in_err-i.ensures (passed_fails (g.met.W.Written.laws c.args.stop c.requires) c.loop-i.invariant (search rules) (λ e. search rules) c.in_err-i.ensures)

pub loop-i-preserved : goal.loop-i-preserved
loop-i-preserved g c = passed_on (g.met.W.Written.laws c.args.stop c.requires) c.loop-i.invariant (search rules) (λ e. search rules) c.in_ok-i.ensures
