-- `kind_from` meets its promise: by the word. Assumes nothing.
use native.Mathlib.Omega.{arith}
use Rattle.notation.specs.Lexer.{◌then◌}
use Rattle.lexer.specs.Operators.{asked}
use Rattle.lexer.proofs.operator.kind_from.Goals as goal

pub returns-in_err-truth-in-Ifs : goal.returns-in_err-truth-in-Ifs
unfolding asked ◌then◌
returns-in_err-truth-in-Ifs c = rw (c.from_residual.ensures, c.in-Ifs.is, c.in_err-truth-in-Ifs.ensures)

pub returns-in_err-truth-in-Ons : goal.returns-in_err-truth-in-Ons
unfolding asked ◌then◌
returns-in_err-truth-in-Ons c = rw (c.from_residual-in_err-truth-in-Ons.ensures, c.in-Ons.is, c.in_err-truth-in-Ons.ensures)

pub returns-in-Asks : goal.returns-in-Asks
unfolding asked
returns-in-Asks c = record { is = rw c.in-Asks.is; onward = omega arith; within = c.requires }

pub returns-in-Opens : goal.returns-in-Opens
unfolding asked
returns-in-Opens c = record { is = rw c.in-Opens.is; onward = omega arith; within = c.requires }

pub returns-in_ok-truth-in-Ifs : goal.returns-in_ok-truth-in-Ifs
unfolding asked ◌then◌
returns-in_ok-truth-in-Ifs c = let e = c.in_ok-truth-in-Ifs.ensures in record { is = rw (c.in-Ifs.is, e.is); onward = e.onward; within = e.within }

pub returns-in_ok-truth-in-Ons : goal.returns-in_ok-truth-in-Ons
unfolding asked ◌then◌
returns-in_ok-truth-in-Ons c = let e = c.in_ok-truth-in-Ons.ensures in record { is = rw (c.in-Ons.is, e.is); onward = e.onward; within = e.within }
