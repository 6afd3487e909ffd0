-- `past_shut` meets its promise. The loop's invariant: up to here nothing was put out. The measure is what is left to go. Assumes nothing.
use mathlib.Core.Path.{sym}
use borrow.Author.Rules.{rules}
use denote.Enum.Bare.{same_true}
use Rattle.walker.specs.contracts.act.Mode.{the_type}
use Rattle.walker.proofs.NextLaws.{over_shut}
use Rattle.walker.proofs.walk.Walk.past_shut.Goals as goal

pub loop-w-preserved : goal.loop-w-preserved
loop-w-preserved c = let u = c.token_from-w in let s = c.shuts.ensures c.if-shuts.true in
    (over_shut c.loop-w.invariant u.result u.ensures (same_true the_type (search rules) _ _ (sym c.loop-w-test.ensures)) s.0 s.1 s.2).0
