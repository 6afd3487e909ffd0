-- `past_open` meets its promise. The loop's invariant: up to here nothing was put out. The measure is what is left to go. Assumes nothing.
use mathlib.Core.Path.{◌≡◌, sym}
use native.Mathlib.Omega.{arith}
use borrow.Author.Rules.{rules}
use denote.Enum.Bare.{same_true}
use Rattle.walker.specs.declared.act.Mode.TheVariants.{Want}
use Rattle.walker.specs.contracts.act.Mode.{the_type}
use Rattle.walker.proofs.NextLaws.{over_open}
use Rattle.walker.proofs.walk.Walk.past_open.Goals as goal

pub loop-w-preserved : goal.loop-w-preserved
loop-w-preserved c = let i = c.loop-w.invariant in let u = c.token_from-w in
    let m : c.loop-w.w.mode ≡ Want = same_true the_type (search rules) _ _ (sym c.loop-w-test.ensures) in
    (over_open i u.result u.ensures m (search rules) (omega (arith, i.long, c.requires, rw m at i.walks.low, i.walks.lexed.inside))).0
