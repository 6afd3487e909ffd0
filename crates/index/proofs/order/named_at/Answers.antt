-- `named_at` meets its promise. Assumes nothing.
use Rattle.std.proofs.Common.{arith, rules, tests}
use Rattle.std.proofs.lemmas.Grind.{common_steps}
use Rattle.std.proofs.lemmas.Option.{gets}
use Rattle.index.proofs.NameLaws.{byte_is}
use Rattle.index.proofs.order.named_at.Goals as goal

pub returns : goal.returns
returns c =
    byte_is c.args.s.now c.args.i c.copied.result (grind (arith, common_steps, gets)) (λ e. search (rules, tests)) (λ b e. search (rules, tests))
