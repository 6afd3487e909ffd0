-- `weight_of` meets its promise. Assumes nothing.
use Rattle.std.proofs.Common.{◌*◌, ap, ◌∙◌, arith, rules}
use Rattle.lexer.proofs.LeafLaws.{class_here_lem}
use Rattle.naming.proofs.WeightLaws.{class_weight, spelled_weight, other_weight}
use Rattle.naming.proofs.weight.weight_of.Goals as goal

pub class_size-requires : goal.class_size-requires
class_size-requires c = class_here_lem c.requires.lexed (search rules)

pub returns-then-eq : goal.returns-then-eq
returns-then-eq c = ap (λ n. n * 2) c.class_size.ensures ∙ class_weight c.requires (search rules)

pub overflow_mul-result : goal.overflow_mul-result
overflow_mul-result c =
    let e = ap (λ n. n * 2) c.class_size.ensures ∙ class_weight c.requires (search rules) in
    omega (arith, e, spelled_weight c.requires, c.well_formed)

pub returns : goal.returns
returns c = c.weight_by.ensures ∙ other_weight c.args.text.now c.args.t (search rules)
