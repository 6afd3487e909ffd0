-- `same_name` meets its promise. Assumes nothing.
use Rattle.std.proofs.Common.{◌∙◌}
use Rattle.notation.specs.At.{name_at}
use Rattle.patterns.proofs.ContentsLaws.{told_same}
use Rattle.patterns.proofs.contents.same_name.Goals as goal

pub returns : goal.returns
returns c =
    let a = c.args in
    c.is_eq.ensures ∙ told_same c.order_at.result (name_at a.text.now a.p) (name_at a.text.now a.q) c.order_at.ensures
