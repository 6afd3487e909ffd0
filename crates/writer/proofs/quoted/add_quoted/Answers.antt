-- `add_quoted` meets its promise: by how many bytes there are. Assumes nothing.
use Rattle.std.proofs.Common.{refl, ap, sym, ◌∙◌, [], ◌∷◌, arith, length, ◌≡◌}
use Rattle.std.proofs.lemmas.List.{nil_from_length}
use Rattle.grammar.specs.Expr.{Empty, Byte}
use Rattle.notation.specs.Lexer.{fresh, quote}
use Rattle.notation.specs.Compile.{text_node}
use Rattle.chars.specs.Meant.{left}
use Rattle.writer.specs.PutLaws.{adds_as}
use Rattle.writer.proofs.quoted.add_quoted.Goals as goal

pub returns-in_default : goal.returns-in_default
returns-in_default c =
    adds_as (ap (λ s. text_node s ∷ []) (sym (sym c.quoted.ensures ∙ c.in_default.ensures.steps.0))) (c.add.ensures Empty refl)

pub returns-then-n-eq1 : goal.returns-then-n-eq1
returns-then-n-eq1 c =
    let b = c.in-Some.b in
    let e = sym c.quoted.ensures ∙ c.in-Some.ensures.steps in
    let r = c.next.new.self in
    let none : left (λ mark. quote mark fresh) r.stop r.text.now r.at ≡ [] = nil_from_length _ (omega (arith, ap length e, c.quoted_length-n.ensures)) in
    adds_as (ap (λ s. text_node s ∷ []) (sym (e ∙ ap (λ l. b ∷ l) none))) (c.add-then-n-eq1.ensures (Byte b) (rw c.from.ensures))
