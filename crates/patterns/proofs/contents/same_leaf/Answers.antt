-- `same_leaf` meets its promise: by the leaf. Assumes nothing.
use mathlib.Core.Path.{◌∙◌}
use Rattle.lexer.proofs.LeafLaws.{quoted_here, class_here_lem}
use Rattle.patterns.proofs.ContentsLaws.{any_same, texts_same, classes_same, names_same}
use Rattle.patterns.proofs.contents.same_leaf.Goals as goal

pub same_quoted-requires : goal.same_quoted-requires
same_quoted-requires c = let r = rw c.in-Quoted.is at c.requires in (quoted_here r.0.lexed r.0.kind, quoted_here r.1.lexed r.1.kind)

pub same_class-requires : goal.same_class-requires
same_class-requires c = let r = rw c.in-Class.is at c.requires in (class_here_lem r.0.lexed r.0.kind, class_here_lem r.1.lexed r.1.kind)

pub returns-in-Any : goal.returns-in-Any
returns-in-Any c = let a = c.args in rw c.in-Any.is (any_same a.text.now a.a a.b)

pub returns-in-Quoted : goal.returns-in-Quoted
returns-in-Quoted c = let a = c.args in rw c.in-Quoted.is (c.same_quoted.ensures ∙ texts_same a.text.now a.a a.b)

pub returns-in-Class : goal.returns-in-Class
returns-in-Class c = let a = c.args in rw c.in-Class.is (c.same_class.ensures ∙ classes_same a.text.now a.a a.b)

pub returns-in_default : goal.returns-in_default
returns-in_default c = let a = c.args in let d = c.in_default in
    c.same_name.ensures ∙ names_same a.text.now a.a a.b a.leaf d.not-Any d.not-Quoted d.not-Class
