-- The nodes of productions are those of the grammar that they compile to.
use Rattle.std.specs.Prelude.{ℕ, ◌+◌, ◌≡◌, List, [], ◌∷◌, length}
use Rattle.std.proofs.Common.{arith, length-append}
use Rattle.grammar.specs.Grammar.{size}
use Rattle.notation.specs.Tree.{Name, Production}
use Rattle.notation.specs.Compile.{count, emit, emit_all, compile}
use Rattle.notation.specs.CompileLaws.{production_number, table_number, condition_number}
use Rattle.notation.specs.MeansLaws.{emit_length}
use Rattle.naming.specs.Sized.{nodes_of}

emitted : (f g h : Name → ℕ) (k : ℕ) (ps : List Production) → length (emit_all f g h k ps) ≡ nodes_of ps
unfolding emit_all
emitted f g h k [] = omega arith
emitted f g h k (p ∷ ps) =
    let j = k + count p.body in
    omega (arith, length-append (emit f g h k p.body) (emit_all f g h j ps), emit_length f g h k p.body, emitted f g h j ps)

pub size_is : (ps : List Production) → size (compile ps) ≡ nodes_of ps
unfolding compile
size_is ps = emitted (production_number ps) (table_number ps) (condition_number ps) 0 ps
