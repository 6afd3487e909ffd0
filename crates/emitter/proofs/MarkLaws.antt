-- An operator, where it begins.
use Rattle.std.specs.Prelude.{ℕ, ◌≡◌, refl, Bool, true, false, List, length}
use Rattle.notation.specs.Tree.{Name, def}
use Rattle.lexer.specs.declared.token.Opener.{Opener}
use Rattle.lexer.specs.declared.token.Opener.TheVariants.{Def, Block, Local, On}
use Rattle.writer.specs.Operator.{opener_of}
use Rattle.emitter.specs.Known.{Begins}
use Rattle.emitter.specs.Shown.{Marks}

module _ (ts : List Name) (was : List ℕ) (n : Name) where
  -- A def brings its table's pattern where it is the first.
  pub marks_def : (now : List ℕ) (first : Bool) → length now ≡ length was → Begins was ts n now first → Marks ts was (def n) n now first
  marks_def now true l b = record { brought = λ f T. rw (← (b f T).0); tells = λ f T. rw (← (b f T).0) (b f T).1; long = l }
  marks_def now false l b = record { brought = λ f T. rw (← (b f T).0); tells = λ f T. rw (← (b f T).0) (b f T).1; long = l }

  -- Every other operator brings none.
  pub marks_none : (o : Opener) → (o ≡ Def → ⊥) → Marks ts was (opener_of o n) n was false
  unfolding opener_of
  marks_none Def h = absurd (h refl)
  marks_none Block h = record { brought = λ f T. refl; tells = λ f T. T; long = refl }
  marks_none Local h = record { brought = λ f T. refl; tells = λ f T. T; long = refl }
  marks_none (On w) h = record { brought = λ f T. refl; tells = λ f T. T; long = refl }
