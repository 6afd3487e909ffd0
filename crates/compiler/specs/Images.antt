-- What the functions that make an image promise.
use Rattle.std.specs.Prelude.{ℕ, ◌≤◌, ◌<◌, ◌≡◌, List, ◌++◌, length, drop, Ok, Err}
use Rattle.notation.specs.Tree.{Name, Production}
use Rattle.notation.specs.Naming.{names, conditions}
use Rattle.notation.specs.Naming as Naming
use Rattle.notation.specs.Compile.{sorted, entry, compile}
use Rattle.notation.specs.Compile as Compile
use Rattle.writer.specs.Named.{names_of, production_by}
use Rattle.emitter.specs.Emitted.{Emits}
use Rattle.writer.specs.declared.node.Made.{Made}
use Rattle.compiler.specs.Judges.{Passes}
use Rattle.compiler.specs.declared.refusal.Slip.TheVariants.{NoRoom}
use Rattle.compiler.specs.Compiles.{Compiled}

-- An image goes to the front of a buffer that has the room; else it is 25, and the buffer is as it was.
abbrev pub Lends : (bytes before after : List ℕ) → Compiled → Type 0
Lends bytes before after (Ok n) = (length bytes ≤ length before) × (n ≡ length bytes) × (after ≡ bytes ++ drop (length bytes) before)
Lends bytes before after (Err r) = (length before < length bytes) × (r.slip ≡ NoRoom) × (r.place ≡ 0) × (after ≡ before)

-- The text reads as productions that passed, and these are the places of its names: those of productions, tables and conditions, each in byte
-- order, each once.
pub record Lists (text heads tables switches : List ℕ) : Type 0 where
  pub productions : List Production
  pub passes : Passes text productions
  pub heads_are : names_of text heads ≡ sorted (names productions)
  pub tables_are : names_of text tables ≡ sorted (Naming.tables productions)
  pub switches_are : names_of text switches ≡ sorted (conditions productions)

-- And these are their numbers: each production's node by its name, and the start.
pub record Numbers (text heads roots tables switches : List ℕ) (start : ℕ) : Type 0 where
  pub lists : Lists text heads tables switches
  pub each : (n : Name) → production_by text heads roots n ≡ entry n (Compile.roots 0 lists.productions)
  pub first : start ≡ (compile lists.productions).start

-- The text reads as productions that passed, and this is there of its image: how many conditions it has, its start, and what was written of its nodes.
pub record Makes (text : List ℕ) (switches start : ℕ) (out patterns ends : List ℕ) (made : Made) : Type 0 where
  pub productions : List Production
  pub passes : Passes text productions
  pub switches_are : switches ≡ (compile productions).conditions
  pub start_is : start ≡ (compile productions).start
  pub ends_long : length ends ≡ 512
  pub emits : Emits productions out patterns ends made
