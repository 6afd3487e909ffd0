-- Laws of what a function that reads by a reader gives: with and without where the reader stands after a refusal.
use Rattle.std.specs.Prelude.{ℕ, refl, Result, Ok, Err}
use Rattle.std.proofs.Common.{ap}
use Rattle.reader.specs.declared.refusal.Refusal.{Refusal}
use Rattle.reader.specs.declared.reader.Reader.{Reader}
use Rattle.format.specs.Reading.{Reading}
use Rattle.reader.specs.Meant.{behind, Reads, Gives}

module _ {A : Type 0} {p : ℕ → Reading A} {before after : Reader} where
  pub gives : {r : Result A Refusal} → Reads p before after r → Gives p before after r
  gives o = record { result = o.result; image = o.image }

  -- What was read says where the reader stands; a refusal says it of a reader that is left where it stood.
  pub reads_got : {x : A} → Gives p before after (Ok x) → Reads p before after (Ok x)
  reads_got g = record { result = g.result; stands = ap (λ x. behind x before.at) g.result; image = g.image }

  pub reads_fault : {e : Refusal} → Gives p before after (Err e) → Reads p before before (Err e)
  reads_fault g = record { result = g.result; stands = ap (λ x. behind x before.at) g.result; image = refl }
