-- Two outcomes that a promise permits are equal.
use mathlib.Core.HLevel.{is_prop→PathP}
use Rattle.std.specs.Prelude.{ℕ, ◌≤◌, ◌<◌, ◌≡◌, List, Option, Result, Ok, Err, IfOk}
use Rattle.std.proofs.Math.Bridge.{le_prop}
use Rattle.std.proofs.Common.{ap, sym, ◌∙◌, arith}
use Rattle.reader.specs.declared.reader.Reader.{Reader}
use Rattle.reader.specs.declared.refusal.Refusal.{Refusal}
use Rattle.reader.specs.Meant.{number_of}
use Rattle.reader.specs.Unique.{one_refusal, one_told, same_reader}
use Rattle.image.specs.declared.head.Head as code
use Rattle.format.specs.Reading.{Reading}
use Rattle.format.specs.Image.{Head, read_image}
use Rattle.image.specs.declared.node.Node.{Node}
use Rattle.image.specs.declared.node.Span.{Span}
use Rattle.image.specs.Word.{packed}
use Rattle.image.specs.Node.{node_of, span_of}
use Rattle.image.specs.Filled.{Fills, Puts, Loads}
use Rattle.image.specs.FilledLaws.{puts}
use Rattle.image.specs.Meant.{heading, headed, Begins, loaded, checked, verdict}

-- `bounded`, `word_at` and every function that reads operands promise `Reads`: `one_read` of `reader`.

-- A head is its four numbers.
pub one_heading : (h k : code.Head) → heading h ≡ heading k → h ≡ k
one_heading h k e =
    let tables : h.tables ≡ k.tables = ap (λ h. h.tables) e in
    let conditions : h.conditions ≡ k.conditions = ap (λ h. h.conditions) e in
    let nodes : h.nodes ≡ k.nodes = ap (λ h. h.nodes) e in
    let start : h.start ≡ k.start = ap (λ h. h.start) e in
    λ i. record {
      tables = tables i;
      conditions = conditions i;
      nodes = nodes i;
      start = start i;
      few_tables = is_prop→PathP (λ j. tables j ≤ 8) (λ j. le_prop) h.few_tables k.few_tables i;
      few_conditions = is_prop→PathP (λ j. conditions j ≤ 8) (λ j. le_prop) h.few_conditions k.few_conditions i;
      few_nodes = is_prop→PathP (λ j. nodes j ≤ 512) (λ j. le_prop) h.few_nodes k.few_nodes i;
      starts = is_prop→PathP (λ j. start j < nodes j) (λ j. le_prop) h.starts k.starts i;
    }

-- The numbers that an image begins with, and the place after them where they were read.
pub one_header :
    (r s : Result code.Head Refusal) (at at' : ℕ) {x : Reading Head} → headed r at ≡ x → headed s at' ≡ x → (r ≡ s) × IfOk r (λ _. at ≡ at')
one_header r s at at' e f = same r s (e ∙ sym f)
  where
    same : (r s : Result code.Head Refusal) → headed r at ≡ headed s at' → (r ≡ s) × IfOk r (λ _. at ≡ at')
    same (Ok h) (Ok k) e =
        let head : heading h ≡ heading k = cc in let place : at ≡ at' = cc in (ap Ok (one_heading h k head), place)
    same (Ok h) (Err g) e = let z : ◌≡◌ {A = ℕ} 0 1 = cc in absurd (omega arith)
    same (Err f) (Ok k) e = let z : ◌≡◌ {A = ℕ} 0 1 = cc in absurd (omega arith)
    same (Err f) (Err g) e =
        let number : number_of f.fault ≡ number_of g.fault = cc in let place : f.place ≡ g.place = cc in
        (ap Err (one_refusal f g number place), tt)

-- `head_of`: what is read, and the reader after it, after a refusal too.
pub one_beginning :
    {before after after' : Reader} {r r' : Result code.Head Refusal} → Begins before after r → Begins before after' r'
    → (r ≡ r') × (after ≡ after')
one_beginning {after = after} {after' = after'} {r = r} {r' = r'} f g =
    ((one_header r r' after.at after'.at f.result g.result).0, same_reader (f.image ∙ sym g.image) (f.stands ∙ sym g.stands))

-- `fill_patterns` and `fill_nodes`: what is read and what the array holds, wherever the reader stands after a refusal.
pub one_put :
    {p : ℕ → ℕ → Reading ℕ} {to k : ℕ} {from end end' : Reader} {before after after' : List ℕ} {r r' : Result (Unit {0}) Refusal}
    → Puts p to k from end before after r → Puts p to k from end' before after' r' → (r ≡ r') × (after ≡ after')
one_put {end = end} {end' = end'} {r = r} {r' = r'} f g = (one_told r r' end.at end'.at f.result g.result, f.array ∙ sym g.array)

-- What is read, the reader after it and what the array holds, after a refusal too.
pub one_filling :
    {p : ℕ → ℕ → Reading ℕ} {to k : ℕ} {from end end' : Reader} {before after after' : List ℕ} {r r' : Result (Unit {0}) Refusal}
    → Fills p to k from end before after r → Fills p to k from end' before after' r' → (r ≡ r') × (end ≡ end') × (after ≡ after')
one_filling f g = let e = one_put (puts f) (puts g) in (e.0, same_reader (f.image ∙ sym g.image) (f.stands ∙ sym g.stands), e.1)

-- `load`: what is said and what the array holds, after a refusal too.
pub one_loading :
    {image before after after' : List ℕ} {r r' : Result code.Head Refusal} → Loads image before after r → Loads image before after' r'
    → (r ≡ r') × (after ≡ after')
one_loading {r = r} {r' = r'} f g = (same r r' (f.answer ∙ sym g.answer), f.array ∙ sym g.array)
  where
    same : (r s : Result code.Head Refusal) → loaded r ≡ loaded s → r ≡ s
    same (Ok h) (Ok k) e = let head : heading h ≡ heading k = cc in ap Ok (one_heading h k head)
    same (Ok h) (Err g) e = let z : ◌≡◌ {A = ℕ} 0 1 = cc in absurd (omega arith)
    same (Err f) (Ok k) e = let z : ◌≡◌ {A = ℕ} 0 1 = cc in absurd (omega arith)
    same (Err f) (Err g) e =
        let number : number_of f.fault ≡ number_of g.fault = cc in let place : f.place ≡ g.place = cc in
        ap Err (one_refusal f g number place)

-- `check`
pub one_verdict :
    (image : List ℕ) (r r' : Result (Unit {0}) Refusal) → checked r ≡ verdict (read_image image) → checked r' ≡ verdict (read_image image) → r ≡ r'
one_verdict image r r' e f = same r r' (e ∙ sym f)
  where
    same : (r s : Result (Unit {0}) Refusal) → checked r ≡ checked s → r ≡ s
    same (Ok _) (Ok _) e = λ i. Ok tt
    same (Ok _) (Err g) e = let z : ◌≡◌ {A = ℕ} 0 1 = cc in absurd (omega arith)
    same (Err f) (Ok _) e = let z : ◌≡◌ {A = ℕ} 0 1 = cc in absurd (omega arith)
    same (Err f) (Err g) e =
        let number : number_of f.fault ≡ number_of g.fault = cc in let place : f.place ≡ g.place = cc in
        ap Err (one_refusal f g number place)

-- `node_of`
pub one_node : (word : ℕ) (r r' : Node) → r ≡ node_of word → r' ≡ node_of word → r ≡ r'
one_node word r r' e f = e ∙ sym f

-- `span_of`
pub one_span : (k : Node) (r r' : Option Span) → r ≡ span_of k → r' ≡ span_of k → r ≡ r'
one_span k r r' e f = e ∙ sym f

-- `word`
pub one_word : (tag a b r r' : ℕ) → r ≡ packed tag a b → r' ≡ packed tag a b → r ≡ r'
one_word tag a b r r' e f = e ∙ sym f
