-- The walk over an image, by how far it came: what it says, and what the array then holds.
use Prim.Native.Nat.{ℕ, zero, suc, ◌≤◌, ◌<◌}
use mathlib.Core.Path.{◌≡◌, refl, ap, ap₂, sym, subst, ◌∙◌}
use mathlib.Core.List.{List, ◌∷◌}
use lib.ListN.{length}
use borrow.Author.Tests.{lt-ltb, le-ltb}
use Rattle.grammar.specs.Expr.{Expr}
use Rattle.grammar.specs.Grammar.{Grammar}
use Rattle.grammar.specs.Sound.{Bytes}
use Rattle.std.specs.Prelude.{Result, Ok, Err, IsErrAnd}
use Rattle.std.specs.Borrow.{Bor}
use Rattle.reader.specs.declared.reader.Reader.{Reader}
use Rattle.reader.specs.declared.refusal.Fault.TheVariants.{Trailing}
use Rattle.reader.specs.Meant.{number_of, told}
use Rattle.image.specs.Shapes.{head_from}
use Rattle.image.proofs.FillLaws.{err_is}
use Rattle.reader.specs.declared.refusal.Refusal.{Refusal}
use Rattle.image.specs.declared.head.Head as code
use Rattle.format.specs.Reading.{Reading, got, fault, ◌then◌}
use Rattle.format.specs.ReadingLaws.{onward, then_assoc, of_got}
use Rattle.format.specs.Image.{times, Head, bounded, node_at, head_at, patterns_at, nodes_at, body_at, ended, read_image}
use Rattle.image.specs.Word.{keep, word_at}
use Rattle.image.specs.Filled.{unless, put_down, filled, with_patterns, with_nodes, Fills, Loads}
use Rattle.image.specs.LoadLaws.{Through, through, through_fault, times_count, made, after_patterns, nodes_kept, texts_kept, patterns_kept}
use Rattle.image.specs.Meant.{heading, Begins, Said, fine, faulty, answered, loaded}

pub record Walk (image before after : List ℕ) (said : Said Head) : Type 0 where
  pub answer : said ≡ answered (read_image image)
  pub array : after ≡ filled image before

-- What the walk says and puts down is the promise, for a list of bytes and an array of 524 numbers.
pub promised :
    {image before after : List ℕ} {r : Result code.Head Refusal} → Bytes image → length before ≡ 524 → Walk image before after (loaded r)
    → Loads image before after r
promised {image} {before} {after} bytes room w = record {
  answer = w.answer;
  array = w.array;
  nodes = λ g e n l. rw w.array (nodes_kept image bytes before room g e n l);
  texts = λ g e n l. rw w.array (texts_kept image bytes before room g e n l);
  patterns = λ g e t l. rw w.array (patterns_kept image bytes before room g e t l);
}

-- The same, of an array that is known to be equal.
pub putting : {image before after array : List ℕ} {said : Said Head} → after ≡ array → Walk image before array said → Walk image before after said
putting e w = record { answer = w.answer; array = e ∙ w.array }

-- How many nodes there are, and where they end, is as well read by their words.
words_down :
    (image : List ℕ) (T C N i m at : ℕ)
    → (times (word_at image T C N) i m at then put_down) ≡ (times (node_at image T C N) i m at then put_down)
words_down image T C N i zero at = refl
words_down image T C N i (suc m) at = one (node_at image T C N i at) λ next. words_down image T C N (suc i) m next
  where
    one :
        (r : Reading Expr) → ((next : ℕ)
        → (times (word_at image T C N) (suc i) m next then put_down) ≡ (times (node_at image T C N) (suc i) m next then put_down))
        → (((r then keep) then λ x at. times (word_at image T C N) (suc i) m at then λ xs at. got (x ∷ xs) at) then put_down)
        ≡ ((r then λ x at. times (node_at image T C N) (suc i) m at then λ xs at. got (x ∷ xs) at) then put_down)
    one (got x next) later =
        then_assoc (times (word_at image T C N) (suc i) m next) (λ xs at. got (_ ∷ xs) at) put_down
        ∙ later next
        ∙ sym (then_assoc (times (node_at image T C N) (suc i) m next) (λ xs at. got (x ∷ xs) at) put_down)
    one (fault n place) later = refl

module _ (image : List ℕ) (code : List ℕ) where
  module _ (short : length image ≤ 16384) where
    -- What is read after the length was found good, and what is put down.
    said : {r : Reading Grammar} → r ≡ (head_at image then body_at image) → answered (ended image r) ≡ answered (read_image image)
    said e = rw (le-ltb 16384 (length image) short) (ap (λ r. answered (ended image r)) e)

    put :
        {l : List ℕ} → l ≡ (unless (head_at image) code λ h at. unless (patterns_at image h at)
        (with_patterns image h at code) λ ps next. with_nodes image h next (with_patterns image h at code)) → l ≡ filled image code
    put e = rw (le-ltb 16384 (length image) short) e

    -- A faulty head.
    pub no_head : {n place : ℕ} → fault n place ≡ head_at image → Walk image code code (faulty n place)
    no_head e = record { answer = said (onward (body_at image) e); array = put (rw (← e)) }

    module _ {h : Head} {at : ℕ} (eh : got h at ≡ head_at image) where
      body : {r : Reading Grammar} → r ≡ body_at image h at → answered (ended image r) ≡ answered (read_image image)
      body e = said (e ∙ onward (body_at image) eh)

      -- A pattern that cannot be read.
      pub no_patterns :
          {n place : ℕ} → fault n place ≡ (patterns_at image h at then put_down)
          → Walk image code (with_patterns image h at code) (faulty n place)
      no_patterns e =
          let f = through_fault (patterns_at image h at) (λ ps next. tt) (sym e) in
          record { answer = body (sym (onward (after_patterns image h) f)); array = put (rw (← eh) (rw f)) }

      module _ {next : ℕ} (ep : got tt next ≡ (patterns_at image h at then put_down)) where
        ps : Through (patterns_at image h at) put_down tt next
        ps = through (patterns_at image h at) put_down (sym ep)

        patterns_are : patterns_at image h at ≡ got ps.value next
        patterns_are = let same : ps.next ≡ next = cc ps.rest in ps.first ∙ ap (λ n. got ps.value n) same

        nodes : {r : Reading Grammar} → r ≡ after_patterns image h ps.value next → answered (ended image r) ≡ answered (read_image image)
        nodes e = body (e ∙ sym (onward (after_patterns image h) patterns_are))

        all_put : with_nodes image h next (with_patterns image h at code) ≡ filled image code
        all_put = put (rw (← eh) (rw patterns_are))

        -- The nodes, as their words are read.
        abbrev words : Reading (Unit {0})
        words = times (word_at image h.tables h.conditions h.nodes) 0 h.nodes next then put_down

        by_words : words ≡ (nodes_at image h next then put_down)
        by_words = words_down image h.tables h.conditions h.nodes 0 h.nodes next

        -- A node that cannot be read.
        pub no_nodes :
            {n place : ℕ} → fault n place ≡ words
            → Walk image code (with_nodes image h next (with_patterns image h at code)) (faulty n place)
        no_nodes e =
            let f = through_fault (nodes_at image h next) (λ xs next. tt) (sym (e ∙ by_words)) in
            record { answer = nodes (sym (onward (made h ps.value) f)); array = all_put }

        module _ {end : ℕ} (ex : got tt end ≡ words) where
          xs : Through (nodes_at image h next) put_down tt end
          xs = through (nodes_at image h next) put_down (sym (ex ∙ by_words))

          nodes_are : nodes_at image h next ≡ got xs.value end
          nodes_are = let same : xs.next ≡ end = cc xs.rest in xs.first ∙ ap (λ n. got xs.value n) same

          all_read : answered (ended image (made h ps.value xs.value end)) ≡ answered (read_image image)
          all_read = nodes (sym (onward (made h ps.value) nodes_are))

          -- Bytes after the last node.
          pub left_over :
              end < length image → Walk image code (with_nodes image h next (with_patterns image h at code))
              (faulty 8 end)
          left_over l = record { answer = rw (lt-ltb end (length image) l) at all_read; array = all_put }

          -- A good image.
          pub all_good :
              length image ≤ end → Walk image code (with_nodes image h next (with_patterns image h at code))
              (fine h)
          all_good l =
              let T : length ps.value
              ≡ h.tables = of_got (rw patterns_are at (times_count (λ t. bounded image 7 0 h.nodes) 0 h.tables at)) in
              let N : length xs.value
              ≡ h.nodes = of_got (rw nodes_are at
              (times_count (node_at image h.tables h.conditions h.nodes) 0 h.nodes next)) in
              record {
                answer = ap₂ (λ T N. fine (record { tables = T; conditions = h.conditions; nodes = N; start = h.start })) (sym T) (sym N)
                    ∙ rw (le-ltb end (length image) l) at all_read;
                array = all_put;
              }

-- ## By the code's own values

-- What the two loops of the walk promise, over an image.
abbrev Patterns : (image : List ℕ) → code.Head → (r1 r2 : Reader) (before after : List ℕ) → Result (Unit {0}) Refusal → Type 0
Patterns image h r1 r2 before after r = Fills (λ t. bounded image 7 0 h.nodes) 512 h.tables r1 r2 before after r

abbrev Nodes : (image : List ℕ) → code.Head → (r2 r3 : Reader) (before after : List ℕ) → Result (Unit {0}) Refusal → Type 0
Nodes image h r2 r3 before after r = Fills (word_at image h.tables h.conditions h.nodes) 0 h.nodes r2 r3 before after r

-- A reader that was set to the start of the image; it then read the head.
starts : {image : Bor (List ℕ)} {r : Reader} {x : Reading Head} → (r.image ≡ image) × (r.at ≡ 0) → x ≡ head_from r.image.now r.at
    → x ≡ head_at image.now
starts over e = e ∙ ap₂ (λ i at. head_from i.now at) over.0 over.1

module _ {image : Bor (List ℕ)} {array : List ℕ} (bytes : Bytes image.now) (room : length array ≡ 524) (short : length image.now ≤ 16384)
    {r0 r1 : Reader} (over : (r0.image ≡ image) × (r0.at ≡ 0)) where
  pub bad_head :
      {e : Refusal} {r : Result code.Head Refusal} → Begins r0 r1 (Err e) → IsErrAnd r (λ x. x ≡ e) → Loads image.now array array r
  bad_head b q = err_is (Loads image.now array array) q (promised bytes room (no_head image.now array short (starts over b.result)))

  module _ {h : code.Head} (b : Begins r0 r1 (Ok h)) {r2 : Reader} {array2 : List ℕ} where
    pub bad_patterns :
        {e : Refusal} {r : Result code.Head Refusal} → Patterns r1.image.now h r1 r2 array array2 (Err e)
        → IsErrAnd r (λ x. x ≡ e) → Loads image.now array array2 r
    bad_patterns {e} f q =
        let p : Patterns image.now h r1 r2 array array2 (Err e) = subst (λ i. Patterns i.now h r1 r2 array array2 (Err e)) (b.image ∙ over.0) f in
        err_is (Loads image.now array array2) q
        (promised bytes room (putting p.array (no_patterns image.now array short (starts over b.result) p.result)))

    module _ (f : Patterns r1.image.now h r1 r2 array array2 (Ok tt)) {r3 : Reader} {array3 : List ℕ} where
      -- What the walk says of the image if it says it of the array that was put down.
      both :
          {r : Result (Unit {0}) Refusal} {said : Said Head} → Nodes r2.image.now h r2 r3 array2 array3 r
          → (got (heading h) r1.at ≡ head_at image.now → got tt r2.at ≡ (patterns_at image.now (heading h) r1.at then put_down)
          → told r r3.at ≡ (times (word_at image.now h.tables h.conditions h.nodes) 0 h.nodes r2.at then put_down)
          → Walk image.now array (with_nodes image.now (heading h) r2.at (with_patterns image.now (heading h) r1.at array)) said)
          → Walk image.now array array3 said
      both {r} g walk =
          let p : Patterns image.now h r1 r2 array array2 (Ok tt) =
          subst (λ i. Patterns i.now h r1 r2 array array2 (Ok tt)) (b.image ∙ over.0) f in
          let n : Nodes image.now h r2 r3 array2 array3 r =
          subst (λ i. Nodes i.now h r2 r3 array2 array3 r) (f.image ∙ b.image ∙ over.0) g in
          putting (n.array ∙ ap (with_nodes image.now (heading h) r2.at) p.array) (walk (starts over b.result) p.result n.result)

      pub bad_nodes :
          {e : Refusal} {r : Result code.Head Refusal} → Nodes r2.image.now h r2 r3 array2 array3 (Err e)
          → IsErrAnd r (λ x. x ≡ e) → Loads image.now array array3 r
      bad_nodes g q =
          err_is (Loads image.now array array3) q (promised bytes room (both g λ eh ep ex. no_nodes image.now array short eh ep ex))

      pub trailing :
          {e : Refusal} → Nodes r2.image.now h r2 r3 array2 array3 (Ok tt) → (e.fault ≡ Trailing) × (e.place ≡ r3.at)
          → r3.at < length image.now → Loads image.now array array3 (Err e)
      trailing {e} g is l =
          let said : faulty 8 r3.at ≡ loaded (Err e) = λ i. faulty (number_of (sym is.0 i)) (sym is.1 i) in
          promised bytes room (subst (Walk image.now array array3) said (both g λ eh ep ex. left_over image.now array short eh ep ex l))

      pub good_image : Nodes r2.image.now h r2 r3 array2 array3 (Ok tt) → length image.now ≤ r3.at → Loads image.now array array3 (Ok h)
      good_image g l = promised bytes room (both g λ eh ep ex. all_good image.now array short eh ep ex l)
