-- Something is said of every text, and one thing only; and it is said by the rules of `Kept`.
use Rattle.std.specs.Prelude.{ℕ, ◌≤◌, ◌≡◌, refl, Bool, true, false, ◌↔◌, List, [], ltb, leb, length}
use Rattle.std.proofs.Common.{ap, sym, ◌∙◌, subst, arith, length-drop, ltb-true, ltb-false, leb-true, leb-false, le-ltb}
use Rattle.format.specs.Written.{encode}
use Rattle.format.specs.Image.{read_image}
use Rattle.format.specs.Image as I
use Rattle.format.proofs.ReadBack.{body_back}
use Rattle.format.specs.RoundTrip.{Stands}
use Rattle.grammar.specs.Grammar.{Grammar}
use Rattle.grammar.specs.Sound.{Bytes}
use Rattle.notation.specs.Tree.{Production}
use Rattle.notation.specs.Token.{Token}
use Rattle.notation.specs.Notation.{Productions, last, more}
use Rattle.notation.specs.Lexer.{tokens}
use Rattle.notation.specs.LexicalText.{no_way}
use Rattle.notation.specs.Reader.{Parsed, reads, unread as unparsed, parsed}
use Rattle.notation.specs.Text.{ReadsAs}
use Rattle.notation.specs.TextLaws.{taken, derived, one_reading, lexes_once}
use Rattle.notation.specs.Naming.{all_defined, once_named, one_pattern}
use Rattle.notation.specs.Limits.{fits}
use Rattle.notation.specs.Compile.{compile}
use Rattle.notation.specs.Means.{AllMean, Starts}
use Rattle.notation.specs.CompileLaws.{production_number, table_number, condition_number, compile_means, compile_starts}
use Rattle.notation.specs.SoundLaws.{within_limits, sound_of}
use Rattle.notation.specs.StopsLaws.{one_place, stops_unread}
use Rattle.notation.specs.Judged.{Answer, good, refused, judged}
use Rattle.notation.specs.JudgedLaws.{Refused, judged_undefined, judged_twice, judged_differs, judged_past, judged_no_room, judged_good, judged_inside}
use Rattle.notation.specs.Said.{Says, too_long, unread, read}
use Rattle.notation.specs.Kept.{Read, Taken, Unreadable, underivable, Undefined, NamedTwice, TwoPatterns, PastLimit, NoRoom, Due, due_20, due_21, due_22, due_23, due_24, due_25}
use Rattle.notation.specs.Kept as K

-- ONE ANSWER.
pub one_answer : {text : List ℕ} {room : ℕ} {a b : Answer} → Says text room a → Says text room b → a ≡ b
one_answer (too_long h) (too_long k) = refl
one_answer (too_long h) (unread k s) = absurd (omega arith)
one_answer (too_long h) (read k r) = absurd (omega arith)
one_answer (unread h s) (too_long k) = absurd (omega arith)
one_answer (unread {p = p} h s) (unread {p = q} k t) = ap (λ p. refused 20 p) (one_place p q s t)
one_answer {text} (unread {p = p} h s) (read {ps = ps} k r) = absurd ((stops_unread text).0 (p, s) ps r)
one_answer (read h r) (too_long k) = absurd (omega arith)
one_answer {text} (read {ps = ps} h r) (unread {p = p} k s) = absurd ((stops_unread text).0 (p, s) ps r)
one_answer {text} {room} (read {ps = ps} h r) (read {ps = qs} k t) =
    let same_lexemes : r.lexemes ≡ t.lexemes = sym (lexes_once r.lexes) ∙ lexes_once t.lexes in
    ap (λ ps. judged text room ps r.lexemes) (one_reading text ps qs r t) ∙ ap (λ ls. judged text room qs ls) same_lexemes

-- ## Each refusal that is due is given, and each text that is taken

-- The text is refused with this number, at some place.
abbrev pub RefusedWith : (text : List ℕ) (room number : ℕ) → Type 0
RefusedWith text room n = (p : ℕ) × Says text room (refused n p)

module _ {text : List ℕ} {room : ℕ} where
  unread_said : Unreadable text → RefusedWith text room 20
  unread_said (K.too_long h) = (65535, too_long h)
  unread_said (underivable f) = go (ltb 65535 (length text)) refl
    where
      go : (b : Bool) → ltb 65535 (length text) ≡ b → RefusedWith text room 20
      go true e = (65535, too_long (ltb-true 65535 (length text) e))
      go false e = let s = (stops_unread text).1 f in (s.0, unread (ltb-false 65535 (length text) e) s.1)

  reading_said : {ps : List Production} {n : ℕ} (r : Read text ps) → Refused n (judged text room ps r.reading.lexemes) → RefusedWith text room n
  reading_said r j = (j.0, subst (Says text room) j.1 (read r.short r.reading))

  due_said : {n : ℕ} → Due text room n → RefusedWith text room n
  due_said (due_20 u) = unread_said u
  due_said (due_21 (ps, r, a)) = reading_said r (judged_undefined text room r.reading.lexemes r.reading.derives a)
  due_said (due_22 (ps, r, a, b)) = reading_said r (judged_twice text room r.reading.lexemes r.reading.derives a b)
  due_said (due_23 (ps, r, a, b, c)) = reading_said r (judged_differs text room r.reading.lexemes r.reading.derives a b c)
  due_said (due_24 (ps, r, a, b, c, d)) = reading_said r (judged_past text room r.reading.lexemes r.reading.derives a b c d)
  due_said (due_25 (ps, r, k, h)) =
      reading_said r (0, judged_no_room text room r.reading.lexemes r.reading.derives k.names_defined k.names_once k.patterns_one k.fitting h)

  taken_said : {g : Grammar} → Taken text room g → Says text room (good g)
  taken_said t =
      let r = t.is_read.reading in
      let k = t.keeps in
      subst (Says text room)
      (judged_good text room r.lexemes r.derives k.names_defined k.names_once k.patterns_one k.fitting (rw t.is t.image_fits)
      ∙ ap good t.is)
      (read t.is_read.short r)

-- One of them is so.
data Outcome (text : List ℕ) (room : ℕ) : Type 0 where
  is_due : {n : ℕ} → Due text room n → Outcome text room
  is_taken : {g : Grammar} → Taken text room g → Outcome text room

outcome : (text : List ℕ) (room : ℕ) → Outcome text room
outcome text room = go (ltb 65535 (length text)) refl
  where
    ruled :
        (ps : List Production) → Read text ps → (a b c d e : Bool) → all_defined ps ≡ a → once_named ps ≡ b → one_pattern ps ≡ c
        → fits ps (compile ps) ≡ d → leb (length (encode (compile ps))) room ≡ e → Outcome text room
    ruled ps r false b c d e p q s t u = is_due (due_21 (ps, r, p))
    ruled ps r true false c d e p q s t u = is_due (due_22 (ps, r, p, q))
    ruled ps r true true false d e p q s t u = is_due (due_23 (ps, r, p, q, s))
    ruled ps r true true true false e p q s t u = is_due (due_24 (ps, r, p, q, s, t))
    ruled ps r true true true true false p q s t u =
        is_due (due_25 (ps, r, record { names_defined = p; names_once = q; patterns_one = s; fitting = t }, leb-false (length (encode (compile ps))) room u))
    ruled ps r true true true true true p q s t u = is_taken (record {
      productions = ps;
      is_read = r;
      keeps = record { names_defined = p; names_once = q; patterns_one = s; fitting = t };
      is = refl;
      image_fits = leb-true (length (encode (compile ps))) room u;
    })

    parses : length text ≤ 65535 → (o : Parsed) → parsed (tokens text) ≡ o → Outcome text room
    parses h (reads ps) e =
        ruled ps (record { short = h; reading = derived text ps e }) (all_defined ps) (once_named ps) (one_pattern ps) (fits ps (compile ps))
        (leb (length (encode (compile ps))) room) refl refl refl refl refl
    parses h unparsed e = is_due (due_20 (underivable (λ ps r. (let z = taken text ps r in no_way (cc)))))

    go : (b : Bool) → ltb 65535 (length text) ≡ b → Outcome text room
    go true e = is_due (due_20 (K.too_long (ltb-true 65535 (length text) e)))
    go false e = parses (ltb-false 65535 (length text) e) (parsed (tokens text)) refl

-- SOMETHING IS SAID OF EVERY TEXT.
pub some_answer : (text : List ℕ) (room : ℕ) → (a : Answer) × Says text room a
some_answer text room = go (outcome text room)
  where
    go : Outcome text room → (a : Answer) × Says text room a
    go (is_due {n = n} d) = let s = due_said d in (refused n s.0, s.1)
    go (is_taken {g = g} t) = (good g, taken_said t)

module _ {text : List ℕ} {room : ℕ} where
  said_taken : {g : Grammar} → Says text room (good g) → Taken text room g
  said_taken {g} s = go (outcome text room)
    where
      go : Outcome text room → Taken text room g
      go (is_due d) = let z = one_answer (due_said d).1 s in no_way (cc)
      go (is_taken {g = h} t) = let z = one_answer (taken_said t) s in let e : h ≡ g = cc in subst (Taken text room) e t

  said_due : {n p : ℕ} → Says text room (refused n p) → Due text room n
  said_due {n} s = go (outcome text room)
    where
      go : Outcome text room → Due text room n
      go (is_due {n = m} d) = let z = one_answer (due_said d).1 s in let e : m ≡ n = cc in subst (Due text room) e d
      go (is_taken t) = let z = one_answer (taken_said t) s in no_way (cc)

  -- TAKEN EXACTLY IF THE RULES ARE KEPT.
  pub taken_exactly : {g : Grammar} → Says text room (good g) ↔ Taken text room g
  taken_exactly = (said_taken, taken_said)

  -- REFUSED WITH A NUMBER EXACTLY IF THAT ONE IS DUE.
  pub refused_exactly : {n : ℕ} → RefusedWith text room n ↔ Due text room n
  refused_exactly = (λ s. said_due s.1, due_said)

  -- Number by number.
  pub refused_20 : RefusedWith text room 20 ↔ Unreadable text
  refused_20 = (λ s. why (said_due s.1), λ u. due_said (due_20 u))
    where
      why : Due text room 20 → Unreadable text
      why (due_20 u) = u

  pub refused_21 : RefusedWith text room 21 ↔ Undefined text
  refused_21 = (λ s. why (said_due s.1), λ u. due_said (due_21 u))
    where
      why : Due text room 21 → Undefined text
      why (due_21 u) = u

  pub refused_22 : RefusedWith text room 22 ↔ NamedTwice text
  refused_22 = (λ s. why (said_due s.1), λ u. due_said (due_22 u))
    where
      why : Due text room 22 → NamedTwice text
      why (due_22 u) = u

  pub refused_23 : RefusedWith text room 23 ↔ TwoPatterns text
  refused_23 = (λ s. why (said_due s.1), λ u. due_said (due_23 u))
    where
      why : Due text room 23 → TwoPatterns text
      why (due_23 u) = u

  pub refused_24 : RefusedWith text room 24 ↔ PastLimit text
  refused_24 = (λ s. why (said_due s.1), λ u. due_said (due_24 u))
    where
      why : Due text room 24 → PastLimit text
      why (due_24 u) = u

  pub refused_25 : RefusedWith text room 25 ↔ NoRoom text room
  refused_25 = (λ s. why (said_due s.1), λ u. due_said (due_25 u))
    where
      why : Due text room 25 → NoRoom text room
      why (due_25 u) = u

  -- No other number is given, and no place outside the text.
  pub refused_number : {n p : ℕ} → Says text room (refused n p) → (20 ≤ n) × (n ≤ 25)
  refused_number s = go (said_due s)
    where
      go : {n : ℕ} → Due text room n → (20 ≤ n) × (n ≤ 25)
      go (due_20 u) = omega arith
      go (due_21 u) = omega arith
      go (due_22 u) = omega arith
      go (due_23 u) = omega arith
      go (due_24 u) = omega arith
      go (due_25 u) = omega arith

  pub refused_inside : {n p : ℕ} → Says text room (refused n p) → p ≤ length text
  refused_inside s = go s refl
    where
      go : {n p : ℕ} {a : Answer} → Says text room a → a ≡ refused n p → p ≤ length text
      go {n} {p} (too_long h) e = let z : 65535 ≡ p = cc in omega arith
      go {n} {p} (unread {p = q} h t) e = let z : q ≡ p = cc in omega (arith, t.inside)
      go {n} {p} (read h r) e = judged_inside text room r.lexemes r.derives n p e

-- ## What is taken

-- An image that stands for a grammar is read as it.
stands_read : {image : List ℕ} {g : Grammar} → Stands image g → read_image image ≡ I.good g
stands_read {image} {g} s =
    let b = body_back image g s.sound s.writing in
    rw (le-ltb 16384 (length image) s.short, b.is)
    (rw (le-ltb b.next (length image) (omega (arith, simp length-drop at (ap length b.after)))))

starts_of : {ts : List Token} {ps : List Production} → Productions ts ps → Starts (compile ps) (production_number ps) (table_number ps) (condition_number ps) ps
starts_of (last {n = n} {a = a} D) = compile_starts (record { name = n; body = a }) []
starts_of (more {n = n} {a = a} {ps = ps} D P) = compile_starts (record { name = n; body = a }) ps

-- Productions that a grammar means, their names being numbered as by `compile`.
abbrev pub Meant : Grammar → List Production → Type 0
Meant g ps =
    AllMean g (production_number ps) (table_number ps) (condition_number ps) ps × Starts g (production_number ps) (table_number ps) (condition_number ps) ps

module _ {text : List ℕ} {room : ℕ} {g : Grammar} where
  -- THE GRAMMAR MEANS THE READING.
  pub taken_means : (t : Taken text room g) → Meant g t.productions
  taken_means t =
      subst (λ g. Meant g t.productions) t.is
      (compile_means t.productions t.keeps.names_once t.keeps.patterns_one, starts_of t.is_read.reading.derives)

  -- ITS IMAGE STANDS FOR IT, AND IS READ AS IT.
  pub taken_stands : Bytes text → Taken text room g → Stands (encode g) g
  taken_stands b t =
      let l = within_limits t.productions (compile t.productions) t.keeps.fitting in
      subst (λ g. Stands (encode g) g) t.is
      (record { sound = sound_of text t.productions b t.is_read.reading l; writing = refl; short = l.small_image })

  -- The same of a good answer.
  pub good_means : Says text room (good g) → (ps : List Production) × ReadsAs text ps × Meant g ps
  good_means s = let t = said_taken s in (t.productions, t.is_read.reading, taken_means t)

  pub good_stands : Bytes text → Says text room (good g) → Stands (encode g) g
  good_stands b s = taken_stands b (said_taken s)

  pub good_read : Bytes text → Says text room (good g) → read_image (encode g) ≡ I.good g
  good_read b s = stands_read (good_stands b s)
