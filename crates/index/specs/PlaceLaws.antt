-- Names as places in an array: how many there are, which is where, and what putting one more place in comes to.
use Rattle.std.specs.Prelude.{ℕ, ◌+◌, ◌-◌, ◌≤◌, ◌<◌, ◌≡◌, List, [], ◌∷◌, ◌++◌, map, length, drop, get_or}
use Rattle.std.proofs.Math.Path.{ap, sym}
use Rattle.std.proofs.Common.{◌∙◌, append_assoc, take-take, get_or-take}
use Rattle.std.proofs.lemmas.List.{map-append, length-map, get_or-map, drop-map}
use Rattle.std.specs.List.{take-map}
use native.Mathlib.Omega.{arith}
use Rattle.std.proofs.Math.ListN.{take, length-append, length-drop}
use Rattle.std.proofs.Math.Seq.{length-take-le, take_at, drop_at, take-add}
use Rattle.notation.specs.At.{name_at}
use Rattle.index.specs.Listed.{names_at, put_in}

-- ## The names

module _ (text at : List ℕ) (n : ℕ) (fits : n ≤ length at) where
  pub names_length : length (names_at text at n) ≡ n
  names_length = length-map (take n at) (name_at text) ∙ length-take-le n at fits

  pub names_at_lem : (i : ℕ) → i < n → get_or (names_at text at n) i [] ≡ name_at text (get_or at i 0)
  names_at_lem i h =
      get_or-map (name_at text) (take n at) i 0 [] (omega (arith, length-take-le n at fits)) ∙ ap (name_at text) (get_or-take n at i 0 h)

-- ## One more place

module _ (at : List ℕ) (count index p : ℕ) (h : index ≤ count) (k : count < length at) where
  later : List ℕ
  later = take (count - index) (drop index at)

  front : List ℕ
  front = take index at ++ p ∷ later

  later_length : length later ≡ count - index
  unfolding later
  later_length = length-take-le (count - index) (drop index at) (omega (arith, length-drop index at))

  front_length : length front ≡ count + 1
  unfolding front
  front_length =
      omega (arith, length-append (take index at) (p ∷ later), length-take-le index at (omega arith), later_length)

  in_front : put_in at count index p ≡ front ++ drop (count + 1) at
  unfolding front later
  in_front = sym (append_assoc (take index at) (p ∷ later) (drop (count + 1) at))

  is_later : drop index (take count at) ≡ later
  unfolding later
  is_later =
      let e : index + (count - index) ≡ count = omega arith in
      ap (drop index) (ap (λ n. take n at) (sym e) ∙ take-add index (count - index) at)
      ∙ drop_at (take index at) later index (length-take-le index at (omega arith))

  -- The numbers that count have p among them, and what comes behind is as it was.
  pub put_front : take (count + 1) (put_in at count index p) ≡ take index (take count at) ++ p ∷ drop index (take count at)
  unfolding front
  put_front =
      ap (take (count + 1)) in_front ∙ take_at front (drop (count + 1) at) (count + 1) front_length
      ∙ rw (take-take index count at h, is_later)

  pub put_rest : drop (count + 1) (put_in at count index p) ≡ drop (count + 1) at
  put_rest = ap (drop (count + 1)) in_front ∙ drop_at front (drop (count + 1) at) (count + 1) front_length

  pub put_length : length (put_in at count index p) ≡ length at
  put_length =
      ap length in_front
      ∙ omega (arith, length-append front (drop (count + 1) at), front_length, length-drop (count + 1) at)

  pub put_names : (text : List ℕ)
      → names_at text (put_in at count index p) (count + 1) ≡ take index (names_at text at count) ++ name_at text p ∷ drop index (names_at text at count)
  put_names text =
      let f = name_at text in
      ap (map f) put_front ∙ map-append f (take index (take count at)) (p ∷ drop index (take count at))
      ∙ rw (take-map f index (take count at), drop-map f index (take count at))
