-- What was shut is what is opened, and what a number has of each part.
use Rattle.std.specs.Prelude.{ℕ, zero, suc, ◌+◌, ◌-◌, ◌*◌, ◌/◌, ◌%◌, ◌≤◌, ◌<◌, ◌≡◌, refl, Bool, true, false, ltb}
use Rattle.std.proofs.Common.{ap, sym, ◌∙◌, subst}
use native.Mathlib.Omega.{arith}
use Rattle.std.proofs.Math.Nat.{div-add-mod', mod-lt}
use borrow.Author.Tests.{lt-ltb, le-ltb, ltb-true, ltb-false}
use Rattle.format.specs.Reading.{pick}
use Rattle.parts.specs.declared.outcome.Outcome.TheVariants.{Passed, Failed, Refused}
use Rattle.parts.specs.declared.outcome.Stop.{Stop}
use Rattle.parts.specs.declared.outcome.Stop.TheVariants.{Steps, Depth, Room, Round}
use Rattle.parts.specs.declared.outcome.Packed.{Packed}
use Rattle.parts.specs.Made.{Made}
use Rattle.parts.specs.Packed.{number_of, stop_of, packed, at_of, held_of, steps_of, depth_of, opening, opened_of, kind_of}

-- ## What stops a run, and its number

pub stop_back : (k : Stop) → stop_of (number_of k) ≡ k
stop_back Steps = refl
stop_back Depth = refl
stop_back Room = refl
stop_back Round = refl

pub number_range : (k : Stop) → (12 ≤ number_of k) × (number_of k ≤ 15)
number_range Steps = (omega arith, omega arith)
number_range Depth = (omega arith, omega arith)
number_range Room = (omega arith, omega arith)
number_range Round = (omega arith, omega arith)

-- Each has its own number.
pub number_once : (k m : Stop) → number_of k ≡ number_of m → k ≡ m
number_once k m e = sym (stop_back k) ∙ ap stop_of e ∙ stop_back m

-- And each kind that is made and is not 0 or 1 is such a number.
pub number_back : (kind : ℕ) → Made kind → 2 ≤ kind → number_of (stop_of kind) ≡ kind
number_back kind m l =
    let e : 12 + (kind - 12) ≡ kind = omega (arith, m.1 l) in
    subst (λ n. number_of (stop_of n) ≡ n) e (go (kind - 12) (omega (arith, m.0)))
  where
    go : (n : ℕ) → n ≤ 3 → number_of (stop_of (12 + n)) ≡ 12 + n
    go zero h = refl
    go (suc zero) h = refl
    go (suc (suc zero)) h = refl
    go (suc (suc (suc zero))) h = refl
    go (suc (suc (suc (suc n)))) h = absurd (omega arith)

pub number_made : (k : Stop) → Made (number_of k)
number_made k = let r = number_range k in (omega (arith, r), λ l. r.0)

-- What passed and what failed is below 2 ^ 61.
pub made_small : (bits : ℕ) → bits < 2305843009213693952 → Made (bits / 1152921504606846976)
made_small bits l =
    let q : bits / 1152921504606846976 < 2 = omega (arith, div-add-mod' bits 1152921504606846976, mod-lt bits {m = 1152921504606846976} (omega arith)) in
    (omega arith, λ m. absurd (omega arith))

-- ## Shut and opened

-- The bits of a number n from 2 ^ k on, m of them: the quotient and the rest, as omega reads them.
module _ (kind at held steps depth : ℕ) (hk : kind < 16) (ha : at ≤ 65535) (hh : held ≤ 511) (hs : steps < 67108864) (hd : depth ≤ 511) where
  module _ {bits : ℕ} (shut : bits ≡ packed kind at held steps depth) where
    place_rest : bits % 65536 ≡ at
    place_rest = omega (arith, div-add-mod' bits 65536, mod-lt bits {m = 65536} (omega arith))

    held_rest : bits / 65536 % 512 ≡ held
    held_rest =
        let q = bits / 65536 in
        omega (arith, div-add-mod' bits 65536, mod-lt bits {m = 65536} (omega arith), div-add-mod' q 512, mod-lt q {m = 512} (omega arith))

    depth_rest : bits / 33554432 % 512 ≡ depth
    depth_rest =
        let q = bits / 33554432 in
        omega (arith, div-add-mod' bits 33554432, mod-lt bits {m = 33554432} (omega arith), div-add-mod' q 512, mod-lt q {m = 512} (omega arith))

    steps_rest : bits / 17179869184 % 67108864 ≡ steps
    steps_rest =
        let q = bits / 17179869184 in
        omega (arith, div-add-mod' bits 17179869184, mod-lt bits {m = 17179869184} (omega arith), div-add-mod' q 67108864, mod-lt q {m = 67108864} (omega arith))

    -- The kind that was packed is the kind that is read, whichever it was.
    pub kind_back : bits / 1152921504606846976 ≡ kind
    kind_back = omega (arith, div-add-mod' bits 1152921504606846976, mod-lt bits {m = 1152921504606846976} (omega arith))

    pub made_back : Made kind → Made (bits / 1152921504606846976)
    made_back m = rw kind_back m

    -- And by its kind it is opened: 2 to 11, which no outcome has, as `Round`.
    pub opening_refused : 2 ≤ kind → opening bits ≡ Refused (stop_of kind) at steps depth
    opening_refused l =
        rw (
          le-ltb bits 1152921504606846976 (omega arith),
          le-ltb bits 2305843009213693952 (omega arith),
          kind_back,
          place_rest,
          steps_rest,
          depth_rest,
        )

  module _ (number : Packed) (shut : number.bits ≡ packed kind at held steps depth) where
    abbrev bits : ℕ
    bits = number.bits

    place_back : at_of number ≡ at
    unfolding at_of
    place_back = place_rest shut

    held_back : held_of number ≡ held
    unfolding held_of
    held_back = held_rest shut

    depth_back : depth_of number ≡ depth
    unfolding depth_of
    depth_back = depth_rest shut

    pub opens_passed : kind ≡ 0 → opened_of number ≡ Passed at held steps depth
    unfolding opened_of at_of held_of depth_of
    opens_passed z =
        let s : bits / 17179869184 ≡ steps = omega (arith, div-add-mod' bits 17179869184, mod-lt bits {m = 17179869184} (omega arith)) in
        rw (lt-ltb bits 1152921504606846976 (omega arith), place_back, held_back, s, depth_back)

    pub opens_failed : kind ≡ 1 → opened_of number ≡ Failed steps depth
    unfolding opened_of depth_of
    opens_failed o = rw (le-ltb bits 1152921504606846976 (omega arith), lt-ltb bits 2305843009213693952 (omega arith), steps_rest shut, depth_back)

    -- It is refused by what has the kind for its number.
    pub opens_refused : 2 ≤ kind → (opened_of number ≡ Refused (stop_of kind) at steps depth) × (number_of (stop_of kind) ≡ kind)
    unfolding opened_of
    opens_refused l = (opening_refused shut l, number_back kind (subst Made (kind_back shut) number.made) l)

    pub opens_stop : (k : Stop) → kind ≡ number_of k → opened_of number ≡ Refused k at steps depth
    opens_stop k e =
        let r = number_range k in
        (opens_refused (omega (arith, r))).0 ∙ ap (λ k. Refused k at steps depth) (ap stop_of e ∙ stop_back k)

-- ## The number that an expression starts from

-- A number of any kind has small parts, and is its parts; without its place and symbols it is its depth and steps.
module _ (n : ℕ) where
  pub number_place : n % 65536 ≤ 65535
  number_place = omega (arith, mod-lt n {m = 65536} (omega arith))

  pub number_held : n / 65536 % 512 ≤ 511
  number_held = omega (arith, mod-lt (n / 65536) {m = 512} (omega arith))

  pub number_depth : n / 33554432 % 512 ≤ 511
  number_depth = omega (arith, mod-lt (n / 33554432) {m = 512} (omega arith))

  pub number_whole : n ≡ packed 0 (n % 65536) (n / 65536 % 512) (n / 17179869184) (n / 33554432 % 512)
  number_whole =
      omega (
        arith,
        div-add-mod' n 65536,
        mod-lt n {m = 65536} (omega arith),
        div-add-mod' (n / 65536) 512,
        mod-lt (n / 65536) {m = 512} (omega arith),
        div-add-mod' n 33554432,
        mod-lt n {m = 33554432} (omega arith),
        div-add-mod' (n / 33554432) 512,
        mod-lt (n / 33554432) {m = 512} (omega arith),
        div-add-mod' n 17179869184,
        mod-lt n {m = 17179869184} (omega arith),
      )

  pub number_tally : n / 33554432 * 33554432 ≡ packed 0 0 0 (n / 17179869184) (n / 33554432 % 512)
  number_tally =
      omega (arith, number_whole, number_place, number_held, div-add-mod' n 33554432, mod-lt n {m = 33554432} (omega arith))

-- So it is with the number of an outcome.
module _ (from : Packed) where
  pub place_small : at_of from ≤ 65535
  unfolding at_of
  place_small = number_place from.bits

  pub held_small : held_of from ≤ 511
  unfolding held_of
  held_small = number_held from.bits

  pub depth_small : depth_of from ≤ 511
  unfolding depth_of
  depth_small = number_depth from.bits

  pub whole : from.bits ≡ packed 0 (at_of from) (held_of from) (steps_of from) (depth_of from)
  unfolding at_of held_of depth_of steps_of
  whole = number_whole from.bits

  pub tally_whole : from.bits / 33554432 * 33554432 ≡ packed 0 0 0 (steps_of from) (depth_of from)
  unfolding depth_of steps_of
  tally_whole = number_tally from.bits

  module _ (few : steps_of from ≤ 1000000) where
    pub short_number : from.bits < 18014398509481984
    short_number = omega (arith, whole, place_small, held_small, depth_small)

    module _ {n bits : ℕ} (e : bits ≡ from.bits + n * 1152921504606846976) (l : n < 16) where
      stopped_is : bits ≡ packed n (at_of from) (held_of from) (steps_of from) (depth_of from)
      stopped_is = omega (arith, whole)

      pub made_stopped : Made n → Made (bits / 1152921504606846976)
      made_stopped =
          made_back n (at_of from) (held_of from) (steps_of from) (depth_of from) l place_small held_small (omega (arith, few)) depth_small stopped_is

    pub opens_stopped : (stop : Stop) {n : ℕ} → n ≡ number_of stop → (r : Packed) → r.bits ≡ from.bits + n * 1152921504606846976
        → opened_of r ≡ Refused stop (at_of from) (steps_of from) (depth_of from)
    opens_stopped stop {n} i r e =
        let l : n < 16 = omega (arith, number_range stop) in
        opens_stop n (at_of from) (held_of from) (steps_of from) (depth_of from) l place_small held_small (omega (arith, few)) depth_small r (stopped_is e l) stop i

    pub opens_onward : at_of from + 1 ≤ 65535 → (r : Packed) → r.bits ≡ from.bits + 1
        → opened_of r ≡ Passed (at_of from + 1) (held_of from) (steps_of from) (depth_of from)
    opens_onward l r e =
        let i : r.bits ≡ packed 0 (at_of from + 1) (held_of from) (steps_of from) (depth_of from) = omega (arith, whole) in
        opens_passed 0 (at_of from + 1) (held_of from) (steps_of from) (depth_of from) (omega arith) l held_small (omega (arith, few)) depth_small r i refl

    pub opens_lost : (r : Packed) → r.bits ≡ from.bits / 33554432 * 33554432 + 1152921504606846976 → opened_of r ≡ Failed (steps_of from) (depth_of from)
    opens_lost r e =
        let i : r.bits ≡ packed 1 0 0 (steps_of from) (depth_of from) = omega (arith, tally_whole) in
        opens_failed 1 0 0 (steps_of from) (depth_of from) (omega arith) (omega arith) (omega arith) (omega (arith, few)) depth_small r i refl

-- What a number is opened to has the number's kind, each kind that there is.
pub opens_kind : (r : Packed) → kind_of (opened_of r) ≡ r.bits / 1152921504606846976
unfolding opened_of at_of held_of depth_of steps_of
opens_kind r = go (ltb r.bits 1152921504606846976) refl (ltb r.bits 2305843009213693952) refl
  where
    go : (b : Bool) → ltb r.bits 1152921504606846976 ≡ b → (c : Bool) → ltb r.bits 2305843009213693952 ≡ c
        → kind_of (pick b (Passed (at_of r) (held_of r) (steps_of r) (depth_of r)) (pick c (Failed (r.bits / 17179869184 % 67108864) (depth_of r))
        (Refused (stop_of (r.bits / 1152921504606846976)) (at_of r) (r.bits / 17179869184 % 67108864) (depth_of r)))) ≡ r.bits / 1152921504606846976
    go true e c f =
        omega (arith, ltb-true r.bits 1152921504606846976 e, div-add-mod' r.bits 1152921504606846976, mod-lt r.bits {m = 1152921504606846976} (omega arith))
    go false e true f =
        omega (
          arith,
          ltb-false r.bits 1152921504606846976 e,
          ltb-true r.bits 2305843009213693952 f,
          div-add-mod' r.bits 1152921504606846976,
          mod-lt r.bits {m = 1152921504606846976} (omega arith),
        )
    go false e false f =
        number_back (r.bits / 1152921504606846976) r.made
        (omega (arith, ltb-false r.bits 2305843009213693952 f, div-add-mod' r.bits 1152921504606846976, mod-lt r.bits {m = 1152921504606846976} (omega arith)))

-- What passed has the parts that it is opened to.
pub has_parts : (r : Packed) {a h s d : ℕ} → opened_of r ≡ Passed a h s d → (a ≡ at_of r) × (h ≡ held_of r) × (s ≡ steps_of r) × (d ≡ depth_of r)
unfolding opened_of at_of held_of depth_of steps_of
has_parts r {a} {h} {s} {d} e = go (ltb r.bits 1152921504606846976) (ltb r.bits 2305843009213693952) e
  where
    go : (b c : Bool) → pick b (Passed (at_of r) (held_of r) (steps_of r) (depth_of r)) (pick c (Failed (r.bits / 17179869184 % 67108864) (depth_of r))
        (Refused (stop_of (r.bits / 1152921504606846976)) (at_of r) (r.bits / 17179869184 % 67108864) (depth_of r))) ≡ Passed a h s d
        → (a ≡ at_of r) × (h ≡ held_of r) × (s ≡ steps_of r) × (d ≡ depth_of r)
    go true c e = (cc, cc, cc, cc)
    go false true e = let z : ◌≡◌ {A = ℕ} 0 1 = cc in absurd (omega arith)
    go false false e = let z : ◌≡◌ {A = ℕ} 0 1 = cc in absurd (omega arith)

pub opened_parts : (r : Packed) {a h s d : ℕ} → opened_of r ≡ Passed a h s d → opened_of r ≡ Passed (at_of r) (held_of r) (steps_of r) (depth_of r)
opened_parts r e = let p = has_parts r e in rw (sym p.0, sym p.1, sym p.2, sym p.3) e
