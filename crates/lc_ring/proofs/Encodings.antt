-- Lengths as bytes.
use Rattle.std.proofs.Common.{◌≡◌, ℕ, zero, suc, ◌+◌, ◌^◌, ◌/◌, ◌%◌, ◌<◌, ◌≤◌, inl, inr, List, [], ◌∷◌, ◌++◌, length, drop, Some, refl, sym, ap, ◌∙◌, arith, append_assoc}
use Rattle.std.proofs.lemmas.List.{length-append, length-drop, append-nil, drop-append-le, drop_all}
use Rattle.std.proofs.lemmas.List.Sums.{sum_by-cons, sum_by-append}
use Rattle.std.proofs.Math.Seq.{drop-append_seam}
use Rattle.std.proofs.lemmas.Nat.{from_be_bytes-to_be_bytes_4}
use Rattle.std.specs.Prelude.{slice_get}
use Rattle.std.specs.Int.{w32, to_be_bytes}
use Rattle.std.specs.List.{AllByRecursion, sum}
use Rattle.lc_ring.specs.Ring.{IsLength}
use Rattle.lc_ring.specs.Laps.{Laps, IsPushed, IsTaken}
use Rattle.lc_ring.specs.Lengths.{Lengths, encoding, encodings, decoded, AreEncodings, AreLengths, lengths_in}

abbrev lengths_of : List ℕ → ℕ → Lengths
lengths_of items capacity = record { items = items; capacity = capacity }

abbrev AreAll : List ℕ → Type 0
AreAll lens = AllByRecursion IsLength lens

pub short : (len : ℕ) → len < 256 → encoding len ≡ len ∷ []
short len h = grind arith

pub long : (len : ℕ) → 256 ≤ len → encoding len ≡ to_be_bytes w32 len
long len h = grind arith

-- a length takes no more bytes than its message
encoding-fits : (len : ℕ) → 1 ≤ len → length (encoding len) ≤ len
encoding-fits len h = grind arith

encodings-fit : (lens : List ℕ) → AreAll lens → length (encodings lens) ≤ sum lens
encodings-fit [] h = omega arith
encodings-fit (len ∷ lens) h = omega (arith, sum_by-cons (λ x. x) len lens, length-append (encoding len) (encodings lens), encoding-fits len h.0.at_least, encodings-fit lens h.1)

-- what was encoded is read back
decoded-first : (len : ℕ) (rest : List ℕ) → IsLength len → decoded (encoding len ++ rest) ≡ len ∷ decoded rest
decoded-first zero rest h = absurd (omega (arith, h.at_least))
decoded-first (suc n) rest h =
    let highest : (suc n / 256 ^ 3) % 256 ≡ 0 = omega (arith, h.at_most) in
    grind (arith, highest, from_be_bytes-to_be_bytes_4 (suc n) (omega (arith, h.at_most)))

decoded-encodings : (lens : List ℕ) → AreAll lens → decoded (encodings lens) ≡ lens
decoded-encodings [] h = refl
decoded-encodings (len ∷ lens) h = decoded-first len (encodings lens) h.0 ∙ ap (λ (xs : List ℕ). len ∷ xs) (decoded-encodings lens h.1)

of : (lens bytes : List ℕ) → AreAll lens → bytes ≡ encodings lens → AreEncodings bytes × (decoded bytes ≡ lens)
of lens bytes h e =
    let back : decoded bytes ≡ lens = ap decoded e ∙ decoded-encodings lens h in
    (record { whole = e ∙ ap encodings (sym back); each = rw back h }, back)

-- one more
all-push : (lens : List ℕ) (len : ℕ) → AreAll lens → IsLength len → AreAll (lens ++ len ∷ [])
all-push [] len h one = (one, tt)
all-push (n ∷ lens) len h one = (h.0, all-push lens len h.1 one)

encodings-push : (lens : List ℕ) (len : ℕ) → encodings (lens ++ len ∷ []) ≡ encodings lens ++ encoding len
encodings-push [] len = append-nil (encoding len)
encodings-push (n ∷ lens) len = ap (λ (xs : List ℕ). encoding n ++ xs) (encodings-push lens len) ∙ sym (append_assoc (encoding n) (encodings lens) (encoding len))

pushed : (bytes : List ℕ) (len : ℕ) → AreEncodings bytes → IsLength len → AreEncodings (bytes ++ encoding len) × (decoded (bytes ++ encoding len) ≡ decoded bytes ++ len ∷ [])
pushed bytes len h one =
    of (decoded bytes ++ len ∷ []) (bytes ++ encoding len) (all-push (decoded bytes) len h.each one)
    (ap (λ (xs : List ℕ). xs ++ encoding len) h.whole ∙ sym (encodings-push (decoded bytes) len))

-- the first of some is taken
taken : (bytes lens : List ℕ) (len : ℕ) → bytes ≡ encodings lens → AreAll lens → Some len ≡ slice_get lens 0
    → (length (encoding len) ≤ length bytes) × AreEncodings (drop (length (encoding len)) bytes) × (decoded (drop (length (encoding len)) bytes) ≡ drop 1 lens)
taken bytes [] len e h first = absurd cc
taken bytes (n ∷ lens) len e h first =
    let same : len ≡ n = cc in
    let rest : drop (length (encoding n)) bytes ≡ encodings lens = ap (drop (length (encoding n))) e ∙ drop-append_seam (encoding n) (encodings lens) in
    let left = of lens (drop (length (encoding n)) bytes) h.1 rest in
    rw same (omega (arith, ap length e, length-append (encoding n) (encodings lens)), left.0, left.1)

-- lengths that fit with one more leave room for its bytes
pub room : (l : Laps) (len : ℕ) → AreLengths l → IsLength len → sum (lengths_in l).items + len ≤ l.turn → length l.near + length l.far + length (encoding len) ≤ l.turn
room l len h one fits =
    omega (
      arith,
      ap length h.near.whole,
      ap length h.far.whole,
      encodings-fit (decoded l.near) h.near.each,
      encodings-fit (decoded l.far) h.far.each,
      sum_by-append (λ x. x) (decoded l.near) (decoded l.far),
      encoding-fits len one.at_least,
      fits,
    )

pub pushed-lengths : (l l' : Laps) (len : ℕ) → AreLengths l → IsLength len → IsPushed l (encoding len) l' → AreLengths l' × (lengths_in l' ≡ record (lengths_in l) { items = (lengths_in l).items ++ len ∷ [] })
pushed-lengths l l' len h one e = elim e [
  | inl near ↦
      let now = pushed l.near len h.near one in
      let none : decoded l.far ≡ [] = ap decoded near.0 in
      rw near.1 (
        record { all = λ _. near.0; near = now.0; far = h.far; longest = h.longest; capacity = h.capacity },
        ap (λ (xs : List ℕ). lengths_of xs l.turn) (rw (now.1, none) (append-nil (decoded l.near ++ len ∷ []) ∙ ap (λ (xs : List ℕ). xs ++ len ∷ []) (sym (append-nil (decoded l.near))))),
      )
  | inr far ↦
      let now = pushed l.far len h.far one in
      rw far.1 (
        record { all = λ none. absurd (omega (arith, far.0, ap length none)); near = h.near; far = now.0; longest = h.longest; capacity = h.capacity },
        ap (λ (xs : List ℕ). lengths_of xs l.turn) (rw now.1 (sym (append_assoc (decoded l.near) (decoded l.far) (len ∷ [])))),
      )
]

module _ (l : Laps) (len : ℕ) (h : AreLengths l) (first : Some len ≡ slice_get (lengths_in l).items 0) where
  near-first : Some len ≡ slice_get (decoded l.near) 0
  near-first = go (decoded l.near) h.near.whole first
    where
      go : (lens : List ℕ) → l.near ≡ encodings lens → Some len ≡ slice_get (lens ++ decoded l.far) 0 → Some len ≡ slice_get lens 0
      go [] none e =
          let empty : decoded l.far ≡ [] = ap decoded (h.all none) in
          absurd cc
      go (n ∷ lens) some e = e

  abbrev width : ℕ
  width = length (encoding len)

  front-taken : (width ≤ length l.near) × AreEncodings (drop width l.near) × (decoded (drop width l.near) ≡ drop 1 (decoded l.near))
  front-taken = taken l.near (decoded l.near) len h.near.whole h.near.each near-first

  some : 1 ≤ length (decoded l.near)
  some = go (decoded l.near) near-first
    where
      go : (lens : List ℕ) → Some len ≡ slice_get lens 0 → 1 ≤ length lens
      go [] e = absurd cc
      go (n ∷ lens) e = omega arith

  rest : drop 1 (decoded l.near ++ decoded l.far) ≡ drop 1 (decoded l.near) ++ decoded l.far
  rest = drop-append-le 1 (decoded l.near) (decoded l.far) some

  pub taken-lengths : (l' : Laps) → IsTaken width l l' → AreLengths l' × (lengths_in l' ≡ record (lengths_in l) { items = drop 1 (lengths_in l).items })
  taken-lengths l' e = elim e [
    | inl part ↦
        rw part.1 (
          record { all = λ none. absurd (omega (arith, part.0, length-drop width l.near, ap length none)); near = front-taken.1; far = h.far; longest = h.longest; capacity = h.capacity },
          ap (λ (xs : List ℕ). lengths_of xs l.turn) (rw (front-taken.2, rest) refl),
        )
    | inr whole ↦
        let gone : drop width l.near ≡ [] = drop_all width l.near (omega (arith, whole.0)) in
        let none : drop 1 (decoded l.near) ≡ [] = sym front-taken.2 ∙ ap decoded gone in
        rw whole.1 (
          record { all = λ _. refl; near = h.far; far = record { whole = refl; each = tt }; longest = h.longest; capacity = h.capacity },
          ap (λ (xs : List ℕ). lengths_of xs l.turn) (append-nil (decoded l.far) ∙ sym (rest ∙ ap (λ (xs : List ℕ). xs ++ decoded l.far) none)),
        )
  ]
