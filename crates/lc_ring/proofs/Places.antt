-- Where bytes in laps lie in their block.
use Rattle.std.proofs.Common.{◌≡◌, ℕ, ◌+◌, ◌-◌, ◌≤◌, inr, List, ◌++◌, length, take, drop, refl, sym, ap, ◌∙◌, subst, arith}
use Rattle.std.proofs.lemmas.List.{take-append-drop, length-append, length-take-le, length-drop, drop-drop, drop-take}
use Rattle.std.proofs.Math.Seq.{drop-append-add, take-append-add, take-append_seam}
use Rattle.lc_ring.specs.Laps.{Laps, IsPushed, AreLaps}

abbrev laps_in : List ℕ → ℕ → ℕ → ℕ → ℕ → ℕ → Laps
laps_in items gone end next turn longest = record { near = drop gone (take end items); far = take next items; turn = turn; longest = longest }

-- a run of bytes, from its first on
run_from : (items : List ℕ) (from to : ℕ) → from ≤ to → drop from (take to items) ≡ take (to - from) (drop from items)
run_from items from to h = ap (λ (n : ℕ). drop from (take n items)) (omega (arith, h)) ∙ drop-take from (to - from) items

-- bytes that are written from a place on
module _ (items bytes : List ℕ) (at : ℕ) (within : at ≤ length items) where
  abbrev front : List ℕ
  front = take at items ++ bytes

  abbrev written : List ℕ
  written = front ++ drop (at + length bytes) items

  front-length : length front ≡ at + length bytes
  front-length = omega (arith, length-append (take at items) bytes, length-take-le at items within)

  written-front : take (at + length bytes) written ≡ front
  written-front = ap (λ (n : ℕ). take n written) (sym front-length) ∙ take-append_seam front (drop (at + length bytes) items)

  -- what lies behind them stays
  behind : (from : ℕ) → at + length bytes ≤ from → drop from written ≡ drop from items
  behind from h =
      let more = from - (at + length bytes) in
      let place : from ≡ length front + more = omega (arith, front-length, h) in
      ap (λ (n : ℕ). drop n written) place
      ∙ drop-append-add front (drop (at + length bytes) items) more
      ∙ drop-drop more (at + length bytes) items
      ∙ ap (λ (n : ℕ). drop n items) (omega (arith, h))

module _ (items bytes block : List ℕ) (gone end next turn longest capacity : ℕ)
    (keeps : AreLaps items gone end next turn longest capacity)
    (old : Laps) (shows : laps_in items gone end next turn longest ≡ old)
    (room : length old.near + length old.far + length bytes ≤ old.turn)
    (over : turn ≤ end)
    (e : block ≡ take next items ++ bytes ++ drop (next + length bytes) items) where
  next_held : next ≤ length items
  next_held = omega (arith, keeps.below, keeps.within, keeps.held)

  near-length : length (drop gone (take end items)) ≡ end - gone
  near-length = length-drop gone (take end items) ∙ ap (λ (n : ℕ). n - gone) (length-take-le end items keeps.held)

  below : next + length bytes ≤ gone
  below =
      let near_old = ap (λ (l : Laps). length l.near) shows in
      let far_old = ap (λ (l : Laps). length l.far) shows in
      let turn_old = ap (λ (l : Laps). l.turn) shows in
      omega (arith, near-length, near_old, far_old, turn_old, length-take-le next items next_held, room, keeps.within, over)

  near-stays : drop gone (take end block) ≡ drop gone (take end items)
  near-stays =
      run_from block gone end keeps.within
      ∙ ap (take (end - gone)) (ap (drop gone) e ∙ behind items bytes next next_held gone below)
      ∙ sym (run_from items gone end keeps.within)

  -- a lap that is over takes none of them, and they lie at the front of the block
  pub pushed-far : IsPushed old bytes (laps_in block gone end (next + length bytes) turn longest)
  pushed-far =
      let busy : 1 ≤ length (drop gone (take end items)) = omega (arith, near-length, keeps.idle, keeps.is_turn.at_least, over) in
      subst (λ (l : Laps). IsPushed l bytes (laps_in block gone end (next + length bytes) turn longest)) shows
      (inr (busy, rw (near-stays, ap (take (next + length bytes)) e ∙ written-front items bytes next next_held) refl))

-- a run of bytes that is written piece by piece: one more piece of them stands behind those so far
pub piece_on : (bytes front next back left piece : List ℕ) (done len : ℕ) → done ≤ length bytes → length front ≡ done → front ≡ take done bytes → next ≡ piece → left ≡ drop done bytes → piece ≡ take len left → length piece ≡ len
    → take (done + length piece) (front ++ (next ++ back)) ≡ take (done + length piece) bytes
piece_on bytes front next back left piece done len within whole same is left_is piece_is piece_len =
    let n = length piece in
    let new_piece : take n (next ++ back) ≡ piece = ap (λ (xs : List ℕ). take n (xs ++ back)) is ∙ take-append_seam piece back in
    let old_piece : take n (drop done bytes) ≡ piece = ap (λ (xs : List ℕ). take n xs) (sym left_is) ∙ ap (λ (k : ℕ). take k left) piece_len ∙ sym piece_is in
    let before : take (done + n) (front ++ (next ++ back)) ≡ front ++ piece = ap (λ (k : ℕ). take (k + n) (front ++ (next ++ back))) (sym whole) ∙ take-append-add front (next ++ back) n ∙ ap (λ (xs : List ℕ). front ++ xs) new_piece in
    let after : take (done + n) bytes ≡ take done bytes ++ piece =
    ap (λ (xs : List ℕ). take (done + n) xs) (sym (take-append-drop done bytes))
    ∙ ap (λ (k : ℕ). take (k + n) (take done bytes ++ drop done bytes)) (sym (length-take-le done bytes within))
    ∙ take-append-add (take done bytes) (drop done bytes) n
    ∙ ap (λ (xs : List ℕ). take done bytes ++ xs) old_piece in
    before ∙ ap (λ (xs : List ℕ). xs ++ piece) same ∙ sym after
