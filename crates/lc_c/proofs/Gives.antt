-- What a side gave out, at one time and another.
use Rattle.std.proofs.Common.{◌≡◌, ℕ, ◌+◌, ◌-◌, ◌<◌, ◌≤◌, min, List, [], ◌++◌, length, take, drop, Some, refl, sym, ap, ◌∙◌, append_assoc, arith, inl, inr, length-append}
use Rattle.std.specs.List.{flat_map, slice_get}
use Rattle.std.proofs.lemmas.Bool.{cases_lt}
use Rattle.std.proofs.lemmas.List.{length-take, length-drop, drop-drop, take_at, drop_at, nil_from_length}
use Rattle.std.proofs.lemmas.List.Concat.{flat_map-cons}
use Rattle.std.proofs.Math.Seq.{take-add}
use Rattle.lc_frame.specs.declared.frame.Frame.{Frame}
use Rattle.lc_frame.specs.Encoding.{encoding}
use Rattle.lc_peer.specs.Peer.{PeerState}
use Rattle.lc_peer.specs.Calls.{without_next}
use Rattle.lc_c.specs.Side.{Side}
use Rattle.lc_c.specs.Pending.{PendingState}
use Rattle.lc_c.specs.Streams.{text, GivesOut, Begins}
use Rattle.lc_c.proofs.Waiting.{some_bytes, first_of, length-split, length-take-more}

length-text : (s : Side) → length (text s) ≡ length s.pending.bytes + length (flat_map (encoding s.peer.version) s.peer.waiting)
length-text s = length-append s.pending.bytes (flat_map (encoding s.peer.version) s.peer.waiting)

-- the next frame is begun
pub begins : (old : Side) (f : Frame) (next : PeerState) (begun : PendingState) → length old.pending.bytes ≤ 0 → Some f ≡ slice_get old.peer.waiting 0 → next ≡ without_next old.peer → begun.bytes ≡ encoding old.peer.version f → Begins old (record { peer = next; intake = old.intake; taken = old.taken; pending = begun })
begins old f next begun none first gone is =
    let nothing : old.pending.bytes ≡ [] = nil_from_length old.pending.bytes (omega (arith, none)) in
    let there : flat_map (encoding old.peer.version) old.peer.waiting ≡ encoding old.peer.version f ++ flat_map (encoding old.peer.version) (drop 1 old.peer.waiting) = ap (λ (ws : List Frame). flat_map (encoding old.peer.version) ws) (first_of old.peer.waiting f first) ∙ flat_map-cons (encoding old.peer.version) f (drop 1 old.peer.waiting) in
    let same : begun.bytes ++ flat_map (encoding next.version) next.waiting ≡ text old =
    ap (λ (p : PeerState). begun.bytes ++ flat_map (encoding p.version) p.waiting) gone
    ∙ ap (λ (x : List ℕ). x ++ flat_map (encoding old.peer.version) (drop 1 old.peer.waiting)) is
    ∙ sym there
    ∙ ap (λ (x : List ℕ). x ++ flat_map (encoding old.peer.version) old.peer.waiting) (sym nothing) in
    record {
      same = same;
      gone = 1;
      peer = gone;
      one = λ _. refl;
      first = λ _. nothing;
      some = λ _. omega (arith, ap length is, some_bytes old.peer.version f);
      ready = λ e. absurd (omega (arith, ap length is, some_bytes old.peer.version f, ap length e));
      intake = refl;
      taken = refl;
    }

-- the bytes of the next frame, and then those behind it, where nothing is left of one before it
next_first : (old : Side) (f : Frame) → old.pending.bytes ≡ [] → Some f ≡ slice_get old.peer.waiting 0 → text old ≡ encoding old.peer.version f ++ flat_map (encoding old.peer.version) (drop 1 old.peer.waiting)
next_first old f nothing first =
    ap (λ (x : List ℕ). x ++ flat_map (encoding old.peer.version) old.peer.waiting) nothing
    ∙ ap (λ (ws : List Frame). flat_map (encoding old.peer.version) ws) (first_of old.peer.waiting f first)
    ∙ flat_map-cons (encoding old.peer.version) f (drop 1 old.peer.waiting)

-- the next frame leaves the peer whole
pub gives_whole : (n : ℕ) (old : Side) (f : Frame) (next : PeerState) → length old.pending.bytes ≤ 0 → Some f ≡ slice_get old.peer.waiting 0 → next ≡ without_next old.peer → n ≡ length (encoding old.peer.version f) → GivesOut n old (record { peer = next; intake = old.intake; taken = old.taken; pending = old.pending })
gives_whole n old f next none first gone is =
    let nothing : old.pending.bytes ≡ [] = nil_from_length old.pending.bytes (omega (arith, none)) in
    let behind : List ℕ = flat_map (encoding old.peer.version) (drop 1 old.peer.waiting) in
    let whole : text old ≡ encoding old.peer.version f ++ behind = next_first old f nothing first in
    record {
      within = omega (arith, is, ap length whole, length-append (encoding old.peer.version f) behind);
      rest = ap (λ (p : PeerState). old.pending.bytes ++ flat_map (encoding p.version) p.waiting) gone
          ∙ ap (λ (x : List ℕ). x ++ behind) nothing
          ∙ sym (drop_at (encoding old.peer.version f) behind n (sym is))
          ∙ sym (ap (λ (x : List ℕ). drop n x) whole);
      gone = 1;
      peer = gone;
      begun = λ k h.
          let zero : k ≡ 0 = omega (arith, h) in
          let none_before : length (old.pending.bytes ++ flat_map (encoding old.peer.version) (take k old.peer.waiting)) ≡ length (old.pending.bytes ++ []) = ap (λ (i : ℕ). length (old.pending.bytes ++ flat_map (encoding old.peer.version) (take i old.peer.waiting))) zero in
          omega (arith, none_before, length-append old.pending.bytes [], none, some_bytes old.peer.version f, is);
      intake = refl;
      taken = refl;
    }

-- where nothing was given, there is nothing to give
pub none_left : (n room : ℕ) (a b c : Side) → Begins a b → n ≡ min (length b.pending.bytes) room → 0 < room → GivesOut n a c → n ≡ 0 → text c ≡ []
none_left n room a b c begun count some gives zero =
    let nothing : b.pending.bytes ≡ [] = nil_from_length b.pending.bytes (omega (arith, count, some, zero)) in
    gives.rest ∙ ap (λ (i : ℕ). drop i (text a)) zero ∙ sym begun.same ∙ begun.ready nothing

gone_then : (n m : ℕ) (p q r : PeerState) → q ≡ record p { waiting = drop n p.waiting } → r ≡ record q { waiting = drop m q.waiting } → r ≡ record p { waiting = drop (n + m) p.waiting }
gone_then n m p q r e f = f ∙ ap (λ (s : PeerState). record s { waiting = drop m s.waiting }) e ∙ ap (λ (ws : List Frame). record p { waiting = ws }) (drop-drop m n p.waiting)

left_after : {n : ℕ} {a b : Side} → GivesOut n a b → length (text b) ≡ length (text a) - n
left_after {n} {a} {b} g = ap length g.rest ∙ length-drop n (text a)

-- the frames that left first have as many bytes as were given beyond those that were pending
gone_bytes : {n : ℕ} {a b : Side} (g : GivesOut n a b) → length a.pending.bytes + length (flat_map (encoding a.peer.version) (take g.gone a.peer.waiting)) ≡ n + length b.pending.bytes
gone_bytes {n} {a} {b} g =
    let behind : length (flat_map (encoding b.peer.version) b.peer.waiting) ≡ length (flat_map (encoding a.peer.version) (drop g.gone a.peer.waiting)) = ap (λ (p : PeerState). length (flat_map (encoding p.version) p.waiting)) g.peer in
    omega (arith, left_after g, g.within, length-text a, length-text b, length-split a.peer.version g.gone a.peer.waiting, behind)

begun_then : {n m : ℕ} {a b c : Side} (s : GivesOut n a b) (t : GivesOut m b c) (k : ℕ) → k < s.gone + t.gone → length (a.pending.bytes ++ flat_map (encoding a.peer.version) (take k a.peer.waiting)) < n + m
begun_then {n} {m} {a} {b} {c} s t k h =
    elim (cases_lt k s.gone) [
      | inl first ↦ omega (arith, s.begun k first)
      | inr second ↦
          let j = k - s.gone in
          let at : k ≡ s.gone + j = omega arith in
          let later : length (b.pending.bytes ++ flat_map (encoding b.peer.version) (take j b.peer.waiting)) < m = t.begun j (omega arith) in
          let same : length (flat_map (encoding b.peer.version) (take j b.peer.waiting)) ≡ length (flat_map (encoding a.peer.version) (take j (drop s.gone a.peer.waiting))) = ap (λ (p : PeerState). length (flat_map (encoding p.version) (take j p.waiting))) s.peer in
          let both : length (flat_map (encoding a.peer.version) (take k a.peer.waiting)) ≡ length (flat_map (encoding a.peer.version) (take (s.gone + j) a.peer.waiting)) = ap (λ (i : ℕ). length (flat_map (encoding a.peer.version) (take i a.peer.waiting))) at in
          omega (arith, later, same, both, gone_bytes s, length-take-more a.peer.version s.gone j a.peer.waiting, length-append a.pending.bytes (flat_map (encoding a.peer.version) (take k a.peer.waiting)), length-append b.pending.bytes (flat_map (encoding b.peer.version) (take j b.peer.waiting)))
    ]

pub gives_then : {n m : ℕ} {a b c : Side} → GivesOut n a b → GivesOut m b c → GivesOut (n + m) a c
gives_then {n} {m} {a} {b} {c} s t = record {
  within = omega (arith, s.within, t.within, left_after s);
  rest = t.rest ∙ ap (λ (x : List ℕ). drop m x) s.rest ∙ drop-drop m n (text a);
  gone = s.gone + t.gone;
  peer = gone_then s.gone t.gone a.peer b.peer c.peer s.peer t.peer;
  begun = begun_then s t;
  intake = t.intake ∙ s.intake;
  taken = t.taken ∙ s.taken;
}

-- more bytes are written after those that were
pub written_then : (n m : ℕ) {a b : Side} (whole out front back new : List ℕ) → GivesOut n a b → out ≡ take n (text a) ++ drop n whole → front ≡ take n out → back ≡ drop n out → new ≡ take m (text b) ++ drop m back → front ++ new ≡ take (n + m) (text a) ++ drop (n + m) whole
written_then n m {a} {b} whole out front back new g is before behind more =
    let long : length (take n (text a)) ≡ n = omega (arith, length-take n (text a), g.within) in
    let first : front ≡ take n (text a) = before ∙ ap (λ (x : List ℕ). take n x) is ∙ take_at (take n (text a)) (drop n whole) n long in
    let later : back ≡ drop n whole = behind ∙ ap (λ (x : List ℕ). drop n x) is ∙ drop_at (take n (text a)) (drop n whole) n long in
    let second : new ≡ take m (drop n (text a)) ++ drop (n + m) whole =
    more
    ∙ ap (λ (x : List ℕ). take m x ++ drop m back) g.rest
    ∙ ap (λ (x : List ℕ). take m (drop n (text a)) ++ drop m x) later
    ∙ ap (λ (x : List ℕ). take m (drop n (text a)) ++ x) (drop-drop m n whole) in
    ap (λ (x : List ℕ). x ++ new) first
    ∙ ap (λ (x : List ℕ). take n (text a) ++ x) second
    ∙ sym (append_assoc (take n (text a)) (take m (drop n (text a))) (drop (n + m) whole))
    ∙ ap (λ (x : List ℕ). x ++ drop (n + m) whole) (sym (take-add n m (text a)))
