-- What a writer took, after one write and another.
use Rattle.std.proofs.Common.{◌≡◌, ℕ, ◌+◌, ◌-◌, ◌<◌, ◌≤◌, List, [], ◌∷◌, ◌++◌, length, take, drop, Option, Some, None, refl, sym, ap, subst, ◌∙◌, append_assoc, arith, inl, inr, length-append}
use Rattle.std.specs.List.{flat_map}
use Rattle.std.proofs.lemmas.Bool.{cases_lt}
use Rattle.std.proofs.lemmas.List.{append-nil, length-take, drop-drop}
use Rattle.std.proofs.lemmas.List.Concat.{flat_map-cons}
use Rattle.std.proofs.Math.Seq.{take-add}
use Rattle.std.specs.Io.KnownBytes.{Appends}
use Rattle.lc_frame.specs.declared.version.Version.{Version}
use Rattle.lc_frame.specs.declared.frame.Frame.{Frame}
use Rattle.lc_frame.specs.Encoding.{encoding}
use Rattle.lc_peer.specs.Peer.{PeerState}
use Rattle.lc_driver.specs.declared.writing.WriteFault.{WriteFault}
use Rattle.lc_driver.specs.declared.writing.WriteFault.TheVariants.{Failed, Zero}
use Rattle.lc_driver.specs.Writing.{text, without, Writes, IsAhead, LetsGo, fault_written, fault_after}
use Rattle.lc_driver.proofs.Frames.{length-split, length-take-more, next_ahead}

appends_then : (a b c : Option (List ℕ)) (x y : List ℕ) → Appends a b x → Appends b c y → Appends a c (x ++ y)
appends_then None b c x y p q = tt
appends_then (Some a) None c x y p q = absurd p
appends_then (Some a) (Some b) None x y p q = absurd q
appends_then (Some a) (Some b) (Some c) x y p q = q ∙ ap (λ (zs : List ℕ). zs ++ y) p ∙ append_assoc a x y

-- one write more
pub writes_on : (a b c : Option (List ℕ)) (bytes given : List ℕ) (done taken : ℕ) → given ≡ drop done bytes → Appends a b (take done bytes) → Appends b c (take taken given) → Appends a c (take (done + taken) bytes)
writes_on a b c bytes given done taken is p q =
    subst (λ (xs : List ℕ). Appends a c xs) (sym (take-add done taken bytes)) (appends_then a b c (take done bytes) (take taken (drop done bytes)) p (subst (λ (xs : List ℕ). Appends b c (take taken xs)) is q))

appends_nothing : (a : Option (List ℕ)) → Appends a a []
appends_nothing None = tt
appends_nothing (Some a) = sym (append-nil a)

-- frames left, and then others
gone_then : (n m : ℕ) (p q r : PeerState) → q ≡ without n p → r ≡ without m q → r ≡ without (n + m) p
gone_then n m p q r e f = f ∙ ap (λ (s : PeerState). without m s) e ∙ ap (λ (ws : List Frame). record p { waiting = ws }) (drop-drop m n p.waiting)

waiting_after : (n : ℕ) (p q : PeerState) → q ≡ without n p → q.waiting ≡ drop n p.waiting
waiting_after n p q e = ap (λ (s : PeerState). s.waiting) e

pub written_after : (fault : WriteFault) (before : ℕ) → fault_written (fault_after fault before) ≡ before + fault_written fault
written_after (Failed n) before = refl
written_after (Zero n) before = refl

-- one frame more leaves the peer
pub record GoesOn (version : Version) (bytes : List ℕ) (begun taken end : ℕ) (p q : PeerState) : Type 0 where
  pub ahead : IsAhead version end bytes q.waiting
  pub gone : LetsGo version bytes begun taken end p q

module _ (version : Version) where
  length-text : (pending : List ℕ) (ws : List Frame) → length (text version pending ws) ≡ length pending + length (flat_map (encoding version) ws)
  length-text pending ws = length-append pending (flat_map (encoding version) ws)

  -- what is left of the text is as much shorter as was written
  pub text_left : {a b : Option (List ℕ)} {x y : List ℕ} {p q : PeerState} {n : ℕ} → Writes version a b x p y q n → length (text version x p.waiting) ≡ n + length (text version y q.waiting)
  text_left {y = y} {q = q} w = omega (arith, ap length w.rest, w.count, length-append w.taken (text version y q.waiting))

  pub writes_nothing : (a : Option (List ℕ)) (x : List ℕ) (p : PeerState) (k : ℕ) → k ≡ 0 → Writes version a a x p x p k
  writes_nothing a x p k e = record {
    taken = [];
    count = e;
    grown = appends_nothing a;
    rest = refl;
    gone = 0;
    peer = refl;
    begun = λ i h. absurd (omega arith);
  }

  -- the frames that left first have as many bytes as were written beyond those pending
  gone_bytes : {a b : Option (List ℕ)} {x y : List ℕ} {p q : PeerState} {n : ℕ} (w : Writes version a b x p y q n) → length x + length (flat_map (encoding version) (take w.gone p.waiting)) ≡ n + length y
  gone_bytes {x = x} {y = y} {p = p} {q = q} {n = n} w =
      let behind : length (flat_map (encoding version) q.waiting) ≡ length (flat_map (encoding version) (drop w.gone p.waiting)) = ap (λ (ws : List Frame). length (flat_map (encoding version) ws)) (waiting_after w.gone p q w.peer) in
      omega (arith, text_left w, length-text x p.waiting, length-text y q.waiting, length-split version w.gone p.waiting, behind)

  begun_then : {a b c : Option (List ℕ)} {x y z : List ℕ} {p q r : PeerState} {n m : ℕ} (s : Writes version a b x p y q n) (t : Writes version b c y q z r m) (k : ℕ) → k < s.gone + t.gone → length (text version x (take k p.waiting)) < n + m
  begun_then {x = x} {y = y} {p = p} {q = q} {n = n} {m = m} s t k h =
      elim (cases_lt k s.gone) [
        | inl first ↦ omega (arith, s.begun k first)
        | inr second ↦
            let j = k - s.gone in
            let at : k ≡ s.gone + j = omega arith in
            let later : length (text version y (take j q.waiting)) < m = t.begun j (omega arith) in
            let same : length (flat_map (encoding version) (take j q.waiting)) ≡ length (flat_map (encoding version) (take j (drop s.gone p.waiting))) = ap (λ (ws : List Frame). length (flat_map (encoding version) (take j ws))) (waiting_after s.gone p q s.peer) in
            let both : length (flat_map (encoding version) (take k p.waiting)) ≡ length (flat_map (encoding version) (take (s.gone + j) p.waiting)) = ap (λ (i : ℕ). length (flat_map (encoding version) (take i p.waiting))) at in
            omega (arith, later, same, both, gone_bytes s, length-take-more version s.gone j p.waiting, length-text x (take k p.waiting), length-text y (take j q.waiting))
      ]

  pub writes_then : {a b c : Option (List ℕ)} {x y z : List ℕ} {p q r : PeerState} {n m : ℕ} (k : ℕ) → Writes version a b x p y q n → Writes version b c y q z r m → k ≡ n + m → Writes version a c x p z r k
  writes_then {a} {b} {c} {x} {y} {z} {p} {q} {r} {n} {m} k s t e = record {
    taken = s.taken ++ t.taken;
    count = omega (arith, e, s.count, t.count, length-append s.taken t.taken);
    grown = appends_then a b c s.taken t.taken s.grown t.grown;
    rest = s.rest ∙ ap (λ (zs : List ℕ). s.taken ++ zs) t.rest ∙ sym (append_assoc s.taken t.taken (text version z r.waiting));
    gone = s.gone + t.gone;
    peer = gone_then s.gone t.gone p q r s.peer t.peer;
    begun = λ i h. omega (arith, e, begun_then s t i h);
  }

  -- one write, which took some of these bytes
  pub one_write : {a b : Option (List ℕ)} (given bytes left : List ℕ) (rest taken more : ℕ) (p q : PeerState) → given ≡ bytes → taken ≤ length bytes → Appends a b (take taken given) → left ≡ drop taken bytes → LetsGo version bytes rest taken (taken + more) p q → Writes version a b (take rest bytes) p (take more left) q taken
  one_write {a} {b} given bytes left rest taken more p q same fits grown e l = record {
    taken = take taken bytes;
    count = omega (arith, fits, length-take taken bytes);
    grown = subst (λ (x : List ℕ). Appends a b (take taken x)) same grown;
    rest =
        l.rest
        ∙ ap (λ (x : List ℕ). x ++ flat_map (encoding version) q.waiting) (take-add taken more bytes)
        ∙ append_assoc (take taken bytes) (take more (drop taken bytes)) (flat_map (encoding version) q.waiting)
        ∙ ap (λ (x : List ℕ). take taken bytes ++ (take more x ++ flat_map (encoding version) q.waiting)) (sym e);
    gone = l.gone;
    peer = l.peer;
    begun = λ k h. omega (arith, l.first k h, length-text (take rest bytes) (take k p.waiting), length-take rest bytes);
  }

  -- the same, where so many were written and the rest after the frame that was begun is dropped
  pub wrote : {a b : Option (List ℕ)} (given bytes left kept : List ℕ) (rest n taken more : ℕ) (p q : PeerState) → given ≡ bytes → taken ≡ n → n ≤ length given → Appends a b (take n given) → left ≡ drop taken bytes → LetsGo version bytes rest taken (taken + more) p q → kept ≡ take more left → Writes version a b (take rest bytes) p kept q n
  wrote {a} {b} given bytes left kept rest n taken more p q same e fits grown advanced l cut =
      subst (λ (x : List ℕ × ℕ). Writes version a b (take rest bytes) p x.0 q x.1) (λ i. (sym cut i, e i))
      (one_write given bytes left rest taken more p q same (omega (arith, e, fits, ap length same)) (subst (λ (k : ℕ). Appends a b (take k given)) (sym e) grown) advanced l)

  goes_first : (bytes : List ℕ) (begun taken end k : ℕ) (p q : PeerState) (l : LetsGo version bytes begun taken end p q) → begun ≤ length bytes → end ≤ length bytes → end < taken → k < l.gone + 1 → begun + length (flat_map (encoding version) (take k p.waiting)) < taken
  goes_first bytes begun taken end k p q l fits within more h =
      elim (cases_lt k l.gone) [
        | inl before ↦ l.first k before
        | inr last ↦
            let at : k ≡ l.gone = omega arith in
            let here : length (flat_map (encoding version) (take k p.waiting)) ≡ length (flat_map (encoding version) (take l.gone p.waiting)) = ap (λ (i : ℕ). length (flat_map (encoding version) (take i p.waiting))) at in
            let behind : length (flat_map (encoding version) q.waiting) ≡ length (flat_map (encoding version) (drop l.gone p.waiting)) = ap (λ (ws : List Frame). length (flat_map (encoding version) ws)) (waiting_after l.gone p q l.peer) in
            omega (arith, fits, within, more, here, behind, ap length l.rest, length-append (take begun bytes) (flat_map (encoding version) p.waiting), length-append (take end bytes) (flat_map (encoding version) q.waiting), length-take begun bytes, length-take end bytes, length-split version l.gone p.waiting)
      ]

  pub goes_on : (bytes : List ℕ) (begun taken end len : ℕ) (p q r : PeerState) (f : Frame) → begun ≤ length bytes → taken ≤ length bytes → end < taken → GoesOn version bytes begun taken end p q → q.waiting ≡ f ∷ r.waiting → r ≡ without 1 q → len ≡ length (encoding version f) → GoesOn version bytes begun taken (end + len) p r
  goes_on bytes begun taken end len p q r f fits within more g first e same =
      let next = next_ahead version end len bytes f r.waiting g.ahead.joined (omega arith) same (g.ahead.is ∙ ap (λ (ws : List Frame). flat_map (encoding version) (take g.ahead.joined ws)) first) in
      record {
        ahead = next.ahead;
        gone = record {
          rest =
              g.gone.rest
              ∙ ap (λ (ws : List Frame). take end bytes ++ flat_map (encoding version) ws) first
              ∙ ap (λ (x : List ℕ). take end bytes ++ x) (flat_map-cons (encoding version) f r.waiting)
              ∙ sym (append_assoc (take end bytes) (encoding version f) (flat_map (encoding version) r.waiting))
              ∙ ap (λ (x : List ℕ). (take end bytes ++ x) ++ flat_map (encoding version) r.waiting) (sym next.first)
              ∙ ap (λ (x : List ℕ). x ++ flat_map (encoding version) r.waiting) (sym (take-add end len bytes));
          gone = g.gone.gone + 1;
          peer = gone_then g.gone.gone 1 p q r g.gone.peer e;
          first = λ k h. goes_first bytes begun taken end k p q g.gone fits g.ahead.within more h;
        };
      }
