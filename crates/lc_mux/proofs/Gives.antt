-- What was written, at one time and another.
use Rattle.std.proofs.Common.{◌≡◌, Bool, ℕ, zero, suc, ◌+◌, ◌-◌, ◌<◌, ◌≤◌, List, [], ◌∷◌, ◌++◌, length, take, drop, None, Some, inl, inr, refl, sym, ap, ◌∙◌, subst, append_assoc, arith}
use Rattle.std.specs.List.{flat_map, slice_get, AllByRecursion}
use Rattle.std.proofs.lemmas.List.{append-nil, length-take, length-drop, drop-drop, take_at, drop_at, take-append-drop}
use Rattle.std.proofs.lemmas.List.Concat.{flat_map-append, flat_map-cons}
use Rattle.std.proofs.Math.Seq.{take-add}
use Rattle.lc_frame.specs.declared.frame.Frame.{Frame}
use Rattle.lc_frame.specs.declared.frame.Frame.TheVariants.{Send, Issue, Absolve, Plead, LimitSending, LimitReceiving, Finish}
use Rattle.lc_frame.specs.declared.version.Version.{Version}
use Rattle.lc_frame.specs.declared.version.Version.TheVariants.{One, Two}
use Rattle.lc_frame.specs.Frame.{IsValid}
use Rattle.lc_frame.specs.Encoding.{encoding}
use Rattle.lc_peer.specs.Peer.{PeerState}
use Rattle.lc_peer.specs.Calls.{next}
use Rattle.lc_lines.specs.Outbound.{message_len}
use Rattle.lc_lines.specs.Scheduler.{SchedulerState, write, begun_by}
use Rattle.lc_lines.specs.Lines.{LinesState, with_scheduler}
use Rattle.lc_mux.specs.Mux.{text_of, IsBegun, max_head}
use Rattle.lc_owed.specs.Owed.{OwedState}
use Rattle.lc_mux.specs.Flushing.{FlushesUnless, SettlesAndPuts}
use Rattle.lc_mux.specs.Writing.{Entry, enter_all, frames_of, TakesFrame, MovesBy, Gives}
use Rattle.lc_mux.proofs.Puts.{enter_all-append, enter_all-queue, enter_all-version, frames_of-append, frames_of-queue, flush_put, flows_put, flows_begun, takes_put}

-- the bytes of frames in a version
abbrev bytes_of : Version → List Frame → List ℕ
bytes_of version frames = flat_map (encoding version) frames

first_of : (ws : List Frame) (f : Frame) → slice_get ws 0 ≡ Some f → ws ≡ f ∷ drop 1 ws
first_of [] f e = cc
first_of (w ∷ ws) f e = cc

pub valid_first : (version : Version) (ws : List Frame) (f : Frame) → AllByRecursion (IsValid version) ws → slice_get ws 0 ≡ Some f → IsValid version f
valid_first version [] f all e = cc
valid_first version (w ∷ ws) f all e = let same : w ≡ f = cc in subst (IsValid version) same all.0

pub none_first : (ws : List Frame) → slice_get ws 0 ≡ None → length ws ≡ 0
none_first [] e = refl
none_first (w ∷ ws) e = cc

-- the bytes of a frame are those of its message, and few more
record HasHead (version : Version) (f : Frame) : Type 0 where
  pub all : message_len f ≤ length (encoding version f)
  pub few : length (encoding version f) ≤ message_len f + max_head

has_head : (version : Version) (f : Frame) → HasHead version f
has_head One (Send c body) = record { all = omega arith; few = omega arith }
has_head Two (Send c body) = record { all = omega arith; few = omega arith }
has_head version (Issue c n) = record { all = omega arith; few = omega arith }
has_head version (Absolve c n) = record { all = omega arith; few = omega arith }
has_head version (Plead c n) = record { all = omega arith; few = omega arith }
has_head version (LimitSending c n) = record { all = omega arith; few = omega arith }
has_head version (LimitReceiving c n) = record { all = omega arith; few = omega arith }
has_head version (Finish c) = record { all = omega arith; few = omega arith }

pub some_bytes : (version : Version) (f : Frame) → 0 < length (encoding version f)
some_bytes version f = omega arith

moves_then : (closing : Bool) (m n : ℕ) (o : OwedState) (a : LinesState) (o1 : OwedState) (b : LinesState) (o2 : OwedState) (c : LinesState) → MovesBy closing m o a o1 b → MovesBy closing n o1 b o2 c → (k : ℕ) × MovesBy closing k o a o2 c
moves_then closing zero n o a o1 b o2 c first later =
    (n, subst (λ (x : OwedState). MovesBy closing n x a o2 c) first.0 (subst (λ (x : LinesState). MovesBy closing n o1 x o2 c) first.1 later))
moves_then closing (suc m) n o a o1 b o2 c first later =
    let rest = moves_then closing m n first.0 first.1.0 o1 b o2 c first.1.1.1 later in
    (suc rest.0, (first.0, (first.1.0, (first.1.1.0, rest.1))))

-- nothing was written, and nothing changed
pub gives_none : (closing : Bool) (o : OwedState) (l : LinesState) (pending : List ℕ) → Gives closing [] o l pending o l pending
gives_none closing o l pending = record {
  entered = [];
  gone = [];
  bytes = sym (append-nil (text_of l pending));
  queue = append-nil l.scheduler.peer.waiting;
  peer = refl;
  count = 0;
  moves = (refl, refl);
}

version_after : {closing : Bool} {x : List ℕ} {o : OwedState} {l : LinesState} {p : List ℕ} {o' : OwedState} {l' : LinesState} {p' : List ℕ} → Gives closing x o l p o' l' p' → l'.scheduler.peer.version ≡ l.scheduler.peer.version
version_after {closing} {x} {o} {l} {p} {o'} {l'} {p'} g = ap (λ (q : PeerState). q.version) g.peer ∙ enter_all-version g.entered l.scheduler.peer

bytes_then : (version : Version) (x y t0 t1 t2 : List ℕ) (a b : List Frame) → x ++ t1 ≡ t0 ++ bytes_of version a → y ++ t2 ≡ t1 ++ bytes_of version b → (x ++ y) ++ t2 ≡ t0 ++ bytes_of version (a ++ b)
bytes_then version x y t0 t1 t2 a b first later =
    append_assoc x y t2
    ∙ (ap (λ (z : List ℕ). x ++ z) later
    ∙ (sym (append_assoc x t1 (bytes_of version b))
    ∙ (ap (λ (z : List ℕ). z ++ bytes_of version b) first
    ∙ (append_assoc t0 (bytes_of version a) (bytes_of version b)
    ∙ ap (λ (z : List ℕ). t0 ++ z) (sym (flat_map-append (encoding version) a b))))))

queue_then : (w0 w1 w2 a b g h : List Frame) → w0 ++ a ≡ g ++ w1 → w1 ++ b ≡ h ++ w2 → w0 ++ (a ++ b) ≡ (g ++ h) ++ w2
queue_then w0 w1 w2 a b g h first later =
    sym (append_assoc w0 a b)
    ∙ (ap (λ (z : List Frame). z ++ b) first
    ∙ (append_assoc g w1 b
    ∙ (ap (λ (z : List Frame). g ++ z) later
    ∙ sym (append_assoc g h w2))))

peer_then : (p q r : PeerState) (a b : List Entry) → q ≡ record (enter_all a p) { waiting = q.waiting } → r ≡ record (enter_all b q) { waiting = r.waiting } → r ≡ record (enter_all (a ++ b) p) { waiting = r.waiting }
peer_then p q r a b first later =
    later
    ∙ (ap (λ (x : PeerState). record (enter_all b x) { waiting = r.waiting }) first
    ∙ (ap (λ (x : PeerState). record x { waiting = r.waiting }) (enter_all-queue b (enter_all a p) q.waiting)
    ∙ ap (λ (x : PeerState). record x { waiting = r.waiting }) (sym (enter_all-append a b p))))

-- the frames of calls, and of those behind them
frames_then : (p q : PeerState) (a b : List Entry) → q ≡ record (enter_all a p) { waiting = q.waiting } → frames_of a p ++ frames_of b q ≡ frames_of (a ++ b) p
frames_then p q a b first =
    ap (λ (x : List Frame). frames_of a p ++ x) (ap (frames_of b) first ∙ frames_of-queue b (enter_all a p) q.waiting)
    ∙ sym (frames_of-append a b p)

pub gives_then : {closing : Bool} {x y : List ℕ} {o o1 o2 : OwedState} {l m n : LinesState} {p q r : List ℕ} → Gives closing x o l p o1 m q → Gives closing y o1 m q o2 n r → Gives closing (x ++ y) o l p o2 n r
gives_then {closing} {x} {y} {o} {o1} {o2} {l} {m} {n} {p} {q} {r} s t =
    let v = l.scheduler.peer.version in
    let a = frames_of s.entered l.scheduler.peer in
    let b = frames_of t.entered m.scheduler.peer in
    let all : a ++ b ≡ frames_of (s.entered ++ t.entered) l.scheduler.peer = frames_then l.scheduler.peer m.scheduler.peer s.entered t.entered s.peer in
    let later : y ++ text_of n r ≡ text_of m q ++ bytes_of v b = t.bytes ∙ ap (λ (w : Version). text_of m q ++ bytes_of w b) (version_after s) in
    let moves = moves_then closing s.count t.count o l o1 m o2 n s.moves t.moves in
    record {
      entered = s.entered ++ t.entered;
      gone = s.gone ++ t.gone;
      bytes = bytes_then v x y (text_of l p) (text_of m q) (text_of n r) a b s.bytes later ∙ ap (λ (z : List Frame). text_of l p ++ bytes_of v z) all;
      queue = ap (λ (z : List Frame). l.scheduler.peer.waiting ++ z) (sym all)
          ∙ queue_then l.scheduler.peer.waiting m.scheduler.peer.waiting n.scheduler.peer.waiting a b s.gone t.gone s.queue t.queue;
      peer = peer_then l.scheduler.peer m.scheduler.peer n.scheduler.peer s.entered t.entered s.peer t.peer;
      count = moves.0;
      moves = moves.1;
    }

-- the same bytes, by another name
pub gives_as : {closing : Bool} {x y : List ℕ} {o o' : OwedState} {l m : LinesState} {p q : List ℕ} → x ≡ y → Gives closing x o l p o' m q → Gives closing y o l p o' m q
gives_as {closing} {x} {y} {o} {o'} {l} {m} {p} {q} e g = subst (λ (z : List ℕ). Gives closing z o l p o' m q) e g

-- the first frame left the queue, and then these calls entered frames
record Leaves (f : Frame) (entered : List Entry) (l l' : LinesState) : Type 0 where
  pub queue : l.scheduler.peer.waiting ++ frames_of entered l.scheduler.peer ≡ (f ∷ []) ++ l'.scheduler.peer.waiting
  pub peer : l'.scheduler.peer ≡ record (enter_all entered l.scheduler.peer) { waiting = l'.scheduler.peer.waiting }
  pub bytes : bytes_of l.scheduler.peer.version l.scheduler.peer.waiting ++ bytes_of l.scheduler.peer.version (frames_of entered l.scheduler.peer) ≡ encoding l.scheduler.peer.version f ++ bytes_of l'.scheduler.peer.version l'.scheduler.peer.waiting
  pub begun : l'.scheduler.begun ≡ message_len f

leaves : (closing : Bool) (f : Frame) (o : OwedState) (l : LinesState) (o' : OwedState) (l' : LinesState) → next l.scheduler.peer ≡ Some f → TakesFrame closing o l o' l' → (entered : List Entry) × Leaves f entered l l'
leaves closing f o l o' l' first takes =
    let p = l.scheduler.peer in
    let puts = takes_put closing o l o' l' takes in
    let a = puts.0 in
    let b = frames_of a p in
    let is : l'.scheduler.peer ≡ record (enter_all a p) { waiting = drop 1 p.waiting ++ b } = puts.1.peer ∙ enter_all-queue a p (drop 1 p.waiting) in
    let waiting : l'.scheduler.peer.waiting ≡ drop 1 p.waiting ++ b = ap (λ (q : PeerState). q.waiting) is in
    let version : l'.scheduler.peer.version ≡ p.version = ap (λ (q : PeerState). q.version) is ∙ enter_all-version a p in
    let head : p.waiting ≡ f ∷ drop 1 p.waiting = first_of p.waiting f first in
    let behind : bytes_of l'.scheduler.peer.version l'.scheduler.peer.waiting ≡ bytes_of p.version (drop 1 p.waiting) ++ bytes_of p.version b =
    ap (λ (v : Version). bytes_of v l'.scheduler.peer.waiting) version ∙ (ap (bytes_of p.version) waiting ∙ flat_map-append (encoding p.version) (drop 1 p.waiting) b) in
    let front : bytes_of p.version p.waiting ≡ encoding p.version f ++ bytes_of p.version (drop 1 p.waiting) = ap (bytes_of p.version) head ∙ flat_map-cons (encoding p.version) f (drop 1 p.waiting) in (
      a,
      record {
        queue = ap (λ (ws : List Frame). ws ++ b) head ∙ ap (λ (ws : List Frame). f ∷ ws) (sym waiting);
        peer = is ∙ ap (λ (ws : List Frame). record (enter_all a p) { waiting = ws }) (sym waiting);
        bytes = ap (λ (x : List ℕ). x ++ bytes_of p.version b) front
            ∙ (append_assoc (encoding p.version f) (bytes_of p.version (drop 1 p.waiting)) (bytes_of p.version b)
            ∙ ap (λ (x : List ℕ). encoding p.version f ++ x) (sym behind));
        begun = puts.1.begun ∙ ap (λ o. begun_by o l.scheduler.begun) first;
      },
    )

begun_frame : (version : Version) (f : Frame) (s : SchedulerState) → s.begun ≡ message_len f → IsBegun s (encoding version f)
begun_frame version f s e = let head = has_head version f in record { all = omega (arith, e, head.all); few = omega (arith, e, head.few) }

-- the next frame is begun
pub gives_begin : (closing : Bool) (o : OwedState) (l : LinesState) (o' : OwedState) (l' : LinesState) (pending pending' : List ℕ) (f : Frame) → pending ≡ [] → next l.scheduler.peer ≡ Some f → TakesFrame closing o l o' l' → pending' ≡ encoding l.scheduler.peer.version f → Gives closing [] o l pending o' l' pending'
gives_begin closing o l o' l' pending pending' f nothing first takes is =
    let out = leaves closing f o l o' l' first takes in
    let v = l.scheduler.peer.version in
    record {
      entered = out.0;
      gone = f ∷ [];
      bytes = ap (λ (x : List ℕ). x ++ bytes_of l'.scheduler.peer.version l'.scheduler.peer.waiting) is
          ∙ (sym out.1.bytes ∙ ap (λ (x : List ℕ). (x ++ bytes_of v l.scheduler.peer.waiting) ++ bytes_of v (frames_of out.0 l.scheduler.peer)) (sym nothing));
      queue = out.1.queue;
      peer = out.1.peer;
      count = 1;
      moves = (o', (l', (inr (inl takes), (refl, refl))));
    }

pub begun_begin : (closing : Bool) (o : OwedState) (l : LinesState) (o' : OwedState) (l' : LinesState) (pending' : List ℕ) (f : Frame) → next l.scheduler.peer ≡ Some f → TakesFrame closing o l o' l' → pending' ≡ encoding l.scheduler.peer.version f → IsBegun l'.scheduler pending'
begun_begin closing o l o' l' pending' f first takes is =
    let out = leaves closing f o l o' l' first takes in
    subst (IsBegun l'.scheduler) (sym is) (begun_frame l.scheduler.peer.version f l'.scheduler out.1.begun)

-- frames entered, and these bytes of what was left were written
gives_by : (closing : Bool) (o : OwedState) (l : LinesState) (o' : OwedState) (l' : LinesState) (written pending pending' : List ℕ) (entered : List Entry) →
    l'.scheduler.peer ≡ enter_all entered l.scheduler.peer → written ++ pending' ≡ pending → MovesBy closing 1 o l o' l' → Gives closing written o l pending o' l' pending'
gives_by closing o l o' l' written pending pending' entered is whole moves =
    let p = l.scheduler.peer in
    let b = frames_of entered p in
    let peer : l'.scheduler.peer ≡ record (enter_all entered p) { waiting = p.waiting ++ b } = is ∙ enter_all-queue entered p p.waiting in
    let waiting : l'.scheduler.peer.waiting ≡ p.waiting ++ b = ap (λ (q : PeerState). q.waiting) peer in
    let version : l'.scheduler.peer.version ≡ p.version = ap (λ (q : PeerState). q.version) peer ∙ enter_all-version entered p in
    let behind : bytes_of l'.scheduler.peer.version l'.scheduler.peer.waiting ≡ bytes_of p.version p.waiting ++ bytes_of p.version b =
    ap (λ (v : Version). bytes_of v l'.scheduler.peer.waiting) version ∙ (ap (bytes_of p.version) waiting ∙ flat_map-append (encoding p.version) p.waiting b) in
    record {
      entered = entered;
      gone = [];
      bytes = sym (append_assoc written pending' (bytes_of l'.scheduler.peer.version l'.scheduler.peer.waiting))
          ∙ (ap (λ (x : List ℕ). x ++ bytes_of l'.scheduler.peer.version l'.scheduler.peer.waiting) whole
          ∙ (ap (λ (x : List ℕ). pending ++ x) behind
          ∙ sym (append_assoc pending (bytes_of p.version p.waiting) (bytes_of p.version b))));
      queue = sym waiting;
      peer = peer ∙ ap (λ (ws : List Frame). record (enter_all entered p) { waiting = ws }) (sym waiting);
      count = 1;
      moves = moves;
    }

-- what is due was put
pub gives_flush : (closing : Bool) (o : OwedState) (l : LinesState) (o' : OwedState) (l' : LinesState) (pending : List ℕ) → FlushesUnless closing o l o' l' → Gives closing [] o l pending o' l' pending
gives_flush closing o l o' l' pending flushes =
    let puts = flush_put closing o l o' l' flushes in
    gives_by closing o l o' l' [] pending pending puts.0 puts.1.peer refl (o', (l', (inl flushes, (refl, refl))))

-- so many bytes of what was left were written
pub gives_rest : (closing : Bool) (n : ℕ) (o : OwedState) (l : LinesState) (o' : OwedState) (l' : LinesState) (pending pending' : List ℕ) → pending' ≡ drop n pending → SettlesAndPuts closing o (with_scheduler l (write l.scheduler (length pending'))) o' l' → Gives closing (take n pending) o l pending o' l' pending'
gives_rest closing n o l o' l' pending pending' is flows =
    let puts = flows_put closing o (with_scheduler l (write l.scheduler (length pending'))) o' l' flows in
    let whole : take n pending ++ pending' ≡ pending = ap (λ (x : List ℕ). take n pending ++ x) is ∙ take-append-drop n pending in
    gives_by closing o l o' l' (take n pending) pending pending' puts.0 puts.1.peer whole (o', (l', (inr (inr (length pending', flows)), (refl, refl))))

pub begun_rest : (closing : Bool) (n : ℕ) (o : OwedState) (l : LinesState) (o' : OwedState) (l' : LinesState) (pending pending' : List ℕ) → pending' ≡ drop n pending → SettlesAndPuts closing o (with_scheduler l (write l.scheduler (length pending'))) o' l' → IsBegun l.scheduler pending → IsBegun l'.scheduler pending'
begun_rest closing n o l o' l' pending pending' is flows h =
    let begun = flows_begun closing o (with_scheduler l (write l.scheduler (length pending'))) o' l' flows in
    let len : length pending' ≡ length pending - n = ap length is ∙ length-drop n pending in
    record { all = omega (arith, begun); few = omega (arith, begun, h.all, h.few, len) }

-- the next frame was written whole
pub gives_whole : (closing : Bool) (o : OwedState) (l : LinesState) (o1 : OwedState) (m : LinesState) (o' : OwedState) (l' : LinesState) (pending : List ℕ) (f : Frame) → pending ≡ [] → next l.scheduler.peer ≡ Some f → TakesFrame closing o l o1 m → SettlesAndPuts closing o1 (with_scheduler m (write m.scheduler 0)) o' l' → Gives closing (encoding l.scheduler.peer.version f) o l pending o' l' pending
gives_whole closing o l o1 m o' l' pending f nothing first takes flows =
    let out = leaves closing f o l o1 m first takes in
    let left : Gives closing (encoding l.scheduler.peer.version f) o l [] o1 m [] = record {
      entered = out.0;
      gone = f ∷ [];
      bytes = sym out.1.bytes;
      queue = out.1.queue;
      peer = out.1.peer;
      count = 1;
      moves = (o1, (m, (inr (inl takes), (refl, refl))));
    } in
    let all = gives_as (append-nil (encoding l.scheduler.peer.version f)) (gives_then left (gives_rest closing 0 o1 m o' l' [] [] refl flows)) in
    subst (λ (p : List ℕ). Gives closing (encoding l.scheduler.peer.version f) o l p o' l' p) (sym nothing) all

pub begun_whole : (closing : Bool) (o : OwedState) (m : LinesState) (o' : OwedState) (l' : LinesState) (pending : List ℕ) → pending ≡ [] → SettlesAndPuts closing o (with_scheduler m (write m.scheduler 0)) o' l' → IsBegun l'.scheduler pending
begun_whole closing o m o' l' pending nothing flows =
    let begun = flows_begun closing o (with_scheduler m (write m.scheduler 0)) o' l' flows in
    let none = ap length nothing in
    record { all = omega (arith, begun, none); few = omega (arith, none) }

-- what is written behind what was
pub written_then : (n m : ℕ) (out front new : List ℕ) → n ≤ length out → front ≡ take n out → take n out ++ take m new ≡ take (n + m) (front ++ new)
written_then n m out front new le before =
    let len : length front ≡ n = omega (arith, ap length before, length-take n out, le) in
    sym (take-add n m (front ++ new)
    ∙ (ap (λ (x : List ℕ). x ++ take m (drop n (front ++ new))) (take_at front new n len ∙ before)
    ∙ ap (λ (x : List ℕ). take n out ++ take m x) (drop_at front new n len)))

pub behind_then : (n m : ℕ) (whole out front back new : List ℕ) → n ≤ length out → front ≡ take n out → back ≡ drop n out → drop n out ≡ drop n whole → drop m new ≡ drop m back → drop (n + m) (front ++ new) ≡ drop (n + m) whole
behind_then n m whole out front back new le before behind same rest =
    let len : length front ≡ n = omega (arith, ap length before, length-take n out, le) in
    sym (drop-drop m n (front ++ new))
    ∙ (ap (λ (x : List ℕ). drop m x) (drop_at front new n len)
    ∙ (rest
    ∙ (ap (λ (x : List ℕ). drop m x) (behind ∙ same)
    ∙ drop-drop m n whole)))

-- what is written to the front of a buffer stands there
pub written_front : (n : ℕ) (p out new : List ℕ) → n ≤ length p → new ≡ take n p ++ drop n out → take n p ≡ take n new
written_front n p out new le is =
    let len : length (take n p) ≡ n = omega (arith, length-take n p, le) in
    sym (ap (λ (x : List ℕ). take n x) is ∙ take_at (take n p) (drop n out) n len)

pub whole_front : (n : ℕ) (x new rest : List ℕ) → n ≡ length x → new ≡ x ++ rest → x ≡ take n new
whole_front n x new rest len is = sym (ap (λ (y : List ℕ). take n y) is ∙ take_at x rest n (sym len))

-- nothing is written behind what was
pub written_stop : (n m : ℕ) (out front new : List ℕ) → n ≤ length out → front ≡ take n out → m ≡ 0 → take n out ++ take m new ≡ take n (front ++ new)
written_stop n m out front new le before none =
    let same : n + m ≡ n = omega (arith, none) in
    written_then n m out front new le before ∙ ap (λ (i : ℕ). take i (front ++ new)) same
