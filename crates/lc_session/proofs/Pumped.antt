-- What the writing pump popped and wrote, after one step and another.
use Rattle.std.proofs.Common.{◌≡◌, ℕ, ◌⊎◌, inl, inr, List, [], ◌∷◌, ◌++◌, length, take, Option, Some, None, refl, sym, ap, subst, ◌∙◌, append_assoc, append-nil, arith, length-append}
use Rattle.std.specs.List.{flat_map}
use Rattle.std.specs.Io.KnownBytes.{Appends, Keeps}
use Rattle.std.proofs.lemmas.List.{take_at}
use Rattle.std.proofs.lemmas.List.Concat.{flat_map-append}
use Rattle.lc_frame.specs.declared.version.Version.{Version}
use Rattle.lc_frame.specs.declared.frame.Frame.{Frame}
use Rattle.lc_frame.specs.Encoding.{encoding}
use Rattle.lc_queue.specs.Parts.{Outlet, new_outlet}
use Rattle.lc_driver.specs.Writing.{text}
use Rattle.lc_session.specs.Batch.{BatchState, HasBegun, LetsGo, new_batch}
use Rattle.lc_session.specs.Pumping.{Pumping, IsRest, IsPumping, Pops, Pumps, Writes, pumping_of}

-- ---- what a writer's bytes grow by

appends_then : (a b c : Option (List ℕ)) (x y : List ℕ) → Appends a b x → Appends b c y → Appends a c (x ++ y)
appends_then None b c x y p q = tt
appends_then (Some a) None c x y p q = absurd p
appends_then (Some a) (Some b) None x y p q = absurd q
appends_then (Some a) (Some b) (Some c) x y p q = q ∙ ap (λ (zs : List ℕ). zs ++ y) p ∙ append_assoc a x y

appends_nothing : (a : Option (List ℕ)) → Appends a a []
appends_nothing None = tt
appends_nothing (Some a) = sym (append-nil a)

keeps_appends : (a b : Option (List ℕ)) → Keeps a b → Appends a b []
keeps_appends None b k = tt
keeps_appends (Some a) None k = absurd k
keeps_appends (Some a) (Some b) k = k ∙ sym (append-nil a)

-- ---- what was popped

outlet_then : (o : Outlet) (xs ys : List Frame) → ◌≡◌ {A = Outlet} (record o { popped = (o.popped ++ xs) ++ ys }) (record o { popped = o.popped ++ (xs ++ ys) })
outlet_then o xs ys = ap (λ (fs : List Frame). record o { popped = fs }) (append_assoc o.popped xs ys)

outlet_same : (o : Outlet) → ◌≡◌ {A = Outlet} o (record o { popped = o.popped ++ [] })
outlet_same o = ap (λ (fs : List Frame). record o { popped = fs }) (sym (append-nil o.popped))

pub not_empty : (fs : List Frame) (f : Frame) → fs ++ f ∷ [] ≡ [] → ⊥
not_empty fs f e = omega (arith, ap length e, length-append fs (f ∷ []))

-- ---- what was written

-- the last of some frames, when all bytes were written
last_of : (version : Version) (f : Frame) (fs : List Frame) → HasBegun version (f ∷ fs) []
last_of version f [] = record { earlier = []; frame = f; last = refl; written = encoding version f; some = omega arith; whole = sym (append-nil (encoding version f)) }
last_of version f (g ∷ fs) =
    let h = last_of version g fs in
    record { earlier = f ∷ h.earlier; frame = h.frame; last = ap (λ (gs : List Frame). f ∷ gs) h.last; written = h.written; some = h.some; whole = h.whole }

nil_right : (xs ys : List ℕ) → xs ++ ys ≡ [] → ys ≡ []
nil_right [] ys e = e
nil_right (x ∷ xs) ys e = cc

-- all that was pending
all_begun : (version : Version) (fs : List Frame) → (fs ≡ []) ⊎ HasBegun version fs []
all_begun version [] = inl refl
all_begun version (f ∷ fs) = inr (last_of version f fs)

-- where some bytes more are written of what was left
rest_on : (version : Version) (frames : List Frame) (begun written rest : List ℕ) → IsRest version frames begun → begun ≡ written ++ rest → IsRest version frames rest
rest_on version frames begun written rest (inl none) e = inl (nil_right written rest (sym e ∙ none))
rest_on version frames begun written rest (inr (inl h)) e = inr (inl (record {
  earlier = h.earlier;
  frame = h.frame;
  last = h.last;
  written = h.written ++ written;
  some = omega (arith, h.some, length-append h.written written);
  whole = h.whole ∙ ap (λ (xs : List ℕ). h.written ++ xs) e ∙ sym (append_assoc h.written written rest);
}))
rest_on version frames begun written rest (inr (inr g)) e = inr (inr (record {
  none = g.none;
  written = g.written ++ written;
  whole = g.whole ∙ ap (λ (xs : List ℕ). g.written ++ xs) e ∙ sym (append_assoc g.written written rest);
}))

rest_after : (version : Version) (frames gone : List Frame) (begun written rest : List ℕ) → IsRest version frames begun → begun ++ flat_map (encoding version) gone ≡ written ++ rest → (gone ≡ []) ⊎ HasBegun version gone rest → IsRest version (frames ++ gone) rest
rest_after version frames gone begun written rest k e (inl none) =
    subst (λ (fs : List Frame). IsRest version fs rest) (sym (append-nil frames) ∙ ap (λ (fs : List Frame). frames ++ fs) (sym none))
    (rest_on version frames begun written rest k (sym (append-nil begun) ∙ ap (λ (fs : List Frame). begun ++ flat_map (encoding version) fs) (sym none) ∙ e))
rest_after version frames gone begun written rest k e (inr h) = inr (inl (record {
  earlier = frames ++ h.earlier;
  frame = h.frame;
  last = ap (λ (fs : List Frame). frames ++ fs) h.last ∙ sym (append_assoc frames h.earlier (h.frame ∷ []));
  written = h.written;
  some = h.some;
  whole = h.whole;
}))

-- what a pump keeps, when some of what is pending is written
pub goes_keep : (o : Outlet) (n : ℕ) (b b' : BatchState) → IsPumping (pumping_of o b) → b.version ≡ o.version → LetsGo n b b' → IsPumping (pumping_of o b')
goes_keep o n b b' k same h = record {
  begun_frames = k.begun_frames ++ h.gone;
  popped = k.popped ∙ ap (λ (fs : List Frame). k.begun_frames ++ fs) h.waiting ∙ sym (append_assoc k.begun_frames h.gone b'.waiting);
  rest = rest_after o.version k.begun_frames h.gone b.begun h.written b'.begun k.rest
      (subst (λ (v : Version). b.begun ++ flat_map (encoding v) h.gone ≡ h.written ++ b'.begun) same h.text_is)
      (subst (λ (v : Version). (h.gone ≡ []) ⊎ HasBegun v h.gone b'.begun) same h.rest);
}

-- and at the start
pub new_keeps : (o : Outlet) (b : BatchState) → o ≡ new_outlet o.queue o.version → b ≡ new_batch o.version → IsPumping (pumping_of o b)
new_keeps o b none new = record {
  begun_frames = [];
  popped = ap (λ (x : Outlet). x.popped) none ∙ sym (ap (λ (x : BatchState). x.waiting) new);
  rest = inr (inr (record { none = refl; written = []; whole = sym (ap (λ (x : BatchState). x.begun) new) }));
}

-- all of it
goes_all : (b b' : BatchState) → b'.version ≡ b.version → b'.begun ≡ [] → b'.waiting ≡ [] → LetsGo (length (text b.version b.begun b.waiting)) b b'
goes_all b b' version begun waiting = record {
  version = version;
  gone = b.waiting;
  written = text b.version b.begun b.waiting;
  count_is = refl;
  waiting = sym (append-nil b.waiting) ∙ ap (λ (fs : List Frame). b.waiting ++ fs) (sym waiting);
  text_is = sym (append-nil (text b.version b.begun b.waiting)) ∙ ap (λ (xs : List ℕ). text b.version b.begun b.waiting ++ xs) (sym begun);
  rest = subst (λ (xs : List ℕ). (b.waiting ≡ []) ⊎ HasBegun b.version b.waiting xs) (sym begun) (all_begun b.version b.waiting);
}

-- ---- the steps of a run

more_text : (version : Version) (begun : List ℕ) (fs gs : List Frame) → text version begun (fs ++ gs) ≡ text version begun fs ++ flat_map (encoding version) gs
more_text version begun fs gs = ap (λ (xs : List ℕ). begun ++ xs) (flat_map-append (encoding version) fs gs) ∙ sym (append_assoc begun (flat_map (encoding version) fs) (flat_map (encoding version) gs))

text_after : (n : ℕ) (b b' : BatchState) (h : LetsGo n b b') → text b.version b.begun b.waiting ≡ h.written ++ text b.version b'.begun b'.waiting
text_after n b b' h =
    ap (λ (fs : List Frame). b.begun ++ flat_map (encoding b.version) fs) h.waiting
    ∙ ap (λ (xs : List ℕ). b.begun ++ xs) (flat_map-append (encoding b.version) h.gone b'.waiting)
    ∙ sym (append_assoc b.begun (flat_map (encoding b.version) h.gone) (flat_map (encoding b.version) b'.waiting))
    ∙ ap (λ (xs : List ℕ). xs ++ flat_map (encoding b.version) b'.waiting) h.text_is
    ∙ append_assoc h.written b'.begun (flat_map (encoding b.version) b'.waiting)

-- a write of what was pending, of which the writer took so many bytes
pub writes_some : (a b : Option (List ℕ)) (n : ℕ) (x y : BatchState) (given : List ℕ) → given ≡ text x.version x.begun x.waiting → Appends a b (take n given) → LetsGo n x y → Writes a b x y
writes_some a b n x y given e grown h = record {
  count = n;
  goes = h;
  grown = subst (λ (xs : List ℕ). Appends a b xs) (ap (λ (xs : List ℕ). take n xs) (e ∙ text_after n x y h) ∙ take_at h.written (text x.version y.begun y.waiting) n (sym h.count_is)) grown;
}

pub writes_all : (a b : Option (List ℕ)) (n : ℕ) (x y : BatchState) (given : List ℕ) → given ≡ text x.version x.begun x.waiting → n ≡ length given → Appends a b (take n given) → y.version ≡ x.version → y.begun ≡ [] → y.waiting ≡ [] → Writes a b x y
writes_all a b n x y given e all grown version begun waiting =
    writes_some a b (length (text x.version x.begun x.waiting)) x y given e (subst (λ (k : ℕ). Appends a b (take k given)) (all ∙ ap length e) grown) (goes_all x y version begun waiting)

pub keeps_itself : (a : Option (List ℕ)) → Keeps a a
keeps_itself None = tt
keeps_itself (Some a) = refl

-- frames were popped, and the writer kept its bytes
popped_only : (a b : Option (List ℕ)) (p q : Pumping) → Keeps a b → Pops p q → Pumps a b p q
popped_only a b p q k h = record {
  taken = [];
  popped = h.popped;
  grown = keeps_appends a b k;
  drain = h.drain;
  text_is = ap (λ (fs : List Frame). text p.drain.version p.begun fs) (sym h.waiting) ∙ ap (λ (xs : List ℕ). text p.drain.version xs q.waiting) (sym h.begun);
}

-- the same, where the pump is known by another name
pub pumps_popped : (a b : Option (List ℕ)) (p p' q : Pumping) → p' ≡ p → Keeps a b → Pops p' q → Pumps a b p q
pumps_popped a b p p' q e k h = subst (λ (x : Pumping). Pumps a b x q) e (popped_only a b p' q k h)

-- nothing was popped or written
pub pumps_same : (a b : Option (List ℕ)) (p q : Pumping) → q ≡ p → Keeps a b → Pumps a b p q
pumps_same a b p q e k = subst (λ (x : Pumping). Pumps a b x q) e (popped_only a b q q k (record { popped = []; drain = outlet_same q.drain; begun = refl; waiting = sym (append-nil q.waiting) }))

pub pumps_nothing : (a : Option (List ℕ)) (p : Pumping) → Pumps a a p p
pumps_nothing a p = pumps_same a a p p refl (keeps_itself a)

pub pumps_then : (a b c : Option (List ℕ)) (p q r : Pumping) → Pumps a b p q → Pumps b c q r → Pumps a c p r
pumps_then a b c p q r s t = record {
  taken = s.taken ++ t.taken;
  popped = s.popped ++ t.popped;
  grown = appends_then a b c s.taken t.taken s.grown t.grown;
  drain = t.drain ∙ ap (λ (o : Outlet). record o { popped = o.popped ++ t.popped }) s.drain ∙ outlet_then p.drain s.popped t.popped;
  text_is =
      ap (λ (fs : List Frame). text p.drain.version p.begun fs) (sym (append_assoc p.waiting s.popped t.popped))
      ∙ more_text p.drain.version p.begun (p.waiting ++ s.popped) t.popped
      ∙ ap (λ (xs : List ℕ). xs ++ flat_map (encoding p.drain.version) t.popped) s.text_is
      ∙ append_assoc s.taken (text p.drain.version q.begun q.waiting) (flat_map (encoding p.drain.version) t.popped)
      ∙ ap (λ (xs : List ℕ). s.taken ++ xs)
      (sym (more_text p.drain.version q.begun q.waiting t.popped)
      ∙ subst (λ (v : Version). text v q.begun (q.waiting ++ t.popped) ≡ t.taken ++ text v r.begun r.waiting) (ap (λ (o : Outlet). o.version) s.drain) t.text_is)
      ∙ sym (append_assoc s.taken t.taken (text p.drain.version r.begun r.waiting));
}

-- frames were popped, and then the pump went on
pub pumps_on : (a b : Option (List ℕ)) (p q r : Pumping) → Pops p q → Pumps a b q r → Pumps a b p r
pumps_on a b p q r h s = pumps_then a a b p q r (popped_only a a p q (keeps_itself a) h) s
