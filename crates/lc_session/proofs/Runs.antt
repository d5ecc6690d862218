-- What a reading pump reads and hears in one run and in several.
use Rattle.std.proofs.Common.{◌≡◌, ℕ, ◌<◌, List, [], ◌∷◌, ◌++◌, take, drop, Option, Some, None, refl, sym, ap, subst, ◌∙◌, append_assoc, append-nil, rules}
use Rattle.std.specs.Prelude.{All, IfSome}
use Rattle.std.proofs.lemmas.List.{take-append-drop}
use Rattle.std.proofs.lemmas.List.Elements.{All-append, All-tail}
use Rattle.std.proofs.Math.Seq.{take-length}
use Rattle.lc_frame.specs.Stored.{Stored, fed, before}
use Rattle.lc_frame.specs.declared.frame.Frame.{Frame}
use Rattle.lc_frame.specs.Splits.{frames_of, rest_of}
use Rattle.lc_frame.proofs.Fronts.{bytes_from}
use Rattle.lc_frame.proofs.Frames.{computed_split, joined_law}
use Rattle.lc_frame.proofs.Stored.{fed_fed, fed_fits, before_fed, each_fed}
use Rattle.lc_peer.specs.declared.delivery.Stop.{Stop}
use Rattle.lc_driver.specs.declared.reading.ReadEnd.{ReadEnd}
use Rattle.lc_driver.specs.declared.reading.ReadEnd.TheVariants.{Clean, Truncated, Fault, Violated, ReadFailed, TurnsSpent}
use Rattle.lc_peer.specs.Intake.{IntakeState}
use Rattle.lc_driver.specs.Reading.{ReadsInto, end_of}
use Rattle.lc_session.specs.Reading.{ReadingSide, Reading, Arrives, Violates, HasHeardAll}
use Rattle.lc_session.specs.Heard.{HearsOn, AllCame, ReadsNothing, HearsMore}
use Rattle.lc_session.proofs.Heard.{runs_heard}
use Rattle.lc_session.proofs.Same.{reading_itself, reading_then, run_same}

some_is_not_none : {A : Type 0} (a : A) → Some a ≡ None → ⊥
some_is_not_none a e = absurd (cc)

-- nothing more arrived
hears_none : (r : ReadingSide) → HearsOn r [] r
hears_none r arrived all = subst (λ (fs : List Frame). HasHeardAll r fs) (sym (append-nil arrived)) all

-- ---- one run

-- where the stream was not given up in it every frame came
all_came : (before after : Option (List ℕ)) (held : Stored) (old : ReadingSide) (intake : IntakeState) (new : ReadingSide) (max_reads : ℕ) (end : ReadEnd) (run : ReadsInto Arrives Violates before after held old intake new max_reads end)
    → intake.stop ≡ None → AllCame held run.read (take run.frames (frames_of (fed held run.read))) intake.held
all_came before after held old intake new max_reads Clean run none = record {
  bytes = run.bytes;
  frames_are = ap (λ (n : ℕ). take n (frames_of (fed held run.read))) run.came.next.0 ∙ take-length (frames_of (fed held run.read));
  rest = run.ends.0.all;
}
all_came before after held old intake new max_reads Truncated run none = record {
  bytes = run.bytes;
  frames_are = ap (λ (n : ℕ). take n (frames_of (fed held run.read))) run.came.next.0 ∙ take-length (frames_of (fed held run.read));
  rest = run.ends.0.all;
}
all_came before after held old intake new max_reads (Fault e) run none = absurd (some_is_not_none _ (sym run.kept ∙ none))
all_came before after held old intake new max_reads (Violated v) run none = absurd (some_is_not_none _ (sym run.kept ∙ none))
all_came before after held old intake new max_reads ReadFailed run none = record {
  bytes = run.bytes;
  frames_are = ap (λ (n : ℕ). take n (frames_of (fed held run.read))) run.came.next.0 ∙ take-length (frames_of (fed held run.read));
  rest = run.ends.all;
}
all_came before after held old intake new max_reads TurnsSpent run none = record {
  bytes = run.bytes;
  frames_are = ap (λ (n : ℕ). take n (frames_of (fed held run.read))) run.came.next.0 ∙ take-length (frames_of (fed held run.read));
  rest = run.ends.0.all;
}

abbrev reading : ReadingSide → IntakeState → Reading
reading side intake = record { side = side; intake = intake }

run_hears_at : {D : Type 0} (stop : Option Stop) (reader reader' : D) (before after : Option (List ℕ)) (old : ReadingSide) (was intake : IntakeState) (new : ReadingSide) (max_reads : ℕ) (end : ReadEnd)
    → was.stop ≡ stop → IfSome stop (λ s. (end ≡ end_of s) × (new ≡ old) × (reader' ≡ reader) × (intake ≡ was)) → (stop ≡ None → ReadsInto Arrives Violates before after was.held old intake new max_reads end) → HearsMore (reading old was) (reading new intake)
run_hears_at None reader reader' before after old was intake new max_reads end is given reads =
    let run = reads refl in
    let frames = frames_of (fed was.held run.read) in
    record {
      same = run_same None reader reader' before after was.held old was intake new max_reads end given reads;
      read = run.read;
      frames = take run.frames frames;
      hears = runs_heard before after was.held old intake new max_reads end run;
      first = (drop run.frames frames, sym (take-append-drop run.frames frames));
      all = all_came before after was.held old intake new max_reads end run;
      given_up = subst (λ (o : Option Stop). IfSome o (λ stop. ReadsNothing was intake run.read (take run.frames frames))) (sym is) tt;
    }
run_hears_at (Some s) reader reader' before after old was intake new max_reads end is given reads = record {
  same = run_same (Some s) reader reader' before after was.held old was intake new max_reads end given reads;
  read = [];
  frames = [];
  hears = subst (λ (r : ReadingSide). HearsOn old [] r) (sym given.1) (hears_none old);
  first = (frames_of (fed was.held []), refl);
  all = λ none. absurd (some_is_not_none s (sym is ∙ ap (λ (i : IntakeState). i.stop) (sym given.3) ∙ none));
  given_up = subst (λ (o : Option Stop). IfSome o (λ stop. ReadsNothing was intake [] [])) (sym is) (record { same = given.3; read_is = refl; frames_are = refl });
}

pub run_hears : {D : Type 0} (reader reader' : D) (before after : Option (List ℕ)) (old : ReadingSide) (was intake : IntakeState) (new : ReadingSide) (max_reads : ℕ) (end : ReadEnd)
    → IfSome was.stop (λ s. (end ≡ end_of s) × (new ≡ old) × (reader' ≡ reader) × (intake ≡ was)) → (was.stop ≡ None → ReadsInto Arrives Violates before after was.held old intake new max_reads end) → HearsMore (reading old was) (reading new intake)
run_hears reader reader' before after old was intake new max_reads end given reads = run_hears_at was.stop reader reader' before after old was intake new max_reads end refl given reads

-- ---- a pump that did not run yet

pub hears_nothing : (r : Reading) (rings : List ℕ) → r.intake ≡ record { held = record { version = None; bytes = [] }; kept = 0; stop = None; rings = rings } → HearsMore r r
hears_nothing r rings is = record {
  same = reading_itself r.side;
  read = [];
  frames = [];
  hears = hears_none r.side;
  first = (frames_of (fed r.intake.held []), refl);
  all = λ none. subst (λ (i : IntakeState). AllCame i.held [] [] i.held) (sym is) (record { bytes = (search rules); frames_are = refl; rest = refl });
  given_up = subst (λ (i : IntakeState). IfSome i.stop (λ stop. ReadsNothing i i [] [])) (sym is) tt;
}

-- ---- one run after another

-- what comes of more bytes, where the rest of those before was held
further_frames : (held now : Stored) (read more : List ℕ) (frames : List Frame) → AllCame held read frames now → (frames_of (fed held (read ++ more)) ≡ frames ++ frames_of (fed now more)) × (rest_of (fed held (read ++ more)) ≡ rest_of (fed now more))
further_frames held now read more frames came =
    let text = fed held read in
    let left = rest_of text in
    let split = computed_split text (fed_fits held read (bytes_from (held.bytes ++ read) came.bytes)) in
    let whole : text ≡ before (frames_of text) left = ap (λ (bytes : List ℕ). record { version = text.version; bytes = bytes }) split.whole in
    let parts : fed text more ≡ before (frames_of text) (fed left more) = ap (λ (x : Stored). fed x more) whole ∙ before_fed (frames_of text) left more split.each in
    let law = joined_law (frames_of text) (fed left more) (each_fed (frames_of text) left more split.each) in
    let joined : fed held (read ++ more) ≡ fed text more = sym (fed_fed held read more) in
    (ap frames_of (joined ∙ parts) ∙ law.0 ∙ (λ i. sym came.frames_are i ++ frames_of (fed (sym came.rest i) more)), ap rest_of (joined ∙ parts) ∙ law.1 ∙ ap (λ (x : Stored). rest_of (fed x more)) (sym came.rest))

all_behind : (P : ℕ → Type 0) (xs ys : List ℕ) → All P (xs ++ ys) → All P ys
all_behind P [] ys h = h
all_behind P (x ∷ xs) ys h = all_behind P xs ys (All-tail P x (xs ++ ys) h)

more_bytes : (held now read more : List ℕ) → All (λ b. b < 256) (held ++ read) → All (λ b. b < 256) (now ++ more) → All (λ b. b < 256) (held ++ (read ++ more))
more_bytes held now read more fits later = subst (λ (xs : List ℕ). All (λ b. b < 256) xs) (append_assoc held read more) (All-append (λ (b : ℕ). b < 256) (held ++ read) more fits (all_behind (λ (b : ℕ). b < 256) now more later))

module _ (a b c : Reading) (p : HearsMore a b) (q : HearsMore b c) where
  -- whether the stream was given up in between
  first_at : (stop : Option Stop) → b.intake.stop ≡ stop → (others : List Frame) × (frames_of (fed a.intake.held (p.read ++ q.read)) ≡ (p.frames ++ q.frames) ++ others)
  first_at None is =
      let further = further_frames a.intake.held b.intake.held p.read q.read p.frames (p.all is) in
      (q.first.0, further.0 ∙ ap (λ (fs : List Frame). p.frames ++ fs) q.first.1 ∙ sym (append_assoc p.frames q.frames q.first.0))
  first_at (Some s) is =
      let none = subst (λ (o : Option Stop). IfSome o (λ stop. ReadsNothing b.intake c.intake q.read q.frames)) is q.given_up in
      (p.first.0, ap (λ (xs : List ℕ). frames_of (fed a.intake.held xs)) (ap (λ (xs : List ℕ). p.read ++ xs) none.read_is ∙ append-nil p.read) ∙ p.first.1 ∙ (λ i. (sym (ap (λ (fs : List Frame). p.frames ++ fs) none.frames_are ∙ append-nil p.frames) i) ++ p.first.0))

  all_at : (stop : Option Stop) → b.intake.stop ≡ stop → c.intake.stop ≡ None → AllCame a.intake.held (p.read ++ q.read) (p.frames ++ q.frames) c.intake.held
  all_at None is none =
      let earlier = p.all is in
      let later = q.all none in
      let further = further_frames a.intake.held b.intake.held p.read q.read p.frames earlier in
      record {
        bytes = more_bytes a.intake.held.bytes b.intake.held.bytes p.read q.read earlier.bytes later.bytes;
        frames_are = ap (λ (fs : List Frame). p.frames ++ fs) later.frames_are ∙ sym further.0;
        rest = later.rest ∙ sym further.1;
      }
  all_at (Some s) is none =
      let up = subst (λ (o : Option Stop). IfSome o (λ stop. ReadsNothing b.intake c.intake q.read q.frames)) is q.given_up in
      absurd (some_is_not_none s (sym is ∙ ap (λ (i : IntakeState). i.stop) (sym up.same) ∙ none))

  given_up_at : (stop : Option Stop) → a.intake.stop ≡ stop → IfSome stop (λ s. ReadsNothing a.intake c.intake (p.read ++ q.read) (p.frames ++ q.frames))
  given_up_at None is = tt
  given_up_at (Some s) is =
      let earlier = subst (λ (o : Option Stop). IfSome o (λ stop. ReadsNothing a.intake b.intake p.read p.frames)) is p.given_up in
      let later = subst (λ (o : Option Stop). IfSome o (λ stop. ReadsNothing b.intake c.intake q.read q.frames)) (ap (λ (i : IntakeState). i.stop) earlier.same ∙ is) q.given_up in
      record { same = later.same ∙ earlier.same; read_is = (λ i. earlier.read_is i ++ later.read_is i); frames_are = (λ i. earlier.frames_are i ++ later.frames_are i) }

pub hears_then : (a b c : Reading) → HearsMore a b → HearsMore b c → HearsMore a c
hears_then a b c p q = record {
  same = reading_then a.side b.side c.side p.same q.same;
  read = p.read ++ q.read;
  frames = p.frames ++ q.frames;
  hears = λ arrived all. subst (λ (fs : List Frame). HasHeardAll c.side fs) (append_assoc arrived p.frames q.frames) (q.hears (arrived ++ p.frames) (p.hears arrived all));
  first = first_at a b c p q b.intake.stop refl;
  all = all_at a b c p q b.intake.stop refl;
  given_up = given_up_at a b c p q a.intake.stop refl;
}
