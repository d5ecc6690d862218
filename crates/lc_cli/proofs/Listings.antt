-- A listing of a stream, piece by piece.
use Rattle.std.proofs.Common.{◌≡◌, ℕ, List, [], ◌∷◌, ◌++◌, Option, Some, None, IfSome, sym, ap, subst, ◌∙◌, append-nil}
use Rattle.std.specs.List.{flat_map, AllByRecursion}
use Rattle.std.specs.Io.KnownBytes.{Appends, Consumes, IsAtEnd, Keeps}
use Rattle.std.proofs.KnownBytes.{Appends-nil, Appends-trans, Appends-kept}
use Rattle.std.proofs.lemmas.List.Concat.{flat_map-append, flat_map-cons}
use Rattle.lc_frame.specs.declared.version.Version.{Version}
use Rattle.lc_frame.specs.declared.frame.Frame.{Frame}
use Rattle.lc_frame.specs.Stored.{Stored, opened, nothing_stored, fed, before, IsValidIn, encoding_in, HasFrame, IsSettled}
use Rattle.lc_frame.proofs.Stored.{fed_fed, fed_nothing, each_fed, before_fed, before_append, whole_has}
use Rattle.lc_cli.specs.Lines.{frame_line}
use Rattle.lc_cli.specs.Listed.{IsStream, Lists, ListsOn}

pub each_append : {X : Type 0} (P : X → Type 0) (xs ys : List X) → AllByRecursion P xs → AllByRecursion P ys → AllByRecursion P (xs ++ ys)
each_append P [] ys h k = k
each_append P (x ∷ xs) ys h k = (h.0, each_append P xs ys h.1 k)

-- nothing came
pub lists_nothing : (h : Stored) (a : Option (List ℕ)) → IsSettled h → ListsOn h [] h a a
lists_nothing h a settled = record { frames = []; each = tt; whole = fed_nothing h settled; printed = Appends-nil a }

-- one piece, and then another
pub lists_more : (h h' h'' : Stored) (first later : List ℕ) (a b c : Option (List ℕ)) → ListsOn h first h' a b → ListsOn h' later h'' b c → ListsOn h (first ++ later) h'' a c
lists_more h h' h'' first later a b c p q =
    let version : (fed h' later).version ≡ h''.version = ap (λ (s : Stored). s.version) q.whole in
    record {
      frames = p.frames ++ q.frames;
      each = each_append (IsValidIn h''.version) p.frames q.frames (subst (λ (v : Option Version). AllByRecursion (IsValidIn v) p.frames) version (each_fed p.frames h' later p.each)) q.each;
      whole = sym (fed_fed h first later) ∙ ap (λ (s : Stored). fed s later) p.whole ∙ before_fed p.frames h' later p.each ∙ ap (before p.frames) q.whole ∙ sym (before_append p.frames q.frames h'');
      printed = subst (Appends a c) (sym (flat_map-append frame_line p.frames q.frames)) (Appends-trans a b c (flat_map frame_line p.frames) (flat_map frame_line q.frames) p.printed q.printed);
    }

-- what was printed is kept
pub lists_kept : (h h' : Stored) (bytes : List ℕ) (a b c : Option (List ℕ)) → ListsOn h bytes h' a b → Keeps b c → ListsOn h bytes h' a c
lists_kept h h' bytes a b c p k = record { frames = p.frames; each = p.each; whole = p.whole; printed = Appends-kept a b c (flat_map frame_line p.frames) p.printed k }

-- a frame became whole, its line was printed, and it was cleared
pub lists_frame : (h mid middle after : Stored) (taken : List ℕ) (f : Frame) (a b : Option (List ℕ)) → mid ≡ fed h taken → middle ≡ mid
    → IsValidIn mid.version f × (mid.bytes ≡ encoding_in mid.version f) → ((f : Frame) → HasFrame f middle → after ≡ record middle { bytes = [] })
    → Appends a b (frame_line f) → ListsOn h taken after a b
lists_frame h mid middle after taken f a b came same (valid, whole) clear printed =
    let stands : HasFrame f middle = subst (HasFrame f) (sym same) (whole_has f mid (valid, whole)) in
    let cleared : after ≡ record mid { bytes = [] } = clear f stands ∙ ap (λ (s : Stored). record s { bytes = [] }) same in
    let one : flat_map (encoding_in mid.version) (f ∷ []) ≡ encoding_in mid.version f = flat_map-cons (encoding_in mid.version) f [] ∙ append-nil (encoding_in mid.version f) in
    let bytes : mid.bytes ≡ flat_map (encoding_in mid.version) (f ∷ []) ++ [] = whole ∙ sym one ∙ sym (append-nil (flat_map (encoding_in mid.version) (f ∷ []))) in
    let line : flat_map frame_line (f ∷ []) ≡ frame_line f = flat_map-cons frame_line f [] ∙ append-nil (frame_line f) in
    record {
      frames = f ∷ [];
      each = subst (λ (s : Stored). AllByRecursion (IsValidIn s.version) (f ∷ [])) (sym cleared) (valid, tt);
      whole = sym came ∙ ap (λ (x : List ℕ). record { version = mid.version; bytes = x }) bytes ∙ ap (before (f ∷ [])) (sym cleared);
      printed = subst (Appends a b) (sym line) printed;
    }

-- no frame became whole
pub lists_part : (h mid middle after : Stored) (taken : List ℕ) (a : Option (List ℕ)) → mid ≡ fed h taken → middle ≡ mid
    → ((f : Frame) → ¬ HasFrame f mid) → (((f : Frame) → ¬ HasFrame f middle) → after ≡ middle) → ListsOn h taken after a a
lists_part h mid middle after taken a came same none clear =
    let kept : after ≡ mid = clear (subst (λ (s : Stored). (f : Frame) → ¬ HasFrame f s) (sym same) none) ∙ same in
    record { frames = []; each = tt; whole = sym came ∙ sym kept; printed = Appends-nil a }

-- all that was to be read came
pub all_came : (a b : Option (List ℕ)) (bytes : List ℕ) (P : List ℕ → Type 0) → Consumes a b bytes → IsAtEnd b → P bytes → IfSome a P
all_came None b bytes P p q h = tt
all_came (Some x) None bytes P p q h = absurd p
all_came (Some x) (Some y) bytes P p q h = subst P (sym (p ∙ ap (λ (l : List ℕ). bytes ++ l) q ∙ append-nil bytes)) h

-- a stream from its start, behind which nothing is held
pub listed : (h h' : Stored) (bytes : List ℕ) (a b : Option (List ℕ)) → h ≡ nothing_stored → ListsOn h bytes h' a b → h'.bytes ≡ [] → Lists bytes a b
listed h h' bytes a b start p empty =
    let whole : opened bytes ≡ before p.frames h' = ap (λ (s : Stored). fed s bytes) (sym start) ∙ p.whole in
    let version : (opened bytes).version ≡ h'.version = ap (λ (s : Stored). s.version) whole in
    record {
      frames = p.frames;
      are = record {
        each = subst (λ (v : Option Version). AllByRecursion (IsValidIn v) p.frames) (sym version) p.each;
        whole = ap (λ (s : Stored). s.bytes) whole ∙ ap (λ (x : List ℕ). flat_map (encoding_in h'.version) p.frames ++ x) empty ∙ append-nil (flat_map (encoding_in h'.version) p.frames) ∙ ap (λ (v : Option Version). flat_map (encoding_in v) p.frames) (sym version);
      };
      printed = p.printed;
    }

-- the bytes that a listing came through are a stream
pub streamed : (known : Option (List ℕ)) (a b : Option (List ℕ)) → IfSome known (λ bytes. Lists bytes a b) → IfSome known IsStream
streamed None a b p = tt
streamed (Some bytes) a b p = (p.frames, p.are)
