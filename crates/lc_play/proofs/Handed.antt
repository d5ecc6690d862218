-- What was handed out, by the status.
use Rattle.std.proofs.Common.{◌≡◌, ℕ, ◌+◌, ◌<◌, ◌≤◌, List, [], ◌++◌, length, take, drop, Option, None, Some, Result, Ok, Err, IfErr, OnOk, MatchResult, append_assoc, refl, sym, subst, ap, ◌∙◌, arith, ◌⊎◌, inl, inr}
use Rattle.std.specs.Prelude.{IsErrAnd}
use Rattle.std.proofs.Math.Seq.{take-append_seam}
use Rattle.std.specs.Io.KnownBytes.{Appends}
use Rattle.lc_cli.specs.declared.fault.Status.{Status}
use Rattle.lc_cli.specs.declared.fault.Status.TheVariants.{Done, Failed, Bad, Unread}
use Rattle.lc_cli.specs.declared.fault.Fault.{Fault}
use Rattle.lc_cli.specs.declared.fault.Fault.TheVariants.{Usage, BadLine, CarriageReturn, BadFrame, InputTooLong, OutOfMemory, ReadFailed, WriteFailed, BrokenPipe, LoopbackFailed}
use Rattle.lc_cli.specs.Fault.{code_of, status_of}
use Rattle.lc_cli.specs.Replayed.{Replays}
use Rattle.lc_cli.specs.Listed.{Lists}
use Rattle.lc_frame.specs.declared.version.Version.{Version}
use Rattle.lc_play.specs.declared.played.LcmuxPlayed.{LcmuxPlayed}
use Rattle.lc_play.specs.Played.{of_memory, IsDone, shown_in, Fits, IsShort, Hands, StaysIfShort}

-- a fault's status is not that of a run that is done
not_done : (fault : Fault) → ¬ (code_of (status_of fault) ≡ 0)
not_done Usage e = omega (arith, e)
not_done (BadLine line) e = omega (arith, e)
not_done (CarriageReturn line) e = omega (arith, e)
not_done (BadFrame number offset culprit) e = omega (arith, e)
not_done InputTooLong e = omega (arith, e)
not_done OutOfMemory e = omega (arith, e)
not_done ReadFailed e = omega (arith, e)
not_done WriteFailed e = omega (arith, e)
not_done BrokenPipe e = omega (arith, e)
not_done LoopbackFailed e = omega (arith, e)

bad_code : (s : Status) → code_of s ≡ 2 → s ≡ Bad
bad_code Done e = absurd (omega (arith, e))
bad_code Failed e = absurd (omega (arith, e))
bad_code Bad e = refl
bad_code Unread e = absurd (omega (arith, e))

same_status : (fault : Fault) → status_of (of_memory fault) ≡ status_of fault
same_status Usage = refl
same_status (BadLine line) = refl
same_status (CarriageReturn line) = refl
same_status (BadFrame number offset culprit) = refl
same_status InputTooLong = refl
same_status OutOfMemory = refl
same_status ReadFailed = refl
same_status WriteFailed = refl
same_status BrokenPipe = refl
same_status LoopbackFailed = refl

-- what a run came to by its status
abbrev pub Tells : {V : Type 0} → Result V Fault → ℕ → Type 0
Tells done status = MatchResult done (λ v. status ≡ 0) (λ fault. status ≡ code_of (status_of (of_memory fault)))

pub told_done : {V : Type 0} (done : Result V Fault) (status : ℕ) → Tells done status → status ≡ 0 → IsDone done
told_done (Ok v) status tells zeroes = tt
told_done (Err fault) status tells zeroes = absurd (not_done (of_memory fault) (sym tells ∙ zeroes))

pub told_bad : {V : Type 0} (done : Result V Fault) (status : ℕ) → Tells done status → status ≡ 2 → IsErrAnd done (λ fault. status_of fault ≡ Bad)
told_bad (Ok v) status tells two = absurd (omega (arith, tells, two))
told_bad (Err fault) status tells two = sym (same_status fault) ∙ bad_code (status_of (of_memory fault)) (sym tells ∙ two)

-- a status that is not that of a short buffer is the one that was handed out, and the text is there
pub handed : (p : LcmuxPlayed) (status k : ℕ) (shown told old new : List ℕ) → Hands p status shown told old new → k < 3 → p.status ≡ k → (status ≡ k) × (shown_in p new ≡ shown)
handed p status k shown told old new h less is = text h.either
  where
    text : Fits p status shown told old new ⊎ IsShort p shown told old new → (status ≡ k) × (shown_in p new ≡ shown)
    text (inl f) = (sym f.is_status ∙ is, ap (λ (n : ℕ). take n new) h.shown_len ∙ ap (take (length shown)) (f.buffer ∙ append_assoc shown told _) ∙ take-append_seam shown _)
    text (inr s) = absurd (omega (arith, s.is_status, is, less))

pub handed_short : (p : LcmuxPlayed) (status : ℕ) (shown told old new : List ℕ) → Hands p status shown told old new → StaysIfShort p old new
handed_short p status shown told old new h less = text h.either
  where
    text : Fits p status shown told old new ⊎ IsShort p shown told old new → (p.status ≡ 3) × (new ≡ old)
    text (inl f) = absurd (omega (arith, f.room, h.shown_len, h.told_len, less))
    text (inr s) = (s.is_status, s.buffer)

-- what is so of a run that is done, and of what it wrote
pub of_done : {V : Type 0} (done : Result V Fault) (P : Type 0) → IsDone done → OnOk done P → P
of_done (Ok v) P is on = on
of_done (Err fault) P is on = absurd is

-- a run of bad input has written nothing
pub of_bad : {V T : Type 0} (done : Result V Fault) (old new : T) → IsErrAnd done (λ fault. status_of fault ≡ Bad) → IfErr done (λ fault. status_of fault ≡ Bad → new ≡ old) → new ≡ old
of_bad (Ok v) old new bad same = absurd bad
of_bad (Err fault) old new bad same = same bad

-- the same texts
pub replays_at : (capacity : ℕ) (version : Version) (script old old' new new' : List ℕ) → old ≡ old' → new ≡ new' → Replays capacity version script (Some old) (Some new) → Replays capacity version script (Some old') (Some new')
replays_at capacity version script old old' new new' first later r =
    subst (λ (l : List ℕ). Replays capacity version script (Some old') (Some l)) later (subst (λ (l : List ℕ). Replays capacity version script (Some l) (Some new)) first r)

pub lists_at : (bytes old old' new new' : List ℕ) → old ≡ old' → new ≡ new' → Lists bytes (Some old) (Some new) → Lists bytes (Some old') (Some new')
lists_at bytes old old' new new' first later r =
    subst (λ (l : List ℕ). Lists bytes (Some old') (Some l)) later (subst (λ (l : List ℕ). Lists bytes (Some l) (Some new)) first r)
