-- What a call comes to behind a handle: its code where there is no side or no channel, and nothing changes; else what it does at both.
use Rattle.std.proofs.Common.{◌≡◌, Option, Some, None, sym, subst}
use Rattle.lc_frame.specs.declared.channel.Channel.{Channel}
use Rattle.lc_c.specs.declared.answer.LcmuxAnswer.{LcmuxAnswer}
use Rattle.lc_c.specs.Answers.{only, done}
use Rattle.lc_c.specs.Reach.{Called, ComesTo, StaysBarred}

pub called_barred : {A : Type 0} (held : Option A) (channel : Option Channel) (left : Option A) (answer : LcmuxAnswer) (call : A → Channel → A → LcmuxAnswer → Type 0) → StaysBarred answer held channel left → Called held channel call left answer
called_barred None channel left answer call barred = (barred.same, sym (barred.answers (λ side c. only done)))
called_barred (Some side) None left answer call barred = (barred.same, sym (barred.answers (λ side c. only done)))
called_barred (Some side) (Some c) left answer call barred = absurd barred.barred

pub called : {A : Type 0} (held : Option A) (channel : Option Channel) (between left : Option A) (answer : LcmuxAnswer) (side same : A) (c : Channel) (new : A) (call : A → Channel → A → LcmuxAnswer → Type 0) → ComesTo side c held channel between → same ≡ side → left ≡ Some new → call same c new answer → Called held channel call left answer
called {A} held channel between left answer side same c new call comes is stands does =
    subst (λ (h : Option A). Called h channel call left answer) (sym comes.stands)
    (subst (λ (h : Option Channel). Called (Some side) h call left answer) (sym comes.numbered)
    (new, (stands, subst (λ (s : A). call s c new answer) is does)))
