-- In one order of two sessions no frame is refused. That a client that sends within its guarantees never has a message dropped is LCMUX's promise; which violations there are is this project's own.
use Rattle.std.specs.Prelude.{◌≡◌, ℕ, List, ◌∷◌, ◌++◌, None}
use Rattle.lc_frame.specs.declared.version.Version.{Version}
use Rattle.lc_frame.specs.declared.channel.Channel.{Channel}
use Rattle.lc_frame.specs.declared.frame.Frame.{Frame}
use Rattle.lc_frame.specs.declared.frame.Frame.TheVariants.{Issue, LimitReceiving}
use Rattle.lc_frame.specs.Channel.{number_of}
use Rattle.lc_frame.specs.Frame.{channel_of}
use Rattle.lc_frame.specs.Stream.{of_lane, issued, receive_left}
use Rattle.lc_book.specs.declared.fault.Violation.{Violation}
use Rattle.lc_credit.specs.declared.history.Entry as credit
use Rattle.lc_credit.specs.Sides.{Incoming, IsIncoming, IsNotAdded, IsPastLimit}
use Rattle.lc_outbox.specs.Uses.{uses, amounts}
use Rattle.lc_peer.specs.Arrivals.{violation}
use Rattle.lc_inbox.specs.declared.history.Entry.{Entry}
use Rattle.lc_inbox.specs.declared.history.Entry.TheVariants.{Refused}
use Rattle.lc_interleaving.specs.Steps.{Step, put, heard, entries, without_refusals, client_then, server_then}
use Rattle.lc_interleaving.specs.Interleaving.{Trace, Joint, of_a, of_b, IsNext}

-- the next frame that the first side would hear breaks no rule, by the side's own books
abbrev pub NextIsLawful : ℕ → Version → List Step → List Step → Type 0
NextIsLawful capacity version here there = (f : Frame) → IsNext there here f → violation (client_then version (channel_of f) here) (server_then capacity (channel_of f) here) f ≡ None

-- at each moment of the order, at both sides
pub record IsLawfulAfter (capacity : ℕ) (a b : Trace) (earlier : List Joint) : Type 0 where
  pub at_a : NextIsLawful capacity a.version (of_a earlier) (of_b earlier)
  pub at_b : NextIsLawful capacity b.version (of_b earlier) (of_a earlier)

-- a frame that the inbox of a channel refused is not the next of the other side's stream at the moment of the refusal: the other side has not put it
abbrev pub RefusedIsNotNext : Trace → List Step → List Step → Type 0
RefusedIsNotNext t here there = (c : Channel) (before later : List Entry) (f : Frame) → t.inbox c ≡ before ++ Refused f ∷ later → entries c here ≡ without_refusals before → IsNext there here f → ⊥

-- the reading side of a credit, before and after a call at a moment: it had counted what had arrived by then, what it had seen is how the credit's history begins in the trace, and the uses that stand there pay, one by one, what the client had put by then
pub record IsCreditThen (t : Trace) (c : Channel) (here : List Step) (old new : Incoming) : Type 0 where
  pub is_incoming : IsIncoming old
  pub received_is : old.received ≡ issued c (heard here)
  pub left_is : old.left ≡ receive_left c (heard here)
  pub begins : (later : List credit.Entry) × (t.credit c ≡ new.seen ++ later)
  pub paid : (later : List ℕ) × (uses new.seen ≡ amounts (of_lane (number_of c) (put here)) ++ later)

-- a frame that the credit of a channel refused, once it had counted what had arrived, is not the next of the other side's stream either
pub record RefusedByCredit (t : Trace) (here there : List Step) : Type 0 where
  pub issue : (c : Channel) (n : ℕ) (v : Violation) (old new : Incoming) → IsNotAdded v n old new → IsCreditThen t c here old new → IsNext there here (Issue c n) → ⊥
  pub limit : (c : Channel) (bound : ℕ) (old new : Incoming) → IsPastLimit bound old new → old.left ≡ receive_left c (heard here) → IsNext there here (LimitReceiving c bound) → ⊥

-- both hold at both sides: what is refused is nothing that the other side had put
pub record AreBreaches (a b : Trace) (earlier : List Joint) : Type 0 where
  pub at_a : RefusedIsNotNext a (of_a earlier) (of_b earlier)
  pub at_b : RefusedIsNotNext b (of_b earlier) (of_a earlier)
  pub a_credits : RefusedByCredit a (of_a earlier) (of_b earlier)
  pub b_credits : RefusedByCredit b (of_b earlier) (of_a earlier)
