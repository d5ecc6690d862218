-- The numbers of refusals and violations, what they say, and the number that a refusal carries: this
-- project's own.
use Rattle.std.specs.Prelude.{ℕ, Option, Some, None, List, [], ◌∷◌, codes}
use Rattle.lc_frame.specs.FrameFault.{sentence_in}
-- codes: begin refusals
use Rattle.lc_book.specs.declared.fault.Refusal.{Refusal}
use Rattle.lc_book.specs.declared.fault.Refusal.TheVariants.{EmptyBody, BodyTooLong, PastSendLimit, NoGuarantee, ZeroAmount, NotHeld, BoundTooLarge, LimitRaised, PastReceiveLimit, NoRoom, NothingToAsk, TotalReached, QueueFull, OutOfMemory, ChannelFinished, BufferTooSmall, WrongVersion}
-- codes: end
-- codes: begin violations
use Rattle.lc_book.specs.declared.fault.Violation.{Violation}
use Rattle.lc_book.specs.declared.fault.Violation.TheVariants.{NotGuaranteed, SentPastLimit, AbsolvedTooMuch, SendLimitRaised, IssuedPastLimit, TooManyGuarantees, ReceiveLimitRaised, TotalPassed, AfterFinish}

-- codes: end

-- codes: begin numbers and sentences
-- the number of a refusal, 1 to 17
abbrev pub refusal_number : Refusal → ℕ
refusal_number EmptyBody = 1
refusal_number BodyTooLong = 2
refusal_number (PastSendLimit left) = 3
refusal_number (NoGuarantee held) = 4
refusal_number ZeroAmount = 5
refusal_number (NotHeld held) = 6
refusal_number BoundTooLarge = 7
refusal_number (LimitRaised left) = 8
refusal_number (PastReceiveLimit left) = 9
refusal_number (NoRoom room) = 10
refusal_number (NothingToAsk outstanding) = 11
refusal_number TotalReached = 12
refusal_number QueueFull = 13
refusal_number OutOfMemory = 14
refusal_number ChannelFinished = 15
refusal_number (BufferTooSmall need) = 16
refusal_number WrongVersion = 17

-- the number of a violation, V1 to V9
abbrev pub violation_number : Violation → ℕ
violation_number NotGuaranteed = 1
violation_number SentPastLimit = 2
violation_number AbsolvedTooMuch = 3
violation_number SendLimitRaised = 4
violation_number IssuedPastLimit = 5
violation_number TooManyGuarantees = 6
violation_number ReceiveLimitRaised = 7
violation_number TotalPassed = 8
violation_number AfterFinish = 9

-- what the refusal with a number says
abbrev pub refusal_sentence : ℕ → Option (List ℕ)
refusal_sentence = sentence_in
    ((1, codes "the message is empty")
    ∷ (2, codes "the message is too long")
    ∷ (3, codes "the message is longer than the limit on sending leaves")
    ∷ (4, codes "the message is longer than the guarantees that are held")
    ∷ (5, codes "the amount is zero")
    ∷ (6, codes "more would be absolved than is held")
    ∷ (7, codes "the bound is above 2^62")
    ∷ (8, codes "the bound is above what an earlier limit leaves")
    ∷ (9, codes "more would be issued than the limit on receiving leaves")
    ∷ (10, codes "more would be issued than the receiving ring has room for")
    ∷ (11, codes "the target is not below the guarantees outstanding")
    ∷ (12, codes "the guarantees of one channel would pass 2^62")
    ∷ (13, codes "the outgoing queue is full")
    ∷ (14, codes "out of memory")
    ∷ (15, codes "the channel is finished")
    ∷ (16, codes "the buffer is too small")
    ∷ (17, codes "version 1 of the format cannot finish a channel")
    ∷ [])

-- what the violation with a number says
abbrev pub violation_sentence : ℕ → Option (List ℕ)
violation_sentence = sentence_in
    ((1, codes "a message longer than the guarantees outstanding")
    ∷ (2, codes "a message beyond the limit on sending")
    ∷ (3, codes "more guarantees absolved than are outstanding")
    ∷ (4, codes "a limit on sending that raises an earlier one")
    ∷ (5, codes "guarantees beyond the limit on receiving")
    ∷ (6, codes "more than 2^24 guarantees held")
    ∷ (7, codes "a limit on receiving that raises an earlier one")
    ∷ (8, codes "more than 2^62 guarantees on one channel")
    ∷ (9, codes "a frame of the client behind its Finish")
    ∷ [])

-- the number that a refusal carries, by its name
abbrev pub detail_of : Refusal → Option (List ℕ × ℕ)
detail_of (PastSendLimit left) = Some (codes "left", left)
detail_of (NoGuarantee held) = Some (codes "held", held)
detail_of (NotHeld held) = Some (codes "held", held)
detail_of (LimitRaised left) = Some (codes "left", left)
detail_of (PastReceiveLimit left) = Some (codes "left", left)
detail_of (NoRoom room) = Some (codes "room", room)
detail_of (NothingToAsk outstanding) = Some (codes "outstanding", outstanding)
detail_of (BufferTooSmall need) = Some (codes "need", need)
detail_of refusal = None

-- codes: end
