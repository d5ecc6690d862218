-- What a call does to a side, from what it did to the inbox.
use Rattle.std.proofs.Common.{◌≡◌, ℕ, ◌+◌, ◌<◌, Bool, true, false, List, [], ◌∷◌, ◌++◌, length, take, Option, Some, None, refl, sym, ◌∙◌, ap, subst, append-nil, arith}
use Rattle.std.specs.Prelude.{IfSome}
use Rattle.lc_history.specs.History.{IsHistory, Knows, Learns, Makes}
use Rattle.lc_history.proofs.Histories.{history-push, known_same, learned_same, made_one}
use Rattle.lc_frame.specs.declared.frame.Frame.{Frame}
use Rattle.lc_frame.specs.declared.frame.Frame.TheVariants.{Send}
use Rattle.lc_frame.specs.declared.channel.Channel.{Channel}
use Rattle.lc_frame.specs.Channel.{number_of}
use Rattle.lc_frame.specs.Frame.{lane_of}
use Rattle.lc_book.specs.declared.fault.Violation.{Violation}
use Rattle.lc_ring.specs.Ring.{front, with_front}
use Rattle.lc_peer.specs.Inbox.{take_answer, take_first}
use Rattle.lc_peer.specs.declared.inbox.Take.{Take}
use Rattle.lc_peer.specs.declared.inbox.Take.TheVariants.{Took as TookMessage, Empty as NoneWaits, Ended as NoneComes}
use Rattle.lc_queue.specs.Parts.{End}
use Rattle.lc_book.specs.Server.{Server, message_violation}
use Rattle.lc_inbox.specs.declared.history.Entry.{Entry}
use Rattle.lc_inbox.specs.declared.history.Entry.TheVariants.{Heard, Refused, Put, Took}
use Rattle.lc_inbox.specs.declared.rule.Key.{Key}
use Rattle.lc_inbox.specs.Ends.{Held, violation_of, refusal_of, IsPut}
use Rattle.lc_inbox.specs.History.{heard_of, put_of, took_of, heard, put, took, book_after, inbox_after, held_after, MayFollow, IsLeftBy, Loan, is_of, is_reading, is_receiving}
use Rattle.lc_inbox.specs.declared.lent.Lent.{Lent}
use Rattle.lc_inbox.specs.declared.lent.Lent.TheVariants.{Read, Empty, Ended}
use Rattle.lc_inbox.specs.Lends.{Reader, first_taken, taken_entry, IsLent, IsLentBy}
use Rattle.lc_inbox.specs.Sides.{Half, HasTaken, InboxSide, side_of, IsHeard, IsViolated, HasLooked, IsPutBy, IsTaken, IsTakeAnswer, IsFinished}
use Rattle.lc_inbox.specs.Loans.{loan_with}
use Rattle.lc_inbox.proofs.Histories.{in_order, left_took}
use Rattle.lc_inbox.proofs.Takes.{IsNone, nothing_taken, unlent_left, took_front, length_front, filled_is, none_filled}

-- whose entries carry what
heard_by : (e : Entry) → is_reading e ≡ false → heard_of e ≡ None
heard_by (Heard f) not = absurd (cc)
heard_by (Refused f) not = refl
heard_by (Put f) not = refl
heard_by (Took body) not = refl

put_by : (e : Entry) → is_receiving e ≡ false → put_of e ≡ None
put_by (Heard f) not = refl
put_by (Refused f) not = refl
put_by (Put f) not = absurd (cc)
put_by (Took body) not = refl

took_by : (e : Entry) → is_receiving e ≡ false → took_of e ≡ None
took_by (Heard f) not = refl
took_by (Refused f) not = refl
took_by (Put f) not = refl
took_by (Took body) not = absurd (cc)

-- a half took the inbox, worked on it in its place, and gave it back with entries more
pub gave : (old took new : Half) (t : HasTaken old took) (w : Held) (more : List Entry) → IfSome (loan_with took.lent w) (λ loan. new ≡ record took { seen = loan.history ++ more; lent = None }) → new ≡ record old { seen = t.loan.history ++ more; turns = old.turns + 1; lent = None }
gave old took new t w more h = subst (λ (v : Half). IfSome (loan_with v.lent w) (λ loan. new ≡ record v { seen = loan.history ++ more; lent = None })) t.is h

-- the inbox in its place is the one that was taken
pub found : (old took : Half) (t : HasTaken old took) (r : Held) → IfSome took.lent (λ loan. r ≡ loan.held) → IsLeftBy old.key r t.loan.history
found old took t r value = subst (λ (h : Held). IsLeftBy old.key h t.loan.history) (sym (subst (λ (v : Half). IfSome v.lent (λ loan. r ≡ loan.held)) t.is value)) t.left

-- what was made of it may be given back
pub fits : (old took : Half) (t : HasTaken old took) (w : Held) (more : List Entry) → IsLeftBy old.key w (t.loan.history ++ more) → (x : Loan) × (loan_with took.lent w ≡ Some x) × IsLeftBy took.key x.held (x.history ++ more)
fits old took t w more left = (record { history = t.loan.history; held = w }, ap (λ (v : Half). loan_with v.lent w) t.is, subst (λ (v : Half). IsLeftBy v.key w (t.loan.history ++ more)) (sym t.is) left)

makes_one : (side : Bool) (old new : Half) (log : List Entry) (e : Entry) → old.side ≡ side → Knows (is_of old.side) old.seen log → IsHistory (MayFollow old.key) (log ++ e ∷ []) → new ≡ record old { seen = log ++ e ∷ []; turns = old.turns + 1; lent = None } → Makes (MayFollow old.key) (is_of side) old.seen e new.seen
makes_one side old new log e side_is knows legal is =
    record {
      before = log;
      knows = subst (λ (b : Bool). Knows (is_of b) old.seen log) side_is knows;
      last = ap (λ (h : Half). h.seen) is;
      legal = subst (IsHistory (MayFollow old.key)) (sym (ap (λ (h : Half). h.seen) is)) legal;
    }

-- a half took the inbox, and gave it back as it was
given_same : (old took new : Half) (t : HasTaken old took) (w : Held) → IfSome (loan_with took.lent w) (λ loan. new ≡ record took { seen = loan.history; lent = None }) → new ≡ record old { seen = t.loan.history; turns = old.turns + 1; lent = None }
given_same old took new t w gives = subst (λ (v : Half). IfSome (loan_with v.lent w) (λ loan. new ≡ record v { seen = loan.history; lent = None })) t.is gives

looked_up : (old new : Half) (log : List Entry) → old.side ≡ false → Knows (is_of old.side) old.seen log → IsHistory (MayFollow old.key) log → new ≡ record old { seen = log; turns = old.turns + 1; lent = None } → HasLooked (side_of old) (side_of new)
looked_up old new log side_is knows legal now =
    let learns : Learns (MayFollow old.key) is_receiving old.seen new.seen =
    record { knows = subst (λ (p : Bool × List Entry). Knows (is_of p.0) old.seen p.1) (λ i. (side_is i, (sym now i).seen)) knows; legal = subst (IsHistory (MayFollow old.key)) (λ i. (sym now i).seen) legal } in
    record {
      learns = learns;
      put = learned_same is_receiving put_of put_by (MayFollow old.key) old.seen new.seen learns;
      took = learned_same is_receiving took_of took_by (MayFollow old.key) old.seen new.seen learns;
    }

pub looked : (old took new : Half) (t : HasTaken old took) (w : Held) → old.side ≡ false → IfSome (loan_with took.lent w) (λ loan. new ≡ record took { seen = loan.history; lent = None }) → HasLooked (side_of old) (side_of new)
looked old took new t w side_is gives = looked_up old new t.loan.history side_is t.knows t.left.legal (given_same old took new t w gives)

-- what the inbox said when it was taken is said of the one that the history leaves
pub says : (X : Held → Type 0) (old took new : Half) (t : HasTaken old took) (w r : Held) → IfSome took.lent (λ loan. r ≡ loan.held) → IfSome (loan_with took.lent w) (λ loan. new ≡ record took { seen = loan.history; lent = None }) → X r → X (held_after old.key new.seen)
says X old took new t w r value gives x =
    let now = given_same old took new t w gives in
    subst X ((found old took t r value).is ∙ (λ i. held_after old.key (sym now i).seen)) x

pub may_hear : (key : Key) (log : List Entry) (held : Held) (f : Frame) → IsLeftBy key held log → lane_of f ≡ number_of key.channel → None ≡ violation_of f held.inbox.book → MayFollow key log (Heard f)
may_hear key log held f left on lawful = (on, ap (λ (h : Held). violation_of f h.inbox.book) (sym left.is) ∙ sym lawful)

pub may_refuse : (key : Key) (log : List Entry) (held : Held) (f : Frame) (v : Violation) → IsLeftBy key held log → lane_of f ≡ number_of key.channel → Some v ≡ violation_of f held.inbox.book → MayFollow key log (Refused f)
may_refuse key log held f v left on wrong = (on, (v, ap (λ (h : Held). violation_of f h.inbox.book) (sym left.is) ∙ sym wrong))

pub hears : (old new : Half) (log : List Entry) (f : Frame) → old.side ≡ true → Knows (is_of old.side) old.seen log → IsHistory (MayFollow old.key) log → MayFollow old.key log (Heard f) → new ≡ record old { seen = log ++ Heard f ∷ []; turns = old.turns + 1; lent = None } → IsHeard f (side_of old) (side_of new)
unfolding makes_one
hears old new log f side_is knows legal may is =
    let makes = makes_one true old new log (Heard f) side_is knows (history-push (MayFollow old.key) log (Heard f) may legal) is in
    record { makes = makes; lawful = may.1; heard = made_one is_reading heard_of heard_by (MayFollow old.key) old.seen (Heard f) new.seen makes }

pub refuses : (old new : Half) (log : List Entry) (f : Frame) (v : Violation) → old.side ≡ true → Knows (is_of old.side) old.seen log → IsHistory (MayFollow old.key) log → (may : MayFollow old.key log (Refused f)) → violation_of f (book_after old.key log) ≡ Some v → new ≡ record old { seen = log ++ Refused f ∷ []; turns = old.turns + 1; lent = None } → IsViolated v f (side_of old) (side_of new)
unfolding makes_one
refuses old new log f v side_is knows legal may wrong is =
    let makes = makes_one true old new log (Refused f) side_is knows (history-push (MayFollow old.key) log (Refused f) may legal) is in
    record { makes = makes; violation = wrong; heard = made_one is_reading heard_of heard_by (MayFollow old.key) old.seen (Refused f) new.seen makes ∙ append-nil (heard old.seen) }

pub may_put : (key : Key) (log : List Entry) (held new : Held) (f : Frame) → IsLeftBy key held log → lane_of f ≡ 7 + number_of key.channel → IsPut f held new → MayFollow key log (Put f)
may_put key log held new f left on p = (on, ap (λ (h : Held). refusal_of f h.inbox.book) (sym left.is) ∙ p.allowed)

pub puts : (old new : Half) (log : List Entry) (held after : Held) (f : Frame) → old.side ≡ false → Knows (is_of old.side) old.seen log → IsLeftBy old.key held log → lane_of f ≡ 7 + number_of old.key.channel → IsPut f held after → new ≡ record old { seen = log ++ Put f ∷ []; turns = old.turns + 1; lent = None } → IsPutBy f (side_of old) (side_of new)
puts old new log held after f side_is knows left on p is =
    let makes = makes_one false old new log (Put f) side_is knows (history-push (MayFollow old.key) log (Put f) (may_put old.key log held after f left on p) left.legal) is in
    record {
      makes = makes;
      put = made_one is_receiving put_of put_by (MayFollow old.key) old.seen (Put f) new.seen makes;
      took = made_one is_receiving took_of took_by (MayFollow old.key) old.seen (Put f) new.seen makes ∙ append-nil (took old.seen);
    }

pub wrong_as : (key : Key) (log : List Entry) (held : Held) (f : Frame) (v : Violation) → IsLeftBy key held log → Some v ≡ violation_of f held.inbox.book → violation_of f (book_after key log) ≡ Some v
wrong_as key log held f v left wrong = ap (λ (h : Held). violation_of f h.inbox.book) (sym left.is) ∙ sym wrong

-- what is longer than the ring that an inbox was made of is longer than its book's
pub left_capacity : (key : Key) (log : List Entry) (held : Held) (len : ℕ) → IsLeftBy key held log → key.capacity < len → held.inbox.book.capacity < len
left_capacity key log held len left longer = omega (arith, longer, ap (λ (h : Held). h.inbox.book.capacity) left.is)

-- a message is judged by its length
pub wrong_length : (c : Channel) (body : List ℕ) (book : Server) (len : ℕ) (v : Violation) → length body ≡ len → message_violation book len ≡ Some v → Some v ≡ violation_of (Send c body) book
wrong_length c body book len v all wrong = sym (ap (message_violation book) all ∙ wrong)

takes_one : (old new : Half) (log : List Entry) (held : Held) (body : List ℕ) → old.side ≡ false → Knows (is_of old.side) old.seen log → IsLeftBy old.key held log → front held.inbox.ring ≡ Some body → new ≡ record old { seen = log ++ Took body ∷ []; turns = old.turns + 1; lent = None } → IsTaken body (side_of old) (side_of new)
unfolding makes_one
takes_one old new log held body side_is knows left first is =
    let waits : front (inbox_after old.key log).ring ≡ Some body = ap (λ (h : Held). front h.inbox.ring) (sym left.is) ∙ first in
    let makes = makes_one false old new log (Took body) side_is knows (history-push (MayFollow old.key) log (Took body) waits left.legal) is in
    record {
      makes = makes;
      first = waits;
      put = made_one is_receiving put_of put_by (MayFollow old.key) old.seen (Took body) new.seen makes ∙ append-nil (put old.seen);
      took = made_one is_receiving took_of took_by (MayFollow old.key) old.seen (Took body) new.seen makes;
    }

-- the first message is taken, where one waits
pub left_first : (key : Key) (log : List Entry) (old new : Held) → IsLeftBy key old log → new ≡ record old { inbox = take_first old.inbox } → IsLeftBy key new (log ++ first_taken old)
left_first key log old new left is = at (front old.inbox.ring) refl
  where
    at : (o : Option (List ℕ)) → front old.inbox.ring ≡ o → IsLeftBy key new (log ++ taken_entry (front old.inbox.ring))
    at (Some body) e = subst (λ (o : Option (List ℕ)). IsLeftBy key new (log ++ taken_entry o)) (sym e) (left_took key log body old new left (ap (λ (h : Held). front h.inbox.ring) (sym left.is) ∙ e) is)
    at None e =
        let same : new ≡ old = unlent_left old new e is in
        subst (λ (o : Option (List ℕ)). IsLeftBy key new (log ++ taken_entry o)) (sym e) (subst (λ (p : Held × List Entry). IsLeftBy key p.0 p.1) (λ i. (sym same i, sym (append-nil log) i)) left)

-- where none waits, nothing changed
nothing_took : (t : Take) (old new : Half) (log : List Entry) (held : Held) → IsNone t → t ≡ take_answer held.inbox → old.side ≡ false → Knows (is_of old.side) old.seen log → IsLeftBy old.key held log → new ≡ record old { seen = log ++ first_taken held; turns = old.turns + 1; lent = None }
    → HasLooked (side_of old) (side_of new) × (t ≡ take_answer (inbox_after old.key new.seen))
nothing_took t old new log held none is side_is knows left gives =
    let same : log ++ first_taken held ≡ log = ap (λ (es : List Entry). log ++ es) (nothing_taken held t none is) ∙ append-nil log in
    let now : new ≡ record old { seen = log; turns = old.turns + 1; lent = None } = gives ∙ ap (λ (es : List Entry). record old { seen = es; turns = old.turns + 1; lent = None }) same in (
      looked_up old new log side_is knows left.legal now,
      subst (λ (h : Held). t ≡ take_answer h.inbox) (left.is ∙ (λ i. held_after old.key (sym now i).seen)) is,
    )

-- the first message was taken
first_took : (body : List ℕ) (old new : Half) (log : List Entry) (held : Held) → front held.inbox.ring ≡ Some body → old.side ≡ false → Knows (is_of old.side) old.seen log → IsLeftBy old.key held log → new ≡ record old { seen = log ++ first_taken held; turns = old.turns + 1; lent = None } → IsTaken body (side_of old) (side_of new)
first_took body old new log held first side_is knows left gives =
    takes_one old new log held body side_is knows left first (gives ∙ ap (λ (o : Option (List ℕ)). record old { seen = log ++ taken_entry o; turns = old.turns + 1; lent = None }) first)

pub taken_by : (t : Take) (buffer filled : List ℕ) (old new : Half) (log : List Entry) (held : Held) → t ≡ take_answer held.inbox → filled ≡ with_front (front held.inbox.ring) buffer → old.side ≡ false → Knows (is_of old.side) old.seen log → IsLeftBy old.key held log → new ≡ record old { seen = log ++ first_taken held; turns = old.turns + 1; lent = None }
    → IsTakeAnswer t buffer filled (side_of old) (side_of new)
taken_by (TookMessage len) buffer filled old new log held is fills side_is knows left gives =
    let first = took_front held.inbox len buffer filled is fills in (
      take len filled,
      first_took (take len filled) old new log held first side_is knows left gives,
      length_front held.inbox len (take len filled) is first,
      filled_is held.inbox (take len filled) buffer filled first fills,
    )
taken_by NoneWaits buffer filled old new log held is fills side_is knows left gives = let n = nothing_took NoneWaits old new log held tt is side_is knows left gives in (n.0, n.1, none_filled held NoneWaits buffer filled tt is fills)
taken_by NoneComes buffer filled old new log held is fills side_is knows left gives = let n = nothing_took NoneComes old new log held tt is side_is knows left gives in (n.0, n.1, none_filled held NoneComes buffer filled tt is fills)

-- the same of a take that lends the message
pub lent_by : {F T : Type 0} (g : Reader F T) (read : F) (lent : Lent T) (old new : Half) (log : List Entry) (held : Held) → IsLent g read lent held.inbox → old.side ≡ false → Knows (is_of old.side) old.seen log → IsLeftBy old.key held log → new ≡ record old { seen = log ++ first_taken held; turns = old.turns + 1; lent = None }
    → IsLentBy g read lent (side_of old) (side_of new)
lent_by g read (Read made) old new log held l side_is knows left gives = (l.0, l.1, first_took (l.0 ++ l.1) old new log held l.2 side_is knows left gives, l.3)
lent_by g read Empty old new log held l side_is knows left gives = let n = nothing_took NoneWaits old new log held tt (sym l) side_is knows left gives in (n.0, sym n.1)
lent_by g read Ended old new log held l side_is knows left gives = let n = nothing_took NoneComes old new log held tt (sym l) side_is knows left gives in (n.0, sym n.1)

-- both sides have ended
pub finished : (incoming outgoing : InboxSide) (held : Held) (book : Server) (lane : End) (history : List Entry) → Knows (is_of true) incoming.seen history → Knows (is_of false) outgoing.seen history → IsLeftBy incoming.key held history → book ≡ held.inbox.book → lane ≡ held.lane → IsFinished incoming outgoing book lane
finished incoming outgoing held book lane history reads receives left book_is lane_is =
    record {
      history = history;
      legal = left.legal;
      reads = reads;
      receives = receives;
      book_is = book_is ∙ ap (λ (h : Held). h.inbox.book) left.is;
      lane_is = lane_is ∙ ap (λ (h : Held). h.lane) left.is;
      heard = known_same is_reading heard_of heard_by incoming.seen history reads;
      put = known_same is_receiving put_of put_by outgoing.seen history receives;
      took = known_same is_receiving took_of took_by outgoing.seen history receives;
      in_order = in_order incoming.key history left.legal;
    }
