-- What sending ends put.
use Rattle.std.proofs.Common.{◌≡◌, ℕ, List, [], ◌∷◌, ◌++◌, map, Ok, sym, ap, subst, ◌∙◌, append-nil}
use Rattle.std.specs.List.{AllZip, AllByRecursion}
use Rattle.lc_frame.specs.declared.channel.Channel.{Channel}
use Rattle.lc_frame.specs.declared.frame.Frame.{Frame}
use Rattle.lc_frame.specs.declared.frame.Frame.TheVariants.{Send, Finish}
use Rattle.lc_frame.specs.Stream.{messages}
use Rattle.lc_frame.proofs.Measures.{messages-append, messages-one}
use Rattle.lc_queue.specs.Parts.{End}
use Rattle.lc_credit.specs.Sides.{Outgoing}
use Rattle.lc_outbox.specs.Outbox.{OutboxState, IsSameOutbox}
use Rattle.lc_outbox.specs.Calls.{IsSent, IsFinished}
use Rattle.lc_session.specs.Session.{new_outboxes}
use Rattle.lc_loopback.specs.declared.plan.Plan.{Plan}
use Rattle.lc_loopback.specs.declared.taken.Taken.{Taken}
use Rattle.lc_loopback.specs.Plan.{due_first, due}
use Rattle.lc_loopback.specs.Played.{PutsAll, Puts, EachGave, HasPut}

-- the messages of an end's channel that it put
abbrev pub put_by : OutboxState → List (List ℕ)
put_by o = messages o.channel o.lane.put

-- ---- one call

pub sent_one : (body : List ℕ) (old new : OutboxState) → IsSent body old new → messages old.channel new.lane.put ≡ put_by old ++ body ∷ []
sent_one body old new h =
    ap (λ (o : OutboxState). messages old.channel o.lane.put) h.after ∙ (messages-append old.channel old.lane.put (Send old.channel body ∷ []) ∙ ap (λ (ms : List (List ℕ)). put_by old ++ ms) (messages-one (Send old.channel body)))

pub finished_none : (old new : OutboxState) → IsFinished old new → messages old.channel new.lane.put ≡ put_by old
finished_none old new h =
    ap (λ (o : OutboxState). messages old.channel o.lane.put) h.after ∙ (messages-append old.channel old.lane.put (Finish old.channel ∷ []) ∙ (ap (λ (ms : List (List ℕ)). put_by old ++ ms) (messages-one (Finish old.channel)) ∙ append-nil (put_by old)))

-- the same, where nothing was put before that
pub first_sent : (body : List ℕ) (first old new : OutboxState) → old.lane ≡ first.lane → old.channel ≡ first.channel → IsSent body old new → messages first.channel new.lane.put ≡ put_by first ++ body ∷ []
first_sent body first old new lane channel h =
    subst (λ (c : Channel). messages c new.lane.put ≡ messages c old.lane.put ++ body ∷ []) channel (sent_one body old new h) ∙ ap (λ (l : End). messages first.channel l.put ++ body ∷ []) lane

pub first_finished : (first old new : OutboxState) → old.lane ≡ first.lane → old.channel ≡ first.channel → IsFinished old new → messages first.channel new.lane.put ≡ put_by first
first_finished first old new lane channel h =
    subst (λ (c : Channel). messages c new.lane.put ≡ messages c old.lane.put) channel (finished_none old new h) ∙ ap (λ (l : End). messages first.channel l.put) lane

-- ---- so many, and all

pub record PutSome (p : Plan) (old new : OutboxState) (count : ℕ) : Type 0 where
  pub put_is : messages old.channel new.lane.put ≡ put_by old ++ due_first p old.channel count

pub put_all : (p : Plan) (old mid new : OutboxState) → PutSome p old mid p.messages → mid.channel ≡ old.channel → messages mid.channel new.lane.put ≡ put_by mid → PutsAll p old new
put_all p old mid new h same more = record {
  put_is = subst (λ (d : Channel). messages d new.lane.put ≡ messages d mid.lane.put) same more ∙ h.put_is;
}

-- ---- of all ends

-- a new end has put nothing
pub new_put_none : (cs : List Channel) (lanes : List End) (credits : List Outgoing) → AllByRecursion (λ (l : End). l.put ≡ []) lanes → AllByRecursion (λ (o : OutboxState). o.lane.put ≡ []) (new_outboxes cs lanes credits)
new_put_none [] lanes credits none = tt
new_put_none (c ∷ cs) [] credits none = tt
new_put_none (c ∷ cs) (l ∷ lanes) [] none = tt
new_put_none (c ∷ cs) (l ∷ lanes) (credit ∷ credits) none = (none.0, new_put_none cs lanes credits none.1)

one_put : (p : Plan) (w v : OutboxState) (n : Taken) → w.lane.put ≡ [] → IsSameOutbox w v → Puts p w n v → HasPut p v
one_put p w v n none same h =
    let all : messages w.channel v.lane.put ≡ due p w.channel = h.put_is ∙ ap (λ (fs : List Frame). messages w.channel fs ++ due p w.channel) none in
    subst (λ (c : Channel). messages c v.lane.put ≡ due p c) (sym same.channel) all

pub each_put : (p : Plan) (olds : List OutboxState) (all : List Taken) (news : List OutboxState) → AllByRecursion (λ (o : OutboxState). o.lane.put ≡ []) olds → AllZip IsSameOutbox olds news → EachGave (Puts p) olds (map Ok all) news → AllByRecursion (HasPut p) news
each_put p [] [] [] none same gave = tt
each_put p [] [] (v ∷ news) none same gave = absurd gave
each_put p [] (n ∷ all) news none same gave = absurd gave
each_put p (w ∷ olds) [] news none same gave = absurd gave
each_put p (w ∷ olds) (n ∷ all) [] none same gave = absurd gave
each_put p (w ∷ olds) (n ∷ all) (v ∷ news) none same gave = (one_put p w v n none.0 same.0 gave.0, each_put p olds all news none.1 same.1 gave.1)
