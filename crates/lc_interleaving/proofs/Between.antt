-- Sides whose ends kept the rules, in one order, are a state of two peers; and what that state keeps.
use Rattle.std.proofs.Common.{◌≡◌, ℕ, ◌+◌, None, List, [], ◌++◌, length, drop, refl, sym, ap, subst, ◌∙◌, arith}
use Rattle.std.specs.Prelude.{◌-◌, if◌then◌else◌, sum_by}
use Rattle.std.proofs.lemmas.List.{drop_at, take_all}
use Rattle.lc_frame.specs.declared.version.Version.{Version}
use Rattle.lc_frame.specs.declared.channel.Channel.{Channel}
use Rattle.lc_frame.specs.declared.frame.Frame.{Frame}
use Rattle.lc_frame.specs.Stream.{messages, cost, issued, absolved, finished}
use Rattle.lc_frame.specs.Bounds.{IsCapacity}
use Rattle.lc_book.specs.Client.{Client, held, waived}
use Rattle.lc_book.specs.Server.{Server, outstanding}
use Rattle.lc_book.specs.Sums.{client_of, server_of}
use Rattle.lc_inbox.specs.History as inboxes
use Rattle.lc_world.specs.declared.event.Side.TheVariants.{A, B}
use Rattle.lc_world.specs.State.{State, Line, opening, stream, kept_plead, taken_messages, client_book, server_book}
use Rattle.lc_world.specs.Histories.{History, IsHistory}
use Rattle.lc_world.specs.Guarantee.{state_of, IsPrefix, IsBalanced}
use Rattle.lc_world.proofs.Balances.{left_or_waived}
use Rattle.lc_world.proofs.Guarantees.{keeps_guarantees}
use Rattle.lc_interleaving.specs.Steps.{Step, took}
use Rattle.lc_interleaving.specs.Interleaving.{Trace, Joint, of_a, of_b, IsOrderOf, IsInterleaving}
use Rattle.lc_interleaving.specs.History.{history_of}
use Rattle.lc_interleaving.specs.State.{versions_of, IsLineBetween, IsStateOfBoth}
use Rattle.lc_interleaving.specs.Promises.{under_way, in_flight}
use Rattle.lc_interleaving.proofs.Lines.{IsLineOf, GoesOn, MayStepAll, taken_off, whole}
use Rattle.lc_interleaving.proofs.Sides.{KeepsRules, entries_took, took_lasting, may_step_all}

-- what a side took is what its inboxes handed out
pub took_is : (t : Trace) (steps : List Step) (c : Channel) → IsOrderOf t steps → took c steps ≡ inboxes.took (t.inbox c)
took_is t steps c o = sym (entries_took c steps) ∙ (ap inboxes.took (o.inboxes c) ∙ took_lasting (t.inbox c))

line_between : (l : Line) (writer reader : Trace) (w r : List Step) → IsOrderOf writer w → IsOrderOf reader r → IsLineOf writer.version l w r → IsLineBetween l writer reader
line_between l writer reader w r ow or s = record {
  version = s.is_version;
  put = s.put ∙ ow.put;
  heard = s.heard ∙ or.heard;
  took = λ c. taken_off l w r c s ∙ took_is reader r c or;
}

module _ (capacity : ℕ) (k : IsCapacity capacity) (a b : Trace) (ka : KeepsRules capacity a) (kb : KeepsRules capacity b) (order : List Joint) (i : IsInterleaving a b order) where
  pub may_all : MayStepAll capacity (versions_of a b) order
  may_all = record {
    a_may = may_step_all capacity a ka (of_a order) i.a_order;
    b_may = may_step_all capacity b kb (of_b order) i.b_order;
    causal = i.causal;
  }

  goes : GoesOn a.version b.version (opening capacity (versions_of a b)) [] [] order
  goes = whole capacity (versions_of a b) order k.at_most may_all

  pub state_of_both : IsStateOfBoth capacity a b (history_of order)
  state_of_both = let legal : IsHistory capacity (versions_of a b) (history_of order) = record { is_capacity = k; legal = goes.legal } in record {
    is_history = legal;
    a_line = line_between (state_of capacity (versions_of a b) (history_of order)).a a b (of_a order) (of_b order) i.a_order i.b_order goes.stands.a_line;
    b_line = line_between (state_of capacity (versions_of a b) (history_of order)).b b a (of_b order) (of_a order) i.b_order i.a_order goes.stands.b_line;
    guarantees = keeps_guarantees capacity (versions_of a b) (history_of order) legal;
  }

-- the books of a channel that a session ends with, by its trace
abbrev pub last_client : Channel → Trace → Client
last_client c t = client_of t.version c t.put t.heard None

abbrev pub last_server : ℕ → Channel → Trace → Server
last_server capacity c t = server_of capacity c t.put t.heard (sum_by length (inboxes.took (t.inbox c)))

-- what was received and neither spent nor absolved is held or waived
pub left_over : (b : Client) → held b + waived b ≡ b.received - b.spent - b.absolved
left_over b = left_or_waived b.finished (b.received - b.spent - b.absolved)

-- what the last state keeps of one channel direction
pub record Keeps (k : ℕ) (c : Channel) (client server : Trace) : Type 0 where
  pub in_order : IsPrefix (inboxes.took (server.inbox c)) (messages c client.put)
  pub somewhere : outstanding (last_server k c server) ≡ (if finished c server.heard then 0 else held (last_client c client) + waived (last_client c client) + in_flight c client server)

-- what is in flight on a line is what was put and not heard
in_flight_is : (l : Line) (from to : Trace) → stream l ≡ from.put → l.arrived ≡ to.heard → l.in_flight ≡ under_way from to
in_flight_is l from to es ea =
    sym (drop_at l.arrived l.in_flight (length l.arrived) refl)
    ∙ (ap (λ (n : ℕ). drop n (stream l)) (ap length ea)
    ∙ ap (λ (fs : List Frame). drop (length to.heard) fs) es)

module _ (k n : ℕ) (c : Channel) (mine theirs : Line) (client server : Trace) (m : IsLineBetween mine client server) (t : IsLineBetween theirs server client) where
  abbrev client_now : Client
  client_now = client_book c mine theirs

  client_is : client_now ≡ client_of client.version c client.put client.heard (kept_plead c theirs)
  client_is =
      ap (λ (v : Version). client_of v c (stream mine) theirs.arrived (kept_plead c theirs)) m.version
      ∙ (ap (λ (fs : List Frame). client_of client.version c fs theirs.arrived (kept_plead c theirs)) m.put
      ∙ ap (λ (fs : List Frame). client_of client.version c client.put fs (kept_plead c theirs)) t.heard)

  server_is : server_book n c theirs mine ≡ last_server n c server
  server_is =
      ap (λ (fs : List Frame). server_of n c fs mine.arrived (sum_by length (taken_messages c mine))) t.put
      ∙ (ap (λ (fs : List Frame). server_of n c server.put fs (sum_by length (taken_messages c mine))) m.heard
      ∙ ap (λ (ms : List (List ℕ)). server_of n c server.put server.heard (sum_by length ms)) (m.took c))

  -- what is promised
  abbrev here : ℕ
  here = held client_now + waived client_now + issued c theirs.in_flight + cost c mine.in_flight + absolved c mine.in_flight

  abbrev there : ℕ
  there = held (last_client c client) + waived (last_client c client) + in_flight c client server

  here_is : here ≡ there
  here_is = omega (
    arith,
    ap held client_is,
    ap waived client_is,
    ap (issued c) (in_flight_is theirs server client t.put t.heard),
    ap (cost c) (in_flight_is mine client server m.put m.heard),
    ap (absolved c) (in_flight_is mine client server m.put m.heard),
  )

  between : (sent got : List (List ℕ)) → IsPrefix got sent → got ≡ taken_messages c mine → sent ≡ messages c (stream mine) → outstanding (server_book n c theirs mine) ≡ (if finished c mine.arrived then 0 else here) → Keeps k c client server
  between sent got p eg es o = record {
    in_order = (p.0, ap (λ (ms : List (List ℕ)). ms ++ p.0) (sym (eg ∙ m.took c)) ∙ (p.1 ∙ (es ∙ ap (messages c) m.put)));
    somewhere =
        ap outstanding (sym server_is)
        ∙ (o
        ∙ (ap (λ (fs : List Frame). if finished c fs then 0 else here) m.heard
        ∙ ap (λ (left : ℕ). if finished c server.heard then 0 else left) here_is));
  }

pub last_keeps : (capacity : ℕ) (a b : Trace) (h : History) (c : Channel) → IsStateOfBoth capacity a b h → Keeps capacity c a b × Keeps capacity c b a
last_keeps k a b h c s =
    let v = versions_of a b in
    let w : State = state_of k v h in
    let g = s.guarantees in
    let x : IsBalanced k w = subst (λ (past : History). IsBalanced k (state_of k v past)) (take_all (length h) h (omega arith)) (g.balanced (length h)) in (
      between k w.capacity c w.a w.b a b s.a_line s.b_line _ _ (g.in_order A c) (g.taken_is A c) (g.accepted_is A c) (x.in_flight A c),
      between k w.capacity c w.b w.a b a s.b_line s.a_line _ _ (g.in_order B c) (g.taken_is B c) (g.accepted_is B c) (x.in_flight B c),
    )
