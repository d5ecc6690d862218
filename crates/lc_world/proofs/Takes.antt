-- What a take leaves of two ends.
use Rattle.std.proofs.Common.{◌≡◌, ℕ, zero, suc, ◌+◌, ◌<◌, Bool, true, false, List, [], ◌∷◌, length, Option, Some, None, refl, sym, ap, ◌∙◌, subst, inl, inr, arith}
use Rattle.std.specs.Prelude.{slice_get, All, IsSome}
use Rattle.std.specs.Option.{option_map}
use Rattle.std.proofs.lemmas.List.{length-set}
use Rattle.lc_frame.specs.declared.channel.Channel.{Channel}
use Rattle.lc_frame.specs.Channel.{number_of}
use Rattle.lc_frame.proofs.Channels.{number_below}
use Rattle.lc_book.specs.declared.fault.Refusal.TheVariants.{OutOfMemory}
use Rattle.lc_book.specs.Server.{Server}
use Rattle.lc_peer.specs.declared.inbox.Take.{Take as Taken}
use Rattle.lc_peer.specs.declared.inbox.Take.TheVariants as takes
use Rattle.lc_peer.specs.Inbox as inboxes
use Rattle.lc_peer.specs.Peer.{PeerState, inbox, server}
use Rattle.lc_peer.specs.Calls as calls
use Rattle.lc_peer.specs.Streams.{IsPeerOf, then_takes}
use Rattle.lc_peer.proofs.StreamsKept.{calls_keep_streams}
use Rattle.lc_ring.specs.Ring.{front}
use Rattle.lc_world.specs.declared.endpoint.Endpoint.{Endpoint}
use Rattle.lc_world.specs.declared.event.Act.TheVariants.{Take}
use Rattle.lc_world.specs.declared.event.Answer.{Answer}
use Rattle.lc_world.specs.declared.event.Answer.TheVariants.{Took, Empty, Ended, Refused}
use Rattle.lc_world.specs.State.{Line, stream, taken_count, server_book, take_on}
use Rattle.lc_world.specs.Answers.{waiting, empty_or_ended, take_answer, MayWantMemory, IsAnswerOf, mine_after, theirs_after}
use Rattle.lc_world.specs.Endpoint.{line_of, capacity_of, streams_of, of_lines, IsPeerBetween, AreEnds, AreInStep, Acts}
use Rattle.lc_world.proofs.Steps.{sound_lines}
use Rattle.lc_world.proofs.Calls.{peer_same, at_set}
use Rattle.lc_world.proofs.Ends.{server_is}

-- the first of a list, where there is one
none_first : (ms : List (List ℕ)) → None ≡ slice_get ms 0 → ms ≡ []
none_first [] e = refl
none_first (m ∷ ms) e = absurd (let f = e in cc)

first_is : (ms : List (List ℕ)) (body : List ℕ) → Some body ≡ slice_get ms 0 → (rest : List (List ℕ)) × (ms ≡ body ∷ rest)
first_is [] body e = absurd (let f = e in cc)
first_is (m ∷ ms) body e = (ms, let f : Some body ≡ Some m = e in cc)

some_first : (ms : List (List ℕ)) → IsSome (slice_get ms 0) → (body : List ℕ) × (rest : List (List ℕ)) × (ms ≡ body ∷ rest)
some_first [] some = absurd (let none = some in cc)
some_first (m ∷ ms) some = (m, ms, refl)

-- a peer that answers that none waits
empty_is : (finished : Bool) (left : Option ℕ) → takes.Empty ≡ inboxes.none_waiting finished left → Empty ≡ empty_or_ended finished left
empty_is true left e = absurd (let f = e in cc)
empty_is false None e = refl
empty_is false (Some zero) e = absurd (let f = e in cc)
empty_is false (Some (suc n)) e = refl

ended_is : (finished : Bool) (left : Option ℕ) → takes.Ended ≡ inboxes.none_waiting finished left → Ended ≡ empty_or_ended finished left
ended_is true left e = refl
ended_is false None e = absurd (let f = e in cc)
ended_is false (Some zero) e = refl
ended_is false (Some (suc n)) e = absurd (let f = e in cc)

took_is_none : (finished : Bool) (left : Option ℕ) (n : ℕ) → takes.Took n ≡ inboxes.none_waiting finished left → ⊥
took_is_none true left n e = let f = e in cc
took_is_none false None n e = let f = e in cc
took_is_none false (Some zero) n e = let f = e in cc
took_is_none false (Some (suc m)) n e = let f = e in cc

left_alone : (k : ℕ) (mine theirs : Line) (c : Channel) (me peer : Endpoint) (finished : Bool) (left : Option ℕ) → AreEnds k mine theirs me peer → AreEnds k (mine_after mine theirs (Take c) (empty_or_ended finished left)) (theirs_after mine theirs (Take c) (empty_or_ended finished left)) me peer
left_alone k mine theirs c me peer true left h = h
left_alone k mine theirs c me peer false None h = h
left_alone k mine theirs c me peer false (Some zero) h = h
left_alone k mine theirs c me peer false (Some (suc n)) h = h

wants : (c : Channel) (book : Server) (ms : List (List ℕ)) (body : List ℕ) (rest : List (List ℕ)) → ms ≡ body ∷ rest → MayWantMemory (Take c) (take_answer book ms)
wants c book ms body rest e = subst (λ (xs : List (List ℕ)). MayWantMemory (Take c) (take_answer book xs)) (sym e) tt

module _ (k : ℕ) (mine theirs : Line) (me peer : Endpoint) (h : AreEnds k mine theirs me peer) (c : Channel) where
  waiting_is : (inbox me.peer c).ring.messages ≡ waiting c theirs
  waiting_is = (h.my_end.peer.sums.channels c).waiting

  -- the peer after a take
  took_sums : 0 < length (inbox me.peer c).ring.messages → IsPeerOf (streams_of k mine (take_on c theirs)) (calls.take_on me.peer c)
  took_sums some =
      peer_same (then_takes c (streams_of k mine theirs)) (stream mine) (streams_of k mine (take_on c theirs)).taken (streams_of k mine (take_on c theirs)).asked (calls.take_on me.peer c)
      refl (at_set theirs.taken 0 c (taken_count c theirs + 1) (omega (arith, h.their_line.taken_places, number_below c))) (λ d. refl)
      ((calls_keep_streams (streams_of k mine theirs) me.peer h.my_end.peer.sums).takes c some)

  took_ends : (new : Endpoint) (body : List ℕ) (rest : List (List ℕ)) → (inbox me.peer c).ring.messages ≡ body ∷ rest → new.peer ≡ calls.take_on me.peer c → new.stream.items ≡ me.stream.items → new.delivered ≡ me.delivered → new.decoder ≡ me.decoder → IsAnswerOf k mine theirs (Take c) (Took body) → AreEnds k mine (take_on c theirs) new peer
  took_ends new body rest first ep es ed ec right =
      record {
        small = h.small;
        my_end = record {
          peer = subst (λ (q : PeerState). IsPeerBetween k mine (take_on c theirs) q) (sym ep) (record {
            sums = took_sums (omega (arith, ap length first));
            one_slot = h.my_end.peer.one_slot;
            none_waits = h.my_end.peer.none_waits;
          });
          bytes = es ∙ h.my_end.bytes;
          are_bytes = subst (λ (x : List ℕ). All (λ b. b < 256) x) (sym (es)) h.my_end.are_bytes;
          count = ed ∙ h.my_end.count;
          held = ec ∙ h.my_end.held;
        };
        their_end = record {
          peer = record { sums = h.their_end.peer.sums; one_slot = h.their_end.peer.one_slot; none_waits = h.their_end.peer.none_waits };
          bytes = h.their_end.bytes;
          are_bytes = h.their_end.are_bytes;
          count = h.their_end.count;
          held = h.their_end.held;
        };
        my_line = h.my_line;
        their_line = record { valid = h.their_line.valid; order = record { begun = h.their_line.order.begun; part = h.their_line.order.part; first = h.their_line.order.first }; taken_places = length-set theirs.taken (number_of c) (taken_count c theirs + 1) ∙ h.their_line.taken_places; asked_places = h.their_line.asked_places };
        sound = sound_lines (of_lines k mine theirs) (Take c) (Took body) right h.sound;
      }

  -- the peer after a take where none waits
  none_ends : (new : Endpoint) → (inbox me.peer c).ring.messages ≡ [] → new.peer ≡ calls.take_on me.peer c → new.stream.items ≡ me.stream.items → new.delivered ≡ me.delivered → new.decoder ≡ me.decoder → AreEnds k mine theirs new peer
  none_ends new none ep es ed ec =
      record {
        small = h.small;
        my_end = record {
          peer = subst (λ (q : PeerState). IsPeerBetween k mine theirs q) (sym ep) (record {
            sums = (calls_keep_streams (streams_of k mine theirs) me.peer h.my_end.peer.sums).takes_none c none;
            one_slot = h.my_end.peer.one_slot;
            none_waits = h.my_end.peer.none_waits;
          });
          bytes = es ∙ h.my_end.bytes;
          are_bytes = subst (λ (x : List ℕ). All (λ b. b < 256) x) (sym (es)) h.my_end.are_bytes;
          count = ed ∙ h.my_end.count;
          held = ec ∙ h.my_end.held;
        };
        their_end = h.their_end;
        my_line = h.my_line;
        their_line = h.their_line;
        sound = h.sound;
      }

module _ (me peer : Endpoint) (h : AreInStep me peer) (c : Channel) where
  abbrev k : ℕ
  k = capacity_of me

  abbrev mine : Line
  mine = line_of me peer

  abbrev theirs : Line
  theirs = line_of peer me

  pub took_acts : (new : Endpoint) (body : List ℕ) → Some body ≡ front (inbox me.peer c).ring → new.peer ≡ calls.take_on me.peer c → new.stream.items ≡ me.stream.items → new.delivered ≡ me.delivered → new.decoder ≡ me.decoder → Acts me peer new peer (Take c) (Took body)
  took_acts new body e ep es ed ec =
      let first = first_is (inbox me.peer c).ring.messages body e in
      let right : IsAnswerOf k mine theirs (Take c) (Took body) = inl (sym (ap (take_answer (server_book k c mine theirs)) (sym (waiting_is k mine theirs me peer h.ends c) ∙ first.1))) in
      record { right = right; ends = took_ends k mine theirs me peer h.ends c new body first.0 first.1 ep es ed ec right }

  none_acts : (new : Endpoint) (answer : Answer) → None ≡ front (inbox me.peer c).ring → answer ≡ empty_or_ended (server me.peer c).finished (server me.peer c).send_left → new.peer ≡ calls.take_on me.peer c → new.stream.items ≡ me.stream.items → new.delivered ≡ me.delivered → new.decoder ≡ me.decoder → Acts me peer new peer (Take c) answer
  none_acts new answer e told ep es ed ec =
      let none = none_first (inbox me.peer c).ring.messages e in
      let book : Server = server_book k c mine theirs in
      let answer_is : answer ≡ empty_or_ended book.finished book.send_left = told ∙ ap (λ (b : Server). empty_or_ended b.finished b.send_left) (server_is k mine theirs me.peer h.ends.my_end.peer c) in
      record {
        right = inl (answer_is ∙ ap (take_answer book) (sym none ∙ waiting_is k mine theirs me peer h.ends c));
        ends = subst (λ (a : Answer). AreEnds k (mine_after mine theirs (Take c) a) (theirs_after mine theirs (Take c) a) new peer) (sym answer_is) (left_alone k mine theirs c new peer book.finished book.send_left (none_ends k mine theirs me peer h.ends c new none ep es ed ec));
      }

  -- what the peer answers where none waits
  told_none : (t : Taken) → None ≡ front (inbox me.peer c).ring → t ≡ inboxes.take_answer (inbox me.peer c) → t ≡ inboxes.none_waiting (server me.peer c).finished (server me.peer c).send_left
  told_none t e told = told ∙ ap (λ (o : Option (List ℕ)). inboxes.answer_by_length (server me.peer c) (option_map length o)) (sym e)

  pub empty_acts : (new : Endpoint) → None ≡ front (inbox me.peer c).ring → takes.Empty ≡ inboxes.take_answer (inbox me.peer c) → new.peer ≡ calls.take_on me.peer c → new.stream.items ≡ me.stream.items → new.delivered ≡ me.delivered → new.decoder ≡ me.decoder → Acts me peer new peer (Take c) Empty
  empty_acts new e told ep es ed ec = none_acts new Empty e (empty_is (server me.peer c).finished (server me.peer c).send_left (told_none takes.Empty e told)) ep es ed ec

  pub ended_acts : (new : Endpoint) → None ≡ front (inbox me.peer c).ring → takes.Ended ≡ inboxes.take_answer (inbox me.peer c) → new.peer ≡ calls.take_on me.peer c → new.stream.items ≡ me.stream.items → new.delivered ≡ me.delivered → new.decoder ≡ me.decoder → Acts me peer new peer (Take c) Ended
  ended_acts new e told ep es ed ec = none_acts new Ended e (ended_is (server me.peer c).finished (server me.peer c).send_left (told_none takes.Ended e told)) ep es ed ec

  pub none_took : (n : ℕ) → None ≡ front (inbox me.peer c).ring → takes.Took n ≡ inboxes.take_answer (inbox me.peer c) → ⊥
  none_took n e told = took_is_none (server me.peer c).finished (server me.peer c).send_left n (told_none (takes.Took n) e told)

  pub take_refused : IsSome (front (inbox me.peer c).ring) → Acts me peer me peer (Take c) (Refused OutOfMemory)
  take_refused some =
      let first = some_first (inbox me.peer c).ring.messages some in
      record {
        right = inr (wants c (server_book k c mine theirs) (waiting c theirs) first.0 first.1 (sym (waiting_is k mine theirs me peer h.ends c) ∙ first.2), refl);
        ends = h.ends;
      }
