-- A side whose ends kept the rules, each by its own history, kept them as a whole.
use Rattle.std.proofs.Common.{◌≡◌, ℕ, ◌+◌, ◌<◌, ◌≤◌, Bool, true, false, List, [], ◌∷◌, ◌++◌, length, drop, Option, Some, None, refl, sym, ap, subst, ◌∙◌, arith}
use Rattle.std.specs.Prelude.{◌==◌, ◌-◌, nat_lt, if◌then◌else◌, sum, sum_by, slice_index_or, slice_get, cond, option_to_list}
use Rattle.std.specs.List.{filter_map, cons_option}
use Rattle.std.proofs.lemmas.Bool.Decides.{nat_tests}
use Rattle.std.proofs.lemmas.List.{append-nil, append_assoc}
use Rattle.std.proofs.lemmas.List.Elements.{filter-append}
use Rattle.std.proofs.lemmas.List.Sums.{sum_by-cons}
use Rattle.lc_history.specs.History.{IsHistoryAfter, IsHistory}
use Rattle.lc_history.proofs.Histories.{follows_each}
use Rattle.lc_frame.specs.declared.channel.Channel.{Channel}
use Rattle.lc_frame.specs.declared.frame.Frame.{Frame}
use Rattle.lc_frame.specs.declared.frame.Frame.TheVariants.{Send, Issue, Absolve, Plead, LimitSending, LimitReceiving, Finish}
use Rattle.lc_frame.specs.Channel.{channel_count, number_of, is_same}
use Rattle.lc_frame.specs.Frame.{channel_of, lane_of}
use Rattle.lc_frame.specs.declared.version.Version.{Version}
use Rattle.lc_frame.specs.Kind.{max_total, max_body}
use Rattle.lc_frame.specs.Stream.{of_lane, messages, cost, absolved, send_left, finished}
use Rattle.lc_frame.proofs.Measures.{cost-append, absolved-append, cost-one, absolved-one}
use Rattle.lc_book.specs.declared.fault.Refusal.{Refusal}
use Rattle.lc_book.specs.declared.fault.Refusal.TheVariants.{EmptyBody, BodyTooLong, PastSendLimit, NoGuarantee, ZeroAmount, NotHeld, PastReceiveLimit, NoRoom, TotalReached, ChannelFinished, WrongVersion}
use Rattle.lc_book.specs.Limit.{is_past, left_of, limit_refusal}
use Rattle.lc_book.specs.Finish.{finished_refusal_or}
use Rattle.lc_book.specs.Client.{Client, held, message_refusal, spend_refusal, absolve_refusal}
use Rattle.lc_book.specs.Server.{Server, room, issue_refusal}
use Rattle.lc_book.specs.Sums.{server_of, SumsAreOfLanes}
use Rattle.lc_book.proofs.Lanes.{every_sum_is_of_its_lane}
use Rattle.lc_book.proofs.SumsKept.{server_is}
use Rattle.lc_credit.specs.declared.history.Entry as credit
use Rattle.lc_credit.specs.History as credits
use Rattle.lc_outbox.specs.Uses.{uses, amount_of, amounts}
use Rattle.lc_outbox.specs.Outbox.{MayPut}
use Rattle.lc_inbox.specs.declared.history.Entry.{Entry}
use Rattle.lc_inbox.specs.declared.history.Entry.TheVariants.{Heard, Refused, Put, Took}
use Rattle.lc_inbox.specs.declared.rule.Key.{Key}
use Rattle.lc_inbox.specs.Ends.{refusal_of, violation_of}
use Rattle.lc_inbox.specs.History as inboxes
use Rattle.lc_inbox.specs.History.{book_after, waiting, inbox_after}
use Rattle.lc_world.proofs.Sound.{none_waived}
use Rattle.lc_interleaving.specs.Steps.{Step, put_of, put, heard, took, entry_of, entries, changes, without_refusals, client_then, server_then}
use Rattle.lc_interleaving.specs.Steps.Step.{puts, hears, takes}
use Rattle.lc_interleaving.specs.Interleaving.{Trace, before_uses, IsFunded, IsInTime, IsOrderOf}
use Rattle.lc_interleaving.proofs.Cuts.{history_by_cuts, begins_after, cut_of}
use Rattle.lc_interleaving.proofs.Lines.{MayStep}
use Rattle.lc_interleaving.proofs.Paid.{paid_at}

-- a sending end: its credit's history is legal, its uses pay the frames of the lane, one by one, and then what was waived, if anything, and each of these frames might follow those before it
pub record KeepsSending (version : Version) (c : Channel) (history : List credit.Entry) (frames : List Frame) : Type 0 where
  pub legal : credits.IsHistory history
  pub waived : Option ℕ
  pub pays : uses history ≡ amounts frames ++ option_to_list waived
  pub rules : IsHistory (MayPut version c) frames

-- a receiving end: its inbox's history is legal, and its ring is no larger
pub record KeepsReceiving (capacity : ℕ) (c : Channel) (history : List Entry) : Type 0 where
  pub key : Key
  pub channel_is : key.channel ≡ c
  pub small : key.capacity ≤ capacity
  pub legal : IsHistory (inboxes.MayFollow key) history

-- each end of a session did
pub record KeepsRules (capacity : ℕ) (t : Trace) : Type 0 where
  pub sending : (c : Channel) → KeepsSending t.version c (t.credit c) (of_lane (number_of c) t.put)
  pub receiving : (c : Channel) → KeepsReceiving capacity c (t.inbox c)

-- an earlier reason for a refusal is the same, and the last does not hold where so much is held
next_passes : (b : Bool) (r : Refusal) (x y : Option Refusal) → (x ≡ None → y ≡ None) → (if b then Some r else x) ≡ None → (if b then Some r else y) ≡ None
next_passes true r x y h e = e
next_passes false r x y h e = h e

enough_passes : (held n : ℕ) (r : Refusal) → n ≤ held → (if nat_lt held n then Some r else None) ≡ None
enough_passes held n r le = grind (arith, nat_tests, le)

-- on a channel that is not finished the other reasons decide
open_passes : (finished : Bool) (x : Option Refusal) → finished ≡ false → x ≡ None → finished_refusal_or finished x ≡ None
open_passes finished x unfinished e = ap (λ (z : Bool). finished_refusal_or z x) unfinished ∙ e

-- and all that came is held but what was used
open_holds : (b : Client) → b.finished ≡ false → held b ≡ b.received - b.spent - b.absolved
open_holds b unfinished = omega (arith, none_waived b.finished (b.received - b.spent - b.absolved) unfinished)

message_passes : (b : Client) (n : ℕ) → b.finished ≡ false → message_refusal b.version b.send_left n ≡ None → n ≤ held b → spend_refusal b n ≡ None
message_passes b n unfinished e le =
    open_passes b.finished _ unfinished (next_passes (n == 0) EmptyBody _ _
    (next_passes (nat_lt (max_body b.version) n) BodyTooLong _ _
    (next_passes (is_past b.send_left n) (PastSendLimit (left_of b.send_left)) _ _
    (λ u. enough_passes (held b) n (NoGuarantee (held b)) le))) e)

some_amount : (n : ℕ) → 0 < n → (n == 0) ≡ false
some_amount n some = grind (arith, nat_tests, some)

absolve_passes : (b : Client) (n : ℕ) → b.finished ≡ false → 0 < n → n ≤ held b → absolve_refusal b n ≡ None
absolve_passes b n unfinished some le = open_passes b.finished _ unfinished (ap (λ (z : Bool). if z then Some ZeroAmount else (if nat_lt (held b) n then Some (NotHeld (held b)) else None)) (some_amount n some) ∙ enough_passes (held b) n (NotHeld (held b)) le)

-- a larger ring has no less room
room_passes : (small more n : ℕ) (r r' : Refusal) (x : Option Refusal) → small ≤ more → (if nat_lt small n then Some r else x) ≡ None → (if nat_lt more n then Some r' else x) ≡ None
room_passes small more n r r' x le e = grind (arith, nat_tests, le, e)

larger_issues : (small large : ℕ) (c : Channel) (steps : List Step) (n : ℕ) → small ≤ large → issue_refusal (server_then small c steps) n ≡ None → issue_refusal (server_then large c steps) n ≡ None
larger_issues small large c steps n le e =
    let b : Server = server_then small c steps in
    let d : Server = server_then large c steps in
    next_passes b.finished ChannelFinished _ _
    (next_passes (n == 0) ZeroAmount _ _
    (next_passes (is_past b.receive_left n) (PastReceiveLimit (left_of b.receive_left)) _ _
    (room_passes (room b) (room d) n (NoRoom (room b)) (NoRoom (room d)) (if nat_lt max_total (b.issued + n) then Some TotalReached else None) (omega (arith, le))))) e

-- the amounts of a client's frames are what they cost and absolve
send_uses : (d : Channel) (body : List ℕ) → cost d (Send d body ∷ []) + absolved d (Send d body ∷ []) ≡ length body
send_uses d body = let f : Frame = Send d body in omega (arith, cost-one f, absolved-one f)

absolve_uses : (d : Channel) (n : ℕ) → cost d (Absolve d n ∷ []) + absolved d (Absolve d n ∷ []) ≡ n
absolve_uses d n = let f : Frame = Absolve d n in omega (arith, cost-one f, absolved-one f)

limit_uses : (d : Channel) (n : ℕ) → cost d (LimitSending d n ∷ []) + absolved d (LimitSending d n ∷ []) ≡ 0
limit_uses d n = let f : Frame = LimitSending d n in omega (arith, cost-one f, absolved-one f)

finish_uses : (d : Channel) → cost d (Finish d ∷ []) + absolved d (Finish d ∷ []) ≡ 0
finish_uses d = let f : Frame = Finish d in omega (arith, cost-one f, absolved-one f)

more_used : (c d : Channel) (f : Frame) (fs : List Frame) (n : ℕ) → d ≡ c → cost d (f ∷ []) + absolved d (f ∷ []) ≡ n → n + (cost c fs + absolved c fs) ≡ cost c (f ∷ fs) + absolved c (f ∷ fs)
more_used c d f fs n same e =
    let here : cost c (f ∷ []) + absolved c (f ∷ []) ≡ n = subst (λ (x : Channel). cost x (f ∷ []) + absolved x (f ∷ []) ≡ n) same e in
    omega (arith, here, cost-append c (f ∷ []) fs, absolved-append c (f ∷ []) fs)

pub sums_to : (version : Version) (c : Channel) (before fs : List Frame) → IsHistoryAfter (MayPut version c) before fs → sum (amounts fs) ≡ cost c fs + absolved c fs
sums_to version c before [] h = refl
sums_to version c before (Send d body ∷ fs) h =
    let f : Frame = Send d body in
    omega (arith, sums_to version c (before ++ f ∷ []) fs h.1, sum_by-cons (λ n. n) (length body) (amounts fs), more_used c d f fs (length body) h.0.0 (send_uses d body))
sums_to version c before (Absolve d n ∷ fs) h =
    let f : Frame = Absolve d n in
    omega (arith, sums_to version c (before ++ f ∷ []) fs h.1, sum_by-cons (λ m. m) n (amounts fs), more_used c d f fs n h.0.0 (absolve_uses d n))
sums_to version c before (LimitSending d n ∷ fs) h =
    let f : Frame = LimitSending d n in
    omega (arith, sums_to version c (before ++ f ∷ []) fs h.1, more_used c d f fs 0 h.0.0 (limit_uses d n))
sums_to version c before (Finish d ∷ fs) h =
    let f : Frame = Finish d in
    omega (arith, sums_to version c (before ++ f ∷ []) fs h.1, more_used c d f fs 0 h.0.0 (finish_uses d))
sums_to version c before (Issue d n ∷ fs) h = absurd h.0.2
sums_to version c before (Plead d n ∷ fs) h = absurd h.0.2
sums_to version c before (LimitReceiving d n ∷ fs) h = absurd h.0.2

-- a frame of a lane, among those of the lane
equal_self : (n : ℕ) → (n == n) ≡ true
equal_self n = grind (arith, nat_tests)

lane_cut : (lane : ℕ) (frames before : List Frame) (f : Frame) (later : List Frame) → lane_of f ≡ lane → frames ≡ before ++ f ∷ later → of_lane lane frames ≡ of_lane lane before ++ f ∷ of_lane lane later
lane_cut lane frames before f later of is =
    let here : (lane_of f == lane) ≡ true = ap (λ (n : ℕ). n == lane) of ∙ equal_self lane in
    ap (of_lane lane) is
    ∙ (filter-append (λ (g : Frame). lane_of g == lane) before (f ∷ later)
    ∙ ap (λ (b : Bool). of_lane lane before ++ cond b (f ∷ of_lane lane later) (of_lane lane later)) here)

-- what the entries of a channel carry is what the steps do there
put_kept : (b : Bool) (f : Frame) (xs : List Entry) (fs : List Frame) → inboxes.put xs ≡ fs → inboxes.put (cons_option (if b then Some (Put f) else None) xs) ≡ (if b then f ∷ fs else fs)
put_kept true f xs fs e = ap (λ (gs : List Frame). f ∷ gs) e
put_kept false f xs fs e = e

heard_kept : (b : Bool) (f : Frame) (xs : List Entry) (fs : List Frame) → inboxes.heard xs ≡ fs → inboxes.heard (cons_option (if b then Some (Heard f) else None) xs) ≡ (if b then f ∷ fs else fs)
heard_kept true f xs fs e = ap (λ (gs : List Frame). f ∷ gs) e
heard_kept false f xs fs e = e

took_kept : (b : Bool) (body : List ℕ) (xs : List Entry) (ms : List (List ℕ)) → inboxes.took xs ≡ ms → inboxes.took (cons_option (if b then Some (Took body) else None) xs) ≡ cons_option (if b then Some body else None) ms
took_kept true body xs ms e = ap (λ (ns : List (List ℕ)). body ∷ ns) e
took_kept false body xs ms e = e

none_more : {X : Type 0} (of : Entry → Option X) (b : Bool) (e : Entry) (xs : List Entry) → of e ≡ None → filter_map of (cons_option (if b then Some e else None) xs) ≡ filter_map of xs
none_more of true e xs none = ap (λ o. cons_option o (filter_map of xs)) none
none_more of false e xs none = refl

entries_put : (c : Channel) (steps : List Step) → inboxes.put (entries c steps) ≡ of_lane (channel_count + number_of c) (put steps)
entries_put c [] = refl
entries_put c (puts f ∷ steps) = put_kept (lane_of f == channel_count + number_of c) f (entries c steps) (of_lane (channel_count + number_of c) (put steps)) (entries_put c steps)
entries_put c (hears f ∷ steps) = none_more inboxes.put_of (lane_of f == number_of c) (Heard f) (entries c steps) refl ∙ entries_put c steps
entries_put c (takes d body ∷ steps) = none_more inboxes.put_of (is_same c d) (Took body) (entries c steps) refl ∙ entries_put c steps

entries_heard : (c : Channel) (steps : List Step) → inboxes.heard (entries c steps) ≡ of_lane (number_of c) (heard steps)
entries_heard c [] = refl
entries_heard c (puts f ∷ steps) = none_more inboxes.heard_of (lane_of f == channel_count + number_of c) (Put f) (entries c steps) refl ∙ entries_heard c steps
entries_heard c (hears f ∷ steps) = heard_kept (lane_of f == number_of c) f (entries c steps) (of_lane (number_of c) (heard steps)) (entries_heard c steps)
entries_heard c (takes d body ∷ steps) = none_more inboxes.heard_of (is_same c d) (Took body) (entries c steps) refl ∙ entries_heard c steps

pub entries_took : (c : Channel) (steps : List Step) → inboxes.took (entries c steps) ≡ took c steps
entries_took c [] = refl
entries_took c (puts f ∷ steps) = none_more inboxes.took_of (lane_of f == channel_count + number_of c) (Put f) (entries c steps) refl ∙ entries_took c steps
entries_took c (hears f ∷ steps) = none_more inboxes.took_of (lane_of f == number_of c) (Heard f) (entries c steps) refl ∙ entries_took c steps
entries_took c (takes d body ∷ steps) = took_kept (is_same c d) body (entries c steps) (took c steps) (entries_took c steps)

-- so the book of an inbox is the side's
pub book_is : (key : Key) (c : Channel) (steps : List Step) → key.channel ≡ c → book_after key (entries c steps) ≡ server_then key.capacity c steps
book_is key c steps on =
    let p : SumsAreOfLanes c (put steps) = every_sum_is_of_its_lane c (put steps) in
    let h : SumsAreOfLanes c (heard steps) = every_sum_is_of_its_lane c (heard steps) in
    let taken : ℕ = sum_by length (took c steps) in
    ap (λ (d : Channel). server_of key.capacity d (inboxes.put (entries c steps)) (inboxes.heard (entries c steps)) (sum_by length (inboxes.took (entries c steps)))) on
    ∙ (ap (λ (fs : List Frame). server_of key.capacity c fs (inboxes.heard (entries c steps)) (sum_by length (inboxes.took (entries c steps)))) (entries_put c steps)
    ∙ (ap (λ (fs : List Frame). server_of key.capacity c (of_lane (channel_count + number_of c) (put steps)) fs (sum_by length (inboxes.took (entries c steps)))) (entries_heard c steps)
    ∙ (ap (λ (ms : List (List ℕ)). server_of key.capacity c (of_lane (channel_count + number_of c) (put steps)) (of_lane (number_of c) (heard steps)) (sum_by length ms)) (entries_took c steps)
    ∙ server_is (server_of key.capacity c (of_lane (channel_count + number_of c) (put steps)) (of_lane (number_of c) (heard steps)) taken) (server_then key.capacity c steps) refl p.issued_is h.cost_is refl h.absolved_is h.send_left_is p.receive_left_is h.finished_is)))

-- a refusal changes nothing
pub kept_lasting : {X : Type 0} (of : Entry → Option X) → ((f : Frame) → of (Refused f) ≡ None) → (history : List Entry) → filter_map of (without_refusals history) ≡ filter_map of history
kept_lasting of none [] = refl
kept_lasting of none (Heard f ∷ history) = ap (λ xs. cons_option (of (Heard f)) xs) (kept_lasting of none history)
kept_lasting of none (Refused f ∷ history) = kept_lasting of none history ∙ ap (λ o. cons_option o (filter_map of history)) (sym (none f))
kept_lasting of none (Put f ∷ history) = ap (λ xs. cons_option (of (Put f)) xs) (kept_lasting of none history)
kept_lasting of none (Took body ∷ history) = ap (λ xs. cons_option (of (Took body)) xs) (kept_lasting of none history)

pub took_lasting : (history : List Entry) → inboxes.took (without_refusals history) ≡ inboxes.took history
took_lasting history = kept_lasting inboxes.took_of (λ f. refl) history

heard_lasting : (history : List Entry) → inboxes.heard (without_refusals history) ≡ inboxes.heard history
heard_lasting history = kept_lasting inboxes.heard_of (λ f. refl) history

pub book_lasting : (key : Key) (history : List Entry) → book_after key (without_refusals history) ≡ book_after key history
book_lasting key history =
    ap (λ (fs : List Frame). server_of key.capacity key.channel fs (inboxes.heard (without_refusals history)) (sum_by length (inboxes.took (without_refusals history)))) (kept_lasting inboxes.put_of (λ f. refl) history)
    ∙ (ap (λ (fs : List Frame). server_of key.capacity key.channel (inboxes.put history) fs (sum_by length (inboxes.took (without_refusals history)))) (heard_lasting history)
    ∙ ap (λ (ms : List (List ℕ)). server_of key.capacity key.channel (inboxes.put history) (inboxes.heard history) (sum_by length ms)) (took_lasting history))

-- so without those that were refused a history is legal still
follows_lasting : (key : Key) (before : List Entry) (e : Entry) → inboxes.MayFollow key before e → inboxes.MayFollow key (without_refusals before) e
follows_lasting key before (Heard f) may = (may.0, ap (violation_of f) (book_lasting key before) ∙ may.1)
follows_lasting key before (Refused f) may = (may.0, (may.1.0, ap (violation_of f) (book_lasting key before) ∙ may.1.1))
follows_lasting key before (Put f) may = (may.0, ap (refusal_of f) (book_lasting key before) ∙ may.1)
follows_lasting key before (Took body) may =
    ap (λ (ts : List (List ℕ)). slice_get (drop (length ts) (messages key.channel (inboxes.heard (without_refusals before)))) 0) (took_lasting before)
    ∙ (ap (λ (fs : List Frame). slice_get (drop (length (inboxes.took before)) (messages key.channel fs)) 0) (heard_lasting before)
    ∙ may)

lasting_more : (before : List Entry) (e : Entry) → changes e ≡ true → without_refusals (before ++ e ∷ []) ≡ without_refusals before ++ e ∷ []
lasting_more before e lasts = filter-append changes before (e ∷ []) ∙ ap (λ (b : Bool). without_refusals before ++ cond b (e ∷ []) []) lasts

lasting_same : (before : List Entry) (f : Frame) → without_refusals (before ++ Refused f ∷ []) ≡ without_refusals before
lasting_same before f = filter-append changes before (Refused f ∷ []) ∙ append-nil (without_refusals before)

lasting_after : (key : Key) (before later : List Entry) → IsHistoryAfter (inboxes.MayFollow key) before later → IsHistoryAfter (inboxes.MayFollow key) (without_refusals before) (without_refusals later)
lasting_after key before [] h = tt
lasting_after key before (Heard f ∷ later) h =
    let e : Entry = Heard f in
    (follows_lasting key before e h.0, subst (λ (xs : List Entry). IsHistoryAfter (inboxes.MayFollow key) xs (without_refusals later)) (lasting_more before e refl) (lasting_after key (before ++ e ∷ []) later h.1))
lasting_after key before (Refused f ∷ later) h = subst (λ (xs : List Entry). IsHistoryAfter (inboxes.MayFollow key) xs (without_refusals later)) (lasting_same before f) (lasting_after key (before ++ Refused f ∷ []) later h.1)
lasting_after key before (Put f ∷ later) h =
    let e : Entry = Put f in
    (follows_lasting key before e h.0, subst (λ (xs : List Entry). IsHistoryAfter (inboxes.MayFollow key) xs (without_refusals later)) (lasting_more before e refl) (lasting_after key (before ++ e ∷ []) later h.1))
lasting_after key before (Took body ∷ later) h =
    let e : Entry = Took body in
    (follows_lasting key before e h.0, subst (λ (xs : List Entry). IsHistoryAfter (inboxes.MayFollow key) xs (without_refusals later)) (lasting_more before e refl) (lasting_after key (before ++ e ∷ []) later h.1))

-- what a step of a channel is there
here_if : (n : ℕ) {X : Type 0} (x : X) → (if n == n then Some x else None) ≡ Some x
here_if n x = ap (λ (b : Bool). if b then Some x else None) (equal_self n)

module _ (capacity : ℕ) (t : Trace) (k : KeepsRules capacity t) (steps : List Step) (o : IsOrderOf t steps) where
  -- at one step of a channel's inbox
  entry_may : (c : Channel) (before : List Step) (step : Step) (later : List Step) (e : Entry) → entry_of c step ≡ Some e → steps ≡ before ++ step ∷ later → inboxes.MayFollow (k.receiving c).key (entries c before) e
  entry_may c before step later e here is =
      let r : KeepsReceiving capacity c (t.inbox c) = k.receiving c in
      follows_each (inboxes.MayFollow r.key) (without_refusals (t.inbox c)) (entries c before) e (entries c later) (lasting_after r.key [] (t.inbox c) r.legal) (sym (o.inboxes c) ∙ cut_of (entry_of c) steps before step later e is here)

  server_may : (before : List Step) (f : Frame) (later : List Step) → lane_of f ≡ channel_count + number_of (channel_of f) → steps ≡ before ++ puts f ∷ later → refusal_of f (server_then (k.receiving (channel_of f)).key.capacity (channel_of f) before) ≡ None
  server_may before f later lane is =
      let c : Channel = channel_of f in
      let r : KeepsReceiving capacity c (t.inbox c) = k.receiving c in
      let here : entry_of c (puts f) ≡ Some (Put f) = ap (λ (n : ℕ). if n == channel_count + number_of c then Some (Put f) else None) lane ∙ here_if (channel_count + number_of c) (Put f) in
      let may : inboxes.MayFollow r.key (entries c before) (Put f) = entry_may c before (puts f) later (Put f) here is in
      ap (refusal_of f) (sym (book_is r.key c before r.channel_is)) ∙ may.1

  -- the frames of a channel's client, at one of them
  client_cut : (before : List Step) (f : Frame) (later : List Step) → lane_of f ≡ number_of (channel_of f) → steps ≡ before ++ puts f ∷ later → of_lane (number_of (channel_of f)) t.put ≡ of_lane (number_of (channel_of f)) (put before) ++ f ∷ of_lane (number_of (channel_of f)) (put later)
  client_cut before f later lane is = lane_cut (number_of (channel_of f)) t.put (put before) f (put later) lane (sym o.put ∙ cut_of put_of steps before (puts f) later f is refl)

  client_may : (before : List Step) (f : Frame) (later : List Step) → lane_of f ≡ number_of (channel_of f) → steps ≡ before ++ puts f ∷ later → MayPut t.version (channel_of f) (of_lane (number_of (channel_of f)) (put before)) f
  client_may before f later lane is =
      let c : Channel = channel_of f in
      follows_each (MayPut t.version c) (of_lane (number_of c) t.put) (of_lane (number_of c) (put before)) f (of_lane (number_of c) (put later)) (k.sending c).rules (client_cut before f later lane is)

  left_is : (c : Channel) (before : List Step) → send_left c (of_lane (number_of c) (put before)) ≡ send_left c (put before)
  left_is c before = (every_sum_is_of_its_lane c (put before)).send_left_is

  -- where a client's frame stands its channel is not finished
  is_open : (before : List Step) (f : Frame) (later : List Step) → lane_of f ≡ number_of (channel_of f) → steps ≡ before ++ puts f ∷ later → finished (channel_of f) (put before) ≡ false
  is_open before f later lane is = sym (every_sum_is_of_its_lane (channel_of f) (put before)).finished_is ∙ (client_may before f later lane is).1

  -- what it uses is held
  is_held : (before : List Step) (f : Frame) (n : ℕ) (later : List Step) → lane_of f ≡ number_of (channel_of f) → amount_of f ≡ Some n → IsFunded t before (channel_of f) → steps ≡ before ++ puts f ∷ later → n ≤ held (client_then t.version (channel_of f) before)
  is_held before f n later lane uses_it funded is =
      let c : Channel = channel_of f in
      let s : KeepsSending t.version c (t.credit c) (of_lane (number_of c) t.put) = k.sending c in
      let mine : List Frame = of_lane (number_of c) (put before) in
      let cut : of_lane (number_of c) t.put ≡ mine ++ f ∷ of_lane (number_of c) (put later) = client_cut before f later lane is in
      let rest : List ℕ = amounts (of_lane (number_of c) (put later)) in
      let used_is : uses (t.credit c) ≡ amounts mine ++ n ∷ (rest ++ option_to_list s.waived) =
      s.pays
      ∙ (ap (λ (xs : List ℕ). xs ++ option_to_list s.waived) (cut_of amount_of (of_lane (number_of c) t.put) mine f (of_lane (number_of c) (put later)) n cut uses_it)
      ∙ append_assoc (amounts mine) (n ∷ rest) (option_to_list s.waived)) in
      let paid : sum (amounts mine) + n ≤ slice_index_or (before_uses (t.credit c)) (length (amounts mine)) 0 = paid_at (t.credit c) (amounts mine) n (rest ++ option_to_list s.waived) s.legal used_is in
      let begun : IsHistory (MayPut t.version c) mine = begins_after (MayPut t.version c) [] mine (f ∷ of_lane (number_of c) (put later)) (subst (λ (fs : List Frame). IsHistory (MayPut t.version c) fs) cut s.rules) in
      let p : SumsAreOfLanes c (put before) = every_sum_is_of_its_lane c (put before) in
      omega (arith, paid, funded, sums_to t.version c [] mine begun, p.cost_is, p.absolved_is, open_holds (client_then t.version c before) (is_open before f later lane is))

  may_step : (before : List Step) (step : Step) (later : List Step) → IsInTime t before step → steps ≡ before ++ step ∷ later → MayStep capacity t.version before step
  may_step before (puts (Send d body)) later funded is =
      let f : Frame = Send d body in
      let may : MayPut t.version d (of_lane (number_of d) (put before)) f = client_may before f later refl is in
      let left : message_refusal t.version (send_left d (put before)) (length body) ≡ None = ap (λ (o : Option ℕ). message_refusal t.version o (length body)) (sym (left_is d before)) ∙ may.2 in
      message_passes (client_then t.version d before) (length body) (is_open before f later refl is) left (is_held before f (length body) later refl refl funded is)
  may_step before (puts (Absolve d n)) later funded is =
      let f : Frame = Absolve d n in
      let may : MayPut t.version d (of_lane (number_of d) (put before)) f = client_may before f later refl is in
      absolve_passes (client_then t.version d before) n (is_open before f later refl is) may.2.0 (is_held before f n later refl refl funded is)
  may_step before (puts (LimitSending d n)) later funded is =
      let f : Frame = LimitSending d n in
      let may : MayPut t.version d (of_lane (number_of d) (put before)) f = client_may before f later refl is in
      open_passes (finished d (put before)) _ (is_open before f later refl is) (ap (λ (o : Option ℕ). limit_refusal o n) (sym (left_is d before)) ∙ may.2)
  may_step before (puts (Finish d)) later funded is =
      let f : Frame = Finish d in
      let may : MayPut t.version d (of_lane (number_of d) (put before)) f = client_may before f later refl is in
      ap (λ (z : Bool). if z then finished_refusal_or (finished d (put before)) None else Some WrongVersion) may.2 ∙ open_passes (finished d (put before)) None (is_open before f later refl is) refl
  may_step before (puts (Issue d n)) later funded is = larger_issues (k.receiving d).key.capacity capacity d before n (k.receiving d).small (server_may before (Issue d n) later refl is)
  may_step before (puts (Plead d n)) later funded is = server_may before (Plead d n) later refl is
  may_step before (puts (LimitReceiving d n)) later funded is = server_may before (LimitReceiving d n) later refl is
  may_step before (hears f) later funded is = tt
  may_step before (takes d body) later funded is =
      let r : KeepsReceiving capacity d (t.inbox d) = k.receiving d in
      let may : inboxes.MayFollow r.key (entries d before) (Took body) = entry_may d before (takes d body) later (Took body) (here_if (number_of d) (Took body)) is in
      let heard_is : messages d (heard before) ≡ messages r.key.channel (inboxes.heard (entries d before)) =
      sym ((every_sum_is_of_its_lane d (heard before)).messages_are)
      ∙ (ap (messages d) (sym (entries_heard d before))
      ∙ ap (λ (x : Channel). messages x (inboxes.heard (entries d before))) (sym r.channel_is)) in
      ap (λ (ms : List (List ℕ)). slice_get (drop (length (took d before)) ms) 0) heard_is
      ∙ (ap (λ (ts : List (List ℕ)). slice_get (drop (length ts) (messages r.key.channel (inboxes.heard (entries d before)))) 0) (sym (entries_took d before))
      ∙ may)

  pub may_step_all : IsHistory (MayStep capacity t.version) steps
  may_step_all = history_by_cuts (MayStep capacity t.version) steps (λ before step later is. may_step before step later (follows_each (IsInTime t) steps before step later o.in_time is) is)
