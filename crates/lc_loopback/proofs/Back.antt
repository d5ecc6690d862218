-- The parts of a session that threads gave back, and what two sessions come to.
use Rattle.std.proofs.Common.{◌≡◌, ℕ, List, [], ◌∷◌, drop, take, map, Result, Ok, IfOk, Err, refl, sym, subst, ◌∙◌}
use Rattle.std.proofs.lemmas.List.Elements.{All-from_recursion}
use Rattle.std.specs.List.{AllZip, AllByRecursion}
use Rattle.lc_frame.specs.declared.version.Version.{Version}
use Rattle.lc_frame.specs.Channel.{channel_count}
use Rattle.lc_queue.specs.Parts.{new_ends}
use Rattle.lc_inbox.specs.Sides.{IsSameSide}
use Rattle.lc_outbox.specs.Outbox.{OutboxState, IsSameOutbox}
use Rattle.lc_session.specs.declared.report.Report.{Report}
use Rattle.lc_session.specs.Channels.{channels}
use Rattle.lc_session.specs.Heard.{HearsMore}
use Rattle.lc_session.specs.Reading.{Reading}
use Rattle.lc_session.specs.Played.{WasPlayed}
use Rattle.lc_session.specs.Pumping.{Pumping, IsSamePump}
use Rattle.lc_session.specs.Report.{SessionState, outgoing_of}
use Rattle.lc_interleaving.specs.Reports.{ArePlayedOut}
use Rattle.lc_loopback_report.specs.declared.fault.LoopFault.{LoopFault}
use Rattle.lc_loopback_report.specs.declared.report.LoopReport.{LoopReport}
use Rattle.lc_loopback.specs.declared.exchange.Exchange.{Exchange}
use Rattle.lc_loopback.specs.declared.plan.Plan.{Plan}
use Rattle.lc_loopback.specs.declared.sending.Sender.{Sender}
use Rattle.lc_loopback.specs.declared.taken.Taken.{Taken}
use Rattle.lc_loopback.specs.declared.taking.Taker.{Taker}
use Rattle.lc_loopback.specs.Ends.{sender_with, taker_with, end_of_sender, end_of_taker, IsSameSender, IsSameTaker, SenderGives, TakerGives}
use Rattle.lc_loopback.specs.Plan.{config_of}
use Rattle.lc_loopback.specs.Played.{Puts, TakesAll, EachGave, Exchanged, BeganNew, HasPut, HasTaken, IsReportOf, CameTo, AgreesWith}
use Rattle.lc_loopback.proofs.Takes.{TookOut, took_out}
use Rattle.lc_loopback.proofs.Puts.{new_put_none, each_put}

-- ---- ends that went with their jobs, and came back

-- a part that came back, and what its work came to
abbrev pub CameBack : {W : Type 0} → (W → W → Type 0) → (W → Taken → W → Type 0) → W → W × Result Taken LoopFault → Type 0
CameBack Same Gives old back = Same old back.0 × IfOk back.1 (λ n. Gives old n back.0)

-- all of them, place by place
pub each_same : {W : Type 0} (Same : W → W → Type 0) (Gives : W → Taken → W → Type 0) (olds : List W) (backs : List (W × Result Taken LoopFault)) → AllZip (CameBack Same Gives) olds backs → AllZip Same olds (map (λ b. b.0) backs)
each_same Same Gives [] [] all = tt
each_same Same Gives [] (b ∷ backs) all = absurd all
each_same Same Gives (w ∷ olds) [] all = absurd all
each_same Same Gives (w ∷ olds) (b ∷ backs) all = (all.0.0, each_same Same Gives olds backs all.1)

pub each_gave : {W : Type 0} (Same : W → W → Type 0) (Gives : W → Taken → W → Type 0) (olds : List W) (backs : List (W × Result Taken LoopFault)) → AllZip (CameBack Same Gives) olds backs → EachGave Gives olds (map (λ b. b.1) backs) (map (λ b. b.0) backs)
each_gave Same Gives [] [] all = tt
each_gave Same Gives [] (b ∷ backs) all = absurd all
each_gave Same Gives (w ∷ olds) [] all = absurd all
each_gave Same Gives (w ∷ olds) (b ∷ backs) all = (all.0.1, each_gave Same Gives olds backs all.1)

-- what is made of an element tells the element
pub all_told : {X Y : Type 0} (f : Y → X) (R : X → Y → Type 0) → ((x : X) (y : Y) → R x y → x ≡ f y) → (xs : List X) (ys : List Y) → AllZip R xs ys → xs ≡ map f ys
all_told f R tells [] [] all = refl
all_told f R tells [] (y ∷ ys) all = absurd all
all_told f R tells (x ∷ xs) [] all = absurd all
all_told f R tells (x ∷ xs) (y ∷ ys) all = (λ i. tells x y all.0 i ∷ all_told f R tells xs ys all.1 i)

zip_mapped : {E W : Type 0} (R : E → E → Type 0) (S : W → W → Type 0) (going : E → W) (back : W → E) → ((e : E) (w : W) → S (going e) w → R e (back w)) → (ends : List E) (ws : List W) → AllZip S (map going ends) ws → AllZip R ends (map back ws)
zip_mapped R S going back each [] [] all = tt
zip_mapped R S going back each [] (w ∷ ws) all = absurd all
zip_mapped R S going back each (e ∷ ends) [] all = absurd all
zip_mapped R S going back each (e ∷ ends) (w ∷ ws) all = (each e w all.0, zip_mapped R S going back each ends ws all.1)

if_ok : (o : Result Taken LoopFault) (P Q : Taken → Type 0) → ((n : Taken) → P n → Q n) → IfOk o P → IfOk o Q
if_ok (Ok n) P Q step h = step n h
if_ok (Err e) P Q step h = tt

gave_mapped : {E W : Type 0} (D : E → Taken → E → Type 0) (G : W → Taken → W → Type 0) (going : E → W) (back : W → E) → ((e : E) (n : Taken) (w : W) → G (going e) n w → D e n (back w)) → (ends : List E) (outcomes : List (Result Taken LoopFault)) (ws : List W) → EachGave G (map going ends) outcomes ws → EachGave D ends outcomes (map back ws)
gave_mapped D G going back each [] [] [] all = tt
gave_mapped D G going back each [] [] (w ∷ ws) all = absurd all
gave_mapped D G going back each [] (o ∷ outcomes) ws all = absurd all
gave_mapped D G going back each (e ∷ ends) [] ws all = absurd all
gave_mapped D G going back each (e ∷ ends) (o ∷ outcomes) [] all = absurd all
gave_mapped D G going back each (e ∷ ends) (o ∷ outcomes) (w ∷ ws) all = (if_ok o (λ n. G (going e) n w) (λ n. D e n (back w)) (λ n g. each e n w g) all.0, gave_mapped D G going back each ends outcomes ws all.1)

-- each part that went is one of the session, and what came back is the same part
pub exchanged : (x : Exchange) (old s : SessionState) (sent took sent' took' : List (Result Taken LoopFault)) (going_senders senders : List Sender) (going_takers takers : List Taker) (reading reading' : Reading) (writing writing' : Pumping)
    → s ≡ record { sending = map end_of_sender senders; receiving = map end_of_taker takers; reading = reading'; writing = writing' } → sent' ≡ sent → took' ≡ took
    → going_senders ≡ map (sender_with x) old.sending → going_takers ≡ map (taker_with x) old.receiving → reading ≡ old.reading → writing ≡ old.writing
    → AllZip IsSameSender going_senders senders → AllZip IsSameTaker going_takers takers → EachGave SenderGives going_senders sent senders → EachGave TakerGives going_takers took takers → HearsMore reading reading' → IsSamePump writing writing'
    → Exchanged x.plan old s sent' took'
exchanged x old s sent took sent' took' going_senders senders going_takers takers reading reading' writing writing' s_is sent_is took_is senders_are takers_are reading_is writing_is same_senders same_takers gave_senders gave_takers heard same_writing =
    let new : SessionState = record { sending = map end_of_sender senders; receiving = map end_of_taker takers; reading = reading'; writing = writing' } in
    let hears : HearsMore old.reading reading' = subst (λ (r : Reading). HearsMore r reading') reading_is heard in
    let zip_senders = subst (λ (xs : List Sender). AllZip IsSameSender xs senders) senders_are same_senders in
    let zip_takers = subst (λ (xs : List Taker). AllZip IsSameTaker xs takers) takers_are same_takers in
    let sent_all = subst (λ (xs : List Sender). EachGave SenderGives xs sent senders) senders_are gave_senders in
    let took_all = subst (λ (xs : List Taker). EachGave TakerGives xs took takers) takers_are gave_takers in
    let all : Exchanged x.plan old new sent took = record {
      played = record {
        same = record {
          sending = zip_mapped IsSameOutbox IsSameSender (sender_with x) end_of_sender (λ e w h. h) old.sending senders zip_senders;
          receiving = zip_mapped IsSameSide IsSameTaker (taker_with x) end_of_taker (λ e w h. h) old.receiving takers zip_takers;
          reading = hears.same;
          writing = subst (λ (p : Pumping). IsSamePump p writing') writing_is same_writing;
        };
        heard = hears;
      };
      sent_all = gave_mapped (Puts x.plan) SenderGives (sender_with x) end_of_sender (λ e n w h. h) old.sending sent senders sent_all;
      took_all = gave_mapped (TakesAll x.plan) TakerGives (taker_with x) end_of_taker (λ e n w h. h) old.receiving took takers took_all;
    } in
    subst (λ (p : SessionState × List (Result Taken LoopFault) × List (Result Taken LoopFault)). Exchanged x.plan old p.0 p.1 p.2) (λ i. (sym s_is i, sym sent_is i, sym took_is i)) all

-- ---- what one session comes to, where all its ends came to something

record CameOut (p : Plan) (s : SessionState) (took : List Taken) : Type 0 where
  puts : AllByRecursion (HasPut p) s.sending
  takes : TookOut p channel_count took s.receiving

came_out : (p : Plan) (version : Version) (s : SessionState) (sent_outcomes took_outcomes : List (Result Taken LoopFault)) (sent took : List Taken) → BeganNew p version s sent_outcomes took_outcomes → sent_outcomes ≡ map Ok sent → took_outcomes ≡ map Ok took → CameOut p s took
came_out p version s sent_outcomes took_outcomes sent took b sent_are took_are =
    let began = b.began in
    let same = b.exchanged.played.same in
    let ends = new_ends began.writing.drain.queue version in
    let none = subst (λ (os : List OutboxState). AllByRecursion (λ (o : OutboxState). o.lane.put ≡ []) os) (sym b.new.sending_new) (new_put_none channels (take channel_count ends) (outgoing_of began) (refl, (refl, (refl, (refl, (refl, (refl, (refl, tt)))))))) in
    record {
      puts = each_put p began.sending sent s.sending none same.sending (subst (λ (os : List (Result Taken LoopFault)). EachGave (Puts p) began.sending os s.sending) sent_are b.exchanged.sent_all);
      takes = took_out p (config_of p version).capacities (drop channel_count ends) began.reading.side.inboxes began.receiving took s.receiving b.new.inboxes_new same.receiving (subst (λ (os : List (Result Taken LoopFault)). EachGave (TakesAll p) began.receiving os s.receiving) took_are b.exchanged.took_all);
    }

abbrev pub was_played : (p : Plan) (version : Version) (s : SessionState) (sent took : List (Result Taken LoopFault)) → BeganNew p version s sent took → WasPlayed (config_of p version) s
was_played p version s sent took b = record { began = b.began; new = b.new; played = b.exchanged.played }

-- ---- and what two of them keep together
pub came_to : (p : Plan) (a_version b_version : Version) (s t : SessionState) (a_sent_outcomes a_took_outcomes b_sent_outcomes b_took_outcomes : List (Result Taken LoopFault)) (a_report b_report : Report) (a_sent b_sent a_took b_took : List Taken) (report : LoopReport)
    → BeganNew p a_version s a_sent_outcomes a_took_outcomes → BeganNew p b_version t b_sent_outcomes b_took_outcomes → ArePlayedOut s t a_report b_report
    → a_sent_outcomes ≡ map Ok a_sent → b_sent_outcomes ≡ map Ok b_sent → a_took_outcomes ≡ map Ok a_took → b_took_outcomes ≡ map Ok b_took
    → IsReportOf a_report.clients b_report.clients a_took b_took report → CameTo p a_version b_version s t report
came_to p a_version b_version s t a_sent_outcomes a_took_outcomes b_sent_outcomes b_took_outcomes a_report b_report a_sent b_sent a_took b_took report a b out a_sent_are b_sent_are a_took_are b_took_are is =
    let a_played = was_played p a_version s a_sent_outcomes a_took_outcomes a in
    let b_played = was_played p b_version t b_sent_outcomes b_took_outcomes b in
    let x = came_out p a_version s a_sent_outcomes a_took_outcomes a_sent a_took a a_sent_are a_took_are in
    let y = came_out p b_version t b_sent_outcomes b_took_outcomes b_sent b_took b b_sent_are b_took_are in
    record {
      a_played = a_played;
      b_played = b_played;
      a_report = a_report;
      b_report = b_report;
      together = out (config_of p a_version) (config_of p b_version) a_played b_played;
      a_put = All-from_recursion (HasPut p) s.sending x.puts;
      b_put = All-from_recursion (HasPut p) t.sending y.puts;
      a_took = All-from_recursion (HasTaken p) s.receiving x.takes.have;
      b_took = All-from_recursion (HasTaken p) t.receiving y.takes.have;
      messages_are = is.messages_are ∙ (λ i. y.takes.messages i ∷ x.takes.messages i ∷ []);
      bytes_are = is.bytes_are ∙ (λ i. y.takes.bytes i ∷ x.takes.bytes i ∷ []);
      all_came = is.messages_are ∙ (λ i. y.takes.counts i ∷ x.takes.counts i ∷ []);
      balanced_is = is.balanced_is;
      a_balances = subst (λ (ns : List ℕ). AllZip AgreesWith a_report.clients ns) y.takes.bytes is.a_balances;
      b_balances = subst (λ (ns : List ℕ). AllZip AgreesWith b_report.clients ns) x.takes.bytes is.b_balances;
    }
