-- Every event keeps both directions of every channel sound and both streams within their limits.
use Rattle.std.proofs.Common.{◌≡◌, ℕ, zero, suc, ◌<◌, Bool, true, false, List, [], ◌∷◌, length, Option, Some, None, refl, sym, subst}
use Rattle.lc_frame.specs.declared.channel.Channel.{Channel}
use Rattle.lc_frame.specs.declared.frame.Frame.{Frame}
use Rattle.lc_frame.specs.Stream.{messages}
use Rattle.lc_book.specs.Server.{Server}
use Rattle.lc_world.specs.declared.event.Side.{Side}
use Rattle.lc_world.specs.declared.event.Side.TheVariants.{A, B}
use Rattle.lc_world.specs.declared.event.Act.{Act}
use Rattle.lc_world.specs.declared.event.Act.TheVariants.{Honour, Arrive, Deliver, Take}
use Rattle.lc_world.specs.declared.event.Answer.{Answer}
use Rattle.lc_world.specs.declared.event.Answer.TheVariants.{Absolved, NothingToAbsolve, Arrived, Delivered, Took}
use Rattle.lc_world.specs.State.{State, Versions, opening, Line, line, other, stream, taken_count, server_book, settled}
use Rattle.lc_world.specs.Answers.{frame_put, put_any, empty_or_ended, take_answer, waiting, IsAnswerOf, IsAnswer, mine_after, theirs_after, state_after, after}
use Rattle.lc_world.specs.Histories.{History, after_all, IsLegal}
use Rattle.lc_world.specs.Sound.{AllFit, Sound, IsSound}
use Rattle.lc_world.specs.Endpoint.{of_lines}
use Rattle.lc_world.proofs.Limits.{all_fit_push}
use Rattle.lc_world.proofs.Allowed.{MayPutAny, told, put_is_allowed, allowed_fits}
use Rattle.lc_world.proofs.Streams.{stream-put, stream-theirs}
use Rattle.lc_world.proofs.Sound.{sound_client_puts, sound_server_puts, sound_comes, sound_gets, sound_delivers, sound_delivers_theirs, sound_takes, sound_takes_theirs, sound_forgets, sound_forgets_theirs, sound_settles, sound_opening, waits}

-- a message that was taken was the first that waited
not_took : (finished : Bool) (left : Option ℕ) (body : List ℕ) → Took body ≡ empty_or_ended finished left → ⊥
not_took true left body e = cc
not_took false None body e = cc
not_took false (Some zero) body e = cc
not_took false (Some (suc n)) body e = cc

pub took_waiting : (book : Server) (bodies : List (List ℕ)) (body : List ℕ) → Took body ≡ take_answer book bodies → (rest : List (List ℕ)) × (bodies ≡ body ∷ rest)
took_waiting book [] body e = absurd (not_took book.finished book.send_left body e)
took_waiting book (b ∷ rest) body e = (rest, cc)

pub took_more : (book : Server) (c : Channel) (l : Line) (body : List ℕ) → Took body ≡ take_answer book (waiting c l) → taken_count c l < length (messages c l.arrived)
took_more book c l body e = let w = took_waiting book (waiting c l) body e in waits c l body w.0 w.1

-- what an event at the client does with the server's line
client_moves : (capacity : ℕ) (c : Channel) (mine new theirs : Line) (act : Act) (a : Answer) → Sound capacity c new theirs → Sound capacity c new (theirs_after mine theirs act a)
client_moves capacity c mine new theirs Arrive Arrived s = sound_gets capacity c new theirs s
client_moves capacity c mine new theirs (Deliver count) (Delivered bytes frames) s = sound_delivers_theirs capacity c count new theirs s
client_moves capacity c mine new theirs (Take d) (Took body) s = sound_takes_theirs capacity c d new theirs s
client_moves capacity c mine new theirs (Honour d) (Absolved n) s = sound_forgets_theirs capacity c d new theirs s
client_moves capacity c mine new theirs (Honour d) NothingToAbsolve s = sound_forgets_theirs capacity c d new theirs s
client_moves capacity c mine new theirs act a s = s

client_step : (capacity : ℕ) (c : Channel) (mine theirs : Line) (act : Act) (a : Answer) → IsAnswerOf capacity mine theirs act a → Sound capacity c mine theirs → Sound capacity c (mine_after mine theirs act a) (theirs_after mine theirs act a)
client_step capacity c mine theirs act a h s =
    client_moves capacity c mine (put_any mine (frame_put act a)) theirs act a (sound_client_puts capacity c mine theirs (frame_put act a) (put_is_allowed capacity mine theirs act a h) s)

-- and one at the server with the client's
server_moves : (capacity : ℕ) (c : Channel) (mine theirs new : Line) (act : Act) (a : Answer) → IsAnswerOf capacity theirs mine act a → Sound capacity c mine new → Sound capacity c (theirs_after theirs mine act a) new
server_moves capacity c mine theirs new Arrive Arrived h s = sound_comes capacity c mine new s
server_moves capacity c mine theirs new (Deliver count) (Delivered bytes frames) h s = sound_delivers capacity c count mine new s
server_moves capacity c mine theirs new (Take d) (Took body) h s = sound_takes capacity c d mine new (took_more (server_book capacity d theirs mine) d mine body (told _ _ _ h (λ e. cc))) s
server_moves capacity c mine theirs new (Honour d) (Absolved n) h s = sound_forgets capacity c d mine new s
server_moves capacity c mine theirs new (Honour d) NothingToAbsolve h s = sound_forgets capacity c d mine new s
server_moves capacity c mine theirs new act a h s = s

server_step : (capacity : ℕ) (c : Channel) (mine theirs : Line) (act : Act) (a : Answer) → IsAnswerOf capacity theirs mine act a → Sound capacity c mine theirs → Sound capacity c (theirs_after theirs mine act a) (mine_after theirs mine act a)
server_step capacity c mine theirs act a h s =
    server_moves capacity c mine theirs (put_any theirs (frame_put act a)) act a h (sound_server_puts capacity c mine theirs (frame_put act a) (put_is_allowed capacity theirs mine act a h) s)

sums_step : (w : State) (act : Act) (a : Answer) → IsAnswerOf w.capacity w.a w.b act a → IsSound w → (s : Side) (c : Channel) → (let new : State = of_lines w.capacity (mine_after w.a w.b act a) (theirs_after w.a w.b act a) in Sound w.capacity c (line new s) (line new (other s)))
sums_step w act a h g A c = client_step w.capacity c w.a w.b act a h (g.sums A c)
sums_step w act a h g B c = server_step w.capacity c w.b w.a act a h (g.sums B c)

-- the stream on which the event puts its frame, and the other
put_fits : (capacity : ℕ) (mine theirs : Line) (o : Option Frame) → MayPutAny capacity mine theirs o → AllFit [] (stream mine) → AllFit [] (stream (put_any mine o))
put_fits capacity mine theirs None may fits = fits
put_fits capacity mine theirs (Some f) may fits = subst (λ (fs : List Frame). AllFit [] fs) (sym (stream-put mine f)) (all_fit_push [] (stream mine) f fits (allowed_fits capacity mine theirs f may))

mine_fits : (capacity : ℕ) (mine theirs : Line) (act : Act) (a : Answer) → IsAnswerOf capacity mine theirs act a → AllFit [] (stream mine) → AllFit [] (stream (mine_after mine theirs act a))
mine_fits capacity mine theirs act a h fits = put_fits capacity mine theirs (frame_put act a) (put_is_allowed capacity mine theirs act a h) fits

theirs_fits : (mine theirs : Line) (act : Act) (a : Answer) → AllFit [] (stream theirs) → AllFit [] (stream (theirs_after mine theirs act a))
theirs_fits mine theirs act a fits = subst (λ (fs : List Frame). AllFit [] fs) (sym (stream-theirs mine theirs act a)) fits

limits_step : (w : State) (act : Act) (a : Answer) → IsAnswerOf w.capacity w.a w.b act a → IsSound w → (s : Side) → AllFit [] (stream (line (of_lines w.capacity (mine_after w.a w.b act a) (theirs_after w.a w.b act a)) s))
limits_step w act a h g A = mine_fits w.capacity w.a w.b act a h (g.limits A)
limits_step w act a h g B = theirs_fits w.a w.b act a (g.limits B)

-- the two lines that an event at side A leaves, before pleads are forgotten
pub sound_lines : (w : State) (act : Act) (a : Answer) → IsAnswerOf w.capacity w.a w.b act a → IsSound w → IsSound (of_lines w.capacity (mine_after w.a w.b act a) (theirs_after w.a w.b act a))
sound_lines w act a h g = record { sums = sums_step w act a h g; limits = limits_step w act a h g }

-- what is sound of two lines is so of the other side's view
turned_sums : (w : State) → IsSound w → (s : Side) (c : Channel) → (let new : State = of_lines w.capacity w.b w.a in Sound w.capacity c (line new s) (line new (other s)))
turned_sums w g A c = g.sums B c
turned_sums w g B c = g.sums A c

turned_limits : (w : State) → IsSound w → (s : Side) → AllFit [] (stream (line (of_lines w.capacity w.b w.a) s))
turned_limits w g A = g.limits B
turned_limits w g B = g.limits A

pub sound_turned : (w : State) → IsSound w → IsSound (of_lines w.capacity w.b w.a)
sound_turned w g = record { sums = turned_sums w g; limits = turned_limits w g }

-- and of lines of which pleads were forgotten
settled_sums : (w : State) → IsSound w → (s : Side) (c : Channel) → (let new : State = settled w.capacity w.a w.b in Sound w.capacity c (line new s) (line new (other s)))
settled_sums w g A c = sound_settles w.capacity c w.a w.b w.b w.a (g.sums A c)
settled_sums w g B c = sound_settles w.capacity c w.b w.a w.a w.b (g.sums B c)

settled_limits : (w : State) → IsSound w → (s : Side) → AllFit [] (stream (line (settled w.capacity w.a w.b) s))
settled_limits w g A = g.limits A
settled_limits w g B = g.limits B

pub sound_settled : (w : State) → IsSound w → IsSound (settled w.capacity w.a w.b)
sound_settled w g = record { sums = settled_sums w g; limits = settled_limits w g }

pub sound_step : (w : State) (side : Side) (act : Act) (a : Answer) → IsAnswer w (record { side = side; act = act }) a → IsSound w → IsSound (state_after w side act a)
sound_step w A act a h g = sound_settled (of_lines w.capacity (mine_after w.a w.b act a) (theirs_after w.a w.b act a)) (sound_lines w act a h g)
sound_step w B act a h g =
    let v : State = of_lines w.capacity w.b w.a in
    sound_settled (of_lines w.capacity (theirs_after w.b w.a act a) (mine_after w.b w.a act a)) (sound_turned (of_lines w.capacity (mine_after w.b w.a act a) (theirs_after w.b w.a act a)) (sound_lines v act a h (sound_turned w g)))

-- over a whole history
pub sound_all : (w : State) (history : History) → IsLegal w history → IsSound w → IsSound (after_all w history)
sound_all w [] h g = g
sound_all w (p ∷ history) h g = sound_all (after w p.0 p.1) history h.1 (sound_step w p.0.side p.0.act p.1 h.0 g)

sums_opening : (capacity : ℕ) (versions : Versions) (s : Side) (c : Channel) → Sound capacity c (line (opening capacity versions) s) (line (opening capacity versions) (other s))
sums_opening capacity versions A c = sound_opening capacity (versions A) (versions B) c
sums_opening capacity versions B c = sound_opening capacity (versions B) (versions A) c

limits_opening : (capacity : ℕ) (versions : Versions) (s : Side) → AllFit [] (stream (line (opening capacity versions) s))
limits_opening capacity versions A = tt
limits_opening capacity versions B = tt

pub sound_opened : (capacity : ℕ) (versions : Versions) → IsSound (opening capacity versions)
sound_opened capacity versions = record { sums = sums_opening capacity versions; limits = limits_opening capacity versions }

-- no event changes the capacity
pub same_capacity : (w : State) (side : Side) (act : Act) (a : Answer) → (state_after w side act a).capacity ≡ w.capacity
same_capacity w A act a = refl
same_capacity w B act a = refl
