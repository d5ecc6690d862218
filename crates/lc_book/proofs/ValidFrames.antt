-- The frames of accepted events are valid.
use Rattle.std.proofs.Common.{◌≡◌, ℕ, ◌≤◌, length, Bool, true, false, Option, Some, None, refl, arith}
use Rattle.std.proofs.lemmas.Bool.Decides.{nat_tests}
use Rattle.lc_frame.specs.declared.channel.Channel.{Channel}
use Rattle.lc_frame.specs.Kind.{has, max_body, max_amount, max_total}
use Rattle.lc_frame.specs.declared.kind.Kind.TheVariants as kinds
use Rattle.lc_book.specs.Client.{Client, IsClient, spend_refusal, absolve_refusal, amount_to_absolve, limit_sending_refusal, finish_refusal}
use Rattle.lc_book.specs.Server.{Server, IsServer, issue_refusal, plead_refusal, limit_receiving_refusal}
use Rattle.lc_book.specs.Sums.{PutsValidFrames, EveryBookPutsValidFrames}

sends_in_range : (b : Client) (n : ℕ) → spend_refusal b n ≡ None → (1 ≤ n) × (n ≤ max_body b.version)
sends_in_range b n e = grind (arith, nat_tests)

absolves_in_range : (b : Client) (n : ℕ) → IsClient b → absolve_refusal b n ≡ None → (1 ≤ n) × (n ≤ max_amount)
absolves_in_range b n sound e = grind (arith, nat_tests, sound.small)

honours_in_range : (b : Client) (asked : Option ℕ) (n : ℕ) → b.asked ≡ asked → IsClient b → amount_to_absolve b ≡ Some n → (1 ≤ n) × (n ≤ max_amount)
honours_in_range b None n is sound e = cc
honours_in_range b (Some target) n is sound e = let e' = rw is at e in grind (arith, nat_tests, sound.small)

sending_bounds_in_range : (b : Client) (bound : ℕ) → limit_sending_refusal b bound ≡ None → bound ≤ max_total
sending_bounds_in_range b bound e = grind (arith, nat_tests)

receiving_bounds_in_range : (b : Server) (bound : ℕ) → limit_receiving_refusal b bound ≡ None → bound ≤ max_total
receiving_bounds_in_range b bound e = grind (arith, nat_tests)

finishes_in : (b : Client) (known : Bool) → has b.version kinds.Finish ≡ known → finish_refusal b ≡ None → known ≡ true
finishes_in b true is e = refl
finishes_in b false is e = let e' = rw is at e in cc

issues_in_range : (b : Server) (n : ℕ) → IsServer b → issue_refusal b n ≡ None → (1 ≤ n) × (n ≤ max_amount)
issues_in_range b n sound e = grind (arith, nat_tests, sound.capacity.at_most)

pleads_in_range : (b : Server) (n : ℕ) → IsServer b → plead_refusal b n ≡ None → n ≤ max_amount
pleads_in_range b n sound e = grind (arith, nat_tests, sound.fits, sound.capacity.at_most)

valid_frames : (client : Client) (server : Server) (c : Channel) → IsClient client → IsServer server → PutsValidFrames client server c
valid_frames client server c client_sound server_sound = record {
  send = λ body e. (refl, sends_in_range client (length body) e);
  absolve = λ n e. (refl, absolves_in_range client n client_sound e);
  honour = λ n e. (refl, honours_in_range client client.asked n refl client_sound e);
  limit_sending = λ n e. (refl, (omega arith, sending_bounds_in_range client n e));
  finish = λ e. (finishes_in client (has client.version kinds.Finish) refl e, (omega arith, omega arith));
  issue = λ n e. (refl, issues_in_range server n server_sound e);
  plead = λ n e. (refl, (omega arith, pleads_in_range server n server_sound e));
  limit_receiving = λ n e. (refl, (omega arith, receiving_bounds_in_range server n e));
}

pub every_book_puts_valid_frames : EveryBookPutsValidFrames
every_book_puts_valid_frames client server c client_sound server_sound = valid_frames client server c client_sound server_sound
