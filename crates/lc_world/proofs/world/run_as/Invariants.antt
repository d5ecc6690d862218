use Rattle.std.proofs.Common.{◌≡◌, ◌≤◌, length, take}
use Rattle.std.specs.List.{zip}
use Rattle.std.specs.Prelude.{vec_len, vec_capacity}
use Rattle.lc_world.specs.State.{by_side, opening}
use Rattle.lc_world.specs.Histories.{IsLegal, after_all}
use Rattle.lc_world.proofs.world.run_as.Given as goal

-- the answers so far are legal, the world is where they leave it, and there are places for the rest
abbrev pub invariant-loop-event : goal.invariant-loop-event
invariant-loop-event l = record {
  count : vec_len l.answers ≡ l.event-index;
  places : length l.events ≤ vec_capacity l.answers;
  legal : IsLegal (opening l.fn.capacity (by_side l.fn.versions)) (zip (take l.event-index l.events) l.answers.items);
  state : l.world ≡ after_all (opening l.fn.capacity (by_side l.fn.versions)) (zip (take l.event-index l.events) l.answers.items);
}
